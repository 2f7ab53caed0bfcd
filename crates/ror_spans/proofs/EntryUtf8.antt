-- The text of an entry, and the first line of a report, are UTF-8.
use Rattle.std.proofs.Common.{ℕ, ◌<◌, ◌^◌, List, [], ◌∷◌, length, refl, arith}
use Rattle.std.specs.Prelude.{codes}
use Rattle.std.specs.Fmt.{decimal}
use Rattle.std.specs.List.{AllByRecursion, flat_map}
use Rattle.std.specs.Str.{IsUtf8}
use Rattle.std.proofs.lemmas.Str.{IsUtf8-append, IsUtf8-nil}
use Rattle.ror_text.specs.SpacedLines.{line_text}
use Rattle.ror_text.proofs.IdLemmas.{IsId-form}
use Rattle.ror_table.specs.Table.{DecisionTable, IsTable, id_of}
use Rattle.ror_table.proofs.NameLemmas.{id_of_is_id}
use Rattle.ror_proof.specs.Text.{answer_text}
use Rattle.ror_proof.proofs.Utf8Lemmas.{ascii_is_utf8, decimal_is_utf8, line_text_is_utf8, answer_text_is_utf8}
use Rattle.ror_confidence.specs.declared.span.LevelAnswer.{LevelAnswer}
use Rattle.ror_confidence.specs.declared.span.Span.{Span}
use Rattle.ror_spans.specs.declared.entry.Entry.{Entry}
use Rattle.ror_spans.specs.declared.entry.Entry.TheVariants as entries
use Rattle.ror_spans.specs.declared.entry.Form.TheVariants as forms
use Rattle.ror_spans.specs.Text.{header_text, form_word, known_text, wide_text, level_answer_text, entry_text, IsPrintableAt, IsPrintableSpan, IsPrintableEntry}

number_is_utf8 : (n : ℕ) → n < 2 ^ 32 → IsUtf8 (decimal n)
number_is_utf8 n small = decimal_is_utf8 n (omega (arith, small))

id_is_utf8 : (t : DecisionTable) (a : ℕ) → IsTable t → a < length t.alternatives → IsUtf8 (id_of t a)
id_is_utf8 t a table within = (IsId-form (id_of t a) (id_of_is_id t a table within)).utf8

level_answer_is_utf8 : (t : DecisionTable) (x : LevelAnswer) → IsTable t → IsPrintableAt t x → IsUtf8 (level_answer_text t x)
level_answer_is_utf8 t x table printable =
    IsUtf8-append (line_text (codes "level" ∷ decimal x.level ∷ [])) (answer_text t x.answer)
    (line_text_is_utf8 (codes "level" ∷ decimal x.level ∷ []) (ascii_is_utf8 (codes "level") refl, (number_is_utf8 x.level printable.0, tt)))
    (answer_text_is_utf8 t x.answer table printable.1)

answers_are_utf8 : (t : DecisionTable) (xs : List LevelAnswer) → IsTable t → AllByRecursion (IsPrintableAt t) xs → IsUtf8 (flat_map (level_answer_text t) xs)
answers_are_utf8 t [] table printable = IsUtf8-nil
answers_are_utf8 t (x ∷ xs) table printable =
    IsUtf8-append (level_answer_text t x) (flat_map (level_answer_text t) xs) (level_answer_is_utf8 t x table printable.0) (answers_are_utf8 t xs table printable.1)

known_is_utf8 : (t : DecisionTable) (a b : ℕ) (x : Span) → IsTable t → a < length t.alternatives → b < length t.alternatives → IsPrintableSpan t x → IsUtf8 (known_text t a b x)
known_is_utf8 t a b x table first second printable =
    line_text_is_utf8 _ (ascii_is_utf8 (codes "pair") refl, (id_is_utf8 t a table first, (id_is_utf8 t b table second, (ascii_is_utf8 (form_word forms.Known) refl, (number_is_utf8 x.contradictory printable.contradictory, (ascii_is_utf8 (codes "necessary") refl, (number_is_utf8 x.necessary printable.necessary, (ascii_is_utf8 (codes "possible") refl, (number_is_utf8 x.possible printable.possible, tt)))))))))

wide_is_utf8 : (t : DecisionTable) (a b level : ℕ) → IsTable t → a < length t.alternatives → b < length t.alternatives → level < 2 ^ 32 → IsUtf8 (wide_text t a b level)
wide_is_utf8 t a b level table first second small =
    line_text_is_utf8 _ (ascii_is_utf8 (codes "pair") refl, (id_is_utf8 t a table first, (id_is_utf8 t b table second, (ascii_is_utf8 (form_word forms.Wide) refl, (number_is_utf8 level small, tt)))))

pub entry_text_is_utf8 : (t : DecisionTable) (x : Entry) → IsTable t → IsPrintableEntry t x → IsUtf8 (entry_text t x)
unfolding entry_text
entry_text_is_utf8 t (entries.Known first second span) table printable =
    IsUtf8-append (known_text t first second span) (flat_map (level_answer_text t) span.proof) (known_is_utf8 t first second span table printable.0 printable.1 printable.2) (answers_are_utf8 t span.proof table printable.2.proof)
entry_text_is_utf8 t (entries.Wide first second found) table printable =
    IsUtf8-append (wide_text t first second found.level) (answer_text t found.answer) (wide_is_utf8 t first second found.level table printable.0 printable.1 printable.2.0) (answer_text_is_utf8 t found.answer table printable.2.1)

pub header_is_utf8 : IsUtf8 header_text
unfolding header_text
header_is_utf8 = line_text_is_utf8 (codes "ror-spans" ∷ codes "1" ∷ []) (ascii_is_utf8 (codes "ror-spans") refl, (ascii_is_utf8 (codes "1") refl, tt))
