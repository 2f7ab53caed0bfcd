-- The text of an entry is UTF-8.
use Rattle.std.proofs.Common.{ℕ, ◌<◌, [], ◌∷◌, ◌++◌, length, refl}
use Rattle.std.specs.Prelude.{codes}
use Rattle.std.specs.List.{flat_map}
use Rattle.std.specs.Str.{IsUtf8}
use Rattle.std.proofs.lemmas.Str.{IsUtf8-append}
use Rattle.ror_text.proofs.IdLemmas.{IsId-form}
use Rattle.ror_table.specs.Table.{DecisionTable, IsTable, id_of}
use Rattle.ror_table.proofs.NameLemmas.{id_of_is_id}
use Rattle.ror_proof.specs.Text.{answer_text}
use Rattle.ror_proof.proofs.Utf8Lemmas.{ascii_is_utf8, line_text_is_utf8}
use Rattle.ror_report.proofs.Utf8Lemmas.{answers_are_utf8}
use Rattle.ror_group.specs.declared.entry.Entry.{Entry}
use Rattle.ror_group.specs.declared.quartet.Quartet.{Quartet}
use Rattle.ror_group.specs.declared.quartet.Word4.{Word4}
use Rattle.ror_group.specs.declared.quartet.Word4.TheVariants as words
use Rattle.ror_group.specs.Text.{group_word, pair_text, group_text, entry_text, IsPrintableEntry}

word_is_utf8 : (word : Word4) → IsUtf8 (group_word word)
word_is_utf8 words.Yes = ascii_is_utf8 (group_word words.Yes) refl
word_is_utf8 words.No = ascii_is_utf8 (group_word words.No) refl
word_is_utf8 words.Contradiction = ascii_is_utf8 (group_word words.Contradiction) refl
word_is_utf8 words.Wide = ascii_is_utf8 (group_word words.Wide) refl

pair_is_utf8 : (t : DecisionTable) (a b : ℕ) → IsTable t → a < length t.alternatives → b < length t.alternatives → IsUtf8 (pair_text t a b)
pair_is_utf8 t a b table first second =
    line_text_is_utf8 (codes "pair" ∷ id_of t a ∷ id_of t b ∷ []) (ascii_is_utf8 (codes "pair") refl, ((IsId-form (id_of t a) (id_of_is_id t a table first)).utf8, ((IsId-form (id_of t b) (id_of_is_id t b table second)).utf8, tt)))

group_is_utf8 : (q : Quartet) → IsUtf8 (group_text q)
group_is_utf8 q =
    line_text_is_utf8 _ (ascii_is_utf8 (codes "group") refl, (word_is_utf8 q.necessary_for_every, (word_is_utf8 q.necessary_for_some, (word_is_utf8 q.possible_for_every, (word_is_utf8 q.possible_for_some, tt)))))

pub entry_text_is_utf8 : (t : DecisionTable) (x : Entry) → IsTable t → IsPrintableEntry t x → IsUtf8 (entry_text t x)
unfolding entry_text
entry_text_is_utf8 t x table printable =
    IsUtf8-append (pair_text t x.first x.second) (flat_map (answer_text t) x.answers ++ group_text x.quartet) (pair_is_utf8 t x.first x.second table printable.first printable.second)
    (IsUtf8-append (flat_map (answer_text t) x.answers) (group_text x.quartet) (answers_are_utf8 t x.answers table printable.answers) (group_is_utf8 x.quartet))
