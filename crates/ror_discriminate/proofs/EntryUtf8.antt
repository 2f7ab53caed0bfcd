-- The text of an entry is UTF-8.
use Rattle.std.proofs.Common.{ℕ, List, [], ◌∷◌, ◌++◌, map, refl, arith, ℤ}
use Rattle.std.specs.Prelude.{codes}
use Rattle.std.specs.Fmt.{decimal, signed_decimal}
use Rattle.std.specs.Str.{IsUtf8}
use Rattle.std.proofs.lemmas.Str.{IsUtf8-append}
use Rattle.ror_text.specs.SpacedLines.{line_text}
use Rattle.ror_text.proofs.Everywhere.{all-append}
use Rattle.ror_system.specs.System.{IsNarrow}
use Rattle.ror_pivot.specs.declared.optimum.ClimbPlace.{ClimbPlace}
use Rattle.ror_pivot.specs.declared.optimum.ClimbPlace.TheVariants as climbs
use Rattle.ror_pivot.specs.declared.optimum.Optimum.{Optimum}
use Rattle.ror_proof.specs.Text.{solution_words, multipliers_words}
use Rattle.ror_proof.proofs.Utf8Lemmas.{ascii_is_utf8, line_text_is_utf8, decimal_is_utf8, signed_is_utf8, numbers_are_texts, multipliers_are_texts, place_are_texts, AreTexts}
use Rattle.ror_report.specs.Desk.{desk_text}
use Rattle.ror_report.proofs.DeskLemmas.{desk_is_utf8}
use Rattle.ror_discriminate.specs.declared.entry.Entry.{Entry}
use Rattle.ror_discriminate.specs.declared.entry.EntryBody.{EntryBody}
use Rattle.ror_discriminate.specs.declared.entry.EntryBody.TheVariants as bodies
use Rattle.ror_discriminate.specs.Text.{margin_text, text_of, place_words, climb_place_words, step_word, path_words, body_text, entry_text, IsSmall, IsSmallClimbPlace, IsSmallPath, IsPrintableBody, IsPrintableEntry}

-- ---- numbers

small_is_utf8 : (n : ℕ) → IsSmall n → IsUtf8 (decimal n)
small_is_utf8 n small = decimal_is_utf8 n (omega (arith, small))

-- ---- optima

margin_is_utf8 : (m t : ℤ) → IsNarrow m → IsNarrow t → IsUtf8 (margin_text m t)
margin_is_utf8 m t first second = line_text_is_utf8 (codes "margin" ∷ signed_decimal m ∷ signed_decimal t ∷ []) (ascii_is_utf8 (codes "margin") refl, (signed_is_utf8 m first, (signed_is_utf8 t second, tt)))

best_is_utf8 : (m t : ℤ) (x : Optimum) → IsPrintableBody (bodies.Best m t x) → IsUtf8 (body_text (bodies.Best m t x))
best_is_utf8 m t x printable =
    let solution = line_text (solution_words x.solution.steps) in
    let multipliers = line_text (multipliers_words x.multipliers.weak x.multipliers.strict) in
    let later = IsUtf8-append solution multipliers (line_text_is_utf8 (solution_words x.solution.steps) (ascii_is_utf8 (codes "solution") refl, numbers_are_texts x.solution.steps printable.2.0)) (line_text_is_utf8 (multipliers_words x.multipliers.weak x.multipliers.strict) (multipliers_are_texts x.multipliers printable.2.1)) in
    IsUtf8-append (margin_text m t) (solution ++ multipliers) (margin_is_utf8 m t printable.0 printable.1) later

-- ---- notes

one_number : (word : List ℕ) (n : ℕ) → IsUtf8 word → IsSmall n → AreTexts (word ∷ decimal n ∷ [])
one_number word n text small = (text, (small_is_utf8 n small, tt))

two_numbers : (word : List ℕ) (m n : ℕ) → IsUtf8 word → IsSmall m → IsSmall n → AreTexts (word ∷ decimal m ∷ decimal n ∷ [])
two_numbers word m n text first second = (text, (small_is_utf8 m first, (small_is_utf8 n second, tt)))

climb_place_are_texts : (p : ClimbPlace) → IsSmallClimbPlace p → AreTexts (climb_place_words p)
climb_place_are_texts (climbs.Start row column) small = two_numbers (codes "start") row column (ascii_is_utf8 (codes "start") refl) small.0 small.1
climb_place_are_texts (climbs.Step row column) small = two_numbers (codes "step") row column (ascii_is_utf8 (codes "step") refl) small.0 small.1
climb_place_are_texts (climbs.Denominator row) small = one_number (codes "denominator") row (ascii_is_utf8 (codes "denominator") refl) small
climb_place_are_texts (climbs.RowSum row) small = one_number (codes "rowsum") row (ascii_is_utf8 (codes "rowsum") refl) small
climb_place_are_texts climbs.Total small = (ascii_is_utf8 (codes "total") refl, tt)
climb_place_are_texts (climbs.Scale column) small = one_number (codes "scale") column (ascii_is_utf8 (codes "scale") refl) small
climb_place_are_texts (climbs.ColumnSum column) small = one_number (codes "columnsum") column (ascii_is_utf8 (codes "columnsum") refl) small

steps_are_texts : (path : List (ℕ × ℕ)) → IsSmallPath path → AreTexts (map step_word path)
steps_are_texts [] small = tt
steps_are_texts (step ∷ path) small =
    (IsUtf8-append (decimal step.0) (58 ∷ decimal step.1) (small_is_utf8 step.0 small.0.0) (IsUtf8-append (58 ∷ []) (decimal step.1) (ascii_is_utf8 (58 ∷ []) refl) (small_is_utf8 step.1 small.0.1)), steps_are_texts path small.1)

note_is_utf8 : (path : List ℕ) (place : List (List ℕ)) (steps : List (ℕ × ℕ)) → IsUtf8 path → AreTexts place → IsSmallPath steps → IsUtf8 (line_text (codes "wide" ∷ path ∷ (place ++ path_words steps)))
note_is_utf8 path place steps named are small =
    line_text_is_utf8 (codes "wide" ∷ path ∷ (place ++ path_words steps)) (ascii_is_utf8 (codes "wide") refl, (named, all-append IsUtf8 place (path_words steps) are (ascii_is_utf8 (codes "path") refl, steps_are_texts steps small)))

-- ---- entries

body_is_utf8 : (body : EntryBody) → IsPrintableBody body → IsUtf8 (body_text body)
body_is_utf8 (bodies.Best m t x) printable = best_is_utf8 m t x printable
body_is_utf8 bodies.NoStrictRow printable = line_text_is_utf8 (codes "none" ∷ []) (ascii_is_utf8 (codes "none") refl, tt)
body_is_utf8 (bodies.Contradiction m) printable = line_text_is_utf8 (codes "contradiction" ∷ multipliers_words m.weak m.strict) (ascii_is_utf8 (codes "contradiction") refl, multipliers_are_texts m printable)
body_is_utf8 (bodies.BaseWide note) printable = note_is_utf8 (codes "base") (place_words note.place) note.path (ascii_is_utf8 (codes "base") refl) (place_are_texts (text_of note.place) printable.0) printable.1
body_is_utf8 (bodies.ClimbWide note) printable = note_is_utf8 (codes "climb") (climb_place_words note.place) note.path (ascii_is_utf8 (codes "climb") refl) (climb_place_are_texts note.place printable.0) printable.1

pub entry_text_is_utf8 : (x : Entry) → IsPrintableEntry x → IsUtf8 (entry_text x)
unfolding entry_text
entry_text_is_utf8 x printable = IsUtf8-append (desk_text x.desk) (body_text x.body) (desk_is_utf8 x.desk printable.named) (body_is_utf8 x.body printable.body)
