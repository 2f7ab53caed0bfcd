-- Certificates and places as words, both ways: what was written is read again, and what is read was so written.
use Rattle.std.proofs.Common.{◌≡◌, ℕ, ◌<◌, ◌^◌, true, List, [], ◌∷◌, ◌++◌, map, Result, Ok, refl, sym, ap, subst, ◌∙◌, arith, inl, inr, ℤ}
use Rattle.std.specs.Prelude.{codes}
use Rattle.std.specs.Fmt.{decimal, signed_decimal}
use Rattle.std.specs.List.{AllByRecursion}
use Rattle.std.specs.Str.{bytes_eq}
use Rattle.std.proofs.lemmas.Bool.{cases_Bool, and_from, cond-true, cond-false}
use Rattle.std.proofs.lemmas.List.Folds.{list_all-append}
use Rattle.std.proofs.lemmas.Slice.Eq.{bytes_eq-Decides}
use Rattle.ror_text.specs.Reading.{◌>>=◌}
use Rattle.ror_text.specs.SpacedLines.{is_word, are_words}
use Rattle.ror_text.proofs.NumberLemmas.{is_word-decimal, is_word-signed_decimal}
use Rattle.ror_text.proofs.ReadingLemmas.{bind_ok}
use Rattle.ror_system.specs.System.{IsNarrow}
use Rattle.ror_system.specs.declared.accept.Multipliers.{Multipliers}
use Rattle.ror_proof.specs.declared.answer.Certificate.{Certificate}
use Rattle.ror_proof.specs.declared.answer.Certificate.TheVariants as certificates
use Rattle.ror_proof.specs.declared.answer.Pivot.{Pivot}
use Rattle.ror_proof.specs.declared.answer.PlaceText.{PlaceText}
use Rattle.ror_proof.specs.declared.answer.PlaceText.TheVariants as places
use Rattle.ror_proof.specs.declared.answer.WideText.{WideText}
use Rattle.ror_proof.specs.declared.names.PlaceName.{PlaceName}
use Rattle.ror_proof.specs.declared.names.PlaceName.TheVariants as named
use Rattle.ror_proof.specs.declared.read.ProofFault.{ProofFault}
use Rattle.ror_proof.specs.Names.{place_word, place_names}
use Rattle.ror_proof.specs.Text.{multipliers_words, certificate_words, place_words, place_numbers, pivot_word, AreNarrow, IsNarrowCertificate, IsPrintablePivot}
use Rattle.ror_proof.specs.Words.{after_word, name_at, small_number_at, numbers_at, numbers_before_bar, pivots_at, pivot_in}
use Rattle.ror_proof.specs.Reading.{solution_at, multipliers_at, refutation_at, certificate_at, entry_at, numbered_at, place_at, note_at}
use Rattle.ror_proof.proofs.WordLemmas.{done, ok_is, after_word_again, after_word_sound, name_again, name_sound, small_number_again, small_number_sound, all_again, all_sound, numbers_again, numbers_sound, before_bar_again, before_bar_sound}
use Rattle.ror_proof.proofs.PivotLemmas.{pivot_again, pivot_sound, pivot_is_word}

-- ---- certificates

pub numbers_are_words : (zs : List ℤ) → AllByRecursion IsNarrow zs → are_words (map signed_decimal zs) ≡ true
numbers_are_words [] narrow = refl
numbers_are_words (z ∷ zs) narrow = and_from _ _ (is_word-signed_decimal z (omega (arith, narrow.0))) (numbers_are_words zs narrow.1)

pub multipliers_are_words : (m : Multipliers) → AreNarrow m → are_words (multipliers_words m.weak m.strict) ≡ true
multipliers_are_words m narrow =
    list_all-append is_word (map signed_decimal m.weak) (codes "|" ∷ map signed_decimal m.strict) ∙ and_from _ _ (numbers_are_words m.weak narrow.0) (numbers_are_words m.strict narrow.1)

pub certificate_are_words : (c : Certificate) → IsNarrowCertificate c → are_words (certificate_words c) ≡ true
certificate_are_words (certificates.Solution x) narrow = numbers_are_words x.steps narrow
certificate_are_words (certificates.Multipliers m) narrow = multipliers_are_words m narrow

multipliers_again : (place : ℕ) (m : Multipliers) → AreNarrow m → multipliers_at place (map signed_decimal m.weak ++ codes "|" ∷ map signed_decimal m.strict) ≡ Ok m
unfolding multipliers_at
multipliers_again place m narrow = rw (before_bar_again place m.weak (map signed_decimal m.strict) narrow.0, numbers_again place m.strict narrow.1) refl

pub certificate_again : (place : ℕ) (c : Certificate) → IsNarrowCertificate c → certificate_at place (certificate_words c) ≡ Ok c
unfolding certificate_at solution_at
certificate_again place (certificates.Solution x) narrow = rw (numbers_again place x.steps narrow) refl
certificate_again place (certificates.Multipliers m) narrow = rw (multipliers_again place m narrow) refl

abbrev pub multipliers_read : List ℤ → List ℤ → Result Multipliers ProofFault
multipliers_read weak strict = Ok (record { weak = weak; strict = strict })

solution_sound : (place : ℕ) (words : List (List ℕ)) (c : Certificate) → solution_at place words ≡ Ok c → (codes "solution" ∷ words ≡ certificate_words c) × IsNarrowCertificate c
unfolding solution_at
solution_sound place words c e =
    let a = bind_ok (numbers_at place words) (λ steps. Ok (certificates.Solution (record { steps = steps }))) c e in
    let numbers = numbers_sound place words a.0 a.1 in
    subst (λ (d : Certificate). (codes "solution" ∷ words ≡ certificate_words d) × IsNarrowCertificate d) (ok_is (certificates.Solution (record { steps = a.0 })) c a.2) (ap (λ (ws : List (List ℕ)). codes "solution" ∷ ws) numbers.0, numbers.1)

multipliers_sound : (place : ℕ) (words : List (List ℕ)) (m : Multipliers) → multipliers_at place words ≡ Ok m → (codes "multipliers" ∷ words ≡ multipliers_words m.weak m.strict) × AreNarrow m
unfolding multipliers_at
multipliers_sound place words m e =
    let a = bind_ok (numbers_before_bar place words) (λ weak. numbers_at place weak.1 >>= λ strict. multipliers_read weak.0 strict) m e in
    let b = bind_ok (numbers_at place a.0.1) (λ strict. multipliers_read a.0.0 strict) m a.2 in
    let weak = before_bar_sound place words a.0 a.1 in
    let strict = numbers_sound place a.0.1 b.0 b.1 in
    let both : codes "multipliers" ∷ words ≡ multipliers_words a.0.0 b.0 = ap (λ (ws : List (List ℕ)). codes "multipliers" ∷ ws) (weak.0 ∙ ap (λ (ws : List (List ℕ)). map signed_decimal a.0.0 ++ codes "|" ∷ ws) strict.0) in
    subst (λ (n : Multipliers). (codes "multipliers" ∷ words ≡ multipliers_words n.weak n.strict) × AreNarrow n) (ok_is (record { weak = a.0.0; strict = b.0 }) m b.2) (both, (weak.1, strict.1))

pub refutation_again : (place : ℕ) (m : Multipliers) → AreNarrow m → refutation_at place (multipliers_words m.weak m.strict) ≡ Ok m
unfolding refutation_at
refutation_again place m narrow = rw (after_word_again place (codes "multipliers") (map signed_decimal m.weak ++ codes "|" ∷ map signed_decimal m.strict)) (multipliers_again place m narrow)

pub refutation_sound : (place : ℕ) (words : List (List ℕ)) (m : Multipliers) → refutation_at place words ≡ Ok m → (words ≡ multipliers_words m.weak m.strict) × AreNarrow m
unfolding refutation_at
refutation_sound place words m e =
    let a = bind_ok (after_word place (codes "multipliers") words) (λ numbers. multipliers_at place numbers) m e in
    let sound = multipliers_sound place a.0 m a.2 in
    (after_word_sound place (codes "multipliers") words a.0 a.1 ∙ sound.0, sound.1)

pub certificate_sound : (place : ℕ) (words : List (List ℕ)) (c : Certificate) → certificate_at place words ≡ Ok c → (words ≡ certificate_words c) × IsNarrowCertificate c
unfolding certificate_at
certificate_sound place [] c e = absurd cc
certificate_sound place (form ∷ words) c e =
    elim (cases_Bool (bytes_eq form (codes "solution"))) [
      | inl solution ↦
          let is : form ≡ codes "solution" = (bytes_eq-Decides form (codes "solution")).0 solution in
          let s = solution_sound place words c (sym (cond-true _ _ _ solution) ∙ e) in
          (ap (λ (w : List ℕ). w ∷ words) is ∙ s.0, s.1)
      | inr other ↦ let f = sym (cond-false _ _ _ other) ∙ e in
          elim (cases_Bool (bytes_eq form (codes "multipliers"))) [
            | inl multipliers ↦
                let is : form ≡ codes "multipliers" = (bytes_eq-Decides form (codes "multipliers")).0 multipliers in
                let a = bind_ok (multipliers_at place words) (λ m. done (certificates.Multipliers m)) c (sym (cond-true _ _ _ multipliers) ∙ f) in
                let s = multipliers_sound place words a.0 a.1 in
                let made : (form ∷ words ≡ certificate_words (certificates.Multipliers a.0)) × AreNarrow a.0 = (ap (λ (w : List ℕ). w ∷ words) is ∙ s.0, s.1) in
                subst (λ (d : Certificate). (form ∷ words ≡ certificate_words d) × IsNarrowCertificate d) (ok_is (certificates.Multipliers a.0) c a.2) made
            | inr neither ↦ absurd (let none = sym (cond-false _ _ _ neither) ∙ f in cc)
          ]
    ]

-- ---- places

abbrev pub AreSmall : PlaceText → Type 0
AreSmall place = AllByRecursion (λ n. n < 2 ^ 32) (place_numbers place)

pub entry_again : (place row column : ℕ) (more : List (List ℕ)) → row < 2 ^ 32 → column < 2 ^ 32 → entry_at place (decimal row ∷ decimal column ∷ more) ≡ Ok ((row, column), more)
unfolding entry_at
entry_again place row column more r c = rw (small_number_again place row (decimal column ∷ more) r, small_number_again place column more c) refl

abbrev entry_read : ℕ → ℕ × List (List ℕ) → Result ((ℕ × ℕ) × List (List ℕ)) ProofFault
entry_read row column = Ok ((row, column.0), column.1)

pub entry_sound : (place : ℕ) (words : List (List ℕ)) (x : (ℕ × ℕ) × List (List ℕ)) → entry_at place words ≡ Ok x → (words ≡ decimal x.0.0 ∷ decimal x.0.1 ∷ x.1) × ((x.0.0 < 2 ^ 32) × (x.0.1 < 2 ^ 32))
unfolding entry_at
entry_sound place words x e =
    let a = bind_ok (small_number_at place words) (λ row. small_number_at place row.1 >>= λ column. entry_read row.0 column) x e in
    let b = bind_ok (small_number_at place a.0.1) (λ column. entry_read a.0.0 column) x a.2 in
    let row = small_number_sound place words a.0 a.1 in
    let column = small_number_sound place a.0.1 b.0 b.1 in
    subst (λ (y : (ℕ × ℕ) × List (List ℕ)). (words ≡ decimal y.0.0 ∷ decimal y.0.1 ∷ y.1) × ((y.0.0 < 2 ^ 32) × (y.0.1 < 2 ^ 32))) (ok_is ((a.0.0, b.0.0), b.0.1) x b.2) (row.0 ∙ ap (λ (ws : List (List ℕ)). decimal a.0.0 ∷ ws) column.0, (row.1, column.1))

pub place_again : (place : ℕ) (p : PlaceText) (more : List (List ℕ)) → AreSmall p → place_at place (place_words p ++ more) ≡ Ok (p, more)
unfolding place_at
place_again place (places.Start row column) more small = rw (name_again place_word place_names place named.Start (decimal row ∷ decimal column ∷ more) refl, entry_again place row column more small.0 small.1.0) refl
place_again place (places.Step row column) more small = rw (name_again place_word place_names place named.Step (decimal row ∷ decimal column ∷ more) refl, entry_again place row column more small.0 small.1.0) refl
place_again place (places.Denominator row) more small = rw (name_again place_word place_names place named.Denominator (decimal row ∷ more) refl, small_number_again place row more small.0) refl
place_again place (places.RowSum row) more small = rw (name_again place_word place_names place named.RowSum (decimal row ∷ more) refl, small_number_again place row more small.0) refl
place_again place (places.ColumnSum column) more small = rw (name_again place_word place_names place named.ColumnSum (decimal column ∷ more) refl, small_number_again place column more small.0) refl

abbrev pub IsPlace : List (List ℕ) → PlaceText × List (List ℕ) → Type 0
IsPlace words x = (words ≡ place_words x.0 ++ x.1) × AreSmall x.0

numbered_sound : (place : ℕ) (name : PlaceName) (words : List (List ℕ)) (x : PlaceText × List (List ℕ)) → numbered_at place name words ≡ Ok x → IsPlace (place_word name ∷ words) x
numbered_sound place named.Start words x e =
    let a = bind_ok (entry_at place words) (λ entry. done (places.Start entry.0.0 entry.0.1, entry.1)) x e in
    let entry = entry_sound place words a.0 a.1 in
    subst (IsPlace (codes "start" ∷ words)) (ok_is (places.Start a.0.0.0 a.0.0.1, a.0.1) x a.2) (ap (λ (ws : List (List ℕ)). codes "start" ∷ ws) entry.0, (entry.1.0, (entry.1.1, tt)))
numbered_sound place named.Step words x e =
    let a = bind_ok (entry_at place words) (λ entry. done (places.Step entry.0.0 entry.0.1, entry.1)) x e in
    let entry = entry_sound place words a.0 a.1 in
    subst (IsPlace (codes "step" ∷ words)) (ok_is (places.Step a.0.0.0 a.0.0.1, a.0.1) x a.2) (ap (λ (ws : List (List ℕ)). codes "step" ∷ ws) entry.0, (entry.1.0, (entry.1.1, tt)))
numbered_sound place named.Denominator words x e =
    let a = bind_ok (small_number_at place words) (λ row. done (places.Denominator row.0, row.1)) x e in
    let row = small_number_sound place words a.0 a.1 in
    subst (IsPlace (codes "denominator" ∷ words)) (ok_is (places.Denominator a.0.0, a.0.1) x a.2) (ap (λ (ws : List (List ℕ)). codes "denominator" ∷ ws) row.0, (row.1, tt))
numbered_sound place named.RowSum words x e =
    let a = bind_ok (small_number_at place words) (λ row. done (places.RowSum row.0, row.1)) x e in
    let row = small_number_sound place words a.0 a.1 in
    subst (IsPlace (codes "rowsum" ∷ words)) (ok_is (places.RowSum a.0.0, a.0.1) x a.2) (ap (λ (ws : List (List ℕ)). codes "rowsum" ∷ ws) row.0, (row.1, tt))
numbered_sound place named.ColumnSum words x e =
    let a = bind_ok (small_number_at place words) (λ column. done (places.ColumnSum column.0, column.1)) x e in
    let column = small_number_sound place words a.0 a.1 in
    subst (IsPlace (codes "columnsum" ∷ words)) (ok_is (places.ColumnSum a.0.0, a.0.1) x a.2) (ap (λ (ws : List (List ℕ)). codes "columnsum" ∷ ws) column.0, (column.1, tt))

pub place_sound : (place : ℕ) (words : List (List ℕ)) (x : PlaceText × List (List ℕ)) → place_at place words ≡ Ok x → IsPlace words x
unfolding place_at
place_sound place words x e =
    let a = bind_ok (name_at place_word place_names place words) (λ name. numbered_at place name.0 name.1) x e in
    let name = name_sound place_word place_names place words a.0 a.1 in
    let sound = numbered_sound place a.0.0 a.0.1 x a.2 in
    (name ∙ sound.0, sound.1)

-- ---- notes

abbrev pub note_words : WideText → List (List ℕ)
note_words note = place_words note.place ++ codes "path" ∷ map pivot_word note.path

abbrev pub IsWritten : WideText → Type 0
IsWritten note = AreSmall note.place × AllByRecursion IsPrintablePivot note.path

pub note_again : (place : ℕ) (note : WideText) → IsWritten note → note_at place (note_words note) ≡ Ok note
unfolding note_at
note_again place note written =
    let path = map pivot_word note.path in
    rw (place_again place note.place (codes "path" ∷ path) written.0, after_word_again place (codes "path") path, all_again (pivot_in place) pivot_word IsPrintablePivot (pivot_again place) note.path written.1) refl

abbrev note_read : PlaceText → List Pivot → Result WideText ProofFault
note_read number path = Ok (record { path = path; place = number })

pub note_sound : (place : ℕ) (words : List (List ℕ)) (note : WideText) → note_at place words ≡ Ok note → (words ≡ note_words note) × IsWritten note
unfolding note_at
note_sound place words note e =
    let a = bind_ok (place_at place words) (λ number. after_word place (codes "path") number.1 >>= λ more. pivots_at place more >>= λ path. note_read number.0 path) note e in
    let b = bind_ok (after_word place (codes "path") a.0.1) (λ more. pivots_at place more >>= λ path. note_read a.0.0 path) note a.2 in
    let d = bind_ok (pivots_at place b.0) (λ path. note_read a.0.0 path) note b.2 in
    let number = place_sound place words a.0 a.1 in
    let word = after_word_sound place (codes "path") a.0.1 b.0 b.1 in
    let path = all_sound (pivot_in place) pivot_word IsPrintablePivot (pivot_sound place) b.0 d.0 d.1 in
    let made : WideText = record { path = d.0; place = a.0.0 } in
    let text : words ≡ note_words made = number.0 ∙ ap (λ (ws : List (List ℕ)). place_words a.0.0 ++ ws) (word ∙ ap (λ (ws : List (List ℕ)). codes "path" ∷ ws) path.0) in
    subst (λ (n : WideText). (words ≡ note_words n) × IsWritten n) (ok_is made note d.2) (text, (number.1, path.1))

-- ---- their words are words

pub small_numbers_are_words : (ns : List ℕ) → AllByRecursion (λ n. n < 2 ^ 32) ns → are_words (map decimal ns) ≡ true
small_numbers_are_words [] small = refl
small_numbers_are_words (n ∷ ns) small = and_from _ _ (is_word-decimal n (omega (arith, small.0))) (small_numbers_are_words ns small.1)

pub place_are_words : (p : PlaceText) → AreSmall p → are_words (place_words p) ≡ true
place_are_words (places.Start row column) small = small_numbers_are_words (row ∷ column ∷ []) small
place_are_words (places.Step row column) small = small_numbers_are_words (row ∷ column ∷ []) small
place_are_words (places.Denominator row) small = small_numbers_are_words (row ∷ []) small
place_are_words (places.RowSum row) small = small_numbers_are_words (row ∷ []) small
place_are_words (places.ColumnSum column) small = small_numbers_are_words (column ∷ []) small

pivots_are_words : (ps : List Pivot) → AllByRecursion IsPrintablePivot ps → are_words (map pivot_word ps) ≡ true
pivots_are_words [] printable = refl
pivots_are_words (p ∷ ps) printable = and_from _ _ (pivot_is_word p printable.0) (pivots_are_words ps printable.1)

pub note_are_words : (note : WideText) → IsWritten note → are_words (note_words note) ≡ true
note_are_words note written =
    list_all-append is_word (place_words note.place) (codes "path" ∷ map pivot_word note.path) ∙ and_from _ _ (place_are_words note.place written.0) (pivots_are_words note.path written.1)
