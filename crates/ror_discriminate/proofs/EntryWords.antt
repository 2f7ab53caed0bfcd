-- The first faulty word of a line of an entry: what each step of the reader says of it.
use Rattle.std.proofs.Common.{◌≡◌, ℕ, List, [], ◌∷◌, ◌++◌, length, map, drop, Option, Some, None, Result, Ok, Err, refl, sym, ap, subst, ◌∙◌, inl, inr, ℤ}
use Rattle.std.specs.Prelude.{codes}
use Rattle.ror_text.specs.Numbers.{number_of}
use Rattle.ror_text.specs.Reading.{◌>>=◌}
use Rattle.ror_text.proofs.ReadingLemmas.{bind_ok, bind_err}
use Rattle.ror_system.specs.declared.accept.Multipliers.{Multipliers}
use Rattle.ror_system.specs.declared.accept.Solution.{Solution}
use Rattle.ror_pivot.specs.declared.note.Place.{Place}
use Rattle.ror_pivot.specs.declared.optimum.ClimbPlace.{ClimbPlace}
use Rattle.ror_pivot.specs.declared.optimum.ClimbPlace.TheVariants as climbs
use Rattle.ror_table.specs.Table.{DecisionTable}
use Rattle.ror_proof.specs.declared.answer.PlaceText.{PlaceText}
use Rattle.ror_proof.specs.declared.read.ProofFault.{ProofFault}
use Rattle.ror_proof.specs.declared.read.ProofFault.TheVariants.{BadLine}
use Rattle.ror_proof.specs.Names.{name_of}
use Rattle.ror_proof.specs.Reading as certificates
use Rattle.ror_proof.specs.Reading.{entry_at, refutation_at}
use Rattle.ror_proof.specs.Words.{after_word, name_at, no_more, number_in, small_number_at, numbers_at, pivot_in}
use Rattle.ror_proof.specs.Expected.{Expected, IsFirstFaultyWord, AllStand, MayStand, fault_of_word, all_of, expected_numbers, expected_path, expected_note}
use Rattle.ror_proof.specs.Expected.Expected.{the_word, one_of, a_small_number, a_number, a_pivot, the_end}
use Rattle.ror_proof.proofs.WordFaults.{Steps, Ends, SaysOne, no_fault, nothing_read, then_ends, made_steps, made_ends, all_ends, word_then_ends, end_ends, number_one, pivot_one, refutation_ends}
use Rattle.ror_proof.proofs.QuestionFaults.{small_number_steps, name_steps, name_is, no_name, entry_steps, placed_ends}
use Rattle.ror_proof.proofs.WordLemmas.{done, ok_is}
use Rattle.ror_discriminate.specs.declared.entry.EntryBody.{EntryBody}
use Rattle.ror_discriminate.specs.declared.entry.EntryBody.TheVariants as bodies
use Rattle.ror_discriminate.specs.declared.names.PathName.{PathName}
use Rattle.ror_discriminate.specs.declared.names.PathName.TheVariants as paths
use Rattle.ror_discriminate.specs.declared.names.ClimbName.{ClimbName}
use Rattle.ror_discriminate.specs.declared.names.ClimbName.TheVariants as climbing
use Rattle.ror_discriminate.specs.EntryNames.{path_word, path_names, climb_word, climb_names}
use Rattle.ror_discriminate.specs.EntryFaults.{a_number_there, expected_margin, expected_refutation, expected_climb_place, expected_climbed, expected_climb_note, expected_note_of, expected_wide, expected_solution}
use Rattle.ror_discriminate.proofs.EntryLines.{base_made, climb_made}
use Rattle.ror_discriminate.specs.Reading.{number_at, step_in, steps_at, path_at, place_of, place_at, climbed_at, climb_place_at, noted_at, note_of, margin_words, solution_line_words, none_words, contradiction_words, wide_words}

-- ---- a number

abbrev failed : {A : Type 0} → ProofFault → Result A ProofFault
failed f = Err f

missing : {A : Type 0} (place : ℕ) (f : ProofFault) → failed {A = A} (BadLine place) ≡ Err f → f ≡ BadLine place
missing place f e = cc

none_read : {A : Type 0} (place : ℕ) (x : A) → failed {A = A} (BadLine place) ≡ Ok x → ⊥
none_read place x e = cc

number_steps : (t : DecisionTable) (place : ℕ) (words : List (List ℕ)) → Steps t place (number_at place words) (a_number_there words ∷ []) words
unfolding number_at
number_steps t place [] = record {
  fails = λ f rest e. (λ h. h, missing place f e);
  reads = λ x f rest e h. absurd (none_read place x e);
  stands = λ x rest e h. absurd (none_read place x e);
  left = λ x e. absurd (none_read place x e);
}
number_steps t place (word ∷ words) = record {
  fails = λ f rest e. elim (bind_err (number_in number_of place word) (λ x. done (x, words)) f e) [
    | inl here ↦ inl ((number_one t place).err word f here)
    | inr none ↦ absurd (no_fault _ f none.2)
  ];
  reads = λ x f rest e h.
      let a = bind_ok (number_in number_of place word) (λ x. done (x, words)) x e in
      inr ((number_one t place).ok word a.0 a.1, subst (λ z. IsFirstFaultyWord t rest z.1 place f) (sym (ok_is (a.0, words) x a.2)) h);
  stands = λ x rest e h.
      let a = bind_ok (number_in number_of place word) (λ x. done (x, words)) x e in
      ((number_one t place).ok word a.0 a.1, subst (λ z. AllStand t rest z.1) (sym (ok_is (a.0, words) x a.2)) h);
  left = λ x e.
      let a = bind_ok (number_in number_of place word) (λ x. done (x, words)) x e in
      ap (λ z. z.1) (sym (ok_is (a.0, words) x a.2));
}

-- ---- the lines of an optimum

abbrev margin_ended : ℕ → ℤ → ℤ × List (List ℕ) → Result (ℤ × ℤ) ProofFault
margin_ended place m total = no_more place total.1 >>= λ _. done (m, total.0)

abbrev after_margin : ℕ → ℤ × List (List ℕ) → Result (ℤ × ℤ) ProofFault
after_margin place margin = number_at place margin.1 >>= λ total. margin_ended place margin.0 total

two_numbers_end : (t : DecisionTable) (place : ℕ) (words : List (List ℕ)) → Ends t place (number_at place words >>= λ margin. after_margin place margin) (expected_margin words) words
two_numbers_end t place words =
    then_ends t place (number_at place words) (λ margin. after_margin place margin) (a_number_there words ∷ []) (a_number_there (drop 1 words) ∷ the_end ∷ []) words (number_steps t place words)
    (λ margin e.
    subst (λ (ws : List (List ℕ)). Ends t place (after_margin place margin) (a_number_there ws ∷ the_end ∷ []) margin.1) ((number_steps t place words).left margin e)
    (then_ends t place (number_at place margin.1) (λ total. margin_ended place margin.0 total) (a_number_there margin.1 ∷ []) (the_end ∷ []) margin.1 (number_steps t place margin.1)
    (λ total d. end_ends t place (margin.0, total.0) total.1)))

-- what is expected of the words behind the first one
pub behind : {Y : Type 0} (t : DecisionTable) (place : ℕ) (word : List ℕ) (reading : List (List ℕ) → Result Y ProofFault) (expected : List (List ℕ) → List Expected) (words : List (List ℕ))
    → ((more : List (List ℕ)) → Ends t place (reading more) (expected more) more) → Ends t place (after_word place word words >>= reading) (the_word word ∷ expected (drop 1 words)) words
behind t place word reading expected words ends =
    word_then_ends t place word reading (expected (drop 1 words)) words
    (λ more is. subst (λ (ws : List (List ℕ)). Ends t place (reading more) (expected ws) more) (ap (λ (ws : List (List ℕ)). drop 1 ws) (sym is)) (ends more))

pub margin_ends : (t : DecisionTable) (place : ℕ) (words : List (List ℕ)) → Ends t place (margin_words place words) (the_word (codes "margin") ∷ expected_margin (drop 1 words)) words
unfolding margin_words
margin_ends t place words = behind t place (codes "margin") (λ more. number_at place more >>= λ margin. after_margin place margin) expected_margin words (two_numbers_end t place)

abbrev solution_of : List ℤ → Solution
solution_of steps = record { steps = steps }

pub solution_ends : (t : DecisionTable) (place : ℕ) (words : List (List ℕ)) → Ends t place (solution_line_words place words) (expected_solution words) words
unfolding solution_line_words
solution_ends t place words =
    behind t place (codes "solution") (λ more. numbers_at place more >>= λ steps. done (solution_of steps)) expected_numbers words
    (λ more. made_ends t place (numbers_at place more) solution_of (expected_numbers more) more (all_ends t place (number_in number_of place) a_number more tt (number_one t place)))

-- ---- no strict row, and a contradiction

pub none_ends : (t : DecisionTable) (place : ℕ) (words : List (List ℕ)) → Ends t place (none_words place words) (the_word (codes "none") ∷ the_end ∷ []) words
unfolding none_words
none_ends t place words = behind t place (codes "none") (λ more. no_more place more >>= λ _. done bodies.NoStrictRow) (λ ws. the_end ∷ []) words (λ more. end_ends t place bodies.NoStrictRow more)

pub contradiction_ends : (t : DecisionTable) (place : ℕ) (words : List (List ℕ)) → Ends t place (contradiction_words place words) (the_word (codes "contradiction") ∷ expected_refutation (drop 1 words)) words
unfolding contradiction_words
contradiction_ends t place words =
    behind t place (codes "contradiction") (λ more. refutation_at place more >>= λ m. done (bodies.Contradiction m)) expected_refutation words
    (λ more. made_ends t place (refutation_at place more) (λ (m : Multipliers). bodies.Contradiction m) (expected_refutation more) more (refutation_ends t place more))

-- ---- paths

step_err : (t : DecisionTable) (place : ℕ) (word : List ℕ) (f : ProofFault) → step_in place word ≡ Err f → (MayStand t a_pivot word → ⊥) × (f ≡ fault_of_word a_pivot word place)
unfolding step_in
step_err t place word f e = elim (bind_err (pivot_in place word) (λ pivot. done (pivot.column, pivot.row)) f e) [
  | inl here ↦ (pivot_one t place).err word f here
  | inr none ↦ absurd (no_fault _ f none.2)
]

step_ok : (t : DecisionTable) (place : ℕ) (word : List ℕ) (step : ℕ × ℕ) → step_in place word ≡ Ok step → MayStand t a_pivot word
unfolding step_in
step_ok t place word step e =
    let a = bind_ok (pivot_in place word) (λ pivot. done (pivot.column, pivot.row)) step e in
    (pivot_one t place).ok word a.0 a.1

step_one : (t : DecisionTable) (place : ℕ) → SaysOne t place (step_in place) a_pivot
step_one t place = record { err = step_err t place; ok = step_ok t place }

path_ends : (t : DecisionTable) (place : ℕ) (words : List (List ℕ)) → Ends t place (path_at place words) (expected_path words) words
unfolding path_at
path_ends t place words = behind t place (codes "path") (λ more. steps_at place more) (λ ws. all_of a_pivot ws) words (λ more. all_ends t place (step_in place) a_pivot more tt (step_one t place))

-- ---- the numbers of a place

climbed_steps : (t : DecisionTable) (place : ℕ) (name : ClimbName) (words : List (List ℕ)) → Steps t place (climbed_at place name words) (expected_climb_place name) words
climbed_steps t place climbing.Start words = made_steps t place (entry_at place words) (λ (x : ℕ × ℕ). climbs.Start x.0 x.1) (a_small_number ∷ a_small_number ∷ []) words (entry_steps t place words)
climbed_steps t place climbing.Step words = made_steps t place (entry_at place words) (λ (x : ℕ × ℕ). climbs.Step x.0 x.1) (a_small_number ∷ a_small_number ∷ []) words (entry_steps t place words)
climbed_steps t place climbing.Denominator words = made_steps t place (small_number_at place words) (λ (x : ℕ). climbs.Denominator x) (a_small_number ∷ []) words (small_number_steps t place words)
climbed_steps t place climbing.RowSum words = made_steps t place (small_number_at place words) (λ (x : ℕ). climbs.RowSum x) (a_small_number ∷ []) words (small_number_steps t place words)
climbed_steps t place climbing.Total words = nothing_read t place climbs.Total words
climbed_steps t place climbing.Scale words = made_steps t place (small_number_at place words) (λ (x : ℕ). climbs.Scale x) (a_small_number ∷ []) words (small_number_steps t place words)
climbed_steps t place climbing.ColumnSum words = made_steps t place (small_number_at place words) (λ (x : ℕ). climbs.ColumnSum x) (a_small_number ∷ []) words (small_number_steps t place words)

-- ---- a word that is one of several

some_is : {N : Type 0} (x y : N) → Some x ≡ Some y → x ≡ y
some_is x y e = cc

not_some : {N : Type 0} (x : N) → None ≡ Some x → ⊥
not_some x e = cc

module _ {N Y : Type 0} (t : DecisionTable) (place : ℕ) (word_of : N → List ℕ) (names : List N) (next : N → List (List ℕ) → Result Y ProofFault) where
  abbrev pub read : List (List ℕ) → Result Y ProofFault
  read words = name_at word_of names place words >>= λ name. next name.0 name.1

  pub nothing_ends : Ends t place (read []) (one_of (map word_of names) ∷ []) []
  nothing_ends = then_ends t place (name_at word_of names place []) (λ name. next name.0 name.1) (one_of (map word_of names) ∷ []) [] [] (name_steps t place word_of names []) (λ x e. absurd (no_name word_of names place x e))

  pub unknown_ends : (word : List ℕ) (words : List (List ℕ)) → name_of word_of names word ≡ None → Ends t place (read (word ∷ words)) (one_of (map word_of names) ∷ []) (word ∷ words)
  unknown_ends word words none =
      then_ends t place (name_at word_of names place (word ∷ words)) (λ name. next name.0 name.1) (one_of (map word_of names) ∷ []) [] (word ∷ words) (name_steps t place word_of names (word ∷ words))
      (λ x e. absurd (not_some x.0 (sym none ∙ (name_is word_of names place word words x e).0)))

  pub named_ends : (word : List ℕ) (words : List (List ℕ)) (name : N) (expected : List Expected) → name_of word_of names word ≡ Some name → Ends t place (next name words) expected words → Ends t place (read (word ∷ words)) (one_of (map word_of names) ∷ expected) (word ∷ words)
  named_ends word words name expected found ends =
      then_ends t place (name_at word_of names place (word ∷ words)) (λ name. next name.0 name.1) (one_of (map word_of names) ∷ []) expected (word ∷ words) (name_steps t place word_of names (word ∷ words))
      (λ x e.
      let is = name_is word_of names place word words x e in
      let same : name ≡ x.0 = some_is name x.0 (sym found ∙ is.0) in
      subst (λ (ws : List (List ℕ)). Ends t place (next x.0 ws) expected ws) is.1 (subst (λ (n : N). Ends t place (next n words) expected words) same ends))

-- ---- notes

-- the numbers of a place, and the path
module _ {N P : Type 0} (t : DecisionTable) (place : ℕ) (numbered : N → List (List ℕ) → Result (P × List (List ℕ)) ProofFault) (expects : N → List Expected) (steps : (name : N) (words : List (List ℕ)) → Steps t place (numbered name words) (expects name) words) where
  abbrev noting : P × List (List ℕ) → Result (P × List (ℕ × ℕ)) ProofFault
  noting number = path_at place number.1 >>= λ path. done (number.0, path)

  noting_ends : (x : P × List (List ℕ)) → Ends t place (noting x) (expected_path x.1) x.1
  noting_ends x = made_ends t place (path_at place x.1) (λ (path : List (ℕ × ℕ)). (x.0, path)) (expected_path x.1) x.1 (path_ends t place x.1)

  numbers_then_path : (name : N) (words : List (List ℕ)) → Ends t place (numbered name words >>= noting) (expects name ++ expected_path (drop (length (expects name)) words)) words
  numbers_then_path name words =
      then_ends t place (numbered name words) noting (expects name) (expected_path (drop (length (expects name)) words)) words (steps name words)
      (λ x e. subst (λ (ws : List (List ℕ)). Ends t place (noting x) (expected_path ws) x.1) ((steps name words).left x e) (noting_ends x))

-- what follows the name of a place
abbrev climb_noted : ℕ → ClimbName → List (List ℕ) → Result (ClimbPlace × List (ℕ × ℕ)) ProofFault
climb_noted place name words = climbed_at place name words >>= λ number. path_at place number.1 >>= λ path. done (number.0, path)

-- one after the other is the same, however it is grouped
regrouped : {A B Y : Type 0} (r : Result A ProofFault) (f : A → Result B ProofFault) (g : B → Result Y ProofFault) → ((r >>= f) >>= g) ≡ (r >>= λ x. f x >>= g)
regrouped (Ok x) f g = refl
regrouped (Err e) f g = refl

-- what follows a place on a system's path
abbrev pub base_noted : ℕ → PlaceText × List (List ℕ) → Result (Place × List (ℕ × ℕ)) ProofFault
base_noted place text = path_at place text.1 >>= λ path. done (place_of text.0, path)

pub base_is : (place : ℕ) (words : List (List ℕ)) → noted_at place_at place words ≡ (certificates.place_at place words >>= base_noted place)
unfolding noted_at place_at
base_is place words = regrouped (certificates.place_at place words) (λ text. done (place_of text.0, text.1)) (λ number. path_at place number.1 >>= λ path. done (number.0, path))

pub base_ends : (t : DecisionTable) (place : ℕ) (words : List (List ℕ)) → Ends t place (certificates.place_at place words >>= base_noted place) (expected_note words) words
base_ends t place words =
    placed_ends t place (base_noted place)
    (λ text. made_ends t place (path_at place text.1) (λ (path : List (ℕ × ℕ)). (place_of text.0, path)) (expected_path text.1) text.1 (path_ends t place text.1))
    words

abbrev climb_read : ℕ → List (List ℕ) → Result (ClimbPlace × List (ℕ × ℕ)) ProofFault
climb_read place words = name_at climb_word climb_names place words >>= λ name. climb_noted place name.0 name.1

climb_is : (place : ℕ) (words : List (List ℕ)) → noted_at climb_place_at place words ≡ climb_read place words
unfolding noted_at climb_place_at
climb_is place words = regrouped (name_at climb_word climb_names place words) (λ name. climbed_at place name.0 name.1) (λ number. path_at place number.1 >>= λ path. done (number.0, path))

climb_ends_by : (t : DecisionTable) (place : ℕ) (word : List ℕ) (words : List (List ℕ)) (name : Option ClimbName) → name_of climb_word climb_names word ≡ name → Ends t place (climb_read place (word ∷ words)) (one_of (map climb_word climb_names) ∷ expected_climbed name words) (word ∷ words)
climb_ends_by t place word words None e = unknown_ends t place climb_word climb_names (climb_noted place) word words e
climb_ends_by t place word words (Some name) e = named_ends t place climb_word climb_names (climb_noted place) word words name (expected_climbed (Some name) words) e (numbers_then_path t place (climbed_at place) expected_climb_place (climbed_steps t place) name words)

climb_read_ends : (t : DecisionTable) (place : ℕ) (words : List (List ℕ)) → Ends t place (climb_read place words) (expected_climb_note words) words
climb_read_ends t place [] = nothing_ends t place climb_word climb_names (climb_noted place)
climb_read_ends t place (word ∷ words) = climb_ends_by t place word words (name_of climb_word climb_names word) refl

note_of_ends : (t : DecisionTable) (place : ℕ) (path : PathName) (words : List (List ℕ)) → Ends t place (note_of path place words) (expected_note_of (Some path) words) words
note_of_ends t place paths.Base words =
    made_ends t place (noted_at place_at place words) base_made (expected_note words) words
    (subst (λ (r : Result (Place × List (ℕ × ℕ)) ProofFault). Ends t place r (expected_note words) words) (sym (base_is place words)) (base_ends t place words))
note_of_ends t place paths.Climb words =
    made_ends t place (noted_at climb_place_at place words) climb_made (expected_climb_note words) words
    (subst (λ (r : Result (ClimbPlace × List (ℕ × ℕ)) ProofFault). Ends t place r (expected_climb_note words) words) (sym (climb_is place words)) (climb_read_ends t place words))

abbrev path_then : ℕ → PathName → List (List ℕ) → Result EntryBody ProofFault
path_then place path words = note_of path place words

abbrev wide_read : ℕ → List (List ℕ) → Result EntryBody ProofFault
wide_read place words = name_at path_word path_names place words >>= λ path. path_then place path.0 path.1

wide_ends_by : (t : DecisionTable) (place : ℕ) (word : List ℕ) (words : List (List ℕ)) (path : Option PathName) → name_of path_word path_names word ≡ path → Ends t place (wide_read place (word ∷ words)) (one_of (map path_word path_names) ∷ expected_note_of path words) (word ∷ words)
wide_ends_by t place word words None e = unknown_ends t place path_word path_names (path_then place) word words e
wide_ends_by t place word words (Some path) e = named_ends t place path_word path_names (path_then place) word words path (expected_note_of (Some path) words) e (note_of_ends t place path words)

wide_read_ends : (t : DecisionTable) (place : ℕ) (words : List (List ℕ)) → Ends t place (wide_read place words) (expected_wide words) words
wide_read_ends t place [] = nothing_ends t place path_word path_names (path_then place)
wide_read_ends t place (word ∷ words) = wide_ends_by t place word words (name_of path_word path_names word) refl

pub wide_ends : (t : DecisionTable) (place : ℕ) (words : List (List ℕ)) → Ends t place (wide_words place words) (the_word (codes "wide") ∷ expected_wide (drop 1 words)) words
unfolding wide_words
wide_ends t place words = behind t place (codes "wide") (wide_read place) expected_wide words (wide_read_ends t place)
