-- The first faulty word of a line: what each step of the reader says of it.
use Rattle.std.proofs.Common.{◌≡◌, ℕ, suc, ◌+◌, ◌<◌, ◌^◌, Bool, true, false, eqb, cond, List, [], ◌∷◌, ◌++◌, append_assoc, length, length-append, map, drop, Option, Some, None, Result, Ok, Err, refl, sym, ap, subst, ◌∙◌, arith, inl, inr, ℤ}
use Rattle.std.specs.Prelude.{◌⊎◌, codes}
use Rattle.std.specs.Fmt.{decimal}
use Rattle.std.specs.Str.{bytes_eq}
use Rattle.std.proofs.lemmas.Bool.{cases_Bool, cond-true, cond-false, ne_eqb, false≢true}
use Rattle.std.proofs.lemmas.List.{append-nil, drop-drop}
use Rattle.std.proofs.lemmas.Slice.Eq.{bytes_eq-Decides}
use Rattle.ror_text.specs.Numbers.{number_of, small_number_of}
use Rattle.ror_text.specs.Reading.{◌>>=◌, refuse, need}
use Rattle.ror_text.proofs.NumberLemmas.{number_of-signed_decimal, number_of-sound, signed_decimal_some, small_number_of-decimal, small_number_of-sound, decimal_some}
use Rattle.ror_text.proofs.ReadingLemmas.{bind_ok, bind_err, refuse_err, need_ok, need_err}
use Rattle.ror_system.specs.declared.accept.Multipliers.{Multipliers}
use Rattle.ror_table.specs.Table.{DecisionTable, alternative_ids, alternative_named, criterion_ids, criterion_named}
use Rattle.ror_table.proofs.NameLemmas.{placed-there, not_placed-absent}
use Rattle.ror_proof.specs.declared.answer.Certificate.{Certificate}
use Rattle.ror_proof.specs.declared.answer.Certificate.TheVariants as certificates
use Rattle.ror_proof.specs.declared.read.ProofFault.{ProofFault}
use Rattle.ror_proof.specs.declared.read.ProofFault.TheVariants.{BadLine, BadNumber}
use Rattle.ror_proof.specs.Names.{name_of}
use Rattle.ror_proof.specs.Words.{first_word, after_word, no_more, number_in, pivot_in, all_at, numbers_at, numbers_before_bar}
use Rattle.ror_proof.specs.Reading.{solution_at, multipliers_at, refutation_at, certificate_at}
use Rattle.ror_proof.specs.Expected.{IsNumber, all_of, expected_numbers, expected_multipliers, expected_certificate, Expected, MayStand, MayEnd, AllStand, IsFirstFaultyWord, number_fault, fault_of_word}
use Rattle.ror_proof.specs.Expected.Expected.{the_word, one_of, an_id, a_criterion, a_small_number, a_number, a_pivot, the_end}
use Rattle.ror_proof.proofs.NameLemmas.{named-there, not_named-absent}
use Rattle.ror_proof.proofs.PivotLemmas.{pivot_again, pivot_sound, pivot_err}
use Rattle.ror_proof.proofs.LineWords.{multipliers_read}
use Rattle.ror_proof.proofs.WordLemmas.{done, ok_is, after_word_sound, number_sound}

-- ---- a line has one first faulty word, or all its words may stand

pub two_faults : (t : DecisionTable) (expected : List Expected) (words : List (List ℕ)) (place : ℕ) (f g : ProofFault) → IsFirstFaultyWord t expected words place f → IsFirstFaultyWord t expected words place g → f ≡ g
two_faults t [] words place f g p q = absurd p
two_faults t (e ∷ more) [] place f g p q = p.1 ∙ sym q.1
two_faults t (e ∷ more) (word ∷ words) place f g (inl p) (inl q) = p.1 ∙ sym q.1
two_faults t (e ∷ more) (word ∷ words) place f g (inl p) (inr q) = absurd (p.0 q.0)
two_faults t (e ∷ more) (word ∷ words) place f g (inr p) (inl q) = absurd (q.0 p.0)
two_faults t (e ∷ more) (word ∷ words) place f g (inr p) (inr q) = two_faults t more words place f g p.1 q.1

pub two_stand : (t : DecisionTable) (expected : List Expected) (words : List (List ℕ)) (place : ℕ) (f : ProofFault) → AllStand t expected words → IsFirstFaultyWord t expected words place f → ⊥
two_stand t [] words place f p q = q
two_stand t (e ∷ more) [] place f p q = q.0 p
two_stand t (e ∷ more) (word ∷ words) place f p (inl q) = q.0 p.0
two_stand t (e ∷ more) (word ∷ words) place f p (inr q) = two_stand t more words place f p.1 q.1

-- ---- numbers

pub no_fault : {A : Type 0} (x : A) (f : ProofFault) → done x ≡ Err f → ⊥
no_fault x f e = cc

pub number_errs : {A : Type 0} (number : List ℕ → Option A) (P : List ℕ → Type 0) → ((word : List ℕ) → P word → (n : A) × (number word ≡ Some n)) → (P [] → ⊥)
    → (place : ℕ) (word : List ℕ) (f : ProofFault) → number_in number place word ≡ Err f → (P word → ⊥) × (f ≡ number_fault word place)
number_errs number P says some place [] f e = (some, cc)
number_errs number P says some place (byte ∷ bytes) f e =
    let word : List ℕ = byte ∷ bytes in
    elim (bind_err (refuse (BadLine place) (eqb (length word) 0)) (λ _. need (BadNumber place) (number word)) f e) [
      | inl empty ↦ absurd (false≢true (sym (ne_eqb (length word) 0 (λ (z : length word ≡ 0). omega arith)) ∙ (refuse_err (BadLine place) f (eqb (length word) 0) empty).0))
      | inr later ↦
          let none = need_err (BadNumber place) f (number word) later.2 in
          ((λ h. some_not_none number word (says word h) none.0), none.1)
    ]
  where
    some_not_none : {A : Type 0} (number : List ℕ → Option A) (word : List ℕ) → (n : A) × (number word ≡ Some n) → number word ≡ None → ⊥
    some_not_none number word some none = absurd (let no = sym none ∙ some.1 in cc)

pub no_empty_number : IsNumber [] → ⊥
no_empty_number h = let some = signed_decimal_some h.0 (omega (arith, h.1)) in omega (arith, some, ap length h.2)

pub number_says : (word : List ℕ) → IsNumber word → (z : ℤ) × (number_of word ≡ Some z)
number_says word h = (h.0, ap number_of h.2 ∙ number_of-signed_decimal h.0 h.1)

number_err : (place : ℕ) (word : List ℕ) (f : ProofFault) → number_in number_of place word ≡ Err f → (IsNumber word → ⊥) × (f ≡ number_fault word place)
number_err place word f e = number_errs number_of IsNumber number_says no_empty_number place word f e

number_ok : (place : ℕ) (word : List ℕ) (z : ℤ) → number_in number_of place word ≡ Ok z → IsNumber word
number_ok place word z e = let sound = number_of-sound word z (number_sound number_of place word z e) in (z, sound.1, sound.0)

abbrev IsSmallNumber : List ℕ → Type 0
IsSmallNumber word = (n : ℕ) × (n < 2 ^ 32) × (word ≡ decimal n)

no_empty_small : IsSmallNumber [] → ⊥
no_empty_small h = let some = decimal_some h.0 (omega (arith, h.1)) in omega (arith, some, ap length h.2)

small_says : (word : List ℕ) → IsSmallNumber word → (n : ℕ) × (small_number_of word ≡ Some n)
small_says word h = (h.0, ap small_number_of h.2 ∙ small_number_of-decimal h.0 h.1)

abbrev failed : {A : Type 0} → ProofFault → Result A ProofFault
failed f = Err f

-- ---- steps

-- a step that reads what is expected first: its fault is that of the first faulty word, and what is at fault behind it
-- is so of all words
pub record Steps {X : Type 0} (t : DecisionTable) (place : ℕ) (reading : Result (X × List (List ℕ)) ProofFault) (expected : List Expected) (words : List (List ℕ)) : Type 0 where
  pub fails : (f : ProofFault) (rest : List Expected) → reading ≡ Err f → IsFirstFaultyWord t (expected ++ rest) words place f
  pub reads : (x : X × List (List ℕ)) (f : ProofFault) (rest : List Expected) → reading ≡ Ok x → IsFirstFaultyWord t rest x.1 place f → IsFirstFaultyWord t (expected ++ rest) words place f
  pub stands : (x : X × List (List ℕ)) (rest : List Expected) → reading ≡ Ok x → AllStand t rest x.1 → AllStand t (expected ++ rest) words
  pub left : (x : X × List (List ℕ)) → reading ≡ Ok x → x.1 ≡ drop (length expected) words

-- a step that reads all words
pub record Ends {X : Type 0} (t : DecisionTable) (place : ℕ) (reading : Result X ProofFault) (expected : List Expected) (words : List (List ℕ)) : Type 0 where
  pub fails : (f : ProofFault) → reading ≡ Err f → IsFirstFaultyWord t expected words place f
  pub stands : (x : X) → reading ≡ Ok x → AllStand t expected words

pub nothing_read : {X : Type 0} (t : DecisionTable) (place : ℕ) (y : X) (words : List (List ℕ)) → Steps t place (done (y, words)) [] words
nothing_read t place y words = record {
  fails = λ f rest e. absurd (no_fault (y, words) f e);
  reads = λ x f rest e h. subst (λ z. IsFirstFaultyWord t rest z.1 place f) (sym (ok_is (y, words) x e)) h;
  stands = λ x rest e h. subst (λ z. AllStand t rest z.1) (sym (ok_is (y, words) x e)) h;
  left = λ x e. ap (λ z. z.1) (sym (ok_is (y, words) x e));
}

pub then_steps : {X Y : Type 0} (t : DecisionTable) (place : ℕ) (reading : Result (X × List (List ℕ)) ProofFault) (next : X × List (List ℕ) → Result (Y × List (List ℕ)) ProofFault) (first second : List Expected) (words : List (List ℕ))
    → Steps t place reading first words → ((x : X × List (List ℕ)) → reading ≡ Ok x → Steps t place (next x) second x.1) → Steps t place (reading >>= next) (first ++ second) words
then_steps t place reading next first second words s k = record {
  fails = λ f rest e.
      subst (λ (ex : List Expected). IsFirstFaultyWord t ex words place f) (sym (append_assoc first second rest)) (elim (bind_err reading next f e) [
        | inl here ↦ s.fails f (second ++ rest) here
        | inr a ↦ s.reads a.0 f (second ++ rest) a.1 ((k a.0 a.1).fails f rest a.2)
      ]);
  reads = λ y f rest e h.
      let a = bind_ok reading next y e in
      subst (λ (ex : List Expected). IsFirstFaultyWord t ex words place f) (sym (append_assoc first second rest)) (s.reads a.0 f (second ++ rest) a.1 ((k a.0 a.1).reads y f rest a.2 h));
  stands = λ y rest e h.
      let a = bind_ok reading next y e in
      subst (λ (ex : List Expected). AllStand t ex words) (sym (append_assoc first second rest)) (s.stands a.0 (second ++ rest) a.1 ((k a.0 a.1).stands y rest a.2 h));
  left = λ y e.
      let a = bind_ok reading next y e in
      (k a.0 a.1).left y a.2 ∙ ap (drop (length second)) (s.left a.0 a.1) ∙ dropped (length first) (length second) words ∙ ap (λ n. drop n words) (sym (length-append first second));
}
  where
    dropped : (m n : ℕ) (ws : List (List ℕ)) → drop n (drop m ws) ≡ drop (m + n) ws
    dropped m n ws = drop-drop n m ws

pub then_ends : {X Y : Type 0} (t : DecisionTable) (place : ℕ) (reading : Result (X × List (List ℕ)) ProofFault) (next : X × List (List ℕ) → Result Y ProofFault) (first second : List Expected) (words : List (List ℕ))
    → Steps t place reading first words → ((x : X × List (List ℕ)) → reading ≡ Ok x → Ends t place (next x) second x.1) → Ends t place (reading >>= next) (first ++ second) words
then_ends t place reading next first second words s k = record {
  fails = λ f e. elim (bind_err reading next f e) [
    | inl here ↦ s.fails f second here
    | inr a ↦ s.reads a.0 f second a.1 ((k a.0 a.1).fails f a.2)
  ];
  stands = λ y e.
      let a = bind_ok reading next y e in
      s.stands a.0 second a.1 ((k a.0 a.1).stands y a.2);
}

-- the value made into another
pub made_steps : {X Y : Type 0} (t : DecisionTable) (place : ℕ) (reading : Result (X × List (List ℕ)) ProofFault) (make : X → Y) (expected : List Expected) (words : List (List ℕ))
    → Steps t place reading expected words → Steps t place (reading >>= λ x. done (make x.0, x.1)) expected words
made_steps t place reading make expected words s =
    subst (λ (ex : List Expected). Steps t place (reading >>= λ x. done (make x.0, x.1)) ex words) (append-nil expected) (then_steps t place reading (λ x. done (make x.0, x.1)) expected [] words s (λ x e. nothing_read t place (make x.0) x.1))

pub made_ends : {X Y : Type 0} (t : DecisionTable) (place : ℕ) (reading : Result X ProofFault) (make : X → Y) (expected : List Expected) (words : List (List ℕ))
    → Ends t place reading expected words → Ends t place (reading >>= λ x. done (make x)) expected words
made_ends t place reading make expected words s = record {
  fails = λ f e. elim (bind_err reading (λ x. done (make x)) f e) [
    | inl here ↦ s.fails f here
    | inr none ↦ absurd (no_fault _ f none.2)
  ];
  stands = λ y e. let a = bind_ok reading (λ x. done (make x)) y e in s.stands a.0 a.1;
}

-- what one word says
pub record SaysOne {X : Type 0} (t : DecisionTable) (place : ℕ) (read : List ℕ → Result X ProofFault) (expected : Expected) : Type 0 where
  pub err : (word : List ℕ) (f : ProofFault) → read word ≡ Err f → (MayStand t expected word → ⊥) × (f ≡ fault_of_word expected word place)
  pub ok : (word : List ℕ) (x : X) → read word ≡ Ok x → MayStand t expected word

pub one_steps : {X : Type 0} (t : DecisionTable) (place : ℕ) (read : List ℕ → Result X ProofFault) (expected : Expected) (words : List (List ℕ)) → (MayEnd expected → ⊥) → SaysOne t place read expected
    → Steps t place (first_word place words >>= λ word. read word.0 >>= λ x. done (x, word.1)) (expected ∷ []) words
one_steps t place read expected [] ends says = record {
  fails = λ f rest e. (ends, missing f e);
  reads = λ x f rest e h. absurd (none x e);
  stands = λ x rest e h. absurd (none x e);
  left = λ x e. absurd (none x e);
}
  where
    missing : {A : Type 0} (f : ProofFault) → failed {A = A} (BadLine place) ≡ Err f → f ≡ BadLine place
    missing f e = cc

    none : {A : Type 0} (x : A) → failed {A = A} (BadLine place) ≡ Ok x → ⊥
    none x e = cc
one_steps t place read expected (word ∷ words) ends says = record {
  fails = λ f rest e. elim (bind_err (read word) (λ x. done (x, words)) f e) [
    | inl here ↦ inl (says.err word f here)
    | inr none ↦ absurd (no_fault _ f none.2)
  ];
  reads = λ x f rest e h.
      let a = bind_ok (read word) (λ x. done (x, words)) x e in
      inr (says.ok word a.0 a.1, subst (λ z. IsFirstFaultyWord t rest z.1 place f) (sym (ok_is (a.0, words) x a.2)) h);
  stands = λ x rest e h.
      let a = bind_ok (read word) (λ x. done (x, words)) x e in
      (says.ok word a.0 a.1, subst (λ z. AllStand t rest z.1) (sym (ok_is (a.0, words) x a.2)) h);
  left = λ x e.
      let a = bind_ok (read word) (λ x. done (x, words)) x e in
      ap (λ z. z.1) (sym (ok_is (a.0, words) x a.2));
}

-- what all words say
pub all_ends : {X : Type 0} (t : DecisionTable) (place : ℕ) (read : List ℕ → Result X ProofFault) (expected : Expected) (words : List (List ℕ)) → MayEnd expected → SaysOne t place read expected → Ends t place (all_at read words) (all_of expected words) words
unfolding all_at
all_ends t place read expected [] ends says = record { fails = λ f e. absurd (no_fault [] f e); stands = λ x e. ends }
all_ends t place read expected (word ∷ words) ends says =
    let others = all_ends t place read expected words ends says in
    record {
      fails = λ f e. elim (bind_err (read word) (λ first. all_at read words >>= λ others. done (first ∷ others)) f e) [
        | inl here ↦ inl (says.err word f here)
        | inr later ↦
            elim (bind_err (all_at read words) (λ others. done (later.0 ∷ others)) f later.2) [
              | inl deeper ↦ inr (says.ok word later.0 later.1, others.fails f deeper)
              | inr none ↦ absurd (no_fault (later.0 ∷ none.0) f none.2)
            ]
      ];
      stands = λ xs e.
          let a = bind_ok (read word) (λ first. all_at read words >>= λ others. done (first ∷ others)) xs e in
          let b = bind_ok (all_at read words) (λ others. done (a.0 ∷ others)) xs a.2 in
          (says.ok word a.0 a.1, others.stands b.0 b.1);
    }

-- ---- a word that has to come first

the_word_fails : (t : DecisionTable) (place : ℕ) (expected : List ℕ) (more : List Expected) (words : List (List ℕ)) (f : ProofFault) → after_word place expected words ≡ Err f → IsFirstFaultyWord t (the_word expected ∷ more) words place f
unfolding after_word
the_word_fails t place expected more [] f e = (λ h. h, cc)
the_word_fails t place expected more (word ∷ words) f e =
    elim (cases_Bool (bytes_eq word expected)) [
      | inl same ↦ absurd (no_fault words f (sym (cond-true _ _ _ same) ∙ e))
      | inr other ↦
          let at = sym (cond-false _ _ _ other) ∙ e in
          inl (λ (is : word ≡ expected). false≢true (sym other ∙ (bytes_eq-Decides word expected).1 is), cc)
    ]

pub word_then_steps : {Y : Type 0} (t : DecisionTable) (place : ℕ) (word : List ℕ) (next : List (List ℕ) → Result (Y × List (List ℕ)) ProofFault) (expected : List Expected) (words : List (List ℕ))
    → ((more : List (List ℕ)) → after_word place word words ≡ Ok more → Steps t place (next more) expected more) → Steps t place (after_word place word words >>= next) (the_word word ∷ expected) words
word_then_steps t place word next expected words k = record {
  fails = λ f rest e. elim (bind_err (after_word place word words) next f e) [
    | inl here ↦ the_word_fails t place word (expected ++ rest) words f here
    | inr a ↦ subst (λ (ws : List (List ℕ)). IsFirstFaultyWord t (the_word word ∷ (expected ++ rest)) ws place f) (sym (after_word_sound place word words a.0 a.1)) (inr (refl, (k a.0 a.1).fails f rest a.2))
  ];
  reads = λ y f rest e h.
      let a = bind_ok (after_word place word words) next y e in
      subst (λ (ws : List (List ℕ)). IsFirstFaultyWord t (the_word word ∷ (expected ++ rest)) ws place f) (sym (after_word_sound place word words a.0 a.1)) (inr (refl, (k a.0 a.1).reads y f rest a.2 h));
  stands = λ y rest e h.
      let a = bind_ok (after_word place word words) next y e in
      subst (λ (ws : List (List ℕ)). AllStand t (the_word word ∷ (expected ++ rest)) ws) (sym (after_word_sound place word words a.0 a.1)) (refl, (k a.0 a.1).stands y rest a.2 h);
  left = λ y e.
      let a = bind_ok (after_word place word words) next y e in
      (k a.0 a.1).left y a.2 ∙ ap (λ (ws : List (List ℕ)). drop (suc (length expected)) ws) (sym (after_word_sound place word words a.0 a.1));
}

pub word_then_ends : {Y : Type 0} (t : DecisionTable) (place : ℕ) (word : List ℕ) (next : List (List ℕ) → Result Y ProofFault) (expected : List Expected) (words : List (List ℕ))
    → ((more : List (List ℕ)) → words ≡ word ∷ more → Ends t place (next more) expected more) → Ends t place (after_word place word words >>= next) (the_word word ∷ expected) words
word_then_ends t place word next expected words k = record {
  fails = λ f e. elim (bind_err (after_word place word words) next f e) [
    | inl here ↦ the_word_fails t place word expected words f here
    | inr a ↦
        let is = after_word_sound place word words a.0 a.1 in
        subst (λ (ws : List (List ℕ)). IsFirstFaultyWord t (the_word word ∷ expected) ws place f) (sym is) (inr (refl, (k a.0 is).fails f a.2))
  ];
  stands = λ y e.
      let a = bind_ok (after_word place word words) next y e in
      let is = after_word_sound place word words a.0 a.1 in
      subst (λ (ws : List (List ℕ)). AllStand t (the_word word ∷ expected) ws) (sym is) (refl, (k a.0 is).stands y a.2);
}

-- no word is left
pub end_ends : {Y : Type 0} (t : DecisionTable) (place : ℕ) (y : Y) (words : List (List ℕ)) → Ends t place (no_more place words >>= λ _. done y) (the_end ∷ []) words
end_ends t place y [] = record { fails = λ f e. absurd (no_fault y f e); stands = λ x e. tt }
end_ends t place y (word ∷ words) = record { fails = λ f e. inl (λ h. h, at f e); stands = λ x e. absurd (none x e) }
  where
    at : {A : Type 0} (f : ProofFault) → failed {A = A} (BadLine place) ≡ Err f → f ≡ BadLine place
    at f e = cc

    none : {A : Type 0} (x : A) → failed {A = A} (BadLine place) ≡ Ok x → ⊥
    none x e = cc

-- ---- what single words say

pub small_number_says : (t : DecisionTable) (place : ℕ) → SaysOne t place (number_in small_number_of place) a_small_number
small_number_says t place = record {
  err = λ word f e. number_errs small_number_of IsSmallNumber small_says no_empty_small place word f e;
  ok = λ word n e. let sound = small_number_of-sound word n (number_sound small_number_of place word n e) in (n, sound.1, sound.0);
}

pub number_one : (t : DecisionTable) (place : ℕ) → SaysOne t place (number_in number_of place) a_number
number_one t place = record { err = number_err place; ok = number_ok place }

pub pivot_one : (t : DecisionTable) (place : ℕ) → SaysOne t place (pivot_in place) a_pivot
pivot_one t place = record {
  err = λ word f e. (λ h. absurd (no_fault h.0 f (sym (pivot_again place h.0 h.1) ∙ ap (pivot_in place) (sym h.2) ∙ e)), pivot_err place word f e);
  ok = λ word p e. let sound = pivot_sound place word p e in (p, sound.1, sound.0);
}

pub alternative_one : (t : DecisionTable) (place : ℕ) → SaysOne t place (λ word. need (BadLine place) (alternative_named t word)) an_id
alternative_one t place = record {
  err = λ word f e. let none = need_err (BadLine place) f (alternative_named t word) e in (not_placed-absent (alternative_ids t) word none.0, none.1);
  ok = λ word a e. placed-there (alternative_ids t) word a (need_ok (BadLine place) (alternative_named t word) a e);
}

pub criterion_one : (t : DecisionTable) (place : ℕ) → SaysOne t place (λ word. need (BadLine place) (criterion_named t word)) a_criterion
criterion_one t place = record {
  err = λ word f e. let none = need_err (BadLine place) f (criterion_named t word) e in (not_placed-absent (criterion_ids t) word none.0, none.1);
  ok = λ word i e. placed-there (criterion_ids t) word i (need_ok (BadLine place) (criterion_named t word) i e);
}

pub name_one : {N : Type 0} (t : DecisionTable) (place : ℕ) (word_of : N → List ℕ) (names : List N) → SaysOne t place (λ word. need (BadLine place) (name_of word_of names word)) (one_of (map word_of names))
name_one t place word_of names = record {
  err = λ word f e. let none = need_err (BadLine place) f (name_of word_of names word) e in (not_named-absent word_of names word none.0, none.1);
  ok = λ word n e. named-there word_of names word n (need_ok (BadLine place) (name_of word_of names word) n e);
}

pub number_ends : (t : DecisionTable) (place : ℕ) (words : List (List ℕ)) → Ends t place (numbers_at place words) (expected_numbers words) words
number_ends t place words = all_ends t place (number_in number_of place) a_number words tt (number_one t place)

-- ---- numbers up to the bar

bar_err : (t : DecisionTable) (place : ℕ) (words : List (List ℕ)) (f : ProofFault) → numbers_before_bar place words ≡ Err f → IsFirstFaultyWord t (expected_multipliers words) words place f
unfolding numbers_before_bar
bar_err t place [] f e = (λ h. h, cc)
bar_err t place (word ∷ words) f e =
    elim (cases_Bool (bytes_eq word (codes "|"))) [
      | inl bar ↦ absurd (no_fault ([], words) f (sym (cond-true _ _ _ bar) ∙ e))
      | inr other ↦
          elim (bind_err (number_in number_of place word) (λ first. numbers_before_bar place words >>= λ others. done (first ∷ others.0, others.1)) f (sym (cond-false _ _ _ other) ∙ e)) [
            | inl here ↦
                let number = number_err place word f here in
                inl (no_bar word other number.0, number.1)
            | inr later ↦
                elim (bind_err (numbers_before_bar place words) (λ others. done (later.0 ∷ others.0, others.1)) f later.2) [
                  | inl deeper ↦ inr (inr (number_ok place word later.0 later.1), rw other (bar_err t place words f deeper))
                  | inr none ↦ absurd (no_fault (later.0 ∷ none.0.0, none.0.1) f none.2)
                ]
          ]
    ]
  where
    no_bar : (word : List ℕ) → bytes_eq word (codes "|") ≡ false → (IsNumber word → ⊥) → (word ≡ codes "|") ⊎ IsNumber word → ⊥
    no_bar word other number (inl bar) = false≢true (sym other ∙ (bytes_eq-Decides word (codes "|")).1 bar)
    no_bar word other number (inr h) = number h

-- what holds of the words after the bar is carried over to the words before it
record CarriesOver (t : DecisionTable) (place : ℕ) (words more : List (List ℕ)) : Type 0 where
  faults : (f : ProofFault) → IsFirstFaultyWord t (expected_numbers more) more place f → IsFirstFaultyWord t (expected_multipliers words) words place f
  stands : AllStand t (expected_numbers more) more → AllStand t (expected_multipliers words) words

past_bar : (t : DecisionTable) (place : ℕ) (words : List (List ℕ)) (x : List ℤ × List (List ℕ)) → numbers_before_bar place words ≡ Ok x → CarriesOver t place words x.1
unfolding numbers_before_bar
past_bar t place [] x e = absurd cc
past_bar t place (word ∷ words) x e =
    elim (cases_Bool (bytes_eq word (codes "|"))) [
      | inl bar ↦
          let is : word ≡ codes "|" = (bytes_eq-Decides word (codes "|")).0 bar in
          let same : words ≡ x.1 = ap (λ (y : List ℤ × List (List ℕ)). y.1) (ok_is ([], words) x (sym (cond-true _ _ _ bar) ∙ e)) in
          subst (CarriesOver t place (word ∷ words)) same (record {
            faults = λ f h. inr (inl is, rw bar h);
            stands = λ h. (inl is, rw bar h);
          })
      | inr other ↦
          let a = bind_ok (number_in number_of place word) (λ first. numbers_before_bar place words >>= λ others. done (first ∷ others.0, others.1)) x (sym (cond-false _ _ _ other) ∙ e) in
          let b = bind_ok (numbers_before_bar place words) (λ others. done (a.0 ∷ others.0, others.1)) x a.2 in
          let number = number_ok place word a.0 a.1 in
          let carries = past_bar t place words b.0 b.1 in
          let same : b.0.1 ≡ x.1 = ap (λ (y : List ℤ × List (List ℕ)). y.1) (ok_is (a.0 ∷ b.0.0, b.0.1) x b.2) in
          subst (CarriesOver t place (word ∷ words)) same (record {
            faults = λ f h. inr (inr number, rw other (carries.faults f h));
            stands = λ h. (inr number, rw other (carries.stands h));
          })
    ]

-- ---- certificates

solution_err : (t : DecisionTable) (place : ℕ) (words : List (List ℕ)) (f : ProofFault) → solution_at place words ≡ Err f → IsFirstFaultyWord t (expected_numbers words) words place f
unfolding solution_at
solution_err t place words f e = elim (bind_err (numbers_at place words) (λ steps. done (certificates.Solution (record { steps = steps }))) f e) [
  | inl here ↦ (number_ends t place words).fails f here
  | inr none ↦ absurd (no_fault _ f none.2)
]

solution_ok : (t : DecisionTable) (place : ℕ) (words : List (List ℕ)) (x : Certificate) → solution_at place words ≡ Ok x → AllStand t (expected_numbers words) words
unfolding solution_at
solution_ok t place words x e =
    let a = bind_ok (numbers_at place words) (λ steps. done (certificates.Solution (record { steps = steps }))) x e in
    (number_ends t place words).stands a.0 a.1

multipliers_err : (t : DecisionTable) (place : ℕ) (words : List (List ℕ)) (f : ProofFault) → multipliers_at place words ≡ Err f → IsFirstFaultyWord t (expected_multipliers words) words place f
unfolding multipliers_at
multipliers_err t place words f e =
    elim (bind_err (numbers_before_bar place words) (λ weak. numbers_at place weak.1 >>= λ strict. multipliers_read weak.0 strict) f e) [
      | inl here ↦ bar_err t place words f here
      | inr later ↦
          elim (bind_err (numbers_at place later.0.1) (λ strict. multipliers_read later.0.0 strict) f later.2) [
            | inl deeper ↦ (past_bar t place words later.0 later.1).faults f ((number_ends t place later.0.1).fails f deeper)
            | inr none ↦ absurd (no_fault _ f none.2)
          ]
    ]

multipliers_ok : (t : DecisionTable) (place : ℕ) (words : List (List ℕ)) (x : Multipliers) → multipliers_at place words ≡ Ok x → AllStand t (expected_multipliers words) words
unfolding multipliers_at
multipliers_ok t place words x e =
    let a = bind_ok (numbers_before_bar place words) (λ weak. numbers_at place weak.1 >>= λ strict. multipliers_read weak.0 strict) x e in
    let b = bind_ok (numbers_at place a.0.1) (λ strict. multipliers_read a.0.0 strict) x a.2 in
    (past_bar t place words a.0 a.1).stands ((number_ends t place a.0.1).stands b.0 b.1)

multipliers_ends : (t : DecisionTable) (place : ℕ) (words : List (List ℕ)) → Ends t place (multipliers_at place words) (expected_multipliers words) words
multipliers_ends t place words = record { fails = multipliers_err t place words; stands = multipliers_ok t place words }

pub refutation_ends : (t : DecisionTable) (place : ℕ) (words : List (List ℕ)) → Ends t place (refutation_at place words) (the_word (codes "multipliers") ∷ expected_multipliers (drop 1 words)) words
unfolding refutation_at
refutation_ends t place words =
    word_then_ends t place (codes "multipliers") (multipliers_at place) (expected_multipliers (drop 1 words)) words
    (λ numbers is. subst (λ (ws : List (List ℕ)). Ends t place (multipliers_at place numbers) (expected_multipliers ws) numbers) (ap (λ (ws : List (List ℕ)). drop 1 ws) (sym is)) (multipliers_ends t place numbers))

-- multipliers made into a certificate
abbrev refuting : ℕ → List (List ℕ) → Result Certificate ProofFault
refuting place words = multipliers_at place words >>= λ m. done (certificates.Multipliers m)

refuting_ends : (t : DecisionTable) (place : ℕ) (words : List (List ℕ)) → Ends t place (refuting place words) (expected_multipliers words) words
refuting_ends t place words = made_ends t place (multipliers_at place words) (λ (m : Multipliers). certificates.Multipliers m) (expected_multipliers words) words (multipliers_ends t place words)

certificate_err_by : (t : DecisionTable) (place : ℕ) (word : List ℕ) (words : List (List ℕ)) (f : ProofFault) (b1 b2 : Bool) → bytes_eq word (codes "solution") ≡ b1 → bytes_eq word (codes "multipliers") ≡ b2
    → cond b1 (solution_at place words) (cond b2 (refuting place words) (Err (BadLine place))) ≡ Err f → IsFirstFaultyWord t (expected_certificate (word ∷ words)) (word ∷ words) place f
certificate_err_by t place word words f true b2 p q e =
    let is : word ≡ codes "solution" = (bytes_eq-Decides word (codes "solution")).0 p in
    let other : bytes_eq word (codes "multipliers") ≡ false = ap (λ (w : List ℕ). bytes_eq w (codes "multipliers")) is in
    inr (inl is, rw other (solution_err t place words f e))
certificate_err_by t place word words f false true p q e =
    let is : word ≡ codes "multipliers" = (bytes_eq-Decides word (codes "multipliers")).0 q in
    inr (inr is, rw q ((refuting_ends t place words).fails f e))
certificate_err_by t place word words f false false p q e =
    let at : f ≡ BadLine place = cc in
    inl (no_form word p q, at)
  where
    no_form : (word : List ℕ) → bytes_eq word (codes "solution") ≡ false → bytes_eq word (codes "multipliers") ≡ false → (word ≡ codes "solution") ⊎ (word ≡ codes "multipliers") → ⊥
    no_form word p q (inl is) = false≢true (sym p ∙ (bytes_eq-Decides word (codes "solution")).1 is)
    no_form word p q (inr is) = false≢true (sym q ∙ (bytes_eq-Decides word (codes "multipliers")).1 is)

pub certificate_err : (t : DecisionTable) (place : ℕ) (words : List (List ℕ)) (f : ProofFault) → certificate_at place words ≡ Err f → IsFirstFaultyWord t (expected_certificate words) words place f
unfolding certificate_at
certificate_err t place [] f e = (λ h. h, cc)
certificate_err t place (word ∷ words) f e = certificate_err_by t place word words f (bytes_eq word (codes "solution")) (bytes_eq word (codes "multipliers")) refl refl e

certificate_ok_by : (t : DecisionTable) (place : ℕ) (word : List ℕ) (words : List (List ℕ)) (x : Certificate) (b1 b2 : Bool) → bytes_eq word (codes "solution") ≡ b1 → bytes_eq word (codes "multipliers") ≡ b2
    → cond b1 (solution_at place words) (cond b2 (refuting place words) (Err (BadLine place))) ≡ Ok x → AllStand t (expected_certificate (word ∷ words)) (word ∷ words)
certificate_ok_by t place word words x true b2 p q e =
    let is : word ≡ codes "solution" = (bytes_eq-Decides word (codes "solution")).0 p in
    let other : bytes_eq word (codes "multipliers") ≡ false = ap (λ (w : List ℕ). bytes_eq w (codes "multipliers")) is in
    (inl is, rw other (solution_ok t place words x e))
certificate_ok_by t place word words x false true p q e =
    let is : word ≡ codes "multipliers" = (bytes_eq-Decides word (codes "multipliers")).0 q in
    (inr is, rw q ((refuting_ends t place words).stands x e))
certificate_ok_by t place word words x false false p q e = absurd cc

pub certificate_ok : (t : DecisionTable) (place : ℕ) (words : List (List ℕ)) (x : Certificate) → certificate_at place words ≡ Ok x → AllStand t (expected_certificate words) words
unfolding certificate_at
certificate_ok t place [] x e = absurd cc
certificate_ok t place (word ∷ words) x e = certificate_ok_by t place word words x (bytes_eq word (codes "solution")) (bytes_eq word (codes "multipliers")) refl refl e

pub certificate_ends : (t : DecisionTable) (place : ℕ) (words : List (List ℕ)) → Ends t place (certificate_at place words) (expected_certificate words) words
certificate_ends t place words = record { fails = certificate_err t place words; stands = certificate_ok t place words }
