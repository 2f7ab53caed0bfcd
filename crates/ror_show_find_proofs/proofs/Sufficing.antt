-- The rows that a refutation multiplies can't all hold, whatever the sign of the columns that sum up to 0.
use Rattle.std.proofs.Common.{◌≡◌, ◌⊎◌, inl, inr, ℕ, zero, suc, ◌<◌, true, false, List, [], ◌∷◌, ◌++◌, length, map, ℤ, pos, negsuc, ◌*ℤ◌, ◌≤ℤ◌, ◌<ℤ◌, refl, ap, sym, subst, ◌∙◌, arith}
use Rattle.std.specs.Prelude.{slice_get, unwrap_or, Some, int_lt}
use Rattle.std.specs.List.{AllByRecursion}
use Rattle.std.proofs.lemmas.Bool.{cases_Bool, lt-ltb}
use Rattle.std.proofs.lemmas.Int.{ints}
use Rattle.ror_integers.specs.Vectors.{entry, dot, total, ones, weighted, dots, column, NoneNegative, SomePositive}
use Rattle.ror_integers.specs.Motzkin.{Refutes}
use Rattle.ror_integers.proofs.Ring.{sums}
use Rattle.ror_integers.proofs.Order.{product_positive}
use Rattle.ror_integers.proofs.Dots.{dot-append, dot-ones_all}
use Rattle.ror_integers.proofs.Rows.{dot-weighted, dots-append, entry-weighted, length-dots}
use Rattle.ror_integers.proofs.Signs.{NoneNegative-append_left, NoneNegative-append_right, dot_nonnegative, dot_nonpositive, dot_positive}
use Rattle.ror_text.proofs.Everywhere.{all-append}
use Rattle.ror_statement.specs.declared.comparison.Comparison.{Comparison}
use Rattle.ror_statement.specs.declared.statement.Statement.{Statement}
use Rattle.ror_statement.specs.declared.comparison.Form.{Form}
use Rattle.ror_statement.specs.declared.comparison.Relation.TheVariants.{Above}
use Rattle.ror_statement.specs.declared.question.QuestionKind.{QuestionKind}
use Rattle.ror_statement.specs.declared.question.QuestionKind.TheVariants.{Every}
use Rattle.ror_statement.specs.declared.question.Property.{Property}
use Rattle.ror_statement.specs.declared.question.Property.TheVariants.{AtLeast}
use Rattle.ror_statement.specs.declared.question.Question.{Question}
use Rattle.ror_statement.specs.Questions.{kind_of, property_of}
use Rattle.ror_statement.specs.Statements.{comparison_by, comparisons_of}
use Rattle.ror_table.specs.Table.{DecisionTable, columns}
use Rattle.ror_system.specs.System.{LinearSystem, sum_limit}
use Rattle.ror_system.specs.Acceptance.{AreAcceptedMultipliers}
use Rattle.ror_system.specs.declared.accept.Multipliers.{Multipliers}
use Rattle.ror_value.specs.Over.{IsLawfulIn, IsAskedIn}
use Rattle.ror_value.specs.Meaning.{first_quantity, second_quantity, Holds, Meets}
use Rattle.ror_rows.specs.Rows.{turned, weak_rows, strict_rows, system_for, comparison_of_extra, conditions_of, systems_by, systems_of_question}
use Rattle.ror_rows.specs.Laws.{AreNamed}
use Rattle.ror_rows.proofs.Building.{comparisons_named}
use Rattle.ror_rows.proofs.Holding.{WeakHold, StrictHold, first-turned, second-turned, comparisons_hold}
use Rattle.ror_proof.specs.declared.answer.Certificate.TheVariants as certificates
use Rattle.ror_proof.specs.declared.answer.Verdict.{Verdict}
use Rattle.ror_proof.specs.declared.answer.Verdict.TheVariants as verdicts
use Rattle.ror_check.specs.Proof.{OfProof, Proves}
use Rattle.ror_check.proofs.Checking.{AreFewNamed, named_systems}
use Rattle.ror_show_find_proofs.specs.Sums.{refutation, refuted, first_asked, asked_besides, sum_at, width_at, is_used, is_positive_used}
use Rattle.ror_show_find_proofs.specs.SumLaws.{UsedAreBelow, IsMonotoneWhereUsed, SumsSuffice}
use Rattle.ror_show_find_proofs.proofs.Systems.{refutations_fit}

-- ---- signs

-- no term is above 0: an entry is 0, or it is at most 0 where the other is at least 0
abbrev Falls : ℤ → ℤ → Type 0
Falls e x = (e ≡ pos 0) ⊎ ((e ≤ℤ pos 0) × (pos 0 ≤ℤ x))

none_of : (x : ℤ) → pos 0 *ℤ x ≡ pos 0
none_of x = omega (arith, ints)

dot_falls : (es xs : List ℤ) → ((j : ℕ) → Falls (entry es j) (entry xs j)) → dot es xs ≤ℤ pos 0
dot_falls [] xs falls = omega (arith, sums)
dot_falls (e ∷ es) [] falls = omega (arith, sums)
dot_falls (e ∷ es) (x ∷ xs) falls =
    let rest = dot_falls es xs (λ j. falls (suc j)) in
    elim (falls 0) [
      | inl none ↦ let zero_product = none_of x in rw none (omega (arith, sums, rest, zero_product))
      | inr signs ↦ let here = dot_nonpositive (e ∷ []) (x ∷ []) (at signs.0) (signs.1, tt) in omega (arith, sums, rest, here)
    ]
  where
    at : e ≤ℤ pos 0 → (j : ℕ) → entry (e ∷ []) j ≤ℤ pos 0
    at below zero = below
    at below (suc j) = omega (arith, sums)

weak_dots : (rows : List (List ℤ)) (x : List ℤ) → WeakHold x rows → NoneNegative (dots rows x)
weak_dots [] x h = tt
weak_dots (row ∷ rows) x h = (h.0, weak_dots rows x h.1)

strict_dots : (rows : List (List ℤ)) (x : List ℤ) → StrictHold x rows → AllByRecursion (λ y. pos 0 <ℤ y) (dots rows x)
strict_dots [] x h = tt
strict_dots (row ∷ rows) x h = (h.0, strict_dots rows x h.1)

strict_none : (rows : List (List ℤ)) (x : List ℤ) → StrictHold x rows → NoneNegative (dots rows x)
strict_none [] x h = tt
strict_none (row ∷ rows) x h = let p = h.0 in (omega (arith, sums, p), strict_none rows x h.1)

-- ---- a first strict row that need hold only where it is multiplied

strict_above : (row : List ℤ) (strict : List (List ℤ)) (zs x : List ℤ) → length zs ≡ length (row ∷ strict) → NoneNegative zs → SomePositive zs → (pos 0 <ℤ entry zs 0 → pos 0 <ℤ dot row x) → StrictHold x strict → pos 0 <ℤ dot zs (dots (row ∷ strict) x)
strict_above row strict [] x many none some first holds = absurd (omega (arith, some.1))
strict_above row strict (negsuc z ∷ zs) x many none some first holds = absurd (let h = none.0 in omega (arith, sums, h))
strict_above row strict (pos (suc z) ∷ zs) x many none some first holds =
    let p = product_positive (pos (suc z)) (dot row x) (omega (arith, sums)) (first (omega (arith, sums))) in
    let q = dot_nonnegative zs (dots strict x) none.1 (strict_none strict x holds) in
    omega (arith, sums, p, q)
strict_above row strict (pos zero ∷ zs) x many none some first holds =
    let q = dot_positive zs (dots strict x) none.1 (later some.0 some.1 some.2) (strict_dots strict x holds) (omega (arith, many, length-dots strict x)) in
    let zero_product = none_of (dot row x) in
    omega (arith, sums, q, zero_product)
  where
    later : (k : ℕ) → k < length (pos zero ∷ zs) → pos 0 <ℤ entry (pos zero ∷ zs) k → SomePositive zs
    later zero within above = absurd (omega (arith, sums, above))
    later (suc k) within above = (k, omega (arith, within), above)

never : (weak strict : List (List ℤ)) (row ms zs x : List ℤ) → Refutes weak (row ∷ strict) ms zs → ((j : ℕ) → Falls (dot (ms ++ zs) (column (weak ++ row ∷ strict) j)) (entry x j)) → (pos 0 <ℤ entry zs 0 → pos 0 <ℤ dot row x) → WeakHold x weak → StrictHold x strict → ⊥
never weak strict row ms zs x r falls first weak_hold strict_hold =
    let rows = weak ++ row ∷ strict in
    let p = dot_nonnegative ms (dots weak x) (NoneNegative-append_left ms zs r.none_negative) (weak_dots weak x weak_hold) in
    let q = strict_above row strict zs x r.as_many_strict (NoneNegative-append_right ms zs r.none_negative) r.some_positive first strict_hold in
    let e = ap (dot (ms ++ zs)) (dots-append weak (row ∷ strict) x) ∙ dot-append ms zs (dots weak x) (dots (row ∷ strict) x) (r.as_many_weak ∙ sym (length-dots weak x)) in
    let d = dot-weighted (ms ++ zs) rows x in
    let below = dot_falls (weighted (ms ++ zs) rows) x (λ j. subst (λ y. Falls y (entry x j)) (sym (entry-weighted (ms ++ zs) rows j)) (falls j)) in
    omega (arith, sums, p, q, e, d, below)

-- ---- which columns are used

below_is : (x : ℤ) → int_lt x (pos 0) ≡ true → x <ℤ pos 0
below_is x is = grind (arith, ints)

is_below : (x : ℤ) → x <ℤ pos 0 → int_lt x (pos 0) ≡ true
is_below x below = grind (arith, ints)

not_below : (x : ℤ) → int_lt x (pos 0) ≡ false → pos 0 ≤ℤ x
not_below x is = grind (arith, ints)

is_above : (x : ℤ) → pos 0 <ℤ x → int_lt (pos 0) x ≡ true
is_above x above = grind (arith, ints)

within_is : (s : LinearSystem) (m : Multipliers) (j : ℕ) → AreAcceptedMultipliers s m.weak m.strict → is_used s m j ≡ int_lt (sum_at s m j) (pos 0)
within_is s m j accepted = let within = lt-ltb (width_at s m j) sum_limit (accepted.columns_within j) in rw within refl

pub used_are_below : UsedAreBelow
used_are_below = record {
  used = λ s m j accepted. (
    λ there. below_is (sum_at s m j) (sym (within_is s m j accepted) ∙ there),
    λ below. within_is s m j accepted ∙ is_below (sum_at s m j) below,
  );
  others = λ s m j accepted unused. at_zero (sum_at s m j) (accepted.refute.columns j) (not_below (sum_at s m j) (sym (within_is s m j accepted) ∙ unused));
}
  where
    at_zero : (x : ℤ) → x ≤ℤ pos 0 → pos 0 ≤ℤ x → x ≡ pos 0
    at_zero x below above = omega (arith, sums, below, above)

-- ---- of a table

module _ (t : DecisionTable) (list : List Statement) (extra : List Comparison) (m : Multipliers) (w : List ℤ) where
  abbrev system : LinearSystem
  system = system_for t list extra

  column_falls : AreAcceptedMultipliers system m.weak m.strict → IsMonotoneWhereUsed t system m w → (j : ℕ) → Falls (sum_at system m j) (entry w j)
  column_falls accepted monotone j = elim (cases_Bool (is_used system m j)) [
    | inl used ↦ inr (accepted.refute.columns j, monotone.used j used)
    | inr other ↦ inl (used_are_below.others system m j accepted other)
  ]

  ones_hold : length w ≡ columns t → pos 0 <ℤ total w → pos 0 <ℤ dot (ones (columns t)) w
  ones_hold long positive = let sum = dot-ones_all (columns t) w (omega (arith, long)) in omega (arith, sums, sum, positive)

  pub suffices : IsLawfulIn t list → AreNamed t extra → AreAcceptedMultipliers system m.weak m.strict → IsMonotoneWhereUsed t system m w → Meets t w list → AllByRecursion (Holds t w) extra → ⊥
  suffices lawful named accepted monotone meets holds =
      let cs = comparisons_of list in
      let met = (comparisons_hold t w cs (comparisons_named t list lawful.each_valid)).1 meets in
      let more = (comparisons_hold t w extra named).1 holds in
      never (weak_rows t cs ++ weak_rows t extra) (strict_rows t cs ++ strict_rows t extra) (ones (columns t)) m.weak m.strict w accepted.refute
      (column_falls accepted monotone) (λ counts. ones_hold monotone.one_for_each_column (monotone.positive (above counts)))
      (all-append (λ row. pos 0 ≤ℤ dot row w) (weak_rows t cs) (weak_rows t extra) met.0 more.0)
      (all-append (λ row. pos 0 <ℤ dot row w) (strict_rows t cs) (strict_rows t extra) met.1 more.1)
    where
      above : pos 0 <ℤ entry m.strict 0 → is_positive_used m ≡ true
      above counts = is_above (entry m.strict 0) counts

-- ---- of an answer

first_named : (t : DecisionTable) (css : List (List Comparison)) → AllByRecursion (AreFewNamed t) css → AreNamed t (unwrap_or (slice_get css 0) [])
first_named t [] named = tt
first_named t (cs ∷ css) named = named.0.1

pub besides_named : (t : DecisionTable) (list : List Statement) (q : Question) (v : Verdict) → IsLawfulIn t list → IsAskedIn t q → AreNamed t (asked_besides list q v)
besides_named t list q (verdicts.Contradiction proof) lawful asked = tt
besides_named t list q (verdicts.Yes proof) lawful asked = first_named t (systems_of_question list q) (named_systems t list q lawful asked)
besides_named t list q (verdicts.No proof) lawful asked = first_named t (systems_of_question list q) (named_systems t list q lawful asked)
besides_named t list q (verdicts.Wide system note) lawful asked = first_named t (systems_of_question list q) (named_systems t list q lawful asked)

-- what is asked besides, where every function is asked for two quantities, is that the second is greater
every_asks : (list : List Statement) (q : Question) (form : Form) → kind_of q ≡ Every → property_of q ≡ AtLeast form → first_asked list q ≡ comparison_by Above (turned form) ∷ []
every_asks list q form every compares =
    ap (λ (k : QuestionKind). unwrap_or (slice_get (map (map comparison_of_extra) (systems_by k (conditions_of list (property_of q)))) 0) []) every
    ∙ ap (λ (p : Property). unwrap_or (slice_get (map (map comparison_of_extra) (systems_by Every (conditions_of list p))) 0) []) compares

at_least : (t : DecisionTable) (w : List ℤ) (form : Form) → (AllByRecursion (Holds t w) (comparison_by Above (turned form) ∷ []) → ⊥) → second_quantity t w form ≤ℤ first_quantity t w form
at_least t w form never_less = elim (cases_Bool (int_lt (first_quantity t w form) (second_quantity t w form))) [
  | inl less ↦
      let x = first-turned t w form in
      let y = second-turned t w form in
      let l : first_quantity t w form <ℤ second_quantity t w form = less_is (first_quantity t w form) (second_quantity t w form) less in
      absurd (never_less (rw (x, y) l, tt))
  | inr not_less ↦ not_less_is (first_quantity t w form) (second_quantity t w form) not_less
]
  where
    less_is : (a b : ℤ) → int_lt a b ≡ true → a <ℤ b
    less_is a b is = grind (arith, ints)

    not_less_is : (a b : ℤ) → int_lt a b ≡ false → b ≤ℤ a
    not_less_is a b is = grind (arith, ints)

none_meets : (t : DecisionTable) (list : List Statement) (q : Question) (v : Verdict) (m : Multipliers) (w : List ℤ)
    → IsLawfulIn t list → IsAskedIn t q → OfProof (Proves t list q) v
    → refutation v ≡ Some (certificates.Multipliers m) → IsMonotoneWhereUsed t (refuted t list q v) m w
    → Meets t w list → AllByRecursion (Holds t w) (asked_besides list q v) → ⊥
none_meets t list q v m w lawful asked proved is monotone meets holds =
    suffices t list (asked_besides list q v) m w lawful (besides_named t list q v lawful asked) (refutations_fit t list q v m proved is) monotone meets holds

pub sums_suffice : SumsSuffice
sums_suffice = record {
  none = none_meets;
  every = λ t list q form proof m w lawful asked every compares proved is monotone meets. at_least t w form
      (λ holds. none_meets t list q (verdicts.Yes proof) m w lawful asked proved is monotone meets
      (subst (AllByRecursion (Holds t w)) (sym (every_asks list q form every compares)) holds));
}
