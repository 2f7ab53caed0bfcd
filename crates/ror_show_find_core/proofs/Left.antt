-- What is left without one statement, and the parts of it.
use Rattle.std.proofs.Common.{◌≡◌, ◌≢◌, inl, inr, ℕ, true, false, List, [], ◌∷◌, refl, sym, ap, subst, ◌∙◌}
use Rattle.std.specs.Prelude.{nat_eq, not}
use Rattle.std.specs.List.Sorted.{IsStrictlyIncreasing}
use Rattle.std.specs.Set.{is_member}
use Rattle.std.proofs.lemmas.Bool.{cases_Bool, eqb-true, eq-eqb, false≢true}
use Rattle.ror_statement.specs.declared.statement.Numbered.{Numbered}
use Rattle.ror_statement.specs.Statements.{numbers_in, statements_in}
use Rattle.ror_statement.proofs.Sublists.{IsSublist, sublist-map, sublist-filter, lawful-sublist}
use Rattle.ror_table.specs.Table.{DecisionTable}
use Rattle.ror_value.specs.Over.{IsLawfulIn}
use Rattle.ror_check.specs.Repair.{AreNumbersIn, is_among}
use Rattle.ror_check.proofs.Numbers.{member-here, member-later, member-cases}
use Rattle.ror_reason.specs.Reducts.{part_of, stated}
use Rattle.ror_reason.specs.Laws.{AreAmong}
use Rattle.ror_reason.proofs.Parts.{member_all, all_members, numbers-sublist, numbers-whole}
use Rattle.ror_show_find_core.specs.Withdrawals.{without_statement}

-- ---- fewer statements

left-list : (n : ℕ) (list : List Numbered) → IsSublist (without_statement n list) list
left-list n list = sublist-filter (λ (x : Numbered). not (nat_eq n x.number)) list

pub left-within : (n : ℕ) (list : List Numbered) → IsSublist (statements_in (without_statement n list)) (statements_in list)
left-within n list = sublist-map (λ (x : Numbered). x.statement) (without_statement n list) list (left-list n list)

pub left_lawful : (t : DecisionTable) (n : ℕ) (list : List Numbered) → IsLawfulIn t (statements_in list) → IsLawfulIn t (statements_in (without_statement n list))
left_lawful t n list lawful = lawful-sublist _ _ _ (statements_in (without_statement n list)) (statements_in list) (left-within n list) lawful

pub left_rises : (n : ℕ) (list : List Numbered) → IsStrictlyIncreasing (numbers_in list) → IsStrictlyIncreasing (numbers_in (without_statement n list))
left_rises n list up =
    let sub = sublist-map (λ (x : Numbered). x.number) (without_statement n list) list (left-list n list) in
    (numbers-sublist list (numbers_in (without_statement n list)) (numbers_in list) sub (numbers-whole list up)).rising

-- ---- which numbers are left

left_member : (n m : ℕ) (list : List Numbered) → is_member nat_eq (numbers_in (without_statement n list)) m ≡ true → (is_member nat_eq (numbers_in list) m ≡ true) × (m ≢ n)
left_member n m [] there = absurd cc
left_member n m (x ∷ list) there = elim (cases_Bool (nat_eq n x.number)) [
  | inl same ↦
      let later : is_member nat_eq (numbers_in (without_statement n list)) m ≡ true = (rw same at there) in
      let rest = left_member n m list later in
      (member-later x.number m (numbers_in list) rest.0, rest.1)
  | inr other ↦
      let here : is_member nat_eq (x.number ∷ numbers_in (without_statement n list)) m ≡ true = (rw other at there) in
      elim (member-cases x.number m (numbers_in (without_statement n list)) here) [
        | inl is ↦ (
          subst (λ (k : ℕ). is_member nat_eq (x.number ∷ numbers_in list) k ≡ true) (sym is) (member-here x.number (numbers_in list)),
          λ same. false≢true (sym other ∙ eq-eqb n x.number (sym same ∙ is)),
        )
        | inr later ↦ let rest = left_member n m list later in (member-later x.number m (numbers_in list) rest.0, rest.1)
      ]
]

member_left : (n m : ℕ) (list : List Numbered) → is_member nat_eq (numbers_in list) m ≡ true → m ≢ n → is_member nat_eq (numbers_in (without_statement n list)) m ≡ true
member_left n m [] there other = absurd cc
member_left n m (x ∷ list) there other = elim (cases_Bool (nat_eq n x.number)) [
  | inl gone ↦ elim (member-cases x.number m (numbers_in list) there) [
    | inl is ↦ absurd (other (is ∙ sym (eqb-true n x.number gone)))
    | inr later ↦ rw gone (member_left n m list later other)
  ]
  | inr stays ↦ elim (member-cases x.number m (numbers_in list) there) [
    | inl is ↦ rw stays (subst (λ (k : ℕ). is_member nat_eq (x.number ∷ numbers_in (without_statement n list)) k ≡ true) (sym is) (member-here x.number (numbers_in (without_statement n list))))
    | inr later ↦ rw stays (member-later x.number m (numbers_in (without_statement n list)) (member_left n m list later other))
  ]
]

-- numbers of what is left are numbers of the list, and that of the statement isn't among them
pub numbers_of_left : (n : ℕ) (list : List Numbered) (ns : List ℕ) → AreNumbersIn (without_statement n list) ns → AreNumbersIn list ns × (is_member nat_eq ns n ≡ false)
numbers_of_left n list ns are = (
  record {
    rising = are.rising;
    each_stands = all_members (λ (m : ℕ). is_member nat_eq (numbers_in list) m ≡ true) ns (λ m there. (left_member n m list (each m there)).0);
  },
  elim (cases_Bool (is_member nat_eq ns n)) [
    | inl there ↦ absurd ((left_member n n list (each n there)).1 refl)
    | inr lacks ↦ lacks
  ],
)
  where
    each : (m : ℕ) → is_member nat_eq ns m ≡ true → is_member nat_eq (numbers_in (without_statement n list)) m ≡ true
    each m there = member_all (λ (k : ℕ). is_member nat_eq (numbers_in (without_statement n list)) k ≡ true) ns are.each_stands m there

pub numbers_left : (n : ℕ) (list : List Numbered) (ns : List ℕ) → AreNumbersIn list ns → is_member nat_eq ns n ≡ false → AreNumbersIn (without_statement n list) ns
numbers_left n list ns are lacks = record {
  rising = are.rising;
  each_stands = all_members (λ (m : ℕ). is_member nat_eq (numbers_in (without_statement n list)) m ≡ true) ns each;
}
  where
    each : (m : ℕ) → is_member nat_eq ns m ≡ true → is_member nat_eq (numbers_in (without_statement n list)) m ≡ true
    each m there =
        member_left n m list (member_all (λ (k : ℕ). is_member nat_eq (numbers_in list) k ≡ true) ns are.each_stands m there)
        (λ same. false≢true (sym lacks ∙ subst (λ (k : ℕ). is_member nat_eq ns k ≡ true) same there))

-- ---- parts

-- a part without the statement is the same part of what is left
part_left : (n : ℕ) (ns : List ℕ) (list : List Numbered) → is_member nat_eq ns n ≡ false → part_of ns (without_statement n list) ≡ part_of ns list
part_left n ns [] lacks = refl
part_left n ns (x ∷ list) lacks = elim (cases_Bool (nat_eq n x.number)) [
  | inl same ↦
      let not_named : is_among ns x ≡ false = subst (λ (k : ℕ). is_member nat_eq ns k ≡ false) (eqb-true n x.number same) lacks in
      rw (same, not_named) (part_left n ns list lacks)
  | inr other ↦ elim (cases_Bool (is_among ns x)) [
    | inl named ↦ rw (other, named) (ap (λ (more : List Numbered). x ∷ more) (part_left n ns list lacks))
    | inr passed ↦ rw (other, passed) (part_left n ns list lacks)
  ]
]

pub stated_left : (n : ℕ) (ns : List ℕ) (list : List Numbered) → is_member nat_eq ns n ≡ false → stated ns (without_statement n list) ≡ stated ns list
stated_left n ns list lacks = ap statements_in (part_left n ns list lacks)

-- numbers among others lack what these lack
pub lacks_too : (n : ℕ) (ms ns : List ℕ) → AreAmong ms ns → is_member nat_eq ns n ≡ false → is_member nat_eq ms n ≡ false
lacks_too n ms ns among lacks = elim (cases_Bool (is_member nat_eq ms n)) [
  | inl there ↦ absurd (false≢true (sym lacks ∙ member_all (λ (m : ℕ). is_member nat_eq ns m ≡ true) ms among n there))
  | inr none ↦ none
]
