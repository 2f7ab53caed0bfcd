-- Which fault a revision has first.
use Rattle.std.proofs.Common.{◌≡◌, ◌≢◌, ◌⊎◌, inl, inr, ℕ, ◌<◌, ◌≤◌, ◌==◌, eqb-true, List, [], ◌∷◌, ◌++◌, length, refl, sym, subst, arith}
use Rattle.std.specs.List.{All, Contains}
use Rattle.std.proofs.lemmas.Bool.{cases_Bool, cases_lt}
use Rattle.std.proofs.lemmas.List.Elements.{All-head, All-tail, All-nil, All-cons}
use Rattle.ror_text.specs.FirstFault.{IsFirst, IsRefusedBy}
use Rattle.ror_text.proofs.FirstFaultLemmas.{not_earlier}
use Rattle.ror_chain.proofs.OrderLemmas.{Absent, Apart, Apart-from_distinct, distinct_from_Apart, absent_not_contained, Contains-cut, Contains-wider}
use Rattle.ror_statement.specs.declared.row_number.TheConstants.{MOST_STATEMENTS, MOST_ROWS}
use Rattle.ror_statement.specs.declared.statement.Statement.{Statement}
use Rattle.ror_statement.specs.RowNumbers.{row_count}
use Rattle.ror_history.specs.declared.history.HistoryFault.{HistoryFault}
use Rattle.ror_history.specs.declared.history.HistoryFault.TheVariants.{NoSuchStatement, NothingToUndo, TooManyStatements, TooManyRows, Memory}
use Rattle.ror_history.specs.History.{Revisions, replacement, standing, statements_of, with_revision}
use Rattle.ror_statement.specs.Statements.{numbers_in}
use Rattle.ror_history.specs.Laws.{HasOneFirstFault}
use Rattle.ror_history.specs.Faults.{FailsAddition, CanBeAdded, Stands, CanBeReplaced, FailsReplacement, AreEachOnce, CanBeWithdrawn, FailsWithdrawal, fault_stage, IsEarlierFault}

pub full : (r : Revisions) (s : Statement) → MOST_STATEMENTS ≤ length (standing r) → IsRefusedBy (FailsAddition r s) IsEarlierFault Memory TooManyStatements
full r s fails = λ _. record { fails = fails; none_before = before }
  where
    before : (other : HistoryFault) → IsEarlierFault other TooManyStatements → FailsAddition r s other → ⊥
    before TooManyStatements earlier f = not_earlier fault_stage (λ _. 0) TooManyStatements TooManyStatements (omega arith) (omega arith) earlier
    before TooManyRows earlier f = not_earlier fault_stage (λ _. 0) TooManyRows TooManyStatements (omega arith) (omega arith) earlier
    before NoSuchStatement earlier f = f
    before NothingToUndo earlier f = f
    before Memory earlier f = f

pub past_rows : (r : Revisions) (s : Statement) → length (standing r) < MOST_STATEMENTS → MOST_ROWS < row_count (statements_of r ++ s ∷ []) → IsRefusedBy (FailsAddition r s) IsEarlierFault Memory TooManyRows
past_rows r s few fails = λ _. record { fails = fails; none_before = before }
  where
    before : (other : HistoryFault) → IsEarlierFault other TooManyRows → FailsAddition r s other → ⊥
    before TooManyStatements earlier f = omega (arith, few, f)
    before TooManyRows earlier f = not_earlier fault_stage (λ _. 0) TooManyRows TooManyRows (omega arith) (omega arith) earlier
    before NoSuchStatement earlier f = f
    before NothingToUndo earlier f = f
    before Memory earlier f = f

can_be_added : (r : Revisions) (s : Statement) → ((fault : HistoryFault) → ¬ (FailsAddition r s fault)) → CanBeAdded r s
can_be_added r s none = record { few = few (cases_lt (length (standing r)) MOST_STATEMENTS); rows = rows (cases_lt MOST_ROWS (row_count (statements_of r ++ s ∷ []))) }
  where
    few : (length (standing r) < MOST_STATEMENTS) ⊎ (MOST_STATEMENTS ≤ length (standing r)) → length (standing r) < MOST_STATEMENTS
    few (inl l) = l
    few (inr l) = absurd (none TooManyStatements l)

    rows : (MOST_ROWS < row_count (statements_of r ++ s ∷ [])) ⊎ (row_count (statements_of r ++ s ∷ []) ≤ MOST_ROWS) → row_count (statements_of r ++ s ∷ []) ≤ MOST_ROWS
    rows (inl l) = absurd (none TooManyRows l)
    rows (inr l) = l

no_fault : (r : Revisions) (s : Statement) → CanBeAdded r s → (fault : HistoryFault) → ¬ (FailsAddition r s fault)
no_fault r s h TooManyStatements f = let few = h.few in omega arith
no_fault r s h TooManyRows f = let rows = h.rows in omega arith
no_fault r s h NoSuchStatement f = f
no_fault r s h NothingToUndo f = f
no_fault r s h Memory f = f

one_fault : (r : Revisions) (s : Statement) (f g : HistoryFault) → IsFirst (FailsAddition r s) IsEarlierFault f → IsFirst (FailsAddition r s) IsEarlierFault g → f ≡ g
one_fault r s NoSuchStatement g first second = absurd first.fails
one_fault r s NothingToUndo g first second = absurd first.fails
one_fault r s TooManyStatements NoSuchStatement first second = absurd second.fails
one_fault r s TooManyStatements NothingToUndo first second = absurd second.fails
one_fault r s TooManyStatements TooManyStatements first second = refl
one_fault r s TooManyStatements TooManyRows first second = absurd (second.none_before TooManyStatements (inl (omega arith)) first.fails)
one_fault r s TooManyStatements Memory first second = absurd second.fails
one_fault r s TooManyRows NoSuchStatement first second = absurd second.fails
one_fault r s TooManyRows NothingToUndo first second = absurd second.fails
one_fault r s TooManyRows TooManyStatements first second = absurd (first.none_before TooManyStatements (inl (omega arith)) second.fails)
one_fault r s TooManyRows TooManyRows first second = refl
one_fault r s TooManyRows Memory first second = absurd second.fails
one_fault r s Memory g first second = absurd first.fails

-- ---- replacements and withdrawals

pub not_standing : (r : Revisions) (n : ℕ) (s : Statement) → ¬ (Stands r n) → IsRefusedBy (FailsReplacement r n s) IsEarlierFault Memory NoSuchStatement
not_standing r n s fails = λ _. record { fails = fails; none_before = before }
  where
    before : (other : HistoryFault) → IsEarlierFault other NoSuchStatement → FailsReplacement r n s other → ⊥
    before NoSuchStatement earlier f = not_earlier fault_stage (λ _. 0) NoSuchStatement NoSuchStatement (omega arith) (omega arith) earlier
    before NothingToUndo earlier f = f
    before TooManyStatements earlier f = f
    before TooManyRows earlier f = not_earlier fault_stage (λ _. 0) TooManyRows NoSuchStatement (omega arith) (omega arith) earlier
    before Memory earlier f = f

pub past_rows_replaced : (r : Revisions) (n : ℕ) (s : Statement) → Stands r n → MOST_ROWS < row_count (statements_of (with_revision r (replacement n s))) → IsRefusedBy (FailsReplacement r n s) IsEarlierFault Memory TooManyRows
past_rows_replaced r n s stands fails = λ _. record { fails = fails; none_before = before }
  where
    before : (other : HistoryFault) → IsEarlierFault other TooManyRows → FailsReplacement r n s other → ⊥
    before NoSuchStatement earlier f = f stands
    before NothingToUndo earlier f = f
    before TooManyStatements earlier f = f
    before TooManyRows earlier f = not_earlier fault_stage (λ _. 0) TooManyRows TooManyRows (omega arith) (omega arith) earlier
    before Memory earlier f = f

pub not_each_once : (r : Revisions) (ns : List ℕ) → ¬ (CanBeWithdrawn r ns) → IsRefusedBy (FailsWithdrawal r ns) IsEarlierFault Memory NoSuchStatement
not_each_once r ns fails = λ _. record { fails = fails; none_before = before }
  where
    before : (other : HistoryFault) → IsEarlierFault other NoSuchStatement → FailsWithdrawal r ns other → ⊥
    before NoSuchStatement earlier f = not_earlier fault_stage (λ _. 0) NoSuchStatement NoSuchStatement (omega arith) (omega arith) earlier
    before NothingToUndo earlier f = f
    before TooManyStatements earlier f = f
    before TooManyRows earlier f = f
    before Memory earlier f = f

pub refused_not_once : (r : Revisions) (ns : List ℕ) (e : HistoryFault) → (e ≢ Memory → (e ≡ NoSuchStatement) × ¬ (CanBeWithdrawn r ns)) → IsRefusedBy (FailsWithdrawal r ns) IsEarlierFault Memory e
refused_not_once r ns e h = λ other. subst (IsFirst (FailsWithdrawal r ns) IsEarlierFault) (sym (h other).0) (not_each_once r ns (h other).1 (λ same. absurd cc))

-- ---- each can be decided

absent_or : (n : ℕ) (xs : List ℕ) → Absent n xs ⊎ Contains xs n
absent_or n [] = inl tt
absent_or n (x ∷ xs) = elim (cases_Bool (x == n)) [
  | inl same ↦ inr (subst (λ m. Contains (x ∷ xs) m) (eqb-true x n same) (Contains-cut [] x xs))
  | inr other ↦ elim (absent_or n xs) [
    | inl absent ↦ inl (other, absent)
    | inr contained ↦ inr (Contains-wider [] x xs n contained)
  ]
]

apart_or : (xs : List ℕ) → Apart xs ⊎ (¬ (Apart xs))
apart_or [] = inl tt
apart_or (x ∷ xs) = elim (absent_or x xs) [
  | inl absent ↦ elim (apart_or xs) [
    | inl apart ↦ inl (absent, apart)
    | inr not_apart ↦ inr (λ h. not_apart h.1)
  ]
  | inr contained ↦ inr (λ h. absent_not_contained xs x h.0 contained)
]

among_or : (those these : List ℕ) → All (Contains those) these ⊎ (¬ (All (Contains those) these))
among_or those [] = inl (All-nil (Contains those))
among_or those (x ∷ xs) = elim (absent_or x those) [
  | inl absent ↦ inr (λ h. absent_not_contained those x absent (All-head (Contains those) x xs h))
  | inr contained ↦ elim (among_or those xs) [
    | inl among ↦ inl (All-cons (Contains those) x xs contained among)
    | inr not_among ↦ inr (λ h. not_among (All-tail (Contains those) x xs h))
  ]
]

each_once_or : (those these : List ℕ) → AreEachOnce those these ⊎ (¬ (AreEachOnce those these))
each_once_or those these = elim (among_or those these) [
  | inl among ↦ elim (apart_or these) [
    | inl apart ↦ inl (record { among = among; once = distinct_from_Apart these apart })
    | inr not_apart ↦ inr (λ h. not_apart (Apart-from_distinct these h.once))
  ]
  | inr not_among ↦ inr (λ h. not_among h.among)
]

-- ---- so is the first fault

pub one_first_added : (r : Revisions) (s : Statement) → HasOneFirstFault (CanBeAdded r s) (FailsAddition r s)
one_first_added r s = record { no_test_fails = (no_fault r s, can_be_added r s); one = one_fault r s }

pub one_first_withdrawn : (r : Revisions) (ns : List ℕ) → HasOneFirstFault (CanBeWithdrawn r ns) (FailsWithdrawal r ns)
one_first_withdrawn r ns = record { no_test_fails = (none, can); one = one }
  where
    none : CanBeWithdrawn r ns → (fault : HistoryFault) → ¬ (FailsWithdrawal r ns fault)
    none h NoSuchStatement f = f h
    none h NothingToUndo f = f
    none h TooManyStatements f = f
    none h TooManyRows f = f
    none h Memory f = f

    can : ((fault : HistoryFault) → ¬ (FailsWithdrawal r ns fault)) → CanBeWithdrawn r ns
    can h = elim (each_once_or (numbers_in (standing r)) ns) [
      | inl once ↦ once
      | inr not_once ↦ absurd (h NoSuchStatement not_once)
    ]

    one : (f g : HistoryFault) → IsFirst (FailsWithdrawal r ns) IsEarlierFault f → IsFirst (FailsWithdrawal r ns) IsEarlierFault g → f ≡ g
    one NoSuchStatement NoSuchStatement first second = refl
    one NoSuchStatement NothingToUndo first second = absurd second.fails
    one NoSuchStatement TooManyStatements first second = absurd second.fails
    one NoSuchStatement TooManyRows first second = absurd second.fails
    one NoSuchStatement Memory first second = absurd second.fails
    one NothingToUndo g first second = absurd first.fails
    one TooManyStatements g first second = absurd first.fails
    one TooManyRows g first second = absurd first.fails
    one Memory g first second = absurd first.fails

pub one_first_replaced : (r : Revisions) (n : ℕ) (s : Statement) → HasOneFirstFault (CanBeReplaced r n s) (FailsReplacement r n s)
one_first_replaced r n s = record { no_test_fails = (none, can); one = one }
  where
    none : CanBeReplaced r n s → (fault : HistoryFault) → ¬ (FailsReplacement r n s fault)
    none h NoSuchStatement f = f h.stands
    none h NothingToUndo f = f
    none h TooManyStatements f = f
    none h TooManyRows f = let rows = h.rows in omega arith
    none h Memory f = f

    fits : (MOST_ROWS < row_count (statements_of (with_revision r (replacement n s)))) ⊎ (row_count (statements_of (with_revision r (replacement n s))) ≤ MOST_ROWS) → ((fault : HistoryFault) → ¬ (FailsReplacement r n s fault)) → row_count (statements_of (with_revision r (replacement n s))) ≤ MOST_ROWS
    fits (inl l) h = absurd (h TooManyRows l)
    fits (inr l) h = l

    can : ((fault : HistoryFault) → ¬ (FailsReplacement r n s fault)) → CanBeReplaced r n s
    can h = record {
      stands = elim (absent_or n (numbers_in (standing r))) [
        | inl absent ↦ absurd (h NoSuchStatement (absent_not_contained (numbers_in (standing r)) n absent))
        | inr contained ↦ contained
      ];
      rows = fits (cases_lt MOST_ROWS (row_count (statements_of (with_revision r (replacement n s))))) h;
    }

    one : (f g : HistoryFault) → IsFirst (FailsReplacement r n s) IsEarlierFault f → IsFirst (FailsReplacement r n s) IsEarlierFault g → f ≡ g
    one NoSuchStatement NoSuchStatement first second = refl
    one NoSuchStatement NothingToUndo first second = absurd second.fails
    one NoSuchStatement TooManyStatements first second = absurd second.fails
    one NoSuchStatement TooManyRows first second = absurd (second.none_before NoSuchStatement (inl (omega arith)) first.fails)
    one NoSuchStatement Memory first second = absurd second.fails
    one NothingToUndo g first second = absurd first.fails
    one TooManyStatements g first second = absurd first.fails
    one TooManyRows NoSuchStatement first second = absurd (first.none_before NoSuchStatement (inl (omega arith)) second.fails)
    one TooManyRows NothingToUndo first second = absurd second.fails
    one TooManyRows TooManyStatements first second = absurd second.fails
    one TooManyRows TooManyRows first second = refl
    one TooManyRows Memory first second = absurd second.fails
    one Memory g first second = absurd first.fails
