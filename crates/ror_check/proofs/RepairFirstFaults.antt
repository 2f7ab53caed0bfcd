-- That a refusal of a repair names the first test that fails, and that what is refused is not proved.
use Rattle.std.proofs.Common.{◌≡◌, ◌≢◌, ℕ, ◌<◌, ◌≤◌, List, Some, Result, Ok, Err, refl, sym, ap, subst, ◌∙◌, arith, inl, inr}
use Rattle.std.specs.Prelude.{IfErr, OnOk, slice_get}
use Rattle.ror_text.specs.FirstFault.{IsFirst, IsRefusedBy}
use Rattle.ror_text.proofs.FirstFaultLemmas.{first_at, not_earlier, refused_not_passed}
use Rattle.ror_statement.specs.declared.statement.Numbered.{Numbered}
use Rattle.ror_statement.specs.declared.statement.Statement.{Statement}
use Rattle.ror_table.specs.Table.{DecisionTable}
use Rattle.ror_value.specs.Over.{IsLawfulIn}
use Rattle.ror_system.specs.System.{LinearSystem}
use Rattle.ror_system.specs.declared.reject.Reject.{Reject}
use Rattle.ror_system.proofs.Reasons.{one_solution_reason, one_multiplier_reason}
use Rattle.ror_system.proofs.SolutionTests as solutions
use Rattle.ror_system.proofs.MultiplierTests as multipliers
use Rattle.ror_proof.specs.declared.answer.Certificate.{Certificate}
use Rattle.ror_proof.specs.declared.answer.Certificate.TheVariants as certificates
use Rattle.ror_proof.specs.declared.kept.Dropped.{Dropped}
use Rattle.ror_proof.specs.declared.kept.Kept.{Kept}
use Rattle.ror_check.specs.declared.fault.RepairCheckFault.{RepairCheckFault}
use Rattle.ror_check.specs.declared.fault.RepairCheckFault.TheVariants as faults
use Rattle.ror_check.specs.Proof.{base_system}
use Rattle.ror_check.specs.Faults.{IsRejectedFor}
use Rattle.ror_check.specs.Steps.{IsAcceptedFor}
use Rattle.ror_statement.specs.Statements.{statements_in}
use Rattle.ror_check.specs.Repair.{AreRefuted, AreNumbersIn, kept_of, kept_with, IsRepair, numbers_of, IsBaseKind, IsProvedRepair}
use Rattle.ror_check.specs.RepairFaults.{FailsDropped, FailsRepair, IsRefutationRejected, repair_stage, repair_place, IsEarlierRepairFault}
use Rattle.ror_check.specs.RepairSteps.{RefusesDropped, RefusesBaseOf}
use Rattle.ror_check.proofs.Repairs.{proved_is_repair}

rejected_not_accepted : (s : LinearSystem) (c : Certificate) (r : Reject) → IsRejectedFor s c r → IsAcceptedFor s c → ⊥
rejected_not_accepted s (certificates.Solution x) r first h = solutions.not_accepted s x.steps r first h
rejected_not_accepted s (certificates.Multipliers m) r first h = multipliers.not_accepted s m.weak m.strict r first h

-- a dropped statement whose multipliers are accepted is refused for no reason
refuted_not_refused : (t : DecisionTable) (list : List Numbered) (ds : List Dropped) (n : ℕ) (r : Reject) → AreRefuted t list ds → FailsDropped t list ds n r → ⊥
refuted_not_refused t list ds n r refuted h =
    multipliers.not_accepted (base_system t (kept_with (numbers_of ds) list h.statement_at h.statement)) h.dropped.proof.weak h.dropped.proof.strict r h.rejected
    (refuted h.dropped_at h.statement_at h.dropped h.statement h.dropped_there h.statement_there (h.dropped_number ∙ sym h.statement_number))

-- ---- each fault is the first

module _ (t : DecisionTable) (list : List Numbered) (x : Kept) where
  abbrev IsOfKind : Type 0
  IsOfKind = IsBaseKind (kept_of (numbers_of x.dropped) list) x.base

  pub list_refused : (AreNumbersIn list (numbers_of x.dropped) → ⊥) → IsRefusedBy (FailsRepair t list x) IsEarlierRepairFault faults.Memory faults.WrongList
  list_refused fails ne = record { fails = fails; none_before = before }
    where
      before : (g : RepairCheckFault) → IsEarlierRepairFault g faults.WrongList → FailsRepair t list x g → ⊥
      before g earlier h = not_earlier repair_stage repair_place g faults.WrongList (omega arith) (omega arith) earlier

  pub kind_refused : AreNumbersIn list (numbers_of x.dropped) → (IsOfKind → ⊥) → IsRefusedBy (FailsRepair t list x) IsEarlierRepairFault faults.Memory faults.WrongKind
  kind_refused numbers fails ne = record { fails = fails; none_before = before }
    where
      before : (g : RepairCheckFault) → IsEarlierRepairFault g faults.WrongKind → FailsRepair t list x g → ⊥
      before faults.WrongList earlier h = h numbers
      before faults.WrongKind earlier h = not_earlier repair_stage repair_place faults.WrongKind faults.WrongKind (omega arith) (omega arith) earlier
      before (faults.Dropped n r) earlier h = not_earlier repair_stage repair_place (faults.Dropped n r) faults.WrongKind (omega arith) (omega arith) earlier
      before (faults.Base r) earlier h = not_earlier repair_stage repair_place (faults.Base r) faults.WrongKind (omega arith) (omega arith) earlier
      before faults.Memory earlier h = h

  dropped_first : (n : ℕ) (r : Reject) → AreNumbersIn list (numbers_of x.dropped) → IsOfKind → FailsDropped t list x.dropped n r → ((m : ℕ) (q : Reject) → m < n → FailsDropped t list x.dropped m q → ⊥) → IsFirst (FailsRepair t list x) IsEarlierRepairFault (faults.Dropped n r)
  dropped_first n r numbers kind fails none = record { fails = fails; none_before = before }
    where
      before : (g : RepairCheckFault) → IsEarlierRepairFault g (faults.Dropped n r) → FailsRepair t list x g → ⊥
      before faults.WrongList earlier h = h numbers
      before faults.WrongKind earlier h = h kind
      before (faults.Dropped m q) (inl less) h = absurd (omega arith)
      before (faults.Dropped m q) (inr same) h = none m q same.1 h
      before (faults.Base q) earlier h = not_earlier repair_stage repair_place (faults.Base q) (faults.Dropped n r) (omega arith) (omega arith) earlier
      before faults.Memory earlier h = h

  pub dropped_refused : (e : RepairCheckFault) → AreNumbersIn list (numbers_of x.dropped) → IsOfKind → RefusesDropped t list x.dropped e → IsRefusedBy (FailsRepair t list x) IsEarlierRepairFault faults.Memory e
  dropped_refused faults.WrongList numbers kind h ne = absurd h
  dropped_refused faults.WrongKind numbers kind h ne = absurd h
  dropped_refused (faults.Dropped n r) numbers kind h ne = dropped_first n r numbers kind h.0 h.1
  dropped_refused (faults.Base r) numbers kind h ne = absurd h
  dropped_refused faults.Memory numbers kind h ne = absurd (ne refl)

  base_first : (r : Reject) → AreNumbersIn list (numbers_of x.dropped) → IsOfKind → AreRefuted t list x.dropped → IsRejectedFor (base_system t (statements_in (kept_of (numbers_of x.dropped) list))) x.base r → IsFirst (FailsRepair t list x) IsEarlierRepairFault (faults.Base r)
  base_first r numbers kind refuted fails = record { fails = fails; none_before = before }
    where
      before : (g : RepairCheckFault) → IsEarlierRepairFault g (faults.Base r) → FailsRepair t list x g → ⊥
      before faults.WrongList earlier h = h numbers
      before faults.WrongKind earlier h = h kind
      before (faults.Dropped m q) earlier h = refuted_not_refused t list x.dropped m q refuted h
      before (faults.Base q) earlier h = not_earlier repair_stage repair_place (faults.Base q) (faults.Base r) (omega arith) (omega arith) earlier
      before faults.Memory earlier h = h

  pub repair_base_refused : (list_kept : List Statement) (e : RepairCheckFault) → list_kept ≡ statements_in (kept_of (numbers_of x.dropped) list) → AreNumbersIn list (numbers_of x.dropped) → IsOfKind → AreRefuted t list x.dropped → RefusesBaseOf (base_system t list_kept) x.base e
      → IsRefusedBy (FailsRepair t list x) IsEarlierRepairFault faults.Memory e
  repair_base_refused list_kept faults.WrongList is numbers kind refuted h ne = absurd h
  repair_base_refused list_kept faults.WrongKind is numbers kind refuted h ne = absurd h
  repair_base_refused list_kept (faults.Dropped n r) is numbers kind refuted h ne = absurd h
  repair_base_refused list_kept (faults.Base r) is numbers kind refuted h ne = base_first r numbers kind refuted (subst (λ xs. IsRejectedFor (base_system t xs) x.base r) is h)
  repair_base_refused list_kept faults.Memory is numbers kind refuted h ne = absurd (ne refl)

  -- ---- what is proved passes each test

  pub repair_passes : (fault : RepairCheckFault) → IsProvedRepair t list x → FailsRepair t list x fault → ⊥
  repair_passes faults.WrongList p h = h p.numbers
  repair_passes faults.WrongKind p h = h p.kind
  repair_passes (faults.Dropped n r) p h = refuted_not_refused t list x.dropped n r p.refuted h
  repair_passes (faults.Base r) p h = rejected_not_accepted (base_system t (statements_in (kept_of (numbers_of x.dropped) list))) x.base r h p.base
  repair_passes faults.Memory p h = h

  pub repair_not_proved : {A : Type 0} (r : Result A RepairCheckFault) → IfErr r (IsRefusedBy (FailsRepair t list x) IsEarlierRepairFault faults.Memory) → IfErr r (λ g. g ≢ faults.Memory → IsProvedRepair t list x → ⊥)
  repair_not_proved r h = refused_not_passed (FailsRepair t list x) IsEarlierRepairFault faults.Memory r repair_passes h

  pub repair_proved : (list_kept : List Statement) → list_kept ≡ statements_in (kept_of (numbers_of x.dropped) list) → AreNumbersIn list (numbers_of x.dropped) → IsOfKind → AreRefuted t list x.dropped → IsAcceptedFor (base_system t list_kept) x.base → IsProvedRepair t list x
  repair_proved list_kept is numbers kind refuted base = record {
    numbers = numbers;
    kind = kind;
    refuted = refuted;
    base = subst (λ xs. IsAcceptedFor (base_system t xs) x.base) is base;
  }

-- ---- a repair has one first fault

pub one_reason : (s : LinearSystem) (body : Certificate) (q r : Reject) → IsRejectedFor s body q → IsRejectedFor s body r → q ≡ r
one_reason s (certificates.Solution x) q r first second = one_solution_reason s x.steps q r first second
one_reason s (certificates.Multipliers m) q r first second = one_multiplier_reason s m.weak m.strict q r first second

one_found : {A : Type 0} (xs : List A) (i j : ℕ) (x y : A) → i ≤ j → j ≤ i → slice_get xs i ≡ Some x → slice_get xs j ≡ Some y → y ≡ x
one_found xs i j x y le ge first second =
    let place : j ≡ i = omega arith in
    let both : Some y ≡ Some x = sym (subst (λ k. slice_get xs k ≡ Some y) place second) ∙ first in
    cc

one_dropped_reason : (t : DecisionTable) (list : List Numbered) (ds : List Dropped) (n : ℕ) (q r : Reject) → FailsDropped t list ds n q → FailsDropped t list ds n r → q ≡ r
one_dropped_reason t list ds n q r f g =
    let at = f.dropped_first g.dropped_at g.dropped g.dropped_there g.dropped_number in
    let at' = g.dropped_first f.dropped_at f.dropped f.dropped_there f.dropped_number in
    let dropped : g.dropped ≡ f.dropped = one_found ds f.dropped_at g.dropped_at f.dropped g.dropped at at' f.dropped_there g.dropped_there in
    let le = f.statement_first g.statement_at g.statement g.statement_there g.statement_number in
    let ge = g.statement_first f.statement_at f.statement f.statement_there f.statement_number in
    let place : g.statement_at ≡ f.statement_at = omega arith in
    let statement : g.statement ≡ f.statement = one_found list f.statement_at g.statement_at f.statement g.statement le ge f.statement_there g.statement_there in
    let over : ℕ → Numbered → Dropped → Type 0 = λ k s d. IsRefutationRejected t (kept_with (numbers_of ds) list k s) d r in
    let here : over f.statement_at f.statement f.dropped = subst (λ d. over f.statement_at f.statement d) dropped (subst (λ s. over f.statement_at s g.dropped) statement (subst (λ k. over k g.statement g.dropped) place g.rejected)) in
    one_multiplier_reason (base_system t (kept_with (numbers_of ds) list f.statement_at f.statement)) f.dropped.proof.weak f.dropped.proof.strict q r f.rejected here

module _ (t : DecisionTable) (list : List Numbered) (x : Kept) where
  one_of_stage : (f g : RepairCheckFault) → FailsRepair t list x f → FailsRepair t list x g → repair_stage f ≡ repair_stage g → repair_place f ≡ repair_place g → f ≡ g
  one_of_stage faults.Memory g first second stage place = absurd first
  one_of_stage f faults.Memory first second stage place = absurd second
  one_of_stage faults.WrongList faults.WrongList first second stage place = refl
  one_of_stage faults.WrongKind faults.WrongKind first second stage place = refl
  one_of_stage (faults.Dropped n q) (faults.Dropped m r) first second stage place =
      let here = subst (λ k. FailsDropped t list x.dropped k r) (sym place) second in
      ap (λ k. faults.Dropped k q) place ∙ ap (λ y. faults.Dropped m y) (one_dropped_reason t list x.dropped n q r first here)
  one_of_stage (faults.Base q) (faults.Base r) first second stage place =
      ap (λ y. faults.Base y) (one_reason (base_system t (statements_in (kept_of (numbers_of x.dropped) list))) x.base q r first second)
  one_of_stage f g first second stage place = absurd (omega arith)

  pub one_repair_fault : (f g : RepairCheckFault) → IsFirst (FailsRepair t list x) IsEarlierRepairFault f → IsFirst (FailsRepair t list x) IsEarlierRepairFault g → f ≡ g
  one_repair_fault f g first second =
      let at = first_at (FailsRepair t list x) repair_stage repair_place f g first second in
      one_of_stage f g first.fails second.fails at.0 at.1

-- ---- the answer of a check, once the dropped statements are accepted

pub record IsAnsweredBy (t : DecisionTable) (list : List Numbered) (x : Kept) (r : Result (Unit {0}) RepairCheckFault) : Type 0 where
  pub accepted : OnOk r (IsProvedRepair t list x)
  pub refused : IfErr r (IsRefusedBy (FailsRepair t list x) IsEarlierRepairFault faults.Memory)

pub base_answers : (t : DecisionTable) (list : List Numbered) (x : Kept) (ds : List Dropped) (kept : List Statement) (r : Result (Unit {0}) RepairCheckFault) → ds ≡ x.dropped → kept ≡ statements_in (kept_of (numbers_of ds) list)
    → AreNumbersIn list (numbers_of ds) → IsBaseKind (kept_of (numbers_of ds) list) x.base → AreRefuted t list ds → OnOk r (IsAcceptedFor (base_system t kept) x.base) → IfErr r (RefusesBaseOf (base_system t kept) x.base) → IsAnsweredBy t list x r
base_answers t list x ds kept (Ok u) own is numbers kind refuted ok err = record {
  accepted = repair_proved t list x kept (is ∙ ap (λ ds. statements_in (kept_of (numbers_of ds) list)) own) (subst (λ ds. AreNumbersIn list (numbers_of ds)) own numbers) (subst (λ ds. IsBaseKind (kept_of (numbers_of ds) list) x.base) own kind) (subst (AreRefuted t list) own refuted) ok;
  refused = tt;
}
base_answers t list x ds kept (Err e) own is numbers kind refuted ok err = record {
  accepted = tt;
  refused = repair_base_refused t list x kept e (is ∙ ap (λ ds. statements_in (kept_of (numbers_of ds) list)) own) (subst (λ ds. AreNumbersIn list (numbers_of ds)) own numbers) (subst (λ ds. IsBaseKind (kept_of (numbers_of ds) list) x.base) own kind) (subst (AreRefuted t list) own refuted) err;
}

pub true_where_proved : {A : Type 0} (t : DecisionTable) (list : List Numbered) (x : Kept) (r : Result A RepairCheckFault) → IsLawfulIn t (statements_in list) → OnOk r (IsProvedRepair t list x) → OnOk r (IsRepair t list (numbers_of x.dropped))
true_where_proved t list x (Ok u) lawful p = proved_is_repair t list x lawful p
true_where_proved t list x (Err e) lawful p = tt
