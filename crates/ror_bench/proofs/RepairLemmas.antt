-- A repair at a desk: that what it drops can be withdrawn, that what it says is true, and for what its body is refused.
use Rattle.std.proofs.Common.{◌≡◌, ◌≢◌, ℕ, ◌<◌, true, false, nat_eq, List, [], ◌∷◌, refl, sym, subst, arith, ne_eqb, eqb-true, eq-eqb}
use Rattle.std.specs.List.{All, AllByRecursion, Contains, IsDistinct}
use Rattle.std.specs.Set.{is_member}
use Rattle.std.proofs.lemmas.List.Elements.{All-nil, All-cons}
use Rattle.std.proofs.lemmas.Map.Keys.{IsDistinct-cons}
use Rattle.std.proofs.lemmas.Map.Made.{is_member-Decides}
use Rattle.ror_text.specs.FirstFault.{IsRefusedBy}
use Rattle.ror_text.proofs.Everywhere.{all-by}
use Rattle.ror_chain.proofs.OrderLemmas.{distinct_from_Apart}
use Rattle.ror_statement.specs.declared.statement.Numbered.{Numbered}
use Rattle.ror_table.specs.Table.{DecisionTable}
use Rattle.ror_value.specs.Over.{IsLawfulIn}
use Rattle.ror_session.specs.declared.session.Command.{Command}
use Rattle.ror_session.specs.declared.session.Command.TheVariants.{State, Withdraw, Replace, Repair, Undo, Ask}
use Rattle.ror_proof.specs.declared.kept.Kept.{Kept}
use Rattle.ror_check.specs.declared.fault.RepairCheckFault.{RepairCheckFault}
use Rattle.ror_check.specs.declared.fault.RepairCheckFault.TheVariants as repairs
use Rattle.ror_check.specs.Repair.{AreNumbersIn}
use Rattle.ror_check.specs.RepairFaults.{FailsRepair, IsEarlierRepairFault}
use Rattle.ror_check.proofs.Numbers.{Rises, rises}
use Rattle.ror_check.proofs.Repairs.{proved_is_repair}
use Rattle.ror_check.proofs.RepairFirstFaults.{repair_passes}
use Rattle.ror_report.specs.declared.block.Body.{Body}
use Rattle.ror_report.specs.declared.block.Body.TheVariants as bodies
use Rattle.ror_history.specs.History.{Revisions, standing, statements_of}
use Rattle.ror_history.specs.declared.history.HistoryFault.{HistoryFault}
use Rattle.ror_history.specs.declared.history.HistoryFault.TheVariants as histories
use Rattle.ror_history.specs.Faults.{CanBeWithdrawn, FailsWithdrawal, IsEarlierFault}
use Rattle.ror_bench.specs.Allowed.{Allowing, IsOfRepair, IsRepairProvedUnlessWide, of_form, proved_unless_wide}
use Rattle.ror_bench.specs.Blocks.{IsBodyOf, refused, taken, IsTrueRepair}
use Rattle.ror_bench.specs.Faults.{FailsRepairOf}
use Rattle.ror_bench.specs.Steps.{RefusesBody, fault_of_repair}
use Rattle.ror_bench.proofs.CommandLemmas.{repair_taken}

-- ---- what is dropped stands, each once

distinct : (ns : List ℕ) → Rises ns → IsDistinct nat_eq ns
distinct [] h = distinct_from_Apart [] tt
distinct (n ∷ ns) h = IsDistinct-cons nat_eq n ns (all-by (λ m. n < m) (λ m. nat_eq n m ≡ false) ns (λ m above. ne_eqb n m (λ same. absurd (omega arith))) h.0) (distinct ns h.1)

-- a member of a list stands in it
pub contained : (ns : List ℕ) (n : ℕ) → is_member nat_eq ns n ≡ true → Contains ns n
contained ns n among = (is_member-Decides (λ (a b : ℕ). (eqb-true a b, eq-eqb a b)) ns n).0 among

each_among : (those ns : List ℕ) → AllByRecursion (λ n. is_member nat_eq those n ≡ true) ns → All (Contains those) ns
each_among those [] h = All-nil (Contains those)
each_among those (n ∷ ns) h = All-cons (Contains those) n ns (contained those n h.0) (each_among those ns h.1)

pub dropped_stand : (r : Revisions) (ns : List ℕ) → AreNumbersIn (standing r) ns → CanBeWithdrawn r ns
dropped_stand r ns h = record { among = each_among _ ns h.each_stands; once = distinct ns (rises ns h.rising) }

-- so that nothing but memory can lack
pub never_refused : (r : Revisions) (ns ms : List ℕ) (fault : HistoryFault) → AreNumbersIn (standing r) ns → ms ≡ ns → (fault ≢ histories.Memory) → IsRefusedBy (FailsWithdrawal r ms) IsEarlierFault histories.Memory fault → ⊥
never_refused r ns ms histories.NoSuchStatement h same other first = (first other).fails (subst (CanBeWithdrawn r) (sym same) (dropped_stand r ns h))
never_refused r ns ms histories.NothingToUndo h same other first = (first other).fails
never_refused r ns ms histories.TooManyStatements h same other first = (first other).fails
never_refused r ns ms histories.TooManyRows h same other first = (first other).fails
never_refused r ns ms histories.Memory h same other first = absurd (other refl)

-- ---- a body of a repair

pub of_repair_of_proved : (t : DecisionTable) (list : List Numbered) (body : Body) → IsRepairProvedUnlessWide t list body → IsOfRepair t list body
of_repair_of_proved t list (bodies.Repaired kept) h = tt
of_repair_of_proved t list (bodies.RepairWide n note) h = tt
of_repair_of_proved t list (bodies.Added n) h = absurd h
of_repair_of_proved t list (bodies.Withdrawn n) h = absurd h
of_repair_of_proved t list (bodies.Replaced n) h = absurd h
of_repair_of_proved t list bodies.Undone h = absurd h
of_repair_of_proved t list (bodies.Answers xs) h = absurd h
of_repair_of_proved t list (bodies.Refused fault) h = absurd h

pub repair_body : (H : Allowing) (t : DecisionTable) (r : Revisions) (body : Body) → H.repair t (standing r) body → IsBodyOf H t r Repair body
repair_body H t r body h = taken (repair_taken t r) h

proved_repair_true : (t : DecisionTable) (r : Revisions) (body : Body) → IsLawfulIn t (statements_of r) → IsRepairProvedUnlessWide t (standing r) body → IsTrueRepair t (standing r) body
proved_repair_true t r (bodies.Repaired kept) lawful h = proved_is_repair t (standing r) kept lawful h
proved_repair_true t r (bodies.RepairWide n note) lawful h = tt
proved_repair_true t r (bodies.Added n) lawful h = tt
proved_repair_true t r (bodies.Withdrawn n) lawful h = tt
proved_repair_true t r (bodies.Replaced n) lawful h = tt
proved_repair_true t r bodies.Undone lawful h = tt
proved_repair_true t r (bodies.Answers xs) lawful h = tt
proved_repair_true t r (bodies.Refused fault) lawful h = tt

pub repair_true : (t : DecisionTable) (r : Revisions) (command : Command) (body : Body) → IsLawfulIn t (statements_of r) → IsBodyOf proved_unless_wide t r command body → IsTrueRepair t (standing r) body
repair_true t r command body lawful (refused fault first is) = subst (IsTrueRepair t (standing r)) (sym is) tt
repair_true t r (State named) body lawful (taken passes is) = subst (IsTrueRepair t (standing r)) (sym is) tt
repair_true t r (Withdraw n) body lawful (taken passes is) = subst (IsTrueRepair t (standing r)) (sym is) tt
repair_true t r (Replace n named) body lawful (taken passes is) = subst (IsTrueRepair t (standing r)) (sym is) tt
repair_true t r Repair body lawful (taken passes is) = proved_repair_true t r body lawful is
repair_true t r Undo body lawful (taken passes is) = subst (IsTrueRepair t (standing r)) (sym is) tt
repair_true t r (Ask asked) body lawful (taken passes is) = subst (IsTrueRepair t (standing r)) (sym is.0) tt

-- ---- what is proved passes each test

proved_repair_passes : (t : DecisionTable) (list : List Numbered) (body : Body) (fault : RepairCheckFault) → IsRepairProvedUnlessWide t list body → FailsRepairOf t list body fault → ⊥
proved_repair_passes t list (bodies.Repaired kept) fault p h = repair_passes t list kept fault p h.fails
proved_repair_passes t list (bodies.RepairWide n note) fault p h = h
proved_repair_passes t list (bodies.Added n) fault p h = h
proved_repair_passes t list (bodies.Withdrawn n) fault p h = h
proved_repair_passes t list (bodies.Replaced n) fault p h = h
proved_repair_passes t list bodies.Undone fault p h = h
proved_repair_passes t list (bodies.Answers xs) fault p h = h
proved_repair_passes t list (bodies.Refused refusal) fault p h = h

module _ (t : DecisionTable) (r : Revisions) (fault : RepairCheckFault) where
  -- a body of another form has no repair
  none_fails : (body other : Body) → body ≡ other → (FailsRepairOf t (standing r) other fault → ⊥) → FailsRepairOf t (standing r) body fault → ⊥
  none_fails body other is none h = none (subst (λ (b : Body). FailsRepairOf t (standing r) b fault) is h)

  pub repair_passes_block : (command : Command) (body : Body) → IsBodyOf proved_unless_wide t r command body → FailsRepairOf t (standing r) body fault → ⊥
  repair_passes_block command body (refused refusal first is) h = none_fails body (bodies.Refused refusal) is (λ k. k) h
  repair_passes_block (State named) body (taken passes is) h = none_fails body _ is (λ k. k) h
  repair_passes_block (Withdraw n) body (taken passes is) h = none_fails body _ is (λ k. k) h
  repair_passes_block (Replace n named) body (taken passes is) h = none_fails body _ is (λ k. k) h
  repair_passes_block Repair body (taken passes is) h = proved_repair_passes t (standing r) body fault is h
  repair_passes_block Undo body (taken passes is) h = none_fails body _ is (λ k. k) h
  repair_passes_block (Ask asked) body (taken passes is) h = none_fails body _ is.0 (λ k. k) h

-- ---- a body that is refused

-- a body of another form is another's
pub not_repaired : (t : DecisionTable) (r : Revisions) (body : Body) → ((kept : Kept) → body ≢ bodies.Repaired kept) → ((n : ℕ) (note : _) → body ≢ bodies.RepairWide n note) → IsBodyOf of_form t r Repair body → ⊥
not_repaired t r body other narrow (refused fault first is) = repair_taken t r fault first.fails
not_repaired t r (bodies.Repaired kept) other narrow (taken passes is) = other kept refl
not_repaired t r (bodies.RepairWide n note) other narrow (taken passes is) = narrow n note refl
not_repaired t r (bodies.Added n) other narrow (taken passes is) = is
not_repaired t r (bodies.Withdrawn n) other narrow (taken passes is) = is
not_repaired t r (bodies.Replaced n) other narrow (taken passes is) = is
not_repaired t r bodies.Undone other narrow (taken passes is) = is
not_repaired t r (bodies.Answers xs) other narrow (taken passes is) = is
not_repaired t r (bodies.Refused fault) other narrow (taken passes is) = is

module _ (t : DecisionTable) (r : Revisions) (kept : Kept) where
  -- the first fault of the repair is the fault of its body
  pub repair_refused : (fault : RepairCheckFault) → IsRefusedBy (FailsRepair t (standing r) kept) IsEarlierRepairFault repairs.Memory fault → RefusesBody t r Repair (bodies.Repaired kept) (fault_of_repair fault)
  repair_refused repairs.WrongList first = (taken (repair_taken t r) tt, first (λ e. cc))
  repair_refused repairs.WrongKind first = (taken (repair_taken t r) tt, first (λ e. cc))
  repair_refused (repairs.Dropped n q) first = (taken (repair_taken t r) tt, first (λ e. cc))
  repair_refused (repairs.Base q) first = (taken (repair_taken t r) tt, first (λ e. cc))
  repair_refused repairs.Memory first = tt
