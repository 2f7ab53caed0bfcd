-- A solution of the base that is accepted for extra rows alone is accepted for both together, and so are multipliers that few
-- rows of the base and the extra rows accept.
use Rattle.std.proofs.Common.{ℕ, List, [], ℤ, pos, ◌≡◌, ◌++◌, ◌∷◌, ◌<◌, ◌≤ℤ◌, ◌<ℤ◌, Bool, false, Result, Ok, Err, take, drop, subst, sym, take-append-drop}
use Rattle.std.specs.Prelude.{OnOk, IfOk, IsTrue}
use Rattle.std.specs.Result.{is_err}
use Rattle.std.specs.List.{AllByRecursion}
use Rattle.ror_text.proofs.Everywhere.{all-append, all-front, all-back}
use Rattle.ror_integers.specs.Vectors.{dot, absolute_dot, ones}
use Rattle.ror_statement.specs.declared.comparison.Comparison.{Comparison}
use Rattle.ror_system.specs.System.{LinearSystem, sum_limit}
use Rattle.ror_system.specs.Acceptance.{IsAcceptedSolution, AreAcceptedMultipliers}
use Rattle.ror_system.specs.declared.accept.Solution.{Solution}
use Rattle.ror_system.specs.declared.reject.Reject.{Reject}
use Rattle.ror_proof.specs.declared.answer.Certificate.{Certificate}
use Rattle.ror_proof.specs.declared.answer.Certificate.TheVariants as certificates
use Rattle.ror_check.specs.Steps.{IsAcceptedFor}
use Rattle.ror_check.specs.Weighed.{StandsFor}
use Rattle.ror_check.proofs.WeighedRows.{accepted_for_all}
use Rattle.ror_table.specs.Table.{DecisionTable, columns}
use Rattle.ror_rows.specs.Rows.{weak_rows, strict_rows, extended_by, system_for}

pub accepted_beside : (t : DecisionTable) (base : LinearSystem) (cs : List Comparison) (d : List ℤ) → IsAcceptedSolution base d → IsAcceptedSolution (extended_by t (system_for t [] []) cs) d → IsAcceptedSolution (extended_by t base cs) d
accepted_beside t base cs d known beside =
    let W = weak_rows t cs in
    let S = strict_rows t cs in
    let own = known.solves.rows in
    let extra = beside.solves.rows in
    let within = known.rows_within in
    let within_extra : AllByRecursion (λ row. absolute_dot row d < sum_limit) (W ++ (ones (columns t) ∷ S)) = beside.rows_within in
    let few = λ (row : List ℤ). absolute_dot row d < sum_limit in
    record {
      solves = record {
        one_for_each_column = known.solves.one_for_each_column;
        rows = record {
          none_negative = own.none_negative;
          weak_hold = all-append (λ row. pos 0 ≤ℤ dot row d) base.weak W own.weak_hold extra.weak_hold;
          strict_hold = all-append (λ row. pos 0 <ℤ dot row d) base.strict S own.strict_hold extra.strict_hold.1;
        };
      };
      total_positive = known.total_positive;
      total_within = known.total_within;
      rows_within = all-append few (base.weak ++ W) (base.strict ++ S)
          (all-append few base.weak W (all-front few base.weak base.strict within) (all-front few W (ones (columns t) ∷ S) within_extra))
          (all-append few base.strict S (all-back few base.weak base.strict within) (all-back few W (ones (columns t) ∷ S) within_extra).1);
    }

pub shown_beside : {E : Type 0} (t : DecisionTable) (base : LinearSystem) (cs : List Comparison) (c : Certificate) (x : Solution) (accepted : Result (Unit {0}) Reject) (r : Result Bool E) → c ≡ certificates.Solution x → is_err accepted ≡ false → OnOk accepted (IsAcceptedFor base c)
    → IfOk r (λ holds. IsTrue holds → IsAcceptedSolution (extended_by t (system_for t [] []) cs) x.steps) → IfOk r (λ shown. IsTrue shown → IsAcceptedFor (extended_by t base cs) c)
shown_beside t base cs c x accepted (Err e) is ok known beside = tt
shown_beside t base cs c x (Err reject) (Ok holds) is ok known beside = absurd cc
shown_beside t base cs c x (Ok u) (Ok holds) is ok known beside = λ yes. subst (IsAcceptedFor (extended_by t base cs)) (sym is) (accepted_beside t base cs x.steps (subst (IsAcceptedFor base) is known) (beside yes))

pub refuted_by_few : (t : DecisionTable) (base few system : LinearSystem) (cs : List Comparison) (nw weak ns strict : List ℤ) (n k : ℕ) → StandsFor nw few.weak (take n weak) base.weak → StandsFor ns few.strict (take k strict) base.strict → system ≡ extended_by t few cs
    → AreAcceptedMultipliers system (nw ++ drop n weak) (ns ++ drop k strict) → AreAcceptedMultipliers (extended_by t base cs) weak strict
refuted_by_few t base few system cs nw weak ns strict n k w s is accepted =
    let all : AreAcceptedMultipliers (extended_by t base cs) (take n weak ++ drop n weak) (take k strict ++ drop k strict) = accepted_for_all t base few cs nw (take n weak) (drop n weak) ns (take k strict) (drop k strict) w s (subst (λ (z : LinearSystem). AreAcceptedMultipliers z (nw ++ drop n weak) (ns ++ drop k strict)) is accepted) in
    rw (take-append-drop n weak, take-append-drop k strict) at all
