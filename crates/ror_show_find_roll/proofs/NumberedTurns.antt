-- That each surviving addition keeps having the number that was next when it came.
use Rattle.std.proofs.Common.{◌≡◌, ℕ, ◌-◌, List, ◌∷◌, ◌++◌, length, drop, Result, Ok, Err, sym, ap, subst, ◌∙◌, append_assoc}
use Rattle.std.specs.Prelude.{[]}
use Rattle.std.specs.Result.{result_ok}
use Rattle.std.proofs.lemmas.List.{take-append-drop}
use Rattle.ror_statement.specs.declared.statement.Statement.{Statement}
use Rattle.ror_table.specs.Table.{DecisionTable}
use Rattle.ror_session.specs.declared.session.Command.{Command}
use Rattle.ror_session.specs.declared.session.Command.TheVariants.{State, Withdraw, Replace, Repair, Undo, Ask}
use Rattle.ror_check.specs.Repair.{numbers_of}
use Rattle.ror_report.specs.declared.block.Body.{Body}
use Rattle.ror_report.specs.declared.block.Body.TheVariants as bodies
use Rattle.ror_report.specs.declared.block.LineFault.{LineFault}
use Rattle.ror_history.specs.History.{Revision, addition, withdrawal, replacement, Revisions, with_revision, next_number}
use Rattle.ror_history.specs.Laws.{AreNumberedInTurn}
use Rattle.ror_history.proofs.TurnLemmas.{turn_more, turn_kept}
use Rattle.ror_bench.specs.Allowed.{proved_unless_wide}
use Rattle.ror_bench.specs.Blocks.{IsBodyOf, refused, taken, without_last, with_stated, revisions_with}
use Rattle.ror_bench.specs.Names.{statement_of}

withdrawn_turn : (r : Revisions) (ns : List ℕ) → AreNumberedInTurn r → AreNumberedInTurn (with_revision r (withdrawal ns))
withdrawn_turn r ns turn = turn_more r (withdrawal ns) (λ n s e. absurd cc) turn

undone_turn : (r : Revisions) → AreNumberedInTurn r → AreNumberedInTurn (without_last r)
undone_turn r turn before n s after e =
    let all = r.surviving in
    let k : ℕ = length all - 1 in
    let whole : all ≡ before ++ addition n s ∷ (after ++ drop k all) = sym (take-append-drop k all) ∙ ap (λ (l : List Revision). l ++ drop k all) e ∙ append_assoc before (addition n s ∷ after) (drop k all) in
    turn before n s (after ++ drop k all) whole

stated_turn : (r : Revisions) (make : Statement → Revision) (o : Result Statement LineFault) → ((s : Statement) → AreNumberedInTurn (with_revision r (make s))) → AreNumberedInTurn r → AreNumberedInTurn (with_stated r make (result_ok o))
stated_turn r make (Err fault) made turn = turn
stated_turn r make (Ok s) made turn = made s

repaired_turn : (t : DecisionTable) (r : Revisions) (body : Body) → AreNumberedInTurn r → AreNumberedInTurn (revisions_with t r Repair body)
repaired_turn t r (bodies.Added n) turn = turn
repaired_turn t r (bodies.Withdrawn n) turn = withdrawn_turn r (n ∷ []) turn
repaired_turn t r (bodies.Replaced n) turn = turn
repaired_turn t r bodies.Undone turn = undone_turn r turn
repaired_turn t r (bodies.Repaired kept) turn = withdrawn_turn r (numbers_of kept.dropped) turn
repaired_turn t r (bodies.RepairWide n note) turn = turn
repaired_turn t r (bodies.Answers xs) turn = turn
repaired_turn t r (bodies.Refused fault) turn = turn

-- a line gives the next number, or none
pub moved_turn : (t : DecisionTable) (r : Revisions) (command : Command) (body : Body) → AreNumberedInTurn r → IsBodyOf proved_unless_wide t r command body → AreNumberedInTurn (revisions_with t r command body)
moved_turn t r command body turn (refused fault first is) = subst (λ (b : Body). AreNumberedInTurn (revisions_with t r command b)) (sym is) turn
moved_turn t r (State named) body turn (taken passes is) =
    subst (λ (b : Body). AreNumberedInTurn (revisions_with t r (State named) b)) (sym is) (stated_turn r (addition (next_number r)) (statement_of t named) (λ s. turn_kept r s turn) turn)
moved_turn t r (Withdraw n) body turn (taken passes is) =
    subst (λ (b : Body). AreNumberedInTurn (revisions_with t r (Withdraw n) b)) (sym is) (withdrawn_turn r (n ∷ []) turn)
moved_turn t r (Replace n named) body turn (taken passes is) =
    subst (λ (b : Body). AreNumberedInTurn (revisions_with t r (Replace n named) b)) (sym is) (stated_turn r (replacement n) (statement_of t named) (λ s. turn_more r (replacement n s) (λ m u e. absurd cc) turn) turn)
moved_turn t r Undo body turn (taken passes is) =
    subst (λ (b : Body). AreNumberedInTurn (revisions_with t r Undo b)) (sym is) (undone_turn r turn)
moved_turn t r Repair body turn (taken passes is) = repaired_turn t r body turn
moved_turn t r (Ask asked) body turn (taken passes is) =
    subst (λ (b : Body). AreNumberedInTurn (revisions_with t r (Ask asked) b)) (sym is.0) turn
