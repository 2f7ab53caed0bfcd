use Rattle.std.proofs.Common.{List, ℤ, Err, sym, subst}
use Rattle.std.proofs.lemmas.Result.{err_from_is_err_and}
use Rattle.ror_check.specs.Proof.{base_system}
use Rattle.ror_system.specs.System.{LinearSystem}
use Rattle.ror_pivot.specs.Answers.{most_of}
use Rattle.ror_pivot.specs.Climbing.{IsClimb, IsClimbNoteWithin}
use Rattle.ror_pivot.specs.declared.optimum.ClimbFault.{ClimbFault}
use Rattle.ror_pivot.specs.declared.optimum.Optimum.{Optimum}
use Rattle.ror_discriminate.specs.Margin.{IsMarginOf}
use Rattle.ror_discriminate.specs.Discriminating.{IsFound}
use Rattle.ror_discriminate.specs.Steps.{IsMarginAt}
use Rattle.ror_discriminate.proofs.Margins.{says_nothing, says_something}
use Rattle.ror_discriminate.proofs.Checked.{margin_is}
use Rattle.ror_discriminate.proofs.Found.{due_of_base, found, wide}
use Rattle.ror_discriminate.proofs.decide.find_best.Goals as goal

pub returns-then-strict-eq1-clause-fault : goal.returns-then-strict-eq1-clause-fault
returns-then-strict-eq1-clause-fault c = says_nothing c.args.table.now c.args.list.now c.in_ok-system.system _ c.in_ok-system.ensures.system c.strict.ensures.value c.if-strict-eq1.true

pub returns-in_err-decide_base-clause-fault : goal.returns-in_err-decide_base-clause-fault
returns-in_err-decide_base-clause-fault c =
    let list = c.args.list.now in
    let says = says_something c.args.table.now list c.in_ok-system.system _ c.in_ok-system.ensures.system c.strict.ensures.value c.strict.ensures.form c.if-strict-eq1.false in
    let p = err_from_is_err_and c.from_residual-in_err-decide_base.result c.from_residual-in_err-decide_base.ensures.1 in
    rw (p.1, p.2) (due_of_base (most_of c.args.bits) c.args.table.now list c.requires.lawful says c.in_ok-system.system _ c.in_ok-system.ensures.system c.in_err-decide_base.ensures.fault)

pub returns-in-Ok-clause-found : goal.returns-in-Ok-clause-found
returns-in-Ok-clause-found c =
    let most = most_of c.args.bits in
    let t = c.args.table.now in
    let list = c.args.list.now in
    let says = says_something t list c.in_ok-system.system _ c.in_ok-system.ensures.system c.strict.ensures.value c.strict.ensures.form c.if-strict-eq1.false in
    let climbed = c.in-Ok.ensures in
    subst (IsFound most t list) (sym c.best_of.ensures.optimum) (found most t list c.requires.lawful says c.in_ok-system.system c.in_ok-top.top c.in-Ok.optimum c.in_ok-system.ensures.system c.in_ok-top.ensures.value c.in_ok-top.ensures.tops climbed.answer climbed.accepted climbed.narrow)

pub returns-in-Ok-clause-margin : goal.returns-in-Ok-clause-margin
returns-in-Ok-clause-margin c =
    let t = c.args.table.now in
    let list = c.args.list.now in
    let m = c.best_of.result.margin in
    let steps = c.in-Ok.optimum.solution.steps in
    let at = subst (λ (ts : List ℤ). IsMarginAt (base_system t list) ts steps m) c.in_ok-top.ensures.value (subst (λ (s : LinearSystem). IsMarginAt s c.in_ok-top.top steps m) c.in_ok-system.ensures.system c.best_of.ensures.margin) in
    subst (λ (x : Optimum). IsMarginOf t list x.solution.steps m) (sym c.best_of.ensures.optimum) (margin_is t list steps m c.requires.lawful at)

pub returns-in-Err-Wide-clause-fault : goal.returns-in-Err-Wide-clause-fault
returns-in-Err-Wide-clause-fault c =
    let t = c.args.table.now in
    let list = c.args.list.now in
    let says = says_something t list c.in_ok-system.system _ c.in_ok-system.ensures.system c.strict.ensures.value c.strict.ensures.form c.if-strict-eq1.false in
    let most = most_of c.args.bits in
    let s = c.in_ok-system.system in
    let is = c.in-Err-Wide.field-0-is in
    let noted = subst (λ (f : ClimbFault). IsClimb most s c.in_ok-top.top (Err f)) is c.in-Err-Wide.ensures.answer in
    let within = subst (IsClimbNoteWithin s) is c.in-Err-Wide.ensures.note in
    wide most t list c.requires.lawful says c.in_ok-system.system c.in_ok-top.top c.in-Err-Wide.note c.in_ok-system.ensures.system c.in_ok-top.ensures.value c.in_ok-decide_base.ensures.solvable noted within
