use Rattle.std.proofs.Common.{rules, subst, arith}
use Rattle.std.proofs.lemmas.Result.{err_from_is_err_and}
use Rattle.ror_system.specs.System.{LinearSystem}
use Rattle.ror_pivot.specs.Answers.{most_of}
use Rattle.ror_check.specs.Proof.{base_system}
use Rattle.ror_ranks.specs.declared.extreme.Side.TheVariants.{Best, Worst}
use Rattle.ror_ranks.specs.Proof.{AreDue}
use Rattle.ror_ranks_find.specs.Search.{HasFunction, RefusesBase}
use Rattle.ror_ranks_find.proofs.FindLemmas.{all_given, both_pushed, both_given, base_refused, given_over}
use Rattle.ror_ranks_find.proofs.find.find_ranks.Goals as goal

pub returns-in_err-function-clause-fault : goal.returns-in_err-function-clause-fault
returns-in_err-function-clause-fault c =
    let most = most_of c.args.bits in
    let p = err_from_is_err_and c.from_residual-in_err-function.result c.from_residual-in_err-function.ensures.1 in
    let refused = subst (λ (s : LinearSystem). RefusesBase most s c.in_err-function.field-0.0) c.in_ok-base.ensures.system c.in_err-function.ensures.fault in
    rw (p.1, p.2) (base_refused most c.args.table.now c.args.list.now c.requires.lawful c.in_err-function.field-0.0 refused)

pub loop-alternative-preserved : goal.loop-alternative-preserved
loop-alternative-preserved c =
    let t = c.args.table.now in
    let list = c.args.list.now in
    let a = c.loop-alternative.alternative in
    let best = c.in_ok-push_extreme.ensures.pushed in
    let worst = c.in_ok-push_extreme-2.ensures.pushed in
    let before = c.loop-alternative.invariant.counted in
    let first = c.push_extreme.ensures.counted in
    let second = c.push_extreme-in-loop-alternative.ensures.counted in
    let is = c.in_ok-base.ensures.system in
    let most = most_of c.args.bits in
    record {
      due = both_pushed a c.loop-alternative.extremes.items c.push_extreme.new.extremes.items c.push_extreme-in-loop-alternative.new.extremes.items best.0 worst.0 c.loop-alternative.invariant.due best.2 worst.2;
      each = both_given (most_of c.args.bits) t (base_system t list) a c.loop-alternative.extremes.items c.push_extreme.new.extremes.items c.push_extreme-in-loop-alternative.new.extremes.items best.0 worst.0 c.loop-alternative.invariant.each (given_over most t Best a best.0 _ _ is best.1) (given_over most t Worst a worst.0 _ _ is worst.1) best.2 worst.2;
      counted = omega (arith, before, first, second);
    }

pub returns-clause-given : goal.returns-clause-given
returns-clause-given c =
    let most = most_of c.args.bits in
    let t = c.args.table.now in
    let list = c.args.list.now in
    let xs = c.loop-alternative.extremes.items in
    let has = subst (λ (s : LinearSystem). HasFunction most s c.in_ok-function.function) c.in_ok-base.ensures.system c.in_ok-function.ensures.function in
    let due : AreDue t xs = search rules in
    all_given most t list c.requires.lawful c.in_ok-function.function xs has due c.loop-alternative.invariant.each
