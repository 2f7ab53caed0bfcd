use Rattle.std.proofs.Common.{arith, subst, ◌∙◌}
use Rattle.std.specs.Global.{Vec}
use Rattle.ror_table.specs.declared.amount.Amount.{Amount}
use Rattle.ror_table.specs.Levels.{IsLevels}
use Rattle.ror_table.specs.Table.{direction_at, performances_on}
use Rattle.ror_table.proofs.IndexLemmas.{AreLevelsBefore-none, AreLevelsBefore-more, AreLevels-all}
use Rattle.ror_table.proofs.index.all_levels.Goals as goal

pub returns : goal.returns
returns c = AreLevels-all c.args.draft.now c.loop-i.i c.loop-i.all.items c.loop-i.invariant (omega arith)

pub loop-i-init : goal.loop-i-init
loop-i-init c = rw c.new-all.ensures.items (AreLevelsBefore-none c.args.draft.now)

pub loop-i-preserved : goal.loop-i-preserved
loop-i-preserved c =
    let t = c.args.draft.now in
    let v : Vec Amount = c.in_ok-levels_of.field-0 in
    let read : IsLevels c.direction.result (performances_on t c.loop-i.i) v.items = subst (λ ps. IsLevels c.direction.result ps v.items) (c.deref.ensures.value ∙ c.in_ok-performances.ensures.exact) c.in_ok-levels_of.ensures in
    let here : IsLevels (direction_at t c.loop-i.i) (performances_on t c.loop-i.i) v.items = subst (λ d. IsLevels d (performances_on t c.loop-i.i) v.items) c.direction.ensures read in
    AreLevelsBefore-more t c.loop-i.i c.loop-i.all.items c.push.new.self.items v c.loop-i.invariant here c.in_ok-push.ensures.items
