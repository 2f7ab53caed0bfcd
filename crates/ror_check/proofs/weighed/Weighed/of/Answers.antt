use Rattle.std.proofs.Common.{rules, arith, ◌≡◌, ◌∙◌, ap, sym, pos, get_or, to_z, of_z, FitsSigned}
use Rattle.std.specs.Int.{w128}
use Rattle.std.proofs.lemmas.Int.{to_z-of_z}
use Rattle.ror_check.proofs.WeighedRows.{stands_more_with, stands_more_without, stands_for_all}
use Rattle.ror_check.proofs.weighed.Weighed.of.Goals.{then-i-eq0+in_ok-push, else-i-eq0+else-multiplier-ne0}
use Rattle.ror_check.proofs.weighed.Weighed.of.Goals as goal

pub loop-i-preserved : goal.loop-i-preserved
loop-i-preserved c =
    let ms = c.args.multipliers.now in
    let rows = c.args.rows.now in
    let i = c.loop-i.i in
    let few = c.loop-i.few in
    let fits : FitsSigned w128 c.entry-multiplier.result = search rules in
    let number_is : to_z w128 (of_z w128 c.entry-multiplier.result) ≡ get_or ms i (pos 0) = to_z-of_z w128 c.entry-multiplier.result fits ∙ c.entry-multiplier.ensures in
    elim c.if-i-eq0.branch [
      | then-i-eq0+in_ok-push w ↦
          let multiplier = rw number_is at w.in_ok-push.ensures.multipliers in
          rw w.few-is (stands_more_with ms rows i few.multipliers w.push.new.self.multipliers few.rows.items w.push.new.self.rows.items w.index-rows-i.result c.requires c.loop-i-test.true w.index-rows-i.is multiplier w.in_ok-push.ensures.rows c.loop-i.invariant)
      | else-i-eq0+else-multiplier-ne0 w ↦
          let none : get_or ms i (pos 0) ≡ pos 0 = sym number_is ∙ ap (to_z w128) w.if-multiplier-ne0.false in
          rw w.few-is (stands_more_without ms rows i few.multipliers few.rows.items c.requires c.loop-i-test.true (let later = w.if-i-eq0.false in omega arith) none c.loop-i.invariant)
    ]

pub returns : goal.returns
returns c =
    let ms = c.args.multipliers.now in
    let rows = c.args.rows.now in
    stands_for_all ms rows c.loop-i.i _ _ (omega arith) c.loop-i.invariant
