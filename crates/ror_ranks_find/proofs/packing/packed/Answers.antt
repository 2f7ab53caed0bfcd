use Rattle.std.proofs.Common.{Bool, List, false, true, sym, subst, ◌∙◌, arith}
use Rattle.ror_ranks.specs.declared.extreme.Conflict.{Conflict}
use Rattle.ror_ranks_find.specs.Search.{IsPacking, IsTaken}
use Rattle.ror_ranks_find.proofs.GrowLemmas.{has_same, has_both}
use Rattle.ror_ranks_find.proofs.PackingSteps.{packing_taken, packed_without, many_taken, packed_whole, packed_at_end}
use Rattle.ror_ranks_find.proofs.packing.packed.Goals as goal

pub loop-taken-init : goal.loop-taken-init
loop-taken-init c = record {
  packing = subst (λ (cs : List Conflict). IsPacking cs c.args.set.now c.args.goal c.take_known.new.self) c.as_slice.ensures.value c.in_ok-take_known.ensures.packing;
  many = omega arith;
  found = c.requires.found;
  more = has_same c.args.found.now;
  counted = omega arith;
}

pub returns-then-not-is_short-clause-packed : goal.returns-then-not-is_short-clause-packed
returns-then-not-is_short-clause-packed c = packed_whole c.loop-taken.found c.args.set.now c.args.goal c.loop-taken.packing c.loop-taken.invariant.packing (sym c.is_short.ensures ∙ c.if-not-is_short.true)

pub returns-then-not-is_taken-clause-packed : goal.returns-then-not-is_taken-clause-packed
returns-then-not-is_taken-clause-packed c =
    let old = c.loop-taken.packing in
    let now = c.take_new.new.packing in
    let found = c.take_new.new.found in
    packed_without c.loop-taken.found found c.args.set.now c.args.goal old now c.in_ok-is_taken.ensures.more c.loop-taken.invariant.packing (subst (λ (b : Bool). IsTaken found old now b) c.if-not-is_taken.true c.in_ok-is_taken.ensures.taken)

pub loop-taken-preserved : goal.loop-taken-preserved
loop-taken-preserved c =
    let held = c.loop-taken.invariant in
    let old = c.loop-taken.packing in
    let now = c.take_new.new.packing in
    let found = c.take_new.new.found in
    let taken = subst (λ (b : Bool). IsTaken found old now b) c.if-not-is_taken.false c.in_ok-is_taken.ensures.taken in
    let before = held.counted in
    let after = c.take_new.ensures.counted in record {
      packing = packing_taken c.loop-taken.found found c.args.set.now c.args.goal old now c.in_ok-is_taken.ensures.more held.packing (sym c.is_short.ensures ∙ c.if-not-is_short.false) taken;
      many = many_taken c.loop-taken._taken found old now held.many taken;
      found = c.in_ok-is_taken.ensures.found;
      more = has_both c.args.found.now c.loop-taken.found found held.more c.in_ok-is_taken.ensures.more;
      counted = omega (arith, before, after);
    }

pub returns-clause-packed : goal.returns-clause-packed
returns-clause-packed c =
    let end = c.loop-taken-test.false in
    let many = c.loop-taken.invariant.many in
    packed_at_end c.loop-taken.found c.args.set.now c.args.goal c.loop-taken.packing c.loop-taken.invariant.packing (omega (arith, end, many))
