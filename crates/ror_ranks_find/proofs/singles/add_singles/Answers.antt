use Rattle.std.proofs.Common.{rules, ◌<◌, [], length, ◌∙◌, arith}
use Rattle.ror_text.proofs.Everywhere.{all-rest}
use Rattle.ror_ranks_find.specs.Search.{IsOther}
use Rattle.ror_ranks_find.proofs.FoundLemmas.{each_alone}
use Rattle.ror_ranks_find.proofs.singles.add_singles.Goals as goal

pub loop-other-init : goal.loop-other-init
loop-other-init c = record {
  found = c.requires.found;
  others = each_alone c.args.sought.now.asked [] c.as_slice-other-items.result.now (c.as_slice-other-items.ensures.value ∙ c.in_ok-others.ensures);
  counted = omega arith;
}

pub add_single-requires-clause-other : goal.add_single-requires-clause-other
add_single-requires-clause-other c =
    let within : c.loop-other.other-index < length c.as_slice-other-items.result.now = search rules in
    let rest = all-rest (IsOther c.args.sought.now.asked) c.as_slice-other-items.result.now c.loop-other.other-index 0 within c.loop-other.invariant.others in
    let first = rest.0 in
    search rules

pub loop-other-preserved : goal.loop-other-preserved
loop-other-preserved c =
    let within : c.loop-other.other-index < length c.as_slice-other-items.result.now = search rules in
    let rest = all-rest (IsOther c.args.sought.now.asked) c.as_slice-other-items.result.now c.loop-other.other-index 0 within c.loop-other.invariant.others in
    let before = c.loop-other.invariant.counted in
    let after = c.add_single.ensures.counted in record {
      found = c.in_ok-add_single.ensures.found;
      others = rest.1;
      counted = omega (arith, before, after);
    }
