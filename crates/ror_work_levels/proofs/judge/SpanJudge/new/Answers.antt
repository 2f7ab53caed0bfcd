use Rattle.std.proofs.Common.{rules, ◌≡◌, ◌<◌, ◌^◌, length, ap, ◌∙◌, sym}
use Rattle.ror_table.specs.Table.{IsTable}
use Rattle.ror_confidence.specs.Spans.{AreLevelLists}
use Rattle.ror_confidence.specs.Steps.{AreCheckers, lists_of}
use Rattle.ror_confidence.proofs.Nested.{length-level_lists}
use Rattle.ror_entries.specs.Pairs.{pairs_of}
use Rattle.ror_work_levels.proofs.judge.SpanJudge.new.Goals as goal

pub invariant_of-result : goal.invariant_of-result
invariant_of-result c =
    let t = c.args.bench.table in
    let levels = c.in_ok-checker.checker.levels.items in
    let is_table : IsTable t = search rules in
    let pairs_are : c.in_ok-pairs.pairs.items ≡ pairs_of t = search rules in
    let checkers : AreCheckers t levels = search rules in
    let nested : AreLevelLists t (lists_of levels) = search rules in
    record {
      table = is_table;
      pairs_are = pairs_are;
      checker_is = record {
        checkers = checkers;
        nested = nested;
        few = c.in_ok-checker.ensures.few;
        counted = sym (ap length c.in_ok-checker.ensures.lists ∙ length-level_lists c.args.standing.now c.args.levels.now);
      };
    }
