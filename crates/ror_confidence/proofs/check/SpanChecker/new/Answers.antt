use Rattle.std.proofs.Common.{◌+◌, [], ◌∷◌, ap, arith, length, subst, sym, ◌∙◌}
use Rattle.std.proofs.lemmas.List.{map-append}
use Rattle.ror_text.proofs.Everywhere.{all-append}
use Rattle.ror_value.specs.Over.{IsLawfulIn}
use Rattle.ror_confidence.specs.declared.level.LevelChecker.{LevelChecker}
use Rattle.ror_confidence.specs.Levels.{level_lists, list_at}
use Rattle.ror_confidence.specs.Spans.{AreLevelLists}
use Rattle.ror_confidence.specs.Steps.{IsCheckerOfLevel, lists_of}
use Rattle.ror_confidence.proofs.Checks.{length-lists_of}
use Rattle.ror_confidence.proofs.Nested.{length-level_lists, levels_end, levels_more, levels_nested, list_at-lawful}
use Rattle.ror_confidence.proofs.check.SpanChecker.new.Goals as goal

pub new-requires : goal.new-requires
new-requires c = record {
  lawful = subst (IsLawfulIn c.args.table.now) (sym c.in_ok-list.ensures) (list_at-lawful c.args.table.now c.args.standing.now c.args.levels.now (c.levels.level + 1) c.requires.lawful);
}

pub levels-preserved : goal.levels-preserved
levels-preserved c =
    let standing = c.args.standing.now in
    let levels = c.args.levels.now in
    let done = c.levels.checkers.items in
    let level = c.in_ok-new.field-0 in
    let under = c.levels-test.true in
    let whole = level_lists standing levels in
    record {
      upto = omega arith;
      checkers = rw c.in_ok-push.ensures.items (all-append (IsCheckerOfLevel c.args.table.now) done (level ∷ []) c.levels.invariant.checkers (c.in_ok-new.ensures.checker, tt));
      lists = rw c.in_ok-push.ensures.items (rw (map-append (λ (x : LevelChecker). x.statements) done (level ∷ [])) (levels_more (list_at standing levels) (lists_of done) whole level.statements c.levels.level levels.count under c.levels.invariant.lists (c.in_ok-new.ensures.statements ∙ c.in_ok-list.ensures)));
    }

pub returns-clause-nested : goal.returns-clause-nested
returns-clause-nested c =
    let standing = c.args.standing.now in
    let levels = c.args.levels.now in
    let over = c.levels-test.false in
    let same = levels_end (list_at standing levels) (lists_of c.levels.checkers.items) (level_lists standing levels) c.levels.level levels.count over c.levels.invariant.lists in
    subst (AreLevelLists c.args.table.now) (sym same) (levels_nested c.args.table.now standing levels c.requires.lawful)

pub returns-clause-few : goal.returns-clause-few
returns-clause-few c =
    let standing = c.args.standing.now in
    let levels = c.args.levels.now in
    let over = c.levels-test.false in
    let same = levels_end (list_at standing levels) (lists_of c.levels.checkers.items) (level_lists standing levels) c.levels.level levels.count over c.levels.invariant.lists in
    let count = sym (length-lists_of c.levels.checkers.items) ∙ ap length same ∙ length-level_lists standing levels in
    let few = c.requires.levels.few in
    omega (arith, count, few)
