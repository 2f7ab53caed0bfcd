use Rattle.std.proofs.Common.{List, ap, arith, length, subst, sym, ◌∙◌}
use Rattle.ror_statement.specs.declared.statement.Statement.{Statement}
use Rattle.ror_pivot.specs.Answers.{most_of}
use Rattle.ror_confidence.specs.Spans.{AreLevelLists}
use Rattle.ror_confidence.specs.Searching.{IsBase}
use Rattle.ror_confidence.proofs.Nested.{length-level_lists, levels_nested}
use Rattle.ror_confidence.proofs.search.LevelSearch.new.Goals as goal

pub base_of-requires-clause-lists : goal.base_of-requires-clause-lists
base_of-requires-clause-lists g c = subst (AreLevelLists c.args.table.now) (sym (c.deref.ensures.value ∙ c.in_ok-lists.ensures)) (levels_nested c.args.table.now c.args.standing.now c.args.levels.now c.requires.lawful)

pub base_of-requires-clause-few : goal.base_of-requires-clause-few
base_of-requires-clause-few g c =
    let count = ap length (c.deref.ensures.value ∙ c.in_ok-lists.ensures) ∙ length-level_lists c.args.standing.now c.args.levels.now in
    let few = c.requires.levels.few in
    omega (arith, count, few)

pub returns-clause-search : goal.returns-clause-search
returns-clause-search g c =
    let nested = levels_nested c.args.table.now c.args.standing.now c.args.levels.now c.requires.lawful in
    let count = ap length c.in_ok-lists.ensures ∙ length-level_lists c.args.standing.now c.args.levels.now in
    let few = c.requires.levels.few in
    record {
      lists = subst (AreLevelLists c.args.table.now) (sym c.in_ok-lists.ensures) nested;
      few = omega (arith, count, few);
      base = subst (λ (lists : List (List Statement)). IsBase (most_of c.args.bits) c.args.table.now lists c.in_ok-base.base) c.deref.ensures.value c.in_ok-base.ensures;
    }
