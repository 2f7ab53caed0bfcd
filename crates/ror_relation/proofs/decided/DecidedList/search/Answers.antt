use Rattle.std.proofs.Common.{◌≤◌, List, length, ap, sym, subst}
use Rattle.std.specs.List.{AllByRecursion}
use Rattle.smallvec.specs.SmallVec.{SmallVec}
use Rattle.ror_pivot.specs.Answers.{most_of}
use Rattle.ror_statement.specs.declared.row_number.TheConstants.{MOST_STATEMENTS}
use Rattle.ror_system.specs.System.{LinearSystem}
use Rattle.ror_rows.specs.declared.extra.Extra.{Extra}
use Rattle.ror_rows.proofs.Extending.{base_few}
use Rattle.ror_check.specs.Steps.{AreUsable}
use Rattle.ror_check.proofs.Checking.{systems_usable, few_systems}
use Rattle.ror_relation.proofs.Concluding.{search_found, systems_of_list}
use Rattle.ror_relation.proofs.decided.DecidedList.search.Goals as goal

pub first_solvable-requires-clause-columns : goal.first_solvable-requires-clause-columns
first_solvable-requires-clause-columns c = ap (λ (s : LinearSystem). s.columns) c.requires.decided.system

pub first_solvable-requires-clause-rows : goal.first_solvable-requires-clause-rows
first_solvable-requires-clause-rows c = base_few c.args.table.now c.args.self.now.list c.args.self.now.system c.requires.decided.lawful c.requires.decided.system

pub first_solvable-requires-clause-few : goal.first_solvable-requires-clause-few
first_solvable-requires-clause-few c =
    let list = c.args.self.now.list in
    let systems = c.in_ok-systems.systems.items in
    let is = systems_of_list list c.as_slice.result.now systems c.args.question.now c.as_slice.ensures c.in_ok-systems.ensures in
    subst (λ (systems : List (SmallVec Extra)). length systems ≤ MOST_STATEMENTS) (sym c.as_slice-2.ensures.value) (few_systems c.args.table.now list systems c.args.question.now is c.requires.decided.lawful)

pub first_solvable-requires-clause-usable : goal.first_solvable-requires-clause-usable
first_solvable-requires-clause-usable c =
    let t = c.args.table.now in
    let list = c.args.self.now.list in
    let systems = c.in_ok-systems.systems.items in
    let is = systems_of_list list c.as_slice.result.now systems c.args.question.now c.as_slice.ensures c.in_ok-systems.ensures in
    subst (λ (systems : List (SmallVec Extra)). AllByRecursion (AreUsable t) systems) (sym c.as_slice-2.ensures.value) (systems_usable t list systems c.args.question.now is c.requires.decided.lawful c.requires.asked)

pub returns-clause-found : goal.returns-clause-found
returns-clause-found c =
    let list = c.args.self.now.list in
    let systems = c.in_ok-systems.systems.items in
    let is = systems_of_list list c.as_slice.result.now systems c.args.question.now c.as_slice.ensures c.in_ok-systems.ensures in
    search_found (most_of c.args.bits) c.args.table.now list c.args.question.now c.args.self.now.system systems c.as_slice-2.result.now c.first_solvable.result c.requires.decided.system c.as_slice-2.ensures.value is c.first_solvable.ensures.found
