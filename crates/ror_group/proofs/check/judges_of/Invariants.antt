use Rattle.std.proofs.Common.{◌≡◌, ◌++◌, map, drop}
use Rattle.std.specs.List.{AllByRecursion}
use Rattle.ror_value.specs.Over.{IsLawfulIn}
use Rattle.ror_group.specs.Proof.{IsJudgeIn, lists_of}
use Rattle.ror_group.proofs.check.judges_of.Given as goal

abbrev pub invariant-lists : goal.invariant-lists
invariant-lists l = record {
  judges : AllByRecursion (IsJudgeIn l.table) l.judges.items;
  lists : lists_of l.judges.items ++ map (λ list. list.statements) (drop l.list-index l.lists) ≡ map (λ list. list.statements) l.lists;
  lawful : AllByRecursion (λ list. IsLawfulIn l.table list.statements) (drop l.list-index l.lists);
}
