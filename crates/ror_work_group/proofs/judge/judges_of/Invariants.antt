use Rattle.std.proofs.Common.{◌≡◌, take}
use Rattle.std.specs.List.{AllByRecursion}
use Rattle.ror_group.specs.Proof.{IsJudgeIn, lists_of}
use Rattle.ror_work_group.proofs.judge.judges_of.Given as goal

abbrev pub invariant-lists : goal.invariant-lists
invariant-lists l = record {
  judges : AllByRecursion (IsJudgeIn l.fn.table) l.judges.items;
  taken : lists_of l.judges.items ≡ take l.list-index l.lists;
}
