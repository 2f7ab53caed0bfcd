use Rattle.std.proofs.Common.{◌≡◌, length, take, map}
use Rattle.std.specs.List.{AllByRecursion}
use Rattle.ror_pivot.specs.Answers.{most_of}
use Rattle.ror_relation.specs.DecidedLists.{IsDecidedList, statements_of}
use Rattle.ror_work_group.proofs.maker.decided_lists.Given as goal

abbrev pub invariant-lists : goal.invariant-lists
invariant-lists l = record {
  decided : AllByRecursion (IsDecidedList (most_of l.fn.bits) l.fn.table) l.decided.items;
  taken : map statements_of l.decided.items ≡ take l.list-index l.lists;
  engines : length l.engines.items ≡ l.list-index;
}
