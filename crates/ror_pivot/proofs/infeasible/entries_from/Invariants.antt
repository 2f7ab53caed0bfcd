use Rattle.std.proofs.Common.{◌≡◌, map}
use Rattle.std.specs.List.{AllByRecursion, range_with_len}
use Rattle.ror_integers.specs.Vectors.{entry}
use Rattle.ror_word.specs.Within.{IsWithin}
use Rattle.ror_pivot.proofs.infeasible.entries_from.Given as goal

abbrev pub invariant-loop-k : goal.invariant-loop-k
invariant-loop-k g l =
    let value = g.W.Word.value in
    record {
      read : map value l.words.items ≡ map (entry l.row.entries) (range_with_len l.first l.k);
      within : AllByRecursion (λ word. IsWithin g.W.Word.most (value word)) l.words.items;
    }
