-- One entry more is that of the next column.
use Rattle.ror_integers.specs.Vectors.{entry}
use Rattle.ror_word.specs.Within.{IsWithin}
use Rattle.ror_pivot.proofs.MultiplierLemmas.{entries_more, all_push}
use Rattle.ror_pivot.proofs.infeasible.entries_from.Goals as goal

pub loop-k-preserved : goal.loop-k-preserved
loop-k-preserved g c =
    let value = g.W.Word.value in
    let words = c.loop-k.words.items in
    record {
      read = entries_more value words c.push.new.self.items c.entry.result (entry c.args.row.now.entries) c.args.first c.loop-k.k c.in_ok-push.ensures.items c.entry.ensures.value c.loop-k.invariant.read;
      within = all_push (λ word. IsWithin g.W.Word.most (value word)) words c.push.new.self.items c.entry.result c.in_ok-push.ensures.items c.loop-k.invariant.within c.entry.ensures.within;
    }
