use Rattle.std.proofs.lemmas.Result.{on_ok_weaker}
use Rattle.ror_show_kit.proofs.Pieces.{four_more}
use Rattle.ror_show_text_changes.specs.Text.{counts_text, differences_text, both_levels, brought_text}
use Rattle.ror_show_text_changes.proofs.relations.write_found.Goals as goal

pub returns : goal.returns
returns c =
    let t = c.args.table.now in
    let f = c.args.change.now in
    on_ok_weaker c.write_brought.result
    (λ last. four_more (counts_text t f.first f.second) (differences_text t f.pairs) (both_levels t f.first f.second) (brought_text t f) c.args.text.now.items c.write_counts.new.text.items c.write_differences.new.text.items c.write_both_levels.new.text.items c.write_brought.new.text.items c.in_ok-write_counts.ensures c.in_ok-write_differences.ensures c.in_ok-write_both_levels.ensures last)
    c.write_brought.ensures
