use Rattle.std.proofs.Common.{ℕ, List, ◌++◌, ap, ◌∙◌}
use Rattle.std.proofs.lemmas.Result.{on_ok_weaker}
use Rattle.ror_show_kit.proofs.Pieces.{four_more}
use Rattle.ror_show_find_whatif.specs.declared.outcome.Asks.TheVariants.{Classes}
use Rattle.ror_show_text_whatif.specs.declared.ways.Way.TheVariants.{Withdrawn, Contrary}
use Rattle.ror_show_text_whatif.specs.Legends.{legend}
use Rattle.ror_show_text_whatif.specs.Pages.{time_way}
use Rattle.ror_show_text_whatif.specs.TimeLists.{time_lists}
use Rattle.ror_show_text_whatif.proofs.time_page.write_tables.Goals as goal

pub returns : goal.returns
returns c =
    let t = c.args.table.now in
    let fs = c.args.lines.now in
    let old = c.args.text.now.items in
    let first = c.in_ok-extend_from_slice.ensures.items ∙ ap (λ (bs : List ℕ). old ++ bs) c.legend.ensures in
    on_ok_weaker c.write_time_lists.result
    (λ last. four_more (legend Classes) (time_way t Withdrawn fs) (time_way t Contrary fs) (time_lists t fs) old c.extend_from_slice.new.self.items c.write_way.new.text.items c.write_way-2.new.text.items c.write_time_lists.new.text.items first c.in_ok-write_way.ensures c.in_ok-write_way-2.ensures last)
    c.write_time_lists.ensures
