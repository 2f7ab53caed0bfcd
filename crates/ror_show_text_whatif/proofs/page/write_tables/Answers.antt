use Rattle.std.proofs.Common.{ℕ, List, ◌++◌, ap, ◌∙◌}
use Rattle.std.proofs.lemmas.Result.{on_ok_weaker}
use Rattle.ror_show_kit.proofs.Pieces.{four_more}
use Rattle.ror_show_find_whatif.specs.declared.cases.Case.{Case}
use Rattle.ror_show_find_whatif.specs.declared.outcome.Asks.TheVariants.{Relation}
use Rattle.ror_show_text_whatif.specs.declared.ways.Way.TheVariants.{Withdrawn, Contrary}
use Rattle.ror_show_text_whatif.specs.Legends.{legend}
use Rattle.ror_show_text_whatif.specs.Lists.{lists_text}
use Rattle.ror_show_text_whatif.specs.Pages.{way_text}
use Rattle.ror_show_text_whatif.proofs.page.write_tables.Goals as goal

pub returns : goal.returns
returns c =
    let t = c.args.table.now in
    let f = c.args.found.now in
    let old = c.args.text.now.items in
    let first = c.in_ok-extend_from_slice.ensures.items ∙ ap (λ (bs : List ℕ). old ++ bs) c.legend.ensures in
    on_ok_weaker c.write_lists.result
    (λ last. four_more (legend Relation) (way_text t Withdrawn f) (way_text t Contrary f) (lists_text t f.cases) old c.extend_from_slice.new.self.items c.write_way.new.text.items c.write_way-2.new.text.items c.write_lists.new.text.items first c.in_ok-write_way.ensures c.in_ok-write_way-2.ensures (last ∙ ap (λ (cs : List Case). c.write_way-2.new.text.items ++ lists_text t cs) c.as_slice.ensures))
    c.write_lists.ensures
