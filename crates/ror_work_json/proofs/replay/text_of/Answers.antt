use Rattle.std.proofs.Common.{◌≡◌, List, ◌∙◌, ap, ap₂}
use Rattle.std.specs.List.{list_any}
use Rattle.ror_table.specs.Table.{DecisionTable}
use Rattle.ror_report.specs.declared.block.Block.{Block}
use Rattle.ror_json.specs.Texts.{json_text}
use Rattle.ror_bench.specs.Blocks.{has_wide}
use Rattle.ror_bench.proofs.WideLemmas.{wide_blocks}
use Rattle.ror_work_json.proofs.Writing.{are_asked}
use Rattle.ror_work_json.proofs.replay.text_of.Goals as goal

pub returns : goal.returns
returns c =
    let blocks = c.in_ok-blocks.blocks.items in
    let table = c.table.ensures.value ∙ c.in_ok-blocks.ensures.table in
    record {
      blocks = blocks;
      made = c.in_ok-blocks.ensures.made;
      text_is = c.in_ok-text.ensures.text ∙ ap₂ (λ (t : DecisionTable) (bs : List Block). json_text t bs) table c.as_slice.ensures.value;
      wide_is = c.has_wide_block-wide.ensures ∙ ap (list_any has_wide) c.as_slice-2.ensures.value ∙ wide_blocks blocks;
    }

pub to_text-requires : goal.to_text-requires
to_text-requires c =
    let table = c.table.ensures.value ∙ c.in_ok-blocks.ensures.table in
    let asked = are_asked c.args.bench.now.table c.in_ok-blocks.blocks.items c.in_ok-blocks.ensures.text in
    rw (table, c.as_slice.ensures.value) asked
