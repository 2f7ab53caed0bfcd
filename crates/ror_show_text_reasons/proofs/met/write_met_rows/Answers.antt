use Rattle.std.specs.List.{flat_map}
use Rattle.std.proofs.lemmas.Result.{on_ok_weaker}
use Rattle.ror_text.proofs.Everywhere.{all-map}
use Rattle.ror_statement.specs.declared.statement.Numbered.{Numbered}
use Rattle.ror_value.specs.Over.{IsValidIn}
use Rattle.ror_show_kit.proofs.Pieces.{two_more}
use Rattle.ror_show_text_reasons.specs.Met.{met_head, met_row}
use Rattle.ror_show_text_reasons.proofs.met.write_met_rows.Goals as goal

pub write_each-requires-clause-valid : goal.write_each-requires-clause-valid
write_each-requires-clause-valid c =
    (all-map (IsValidIn c.args.table.now) (λ (x : Numbered). x.statement) c.args.list.now).1 c.requires.lawful.each_valid

pub returns : goal.returns
returns c =
    on_ok_weaker c.write_each.result
    (λ last. two_more met_head (flat_map (met_row c.args.table.now c.args.function.now) c.args.list.now) c.args.text.now.items c.write_text.new.text.items c.write_each.new.text.items c.in_ok-write_text.ensures last)
    c.write_each.ensures
