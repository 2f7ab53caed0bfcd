-- One name more.
use Rattle.std.proofs.Common.{◌≡◌, ◌++◌, rules}
use Rattle.ror_show_ground.proofs.Tests.{pieces_more}
use Rattle.ror_show_text_group.specs.Csv.{name_field}
use Rattle.ror_show_text_group.proofs.csv.write_names.Goals as goal

pub loop-k-preserved : goal.loop-k-preserved
loop-k-preserved c =
    let pushed : c.write_next_field.new.text.items ≡ c.loop-k.text.items ++ name_field c.args.desks.now c.loop-k.k = search rules in
    pieces_more (name_field c.args.desks.now) c.loop-k.k c.args.text.now.items c.loop-k.text.items c.write_next_field.new.text.items c.loop-k.invariant pushed
