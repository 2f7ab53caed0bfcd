use Rattle.std.proofs.lemmas.Result.{on_ok_weaker}
use Rattle.std.proofs.Common.{◌≡◌, ◌++◌, rules}
use Rattle.std.specs.Prelude.{OnOk}
use Rattle.ror_show_text_group.specs.Apart.{differing_text, alone_text}
use Rattle.ror_show_kit.proofs.Pieces.{two_more}
use Rattle.ror_show_text_group.proofs.page.write_both.Goals as goal

pub returns : goal.returns
returns c =
    let t = c.args.table.now in
    let found = c.args.found.now in
    let differing : c.write_differing.new.text.items ≡ c.args.text.now.items ++ differing_text c.args.table.now c.args.found.now.judges c.args.found.now.differing = search rules in
    let alone : OnOk c.write_alone.result (c.write_alone.new.text.items ≡ c.write_differing.new.text.items ++ alone_text c.args.table.now c.args.desks.now c.args.found.now.alone) = search rules in
    on_ok_weaker c.write_alone.result
    (λ last. two_more (differing_text t found.judges found.differing) (alone_text t c.args.desks.now found.alone) c.args.text.now.items c.write_differing.new.text.items c.write_alone.new.text.items differing last)
    alone
