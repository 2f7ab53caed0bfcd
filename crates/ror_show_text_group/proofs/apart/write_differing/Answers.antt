use Rattle.std.proofs.lemmas.Result.{on_ok_weaker}
use Rattle.std.proofs.Common.{◌≡◌, ◌++◌, rules}
use Rattle.ror_show_text_group.specs.Apart.{differing_head, listed_text}
use Rattle.ror_show_kit.proofs.Pieces.{two_more}
use Rattle.ror_show_text_group.proofs.apart.write_differing.Goals as goal

pub returns : goal.returns
returns c =
    let head : c.extend_from_slice.new.self.items ≡ c.args.text.now.items ++ differing_head = search rules in
    on_ok_weaker c.write_listed.result
    (λ last. two_more differing_head (listed_text c.args.table.now c.args.judges.now c.args.pairs.now) c.args.text.now.items c.extend_from_slice.new.self.items c.write_listed.new.text.items head last)
    c.write_listed.ensures
