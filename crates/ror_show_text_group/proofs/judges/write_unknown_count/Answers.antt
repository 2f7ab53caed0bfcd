use Rattle.std.proofs.Common.{◌≡◌, ◌++◌, rules}
use Rattle.std.specs.Prelude.{codes}
use Rattle.ror_show_kit.specs.Heads.{counted}
use Rattle.ror_show_find_relation.specs.Rows.{pairs_among}
use Rattle.ror_show_kit.proofs.Pieces.{three_more}
use Rattle.ror_show_text_group.proofs.judges.write_unknown_count.Goals as goal

pub returns : goal.returns
returns c =
    let pairs : c.write_count-2.new.text.items ≡ c.write_count.new.text.items ++ counted (codes " of ") (pairs_among c.args.size) = search rules in
    three_more (counted (codes ", nothing concluded on ") c.args.unknown) (counted (codes " of ") (pairs_among c.args.size)) (codes " pairs") c.args.text.now.items c.write_count.new.text.items c.write_count-2.new.text.items c.extend_from_slice.new.self.items c.in_ok-write_count.ensures pairs c.in_ok-extend_from_slice.ensures.items
