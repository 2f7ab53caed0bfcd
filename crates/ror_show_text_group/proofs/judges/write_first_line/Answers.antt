use Rattle.std.specs.Prelude.{codes, length}
use Rattle.ror_show_kit.specs.Heads.{counted}
use Rattle.ror_show_kit.proofs.Pieces.{two_more}
use Rattle.ror_show_text_group.proofs.judges.write_first_line.Goals as goal

pub returns : goal.returns
returns c =
    two_more (counted (codes "judges: ") (length c.args.judges.now)) (codes ", each by what stands at the desk after the session's last line\n") c.args.text.now.items c.write_count.new.text.items c.extend_from_slice.new.self.items c.in_ok-write_count.ensures c.in_ok-extend_from_slice.ensures.items
