-- One judge more.
use Rattle.ror_show_kit.proofs.Pieces.{item_more}
use Rattle.ror_show_text_group.specs.Csv.{vote}
use Rattle.ror_show_text_group.proofs.csv.write_votes.Goals as goal

pub judges-preserved : goal.judges-preserved
judges-preserved c = item_more (vote c.args.a c.args.b) c.args.judges.now c.judges.judge-index c.judge-item.result c.args.text.now.items c.judges.text.items c.write_vote.new.text.items c.judges-test.true c.judge-item.is c.judges.invariant c.in_ok-write_vote.ensures
