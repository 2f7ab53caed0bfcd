use Rattle.ror_show_text_group.specs.Apart.{vote_text}
use Rattle.ror_show_ground.proofs.Tests.{pieces_more}
use Rattle.ror_show_text_group.proofs.apart.write_votes.Goals as goal

pub loop-k-preserved : goal.loop-k-preserved
loop-k-preserved c = pieces_more (vote_text c.args.judges.now c.args.part c.args.pair) c.loop-k.k c.args.text.now.items c.loop-k.text.items c.write_vote.new.text.items c.loop-k.invariant c.in_ok-write_vote.ensures
