-- One section more.
use Rattle.ror_show_kit.proofs.Pieces.{item_more}
use Rattle.ror_show_ground.specs.Grounds.{ground_of}
use Rattle.ror_show_text_whatif.specs.Pages.{time_text}
use Rattle.ror_show_text_whatif.proofs.time_page.write_class_whatifs.Goals as goal

pub times-preserved : goal.times-preserved
times-preserved c = item_more (time_text (ground_of c.args.ground.now)) c.args.found.now c.times.time-index c.time-item.result c.args.text.now.items c.times.text.items c.write_time.new.text.items c.times-test.true c.time-item.is c.times.invariant c.in_ok-write_time.ensures
