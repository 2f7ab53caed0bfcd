-- One statement more.
use Rattle.ror_show_text_reasons.specs.Withdrawn.{withdrawal_text}
use Rattle.ror_show_kit.proofs.Pieces.{item_more}
use Rattle.ror_show_text_reasons.proofs.withdrawn.write_each.Goals as goal

pub withdrawals-preserved : goal.withdrawals-preserved
withdrawals-preserved c = item_more (withdrawal_text c.args.clashes) c.args.withdrawals.now c.withdrawals.k c.index-withdrawals-k.result c.args.text.now.items c.withdrawals.text.items c.write_one.new.text.items c.withdrawals-test.true c.index-withdrawals-k.is c.withdrawals.invariant c.in_ok-write_one.ensures
