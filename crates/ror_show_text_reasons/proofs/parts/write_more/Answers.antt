-- One element more.
use Rattle.std.proofs.Common.{◌≡◌, ◌++◌, get_or, rules}
use Rattle.ror_show_text_reasons.specs.Parts.{more_times}
use Rattle.ror_show_kit.proofs.ElementLemmas.{one_more}
use Rattle.ror_show_text_reasons.proofs.parts.write_more.Goals as goal

pub counts-preserved : goal.counts-preserved
counts-preserved c =
    let pushed : c.write_one_more.new.text.items ≡ c.counts.text.items ++ more_times (get_or c.args.counts.now c.counts.count-index 0) = search rules in
    one_more more_times c.args.counts.now c.counts.count-index 0 c.args.text.now.items c.counts.text.items c.write_one_more.new.text.items c.counts-test.true c.counts.invariant pushed
