use Rattle.std.proofs.Common.{◌∙◌}
use Rattle.ror_reason.proofs.SearchLemmas.{part_lawful}
use Rattle.ror_reason.proofs.sought.decide_part.Goals as goal

pub new-requires : goal.new-requires
new-requires c =
    let s = c.args.sought.now in
    record { lawful = part_lawful s c.requires c.args.numbers.now c.from-part.result (c.from-part.ensures ∙ c.in_ok-part.ensures) }
