use Rattle.std.proofs.lemmas.Bool.{leb-true, le-leb}
use Rattle.ror_check.proofs.RepairWalk.{kind_by_count}
use Rattle.ror_check.proofs.repair.is_base_kind.Goals as goal

pub returns-in-Multipliers : goal.returns-in-Multipliers
returns-in-Multipliers c =
    let both = kind_by_count c.args.standing.now c.args.dropped.now c.in-Multipliers.field-0 c.requires.rising c.requires.numbers in
    rw c.in-Multipliers.is (λ few. both.0 (leb-true _ _ few), λ none. le-leb _ _ (both.1 none))
