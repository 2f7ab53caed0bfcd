use Rattle.ror_pivot.specs.Answers.{most_of}
use Rattle.ror_relation.proofs.Notes.{decided_by, below, fault_warm, within_warm}
use Rattle.ror_relation.proofs.decision.decide_system_warm.Goals as goal

pub decision_of-requires : goal.decision_of-requires
decision_of-requires c =
    let solved = c.solve_warm in
    below c.args.system.now solved.result c.requires (within_warm (most_of c.args.bits) c.args.system.now solved.result solved.ensures.note)

pub returns-clause-decided : goal.returns-clause-decided
returns-clause-decided c =
    let most = most_of c.args.bits in
    let s = c.args.system.now in
    let solved = c.solve_warm in
    decided_by most s solved.result c.decision_of.result solved.ensures.accepted solved.ensures.narrow (fault_warm most s solved.result solved.ensures.note) c.decision_of.ensures
