use Rattle.ror_pivot.specs.Answers.{most_of}
use Rattle.ror_relation.proofs.Notes.{decided_by, counted_by, below, fault_alone}
use Rattle.ror_relation.proofs.decision.decide_system.Goals as goal

pub decision_of-requires : goal.decision_of-requires
decision_of-requires c = below c.args.system.now c.solve_counted.result c.requires c.solve_counted.ensures.note

pub returns-clause-decided : goal.returns-clause-decided
returns-clause-decided c =
    let most = most_of c.args.bits in
    let s = c.args.system.now in
    let solved = c.solve_counted in
    decided_by most s solved.result c.decision_of.result solved.ensures.accepted solved.ensures.narrow (fault_alone most s solved.result solved.ensures.answer) c.decision_of.ensures

pub returns-clause-exact : goal.returns-clause-exact
returns-clause-exact c =
    let solved = c.solve_counted in
    counted_by c.args.system.now solved.result c.decision_of.result c.args.pivots.now solved.new.pivots solved.ensures.counted c.decision_of.ensures
