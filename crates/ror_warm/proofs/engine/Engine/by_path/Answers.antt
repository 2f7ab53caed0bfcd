use Rattle.ror_pivot.specs.Answers.{most_of}
use Rattle.ror_warm.proofs.PathFaults.{fault_of}
use Rattle.ror_warm.proofs.engine.Engine.by_path.Goals as goal

pub returns-in-Err-clause-note : goal.returns-in-Err-clause-note
returns-in-Err-clause-note c =
    fault_of (most_of c.args.bits) c.args.s.now c.in-Err.fault c.in-Err.ensures.answer c.in-Err.ensures.note
