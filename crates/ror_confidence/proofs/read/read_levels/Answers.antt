use Rattle.ror_text.specs.Reading.{Gives}
use Rattle.std.proofs.Common.{rules}
use Rattle.ror_confidence.specs.declared.levels.Levels.{Levels}
use Rattle.ror_confidence.specs.Reading.{levels_fault, levels_of}
use Rattle.ror_confidence.proofs.ReadLevels.{gives_sound}
use Rattle.ror_confidence.proofs.read.read_levels.Goals as goal

pub returns-in_ok-read_header-in-Some-clause-sound : goal.returns-in_ok-read_header-in-Some-clause-sound
unfolding levels_of
returns-in_ok-read_header-in-Some-clause-sound c =
    let exact : Gives (λ (levels : Levels). levels) levels_fault c.read_counted.result (levels_of c.args.standing.now c.args.bytes.now) = search rules in
    gives_sound c.args.standing.now c.args.bytes.now c.read_counted.result exact
