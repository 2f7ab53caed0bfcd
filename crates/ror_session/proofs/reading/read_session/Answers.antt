use Rattle.std.proofs.Common.{◌≡◌, Ok, rules}
use Rattle.ror_session.specs.Session.{session_of}
use Rattle.ror_session.proofs.SoundLemmas.{session-sound}
use Rattle.ror_session.proofs.TextLemmas.{session_of-sound}
use Rattle.ror_session.proofs.reading.read_session.Goals as goal

pub returns-clause-sound : goal.returns-clause-sound
unfolding session_of
returns-clause-sound c =
    let is : session_of c.args.bytes.now ≡ Ok c.finish.result = search rules in
    session-sound c.args.bytes.now c.finish.result (session_of-sound c.args.bytes.now c.finish.result is)
