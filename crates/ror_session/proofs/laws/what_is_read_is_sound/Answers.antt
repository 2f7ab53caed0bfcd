use Rattle.ror_session.proofs.TextLemmas.{session_of-sound}
use Rattle.ror_session.proofs.SoundLemmas.{session-sound}
use Rattle.ror_session.proofs.laws.what_is_read_is_sound.Goals as goal

pub returns : goal.returns
returns c = λ bytes session e. session-sound bytes session (session_of-sound bytes session e)
