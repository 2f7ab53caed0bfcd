use Rattle.ror_session.proofs.TextLemmas.{session_of-sound, session_of-again}
use Rattle.ror_session.proofs.laws.sessions_are_the_grammar.Goals as goal

pub returns : goal.returns
returns c = λ bytes session. (session_of-sound bytes session, session_of-again bytes session)
