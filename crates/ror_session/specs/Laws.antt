-- The laws of sessions that the crate claims.
use Rattle.std.specs.Prelude.{◌≡◌, ◌↔◌, ℕ, List, Ok, Err}
use Rattle.ror_session.specs.Faults.{IsFirstFaultOf}
use Rattle.ror_session.specs.Grammar.{IsSessionText}
use Rattle.ror_session.specs.Session.{session_of}
use Rattle.ror_session.specs.Sound.{IsSound}
use Rattle.ror_session.specs.declared.limits.TheConstants.{MOST_LINES, MOST_DESKS, MOST_DESK_NAME_BYTES}
use Rattle.ror_session.specs.declared.session.Session.{Session}
use Rattle.ror_session.specs.declared.session.SessionFault.{SessionFault}

-- what is read is in the grammar, and what is in the grammar is read
abbrev pub ReadsTheGrammar : Type 0
ReadsTheGrammar = (bytes : List ℕ) (session : Session)
    → (session_of bytes ≡ Ok session) ↔ IsSessionText bytes session

-- the fault that is given is the first, and the first is given
abbrev pub GivesTheFirstFault : Type 0
GivesTheFirstFault = (bytes : List ℕ) (fault : SessionFault)
    → (session_of bytes ≡ Err fault) ↔ IsFirstFaultOf bytes fault

-- what is in the grammar is sound
abbrev pub IsSoundWhenRead : Type 0
IsSoundWhenRead = (bytes : List ℕ) (session : Session)
    → session_of bytes ≡ Ok session → IsSound session

-- what the limits of a session are
abbrev pub LimitsAre : Type 0
LimitsAre = (MOST_LINES ≡ 100000) × (MOST_DESKS ≡ 64) × (MOST_DESK_NAME_BYTES ≡ 64)
