-- The first fault of a session's text, in the words of the grammar.
use Rattle.std.specs.Prelude.{◌≡◌, ℕ, ◌<◌, ◌≤◌, List, ◌∷◌, ◌++◌, length, Contains}
use Rattle.std.specs.Str.{IsUtf8}
use Rattle.ror_text.specs.declared.lines.TheConstants.{MOST_TEXT_BYTES}
use Rattle.ror_text.specs.Lines.{numbered_lines, line_count}
use Rattle.ror_session.specs.Grammar.{LineWords, Says, IsWellFormed, IsSession, IsReadable}
use Rattle.ror_session.specs.declared.limits.TheConstants.{MOST_DESKS, MOST_LINES}
use Rattle.ror_session.specs.declared.reading.Said.{Said}
use Rattle.ror_session.specs.declared.session.Session.{Session}
use Rattle.ror_session.specs.declared.session.SessionFault.{SessionFault}
use Rattle.ror_session.specs.declared.session.SessionFault.TheVariants.{NotUtf8, BadLine, TooManyLines, TooLong, TooManyDesks}

-- the lines before one are a session
pub record IsReadBefore (bytes : List ℕ) (line : ℕ × LineWords) (reached : Session) : Type 0 where
  pub readable : IsReadable bytes
  pub before : List (ℕ × LineWords)
  pub after : List (ℕ × LineWords)
  pub is : numbered_lines bytes ≡ before ++ line ∷ after
  pub reads : IsSession before reached

-- the line is for a desk that the lines before do not have, and they have as many as there may be
pub record IsForOneDeskMore (reached : Session) (line : ℕ × LineWords) : Type 0 where
  pub said : Said
  pub says : Says line said
  pub new : ¬ (Contains reached.desks said.desk)
  pub full : MOST_DESKS ≤ length reached.desks

-- the fault is the first that the bytes have
pub data IsFirstFaultOf (bytes : List ℕ) (fault : SessionFault) : Type 0 where
  too_long : MOST_TEXT_BYTES < length bytes → fault ≡ TooLong → IsFirstFaultOf bytes fault
  not_utf8 : length bytes ≤ MOST_TEXT_BYTES → ¬ (IsUtf8 bytes) → fault ≡ NotUtf8
      → IsFirstFaultOf bytes fault
  too_many_lines : length bytes ≤ MOST_TEXT_BYTES → IsUtf8 bytes → MOST_LINES < line_count bytes
      → fault ≡ TooManyLines → IsFirstFaultOf bytes fault
  bad_line : (line : ℕ × LineWords) (reached : Session) → IsReadBefore bytes line reached
      → ¬ (IsWellFormed line) → fault ≡ BadLine line.0 → IsFirstFaultOf bytes fault
  too_many_desks : (line : ℕ × LineWords) (reached : Session) → IsReadBefore bytes line reached
      → IsForOneDeskMore reached line → fault ≡ TooManyDesks line.0 → IsFirstFaultOf bytes fault
