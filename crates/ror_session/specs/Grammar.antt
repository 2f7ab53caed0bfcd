-- The grammar of a session: which words write which line, and which lines are which session.
use Rattle.std.specs.Prelude.{◌≡◌, ◌≢◌, ℕ, ◌≤◌, List, [], ◌∷◌, ◌++◌, length, map, codes, Option, Some, None}
use Rattle.std.specs.List.{AllByRecursion, AllZip}
use Rattle.std.specs.Str.{IsUtf8}
use Rattle.ror_text.specs.declared.lines.TheConstants.{MOST_TEXT_BYTES}
use Rattle.ror_text.specs.Lines.{numbered_lines, line_count}
use Rattle.ror_text.specs.Numbers.{count_of}
use Rattle.ror_session.specs.declared.limits.TheConstants.{MOST_DESKS, MOST_DESK_NAME_BYTES, MOST_LINES}
use Rattle.ror_session.specs.declared.session.NamedPair.{NamedPair}
use Rattle.ror_session.specs.declared.session.Named.{Named}
use Rattle.ror_session.specs.declared.session.Named.TheVariants.{Prefer, AtLeast, Same, Stronger, AsStrong, EqualStrength, Class}
use Rattle.ror_session.specs.declared.session.Asked.{Asked}
use Rattle.ror_session.specs.declared.session.Asked.TheVariants.{Consistent, Necessary, Possible, NecessaryStrength, PossibleStrength, PossibleClass, NecessaryClass, Classes, Relation}
use Rattle.ror_session.specs.declared.session.Command.{Command}
use Rattle.ror_session.specs.declared.session.Command.TheVariants.{State, Withdraw, Replace, Repair, Undo, Ask}
use Rattle.ror_session.specs.declared.session.Session.{Session}
use Rattle.ror_session.specs.declared.session.Line.{Line}
use Rattle.ror_session.specs.declared.reading.Said.{Said}
use Rattle.ror_session.specs.Desks.{first_appearances, place_of}

-- a line is its words
abbrev pub LineWords : Type 0
LineWords = List (List ℕ)

-- `on Q`, where a criterion is named
abbrev pub on_criterion : Option (List ℕ) → LineWords
on_criterion None = []
on_criterion (Some name) = codes "on" ∷ name ∷ []

-- `A B C D`, and `on Q` after them where a criterion is named
abbrev pub strength_words : NamedPair → NamedPair → Option (List ℕ) → LineWords
strength_words p q criterion =
    p.first ∷ p.second ∷ q.first ∷ q.second ∷ on_criterion criterion

-- the word is a count, and writes this number
abbrev pub WritesCount : List ℕ → ℕ → Type 0
WritesCount word n = count_of word ≡ Some n

-- the words spell the statement
abbrev pub SpellsStatement : LineWords → Named → Type 0
SpellsStatement ws (Prefer a b) = ws ≡ codes "prefer" ∷ a ∷ b ∷ []
SpellsStatement ws (AtLeast a b) = ws ≡ codes "atleast" ∷ a ∷ b ∷ []
SpellsStatement ws (Same a b) = ws ≡ codes "same" ∷ a ∷ b ∷ []
SpellsStatement ws (Stronger p q on) = ws ≡ codes "stronger" ∷ strength_words p q on
SpellsStatement ws (AsStrong p q on) = ws ≡ codes "asstrong" ∷ strength_words p q on
SpellsStatement ws (EqualStrength p q on) = ws ≡ codes "equal" ∷ strength_words p q on
SpellsStatement ws (Class a lowest highest) =
    (low : List ℕ) × (high : List ℕ) × (ws ≡ codes "class" ∷ a ∷ low ∷ high ∷ [])
    × WritesCount low lowest × WritesCount high highest

-- the words, those after `ask`, spell the question
abbrev pub SpellsQuestion : LineWords → Asked → Type 0
SpellsQuestion ws Consistent = ws ≡ codes "consistent" ∷ []
SpellsQuestion ws (Necessary a b) = ws ≡ codes "necessary" ∷ a ∷ b ∷ []
SpellsQuestion ws (Possible a b) = ws ≡ codes "possible" ∷ a ∷ b ∷ []
SpellsQuestion ws (NecessaryStrength p q on) = ws ≡ codes "necessary" ∷ strength_words p q on
SpellsQuestion ws (PossibleStrength p q on) = ws ≡ codes "possible" ∷ strength_words p q on
SpellsQuestion ws (PossibleClass a n) =
    (word : List ℕ) × (ws ≡ codes "possible-class" ∷ a ∷ word ∷ []) × WritesCount word n
SpellsQuestion ws (NecessaryClass a n) =
    (word : List ℕ) × (ws ≡ codes "necessary-class" ∷ a ∷ word ∷ []) × WritesCount word n
SpellsQuestion ws (Classes a) = ws ≡ codes "classes" ∷ a ∷ []
SpellsQuestion ws Relation = ws ≡ codes "relation" ∷ []

-- the words spell the command
abbrev pub Spells : LineWords → Command → Type 0
Spells ws (State named) = SpellsStatement ws named
Spells ws (Withdraw n) =
    (word : List ℕ) × (ws ≡ codes "withdraw" ∷ word ∷ []) × WritesCount word n
Spells ws (Replace n named) =
    (word : List ℕ) × (statement : LineWords) × (ws ≡ codes "replace" ∷ word ∷ statement)
    × WritesCount word n × SpellsStatement statement named
Spells ws Repair = ws ≡ codes "repair" ∷ []
Spells ws Undo = ws ≡ codes "undo" ∷ []
Spells ws (Ask asked) =
    (question : LineWords) × (ws ≡ codes "ask" ∷ question) × SpellsQuestion question asked

-- the desk word of a desk, `@` and its name; the desk without a name has none
abbrev pub desk_words : List ℕ → LineWords
desk_words [] = []
desk_words (byte ∷ bytes) = (64 ∷ byte ∷ bytes) ∷ []

-- no byte of the word is below 0x21 or is 0x7F: it has neither blanks nor control bytes
abbrev pub IsClean : List ℕ → Type 0
IsClean word = AllByRecursion (λ byte. (0x21 ≤ byte) × (byte ≢ 0x7F)) word

-- a line's number in the file and its words, and what the line says
pub record Says (line : ℕ × LineWords) (said : Said) : Type 0 where
  pub number : said.number ≡ line.0
  pub clean : AllByRecursion IsClean line.1
  pub command_words : LineWords
  pub is : line.1 ≡ desk_words said.desk ++ command_words
  pub short : length said.desk ≤ MOST_DESK_NAME_BYTES
  pub spelled : Spells command_words said.command

-- a line says something
abbrev pub IsWellFormed : ℕ × LineWords → Type 0
IsWellFormed line = (said : Said) × Says line said

-- what a line says, with the place of its desk
abbrev pub placed : List (List ℕ) → Said → Line
placed desks said =
    record { number = said.number; desk = place_of desks said.desk; command = said.command }

-- what the lines say is the session: its desks are theirs, in order of first appearance
pub record IsSession (numbered : List (ℕ × LineWords)) (session : Session) : Type 0 where
  pub said : List Said
  pub says : AllZip Says numbered said
  pub desks : session.desks ≡ first_appearances (map (λ line. line.desk) said)
  pub few_desks : length session.desks ≤ MOST_DESKS
  pub lines : session.lines ≡ map (placed session.desks) said

-- the bytes are within the limits, and a text
pub record IsReadable (bytes : List ℕ) : Type 0 where
  pub few_bytes : length bytes ≤ MOST_TEXT_BYTES
  pub utf8 : IsUtf8 bytes
  pub few_lines : line_count bytes ≤ MOST_LINES

-- the bytes are a text of the session
pub record IsSessionText (bytes : List ℕ) (session : Session) : Type 0 where
  pub readable : IsReadable bytes
  pub lines : IsSession (numbered_lines bytes) session
