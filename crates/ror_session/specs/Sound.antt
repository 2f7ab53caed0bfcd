-- What holds of every session that is read.
use Rattle.std.specs.Prelude.{◌≡◌, ℕ, ◌<◌, ◌≤◌, List, [], ◌∷◌, length, map, slice_index_or, Option}
use Rattle.std.specs.List.{AllByRecursion, IsDistinct}
use Rattle.std.specs.List.Sorted.{IsStrictlyIncreasing}
use Rattle.std.specs.Option.{option_to_list}
use Rattle.std.specs.Str.{bytes_eq}
use Rattle.ror_session.specs.Desks.{first_appearances}
use Rattle.ror_session.specs.Grammar.{IsClean}
use Rattle.ror_session.specs.declared.limits.TheConstants.{MOST_DESKS, MOST_DESK_NAME_BYTES, MOST_LINES}
use Rattle.ror_session.specs.declared.session.NamedPair.{NamedPair}
use Rattle.ror_session.specs.declared.session.Named.{Named}
use Rattle.ror_session.specs.declared.session.Named.TheVariants.{Prefer, AtLeast, Same, Stronger, AsStrong, EqualStrength, Class}
use Rattle.ror_session.specs.declared.session.Asked.{Asked}
use Rattle.ror_session.specs.declared.session.Asked.TheVariants.{Consistent, Necessary, Possible, NecessaryStrength, PossibleStrength, PossibleClass, NecessaryClass, Classes, Relation}
use Rattle.ror_session.specs.declared.session.Command.{Command}
use Rattle.ror_session.specs.declared.session.Command.TheVariants.{State, Withdraw, Replace, Repair, Undo, Ask}
use Rattle.ror_session.specs.declared.session.Session.{Session}
use Rattle.ror_session.specs.declared.session.Line.{Line}

abbrev pub names_of_pairs : NamedPair → NamedPair → Option (List ℕ) → List (List ℕ)
names_of_pairs p q criterion =
    p.first ∷ p.second ∷ q.first ∷ q.second ∷ option_to_list criterion

abbrev pub names_of_statement : Named → List (List ℕ)
names_of_statement (Prefer a b) = a ∷ b ∷ []
names_of_statement (AtLeast a b) = a ∷ b ∷ []
names_of_statement (Same a b) = a ∷ b ∷ []
names_of_statement (Stronger p q on) = names_of_pairs p q on
names_of_statement (AsStrong p q on) = names_of_pairs p q on
names_of_statement (EqualStrength p q on) = names_of_pairs p q on
names_of_statement (Class a lowest highest) = a ∷ []

abbrev pub names_of_question : Asked → List (List ℕ)
names_of_question Consistent = []
names_of_question (Necessary a b) = a ∷ b ∷ []
names_of_question (Possible a b) = a ∷ b ∷ []
names_of_question (NecessaryStrength p q on) = names_of_pairs p q on
names_of_question (PossibleStrength p q on) = names_of_pairs p q on
names_of_question (PossibleClass a n) = a ∷ []
names_of_question (NecessaryClass a n) = a ∷ []
names_of_question (Classes a) = a ∷ []
names_of_question Relation = []

-- the names of alternatives and criteria that a command gives
abbrev pub names_of : Command → List (List ℕ)
names_of (State named) = names_of_statement named
names_of (Withdraw n) = []
names_of (Replace n named) = names_of_statement named
names_of Repair = []
names_of Undo = []
names_of (Ask asked) = names_of_question asked

-- the name of a line's desk
abbrev pub desk_name : List (List ℕ) → Line → List ℕ
desk_name desks line = slice_index_or desks line.desk []

-- Each desk is that of some line: the desks are those of the lines, in order of first appearance.
pub record IsSound (session : Session) : Type 0 where
  pub few_desks : length session.desks ≤ MOST_DESKS
  pub distinct : IsDistinct bytes_eq session.desks
  pub short : AllByRecursion (λ name. length name ≤ MOST_DESK_NAME_BYTES) session.desks
  pub clean_desks : AllByRecursion IsClean session.desks
  pub desks : AllByRecursion (λ line. line.desk < length session.desks) session.lines
  pub order : session.desks ≡ first_appearances (map (desk_name session.desks) session.lines)
  pub few_lines : length session.lines ≤ MOST_LINES
  pub numbers : AllByRecursion (λ line. line.number ≤ MOST_LINES) session.lines
  pub rising : IsStrictlyIncreasing (map (λ line. line.number) session.lines)
  pub clean : AllByRecursion (λ line. AllByRecursion IsClean (names_of line.command)) session.lines
