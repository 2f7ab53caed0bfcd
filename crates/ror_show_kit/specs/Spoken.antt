-- What a statement says, in the words of a session, by the ids of a table or by the names of a session's line.
use Rattle.std.specs.Prelude.{ℕ, List, [], ◌∷◌, ◌++◌, codes, decimal, Option, Some, None}
use Rattle.std.specs.List.{flat_map}
use Rattle.ror_table.specs.Table.{DecisionTable, id_of, criterion_id_of}
use Rattle.ror_statement.specs.declared.comparison.Scope.{Scope}
use Rattle.ror_statement.specs.declared.comparison.Scope.TheVariants.{Whole, One}
use Rattle.ror_statement.specs.declared.comparison.Form.{Form}
use Rattle.ror_statement.specs.declared.comparison.Form.TheVariants.{Value, Strength}
use Rattle.ror_statement.specs.declared.statement.Statement.{Statement}
use Rattle.ror_statement.specs.declared.statement.Statement.TheVariants as statements
use Rattle.ror_session.specs.declared.session.NamedPair.{NamedPair}
use Rattle.ror_session.specs.declared.session.Named.{Named}
use Rattle.ror_session.specs.declared.session.Named.TheVariants as lines

-- a verb, alternatives, the criterion behind `on`, and classes
pub record Spoken : Type 0 where
  pub verb : List ℕ
  pub names : List (List ℕ)
  pub on : Option (List ℕ)
  pub classes : List ℕ

abbrev pub two : List ℕ → List ℕ → List ℕ → Spoken
two verb a b = record { verb = verb; names = a ∷ b ∷ []; on = None; classes = [] }

abbrev pub four : List ℕ → List ℕ → List ℕ → List ℕ → List ℕ → Option (List ℕ) → Spoken
four verb a b c d on = record { verb = verb; names = a ∷ b ∷ c ∷ d ∷ []; on = on; classes = [] }

abbrev pub classed : List ℕ → ℕ → ℕ → Spoken
classed a lowest highest = record { verb = codes "class"; names = a ∷ []; on = None; classes = lowest ∷ highest ∷ [] }

-- ---- by the ids of a table

abbrev pub scope_id : DecisionTable → Scope → Option (List ℕ)
scope_id t Whole = None
scope_id t (One i) = Some (criterion_id_of t i)

-- what is compared, behind a verb
abbrev pub spoken_ids : DecisionTable → List ℕ → Form → Spoken
spoken_ids t verb (Value a b) = two verb (id_of t a) (id_of t b)
spoken_ids t verb (Strength p q s) = four verb (id_of t p.first) (id_of t p.second) (id_of t q.first) (id_of t q.second) (scope_id t s)

abbrev pub spoken_of : DecisionTable → Statement → Spoken
spoken_of t (statements.Prefer a b) = spoken_ids t (codes "prefer") (Value a b)
spoken_of t (statements.AtLeast a b) = spoken_ids t (codes "atleast") (Value a b)
spoken_of t (statements.Same a b) = spoken_ids t (codes "same") (Value a b)
spoken_of t (statements.Stronger p q s) = spoken_ids t (codes "stronger") (Strength p q s)
spoken_of t (statements.AsStrong p q s) = spoken_ids t (codes "asstrong") (Strength p q s)
spoken_of t (statements.EqualStrength p q s) = spoken_ids t (codes "equal") (Strength p q s)
spoken_of t (statements.Class a lowest highest) = classed (id_of t a) lowest highest

-- ---- by the names of a session's line

abbrev pub pairs : List ℕ → NamedPair → NamedPair → Option (List ℕ) → Spoken
pairs verb p q on = four verb p.first p.second q.first q.second on

abbrev pub spoken_in : Named → Spoken
spoken_in (lines.Prefer a b) = two (codes "prefer") a b
spoken_in (lines.AtLeast a b) = two (codes "atleast") a b
spoken_in (lines.Same a b) = two (codes "same") a b
spoken_in (lines.Stronger p q on) = pairs (codes "stronger") p q on
spoken_in (lines.AsStrong p q on) = pairs (codes "asstrong") p q on
spoken_in (lines.EqualStrength p q on) = pairs (codes "equal") p q on
spoken_in (lines.Class a lowest highest) = classed a lowest highest

-- ---- written, each name behind a gap: a blank, or what begins a new line

abbrev pub behind : List ℕ → List ℕ → List ℕ
behind gap word = gap ++ word

abbrev pub on_text : List ℕ → Option (List ℕ) → List ℕ
on_text gap None = []
on_text gap (Some criterion) = gap ++ codes "on " ++ criterion

-- classes stand in the line of what is before them
abbrev pub class_word : ℕ → List ℕ
class_word h = 32 ∷ decimal h

unfoldable pub spoken_text : List ℕ → Spoken → List ℕ
spoken_text gap x = x.verb ++ flat_map (behind gap) x.names ++ on_text gap x.on ++ flat_map class_word x.classes

-- ---- in one line

abbrev pub one_line : Spoken → List ℕ
one_line x = spoken_text (codes " ") x

abbrev pub statement_text : DecisionTable → Statement → List ℕ
statement_text t s = one_line (spoken_of t s)

abbrev pub named_text : Named → List ℕ
named_text x = one_line (spoken_in x)
