-- What a table and the statements that come with it are, as plain text.
use Rattle.std.specs.Prelude.{ℕ, zero, suc, ◌+◌, ◌==◌, Bool, true, false, ◌||◌, nat_lt, List, [], ◌∷◌, ◌++◌, length, codes, decimal, slice_get, Option, Some, None, if◌then◌else◌}
use Rattle.ror_statement.specs.declared.statement.Statement.{Statement}
use Rattle.ror_show_kit.specs.Amounts.{amount_text}
use Rattle.ror_table.specs.declared.amount.Amount.{Amount}
use Rattle.ror_table.specs.declared.direction.Direction.{Direction}
use Rattle.ror_table.specs.declared.direction.Direction.TheVariants.{Max, Min}
use Rattle.ror_table.specs.Table.{DecisionTable, criterion_id_of, direction_at, id_of, is_linear, performance_at, rank, steps, columns}
use Rattle.ror_value.specs.declared.input.Input.{Input}
use Rattle.ror_show_kit.specs.Spoken.{Spoken, spoken_of, spoken_text}
use Rattle.ror_show_sheet.specs.Pieces.{pieces, widest, laid, word_piece}
use Rattle.ror_show_sheet.specs.Pieces as layout

-- ---- criteria

abbrev pub direction_text : Direction → List ℕ
direction_text Max = codes "max"
direction_text Min = codes "min"

abbrev pub linear_text : Bool → List ℕ
linear_text linear = if linear then codes " linear" else []

unfoldable pub amount_piece : Amount → List ℕ
amount_piece p = amount_text p

-- of the first n alternatives the last one with this rank on a criterion, or the first of all
abbrev pub holder : DecisionTable → ℕ → ℕ → ℕ → ℕ
holder t i r zero = 0
holder t i r (suc n) = if rank t n i == r then n else holder t i r n

-- the performance that has this rank
abbrev pub level_text : DecisionTable → ℕ → ℕ → List ℕ
level_text t i r = amount_piece (performance_at t (holder t i r (length t.alternatives)) i)

abbrev pub performance_text : DecisionTable → ℕ → ℕ → List ℕ
performance_text t i a = amount_piece (performance_at t a i)

abbrev pub level_width : DecisionTable → ℕ → ℕ
level_width t i = widest (performance_text t i) (length t.alternatives)

-- the levels from worst to best
abbrev pub levels_text : DecisionTable → ℕ → List ℕ
levels_text t i = laid (level_width t i) (level_text t i) (steps t i)
    ++ word_piece (level_width t i) (level_text t i) (steps t i)

abbrev pub criterion_head : DecisionTable → ℕ → List ℕ
criterion_head t i = codes "\n  " ++ criterion_id_of t i ++ codes "  " ++ direction_text (direction_at t i)
    ++ linear_text (is_linear t i) ++ codes ", steps " ++ decimal (steps t i)

unfoldable pub criterion_text : DecisionTable → ℕ → List ℕ
criterion_text t i = criterion_head t i ++ levels_text t i

unfoldable pub levels_word : List ℕ
levels_word = codes ", each with its levels from worst to best; columns "

unfoldable pub columns_word : List ℕ
columns_word = codes " (one for each step, or one for a linear criterion)"

unfoldable pub criteria_head : DecisionTable → List ℕ
criteria_head t = codes "criteria " ++ decimal (length t.criteria) ++ levels_word ++ decimal (columns t) ++ columns_word

unfoldable pub criteria_text : DecisionTable → List ℕ
criteria_text t = criteria_head t ++ pieces (criterion_text t) (length t.criteria) ++ codes "\n"

-- ---- alternatives and classes

unfoldable pub alternatives_text : DecisionTable → List ℕ
alternatives_text t = codes "alternatives " ++ decimal (length t.alternatives)
    ++ laid (widest (id_of t) (length t.alternatives)) (id_of t) (length t.alternatives) ++ codes "\n"

unfoldable pub classes_text : ℕ → List ℕ
classes_text n = if n == 0 then codes "classes none\n"
    else codes "classes " ++ decimal n ++ codes ", 1 is the worst and " ++ decimal n ++ codes " the best\n"

-- ---- statements

-- a blank, or what begins a new line
abbrev pub gap : Bool → List ℕ
gap anew = if anew then codes "\n       " else 32 ∷ []

abbrev pub is_wide : ℕ → List ℕ → Bool
is_wide most name = nat_lt most (layout.columns name)

abbrev pub is_wide_pair : ℕ → List ℕ → List ℕ → Bool
is_wide_pair most a b = is_wide most a || is_wide most b

-- one of two alternatives is wide, or one of four; one alone never begins a new line
abbrev pub are_wide : List (List ℕ) → Bool
are_wide (a ∷ b ∷ []) = is_wide_pair 48 a b
are_wide (a ∷ b ∷ c ∷ d ∷ []) = is_wide_pair 16 a b || is_wide_pair 16 c d
are_wide _ = false

abbrev pub is_wide_on : Option (List ℕ) → Bool
is_wide_on None = false
is_wide_on (Some criterion) = is_wide 16 criterion

-- each name begins a new line, since one of them is wide
abbrev pub is_spread : Spoken → Bool
is_spread x = if is_wide_on x.on then true else are_wide x.names

abbrev pub said : Spoken → List ℕ
said x = spoken_text (gap (is_spread x)) x

-- as a line of a session says it
abbrev pub statement_text : DecisionTable → Statement → List ℕ
statement_text t s = said (spoken_of t s)

abbrev pub stated : DecisionTable → Option Statement → List ℕ
stated t (Some s) = statement_text t s
stated t None = []

-- the line of the statement at a place, with its number
unfoldable pub statement_line : DecisionTable → List Statement → ℕ → List ℕ
statement_line t list place = codes "\n  " ++ decimal (place + 1) ++ codes "  " ++ stated t (slice_get list place)

unfoldable pub statements_word : List ℕ
statements_word = codes "statements that the file brings, at every desk: "

unfoldable pub statements_head : List Statement → List ℕ
statements_head list = statements_word ++ decimal (length list)

unfoldable pub statements_text : DecisionTable → List Statement → List ℕ
statements_text t list = statements_head list ++ pieces (statement_line t list) (length list) ++ codes "\n"

-- ---- the sheet

abbrev pub sheet_text : Input → List ℕ
sheet_text i = criteria_text i.table ++ alternatives_text i.table ++ classes_text i.table.classes
    ++ statements_text i.table i.opening
