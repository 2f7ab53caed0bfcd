-- The input that a number generates: a table of drawn performances, and a session over it whose statements one hidden value
-- function meets.
use Rattle.std.specs.Prelude.{ℕ, zero, suc, ◌+◌, ◌*◌, ◌/◌, ◌%◌, ◌^◌, false, if◌then◌else◌, List, [], ◌∷◌, ◌++◌, map, codes, ℤ, pos, int_lt, ◌+ℤ◌, ◌-ℤ◌}
use Rattle.std.specs.List.{range_with_len}
use Rattle.ror_table.specs.declared.amount.Amount.{Amount}
use Rattle.ror_table.specs.declared.direction.Direction.TheVariants.{Max, Min}
use Rattle.ror_table.specs.Amounts.{whole}
use Rattle.ror_table.specs.Table.{Criterion, Alternative, DecisionTable, id_of, performance_at}
use Rattle.ror_session.specs.declared.session.Named.{Named}
use Rattle.ror_session.specs.declared.session.Named.TheVariants.{Prefer, AtLeast}
use Rattle.ror_session.specs.declared.session.Asked.TheVariants.{Consistent, Relation}
use Rattle.ror_session.specs.declared.session.Command.{Command}
use Rattle.ror_session.specs.declared.session.Command.TheVariants.{State, Undo, Ask}
use Rattle.ror_session.specs.declared.session.Line.{Line}
use Rattle.ror_session.specs.declared.session.Session.{Session}
use Rattle.ror_bench.specs.declared.generated.Generated.{Generated}

-- ---- the draws

-- a linear congruential generator: the seed after a draw
unfoldable pub next_seed : ℕ → ℕ
next_seed seed = (1103515245 * seed + 12345) % 2 ^ 31

-- the seed after so many draws
unfoldable pub seed_after : ℕ → ℕ → ℕ
seed_after seed zero = seed
seed_after seed (suc draws) = next_seed (seed_after seed draws)

-- the number below n that a draw gives which leaves this seed
unfoldable pub drawn_with : ℕ → ℕ → ℕ
drawn_with seed n = seed / 65536 % n

-- the number below n that draw k gives, counted from 0, where the first draw begins at this seed
abbrev pub drawn : ℕ → ℕ → ℕ → ℕ
drawn seed k n = drawn_with (seed_after seed (k + 1)) n

-- ---- the table

abbrev pub generated_criteria : List Criterion
generated_criteria =
    record { id = codes "k1"; direction = Max; linear = false }
    ∷ record { id = codes "k2"; direction = Min; linear = false }
    ∷ record { id = codes "k3"; direction = Max; linear = false }
    ∷ record { id = codes "k4"; direction = Min; linear = false } ∷ []

abbrev pub ALTERNATIVES : ℕ
ALTERNATIVES = 24

-- `x01` to `x24`, for 0 to 23
abbrev pub generated_id : ℕ → List ℕ
generated_id a = codes "x" ++ (48 + (a + 1) / 10) ∷ (48 + (a + 1) % 10) ∷ []

-- the first alternative's performance on the first criterion is raised, so that there are two levels on that criterion
abbrev pub raise : ℕ → ℕ → ℕ
raise zero zero = 100
raise a i = 0

-- alternative a's performances, drawn criterion by criterion, from this seed on
abbrev pub generated_row : ℕ → ℕ → List Amount
generated_row seed a = map (λ i. whole (pos (drawn seed i 100 + raise a i))) (range_with_len 0 4)

-- each alternative takes four draws, after those before it
abbrev pub generated_alternative : ℕ → ℕ → Alternative
generated_alternative seed a =
    record { id = generated_id a; performances = generated_row (seed_after seed (4 * a)) a }

unfoldable pub generated_table : ℕ → DecisionTable
generated_table seed = record {
  criteria = generated_criteria;
  alternatives = map (generated_alternative seed) (range_with_len 0 ALTERNATIVES);
  classes = 0;
}

-- ---- the session

-- the hidden value of an alternative: what is to be great, less what is to be small
abbrev pub hidden_value : DecisionTable → ℕ → ℤ
hidden_value t a =
    (performance_at t a 0).num -ℤ (performance_at t a 1).num +ℤ (performance_at t a 2).num -ℤ (performance_at t a 3).num

-- what a judge states of two alternatives by their hidden values
abbrev pub judged : DecisionTable → ℕ → ℕ → Named
judged t a b = if int_lt (hidden_value t b) (hidden_value t a) then Prefer (id_of t a) (id_of t b)
    else (if int_lt (hidden_value t a) (hidden_value t b) then Prefer (id_of t b) (id_of t a)
    else AtLeast (id_of t a) (id_of t b))

-- what is stated of two alternatives that are drawn, from this seed on
abbrev pub stated_from : DecisionTable → ℕ → Command
stated_from t seed = State (judged t (drawn seed 0 ALTERNATIVES) (drawn seed 1 ALTERNATIVES))

-- twelve statements, each of which takes two draws
unfoldable pub generated_statements : DecisionTable → ℕ → List Command
generated_statements t seed = map (λ k. stated_from t (seed_after seed (2 * k))) (range_with_len 0 12)

-- after them, whether any function is compatible, all pairs, three undos, and all pairs again
abbrev pub generated_commands : DecisionTable → ℕ → List Command
generated_commands t seed = generated_statements t seed
    ++ Ask Consistent ∷ Ask Relation ∷ Undo ∷ Undo ∷ Undo ∷ Ask Relation ∷ []

-- a line for each command, numbered from this number on, at the first desk
abbrev pub lines_from : ℕ → List Command → List Line
lines_from number [] = []
lines_from number (command ∷ commands) =
    record { number = number; desk = 0; command = command } ∷ lines_from (1 + number) commands

-- one desk, without a name, and a line for each command
unfoldable pub generated_session : DecisionTable → ℕ → Session
generated_session t seed =
    record { desks = [] ∷ []; lines = lines_from 1 (generated_commands t seed) }

-- the input and the session of a number, which is the first seed; no statement comes with the table
abbrev pub generated : ℕ → Generated
generated number = record {
  input = record { table = generated_table number; opening = [] };
  session = generated_session (generated_table number) (seed_after number 96);
}
