-- Reading one answer of a level after the other, as the loop over a proof does.
use Rattle.std.proofs.Common.{◌≡◌, ℕ, zero, suc, ◌<◌, true, false, List, [], ◌∷◌, length, Ok, refl, arith}
use Rattle.ror_text.specs.Reading.{◌>>=◌}
use Rattle.ror_table.specs.Table.{DecisionTable}
use Rattle.ror_text.specs.Cursor.{Cursor}
use Rattle.ror_spans.specs.Reading.{begins_level, level_answer_at, level_answers_at}

pub answer_step : (t : DecisionTable) (most : ℕ) (c : Cursor) → begins_level c.rest ≡ true
    → level_answers_at t (suc most) c ≡ (level_answer_at t c >>= λ first. level_answers_at t most first.1 >>= λ others. Ok (first.0 ∷ others.0, others.1))
unfolding level_answers_at
answer_step t most c more = rw more refl

pub no_answers : (t : DecisionTable) (most : ℕ) (c : Cursor) → begins_level c.rest ≡ false → level_answers_at t most c ≡ Ok ([], c)
unfolding level_answers_at
no_answers t zero c ends = refl
no_answers t (suc most) c ends = rw ends refl

-- where the answers go on there is a byte
pub goes_on_some : (bytes : List ℕ) → begins_level bytes ≡ true → 0 < length bytes
goes_on_some [] more = absurd cc
goes_on_some (b ∷ bs) more = omega arith
