-- So many answers, read one after the other.
use Rattle.std.proofs.Common.{◌≡◌, ℕ, zero, suc, [], Ok, refl}
use Rattle.ror_text.specs.Cursor.{Cursor}
use Rattle.ror_table.specs.Table.{DecisionTable}
use Rattle.ror_proof.specs.Reading.{answer_at}
use Rattle.ror_proof.proofs.Loops.{line_then}
use Rattle.ror_show_forms.specs.Reading.{answers_at}

pub answer_step : (t : DecisionTable) (count : ℕ) (c : Cursor) → answers_at t (suc count) c ≡ line_then (answer_at t c) (answers_at t count)
unfolding answers_at
answer_step t count c = refl

pub no_answers : (t : DecisionTable) (c : Cursor) → answers_at t zero c ≡ Ok ([], c)
unfolding answers_at
no_answers t c = refl
