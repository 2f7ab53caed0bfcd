-- What is listed of a relation is what is known of it.
use Rattle.std.specs.Prelude.{◌≡◌, ◌≢◌, ◌↔◌, ℕ, ◌<◌, true, List}
use Rattle.ror_proof.specs.declared.answer.Answer.{Answer}
use Rattle.ror_show_find_relation.specs.Relations.{holds}
use Rattle.ror_show_find_relation.specs.Cells.{cell_rows}
use Rattle.ror_show_find_relation.specs.Pages.{known}
use Rattle.ror_show_find_relation.specs.Rows.{is_over_at}

-- a row has a line with a column where it is known to be at least as good, and is another alternative
abbrev pub ListedIsKnown : Type 0
ListedIsKnown = (n : ℕ) (xs : List Answer) (a b : ℕ) → a < n → b < n
    → (is_over_at (cell_rows n xs) a b ≡ true) ↔ ((holds (known (cell_rows n xs)) a b ≡ true) × (a ≢ b))
