-- What the fields of a history hold.
use Rattle.std.specs.Prelude.{ℕ, ◌-◌, ◌<◌, min, reverse, vec_len, vec_capacity}
use Rattle.ror_statement.specs.declared.row_number.TheConstants.{MOST_STATEMENTS}
use Rattle.ror_history.specs.declared.history.History.TheInside.{Inside}
use Rattle.ror_history.specs.History.{HistoryView}
use Rattle.ror_history.specs.Inverses.{revisions_of, IsHeld}

-- a revision takes at most one node and one inverse
abbrev pub room : Inside → ℕ
room h = min h.chain.spare (vec_capacity h.inverses - vec_len h.inverses)

abbrev pub contents : Inside → HistoryView
contents h = record { state = revisions_of h.chain.state (reverse h.inverses.items); spare = room h }

-- the scratch list has room for all statements that may stand and one more
pub record IsWhole (h : Inside) : Type 0 where
  pub held : IsHeld h.chain.state (reverse h.inverses.items)
  pub scratch : MOST_STATEMENTS < vec_capacity h.scratch
