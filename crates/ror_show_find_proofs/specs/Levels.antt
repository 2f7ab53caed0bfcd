-- A value function of a table level by level: shares of the value of the best levels, and runs of levels that are worth the same.
use Rattle.std.specs.Prelude.{ℕ, suc, zero, ◌+◌, ◌-◌, Bool, true, not, ◌==◌, unsigned_abs, if◌then◌else◌}
use Rattle.ror_table.specs.Table.{DecisionTable, steps}
use Rattle.ror_value.specs.Value.{marginal, Normalised}
use Rattle.ror_show_find_proofs.specs.declared.share.Share.{Share}

-- the marginal value at the level of a rank, as a share of the value of the best levels
abbrev pub share_at : DecisionTable → Normalised → ℕ → ℕ → Share
share_at t f i r = record { part = unsigned_abs (marginal t f.steps i r); whole = unsigned_abs f.total }

-- that of all best levels together
abbrev pub whole_of : Normalised → Share
whole_of f = record { part = unsigned_abs f.total; whole = unsigned_abs f.total }

-- the weight of a criterion: the share of its best level
abbrev pub weight_of : DecisionTable → Normalised → ℕ → Share
weight_of t f i = share_at t f i (steps t i)

-- ---- runs

-- the levels of two ranks are worth the same
abbrev pub is_same_at : DecisionTable → Normalised → ℕ → ℕ → ℕ → Bool
is_same_at t f i r s = (share_at t f i r).part == (share_at t f i s).part

-- a run begins at the worst level, and at each that is worth more than the one below it
abbrev pub begins_run : DecisionTable → Normalised → ℕ → ℕ → Bool
begins_run t f i r = if r == 0 then true else not (is_same_at t f i (r - 1) r)

-- the last level up to which all are worth the same, among so many above this one
abbrev pub run_end : DecisionTable → Normalised → ℕ → ℕ → ℕ → ℕ
run_end t f i zero r = r
run_end t f i (suc n) r = if is_same_at t f i r (r + 1) then run_end t f i n (r + 1) else r

-- among all
abbrev pub last_of_run : DecisionTable → Normalised → ℕ → ℕ → ℕ
last_of_run t f i r = run_end t f i (steps t i - r) r
