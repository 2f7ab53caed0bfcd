-- Steps of criteria, joined where they neighbour each other.
use Rattle.std.specs.Prelude.{ℕ, ◌<◌, ◌≤◌, nat_lt, zero, suc, ◌+◌, ◌-◌, Bool, false, not, ◌&&◌, ◌||◌, ◌==◌, List, [], ◌∷◌, length, slice_index_or, if◌then◌else◌}
use Rattle.std.specs.List.{flat_map, range_with_len}
use Rattle.ror_table.specs.Table.{DecisionTable, steps, width, column}
use Rattle.ror_show_find_proofs.specs.declared.spans.Span.{Span}

-- whether the criterion has a step up from this rank, and its column is used
abbrev pub is_step_used : DecisionTable → List Bool → ℕ → ℕ → Bool
is_step_used t used i k = nat_lt k (width t i) && slice_index_or used (column t i (k + 1)) false

-- a span begins at a step that is used, where the one below it isn't
abbrev pub begins : DecisionTable → List Bool → ℕ → ℕ → Bool
begins t used i k = is_step_used t used i k && (k == 0 || not (is_step_used t used i (k - 1)))

-- the first step from one on that isn't used, among so many; the one behind them all where each is
abbrev pub end_among : DecisionTable → List Bool → ℕ → ℕ → ℕ → ℕ
end_among t used i zero k = k
end_among t used i (suc n) k = if is_step_used t used i k then end_among t used i n (k + 1) else k

-- among all of the criterion
abbrev pub end_of : DecisionTable → List Bool → ℕ → ℕ → ℕ
end_of t used i k = end_among t used i (width t i - k) k

-- from the worse level of its first step to the better one of its last
unfoldable pub span_at : DecisionTable → List Bool → ℕ → ℕ → List Span
span_at t used i k = if begins t used i k then record { criterion = i; worse = k; better = end_of t used i k } ∷ [] else []

abbrev pub spans_on : DecisionTable → List Bool → ℕ → List Span
spans_on t used i = flat_map (span_at t used i) (range_with_len 0 (width t i))

-- those of all criteria, from the worst steps to the best
abbrev pub spans_of : DecisionTable → List Bool → List Span
spans_of t used = flat_map (spans_on t used) (range_with_len 0 (length t.criteria))

-- it is one of a criterion of the table, of levels that the criterion has
pub record IsSpanIn (t : DecisionTable) (x : Span) : Type 0 where
  pub criterion : x.criterion < length t.criteria
  pub worse : x.worse ≤ steps t x.criterion
  pub better : x.better ≤ steps t x.criterion
