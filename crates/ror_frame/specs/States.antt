-- What a shelf and a sink tell of themselves.
use Rattle.std.specs.Prelude.{ℕ, List, Option}
use Rattle.ror_io.specs.Files.{Files}

-- a shelf's files, how many fetches failed by a fault of it, and how many were made
pub record ShelfState : Type 0 where
  pub told : Option Files
  pub faults : ℕ
  pub fetches : ℕ

-- the bytes written to a sink, and how many writes failed
pub record SinkState : Type 0 where
  pub written : Option (List ℕ)
  pub faults : ℕ

abbrev pub shelf_state : Option Files → ℕ → ℕ → ShelfState
shelf_state told faults fetches = record { told = told; faults = faults; fetches = fetches }

abbrev pub sink_state : Option (List ℕ) → ℕ → SinkState
sink_state written faults = record { written = written; faults = faults }
