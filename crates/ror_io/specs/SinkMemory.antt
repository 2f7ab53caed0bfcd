-- What sinks in memory hold.
use Rattle.std.specs.Prelude.{ℕ, ◌-◌, List, length}
use Rattle.ror_io.specs.Calls.{Calls}

-- the bytes written, how many bytes there is room for in all, the writes, and how many of them failed
pub record SinkMemory : Type 0 where
  pub written : List ℕ
  pub room : ℕ
  pub calls : Calls
  pub faults : ℕ

-- how many more bytes fit
abbrev pub room_left : SinkMemory → ℕ
room_left sink = sink.room - length sink.written

-- the bytes written, how many bytes there is room for in all, and how many writes failed
pub record SteadySinkMemory : Type 0 where
  pub written : List ℕ
  pub room : ℕ
  pub faults : ℕ

-- how many more bytes fit
abbrev pub steady_room_left : SteadySinkMemory → ℕ
steady_room_left sink = sink.room - length sink.written
