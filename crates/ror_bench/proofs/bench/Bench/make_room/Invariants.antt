use Rattle.std.proofs.Common.{◌≡◌}
use Rattle.ror_bench.specs.Bench.{HoldTheSame}
use Rattle.ror_bench.specs.Rooms.{HasRoomBelow}
use Rattle.ror_bench.proofs.bench.Bench.make_room.Given as goal

abbrev pub invariant-loop-desk : goal.invariant-loop-desk
invariant-loop-desk l = record {
  same : HoldTheSame l.self l.initial.self;
  room : HasRoomBelow l.desk l.lines l.self;
  pivots : l.self.pivots ≡ l.initial.self.pivots;
}
