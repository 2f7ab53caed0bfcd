use Rattle.std.proofs.Common.{arith, refl, ap, length, ◌∙◌}
use Rattle.ror_bench.proofs.SameLemmas.{same_through}
use Rattle.ror_bench.proofs.RoomLemmas.{room_begins, room_more}
use Rattle.ror_bench.proofs.bench.Bench.make_room.Goals as goal

pub loop-desk-init : goal.loop-desk-init
loop-desk-init c = record { same = (refl, refl); room = room_begins c.args.lines.now c.args.self.now; pivots = refl }

pub reserve-requires : goal.reserve-requires
reserve-requires c = let long = ap length c.loop-desk.invariant.same.1 in let few = c.requires in omega arith

pub loop-desk-preserved : goal.loop-desk-preserved
loop-desk-preserved c = record {
  same = same_through c.reserve.new.self c.loop-desk.self c.args.self.now c.in_ok-reserve.ensures.kept c.loop-desk.invariant.same;
  room = room_more c.args.lines.now c.loop-desk.desk c.loop-desk.self c.reserve.new.self c.revisions_of.result c.revisions_of.ensures c.in_ok-reserve.ensures.room c.in_ok-reserve.ensures.no_less c.loop-desk.invariant.room;
  pivots = c.in_ok-reserve.ensures.pivots ∙ c.loop-desk.invariant.pivots;
}
