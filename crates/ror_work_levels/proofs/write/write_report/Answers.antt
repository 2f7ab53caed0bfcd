use Rattle.std.proofs.Common.{ℕ, List, Ok, Err, inr, subst}
use Rattle.ror_entries.specs.declared.write.EntriesStop.{EntriesStop}
use Rattle.ror_entries.specs.declared.write.EntriesStop.TheVariants as entry_stops
use Rattle.ror_entries.specs.Headed.{WritesHeaded}
use Rattle.ror_work_levels.specs.Entries.{span_kind, IsGivenEntry}
use Rattle.ror_work_levels.proofs.write.write_report.Goals as goal

pub returns-in-Err-Write : goal.returns-in-Err-Write
returns-in-Err-Write g c =
    let m = c.args.maker.now in
    let told = subst (λ (e : EntriesStop). WritesHeaded c.header.result.now (span_kind m.table m.lists) (IsGivenEntry m.most m.table m.lists) (g.O.Sink.faults c.args.out.now) (g.O.Sink.faults c.write_headed.new.out) (g.O.Sink.written c.args.out.now) (g.O.Sink.written c.write_headed.new.out) (Err e)) c.in-Err-Write.field-0-is c.in-Err-Write.ensures in
    subst (λ (h : List ℕ). WritesHeaded h (span_kind m.table m.lists) (IsGivenEntry m.most m.table m.lists) (g.O.Sink.faults c.args.out.now) (g.O.Sink.faults c.write_headed.new.out) (g.O.Sink.written c.args.out.now) (g.O.Sink.written c.write_headed.new.out) (Err entry_stops.Write)) c.header.ensures told

pub returns-in-Err-Memory : goal.returns-in-Err-Memory
returns-in-Err-Memory g c =
    let m = c.args.maker.now in
    let told = subst (λ (e : EntriesStop). WritesHeaded c.header.result.now (span_kind m.table m.lists) (IsGivenEntry m.most m.table m.lists) (g.O.Sink.faults c.args.out.now) (g.O.Sink.faults c.write_headed.new.out) (g.O.Sink.written c.args.out.now) (g.O.Sink.written c.write_headed.new.out) (Err e)) c.in-Err-Memory.field-0-is c.in-Err-Memory.ensures in
    inr (subst (λ (h : List ℕ). WritesHeaded h (span_kind m.table m.lists) (IsGivenEntry m.most m.table m.lists) (g.O.Sink.faults c.args.out.now) (g.O.Sink.faults c.write_headed.new.out) (g.O.Sink.written c.args.out.now) (g.O.Sink.written c.write_headed.new.out) (Err entry_stops.Memory)) c.header.ensures told)
