use Rattle.std.proofs.Common.{Err, subst}
use Rattle.ror_entries.specs.declared.write.EntriesStop.{EntriesStop}
use Rattle.ror_entries.specs.Headed.{WritesHeaded}
use Rattle.ror_work_group.specs.Entries.{group_kind, IsGivenEntry}
use Rattle.ror_work_group.proofs.write.write_report.Goals as goal

pub returns-in-Err-Write : goal.returns-in-Err-Write
returns-in-Err-Write g c =
    let m = c.args.maker.now in
    subst (λ (e : EntriesStop). WritesHeaded c.args.head.now (group_kind m.table m.lists) (IsGivenEntry m.most m.table m.lists) (g.O.Sink.faults c.args.out.now) (g.O.Sink.faults c.write_headed.new.out) (g.O.Sink.written c.args.out.now) (g.O.Sink.written c.write_headed.new.out) (Err e)) c.in-Err-Write.field-0-is c.in-Err-Write.ensures

pub returns-in-Err-Memory : goal.returns-in-Err-Memory
returns-in-Err-Memory g c =
    let m = c.args.maker.now in
    subst (λ (e : EntriesStop). WritesHeaded c.args.head.now (group_kind m.table m.lists) (IsGivenEntry m.most m.table m.lists) (g.O.Sink.faults c.args.out.now) (g.O.Sink.faults c.write_headed.new.out) (g.O.Sink.written c.args.out.now) (g.O.Sink.written c.write_headed.new.out) (Err e)) c.in-Err-Memory.field-0-is c.in-Err-Memory.ensures
