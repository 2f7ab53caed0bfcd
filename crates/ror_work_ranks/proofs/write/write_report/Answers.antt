use Rattle.std.proofs.Common.{◌≡◌, ◌∙◌, Ok, Err, subst}
use Rattle.ror_pivot.specs.Answers.{most_of}
use Rattle.ror_entries.specs.declared.write.EntriesStop.{EntriesStop}
use Rattle.ror_entries.specs.declared.write.EntriesStop.TheVariants as entry_stops
use Rattle.ror_entries.specs.Headed.{WritesHeaded}
use Rattle.ror_work_ranks.specs.Entries.{ranks_kind, IsGivenEntry}
use Rattle.ror_work_ranks.proofs.Courses.{kind_of_lists}
use Rattle.ror_work_ranks.proofs.Writing.{same_making, written_by, all_written, write_failed, ran_out}
use Rattle.ror_work_ranks.proofs.write.write_report.Goals as goal

pub returns-in-Ok : goal.returns-in-Ok
returns-in-Ok g c =
    let i = c.args.input in
    let s = c.args.session in
    let most = most_of c.args.bits in
    let lists = c.in_ok-bench.lists.items in
    let m = c.new-maker.result in
    let is = c.new-maker.ensures in
    let closing = c.in_ok-bench.ensures.closing in
    let kind = kind_of_lists i s c.requires.table c.requires.lawful c.requires.sound lists closing in
    let same : m ≡ record { table = i.table; names = s.desks; lists = lists; most = most } = same_making m (record { table = i.table; names = s.desks; lists = lists; most = most }) (is.table ∙ c.in_ok-bench.ensures.table) is.names is.lists is.most in
    let had = written_by _ m (record { table = i.table; names = s.desks; lists = lists; most = most }) _ _ _ _ (Ok c.in-Ok.wide) same c.header.ensures c.in-Ok.ensures in
    all_written most i s lists closing kind _ _ _ _ c.in-Ok.wide had

pub returns-in-Err-Write : goal.returns-in-Err-Write
returns-in-Err-Write g c =
    let i = c.args.input in
    let s = c.args.session in
    let most = most_of c.args.bits in
    let lists = c.in_ok-bench.lists.items in
    let m = c.new-maker.result in
    let is = c.new-maker.ensures in
    let closing = c.in_ok-bench.ensures.closing in
    let kind = kind_of_lists i s c.requires.table c.requires.lawful c.requires.sound lists closing in
    let same : m ≡ record { table = i.table; names = s.desks; lists = lists; most = most } = same_making m (record { table = i.table; names = s.desks; lists = lists; most = most }) (is.table ∙ c.in_ok-bench.ensures.table) is.names is.lists is.most in
    let told = subst (λ (e : EntriesStop). WritesHeaded c.header.result.now (ranks_kind m.table m.names m.lists) (IsGivenEntry m.most m.table m.names m.lists) (g.O.Sink.faults c.args.out.now) (g.O.Sink.faults c.write_headed.new.out) (g.O.Sink.written c.args.out.now) (g.O.Sink.written c.write_headed.new.out) (Err e)) c.in-Err-Write.field-0-is c.in-Err-Write.ensures in
    let had = written_by _ m (record { table = i.table; names = s.desks; lists = lists; most = most }) _ _ _ _ (Err entry_stops.Write) same c.header.ensures told in
    write_failed most i s lists closing kind _ _ _ _ had

pub returns : goal.returns
returns g c =
    let i = c.args.input in
    let s = c.args.session in
    let most = most_of c.args.bits in
    let lists = c.in_ok-bench.lists.items in
    let m = c.new-maker.result in
    let is = c.new-maker.ensures in
    let closing = c.in_ok-bench.ensures.closing in
    let kind = kind_of_lists i s c.requires.table c.requires.lawful c.requires.sound lists closing in
    let same : m ≡ record { table = i.table; names = s.desks; lists = lists; most = most } = same_making m (record { table = i.table; names = s.desks; lists = lists; most = most }) (is.table ∙ c.in_ok-bench.ensures.table) is.names is.lists is.most in
    let told = subst (λ (e : EntriesStop). WritesHeaded c.header.result.now (ranks_kind m.table m.names m.lists) (IsGivenEntry m.most m.table m.names m.lists) (g.O.Sink.faults c.args.out.now) (g.O.Sink.faults c.write_headed.new.out) (g.O.Sink.written c.args.out.now) (g.O.Sink.written c.write_headed.new.out) (Err e)) c.in-Err-Memory.field-0-is c.in-Err-Memory.ensures in
    let had = written_by _ m (record { table = i.table; names = s.desks; lists = lists; most = most }) _ _ _ _ (Err entry_stops.Memory) same c.header.ensures told in
    ran_out most i s lists closing kind _ _ _ _ had
