use Rattle.std.proofs.lemmas.Result.{err_from_is_err_and}
use Rattle.ror_text.specs.Cursor.{cursor_at}
use Rattle.ror_group.specs.Head.{desks_at}
use Rattle.ror_group.proofs.HeadLemmas.{desks_go_on, desks_exit, desks_end}
use Rattle.ror_group.proofs.head.desks_at.Goals as goal

pub returns-in_err-next-clause-exact : goal.returns-in_err-next-clause-exact
returns-in_err-next-clause-exact c =
    let p = err_from_is_err_and c.from_residual.result c.from_residual.ensures.1 in
    rw (p.1, p.2) (desks_exit c.args.names.now c.names.name-index c.name-item.result (cursor_at c.args.bytes.now c.names.next) c.in_err-next.field-0.0 (desks_at c.args.names.now (cursor_at c.args.bytes.now c.args.from)) c.names-test.true c.name-item.is c.in_err-next.ensures.exact c.names.invariant.reads)

pub names-preserved : goal.names-preserved
names-preserved c = record {
  within = c.in_ok-next.ensures.within;
  reads = desks_go_on c.args.names.now c.names.name-index c.name-item.result (cursor_at c.args.bytes.now c.names.next) (cursor_at c.args.bytes.now c.in_ok-next.next) (desks_at c.args.names.now (cursor_at c.args.bytes.now c.args.from)) c.names-test.true c.name-item.is c.in_ok-next.ensures.exact c.names.invariant.reads;
}

pub returns-clause-exact : goal.returns-clause-exact
returns-clause-exact c = desks_end c.args.names.now c.names.name-index (cursor_at c.args.bytes.now c.names.next) (desks_at c.args.names.now (cursor_at c.args.bytes.now c.args.from)) c.names-test.false c.names.invariant.reads
