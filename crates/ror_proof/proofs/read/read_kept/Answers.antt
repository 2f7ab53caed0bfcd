use Rattle.std.proofs.Common.{List, length, ap, subst, sym, arith}
use Rattle.std.specs.List.{AllByRecursion}
use Rattle.ror_text.specs.Cursor.{cursor_at}
use Rattle.ror_proof.specs.declared.kept.Dropped.{Dropped}
use Rattle.ror_proof.specs.Text.{AreNarrow}
use Rattle.ror_proof.proofs.AnswerLemmas.{base_sound}
use Rattle.ror_proof.proofs.RepairLemmas.{repaired_sound, as_many_are_read, dropped_are_narrow}
use Rattle.ror_proof.proofs.read.read_kept.Goals as goal

pub returns-clause-few : goal.returns-clause-few
returns-clause-few c =
    let bytes = c.args.bytes.now in
    let next = cursor_at bytes c.in_ok-count.next in
    let small = (repaired_sound (cursor_at bytes c.args.from) (c.in_ok-count.count, next) c.in_ok-count.ensures.exact).1 in
    let many = as_many_are_read c.in_ok-count.count next (c.in_ok-dropped.dropped.items, cursor_at bytes c.in_ok-dropped.next) c.in_ok-dropped.ensures.exact in
    omega (arith, small, many, ap (λ (ds : List Dropped). length ds) c.from-dropped.ensures)

pub returns-clause-narrow : goal.returns-clause-narrow
returns-clause-narrow c =
    let bytes = c.args.bytes.now in
    let base = base_sound (cursor_at bytes c.in_ok-dropped.next) (c.in_ok-base.base, cursor_at bytes c.in_ok-base.next) c.in_ok-base.ensures.exact in
    let dropped = dropped_are_narrow c.in_ok-count.count (cursor_at bytes c.in_ok-count.next) (c.in_ok-dropped.dropped.items, cursor_at bytes c.in_ok-dropped.next) c.in_ok-dropped.ensures.exact in
    (base.1, subst (λ (ds : List Dropped). AllByRecursion (λ d. AreNarrow d.proof) ds) (sym c.from-dropped.ensures) dropped)
