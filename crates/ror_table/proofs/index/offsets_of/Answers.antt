use Rattle.std.proofs.Common.{◌≡◌, length, arith}
use Rattle.ror_table.specs.Table.{width}
use Rattle.ror_table.proofs.IndexLemmas.{width_read, columns_are_few, AreOffsetsBefore-more}
use Rattle.ror_table.proofs.index.offsets_of.Goals as goal

pub overflow_add-columns : goal.overflow_add-columns
overflow_add-columns c =
    let t = c.args.draft.now in
    let v = c.index-levels-i.result in
    let count : c.len.result ≡ length v.items = omega (arith, c.len.ensures, v.ok.0) in
    let wide : c.width_of-columns.result ≡ width t c.loop-i.i = width_read t c.args.levels.now c.loop-i.i c.len.result c.width_of-columns.result v c.is_linear.result c.requires (omega arith) c.index-levels-i.is count c.is_linear.ensures c.width_of-columns.ensures in
    let small = columns_are_few t c.loop-i.i c.loop-i.columns c.width_of-columns.result c.criteria_count-i-end.ensures.draft (omega arith) c.loop-i.invariant.total wide in
    omega (arith, small)

pub loop-i-preserved : goal.loop-i-preserved
loop-i-preserved c =
    let t = c.args.draft.now in
    let v = c.index-levels-i.result in
    let count : c.len.result ≡ length v.items = omega (arith, c.len.ensures, v.ok.0) in
    let wide : c.width_of-columns.result ≡ width t c.loop-i.i = width_read t c.args.levels.now c.loop-i.i c.len.result c.width_of-columns.result v c.is_linear.result c.requires (omega arith) c.index-levels-i.is count c.is_linear.ensures c.width_of-columns.ensures in
    AreOffsetsBefore-more t c.loop-i.i c.loop-i.offsets.items c.push.new.self.items c.loop-i.columns c.width_of-columns.result c.loop-i.invariant wide c.in_ok-push.ensures.items
