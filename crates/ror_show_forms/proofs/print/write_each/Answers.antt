-- The certificates of one answer more.
use Rattle.std.proofs.Common.{arith}
use Rattle.ror_show_forms.specs.CertificatePages.{certified_of}
use Rattle.ror_show_forms.specs.CertificateText.{certificate_text}
use Rattle.ror_show_forms.specs.Printing.{IsWritable}
use Rattle.ror_show_forms.proofs.Written.{text_more, count_more, count_within, piece_holds, text_done, count_done}
use Rattle.ror_show_forms.proofs.print.write_each.Goals as goal

pub write_told-requires : goal.write_told-requires
write_told-requires c = record { writable = piece_holds (certified_of c.args.line) c.args.told.now c.told.k c.index-told-k.result c.told-test.true c.index-told-k.is (IsWritable c.args.table.now) c.requires.writable }

pub overflow_add-count : goal.overflow_add-count
overflow_add-count c =
    let most = count_within (certified_of c.args.line) c.args.told.now c.told.k c.index-told-k.result c.told-test.true c.index-told-k.is c.told.count c.in_ok-more.more c.told.invariant.count c.in_ok-more.ensures.count in
    omega (arith, most, c.requires.few)

pub told-preserved : goal.told-preserved
told-preserved c = record {
  text = text_more (certified_of c.args.line) c.args.told.now c.told.k c.index-told-k.result c.told-test.true c.index-told-k.is (certificate_text c.args.table.now) c.args.text.now.items c.told.text.items c.write_told.new.text.items c.told.invariant.text c.in_ok-more.ensures.text;
  count = count_more (certified_of c.args.line) c.args.told.now c.told.k c.index-told-k.result c.told-test.true c.index-told-k.is c.told.count c.in_ok-more.more c.told.invariant.count c.in_ok-more.ensures.count;
}

pub returns-clause-text : goal.returns-clause-text
returns-clause-text c = text_done (certificate_text c.args.table.now) (certified_of c.args.line) c.args.told.now c.told.k c.args.text.now.items c.told.text.items c.told-test.false c.told.invariant.text

pub returns-clause-count : goal.returns-clause-count
returns-clause-count c = count_done (certified_of c.args.line) c.args.told.now c.told.k c.told.count c.told-test.false c.told.invariant.count
