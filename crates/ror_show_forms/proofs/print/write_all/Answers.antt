-- The certificates of one line more.
use Rattle.std.proofs.Common.{arith}
use Rattle.ror_show_ground.specs.Grounds.{ground_of}
use Rattle.ror_show_forms.specs.CertificatePages.{certificates_at}
use Rattle.ror_show_forms.specs.CertificateText.{certificate_text}
use Rattle.ror_show_forms.specs.Printing.{IsWritable}
use Rattle.ror_show_forms.proofs.Written.{text_more, count_more, count_within, piece_within, piece_holds, text_done, count_done}
use Rattle.ror_show_forms.proofs.print.write_all.Goals as goal

pub write_line-requires-clause-few : goal.write_line-requires-clause-few
write_line-requires-clause-few c =
    let most = piece_within (certificates_at (ground_of c.args.ground.now)) c.args.found.now c.found.k c.index-found-k.result c.found-test.true c.index-found-k.is in
    omega (arith, most, c.requires.few)

pub write_line-requires-clause-writable : goal.write_line-requires-clause-writable
write_line-requires-clause-writable c = piece_holds (certificates_at (ground_of c.args.ground.now)) c.args.found.now c.found.k c.index-found-k.result c.found-test.true c.index-found-k.is (IsWritable c.args.ground.now.table.now) c.requires.writable

pub overflow_add-count : goal.overflow_add-count
overflow_add-count c =
    let most = count_within (certificates_at (ground_of c.args.ground.now)) c.args.found.now c.found.k c.index-found-k.result c.found-test.true c.index-found-k.is c.found.count c.in_ok-more.more c.found.invariant.count c.in_ok-more.ensures.count in
    omega (arith, most, c.requires.few)

pub found-preserved : goal.found-preserved
found-preserved c = record {
  text = text_more (certificates_at (ground_of c.args.ground.now)) c.args.found.now c.found.k c.index-found-k.result c.found-test.true c.index-found-k.is (certificate_text c.args.ground.now.table.now) c.args.text.now.items c.found.text.items c.write_line.new.text.items c.found.invariant.text c.in_ok-more.ensures.text;
  count = count_more (certificates_at (ground_of c.args.ground.now)) c.args.found.now c.found.k c.index-found-k.result c.found-test.true c.index-found-k.is c.found.count c.in_ok-more.more c.found.invariant.count c.in_ok-more.ensures.count;
}

pub returns-clause-text : goal.returns-clause-text
returns-clause-text c = text_done (certificate_text c.args.ground.now.table.now) (certificates_at (ground_of c.args.ground.now)) c.args.found.now c.found.k c.args.text.now.items c.found.text.items c.found-test.false c.found.invariant.text

pub returns-clause-count : goal.returns-clause-count
returns-clause-count c = count_done (certificates_at (ground_of c.args.ground.now)) c.args.found.now c.found.k c.found.count c.found-test.false c.found.invariant.count
