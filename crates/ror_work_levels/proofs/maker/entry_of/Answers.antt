use Rattle.std.proofs.Common.{subst}
use Rattle.ror_pivot.specs.Answers.{most_of}
use Rattle.ror_confidence.specs.Finding.{IsDueSpanFault}
use Rattle.ror_work_levels.proofs.Printing.{span_printable, span_valid, span_narrow, wide_printable}
use Rattle.ror_work_levels.proofs.maker.entry_of.Goals as goal

pub returns-in-Ok-clause-printable : goal.returns-in-Ok-clause-printable
returns-in-Ok-clause-printable c =
    let kept = c.requires.search in
    span_printable c.args.bits c.args.table.now c.args.search.now.lists.items c.args.pair.0 c.args.pair.1 c.requires.table kept.lists kept.few c.requires.first c.requires.second c.in-Ok.span c.in-Ok.ensures.proved c.in-Ok.ensures.narrow

pub returns-in-Ok-clause-writable : goal.returns-in-Ok-clause-writable
returns-in-Ok-clause-writable c =
    let bits = c.args.bits in
    let t = c.args.table.now in
    let lists = c.args.search.now.lists.items in
    let a = c.args.pair.0 in
    let b = c.args.pair.1 in
    let kept = c.requires.search in
    let span = c.in-Ok.span in
    record {
      alternatives = (c.requires.first, c.requires.second);
      valid = span_valid bits t lists a b c.requires.table kept.lists kept.few c.requires.first c.requires.second span c.in-Ok.ensures.proved c.in-Ok.ensures.narrow;
      narrow = span_narrow bits t lists a b c.requires.table kept.lists kept.few c.requires.first c.requires.second span c.in-Ok.ensures.proved c.in-Ok.ensures.narrow;
    }

pub returns-in-Err-Wide-clause-printable : goal.returns-in-Err-Wide-clause-printable
returns-in-Err-Wide-clause-printable c =
    let kept = c.requires.search in
    wide_printable c.args.bits c.args.table.now c.args.search.now.lists.items c.args.pair.0 c.args.pair.1 c.requires.table kept.lists kept.few c.requires.first c.requires.second c.in-Err-Wide.found (subst (IsDueSpanFault (most_of c.args.bits) c.args.table.now c.args.search.now.lists.items c.args.pair.0 c.args.pair.1) c.in-Err-Wide.field-0-is c.in-Err-Wide.ensures.due)
