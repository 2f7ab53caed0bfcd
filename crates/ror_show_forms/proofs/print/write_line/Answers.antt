use Rattle.std.proofs.Common.{◌<◌, ◌^◌, [], Option, length, sym, subst}
use Rattle.std.specs.List.{AllByRecursion}
use Rattle.std.specs.Option.{option_map_or}
use Rattle.std.proofs.lemmas.Bool.{ltb-true}
use Rattle.ror_check.proofs.Checking.{slice_get-at}
use Rattle.ror_bench.specs.declared.kept.KeptLine.{KeptLine}
use Rattle.ror_show_forms.specs.CertificatePages.{certified_over}
use Rattle.ror_show_forms.specs.Printing.{IsWritable}
use Rattle.ror_show_forms.proofs.print.write_line.Goals as goal

pub write_over-requires-clause-few : goal.write_over-requires-clause-few
write_over-requires-clause-few c =
    let there = slice_get-at c.args.ground.now.kept.now c.args.found.now.place c.in-Some.line.now (ltb-true c.args.found.now.place _ (sym c.in-Some.ensures.lookup.0)) c.in-Some.ensures.lookup.1 in
    subst (λ (o : Option KeptLine). length (option_map_or (certified_over c.args.found.now) o []) < 2 ^ 32) there c.requires.few

pub write_over-requires-clause-writable : goal.write_over-requires-clause-writable
write_over-requires-clause-writable c =
    let there = slice_get-at c.args.ground.now.kept.now c.args.found.now.place c.in-Some.line.now (ltb-true c.args.found.now.place _ (sym c.in-Some.ensures.lookup.0)) c.in-Some.ensures.lookup.1 in
    subst (λ (o : Option KeptLine). AllByRecursion (IsWritable c.args.ground.now.table.now) (option_map_or (certified_over c.args.found.now) o [])) there c.requires.writable
