use Rattle.std.proofs.Common.{rules, refl, sym, subst, ◌∙◌}
use Rattle.std.proofs.lemmas.Str.{is_utf8-from_IsUtf8, IsUtf8-from_is_utf8}
use Rattle.std.specs.Str.{IsUtf8}
use Rattle.ror_table.specs.Table.{IsTable}
use Rattle.ror_bench.specs.declared.report.Reason.TheVariants as reasons
use Rattle.ror_bench.specs.Reports.{not_utf8, no_header}
use Rattle.ror_bench.proofs.Truth.{keeping_accepted}
use Rattle.ror_bench.proofs.ReportProofs.{rejected_blocks, rejected_not_proved, none_proved_where}
use Rattle.ror_bench.proofs.report.check_report_keeping.Goals as goal

pub returns-then-not-is_utf8-clause-rejected : goal.returns-then-not-is_utf8-clause-rejected
returns-then-not-is_utf8-clause-rejected c = not_utf8 (λ text. let yes = is_utf8-from_IsUtf8 c.args.bytes.now text in let none = c.if-not-is_utf8.ensures in absurd cc) refl

pub returns-then-not-is_utf8-clause-not_proved : goal.returns-then-not-is_utf8-clause-not_proved
returns-then-not-is_utf8-clause-not_proved c =
    let table : IsTable c.args.bench.now.table = subst IsTable c.table.ensures.value c.alternatives.ensures.table in
    λ ne x report. rejected_not_proved c.args.bench.now c.args.lines.now c.args.bytes.now (record { block = 0; reason = reasons.NotUtf8 }) x table c.requires.length (returns-then-not-is_utf8-clause-rejected c) report

pub returns-in_default-clause-rejected : goal.returns-in_default-clause-rejected
returns-in_default-clause-rejected c =
    let text : IsUtf8 c.args.bytes.now = IsUtf8-from_is_utf8 c.args.bytes.now (let yes = c.if-not-is_utf8.ensures in search rules) in
    no_header text (sym c.read_header.ensures.exact ∙ c.in_default.is) refl

pub returns-in_default-clause-not_proved : goal.returns-in_default-clause-not_proved
returns-in_default-clause-not_proved c =
    let table : IsTable c.args.bench.now.table = subst IsTable c.table.ensures.value c.alternatives.ensures.table in
    λ ne x report. rejected_not_proved c.args.bench.now c.args.lines.now c.args.bytes.now (record { block = 0; reason = reasons.BadLine 1 }) x table c.requires.length (returns-in_default-clause-rejected c) report

pub returns-clause-accepted : goal.returns-clause-accepted
returns-clause-accepted c = keeping_accepted c.args.bench.now c.args.lines.now c.args.bytes.now c.args.keep.now (λ v. v.items) c.check_blocks.result c.table.ensures.lawful c.check_blocks.ensures.accepted

pub returns-clause-rejected : goal.returns-clause-rejected
returns-clause-rejected c =
    let text : IsUtf8 c.args.bytes.now = IsUtf8-from_is_utf8 c.args.bytes.now (let yes = c.if-not-is_utf8.ensures in search rules) in
    rejected_blocks c.args.bench.now c.args.lines.now c.args.bytes.now c.in-Some.start c.check_blocks.result text (sym c.read_header.ensures.exact ∙ c.in-Some.is) c.check_blocks.ensures.rejected

pub returns-clause-not_proved : goal.returns-clause-not_proved
returns-clause-not_proved c =
    let table : IsTable c.args.bench.now.table = subst IsTable c.table.ensures.value c.alternatives.ensures.table in
    none_proved_where c.args.bench.now c.args.lines.now c.args.bytes.now c.check_blocks.result table c.requires.length (returns-clause-rejected c)
