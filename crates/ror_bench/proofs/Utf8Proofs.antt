-- A report that is proved is UTF-8.
use Rattle.std.proofs.Common.{ℕ, ◌<◌, ◌≤◌, ◌^◌, List, [], ◌∷◌, ◌++◌, length, sym, subst, ap, arith, length-append}
use Rattle.std.specs.Prelude.{codes}
use Rattle.std.specs.List.{flat_map}
use Rattle.std.specs.Str.{IsUtf8}
use Rattle.ror_table.specs.Table.{DecisionTable, IsTable}
use Rattle.ror_session.specs.declared.session.Line.{Line}
use Rattle.ror_report.specs.declared.block.Block.{Block}
use Rattle.ror_report.specs.Text.{block_text, header_text, end_text}
use Rattle.ror_report.proofs.LineForms.{block_begins}
use Rattle.ror_report.proofs.Utf8Lemmas.{report_text_is_utf8}
use Rattle.ror_bench.specs.declared.report.Accepted.{Accepted}
use Rattle.ror_bench.specs.declared.report.TheConstants.{MOST_REPORT_BYTES}
use Rattle.ror_bench.specs.Bench.{Workbench}
use Rattle.ror_bench.specs.Reports.{IsProvedReport}

-- each block has a byte at least
blocks_le : (t : DecisionTable) (bs : List Block) → length bs ≤ length (flat_map (block_text t) bs)
blocks_le t [] = omega arith
blocks_le t (b ∷ bs) =
    let begins = block_begins t b in
    let rest = blocks_le t bs in
    let long = ap length begins.1 in
    omega (arith, long, length-append (codes "line ") begins.0, length-append (block_text t b) (flat_map (block_text t) bs))

pub few_blocks : (bench : Workbench) (lines : List Line) (bytes : List ℕ) (x : Accepted) → length bytes ≤ MOST_REPORT_BYTES → (report : IsProvedReport bench lines bytes x) → length report.blocks < 2 ^ 32
few_blocks bench lines bytes x short report =
    let bs = report.blocks in
    let t = bench.table in
    let long = ap length report.text in
    omega (arith, blocks_le t bs, long, length-append header_text (flat_map (block_text t) bs ++ end_text (length bs)), length-append (flat_map (block_text t) bs) (end_text (length bs)))

pub proved_is_utf8 : (bench : Workbench) (lines : List Line) (bytes : List ℕ) (x : Accepted) → IsTable bench.table → length bytes ≤ MOST_REPORT_BYTES → IsProvedReport bench lines bytes x → IsUtf8 bytes
proved_is_utf8 bench lines bytes x table short report = subst IsUtf8 (sym report.text) (report_text_is_utf8 bench.table report.blocks table report.printable (few_blocks bench lines bytes x short report))
