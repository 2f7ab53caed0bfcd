-- That benches which hold the same have the same reports, whatever pivots they made.
use Rattle.std.proofs.Common.{◌≡◌, ℕ, List, [], ◌∷◌, ◌++◌, length, Ok, sym, ap, subst, ◌∙◌}
use Rattle.std.specs.Prelude.{slice_index_or}
use Rattle.std.specs.List.{AllByRecursion, flat_map}
use Rattle.ror_table.specs.Table.{DecisionTable}
use Rattle.ror_session.specs.declared.session.Line.{Line}
use Rattle.ror_text.specs.Cursor.{cursor_at}
use Rattle.ror_report.specs.declared.block.Block.{Block}
use Rattle.ror_report.specs.Reading.{block_at}
use Rattle.ror_report.specs.Text.{report_text, header_text, block_text, IsPrintableBlock}
use Rattle.ror_history.specs.History.{Revisions}
use Rattle.ror_bench.specs.declared.report.Accepted.{Accepted}
use Rattle.ror_bench.specs.declared.report.Rejection.{Rejection}
use Rattle.ror_bench.specs.Allowed.{given_at}
use Rattle.ror_bench.specs.Bench.{Workbench, revisions_at, HoldTheSame, IsLawfulBench, IsLawfulThroughout}
use Rattle.ror_bench.specs.Blocks.{IsBlockOf, IsProvedBlock, IsTrueBlock, with_block}
use Rattle.ror_bench.specs.Replays.{AreBlocksAt, IsReplayedReport, IsBegunReport, some_lines, all_lines}
use Rattle.ror_bench.specs.Reports.{EachHolds, at_desk, revisions_after, revisions_then, IsProvedReport, IsAcceptedReport, RejectsNext, RejectsEnd, IsRejectedFrom, IsRejectedFor, at_line, at_end, later, not_utf8, no_header, in_blocks}

pub same_back : (one other : Workbench) → HoldTheSame one other → HoldTheSame other one
same_back one other same = (sym same.0, sym same.1)

pub same_through : (one between other : Workbench) → HoldTheSame one between → HoldTheSame between other → HoldTheSame one other
same_through one between other first second = (first.0 ∙ second.0, first.1 ∙ second.1)

module _ (one other : Workbench) (same : HoldTheSame one other) where
  -- what a desk of the one holds, one of the other does
  pub desk_same : (desk : ℕ) → revisions_at one desk ≡ revisions_at other desk
  desk_same desk = ap (λ (rs : List Revisions). slice_index_or rs desk (record { opening = []; surviving = [] })) same.1

  -- and then after a line and its block
  pub block_same : (line : Line) (block : Block) → HoldTheSame (with_block one line block) (with_block other line block)
  block_same line block = (
    same.0,
    ap (λ (t : DecisionTable). (with_block (record one { table = t }) line block).state) same.0
        ∙ ap (λ (rs : List Revisions). (with_block (record one { table = other.table; state = rs }) line block).state) same.1,
  )

  pub then_same : (before : List (Line × Block)) (desk : ℕ) → revisions_then one before desk ≡ revisions_then other before desk
  then_same before desk =
      ap (λ (t : DecisionTable). revisions_after t (revisions_at one desk) (at_desk desk before)) same.0
      ∙ ap (λ (r : Revisions). revisions_after other.table r (at_desk desk before)) (desk_same desk)

  each_then : (P : Revisions → Line → Block → Type 0) (before : List (Line × Block)) (lines : List Line) (blocks : List Block) → EachHolds P one before lines blocks → EachHolds P other before lines blocks
  each_then P before [] [] h = tt
  each_then P before [] (block ∷ blocks) h = absurd h
  each_then P before (line ∷ lines) [] h = absurd h
  each_then P before (line ∷ lines) (block ∷ blocks) h =
      (subst (λ (r : Revisions). P r line block) (then_same before line.desk) h.0, each_then P (before ++ (line, block) ∷ []) lines blocks h.1)

  pub each_same : (P : DecisionTable → Revisions → Line → Block → Type 0) (before : List (Line × Block)) (lines : List Line) (blocks : List Block) → EachHolds (P one.table) one before lines blocks → EachHolds (P other.table) other before lines blocks
  each_same P before lines blocks h =
      each_then (P other.table) before lines blocks (subst (λ (t : DecisionTable). EachHolds (P t) one before lines blocks) same.0 h)

  pub lawful_same : IsLawfulBench one → IsLawfulBench other
  lawful_same lawful =
      subst (AllByRecursion (IsLawfulThroughout other.table)) same.1 (subst (λ (t : DecisionTable). AllByRecursion (IsLawfulThroughout t) one.state) same.0 lawful)

  -- ---- the reports of a replay

  pub blocks_same : (most : ℕ) (lines : List Line) (blocks : List Block) → AreBlocksAt most one lines blocks → AreBlocksAt most other lines blocks
  blocks_same most lines blocks made = record {
    printable = subst (λ (t : DecisionTable). AllByRecursion (IsPrintableBlock t) blocks) same.0 made.printable;
    given = each_same (IsBlockOf (given_at most)) [] lines blocks made.given;
  }

  abbrev pub replayed_same : (most : ℕ) (lines : List Line) (bytes : List ℕ) (accepted : Accepted) → IsReplayedReport most one lines bytes accepted → IsReplayedReport most other lines bytes accepted
  replayed_same most lines bytes accepted report = record {
    blocks = report.blocks;
    made = blocks_same most lines report.blocks report.made;
    text = report.text ∙ ap (λ (t : DecisionTable). report_text t report.blocks) same.0;
    counted = report.counted;
  }

  pub begun_same : (most : ℕ) (lines : List Line) (bytes : List ℕ) → IsBegunReport most one lines bytes → IsBegunReport most other lines bytes
  begun_same most lines bytes (some_lines taken left blocks split made text) =
      some_lines taken left blocks split (blocks_same most taken blocks made) (text ∙ ap (λ (t : DecisionTable). header_text ++ flat_map (block_text t) blocks) same.0)
  begun_same most lines bytes (all_lines accepted report) = all_lines accepted (replayed_same most lines bytes accepted report)

  -- ---- what a check says of one

  abbrev pub proved_same : (lines : List Line) (bytes : List ℕ) (accepted : Accepted) → IsProvedReport one lines bytes accepted → IsProvedReport other lines bytes accepted
  proved_same lines bytes accepted report = record {
    blocks = report.blocks;
    text = report.text ∙ ap (λ (t : DecisionTable). report_text t report.blocks) same.0;
    printable = subst (λ (t : DecisionTable). AllByRecursion (IsPrintableBlock t) report.blocks) same.0 report.printable;
    proved = each_same IsProvedBlock [] lines report.blocks report.proved;
    counted = report.counted;
  }

  pub accepted_same : (lines : List Line) (bytes : List ℕ) (accepted : Accepted) → IsAcceptedReport one lines bytes accepted → IsAcceptedReport other lines bytes accepted
  accepted_same lines bytes accepted report = record {
    proved = proved_same lines bytes accepted report.proved;
    blocks_true = each_same (λ t r line block. IsTrueBlock t r block) [] lines report.proved.blocks report.blocks_true;
  }

  from_same : (bytes : List ℕ) (rejection : Rejection) (before : List (Line × Block)) (lines : List Line) (from : ℕ) → IsRejectedFrom one bytes rejection before lines from → IsRejectedFrom other bytes rejection before lines from
  from_same bytes rejection _ _ _ (at_line before line lines from number rejects) =
      at_line before line lines from number (subst (λ (r : Revisions). RejectsNext other.table r line bytes from rejection.reason) (then_same before line.desk)
      (subst (λ (t : DecisionTable). RejectsNext t (revisions_then one before line.desk) line bytes from rejection.reason) same.0 rejects))
  from_same bytes rejection _ _ _ (at_end before from number rejects) =
      at_end before from number (subst (λ (t : DecisionTable). RejectsEnd t bytes from (length before) rejection.reason) same.0 rejects)
  from_same bytes rejection _ _ _ (later before line lines from b after no_end read proved more) =
      later before line lines from b after no_end (subst (λ (t : DecisionTable). block_at t (cursor_at bytes from) ≡ Ok (b, cursor_at bytes after)) same.0 read)
      (subst (λ (r : Revisions). IsProvedBlock other.table r line b) (then_same before line.desk) (subst (λ (t : DecisionTable). IsProvedBlock t (revisions_then one before line.desk) line b) same.0 proved))
      (from_same bytes rejection (before ++ (line, b) ∷ []) lines after more)

  pub rejected_same : (lines : List Line) (bytes : List ℕ) (rejection : Rejection) → IsRejectedFor one lines bytes rejection → IsRejectedFor other lines bytes rejection
  rejected_same lines bytes rejection (not_utf8 none is) = not_utf8 none is
  rejected_same lines bytes rejection (no_header text none is) = no_header text none is
  rejected_same lines bytes rejection (in_blocks text start header from) = in_blocks text start header (from_same bytes rejection [] lines start from)
