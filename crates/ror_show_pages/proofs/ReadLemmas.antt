-- What a check of a report keeps is true of it, and as pages take it.
use Rattle.std.proofs.Common.{◌≡◌, ℕ, ◌+◌, ◌≤◌, List, [], ◌∷◌, ◌++◌, length, refl, sym, ap, subst, ◌∙◌}
use Rattle.std.specs.List.{AllByRecursion}
use Rattle.ror_value.specs.declared.input.Input.{Input}
use Rattle.ror_value.specs.Over.{IsLawfulIn}
use Rattle.ror_session.specs.declared.session.Session.{Session}
use Rattle.ror_session.specs.Sound.{IsSound}
use Rattle.ror_session.specs.declared.session.Line.{Line}
use Rattle.ror_report.specs.declared.block.Block.{Block}
use Rattle.ror_history.specs.History.{Revisions}
use Rattle.ror_bench.specs.declared.kept.Keep.{Keep}
use Rattle.ror_bench.specs.declared.kept.KeptLine.{KeptLine}
use Rattle.ror_bench.specs.declared.report.Accepted.{Accepted}
use Rattle.ror_bench.specs.declared.report.TheConstants.{MOST_REPORT_BYTES}
use Rattle.ror_bench.specs.Bench.{Workbench, bench_of, HoldTheSame}
use Rattle.ror_bench.specs.Kept.{keep_at, standing_for, kept_of, kept_at, kept_from, IsAcceptedKeeping}
use Rattle.ror_bench.specs.Reports.{IsAcceptedReport}
use Rattle.ror_bench.proofs.SameLemmas.{then_same, proved_same}
use Rattle.ror_bench.proofs.Truth.{report_true}
use Rattle.ror_show_ground.specs.Ready.{IsReady}
use Rattle.ror_show_ground.proofs.ReadyProofs.{desks_begin_numbered, kept_lines_are_ready}
use Rattle.ror_frame.specs.Inputs.{bench_for}
use Rattle.ror_frame.proofs.Desks.{lawful_desks}
use Rattle.ror_show_pages.specs.Reads.{ReadsKept}
use Rattle.ror_show_ground.specs.Grounds.{ground_in, IsJudged}
use Rattle.ror_show_pages.proofs.Kept.{kept_narrow, kept_few}

-- benches that hold the same keep the same lines
pub kept_same : (one other : Workbench) → HoldTheSame one other → (keep : List Keep) (before : List (Line × Block)) (lines : List Line) (blocks : List Block) → kept_from one keep before lines blocks ≡ kept_from other keep before lines blocks
kept_same one other same keep before [] [] = refl
kept_same one other same keep before [] (block ∷ blocks) = refl
kept_same one other same keep before (line ∷ lines) [] = refl
kept_same one other same keep before (line ∷ lines) (block ∷ blocks) =
    ap (λ (r : Revisions). kept_of (length before) (keep_at keep (length before)) (standing_for (keep_at keep (length before)) r) block ++ kept_from one keep (before ++ (line, block) ∷ []) lines blocks) (then_same one other same before line.desk)
    ∙ ap (λ (xs : List KeptLine). kept_at other keep before line block ++ xs) (kept_same one other same keep (before ++ (line, block) ∷ []) lines blocks)

-- a bench with as many desks as the session has
pub held_for : (bench : Workbench) (i : Input) (s : Session) (n : ℕ) → HoldTheSame bench (bench_of i n) → n ≡ length s.desks → HoldTheSame bench (bench_for i s)
held_for bench i s n held same = subst (λ (k : ℕ). HoldTheSame bench (bench_of i k)) same held

-- what a check over such a bench keeps
pub kept_as : (keep : List Keep) (i : Input) (s : Session) (bench : Workbench) (lines : List Line) (bytes : List ℕ) (accepted : Accepted) (kept : List KeptLine) → HoldTheSame bench (bench_for i s) → lines ≡ s.lines → length bytes ≤ MOST_REPORT_BYTES → IsAcceptedKeeping bench lines bytes keep accepted kept → ReadsKept keep i s bytes kept
kept_as keep i s bench lines bytes accepted kept held same short checked =
    let keeping = subst (λ (ls : List Line). IsAcceptedKeeping bench ls bytes keep accepted kept) same checked in
    record {
      within = short;
      accepted = accepted;
      report = proved_same bench (bench_for i s) held s.lines bytes accepted keeping.report.proved;
      chosen = keeping.chosen ∙ kept_same bench (bench_for i s) held keep [] s.lines keeping.report.proved.blocks;
    }

-- what a page is of is true
pub report_holds : (keep : List Keep) (i : Input) (s : Session) (bytes : List ℕ) (kept : List KeptLine) → IsLawfulIn i.table i.opening → ReadsKept keep i s bytes kept → (accepted : Accepted) × IsAcceptedReport (bench_for i s) s.lines bytes accepted
report_holds keep i s bytes kept lawful reads =
    (reads.accepted, record { proved = reads.report; blocks_true = report_true (bench_for i s) s.lines bytes reads.accepted (lawful_desks i (length s.desks) lawful) reads.report })

-- and reasons can be found of it
pub kept_ready : (keep : List Keep) (i : Input) (s : Session) (bytes : List ℕ) (kept : List KeptLine) → IsLawfulIn i.table i.opening → ReadsKept keep i s bytes kept → AllByRecursion (IsReady i.table) kept
kept_ready keep i s bytes kept lawful reads =
    subst (AllByRecursion (IsReady i.table)) (sym reads.chosen) (kept_lines_are_ready (bench_for i s) s.lines bytes reads.accepted keep (lawful_desks i (length s.desks) lawful) (desks_begin_numbered (bench_for i s) i (length s.desks) (refl, refl)) reads.report)

-- which a check leaves as pages take it
pub kept_judged : (keep : List Keep) (i : Input) (s : Session) (bytes : List ℕ) (kept : List KeptLine) → IsLawfulIn i.table i.opening → IsSound s → ReadsKept keep i s bytes kept → IsJudged (ground_in i s kept)
kept_judged keep i s bytes kept lawful sound reads = record {
  few = lawful.few;
  few_desks = sound.few_desks;
  ready = kept_ready keep i s bytes kept lawful reads;
  narrow = kept_narrow keep i s bytes kept reads;
  few_answers = kept_few keep i s bytes kept reads;
}
