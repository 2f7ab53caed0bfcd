-- The closing lists of lawful desks are lawful.
use Rattle.std.proofs.Common.{◌≡◌, ◌≢◌, ◌⊎◌, ℕ, zero, suc, ◌+◌, List, [], ◌∷◌, ◌++◌, length, append-nil, append_assoc, refl, sym, ap, subst, inl, inr}
use Rattle.std.specs.Prelude.{map}
use Rattle.std.specs.List.{AllByRecursion, range_with_len}
use Rattle.ror_statement.specs.declared.statement.Statement.{Statement}
use Rattle.ror_value.specs.Over.{IsLawfulIn}
use Rattle.ror_session.specs.declared.session.Line.{Line}
use Rattle.ror_report.specs.declared.block.Block.{Block}
use Rattle.ror_history.specs.History.{statements_of}
use Rattle.ror_bench.specs.Allowed.{proved_unless_wide}
use Rattle.ror_bench.specs.Bench.{Workbench, IsLawfulThroughout, IsLawfulBench}
use Rattle.ror_bench.specs.Blocks.{IsBodyOf, IsProvedBlock}
use Rattle.ror_bench.specs.Desks.{with_blocks}
use Rattle.ror_bench.specs.Reports.{EachHolds, revisions_then}
use Rattle.ror_bench.proofs.DeskLemmas.{nothing_lawful}
use Rattle.ror_bench.proofs.LawfulLemmas.{lawful_now, moved_lawful}
use Rattle.ror_bench.proofs.ReportProofs.{number_cases, then_at_own, then_at_other}
use Rattle.ror_bench.proofs.Truth.{lawful_at}
use Rattle.ror_closing.specs.Closing.{IsUnsuited, AreSuited, IsFirstUnsuited, AreClosingLists, revision_lines}

-- what the desks hold stays lawful along lines and their blocks
lawful_after : (bench : Workbench) (before : List (Line × Block)) (lines : List Line) (blocks : List Block) → ((desk : ℕ) → IsLawfulThroughout bench.table (revisions_then bench before desk)) → EachHolds (IsProvedBlock bench.table) bench before lines blocks
    → (desk : ℕ) → IsLawfulThroughout bench.table (revisions_then bench (before ++ with_blocks lines blocks) desk)
lawful_after bench before [] [] lawful h desk = subst (λ (l : List (Line × Block)). IsLawfulThroughout bench.table (revisions_then bench l desk)) (sym (append-nil before)) (lawful desk)
lawful_after bench before [] (block ∷ blocks) lawful h desk = absurd h
lawful_after bench before (line ∷ lines) [] lawful h desk = absurd h
lawful_after bench before (line ∷ lines) (block ∷ blocks) lawful h desk =
    subst (λ (l : List (Line × Block)). IsLawfulThroughout bench.table (revisions_then bench l desk)) (append_assoc before ((line, block) ∷ []) (with_blocks lines blocks))
    (lawful_after bench (before ++ (line, block) ∷ []) lines blocks (λ desk. then desk (number_cases line.desk desk)) h.1 desk)
  where
    then : (desk : ℕ) → (line.desk ≡ desk) ⊎ (line.desk ≢ desk) → IsLawfulThroughout bench.table (revisions_then bench (before ++ (line, block) ∷ []) desk)
    then desk (inl own) =
        let of = subst (λ (d : ℕ). IsBodyOf proved_unless_wide bench.table (revisions_then bench before d) line.command block.body) own h.0.body in
        subst (IsLawfulThroughout bench.table) (sym (then_at_own bench before line block desk own)) (moved_lawful proved_unless_wide bench.table (revisions_then bench before desk) line.command block.body (lawful desk) of)
    then desk (inr other) = subst (IsLawfulThroughout bench.table) (sym (then_at_other bench before line block desk other)) (lawful desk)

all_lawful : (P : List Statement → Type 0) (f : ℕ → List Statement) → ((desk : ℕ) → P (f desk)) → (a n : ℕ) → AllByRecursion P (map f (range_with_len a n))
all_lawful P f each a zero = tt
all_lawful P f each a (suc n) = (each a, all_lawful P f each (a + 1) n)

pub lawful_lists : (bench : Workbench) (lines : List Line) (lists : List (List Statement)) → IsLawfulBench bench → AreClosingLists bench lines lists → AllByRecursion (IsLawfulIn bench.table) lists
lawful_lists bench lines lists lawful closing =
    let at = lawful_after bench [] (revision_lines lines) closing.blocks (λ desk. lawful_at (IsLawfulThroughout bench.table) bench.state desk (record { opening = []; surviving = [] }) (nothing_lawful bench.table) lawful) closing.each in
    subst (AllByRecursion (IsLawfulIn bench.table)) (sym closing.lists_are)
    (all_lawful (IsLawfulIn bench.table) (λ desk. statements_of (revisions_then bench (with_blocks (revision_lines lines) closing.blocks) desk)) (λ desk. lawful_now bench.table (revisions_then bench (with_blocks (revision_lines lines) closing.blocks) desk) (at desk)) 0 (length bench.state))

-- lines of which none is the first unsuited one are suited
pub suited_or : (lines : List Line) → ((number : ℕ) → IsFirstUnsuited lines number → ⊥) → AreSuited lines
suited_or [] none = tt
suited_or (line ∷ lines) none =
    let here : IsUnsuited line → ⊥ = λ is. none line.number (record { before = []; line = line; after = lines; split = refl; suited_before = tt; unsuited = is; number_is = refl }) in (
      here,
      suited_or lines (λ number first. none number (record {
        before = line ∷ first.before;
        line = first.line;
        after = first.after;
        split = ap (λ (l : List Line). line ∷ l) first.split;
        suited_before = (here, first.suited_before);
        unsuited = first.unsuited;
        number_is = first.number_is;
      })),
    )
