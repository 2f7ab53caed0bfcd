-- What the desks of a bench hold.
use Rattle.std.proofs.Common.{◌≡◌, ℕ, zero, suc, replicate, ◌<◌, List, [], ◌∷◌, ◌++◌, length, map, get_or, Result, Ok, Err, refl, sym, ap, subst, ◌∙◌, arith}
use Rattle.std.specs.Prelude.{slice_set, OnOk, IfErr}
use Rattle.std.specs.List.{AllByRecursion}
use Rattle.std.proofs.lemmas.List.{length-map, get_or-map, map-set}
use Rattle.std.proofs.Math.Seq.{map-set_same}
use Rattle.ror_text.proofs.Everywhere.{all_at}
use Rattle.ror_check.proofs.Checking.{slice_get-at}
use Rattle.ror_statement.specs.declared.statement.Statement.{Statement}
use Rattle.ror_table.specs.Table.{DecisionTable}
use Rattle.ror_value.specs.Over.{IsLawfulIn}
use Rattle.ror_history.specs.History.{Revision, Revisions, HistoryView, statements_of}
use Rattle.ror_history.proofs.HistoryLemmas.{with_numbers_from-statements}
use Rattle.ror_session.specs.declared.session.Line.{Line}
use Rattle.ror_report.specs.declared.block.Block.{Block}
use Rattle.ror_bench.specs.declared.bench.BlockFault.{BlockFault}
use Rattle.ror_bench.specs.declared.bench.Passed.{Passed}
use Rattle.ror_bench.specs.Bench.{Workbench, revisions_at, HoldTheSame, IsLawfulThroughout}
use Rattle.ror_bench.specs.Allowed.{Allowing}
use Rattle.ror_bench.specs.Blocks.{IsBodyOf, revisions_with, with_block}
use Rattle.ror_bench.proofs.LawfulLemmas.{moved_lawful}

abbrev IsKept : DecisionTable → HistoryView → Type 0
IsKept t h = IsLawfulThroughout t h.state

nothing_before : {A : Type 0} (before after : List A) → [] ≡ before ++ after → before ≡ []
nothing_before [] after e = refl
nothing_before (x ∷ xs) after e = absurd cc

pub begun : (t : DecisionTable) (opening : List Statement) → IsLawfulIn t opening → IsLawfulThroughout t (record { opening = opening; surviving = [] })
begun t opening lawful before after e =
    let none = nothing_before before after e in
    let stands : statements_of (record { opening = opening; surviving = [] }) ≡ opening = with_numbers_from-statements 1 opening in
    subst (λ (l : List Revision). IsLawfulIn t (statements_of (record { opening = opening; surviving = l }))) (sym none) (subst (IsLawfulIn t) (sym stands) lawful)

-- where nothing stands and nothing did, what stands is lawful
pub nothing_lawful : (t : DecisionTable) → IsLawfulThroughout t (record { opening = []; surviving = [] })
nothing_lawful t = begun t [] (record { few = omega arith; rows = omega arith; each_valid = tt })

-- histories that begin with a lawful list stay lawful
pub all_begin : (t : DecisionTable) (opening : List Statement) (views : List HistoryView) (count : ℕ) → map (λ (h : HistoryView). h.state) views ≡ replicate count (record { opening = opening; surviving = [] }) → IsLawfulIn t opening → AllByRecursion (IsKept t) views
all_begin t opening [] count e lawful = tt
all_begin t opening (h ∷ hs) zero e lawful = absurd cc
all_begin t opening (h ∷ hs) (suc count) e lawful =
    let first : h.state ≡ record { opening = opening; surviving = [] } = cc in
    let others : map (λ (h : HistoryView). h.state) hs ≡ replicate count (record { opening = opening; surviving = [] }) = cc in
    (subst (IsLawfulThroughout t) (sym first) (begun t opening lawful), all_begin t opening hs count others lawful)

-- and what they hold is what stands at the desks
pub lawful_states : (t : DecisionTable) (views : List HistoryView) → AllByRecursion (IsKept t) views → AllByRecursion (IsLawfulThroughout t) (map (λ (h : HistoryView). h.state) views)
lawful_states t [] h = tt
lawful_states t (v ∷ vs) h = (h.0, lawful_states t vs h.1)

states_count : (views : List HistoryView) → length (map (λ (h : HistoryView). h.state) views) ≡ length views
states_count views = simp length-map

pub kept_at : (t : DecisionTable) (views : List HistoryView) (desk : ℕ) (h : HistoryView) → AllByRecursion (IsKept t) views → desk < length (map (λ (h : HistoryView). h.state) views) → h ≡ get_or views desk h → IsLawfulThroughout t h.state
kept_at t views desk h all within is =
    let inside : desk < length views = (let n = states_count views in omega arith) in
    all_at (IsKept t) views desk h all (slice_get-at views desk h inside is)

pub kept_set : (t : DecisionTable) (views : List HistoryView) (desk : ℕ) (new : HistoryView) → AllByRecursion (IsKept t) views → IsLawfulThroughout t new.state → AllByRecursion (IsKept t) (slice_set views desk new)
kept_set t [] desk new all held = tt
kept_set t (v ∷ vs) zero new all held = (held, all.1)
kept_set t (v ∷ vs) (suc desk) new all held = (all.0, kept_set t vs desk new all.1 held)

-- a bench of these histories, whose engine made so many pivots
abbrev pub bench_with : DecisionTable → ℕ → List HistoryView → Workbench
bench_with t p views = record {
  table = t;
  state = map (λ (h : HistoryView). h.state) views;
  pivots = p;
  spare = map (λ (h : HistoryView). h.spare) views;
}

-- what a desk holds is what the bench has there
pub state_here : (t : DecisionTable) (p : ℕ) (views : List HistoryView) (desk : ℕ) (h : HistoryView) → desk < length (map (λ (h : HistoryView). h.state) views) → h ≡ get_or views desk h → h.state ≡ revisions_at (bench_with t p views) desk
state_here t p views desk h within is =
    let inside : desk < length views = (let n = states_count views in omega arith) in
    ap (λ (h : HistoryView). h.state) is ∙ sym (get_or-map (λ (h : HistoryView). h.state) views desk h (record { opening = []; surviving = [] }) inside)

-- ---- a line at its desk

-- what holds over what a history has holds over what the bench has at its desk
pub at_bench : (P : DecisionTable → Revisions → Type 0) (t : DecisionTable) (p : ℕ) (views : List HistoryView) (desk : ℕ) (h : HistoryView) (b : Workbench) → desk < length (map (λ (h : HistoryView). h.state) views) → h ≡ get_or views desk h → bench_with t p views ≡ b → P t h.state → P b.table (revisions_at b desk)
at_bench P t p views desk h b within is whole holds =
    subst (λ (b : Workbench). P b.table (revisions_at b desk)) whole (subst (P t) (state_here t p views desk h within is) holds)

-- a history that is changed at its place changes the desk there, whatever pivots were made
pub bench_moves : (t : DecisionTable) (p q : ℕ) (views : List HistoryView) (line : Line) (block : Block) (old new : HistoryView) (b : Workbench) → line.desk < length (map (λ (h : HistoryView). h.state) views) → old ≡ get_or views line.desk old → bench_with t p views ≡ b → new.state ≡ revisions_with t old.state line.command block.body
    → HoldTheSame (bench_with t q (slice_set views line.desk new)) (with_block b line block)
bench_moves t p q views line block old new b within is whole moved =
    let here = state_here t p views line.desk old within is in
    let r : new.state ≡ revisions_with t (revisions_at (bench_with t p views) line.desk) line.command block.body = moved ∙ ap (λ (r : Revisions). revisions_with t r line.command block.body) here in (
      ap (λ (b : Workbench). b.table) whole,
      map-set (λ (h : HistoryView). h.state) views line.desk new ∙ ap (slice_set (map (λ (h : HistoryView). h.state) views) line.desk) r ∙ ap (λ (b : Workbench). (with_block b line block).state) whole,
    )

pub bench_stays : (t : DecisionTable) (p q : ℕ) (views : List HistoryView) (desk : ℕ) (old new : HistoryView) (b : Workbench) → old ≡ get_or views desk old → bench_with t p views ≡ b → new.state ≡ old.state → HoldTheSame (bench_with t q (slice_set views desk new)) b
bench_stays t p q views desk old new b is whole kept =
    let here : new.state ≡ (get_or views desk old).state = kept ∙ ap (λ (h : HistoryView). h.state) is in
    (ap (λ (b : Workbench). b.table) whole, map-set_same (λ (h : HistoryView). h.state) views desk new old here ∙ ap (λ (b : Workbench). b.state) whole)

module _ (t : DecisionTable) (p : ℕ) (views : List HistoryView) (line : Line) (block : Block) (old new : HistoryView) (b : Workbench) where
  pub checked_moves : (result : Result Passed BlockFault) → line.desk < length (map (λ (h : HistoryView). h.state) views) → old ≡ get_or views line.desk old → bench_with t p views ≡ b → OnOk result (new.state ≡ revisions_with t old.state line.command block.body)
      → OnOk result (HoldTheSame (bench_with t p (slice_set views line.desk new)) (with_block b line block))
  checked_moves (Ok x) within is whole moved = bench_moves t p p views line block old new b within is whole moved
  checked_moves (Err e) within is whole moved = tt

  pub checked_keeps : (result : Result Passed BlockFault) → old ≡ get_or views line.desk old → bench_with t p views ≡ b → IfErr result (λ _. new.state ≡ old.state) → IfErr result (λ _. HoldTheSame (bench_with t p (slice_set views line.desk new)) b)
  checked_keeps (Ok x) is whole kept = tt
  checked_keeps (Err e) is whole kept = bench_stays t p p views line.desk old new b is whole kept

  pub checked_lawful : (H : Allowing) (result : Result Passed BlockFault) → AllByRecursion (IsKept t) views → line.desk < length (map (λ (h : HistoryView). h.state) views) → old ≡ get_or views line.desk old → OnOk result (IsBodyOf H t old.state line.command block.body) → OnOk result (new.state ≡ revisions_with t old.state line.command block.body) → IfErr result (λ _. new.state ≡ old.state) → AllByRecursion (IsKept t) (slice_set views line.desk new)
  checked_lawful H (Ok x) all within is body moved kept =
      kept_set t views line.desk new all (subst (IsLawfulThroughout t) (sym moved) (moved_lawful H t old.state line.command block.body (kept_at t views line.desk old all within is) body))
  checked_lawful H (Err e) all within is body moved kept =
      kept_set t views line.desk new all (subst (IsLawfulThroughout t) (sym kept) (kept_at t views line.desk old all within is))
