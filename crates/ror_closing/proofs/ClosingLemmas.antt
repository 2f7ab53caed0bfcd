-- What a bench holds after the lines that don't ask, one by one, and that the lists there are the closing ones.
use Rattle.std.proofs.Common.{append-nil, zero-add, add-one, drop-cons, ◌≡◌, ℕ, zero, suc, ◌+◌, ◌<◌, true, false, List, [], ◌∷◌, ◌++◌, length, take, drop, get_or, map, refl, sym, ap, ◌∙◌, subst, arith}
use Rattle.std.specs.List.{AllByRecursion, filter, range_with_len}
use Rattle.std.proofs.lemmas.List.{take-append-drop, take_more}
use Rattle.std.proofs.lemmas.List.Elements.{filter-append}
use Rattle.std.proofs.lemmas.List.FromFn.{map-range_with_len_more}
use Rattle.ror_text.proofs.Everywhere.{all-append}
use Rattle.ror_statement.specs.declared.statement.Statement.{Statement}
use Rattle.ror_table.specs.Table.{DecisionTable}
use Rattle.ror_session.specs.declared.session.Line.{Line}
use Rattle.ror_report.specs.declared.block.Block.{Block}
use Rattle.ror_value.specs.Over.{IsLawfulIn}
use Rattle.ror_history.specs.History.{Revisions, statements_of}
use Rattle.ror_bench.specs.Bench.{Workbench, revisions_at, HoldTheSame}
use Rattle.ror_bench.specs.Blocks.{IsProvedBlock, with_block}
use Rattle.ror_bench.specs.Desks.{with_blocks}
use Rattle.ror_bench.specs.Reports.{EachHolds, revisions_then}
use Rattle.ror_bench.specs.Rooms.{may_revise}
use Rattle.ror_bench.proofs.MakingLemmas.{each_more, paired_more}
use Rattle.ror_bench.proofs.ReportProofs.{IsAfter, after_block}
use Rattle.ror_bench.proofs.SameLemmas.{then_same, each_same}
use Rattle.ror_closing.specs.Closing.{IsUnsuited, AreSuited, IsFirstUnsuited, revision_lines, lists_after, lists_at, AreClosingLists, HasRevised}

-- ---- the first unsuited line

pub took : (lines : List Line) (i : ℕ) (line : Line) → i < length lines → line ≡ get_or lines i line → take (i + 1) lines ≡ take i lines ++ line ∷ []
took lines i line within item = take_more lines i line within ∙ ap (λ (x : Line). take i lines ++ x ∷ []) (sym item)

pub suited_more : (lines : List Line) (i : ℕ) (line : Line) → i < length lines → line ≡ get_or lines i line → AreSuited (take i lines) → (IsUnsuited line → ⊥) → AreSuited (take (i + 1) lines)
suited_more lines i line within item suited one =
    subst AreSuited (sym (took lines i line within item)) (all-append (λ (l : Line). ¬ (IsUnsuited l)) (take i lines) (line ∷ []) suited (one, tt))

pub first_here : (lines : List Line) (i : ℕ) (line : Line) → i < length lines → line ≡ get_or lines i line → AreSuited (take i lines) → IsUnsuited line → IsFirstUnsuited lines line.number
first_here lines i line within item suited one =
    let rest : drop i lines ≡ line ∷ drop (i + 1) lines = rw add-one (drop-cons lines i line within ∙ ap (λ (x : Line). x ∷ drop (suc i) lines) (sym item)) in
    record {
      before = take i lines;
      line = line;
      after = drop (i + 1) lines;
      split = sym (take-append-drop i lines) ∙ ap (λ (l : List Line). take i lines ++ l) rest;
      suited_before = suited;
      unsuited = one;
      number_is = refl;
    }

-- ---- lists of what stands, desk by desk

pub map_within : {X : Type 0} (f g : ℕ → X) (a n : ℕ) → ((i : ℕ) → i < a + n → f i ≡ g i) → map f (range_with_len a n) ≡ map g (range_with_len a n)
map_within f g a zero same = refl
map_within f g a (suc n) same =
    let rest = map_within f g (a + 1) n (λ i below. same i (omega arith)) in
    ap (λ (x : _). x ∷ map f (range_with_len (a + 1) n)) (same a (omega arith)) ∙ ap (λ (l : List _). g a ∷ l) rest

-- lists of two benches with as many desks, at which the same stands
pub lists_by : (f g : ℕ → Revisions) (m n : ℕ) → m ≡ n → ((i : ℕ) → i < n → f i ≡ g i) → map (λ (i : ℕ). statements_of (f i)) (range_with_len 0 m) ≡ map (λ (i : ℕ). statements_of (g i)) (range_with_len 0 n)
lists_by f g m n long same =
    ap (λ (k : ℕ). map (λ (i : ℕ). statements_of (f i)) (range_with_len 0 k)) long
    ∙ map_within (λ (i : ℕ). statements_of (f i)) (λ (i : ℕ). statements_of (g i)) 0 n (λ i below. ap (λ (r : Revisions). statements_of r) (same i (omega arith)))

-- ---- one line more

skipped : (lines : List Line) (line : Line) → may_revise line.command ≡ false → revision_lines (lines ++ line ∷ []) ≡ revision_lines lines
skipped lines line asks =
    let p = λ (l : Line). may_revise l.command in
    let none : filter p (line ∷ []) ≡ [] = rw asks refl in
    filter-append p lines (line ∷ []) ∙ ap (λ (l : List Line). revision_lines lines ++ l) none ∙ append-nil (revision_lines lines)

taken : (lines : List Line) (line : Line) → may_revise line.command ≡ true → revision_lines (lines ++ line ∷ []) ≡ revision_lines lines ++ line ∷ []
taken lines line revises =
    let p = λ (l : Line). may_revise l.command in
    let one : filter p (line ∷ []) ≡ line ∷ [] = rw revises refl in
    filter-append p lines (line ∷ []) ∙ ap (λ (l : List Line). revision_lines lines ++ l) one

-- these lines were done from the start on, each with its block
record AreDone (start : Workbench) (lines : List Line) (bench : Workbench) : Type 0 where
  blocks : List Block
  each : EachHolds (IsProvedBlock start.table) start [] lines blocks
  after : IsAfter start (with_blocks lines blocks) bench

done_of : (start : Workbench) (lines : List Line) (bench : Workbench) → HasRevised start lines bench → AreDone start (revision_lines lines) bench
done_of start lines bench has = record { blocks = has.blocks; each = has.each; after = record { table = has.table; desks = has.desks; holds = has.holds } }

revised_by : (start : Workbench) (lines : List Line) (bench : Workbench) → AreDone start (revision_lines lines) bench → HasRevised start lines bench
revised_by start lines bench done = record { blocks = done.blocks; each = done.each; table = done.after.table; desks = done.after.desks; holds = done.after.holds }

one_done : (start : Workbench) (lines : List Line) (bench moved : Workbench) (line : Line) (block : Block) → AreDone start lines bench → line.desk < length start.state → IsProvedBlock bench.table (revisions_at bench line.desk) line block → HoldTheSame moved (with_block bench line block) → AreDone start (lines ++ line ∷ []) moved
one_done start lines bench moved line block done within is moves =
    let P : Revisions → Line → Block → Type 0 = IsProvedBlock start.table in
    let before = with_blocks lines done.blocks in
    let here : P (revisions_at bench line.desk) line block = subst (λ (t : DecisionTable). IsProvedBlock t (revisions_at bench line.desk) line block) done.after.table is in
    let then : P (revisions_then start before line.desk) line block = subst (λ (r : Revisions). P r line block) (done.after.holds line.desk within) here in
    record {
      blocks = done.blocks ++ block ∷ [];
      each = each_more P start [] lines done.blocks line block done.each then;
      after = subst (λ (l : List (Line × Block)). IsAfter start l moved) (sym (paired_more P start [] lines done.blocks line block done.each)) (after_block start before bench moved line block done.after within moves);
    }

pub revised_nothing : (start : Workbench) → HasRevised start [] start
revised_nothing start = record { blocks = []; each = tt; table = refl; desks = refl; holds = λ desk within. refl }

pub desk_here : (start : Workbench) (lines : List Line) (bench : Workbench) (line : Line) → HasRevised start lines bench → line.desk < length start.state → line.desk < length bench.state
desk_here start lines bench line has within = let same = has.desks in omega arith

-- a line that asks
pub revised_past : (start : Workbench) (lines : List Line) (bench : Workbench) (line : Line) → may_revise line.command ≡ false → HasRevised start lines bench → HasRevised start (lines ++ line ∷ []) bench
revised_past start lines bench line asks has =
    revised_by start (lines ++ line ∷ []) bench (subst (λ (l : List Line). AreDone start l bench) (sym (skipped lines line asks)) (done_of start lines bench has))

-- another line, with its block
pub revised_more : (start : Workbench) (lines : List Line) (bench moved : Workbench) (line : Line) (block : Block) → may_revise line.command ≡ true → HasRevised start lines bench → line.desk < length start.state → IsProvedBlock bench.table (revisions_at bench line.desk) line block → HoldTheSame moved (with_block bench line block) → HasRevised start (lines ++ line ∷ []) moved
revised_more start lines bench moved line block revises has within is moves =
    revised_by start (lines ++ line ∷ []) moved (subst (λ (l : List Line). AreDone start l moved) (sym (taken lines line revises)) (one_done start (revision_lines lines) bench moved line block (done_of start lines bench has) within is moves))

-- what stands then are the closing lists
pub closing_of : (start : Workbench) (lines : List Line) (bench : Workbench) → HasRevised start lines bench → AreClosingLists start lines (lists_at bench)
closing_of start lines bench has = record {
  blocks = has.blocks;
  each = has.each;
  lists_are = lists_by (λ (desk : ℕ). revisions_at bench desk) (λ (desk : ℕ). revisions_then start (with_blocks (revision_lines lines) has.blocks) desk) (length bench.state) (length start.state) has.desks has.holds;
}

-- ---- benches that hold the same have the same closing lists

pub lists_same : (one other : Workbench) → HoldTheSame one other → (said : List (Line × Block)) → lists_after one said ≡ lists_after other said
lists_same one other same said =
    lists_by (λ (desk : ℕ). revisions_then one said desk) (λ (desk : ℕ). revisions_then other said desk) (length one.state) (length other.state) (ap length same.1) (λ desk below. then_same one other same said desk)

pub closing_same : (one other : Workbench) → HoldTheSame one other → (lines : List Line) (lists : List (List Statement)) → AreClosingLists one lines lists → AreClosingLists other lines lists
closing_same one other same lines lists closing = record {
  blocks = closing.blocks;
  each = each_same one other same IsProvedBlock [] (revision_lines lines) closing.blocks closing.each;
  lists_are = closing.lists_are ∙ lists_same one other same (with_blocks (revision_lines lines) closing.blocks);
}

-- ---- what stands at each desk, one by one

module _ (bench : Workbench) where
  abbrev stands_at : ℕ → List Statement
  stands_at desk = statements_of (revisions_at bench desk)

  pub listed_more : (lists : List (List Statement)) (desk : ℕ) (list : List Statement) → lists ≡ map stands_at (range_with_len 0 desk) → list ≡ stands_at desk → lists ++ list ∷ [] ≡ map stands_at (range_with_len 0 (desk + 1))
  listed_more lists desk list listed is =
      ap (λ (l : List (List Statement)). l ++ list ∷ []) listed
      ∙ ap (λ (x : List Statement). map stands_at (range_with_len 0 desk) ++ x ∷ []) is
      ∙ sym (map-range_with_len_more stands_at 0 desk desk (zero-add desk))

  pub lawful_more : (lists : List (List Statement)) (desk : ℕ) (list : List Statement) → AllByRecursion (IsLawfulIn bench.table) lists → list ≡ stands_at desk → IsLawfulIn bench.table (stands_at desk) → AllByRecursion (IsLawfulIn bench.table) (lists ++ list ∷ [])
  lawful_more lists desk list lawful is one = all-append (IsLawfulIn bench.table) lists (list ∷ []) lawful (subst (IsLawfulIn bench.table) (sym is) one, tt)
