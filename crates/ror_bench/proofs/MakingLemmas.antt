-- A report that is made block by block: what holds of the blocks of the first lines when one more is made.
use Rattle.std.proofs.Common.{append-nil, ◌≡◌, ℕ, ◌+◌, ◌<◌, List, [], ◌∷◌, ◌++◌, length, refl, sym, ap, ◌∙◌, subst, append_assoc}
use Rattle.std.specs.List.{AllByRecursion, flat_map}
use Rattle.std.proofs.lemmas.List.Concat.{flat_map-append}
use Rattle.ror_text.proofs.Everywhere.{all-append}
use Rattle.ror_table.specs.Table.{DecisionTable}
use Rattle.ror_session.specs.declared.session.Line.{Line}
use Rattle.ror_report.specs.declared.block.Block.{Block}
use Rattle.ror_report.specs.Text.{block_text, IsPrintableBlock}
use Rattle.ror_history.specs.History.{Revisions}
use Rattle.ror_bench.specs.Allowed.{given_at}
use Rattle.ror_bench.specs.Bench.{Workbench, revisions_at, HoldTheSame, LeavesNumbers}
use Rattle.ror_bench.specs.Blocks.{IsBlockOf, with_block}
use Rattle.ror_bench.specs.Desks.{with_blocks}
use Rattle.ror_bench.specs.Reports.{EachHolds, revisions_then}
use Rattle.ror_bench.specs.Replays.{AreBlocksAt}
use Rattle.ror_bench.proofs.ReportProofs.{IsAfter, after_nothing, after_block, numbers_after}
use Rattle.ror_bench.proofs.ReplayLemmas.{block_proved}

pub each_more : (P : Revisions → Line → Block → Type 0) (bench : Workbench) (before : List (Line × Block)) (xs : List Line) (ys : List Block) (line : Line) (block : Block) → EachHolds P bench before xs ys → P (revisions_then bench (before ++ with_blocks xs ys) line.desk) line block → EachHolds P bench before (xs ++ line ∷ []) (ys ++ block ∷ [])
each_more P bench before [] [] line block all one = (subst (λ (l : List (Line × Block)). P (revisions_then bench l line.desk) line block) (append-nil before) one, tt)
each_more P bench before [] (y ∷ ys) line block all one = absurd all
each_more P bench before (x ∷ xs) [] line block all one = absurd all
each_more P bench before (x ∷ xs) (y ∷ ys) line block all one =
    (all.0, each_more P bench (before ++ (x, y) ∷ []) xs ys line block all.1 (subst (λ (l : List (Line × Block)). P (revisions_then bench l line.desk) line block) (sym (append_assoc before ((x, y) ∷ []) (with_blocks xs ys))) one))

pub paired_more : (P : Revisions → Line → Block → Type 0) (bench : Workbench) (before : List (Line × Block)) (xs : List Line) (ys : List Block) (line : Line) (block : Block) → EachHolds P bench before xs ys → with_blocks (xs ++ line ∷ []) (ys ++ block ∷ []) ≡ with_blocks xs ys ++ (line, block) ∷ []
paired_more P bench before [] [] line block all = refl
paired_more P bench before [] (y ∷ ys) line block all = absurd all
paired_more P bench before (x ∷ xs) [] line block all = absurd all
paired_more P bench before (x ∷ xs) (y ∷ ys) line block all = ap (λ (l : List (Line × Block)). (x, y) ∷ l) (paired_more P bench (before ++ (x, y) ∷ []) xs ys line block all.1)

-- the blocks of lines were made from the start on, and this is the bench after them
pub record IsMade (most : ℕ) (start : Workbench) (lines : List Line) (bench : Workbench) (blocks : List Block) : Type 0 where
  pub blocks_are : AreBlocksAt most start lines blocks
  pub after : IsAfter start (with_blocks lines blocks) bench

pub made_nothing : (most : ℕ) (start : Workbench) → IsMade most start [] start []
made_nothing most start = record { blocks_are = record { printable = tt; given = tt }; after = after_nothing start }

pub made_more : (most : ℕ) (start : Workbench) (lines : List Line) (bench moved : Workbench) (line : Line) (blocks : List Block) (block : Block) → IsMade most start lines bench blocks → line.desk < length start.state → IsBlockOf (given_at most) bench.table (revisions_at bench line.desk) line block → IsPrintableBlock bench.table block → HoldTheSame moved (with_block bench line block) → IsMade most start (lines ++ line ∷ []) moved (blocks ++ block ∷ [])
made_more most start lines bench moved line blocks block made within is text moves =
    let P : Revisions → Line → Block → Type 0 = IsBlockOf (given_at most) start.table in
    let before = with_blocks lines blocks in
    let here : P (revisions_at bench line.desk) line block = subst (λ (t : DecisionTable). IsBlockOf (given_at most) t (revisions_at bench line.desk) line block) made.after.table is in
    let then : P (revisions_then start before line.desk) line block = subst (λ (r : Revisions). P r line block) (made.after.holds line.desk within) here in
    let all = made.blocks_are.given in
    record {
      blocks_are = record {
        printable = all-append (IsPrintableBlock start.table) blocks (block ∷ []) made.blocks_are.printable (subst (λ (t : DecisionTable). IsPrintableBlock t block) made.after.table text, tt);
        given = each_more P start [] lines blocks line block all then;
      };
      after = subst (λ (l : List (Line × Block)). IsAfter start l moved) (sym (paired_more P start [] lines blocks line block all)) (after_block start before bench moved line block made.after within moves);
    }

-- a desk's numbers are as many fewer as lines were done
pub numbers_then : (most : ℕ) (bench moved : Workbench) (line : Line) (block : Block) (more : ℕ) → line.desk < length bench.state → AllByRecursion (LeavesNumbers (1 + more)) bench.state → IsBlockOf (given_at most) bench.table (revisions_at bench line.desk) line block → HoldTheSame moved (with_block bench line block) → AllByRecursion (LeavesNumbers more) moved.state
numbers_then most bench moved line block more within all given is =
    numbers_after bench moved line block more within all (block_proved most bench.table (revisions_at bench line.desk) line block given) is

-- the text of one block more
pub text_more : (t : DecisionTable) (blocks : List Block) (block : Block) → flat_map (block_text t) (blocks ++ block ∷ []) ≡ flat_map (block_text t) blocks ++ block_text t block
text_more t blocks block = flat_map-append (block_text t) blocks (block ∷ []) ∙ ap (λ (l : List ℕ). flat_map (block_text t) blocks ++ l) (append-nil (block_text t block))
