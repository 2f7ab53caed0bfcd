-- The blocks of the first lines are checked: what holds when one more is, and for what the next one is rejected.
use Rattle.std.proofs.Common.{◌≡◌, ℕ, zero, suc, ◌+◌, ◌<◌, ◌≤◌, List, [], ◌∷◌, ◌++◌, length, take, drop, get_or, refl, sym, ap, ap₂, ◌∙◌, subst, append_assoc, append-nil, add-one, drop-cons, arith}
use Rattle.std.specs.List.{sum_by}
use Rattle.std.proofs.lemmas.List.{take_all, take-append-drop, drop_all, length-take-le}
use Rattle.std.proofs.lemmas.List.Sums.{sum_by-append}
use Rattle.ror_table.specs.Table.{DecisionTable}
use Rattle.ror_session.specs.declared.session.Line.{Line}
use Rattle.ror_report.specs.declared.block.Block.{Block}
use Rattle.ror_history.specs.History.{Revisions}
use Rattle.ror_bench.specs.declared.bench.Passed.{Passed}
use Rattle.ror_bench.specs.declared.report.Accepted.{Accepted}
use Rattle.ror_bench.specs.declared.report.Reason.{Reason}
use Rattle.ror_bench.specs.declared.report.Reason.TheVariants.{WrongBlock}
use Rattle.ror_bench.specs.declared.report.Rejection.{Rejection}
use Rattle.ror_bench.specs.Bench.{Workbench, revisions_at, HoldTheSame}
use Rattle.ror_bench.specs.Blocks.{IsProvedBlock, passed_of, with_block}
use Rattle.ror_bench.specs.Desks.{with_blocks}
use Rattle.ror_bench.specs.Reports.{EachHolds, accepted_of, block_reason, revisions_then}
use Rattle.ror_bench.specs.Steps.{with_passed}
use Rattle.ror_bench.proofs.ReportProofs.{IsAfter, after_nothing, after_block, sums}
use Rattle.ror_bench.proofs.MakingLemmas.{each_more, paired_more}
use Rattle.ror_work_json.specs.Json.{IsRejectedAmong, missing, one_too_many, refused, later}
use Rattle.ror_work_json.specs.Steps.{AreProvedBlocks, RefusesBlock}

-- the blocks of these lines are proved, so many answers are, and this is the bench after them
pub record AreChecked (start : Workbench) (lines : List Line) (blocks : List Block) (bench : Workbench) (accepted : Accepted) : Type 0 where
  pub proved : EachHolds (IsProvedBlock start.table) start [] lines blocks
  pub after : IsAfter start (with_blocks lines blocks) bench
  pub counted : accepted ≡ accepted_of blocks

pub none_checked : (start : Workbench) → AreChecked start [] [] start (record { answers = 0; wide = 0 })
none_checked start = record { proved = tt; after = after_nothing start; counted = refl }

counted_more : (blocks : List Block) (block : Block) → with_passed (accepted_of blocks) (passed_of block.body) ≡ accepted_of (blocks ++ block ∷ [])
counted_more blocks block = ap₂ (λ m n. record { answers = m; wide = n }) (one_more (λ b. (passed_of b.body).answers)) (one_more (λ b. (passed_of b.body).wide))
  where
    one_more : (f : Block → ℕ) → sum_by f blocks + f block ≡ sum_by f (blocks ++ block ∷ [])
    one_more f = omega (arith, sum_by-append f blocks (block ∷ []), sums f block [])

-- one block more
pub one_checked : (start : Workbench) (lines : List Line) (blocks : List Block) (bench moved : Workbench) (accepted : Accepted) (line : Line) (block : Block) (passed : Passed) → AreChecked start lines blocks bench accepted → line.desk < length start.state → IsProvedBlock bench.table (revisions_at bench line.desk) line block → passed ≡ passed_of block.body → HoldTheSame moved (with_block bench line block) → AreChecked start (lines ++ line ∷ []) (blocks ++ block ∷ []) moved (with_passed accepted passed)
one_checked start lines blocks bench moved accepted line block passed were within proved counted moves =
    let P : Revisions → Line → Block → Type 0 = IsProvedBlock start.table in
    let before = with_blocks lines blocks in
    let holds = were.after.holds line.desk within in
    let here : P (revisions_then start before line.desk) line block = subst (λ (r : Revisions). P r line block) holds (subst (λ (t : DecisionTable). IsProvedBlock t (revisions_at bench line.desk) line block) were.after.table proved) in
    record {
      proved = each_more P start [] lines blocks line block were.proved here;
      after = subst (λ (l : List (Line × Block)). IsAfter start l moved) (sym (paired_more P start [] lines blocks line block were.proved)) (after_block start before bench moved line block were.after within moves);
      counted = ap (λ (x : Accepted). with_passed x passed) were.counted ∙ ap (λ (p : Passed). with_passed (accepted_of blocks) p) counted ∙ counted_more blocks block;
    }

-- all of them
pub all_checked : (start : Workbench) (lines : List Line) (blocks : List Block) (i : ℕ) (bench : Workbench) (accepted : Accepted) → length lines ≤ i → length blocks ≤ i → AreChecked start (take i lines) (take i blocks) bench accepted → AreProvedBlocks start lines blocks accepted
all_checked start lines blocks i bench accepted no_line no_block were =
    let whole = subst (λ (ls : List Line). AreChecked start ls blocks bench accepted) (take_all i lines no_line) (subst (λ (bs : List Block). AreChecked start (take i lines) bs bench accepted) (take_all i blocks no_block) were) in
    record { proved = whole.proved; counted = whole.counted }

-- ---- what is rejected behind them

-- the element at a place, those before it, and those behind it
pub split_at : {A : Type 0} (xs : List A) (i : ℕ) (x : A) → i < length xs → x ≡ get_or xs i x → take i xs ++ x ∷ drop (i + 1) xs ≡ xs
split_at {A} xs i x within is =
    let behind : drop i xs ≡ x ∷ drop (i + 1) xs = rw add-one (drop-cons xs i x within ∙ ap (λ (y : A). y ∷ drop (suc i) xs) (sym is)) in
    ap (λ (l : List A). take i xs ++ l) (sym behind) ∙ take-append-drop i xs

some_at : {A : Type 0} (xs : List A) (i : ℕ) → i < length xs → (x : A) × (rest : List A) × (take i xs ++ x ∷ rest ≡ xs)
some_at [] i within = absurd (omega arith)
some_at (x ∷ xs) zero within = (x, xs, refl)
some_at {A} (x ∷ xs) (suc i) within = let there = some_at xs i (omega arith) in (there.0, there.1, ap (λ (l : List A). x ∷ l) there.2)

paired_count : (P : Revisions → Line → Block → Type 0) (bench : Workbench) (before : List (Line × Block)) (xs : List Line) (ys : List Block) → EachHolds P bench before xs ys → length (with_blocks xs ys) ≡ length xs
paired_count P bench before [] [] all = refl
paired_count P bench before [] (y ∷ ys) all = absurd all
paired_count P bench before (x ∷ xs) [] all = absurd all
paired_count P bench before (x ∷ xs) (y ∷ ys) all = ap suc (paired_count P bench (before ++ (x, y) ∷ []) xs ys all.1)

rejected_after : (start : Workbench) (r : Rejection) (before : List (Line × Block)) (xs : List Line) (ys : List Block) (left : List Line) (rest : List Block) → EachHolds (IsProvedBlock start.table) start before xs ys → IsRejectedAmong start r (before ++ with_blocks xs ys) left rest → IsRejectedAmong start r before (xs ++ left) (ys ++ rest)
rejected_after start r before [] [] left rest all h = subst (λ (l : List (Line × Block)). IsRejectedAmong start r l left rest) (append-nil before) h
rejected_after start r before [] (y ∷ ys) left rest all h = absurd all
rejected_after start r before (x ∷ xs) [] left rest all h = absurd all
rejected_after start r before (x ∷ xs) (y ∷ ys) left rest all h =
    later before x (xs ++ left) y (ys ++ rest) all.0 (rejected_after start r (before ++ (x, y) ∷ []) xs ys left rest all.1 (subst (λ (l : List (Line × Block)). IsRejectedAmong start r l left rest) (sym (append_assoc before ((x, y) ∷ []) (with_blocks xs ys))) h))

-- what is rejected behind the first lines and blocks is so in all of them
rejected_behind : (start : Workbench) (r : Rejection) (lines xs left : List Line) (blocks ys rest : List Block) → xs ++ left ≡ lines → ys ++ rest ≡ blocks → EachHolds (IsProvedBlock start.table) start [] xs ys → IsRejectedAmong start r (with_blocks xs ys) left rest → IsRejectedAmong start r [] lines blocks
rejected_behind start r lines xs left blocks ys rest here there all h =
    subst (λ (ls : List Line). IsRejectedAmong start r [] ls blocks) here (subst (λ (bs : List Block). IsRejectedAmong start r [] (xs ++ left) bs) there (rejected_after start r [] xs ys left rest all h))

-- the number of the next block
next_number : (start : Workbench) (lines : List Line) (blocks : List Block) (i : ℕ) (bench : Workbench) (accepted : Accepted) → i ≤ length lines → AreChecked start (take i lines) (take i blocks) bench accepted → i + 1 ≡ 1 + length (with_blocks (take i lines) (take i blocks))
next_number start lines blocks i bench accepted within were =
    let count = paired_count (IsProvedBlock start.table) start [] (take i lines) (take i blocks) were.proved in
    let long = length-take-le i lines within in
    omega (arith, count, long)

abbrev wrong_block : ℕ → Rejection
wrong_block n = record { block = n; reason = WrongBlock }

-- the next line has no block
pub line_without_block : (start : Workbench) (lines : List Line) (blocks : List Block) (i : ℕ) (bench : Workbench) (accepted : Accepted) (line : Line) → i < length lines → line ≡ get_or lines i line → length blocks ≤ i → AreChecked start (take i lines) (take i blocks) bench accepted → IsRejectedAmong start (record { block = i + 1; reason = WrongBlock }) [] lines blocks
line_without_block start lines blocks i bench accepted line within is none were =
    let number = ap wrong_block (next_number start lines blocks i bench accepted (omega (arith, within)) were) in
    rejected_behind start (wrong_block (i + 1)) lines (take i lines) (line ∷ drop (i + 1) lines) blocks (take i blocks) [] (split_at lines i line within is) (append-nil (take i blocks) ∙ take_all i blocks none) were.proved
    (missing (with_blocks (take i lines) (take i blocks)) line (drop (i + 1) lines) number)

-- the next block has no line
pub block_without_line : (start : Workbench) (lines : List Line) (blocks : List Block) (i : ℕ) (bench : Workbench) (accepted : Accepted) → i ≡ length lines → i < length blocks → AreChecked start (take i lines) (take i blocks) bench accepted → IsRejectedAmong start (record { block = i + 1; reason = WrongBlock }) [] lines blocks
block_without_line start lines blocks i bench accepted all more were =
    let number = ap wrong_block (next_number start lines blocks i bench accepted (omega (arith, all)) were) in
    let next = some_at blocks i more in
    rejected_behind start (wrong_block (i + 1)) lines (take i lines) [] blocks (take i blocks) (next.0 ∷ next.1) (append-nil (take i lines) ∙ take_all i lines (omega (arith, all))) next.2 were.proved
    (one_too_many (with_blocks (take i lines) (take i blocks)) next.0 next.1 number)

-- the next block is refused
pub block_refused : (start : Workbench) (lines : List Line) (blocks : List Block) (i : ℕ) (bench : Workbench) (accepted : Accepted) (line : Line) (block : Block) (r : Rejection) → i < length lines → line ≡ get_or lines i line → i < length blocks → block ≡ get_or blocks i block → line.desk < length start.state → AreChecked start (take i lines) (take i blocks) bench accepted → r.block ≡ i + 1 → RefusesBlock bench.table (revisions_at bench line.desk) line block r.reason → IsRejectedAmong start r [] lines blocks
block_refused start lines blocks i bench accepted line block r within is there found desk were number refuses =
    let before = with_blocks (take i lines) (take i blocks) in
    let here = subst (λ (x : Revisions). RefusesBlock start.table x line block r.reason) (were.after.holds line.desk desk) (subst (λ (t : DecisionTable). RefusesBlock t (revisions_at bench line.desk) line block r.reason) were.after.table refuses) in
    let rejection : r ≡ record { block = 1 + length before; reason = block_reason here.fault } =
    ap (λ n. record { block = n; reason = r.reason }) (number ∙ next_number start lines blocks i bench accepted (omega (arith, within)) were) ∙ ap (λ (p : Reason). record { block = 1 + length before; reason = p }) here.is in
    rejected_behind start r lines (take i lines) (line ∷ drop (i + 1) lines) blocks (take i blocks) (block ∷ drop (i + 1) blocks) (split_at lines i line within is) (split_at blocks i block there found) were.proved
    (refused before line (drop (i + 1) lines) block (drop (i + 1) blocks) here.fault here.first rejection)
