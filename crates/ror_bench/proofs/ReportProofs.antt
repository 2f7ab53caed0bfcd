-- What is left of a report, block by block, that reading it is a function, and what a rejected one is.
use Rattle.std.proofs.Common.{length-set, append-nil, inl, inr, rules, ◌≡◌, ◌≢◌, ℕ, zero, suc, ◌+◌, ◌<◌, ◌≤◌, ◌^◌, true, false, List, [], ◌∷◌, ◌++◌, length, drop, get_or, Some, Option, Result, Ok, Err, refl, sym, ap, ◌∙◌, subst, append_assoc, length-append, zero-add, add-one, drop-cons, arith}
use Rattle.std.specs.Prelude.{codes, IfErr, IfSome, ◌==◌, ◌⊎◌, slice_set, slice_index_or}
use Rattle.std.proofs.lemmas.Bool.{cases_lt}
use Rattle.std.specs.List.{AllByRecursion, flat_map, sum_by, filter}
use Rattle.std.specs.Str.{IsUtf8}
use Rattle.std.proofs.lemmas.List.{append_cancel_left, drop_all, length-drop}
use Rattle.std.proofs.lemmas.List.{get_or-set_same, get_or-set_other}
use Rattle.std.proofs.lemmas.List.Elements.{filter-append}
use Rattle.std.proofs.lemmas.List.Sums.{sum_by-append, fold-append}
use Rattle.ror_statement.specs.declared.statement.Numbered.{Numbered}
use Rattle.ror_session.specs.declared.session.Line.{Line}
use Rattle.ror_table.specs.Table.{DecisionTable, IsTable}
use Rattle.ror_text.specs.FirstFault.{IsRefusedBy}
use Rattle.ror_text.specs.Cursor.{Cursor, cursor_at}
use Rattle.ror_report.specs.declared.block.Block.{Block}
use Rattle.ror_proof.specs.declared.read.ProofFault.{ProofFault}
use Rattle.ror_report.specs.Text.{block_text, header_text, end_text, IsPrintableBlock}
use Rattle.ror_proof.specs.declared.read.ProofFault.TheVariants as forms
use Rattle.ror_proof.specs.Reading.{proof_fault}
use Rattle.ror_report.specs.Reading.{ends_body, begins_end, block_at, end_at, header_at}
use Rattle.ror_report.proofs.BlockLemmas.{block_reads_back, is_read_iff_text}
use Rattle.ror_report.proofs.ReportLemmas.{ends_at_rest, header_is_text, header_reads_back, end_is_text, end_reads_back}
use Rattle.ror_report.proofs.LineForms.{block_begins, end_begins}
use Rattle.ror_history.specs.History.{Revisions}
use Rattle.ror_bench.specs.declared.bench.Passed.{Passed}
use Rattle.ror_bench.specs.declared.bench.BlockFault.{BlockFault}
use Rattle.ror_bench.specs.declared.bench.BlockFault.TheVariants as blocks
use Rattle.ror_bench.specs.declared.report.Accepted.{Accepted}
use Rattle.ror_bench.specs.declared.report.Rejection.{Rejection}
use Rattle.ror_bench.specs.declared.report.Reason.{Reason}
use Rattle.ror_bench.specs.declared.report.TheConstants.{MOST_REPORT_BYTES}
use Rattle.ror_bench.specs.Bench.{Workbench, revisions_at, HoldTheSame, LeavesNumbers}
use Rattle.ror_bench.specs.Allowed.{proved_unless_wide}
use Rattle.ror_bench.specs.Blocks.{IsProvedBlock, passed_of, revisions_with, with_block}
use Rattle.ror_bench.specs.Faults.{FailsBlock, IsEarlierBlockFault}
use Rattle.ror_bench.specs.Reports.{IsProvedReport, NamesADesk, EachHolds, accepted_of, at_desk, revisions_after, revisions_then, IfRejected, RejectsNext, RejectsEnd, IsRejectedFrom, IsRejectedFor, end_misread, ends_early, block_misread, refused, miscounted, one_too_many, at_line, at_end, later, not_utf8, no_header, in_blocks}
use Rattle.ror_bench.specs.declared.report.ReportError.{ReportError}
use Rattle.ror_bench.specs.declared.report.ReportError.TheVariants as errors
use Rattle.ror_bench.specs.declared.kept.Keep.{Keep}
use Rattle.ror_bench.specs.declared.kept.KeptLine.{KeptLine}
use Rattle.ror_bench.specs.Kept.{keep_at, standing_for, kept_of, kept_at, kept_from, IsProvedKeeping}
use Rattle.ror_bench.specs.Steps.{IsEarlyEnd, IsLateBlock, IsNextBlock, IsRest, with_passed, misread_error, refused_block_error}
use Rattle.ror_bench.specs.Laws.{RejectedIsNotProved}
use Rattle.ror_bench.proofs.AnswerLemmas.{block_passes}
use Rattle.ror_bench.proofs.LawfulLemmas.{moved_number}
use Rattle.ror_bench.proofs.Utf8Proofs.{proved_is_utf8, few_blocks}

-- ---- reading is a function

abbrev ok_block : Block × Cursor → Result (Block × Cursor) ProofFault
ok_block p = Ok p

-- two blocks that stand at one place are one, and end at one place
pub same_block : (t : DecisionTable) (a b : Block) (bytes x y : List ℕ) → IsTable t → IsPrintableBlock t a → IsPrintableBlock t b → ends_body x ≡ true → ends_body y ≡ true
    → bytes ≡ block_text t a ++ x → bytes ≡ block_text t b ++ y → (a ≡ b) × (x ≡ y)
same_block t a b bytes x y table pa pb ex ey ea eb =
    let of_a = block_reads_back t a 0 x table pa ex in
    let of_b = block_reads_back t b 0 y table pb ey in
    let same : block_text t a ++ x ≡ block_text t b ++ y = sym ea ∙ eb in
    let read = one _ _ (sym of_a ∙ ap (λ (r : List ℕ). block_at t (record { place = 0; rest = r })) same ∙ of_b) in
    (ap (λ (r : Block × Cursor). r.0) read, ap (λ (r : Block × Cursor). r.1.rest) read)
  where
    one : (p q : Block × Cursor) → ok_block p ≡ ok_block q → p ≡ q
    one p q e = cc

-- a last line is no block
pub no_block_at_end : (t : DecisionTable) (b : Block) (bytes rest : List ℕ) → begins_end bytes ≡ true → bytes ≡ block_text t b ++ rest → ⊥
no_block_at_end t b bytes rest begins e =
    let x = block_begins t b in
    let whole : bytes ≡ codes "line " ++ (x.0 ++ rest) = e ∙ ap (λ (l : List ℕ). l ++ rest) x.1 in
    let no : begins_end (codes "line " ++ (x.0 ++ rest)) ≡ true = subst (λ (l : List ℕ). begins_end l ≡ true) whole begins in
    absurd (let f : false ≡ true = no in cc)

-- a last line begins as one
pub end_begins_end : (bytes : List ℕ) (n : ℕ) → bytes ≡ end_text n → begins_end bytes ≡ true
end_begins_end bytes n e =
    let x = end_begins n in
    ap begins_end (e ∙ x.1)

-- ---- what is left

answers_in : Block → ℕ
answers_in b = (passed_of b.body).answers

wide_in : Block → ℕ
wide_in b = (passed_of b.body).wide

pub sums : {X : Type 0} (f : X → ℕ) (x : X) (xs : List X) → sum_by f (x ∷ xs) ≡ f x + sum_by f xs
sums f x xs = sum_by-append f (x ∷ []) xs ∙ ap (λ n. n + sum_by f xs) (zero-add (f x))

pub same_accepted : (x y : Accepted) → x.answers ≡ y.answers → x.wide ≡ y.wide → x ≡ y
same_accepted x y a w = ap (λ n. record { answers = n; wide = x.wide }) a ∙ ap (λ n. record { answers = y.answers; wide = n }) w

-- the numbers of a block and of those after it
accepted_more : (b : Block) (bs : List Block) (x : Accepted) → x ≡ accepted_of bs → with_passed x (passed_of b.body) ≡ accepted_of (b ∷ bs)
accepted_more b bs x e =
    let here : with_passed x (passed_of b.body) ≡ with_passed (accepted_of bs) (passed_of b.body) = ap (λ (y : Accepted). with_passed y (passed_of b.body)) e in
    here ∙ same_accepted (with_passed (accepted_of bs) (passed_of b.body)) (accepted_of (b ∷ bs))
    (let s = sums (λ b. (passed_of b.body).answers) b bs in omega (arith, s))
    (let s = sums (λ b. (passed_of b.body).wide) b bs in omega (arith, s))

-- a block that holds of a line, and what is left behind it
pub rest_with : (start : Workbench) (before : List (Line × Block)) (line : Line) (lines : List Line) (total : ℕ) (bytes after : List ℕ) (b : Block) (x : Accepted)
    → bytes ≡ block_text start.table b ++ after → IsPrintableBlock start.table b → IsProvedBlock start.table (revisions_then start before line.desk) line b → IsRest start (before ++ (line, b) ∷ []) lines total after x → IsRest start before (line ∷ lines) total bytes (with_passed x (passed_of b.body))
rest_with start before line lines total bytes after b x text printable proved rest = record {
  blocks = b ∷ rest.blocks;
  text = text ∙ ap (λ (l : List ℕ). block_text start.table b ++ l) rest.text ∙ sym (append_assoc (block_text start.table b) (flat_map (block_text start.table) rest.blocks) (end_text total));
  printable = (printable, rest.printable);
  proved = (proved, rest.proved);
  counted = accepted_more b rest.blocks x rest.counted;
}

-- the first block of what is left for a line and more
pub record HasFirst (start : Workbench) (before : List (Line × Block)) (line : Line) (lines : List Line) (total : ℕ) (bytes : List ℕ) : Type 0 where
  pub block : Block
  pub after : List ℕ
  pub accepted : Accepted
  pub text : bytes ≡ block_text start.table block ++ after
  pub ended : ends_body after ≡ true
  pub printable : IsPrintableBlock start.table block
  pub proved : IsProvedBlock start.table (revisions_then start before line.desk) line block
  pub rest : IsRest start (before ++ (line, block) ∷ []) lines total after accepted

first_of_blocks : (start : Workbench) (before : List (Line × Block)) (line : Line) (lines : List Line) (total : ℕ) (bytes : List ℕ) (blocks : List Block)
    → bytes ≡ flat_map (block_text start.table) blocks ++ end_text total → AllByRecursion (IsPrintableBlock start.table) blocks → EachHolds (IsProvedBlock start.table) start before (line ∷ lines) blocks → HasFirst start before line lines total bytes
first_of_blocks start before line lines total bytes [] text printable held = absurd held
first_of_blocks start before line lines total bytes (b ∷ bs) text printable held = record {
  block = b;
  after = flat_map (block_text start.table) bs ++ end_text total;
  accepted = accepted_of bs;
  text = text ∙ append_assoc (block_text start.table b) (flat_map (block_text start.table) bs) (end_text total);
  ended = ends_at_rest start.table bs total;
  printable = printable.0;
  proved = held.0;
  rest = record { blocks = bs; text = refl; printable = printable.1; proved = held.1; counted = refl };
}

pub first_of_rest : (start : Workbench) (before : List (Line × Block)) (line : Line) (lines : List Line) (total : ℕ) (bytes : List ℕ) (x : Accepted) → IsRest start before (line ∷ lines) total bytes x → HasFirst start before line lines total bytes
first_of_rest start before line lines total bytes x rest = first_of_blocks start before line lines total bytes rest.blocks rest.text rest.printable rest.proved

-- where no line is left, the last line is
last_of_blocks : (start : Workbench) (before : List (Line × Block)) (total : ℕ) (bytes : List ℕ) (blocks : List Block) → bytes ≡ flat_map (block_text start.table) blocks ++ end_text total → EachHolds (IsProvedBlock start.table) start before [] blocks → bytes ≡ end_text total
last_of_blocks start before total bytes [] text held = text
last_of_blocks start before total bytes (b ∷ bs) text held = absurd held

pub last_of_rest : (start : Workbench) (before : List (Line × Block)) (total : ℕ) (bytes : List ℕ) (x : Accepted) → IsRest start before [] total bytes x → bytes ≡ end_text total
last_of_rest start before total bytes x rest = last_of_blocks start before total bytes rest.blocks rest.text rest.proved

pub no_rest : (start : Workbench) (before : List (Line × Block)) (total : ℕ) (bytes : List ℕ) → bytes ≡ end_text total → IsRest start before [] total bytes (record { answers = 0; wide = 0 })
no_rest start before total bytes text = record { blocks = []; text = text; printable = tt; proved = tt; counted = refl }

-- ---- what the desks hold

pub same_number : (m n : ℕ) → m ≡ n → (m == n) ≡ true
same_number m n e = search rules

pub other_number : (m n : ℕ) → m ≢ n → (m == n) ≡ false
other_number m n ne = search rules

pub number_cases : (m n : ℕ) → (m ≡ n) ⊎ (m ≢ n)
number_cases m n = elim (cases_lt m n) [
  | inl less ↦ inr (λ e. omega arith)
  | inr le ↦ elim (cases_lt n m) [ inl more ↦ inr (λ e. omega arith) | inr ge ↦ inl (omega arith) ]
]

-- one more line with its block moves its own desk on
pub then_at_own : (start : Workbench) (before : List (Line × Block)) (line : Line) (block : Block) (desk : ℕ) → line.desk ≡ desk → revisions_then start (before ++ (line, block) ∷ []) desk ≡ revisions_with start.table (revisions_then start before desk) line.command block.body
then_at_own start before line block desk own =
    let t = start.table in
    let here : filter (λ (x : Line × Block). x.0.desk == desk) ((line, block) ∷ []) ≡ (line, block) ∷ [] = rw (same_number line.desk desk own) refl in
    let split : at_desk desk (before ++ (line, block) ∷ []) ≡ at_desk desk before ++ (line, block) ∷ [] = filter-append (λ (x : Line × Block). x.0.desk == desk) before ((line, block) ∷ []) ∙ ap (λ (l : List (Line × Block)). at_desk desk before ++ l) here in
    ap (revisions_after t (revisions_at start desk)) split ∙ fold-append (λ (r : Revisions) (x : Line × Block). revisions_with t r x.0.command x.1.body) (revisions_at start desk) (at_desk desk before) ((line, block) ∷ [])

-- and leaves the others
pub then_at_other : (start : Workbench) (before : List (Line × Block)) (line : Line) (block : Block) (desk : ℕ) → line.desk ≢ desk → revisions_then start (before ++ (line, block) ∷ []) desk ≡ revisions_then start before desk
then_at_other start before line block desk other =
    let here : filter (λ (x : Line × Block). x.0.desk == desk) ((line, block) ∷ []) ≡ [] = rw (other_number line.desk desk other) refl in
    let split : at_desk desk (before ++ (line, block) ∷ []) ≡ at_desk desk before = filter-append (λ (x : Line × Block). x.0.desk == desk) before ((line, block) ∷ []) ∙ ap (λ (l : List (Line × Block)). at_desk desk before ++ l) here ∙ append-nil (at_desk desk before) in
    ap (revisions_after start.table (revisions_at start desk)) split

-- a bench holds at each desk what lines and their blocks left there
pub record IsAfter (start : Workbench) (before : List (Line × Block)) (bench : Workbench) : Type 0 where
  pub table : bench.table ≡ start.table
  pub desks : length bench.state ≡ length start.state
  pub holds : (desk : ℕ) → desk < length start.state → revisions_at bench desk ≡ revisions_then start before desk

pub after_nothing : (start : Workbench) → IsAfter start [] start
after_nothing start = record { table = refl; desks = refl; holds = λ desk within. refl }

after_same : (start : Workbench) (before : List (Line × Block)) (one other : Workbench) → HoldTheSame one other → IsAfter start before other → IsAfter start before one
after_same start before one other same is = record {
  table = same.0 ∙ is.table;
  desks = ap length same.1 ∙ is.desks;
  holds = λ desk inside. ap (λ (states : List Revisions). slice_index_or states desk (record { opening = []; surviving = [] })) same.1 ∙ is.holds desk inside;
}

pub after_block : (start : Workbench) (before : List (Line × Block)) (bench moved : Workbench) (line : Line) (block : Block) → IsAfter start before bench → line.desk < length start.state → HoldTheSame moved (with_block bench line block) → IsAfter start (before ++ (line, block) ∷ []) moved
after_block start before bench moved line block is within same =
    after_same start (before ++ (line, block) ∷ []) moved (with_block bench line block) same (record {
      table = is.table;
      desks = length-set bench.state line.desk (revisions_with bench.table (revisions_at bench line.desk) line.command block.body) ∙ is.desks;
      holds = λ desk inside. elim (number_cases line.desk desk) [
        | inl own ↦
            let set = get_or-set_same bench.state line.desk (revisions_with bench.table (revisions_at bench line.desk) line.command block.body) (record { opening = []; surviving = [] }) (let d = is.desks in omega arith) in
            let both : revisions_with bench.table (revisions_at bench line.desk) line.command block.body ≡ revisions_with start.table (revisions_then start before line.desk) line.command block.body =
            ap (λ (t : DecisionTable). revisions_with t (revisions_at bench line.desk) line.command block.body) is.table ∙ ap (λ (r : Revisions). revisions_with start.table r line.command block.body) (is.holds line.desk within) in
            let at_own = then_at_own start before line block line.desk refl in
            subst (λ (d : ℕ). revisions_at (with_block bench line block) d ≡ revisions_then start (before ++ (line, block) ∷ []) d) own (set ∙ both ∙ sym at_own)
        | inr other ↦
            let set = get_or-set_other bench.state line.desk desk (revisions_with bench.table (revisions_at bench line.desk) line.command block.body) (record { opening = []; surviving = [] }) (λ e. other (sym e)) in
            set ∙ is.holds desk inside ∙ sym (then_at_other start before line block desk other)
      ];
    })

-- ---- the numbers that desks have left

pub weaker : (more : ℕ) (rs : List Revisions) → AllByRecursion (LeavesNumbers (1 + more)) rs → AllByRecursion (LeavesNumbers more) rs
weaker more [] h = tt
weaker more (r ∷ rs) h = ((let now = h.0 in omega arith), weaker more rs h.1)

numbers_set : (more : ℕ) (rs : List Revisions) (desk : ℕ) (r : Revisions) → AllByRecursion (LeavesNumbers more) rs → LeavesNumbers more r → AllByRecursion (LeavesNumbers more) (slice_set rs desk r)
numbers_set more [] desk r all here = tt
numbers_set more (x ∷ xs) zero r all here = (here, all.1)
numbers_set more (x ∷ xs) (suc desk) r all here = (all.0, numbers_set more xs desk r all.1 here)

numbers_at : (more : ℕ) (rs : List Revisions) (desk : ℕ) (d : Revisions) → desk < length rs → AllByRecursion (LeavesNumbers more) rs → LeavesNumbers more (get_or rs desk d)
numbers_at more [] desk d within all = absurd (omega arith)
numbers_at more (x ∷ xs) zero d within all = all.0
numbers_at more (x ∷ xs) (suc desk) d within all = numbers_at more xs desk d (omega arith) all.1

pub number_left : (bench : Workbench) (line : Line) (more : ℕ) → line.desk < length bench.state → AllByRecursion (LeavesNumbers (1 + more)) bench.state → LeavesNumbers 1 (revisions_at bench line.desk)
number_left bench line more within all = let here = numbers_at (1 + more) bench.state line.desk (record { opening = []; surviving = [] }) within all in omega arith

pub numbers_after : (bench moved : Workbench) (line : Line) (block : Block) (more : ℕ) → line.desk < length bench.state → AllByRecursion (LeavesNumbers (1 + more)) bench.state → IsProvedBlock bench.table (revisions_at bench line.desk) line block → HoldTheSame moved (with_block bench line block) → AllByRecursion (LeavesNumbers more) moved.state
numbers_after bench moved line block more within all proved same =
    let here = numbers_at (1 + more) bench.state line.desk (record { opening = []; surviving = [] }) within all in
    let rises = moved_number proved_unless_wide bench.table (revisions_at bench line.desk) line.command block.body proved.body in
    subst (λ (states : List Revisions). AllByRecursion (LeavesNumbers more) states) (sym same.1)
    (numbers_set more bench.state line.desk (revisions_with bench.table (revisions_at bench line.desk) line.command block.body) (weaker more bench.state all) (omega (arith, here, rises)))

pub after_desks : (start : Workbench) (before : List (Line × Block)) (bench : Workbench) → IsAfter start before bench → (line : Line) → line.desk < length start.state → line.desk < length bench.state
after_desks start before bench is line within = let same = is.desks in omega arith

-- ---- the loop over the lines

pub header_within : (bytes : List ℕ) (place : ℕ) → header_at bytes ≡ Some place → place ≤ length bytes
header_within bytes place header =
    let is = header_is_text bytes place header in
    let long = ap length is.1 in
    omega (arith, long, is.0, length-append header_text (drop place bytes))

-- what is read from a place on completes the report, and what is at fault from there on is its first fault
pub record IsWay (start : Workbench) (lines : List Line) (bytes : List ℕ) (place : ℕ) (bench : Workbench) (left : List Line) (from : ℕ) (keep : List Keep) (kept : List KeptLine) (accepted : Accepted) (count : ℕ) : Type 0 where
  pub before : List (Line × Block)
  pub counted : length before ≡ count
  pub after : IsAfter start before bench
  pub completes : (x : Accepted) (rest : IsRest start before left (length lines) (drop from bytes) x)
      → IsProvedKeeping start lines bytes keep (record { answers = accepted.answers + x.answers; wide = accepted.wide + x.wide }) (kept ++ kept_from start keep before left rest.blocks)
  pub rejects : (rejection : Rejection) → IsRejectedFrom start bytes rejection before left from → IsRejectedFrom start bytes rejection [] lines place

-- there is a block for each line
pub as_many : (P : Revisions → Line → Block → Type 0) (bench : Workbench) (before : List (Line × Block)) (xs : List Line) (ys : List Block) → EachHolds P bench before xs ys → length xs ≡ length ys
as_many P bench before [] [] all = refl
as_many P bench before [] (y ∷ ys) all = absurd all
as_many P bench before (x ∷ xs) [] all = absurd all
as_many P bench before (x ∷ xs) (y ∷ ys) all = let others = as_many P bench (before ++ (x, y) ∷ []) xs ys all.1 in omega arith

from_nothing : (x : Accepted) → record { answers = 0 + x.answers; wide = 0 + x.wide } ≡ x
from_nothing x = ap (λ n. record { answers = n; wide = 0 + x.wide }) (zero-add x.answers) ∙ ap (λ n. record { answers = x.answers; wide = n }) (zero-add x.wide)

pub way_begins : (start : Workbench) (lines : List Line) (bytes : List ℕ) (place : ℕ) (keep : List Keep) → header_at bytes ≡ Some place → IsWay start lines bytes place start lines place keep [] (record { answers = 0; wide = 0 }) 0
way_begins start lines bytes place keep header =
    let t = start.table in
    let is = header_is_text bytes place header in
    record {
      before = [];
      counted = refl;
      after = after_nothing start;
      completes = λ x rest.
          let count = as_many (IsProvedBlock t) start [] lines rest.blocks rest.proved in
          record {
            report = record {
              blocks = rest.blocks;
              text = is.1 ∙ ap (λ (l : List ℕ). header_text ++ l) (rest.text ∙ ap (λ m. flat_map (block_text t) rest.blocks ++ end_text m) count);
              printable = rest.printable;
              proved = rest.proved;
              counted = from_nothing x ∙ rest.counted;
            };
            chosen = refl;
          };
      rejects = λ rejection from. from;
    }

-- the next block over the start's table and what its desk holds then
record IsNextHere (start : Workbench) (before : List (Line × Block)) (line : Line) (bytes : List ℕ) (from : ℕ) (block : Block) (after : ℕ) : Type 0 where
  read : block_at start.table (cursor_at bytes from) ≡ Ok (block, cursor_at bytes after)
  proved : IsProvedBlock start.table (revisions_then start before line.desk) line block

next_here : (start : Workbench) (before : List (Line × Block)) (bench moved : Workbench) (line : Line) (bytes : List ℕ) (from : ℕ) (block : Block) (passed : Passed) (after : ℕ) → IsAfter start before bench → line.desk < length start.state → (next : IsNextBlock bench moved line bytes from block passed after) → IsNextHere start before line bytes from block after
next_here start before bench moved line bytes from block passed after is within next = record {
  read = subst (λ (t : DecisionTable). block_at t (cursor_at bytes from) ≡ Ok (block, cursor_at bytes after)) is.table next.read;
  proved = subst (λ (t : DecisionTable). IsProvedBlock t (revisions_then start before line.desk) line block) is.table (subst (λ (r : Revisions). IsProvedBlock bench.table r line block) (is.holds line.desk within) next.proved);
}

abbrev numbers_of : ℕ → ℕ → Accepted
numbers_of answers wide = record { answers = answers; wide = wide }

pub both_ways : (a x : Accepted) (p q : Passed) → q ≡ p → numbers_of (a.answers + (x.answers + p.answers)) (a.wide + (x.wide + p.wide)) ≡ numbers_of ((a.answers + q.answers) + x.answers) ((a.wide + q.wide) + x.wide)
both_ways a x p q e =
    let answers : p.answers ≡ q.answers = ap (λ (y : Passed). y.answers) (sym e) in
    let wide : p.wide ≡ q.wide = ap (λ (y : Passed). y.wide) (sym e) in
    same_accepted (numbers_of (a.answers + (x.answers + p.answers)) (a.wide + (x.wide + p.wide))) (numbers_of ((a.answers + q.answers) + x.answers) ((a.wide + q.wide) + x.wide)) (omega arith) (omega arith)

-- the chosen one of the next line is added to those before
kept_on : (start : Workbench) (keep : List Keep) (before : List (Line × Block)) (line : Line) (left : List Line) (block : Block) (blocks : List Block) (kept more : List KeptLine) → more ≡ kept_at start keep before line block
    → kept ++ kept_from start keep before (line ∷ left) (block ∷ blocks) ≡ (kept ++ more) ++ kept_from start keep (before ++ (line, block) ∷ []) left blocks
kept_on start keep before line left block blocks kept more is =
    ap (λ (l : List KeptLine). kept ++ (l ++ kept_from start keep (before ++ (line, block) ∷ []) left blocks)) (sym is) ∙ sym (append_assoc kept more (kept_from start keep (before ++ (line, block) ∷ []) left blocks))

-- what was kept of a line is what is kept of the one at its place
pub kept_here : (keep : List Keep) (r : Revisions) (place i : ℕ) (here : Keep) (list : Option (List Numbered)) (block : Block) → place ≡ i → here ≡ keep_at keep place → list ≡ standing_for here r
    → kept_of place here list block ≡ kept_of i (keep_at keep i) (standing_for (keep_at keep i) r) block
kept_here keep r place i here list block e f g =
    let same = f ∙ ap (keep_at keep) e in
    ap (λ n. kept_of n here list block) e ∙ ap (λ k. kept_of i k list block) same ∙ ap (λ l. kept_of i (keep_at keep i) l block) (g ∙ ap (λ k. standing_for k r) same)

pub way_goes_on : (start : Workbench) (lines : List Line) (bytes : List ℕ) (place : ℕ) (bench moved : Workbench) (line : Line) (left : List Line) (from : ℕ) (keep : List Keep) (kept more : List KeptLine) (accepted : Accepted) (count : ℕ) (block : Block) (passed : Passed) (after : ℕ) → IsTable start.table → line.desk < length start.state
    → IsWay start lines bytes place bench (line ∷ left) from keep kept accepted count → IsNextBlock bench moved line bytes from block passed after → more ≡ kept_of count (keep_at keep count) (standing_for (keep_at keep count) (revisions_at bench line.desk)) block
    → IsWay start lines bytes place moved left after keep (kept ++ more) (record { answers = accepted.answers + passed.answers; wide = accepted.wide + passed.wide }) (count + 1)
unfolding rest_with
way_goes_on start lines bytes place bench moved line left from keep kept more accepted count block passed after table within way next is_more =
    let t = start.table in
    let here = next_here start way.before bench moved line bytes from block passed after way.after within next in
    let is = (is_read_iff_text t (cursor_at bytes from) block (cursor_at bytes after) table).0 here.read in
    let chosen : more ≡ kept_at start keep way.before line block =
    is_more ∙ ap (λ (r : Revisions). kept_of count (keep_at keep count) (standing_for (keep_at keep count) r) block) (way.after.holds line.desk within)
    ∙ ap (λ (n : ℕ). kept_of n (keep_at keep n) (standing_for (keep_at keep n) (revisions_then start way.before line.desk)) block) (sym way.counted) in
    record {
      before = way.before ++ (line, block) ∷ [];
      counted = let c = way.counted in omega (arith, c, length-append way.before ((line, block) ∷ []));
      after = after_block start way.before bench moved line block way.after within next.moved_on;
      completes = λ x rest.
          let whole = way.completes (with_passed x (passed_of block.body)) (rest_with start way.before line left (length lines) (drop from bytes) (drop after bytes) block x is.text is.printable here.proved rest) in
          let on = kept_on start keep way.before line left block rest.blocks kept more chosen in
          subst (λ (ks : List KeptLine). IsProvedKeeping start lines bytes keep (numbers_of ((accepted.answers + passed.answers) + x.answers) ((accepted.wide + passed.wide) + x.wide)) ks) on
          (subst (λ (a : Accepted). IsProvedKeeping start lines bytes keep a (kept ++ kept_from start keep way.before (line ∷ left) (block ∷ rest.blocks))) (both_ways accepted x (passed_of block.body) passed next.counted) whole);
      rejects = λ rejection rest. way.rejects rejection (later way.before line left from block after next.no_end here.read here.proved rest);
    }

-- the next block is rejected, and so the report
pub way_breaks : (start : Workbench) (lines : List Line) (bytes : List ℕ) (place : ℕ) (bench : Workbench) (line : Line) (left : List Line) (from : ℕ) {keep : List Keep} {kept : List KeptLine} (accepted : Accepted) (count : ℕ) (rejection : Rejection) → line.desk < length start.state → IsWay start lines bytes place bench (line ∷ left) from keep kept accepted count
    → rejection.block ≡ count + 1 → RejectsNext bench.table (revisions_at bench line.desk) line bytes from rejection.reason → IsRejectedFrom start bytes rejection [] lines place
way_breaks start lines bytes place bench line left from accepted count rejection within way number rejects =
    let held = subst (λ (t : DecisionTable). RejectsNext t (revisions_then start way.before line.desk) line bytes from rejection.reason) way.after.table
    (subst (λ (r : Revisions). RejectsNext bench.table r line bytes from rejection.reason) (way.after.holds line.desk within) rejects) in
    way.rejects rejection (at_line way.before line left from (let c = way.counted in omega arith) held)

pub way_ends : (start : Workbench) (lines : List Line) (bytes : List ℕ) (place : ℕ) (bench : Workbench) (from : ℕ) (keep : List Keep) (kept : List KeptLine) (accepted : Accepted) (count : ℕ) → IsWay start lines bytes place bench [] from keep kept accepted count → drop from bytes ≡ end_text (length lines) → IsProvedKeeping start lines bytes keep accepted kept
way_ends start lines bytes place bench from keep kept accepted count way text =
    subst (λ (ks : List KeptLine). IsProvedKeeping start lines bytes keep accepted ks) (append-nil kept)
    (subst (λ (a : Accepted). IsProvedKeeping start lines bytes keep a (kept ++ [])) (same_accepted (record { answers = accepted.answers + 0; wide = accepted.wide + 0 }) accepted (omega arith) (omega arith)) (way.completes (record { answers = 0; wide = 0 }) (no_rest start way.before (length lines) (drop from bytes) text)))

pub way_ends_badly : (start : Workbench) (lines : List Line) (bytes : List ℕ) (place : ℕ) (bench : Workbench) (from : ℕ) {keep : List Keep} {kept : List KeptLine} (accepted : Accepted) (count : ℕ) (rejection : Rejection) → IsWay start lines bytes place bench [] from keep kept accepted count → rejection.block ≡ count + 1 → RejectsEnd bench.table bytes from count rejection.reason → IsRejectedFrom start bytes rejection [] lines place
way_ends_badly start lines bytes place bench from accepted count rejection way number rejects =
    let c = way.counted in
    let held : RejectsEnd start.table bytes from (length way.before) rejection.reason = subst (λ (t : DecisionTable). RejectsEnd t bytes from (length way.before) rejection.reason) way.after.table (subst (λ (n : ℕ). RejectsEnd bench.table bytes from n rejection.reason) (sym c) rejects) in
    way.rejects rejection (at_end way.before from (omega arith) held)

-- ---- what is rejected is not proved

pub end_read : (bytes : List ℕ) (from n : ℕ) → n < 2 ^ 32 → drop from bytes ≡ end_text n → end_at (cursor_at bytes from) ≡ Ok n
end_read bytes from n small text = ap (λ (r : List ℕ). end_at (record { place = from; rest = r })) text ∙ end_reads_back from n small

-- the block that a rest begins with is the one that is read
first_read : (start : Workbench) (before : List (Line × Block)) (line : Line) (lines : List Line) (total : ℕ) (bytes : List ℕ) (from : ℕ) → IsTable start.table → (first : HasFirst start before line lines total (drop from bytes)) → block_at start.table (cursor_at bytes from) ≡ Ok (first.block, record { place = from + length (block_text start.table first.block); rest = first.after })
first_read start before line lines total bytes from table first =
    let after : Cursor = record { place = from + length (block_text start.table first.block); rest = first.after } in
    (is_read_iff_text start.table (cursor_at bytes from) first.block after table).1 (record { text = first.text; place = refl; printable = first.printable; ended = first.ended })

pub one_read : {A F : Type 0} (r : Result A F) (p q : A) → r ≡ Ok p → r ≡ Ok q → q ≡ p
one_read r p q e f = (let both = sym e ∙ f in cc)

next_not_first : (start : Workbench) (before : List (Line × Block)) (line : Line) (lines : List Line) (total : ℕ) (bytes : List ℕ) (from : ℕ) (reason : Reason) → IsTable start.table → HasFirst start before line lines total (drop from bytes) → RejectsNext start.table (revisions_then start before line.desk) line bytes from reason → ⊥
next_not_first start before line lines total bytes from reason table first (end_misread fault begins read is) = no_block_at_end start.table first.block (drop from bytes) first.after begins first.text
next_not_first start before line lines total bytes from reason table first (ends_early n begins read is) = no_block_at_end start.table first.block (drop from bytes) first.after begins first.text
next_not_first start before line lines total bytes from reason table first (block_misread fault no_end read is) =
    absurd (let both = sym read ∙ first_read start before line lines total bytes from table first in cc)
next_not_first start before line lines total bytes from reason table first (refused b after fault no_end read fails is) =
    let same = one_read (block_at start.table (cursor_at bytes from)) (b, cursor_at bytes after) (first.block, record { place = from + length (block_text start.table first.block); rest = first.after }) read (first_read start before line lines total bytes from table first) in
    let block : first.block ≡ b = ap (λ (p : Block × Cursor). p.0) same in
    block_passes start.table (revisions_then start before line.desk) line b fault (subst (IsProvedBlock start.table (revisions_then start before line.desk) line) block first.proved) fails.fails

end_not_last : (t : DecisionTable) (bytes : List ℕ) (from count : ℕ) (reason : Reason) → count < 2 ^ 32 → drop from bytes ≡ end_text count → RejectsEnd t bytes from count reason → ⊥
end_not_last t bytes from count reason small text (end_misread fault begins read is) = absurd (let both = sym read ∙ end_read bytes from count small text in cc)
end_not_last t bytes from count reason small text (miscounted n begins read other is) = other (let both = sym read ∙ end_read bytes from count small text in cc)
end_not_last t bytes from count reason small text (block_misread fault no_end read is) = absurd (let both = sym no_end ∙ end_begins_end (drop from bytes) count text in cc)
end_not_last t bytes from count reason small text (one_too_many b after no_end read is) = absurd (let both = sym no_end ∙ end_begins_end (drop from bytes) count text in cc)

from_not_rest : (start : Workbench) (bytes : List ℕ) (rejection : Rejection) (total : ℕ) → IsTable start.table → total < 2 ^ 32 → (before : List (Line × Block)) (lines : List Line) (from : ℕ) → IsRejectedFrom start bytes rejection before lines from → total ≡ length before + length lines → (x : Accepted) → IsRest start before lines total (drop from bytes) x → ⊥
from_not_rest start bytes rejection total table small _ _ _ (at_line before line lines from number rejects) counted x rest =
    next_not_first start before line lines total bytes from rejection.reason table (first_of_rest start before line lines total (drop from bytes) x rest) rejects
from_not_rest start bytes rejection total table small _ _ _ (at_end before from number rejects) counted x rest =
    let same : total ≡ length before = omega (arith, counted) in
    end_not_last start.table bytes from (length before) rejection.reason (omega arith) (last_of_rest start before total (drop from bytes) x rest ∙ ap end_text same) rejects
from_not_rest start bytes rejection total table small _ _ _ (later before line lines from b after no_end read proved more) counted x rest =
    let first = first_of_rest start before line lines total (drop from bytes) x rest in
    let same = one_read (block_at start.table (cursor_at bytes from)) (b, cursor_at bytes after) (first.block, record { place = from + length (block_text start.table first.block); rest = first.after }) read (first_read start before line lines total bytes from table first) in
    let block : first.block ≡ b = ap (λ (p : Block × Cursor). p.0) same in
    let left : first.after ≡ drop after bytes = ap (λ (p : Block × Cursor). p.1.rest) same in
    let rest_here : IsRest start (before ++ (line, b) ∷ []) lines total (drop after bytes) first.accepted = subst (λ (l : List ℕ). IsRest start (before ++ (line, b) ∷ []) lines total l first.accepted) left (subst (λ (y : Block). IsRest start (before ++ (line, y) ∷ []) lines total first.after first.accepted) block first.rest) in
    from_not_rest start bytes rejection total table small (before ++ (line, b) ∷ []) lines after more (omega (arith, counted, length-append before ((line, b) ∷ []))) first.accepted rest_here

pub rejected_not_proved : RejectedIsNotProved
rejected_not_proved bench lines bytes rejection accepted table short (not_utf8 none is) report = none (proved_is_utf8 bench lines bytes accepted table short report)
rejected_not_proved bench lines bytes rejection accepted table short (no_header text none is) report =
    let back = header_reads_back (flat_map (block_text bench.table) report.blocks ++ end_text (length report.blocks)) in
    absurd (let both = sym none ∙ ap header_at report.text ∙ back in cc)
rejected_not_proved bench lines bytes rejection accepted table short (in_blocks text place header from) report =
    let is = header_is_text bytes place header in
    let count = as_many (IsProvedBlock bench.table) bench [] lines report.blocks report.proved in
    let few = few_blocks bench lines bytes accepted short report in
    let rest : IsRest bench [] lines (length lines) (drop place bytes) accepted = record {
      blocks = report.blocks;
      text = append_cancel_left header_text (drop place bytes) (flat_map (block_text bench.table) report.blocks ++ end_text (length report.blocks)) (sym is.1 ∙ report.text) ∙ ap (λ k. flat_map (block_text bench.table) report.blocks ++ end_text k) (sym count);
      printable = report.printable;
      proved = report.proved;
      counted = report.counted;
    } in
    from_not_rest bench bytes rejection (length lines) table (omega arith) [] lines place from (omega arith) accepted rest

-- the desk of a line at a place
pub desk_at : (desks : ℕ) (lines : List Line) (i : ℕ) (line : Line) → AllByRecursion (NamesADesk desks) lines → i < length lines → line ≡ get_or lines i line → NamesADesk desks line
desk_at desks [] i line named within is = absurd (omega arith)
desk_at desks (x ∷ xs) zero line named within is = subst (NamesADesk desks) (sym is) named.0
desk_at desks (x ∷ xs) (suc i) line named within is = desk_at desks xs i line named.1 (omega arith) is

-- one line fewer is left
pub one_fewer : (lines : List Line) (i : ℕ) → i < length lines → length (drop i lines) ≡ 1 + length (drop (i + 1) lines)
one_fewer lines i within = rw (length-drop i lines, length-drop (i + 1) lines) (omega arith)

-- the next of the lines that are left
pub way_at : (start : Workbench) (lines : List Line) (bytes : List ℕ) (bench : Workbench) (i : ℕ) (line : Line) (place from : ℕ) (keep : List Keep) (kept : List KeptLine) (accepted : Accepted) (count : ℕ) → i < length lines → line ≡ get_or lines i line
    → IsWay start lines bytes place bench (drop i lines) from keep kept accepted count → IsWay start lines bytes place bench (line ∷ drop (i + 1) lines) from keep kept accepted count
way_at start lines bytes bench i line place from keep kept accepted count within is way =
    let e : drop i lines ≡ line ∷ drop (i + 1) lines = rw add-one (drop-cons lines i line within ∙ ap (λ (x : Line). x ∷ drop (suc i) lines) (sym is)) in
    subst (λ (left : List Line). IsWay start lines bytes place bench left from keep kept accepted count) e way

-- none of the lines is left
pub way_over : (start : Workbench) (lines : List Line) (bytes : List ℕ) (bench : Workbench) (i place from : ℕ) (keep : List Keep) (kept : List KeptLine) (accepted : Accepted) (count : ℕ) → length lines ≤ i → IsWay start lines bytes place bench (drop i lines) from keep kept accepted count → IsWay start lines bytes place bench [] from keep kept accepted count
way_over start lines bytes bench i place from keep kept accepted count past way =
    subst (λ (left : List Line). IsWay start lines bytes place bench left from keep kept accepted count) (drop_all i lines past) way

-- ---- the errors of a check

pub rejects_by : (P Q : Rejection → Type 0) (e : ReportError) → ((rejection : Rejection) → P rejection → Q rejection) → IfRejected P e → IfRejected Q e
rejects_by P Q (errors.Rejected rejection) by h = by rejection h
rejects_by P Q errors.Memory by h = tt

abbrev pub AtBlock : ℕ → (Reason → Type 0) → Rejection → Type 0
AtBlock block P rejection = (rejection.block ≡ block) × P rejection.reason

pub early_rejects : (t : DecisionTable) (r : Revisions) (line : Line) (bytes : List ℕ) (from block : ℕ) (e : ReportError) → begins_end (drop from bytes) ≡ true → IfRejected (AtBlock block (IsEarlyEnd bytes from)) e → IfRejected (AtBlock block (RejectsNext t r line bytes from)) e
early_rejects t r line bytes from block e begins h = rejects_by (AtBlock block (IsEarlyEnd bytes from)) (AtBlock block (RejectsNext t r line bytes from)) e (λ rejection k. (k.0, by rejection.reason k.1)) h
  where
    by : (reason : Reason) → IsEarlyEnd bytes from reason → RejectsNext t r line bytes from reason
    by reason (inl ends) = ends_early ends.0 begins ends.1 ends.2
    by reason (inr misread) = end_misread misread.0 begins misread.1 misread.2

pub late_rejects : (t : DecisionTable) (bytes : List ℕ) (from block count : ℕ) (e : ReportError) → begins_end (drop from bytes) ≡ false → IfRejected (AtBlock block (IsLateBlock t bytes from)) e → IfRejected (AtBlock block (RejectsEnd t bytes from count)) e
late_rejects t bytes from block count e no_end h = rejects_by (AtBlock block (IsLateBlock t bytes from)) (AtBlock block (RejectsEnd t bytes from count)) e (λ rejection k. (k.0, by rejection.reason k.1)) h
  where
    by : (reason : Reason) → IsLateBlock t bytes from reason → RejectsEnd t bytes from count reason
    by reason (inl many) = one_too_many many.0 many.1 no_end many.2 many.3
    by reason (inr misread) = block_misread misread.0 no_end misread.1 misread.2

pub refused_rejects : (t u : DecisionTable) (r : Revisions) (line : Line) (bytes : List ℕ) (from block after : ℕ) (found : Block) (fault : BlockFault) → u ≡ t → begins_end (drop from bytes) ≡ false → block_at u (cursor_at bytes from) ≡ Ok (found, cursor_at bytes after) → IsRefusedBy (FailsBlock t r line found) IsEarlierBlockFault blocks.Memory fault
    → IfRejected (AtBlock block (RejectsNext t r line bytes from)) (refused_block_error block fault)
refused_rejects t u r line bytes from block after found blocks.WrongBlock same no_end read first = (refl, refused found after blocks.WrongBlock no_end (ap (λ (v : DecisionTable). block_at v (cursor_at bytes from)) (sym same) ∙ read) (first (λ e. cc)) refl)
refused_rejects t u r line bytes from block after found (blocks.Answer k fault) same no_end read first = (refl, refused found after (blocks.Answer k fault) no_end (ap (λ (v : DecisionTable). block_at v (cursor_at bytes from)) (sym same) ∙ read) (first (λ e. cc)) refl)
refused_rejects t u r line bytes from block after found (blocks.Repair fault) same no_end read first = (refl, refused found after (blocks.Repair fault) no_end (ap (λ (v : DecisionTable). block_at v (cursor_at bytes from)) (sym same) ∙ read) (first (λ e. cc)) refl)
refused_rejects t u r line bytes from block after found blocks.Memory same no_end read first = tt

pub misread_rejects : (t u : DecisionTable) (r : Revisions) (line : Line) (bytes : List ℕ) (from block : ℕ) (fault : ProofFault) → u ≡ t → begins_end (drop from bytes) ≡ false → IfSome (proof_fault fault) (λ f. block_at u (cursor_at bytes from) ≡ Err f) → IfRejected (AtBlock block (RejectsNext t r line bytes from)) (misread_error bytes block fault)
misread_rejects t u r line bytes from block (forms.BadLine at) same no_end bad = (refl, block_misread (forms.BadLine at) no_end (ap (λ (v : DecisionTable). block_at v (cursor_at bytes from)) (sym same) ∙ bad) refl)
misread_rejects t u r line bytes from block (forms.BadNumber at) same no_end bad = (refl, block_misread (forms.BadNumber at) no_end (ap (λ (v : DecisionTable). block_at v (cursor_at bytes from)) (sym same) ∙ bad) refl)
misread_rejects t u r line bytes from block forms.Memory same no_end bad = tt

pub end_rejects : (t : DecisionTable) (bytes : List ℕ) (from block count : ℕ) (fault : ProofFault) → begins_end (drop from bytes) ≡ true → IfSome (proof_fault fault) (λ f. end_at (cursor_at bytes from) ≡ Err f) → IfRejected (AtBlock block (RejectsEnd t bytes from count)) (misread_error bytes block fault)
end_rejects t bytes from block count (forms.BadLine at) begins bad = (refl, end_misread (forms.BadLine at) begins bad refl)
end_rejects t bytes from block count (forms.BadNumber at) begins bad = (refl, end_misread (forms.BadNumber at) begins bad refl)
end_rejects t bytes from block count forms.Memory begins bad = tt

pub last_read : (bytes : List ℕ) (from n : ℕ) → end_at (cursor_at bytes from) ≡ Ok n → drop from bytes ≡ end_text n
last_read bytes from n read = (end_is_text (cursor_at bytes from) n read).0

pub rejected_blocks : (bench : Workbench) (lines : List Line) (bytes : List ℕ) (place : ℕ) {X : Type 0} (result : Result X ReportError) → IsUtf8 bytes → header_at bytes ≡ Some place → IfErr result (IfRejected (λ rejection. IsRejectedFrom bench bytes rejection [] lines place)) → IfErr result (IfRejected (IsRejectedFor bench lines bytes))
rejected_blocks bench lines bytes place (Ok x) text header h = tt
rejected_blocks bench lines bytes place (Err e) text header h = rejects_by (λ rejection. IsRejectedFrom bench bytes rejection [] lines place) (IsRejectedFor bench lines bytes) e (λ rejection from. in_blocks text place header from) h

pub none_proved_where : (bench : Workbench) (lines : List Line) (bytes : List ℕ) {X : Type 0} (result : Result X ReportError) → IsTable bench.table → length bytes ≤ MOST_REPORT_BYTES → IfErr result (IfRejected (IsRejectedFor bench lines bytes)) → IfErr result (λ e. e ≢ errors.Memory → (x : Accepted) → IsProvedReport bench lines bytes x → ⊥)
none_proved_where bench lines bytes (Ok x) table short h = tt
none_proved_where bench lines bytes (Err (errors.Rejected rejection)) table short h = λ ne x report. rejected_not_proved bench lines bytes rejection x table short h report
none_proved_where bench lines bytes (Err errors.Memory) table short h = λ ne. absurd (ne refl)
