-- The pairs that are listed: on which judges differ, and of which one judge alone concludes something.
use Rattle.std.proofs.Common.{◌≡◌, ◌≢◌, ℕ, zero, suc, ◌+◌, ◌<◌, ◌≤◌, Bool, true, false, not, ◌&&◌, ◌||◌, List, [], ◌∷◌, length, Some, refl, sym, ap, subst, ◌∙◌, arith, cond}
use Rattle.std.proofs.lemmas.Int.{ints}
use Rattle.std.specs.Prelude.{◌==◌, ◌≤ℤ◌, ◌<ℤ◌, nat_lt, slice_get, count_by, Contains, if◌then◌else◌}
use Rattle.std.proofs.lemmas.Bool.{eqb-true, ltb-true, lt-ltb}
use Rattle.std.proofs.lemmas.List.Sums.{sum_by-cons}
use Rattle.ror_statement.specs.declared.statement.Statement.{Statement}
use Rattle.ror_table.specs.Table.{DecisionTable}
use Rattle.ror_value.specs.Value.{value}
use Rattle.ror_show_ground.proofs.Tests.{both-true, not-true, nothing-in, only-in, one-in, in-pieces, InPiece, of-pieces}
use Rattle.ror_show_find_relation.specs.declared.cell.Cell.{Cell}
use Rattle.ror_show_find_relation.specs.declared.cell.Cell.TheVariants as cell
use Rattle.ror_show_find_relation.specs.Cells.{is_over_another}
use Rattle.ror_show_find_relation.specs.Meaning.{Says}
use Rattle.ror_show_find_group.specs.declared.judge.JudgeFound.{JudgeFound}
use Rattle.ror_show_find_group.specs.declared.votes.Mark.TheVariants as marks
use Rattle.ror_show_find_group.specs.declared.cell.GroupCell.{GroupCell}
use Rattle.ror_show_find_group.specs.declared.cell.GroupCell.TheVariants as cells
use Rattle.ror_show_find_group.specs.declared.page.GroupFound.{GroupFound}
use Rattle.ror_show_find_group.specs.Grounds.{GroupGround, IsJudgedGroup}
use Rattle.ror_show_find_group.specs.Judges.{cell_of_judge}
use Rattle.ror_show_find_group.specs.Votes.{has, is_unsaid, some_vote, count_votes, heard_count}
use Rattle.ror_show_find_group.specs.Cells.{group_cell_in}
use Rattle.ror_show_find_group.specs.Pairs.{is_differ, differing_pair, differing_from, differing_pairs, concludes, is_of_one, is_alone, alone_pair, alone_from, alone_of}
use Rattle.ror_show_find_group.specs.Findings.{IsGroupFound}
use Rattle.ror_show_find_group.specs.Meaning.{HasOver}
use Rattle.ror_show_find_group.specs.Laws.{IsJudge, DifferingAreThose, IsAlone}
use Rattle.ror_show_find_group.proofs.JudgeLemmas.{judge_true}
use Rattle.ror_show_find_group.proofs.CellLemmas.{over}

-- ---- on which judges differ

differ-is : (c : GroupCell) → is_differ c ≡ true → c ≡ cells.Differ
differ-is cells.Itself is = absurd cc
differ-is cells.AlwaysBetter is = absurd cc
differ-is cells.AtLeastAsGood is = absurd cc
differ-is cells.AlwaysEqual is = absurd cc
differ-is cells.Open is = absurd cc
differ-is cells.AtMostAsGood is = absurd cc
differ-is cells.NeverAsGood is = absurd cc
differ-is cells.SomeOver is = absurd cc
differ-is cells.SomeUnder is = absurd cc
differ-is cells.BothWays is = absurd cc
differ-is cells.Differ is = refl
differ-is cells.Unknown is = absurd cc

-- a pair that a test puts in a list
record IsPut (test : Bool) (p q : ℕ × ℕ) : Type 0 where
  passes : test ≡ true
  same : p ≡ q

of_test : (test : Bool) (p q : ℕ × ℕ) → Contains {X = ℕ × ℕ} (if test then p ∷ [] else []) q → IsPut test p q
of_test true p q there = record { passes = refl; same = only-in q p there }
of_test false p q there = absurd (nothing-in q there)

pub differing_those : DifferingAreThose
differing_those g found a b is = (λ there. listed (subst (λ (ps : List (ℕ × ℕ)). Contains {X = ℕ × ℕ} ps (a, b)) is.differing there), λ are. subst (λ (ps : List (ℕ × ℕ)). Contains {X = ℕ × ℕ} ps (a, b)) (sym is.differing) (put are.0 are.1 are.2))
  where
    listed : Contains {X = ℕ × ℕ} (differing_pairs found.rows (length g.table.alternatives)) (a, b) → (a < b) × (b < length g.table.alternatives) × (group_cell_in found.rows a b ≡ cells.Differ)
    listed there =
        let n = length g.table.alternatives in
        let from : InPiece (differing_from found.rows n) 0 n (a, b) = of-pieces (differing_from found.rows n) 0 n (a, b) there in
        let to : InPiece (differing_pair found.rows from.at) 0 n (a, b) = of-pieces (differing_pair found.rows from.at) 0 n (a, b) from.there in
        let at = of_test (nat_lt from.at to.at && is_differ (group_cell_in found.rows from.at to.at)) (from.at, to.at) (a, b) to.there in
        let parts = both-true (nat_lt from.at to.at) (is_differ (group_cell_in found.rows from.at to.at)) at.passes in
        let first : from.at ≡ a = ap (λ (p : ℕ × ℕ). p.0) at.same in
        let second : to.at ≡ b = ap (λ (p : ℕ × ℕ). p.1) at.same in
        let less = ltb-true from.at to.at parts.0 in
        let cell = differ-is (group_cell_in found.rows from.at to.at) parts.1 in
        (omega (arith, less, first, second), (let most = to.most in omega (arith, most, second)), ap (λ (x : ℕ). group_cell_in found.rows x b) (sym first) ∙ ap (λ (y : ℕ). group_cell_in found.rows from.at y) (sym second) ∙ cell)

    put : a < b → b < length g.table.alternatives → group_cell_in found.rows a b ≡ cells.Differ → Contains {X = ℕ × ℕ} (differing_pairs found.rows (length g.table.alternatives)) (a, b)
    put less within cell =
        let n = length g.table.alternatives in
        let before = lt-ltb a b less in
        let here : Contains {X = ℕ × ℕ} (differing_pair found.rows a b) (a, b) = rw (before, cell) (one-in (a, b)) in
        in-pieces (differing_from found.rows n) 0 n a (a, b) (omega arith) (omega (arith, less, within)) (in-pieces (differing_pair found.rows a) 0 n b (a, b) (omega arith) (omega (arith, within)) here)

-- ---- of one judge alone

-- a cell that says something and has not the first at least as good says that it isn't
not-over : (t : DecisionTable) (a b : ℕ) (l : List Statement) (c : Cell) → is_unsaid c ≡ false → is_over_another c ≡ false → Says t l c a b → HasOver t a b l → ⊥
not-over t a b l cell.Itself said none says is = absurd cc
not-over t a b l cell.AlwaysBetter said none says is = absurd cc
not-over t a b l cell.AtLeastAsGood said none says is = absurd cc
not-over t a b l cell.AlwaysEqual said none says is = absurd cc
not-over t a b l cell.Open said none says is = says.not_over is.at_least
not-over t a b l cell.AtMostAsGood said none says is =
    says.no_tie (λ w compatible. (let most : value t w b ≤ℤ value t w a = is.at_least w compatible in let least : value t w a ≤ℤ value t w b = says.at_least w compatible in omega (arith, ints)))
not-over t a b l cell.NeverAsGood said none says is =
    let more : value t says.consistent.0 a <ℤ value t says.consistent.0 b = says.more says.consistent.0 says.consistent.1 in
    let least : value t says.consistent.0 b ≤ℤ value t says.consistent.0 a = is.at_least says.consistent.0 says.consistent.1 in
    omega (arith, ints)
not-over t a b l cell.Contradiction said none says is = absurd cc
not-over t a b l cell.Unknown said none says is = absurd cc

-- where one of a list passes a test, and it passes at one place, it doesn't at another
once_in : (f : JudgeFound → Bool) (js : List JudgeFound) (i k : ℕ) (x y : JudgeFound) → count_by f js ≤ 1 → slice_get js i ≡ Some x → slice_get js k ≡ Some y → i ≢ k → f x ≡ true → f y ≡ false
once_in f [] i k x y few there here other passes = absurd cc
once_in f (j ∷ js) zero zero x y few there here other passes = absurd (other refl)
once_in f (j ∷ js) zero (suc k) x y few there here other passes =
    let same : j ≡ x = cc in
    let first : f j ≡ true = ap f same ∙ passes in
    let count : count_by f (j ∷ js) ≡ 1 + count_by f js = sum_by-cons (λ z. cond (f z) 1 0) j js ∙ ap (λ (b : Bool). cond b 1 0 + count_by f js) first in
    none_in f js k y (omega (arith, few, count)) here
  where
    none_in : (f : JudgeFound → Bool) (js : List JudgeFound) (k : ℕ) (y : JudgeFound) → count_by f js ≤ 0 → slice_get js k ≡ Some y → f y ≡ false
    none_in f [] k y none here = absurd cc
    none_in f (j ∷ js) zero y none here = by (f y) refl
      where
        by : (b : Bool) → f y ≡ b → f y ≡ false
        by false is = is
        by true is =
            let same : j ≡ y = cc in
            let count : count_by f (j ∷ js) ≡ 1 + count_by f js = sum_by-cons (λ z. cond (f z) 1 0) j js ∙ ap (λ (b : Bool). cond b 1 0 + count_by f js) (ap f same ∙ is) in
            absurd (omega (arith, none, count))
    none_in f (j ∷ js) (suc k) y none here =
        let count = sum_by-cons (λ z. cond (f z) 1 0) j js in
        none_in f js k y (omega (arith, none, count)) here
once_in f (j ∷ js) (suc i) zero x y few there here other passes = by (f y) refl
  where
    some_in : (f : JudgeFound → Bool) (js : List JudgeFound) (i : ℕ) (x : JudgeFound) → slice_get js i ≡ Some x → f x ≡ true → 0 < count_by f js
    some_in f [] i x there passes = absurd cc
    some_in f (j ∷ js) zero x there passes =
        let same : j ≡ x = cc in
        let count : count_by f (j ∷ js) ≡ 1 + count_by f js = sum_by-cons (λ z. cond (f z) 1 0) j js ∙ ap (λ (b : Bool). cond b 1 0 + count_by f js) (ap f same ∙ passes) in
        omega (arith, count)
    some_in f (j ∷ js) (suc i) x there passes =
        let count = sum_by-cons (λ z. cond (f z) 1 0) j js in
        let later = some_in f js i x there passes in
        omega (arith, count, later)

    by : (b : Bool) → f y ≡ b → f y ≡ false
    by false is = is
    by true is =
        let same : j ≡ y = cc in
        let count : count_by f (j ∷ js) ≡ 1 + count_by f js = sum_by-cons (λ z. cond (f z) 1 0) j js ∙ ap (λ (b : Bool). cond b 1 0 + count_by f js) (ap f same ∙ is) in
        let later = some_in f js i x there passes in
        absurd (omega (arith, few, count, later))
once_in f (j ∷ js) (suc i) (suc k) x y few there here other passes =
    let count = sum_by-cons (λ z. cond (f z) 1 0) j js in
    once_in f js i k x y (omega (arith, few, count)) there here (λ same. other (ap suc same)) passes

-- and where none does
none_unsaid : (js : List JudgeFound) (a b i : ℕ) (j : JudgeFound) → some_vote marks.Unsaid js a b ≡ false → slice_get js i ≡ Some j → j.contradicts ≡ false → is_unsaid (cell_of_judge j a b) ≡ false
none_unsaid [] a b i j none there heard = absurd cc
none_unsaid (k ∷ js) a b zero j none there heard =
    let same : k ≡ j = cc in
    let first : (not j.contradicts && is_unsaid (cell_of_judge j a b)) ≡ false = subst (λ (x : JudgeFound). (not x.contradicts && is_unsaid (cell_of_judge x a b)) ≡ false) same (front (not k.contradicts && is_unsaid (cell_of_judge k a b)) (some_vote marks.Unsaid js a b) none).0 in
    ap (λ (r : Bool). not r && is_unsaid (cell_of_judge j a b)) (sym heard) ∙ first
  where
    front : (p q : Bool) → (p || q) ≡ false → (p ≡ false) × (q ≡ false)
    front true q is = absurd cc
    front false q is = (refl, is)
none_unsaid (k ∷ js) a b (suc i) j none there heard = none_unsaid js a b i j (back (not k.contradicts && is_unsaid (cell_of_judge k a b)) (some_vote marks.Unsaid js a b) none) there heard
  where
    back : (p q : Bool) → (p || q) ≡ false → q ≡ false
    back true q is = absurd cc
    back false q is = is

-- what a list of a judge's pairs says of one in it
record IsListed (js : List JudgeFound) (judge : JudgeFound) (n a b : ℕ) : Type 0 where
  row : a < n
  column : b < n
  test : is_alone js judge a b ≡ true

of_list : (js : List JudgeFound) (judge : JudgeFound) (n a b : ℕ) → Contains {X = ℕ × ℕ} (alone_of js n judge) (a, b) → IsListed js judge n a b
of_list js judge n a b there =
    let from : InPiece (alone_from js n judge) 0 n (a, b) = of-pieces (alone_from js n judge) 0 n (a, b) there in
    let to : InPiece (alone_pair js judge from.at) 0 n (a, b) = of-pieces (alone_pair js judge from.at) 0 n (a, b) from.there in
    let at = of_test (is_alone js judge from.at to.at) (from.at, to.at) (a, b) to.there in
    let first : from.at ≡ a = ap (λ (p : ℕ × ℕ). p.0) at.same in
    let second : to.at ≡ b = ap (λ (p : ℕ × ℕ). p.1) at.same in
    record {
      row = (let most = from.most in omega (arith, most, first));
      column = (let most = to.most in omega (arith, most, second));
      test = ap (λ (x : ℕ). is_alone js judge x b) (sym first) ∙ ap (λ (y : ℕ). is_alone js judge from.at y) (sym second) ∙ at.passes;
    }

pub alone_true : (g : GroupGround) (found : GroupFound) (place : ℕ) (judge : JudgeFound) (list : List Statement) (a b : ℕ) → IsJudgedGroup g → IsGroupFound g found → IsJudge g found place judge list → Contains {X = ℕ × ℕ} (alone_of found.judges (length g.table.alternatives) judge) (a, b) → IsAlone g found place list a b
alone_true g found place judge list a b judged is at there =
    let js = found.judges in
    let listed = of_list js judge (length g.table.alternatives) a b there in
    let parts = both-true (concludes judge a b) (is_of_one js a b) listed.test in
    let mine = both-true (not judge.contradicts) (is_over_another (cell_of_judge judge a b)) parts.0 in
    record {
      concludes = over g.table a b list (cell_of_judge judge a b) mine.1 (judge_true g found place judge list a b judged is at listed.row listed.column);
      others = λ k other theirs apart here hears is_over. others k other theirs apart here hears listed.row listed.column parts.0 parts.1 is_over;
    }
  where
    others : (k : ℕ) (other : JudgeFound) (theirs : List Statement) → k ≢ place → IsJudge g found k other theirs → other.contradicts ≡ false → a < length g.table.alternatives → b < length g.table.alternatives → concludes judge a b ≡ true → is_of_one found.judges a b ≡ true → HasOver g.table a b theirs → ⊥
    others k other theirs apart here hears row column mine one is_over =
        let js = found.judges in
        let parts = both-true (nat_lt 1 (heard_count js) && (count_votes marks.Over js a b == 1)) (not (some_vote marks.Unsaid js a b)) one in
        let first = both-true (nat_lt 1 (heard_count js)) (count_votes marks.Over js a b == 1) parts.0 in
        let count = eqb-true (count_votes marks.Over js a b) 1 first.1 in
        let silent = not-true (some_vote marks.Unsaid js a b) parts.1 in
        let none : (not other.contradicts && is_over_another (cell_of_judge other a b)) ≡ false = once_in (λ j. not j.contradicts && has marks.Over (cell_of_judge j a b)) js place k judge other (omega (arith, count)) at.judge_there here.judge_there (λ same. apart (sym same)) mine in
        let not_over : is_over_another (cell_of_judge other a b) ≡ false = ap (λ (r : Bool). not r && is_over_another (cell_of_judge other a b)) (sym hears) ∙ none in
        not-over g.table a b theirs (cell_of_judge other a b) (none_unsaid js a b k other silent here.judge_there hears) not_over (judge_true g found k other theirs a b judged is here row column) is_over
