-- Each cell of a judge is true of what stands at the judge's desk.
use Rattle.std.proofs.Common.{◌≡◌, ℕ, zero, suc, ◌+◌, ◌*◌, ◌<◌, ◌≤◌, ◌⊎◌, Bool, true, false, List, [], ◌∷◌, length, map, get_or, Option, Some, None, refl, sym, ap, subst, ◌∙◌, arith, inl, inr}
use Rattle.std.specs.Prelude.{◌==◌, nat_lt, slice_get, if◌then◌else◌}
use Rattle.std.specs.List.{range_with_len}
use Rattle.std.specs.Option.{option_map_or}
use Rattle.std.proofs.lemmas.Bool.{eqb-true, ltb-true}
use Rattle.std.proofs.lemmas.List.FromFn.{get_or-map-range_with_len}
use Rattle.ror_text.proofs.Everywhere.{all_at}
use Rattle.ror_statement.specs.declared.statement.Statement.{Statement}
use Rattle.ror_statement.specs.declared.question.Question.{Question}
use Rattle.ror_statement.specs.declared.question.Question.TheVariants.{Necessary, Possible}
use Rattle.ror_table.specs.Table.{DecisionTable}
use Rattle.ror_value.specs.Meaning.{IsContradictory}
use Rattle.ror_value.specs.Over.{IsLawfulIn, IsAskedIn}
use Rattle.ror_proof.specs.declared.answer.Answer.{Answer}
use Rattle.ror_check.proofs.ManyAnswers.{wide_or_true}
use Rattle.ror_group.specs.declared.entry.Entry.{Entry}
use Rattle.ror_group.specs.Combining.{Asked, asked_on, InStep}
use Rattle.ror_group.specs.Proof.{IsWideOrProvedFor}
use Rattle.ror_show_ground.proofs.Tests.{less_or}
use Rattle.ror_show_ground.specs.Said.{said_by}
use Rattle.ror_show_find_relation.specs.declared.cell.Cell.{Cell}
use Rattle.ror_show_find_relation.specs.declared.cell.Cell.TheVariants as cells
use Rattle.ror_show_find_relation.specs.Said.{necessary_by, possible_by, place_of_pair}
use Rattle.ror_show_find_relation.specs.Cells.{sign, cell_of}
use Rattle.ror_show_find_relation.specs.Relations.{count_below}
use Rattle.ror_show_find_relation.specs.Rows.{cell_in, is_like, pairs_like, contradictory_pairs}
use Rattle.ror_show_find_relation.specs.Meaning.{Says}
use Rattle.ror_show_find_relation.proofs.SaidLemmas.{IsTrueSaid, verdict_true, if_necessary-true, if_possible-true}
use Rattle.ror_show_find_relation.proofs.CellLemmas.{cell_of-true}
use Rattle.ror_show_find_group.specs.declared.judge.JudgeFound.{JudgeFound}
use Rattle.ror_show_find_group.specs.declared.page.GroupFound.{GroupFound}
use Rattle.ror_show_find_group.specs.Grounds.{GroupGround, IsProvedIn, IsJudgedGroup}
use Rattle.ror_show_find_group.specs.Judges.{answers_at, said_of_judge, judge_cell, judge_row, judge_rows, judge_at, judges_of, cell_of_judge}
use Rattle.ror_show_find_group.specs.Findings.{IsGroupFound}
use Rattle.ror_show_find_group.specs.Laws.{IsJudge}

-- ---- what is asked of the judge at a place

pub asked_pair : (a b : ℕ) (lists : List (List Statement)) (j : ℕ) (list : List Statement) → slice_get lists j ≡ Some list → (slice_get (asked_on a b lists) (2 * j) ≡ Some (record { list = list; question = Necessary a b })) × (slice_get (asked_on a b lists) (2 * j + 1) ≡ Some (record { list = list; question = Possible a b }))
asked_pair a b [] j list there = absurd cc
asked_pair a b (l ∷ lists) zero list there =
    let same : l ≡ list = cc in
    (ap (λ (x : List Statement). Some (record { list = x; question = Necessary a b })) same, ap (λ (x : List Statement). Some (record { list = x; question = Possible a b })) same)
asked_pair a b (l ∷ lists) (suc j) list there =
    let all = asked_on a b (l ∷ lists) in
    let rest = asked_pair a b lists j list there in
    let here : 2 * suc j ≡ suc (suc (2 * j)) = omega arith in
    let next : 2 * suc j + 1 ≡ suc (suc (2 * j + 1)) = omega arith in
    (ap (slice_get all) here ∙ rest.0, ap (slice_get all) next ∙ rest.1)

pub in_step_at : (P : Asked → Answer → Type 0) (qs : List Asked) (xs : List Answer) (i : ℕ) (q : Asked) (x : Answer) → InStep P qs xs → slice_get qs i ≡ Some q → slice_get xs i ≡ Some x → P q x
in_step_at P [] [] i q x all asked there = absurd cc
in_step_at P [] (y ∷ xs) i q x all asked there = absurd all
in_step_at P (r ∷ qs) [] i q x all asked there = absurd all
in_step_at P (r ∷ qs) (y ∷ xs) zero q x all asked there =
    let question : r ≡ q = cc in
    let answer : y ≡ x = cc in
    subst (P q) answer (subst (λ (s : Asked). P s y) question all.0)
in_step_at P (r ∷ qs) (y ∷ xs) (suc i) q x all asked there = in_step_at P qs xs i q x all.1 asked there

-- ---- what the judge's answers say

pub record IsOf (g : GroupGround) (j : ℕ) (list : List Statement) : Type 0 where
  pub judged : IsJudgedGroup g
  pub there : slice_get g.lists j ≡ Some list

-- the answer to what was asked of the judge is true
answer_true : (g : GroupGround) (j : ℕ) (list : List Statement) (x : Entry) (k : ℕ) (q : Question) (y : Answer) → IsOf g j list → IsProvedIn g.table g.lists x → IsAskedIn g.table q → slice_get (asked_on x.first x.second g.lists) k ≡ Some (record { list = list; question = q }) → slice_get x.answers k ≡ Some y → IsTrueSaid g.table list y.question (said_by y.verdict)
answer_true g j list x k q y of is asked asked_there there =
    let t = g.table in
    let proved = in_step_at (IsWideOrProvedFor t) (asked_on x.first x.second g.lists) x.answers k (record { list = list; question = q }) y is.proved.answers asked_there there in
    let lawful = all_at (IsLawfulIn t) g.lists j list of.judged.lawful of.there in
    let truth = wide_or_true t list q y.verdict lawful asked proved.proof in
    subst (λ (r : Question). IsTrueSaid t list r (said_by y.verdict)) (sym proved.question) (verdict_true t list q y.verdict truth)

-- the entry in which an answer stands
record IsIn (entries : List Entry) (place k : ℕ) (y : Answer) : Type 0 where
  entry : Entry
  entry_there : slice_get entries place ≡ Some entry
  answer_there : slice_get entry.answers k ≡ Some y

entry_of : (entries : List Entry) (place k : ℕ) (y : Answer) → slice_get (answers_at entries place) k ≡ Some y → IsIn entries place k y
entry_of entries place k y there = by (slice_get entries place) refl there
  where
    by : (o : Option Entry) → slice_get entries place ≡ o → slice_get (option_map_or (λ x. x.answers) o []) k ≡ Some y → IsIn entries place k y
    by None is nowhere = absurd cc
    by (Some x) is at = record { entry = x; entry_there = is; answer_there = at }

-- the answer that a judge has there is true
necessary_answer : (g : GroupGround) (j : ℕ) (list : List Statement) (place : ℕ) (y : Answer) → IsOf g j list → slice_get (answers_at g.entries place) (2 * j) ≡ Some y → IsTrueSaid g.table list y.question (said_by y.verdict)
necessary_answer g j list place y of there =
    let at = entry_of g.entries place (2 * j) y there in
    let x = at.entry in
    let is = all_at (IsProvedIn g.table g.lists) g.entries place x of.judged.proved at.entry_there in
    let asked = (asked_pair x.first x.second g.lists j list of.there).0 in
    answer_true g j list x (2 * j) (Necessary x.first x.second) y of is (is.first, is.second) asked at.answer_there

possible_answer : (g : GroupGround) (j : ℕ) (list : List Statement) (place : ℕ) (y : Answer) → IsOf g j list → slice_get (answers_at g.entries place) (2 * j + 1) ≡ Some y → IsTrueSaid g.table list y.question (said_by y.verdict)
possible_answer g j list place y of there =
    let at = entry_of g.entries place (2 * j + 1) y there in
    let x = at.entry in
    let is = all_at (IsProvedIn g.table g.lists) g.entries place x of.judged.proved at.entry_there in
    let asked = (asked_pair x.first x.second g.lists j list of.there).1 in
    answer_true g j list x (2 * j + 1) (Possible x.first x.second) y of is (is.first, is.second) asked at.answer_there

by_necessary : (t : DecisionTable) (list : List Statement) (a b : ℕ) (o : Option Answer) → ((y : Answer) → o ≡ Some y → IsTrueSaid t list y.question (said_by y.verdict)) → IsTrueSaid t list (Necessary a b) (necessary_by a b o)
by_necessary t list a b None each = tt
by_necessary t list a b (Some y) each = if_necessary-true t list a b y.question (said_by y.verdict) (each y refl)

by_possible : (t : DecisionTable) (list : List Statement) (a b : ℕ) (o : Option Answer) → ((y : Answer) → o ≡ Some y → IsTrueSaid t list y.question (said_by y.verdict)) → IsTrueSaid t list (Possible a b) (possible_by a b o)
by_possible t list a b None each = tt
by_possible t list a b (Some y) each = if_possible-true t list a b y.question (said_by y.verdict) (each y refl)

module _ (g : GroupGround) (j : ℕ) (list : List Statement) (of : IsOf g j list) (n : ℕ) where
  necessary_said : (a b : ℕ) → IsTrueSaid g.table list (Necessary a b) (said_of_judge n g.entries j a b).necessary
  necessary_said a b = by_necessary g.table list a b (slice_get (answers_at g.entries (place_of_pair n a b)) (2 * j)) (λ y there. necessary_answer g j list (place_of_pair n a b) y of there)

  possible_said : (a b : ℕ) → IsTrueSaid g.table list (Possible a b) (said_of_judge n g.entries j a b).possible
  possible_said a b = by_possible g.table list a b (slice_get (answers_at g.entries (place_of_pair n a b)) (2 * j + 1)) (λ y there. possible_answer g j list (place_of_pair n a b) y of there)

  pub cell_true : (a b : ℕ) → Says g.table list (judge_cell n g.entries j a b) a b
  cell_true a b = by (a == b) refl
    where
      by : (same : Bool) → (a == b) ≡ same → Says g.table list (if same then cells.Itself else cell_of (said_of_judge n g.entries j a b) (said_of_judge n g.entries j b a)) a b
      by true is = eqb-true a b is
      by false is = cell_of-true g.table list a b (said_of_judge n g.entries j a b) (said_of_judge n g.entries j b a) (record {
        over = necessary_said a b;
        maybe = possible_said a b;
        under = necessary_said b a;
        maybe_under = possible_said b a;
      })

-- ---- where the cells stand

pub rows-at : (n : ℕ) (entries : List Entry) (j a b : ℕ) → a < n → b < n → cell_in (judge_rows n entries j) a b ≡ judge_cell n entries j a b
rows-at n entries j a b row column =
    ap (λ (r : List Cell). get_or r b cells.Unknown) (get_or-map-range_with_len (judge_row n entries j) 0 n a a [] row (omega arith))
    ∙ get_or-map-range_with_len (judge_cell n entries j a) 0 n b b cells.Unknown column (omega arith)

pub range-get : {A : Type 0} (f : ℕ → A) (first n i : ℕ) (x : A) → slice_get (map f (range_with_len first n)) i ≡ Some x → (i < n) × (x ≡ f (first + i))
range-get f first zero i x there = absurd cc
range-get f first (suc n) zero x there =
    let same : f first ≡ x = cc in
    let at : first ≡ first + 0 = omega arith in
    (omega arith, sym same ∙ ap f at)
range-get f first (suc n) (suc i) x there =
    let rest = range-get f (first + 1) n i x there in
    let at : first + 1 + i ≡ first + suc i = omega arith in
    (omega (arith, rest.0), rest.1 ∙ ap f at)

-- the judge at a place is the one of the desk there
pub judge_is : (g : GroupGround) (found : GroupFound) (place : ℕ) (judge : JudgeFound) (list : List Statement) → IsGroupFound g found → IsJudge g found place judge list → judge ≡ judge_at g place
judge_is g found place judge list is at =
    let there : slice_get (judges_of g) place ≡ Some judge = ap (λ (js : List JudgeFound). slice_get js place) (sym is.judges) ∙ at.judge_there in
    let first : 0 + place ≡ place = omega arith in
    (range-get (judge_at g) 0 (length g.lists) place judge there).1 ∙ ap (judge_at g) first

pub judge_true : (g : GroupGround) (found : GroupFound) (place : ℕ) (judge : JudgeFound) (list : List Statement) (a b : ℕ) → IsJudgedGroup g → IsGroupFound g found → IsJudge g found place judge list → a < length g.table.alternatives → b < length g.table.alternatives → Says g.table list (cell_of_judge judge a b) a b
judge_true g found place judge list a b judged is at row column =
    let n = length g.table.alternatives in
    let cell : cell_of_judge judge a b ≡ judge_cell n g.entries place a b = ap (λ (j : JudgeFound). cell_of_judge j a b) (judge_is g found place judge list is at) ∙ rows-at n g.entries place a b row column in
    subst (λ (c : Cell). Says g.table list c a b) (sym cell) (cell_true g place list (record { judged = judged; there = at.list_there }) n a b)

-- ---- who contradicts himself

pub count-found : (p : ℕ → Bool) (n : ℕ) → 0 < count_below p n → (k : ℕ) × (k < n) × (p k ≡ true)
count-found p zero some = absurd (omega (arith, some))
count-found p (suc n) some = by (p n) refl (count-found p n)
  where
    by : (b : Bool) → p n ≡ b → (0 < count_below p n → (k : ℕ) × (k < n) × (p k ≡ true)) → (k : ℕ) × (k < suc n) × (p k ≡ true)
    by true is below = (n, omega arith, is)
    by false is below =
        let before : 0 < count_below p n = (let left = rw is at some in omega (arith, left)) in
        let found = below before in
        (found.0, omega (arith, found.1), found.2)

pair-found : (c : Cell) (rows : List (List Cell)) (n : ℕ) → 0 < pairs_like c rows n → (a b : ℕ) × (a < n) × (b < a) × (is_like c rows a b ≡ true)
pair-found c rows zero some = absurd (omega (arith, some))
pair-found c rows (suc n) some = by (less_or 0 (count_below (is_like c rows n) n)) (pair-found c rows n)
  where
    by : (0 < count_below (is_like c rows n) n) ⊎ (count_below (is_like c rows n) n ≤ 0) → (0 < pairs_like c rows n → (a b : ℕ) × (a < n) × (b < a) × (is_like c rows a b ≡ true)) → (a b : ℕ) × (a < suc n) × (b < a) × (is_like c rows a b ≡ true)
    by (inl here) before = let found = count-found (is_like c rows n) n here in (n, found.0, omega arith, found.1, found.2)
    by (inr none) before =
        let found = before (omega (arith, some, none)) in
        (found.0, found.1, omega (arith, found.2), found.3, found.4)

contradiction-sign : (c : Cell) → (sign c == sign cells.Contradiction) ≡ true → c ≡ cells.Contradiction
contradiction-sign cells.Itself is = absurd cc
contradiction-sign cells.AlwaysBetter is = absurd cc
contradiction-sign cells.AtLeastAsGood is = absurd cc
contradiction-sign cells.AlwaysEqual is = absurd cc
contradiction-sign cells.Open is = absurd cc
contradiction-sign cells.AtMostAsGood is = absurd cc
contradiction-sign cells.NeverAsGood is = absurd cc
contradiction-sign cells.Contradiction is = refl
contradiction-sign cells.Unknown is = absurd cc

pub contradicts_true : (g : GroupGround) (found : GroupFound) (place : ℕ) (judge : JudgeFound) (list : List Statement) → IsJudgedGroup g → IsGroupFound g found → IsJudge g found place judge list → judge.contradicts ≡ true → IsContradictory g.table list
contradicts_true g found place judge list judged is at contradicts =
    let n = length g.table.alternatives in
    let rows = judge_rows n g.entries place in
    let same = judge_is g found place judge list is at in
    let some : nat_lt 0 (contradictory_pairs rows n) ≡ true = sym (ap (λ (j : JudgeFound). j.contradicts) same) ∙ contradicts in
    let pair = pair-found cells.Contradiction rows n (ltb-true 0 (contradictory_pairs rows n) some) in
    let a = pair.0 in
    let b = pair.1 in
    let cell = contradiction-sign (cell_in rows a b) pair.4 in
    let says = judge_true g found place judge list a b judged is at pair.2 (omega (arith, pair.2, pair.3)) in
    let there : cell_of_judge judge a b ≡ cells.Contradiction = ap (λ (j : JudgeFound). cell_of_judge j a b) same ∙ cell in
    subst (λ (c : Cell). Says g.table list c a b) there says
