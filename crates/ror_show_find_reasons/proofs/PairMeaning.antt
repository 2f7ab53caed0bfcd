-- What is found of relations and of what changed means what it says.
use Rattle.std.proofs.Common.{◌≡◌, ℕ, ◌<◌, Bool, true, false, List, [], ◌∷◌, ◌++◌, length, map, Option, Some, None, refl, sym, ap, subst, ◌∙◌, arith}
use Rattle.std.proofs.lemmas.Bool.{false≢true}
use Rattle.std.specs.Prelude.{◌↔◌, Contains, slice_get}
use Rattle.std.specs.List.{AllByRecursion, find}
use Rattle.ror_text.proofs.Everywhere.{all_at, all_by_places}
use Rattle.ror_statement.specs.declared.statement.Numbered.{Numbered}
use Rattle.ror_statement.specs.declared.statement.Statement.{Statement}
use Rattle.ror_statement.specs.declared.question.Conclusion.TheVariants.{Yes, No}
use Rattle.ror_statement.specs.declared.question.Question.TheVariants.{Necessary, Possible}
use Rattle.ror_statement.specs.Statements.{statements_in}
use Rattle.ror_table.specs.Table.{DecisionTable}
use Rattle.ror_value.specs.Over.{IsAskedIn}
use Rattle.ror_proof.specs.declared.answer.Answer.{Answer}
use Rattle.ror_report.specs.Text.{answers_of}
use Rattle.ror_bench.specs.declared.kept.KeptLine.{KeptLine}
use Rattle.ror_show_find_relation.specs.declared.change.Change.{Change}
use Rattle.ror_show_find_relation.specs.declared.change.Change.TheVariants as changes
use Rattle.ror_show_find_relation.specs.Changes.{changed_pairs}
use Rattle.ror_show_find_relation.specs.declared.cell.Cell.{Cell}
use Rattle.ror_show_find_relation.specs.declared.page.RelationPage.{RelationPage}
use Rattle.ror_show_find_relation.specs.Cells.{cell_rows}
use Rattle.ror_show_find_relation.specs.CellLaws.{AreTrueAnswers}
use Rattle.ror_show_find_relation.specs.Meaning.{Says}
use Rattle.ror_show_find_relation.specs.Pages.{IsRelationPage, known}
use Rattle.ror_show_find_relation.specs.Rows.{cell_in}
use Rattle.ror_show_ground.specs.Ready.{IsReady, IsReadyOver}
use Rattle.ror_show_ground.specs.Sound.{IsSoundAnswer}
use Rattle.ror_show_find_relation.specs.DifferenceLaws.{IsTrueChange}
use Rattle.ror_show_find_relation.specs.WholeLaws.{IsWholeChange}
use Rattle.ror_show_find_relation.proofs.WholeChanges.{whole-changes}
use Rattle.ror_show_find_relation.proofs.DifferenceLemmas.{listed-true}
use Rattle.ror_show_find_relation.specs.Arrows.{IsArrow, arrows}
use Rattle.ror_show_find_relation.specs.Brought.{brought, turned as turned_pairs}
use Rattle.ror_show_find_relation.specs.CellLaws.{IsWholeRelation}
use Rattle.ror_show_find_relation.specs.Levels.{level_at, IsBefore, AreLevels}
use Rattle.ror_show_find_relation.specs.Relations.{Square, Path}
use Rattle.ror_show_find_relation.specs.declared.differences.Differences.{Differences}
use Rattle.ror_show_find_relation.proofs.ArrowLemmas.{listed}
use Rattle.ror_show_find_relation.proofs.Cycles.{acyclic-levelled}
use Rattle.ror_show_find_relation.proofs.Known.{known-of, whole-of}
use Rattle.ror_show_find_relation.proofs.Parts.{of-above}
use Rattle.ror_show_find_relation.proofs.Paths.{path-by}
use Rattle.ror_show_ground.specs.Grounds.{Ground, IsJudged}
use Rattle.ror_show_ground.specs.Turns.{turns}
use Rattle.ror_show_find_relation.specs.Differences.{AreDifferences}
use Rattle.ror_show_find_reasons.specs.declared.pairs.CarriedPair.{CarriedPair}
use Rattle.ror_show_find_reasons.specs.declared.pairs.RelationFound.{RelationFound}
use Rattle.ror_show_find_reasons.specs.declared.pairs.ChangeFound.{ChangeFound}
use Rattle.ror_show_find_reasons.specs.Pairs.{says_over, denies_back, IsBetterBy, IsCarriedPair, AreCarriedPairs, AreCarriedOver, AreCarriedWhere, IsRelationFound, AreRelationsFound, IsChangeFound, AreChangesFound, MeansCarried, IsBetterTold}
use Rattle.ror_show_find_reasons.specs.Meaning.{MeansFound, MeansFoundWhere, MeansPair, MeansBetter, IsStrictlyPreferred, MeansRelation, AreWholeChanges, MeansChange}
use Rattle.ror_reason.specs.declared.reducts.Reason.{Reason}
use Rattle.ror_show_find_reasons.proofs.Better.{asks_back, found_better, each_better_is_told}
use Rattle.ror_show_find_reasons.proofs.Brought.{brought_said, brought_is_carried}
use Rattle.ror_show_find_reasons.proofs.Found.{asks_over, found_has, found_passes, found_reason}
use Rattle.ror_show_find_reasons.proofs.ReasonMeaning.{reason_means}
use Rattle.ror_show_find_reasons.proofs.Finding.{made_for, each_brings, true_answers, says_in}
use Rattle.ror_show_find_reasons.proofs.PairLaws.{known-size, arrow_said, arrows_are_carried}
use Rattle.ror_show_find_reasons.proofs.Steps.{contains_at}

carried_where : (P : CarriedPair → Type 0) (sought : Bool) (t : DecisionTable) (x : KeptLine) (list : List Numbered) (pairs : List (ℕ × ℕ)) (fs : List CarriedPair) → x.standing ≡ Some list → ((pair : ℕ × ℕ) (f : CarriedPair) → Contains {X = ℕ × ℕ} pairs pair → IsCarriedPair t list (answers_of x.block.body) pair f → P f) → AreCarriedWhere sought t x pairs fs → AllByRecursion P fs
carried_where P true t x list pairs fs stood brings are =
    each_brings (IsCarriedPair t list (answers_of x.block.body)) P pairs fs brings
    (subst (λ (o : Option (List Numbered)). AreCarriedOver t (answers_of x.block.body) o pairs fs) stood are)
carried_where P false t x list pairs fs stood brings are = subst (AllByRecursion P) (sym are) tt

-- what is found with a pair that an answer says means what it says
pair_told : (t : DecisionTable) (x : KeptLine) (list : List Numbered) (pair : ℕ × ℕ) (f : CarriedPair) → IsReadyOver t x list → (y : Answer) × (find (says_over pair) (answers_of x.block.body) ≡ Some y) → IsCarriedPair t list (answers_of x.block.body) pair f → MeansPair t list f
pair_told t x list pair f over said are =
    let xs = answers_of x.block.body in
    let passes = found_passes (says_over pair) xs said.0 said.1 in
    let found = found_reason t list xs pair said.0 f.reason said.1 are.1 in
    let asked : IsAskedIn t (Necessary pair.0 pair.1) = subst (IsAskedIn t) (asks_over pair said.0 passes) (found_has (IsSoundAnswer t (statements_in list)) (says_over pair) xs said.0 over.sound said.1).asked in
    let means = reason_means t list (Necessary pair.0 pair.1) Yes found.0 over.lawful asked found.1 in
    subst (λ (p : ℕ × ℕ). MeansFound t list (Necessary p.0 p.1) Yes f.reason) (sym are.0)
    (subst (MeansFound t list (Necessary pair.0 pair.1) Yes) (sym found.2) means)

-- and why it is always better, where that is said
better_means_where : (t : DecisionTable) (x : KeptLine) (list : List Numbered) (pair : ℕ × ℕ) (o : Option Reason) → IsReadyOver t x list → IsBetterBy t list (answers_of x.block.body) pair o → MeansFoundWhere t list (Possible pair.1 pair.0) No o
better_means_where t x list pair (Some reason) over are =
    let xs = answers_of x.block.body in
    let found = found_better t list xs pair reason are in
    let passes = found_passes (denies_back pair) xs found.answer found.there in
    let asked : IsAskedIn t (Possible pair.1 pair.0) = subst (IsAskedIn t) (asks_back pair found.answer passes) (found_has (IsSoundAnswer t (statements_in list)) (denies_back pair) xs found.answer over.sound found.there).asked in
    reason_means t list (Possible pair.1 pair.0) No reason over.lawful asked found.of
better_means_where t x list pair None over are = tt

better_told : (t : DecisionTable) (x : KeptLine) (list : List Numbered) (pair : ℕ × ℕ) (f : CarriedPair) → IsReadyOver t x list → IsCarriedPair t list (answers_of x.block.body) pair f → MeansBetter t list f
better_told t x list pair f over are =
    subst (λ (p : ℕ × ℕ). MeansFoundWhere t list (Possible p.1 p.0) No f.better) (sym are.0) (better_means_where t x list pair f.better over are.2)

-- one line is at a place
pub one_line_at : (kept : List KeptLine) (n : ℕ) (x y : KeptLine) → slice_get kept n ≡ Some x → slice_get kept n ≡ Some y → x ≡ y
one_line_at kept n x y first second = let p = sym first ∙ second in cc

-- the same line is at the same place
pub same_line : (kept : List KeptLine) (n m : ℕ) (x y : KeptLine) → slice_get kept n ≡ Some x → m ≡ n → slice_get kept m ≡ Some y → x ≡ y
same_line kept n m x y first same second = let p = sym first ∙ ap (slice_get kept) (sym same) ∙ second in cc

-- ---- relations

-- the pairs are those that are carried
pairs_of : (t : DecisionTable) (list : List Numbered) (xs : List Answer) (pairs : List (ℕ × ℕ)) (fs : List CarriedPair) → AreCarriedPairs t list xs pairs fs → map (λ c. c.pair) fs ≡ pairs
pairs_of t list xs [] [] are = refl
pairs_of t list xs [] (f ∷ fs) are = absurd are
pairs_of t list xs (p ∷ pairs) [] are = absurd are
pairs_of t list xs (p ∷ pairs) (f ∷ fs) are =
    ap (λ (q : ℕ × ℕ). q ∷ map (λ (c : CarriedPair). c.pair) fs) are.0.0 ∙ ap (λ (qs : List (ℕ × ℕ)). p ∷ qs) (pairs_of t list xs pairs fs are.1)

each_where : (sought : Bool) (t : DecisionTable) (x : KeptLine) (list : List Numbered) (pairs : List (ℕ × ℕ)) (fs : List CarriedPair) → x.standing ≡ Some list → AreCarriedWhere sought t x pairs fs → sought ≡ true → map (λ c. c.pair) fs ≡ pairs
each_where true t x list pairs fs stood are yes_ =
    pairs_of t list (answers_of x.block.body) pairs fs (subst (λ (o : Option (List Numbered)). AreCarriedOver t (answers_of x.block.body) o pairs fs) stood are)
each_where false t x list pairs fs stood are yes_ = absurd (false≢true yes_)

-- of what is known by the answers to a line
module _ (t : DecisionTable) (xs : List Answer) (list : List Statement) (page : RelationPage) (shows : IsRelationPage t xs page) (true_ : AreTrueAnswers t list xs) where
  abbrev n : ℕ
  n = length t.alternatives

  abbrev r : Square
  r = known (cell_rows n xs)

  arrows_are : page.arrows ≡ arrows r
  arrows_are = shows.arrows ∙ ap (λ (rs : List (List Cell)). arrows (known rs)) shows.rows

  levels_are : AreLevels r page.levels
  levels_are = subst (λ (rs : List (List Cell)). AreLevels (known rs) page.levels) shows.rows shows.levels

  to_arrow : (a b : ℕ) → Contains {X = ℕ × ℕ} page.arrows (a, b) → IsArrow r a b
  to_arrow a b there = (listed r a b).0 (subst (λ (l : List (ℕ × ℕ)). Contains {X = ℕ × ℕ} l (a, b)) arrows_are there)

  from_arrow : (a b : ℕ) → IsArrow r a b → Contains {X = ℕ × ℕ} page.arrows (a, b)
  from_arrow a b is = subst (λ (l : List (ℕ × ℕ)). Contains {X = ℕ × ℕ} l (a, b)) (sym arrows_are) ((listed r a b).1 is)

  arrow_means : (a b : ℕ) → Contains {X = ℕ × ℕ} page.arrows (a, b) → IsStrictlyPreferred t list a b
  arrow_means a b there =
      let arrow = to_arrow a b there in
      let of = known-of t list xs n true_ in
      (of.sound a b (of-above r a b arrow.above).0, of.strict a b arrow.above)

  paths_mean : IsWholeRelation t list n xs → (a b : ℕ) → a < n → b < n → Path (λ c d. Contains {X = ℕ × ℕ} page.arrows (c, d)) a b ↔ IsStrictlyPreferred t list a b
  paths_mean whole a b first second =
      let of = (whole-of t list xs n true_ whole).arrows a b first second in (
        λ path. of.0 (path.0, path-by (λ (c d : ℕ). Contains {X = ℕ × ℕ} page.arrows (c, d)) (IsArrow r) to_arrow path.0 a b path.1),
        λ strict. let path = of.1 strict in (path.0, path-by (IsArrow r) (λ (c d : ℕ). Contains {X = ℕ × ℕ} page.arrows (c, d)) from_arrow path.0 a b path.1),
      )

  levels_mean : (a : ℕ) → a < n → level_at page.levels a ≡ None → ⊥
  levels_mean a within none =
      let size = known-size n xs in
      acyclic-levelled r page.levels (known-of t list xs n true_).acyclic levels_are a (omega (arith, size, within)) none

  before_means : (a b k : ℕ) → Contains {X = ℕ × ℕ} page.arrows (a, b) → level_at page.levels b ≡ Some k → IsBefore page.levels k a
  before_means a b k there at = (levels_are.some b k at).under_all a (to_arrow a b there).above

relation_means : (sought : Bool) (t : DecisionTable) (x : KeptLine) (list : List Numbered) (f : RelationFound) → x.standing ≡ Some list → IsReadyOver t x list → IsRelationPage t (answers_of x.block.body) f.relation → AreCarriedWhere sought t x f.relation.arrows f.carried → MeansRelation sought t (answers_of x.block.body) list f
relation_means sought t x list f stood over page carried =
    let xs = answers_of x.block.body in
    let all = true_answers t x list over in
    record {
      cells = λ a b. subst (λ (rows : List (List Cell)). Says t (statements_in list) (cell_in rows a b) a b) (sym page.rows) (says_in t (statements_in list) xs (length t.alternatives) a b all);
      arrows = arrow_means t xs (statements_in list) f.relation page all;
      paths = paths_mean t xs (statements_in list) f.relation page all;
      levels = levels_mean t xs (statements_in list) f.relation page all;
      before = before_means t xs (statements_in list) f.relation page all;
      carried = carried_where (MeansCarried t list) sought t x list f.relation.arrows f.carried stood (λ pair c there is. arrows_are_carried t list xs f.relation pair c page there is) carried;
      why = carried_where (MeansPair t list) sought t x list f.relation.arrows f.carried stood (λ pair c there is. pair_told t x list pair c over (arrow_said t xs f.relation pair page there) is) carried;
      why_better = carried_where (MeansBetter t list) sought t x list f.relation.arrows f.carried stood (λ pair c there is. better_told t x list pair c over is) carried;
      each_better = carried_where (IsBetterTold f.relation.rows) sought t x list f.relation.arrows f.carried stood (λ pair c there is. each_better_is_told t list xs f.relation pair c page is) carried;
      each = each_where sought t x list f.relation.arrows f.carried stood carried;
    }

pub relations_mean : (sought : Bool) (g : Ground) (fs : List RelationFound) (f : RelationFound) (x : KeptLine) (list : List Numbered) → IsJudged g → AreRelationsFound sought g fs → Contains fs f → slice_get g.kept f.place ≡ Some x → x.standing ≡ Some list → MeansRelation sought g.table (answers_of x.block.body) list f
relations_mean sought g fs f x list judged are there at stood =
    let one = made_for (IsRelationFound sought g) _ fs f there are in
    let is = one.1 in
    let same = same_line g.kept one.0 f.place is.line x is.there is.place at in
    let ready = all_at (IsReady g.table) g.kept f.place x judged.ready at in
    relation_means sought g.table x list f stood (ready list stood)
    (subst (λ (y : KeptLine). IsRelationPage g.table (answers_of y.block.body) f.relation) same is.relation)
    (subst (λ (y : KeptLine). AreCarriedWhere sought g.table y f.relation.arrows f.carried) same is.carried)

-- ---- changes

listed_means : (change : Change) (t : DecisionTable) (before now : List Statement) (n : ℕ) (xs ys : List Answer) (pairs : List (ℕ × ℕ)) → AreTrueAnswers t before xs → AreTrueAnswers t now ys → pairs ≡ changed_pairs (known (cell_rows n xs)) (known (cell_rows n ys)) change → AllByRecursion (λ p. IsTrueChange change t before now p.0 p.1) pairs
listed_means change t before now n xs ys pairs first second are =
    subst (AllByRecursion (λ (p : ℕ × ℕ). IsTrueChange change t before now p.0 p.1)) (sym are)
    (all_by_places (λ p. IsTrueChange change t before now p.0 p.1) (changed_pairs (known (cell_rows n xs)) (known (cell_rows n ys)) change)
    (λ i p there. listed-true change t before now n xs ys p.0 p.1 first second (contains_at (changed_pairs (known (cell_rows n xs)) (known (cell_rows n ys)) change) i p there)))

-- by the pages of both relations
rows_are : (change : Change) (t : DecisionTable) (xs ys : List Answer) (first second : RelationPage) → IsRelationPage t xs first → IsRelationPage t ys second → changed_pairs (known first.rows) (known second.rows) change ≡ changed_pairs (known (cell_rows (length t.alternatives) xs)) (known (cell_rows (length t.alternatives) ys)) change
rows_are change t xs ys first second shows_first shows_second =
    ap (λ (rs : List (List Cell)). changed_pairs (known rs) (known second.rows) change) shows_first.rows
    ∙ ap (λ (rs : List (List Cell)). changed_pairs (known (cell_rows (length t.alternatives) xs)) (known rs) change) shows_second.rows

page_means : (change : Change) (t : DecisionTable) (x y : KeptLine) (before now : List Numbered) (first second : RelationPage) (pairs : List (ℕ × ℕ)) → IsReadyOver t x before → IsReadyOver t y now → IsRelationPage t (answers_of x.block.body) first → IsRelationPage t (answers_of y.block.body) second → pairs ≡ changed_pairs (known first.rows) (known second.rows) change → AllByRecursion (λ p. IsTrueChange change t (statements_in before) (statements_in now) p.0 p.1) pairs
page_means change t x y before now first second pairs over_before over_now shows_first shows_second are =
    listed_means change t (statements_in before) (statements_in now) (length t.alternatives) (answers_of x.block.body) (answers_of y.block.body) pairs (true_answers t x before over_before) (true_answers t y now over_now)
    (are ∙ rows_are change t (answers_of x.block.body) (answers_of y.block.body) first second shows_first shows_second)

-- the same, where each cell says something
whole_listed : (change : Change) (t : DecisionTable) (before now : List Statement) (n : ℕ) (xs ys : List Answer) (pairs : List (ℕ × ℕ)) → AreTrueAnswers t before xs → AreTrueAnswers t now ys → IsWholeRelation t before n xs → IsWholeRelation t now n ys → pairs ≡ changed_pairs (known (cell_rows n xs)) (known (cell_rows n ys)) change → AllByRecursion (λ p. IsWholeChange change t before now p.0 p.1) pairs
whole_listed change t before now n xs ys pairs first second whole_first whole_second are =
    subst (AllByRecursion (λ (p : ℕ × ℕ). IsWholeChange change t before now p.0 p.1)) (sym are)
    (all_by_places (λ p. IsWholeChange change t before now p.0 p.1) (changed_pairs (known (cell_rows n xs)) (known (cell_rows n ys)) change)
    (λ i p there. whole-changes change t before now n xs ys p.0 p.1 first second whole_first whole_second (contains_at (changed_pairs (known (cell_rows n xs)) (known (cell_rows n ys)) change) i p there)))

whole_means : (t : DecisionTable) (x y : KeptLine) (before now : List Numbered) (f : ChangeFound) → IsReadyOver t x before → IsReadyOver t y now → IsRelationPage t (answers_of x.block.body) f.first → IsRelationPage t (answers_of y.block.body) f.second → AreDifferences (known f.first.rows) (known f.second.rows) f.pairs → IsWholeRelation t (statements_in before) (length t.alternatives) (answers_of x.block.body) → IsWholeRelation t (statements_in now) (length t.alternatives) (answers_of y.block.body) → AreWholeChanges t (statements_in before) (statements_in now) f.pairs
whole_means t x y before now f over_before over_now shows_first shows_second pairs whole_before whole_now = record {
  turned = each changes.TurnedRound f.pairs.turned pairs.turned;
  no_longer = each changes.NoLonger f.pairs.no_longer pairs.no_longer;
  stayed = each changes.Stayed f.pairs.stayed pairs.stayed;
  new = each changes.New f.pairs.new pairs.new;
}
  where
    each : (change : Change) (ps : List (ℕ × ℕ)) → ps ≡ changed_pairs (known f.first.rows) (known f.second.rows) change → AllByRecursion (λ p. IsWholeChange change t (statements_in before) (statements_in now) p.0 p.1) ps
    each change ps are =
        whole_listed change t (statements_in before) (statements_in now) (length t.alternatives) (answers_of x.block.body) (answers_of y.block.body) ps (true_answers t x before over_before) (true_answers t y now over_now) whole_before whole_now
        (are ∙ rows_are change t (answers_of x.block.body) (answers_of y.block.body) f.first f.second shows_first shows_second)

-- what a change brought is what was turned round, as it is now, and what is new
brought_are : (before now : Square) (d : Differences) → AreDifferences before now d → brought before now ≡ turned_pairs d.turned ++ d.new
brought_are before now d are = rw (are.turned, are.new) refl

change_means : (sought : Bool) (t : DecisionTable) (x y : KeptLine) (before now : List Numbered) (f : ChangeFound) → y.standing ≡ Some now → IsReadyOver t x before → IsReadyOver t y now → IsRelationPage t (answers_of x.block.body) f.first → IsRelationPage t (answers_of y.block.body) f.second → AreDifferences (known f.first.rows) (known f.second.rows) f.pairs → AreCarriedWhere sought t y (brought (known f.first.rows) (known f.second.rows)) f.brought → MeansChange sought t (answers_of x.block.body) (answers_of y.block.body) before now f
change_means sought t x y before now f stood over_before over_now first second pairs carried = record {
  turned = page_means changes.TurnedRound t x y before now f.first f.second f.pairs.turned over_before over_now first second pairs.turned;
  no_longer = page_means changes.NoLonger t x y before now f.first f.second f.pairs.no_longer over_before over_now first second pairs.no_longer;
  stayed = page_means changes.Stayed t x y before now f.first f.second f.pairs.stayed over_before over_now first second pairs.stayed;
  new = page_means changes.New t x y before now f.first f.second f.pairs.new over_before over_now first second pairs.new;
  whole = whole_means t x y before now f over_before over_now first second pairs;
  brought = carried_where (MeansCarried t now) sought t y now (brought (known f.first.rows) (known f.second.rows)) f.brought stood (λ pair c there is. brought_is_carried t now (answers_of x.block.body) (answers_of y.block.body) f.first f.second pair c first second there is) carried;
  why = carried_where (MeansPair t now) sought t y now (brought (known f.first.rows) (known f.second.rows)) f.brought stood (λ pair c there is. pair_told t y now pair c over_now (brought_said t (answers_of x.block.body) (answers_of y.block.body) f.first f.second pair first second there) is) carried;
  why_better = carried_where (MeansBetter t now) sought t y now (brought (known f.first.rows) (known f.second.rows)) f.brought stood (λ pair c there is. better_told t y now pair c over_now is) carried;
  each_better = carried_where (IsBetterTold f.second.rows) sought t y now (brought (known f.first.rows) (known f.second.rows)) f.brought stood (λ pair c there is. each_better_is_told t now (answers_of y.block.body) f.second pair c second is) carried;
  each = λ yes_. each_where sought t y now (brought (known f.first.rows) (known f.second.rows)) f.brought stood carried yes_ ∙ brought_are (known f.first.rows) (known f.second.rows) f.pairs pairs;
}

pub changes_mean : (sought : Bool) (g : Ground) (fs : List ChangeFound) (f : ChangeFound) (x y : KeptLine) (before now : List Numbered) → IsJudged g → AreChangesFound sought g fs → Contains fs f → slice_get g.kept f.before ≡ Some x → x.standing ≡ Some before → slice_get g.kept f.now ≡ Some y → y.standing ≡ Some now → MeansChange sought g.table (answers_of x.block.body) (answers_of y.block.body) before now f
changes_mean sought g fs f x y before now judged are there at_before stood_before at_now stood_now =
    let one = made_for (IsChangeFound sought g) (turns g.session g.kept) fs f there are in
    let is = one.1 in
    let earlier = same_line g.kept one.0.0 f.before is.earlier x is.earlier_there is.places.0 at_before in
    let later = same_line g.kept one.0.1 f.now is.later y is.later_there is.places.1 at_now in
    let ready_before = all_at (IsReady g.table) g.kept f.before x judged.ready at_before in
    let ready_now = all_at (IsReady g.table) g.kept f.now y judged.ready at_now in
    change_means sought g.table x y before now f stood_now (ready_before before stood_before) (ready_now now stood_now)
    (subst (λ (z : KeptLine). IsRelationPage g.table (answers_of z.block.body) f.first) earlier is.first)
    (subst (λ (z : KeptLine). IsRelationPage g.table (answers_of z.block.body) f.second) later is.second) is.pairs
    (subst (λ (z : KeptLine). AreCarriedWhere sought g.table z (brought (known f.first.rows) (known f.second.rows)) f.brought) later is.brought_by)
