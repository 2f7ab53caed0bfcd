-- What more statements leave, and that the lists of levels hold each other.
use Rattle.std.proofs.Common.{◌≡◌, ◌⊎◌, inl, inr, ℕ, zero, suc, ◌+◌, ◌-◌, ◌<◌, ◌≤◌, Bool, true, false, List, [], ◌∷◌, length, refl, sym, ap, subst, ◌∙◌, arith, append_assoc, ◌++◌, ℤ, get_or}
use Rattle.std.specs.Prelude.{drop, slice_index_or, map}
use Rattle.std.specs.List.{AllByRecursion, filter, range_with_len}
use Rattle.std.proofs.lemmas.Bool.{cases_Bool, le-leb, leb-true}
use Rattle.std.proofs.lemmas.List.{append-nil, drop_all, get_or_default, length-map}
use Rattle.ror_statement.specs.declared.statement.Numbered.{Numbered}
use Rattle.ror_statement.specs.declared.statement.Statement.{Statement}
use Rattle.ror_statement.specs.declared.question.Question.TheVariants.{Necessary, Possible}
use Rattle.ror_statement.specs.declared.question.Conclusion.TheVariants.{Yes}
use Rattle.ror_statement.specs.Statements.{statements_in}
use Rattle.ror_statement.proofs.Sublists.{sublist-filter, sublist-map, lawful-sublist}
use Rattle.ror_table.specs.Table.{DecisionTable}
use Rattle.ror_value.specs.Over.{IsLawfulIn}
use Rattle.ror_value.specs.Meaning.{Answers, IsCompatible, IsConsistent}
use Rattle.ror_value.proofs.MeetingEach.{meets_each, each_meets}
use Rattle.ror_confidence.specs.declared.levels.Levels.{Levels}
use Rattle.ror_confidence.specs.Levels.{is_within, level_in, level_lists, list_at, list_of_level}
use Rattle.ror_confidence.specs.Spans.{AreLevelLists, HoldsAllOf}
use Rattle.ror_confidence.specs.Laws.{IsNested}

-- ---- what is compatible

compatible-fewer : (t : DecisionTable) (w : List ℤ) (greater smaller : List Statement) → HoldsAllOf greater smaller → IsCompatible t greater w → IsCompatible t smaller w
compatible-fewer t w greater smaller holds compatible =
    let each = meets_each t w greater compatible.meets in
    record {
      function = compatible.function;
      meets = each_meets t w smaller (record {
        comparisons = λ k s c there is. let at = holds k s there in each.comparisons at.0 s c at.1 is;
        classes = λ j k r s x y first second is_first is_second above.
            let one = holds j r first in
            let two = holds k s second in
            each.classes one.0 two.0 r s x y one.1 two.1 is_first is_second above;
      });
    }

pub consistent-fewer : (t : DecisionTable) (greater smaller : List Statement) → HoldsAllOf greater smaller → IsConsistent t greater → IsConsistent t smaller
consistent-fewer t greater smaller holds c = (c.0, compatible-fewer t c.0 greater smaller holds c.1)

pub necessary-more : (t : DecisionTable) (greater smaller : List Statement) (a b : ℕ) → HoldsAllOf greater smaller → IsConsistent t greater → Answers t smaller (Necessary a b) Yes → Answers t greater (Necessary a b) Yes
necessary-more t greater smaller a b holds consistent answer = (consistent, λ w compatible. answer.1 w (compatible-fewer t w greater smaller holds compatible))

pub possible-fewer : (t : DecisionTable) (greater smaller : List Statement) (a b : ℕ) → HoldsAllOf greater smaller → Answers t greater (Possible a b) Yes → Answers t smaller (Possible a b) Yes
possible-fewer t greater smaller a b holds answer =
    let some = answer.1 in
    (consistent-fewer t greater smaller holds answer.0, (some.0, compatible-fewer t some.0 greater smaller holds some.1, some.2))

pub lists_nested : (t : DecisionTable) (greater smaller : List Statement) → HoldsAllOf greater smaller → IsNested t greater smaller
lists_nested t greater smaller holds = record {
  consistent = consistent-fewer t greater smaller holds;
  contradictory = λ none w compatible. none w (compatible-fewer t w greater smaller holds compatible);
  necessary = λ a b consistent answer. necessary-more t greater smaller a b holds consistent answer;
  possible = λ a b answer. possible-fewer t greater smaller a b holds answer;
}

-- ---- the lists of levels

holds_both : (s : Statement) (greater smaller : List Statement) → HoldsAllOf greater smaller → HoldsAllOf (s ∷ greater) (s ∷ smaller)
holds_both s greater smaller holds zero r there = (0, there)
holds_both s greater smaller holds (suc k) r there = let at = holds k r there in (suc at.0, at.1)

holds_one_more : (s : Statement) (greater smaller : List Statement) → HoldsAllOf greater smaller → HoldsAllOf (s ∷ greater) smaller
holds_one_more s greater smaller holds k r there = let at = holds k r there in (suc at.0, at.1)

filter_holds_one : (p q : Numbered → Bool) → ((x : Numbered) → p x ≡ true → q x ≡ true) → (x : Numbered) (xs : List Numbered) → HoldsAllOf (statements_in (filter q xs)) (statements_in (filter p xs)) → (p x ≡ true) ⊎ (p x ≡ false) → (q x ≡ true) ⊎ (q x ≡ false) → HoldsAllOf (statements_in (filter q (x ∷ xs))) (statements_in (filter p (x ∷ xs)))
filter_holds_one p q less x xs rest (inl is) (inl also) = rw (is, also) (holds_both x.statement (statements_in (filter q xs)) (statements_in (filter p xs)) rest)
filter_holds_one p q less x xs rest (inl is) (inr other) = absurd (let also = less x is in cc)
filter_holds_one p q less x xs rest (inr other) (inl also) = rw (other, also) (holds_one_more x.statement (statements_in (filter q xs)) (statements_in (filter p xs)) rest)
filter_holds_one p q less x xs rest (inr other) (inr none) = rw (other, none) rest

filter_holds : (p q : Numbered → Bool) → ((x : Numbered) → p x ≡ true → q x ≡ true) → (xs : List Numbered) → HoldsAllOf (statements_in (filter q xs)) (statements_in (filter p xs))
filter_holds p q less [] = λ k s there. absurd cc
filter_holds p q less (x ∷ xs) = filter_holds_one p q less x xs (filter_holds p q less xs) (cases_Bool (p x)) (cases_Bool (q x))

pub index-range : {X : Type 0} (f : ℕ → X) (a n k : ℕ) (d : X) → k < n → slice_index_or (map f (range_with_len a n)) k d ≡ f (a + k)
index-range f a zero k d within = absurd (omega (arith, within))
index-range f a (suc n) zero d within = ap f (omega arith)
index-range f a (suc n) (suc k) d within = index-range f (a + 1) n k d (omega (arith, within)) ∙ ap f (omega arith)

pub length-range : (a n : ℕ) → length (range_with_len a n) ≡ n
length-range a zero = refl
length-range a (suc n) = ap suc (length-range (a + 1) n)

pub length-level_lists : (standing : List Numbered) (levels : Levels) → length (level_lists standing levels) ≡ levels.count
length-level_lists standing levels = length-map (range_with_len 1 levels.count) (list_at standing levels) ∙ length-range 1 levels.count

pub of_level : (standing : List Numbered) (levels : Levels) (level : ℕ) → 1 ≤ level → level ≤ levels.count → list_of_level (level_lists standing levels) level ≡ list_at standing levels level
of_level standing levels level first last = index-range (list_at standing levels) 1 levels.count (level - 1) [] (omega (arith, first, last)) ∙ ap (list_at standing levels) (omega (arith, first))

list_at-holds : (standing : List Numbered) (levels : Levels) (i j : ℕ) → i ≤ j → HoldsAllOf (list_at standing levels j) (list_at standing levels i)
list_at-holds standing levels i j upto = filter_holds (is_within levels i) (is_within levels j) (λ x is. let low = leb-true (level_in levels.put x.number) i is in le-leb (level_in levels.put x.number) j (omega (arith, low, upto))) standing

pub list_at-lawful : (t : DecisionTable) (standing : List Numbered) (levels : Levels) (level : ℕ) → IsLawfulIn t (statements_in standing) → IsLawfulIn t (list_at standing levels level)
list_at-lawful t standing levels level lawful =
    lawful-sublist (length t.alternatives) (length t.criteria) t.classes (list_at standing levels level) (statements_in standing)
    (sublist-map (λ (x : Numbered). x.statement) (filter (is_within levels level) standing) standing (sublist-filter (is_within levels level) standing)) lawful

each-lawful : (t : DecisionTable) (standing : List Numbered) (levels : Levels) (ls : List ℕ) → IsLawfulIn t (statements_in standing) → AllByRecursion (IsLawfulIn t) (map (list_at standing levels) ls)
each-lawful t standing levels [] lawful = tt
each-lawful t standing levels (l ∷ ls) lawful = (list_at-lawful t standing levels l lawful, each-lawful t standing levels ls lawful)

pub levels_nested : (t : DecisionTable) (standing : List Numbered) (levels : Levels) → IsLawfulIn t (statements_in standing) → AreLevelLists t (level_lists standing levels)
levels_nested t standing levels lawful = record {
  lawful = each-lawful t standing levels (range_with_len 1 levels.count) lawful;
  nested = λ i j first upto last.
      let count = length-level_lists standing levels in
      let greater = of_level standing levels j (omega (arith, first, upto)) (omega (arith, last, count)) in
      let smaller = of_level standing levels i first (omega (arith, upto, last, count)) in
      rw (greater, smaller) (list_at-holds standing levels i j upto);
}

-- ---- statement after statement

pub kept_end : (p : Numbered → Bool) (standing : List Numbered) (i : ℕ) (done whole : List Statement) → length standing ≤ i → done ++ statements_in (filter p (drop i standing)) ≡ whole → done ≡ whole
kept_end p standing i done whole past before =
    let none : drop i standing ≡ [] = drop_all i standing past in
    sym (append-nil done) ∙ ap (λ (ys : List Numbered). done ++ statements_in (filter p ys)) (sym none) ∙ before

-- ---- level after level

-- with the next level's, the ones that are left are fewer
pub levels_more : {X : Type 0} (f : ℕ → X) (done whole : List X) (x : X) (level count : ℕ) → level < count → done ++ map f (range_with_len (level + 1) (count - level)) ≡ whole → x ≡ f (level + 1) → (done ++ x ∷ []) ++ map f (range_with_len (level + 1 + 1) (count - (level + 1))) ≡ whole
levels_more f done whole x level count under before is =
    let left : count - level ≡ suc (count - (level + 1)) = omega (arith, under) in
    let cut = subst (λ (n : ℕ). done ++ map f (range_with_len (level + 1) n) ≡ whole) left before in
    append_assoc done (x ∷ []) (map f (range_with_len (level + 1 + 1) (count - (level + 1)))) ∙ ap (λ (y : _). done ++ y ∷ map f (range_with_len (level + 1 + 1) (count - (level + 1)))) is ∙ cut

pub levels_end : {X : Type 0} (f : ℕ → X) (done whole : List X) (level count : ℕ) → count ≤ level → done ++ map f (range_with_len (level + 1) (count - level)) ≡ whole → done ≡ whole
levels_end f done whole level count over before =
    let left : count - level ≡ 0 = omega (arith, over) in
    let cut = subst (λ (n : ℕ). done ++ map f (range_with_len (level + 1) n) ≡ whole) left before in
    sym (append-nil done) ∙ cut

pub level_list : (lists : List (List Statement)) (level : ℕ) (list : List Statement) → level - 1 < length lists → list ≡ get_or lists (level - 1) list → list ≡ list_of_level lists level
level_list lists level list within is = is ∙ get_or_default lists (level - 1) list [] within
