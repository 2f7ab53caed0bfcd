-- What is read as an input has a table.
use Rattle.std.proofs.Common.{◌≡◌, ℕ, ◌+◌, ◌<◌, ◌≤◌, Bool, true, false, List, [], ◌∷◌, ◌++◌, length, map, Option, Some, None, Result, Ok, Err, ℤ, pos, refl, sym, ap, ◌∙◌, arith, cond, subst, rules, suc, append-nil, append_assoc, zero-add}
use Rattle.std.specs.Prelude.{◌≢◌, IfOk, IfSome, All, unsigned_abs, ◌^◌, ◌||◌, ◌==◌, nat_lt, is_some, codes}
use Rattle.std.specs.List.{enumerate_from, range_with_len}
use Rattle.std.specs.Ordering.{int_eq}
use Rattle.std.specs.Str.{bytes_eq}
use Rattle.std.proofs.lemmas.List.{length-map, length_push}
use Rattle.std.proofs.lemmas.List.Elements.{All-push}
use Rattle.std.proofs.lemmas.List.FromFn.{length-range_with_len}
use Rattle.ror_text.specs.declared.lines.TheConstants.{MOST_TEXT_BYTES}
use Rattle.ror_text.specs.Reading.{refuse, need, read_all}
use Rattle.ror_text.proofs.NumberLemmas.{read_performance-small}
use Rattle.ror_text.proofs.ReadingLemmas.{bind_ok, keeps, need_ok, refuse_ok, read_all_keeps}
use Rattle.ror_table.specs.declared.amount.Amount.{Amount}
use Rattle.ror_table.specs.declared.limits.TheConstants.{MOST_ALTERNATIVES, MOST_CRITERIA}
use Rattle.ror_table.specs.declared.fault.TableFault.{TableFault}
use Rattle.ror_table.specs.Amounts.{IsAmount, lowest}
use Rattle.ror_table.specs.Draft.{IsDraft, add_alternative, finished}
use Rattle.ror_table.specs.Plain.{plain_table}
use Rattle.ror_table.specs.Spellings.{whole_amount, real_of}
use Rattle.ror_table.specs.Table.{Criterion, DecisionTable, IsTable, IsEvaluated, criterion_ids, alternative_ids, columns, has_wide_scale}
use Rattle.ror_table.proofs.GrammarLemmas.{read_plain_text}
use Rattle.ror_table.proofs.IndexLemmas.{IsTable-from_tests}
use Rattle.ror_table.proofs.SpellingLemmas.{IsAmount-whole_amount, IsAmount-real_of}
use Rattle.ror_value.specs.declared.input.Input.{Input}
use Rattle.ror_elements.specs.Elements.{elements_of}
use Rattle.ror_elements.specs.Tree.{Tree, name_of}
use Rattle.ror_xmcda.specs.declared.content.Listed.{Listed}
use Rattle.ror_xmcda.specs.declared.criteria.Criteria.{Criteria}
use Rattle.ror_xmcda.specs.declared.roster.Roster.{Roster}
use Rattle.ror_xmcda.specs.Nodes.{text_of, first_named}
use Rattle.ror_xmcda.specs.Roster.{AreIds}
use Rattle.ror_xmcda.specs.Listing.{standing_in}
use Rattle.ror_xmcda.specs.Numbers.{number_at, rational, number_of}
use Rattle.ror_xmcda.specs.Performances.{Place, Given, AreAmounts, is_at, given_at, value_of, kept_performance, performance_at, performance, performances, performances_of}
use Rattle.ror_xmcda.specs.Whole.{criteria_table, next_performance, row_of, with_alternative, table_of}
use Rattle.ror_xmcda.specs.Content.{listed_of, table_in, opening_in, content}
use Rattle.ror_xmcda.specs.Input.{of_elements, is_xmcda, xmcda_input, plain_input, input_of}
use Rattle.ror_xmcda.proofs.ContentLemmas.{listed_in}
use Rattle.ror_xmcda.proofs.WholeLemmas.{ids-add_alternative, ids-criteria_table, alternatives-criteria_table}
use Rattle.ror_xmcda.proofs.PerformanceLemmas.{lookup_amount}
use Rattle.ror_xmcda.proofs.NumberLemmas.{IsAmount-fraction}

-- ---- performances

number_at_small : (t : Tree) (z : ℤ) → number_at t ≡ Ok z → unsigned_abs z < 10 ^ 18
unfolding number_at
number_at_small t z e = read_performance-small _ z (need_ok _ _ z e)

int_eq-zero : (d : ℤ) → int_eq d (pos 0) ≡ false → d ≢ pos 0
int_eq-zero d h e = search rules

rational_amount : (t : Tree) (p : Amount) → rational t ≡ Ok p → IsAmount p
unfolding rational
rational_amount t p e =
    let a = bind_ok (need _ (first_named (codes "numerator") t)) _ p e in
    let n = bind_ok (number_at a.0) _ p a.2 in
    let b = bind_ok (need _ (first_named (codes "denominator") t)) _ p n.2 in
    let d = bind_ok (number_at b.0) _ p b.2 in
    let r = bind_ok (refuse _ (int_eq d.0 (pos 0))) _ p d.2 in
    let same : lowest n.0 d.0 ≡ p = (let q : ◌≡◌ {A = Result Amount TableFault} (Ok (lowest n.0 d.0)) (Ok p) = r.2 in cc) in
    subst IsAmount same (IsAmount-fraction n.0 d.0 (int_eq-zero d.0 (refuse_ok _ _ r.0 r.1)) (number_at_small a.0 n.0 n.1) (number_at_small b.0 d.0 d.1))

number_amount : (t : Tree) (p : Amount) → number_of t ≡ Ok p → IsAmount p
unfolding number_of
number_amount t p e = by (bytes_eq (name_of t) (codes "integer")) (bytes_eq (name_of t) (codes "real")) (bytes_eq (name_of t) (codes "rational")) _ _ _ e
  where
    by : (a b c : Bool) (f g h : TableFault) → cond a (need f (whole_amount (text_of t))) (cond b (need g (real_of (text_of t))) (cond c (rational t) (Err h))) ≡ Ok p → IsAmount p
    by true b c f g h e = IsAmount-whole_amount (text_of t) p (need_ok f _ p e)
    by false true c f g h e = IsAmount-real_of (text_of t) p (need_ok g _ p e)
    by false false true f g h e = rational_amount t p e
    by false false false f g h e = absurd cc

kept_amounts : (given : Given) (place : Place) (t : Tree) → AreAmounts given → IfOk (kept_performance given place t) AreAmounts
unfolding kept_performance
kept_amounts given place t are =
    keeps AreAmounts (value_of t) _ (λ value e. keeps AreAmounts (number_of value) _ (λ p f. keeps AreAmounts (refuse _ (is_some (given_at given place))) _ (λ u g.
    All-push (λ (x : Place × Amount). IsAmount x.1) given (place, p) are (number_amount value p f))))

at_amounts : (given : Given) (a i : Option ℕ) (t : Tree) → AreAmounts given → IfOk (performance_at given a i t) AreAmounts
at_amounts given (Some a) (Some i) t are = kept_amounts given (a, i) t are
at_amounts given (Some a) None t are = are
at_amounts given None i t are = are

performance_amounts : (criteria : Roster) (a : Option ℕ) (given : Given) (t : Tree) → AreAmounts given → IfOk (performance criteria a given t) AreAmounts
unfolding performance
performance_amounts criteria a given t are =
    keeps AreAmounts (standing_in criteria t (first_named (codes "criterionID") t)) _ (λ i e. at_amounts given a i t are)

group_amounts : (alternatives criteria : Roster) (given : Given) (t : Tree) → AreAmounts given → IfOk (performances alternatives criteria given t) AreAmounts
unfolding performances
group_amounts alternatives criteria given t are =
    keeps AreAmounts (standing_in alternatives t (first_named (codes "alternativeID") t)) _ (λ a e. read_all_keeps AreAmounts (performance criteria a) (performance_amounts criteria a) given _ are)

given_amounts : (alternatives criteria : Roster) (root : Tree) (given : Given) → performances_of alternatives criteria root ≡ Ok given → AreAmounts given
unfolding performances_of
given_amounts alternatives criteria root given e =
    subst (λ (x : Result Given TableFault). IfOk x AreAmounts) e (read_all_keeps AreAmounts (performances alternatives criteria) (group_amounts alternatives criteria) [] _ (λ k d lt. absurd (omega arith)))

-- ---- the table

-- the performances of an alternative
record IsRow (n : ℕ) (row : List Amount) : Type 0 where
  width : length row ≡ n
  amounts : All IsAmount row

next_row : (given : Given) (a n : ℕ) (row next : List Amount) (i : ℕ) → AreAmounts given → IsRow n row → next_performance given a row i ≡ Ok next → IsRow (n + 1) next
unfolding next_performance given_at
next_row given a n row next i amounts are e =
    let b = bind_ok (need _ (given_at given (a, i))) _ next e in
    let same : row ++ b.0 ∷ [] ≡ next = (let r : ◌≡◌ {A = Result (List Amount) TableFault} (Ok (row ++ b.0 ∷ [])) (Ok next) = b.2 in cc) in
    let found : given_at given (a, i) ≡ Some b.0 = need_ok _ (given_at given (a, i)) b.0 b.1 in
    let here : IsAmount b.0 = subst (λ (o : Option Amount). IfSome o IsAmount) found (lookup_amount (is_at (a, i)) given amounts) in
    subst (IsRow (n + 1)) same (record { width = length_push row b.0 ∙ ap (λ (m : ℕ). m + 1) are.width; amounts = All-push IsAmount row b.0 are.amounts here })

rows : (given : Given) (a n : ℕ) (row last : List Amount) (places : List ℕ) → AreAmounts given → IsRow n row → read_all (next_performance given a) row places ≡ Ok last → IsRow (n + length places) last
rows given a n row last [] amounts are e =
    let same : row ≡ last = (let r : ◌≡◌ {A = Result (List Amount) TableFault} (Ok row) (Ok last) = e in cc) in
    let size : n ≡ n + 0 = omega arith in
    subst (λ (m : ℕ). IsRow m last) size (subst (IsRow n) same are)
rows given a n row last (i ∷ places) amounts are e =
    let b = bind_ok (next_performance given a row i) (λ next. read_all (next_performance given a) next places) last e in
    let size : (n + 1) + length places ≡ n + suc (length places) = omega arith in
    subst (λ (m : ℕ). IsRow m last) size (rows given a (n + 1) b.0 last places amounts (next_row given a n row b.0 i amounts are b.1) b.2)

row_is : (given : Given) (n a : ℕ) (row : List Amount) → AreAmounts given → row_of given n a ≡ Ok row → IsRow n row
unfolding row_of
row_is given n a row amounts e =
    subst (λ (m : ℕ). IsRow m row) (length-range_with_len 0 n) (subst (λ (m : ℕ). IsRow m row) (zero-add (length (range_with_len 0 n))) (rows given a 0 [] row (range_with_len 0 n) amounts (record { width = refl; amounts = λ k d lt. absurd (omega arith) }) e))

-- a table with these criteria and so many classes, of whose alternatives these were added
record IsMade (criteria : List Criterion) (classes : ℕ) (ids : List (List ℕ)) (t : DecisionTable) : Type 0 where
  criteria_are : t.criteria ≡ criteria
  classes_are : t.classes ≡ classes
  ids_are : alternative_ids t ≡ ids
  evaluated : All (IsEvaluated (length criteria)) t.alternatives

one_more : (given : Given) (cs : List Criterion) (k : ℕ) (ids : List (List ℕ)) (t t' : DecisionTable) (x : ℕ × List ℕ) → AreAmounts given → IsMade cs k ids t → with_alternative given t x ≡ Ok t' → IsMade cs k (ids ++ x.1 ∷ []) t'
unfolding with_alternative
one_more given cs k ids t t' x amounts h e =
    let b = bind_ok (row_of given (length t.criteria) x.0) _ t' e in
    let row : IsRow (length cs) b.0 = subst (λ (c : List Criterion). IsRow (length c) b.0) h.criteria_are (row_is given (length t.criteria) x.0 b.0 amounts b.1) in
    let same : add_alternative t x.1 b.0 ≡ t' = (let r : ◌≡◌ {A = Result DecisionTable TableFault} (Ok (add_alternative t x.1 b.0)) (Ok t') = b.2 in cc) in
    subst (IsMade cs k (ids ++ x.1 ∷ [])) same (record {
      criteria_are = h.criteria_are;
      classes_are = h.classes_are;
      ids_are = ids-add_alternative t x.1 b.0 ∙ ap (λ (l : List (List ℕ)). l ++ x.1 ∷ []) h.ids_are;
      evaluated = All-push (IsEvaluated (length cs)) t.alternatives (record { id = x.1; performances = b.0 }) h.evaluated (record { width = row.width; amounts = row.amounts });
    })

all_more : (given : Given) (cs : List Criterion) (k : ℕ) (before : List (List ℕ)) (t t' : DecisionTable) (a : ℕ) (ids : List (List ℕ)) → AreAmounts given → IsMade cs k before t → read_all (with_alternative given) t (enumerate_from a ids) ≡ Ok t' → IsMade cs k (before ++ ids) t'
all_more given cs k before t t' a [] amounts h e =
    let same : t ≡ t' = (let r : ◌≡◌ {A = Result DecisionTable TableFault} (Ok t) (Ok t') = e in cc) in
    subst (λ (l : List (List ℕ)). IsMade cs k l t') (sym (append-nil before)) (subst (IsMade cs k before) same h)
all_more given cs k before t t' a (id ∷ ids) amounts h e =
    let b = bind_ok (with_alternative given t (a, id)) (λ next. read_all (with_alternative given) next (enumerate_from (a + 1) ids)) t' e in
    subst (λ (l : List (List ℕ)). IsMade cs k l t') (append_assoc before (id ∷ []) ids) (all_more given cs k (before ++ id ∷ []) b.0 t' (a + 1) ids amounts (one_more given cs k before t b.0 (a, id) amounts h b.1) b.2)

finished_is : {F : Type 0} (empty wide wide_scale : F) (s t : DecisionTable) → IsDraft s → finished empty wide wide_scale s ≡ Ok t → IsTable t
unfolding finished
finished_is empty wide wide_scale s t draft e =
    let none : Bool = length s.criteria == 0 || length s.alternatives == 0 in
    let a = bind_ok (refuse empty none) _ t e in
    let b = bind_ok (refuse wide (nat_lt 2000 (columns s))) _ t a.2 in
    let c = bind_ok (refuse wide_scale (has_wide_scale s)) _ t b.2 in
    let same : s ≡ t = (let r : ◌≡◌ {A = Result DecisionTable _} (Ok s) (Ok t) = c.2 in cc) in
    subst IsTable same (IsTable-from_tests s none (nat_lt 2000 (columns s)) (columns s) draft refl (refuse_ok empty none a.0 a.1) refl (refuse_ok wide _ b.0 b.1) refl (refuse_ok wide_scale _ c.0 c.1))

table_of_is : (given : Given) (c : Criteria) (ids : List (List ℕ)) (k : ℕ) (t : DecisionTable) → AreAmounts given → AreIds MOST_CRITERIA c.ids.kept → AreIds MOST_ALTERNATIVES ids → k ≤ 100 → table_of given c ids k ≡ Ok t → IsTable t
unfolding table_of
table_of_is given c ids k t amounts criteria alternatives few e =
    let a = bind_ok (refuse _ (length c.ids.kept == 0 || length ids == 0)) _ t e in
    let began : DecisionTable = record (criteria_table c) { classes = k } in
    let b = bind_ok (read_all (with_alternative given) began (enumerate_from 0 ids)) _ t a.2 in
    let cs = (criteria_table c).criteria in
    let none : began.alternatives ≡ [] = alternatives-criteria_table c in
    let first : IsMade cs k [] began = record {
      criteria_are = refl;
      classes_are = refl;
      ids_are = ap (map (λ a. a.id)) none;
      evaluated = rw none (λ i d lt. absurd (omega arith));
    } in
    let made : IsMade cs k ids b.0 = all_more given cs k [] began b.0 0 ids amounts first b.1 in
    let names : criterion_ids b.0 ≡ c.ids.kept = ap (map (λ c. c.id)) made.criteria_are ∙ ids-criteria_table c in
    let many : length b.0.criteria ≡ length c.ids.kept = sym (length-map b.0.criteria (λ c. c.id)) ∙ ap length names in
    let count : length b.0.alternatives ≡ length ids = sym (length-map b.0.alternatives (λ a. a.id)) ∙ ap length made.ids_are in
    finished_is _ _ _ b.0 t (record {
      criteria_limit = let l = criteria.few in omega (arith, many, l);
      alternatives_limit = let l = alternatives.few in omega (arith, count, l);
      classes_limit = let l = made.classes_are in omega (arith, few, l);
      criterion_ids_valid = rw names criteria.valid;
      alternative_ids_valid = rw made.ids_are alternatives.valid;
      criterion_ids_distinct = rw names criteria.distinct;
      alternative_ids_distinct = rw made.ids_are alternatives.distinct;
      evaluated = rw made.criteria_are made.evaluated;
    }) b.2

-- ---- the input

listed_table : (l : Listed) (root : Tree) (t : DecisionTable) → listed_of root ≡ Ok l → table_in l root ≡ Ok t → IsTable t
unfolding table_in
listed_table l root t listed e =
    let are = listed_in root l listed in
    let g = bind_ok (performances_of l.alternatives l.criteria.ids root) _ t e in
    table_of_is g.0 l.criteria l.alternatives.kept (length l.categories.ranks) t (given_amounts l.alternatives l.criteria.ids root g.0 g.1) are.criteria.ids are.alternatives are.ranked.few g.2

pub content_table : (best_first : Bool) (root : Tree) (i : Input) → content best_first root ≡ Ok i → IsTable i.table
unfolding content
content_table best_first root i e =
    let a = bind_ok (listed_of root) _ i e in
    let b = bind_ok (table_in a.0 root) _ i a.2 in
    let c = bind_ok (opening_in best_first a.0 root) _ i b.2 in
    let same : ◌≡◌ {A = Input} (record { table = b.0; opening = c.0 }) i = (let r : ◌≡◌ {A = Result Input TableFault} (Ok (record { table = b.0; opening = c.0 })) (Ok i) = c.2 in cc) in
    subst (λ (x : Input). IsTable x.table) same (listed_table a.0 root b.0 a.1 b.1)

xmcda_table : (bytes : List ℕ) (best_first : Bool) (i : Input) → xmcda_input bytes best_first ≡ Ok i → IsTable i.table
unfolding xmcda_input
xmcda_table bytes best_first i e =
    let a = bind_ok (of_elements (elements_of bytes)) _ i e in
    content_table best_first a.0 i a.2

plain_is_table : (bytes : List ℕ) (i : Input) → plain_input bytes ≡ Ok i → IsTable i.table
unfolding plain_input
plain_is_table bytes i e =
    let a = bind_ok (plain_table bytes) _ i e in
    let same : ◌≡◌ {A = Input} (record { table = a.0; opening = [] }) i = (let r : ◌≡◌ {A = Result Input TableFault} (Ok (record { table = a.0; opening = [] })) (Ok i) = a.2 in cc) in
    subst (λ (x : Input). IsTable x.table) same (read_plain_text bytes a.0 a.1).table

-- whatever the bytes are
pub input_table : (bytes : List ℕ) (best_first : Bool) (i : Input) → input_of bytes best_first ≡ Ok i → IsTable i.table
unfolding input_of
input_table bytes best_first i e =
    let a = bind_ok (refuse _ (nat_lt MOST_TEXT_BYTES (length bytes))) _ i e in
    by (is_xmcda bytes) a.2
  where
    by : (b : Bool) → cond b (xmcda_input bytes best_first) (plain_input bytes) ≡ Ok i → IsTable i.table
    by true e = xmcda_table bytes best_first i e
    by false e = plain_is_table bytes i e
