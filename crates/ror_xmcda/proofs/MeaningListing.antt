-- What is listed in a file that is read: its categories, alternatives and criteria.
use Rattle.std.proofs.Common.{◌≡◌, ℕ, ◌+◌, ◌<◌, Bool, true, false, List, [], ◌∷◌, ◌++◌, length, map, Option, Some, None, Result, Ok, ℤ, pos, refl, sym, ap, ◌∙◌, arith, cond, subst, append-nil, append_assoc}
use Rattle.std.specs.Prelude.{codes, filter, slice_index_or, nat_le, unwrap_or, option_and_then, is_some, AllPairs, ◌≢◌}
use Rattle.std.specs.List.{AllByRecursion, AllZip, enumerate_from, list_any}
use Rattle.std.specs.Ordering.{int_eq}
use Rattle.std.proofs.lemmas.List.{length-map, length_push, map_push, get_or-map}
use Rattle.ror_text.specs.Numbers.{read_performance}
use Rattle.ror_text.specs.Reading.{refuse, need}
use Rattle.ror_text.proofs.Everywhere.{all-append}
use Rattle.ror_text.proofs.ReadingLemmas.{bind_ok, need_ok}
use Rattle.ror_table.specs.declared.direction.Direction.{Direction}
use Rattle.ror_table.specs.declared.direction.Direction.TheVariants.{Max}
use Rattle.ror_table.specs.declared.fault.TableFault.{TableFault}
use Rattle.ror_table.specs.Draft.{empty_table, add_criterion}
use Rattle.ror_table.specs.Plain.{direction_of}
use Rattle.ror_table.specs.Table.{Criterion, DecisionTable, criterion_ids}
use Rattle.ror_elements.specs.Tree.{Tree}
use Rattle.ror_xmcda.specs.declared.categories.Categories.{Categories}
use Rattle.ror_xmcda.specs.declared.criteria.Criteria.{Criteria}
use Rattle.ror_xmcda.specs.declared.roster.Roster.{Roster}
use Rattle.ror_xmcda.specs.Nodes.{id_of, text_of, at_path, first_of}
use Rattle.ror_xmcda.specs.Roster.{nothing_listed, with_kept, with_left_out}
use Rattle.ror_xmcda.specs.Listing.{new_id, is_active}
use Rattle.ror_xmcda.specs.Categories.{rank_of, kept_category, category, no_categories, categories_of}
use Rattle.ror_xmcda.specs.Alternatives.{kept_alternative, alternative, alternatives_of}
use Rattle.ror_xmcda.specs.Criteria.{no_qualitative_at, no_qualitative, direction_at, criterion_direction, kept_criterion, criterion, no_criteria, criteria_of}
use Rattle.ror_xmcda.specs.Whole.{with_criteria, criteria_table}
use Rattle.ror_xmcda.specs.Meaning.{active, listed_categories, listed_alternatives, listed_criteria, IsEntry, AreEntries, IsDirection, IsQuantitative, IsCriterion, rank_said, rank_in, AreRanked}
use Rattle.ror_xmcda.proofs.MeaningLemmas.{read_all_from_first, zip-append, filter-push_yes, filter-push_no, active_is, IsRosterOf, nothing_yet, IsNewId, new_id_of, kept_more, left_out_more, each_is, entry}
use Rattle.ror_xmcda.proofs.TurnedLemmas.{AreApart}

-- ---- alternatives

pub alternative_more : (before : List Tree) (r : Roster) (t : Tree) (next : Roster) → IsRosterOf before r → alternative r t ≡ Ok next → IsRosterOf (before ++ t ∷ []) next
unfolding alternative
alternative_more before r t next are e =
    let a = bind_ok (new_id r t) _ next e in
    let b = bind_ok (is_active t) _ next a.2 in
    by a.0 (new_id_of r t a.0 a.1) b.0 (active_is t b.0 b.1) b.2
  where
    by : (id : List ℕ) → IsNewId r t id → (on : Bool) → active t ≡ on → cond on (kept_alternative r id t) (Ok (with_left_out r id)) ≡ Ok next → IsRosterOf (before ++ t ∷ []) next
    by id new true is e =
        let b = bind_ok (refuse _ (nat_le 200 (length r.kept))) _ next e in
        let same : with_kept r id ≡ next = (let r : ◌≡◌ {A = Result Roster TableFault} (Ok (with_kept r id)) (Ok next) = b.2 in cc) in
        subst (IsRosterOf (before ++ t ∷ [])) same (kept_more before r t id are new is)
    by id new false is e =
        let same : with_left_out r id ≡ next = (let r : ◌≡◌ {A = Result Roster TableFault} (Ok (with_left_out r id)) (Ok next) = e in cc) in
        subst (IsRosterOf (before ++ t ∷ [])) same (left_out_more before r t id are new is)

pub alternatives_read : (root : Tree) (r : Roster) → alternatives_of root ≡ Ok r → IsRosterOf (listed_alternatives root) r
unfolding alternatives_of
alternatives_read root r e = read_all_from_first IsRosterOf alternative alternative_more nothing_listed (listed_alternatives root) r nothing_yet e

alternative_entry : (r : Roster) (t : Tree) (next : Roster) → alternative r t ≡ Ok next → IsEntry t
unfolding alternative
alternative_entry r t next e =
    let a = bind_ok (new_id r t) _ next e in
    let b = bind_ok (is_active t) _ next a.2 in
    entry r t a.0 b.0 a.1 b.1

pub alternative_entries : (root : Tree) (r : Roster) → alternatives_of root ≡ Ok r → AreEntries (listed_alternatives root)
unfolding alternatives_of
alternative_entries root r e = record { each = each_is IsEntry alternative alternative_entry nothing_listed (listed_alternatives root) r e; once = (alternatives_read root r e).once }

-- ---- criteria

abbrev pub direction_element : Tree → Option Tree
direction_element t = first_of (at_path (codes "scale" ∷ codes "quantitative" ∷ codes "preferenceDirection" ∷ []) t)

-- what was read of some criteria
pub record AreCriteria (before : List Tree) (c : Criteria) : Type 0 where
  pub ids : IsRosterOf before c.ids
  pub directions : AllZip (λ t d. IsDirection (direction_element t) d) (filter active before) c.directions
  pub quantitative : AllByRecursion IsQuantitative (filter active before)

direction_is : (t : Tree) (d : Direction) → criterion_direction t ≡ Ok d → IsDirection (direction_element t) d
unfolding criterion_direction
direction_is t d e = by (direction_element t) e
  where
    by : (o : Option Tree) → direction_at o ≡ Ok d → IsDirection o d
    by None e = (let r : ◌≡◌ {A = Result Direction TableFault} (Ok Max) (Ok d) = e in cc)
    by (Some x) e = need_ok _ (direction_of (text_of x)) d e

quantitative_is : (t : Tree) (u : Unit {0}) → no_qualitative t ≡ Ok u → IsQuantitative t
unfolding no_qualitative
quantitative_is t u e = by (at_path (codes "scale" ∷ codes "qualitative" ∷ []) t) e
  where
    by : (ts : List Tree) → no_qualitative_at (first_of ts) ≡ Ok u → ts ≡ []
    by [] e = refl
    by (x ∷ ts) e = absurd cc

pub criterion_more : (before : List Tree) (c : Criteria) (t : Tree) (next : Criteria) → AreCriteria before c → criterion c t ≡ Ok next → AreCriteria (before ++ t ∷ []) next
unfolding criterion
criterion_more before c t next are e =
    let a = bind_ok (new_id c.ids t) _ next e in
    let b = bind_ok (is_active t) _ next a.2 in
    by a.0 (new_id_of c.ids t a.0 a.1) b.0 (active_is t b.0 b.1) b.2
  where
    by : (id : List ℕ) → IsNewId c.ids t id → (on : Bool) → active t ≡ on → cond on (kept_criterion c id t) (Ok (record c { ids = with_left_out c.ids id })) ≡ Ok next → AreCriteria (before ++ t ∷ []) next
    by id new true is e =
        let b = bind_ok (refuse _ (nat_le 64 (length c.ids.kept))) _ next e in
        let q = bind_ok (no_qualitative t) _ next b.2 in
        let d = bind_ok (criterion_direction t) _ next q.2 in
        let more : Criteria = record { ids = with_kept c.ids id; directions = c.directions ++ d.0 ∷ [] } in
        let same : more ≡ next = (let r : ◌≡◌ {A = Result Criteria TableFault} (Ok more) (Ok next) = d.2 in cc) in
        subst (AreCriteria (before ++ t ∷ [])) same (record {
          ids = kept_more before c.ids t id are.ids new is;
          directions = rw (filter-push_yes active before t is) (zip-append (λ t d. IsDirection (direction_element t) d) (filter active before) c.directions (t ∷ []) (d.0 ∷ []) are.directions (direction_is t d.0 d.1, tt));
          quantitative = rw (filter-push_yes active before t is) (all-append IsQuantitative (filter active before) (t ∷ []) are.quantitative (quantitative_is t q.0 q.1, tt));
        })
    by id new false is e =
        let less : Criteria = record c { ids = with_left_out c.ids id } in
        let same : less ≡ next = (let r : ◌≡◌ {A = Result Criteria TableFault} (Ok less) (Ok next) = e in cc) in
        subst (AreCriteria (before ++ t ∷ [])) same (record {
          ids = left_out_more before c.ids t id are.ids new is;
          directions = rw (filter-push_no active before t is) are.directions;
          quantitative = rw (filter-push_no active before t is) are.quantitative;
        })

criteria_read : (root : Tree) (c : Criteria) → criteria_of root ≡ Ok c → AreCriteria (listed_criteria root) c
unfolding criteria_of
criteria_read root c e = read_all_from_first AreCriteria criterion criterion_more no_criteria (listed_criteria root) c (record { ids = nothing_yet; directions = tt; quantitative = tt }) e

pub criteria_listed : (root : Tree) (c : Criteria) → criteria_of root ≡ Ok c → IsRosterOf (listed_criteria root) c.ids
criteria_listed root c e = (criteria_read root c e).ids

pub criteria_quantitative : (root : Tree) (c : Criteria) → criteria_of root ≡ Ok c → AllByRecursion IsQuantitative (filter active (listed_criteria root))
criteria_quantitative root c e = (criteria_read root c e).quantitative

criterion_entry : (c : Criteria) (t : Tree) (next : Criteria) → criterion c t ≡ Ok next → IsEntry t
unfolding criterion
criterion_entry c t next e =
    let a = bind_ok (new_id c.ids t) _ next e in
    let b = bind_ok (is_active t) _ next a.2 in
    entry c.ids t a.0 b.0 a.1 b.1

pub criterion_entries : (root : Tree) (c : Criteria) → criteria_of root ≡ Ok c → AreEntries (listed_criteria root)
unfolding criteria_of
criterion_entries root c e = record { each = each_is IsEntry criterion criterion_entry no_criteria (listed_criteria root) c e; once = (criteria_read root c e).ids.once }

-- the criteria of these ids, from a place on
abbrev made : List Direction → ℕ → List (List ℕ) → List Criterion
made ds k [] = []
made ds k (id ∷ ids) = record { id = id; direction = slice_index_or ds k Max; linear = false } ∷ made ds (k + 1) ids

with_criteria-made : (ds : List Direction) (t : DecisionTable) (k : ℕ) (ids : List (List ℕ)) → (with_criteria ds t (enumerate_from k ids)).criteria ≡ t.criteria ++ made ds k ids
with_criteria-made ds t k [] = sym (append-nil t.criteria)
with_criteria-made ds t k (id ∷ ids) =
    let c : Criterion = record { id = id; direction = slice_index_or ds k Max; linear = false } in
    with_criteria-made ds (add_criterion t id (record { direction = slice_index_or ds k Max; linear = false })) (k + 1) ids ∙ append_assoc t.criteria (c ∷ []) (made ds (k + 1) ids)

-- the direction at the place where those before end
direction_next : (before : List Direction) (d : Direction) (more : List Direction) → slice_index_or (before ++ d ∷ more) (length before) Max ≡ d
direction_next [] d more = refl
direction_next (x ∷ before) d more = direction_next before d more

made_are : (before : List Direction) (ts : List Tree) (ids : List (List ℕ)) (ds : List Direction) → AllZip (λ t id. id_of t ≡ Some id) ts ids → AllZip (λ t d. IsDirection (direction_element t) d) ts ds
    → AllZip IsCriterion ts (made (before ++ ds) (length before) ids)
made_are before [] [] [] h k = tt
made_are before [] [] (d ∷ ds) h k = absurd k
made_are before [] (id ∷ ids) ds h k = absurd h
made_are before (t ∷ ts) [] ds h k = absurd h
made_are before (t ∷ ts) (id ∷ ids) [] h k = absurd k
made_are before (t ∷ ts) (id ∷ ids) (d ∷ ds) h k =
    let here : slice_index_or (before ++ d ∷ ds) (length before) Max ≡ d = direction_next before d ds in
    let rest : AllZip IsCriterion ts (made ((before ++ d ∷ []) ++ ds) (length (before ++ d ∷ [])) ids) = made_are (before ++ d ∷ []) ts ids ds h.1 k.1 in
    let lists : (before ++ d ∷ []) ++ ds ≡ before ++ d ∷ ds = append_assoc before (d ∷ []) ds in (
      record { id = h.0; direction = subst (λ (x : Direction). IsDirection (direction_element t) x) (sym here) k.0; stepwise = refl },
      subst (λ (n : ℕ). AllZip IsCriterion ts (made (before ++ d ∷ ds) n ids)) (length_push before d) (subst (λ (xs : List Direction). AllZip IsCriterion ts (made xs (length (before ++ d ∷ [])) ids)) lists rest),
    )

pub criteria_made : (root : Tree) (c : Criteria) → criteria_of root ≡ Ok c → AllZip IsCriterion (filter active (listed_criteria root)) (criteria_table c).criteria
unfolding criteria_table
criteria_made root c e =
    let are = criteria_read root c e in
    rw (with_criteria-made c.directions empty_table 0 c.ids.kept) (made_are [] (filter active (listed_criteria root)) c.ids.kept c.directions are.ids.kept are.directions)

-- ---- categories

-- what was read of some categories
pub record AreCategories (before : List Tree) (c : Categories) : Type 0 where
  pub ids : IsRosterOf before c.ids
  pub ranks : c.ranks ≡ map rank_in (filter active before)
  pub ranked : AllByRecursion (λ t. is_some (rank_said t) ≡ true) (filter active before)

rank_read : (ranks : List ℤ) (t : Tree) (rank : ℤ) → rank_of ranks t ≡ Ok rank → rank_said t ≡ Some rank
unfolding rank_of
rank_read ranks t rank e =
    let a = bind_ok (need _ (first_of (at_path (codes "rank" ∷ codes "integer" ∷ []) t))) _ rank e in
    let b = bind_ok (need _ (read_performance (text_of a.0))) _ rank a.2 in
    let c = bind_ok (refuse _ (list_any (int_eq b.0) ranks)) _ rank b.2 in
    let same : b.0 ≡ rank = (let r : ◌≡◌ {A = Result ℤ TableFault} (Ok b.0) (Ok rank) = c.2 in cc) in
    let element : first_of (at_path (codes "rank" ∷ codes "integer" ∷ []) t) ≡ Some a.0 = need_ok _ _ a.0 a.1 in
    let number : read_performance (text_of a.0) ≡ Some b.0 = need_ok _ (read_performance (text_of a.0)) b.0 b.1 in
    ap (option_and_then (λ integer. read_performance (text_of integer))) element ∙ number ∙ ap (λ (z : ℤ). Some z) same

rank_is : (ranks : List ℤ) (t : Tree) (rank : ℤ) → rank_of ranks t ≡ Ok rank → rank_in t ≡ rank
unfolding rank_in
rank_is ranks t rank e = ap (λ (o : Option ℤ). unwrap_or o (pos 0)) (rank_read ranks t rank e)

pub category_more : (before : List Tree) (c : Categories) (t : Tree) (next : Categories) → AreCategories before c → category c t ≡ Ok next → AreCategories (before ++ t ∷ []) next
unfolding category
category_more before c t next are e =
    let a = bind_ok (new_id c.ids t) _ next e in
    let b = bind_ok (is_active t) _ next a.2 in
    by a.0 (new_id_of c.ids t a.0 a.1) b.0 (active_is t b.0 b.1) b.2
  where
    by : (id : List ℕ) → IsNewId c.ids t id → (on : Bool) → active t ≡ on → cond on (kept_category c id t) (Ok (record c { ids = with_left_out c.ids id })) ≡ Ok next → AreCategories (before ++ t ∷ []) next
    by id new true is e =
        let b = bind_ok (rank_of c.ranks t) _ next e in
        let d = bind_ok (refuse _ (nat_le 100 (length c.ranks))) _ next b.2 in
        let more : Categories = record { ids = with_kept c.ids id; ranks = c.ranks ++ b.0 ∷ [] } in
        let same : more ≡ next = (let r : ◌≡◌ {A = Result Categories TableFault} (Ok more) (Ok next) = d.2 in cc) in
        let ranks : c.ranks ++ b.0 ∷ [] ≡ map rank_in (filter active (before ++ t ∷ [])) =
        ap (λ (z : ℤ). c.ranks ++ z ∷ []) (sym (rank_is c.ranks t b.0 b.1)) ∙ ap (λ (zs : List ℤ). zs ++ rank_in t ∷ []) are.ranks ∙ sym (map_push rank_in (filter active before) t) ∙ ap (map rank_in) (sym (filter-push_yes active before t is)) in
        subst (AreCategories (before ++ t ∷ [])) same (record { ids = kept_more before c.ids t id are.ids new is; ranks = ranks; ranked = rw (filter-push_yes active before t is) (all-append (λ t. is_some (rank_said t) ≡ true) (filter active before) (t ∷ []) are.ranked (ap is_some (rank_read c.ranks t b.0 b.1), tt)) })
    by id new false is e =
        let less : Categories = record c { ids = with_left_out c.ids id } in
        let same : less ≡ next = (let r : ◌≡◌ {A = Result Categories TableFault} (Ok less) (Ok next) = e in cc) in
        subst (AreCategories (before ++ t ∷ [])) same (record { ids = left_out_more before c.ids t id are.ids new is; ranks = are.ranks ∙ ap (map rank_in) (sym (filter-push_no active before t is)); ranked = rw (filter-push_no active before t is) are.ranked })

pub categories_read : (root : Tree) (c : Categories) → categories_of root ≡ Ok c → AreCategories (listed_categories root) c
unfolding categories_of
categories_read root c e = read_all_from_first AreCategories category category_more no_categories (listed_categories root) c (record { ids = nothing_yet; ranks = refl; ranked = tt }) e

category_entry : (c : Categories) (t : Tree) (next : Categories) → category c t ≡ Ok next → IsEntry t
unfolding category
category_entry c t next e =
    let a = bind_ok (new_id c.ids t) _ next e in
    let b = bind_ok (is_active t) _ next a.2 in
    entry c.ids t a.0 b.0 a.1 b.1

pub category_entries : (root : Tree) (c : Categories) → categories_of root ≡ Ok c → AreEntries (listed_categories root)
unfolding categories_of
category_entries root c e = record { each = each_is IsEntry category category_entry no_categories (listed_categories root) c e; once = (categories_read root c e).ids.once }

pairs_back : (f : Tree → ℤ) (ts : List Tree) → AllPairs (λ x y. x ≢ y) (map f ts) → AllPairs (λ s t. f s ≢ f t) ts
pairs_back f ts apart i j d less within same =
    let size = length-map ts f in
    let before : i < length ts = omega (arith, less, within) in
    let placed : j < length (map f ts) = omega (arith, size, within) in
    apart i j (f d) less placed (get_or-map f ts i d (f d) before ∙ same ∙ sym (get_or-map f ts j d (f d) within))

pub categories_ranked : (root : Tree) (c : Categories) → AreCategories (listed_categories root) c → AreApart c → AreRanked (filter active (listed_categories root))
categories_ranked root c are apart = record { each = are.ranked; apart = pairs_back rank_in (filter active (listed_categories root)) (subst (λ (zs : List ℤ). AllPairs (λ x y. x ≢ y) zs) are.ranks apart) }

made_ids : (ds : List Direction) (k : ℕ) (ids : List (List ℕ)) → map (λ c. c.id) (made ds k ids) ≡ ids
made_ids ds k [] = refl
made_ids ds k (id ∷ ids) = ap (λ (xs : List (List ℕ)). id ∷ xs) (made_ids ds (k + 1) ids)

pub criteria_table-ids : (c : Criteria) → criterion_ids (criteria_table c) ≡ c.ids.kept
unfolding criteria_table
criteria_table-ids c = ap (map (λ c. c.id)) (with_criteria-made c.directions empty_table 0 c.ids.kept) ∙ made_ids c.directions 0 c.ids.kept
