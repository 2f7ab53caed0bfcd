-- That what a file lists is read: its categories, alternatives and criteria.
use Rattle.std.proofs.Common.{◌≡◌, ℕ, ◌<◌, ◌≤◌, Bool, true, false, List, [], ◌∷◌, ◌++◌, length, get_or, Option, Some, None, Ok, ℤ, pos, refl, sym, ap, ◌∙◌, arith, cond, subst}
use Rattle.std.specs.Prelude.{◌≢◌, AllPairs, codes, filter, is_some, nat_le, option_and_then, unwrap_or}
use Rattle.std.specs.List.{list_any, AllByRecursion}
use Rattle.std.specs.Ordering.{int_eq}
use Rattle.std.proofs.lemmas.Bool.{lt-leb}
use Rattle.std.proofs.lemmas.Bool.Decides.{Decides-int_eq}
use Rattle.std.proofs.lemmas.List.{length-map}
use Rattle.std.proofs.lemmas.List.Elements.{filter-append}
use Rattle.ror_text.specs.Numbers.{read_performance}
use Rattle.ror_text.specs.Reading.{refuse, need}
use Rattle.ror_text.proofs.ReadingLemmas.{need_ok}
use Rattle.ror_table.specs.declared.direction.Direction.{Direction}
use Rattle.ror_table.specs.declared.direction.Direction.TheVariants.{Max}
use Rattle.ror_table.specs.Plain.{direction_of}
use Rattle.ror_elements.specs.Tree.{Tree}
use Rattle.ror_xmcda.specs.declared.categories.Categories.{Categories}
use Rattle.ror_xmcda.specs.declared.criteria.Criteria.{Criteria}
use Rattle.ror_xmcda.specs.declared.roster.Roster.{Roster}
use Rattle.ror_xmcda.specs.Nodes.{id_of, text_of, at_path, first_of}
use Rattle.ror_xmcda.specs.Roster.{nothing_listed, with_kept, with_left_out}
use Rattle.ror_xmcda.specs.Listing.{new_id, is_active}
use Rattle.ror_xmcda.specs.Categories.{rank_of, kept_category, category, no_categories, categories_of}
use Rattle.ror_xmcda.specs.Alternatives.{kept_alternative, alternative, alternatives_of}
use Rattle.ror_xmcda.specs.Criteria.{no_qualitative_at, no_qualitative, direction_at, criterion_direction, kept_criterion, criterion, no_criteria, criteria_of}
use Rattle.ror_xmcda.specs.Meaning.{active, listed_categories, listed_alternatives, listed_criteria, IsEntry, AreEntries, IsDirection, IsQuantitative, rank_said, rank_in, AreRanked}
use Rattle.ror_xmcda.proofs.MeaningLemmas.{active_is, IsRosterOf, nothing_yet}
use Rattle.ror_xmcda.proofs.MeaningListing.{alternative_more, direction_element, AreCriteria, criterion_more, AreCategories, category_more}
use Rattle.ror_xmcda.proofs.ReadableLemmas.{Reads, reads_ok, reads_bind, reads_refuse, reads_need, reads_on, middle, apart_before, none_mapped, zip_length, room, of_filtered, new_id_reads, active_reads}

-- there is room for one more
fits : (n m most : ℕ) → n ≡ m → m < most → nat_le most n ≡ false
fits n m most same less = lt-leb most n (omega (arith, same, less))

-- ---- alternatives

alternative_reads : (before after : List Tree) (t : Tree) (r : Roster) → AreEntries (before ++ t ∷ after) → length (filter active (before ++ t ∷ after)) ≤ 200 → IsRosterOf before r → Reads (alternative r t)
unfolding alternative
alternative_reads before after t r entries few are =
    reads_bind (new_id r t) _ (new_id_reads before after t r entries are) (λ id e.
    reads_bind (is_active t) _ (active_reads t (middle IsEntry before t after entries.each).active) (λ on f. by id on (active_is t on f)))
  where
    by : (id : List ℕ) (on : Bool) → active t ≡ on → Reads (cond on (kept_alternative r id t) (Ok (with_left_out r id)))
    by id true is =
        let size = zip_length (λ t id. id_of t ≡ Some id) (filter active before) r.kept are.kept in
        let more = room active before t after is in
        reads_bind (refuse _ (nat_le 200 (length r.kept))) _ (reads_refuse _ (nat_le 200 (length r.kept)) (fits (length r.kept) (length (filter active before)) 200 (sym size) (omega (arith, more, few)))) (λ u f. reads_ok (with_kept r id))
    by id false is = reads_ok (with_left_out r id)

pub alternatives_reads : (root : Tree) → AreEntries (listed_alternatives root) → length (filter active (listed_alternatives root)) ≤ 200 → Reads (alternatives_of root)
unfolding alternatives_of
alternatives_reads root entries few =
    reads_on IsRosterOf alternative (listed_alternatives root) alternative_more (λ before t after r is are.
    alternative_reads before after t r (subst AreEntries (sym is) entries) (subst (λ (ts : List Tree). length (filter active ts) ≤ 200) (sym is) few) are) [] nothing_listed (listed_alternatives root) refl nothing_yet

-- ---- criteria

-- an element says a direction
abbrev pub SaysDirection : Tree → Type 0
SaysDirection t = (d : Direction) × IsDirection (direction_element t) d

direction_reads : (t : Tree) → SaysDirection t → Reads (criterion_direction t)
unfolding criterion_direction
direction_reads t h = by (direction_element t) h.0 h.1
  where
    by : (o : Option Tree) (d : Direction) → IsDirection o d → Reads (direction_at o)
    by None d h = reads_ok Max
    by (Some x) d h = reads_need _ (direction_of (text_of x)) (ap is_some h)

quantitative_reads : (t : Tree) → IsQuantitative t → Reads (no_qualitative t)
unfolding no_qualitative
quantitative_reads t h = subst (λ (ts : List Tree). Reads (no_qualitative_at (first_of ts))) (sym h) (reads_ok tt)

-- what has to hold of some criteria
record MayBeRead (ts : List Tree) : Type 0 where
  entries : AreEntries ts
  few : length (filter active ts) ≤ 64
  quantitative : AllByRecursion IsQuantitative (filter active ts)
  directions : AllByRecursion SaysDirection (filter active ts)

criterion_reads : (before after : List Tree) (t : Tree) (c : Criteria) → MayBeRead (before ++ t ∷ after) → AreCriteria before c → Reads (criterion c t)
unfolding criterion
criterion_reads before after t c may are =
    reads_bind (new_id c.ids t) _ (new_id_reads before after t c.ids may.entries are.ids) (λ id e.
    reads_bind (is_active t) _ (active_reads t (middle IsEntry before t after may.entries.each).active) (λ on f. by id on (active_is t on f)))
  where
    by : (id : List ℕ) (on : Bool) → active t ≡ on → Reads (cond on (kept_criterion c id t) (Ok (record c { ids = with_left_out c.ids id })))
    by id true is =
        let size = zip_length (λ t id. id_of t ≡ Some id) (filter active before) c.ids.kept are.ids.kept in
        let more = room active before t after is in
        let few = may.few in
        reads_bind (refuse _ (nat_le 64 (length c.ids.kept))) _ (reads_refuse _ (nat_le 64 (length c.ids.kept)) (fits (length c.ids.kept) (length (filter active before)) 64 (sym size) (omega (arith, more, few)))) (λ u f.
        reads_bind (no_qualitative t) _ (quantitative_reads t (of_filtered IsQuantitative active before t after is may.quantitative)) (λ v g.
        reads_bind (criterion_direction t) _ (direction_reads t (of_filtered SaysDirection active before t after is may.directions)) (λ d h. reads_ok _)))
    by id false is = reads_ok _

pub criteria_reads : (root : Tree) → AreEntries (listed_criteria root) → length (filter active (listed_criteria root)) ≤ 64 → AllByRecursion IsQuantitative (filter active (listed_criteria root)) → AllByRecursion SaysDirection (filter active (listed_criteria root)) → Reads (criteria_of root)
unfolding criteria_of
criteria_reads root entries few quantitative directions =
    let may : MayBeRead (listed_criteria root) = record { entries = entries; few = few; quantitative = quantitative; directions = directions } in
    reads_on AreCriteria criterion (listed_criteria root) criterion_more (λ before t after c is are. criterion_reads before after t c (subst MayBeRead (sym is) may) are) [] no_criteria (listed_criteria root) refl (record { ids = nothing_yet; directions = tt; quantitative = tt })

-- ---- categories

and_then_some : {A B : Type 0} (f : A → Option B) (o : Option A) → is_some (option_and_then f o) ≡ true → is_some o ≡ true
and_then_some f None e = absurd cc
and_then_some f (Some x) e = refl

no_rank : (x y : ℤ) → y ≢ x → int_eq x y ≡ false
no_rank x y apart = by (int_eq x y) refl
  where
    by : (b : Bool) → int_eq x y ≡ b → b ≡ false
    by true e = absurd (apart (sym ((Decides-int_eq x y).0 e)))
    by false e = refl

rank_apart : (before after : List Tree) (t : Tree) → AreRanked (filter active (before ++ t ∷ after)) → active t ≡ true → (k : ℕ) (d : Tree) → k < length (filter active before) → rank_in (get_or (filter active before) k d) ≢ rank_in t
rank_apart before after t ranked is =
    let lists : filter active (before ++ t ∷ after) ≡ filter active before ++ t ∷ filter active after = filter-append active before (t ∷ after) ∙ ap (λ b. filter active before ++ cond b (t ∷ filter active after) (filter active after)) is in
    apart_before (λ s t. rank_in s ≢ rank_in t) (filter active before) t (filter active after) (subst (AllPairs (λ s t. rank_in s ≢ rank_in t)) lists ranked.apart)

rank_reads : (before after : List Tree) (t : Tree) (c : Categories) → AreRanked (filter active (before ++ t ∷ after)) → active t ≡ true → AreCategories before c → Reads (rank_of c.ranks t)
unfolding rank_of rank_in
rank_reads before after t c ranked is are =
    let path : Option Tree = first_of (at_path (codes "rank" ∷ codes "integer" ∷ []) t) in
    let number : Tree → Option ℤ = λ integer. read_performance (text_of integer) in
    let said : is_some (option_and_then number path) ≡ true = of_filtered (λ t. is_some (rank_said t) ≡ true) active before t after is ranked.each in
    reads_bind (need _ path) _ (reads_need _ path (and_then_some number path said)) (λ integer e.
    let there : path ≡ Some integer = need_ok _ path integer e in
    reads_bind (need _ (number integer)) _ (reads_need _ (number integer) (sym (ap (λ (o : Option Tree). is_some (option_and_then number o)) there) ∙ said)) (λ rank f.
    let own : rank_in t ≡ rank = ap (λ (o : Option ℤ). unwrap_or o (pos 0)) (ap (option_and_then number) there ∙ need_ok _ (number integer) rank f) in
    reads_bind (refuse _ (list_any (int_eq rank) c.ranks)) _ (reads_refuse _ (list_any (int_eq rank) c.ranks) (free rank own)) (λ u g. reads_ok rank)))
  where
    free : (rank : ℤ) → rank_in t ≡ rank → list_any (int_eq rank) c.ranks ≡ false
    free rank own =
        ap (list_any (int_eq rank)) are.ranks
        ∙ none_mapped (int_eq rank) rank_in (filter active before) (λ k d l. no_rank rank (rank_in (get_or (filter active before) k d)) (λ same. rank_apart before after t ranked is k d l (same ∙ sym own)))

-- what has to hold of some categories
record MayBeRanked (ts : List Tree) : Type 0 where
  entries : AreEntries ts
  few : length (filter active ts) ≤ 100
  ranked : AreRanked (filter active ts)

category_reads : (before after : List Tree) (t : Tree) (c : Categories) → MayBeRanked (before ++ t ∷ after) → AreCategories before c → Reads (category c t)
unfolding category
category_reads before after t c may are =
    reads_bind (new_id c.ids t) _ (new_id_reads before after t c.ids may.entries are.ids) (λ id e.
    reads_bind (is_active t) _ (active_reads t (middle IsEntry before t after may.entries.each).active) (λ on f. by id on (active_is t on f)))
  where
    by : (id : List ℕ) (on : Bool) → active t ≡ on → Reads (cond on (kept_category c id t) (Ok (record c { ids = with_left_out c.ids id })))
    by id true is =
        let size : length c.ranks ≡ length (filter active before) = ap length are.ranks ∙ length-map (filter active before) rank_in in
        let more = room active before t after is in
        let few = may.few in
        reads_bind (rank_of c.ranks t) _ (rank_reads before after t c may.ranked is are) (λ rank f.
        reads_bind (refuse _ (nat_le 100 (length c.ranks))) _ (reads_refuse _ (nat_le 100 (length c.ranks)) (fits (length c.ranks) (length (filter active before)) 100 size (omega (arith, more, few)))) (λ u g. reads_ok _))
    by id false is = reads_ok _

pub categories_reads : (root : Tree) → AreEntries (listed_categories root) → length (filter active (listed_categories root)) ≤ 100 → AreRanked (filter active (listed_categories root)) → Reads (categories_of root)
unfolding categories_of
categories_reads root entries few ranked =
    let may : MayBeRanked (listed_categories root) = record { entries = entries; few = few; ranked = ranked } in
    reads_on AreCategories category (listed_categories root) category_more (λ before t after c is are. category_reads before after t c (subst MayBeRanked (sym is) may) are) [] no_categories (listed_categories root) refl (record { ids = nothing_yet; ranks = refl; ranked = tt })
