-- The first fault of what a document lists.
use Rattle.std.proofs.Common.{◌≡◌, ℕ, Bool, true, false, List, [], ◌∷◌, ◌++◌, length, map, Option, Some, None, Result, Ok, ℤ, pos, refl, sym, ap, ◌∙◌, cond, subst, append_assoc}
use Rattle.std.specs.Prelude.{codes, filter, not, is_some, nat_le, option_and_then, unwrap_or, ◌||◌}
use Rattle.std.specs.List.{list_any}
use Rattle.std.specs.Ordering.{int_eq}
use Rattle.std.proofs.lemmas.List.{length-map}
use Rattle.ror_text.specs.Numbers.{read_performance}
use Rattle.ror_text.specs.Reading.{◌>>=◌, refuse, need}
use Rattle.ror_text.proofs.ReadingLemmas.{need_ok}
use Rattle.ror_table.specs.declared.limits.TheConstants.{MOST_ALTERNATIVES, MOST_CLASSES, MOST_CRITERIA}
use Rattle.ror_table.specs.declared.fault.Kind.TheVariants as unsupported
use Rattle.ror_table.specs.declared.fault.What.TheVariants as whats
use Rattle.ror_table.specs.declared.fault.TableFault.{TableFault}
use Rattle.ror_table.specs.declared.fault.TableKind.TheVariants.{BadNumber, RepeatedId, TooMany, Unsupported}
use Rattle.ror_table.specs.Plain.{at_line, direction_of}
use Rattle.ror_elements.specs.Tree.{Tree}
use Rattle.ror_xmcda.specs.declared.categories.Categories.{Categories}
use Rattle.ror_xmcda.specs.declared.criteria.Criteria.{Criteria}
use Rattle.ror_xmcda.specs.declared.roster.Roster.{Roster}
use Rattle.ror_xmcda.specs.Nodes.{id_of, text_of, line_of, first_named, at_path, first_of}
use Rattle.ror_xmcda.specs.Roster.{nothing_listed, with_kept, with_left_out}
use Rattle.ror_xmcda.specs.Listing.{new_id, is_active}
use Rattle.ror_xmcda.specs.Categories.{rank_of, kept_category, category, no_categories, categories_of}
use Rattle.ror_xmcda.specs.Alternatives.{kept_alternative, alternative, alternatives_of}
use Rattle.ror_xmcda.specs.Criteria.{no_qualitative_at, no_qualitative, direction_at, criterion_direction, kept_criterion, criterion, no_criteria, criteria_of}
use Rattle.ror_xmcda.specs.Content.{listed_of}
use Rattle.ror_xmcda.specs.Meaning.{active, listed_categories, listed_alternatives, listed_criteria, rank_in, is_id_of}
use Rattle.ror_xmcda.specs.Faults.{fault_if, all_in_order, is_some_id, active_faults, entry_faults, if_active, is_past, rank_faults, category_faults, alternative_faults, qualitative_faults, direction_faults, criterion_faults, listed_faults}
use Rattle.ror_xmcda.proofs.MeaningLemmas.{active_is, IsRosterOf, nothing_yet}
use Rattle.ror_xmcda.proofs.MeaningListing.{alternative_more, AreCriteria, criterion_more, AreCategories, category_more}
use Rattle.ror_xmcda.proofs.ReadableLemmas.{zip_length}
use Rattle.ror_xmcda.proofs.AgreeLemmas.{Agrees, agrees_bind, agrees_last, agrees_three, agrees_refuse, agrees_need, agrees_all, new_id_agrees, active_agrees}

-- an entry, and what is made of it
entry_agrees : {A : Type 0} (before : List Tree) (t : Tree) (r : Roster) (kept : List ℕ → Result A TableFault) (left_out : List ℕ → A) (more : List TableFault) → IsRosterOf before r → ((id : List ℕ) → Agrees (kept id) more)
    → Agrees (new_id r t >>= λ id. is_active t >>= λ on. cond on (kept id) (Ok (left_out id))) (entry_faults before t ++ if_active t more)
entry_agrees before t r kept left_out more are each =
    let one : List TableFault = fault_if (at_line (line_of t) (Unsupported unsupported.Id)) (not (is_some_id (id_of t))) in
    let two : List TableFault = fault_if (at_line (line_of t) RepeatedId) (is_id_of before (id_of t)) in
    let three : List TableFault = active_faults (first_named (codes "active") t) in
    subst (λ (xs : List TableFault). Agrees (new_id r t >>= λ id. is_active t >>= λ on. cond on (kept id) (Ok (left_out id))) xs) (lists one two three (if_active t more))
    (agrees_bind (new_id r t) (λ id. is_active t >>= λ on. cond on (kept id) (Ok (left_out id))) (one ++ two) (three ++ if_active t more) (new_id_agrees before t r are) (λ id e.
    agrees_bind (is_active t) (λ on. cond on (kept id) (Ok (left_out id))) three (if_active t more) (active_agrees t) (λ on f.
    subst (λ b. Agrees (cond on (kept id) (Ok (left_out id))) (cond b more [])) (sym (active_is t on f)) (by id on))))
  where
    lists : (a b c d : List TableFault) → (a ++ b) ++ (c ++ d) ≡ ((a ++ b) ++ c) ++ d
    lists a b c d = sym (append_assoc (a ++ b) c d)

    by : (id : List ℕ) (on : Bool) → Agrees (cond on (kept id) (Ok (left_out id))) (cond on more [])
    by id true = each id
    by id false = refl

past_agrees : (fault : TableFault) (most n : ℕ) (before : List Tree) → n ≡ length (filter active before) → Agrees (refuse fault (nat_le most n)) (fault_if fault (is_past most before))
past_agrees fault most n before same = subst (λ (m : ℕ). Agrees (refuse fault (nat_le most n)) (fault_if fault (nat_le most m))) same (agrees_refuse fault (nat_le most n))

kept_number : (before : List Tree) (r : Roster) → IsRosterOf before r → length r.kept ≡ length (filter active before)
kept_number before r are = sym (zip_length (λ t id. id_of t ≡ Some id) (filter active before) r.kept are.kept)

-- ---- alternatives

alternative_agrees : (before : List Tree) (r : Roster) (t : Tree) → IsRosterOf before r → Agrees (alternative r t) (alternative_faults before t)
unfolding alternative
alternative_agrees before r t are =
    let past : List TableFault = fault_if (at_line (line_of t) (TooMany whats.Alternatives)) (is_past MOST_ALTERNATIVES before) in
    entry_agrees before t r (λ id. kept_alternative r id t) (λ id. with_left_out r id) past are (λ id.
    agrees_last (refuse (at_line (line_of t) (TooMany whats.Alternatives)) (nat_le 200 (length r.kept))) (λ u. with_kept r id) past (past_agrees (at_line (line_of t) (TooMany whats.Alternatives)) 200 (length r.kept) before (kept_number before r are)))

alternatives_agree : (root : Tree) → Agrees (alternatives_of root) (all_in_order alternative_faults (listed_alternatives root))
unfolding alternatives_of
alternatives_agree root = agrees_all IsRosterOf alternative alternative_faults alternative_more (λ before r t are. alternative_agrees before r t are) [] nothing_listed (listed_alternatives root) nothing_yet

-- ---- criteria

qualitative_agrees : (t : Tree) → Agrees (no_qualitative t) (qualitative_faults (first_of (at_path (codes "scale" ∷ codes "qualitative" ∷ []) t)))
unfolding no_qualitative
qualitative_agrees t = by (first_of (at_path (codes "scale" ∷ codes "qualitative" ∷ []) t))
  where
    by : (o : Option Tree) → Agrees (no_qualitative_at o) (qualitative_faults o)
    by None = refl
    by (Some x) = refl

direction_agrees : (t : Tree) → Agrees (criterion_direction t) (direction_faults (first_of (at_path (codes "scale" ∷ codes "quantitative" ∷ codes "preferenceDirection" ∷ []) t)))
unfolding criterion_direction
direction_agrees t = by (first_of (at_path (codes "scale" ∷ codes "quantitative" ∷ codes "preferenceDirection" ∷ []) t))
  where
    by : (o : Option Tree) → Agrees (direction_at o) (direction_faults o)
    by None = refl
    by (Some x) = agrees_need (at_line (line_of x) (Unsupported unsupported.Direction)) (direction_of (text_of x))

criterion_agrees : (before : List Tree) (c : Criteria) (t : Tree) → AreCriteria before c → Agrees (criterion c t) (criterion_faults before t)
unfolding criterion
criterion_agrees before c t are =
    let past : List TableFault = fault_if (at_line (line_of t) (TooMany whats.Criteria)) (is_past MOST_CRITERIA before) in
    let scale : List TableFault = qualitative_faults (first_of (at_path (codes "scale" ∷ codes "qualitative" ∷ []) t)) in
    let direction : List TableFault = direction_faults (first_of (at_path (codes "scale" ∷ codes "quantitative" ∷ codes "preferenceDirection" ∷ []) t)) in
    entry_agrees before t c.ids (λ id. kept_criterion c id t) (λ id. record c { ids = with_left_out c.ids id }) ((past ++ scale) ++ direction) are.ids (λ id.
    agrees_three (kept_criterion c id t) past scale direction (agrees_bind (refuse (at_line (line_of t) (TooMany whats.Criteria)) (nat_le 64 (length c.ids.kept))) _ past (scale ++ direction) (past_agrees (at_line (line_of t) (TooMany whats.Criteria)) 64 (length c.ids.kept) before (kept_number before c.ids are.ids)) (λ u e.
    agrees_bind (no_qualitative t) _ scale direction (qualitative_agrees t) (λ v f. agrees_last (criterion_direction t) _ direction (direction_agrees t)))))

criteria_agree : (root : Tree) → Agrees (criteria_of root) (all_in_order criterion_faults (listed_criteria root))
unfolding criteria_of
criteria_agree root = agrees_all AreCriteria criterion criterion_faults criterion_more (λ before c t are. criterion_agrees before c t are) [] no_criteria (listed_criteria root) (record { ids = nothing_yet; directions = tt; quantitative = tt })

-- ---- categories

any-map : {A B : Type 0} (p : B → Bool) (f : A → B) (xs : List A) → list_any p (map f xs) ≡ list_any (λ x. p (f x)) xs
any-map p f [] = refl
any-map p f (x ∷ xs) = ap (λ b. p (f x) || b) (any-map p f xs)

rank_agrees : (before : List Tree) (c : Categories) (t : Tree) → AreCategories before c → Agrees (rank_of c.ranks t) (rank_faults before t (first_of (at_path (codes "rank" ∷ codes "integer" ∷ []) t)))
unfolding rank_of rank_in
rank_agrees before c t are = by (first_of (at_path (codes "rank" ∷ codes "integer" ∷ []) t)) refl
  where
    same_ranks : (rank : ℤ) → list_any (int_eq rank) c.ranks ≡ list_any (λ other. int_eq rank (rank_in other)) (filter active before)
    same_ranks rank = ap (list_any (int_eq rank)) are.ranks ∙ any-map (int_eq rank) rank_in (filter active before)

    rest : (integer : Tree) → first_of (at_path (codes "rank" ∷ codes "integer" ∷ []) t) ≡ Some integer → (rank : ℤ) → read_performance (text_of integer) ≡ Some rank
        → Agrees (refuse (at_line (line_of integer) BadNumber) (list_any (int_eq rank) c.ranks) >>= λ _. Ok rank) (fault_if (at_line (line_of integer) BadNumber) (list_any (λ other. int_eq (rank_in t) (rank_in other)) (filter active before)))
    rest integer at rank is =
        let own : rank_in t ≡ rank = ap (λ (o : Option ℤ). unwrap_or o (pos 0)) (ap (option_and_then (λ integer. read_performance (text_of integer))) at ∙ is) in
        let tests : list_any (int_eq rank) c.ranks ≡ list_any (λ other. int_eq (rank_in t) (rank_in other)) (filter active before) = same_ranks rank ∙ ap (λ (z : ℤ). list_any (λ other. int_eq z (rank_in other)) (filter active before)) (sym own) in
        agrees_last (refuse (at_line (line_of integer) BadNumber) (list_any (int_eq rank) c.ranks)) (λ u. rank) _ (subst (λ b. Agrees (refuse (at_line (line_of integer) BadNumber) (list_any (int_eq rank) c.ranks)) (fault_if (at_line (line_of integer) BadNumber) b)) tests (agrees_refuse (at_line (line_of integer) BadNumber) (list_any (int_eq rank) c.ranks)))

    by : (o : Option Tree) → first_of (at_path (codes "rank" ∷ codes "integer" ∷ []) t) ≡ o
        → Agrees (need (at_line (line_of t) (Unsupported unsupported.Rank)) o >>= λ integer. need (at_line (line_of integer) BadNumber) (read_performance (text_of integer)) >>= λ rank. refuse (at_line (line_of integer) BadNumber) (list_any (int_eq rank) c.ranks) >>= λ _. Ok rank) (rank_faults before t o)
    by None at = refl
    by (Some integer) at =
        agrees_bind (need (at_line (line_of integer) BadNumber) (read_performance (text_of integer))) (λ rank. refuse (at_line (line_of integer) BadNumber) (list_any (int_eq rank) c.ranks) >>= λ _. Ok rank) (fault_if (at_line (line_of integer) BadNumber) (not (is_some (read_performance (text_of integer))))) _
        (agrees_need (at_line (line_of integer) BadNumber) (read_performance (text_of integer))) (λ rank e. rest integer at rank (need_ok (at_line (line_of integer) BadNumber) (read_performance (text_of integer)) rank e))

category_agrees : (before : List Tree) (c : Categories) (t : Tree) → AreCategories before c → Agrees (category c t) (category_faults before t)
unfolding category
category_agrees before c t are =
    let past : List TableFault = fault_if (at_line (line_of t) (TooMany whats.Classes)) (is_past MOST_CLASSES before) in
    let rank : List TableFault = rank_faults before t (first_of (at_path (codes "rank" ∷ codes "integer" ∷ []) t)) in
    let size : length c.ranks ≡ length (filter active before) = ap length are.ranks ∙ length-map (filter active before) rank_in in
    entry_agrees before t c.ids (λ id. kept_category c id t) (λ id. record c { ids = with_left_out c.ids id }) (rank ++ past) are.ids (λ id.
    agrees_bind (rank_of c.ranks t) _ rank past (rank_agrees before c t are) (λ z e.
    agrees_last (refuse (at_line (line_of t) (TooMany whats.Classes)) (nat_le 100 (length c.ranks))) _ past (past_agrees (at_line (line_of t) (TooMany whats.Classes)) 100 (length c.ranks) before size)))

categories_agree : (root : Tree) → Agrees (categories_of root) (all_in_order category_faults (listed_categories root))
unfolding categories_of
categories_agree root = agrees_all AreCategories category category_faults category_more (λ before c t are. category_agrees before c t are) [] no_categories (listed_categories root) (record { ids = nothing_yet; ranks = refl; ranked = tt })

-- ---- all that is listed

pub listed_agrees : (root : Tree) → Agrees (listed_of root) (listed_faults root)
unfolding listed_of
listed_agrees root =
    agrees_three (listed_of root) (all_in_order category_faults (listed_categories root)) (all_in_order alternative_faults (listed_alternatives root)) (all_in_order criterion_faults (listed_criteria root))
    (agrees_bind (categories_of root) _ (all_in_order category_faults (listed_categories root)) _ (categories_agree root) (λ c e.
    agrees_bind (alternatives_of root) _ (all_in_order alternative_faults (listed_alternatives root)) (all_in_order criterion_faults (listed_criteria root)) (alternatives_agree root) (λ a f.
    agrees_last (criteria_of root) _ (all_in_order criterion_faults (listed_criteria root)) (criteria_agree root))))
