-- That the statements of a file are read.
use Rattle.std.proofs.Common.{◌≡◌, ℕ, ◌≤◌, Bool, true, false, List, [], ◌∷◌, length, Option, Some, None, Result, Ok, Err, refl, sym, ap, ◌∙◌, arith, cond, subst, inl, inr}
use Rattle.std.specs.Prelude.{IfSome, codes, not, find, nat_lt, slice_get, option_map, option_and_then, unwrap_or, is_some, ◌||◌, ◌&&◌}
use Rattle.std.specs.List.{AllByRecursion}
use Rattle.std.proofs.lemmas.Bool.{le-ltb, not_from_true}
use Rattle.std.proofs.lemmas.List.{length-map}
use Rattle.std.proofs.lemmas.Option.{slice_get_cases}
use Rattle.ror_text.specs.Reading.{refuse, need, read_all}
use Rattle.ror_text.proofs.Everywhere.{all-by}
use Rattle.ror_text.proofs.ReadingLemmas.{need_ok}
use Rattle.ror_statement.specs.RowNumbers.{row_count}
use Rattle.ror_table.specs.declared.fault.TableFault.{TableFault}
use Rattle.ror_elements.specs.Tree.{Tree}
use Rattle.ror_xmcda.specs.declared.affectations.Assigned.{Assigned}
use Rattle.ror_xmcda.specs.declared.affectations.Classes.{Classes}
use Rattle.ror_xmcda.specs.declared.categories.Categories.{Categories}
use Rattle.ror_xmcda.specs.declared.roster.Roster.{Roster}
use Rattle.ror_xmcda.specs.declared.stated.Stated.{Stated}
use Rattle.ror_xmcda.specs.Nodes.{text_of, is_named, inside, first_named}
use Rattle.ror_xmcda.specs.Listing.{standing_at}
use Rattle.ror_xmcda.specs.Ends.{ends_by, ends_of, is_turned, both, is_either}
use Rattle.ror_xmcda.specs.Comparisons.{first_standing, member, side, pair, comparisons_of}
use Rattle.ror_xmcda.specs.Affectations.{class_at, bound, interval, single, nothing_assigned, with_alternative, with_classes, is_set, part, is_complete, affectation, affectations_of}
use Rattle.ror_xmcda.specs.Opening.{statements, refuse_more, opening_of}
use Rattle.ror_xmcda.specs.Meaning.{is_id_of, listed_categories, listed_alternatives, IsKnownSide, pairs, IsKnownPair, affectations, bound_text, end_text, IsKnownAffectation}
use Rattle.ror_xmcda.proofs.MeaningLemmas.{IsRosterOf}
use Rattle.ror_xmcda.proofs.MeaningListing.{AreCategories}
use Rattle.ror_xmcda.proofs.MeaningOpening.{or_else, first_seen, place_in, member_is, ends_are, part_is}
use Rattle.ror_xmcda.proofs.MeaningKnown.{IsKnownText, AreKnownEnds, some_of_either}
use Rattle.ror_xmcda.proofs.ReadableLemmas.{Reads, reads_ok, reads_bind, reads_refuse, reads_need, reads_each, standing_at_reads}

-- ---- pairs

ends_by_reads : (x y : Option Tree) (turned : Bool) → is_some x ≡ true → is_some y ≡ true → is_some (ends_by x y turned) ≡ true
ends_by_reads (Some x) (Some y) turned p q = refl
ends_by_reads (Some x) None turned p q = absurd cc
ends_by_reads None y turned p q = absurd cc

ends_some : (name other : List ℕ) (t : Tree) → is_some (first_named name t) ≡ true → is_some (first_named other t) ≡ true → is_some (ends_of name other t) ≡ true
unfolding ends_of
ends_some name other t p q = ends_by_reads (first_named name t) (first_named other t) (is_turned name other t) p q

both_reads : {A F : Type 0} (turned : Bool) (one other : Result A F) → Reads one → Reads other → Reads (both turned one other)
both_reads false one other p q = reads_bind one _ p (λ x e. reads_bind other _ q (λ y f. reads_ok (x, y)))
both_reads true one other p q = reads_bind other _ q (λ y f. reads_bind one _ p (λ x e. reads_ok (x, y)))

-- what is there is known
known_there : (listed : List Tree) (o : Option Tree) → is_id_of listed (option_map text_of o) ≡ true → (is_some o ≡ true) × IfSome o (IsKnownText listed)
known_there listed None known = absurd cc
known_there listed (Some t) known = (refl, known)

member_reads : (r : Roster) (found : Option (Option ℕ)) (t : Tree) → is_named (codes "alternativeID") t ≡ true → Reads (first_standing r found t) → Reads (member r found t)
unfolding member
member_reads r found t is h = by _ (is_named (codes "alternativeID") t) is
  where
    by : (fault : TableFault) (b : Bool) → b ≡ true → Reads (cond b (first_standing r found t) (Err fault))
    by fault true is = h
    by fault false is = absurd cc

-- only the first member is looked up
members_read : (listed : List Tree) (r : Roster) → IsRosterOf listed r → (found : Option (Option ℕ)) (ts : List Tree) → (found ≡ None → IfSome (find (is_named (codes "alternativeID")) ts) (IsKnownText listed)) → AllByRecursion (λ t. is_named (codes "alternativeID") t ≡ true) ts → Reads (read_all (member r) found ts)
members_read listed r are found [] known alone = reads_ok found
members_read listed r are found (t ∷ ts) known alone =
    reads_bind (member r found t) (λ next. read_all (member r) next ts) (member_reads r found t alone.0 (first found known)) (λ next e.
    members_read listed r are next ts (λ none. absurd (never next e none)) alone.1)
  where
    first : (found : Option (Option ℕ)) → (found ≡ None → IfSome (find (is_named (codes "alternativeID")) (t ∷ ts)) (IsKnownText listed)) → Reads (first_standing r found t)
    first (Some s) known = reads_ok (Some s)
    first None known =
        let here : IsKnownText listed t = subst (λ b. IfSome (cond b (Some t) (find (is_named (codes "alternativeID")) ts)) (IsKnownText listed)) alone.0 (known refl) in
        reads_bind (standing_at r t) _ (standing_at_reads listed r t are here) (λ s e. reads_ok (Some s))

    some_now : (o : Option (Option ℕ)) (next : Option (Option ℕ)) → next ≡ or_else o (Some (place_in r t)) → next ≡ None → ⊥
    some_now None next is none = let no : ◌≡◌ {A = Option (Option ℕ)} None (Some (place_in r t)) = sym none ∙ is in absurd cc
    some_now (Some s) next is none = let no : ◌≡◌ {A = Option (Option ℕ)} None (Some s) = sym none ∙ is in absurd cc

    never : (next : Option (Option ℕ)) → member r found t ≡ Ok next → next ≡ None → ⊥
    never next e none = some_now found next (member_is listed r are found t next e ∙ ap (λ b. or_else found (cond b (Some (place_in r t)) None)) alone.0) none

side_reads : (root : Tree) (r : Roster) (o : Option Tree) (t : Tree) → IsRosterOf (listed_alternatives root) r → IsKnownSide root o → o ≡ Some t → Reads (side r t)
unfolding side first_named
side_reads root r o t are known is =
    reads_bind (read_all (member r) None (inside t)) _ (members_read (listed_alternatives root) r are None (inside t) (λ none. (there t same).1) (alone t same)) (λ found e.
    reads_need _ found (ap is_some (first_seen (member r) (λ o. o) (is_named (codes "alternativeID")) (place_in r) (member_is (listed_alternatives root) r are) None (inside t) found e) ∙ mapped (find (is_named (codes "alternativeID")) (inside t)) (there t same).0))
  where
    same : known.side ≡ t
    same = let both : Some known.side ≡ Some t = sym known.there ∙ is in cc

    there : (u : Tree) → known.side ≡ u → (is_some (find (is_named (codes "alternativeID")) (inside u)) ≡ true) × IfSome (find (is_named (codes "alternativeID")) (inside u)) (IsKnownText (listed_alternatives root))
    there u same = known_there (listed_alternatives root) (find (is_named (codes "alternativeID")) (inside u)) (subst (λ (x : Tree). is_id_of (listed_alternatives root) (option_map text_of (find (is_named (codes "alternativeID")) (inside x))) ≡ true) same known.alternative)

    alone : (u : Tree) → known.side ≡ u → AllByRecursion (λ x. is_named (codes "alternativeID") x ≡ true) (inside u)
    alone u same = subst (λ (x : Tree). AllByRecursion (λ y. is_named (codes "alternativeID") y ≡ true) (inside x)) same known.alone

    mapped : (o : Option Tree) → is_some o ≡ true → is_some (or_else None (option_map (place_in r) o)) ≡ true
    mapped None e = absurd cc
    mapped (Some x) e = refl

pair_reads : (root : Tree) (r : Roster) (stated : List Stated) (t : Tree) → IsRosterOf (listed_alternatives root) r → IsKnownPair root t → Reads (pair r stated t)
unfolding pair
pair_reads root r stated t are known =
    reads_bind (need _ (ends_of (codes "initial") (codes "terminal") t)) _ (reads_need _ (ends_of (codes "initial") (codes "terminal") t) (ends_some (codes "initial") (codes "terminal") t (ap is_some known.initial.there) (ap is_some known.terminal.there))) (λ ends e.
    let are_ends = ends_are (codes "initial") (codes "terminal") t ends (need_ok _ (ends_of (codes "initial") (codes "terminal") t) ends e) in
    reads_bind (both ends.turned (side r ends.first) (side r ends.second)) _ (both_reads ends.turned (side r ends.first) (side r ends.second)
    (side_reads root r (first_named (codes "initial") t) ends.first are known.initial are_ends.first)
    (side_reads root r (first_named (codes "terminal") t) ends.second are known.terminal are_ends.second)) (λ places f. reads_ok _))

pub comparisons_read : (root : Tree) (r : Roster) → IsRosterOf (listed_alternatives root) r → AllByRecursion (IsKnownPair root) (pairs root) → Reads (comparisons_of r [] root)
unfolding comparisons_of
comparisons_read root r are known =
    reads_each (λ (s : List Stated). Unit {0}) (pair r) (λ s x next u e. tt) [] (pairs root) tt (all-by (IsKnownPair root) (λ t. (s : List Stated) → Unit {0} → Reads (pair r s t)) (pairs root) (λ t h s u. pair_reads root r s t are h) known)

-- ---- assignments

class_at_reads : (best_first : Bool) (root : Tree) (c : Categories) (t : Tree) → AreCategories (listed_categories root) c → is_id_of (listed_categories root) (Some (text_of t)) ≡ true → Reads (class_at best_first c t)
unfolding class_at
class_at_reads best_first root c t are known = reads_bind (standing_at c.ids t) _ (standing_at_reads (listed_categories root) c.ids t are.ids known) (λ s e. reads_ok _)

single_reads : (best_first : Bool) (root : Tree) (c : Categories) (t : Tree) → AreCategories (listed_categories root) c → AreKnownEnds root t → is_named (codes "categoryID") t ≡ true → Reads (single best_first c t)
unfolding single
single_reads best_first root c t are known name =
    let here : is_id_of (listed_categories root) (Some (text_of t)) ≡ true = subst (λ b. is_id_of (listed_categories root) (cond b (Some (text_of t)) (option_map bound_text (first_named (codes "lowerBound") t))) ≡ true) name known.lower in
    reads_bind (class_at best_first c t) _ (class_at_reads best_first root c t are here) (λ k e. reads_ok _)

bound_there : (root : Tree) (o : Option Tree) → is_id_of (listed_categories root) (option_map bound_text o) ≡ true → is_some o ≡ true
bound_there root None known = absurd cc
bound_there root (Some t) known = refl

bound_reads : (best_first : Bool) (root : Tree) (c : Categories) (o : Option Tree) (t : Tree) → AreCategories (listed_categories root) c → is_id_of (listed_categories root) (option_map bound_text o) ≡ true → o ≡ Some t → Reads (bound best_first c t)
unfolding bound
bound_reads best_first root c o t are known is =
    class_at_reads best_first root c (unwrap_or (first_named (codes "categoryID") t) t) are (subst (λ (x : Option Tree). is_id_of (listed_categories root) (option_map bound_text x) ≡ true) is known)

interval_reads : (best_first : Bool) (root : Tree) (c : Categories) (t : Tree) → AreCategories (listed_categories root) c → AreKnownEnds root t → is_named (codes "categoryID") t ≡ false → Reads (interval best_first c t)
unfolding interval
interval_reads best_first root c t are known name =
    let lower : is_id_of (listed_categories root) (option_map bound_text (first_named (codes "lowerBound") t)) ≡ true = subst (λ b. is_id_of (listed_categories root) (cond b (Some (text_of t)) (option_map bound_text (first_named (codes "lowerBound") t))) ≡ true) name known.lower in
    let upper : is_id_of (listed_categories root) (option_map bound_text (first_named (codes "upperBound") t)) ≡ true = subst (λ b. is_id_of (listed_categories root) (cond b (Some (text_of t)) (option_map bound_text (first_named (codes "upperBound") t))) ≡ true) name known.upper in
    reads_bind (need _ (ends_of (codes "lowerBound") (codes "upperBound") t)) _ (reads_need _ (ends_of (codes "lowerBound") (codes "upperBound") t) (ends_some (codes "lowerBound") (codes "upperBound") t (bound_there root (first_named (codes "lowerBound") t) lower) (bound_there root (first_named (codes "upperBound") t) upper))) (λ ends e.
    let are_ends = ends_are (codes "lowerBound") (codes "upperBound") t ends (need_ok _ (ends_of (codes "lowerBound") (codes "upperBound") t) ends e) in
    reads_bind (both ends.turned (bound best_first c ends.first) (bound best_first c ends.second)) _ (both_reads ends.turned (bound best_first c ends.first) (bound best_first c ends.second)
    (bound_reads best_first root c (first_named (codes "lowerBound") t) ends.first are lower are_ends.first)
    (bound_reads best_first root c (first_named (codes "upperBound") t) ends.second are upper are_ends.second)) (λ classes f. reads_ok _))

alternative_reads : (listed : List Tree) (r : Roster) (a : Assigned) (t : Tree) → IsRosterOf listed r → (a.alternative ≡ None → IsKnownText listed t) → Reads (with_alternative a (first_standing r a.alternative t))
alternative_reads listed r a t are known = reads_bind (first_standing r a.alternative t) _ (by a.alternative known) (λ s e. reads_ok _)
  where
    by : (found : Option (Option ℕ)) → (found ≡ None → IsKnownText listed t) → Reads (first_standing r found t)
    by (Some s) known = reads_ok (Some s)
    by None known = reads_bind (standing_at r t) _ (standing_at_reads listed r t are (known refl)) (λ s e. reads_ok (Some s))

classes_read : (a : Assigned) (before : Option (Option Classes)) (classes : Result (Option Classes) TableFault) → (before ≡ None → Reads classes) → Reads (with_classes a before classes)
classes_read a (Some c) classes h = reads_ok a
classes_read a None classes h = reads_bind classes _ (h refl) (λ c e. reads_ok _)

-- an element of an assignment is read, if the first of its kind is known
part_reads : (best_first : Bool) (root : Tree) (r : Roster) (c : Categories) → IsRosterOf (listed_alternatives root) r → AreCategories (listed_categories root) c → (a : Assigned) (t : Tree) → is_set t ≡ false
    → (is_named (codes "alternativeID") t ≡ true → a.alternative ≡ None → IsKnownText (listed_alternatives root) t) → (is_either (codes "categoryID") (codes "categoriesInterval") t ≡ true → a.classes ≡ None → AreKnownEnds root t) → Reads (part best_first r c a t)
unfolding part
part_reads best_first root r c are also a t no_set alternative ends = by _ (is_set t) (is_named (codes "alternativeID") t) (is_named (codes "categoryID") t) (is_named (codes "categoriesInterval") t) no_set refl alternative ends
  where
    by : (fault : TableFault) (b x y z : Bool) → b ≡ false → is_named (codes "categoryID") t ≡ y → (x ≡ true → a.alternative ≡ None → IsKnownText (listed_alternatives root) t) → ((y || z) ≡ true → a.classes ≡ None → AreKnownEnds root t)
        → Reads (cond b (Err fault) (cond x (with_alternative a (first_standing r a.alternative t)) (cond y (with_classes a a.classes (single best_first c t)) (cond z (with_classes a a.classes (interval best_first c t)) (Ok a)))))
    by fault true x y z e is h k = absurd cc
    by fault false true y z e is h k = alternative_reads (listed_alternatives root) r a t are (h refl)
    by fault false false true z e is h k = classes_read a a.classes (single best_first c t) (λ none. single_reads best_first root c t also (k refl none) is)
    by fault false false false true e is h k = classes_read a a.classes (interval best_first c t) (λ none. interval_reads best_first root c t also (k refl none) is)
    by fault false false false false e is h k = reads_ok a

-- what is not seen yet was not seen before, and is not here
not_yet : {A : Type 0} (o next : Option A) (b : Bool) (x : A) → next ≡ or_else o (cond b (Some x) None) → next ≡ None → (o ≡ None) × (b ≡ false)
not_yet (Some y) next b x is none = let no : ◌≡◌ {A = Option _} None (Some y) = sym none ∙ is in absurd cc
not_yet None next true x is none = let no : ◌≡◌ {A = Option _} None (Some x) = sym none ∙ is in absurd cc
not_yet None next false x is none = (refl, refl)

first_here : (P : Tree → Type 0) (p : Tree → Bool) (t : Tree) (ts : List Tree) → IfSome (find p (t ∷ ts)) P → p t ≡ true → P t
first_here P p t ts h is = subst (λ b. IfSome (cond b (Some t) (find p ts)) P) is h

first_later : (P : Tree → Type 0) (p : Tree → Bool) (t : Tree) (ts : List Tree) → IfSome (find p (t ∷ ts)) P → p t ≡ false → IfSome (find p ts) P
first_later P p t ts h is = subst (λ b. IfSome (cond b (Some t) (find p ts)) P) is h

parts_read : (best_first : Bool) (root : Tree) (r : Roster) (c : Categories) → IsRosterOf (listed_alternatives root) r → AreCategories (listed_categories root) c → (a : Assigned) (ts : List Tree) → AllByRecursion (λ t. is_set t ≡ false) ts
    → (a.alternative ≡ None → IfSome (find (is_named (codes "alternativeID")) ts) (IsKnownText (listed_alternatives root))) → (a.classes ≡ None → IfSome (find (is_either (codes "categoryID") (codes "categoriesInterval")) ts) (AreKnownEnds root))
    → Reads (read_all (part best_first r c) a ts)
parts_read best_first root r c are also a [] no_sets alternative ends = reads_ok a
parts_read best_first root r c are also a (t ∷ ts) no_sets alternative ends =
    reads_bind (part best_first r c a t) (λ next. read_all (part best_first r c) next ts)
    (part_reads best_first root r c are also a t no_sets.0 (λ is none. first_here (IsKnownText (listed_alternatives root)) (is_named (codes "alternativeID")) t ts (alternative none) is) (λ is none. first_here (AreKnownEnds root) (is_either (codes "categoryID") (codes "categoriesInterval")) t ts (ends none) is)) (λ next e.
    let seen = part_is best_first root (listed_alternatives root) r c are also a t next e in
    parts_read best_first root r c are also next ts no_sets.1
    (λ none. let before = not_yet a.alternative next.alternative (is_named (codes "alternativeID") t) _ seen.alternative none in first_later (IsKnownText (listed_alternatives root)) (is_named (codes "alternativeID")) t ts (alternative before.0) before.1)
    (λ none. let before = not_yet a.classes next.classes (is_either (codes "categoryID") (codes "categoriesInterval") t) _ seen.classes none in first_later (AreKnownEnds root) (is_either (codes "categoryID") (codes "categoriesInterval")) t ts (ends before.0) before.1))

-- what is assigned, where both of its ends are known
ends_there : (root : Tree) (o : Option Tree) → is_id_of (listed_categories root) (option_and_then (end_text (codes "lowerBound")) o) ≡ true → is_id_of (listed_categories root) (option_and_then (end_text (codes "upperBound")) o) ≡ true → (is_some o ≡ true) × IfSome o (AreKnownEnds root)
ends_there root None lower upper = absurd cc
ends_there root (Some t) lower upper = (refl, record { lower = lower; upper = upper })

complete : (a s c i k : Bool) → a ≡ true → (c || i) ≡ true → ((a || s) && (c || i || k)) ≡ true
complete false s c i k p q = absurd cc
complete true s true i k p q = refl
complete true s false true k p q = refl
complete true s false false k p q = absurd cc

affectation_reads : (best_first : Bool) (root : Tree) (r : Roster) (c : Categories) (stated : List Stated) (t : Tree) → IsRosterOf (listed_alternatives root) r → AreCategories (listed_categories root) c → IsKnownAffectation root t → Reads (affectation best_first r c stated t)
unfolding affectation is_complete first_named
affectation_reads best_first root r c stated t are also known =
    let name : Option Tree = find (is_named (codes "alternativeID")) (inside t) in
    let what : Option Tree = find (is_either (codes "categoryID") (codes "categoriesInterval")) (inside t) in
    let alternative = known_there (listed_alternatives root) name known.alternative in
    let ends = ends_there root what known.lower known.upper in
    let whole : is_complete t ≡ true =
    complete (is_some name) (is_some (find (is_named (codes "alternativesSetID")) (inside t))) (is_some (find (is_named (codes "categoryID")) (inside t))) (is_some (find (is_named (codes "categoriesInterval")) (inside t))) (is_some (find (is_named (codes "categoriesSet")) (inside t))) alternative.0
    (sym (some_of_either (is_named (codes "categoryID")) (is_named (codes "categoriesInterval")) (inside t)) ∙ ends.0) in
    reads_bind (refuse _ (not (is_complete t))) _ (reads_refuse _ (not (is_complete t)) (not_from_true (is_complete t) whole)) (λ u e.
    reads_bind (read_all (part best_first r c) nothing_assigned (inside t)) _ (parts_read best_first root r c are also nothing_assigned (inside t) known.no_sets (λ none. alternative.1) (λ none. ends.1)) (λ a f. reads_ok _))

pub affectations_read : (best_first : Bool) (root : Tree) (r : Roster) (c : Categories) (stated : List Stated) → IsRosterOf (listed_alternatives root) r → AreCategories (listed_categories root) c → AllByRecursion (IsKnownAffectation root) (affectations root) → Reads (affectations_of best_first r c stated root)
unfolding affectations_of
affectations_read best_first root r c stated are also known =
    reads_each (λ (s : List Stated). Unit {0}) (affectation best_first r c) (λ s x next u e. tt) stated (affectations root) tt (all-by (IsKnownAffectation root) (λ t. (s : List Stated) → Unit {0} → Reads (affectation best_first r c s t)) (affectations root) (λ t h s u. affectation_reads best_first root r c s t are also h) known)

-- ---- the opening list

more_reads : (stated : List Stated) → length stated ≤ 200 → Reads (refuse_more (slice_get stated 200))
more_reads stated few = elim (slice_get_cases stated 200).1 [
  | inl at ↦ absurd (let within = at.1 in omega (arith, within, few))
  | inr past ↦ (tt, ap refuse_more past.1)
]

pub opening_reads : (stated : List Stated) → length (statements stated) ≤ 200 → row_count (statements stated) ≤ 2000 → Reads (opening_of stated)
unfolding opening_of
opening_reads stated few rows =
    let size = length-map stated (λ (s : Stated). s.statement) in
    reads_bind (refuse_more (slice_get stated 200)) _ (more_reads stated (omega (arith, few, size))) (λ u e.
    reads_bind (refuse _ (nat_lt 2000 (row_count (statements stated)))) _ (reads_refuse _ (nat_lt 2000 (row_count (statements stated))) (le-ltb 2000 (row_count (statements stated)) rows)) (λ v f. reads_ok _))
