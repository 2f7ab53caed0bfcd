-- What a file that is read names is listed in it.
use Rattle.std.proofs.Common.{◌≡◌, ℕ, Bool, true, false, List, [], ◌∷◌, Option, Some, None, Result, Ok, Err, refl, sym, ap, ◌∙◌, cond}
use Rattle.std.specs.Prelude.{IfSome, codes, not, find, option_map, option_and_then, unwrap_or, is_some, ◌||◌, ◌&&◌}
use Rattle.std.specs.List.{AllByRecursion}
use Rattle.std.proofs.lemmas.Bool.{false≢true, or_parts, or_right, not-false}
use Rattle.ror_text.specs.Reading.{refuse, need, read_all}
use Rattle.ror_text.proofs.Everywhere.{all-by}
use Rattle.ror_text.proofs.ReadingLemmas.{bind_ok, need_ok, refuse_ok}
use Rattle.ror_table.specs.declared.fault.TableFault.{TableFault}
use Rattle.ror_elements.specs.Tree.{Tree}
use Rattle.ror_xmcda.specs.declared.affectations.Assigned.{Assigned}
use Rattle.ror_xmcda.specs.declared.affectations.Classes.{Classes}
use Rattle.ror_xmcda.specs.declared.categories.Categories.{Categories}
use Rattle.ror_xmcda.specs.declared.roster.Roster.{Roster}
use Rattle.ror_xmcda.specs.declared.stated.Stated.{Stated}
use Rattle.ror_xmcda.specs.Nodes.{text_of, is_named, inside, named, first_named}
use Rattle.ror_xmcda.specs.Listing.{standing_at, standing_in}
use Rattle.ror_xmcda.specs.Ends.{ends_of, both, is_either}
use Rattle.ror_xmcda.specs.Performances.{Given, performance, performances, performances_of}
use Rattle.ror_xmcda.specs.Comparisons.{first_standing, member, side, pair, comparisons_of}
use Rattle.ror_xmcda.specs.Affectations.{class_at, bound, interval, single, nothing_assigned, with_alternative, with_classes, is_set, part, is_complete, affectation, affectations_of}
use Rattle.ror_xmcda.specs.Meaning.{child_text, is_id_of, listed_categories, listed_alternatives, listed_criteria, performance_groups, IsKnownGroup, pairs, IsKnownPair, affectations, bound_text, end_text, IsKnownAffectation}
use Rattle.ror_xmcda.proofs.MeaningLemmas.{IsRosterOf, standing_at_listed, standing_in_listed, each_is}
use Rattle.ror_xmcda.proofs.MeaningListing.{AreCategories}
use Rattle.ror_xmcda.proofs.MeaningOpening.{or_else, first_seen, place_in, member_is, both_is, ends_are, another_name, classes_in, part_is}

-- ---- performances

performance_known : (listed : List Tree) (criteria : Roster) (a : Option ℕ) → IsRosterOf listed criteria → (given : Given) (t : Tree) (next : Given) → performance criteria a given t ≡ Ok next → is_id_of listed (child_text (codes "criterionID") t) ≡ true
unfolding performance
performance_known listed criteria a are given t next e =
    let c = bind_ok (standing_in criteria t (first_named (codes "criterionID") t)) _ next e in
    standing_in_listed listed criteria t (first_named (codes "criterionID") t) c.0 are c.1

group_known : (root : Tree) (alternatives criteria : Roster) → IsRosterOf (listed_alternatives root) alternatives → IsRosterOf (listed_criteria root) criteria → (given : Given) (group : Tree) (next : Given) → performances alternatives criteria given group ≡ Ok next → IsKnownGroup root group
unfolding performances
group_known root alternatives criteria are also given group next e =
    let a = bind_ok (standing_in alternatives group (first_named (codes "alternativeID") group)) _ next e in
    record {
      alternative = standing_in_listed (listed_alternatives root) alternatives group (first_named (codes "alternativeID") group) a.0 are a.1;
      criteria = each_is (λ t. is_id_of (listed_criteria root) (child_text (codes "criterionID") t) ≡ true) (performance criteria a.0) (performance_known (listed_criteria root) criteria a.0 also) given (named (codes "performance") group) next a.2;
    }

pub performances_known : (root : Tree) (alternatives criteria : Roster) (given : Given) → IsRosterOf (listed_alternatives root) alternatives → IsRosterOf (listed_criteria root) criteria → performances_of alternatives criteria root ≡ Ok given → AllByRecursion (IsKnownGroup root) (performance_groups root)
unfolding performances_of
performances_known root alternatives criteria given are also e = each_is (IsKnownGroup root) (performances alternatives criteria) (group_known root alternatives criteria are also) [] (performance_groups root) given e

-- ---- the first of several

-- what the first element of a kind has to be, if nothing of its kind was seen before
first_is : {S L V F : Type 0} (P : L → Type 0) (step : S → L → Result S F) (view : S → Option V) (p : L → Bool) (f : L → V) → ((s : S) (x : L) (next : S) → step s x ≡ Ok next → view next ≡ or_else (view s) (cond (p x) (Some (f x)) None))
    → ((s : S) (x : L) (next : S) → view s ≡ None → p x ≡ true → step s x ≡ Ok next → P x) → (s : S) (xs : List L) (last : S) → view s ≡ None → read_all step s xs ≡ Ok last → IfSome (find p xs) P
first_is P step view p f seen each s [] last none e = tt
first_is {S} {L} {V} {F} P step view p f seen each s (x ∷ xs) last none e =
    let b = bind_ok (step s x) (λ next. read_all step next xs) last e in
    by (p x) refl b.0 b.1 b.2 (λ still rest. first_is P step view p f seen each b.0 xs last still rest)
  where
    by : (b : Bool) → p x ≡ b → (next : S) → step s x ≡ Ok next → read_all step next xs ≡ Ok last → (view next ≡ None → read_all step next xs ≡ Ok last → IfSome (find p xs) P) → IfSome (cond b (Some x) (find p xs)) P
    by true is next here rest later = each s x next none is here
    by false is next here rest later =
        let still : view next ≡ None = seen s x next here ∙ ap (λ (o : Option V). or_else o (cond (p x) (Some (f x)) None)) none ∙ ap (λ c. cond c (Some (f x)) None) is in
        later still rest

-- ---- pairs

abbrev pub IsKnownText : List Tree → Tree → Type 0
IsKnownText listed t = is_id_of listed (Some (text_of t)) ≡ true

first_standing_known : (listed : List Tree) (r : Roster) (found : Option (Option ℕ)) (t : Tree) (next : Option (Option ℕ)) → IsRosterOf listed r → found ≡ None → first_standing r found t ≡ Ok next → IsKnownText listed t
first_standing_known listed r None t next are none e = let s = bind_ok (standing_at r t) _ next e in standing_at_listed listed r t s.0 are s.1
first_standing_known listed r (Some s) t next are none e = absurd cc

member_known : (listed : List Tree) (r : Roster) → IsRosterOf listed r → (found : Option (Option ℕ)) (t : Tree) (next : Option (Option ℕ)) → found ≡ None → is_named (codes "alternativeID") t ≡ true → member r found t ≡ Ok next → IsKnownText listed t
unfolding member
member_known listed r are found t next none is e = by _ (is_named (codes "alternativeID") t) e
  where
    by : (fault : TableFault) (b : Bool) → cond b (first_standing r found t) (Err fault) ≡ Ok next → IsKnownText listed t
    by fault true e = first_standing_known listed r found t next are none e
    by fault false e = absurd cc

-- what is there is known
text_known : {V : Type 0} (listed : List Tree) (f : Tree → V) (o : Option Tree) (x : V) → Some x ≡ option_map f o → IfSome o (IsKnownText listed) → is_id_of listed (option_map text_of o) ≡ true
text_known listed f None x e h = absurd cc
text_known listed f (Some t) x e h = h

side_known : (listed : List Tree) (r : Roster) (t : Tree) (s : Option ℕ) → IsRosterOf listed r → side r t ≡ Ok s → is_id_of listed (child_text (codes "alternativeID") t) ≡ true
unfolding side first_named
side_known listed r t s are e =
    let a = bind_ok (read_all (member r) None (inside t)) _ s e in
    let found : a.0 ≡ option_map (place_in r) (find (is_named (codes "alternativeID")) (inside t)) = first_seen (member r) (λ o. o) (is_named (codes "alternativeID")) (place_in r) (member_is listed r are) None (inside t) a.0 a.1 in
    let is : a.0 ≡ Some s = need_ok _ a.0 s a.2 in
    text_known listed (place_in r) (find (is_named (codes "alternativeID")) (inside t)) s (sym is ∙ found)
    (first_is (IsKnownText listed) (member r) (λ o. o) (is_named (codes "alternativeID")) (place_in r) (member_is listed r are) (member_known listed r are) None (inside t) a.0 refl a.1)

member_alone : (r : Roster) (found : Option (Option ℕ)) (t : Tree) (next : Option (Option ℕ)) → member r found t ≡ Ok next → is_named (codes "alternativeID") t ≡ true
unfolding member
member_alone r found t next e = by _ (is_named (codes "alternativeID") t) e
  where
    by : (fault : TableFault) (b : Bool) → cond b (first_standing r found t) (Err fault) ≡ Ok next → b ≡ true
    by fault true e = refl
    by fault false e = absurd cc

side_alone : (r : Roster) (t : Tree) (s : Option ℕ) → side r t ≡ Ok s → AllByRecursion (λ u. is_named (codes "alternativeID") u ≡ true) (inside t)
unfolding side
side_alone r t s e =
    let a = bind_ok (read_all (member r) None (inside t)) _ s e in
    each_is (λ u. is_named (codes "alternativeID") u ≡ true) (member r) (member_alone r) None (inside t) a.0 a.1

pair_known : (root : Tree) (r : Roster) → IsRosterOf (listed_alternatives root) r → (stated : List Stated) (t : Tree) (next : List Stated) → pair r stated t ≡ Ok next → IsKnownPair root t
unfolding pair
pair_known root r are stated t next e =
    let a = bind_ok (need _ (ends_of (codes "initial") (codes "terminal") t)) _ next e in
    let b = bind_ok (both a.0.turned (side r a.0.first) (side r a.0.second)) _ next a.2 in
    let ends = ends_are (codes "initial") (codes "terminal") t a.0 (need_ok _ (ends_of (codes "initial") (codes "terminal") t) a.0 a.1) in
    let sides = both_is a.0.turned (side r a.0.first) (side r a.0.second) b.0 b.1 in
    record {
      initial = record { side = a.0.first; there = ends.first; alternative = side_known (listed_alternatives root) r a.0.first b.0.0 are sides.0; alone = side_alone r a.0.first b.0.0 sides.0 };
      terminal = record { side = a.0.second; there = ends.second; alternative = side_known (listed_alternatives root) r a.0.second b.0.1 are sides.1; alone = side_alone r a.0.second b.0.1 sides.1 };
    }

pub pairs_known : (root : Tree) (r : Roster) (stated : List Stated) → IsRosterOf (listed_alternatives root) r → comparisons_of r [] root ≡ Ok stated → AllByRecursion (IsKnownPair root) (pairs root)
unfolding comparisons_of
pairs_known root r stated are e = each_is (IsKnownPair root) (pair r) (pair_known root r are) [] (pairs root) stated e

-- ---- assignments

class_known : (best_first : Bool) (root : Tree) (c : Categories) (t : Tree) (k : Option ℕ) → AreCategories (listed_categories root) c → class_at best_first c t ≡ Ok k → is_id_of (listed_categories root) (Some (text_of t)) ≡ true
unfolding class_at
class_known best_first root c t k are e = let a = bind_ok (standing_at c.ids t) _ k e in standing_at_listed (listed_categories root) c.ids t a.0 are.ids a.1

-- the categories at both ends of what is assigned
pub record AreKnownEnds (root t : Tree) : Type 0 where
  pub lower : is_id_of (listed_categories root) (end_text (codes "lowerBound") t) ≡ true
  pub upper : is_id_of (listed_categories root) (end_text (codes "upperBound") t) ≡ true

single_known : (best_first : Bool) (root : Tree) (c : Categories) (t : Tree) (classes : Option Classes) → AreCategories (listed_categories root) c → single best_first c t ≡ Ok classes → is_named (codes "categoryID") t ≡ true → AreKnownEnds root t
unfolding single
single_known best_first root c t classes are e name =
    let k = bind_ok (class_at best_first c t) _ classes e in
    let known : is_id_of (listed_categories root) (Some (text_of t)) ≡ true = class_known best_first root c t k.0 are k.1 in
    record { lower = rw name known; upper = rw name known }

bound_known : (best_first : Bool) (root : Tree) (c : Categories) (o : Option Tree) (t : Tree) (k : Option ℕ) → AreCategories (listed_categories root) c → o ≡ Some t → bound best_first c t ≡ Ok k → is_id_of (listed_categories root) (option_map bound_text o) ≡ true
unfolding bound
bound_known best_first root c o t k are is e = rw is (class_known best_first root c (unwrap_or (first_named (codes "categoryID") t) t) k are e)

interval_known : (best_first : Bool) (root : Tree) (c : Categories) (t : Tree) (classes : Option Classes) → AreCategories (listed_categories root) c → interval best_first c t ≡ Ok classes → is_named (codes "categoryID") t ≡ false → AreKnownEnds root t
unfolding interval
interval_known best_first root c t classes are e name =
    let a = bind_ok (need _ (ends_of (codes "lowerBound") (codes "upperBound") t)) _ classes e in
    let b = bind_ok (both a.0.turned (bound best_first c a.0.first) (bound best_first c a.0.second)) _ classes a.2 in
    let ends = ends_are (codes "lowerBound") (codes "upperBound") t a.0 (need_ok _ (ends_of (codes "lowerBound") (codes "upperBound") t) a.0 a.1) in
    let bounds = both_is a.0.turned (bound best_first c a.0.first) (bound best_first c a.0.second) b.0 b.1 in
    record {
      lower = rw name (bound_known best_first root c (first_named (codes "lowerBound") t) a.0.first b.0.0 are ends.first bounds.0);
      upper = rw name (bound_known best_first root c (first_named (codes "upperBound") t) a.0.second b.0.1 are ends.second bounds.1);
    }

-- an element of an assignment that is read, with nothing of its kind before it
record IsKnownPart (root : Tree) (a : Assigned) (t : Tree) (name ends set : Bool) : Type 0 where
  not_set : set ≡ false
  alternative : name ≡ true → a.alternative ≡ None → IsKnownText (listed_alternatives root) t
  classes : ends ≡ true → a.classes ≡ None → AreKnownEnds root t

alternative_read : (a next : Assigned) (found : Result (Option (Option ℕ)) TableFault) → with_alternative a found ≡ Ok next → (x : Option (Option ℕ)) × (found ≡ Ok x)
alternative_read a next found e = let b = bind_ok found _ next e in (b.0, b.1)

classes_read : (a next : Assigned) (before : Option (Option Classes)) (classes : Result (Option Classes) TableFault) → before ≡ None → with_classes a before classes ≡ Ok next → (x : Option Classes) × (classes ≡ Ok x)
classes_read a next None classes none e = let b = bind_ok classes _ next e in (b.0, b.1)
classes_read a next (Some x) classes none e = absurd cc

part_known : (best_first : Bool) (root : Tree) (r : Roster) (c : Categories) → IsRosterOf (listed_alternatives root) r → AreCategories (listed_categories root) c → (a : Assigned) (t : Tree) (next : Assigned) → part best_first r c a t ≡ Ok next
    → IsKnownPart root a t (is_named (codes "alternativeID") t) (is_either (codes "categoryID") (codes "categoriesInterval") t) (is_set t)
unfolding part
part_known best_first root r c are also a t next e =
    by _ (is_set t) (is_named (codes "alternativeID") t) (is_named (codes "categoryID") t) (is_named (codes "categoriesInterval") t) (another_name (codes "alternativeID") (codes "categoryID") t refl) (another_name (codes "alternativeID") (codes "categoriesInterval") t refl) refl e
  where
    by : (fault : TableFault) (b x y z : Bool) → (x ≡ true → y ≡ false) → (x ≡ true → z ≡ false) → is_named (codes "categoryID") t ≡ y
        → cond b (Err fault) (cond x (with_alternative a (first_standing r a.alternative t)) (cond y (with_classes a a.classes (single best_first c t)) (cond z (with_classes a a.classes (interval best_first c t)) (Ok a)))) ≡ Ok next
        → IsKnownPart root a t x (y || z) b
    by fault true x y z p q is e = absurd cc
    by fault false true y z p q is e = record {
      not_set = refl;
      alternative = λ _ none. let s = alternative_read a next (first_standing r a.alternative t) e in first_standing_known (listed_alternatives root) r a.alternative t s.0 are none s.1;
      classes = λ some none. absurd (false≢true (sym (ap (λ b. b || z) (p refl) ∙ q refl) ∙ some));
    }
    by fault false false true z p q is e = record {
      not_set = refl;
      alternative = λ name none. absurd (false≢true name);
      classes = λ _ none. let s = classes_read a next a.classes (single best_first c t) none e in single_known best_first root c t s.0 also s.1 is;
    }
    by fault false false false true p q is e = record {
      not_set = refl;
      alternative = λ name none. absurd (false≢true name);
      classes = λ _ none. let s = classes_read a next a.classes (interval best_first c t) none e in interval_known best_first root c t s.0 also s.1 is;
    }
    by fault false false false false p q is e = record {
      not_set = refl;
      alternative = λ name none. absurd (false≢true name);
      classes = λ some none. absurd (false≢true some);
    }

none_found : (p : Tree → Bool) (ts : List Tree) → AllByRecursion (λ t. p t ≡ false) ts → is_some (find p ts) ≡ false
none_found p [] h = refl
none_found p (t ∷ ts) h = ap (λ b. is_some (cond b (Some t) (find p ts))) h.0 ∙ none_found p ts h.1

pub some_of_either : (p q : Tree → Bool) (ts : List Tree) → is_some (find (λ t. p t || q t) ts) ≡ (is_some (find p ts) || is_some (find q ts))
some_of_either p q [] = refl
some_of_either p q (t ∷ ts) = by (p t) (q t) (some_of_either p q ts)
  where
    by : (x y : Bool) → is_some (find (λ t. p t || q t) ts) ≡ (is_some (find p ts) || is_some (find q ts))
        → is_some (cond (x || y) (Some t) (find (λ t. p t || q t) ts)) ≡ (is_some (cond x (Some t) (find p ts)) || is_some (cond y (Some t) (find q ts)))
    by true y rest = refl
    by false true rest = sym (or_right (is_some (find p ts)) true refl)
    by false false rest = rest

-- without sets there are an alternative, and a category or an interval
complete_parts : (a s c i k : Bool) → s ≡ false → k ≡ false → ((a || s) && (c || i || k)) ≡ true → (a ≡ true) × ((c || i) ≡ true)
complete_parts a true c i k none no_set e = absurd cc
complete_parts a false c i true none no_set e = absurd cc
complete_parts false false c i false none no_set e = absurd cc
complete_parts true false true i false none no_set e = (refl, refl)
complete_parts true false false true false none no_set e = (refl, refl)
complete_parts true false false false false none no_set e = absurd cc

there_known : (listed : List Tree) (o : Option Tree) → is_some o ≡ true → IfSome o (IsKnownText listed) → is_id_of listed (option_map text_of o) ≡ true
there_known listed None some h = absurd cc
there_known listed (Some t) some h = h

lower_known : (root : Tree) (o : Option Tree) → is_some o ≡ true → IfSome o (AreKnownEnds root) → is_id_of (listed_categories root) (option_and_then (end_text (codes "lowerBound")) o) ≡ true
lower_known root None some h = absurd cc
lower_known root (Some t) some h = h.lower

upper_known : (root : Tree) (o : Option Tree) → is_some o ≡ true → IfSome o (AreKnownEnds root) → is_id_of (listed_categories root) (option_and_then (end_text (codes "upperBound")) o) ≡ true
upper_known root None some h = absurd cc
upper_known root (Some t) some h = h.upper

affectation_known : (best_first : Bool) (root : Tree) (r : Roster) (c : Categories) → IsRosterOf (listed_alternatives root) r → AreCategories (listed_categories root) c → (stated : List Stated) (t : Tree) (next : List Stated) → affectation best_first r c stated t ≡ Ok next → IsKnownAffectation root t
unfolding affectation is_complete first_named
affectation_known best_first root r c are also stated t next e =
    let u = bind_ok (refuse _ (not (is_complete t))) _ next e in
    let a = bind_ok (read_all (part best_first r c) nothing_assigned (inside t)) _ next u.2 in
    let sets : AllByRecursion (λ x. is_set x ≡ false) (inside t) = each_is (λ x. is_set x ≡ false) (part best_first r c) (λ b x n f. (part_known best_first root r c are also b x n f).not_set) nothing_assigned (inside t) a.0 a.1 in
    let no_alternatives = none_found (is_named (codes "alternativesSetID")) (inside t) (all-by (λ x. is_set x ≡ false) (λ x. is_named (codes "alternativesSetID") x ≡ false) (inside t) (λ x h. (or_parts (is_named (codes "alternativesSetID") x) (is_named (codes "categoriesSet") x) h).0) sets) in
    let no_categories = none_found (is_named (codes "categoriesSet")) (inside t) (all-by (λ x. is_set x ≡ false) (λ x. is_named (codes "categoriesSet") x ≡ false) (inside t) (λ x h. (or_parts (is_named (codes "alternativesSetID") x) (is_named (codes "categoriesSet") x) h).1) sets) in
    let there = complete_parts (is_some (find (is_named (codes "alternativeID")) (inside t))) (is_some (find (is_named (codes "alternativesSetID")) (inside t))) (is_some (find (is_named (codes "categoryID")) (inside t))) (is_some (find (is_named (codes "categoriesInterval")) (inside t))) (is_some (find (is_named (codes "categoriesSet")) (inside t)))
    no_alternatives no_categories (not-false (is_complete t) (refuse_ok _ (not (is_complete t)) u.0 u.1)) in
    let ends : is_some (find (is_either (codes "categoryID") (codes "categoriesInterval")) (inside t)) ≡ true = some_of_either (is_named (codes "categoryID")) (is_named (codes "categoriesInterval")) (inside t) ∙ there.1 in
    let known : IfSome (find (is_either (codes "categoryID") (codes "categoriesInterval")) (inside t)) (AreKnownEnds root) =
    first_is (AreKnownEnds root) (part best_first r c) (λ (x : Assigned). x.classes) (is_either (codes "categoryID") (codes "categoriesInterval")) (classes_in best_first root) (λ b x n f. (part_is best_first root (listed_alternatives root) r c are also b x n f).classes)
    (λ b x n none is f. (part_known best_first root r c are also b x n f).classes is none) nothing_assigned (inside t) a.0 refl a.1 in
    record {
      alternative = there_known (listed_alternatives root) (find (is_named (codes "alternativeID")) (inside t)) there.0
          (first_is (IsKnownText (listed_alternatives root)) (part best_first r c) (λ (x : Assigned). x.alternative) (is_named (codes "alternativeID")) (place_in r) (λ b x n f. (part_is best_first root (listed_alternatives root) r c are also b x n f).alternative)
          (λ b x n none is f. (part_known best_first root r c are also b x n f).alternative is none) nothing_assigned (inside t) a.0 refl a.1);
      lower = lower_known root (find (is_either (codes "categoryID") (codes "categoriesInterval")) (inside t)) ends known;
      upper = upper_known root (find (is_either (codes "categoryID") (codes "categoriesInterval")) (inside t)) ends known;
      no_sets = sets;
    }

pub affectations_known : (best_first : Bool) (root : Tree) (r : Roster) (c : Categories) (stated last : List Stated) → IsRosterOf (listed_alternatives root) r → AreCategories (listed_categories root) c → affectations_of best_first r c stated root ≡ Ok last → AllByRecursion (IsKnownAffectation root) (affectations root)
unfolding affectations_of
affectations_known best_first root r c stated last are also e = each_is (IsKnownAffectation root) (affectation best_first r c) (affectation_known best_first root r c are also) stated (affectations root) last e
