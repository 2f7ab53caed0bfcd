-- The statements of a file that is read.
use Rattle.std.proofs.Common.{◌≡◌, ℕ, suc, ◌+◌, Bool, true, false, List, [], ◌∷◌, ◌++◌, length, map, Option, Some, None, Result, Ok, Err, ℤ, pos, refl, sym, ap, ◌∙◌, arith, cond, subst, inl, inr, append-nil, append_assoc}
use Rattle.std.specs.Prelude.{codes, not, nat_lt, find, count_by, slice_index_or, position, option_map, option_and_then, unwrap_or, ◌||◌}
use Rattle.std.specs.List.{AllZip, flat_map, position_or_len}
use Rattle.std.specs.Str.{bytes_eq}
use Rattle.std.proofs.lemmas.Grind.{flat_map-append}
use Rattle.std.proofs.lemmas.Bool.{cases_Bool, lt-ltb, le-ltb, ltb-true, ltb-false}
use Rattle.std.proofs.lemmas.List.{map-append}
use Rattle.std.proofs.lemmas.List.Sums.{sum_by-cons}
use Rattle.std.proofs.lemmas.Slice.Eq.{bytes_eq-Decides}
use Rattle.ror_text.specs.Reading.{refuse, need, read_all}
use Rattle.ror_text.proofs.ReadingLemmas.{bind_ok, need_ok}
use Rattle.ror_statement.specs.declared.statement.Statement.{Statement}
use Rattle.ror_table.specs.declared.fault.TableFault.{TableFault}
use Rattle.ror_table.specs.Table.{DecisionTable, place_of, alternative_ids, alternative_named}
use Rattle.ror_elements.specs.Tree.{Tree, name_of}
use Rattle.ror_xmcda.specs.declared.affectations.Assigned.{Assigned}
use Rattle.ror_xmcda.specs.declared.affectations.Classes.{Classes}
use Rattle.ror_xmcda.specs.declared.categories.Categories.{Categories}
use Rattle.ror_xmcda.specs.declared.roster.Roster.{Roster}
use Rattle.ror_xmcda.specs.declared.stated.Stated.{Stated}
use Rattle.ror_xmcda.specs.Nodes.{id_of, text_of, line_of, is_named, inside, first_named}
use Rattle.ror_xmcda.specs.Listing.{standing_at}
use Rattle.ror_xmcda.specs.Categories.{comes_before, class_of}
use Rattle.ror_xmcda.specs.Ends.{Ends, ends_by, ends_of, is_turned, both, is_either}
use Rattle.ror_xmcda.specs.Comparisons.{first_standing, member, side, preference, pair, comparisons_of}
use Rattle.ror_xmcda.specs.Affectations.{class_at, bound, between, interval, single, nothing_assigned, with_alternative, with_classes, is_set, part, is_complete, assignment, affectation, affectations_of}
use Rattle.ror_xmcda.specs.Opening.{statements}
use Rattle.ror_xmcda.specs.Meaning.{is_text, active_categories, listed_categories, rank_in, category_class, class_named, pairs, alternative_in, side_of, preferred, pair_says, affectations, bound_text, end_text, end_class, assigned, affectation_says}
use Rattle.ror_xmcda.proofs.MeaningLemmas.{read_all_from_first, IsRosterOf, standing_at_place}
use Rattle.ror_xmcda.proofs.MeaningListing.{AreCategories}

-- ---- the first of several

abbrev pub or_else : {A : Type 0} → Option A → Option A → Option A
or_else None other = other
or_else (Some x) other = Some x

-- where each element of a kind is seen if none was seen before, the first of them is
pub first_seen : {S L V F : Type 0} (step : S → L → Result S F) (view : S → Option V) (p : L → Bool) (f : L → V) → ((s : S) (x : L) (next : S) → step s x ≡ Ok next → view next ≡ or_else (view s) (cond (p x) (Some (f x)) None))
    → (s : S) (xs : List L) (last : S) → read_all step s xs ≡ Ok last → view last ≡ or_else (view s) (option_map f (find p xs))
first_seen {S} {L} {V} {F} step view p f each s [] last e = (let r : ◌≡◌ {A = Result S F} (Ok s) (Ok last) = e in let same : s ≡ last = cc in sym (ap view same) ∙ here (view s))
  where
    here : (o : Option V) → o ≡ or_else o None
    here None = refl
    here (Some v) = refl
first_seen {S} {L} {V} {F} step view p f each s (x ∷ xs) last e =
    let b = bind_ok (step s x) (λ next. read_all step next xs) last e in
    first_seen step view p f each b.0 xs last b.2 ∙ ap (λ o. or_else o (option_map f (find p xs))) (each s x b.0 b.1) ∙ by (view s) (p x)
  where
    by : (o : Option V) (b : Bool) → or_else (or_else o (cond b (Some (f x)) None)) (option_map f (find p xs)) ≡ or_else o (option_map f (cond b (Some x) (find p xs)))
    by None true = refl
    by None false = refl
    by (Some v) b = refl

-- ---- pairs

-- the place of what an element names
abbrev pub place_in : Roster → Tree → Option ℕ
place_in r t = place_of r.kept (text_of t)

first_standing_is : (listed : List Tree) (r : Roster) (found : Option (Option ℕ)) (t : Tree) (next : Option (Option ℕ)) → IsRosterOf listed r → first_standing r found t ≡ Ok next → next ≡ or_else found (Some (place_in r t))
first_standing_is listed r None t next are e =
    let s = bind_ok (standing_at r t) _ next e in
    let same : Some s.0 ≡ next = (let q : ◌≡◌ {A = Result (Option (Option ℕ)) TableFault} (Ok (Some s.0)) (Ok next) = s.2 in cc) in
    sym same ∙ ap (λ (o : Option ℕ). Some o) (standing_at_place listed r t s.0 are s.1)
first_standing_is listed r (Some s) t next are e = (let q : ◌≡◌ {A = Result (Option (Option ℕ)) TableFault} (Ok (Some s)) (Ok next) = e in cc)

pub member_is : (listed : List Tree) (r : Roster) → IsRosterOf listed r → (found : Option (Option ℕ)) (t : Tree) (next : Option (Option ℕ)) → member r found t ≡ Ok next → next ≡ or_else found (cond (is_named (codes "alternativeID") t) (Some (place_in r t)) None)
unfolding member
member_is listed r are found t next e = by _ (is_named (codes "alternativeID") t) e
  where
    by : (fault : TableFault) (b : Bool) → cond b (first_standing r found t) (Err fault) ≡ Ok next → next ≡ or_else found (cond b (Some (place_in r t)) None)
    by fault true e = first_standing_is listed r found t next are e
    by fault false e = absurd cc

-- an alternative's place goes by the ids of the table
named_place : (ids : List (List ℕ)) (o : Option Tree) (s : Option ℕ) → Some s ≡ option_map (λ t. place_of ids (text_of t)) o → s ≡ option_and_then (place_of ids) (option_map text_of o)
named_place ids None s e = absurd cc
named_place ids (Some t) s e = cc

side_is : (listed : List Tree) (r : Roster) (table : DecisionTable) (t : Tree) (s : Option ℕ) → IsRosterOf listed r → alternative_ids table ≡ r.kept → side r t ≡ Ok s → s ≡ alternative_in table t
unfolding side alternative_in first_named
side_is listed r table t s are ids e =
    let a = bind_ok (read_all (member r) None (inside t)) _ s e in
    let found : a.0 ≡ option_map (place_in r) (find (is_named (codes "alternativeID")) (inside t)) = first_seen (member r) (λ o. o) (is_named (codes "alternativeID")) (place_in r) (member_is listed r are) None (inside t) a.0 a.1 in
    let is : a.0 ≡ Some s = need_ok _ a.0 s a.2 in
    let named : Option (List ℕ) = option_map text_of (find (is_named (codes "alternativeID")) (inside t)) in
    subst (λ (ks : List (List ℕ)). s ≡ option_and_then (place_of ks) named) (sym ids) (named_place r.kept (find (is_named (codes "alternativeID")) (inside t)) s (sym is ∙ found))

pub both_is : {A F : Type 0} (turned : Bool) (one other : Result A F) (x : A × A) → both turned one other ≡ Ok x → (one ≡ Ok x.0) × (other ≡ Ok x.1)
both_is {A} {F} false one other x e =
    let a = bind_ok one _ x e in
    let b = bind_ok other _ x a.2 in
    let same : ◌≡◌ {A = A × A} (a.0, b.0) x = (let r : ◌≡◌ {A = Result (A × A) F} (Ok (a.0, b.0)) (Ok x) = b.2 in cc) in
    (a.1 ∙ ap (λ (y : A × A). Ok y.0) same, b.1 ∙ ap (λ (y : A × A). Ok y.1) same)
both_is {A} {F} true one other x e =
    let b = bind_ok other _ x e in
    let a = bind_ok one _ x b.2 in
    let same : ◌≡◌ {A = A × A} (a.0, b.0) x = (let r : ◌≡◌ {A = Result (A × A) F} (Ok (a.0, b.0)) (Ok x) = a.2 in cc) in
    (a.1 ∙ ap (λ (y : A × A). Ok y.0) same, b.1 ∙ ap (λ (y : A × A). Ok y.1) same)

-- the two ends are the first elements of their names
pub record AreEnds (name other : List ℕ) (t : Tree) (ends : Ends) : Type 0 where
  pub first : first_named name t ≡ Some ends.first
  pub second : first_named other t ≡ Some ends.second

pub ends_are : (name other : List ℕ) (t : Tree) (ends : Ends) → ends_of name other t ≡ Some ends → AreEnds name other t ends
unfolding ends_of
ends_are name other t ends e = by (first_named name t) (first_named other t) refl refl e
  where
    by : (x y : Option Tree) → first_named name t ≡ x → first_named other t ≡ y → ends_by x y (is_turned name other t) ≡ Some ends → AreEnds name other t ends
    by (Some x) (Some y) p q e =
        let same : ◌≡◌ {A = Ends} (record { first = x; second = y; turned = is_turned name other t }) ends = cc in
        record { first = p ∙ ap (λ (z : Ends). Some z.first) same; second = q ∙ ap (λ (z : Ends). Some z.second) same }
    by (Some x) None p q e = absurd cc
    by None y p q e = absurd cc

preference_is : (line : ℕ) (a b : Option ℕ) → statements (preference line a b) ≡ preferred a b
preference_is line (Some a) (Some b) = refl
preference_is line (Some a) None = refl
preference_is line None b = refl

-- what was stated, and more
now_said : (stated more next : List Stated) (said says : List Statement) → stated ++ more ≡ next → statements more ≡ said → said ≡ says → statements next ≡ statements stated ++ says
now_said stated more next said says same is then = ap statements (sym same) ∙ map-append (λ (s : Stated). s.statement) stated more ∙ ap (λ (xs : List Statement). statements stated ++ xs) (is ∙ then)

both_said : (a b c d : Option ℕ) → a ≡ b → c ≡ d → preferred a c ≡ preferred b d
both_said a b c d p q = ap (λ (x : Option ℕ). preferred x c) p ∙ ap (preferred b) q

pub pair_is : (listed : List Tree) (r : Roster) (table : DecisionTable) (stated : List Stated) (t : Tree) (next : List Stated) → IsRosterOf listed r → alternative_ids table ≡ r.kept → pair r stated t ≡ Ok next → statements next ≡ statements stated ++ pair_says table t
unfolding pair side_of
pair_is listed r table stated t next are ids e =
    let a = bind_ok (need _ (ends_of (codes "initial") (codes "terminal") t)) _ next e in
    let b = bind_ok (both a.0.turned (side r a.0.first) (side r a.0.second)) _ next a.2 in
    let ends = ends_are (codes "initial") (codes "terminal") t a.0 (need_ok _ (ends_of (codes "initial") (codes "terminal") t) a.0 a.1) in
    let sides = both_is a.0.turned (side r a.0.first) (side r a.0.second) b.0 b.1 in
    let more : List Stated = preference (line_of t) b.0.0 b.0.1 in
    let same : stated ++ more ≡ next = (let q : ◌≡◌ {A = Result (List Stated) TableFault} (Ok (stated ++ more)) (Ok next) = b.2 in cc) in
    let one : b.0.0 ≡ option_and_then (alternative_in table) (first_named (codes "initial") t) = side_is listed r table a.0.first b.0.0 are ids sides.0 ∙ ap (option_and_then (alternative_in table)) (sym ends.first) in
    let other : b.0.1 ≡ option_and_then (alternative_in table) (first_named (codes "terminal") t) = side_is listed r table a.0.second b.0.1 are ids sides.1 ∙ ap (option_and_then (alternative_in table)) (sym ends.second) in
    now_said stated more next (preferred b.0.0 b.0.1) (pair_says table t) same (preference_is (line_of t) b.0.0 b.0.1) (both_said b.0.0 _ b.0.1 _ one other)

-- what is stated one by one is stated of all
all_say : {F : Type 0} (step : List Stated → Tree → Result (List Stated) F) (says : Tree → List Statement) → ((stated : List Stated) (t : Tree) (next : List Stated) → step stated t ≡ Ok next → statements next ≡ statements stated ++ says t)
    → (stated : List Stated) (ts : List Tree) (last : List Stated) → read_all step stated ts ≡ Ok last → statements last ≡ statements stated ++ flat_map says ts
all_say step says each stated ts last e = read_all_from_first (λ before now. statements now ≡ statements stated ++ flat_map says before) step more stated ts last (sym (append-nil (statements stated))) e
  where
    more : (before : List Tree) (now : List Stated) (t : Tree) (next : List Stated) → statements now ≡ statements stated ++ flat_map says before → step now t ≡ Ok next → statements next ≡ statements stated ++ flat_map says (before ++ t ∷ [])
    more before now t next h e =
        each now t next e ∙ ap (λ (xs : List Statement). xs ++ says t) h ∙ append_assoc (statements stated) (flat_map says before) (says t)
        ∙ ap (λ (xs : List Statement). statements stated ++ xs) (ap (λ (xs : List Statement). flat_map says before ++ xs) (sym (append-nil (says t))) ∙ sym (flat_map-append says before (t ∷ [])))

pub comparisons_say : (listed : List Tree) (r : Roster) (table : DecisionTable) (root : Tree) (stated : List Stated) → IsRosterOf listed r → alternative_ids table ≡ r.kept → comparisons_of r [] root ≡ Ok stated → statements stated ≡ flat_map (pair_says table) (pairs root)
unfolding comparisons_of
comparisons_say listed r table root stated are ids e = all_say (pair r) (pair_says table) (λ before t next e. pair_is listed r table before t next are ids e) [] (pairs root) stated e

-- ---- classes

both_later : (n m : ℕ) → nat_lt (suc n) (suc m) ≡ nat_lt n m
both_later n m = elim (cases_Bool (nat_lt n m)) [
  | inl less ↦ lt-ltb (suc n) (suc m) (omega (arith, ltb-true n m less)) ∙ sym less
  | inr past ↦ le-ltb (suc n) (suc m) (omega (arith, ltb-false n m past)) ∙ sym past
]

one_later : (n : ℕ) (b : Bool) → cond b (Some (suc n)) None ≡ option_map suc (cond b (Some n) None)
one_later n true = refl
one_later n false = refl

pub position-cons : {A : Type 0} (p : A → Bool) (x : A) (xs : List A) → position p (x ∷ xs) ≡ cond (p x) (Some 0) (option_map suc (position p xs))
position-cons p x xs = by (p x) (position_or_len p xs) refl
  where
    by : (b : Bool) (n : ℕ) → position_or_len p xs ≡ n → cond (nat_lt (cond (not b) (1 + n) 0) (suc (length xs))) (Some (cond (not b) (1 + n) 0)) None ≡ cond b (Some 0) (option_map suc (cond (nat_lt n (length xs)) (Some n) None))
    by true n e = ap (λ b. cond b (Some 0) None) (lt-ltb 0 (suc (length xs)) (omega arith))
    by false n e =
        let next : 1 + n ≡ suc n = omega arith in
        subst (λ (m : ℕ). cond (nat_lt m (suc (length xs))) (Some m) None ≡ option_map suc (cond (nat_lt n (length xs)) (Some n) None)) (sym next)
        (ap (λ b. cond b (Some (suc n)) None) (both_later n (length xs)) ∙ one_later n (nat_lt n (length xs)))

-- the first element of an id, by its place among the ids
found_by_id : (g : ℤ → ℕ) (id : List ℕ) (ts : List Tree) (ids : List (List ℕ)) → AllZip (λ t id. id_of t ≡ Some id) ts ids
    → option_map (λ k. g (slice_index_or (map rank_in ts) k (pos 0))) (place_of ids id) ≡ option_map (λ t. g (rank_in t)) (find (λ t. is_text id (id_of t)) ts)
found_by_id g id [] [] h = refl
found_by_id g id [] (x ∷ ids) h = absurd h
found_by_id g id (t ∷ ts) [] h = absurd h
found_by_id g id (t ∷ ts) (x ∷ ids) h =
    ap (option_map (λ k. g (slice_index_or (map rank_in (t ∷ ts)) k (pos 0)))) (position-cons (λ other. bytes_eq other id) x ids)
    ∙ by (bytes_eq x id) (place_of ids id) (found_by_id g id ts ids h.1)
    ∙ ap (λ b. option_map (λ t. g (rank_in t)) (cond b (Some t) (find (λ t. is_text id (id_of t)) ts))) (sym (ap (is_text id) h.0))
  where
    by : (b : Bool) (o : Option ℕ) → option_map (λ k. g (slice_index_or (map rank_in ts) k (pos 0))) o ≡ option_map (λ t. g (rank_in t)) (find (λ t. is_text id (id_of t)) ts)
        → option_map (λ k. g (slice_index_or (map rank_in (t ∷ ts)) k (pos 0))) (cond b (Some 0) (option_map suc o)) ≡ option_map (λ t. g (rank_in t)) (cond b (Some t) (find (λ t. is_text id (id_of t)) ts))
    by true o rest = refl
    by false None rest = rest
    by false (Some k) rest = rest

count-map : {A B : Type 0} (p : B → Bool) (f : A → B) (xs : List A) → count_by p (map f xs) ≡ count_by (λ x. p (f x)) xs
count-map p f [] = refl
count-map p f (x ∷ xs) = sum_by-cons (λ y. cond (p y) 1 0) (f x) (map f xs) ∙ ap (λ (n : ℕ). cond (p (f x)) 1 0 + n) (count-map p f xs) ∙ sym (sum_by-cons (λ y. cond (p (f y)) 1 0) x xs)

-- the class by the rank, counted in the tree
abbrev class_by_rank : Bool → Tree → ℤ → ℕ
class_by_rank best_first root rank = 1 + count_by (λ other. comes_before best_first (rank_in other) rank) (active_categories root)

class_is : (best_first : Bool) (root : Tree) (ranks : List ℤ) → ranks ≡ map rank_in (active_categories root) → (k : ℕ) → class_of best_first ranks k ≡ class_by_rank best_first root (slice_index_or ranks k (pos 0))
unfolding class_of
class_is best_first root ranks are k =
    let rank : ℤ = slice_index_or ranks k (pos 0) in
    ap (λ (zs : List ℤ). 1 + count_by (λ other. comes_before best_first other rank) zs) are ∙ ap (λ (n : ℕ). 1 + n) (count-map (λ other. comes_before best_first other rank) rank_in (active_categories root))

option_map-same : {A B : Type 0} (f g : A → B) (o : Option A) → ((x : A) → f x ≡ g x) → option_map f o ≡ option_map g o
option_map-same f g None same = refl
option_map-same f g (Some x) same = ap (λ y. Some y) (same x)

class_of_place : (best_first : Bool) (root : Tree) (c : Categories) (id : List ℕ) → AreCategories (listed_categories root) c → option_map (class_of best_first c.ranks) (place_of c.ids.kept id) ≡ class_named best_first root id
unfolding class_named category_class
class_of_place best_first root c id are =
    option_map-same (class_of best_first c.ranks) (λ k. class_by_rank best_first root (slice_index_or c.ranks k (pos 0))) (place_of c.ids.kept id) (class_is best_first root c.ranks are.ranks)
    ∙ ap (λ (zs : List ℤ). option_map (λ k. class_by_rank best_first root (slice_index_or zs k (pos 0))) (place_of c.ids.kept id)) are.ranks
    ∙ found_by_id (class_by_rank best_first root) id (active_categories root) c.ids.kept are.ids.kept

class_at_is : (best_first : Bool) (root : Tree) (c : Categories) (t : Tree) (k : Option ℕ) → AreCategories (listed_categories root) c → class_at best_first c t ≡ Ok k → k ≡ class_named best_first root (text_of t)
unfolding class_at
class_at_is best_first root c t k are e =
    let a = bind_ok (standing_at c.ids t) _ k e in
    let same : option_map (class_of best_first c.ranks) a.0 ≡ k = (let q : ◌≡◌ {A = Result (Option ℕ) TableFault} (Ok (option_map (class_of best_first c.ranks) a.0)) (Ok k) = a.2 in cc) in
    sym same ∙ ap (option_map (class_of best_first c.ranks)) (standing_at_place (listed_categories root) c.ids t a.0 are.ids a.1) ∙ class_of_place best_first root c (text_of t) are

-- ---- assignments

-- the classes at the ends of what is assigned
abbrev end_of : Bool → Tree → List ℕ → Tree → Option ℕ
end_of best_first root name t = option_and_then (class_named best_first root) (end_text name t)

abbrev pub classes_in : Bool → Tree → Tree → Option Classes
classes_in best_first root t = between (end_of best_first root (codes "lowerBound") t) (end_of best_first root (codes "upperBound") t)

single_is : (best_first : Bool) (root : Tree) (c : Categories) (t : Tree) (classes : Option Classes) → AreCategories (listed_categories root) c → single best_first c t ≡ Ok classes → is_named (codes "categoryID") t ≡ true → classes ≡ classes_in best_first root t
unfolding single
single_is best_first root c t classes are e name =
    let k = bind_ok (class_at best_first c t) _ classes e in
    let same : between k.0 k.0 ≡ classes = (let q : ◌≡◌ {A = Result (Option Classes) TableFault} (Ok (between k.0 k.0)) (Ok classes) = k.2 in cc) in
    let is : k.0 ≡ class_named best_first root (text_of t) = class_at_is best_first root c t k.0 are k.1 in
    rw name (sym same ∙ ap (λ (x : Option ℕ). between x x) is)

bound_is : (best_first : Bool) (root : Tree) (c : Categories) (o : Option Tree) (t : Tree) (k : Option ℕ) → AreCategories (listed_categories root) c → o ≡ Some t → bound best_first c t ≡ Ok k → k ≡ option_and_then (class_named best_first root) (option_map bound_text o)
unfolding bound
bound_is best_first root c o t k are is e = rw is (class_at_is best_first root c (unwrap_or (first_named (codes "categoryID") t) t) k are e)

between_read : (x y u v : Option ℕ) (classes : Option Classes) → between x u ≡ classes → x ≡ y → u ≡ v → classes ≡ between y v
between_read x y u v classes same p q = sym same ∙ ap (λ (z : Option ℕ). between z u) p ∙ ap (between y) q

interval_is : (best_first : Bool) (root : Tree) (c : Categories) (t : Tree) (classes : Option Classes) → AreCategories (listed_categories root) c → interval best_first c t ≡ Ok classes → is_named (codes "categoryID") t ≡ false → classes ≡ classes_in best_first root t
unfolding interval
interval_is best_first root c t classes are e name =
    let a = bind_ok (need _ (ends_of (codes "lowerBound") (codes "upperBound") t)) _ classes e in
    let b = bind_ok (both a.0.turned (bound best_first c a.0.first) (bound best_first c a.0.second)) _ classes a.2 in
    let ends = ends_are (codes "lowerBound") (codes "upperBound") t a.0 (need_ok _ (ends_of (codes "lowerBound") (codes "upperBound") t) a.0 a.1) in
    let bounds = both_is a.0.turned (bound best_first c a.0.first) (bound best_first c a.0.second) b.0 b.1 in
    let same : between b.0.0 b.0.1 ≡ classes = (let q : ◌≡◌ {A = Result (Option Classes) TableFault} (Ok (between b.0.0 b.0.1)) (Ok classes) = b.2 in cc) in
    let one = bound_is best_first root c (first_named (codes "lowerBound") t) a.0.first b.0.0 are ends.first bounds.0 in
    let other = bound_is best_first root c (first_named (codes "upperBound") t) a.0.second b.0.1 are ends.second bounds.1 in
    rw name (between_read b.0.0 _ b.0.1 _ classes same one other)

-- what is known of an assignment, the alternative and the classes apart

or_else-none : {A : Type 0} (o : Option A) → o ≡ or_else o None
or_else-none None = refl
or_else-none (Some x) = refl

alternative_set : (a : Assigned) (found : Result (Option (Option ℕ)) TableFault) (next : Assigned) → with_alternative a found ≡ Ok next → (x : Option (Option ℕ)) × (found ≡ Ok x) × (next.alternative ≡ x) × (next.classes ≡ a.classes)
alternative_set a found next e =
    let b = bind_ok found _ next e in
    let same : ◌≡◌ {A = Assigned} (record a { alternative = b.0 }) next = (let q : ◌≡◌ {A = Result Assigned TableFault} (Ok (record a { alternative = b.0 })) (Ok next) = b.2 in cc) in
    (b.0, b.1, sym (ap (λ (x : Assigned). x.alternative) same), sym (ap (λ (x : Assigned). x.classes) same))

-- the classes that are read are kept, if there were none before
classes_set : (a : Assigned) (before : Option (Option Classes)) (classes : Result (Option Classes) TableFault) (next : Assigned) (c : Option Classes) → a.classes ≡ before → ((x : Option Classes) → classes ≡ Ok x → x ≡ c) → with_classes a before classes ≡ Ok next
    → (next.alternative ≡ a.alternative) × (next.classes ≡ or_else before (Some c))
classes_set a (Some x) classes next c was is e = (let q : ◌≡◌ {A = Result Assigned TableFault} (Ok a) (Ok next) = e in let same : a ≡ next = cc in (sym (ap (λ (x : Assigned). x.alternative) same), sym (ap (λ (x : Assigned). x.classes) same) ∙ was))
classes_set a None classes next c was is e =
    let b = bind_ok classes _ next e in
    let same : ◌≡◌ {A = Assigned} (record a { classes = Some b.0 }) next = (let q : ◌≡◌ {A = Result Assigned TableFault} (Ok (record a { classes = Some b.0 })) (Ok next) = b.2 in cc) in
    (sym (ap (λ (x : Assigned). x.alternative) same), sym (ap (λ (x : Assigned). x.classes) same) ∙ ap (λ (x : Option Classes). Some x) (is b.0 b.1))

-- what an element adds to an assignment
pub record IsPart (best_first : Bool) (root : Tree) (r : Roster) (a next : Assigned) (t : Tree) (named other : Bool) : Type 0 where
  pub alternative : next.alternative ≡ or_else a.alternative (cond named (Some (place_in r t)) None)
  pub classes : next.classes ≡ or_else a.classes (cond other (Some (classes_in best_first root t)) None)

-- an element has one name
pub another_name : (name other : List ℕ) (t : Tree) → bytes_eq name other ≡ false → is_named name t ≡ true → is_named other t ≡ false
another_name name other t apart is = subst (λ (x : List ℕ). bytes_eq x other ≡ false) (sym ((bytes_eq-Decides (name_of t) name).0 is)) apart

pub part_is : (best_first : Bool) (root : Tree) (listed : List Tree) (r : Roster) (c : Categories) → IsRosterOf listed r → AreCategories (listed_categories root) c → (a : Assigned) (t : Tree) (next : Assigned) → part best_first r c a t ≡ Ok next
    → IsPart best_first root r a next t (is_named (codes "alternativeID") t) (is_either (codes "categoryID") (codes "categoriesInterval") t)
unfolding part
part_is best_first root listed r c are also a t next e =
    by _ (is_set t) (is_named (codes "alternativeID") t) (is_named (codes "categoryID") t) (is_named (codes "categoriesInterval") t) (another_name (codes "alternativeID") (codes "categoryID") t refl) (another_name (codes "alternativeID") (codes "categoriesInterval") t refl) refl e
  where
    by : (fault : TableFault) (b x y z : Bool) → (x ≡ true → y ≡ false) → (x ≡ true → z ≡ false) → is_named (codes "categoryID") t ≡ y
        → cond b (Err fault) (cond x (with_alternative a (first_standing r a.alternative t)) (cond y (with_classes a a.classes (single best_first c t)) (cond z (with_classes a a.classes (interval best_first c t)) (Ok a)))) ≡ Ok next
        → IsPart best_first root r a next t x (y || z)
    by fault true x y z p q is e = absurd cc
    by fault false true y z p q is e =
        let s = alternative_set a (first_standing r a.alternative t) next e in
        let none : (y || z) ≡ false = ap (λ b. b || z) (p refl) ∙ q refl in
        record {
          alternative = s.2 ∙ first_standing_is listed r a.alternative t s.0 are s.1;
          classes = rw none (s.3 ∙ or_else-none a.classes);
        }
    by fault false false true z p q is e =
        let s = classes_set a a.classes (single best_first c t) next (classes_in best_first root t) refl (λ x f. single_is best_first root c t x also f is) e in
        record { alternative = s.0 ∙ or_else-none a.alternative; classes = s.1 }
    by fault false false false true p q is e =
        let s = classes_set a a.classes (interval best_first c t) next (classes_in best_first root t) refl (λ x f. interval_is best_first root c t x also f is) e in
        record { alternative = s.0 ∙ or_else-none a.alternative; classes = s.1 }
    by fault false false false false p q is e =
        let same : a ≡ next = (let q : ◌≡◌ {A = Result Assigned TableFault} (Ok a) (Ok next) = e in cc) in
        record { alternative = sym (ap (λ (x : Assigned). x.alternative) same) ∙ or_else-none a.alternative; classes = sym (ap (λ (x : Assigned). x.classes) same) ∙ or_else-none a.classes }

assignment_said : (line : ℕ) (x : Option (Option ℕ)) (o : Option Tree) (low high : Tree → Option ℕ) → statements (assignment line x (option_map (λ e. between (low e) (high e)) o)) ≡ assigned (option_and_then (λ s. s) x) (option_and_then low o) (option_and_then high o)
assignment_said line None o low high = refl
assignment_said line (Some None) o low high = refl
assignment_said line (Some (Some a)) None low high = refl
assignment_said line (Some (Some a)) (Some e) low high = by (low e) (high e)
  where
    by : (l h : Option ℕ) → statements (assignment line (Some (Some a)) (Some (between l h))) ≡ assigned (Some a) l h
    by (Some l) (Some h) = refl
    by (Some l) None = refl
    by None h = refl

place_joined : (ids : List (List ℕ)) (o : Option Tree) → option_and_then (λ s. s) (option_map (λ t. place_of ids (text_of t)) o) ≡ option_and_then (place_of ids) (option_map text_of o)
place_joined ids None = refl
place_joined ids (Some t) = refl

ends_joined : {A B C : Type 0} (f : B → Option C) (g : A → Option B) (o : Option A) → option_and_then (λ x. option_and_then f (g x)) o ≡ option_and_then f (option_and_then g o)
ends_joined f g None = refl
ends_joined f g (Some x) = refl

all_three : (a b c d e f : Option ℕ) → a ≡ b → c ≡ d → e ≡ f → assigned a c e ≡ assigned b d f
all_three a b c d e f p q r = ap (λ (x : Option ℕ). assigned x c e) p ∙ ap (λ (x : Option ℕ). assigned b x e) q ∙ ap (assigned b d) r

pub affectation_is : (best_first : Bool) (root : Tree) (listed : List Tree) (r : Roster) (c : Categories) (table : DecisionTable) (stated : List Stated) (t : Tree) (next : List Stated) → IsRosterOf listed r → AreCategories (listed_categories root) c → alternative_ids table ≡ r.kept
    → affectation best_first r c stated t ≡ Ok next → statements next ≡ statements stated ++ affectation_says best_first root table t
unfolding affectation alternative_in end_class first_named
affectation_is best_first root listed r c table stated t next are also ids e =
    let u = bind_ok (refuse _ (not (is_complete t))) _ next e in
    let a = bind_ok (read_all (part best_first r c) nothing_assigned (inside t)) _ next u.2 in
    let more : List Stated = assignment (line_of t) a.0.alternative a.0.classes in
    let same : stated ++ more ≡ next = (let q : ◌≡◌ {A = Result (List Stated) TableFault} (Ok (stated ++ more)) (Ok next) = a.2 in cc) in
    let name : Option Tree = find (is_named (codes "alternativeID")) (inside t) in
    let what : Option Tree = find (is_either (codes "categoryID") (codes "categoriesInterval")) (inside t) in
    let alternative : a.0.alternative ≡ option_map (place_in r) name =
    first_seen (part best_first r c) (λ (x : Assigned). x.alternative) (is_named (codes "alternativeID")) (place_in r) (λ b u n f. (part_is best_first root listed r c are also b u n f).alternative) nothing_assigned (inside t) a.0 a.1 in
    let classes : a.0.classes ≡ option_map (classes_in best_first root) what =
    first_seen (part best_first r c) (λ (x : Assigned). x.classes) (is_either (codes "categoryID") (codes "categoriesInterval")) (classes_in best_first root) (λ b u n f. (part_is best_first root listed r c are also b u n f).classes) nothing_assigned (inside t) a.0 a.1 in
    let low : Tree → Option ℕ = end_of best_first root (codes "lowerBound") in
    let high : Tree → Option ℕ = end_of best_first root (codes "upperBound") in
    let said : statements more ≡ assigned (option_and_then (λ s. s) (option_map (place_in r) name)) (option_and_then low what) (option_and_then high what) =
    ap (λ (x : Option (Option ℕ)). statements (assignment (line_of t) x a.0.classes)) alternative ∙ ap (λ (x : Option (Option Classes)). statements (assignment (line_of t) (option_map (place_in r) name) x)) classes ∙ assignment_said (line_of t) (option_map (place_in r) name) what low high in
    let place : option_and_then (λ s. s) (option_map (place_in r) name) ≡ option_and_then (alternative_named table) (option_map text_of name) =
    subst (λ (ks : List (List ℕ)). option_and_then (λ s. s) (option_map (place_in r) name) ≡ option_and_then (place_of ks) (option_map text_of name)) (sym ids) (place_joined r.kept name) in
    now_said stated more next _ (affectation_says best_first root table t) same said
    (all_three _ _ _ _ _ _ place (ends_joined (class_named best_first root) (end_text (codes "lowerBound")) what) (ends_joined (class_named best_first root) (end_text (codes "upperBound")) what))

pub affectations_say : (best_first : Bool) (root : Tree) (listed : List Tree) (r : Roster) (c : Categories) (table : DecisionTable) (stated last : List Stated) → IsRosterOf listed r → AreCategories (listed_categories root) c → alternative_ids table ≡ r.kept
    → affectations_of best_first r c stated root ≡ Ok last → statements last ≡ statements stated ++ flat_map (affectation_says best_first root table) (affectations root)
unfolding affectations_of
affectations_say best_first root listed r c table stated last are also ids e = all_say (affectation best_first r c) (affectation_says best_first root table) (λ before t next f. affectation_is best_first root listed r c table before t next are also ids f) stated (affectations root) last e
