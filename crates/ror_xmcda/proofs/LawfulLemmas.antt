-- That what is read may stand at a desk.
use Rattle.std.proofs.Common.{◌≡◌, ℕ, zero, suc, ◌+◌, ◌<◌, ◌≤◌, Bool, true, false, List, [], ◌∷◌, length, get_or, Option, Some, None, Result, Ok, Err, ℤ, pos, refl, sym, ap, ◌∙◌, arith, cond, subst, inl, inr}
use Rattle.std.specs.Prelude.{IfOk, codes, nat_lt, slice_get, slice_index_or, count_by, int_lt, option_map, not}
use Rattle.std.specs.List.{AllByRecursion}
use Rattle.std.proofs.lemmas.Bool.{false_from_ne_true, ltb-false}
use Rattle.std.proofs.lemmas.Int.{ints}
use Rattle.std.proofs.lemmas.List.{length-map}
use Rattle.std.proofs.lemmas.List.Sums.{count_by-le-length, sum_by-cons}
use Rattle.std.proofs.lemmas.Option.{slice_get_cases}
use Rattle.ror_text.specs.Reading.{refuse, need, read_all}
use Rattle.ror_text.proofs.ReadingLemmas.{keeps, need_ok, refuse_ok, read_all_keeps}
use Rattle.ror_text.proofs.Everywhere.{all-append, all-map, all-by}
use Rattle.ror_statement.specs.Names.{IsValid}
use Rattle.ror_statement.specs.RowNumbers.{row_count, IsLawful}
use Rattle.ror_table.specs.Draft.{has_id}
use Rattle.ror_table.specs.Table.{place_of}
use Rattle.ror_table.specs.declared.fault.TableFault.{TableFault}
use Rattle.ror_table.proofs.NameLemmas.{place_of-sound}
use Rattle.ror_elements.specs.Tree.{Tree}
use Rattle.ror_xmcda.specs.declared.affectations.Assigned.{Assigned}
use Rattle.ror_xmcda.specs.declared.affectations.Classes.{Classes}
use Rattle.ror_xmcda.specs.declared.categories.Categories.{Categories}
use Rattle.ror_xmcda.specs.declared.roster.Roster.{Roster}
use Rattle.ror_xmcda.specs.declared.stated.Stated.{Stated}
use Rattle.ror_xmcda.specs.Nodes.{text_of, line_of, inside, is_named}
use Rattle.ror_xmcda.specs.Roster.{standing}
use Rattle.ror_xmcda.specs.Listing.{standing_at}
use Rattle.ror_xmcda.specs.Categories.{AreRanked, comes_before, class_of}
use Rattle.ror_xmcda.specs.Ends.{ends_of, both}
use Rattle.ror_xmcda.specs.Comparisons.{first_standing, member, side, preference, pair, comparisons_of}
use Rattle.ror_xmcda.specs.Affectations.{class_at, bound, between, interval, single, with_alternative, with_classes, is_set, part, nothing_assigned, is_complete, assignment, affectation, affectations_of}
use Rattle.ror_xmcda.specs.Opening.{statements, refuse_more, opening_of}

-- ---- places

abbrev pub IsPlace : ℕ → Option ℕ → Type 0
IsPlace n None = Unit {0}
IsPlace n (Some k) = k < n

standing_within : (r : Roster) (id : List ℕ) (s : Option ℕ) → standing r id ≡ Some s → IsPlace (length r.kept) s
unfolding standing
standing_within r id s e = by (has_id r.left_out id) (place_of r.kept id) refl s e
  where
    by : (out : Bool) (o : Option ℕ) → place_of r.kept id ≡ o → (s : Option ℕ) → cond out (Some None) (option_map Some o) ≡ Some s → IsPlace (length r.kept) s
    by true o at s e = subst (IsPlace (length r.kept)) (let same : ◌≡◌ {A = Option ℕ} None s = cc in same) tt
    by false None at s e = absurd cc
    by false (Some k) at s e = subst (IsPlace (length r.kept)) (let same : Some k ≡ s = cc in same) (place_of-sound r.kept id k at).0

pub standing_at_within : (r : Roster) (t : Tree) (s : Option ℕ) → standing_at r t ≡ Ok s → IsPlace (length r.kept) s
unfolding standing_at
standing_at_within r t s e = standing_within r (text_of t) s (need_ok _ (standing r (text_of t)) s e)

abbrev pub IsFound : ℕ → Option (Option ℕ) → Type 0
IsFound n None = Unit {0}
IsFound n (Some s) = IsPlace n s

first_standing_within : (r : Roster) (found : Option (Option ℕ)) (t : Tree) → IsFound (length r.kept) found → IfOk (first_standing r found t) (IsFound (length r.kept))
first_standing_within r None t h = keeps (IsFound (length r.kept)) (standing_at r t) _ (λ s e. standing_at_within r t s e)
first_standing_within r (Some s) t h = h

member_within : (r : Roster) (found : Option (Option ℕ)) (t : Tree) → IsFound (length r.kept) found → IfOk (member r found t) (IsFound (length r.kept))
unfolding member
member_within r found t h = by _ (is_named (codes "alternativeID") t)
  where
    by : (fault : TableFault) (b : Bool) → IfOk (cond b (first_standing r found t) (Err fault)) (IsFound (length r.kept))
    by fault true = first_standing_within r found t h
    by fault false = tt

side_within : (r : Roster) (t : Tree) → IfOk (side r t) (IsPlace (length r.kept))
unfolding side
side_within r t =
    keeps (IsPlace (length r.kept)) (read_all (member r) None (inside t)) _ (λ found e. at _ found (subst (λ (x : Result (Option (Option ℕ)) TableFault). IfOk x (IsFound (length r.kept))) e (read_all_keeps (IsFound (length r.kept)) (member r) (member_within r) None (inside t) tt)))
  where
    at : (fault : TableFault) (found : Option (Option ℕ)) → IsFound (length r.kept) found → IfOk (need fault found) (IsPlace (length r.kept))
    at fault None h = tt
    at fault (Some s) h = h

both_within : {A : Type 0} (P : A → Type 0) (turned : Bool) (x y : Result A TableFault) → IfOk x P → IfOk y P → IfOk (both turned x y) (λ r. P r.0 × P r.1)
both_within {A} P false (Ok x) (Ok y) h k = (h, k)
both_within P false (Ok x) (Err e) h k = tt
both_within P false (Err e) y h k = tt
both_within P true (Ok x) (Ok y) h k = (h, k)
both_within P true (Err e) (Ok y) h k = tt
both_within P true x (Err e) h k = tt

-- ---- classes

abbrev pub IsClass : ℕ → Option ℕ → Type 0
IsClass n None = Unit {0}
IsClass n (Some c) = (1 ≤ c) × (c ≤ n)

-- what fails at a place is not counted
not_all : (p : ℤ → Bool) (xs : List ℤ) (k : ℕ) (d : ℤ) → k < length xs → p (get_or xs k d) ≡ false → count_by p xs + 1 ≤ length xs
not_all p [] k d lt fails = absurd (omega arith)
not_all p (x ∷ xs) zero d lt fails = subst (λ n. n + 1 ≤ suc (length xs)) (sym (sum_by-cons (λ y. cond (p y) 1 0) x xs)) (by (p x) fails (count_by-le-length p xs))
  where
    by : (b : Bool) → b ≡ false → count_by p xs ≤ length xs → (cond b 1 0 + count_by p xs) + 1 ≤ suc (length xs)
    by false e h = omega arith
    by true e h = absurd cc
not_all p (x ∷ xs) (suc k) d lt fails = subst (λ n. n + 1 ≤ suc (length xs)) (sym (sum_by-cons (λ y. cond (p y) 1 0) x xs)) (by (p x) (not_all p xs k d (omega arith) fails))
  where
    by : (b : Bool) → count_by p xs + 1 ≤ length xs → (cond b 1 0 + count_by p xs) + 1 ≤ suc (length xs)
    by true h = omega arith
    by false h = omega arith

int_lt-irrefl : (z : ℤ) → int_lt z z ≡ false
int_lt-irrefl z = false_from_ne_true (int_lt z z) (λ less. absurd (omega (arith, ints)))

not_before_itself : (best_first : Bool) (z : ℤ) → comes_before best_first z z ≡ false
not_before_itself true z = int_lt-irrefl z
not_before_itself false z = int_lt-irrefl z

class_within : (best_first : Bool) (ranks : List ℤ) (k : ℕ) → k < length ranks → (1 ≤ class_of best_first ranks k) × (class_of best_first ranks k ≤ length ranks)
unfolding class_of
class_within best_first ranks k lt =
    let rank : ℤ = slice_index_or ranks k (pos 0) in
    let less = not_all (λ r. comes_before best_first r rank) ranks k (pos 0) lt (not_before_itself best_first rank) in
    (omega arith, omega (arith, less))

class_at_within : (best_first : Bool) (c : Categories) (t : Tree) → AreRanked c → IfOk (class_at best_first c t) (IsClass (length c.ranks))
unfolding class_at
class_at_within best_first c t are = keeps (IsClass (length c.ranks)) (standing_at c.ids t) _ (λ s e. at s (standing_at_within c.ids t s e))
  where
    at : (s : Option ℕ) → IsPlace (length c.ids.kept) s → IsClass (length c.ranks) (option_map (class_of best_first c.ranks) s)
    at None h = tt
    at (Some k) h = class_within best_first c.ranks k (omega (arith, are.paired))

abbrev pub AreClasses : ℕ → Option Classes → Type 0
AreClasses n None = Unit {0}
AreClasses n (Some c) = (1 ≤ c.lowest) × (c.lowest ≤ c.highest) × (c.highest ≤ n)

between_within : (n : ℕ) (one other : Option ℕ) → IsClass n one → IsClass n other → AreClasses n (between one other)
between_within n (Some a) (Some b) h k = (omega arith, omega arith, omega arith)
between_within n (Some a) None h k = tt
between_within n None b h k = tt

interval_within : (best_first : Bool) (c : Categories) (t : Tree) → AreRanked c → IfOk (interval best_first c t) (AreClasses (length c.ranks))
unfolding interval bound
interval_within best_first c t are =
    keeps (AreClasses (length c.ranks)) (need _ (ends_of (codes "lowerBound") (codes "upperBound") t)) _ (λ ends e.
    keeps (AreClasses (length c.ranks)) (both ends.turned (bound best_first c ends.first) (bound best_first c ends.second)) _ (λ r f.
    let within = subst (λ (x : Result (Option ℕ × Option ℕ) TableFault). IfOk x (λ q. IsClass (length c.ranks) q.0 × IsClass (length c.ranks) q.1)) f
    (both_within (IsClass (length c.ranks)) ends.turned (bound best_first c ends.first) (bound best_first c ends.second) (class_at_within best_first c _ are) (class_at_within best_first c _ are)) in
    between_within (length c.ranks) r.0 r.1 within.0 within.1))

single_within : (best_first : Bool) (c : Categories) (t : Tree) → AreRanked c → IfOk (single best_first c t) (AreClasses (length c.ranks))
unfolding single
single_within best_first c t are =
    keeps (AreClasses (length c.ranks)) (class_at best_first c t) _ (λ k e.
    let h = subst (λ (x : Result (Option ℕ) TableFault). IfOk x (IsClass (length c.ranks))) e (class_at_within best_first c t are) in
    between_within (length c.ranks) k k h h)

-- ---- statements

-- a statement over so many alternatives and classes
abbrev IsSound : ℕ → ℕ → Stated → Type 0
IsSound n k s = (m : ℕ) → IsValid n m k s.statement

abbrev pub AreSound : ℕ → ℕ → List Stated → Type 0
AreSound n k stated = AllByRecursion (IsSound n k) stated

preference_sound : (n k line : ℕ) (a b : Option ℕ) → IsPlace n a → IsPlace n b → AreSound n k (preference line a b)
preference_sound n k line (Some a) (Some b) h i = ((λ m. record { compared = (h, i); assigned = tt }), tt)
preference_sound n k line (Some a) None h i = tt
preference_sound n k line None b h i = tt

pair_sound : (k : ℕ) (r : Roster) (stated : List Stated) (t : Tree) → AreSound (length r.kept) k stated → IfOk (pair r stated t) (AreSound (length r.kept) k)
unfolding pair
pair_sound k r stated t h =
    keeps (AreSound (length r.kept) k) (need _ (ends_of (codes "initial") (codes "terminal") t)) _ (λ ends e.
    keeps (AreSound (length r.kept) k) (both ends.turned (side r ends.first) (side r ends.second)) _ (λ places f.
    let within = subst (λ (x : Result (Option ℕ × Option ℕ) TableFault). IfOk x (λ q. IsPlace (length r.kept) q.0 × IsPlace (length r.kept) q.1)) f
    (both_within (IsPlace (length r.kept)) ends.turned (side r ends.first) (side r ends.second) (side_within r ends.first) (side_within r ends.second)) in
    all-append (IsSound (length r.kept) k) stated (preference (line_of t) places.0 places.1) h (preference_sound (length r.kept) k (line_of t) places.0 places.1 within.0 within.1)))

pub comparisons_sound : (k : ℕ) (r : Roster) (root : Tree) → IfOk (comparisons_of r [] root) (AreSound (length r.kept) k)
unfolding comparisons_of
comparisons_sound k r root = read_all_keeps (AreSound (length r.kept) k) (pair r) (pair_sound k r) [] _ tt

abbrev AreFound : ℕ → Option (Option Classes) → Type 0
AreFound n None = Unit {0}
AreFound n (Some c) = AreClasses n c

-- what was read of an assignment
record IsAssigned (n k : ℕ) (a : Assigned) : Type 0 where
  alternative : IsFound n a.alternative
  classes : AreFound k a.classes

alternative_assigned : (k : ℕ) (r : Roster) (a : Assigned) (found : Result (Option (Option ℕ)) TableFault) → IsAssigned (length r.kept) k a → IfOk found (IsFound (length r.kept)) → IfOk (with_alternative a found) (IsAssigned (length r.kept) k)
alternative_assigned k r a (Ok f) h i = record { alternative = i; classes = h.classes }
alternative_assigned k r a (Err e) h i = tt

classes_assigned : (n k : ℕ) (a : Assigned) (before : Option (Option Classes)) (classes : Result (Option Classes) TableFault) → IsAssigned n k a → IfOk classes (AreClasses k) → IfOk (with_classes a before classes) (IsAssigned n k)
classes_assigned n k a (Some b) classes h i = h
classes_assigned n k a None (Ok c) h i = record { alternative = h.alternative; classes = i }
classes_assigned n k a None (Err e) h i = tt

part_assigned : (best_first : Bool) (r : Roster) (c : Categories) → AreRanked c → (a : Assigned) (t : Tree) → IsAssigned (length r.kept) (length c.ranks) a → IfOk (part best_first r c a t) (IsAssigned (length r.kept) (length c.ranks))
unfolding part
part_assigned best_first r c are a t h = by _ (is_set t) (is_named (codes "alternativeID") t) (is_named (codes "categoryID") t) (is_named (codes "categoriesInterval") t)
  where
    by : (fault : TableFault) (b x y z : Bool) → IfOk (cond b (Err fault) (cond x (with_alternative a (first_standing r a.alternative t)) (cond y (with_classes a a.classes (single best_first c t)) (cond z (with_classes a a.classes (interval best_first c t)) (Ok a))))) (IsAssigned (length r.kept) (length c.ranks))
    by fault true x y z = tt
    by fault false true y z = alternative_assigned (length c.ranks) r a _ h (first_standing_within r a.alternative t h.alternative)
    by fault false false true z = classes_assigned (length r.kept) (length c.ranks) a a.classes _ h (single_within best_first c t are)
    by fault false false false true = classes_assigned (length r.kept) (length c.ranks) a a.classes _ h (interval_within best_first c t are)
    by fault false false false false = h

assignment_sound : (n k line : ℕ) (a : Option (Option ℕ)) (c : Option (Option Classes)) → IsFound n a → AreFound k c → AreSound n k (assignment line a c)
assignment_sound n k line (Some (Some a)) (Some (Some c)) h i = ((λ m. record { compared = tt; assigned = record { alternative = h; from_first = i.0; some_class = i.1; to_last = i.2 } }), tt)
assignment_sound n k line (Some (Some a)) (Some None) h i = tt
assignment_sound n k line (Some (Some a)) None h i = tt
assignment_sound n k line (Some None) c h i = tt
assignment_sound n k line None c h i = tt

affectation_sound : (best_first : Bool) (r : Roster) (c : Categories) → AreRanked c → (stated : List Stated) (t : Tree) → AreSound (length r.kept) (length c.ranks) stated → IfOk (affectation best_first r c stated t) (AreSound (length r.kept) (length c.ranks))
unfolding affectation
affectation_sound best_first r c are stated t h =
    keeps (AreSound (length r.kept) (length c.ranks)) (refuse _ (not (is_complete t))) _ (λ u e.
    keeps (AreSound (length r.kept) (length c.ranks)) (read_all (part best_first r c) nothing_assigned (inside t)) _ (λ a f.
    let assigned = subst (λ (x : Result Assigned TableFault). IfOk x (IsAssigned (length r.kept) (length c.ranks))) f
    (read_all_keeps (IsAssigned (length r.kept) (length c.ranks)) (part best_first r c) (part_assigned best_first r c are) nothing_assigned (inside t) (record { alternative = tt; classes = tt })) in
    all-append (IsSound (length r.kept) (length c.ranks)) stated (assignment (line_of t) a.alternative a.classes) h (assignment_sound (length r.kept) (length c.ranks) (line_of t) a.alternative a.classes assigned.alternative assigned.classes)))

pub affectations_sound : (best_first : Bool) (r : Roster) (c : Categories) (before : List Stated) (root : Tree) → AreRanked c → AreSound (length r.kept) (length c.ranks) before → IfOk (affectations_of best_first r c before root) (AreSound (length r.kept) (length c.ranks))
unfolding affectations_of
affectations_sound best_first r c before root are h = read_all_keeps (AreSound (length r.kept) (length c.ranks)) (affectation best_first r c) (affectation_sound best_first r c are) before _ h

-- ---- the opening list

few_from : (stated : List Stated) (u : Unit {0}) → refuse_more (slice_get stated 200) ≡ Ok u → length stated ≤ 200
few_from stated u e = elim (slice_get_cases stated 200).1 [
  | inl at ↦ absurd (let more : refuse_more (Some at.0) ≡ Ok u = ap refuse_more (sym at.2) ∙ e in cc)
  | inr past ↦ past.0
]

pub opening_lawful : (n m k : ℕ) (stated : List Stated) → AreSound n k stated → IfOk (opening_of stated) (IsLawful n m k)
unfolding opening_of
opening_lawful n m k stated sound =
    keeps (IsLawful n m k) (refuse_more (slice_get stated 200)) _ (λ u e.
    keeps (IsLawful n m k) (refuse _ (nat_lt 2000 (row_count (statements stated)))) _ (λ v f.
    record {
      few = omega (arith, few_from stated u e, length-map stated (λ (s : Stated). s.statement));
      rows = ltb-false 2000 (row_count (statements stated)) (refuse_ok _ _ v f);
      each_valid = (all-map (IsValid n m k) (λ (s : Stated). s.statement) stated).0 (all-by (IsSound n k) (λ (s : Stated). IsValid n m k s.statement) stated (λ s valid. valid m) sound);
    }))
