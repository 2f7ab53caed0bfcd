-- What is read with the best first, and what is read without, side by side.
use Rattle.std.proofs.Common.{◌≡◌, ℕ, ◌+◌, ◌<◌, Bool, true, false, List, [], ◌∷◌, ◌++◌, length, get_or, Option, Some, None, Result, Ok, Err, ℤ, refl, sym, ap, ◌∙◌, arith, cond, subst}
use Rattle.std.specs.Prelude.{◌≢◌, IfOk, codes, not, option_map, AllPairs, nat_le}
use Rattle.std.specs.List.{AllByRecursion, AllZip, list_any}
use Rattle.std.specs.Ordering.{int_eq}
use Rattle.std.proofs.lemmas.Bool.{false≢true}
use Rattle.std.proofs.lemmas.Bool.Decides.{Decides-int_eq}
use Rattle.std.proofs.lemmas.List.Folds.{list_any_at}
use Rattle.std.proofs.lemmas.List.Quantifiers.{all_pairs_push}
use Rattle.ror_text.specs.Numbers.{read_performance}
use Rattle.ror_text.specs.Reading.{◌>>=◌, refuse, need, read_all}
use Rattle.ror_text.proofs.ReadingLemmas.{bind_ok, keeps, refuse_ok, read_all_keeps}
use Rattle.ror_statement.specs.declared.statement.Statement.{Statement}
use Rattle.ror_statement.specs.declared.statement.Statement.TheVariants.{Prefer, AtLeast, Same, Stronger, AsStrong, EqualStrength, Class}
use Rattle.ror_table.specs.declared.fault.Kind.TheVariants as unsupported
use Rattle.ror_table.specs.declared.fault.TableFault.{TableFault}
use Rattle.ror_table.specs.declared.fault.TableKind.TheVariants.{BadNumber, Unsupported}
use Rattle.ror_table.specs.Plain.{at_line}
use Rattle.ror_elements.specs.Tree.{Tree}
use Rattle.ror_xmcda.specs.declared.affectations.Assigned.{Assigned}
use Rattle.ror_xmcda.specs.declared.affectations.Classes.{Classes}
use Rattle.ror_xmcda.specs.declared.categories.Categories.{Categories}
use Rattle.ror_xmcda.specs.declared.roster.Roster.{Roster}
use Rattle.ror_xmcda.specs.declared.stated.Stated.{Stated}
use Rattle.ror_xmcda.specs.Nodes.{text_of, line_of, inside, is_named, at_path, first_of}
use Rattle.ror_xmcda.specs.Roster.{with_left_out}
use Rattle.ror_xmcda.specs.Listing.{new_id, is_active, standing_at}
use Rattle.ror_xmcda.specs.Categories.{AreRanked, rank_of, kept_category, category, no_categories, categories_of, class_of}
use Rattle.ror_xmcda.specs.Ends.{ends_of, both}
use Rattle.ror_xmcda.specs.Comparisons.{first_standing}
use Rattle.ror_xmcda.specs.Affectations.{class_at, bound, between, interval, single, with_alternative, with_classes, is_set, part, nothing_assigned, is_complete, assignment, affectation, affectations_of}
use Rattle.ror_xmcda.specs.Opening.{statements}
use Rattle.ror_xmcda.specs.Laws.{IsPreference, IsTurned}
use Rattle.ror_xmcda.proofs.LawfulLemmas.{IsPlace, standing_at_within}
use Rattle.ror_xmcda.proofs.LawLemmas.{classes_turned}

-- ---- two readings that agree: on a fault, or on values that are related

abbrev pub Agree : {A B F : Type 0} → (A → B → Type 0) → Result A F → Result B F → Type 0
Agree R (Ok x) (Ok y) = R x y
Agree R (Ok x) (Err f) = ⊥
Agree R (Err e) (Ok y) = ⊥
Agree R (Err e) (Err f) = e ≡ f

pub agree_bind : {A B C D F : Type 0} (R : A → B → Type 0) (S : C → D → Type 0) (x : Result A F) (y : Result B F) (f : A → Result C F) (g : B → Result D F) → Agree R x y → ((a : A) (b : B) → R a b → Agree S (f a) (g b)) → Agree S (x >>= f) (y >>= g)
agree_bind R S (Ok a) (Ok b) f g h k = k a b h
agree_bind R S (Ok a) (Err e) f g h k = absurd h
agree_bind R S (Err e) (Ok b) f g h k = absurd h
agree_bind R S (Err e) (Err d) f g h k = h

pub agree_same : {A C D F : Type 0} (S : C → D → Type 0) (x : Result A F) (f : A → Result C F) (g : A → Result D F) → ((a : A) → x ≡ Ok a → Agree S (f a) (g a)) → Agree S (x >>= f) (x >>= g)
agree_same S (Ok a) f g k = k a refl
agree_same S (Err e) f g k = refl

agree_all : {P Q L F : Type 0} (R : P → Q → Type 0) (step : P → L → Result P F) (other : Q → L → Result Q F) → ((p : P) (q : Q) (l : L) → R p q → Agree R (step p l) (other q l)) → (p : P) (q : Q) (ls : List L) → R p q → Agree R (read_all step p ls) (read_all other q ls)
agree_all R step other each p q [] h = h
agree_all R step other each p q (l ∷ ls) h = agree_bind R R (step p l) (other q l) (λ next. read_all step next ls) (λ next. read_all other next ls) (each p q l h) (λ a b r. agree_all R step other each a b ls r)

agree_both : {A F : Type 0} (R : A → A → Type 0) (turned : Bool) (x y u v : Result A F) → Agree R x y → Agree R u v → Agree (λ (p q : A × A). R p.0 q.0 × R p.1 q.1) (both turned x u) (both turned y v)
agree_both R false x y u v h k = agree_bind R _ x y _ _ h (λ a b r. agree_bind R _ u v _ _ k (λ c d s. (r, s)))
agree_both R true x y u v h k = agree_bind R _ u v _ _ k (λ c d s. agree_bind R _ x y _ _ h (λ a b r. (r, s)))

-- ---- ranks differ

abbrev pub AreApart : Categories → Type 0
AreApart c = AllPairs (λ x y. x ≢ y) c.ranks

rank_new : (ranks : List ℤ) (t : Tree) (rank : ℤ) → rank_of ranks t ≡ Ok rank → list_any (int_eq rank) ranks ≡ false
unfolding rank_of
rank_new ranks t rank e =
    let a = bind_ok (need (at_line (line_of t) (Unsupported unsupported.Rank)) (first_of (at_path (codes "rank" ∷ codes "integer" ∷ []) t))) (λ integer. need (at_line (line_of integer) BadNumber) (read_performance (text_of integer)) >>= λ r. refuse (at_line (line_of integer) BadNumber) (list_any (int_eq r) ranks) >>= λ _. Ok r) rank e in
    let b = bind_ok (need (at_line (line_of a.0) BadNumber) (read_performance (text_of a.0))) (λ r. refuse (at_line (line_of a.0) BadNumber) (list_any (int_eq r) ranks) >>= λ _. Ok r) rank a.2 in
    let c = bind_ok (refuse (at_line (line_of a.0) BadNumber) (list_any (int_eq b.0) ranks)) (λ _. Ok b.0) rank b.2 in
    let same : b.0 ≡ rank = (let r : ◌≡◌ {A = Result ℤ TableFault} (Ok b.0) (Ok rank) = c.2 in cc) in
    subst (λ (z : ℤ). list_any (int_eq z) ranks ≡ false) same (refuse_ok _ _ c.0 c.1)

differs : (ranks : List ℤ) (rank : ℤ) → list_any (int_eq rank) ranks ≡ false → (k : ℕ) (d : ℤ) → k < length ranks → get_or ranks k d ≢ rank
differs ranks rank none k d l same = false≢true (sym none ∙ list_any_at (int_eq rank) ranks k d l ((Decides-int_eq rank (get_or ranks k d)).1 (sym same)))

category_apart : (c : Categories) (t : Tree) → AreApart c → IfOk (category c t) AreApart
unfolding category
category_apart c t are = keeps AreApart (new_id c.ids t) _ (λ id e. keeps AreApart (is_active t) _ (λ active f. by id active))
  where
    by : (id : List ℕ) (active : Bool) → IfOk (cond active (kept_category c id t) (Ok (record c { ids = with_left_out c.ids id }))) AreApart
    by id true = keeps AreApart (rank_of c.ranks t) _ (λ rank e. keeps AreApart (refuse _ (nat_le 100 (length c.ranks))) _ (λ u f. all_pairs_push (λ x y. x ≢ y) c.ranks rank are (differs c.ranks rank (rank_new c.ranks t rank e))))
    by id false = are

all_apart : (root : Tree) → IfOk (categories_of root) AreApart
unfolding categories_of
all_apart root = read_all_keeps AreApart category category_apart no_categories _ (λ i j d l m. absurd (omega arith))

pub apart_from : (root : Tree) (c : Categories) → categories_of root ≡ Ok c → AreApart c
apart_from root c e = subst (λ (r : Result Categories TableFault). IfOk r AreApart) e (all_apart root)

-- ---- classes

abbrev TurnedClass : ℕ → Option ℕ → Option ℕ → Type 0
TurnedClass n None None = Unit {0}
TurnedClass n None (Some b) = ⊥
TurnedClass n (Some a) None = ⊥
TurnedClass n (Some a) (Some b) = a + b ≡ n + 1

class_turned : (c : Categories) (t : Tree) → AreRanked c → AreApart c → Agree (TurnedClass (length c.ranks)) (class_at true c t) (class_at false c t)
unfolding class_at
class_turned c t are apart = agree_same (TurnedClass (length c.ranks)) (standing_at c.ids t) _ _ (λ s e. at s (standing_at_within c.ids t s e))
  where
    at : (s : Option ℕ) → IsPlace (length c.ids.kept) s → TurnedClass (length c.ranks) (option_map (class_of true c.ranks) s) (option_map (class_of false c.ranks) s)
    at None h = tt
    at (Some k) h = classes_turned c.ranks k apart (omega (arith, are.paired))

abbrev TurnedClasses : ℕ → Option Classes → Option Classes → Type 0
TurnedClasses n None None = Unit {0}
TurnedClasses n None (Some b) = ⊥
TurnedClasses n (Some a) None = ⊥
TurnedClasses n (Some a) (Some b) = (a.lowest + b.highest ≡ n + 1) × (a.highest + b.lowest ≡ n + 1)

between_turned : (n : ℕ) (a b c d : Option ℕ) → TurnedClass n a c → TurnedClass n b d → TurnedClasses n (between a b) (between c d)
between_turned n None b None d h k = tt
between_turned n None b (Some c) d h k = absurd h
between_turned n (Some a) b None d h k = absurd h
between_turned n (Some a) None (Some c) None h k = tt
between_turned n (Some a) None (Some c) (Some d) h k = absurd k
between_turned n (Some a) (Some b) (Some c) None h k = absurd k
between_turned n (Some a) (Some b) (Some c) (Some d) h k = (omega arith, omega arith)

interval_turned : (c : Categories) (t : Tree) → AreRanked c → AreApart c → Agree (TurnedClasses (length c.ranks)) (interval true c t) (interval false c t)
unfolding interval bound
interval_turned c t are apart =
    agree_same (TurnedClasses (length c.ranks)) (need _ (ends_of (codes "lowerBound") (codes "upperBound") t)) _ _ (λ ends e.
    agree_bind (λ (p q : Option ℕ × Option ℕ). TurnedClass (length c.ranks) p.0 q.0 × TurnedClass (length c.ranks) p.1 q.1) (TurnedClasses (length c.ranks)) (both ends.turned (bound true c ends.first) (bound true c ends.second)) (both ends.turned (bound false c ends.first) (bound false c ends.second)) _ _
    (agree_both (TurnedClass (length c.ranks)) ends.turned (bound true c ends.first) (bound false c ends.first) (bound true c ends.second) (bound false c ends.second) (class_turned c _ are apart) (class_turned c _ are apart))
    (λ p q r. between_turned (length c.ranks) p.0 p.1 q.0 q.1 r.0 r.1))

single_turned : (c : Categories) (t : Tree) → AreRanked c → AreApart c → Agree (TurnedClasses (length c.ranks)) (single true c t) (single false c t)
unfolding single
single_turned c t are apart = agree_bind (TurnedClass (length c.ranks)) (TurnedClasses (length c.ranks)) (class_at true c t) (class_at false c t) _ _ (class_turned c t are apart) (λ p q r. between_turned (length c.ranks) p p q q r r)

-- ---- assignments

abbrev TurnedFound : ℕ → Option (Option Classes) → Option (Option Classes) → Type 0
TurnedFound n None None = Unit {0}
TurnedFound n None (Some b) = ⊥
TurnedFound n (Some a) None = ⊥
TurnedFound n (Some a) (Some b) = TurnedClasses n a b

record TurnedAssigned (n : ℕ) (a b : Assigned) : Type 0 where
  alternative : a.alternative ≡ b.alternative
  classes : TurnedFound n a.classes b.classes

alternatives_agree : (n : ℕ) (a b : Assigned) (found other : Result (Option (Option ℕ)) TableFault) → TurnedAssigned n a b → found ≡ other → Agree (TurnedAssigned n) (with_alternative a found) (with_alternative b other)
alternatives_agree n a b found other h same = subst (λ (r : Result (Option (Option ℕ)) TableFault). Agree (TurnedAssigned n) (with_alternative a found) (with_alternative b r)) same (by found)
  where
    by : (r : Result (Option (Option ℕ)) TableFault) → Agree (TurnedAssigned n) (with_alternative a r) (with_alternative b r)
    by (Ok x) = record { alternative = refl; classes = h.classes }
    by (Err e) = refl

classes_agree : (n : ℕ) (a b : Assigned) (before other : Option (Option Classes)) (x y : Result (Option Classes) TableFault) → TurnedAssigned n a b → TurnedFound n before other → Agree (TurnedClasses n) x y → Agree (TurnedAssigned n) (with_classes a before x) (with_classes b other y)
classes_agree n a b (Some p) (Some q) x y h f k = h
classes_agree n a b (Some p) None x y h f k = absurd f
classes_agree n a b None (Some q) x y h f k = absurd f
classes_agree n a b None None (Ok x) (Ok y) h f k = record { alternative = h.alternative; classes = k }
classes_agree n a b None None (Ok x) (Err e) h f k = absurd k
classes_agree n a b None None (Err e) (Ok y) h f k = absurd k
classes_agree n a b None None (Err e) (Err d) h f k = k

part_turned : (r : Roster) (c : Categories) → AreRanked c → AreApart c → (a b : Assigned) (t : Tree) → TurnedAssigned (length c.ranks) a b → Agree (TurnedAssigned (length c.ranks)) (part true r c a t) (part false r c b t)
unfolding part
part_turned r c are apart a b t h = by _ (is_set t) (is_named (codes "alternativeID") t) (is_named (codes "categoryID") t) (is_named (codes "categoriesInterval") t)
  where
    by : (fault : TableFault) (s x y z : Bool) → Agree (TurnedAssigned (length c.ranks))
        (cond s (Err fault) (cond x (with_alternative a (first_standing r a.alternative t)) (cond y (with_classes a a.classes (single true c t)) (cond z (with_classes a a.classes (interval true c t)) (Ok a)))))
        (cond s (Err fault) (cond x (with_alternative b (first_standing r b.alternative t)) (cond y (with_classes b b.classes (single false c t)) (cond z (with_classes b b.classes (interval false c t)) (Ok b)))))
    by fault true x y z = refl
    by fault false true y z = alternatives_agree (length c.ranks) a b _ _ h (ap (λ (f : Option (Option ℕ)). first_standing r f t) h.alternative)
    by fault false false true z = classes_agree (length c.ranks) a b a.classes b.classes _ _ h h.classes (single_turned c t are apart)
    by fault false false false true = classes_agree (length c.ranks) a b a.classes b.classes _ _ h h.classes (interval_turned c t are apart)
    by fault false false false false = h

-- ---- statements

-- at the same line, with the classes turned
pub record IsTurnedThere (n : ℕ) (x y : Stated) : Type 0 where
  pub line : x.line ≡ y.line
  pub statement : IsTurned n x.statement y.statement

abbrev pub AreTurned : ℕ → List Stated → List Stated → Type 0
AreTurned n xs ys = AllZip (IsTurnedThere n) xs ys

turned-append : (n : ℕ) (xs ys us vs : List Stated) → AreTurned n xs ys → AreTurned n us vs → AreTurned n (xs ++ us) (ys ++ vs)
turned-append n [] [] us vs h k = k
turned-append n [] (y ∷ ys) us vs h k = absurd h
turned-append n (x ∷ xs) [] us vs h k = absurd h
turned-append n (x ∷ xs) (y ∷ ys) us vs h k = (h.0, turned-append n xs ys us vs h.1 k)

assignment_turned : (n line : ℕ) (a b : Option (Option ℕ)) (c d : Option (Option Classes)) → a ≡ b → TurnedFound n c d → AreTurned n (assignment line a c) (assignment line b d)
assignment_turned n line a b c d same h = subst (λ (x : Option (Option ℕ)). AreTurned n (assignment line a c) (assignment line x d)) same (by a c d h)
  where
    by : (x : Option (Option ℕ)) (c d : Option (Option Classes)) → TurnedFound n c d → AreTurned n (assignment line x c) (assignment line x d)
    by (Some (Some k)) (Some (Some p)) (Some (Some q)) h = (record { line = refl; statement = (refl, h.0, h.1) }, tt)
    by (Some (Some k)) (Some (Some p)) (Some None) h = absurd h
    by (Some (Some k)) (Some (Some p)) None h = absurd h
    by (Some (Some k)) (Some None) (Some (Some q)) h = absurd h
    by (Some (Some k)) (Some None) (Some None) h = tt
    by (Some (Some k)) (Some None) None h = absurd h
    by (Some (Some k)) None (Some q) h = absurd h
    by (Some (Some k)) None None h = tt
    by (Some None) c d h = tt
    by None c d h = tt

affectation_turned : (r : Roster) (c : Categories) → AreRanked c → AreApart c → (xs ys : List Stated) (t : Tree) → AreTurned (length c.ranks) xs ys → Agree (AreTurned (length c.ranks)) (affectation true r c xs t) (affectation false r c ys t)
unfolding affectation
affectation_turned r c are apart xs ys t h =
    agree_same (AreTurned (length c.ranks)) (refuse _ (not (is_complete t))) _ _ (λ u e.
    agree_bind (TurnedAssigned (length c.ranks)) (AreTurned (length c.ranks)) (read_all (part true r c) nothing_assigned (inside t)) (read_all (part false r c) nothing_assigned (inside t)) _ _
    (agree_all (TurnedAssigned (length c.ranks)) (part true r c) (part false r c) (part_turned r c are apart) nothing_assigned nothing_assigned (inside t) (record { alternative = refl; classes = tt }))
    (λ a b k. turned-append (length c.ranks) xs ys (assignment (line_of t) a.alternative a.classes) (assignment (line_of t) b.alternative b.classes) h (assignment_turned (length c.ranks) (line_of t) a.alternative b.alternative a.classes b.classes k.alternative k.classes)))

pub affectations_turned : (r : Roster) (c : Categories) (before : List Stated) (root : Tree) → AreRanked c → AreApart c → AreTurned (length c.ranks) before before → Agree (AreTurned (length c.ranks)) (affectations_of true r c before root) (affectations_of false r c before root)
unfolding affectations_of
affectations_turned r c before root are apart h = agree_all (AreTurned (length c.ranks)) (affectation true r c) (affectation false r c) (affectation_turned r c are apart) before before _ h

-- a preference has no classes
preference_itself : (n : ℕ) (s : Statement) → IsPreference s → IsTurned n s s
preference_itself n (Prefer a b) h = (refl, refl)
preference_itself n (AtLeast a b) h = absurd h
preference_itself n (Same a b) h = absurd h
preference_itself n (Stronger p q s) h = absurd h
preference_itself n (AsStrong p q s) h = absurd h
preference_itself n (EqualStrength p q s) h = absurd h
preference_itself n (Class a l k) h = absurd h

pub preferences_themselves : (n : ℕ) (xs : List Stated) → AllByRecursion (λ s. IsPreference s.statement) xs → AreTurned n xs xs
preferences_themselves n [] h = tt
preferences_themselves n (x ∷ xs) h = (record { line = refl; statement = preference_itself n x.statement h.0 }, preferences_themselves n xs h.1)

pub statements_turned : (n : ℕ) (xs ys : List Stated) → AreTurned n xs ys → AllZip (IsTurned n) (statements xs) (statements ys)
statements_turned n [] [] h = tt
statements_turned n [] (y ∷ ys) h = absurd h
statements_turned n (x ∷ xs) [] h = absurd h
statements_turned n (x ∷ xs) (y ∷ ys) h = (h.0.statement, statements_turned n xs ys h.1)
