-- That the best first changes no fault.
use Rattle.std.proofs.Common.{◌≡◌, ℕ, zero, suc, ◌+◌, Bool, true, false, List, [], ◌∷◌, length, Option, Some, None, Result, Ok, Err, refl, sym, ap, ◌∙◌, arith, cond, subst, inl, inr}
use Rattle.std.specs.Prelude.{◌↔◌, IfOk, nat_lt, slice_get, option_to_list}
use Rattle.std.specs.List.{AllZip, flat_map, sum_by}
use Rattle.std.proofs.lemmas.Bool.{cases_Bool, lt-ltb, le-ltb, ltb-true, ltb-false}
use Rattle.std.proofs.lemmas.List.Sums.{sum_by-cons, sum_by-append}
use Rattle.ror_text.specs.declared.lines.TheConstants.{MOST_TEXT_BYTES}
use Rattle.ror_text.specs.Reading.{◌>>=◌, refuse}
use Rattle.ror_statement.specs.declared.comparison.Comparison.{Comparison}
use Rattle.ror_statement.specs.declared.comparison.Form.TheVariants.{Value}
use Rattle.ror_statement.specs.declared.comparison.Relation.TheVariants as relations
use Rattle.ror_statement.specs.declared.row_number.TheConstants.{MOST_STATEMENTS, MOST_ROWS}
use Rattle.ror_statement.specs.declared.statement.Assignment.{Assignment}
use Rattle.ror_statement.specs.declared.statement.Statement.{Statement}
use Rattle.ror_statement.specs.declared.statement.Statement.TheVariants.{Prefer, AtLeast, Same, Stronger, AsStrong, EqualStrength, Class}
use Rattle.ror_statement.specs.RowNumbers.{rows_of, rows_number, row_count}
use Rattle.ror_statement.specs.Statements.{comparison_by, comparison_of, assignment_of, outranking_by, outranking, class_comparisons}
use Rattle.ror_table.specs.declared.fault.TableFault.{TableFault}
use Rattle.ror_table.specs.declared.fault.TableKind.TheVariants.{TooMany}
use Rattle.ror_table.specs.declared.fault.What.TheVariants.{Rows}
use Rattle.ror_table.specs.Plain.{at_line}
use Rattle.ror_value.specs.declared.input.Input.{Input}
use Rattle.ror_elements.specs.Elements.{elements_of}
use Rattle.ror_elements.specs.Tree.{Tree}
use Rattle.ror_xmcda.specs.declared.content.Listed.{Listed}
use Rattle.ror_xmcda.specs.declared.stated.Stated.{Stated}
use Rattle.ror_xmcda.specs.Comparisons as comparisons
use Rattle.ror_xmcda.specs.Affectations.{affectations_of}
use Rattle.ror_xmcda.specs.Opening.{statements, refuse_more, opening_of}
use Rattle.ror_xmcda.specs.Content.{listed_of, table_in, opening_in, content}
use Rattle.ror_xmcda.specs.Input.{of_elements, is_xmcda, xmcda_input, plain_input, input_of}
use Rattle.ror_xmcda.specs.Laws.{IsTurned}
use Rattle.ror_xmcda.specs.Categories.{AreRanked}
use Rattle.ror_xmcda.proofs.ContentLemmas.{listed_in}
use Rattle.ror_xmcda.proofs.LawLemmas.{ArePreferences, comparisons_prefer}
use Rattle.ror_xmcda.proofs.OpeningLemmas.{apart_in}
use Rattle.ror_xmcda.proofs.TurnedLemmas.{Agree, agree_bind, agree_same, AreApart, AreTurned, affectations_turned, preferences_themselves, statements_turned}

-- ---- sums

sum_zip : {A B : Type 0} (R : A → B → Type 0) (f : A → ℕ) (g : B → ℕ) → ((x : A) (y : B) → R x y → f x ≡ g y) → (xs : List A) (ys : List B) → AllZip R xs ys → sum_by f xs ≡ sum_by g ys
sum_zip R f g same [] [] h = refl
sum_zip R f g same [] (y ∷ ys) h = absurd h
sum_zip R f g same (x ∷ xs) [] h = absurd h
sum_zip R f g same (x ∷ xs) (y ∷ ys) h =
    let rest = sum_zip R f g same xs ys h.1 in
    let here = same x y h.0 in
    omega (arith, sum_by-cons f x xs, sum_by-cons g y ys, rest, here)

sum_same : {A : Type 0} (f g : A → ℕ) → ((x : A) → f x ≡ g x) → (xs : List A) → sum_by f xs ≡ sum_by g xs
sum_same f g same [] = refl
sum_same f g same (x ∷ xs) =
    let rest = sum_same f g same xs in
    let here = same x in
    omega (arith, sum_by-cons f x xs, sum_by-cons g x xs, rest, here)

sum_both : {A : Type 0} (f g : A → ℕ) (xs : List A) → sum_by (λ x. f x + g x) xs ≡ sum_by f xs + sum_by g xs
sum_both f g [] = refl
sum_both f g (x ∷ xs) =
    let rest = sum_both f g xs in
    omega (arith, sum_by-cons (λ x. f x + g x) x xs, sum_by-cons f x xs, sum_by-cons g x xs, rest)

sum_nothing : {A : Type 0} (xs : List A) → sum_by (λ (x : A). 0) xs ≡ 0
sum_nothing [] = refl
sum_nothing {A} (x ∷ xs) = let rest = sum_nothing xs in omega (arith, sum_by-cons (λ (x : A). 0) x xs, rest)

-- a sum over pairs can be taken in either order
sum_exchanged : {A B : Type 0} (f : A → B → ℕ) (xs : List A) (ys : List B) → sum_by (λ x. sum_by (f x) ys) xs ≡ sum_by (λ y. sum_by (λ x. f x y) xs) ys
sum_exchanged f [] ys = sym (sum_nothing ys)
sum_exchanged f (x ∷ xs) ys =
    let rest = sum_exchanged f xs ys in
    let parts = sum_both (f x) (λ y. sum_by (λ x. f x y) xs) ys in
    let whole = sum_same (λ y. sum_by (λ x. f x y) (x ∷ xs)) (λ y. f x y + sum_by (λ x. f x y) xs) (λ y. sum_by-cons (λ x. f x y) x xs) ys in
    sum_by-cons (λ x. sum_by (f x) ys) x xs ∙ ap (λ (n : ℕ). sum_by (f x) ys + n) rest ∙ sym parts ∙ sym whole

-- ---- rows

rows-flat_map : {A : Type 0} (f : A → List Comparison) (xs : List A) → rows_number (flat_map f xs) ≡ sum_by (λ x. rows_number (f x)) xs
rows-flat_map f [] = refl
rows-flat_map f (x ∷ xs) =
    sum_by-append (λ c. rows_of c.relation) (f x) (flat_map f xs) ∙ ap (λ (n : ℕ). rows_number (f x) + n) (rows-flat_map f xs) ∙ sym (sum_by-cons (λ x. rows_number (f x)) x xs)

-- two assignments, whose classes are counted from either end
abbrev TurnedAssignment : ℕ → Option Assignment → Option Assignment → Type 0
TurnedAssignment n None None = Unit {0}
TurnedAssignment n None (Some b) = ⊥
TurnedAssignment n (Some a) None = ⊥
TurnedAssignment n (Some a) (Some b) = (a.lowest + b.highest ≡ n + 1) × (a.highest + b.lowest ≡ n + 1)

record IsTurnedWhole (n : ℕ) (r s : Statement) : Type 0 where
  comparison : comparison_of r ≡ comparison_of s
  assignment : TurnedAssignment n (assignment_of r) (assignment_of s)

turned_whole : (n : ℕ) (r s : Statement) → IsTurned n r s → IsTurnedWhole n r s
turned_whole n (Prefer a b) (Prefer c d) h = record { comparison = rw (h.0, h.1) refl; assignment = tt }
turned_whole n (Prefer a b) (AtLeast c d) h = absurd h
turned_whole n (Prefer a b) (Same c d) h = absurd h
turned_whole n (Prefer a b) (Stronger p q s) h = absurd h
turned_whole n (Prefer a b) (AsStrong p q s) h = absurd h
turned_whole n (Prefer a b) (EqualStrength p q s) h = absurd h
turned_whole n (Prefer a b) (Class c l k) h = absurd h
turned_whole n (Class a l k) (Class b m j) h = record { comparison = refl; assignment = (h.1, h.2) }
turned_whole n (Class a l k) (Prefer c d) h = absurd h
turned_whole n (Class a l k) (AtLeast c d) h = absurd h
turned_whole n (Class a l k) (Same c d) h = absurd h
turned_whole n (Class a l k) (Stronger p q s) h = absurd h
turned_whole n (Class a l k) (AsStrong p q s) h = absurd h
turned_whole n (Class a l k) (EqualStrength p q s) h = absurd h
turned_whole n (AtLeast a b) s h = absurd h
turned_whole n (Same a b) s h = absurd h
turned_whole n (Stronger p q x) s h = absurd h
turned_whole n (AsStrong p q x) s h = absurd h
turned_whole n (EqualStrength p q x) s h = absurd h

below_turned : (n a b c d : ℕ) → a + b ≡ n + 1 → c + d ≡ n + 1 → nat_lt c a ≡ nat_lt b d
below_turned n a b c d p q = elim (cases_Bool (nat_lt c a)) [
  | inl less ↦ less ∙ sym (lt-ltb b d (let l = ltb-true c a less in omega (arith, l, p, q)))
  | inr past ↦ past ∙ sym (le-ltb b d (let l = ltb-false c a past in omega (arith, l, p, q)))
]

-- what two say together, their turned ones say the other way round
pair_turned : (n : ℕ) (a b c d : Option Assignment) → TurnedAssignment n a b → TurnedAssignment n c d → rows_number (outranking_by a c) ≡ rows_number (outranking_by d b)
pair_turned n None None None None h k = refl
pair_turned n None None (Some c) (Some d) h k = refl
pair_turned n None None None (Some d) h k = absurd k
pair_turned n None None (Some c) None h k = absurd k
pair_turned n None (Some b) c d h k = absurd h
pair_turned n (Some a) None c d h k = absurd h
pair_turned n (Some a) (Some b) None None h k = refl
pair_turned n (Some a) (Some b) None (Some d) h k = absurd k
pair_turned n (Some a) (Some b) (Some c) None h k = absurd k
pair_turned n (Some a) (Some b) (Some c) (Some d) h k =
    by (nat_lt c.highest a.lowest) (nat_lt b.highest d.lowest) (below_turned n a.lowest b.highest c.highest d.lowest h.0 k.1)
  where
    by : (x y : Bool) → x ≡ y → rows_number (cond x (comparison_by relations.Above (Value a.alternative c.alternative) ∷ []) []) ≡ rows_number (cond y (comparison_by relations.Above (Value d.alternative b.alternative) ∷ []) [])
    by true true e = refl
    by true false e = absurd cc
    by false true e = absurd cc
    by false false e = refl

class_rows : (list : List Statement) → rows_number (class_comparisons list) ≡ sum_by (λ r. sum_by (λ s. rows_number (outranking r s)) list) list
class_rows list =
    rows-flat_map (λ r. flat_map (outranking r) list) list
    ∙ sum_same (λ r. rows_number (flat_map (outranking r) list)) (λ r. sum_by (λ s. rows_number (outranking r s)) list) (λ r. rows-flat_map (outranking r) list) list

class_rows_turned : (n : ℕ) (xs ys : List Statement) → AllZip (IsTurned n) xs ys → rows_number (class_comparisons xs) ≡ rows_number (class_comparisons ys)
class_rows_turned n xs ys h =
    class_rows xs
    ∙ sum_zip (IsTurned n) (λ r. sum_by (λ s. rows_number (outranking r s)) xs) (λ r. sum_by (λ s. rows_number (outranking s r)) ys)
    (λ r u p. sum_zip (IsTurned n) (λ s. rows_number (outranking r s)) (λ s. rows_number (outranking s u))
    (λ s v q. pair_turned n (assignment_of r) (assignment_of u) (assignment_of s) (assignment_of v) (turned_whole n r u p).assignment (turned_whole n s v q).assignment) xs ys h) xs ys h
    ∙ sum_exchanged (λ r s. rows_number (outranking s r)) ys ys
    ∙ sym (class_rows ys)

own_rows_turned : (n : ℕ) (xs ys : List Statement) → AllZip (IsTurned n) xs ys → rows_number (flat_map (λ s. option_to_list (comparison_of s)) xs) ≡ rows_number (flat_map (λ s. option_to_list (comparison_of s)) ys)
own_rows_turned n xs ys h =
    rows-flat_map (λ s. option_to_list (comparison_of s)) xs
    ∙ sum_zip (IsTurned n) (λ s. rows_number (option_to_list (comparison_of s))) (λ s. rows_number (option_to_list (comparison_of s))) (λ r s p. ap (λ (c : Option Comparison). rows_number (option_to_list c)) (turned_whole n r s p).comparison) xs ys h
    ∙ sym (rows-flat_map (λ s. option_to_list (comparison_of s)) ys)

row_count_turned : (n : ℕ) (xs ys : List Statement) → AllZip (IsTurned n) xs ys → row_count xs ≡ row_count ys
row_count_turned n xs ys h =
    let own = own_rows_turned n xs ys h in
    let classes = class_rows_turned n xs ys h in
    omega (arith, sum_by-append (λ c. rows_of c.relation) (flat_map (λ s. option_to_list (comparison_of s)) xs) (class_comparisons xs), sum_by-append (λ c. rows_of c.relation) (flat_map (λ s. option_to_list (comparison_of s)) ys) (class_comparisons ys), own, classes)

-- ---- faults

more_same : (n : ℕ) (xs ys : List Stated) (k : ℕ) → AreTurned n xs ys → refuse_more (slice_get xs k) ≡ refuse_more (slice_get ys k)
more_same n [] [] k h = refl
more_same n [] (y ∷ ys) k h = absurd h
more_same n (x ∷ xs) [] k h = absurd h
more_same n (x ∷ xs) (y ∷ ys) zero h = rw h.0.line refl
more_same n (x ∷ xs) (y ∷ ys) (suc k) h = more_same n xs ys k h.1

-- a step that is the same
agree_equal : {A C D F : Type 0} (S : C → D → Type 0) (x y : Result A F) (f : A → Result C F) (g : A → Result D F) → x ≡ y → ((a : A) → Agree S (f a) (g a)) → Agree S (x >>= f) (y >>= g)
agree_equal {A} {C} {D} {F} S x y f g same each = subst (λ (z : Result A F). Agree S (x >>= f) (z >>= g)) same (agree_same S x f g (λ a e. each a))

opening_agrees : (n : ℕ) (xs ys : List Stated) → AreTurned n xs ys → Agree (AllZip (IsTurned n)) (opening_of xs) (opening_of ys)
unfolding opening_of
opening_agrees n xs ys h =
    let rows : row_count (statements xs) ≡ row_count (statements ys) = row_count_turned n (statements xs) (statements ys) (statements_turned n xs ys h) in
    agree_equal (AllZip (IsTurned n)) (refuse_more (slice_get xs MOST_STATEMENTS)) (refuse_more (slice_get ys MOST_STATEMENTS)) (λ u. refuse (at_line 0 (TooMany Rows)) (nat_lt MOST_ROWS (row_count (statements xs))) >>= λ v. Ok (statements xs)) (λ u. refuse (at_line 0 (TooMany Rows)) (nat_lt MOST_ROWS (row_count (statements ys))) >>= λ v. Ok (statements ys)) (more_same n xs ys MOST_STATEMENTS h) (λ u.
    agree_equal (AllZip (IsTurned n)) (refuse (at_line 0 (TooMany Rows)) (nat_lt MOST_ROWS (row_count (statements xs)))) (refuse (at_line 0 (TooMany Rows)) (nat_lt MOST_ROWS (row_count (statements ys)))) (λ v. Ok (statements xs)) (λ v. Ok (statements ys)) (ap (λ (m : ℕ). refuse (at_line 0 (TooMany Rows)) (nat_lt MOST_ROWS m)) rows) (λ v. statements_turned n xs ys h))

opening_in_agrees : (l : Listed) (root : Tree) → AreRanked l.categories → AreApart l.categories → Agree (AllZip (IsTurned (length l.categories.ranks))) (opening_in true l root) (opening_in false l root)
unfolding opening_in
opening_in_agrees l root are apart =
    let n : ℕ = length l.categories.ranks in
    agree_same (AllZip (IsTurned n)) (comparisons.comparisons_of l.alternatives [] root) _ _ (λ compared e.
    let prefer : ArePreferences compared = subst (λ (x : Result (List Stated) TableFault). IfOk x ArePreferences) e (comparisons_prefer l.alternatives root) in
    agree_bind (AreTurned n) (AllZip (IsTurned n)) (affectations_of true l.alternatives l.categories compared root) (affectations_of false l.alternatives l.categories compared root) opening_of opening_of
    (affectations_turned l.alternatives l.categories compared root are apart (preferences_themselves n compared prefer)) (λ xs ys h. opening_agrees n xs ys h))

-- any two values
abbrev Both : Input → Input → Type 0
Both i j = Unit {0}

content_agrees : (root : Tree) → Agree Both (content true root) (content false root)
unfolding content
content_agrees root =
    agree_same Both (listed_of root) _ _ (λ l e. agree_same Both (table_in l root) _ _ (λ t f.
    agree_bind (AllZip (IsTurned (length l.categories.ranks))) Both (opening_in true l root) (opening_in false l root) _ _ (opening_in_agrees l root (listed_in root l e).ranked (apart_in root l e)) (λ xs ys h. tt)))

xmcda_agrees : (bytes : List ℕ) → Agree Both (xmcda_input bytes true) (xmcda_input bytes false)
unfolding xmcda_input
xmcda_agrees bytes = agree_same Both (of_elements (elements_of bytes)) _ _ (λ root e. content_agrees root)

itself : (r : Result Input TableFault) → Agree Both r r
itself (Ok i) = tt
itself (Err f) = refl

input_agrees : (bytes : List ℕ) → Agree Both (input_of bytes true) (input_of bytes false)
unfolding input_of
input_agrees bytes = agree_same Both (refuse _ (nat_lt MOST_TEXT_BYTES (length bytes))) _ _ (λ u e. by (is_xmcda bytes))
  where
    by : (b : Bool) → Agree Both (cond b (xmcda_input bytes true) (plain_input bytes)) (cond b (xmcda_input bytes false) (plain_input bytes))
    by true = xmcda_agrees bytes
    by false = itself (plain_input bytes)

same_fault : (r s : Result Input TableFault) (fault : TableFault) → Agree Both r s → (r ≡ Err fault) ↔ (s ≡ Err fault)
same_fault (Ok i) (Ok j) fault h = (λ e. absurd cc, λ e. absurd cc)
same_fault (Ok i) (Err f) fault h = absurd h
same_fault (Err f) (Ok j) fault h = absurd h
same_fault (Err f) (Err g) fault h = (λ e. ap (λ (x : TableFault). Err x) (sym h) ∙ e, λ e. ap (λ (x : TableFault). Err x) h ∙ e)

pub faults_same : (bytes : List ℕ) (fault : TableFault) → (input_of bytes true ≡ Err fault) ↔ (input_of bytes false ≡ Err fault)
faults_same bytes fault = same_fault (input_of bytes true) (input_of bytes false) fault (input_agrees bytes)
