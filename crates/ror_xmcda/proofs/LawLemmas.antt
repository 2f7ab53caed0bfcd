-- The laws of inputs.
use Rattle.std.proofs.Common.{◌≡◌, ℕ, zero, suc, ◌+◌, ◌<◌, Bool, true, false, List, [], ◌∷◌, ◌++◌, length, get_or, Option, Some, None, Result, Ok, Err, ℤ, pos, refl, sym, ap, ◌∙◌, arith, cond, subst, inl, inr, append_assoc, append-nil, zero-add}
use Rattle.std.specs.Prelude.{◌≢◌, nat_lt, IfOk, slice_index_or, count_by, int_lt, IsPermutation, AllPairs, codes, not, slice_get}
use Rattle.std.specs.List.{AllByRecursion}
use Rattle.std.proofs.lemmas.Bool.{cases_Bool, false_from_ne_true}
use Rattle.std.proofs.lemmas.Int.{ints}
use Rattle.std.proofs.lemmas.List.{map-append}
use Rattle.std.proofs.lemmas.List.Sorted.{sum_by-IsPermutation}
use Rattle.std.proofs.lemmas.List.Sums.{sum_by-cons}
use Rattle.ror_text.specs.declared.lines.TheConstants.{MOST_TEXT_BYTES}
use Rattle.ror_text.specs.Reading.{◌>>=◌, refuse, need, read_all}
use Rattle.ror_text.proofs.ReadingLemmas.{bind_ok, keeps, read_all_keeps}
use Rattle.ror_text.proofs.Everywhere.{all-append, all-map}
use Rattle.ror_statement.specs.declared.statement.Statement.{Statement}
use Rattle.ror_table.specs.declared.fault.TableFault.{TableFault}
use Rattle.ror_statement.specs.declared.row_number.TheConstants.{MOST_STATEMENTS, MOST_ROWS}
use Rattle.ror_statement.specs.RowNumbers.{row_count}
use Rattle.ror_table.specs.declared.fault.What.TheVariants.{Rows}
use Rattle.ror_table.specs.declared.fault.TableKind.TheVariants.{TooLong, TooMany}
use Rattle.ror_table.specs.Plain.{at_line, plain_table}
use Rattle.ror_table.specs.Table.{DecisionTable}
use Rattle.ror_value.specs.declared.input.Input.{Input}
use Rattle.ror_elements.specs.Elements.{elements_of}
use Rattle.ror_elements.specs.Tree.{Tree}
use Rattle.ror_xmcda.specs.declared.affectations.Classes.{Classes}
use Rattle.ror_xmcda.specs.declared.categories.Categories.{Categories}
use Rattle.ror_xmcda.specs.declared.content.Listed.{Listed}
use Rattle.ror_xmcda.specs.declared.roster.Roster.{Roster}
use Rattle.ror_xmcda.specs.declared.stated.Stated.{Stated}
use Rattle.ror_xmcda.specs.Nodes.{line_of, inside}
use Rattle.ror_xmcda.specs.Categories.{comes_before, class_of}
use Rattle.ror_xmcda.specs.Comparisons.{preference, pair, comparisons_of, side}
use Rattle.ror_xmcda.specs.Ends.{ends_of, both}
use Rattle.ror_xmcda.specs.Affectations.{is_complete, part, nothing_assigned, assignment, affectation, affectations_of}
use Rattle.ror_xmcda.specs.Opening.{statements, refuse_more, opening_of}
use Rattle.ror_xmcda.specs.Content.{listed_of, table_in, opening_in, content}
use Rattle.ror_xmcda.specs.Input.{of_elements, is_xmcda, xmcda_input, plain_input, input_of}
use Rattle.ror_xmcda.specs.Laws.{IsPreference, IsAssignment, IsOrdered}

-- ---- plain tables

too_long : (bytes : List ℕ) → nat_lt MOST_TEXT_BYTES (length bytes) ≡ true → plain_input bytes ≡ Err (at_line 0 TooLong)
unfolding plain_input plain_table
too_long bytes long = rw long refl

pub plain_read : (bytes : List ℕ) (best_first : Bool) → is_xmcda bytes ≡ false → input_of bytes best_first ≡ plain_input bytes
unfolding input_of
plain_read bytes best_first plain = elim (cases_Bool (nat_lt MOST_TEXT_BYTES (length bytes))) [
  | inl long ↦ rw long (sym (too_long bytes long))
  | inr short ↦ rw (short, plain) refl
]

-- ---- the order of statements

preference_is : (line : ℕ) (a b : Option ℕ) → AllByRecursion (λ s. IsPreference s.statement) (preference line a b)
preference_is line (Some a) (Some b) = (tt, tt)
preference_is line (Some a) None = tt
preference_is line None b = tt

abbrev pub ArePreferences : List Stated → Type 0
ArePreferences stated = AllByRecursion (λ s. IsPreference s.statement) stated

pair_prefers : (r : Roster) (stated : List Stated) (t : Tree) → ArePreferences stated → IfOk (pair r stated t) ArePreferences
unfolding pair
pair_prefers r stated t h =
    keeps ArePreferences (need _ (ends_of (codes "initial") (codes "terminal") t)) _ (λ ends e.
    keeps ArePreferences (both ends.turned (side r ends.first) (side r ends.second)) _ (λ places f.
    all-append (λ s. IsPreference s.statement) stated (preference (line_of t) places.0 places.1) h (preference_is (line_of t) places.0 places.1)))

pub comparisons_prefer : (r : Roster) (root : Tree) → IfOk (comparisons_of r [] root) ArePreferences
unfolding comparisons_of
comparisons_prefer r root = read_all_keeps ArePreferences (pair r) (pair_prefers r) [] _ tt

assignment_is : (line : ℕ) (a : Option (Option ℕ)) (c : Option (Option Classes)) → AllByRecursion (λ s. IsAssignment s.statement) (assignment line a c)
assignment_is line (Some (Some a)) (Some (Some c)) = (tt, tt)
assignment_is line (Some (Some a)) (Some None) = tt
assignment_is line (Some (Some a)) None = tt
assignment_is line (Some None) c = tt
assignment_is line None c = tt

-- assignments behind what was stated before
record IsBehind (before stated : List Stated) : Type 0 where
  more : List Stated
  is : stated ≡ before ++ more
  assigned : AllByRecursion (λ s. IsAssignment s.statement) more

affectation_behind : (best_first : Bool) (r : Roster) (c : Categories) (before stated : List Stated) (t : Tree) → IsBehind before stated → IfOk (affectation best_first r c stated t) (IsBehind before)
unfolding affectation
affectation_behind best_first r c before stated t h =
    keeps (IsBehind before) (refuse _ (not (is_complete t))) _ (λ u e.
    keeps (IsBehind before) (read_all (part best_first r c) nothing_assigned (inside t)) _ (λ a f.
    let next : List Stated = assignment (line_of t) a.alternative a.classes in
    record {
      more = h.more ++ next;
      is = ap (λ (s : List Stated). s ++ next) h.is ∙ append_assoc before h.more next;
      assigned = all-append (λ s. IsAssignment s.statement) h.more next h.assigned (assignment_is (line_of t) a.alternative a.classes);
    }))

affectations_behind : (best_first : Bool) (r : Roster) (c : Categories) (before : List Stated) (root : Tree) → IfOk (affectations_of best_first r c before root) (IsBehind before)
unfolding affectations_of
affectations_behind best_first r c before root =
    read_all_keeps (IsBehind before) (affectation best_first r c) (λ stated t h. affectation_behind best_first r c before stated t h) before _ (record { more = []; is = sym (append-nil before); assigned = tt })

pub statements_of : (stated : List Stated) (opening : List Statement) → opening_of stated ≡ Ok opening → opening ≡ statements stated
unfolding opening_of
statements_of stated opening e =
    let a = bind_ok (refuse_more (slice_get stated MOST_STATEMENTS)) (λ _. refuse (at_line 0 (TooMany Rows)) (nat_lt MOST_ROWS (row_count (statements stated))) >>= λ _. Ok (statements stated)) opening e in
    let b = bind_ok (refuse (at_line 0 (TooMany Rows)) (nat_lt MOST_ROWS (row_count (statements stated)))) (λ _. Ok (statements stated)) opening a.2 in
    let same : ◌≡◌ {A = Result (List Statement) TableFault} (Ok (statements stated)) (Ok opening) = b.2 in cc

opening_ordered : (best_first : Bool) (l : Listed) (root : Tree) (opening : List Statement) → opening_in best_first l root ≡ Ok opening → IsOrdered opening
unfolding opening_in
opening_ordered best_first l root opening e =
    let a = bind_ok (comparisons_of l.alternatives [] root) _ opening e in
    let b = bind_ok (affectations_of best_first l.alternatives l.categories a.0 root) _ opening a.2 in
    let compared : ArePreferences a.0 = subst (λ (x : Result (List Stated) TableFault). IfOk x ArePreferences) a.1 (comparisons_prefer l.alternatives root) in
    let behind : IsBehind a.0 b.0 = subst (λ (x : Result (List Stated) TableFault). IfOk x (IsBehind a.0)) b.1 (affectations_behind best_first l.alternatives l.categories a.0 root) in
    record {
      comparisons = statements a.0;
      assignments = statements behind.more;
      is = statements_of b.0 opening b.2 ∙ ap statements behind.is ∙ map-append (λ (s : Stated). s.statement) a.0 behind.more;
      compared = (all-map IsPreference (λ (s : Stated). s.statement) a.0).0 compared;
      assigned = (all-map IsAssignment (λ (s : Stated). s.statement) behind.more).0 behind.assigned;
    }

pub content_ordered : (best_first : Bool) (root : Tree) (i : Input) → content best_first root ≡ Ok i → IsOrdered i.opening
unfolding content
content_ordered best_first root i e =
    let a = bind_ok (listed_of root) _ i e in
    let b = bind_ok (table_in a.0 root) _ i a.2 in
    let c = bind_ok (opening_in best_first a.0 root) _ i b.2 in
    let same : ◌≡◌ {A = Input} (record { table = b.0; opening = c.0 }) i = (let r : ◌≡◌ {A = Result Input TableFault} (Ok (record { table = b.0; opening = c.0 })) (Ok i) = c.2 in cc) in
    subst (λ (x : Input). IsOrdered x.opening) same (opening_ordered best_first a.0 root c.0 c.1)

-- ---- classes

pub class_by_rank : (best_first : Bool) (ranks others : List ℤ) (j k : ℕ) → IsPermutation ranks others → slice_index_or ranks j (pos 0) ≡ slice_index_or others k (pos 0) → class_of best_first ranks j ≡ class_of best_first others k
unfolding class_of
class_by_rank best_first ranks others j k same at =
    ap (λ (z : ℤ). 1 + count_by (λ rank. comes_before best_first rank z) ranks) at
    ∙ ap (λ (n : ℕ). 1 + n) (sym (sum_by-IsPermutation (λ rank. cond (comes_before best_first rank (slice_index_or others k (pos 0))) 1 0) ranks others same))

-- how many ranks are greater than one, and how many are smaller
abbrev greater : ℤ → List ℤ → ℕ
greater z xs = count_by (λ r. int_lt z r) xs

abbrev smaller : ℤ → List ℤ → ℕ
smaller z xs = count_by (λ r. int_lt r z) xs

greater-cons : (z x : ℤ) (xs : List ℤ) → greater z (x ∷ xs) ≡ cond (int_lt z x) 1 0 + greater z xs
greater-cons z x xs = sum_by-cons (λ r. cond (int_lt z r) 1 0) x xs

smaller-cons : (z x : ℤ) (xs : List ℤ) → smaller z (x ∷ xs) ≡ cond (int_lt x z) 1 0 + smaller z xs
smaller-cons z x xs = sum_by-cons (λ r. cond (int_lt r z) 1 0) x xs

same_if_neither : (x z : ℤ) → int_lt z x ≡ false → int_lt x z ≡ false → x ≡ z
same_if_neither x z p q = omega (arith, ints)

one_of : (x z : ℤ) → x ≢ z → cond (int_lt z x) 1 0 + cond (int_lt x z) 1 0 ≡ 1
one_of x z apart = by (int_lt z x) (int_lt x z) refl refl
  where
    by : (a b : Bool) → int_lt z x ≡ a → int_lt x z ≡ b → cond a 1 0 + cond b 1 0 ≡ 1
    by true true p q = absurd (omega (arith, ints))
    by true false p q = refl
    by false true p q = refl
    by false false p q = absurd (apart (same_if_neither x z p q))

not_less : (z : ℤ) → int_lt z z ≡ false
not_less z = false_from_ne_true (int_lt z z) (λ less. absurd (omega (arith, ints)))

apart_counts : (z : ℤ) (xs : List ℤ) → ((i : ℕ) (d : ℤ) → i < length xs → get_or xs i d ≢ z) → greater z xs + smaller z xs ≡ length xs
apart_counts z [] apart = refl
apart_counts z (x ∷ xs) apart =
    let rest = apart_counts z xs (λ i d l. apart (suc i) d (omega arith)) in
    let here = one_of x z (apart 0 x (omega arith)) in
    omega (arith, greater-cons z x xs, smaller-cons z x xs, rest, here)

turned_counts : (xs : List ℤ) (k : ℕ) (d : ℤ) → AllPairs (λ x y. x ≢ y) xs → k < length xs → (greater (get_or xs k d) xs + smaller (get_or xs k d) xs) + 1 ≡ length xs
turned_counts [] k d apart l = absurd (omega arith)
turned_counts (x ∷ xs) zero d apart l =
    let rest = apart_counts x xs (λ i e m same. apart 0 (suc i) e (omega arith) (omega arith) (sym same)) in
    let g : greater x (x ∷ xs) ≡ greater x xs = greater-cons x x xs ∙ ap (λ b. cond b 1 0 + greater x xs) (not_less x) ∙ zero-add (greater x xs) in
    let s : smaller x (x ∷ xs) ≡ smaller x xs = smaller-cons x x xs ∙ ap (λ b. cond b 1 0 + smaller x xs) (not_less x) ∙ zero-add (smaller x xs) in
    omega (arith, rest, g, s)
turned_counts (x ∷ xs) (suc k) d apart l =
    let z : ℤ = get_or xs k d in
    let rest = turned_counts xs k d (λ i j e m n. apart (suc i) (suc j) e (omega arith) (omega arith)) (omega arith) in
    let here = one_of x z (apart 0 (suc k) d (omega arith) l) in
    omega (arith, greater-cons z x xs, smaller-cons z x xs, rest, here)

pub classes_turned : (ranks : List ℤ) (k : ℕ) → AllPairs (λ x y. x ≢ y) ranks → k < length ranks → class_of true ranks k + class_of false ranks k ≡ length ranks + 1
unfolding class_of
classes_turned ranks k apart l = omega (arith, turned_counts ranks k (pos 0) apart l)

-- ---- the table

same_table : (root : Tree) (i j : Input) → content true root ≡ Ok i → content false root ≡ Ok j → i.table ≡ j.table
unfolding content
same_table root i j e f =
    let a = bind_ok (listed_of root) _ i e in
    let b = bind_ok (table_in a.0 root) _ i a.2 in
    let c = bind_ok (opening_in true a.0 root) _ i b.2 in
    let a' = bind_ok (listed_of root) _ j f in
    let b' = bind_ok (table_in a'.0 root) _ j a'.2 in
    let c' = bind_ok (opening_in false a'.0 root) _ j b'.2 in
    let one : ◌≡◌ {A = Result Input TableFault} (Ok (record { table = b.0; opening = c.0 })) (Ok i) = c.2 in
    let other : ◌≡◌ {A = Result Input TableFault} (Ok (record { table = b'.0; opening = c'.0 })) (Ok j) = c'.2 in
    let listed : a.0 ≡ a'.0 = (let r : ◌≡◌ {A = Result Listed TableFault} (Ok a.0) (Ok a'.0) = sym a.1 ∙ a'.1 in cc) in
    let tables : ◌≡◌ {A = Result DecisionTable TableFault} (Ok b.0) (Ok b'.0) = sym b.1 ∙ ap (λ (l : Listed). table_in l root) listed ∙ b'.1 in
    let left : b.0 ≡ i.table = table_at b.0 c.0 i one in
    let right : b'.0 ≡ j.table = table_at b'.0 c'.0 j other in
    let middle : b.0 ≡ b'.0 = cc in
    sym left ∙ middle ∙ right
  where
    table_at : (t : DecisionTable) (opening : List Statement) (x : Input) → ◌≡◌ {A = Result Input TableFault} (Ok (record { table = t; opening = opening })) (Ok x) → t ≡ x.table
    table_at t opening x e = let same : ◌≡◌ {A = Input} (record { table = t; opening = opening }) x = cc in ap (λ (y : Input). y.table) same

xmcda_same : (bytes : List ℕ) (i j : Input) → xmcda_input bytes true ≡ Ok i → xmcda_input bytes false ≡ Ok j → i.table ≡ j.table
unfolding xmcda_input
xmcda_same bytes i j e f =
    let a = bind_ok (of_elements (elements_of bytes)) _ i e in
    let b = bind_ok (of_elements (elements_of bytes)) _ j f in
    let root : a.0 ≡ b.0 = (let r : ◌≡◌ {A = Result Tree TableFault} (Ok a.0) (Ok b.0) = sym a.1 ∙ b.1 in cc) in
    same_table b.0 i j (ap (content true) (sym root) ∙ a.2) b.2

pub tables_same : (bytes : List ℕ) (i j : Input) → input_of bytes true ≡ Ok i → input_of bytes false ≡ Ok j → i.table ≡ j.table
unfolding input_of
tables_same bytes i j e f =
    let a = bind_ok (refuse _ (nat_lt MOST_TEXT_BYTES (length bytes))) _ i e in
    let b = bind_ok (refuse _ (nat_lt MOST_TEXT_BYTES (length bytes))) _ j f in
    by (is_xmcda bytes) a.2 b.2
  where
    by : (x : Bool) → cond x (xmcda_input bytes true) (plain_input bytes) ≡ Ok i → cond x (xmcda_input bytes false) (plain_input bytes) ≡ Ok j → i.table ≡ j.table
    by true e f = xmcda_same bytes i j e f
    by false e f = let r : ◌≡◌ {A = Result Input TableFault} (Ok i) (Ok j) = sym e ∙ f in let same : i ≡ j = cc in ap (λ (y : Input). y.table) same
