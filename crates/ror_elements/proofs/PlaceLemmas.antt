-- One name more, at the last place.
use Rattle.std.proofs.Common.{◌≡◌, ◌<◌, ◌≤◌, ℕ, zero, suc, Bool, true, false, List, [], ◌∷◌, ◌++◌, length, filter, Option, Some, None, refl, sym, ap, subst, ◌∙◌, arith}
use Rattle.std.specs.Prelude.{◌==◌, ◌||◌, cond, is_some}
use Rattle.std.specs.Cmp.Lexicographic.{slice_cmp}
use Rattle.std.specs.List.{AllByRecursion, list_any}
use Rattle.std.specs.BTreeMap.{insert_entry, is_at}
use Rattle.std.specs.Map.{lookup}
use Rattle.std.specs.Ordering.{is_eq, match_ordering, nat_cmp}
use Rattle.std.specs.Str.{bytes_eq}
use Rattle.std.specs.declared.cmp.Ordering.{Ordering}
use Rattle.std.specs.declared.cmp.Ordering.TheVariants.{Less, Equal, Greater}
use Rattle.std.proofs.lemmas.Bool.{eq-eqb, ne_eqb}
use Rattle.std.proofs.lemmas.List.Folds.{list_any-append}
use Rattle.std.proofs.lemmas.Map.Text.{is_eq-slice_cmp}
use Rattle.ror_elements.specs.Places.{at_first_places, in_order, ArePlaces}

-- ---- a key that isn't there

module _ {K X : Type 0} (cmp : K → K → Ordering) (key : K) (value : X) where
  passed_over : (test : K × X → Bool) → test (key, value) ≡ false → (entries : List (K × X)) → lookup (is_at (cmp key)) entries ≡ None
      → filter test (insert_entry cmp entries key value) ≡ filter test entries
  passed_over test fails [] none = rw fails refl
  passed_over test fails (e ∷ es) none = by (cmp key e.0) none (passed_over test fails es)
    where
      by : (r : Ordering) → cond (is_eq r) (Some e.1) (lookup (is_at (cmp key)) es) ≡ None
          → (lookup (is_at (cmp key)) es ≡ None → filter test (insert_entry cmp es key value) ≡ filter test es)
          → filter test (match_ordering r ((key, value) ∷ e ∷ es) ((e.0, value) ∷ es) (e ∷ insert_entry cmp es key value)) ≡ filter test (e ∷ es)
      by Less none rest = rw fails refl
      by Equal none rest = absurd cc
      by Greater none rest = rw (rest none) refl

  alone : (test : K × X → Bool) → test (key, value) ≡ true → (entries : List (K × X)) → AllByRecursion (λ e. test e ≡ false) entries → lookup (is_at (cmp key)) entries ≡ None
      → filter test (insert_entry cmp entries key value) ≡ (key, value) ∷ []
  alone test passes [] fail none = rw passes refl
  alone test passes (e ∷ es) fail none = by (cmp key e.0) none (alone test passes es fail.1)
    where
      nothing : (es : List (K × X)) → AllByRecursion (λ e. test e ≡ false) es → filter test es ≡ []
      nothing [] h = refl
      nothing (e ∷ es) h = rw (h.0, nothing es h.1) refl

      by : (r : Ordering) → cond (is_eq r) (Some e.1) (lookup (is_at (cmp key)) es) ≡ None
          → (lookup (is_at (cmp key)) es ≡ None → filter test (insert_entry cmp es key value) ≡ (key, value) ∷ [])
          → filter test (match_ordering r ((key, value) ∷ e ∷ es) ((e.0, value) ∷ es) (e ∷ insert_entry cmp es key value)) ≡ (key, value) ∷ []
      by Less none rest = rw (passes, fail.0, nothing es fail.1) refl
      by Equal none rest = absurd cc
      by Greater none rest = rw (fail.0, rest none) refl

  here_or : (b : Bool) (other : Option X) → is_some (cond b (Some value) other) ≡ (b || is_some other)
  here_or true other = refl
  here_or false other = refl

  found_too : (test : K → Bool) (entries : List (K × X)) → lookup (is_at (cmp key)) entries ≡ None
      → is_some (lookup test (insert_entry cmp entries key value)) ≡ (test key || is_some (lookup test entries))
  found_too test [] none = here_or (test key) None
  found_too test (e ∷ es) none = by (cmp key e.0) none (found_too test es)
    where
      behind : (b c : Bool) (other old : Option X) → is_some other ≡ (c || is_some old) → is_some (cond b (Some e.1) other) ≡ (c || is_some (cond b (Some e.1) old))
      behind true true other old h = refl
      behind true false other old h = refl
      behind false c other old h = h

      by : (r : Ordering) → cond (is_eq r) (Some e.1) (lookup (is_at (cmp key)) es) ≡ None
          → (lookup (is_at (cmp key)) es ≡ None → is_some (lookup test (insert_entry cmp es key value)) ≡ (test key || is_some (lookup test es)))
          → is_some (lookup test (match_ordering r ((key, value) ∷ e ∷ es) ((e.0, value) ∷ es) (e ∷ insert_entry cmp es key value))) ≡ (test key || is_some (lookup test (e ∷ es)))
      by Less none rest = here_or (test key) (lookup test (e ∷ es))
      by Equal none rest = absurd cc
      by Greater none rest = behind (test e.0) (test key) (lookup test (insert_entry cmp es key value)) (lookup test es) (rest none)

  one_longer : (entries : List (K × X)) → lookup (is_at (cmp key)) entries ≡ None → length (insert_entry cmp entries key value) ≡ suc (length entries)
  one_longer [] none = refl
  one_longer (e ∷ es) none = by (cmp key e.0) none (one_longer es)
    where
      by : (r : Ordering) → cond (is_eq r) (Some e.1) (lookup (is_at (cmp key)) es) ≡ None
          → (lookup (is_at (cmp key)) es ≡ None → length (insert_entry cmp es key value) ≡ suc (length es))
          → length (match_ordering r ((key, value) ∷ e ∷ es) ((e.0, value) ∷ es) (e ∷ insert_entry cmp es key value)) ≡ suc (suc (length es))
      by Less none rest = refl
      by Equal none rest = absurd cc
      by Greater none rest = ap suc (rest none)

  all_with : (P : K × X → Type 0) → P (key, value) → (entries : List (K × X)) → AllByRecursion P entries → lookup (is_at (cmp key)) entries ≡ None
      → AllByRecursion P (insert_entry cmp entries key value)
  all_with P p [] all none = (p, tt)
  all_with P p (e ∷ es) all none = by (cmp key e.0) none (all_with P p es all.1)
    where
      by : (r : Ordering) → cond (is_eq r) (Some e.1) (lookup (is_at (cmp key)) es) ≡ None
          → (lookup (is_at (cmp key)) es ≡ None → AllByRecursion P (insert_entry cmp es key value))
          → AllByRecursion P (match_ordering r ((key, value) ∷ e ∷ es) ((e.0, value) ∷ es) (e ∷ insert_entry cmp es key value))
      by Less none rest = (p, all)
      by Equal none rest = absurd cc
      by Greater none rest = (all.0, rest none)

-- ---- a name that isn't there

weaker : {K : Type 0} (m n : ℕ) → m ≤ n → (entries : List (K × ℕ)) → AllByRecursion (λ (e : K × ℕ). e.1 < m) entries → AllByRecursion (λ (e : K × ℕ). e.1 < n) entries
weaker m n h [] all = tt
weaker m n h (e ∷ es) all = (omega (arith, all.0), weaker m n h es all.1)

apart : (place other : ℕ) → place < other → (place == other) ≡ false
apart place other h = ne_eqb place other (λ same. absurd (omega (arith, h, same)))

none_there : {K : Type 0} (n : ℕ) (entries : List (K × ℕ)) → AllByRecursion (λ (e : K × ℕ). e.1 < n) entries → AllByRecursion (λ (e : K × ℕ). (e.1 == n) ≡ false) entries
none_there n [] all = tt
none_there n (e ∷ es) all = (apart e.1 n all.0, none_there n es all.1)

none_from : {A : Type 0} (x : Option A) → is_some x ≡ false → x ≡ None
none_from None e = refl
none_from (Some x) e = absurd cc

module _ {K : Type 0} (bytes_of : K → List ℕ) (key : K) (entries : List (K × ℕ)) where
  abbrev by_bytes : K → K → Ordering
  by_bytes x y = slice_cmp nat_cmp (bytes_of x) (bytes_of y)

  same_places : (value : ℕ) → lookup (is_at (by_bytes key)) entries ≡ None → (n : ℕ) → n ≤ value
      → at_first_places bytes_of (insert_entry by_bytes entries key value) n ≡ at_first_places bytes_of entries n
  same_places value none zero h = refl
  same_places value none (suc n) h =
      let other : (value == n) ≡ false = ne_eqb value n (λ same. absurd (omega (arith, h, same))) in
      rw (same_places value none n (omega arith), passed_over by_bytes key value (λ (e : K × ℕ). e.1 == n) other entries none) refl

  -- the new name is the last
  goes_last : AllByRecursion (λ (e : K × ℕ). e.1 < length entries) entries → lookup (is_at (by_bytes key)) entries ≡ None
      → in_order bytes_of (insert_entry by_bytes entries key (length entries)) ≡ in_order bytes_of entries ++ bytes_of key ∷ []
  goes_last below none =
      let last = length entries in
      rw (
        one_longer by_bytes key last entries none,
        same_places last none last (omega arith),
        alone by_bytes key last (λ (e : K × ℕ). e.1 == last) (eq-eqb last last refl) entries (none_there last entries below) none,
      ) refl

  turned : (a b c : Bool) → a ≡ c → (a || b) ≡ (b || (c || false))
  turned a true true h = rw h refl
  turned a true false h = rw h refl
  turned a false true h = rw h refl
  turned a false false h = rw h refl

  absent : ArePlaces bytes_of entries → list_any (bytes_eq (bytes_of key)) (in_order bytes_of entries) ≡ false → lookup (is_at (by_bytes key)) entries ≡ None
  absent places new = none_from (lookup (is_at (by_bytes key)) entries) (places.found (bytes_of key) ∙ new)

  places_added : ArePlaces bytes_of entries → lookup (is_at (by_bytes key)) entries ≡ None → ArePlaces bytes_of (insert_entry by_bytes entries key (length entries))
  places_added places none =
      let longer = one_longer by_bytes key (length entries) entries none in
      let before : AllByRecursion (λ (e : K × ℕ). e.1 < suc (length entries)) entries = weaker (length entries) (suc (length entries)) (omega arith) entries places.below in
      let all : AllByRecursion (λ (e : K × ℕ). e.1 < suc (length entries)) (insert_entry by_bytes entries key (length entries)) =
      all_with by_bytes key (length entries) (λ (e : K × ℕ). e.1 < suc (length entries)) (omega arith) entries before none in
      record {
        below = subst (λ n. AllByRecursion (λ (e : K × ℕ). e.1 < n) (insert_entry by_bytes entries key (length entries))) (sym longer) all;
        found = λ name.
            found_too by_bytes key (length entries) (λ k. is_eq (slice_cmp nat_cmp name (bytes_of k))) entries none
            ∙ ap (λ b. is_eq (slice_cmp nat_cmp name (bytes_of key)) || b) (places.found name)
            ∙ turned (is_eq (slice_cmp nat_cmp name (bytes_of key))) (list_any (bytes_eq name) (in_order bytes_of entries)) (bytes_eq name (bytes_of key)) (is_eq-slice_cmp name (bytes_of key))
            ∙ sym (list_any-append (bytes_eq name) (in_order bytes_of entries) (bytes_of key ∷ []))
            ∙ ap (list_any (bytes_eq name)) (sym (goes_last places.below none));
      }

  -- one name more, at the last place
  pub name_added : (new : List (K × ℕ)) (place : ℕ) (old : List (List ℕ)) → ArePlaces bytes_of entries → in_order bytes_of entries ≡ old
      → list_any (bytes_eq (bytes_of key)) old ≡ false → place ≡ length entries → new ≡ insert_entry by_bytes entries key place
      → ArePlaces bytes_of new × (in_order bytes_of new ≡ old ++ bytes_of key ∷ [])
  name_added new place old places view fresh last inserted =
      let none = absent places (ap (list_any (bytes_eq (bytes_of key))) view ∙ fresh) in
      let is : new ≡ insert_entry by_bytes entries key (length entries) = inserted ∙ ap (insert_entry by_bytes entries key) last in (
        subst (ArePlaces bytes_of) (sym is) (places_added places none),
        ap (in_order bytes_of) is ∙ goes_last places.below none ∙ ap (λ (names : List (List ℕ)). names ++ bytes_of key ∷ []) view,
      )
