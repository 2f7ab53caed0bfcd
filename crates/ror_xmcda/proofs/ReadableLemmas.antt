-- That a reading goes through: what has to hold of each element, so that every step gives a value.
use Rattle.std.proofs.Common.{◌≡◌, ℕ, zero, suc, ◌+◌, ◌<◌, ◌≤◌, Bool, true, false, List, [], ◌∷◌, ◌++◌, length, map, get_or, Option, Some, None, Result, Ok, refl, sym, ap, ◌∙◌, arith, cond, subst, inl, inr, append_assoc}
use Rattle.std.specs.Prelude.{◌≢◌, ◌⊎◌, AllPairs, Contains, codes, filter, is_some, option_map, ◌||◌}
use Rattle.std.specs.List.{list_any, AllByRecursion, AllZip, enumerate_from, range_with_len}
use Rattle.std.proofs.lemmas.Bool.{false≢true, or_from}
use Rattle.std.proofs.lemmas.Slice.Eq.{bytes_eq-Decides}
use Rattle.ror_text.specs.Reading.{◌>>=◌, refuse, need, read_all}
use Rattle.ror_text.proofs.Everywhere.{all-back}
use Rattle.ror_text.proofs.ReadingLemmas.{bind-at_ok, need_ok}
use Rattle.ror_table.specs.Draft.{has_id}
use Rattle.ror_table.specs.Table.{place_of}
use Rattle.ror_table.proofs.NameLemmas.{not_placed-absent}
use Rattle.ror_elements.specs.Tree.{Tree}
use Rattle.ror_xmcda.specs.declared.roster.Roster.{Roster}
use Rattle.ror_xmcda.specs.Nodes.{id_of, text_of, first_named}
use Rattle.ror_xmcda.specs.Roster.{is_listed, standing}
use Rattle.ror_xmcda.specs.Listing.{valid, new_id, truth_of, truth_at, is_active, standing_at, standing_in}
use Rattle.ror_xmcda.specs.Meaning.{child_text, HasId, SaysWhether, IsEntry, AreEntries, is_text, is_id_of}
use Rattle.ror_xmcda.proofs.MeaningLemmas.{IsRosterOf, not_there, is_there, valid_same}

-- ---- steps

-- a value is given
abbrev pub Reads : {A F : Type 0} → Result A F → Type 0
Reads {A} r = (x : A) × (r ≡ Ok x)

pub reads_ok : {A F : Type 0} (x : A) → Reads {A = A} {F = F} (Ok x)
reads_ok x = (x, refl)

pub reads_bind : {A B F : Type 0} (r : Result A F) (f : A → Result B F) → Reads r → ((x : A) → r ≡ Ok x → Reads (f x)) → Reads (r >>= f)
reads_bind r f h rest = let more = rest h.0 h.1 in (more.0, bind-at_ok r f h.0 h.1 ∙ more.1)

pub reads_refuse : {F : Type 0} (fault : F) (test : Bool) → test ≡ false → Reads (refuse fault test)
reads_refuse fault true e = absurd cc
reads_refuse fault false e = (tt, refl)

pub reads_need : {A F : Type 0} (fault : F) (o : Option A) → is_some o ≡ true → Reads (need fault o)
reads_need fault None e = absurd cc
reads_need fault (Some x) e = (x, refl)

-- where each step after those before it gives a value, all of them do
pub reads_on : {S L F : Type 0} (P : List L → S → Type 0) (step : S → L → Result S F) (all : List L) → ((before : List L) (s : S) (x : L) (next : S) → P before s → step s x ≡ Ok next → P (before ++ x ∷ []) next)
    → ((before : List L) (x : L) (after : List L) (s : S) → before ++ x ∷ after ≡ all → P before s → Reads (step s x)) → (before : List L) (s : S) (xs : List L) → before ++ xs ≡ all → P before s → Reads (read_all step s xs)
reads_on P step all more goes before s [] is h = reads_ok s
reads_on P step all more goes before s (x ∷ xs) is h =
    reads_bind (step s x) (λ next. read_all step next xs) (goes before x xs s is h) (λ next e.
    reads_on P step all more goes (before ++ x ∷ []) next xs (append_assoc before (x ∷ []) xs ∙ is) (more before s x next h e))

-- the same where each element gives a value from any state that is kept
pub reads_each : {S L F : Type 0} (P : S → Type 0) (step : S → L → Result S F) → ((s : S) (x : L) (next : S) → P s → step s x ≡ Ok next → P next) → (s : S) (xs : List L) → P s → AllByRecursion (λ x. (s : S) → P s → Reads (step s x)) xs → Reads (read_all step s xs)
reads_each P step more s [] h each = reads_ok s
reads_each P step more s (x ∷ xs) h each =
    reads_bind (step s x) (λ next. read_all step next xs) (each.0 s h) (λ next e. reads_each P step more next xs (more s x next h e) each.1)

-- ---- lists

pub middle : {A : Type 0} (P : A → Type 0) (before : List A) (x : A) (after : List A) → AllByRecursion P (before ++ x ∷ after) → P x
middle P before x after h = (all-back P before (x ∷ after) h).0

get_or-middle : {A : Type 0} (before : List A) (x : A) (after : List A) (d : A) → get_or (before ++ x ∷ after) (length before) d ≡ x
get_or-middle [] x after d = refl
get_or-middle (y ∷ before) x after d = get_or-middle before x after d

within-middle : {A : Type 0} (before : List A) (x : A) (after : List A) → length before < length (before ++ x ∷ after)
within-middle [] x after = omega arith
within-middle (y ∷ before) x after = let rest = within-middle before x after in omega (arith, rest)

pub apart_before : {A : Type 0} (R : A → A → Type 0) (before : List A) (x : A) (after : List A) → AllPairs R (before ++ x ∷ after) → (k : ℕ) (d : A) → k < length before → R (get_or before k d) x
apart_before R [] x after h k d l = absurd (omega arith)
apart_before R (y ∷ before) x after h zero d l =
    let within = within-middle before x after in
    subst (R y) (get_or-middle before x after d) (h 0 (suc (length before)) d (omega arith) (omega (arith, within)))
apart_before R (y ∷ before) x after h (suc k) d l = apart_before R before x after (λ i j e m n. h (suc i) (suc j) e (omega arith) (omega arith)) k d (omega arith)

pub none_any : {A : Type 0} (p : A → Bool) (xs : List A) → ((k : ℕ) (d : A) → k < length xs → p (get_or xs k d) ≡ false) → list_any p xs ≡ false
none_any p [] h = refl
none_any p (x ∷ xs) h = or_from (p x) (list_any p xs) (h 0 x (omega arith)) (none_any p xs (λ k d l. h (suc k) d (omega arith)))

pub none_mapped : {A B : Type 0} (p : B → Bool) (f : A → B) (xs : List A) → ((k : ℕ) (d : A) → k < length xs → p (f (get_or xs k d)) ≡ false) → list_any p (map f xs) ≡ false
none_mapped p f [] h = refl
none_mapped p f (x ∷ xs) h = or_from (p (f x)) (list_any p (map f xs)) (h 0 x (omega arith)) (none_mapped p f xs (λ k d l. h (suc k) d (omega arith)))

-- what follows of the element that there is, follows
pub any_found : {A : Type 0} (p : A → Bool) (Q : A → Type 0) (R : Type 0) (xs : List A) → list_any p xs ≡ true → AllByRecursion Q xs → ((x : A) → p x ≡ true → Q x → R) → R
any_found p Q R [] e h f = absurd cc
any_found p Q R (x ∷ xs) e h f = by (p x) refl e (λ rest. any_found p Q R xs rest h.1 f)
  where
    by : (b : Bool) → p x ≡ b → (b || list_any p xs) ≡ true → (list_any p xs ≡ true → R) → R
    by true is e later = f x is h.0
    by false is e later = later e

pub zip_length : {A B : Type 0} (R : A → B → Type 0) (xs : List A) (ys : List B) → AllZip R xs ys → length xs ≡ length ys
zip_length R [] [] h = refl
zip_length R [] (y ∷ ys) h = absurd h
zip_length R (x ∷ xs) [] h = absurd h
zip_length R (x ∷ xs) (y ∷ ys) h = let rest = zip_length R xs ys h.1 in omega (arith, rest)

pub zip_each : {A B : Type 0} (R : A → B → Type 0) (P : A → Type 0) (xs : List A) (ys : List B) → ((x : A) (y : B) → R x y → P x) → AllZip R xs ys → AllByRecursion P xs
zip_each R P [] [] each h = tt
zip_each R P [] (y ∷ ys) each h = absurd h
zip_each R P (x ∷ xs) [] each h = absurd h
zip_each R P (x ∷ xs) (y ∷ ys) each h = (each x y h.0, zip_each R P xs ys each h.1)

-- of an element that is counted there is one more in all than of those before it, at least
pub room : {A : Type 0} (p : A → Bool) (before : List A) (x : A) (after : List A) → p x ≡ true → suc (length (filter p before)) ≤ length (filter p (before ++ x ∷ after))
room p [] x after is = subst (λ b. 1 ≤ length (cond b (x ∷ filter p after) (filter p after))) (sym is) (omega arith)
room p (y ∷ before) x after is = by (p y) (room p before x after is)
  where
    by : (b : Bool) → suc (length (filter p before)) ≤ length (filter p (before ++ x ∷ after)) → suc (length (cond b (y ∷ filter p before) (filter p before))) ≤ length (cond b (y ∷ filter p (before ++ x ∷ after)) (filter p (before ++ x ∷ after)))
    by true h = omega (arith, h)
    by false h = h

pub of_filtered : {A : Type 0} (P : A → Type 0) (p : A → Bool) (before : List A) (x : A) (after : List A) → p x ≡ true → AllByRecursion P (filter p (before ++ x ∷ after)) → P x
of_filtered P p [] x after is h = (subst (λ b. AllByRecursion P (cond b (x ∷ filter p after) (filter p after))) is h).0
of_filtered P p (y ∷ before) x after is h = by (p y) h (λ rest. of_filtered P p before x after is rest)
  where
    by : (b : Bool) → AllByRecursion P (cond b (y ∷ filter p (before ++ x ∷ after)) (filter p (before ++ x ∷ after))) → (AllByRecursion P (filter p (before ++ x ∷ after)) → P x) → P x
    by true h later = later h.1
    by false h later = later h

pub range_each : (P : ℕ → Type 0) (k n : ℕ) → ((i : ℕ) → k ≤ i → i < k + n → P i) → AllByRecursion P (range_with_len k n)
range_each P k zero each = tt
range_each P k (suc n) each = (each k (omega arith) (omega arith), range_each P (k + 1) n (λ i l m. each i (omega arith) (omega arith)))

pub enumerate_each : {A : Type 0} (P : ℕ × A → Type 0) (k : ℕ) (xs : List A) → ((i : ℕ) (x : A) → k ≤ i → i < k + length xs → P (i, x)) → AllByRecursion P (enumerate_from k xs)
enumerate_each P k [] each = tt
enumerate_each P k (x ∷ xs) each = (each k x (omega arith) (omega arith), enumerate_each P (k + 1) xs (λ i y l m. each i y (omega arith) (omega arith)))

-- ---- ids

valid_some : (o : Option (List ℕ)) → HasId o → is_some (valid o) ≡ true
valid_some None h = absurd h
valid_some (Some id) h = ap (λ b. is_some (cond b (Some id) None)) h

pub text_same : (id : List ℕ) (o : Option (List ℕ)) → is_text id o ≡ true → o ≡ Some id
text_same id None e = absurd cc
text_same id (Some x) e = ap (λ (y : List ℕ). Some y) ((bytes_eq-Decides x id).0 e)

text_apart : (id : List ℕ) (o : Option (List ℕ)) → (o ≡ Some id → ⊥) → is_text id o ≡ false
text_apart id o apart = by (is_text id o) refl
  where
    by : (b : Bool) → is_text id o ≡ b → b ≡ false
    by true e = absurd (apart (text_same id o e))
    by false e = refl

pub unlisted : (before : List Tree) (r : Roster) (id : List ℕ) → IsRosterOf before r → list_any (λ t. is_text id (id_of t)) before ≡ false → is_listed r id ≡ false
unlisted before r id are none = or_from (has_id r.kept id) (has_id r.left_out id) (kept (has_id r.kept id) refl) (left_out (has_id r.left_out id) refl)
  where
    kept : (b : Bool) → has_id r.kept id ≡ b → b ≡ false
    kept true e = absurd (false≢true (sym none ∙ are.listed id (inl (is_there r.kept id e))))
    kept false e = refl

    left_out : (b : Bool) → has_id r.left_out id ≡ b → b ≡ false
    left_out true e = absurd (false≢true (sym none ∙ are.listed id (inr (is_there r.left_out id e))))
    left_out false e = refl

pub new_id_reads : (before after : List Tree) (t : Tree) (r : Roster) → AreEntries (before ++ t ∷ after) → IsRosterOf before r → Reads (new_id r t)
unfolding new_id
new_id_reads before after t r entries are =
    reads_bind (need _ (valid (id_of t))) _ (reads_need _ (valid (id_of t)) (valid_some (id_of t) (middle IsEntry before t after entries.each).id)) (λ id e.
    reads_bind (refuse _ (is_listed r id)) _ (reads_refuse _ (is_listed r id) (unlisted before r id are (none_any (λ s. is_text id (id_of s)) before (λ k d l.
    text_apart id (id_of (get_or before k d)) (λ same. apart_before (λ s t. id_of s ≢ id_of t) before t after entries.once k d l (same ∙ sym ((valid_same (id_of t) id (need_ok _ (valid (id_of t)) id e)).0))))))) (λ u f. reads_ok id))

pub active_reads : (t : Tree) → SaysWhether (child_text (codes "active") t) → Reads (is_active t)
unfolding is_active
active_reads t h = by (first_named (codes "active") t) h
  where
    by : (o : Option Tree) → SaysWhether (option_map text_of o) → Reads (truth_at o)
    by None h = reads_ok true
    by (Some a) h = reads_need _ (truth_of (text_of a)) h

-- ---- what an id stands for

pub standing_some : (listed : List Tree) (r : Roster) (id : List ℕ) → IsRosterOf listed r → is_id_of listed (Some id) ≡ true → is_some (standing r id) ≡ true
unfolding standing
standing_some listed r id are known = by (has_id r.left_out id) (place_of r.kept id) refl refl
  where
    named : (o : Option (List ℕ)) (x : List ℕ) → is_text id o ≡ true → o ≡ Some x → x ≡ id
    named o x is same = let both : Some x ≡ Some id = sym same ∙ text_same id o is in cc

    there : Contains r.kept id ⊎ Contains r.left_out id
    there = any_found (λ t. is_text id (id_of t)) (λ t. (x : List ℕ) × (id_of t ≡ Some x) × (Contains r.kept x ⊎ Contains r.left_out x)) (Contains r.kept id ⊎ Contains r.left_out id) listed known are.known
        (λ t is h. subst (λ (x : List ℕ). Contains r.kept x ⊎ Contains r.left_out x) (named (id_of t) h.0 is h.1) h.2)

    by : (out : Bool) (o : Option ℕ) → has_id r.left_out id ≡ out → place_of r.kept id ≡ o → is_some (cond out (Some None) (option_map Some o)) ≡ true
    by true o e f = refl
    by false (Some k) e f = refl
    by false None e f = elim there [
      | inl h ↦ absurd (not_placed-absent r.kept id f h)
      | inr h ↦ absurd (not_there r.left_out id e h)
    ]

pub standing_at_reads : (listed : List Tree) (r : Roster) (t : Tree) → IsRosterOf listed r → is_id_of listed (Some (text_of t)) ≡ true → Reads (standing_at r t)
unfolding standing_at
standing_at_reads listed r t are known = reads_need _ (standing r (text_of t)) (standing_some listed r (text_of t) are known)

pub standing_in_reads : (listed : List Tree) (r : Roster) (owner : Tree) (o : Option Tree) → IsRosterOf listed r → is_id_of listed (option_map text_of o) ≡ true → Reads (standing_in r owner o)
standing_in_reads listed r owner None are known = absurd cc
standing_in_reads listed r owner (Some t) are known = standing_at_reads listed r t are known
