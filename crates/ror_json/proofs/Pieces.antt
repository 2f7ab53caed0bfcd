-- Single values, members, items and lists, both ways: what has a form is read of it, and what is read has that form.
use Rattle.std.proofs.Common.{◌≡◌, ℕ, suc, ◌<◌, ◌^◌, eqb, ltb, List, [], ◌∷◌, map, Some, Result, Ok, Err, refl, sym, ap, subst, ◌∙◌, arith, inl, inr, ℤ}
use Rattle.std.specs.Prelude.{not}
use Rattle.std.specs.List.{AllByRecursion}
use Rattle.std.specs.Str.{bytes_eq}
use Rattle.std.proofs.lemmas.Bool.{cases_Bool, cond-true, cond-false, ltb-true, lt-ltb, not-false, eqb-true}
use Rattle.std.proofs.lemmas.Slice.Eq.{bytes_eq-Decides}
use Rattle.serde_json.specs.Data.{Data, null, boolean, number, string, array, object, unsigned, negative, float, Items, no_items, item, Members, no_members, member}
use Rattle.serde_json.specs.Find.{as_array, as_object}
use Rattle.serde_json.specs.View.{items_of}
use Rattle.ror_text.specs.Numbers.{number_of}
use Rattle.ror_text.specs.Reading.{◌>>=◌, refuse}
use Rattle.ror_text.proofs.ListLemmas.{bytes_same}
use Rattle.ror_text.proofs.NumberLemmas.{number_of-signed_decimal, number_of-sound}
use Rattle.ror_text.proofs.ReadingLemmas.{bind_ok, need_ok, refuse_ok}
use Rattle.ror_system.specs.System.{IsNarrow}
use Rattle.ror_proof.specs.Names.{name_of}
use Rattle.ror_proof.proofs.WordLemmas.{name_found}
use Rattle.ror_json.specs.declared.fault.JsonFault.{JsonFault}
use Rattle.ror_json.specs.declared.fault.Misfit.{Misfit}
use Rattle.ror_json.specs.declared.fault.Misfit.TheVariants as misfits
use Rattle.ror_json.specs.Form.{count_form, number_form, list_form}
use Rattle.ror_json.specs.Reading.{shape, shaped, member_at, named_member, no_member, numbered, items_from, list_of, small, count_of, the_count_of, text_of, name_in, number_in, item_at, no_item}

-- a value is read exactly where it is the form of what has one
pub record IsRead {D A : Type 0} (read : D → Result A Misfit) (form : A → D) (P : A → Type 0) : Type 0 where
  pub again : (x : A) → P x → read (form x) ≡ Ok x
  pub sound : (d : D) (x : A) → read d ≡ Ok x → (d ≡ form x) × P x

abbrev pub made : {A : Type 0} → A → Result A Misfit
made x = Ok x

pub made_is : {A : Type 0} (x y : A) → made x ≡ made y → x ≡ y
made_is x y e = cc

-- ---- members and items

pub object_is : (d : Data) (ms : Members) → shape (as_object d) ≡ Ok ms → d ≡ object ms
object_is null ms e = absurd cc
object_is (boolean b) ms e = absurd cc
object_is (number n) ms e = absurd cc
object_is (string s) ms e = absurd cc
object_is (array ds) ms e = absurd cc
object_is (object more) ms e = cc

pub array_is : (d : Data) (ds : Items) → shape (as_array d) ≡ Ok ds → d ≡ array ds
array_is null ds e = absurd cc
array_is (boolean b) ds e = absurd cc
array_is (number n) ds e = absurd cc
array_is (string s) ds e = absurd cc
array_is (array more) ds e = cc
array_is (object ms) ds e = absurd cc

pub member_again : (key : List ℕ) (d : Data) (more : Members) → member_at key (member key d more) ≡ Ok (d, more)
member_again key d more = rw (bytes_same key) refl

pub member_is : (key : List ℕ) (ms : Members) (x : Data × Members) → member_at key ms ≡ Ok x → ms ≡ member key x.0 x.1
member_is key no_members x e = absurd cc
member_is key (member k d more) x e =
    elim (cases_Bool (bytes_eq k key)) [
      | inl same ↦
          let is = made_is (d, more) x (sym (cond-true _ _ _ same) ∙ e) in
          subst (λ (y : Data × Members). member k d more ≡ member key y.0 y.1) is (ap (λ l. member l d more) ((bytes_eq-Decides k key).0 same))
      | inr other ↦ absurd (let no = sym (cond-false _ _ _ other) ∙ e in cc)
    ]

abbrev with_rest : {N : Type 0} → Data → Members → N → Result (N × (Data × Members)) Misfit
with_rest d more name = Ok (name, (d, more))

pub named_again : {N : Type 0} (word_of : N → List ℕ) (names : List N) (name : N) (d : Data) (more : Members) → name_of word_of names (word_of name) ≡ Some name → named_member word_of names (member (word_of name) d more) ≡ Ok (name, (d, more))
named_again word_of names name d more found = rw found refl

pub named_is : {N : Type 0} (word_of : N → List ℕ) (names : List N) (ms : Members) (x : N × (Data × Members)) → named_member word_of names ms ≡ Ok x → (ms ≡ member (word_of x.0) x.1.0 x.1.1) × (name_of word_of names (word_of x.0) ≡ Some x.0)
named_is word_of names no_members x e = absurd cc
named_is {N} word_of names (member k d more) x e =
    let a = bind_ok (shape (name_of word_of names k)) (with_rest d more) x e in
    let found = need_ok misfits.Shape (name_of word_of names k) a.0 a.1 in
    let key = name_found word_of names k a.0 found in
    let is = made_is (a.0, (d, more)) x a.2 in
    subst (λ (y : N × (Data × Members)). (member k d more ≡ member (word_of y.0) y.1.0 y.1.1) × (name_of word_of names (word_of y.0) ≡ Some y.0)) is (ap (λ l. member l d more) key, ap (name_of word_of names) (sym key) ∙ found)

pub no_member_is : (ms : Members) (x : Unit {0}) → no_member ms ≡ Ok x → ms ≡ no_members
no_member_is no_members x e = refl
no_member_is (member k d more) x e = absurd cc

pub item_is : (ds : Items) (x : Data × Items) → item_at ds ≡ Ok x → ds ≡ item x.0 x.1
item_is no_items x e = absurd cc
item_is (item d more) x e =
    let is = made_is (d, more) x e in
    subst (λ (y : Data × Items). item d more ≡ item y.0 y.1) is refl

pub no_item_is : (ds : Items) (x : Unit {0}) → no_item ds ≡ Ok x → ds ≡ no_items
no_item_is no_items x e = refl
no_item_is (item d more) x e = absurd cc

-- an object or an array whose first value has a form, and so has what is after it
pub with_value : {ms more rest : Members} {key : List ℕ} {a b : Data} → ms ≡ member key a more → a ≡ b → more ≡ rest → ms ≡ member key b rest
with_value {ms} {more} {rest} {key} {a} {b} e f g = e ∙ ap (λ v. member key v more) f ∙ ap (member key b) g

pub with_item : {ds more rest : Items} {a b : Data} → ds ≡ item a more → a ≡ b → more ≡ rest → ds ≡ item b rest
with_item {ds} {more} {rest} {a} {b} e f g = e ∙ ap (λ v. item v more) f ∙ ap (item b) g

-- ---- single values

small_again : (n : ℕ) → n < 2 ^ 32 → small n ≡ Some n
small_again n below = cond-true _ _ _ (lt-ltb n (2 ^ 32) below)

small_is : (m n : ℕ) → small m ≡ Some n → (m ≡ n) × (n < 2 ^ 32)
small_is m n e =
    elim (cases_Bool (ltb m (2 ^ 32))) [
      | inl below ↦
          let same : m ≡ n = (let some = sym (cond-true _ _ _ below) ∙ e in cc) in
          (same, subst (λ k. k < 2 ^ 32) same (ltb-true m (2 ^ 32) below))
      | inr above ↦ absurd (let none = sym (cond-false _ _ _ above) ∙ e in cc)
    ]

pub counts : IsRead count_of count_form (λ n. n < 2 ^ 32)
unfolding count_of
counts = record { again = again; sound = sound }
  where
    again : (n : ℕ) → n < 2 ^ 32 → count_of (count_form n) ≡ Ok n
    again n below = rw (small_again n below) refl

    sound : (d : Data) (n : ℕ) → count_of d ≡ Ok n → (d ≡ count_form n) × (n < 2 ^ 32)
    sound null n e = absurd cc
    sound (boolean b) n e = absurd cc
    sound (number (unsigned m)) n e =
        let is = small_is m n (need_ok misfits.Shape (small m) n e) in
        (ap (λ k. number (unsigned k)) is.0, is.1)
    sound (number (negative z)) n e = absurd cc
    sound (number (float x)) n e = absurd cc
    sound (string s) n e = absurd cc
    sound (array ds) n e = absurd cc
    sound (object ms) n e = absurd cc

pub one_again : the_count_of 1 (count_form 1) ≡ Ok tt
unfolding the_count_of
one_again = rw (counts.again 1 (omega arith)) refl

pub the_count_is : (n : ℕ) (d : Data) (x : Unit {0}) → the_count_of n d ≡ Ok x → d ≡ count_form n
unfolding the_count_of
the_count_is n d x e =
    let a = bind_ok (count_of d) (λ m. refuse misfits.Shape (not (eqb m n))) x e in
    let same = not-false _ (refuse_ok misfits.Shape (not (eqb a.0 n)) x a.2) in
    (counts.sound d a.0 a.1).0 ∙ ap count_form (eqb-true a.0 n same)

pub text_is : (d : Data) (s : List ℕ) → text_of d ≡ Ok s → d ≡ string s
unfolding text_of
text_is null s e = absurd cc
text_is (boolean b) s e = absurd cc
text_is (number n) s e = absurd cc
text_is (string more) s e = cc
text_is (array ds) s e = absurd cc
text_is (object ms) s e = absurd cc

pub text_again : (s : List ℕ) → text_of (string s) ≡ Ok s
unfolding text_of
text_again s = refl

pub name_again : {N : Type 0} (word_of : N → List ℕ) (names : List N) (name : N) → name_of word_of names (word_of name) ≡ Some name → name_in word_of names (string (word_of name)) ≡ Ok name
unfolding name_in
name_again word_of names name found = rw (text_again (word_of name), found) refl

pub name_is : {N : Type 0} (word_of : N → List ℕ) (names : List N) (d : Data) (name : N) → name_in word_of names d ≡ Ok name → d ≡ string (word_of name)
unfolding name_in
name_is word_of names d name e =
    let a = bind_ok (text_of d) (λ text. shape (name_of word_of names text)) name e in
    let found = need_ok misfits.Shape (name_of word_of names a.0) name a.2 in
    text_is d a.0 a.1 ∙ ap string (name_found word_of names a.0 name found)

pub numbers : IsRead number_in number_form IsNarrow
unfolding number_in text_of
numbers = record { again = again; sound = sound }
  where
    again : (z : ℤ) → IsNarrow z → number_in (number_form z) ≡ Ok z
    again z narrow = rw (number_of-signed_decimal z narrow) refl

    sound : (d : Data) (z : ℤ) → number_in d ≡ Ok z → (d ≡ number_form z) × IsNarrow z
    sound d z e =
        let a = bind_ok (text_of d) (λ text. shape (number_of text)) z e in
        let is = number_of-sound a.0 z (need_ok misfits.Shape (number_of a.0) z a.2) in
        (text_is d a.0 a.1 ∙ ap string is.0, is.1)

-- ---- lists

module _ {A : Type 0} (read : Data → Result A Misfit) (form : A → Data) (P : A → Type 0) (one : IsRead read form P) where
  pub items_again : (k : ℕ) (xs : List A) → AllByRecursion P xs → items_from read k (items_of (map form xs)) ≡ Ok xs
  unfolding items_from
  items_again k [] h = refl
  items_again k (x ∷ xs) h = rw (one.again x h.0, items_again (suc k) xs h.1) refl

  abbrev in_front : A → List A → Result (List A) JsonFault
  in_front x xs = Ok (x ∷ xs)

  front_is : (x : A) (xs ys : List A) → in_front x xs ≡ Ok ys → x ∷ xs ≡ ys
  front_is x xs ys e = cc

  numbered_ok : (k : ℕ) (r : Result A Misfit) (x : A) → numbered k r ≡ Ok x → r ≡ Ok x
  numbered_ok k (Ok y) x e = cc
  numbered_ok k (Err fault) x e = absurd cc

  nothing_is : (xs : List A) → items_from read 0 no_items ≡ Ok xs → [] ≡ xs
  unfolding items_from
  nothing_is xs e = cc

  pub items_sound : (k : ℕ) (ds : Items) (xs : List A) → items_from read k ds ≡ Ok xs → (ds ≡ items_of (map form xs)) × AllByRecursion P xs
  unfolding items_from
  items_sound k no_items xs e =
      subst (λ (ys : List A). (no_items ≡ items_of (map form ys)) × AllByRecursion P ys) (nothing_is xs e) (refl, tt)
  items_sound k (item d ds) xs e =
      let a = bind_ok (numbered k (read d)) (λ x. items_from read (suc k) ds >>= λ xs. in_front x xs) xs e in
      let b = bind_ok (items_from read (suc k) ds) (λ xs. in_front a.0 xs) xs a.2 in
      let first = one.sound d a.0 (numbered_ok k (read d) a.0 a.1) in
      let rest = items_sound (suc k) ds b.0 b.1 in
      subst (λ (ys : List A). (item d ds ≡ items_of (map form ys)) × AllByRecursion P ys) (front_is a.0 b.0 xs b.2) (ap (λ v. item v ds) first.0 ∙ ap (item (form a.0)) rest.0, (first.1, rest.1))

  shaped_ok : {F : Type 0} (r : Result (List A) F) (xs : List A) → shaped r ≡ Ok xs → r ≡ Ok xs
  shaped_ok (Ok ys) xs e = cc
  shaped_ok (Err fault) xs e = absurd cc

  pub lists : IsRead (list_of read) (list_form form) (AllByRecursion P)
  unfolding list_of
  lists = record { again = again; sound = sound }
    where
      again : (xs : List A) → AllByRecursion P xs → list_of read (list_form form xs) ≡ Ok xs
      again xs h = rw (items_again 1 xs h) refl

      sound : (d : Data) (xs : List A) → list_of read d ≡ Ok xs → (d ≡ list_form form xs) × AllByRecursion P xs
      sound d xs e =
          let a = bind_ok (shape (as_array d)) (λ ds. shaped (items_from read 1 ds)) xs e in
          let is = items_sound 1 a.0 xs (shaped_ok (items_from read 1 a.0) xs a.2) in
          (array_is d a.0 a.1 ∙ ap array is.0, is.1)
