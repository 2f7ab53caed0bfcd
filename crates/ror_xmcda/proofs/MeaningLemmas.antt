-- Lists that are read element by element, and what is known of the ids in them.
use Rattle.std.proofs.Common.{◌≡◌, ℕ, ◌<◌, Bool, true, false, List, [], ◌∷◌, ◌++◌, length, get_or, Option, Some, None, Result, Ok, refl, sym, ap, ◌∙◌, arith, cond, subst, inl, inr, append-nil, append_assoc}
use Rattle.std.specs.Prelude.{◌≢◌, ◌⊎◌, Contains, AllPairs, codes, filter, option_map, is_some, ◌||◌}
use Rattle.std.specs.List.{list_any, AllByRecursion, AllZip}
use Rattle.std.specs.Str.{bytes_eq}
use Rattle.std.proofs.lemmas.Bool.{false≢true, or_parts, or_left, or_right}
use Rattle.std.proofs.lemmas.List.Elements.{Contains-append_left, Contains-push, Contains-push_cases, filter-append, All-from_recursion}
use Rattle.std.proofs.lemmas.List.Folds.{list_any_at, list_any-append}
use Rattle.std.proofs.lemmas.List.Quantifiers.{all_pairs_push}
use Rattle.std.proofs.lemmas.Map.Views.{Contains-from_any}
use Rattle.std.proofs.lemmas.Slice.Eq.{bytes_eq-Decides}
use Rattle.ror_text.specs.Ids.{is_id}
use Rattle.ror_text.specs.Reading.{refuse, need, read_all}
use Rattle.ror_text.proofs.Everywhere.{all-append, all-by}
use Rattle.ror_text.proofs.ReadingLemmas.{bind_ok, need_ok, refuse_ok}
use Rattle.ror_table.specs.declared.fault.TableFault.{TableFault}
use Rattle.ror_table.specs.Draft.{has_id}
use Rattle.ror_table.specs.Table.{AreDistinct, place_of}
use Rattle.ror_table.proofs.DraftLemmas.{AreDistinct-push}
use Rattle.ror_table.proofs.NameLemmas.{placed-there}
use Rattle.ror_elements.specs.Tree.{Tree}
use Rattle.ror_xmcda.specs.declared.roster.Roster.{Roster}
use Rattle.ror_xmcda.specs.Nodes.{id_of, text_of, first_named}
use Rattle.ror_xmcda.specs.Roster.{nothing_listed, is_listed, with_kept, with_left_out, standing}
use Rattle.ror_xmcda.specs.Listing.{valid, new_id, truth_of, truth_at, is_active, standing_at, standing_in}
use Rattle.ror_xmcda.specs.Meaning.{child_text, says_yes, active, HasId, SaysWhether, IsEntry, is_text, is_id_of}

-- ---- lists

-- what each element brings to what was read of those before it
pub read_all_brings : {S L F : Type 0} (P : List L → S → Type 0) (step : S → L → Result S F) → ((before : List L) (s : S) (x : L) (next : S) → P before s → step s x ≡ Ok next → P (before ++ x ∷ []) next)
    → (before : List L) (s : S) (xs : List L) (last : S) → P before s → read_all step s xs ≡ Ok last → P (before ++ xs) last
read_all_brings {S} {L} {F} P step each before s [] last h e =
    let same : s ≡ last = (let r : ◌≡◌ {A = Result S F} (Ok s) (Ok last) = e in cc) in
    subst (λ (ys : List L). P ys last) (sym (append-nil before)) (subst (P before) same h)
read_all_brings {S} {L} {F} P step each before s (x ∷ xs) last h e =
    let b = bind_ok (step s x) (λ next. read_all step next xs) last e in
    subst (λ (ys : List L). P ys last) (append_assoc before (x ∷ []) xs) (read_all_brings P step each (before ++ x ∷ []) b.0 xs last (each before s x b.0 h b.1) b.2)

-- the same from the first element on
pub read_all_from_first : {S L F : Type 0} (P : List L → S → Type 0) (step : S → L → Result S F) → ((before : List L) (s : S) (x : L) (next : S) → P before s → step s x ≡ Ok next → P (before ++ x ∷ []) next)
    → (s : S) (xs : List L) (last : S) → P [] s → read_all step s xs ≡ Ok last → P xs last
read_all_from_first P step each s xs last h e = read_all_brings P step each [] s xs last h e

pub zip-append : {A B : Type 0} (R : A → B → Type 0) (xs : List A) (ys : List B) (us : List A) (vs : List B) → AllZip R xs ys → AllZip R us vs → AllZip R (xs ++ us) (ys ++ vs)
zip-append R [] [] us vs h k = k
zip-append R [] (y ∷ ys) us vs h k = absurd h
zip-append R (x ∷ xs) [] us vs h k = absurd h
zip-append R (x ∷ xs) (y ∷ ys) us vs h k = (h.0, zip-append R xs ys us vs h.1 k)

pub filter-push_yes : {A : Type 0} (p : A → Bool) (xs : List A) (x : A) → p x ≡ true → filter p (xs ++ x ∷ []) ≡ filter p xs ++ x ∷ []
filter-push_yes p xs x e = filter-append p xs (x ∷ []) ∙ ap (λ b. filter p xs ++ cond b (x ∷ []) []) e

pub filter-push_no : {A : Type 0} (p : A → Bool) (xs : List A) (x : A) → p x ≡ false → filter p (xs ++ x ∷ []) ≡ filter p xs
filter-push_no p xs x e = filter-append p xs (x ∷ []) ∙ ap (λ b. filter p xs ++ cond b (x ∷ []) []) e ∙ append-nil (filter p xs)

-- ---- what is active

truth_is : (text : List ℕ) (b : Bool) → truth_of text ≡ Some b → says_yes (Some text) ≡ b
unfolding truth_of
truth_is text b e = by (bytes_eq text (codes "true") || bytes_eq text (codes "1")) (bytes_eq text (codes "false") || bytes_eq text (codes "0")) e
  where
    by : (one other : Bool) → cond one (Some true) (cond other (Some false) None) ≡ Some b → one ≡ b
    by true other e = cc
    by false true e = cc
    by false false e = absurd cc

pub active_is : (t : Tree) (b : Bool) → is_active t ≡ Ok b → active t ≡ b
unfolding is_active active
active_is t b e = by (first_named (codes "active") t) e
  where
    by : (o : Option Tree) → truth_at o ≡ Ok b → says_yes (option_map text_of o) ≡ b
    by None e = cc
    by (Some a) e = truth_is (text_of a) b (need_ok _ (truth_of (text_of a)) b e)

says_whether : (t : Tree) (b : Bool) → is_active t ≡ Ok b → SaysWhether (child_text (codes "active") t)
unfolding is_active
says_whether t b e = by (first_named (codes "active") t) e
  where
    by : (o : Option Tree) → truth_at o ≡ Ok b → SaysWhether (option_map text_of o)
    by None e = tt
    by (Some a) e = ap is_some (need_ok _ (truth_of (text_of a)) b e)

-- ---- ids

-- what was read of the ids of some elements
pub record IsRosterOf (before : List Tree) (r : Roster) : Type 0 where
  pub kept : AllZip (λ t id. id_of t ≡ Some id) (filter active before) r.kept
  pub distinct : AreDistinct r.kept
  pub apart : (id : List ℕ) → Contains r.left_out id → Contains r.kept id → ⊥
  pub known : AllByRecursion (λ t. (id : List ℕ) × (id_of t ≡ Some id) × (Contains r.kept id ⊎ Contains r.left_out id)) before
  pub listed : (id : List ℕ) → Contains r.kept id ⊎ Contains r.left_out id → list_any (λ t. is_text id (id_of t)) before ≡ true
  pub once : AllPairs (λ s t. id_of s ≢ id_of t) before

pub nothing_yet : IsRosterOf [] nothing_listed
nothing_yet = record {
  kept = tt;
  distinct = λ i j d less l. absurd (omega arith);
  apart = λ id h k. absurd (let l = h.1 in omega arith);
  known = tt;
  listed = λ id there. elim there [
    | inl h ↦ absurd (let l = h.1 in omega arith)
    | inr h ↦ absurd (let l = h.1 in omega arith)
  ];
  once = λ i j d less l. absurd (omega arith);
}

pub not_there : (ids : List (List ℕ)) (id : List ℕ) → has_id ids id ≡ false → Contains ids id → ⊥
not_there ids id absent there = false≢true (sym absent ∙ list_any_at (bytes_eq id) ids there.0 id there.1 ((bytes_eq-Decides id (get_or ids there.0 id)).1 (sym there.2)))

pub is_there : (ids : List (List ℕ)) (id : List ℕ) → has_id ids id ≡ true → Contains ids id
is_there ids id e = Contains-from_any (λ x y same. (bytes_eq-Decides x y).0 same) id ids e

pub valid_same : (o : Option (List ℕ)) (id : List ℕ) → valid o ≡ Some id → (o ≡ Some id) × HasId o
valid_same None id e = absurd cc
valid_same (Some x) id e = by (is_id x) refl e
  where
    by : (b : Bool) → is_id x ≡ b → cond b (Some x) None ≡ Some id → (Some x ≡ Some id) × HasId (Some x)
    by true is e = (e, is)
    by false is e = absurd cc

pub record IsNewId (r : Roster) (t : Tree) (id : List ℕ) : Type 0 where
  pub named : id_of t ≡ Some id
  pub is : HasId (id_of t)
  pub not_kept : has_id r.kept id ≡ false
  pub not_left_out : has_id r.left_out id ≡ false

pub new_id_of : (r : Roster) (t : Tree) (id : List ℕ) → new_id r t ≡ Ok id → IsNewId r t id
unfolding new_id
new_id_of r t id e =
    let b = bind_ok (need _ (valid (id_of t))) _ id e in
    let c = bind_ok (refuse _ (is_listed r b.0)) _ id b.2 in
    let same : b.0 ≡ id = (let r : ◌≡◌ {A = Result (List ℕ) TableFault} (Ok b.0) (Ok id) = c.2 in cc) in
    let parts = or_parts (has_id r.kept b.0) (has_id r.left_out b.0) (refuse_ok _ (is_listed r b.0) c.0 c.1) in
    subst (IsNewId r t) same (record { named = (valid_same (id_of t) b.0 (need_ok _ (valid (id_of t)) b.0 b.1)).0; is = (valid_same (id_of t) b.0 (need_ok _ (valid (id_of t)) b.0 b.1)).1; not_kept = parts.0; not_left_out = parts.1 })

-- an element whose id is new differs from those before it
new_apart : (before : List Tree) (r : Roster) (t : Tree) (id : List ℕ) → IsRosterOf before r → IsNewId r t id → (k : ℕ) (d : Tree) → k < length before → id_of (get_or before k d) ≢ id_of t
new_apart before r t id are new k d within same =
    let there = All-from_recursion (λ t. (id : List ℕ) × (id_of t ≡ Some id) × (Contains r.kept id ⊎ Contains r.left_out id)) before are.known k d within in
    let ids : Some there.0 ≡ Some id = sym there.1 ∙ same ∙ new.named in
    let is : there.0 ≡ id = cc in
    elim there.2 [
      | inl h ↦ not_there r.kept id new.not_kept (subst (Contains r.kept) is h)
      | inr h ↦ not_there r.left_out id new.not_left_out (subst (Contains r.left_out) is h)
    ]

now_listed : (before : List Tree) (t : Tree) (x : List ℕ) → (list_any (λ t. is_text x (id_of t)) before ≡ true) ⊎ (id_of t ≡ Some x) → list_any (λ t. is_text x (id_of t)) (before ++ t ∷ []) ≡ true
now_listed before t x (inl h) = list_any-append (λ t. is_text x (id_of t)) before (t ∷ []) ∙ or_left (list_any (λ t. is_text x (id_of t)) before) _ h
now_listed before t x (inr h) =
    let here : is_text x (id_of t) ≡ true = ap (is_text x) h ∙ (bytes_eq-Decides x x).1 refl in
    list_any-append (λ t. is_text x (id_of t)) before (t ∷ []) ∙ or_right (list_any (λ t. is_text x (id_of t)) before) _ (or_left (is_text x (id_of t)) false here)

pub kept_more : (before : List Tree) (r : Roster) (t : Tree) (id : List ℕ) → IsRosterOf before r → IsNewId r t id → active t ≡ true → IsRosterOf (before ++ t ∷ []) (with_kept r id)
kept_more before r t id are new on = record {
  kept = rw (filter-push_yes active before t on) (zip-append (λ t id. id_of t ≡ Some id) (filter active before) r.kept (t ∷ []) (id ∷ []) are.kept (new.named, tt));
  distinct = AreDistinct-push r.kept id are.distinct new.not_kept;
  apart = λ x out kept. elim (Contains-push_cases r.kept id x kept) [
    | inl h ↦ are.apart x out h
    | inr same ↦ not_there r.left_out id new.not_left_out (subst (Contains r.left_out) (sym same) out)
  ];
  known = all-append (λ t. (x : List ℕ) × (id_of t ≡ Some x) × (Contains (r.kept ++ id ∷ []) x ⊎ Contains r.left_out x)) before (t ∷ [])
      (all-by (λ t. (x : List ℕ) × (id_of t ≡ Some x) × (Contains r.kept x ⊎ Contains r.left_out x)) (λ t. (x : List ℕ) × (id_of t ≡ Some x) × (Contains (r.kept ++ id ∷ []) x ⊎ Contains r.left_out x)) before (λ u h. (h.0, h.1, later h.0 h.2)) are.known)
      ((id, new.named, inl (Contains-push r.kept id)), tt);
  listed = λ x there. now_listed before t x (earlier x there);
  once = all_pairs_push (λ s t. id_of s ≢ id_of t) before t are.once (new_apart before r t id are new);
}
  where
    earlier : (x : List ℕ) → Contains (r.kept ++ id ∷ []) x ⊎ Contains r.left_out x → (list_any (λ t. is_text x (id_of t)) before ≡ true) ⊎ (id_of t ≡ Some x)
    earlier x (inl h) = elim (Contains-push_cases r.kept id x h) [
      | inl k ↦ inl (are.listed x (inl k))
      | inr same ↦ inr (new.named ∙ ap (λ (y : List ℕ). Some y) same)
    ]
    earlier x (inr h) = inl (are.listed x (inr h))

    later : (x : List ℕ) → Contains r.kept x ⊎ Contains r.left_out x → Contains (r.kept ++ id ∷ []) x ⊎ Contains r.left_out x
    later x (inl h) = inl (Contains-append_left r.kept (id ∷ []) x h)
    later x (inr h) = inr h

pub left_out_more : (before : List Tree) (r : Roster) (t : Tree) (id : List ℕ) → IsRosterOf before r → IsNewId r t id → active t ≡ false → IsRosterOf (before ++ t ∷ []) (with_left_out r id)
left_out_more before r t id are new off = record {
  kept = rw (filter-push_no active before t off) are.kept;
  distinct = are.distinct;
  apart = λ x out kept. elim (Contains-push_cases r.left_out id x out) [
    | inl h ↦ are.apart x h kept
    | inr same ↦ not_there r.kept id new.not_kept (subst (Contains r.kept) (sym same) kept)
  ];
  known = all-append (λ t. (x : List ℕ) × (id_of t ≡ Some x) × (Contains r.kept x ⊎ Contains (r.left_out ++ id ∷ []) x)) before (t ∷ [])
      (all-by (λ t. (x : List ℕ) × (id_of t ≡ Some x) × (Contains r.kept x ⊎ Contains r.left_out x)) (λ t. (x : List ℕ) × (id_of t ≡ Some x) × (Contains r.kept x ⊎ Contains (r.left_out ++ id ∷ []) x)) before (λ u h. (h.0, h.1, later h.0 h.2)) are.known)
      ((id, new.named, inr (Contains-push r.left_out id)), tt);
  listed = λ x there. now_listed before t x (earlier x there);
  once = all_pairs_push (λ s t. id_of s ≢ id_of t) before t are.once (new_apart before r t id are new);
}
  where
    earlier : (x : List ℕ) → Contains r.kept x ⊎ Contains (r.left_out ++ id ∷ []) x → (list_any (λ t. is_text x (id_of t)) before ≡ true) ⊎ (id_of t ≡ Some x)
    earlier x (inl h) = inl (are.listed x (inl h))
    earlier x (inr h) = elim (Contains-push_cases r.left_out id x h) [
      | inl k ↦ inl (are.listed x (inr k))
      | inr same ↦ inr (new.named ∙ ap (λ (y : List ℕ). Some y) same)
    ]

    later : (x : List ℕ) → Contains r.kept x ⊎ Contains r.left_out x → Contains r.kept x ⊎ Contains (r.left_out ++ id ∷ []) x
    later x (inl h) = inl h
    later x (inr h) = inr (Contains-append_left r.left_out (id ∷ []) x h)

-- what is left out has no place
not_placed : (ids : List (List ℕ)) (id : List ℕ) (o : Option ℕ) → place_of ids id ≡ o → (Contains ids id → ⊥) → o ≡ None
not_placed ids id None e absent = refl
not_placed ids id (Some k) e absent = absurd (absent (placed-there ids id k e))

-- what an id stands for is its place among those that are kept
pub standing_place : (before : List Tree) (r : Roster) (id : List ℕ) (s : Option ℕ) → IsRosterOf before r → standing r id ≡ Some s → s ≡ place_of r.kept id
unfolding standing
standing_place before r id s are e = by (has_id r.left_out id) (place_of r.kept id) refl refl e
  where
    by : (out : Bool) (o : Option ℕ) → has_id r.left_out id ≡ out → place_of r.kept id ≡ o → cond out (Some None) (option_map Some o) ≡ Some s → s ≡ o
    by true o there at e =
        let same : ◌≡◌ {A = Option ℕ} None s = cc in
        sym same ∙ sym (not_placed r.kept id o at (are.apart id (is_there r.left_out id there)))
    by false None there at e = absurd cc
    by false (Some k) there at e = let same : Some k ≡ s = cc in sym same

pub standing_at_place : (before : List Tree) (r : Roster) (t : Tree) (s : Option ℕ) → IsRosterOf before r → standing_at r t ≡ Ok s → s ≡ place_of r.kept (text_of t)
unfolding standing_at
standing_at_place before r t s are e = standing_place before r (text_of t) s are (need_ok _ (standing r (text_of t)) s e)

-- and what an id stands for is listed
pub standing_listed : (before : List Tree) (r : Roster) (id : List ℕ) (s : Option ℕ) → IsRosterOf before r → standing r id ≡ Some s → is_id_of before (Some id) ≡ true
unfolding standing
standing_listed before r id s are e = by (has_id r.left_out id) (place_of r.kept id) refl refl e
  where
    by : (out : Bool) (o : Option ℕ) → has_id r.left_out id ≡ out → place_of r.kept id ≡ o → cond out (Some None) (option_map Some o) ≡ Some s → is_id_of before (Some id) ≡ true
    by true o there at e = are.listed id (inr (is_there r.left_out id there))
    by false None there at e = absurd cc
    by false (Some k) there at e = are.listed id (inl (placed-there r.kept id k at))

pub standing_at_listed : (before : List Tree) (r : Roster) (t : Tree) (s : Option ℕ) → IsRosterOf before r → standing_at r t ≡ Ok s → is_id_of before (Some (text_of t)) ≡ true
unfolding standing_at
standing_at_listed before r t s are e = standing_listed before r (text_of t) s are (need_ok _ (standing r (text_of t)) s e)

pub standing_in_listed : (before : List Tree) (r : Roster) (owner : Tree) (o : Option Tree) (s : Option ℕ) → IsRosterOf before r → standing_in r owner o ≡ Ok s → is_id_of before (option_map text_of o) ≡ true
standing_in_listed before r owner None s are e = absurd cc
standing_in_listed before r owner (Some t) s are e = standing_at_listed before r t s are e

-- what each element that is read is, all of them are
pub each_is : {S L F : Type 0} (P : L → Type 0) (step : S → L → Result S F) → ((s : S) (x : L) (next : S) → step s x ≡ Ok next → P x) → (s : S) (xs : List L) (last : S) → read_all step s xs ≡ Ok last → AllByRecursion P xs
each_is P step each s [] last e = tt
each_is P step each s (x ∷ xs) last e =
    let b = bind_ok (step s x) (λ next. read_all step next xs) last e in
    (each s x b.0 b.1, each_is P step each b.0 xs last b.2)

-- what is read of an element's id and of its `active`
pub entry : (r : Roster) (t : Tree) (id : List ℕ) (b : Bool) → new_id r t ≡ Ok id → is_active t ≡ Ok b → IsEntry t
entry r t id b e f = record { id = (new_id_of r t id e).is; active = says_whether t b f }
