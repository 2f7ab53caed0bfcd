-- The elements inside an element, and its tree.
use Rattle.std.proofs.Common.{◌≡◌, ℕ, suc, ◌+◌, ◌<◌, ◌≤◌, arith, Bool, true, false, List, [], ◌∷◌, ◌++◌, length, get_or, drop, map, Option, Some, None, refl, sym, ap, ◌∙◌, cond, append_assoc}
use Rattle.std.specs.List.{flat_map}
use Rattle.std.proofs.lemmas.List.{drop_all}
use Rattle.std.proofs.Math.Seq.{drop-cons}
use Rattle.std.specs.Prelude.{find, filter, option_map, Result, Ok, Err, IfOk}
use Rattle.std.specs.Global.{Vec}
use denote.Ref.{Bor}
use Rattle.ror_elements.specs.declared.element.Element.{Element}
use Rattle.ror_elements.specs.Tree.{Tree, tree_of}
use Rattle.ror_xmcda.specs.Nodes.{named, at_path}

pub find-map : {A B : Type 0} (f : A → B) (test : B → Bool) (xs : List A) → option_map f (find (λ x. test (f x)) xs) ≡ find test (map f xs)
find-map f test [] = refl
find-map {A} {B} f test (x ∷ xs) = at (test (f x)) (find-map f test xs)
  where
    at : (b : Bool) → option_map f (find (λ y. test (f y)) xs) ≡ find test (map f xs) → option_map f (cond b (Some x) (find (λ y. test (f y)) xs)) ≡ cond b (Some (f x)) (find test (map f xs))
    at true rest = refl
    at false rest = rest

pub filter-map : {A B : Type 0} (f : A → B) (test : B → Bool) (xs : List A) → map f (filter (λ x. test (f x)) xs) ≡ filter test (map f xs)
filter-map f test [] = refl
filter-map {A} {B} f test (x ∷ xs) = at (test (f x)) (filter-map f test xs)
  where
    at : (b : Bool) → map f (filter (λ y. test (f y)) xs) ≡ filter test (map f xs) → map f (cond b (x ∷ filter (λ y. test (f y)) xs) (filter (λ y. test (f y)) xs)) ≡ cond b (f x ∷ filter test (map f xs)) (filter test (map f xs))
    at true rest = ap (λ ys. f x ∷ ys) rest
    at false rest = rest

pub option_map-twice : {A B C : Type 0} (f : B → C) (g : A → B) (o : Option A) → option_map (λ x. f (g x)) o ≡ option_map f (option_map g o)
option_map-twice f g None = refl
option_map-twice f g (Some x) = refl

pub map-twice : {A B C : Type 0} (f : B → C) (g : A → B) (xs : List A) → map (λ x. f (g x)) xs ≡ map f (map g xs)
map-twice f g [] = refl
map-twice f g (x ∷ xs) = ap (λ ys. f (g x) ∷ ys) (map-twice f g xs)

-- what a vector of references points to, seen once more
pub seen_by : {A B E : Type 0} (f : A → B) (r : Result (Vec (Bor A)) E) (all : List A) (seen : List B) → map f all ≡ seen → IfOk r (λ v. map (λ x. x.now) v.items ≡ all) → IfOk r (λ v. map (λ x. f x.now) v.items ≡ seen)
seen_by f (Ok v) all seen same h = map-twice f (λ x. x.now) v.items ∙ ap (map f) h ∙ same
seen_by f (Err e) all seen same h = tt

-- ---- elements along a path

-- the trees of some elements
abbrev pub seen : List (Bor Element) → List Tree
seen elements = map (λ e. tree_of e.now) elements

pub flat_map-append : {A B : Type 0} (f : A → List B) (xs ys : List A) → flat_map f (xs ++ ys) ≡ flat_map f xs ++ flat_map f ys
flat_map-append f [] ys = refl
flat_map-append f (x ∷ xs) ys = ap (λ zs. f x ++ zs) (flat_map-append f xs ys) ∙ sym (append_assoc (f x) (flat_map f xs) (flat_map f ys))

pub flat_map-twice : {A B C : Type 0} (f : A → List B) (g : B → List C) (xs : List A) → flat_map (λ x. flat_map g (f x)) xs ≡ flat_map g (flat_map f xs)
flat_map-twice f g [] = refl
flat_map-twice f g (x ∷ xs) = ap (λ zs. flat_map g (f x) ++ zs) (flat_map-twice f g xs) ∙ sym (flat_map-append g (f x) (flat_map f xs))

pub flat_map-one : {A : Type 0} (xs : List A) → flat_map (λ x. x ∷ []) xs ≡ xs
flat_map-one [] = refl
flat_map-one (x ∷ xs) = ap (λ ys. x ∷ ys) (flat_map-one xs)

-- one name more of a path
pub path_step : (path : List (Bor (List ℕ))) (i : ℕ) (ts us all : List Tree) (name : List ℕ) (d : Bor (List ℕ)) → i < length path → name ≡ (get_or path i d).now → us ≡ flat_map (named name) ts
    → flat_map (at_path (map (λ n. n.now) (drop i path))) ts ≡ all → flat_map (at_path (map (λ n. n.now) (drop (i + 1) path))) us ≡ all
path_step path i ts us all name d within is here before =
    let rest : List (List ℕ) = map (λ n. n.now) (drop (i + 1) path) in
    let next : suc i ≡ i + 1 = omega arith in
    let split : drop i path ≡ get_or path i d ∷ drop (i + 1) path = drop-cons path i d within ∙ ap (λ (n : ℕ). get_or path i d ∷ drop n path) next in
    let names : map (λ n. n.now) (drop i path) ≡ name ∷ rest = ap (map (λ n. n.now)) split ∙ ap (λ (n : List ℕ). n ∷ rest) (sym is) in
    ap (flat_map (at_path rest)) here
    ∙ sym (flat_map-twice (named name) (at_path rest) ts)
    ∙ ap (λ (p : List (List ℕ)). flat_map (at_path p) ts) (sym names)
    ∙ before

-- the whole path was gone
pub path_end : (path : List (Bor (List ℕ))) (i : ℕ) (ts all : List Tree) → length path ≤ i → flat_map (at_path (map (λ n. n.now) (drop i path))) ts ≡ all → ts ≡ all
path_end path i ts all past before =
    let gone : drop i path ≡ [] = drop_all i path past in
    sym (flat_map-one ts) ∙ ap (λ (p : List (Bor (List ℕ))). flat_map (at_path (map (λ n. n.now) p)) ts) (sym gone) ∙ before
