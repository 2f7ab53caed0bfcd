-- Nodes: what a write to one of them leaves of the links, of what is kept and of the items.
use Rattle.std.proofs.Common.{◌≡◌, ℕ, ◌<◌, Bool, true, false, Option, Some, None, List, [], ◌∷◌, ◌++◌, map, length, get_or, set, refl, ap, sym, ◌∙◌, if◌then◌else◌}
use Rattle.std.proofs.lemmas.List.{map-set, map-append, set-get_or, get_or-map}
use Rattle.ror_chain.specs.declared.links.Node.{Node}
use Rattle.ror_chain.specs.Chain.{Neighbours}
use Rattle.ror_chain.specs.Cells.{Cells, kept_of, cells_of, with_next, with_previous}
use Rattle.ror_chain.proofs.CellLemmas.{marked, grown}

-- a write that keeps what is shown of the node changes nothing of what is shown
pub shown_same : {A B : Type 0} (f : A → B) (xs : List A) (n : ℕ) (x y : A) → n < length xs → x ≡ get_or xs n x → f y ≡ f x → map f (set xs n y) ≡ map f xs
shown_same f xs n x y within is same =
    let read : f x ≡ get_or (map f xs) n (f x) = ap f is ∙ sym (get_or-map f xs n x (f x) within) in
    map-set f xs n y ∙ ap (set (map f xs) n) (same ∙ read) ∙ set-get_or (map f xs) n (f x)

pub shown_at : {A B : Type 0} (f : A → B) (xs : List A) (n : ℕ) (x : A) (d : B) → n < length xs → x ≡ get_or xs n x → get_or (map f xs) n d ≡ f x
shown_at f xs n x d within is = get_or-map f xs n x d within ∙ ap f (sym is)

-- a node that keeps neighbours is unlinked, and they are its links
pub kept_of-some : {T : Type 0} (x : Node T) (k : Neighbours) → kept_of x ≡ Some k → (x.linked ≡ false) × (x.previous ≡ k.previous) × (x.next ≡ k.next)
kept_of-some {T} x k e = by_flag x.linked refl e
  where
    shown : Bool → Option Neighbours
    shown b = kept_of (record { item = x.item; previous = x.previous; next = x.next; linked = b })

    by_flag : (b : Bool) → x.linked ≡ b → kept_of (record { item = x.item; previous = x.previous; next = x.next; linked = b }) ≡ Some k → (x.linked ≡ false) × (x.previous ≡ k.previous) × (x.next ≡ k.next)
    by_flag true is e = absurd cc
    by_flag false is e = (is, cc, cc)

pub kept_of-none : {T : Type 0} (x : Node T) → kept_of x ≡ None → x.linked ≡ true
kept_of-none x e = by_flag x.linked refl e
  where
    by_flag : (b : Bool) → x.linked ≡ b → kept_of (record { item = x.item; previous = x.previous; next = x.next; linked = b }) ≡ None → x.linked ≡ true
    by_flag true is e = is
    by_flag false is e = absurd cc

-- ---- each write

pub same_cells : {T : Type 0} (c d : Cells T) → c.nexts ≡ d.nexts → c.previouses ≡ d.previouses → c.kept ≡ d.kept → c.items ≡ d.items → c.first ≡ d.first → c.last ≡ d.last → c ≡ d
same_cells {T} c d nexts previouses kept items first last =
    ap (λ a. made a c.previouses c.kept c.items c.first c.last) nexts ∙ ap (λ a. made d.nexts a c.kept c.items c.first c.last) previouses ∙ ap (λ a. made d.nexts d.previouses a c.items c.first c.last) kept ∙ ap (λ a. made d.nexts d.previouses d.kept a c.first c.last) items ∙ ap (λ a. made d.nexts d.previouses d.kept d.items a c.last) first ∙ ap (made d.nexts d.previouses d.kept d.items d.first) last
  where
    made : List (Option ℕ) → List (Option ℕ) → List (Option Neighbours) → List T → Option ℕ → Option ℕ → Cells T
    made nexts previouses kept items first last = record { nexts = nexts; previouses = previouses; kept = kept; items = items; first = first; last = last }

-- a linked node is linked whatever its links are
still_linked : {T : Type 0} (x : Node T) (previous next : Option ℕ) → kept_of x ≡ None → kept_of (record { item = x.item; previous = previous; next = next; linked = x.linked }) ≡ kept_of x
still_linked x previous next e = ap (λ b. if b then None else Some (record { previous = previous; next = next })) (kept_of-none x e) ∙ sym e

pub next_written : {T : Type 0} (xs : List (Node T)) (first last : Option ℕ) (n : ℕ) (x : Node T) (next : Option ℕ) → n < length xs → x ≡ get_or xs n x → get_or (map kept_of xs) n None ≡ None → cells_of (set xs n (record { item = x.item; previous = x.previous; next = next; linked = x.linked })) first last ≡ with_next (cells_of xs first last) (Some n) next
next_written {T} xs first last n x next within is linked =
    let y : Node T = record { item = x.item; previous = x.previous; next = next; linked = x.linked } in
    let none : Option Neighbours = None in
    let same = still_linked x x.previous next (sym (shown_at kept_of xs n x none within is) ∙ linked) in
    same_cells (cells_of (set xs n y) first last) (with_next (cells_of xs first last) (Some n) next) (map-set (λ (z : Node T). z.next) xs n y) (shown_same (λ (z : Node T). z.previous) xs n x y within is refl) (shown_same kept_of xs n x y within is same) (shown_same (λ (z : Node T). z.item) xs n x y within is refl) refl refl

pub previous_written : {T : Type 0} (xs : List (Node T)) (first last : Option ℕ) (n : ℕ) (x : Node T) (previous : Option ℕ) → n < length xs → x ≡ get_or xs n x → get_or (map kept_of xs) n None ≡ None → cells_of (set xs n (record { item = x.item; previous = previous; next = x.next; linked = x.linked })) first last ≡ with_previous (cells_of xs first last) (Some n) previous
previous_written {T} xs first last n x previous within is linked =
    let y : Node T = record { item = x.item; previous = previous; next = x.next; linked = x.linked } in
    let none : Option Neighbours = None in
    let same = still_linked x previous x.next (sym (shown_at kept_of xs n x none within is) ∙ linked) in
    same_cells (cells_of (set xs n y) first last) (with_previous (cells_of xs first last) (Some n) previous) (shown_same (λ (z : Node T). z.next) xs n x y within is refl) (map-set (λ (z : Node T). z.previous) xs n y) (shown_same kept_of xs n x y within is same) (shown_same (λ (z : Node T). z.item) xs n x y within is refl) refl refl

-- the node is marked as unlinked, or as linked
pub unlinked_written : {T : Type 0} (xs : List (Node T)) (first last : Option ℕ) (n : ℕ) (x : Node T) → n < length xs → x ≡ get_or xs n x → cells_of (set xs n (record { item = x.item; previous = x.previous; next = x.next; linked = false })) first last ≡ record (cells_of xs first last) { kept = set (map kept_of xs) n (Some (record { previous = get_or (cells_of xs first last).previouses n None; next = get_or (cells_of xs first last).nexts n None })) }
unlinked_written {T} xs first last n x within is =
    let y : Node T = record { item = x.item; previous = x.previous; next = x.next; linked = false } in
    let previous = shown_at (λ (z : Node T). z.previous) xs n x None within is in
    let next = shown_at (λ (z : Node T). z.next) xs n x None within is in
    let own : kept_of y ≡ Some (record { previous = get_or (cells_of xs first last).previouses n None; next = get_or (cells_of xs first last).nexts n None }) =
    ap (λ p. Some (record { previous = p; next = x.next })) (sym previous) ∙ ap (λ q. Some (record { previous = get_or (cells_of xs first last).previouses n None; next = q })) (sym next) in
    same_cells (cells_of (set xs n y) first last) (record (cells_of xs first last) { kept = set (map kept_of xs) n (Some (record { previous = get_or (cells_of xs first last).previouses n None; next = get_or (cells_of xs first last).nexts n None })) }) (shown_same (λ (z : Node T). z.next) xs n x y within is refl) (shown_same (λ (z : Node T). z.previous) xs n x y within is refl) (map-set kept_of xs n y ∙ ap (set (map kept_of xs) n) own) (shown_same (λ (z : Node T). z.item) xs n x y within is refl) refl refl

pub linked_written : {T : Type 0} (xs : List (Node T)) (first last : Option ℕ) (n : ℕ) (x : Node T) → n < length xs → x ≡ get_or xs n x → cells_of (set xs n (record { item = x.item; previous = x.previous; next = x.next; linked = true })) first last ≡ marked (cells_of xs first last) n
linked_written {T} xs first last n x within is =
    let y : Node T = record { item = x.item; previous = x.previous; next = x.next; linked = true } in
    same_cells (cells_of (set xs n y) first last) (marked (cells_of xs first last) n) (shown_same (λ (z : Node T). z.next) xs n x y within is refl) (shown_same (λ (z : Node T). z.previous) xs n x y within is refl) (map-set kept_of xs n y) (shown_same (λ (z : Node T). z.item) xs n x y within is refl) refl refl

pub item_written : {T : Type 0} (xs : List (Node T)) (first last : Option ℕ) (n : ℕ) (x : Node T) (item : T) → n < length xs → x ≡ get_or xs n x → cells_of (set xs n (record { item = item; previous = x.previous; next = x.next; linked = x.linked })) first last ≡ record (cells_of xs first last) { items = set (cells_of xs first last).items n item }
item_written {T} xs first last n x item within is =
    let y : Node T = record { item = item; previous = x.previous; next = x.next; linked = x.linked } in
    same_cells (cells_of (set xs n y) first last) (record (cells_of xs first last) { items = set (cells_of xs first last).items n item }) (shown_same (λ (z : Node T). z.next) xs n x y within is refl) (shown_same (λ (z : Node T). z.previous) xs n x y within is refl) (shown_same kept_of xs n x y within is refl) (map-set (λ (z : Node T). z.item) xs n y) refl refl

pub node_pushed : {T : Type 0} (xs : List (Node T)) (first last : Option ℕ) (x : Node T) → cells_of (xs ++ x ∷ []) first last ≡ grown (cells_of xs first last) x.next x.previous (kept_of x) x.item
node_pushed {T} xs first last x =
    same_cells (cells_of (xs ++ x ∷ []) first last) (grown (cells_of xs first last) x.next x.previous (kept_of x) x.item) (map-append (λ (z : Node T). z.next) xs (x ∷ [])) (map-append (λ (z : Node T). z.previous) xs (x ∷ [])) (map-append kept_of xs (x ∷ [])) (map-append (λ (z : Node T). z.item) xs (x ∷ [])) refl refl
