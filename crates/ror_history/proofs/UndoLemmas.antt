-- A chain and its inverses: what each revision adds to them, what they stand for, and what an undo takes away.
use Rattle.std.proofs.Common.{◌≡◌, ℕ, ◌+◌, ◌-◌, ◌<◌, suc, true, Option, Some, None, List, [], ◌∷◌, ◌++◌, map, reverse, take, length, get_or, set, refl, ap, sym, subst, ◌∙◌, arith, length-set, set-set}
use Rattle.std.specs.List.{Contains}
use Rattle.std.proofs.lemmas.Bool.{lt-ltb}
use Rattle.std.specs.Prelude.{IsTrue, nat_lt, ◌↔◌, ◌≢◌}
use Rattle.std.proofs.lemmas.List.{length-map, length-append, length-reverse, length_push, get_or_push, take_at, take_more, take_all, length-take-le, set-get_or}
use Rattle.std.proofs.lemmas.List.Elements.{All-contains}
use Rattle.ror_statement.specs.declared.statement.Statement.{Statement}
use Rattle.ror_statement.specs.declared.statement.Numbered.{Numbered}
use Rattle.ror_chain.specs.Chain.{Neighbours, ChainState, last_of, kept_by, IsLinked, IsChain, linked_items, pushed, with_item, EndsWithNewest}
use Rattle.ror_chain.proofs.OrderLemmas.{EndView, is_empty, ends_with, end_view, last_of-push, Contains-cut}
use Rattle.ror_chain.proofs.ChainLemmas.{same_state}
use Rattle.ror_history.specs.declared.inverse.Inverse.{Inverse}
use Rattle.ror_history.specs.declared.inverse.Inverse.TheVariants.{Pop, Relink, RelinkAll, Set}
use Rattle.ror_history.specs.History.{Revision, Revisions, addition, revised, added_numbers, standing, next_number}
use Rattle.ror_history.specs.Inverses.{without_newest, taken_back, CanTakeBack, statement_at, revision_of, surviving_of, opening_of, revisions_of, IsSound, IsHeld}
use Rattle.ror_history.specs.Laws.{AreNumberedInTurn}
use Rattle.ror_history.proofs.ItemLemmas.{nowhere, AreNumbered, numbered_each, linked-pushed, linked-all_relinked, linked-relinked, linked-with_item, items-relinked}
use Rattle.ror_history.proofs.TurnLemmas.{made, standing-more, next_number-more, next_number-added, next_number-first, added_numbers-append, turn_more, first_turn}

-- ---- the newest node

take_push : {X : Type 0} (xs : List X) (y : X) → take (length (xs ++ y ∷ []) - 1) (xs ++ y ∷ []) ≡ xs
take_push xs y = let more = length_push xs y in take_at xs (y ∷ []) (length (xs ++ y ∷ []) - 1) (omega arith)

pub without_newest-pushed : (s : ChainState Numbered) (x : Numbered) → without_newest (pushed s x) ≡ s
without_newest-pushed s x = let none = None in same_state (without_newest (pushed s x)) s (take_push s.order (length s.items)) (take_push s.items x) (take_push s.kept none)

pub EndsWithNewest-pushed : (s : ChainState Numbered) (x : Numbered) → EndsWithNewest (pushed s x)
EndsWithNewest-pushed s x =
    let more = length_push s.items x in
    let count : length s.items ≡ length (s.items ++ x ∷ []) - 1 = omega arith in
    last_of-push s.order (length s.items) ∙ ap Some count

-- a chain that ends with its newest node is one before its push
pub record WasPushed (s : ChainState Numbered) : Type 0 where
  pub before : ChainState Numbered
  pub newest : Numbered
  pub was : s ≡ pushed before newest
  pub left : without_newest s ≡ before

list_end : {X : Type 0} (xs : List X) (n : ℕ) (d : X) → length xs ≡ n + 1 → xs ≡ take n xs ++ get_or xs n d ∷ []
list_end xs n d e = sym (take_all (n + 1) xs (omega arith)) ∙ take_more xs n d (omega arith)

pub was_pushed : (s : ChainState Numbered) → IsChain s → EndsWithNewest s → WasPushed s
was_pushed s h newest = by_end s.order (end_view s.order) refl
  where
    by_end : (order : List ℕ) → EndView order → s.order ≡ order → WasPushed s
    by_end _ is_empty e = let none : last_of s.order ≡ None = ap last_of e in absurd (let some = newest in cc)
    by_end _ (ends_with front k) e =
        let n = length s.items - 1 in
        let last : Some k ≡ Some n = sym (ap last_of e ∙ last_of-push front k) ∙ newest in
        let same : k ≡ n = cc in
        let order : s.order ≡ front ++ n ∷ [] = e ∙ ap (λ m. front ++ m ∷ []) same in
        let linked : IsLinked s n = subst (λ o. Contains o n) (sym order) (Contains-cut front n []) in
        let there : n < length s.items = All-contains (λ m. m < length s.items) s.order n h.there linked in
        let nothing : kept_by s n ≡ None = (h.linked n there).0 linked in
        let before : ChainState Numbered = record { order = front; items = take n s.items; kept = take n s.kept } in
        let x = get_or s.items n nowhere in
        let none : Option Neighbours = None in
        let items : s.items ≡ take n s.items ++ x ∷ [] = list_end s.items n nowhere (omega arith) in
        let kept : s.kept ≡ take n s.kept ++ none ∷ [] = list_end s.kept n none (let z = h.sizes in omega arith) ∙ ap (λ m. take n s.kept ++ m ∷ []) nothing in
        let count : length (take n s.items) ≡ n = length-take-le n s.items (omega arith) in
        let was : s ≡ pushed before x = same_state s (pushed before x) (order ∙ ap (λ m. front ++ m ∷ []) (sym count)) items kept in
        record { before = before; newest = x; was = was; left = ap without_newest was ∙ without_newest-pushed before x }

-- ---- one inverse

newest_at : (items : List Numbered) (x : Numbered) (n : ℕ) → length items ≡ n → AreNumbered (items ++ x ∷ []) → record { number = suc n; statement = (get_or (items ++ x ∷ []) n nowhere).statement } ≡ x
newest_at items x n e h =
    let more = length_push items x in
    ap (λ m. record { number = m; statement = (get_or (items ++ x ∷ []) n nowhere).statement }) (sym (h n (omega arith))) ∙ get_or_push items x nowhere n e

-- an addition is read from the newest node
pushed_revised : (s : ChainState Numbered) (x : Numbered) → IsChain s → AreNumbered (s.items ++ x ∷ []) → revised (linked_items s) (revision_of (pushed s x) Pop) ≡ linked_items (pushed s x)
pushed_revised s x h numbered =
    let more = length_push s.items x in
    let count : length (s.items ++ x ∷ []) ≡ suc (length s.items) = omega arith in
    let last : length (s.items ++ x ∷ []) - 1 ≡ length s.items = omega arith in
    ap (λ n. linked_items s ++ record { number = n; statement = statement_at (pushed s x) (length (s.items ++ x ∷ []) - 1) } ∷ []) count ∙ ap (λ n. linked_items s ++ record { number = suc (length s.items); statement = statement_at (pushed s x) n } ∷ []) last ∙ ap (λ y. linked_items s ++ y ∷ []) (newest_at s.items x (length s.items) refl numbered) ∙ sym (linked-pushed s x h)

-- what stands is what stood before, revised
pub linked_revised : (s : ChainState Numbered) (x : Inverse) → IsSound s → IsSound (taken_back s x) → CanTakeBack s x → revised (linked_items (taken_back s x)) (revision_of s x) ≡ linked_items s
linked_revised s Pop h k can =
    let p = was_pushed s h.chain can in
    let chain : IsChain p.before = subst (λ (t : ChainState Numbered). IsChain t) p.left k.chain in
    let numbered : AreNumbered (p.before.items ++ p.newest ∷ []) = subst (λ (t : ChainState Numbered). AreNumbered t.items) p.was (numbered_each s.items h.numbered) in
    ap (λ (t : ChainState Numbered). revised (linked_items t) (revision_of s Pop)) p.left ∙ subst (λ (t : ChainState Numbered). revised (linked_items p.before) (revision_of t Pop) ≡ linked_items t) (sym p.was) (pushed_revised p.before p.newest chain numbered)
linked_revised s (Relink n) h k can = sym (linked-relinked s n h.chain (numbered_each s.items h.numbered) can)
linked_revised s (RelinkAll ns) h k can = sym (linked-all_relinked s ns h.chain (numbered_each s.items h.numbered) can)
linked_revised s (Set n x) h k can =
    let there : n < length s.items = All-contains (λ m. m < length s.items) s.order n h.chain.there can in
    let count : length (set s.items n x) ≡ length s.items = length-set s.items n x in
    let old = get_or s.items n nowhere in
    let number : old.number ≡ suc n = numbered_each s.items h.numbered n there in
    let back : with_item (with_item s n x) n old ≡ s = same_state (with_item (with_item s n x) n old) s refl (set-set s.items n x old ∙ set-get_or s.items n nowhere) refl in
    sym (linked-with_item (with_item s n x) n old k.chain (numbered_each (set s.items n x) k.numbered) (omega arith) number) ∙ ap (λ (t : ChainState Numbered). linked_items t) back

-- ---- what a chain and its inverses stand for

pub IsHeld-sound : (s : ChainState Numbered) (xs : List Inverse) → IsHeld s xs → IsSound s
IsHeld-sound s [] h = h.0
IsHeld-sound s (x ∷ xs) h = h.0

pub standing-is : (s : ChainState Numbered) (xs : List Inverse) → IsHeld s xs → standing (revisions_of s xs) ≡ linked_items s
standing-is s [] h = sym h.0.numbered ∙ sym h.1
standing-is s (x ∷ xs) h =
    let before = taken_back s x in
    standing-more (opening_of before xs) (surviving_of before xs) (revision_of s x) ∙ ap (λ list. revised list (revision_of s x)) (standing-is before xs h.2) ∙ linked_revised s x h.0 (IsHeld-sound before xs h.2) h.1

newest_count : (s : ChainState Numbered) → IsChain s → EndsWithNewest s → length s.items ≡ 1 + length (without_newest s).items
newest_count s h newest =
    let p = was_pushed s h newest in
    let count : length s.items ≡ length p.before.items + 1 = ap (λ (t : ChainState Numbered). length t.items) p.was ∙ length_push p.before.items p.newest in
    let same : length (without_newest s).items ≡ length p.before.items = ap (λ (t : ChainState Numbered). length t.items) p.left in
    omega arith

-- one inverse more
next_number-step : (s : ChainState Numbered) (x : Inverse) (opening : List Statement) (surviving : List Revision) → IsSound s → CanTakeBack s x → next_number (made opening surviving) ≡ 1 + length (taken_back s x).items → next_number (made opening (surviving ++ revision_of s x ∷ [])) ≡ 1 + length s.items
next_number-step s Pop opening surviving h can before =
    let count = newest_count s h.chain can in
    next_number-added opening surviving (length s.items) (statement_at s (length s.items - 1)) (count ∙ sym before) ∙ (let e : suc (length s.items) ≡ 1 + length s.items = omega arith in e)
next_number-step s (Relink n) opening surviving h can before = next_number-more opening surviving (revision_of s (Relink n)) ∙ before
next_number-step s (RelinkAll ns) opening surviving h can before = next_number-more opening surviving (revision_of s (RelinkAll ns)) ∙ before ∙ ap (λ (items : List Numbered). 1 + length items) (items-relinked s (reverse ns))
next_number-step s (Set n y) opening surviving h can before = next_number-more opening surviving (revision_of s (Set n y)) ∙ before ∙ ap (λ k. 1 + k) (length-set s.items n y)

pub next_number-is : (s : ChainState Numbered) (xs : List Inverse) → IsHeld s xs → next_number (revisions_of s xs) ≡ 1 + length s.items
next_number-is s [] h = next_number-first (map (λ (x : Numbered). x.statement) s.items) ∙ ap (λ n. 1 + n) (length-map s.items (λ (x : Numbered). x.statement))
next_number-is s (x ∷ xs) h =
    let before = taken_back s x in
    next_number-step s x (opening_of before xs) (surviving_of before xs) h.0 h.1 (next_number-is before xs h.2)

-- a node for each statement of the opening list and each surviving addition
count-step : (s : ChainState Numbered) (x : Inverse) (opening : List Statement) (surviving : List Revision) → IsSound s → CanTakeBack s x → length (taken_back s x).items ≡ length opening + length (added_numbers surviving) → length s.items ≡ length opening + length (added_numbers (surviving ++ revision_of s x ∷ []))
count-step s x opening surviving h can before =
    let more : length (added_numbers (surviving ++ revision_of s x ∷ [])) ≡ length (added_numbers surviving) + length (added_numbers (revision_of s x ∷ [])) = ap length (added_numbers-append surviving (revision_of s x ∷ [])) ∙ length-append (added_numbers surviving) (added_numbers (revision_of s x ∷ [])) in
    let own : length s.items ≡ length (taken_back s x).items + length (added_numbers (revision_of s x ∷ [])) = own_count s x h can in
    omega arith
  where
    own_count : (s : ChainState Numbered) (x : Inverse) → IsSound s → CanTakeBack s x → length s.items ≡ length (taken_back s x).items + length (added_numbers (revision_of s x ∷ []))
    own_count s Pop h can = let count = newest_count s h.chain can in omega arith
    own_count s (Relink n) h can = omega arith
    own_count s (RelinkAll ns) h can = let count = ap length (items-relinked s (reverse ns)) in omega arith
    own_count s (Set n y) h can = let count = length-set s.items n y in omega arith

pub nodes-count : (s : ChainState Numbered) (xs : List Inverse) → IsHeld s xs → length s.items ≡ length (revisions_of s xs).opening + length (added_numbers (revisions_of s xs).surviving)
nodes-count s [] h = let count = length-map s.items (λ (x : Numbered). x.statement) in omega arith
nodes-count s (x ∷ xs) h =
    let before = taken_back s x in
    count-step s x (opening_of before xs) (surviving_of before xs) h.0 h.1 (nodes-count before xs h.2)

-- each surviving addition has the number that was next when it came
own_turn : (s : ChainState Numbered) (x : Inverse) (next : ℕ) → IsSound s → CanTakeBack s x → next ≡ 1 + length (taken_back s x).items → (n : ℕ) (t : Statement) → revision_of s x ≡ addition n t → n ≡ next
own_turn s Pop next h can e n t same = let count = newest_count s h.chain can in let number : length s.items ≡ n = cc in omega arith
own_turn s (Relink k) next h can e n t same = absurd cc
own_turn s (RelinkAll ks) next h can e n t same = absurd cc
own_turn s (Set k y) next h can e n t same = absurd cc

pub in_turn : (s : ChainState Numbered) (xs : List Inverse) → IsHeld s xs → AreNumberedInTurn (revisions_of s xs)
in_turn s [] h = first_turn (map (λ (x : Numbered). x.statement) s.items)
in_turn s (x ∷ xs) h =
    let before = taken_back s x in
    turn_more (revisions_of before xs) (revision_of s x) (own_turn s x (next_number (revisions_of before xs)) h.0 h.1 (next_number-is before xs h.2)) (in_turn before xs h.2)

-- ---- whether something can be taken back

surviving_some : (s : ChainState Numbered) (x : Inverse) (xs : List Inverse) → surviving_of s (x ∷ xs) ≡ [] → ⊥
surviving_some s x xs e = none (surviving_of (taken_back s x) xs) (revision_of s x) e
  where
    none : (ys : List Revision) (y : Revision) → ys ++ y ∷ [] ≡ [] → ⊥
    none [] y e = absurd cc
    none (z ∷ zs) y e = absurd cc

positive : (n m : ℕ) → n ≡ suc m → nat_lt 0 n ≡ true
positive n m e = lt-ltb 0 n (omega arith)

pub can_undo_is : (s : ChainState Numbered) (xs : List Inverse) (r : Revisions) (n : ℕ) → revisions_of s (reverse xs) ≡ r → n ≡ length xs → IsTrue (nat_lt 0 n) ↔ (r.surviving ≢ [])
can_undo_is s xs r n is count = by (reverse xs) (length-reverse xs) is
  where
    by : (ys : List Inverse) → length ys ≡ length xs → revisions_of s ys ≡ r → IsTrue (nat_lt 0 n) ↔ (r.surviving ≢ [])
    by [] long e =
        let none : r.surviving ≡ [] = ap (λ (q : Revisions). q.surviving) (sym e) in
        let zero_ : n ≡ 0 = count ∙ sym long in
        (λ yes. absurd (let f : nat_lt 0 0 ≡ true = subst (λ (m : ℕ). nat_lt 0 m ≡ true) zero_ yes in cc), λ some. absurd (some none))
    by (y ∷ ys) long e =
        let more : r.surviving ≡ surviving_of s (y ∷ ys) = ap (λ (q : Revisions). q.surviving) (sym e) in
        let suc_ : n ≡ suc (length ys) = count ∙ sym long in
        (λ yes none. surviving_some s y ys (sym more ∙ none), λ some. positive n (length ys) suc_)
