-- The items of a chain's linked nodes, where the nodes hold the numbers from 1 on in order.
use Rattle.std.proofs.Common.{◌≡◌, inl, inr, ℕ, ◌+◌, ◌<◌, ◌==◌, zero, suc, not, nat_eq, ◌||◌, ◌&&◌, Bool, true, false, Some, List, [], ◌∷◌, ◌++◌, map, reverse, length, get_or, set, refl, ap, sym, subst, ◌∙◌, arith, if◌then◌else◌, eq-eqb, ne_eqb, get_or-set_same, get_or-set_other, length-set}
use Rattle.std.specs.List.{filter, filter_map, cons_option, All, Contains, slice_get}
use Rattle.std.specs.Set.{is_member}
use Rattle.std.proofs.lemmas.Bool.{cases_eq, cases_Bool, cond-true, cond-false}
use Rattle.std.proofs.lemmas.List.{length-map, get_or-map, get_or_append_left, get_or_push, length_push}
use Rattle.std.proofs.lemmas.List.Elements.{All-head, All-tail, filter_map-append}
use Rattle.std.proofs.lemmas.List.Sums.{fold-append}
use Rattle.std.proofs.lemmas.Option.{slice_get-get_or}
use Rattle.ror_statement.specs.declared.statement.Statement.{Statement}
use Rattle.ror_statement.specs.declared.statement.Statement.TheVariants.{Prefer}
use Rattle.ror_statement.specs.declared.statement.Numbered.{Numbered}
use Rattle.ror_chain.specs.Chain.{ChainState, without, IsChain, linked_items, pushed, unlinked, relinked, with_item, CanRelink, CanRelinkAll, all_relinked}
use Rattle.ror_chain.proofs.OrderLemmas.{Apart-cut, without-cut, reverse-cons}
use Rattle.ror_chain.proofs.ChainLemmas.{relink_cut, IsChain-relinked}
use Rattle.ror_history.specs.History.{withdrawal, replacement, revised, with_numbers_from}
use Rattle.ror_statement.specs.Statements.{numbers_in}

abbrev pub nowhere : Numbered
nowhere = record { number = 0; statement = Prefer 0 0 }

abbrev pub items_at : List Numbered → List ℕ → List Numbered
items_at items order = map (λ n. get_or items n nowhere) order

-- each node holds the number that is one more than it
abbrev pub AreNumbered : List Numbered → Type 0
AreNumbered items = (n : ℕ) → n < length items → (get_or items n nowhere).number ≡ suc n

abbrev pub Within : List Numbered → List ℕ → Type 0
Within items order = All (λ n. n < length items) order

with_numbers_from-at : (m : ℕ) (ss : List Statement) (n : ℕ) → n < length (with_numbers_from m ss) → (get_or (with_numbers_from m ss) n nowhere).number ≡ m + n
with_numbers_from-at m [] n within = absurd (omega arith)
with_numbers_from-at m (s ∷ ss) zero within = omega arith
with_numbers_from-at m (s ∷ ss) (suc n) within = with_numbers_from-at (suc m) ss n (omega arith) ∙ (let e : suc m + n ≡ m + suc n = omega arith in e)

pub numbered_each : (items : List Numbered) → items ≡ with_numbers_from 1 (map (λ x. x.statement) items) → AreNumbered items
numbered_each items e n within =
    let list = with_numbers_from 1 (map (λ (x : Numbered). x.statement) items) in
    let there : n < length list = subst (λ (xs : List Numbered). n < length xs) e within in
    ap (λ (xs : List Numbered). (get_or xs n nowhere).number) e ∙ with_numbers_from-at 1 (map (λ (x : Numbered). x.statement) items) n there ∙ (let f : 1 + n ≡ suc n = omega arith in f)

pub linked-is : (items : List Numbered) (order : List ℕ) → Within items order → filter_map (slice_get items) order ≡ items_at items order
linked-is items [] within = refl
linked-is items (n ∷ order) within =
    let here = slice_get-get_or items n nowhere (All-head (λ k. k < length items) n order within) in
    rw here (ap (λ xs. get_or items n nowhere ∷ xs) (linked-is items order (All-tail (λ k. k < length items) n order within)))

pub numbers-is : (items : List Numbered) (order : List ℕ) → AreNumbered items → Within items order → numbers_in (items_at items order) ≡ map suc order
numbers-is items [] h within = refl
numbers-is items (n ∷ order) h within =
    let here = h n (All-head (λ k. k < length items) n order within) in
    ap (λ m. m ∷ numbers_in (items_at items order)) here ∙ ap (λ ms. suc n ∷ ms) (numbers-is items order h (All-tail (λ k. k < length items) n order within))

-- ---- which numbers stand

pub Contains-suc : (xs : List ℕ) (n : ℕ) → Contains xs n → Contains (map suc xs) (suc n)
Contains-suc xs n (k, within, is) = (k, (let e = length-map xs suc in omega arith), get_or-map suc xs k n (suc n) within ∙ ap suc is)

pub Contains-from_suc : (xs : List ℕ) (n : ℕ) → Contains (map suc xs) (suc n) → Contains xs n
Contains-from_suc xs n (k, within, is) =
    let l : k < length xs = let e = length-map xs suc in omega arith in
    let e : suc (get_or xs k n) ≡ suc n = sym (get_or-map suc xs k n (suc n) l) ∙ is in
    (k, l, cc)

pub zero_not_contained : (xs : List ℕ) → Contains (map suc xs) 0 → ⊥
zero_not_contained xs (k, within, is) =
    let l : k < length xs = let e = length-map xs suc in omega arith in
    let e : suc (get_or xs k 0) ≡ 0 = sym (get_or-map suc xs k 0 0 l) ∙ is in
    omega arith

-- ---- what is filtered out

-- a filter of the nodes is the filter of their numbers
pub items_at-filter : (items : List Numbered) (order : List ℕ) (p q : ℕ → Bool) → AreNumbered items → Within items order → ((n : ℕ) → p n ≡ q (suc n)) → items_at items (filter p order) ≡ filter (λ x. q x.number) (items_at items order)
items_at-filter items [] p q h within agree = refl
items_at-filter items (n ∷ order) p q h within agree =
    let x = get_or items n nowhere in
    let number : x.number ≡ suc n = h n (All-head (λ k. k < length items) n order within) in
    let rest = items_at-filter items order p q h (All-tail (λ k. k < length items) n order within) agree in
    let same : q x.number ≡ p n = ap q number ∙ sym (agree n) in
    elim (cases_Bool (p n)) [
      | inl yes_ ↦ rw (yes_, same, yes_) (ap (λ xs. x ∷ xs) rest)
      | inr no_ ↦ rw (no_, same, no_) rest
    ]

abbrev pub kept_of_numbers : List ℕ → ℕ → Bool
kept_of_numbers ns m = not (is_member nat_eq ns m)

one_number : (n m : ℕ) → not (m == n) ≡ kept_of_numbers (suc n ∷ []) (suc m)
one_number n m = elim (cases_eq m n) [
  | inl same ↦ let e : suc m ≡ suc n = ap suc same in rw (eq-eqb m n same, eq-eqb (suc m) (suc n) e)
  | inr other ↦ let e : suc m ≡ suc n → ⊥ = λ f. other cc in rw (ne_eqb m n other, ne_eqb (suc m) (suc n) e)
]

-- what a withdrawal of a linked node leaves
pub without-listed : (items : List Numbered) (order : List ℕ) (n : ℕ) → AreNumbered items → Within items order → items_at items (without order n) ≡ revised (items_at items order) (withdrawal (suc n ∷ []))
without-listed items order n h within = items_at-filter items order (λ m. not (m == n)) (kept_of_numbers (suc n ∷ [])) h within (one_number n)

filter-filter : {X : Type 0} (p q r : X → Bool) → ((x : X) → (q x && p x) ≡ r x) → (xs : List X) → filter p (filter q xs) ≡ filter r xs
filter-filter p q r agree [] = refl
filter-filter p q r agree (x ∷ xs) =
    let rest = filter-filter p q r agree xs in
    let own = agree x in
    elim (cases_Bool (q x)) [
      | inl e ↦ elim (cases_Bool (p x)) [
        | inl f ↦ let g : r x ≡ true = sym own ∙ (rw (e, f)) in rw (e, g) (rw f (ap (λ ys. x ∷ ys) rest))
        | inr f ↦ let g : r x ≡ false = sym own ∙ (rw (e, f)) in rw (e, g) (rw f rest)
      ]
      | inr e ↦ let g : r x ≡ false = sym own ∙ (rw e) in rw (e, g) rest
    ]

pub filter_none : {X : Type 0} (xs : List X) → filter (λ _. true) xs ≡ xs
filter_none [] = refl
filter_none (x ∷ xs) = ap (λ ys. x ∷ ys) (filter_none xs)

-- two withdrawals one after another are one
pub withdrawn_twice : (list : List Numbered) (n : ℕ) (ns : List ℕ) → revised (revised list (withdrawal (n ∷ []))) (withdrawal ns) ≡ revised list (withdrawal (n ∷ ns))
withdrawn_twice list n ns = filter-filter (λ (x : Numbered). kept_of_numbers ns x.number) (λ (x : Numbered). kept_of_numbers (n ∷ []) x.number) (λ (x : Numbered). kept_of_numbers (n ∷ ns) x.number) (λ x. both (nat_eq x.number n) (is_member nat_eq ns x.number)) list
  where
    both : (b c : Bool) → (not (b || false) && not c) ≡ not (b || c)
    both true c = refl
    both false c = refl

-- ---- what each change makes of the items

pub IsChain-within : (s : ChainState Numbered) → IsChain s → Within s.items s.order
IsChain-within s h = h.there

-- a new node's item stands last
pub linked-pushed : (s : ChainState Numbered) (x : Numbered) → IsChain s → linked_items (pushed s x) ≡ linked_items s ++ x ∷ []
linked-pushed s x h = filter_map-append (slice_get (s.items ++ x ∷ [])) s.order (length s.items ∷ []) ∙ ap (λ xs. xs ++ filter_map (slice_get (s.items ++ x ∷ [])) (length s.items ∷ [])) (old s.order h.there) ∙ ap (λ o. filter_map (slice_get s.items) s.order ++ cons_option o []) newest
  where
    newest : slice_get (s.items ++ x ∷ []) (length s.items) ≡ Some x
    newest = let more = length_push s.items x in slice_get-get_or (s.items ++ x ∷ []) (length s.items) nowhere (omega arith) ∙ ap Some (get_or_push s.items x nowhere (length s.items) refl)

    old : (order : List ℕ) → Within s.items order → filter_map (slice_get (s.items ++ x ∷ [])) order ≡ filter_map (slice_get s.items) order
    old [] within = refl
    old (n ∷ order) within =
        let l : n < length s.items = All-head (λ k. k < length s.items) n order within in
        let more = length_push s.items x in
        let same : slice_get (s.items ++ x ∷ []) n ≡ slice_get s.items n = slice_get-get_or (s.items ++ x ∷ []) n nowhere (omega arith) ∙ ap Some (get_or_append_left s.items (x ∷ []) nowhere n l) ∙ sym (slice_get-get_or s.items n nowhere l) in
        ap (λ o. cons_option o (filter_map (slice_get (s.items ++ x ∷ [])) order)) same ∙ ap (cons_option (slice_get s.items n)) (old order (All-tail (λ k. k < length s.items) n order within))

-- a node that is unlinked withdraws its number
pub linked-unlinked : (s : ChainState Numbered) (n : ℕ) → IsChain s → AreNumbered s.items → IsChain (unlinked s n) → linked_items (unlinked s n) ≡ revised (linked_items s) (withdrawal (suc n ∷ []))
linked-unlinked s n h numbered k =
    linked-is s.items (without s.order n) k.there ∙ without-listed s.items s.order n numbered h.there ∙ ap (λ xs. revised xs (withdrawal (suc n ∷ []))) (sym (linked-is s.items s.order h.there))

-- a node that is relinked was withdrawn before
pub linked-relinked : (s : ChainState Numbered) (n : ℕ) → IsChain s → AreNumbered s.items → CanRelink s n → linked_items s ≡ revised (linked_items (relinked s n)) (withdrawal (suc n ∷ []))
linked-relinked s n h numbered can =
    let c = relink_cut s n h can in
    let parts = Apart-cut c.front n c.back c.apart in
    let order = (relinked s n).order in
    let taken : without order n ≡ s.order = ap (λ o. without o n) c.grown ∙ without-cut c.front n c.back parts.not_before parts.not_after ∙ sym c.cut in
    let there = (IsChain-relinked s n h can).there in
    linked-is s.items s.order h.there ∙ ap (items_at s.items) (sym taken) ∙ without-listed s.items order n numbered there ∙ ap (λ xs. revised xs (withdrawal (suc n ∷ []))) (sym (linked-is s.items order there))

pub CanRelinkAll-parts : (s : ChainState Numbered) (xs ys : List ℕ) → CanRelinkAll s (xs ++ ys) → CanRelinkAll s xs × CanRelinkAll (all_relinked s xs) ys
CanRelinkAll-parts s [] ys h = (tt, h)
CanRelinkAll-parts s (x ∷ xs) ys h = let rest = CanRelinkAll-parts (relinked s x) xs ys h.1 in ((h.0, rest.0), rest.1)

pub items-relinked : (s : ChainState Numbered) (ns : List ℕ) → (all_relinked s ns).items ≡ s.items
items-relinked s [] = refl
items-relinked s (n ∷ ns) = items-relinked (relinked s n) ns

pub IsChain-all_relinked : (s : ChainState Numbered) (ns : List ℕ) → IsChain s → CanRelinkAll s ns → IsChain (all_relinked s ns)
IsChain-all_relinked s [] h can = h
IsChain-all_relinked s (n ∷ ns) h can = IsChain-all_relinked (relinked s n) ns (IsChain-relinked s n h can.0) can.1

pub linked-all_relinked : (s : ChainState Numbered) (ns : List ℕ) → IsChain s → AreNumbered s.items → CanRelinkAll s (reverse ns) → linked_items s ≡ revised (linked_items (all_relinked s (reverse ns))) (withdrawal (map suc ns))
linked-all_relinked s [] h numbered can = sym (filter_none (linked_items s))
linked-all_relinked s (n ∷ ns) h numbered can =
    let turned = reverse-cons n ns in
    let parts = CanRelinkAll-parts s (reverse ns) (n ∷ []) (subst (CanRelinkAll s) turned can) in
    let mid = all_relinked s (reverse ns) in
    let mid_numbered : AreNumbered mid.items = subst AreNumbered (sym (items-relinked s (reverse ns))) numbered in
    let last = linked-relinked mid n (IsChain-all_relinked s (reverse ns) h parts.0) mid_numbered parts.1.0 in
    let whole : relinked mid n ≡ all_relinked s (reverse (n ∷ ns)) = sym (ap (all_relinked s) turned ∙ fold-append relinked s (reverse ns) (n ∷ [])) in
    linked-all_relinked s ns h numbered parts.0 ∙ ap (λ xs. revised xs (withdrawal (map suc ns))) (last ∙ ap (λ (t : ChainState Numbered). revised (linked_items t) (withdrawal (suc n ∷ []))) whole) ∙ withdrawn_twice (linked_items (all_relinked s (reverse (n ∷ ns)))) (suc n) (map suc ns)

-- a node that gets another item replaces its statement
items_at-set : (items : List Numbered) (order : List ℕ) (n : ℕ) (x : Numbered) → AreNumbered items → Within items order → n < length items → x.number ≡ suc n → items_at (set items n x) order ≡ revised (items_at items order) (replacement (suc n) x.statement)
items_at-set items [] n x h within there number = refl
items_at-set items (k ∷ order) n x h within there number =
    let l : k < length items = All-head (λ m. m < length items) k order within in
    let old = get_or items k nowhere in
    let own : old.number ≡ suc k = h k l in
    let rest = items_at-set items order n x h (All-tail (λ m. m < length items) k order within) there number in
    let put : Numbered = record { number = suc n; statement = x.statement } in
    let here : get_or (set items n x) k nowhere ≡ (if old.number == suc n then put else old) = elim (cases_eq k n) [
      | inl same ↦
          let e : old.number ≡ suc n = own ∙ ap suc same in
          let f : get_or (set items n x) k nowhere ≡ x = ap (λ m. get_or (set items n x) m nowhere) same ∙ get_or-set_same items n x nowhere there in
          let g : x ≡ put = ap (λ m. record { number = m; statement = x.statement }) number in
          f ∙ g ∙ sym (cond-true (old.number == suc n) put old (eq-eqb old.number (suc n) e))
      | inr other ↦
          let e : old.number ≡ suc n → ⊥ = λ f. other (let g : suc k ≡ suc n = sym own ∙ f in cc) in
          get_or-set_other items n k x nowhere other ∙ sym (cond-false (old.number == suc n) put old (ne_eqb old.number (suc n) e))
    ] in
    ap (λ y. y ∷ items_at (set items n x) order) here ∙ ap (λ ys. (if old.number == suc n then put else old) ∷ ys) rest

pub linked-with_item : (s : ChainState Numbered) (n : ℕ) (x : Numbered) → IsChain s → AreNumbered s.items → n < length s.items → x.number ≡ suc n → linked_items (with_item s n x) ≡ revised (linked_items s) (replacement (suc n) x.statement)
linked-with_item s n x h numbered there number =
    let within : Within (set s.items n x) s.order = subst (λ m. All (λ k. k < m) s.order) (sym (length-set s.items n x)) h.there in
    linked-is (set s.items n x) s.order within ∙ items_at-set s.items s.order n x numbered h.there there number ∙ ap (λ xs. revised xs (replacement (suc n) x.statement)) (sym (linked-is s.items s.order h.there))
