-- A walk through a chain's linked nodes, from the first to the last.
use Rattle.std.proofs.Common.{◌≡◌, ℕ, ◌<◌, Option, Some, None, List, [], ◌∷◌, ◌++◌, map, length, get_or, unwrap_or, refl, ap, sym, subst, ◌∙◌, arith, append_assoc, append-nil}
use Rattle.std.proofs.lemmas.List.{length-append, length-map, map-append}
use Rattle.std.proofs.lemmas.List.Elements.{All-contains}
use Rattle.std.proofs.lemmas.Option.{get_or_from_slice_get}
use Rattle.std.specs.List.{slice_get, Contains}
use Rattle.ror_statement.specs.declared.statement.Statement.{Statement}
use Rattle.ror_statement.specs.declared.statement.Numbered.{Numbered}
use Rattle.ror_chain.specs.Chain.{Neighbours, ChainState, first_of, neighbours_in, neighbours_of, IsLinked, IsChain, linked_items}
use Rattle.ror_chain.proofs.OrderLemmas.{Apart, Apart-from_distinct, neighbours_in-cut, Contains-cut}
use Rattle.ror_history.proofs.HistoryLemmas.{statement_of}
use Rattle.ror_history.proofs.ItemLemmas.{nowhere, items_at, linked-is}

-- what was walked through is listed, and this node is the next
pub record IsWalk (s : ChainState Numbered) (at : Option ℕ) (list : List Numbered) : Type 0 where
  pub front : List ℕ
  pub back : List ℕ
  pub cut : s.order ≡ front ++ back
  pub next : at ≡ first_of back
  pub listed : list ≡ items_at s.items front

pub walk_begins : (s : ChainState Numbered) (at : Option ℕ) (list : List Numbered) → at ≡ first_of s.order → list ≡ [] → IsWalk s at list
walk_begins s at list e f = record { front = []; back = s.order; cut = refl; next = e; listed = f }

-- a node to go on to
pub record IsStep (s : ChainState Numbered) (n : ℕ) (list : List Numbered) : Type 0 where
  pub front : List ℕ
  pub back : List ℕ
  pub cut : s.order ≡ front ++ n ∷ back
  pub listed : list ≡ items_at s.items front
  pub there : n < length s.items
  pub fewer : length list < length s.order

pub walk_step : (s : ChainState Numbered) (n : ℕ) (list : List Numbered) → IsChain s → IsWalk s (Some n) list → IsStep s n list
walk_step s n list h w = by_back w.back refl
  where
    by_back : (back : List ℕ) → w.back ≡ back → IsStep s n list
    by_back [] e = let none : Some n ≡ None = w.next ∙ ap first_of e in absurd cc
    by_back (m ∷ back) e =
        let some : Some n ≡ Some m = w.next ∙ ap first_of e in
        let same : m ≡ n = cc in
        let cut : s.order ≡ w.front ++ n ∷ back = w.cut ∙ ap (λ b. w.front ++ b) e ∙ ap (λ k. w.front ++ k ∷ back) same in
        let there : n < length s.items = All-contains (λ k. k < length s.items) s.order n h.there (subst (λ o. Contains o n) (sym cut) (Contains-cut w.front n back)) in
        let count = ap length w.listed in
        let count2 = length-map w.front (λ k. get_or s.items k nowhere) in
        let whole = ap length cut in
        let whole2 = length-append w.front (n ∷ back) in
        record { front = w.front; back = back; cut = cut; listed = w.listed; there = there; fewer = omega arith }

pub walk_goes_on : (s : ChainState Numbered) (n : ℕ) (at : Option ℕ) (list grown : List Numbered) (x : Numbered) → IsChain s → IsWalk s (Some n) list → slice_get s.items n ≡ Some x → at ≡ (neighbours_of s n).next → grown ≡ list ++ x ∷ [] → IsWalk s at grown
walk_goes_on s n at list grown x h w read e more =
    let p = walk_step s n list h w in
    let linked : IsLinked s n = subst (λ o. Contains o n) (sym p.cut) (Contains-cut p.front n p.back) in
    let nothing = (h.linked n p.there).0 linked in
    let apart : Apart (p.front ++ n ∷ p.back) = subst Apart p.cut (Apart-from_distinct s.order h.distinct) in
    let own : neighbours_of s n ≡ neighbours_in s.order n = ap (λ o. unwrap_or o (neighbours_in s.order n)) nothing in
    let beside = neighbours_in-cut p.front n p.back apart in
    let after : at ≡ first_of p.back = e ∙ ap (λ (k : Neighbours). k.next) (own ∙ ap (λ o. neighbours_in o n) p.cut ∙ beside) in
    let item : x ≡ get_or s.items n nowhere = sym (get_or_from_slice_get s.items n x nowhere read) in
    record {
      front = p.front ++ n ∷ [];
      back = p.back;
      cut = p.cut ∙ sym (append_assoc p.front (n ∷ []) p.back);
      next = after;
      listed = more ∙ ap (λ xs. xs ++ x ∷ []) p.listed ∙ ap (λ y. items_at s.items p.front ++ y ∷ []) item ∙ sym (map-append (λ k. get_or s.items k nowhere) p.front (n ∷ []));
    }

pub walk_ends : (s : ChainState Numbered) (list : List Numbered) → IsChain s → IsWalk s None list → list ≡ linked_items s
walk_ends s list h w = by_back w.back refl
  where
    by_back : (back : List ℕ) → w.back ≡ back → list ≡ linked_items s
    by_back (m ∷ back) e = let some : None ≡ Some m = w.next ∙ ap first_of e in absurd cc
    by_back [] e =
        let whole : s.order ≡ w.front = w.cut ∙ ap (λ b. w.front ++ b) e ∙ append-nil w.front in
        w.listed ∙ ap (items_at s.items) (sym whole) ∙ sym (linked-is s.items s.order h.there)

-- ---- the statements alone

-- the statements of what was walked through are listed, and this node is the next
pub record IsTelling (s : ChainState Numbered) (at : Option ℕ) (list : List Statement) : Type 0 where
  pub walked : List Numbered
  pub walk : IsWalk s at walked
  pub told : list ≡ map statement_of walked

pub telling_begins : (s : ChainState Numbered) (at : Option ℕ) (list : List Statement) → at ≡ first_of s.order → list ≡ [] → IsTelling s at list
telling_begins s at list e f = record { walked = []; walk = walk_begins s at [] e refl; told = f }

pub telling_step : (s : ChainState Numbered) (n : ℕ) (list : List Statement) → IsChain s → IsTelling s (Some n) list → (n < length s.items) × (length list < length s.order)
telling_step s n list h t =
    let p = walk_step s n t.walked h t.walk in
    let count = ap length t.told in
    let more = length-map t.walked statement_of in
    let fewer = p.fewer in
    (p.there, omega arith)

pub telling_goes_on : (s : ChainState Numbered) (n : ℕ) (at : Option ℕ) (list grown : List Statement) (x : Numbered) → IsChain s → IsTelling s (Some n) list → slice_get s.items n ≡ Some x → at ≡ (neighbours_of s n).next → grown ≡ list ++ x.statement ∷ [] → IsTelling s at grown
telling_goes_on s n at list grown x h t read e more = record {
  walked = t.walked ++ x ∷ [];
  walk = walk_goes_on s n at t.walked (t.walked ++ x ∷ []) x h t.walk read e refl;
  told = more ∙ ap (λ ss. ss ++ x.statement ∷ []) t.told ∙ sym (map-append statement_of t.walked (x ∷ []));
}

pub telling_ends : (s : ChainState Numbered) (list : List Statement) → IsChain s → IsTelling s None list → list ≡ map statement_of (linked_items s)
telling_ends s list h t = t.told ∙ ap (map statement_of) (walk_ends s t.walked h t.walk)
