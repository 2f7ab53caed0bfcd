-- Finding the nodes of numbers, and the chain of an opening list.
use Rattle.std.proofs.Common.{◌≡◌, ℕ, ◌+◌, ◌-◌, ◌<◌, ◌≤◌, zero, suc, nat_eq, eqb, Bool, true, false, List, [], ◌∷◌, ◌++◌, map, take, drop, length, get_or, ap, sym, subst, ◌∙◌, arith, append_assoc, append-nil}
use Rattle.std.specs.List.{All, Contains, IsDistinct, IsAnyAnswer}
use Rattle.std.proofs.lemmas.Bool.{both_ways}
use Rattle.std.proofs.lemmas.Bool.Decides.{Decides-eqb}
use Rattle.std.proofs.lemmas.List.{drop_more, drop_all, take_more, take_all, take-append-drop, map-append}
use Rattle.std.proofs.lemmas.List.Elements.{All-contains, All-nil, All-push, contains_decides, Decides-contains}
use Rattle.ror_statement.specs.declared.statement.Statement.{Statement}
use Rattle.ror_statement.specs.declared.statement.Numbered.{Numbered}
use Rattle.ror_chain.specs.Chain.{ChainState, IsLinked, IsChain, linked_items, pushed}
use Rattle.ror_chain.proofs.OrderLemmas.{Absent, Apart, Apart-from_distinct, distinct_from_Apart, Apart-cut, Apart-insert, absent_not_contained, Absent-from_not}
use Rattle.ror_chain.proofs.ChainLemmas.{IsChain-pushed}
use Rattle.ror_history.specs.History.{with_numbers_from}
use Rattle.ror_statement.specs.Statements.{numbers_in}
use Rattle.ror_history.specs.Faults.{AreEachOnce}
use Rattle.ror_history.specs.Inverses.{IsSound, IsOpened}
use Rattle.ror_history.proofs.ItemLemmas.{Contains-suc, Contains-from_suc, zero_not_contained, linked-pushed}
use Rattle.ror_history.proofs.RevisionLemmas.{numbers-linked}

-- ---- one number

pub zero_not_found : (s : ChainState Numbered) (number : ℕ) → IsSound s → (1 ≤ number → ⊥) → Contains (numbers_in (linked_items s)) number → ⊥
zero_not_found s zero h small k = zero_not_contained s.order (subst (λ ms. Contains ms zero) (numbers-linked s h) k)
zero_not_found s (suc n) h small k = small (omega arith)

pub not_found : (s : ChainState Numbered) (number node : ℕ) → IsSound s → 1 ≤ number → node ≡ number - 1 → (IsLinked s node → ⊥) → Contains (numbers_in (linked_items s)) number → ⊥
not_found s number node h some e not_linked k =
    let same : number ≡ suc node = omega arith in
    not_linked (Contains-from_suc s.order node (subst (λ m. Contains (map suc s.order) m) same (subst (λ ms. Contains ms number) (numbers-linked s h) k)))

pub past_not_linked : (s : ChainState Numbered) (node : ℕ) → IsSound s → length s.items ≤ node → IsLinked s node → ⊥
past_not_linked s node h past k = let l = All-contains (λ n. n < length s.items) s.order node h.chain.there k in omega arith

-- ---- numbers

-- the nodes of the numbers so far
pub record AreFound (s : ChainState Numbered) (nodes list : List ℕ) (at : ℕ) : Type 0 where
  pub found : map suc nodes ≡ take at list
  pub linked : All (IsLinked s) nodes
  pub once : IsDistinct nat_eq nodes

contained_is : (nodes : List ℕ) (node : ℕ) (answer : Bool) → IsAnyAnswer (λ y b. eqb y node ≡ b) nodes answer → (answer ≡ true → Contains nodes node) × (Contains nodes node → answer ≡ true)
contained_is nodes node answer cases = Decides-contains nodes node answer (contains_decides eqb Decides-eqb nodes node answer cases)

pub found_twice : (those nodes seen list : List ℕ) (at node : ℕ) (answer : Bool) → map suc nodes ≡ take at list → at < length list → get_or list at 0 ≡ suc node → seen ≡ nodes → IsAnyAnswer (λ y b. eqb y node ≡ b) seen answer → answer ≡ true → AreEachOnce those list → ⊥
found_twice those nodes seen list at node answer found within number same cases yes_ h =
    let k : Contains nodes node = subst (λ ns. Contains ns node) same ((contained_is seen node answer cases).0 yes_) in
    let rest : drop at list ≡ suc node ∷ drop (at + 1) list = drop_more list at 0 within ∙ ap (λ m. m ∷ drop (at + 1) list) number in
    let cut : list ≡ map suc nodes ++ suc node ∷ drop (at + 1) list = sym (take-append-drop at list) ∙ ap (λ xs. xs ++ drop at list) (sym found) ∙ ap (λ xs. map suc nodes ++ xs) rest in
    let apart = Apart-cut (map suc nodes) (suc node) (drop (at + 1) list) (subst Apart cut (Apart-from_distinct list h.once)) in
    absent_not_contained (map suc nodes) (suc node) apart.not_before (Contains-suc nodes node k)

pub found_more : (s : ChainState Numbered) (nodes seen grown list : List ℕ) (at node : ℕ) (answer : Bool) → AreFound s nodes list at → at < length list → get_or list at 0 ≡ suc node → IsLinked s node → seen ≡ nodes → IsAnyAnswer (λ y b. eqb y node ≡ b) seen answer → answer ≡ false → grown ≡ nodes ++ node ∷ [] → AreFound s grown list (at + 1)
found_more s nodes seen grown list at node answer h within number linked same cases no_ e =
    let not_seen : Contains nodes node → ⊥ = λ k. both_ways answer no_ ((contained_is seen node answer cases).1 (subst (λ ns. Contains ns node) (sym same) k)) in
    let whole = append-nil nodes in
    let apart : Apart (nodes ++ node ∷ []) = Apart-insert nodes node [] (subst Apart (sym whole) (Apart-from_distinct nodes h.once)) (subst (Absent node) (sym whole) (Absent-from_not nodes node not_seen)) in
    record {
      found = ap (map suc) e ∙ map-append suc nodes (node ∷ []) ∙ ap (λ xs. xs ++ suc node ∷ []) h.found ∙ ap (λ m. take at list ++ m ∷ []) (sym number) ∙ sym (take_more list at 0 within);
      linked = subst (All (IsLinked s)) (sym e) (All-push (IsLinked s) nodes node h.linked linked);
      once = subst (IsDistinct nat_eq) (sym e) (distinct_from_Apart (nodes ++ node ∷ []) apart);
    }

pub found_none : (s : ChainState Numbered) (nodes list : List ℕ) → nodes ≡ [] → AreFound s nodes list 0
found_none s nodes list e = record {
  found = ap (map suc) e;
  linked = subst (All (IsLinked s)) (sym e) (All-nil (IsLinked s));
  once = subst (IsDistinct nat_eq) (sym e) (distinct_from_Apart [] tt);
}

pub found_all : (s : ChainState Numbered) (nodes list : List ℕ) (at : ℕ) → AreFound s nodes list at → length list ≤ at → map suc nodes ≡ list
found_all s nodes list at h past = h.found ∙ take_all at list past

-- ---- an opening list

-- the chain of the statements so far
pub record AreOpened (s : ChainState Numbered) (opening : List Statement) (number at : ℕ) : Type 0 where
  pub chain : IsChain s
  pub items : s.items ++ with_numbers_from number (drop at opening) ≡ with_numbers_from 1 opening
  pub linked : linked_items s ≡ s.items
  pub counted : number ≡ 1 + at

pub opened_more : (s t : ChainState Numbered) (opening : List Statement) (number at : ℕ) (d : Statement) → AreOpened s opening number at → at < length opening → t ≡ pushed s (record { number = number; statement = get_or opening at d }) → AreOpened t opening (number + 1) (at + 1)
opened_more s t opening number at d h within is =
    let x : Numbered = record { number = number; statement = get_or opening at d } in
    let rest : with_numbers_from number (drop at opening) ≡ x ∷ with_numbers_from (suc number) (drop (at + 1) opening) = ap (with_numbers_from number) (drop_more opening at d within) in
    let next : suc number ≡ number + 1 = omega arith in
    let items : (s.items ++ x ∷ []) ++ with_numbers_from (number + 1) (drop (at + 1) opening) ≡ with_numbers_from 1 opening =
    append_assoc s.items (x ∷ []) (with_numbers_from (number + 1) (drop (at + 1) opening)) ∙ ap (λ n. s.items ++ x ∷ with_numbers_from n (drop (at + 1) opening)) (sym next) ∙ ap (λ xs. s.items ++ xs) (sym rest) ∙ h.items in
    let p : AreOpened (pushed s x) opening (number + 1) (at + 1) = record {
      chain = IsChain-pushed s x h.chain;
      items = items;
      linked = linked-pushed s x h.chain ∙ ap (λ xs. xs ++ x ∷ []) h.linked;
      counted = let e = h.counted in omega arith;
    } in
    subst (λ (q : ChainState Numbered). AreOpened q opening (number + 1) (at + 1)) (sym is) p

pub opened_all : (s : ChainState Numbered) (opening : List Statement) (number at : ℕ) → AreOpened s opening number at → length opening ≤ at → IsOpened s (with_numbers_from 1 opening)
opened_all s opening number at h past =
    let none : with_numbers_from number (drop at opening) ≡ [] = ap (with_numbers_from number) (drop_all at opening past) in
    let items : s.items ≡ with_numbers_from 1 opening = sym (append-nil s.items) ∙ ap (λ xs. s.items ++ xs) (sym none) ∙ h.items in
    record { chain = h.chain; items = items; linked = h.linked ∙ items }
