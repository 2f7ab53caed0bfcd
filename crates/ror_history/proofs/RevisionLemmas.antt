-- A history: what its fields stand for, and how each revision changes them.
use Rattle.std.proofs.Common.{◌≡◌, inl, inr, ℕ, ◌+◌, ◌-◌, ◌<◌, ◌≤◌, ◌==◌, zero, suc, not, nat_eq, false, ne_eqb, Some, Result, Ok, Err, is_err, OnOk, if◌then◌else◌, List, [], ◌∷◌, ◌++◌, map, reverse, length, get_or, set, refl, ap, sym, subst, ◌∙◌, arith, set-set, get_or-set_same}
use Rattle.std.specs.List.{All, Contains, IsDistinct, slice_get}
use Rattle.std.specs.Set.{is_member}
use Rattle.std.specs.List.Sorted.{IsStrictlyIncreasing}
use Rattle.std.proofs.lemmas.Bool.{cases_Bool, eqb-false}
use Rattle.std.proofs.lemmas.List.{map-append, length-map, length-append, reverse-append, set-get_or, length_push, get_or_push}
use Rattle.std.proofs.lemmas.List.Elements.{All-contains, All-head, All-tail, All-nil, All-cons}
use Rattle.std.proofs.lemmas.Option.{get_or_from_slice_get, slice_get_within}
use Rattle.ror_statement.specs.declared.row_number.TheConstants.{MOST_STATEMENTS, MOST_ROWS}
use Rattle.ror_statement.specs.declared.statement.Statement.{Statement}
use Rattle.ror_statement.specs.declared.statement.Numbered.{Numbered}
use Rattle.ror_statement.specs.RowNumbers.{row_count}
use Rattle.ror_chain.specs.Chain.{ChainState, IsLinked, IsChain, linked_items, pushed, unlinked, with_item, all_unlinked, CanUnlinkAll}
use Rattle.ror_chain.proofs.OrderLemmas.{Absent, Apart, Apart-from_distinct, distinct_from_Apart, Contains-cut_cases}
use Rattle.ror_chain.proofs.ChainLemmas.{same_state, linked_cut, IsChain-pushed, IsChain-unlinked, IsChain-with_item, restores_one, restores_all}
use Rattle.ror_history.specs.declared.inverse.Inverse.{Inverse}
use Rattle.ror_history.specs.declared.inverse.Inverse.TheVariants.{Pop, Relink, RelinkAll, Set}
use Rattle.ror_history.specs.History.{Revision, addition, withdrawal, replacement, Revisions, HistoryView, revised, with_numbers_from, added_numbers, standing, statements_of, next_number, with_revision}
use Rattle.ror_statement.specs.Statements.{numbers_in}
use Rattle.ror_history.specs.Faults.{Stands, AreEachOnce, CanBeWithdrawn}
use Rattle.ror_history.specs.Inverses.{taken_back, CanTakeBack, statement_at, revision_of, revisions_of, IsSound, IsHeld, IsOpened}
use Rattle.ror_history.specs.declared.history.History.TheInside.{Inside}
use Rattle.ror_history.specs.Contents.{contents, room, IsWhole}
use Rattle.ror_history.proofs.HistoryLemmas.{statement_of, with_numbers_from-length, with_numbers_from-statements, with_numbers_from-append}
use Rattle.ror_history.proofs.ItemLemmas.{nowhere, numbered_each, linked-is, numbers-is, Contains-suc, linked-pushed, linked-unlinked, linked-with_item}
use Rattle.ror_history.proofs.RowLemmas.{row_count-filter, length-filter_le}
use Rattle.ror_history.proofs.TurnLemmas.{standing-more, numbers_rise}
use Rattle.ror_history.proofs.UndoLemmas.{without_newest-pushed, EndsWithNewest-pushed, IsHeld-sound, standing-is, next_number-is, nodes-count, in_turn}

-- a chain and its inverses, the last first, are those of a history of these revisions
pub record Holds (s : ChainState Numbered) (xs : List Inverse) (r : Revisions) : Type 0 where
  pub held : IsHeld s xs
  pub is : revisions_of s xs ≡ r

pub holds : (h : Inside) (v : HistoryView) → IsWhole h → contents h ≡ v → Holds h.chain.state (reverse h.inverses.items) v.state
holds h v whole e = record { held = whole.held; is = ap (λ (u : HistoryView). u.state) e }

pub holds_room : (h : Inside) (v : HistoryView) → contents h ≡ v → v.spare ≡ room h
holds_room h v e = sym (ap (λ (u : HistoryView). u.spare) e)

pub sound : (s : ChainState Numbered) (xs : List Inverse) (r : Revisions) → Holds s xs r → IsSound s
sound s xs r h = IsHeld-sound s xs h.held

pub holds_standing : (s : ChainState Numbered) (xs : List Inverse) (r : Revisions) → Holds s xs r → standing r ≡ linked_items s
holds_standing s xs r h = ap standing (sym h.is) ∙ standing-is s xs h.held

pub holds_next : (s : ChainState Numbered) (xs : List Inverse) (r : Revisions) → Holds s xs r → next_number r ≡ 1 + length s.items
holds_next s xs r h = ap next_number (sym h.is) ∙ next_number-is s xs h.held

pub holds_nodes : (s : ChainState Numbered) (xs : List Inverse) (r : Revisions) → Holds s xs r → length s.items ≡ length r.opening + length (added_numbers r.surviving)
holds_nodes s xs r h = nodes-count s xs h.held ∙ ap (λ (q : Revisions). length q.opening + length (added_numbers q.surviving)) h.is

pub holds_rising : (s : ChainState Numbered) (xs : List Inverse) (r : Revisions) → Holds s xs r → IsStrictlyIncreasing (numbers_in (standing r))
holds_rising s xs r h = subst (λ (q : Revisions). IsStrictlyIncreasing (numbers_in (standing q))) h.is (numbers_rise (revisions_of s xs) (in_turn s xs h.held)).rising

-- ---- what is linked

pub length-linked : (s : ChainState Numbered) → IsChain s → length (linked_items s) ≡ length s.order
length-linked s h = ap length (linked-is s.items s.order h.there) ∙ length-map s.order (λ n. get_or s.items n nowhere)

pub holds_few : (s : ChainState Numbered) (xs : List Inverse) (r : Revisions) → Holds s xs r → length (standing r) ≤ MOST_STATEMENTS
holds_few s xs r h =
    let k = sound s xs r h in
    let e : length (standing r) ≡ length s.order = ap length (holds_standing s xs r h) ∙ length-linked s k.chain in
    let l = k.few in
    omega arith

pub holds_rows : (s : ChainState Numbered) (xs : List Inverse) (r : Revisions) → Holds s xs r → row_count (statements_of r) ≤ MOST_ROWS
holds_rows s xs r h = subst (λ list. row_count (map statement_of list) ≤ MOST_ROWS) (sym (holds_standing s xs r h)) (sound s xs r h).rows

pub numbers-linked : (s : ChainState Numbered) → IsSound s → numbers_in (linked_items s) ≡ map suc s.order
numbers-linked s h = ap numbers_in (linked-is s.items s.order h.chain.there) ∙ numbers-is s.items s.order (numbered_each s.items h.numbered) h.chain.there

pub holds_stands : (s : ChainState Numbered) (xs : List Inverse) (r : Revisions) (n number : ℕ) → Holds s xs r → IsLinked s n → number ≡ suc n → Stands r number
holds_stands s xs r n number h k e =
    let ns : numbers_in (standing r) ≡ map suc s.order = ap numbers_in (holds_standing s xs r h) ∙ numbers-linked s (sound s xs r h) in
    subst (λ m. Contains (numbers_in (standing r)) m) (sym e) (subst (λ ms. Contains ms (suc n)) (sym ns) (Contains-suc s.order n k))

pub holds_stands_not : (s : ChainState Numbered) (xs : List Inverse) (r : Revisions) (number : ℕ) → Holds s xs r → (Contains (numbers_in (linked_items s)) number → ⊥) → ¬ (Stands r number)
holds_stands_not s xs r number h not_linked k = not_linked (subst (λ list. Contains (numbers_in list) number) (holds_standing s xs r h) k)

-- the statements that stand are listed
pub record AreListed (s : ChainState Numbered) (r : Revisions) (list : List Statement) : Type 0 where
  pub told : list ≡ map statement_of (linked_items s)
  pub linked : length list ≡ length (linked_items s)
  pub count : length list ≡ length (standing r)
  pub said : statements_of r ≡ list

pub are_listed : (s : ChainState Numbered) (xs : List Inverse) (r : Revisions) (list : List Statement) → Holds s xs r → list ≡ map statement_of (linked_items s) → AreListed s r list
are_listed s xs r list h told =
    let stand = holds_standing s xs r h in
    let count : length list ≡ length (linked_items s) = ap length told ∙ length-map (linked_items s) statement_of in
    record {
      told = told;
      linked = count;
      count = count ∙ sym (ap length stand);
      said = ap (map statement_of) stand ∙ sym told;
    }

-- ---- each change keeps it sound

pub sound_pushed : (s : ChainState Numbered) (x : Numbered) → IsSound s → length (linked_items s) < MOST_STATEMENTS → row_count (map statement_of (linked_items s) ++ x.statement ∷ []) ≤ MOST_ROWS → x.number ≡ 1 + length s.items → IsSound (pushed s x)
sound_pushed s x h few rows number =
    let ss = map statement_of s.items in
    let grown : map statement_of (s.items ++ x ∷ []) ≡ ss ++ x.statement ∷ [] = map-append statement_of s.items (x ∷ []) in
    let place : 1 + length ss ≡ x.number = let e = length-map s.items statement_of in omega arith in
    let last : with_numbers_from (1 + length ss) (x.statement ∷ []) ≡ x ∷ [] = ap (λ n. record { number = n; statement = x.statement } ∷ []) place in
    let list : map statement_of (linked_items (pushed s x)) ≡ map statement_of (linked_items s) ++ x.statement ∷ [] = ap (map statement_of) (linked-pushed s x h.chain) ∙ map-append statement_of (linked_items s) (x ∷ []) in
    let count = length-linked s h.chain in
    let more = length-append s.order (length s.items ∷ []) in
    record {
      chain = IsChain-pushed s x h.chain;
      numbered = ap (λ (xs : List Numbered). xs ++ x ∷ []) h.numbered ∙ ap (λ xs. with_numbers_from 1 ss ++ xs) (sym last) ∙ sym (with_numbers_from-append 1 ss (x.statement ∷ [])) ∙ ap (with_numbers_from 1) (sym grown);
      few = omega arith;
      rows = subst (λ list. row_count list ≤ MOST_ROWS) (sym list) rows;
    }

pub sound_unlinked : (s : ChainState Numbered) (n : ℕ) → IsSound s → IsLinked s n → IsSound (unlinked s n)
sound_unlinked s n h k =
    let chain = IsChain-unlinked s n h.chain k in
    let left = linked-unlinked s n h.chain (numbered_each s.items h.numbered) chain in
    let fewer = length-filter_le (λ x. not (x == n)) s.order in
    let fewer_rows : row_count (map statement_of (revised (linked_items s) (withdrawal (suc n ∷ [])))) ≤ row_count (map statement_of (linked_items s)) = row_count-filter (λ (x : Numbered). not (is_member nat_eq (suc n ∷ []) x.number)) (linked_items s) in
    let was = h.rows in
    let few = h.few in
    record {
      chain = chain;
      numbered = h.numbered;
      few = omega arith;
      rows = subst (λ (list : List Numbered). row_count (map statement_of list) ≤ MOST_ROWS) (sym left) (omega arith);
    }

pub sound_all_unlinked : (s : ChainState Numbered) (ns : List ℕ) → IsSound s → CanUnlinkAll s ns → IsSound (all_unlinked s ns)
sound_all_unlinked s [] h can = h
sound_all_unlinked s (n ∷ ns) h can = sound_all_unlinked (unlinked s n) ns (sound_unlinked s n h can.0) can.1

-- the statements keep their numbers where one of them is changed
renumbered : (m : ℕ) (items : List Numbered) (n : ℕ) (y : Numbered) → items ≡ with_numbers_from m (map statement_of items) → y.number ≡ m + n → set items n y ≡ with_numbers_from m (map statement_of (set items n y))
renumbered m [] n y e number = refl
renumbered m (x ∷ items) zero y e number =
    let rest : items ≡ with_numbers_from (suc m) (map statement_of items) = cc in
    let place : y.number ≡ m = omega arith in
    ap (λ k. record { number = k; statement = y.statement } ∷ items) place ∙ ap (λ xs. record { number = m; statement = y.statement } ∷ xs) rest
renumbered m (x ∷ items) (suc n) y e number =
    let rest : items ≡ with_numbers_from (suc m) (map statement_of items) = cc in
    let here : x ≡ record { number = m; statement = x.statement } = cc in
    ap (λ z. z ∷ set items n y) here ∙ ap (λ xs. record { number = m; statement = x.statement } ∷ xs) (renumbered (suc m) items n y rest (omega arith))

pub sound_with_item : (s : ChainState Numbered) (n : ℕ) (y : Numbered) → IsSound s → IsLinked s n → y.number ≡ suc n → row_count (map statement_of (revised (linked_items s) (replacement (suc n) y.statement))) ≤ MOST_ROWS → IsSound (with_item s n y)
sound_with_item s n y h k number rows =
    let there : n < length s.items = All-contains (λ m. m < length s.items) s.order n h.chain.there k in
    let left = linked-with_item s n y h.chain (numbered_each s.items h.numbered) there number in
    record {
      chain = IsChain-with_item s n y h.chain;
      numbered = renumbered 1 s.items n y h.numbered (omega arith);
      few = h.few;
      rows = subst (λ (list : List Numbered). row_count (map statement_of list) ≤ MOST_ROWS) (sym left) rows;
    }

-- what stands where a node holds another statement
pub listed_set : (s t : ChainState Numbered) (n : ℕ) (y : Numbered) (list : List Statement) → IsSound s → IsLinked s n → y.number ≡ suc n → t ≡ with_item s n y → list ≡ map statement_of (linked_items t) → list ≡ map statement_of (revised (linked_items s) (replacement y.number y.statement))
listed_set s t n y list h k number is told =
    let there : n < length s.items = All-contains (λ m. m < length s.items) s.order n h.chain.there k in
    told ∙ ap (map statement_of) (ap (λ (q : ChainState Numbered). linked_items q) is ∙ linked-with_item s n y h.chain (numbered_each s.items h.numbered) there number ∙ ap (λ m. revised (linked_items s) (replacement m y.statement)) (sym number))

-- ---- no revision more

pub holds_still : (s t : ChainState Numbered) (inverses same : List Inverse) (r : Revisions) → Holds s (reverse inverses) r → t ≡ s → same ≡ inverses → Holds t (reverse same) r
holds_still s t inverses same r h is e = subst (λ (q : ChainState Numbered). Holds q (reverse same) r) (sym is) (subst (λ (xs : List Inverse). Holds s (reverse xs) r) (sym e) h)

-- ---- a revision more

more_revisions : (s t : ChainState Numbered) (inverses grown : List Inverse) (x : Inverse) (r : Revisions) (revision : Revision) → Holds s (reverse inverses) r → IsSound t → CanTakeBack t x → taken_back t x ≡ s → revision_of t x ≡ revision → grown ≡ inverses ++ x ∷ [] → Holds t (reverse grown) (with_revision r revision)
more_revisions s t inverses grown x r revision h k can back gives e =
    let turned : reverse grown ≡ x ∷ reverse inverses = ap reverse e ∙ reverse-append inverses (x ∷ []) in
    let held : IsHeld (taken_back t x) (reverse inverses) = subst (λ (q : ChainState Numbered). IsHeld q (reverse inverses)) (sym back) h.held in
    let was : revisions_of (taken_back t x) (reverse inverses) ≡ r = ap (λ (q : ChainState Numbered). revisions_of q (reverse inverses)) back ∙ h.is in
    record {
      held = subst (IsHeld t) (sym turned) (k, can, held);
      is = ap (revisions_of t) turned ∙ ap (λ q. with_revision q (revision_of t x)) was ∙ ap (with_revision r) gives;
    }

pub added : (s t : ChainState Numbered) (inverses grown : List Inverse) (x : Numbered) (r : Revisions) → Holds s (reverse inverses) r → length (linked_items s) < MOST_STATEMENTS → row_count (map statement_of (linked_items s) ++ x.statement ∷ []) ≤ MOST_ROWS → x.number ≡ next_number r → t ≡ pushed s x → grown ≡ inverses ++ Pop ∷ [] → Holds t (reverse grown) (with_revision r (addition x.number x.statement))
added s t inverses grown x r h few rows number is e =
    let p = pushed s x in
    let count : x.number ≡ 1 + length s.items = number ∙ holds_next s (reverse inverses) r h in
    let more : length (s.items ++ x ∷ []) ≡ x.number = length_push s.items x ∙ (omega arith) in
    let place : length (s.items ++ x ∷ []) - 1 ≡ length s.items = let m = length_push s.items x in omega arith in
    let newest : statement_at p (length (s.items ++ x ∷ []) - 1) ≡ x.statement = ap statement_of (get_or_push s.items x nowhere (length (s.items ++ x ∷ []) - 1) (sym place)) in
    let gives : revision_of p Pop ≡ addition x.number x.statement = ap (λ n. addition n (statement_at p (length (s.items ++ x ∷ []) - 1))) more ∙ ap (addition x.number) newest in
    subst (λ (q : ChainState Numbered). Holds q (reverse grown) (with_revision r (addition x.number x.statement))) (sym is) (more_revisions s p inverses grown Pop r (addition x.number x.statement) h (sound_pushed s x (sound s (reverse inverses) r h) few rows count) (EndsWithNewest-pushed s x) (without_newest-pushed s x) gives e)

pub withdrawn : (s t : ChainState Numbered) (inverses grown : List Inverse) (n number : ℕ) (r : Revisions) → Holds s (reverse inverses) r → IsLinked s n → number ≡ suc n → t ≡ unlinked s n → grown ≡ inverses ++ Relink n ∷ [] → Holds t (reverse grown) (with_revision r (withdrawal (number ∷ [])))
withdrawn s t inverses grown n number r h k numbered is e =
    let p = unlinked s n in
    let whole = sound s (reverse inverses) r h in
    let back = restores_one s n whole.chain k in
    let gives : revision_of p (Relink n) ≡ withdrawal (number ∷ []) = ap (λ m. withdrawal (m ∷ [])) (sym numbered) in
    subst (λ (q : ChainState Numbered). Holds q (reverse grown) (with_revision r (withdrawal (number ∷ [])))) (sym is) (more_revisions s p inverses grown (Relink n) r (withdrawal (number ∷ [])) h (sound_unlinked s n whole k) back.0 back.1 gives e)

-- nodes that are linked and differ can be unlinked one after another
pub can_unlink_all : (s : ChainState Numbered) (ns : List ℕ) → IsChain s → All (IsLinked s) ns → Apart ns → CanUnlinkAll s ns
can_unlink_all s [] h linked apart = tt
can_unlink_all s (n ∷ ns) h linked apart =
    let here : IsLinked s n = All-head (IsLinked s) n ns linked in
    let c = linked_cut s n h here in
    let rest : All (IsLinked (unlinked s n)) ns = still ns (All-tail (IsLinked s) n ns linked) apart.0 in
    (here, can_unlink_all (unlinked s n) ns (IsChain-unlinked s n h here) rest apart.1)
  where
    one : IsLinked s n → (m : ℕ) → (m == n) ≡ false → IsLinked s m → IsLinked (unlinked s n) m
    one here m other k =
        let c = linked_cut s n h here in
        subst (λ o. Contains o m) (sym c.left) (elim (Contains-cut_cases c.front n c.back m (subst (λ o. Contains o m) c.cut k)) [
          | inl same ↦ absurd (eqb-false m n other (sym same))
          | inr rest ↦ rest
        ])

    still : (ms : List ℕ) → All (IsLinked s) ms → Absent n ms → All (IsLinked (unlinked s n)) ms
    still [] k other = All-nil (IsLinked (unlinked s n))
    still (m ∷ ms) k other =
        let here : IsLinked s n = All-head (IsLinked s) n ns linked in
        All-cons (IsLinked (unlinked s n)) m ms (one here m other.0 (All-head (IsLinked s) m ms k)) (still ms (All-tail (IsLinked s) m ms k) other.1)

pub withdrawn_all : (s t : ChainState Numbered) (inverses grown : List Inverse) (ns ms : List ℕ) (r : Revisions) → Holds s (reverse inverses) r → All (IsLinked s) ns → IsDistinct nat_eq ns → map suc ns ≡ ms → t ≡ all_unlinked s ns → grown ≡ inverses ++ RelinkAll ns ∷ [] → Holds t (reverse grown) (with_revision r (withdrawal ms))
withdrawn_all s t inverses grown ns ms r h linked once numbered is e =
    let p = all_unlinked s ns in
    let whole = sound s (reverse inverses) r h in
    let can = can_unlink_all s ns whole.chain linked (Apart-from_distinct ns once) in
    let back = restores_all s ns whole.chain can in
    let gives : revision_of p (RelinkAll ns) ≡ withdrawal ms = ap withdrawal numbered in
    subst (λ (q : ChainState Numbered). Holds q (reverse grown) (with_revision r (withdrawal ms))) (sym is) (more_revisions s p inverses grown (RelinkAll ns) r (withdrawal ms) h (sound_all_unlinked s ns whole can) back.0 back.1 gives e)

-- a node that gets its old item again
pub set_back : (s : ChainState Numbered) (n : ℕ) (old y : Numbered) → slice_get s.items n ≡ Some old → with_item (with_item s n y) n old ≡ s
set_back s n old y held =
    let own : get_or s.items n nowhere ≡ old = get_or_from_slice_get s.items n old nowhere held in
    same_state (with_item (with_item s n y) n old) s refl (set-set s.items n y old ∙ ap (set s.items n) (sym own) ∙ set-get_or s.items n nowhere) refl

pub replaced : (s t : ChainState Numbered) (inverses grown : List Inverse) (n : ℕ) (old y : Numbered) (r : Revisions) → Holds s (reverse inverses) r → IsLinked s n → y.number ≡ suc n → slice_get s.items n ≡ Some old → row_count (map statement_of (revised (linked_items s) (replacement y.number y.statement))) ≤ MOST_ROWS → t ≡ with_item s n y → grown ≡ inverses ++ Set n old ∷ [] → Holds t (reverse grown) (with_revision r (replacement y.number y.statement))
replaced s t inverses grown n old y r h k number held rows is e =
    let p = with_item s n y in
    let whole = sound s (reverse inverses) r h in
    let there : n < length s.items = slice_get_within s.items n old held in
    let back = set_back s n old y held in
    let newest : statement_at p n ≡ y.statement = ap statement_of (get_or-set_same s.items n y nowhere there) in
    let gives : revision_of p (Set n old) ≡ replacement y.number y.statement = ap (replacement (suc n)) newest ∙ ap (λ m. replacement m y.statement) (sym number) in
    let fits : row_count (map statement_of (revised (linked_items s) (replacement (suc n) y.statement))) ≤ MOST_ROWS = subst (λ m. row_count (map statement_of (revised (linked_items s) (replacement m y.statement))) ≤ MOST_ROWS) number rows in
    subst (λ (q : ChainState Numbered). Holds q (reverse grown) (with_revision r (replacement y.number y.statement))) (sym is) (more_revisions s p inverses grown (Set n old) r (replacement y.number y.statement) h (sound_with_item s n y whole k number fits) k back gives e)

-- ---- the beginning

pub opened_holds : (s : ChainState Numbered) (inverses : List Inverse) (opening : List Statement) → IsOpened s (with_numbers_from 1 opening) → length opening ≤ MOST_STATEMENTS → row_count opening ≤ MOST_ROWS → inverses ≡ [] → Holds s (reverse inverses) (record { opening = opening; surviving = [] })
opened_holds s inverses opening h few rows none =
    let statements : map statement_of s.items ≡ opening = ap (map statement_of) h.items ∙ with_numbers_from-statements 1 opening in
    let listed : map statement_of (linked_items s) ≡ opening = ap (map statement_of) h.linked ∙ with_numbers_from-statements 1 opening in
    let count : length s.order ≡ length opening = sym (length-linked s h.chain) ∙ ap length h.linked ∙ with_numbers_from-length 1 opening in
    let whole : IsSound s = record {
      chain = h.chain;
      numbered = h.items ∙ ap (with_numbers_from 1) (sym statements);
      few = omega arith;
      rows = subst (λ list. row_count list ≤ MOST_ROWS) (sym listed) rows;
    } in
    let first : IsHeld s [] = (whole, h.linked ∙ sym h.items) in
    record {
      held = subst (λ xs. IsHeld s (reverse xs)) (sym none) first;
      is = ap (λ xs. revisions_of s (reverse xs)) none ∙ ap (λ ss. record { opening = ss; surviving = [] }) statements;
    }

-- ---- which numbers may be withdrawn

pub each_once : (s : ChainState Numbered) (xs : List Inverse) (r : Revisions) (ns ms : List ℕ) → Holds s xs r → All (IsLinked s) ns → IsDistinct nat_eq ns → map suc ns ≡ ms → CanBeWithdrawn r ms
each_once s xs r ns ms h linked once numbered =
    subst (CanBeWithdrawn r) numbered (record { among = among ns linked; once = distinct_from_Apart (map suc ns) (apart ns (Apart-from_distinct ns once)) })
  where
    among : (ns : List ℕ) → All (IsLinked s) ns → All (Stands r) (map suc ns)
    among [] k = All-nil (Stands r)
    among (n ∷ ns) k = All-cons (Stands r) (suc n) (map suc ns) (holds_stands s xs r n (suc n) h (All-head (IsLinked s) n ns k) refl) (among ns (All-tail (IsLinked s) n ns k))

    absent : (n : ℕ) (ms : List ℕ) → Absent n ms → Absent (suc n) (map suc ms)
    absent n [] h = tt
    absent n (m ∷ ms) h = (ne_eqb (suc m) (suc n) (λ e. eqb-false m n h.0 cc), absent n ms h.1)

    apart : (ms : List ℕ) → Apart ms → Apart (map suc ms)
    apart [] h = tt
    apart (m ∷ ms) h = (absent m ms h.0, apart ms h.1)

pub one_once : (s : ChainState Numbered) (xs : List Inverse) (r : Revisions) (n number : ℕ) → Holds s xs r → IsLinked s n → number ≡ suc n → CanBeWithdrawn r (number ∷ [])
one_once s xs r n number h k e = each_once s xs r (n ∷ []) (number ∷ []) h (All-cons (IsLinked s) n [] k (All-nil (IsLinked s))) (distinct_from_Apart (n ∷ []) (tt, tt)) (ap (λ m. m ∷ []) (sym e))

pub not_one_once : (s : ChainState Numbered) (xs : List Inverse) (r : Revisions) (number : ℕ) → Holds s xs r → (Contains (numbers_in (linked_items s)) number → ⊥) → ¬ (CanBeWithdrawn r (number ∷ []))
not_one_once s xs r number h not_linked k = holds_stands_not s xs r number h not_linked (All-head (Stands r) number [] k.among)

pub not_withdrawn : (s : ChainState Numbered) (xs : List Inverse) (r : Revisions) (ns : List ℕ) → Holds s xs r → (AreEachOnce (numbers_in (linked_items s)) ns → ⊥) → ¬ (CanBeWithdrawn r ns)
not_withdrawn s xs r ns h not_linked k = not_linked (subst (λ list. AreEachOnce (numbers_in list) ns) (holds_standing s xs r h) k)

-- ---- which statement may be replaced

pub linked_there : (s : ChainState Numbered) (n : ℕ) → IsSound s → IsLinked s n → n < length s.items
linked_there s n h k = All-contains (λ m. m < length s.items) s.order n h.chain.there k

pub length-revised : (list : List Numbered) (number : ℕ) (t : Statement) → length (map statement_of (revised list (replacement number t))) ≡ length list
length-revised list number t =
    length-map (revised list (replacement number t)) statement_of ∙ length-map list (λ (x : Numbered). if x.number == number then record { number = number; statement = t } else x)

pub statements_revised : (list : List Numbered) (number : ℕ) (t : Statement) → map (λ x. if x.number == number then t else x.statement) list ≡ map statement_of (revised list (replacement number t))
statements_revised [] number t = refl
statements_revised (x ∷ list) number t = elim (cases_Bool (x.number == number)) [
  | inl yes_ ↦ rw yes_ (ap (λ ss. t ∷ ss) (statements_revised list number t))
  | inr no_ ↦ rw no_ (ap (λ ss. x.statement ∷ ss) (statements_revised list number t))
]

pub statements_replaced : (s : ChainState Numbered) (xs : List Inverse) (r : Revisions) (number : ℕ) (t : Statement) → Holds s xs r → statements_of (with_revision r (replacement number t)) ≡ map statement_of (revised (linked_items s) (replacement number t))
statements_replaced s xs r number t h =
    ap (map statement_of) (standing-more r.opening r.surviving (replacement number t) ∙ ap (λ list. revised list (replacement number t)) (holds_standing s xs r h))

-- what a result says where it is no error
pub at_ok : {A E : Type 0} (r : Result A E) (P : Type 0) → is_err r ≡ false → OnOk r P → P
at_ok (Ok x) P e h = h
at_ok (Err x) P e h = absurd cc
