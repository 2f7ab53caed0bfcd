-- The fields of a chain: what each call's writes make of them is whole, and is the chain that the call gives.
use Rattle.std.proofs.Common.{◌≡◌, inl, inr, ℕ, ◌+◌, ◌-◌, ◌<◌, ◌≤◌, Option, Some, None, List, [], ◌∷◌, ◌++◌, reverse, length, get_or, set, refl, ap, sym, subst, ◌∙◌, arith, append-nil, append_assoc, get_or-set_same, get_or-set_other, length-set}
use Rattle.std.specs.List.{Contains}
use Rattle.std.proofs.lemmas.Bool.{cases_eq}
use Rattle.std.proofs.lemmas.List.{get_or_push, get_or_append_left, length_push, reverse-append}
use Rattle.std.proofs.lemmas.List.Elements.{All-contains, Contains-append_left, Contains-append_right, Contains-push_cases}
use Rattle.ror_chain.specs.Chain.{Neighbours, ChainState, first_of, last_of, neighbours_in, IsLinked, neighbours_of, IsChain, pushed, unlinked, relinked, CanRelink, EndsWithNewest}
use Rattle.ror_chain.specs.Cells.{Cells, state_of, way, Leads, IsWhole, IsLinkedNode, redirected, end_by, with_next, with_previous}
use Rattle.ror_chain.proofs.OrderLemmas.{Apart, Apart-from_distinct, Apart-cut, Apart-reverse, last_of-push, reverse-cut, reverse-cons, first_of-reverse, Contains-cut, absent_not_contained, length-le_below, EndView, is_empty, ends_with, end_view}
use Rattle.ror_chain.proofs.LinkLemmas.{Leads-parts, Leads-to, Leads-first, Leads-end, Leads-unlinked, Leads-relinked, way-is}
use Rattle.ror_chain.proofs.ChainLemmas.{same_state, LinkedCut, linked_cut, relink_cut, IsChain-unlinked, IsChain-relinked, IsChain-pushed, IsChain-unpushed}

-- ---- links and orders

-- fields whose links lead both ways through the order of a chain are whole, and give that chain
pub record Shows {T : Type 0} (c : Cells T) (s : ChainState T) : Type 0 where
  pub whole : IsWhole c
  pub is : state_of c ≡ s

shows : {T : Type 0} (c : Cells T) (s : ChainState T) → IsChain s → c.items ≡ s.items → c.kept ≡ s.kept → Leads c.nexts c.first s.order None → Leads c.previouses c.last (reverse s.order) None → length c.nexts ≡ length c.items → length c.previouses ≡ length c.items → Shows c s
shows {T} c s h items kept forwards backwards nexts previouses =
    let few : length s.order ≤ length c.items = let l = length-le_below s.order (length s.items) h.distinct h.there in let e = ap length items in omega arith in
    let order : way c.nexts (length c.items) c.first ≡ s.order = way-is c.nexts (length c.items) c.first s.order few forwards in
    let is : state_of c ≡ s = same_state (state_of c) s order items kept in
    record {
      whole = record {
        chain = subst (λ (t : ChainState T). IsChain t) (sym is) h;
        forwards = subst (λ o. Leads c.nexts c.first o None) (sym order) forwards;
        backwards = subst (λ o. Leads c.previouses c.last (reverse o) None) (sym order) backwards;
        nexts_there = nexts;
        previouses_there = previouses;
      };
      is = is;
    }

length-redirected : (links : List (Option ℕ)) (node to : Option ℕ) → length (redirected links node to) ≡ length links
length-redirected links None to = refl
length-redirected links (Some n) to = length-set links n to

get_or-redirected : (links : List (Option ℕ)) (node to : Option ℕ) (m : ℕ) → ((n : ℕ) → node ≡ Some n → n ≡ m → ⊥) → get_or (redirected links node to) m None ≡ get_or links m None
get_or-redirected links None to m other = refl
get_or-redirected links (Some n) to m other = get_or-set_other links n m to None (λ e. other n refl (sym e))

-- the last node of a list is one of it
last_contained : (xs : List ℕ) (n : ℕ) → last_of xs ≡ Some n → Contains xs n
last_contained xs n e = by_end xs (end_view xs) e
  where
    by_end : (xs : List ℕ) → EndView xs → last_of xs ≡ Some n → Contains xs n
    by_end _ is_empty e = absurd cc
    by_end _ (ends_with front k) e = let same : k ≡ n = let last = last_of-push front k in cc in subst (Contains (front ++ k ∷ [])) same (Contains-cut front k [])

contained_turned : (xs : List ℕ) (n : ℕ) → Contains (reverse xs) n → Contains xs n
contained_turned [] n k = k
contained_turned (x ∷ xs) n k = elim (Contains-push_cases (reverse xs) x n (subst (λ o. Contains o n) (reverse-cons x xs) k)) [
  | inl rest ↦ Contains-append_right (x ∷ []) xs n (contained_turned xs n rest)
  | inr same ↦ subst (Contains (x ∷ xs)) same (Contains-cut [] x xs)
]

-- ---- beside a linked node

pub record Beside {T : Type 0} (c : Cells T) (n : ℕ) : Type 0 where
  pub cut : LinkedCut (state_of c) n
  pub previous : get_or c.previouses n None ≡ last_of cut.front
  pub next : get_or c.nexts n None ≡ first_of cut.back

pub beside : {T : Type 0} (c : Cells T) (n : ℕ) → IsWhole c → IsLinked (state_of c) n → Beside c n
beside c n h k =
    let cut = linked_cut (state_of c) n h.chain k in
    let forwards : Leads c.nexts c.first (cut.front ++ n ∷ cut.back) None = subst (λ o. Leads c.nexts c.first o None) cut.cut h.forwards in
    let turned : reverse (state_of c).order ≡ reverse cut.back ++ n ∷ reverse cut.front = ap reverse cut.cut ∙ reverse-cut cut.front n cut.back in
    let backwards : Leads c.previouses c.last (reverse cut.back ++ n ∷ reverse cut.front) None = subst (λ o. Leads c.previouses c.last o None) turned h.backwards in
    let ahead = Leads-parts c.nexts c.first cut.front (n ∷ cut.back) None forwards in
    let behind = Leads-parts c.previouses c.last (reverse cut.back) (n ∷ reverse cut.front) None backwards in
    record {
      cut = cut;
      previous = Leads-first c.previouses (get_or c.previouses n None) (reverse cut.front) behind.2.1;
      next = Leads-first c.nexts (get_or c.nexts n None) cut.back ahead.2.1;
    }

linked_node : {T : Type 0} (c : Cells T) (n : ℕ) → IsChain (state_of c) → Contains (state_of c).order n → (n < length c.items) × (get_or c.kept n None ≡ None)
linked_node c n h k =
    let there : n < length c.items = All-contains (λ m. m < length c.items) (state_of c).order n h.there k in
    (there, (h.linked n there).0 k)

first_contained : (xs : List ℕ) (n : ℕ) → first_of xs ≡ Some n → Contains xs n
first_contained [] n e = absurd cc
first_contained (x ∷ xs) n e = let same : x ≡ n = cc in subst (Contains (x ∷ xs)) same (Contains-cut [] x xs)

-- the last of the front and the first of the back are nodes of the order
last_in : (order front back : List ℕ) (n : ℕ) → order ≡ front ++ back → last_of front ≡ Some n → Contains order n
last_in order front back n cut e = subst (λ o. Contains o n) (sym cut) (Contains-append_left front back n (last_contained front n e))

first_in : (order front back : List ℕ) (n : ℕ) → order ≡ front ++ back → first_of back ≡ Some n → Contains order n
first_in order front back n cut e = subst (λ o. Contains o n) (sym cut) (Contains-append_right front back n (first_contained back n e))

pub previous_linked : {T : Type 0} (c : Cells T) (n : ℕ) → IsWhole c → IsLinked (state_of c) n → IsLinkedNode c (get_or c.previouses n None)
previous_linked c n h k m e =
    let b = beside c n h k in
    linked_node c m h.chain (last_in (state_of c).order b.cut.front (n ∷ b.cut.back) m b.cut.cut (sym b.previous ∙ e))

pub next_linked : {T : Type 0} (c : Cells T) (n : ℕ) → IsWhole c → IsLinked (state_of c) n → IsLinkedNode c (get_or c.nexts n None)
next_linked c n h k m e =
    let b = beside c n h k in
    let cut : (state_of c).order ≡ (b.cut.front ++ n ∷ []) ++ b.cut.back = b.cut.cut ∙ sym (append_assoc b.cut.front (n ∷ []) b.cut.back) in
    linked_node c m h.chain (first_in (state_of c).order (b.cut.front ++ n ∷ []) b.cut.back m cut (sym b.next ∙ e))

reverse_joined : (front back : List ℕ) → reverse (front ++ back) ≡ reverse back ++ reverse front
reverse_joined front back = reverse-append front back

-- ---- unlinking

abbrev around : {T : Type 0} → Cells T → ℕ → Cells T
around c n = with_previous (with_next c (get_or c.previouses n None) (get_or c.nexts n None)) (get_or c.nexts n None) (get_or c.previouses n None)

-- the node's neighbours are led to each other, and it is marked as unlinked
abbrev pub taken_out : {T : Type 0} → Cells T → ℕ → Cells T
taken_out c n = record (around c n) { kept = set c.kept n (Some (record { previous = get_or (around c n).previouses n None; next = get_or (around c n).nexts n None })) }

pub taken_out-shows : {T : Type 0} (c : Cells T) (n : ℕ) → IsWhole c → IsLinked (state_of c) n → Shows (taken_out c n) (unlinked (state_of c) n)
taken_out-shows c n h k =
    let b = beside c n h k in
    let front = b.cut.front in
    let back = b.cut.back in
    let p = get_or c.previouses n None in
    let q = get_or c.nexts n None in
    let cut = Apart-cut front n back b.cut.apart in
    let turned : reverse (front ++ n ∷ back) ≡ reverse back ++ n ∷ reverse front = reverse-cut front n back in
    let apart_turned : Apart (reverse back ++ n ∷ reverse front) = subst Apart turned (Apart-reverse (front ++ n ∷ back) b.cut.apart) in
    let previous_there : (m : ℕ) → last_of front ≡ Some m → m < length c.nexts = λ m e. let l = (previous_linked c n h k m (b.previous ∙ e)).0 in let s = h.nexts_there in omega arith in
    let next_there : (m : ℕ) → last_of (reverse back) ≡ Some m → m < length c.previouses = λ m e. let l = (next_linked c n h k m (b.next ∙ sym (first_of-reverse back) ∙ e)).0 in let s = h.previouses_there in omega arith in
    let forwards : Leads (redirected c.nexts (last_of front) q) (end_by c.first (last_of front) q) (front ++ back) None =
    Leads-unlinked c.nexts c.first front n back b.cut.apart previous_there (subst (λ o. Leads c.nexts c.first o None) b.cut.cut h.forwards) in
    let backwards : Leads (redirected c.previouses (last_of (reverse back)) p) (end_by c.last (last_of (reverse back)) p) (reverse back ++ reverse front) None =
    Leads-unlinked c.previouses c.last (reverse back) n (reverse front) apart_turned next_there (subst (λ o. Leads c.previouses c.last o None) (ap reverse b.cut.cut ∙ turned) h.backwards) in
    let q_is : last_of (reverse back) ≡ q = first_of-reverse back ∙ sym b.next in
    let ahead : Leads (redirected c.nexts p q) (end_by c.first p q) (unlinked (state_of c) n).order None =
    subst (λ o. Leads (redirected c.nexts p q) (end_by c.first p q) o None) (sym b.cut.left) (subst (λ m. Leads (redirected c.nexts m q) (end_by c.first m q) (front ++ back) None) (sym b.previous) forwards) in
    let behind : Leads (redirected c.previouses q p) (end_by c.last q p) (reverse (unlinked (state_of c) n).order) None =
    subst (λ o. Leads (redirected c.previouses q p) (end_by c.last q p) o None) (sym (ap reverse b.cut.left ∙ reverse_joined front back)) (subst (λ m. Leads (redirected c.previouses m p) (end_by c.last m p) (reverse back ++ reverse front) None) q_is backwards) in
    let not_before : (m : ℕ) → p ≡ Some m → m ≡ n → ⊥ = λ m e same. absent_not_contained front n cut.not_before (subst (Contains front) same (last_contained front m (sym b.previous ∙ e))) in
    let not_after : (m : ℕ) → q ≡ Some m → m ≡ n → ⊥ = λ m e same. absent_not_contained back n cut.not_after (subst (Contains back) same (first_contained back m (sym b.next ∙ e))) in
    let own_previous : get_or (redirected c.previouses q p) n None ≡ p = get_or-redirected c.previouses q p n not_after in
    let own_next : get_or (redirected c.nexts p q) n None ≡ q = get_or-redirected c.nexts p q n not_before in
    let own : record { previous = get_or (redirected c.previouses q p) n None; next = get_or (redirected c.nexts p q) n None } ≡ neighbours_in (state_of c).order n =
    let e = b.previous in let f = b.next in let g = b.cut.beside in cc in
    shows (taken_out c n) (unlinked (state_of c) n) (IsChain-unlinked (state_of c) n h.chain k) refl (ap (λ (x : Neighbours). set c.kept n (Some x)) own) ahead behind (length-redirected c.nexts p q ∙ h.nexts_there) (length-redirected c.previouses q p ∙ h.previouses_there)

-- ---- relinking

-- the node is marked as linked, and its neighbours are led to it
abbrev pub marked : {T : Type 0} → Cells T → ℕ → Cells T
marked c n = record c { kept = set c.kept n None }

abbrev pub put_back : {T : Type 0} → Cells T → ℕ → Cells T
put_back c n = with_previous (with_next (marked c n) (get_or c.previouses n None) (Some n)) (get_or c.nexts n None) (Some n)

marked_linked : {T : Type 0} (c : Cells T) (n m : ℕ) → IsWhole c → n < length c.items → Contains (state_of c).order m → (m < length (marked c n).items) × (get_or (marked c n).kept m None ≡ None)
marked_linked c n m h there k =
    let linked = linked_node c m h.chain k in
    let none : Option Neighbours = None in (
      linked.0,
      elim (cases_eq n m) [
        | inl same ↦ subst (λ i. get_or (set c.kept n none) i None ≡ none) same (get_or-set_same c.kept n none None (let s = h.chain.sizes in omega arith))
        | inr other ↦ get_or-set_other c.kept n m none None (λ e. other (sym e)) ∙ linked.1
      ],
    )

pub marked_previous : {T : Type 0} (c : Cells T) (n : ℕ) → IsWhole c → CanRelink (state_of c) n → get_or c.previouses n None ≡ (neighbours_of (state_of c) n).previous → IsLinkedNode (marked c n) (get_or c.previouses n None)
marked_previous c n h can is m e =
    let r = relink_cut (state_of c) n h.chain can in
    marked_linked c n m h r.there (last_in (state_of c).order r.front r.back m r.cut (r.previous ∙ sym is ∙ e))

pub marked_next : {T : Type 0} (c : Cells T) (n : ℕ) → IsWhole c → CanRelink (state_of c) n → get_or c.nexts n None ≡ (neighbours_of (state_of c) n).next → IsLinkedNode (marked c n) (get_or c.nexts n None)
marked_next c n h can is m e =
    let r = relink_cut (state_of c) n h.chain can in
    marked_linked c n m h r.there (first_in (state_of c).order r.front r.back m r.cut (r.next ∙ sym is ∙ e))

pub put_back-shows : {T : Type 0} (c : Cells T) (n : ℕ) → IsWhole c → CanRelink (state_of c) n → get_or c.previouses n None ≡ (neighbours_of (state_of c) n).previous → get_or c.nexts n None ≡ (neighbours_of (state_of c) n).next → Shows (put_back c n) (relinked (state_of c) n)
put_back-shows c n h can previous next =
    let r = relink_cut (state_of c) n h.chain can in
    let front = r.front in
    let back = r.back in
    let p = get_or c.previouses n None in
    let q = get_or c.nexts n None in
    let p_is : last_of front ≡ p = r.previous ∙ sym previous in
    let q_is : first_of back ≡ q = r.next ∙ sym next in
    let turned : reverse (front ++ n ∷ back) ≡ reverse back ++ n ∷ reverse front = reverse-cut front n back in
    let apart_turned : Apart (reverse back ++ n ∷ reverse front) = subst Apart turned (Apart-reverse (front ++ n ∷ back) r.apart) in
    let previous_there : (m : ℕ) → last_of front ≡ Some m → m < length c.nexts = λ m e. let l = (marked_previous c n h can previous m (sym p_is ∙ e)).0 in let s = h.nexts_there in omega arith in
    let next_there : (m : ℕ) → last_of (reverse back) ≡ Some m → m < length c.previouses = λ m e. let l = (marked_next c n h can next m (sym q_is ∙ sym (first_of-reverse back) ∙ e)).0 in let s = h.previouses_there in omega arith in
    let forwards : Leads (redirected c.nexts (last_of front) (Some n)) (end_by c.first (last_of front) (Some n)) (front ++ n ∷ back) None =
    Leads-relinked c.nexts c.first front n back r.apart previous_there (sym q_is) (subst (λ o. Leads c.nexts c.first o None) r.cut h.forwards) in
    let backwards : Leads (redirected c.previouses (last_of (reverse back)) (Some n)) (end_by c.last (last_of (reverse back)) (Some n)) (reverse back ++ n ∷ reverse front) None =
    Leads-relinked c.previouses c.last (reverse back) n (reverse front) apart_turned next_there (sym p_is) (subst (λ o. Leads c.previouses c.last o None) (ap reverse r.cut ∙ reverse_joined front back) h.backwards) in
    let ahead : Leads (redirected c.nexts p (Some n)) (end_by c.first p (Some n)) (relinked (state_of c) n).order None =
    subst (λ o. Leads (redirected c.nexts p (Some n)) (end_by c.first p (Some n)) o None) (sym r.grown) (subst (λ m. Leads (redirected c.nexts m (Some n)) (end_by c.first m (Some n)) (front ++ n ∷ back) None) p_is forwards) in
    let behind : Leads (redirected c.previouses q (Some n)) (end_by c.last q (Some n)) (reverse (relinked (state_of c) n).order) None =
    subst (λ o. Leads (redirected c.previouses q (Some n)) (end_by c.last q (Some n)) o None) (sym (ap reverse r.grown ∙ turned)) (subst (λ m. Leads (redirected c.previouses m (Some n)) (end_by c.last m (Some n)) (reverse back ++ n ∷ reverse front) None) (first_of-reverse back ∙ q_is) backwards) in
    shows (put_back c n) (relinked (state_of c) n) (IsChain-relinked (state_of c) n h.chain can) refl refl ahead behind (length-redirected c.nexts p (Some n) ∙ h.nexts_there) (length-redirected c.previouses q (Some n) ∙ h.previouses_there)

-- ---- pushing and popping

Leads-extended : (links : List (Option ℕ)) (other from : Option ℕ) (xs : List ℕ) (to : Option ℕ) → ((m : ℕ) → Contains xs m → m < length links) → Leads links from xs to → Leads (links ++ other ∷ []) from xs to
Leads-extended links other from [] to there h = h
Leads-extended links other from (x ∷ xs) to there h =
    let same : get_or (links ++ other ∷ []) x None ≡ get_or links x None = get_or_append_left links (other ∷ []) None x (there x (Contains-cut [] x xs)) in
    (h.0, subst (λ m. Leads (links ++ other ∷ []) m xs to) (sym same) (Leads-extended links other (get_or links x None) xs to (λ m k. there m (Contains-append_right (x ∷ []) xs m k)) h.1))

Leads-shrunk : (links : List (Option ℕ)) (other from : Option ℕ) (xs : List ℕ) (to : Option ℕ) → ((m : ℕ) → Contains xs m → m < length links) → Leads (links ++ other ∷ []) from xs to → Leads links from xs to
Leads-shrunk links other from [] to there h = h
Leads-shrunk links other from (x ∷ xs) to there h =
    let same : get_or (links ++ other ∷ []) x None ≡ get_or links x None = get_or_append_left links (other ∷ []) None x (there x (Contains-cut [] x xs)) in
    (h.0, Leads-shrunk links other (get_or links x None) xs to (λ m k. there m (Contains-append_right (x ∷ []) xs m k)) (subst (λ m. Leads (links ++ other ∷ []) m xs to) same h.1))

-- one node more, with these links, and what it keeps
abbrev pub grown : {T : Type 0} → Cells T → Option ℕ → Option ℕ → Option Neighbours → T → Cells T
grown c next previous kept x = record c { nexts = c.nexts ++ next ∷ []; previouses = c.previouses ++ previous ∷ []; kept = c.kept ++ kept ∷ []; items = c.items ++ x ∷ [] }

last_is : {T : Type 0} (c : Cells T) → IsWhole c → c.last ≡ last_of (state_of c).order
last_is c h = Leads-first c.previouses c.last (reverse (state_of c).order) h.backwards

pub grown_last : {T : Type 0} (c : Cells T) (next previous : Option ℕ) (x : T) → IsWhole c → IsLinkedNode (grown c next previous None x) c.last
grown_last c next previous x h m e =
    let node = linked_node c m h.chain (last_contained (state_of c).order m (sym (last_is c h) ∙ e)) in
    let more = length_push c.items x in
    let none : Option Neighbours = None in
    (omega (arith, node.0), get_or_append_left c.kept (none ∷ []) None m (let s = h.chain.sizes in omega (arith, node.0)) ∙ node.1)

-- a new node at the end
abbrev pub appended : {T : Type 0} → Cells T → T → Cells T
appended c x = record (with_next (grown c None c.last None x) c.last (Some (length c.items))) { last = Some (length c.items) }

pub appended-shows : {T : Type 0} (c : Cells T) (x : T) → IsWhole c → Shows (appended c x) (pushed (state_of c) x)
appended-shows c x h =
    let s = state_of c in
    let n = length c.items in
    let none : Option ℕ = None in
    let links = c.nexts ++ none ∷ [] in
    let chain = IsChain-pushed s x h.chain in
    let apart : Apart (s.order ++ n ∷ []) = Apart-from_distinct (s.order ++ n ∷ []) chain.distinct in
    let nodes_there : (m : ℕ) → Contains s.order m → m < n = λ m k. (linked_node c m h.chain k).0 in
    let next_more : length links ≡ n + 1 = length_push c.nexts none ∙ ap (λ k. k + 1) h.nexts_there in
    let previous_more : length (c.previouses ++ c.last ∷ []) ≡ n + 1 = length_push c.previouses c.last ∙ ap (λ k. k + 1) h.previouses_there in
    let item_more : length (c.items ++ x ∷ []) ≡ n + 1 = length_push c.items x in
    let last_there : (m : ℕ) → last_of s.order ≡ Some m → m < length links = λ m e. let l = nodes_there m (last_contained s.order m e) in omega arith in
    let extended : Leads links c.first s.order None = Leads-extended c.nexts none c.first s.order None (λ m k. let l = nodes_there m k in let e = h.nexts_there in omega arith) h.forwards in
    let forwards : Leads (redirected links (last_of s.order) (Some n)) (end_by c.first (last_of s.order) (Some n)) (s.order ++ n ∷ []) None =
    Leads-relinked links c.first s.order n [] apart last_there (get_or_push c.nexts none None n h.nexts_there) (subst (λ o. Leads links c.first o None) (sym (append-nil s.order)) extended) in
    let ahead : Leads (redirected links c.last (Some n)) (end_by c.first c.last (Some n)) (s.order ++ n ∷ []) None =
    subst (λ m. Leads (redirected links m (Some n)) (end_by c.first m (Some n)) (s.order ++ n ∷ []) None) (sym (last_is c h)) forwards in
    let own : get_or (c.previouses ++ c.last ∷ []) n None ≡ c.last = get_or_push c.previouses c.last None n h.previouses_there in
    let in_turned : (m : ℕ) → Contains (reverse s.order) m → m < length c.previouses = λ m k. let l = nodes_there m (contained_turned s.order m k) in let e = h.previouses_there in omega arith in
    let back : Leads (c.previouses ++ c.last ∷ []) c.last (reverse s.order) None = Leads-extended c.previouses c.last c.last (reverse s.order) None in_turned h.backwards in
    let whole_back : Leads (c.previouses ++ c.last ∷ []) (Some n) (n ∷ reverse s.order) None = (refl, subst (λ m. Leads (c.previouses ++ c.last ∷ []) m (reverse s.order) None) (sym own) back) in
    let behind : Leads (c.previouses ++ c.last ∷ []) (Some n) (reverse (s.order ++ n ∷ [])) None = subst (λ o. Leads (c.previouses ++ c.last ∷ []) (Some n) o None) (sym (reverse-cut s.order n [])) whole_back in
    shows (appended c x) (pushed s x) chain refl refl ahead behind (length-redirected links c.last (Some n) ∙ next_more ∙ sym item_more) (previous_more ∙ sym item_more)

-- the newest node, which stands last, is gone
abbrev pub shrunk : {T : Type 0} → Cells T → Option ℕ → Cells T
shrunk r previous = record (with_next r previous None) { last = previous }

-- what stands before the newest node
record Popped {T : Type 0} (r : Cells T) (next previous : Option ℕ) (kept : Option Neighbours) (x : T) : Type 0 where
  before : ChainState T
  chain : IsChain before
  was : state_of (grown r next previous kept x) ≡ pushed before x
  items : r.items ≡ before.items
  keeps : r.kept ≡ before.kept
  first : Leads r.nexts r.first before.order (Some (length r.items))
  back : Leads r.previouses previous (reverse before.order) None
  nexts : length r.nexts ≡ length r.items
  previouses : length r.previouses ≡ length r.items

popped : {T : Type 0} (r : Cells T) (next previous : Option ℕ) (kept : Option Neighbours) (x : T) → IsWhole (grown r next previous kept x) → EndsWithNewest (state_of (grown r next previous kept x)) → Popped r next previous kept x
popped {T} r next previous kept x h newest = by_end (state_of c).order (end_view (state_of c).order) refl
  where
    c : Cells T
    c = grown r next previous kept x

    by_end : (order : List ℕ) → EndView order → (state_of c).order ≡ order → Popped r next previous kept x
    by_end _ is_empty e = let none : last_of (state_of c).order ≡ None = ap last_of e in absurd (let some = newest in cc)
    by_end _ (ends_with front k) e =
        let n = length r.items in
        let item_more : length (r.items ++ x ∷ []) ≡ n + 1 = length_push r.items x in
        let count : length (r.items ++ x ∷ []) - 1 ≡ n = omega arith in
        let last : Some k ≡ Some n = sym (ap last_of e ∙ last_of-push front k) ∙ newest ∙ ap Some count in
        let same : k ≡ n = cc in
        let order : (state_of c).order ≡ front ++ n ∷ [] = e ∙ ap (λ m. front ++ m ∷ []) same in
        let linked : IsLinked (state_of c) n = subst (λ o. Contains o n) (sym order) (Contains-cut front n []) in
        let keep_more : length (r.kept ++ kept ∷ []) ≡ length r.kept + 1 = length_push r.kept kept in
        let keep_count : length r.kept ≡ n = let s = h.chain.sizes in omega arith in
        let own_kept : get_or (r.kept ++ kept ∷ []) n None ≡ kept = get_or_push r.kept kept None n keep_count in
        let nothing : kept ≡ None = sym own_kept ∙ (linked_node c n h.chain linked).1 in
        let before : ChainState T = record { order = front; items = r.items; kept = r.kept } in
        let was : state_of c ≡ pushed before x = same_state (state_of c) (pushed before x) order refl (ap (λ (m : Option Neighbours). r.kept ++ m ∷ []) nothing) in
        let chain : IsChain before = IsChain-unpushed before x (subst (λ (s : ChainState T). IsChain s) was h.chain) in
        let next_count : length r.nexts ≡ n = let e = h.nexts_there in let m = length_push r.nexts next in omega arith in
        let previous_count : length r.previouses ≡ n = let e = h.previouses_there in let m = length_push r.previouses previous in omega arith in
        let nodes_there : (m : ℕ) → Contains front m → m < n = λ m i. All-contains (λ j. j < n) front m chain.there i in
        let to_newest : Leads (r.nexts ++ next ∷ []) r.first front (Some n) = Leads-to (r.nexts ++ next ∷ []) r.first front n [] None (subst (λ o. Leads (r.nexts ++ next ∷ []) r.first o None) order h.forwards) in
        let behind : Leads (r.previouses ++ previous ∷ []) r.last (n ∷ reverse front) None = subst (λ o. Leads (r.previouses ++ previous ∷ []) r.last o None) (ap reverse order ∙ reverse-cut front n []) h.backwards in
        let own : get_or (r.previouses ++ previous ∷ []) n None ≡ previous = get_or_push r.previouses previous None n previous_count in
        let from_previous : Leads (r.previouses ++ previous ∷ []) previous (reverse front) None = subst (λ m. Leads (r.previouses ++ previous ∷ []) m (reverse front) None) own behind.1 in
        record {
          before = before;
          chain = chain;
          was = was;
          items = refl;
          keeps = refl;
          first = Leads-shrunk r.nexts next r.first front (Some n) (λ m i. let l = nodes_there m i in omega arith) to_newest;
          back = Leads-shrunk r.previouses previous previous (reverse front) None (λ m i. let l = nodes_there m (contained_turned front m i) in omega arith) from_previous;
          nexts = next_count;
          previouses = previous_count;
        }

pub shrunk_linked : {T : Type 0} (r : Cells T) (next previous : Option ℕ) (kept : Option Neighbours) (x : T) → IsWhole (grown r next previous kept x) → EndsWithNewest (state_of (grown r next previous kept x)) → IsLinkedNode r previous
shrunk_linked r next previous kept x h newest m e =
    let p = popped r next previous kept x h newest in
    let last : last_of p.before.order ≡ Some m = sym (Leads-first r.previouses previous (reverse p.before.order) p.back) ∙ e in
    let contained = last_contained p.before.order m last in
    let there : m < length p.before.items = All-contains (λ j. j < length p.before.items) p.before.order m p.chain.there contained in
    let i : length r.items ≡ length p.before.items = ap length p.items in
    (omega arith, ap (λ (ks : List (Option Neighbours)). get_or ks m None) p.keeps ∙ (p.chain.linked m there).0 contained)

pub shrunk-shows : {T : Type 0} (r : Cells T) (next previous : Option ℕ) (kept : Option Neighbours) (x : T) → IsWhole (grown r next previous kept x) → EndsWithNewest (state_of (grown r next previous kept x)) → IsWhole (shrunk r previous) × (state_of (grown r next previous kept x) ≡ pushed (state_of (shrunk r previous)) x)
shrunk-shows {T} r next previous kept x h newest =
    let p = popped r next previous kept x h newest in
    let order = p.before.order in
    let is : previous ≡ last_of order = Leads-first r.previouses previous (reverse order) p.back in
    let there : (m : ℕ) → last_of order ≡ Some m → m < length r.nexts = λ m e. let l = (shrunk_linked r next previous kept x h newest m (is ∙ e)).0 in let c = p.nexts in omega arith in
    let apart = Apart-from_distinct order p.chain.distinct in
    let forwards : Leads (redirected r.nexts (last_of order) None) (end_by r.first (last_of order) None) order None = Leads-end r.nexts r.first order (Some (length r.items)) None apart there p.first in
    let ahead : Leads (redirected r.nexts previous None) (end_by r.first previous None) order None = subst (λ m. Leads (redirected r.nexts m None) (end_by r.first m None) order None) (sym is) forwards in
    let s = shows (shrunk r previous) p.before p.chain p.items p.keeps ahead p.back (length-redirected r.nexts previous None ∙ p.nexts) p.previouses in
    (s.whole, p.was ∙ ap (λ (t : ChainState T). pushed t x) (sym s.is))
