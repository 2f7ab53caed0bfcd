-- The calls of a chain: what each step of their code asks, and what the fields hold at the end.
use Rattle.std.proofs.Common.{◌≡◌, ◌↔◌, ℕ, ◌<◌, vec_len, vec_capacity, Result, Ok, Err, IsOk, is_ok, false, true, if◌then◌else◌, reverse, length-set, Option, Some, None, List, [], ◌∷◌, ◌++◌, map, length, get_or, set, refl, ap, sym, subst, ◌∙◌, arith, unwrap_or}
use Rattle.std.proofs.lemmas.List.{length-map}
use Rattle.std.proofs.lemmas.Option.{slice_get-get_or}
use Rattle.std.specs.List.{slice_get}
use Rattle.ror_chain.specs.declared.links.Node.{Node}
use Rattle.ror_chain.specs.declared.links.Links.{Links}
use Rattle.ror_chain.specs.Chain.{Neighbours, ChainState, ChainView, first_of, last_of, neighbours_in, IsLinked, kept_by, neighbours_of, IsChain, pushed, unlinked, relinked, with_item, CanRelink, EndsWithNewest}
use Rattle.ror_chain.specs.Cells.{Cells, kept_of, cells_of, cells, room, state_of, way, Leads, IsWhole, IsLinkedNode, with_next, with_previous}
use Rattle.ror_chain.proofs.CellLemmas.{Shows, beside, previous_linked, next_linked, taken_out, taken_out-shows, marked, marked_previous, marked_next, put_back, put_back-shows, grown, grown_last, appended, appended-shows, shrunk, shrunk_linked, shrunk-shows}
use Rattle.ror_chain.proofs.ChainLemmas.{relink_cut, IsChain-with_item, IsChain-empty}
use Rattle.std.proofs.lemmas.List.Elements.{All-contains}
use Rattle.ror_chain.proofs.NodeLemmas.{shown_at, kept_of-some, kept_of-none, unlinked_written, item_written, node_pushed}

-- fields that are whole and give this chain
pub record Gives {T : Type 0} (c : Cells T) (s : ChainState T) : Type 0 where
  pub whole : IsWhole c
  pub is : state_of c ≡ s

-- what an opened chain knows of its fields
pub held : {T : Type 0} (links : Links T) (v : ChainView T) → IsWhole (cells links) → record { state = state_of (cells links); spare = room links } ≡ v → Gives (cells links) v.state
held {T} links v whole is = record { whole = whole; is = ap (λ (u : ChainView T). u.state) is }

-- where there is room in the view, the nodes have it
pub has_room : {T : Type 0} (links : Links T) (v : ChainView T) → record { state = state_of (cells links); spare = room links } ≡ v → 0 < v.spare → vec_len links.nodes < vec_capacity links.nodes
has_room {T} links v is some =
    let same : room links ≡ v.spare = ap (λ (u : ChainView T). u.spare) is in
    omega arith

-- what a push that succeeds gives
pub at_success : {A E X : Type 0} (r : Result A E) (xs more kept : List X) → IsOk r → xs ≡ (if is_ok r then more else kept) → xs ≡ more
at_success (Ok x) xs more kept ok is = is
at_success (Err e) xs more kept ok is = absurd cc

gives : {T : Type 0} (c d : Cells T) (s t : ChainState T) → c ≡ d → s ≡ t → Shows d s → Gives c t
gives c d s t same_cells same_states h = record { whole = subst (λ e. IsWhole e) (sym same_cells) h.whole; is = ap (λ e. state_of e) same_cells ∙ h.is ∙ same_states }

node_count : {T : Type 0} (xs : List (Node T)) → length (map (λ x. x.item) xs) ≡ length xs
node_count {T} xs = length-map xs (λ (x : Node T). x.item)

-- ---- unlink

-- a linked node's links are those beside it
pub record ReadsLinked {T : Type 0} (links : Links T) (n : ℕ) (x : Node T) : Type 0 where
  pub within : n < length links.nodes.items
  pub previous_is : get_or (cells links).previouses n None ≡ x.previous
  pub next_is : get_or (cells links).nexts n None ≡ x.next
  pub previous : IsLinkedNode (cells links) x.previous
  pub next : IsLinkedNode (cells links) x.next
  pub keeps_nothing : kept_of x ≡ None

pub reads_linked : {T : Type 0} (links : Links T) (s : ChainState T) (n : ℕ) (x : Node T) → Gives (cells links) s → IsLinked s n → x ≡ get_or links.nodes.items n x → ReadsLinked links n x
reads_linked {T} links s n x h k is =
    let c = cells links in
    let linked : IsLinked (state_of c) n = subst (λ (t : ChainState T). IsLinked t n) (sym h.is) k in
    let b = beside c n h.whole linked in
    let within : n < length links.nodes.items = let l = b.cut.there in let e = node_count links.nodes.items in omega arith in
    let previous = shown_at (λ (z : Node T). z.previous) links.nodes.items n x None within is in
    let next = shown_at (λ (z : Node T). z.next) links.nodes.items n x None within is in
    let none : Option Neighbours = None in
    record {
      within = within;
      previous_is = previous;
      next_is = next;
      previous = subst (IsLinkedNode c) previous (previous_linked c n h.whole linked);
      next = subst (IsLinkedNode c) next (next_linked c n h.whole linked);
      keeps_nothing = sym (shown_at kept_of links.nodes.items n x none within is) ∙ b.cut.keeps_nothing;
    }

pub unlink_gives : {T : Type 0} (links led last_led : Links T) (s : ChainState T) (n : ℕ) (x y : Node T) → Gives (cells links) s → IsLinked s n → x ≡ get_or links.nodes.items n x → cells led ≡ with_next (cells links) x.previous x.next → cells last_led ≡ with_previous (cells led) x.next x.previous → y ≡ get_or last_led.nodes.items n y → Gives (cells_of (set last_led.nodes.items n (record { item = y.item; previous = y.previous; next = y.next; linked = false })) last_led.first last_led.last) (unlinked s n)
unlink_gives {T} links led last_led s n x y h k is first second y_is =
    let c = cells links in
    let r = reads_linked links s n x h k is in
    let linked : IsLinked (state_of c) n = subst (λ (t : ChainState T). IsLinked t n) (sym h.is) k in
    let around : cells last_led ≡ with_previous (with_next c (get_or c.previouses n None) (get_or c.nexts n None)) (get_or c.nexts n None) (get_or c.previouses n None) =
    second ∙ ap (λ d. with_previous d x.next x.previous) first ∙ ap (λ p. with_previous (with_next c p x.next) x.next p) (sym r.previous_is) ∙ ap (λ q. with_previous (with_next c (get_or c.previouses n None) q) q (get_or c.previouses n None)) (sym r.next_is) in
    let count : length (cells last_led).items ≡ length c.items = ap (λ (d : Cells T). length d.items) around in
    let within : n < length last_led.nodes.items = let l = r.within in let e = node_count links.nodes.items in let f = node_count last_led.nodes.items in omega arith in
    let written = unlinked_written last_led.nodes.items last_led.first last_led.last n y within y_is in
    let turned : record (cells last_led) { kept = set (cells last_led).kept n (Some (record { previous = get_or (cells last_led).previouses n None; next = get_or (cells last_led).nexts n None })) } ≡ taken_out c n =
    ap (λ (d : Cells T). record d { kept = set d.kept n (Some (record { previous = get_or d.previouses n None; next = get_or d.nexts n None })) }) around in
    gives _ (taken_out c n) (unlinked (state_of c) n) (unlinked s n) (written ∙ turned) (ap (λ (t : ChainState T). unlinked t n) h.is) (taken_out-shows c n h.whole linked)

-- ---- relink

-- an unlinked node's links are those that it kept, and the nodes there are linked
pub record ReadsUnlinked {T : Type 0} (links : Links T) (s : ChainState T) (n : ℕ) (x : Node T) : Type 0 where
  pub within : n < length links.nodes.items
  pub can : CanRelink (state_of (cells links)) n
  pub previous_kept : get_or (cells links).previouses n None ≡ (neighbours_of (state_of (cells links)) n).previous
  pub next_kept : get_or (cells links).nexts n None ≡ (neighbours_of (state_of (cells links)) n).next
  pub previous_is : get_or (cells links).previouses n None ≡ x.previous
  pub next_is : get_or (cells links).nexts n None ≡ x.next
  pub previous : IsLinkedNode (marked (cells links) n) x.previous
  pub next : IsLinkedNode (marked (cells links) n) x.next

pub reads_unlinked : {T : Type 0} (links : Links T) (s : ChainState T) (n : ℕ) (x : Node T) → Gives (cells links) s → CanRelink s n → x ≡ get_or links.nodes.items n x → ReadsUnlinked links s n x
reads_unlinked {T} links s n x h k is =
    let c = cells links in
    let can : CanRelink (state_of c) n = subst (λ (t : ChainState T). CanRelink t n) (sym h.is) k in
    let r = relink_cut (state_of c) n h.whole.chain can in
    let within : n < length links.nodes.items = let l = r.there in let e = node_count links.nodes.items in omega arith in
    let previous = shown_at (λ (z : Node T). z.previous) links.nodes.items n x None within is in
    let next = shown_at (λ (z : Node T). z.next) links.nodes.items n x None within is in
    let none : Option Neighbours = None in
    let kept = kept_of-some x (neighbours_of (state_of c) n) (sym (shown_at kept_of links.nodes.items n x none within is) ∙ can.keeps) in
    let previous_kept = previous ∙ kept.1 in
    let next_kept = next ∙ kept.2 in
    record {
      within = within;
      can = can;
      previous_kept = previous_kept;
      next_kept = next_kept;
      previous_is = previous;
      next_is = next;
      previous = subst (IsLinkedNode (marked c n)) previous (marked_previous c n h.whole can previous_kept);
      next = subst (IsLinkedNode (marked c n)) next (marked_next c n h.whole can next_kept);
    }

pub relink_gives : {T : Type 0} (links led last_led : Links T) (first_cells : Cells T) (s : ChainState T) (n : ℕ) (x : Node T) → Gives (cells links) s → CanRelink s n → x ≡ get_or links.nodes.items n x → first_cells ≡ marked (cells links) n → cells led ≡ with_next first_cells x.previous (Some n) → cells last_led ≡ with_previous (cells led) x.next (Some n) → Gives (cells last_led) (relinked s n)
relink_gives {T} links led last_led first_cells s n x h k is marks first second =
    let c = cells links in
    let r = reads_unlinked links s n x h k is in
    let back : cells last_led ≡ put_back c n =
    second ∙ ap (λ d. with_previous d x.next (Some n)) (first ∙ ap (λ d. with_next d x.previous (Some n)) marks) ∙ ap (λ p. with_previous (with_next (marked c n) p (Some n)) x.next (Some n)) (sym r.previous_is) ∙ ap (λ q. with_previous (with_next (marked c n) (get_or c.previouses n None) (Some n)) q (Some n)) (sym r.next_is) in
    gives (cells last_led) (put_back c n) (relinked (state_of c) n) (relinked s n) back (ap (λ (t : ChainState T). relinked t n) h.is) (put_back-shows c n h.whole r.can r.previous_kept r.next_kept)

-- ---- push

pub push_cells : {T : Type 0} (links : Links T) (nodes : List (Node T)) (x : T) → nodes ≡ links.nodes.items ++ record { item = x; previous = links.last; next = None; linked = true } ∷ [] → cells_of nodes links.first links.last ≡ grown (cells links) None links.last None x
push_cells links nodes x is = ap (λ ns. cells_of ns links.first links.last) is ∙ node_pushed links.nodes.items links.first links.last (record { item = x; previous = links.last; next = None; linked = true })

pub push_last : {T : Type 0} (links : Links T) (nodes : List (Node T)) (x : T) (s : ChainState T) → Gives (cells links) s → nodes ≡ links.nodes.items ++ record { item = x; previous = links.last; next = None; linked = true } ∷ [] → IsLinkedNode (cells_of nodes links.first links.last) links.last
push_last {T} links nodes x s h is = subst (λ (d : Cells T). IsLinkedNode d links.last) (sym (push_cells links nodes x is)) (grown_last (cells links) None links.last x h.whole)

pub push_gives : {T : Type 0} (links led : Links T) (nodes : List (Node T)) (x : T) (n : ℕ) (s : ChainState T) → Gives (cells links) s → nodes ≡ links.nodes.items ++ record { item = x; previous = links.last; next = None; linked = true } ∷ [] → n ≡ length links.nodes.items → cells led ≡ with_next (cells_of nodes links.first links.last) links.last (Some n) → Gives (cells_of led.nodes.items led.first (Some n)) (pushed s x)
push_gives {T} links led nodes x n s h is number first =
    let c = cells links in
    let count : n ≡ length c.items = number ∙ sym (node_count links.nodes.items) in
    let end : cells led ≡ with_next (grown c None links.last None x) links.last (Some (length c.items)) =
    first ∙ ap (λ d. with_next d links.last (Some n)) (push_cells links nodes x is) ∙ ap (λ m. with_next (grown c None links.last None x) links.last (Some m)) count in
    let same : cells_of led.nodes.items led.first (Some n) ≡ appended c x =
    ap (λ m. cells_of led.nodes.items led.first (Some m)) count ∙ ap (λ (d : Cells T). record d { last = Some (length c.items) }) end in
    gives _ (appended c x) (pushed (state_of c) x) (pushed s x) same (ap (λ (t : ChainState T). pushed t x) h.is) (appended-shows c x h.whole)

-- ---- pop

pub pop_cells : {T : Type 0} (links : Links T) (rest : List (Node T)) (x : Node T) → links.nodes.items ≡ rest ++ x ∷ [] → cells links ≡ grown (cells_of rest links.first links.last) x.next x.previous (kept_of x) x.item
pop_cells links rest x is = ap (λ ns. cells_of ns links.first links.last) is ∙ node_pushed rest links.first links.last x

pub pop_previous : {T : Type 0} (links : Links T) (rest : List (Node T)) (x : Node T) (s : ChainState T) → Gives (cells links) s → EndsWithNewest s → links.nodes.items ≡ rest ++ x ∷ [] → IsLinkedNode (cells_of rest links.first links.last) x.previous
pop_previous {T} links rest x s h newest is =
    let same = pop_cells links rest x is in
    let newest_there : EndsWithNewest (state_of (grown (cells_of rest links.first links.last) x.next x.previous (kept_of x) x.item)) = subst (λ (d : Cells T). EndsWithNewest (state_of d)) same (subst (λ (t : ChainState T). EndsWithNewest t) (sym h.is) newest) in
    shrunk_linked (cells_of rest links.first links.last) x.next x.previous (kept_of x) x.item (subst (λ (d : Cells T). IsWhole d) same h.whole) newest_there

pub pop_gives : {T : Type 0} (links led : Links T) (rest : List (Node T)) (x : Node T) (s : ChainState T) → Gives (cells links) s → EndsWithNewest s → links.nodes.items ≡ rest ++ x ∷ [] → cells led ≡ with_next (cells_of rest links.first links.last) x.previous None → IsWhole (cells_of led.nodes.items led.first x.previous) × (s ≡ pushed (state_of (cells_of led.nodes.items led.first x.previous)) x.item)
pop_gives {T} links led rest x s h newest is first =
    let r = cells_of rest links.first links.last in
    let same = pop_cells links rest x is in
    let newest_there : EndsWithNewest (state_of (grown r x.next x.previous (kept_of x) x.item)) = subst (λ (d : Cells T). EndsWithNewest (state_of d)) same (subst (λ (t : ChainState T). EndsWithNewest t) (sym h.is) newest) in
    let end = shrunk-shows r x.next x.previous (kept_of x) x.item (subst (λ (d : Cells T). IsWhole d) same h.whole) newest_there in
    let left : cells_of led.nodes.items led.first x.previous ≡ shrunk r x.previous = ap (λ (d : Cells T). record d { last = x.previous }) first in
    (subst (λ (d : Cells T). IsWhole d) (sym left) end.0, sym h.is ∙ ap (λ (d : Cells T). state_of d) same ∙ end.1 ∙ ap (λ (d : Cells T). pushed (state_of d) x.item) (sym left))

-- the pop of nodes of which there are some gives one
pub some_node : {T : Type 0} (links : Links T) (s : ChainState T) → Gives (cells links) s → EndsWithNewest s → 0 < length links.nodes.items
some_node {T} links s h newest = by_nodes links.nodes.items refl
  where
    by_nodes : (nodes : List (Node T)) → links.nodes.items ≡ nodes → 0 < length links.nodes.items
    by_nodes (x ∷ nodes) e = let l = ap length e in omega arith
    by_nodes [] e =
        let count : length (cells links).items ≡ 0 = ap (λ (ns : List (Node T)). length (map (λ (x : Node T). x.item) ns)) e in
        let none : state_of (cells links) ≡ record { order = []; items = []; kept = [] } = ap (λ (ns : List (Node T)). state_of (cells_of ns links.first links.last)) e in
        let last : last_of s.order ≡ None = ap (λ (t : ChainState T). last_of t.order) (sym h.is ∙ none) in
        absurd (let some = newest in cc)

-- ---- set

pub set_gives : {T : Type 0} (links : Links T) (s : ChainState T) (n : ℕ) (x : Node T) (item : T) → Gives (cells links) s → IsLinked s n → x ≡ get_or links.nodes.items n x → Gives (cells_of (set links.nodes.items n (record { item = item; previous = x.previous; next = x.next; linked = x.linked })) links.first links.last) (with_item s n item)
set_gives {T} links s n x item h k is =
    let c = cells links in
    let r = reads_linked links s n x h k is in
    let written = item_written links.nodes.items links.first links.last n x item r.within is in
    let count : length (set c.items n item) ≡ length c.items = length-set c.items n item in
    let d : Cells T = record c { items = set c.items n item } in
    let same : state_of d ≡ with_item (state_of c) n item = ap (λ m. record { order = way c.nexts m c.first; items = set c.items n item; kept = c.kept }) count in
    let whole : IsWhole d = record {
      chain = subst (λ (t : ChainState T). IsChain t) (sym same) (IsChain-with_item (state_of c) n item h.whole.chain);
      forwards = subst (λ (t : ChainState T). Leads c.nexts c.first t.order None) (sym same) h.whole.forwards;
      backwards = subst (λ (t : ChainState T). Leads c.previouses c.last (reverse t.order) None) (sym same) h.whole.backwards;
      nexts_there = h.whole.nexts_there ∙ sym count;
      previouses_there = h.whole.previouses_there ∙ sym count;
    } in
    record {
      whole = subst (λ (e : Cells T). IsWhole e) (sym written) whole;
      is = ap (λ (e : Cells T). state_of e) written ∙ same ∙ ap (λ (t : ChainState T). with_item t n item) h.is;
    }

-- ---- what is read

pub item_read : {T : Type 0} (links : Links T) (s : ChainState T) (n : ℕ) (x : Node T) → Gives (cells links) s → n < length s.items → x ≡ get_or links.nodes.items n x → slice_get s.items n ≡ Some x.item
item_read {T} links s n x h there is =
    let same : (cells links).items ≡ s.items = ap (λ (t : ChainState T). t.items) h.is in
    let within : n < length links.nodes.items = let e = node_count links.nodes.items in let f = ap length same in omega arith in
    slice_get-get_or s.items n x.item there ∙ ap (λ (is : List T). Some (get_or is n x.item)) (sym same) ∙ ap Some (shown_at (λ (z : Node T). z.item) links.nodes.items n x x.item within is)

-- whether a node is linked, and what stands beside it, or what it keeps
pub node_read : {T : Type 0} (links : Links T) (s : ChainState T) (n : ℕ) (x : Node T) → Gives (cells links) s → n < length s.items → x ≡ get_or links.nodes.items n x → kept_of x ≡ kept_by s n
node_read {T} links s n x h there is =
    let same : (cells links).items ≡ s.items = ap (λ (t : ChainState T). t.items) h.is in
    let within : n < length links.nodes.items = let e = node_count links.nodes.items in let f = ap length same in omega arith in
    let none : Option Neighbours = None in
    sym (shown_at kept_of links.nodes.items n x none within is) ∙ ap (λ (t : ChainState T). kept_by t n) h.is

pub neighbours_read : {T : Type 0} (links : Links T) (s : ChainState T) (n : ℕ) (x : Node T) → Gives (cells links) s → n < length s.items → x ≡ get_or links.nodes.items n x → (x.previous ≡ (neighbours_of s n).previous) × (x.next ≡ (neighbours_of s n).next)
neighbours_read {T} links s n x h there is = by_kept (kept_of x) refl
  where
    kept : kept_of x ≡ kept_by s n
    kept = node_read links s n x h there is

    by_kept : (k : Option Neighbours) → kept_of x ≡ k → (x.previous ≡ (neighbours_of s n).previous) × (x.next ≡ (neighbours_of s n).next)
    by_kept (Some k) e =
        let own = kept_of-some x k e in
        let beside_it : neighbours_of s n ≡ k = ap (λ o. unwrap_or o (neighbours_in s.order n)) (sym kept ∙ e) in
        (own.1 ∙ ap (λ (m : Neighbours). m.previous) (sym beside_it), own.2 ∙ ap (λ (m : Neighbours). m.next) (sym beside_it))
    by_kept None e =
        let chain : IsChain s = subst (λ (t : ChainState T). IsChain t) h.is h.whole.chain in
        let linked : IsLinked s n = (chain.linked n there).1 (sym kept ∙ e) in
        let r = reads_linked links s n x h linked is in
        let b = beside (cells links) n h.whole (subst (λ (t : ChainState T). IsLinked t n) (sym h.is) linked) in
        let in_order : neighbours_in (state_of (cells links)).order n ≡ neighbours_in s.order n = ap (λ (t : ChainState T). neighbours_in t.order n) h.is in
        let beside_it : neighbours_of s n ≡ neighbours_in s.order n = ap (λ o. unwrap_or o (neighbours_in s.order n)) (sym kept ∙ e) in
        let whole : neighbours_of s n ≡ record { previous = last_of b.cut.front; next = first_of b.cut.back } = beside_it ∙ sym in_order ∙ b.cut.beside in
        (sym r.previous_is ∙ b.previous ∙ ap (λ (m : Neighbours). m.previous) (sym whole), sym r.next_is ∙ b.next ∙ ap (λ (m : Neighbours). m.next) (sym whole))

pub linked_read : {T : Type 0} (links : Links T) (s : ChainState T) (n : ℕ) (x : Node T) → Gives (cells links) s → n < length s.items → x ≡ get_or links.nodes.items n x → (x.linked ≡ true) ↔ IsLinked s n
linked_read {T} links s n x h there is =
    let chain : IsChain s = subst (λ (t : ChainState T). IsChain t) h.is h.whole.chain in
    let kept = node_read links s n x h there is in
    (λ flag. (chain.linked n there).1 (sym kept ∙ ap (λ b. if b then None else Some (record { previous = x.previous; next = x.next })) flag), λ k. kept_of-none x (kept ∙ (chain.linked n there).0 k))

pub linked_there : {T : Type 0} (links : Links T) (s : ChainState T) (n : ℕ) → Gives (cells links) s → IsLinked s n → n < length s.items
linked_there {T} links s n h k =
    let chain : IsChain s = subst (λ (t : ChainState T). IsChain t) h.is h.whole.chain in
    All-contains (λ m. m < length s.items) s.order n chain.there k

-- ---- new

pub empty_whole : {T : Type 0} → IsWhole (cells_of {T = T} [] None None)
empty_whole = record { chain = IsChain-empty; forwards = refl; backwards = refl; nexts_there = refl; previouses_there = refl }
