-- Chains: what each change keeps, and that relinking gives back what unlinking took.
use Rattle.std.proofs.Common.{◌≡◌, ◌⊎◌, inl, inr, ℕ, ◌+◌, ◌<◌, nat_eq, Option, Some, None, List, [], ◌∷◌, ◌++◌, reverse, length, get_or, set, refl, ap, sym, subst, ◌∙◌, arith, append-nil, get_or-set_same, get_or-set_other, set-set, length-set}
use Rattle.std.specs.List.{All, Contains, IsDistinct}
use Rattle.std.proofs.lemmas.Bool.{cases_eq, cases_lt}
use Rattle.std.proofs.lemmas.List.{set-get_or, get_or_past, get_or_push, get_or_append_left, length_push}
use Rattle.std.proofs.lemmas.List.Sums.{fold-append}
use Rattle.std.proofs.lemmas.List.Elements.{All-contains, Contains-append_left, Contains-push, Contains-push_cases}
use Rattle.ror_chain.specs.Chain.{Neighbours, ChainState, first_of, last_of, neighbours_in, without, with_node, IsLinked, kept_by, neighbours_of, IsChain, empty_chain, pushed, unlinked, relinked, with_item, CanRelink, all_unlinked, all_relinked, CanUnlinkAll, CanRelinkAll}
use Rattle.ror_chain.proofs.OrderLemmas.{Absent, Apart, Apart-from_distinct, distinct_from_Apart, Cut, Apart-cut, Apart-insert, Apart-parts, neighbours_in-cut, without-cut, with_node-cut, Contains-cut, cut_of, Contains-cut_cases, Contains-wider, absent_not_contained, Absent-from_not, All-from_nodes, reverse-cons}

pub same_state : {T : Type 0} (s t : ChainState T) → s.order ≡ t.order → s.items ≡ t.items → s.kept ≡ t.kept → s ≡ t
same_state {T} s t e f g =
    ap (λ o. made o s.items s.kept) e ∙ ap (λ i. made t.order i s.kept) f ∙ ap (made t.order t.items) g
  where
    made : List ℕ → List T → List (Option Neighbours) → ChainState T
    made o i k = record { order = o; items = i; kept = k }

-- ---- a linked node

-- the order of a chain, cut at a linked node
pub record LinkedCut {T : Type 0} (s : ChainState T) (n : ℕ) : Type 0 where
  pub front : List ℕ
  pub back : List ℕ
  pub cut : s.order ≡ front ++ n ∷ back
  pub apart : Apart (front ++ n ∷ back)
  pub there : n < length s.items
  pub keeps_nothing : kept_by s n ≡ None
  pub beside : neighbours_in s.order n ≡ record { previous = last_of front; next = first_of back }
  pub left : without s.order n ≡ front ++ back

pub linked_cut : {T : Type 0} (s : ChainState T) (n : ℕ) → IsChain s → IsLinked s n → LinkedCut s n
linked_cut s n h k =
    let c = cut_of s.order n k in
    let apart : Apart (c.0 ++ n ∷ c.1) = subst Apart c.2 (Apart-from_distinct s.order h.distinct) in
    let there : n < length s.items = All-contains (λ m. m < length s.items) s.order n h.there k in
    let parts = Apart-cut c.0 n c.1 apart in
    record {
      front = c.0;
      back = c.1;
      cut = c.2;
      apart = apart;
      there = there;
      keeps_nothing = (h.linked n there).0 k;
      beside = ap (λ o. neighbours_in o n) c.2 ∙ neighbours_in-cut c.0 n c.1 apart;
      left = ap (λ o. without o n) c.2 ∙ without-cut c.0 n c.1 parts.not_before parts.not_after;
    }

-- ---- an unlinked node that can be relinked

pub record RelinkCut {T : Type 0} (s : ChainState T) (n : ℕ) : Type 0 where
  pub front : List ℕ
  pub back : List ℕ
  pub cut : s.order ≡ front ++ back
  pub apart : Apart (front ++ n ∷ back)
  pub there : n < length s.items
  pub previous : last_of front ≡ (neighbours_of s n).previous
  pub next : first_of back ≡ (neighbours_of s n).next
  pub grown : with_node (neighbours_of s n).previous n s.order ≡ front ++ n ∷ back

kept_there : (kept : List (Option Neighbours)) (n : ℕ) (k : Neighbours) → get_or kept n None ≡ Some k → n < length kept
kept_there kept n k e = elim (cases_lt n (length kept)) [ inl l ↦ l | inr past ↦ let none : get_or kept n None ≡ None = get_or_past kept n None past in absurd cc ]

pub relink_cut : {T : Type 0} (s : ChainState T) (n : ℕ) → IsChain s → CanRelink s n → RelinkCut s n
relink_cut s n h can =
    let front = can.beside.front in
    let back = can.beside.back in
    let there : n < length s.items = let l = kept_there s.kept n (neighbours_of s n) can.keeps in let e = h.sizes in omega arith in
    let absent : Absent n s.order = Absent-from_not s.order n (λ k. let none = (h.linked n there).0 k in let some = can.keeps in absurd cc) in
    let joined : Apart (front ++ back) = subst Apart can.beside.cut (Apart-from_distinct s.order h.distinct) in
    record {
      front = front;
      back = back;
      cut = can.beside.cut;
      apart = Apart-insert front n back joined (subst (Absent n) can.beside.cut absent);
      there = there;
      previous = can.beside.previous;
      next = can.beside.next;
      grown = ap (λ p. with_node p n s.order) (sym can.beside.previous) ∙ ap (with_node (last_of front) n) can.beside.cut ∙ with_node-cut front back n joined;
    }

-- ---- each change keeps a chain

pub IsChain-unlinked : {T : Type 0} (s : ChainState T) (n : ℕ) → IsChain s → IsLinked s n → IsChain (unlinked s n)
IsChain-unlinked s n h k =
    let c = linked_cut s n h k in
    let parts = Apart-cut c.front n c.back c.apart in
    let narrower : (m : ℕ) → Contains (without s.order n) m → Contains s.order m = λ m i. subst (λ o. Contains o m) (sym c.cut) (Contains-wider c.front n c.back m (subst (λ o. Contains o m) c.left i)) in
    let rest : (m : ℕ) → (n ≡ m → ⊥) → Contains s.order m → Contains (without s.order n) m = λ m other i. subst (λ o. Contains o m) (sym c.left) (elim (Contains-cut_cases c.front n c.back m (subst (λ o. Contains o m) c.cut i)) [ inl same ↦ absurd (other same) | inr j ↦ j ]) in
    let own = Some (neighbours_in s.order n) in
    record {
      distinct = subst (IsDistinct nat_eq) (sym c.left) (distinct_from_Apart (c.front ++ c.back) parts.joined);
      there = All-from_nodes (λ m. m < length s.items) (without s.order n) (λ m i. All-contains (λ m. m < length s.items) s.order m h.there (narrower m i));
      sizes = length-set s.kept n own ∙ h.sizes;
      linked = λ m within. elim (cases_eq n m) [
        | inl same ↦
            let here : get_or (set s.kept n own) m None ≡ own = subst (λ j. get_or (set s.kept n own) j None ≡ own) same (get_or-set_same s.kept n own None (let e = h.sizes in let l = c.there in omega arith)) in
            (λ i. absurd (absent_not_contained (c.front ++ c.back) n (both_parts c.front n c.back parts) (subst (λ j. Contains (c.front ++ c.back) j) (sym same) (subst (λ o. Contains o m) c.left i))), λ none. absurd cc)
        | inr other ↦
            let same_kept : get_or (set s.kept n own) m None ≡ get_or s.kept m None = get_or-set_other s.kept n m own None (λ e. other (sym e)) in
            (λ i. same_kept ∙ (h.linked m within).0 (narrower m i), λ none. rest m other ((h.linked m within).1 (sym same_kept ∙ none)))
      ];
    }
  where
    both_parts : (front : List ℕ) (n : ℕ) (back : List ℕ) → Cut front n back → Absent n (front ++ back)
    both_parts [] n back h = h.not_after
    both_parts (x ∷ front) n back h = (h.not_before.0, both_parts front n back (record { not_before = h.not_before.1; not_after = h.not_after; joined = h.joined.1 }))

pub IsChain-relinked : {T : Type 0} (s : ChainState T) (n : ℕ) → IsChain s → CanRelink s n → IsChain (relinked s n)
IsChain-relinked s n h can =
    let c = relink_cut s n h can in
    let grown = with_node (neighbours_of s n).previous n s.order in
    let wider : (m : ℕ) → Contains s.order m → Contains grown m = λ m i. subst (λ o. Contains o m) (sym c.grown) (Contains-wider c.front n c.back m (subst (λ o. Contains o m) c.cut i)) in
    let cases : (m : ℕ) → Contains grown m → (n ≡ m) ⊎ Contains s.order m = λ m i. elim (Contains-cut_cases c.front n c.back m (subst (λ o. Contains o m) c.grown i)) [ inl same ↦ inl same | inr j ↦ inr (subst (λ o. Contains o m) (sym c.cut) j) ] in
    let none : Option Neighbours = None in
    record {
      distinct = subst (IsDistinct nat_eq) (sym c.grown) (distinct_from_Apart (c.front ++ n ∷ c.back) c.apart);
      there = All-from_nodes (λ m. m < length s.items) grown (λ m i. elim (cases m i) [ inl same ↦ subst (λ j. j < length s.items) same c.there | inr j ↦ All-contains (λ m. m < length s.items) s.order m h.there j ]);
      sizes = length-set s.kept n none ∙ h.sizes;
      linked = λ m within. elim (cases_eq n m) [
        | inl same ↦
            let here : get_or (set s.kept n none) m None ≡ None = subst (λ j. get_or (set s.kept n none) j None ≡ none) same (get_or-set_same s.kept n none None (let e = h.sizes in let l = c.there in omega arith)) in
            (λ _. here, λ _. subst (λ o. Contains o m) (sym c.grown) (subst (λ j. Contains (c.front ++ n ∷ c.back) j) same (Contains-cut c.front n c.back)))
        | inr other ↦
            let same_kept : get_or (set s.kept n none) m None ≡ get_or s.kept m None = get_or-set_other s.kept n m none None (λ e. other (sym e)) in
            (λ i. same_kept ∙ (h.linked m within).0 (elim (cases m i) [ inl same ↦ absurd (other same) | inr j ↦ j ]), λ e. wider m ((h.linked m within).1 (sym same_kept ∙ e)))
      ];
    }

pub IsChain-pushed : {T : Type 0} (s : ChainState T) (x : T) → IsChain s → IsChain (pushed s x)
IsChain-pushed s x h =
    let n = length s.items in
    let more : length (s.items ++ x ∷ []) ≡ n + 1 = length_push s.items x in
    let absent : Absent n s.order = Absent-from_not s.order n (λ k. let l = All-contains (λ m. m < n) s.order n h.there k in absurd (omega arith)) in
    let whole : s.order ++ [] ≡ s.order = append-nil s.order in
    let none : Option Neighbours = None in
    record {
      distinct = distinct_from_Apart (s.order ++ n ∷ []) (Apart-insert s.order n [] (subst Apart (sym whole) (Apart-from_distinct s.order h.distinct)) (subst (Absent n) (sym whole) absent));
      there = All-from_nodes (λ m. m < length (s.items ++ x ∷ [])) (s.order ++ n ∷ []) (λ m i. elim (Contains-push_cases s.order n m i) [ inl j ↦ let l = All-contains (λ m. m < n) s.order m h.there j in omega arith | inr same ↦ omega arith ]);
      sizes = length_push s.kept none ∙ ap (λ k. k + 1) h.sizes ∙ sym more;
      linked = λ m within. elim (cases_lt m n) [
        | inl below ↦
            let same_kept : get_or (s.kept ++ none ∷ []) m None ≡ get_or s.kept m None = get_or_append_left s.kept (none ∷ []) None m (let e = h.sizes in omega arith) in
            (λ i. same_kept ∙ (h.linked m below).0 (elim (Contains-push_cases s.order n m i) [ inl j ↦ j | inr same ↦ absurd (omega arith) ]), λ e. Contains-append_left s.order (n ∷ []) m ((h.linked m below).1 (sym same_kept ∙ e)))
        | inr above ↦
            let same : n ≡ m = omega arith in
            (λ _. get_or_push s.kept none None m (h.sizes ∙ same), λ _. subst (Contains (s.order ++ n ∷ [])) same (Contains-push s.order n))
      ];
    }

pub IsChain-unpushed : {T : Type 0} (s : ChainState T) (x : T) → IsChain (pushed s x) → IsChain s
IsChain-unpushed s x h =
    let n = length s.items in
    let more : length (s.items ++ x ∷ []) ≡ n + 1 = length_push s.items x in
    let none : Option Neighbours = None in
    let kept_more : length (s.kept ++ none ∷ []) ≡ length s.kept + 1 = length_push s.kept none in
    let sizes : length s.kept ≡ n = let e = h.sizes in omega arith in
    let cut = Apart-cut s.order n [] (Apart-from_distinct (s.order ++ n ∷ []) h.distinct) in
    let still : (m : ℕ) → Contains s.order m → m < n = λ m i.
    let l : m < length (s.items ++ x ∷ []) = All-contains (λ m. m < length (s.items ++ x ∷ [])) (s.order ++ n ∷ []) m h.there (Contains-append_left s.order (n ∷ []) m i) in
    let other : m ≡ n → ⊥ = λ same. absent_not_contained s.order n cut.not_before (subst (Contains s.order) same i) in
    elim (cases_eq m n) [ inl same ↦ absurd (other same) | inr ne ↦ omega arith ] in
    record {
      distinct = distinct_from_Apart s.order (Apart-parts s.order (n ∷ []) (Apart-from_distinct (s.order ++ n ∷ []) h.distinct)).0;
      there = All-from_nodes (λ m. m < n) s.order still;
      sizes = sizes;
      linked = λ m below.
          let same_kept : get_or (s.kept ++ none ∷ []) m None ≡ get_or s.kept m None = get_or_append_left s.kept (none ∷ []) None m (omega arith) in
          let was = h.linked m (omega arith) in
          (λ i. sym same_kept ∙ was.0 (Contains-append_left s.order (n ∷ []) m i), λ e. elim (Contains-push_cases s.order n m (was.1 (same_kept ∙ e))) [ inl j ↦ j | inr same ↦ absurd (omega arith) ]);
    }

-- ---- relinking restores

restores : {T : Type 0} (s t : ChainState T) (n : ℕ) → IsChain s → IsLinked s n → t.order ≡ (unlinked s n).order → kept_by t n ≡ kept_by (unlinked s n) n → CanRelink t n × ((relinked t n).order ≡ s.order)
restores s t n h k same_order same_kept =
    let c = linked_cut s n h k in
    let kept : kept_by t n ≡ Some (neighbours_in s.order n) = same_kept ∙ get_or-set_same s.kept n (Some (neighbours_in s.order n)) None (let e = h.sizes in let l = c.there in omega arith) in
    let own : neighbours_of t n ≡ neighbours_in s.order n = rw kept in
    let previous : last_of c.front ≡ (neighbours_of t n).previous = let b = c.beside in cc in
    let next : first_of c.back ≡ (neighbours_of t n).next = let b = c.beside in cc in
    let cut : t.order ≡ c.front ++ c.back = same_order ∙ c.left in
    let joined = (Apart-cut c.front n c.back c.apart).joined in (
      record {
        keeps = kept ∙ ap Some (sym own);
        beside = record { front = c.front; back = c.back; cut = cut; previous = previous; next = next };
      },
      ap (λ p. with_node p n t.order) (sym previous) ∙ ap (with_node (last_of c.front) n) cut ∙ with_node-cut c.front c.back n joined ∙ sym c.cut,
    )

pub restores_order : {T : Type 0} (s t : ChainState T) (n : ℕ) → IsChain s → IsLinked s n → t.order ≡ (unlinked s n).order → kept_by t n ≡ kept_by (unlinked s n) n → CanRelink t n × ((relinked t n).order ≡ s.order)
restores_order s t n h k e f = restores s t n h k e f

pub restores_one : {T : Type 0} (s : ChainState T) (n : ℕ) → IsChain s → IsLinked s n → CanRelink (unlinked s n) n × (relinked (unlinked s n) n ≡ s)
restores_one s n h k =
    let c = linked_cut s n h k in
    let back = restores s (unlinked s n) n h k refl refl in
    let own : Option Neighbours = Some (neighbours_in s.order n) in
    let none : Option Neighbours = None in
    let nothing : none ≡ get_or s.kept n None = sym c.keeps_nothing in
    let kept : set (set s.kept n own) n none ≡ s.kept = set-set s.kept n own none ∙ ap (set s.kept n) nothing ∙ set-get_or s.kept n None in
    (back.0, same_state (relinked (unlinked s n) n) s back.1 refl kept)

CanRelinkAll-append : {T : Type 0} (s : ChainState T) (xs ys : List ℕ) → CanRelinkAll s xs → CanRelinkAll (all_relinked s xs) ys → CanRelinkAll s (xs ++ ys)
CanRelinkAll-append s [] ys h k = k
CanRelinkAll-append s (x ∷ xs) ys h k = (h.0, CanRelinkAll-append (relinked s x) xs ys h.1 k)

pub restores_all : {T : Type 0} (s : ChainState T) (nodes : List ℕ) → IsChain s → CanUnlinkAll s nodes → CanRelinkAll (all_unlinked s nodes) (reverse nodes) × (all_relinked (all_unlinked s nodes) (reverse nodes) ≡ s)
restores_all s [] h can = (tt, refl)
restores_all {T} s (n ∷ ns) h can =
    let one = restores_one s n h can.0 in
    let rest = restores_all (unlinked s n) ns (IsChain-unlinked s n h can.0) can.1 in
    let end = all_unlinked (unlinked s n) ns in
    let turned = reverse-cons n ns in
    let both : CanRelinkAll end (reverse ns ++ n ∷ []) = CanRelinkAll-append end (reverse ns) (n ∷ []) rest.0 (subst (λ (t : ChainState T). CanRelinkAll t (n ∷ [])) (sym rest.1) (one.0, tt)) in (
      subst (CanRelinkAll end) (sym turned) both,
      ap (all_relinked end) turned ∙ fold-append relinked end (reverse ns) (n ∷ []) ∙ ap (λ (t : ChainState T). relinked t n) rest.1 ∙ one.1,
    )

pub IsChain-with_item : {T : Type 0} (s : ChainState T) (n : ℕ) (item : T) → IsChain s → IsChain (with_item s n item)
IsChain-with_item s n item h =
    let count : length (set s.items n item) ≡ length s.items = length-set s.items n item in
    record {
      distinct = h.distinct;
      there = subst (λ m. All (λ k. k < m) s.order) (sym count) h.there;
      sizes = h.sizes ∙ sym count;
      linked = λ m within. h.linked m (subst (λ k. m < k) count within);
    }

pub IsChain-empty : {T : Type 0} → IsChain (empty_chain {T = T})
unfolding IsDistinct
IsChain-empty = record { distinct = tt; there = λ k d within. absurd (omega arith); sizes = refl; linked = λ m within. absurd (omega arith) }
