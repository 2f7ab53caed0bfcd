-- Links: how they lead through an order, before and after one of them is changed.
use Rattle.std.proofs.Common.{◌≡◌, ℕ, ◌<◌, ◌≤◌, zero, suc, Option, Some, None, List, [], ◌∷◌, ◌++◌, length, get_or, set, refl, ap, sym, subst, ◌∙◌, arith, get_or-set_same, get_or-set_other}
use Rattle.std.proofs.lemmas.Bool.{eqb-false}
use Rattle.ror_chain.specs.Chain.{first_of, last_of}
use Rattle.ror_chain.specs.Cells.{way, Leads, redirected, end_by}
use Rattle.ror_chain.proofs.OrderLemmas.{Absent, Apart, Apart-cut, Apart-parts, Absent-after_last, EndView, is_empty, ends_with, end_view, last_of-push}

pub Leads-append : (links : List (Option ℕ)) (from : Option ℕ) (xs ys : List ℕ) (mid to : Option ℕ) → Leads links from xs mid → Leads links mid ys to → Leads links from (xs ++ ys) to
Leads-append links from [] ys mid to h k = subst (λ m. Leads links m ys to) (sym h) k
Leads-append links from (x ∷ xs) ys mid to h k = (h.0, Leads-append links (get_or links x None) xs ys mid to h.1 k)

pub Leads-parts : (links : List (Option ℕ)) (from : Option ℕ) (xs ys : List ℕ) (to : Option ℕ) → Leads links from (xs ++ ys) to → (mid : Option ℕ) × Leads links from xs mid × Leads links mid ys to
Leads-parts links from [] ys to h = (from, refl, h)
Leads-parts links from (x ∷ xs) ys to h =
    let rest = Leads-parts links (get_or links x None) xs ys to h.1 in
    (rest.0, (h.0, rest.1), rest.2)

-- links that lead through a list lead to each of its nodes
pub Leads-to : (links : List (Option ℕ)) (from : Option ℕ) (front : List ℕ) (n : ℕ) (back : List ℕ) (to : Option ℕ) → Leads links from (front ++ n ∷ back) to → Leads links from front (Some n)
Leads-to links from [] n back to h = h.0
Leads-to links from (x ∷ front) n back to h = (h.0, Leads-to links (get_or links x None) front n back to h.1)

-- links that lead through a list to the end lead from its first node
pub Leads-first : (links : List (Option ℕ)) (from : Option ℕ) (xs : List ℕ) → Leads links from xs None → from ≡ first_of xs
Leads-first links from [] h = h
Leads-first links from (x ∷ xs) h = h.0

-- links that are the same at the nodes of a list lead through it as well
pub Leads-set : (links : List (Option ℕ)) (n : ℕ) (other : Option ℕ) (from : Option ℕ) (xs : List ℕ) (to : Option ℕ) → Absent n xs → Leads links from xs to → Leads (set links n other) from xs to
Leads-set links n other from [] to a h = h
Leads-set links n other from (x ∷ xs) to a h =
    let same : get_or (set links n other) x None ≡ get_or links x None = get_or-set_other links n x other None (eqb-false x n a.0) in
    (h.0, subst (λ m. Leads (set links n other) m xs to) (sym same) (Leads-set links n other (get_or links x None) xs to a.1 h.1))

pub Leads-redirected : (links : List (Option ℕ)) (front : List ℕ) (other from : Option ℕ) (xs : List ℕ) (to : Option ℕ) → ((n : ℕ) → last_of front ≡ Some n → Absent n xs) → Leads links from xs to → Leads (redirected links (last_of front) other) from xs to
Leads-redirected links front other from xs to absent h = by_last (last_of front) absent
  where
    by_last : (node : Option ℕ) → ((n : ℕ) → node ≡ Some n → Absent n xs) → Leads (redirected links node other) from xs to
    by_last None a = h
    by_last (Some n) a = Leads-set links n other from xs to (a n refl) h

-- the last of a list is led to another
pub Leads-end : (links : List (Option ℕ)) (from : Option ℕ) (xs : List ℕ) (to other : Option ℕ) → Apart xs → ((n : ℕ) → last_of xs ≡ Some n → n < length links) → Leads links from xs to → Leads (redirected links (last_of xs) other) (end_by from (last_of xs) other) xs other
Leads-end links from xs to other apart there h = by_end xs (end_view xs) apart there h
  where
    by_end : (xs : List ℕ) → EndView xs → Apart xs → ((n : ℕ) → last_of xs ≡ Some n → n < length links) → Leads links from xs to → Leads (redirected links (last_of xs) other) (end_by from (last_of xs) other) xs other
    by_end _ is_empty apart there h = refl
    by_end _ (ends_with front n) apart there h =
        let last = last_of-push front n in
        let parts = Leads-parts links from front (n ∷ []) to h in
        let cut = Apart-cut front n [] apart in
        let before : Leads (set links n other) from front (Some n) = Leads-set links n other from front (Some n) cut.not_before (subst (Leads links from front) parts.2.0 parts.1) in
        let here : get_or (set links n other) n None ≡ other = get_or-set_same links n other None (there n last) in
        subst (λ node. Leads (redirected links node other) (end_by from node other) (front ++ n ∷ []) other) (sym last) (Leads-append (set links n other) from front (n ∷ []) (Some n) other before (refl, here))

-- ---- the way to the end

pub way-is : (links : List (Option ℕ)) (most : ℕ) (from : Option ℕ) (xs : List ℕ) → length xs ≤ most → Leads links from xs None → way links most from ≡ xs
way-is links zero from [] few h = refl
way-is links zero from (x ∷ xs) few h = absurd (omega arith)
way-is links (suc most) from [] few h = ap (way links (suc most)) h
way-is links (suc most) from (x ∷ xs) few h = ap (way links (suc most)) h.0 ∙ ap (λ ys. x ∷ ys) (way-is links most (get_or links x None) xs (omega arith) h.1)

-- ---- a node is taken out, and put back

-- the node before it is led past it
pub Leads-unlinked : (links : List (Option ℕ)) (first : Option ℕ) (front : List ℕ) (n : ℕ) (back : List ℕ) → Apart (front ++ n ∷ back) → ((m : ℕ) → last_of front ≡ Some m → m < length links) → Leads links first (front ++ n ∷ back) None → Leads (redirected links (last_of front) (get_or links n None)) (end_by first (last_of front) (get_or links n None)) (front ++ back) None
Leads-unlinked links first front n back apart there h =
    let next = get_or links n None in
    let parts = Leads-parts links first front (n ∷ back) None h in
    let cut = Apart-cut front n back apart in
    let to_front = Leads-end links first front parts.0 next (Apart-parts front back cut.joined).0 there parts.1 in
    let to_back = Leads-redirected links front next next back None (Absent-after_last front back cut.joined) parts.2.1 in
    Leads-append _ _ front back next None to_front to_back

-- the node before its place is led to it, and it still leads to the one after
pub Leads-relinked : (links : List (Option ℕ)) (first : Option ℕ) (front : List ℕ) (n : ℕ) (back : List ℕ) → Apart (front ++ n ∷ back) → ((m : ℕ) → last_of front ≡ Some m → m < length links) → get_or links n None ≡ first_of back → Leads links first (front ++ back) None → Leads (redirected links (last_of front) (Some n)) (end_by first (last_of front) (Some n)) (front ++ n ∷ back) None
Leads-relinked links first front n back apart there keeps h =
    let parts = Leads-parts links first front back None h in
    let cut = Apart-cut front n back apart in
    let to_front = Leads-end links first front parts.0 (Some n) (Apart-parts front back cut.joined).0 there parts.1 in
    let after : get_or links n None ≡ parts.0 = keeps ∙ sym (Leads-first links parts.0 back parts.2) in
    let from_node : Leads links (Some n) (n ∷ back) None = (refl, subst (λ m. Leads links m back None) (sym after) parts.2) in
    let to_back = Leads-redirected links front (Some n) (Some n) (n ∷ back) None (Absent-after_last front (n ∷ back) apart) from_node in
    Leads-append _ _ front (n ∷ back) (Some n) None to_front to_back
