-- That each relation has levels and one list of them, and that they are lengths of longest chains.
use Rattle.std.proofs.Common.{◌≡◌, ℕ, zero, suc, ◌+◌, ◌-◌, ◌<◌, ◌≤◌, Bool, true, false, List, [], ◌∷◌, length, Option, Some, None, refl, sym, ap, ◌∙◌, arith, inl, inr}
use Rattle.std.specs.Prelude.{◌⊎◌, ◌==◌, replicate}
use Rattle.std.proofs.lemmas.Bool.{eqb-true, eqb-false}
use Rattle.ror_show_find_relation.specs.Relations.{Square}
use Rattle.ror_show_find_relation.specs.Levels.{level_at, IsInLevel, AreLevels, ChainTo}
use Rattle.ror_show_find_relation.specs.Passes.{next_levels}
use Rattle.ror_show_ground.proofs.Tests.{less_or}
use Rattle.ror_show_find_relation.proofs.Parts.{above-there}
use Rattle.ror_show_find_relation.proofs.Passing.{Levels, left, Upto, there, at_start, one_more, none_left, as_many_left, fewer_left, all-left}

-- ---- each relation has levels

pub record Levelled (r : Square) : Type 0 where
  pub levels : List (Option ℕ)
  pub those : AreLevels r levels

levelled-from : (r : Square) (more k : ℕ) (found : Levels) → Upto r found k → left found ≤ more → more + k ≤ length r → Levelled r
levelled-from r zero k found upto few room = record { levels = found; those = none_left r found k upto (omega arith) }
levelled-from r (suc more) k found upto few room = by (left (next_levels r found (suc k)) == left found) refl (λ fewer. levelled-from r more (suc k) (next_levels r found (suc k)) (one_more r found k upto (omega arith)) (omega arith) (omega arith))
  where
    by : (t : Bool) → (left (next_levels r found (suc k)) == left found) ≡ t → (left (next_levels r found (suc k)) < left found → Levelled r) → Levelled r
    by true is go = record { levels = found; those = as_many_left r found k upto (eqb-true (left (next_levels r found (suc k))) (left found) is) }
    by false is go = go (fewer_left r found k upto (eqb-false (left (next_levels r found (suc k))) (left found) is))

pub levelled : (r : Square) → Levelled r
levelled r = levelled-from r (length r) 0 (replicate (length r) None) (at_start r) (let all = all-left (length r) in omega arith) (omega arith)

-- ---- and one list of them

same-level : (r : Square) (xs ys : Levels) → AreLevels r xs → AreLevels r ys → (most a j : ℕ) → j ≤ most → level_at xs a ≡ Some j → level_at ys a ≡ Some j
same-level r xs ys p q zero a j low is = let x = p.some a j is in absurd (omega (arith, x.first))
same-level r xs ys p q (suc most) a j low is = by (level_at ys a) refl (λ c i less at. same-level r xs ys p q most c i less at)
  where
    within : a < length r
    within = let w = there xs a j is in let e = p.each in omega arith

    by : (o : Option ℕ) → level_at ys a ≡ o → ((c i : ℕ) → i ≤ most → level_at xs c ≡ Some i → level_at ys c ≡ Some i) → level_at ys a ≡ Some j
    by None none before =
        let h = q.none a within none in
        let b = (p.some a j is).under_all h.upper h.above in
        let there = before h.upper b.level (let l = b.before in omega arith) b.at in
        let nowhere = h.at in
        absurd cc
    by (Some l) some before =
        let x = p.some a j is in
        let y = q.some a l some in
        let upto : l ≤ j = at_most (less_or 1 l) x y before in
        let from : j ≤ l = at_least (less_or 1 j) x y before in
        some ∙ ap Some (omega arith)
      where
        at_most : (1 < l) ⊎ (l ≤ 1) → IsInLevel r xs a j → IsInLevel r ys a l → ((c i : ℕ) → i ≤ most → level_at xs c ≡ Some i → level_at ys c ≡ Some i) → l ≤ j
        at_most (inl more) x y before =
            let h = y.under_one more in
            let b = x.under_all h.upper h.above in
            let there = before h.upper b.level (let l = b.before in omega arith) b.at in
            let here = h.at in
            let same : l - 1 ≡ b.level = cc in
            let less = b.before in
            omega arith
        at_most (inr few) x y before = let f = x.first in omega arith

        at_least : (1 < j) ⊎ (j ≤ 1) → IsInLevel r xs a j → IsInLevel r ys a l → ((c i : ℕ) → i ≤ most → level_at xs c ≡ Some i → level_at ys c ≡ Some i) → j ≤ l
        at_least (inl more) x y before =
            let h = x.under_one more in
            let there = before h.upper (j - 1) (omega arith) h.at in
            let b = y.under_all h.upper h.above in
            let here = b.at in
            let same : j - 1 ≡ b.level = cc in
            let less = b.before in
            omega arith
        at_least (inr few) x y before = let f = y.first in omega arith

same-levels-at : (r : Square) (xs ys : Levels) → AreLevels r xs → AreLevels r ys → (a : ℕ) → level_at xs a ≡ level_at ys a
same-levels-at r xs ys p q a = by (level_at xs a) refl (level_at ys a) refl
  where
    by : (o : Option ℕ) → level_at xs a ≡ o → (u : Option ℕ) → level_at ys a ≡ u → level_at xs a ≡ level_at ys a
    by (Some j) is u other = is ∙ sym (same-level r xs ys p q j a j (omega arith) is)
    by None is (Some j) other = let back = same-level r ys xs q p j a j (omega arith) other in absurd cc
    by None is None other = is ∙ sym other

lists-same : (xs ys : Levels) → length xs ≡ length ys → ((i : ℕ) → level_at xs i ≡ level_at ys i) → xs ≡ ys
lists-same [] [] same each = refl
lists-same [] (y ∷ ys) same each = absurd (omega arith)
lists-same (x ∷ xs) [] same each = absurd (omega arith)
lists-same (x ∷ xs) (y ∷ ys) same each = let first : x ≡ y = each 0 in let rest : xs ≡ ys = lists-same xs ys (omega arith) (λ i. each (suc i)) in cc

pub one-levelling : (r : Square) (xs ys : Levels) → AreLevels r xs → AreLevels r ys → xs ≡ ys
one-levelling r xs ys p q = lists-same xs ys (p.each ∙ sym q.each) (same-levels-at r xs ys p q)

-- ---- chains

pub chain-of-level : (r : Square) (xs : Levels) → AreLevels r xs → (n a : ℕ) → level_at xs a ≡ Some (suc n) → ChainTo r n a
chain-of-level r xs p zero a is = let w = there xs a 1 is in let e = p.each in omega arith
chain-of-level r xs p (suc n) a is =
    let h = (p.some a (suc (suc n)) is).under_one (omega arith) in
    (h.upper, h.above, chain-of-level r xs p n h.upper (h.at ∙ ap Some (omega arith)))

pub chain-below-level : (r : Square) (xs : Levels) → AreLevels r xs → (n a k : ℕ) → level_at xs a ≡ Some k → ChainTo r n a → n < k
chain-below-level r xs p zero a k is chain = (p.some a k is).first
chain-below-level r xs p (suc n) a k is chain =
    let b = (p.some a k is).under_all chain.0 chain.1 in
    let shorter = chain-below-level r xs p n chain.0 b.level b.at chain.2 in
    let less = b.before in
    omega arith

pub endless-chains : (r : Square) (xs : Levels) → AreLevels r xs → (n a : ℕ) → a < length r → level_at xs a ≡ None → ChainTo r n a
endless-chains r xs p zero a within none = within
endless-chains r xs p (suc n) a within none =
    let h = p.none a within none in
    (h.upper, h.above, endless-chains r xs p n h.upper (above-there r h.upper a h.above).0 h.at)
