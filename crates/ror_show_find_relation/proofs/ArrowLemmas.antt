-- The arrows of a relation: what the test of one tells, and where paths along them lead.
use Rattle.std.proofs.Common.{◌≡◌, ℕ, zero, suc, ◌+◌, ◌<◌, ◌≤◌, Bool, true, false, not, List, [], ◌∷◌, length, Option, Some, None, refl, ap, arith, inl, inr, subst}
use Rattle.std.specs.Prelude.{◌⊎◌, ◌↔◌, Contains, if◌then◌else◌}
use Rattle.ror_show_find_relation.specs.Relations.{Square, above, equals, IsAbove, IsTransitive, IsAcyclic, PathOf, Path, some_below}
use Rattle.ror_show_find_relation.specs.Arrows.{IsArrow, is_between, is_arrow, arrow_of, arrows_from, arrows}
use Rattle.ror_show_find_relation.specs.Levels.{level_at, AreLevels}
use Rattle.ror_show_find_relation.specs.OrderLaws.{ClosureOf}
use Rattle.ror_show_ground.proofs.Tests.{both-true, not-true, nothing-in, only-in, one-in, in-pieces, InPiece, of-pieces}
use Rattle.ror_show_find_relation.proofs.Below.{some_there, some_found}
use Rattle.ror_show_find_relation.proofs.Parts.{above-there, split, joined}
use Rattle.ror_show_find_relation.proofs.Paths.{joined-paths, path-by, path-through, path-is-step, transitive-acyclic}
use Rattle.ror_show_find_relation.proofs.LevelLemmas.{Levelled, levelled}
use Rattle.ror_show_find_relation.proofs.Cycles.{acyclic-levelled}

-- ---- the test of one

pub bare-arrow : (r : Square) (a b : ℕ) → IsAbove r a b → some_below (is_between r a b) (length r) ≡ false → IsArrow r a b
bare-arrow r a b over none = record {
  above = over;
  bare = λ c p q. (let between : is_between r a b c ≡ true = rw (p, q) in let one = some_there (is_between r a b) (length r) c (above-there r a c p).1 between in cc);
}

pub of-is_arrow : (r : Square) (a b : ℕ) → is_arrow r a b ≡ true → IsArrow r a b
of-is_arrow r a b is =
    let parts = both-true (above r a b) (not (some_below (is_between r a b) (length r))) is in
    bare-arrow r a b parts.0 (not-true (some_below (is_between r a b) (length r)) parts.1)

pub to-is_arrow : (r : Square) (a b : ℕ) → IsArrow r a b → is_arrow r a b ≡ true
to-is_arrow r a b x = by (some_below (is_between r a b) (length r)) refl
  where
    by : (t : Bool) → some_below (is_between r a b) (length r) ≡ t → is_arrow r a b ≡ true
    by true is =
        let one = some_found (is_between r a b) (length r) is in
        let parts = both-true (above r a one.0) (above r one.0 b) one.2 in
        absurd (x.bare one.0 parts.0 parts.1)
    by false is = let over = x.above in rw (over, is)

-- ---- the list of them

pub listed : (r : Square) (a b : ℕ) → Contains {X = ℕ × ℕ} (arrows r) (a, b) ↔ IsArrow r a b
listed r a b = (found, put)
  where
    piece : (i j : ℕ) (t : Bool) → is_arrow r i j ≡ t → Contains {X = ℕ × ℕ} (if t then (i, j) ∷ [] else []) (a, b) → IsArrow r a b
    piece i j false is there = absurd (nothing-in (a, b) there)
    piece i j true is there =
        let same : (i, j) ≡ (a, b) = only-in (a, b) (i, j) there in
        let first : i ≡ a = ap (λ (p : ℕ × ℕ). p.0) same in
        let second : j ≡ b = ap (λ (p : ℕ × ℕ). p.1) same in
        subst (λ (x : ℕ). IsArrow r x b) first (subst (IsArrow r i) second (of-is_arrow r i j is))

    found : Contains {X = ℕ × ℕ} (arrows r) (a, b) → IsArrow r a b
    found there =
        let from : InPiece (arrows_from r) 0 (length r) (a, b) = of-pieces (arrows_from r) 0 (length r) (a, b) there in
        let to : InPiece (arrow_of r from.at) 0 (length r) (a, b) = of-pieces (arrow_of r from.at) 0 (length r) (a, b) from.there in
        piece from.at to.at (is_arrow r from.at to.at) refl to.there

    put : IsArrow r a b → Contains {X = ℕ × ℕ} (arrows r) (a, b)
    put x =
        let ends = above-there r a b x.above in
        let here : Contains {X = ℕ × ℕ} (arrow_of r a b) (a, b) = rw (to-is_arrow r a b x) (one-in (a, b)) in
        in-pieces (arrows_from r) 0 (length r) a (a, b) (omega arith) (omega (arith, ends.0)) (in-pieces (arrow_of r a) 0 (length r) b (a, b) (omega arith) (omega (arith, ends.1)) here)

-- ---- where paths along them lead

-- a number of each alternative that is greater for what is below
abbrev pub Ranks : Square → (ℕ → ℕ) → Type 0
Ranks r rank = (a b : ℕ) → IsAbove r a b → rank a < rank b

pub climb : (r : Square) (rank : ℕ → ℕ) → Ranks r rank → (gap a b : ℕ) → rank b ≤ rank a + gap → IsAbove r a b → Path (IsArrow r) a b
climb r rank ranks zero a b near over = let less = ranks a b over in absurd (omega arith)
climb r rank ranks (suc gap) a b near over = by (some_below (is_between r a b) (length r)) refl (λ x y. climb r rank ranks gap x y)
  where
    by : (t : Bool) → some_below (is_between r a b) (length r) ≡ t → ((x y : ℕ) → rank y ≤ rank x + gap → IsAbove r x y → Path (IsArrow r) x y) → Path (IsArrow r) a b
    by false is nearer = (0, bare-arrow r a b over is)
    by true is nearer =
        let one = some_found (is_between r a b) (length r) is in
        let parts = both-true (above r a one.0) (above r one.0 b) one.2 in
        let low = ranks a one.0 parts.0 in
        let high = ranks one.0 b parts.1 in
        joined-paths (IsArrow r) a one.0 b (nearer a one.0 (omega arith) parts.0) (nearer one.0 b (omega arith) parts.1)

-- the number of a level, 0 of none
level-number : Option ℕ → ℕ
level-number (Some k) = k
level-number None = 0

levels-rank : (r : Square) → IsAcyclic r → (xs : List (Option ℕ)) → AreLevels r xs → Ranks r (λ a. level-number (level_at xs a))
unfolding level-number
levels-rank r acyclic xs p a b over = by (level_at xs b) refl
  where
    by : (o : Option ℕ) → level_at xs b ≡ o → level-number (level_at xs a) < level-number (level_at xs b)
    by None none = absurd (acyclic-levelled r xs acyclic p b (above-there r a b over).1 none)
    by (Some k) some =
        let before = (p.some b k some).under_all a over in
        let e : level-number (level_at xs a) ≡ before.level = ap level-number before.at in
        let f : level-number (level_at xs b) ≡ k = ap level-number some in
        let less = before.before in
        omega arith

pub above-by-arrows : (r : Square) → IsAcyclic r → (a b : ℕ) → IsAbove r a b → Path (IsArrow r) a b
above-by-arrows r acyclic a b over =
    let l : Levelled r = levelled r in
    let rank : ℕ → ℕ = λ x. level-number (level_at l.levels x) in
    climb r (λ x. level-number (level_at l.levels x)) (levels-rank r acyclic l.levels l.those) (level-number (level_at l.levels b)) a b (omega arith) over

pub closure : (r : Square) → ClosureOf r
closure r = record {
  acyclic = λ acyclic a b. (λ p. (p.0, path-by (IsArrow r) (IsAbove r) (λ x y arrow. arrow.above) p.0 a b p.1), λ p. path-through (IsAbove r) (IsArrow r) (above-by-arrows r acyclic) p.0 a b p.1);
  transitive = λ transitive a b. (λ p. to_above transitive a b p, λ over. above-by-arrows r (transitive-acyclic r transitive) a b over);
  whole = λ transitive a b. (λ over. from_whole transitive a b (split r a b over), λ parts. joined r a b (to_whole transitive a b parts));
}
  where
    to_above : IsTransitive r → (a b : ℕ) → Path (IsArrow r) a b → IsAbove r a b
    to_above transitive a b p = path-is-step r transitive p.0 a b (path-by (IsArrow r) (IsAbove r) (λ x y arrow. arrow.above) p.0 a b p.1)

    from_whole : IsTransitive r → (a b : ℕ) → IsAbove r a b ⊎ (equals r a b ≡ true) → Path (IsArrow r) a b ⊎ (equals r a b ≡ true)
    from_whole transitive a b (inl over) = inl (above-by-arrows r (transitive-acyclic r transitive) a b over)
    from_whole transitive a b (inr same) = inr same

    to_whole : IsTransitive r → (a b : ℕ) → Path (IsArrow r) a b ⊎ (equals r a b ≡ true) → IsAbove r a b ⊎ (equals r a b ≡ true)
    to_whole transitive a b (inl p) = inl (path-is-step r transitive p.0 a b (path-by (IsArrow r) (IsAbove r) (λ x y arrow. arrow.above) p.0 a b p.1))
    to_whole transitive a b (inr same) = inr same

-- an arrow is among any pairs of the strict part that have it for their closure
pub needed : (r : Square) (chosen : ℕ → ℕ → Bool) → IsTransitive r → ((a b : ℕ) → chosen a b ≡ true → IsAbove r a b) → (a b : ℕ) → IsArrow r a b → (n : ℕ) → PathOf (λ x y. chosen x y ≡ true) n a b → chosen a b ≡ true
needed r chosen transitive within a b arrow zero one = one
needed r chosen transitive within a b arrow (suc n) p =
    let rest : IsAbove r p.0 b = path-is-step r transitive n p.0 b (path-by (λ x y. chosen x y ≡ true) (IsAbove r) within n p.0 b p.2) in
    absurd (arrow.bare p.0 (within a p.0 p.1) rest)

pub some_between : (r : Square) (a b c : ℕ) → above r a c ≡ true → above r c b ≡ true → some_below (is_between r a b) (length r) ≡ true
some_between r a b c p q = some_there (is_between r a b) (length r) c (above-there r a c p).1 (rw (p, q))
