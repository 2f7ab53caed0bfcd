-- The pairs of a list are those of which that became.
use Rattle.std.proofs.Common.{◌≡◌, ℕ, ◌<◌, Bool, true, false, [], ◌∷◌, length, Option, Some, None, refl, ap, arith, subst, inl, inr, ◌∙◌}
use Rattle.std.specs.Prelude.{◌⊎◌, ◌==◌, Contains, max, if◌then◌else◌}
use Rattle.ror_show_find_relation.specs.Relations.{Square, holds}
use Rattle.ror_show_ground.proofs.Tests.{nothing-in, only-in, one-in, in-pieces, InPiece, of-pieces}
use Rattle.ror_show_find_relation.proofs.Parts.{first-there, second-there}
use Rattle.ror_show_find_relation.specs.declared.change.Change.{Change}
use Rattle.ror_show_find_relation.specs.declared.change.Change.TheVariants as changes
use Rattle.ror_show_find_relation.specs.Changes.{alone, change_by, change_of, is_same, is_change, has_change, pair_of, pairs_from, changed_pairs}
use Rattle.ror_show_find_relation.specs.ChangeLaws.{ListedAreThose}

of_same : (found change : Change) → is_same found change ≡ true → found ≡ change
of_same changes.Stayed changes.Stayed is = refl
of_same changes.TurnedRound changes.TurnedRound is = refl
of_same changes.NoLonger changes.NoLonger is = refl
of_same changes.New changes.New is = refl
of_same found change is = absurd cc

to_same : (change : Change) → is_same change change ≡ true
to_same changes.Stayed = refl
to_same changes.TurnedRound = refl
to_same changes.NoLonger = refl
to_same changes.New = refl

of_change : (change : Change) (found : Option Change) → is_change change found ≡ true → found ≡ Some change
of_change change None is = absurd cc
of_change change (Some found) is = ap Some (of_same found change is)

-- what changed or stayed held before or holds now
some_held : (e held kept came went : Bool) (change : Change) → (if e then None else change_by held kept came went) ≡ Some change → (held ≡ true) ⊎ (kept ≡ true)
some_held true held kept came went change is = absurd cc
some_held false true kept came went change is = inl refl
some_held false false true came went change is = inr refl
some_held false false false came went change is = absurd cc

-- of alternatives that are there
there : (before now : Square) (change : Change) (a b : ℕ) → change_of before now a b ≡ Some change → (a < max (length before) (length now)) × (b < max (length before) (length now))
there before now change a b is = by (some_held (a == b) (holds before a b) (holds now a b) (alone now before b a) (alone before now b a) change is)
  where
    by : (holds before a b ≡ true) ⊎ (holds now a b ≡ true) → (a < max (length before) (length now)) × (b < max (length before) (length now))
    by (inl held) = let first = first-there before a b held in let second = second-there before a b held in (omega (arith, first), omega (arith, second))
    by (inr held) = let first = first-there now a b held in let second = second-there now a b held in (omega (arith, first), omega (arith, second))

pub listed : ListedAreThose
listed before now change a b = (found, put)
  where
    size : ℕ
    size = max (length before) (length now)

    piece : (i j : ℕ) (t : Bool) → has_change before now change i j ≡ t → Contains {X = ℕ × ℕ} (if t then (i, j) ∷ [] else []) (a, b) → change_of before now a b ≡ Some change
    piece i j false is there = absurd (nothing-in (a, b) there)
    piece i j true is there =
        let same : (i, j) ≡ (a, b) = only-in (a, b) (i, j) there in
        let first : i ≡ a = ap (λ (p : ℕ × ℕ). p.0) same in
        let second : j ≡ b = ap (λ (p : ℕ × ℕ). p.1) same in
        subst (λ (x : ℕ). change_of before now x b ≡ Some change) first (subst (λ (y : ℕ). change_of before now i y ≡ Some change) second (of_change change (change_of before now i j) is))

    found : Contains {X = ℕ × ℕ} (changed_pairs before now change) (a, b) → change_of before now a b ≡ Some change
    found there =
        let from : InPiece (pairs_from before now change (max (length before) (length now))) 0 (max (length before) (length now)) (a, b) = of-pieces (pairs_from before now change (max (length before) (length now))) 0 (max (length before) (length now)) (a, b) there in
        let to : InPiece (pair_of before now change from.at) 0 (max (length before) (length now)) (a, b) = of-pieces (pair_of before now change from.at) 0 (max (length before) (length now)) (a, b) from.there in
        piece from.at to.at (has_change before now change from.at to.at) refl to.there

    put : change_of before now a b ≡ Some change → Contains {X = ℕ × ℕ} (changed_pairs before now change) (a, b)
    put is =
        let ends = there before now change a b is in
        let tested : has_change before now change a b ≡ true = ap (is_change change) is ∙ to_same change in
        let here : Contains {X = ℕ × ℕ} (pair_of before now change a b) (a, b) = rw tested (one-in (a, b)) in
        in-pieces (pairs_from before now change (max (length before) (length now))) 0 (max (length before) (length now)) a (a, b) (omega arith) (omega (arith, ends.0)) (in-pieces (pair_of before now change a) 0 (max (length before) (length now)) b (a, b) (omega arith) (omega (arith, ends.1)) here)
