-- The last of the first numbers that passes a test, and which lines follow one another.
use Rattle.std.proofs.Common.{◌≡◌, ◌≢◌, ℕ, zero, suc, ◌<◌, Bool, true, false, [], length, Option, Some, None, refl, sym, ap, arith, subst, ◌∙◌}
use Rattle.std.specs.Prelude.{◌==◌, Contains, if◌then◌else◌}
use Rattle.std.proofs.lemmas.Bool.{eqb-true, eqb-false}
use Rattle.ror_show_ground.proofs.Tests.{nothing-in, only-in, one-in, in-pieces, InPiece, of-pieces}
use Rattle.ror_show_ground.specs.Turns.{counts_at, desk_of, last_below, pair_with, turn_of, turns}
use Rattle.ror_show_ground.specs.TurnLaws.{IsTurn, TurnsAreThose}

-- it is one of them, passes, and none after it does
pub record IsLast (p : ℕ → Bool) (n k : ℕ) : Type 0 where
  pub below : k < n
  pub passes : p k ≡ true
  pub none_after : (m : ℕ) → k < m → m < n → p m ≡ false

pub last-found : (p : ℕ → Bool) (n k : ℕ) → last_below p n ≡ Some k → IsLast p n k
last-found p zero k is = absurd cc
last-found p (suc n) k is = by (p n) refl is (last-found p n k)
  where
    after : p n ≡ false → IsLast p n k → (m : ℕ) → k < m → m < suc n → p m ≡ false
    after fails before m later early = at (m == n) refl
      where
        at : (e : Bool) → (m == n) ≡ e → p m ≡ false
        at true e = let same : m ≡ n = eqb-true m n e in subst (λ (i : ℕ). p i ≡ false) (sym same) fails
        at false e = let apart : m ≢ n = eqb-false m n e in before.none_after m later (omega arith)

    by : (t : Bool) → p n ≡ t → (if t then Some n else last_below p n) ≡ Some k → (last_below p n ≡ Some k → IsLast p n k) → IsLast p (suc n) k
    by true there same before =
        let here : n ≡ k = cc in
        record { below = omega arith; passes = subst (λ (i : ℕ). p i ≡ true) here there; none_after = λ m later early. absurd (omega arith) }
    by false fails same before =
        let rest : IsLast p n k = before same in
        record { below = omega (arith, rest.below); passes = rest.passes; none_after = after fails rest }

pub last-is : (p : ℕ → Bool) (n k : ℕ) → IsLast p n k → last_below p n ≡ Some k
last-is p zero k is = absurd (omega (arith, is.below))
last-is p (suc n) k is = by (p n) refl (k == n) refl (last-is p n k)
  where
    by : (t : Bool) → p n ≡ t → (e : Bool) → (k == n) ≡ e → (IsLast p n k → last_below p n ≡ Some k) → (if t then Some n else last_below p n) ≡ Some k
    by true there true e before = let same : k ≡ n = eqb-true k n e in ap Some (sym same)
    by true there false e before =
        let apart : k ≢ n = eqb-false k n e in
        let fails : p n ≡ false = is.none_after n (omega (arith, is.below)) (omega arith) in
        absurd cc
    by false fails true e before =
        let same : k ≡ n = eqb-true k n e in
        let there : p n ≡ true = subst (λ (i : ℕ). p i ≡ true) same is.passes in
        absurd cc
    by false fails false e before =
        let apart : k ≢ n = eqb-false k n e in
        before (record { below = omega (arith, is.below); passes = is.passes; none_after = λ m later early. is.none_after m later (omega arith) })

-- the one before a number is passed over, where it doesn't pass
pub last_step : (p : ℕ → Bool) (n k : ℕ) → n ≡ suc k → p k ≡ false → last_below p n ≡ last_below p k
last_step p n k is fails = ap (last_below p) is ∙ ap (λ (t : Bool). if t then Some k else last_below p k) fails

pub turns-are : TurnsAreThose
turns-are s kept before now = (found, put)
  where
    of_pair : (n : ℕ) (last : Option ℕ) → Contains {X = ℕ × ℕ} (pair_with n last) (before, now) → (last ≡ Some before) × (n ≡ now)
    of_pair n None there = absurd (nothing-in (before, now) there)
    of_pair n (Some k) there =
        let same : (k, n) ≡ (before, now) = only-in (before, now) (k, n) there in
        (ap (λ (q : ℕ × ℕ). Some q.0) same, ap (λ (q : ℕ × ℕ). q.1) same)

    of_turn : (n : ℕ) → n < length kept → (t : Bool) → counts_at s kept (desk_of s kept n) n ≡ t → Contains {X = ℕ × ℕ} (if t then pair_with n (last_below (counts_at s kept (desk_of s kept n)) n) else []) (before, now) → IsTurn s kept before now
    of_turn n below false fails there = absurd (nothing-in (before, now) there)
    of_turn n below true passes there =
        let is = of_pair n (last_below (counts_at s kept (desk_of s kept n)) n) there in
        let last : IsLast (counts_at s kept (desk_of s kept n)) n before = last-found (counts_at s kept (desk_of s kept n)) n before is.0 in
        subst (λ (i : ℕ). IsTurn s kept before i) is.1
        (record { within = below; answered = passes; earlier = last.below; answered_before = last.passes; none_between = last.none_after })

    found : Contains {X = ℕ × ℕ} (turns s kept) (before, now) → IsTurn s kept before now
    found there =
        let piece : InPiece (turn_of s kept) 0 (length kept) (before, now) = of-pieces (turn_of s kept) 0 (length kept) (before, now) there in
        of_turn piece.at (omega (arith, piece.most)) (counts_at s kept (desk_of s kept piece.at) piece.at) refl piece.there

    put : IsTurn s kept before now → Contains {X = ℕ × ℕ} (turns s kept) (before, now)
    put is =
        let last : last_below (counts_at s kept (desk_of s kept now)) now ≡ Some before = last-is (counts_at s kept (desk_of s kept now)) now before (record { below = is.earlier; passes = is.answered_before; none_after = is.none_between }) in
        let pair : Contains {X = ℕ × ℕ} (pair_with now (last_below (counts_at s kept (desk_of s kept now)) now)) (before, now) =
        subst (λ (o : Option ℕ). Contains {X = ℕ × ℕ} (pair_with now o) (before, now)) (sym last) (one-in (before, now)) in
        let here : Contains {X = ℕ × ℕ} (turn_of s kept now) (before, now) =
        subst (λ (t : Bool). Contains {X = ℕ × ℕ} (if t then pair_with now (last_below (counts_at s kept (desk_of s kept now)) now) else []) (before, now)) (sym is.answered) pair in
        in-pieces (turn_of s kept) 0 (length kept) now (before, now) (omega arith) (omega (arith, is.within)) here
