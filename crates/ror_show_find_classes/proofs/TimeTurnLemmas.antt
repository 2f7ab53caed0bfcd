-- Which times follow one another.
use Rattle.std.proofs.Common.{◌≡◌, ℕ, [], length, Option, Some, None, refl, sym, ap, arith, subst}
use Rattle.std.specs.Prelude.{Contains, slice_get}
use Rattle.std.specs.Option.{option_map_or}
use Rattle.std.proofs.lemmas.Option.{slice_get_within}
use Rattle.ror_show_ground.proofs.Tests.{nothing-in, only-in, one-in, in-pieces, InPiece, of-pieces}
use Rattle.ror_show_ground.specs.Turns.{last_below, pair_with}
use Rattle.ror_show_ground.proofs.TurnLemmas.{IsLast, last-found, last-is}
use Rattle.ror_show_find_classes.specs.declared.value.ClassTime.{ClassTime}
use Rattle.ror_show_find_classes.specs.TimeTurns.{is_at, turn_at, turn_of, turns}
use Rattle.ror_show_find_classes.specs.ChangeLaws.{IsTurn, TurnsAreThose}

of_pair : (before now n : ℕ) (last : Option ℕ) → Contains {X = ℕ × ℕ} (pair_with n last) (before, now) → (last ≡ Some before) × (n ≡ now)
of_pair before now n None there = absurd (nothing-in (before, now) there)
of_pair before now n (Some k) there =
    let same : (k, n) ≡ (before, now) = only-in (before, now) (k, n) there in
    (ap (λ (q : ℕ × ℕ). Some q.0) same, ap (λ (q : ℕ × ℕ). q.1) same)

pub turns-are : TurnsAreThose
turns-are times before now = (found, put)
  where
    of_turn : (n : ℕ) (o : Option ClassTime) → slice_get times n ≡ o → Contains {X = ℕ × ℕ} (option_map_or (λ x. turn_at times n x.desk) o []) (before, now) → IsTurn times before now
    of_turn n None is there = absurd (nothing-in (before, now) there)
    of_turn n (Some time) is there =
        let pair = of_pair before now n (last_below (is_at times time.desk) n) there in
        let last : IsLast (is_at times time.desk) n before = last-found (is_at times time.desk) n before pair.0 in
        subst (λ (i : ℕ). IsTurn times before i) pair.1
        (record { time = time; there = is; earlier = last.below; of_desk = last.passes; none_between = last.none_after })

    found : Contains {X = ℕ × ℕ} (turns times) (before, now) → IsTurn times before now
    found there =
        let piece : InPiece (turn_of times) 0 (length times) (before, now) = of-pieces (turn_of times) 0 (length times) (before, now) there in
        of_turn piece.at (slice_get times piece.at) refl piece.there

    put : IsTurn times before now → Contains {X = ℕ × ℕ} (turns times) (before, now)
    put is =
        let last : last_below (is_at times is.time.desk) now ≡ Some before = last-is (is_at times is.time.desk) now before (record { below = is.earlier; passes = is.of_desk; none_after = is.none_between }) in
        let pair : Contains {X = ℕ × ℕ} (pair_with now (last_below (is_at times is.time.desk) now)) (before, now) =
        subst (λ (o : Option ℕ). Contains {X = ℕ × ℕ} (pair_with now o) (before, now)) (sym last) (one-in (before, now)) in
        let here : Contains {X = ℕ × ℕ} (turn_of times now) (before, now) =
        subst (λ (o : Option ClassTime). Contains {X = ℕ × ℕ} (option_map_or (λ x. turn_at times now x.desk) o []) (before, now)) (sym is.there) pair in
        in-pieces (turn_of times) 0 (length times) now (before, now) (omega arith) (omega (arith, slice_get_within times now is.time is.there)) here
