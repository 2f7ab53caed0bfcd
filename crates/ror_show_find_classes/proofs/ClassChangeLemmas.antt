-- The times that follow one another are among all.
use Rattle.std.proofs.Common.{◌≡◌, ℕ, List, length, get_or, Some, sym, arith}
use Rattle.std.specs.Prelude.{Contains, slice_get}
use Rattle.std.specs.List.{AllByRecursion}
use Rattle.std.proofs.lemmas.Option.{slice_get_within}
use Rattle.ror_text.proofs.Everywhere.{all_by_places}
use Rattle.ror_show_ground.proofs.Lists.{at_place}
use Rattle.ror_show_find_classes.specs.declared.value.ClassTime.{ClassTime}
use Rattle.ror_show_find_classes.specs.TimeTurns.{turns}
use Rattle.ror_show_find_classes.specs.ClassChanges.{AreWithin}
use Rattle.ror_show_find_classes.proofs.TimeTurnLemmas.{turns-are}

contains_at : {X : Type 0} (xs : List X) (i : ℕ) (x : X) → slice_get xs i ≡ Some x → Contains xs x
contains_at xs i x there =
    let within = slice_get_within xs i x there in
    let same : get_or xs i x ≡ x = let p = sym (at_place xs i x within) in let q = there in cc in
    (i, within, same)

pub turns_within : (times : List ClassTime) → AllByRecursion (AreWithin (length times)) (turns times)
turns_within times = all_by_places (AreWithin (length times)) (turns times) each
  where
    each : (i : ℕ) (turn : ℕ × ℕ) → slice_get (turns times) i ≡ Some turn → AreWithin (length times) turn
    each i turn there =
        let is = (turns-are times turn.0 turn.1).0 (contains_at (turns times) i turn there) in
        let now = slice_get_within times turn.1 is.time is.there in
        let before = is.earlier in
        (omega (arith, now, before), now)
