-- The lines that are compared are among the kept ones, and what is found of one more.
use Rattle.std.proofs.Common.{◌≡◌, ℕ, ◌<◌, List, length, get_or, Some, sym, arith}
use Rattle.std.specs.Prelude.{Contains, slice_get}
use Rattle.std.specs.List.{AllByRecursion}
use Rattle.std.proofs.lemmas.Option.{slice_get_within}
use Rattle.ror_text.proofs.Everywhere.{all_at, all_by_places}
use Rattle.ror_session.specs.declared.session.Session.{Session}
use Rattle.ror_bench.specs.declared.kept.KeptLine.{KeptLine}
use Rattle.ror_show_ground.specs.Turns.{turns}
use Rattle.ror_show_ground.proofs.TurnLemmas.{turns-are}
use Rattle.ror_show_ground.proofs.Lists.{at_place}
use Rattle.ror_show_find_reasons.specs.Pairs.{AreWithin}

-- what holds of each element holds of the one that is read at a place
pub held_at : {X : Type 0} (P : X → Type 0) (xs : List X) (k : ℕ) (d : X) → k < length xs → AllByRecursion P xs → P (get_or xs k d)
held_at P xs k d within all = all_at P xs k (get_or xs k d) all (at_place xs k d within)

pub contains_at : {X : Type 0} (xs : List X) (i : ℕ) (x : X) → slice_get xs i ≡ Some x → Contains xs x
contains_at xs i x there =
    let within = slice_get_within xs i x there in
    let same : get_or xs i x ≡ x = let p = sym (at_place xs i x within) in let q = there in cc in
    (i, within, same)

pub turns_within : (s : Session) (kept : List KeptLine) → AllByRecursion (AreWithin (length kept)) (turns s kept)
turns_within s kept = all_by_places (AreWithin (length kept)) (turns s kept) each
  where
    each : (i : ℕ) (turn : ℕ × ℕ) → slice_get (turns s kept) i ≡ Some turn → AreWithin (length kept) turn
    each i turn there =
        let is = (turns-are s kept turn.0 turn.1).0 (contains_at (turns s kept) i turn there) in
        let now = is.within in
        let before = is.earlier in
        (omega (arith, now, before), is.within)
