-- The names of a session's desks are those that a report may have.
use Rattle.std.proofs.Common.{◌≡◌, ℕ, ◌≤◌, true, List, length, refl, arith}
use Rattle.std.specs.Prelude.{nat_le, slice_get, Some}
use Rattle.std.specs.Str.{IsUtf8, is_utf8}
use Rattle.std.proofs.lemmas.Str.{is_utf8-from_IsUtf8}
use Rattle.ror_text.proofs.Everywhere.{all_at}
use Rattle.ror_session.specs.Grammar.{IsClean}
use Rattle.ror_session.specs.declared.limits.TheConstants.{MOST_DESK_NAME_BYTES}
use Rattle.ror_report.specs.Desk.{is_desk_name}
use Rattle.ror_frame.proofs.Desks.{clean_control}
use Rattle.ror_work_ranks.specs.Steps.{AreNames}

desk_named : (name : List ℕ) → length name ≤ MOST_DESK_NAME_BYTES → IsClean name → IsUtf8 name → is_desk_name name ≡ true
desk_named name short clean utf8 =
    let none = clean_control name clean in
    let text : is_utf8 name ≡ true = is_utf8-from_IsUtf8 name utf8 in
    let small : nat_le (length name) MOST_DESK_NAME_BYTES ≡ true = grind (arith, short) in
    rw (small, none, text) refl

pub name_there : (names : List (List ℕ)) (place : ℕ) (name : List ℕ) → AreNames names → slice_get names place ≡ Some name → IsUtf8 name → is_desk_name name ≡ true
name_there names place name are there utf8 =
    desk_named name (all_at (λ x. length x ≤ MOST_DESK_NAME_BYTES) names place name are.short there) (all_at IsClean names place name are.clean there) utf8
