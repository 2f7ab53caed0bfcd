-- The lines of a desk, the revisions among them that survive, and the roll: which line said what stands, and what became of the
-- rest.
use Rattle.std.specs.Prelude.{ℕ, ◌+◌, ◌-◌, ◌^◌, ◌==◌, Bool, true, false, not, min, List, [], ◌∷◌, ◌++◌, length, map, take, filter, Option, Some, None, unwrap_or, option_map, option_to_list, slice_get, if◌then◌else◌}
use Rattle.std.specs.List.{flat_map, fold, list_any, range_with_len}
use Rattle.ror_report.specs.declared.block.Body.{Body}
use Rattle.ror_report.specs.declared.block.Body.TheVariants.{Added, Withdrawn, Replaced, Undone, Repaired, RepairWide, Answers, Refused}
use Rattle.ror_show_find_roll.specs.Turns.{Turn}
use Rattle.ror_show_find_roll.specs.declared.roll.Entry.{Entry}
use Rattle.ror_show_find_roll.specs.declared.roll.Gone.{Gone}
use Rattle.ror_show_find_roll.specs.declared.roll.RefusedLine.{RefusedLine}
use Rattle.ror_show_find_roll.specs.declared.roll.Roll.{Roll}
use Rattle.ror_show_find_roll.specs.declared.roll.Source.TheVariants.{File, Line}
use Rattle.ror_show_find_roll.specs.declared.roll.TakenBack.{TakenBack}
use Rattle.ror_show_find_roll.specs.declared.survivor.Survivor.{Survivor}

-- ---- the revisions that survive

-- how many statements are left after what came of a line: one more with each addition (the count stays at its greatest value),
-- one fewer with each withdrawal, and as many fewer as a repair drops
abbrev pub left_with : ℕ → Body → ℕ
left_with n (Added k) = min (n + 1) (2 ^ 64 - 1)
left_with n (Withdrawn k) = n - 1
left_with n (Repaired kept) = n - length kept.dropped
left_with n _ = n

-- the last of them, if there is one
abbrev pub last_of : List Survivor → Option Survivor
last_of list = slice_get list (length list - 1)

-- how many statements are left after all of them
abbrev pub left_after : ℕ → List Survivor → ℕ
left_after opening list = unwrap_or (option_map (λ x. x.left) (last_of list)) opening

-- an undo takes the last of them back; additions, withdrawals, replacements and repairs come last; all else changes nothing
abbrev pub survive : ℕ → List Survivor → Turn → Body → List Survivor
survive opening list turn Undone = take (length list - 1) list
survive opening list turn (RepairWide n note) = list
survive opening list turn (Answers xs) = list
survive opening list turn (Refused fault) = list
survive opening list turn body =
    list ++ record { step = turn; left = left_with (left_after opening list) body } ∷ []

abbrev pub survivors_with : ℕ → List Survivor → Turn → List Survivor
survivors_with opening list turn = survive opening list turn turn.body

-- the revisions of these lines that survive, in order
abbrev pub survivors : ℕ → List Turn → List Survivor
survivors opening turns = fold (survivors_with opening) [] turns

-- ---- what stands

-- those that came with the table's file, numbered from 1
abbrev pub opened : ℕ → List Entry
opened opening = map (λ k. record { number = k; said = File; instead_of = None }) (range_with_len 1 opening)

-- the body takes the statement with this number away
abbrev pub takes : Body → ℕ → Bool
takes (Withdrawn k) n = n == k
takes (Repaired kept) n = list_any (λ x. n == x.number) kept.dropped
takes _ n = false

abbrev pub added : ℕ → ℕ → Entry
added place n = record { number = n; said = Line place; instead_of = None }

-- the statement of a line in the place of the one before
abbrev pub put_instead : ℕ → ℕ → Entry → Entry
put_instead place n e = if e.number == n then record { number = e.number; said = Line place; instead_of = Some e.said } else e

-- an addition goes last, a replacement keeps place and number, and what is taken away goes
abbrev pub stand : List Entry → ℕ → Body → List Entry
stand list place (Added n) = list ++ added place n ∷ []
stand list place (Replaced n) = map (put_instead place n) list
stand list place body = filter (λ e. not (takes body e.number)) list

abbrev pub is_repair : Body → Bool
is_repair (Repaired kept) = true
is_repair _ = false

-- a statement that the line takes away, as it stood
abbrev pub taken_one : Turn → Entry → List Gone
taken_one turn e = if takes turn.body e.number
    then record { entry = e; by = turn.place; by_repair = is_repair turn.body } ∷ [] else []

abbrev pub taken_away : Turn → List Entry → List Gone
taken_away turn list = flat_map (taken_one turn) list

-- what stands, and what stands no more
pub record Tally : Type 0 where
  pub entries : List Entry
  pub gone : List Gone

abbrev pub tally_with : Tally → Survivor → Tally
tally_with tally x = record {
  entries = stand tally.entries x.step.place x.step.body;
  gone = tally.gone ++ taken_away x.step tally.entries;
}

-- after the surviving revisions in order
abbrev pub tally_of : ℕ → List Survivor → Tally
tally_of opening list = fold tally_with (record { entries = opened opening; gone = [] }) list

-- ---- what was taken back, refused, or asked of nothing

-- an undo, and the revision that it takes back
abbrev pub taken_by : List Survivor → ℕ → Body → List TakenBack
taken_by list place Undone =
    map (λ x. record { taken = x.step.place; by = place }) (option_to_list (last_of list))
taken_by list place _ = []

-- of these lines, after the revisions that survive before them
abbrev pub taken_back : ℕ → List Survivor → List Turn → List TakenBack
taken_back opening list [] = []
taken_back opening list (turn ∷ turns) =
    taken_by list turn.place turn.body ++ taken_back opening (survivors_with opening list turn) turns

-- a line that is answered where so many statements are left, if that is none
abbrev pub asked_by : ℕ → ℕ → Body → List ℕ
asked_by left place (Answers xs) = if left == 0 then place ∷ [] else []
asked_by left place _ = []

abbrev pub asked_of_nothing : ℕ → List Survivor → List Turn → List ℕ
asked_of_nothing opening list [] = []
asked_of_nothing opening list (turn ∷ turns) =
    asked_by (left_after opening list) turn.place turn.body
    ++ asked_of_nothing opening (survivors_with opening list turn) turns

abbrev pub refused_by : ℕ → Body → List RefusedLine
refused_by place (Refused fault) = record { place = place; fault = fault } ∷ []
refused_by place _ = []

abbrev pub refused : List Turn → List RefusedLine
refused turns = flat_map (λ turn. refused_by turn.place turn.body) turns

-- ---- the roll

-- the roll after these lines of a desk, at which so many statements stood at first
abbrev pub roll_of : ℕ → List Turn → Roll
roll_of opening turns = record {
  entries = (tally_of opening (survivors opening turns)).entries;
  gone = (tally_of opening (survivors opening turns)).gone;
  taken_back = taken_back opening [] turns;
  refused = refused turns;
  asked_of_nothing = asked_of_nothing opening [] turns;
}
