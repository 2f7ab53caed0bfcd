-- The page of reasons as plain text: a function of what is found.
use Rattle.std.specs.Prelude.{ℕ, nat_le, List, [], ◌∷◌, ◌++◌, codes, length, slice_get, Option, Some, None, count_by, if◌then◌else◌}
use Rattle.std.specs.List.{flat_map, range_with_len}
use Rattle.std.specs.Option.{option_map_or}
use Rattle.ror_proof.specs.declared.answer.Answer.{Answer}
use Rattle.ror_report.specs.Text.{answers_of}
use Rattle.ror_bench.specs.declared.kept.KeptLine.{KeptLine}
use Rattle.ror_reason.specs.declared.reducts.Reason.{Reason}
use Rattle.ror_show_kit.specs.Heads.{line_text, counted}
use Rattle.ror_show_kit.specs.Claims.{asked_text}
use Rattle.ror_show_ground.specs.Grounds.{Ground}
use Rattle.ror_show_ground.specs.Lines.{desk_at, stood}
use Rattle.ror_show_find_reasons.specs.Carrying.{is_carried}
use Rattle.ror_show_find_reasons.specs.Lines.{most_shown}
use Rattle.ror_show_find_reasons.specs.declared.lines.Meant.{Meant}
use Rattle.ror_show_find_reasons.specs.declared.lines.Meant.TheVariants as meants
use Rattle.ror_show_find_reasons.specs.declared.lines.Told.{Told}
use Rattle.ror_show_find_reasons.specs.declared.lines.DropFound.{DropFound}
use Rattle.ror_show_find_reasons.specs.declared.lines.LineFound.{LineFound}
use Rattle.ror_show_find_core.specs.declared.outcomes.Withdrawal.{Withdrawal}
use Rattle.ror_show_find_core.specs.declared.outcomes.CoreFound.{CoreFound}
use Rattle.ror_show_find_core.specs.declared.outcomes.LineCores.{LineCores}
use Rattle.ror_show_text_functions.specs.Text.{is_contradiction}
use Rattle.ror_show_text_reasons.specs.Withdrawn.{cores_at, withdrawals_at, withdrawn_text}
use Rattle.ror_show_text_reasons.specs.Reasons.{not_answered}
use Rattle.ror_show_text_reasons.specs.Scenes.{Scene, of_drop, reason_text, conflict_text}

-- what the reasons of a line are read against
abbrev pub scene_for : Ground → KeptLine → LineFound → Scene
scene_for g x f = record { table = g.table; list = stood x; lines = f.said; dropped = None }

-- the line, and its desk
abbrev pub place_text : Ground → KeptLine → List ℕ
place_text g x = line_text x.block.line (desk_at g.session x)

-- ---- an answer

-- the reason, or that the answer is too wide
abbrev pub told_words : Scene → Option Reason → List ℕ
told_words sc (Some reason) = reason_text sc reason
told_words sc None = not_answered

-- the line, its desk, and what was asked and answered
abbrev pub head_text : Ground → KeptLine → Answer → List ℕ
head_text g x a = ((place_text g x ++ codes "  ") ++ asked_text g.table a.question a.verdict) ++ 10 ∷ []

-- below it the reason, what becomes of the answer without each statement of that, and an empty line
abbrev pub framed : Ground → KeptLine → Scene → List Withdrawal → Option Reason → Answer → List ℕ
framed g x sc ws reason a = (head_text g x a ++ told_words sc reason ++ withdrawn_text (is_contradiction a.verdict) ws) ++ 10 ∷ []

abbrev pub told_in : Ground → KeptLine → Scene → List Withdrawal → Told → List ℕ
told_in g x sc ws told = option_map_or (framed g x sc ws told.reason) (slice_get (answers_of x.block.body) told.answer) []

-- the one at a place, with what is found beside it there
abbrev pub told_at : Ground → KeptLine → Scene → List CoreFound → List Told → ℕ → List ℕ
told_at g x sc cores told k = option_map_or (told_in g x sc (withdrawals_at cores k)) (slice_get told k) []

abbrev pub each_told : Ground → KeptLine → Scene → List CoreFound → List Told → List ℕ
each_told g x sc cores told = flat_map (told_at g x sc cores told) (range_with_len 0 (length told))

-- ---- a statement that was dropped

-- the line, its desk, and the statement's number
abbrev pub drop_head : Ground → KeptLine → ℕ → List ℕ
drop_head g x number = (place_text g x ++ counted (codes "  repair drops ") number) ++ 10 ∷ []

-- below it its conflict, and an empty line
abbrev pub drop_in : Ground → KeptLine → Scene → DropFound → List ℕ
drop_in g x sc drop = (drop_head g x drop.number ++ conflict_text (of_drop sc drop.number) drop.conflict) ++ 10 ∷ []

abbrev pub drop_text : Ground → KeptLine → LineFound → DropFound → List ℕ
drop_text g x f drop = drop_in g x (scene_for g x f) drop

-- ---- what is left

-- how many of the answers statements carry, and how many of them are shown at most
abbrev pub end_text : List ℕ
end_text = counted (codes ", of which the first ") most_shown ++ codes " at most are shown\n\n"

abbrev pub carried_text : ℕ → List ℕ
carried_text carried = counted (codes "  answers that statements carry: ") carried ++ end_text

abbrev pub counts_text : Ground → KeptLine → ℕ → List ℕ
counts_text g x carried = place_text g x ++ carried_text carried

-- where there are more than all are shown of
abbrev pub more_text : Ground → KeptLine → List Answer → List ℕ
more_text g x xs = if nat_le (length xs) most_shown then [] else counts_text g x (count_by is_carried xs)

-- and all are meant
abbrev pub rest_text : Meant → Ground → KeptLine → List ℕ
rest_text meants.All g x = more_text g x (answers_of x.block.body)
rest_text _ g x = []

-- ---- a line, and all of them

abbrev pub line_over : Meant → Ground → List CoreFound → LineFound → KeptLine → List ℕ
line_over m g cores f x = each_told g x (scene_for g x f) cores f.told ++ rest_text m g x ++ flat_map (drop_text g x f) f.drops

abbrev pub line_words : Meant → Ground → List CoreFound → LineFound → List ℕ
line_words m g cores f = option_map_or (line_over m g cores f) (slice_get g.kept f.place) []

abbrev pub line_at : Meant → Ground → List LineFound → List LineCores → ℕ → List ℕ
line_at m g fs cs k = option_map_or (line_words m g (cores_at cs k)) (slice_get fs k) []

abbrev pub reasons_text : Meant → Ground → List LineFound → List LineCores → List ℕ
reasons_text m g fs cs = flat_map (line_at m g fs cs) (range_with_len 0 (length fs))
