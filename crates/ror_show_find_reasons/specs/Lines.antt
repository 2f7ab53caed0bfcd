-- Why the answers to a kept line are what they are, and with what each statement conflicts that a repair dropped.
use Rattle.std.specs.Prelude.{◌≡◌, ℕ, zero, suc, ◌-◌, nat_le, nat_lt, Bool, false, ◌&&◌, ◌||◌, ◌==◌, List, [], ◌∷◌, ◌++◌, length, take, slice_get, Option, Some, None, is_some, if◌then◌else◌}
use Rattle.std.specs.List.{AllByRecursion, AllZip, flat_map, range_with_len}
use Rattle.std.specs.Option.{option_map_or}
use Rattle.ror_statement.specs.declared.statement.Numbered.{Numbered}
use Rattle.ror_statement.specs.declared.comparison.Pair.{Pair}
use Rattle.ror_statement.specs.declared.question.Question.{Question}
use Rattle.ror_statement.specs.declared.question.Question.TheVariants as questions
use Rattle.ror_table.specs.Table.{DecisionTable}
use Rattle.ror_value.specs.Over.{IsAskedIn}
use Rattle.ror_proof.specs.declared.answer.Answer.{Answer}
use Rattle.ror_check.specs.Repair.{numbers_of, kept_of, is_among}
use Rattle.ror_pivot.specs.declared.note.Bits.TheVariants.{B127}
use Rattle.ror_pivot.specs.Answers.{most_of}
use Rattle.ror_report.specs.Text.{answers_of}
use Rattle.ror_bench.specs.declared.kept.KeptLine.{KeptLine}
use Rattle.ror_reason.specs.declared.reducts.Reason.{Reason}
use Rattle.ror_reason.specs.declared.reducts.Reason.TheVariants as reasons
use Rattle.ror_reason.specs.Reasons.{IsReason}
use Rattle.ror_show_ground.specs.Grounds.{Ground}
use Rattle.ror_show_ground.specs.Lines.{dropped_of, is_answered, is_repaired, places_where}
use Rattle.ror_show_find_roll.specs.Said.{said_at}
use Rattle.ror_show_find_reasons.specs.declared.lines.Meant.{Meant}
use Rattle.ror_show_find_reasons.specs.declared.lines.Meant.TheVariants.{All, Between, Carried}
use Rattle.ror_show_find_reasons.specs.declared.lines.Told.{Told}
use Rattle.ror_show_find_reasons.specs.declared.lines.DropFound.{DropFound}
use Rattle.ror_show_find_reasons.specs.declared.lines.LineFound.{LineFound}
use Rattle.ror_show_find_reasons.specs.Carrying.{IsTold, is_carried}

-- ---- which answers are told

-- so many that statements carry are told in full, where there are more answers than that
abbrev pub most_shown : ℕ
most_shown = 20

-- how many of those that statements carry may still be told behind an answer
abbrev pub left_with : ℕ → Answer → ℕ
left_with left x = if is_carried x then left - 1 else left

-- and behind the first answers, so many
abbrev pub left_at : List Answer → ℕ → ℕ
left_at xs zero = most_shown
left_at xs (suc k) = option_map_or (left_with (left_at xs k)) (slice_get xs k) (left_at xs k)

-- the one is compared with the other, or the other with the one
abbrev pub are_of : Pair → ℕ → ℕ → Bool
are_of p a b = (a == p.first && b == p.second) || (a == p.second && b == p.first)

abbrev pub is_between : Pair → Question → Bool
is_between p (questions.Necessary a b) = are_of p a b
is_between p (questions.Possible a b) = are_of p a b
is_between p _ = false

-- all of few answers, and of more than that the first that statements carry; those between two alternatives; or, for certificates, all
-- that statements carry
abbrev pub is_told : Meant → ℕ → ℕ → Answer → Bool
is_told All count left x = nat_le count most_shown || (nat_lt 0 left && is_carried x)
is_told (Between p) count left x = is_between p x.question
is_told Carried count left x = is_carried x

abbrev pub is_told_at : Meant → List Answer → ℕ → Bool
is_told_at m xs k = option_map_or (is_told m (length xs) (left_at xs k)) (slice_get xs k) false

abbrev pub told_if : Meant → List Answer → ℕ → List ℕ
told_if m xs k = if is_told_at m xs k then k ∷ [] else []

-- their places among the answers, from 0
abbrev pub told_places : Meant → List Answer → List ℕ
told_places m xs = flat_map (told_if m xs) (range_with_len 0 (length xs))

-- ---- why an answer is what it is

abbrev pub IsToldAt : DecisionTable → List Numbered → List Answer → ℕ → Told → Type 0
IsToldAt t list xs k f = (f.answer ≡ k)
    × ((x : Answer) → slice_get xs k ≡ Some x → IsTold t list x.question x.verdict f.reason)

-- of each that is told, in order
abbrev pub AreTold : Meant → DecisionTable → List Numbered → List Answer → List Told → Type 0
AreTold m t list xs fs = AllZip (IsToldAt t list xs) (told_places m xs) fs

-- over what stood, where that is kept
abbrev pub AreToldOver : Meant → DecisionTable → List Answer → Option (List Numbered) → List Told → Type 0
AreToldOver m t xs (Some list) fs = AreTold m t list xs fs
AreToldOver m t xs None fs = fs ≡ []

-- ---- with what a dropped statement conflicts

-- the statements that are kept before a place of the list, and the one at the place
abbrev pub clash_list : List ℕ → List Numbered → ℕ → Numbered → List Numbered
clash_list dropped list k x = kept_of dropped (take k list) ++ x ∷ []

-- why some function agrees with all of them, or none does, as the greatest width gives it
unfoldable pub IsConflict : DecisionTable → List Numbered → Reason → Type 0
IsConflict t list reason = IsReason (most_of B127) t list questions.Consistent reason

-- the statement at a place was dropped
abbrev pub is_dropped_at : List ℕ → List Numbered → ℕ → Bool
is_dropped_at dropped list k = option_map_or (is_among dropped) (slice_get list k) false

abbrev pub dropped_if : List ℕ → List Numbered → ℕ → List ℕ
dropped_if dropped list k = if is_dropped_at dropped list k then k ∷ [] else []

-- the places of what was dropped among what stood
abbrev pub dropped_places : List ℕ → List Numbered → List ℕ
dropped_places dropped list = flat_map (dropped_if dropped list) (range_with_len 0 (length list))

abbrev pub IsDropOf : DecisionTable → List Numbered → List ℕ → ℕ → Numbered → DropFound → Type 0
IsDropOf t list dropped k x f = (f.number ≡ x.number) × IsConflict t (clash_list dropped list k x) f.conflict

abbrev pub IsDropAt : DecisionTable → List Numbered → List ℕ → ℕ → DropFound → Type 0
IsDropAt t list dropped k f = (f.at ≡ k) × ((x : Numbered) → slice_get list k ≡ Some x → IsDropOf t list dropped k x f)

abbrev pub AreAllDrops : DecisionTable → List Numbered → List ℕ → List DropFound → Type 0
AreAllDrops t list dropped fs = AllZip (IsDropAt t list dropped) (dropped_places dropped list) fs

-- where all that a line did is meant
abbrev pub AreDrops : Meant → DecisionTable → List Numbered → List ℕ → List DropFound → Type 0
AreDrops All t list dropped fs = AreAllDrops t list dropped fs
AreDrops _ t list dropped fs = fs ≡ []

-- over what stood, where that is kept
abbrev pub AreDropsOver : Meant → DecisionTable → List ℕ → Option (List Numbered) → List DropFound → Type 0
AreDropsOver m t dropped (Some list) fs = AreDrops m t list dropped fs
AreDropsOver m t dropped None fs = fs ≡ []

-- ---- one line

-- which line said each statement: certificates don't say it, and their lines are kept without those that revise
abbrev pub said_for : Meant → Ground → KeptLine → ℕ → List (Option ℕ)
said_for Carried g x n = []
said_for m g x n = said_at g x n

-- the numbers of what it dropped, none where it repairs nothing
abbrev pub dropped_by : KeptLine → List ℕ
dropped_by x = numbers_of (dropped_of x.block.body)

-- Of a kept line: the line that said each statement of what stood, why its answers are what they are, and with what each dropped
-- statement conflicts. A line without answers has none told, and one that repairs nothing no conflict: so nothing goes by cases.
pub record IsLineOf (m : Meant) (g : Ground) (n : ℕ) (x : KeptLine) (f : LineFound) : Type 0 where
  pub place : f.place ≡ n
  pub said : f.said ≡ said_for m g x n
  pub told : AreToldOver m g.table (answers_of x.block.body) x.standing f.told
  pub drops : AreDropsOver m g.table (dropped_by x) x.standing f.drops

abbrev pub IsLineFound : Meant → Ground → ℕ → LineFound → Type 0
IsLineFound m g n f = (x : KeptLine) × (slice_get g.kept n ≡ Some x) × IsLineOf m g n x f

-- the kept lines that are answered or repair, with what stood
abbrev pub is_explained : KeptLine → Bool
is_explained x = is_some x.standing && (is_answered x.block.body || is_repaired x.block.body)

abbrev pub explained_places : List KeptLine → List ℕ
explained_places kept = places_where is_explained kept

abbrev pub AreLinesFound : Meant → Ground → List LineFound → Type 0
AreLinesFound m g fs = AllZip (IsLineFound m g) (explained_places g.kept) fs

-- ---- what writers ask for: the questions in a reason may be asked of the table

abbrev pub AsksIn : DecisionTable → Reason → Type 0
AsksIn t (reasons.Carried x) = IsAskedIn t x.answer.question
AsksIn t (reasons.Wide ns x others) = IsAskedIn t x.question
AsksIn t (reasons.OneHas x) = IsAskedIn t x.question
AsksIn t (reasons.OneLacks x) = IsAskedIn t x.question
AsksIn t (reasons.ClassLeft x) = IsAskedIn t x.question
AsksIn t (reasons.WhollyWide system note) = Unit {0}

abbrev pub AsksOf : DecisionTable → Option Reason → Type 0
AsksOf t (Some reason) = AsksIn t reason
AsksOf t None = Unit {0}

pub record AreAsked (t : DecisionTable) (f : LineFound) : Type 0 where
  pub told : AllByRecursion (λ x. AsksOf t x.reason) f.told
  pub drops : AllByRecursion (λ x. AsksIn t x.conflict) f.drops
