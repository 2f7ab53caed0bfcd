-- The judges, by what stands of each.
use Rattle.std.specs.Prelude.{ℕ, ◌+◌, ◌==◌, Bool, not, ◌&&◌, List, [], ◌++◌, length, codes, decimal, slice_get, slice_index_or, if◌then◌else◌}
use Rattle.std.specs.List.{flat_map, list_any, range_with_len}
use Rattle.std.specs.Option.{option_map_or}
use Rattle.ror_show_kit.specs.Layout.{set_right}
use Rattle.ror_show_kit.specs.Heads.{counted}
use Rattle.ror_show_find_relation.specs.Rows.{unknown_pairs, pairs_among}
use Rattle.ror_show_find_group.specs.declared.judge.JudgeFound.{JudgeFound}
use Rattle.ror_show_text_group.specs.declared.judges.Sort.{Sort}
use Rattle.ror_show_text_group.specs.declared.judges.Sort.TheVariants.{Contradicting, Silent, Stating}

-- a desk may have no name
abbrev pub label : List ℕ → List ℕ
label name = if length name == 0 then codes "(no name)" else name

abbrev pub is_of : Sort → JudgeFound → Bool
is_of Contradicting judge = judge.contradicts
is_of Silent judge = not judge.contradicts && (judge.statements == 0)
is_of Stating judge = not judge.contradicts && not (judge.statements == 0)

abbrev pub head_of : Sort → List ℕ
head_of Contradicting = codes "\n  with what these said no value function agrees; all below is of the others\n"
head_of Silent = codes "\n  of these no statement stands, so every value function agrees\n"
head_of Stating = codes "\n  of these statements stand\n"

-- the number of the judge at a place, and the name of the desk
abbrev pub judge_head : List (List ℕ) → ℕ → List ℕ
judge_head desks k = set_right 6 (decimal (k + 1)) ++ codes "  " ++ label (slice_index_or desks k [])

abbrev pub unknown_count : ℕ → ℕ → List ℕ
unknown_count unknown n = counted (codes ", nothing concluded on ") unknown ++ counted (codes " of ") (pairs_among n) ++ codes " pairs"

-- of how many pairs nothing is concluded, if of some
abbrev pub unknown_text : ℕ → ℕ → List ℕ
unknown_text unknown n = if unknown == 0 then [] else unknown_count unknown n

abbrev pub judge_text : List (List ℕ) → ℕ → ℕ → JudgeFound → List ℕ
judge_text desks n k judge = judge_head desks k ++ counted (codes "  statements ") judge.statements
    ++ unknown_text (unknown_pairs judge.rows n) n ++ codes "\n"

-- the line of the judge at a place, who is of this sort
abbrev pub judge_of : List (List ℕ) → ℕ → Sort → ℕ → JudgeFound → List ℕ
judge_of desks n sort k judge = if is_of sort judge then judge_text desks n k judge else []

abbrev pub judge_at : List (List ℕ) → List JudgeFound → ℕ → Sort → ℕ → List ℕ
judge_at desks judges n sort k = option_map_or (judge_of desks n sort k) (slice_get judges k) []

-- those of a sort below its head, where there are some
abbrev pub sort_text : List (List ℕ) → List JudgeFound → ℕ → Sort → List ℕ
sort_text desks judges n sort = if list_any (is_of sort) judges
    then head_of sort ++ flat_map (judge_at desks judges n sort) (range_with_len 0 (length judges)) else []

abbrev pub first_line : List JudgeFound → List ℕ
first_line judges = counted (codes "judges: ") (length judges)
    ++ codes ", each by what stands at the desk after the session's last line\n"

-- those who contradict themselves first, then those of whom nothing stands
abbrev pub judges_text : List (List ℕ) → List JudgeFound → ℕ → List ℕ
judges_text desks judges n = first_line judges ++ sort_text desks judges n Contradicting ++ sort_text desks judges n Silent
    ++ sort_text desks judges n Stating
