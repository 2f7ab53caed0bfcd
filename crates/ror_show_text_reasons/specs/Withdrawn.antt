-- What becomes of an answer if a statement of its reason is withdrawn, as plain text.
use Rattle.std.specs.Prelude.{ℕ, Bool, true, false, ◌==◌, List, [], ◌++◌, codes, decimal, length, slice_get, if◌then◌else◌}
use Rattle.std.specs.List.{flat_map}
use Rattle.std.specs.Option.{option_map_or}
use Rattle.ror_show_kit.specs.Words.{number}
use Rattle.ror_show_kit.specs.Rows.{line_text}
use Rattle.ror_show_find_core.specs.declared.outcomes.Outcome.{Outcome}
use Rattle.ror_show_find_core.specs.declared.outcomes.Outcome.TheVariants as outcomes
use Rattle.ror_show_find_core.specs.declared.outcomes.Withdrawal.{Withdrawal}
use Rattle.ror_show_find_core.specs.declared.outcomes.CoreFound.{CoreFound}
use Rattle.ror_show_find_core.specs.declared.outcomes.LineCores.{LineCores}

-- ---- which stand at a place

abbrev pub cores_at : List LineCores → ℕ → List CoreFound
cores_at cs k = option_map_or (λ c. c.cores) (slice_get cs k) []

abbrev pub withdrawals_at : List CoreFound → ℕ → List Withdrawal
withdrawals_at fs k = option_map_or (λ f. f.withdrawals) (slice_get fs k) []

-- ---- one statement

-- it stays, by these; of an answer that is a contradiction, the contradiction does
abbrev pub stays : Bool → List ℕ
stays true = codes "the contradiction stays, by"
stays false = codes "the answer stays, by"

abbrev pub stays_words : Bool → List ℕ → List ℕ
stays_words clashes ns = stays clashes ++ flat_map number ns

abbrev pub wide_words : Bool → List ℕ → List ℕ
wide_words clashes ns = stays_words clashes ns ++ codes " (perhaps by fewer)"

abbrev pub goes : Bool → List ℕ
goes true = codes "the contradiction ends"
goes false = codes "the answer goes"

abbrev pub not_known : List ℕ
not_known = codes "not known: a number on the way passes 127 bits"

abbrev pub outcome_words : Bool → Outcome → List ℕ
outcome_words clashes (outcomes.Stays ns) = stays_words clashes ns
outcome_words clashes (outcomes.StaysWide ns) = wide_words clashes ns
outcome_words clashes outcomes.Goes = goes clashes
outcome_words clashes outcomes.Unknown = not_known

abbrev pub withdrawal_words : Bool → Withdrawal → List ℕ
withdrawal_words clashes w = decimal w.number ++ codes ": " ++ outcome_words clashes w.outcome

abbrev pub withdrawal_text : Bool → Withdrawal → List ℕ
withdrawal_text clashes w = line_text 4 (withdrawal_words clashes w)

-- ---- all of a reason

abbrev pub withdrawn_head : List ℕ
withdrawn_head = codes "  if one of these statements is withdrawn from all that stand:\n"

abbrev pub each_text : Bool → List Withdrawal → List ℕ
each_text clashes ws = flat_map (withdrawal_text clashes) ws

abbrev pub withdrawn_text : Bool → List Withdrawal → List ℕ
withdrawn_text clashes ws = if length ws == 0 then [] else withdrawn_head ++ each_text clashes ws
