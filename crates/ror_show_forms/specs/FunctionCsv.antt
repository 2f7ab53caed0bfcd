-- The functions of lines as comma-separated values.
use Rattle.std.specs.Prelude.{ℕ, ◌+◌, List, [], ◌∷◌, ◌++◌, length, codes, decimal, slice_get, Option, Some, None, if◌then◌else◌}
use Rattle.std.specs.List.{flat_map, range_with_len}
use Rattle.std.specs.Option.{option_map_or}
use Rattle.ror_show_kit.specs.Amounts.{amount_text}
use Rattle.ror_table.specs.Table.{DecisionTable, criterion_id_of, steps, level}
use Rattle.ror_value.specs.Value.{Normalised}
use Rattle.ror_proof.specs.declared.answer.Answer.{Answer}
use Rattle.ror_show_kit.specs.Fields.{field}
use Rattle.ror_report.specs.Text.{answers_of}
use Rattle.ror_bench.specs.declared.kept.KeptLine.{KeptLine}
use Rattle.ror_show_ground.specs.Grounds.{Ground}
use Rattle.ror_show_find_proofs.specs.declared.findings.FunctionFound.{FunctionFound}
use Rattle.ror_show_find_proofs.specs.declared.findings.FunctionsFound.{FunctionsFound}
use Rattle.ror_show_find_proofs.specs.declared.function_places.Place.{Place}
use Rattle.ror_show_find_proofs.specs.declared.share.Share.{Share}
use Rattle.ror_show_find_proofs.specs.Levels.{share_at}
use Rattle.ror_show_find_proofs.specs.Shares.{thousandths, is_rounded}
use Rattle.ror_show_text_functions.specs.ShareText.{places_text}
use Rattle.ror_show_text_functions.specs.Text.{asked_at}
use Rattle.ror_show_forms.specs.Front.{line_front}

abbrev pub csv_head : List ℕ
csv_head = codes "line,desk,answer,function,criterion,level,marginal,total,share,rounded\n"

-- ---- the values of a level

abbrev pub rounded_word : Share → List ℕ
rounded_word s = if is_rounded s then codes ",yes\n" else codes ",no\n"

-- the marginal value and the value of all best levels, the share, and whether it is rounded
abbrev pub csv_share : Share → List ℕ
csv_share s = 44 ∷ decimal s.part ++ 44 ∷ decimal s.whole ++ 44 ∷ places_text (thousandths s) ++ rounded_word s

unfoldable pub csv_level : DecisionTable → Normalised → List ℕ → ℕ → ℕ → List ℕ
csv_level t f front i r = front ++ 44 ∷ field (criterion_id_of t i) ++ 44 ∷ amount_text (level t i r) ++ csv_share (share_at t f i r)

-- from the worst to the best
abbrev pub csv_levels : DecisionTable → Normalised → List ℕ → ℕ → List ℕ
csv_levels t f front i = flat_map (csv_level t f front i) (range_with_len 0 (steps t i)) ++ csv_level t f front i (steps t i)

abbrev pub csv_block : DecisionTable → Normalised → List ℕ → List ℕ
csv_block t f front = flat_map (csv_levels t f front) (range_with_len 0 (length t.criteria))

-- ---- those of functions

abbrev pub csv_found : DecisionTable → List ℕ → Option Normalised → List ℕ
csv_found t front None = []
csv_found t front (Some f) = csv_block t f front

-- what a function is for
abbrev pub name_for : DecisionTable → List Answer → ℕ → Option ℕ → List ℕ
name_for t xs k None = codes "base"
name_for t xs k (Some j) = asked_at t xs k

-- what the lines of a function begin with: the number of the answer, from 1, and what it is for
unfoldable pub front_text : DecisionTable → List Answer → List ℕ → Place → List ℕ
front_text t xs head p = head ++ 44 ∷ decimal (p.answer + 1) ++ 44 ∷ field (name_for t xs p.answer p.part)

-- the lines of a function that was found
unfoldable pub function_value : DecisionTable → List Answer → List ℕ → FunctionFound → List ℕ
function_value t xs head f = csv_found t (front_text t xs head f.at) f.function

-- a line for each level of each criterion in each function of a kept line: its number and its desk stand in front
abbrev pub line_values : Ground → List FunctionFound → KeptLine → List ℕ
line_values g fs x = flat_map (function_value g.table (answers_of x.block.body) (line_front g.session x)) fs

-- those of the functions that were found in the answers to a line
abbrev pub function_values : Ground → FunctionsFound → List ℕ
function_values g f = option_map_or (line_values g f.functions) (slice_get g.kept f.place) []
