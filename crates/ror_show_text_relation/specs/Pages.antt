-- The relations that were asked, as plain text: a function of what is found.
use Rattle.std.specs.Prelude.{ℕ, ◌==◌, List, [], ◌∷◌, ◌++◌, codes, length, slice_get, if◌then◌else◌}
use Rattle.std.specs.List.{flat_map}
use Rattle.std.specs.Option.{option_map_or}
use Rattle.ror_table.specs.Table.{DecisionTable}
use Rattle.ror_report.specs.Text.{answers_of}
use Rattle.ror_bench.specs.declared.kept.KeptLine.{KeptLine}
use Rattle.ror_show_ground.specs.Grounds.{Ground}
use Rattle.ror_show_ground.specs.Heads.{Head}
use Rattle.ror_show_ground.specs.Lines.{head_of_line, proved_among}
use Rattle.ror_show_find_reasons.specs.declared.pairs.CarriedPair.{CarriedPair}
use Rattle.ror_show_find_reasons.specs.declared.pairs.RelationFound.{RelationFound}
use Rattle.ror_show_find_reasons.specs.Pairs.{carrying_numbers}
use Rattle.ror_show_text_relation.specs.Text.{relation_text}
use Rattle.ror_show_text_relation.specs.ArrowText.{arrow_line}

-- ---- pairs with what carries them

abbrev pub pair_line : DecisionTable → CarriedPair → List ℕ
pair_line t f = arrow_line t f.pair (carrying_numbers f) f.better

-- below a head; nothing where there are none
abbrev pub carried_text : DecisionTable → List ℕ → List CarriedPair → List ℕ
carried_text t head fs = if length fs == 0 then [] else head ++ flat_map (pair_line t) fs

abbrev pub carried_head : List ℕ
carried_head = codes "\n  statements that carry each arrow (of these alone none can be spared; others may carry it too)\n"

-- ---- the relation at a kept line

-- what stands above it, with this name of the desk and these numbers of what stood
abbrev pub head_with : KeptLine → List ℕ → List ℕ → Head
head_with x desk numbers = record {
  line = x.block.line;
  desk = desk;
  numbers = numbers;
  proved = proved_among (answers_of x.block.body);
  answers = length (answers_of x.block.body);
}

-- with what carries its arrows below, and an empty line behind
abbrev pub section_over : Ground → RelationFound → KeptLine → List ℕ
section_over g f x = relation_text g.table (head_of_line g.session x) f.relation ++ carried_text g.table carried_head f.carried ++ 10 ∷ []

abbrev pub section_text : Ground → RelationFound → List ℕ
section_text g f = option_map_or (section_over g f) (slice_get g.kept f.place) []

-- ---- the page: one after the other

abbrev pub relations_text : Ground → List RelationFound → List ℕ
relations_text g fs = flat_map (section_text g) fs
