use Rattle.std.specs.Prelude.{ℕ, ◌==◌, List, [], ◌++◌, codes, if◌then◌else◌}
use Rattle.ror_show_kit.specs.Amounts.{amount_text}
use Rattle.ror_table.specs.Table.{DecisionTable, level}

abbrev pub upto_text : DecisionTable → ℕ → ℕ → ℕ → List ℕ
upto_text t i r s = if r == s then [] else codes " .. " ++ amount_text (level t i s)

-- a level, and the one up to which others follow it
abbrev pub range_text : DecisionTable → ℕ → ℕ → ℕ → List ℕ
range_text t i r s = amount_text (level t i r) ++ upto_text t i r s
