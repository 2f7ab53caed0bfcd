-- Why a line is refused, in words, and the name or the class of it that is none of the table's.
use Rattle.std.specs.Prelude.{ℕ, List, [], ◌∷◌, ◌++◌, codes, Option, if◌then◌else◌, is_none, option_to_list}
use Rattle.ror_table.specs.Table.{DecisionTable, alternative_named, criterion_named}
use Rattle.ror_session.specs.declared.session.Command.{Command}
use Rattle.ror_report.specs.declared.block.LineFault.{LineFault}
use Rattle.ror_report.specs.declared.block.LineFault.TheVariants as faults
use Rattle.ror_bench.specs.Lines.{alternatives_in, criterion_in, classes_in}
use Rattle.ror_bench.specs.Names.{is_no_class}
use Rattle.ror_show_text_roll.specs.Words.{word, number}

-- the first of these names that isn't found; nothing where each is
abbrev pub first_unknown : (List ℕ → Option ℕ) → List (List ℕ) → List ℕ
first_unknown find [] = []
first_unknown find (name ∷ names) = if is_none (find name) then word name else first_unknown find names

-- the first of these that is no class of the table
abbrev pub first_no_class : DecisionTable → List ℕ → List ℕ
first_no_class t [] = []
first_no_class t (h ∷ hs) = if is_no_class t h then number h else first_no_class t hs

abbrev pub fault_words : LineFault → List ℕ
fault_words faults.UnknownAlternative = codes "unknown alternative"
fault_words faults.UnknownCriterion = codes "unknown criterion"
fault_words faults.UnknownClass = codes "unknown class"
fault_words faults.BadInterval = codes "bad interval of classes"
fault_words faults.NoSuchStatement = codes "no such statement"
fault_words faults.NothingToUndo = codes "nothing to undo"
fault_words faults.TooManyStatements = codes "too many statements"
fault_words faults.TooManyRows = codes "too many rows"
fault_words faults.TooManyPairs = codes "too many pairs"

-- what of the command is unknown, where a name or a class is at fault
abbrev pub unknown_in : DecisionTable → Command → LineFault → List ℕ
unknown_in t command faults.UnknownAlternative = first_unknown (alternative_named t) (alternatives_in command)
unknown_in t command faults.UnknownCriterion = first_unknown (criterion_named t) (option_to_list (criterion_in command))
unknown_in t command faults.UnknownClass = first_no_class t (classes_in command)
unknown_in t command _ = []

abbrev pub fault_text : DecisionTable → Command → LineFault → List ℕ
fault_text t command fault = fault_words fault ++ unknown_in t command fault
