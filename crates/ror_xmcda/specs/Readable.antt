-- Which XMCDA files are read: those that say an input within the limits, and no others.
use Rattle.std.specs.Prelude.{◌≡◌, ◌↔◌, ℕ, ◌<◌, ◌≤◌, Bool, true, List, length, Ok}
use Rattle.ror_text.specs.declared.lines.TheConstants.{MOST_TEXT_BYTES}
use Rattle.ror_statement.specs.declared.row_number.TheConstants.{MOST_STATEMENTS, MOST_ROWS}
use Rattle.ror_statement.specs.RowNumbers.{row_count}
use Rattle.ror_table.specs.declared.limits.TheConstants.{MOST_ALTERNATIVES, MOST_CLASSES, MOST_CRITERIA, MOST_STEPS}
use Rattle.ror_table.specs.Table.{columns}
use Rattle.ror_value.specs.declared.input.Input.{Input}
use Rattle.ror_elements.specs.Tree.{Tree}
use Rattle.ror_xmcda.specs.Content.{content}
use Rattle.ror_xmcda.specs.Input.{is_xmcda, input_of}
use Rattle.ror_xmcda.specs.Meaning.{IsContent, IsMeant}

-- there are a criterion and an alternative at least, and of nothing more than there may be
pub record IsWithinLimits (input : Input) : Type 0 where
  pub some_criterion : 0 < length input.table.criteria
  pub some_alternative : 0 < length input.table.alternatives
  pub criteria : length input.table.criteria ≤ MOST_CRITERIA
  pub alternatives : length input.table.alternatives ≤ MOST_ALTERNATIVES
  pub classes : input.table.classes ≤ MOST_CLASSES
  pub steps : columns input.table ≤ MOST_STEPS
  pub statements : length input.opening ≤ MOST_STATEMENTS
  pub rows : row_count input.opening ≤ MOST_ROWS

-- an input is read of a tree exactly where the tree says it, and it is within the limits
abbrev pub ContentsAreRead : Type 0
ContentsAreRead = (best_first : Bool) (root : Tree) (input : Input)
    → (content best_first root ≡ Ok input) ↔ (IsContent best_first root input × IsWithinLimits input)

-- and of an XMCDA file exactly where it is no longer than may be, and is the text of such a tree
abbrev pub FilesAreRead : Type 0
FilesAreRead = (bytes : List ℕ) (best_first : Bool) (input : Input) → is_xmcda bytes ≡ true
    → (input_of bytes best_first ≡ Ok input)
    ↔ ((length bytes ≤ MOST_TEXT_BYTES) × IsMeant bytes best_first input × IsWithinLimits input)
