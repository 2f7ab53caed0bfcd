-- Of which list of blocks a value is the form, and which block is the first that is none.
use Rattle.std.specs.Prelude.{◌≡◌, ℕ, zero, suc, List, ◌∷◌, ◌++◌, length, map}
use Rattle.std.specs.List.{AllByRecursion}
use Rattle.serde_json.specs.Data.{Data}
use Rattle.ror_table.specs.Table.{DecisionTable}
use Rattle.ror_report.specs.declared.block.Block.{Block}
use Rattle.ror_json.specs.Form.{block_form, outer_form, report_form, IsFormedBlock}

-- the value is the form of the block, whose questions and numbers are those that a report may hold
pub record IsBlockForm (t : DecisionTable) (d : Data) (b : Block) : Type 0 where
  pub form : d ≡ block_form t b
  pub formed : IsFormedBlock t b

pub record IsReportForm (t : DecisionTable) (d : Data) (blocks : List Block) : Type 0 where
  pub form : d ≡ report_form t blocks
  pub formed : AllByRecursion (IsFormedBlock t) blocks

-- after these blocks, whose forms come first, an item is no block's form
pub record IsFirstBadBlock (t : DecisionTable) (d : Data) (k : ℕ) : Type 0 where
  pub before : List Block
  pub bad : Data
  pub after : List Data
  pub items : d ≡ outer_form (map (block_form t) before ++ bad ∷ after)
  pub formed : AllByRecursion (IsFormedBlock t) before
  pub none : (b : Block) → IsBlockForm t bad b → ⊥
  pub place : k ≡ suc (length before)

-- 0 where the value is no such outer object, else the number of the first item, from 1, that is no
-- block's form
abbrev pub IsBadShape : DecisionTable → Data → ℕ → Type 0
IsBadShape t d zero = (items : List Data) → d ≡ outer_form items → ⊥
IsBadShape t d (suc k) = IsFirstBadBlock t d (suc k)
