-- What stands behind the sheet and behind the pages of a report: notes below a head, on names of the table's file, on what was passed
-- over in it, and on what will be refused of a session.
use Rattle.std.specs.Prelude.{◌≡◌, ◌⊎◌, ℕ, true, List, [], ◌++◌, codes}
use Rattle.ror_value.specs.declared.input.Input.{Input}
use Rattle.ror_show_sheet.specs.Notes.{are_notes}
use Rattle.ror_show_sheet.specs.Sheet.{sheet_text}

-- nothing, or notes below a head
abbrev pub IsPartBelow : List ℕ → List ℕ → Type 0
IsPartBelow head text = (text ≡ []) ⊎ ((notes : List ℕ) × (are_notes notes ≡ true) × (text ≡ head ++ notes))

-- ---- behind a page

unfoldable pub names_head : List ℕ
names_head = codes "names, by the lines of the table's file\n"

abbrev pub IsLegend : List ℕ → Type 0
IsLegend text = IsPartBelow names_head text

-- ---- behind the sheet

unfoldable pub file_head : List ℕ
file_head = codes "\nbesides, by the lines of the table's file\n"

unfoldable pub session_head : List ℕ
session_head = codes "\nthe session, by its lines\n"

-- on the table's file, and then on a session
pub record IsBeside (text : List ℕ) : Type 0 where
  pub file : List ℕ
  pub of_file : IsPartBelow file_head file
  pub said : List ℕ
  pub of_session : IsPartBelow session_head said
  pub text_is : text ≡ file ++ said

-- the sheet, and what stands beside it
abbrev pub IsSheet : Input → List ℕ → Type 0
IsSheet i text = (rest : List ℕ) × IsBeside rest × (text ≡ sheet_text i ++ rest)

abbrev pub AddsSheet : Input → List ℕ → List ℕ → Type 0
AddsSheet i before after = (rest : List ℕ) × IsBeside rest × (after ≡ before ++ sheet_text i ++ rest)
