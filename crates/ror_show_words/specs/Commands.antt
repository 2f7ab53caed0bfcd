-- The table of pages: the one place that says of each its word, of which lines it is, whether it may be of two alternatives, and its
-- forms. The usage line, which words a page takes, and what they ask for come from it.
use Rattle.std.specs.Prelude.{ℕ, Bool, true, false, List, [], ◌∷◌, ◌++◌, Option, codes, if◌then◌else◌}
use Rattle.std.specs.List.{find, flat_map}
use Rattle.std.specs.Str.{bytes_eq}
use Rattle.ror_show_words.specs.declared.table.Lines.{Lines}
use Rattle.ror_show_words.specs.declared.table.Lines.TheVariants.{NoLine, ALine, OneLine}
use Rattle.ror_show_words.specs.declared.table.Page.TheVariants.{Relation, Changes, Classes, Standing, Functions, Reasons, WhatIf}
use Rattle.ror_show_words.specs.declared.table.Shown.{Shown}
use Rattle.ror_show_words.specs.declared.table.Shown.TheVariants.{Report, Sheet, Group, Check, Import}
use Rattle.ror_show_words.specs.declared.words.Form.{Form}
use Rattle.ror_show_words.specs.declared.words.Form.TheVariants.{Text, Csv, Dot, Certificates}

-- a row of it
pub record Row : Type 0 where
  pub shown : Shown
  pub word : List ℕ
  pub lines : Lines
  -- it may be of two alternatives
  pub pair : Bool
  -- those in which it is written, of which it has the first where none is named
  pub forms : List Form

abbrev pub row : Shown → List ℕ → Lines → Bool → List Form → Row
row shown word lines pair forms = record { shown = shown; word = word; lines = lines; pair = pair; forms = forms }

-- what is a table is written as values too, and what has arrows as a graph
abbrev pub table : List Row
table = row Sheet (codes "read") NoLine false (Text ∷ [])
    ∷ row (Report Relation) (codes "relation") ALine false (Text ∷ Csv ∷ Dot ∷ [])
    ∷ row (Report Changes) (codes "changes") NoLine false (Text ∷ Csv ∷ [])
    ∷ row (Report Classes) (codes "classes") NoLine false (Text ∷ Csv ∷ [])
    ∷ row (Report Standing) (codes "standing") ALine false (Text ∷ [])
    ∷ row (Report Functions) (codes "functions") OneLine false (Text ∷ Csv ∷ [])
    ∷ row (Report Reasons) (codes "why") ALine true (Text ∷ Certificates ∷ [])
    ∷ row (Report WhatIf) (codes "what-if") ALine false (Text ∷ Csv ∷ [])
    ∷ row Group (codes "group") NoLine false (Text ∷ Csv ∷ Dot ∷ [])
    ∷ row Check (codes "check-why") NoLine false (Text ∷ [])
    ∷ row Import (codes "import") NoLine false (Text ∷ [])
    ∷ []

abbrev pub row_for : List ℕ → Option Row
row_for word = find (λ row. bytes_eq row.word word) table

-- ---- the usage line

-- how a form is written
abbrev pub form_text : Form → List ℕ
form_text Text = codes "text"
form_text Csv = codes "csv"
form_text Dot = codes "dot"
form_text Certificates = codes "certificates"

-- the names, and the options that all such pages take
abbrev pub names_usage : Shown → List ℕ
names_usage Sheet = codes " TABLE [SESSION] [--best-first]"
names_usage (Report page) = codes " TABLE SESSION REPORT [--best-first] [--desk NAME]"
names_usage Group = codes " TABLE SESSION REPORT [--best-first]"
names_usage Check = codes " TABLE SESSION REPORT CERTIFICATES [--best-first]"
names_usage Import = codes " FILE [--min NAMES] [--max NAMES] [--linear NAMES]"

abbrev pub lines_usage : Lines → List ℕ
lines_usage NoLine = []
lines_usage ALine = codes " [--line N]"
lines_usage OneLine = codes " --line N"

abbrev pub pair_usage : Bool → List ℕ
pair_usage pair = if pair then codes " [--pair A B]" else []

-- a form behind the first
abbrev pub form_usage : Form → List ℕ
form_usage form = codes "|" ++ form_text form

abbrev pub forms_usage : List Form → List ℕ
forms_usage [] = []
forms_usage (first ∷ []) = []
forms_usage (first ∷ second ∷ rest) = codes " [--as " ++ form_text first ++ flat_map form_usage (second ∷ rest) ++ codes "]"

abbrev pub row_usage : Row → List ℕ
row_usage row = codes "ror_show " ++ row.word ++ names_usage row.shown ++ lines_usage row.lines ++ pair_usage row.pair
    ++ forms_usage row.forms

-- the pages of the table, with bars between
abbrev pub rows_usage : List Row → List ℕ
rows_usage [] = []
rows_usage (row ∷ []) = row_usage row
rows_usage (row ∷ rows) = row_usage row ++ codes " | " ++ rows_usage rows

abbrev pub usage_text : List ℕ
usage_text = codes "usage: " ++ rows_usage table ++ codes "\n"
