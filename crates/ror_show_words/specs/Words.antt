-- The words of a command line. Which words a page takes, and what they give, is what `clap` says of its command.
use Rattle.std.specs.Prelude.{ℕ, Bool, true, false, not, is_some, ◌&&◌, List, [], ◌∷◌, length, ◌==◌, Option, Some, None, codes, unwrap_or, if◌then◌else◌}
use Rattle.std.specs.Option.{option_map, option_and_then, option_map_or}
use Rattle.std.specs.List.{find, list_any}
use Rattle.std.specs.Str.{bytes_eq}
use Rattle.clap.specs.Words.{App, Rule, Text, new_app, new_rule, with_rule, matches_of, fault_of, first_of, all_of}
use Rattle.clap.specs.Simple.{on_top}
use Rattle.clap.specs.declared.builder.action.ArgAction.TheVariants.{SetTrue}
use Rattle.ror_text.specs.Numbers.{count_of}
use Rattle.ror_show_words.specs.declared.table.Lines.{Lines}
use Rattle.ror_show_words.specs.declared.table.Lines.TheVariants.{NoLine, ALine, OneLine}
use Rattle.ror_show_words.specs.declared.table.Page.{Page}
use Rattle.ror_show_words.specs.declared.words.Form.{Form}
use Rattle.ror_show_words.specs.declared.words.Form.TheVariants as forms
use Rattle.ror_show_words.specs.declared.table.Shown.{Shown}
use Rattle.ror_show_words.specs.declared.table.Shown.TheVariants.{Report, Sheet, Group, Check, Import}
use Rattle.ror_show_words.specs.Commands.{Row, row_for, form_text}

-- ---- what a page takes

-- a name that it needs
abbrev pub name_rule : Text → Rule
name_rule id = record (new_rule id) { required = true }

-- a name that it doesn't need; an option with a value; without one
abbrev pub spare_rule : Text → Rule
spare_rule id = new_rule id

abbrev pub option_rule : Text → Rule
option_rule id = record (new_rule id) { long = Some id }

abbrev pub flag_rule : Text → Rule
flag_rule id = record (option_rule id) { action = Some SetTrue }

-- the command, which takes no word as the program's name, and has no words for help and version
abbrev pub bare_app : App
bare_app = on_top (λ s. record s {
  no_binary_name = true;
  disable_help_flag = true;
  disable_version_flag = true;
}) (new_app (codes "ror_show"))

-- with two values
abbrev pub pair_rule : Text → Rule
pair_rule id = record (option_rule id) { range = Some (record { start_inclusive = 2; end_inclusive = 2 }) }

unfoldable pub named_app : App
named_app = with_rule (with_rule (with_rule bare_app (name_rule (codes "TABLE"))) (name_rule (codes "SESSION")))
    (name_rule (codes "REPORT"))

unfoldable pub single_app : App
single_app = with_rule (with_rule (with_rule (with_rule named_app (flag_rule (codes "best-first")))
    (option_rule (codes "line"))) (option_rule (codes "desk"))) (option_rule (codes "as"))

-- A page of a report has all of them; its row says which it takes.
unfoldable pub page_app : App
page_app = with_rule single_app (pair_rule (codes "pair"))

-- the check of certificates has the names of four files
unfoldable pub check_app : App
check_app = with_rule (with_rule named_app (name_rule (codes "CERTIFICATES"))) (flag_rule (codes "best-first"))

-- the page of what was read has the names of two files, of which it needs the first
unfoldable pub sheet_app : App
sheet_app = with_rule (with_rule (with_rule bare_app (name_rule (codes "TABLE"))) (spare_rule (codes "SESSION")))
    (flag_rule (codes "best-first"))

-- the table of a spreadsheet has the name of its file, and options that name criteria
unfoldable pub import_app : App
import_app = with_rule (with_rule (with_rule (with_rule bare_app (name_rule (codes "FILE"))) (option_rule (codes "min")))
    (option_rule (codes "max"))) (option_rule (codes "linear"))

-- ---- what words give

-- the names of two alternatives
pub record PairWords : Type 0 where
  pub first : List ℕ
  pub second : List ℕ

-- The names of the files; whether the ranks of the table's categories begin with the best one; the line and the desk that are
-- meant, and the alternatives between which answers are, where they are given; and the form.
pub record PageWords : Type 0 where
  pub table : List ℕ
  pub session : List ℕ
  pub report : List ℕ
  pub best_first : Bool
  pub line : Option ℕ
  pub desk : Option (List ℕ)
  pub pair : Option PairWords
  pub form : Form

-- the name of the table's file, and that of a session's, where it is given
pub record SheetWords : Type 0 where
  pub table : List ℕ
  pub session : Option (List ℕ)
  pub best_first : Bool

-- the names of four files
pub record CheckWords : Type 0 where
  pub table : List ℕ
  pub session : List ℕ
  pub report : List ℕ
  pub certificates : List ℕ
  pub best_first : Bool

-- the name of a spreadsheet's file, and the names of criteria of which smaller or greater values are better, and of linear ones
pub record ImportWords : Type 0 where
  pub file : List ℕ
  pub min : Option (List ℕ)
  pub max : Option (List ℕ)
  pub linear : Option (List ℕ)

-- what words ask for: a page of a report, of a group's report, what was read of files, whether certificates are proved, or the table of a spreadsheet
pub data Asked : Type 0 where
  OfReport : Page → PageWords → Asked
  OfGroup : PageWords → Asked
  OfFiles : SheetWords → Asked
  OfCheck : CheckWords → Asked
  OfSpreadsheet : ImportWords → Asked

-- the number of a line has 1 to 9 digits, and isn't 0
abbrev pub line_of : List ℕ → Option ℕ
line_of word = option_and_then (λ n. if n == 0 then None else Some n) (count_of word)

abbrev pub form_of : List ℕ → Option Form
form_of word = find (λ form. bytes_eq word (form_text form))
    (forms.Text ∷ forms.Csv ∷ forms.Dot ∷ forms.Certificates ∷ [])

-- what two words name
abbrev pub pair_of : List Text → Option PairWords
pair_of (a ∷ b ∷ []) = Some (record { first = a; second = b })
pair_of _ = None

-- an option that isn't given, or whose value, or whose values, read as something
abbrev pub if_given : {A B : Type 0} → (B → Option A) → Option B → Option (Option A)
if_given read None = Some None
if_given read (Some given) = option_map Some (read given)

abbrev pub is_given : Option (List ℕ) → Bool
is_given found = option_map_or (λ word. bytes_eq word (codes "true")) found false

-- the two alternatives, where they are given
abbrev pub pair_in : (Text → Option (List Text)) → Option (Option PairWords)
pair_in values = if_given pair_of (values (codes "pair"))

-- What is found for each name and option; None where a name isn't, or the value of `--line` is no number of a line, or that of
-- `--as` no form.
abbrev pub words_with : (Text → Option Text) → Option PairWords → Form → Option PageWords
words_with found pair form =
    option_and_then (λ table. option_and_then (λ session. option_and_then (λ report.
    option_map (λ line. record {
      table = table;
      session = session;
      report = report;
      best_first = is_given (found (codes "best-first"));
      line = line;
      desk = found (codes "desk");
      pair = pair;
      form = form;
    }) (if_given line_of (found (codes "line"))))
    (found (codes "REPORT"))) (found (codes "SESSION"))) (found (codes "TABLE"))

-- the value of each name and option, and which values `--pair` has
abbrev pub words_of : (Text → Option Text) → (Text → Option (List Text)) → Option PageWords
words_of found values = option_and_then (λ form. option_and_then (λ pair. words_with found pair (unwrap_or form forms.Text))
    (pair_in values)) (if_given form_of (found (codes "as")))

-- the same of the check of certificates
abbrev pub check_words_of : (Text → Option Text) → Option CheckWords
check_words_of found =
    option_and_then (λ table. option_and_then (λ session. option_and_then (λ report. option_map (λ certificates. record {
      table = table;
      session = session;
      report = report;
      certificates = certificates;
      best_first = is_given (found (codes "best-first"));
    }) (found (codes "CERTIFICATES"))) (found (codes "REPORT"))) (found (codes "SESSION"))) (found (codes "TABLE"))

-- the same of the page of what was read
abbrev pub sheet_words_of : (Text → Option Text) → Option SheetWords
sheet_words_of found = option_map (λ table. record {
  table = table;
  session = found (codes "SESSION");
  best_first = is_given (found (codes "best-first"));
}) (found (codes "TABLE"))

-- the same of the table of a spreadsheet
abbrev pub import_words_of : (Text → Option Text) → Option ImportWords
import_words_of found = option_map (λ file. record {
  file = file;
  min = found (codes "min");
  max = found (codes "max");
  linear = found (codes "linear");
}) (found (codes "FILE"))

-- What stands after the word of a page gives: what is found in it, where the command takes it, which is where it has no fault.
unfoldable pub given_in : List (List ℕ) → Option PageWords
given_in words = if length (fault_of page_app words) == 0
    then words_of (λ id. first_of id (matches_of page_app words)) (λ id. all_of id (matches_of page_app words)) else None

unfoldable pub check_in : List (List ℕ) → Option CheckWords
check_in words = if length (fault_of check_app words) == 0
    then check_words_of (λ id. first_of id (matches_of check_app words)) else None

unfoldable pub sheet_in : List (List ℕ) → Option SheetWords
sheet_in words = if length (fault_of sheet_app words) == 0
    then sheet_words_of (λ id. first_of id (matches_of sheet_app words)) else None

unfoldable pub import_in : List (List ℕ) → Option ImportWords
import_in words = if length (fault_of import_app words) == 0
    then import_words_of (λ id. first_of id (matches_of import_app words)) else None

-- ---- which of them a page takes, by its row

-- it may be of this line, or of no one line
abbrev pub fits_line : Lines → Option ℕ → Bool
fits_line NoLine None = true
fits_line NoLine (Some line) = false
fits_line ALine line = true
fits_line OneLine None = false
fits_line OneLine (Some line) = true

-- certificates are of all that is meant
abbrev pub takes_pair : Form → Bool
takes_pair forms.Certificates = false
takes_pair form = true

abbrev pub fits_pair : Bool → Form → Option PairWords → Bool
fits_pair takes form None = true
fits_pair takes form (Some pair) = takes && takes_pair form

-- it is written in this form
abbrev pub is_same : Form → Form → Bool
is_same form other = bytes_eq (form_text form) (form_text other)

abbrev pub has_form : List Form → Form → Bool
has_form given form = list_any (is_same form) given

abbrev pub fits : Row → PageWords → Bool
fits row words = fits_line row.lines words.line && fits_pair row.pair words.form words.pair && has_form row.forms words.form

abbrev pub of_report : Row → Page → PageWords → Option Asked
of_report row page words = if fits row words then Some (OfReport page words) else None

-- that of a group's report is of no one desk
abbrev pub of_group : Row → PageWords → Option Asked
of_group row words = if fits row words && not (is_some words.desk) then Some (OfGroup words) else None

abbrev pub asked_by : Row → Shown → List (List ℕ) → Option Asked
asked_by row (Report page) words = option_and_then (of_report row page) (given_in words)
asked_by row Sheet words = option_map OfFiles (sheet_in words)
asked_by row Group words = option_and_then (of_group row) (given_in words)
asked_by row Check words = option_map OfCheck (check_in words)
asked_by row Import words = option_map OfSpreadsheet (import_in words)

-- None of words that ask for nothing
unfoldable pub asked : List (List ℕ) → Option Asked
asked [] = None
asked (word ∷ words) = option_and_then (λ row. asked_by row row.shown words) (row_for word)
