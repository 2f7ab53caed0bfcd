-- What words ask for, as values.
use Rattle.std.specs.Prelude.{option_map}
use Rattle.ror_show_words.specs.declared.table.Row as rows
use Rattle.ror_show_words.specs.declared.words.Asked as given
use Rattle.ror_show_words.specs.declared.words.Asked.TheVariants as asked
use Rattle.ror_show_words.specs.declared.words.PageWords as words
use Rattle.ror_show_words.specs.declared.words.PairWords as pairs
use Rattle.ror_show_words.specs.declared.words.CheckWords as checks
use Rattle.ror_show_words.specs.declared.words.SheetWords as sheets
use Rattle.ror_show_words.specs.declared.words.ImportWords as imports
use Rattle.ror_show_words.specs.Commands.{Row}
use Rattle.ror_show_words.specs.Words.{PageWords, PairWords, CheckWords, SheetWords, ImportWords, Asked, OfReport, OfGroup, OfFiles, OfCheck, OfSpreadsheet}

abbrev pub row_with : rows.Row → Row
row_with row = record {
  shown = row.shown;
  word = row.word.now;
  lines = row.lines;
  pair = row.pair;
  forms = row.forms.now;
}

abbrev pub pair_words_of : pairs.PairWords → PairWords
pair_words_of given = record { first = given.first.now; second = given.second.now }

abbrev pub page_words_of : words.PageWords → PageWords
page_words_of given = record {
  table = given.table.now;
  session = given.session.now;
  report = given.report.now;
  best_first = given.best_first;
  line = given.line;
  desk = option_map (λ name. name.now) given.desk;
  pair = option_map pair_words_of given.pair;
  form = given.form;
}

abbrev pub check_words_of : checks.CheckWords → CheckWords
check_words_of given = record {
  table = given.table.now;
  session = given.session.now;
  report = given.report.now;
  certificates = given.certificates.now;
  best_first = given.best_first;
}

abbrev pub sheet_words_of : sheets.SheetWords → SheetWords
sheet_words_of given = record {
  table = given.table.now;
  session = option_map (λ name. name.now) given.session;
  best_first = given.best_first;
}

abbrev pub import_words_of : imports.ImportWords → ImportWords
import_words_of given = record {
  file = given.file.now;
  min = option_map (λ word. word.now) given.min;
  max = option_map (λ word. word.now) given.max;
  linear = option_map (λ word. word.now) given.linear;
}

abbrev pub asked_with : given.Asked → Asked
asked_with (asked.OfReport page words) = OfReport page (page_words_of words)
asked_with (asked.OfGroup words) = OfGroup (page_words_of words)
asked_with (asked.OfFiles words) = OfFiles (sheet_words_of words)
asked_with (asked.OfCheck words) = OfCheck (check_words_of words)
asked_with (asked.OfSpreadsheet words) = OfSpreadsheet (import_words_of words)
