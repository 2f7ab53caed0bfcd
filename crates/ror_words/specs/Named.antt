-- What a command names, as values.
use Rattle.std.specs.Prelude.{◌≡◌, List, ℕ, Some, map}
use Rattle.ror_words.specs.declared.words.FileNames.{FileNames}
use Rattle.ror_words.specs.declared.table.Row as rows
use Rattle.ror_words.specs.declared.words.Arguments as arguments
use Rattle.ror_words.specs.declared.words.Reading as readings
use Rattle.ror_words.specs.Commands.{Row}
use Rattle.ror_words.specs.Words.{InputNames, Given, Reading, reading_at, task_with, task_of}

abbrev pub row_with : rows.Row → Row
row_with row = record {
  command = row.command;
  word = row.word.now;
  names = map (λ name. name.now) row.names.now;
  numbers = row.numbers;
  bits = row.bits;
  best_first = row.best_first;
}

abbrev pub inputs_of : FileNames → InputNames
inputs_of names = record {
  table = names.table.now;
  session = names.session.now;
  best_first = names.best_first;
}

-- what arguments give
abbrev pub given_with : arguments.Arguments → Given
given_with o = record { names = map (λ name. name.now) o.names.items; bits = o.bits; best_first = o.best_first }

abbrev pub reading_with : readings.Reading → Reading
reading_with r = reading_at r.place (given_with r.given)

-- the words ask for this command, with what is given after it
abbrev pub IsAsked : List (List ℕ) → rows.Row → Given → Type 0
IsAsked words row given = task_of words ≡ Some (task_with (row_with row) given)
