-- The words of a command line.
use Rattle.std.specs.Prelude.{ℕ, Bool, true, false, ◌&&◌, ◌||◌, not, List, [], ◌∷◌, ◌++◌, length, slice_index, slice_index_or, nat_lt, ◌==◌, Option, Some, None, is_some, unwrap_or, codes, if◌then◌else◌}
use Rattle.std.specs.Option.{option_map, option_and_then, option_map_or}
use Rattle.std.specs.List.{list_all, find}
use Rattle.std.specs.Str.{bytes_eq}
use Rattle.ror_text.specs.Numbers.{count_of}
use Rattle.ror_pivot.specs.declared.note.Bits.{Bits}
use Rattle.ror_pivot.specs.declared.note.Bits.TheVariants.{B15, B31, B63, B127}
use Rattle.ror_words.specs.declared.table.CommandWord.{CommandWord}
use Rattle.ror_words.specs.declared.words.Place.{Place}
use Rattle.ror_words.specs.declared.words.Place.TheVariants.{Anything, Width, Names}
use Rattle.ror_words.specs.Commands.{Row, row_for}

-- ---- words

-- a word that isn't empty names something
abbrev pub is_named : List ℕ → Bool
is_named word = not (length word == 0)

-- and before the first `--` only if it isn't of two or more bytes and begins with `-`
abbrev pub is_name : List ℕ → Bool
is_name word = is_named word && not (nat_lt 1 (length word) && slice_index word 0 == 45)

-- how a width is written
abbrev pub width_text : Bits → List ℕ
width_text B15 = codes "15"
width_text B31 = codes "31"
width_text B63 = codes "63"
width_text B127 = codes "127"

-- the option with its width in one word
abbrev pub bits_word : Bits → List ℕ
bits_word bits = codes "--bits=" ++ width_text bits

abbrev pub widths : List Bits
widths = B15 ∷ B31 ∷ B63 ∷ B127 ∷ []

abbrev pub width_of : List ℕ → Option Bits
width_of word = find (λ bits. bytes_eq word (width_text bits)) widths

abbrev pub joined_width_of : List ℕ → Option Bits
joined_width_of word = find (λ bits. bytes_eq word (bits_word bits)) widths

-- ---- what the words after a command give

-- names in order, and the options
pub record Given : Type 0 where
  pub names : List (List ℕ)
  pub bits : Option Bits
  pub best_first : Bool

-- What the words ask for: a command, with what is given after it.
pub record Task : Type 0 where
  pub command : CommandWord
  pub given : Given

-- a name, from 0; one that isn't there is empty
abbrev pub name_at : ℕ → Given → List ℕ
name_at k given = slice_index_or given.names k []

-- the number that the first name is
abbrev pub number_of : Given → ℕ
number_of given = unwrap_or (count_of (name_at 0 given)) 0

-- without `--bits` the width is 127
abbrev pub width_given : Given → Bits
width_given given = unwrap_or given.bits B127

-- the files that a session is read from, by name, and whether the ranks of the table's categories begin with the best one
pub record InputNames : Type 0 where
  pub table : List ℕ
  pub session : List ℕ
  pub best_first : Bool

abbrev pub inputs_in : Given → InputNames
inputs_in given = record { table = name_at 0 given; session = name_at 1 given; best_first = given.best_first }

-- ---- reading them

abbrev pub none_given : Given
none_given = record { names = []; bits = None; best_first = false }

-- no command has more than four names
abbrev pub with_name : List ℕ → Given → Option Given
with_name name given =
    if nat_lt (length given.names) 4 then Some (record given { names = given.names ++ name ∷ [] }) else None

-- an option stands at most once
abbrev pub with_best_first : Given → Option Given
with_best_first given = if given.best_first then None else Some (record given { best_first = true })

abbrev pub with_bits : Bits → Given → Option Given
with_bits bits given = if is_some given.bits then None else Some (record given { bits = Some bits })

-- what was given so far, and what stands next: anything, the width that `--bits` announced, or, after `--`, names alone
pub record Reading : Type 0 where
  pub given : Given
  pub place : Place

abbrev pub reading_at : Place → Given → Reading
reading_at place given = record { given = given; place = place }

-- what comes of a word
abbrev pub taken_first : List ℕ → Given → Option Reading
taken_first word given =
    if bytes_eq word (codes "--") then Some (reading_at Names given)
    else if bytes_eq word (codes "--best-first") then option_map (reading_at Anything) (with_best_first given)
    else if bytes_eq word (codes "--bits") then Some (reading_at Width given)
    else option_map_or (λ bits. option_map (reading_at Anything) (with_bits bits given)) (joined_width_of word)
    (if is_name word then option_map (reading_at Anything) (with_name word given) else None)

abbrev pub taken_at : Place → List ℕ → Given → Option Reading
taken_at Anything word given = taken_first word given
taken_at Width word given =
    option_and_then (λ bits. option_map (reading_at Anything) (with_bits bits given)) (width_of word)
taken_at Names word given = if is_named word then option_map (reading_at Names) (with_name word given) else None

abbrev pub taken : List ℕ → Reading → Option Reading
taken word reading = taken_at reading.place word reading.given

-- The words are read from left to right. That they give this exactly where they are written so is said by WordTable, and is a
-- clause of `run`.
abbrev pub read_on : Reading → List (List ℕ) → Option Reading
read_on reading [] = Some reading
read_on reading (word ∷ words) = option_and_then (λ next. read_on next words) (taken word reading)

abbrev pub given_at_end : Place → Given → Option Given
given_at_end Width given = None
given_at_end _ given = Some given

abbrev pub given_from : Reading → List (List ℕ) → Option Given
given_from reading words = option_and_then (λ end. given_at_end end.place end.given) (read_on reading words)

abbrev pub given_in : List (List ℕ) → Option Given
given_in words = given_from (reading_at Anything none_given) words

-- ---- what the words ask for

-- a number has 1 to 9 digits
abbrev pub is_number : List ℕ → Bool
is_number word = is_some (count_of word)

-- the command takes these options, and these names
abbrev pub suits : Row → Given → Bool
suits row given = (length given.names == length row.names)
    && ((not row.numbers || list_all is_number given.names)
    && ((row.bits || not (is_some given.bits)) && (row.best_first || not given.best_first)))

abbrev pub task_with : Row → Given → Task
task_with row given = record { command = row.command; given = given }

-- None of words that are not in the table
unfoldable pub task_of : List (List ℕ) → Option Task
task_of [] = None
task_of (word ∷ words) =
    option_and_then (λ row. option_and_then (λ given.
    if suits row given then Some (task_with row given) else None) (given_in words)) (row_for word)
