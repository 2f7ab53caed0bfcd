-- The words of a report's line, read one by one from the left: the value of each, or the line's
-- first fault.
use Rattle.std.specs.Prelude.{ℕ, ◌+◌, not, List, [], ◌∷◌, length, take, drop, position, Option, None, Result, Ok, Err, ℤ, codes, ◌==◌, if◌then◌else◌}
use Rattle.std.specs.Option.{option_map}
use Rattle.std.specs.Str.{bytes_eq}
use Rattle.ror_text.specs.Numbers.{number_of, small_number_of}
use Rattle.ror_text.specs.Reading.{◌>>=◌, refuse, need}
use Rattle.ror_proof.specs.declared.answer.Pivot.{Pivot}
use Rattle.ror_proof.specs.declared.read.ProofFault.{ProofFault}
use Rattle.ror_proof.specs.declared.read.ProofFault.TheVariants.{BadLine, BadNumber}
use Rattle.ror_proof.specs.Names.{name_of}

-- In each definition the number is the place of the first byte of the line whose words are read.

-- a word and those after it; a word that is missing is a fault
abbrev pub first_word : ℕ → List (List ℕ) → Result (List ℕ × List (List ℕ)) ProofFault
first_word place [] = Err (BadLine place)
first_word place (word ∷ more) = Ok (word, more)

-- the words after one that has to come first
unfoldable pub after_word : ℕ → List ℕ → List (List ℕ) → Result (List (List ℕ)) ProofFault
after_word place expected words = do
  word ← first_word place words
  if bytes_eq word.0 expected then Ok word.1 else Err (BadLine place)

-- which of these the first word stands for
unfoldable pub name_at : {N : Type 0} → (N → List ℕ) → List N → ℕ → List (List ℕ)
    → Result (N × List (List ℕ)) ProofFault
name_at word_of names place words = do
  word ← first_word place words
  name ← need (BadLine place) (name_of word_of names word.0)
  Ok (name, word.1)

-- which of these the first word stands for, if it stands for one
abbrev pub first_named : {N : Type 0} → (N → List ℕ) → List N → List (List ℕ) → Option N
first_named word_of names [] = None
first_named word_of names (word ∷ words) = name_of word_of names word

-- no word is left
abbrev pub no_more : ℕ → List (List ℕ) → Result (Unit {0}) ProofFault
no_more place [] = Ok tt
no_more place (word ∷ more) = Err (BadLine place)

-- what a word in a number's place says: an empty word is a bad line, any other that says no number
-- a bad number
abbrev pub number_in : {A : Type 0} → (List ℕ → Option A) → ℕ → List ℕ → Result A ProofFault
number_in number place word = do
  _ ← refuse (BadLine place) (length word == 0)
  need (BadNumber place) (number word)

-- the count, the place or the system that comes first
unfoldable pub small_number_at : ℕ → List (List ℕ) → Result (ℕ × List (List ℕ)) ProofFault
small_number_at place words = do
  word ← first_word place words
  number ← number_in small_number_of place word.0
  Ok (number, word.1)

-- the words after this number, which has to come first; any other is a bad number
unfoldable pub the_number_at : ℕ → ℕ → List (List ℕ) → Result (List (List ℕ)) ProofFault
the_number_at place expected words = do
  number ← small_number_at place words
  _ ← refuse (BadNumber place) (not (number.0 == expected))
  Ok number.1

-- the bytes before the first `:`, and those after it
abbrev pub split_pivot : List ℕ → Option (List ℕ × List ℕ)
split_pivot word =
    option_map (λ place. (take place word, drop (place + 1) word))
    (position (λ byte. byte == 58) word)

-- `COLUMN:ROW`; any other word is a bad line
unfoldable pub pivot_in : ℕ → List ℕ → Result Pivot ProofFault
pivot_in place word = do
  parts ← need (BadLine place) (split_pivot word)
  column ← need (BadLine place) (small_number_of parts.0)
  row ← need (BadLine place) (small_number_of parts.1)
  Ok (record { column = column; row = row })

-- what each word says
unfoldable pub all_at : {A : Type 0} → (List ℕ → Result A ProofFault) → List (List ℕ)
    → Result (List A) ProofFault
all_at read [] = Ok []
all_at read (word ∷ more) = do
  first ← read word
  others ← all_at read more
  Ok (first ∷ others)

-- every word is a number
abbrev pub numbers_at : ℕ → List (List ℕ) → Result (List ℤ) ProofFault
numbers_at place words = all_at (number_in number_of place) words

-- every word is a pivot
abbrev pub pivots_at : ℕ → List (List ℕ) → Result (List Pivot) ProofFault
pivots_at place words = all_at (pivot_in place) words

-- every word before `|` is a number; and the words after it
unfoldable pub numbers_before_bar : ℕ → List (List ℕ) → Result (List ℤ × List (List ℕ)) ProofFault
numbers_before_bar place [] = Err (BadLine place)
numbers_before_bar place (word ∷ more) = if bytes_eq word (codes "|") then Ok ([], more) else (do
  first ← number_in number_of place word
  others ← numbers_before_bar place more
  Ok (first ∷ others.0, others.1))
