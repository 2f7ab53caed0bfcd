-- The table of words, by how they are written: which words ask for something, and for what.
use Rattle.std.specs.Prelude.{◌≡◌, ◌↔◌, ℕ, Bool, true, List, [], ◌∷◌, ◌++◌, map, Option, Some, None, codes}
use Rattle.std.specs.Option.{option_and_then}
use Rattle.std.specs.List.{flat_map, list_all}
use Rattle.ror_pivot.specs.declared.note.Bits.{Bits}
use Rattle.ror_words.specs.Commands.{Row, row_for}
use Rattle.ror_words.specs.Words.{Task, Given, none_given, with_name, with_bits, with_best_first, is_name, is_named, width_text, bits_word, suits, task_with, task_of}

-- what may stand after the command and before a first `--`: a name; `--bits` and a width, in two words or in one; or
-- `--best-first`
pub data Part : Type 0 where
  Name : List ℕ → Part
  BitsApart : Bits → Part
  BitsJoined : Bits → Part
  BestFirst : Part

-- the words that it is written in
abbrev pub written : Part → List (List ℕ)
written (Name name) = name ∷ []
written (BitsApart bits) = codes "--bits" ∷ width_text bits ∷ []
written (BitsJoined bits) = bits_word bits ∷ []
written BestFirst = codes "--best-first" ∷ []

abbrev pub is_part : Part → Bool
is_part (Name name) = is_name name
is_part _ = true

-- what it adds to what was given before: a name, or an option, which stands at most once
abbrev pub with_part : Part → Given → Option Given
with_part (Name name) given = with_name name given
with_part (BitsApart bits) given = with_bits bits given
with_part (BitsJoined bits) given = with_bits bits given
with_part BestFirst given = with_best_first given

abbrev pub with_parts : List Part → Given → Option Given
with_parts [] given = Some given
with_parts (part ∷ parts) given = option_and_then (with_parts parts) (with_part part given)

-- after them stands nothing, or `--` and further names
abbrev pub ended_by : Option (List (List ℕ)) → List (List ℕ)
ended_by None = []
ended_by (Some names) = codes "--" ∷ names

abbrev pub names_after : Option (List (List ℕ)) → List (List ℕ)
names_after None = []
names_after (Some names) = names

-- what was given before and the words give these names, in order, and these options, each at most once
pub record AreGiven (before : Given) (words : List (List ℕ)) (given : Given) : Type 0 where
  pub parts : List Part
  pub last : Option (List (List ℕ))
  pub words_are : words ≡ flat_map written parts ++ ended_by last
  pub plain : list_all is_part parts ≡ true
  pub named : list_all is_named (names_after last) ≡ true
  pub given_is : with_parts (parts ++ map Name (names_after last)) before ≡ Some given

-- the words ask for the task: the word of a command, and what it takes
pub record IsInTable (words : List (List ℕ)) (task : Task) : Type 0 where
  pub word : List ℕ
  pub rest : List (List ℕ)
  pub row : Row
  pub given : Given
  pub words_are : words ≡ word ∷ rest
  pub row_is : row_for word ≡ Some row
  pub given_is : AreGiven none_given rest given
  pub taken : suits row given ≡ true
  pub task_is : task ≡ task_with row given

-- the definition of what the words ask for is this
abbrev pub IsByTable : List (List ℕ) → Type 0
IsByTable words = (task : Task) → (task_of words ≡ Some task) ↔ IsInTable words task
