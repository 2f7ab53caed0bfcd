-- What a line of an answer or of a repair may be, word by word, and the first word at fault.
use Rattle.std.specs.Prelude.{◌≡◌, ◌⊎◌, ℕ, zero, suc, ◌<◌, ◌^◌, ℤ, List, [], ◌∷◌, ◌++◌, length, map, drop, codes, Contains, decimal, Bool, true, false, Option, None, Some, nat_le, if◌then◌else◌}
use Rattle.std.specs.Fmt.{signed_decimal}
use Rattle.std.specs.Str.{bytes_eq}
use Rattle.ror_text.specs.Cursor.{Cursor, line_words, line_after}
use Rattle.ror_system.specs.System.{IsNarrow}
use Rattle.ror_table.specs.Table.{DecisionTable, alternative_ids, criterion_ids}
use Rattle.ror_proof.specs.declared.answer.Pivot.{Pivot}
use Rattle.ror_proof.specs.declared.names.QuestionName.{QuestionName}
use Rattle.ror_proof.specs.declared.names.QuestionName.TheVariants as asked
use Rattle.ror_proof.specs.declared.names.PlaceName.{PlaceName}
use Rattle.ror_proof.specs.declared.names.PlaceName.TheVariants as named
use Rattle.ror_proof.specs.declared.read.ProofFault.{ProofFault}
use Rattle.ror_proof.specs.declared.read.ProofFault.TheVariants.{BadLine, BadNumber}
use Rattle.ror_proof.specs.Names.{name_of, question_word, question_names, verdict_word, verdict_names, place_word, place_names}
use Rattle.ror_proof.specs.Text.{pivot_word, IsPrintablePivot}
use Rattle.ror_proof.specs.Reading.{begins_part}

-- what is expected at a place of a line
pub data Expected : Type 0 where
  -- this word
  the_word : List ℕ → Expected
  -- one of these words
  one_of : List (List ℕ) → Expected
  -- the id of an alternative
  an_id : Expected
  -- the id of a criterion
  a_criterion : Expected
  -- `solution` or `multipliers`
  a_certificate : Expected
  -- the number of a system or the like
  a_small_number : Expected
  -- this number
  the_number : ℕ → Expected
  -- a number, or the line's end
  a_number : Expected
  -- a number or `|`
  a_number_or_bar : Expected
  -- `COLUMN:ROW`, or the line's end
  a_pivot : Expected
  -- the line's end
  the_end : Expected

-- a number of a report, as it is written
abbrev pub IsNumber : List ℕ → Type 0
IsNumber word = (z : ℤ) × IsNarrow z × (word ≡ signed_decimal z)

-- the word may stand where this is expected
abbrev pub MayStand : DecisionTable → Expected → List ℕ → Type 0
MayStand t (the_word expected) word = word ≡ expected
MayStand t (one_of words) word = Contains words word
MayStand t an_id word = Contains (alternative_ids t) word
MayStand t a_criterion word = Contains (criterion_ids t) word
MayStand t a_certificate word = (word ≡ codes "solution") ⊎ (word ≡ codes "multipliers")
MayStand t a_small_number word = (n : ℕ) × (n < 2 ^ 32) × (word ≡ decimal n)
MayStand t (the_number n) word = word ≡ decimal n
MayStand t a_number word = IsNumber word
MayStand t a_number_or_bar word = (word ≡ codes "|") ⊎ IsNumber word
MayStand t a_pivot word = (p : Pivot) × IsPrintablePivot p × (word ≡ pivot_word p)
MayStand t the_end word = ⊥

-- the line may end where this is expected
abbrev pub MayEnd : Expected → Type 0
MayEnd a_number = Unit {0}
MayEnd a_pivot = Unit {0}
MayEnd the_end = Unit {0}
MayEnd _ = ⊥

-- an empty word is a bad line, any other that says no number a bad number
abbrev pub number_fault : List ℕ → ℕ → ProofFault
number_fault [] place = BadLine place
number_fault (byte ∷ bytes) place = BadNumber place

-- the fault of a word that may not stand where this is expected, in the line that begins at the
-- place
abbrev pub fault_of_word : Expected → List ℕ → ℕ → ProofFault
fault_of_word a_small_number word place = number_fault word place
fault_of_word (the_number n) word place = number_fault word place
fault_of_word a_number word place = number_fault word place
fault_of_word a_number_or_bar word place = number_fault word place
fault_of_word _ word place = BadLine place

-- each word may stand where it stands, and the line may end where it ends
abbrev pub AllStand : DecisionTable → List Expected → List (List ℕ) → Type 0
AllStand t [] words = Unit {0}
AllStand t (expected ∷ more) [] = MayEnd expected
AllStand t (expected ∷ more) (word ∷ words) = MayStand t expected word × AllStand t more words

-- the fault of the first word that may not stand where it stands, or of the line's end, if it may
-- not end there
abbrev pub IsFirstFaultyWord : DecisionTable → List Expected → List (List ℕ) → ℕ → ProofFault
    → Type 0
IsFirstFaultyWord t [] words place fault = ⊥
IsFirstFaultyWord t (expected ∷ more) [] place fault =
    (MayEnd expected → ⊥) × (fault ≡ BadLine place)
IsFirstFaultyWord t (expected ∷ more) (word ∷ words) place fault =
    ((MayStand t expected word → ⊥) × (fault ≡ fault_of_word expected word place))
    ⊎ (MayStand t expected word × IsFirstFaultyWord t more words place fault)

-- ---- what is expected in the lines of an answer: one thing for each word and one for the end,
-- where the line goes on

-- the same up to the end
abbrev pub all_of : Expected → List (List ℕ) → List Expected
all_of expected [] = expected ∷ []
all_of expected (word ∷ words) = expected ∷ all_of expected words

abbrev pub expected_numbers : List (List ℕ) → List Expected
expected_numbers words = all_of a_number words

-- numbers up to the first bar, and numbers up to the end
abbrev pub expected_multipliers : List (List ℕ) → List Expected
expected_multipliers [] = a_number_or_bar ∷ []
expected_multipliers (word ∷ words) =
    a_number_or_bar
    ∷ (if bytes_eq word (codes "|") then expected_numbers words else expected_multipliers words)

-- the word of a certificate, and its numbers
abbrev pub expected_certificate : List (List ℕ) → List Expected
expected_certificate [] = a_certificate ∷ []
expected_certificate (word ∷ words) =
    a_certificate
    ∷ (if bytes_eq word (codes "multipliers") then expected_multipliers words
    else expected_numbers words)

-- the alternatives of one or two pairs, and a criterion: with the verdict after them these are 3
-- words, 5, or 7
abbrev pub expected_form : ℕ → List Expected
expected_form number = if nat_le number 3 then an_id ∷ an_id ∷ []
    else (if nat_le number 5 then an_id ∷ an_id ∷ an_id ∷ an_id ∷ []
    else an_id ∷ an_id ∷ an_id ∷ an_id ∷ the_word (codes "on") ∷ a_criterion ∷ [])

-- what follows a question's first word, where so many words follow it
abbrev pub expected_property : Option QuestionName → ℕ → List Expected
expected_property (Some asked.Consistent) number = []
expected_property (Some asked.Necessary) number = expected_form number
expected_property (Some asked.Possible) number = expected_form number
expected_property (Some asked.PossibleClass) number = an_id ∷ a_small_number ∷ []
expected_property (Some asked.NecessaryClass) number = an_id ∷ a_small_number ∷ []
expected_property None number = []

abbrev pub expected_question : List (List ℕ) → List Expected
expected_question [] = one_of (map question_word question_names) ∷ []
expected_question (word ∷ words) =
    one_of (map question_word question_names)
    ∷ expected_property (name_of question_word question_names word) (length words)

-- `answer QUESTION VERDICT`
abbrev pub expected_answer : List (List ℕ) → List Expected
expected_answer words =
    the_word (codes "answer")
    ∷ (expected_question (drop 1 words)
    ++ one_of (map verdict_word verdict_names) ∷ the_end ∷ [])

-- whether the last word is the verdict `wide`
abbrev pub says_wide : List (List ℕ) → Bool
says_wide [] = false
says_wide (word ∷ []) = bytes_eq word (codes "wide")
says_wide (word ∷ next ∷ words) = says_wide (next ∷ words)

-- `base CERTIFICATE`
abbrev pub expected_base : List (List ℕ) → List Expected
expected_base words = the_word (codes "base") ∷ expected_certificate (drop 1 words)

-- `part NUMBER CERTIFICATE`
abbrev pub expected_part : List (List ℕ) → List Expected
expected_part words = the_word (codes "part") ∷ a_small_number ∷ expected_certificate (drop 2 words)

-- `path` and pivots
abbrev pub expected_path : List (List ℕ) → List Expected
expected_path words = the_word (codes "path") ∷ all_of a_pivot (drop 1 words)

-- the numbers of a place
abbrev pub expected_place : PlaceName → List Expected
expected_place named.Start = a_small_number ∷ a_small_number ∷ []
expected_place named.Step = a_small_number ∷ a_small_number ∷ []
expected_place named.Denominator = a_small_number ∷ []
expected_place named.RowSum = a_small_number ∷ []
expected_place named.ColumnSum = a_small_number ∷ []

-- and what follows them
abbrev pub expected_numbered : Option PlaceName → List (List ℕ) → List Expected
expected_numbered (Some name) words =
    expected_place name ++ expected_path (drop (length (expected_place name)) words)
expected_numbered None words = []

abbrev pub expected_note : List (List ℕ) → List Expected
expected_note [] = one_of (map place_word place_names) ∷ []
expected_note (word ∷ words) =
    one_of (map place_word place_names)
    ∷ expected_numbered (name_of place_word place_names word) words

-- `wide SYSTEM PLACE path PIVOT ..`
abbrev pub expected_wide : List (List ℕ) → List Expected
expected_wide words = the_word (codes "wide") ∷ a_small_number ∷ expected_note (drop 2 words)

-- the same of this system
abbrev pub expected_wide_of : ℕ → List (List ℕ) → List Expected
expected_wide_of system words =
    the_word (codes "wide") ∷ the_number system ∷ expected_note (drop 2 words)

-- `repaired COUNT`
abbrev pub expected_repaired : List (List ℕ) → List Expected
expected_repaired words = the_word (codes "repaired") ∷ a_small_number ∷ the_end ∷ []

-- `dropped NUMBER multipliers ..`
abbrev pub expected_dropped : List (List ℕ) → List Expected
expected_dropped words =
    the_word (codes "dropped")
    ∷ a_small_number
    ∷ the_word (codes "multipliers")
    ∷ expected_multipliers (drop 3 words)

-- ---- lines

-- the line that begins here is as expected, and a line feed ends it, after which the next one
-- begins
pub record IsLine (t : DecisionTable) (expected : List (List ℕ) → List Expected)
    (c after : Cursor) : Type 0 where
  pub words : AllStand t (expected (line_words c)) (line_words c)
  pub ended : line_after c ≡ Some after

-- the fault of the line that begins here: that of its first faulty word, or no line feed after
-- words that may all stand
pub data IsFaultOfLine (t : DecisionTable) (expected : List (List ℕ) → List Expected) (c : Cursor)
    (fault : ProofFault) : Type 0 where
  in_word : IsFirstFaultyWord t (expected (line_words c)) (line_words c) c.place fault
      → IsFaultOfLine t expected c fault
  no_line_feed : AllStand t (expected (line_words c)) (line_words c) → line_after c ≡ None
      → fault ≡ BadLine c.place → IsFaultOfLine t expected c fault

-- the fault of the first faulty line among those of parts, of which each begins as a part does
pub data IsFaultOfParts (t : DecisionTable) (fault : ProofFault) : Cursor → Type 0 where
  this_part : (c : Cursor) → begins_part c.rest ≡ true → IsFaultOfLine t expected_part c fault
      → IsFaultOfParts t fault c
  later_part : (c after : Cursor) → begins_part c.rest ≡ true → IsLine t expected_part c after
      → IsFaultOfParts t fault after → IsFaultOfParts t fault c

-- the fault of the first faulty line of the answer that begins here: a base and parts follow the
-- line of the question, or, where its last word is `wide`, a wide line and no part
pub data IsFaultOfAnswer (t : DecisionTable) (c : Cursor) (fault : ProofFault) : Type 0 where
  in_question : IsFaultOfLine t expected_answer c fault → IsFaultOfAnswer t c fault
  in_base : (base : Cursor) → IsLine t expected_answer c base → says_wide (line_words c) ≡ false
      → IsFaultOfLine t expected_base base fault → IsFaultOfAnswer t c fault
  in_parts : (base parts : Cursor) → IsLine t expected_answer c base
      → says_wide (line_words c) ≡ false → IsLine t expected_base base parts
      → IsFaultOfParts t fault parts → IsFaultOfAnswer t c fault
  in_wide : (wide : Cursor) → IsLine t expected_answer c wide → says_wide (line_words c) ≡ true
      → IsFaultOfLine t expected_wide wide fault → IsFaultOfAnswer t c fault
  part_after_wide : (wide after : Cursor) → IsLine t expected_answer c wide
      → says_wide (line_words c) ≡ true → IsLine t expected_wide wide after
      → begins_part after.rest ≡ true → fault ≡ BadLine after.place → IsFaultOfAnswer t c fault

-- ---- repairs: no word of them is of a table, so that any table may be taken

-- the line that begins here says how many statements are dropped, and a line feed ends it, after
-- which the next one begins
pub record SaysCount (c : Cursor) (count : ℕ) (after : Cursor) : Type 0 where
  pub small : count < 2 ^ 32
  pub words : line_words c ≡ codes "repaired" ∷ decimal count ∷ []
  pub ended : line_after c ≡ Some after

-- so many lines from here on are of dropped statements, and the next one begins after them
abbrev pub AreDropped : DecisionTable → ℕ → Cursor → Cursor → Type 0
AreDropped t zero c after = c ≡ after
AreDropped t (suc count) c after =
    (next : Cursor) × IsLine t expected_dropped c next × AreDropped t count next after

-- the fault of the first faulty line among so many of dropped statements
abbrev pub IsFaultOfDropped : DecisionTable → ℕ → Cursor → ProofFault → Type 0
IsFaultOfDropped t zero c fault = ⊥
IsFaultOfDropped t (suc count) c fault =
    IsFaultOfLine t expected_dropped c fault
    ⊎ ((next : Cursor) × IsLine t expected_dropped c next × IsFaultOfDropped t count next fault)

-- the fault of the first faulty line of the repair that begins here: as many dropped statements as
-- the first line says, and a base
pub data IsFaultOfKept (t : DecisionTable) (c : Cursor) (fault : ProofFault) : Type 0 where
  in_count : IsFaultOfLine t expected_repaired c fault → IsFaultOfKept t c fault
  in_dropped : (count : ℕ) (dropped : Cursor) → SaysCount c count dropped
      → IsFaultOfDropped t count dropped fault → IsFaultOfKept t c fault
  in_base_of_kept : (count : ℕ) (dropped base : Cursor) → SaysCount c count dropped
      → AreDropped t count dropped base → IsFaultOfLine t expected_base base fault
      → IsFaultOfKept t c fault
