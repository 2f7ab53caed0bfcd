-- What a page keeps, and small questions on texts and words.
use Rattle.std.specs.Prelude.{◌≡◌, ℕ, ◌==◌, Bool, false, not, ◌||◌, List, [], ◌∷◌, ◌++◌, take, drop, position, Option, Some, None, codes, if◌then◌else◌}
use Rattle.std.specs.Char.{is_ascii_digit}
use Rattle.std.specs.List.{list_any}
use Rattle.std.specs.Str.{bytes_eq}
use Rattle.std.specs.Str.Lines.{lines}
use Rattle.memchr.specs.Find.{OccursAt}

-- what stood is at the front of what stands now
abbrev pub Extends : List ℕ → List ℕ → Type 0
Extends before after = (rest : List ℕ) × (after ≡ before ++ rest)

-- the text begins with what stood before, then has what was said, and goes on in some words
abbrev pub GoesOn : List ℕ → List ℕ → List ℕ → Type 0
GoesOn before said after = (rest : List ℕ) × (after ≡ before ++ said ++ rest)

-- the text behind a byte order mark, if it has one
unfoldable pub without_mark : List ℕ → List ℕ
without_mark bytes = if bytes_eq (take 3 bytes) (0xEF ∷ 0xBB ∷ 0xBF ∷ []) then drop 3 bytes else bytes

-- a text has another in it
abbrev pub Occurs : List ℕ → List ℕ → Type 0
Occurs text part = (k : ℕ) × OccursAt text part k

abbrev pub is_one_of : List ℕ → List (List ℕ) → Bool
is_one_of word list = list_any (λ other. bytes_eq other word) list

abbrev pub begins_with_digit : List ℕ → Bool
begins_with_digit [] = false
begins_with_digit (byte ∷ bytes) = is_ascii_digit byte

-- a blank, a tab, a line feed, a form feed or a carriage return
abbrev pub is_white : ℕ → Bool
is_white byte = byte == 32 || byte == 9 || byte == 10 || byte == 12 || byte == 13

-- up to the first white space
abbrev pub cut : List ℕ → Option ℕ → List ℕ
cut text (Some end) = take end text
cut text None = text

abbrev pub front_word : List ℕ → List ℕ
front_word text = cut text (position is_white text)

-- the first word, in whichever line it stands; nothing where there is none
abbrev pub first_word : List ℕ → List ℕ
first_word [] = []
first_word (byte ∷ bytes) = if is_white byte then first_word bytes else front_word (byte ∷ bytes)

-- a line has a word, and is no comment
abbrev pub is_said_by : List ℕ → Bool
is_said_by [] = false
is_said_by (byte ∷ bytes) = not (byte == 35)

abbrev pub is_said : List ℕ → Bool
is_said line = is_said_by (first_word line)

-- the first of these lines that has a word and is no comment; nothing where there is none
abbrev pub first_said : List (List ℕ) → List ℕ
first_said [] = []
first_said (line ∷ more) = if is_said line then line else first_said more

abbrev pub first_line_of : List ℕ → List ℕ
first_line_of bytes = first_said (lines bytes)

-- ---- the first words of lines

abbrev pub table_words : List (List ℕ)
table_words = codes "criterion" ∷ codes "classes" ∷ codes "alternative" ∷ []

abbrev pub commands : List (List ℕ)
commands = codes "prefer" ∷ codes "atleast" ∷ codes "same" ∷ codes "stronger" ∷ codes "asstrong" ∷ codes "equal"
    ∷ codes "class" ∷ codes "withdraw" ∷ codes "replace" ∷ codes "repair" ∷ codes "undo" ∷ codes "ask" ∷ []
