-- Lines of a page: a sentence behind a label, which goes on below itself where it is long; and texts of lines that begin in some ways.
use Rattle.std.specs.Prelude.{◌≡◌, ℕ, ◌-◌, ◌==◌, Bool, true, false, ◌||◌, nat_lt, nat_le, List, [], ◌∷◌, ◌++◌, codes, count_by, if◌then◌else◌}
use Rattle.ror_text.specs.SpacedLines.{spaced_words}

-- no line ends within it
abbrev pub is_one_line : List ℕ → Bool
is_one_line [] = true
is_one_line (byte ∷ bytes) = if byte == 10 then false else is_one_line bytes

-- ---- a sentence behind a label

-- a byte that begins a character: those that go on with one are 128 to 191
abbrev pub begins_character : ℕ → Bool
begins_character byte = nat_lt byte 128 || nat_le 192 byte

-- how many columns a text takes, one for each character
abbrev pub columns : List ℕ → ℕ
columns text = count_by begins_character text

-- with what a line begins that goes on below another
abbrev pub margin : List ℕ
margin = codes "         "

-- a blank and a word fit into what a line has left
abbrev pub fits : ℕ → List ℕ → Bool
fits room word = nat_lt (columns word) room

-- a blank and a word, on a new line where they don't fit
abbrev pub next_word : ℕ → List ℕ → List ℕ
next_word room word = (if fits room word then [] else 10 ∷ margin) ++ 32 ∷ word

-- what is left behind them
abbrev pub next_room : ℕ → List ℕ → ℕ
next_room room word = (if fits room word then room else 110) - columns word - 1

-- words, one after the other
abbrev pub flowed : ℕ → List (List ℕ) → List ℕ
flowed room [] = []
flowed room (word ∷ words) = next_word room word ++ flowed (next_room room word) words

-- a label of nine columns and a sentence
abbrev pub said_text : List ℕ → List ℕ → List ℕ
said_text label sentence = label ++ flowed 110 (spaced_words sentence) ++ codes "\n"

-- some sentence behind that label
abbrev pub IsSaid : List ℕ → List ℕ → Type 0
IsSaid label text = (sentence : List ℕ) × (is_one_line sentence ≡ true) × (text ≡ said_text label sentence)

-- ---- texts of whole lines

-- a text begins with these bytes
abbrev pub is_front : List ℕ → List ℕ → Bool
is_front [] text = true
is_front (byte ∷ front) [] = false
is_front (byte ∷ front) (x ∷ text) = if x == byte then is_front front text else false

abbrev pub begins_with_one : List (List ℕ) → List ℕ → Bool
begins_with_one [] text = false
begins_with_one (front ∷ fronts) text = if is_front front text then true else begins_with_one fronts text

-- it begins so if a line begins with it
abbrev pub begins_so : List (List ℕ) → Bool → List ℕ → Bool
begins_so fronts anew text = if anew then begins_with_one fronts text else true

-- the rest of a line and lines, or lines alone
abbrev pub are_lines_from : List (List ℕ) → Bool → List ℕ → Bool
are_lines_from fronts anew [] = anew
are_lines_from fronts anew (byte ∷ bytes) =
    if begins_so fronts anew (byte ∷ bytes) then are_lines_from fronts (byte == 10) bytes else false

-- each line of a text begins with one of these, and has its line feed at its end
abbrev pub are_lines : List (List ℕ) → List ℕ → Bool
are_lines fronts text = are_lines_from fronts true text
