-- Texts of pieces, and words in lines of as many as fit.
use Rattle.std.specs.Prelude.{ℕ, zero, suc, ◌+◌, ◌/◌, ◌%◌, ◌==◌, Bool, ◌||◌, nat_lt, nat_le, List, [], ◌∷◌, ◌++◌, count_by, codes, if◌then◌else◌}

-- the first so many pieces, one behind the other
abbrev pub pieces : (ℕ → List ℕ) → ℕ → List ℕ
pieces f zero = []
pieces f (suc n) = pieces f n ++ f n

-- a byte that begins a character: those that go on with one are 128 to 191
abbrev pub begins_character : ℕ → Bool
begins_character byte = nat_lt byte 128 || nat_le 192 byte

-- how many columns a text takes, one for each character
abbrev pub columns : List ℕ → ℕ
columns text = count_by begins_character text

-- the columns of the widest of the first so many words
abbrev pub widest : (ℕ → List ℕ) → ℕ → ℕ
widest f zero = 0
widest f (suc n) = if nat_lt (widest f n) (columns (f n)) then columns (f n) else widest f n

-- how many words of so many columns fit into a line, with a blank before each
abbrev pub fitting : ℕ → ℕ
fitting width = if nat_lt width 100 then 100 / (width + 1) else 0

-- how many a line has, one at least
abbrev pub in_line : ℕ → ℕ
in_line width = if nat_lt (fitting width) 1 then 1 else fitting width

-- what stands before the word at a place: a blank, or a new line with a margin
abbrev pub before_word : ℕ → ℕ → List ℕ
before_word width place = if place % in_line width == 0 then codes "\n     " else 32 ∷ []

-- a word of those of so many columns, at a place
abbrev pub word_piece : ℕ → (ℕ → List ℕ) → ℕ → List ℕ
word_piece width f place = before_word width place ++ f place

-- so many words, in lines
abbrev pub laid : ℕ → (ℕ → List ℕ) → ℕ → List ℕ
laid width f n = pieces (word_piece width f) n
