-- Plain text in lines: padded words, and words that go on in a line below where 120 columns are full.
use Rattle.std.specs.Prelude.{ℕ, ◌-◌, Bool, ◌||◌, nat_lt, nat_le, List, [], ◌∷◌, ◌++◌, count_by, replicate, if◌then◌else◌}

-- a byte that begins a character: those that go on with one are 128 to 191
abbrev pub begins_character : ℕ → Bool
begins_character byte = nat_lt byte 128 || nat_le 192 byte

-- how many columns a text takes, one for each character
abbrev pub columns : List ℕ → ℕ
columns text = count_by begins_character text

abbrev pub spaces : ℕ → List ℕ
spaces n = replicate n 32

-- with spaces behind it up to so many columns
abbrev pub set_left : ℕ → List ℕ → List ℕ
set_left width text = text ++ spaces (width - columns text)

-- with spaces before it up to so many columns
abbrev pub set_right : ℕ → List ℕ → List ℕ
set_right width text = spaces (width - columns text) ++ text

-- ---- words in lines, by how many columns a line has left

-- what a line has left behind so many columns
abbrev pub room_behind : ℕ → ℕ
room_behind at = 120 - at

-- a space and a word fit
abbrev pub fits : ℕ → List ℕ → Bool
fits room word = nat_lt (columns word) room

-- a space and a word, on a new line with a margin where they don't fit
abbrev pub next_word : ℕ → ℕ → List ℕ → List ℕ
next_word margin room word = (if fits room word then [] else 10 ∷ spaces margin) ++ 32 ∷ word

-- what is left behind them
abbrev pub next_room : ℕ → ℕ → List ℕ → ℕ
next_room margin room word = (if fits room word then room else room_behind margin) - columns word - 1

-- words, one after the other
abbrev pub wrapped : ℕ → ℕ → List (List ℕ) → List ℕ
wrapped margin room [] = []
wrapped margin room (word ∷ words) = next_word margin room word ++ wrapped margin (next_room margin room word) words

-- what is left behind them
abbrev pub room_left : ℕ → ℕ → List (List ℕ) → ℕ
room_left margin room [] = room
room_left margin room (word ∷ words) = room_left margin (next_room margin room word) words
