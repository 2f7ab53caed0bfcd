-- The lines of a text, and the words of a line.
use Rattle.std.specs.Prelude.{ℕ, ◌+◌, Bool, true, not, ◌||◌, List, [], ◌∷◌, length, take, map, filter, slice_index, slice_index_or, count_by, nat_lt, ◌==◌}
use Rattle.std.specs.List.{slice_split, list_any, enumerate_from, position_or_len}
use Rattle.std.specs.Str.Lines.{lines}
use Rattle.std.specs.Str.Lossy.{utf8_valid_len}

-- a line feed
abbrev pub is_line_end : ℕ → Bool
is_line_end byte = byte == 10

-- where the line after the first begins: one past the first line feed, or past the end where there
-- is none
abbrev pub first_line_end : List ℕ → ℕ
first_line_end bytes = position_or_len is_line_end bytes + 1

-- a space or a tab
abbrev pub is_blank : ℕ → Bool
is_blank byte = byte == 32 || byte == 9

-- the parts between blanks that are not empty
abbrev pub words : List ℕ → List (List ℕ)
words line = filter (λ word. not (length word == 0)) (slice_split is_blank line)

-- a line's word, from 0; past the last word it is empty
abbrev pub word_at : List (List ℕ) → ℕ → List ℕ
word_at ws i = slice_index_or ws i []

-- the line is passed over: it has no words, or its first word begins with `#`
abbrev pub is_passed_over : List (List ℕ) → Bool
is_passed_over [] = true
is_passed_over (word ∷ more) = slice_index word 0 == 35

-- a byte below 0x21, or 0x7F
abbrev pub is_control : ℕ → Bool
is_control byte = nat_lt byte 0x21 || byte == 0x7F

-- some word has such a byte
abbrev pub has_control : List (List ℕ) → Bool
has_control ws = list_any (list_any is_control) ws

-- the words of each line that is not passed over, with the line's number among all lines, of which
-- the first is n
abbrev pub numbered_lines_from : ℕ → List ℕ → List (ℕ × List (List ℕ))
numbered_lines_from n bytes =
    filter (λ line. not (is_passed_over line.1)) (enumerate_from n (map words (lines bytes)))

-- the same, where lines are numbered from 1
abbrev pub numbered_lines : List ℕ → List (ℕ × List (List ℕ))
numbered_lines bytes = numbered_lines_from 1 bytes

-- how many lines there are, those that are passed over among them
abbrev pub line_count : List ℕ → ℕ
line_count bytes = length (lines bytes)

-- the number of the line of the byte at a place: one more than the line ends before it
abbrev pub line_of : List ℕ → ℕ → ℕ
line_of bytes place = 1 + count_by is_line_end (take place bytes)

-- the line of the first byte at which the text is no UTF-8
abbrev pub bad_utf8_line : List ℕ → ℕ
bad_utf8_line bytes = line_of bytes (utf8_valid_len bytes)
