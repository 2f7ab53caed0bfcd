-- The table of commands: the word of each, the names after it, and its options.
use Rattle.std.specs.Prelude.{ℕ, Bool, true, false, List, [], ◌∷◌, ◌++◌, Option, codes, if◌then◌else◌}
use Rattle.std.specs.List.{find, flat_map}
use Rattle.std.specs.Str.{bytes_eq}
use Rattle.ror_words.specs.declared.table.CommandWord.{CommandWord}
use Rattle.ror_words.specs.declared.table.CommandWord.TheVariants.{Replay, Check, Generate, Group, CheckGroup, Discriminate, CheckDiscriminate, Ranks, CheckRanks, Levels, CheckLevels, ReplayJson, CheckJson}

-- A row of it: the command, its word, what the usage line calls the names after it, in order, whether these are numbers and not
-- names of files, and which options it takes.
pub record Row : Type 0 where
  pub command : CommandWord
  pub word : List ℕ
  pub names : List (List ℕ)
  pub numbers : Bool
  pub bits : Bool
  pub best_first : Bool

abbrev pub table : List Row
table = record {
  command = Replay;
  word = codes "replay";
  names = codes "TABLE" ∷ codes "SESSION" ∷ [];
  numbers = false;
  bits = true;
  best_first = true;
} ∷ record {
  command = Check;
  word = codes "check";
  names = codes "TABLE" ∷ codes "SESSION" ∷ codes "REPORT" ∷ [];
  numbers = false;
  bits = false;
  best_first = true;
} ∷ record {
  command = Generate;
  word = codes "generate";
  names = codes "NUMBER" ∷ [];
  numbers = true;
  bits = false;
  best_first = false;
} ∷ record {
  command = Group;
  word = codes "group";
  names = codes "TABLE" ∷ codes "SESSION" ∷ [];
  numbers = false;
  bits = true;
  best_first = true;
} ∷ record {
  command = CheckGroup;
  word = codes "check-group";
  names = codes "TABLE" ∷ codes "SESSION" ∷ codes "REPORT" ∷ [];
  numbers = false;
  bits = false;
  best_first = true;
} ∷ record {
  command = Discriminate;
  word = codes "discriminate";
  names = codes "TABLE" ∷ codes "SESSION" ∷ [];
  numbers = false;
  bits = true;
  best_first = true;
} ∷ record {
  command = CheckDiscriminate;
  word = codes "check-discriminate";
  names = codes "TABLE" ∷ codes "SESSION" ∷ codes "REPORT" ∷ [];
  numbers = false;
  bits = false;
  best_first = true;
} ∷ record {
  command = Ranks;
  word = codes "ranks";
  names = codes "TABLE" ∷ codes "SESSION" ∷ [];
  numbers = false;
  bits = true;
  best_first = true;
} ∷ record {
  command = CheckRanks;
  word = codes "check-ranks";
  names = codes "TABLE" ∷ codes "SESSION" ∷ codes "REPORT" ∷ [];
  numbers = false;
  bits = false;
  best_first = true;
} ∷ record {
  command = Levels;
  word = codes "levels";
  names = codes "TABLE" ∷ codes "SESSION" ∷ codes "LEVELS" ∷ [];
  numbers = false;
  bits = true;
  best_first = true;
} ∷ record {
  command = CheckLevels;
  word = codes "check-levels";
  names = codes "TABLE" ∷ codes "SESSION" ∷ codes "LEVELS" ∷ codes "REPORT" ∷ [];
  numbers = false;
  bits = false;
  best_first = true;
} ∷ record {
  command = ReplayJson;
  word = codes "replay-json";
  names = codes "TABLE" ∷ codes "SESSION" ∷ [];
  numbers = false;
  bits = true;
  best_first = true;
} ∷ record {
  command = CheckJson;
  word = codes "check-json";
  names = codes "TABLE" ∷ codes "SESSION" ∷ codes "REPORT" ∷ [];
  numbers = false;
  bits = false;
  best_first = true;
} ∷ []

abbrev pub row_for : List ℕ → Option Row
row_for word = find (λ row. bytes_eq row.word word) table

-- ---- the usage line

abbrev pub option_usage : Bool → List ℕ → List ℕ
option_usage taken text = if taken then text else []

-- a command, its names, and its options
abbrev pub row_usage : Row → List ℕ
row_usage row = codes "ror " ++ row.word ++ flat_map (λ name. codes " " ++ name) row.names
    ++ option_usage row.bits (codes " [--bits 15|31|63|127]") ++ option_usage row.best_first (codes " [--best-first]")

-- the commands of the table, with bars between
abbrev pub rows_usage : List Row → List ℕ
rows_usage [] = []
rows_usage (row ∷ []) = row_usage row
rows_usage (row ∷ rows) = row_usage row ++ codes " | " ++ rows_usage rows

abbrev pub usage_text : List ℕ
usage_text = codes "usage: " ++ rows_usage table ++ codes "\n"
