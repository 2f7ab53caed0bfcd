-- The one text of an entry: a pair's answers and the group's words.
use Rattle.std.specs.Prelude.{ℕ, ◌<◌, List, [], ◌∷◌, ◌++◌, length, codes}
use Rattle.std.specs.List.{flat_map, AllByRecursion}
use Rattle.ror_text.specs.SpacedLines.{line_text}
use Rattle.ror_table.specs.Table.{DecisionTable, id_of}
use Rattle.ror_proof.specs.Text.{answer_text, IsPrintable}
use Rattle.ror_group.specs.declared.entry.Entry.{Entry}
use Rattle.ror_group.specs.declared.quartet.Quartet.{Quartet}
use Rattle.ror_group.specs.declared.quartet.Word4.{Word4}
use Rattle.ror_group.specs.declared.quartet.Word4.TheVariants as words

abbrev pub group_word : Word4 → List ℕ
group_word words.Yes = codes "yes"
group_word words.No = codes "no"
group_word words.Contradiction = codes "contradiction"
group_word words.Wide = codes "wide"

abbrev pub group_words : List Word4
group_words = words.Yes ∷ words.No ∷ words.Contradiction ∷ words.Wide ∷ []

-- the line that names the pair
abbrev pub pair_text : DecisionTable → ℕ → ℕ → List ℕ
pair_text t a b = line_text (codes "pair" ∷ id_of t a ∷ id_of t b ∷ [])

-- the line of the four words
abbrev pub group_text : Quartet → List ℕ
group_text q =
    line_text
    (codes "group"
    ∷ group_word q.necessary_for_every
    ∷ group_word q.necessary_for_some
    ∷ group_word q.possible_for_every
    ∷ group_word q.possible_for_some
    ∷ [])

-- the line that names the pair, the answers, and the line of the words
unfoldable pub entry_text : DecisionTable → Entry → List ℕ
entry_text t x =
    pair_text t x.first x.second ++ (flat_map (answer_text t) x.answers ++ group_text x.quartet)

-- the entries that have a text
pub record IsPrintableEntry (t : DecisionTable) (x : Entry) : Type 0 where
  pub first : x.first < length t.alternatives
  pub second : x.second < length t.alternatives
  pub answers : AllByRecursion (IsPrintable t) x.answers
