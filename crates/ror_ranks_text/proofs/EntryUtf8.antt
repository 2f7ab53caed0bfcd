-- The text of an entry is UTF-8.
use Rattle.std.proofs.Common.{ℕ, ◌<◌, List, [], ◌∷◌, ◌++◌, length, map, refl, arith}
use Rattle.std.specs.Prelude.{codes}
use Rattle.std.specs.Fmt.{decimal}
use Rattle.std.specs.List.{AllByRecursion, flat_map}
use Rattle.std.specs.Str.{IsUtf8}
use Rattle.std.proofs.lemmas.Str.{IsUtf8-append}
use Rattle.ror_text.specs.SpacedLines.{line_text}
use Rattle.ror_text.proofs.Everywhere.{all-append}
use Rattle.ror_text.proofs.IdLemmas.{IsId-form}
use Rattle.ror_table.specs.Table.{DecisionTable, IsTable, id_of}
use Rattle.ror_table.proofs.NameLemmas.{id_of_is_id}
use Rattle.ror_pivot.specs.declared.note.Place.{Place}
use Rattle.ror_proof.specs.Text.{solution_words, multipliers_words}
use Rattle.ror_proof.proofs.Utf8Lemmas.{ascii_is_utf8, line_text_is_utf8, decimal_is_utf8, numbers_are_texts, multipliers_are_texts, place_are_texts, AreTexts}
use Rattle.ror_report.specs.Desk.{desk_text}
use Rattle.ror_report.proofs.DeskLemmas.{desk_is_utf8}
use Rattle.ror_discriminate.specs.Text.{text_of, place_words, step_word, path_words, IsSmall, IsSmallPath, IsSmallPlace}
use Rattle.ror_ranks.specs.declared.extreme.Side.{Side}
use Rattle.ror_ranks.specs.declared.extreme.Side.TheVariants as sides
use Rattle.ror_ranks.specs.declared.extreme.Conflict.{Conflict}
use Rattle.ror_ranks.specs.declared.extreme.Node.{Node}
use Rattle.ror_ranks.specs.declared.extreme.Node.TheVariants.{Leaf, Branch}
use Rattle.ror_ranks.specs.declared.extreme.Interval.{Interval}
use Rattle.ror_ranks.specs.declared.extreme.WideExtreme.{WideExtreme}
use Rattle.ror_ranks.specs.declared.extreme.Said.{Said}
use Rattle.ror_ranks.specs.declared.extreme.Said.TheVariants as said
use Rattle.ror_ranks.specs.declared.extreme.Extreme.{Extreme}
use Rattle.ror_ranks_text.specs.declared.entry.Entry.{Entry}
use Rattle.ror_ranks_text.specs.declared.entry.EntryBody.{EntryBody}
use Rattle.ror_ranks_text.specs.declared.entry.EntryBody.TheVariants as bodies
use Rattle.ror_ranks.specs.SideNames.{side_word}
use Rattle.ror_ranks_text.specs.Text.{header_text, ids_text, solution_text, multipliers_text, conflict_text, node_text, interval_line, interval_text, wide_text, said_text, extreme_text, body_text, entry_text, AreOfTable, IsPrintableConflict, IsPrintableNode, IsPrintableInterval, IsPrintableWide, IsPrintableSaid, IsPrintableExtreme, IsPrintableBody, IsPrintableEntry}

-- ---- the first line of a report

pub header_is_utf8 : IsUtf8 header_text
unfolding header_text
header_is_utf8 = line_text_is_utf8 (codes "ror-ranks" ∷ codes "1" ∷ []) (ascii_is_utf8 (codes "ror-ranks") refl, (ascii_is_utf8 (codes "1") refl, tt))

-- ---- pieces one after another

pieces_are_utf8 : {X : Type 0} (P : X → Type 0) (text : X → List ℕ) → ((x : X) → P x → IsUtf8 (text x)) → (xs : List X) → AllByRecursion P xs → IsUtf8 (flat_map text xs)
pieces_are_utf8 P text each [] may = ascii_is_utf8 [] refl
pieces_are_utf8 P text each (x ∷ xs) may = IsUtf8-append (text x) (flat_map text xs) (each x may.0) (pieces_are_utf8 P text each xs may.1)

-- ---- ids and numbers

id_is_text : (t : DecisionTable) (a : ℕ) → IsTable t → a < length t.alternatives → IsUtf8 (id_of t a)
id_is_text t a table within = (IsId-form (id_of t a) (id_of_is_id t a table within)).utf8

small_is_utf8 : (n : ℕ) → IsSmall n → IsUtf8 (decimal n)
small_is_utf8 n small = decimal_is_utf8 n (omega (arith, small))

smalls_are_texts : (ns : List ℕ) → AllByRecursion IsSmall ns → AreTexts (map decimal ns)
smalls_are_texts [] small = tt
smalls_are_texts (n ∷ ns) small = (small_is_utf8 n small.0, smalls_are_texts ns small.1)

-- ---- notes

one_number : (word : List ℕ) (n : ℕ) → IsUtf8 word → IsSmall n → AreTexts (word ∷ decimal n ∷ [])
one_number word n text small = (text, (small_is_utf8 n small, tt))

steps_are_texts : (path : List (ℕ × ℕ)) → IsSmallPath path → AreTexts (map step_word path)
steps_are_texts [] small = tt
steps_are_texts (step ∷ path) small =
    (IsUtf8-append (decimal step.0) (58 ∷ decimal step.1) (small_is_utf8 step.0 small.0.0) (IsUtf8-append (58 ∷ []) (decimal step.1) (ascii_is_utf8 (58 ∷ []) refl) (small_is_utf8 step.1 small.0.1)), steps_are_texts path small.1)

note_are_texts : (place : Place) (path : List (ℕ × ℕ)) → IsSmallPlace place → IsSmallPath path → AreTexts (place_words place ++ path_words path)
note_are_texts place path small steps = all-append IsUtf8 (place_words place) (path_words path) (place_are_texts (text_of place) small) (ascii_is_utf8 (codes "path") refl, steps_are_texts path steps)

side_is_text : (side : Side) → IsUtf8 (side_word side)
side_is_text sides.Best = ascii_is_utf8 (codes "best") refl
side_is_text sides.Worst = ascii_is_utf8 (codes "worst") refl

-- ---- extreme ranks

module _ (t : DecisionTable) (table : IsTable t) where
  ids_are_texts : (members : List ℕ) → AreOfTable t members → AreTexts (map (id_of t) members)
  ids_are_texts [] of_table = tt
  ids_are_texts (b ∷ bs) of_table = (id_is_text t b table of_table.0, ids_are_texts bs of_table.1)

  ids_is_utf8 : (word : List ℕ) (members : List ℕ) → IsUtf8 word → AreOfTable t members → IsUtf8 (ids_text t word members)
  ids_is_utf8 word members is of_table = line_text_is_utf8 (word ∷ map (id_of t) members) (is, ids_are_texts members of_table)

  conflict_is_utf8 : (x : Conflict) → IsPrintableConflict t x → IsUtf8 (conflict_text t x)
  conflict_is_utf8 x may =
      IsUtf8-append (ids_text t (codes "conflict") x.members) (multipliers_text x.multipliers) (ids_is_utf8 (codes "conflict") x.members (ascii_is_utf8 (codes "conflict") refl) may.members)
      (line_text_is_utf8 (multipliers_words x.multipliers.weak x.multipliers.strict) (multipliers_are_texts x.multipliers may.narrow))

  node_is_utf8 : (x : Node) → IsPrintableNode x → IsUtf8 (node_text x)
  node_is_utf8 (Leaf places) small = line_text_is_utf8 (codes "leaf" ∷ map decimal places) (ascii_is_utf8 (codes "leaf") refl, smalls_are_texts places small)
  node_is_utf8 (Branch place) small = line_text_is_utf8 (codes "branch" ∷ decimal place ∷ []) (one_number (codes "branch") place (ascii_is_utf8 (codes "branch") refl) small)

  line_is_utf8 : (side : Side) (a : ℕ) (x : Interval) → a < length t.alternatives → IsPrintableInterval t x → IsUtf8 (interval_line t side a x)
  line_is_utf8 side a x of_table may = line_text_is_utf8
      (side_word side ∷ id_of t a ∷ codes "from" ∷ decimal x.from ∷ codes "to" ∷ decimal x.to ∷ codes "conflicts" ∷ decimal (length x.conflicts) ∷ codes "nodes" ∷ decimal (length x.tree) ∷ []) (
        side_is_text side,
        (
          id_is_text t a table of_table,
          (
            ascii_is_utf8 (codes "from") refl,
            (
              small_is_utf8 x.from may.from,
              (
                ascii_is_utf8 (codes "to") refl,
                (
                  small_is_utf8 x.to may.to,
                  (
                    ascii_is_utf8 (codes "conflicts") refl,
                    (small_is_utf8 (length x.conflicts) may.few_conflicts, (ascii_is_utf8 (codes "nodes") refl, (small_is_utf8 (length x.tree) may.few_nodes, tt))),
                  ),
                ),
              ),
            ),
          ),
        ),
      )

  interval_is_utf8 : (side : Side) (a : ℕ) (x : Interval) → a < length t.alternatives → IsPrintableInterval t x → IsUtf8 (interval_text t side a x)
  interval_is_utf8 side a x of_table may =
      let one = ids_text t (codes "except") x.except in
      let two = solution_text x.function.steps in
      let three = flat_map (conflict_text t) x.conflicts in
      let four = flat_map node_text x.tree in
      let solution = line_text_is_utf8 (solution_words x.function.steps) (ascii_is_utf8 (codes "solution") refl, numbers_are_texts x.function.steps may.function) in
      let conflicts = pieces_are_utf8 (IsPrintableConflict t) (conflict_text t) conflict_is_utf8 x.conflicts may.conflicts in
      let nodes = pieces_are_utf8 IsPrintableNode node_text node_is_utf8 x.tree may.tree in
      IsUtf8-append (interval_line t side a x) (one ++ (two ++ (three ++ four))) (line_is_utf8 side a x of_table may)
      (IsUtf8-append one (two ++ (three ++ four)) (ids_is_utf8 (codes "except") x.except (ascii_is_utf8 (codes "except") refl) may.except)
      (IsUtf8-append two (three ++ four) solution (IsUtf8-append three four conflicts nodes)))

  wide_is_utf8 : (side : Side) (a : ℕ) (x : WideExtreme) → a < length t.alternatives → IsPrintableWide t x → IsUtf8 (wide_text t side a x)
  wide_is_utf8 side a x of_table may =
      IsUtf8-append (line_text (side_word side ∷ id_of t a ∷ codes "wide" ∷ (place_words x.note.place ++ path_words x.note.path))) (ids_text t (codes "over") x.members)
      (line_text_is_utf8 (side_word side ∷ id_of t a ∷ codes "wide" ∷ (place_words x.note.place ++ path_words x.note.path))
      (side_is_text side, (id_is_text t a table of_table, (ascii_is_utf8 (codes "wide") refl, note_are_texts x.note.place x.note.path may.place may.path))))
      (ids_is_utf8 (codes "over") x.members (ascii_is_utf8 (codes "over") refl) may.members)

  said_is_utf8 : (side : Side) (a : ℕ) (s : Said) → a < length t.alternatives → IsPrintableSaid t s → IsUtf8 (said_text t side a s)
  said_is_utf8 side a (said.Within x) of_table may = interval_is_utf8 side a x of_table may
  said_is_utf8 side a (said.Wide x) of_table may = wide_is_utf8 side a x of_table may

  extreme_is_utf8 : (x : Extreme) → IsPrintableExtreme t x → IsUtf8 (extreme_text t x)
  extreme_is_utf8 x may = said_is_utf8 x.side x.alternative x.said may.alternative may.said

  -- ---- entries

  body_is_utf8 : (body : EntryBody) → IsPrintableBody t body → IsUtf8 (body_text t body)
  body_is_utf8 (bodies.Ranks xs) may =
      IsUtf8-append (line_text (codes "ranks" ∷ decimal (length xs) ∷ [])) (flat_map (extreme_text t) xs)
      (line_text_is_utf8 (codes "ranks" ∷ decimal (length xs) ∷ []) (one_number (codes "ranks") (length xs) (ascii_is_utf8 (codes "ranks") refl) may.0))
      (pieces_are_utf8 (IsPrintableExtreme t) (extreme_text t) extreme_is_utf8 xs may.1)
  body_is_utf8 (bodies.Contradiction m) may = line_text_is_utf8 (codes "contradiction" ∷ multipliers_words m.weak m.strict) (ascii_is_utf8 (codes "contradiction") refl, multipliers_are_texts m may)
  body_is_utf8 (bodies.BaseWide note) may =
      line_text_is_utf8 (codes "wide" ∷ codes "base" ∷ (place_words note.place ++ path_words note.path)) (ascii_is_utf8 (codes "wide") refl, (ascii_is_utf8 (codes "base") refl, note_are_texts note.place note.path may.0 may.1))

  pub entry_text_is_utf8 : (x : Entry) → IsPrintableEntry t x → IsUtf8 (entry_text t x)
  unfolding entry_text
  entry_text_is_utf8 x printable = IsUtf8-append (desk_text x.desk) (body_text t x.body) (desk_is_utf8 x.desk printable.named) (body_is_utf8 x.body printable.body)
