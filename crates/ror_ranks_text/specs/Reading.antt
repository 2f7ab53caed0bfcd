-- Reading an entry: what it is and where it ends, or the first fault.
use Rattle.std.specs.Prelude.{ℕ, zero, suc, List, [], ◌∷◌, Option, Some, None, Result, Ok, Err, codes}
use Rattle.ror_text.specs.Cursor.{Cursor, line_words}
use Rattle.ror_text.specs.Numbers.{small_number_of}
use Rattle.ror_text.specs.Reading.{◌>>=◌, need}
use Rattle.ror_table.specs.Table.{DecisionTable, alternative_named}
use Rattle.ror_pivot.specs.declared.note.WideNote.{WideNote}
use Rattle.ror_proof.specs.declared.read.ProofFault.{ProofFault}
use Rattle.ror_proof.specs.declared.read.ProofFault.TheVariants.{BadLine}
use Rattle.ror_proof.specs.Questions.{alternative_at}
use Rattle.ror_proof.specs.Reading.{ended, refutation_at}
use Rattle.ror_proof.specs.Words.{after_word, first_named, name_at, no_more, number_in, small_number_at, all_at}
use Rattle.ror_report.specs.Desk.{desk_line}
use Rattle.ror_discriminate.specs.Reading as notes
use Rattle.ror_discriminate.specs.Reading.{noted_at, solution_line, multipliers_line}
use Rattle.ror_ranks.specs.declared.extreme.Conflict.{Conflict}
use Rattle.ror_ranks.specs.declared.extreme.Node.{Node}
use Rattle.ror_ranks.specs.declared.extreme.Node.TheVariants.{Leaf, Branch}
use Rattle.ror_ranks.specs.declared.extreme.Said.{Said}
use Rattle.ror_ranks.specs.declared.extreme.Said.TheVariants as said
use Rattle.ror_ranks.specs.declared.extreme.Extreme.{Extreme}
use Rattle.ror_ranks_text.specs.declared.entry.Entry.{Entry}
use Rattle.ror_ranks_text.specs.declared.entry.EntryBody.{EntryBody}
use Rattle.ror_ranks_text.specs.declared.entry.EntryBody.TheVariants as bodies
use Rattle.ror_ranks_text.specs.declared.names.BodyForm.{BodyForm}
use Rattle.ror_ranks_text.specs.declared.names.BodyForm.TheVariants as forms
use Rattle.ror_ranks_text.specs.declared.names.SaidForm.{SaidForm}
use Rattle.ror_ranks_text.specs.declared.names.SaidForm.TheVariants as said_forms
use Rattle.ror_ranks_text.specs.declared.names.NodeName.{NodeName}
use Rattle.ror_ranks_text.specs.declared.names.NodeName.TheVariants as named
use Rattle.ror_ranks_text.specs.declared.read.Ends.{Ends}
use Rattle.ror_ranks_text.specs.declared.read.Opening.{Opening}
use Rattle.ror_ranks_text.specs.declared.read.Opening.TheVariants as openings
use Rattle.ror_ranks_text.specs.declared.read.Head.{Head}
use Rattle.ror_ranks.specs.SideNames.{side_word, side_list}
use Rattle.ror_ranks_text.specs.EntryNames as names

-- ---- the words of a line; the number is the place of the line's first byte

-- the alternative whose id a word is
abbrev pub alternative_in : DecisionTable → ℕ → List ℕ → Result ℕ ProofFault
alternative_in t place id = need (BadLine place) (alternative_named t id)

-- this word, and ids up to the end of the line
unfoldable pub ids_words : DecisionTable → List ℕ → ℕ → List (List ℕ) → Result (List ℕ) ProofFault
ids_words t word place words = do
  ids ← after_word place word words
  all_at (alternative_in t place) ids

-- this word and the number behind it
unfoldable pub labelled_at : List ℕ → ℕ → List (List ℕ) → Result (ℕ × List (List ℕ)) ProofFault
labelled_at word place words = do
  more ← after_word place word words
  small_number_at place more

-- the ends of an interval, and how many conflicts and nodes follow; `from` is before these words
unfoldable pub ends_words : ℕ → List (List ℕ) → Result Ends ProofFault
ends_words place words = do
  from ← small_number_at place words
  to ← labelled_at (codes "to") place from.1
  conflicts ← labelled_at (codes "conflicts") place to.1
  nodes ← labelled_at (codes "nodes") place conflicts.1
  _ ← no_more place nodes.1
  Ok (record { from = from.0; to = to.0; conflicts = conflicts.0; nodes = nodes.0 })

-- the note of a number that is too wide; `wide` is before these words
unfoldable pub note_words : ℕ → List (List ℕ) → Result WideNote ProofFault
note_words place words = do
  note ← noted_at notes.place_at place words
  Ok (record { path = note.1; place = note.0 })

-- what stands behind the word that says which of the two it is
abbrev pub opening_words : SaidForm → ℕ → List (List ℕ) → Result Opening ProofFault
opening_words said_forms.From place words = do
  ends ← ends_words place words
  Ok (openings.Within ends)
opening_words said_forms.Wide place words = do
  note ← note_words place words
  Ok (openings.Wide note)

-- the first line of an extreme rank
unfoldable pub extreme_words : DecisionTable → ℕ → List (List ℕ) → Result Head ProofFault
extreme_words t place words = do
  side ← name_at side_word side_list place words
  alternative ← alternative_at t place side.1
  form ← name_at names.said_word names.said_forms place alternative.1
  opening ← opening_words form.0 place form.1
  Ok (record { side = side.0; alternative = alternative.0; opening = opening })

-- small numbers up to the end of the line
abbrev pub places_at : ℕ → List (List ℕ) → Result (List ℕ) ProofFault
places_at place words = all_at (number_in small_number_of place) words

-- what stands behind the word of a node
abbrev pub named_node : NodeName → ℕ → List (List ℕ) → Result Node ProofFault
named_node named.Leaf place words = do
  places ← places_at place words
  Ok (Leaf places)
named_node named.Branch place words = do
  number ← small_number_at place words
  _ ← no_more place number.1
  Ok (Branch number.0)

unfoldable pub node_words : ℕ → List (List ℕ) → Result Node ProofFault
node_words place words = do
  name ← name_at names.node_word names.node_names place words
  named_node name.0 place name.1

-- `ranks` and how many follow
unfoldable pub ranks_words : ℕ → List (List ℕ) → Result ℕ ProofFault
ranks_words place words = do
  count ← labelled_at (codes "ranks") place words
  _ ← no_more place count.1
  Ok count.0

unfoldable pub contradiction_words : ℕ → List (List ℕ) → Result EntryBody ProofFault
contradiction_words place words = do
  more ← after_word place (codes "contradiction") words
  multipliers ← refutation_at place more
  Ok (bodies.Contradiction multipliers)

unfoldable pub wide_words : ℕ → List (List ℕ) → Result EntryBody ProofFault
wide_words place words = do
  more ← after_word place (codes "wide") words
  rest ← after_word place (codes "base") more
  note ← note_words place rest
  Ok (bodies.BaseWide note)

-- ---- line by line

abbrev pub ids_line : DecisionTable → List ℕ → Cursor → Result (List ℕ × Cursor) ProofFault
ids_line t word c = ended c (ids_words t word c.place (line_words c))

abbrev pub extreme_line : DecisionTable → Cursor → Result (Head × Cursor) ProofFault
extreme_line t c = ended c (extreme_words t c.place (line_words c))

abbrev pub node_line : Cursor → Result (Node × Cursor) ProofFault
node_line c = ended c (node_words c.place (line_words c))

abbrev pub ranks_line : Cursor → Result (ℕ × Cursor) ProofFault
ranks_line c = ended c (ranks_words c.place (line_words c))

-- ---- extreme ranks

-- so many of what is read so
unfoldable pub so_many : {A : Type 0} → (Cursor → Result (A × Cursor) ProofFault) → ℕ → Cursor → Result (List A × Cursor) ProofFault
so_many read zero c = Ok ([], c)
so_many read (suc count) c = do
  first ← read c
  others ← so_many read count first.1
  Ok (first.0 ∷ others.0, others.1)

-- the members, and the multipliers
unfoldable pub conflict_at : DecisionTable → Cursor → Result (Conflict × Cursor) ProofFault
conflict_at t c = do
  members ← ids_line t (codes "conflict") c
  multipliers ← multipliers_line members.1
  Ok (record { members = members.0; multipliers = multipliers.0 }, multipliers.1)

-- the exceptions, the function, and as many conflicts and nodes as the first line says
unfoldable pub interval_at : DecisionTable → Ends → Cursor → Result (Said × Cursor) ProofFault
interval_at t ends c = do
  except ← ids_line t (codes "except") c
  function ← solution_line except.1
  conflicts ← so_many (conflict_at t) ends.conflicts function.1
  tree ← so_many node_line ends.nodes conflicts.1
  Ok (
    said.Within (record {
      from = ends.from;
      to = ends.to;
      except = except.0;
      function = function.0;
      conflicts = conflicts.0;
      tree = tree.0;
    }),
    tree.1,
  )

-- the alternatives of a number that is too wide
unfoldable pub wide_extreme_at : DecisionTable → WideNote → Cursor → Result (Said × Cursor) ProofFault
wide_extreme_at t note c = do
  members ← ids_line t (codes "over") c
  Ok (said.Wide (record { members = members.0; note = note }), members.1)

-- what follows the first line of an extreme rank
abbrev pub said_at : DecisionTable → Opening → Cursor → Result (Said × Cursor) ProofFault
said_at t (openings.Within ends) c = interval_at t ends c
said_at t (openings.Wide note) c = wide_extreme_at t note c

unfoldable pub extreme_at : DecisionTable → Cursor → Result (Extreme × Cursor) ProofFault
extreme_at t c = do
  head ← extreme_line t c
  says ← said_at t head.0.opening head.1
  Ok (record { alternative = head.0.alternative; side = head.0.side; said = says.0 }, says.1)

-- ---- entries

-- as many extreme ranks as the first line of the body says
unfoldable pub ranks_at : DecisionTable → Cursor → Result (EntryBody × Cursor) ProofFault
ranks_at t c = do
  count ← ranks_line c
  extremes ← so_many (extreme_at t) count.0 count.1
  Ok (bodies.Ranks extremes.0, extremes.1)

-- the form for which the first of these words stands
abbrev pub form_of : List (List ℕ) → Option BodyForm
form_of words = first_named names.form_word names.body_forms words

-- a body of this form
abbrev pub formed_at : DecisionTable → Option BodyForm → Cursor → Result (EntryBody × Cursor) ProofFault
formed_at t None c = Err (BadLine c.place)
formed_at t (Some forms.Ranks) c = ranks_at t c
formed_at t (Some forms.Contradiction) c = ended c (contradiction_words c.place (line_words c))
formed_at t (Some forms.Wide) c = ended c (wide_words c.place (line_words c))

-- a body: the first word of its first line decides the form
unfoldable pub body_at : DecisionTable → Cursor → Result (EntryBody × Cursor) ProofFault
body_at t c = formed_at t (form_of (line_words c)) c

-- the line of the desk, and the body
unfoldable pub entry_at : DecisionTable → Cursor → Result (Entry × Cursor) ProofFault
entry_at t c = do
  desk ← desk_line c
  body ← body_at t desk.1
  Ok (record { desk = desk.0; body = body.0 }, body.1)
