-- The one text of an entry: a pair's span with its proof, or the answer that leaves it open.
use Rattle.std.specs.Prelude.{ℕ, ◌<◌, ◌^◌, List, [], ◌∷◌, ◌++◌, length, codes, decimal}
use Rattle.std.specs.List.{flat_map, AllByRecursion}
use Rattle.ror_text.specs.SpacedLines.{line_text}
use Rattle.ror_table.specs.Table.{DecisionTable, id_of}
use Rattle.ror_proof.specs.Text.{answer_text, IsPrintable}
use Rattle.ror_confidence.specs.declared.span.LevelAnswer.{LevelAnswer}
use Rattle.ror_confidence.specs.declared.span.Span.{Span}
use Rattle.ror_spans.specs.declared.entry.Entry.{Entry}
use Rattle.ror_spans.specs.declared.entry.Entry.TheVariants as entries
use Rattle.ror_spans.specs.declared.entry.Form.{Form}
use Rattle.ror_spans.specs.declared.entry.Form.TheVariants as forms

-- the first line of a report
unfoldable pub header_text : List ℕ
header_text = line_text (codes "ror-spans" ∷ codes "1" ∷ [])

-- the word after the ids: which of the two forms the pair has
abbrev pub form_word : Form → List ℕ
form_word forms.Known = codes "contradictory"
form_word forms.Wide = codes "wide"

abbrev pub form_list : List Form
form_list = forms.Known ∷ forms.Wide ∷ []

-- the line of a pair with its span
abbrev pub known_text : DecisionTable → ℕ → ℕ → Span → List ℕ
known_text t a b x = line_text
    (codes "pair"
    ∷ id_of t a
    ∷ id_of t b
    ∷ form_word forms.Known
    ∷ decimal x.contradictory
    ∷ codes "necessary"
    ∷ decimal x.necessary
    ∷ codes "possible"
    ∷ decimal x.possible
    ∷ [])

-- that of a pair whose span is open at a level
abbrev pub wide_text : DecisionTable → ℕ → ℕ → ℕ → List ℕ
wide_text t a b level =
    line_text (codes "pair" ∷ id_of t a ∷ id_of t b ∷ form_word forms.Wide ∷ decimal level ∷ [])

-- the line of an answer's level, and the answer
abbrev pub level_answer_text : DecisionTable → LevelAnswer → List ℕ
level_answer_text t x =
    line_text (codes "level" ∷ decimal x.level ∷ []) ++ answer_text t x.answer

-- the line of the pair, and the answers of the proof, or the answer that is too wide
unfoldable pub entry_text : DecisionTable → Entry → List ℕ
entry_text t (entries.Known first second span) =
    known_text t first second span ++ flat_map (level_answer_text t) span.proof
entry_text t (entries.Wide first second found) =
    wide_text t first second found.level ++ answer_text t found.answer

-- the answers at levels that have a text
abbrev pub IsPrintableAt : DecisionTable → LevelAnswer → Type 0
IsPrintableAt t x = (x.level < 2 ^ 32) × IsPrintable t x.answer

-- the spans that have one
pub record IsPrintableSpan (t : DecisionTable) (x : Span) : Type 0 where
  pub contradictory : x.contradictory < 2 ^ 32
  pub necessary : x.necessary < 2 ^ 32
  pub possible : x.possible < 2 ^ 32
  pub proof : AllByRecursion (IsPrintableAt t) x.proof

-- the entries that have one
abbrev pub IsPrintableEntry : DecisionTable → Entry → Type 0
IsPrintableEntry t (entries.Known first second span) =
    (first < length t.alternatives) × (second < length t.alternatives) × IsPrintableSpan t span
IsPrintableEntry t (entries.Wide first second found) =
    (first < length t.alternatives) × (second < length t.alternatives) × IsPrintableAt t found
