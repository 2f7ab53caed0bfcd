-- The one text of an answer and of a repair: words joined by single spaces, line by line.
use Rattle.std.specs.Prelude.{ℕ, ◌<◌, ◌^◌, List, [], ◌∷◌, ◌++◌, length, map, ℤ, codes, decimal}
use Rattle.std.specs.Fmt.{signed_decimal}
use Rattle.std.specs.List.{flat_map, AllByRecursion}
use Rattle.ror_text.specs.SpacedLines.{line_text}
use Rattle.ror_statement.specs.declared.comparison.Scope.{Scope}
use Rattle.ror_statement.specs.declared.comparison.Scope.TheVariants.{Whole, One}
use Rattle.ror_statement.specs.declared.comparison.Pair.{Pair}
use Rattle.ror_statement.specs.declared.comparison.Form.{Form}
use Rattle.ror_statement.specs.declared.comparison.Form.TheVariants.{Value, Strength}
use Rattle.ror_statement.specs.declared.question.Question.{Question}
use Rattle.ror_statement.specs.declared.question.Property.{Property}
use Rattle.ror_statement.specs.declared.question.Property.TheVariants.{Compatible, AtLeast, InClass}
use Rattle.ror_statement.specs.Questions.{property_of}
use Rattle.ror_statement.specs.Names.{NamesWithin}
use Rattle.ror_system.specs.System.{IsNarrow}
use Rattle.ror_system.specs.declared.accept.Multipliers.{Multipliers}
use Rattle.ror_table.specs.Table.{DecisionTable, id_of, criterion_id_of}
use Rattle.ror_proof.specs.declared.answer.Certificate.{Certificate}
use Rattle.ror_proof.specs.declared.answer.Certificate.TheVariants as certificates
use Rattle.ror_proof.specs.declared.answer.Part.{Part}
use Rattle.ror_proof.specs.declared.answer.Proof.{Proof}
use Rattle.ror_proof.specs.declared.answer.Pivot.{Pivot}
use Rattle.ror_proof.specs.declared.answer.PlaceText.{PlaceText}
use Rattle.ror_proof.specs.declared.answer.PlaceText.TheVariants.{Start, Step, Denominator, RowSum, ColumnSum}
use Rattle.ror_proof.specs.declared.answer.WideText.{WideText}
use Rattle.ror_proof.specs.declared.answer.Verdict.{Verdict}
use Rattle.ror_proof.specs.declared.answer.Verdict.TheVariants.{Yes, No, Contradiction, Wide}
use Rattle.ror_proof.specs.declared.answer.Answer.{Answer}
use Rattle.ror_proof.specs.declared.kept.Dropped.{Dropped}
use Rattle.ror_proof.specs.declared.kept.Kept.{Kept}
use Rattle.ror_proof.specs.declared.names.VerdictName.{VerdictName}
use Rattle.ror_proof.specs.Names.{question_name, question_word, verdict_name, verdict_word, place_name, place_word}

-- ---- questions

abbrev pub pair_words : DecisionTable → Pair → List (List ℕ)
pair_words t p = id_of t p.first ∷ id_of t p.second ∷ []

abbrev pub scope_words : DecisionTable → Scope → List (List ℕ)
scope_words t Whole = []
scope_words t (One i) = codes "on" ∷ criterion_id_of t i ∷ []

abbrev pub form_words : DecisionTable → Form → List (List ℕ)
form_words t (Value a b) = id_of t a ∷ id_of t b ∷ []
form_words t (Strength p q s) = pair_words t p ++ (pair_words t q ++ scope_words t s)

abbrev pub property_words : DecisionTable → Property → List (List ℕ)
property_words t Compatible = []
property_words t (AtLeast form) = form_words t form
property_words t (InClass a h) = id_of t a ∷ decimal h ∷ []

-- the word of the question, and those of what it asks of a value function
abbrev pub question_words : DecisionTable → Question → List (List ℕ)
question_words t q = question_word (question_name q) ∷ property_words t (property_of q)

-- a text names alternatives and criteria of the table, and any class
abbrev pub HasWords : DecisionTable → Property → Type 0
HasWords t Compatible = Unit {0}
HasWords t (AtLeast form) = NamesWithin (length t.alternatives) (length t.criteria) form
HasWords t (InClass a h) = (a < length t.alternatives) × (h < 2 ^ 32)

abbrev pub IsNamed : DecisionTable → Question → Type 0
IsNamed t q = HasWords t (property_of q)

-- ---- certificates

abbrev pub solution_words : List ℤ → List (List ℕ)
solution_words steps = codes "solution" ∷ map signed_decimal steps

abbrev pub multipliers_words : List ℤ → List ℤ → List (List ℕ)
multipliers_words weak strict =
    codes "multipliers" ∷ (map signed_decimal weak ++ codes "|" ∷ map signed_decimal strict)

abbrev pub certificate_words : Certificate → List (List ℕ)
certificate_words (certificates.Solution x) = solution_words x.steps
certificate_words (certificates.Multipliers m) = multipliers_words m.weak m.strict

-- the numbers are of absolute value at most 2^127 - 1
abbrev pub AreNarrow : Multipliers → Type 0
AreNarrow m = AllByRecursion IsNarrow m.weak × AllByRecursion IsNarrow m.strict

-- the same of those of a certificate
abbrev pub IsNarrowCertificate : Certificate → Type 0
IsNarrowCertificate (certificates.Solution x) = AllByRecursion IsNarrow x.steps
IsNarrowCertificate (certificates.Multipliers m) = AreNarrow m

-- ---- proofs

abbrev pub base_text : Certificate → List ℕ
base_text c = line_text (codes "base" ∷ certificate_words c)

abbrev pub part_text : Part → List ℕ
part_text p = line_text (codes "part" ∷ decimal p.at ∷ certificate_words p.body)

-- the line of the base, and a line for each part
abbrev pub proof_text : Proof → List ℕ
proof_text p = base_text p.base ++ flat_map part_text p.parts

abbrev pub IsNarrowProof : Proof → Type 0
IsNarrowProof p =
    IsNarrowCertificate p.base × AllByRecursion (λ part. IsNarrowCertificate part.body) p.parts

pub record IsPrintablePart (p : Part) : Type 0 where
  pub number : p.at < 2 ^ 32
  pub narrow : IsNarrowCertificate p.body

pub record IsPrintableProof (p : Proof) : Type 0 where
  pub base : IsNarrowCertificate p.base
  pub parts : AllByRecursion IsPrintablePart p.parts

-- ---- numbers too wide

abbrev pub place_numbers : PlaceText → List ℕ
place_numbers (Start row column) = row ∷ column ∷ []
place_numbers (Step row column) = row ∷ column ∷ []
place_numbers (Denominator row) = row ∷ []
place_numbers (RowSum row) = row ∷ []
place_numbers (ColumnSum column) = column ∷ []

abbrev pub place_words : PlaceText → List (List ℕ)
place_words place = place_word (place_name place) ∷ map decimal (place_numbers place)

-- `COLUMN:ROW`
abbrev pub pivot_word : Pivot → List ℕ
pivot_word p = decimal p.column ++ 58 ∷ decimal p.row

-- the system, the place of the number, and the pivots before it
abbrev pub wide_text : ℕ → WideText → List ℕ
wide_text system note =
    line_text
    (codes "wide" ∷ decimal system
    ∷ (place_words note.place ++ codes "path" ∷ map pivot_word note.path))

pub record IsPrintablePivot (p : Pivot) : Type 0 where
  pub column : p.column < 2 ^ 32
  pub row : p.row < 2 ^ 32

pub record IsPrintableNote (system : ℕ) (note : WideText) : Type 0 where
  pub number : system < 2 ^ 32
  pub place : AllByRecursion (λ n. n < 2 ^ 32) (place_numbers note.place)
  pub path : AllByRecursion IsPrintablePivot note.path

-- ---- answers

-- what follows the line of the question
abbrev pub verdict_text : Verdict → List ℕ
verdict_text (Yes proof) = proof_text proof
verdict_text (No proof) = proof_text proof
verdict_text (Contradiction proof) = proof_text proof
verdict_text (Wide system note) = wide_text system note

-- the line of the question and the verdict
abbrev pub head_text : DecisionTable → Question → VerdictName → List ℕ
head_text t q name =
    line_text (codes "answer" ∷ (question_words t q ++ verdict_word name ∷ []))

-- that line, and the lines of the proof or that of a number too wide
unfoldable pub answer_text : DecisionTable → Answer → List ℕ
answer_text t x = head_text t x.question (verdict_name x.verdict) ++ verdict_text x.verdict

-- the numbers of all certificates are of absolute value at most 2^127 - 1
abbrev pub IsNarrowVerdict : Verdict → Type 0
IsNarrowVerdict (Yes proof) = IsNarrowProof proof
IsNarrowVerdict (No proof) = IsNarrowProof proof
IsNarrowVerdict (Contradiction proof) = IsNarrowProof proof
IsNarrowVerdict (Wide system note) = Unit {0}

abbrev pub IsPrintableVerdict : Verdict → Type 0
IsPrintableVerdict (Yes proof) = IsPrintableProof proof
IsPrintableVerdict (No proof) = IsPrintableProof proof
IsPrintableVerdict (Contradiction proof) = IsPrintableProof proof
IsPrintableVerdict (Wide system note) = IsPrintableNote system note

-- the answers that have a text: names of the table, and numbers that a report may hold
pub record IsPrintable (t : DecisionTable) (x : Answer) : Type 0 where
  pub named : IsNamed t x.question
  pub concluded : IsPrintableVerdict x.verdict

-- ---- repairs

-- the line of how many statements are dropped
abbrev pub repaired_text : ℕ → List ℕ
repaired_text count = line_text (codes "repaired" ∷ decimal count ∷ [])

-- a dropped statement, and the multipliers that refute it with what is kept before it
abbrev pub dropped_text : Dropped → List ℕ
dropped_text d =
    line_text
    (codes "dropped" ∷ decimal d.number ∷ multipliers_words d.proof.weak d.proof.strict)

-- how many statements are dropped, a line for each, and the line of the base
unfoldable pub kept_text : Kept → List ℕ
kept_text x =
    repaired_text (length x.dropped) ++ (flat_map dropped_text x.dropped ++ base_text x.base)

-- the numbers of the base and of all multipliers are of absolute value at most 2^127 - 1
abbrev pub IsNarrowKept : Kept → Type 0
IsNarrowKept x =
    IsNarrowCertificate x.base
    × AllByRecursion (λ dropped. AreNarrow dropped.proof) x.dropped

pub record IsPrintableDropped (d : Dropped) : Type 0 where
  pub number : d.number < 2 ^ 32
  pub narrow : AreNarrow d.proof

-- the repairs that have a text: numbers that a report may hold
pub record IsPrintableKept (x : Kept) : Type 0 where
  pub few : length x.dropped < 2 ^ 32
  pub dropped : AllByRecursion IsPrintableDropped x.dropped
  pub base : IsNarrowCertificate x.base
