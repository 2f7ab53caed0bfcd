-- The form of a report as JSON: one value for each list of blocks.
use Rattle.std.specs.Prelude.{ℕ, ◌<◌, ◌^◌, true, List, [], ◌∷◌, map, ℤ, codes}
use Rattle.std.specs.Fmt.{signed_decimal}
use Rattle.std.specs.List.{AllByRecursion}
use Rattle.serde_json.specs.Data.{Data, number, string, boolean, array, object, unsigned, Members, no_members, member, put}
use Rattle.serde_json.specs.View.{items_of}
use Rattle.ror_text.specs.SpacedLines.{join_words}
use Rattle.ror_statement.specs.declared.question.Question.{Question}
use Rattle.ror_system.specs.declared.accept.Multipliers.{Multipliers}
use Rattle.ror_table.specs.Table.{DecisionTable}
use Rattle.ror_proof.specs.declared.answer.Answer.{Answer}
use Rattle.ror_proof.specs.declared.answer.Certificate.{Certificate}
use Rattle.ror_proof.specs.declared.answer.Certificate.TheVariants as certificates
use Rattle.ror_proof.specs.declared.answer.Part.{Part}
use Rattle.ror_proof.specs.declared.answer.Pivot.{Pivot}
use Rattle.ror_proof.specs.declared.answer.PlaceText.{PlaceText}
use Rattle.ror_proof.specs.declared.answer.Proof.{Proof}
use Rattle.ror_proof.specs.declared.answer.Verdict.{Verdict}
use Rattle.ror_proof.specs.declared.answer.Verdict.TheVariants.{Yes, No, Contradiction, Wide}
use Rattle.ror_proof.specs.declared.answer.WideText.{WideText}
use Rattle.ror_proof.specs.declared.kept.Dropped.{Dropped}
use Rattle.ror_proof.specs.declared.kept.Kept.{Kept}
use Rattle.ror_proof.specs.declared.names.VerdictName.{VerdictName}
use Rattle.ror_proof.specs.declared.names.VerdictName.TheVariants as said
use Rattle.ror_proof.specs.Names.{place_name, place_word, verdict_word}
use Rattle.ror_proof.specs.Text.{question_words, place_numbers, IsNarrowCertificate, IsPrintable, IsPrintableDropped, IsPrintableNote}
use Rattle.ror_report.specs.declared.block.Block.{Block}
use Rattle.ror_report.specs.declared.block.Body.{Body}
use Rattle.ror_report.specs.declared.block.Body.TheVariants.{Added, Withdrawn, Replaced, Undone, Repaired, RepairWide, Answers, Refused}
use Rattle.ror_report.specs.Names.{fault_word}
use Rattle.ror_report.specs.Printing.{HasValidQuestion, HasNarrowVerdict, HasNarrowRepair}
use Rattle.ror_report.specs.Text.{answers_of}
use Rattle.ror_json.specs.Names.{body_key, key_word}

-- Keys are in the order of their bytes, in which serde_json keeps them.

-- a count, a place, a system or the number of a line or of a statement
abbrev pub count_form : ℕ → Data
count_form n = number (unsigned n)

-- a number of a certificate, whose text a report has too
abbrev pub number_form : ℤ → Data
number_form z = string (signed_decimal z)

abbrev pub list_form : {X : Type 0} → (X → Data) → List X → Data
list_form form xs = array (items_of (map form xs))

-- ---- certificates

abbrev pub multipliers_form : Multipliers → Data
multipliers_form m =
    object
    (member (codes "strict") (list_form number_form m.strict)
    (member (codes "weak") (list_form number_form m.weak) no_members))

-- the one member of a certificate
abbrev pub certificate_members : Certificate → Members
certificate_members (certificates.Solution x) =
    member (codes "solution") (list_form number_form x.steps) no_members
certificate_members (certificates.Multipliers m) =
    member (codes "multipliers") (multipliers_form m) no_members

abbrev pub certificate_form : Certificate → Data
certificate_form c = object (certificate_members c)

-- the number of the system, and the member of its certificate
abbrev pub part_form : Part → Data
part_form p = object (member (codes "at") (count_form p.at) (certificate_members p.body))

-- ---- numbers too wide

-- the column, then the row
abbrev pub pivot_form : Pivot → Data
pivot_form p = array (items_of (count_form p.column ∷ count_form p.row ∷ []))

-- the name of the place, then its numbers
abbrev pub place_form : PlaceText → Data
place_form place =
    array (items_of (string (place_word (place_name place)) ∷ map count_form (place_numbers place)))

abbrev pub wide_form : ℕ → WideText → Data
wide_form system note =
    object
    (member (codes "path") (list_form pivot_form note.path)
    (member (codes "place") (place_form note.place)
    (member (codes "system") (count_form system) no_members)))

-- ---- answers

-- the words of the question, which follow `ask` in a session, as one text
abbrev pub question_text : DecisionTable → Question → List ℕ
question_text t q = join_words (question_words t q)

-- the answer to a question of this text, with its proof
abbrev pub proved_form : List ℕ → VerdictName → Proof → Data
proved_form question name proof =
    object
    (member (codes "base") (certificate_form proof.base)
    (member (codes "parts") (list_form part_form proof.parts)
    (member (codes "question") (string question)
    (member (codes "verdict") (string (verdict_word name)) no_members))))

-- the answer to a question of this text that concludes nothing
abbrev pub unsettled_form : List ℕ → ℕ → WideText → Data
unsettled_form question system note =
    object
    (member (codes "question") (string question)
    (member (codes "verdict") (string (verdict_word said.Wide))
    (member (codes "wide") (wide_form system note) no_members)))

abbrev pub verdict_form : List ℕ → Verdict → Data
verdict_form question (Yes proof) = proved_form question said.Yes proof
verdict_form question (No proof) = proved_form question said.No proof
verdict_form question (Contradiction proof) = proved_form question said.Contradiction proof
verdict_form question (Wide system note) = unsettled_form question system note

abbrev pub answer_form : DecisionTable → Answer → Data
answer_form t x = verdict_form (question_text t x.question) x.verdict

-- ---- repairs

abbrev pub dropped_form : Dropped → Data
dropped_form d =
    object
    (member (codes "multipliers") (multipliers_form d.proof)
    (member (codes "number") (count_form d.number) no_members))

abbrev pub kept_form : Kept → Data
kept_form x =
    object
    (member (codes "base") (certificate_form x.base)
    (member (codes "dropped") (list_form dropped_form x.dropped) no_members))

-- the number of the statement, and the first number too wide, which is one of the base system
abbrev pub repair_wide_form : ℕ → WideText → Data
repair_wide_form n note =
    object
    (member (codes "number") (count_form n) (member (codes "wide") (wide_form 0 note) no_members))

-- ---- reports

abbrev pub body_form : DecisionTable → Body → Data
body_form t (Added n) = count_form n
body_form t (Withdrawn n) = count_form n
body_form t (Replaced n) = count_form n
body_form t Undone = boolean true
body_form t (Repaired kept) = kept_form kept
body_form t (RepairWide n note) = repair_wide_form n note
body_form t (Answers answers) = list_form (answer_form t) answers
body_form t (Refused fault) = string (fault_word fault)

-- the line's number, and the body under the word of what it is
abbrev pub block_form : DecisionTable → Block → Data
block_form t b =
    object
    (put (codes "line") (count_form b.line)
    (put (key_word (body_key b.body)) (body_form t b.body) no_members))

-- the object around these blocks, whose version is 1
abbrev pub outer_form : List Data → Data
outer_form blocks =
    object
    (member (codes "blocks") (array (items_of blocks))
    (member (codes "report") (count_form 1) no_members))

abbrev pub report_form : DecisionTable → List Block → Data
report_form t blocks = outer_form (map (block_form t) blocks)

-- ---- what has a form: all but repairs as in a report's text, which gives the number of what is dropped

pub record IsFormedKept (x : Kept) : Type 0 where
  pub dropped : AllByRecursion IsPrintableDropped x.dropped
  pub base : IsNarrowCertificate x.base

abbrev pub IsFormedBody : DecisionTable → Body → Type 0
IsFormedBody t (Added n) = n < 2 ^ 32
IsFormedBody t (Withdrawn n) = n < 2 ^ 32
IsFormedBody t (Replaced n) = n < 2 ^ 32
IsFormedBody t Undone = Unit {0}
IsFormedBody t (Repaired kept) = IsFormedKept kept
IsFormedBody t (RepairWide n note) = (n < 2 ^ 32) × IsPrintableNote 0 note
IsFormedBody t (Answers answers) = AllByRecursion (IsPrintable t) answers
IsFormedBody t (Refused fault) = Unit {0}

pub record IsFormedBlock (t : DecisionTable) (b : Block) : Type 0 where
  pub number : b.line < 2 ^ 32
  pub body : IsFormedBody t b.body

-- ---- what a writer asks, which is what a printer asks

abbrev pub AsksOfBody : DecisionTable → Body → Type 0
AsksOfBody t body =
    AllByRecursion (HasValidQuestion t) (answers_of body)
    × AllByRecursion HasNarrowVerdict (answers_of body)
    × HasNarrowRepair body

abbrev pub AsksOfBlock : DecisionTable → Block → Type 0
AsksOfBlock t b = AsksOfBody t b.body
