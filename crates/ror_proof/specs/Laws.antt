-- The laws of answers, of repairs, and of their texts.
use Rattle.std.specs.Prelude.{◌≡◌, ◌≢◌, ◌↔◌, ℕ, ◌+◌, false, List, ◌++◌, length, Ok, Err, codes}
use Rattle.std.specs.Str.{IsUtf8}
use Rattle.ror_table.specs.Table.{DecisionTable, IsTable}
use Rattle.ror_proof.specs.declared.answer.Answer.{Answer}
use Rattle.ror_text.specs.Cursor.{Cursor}
use Rattle.ror_proof.specs.declared.kept.Kept.{Kept}
use Rattle.ror_proof.specs.Text.{answer_text, IsPrintable, kept_text, IsPrintableKept}
use Rattle.ror_proof.specs.declared.read.ProofFault.{ProofFault}
use Rattle.ror_proof.specs.Expected.{IsFaultOfAnswer, IsFaultOfKept}
use Rattle.ror_proof.specs.Reading.{begins_part, answer_at, kept_at}

-- from the cursor on stands the text of an answer that has one, and after it no further part
pub record IsAnswerText (t : DecisionTable) (c : Cursor) (x : Answer)
    (after : Cursor) : Type 0 where
  pub text : c.rest ≡ answer_text t x ++ after.rest
  pub place : after.place ≡ c.place + length (answer_text t x)
  pub printable : IsPrintable t x
  pub no_further_part : begins_part after.rest ≡ false

-- an answer is read exactly where its text stands
abbrev pub AnswersAreTheirTexts : Type 0
AnswersAreTheirTexts = (t : DecisionTable) (c : Cursor) (x : Answer) (after : Cursor) → IsTable t
    → (answer_at t c ≡ Ok (x, after)) ↔ IsAnswerText t c x after

-- two answers have two texts
abbrev pub AnswersHaveOneText : Type 0
AnswersHaveOneText = (t : DecisionTable) (x y : Answer) → IsTable t → IsPrintable t x
    → IsPrintable t y → answer_text t x ≡ answer_text t y → x ≡ y

-- a text of an answer, with anything after it that begins no part, is read as that answer, up to where the text ends
abbrev pub TextsAreReadAlone : Type 0
TextsAreReadAlone = (t : DecisionTable) (x : Answer) (place : ℕ) (more : List ℕ) → IsTable t
    → IsPrintable t x → begins_part more ≡ false
    → answer_at t (record { place = place; rest = answer_text t x ++ more })
    ≡ Ok (x, record { place = place + length (answer_text t x); rest = more })

-- each text begins with the word `answer`
abbrev pub TextsBeginWithAnswer : Type 0
TextsBeginWithAnswer = (t : DecisionTable) (x : Answer)
    → (more : List ℕ) × (answer_text t x ≡ codes "answer " ++ more)

abbrev pub TextsAreUtf8 : Type 0
TextsAreUtf8 = (t : DecisionTable) (x : Answer) → IsTable t → IsPrintable t x
    → IsUtf8 (answer_text t x)

-- the fault that is given is that of the first faulty word of the first faulty line
abbrev pub AnswersFailFirst : Type 0
AnswersFailFirst = (t : DecisionTable) (c : Cursor) (fault : ProofFault)
    → (answer_at t c ≡ Err fault) ↔ IsFaultOfAnswer t c fault

-- ---- repairs

-- from the cursor on stands the text of a repair that has one
pub record IsKeptText (c : Cursor) (x : Kept) (after : Cursor) : Type 0 where
  pub text : c.rest ≡ kept_text x ++ after.rest
  pub place : after.place ≡ c.place + length (kept_text x)
  pub printable : IsPrintableKept x

-- a repair is read exactly where its text stands
abbrev pub RepairsAreTheirTexts : Type 0
RepairsAreTheirTexts = (c : Cursor) (x : Kept) (after : Cursor)
    → (kept_at c ≡ Ok (x, after)) ↔ IsKeptText c x after

-- two repairs have two texts
abbrev pub RepairsHaveOneText : Type 0
RepairsHaveOneText = (x y : Kept) → IsPrintableKept x → IsPrintableKept y
    → kept_text x ≡ kept_text y → x ≡ y

-- a text of a repair, with anything after it, is read as that repair, up to where the text ends
abbrev pub RepairsAreReadAlone : Type 0
RepairsAreReadAlone = (x : Kept) (place : ℕ) (more : List ℕ) → IsPrintableKept x
    → kept_at (record { place = place; rest = kept_text x ++ more })
    ≡ Ok (x, record { place = place + length (kept_text x); rest = more })

-- no text is one of an answer and one of a repair
abbrev pub NoRepairIsAnAnswer : Type 0
NoRepairIsAnAnswer = (t : DecisionTable) (x : Answer) (y : Kept) → answer_text t x ≢ kept_text y

-- each text begins with the word `repaired`
abbrev pub RepairsBeginWithRepaired : Type 0
RepairsBeginWithRepaired = (x : Kept)
    → (more : List ℕ) × (kept_text x ≡ codes "repaired " ++ more)

abbrev pub RepairsAreUtf8 : Type 0
RepairsAreUtf8 = (x : Kept) → IsPrintableKept x → IsUtf8 (kept_text x)

-- the fault that is given is that of the first faulty word of the first faulty line, whatever the
-- table
abbrev pub RepairsFailFirst : Type 0
RepairsFailFirst = (t : DecisionTable) (c : Cursor) (fault : ProofFault)
    → (kept_at c ≡ Err fault) ↔ IsFaultOfKept t c fault
