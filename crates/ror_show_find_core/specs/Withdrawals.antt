-- What becomes of an answer that statements carry, over all value functions, if one of them is withdrawn from all that stand.
use Rattle.std.specs.Prelude.{◌≡◌, ℕ, Bool, false, not, nat_eq, List}
use Rattle.std.specs.List.{AllZip, filter}
use Rattle.std.specs.List.Sorted.{IsStrictlyIncreasing}
use Rattle.std.specs.Set.{is_member}
use Rattle.ror_statement.specs.declared.statement.Numbered.{Numbered}
use Rattle.ror_statement.specs.declared.question.Question.{Question}
use Rattle.ror_statement.specs.declared.question.Conclusion.{Conclusion}
use Rattle.ror_statement.specs.Statements.{numbers_in, statements_in}
use Rattle.ror_table.specs.Table.{DecisionTable}
use Rattle.ror_value.specs.Over.{IsLawfulIn, IsAskedIn}
use Rattle.ror_value.specs.Meaning.{Answers}
use Rattle.ror_proof.specs.declared.answer.Answer.{Answer}
use Rattle.ror_proof.specs.declared.answer.WideText.{WideText}
use Rattle.ror_check.specs.Proof.{IsWideAt}
use Rattle.ror_pivot.specs.declared.note.Bits.TheVariants.{B127}
use Rattle.ror_pivot.specs.Answers.{most_of}
use Rattle.ror_given.specs.Notes.{HasNoteAt}
use Rattle.ror_reason.specs.declared.reducts.Reason.{Reason}
use Rattle.ror_reason.specs.declared.reducts.Reason.TheVariants as reasons
use Rattle.ror_reason.specs.Reasons.{IsWideReason}
use Rattle.ror_reason.specs.Reducts.{RestsOnPart, IsReduct}
use Rattle.ror_show_find_core.specs.declared.outcomes.Outcome.{Outcome}
use Rattle.ror_show_find_core.specs.declared.outcomes.Outcome.TheVariants as outcomes
use Rattle.ror_show_find_core.specs.declared.outcomes.Withdrawal.{Withdrawal}

-- all that stand but the statement with this number
abbrev pub without_statement : ℕ → List Numbered → List Numbered
without_statement n list = filter (λ x. not (nat_eq n x.number)) list

-- over all that stand but this statement the answer is another
abbrev pub FallsWithout : DecisionTable → List Numbered → Question → Conclusion → ℕ → Type 0
FallsWithout t list q c n = Answers t (statements_in (without_statement n list)) q c → ⊥

-- the answer over what stands is this, and is one that statements carry
pub record IsCarriedAnswer (t : DecisionTable) (list : List Numbered) (q : Question) (c : Conclusion) : Type 0 where
  pub asked : IsAskedIn t q
  pub rests : RestsOnPart q c
  pub whole : Answers t (statements_in list) q c

-- What is left is lawful, its numbers rise, and the question may be asked; and statements carry it where it is answered so.
pub record IsLeft (t : DecisionTable) (left : List Numbered) (q : Question) (c : Conclusion) : Type 0 where
  pub lawful : IsLawfulIn t (statements_in left)
  pub rising : IsStrictlyIncreasing (numbers_in left)
  pub asked : IsAskedIn t q
  pub rests : RestsOnPart q c

-- on the way to the answer over these statements a number passes the greatest width
abbrev pub IsTooWide : DecisionTable → List Numbered → Question → Type 0
IsTooWide t list q = (system : ℕ) × (note : WideText) × IsWideAt (HasNoteAt (most_of B127)) t (statements_in list) q system note

-- What the answer is over what is left: it stays, by a reduct of it over that; it stays, by a part of that of which it isn't known whether
-- each statement is needed; it goes; or that isn't known.
abbrev pub IsOver : DecisionTable → List Numbered → Question → Conclusion → Outcome → Type 0
IsOver t left q c (outcomes.Stays ns) = IsReduct t left q c ns
IsOver t left q c (outcomes.StaysWide ns) = (x : Answer) × (others : List Answer) × IsWideReason (most_of B127) t left q c ns x others
IsOver t left q c outcomes.Goes = Answers t (statements_in left) q c → ⊥
IsOver t left q c outcomes.Unknown = IsTooWide t left q

-- if the statement with this number is withdrawn from all that stand
abbrev pub IsOutcome : DecisionTable → List Numbered → Question → Conclusion → ℕ → Outcome → Type 0
IsOutcome t list q c n outcome = IsOver t (without_statement n list) q c outcome

abbrev pub IsWithdrawal : DecisionTable → List Numbered → Question → Conclusion → ℕ → Withdrawal → Type 0
IsWithdrawal t list q c n w = (w.number ≡ n) × IsOutcome t list q c n w.outcome

-- one for each of these numbers, in order
abbrev pub AreWithdrawals : DecisionTable → List Numbered → Question → Conclusion → List ℕ → List Withdrawal → Type 0
AreWithdrawals t list q c ns ws = AllZip (IsWithdrawal t list q c) ns ws

-- what is found holds of its own statement
abbrev pub IsFoundOutcome : DecisionTable → List Numbered → Question → Conclusion → Withdrawal → Type 0
IsFoundOutcome t list q c w = IsOutcome t list q c w.number w.outcome

-- ---- on the way

-- what stays, by the reason over what is left; no other reason is of an answer that statements carry
abbrev pub staying : Reason → Outcome
staying (reasons.Carried x) = outcomes.Stays x.numbers
staying (reasons.Wide ns x others) = outcomes.StaysWide ns
staying _ = outcomes.Unknown

-- it stays without another statement, by a reduct that lacks this one too
abbrev pub lacks_in : ℕ → Outcome → Bool
lacks_in n (outcomes.Stays ns) = not (is_member nat_eq ns n)
lacks_in n _ = false

abbrev pub lacks : ℕ → Withdrawal → Bool
lacks n w = lacks_in n w.outcome
