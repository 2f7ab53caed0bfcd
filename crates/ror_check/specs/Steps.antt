-- What each step of a check leaves to the next: the certificates that were accepted, and the one that was not.
use Rattle.std.specs.Prelude.{◌≡◌, ℕ, ◌+◌, ◌<◌, ◌≤◌, true, false, List, length, map, slice_get, Some}
use Rattle.smallvec.specs.SmallVec.{SmallVec}
use Rattle.std.specs.List.{AllByRecursion}
use Rattle.ror_statement.specs.declared.statement.Statement.{Statement}
use Rattle.ror_statement.specs.declared.question.Question.{Question}
use Rattle.ror_statement.specs.declared.question.Conclusion.{Conclusion}
use Rattle.ror_statement.specs.declared.row_number.TheConstants.{MOST_STATEMENTS}
use Rattle.ror_table.specs.Table.{DecisionTable}
use Rattle.ror_system.specs.System.{LinearSystem}
use Rattle.ror_value.specs.Over.{IsNamedIn}
use Rattle.ror_rows.specs.declared.extra.Extra.{Extra}
use Rattle.ror_rows.specs.Rows.{extended_by, extras_of}
use Rattle.ror_system.specs.Acceptance.{IsAcceptedSolution, AreAcceptedMultipliers}
use Rattle.ror_proof.specs.declared.answer.Certificate.{Certificate}
use Rattle.ror_proof.specs.declared.answer.Certificate.TheVariants as certificates
use Rattle.ror_proof.specs.declared.answer.Part.{Part}
use Rattle.ror_proof.specs.declared.answer.Proof.{Proof}
use Rattle.ror_check.specs.declared.fault.CheckFault.{CheckFault}
use Rattle.ror_check.specs.declared.fault.CheckFault.TheVariants as faults
use Rattle.ror_check.specs.declared.fault.AnswersFault.{AnswersFault}
use Rattle.ror_check.specs.declared.fault.AnswersFault.TheVariants as answers
use Rattle.ror_check.specs.declared.base.Base.{Base}
use Rattle.ror_check.specs.declared.side.Side.{Side}
use Rattle.ror_proof.specs.declared.answer.Answer.{Answer}
use Rattle.ror_check.specs.Proof.{IsWideOrProved, Shows, ShowsOfItsSystem, base_side, AreNumberedFor, base_system, question_systems_of}
use Rattle.ror_check.specs.Faults.{IsRejectedFor, FailsPart, is_side, has_kinds}

-- the system accepts the certificate, whichever of the two kinds it is
abbrev pub IsAcceptedFor : LinearSystem → Certificate → Type 0
IsAcceptedFor s (certificates.Solution x) = IsAcceptedSolution s x.steps
IsAcceptedFor s (certificates.Multipliers m) = AreAcceptedMultipliers s m.weak m.strict

-- the base is of this system, which accepts the certificates that are known
pub record IsBaseOf (s : LinearSystem) (base : Base) : Type 0 where
  pub system : base.system ≡ s
  pub known : AllByRecursion (IsAcceptedFor s) base.known.items

-- at most 200 extra rows, each with names of the table
abbrev pub AreUsable : DecisionTable → SmallVec Extra → Type 0
AreUsable t extras = (length extras.items ≤ MOST_STATEMENTS) × AllByRecursion (λ e. IsNamedIn t e.form) extras.items

-- the base with each of these extra rows
abbrev pub systems_with : DecisionTable → LinearSystem → List (SmallVec Extra) → List LinearSystem
systems_with t base systems = map (λ extras. extended_by t base (extras_of extras)) systems

-- each part before the place shows, of the system that has its number, the side that its kind can show
abbrev pub AreShownBefore : List LinearSystem → List Part → ℕ → Type 0
AreShownBefore systems parts n = (j : ℕ) (p : Part) (side : Side) → j < n
    → slice_get parts j ≡ Some p → is_side side p.body ≡ true → ShowsOfItsSystem side systems p

-- the numbers of the parts are numbers of systems, of which there are so many
abbrev pub NameSystems : ℕ → List Part → Type 0
NameSystems count parts = AllByRecursion (λ p. (1 ≤ p.at) × (p.at ≤ count)) parts

-- the base is refused, or memory ran out
abbrev pub RefusesBase : LinearSystem → Certificate → CheckFault → Type 0
RefusesBase s base (faults.Base r) = IsRejectedFor s base r
RefusesBase s base faults.Memory = Unit {0}
RefusesBase s base _ = ⊥

-- a part is refused, and those before it were not; or memory ran out
abbrev pub RefusesParts : List LinearSystem → List Part → CheckFault → Type 0
RefusesParts systems parts (faults.Part k r) = FailsPart systems parts k r
    × ((before : ℕ) → k ≡ before + 1 → AreShownBefore systems parts before)
RefusesParts systems parts faults.Memory = Unit {0}
RefusesParts systems parts _ = ⊥

-- a proof is refused, each earlier test having been passed; or memory ran out
abbrev pub RefusesProof : DecisionTable → List Statement → Question → Conclusion → Proof
    → CheckFault → Type 0
RefusesProof t list q c proof faults.WrongVerdict = has_kinds q c proof ≡ false
RefusesProof t list q c proof faults.PartCount = (has_kinds q c proof ≡ true)
    × (AreNumberedFor list q c proof.parts → ⊥)
RefusesProof t list q c proof (faults.Base r) = (has_kinds q c proof ≡ true)
    × AreNumberedFor list q c proof.parts × IsRejectedFor (base_system t list) proof.base r
RefusesProof t list q c proof (faults.Part k r) = (has_kinds q c proof ≡ true)
    × AreNumberedFor list q c proof.parts
    × Shows (base_side c) (base_system t list) proof.base
    × FailsPart (question_systems_of t list q) proof.parts k r
    × ((before : ℕ) → k ≡ before + 1
    → AreShownBefore (question_systems_of t list q) proof.parts before)
RefusesProof t list q c proof faults.Memory = Unit {0}
RefusesProof t list q c proof _ = ⊥

-- the fault of answers of which the one at a place is refused
abbrev pub refused_at : ℕ → CheckFault → AnswersFault
refused_at k faults.Memory = answers.Memory
refused_at k fault = answers.Answer k fault

-- each answer before the place is too wide or has its proof
abbrev pub AreProvedBefore : DecisionTable → List Statement → List Answer → ℕ → Type 0
AreProvedBefore t list xs n = (j : ℕ) (x : Answer) → j < n → slice_get xs j ≡ Some x
    → IsWideOrProved t list x.question x.verdict
