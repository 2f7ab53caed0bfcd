-- What is named is used, and nothing else is.
use Rattle.std.specs.Prelude.{◌≡◌, ◌↔◌, ℕ, ◌<◌, ◌≤◌, Bool, true, false, List, length, Contains, Some, ℤ, pos, ◌≤ℤ◌, ◌<ℤ◌}
use Rattle.std.specs.List.{AllByRecursion}
use Rattle.ror_integers.specs.Vectors.{entry, total}
use Rattle.ror_statement.specs.declared.comparison.Form.{Form}
use Rattle.ror_statement.specs.declared.statement.Statement.{Statement}
use Rattle.ror_statement.specs.declared.question.QuestionKind.TheVariants.{Every}
use Rattle.ror_statement.specs.declared.question.Property.TheVariants.{AtLeast}
use Rattle.ror_statement.specs.declared.question.Question.{Question}
use Rattle.ror_statement.specs.declared.question.Conclusion.TheVariants.{Yes}
use Rattle.ror_statement.specs.Questions.{kind_of, property_of}
use Rattle.ror_table.specs.Table.{DecisionTable, columns}
use Rattle.ror_system.specs.System.{LinearSystem}
use Rattle.ror_system.specs.Acceptance.{AreAcceptedMultipliers}
use Rattle.ror_system.specs.declared.accept.Multipliers.{Multipliers}
use Rattle.ror_value.specs.Over.{IsLawfulIn, IsAskedIn}
use Rattle.ror_value.specs.Meaning.{first_quantity, second_quantity, Holds, Meets}
use Rattle.ror_proof.specs.declared.answer.Certificate.TheVariants as certificates
use Rattle.ror_proof.specs.declared.answer.Proof.{Proof}
use Rattle.ror_proof.specs.declared.answer.Verdict.{Verdict}
use Rattle.ror_proof.specs.declared.answer.Verdict.TheVariants as verdicts
use Rattle.ror_check.specs.Proof.{OfProof, Proves}
use Rattle.ror_show_find_proofs.specs.declared.spans.Span.{Span}
use Rattle.ror_show_find_proofs.specs.Sums.{refutation, asked_besides, refuted, sum_at, is_used, is_positive_used}
use Rattle.ror_show_find_proofs.specs.Spans.{is_step_used, spans_of}

-- ---- which columns

-- of multipliers that are accepted a column is used exactly where its sum is below 0, and each other column's sum is 0
pub record UsedAreBelow : Type 0 where
  pub used : (s : LinearSystem) (m : Multipliers) (j : ℕ) → AreAcceptedMultipliers s m.weak m.strict
      → (is_used s m j ≡ true) ↔ (sum_at s m j <ℤ pos 0)
  pub others : (s : LinearSystem) (m : Multipliers) (j : ℕ) → AreAcceptedMultipliers s m.weak m.strict
      → is_used s m j ≡ false → sum_at s m j ≡ pos 0

-- the step up from a rank is used exactly where it lies within a span
abbrev pub SpansAreUsed : Type 0
SpansAreUsed = (t : DecisionTable) (used : List Bool) (i k : ℕ) → i < length t.criteria
    → (is_step_used t used i k ≡ true)
    ↔ ((x : Span) × Contains (spans_of t used) x × (x.criterion ≡ i) × (x.worse ≤ k) × (k < x.better))

-- ---- what they are used for

-- the multipliers that refute in a proved answer are accepted for the system that is meant
abbrev pub RefutationsFit : Type 0
RefutationsFit = (t : DecisionTable) (list : List Statement) (q : Question) (v : Verdict) (m : Multipliers)
    → OfProof (Proves t list q) v → refutation v ≡ Some (certificates.Multipliers m)
    → AreAcceptedMultipliers (refuted t list q v) m.weak m.strict

-- Numbers of any sign, one for each column, that are not below 0 where the column is used, and sum to more than 0 where it is used that
-- some criterion counts: a function that may give a better level less, but at the steps that are named.
pub record IsMonotoneWhereUsed (t : DecisionTable) (s : LinearSystem) (m : Multipliers) (w : List ℤ) : Type 0 where
  pub one_for_each_column : length w ≡ columns t
  pub used : (j : ℕ) → is_used s m j ≡ true → pos 0 ≤ℤ entry w j
  pub positive : is_positive_used m ≡ true → pos 0 <ℤ total w

-- No such function that meets the statements has what the refuted system asks besides. So where every function is asked it gives the
-- first quantity at least as much as the second.
pub record SumsSuffice : Type 0 where
  pub none : (t : DecisionTable) (list : List Statement) (q : Question) (v : Verdict) (m : Multipliers) (w : List ℤ)
      → IsLawfulIn t list → IsAskedIn t q → OfProof (Proves t list q) v
      → refutation v ≡ Some (certificates.Multipliers m) → IsMonotoneWhereUsed t (refuted t list q v) m w
      → Meets t w list → AllByRecursion (Holds t w) (asked_besides list q v) → ⊥
  pub every : (t : DecisionTable) (list : List Statement) (q : Question) (form : Form) (proof : Proof)
      (m : Multipliers) (w : List ℤ) → IsLawfulIn t list → IsAskedIn t q → kind_of q ≡ Every
      → property_of q ≡ AtLeast form → Proves t list q Yes proof
      → refutation (verdicts.Yes proof) ≡ Some (certificates.Multipliers m)
      → IsMonotoneWhereUsed t (refuted t list q (verdicts.Yes proof)) m w → Meets t w list
      → second_quantity t w form ≤ℤ first_quantity t w form
