-- The value functions that stand in the proofs of answers.
use Rattle.std.specs.Prelude.{◌≡◌, [], ◌∷◌, List, ℤ}
use Rattle.ror_statement.specs.declared.statement.Statement.{Statement}
use Rattle.ror_statement.specs.declared.question.Question.{Question}
use Rattle.ror_statement.specs.declared.question.Conclusion.{Conclusion}
use Rattle.ror_statement.specs.declared.question.Conclusion.TheVariants.{Yes, No, Contradiction}
use Rattle.ror_statement.specs.Questions.{property_of}
use Rattle.ror_table.specs.Table.{DecisionTable}
use Rattle.ror_value.specs.Meaning.{Has}
use Rattle.ror_proof.specs.declared.answer.Certificate.{Certificate}
use Rattle.ror_proof.specs.declared.answer.Certificate.TheVariants as certificates
use Rattle.ror_proof.specs.declared.answer.Part.{Part}
use Rattle.ror_proof.specs.declared.answer.Proof.{Proof}
use Rattle.ror_proof.specs.declared.answer.Answer.{Answer}
use Rattle.ror_check.specs.Proof.{OfProof}

-- the certificate is a solution, and its steps are those of the function
abbrev pub IsSolution : Certificate → List ℤ → Type 0
IsSolution (certificates.Solution x) w = x.steps ≡ w
IsSolution (certificates.Multipliers m) w = ⊥

-- the certificate of the first part, or of the base where there is no part
abbrev pub deciding_by : Certificate → List Part → Certificate
deciding_by base [] = base
deciding_by base (p ∷ parts) = p.body

abbrev pub deciding : Proof → Certificate
deciding proof = deciding_by proof.base proof.parts

-- the function by which the answer is decided, where one function decides it
abbrev pub IsDeciding : Answer → List ℤ → Type 0
IsDeciding x w = OfProof (λ c proof. IsSolution (deciding proof) w) x.verdict

-- the function of the base of the answer, where its list is consistent
abbrev pub IsBase : Answer → List ℤ → Type 0
IsBase x w = OfProof (λ c proof. IsSolution proof.base w) x.verdict

-- the function beside a statement of a reduct: that of the base, where the reduct is a conflict
abbrev pub IsBeside : Conclusion → Answer → List ℤ → Type 0
IsBeside Contradiction other w = IsBase other w
IsBeside _ other w = IsDeciding other w

-- a compatible function is against what is concluded of every one, that it has what is asked, or of none, that it hasn't;
-- each is against a contradiction
abbrev pub IsAgainst : DecisionTable → List Statement → Question → Conclusion → List ℤ → Type 0
IsAgainst t list q Contradiction w = Unit {0}
IsAgainst t list q Yes w = Has t list w (property_of q) → ⊥
IsAgainst t list q No w = Has t list w (property_of q)
