-- Which part of a list carries an answer, over all value functions, and what proves it.
use Rattle.std.specs.Prelude.{◌≡◌, ℕ, Bool, true, false, not, nat_eq, List, length, slice_get, Some}
use Rattle.std.specs.List.{AllByRecursion, filter}
use Rattle.ror_statement.specs.declared.statement.Statement.{Statement}
use Rattle.ror_statement.specs.declared.statement.Numbered.{Numbered}
use Rattle.ror_statement.specs.declared.question.QuestionKind.{QuestionKind}
use Rattle.ror_statement.specs.declared.question.QuestionKind.TheVariants.{Any, Every}
use Rattle.ror_statement.specs.declared.question.Property.{Property}
use Rattle.ror_statement.specs.declared.question.Property.TheVariants.{AtLeast}
use Rattle.ror_statement.specs.declared.question.Question.{Question}
use Rattle.ror_statement.specs.declared.question.Conclusion.{Conclusion}
use Rattle.ror_statement.specs.declared.question.Conclusion.TheVariants.{Yes, No, Contradiction}
use Rattle.ror_statement.specs.Statements.{statements_in}
use Rattle.ror_statement.specs.Questions.{kind_of, property_of}
use Rattle.ror_table.specs.Table.{DecisionTable}
use Rattle.ror_value.specs.Meaning.{Answers}
use Rattle.ror_proof.specs.declared.answer.Answer.{Answer}
use Rattle.ror_proof.specs.declared.answer.Verdict.{Verdict}
use Rattle.ror_check.specs.Proof.{OfProof, IsProvedAnswer}
use Rattle.ror_check.specs.Repair.{AreNumbersIn, is_among}
use Rattle.ror_reason.specs.declared.reducts.Reduct.{Reduct}

-- the part of a list that these numbers name
abbrev pub part_of : List ℕ → List Numbered → List Numbered
part_of ns list = filter (λ x. is_among ns x) list

-- what that part states
abbrev pub stated : List ℕ → List Numbered → List Statement
stated ns list = statements_in (part_of ns list)

-- these numbers without one
abbrev pub without : ℕ → List ℕ → List ℕ
without n ns = filter (λ m. not (nat_eq n m)) ns

-- Statements carry that no function meets them, that every compatible one has two quantities in an order, and that none has
-- what is asked. More statements keep that, as they leave fewer functions, and each of these fewer classes.
abbrev pub rests_on_part : QuestionKind → Property → Conclusion → Bool
rests_on_part _ _ Contradiction = true
rests_on_part Every (AtLeast form) Yes = true
rests_on_part Any _ No = true
rests_on_part _ _ _ = false

abbrev pub RestsOnPart : Question → Conclusion → Type 0
RestsOnPart q c = rests_on_part (kind_of q) (property_of q) c ≡ true

-- The answer is one that statements carry. Over the list it is this, and so it is over the part of these numbers; over the
-- part without any one of its statements it is not.
pub record IsReduct (t : DecisionTable) (list : List Numbered) (q : Question) (c : Conclusion)
    (ns : List ℕ) : Type 0 where
  pub rests : RestsOnPart q c
  pub numbers : AreNumbersIn list ns
  pub whole : Answers t (statements_in list) q c
  pub carries : Answers t (stated ns list) q c
  pub needed : AllByRecursion (λ n. Answers t (stated (without n ns) list) q c → ⊥) ns

-- ---- what proves it

-- the verdict has a proof, and concludes this
abbrev pub Concludes : Conclusion → Verdict → Type 0
Concludes c v = OfProof (λ d proof. d ≡ c) v

-- the answer over the part without one of its statements has its proof, and concludes something else
pub record IsProvedOther (t : DecisionTable) (list : List Numbered) (q : Question)
    (c : Conclusion) (ns : List ℕ) (n : ℕ) (other : Answer) : Type 0 where
  pub proved : IsProvedAnswer t (stated (without n ns) list) q other
  pub differs : Concludes c other.verdict → ⊥

-- The answer is one that statements carry, and the numbers name a part of the list, over which it has its proof. Beside each
-- number stands, at its place, the answer over the others.
pub record IsProvedReduct (t : DecisionTable) (list : List Numbered) (q : Question)
    (c : Conclusion) (x : Reduct) : Type 0 where
  pub rests : RestsOnPart q c
  pub numbers : AreNumbersIn list x.numbers
  pub as_many : length x.others ≡ length x.numbers
  pub concludes : Concludes c x.answer.verdict
  pub answer : IsProvedAnswer t (stated x.numbers list) q x.answer
  pub others : (k n : ℕ) (other : Answer) → slice_get x.numbers k ≡ Some n
      → slice_get x.others k ≡ Some other → IsProvedOther t list q c x.numbers n other
