-- What a reason that is found means.
use Rattle.std.proofs.Common.{◌≡◌, ℕ, true, false, List, Some}
use Rattle.std.specs.Prelude.{slice_get}
use Rattle.ror_statement.specs.declared.statement.Numbered.{Numbered}
use Rattle.ror_statement.specs.declared.statement.Statement.{Statement}
use Rattle.ror_statement.specs.declared.question.Conclusion.{Conclusion}
use Rattle.ror_statement.specs.declared.question.Conclusion.TheVariants.{Yes, No, Contradiction}
use Rattle.ror_statement.specs.declared.question.Question.{Question}
use Rattle.ror_statement.specs.declared.question.Question.TheVariants as questions
use Rattle.ror_statement.specs.Questions.{kind_of, property_of}
use Rattle.ror_statement.specs.Statements.{statements_in}
use Rattle.ror_table.specs.Table.{DecisionTable}
use Rattle.ror_value.specs.Over.{IsLawfulIn, IsAskedIn}
use Rattle.ror_value.specs.Meaning.{Answers, Has}
use Rattle.ror_proof.specs.declared.answer.Answer.{Answer}
use Rattle.ror_proof.specs.declared.answer.Verdict.{Verdict}
use Rattle.ror_proof.specs.declared.answer.Verdict.TheVariants as verdicts
use Rattle.ror_check.specs.Proof.{OfProof, Proves, IsProvedAnswer, IsAllowedAnswer, IsAllowedVerdict, is_wide}
use Rattle.ror_check.proofs.Checking.{answer_is_true}
use Rattle.ror_given.specs.Notes.{HasNoteAt}
use Rattle.ror_show_ground.specs.Meaning.{ByEvery}
use Rattle.ror_pivot.specs.declared.note.Bits.TheVariants.{B127}
use Rattle.ror_pivot.specs.Answers.{most_of}
use Rattle.ror_reason.specs.declared.reducts.Reason.{Reason}
use Rattle.ror_reason.specs.declared.reducts.Reason.TheVariants as reasons
use Rattle.ror_reason.specs.declared.reducts.Reduct.{Reduct}
use Rattle.ror_reason.specs.Reasons.{IsReasonOf, IsWideReason, leaves_class}
use Rattle.ror_reason.specs.Reducts.{stated, without, IsReduct, IsProvedReduct}
use Rattle.ror_reason.proofs.FunctionLemmas.{one_decides, against_each}
use Rattle.ror_reason.proofs.Parts.{stated_lawful}
use Rattle.ror_reason.proofs.LawLemmas.{concluded, concludes_so}
use Rattle.ror_show_find_reasons.specs.Meaning.{MeansReduct, MeansWide, MeansReason}

-- where every function that agrees leaves the alternative the class
class_left : (t : DecisionTable) (list : List Statement) (q : Question) (c : Conclusion) → leaves_class (kind_of q) (property_of q) c ≡ true → Answers t list q c → ByEvery t list (λ w. Has t list w (property_of q))
class_left t list (questions.NecessaryClass a h) Yes is answers = answers.1
class_left t list (questions.NecessaryClass a h) No is answers = absurd cc
class_left t list (questions.NecessaryClass a h) Contradiction is answers = absurd cc
class_left t list questions.Consistent c is answers = absurd cc
class_left t list (questions.Necessary a b) c is answers = absurd cc
class_left t list (questions.Possible a b) c is answers = absurd cc
class_left t list (questions.NecessaryStrength p q s) c is answers = absurd cc
class_left t list (questions.PossibleStrength p q s) c is answers = absurd cc
class_left t list (questions.PossibleClass a h) c is answers = absurd cc

pub reduct_means : (t : DecisionTable) (list : List Numbered) (q : Question) (c : Conclusion) (x : Reduct) → IsLawfulIn t (statements_in list) → IsAskedIn t q → IsProvedReduct t list q c x → IsReduct t list q c x.numbers → MeansReduct t list q c x
reduct_means t list q c x lawful asked proved is = record {
  reduct = is;
  as_many = proved.as_many;
  against = λ k n other number there. against_each t list q c x k n other lawful asked proved number there;
}

-- an answer beside a number that isn't too wide has its proof
allowed_proved : (t : DecisionTable) (over : List Statement) (q : Question) (x : Answer) → is_wide x.verdict ≡ false → IsAllowedAnswer (HasNoteAt (most_of B127)) t over q x → IsProvedAnswer t over q x
allowed_proved t over q x narrow allowed = record { question = allowed.question; proof = by x.verdict narrow allowed.verdict }
  where
    by : (v : Verdict) → is_wide v ≡ false → IsAllowedVerdict (HasNoteAt (most_of B127)) t over q v → OfProof (Proves t over q) v
    by (verdicts.Yes proof) narrow h = h
    by (verdicts.No proof) narrow h = h
    by (verdicts.Contradiction proof) narrow h = h
    by (verdicts.Wide system note) narrow h = absurd (let p = narrow in cc)

pub wide_means : (t : DecisionTable) (list : List Numbered) (q : Question) (c : Conclusion) (ns : List ℕ) (x : Answer) (others : List Answer) → IsLawfulIn t (statements_in list) → IsAskedIn t q → IsWideReason (most_of B127) t list q c ns x others → MeansWide t list q c ns others
wide_means t list q c ns x others lawful asked h = record {
  rests = h.rests;
  numbers = h.numbers;
  carries = h.carries;
  as_many = h.given.as_many;
  needed = needed;
  unknown = h.some_wide;
}
  where
    needed : (k n : ℕ) (other : Answer) → slice_get ns k ≡ Some n → slice_get others k ≡ Some other → is_wide other.verdict ≡ false → Answers t (stated (without n ns) list) q c → ⊥
    needed k n other number there narrow answers =
        let beside = h.given.each k n other number there in
        let over = stated (without n ns) list in
        let proved = allowed_proved t over q other narrow beside.0 in
        beside.1 (concludes_so t over q c other.verdict (answer_is_true t over q other (stated_lawful t list (without n ns) lawful) asked proved) answers)

pub reason_means : (t : DecisionTable) (list : List Numbered) (q : Question) (c : Conclusion) (reason : Reason) → IsLawfulIn t (statements_in list) → IsAskedIn t q → IsReasonOf (most_of B127) t list q c reason → MeansReason t list q c reason
reason_means t list q c (reasons.Carried x) lawful asked h = reduct_means t list q c x lawful asked h.0 h.1
reason_means t list q c (reasons.Wide ns x others) lawful asked h = wide_means t list q c ns x others lawful asked h
reason_means t list q c (reasons.OneHas x) lawful asked h = (h.0, one_decides.has t list q c x lawful asked h.0 h.1)
reason_means t list q c (reasons.OneLacks x) lawful asked h = (h.0, one_decides.lacks t list q c x lawful asked h.0 h.1)
reason_means t list q c (reasons.ClassLeft x) lawful asked h =
    (h.0, class_left t (statements_in list) q c h.0 (concluded t (statements_in list) q c x.verdict (answer_is_true t (statements_in list) q x lawful asked h.1.proved) h.1.concludes))
reason_means t list q c (reasons.WhollyWide system note) lawful asked h = h
