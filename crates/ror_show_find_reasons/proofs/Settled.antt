-- What settles a bound, by the answer that excludes the class beyond it.
use Rattle.std.proofs.Common.{◌≡◌, ℕ, true, List, refl, ap, subst}
use Rattle.std.specs.Prelude.{◌==◌}
use Rattle.std.proofs.lemmas.Bool.{eqb-true}
use Rattle.ror_show_ground.proofs.Tests.{both-true}
use Rattle.ror_statement.specs.declared.statement.Numbered.{Numbered}
use Rattle.ror_statement.specs.declared.statement.Statement.{Statement}
use Rattle.ror_statement.specs.declared.question.Conclusion.TheVariants as conclusions
use Rattle.ror_statement.specs.declared.question.Question.{Question}
use Rattle.ror_statement.specs.declared.question.Question.TheVariants.{Consistent, Necessary, Possible, NecessaryStrength, PossibleStrength, PossibleClass, NecessaryClass}
use Rattle.ror_table.specs.Table.{DecisionTable}
use Rattle.ror_proof.specs.declared.answer.Answer.{Answer}
use Rattle.ror_proof.specs.declared.answer.Verdict.{Verdict}
use Rattle.ror_proof.specs.declared.answer.Verdict.TheVariants as verdicts
use Rattle.ror_check.specs.Proof.{OfProof, Proves, IsProvedAnswer, IsWideOrProved}
use Rattle.ror_show_ground.specs.Sound.{IsSoundAnswer}
use Rattle.ror_pivot.specs.declared.note.Bits.TheVariants.{B127}
use Rattle.ror_pivot.specs.Answers.{most_of}
use Rattle.ror_reason.specs.declared.reducts.Reason.{Reason}
use Rattle.ror_reason.specs.Reasons.{IsReasonOf}
use Rattle.ror_show_find_reasons.specs.Carrying.{IsReasonFor}
use Rattle.ror_show_find_reasons.specs.declared.bounds.Side.{Side}
use Rattle.ror_show_find_reasons.specs.Bounds.{is_beyond, is_no_beyond, excludes}

-- ---- the answer

-- its question, and that it is no
pub record IsNo (side : Side) (end a : ℕ) (q : Question) (v : Verdict) : Type 0 where
  pub class : ℕ
  pub asks : q ≡ PossibleClass a class
  pub beyond : is_beyond side end class ≡ true
  pub concludes : OfProof (λ c proof. c ≡ conclusions.No) v

pub says_no : (side : Side) (end a : ℕ) (q : Question) (v : Verdict) → is_no_beyond side end a q v ≡ true → IsNo side end a q v
says_no side end a (PossibleClass x h) (verdicts.No proof) is =
    let parts = both-true (x == a) (is_beyond side end h) is in
    record { class = h; asks = ap (λ (y : ℕ). PossibleClass y h) (eqb-true x a parts.0); beyond = parts.1; concludes = refl }
says_no side end a (PossibleClass x h) (verdicts.Yes proof) is = absurd cc
says_no side end a (PossibleClass x h) (verdicts.Contradiction proof) is = absurd cc
says_no side end a (PossibleClass x h) (verdicts.Wide system note) is = absurd cc
says_no side end a Consistent v is = absurd cc
says_no side end a (Necessary x y) v is = absurd cc
says_no side end a (Possible x y) v is = absurd cc
says_no side end a (NecessaryStrength p q s) v is = absurd cc
says_no side end a (PossibleStrength p q s) v is = absurd cc
says_no side end a (NecessaryClass x h) v is = absurd cc

-- it has its proof
pub proved_no : (t : DecisionTable) (list : List Statement) (side : Side) (end a : ℕ) (x : Answer) → excludes side end a x ≡ true → IsSoundAnswer t list x → IsProvedAnswer t list x.question x
proved_no t list side end a x is sound = record { question = refl; proof = by x.verdict (says_no side end a x.question x.verdict is).concludes sound.verdict }
  where
    by : (v : Verdict) → OfProof (λ c proof. c ≡ conclusions.No) v → IsWideOrProved t list x.question v → OfProof (Proves t list x.question) v
    by (verdicts.Yes proof) no_ h = h
    by (verdicts.No proof) no_ h = h
    by (verdicts.Contradiction proof) no_ h = h
    by (verdicts.Wide system note) no_ h = absurd no_

-- ---- its reason

pub for_no : (t : DecisionTable) (list : List Numbered) (q : Question) (v : Verdict) (reason : Reason) → OfProof (λ c proof. c ≡ conclusions.No) v → IsReasonFor t list q v reason → IsReasonOf (most_of B127) t list q conclusions.No reason
unfolding IsReasonFor
for_no t list q (verdicts.Yes proof) reason no_ h = absurd (let p = no_ in cc)
for_no t list q (verdicts.No proof) reason no_ h = h
for_no t list q (verdicts.Contradiction proof) reason no_ h = absurd (let p = no_ in cc)
for_no t list q (verdicts.Wide system note) reason no_ h = absurd no_

pub no_reason : (t : DecisionTable) (list : List Numbered) (side : Side) (end a : ℕ) (q : Question) (v : Verdict) (reason : Reason) (said : IsNo side end a q v) → IsReasonFor t list q v reason → IsReasonOf (most_of B127) t list (PossibleClass a said.class) conclusions.No reason
no_reason t list side end a q v reason said h =
    subst (λ (p : Question). IsReasonOf (most_of B127) t list p conclusions.No reason) said.asks (for_no t list q v reason said.concludes h)
