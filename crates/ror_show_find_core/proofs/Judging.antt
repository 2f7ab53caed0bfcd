-- What the answer over what is left tells of the answer over all that stand.
use Rattle.std.proofs.Common.{◌≡◌, ℕ, Bool, true, false, List, Some, None, refl, sym, subst}
use Rattle.std.specs.Prelude.{nat_eq, if◌then◌else◌}
use Rattle.std.specs.Set.{is_member}
use Rattle.ror_statement.specs.declared.statement.Statement.{Statement}
use Rattle.ror_statement.specs.declared.statement.Numbered.{Numbered}
use Rattle.ror_statement.specs.declared.question.QuestionKind.{QuestionKind}
use Rattle.ror_statement.specs.declared.question.QuestionKind.TheVariants.{Plain, Any, Every}
use Rattle.ror_statement.specs.declared.question.Property.{Property}
use Rattle.ror_statement.specs.declared.question.Property.TheVariants as properties
use Rattle.ror_statement.specs.declared.question.Question.{Question}
use Rattle.ror_statement.specs.declared.question.Conclusion.{Conclusion}
use Rattle.ror_statement.specs.declared.question.Conclusion.TheVariants.{Yes, No, Contradiction}
use Rattle.ror_statement.specs.Questions.{kind_of, property_of}
use Rattle.ror_statement.specs.Statements.{statements_in}
use Rattle.ror_table.specs.Table.{DecisionTable}
use Rattle.ror_value.specs.Over.{IsLawfulIn, IsAskedIn}
use Rattle.ror_value.specs.Meaning.{Answers}
use Rattle.ror_proof.specs.declared.answer.Answer.{Answer}
use Rattle.ror_proof.specs.declared.answer.Verdict.{Verdict}
use Rattle.ror_proof.specs.declared.answer.Verdict.TheVariants as verdicts
use Rattle.ror_check.specs.Proof.{OfProof, Proves, IsProvedAnswer, IsAllowedAnswer, IsAllowedVerdict, IsWideOrProved, is_wide}
use Rattle.ror_check.proofs.Checking.{answer_is_true}
use Rattle.ror_pivot.specs.declared.note.Bits.TheVariants.{B127}
use Rattle.ror_pivot.specs.Answers.{most_of}
use Rattle.ror_given.specs.Notes.{HasNoteAt}
use Rattle.ror_reason.specs.declared.reducts.Reason.{Reason}
use Rattle.ror_reason.specs.declared.reducts.Reason.TheVariants as reasons
use Rattle.ror_reason.specs.Reasons.{one_has, one_lacks, leaves_class, IsReasonOf}
use Rattle.ror_reason.specs.Reducts.{rests_on_part, RestsOnPart, Concludes}
use Rattle.ror_reason.proofs.LawLemmas.{concluded, concludes_so}
use Rattle.ror_show_ground.specs.Sound.{IsSoundAnswer}
use Rattle.ror_show_ground.proofs.Tests.{not-true}
use Rattle.ror_show_find_core.specs.declared.outcomes.Outcome.{Outcome}
use Rattle.ror_show_find_core.specs.declared.outcomes.Outcome.TheVariants as outcomes
use Rattle.ror_show_find_core.specs.declared.outcomes.Withdrawal.{Withdrawal}
use Rattle.ror_show_find_core.specs.Withdrawals.{IsCarriedAnswer, IsLeft, IsTooWide, IsOver, IsOutcome, IsFoundOutcome, staying, lacks_in, lacks}
use Rattle.ror_show_find_core.specs.Cores.{carried_as, carried_conclusion}
use Rattle.ror_show_find_core.proofs.Core.{lacks_both}

-- ---- the answer over what is left

pub too_wide : (t : DecisionTable) (left : List Numbered) (q : Question) (x : Answer) → IsAllowedAnswer (HasNoteAt (most_of B127)) t (statements_in left) q x → is_wide x.verdict ≡ true → IsTooWide t left q
too_wide t left q x allowed wide = by x.verdict allowed.verdict wide
  where
    by : (v : Verdict) → IsAllowedVerdict (HasNoteAt (most_of B127)) t (statements_in left) q v → is_wide v ≡ true → IsTooWide t left q
    by (verdicts.Yes proof) h wide = absurd (let p = wide in cc)
    by (verdicts.No proof) h wide = absurd (let p = wide in cc)
    by (verdicts.Contradiction proof) h wide = absurd (let p = wide in cc)
    by (verdicts.Wide system note) h wide = (system, note, h)

-- an answer that isn't too wide has its proof
pub proved : (t : DecisionTable) (xs : List Statement) (q : Question) (x : Answer) → IsAllowedAnswer (HasNoteAt (most_of B127)) t xs q x → is_wide x.verdict ≡ false → IsProvedAnswer t xs q x
proved t xs q x allowed narrow = record { question = allowed.question; proof = by x.verdict allowed.verdict narrow }
  where
    by : (v : Verdict) → IsAllowedVerdict (HasNoteAt (most_of B127)) t xs q v → is_wide v ≡ false → OfProof (Proves t xs q) v
    by (verdicts.Yes proof) h narrow = h
    by (verdicts.No proof) h narrow = h
    by (verdicts.Contradiction proof) h narrow = h
    by (verdicts.Wide system note) h narrow = absurd (let p = narrow in cc)

-- as an answer to its own question
pub proved_itself : (t : DecisionTable) (xs : List Statement) (q : Question) (x : Answer) → IsAllowedAnswer (HasNoteAt (most_of B127)) t xs q x → is_wide x.verdict ≡ false → IsProvedAnswer t xs x.question x
proved_itself t xs q x allowed narrow = subst (λ (p : Question). IsProvedAnswer t xs p x) (sym allowed.question) (proved t xs q x allowed narrow)

pub asks_itself : (t : DecisionTable) (xs : List Statement) (q : Question) (x : Answer) → IsAllowedAnswer (HasNoteAt (most_of B127)) t xs q x → IsAskedIn t q → IsAskedIn t x.question
asks_itself t xs q x allowed asked = subst (IsAskedIn t) (sym allowed.question) asked

-- where it concludes something else, the answer goes
pub goes : (t : DecisionTable) (left : List Numbered) (q : Question) (c : Conclusion) (x : Answer) → IsLeft t left q c → IsAllowedAnswer (HasNoteAt (most_of B127)) t (statements_in left) q x → is_wide x.verdict ≡ false → (Concludes c x.verdict → ⊥) → Answers t (statements_in left) q c → ⊥
goes t left q c x is allowed narrow other answers =
    let xs = statements_in left in
    other (concludes_so t xs q c x.verdict (answer_is_true t xs q x is.lawful is.asked (proved t xs q x allowed narrow)) answers)

-- ---- where it stays

-- an answer that statements carry isn't one that a function shows
no_one_has : (k : QuestionKind) (p : Property) (c : Conclusion) → rests_on_part k p c ≡ true → one_has k c ≡ true → ⊥
no_one_has Plain p Yes rests has = cc
no_one_has Plain p No rests has = cc
no_one_has Plain p Contradiction rests has = cc
no_one_has Any p Yes rests has = cc
no_one_has Any p No rests has = cc
no_one_has Any p Contradiction rests has = cc
no_one_has Every p c rests has = cc

no_one_lacks : (k : QuestionKind) (p : Property) (c : Conclusion) → rests_on_part k p c ≡ true → one_lacks k c ≡ true → ⊥
no_one_lacks Plain p c rests lacks = cc
no_one_lacks Any p c rests lacks = cc
no_one_lacks Every p Yes rests lacks = cc
no_one_lacks Every properties.Compatible No rests lacks = cc
no_one_lacks Every (properties.AtLeast form) No rests lacks = cc
no_one_lacks Every (properties.InClass a h) No rests lacks = cc
no_one_lacks Every p Contradiction rests lacks = cc

no_class_left : (k : QuestionKind) (p : Property) (c : Conclusion) → rests_on_part k p c ≡ true → leaves_class k p c ≡ true → ⊥
no_class_left Plain p c rests left = cc
no_class_left Any p c rests left = cc
no_class_left Every properties.Compatible c rests left = cc
no_class_left Every (properties.AtLeast form) c rests left = cc
no_class_left Every (properties.InClass a h) Yes rests left = cc
no_class_left Every (properties.InClass a h) No rests left = cc
no_class_left Every (properties.InClass a h) Contradiction rests left = cc

stays : (t : DecisionTable) (left : List Numbered) (q : Question) (c : Conclusion) (reason : Reason) → RestsOnPart q c → IsReasonOf (most_of B127) t left q c reason → IsOver t left q c (staying reason)
stays t left q c (reasons.Carried x) rests h = h.1
stays t left q c (reasons.Wide ns x others) rests h = (x, others, h)
stays t left q c (reasons.OneHas x) rests h = absurd (no_one_has (kind_of q) (property_of q) c rests h.0)
stays t left q c (reasons.OneLacks x) rests h = absurd (no_one_lacks (kind_of q) (property_of q) c rests h.0)
stays t left q c (reasons.ClassLeft x) rests h = absurd (no_class_left (kind_of q) (property_of q) c rests h.0)
stays t left q c (reasons.WhollyWide system note) rests h = absurd h

-- a reason of what an answer concludes is one of the conclusion
of_conclusion : (t : DecisionTable) (left : List Numbered) (q : Question) (c : Conclusion) (v : Verdict) (reason : Reason) → Concludes c v → OfProof (λ d proof. IsReasonOf (most_of B127) t left q d reason) v → IsReasonOf (most_of B127) t left q c reason
of_conclusion t left q c (verdicts.Yes proof) reason same h = subst (λ (d : Conclusion). IsReasonOf (most_of B127) t left q d reason) same h
of_conclusion t left q c (verdicts.No proof) reason same h = subst (λ (d : Conclusion). IsReasonOf (most_of B127) t left q d reason) same h
of_conclusion t left q c (verdicts.Contradiction proof) reason same h = subst (λ (d : Conclusion). IsReasonOf (most_of B127) t left q d reason) same h
of_conclusion t left q c (verdicts.Wide system note) reason same h = absurd h

pub stays_so : (t : DecisionTable) (left : List Numbered) (q : Question) (c : Conclusion) (x : Answer) (reason : Reason) → IsLeft t left q c → x.question ≡ q → Concludes c x.verdict → OfProof (λ d proof. IsReasonOf (most_of B127) t left x.question d reason) x.verdict → IsOver t left q c (staying reason)
stays_so t left q c x reason is asks same h =
    stays t left q c reason is.rests
    (subst (λ (p : Question). IsReasonOf (most_of B127) t left p c reason) asks (of_conclusion t left x.question c x.verdict reason same h))

-- ---- where it stays without another statement

reduct_of_other : (t : DecisionTable) (list : List Numbered) (q : Question) (c : Conclusion) (m n : ℕ) (outcome : Outcome) → Answers t (statements_in list) q c → lacks_in n outcome ≡ true → IsOutcome t list q c m outcome → IsOutcome t list q c n outcome
reduct_of_other t list q c m n (outcomes.Stays ns) whole lacking h = lacks_both t list q c m n ns whole h (not-true (is_member nat_eq ns n) lacking)
reduct_of_other t list q c m n (outcomes.StaysWide ns) whole lacking h = absurd (let p = lacking in cc)
reduct_of_other t list q c m n outcomes.Goes whole lacking h = absurd (let p = lacking in cc)
reduct_of_other t list q c m n outcomes.Unknown whole lacking h = absurd (let p = lacking in cc)

pub as_without : (t : DecisionTable) (list : List Numbered) (q : Question) (c : Conclusion) (n : ℕ) (other : Withdrawal) → IsCarriedAnswer t list q c → lacks n other ≡ true → IsFoundOutcome t list q c other → IsOutcome t list q c n other.outcome
as_without t list q c n other is lacking h = reduct_of_other t list q c other.number n other.outcome is.whole lacking h

-- ---- the answer that is told

-- what is concluded, where statements carry it
pub record IsCarriedAs (q : Question) (v : Verdict) (c : Conclusion) : Type 0 where
  pub rests : RestsOnPart q c
  pub concludes : Concludes c v

as_rests : (q : Question) (d c : Conclusion) → carried_as q d ≡ Some c → (d ≡ c) × RestsOnPart q c
as_rests q d c is = by (rests_on_part (kind_of q) (property_of q) d) refl is
  where
    by : (b : Bool) → rests_on_part (kind_of q) (property_of q) d ≡ b → (if b then Some d else None) ≡ Some c → (d ≡ c) × RestsOnPart q c
    by true rests same = let e : d ≡ c = cc in (e, subst (λ (z : Conclusion). RestsOnPart q z) e rests)
    by false rests same = absurd (let p = same in cc)

pub carried : (q : Question) (v : Verdict) (c : Conclusion) → carried_conclusion q v ≡ Some c → IsCarriedAs q v c
carried q (verdicts.Yes proof) c is = let so = as_rests q Yes c is in record { rests = so.1; concludes = so.0 }
carried q (verdicts.No proof) c is = let so = as_rests q No c is in record { rests = so.1; concludes = so.0 }
carried q (verdicts.Contradiction proof) c is = let so = as_rests q Contradiction c is in record { rests = so.1; concludes = so.0 }
carried q (verdicts.Wide system note) c is = absurd (let p = is in cc)

-- its proof makes it the answer over what stands
whole : (t : DecisionTable) (xs : List Statement) (q : Question) (c : Conclusion) (v : Verdict) → IsLawfulIn t xs → IsAskedIn t q → IsWideOrProved t xs q v → Concludes c v → Answers t xs q c
whole t xs q c (verdicts.Yes proof) lawful asked h same = concluded t xs q c (verdicts.Yes proof) (answer_is_true t xs q (record { question = q; verdict = verdicts.Yes proof }) lawful asked (record { question = refl; proof = h })) same
whole t xs q c (verdicts.No proof) lawful asked h same = concluded t xs q c (verdicts.No proof) (answer_is_true t xs q (record { question = q; verdict = verdicts.No proof }) lawful asked (record { question = refl; proof = h })) same
whole t xs q c (verdicts.Contradiction proof) lawful asked h same = concluded t xs q c (verdicts.Contradiction proof) (answer_is_true t xs q (record { question = q; verdict = verdicts.Contradiction proof }) lawful asked (record { question = refl; proof = h })) same
whole t xs q c (verdicts.Wide system note) lawful asked h same = absurd same

pub carried_answer : (t : DecisionTable) (list : List Numbered) (x : Answer) (c : Conclusion) → IsLawfulIn t (statements_in list) → IsSoundAnswer t (statements_in list) x → carried_conclusion x.question x.verdict ≡ Some c → IsCarriedAnswer t list x.question c
carried_answer t list x c lawful sound is =
    let so = carried x.question x.verdict c is in
    record {
      asked = sound.asked;
      rests = so.rests;
      whole = whole t (statements_in list) x.question c x.verdict lawful sound.asked sound.verdict so.concludes;
    }
