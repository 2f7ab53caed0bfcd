-- That a refusal names the first test that fails, and that what is refused is not proved.
use Rattle.std.proofs.Common.{◌≡◌, ◌≢◌, ℕ, ◌+◌, ◌<◌, true, false, List, [], ◌∷◌, length, map, Result, Ok, Err, refl, sym, ◌∙◌, subst, arith, inl, inr}
use Rattle.std.specs.Prelude.{OnOk, IfErr}
use Rattle.std.specs.List.{AllByRecursion, list_all}
use Rattle.std.proofs.lemmas.Bool.{false≢true}
use Rattle.ror_text.specs.FirstFault.{IsFirst, IsRefusedBy}
use Rattle.ror_text.proofs.FirstFaultLemmas.{not_earlier, refused_not_passed}
use Rattle.ror_text.proofs.Everywhere.{all_at}
use Rattle.ror_statement.specs.declared.statement.Statement.{Statement}
use Rattle.ror_statement.specs.declared.question.QuestionKind.{QuestionKind}
use Rattle.ror_statement.specs.declared.question.QuestionKind.TheVariants.{Plain, Any, Every}
use Rattle.ror_statement.specs.declared.question.Question.{Question}
use Rattle.ror_statement.specs.declared.question.Conclusion.{Conclusion}
use Rattle.ror_statement.specs.declared.question.Conclusion.TheVariants as conclusions
use Rattle.ror_statement.specs.Questions.{kind_of}
use Rattle.ror_table.specs.Table.{DecisionTable}
use Rattle.ror_value.specs.Over.{IsLawfulIn, IsAskedIn}
use Rattle.ror_system.specs.System.{LinearSystem}
use Rattle.ror_system.specs.declared.reject.Reject.{Reject}
use Rattle.smallvec.specs.SmallVec.{SmallVec}
use Rattle.ror_rows.specs.declared.extra.Extra.{Extra}
use Rattle.ror_rows.specs.Rows.{systems_of_question, extras_of}
use Rattle.ror_proof.specs.declared.answer.Part.{Part}
use Rattle.ror_proof.specs.declared.answer.Proof.{Proof}
use Rattle.ror_proof.specs.declared.answer.Verdict.{Verdict}
use Rattle.ror_proof.specs.declared.answer.Verdict.TheVariants as verdicts
use Rattle.ror_proof.specs.declared.answer.Answer.{Answer}
use Rattle.ror_check.specs.declared.fault.CheckFault.{CheckFault}
use Rattle.ror_check.specs.declared.fault.CheckFault.TheVariants as faults
use Rattle.ror_check.specs.declared.side.Side.{Side}
use Rattle.ror_check.specs.Proof.{OfProof, verdict_with, IsWide, IsTrueVerdict, Shows, ShowsOfItsSystem, Proves, IsProvedAnswer, AreNumbersFor, AreNumberedFor, may_conclude, base_side, part_side, base_system, question_systems_of}
use Rattle.ror_check.specs.Faults.{is_side, have_kind, has_kinds, IsRejectedFor, FailsPart, FailsProof, FailsVerdict, FailsAnswer, fault_stage, fault_place, IsEarlierFault}
use Rattle.ror_check.specs.Steps.{AreShownBefore, RefusesBase, RefusesParts, RefusesProof, systems_with}
use Rattle.ror_check.proofs.Checking.{three_true, some_kind, some_same, shown_kind, rejected_not_shown, as_many, systems_with-are, proves, answer_is_true}

-- a part that shows a side of the system that it names is refused for no reason
shown_not_refused : (side : Side) (systems : List LinearSystem) (parts : List Part) (k : ℕ) (r : Reject) (f : FailsPart systems parts k r) → ShowsOfItsSystem side systems f.part → ⊥
shown_not_refused side systems parts k r f shown =
    let m = shown.counted in
    let n = f.numbered in
    let same : shown.before ≡ f.systems_before = omega arith in
    let system : shown.system ≡ f.system = some_same (sym shown.there ∙ rw same f.system_there) in
    rejected_not_shown side f.system f.part.body r f.rejected (subst (λ (s : LinearSystem). Shows side s f.part.body) system shown.shown)

-- ---- each fault of a proof is the first

module _ (t : DecisionTable) (list : List Statement) (q : Question) (c : Conclusion) (proof : Proof) where
  kinds_first : has_kinds q c proof ≡ false → IsFirst (FailsProof t list q c proof) IsEarlierFault faults.WrongVerdict
  kinds_first fails = record { fails = fails; none_before = before }
    where
      before : (g : CheckFault) → IsEarlierFault g faults.WrongVerdict → FailsProof t list q c proof g → ⊥
      before faults.WrongQuestion earlier h = h
      before faults.WrongVerdict earlier h = not_earlier fault_stage fault_place faults.WrongVerdict faults.WrongVerdict (omega arith) (omega arith) earlier
      before faults.PartCount earlier h = not_earlier fault_stage fault_place faults.PartCount faults.WrongVerdict (omega arith) (omega arith) earlier
      before (faults.Base r) earlier h = not_earlier fault_stage fault_place (faults.Base r) faults.WrongVerdict (omega arith) (omega arith) earlier
      before (faults.Part k r) earlier h = not_earlier fault_stage fault_place (faults.Part k r) faults.WrongVerdict (omega arith) (omega arith) earlier
      before faults.Memory earlier h = h

  count_first : has_kinds q c proof ≡ true → (AreNumberedFor list q c proof.parts → ⊥) → IsFirst (FailsProof t list q c proof) IsEarlierFault faults.PartCount
  count_first kinds fails = record { fails = fails; none_before = before }
    where
      before : (g : CheckFault) → IsEarlierFault g faults.PartCount → FailsProof t list q c proof g → ⊥
      before faults.WrongQuestion earlier h = h
      before faults.WrongVerdict earlier h = false≢true (sym h ∙ kinds)
      before faults.PartCount earlier h = not_earlier fault_stage fault_place faults.PartCount faults.PartCount (omega arith) (omega arith) earlier
      before (faults.Base r) earlier h = not_earlier fault_stage fault_place (faults.Base r) faults.PartCount (omega arith) (omega arith) earlier
      before (faults.Part k r) earlier h = not_earlier fault_stage fault_place (faults.Part k r) faults.PartCount (omega arith) (omega arith) earlier
      before faults.Memory earlier h = h

  base_first : (r : Reject) → has_kinds q c proof ≡ true → AreNumberedFor list q c proof.parts → IsRejectedFor (base_system t list) proof.base r → IsFirst (FailsProof t list q c proof) IsEarlierFault (faults.Base r)
  base_first r kinds numbered fails = record { fails = fails; none_before = before }
    where
      before : (g : CheckFault) → IsEarlierFault g (faults.Base r) → FailsProof t list q c proof g → ⊥
      before faults.WrongQuestion earlier h = h
      before faults.WrongVerdict earlier h = false≢true (sym h ∙ kinds)
      before faults.PartCount earlier h = h numbered
      before (faults.Base r') earlier h = not_earlier fault_stage fault_place (faults.Base r') (faults.Base r) (omega arith) (omega arith) earlier
      before (faults.Part k r') earlier h = not_earlier fault_stage fault_place (faults.Part k r') (faults.Base r) (omega arith) (omega arith) earlier
      before faults.Memory earlier h = h

  -- a part before the one that is refused is refused for no reason
  no_earlier_part : (k j : ℕ) (r : Reject) → ((before : ℕ) → k ≡ before + 1 → AreShownBefore (question_systems_of t list q) proof.parts before) → (before : ℕ) → k ≡ before + 1 → j < k → FailsPart (question_systems_of t list q) proof.parts j r → ⊥
  no_earlier_part k j r shown before counted less f =
      let side = some_kind f.part.body in
      let e = f.counted in
      let lt : f.before < before = omega arith in
      shown_not_refused side.0 (question_systems_of t list q) proof.parts j r f (shown before counted f.before f.part side.0 lt f.part_there side.1)

  part_first : (k : ℕ) (r : Reject) → has_kinds q c proof ≡ true → AreNumberedFor list q c proof.parts → Shows (base_side c) (base_system t list) proof.base → FailsPart (question_systems_of t list q) proof.parts k r
      → ((before : ℕ) → k ≡ before + 1 → AreShownBefore (question_systems_of t list q) proof.parts before) → IsFirst (FailsProof t list q c proof) IsEarlierFault (faults.Part k r)
  part_first k r kinds numbered base fails shown = record { fails = fails; none_before = before }
    where
      before : (g : CheckFault) → IsEarlierFault g (faults.Part k r) → FailsProof t list q c proof g → ⊥
      before faults.WrongQuestion earlier h = h
      before faults.WrongVerdict earlier h = false≢true (sym h ∙ kinds)
      before faults.PartCount earlier h = h numbered
      before (faults.Base r') earlier h = rejected_not_shown (base_side c) (base_system t list) proof.base r' h base
      before (faults.Part j r') (inl less) h = absurd (omega arith)
      before (faults.Part j r') (inr same) h = no_earlier_part k j r' shown fails.before fails.counted same.1 h
      before faults.Memory earlier h = h

  pub refused : (e : CheckFault) → RefusesProof t list q c proof e → IsRefusedBy (FailsProof t list q c proof) IsEarlierFault faults.Memory e
  refused faults.WrongQuestion h ne = absurd h
  refused faults.WrongVerdict h ne = kinds_first h
  refused faults.PartCount h ne = count_first h.0 h.1
  refused (faults.Base r) h ne = base_first r h.0 h.1 h.2
  refused (faults.Part k r) h ne = part_first k r h.0 h.1 h.2 h.3 h.4
  refused faults.Memory h ne = absurd (ne refl)

-- ---- what is proved passes each test

all_kinds : (side : Side) (systems : List LinearSystem) (parts : List Part) → AllByRecursion (ShowsOfItsSystem side systems) parts → list_all (λ p. is_side side p.body) parts ≡ true
all_kinds side systems [] h = refl
all_kinds side systems (p ∷ parts) h = let first = shown_kind side h.0.system p.body h.0.shown in let others = all_kinds side systems parts h.1 in rw (first, others) refl

have_kind-shown : (k : QuestionKind) (c : Conclusion) (systems : List LinearSystem) (parts : List Part) → AllByRecursion (ShowsOfItsSystem (part_side k c) systems) parts → have_kind k c parts ≡ true
have_kind-shown Plain conclusions.Yes systems parts h = refl
have_kind-shown Plain conclusions.No systems parts h = refl
have_kind-shown Plain conclusions.Contradiction systems parts h = refl
have_kind-shown Any conclusions.Yes systems parts h = all_kinds (part_side Any conclusions.Yes) systems parts h
have_kind-shown Any conclusions.No systems parts h = all_kinds (part_side Any conclusions.No) systems parts h
have_kind-shown Any conclusions.Contradiction systems parts h = refl
have_kind-shown Every conclusions.Yes systems parts h = all_kinds (part_side Every conclusions.Yes) systems parts h
have_kind-shown Every conclusions.No systems parts h = all_kinds (part_side Every conclusions.No) systems parts h
have_kind-shown Every conclusions.Contradiction systems parts h = refl

proof_passes : (t : DecisionTable) (list : List Statement) (q : Question) (c : Conclusion) (proof : Proof) (fault : CheckFault) → Proves t list q c proof → FailsProof t list q c proof fault → ⊥
proof_passes t list q c proof faults.WrongQuestion p h = h
proof_passes t list q c proof faults.WrongVerdict p h =
    let base = shown_kind (base_side c) (base_system t list) proof.base p.base in
    let parts = have_kind-shown (kind_of q) c (question_systems_of t list q) proof.parts p.parts in
    let all : has_kinds q c proof ≡ true = rw (p.listed, base, parts) refl in
    false≢true (sym h ∙ all)
proof_passes t list q c proof faults.PartCount p h = h p.numbered
proof_passes t list q c proof (faults.Base r) p h = rejected_not_shown (base_side c) (base_system t list) proof.base r h p.base
proof_passes t list q c proof (faults.Part k r) p h =
    let side = part_side (kind_of q) c in
    let systems = question_systems_of t list q in
    shown_not_refused side systems proof.parts k r h (all_at (ShowsOfItsSystem side systems) proof.parts h.before h.part p.parts h.part_there)
proof_passes t list q c proof faults.Memory p h = h

verdict_passes : (t : DecisionTable) (list : List Statement) (q : Question) (v : Verdict) (fault : CheckFault) → OfProof (Proves t list q) v → FailsVerdict t list q v fault → ⊥
verdict_passes t list q (verdicts.Yes proof) fault p h = proof_passes t list q conclusions.Yes proof fault p h
verdict_passes t list q (verdicts.No proof) fault p h = proof_passes t list q conclusions.No proof fault p h
verdict_passes t list q (verdicts.Contradiction proof) fault p h = proof_passes t list q conclusions.Contradiction proof fault p h
verdict_passes t list q (verdicts.Wide system note) fault p h = p

pub passes_each_test : (t : DecisionTable) (list : List Statement) (q : Question) (x : Answer) (fault : CheckFault) → IsProvedAnswer t list q x → FailsAnswer t list q x fault → ⊥
passes_each_test t list q x faults.WrongQuestion p h = h p.question
passes_each_test t list q x faults.WrongVerdict p h = verdict_passes t list q x.verdict faults.WrongVerdict p.proof h
passes_each_test t list q x faults.PartCount p h = verdict_passes t list q x.verdict faults.PartCount p.proof h
passes_each_test t list q x (faults.Base r) p h = verdict_passes t list q x.verdict (faults.Base r) p.proof h
passes_each_test t list q x (faults.Part k r) p h = verdict_passes t list q x.verdict (faults.Part k r) p.proof h
passes_each_test t list q x faults.Memory p h = verdict_passes t list q x.verdict faults.Memory p.proof h

-- ---- the answer of a check

-- what a verdict with a proof proves and fails is what the proof does
of_verdict : (P : Conclusion → Proof → Type 0) (c : Conclusion) (proof : Proof) → P c proof → OfProof P (verdict_with c proof)
of_verdict P conclusions.Yes proof p = p
of_verdict P conclusions.No proof p = p
of_verdict P conclusions.Contradiction proof p = p

fails_with : (t : DecisionTable) (list : List Statement) (q : Question) (c : Conclusion) (proof : Proof) (fault : CheckFault) → FailsVerdict t list q (verdict_with c proof) fault → FailsProof t list q c proof fault
fails_with t list q conclusions.Yes proof fault h = h
fails_with t list q conclusions.No proof fault h = h
fails_with t list q conclusions.Contradiction proof fault h = h

with_fails : (t : DecisionTable) (list : List Statement) (q : Question) (c : Conclusion) (proof : Proof) (fault : CheckFault) → FailsProof t list q c proof fault → FailsVerdict t list q (verdict_with c proof) fault
with_fails t list q conclusions.Yes proof fault h = h
with_fails t list q conclusions.No proof fault h = h
with_fails t list q conclusions.Contradiction proof fault h = h

-- an answer to what was asked fails as its verdict does
answer_fails : (t : DecisionTable) (list : List Statement) (q : Question) (x : Answer) (fault : CheckFault) → fault ≢ faults.WrongQuestion → FailsVerdict t list q x.verdict fault → FailsAnswer t list q x fault
answer_fails t list q x faults.WrongQuestion ne h = absurd (ne refl)
answer_fails t list q x faults.WrongVerdict ne h = h
answer_fails t list q x faults.PartCount ne h = h
answer_fails t list q x (faults.Base r) ne h = h
answer_fails t list q x (faults.Part k r) ne h = h
answer_fails t list q x faults.Memory ne h = h

verdict_fails : (t : DecisionTable) (list : List Statement) (q : Question) (x : Answer) (fault : CheckFault) → x.question ≡ q → FailsAnswer t list q x fault → FailsVerdict t list q x.verdict fault
verdict_fails t list q x faults.WrongQuestion asked h = absurd (h asked)
verdict_fails t list q x faults.WrongVerdict asked h = h
verdict_fails t list q x faults.PartCount asked h = h
verdict_fails t list q x (faults.Base r) asked h = h
verdict_fails t list q x (faults.Part k r) asked h = h
verdict_fails t list q x faults.Memory asked h = h

-- no verdict fails by the question
no_question : (t : DecisionTable) (list : List Statement) (q : Question) (v : Verdict) (fault : CheckFault) → FailsVerdict t list q v fault → fault ≢ faults.WrongQuestion
no_question t list q (verdicts.Yes proof) faults.WrongQuestion h is = h
no_question t list q (verdicts.No proof) faults.WrongQuestion h is = h
no_question t list q (verdicts.Contradiction proof) faults.WrongQuestion h is = h
no_question t list q (verdicts.Wide system note) faults.WrongQuestion h is = h
no_question t list q v faults.WrongVerdict h is = cc
no_question t list q v faults.PartCount h is = cc
no_question t list q v (faults.Base r) h is = cc
no_question t list q v (faults.Part k r) h is = cc
no_question t list q v faults.Memory h is = cc

pub verdict_proved : {A : Type 0} (t : DecisionTable) (list : List Statement) (q : Question) (v : Verdict) (c : Conclusion) (proof : Proof) (r : Result A CheckFault) → v ≡ verdict_with c proof → OnOk r (Proves t list q c proof) → OnOk r (OfProof (Proves t list q) v)
verdict_proved t list q v c proof (Ok u) is p = subst (OfProof (Proves t list q)) (sym is) (of_verdict (Proves t list q) c proof p)
verdict_proved t list q v c proof (Err g) is p = tt

pub verdict_refused : {A : Type 0} (t : DecisionTable) (list : List Statement) (q : Question) (v : Verdict) (c : Conclusion) (proof : Proof) (r : Result A CheckFault) → v ≡ verdict_with c proof
    → IfErr r (IsRefusedBy (FailsProof t list q c proof) IsEarlierFault faults.Memory) → IfErr r (IsRefusedBy (FailsVerdict t list q v) IsEarlierFault faults.Memory)
verdict_refused t list q v c proof (Ok u) is h = tt
verdict_refused t list q v c proof (Err g) is h = λ ne.
    let first = h ne in
    record {
      fails = subst (λ (v : Verdict). FailsVerdict t list q v g) (sym is) (with_fails t list q c proof g first.fails);
      none_before = λ e earlier fails. first.none_before e earlier (fails_with t list q c proof e (subst (λ (v : Verdict). FailsVerdict t list q v e) is fails));
    }

pub answer_refused : (t : DecisionTable) (list : List Statement) (q : Question) (x : Answer) (g : CheckFault) → x.question ≡ q → IsRefusedBy (FailsVerdict t list q x.verdict) IsEarlierFault faults.Memory g → IsRefusedBy (FailsAnswer t list q x) IsEarlierFault faults.Memory g
answer_refused t list q x g asked h = λ ne.
    let first = h ne in
    record {
      fails = answer_fails t list q x g (no_question t list q x.verdict g first.fails) first.fails;
      none_before = λ e earlier fails. first.none_before e earlier (verdict_fails t list q x e asked fails);
    }

pub answer_refused_in : {A : Type 0} (t : DecisionTable) (list : List Statement) (q : Question) (x : Answer) (r : Result A CheckFault) → x.question ≡ q → IfErr r (IsRefusedBy (FailsVerdict t list q x.verdict) IsEarlierFault faults.Memory) → IfErr r (IsRefusedBy (FailsAnswer t list q x) IsEarlierFault faults.Memory)
answer_refused_in t list q x (Ok u) asked h = tt
answer_refused_in t list q x (Err g) asked h = answer_refused t list q x g asked h

pub answer_true_in : {A : Type 0} (t : DecisionTable) (list : List Statement) (q : Question) (x : Answer) (r : Result A CheckFault) → IsLawfulIn t list → IsAskedIn t q → x.question ≡ q → OnOk r (OfProof (Proves t list q) x.verdict) → OnOk r (IsTrueVerdict t list q x.verdict)
answer_true_in t list q x (Ok u) lawful asked same p = answer_is_true t list q x lawful asked (record { question = same; proof = p })
answer_true_in t list q x (Err g) lawful asked same p = tt

-- a verdict without a proof fails by that alone
wide_fails : (t : DecisionTable) (list : List Statement) (q : Question) (v : Verdict) → IsWide v → FailsVerdict t list q v faults.WrongVerdict
wide_fails t list q (verdicts.Yes proof) wide = absurd wide
wide_fails t list q (verdicts.No proof) wide = absurd wide
wide_fails t list q (verdicts.Contradiction proof) wide = absurd wide
wide_fails t list q (verdicts.Wide system note) wide = tt

pub wide_refused : (t : DecisionTable) (list : List Statement) (q : Question) (v : Verdict) → IsWide v → IsRefusedBy (FailsVerdict t list q v) IsEarlierFault faults.Memory faults.WrongVerdict
wide_refused t list q v wide ne = record { fails = wide_fails t list q v wide; none_before = before }
  where
    before : (g : CheckFault) → IsEarlierFault g faults.WrongVerdict → FailsVerdict t list q v g → ⊥
    before faults.WrongQuestion earlier h = no_question t list q v faults.WrongQuestion h refl
    before faults.WrongVerdict earlier h = not_earlier fault_stage fault_place faults.WrongVerdict faults.WrongVerdict (omega arith) (omega arith) earlier
    before faults.PartCount earlier h = not_earlier fault_stage fault_place faults.PartCount faults.WrongVerdict (omega arith) (omega arith) earlier
    before (faults.Base r) earlier h = not_earlier fault_stage fault_place (faults.Base r) faults.WrongVerdict (omega arith) (omega arith) earlier
    before (faults.Part k r) earlier h = not_earlier fault_stage fault_place (faults.Part k r) faults.WrongVerdict (omega arith) (omega arith) earlier
    before faults.Memory earlier h = not_earlier fault_stage fault_place faults.Memory faults.WrongVerdict (omega arith) (omega arith) earlier

pub answer_not_proved : {A : Type 0} (t : DecisionTable) (list : List Statement) (q : Question) (x : Answer) (r : Result A CheckFault) → IfErr r (IsRefusedBy (FailsAnswer t list q x) IsEarlierFault faults.Memory) → IfErr r (λ g. g ≢ faults.Memory → IsProvedAnswer t list q x → ⊥)
answer_not_proved t list q x r h = refused_not_passed (FailsAnswer t list q x) IsEarlierFault faults.Memory r (λ g p. passes_each_test t list q x g p) h

-- ---- the steps of a check, over the systems that are at hand

pub proof_accepted : {A : Type 0} (t : DecisionTable) (list : List Statement) (q : Question) (c : Conclusion) (proof : Proof) (s : LinearSystem) (es : List (SmallVec Extra)) (ps : List Part) (r : Result A CheckFault) → s ≡ base_system t list → map extras_of es ≡ systems_of_question list q → ps ≡ proof.parts
    → has_kinds q c proof ≡ true → AreNumbersFor (kind_of q) c (length es) (map (λ p. p.at) ps) → ((side : Side) → is_side side proof.base ≡ true → Shows side (base_system t list) proof.base) → OnOk r (AreShownBefore (systems_with t s es) ps (length ps)) → OnOk r (Proves t list q c proof)
proof_accepted t list q c proof s es ps (Ok u) is e same kinds numbered base shown =
    proves t list q c proof s es is e kinds (subst (λ (parts : List Part). AreNumbersFor (kind_of q) c (length es) (map (λ p. p.at) parts)) same numbered) base (subst (λ (parts : List Part). AreShownBefore (systems_with t s es) parts (length parts)) same shown)
proof_accepted t list q c proof s es ps (Err g) is e same kinds numbered base shown = tt

parts_refused : (t : DecisionTable) (list : List Statement) (q : Question) (c : Conclusion) (proof : Proof) (systems : List LinearSystem) (g : CheckFault) → systems ≡ question_systems_of t list q → has_kinds q c proof ≡ true → AreNumberedFor list q c proof.parts → Shows (base_side c) (base_system t list) proof.base → RefusesParts systems proof.parts g → RefusesProof t list q c proof g
parts_refused t list q c proof systems faults.WrongQuestion e kinds numbered base h = absurd h
parts_refused t list q c proof systems faults.WrongVerdict e kinds numbered base h = absurd h
parts_refused t list q c proof systems faults.PartCount e kinds numbered base h = absurd h
parts_refused t list q c proof systems (faults.Base r) e kinds numbered base h = absurd h
parts_refused t list q c proof systems (faults.Part k r) e kinds numbered base h =
    (kinds, numbered, base, subst (λ (s : List LinearSystem). FailsPart s proof.parts k r) e h.0, subst (λ (s : List LinearSystem). (before : ℕ) → k ≡ before + 1 → AreShownBefore s proof.parts before) e h.1)
parts_refused t list q c proof systems faults.Memory e kinds numbered base h = tt

pub counted : (list : List Statement) (q : Question) (c : Conclusion) (proof : Proof) (es : List (SmallVec Extra)) (ps : List Part) → map extras_of es ≡ systems_of_question list q → ps ≡ proof.parts → AreNumbersFor (kind_of q) c (length es) (map (λ p. p.at) ps) → AreNumberedFor list q c proof.parts
counted list q c proof es ps e same numbered =
    subst (λ (n : ℕ). AreNumbersFor (kind_of q) c n (map (λ p. p.at) proof.parts)) (as_many list es q e) (subst (λ (parts : List Part). AreNumbersFor (kind_of q) c (length es) (map (λ p. p.at) parts)) same numbered)

pub not_counted : (list : List Statement) (q : Question) (c : Conclusion) (proof : Proof) (es : List (SmallVec Extra)) (ps : List Part) → map extras_of es ≡ systems_of_question list q → ps ≡ proof.parts → (AreNumbersFor (kind_of q) c (length es) (map (λ p. p.at) ps) → ⊥) → AreNumberedFor list q c proof.parts → ⊥
not_counted list q c proof es ps e same not numbered =
    not (subst (λ (parts : List Part). AreNumbersFor (kind_of q) c (length es) (map (λ p. p.at) parts)) (sym same) (subst (λ (n : ℕ). AreNumbersFor (kind_of q) c n (map (λ p. p.at) proof.parts)) (sym (as_many list es q e)) numbered))

pub count_refused : (t : DecisionTable) (list : List Statement) (q : Question) (c : Conclusion) (proof : Proof) → has_kinds q c proof ≡ true → (AreNumberedFor list q c proof.parts → ⊥) → IsRefusedBy (FailsProof t list q c proof) IsEarlierFault faults.Memory faults.PartCount
count_refused t list q c proof kinds not = refused t list q c proof faults.PartCount (kinds, not)

pub kinds_refused : (t : DecisionTable) (list : List Statement) (q : Question) (c : Conclusion) (proof : Proof) → has_kinds q c proof ≡ false → IsRefusedBy (FailsProof t list q c proof) IsEarlierFault faults.Memory faults.WrongVerdict
kinds_refused t list q c proof kinds = refused t list q c proof faults.WrongVerdict kinds

base_refuses : (t : DecisionTable) (list : List Statement) (q : Question) (c : Conclusion) (proof : Proof) (g : CheckFault) → has_kinds q c proof ≡ true → AreNumberedFor list q c proof.parts → RefusesBase (base_system t list) proof.base g → RefusesProof t list q c proof g
base_refuses t list q c proof faults.WrongQuestion kinds numbered h = absurd h
base_refuses t list q c proof faults.WrongVerdict kinds numbered h = absurd h
base_refuses t list q c proof faults.PartCount kinds numbered h = absurd h
base_refuses t list q c proof (faults.Base r) kinds numbered h = (kinds, numbered, h)
base_refuses t list q c proof (faults.Part k r) kinds numbered h = absurd h
base_refuses t list q c proof faults.Memory kinds numbered h = tt

pub base_refused : (t : DecisionTable) (list : List Statement) (q : Question) (c : Conclusion) (proof : Proof) (g : CheckFault) → has_kinds q c proof ≡ true → AreNumberedFor list q c proof.parts → RefusesBase (base_system t list) proof.base g → IsRefusedBy (FailsProof t list q c proof) IsEarlierFault faults.Memory g
base_refused t list q c proof g kinds numbered h = refused t list q c proof g (base_refuses t list q c proof g kinds numbered h)

pub proof_refused : {A : Type 0} (t : DecisionTable) (list : List Statement) (q : Question) (c : Conclusion) (proof : Proof) (s : LinearSystem) (es : List (SmallVec Extra)) (ps : List Part) (r : Result A CheckFault) → s ≡ base_system t list → map extras_of es ≡ systems_of_question list q → ps ≡ proof.parts
    → has_kinds q c proof ≡ true → AreNumbersFor (kind_of q) c (length es) (map (λ p. p.at) ps) → ((side : Side) → is_side side proof.base ≡ true → Shows side (base_system t list) proof.base) → IfErr r (RefusesParts (systems_with t s es) ps) → IfErr r (IsRefusedBy (FailsProof t list q c proof) IsEarlierFault faults.Memory)
proof_refused t list q c proof s es ps (Ok u) is e same kinds numbered base h = tt
proof_refused t list q c proof s es ps (Err g) is e same kinds numbered base h =
    let k = three_true (may_conclude (kind_of q) c) (is_side (base_side c) proof.base) (have_kind (kind_of q) c proof.parts) kinds in
    refused t list q c proof g (parts_refused t list q c proof (systems_with t s es) g (systems_with-are t list s es q is e) kinds (counted list q c proof es ps e same numbered) (base (base_side c) k.1) (subst (λ (parts : List Part). RefusesParts (systems_with t s es) parts g) same h))
