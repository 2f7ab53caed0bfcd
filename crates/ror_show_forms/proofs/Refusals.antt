-- What is refused of a certificate, and what one that is accepted is.
use Rattle.std.proofs.Common.{◌≡◌, ◌≢◌, ℕ, zero, ◌+◌, ◌<◌, ◌≤◌, eqb, false, List, [], ◌∷◌, ◌++◌, length, take, drop, get_or, Option, Some, None, Result, Ok, Err, refl, sym, ap, subst, ◌∙◌, arith, suc, drop-cons}
use Rattle.std.specs.Prelude.{slice_get, option_map, IfErr}
use Rattle.std.specs.List.{AllByRecursion, position_or_len}
use Rattle.std.specs.List.Sorted.{IsStrictlyIncreasing}
use Rattle.std.proofs.lemmas.List.{take-append-drop, length-take-le, take_all}
use Rattle.std.proofs.lemmas.List.Folds.{find_at}
use Rattle.std.proofs.Math.Seq.{take-suc}
use Rattle.ror_text.specs.FirstFault.{IsFirst, IsRefusedBy}
use Rattle.ror_text.proofs.Everywhere.{all-append, all_at}
use Rattle.ror_statement.specs.declared.statement.Statement.{Statement}
use Rattle.ror_statement.specs.declared.statement.Numbered.{Numbered}
use Rattle.ror_statement.specs.declared.question.Question.{Question}
use Rattle.ror_statement.specs.declared.question.Conclusion.{Conclusion}
use Rattle.ror_statement.specs.declared.question.Conclusion.TheVariants as conclusions
use Rattle.ror_statement.specs.Statements.{numbers_in, statements_in}
use Rattle.ror_table.specs.Table.{DecisionTable}
use Rattle.ror_value.specs.Over.{IsLawfulIn}
use Rattle.ror_show_ground.specs.Sound.{IsSoundAnswer}
use Rattle.ror_report.specs.Text.{answers_of}
use Rattle.ror_proof.specs.declared.answer.Answer.{Answer}
use Rattle.ror_proof.specs.declared.answer.Verdict.{Verdict}
use Rattle.ror_proof.specs.declared.answer.Verdict.TheVariants as verdicts
use Rattle.ror_check.specs.declared.fault.CheckFault.{CheckFault}
use Rattle.ror_check.specs.declared.fault.CheckFault.TheVariants as checks
use Rattle.ror_check.specs.Faults.{FailsAnswer, IsEarlierFault}
use Rattle.ror_check.specs.Proof.{IsTrueVerdict, is_wide}
use Rattle.ror_check.proofs.Checking.{answer_is_true}
use Rattle.ror_value.specs.Meaning.{Answers}
use Rattle.ror_reason.specs.Reducts.{IsReduct, stated, without}
use Rattle.ror_reason.proofs.LawLemmas.{proved_is_reduct}
use Rattle.ror_show_find_reasons.proofs.ToldLemmas.{proved}
use Rattle.ror_reason.specs.declared.fault.ReductFault.{ReductFault}
use Rattle.ror_reason.specs.declared.fault.ReductFault.TheVariants as faults
use Rattle.ror_reason.specs.declared.reducts.Reduct.{Reduct}
use Rattle.ror_reason.specs.ReductFaults.{FailsReduct, IsEarlierReductFault}
use Rattle.ror_show_forms.specs.declared.certificate.Certificate.{Certificate}
use Rattle.ror_report.specs.declared.block.Body.{Body}
use Rattle.ror_report.specs.declared.block.Body.TheVariants as bodies
use Rattle.ror_bench.proofs.UniqueLemmas.{one_some}
use Rattle.ror_bench.specs.declared.kept.KeptLine.{KeptLine}
use Rattle.ror_bench.specs.declared.report.Rejection.{Rejection}
use Rattle.ror_bench.specs.declared.report.ReportError.{ReportError}
use Rattle.ror_bench.specs.declared.report.ReportError.TheVariants as report_errors
use Rattle.ror_bench.specs.Reports.{IfRejected, IsFreeOfMemory, HoldsNoMemory}
use Rattle.ror_entries.specs.declared.check.EntryFault.{EntryFault}
use Rattle.ror_entries.specs.declared.check.EntryFault.TheVariants as entries
use Rattle.ror_entries.specs.Steps.{IfRefused, refused_error}
use Rattle.ror_show_ground.specs.Ready.{IsReady}
use Rattle.ror_show_forms.specs.Answered.{kept_line, answered, answered_at, answer_at, conclusion_of, entry_fault, IsProvedCertificate, RefusesOf, Refuses, IsFirstUnproved, at_fault, wrong_reduct}

-- ---- one reduct

memory_fails_nothing : (t : DecisionTable) (list : List Statement) (q : Question) (x : Answer) → FailsAnswer t list q x checks.Memory → ⊥
memory_fails_nothing t list q x fails = by x.verdict fails
  where
    by : (v : Verdict) → FailsAnswer t list q (record { question = x.question; verdict = v }) checks.Memory → ⊥
    by (verdicts.Yes proof) h = h
    by (verdicts.No proof) h = h
    by (verdicts.Contradiction proof) h = h
    by (verdicts.Wide system note) h = h

first_is_pure : (t : DecisionTable) (list : List Statement) (q : Question) (x : Answer) (fault : CheckFault) → IsFirst (FailsAnswer t list q x) IsEarlierFault fault → fault ≢ checks.Memory
first_is_pure t list q x fault first is = memory_fails_nothing t list q x (subst (FailsAnswer t list q x) is first.fails)

pub reduct_refused : (t : DecisionTable) (list : List Numbered) (answer : Answer) (x : Reduct) (c : Conclusion) (fault : ReductFault) → conclusion_of answer.verdict ≡ Some c → IsRefusedBy (FailsReduct t list answer.question c x) IsEarlierReductFault faults.Memory fault → IfRefused (RefusesOf t list answer x) (entry_fault fault)
reduct_refused t list answer x c faults.NotCarried is refused = at_fault c faults.NotCarried is (refused (λ e. cc)) refl
reduct_refused t list answer x c faults.WrongNumbers is refused = at_fault c faults.WrongNumbers is (refused (λ e. cc)) refl
reduct_refused t list answer x c faults.Count is refused = at_fault c faults.Count is (refused (λ e. cc)) refl
reduct_refused t list answer x c faults.AnotherAnswer is refused = at_fault c faults.AnotherAnswer is (refused (λ e. cc)) refl
reduct_refused t list answer x c (faults.Answer f) is refused = at_fault c (faults.Answer f) is (refused (λ e. cc)) refl
reduct_refused t list answer x c (faults.SameAnswer k) is refused = at_fault c (faults.SameAnswer k) is (refused (λ e. cc)) refl
reduct_refused t list answer x c (faults.Other k f) is refused = at_fault c (faults.Other k f) is (refused (λ e. cc)) refl
reduct_refused t list answer x c faults.Memory is refused = tt

pub reduct_pure : (t : DecisionTable) (list : List Numbered) (q : Question) (c : Conclusion) (x : Reduct) (fault : ReductFault) → IsRefusedBy (FailsReduct t list q c x) IsEarlierReductFault faults.Memory fault → IfRefused IsFreeOfMemory (entry_fault fault)
reduct_pure t list q c x faults.NotCarried refused = tt
reduct_pure t list q c x faults.WrongNumbers refused = tt
reduct_pure t list q c x faults.Count refused = tt
reduct_pure t list q c x faults.AnotherAnswer refused = λ e. cc
reduct_pure t list q c x (faults.Answer f) refused = first_is_pure t (stated x.numbers list) q x.answer f (refused (λ e. cc)).fails
reduct_pure t list q c x (faults.SameAnswer k) refused = λ e. cc
reduct_pure t list q c x (faults.Other k f) refused = let fails = (refused (λ e. cc)).fails in first_is_pure t (stated (without fails.number x.numbers) list) q fails.other f fails.first
reduct_pure t list q c x faults.Memory refused = tt

-- ---- the answer that is meant

found_ready : (t : DecisionTable) (kept : List KeptLine) (line : ℕ) (x : KeptLine) → AllByRecursion (IsReady t) kept → kept_line kept line ≡ Some x → IsReady t x
found_ready t kept line x ready found =
    let meant = λ (y : KeptLine). eqb y.block.line line in
    all_at (IsReady t) kept (position_or_len meant kept) x ready (sym (find_at meant kept) ∙ found)

abbrev pub with_list : List Numbered → Answer → List Numbered × Answer
with_list list x = (list, x)

-- what is told of an answer is of a list that stood and of one of the line's answers
record IsTold (stood : Option (List Numbered)) (body : Body) (place : ℕ) (list : List Numbered) (answer : Answer) : Type 0 where
  stood_is : stood ≡ Some list
  before : ℕ
  there : slice_get (answers_of body) before ≡ Some answer

told_of : (stood : Option (List Numbered)) (body : Body) (place : ℕ) (list : List Numbered) (answer : Answer) → answered stood body place ≡ Some (list, answer) → IsTold stood body place list answer
told_of (Some stood) (bodies.Answers xs) zero list answer e = absurd cc
told_of (Some stood) (bodies.Answers xs) (suc k) list answer e = by (slice_get xs k) refl e
  where
    by : (o : Option Answer) → slice_get xs k ≡ o → option_map (with_list stood) o ≡ Some (list, answer) → IsTold (Some stood) (bodies.Answers xs) (suc k) list answer
    by None is e = absurd cc
    by (Some x) is e =
        let both : with_list stood x ≡ with_list list answer = one_some (Some (with_list stood x)) (with_list stood x) (with_list list answer) refl e in
        record { stood_is = ap (λ (y : List Numbered × Answer). Some y.0) both; before = k; there = is ∙ ap (λ (y : List Numbered × Answer). Some y.1) both }
told_of None body place list answer e = absurd cc
told_of (Some stood) (bodies.Added n) place list answer e = absurd cc
told_of (Some stood) (bodies.Withdrawn n) place list answer e = absurd cc
told_of (Some stood) (bodies.Replaced n) place list answer e = absurd cc
told_of (Some stood) bodies.Undone place list answer e = absurd cc
told_of (Some stood) (bodies.Repaired x) place list answer e = absurd cc
told_of (Some stood) (bodies.RepairWide n note) place list answer e = absurd cc
told_of (Some stood) (bodies.Refused fault) place list answer e = absurd cc

-- what stood where an answer is meant, and the answer
pub record IsReadyAt (t : DecisionTable) (list : List Numbered) (answer : Answer) : Type 0 where
  pub lawful : IsLawfulIn t (statements_in list)
  pub rising : IsStrictlyIncreasing (numbers_in list)
  pub sound : IsSoundAnswer t (statements_in list) answer

pub answer_ready : (t : DecisionTable) (kept : List KeptLine) (line place : ℕ) (list : List Numbered) (answer : Answer) → AllByRecursion (IsReady t) kept → answer_at kept line place ≡ Some (list, answer) → IsReadyAt t list answer
answer_ready t kept line place list answer ready there = by (kept_line kept line) refl there
  where
    by : (o : Option KeptLine) → kept_line kept line ≡ o → answered_at o place ≡ Some (list, answer) → IsReadyAt t list answer
    by None is e = absurd cc
    by (Some x) is e =
        let told = told_of x.standing x.block.body place list answer e in
        let over = found_ready t kept line x ready is list told.stood_is in
        record { lawful = over.lawful; rising = over.rising; sound = all_at (IsSoundAnswer t (statements_in list)) (answers_of x.block.body) told.before answer over.sound told.there }

refused_there : (t : DecisionTable) (kept : List KeptLine) (x : Certificate) (list : List Numbered) (answer : Answer) (fault : EntryFault) → answer_at kept x.line x.place ≡ Some (list, answer) → IfRefused (RefusesOf t list answer x.reduct) fault → IfRefused (Refuses t kept x) fault
refused_there t kept x list answer (entries.Refused reason) there of = wrong_reduct list answer there of
refused_there t kept x list answer entries.Memory there of = tt

pub certificate_refused : (t : DecisionTable) (kept : List KeptLine) (x : Certificate) (list : List Numbered) (answer : Answer) (result : Result (Unit {0}) EntryFault) → answer_at kept x.line x.place ≡ Some (list, answer) → IfErr result (IfRefused (RefusesOf t list answer x.reduct)) → IfErr result (IfRefused (Refuses t kept x))
certificate_refused t kept x list answer (Ok u) there refused = tt
certificate_refused t kept x list answer (Err fault) there refused = refused_there t kept x list answer fault there refused

-- ---- several

pub all_begin : {X : Type 0} (P : X → Type 0) (xs : List X) → AllByRecursion P (take 0 xs)
all_begin {X} P xs = tt

pub all_more : {X : Type 0} (P : X → Type 0) (xs : List X) (k : ℕ) (d : X) → k < length xs → AllByRecursion P (take k xs) → P (get_or xs k d) → AllByRecursion P (take (k + 1) xs)
all_more {X} P xs k d within before here =
    let next : suc k ≡ k + 1 = omega arith in
    let split : take (k + 1) xs ≡ take k xs ++ get_or xs k d ∷ [] = ap (λ (n : ℕ). take n xs) (sym next) ∙ take-suc xs k d within in
    subst (AllByRecursion P) (sym split) (all-append P (take k xs) (get_or xs k d ∷ []) before (here, tt))

pub all_end : {X : Type 0} (P : X → Type 0) (xs : List X) (k : ℕ) → length xs ≤ k → AllByRecursion P (take k xs) → AllByRecursion P xs
all_end {X} P xs k past all = subst (AllByRecursion P) (take_all k xs past) all

pub first_unproved : (t : DecisionTable) (kept : List KeptLine) (xs : List Certificate) (k block : ℕ) (x : Certificate) (rejection : Rejection) → k < length xs → x ≡ get_or xs k x → block ≡ k + 1 → AllByRecursion (IsProvedCertificate t kept) (take k xs) → (rejection.block ≡ block) × Refuses t kept x rejection.reason → IsFirstUnproved t kept xs rejection
first_unproved t kept xs k block x rejection within here counted before refused = record {
  before = take k xs;
  certificate = x;
  behind = drop (suc k) xs;
  split = sym (take-append-drop k xs) ∙ ap (λ (ys : List Certificate). take k xs ++ ys) (drop-cons xs k x within ∙ ap (λ (y : Certificate). y ∷ drop (suc k) xs) (sym here));
  proved = before;
  block = let long = length-take-le k xs (omega (arith, within)) in let p = refused.0 in omega (arith, p, counted, long);
  refused = refused.1;
}

pub block_refused : (t : DecisionTable) (kept : List KeptLine) (x : Certificate) (block : ℕ) (fault : EntryFault) → IfRefused (Refuses t kept x) fault → IfRejected (λ rejection. (rejection.block ≡ block) × Refuses t kept x rejection.reason) (refused_error block fault)
block_refused t kept x block (entries.Refused reason) refused = (refl, refused)
block_refused t kept x block entries.Memory refused = tt

pub block_pure : (block : ℕ) (fault : EntryFault) → IfRefused IsFreeOfMemory fault → HoldsNoMemory (refused_error block fault)
block_pure block (entries.Refused reason) pure = pure
block_pure block entries.Memory pure = tt

pub rejects : (t : DecisionTable) (kept : List KeptLine) (xs : List Certificate) (k block : ℕ) (x : Certificate) (error : ReportError) → k < length xs → x ≡ get_or xs k x → block ≡ k + 1 → AllByRecursion (IsProvedCertificate t kept) (take k xs) → IfRejected (λ rejection. (rejection.block ≡ block) × Refuses t kept x rejection.reason) error → IfRejected (IsFirstUnproved t kept xs) error
rejects t kept xs k block x (report_errors.Rejected rejection) within here counted before refused = first_unproved t kept xs k block x rejection within here counted before refused
rejects t kept xs k block x report_errors.Memory within here counted before refused = tt

-- ---- what is proved is a reduct

-- an answer that has its proof, and concludes this, answers so
answers_so : (t : DecisionTable) (list : List Statement) (q : Question) (v : Verdict) (c : Conclusion) → conclusion_of v ≡ Some c → IsTrueVerdict t list q v → Answers t list q c
answers_so t list q (verdicts.Yes proof) c is told = subst (Answers t list q) (one_some (Some conclusions.Yes) conclusions.Yes c refl is) told
answers_so t list q (verdicts.No proof) c is told = subst (Answers t list q) (one_some (Some conclusions.No) conclusions.No c refl is) told
answers_so t list q (verdicts.Contradiction proof) c is told = subst (Answers t list q) (one_some (Some conclusions.Contradiction) conclusions.Contradiction c refl is) told
answers_so t list q (verdicts.Wide system note) c is told = absurd (let p = is in cc)

concludes_not_wide : (v : Verdict) (c : Conclusion) → conclusion_of v ≡ Some c → is_wide v ≡ false
concludes_not_wide (verdicts.Yes proof) c is = refl
concludes_not_wide (verdicts.No proof) c is = refl
concludes_not_wide (verdicts.Contradiction proof) c is = refl
concludes_not_wide (verdicts.Wide system note) c is = absurd (let p = is in cc)

pub proved_are_reducts : (t : DecisionTable) (kept : List KeptLine) (x : Certificate) → AllByRecursion (IsReady t) kept → (p : IsProvedCertificate t kept x) → IsReduct t p.list p.answer.question p.proved.conclusion x.reduct.numbers
proved_are_reducts t kept x ready p =
    let at = answer_ready t kept x.line x.place p.list p.answer ready p.there in
    let c = p.proved.conclusion in
    let list = statements_in p.list in
    let has_proof = proved t list p.answer (concludes_not_wide p.answer.verdict c p.proved.concludes) at.sound in
    let whole = answers_so t list p.answer.question p.answer.verdict c p.proved.concludes (answer_is_true t list p.answer.question p.answer at.lawful at.sound.asked has_proof) in
    proved_is_reduct t p.list p.answer.question c x.reduct at.lawful at.sound.asked whole p.proved.reduct
