-- That bytes are the text of one report at most, and are rejected for one first fault at most.
use Rattle.std.proofs.Common.{Option, Bool, ◌≡◌, ◌⊎◌, inl, inr, ℕ, ◌+◌, true, false, List, [], ◌∷◌, ◌++◌, length, drop, Some, Result, Ok, Err, refl, sym, ap, ◌∙◌, subst, arith}
use Rattle.std.specs.Prelude.{slice_get}
use Rattle.ror_text.specs.FirstFault.{IsFirst}
use Rattle.ror_text.specs.Cursor.{Cursor, cursor_at}
use Rattle.ror_text.proofs.FirstFaultLemmas.{first_at}
use Rattle.ror_statement.specs.declared.statement.Statement.{Statement}
use Rattle.ror_statement.specs.declared.question.Question.{Question}
use Rattle.ror_statement.specs.declared.question.Conclusion.{Conclusion}
use Rattle.ror_statement.specs.declared.question.Conclusion.TheVariants as conclusions
use Rattle.ror_table.specs.Table.{DecisionTable}
use Rattle.ror_system.specs.System.{LinearSystem}
use Rattle.ror_system.specs.declared.reject.Reject.{Reject}
use Rattle.ror_session.specs.declared.session.Line.{Line}
use Rattle.ror_proof.specs.declared.answer.Part.{Part}
use Rattle.ror_proof.specs.declared.answer.Proof.{Proof}
use Rattle.ror_proof.specs.declared.answer.Verdict.{Verdict}
use Rattle.ror_proof.specs.declared.answer.Verdict.TheVariants as verdicts
use Rattle.ror_proof.specs.declared.answer.Answer.{Answer}
use Rattle.ror_check.specs.declared.fault.CheckFault.{CheckFault}
use Rattle.ror_check.specs.declared.fault.CheckFault.TheVariants as checks
use Rattle.ror_check.specs.declared.fault.RepairCheckFault.{RepairCheckFault}
use Rattle.ror_check.specs.Proof.{is_wide, base_system, question_systems_of}
use Rattle.ror_check.specs.Faults.{FailsPart, FailsProof, FailsVerdict, FailsAnswer, FailsAnswerAt, fault_stage, fault_place, IsEarlierFault}
use Rattle.ror_check.specs.Faults as check_faults
use Rattle.ror_check.proofs.RepairFirstFaults.{one_reason, one_repair_fault}
use Rattle.ror_report.specs.declared.block.Block.{Block}
use Rattle.ror_report.specs.declared.block.Body.{Body}
use Rattle.ror_report.specs.declared.block.Body.TheVariants as bodies
use Rattle.ror_report.specs.Reading.{begins_end, block_at, end_at, header_at}
use Rattle.ror_report.proofs.ReportLemmas.{one_spelling}
use Rattle.ror_report.specs.Text.{answers_of}
use Rattle.ror_history.specs.History.{Revisions, standing, statements_of}
use Rattle.ror_bench.specs.declared.bench.BlockFault.{BlockFault}
use Rattle.ror_bench.specs.declared.bench.BlockFault.TheVariants as faults
use Rattle.ror_bench.specs.declared.report.Reason.{Reason}
use Rattle.ror_bench.specs.declared.report.Rejection.{Rejection}
use Rattle.ror_bench.specs.Bench.{Workbench}
use Rattle.ror_bench.specs.Blocks.{IsProvedBlock}
use Rattle.ror_bench.specs.Faults.{FailsRepairOf, FailsBlock, block_stage, block_place, IsEarlierBlockFault}
use Rattle.ror_bench.specs.Reports.{accepted_of, revisions_then, misread_reason, block_reason, RejectsNext, RejectsEnd, IsRejectedFrom, end_misread, ends_early, block_misread, refused, miscounted, one_too_many, at_line, at_end, later, not_utf8, no_header, in_blocks}
use Rattle.ror_bench.specs.Laws.{OneCount, OneRejection}
use Rattle.ror_bench.proofs.AnswerLemmas.{block_passes, no_answer_of_repair}
use Rattle.ror_bench.proofs.ReportProofs.{one_read}

-- ---- one count

pub one_count : OneCount
one_count bench lines bytes x y table first second =
    let blocks = one_spelling bench.table first.blocks second.blocks table first.printable second.printable (sym first.text ∙ second.text) in
    first.counted ∙ ap accepted_of blocks ∙ sym second.counted

-- ---- an answer has one first fault

pub one_some : {A : Type 0} (r : Option A) (x y : A) → r ≡ Some x → r ≡ Some y → x ≡ y
one_some r x y e f = (let both = sym e ∙ f in cc)

one_part : (systems : List LinearSystem) (parts : List Part) (k : ℕ) (q r : Reject) → FailsPart systems parts k q → FailsPart systems parts k r → q ≡ r
one_part systems parts k q r first second =
    let e = first.counted in
    let f = second.counted in
    let place : second.before ≡ first.before = omega arith in
    let part : second.part ≡ first.part = one_some (slice_get parts first.before) second.part first.part (ap (slice_get parts) (sym place) ∙ second.part_there) first.part_there in
    let m = first.numbered in
    let n = second.numbered in
    let number : second.part.at ≡ first.part.at = ap (λ (p : Part). p.at) part in
    let system_place : second.systems_before ≡ first.systems_before = omega arith in
    let system : second.system ≡ first.system = one_some (slice_get systems first.systems_before) second.system first.system (ap (slice_get systems) (sym system_place) ∙ second.system_there) first.system_there in
    one_reason first.system first.part.body q r first.rejected
    (subst (λ (s : LinearSystem). check_faults.IsRejectedFor s first.part.body r) system (subst (λ (p : Part). check_faults.IsRejectedFor second.system p.body r) part second.rejected))

module _ (t : DecisionTable) (list : List Statement) (q : Question) (c : Conclusion) (proof : Proof) where
  one_proof_fault : (f g : CheckFault) → FailsProof t list q c proof f → FailsProof t list q c proof g → fault_stage f ≡ fault_stage g → fault_place f ≡ fault_place g → f ≡ g
  one_proof_fault checks.WrongQuestion g first second stage place = absurd first
  one_proof_fault checks.Memory g first second stage place = absurd first
  one_proof_fault f checks.WrongQuestion first second stage place = absurd second
  one_proof_fault f checks.Memory first second stage place = absurd second
  one_proof_fault checks.WrongVerdict checks.WrongVerdict first second stage place = refl
  one_proof_fault checks.PartCount checks.PartCount first second stage place = refl
  one_proof_fault (checks.Base r) (checks.Base s) first second stage place = ap (λ (x : Reject). checks.Base x) (one_reason (base_system t list) proof.base r s first second)
  one_proof_fault (checks.Part k r) (checks.Part l s) first second stage place =
      let here = subst (λ (n : ℕ). FailsPart (question_systems_of t list q) proof.parts n s) (sym place) second in
      ap (λ (n : ℕ). checks.Part n r) place ∙ ap (λ (x : Reject). checks.Part l x) (one_part (question_systems_of t list q) proof.parts k r s first here)
  one_proof_fault f g first second stage place = absurd (omega arith)

-- a verdict that concludes something
one_verdict_fault : (t : DecisionTable) (list : List Statement) (q : Question) (v : Verdict) (f g : CheckFault) → is_wide v ≡ false → FailsVerdict t list q v f → FailsVerdict t list q v g → fault_stage f ≡ fault_stage g → fault_place f ≡ fault_place g → f ≡ g
one_verdict_fault t list q (verdicts.Yes proof) f g concludes first second stage place = one_proof_fault t list q conclusions.Yes proof f g first second stage place
one_verdict_fault t list q (verdicts.No proof) f g concludes first second stage place = one_proof_fault t list q conclusions.No proof f g first second stage place
one_verdict_fault t list q (verdicts.Contradiction proof) f g concludes first second stage place = one_proof_fault t list q conclusions.Contradiction proof f g first second stage place
one_verdict_fault t list q (verdicts.Wide system note) f g concludes first second stage place = absurd (let no = concludes in cc)

pub one_answer_fault : (t : DecisionTable) (list : List Statement) (q : Question) (x : Answer) (f g : CheckFault) → is_wide x.verdict ≡ false → FailsAnswer t list q x f → FailsAnswer t list q x g → fault_stage f ≡ fault_stage g → fault_place f ≡ fault_place g → f ≡ g
one_answer_fault t list q x checks.WrongQuestion checks.WrongQuestion concludes first second stage place = refl
one_answer_fault t list q x checks.WrongQuestion g concludes first second stage place = absurd (omega arith)
one_answer_fault t list q x f checks.WrongQuestion concludes first second stage place = absurd (omega arith)
one_answer_fault t list q x f g concludes first second stage place = one_verdict_fault t list q x.verdict f g concludes first second stage place

one_answer_at : (t : DecisionTable) (list : List Statement) (xs : List Answer) (k : ℕ) (f g : CheckFault) → FailsAnswerAt t list xs k f → FailsAnswerAt t list xs k g → f ≡ g
one_answer_at t list xs k f g first second =
    let e = first.counted in
    let m = second.counted in
    let place : second.before ≡ first.before = omega arith in
    let answer : second.answer ≡ first.answer = one_some (slice_get xs first.before) second.answer first.answer (ap (slice_get xs) (sym place) ∙ second.there) first.there in
    let here = subst (λ (x : Answer). IsFirst (FailsAnswer t list x.question x) IsEarlierFault g) answer second.first in
    let at = first_at (FailsAnswer t list first.answer.question first.answer) fault_stage fault_place f g first.first here in
    one_answer_fault t list first.answer.question first.answer f g first.concludes first.first.fails here.fails at.0 at.1

-- ---- a block has one first fault

module _ (t : DecisionTable) (r : Revisions) (line : Line) (block : Block) where
  one_of_repair : (body : Body) (f g : RepairCheckFault) → FailsRepairOf t (standing r) body f → FailsRepairOf t (standing r) body g → f ≡ g
  one_of_repair (bodies.Repaired kept) f g first second = one_repair_fault t (standing r) kept f g first second
  one_of_repair (bodies.RepairWide n note) f g first second = absurd first
  one_of_repair (bodies.Added n) f g first second = absurd first
  one_of_repair (bodies.Withdrawn n) f g first second = absurd first
  one_of_repair (bodies.Replaced n) f g first second = absurd first
  one_of_repair bodies.Undone f g first second = absurd first
  one_of_repair (bodies.Answers xs) f g first second = absurd first
  one_of_repair (bodies.Refused refusal) f g first second = absurd first

  one_of_stage : (f g : BlockFault) → FailsBlock t r line block f → FailsBlock t r line block g → block_stage f ≡ block_stage g → block_place f ≡ block_place g → f ≡ g
  one_of_stage faults.Memory g first second stage place = absurd first
  one_of_stage f faults.Memory first second stage place = absurd second
  one_of_stage faults.WrongBlock faults.WrongBlock first second stage place = refl
  one_of_stage (faults.Answer k f) (faults.Answer l g) first second stage place =
      let here = subst (λ (n : ℕ). FailsBlock t r line block (faults.Answer n g)) (sym place) second in
      ap (λ (n : ℕ). faults.Answer n f) place ∙ ap (λ (x : CheckFault). faults.Answer l x) (one_answer_at t (statements_of r) (answers_of block.body) k f g first here)
  one_of_stage (faults.Repair f) (faults.Repair g) first second stage place = ap (λ (x : RepairCheckFault). faults.Repair x) (one_of_repair block.body f g first second)
  one_of_stage (faults.Answer k f) (faults.Repair g) first second stage place = absurd (no_answer_of_repair t r block.body k f g first second)
  one_of_stage (faults.Repair f) (faults.Answer k g) first second stage place = absurd (no_answer_of_repair t r block.body k g f second first)
  one_of_stage f g first second stage place = absurd (omega arith)

  pub one_block_fault : (f g : BlockFault) → IsFirst (FailsBlock t r line block) IsEarlierBlockFault f → IsFirst (FailsBlock t r line block) IsEarlierBlockFault g → f ≡ g
  one_block_fault f g first second =
      let at = first_at (FailsBlock t r line block) block_stage block_place f g first second in
      one_of_stage f g first.fails second.fails at.0 at.1

-- ---- what stands at a place has one reason

pub one_err : {A F : Type 0} (r : Result A F) (f g : F) → r ≡ Err f → r ≡ Err g → f ≡ g
one_err r f g first second = (let both = sym first ∙ second in cc)

err_not_ok : {A F : Type 0} (r : Result A F) (f : F) (x : A) → r ≡ Err f → r ≡ Ok x → ⊥
err_not_ok r f x first second = absurd (let both = sym first ∙ second in cc)

pub true_not_false : (b : Bool) → b ≡ true → b ≡ false → ⊥
true_not_false b begins no_end = absurd (let both = sym begins ∙ no_end in cc)

module _ (t : DecisionTable) (r : Revisions) (line : Line) (bytes : List ℕ) (from : ℕ) where
  next_reason : (p q : Reason) → RejectsNext t r line bytes from p → RejectsNext t r line bytes from q → p ≡ q
  next_reason p q (end_misread f begins read is) (end_misread g begins' read' is') = is ∙ ap (misread_reason bytes) (one_err (end_at (cursor_at bytes from)) f g read read') ∙ sym is'
  next_reason p q (end_misread f begins read is) (ends_early n begins' read' is') = absurd (err_not_ok (end_at (cursor_at bytes from)) f n read read')
  next_reason p q (end_misread f begins read is) (block_misread g no_end read' is') = absurd (true_not_false (begins_end (drop from bytes)) begins no_end)
  next_reason p q (end_misread f begins read is) (refused b after g no_end read' fails is') = absurd (true_not_false (begins_end (drop from bytes)) begins no_end)
  next_reason p q (ends_early n begins read is) (end_misread g begins' read' is') = absurd (err_not_ok (end_at (cursor_at bytes from)) g n read' read)
  next_reason p q (ends_early n begins read is) (ends_early m begins' read' is') = is ∙ sym is'
  next_reason p q (ends_early n begins read is) (block_misread g no_end read' is') = absurd (true_not_false (begins_end (drop from bytes)) begins no_end)
  next_reason p q (ends_early n begins read is) (refused b after g no_end read' fails is') = absurd (true_not_false (begins_end (drop from bytes)) begins no_end)
  next_reason p q (block_misread f no_end read is) (end_misread g begins read' is') = absurd (true_not_false (begins_end (drop from bytes)) begins no_end)
  next_reason p q (block_misread f no_end read is) (ends_early m begins read' is') = absurd (true_not_false (begins_end (drop from bytes)) begins no_end)
  next_reason p q (block_misread f no_end read is) (block_misread g no_end' read' is') = is ∙ ap (misread_reason bytes) (one_err (block_at t (cursor_at bytes from)) f g read read') ∙ sym is'
  next_reason p q (block_misread f no_end read is) (refused b after g no_end' read' fails is') = absurd (err_not_ok (block_at t (cursor_at bytes from)) f (b, cursor_at bytes after) read read')
  next_reason p q (refused b after f no_end read fails is) (end_misread g begins read' is') = absurd (true_not_false (begins_end (drop from bytes)) begins no_end)
  next_reason p q (refused b after f no_end read fails is) (ends_early m begins read' is') = absurd (true_not_false (begins_end (drop from bytes)) begins no_end)
  next_reason p q (refused b after f no_end read fails is) (block_misread g no_end' read' is') = absurd (err_not_ok (block_at t (cursor_at bytes from)) g (b, cursor_at bytes after) read' read)
  next_reason p q (refused b after f no_end read fails is) (refused c later_on g no_end' read' fails' is') =
      let same = one_read (block_at t (cursor_at bytes from)) (b, cursor_at bytes after) (c, cursor_at bytes later_on) read read' in
      let block : c ≡ b = ap (λ (x : Block × Cursor). x.0) same in
      let here = subst (λ (x : Block). IsFirst (FailsBlock t r line x) IsEarlierBlockFault g) block fails' in
      is ∙ ap block_reason (one_block_fault t r line b f g fails here) ∙ sym is'

  -- a block that is proved is not rejected
  next_not_proved : (p : Reason) (b : Block) (after : ℕ) → begins_end (drop from bytes) ≡ false → block_at t (cursor_at bytes from) ≡ Ok (b, cursor_at bytes after) → IsProvedBlock t r line b → RejectsNext t r line bytes from p → ⊥
  next_not_proved p b after no_end read proved (end_misread f begins read' is) = true_not_false (begins_end (drop from bytes)) begins no_end
  next_not_proved p b after no_end read proved (ends_early n begins read' is) = true_not_false (begins_end (drop from bytes)) begins no_end
  next_not_proved p b after no_end read proved (block_misread f no_end' read' is) = err_not_ok (block_at t (cursor_at bytes from)) f (b, cursor_at bytes after) read' read
  next_not_proved p b after no_end read proved (refused c later_on f no_end' read' fails is) =
      let same = one_read (block_at t (cursor_at bytes from)) (b, cursor_at bytes after) (c, cursor_at bytes later_on) read read' in
      let block : c ≡ b = ap (λ (x : Block × Cursor). x.0) same in
      block_passes t r line b f proved (subst (λ (x : Block). FailsBlock t r line x f) block fails.fails)

end_reason : (t : DecisionTable) (bytes : List ℕ) (from count : ℕ) (p q : Reason) → RejectsEnd t bytes from count p → RejectsEnd t bytes from count q → p ≡ q
end_reason t bytes from count p q (end_misread f begins read is) (end_misread g begins' read' is') = is ∙ ap (misread_reason bytes) (one_err (end_at (cursor_at bytes from)) f g read read') ∙ sym is'
end_reason t bytes from count p q (end_misread f begins read is) (miscounted n begins' read' other is') = absurd (err_not_ok (end_at (cursor_at bytes from)) f n read read')
end_reason t bytes from count p q (end_misread f begins read is) (block_misread g no_end read' is') = absurd (true_not_false (begins_end (drop from bytes)) begins no_end)
end_reason t bytes from count p q (end_misread f begins read is) (one_too_many b after no_end read' is') = absurd (true_not_false (begins_end (drop from bytes)) begins no_end)
end_reason t bytes from count p q (miscounted n begins read other is) (end_misread g begins' read' is') = absurd (err_not_ok (end_at (cursor_at bytes from)) g n read' read)
end_reason t bytes from count p q (miscounted n begins read other is) (miscounted m begins' read' other' is') = is ∙ sym is'
end_reason t bytes from count p q (miscounted n begins read other is) (block_misread g no_end read' is') = absurd (true_not_false (begins_end (drop from bytes)) begins no_end)
end_reason t bytes from count p q (miscounted n begins read other is) (one_too_many b after no_end read' is') = absurd (true_not_false (begins_end (drop from bytes)) begins no_end)
end_reason t bytes from count p q (block_misread f no_end read is) (end_misread g begins read' is') = absurd (true_not_false (begins_end (drop from bytes)) begins no_end)
end_reason t bytes from count p q (block_misread f no_end read is) (miscounted m begins read' other' is') = absurd (true_not_false (begins_end (drop from bytes)) begins no_end)
end_reason t bytes from count p q (block_misread f no_end read is) (block_misread g no_end' read' is') = is ∙ ap (misread_reason bytes) (one_err (block_at t (cursor_at bytes from)) f g read read') ∙ sym is'
end_reason t bytes from count p q (block_misread f no_end read is) (one_too_many b after no_end' read' is') = absurd (err_not_ok (block_at t (cursor_at bytes from)) f (b, cursor_at bytes after) read read')
end_reason t bytes from count p q (one_too_many b after no_end read is) (end_misread g begins read' is') = absurd (true_not_false (begins_end (drop from bytes)) begins no_end)
end_reason t bytes from count p q (one_too_many b after no_end read is) (miscounted m begins read' other' is') = absurd (true_not_false (begins_end (drop from bytes)) begins no_end)
end_reason t bytes from count p q (one_too_many b after no_end read is) (block_misread g no_end' read' is') = absurd (err_not_ok (block_at t (cursor_at bytes from)) g (b, cursor_at bytes after) read' read)
end_reason t bytes from count p q (one_too_many b after no_end read is) (one_too_many c later_on no_end' read' is') = is ∙ sym is'

-- ---- one rejection

same_rejection : (x y : Rejection) → x.block ≡ y.block → x.reason ≡ y.reason → x ≡ y
same_rejection x y block reason = ap (λ n. record { block = n; reason = x.reason }) block ∙ ap (λ p. record { block = y.block; reason = p }) reason

-- the block that stands at a place is proved, and the fault is in what follows
record IsPast (bench : Workbench) (bytes : List ℕ) (x : Rejection) (before : List (Line × Block)) (line : Line) (lines : List Line) (from : ℕ) : Type 0 where
  block : Block
  after : ℕ
  no_end : begins_end (drop from bytes) ≡ false
  read : block_at bench.table (cursor_at bytes from) ≡ Ok (block, cursor_at bytes after)
  proved : IsProvedBlock bench.table (revisions_then bench before line.desk) line block
  more : IsRejectedFrom bench bytes x (before ++ (line, block) ∷ []) lines after

abbrev IsHere : Workbench → List ℕ → Rejection → List (Line × Block) → Line → ℕ → Type 0
IsHere bench bytes x before line from = (x.block ≡ 1 + length before) × RejectsNext bench.table (revisions_then bench before line.desk) line bytes from x.reason

-- a rejection is of the last line where no line is left, and else of the next block or later
abbrev IsOpened : Workbench → List ℕ → Rejection → List (Line × Block) → List Line → ℕ → Type 0
IsOpened bench bytes x before [] from = (x.block ≡ 1 + length before) × RejectsEnd bench.table bytes from (length before) x.reason
IsOpened bench bytes x before (line ∷ lines) from = IsHere bench bytes x before line from ⊎ IsPast bench bytes x before line lines from

opened : (bench : Workbench) (bytes : List ℕ) (x : Rejection) (before : List (Line × Block)) (lines : List Line) (from : ℕ) → IsRejectedFrom bench bytes x before lines from → IsOpened bench bytes x before lines from
opened bench bytes x _ _ _ (at_line before line lines from number rejects) = inl (number, rejects)
opened bench bytes x _ _ _ (at_end before from number rejects) = (number, rejects)
opened bench bytes x _ _ _ (later before line lines from b after no_end read proved more) = inr (record { block = b; after = after; no_end = no_end; read = read; proved = proved; more = more })

module _ (bench : Workbench) (bytes : List ℕ) (x y : Rejection) where
  one_opened : (before : List (Line × Block)) (line : Line) (lines : List Line) (from : ℕ)
      → ((before : List (Line × Block)) (from : ℕ) → IsRejectedFrom bench bytes x before lines from → IsRejectedFrom bench bytes y before lines from → x ≡ y)
      → IsHere bench bytes x before line from ⊎ IsPast bench bytes x before line lines from → IsHere bench bytes y before line from ⊎ IsPast bench bytes y before line lines from → x ≡ y
  one_opened before line lines from rest (inl first) (inl second) =
      same_rejection x y (first.0 ∙ sym second.0) (next_reason bench.table (revisions_then bench before line.desk) line bytes from x.reason y.reason first.1 second.1)
  one_opened before line lines from rest (inl first) (inr second) =
      absurd (next_not_proved bench.table (revisions_then bench before line.desk) line bytes from x.reason second.block second.after second.no_end second.read second.proved first.1)
  one_opened before line lines from rest (inr first) (inl second) =
      absurd (next_not_proved bench.table (revisions_then bench before line.desk) line bytes from y.reason first.block first.after first.no_end first.read first.proved second.1)
  one_opened before line lines from rest (inr first) (inr second) =
      let same = one_read (block_at bench.table (cursor_at bytes from)) (first.block, cursor_at bytes first.after) (second.block, cursor_at bytes second.after) first.read second.read in
      let block : second.block ≡ first.block = ap (λ (p : Block × Cursor). p.0) same in
      let after : second.after ≡ first.after = ap (λ (p : Block × Cursor). p.1.place) same in
      let more = subst (λ (n : ℕ). IsRejectedFrom bench bytes y (before ++ (line, first.block) ∷ []) lines n) after (subst (λ (b : Block). IsRejectedFrom bench bytes y (before ++ (line, b) ∷ []) lines second.after) block second.more) in
      rest (before ++ (line, first.block) ∷ []) first.after first.more more

  one_from : (lines : List Line) (before : List (Line × Block)) (from : ℕ) → IsRejectedFrom bench bytes x before lines from → IsRejectedFrom bench bytes y before lines from → x ≡ y
  one_from [] before from first second =
      let a = opened bench bytes x before [] from first in
      let b = opened bench bytes y before [] from second in
      same_rejection x y (a.0 ∙ sym b.0) (end_reason bench.table bytes from (length before) x.reason y.reason a.1 b.1)
  one_from (line ∷ lines) before from first second =
      one_opened before line lines from (one_from lines) (opened bench bytes x before (line ∷ lines) from first) (opened bench bytes y before (line ∷ lines) from second)

pub one_rejection : OneRejection
one_rejection bench lines bytes x y (not_utf8 none is) (not_utf8 none' is') = is ∙ sym is'
one_rejection bench lines bytes x y (not_utf8 none is) (no_header text header is') = absurd (none text)
one_rejection bench lines bytes x y (not_utf8 none is) (in_blocks text start header from) = absurd (none text)
one_rejection bench lines bytes x y (no_header text header is) (not_utf8 none is') = absurd (none text)
one_rejection bench lines bytes x y (no_header text header is) (no_header text' header' is') = is ∙ sym is'
one_rejection bench lines bytes x y (no_header text header is) (in_blocks text' start header' from) = absurd (let both = sym header ∙ header' in cc)
one_rejection bench lines bytes x y (in_blocks text start header from) (not_utf8 none is') = absurd (none text)
one_rejection bench lines bytes x y (in_blocks text start header from) (no_header text' header' is') = absurd (let both = sym header' ∙ header in cc)
one_rejection bench lines bytes x y (in_blocks text start header from) (in_blocks text' start' header' from') =
    let same : start' ≡ start = one_some (header_at bytes) start' start header' header in
    one_from bench bytes x y lines [] start from (subst (IsRejectedFrom bench bytes y [] lines) same from')
