-- The answers of a body: to which questions they are, which are accepted, and for what a body is refused.
use Rattle.std.proofs.Common.{◌≡◌, ◌≢◌, inl, inr, ℕ, ◌+◌, ◌<◌, ◌≤◌, true, List, [], ◌∷◌, ◌++◌, length, map, take, get_or, Result, Ok, Err, refl, sym, ap, ◌∙◌, subst, arith}
use Rattle.std.specs.Prelude.{IsTrue, OnOk, IfErr, IfSome}
use Rattle.std.specs.List.{AllByRecursion, AllZip}
use Rattle.std.proofs.lemmas.List.{take_all, take_more, map_more}
use Rattle.ror_text.specs.FirstFault.{IsFirst, IsRefusedBy}
use Rattle.ror_text.proofs.FirstFaultLemmas.{not_earlier, refused_not_passed, refused_by_memory}
use Rattle.ror_statement.specs.declared.statement.Statement.{Statement}
use Rattle.ror_statement.specs.declared.statement.Numbered.{Numbered}
use Rattle.ror_statement.specs.declared.question.Question.{Question}
use Rattle.ror_table.specs.Table.{DecisionTable}
use Rattle.ror_value.specs.Over.{IsLawfulIn, IsAskedIn}
use Rattle.ror_session.specs.declared.session.Asked.{Asked}
use Rattle.ror_session.specs.declared.session.Line.{Line}
use Rattle.ror_session.specs.declared.session.Command.{Command}
use Rattle.ror_session.specs.declared.session.Command.TheVariants.{State, Withdraw, Replace, Repair, Undo, Ask}
use Rattle.ror_proof.specs.declared.answer.Answer.{Answer}
use Rattle.ror_check.specs.declared.fault.CheckFault.{CheckFault}
use Rattle.ror_check.specs.declared.fault.AnswersFault.TheVariants as checks
use Rattle.ror_check.specs.Proof.{IsWideOrProved, IsWideOrTrue}
use Rattle.ror_check.specs.declared.fault.RepairCheckFault.{RepairCheckFault}
use Rattle.ror_check.specs.Faults.{FailsAnswerAt, FailsAnswers, IsEarlierAnswersFault}
use Rattle.ror_check.proofs.ManyAnswers.{wide_or_true, proved_unless_wide as answer_unless_wide}
use Rattle.ror_check.proofs.FirstFaults.{passes_each_test}
use Rattle.ror_text.proofs.Everywhere.{all_at}
use Rattle.ror_report.specs.declared.block.Block.{Block}
use Rattle.ror_report.specs.declared.block.Body.{Body}
use Rattle.ror_report.specs.declared.block.Body.TheVariants as bodies
use Rattle.ror_report.specs.declared.block.LineFault.{LineFault}
use Rattle.ror_report.specs.Text.{answers_of}
use Rattle.ror_history.specs.History.{Revisions, standing, statements_of}
use Rattle.ror_bench.specs.Allowed.{Allowing, IsTo, IsProvedUnlessWide, IsRepairProvedUnlessWide, of_form, proved_unless_wide}
use Rattle.ror_bench.specs.declared.bench.BlockFault.{BlockFault}
use Rattle.ror_bench.specs.declared.bench.BlockFault.TheVariants as faults
use Rattle.ror_bench.specs.declared.bench.Passed.{Passed}
use Rattle.ror_bench.specs.Names.{questions_of}
use Rattle.ror_bench.specs.Blocks.{AreAnswers, IsBodyOf, refused, taken, IsBlockOf, IsProvedBlock, IsTrueBlock}
use Rattle.ror_bench.specs.Faults.{FailsRepairOf, FailsBlock, block_stage, block_place, IsEarlierBlockFault}
use Rattle.ror_bench.specs.declared.stop.LineStop.{LineStop}
use Rattle.ror_bench.specs.declared.stop.LineStop.TheVariants as stops
use Rattle.ror_bench.specs.Steps.{stopping_fault, RefusesAnswers, RefusesBody, RefusesCommand}
use Rattle.ror_bench.proofs.NameLemmas.{questions_valid}
use Rattle.ror_bench.proofs.CommandLemmas.{asked_taken, asked_refused}
use Rattle.ror_bench.proofs.RepairLemmas.{of_repair_of_proved, repair_true, repair_passes_block}

-- ---- to which questions answers are

pub to_more : (qs : List Question) (xs : List Answer) (i : ℕ) (x : Answer) (d : Question) → length qs ≡ length xs → i < length xs → x ≡ get_or xs i x → map (λ (y : Answer). y.question) (take i xs) ≡ take i qs → x.question ≡ get_or qs i d → map (λ (y : Answer). y.question) (take (i + 1) xs) ≡ take (i + 1) qs
to_more qs xs i x d long within is so_far same =
    let here : get_or xs i x ≡ x = sym is in
    map_more (λ (y : Answer). y.question) xs i x within ∙ ap (λ (y : Answer). map (λ (y : Answer). y.question) (take i xs) ++ y.question ∷ []) here ∙ ap (λ (q : Question). map (λ (y : Answer). y.question) (take i xs) ++ q ∷ []) same
    ∙ ap (λ (l : List Question). l ++ get_or qs i d ∷ []) so_far ∙ sym (take_more qs i d (omega arith))

pub to_all : (qs : List Question) (xs : List Answer) (i : ℕ) → length qs ≡ length xs → length xs ≤ i → map (λ (y : Answer). y.question) (take i xs) ≡ take i qs → (IsTrue true → map (λ (y : Answer). y.question) xs ≡ qs) × (map (λ (y : Answer). y.question) xs ≡ qs → IsTrue true)
to_all qs xs i long past so_far =
    let all : map (λ (y : Answer). y.question) xs ≡ qs = ap (map (λ (y : Answer). y.question)) (sym (take_all i xs past)) ∙ so_far ∙ take_all i qs (omega arith) in
    (λ yes. all, λ e. refl)

-- ---- accepted answers

abbrev IsAccepted : DecisionTable → List Statement → Answer → Type 0
IsAccepted t list x = IsWideOrProved t list x.question x.verdict

pub each_proved : (t : DecisionTable) (list : List Statement) (qs : List Question) (xs : List Answer) → map (λ (y : Answer). y.question) xs ≡ qs → AllByRecursion (IsAccepted t list) xs → AllZip (IsProvedUnlessWide t list) qs xs
each_proved t list [] [] e all = tt
each_proved t list [] (x ∷ xs) e all = absurd cc
each_proved t list (q ∷ qs) [] e all = absurd cc
each_proved t list (q ∷ qs) (x ∷ xs) e all =
    let first : x.question ≡ q = cc in
    let others : map (λ (y : Answer). y.question) xs ≡ qs = cc in
    (record { question = first; proof = subst (λ (u : Question). IsWideOrProved t list u x.verdict) first all.0 }, each_proved t list qs xs others all.1)

-- answers to questions, each allowed in some way, are to these questions
asked_of : (H : DecisionTable → List Statement → Question → Answer → Type 0) (t : DecisionTable) (list : List Statement) → ((q : Question) (x : Answer) → H t list q x → x.question ≡ q) → (qs : List Question) (xs : List Answer) → AllZip (H t list) qs xs → map (λ (y : Answer). y.question) xs ≡ qs
asked_of H t list to [] [] all = refl
asked_of H t list to [] (x ∷ xs) all = absurd all
asked_of H t list to (q ∷ qs) [] all = absurd all
asked_of H t list to (q ∷ qs) (x ∷ xs) all = (let rest = asked_of H t list to qs xs all.1 in let first = to q x all.0 in cc)

to_each : (t : DecisionTable) (list : List Statement) (qs : List Question) (xs : List Answer) → map (λ (y : Answer). y.question) xs ≡ qs → AllZip (IsTo t list) qs xs
to_each t list [] [] e = tt
to_each t list [] (x ∷ xs) e = absurd cc
to_each t list (q ∷ qs) [] e = absurd cc
to_each t list (q ∷ qs) (x ∷ xs) e = ((let first : x.question ≡ q = cc in first), to_each t list qs xs (let others : map (λ (y : Answer). y.question) xs ≡ qs = cc in others))

-- the questions of a line are one list
pub one_list : (questions : Result (List Question) LineFault) (qs rs : List Question) → questions ≡ Ok qs → questions ≡ Ok rs → rs ≡ qs
one_list questions qs rs e f = (let both = sym e ∙ f in cc)

-- ---- the answers of a body

pub answered_body : (H : Allowing) (t : DecisionTable) (r : Revisions) (asked : Asked) (qs : List Question) (xs : List Answer) → questions_of t asked ≡ Ok qs → AllZip (H.answer t (statements_of r)) qs xs → IsBodyOf H t r (Ask asked) (bodies.Answers xs)
answered_body H t r asked qs xs named each = taken (asked_taken t r asked qs named) (refl, record { asked = qs; named = named; each = each })

-- a body of another form, or with answers to other questions, is another's
pub not_answered : (t : DecisionTable) (r : Revisions) (asked : Asked) (qs : List Question) (body : Body) → questions_of t asked ≡ Ok qs → ((xs : List Answer) → body ≡ bodies.Answers xs → map (λ (y : Answer). y.question) xs ≡ qs → ⊥) → IsBodyOf of_form t r (Ask asked) body → ⊥
not_answered t r asked qs body named other (refused fault first is) = asked_taken t r asked qs named fault first.fails
not_answered t r asked qs body named other (taken passes is) =
    let to = asked_of IsTo t (statements_of r) (λ q x h. h) is.1.asked (answers_of body) is.1.each in
    other (answers_of body) is.0 (to ∙ one_list (questions_of t asked) qs is.1.asked named is.1.named)

pub refuses_answered : (t : DecisionTable) (r : Revisions) (asked : Asked) (qs : List Question) (xs : List Answer) (fault : BlockFault) → questions_of t asked ≡ Ok qs → RefusesAnswers t (statements_of r) qs xs fault → RefusesBody t r (Ask asked) (bodies.Answers xs) fault
refuses_answered t r asked qs xs faults.WrongBlock named other = λ of. not_answered t r asked qs (bodies.Answers xs) named (λ ys e to. other (ap (map (λ (y : Answer). y.question)) (ap answers_of e) ∙ to)) of
refuses_answered t r asked qs xs (faults.Answer k fault) named first = (answered_body of_form t r asked qs xs named (to_each t (statements_of r) qs xs first.0), first.1)
refuses_answered t r asked qs xs (faults.Repair fault) named h = absurd h
refuses_answered t r asked qs xs faults.Memory named h = tt

-- ---- a block

-- answers of a proved block are true
answers_true : (t : DecisionTable) (list : List Statement) (qs : List Question) (xs : List Answer) → IsLawfulIn t list → AllByRecursion (IsAskedIn t) qs → AllZip (IsProvedUnlessWide t list) qs xs → AllByRecursion (λ x. IsWideOrTrue t list x.question x.verdict) xs
answers_true t list [] [] lawful asked all = tt
answers_true t list [] (x ∷ xs) lawful asked all = absurd all
answers_true t list (q ∷ qs) [] lawful asked all = absurd all
answers_true t list (q ∷ qs) (x ∷ xs) lawful asked all =
    (subst (λ (u : Question). IsWideOrTrue t list u x.verdict) (sym all.0.question) (wide_or_true t list q x.verdict lawful asked.0 all.0.proof), answers_true t list qs xs lawful asked.1 all.1)

-- a command that asks nothing has no answers
no_answers : (P : Answer → Type 0) (body : Body) → answers_of body ≡ [] → AllByRecursion P (answers_of body)
no_answers P body none = subst (AllByRecursion P) (sym none) tt

repair_has_none : (t : DecisionTable) (list : List Numbered) (P : Answer → Type 0) (body : Body) → IsRepairProvedUnlessWide t list body → AllByRecursion P (answers_of body)
repair_has_none t list P (bodies.Repaired kept) h = tt
repair_has_none t list P (bodies.RepairWide n note) h = tt
repair_has_none t list P (bodies.Added n) h = absurd h
repair_has_none t list P (bodies.Withdrawn n) h = absurd h
repair_has_none t list P (bodies.Replaced n) h = absurd h
repair_has_none t list P bodies.Undone h = absurd h
repair_has_none t list P (bodies.Answers xs) h = absurd h
repair_has_none t list P (bodies.Refused fault) h = absurd h

body_true : (t : DecisionTable) (r : Revisions) (command : Command) (body : Body) → IsLawfulIn t (statements_of r) → IsBodyOf proved_unless_wide t r command body → AllByRecursion (λ x. IsWideOrTrue t (statements_of r) x.question x.verdict) (answers_of body)
body_true t r command body lawful (refused fault first is) = no_answers (λ x. IsWideOrTrue t (statements_of r) x.question x.verdict) body (ap answers_of is)
body_true t r (State named) body lawful (taken passes is) = no_answers (λ x. IsWideOrTrue t (statements_of r) x.question x.verdict) body (ap answers_of is)
body_true t r (Withdraw n) body lawful (taken passes is) = no_answers (λ x. IsWideOrTrue t (statements_of r) x.question x.verdict) body (ap answers_of is)
body_true t r (Replace n named) body lawful (taken passes is) = no_answers (λ x. IsWideOrTrue t (statements_of r) x.question x.verdict) body (ap answers_of is)
body_true t r Repair body lawful (taken passes is) = repair_has_none t (standing r) (λ x. IsWideOrTrue t (statements_of r) x.question x.verdict) body is
body_true t r Undo body lawful (taken passes is) = no_answers (λ x. IsWideOrTrue t (statements_of r) x.question x.verdict) body (ap answers_of is)
body_true t r (Ask asked) body lawful (taken passes is) = answers_true t (statements_of r) is.1.asked (answers_of body) lawful (questions_valid t asked is.1.asked is.1.named) is.1.each

pub block_true : (t : DecisionTable) (r : Revisions) (line : Line) (block : Block) → IsLawfulIn t (statements_of r) → IsProvedBlock t r line block → IsTrueBlock t r block
block_true t r line block lawful proved = record { answers = body_true t r line.command block.body lawful proved.body; repair = repair_true t r line.command block.body lawful proved.body }

-- a body that is proved has its questions, and its answers have no fault
to_of_proved : (t : DecisionTable) (list : List Statement) (qs : List Question) (xs : List Answer) → AllZip (IsProvedUnlessWide t list) qs xs → AllZip (IsTo t list) qs xs
to_of_proved t list [] [] all = tt
to_of_proved t list [] (x ∷ xs) all = absurd all
to_of_proved t list (q ∷ qs) [] all = absurd all
to_of_proved t list (q ∷ qs) (x ∷ xs) all = (all.0.question, to_of_proved t list qs xs all.1)

body_to : (t : DecisionTable) (r : Revisions) (command : Command) (body : Body) → IsBodyOf proved_unless_wide t r command body → IsBodyOf of_form t r command body
body_to t r command body (refused fault first is) = refused fault first is
body_to t r (State named) body (taken passes is) = taken passes is
body_to t r (Withdraw n) body (taken passes is) = taken passes is
body_to t r (Replace n named) body (taken passes is) = taken passes is
body_to t r Undo body (taken passes is) = taken passes is
body_to t r Repair body (taken passes is) = taken passes (of_repair_of_proved t (standing r) body is)
body_to t r (Ask asked) body (taken passes is) = taken passes (is.0, record { asked = is.1.asked; named = is.1.named; each = to_of_proved t (statements_of r) is.1.asked (answers_of body) is.1.each })

accepted_each : (t : DecisionTable) (list : List Statement) (qs : List Question) (xs : List Answer) → AllZip (IsProvedUnlessWide t list) qs xs → AllByRecursion (IsAccepted t list) xs
accepted_each t list [] [] all = tt
accepted_each t list [] (x ∷ xs) all = absurd all
accepted_each t list (q ∷ qs) [] all = absurd all
accepted_each t list (q ∷ qs) (x ∷ xs) all = (subst (λ (u : Question). IsWideOrProved t list u x.verdict) (sym all.0.question) all.0.proof, accepted_each t list qs xs all.1)

body_accepted : (t : DecisionTable) (r : Revisions) (command : Command) (body : Body) → IsBodyOf proved_unless_wide t r command body → AllByRecursion (IsAccepted t (statements_of r)) (answers_of body)
body_accepted t r command body (refused fault first is) = no_answers (IsAccepted t (statements_of r)) body (ap answers_of is)
body_accepted t r (State named) body (taken passes is) = no_answers (IsAccepted t (statements_of r)) body (ap answers_of is)
body_accepted t r (Withdraw n) body (taken passes is) = no_answers (IsAccepted t (statements_of r)) body (ap answers_of is)
body_accepted t r (Replace n named) body (taken passes is) = no_answers (IsAccepted t (statements_of r)) body (ap answers_of is)
body_accepted t r Undo body (taken passes is) = no_answers (IsAccepted t (statements_of r)) body (ap answers_of is)
body_accepted t r Repair body (taken passes is) = repair_has_none t (standing r) (IsAccepted t (statements_of r)) body is
body_accepted t r (Ask asked) body (taken passes is) = accepted_each t (statements_of r) is.1.asked (answers_of body) is.1.each

-- a block that is proved passes each test
pub block_passes : (t : DecisionTable) (r : Revisions) (line : Line) (block : Block) (fault : BlockFault) → IsProvedBlock t r line block → FailsBlock t r line block fault → ⊥
block_passes t r line block faults.WrongBlock p h = h (record { number = p.number; body = body_to t r line.command block.body p.body })
block_passes t r line block (faults.Answer k fault) p h =
    let list = statements_of r in
    let here = all_at (IsAccepted t list) (answers_of block.body) h.before h.answer (body_accepted t r line.command block.body p.body) h.there in
    passes_each_test t list h.answer.question h.answer fault (record { question = refl; proof = answer_unless_wide t list h.answer.question h.answer.verdict h.concludes here }) h.first.fails
block_passes t r line block (faults.Repair fault) p h = repair_passes_block t r fault line.command block.body p.body h
block_passes t r line block faults.Memory p h = h

pub none_proved : {A : Type 0} (t : DecisionTable) (r : Revisions) (line : Line) (block : Block) (result : Result A BlockFault) → IfErr result (IsRefusedBy (FailsBlock t r line block) IsEarlierBlockFault faults.Memory) → IfErr result (λ e. e ≢ faults.Memory → IsProvedBlock t r line block → ⊥)
none_proved t r line block result h = refused_not_passed (FailsBlock t r line block) IsEarlierBlockFault faults.Memory result (λ fault p. block_passes t r line block fault p) h

pub wrong_refused : (t : DecisionTable) (r : Revisions) (line : Line) (block : Block) → (IsBlockOf of_form t r line block → ⊥) → IsRefusedBy (FailsBlock t r line block) IsEarlierBlockFault faults.Memory faults.WrongBlock
wrong_refused t r line block wrong ne = record { fails = wrong; none_before = before }
  where
    before : (other : BlockFault) → IsEarlierBlockFault other faults.WrongBlock → FailsBlock t r line block other → ⊥
    before faults.WrongBlock earlier h = not_earlier block_stage block_place faults.WrongBlock faults.WrongBlock (omega arith) (omega arith) earlier
    before (faults.Answer k f) earlier h = not_earlier block_stage block_place (faults.Answer k f) faults.WrongBlock (omega arith) (omega arith) earlier
    before (faults.Repair f) earlier h = not_earlier block_stage block_place (faults.Repair f) faults.WrongBlock (omega arith) (omega arith) earlier
    before faults.Memory earlier h = h

-- a body that has a repair has no answers
pub no_answer_of_repair : (t : DecisionTable) (r : Revisions) (body : Body) (k : ℕ) (fault : CheckFault) (other : RepairCheckFault) → FailsAnswerAt t (statements_of r) (answers_of body) k fault → FailsRepairOf t (standing r) body other → ⊥
no_answer_of_repair t r (bodies.Repaired kept) k fault other at h = (let none = at.there in absurd cc)
no_answer_of_repair t r (bodies.RepairWide n note) k fault other at h = h
no_answer_of_repair t r (bodies.Added n) k fault other at h = h
no_answer_of_repair t r (bodies.Withdrawn n) k fault other at h = h
no_answer_of_repair t r (bodies.Replaced n) k fault other at h = h
no_answer_of_repair t r bodies.Undone k fault other at h = h
no_answer_of_repair t r (bodies.Answers xs) k fault other at h = h
no_answer_of_repair t r (bodies.Refused refusal) k fault other at h = h

-- the fault that answers have first is the first of the block, where it is the line's
answers_refused : (t : DecisionTable) (r : Revisions) (line : Line) (block : Block) (k : ℕ) (fault : CheckFault) → IsBlockOf of_form t r line block → IsFirst (FailsAnswers t (statements_of r) (answers_of block.body)) IsEarlierAnswersFault (checks.Answer k fault)
    → IsRefusedBy (FailsBlock t r line block) IsEarlierBlockFault faults.Memory (faults.Answer k fault)
answers_refused t r line block k fault for first ne = record { fails = first.fails; none_before = before }
  where
    before : (other : BlockFault) → IsEarlierBlockFault other (faults.Answer k fault) → FailsBlock t r line block other → ⊥
    before faults.WrongBlock earlier wrong = wrong for
    before (faults.Repair f) (inl less) at = absurd (omega arith)
    before (faults.Repair f) (inr same) at = no_answer_of_repair t r block.body k fault f first.fails at
    before (faults.Answer j f) (inl less) at = absurd (omega arith)
    before (faults.Answer j f) (inr same) at = first.none_before (checks.Answer j f) (inr (refl, same.1)) at
    before faults.Memory earlier h = h

-- and so is the one that a repair has first
repair_block_refused : (t : DecisionTable) (r : Revisions) (line : Line) (block : Block) (fault : RepairCheckFault) → IsBlockOf of_form t r line block → FailsRepairOf t (standing r) block.body fault → IsRefusedBy (FailsBlock t r line block) IsEarlierBlockFault faults.Memory (faults.Repair fault)
repair_block_refused t r line block fault for first ne = record { fails = first; none_before = before }
  where
    before : (other : BlockFault) → IsEarlierBlockFault other (faults.Repair fault) → FailsBlock t r line block other → ⊥
    before faults.WrongBlock earlier wrong = wrong for
    before (faults.Answer j f) earlier at = no_answer_of_repair t r block.body j f fault at first
    before (faults.Repair f) (inl less) at = absurd (omega arith)
    before (faults.Repair f) (inr same) at = (let before = same.1 in absurd (omega arith))
    before faults.Memory earlier h = h

refuses_block : (t : DecisionTable) (r : Revisions) (line : Line) (block : Block) (fault : BlockFault) → block.line ≡ line.number → RefusesBody t r line.command block.body fault → IsRefusedBy (FailsBlock t r line block) IsEarlierBlockFault faults.Memory fault
refuses_block t r line block faults.WrongBlock number other = wrong_refused t r line block (λ of. other of.body)
refuses_block t r line block (faults.Answer k fault) number first = answers_refused t r line block k fault (record { number = number; body = first.0 }) first.1
refuses_block t r line block (faults.Repair fault) number first = repair_block_refused t r line block fault (record { number = number; body = first.0 }) first.1
refuses_block t r line block faults.Memory number h = refused_by_memory (FailsBlock t r line block) IsEarlierBlockFault faults.Memory

module _ (t : DecisionTable) (r : Revisions) (line : Line) (block : Block) (result : Result Passed BlockFault) where
  pub checked_proved : block.line ≡ line.number → OnOk result (IsBodyOf proved_unless_wide t r line.command block.body) → OnOk result (IsProvedBlock t r line block)
  checked_proved = of result
    where
      of : (result : Result Passed BlockFault) → block.line ≡ line.number → OnOk result (IsBodyOf proved_unless_wide t r line.command block.body) → OnOk result (IsProvedBlock t r line block)
      of (Ok p) number body = record { number = number; body = body }
      of (Err e) number body = tt

  pub checked_true : IsLawfulIn t (statements_of r) → OnOk result (IsProvedBlock t r line block) → OnOk result (IsTrueBlock t r block)
  checked_true = of result
    where
      of : (result : Result Passed BlockFault) → IsLawfulIn t (statements_of r) → OnOk result (IsProvedBlock t r line block) → OnOk result (IsTrueBlock t r block)
      of (Ok p) lawful proved = block_true t r line block lawful proved
      of (Err e) lawful proved = tt

  pub checked_refused : block.line ≡ line.number → IfErr result (RefusesBody t r line.command block.body) → IfErr result (IsRefusedBy (FailsBlock t r line block) IsEarlierBlockFault faults.Memory)
  checked_refused = of result
    where
      of : (result : Result Passed BlockFault) → block.line ≡ line.number → IfErr result (RefusesBody t r line.command block.body) → IfErr result (IsRefusedBy (FailsBlock t r line block) IsEarlierBlockFault faults.Memory)
      of (Ok p) number h = tt
      of (Err e) number h = refuses_block t r line block e number h

-- ---- questions

pub asked_each : (t : DecisionTable) (qs : List Question) (xs : List Answer) → map (λ (y : Answer). y.question) xs ≡ qs → AllByRecursion (IsAskedIn t) qs → AllByRecursion (λ x. IsAskedIn t x.question) xs
asked_each t [] [] e all = tt
asked_each t [] (x ∷ xs) e all = absurd cc
asked_each t (q ∷ qs) [] e all = absurd cc
asked_each t (q ∷ qs) (x ∷ xs) e all =
    let first : x.question ≡ q = cc in
    let others : map (λ (y : Answer). y.question) xs ≡ qs = cc in
    (subst (IsAskedIn t) (sym first) all.0, asked_each t qs xs others all.1)

pub refuses_asked : (t : DecisionTable) (r : Revisions) (asked : Asked) (stop : LineStop) → IfSome (stopping_fault stop) (λ f. questions_of t asked ≡ Err f) → RefusesCommand t r (Ask asked) stop
refuses_asked t r asked (stops.Refused fault) e = asked_refused t r asked fault e
refuses_asked t r asked stops.Memory e = tt

-- ---- the check of answers

module _ (t : DecisionTable) (r : Revisions) (asked : Asked) (qs : List Question) (xs ys : List Answer) (body : Body) where
  pub answered_checked : (result : Result Passed BlockFault) → questions_of t asked ≡ Ok qs → body ≡ bodies.Answers xs → ys ≡ xs → OnOk result (AllZip (IsProvedUnlessWide t (statements_of r)) qs ys) → OnOk result (IsBodyOf proved_unless_wide t r (Ask asked) body)
  answered_checked (Ok p) named is same each =
      subst (IsBodyOf proved_unless_wide t r (Ask asked)) (sym is) (answered_body proved_unless_wide t r asked qs xs named (subst (AllZip (IsProvedUnlessWide t (statements_of r)) qs) same each))
  answered_checked (Err e) named is same each = tt

  pub answered_refused : (result : Result Passed BlockFault) → questions_of t asked ≡ Ok qs → body ≡ bodies.Answers xs → ys ≡ xs → IfErr result (RefusesAnswers t (statements_of r) qs ys) → IfErr result (RefusesBody t r (Ask asked) body)
  answered_refused (Ok p) named is same h = tt
  answered_refused (Err e) named is same h =
      subst (λ (b : Body). RefusesBody t r (Ask asked) b e) (sym is) (refuses_answered t r asked qs xs e named (subst (λ (l : List Answer). RefusesAnswers t (statements_of r) qs l e) same h))

abbrev pub Ok_of : List Question → Result (List Question) LineFault
Ok_of qs = Ok qs

-- ---- the answers that are given

pub answers_body : (H : Allowing) (t : DecisionTable) (r : Revisions) (asked : Asked) (xs ys : List Answer) → ys ≡ xs → AreAnswers H t (statements_of r) (questions_of t asked) xs → IsBodyOf H t r (Ask asked) (bodies.Answers ys)
answers_body H t r asked xs ys same are =
    subst (λ (l : List Answer). IsBodyOf H t r (Ask asked) (bodies.Answers l)) (sym same) (taken (asked_taken t r asked are.asked are.named) (refl, are))

pub stop_refused : (H : Allowing) (t : DecisionTable) (r : Revisions) (command : Command) (stop : LineStop) (fault : LineFault) → stop ≡ stops.Refused fault → RefusesCommand t r command stop → IsBodyOf H t r command (bodies.Refused fault)
stop_refused H t r command stop fault is stopped = refused fault (subst (RefusesCommand t r command) is stopped) refl
