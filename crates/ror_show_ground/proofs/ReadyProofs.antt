-- That what stood at a kept line is lawful, its numbers rise, and its answers and its repair are proved over it.
use Rattle.std.proofs.Common.{◌≡◌, ◌≢◌, ◌⊎◌, inl, inr, ℕ, zero, suc, ◌-◌, List, [], ◌∷◌, ◌++◌, length, drop, replicate, Result, Ok, Err, sym, ap, subst, ◌∙◌, append_assoc}
use Rattle.std.specs.List.{AllByRecursion, AllZip}
use Rattle.std.specs.List.Sorted.{IsStrictlyIncreasing}
use Rattle.std.specs.Result.{result_ok}
use Rattle.std.proofs.lemmas.List.{take-append-drop}
use Rattle.ror_text.proofs.Everywhere.{all-append}
use Rattle.ror_statement.specs.declared.statement.Statement.{Statement}
use Rattle.ror_statement.specs.declared.statement.Numbered.{Numbered}
use Rattle.ror_statement.specs.declared.question.Question.{Question}
use Rattle.ror_statement.specs.Statements.{numbers_in, statements_in}
use Rattle.ror_table.specs.Table.{DecisionTable}
use Rattle.ror_value.specs.Over.{IsLawfulIn, IsAskedIn}
use Rattle.ror_session.specs.declared.session.Command.{Command}
use Rattle.ror_session.specs.declared.session.Command.TheVariants.{State, Withdraw, Replace, Repair, Undo, Ask}
use Rattle.ror_session.specs.declared.session.Line.{Line}
use Rattle.ror_proof.specs.declared.answer.Answer.{Answer}
use Rattle.ror_check.specs.Proof.{IsWideOrProved}
use Rattle.ror_check.specs.Repair.{numbers_of}
use Rattle.ror_report.specs.declared.block.Block.{Block}
use Rattle.ror_report.specs.declared.block.Body.{Body}
use Rattle.ror_report.specs.declared.block.Body.TheVariants as bodies
use Rattle.ror_report.specs.Text.{answers_of}
use Rattle.ror_report.specs.declared.block.LineFault.{LineFault}
use Rattle.ror_history.specs.History.{Revision, addition, withdrawal, replacement, Revisions, with_revision, next_number, standing, statements_of}
use Rattle.ror_history.specs.Laws.{AreNumberedInTurn}
use Rattle.ror_history.proofs.TurnLemmas.{numbers_rise, first_turn, turn_more, turn_kept}
use Rattle.ror_bench.specs.Allowed.{IsProvedUnlessWide, IsRepairProvedUnlessWide, proved_unless_wide}
use Rattle.ror_bench.specs.Bench.{Workbench, IsLawfulThroughout}
use Rattle.ror_bench.specs.Blocks.{IsTrueRepair, IsBodyOf, refused, taken, without_last, with_stated, revisions_with, IsProvedBlock}
use Rattle.ror_bench.specs.declared.kept.Keep.{Keep}
use Rattle.ror_bench.specs.declared.kept.KeptLine.{KeptLine}
use Rattle.ror_bench.specs.declared.kept.Keep.TheVariants as keeping
use Rattle.ror_bench.specs.Kept.{keep_at, standing_for, kept_of, kept_from}
use Rattle.ror_bench.specs.Names.{statement_of}
use Rattle.ror_bench.specs.Reports.{EachHolds, revisions_then}
use Rattle.ror_bench.proofs.AnswerLemmas.{block_true}
use Rattle.ror_bench.proofs.DeskLemmas.{nothing_lawful}
use Rattle.ror_bench.proofs.LawfulLemmas.{lawful_now, moved_lawful}
use Rattle.ror_bench.proofs.NameLemmas.{questions_valid}
use Rattle.ror_bench.proofs.ReportProofs.{number_cases, then_at_own, then_at_other}
use Rattle.ror_bench.proofs.Truth.{lawful_at}
use Rattle.ror_show_ground.specs.Sound.{IsSoundAnswer}
use Rattle.ror_show_ground.specs.Ready.{IsReady, IsReadyOver, DesksBeginNumbered, KeptLinesAreReady}

-- ---- the answers of a block

answers_sound : (t : DecisionTable) (list : List Statement) (qs : List Question) (xs : List Answer) → AllByRecursion (IsAskedIn t) qs → AllZip (IsProvedUnlessWide t list) qs xs → AllByRecursion (IsSoundAnswer t list) xs
answers_sound t list [] [] asked all = tt
answers_sound t list [] (x ∷ xs) asked all = absurd all
answers_sound t list (q ∷ qs) [] asked all = absurd all
answers_sound t list (q ∷ qs) (x ∷ xs) asked all =
    let is = sym all.0.question in
    (record { asked = subst (IsAskedIn t) is asked.0; verdict = subst (λ (u : Question). IsWideOrProved t list u x.verdict) is all.0.proof }, answers_sound t list qs xs asked.1 all.1)

none_there : (P : Answer → Type 0) (body : Body) → answers_of body ≡ [] → AllByRecursion P (answers_of body)
none_there P body none = subst (AllByRecursion P) (sym none) tt

none_of_repair : (t : DecisionTable) (list : List Numbered) (P : Answer → Type 0) (body : Body) → IsRepairProvedUnlessWide t list body → AllByRecursion P (answers_of body)
none_of_repair t list P (bodies.Repaired kept) h = tt
none_of_repair t list P (bodies.RepairWide n note) h = tt
none_of_repair t list P (bodies.Added n) h = absurd h
none_of_repair t list P (bodies.Withdrawn n) h = absurd h
none_of_repair t list P (bodies.Replaced n) h = absurd h
none_of_repair t list P bodies.Undone h = absurd h
none_of_repair t list P (bodies.Answers xs) h = absurd h
none_of_repair t list P (bodies.Refused fault) h = absurd h

body_sound : (t : DecisionTable) (r : Revisions) (command : Command) (body : Body) → IsBodyOf proved_unless_wide t r command body → AllByRecursion (IsSoundAnswer t (statements_of r)) (answers_of body)
body_sound t r command body (refused fault first is) = none_there (IsSoundAnswer t (statements_of r)) body (ap answers_of is)
body_sound t r (State named) body (taken passes is) = none_there (IsSoundAnswer t (statements_of r)) body (ap answers_of is)
body_sound t r (Withdraw n) body (taken passes is) = none_there (IsSoundAnswer t (statements_of r)) body (ap answers_of is)
body_sound t r (Replace n named) body (taken passes is) = none_there (IsSoundAnswer t (statements_of r)) body (ap answers_of is)
body_sound t r Repair body (taken passes is) = none_of_repair t (standing r) (IsSoundAnswer t (statements_of r)) body is
body_sound t r Undo body (taken passes is) = none_there (IsSoundAnswer t (statements_of r)) body (ap answers_of is)
body_sound t r (Ask asked) body (taken passes is) = answers_sound t (statements_of r) is.1.asked (answers_of body) (questions_valid t asked is.1.asked is.1.named) is.1.each

-- ---- numbers

withdrawn_turn : (r : Revisions) (ns : List ℕ) → AreNumberedInTurn r → AreNumberedInTurn (with_revision r (withdrawal ns))
withdrawn_turn r ns turn = turn_more r (withdrawal ns) (λ n s e. absurd cc) turn

undone_turn : (r : Revisions) → AreNumberedInTurn r → AreNumberedInTurn (without_last r)
undone_turn r turn before n s after e =
    let all = r.surviving in
    let k : ℕ = length all - 1 in
    let whole : all ≡ before ++ addition n s ∷ (after ++ drop k all) = sym (take-append-drop k all) ∙ ap (λ (l : List Revision). l ++ drop k all) e ∙ append_assoc before (addition n s ∷ after) (drop k all) in
    turn before n s (after ++ drop k all) whole

stated_turn : (r : Revisions) (make : Statement → Revision) (o : Result Statement LineFault) → ((s : Statement) → AreNumberedInTurn (with_revision r (make s))) → AreNumberedInTurn r → AreNumberedInTurn (with_stated r make (result_ok o))
stated_turn r make (Err fault) made turn = turn
stated_turn r make (Ok s) made turn = made s

repaired_turn : (t : DecisionTable) (r : Revisions) (body : Body) → AreNumberedInTurn r → AreNumberedInTurn (revisions_with t r Repair body)
repaired_turn t r (bodies.Added n) turn = turn
repaired_turn t r (bodies.Withdrawn n) turn = withdrawn_turn r (n ∷ []) turn
repaired_turn t r (bodies.Replaced n) turn = turn
repaired_turn t r bodies.Undone turn = undone_turn r turn
repaired_turn t r (bodies.Repaired kept) turn = withdrawn_turn r (numbers_of kept.dropped) turn
repaired_turn t r (bodies.RepairWide n note) turn = turn
repaired_turn t r (bodies.Answers xs) turn = turn
repaired_turn t r (bodies.Refused fault) turn = turn

-- a line gives the next number, or none
moved_turn : (t : DecisionTable) (r : Revisions) (command : Command) (body : Body) → AreNumberedInTurn r → IsBodyOf proved_unless_wide t r command body → AreNumberedInTurn (revisions_with t r command body)
moved_turn t r command body turn (refused fault first is) = subst (λ (b : Body). AreNumberedInTurn (revisions_with t r command b)) (sym is) turn
moved_turn t r (State named) body turn (taken passes is) =
    subst (λ (b : Body). AreNumberedInTurn (revisions_with t r (State named) b)) (sym is) (stated_turn r (addition (next_number r)) (statement_of t named) (λ s. turn_kept r s turn) turn)
moved_turn t r (Withdraw n) body turn (taken passes is) =
    subst (λ (b : Body). AreNumberedInTurn (revisions_with t r (Withdraw n) b)) (sym is) (withdrawn_turn r (n ∷ []) turn)
moved_turn t r (Replace n named) body turn (taken passes is) =
    subst (λ (b : Body). AreNumberedInTurn (revisions_with t r (Replace n named) b)) (sym is) (stated_turn r (replacement n) (statement_of t named) (λ s. turn_more r (replacement n s) (λ m u e. absurd cc) turn) turn)
moved_turn t r Undo body turn (taken passes is) =
    subst (λ (b : Body). AreNumberedInTurn (revisions_with t r Undo b)) (sym is) (undone_turn r turn)
moved_turn t r Repair body turn (taken passes is) = repaired_turn t r body turn
moved_turn t r (Ask asked) body turn (taken passes is) =
    subst (λ (b : Body). AreNumberedInTurn (revisions_with t r (Ask asked) b)) (sym is.0) turn

-- ---- a desk

-- what stands at a desk is lawful, after any undos too, and numbered in turn
record IsOrderly (t : DecisionTable) (r : Revisions) : Type 0 where
  pub lawful : IsLawfulThroughout t r
  pub turn : AreNumberedInTurn r

moved : (t : DecisionTable) (r : Revisions) (command : Command) (body : Body) → IsOrderly t r → IsBodyOf proved_unless_wide t r command body → IsOrderly t (revisions_with t r command body)
moved t r command body h of = record {
  lawful = moved_lawful proved_unless_wide t r command body h.lawful of;
  turn = moved_turn t r command body h.turn of;
}

-- ---- a kept line

ready : (t : DecisionTable) (r : Revisions) (x : KeptLine) (list : List Numbered) → IsOrderly t r → AllByRecursion (IsSoundAnswer t (statements_of r)) (answers_of x.block.body) → IsTrueRepair t (standing r) x.block.body → standing r ≡ list → IsReadyOver t x list
ready t r x list h sound repair same = record {
  lawful = subst (λ (l : List Numbered). IsLawfulIn t (statements_in l)) same (lawful_now t r h.lawful);
  rising = subst (λ (l : List Numbered). IsStrictlyIncreasing (numbers_in l)) same (numbers_rise r h.turn).rising;
  sound = subst (λ (l : List Numbered). AllByRecursion (IsSoundAnswer t (statements_in l)) (answers_of x.block.body)) same sound;
  repair = subst (λ (l : List Numbered). IsTrueRepair t l x.block.body) same repair;
}

line_ready : (t : DecisionTable) (place : ℕ) (keep : Keep) (r : Revisions) (block : Block) → IsOrderly t r → AllByRecursion (IsSoundAnswer t (statements_of r)) (answers_of block.body) → IsTrueRepair t (standing r) block.body → AllByRecursion (IsReady t) (kept_of place keep (standing_for keep r) block)
line_ready t place keeping.Nothing r block h sound repair = tt
line_ready t place keeping.Block r block h sound repair = ((λ list stood. absurd cc), tt)
line_ready t place keeping.Standing r block h sound repair = ((λ list stood. let same : standing r ≡ list = cc in ready t r _ list h sound repair same), tt)

-- ---- a report

each_ready : (bench : Workbench) (keep : List Keep) (before : List (Line × Block)) (lines : List Line) (blocks : List Block) → ((desk : ℕ) → IsOrderly bench.table (revisions_then bench before desk))
    → EachHolds (IsProvedBlock bench.table) bench before lines blocks → AllByRecursion (IsReady bench.table) (kept_from bench keep before lines blocks)
each_ready bench keep before [] [] orderly h = tt
each_ready bench keep before [] (block ∷ blocks) orderly h = absurd h
each_ready bench keep before (line ∷ lines) [] orderly h = absurd h
each_ready bench keep before (line ∷ lines) (block ∷ blocks) orderly h =
    let r = revisions_then bench before line.desk in
    all-append (IsReady bench.table) _ _
    (line_ready bench.table (length before) (keep_at keep (length before)) r block (orderly line.desk) (body_sound bench.table r line.command block.body h.0.body) (block_true bench.table r line block (lawful_now bench.table r (orderly line.desk).lawful) h.0).repair)
    (each_ready bench keep (before ++ (line, block) ∷ []) lines blocks (λ desk. then desk (number_cases line.desk desk)) h.1)
  where
    then : (desk : ℕ) → (line.desk ≡ desk) ⊎ (line.desk ≢ desk) → IsOrderly bench.table (revisions_then bench (before ++ (line, block) ∷ []) desk)
    then desk (inl own) =
        let of = subst (λ (d : ℕ). IsBodyOf proved_unless_wide bench.table (revisions_then bench before d) line.command block.body) own h.0.body in
        subst (IsOrderly bench.table) (sym (then_at_own bench before line block desk own)) (moved bench.table (revisions_then bench before desk) line.command block.body (orderly desk) of)
    then desk (inr other) = subst (IsOrderly bench.table) (sym (then_at_other bench before line block desk other)) (orderly desk)

pub kept_lines_are_ready : KeptLinesAreReady
kept_lines_are_ready bench lines bytes accepted keep lawful numbered report =
    let none : Revisions = record { opening = []; surviving = [] } in
    each_ready bench keep [] lines report.blocks
    (λ desk. record {
      lawful = lawful_at (IsLawfulThroughout bench.table) bench.state desk none (nothing_lawful bench.table) lawful;
      turn = lawful_at AreNumberedInTurn bench.state desk none (first_turn []) numbered;
    })
    report.proved

-- ---- where desks begin

all_begin : (opening : List Statement) (desks : ℕ) → AllByRecursion AreNumberedInTurn (replicate desks (record { opening = opening; surviving = [] }))
all_begin opening zero = tt
all_begin opening (suc desks) = (first_turn opening, all_begin opening desks)

pub desks_begin_numbered : DesksBeginNumbered
desks_begin_numbered bench input desks same = subst (AllByRecursion AreNumberedInTurn) (sym same.1) (all_begin input.opening desks)
