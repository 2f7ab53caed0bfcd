-- That the functions in the answers to a line are what they are said to be, of what stood there.
use Rattle.std.proofs.Common.{◌≡◌, ◌≢◌, ◌⊎◌, inl, inr, ℕ, List, [], ◌∷◌, ◌++◌, length, Option, Some, sym, ap, subst, ℤ}
use Rattle.std.specs.Prelude.{slice_get}
use Rattle.std.specs.List.{AllByRecursion, AllZip}
use Rattle.ror_text.proofs.Everywhere.{all-append, all_at}
use Rattle.ror_statement.specs.declared.statement.Statement.{Statement}
use Rattle.ror_statement.specs.declared.statement.Numbered.{Numbered}
use Rattle.ror_statement.specs.declared.question.Question.{Question}
use Rattle.ror_statement.specs.Statements.{statements_in}
use Rattle.ror_table.specs.Table.{DecisionTable}
use Rattle.ror_value.specs.Over.{IsLawfulIn, IsAskedIn}
use Rattle.ror_session.specs.declared.session.Command.{Command}
use Rattle.ror_session.specs.declared.session.Command.TheVariants.{State, Withdraw, Replace, Repair, Undo, Ask}
use Rattle.ror_session.specs.declared.session.Line.{Line}
use Rattle.ror_proof.specs.declared.answer.Answer.{Answer}
use Rattle.ror_check.specs.Proof.{IsWideOrProved}
use Rattle.ror_report.specs.declared.block.Block.{Block}
use Rattle.ror_report.specs.declared.block.Body.{Body}
use Rattle.ror_report.specs.declared.block.Body.TheVariants as bodies
use Rattle.ror_report.specs.Text.{answers_of}
use Rattle.ror_history.specs.History.{Revisions, standing, statements_of}
use Rattle.ror_bench.specs.Allowed.{IsProvedUnlessWide, IsRepairProvedUnlessWide, proved_unless_wide}
use Rattle.ror_bench.specs.Bench.{Workbench, IsLawfulThroughout}
use Rattle.ror_bench.specs.Blocks.{IsBodyOf, refused, taken, IsProvedBlock}
use Rattle.ror_bench.specs.declared.kept.Keep.{Keep}
use Rattle.ror_bench.specs.declared.kept.Keep.TheVariants as keeping
use Rattle.ror_bench.specs.Kept.{keep_at, standing_for, kept_of, kept_from}
use Rattle.ror_bench.specs.Reports.{EachHolds, revisions_then}
use Rattle.ror_bench.proofs.DeskLemmas.{nothing_lawful}
use Rattle.ror_bench.proofs.LawfulLemmas.{lawful_now, moved_lawful}
use Rattle.ror_bench.proofs.NameLemmas.{questions_valid}
use Rattle.ror_bench.proofs.ReportProofs.{number_cases, then_at_own, then_at_other}
use Rattle.ror_bench.proofs.Truth.{lawful_at}
use Rattle.ror_show_ground.specs.Sound.{IsSoundAnswer}
use Rattle.ror_show_find_proofs.specs.FunctionLaws.{IsMeant}
use Rattle.ror_show_find_proofs.specs.Places.{steps_for}
use Rattle.ror_show_find_proofs.proofs.MeaningProofs.{functions_are_meant}
use Rattle.ror_show_find_proofs.specs.LineLaws.{AreMeantOfWhatStood, FunctionsAreTrue}

-- ---- the answers of a block

answers_sound : (t : DecisionTable) (list : List Statement) (qs : List Question) (xs : List Answer) → AllByRecursion (IsAskedIn t) qs → AllZip (IsProvedUnlessWide t list) qs xs → AllByRecursion (IsSoundAnswer t list) xs
answers_sound t list [] [] asked all = tt
answers_sound t list [] (x ∷ xs) asked all = absurd all
answers_sound t list (q ∷ qs) [] asked all = absurd all
answers_sound t list (q ∷ qs) (x ∷ xs) asked all =
    let is = sym all.0.question in
    (record { asked = subst (IsAskedIn t) is asked.0; verdict = subst (λ (u : Question). IsWideOrProved t list u x.verdict) is all.0.proof }, answers_sound t list qs xs asked.1 all.1)

none_there : (P : Answer → Type 0) (body : Body) → answers_of body ≡ [] → AllByRecursion P (answers_of body)
none_there P body none = subst (AllByRecursion P) (sym none) tt

none_of_repair : (t : DecisionTable) (list : List Numbered) (P : Answer → Type 0) (body : Body) → IsRepairProvedUnlessWide t list body → AllByRecursion P (answers_of body)
none_of_repair t list P (bodies.Repaired kept) h = tt
none_of_repair t list P (bodies.RepairWide n note) h = tt
none_of_repair t list P (bodies.Added n) h = absurd h
none_of_repair t list P (bodies.Withdrawn n) h = absurd h
none_of_repair t list P (bodies.Replaced n) h = absurd h
none_of_repair t list P bodies.Undone h = absurd h
none_of_repair t list P (bodies.Answers xs) h = absurd h
none_of_repair t list P (bodies.Refused fault) h = absurd h

body_sound : (t : DecisionTable) (r : Revisions) (command : Command) (body : Body) → IsBodyOf proved_unless_wide t r command body → AllByRecursion (IsSoundAnswer t (statements_of r)) (answers_of body)
body_sound t r command body (refused fault first is) = none_there (IsSoundAnswer t (statements_of r)) body (ap answers_of is)
body_sound t r (State named) body (taken passes is) = none_there (IsSoundAnswer t (statements_of r)) body (ap answers_of is)
body_sound t r (Withdraw n) body (taken passes is) = none_there (IsSoundAnswer t (statements_of r)) body (ap answers_of is)
body_sound t r (Replace n named) body (taken passes is) = none_there (IsSoundAnswer t (statements_of r)) body (ap answers_of is)
body_sound t r Repair body (taken passes is) = none_of_repair t (standing r) (IsSoundAnswer t (statements_of r)) body is
body_sound t r Undo body (taken passes is) = none_there (IsSoundAnswer t (statements_of r)) body (ap answers_of is)
body_sound t r (Ask asked) body (taken passes is) = answers_sound t (statements_of r) is.1.asked (answers_of body) (questions_valid t asked is.1.asked is.1.named) is.1.each

-- ---- a kept line

meant : (t : DecisionTable) (r : Revisions) (body : Body) (list : List Numbered) (xs : List Answer) (k : ℕ) (part : Option ℕ) (answer : Answer) (w : List ℤ) → IsLawfulIn t (statements_of r) → AllByRecursion (IsSoundAnswer t (statements_of r)) (answers_of body) → standing r ≡ list → body ≡ bodies.Answers xs → slice_get xs k ≡ Some answer → steps_for xs k part ≡ Some w → IsMeant t (statements_in list) answer w part
meant t r body list xs k part answer w lawful sound stood is there steps =
    let each : AllByRecursion (IsSoundAnswer t (statements_of r)) xs = subst (AllByRecursion (IsSoundAnswer t (statements_of r))) (ap answers_of is) sound in
    subst (λ (l : List Numbered). IsMeant t (statements_in l) answer w part) stood
    (functions_are_meant t (statements_of r) xs k part answer w lawful there (all_at (IsSoundAnswer t (statements_of r)) xs k answer each there) steps)

line_meant : (t : DecisionTable) (place : ℕ) (keep : Keep) (r : Revisions) (block : Block) → IsLawfulIn t (statements_of r) → AllByRecursion (IsSoundAnswer t (statements_of r)) (answers_of block.body) → AllByRecursion (AreMeantOfWhatStood t) (kept_of place keep (standing_for keep r) block)
line_meant t place keeping.Nothing r block lawful sound = tt
line_meant t place keeping.Block r block lawful sound = ((λ list xs k part answer w stood is there steps. absurd cc), tt)
line_meant t place keeping.Standing r block lawful sound = ((λ list xs k part answer w stood is there steps. let same : standing r ≡ list = cc in meant t r block.body list xs k part answer w lawful sound same is there steps), tt)

-- ---- a report

each_meant : (bench : Workbench) (keep : List Keep) (before : List (Line × Block)) (lines : List Line) (blocks : List Block) → ((desk : ℕ) → IsLawfulThroughout bench.table (revisions_then bench before desk))
    → EachHolds (IsProvedBlock bench.table) bench before lines blocks → AllByRecursion (AreMeantOfWhatStood bench.table) (kept_from bench keep before lines blocks)
each_meant bench keep before [] [] lawful h = tt
each_meant bench keep before [] (block ∷ blocks) lawful h = absurd h
each_meant bench keep before (line ∷ lines) [] lawful h = absurd h
each_meant bench keep before (line ∷ lines) (block ∷ blocks) lawful h =
    let r = revisions_then bench before line.desk in
    let list = lawful_now bench.table r (lawful line.desk) in
    all-append (AreMeantOfWhatStood bench.table) _ _
    (line_meant bench.table (length before) (keep_at keep (length before)) r block list (body_sound bench.table r line.command block.body h.0.body))
    (each_meant bench keep (before ++ (line, block) ∷ []) lines blocks (λ desk. then desk (number_cases line.desk desk)) h.1)
  where
    then : (desk : ℕ) → (line.desk ≡ desk) ⊎ (line.desk ≢ desk) → IsLawfulThroughout bench.table (revisions_then bench (before ++ (line, block) ∷ []) desk)
    then desk (inl own) =
        let of = subst (λ (d : ℕ). IsBodyOf proved_unless_wide bench.table (revisions_then bench before d) line.command block.body) own h.0.body in
        subst (IsLawfulThroughout bench.table) (sym (then_at_own bench before line block desk own)) (moved_lawful proved_unless_wide bench.table (revisions_then bench before desk) line.command block.body (lawful desk) of)
    then desk (inr other) = subst (IsLawfulThroughout bench.table) (sym (then_at_other bench before line block desk other)) (lawful desk)

pub functions_are_true : FunctionsAreTrue
functions_are_true bench lines bytes accepted keep lawful report =
    each_meant bench keep [] lines report.blocks (λ desk. lawful_at (IsLawfulThroughout bench.table) bench.state desk (record { opening = []; surviving = [] }) (nothing_lawful bench.table) lawful) report.proved
