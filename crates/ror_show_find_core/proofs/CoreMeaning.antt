-- What is found beside the answers that are told means what it says.
use Rattle.std.proofs.Common.{◌≡◌, ℕ, Bool, List, [], length, map, Option, Some, None, refl, sym, ap, subst, ◌∙◌}
use Rattle.std.specs.Prelude.{slice_get, if◌then◌else◌}
use Rattle.std.specs.List.{AllByRecursion}
use Rattle.std.specs.List.Sorted.{IsStrictlyIncreasing}
use Rattle.ror_text.proofs.Everywhere.{all_at}
use Rattle.ror_statement.specs.declared.statement.Numbered.{Numbered}
use Rattle.ror_statement.specs.declared.question.Question.{Question}
use Rattle.ror_statement.specs.declared.question.Conclusion.{Conclusion}
use Rattle.ror_statement.specs.declared.question.Conclusion.TheVariants.{Yes, No, Contradiction}
use Rattle.ror_statement.specs.Statements.{numbers_in, statements_in}
use Rattle.ror_table.specs.Table.{DecisionTable}
use Rattle.ror_value.specs.Meaning.{Answers}
use Rattle.ror_proof.specs.declared.answer.Answer.{Answer}
use Rattle.ror_proof.specs.declared.answer.Verdict.{Verdict}
use Rattle.ror_proof.specs.declared.answer.Verdict.TheVariants as verdicts
use Rattle.ror_report.specs.Text.{answers_of}
use Rattle.ror_bench.specs.declared.kept.KeptLine.{KeptLine}
use Rattle.ror_reason.specs.declared.reducts.Reason.{Reason}
use Rattle.ror_reason.specs.declared.reducts.Reason.TheVariants as reasons
use Rattle.ror_reason.specs.Reducts.{RestsOnPart, Concludes}
use Rattle.ror_show_ground.specs.Ready.{IsReady}
use Rattle.ror_show_ground.specs.Grounds.{Ground, IsJudged}
use Rattle.ror_show_find_reasons.specs.declared.lines.LineFound.{LineFound}
use Rattle.ror_show_find_reasons.specs.declared.lines.Meant.{Meant}
use Rattle.ror_show_find_reasons.specs.declared.lines.Told.{Told}
use Rattle.ror_show_find_reasons.specs.Lines.{AreToldOver, IsLineFound, explained_places, AreLinesFound}
use Rattle.ror_show_find_reasons.specs.Meaning.{MeansTold}
use Rattle.ror_show_find_reasons.proofs.Finding.{made_at, made_for}
use Rattle.ror_show_find_reasons.proofs.LineMeaning.{told_mean}
use Rattle.ror_show_find_reasons.proofs.Steps.{contains_at}
use Rattle.ror_show_find_core.specs.declared.outcomes.Outcome.{Outcome}
use Rattle.ror_show_find_core.specs.declared.outcomes.Outcome.TheVariants as outcomes
use Rattle.ror_show_find_core.specs.declared.outcomes.Withdrawal.{Withdrawal}
use Rattle.ror_show_find_core.specs.declared.outcomes.CoreFound.{CoreFound}
use Rattle.ror_show_find_core.specs.declared.outcomes.LineCores.{LineCores}
use Rattle.ror_show_find_core.specs.Withdrawals.{IsOutcome, IsWithdrawal, AreWithdrawals}
use Rattle.ror_show_find_core.specs.Cores.{carried_as, carried_conclusion, named_by, IsCoreOf, IsCoreBeside, IsCoreWhere, IsCoreAt, AreCores, AreCoresOver, AreCoresWhere, AreLineCores, AreCoresFound}
use Rattle.ror_show_find_core.specs.Laws.{MeansOutcome, MeansCore, CoresAreMeant}
use Rattle.ror_show_find_core.proofs.Core.{core_is_in_each_reduct, stays_has_reduct, stays_by}
use Rattle.ror_show_find_core.proofs.Lists.{zip_each, zip_length, zip_map, zip_none}

-- ---- one outcome

outcome_means : (t : DecisionTable) (list : List Numbered) (q : Question) (c : Conclusion) (n : ℕ) (outcome : Outcome) → IsStrictlyIncreasing (numbers_in list) → RestsOnPart q c → Answers t (statements_in list) q c → IsOutcome t list q c n outcome → MeansOutcome t list q c n outcome
outcome_means t list q c n (outcomes.Stays ns) up rests whole h = (stays_by t list q c n ns rests whole h.numbers h.carries, (stays_has_reduct t list q c n ns whole h).0)
outcome_means t list q c n (outcomes.StaysWide ns) up rests whole h = stays_by t list q c n ns rests whole h.2.numbers h.2.carries
outcome_means t list q c n outcomes.Goes up rests whole h = (h, (core_is_in_each_reduct t list q c n up rests whole).0 h)
outcome_means t list q c n outcomes.Unknown up rests whole h = h

-- ---- beside an answer

no_names : (t : DecisionTable) (list : List Numbered) (q : Question) (o : Option Conclusion) (f : CoreFound) → IsCoreOf t list q [] o f → f.withdrawals ≡ []
no_names t list q (Some c) f h = zip_none (IsWithdrawal t list q c) f.withdrawals h
no_names t list q None f h = h

-- where no statement is named
nothing_means : (t : DecisionTable) (list : List Numbered) (x : Answer) (told : Option Reason) (f : CoreFound) → named_by told ≡ [] → IsCoreBeside t list told x f → MeansCore t list x told f
nothing_means t list x told f names h =
    let none : f.withdrawals ≡ [] = no_names t list x.question (carried_conclusion x.question x.verdict) f (subst (λ (ns : List ℕ). IsCoreOf t list x.question ns (carried_conclusion x.question x.verdict) f) names h) in
    record {
      numbers = ap (map (λ (w : Withdrawal). w.number)) none ∙ sym names;
      each = λ c same. subst (AllByRecursion (λ (w : Withdrawal). MeansOutcome t list x.question c w.number w.outcome)) (sym none) tt;
    }

carried_so : (q : Question) (c d : Conclusion) → d ≡ c → RestsOnPart q c → carried_as q d ≡ Some c
carried_so q c d same rests =
    ap (carried_as q) same ∙ ap (λ (b : Bool). if b then Some c else None) rests

conclusion_is : (q : Question) (v : Verdict) (c : Conclusion) → Concludes c v → RestsOnPart q c → carried_conclusion q v ≡ Some c
conclusion_is q (verdicts.Yes proof) c same rests = carried_so q c Yes same rests
conclusion_is q (verdicts.No proof) c same rests = carried_so q c No same rests
conclusion_is q (verdicts.Contradiction proof) c same rests = carried_so q c Contradiction same rests
conclusion_is q (verdicts.Wide system note) c same rests = absurd same

-- an answer concludes one thing
one_conclusion : (v : Verdict) (c d : Conclusion) → Concludes c v → Concludes d v → c ≡ d
one_conclusion (verdicts.Yes proof) c d first second = sym first ∙ second
one_conclusion (verdicts.No proof) c d first second = sym first ∙ second
one_conclusion (verdicts.Contradiction proof) c d first second = sym first ∙ second
one_conclusion (verdicts.Wide system note) c d first second = absurd first

-- where statements are named, which carry it
named_means : (t : DecisionTable) (list : List Numbered) (x : Answer) (told : Option Reason) (f : CoreFound) (c : Conclusion) → IsStrictlyIncreasing (numbers_in list) → Concludes c x.verdict → RestsOnPart x.question c → Answers t (statements_in list) x.question c → IsCoreBeside t list told x f → MeansCore t list x told f
named_means t list x told f c up concludes rests whole h =
    let q = x.question in
    let are : AreWithdrawals t list x.question c (named_by told) f.withdrawals = subst (λ (o : Option Conclusion). IsCoreOf t list x.question (named_by told) o f) (conclusion_is x.question x.verdict c concludes rests) h in
    record {
      numbers = zip_map (IsWithdrawal t list q c) (λ (w : Withdrawal). w.number) (named_by told) f.withdrawals (λ n w is. is.0) are;
      each = λ d same.
          subst (λ (e : Conclusion). AllByRecursion (λ (w : Withdrawal). MeansOutcome t list x.question e w.number w.outcome) f.withdrawals) (one_conclusion x.verdict c d concludes same)
          (zip_each (IsWithdrawal t list q c) (λ (w : Withdrawal). MeansOutcome t list x.question c w.number w.outcome) (named_by told) f.withdrawals
          (λ n w is. outcome_means t list q c w.number w.outcome up rests whole (subst (λ (m : ℕ). IsOutcome t list x.question c m w.outcome) (sym is.0) is.1)) are);
    }

core_means : (t : DecisionTable) (list : List Numbered) (x : Answer) (told : Option Reason) (f : CoreFound) → IsStrictlyIncreasing (numbers_in list) → MeansTold t list x told → IsCoreBeside t list told x f → MeansCore t list x told f
core_means t list x (Some (reasons.Carried r)) f up means h = named_means t list x (Some (reasons.Carried r)) f means.0 up means.1 means.3.reduct.rests means.2 h
core_means t list x (Some (reasons.Wide ns y others)) f up means h = named_means t list x (Some (reasons.Wide ns y others)) f means.0 up means.1 means.3.rests means.2 h
core_means t list x (Some (reasons.OneHas y)) f up means h = nothing_means t list x (Some (reasons.OneHas y)) f refl h
core_means t list x (Some (reasons.OneLacks y)) f up means h = nothing_means t list x (Some (reasons.OneLacks y)) f refl h
core_means t list x (Some (reasons.ClassLeft y)) f up means h = nothing_means t list x (Some (reasons.ClassLeft y)) f refl h
core_means t list x (Some (reasons.WhollyWide system note)) f up means h = nothing_means t list x (Some (reasons.WhollyWide system note)) f refl h
core_means t list x None f up means h = nothing_means t list x None f refl h

-- ---- of a line

-- of what stood at the line
cores_of : (g : Ground) (fs : List LineFound) (cs : List LineCores) (i : ℕ) (line : LineFound) (cores : LineCores) (x : KeptLine) → AreCoresFound g fs cs → slice_get fs i ≡ Some line → slice_get cs i ≡ Some cores → slice_get g.kept line.place ≡ Some x → AreCoresOver g.table (answers_of x.block.body) x.standing line.told cores.cores
cores_of g fs cs i line cores x found at_line at_cores at =
    subst (λ (o : Option KeptLine). AreCoresWhere g.table line.told o cores.cores) at (made_at (AreLineCores g) fs cs i line cores at_line at_cores found)

each_means : (m : Meant) (g : Ground) (fs : List LineFound) (cs : List LineCores) (i k : ℕ) (line : LineFound) (cores : LineCores) (told : Told) (f : CoreFound) (x : KeptLine) (list : List Numbered) (answer : Answer) → IsJudged g → AreLinesFound m g fs → AreCoresFound g fs cs → slice_get fs i ≡ Some line → slice_get cs i ≡ Some cores → slice_get line.told k ≡ Some told → slice_get cores.cores k ≡ Some f → slice_get g.kept line.place ≡ Some x → x.standing ≡ Some list → slice_get (answers_of x.block.body) told.answer ≡ Some answer → MeansCore g.table list answer told.reason f
each_means m g fs cs i k line cores told f x list answer judged are found at_line at_cores at_told at_core at stood at_answer =
    let t = g.table in
    let xs = answers_of x.block.body in
    let means = told_mean m g fs line k told x list answer judged are (contains_at fs i line at_line) at_told at stood at_answer in
    let over = all_at (IsReady g.table) g.kept line.place x judged.ready at list stood in
    let all : AreCores g.table list (answers_of x.block.body) line.told cores.cores = subst (λ (o : Option (List Numbered)). AreCoresOver g.table (answers_of x.block.body) o line.told cores.cores) stood (cores_of g fs cs i line cores x found at_line at_cores at) in
    let one = made_at (IsCoreAt t list xs) line.told cores.cores k told f at_told at_core all in
    core_means t list answer told.reason f over.rising means (subst (λ (o : Option Answer). IsCoreWhere g.table list told.reason o f) at_answer one)

as_many : (m : Meant) (t : DecisionTable) (xs : List Answer) (o : Option (List Numbered)) (told : List Told) (fs : List CoreFound) → AreToldOver m t xs o told → AreCoresOver t xs o told fs → length fs ≡ length told
as_many m t xs (Some list) told fs are found = zip_length (IsCoreAt t list xs) told fs found
as_many m t xs None told fs are found = ap (λ (gs : List CoreFound). length gs) found ∙ sym (ap (λ (gs : List Told). length gs) are)

all_told : (m : Meant) (g : Ground) (fs : List LineFound) (cs : List LineCores) (i : ℕ) (line : LineFound) (cores : LineCores) → AreLinesFound m g fs → AreCoresFound g fs cs → slice_get fs i ≡ Some line → slice_get cs i ≡ Some cores → length cores.cores ≡ length line.told
all_told m g fs cs i line cores are found at_line at_cores =
    let one = made_for (IsLineFound m g) (explained_places g.kept) fs line (contains_at fs i line at_line) are in
    let x = one.1.0 in
    let at : slice_get g.kept line.place ≡ Some one.1.0 = ap (λ (n : ℕ). slice_get g.kept n) one.1.2.place ∙ one.1.1 in
    as_many m g.table (answers_of x.block.body) x.standing line.told cores.cores one.1.2.told (cores_of g fs cs i line cores x found at_line at_cores at)

pub cores_are_meant : CoresAreMeant
cores_are_meant = record {
  each = each_means;
  lines = λ g fs cs found. zip_length (AreLineCores g) fs cs found;
  all = all_told;
}
