-- What is found of answers and of repairs means what it says.
use Rattle.std.proofs.Common.{◌≡◌, inl, inr, ℕ, true, false, List, length, map, Option, Some, refl, sym, ap, subst, ◌∙◌}
use Rattle.std.specs.Option.{option_map_or}
use Rattle.std.specs.Prelude.{Contains, slice_get}
use Rattle.ror_text.proofs.Everywhere.{all_at}
use Rattle.ror_statement.specs.declared.statement.Numbered.{Numbered}
use Rattle.ror_statement.specs.declared.question.Conclusion.{Conclusion}
use Rattle.ror_statement.specs.declared.question.Conclusion.TheVariants.{Yes, No, Contradiction}
use Rattle.ror_statement.specs.declared.question.Question.{Question}
use Rattle.ror_statement.specs.declared.question.Question.TheVariants as questions
use Rattle.ror_statement.specs.Statements.{statements_in}
use Rattle.ror_table.specs.Table.{DecisionTable}
use Rattle.ror_value.specs.Over.{IsLawfulIn}
use Rattle.ror_value.specs.Meaning.{Answers, IsContradictory}
use Rattle.ror_value.proofs.Conclusions.{one_conclusion}
use Rattle.ror_proof.specs.declared.answer.Answer.{Answer}
use Rattle.ror_proof.specs.declared.answer.Verdict.{Verdict}
use Rattle.ror_proof.specs.declared.answer.Verdict.TheVariants as verdicts
use Rattle.ror_check.specs.Proof.{is_wide}
use Rattle.ror_check.specs.Repair.{AreNumbersIn, IsRepair, is_among, numbers_of}
use Rattle.ror_check.proofs.Checking.{answer_is_true}
use Rattle.ror_report.specs.declared.block.Body.{Body}
use Rattle.ror_report.specs.declared.block.Body.TheVariants as bodies
use Rattle.ror_bench.specs.Blocks.{IsTrueRepair}
use Rattle.ror_show_ground.specs.Lines.{dropped_of}
use Rattle.ror_show_ground.specs.Sound.{IsSoundAnswer}
use Rattle.ror_pivot.specs.declared.note.Bits.TheVariants.{B127}
use Rattle.ror_pivot.specs.Answers.{most_of}
use Rattle.ror_reason.specs.declared.reducts.Reason.{Reason}
use Rattle.ror_reason.specs.declared.reducts.Reason.TheVariants as reasons
use Rattle.ror_reason.specs.Reasons.{IsReasonOf, IsWhollyWide}
use Rattle.ror_reason.specs.Reducts.{stated, Concludes}
use Rattle.ror_reason.proofs.Parts.{numbers_none}
use Rattle.ror_reason.proofs.LawLemmas.{concluded}
use Rattle.ror_report.specs.Text.{answers_of}
use Rattle.ror_bench.specs.declared.kept.KeptLine.{KeptLine}
use Rattle.ror_show_ground.specs.Ready.{IsReady}
use Rattle.ror_show_ground.specs.Grounds.{Ground, IsJudged}
use Rattle.ror_show_find_reasons.specs.declared.lines.Meant.{Meant}
use Rattle.ror_show_find_reasons.specs.declared.lines.Meant.TheVariants.{All, Between, Carried}
use Rattle.ror_show_find_reasons.specs.declared.lines.Told.{Told}
use Rattle.ror_show_find_reasons.specs.declared.lines.DropFound.{DropFound}
use Rattle.ror_show_find_reasons.specs.declared.lines.LineFound.{LineFound}
use Rattle.ror_show_find_reasons.specs.Carrying.{IsReasonFor, HasReason, IsTold}
use Rattle.ror_show_find_reasons.specs.Lines.{told_places, IsToldAt, AreToldOver, clash_list, IsConflict, is_dropped_at, dropped_places, IsDropOf, IsDropAt, AreDrops, AreDropsOver, dropped_by, IsLineOf, IsLineFound, explained_places, AreLinesFound}
use Rattle.ror_show_find_reasons.specs.Meaning.{MeansTold, NamesIt, MeansConflict, MeansDrop}
use Rattle.ror_show_find_reasons.proofs.Clashes.{clash_lawful}
use Rattle.ror_show_find_reasons.proofs.Conflicts.{names_it}
use Rattle.ror_show_find_reasons.proofs.Dropped.{numbers_dropped}
use Rattle.ror_show_find_reasons.proofs.Finding.{made_for, made_of, made_with, picked_pass}
use Rattle.ror_show_find_reasons.proofs.ToldLemmas.{proved}
use Rattle.ror_show_find_reasons.proofs.PairMeaning.{same_line}
use Rattle.ror_show_find_reasons.proofs.ReasonMeaning.{reduct_means, wide_means, reason_means}

-- ---- an answer

-- the answer is true of what stood
answered : (t : DecisionTable) (list : List Numbered) (x : Answer) (c : Conclusion) → IsLawfulIn t (statements_in list) → IsSoundAnswer t (statements_in list) x → is_wide x.verdict ≡ false → Concludes c x.verdict → Answers t (statements_in list) x.question c
answered t list x c lawful sound narrow concludes =
    concluded t (statements_in list) x.question c x.verdict (answer_is_true t (statements_in list) x.question x lawful sound.asked (proved t (statements_in list) x narrow sound)) concludes

some_means : (t : DecisionTable) (list : List Numbered) (q : Question) (v : Verdict) (reason : Reason) → IsLawfulIn t (statements_in list) → IsSoundAnswer t (statements_in list) (record { question = q; verdict = v }) → IsReasonFor t list q v reason → MeansTold t list (record { question = q; verdict = v }) (Some reason)
unfolding IsReasonFor
some_means t list q (verdicts.Yes proof) reason lawful sound h = (Yes, refl, answered t list (record { question = q; verdict = verdicts.Yes proof }) Yes lawful sound refl refl, reason_means t list q Yes reason lawful sound.asked h)
some_means t list q (verdicts.No proof) reason lawful sound h = (No, refl, answered t list (record { question = q; verdict = verdicts.No proof }) No lawful sound refl refl, reason_means t list q No reason lawful sound.asked h)
some_means t list q (verdicts.Contradiction proof) reason lawful sound h = (Contradiction, refl, answered t list (record { question = q; verdict = verdicts.Contradiction proof }) Contradiction lawful sound refl refl, reason_means t list q Contradiction reason lawful sound.asked h)
some_means t list q (verdicts.Wide system note) reason lawful sound h = absurd h

has_means : (t : DecisionTable) (list : List Numbered) (x : Answer) (told : Option Reason) → IsLawfulIn t (statements_in list) → IsSoundAnswer t (statements_in list) x → HasReason t list x.question x.verdict told → MeansTold t list x told
has_means t list x told lawful sound h = subst (MeansTold t list x) (sym h.3) (some_means t list x.question x.verdict h.0 lawful sound h.1)

told_means : (t : DecisionTable) (list : List Numbered) (q : Question) (v : Verdict) (told : Option Reason) → IsLawfulIn t (statements_in list) → IsSoundAnswer t (statements_in list) (record { question = q; verdict = v }) → IsTold t list q v told → MeansTold t list (record { question = q; verdict = v }) told
told_means t list q (verdicts.Yes proof) told lawful sound h = has_means t list (record { question = q; verdict = verdicts.Yes proof }) told lawful sound h
told_means t list q (verdicts.No proof) told lawful sound h = has_means t list (record { question = q; verdict = verdicts.No proof }) told lawful sound h
told_means t list q (verdicts.Contradiction proof) told lawful sound h = has_means t list (record { question = q; verdict = verdicts.Contradiction proof }) told lawful sound h
told_means t list q (verdicts.Wide system note) told lawful sound h = subst (MeansTold t list (record { question = q; verdict = verdicts.Wide system note })) (sym h) tt

-- ---- answers

-- of what stood at a line, as it is kept
at_line : (m : Meant) (g : Ground) (fs : List LineFound) (f : LineFound) (x : KeptLine) → AreLinesFound m g fs → Contains fs f → slice_get g.kept f.place ≡ Some x → (n : ℕ) × IsLineOf m g n x f
at_line m g fs f x are there at =
    let one = made_for (IsLineFound m g) (explained_places g.kept) fs f there are in
    let is = one.1 in
    let same = same_line g.kept one.0 f.place is.0 x is.1 is.2.place at in
    (one.0, subst (λ (y : KeptLine). IsLineOf m g one.0 y f) same is.2)

pub told_mean : (m : Meant) (g : Ground) (fs : List LineFound) (f : LineFound) (k : ℕ) (told : Told) (x : KeptLine) (list : List Numbered) (answer : Answer) → IsJudged g → AreLinesFound m g fs → Contains fs f → slice_get f.told k ≡ Some told → slice_get g.kept f.place ≡ Some x → x.standing ≡ Some list → slice_get (answers_of x.block.body) told.answer ≡ Some answer → MeansTold g.table list answer told.reason
told_mean m g fs f k told x list answer judged are there at_told at stood at_answer =
    let t = g.table in
    let xs = answers_of x.block.body in
    let line = at_line m g fs f x are there at in
    let ready = all_at (IsReady g.table) g.kept f.place x judged.ready at in
    let over = ready list stood in
    let all = subst (λ (o : Option (List Numbered)). AreToldOver m g.table (answers_of x.block.body) o f.told) stood line.1.told in
    let one = made_of (IsToldAt t list xs) (told_places m xs) f.told k told at_told all in
    let of = one.1.1 answer (ap (λ (n : ℕ). slice_get xs n) (sym one.1.0) ∙ at_answer) in
    let sound = all_at (IsSoundAnswer t (statements_in list)) xs told.answer answer over.sound at_answer in
    told_means t list answer.question answer.verdict told.reason over.lawful sound of

-- ---- repairs

conflict_so : (t : DecisionTable) (clash : List Numbered) (s : Numbered) (reason : Reason) → IsLawfulIn t (statements_in clash) → ((ns : List ℕ) → AreNumbersIn clash ns → IsContradictory t (stated ns clash) → NamesIt ns s) → IsReasonOf (most_of B127) t clash questions.Consistent Contradiction reason → MeansConflict t clash s reason
conflict_so t clash s (reasons.Carried x) lawful names h = (reduct_means t clash questions.Consistent Contradiction x lawful tt h.0 h.1, names x.numbers h.1.numbers h.1.carries)
conflict_so t clash s (reasons.Wide ns x others) lawful names h = (wide_means t clash questions.Consistent Contradiction ns x others lawful tt h, names ns h.numbers h.carries)
conflict_so t clash s (reasons.OneHas x) lawful names h = absurd (let p = h.0 in cc)
conflict_so t clash s (reasons.OneLacks x) lawful names h = absurd (let p = h.0 in cc)
conflict_so t clash s (reasons.ClassLeft x) lawful names h = absurd (let p = h.0 in cc)
conflict_so t clash s (reasons.WhollyWide system note) lawful names h = absurd h

conflict_wide : (t : DecisionTable) (clash : List Numbered) (s : Numbered) (reason : Reason) → IsContradictory t (statements_in clash) → IsWhollyWide (most_of B127) t clash questions.Consistent reason → MeansConflict t clash s reason
conflict_wide t clash s (reasons.Carried x) contradicts h = absurd h
conflict_wide t clash s (reasons.Wide ns x others) contradicts h = absurd h
conflict_wide t clash s (reasons.OneHas x) contradicts h = absurd h
conflict_wide t clash s (reasons.OneLacks x) contradicts h = absurd h
conflict_wide t clash s (reasons.ClassLeft x) contradicts h = absurd h
conflict_wide t clash s (reasons.WhollyWide system note) contradicts h = contradicts

conflict_means : (t : DecisionTable) (clash : List Numbered) (s : Numbered) (reason : Reason) → IsLawfulIn t (statements_in clash) → IsContradictory t (statements_in clash) → ((ns : List ℕ) → AreNumbersIn clash ns → IsContradictory t (stated ns clash) → NamesIt ns s) → IsConflict t clash reason → MeansConflict t clash s reason
unfolding IsConflict
conflict_means t clash s reason lawful contradicts names conflict = elim conflict [
  | inl so ↦
      let same = one_conclusion t (statements_in clash) questions.Consistent so.0 Contradiction so.1 contradicts in
      conflict_so t clash s reason lawful names (subst (λ (c : Conclusion). IsReasonOf (most_of B127) t clash questions.Consistent c reason) same so.2)
  | inr nothing ↦ conflict_wide t clash s reason contradicts nothing
]

drop_is : (t : DecisionTable) (list : List Numbered) (ds : List ℕ) (k : ℕ) (s : Numbered) (f : DropFound) → IsLawfulIn t (statements_in list) → IsRepair t list ds → k ≡ f.at → slice_get list k ≡ Some s → is_among ds s ≡ true → IsDropOf t list ds k s f → MeansDrop t list ds s f
drop_is t list ds k s f lawful repair same there among is =
    let contradicts = repair.contradicts k s there among in
    record {
      number = is.0;
      dropped = among;
      contradicts = subst (λ (n : ℕ). IsContradictory t (statements_in (clash_list ds list n s))) same contradicts;
      conflict = subst (λ (n : ℕ). MeansConflict t (clash_list ds list n s) s f.conflict) same
          (conflict_means t (clash_list ds list k s) s f.conflict (clash_lawful t ds list k s there lawful) contradicts (λ ns numbers carries. names_it t list ds k s ns repair there numbers carries) is.1);
    }

-- the places of what was dropped
dropped_there : (ds : List ℕ) (list : List Numbered) (k : ℕ) (s : Numbered) → is_dropped_at ds list k ≡ true → slice_get list k ≡ Some s → is_among ds s ≡ true
dropped_there ds list k s dropped there = ap (λ (o : Option Numbered). option_map_or (is_among ds) o false) (sym there) ∙ dropped

drop_means : (m : Meant) (t : DecisionTable) (list : List Numbered) (ds : List ℕ) (fs : List DropFound) (k : ℕ) (f : DropFound) (s : Numbered) → IsLawfulIn t (statements_in list) → (is_among ds s ≡ true → IsRepair t list ds) → AreDrops m t list ds fs → slice_get fs k ≡ Some f → slice_get list f.at ≡ Some s → MeansDrop t list ds s f
drop_means All t list ds fs k f s lawful repair are there at =
    let one = made_with (λ n. is_dropped_at ds list n ≡ true) (IsDropAt t list ds) (dropped_places ds list) fs k f (picked_pass (is_dropped_at ds list) (length list)) there are in
    let here : slice_get list one.0 ≡ Some s = ap (λ (n : ℕ). slice_get list n) (sym one.2.0) ∙ at in
    let among = dropped_there ds list one.0 s one.1 here in
    drop_is t list ds one.0 s f lawful (repair among) (sym one.2.0) here among (one.2.1 s here)
drop_means (Between p) t list ds fs k f s lawful repair are there at = absurd (let none = ap (λ (gs : List DropFound). slice_get gs k) are in cc)
drop_means Carried t list ds fs k f s lawful repair are there at = absurd (let none = ap (λ (gs : List DropFound). slice_get gs k) are in cc)

-- a line with what it dropped is a repair
repaired : (t : DecisionTable) (list : List Numbered) (body : Body) (s : Numbered) → IsTrueRepair t list body → is_among (numbers_of (dropped_of body)) s ≡ true → IsRepair t list (numbers_of (dropped_of body))
repaired t list (bodies.Repaired kept) s repair among = repair
repaired t list (bodies.Added n) s repair among = absurd (let p = among in cc)
repaired t list (bodies.Withdrawn n) s repair among = absurd (let p = among in cc)
repaired t list (bodies.Replaced n) s repair among = absurd (let p = among in cc)
repaired t list (bodies.Undone) s repair among = absurd (let p = among in cc)
repaired t list (bodies.RepairWide n note) s repair among = absurd (let p = among in cc)
repaired t list (bodies.Answers xs) s repair among = absurd (let p = among in cc)
repaired t list (bodies.Refused fault) s repair among = absurd (let p = among in cc)

pub drops_mean : (m : Meant) (g : Ground) (fs : List LineFound) (f : LineFound) (k : ℕ) (dropped : DropFound) (x : KeptLine) (list : List Numbered) (s : Numbered) → IsJudged g → AreLinesFound m g fs → Contains fs f → slice_get f.drops k ≡ Some dropped → slice_get g.kept f.place ≡ Some x → x.standing ≡ Some list → slice_get list dropped.at ≡ Some s → MeansDrop g.table list (dropped_by x) s dropped
drops_mean m g fs f k dropped x list s judged are there at_drop at stood at_statement =
    let line = at_line m g fs f x are there at in
    let ready = all_at (IsReady g.table) g.kept f.place x judged.ready at in
    let over = ready list stood in
    let all = subst (λ (o : Option (List Numbered)). AreDropsOver m g.table (dropped_by x) o f.drops) stood line.1.drops in
    drop_means m g.table list (dropped_by x) f.drops k dropped s over.lawful (repaired g.table list x.block.body s over.repair) all at_drop at_statement

-- one for each statement that was dropped
dropped_in : (t : DecisionTable) (list : List Numbered) (body : Body) → IsTrueRepair t list body → AreNumbersIn list (numbers_of (dropped_of body))
dropped_in t list (bodies.Repaired kept) repair = repair.numbers
dropped_in t list (bodies.Added n) repair = numbers_none list
dropped_in t list (bodies.Withdrawn n) repair = numbers_none list
dropped_in t list (bodies.Replaced n) repair = numbers_none list
dropped_in t list (bodies.Undone) repair = numbers_none list
dropped_in t list (bodies.RepairWide n note) repair = numbers_none list
dropped_in t list (bodies.Answers xs) repair = numbers_none list
dropped_in t list (bodies.Refused fault) repair = numbers_none list

pub drops_each : (g : Ground) (fs : List LineFound) (f : LineFound) (x : KeptLine) (list : List Numbered) → IsJudged g → AreLinesFound All g fs → Contains fs f → slice_get g.kept f.place ≡ Some x → x.standing ≡ Some list → map (λ d. d.number) f.drops ≡ dropped_by x
drops_each g fs f x list judged are there at stood =
    let line = at_line All g fs f x are there at in
    let ready = all_at (IsReady g.table) g.kept f.place x judged.ready at in
    let over = ready list stood in
    let all = subst (λ (o : Option (List Numbered)). AreDropsOver All g.table (dropped_by x) o f.drops) stood line.1.drops in
    numbers_dropped g.table list (dropped_by x) f.drops over.rising (dropped_in g.table list x.block.body over.repair) all
