-- All that is found of a judged ground means what it says.
use Rattle.std.proofs.Common.{◌≡◌, ℕ, List, [], ◌∷◌, length, Option, Some, None, refl, sym, ap, subst, ◌∙◌}
use Rattle.std.specs.Prelude.{Contains, slice_get}
use Rattle.std.specs.List.{AllByRecursion}
use Rattle.ror_text.proofs.Everywhere.{all_at}
use Rattle.ror_statement.specs.declared.statement.Numbered.{Numbered}
use Rattle.ror_statement.specs.declared.statement.Statement.{Statement}
use Rattle.ror_statement.specs.Statements.{statements_in}
use Rattle.ror_table.specs.Table.{DecisionTable}
use Rattle.ror_proof.specs.declared.answer.Answer.{Answer}
use Rattle.ror_report.specs.Text.{answers_of}
use Rattle.ror_show_ground.specs.Grounds.{Ground, IsJudged}
use Rattle.ror_show_ground.specs.Ready.{IsReady}
use Rattle.ror_show_ground.proofs.Lists.{zip_by}
use Rattle.ror_show_find_relation.specs.Cells.{cell_rows}
use Rattle.ror_show_find_relation.specs.CellLaws.{AreTrueAnswers}
use Rattle.ror_show_find_classes.specs.Signs.{alternative_of}
use Rattle.ror_show_find_whatif.specs.declared.classes.ClassEffect.{ClassEffect}
use Rattle.ror_show_find_whatif.specs.declared.classes.ClassShift.{ClassShift}
use Rattle.ror_show_find_whatif.specs.declared.classes.ClassShift.TheVariants as class_shifts
use Rattle.ror_show_find_whatif.specs.declared.cases.Case.{Case}
use Rattle.ror_show_find_whatif.specs.declared.cases.Contrary.{Contrary}
use Rattle.ror_show_find_whatif.specs.declared.times.TimeWhatIf.{TimeWhatIf}
use Rattle.ror_show_find_whatif.specs.declared.whatif.WhatIf.{WhatIf}
use Rattle.ror_show_find_whatif.specs.declared.outcome.Asks.{Asks}
use Rattle.ror_show_find_whatif.specs.declared.outcome.Asks.TheVariants.{Relation, Classes}
use Rattle.ror_show_find_whatif.specs.declared.outcome.Effect.{Effect}
use Rattle.ror_show_find_whatif.specs.declared.outcome.Effect.TheVariants.{OfPairs, OfClasses}
use Rattle.ror_show_find_whatif.specs.declared.outcome.Outcome.{Outcome}
use Rattle.ror_show_find_whatif.specs.declared.pairs.PairEffect.{PairEffect}
use Rattle.ror_show_find_whatif.specs.declared.shift.Shift.{Shift}
use Rattle.ror_show_find_whatif.specs.declared.shift.Shift.TheVariants as shifts
use Rattle.ror_show_find_whatif.specs.Changed.{left_of, contrary_of, instead_of}
use Rattle.ror_show_find_whatif.specs.ClassShifts.{IsClassEffect, shifted_classes}
use Rattle.ror_show_find_whatif.specs.Cases.{IsCase, IsContraryWhere, AreCasesOver}
use Rattle.ror_show_find_whatif.specs.Findings.{IsWhatIf, relation_places, IsRowWhatIf, IsTimeWhatIf}
use Rattle.ror_show_find_whatif.specs.Laws.{WhatIfsAreMeant}
use Rattle.ror_show_find_whatif.specs.Meaning.{AgreementSays, PairsSay, ClassesSay, MeansPairs, MeansClasses, MeansEffect, MeansOutcome, MeansContrary, MeansCase, MeansOver, MeansWhatIf}
use Rattle.ror_show_find_whatif.specs.Outcomes.{AreAnswersOver, IsEffect, IsOutcome}
use Rattle.ror_show_find_whatif.specs.Shifts.{IsPairEffect, shifted_pairs}
use Rattle.ror_show_find_whatif.proofs.Agreeing.{agreement_says}
use Rattle.ror_show_find_whatif.proofs.Answering.{true_over, true_sound, same_alternative}
use Rattle.ror_show_find_whatif.proofs.ClassShifting.{listed_classes_are_so}
use Rattle.ror_show_find_whatif.proofs.Contraries.{contraries}
use Rattle.ror_show_find_whatif.proofs.Listing.{listed_are_so}
use Rattle.ror_show_find_whatif.proofs.Placing.{each_made}

-- ---- outcomes

pairs_say : (shift : Shift) (t : DecisionTable) (before after : List Statement) (n : ℕ) (xs ys : List Answer) (pairs : List (ℕ × ℕ)) → AreTrueAnswers t before xs → AreTrueAnswers t after ys → pairs ≡ shifted_pairs (cell_rows n xs) (cell_rows n ys) shift → PairsSay shift t before after pairs
pairs_say shift t before after n xs ys pairs all others are a b there =
    listed_are_so shift t before after n xs ys a b all others (subst (λ (ps : List (ℕ × ℕ)). Contains {X = ℕ × ℕ} ps (a, b)) are there)

pairs_mean : (t : DecisionTable) (before after : List Statement) (n : ℕ) (xs ys : List Answer) (f : PairEffect) → AreTrueAnswers t before xs → AreTrueAnswers t after ys → IsPairEffect (cell_rows n xs) (cell_rows n ys) f → MeansPairs t before after f
pairs_mean t before after n xs ys f all others is = record {
  lost = pairs_say shifts.Lost t before after n xs ys f.lost all others is.lost;
  weaker = pairs_say shifts.Weaker t before after n xs ys f.weaker all others is.weaker;
  won = pairs_say shifts.Won t before after n xs ys f.won all others is.won;
  stronger = pairs_say shifts.Stronger t before after n xs ys f.stronger all others is.stronger;
}

classes_say : (shift : ClassShift) (t : DecisionTable) (before after : List Statement) (n : ℕ) (xs ys : List Answer) (classes : List ℕ) → AreTrueAnswers t before xs → AreTrueAnswers t after ys → alternative_of xs ≡ alternative_of ys → classes ≡ shifted_classes n xs ys shift → ClassesSay shift t before after (alternative_of xs) classes
classes_say shift t before after n xs ys classes all others same are h there =
    listed_classes_are_so shift t before after xs ys n h all others same (subst (λ (hs : List ℕ). Contains {X = ℕ} hs h) are there)

classes_mean : (t : DecisionTable) (before after : List Statement) (n : ℕ) (xs ys : List Answer) (f : ClassEffect) → AreTrueAnswers t before xs → AreTrueAnswers t after ys → alternative_of xs ≡ alternative_of ys → IsClassEffect n xs ys f → MeansClasses t before after (alternative_of xs) f
classes_mean t before after n xs ys f all others same is = record {
  opened = classes_say class_shifts.Opened t before after n xs ys f.opened all others same is.opened;
  closed = classes_say class_shifts.Closed t before after n xs ys f.closed all others same is.closed;
  loosened = classes_say class_shifts.Loosened t before after n xs ys f.loosened all others same is.loosened;
  bound = classes_say class_shifts.Bound t before after n xs ys f.bound all others same is.bound;
}

effect_means : (asks : Asks) (t : DecisionTable) (before after : List Statement) (xs ys : List Answer) (f : Effect) → AreTrueAnswers t before xs → AreAnswersOver t after xs ys → IsEffect asks t xs ys f → MeansEffect t before after xs f
effect_means Relation t before after xs ys (OfPairs f) all are is = pairs_mean t before after (length t.alternatives) xs ys f all (true_over t after xs ys are) is
effect_means Relation t before after xs ys (OfClasses f) all are is = absurd is
effect_means Classes t before after xs ys (OfPairs f) all are is = absurd is
effect_means Classes t before after xs ys (OfClasses f) all are is = classes_mean t before after t.classes xs ys f all (true_over t after xs ys are) (same_alternative t after xs ys are) is

outcome_means : (t : DecisionTable) (asks : Asks) (before after : List Statement) (xs : List Answer) (f : Outcome) → AreTrueAnswers t before xs → IsOutcome t asks xs after f → MeansOutcome t before after xs f
outcome_means t asks before after xs f all is = record {
  agreement = subst (AgreementSays t after) (sym is.agreement) (agreement_says t after is.answers (true_over t after xs is.answers is.are));
  effect = effect_means asks t before after xs is.answers f.effect all is.are is.effect;
}

-- ---- statements

contrary_means : (t : DecisionTable) (asks : Asks) (list : List Numbered) (xs : List Answer) (x : Numbered) (o : Option Statement) (found : Option Contrary) (c : Contrary) → AreTrueAnswers t (statements_in list) xs → contrary_of x.statement ≡ o → IsContraryWhere t asks list xs x o found → found ≡ Some c → MeansContrary t list xs x c
contrary_means t asks list xs x (Some s) found c all of are is =
    let same : are.0 ≡ c = let p = sym are.2 ∙ is in cc in
    subst (MeansContrary t list xs x) same (record {
      contrary = contraries t x.statement are.0.statement (of ∙ ap Some (sym are.1.statement));
      outcome = outcome_means t asks (statements_in list) (instead_of x.number are.0.statement list) xs are.0.outcome all
          (subst (λ (r : Statement). IsOutcome t asks xs (instead_of x.number r list) are.0.outcome) (sym are.1.statement) are.1.outcome);
    })
contrary_means t asks list xs x None found c all of are is = absurd (let p = sym are ∙ is in cc)

case_means : (t : DecisionTable) (asks : Asks) (list : List Numbered) (xs : List Answer) (x : Numbered) (f : Case) → AreTrueAnswers t (statements_in list) xs → IsCase t asks list xs x f → MeansCase t list xs x f
case_means t asks list xs x f all is = record {
  stated = is.stated;
  withdrawn = outcome_means t asks (statements_in list) (left_of (x.number ∷ []) list) xs f.withdrawn all is.withdrawn;
  contrary = λ c at. contrary_means t asks list xs x (contrary_of x.statement) f.contrary c all refl is.contrary at;
}

-- ---- lines

over_means : (asks : Asks) (g : Ground) (n : ℕ) (f : WhatIf) (list : List Numbered) → IsJudged g → (is : IsWhatIf asks g n f) → is.line.standing ≡ Some list → MeansOver g.table list (answers_of is.line.block.body) f
over_means asks g n f list judged is stood =
    let over = all_at (IsReady g.table) g.kept n is.line judged.ready is.there list stood in
    let xs = answers_of is.line.block.body in
    let all = true_sound g.table (statements_in list) xs over.lawful over.sound in
    record {
      agreement = subst (AgreementSays g.table (statements_in list)) (sym is.agreement) (agreement_says g.table (statements_in list) xs all);
      cases = zip_by (IsCase g.table asks list xs) (MeansCase g.table list xs) list f.cases (λ x c case. case_means g.table asks list xs x c all case)
          (subst (λ (o : Option (List Numbered)). AreCasesOver g.table asks xs o f.cases) stood is.cases);
    }

whatif_means : (asks : Asks) (g : Ground) (n : ℕ) (f : WhatIf) → IsJudged g → IsWhatIf asks g n f → MeansWhatIf g f
whatif_means asks g n f judged is = record {
  line = is.line;
  there = ap (slice_get g.kept) is.place ∙ is.there;
  over = λ list stood. over_means asks g n f list judged is stood;
}

time_means : (g : Ground) (n : ℕ) (f : TimeWhatIf) → IsJudged g → IsTimeWhatIf g n f → AllByRecursion (MeansWhatIf g) f.rows
time_means g n f judged is = each_made (IsRowWhatIf g) (MeansWhatIf g) f.time.rows f.rows (λ row w at. whatif_means Classes g row.place w judged at) is.rows

pub whatifs_are_meant : WhatIfsAreMeant
whatifs_are_meant = record {
  relations = λ g fs judged are. each_made (IsWhatIf Relation g) (MeansWhatIf g) (relation_places g.session g.kept) fs (λ n f is. whatif_means Relation g n f judged is) are;
  classes = λ g fs judged are. each_made (IsTimeWhatIf g) (λ f. AllByRecursion (MeansWhatIf g) f.rows) _ fs (λ n f is. time_means g n f judged is) are;
}
