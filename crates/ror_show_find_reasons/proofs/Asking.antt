-- The questions in what is found may be asked of the table.
use Rattle.std.proofs.Common.{◌≡◌, inl, inr, ℕ, zero, suc, ◌<◌, List, [], ◌∷◌, length, Option, Some, None, refl, sym, subst, arith}
use Rattle.std.specs.Prelude.{slice_get}
use Rattle.std.specs.List.{AllByRecursion, AllZip}
use Rattle.ror_text.proofs.Everywhere.{all_at}
use Rattle.ror_statement.specs.declared.statement.Numbered.{Numbered}
use Rattle.ror_statement.specs.declared.question.Conclusion.{Conclusion}
use Rattle.ror_statement.specs.declared.question.Question.{Question}
use Rattle.ror_statement.specs.declared.question.Question.TheVariants.{Consistent}
use Rattle.ror_statement.specs.Statements.{statements_in}
use Rattle.ror_table.specs.Table.{DecisionTable}
use Rattle.ror_value.specs.Over.{IsAskedIn}
use Rattle.ror_proof.specs.declared.answer.Answer.{Answer}
use Rattle.ror_proof.specs.declared.answer.Verdict.{Verdict}
use Rattle.ror_proof.specs.declared.answer.Verdict.TheVariants as verdicts
use Rattle.ror_show_ground.specs.Sound.{IsSoundAnswer}
use Rattle.ror_pivot.specs.declared.note.Bits.TheVariants.{B127}
use Rattle.ror_pivot.specs.Answers.{most_of}
use Rattle.ror_reason.specs.declared.reducts.Reason.{Reason}
use Rattle.ror_reason.specs.declared.reducts.Reason.TheVariants as reasons
use Rattle.ror_reason.specs.Reasons.{IsReasonOf, IsWhollyWide}
use Rattle.ror_report.specs.Text.{answers_of}
use Rattle.ror_bench.specs.declared.kept.KeptLine.{KeptLine}
use Rattle.ror_show_ground.specs.Ready.{IsReady}
use Rattle.ror_show_ground.specs.Grounds.{Ground, IsJudged}
use Rattle.ror_show_ground.proofs.Lists.{places_within, picked_within}
use Rattle.ror_show_find_reasons.specs.declared.lines.Meant.{Meant}
use Rattle.ror_show_find_reasons.specs.declared.lines.Meant.TheVariants.{All, Between, Carried}
use Rattle.ror_show_find_reasons.specs.declared.lines.Told.{Told}
use Rattle.ror_show_find_reasons.specs.declared.lines.DropFound.{DropFound}
use Rattle.ror_show_find_reasons.specs.declared.lines.LineFound.{LineFound}
use Rattle.ror_show_find_reasons.specs.Carrying.{IsReasonFor, HasReason, IsTold}
use Rattle.ror_show_find_reasons.specs.Lines.{is_told_at, told_places, IsToldAt, AreTold, AreToldOver, clash_list, IsConflict, is_dropped_at, dropped_places, IsDropAt, AreDrops, AreDropsOver, is_explained, explained_places, IsLineFound, AreLinesFound, AsksIn, AsksOf, AreAsked}

-- ---- one reason

asks : (most : ℕ) (t : DecisionTable) (list : List Numbered) (q : Question) (c : Conclusion) (reason : Reason) → IsAskedIn t q → IsReasonOf most t list q c reason → AsksIn t reason
asks most t list q c (reasons.Carried x) asked h = subst (IsAskedIn t) (sym h.0.answer.question) asked
asks most t list q c (reasons.Wide ns x others) asked h = subst (IsAskedIn t) (sym h.answer.question) asked
asks most t list q c (reasons.OneHas x) asked h = subst (IsAskedIn t) (sym h.1.proved.question) asked
asks most t list q c (reasons.OneLacks x) asked h = subst (IsAskedIn t) (sym h.1.proved.question) asked
asks most t list q c (reasons.ClassLeft x) asked h = subst (IsAskedIn t) (sym h.1.proved.question) asked
asks most t list q c (reasons.WhollyWide system note) asked h = tt

asks_for : (t : DecisionTable) (list : List Numbered) (q : Question) (v : Verdict) (reason : Reason) → IsAskedIn t q → IsReasonFor t list q v reason → AsksIn t reason
unfolding IsReasonFor
asks_for t list q (verdicts.Yes proof) reason asked h = asks (most_of B127) t list q _ reason asked h
asks_for t list q (verdicts.No proof) reason asked h = asks (most_of B127) t list q _ reason asked h
asks_for t list q (verdicts.Contradiction proof) reason asked h = asks (most_of B127) t list q _ reason asked h
asks_for t list q (verdicts.Wide system note) reason asked h = absurd h

of_some : (t : DecisionTable) (list : List Numbered) (q : Question) (v : Verdict) (told : Option Reason) → IsAskedIn t q → HasReason t list q v told → AsksOf t told
of_some t list q v told asked h = subst (AsksOf t) (sym h.3) (asks_for t list q v h.0 asked h.1)

of_told : (t : DecisionTable) (list : List Numbered) (q : Question) (v : Verdict) (told : Option Reason) → IsAskedIn t q → IsTold t list q v told → AsksOf t told
of_told t list q (verdicts.Yes proof) told asked h = of_some t list q (verdicts.Yes proof) told asked h
of_told t list q (verdicts.No proof) told asked h = of_some t list q (verdicts.No proof) told asked h
of_told t list q (verdicts.Contradiction proof) told asked h = of_some t list q (verdicts.Contradiction proof) told asked h
of_told t list q (verdicts.Wide system note) told asked h = subst (AsksOf t) (sym h) tt

wholly : (most : ℕ) (t : DecisionTable) (list : List Numbered) (reason : Reason) → IsWhollyWide most t list Consistent reason → AsksIn t reason
wholly most t list (reasons.Carried x) h = absurd h
wholly most t list (reasons.Wide ns x others) h = absurd h
wholly most t list (reasons.OneHas x) h = absurd h
wholly most t list (reasons.OneLacks x) h = absurd h
wholly most t list (reasons.ClassLeft x) h = absurd h
wholly most t list (reasons.WhollyWide system note) h = tt

of_conflict : (t : DecisionTable) (list : List Numbered) (reason : Reason) → IsConflict t list reason → AsksIn t reason
unfolding IsConflict
of_conflict t list reason conflict = elim conflict [
  | inl so ↦ asks (most_of B127) t list Consistent so.0 reason tt so.2
  | inr nothing ↦ wholly (most_of B127) t list reason nothing
]

-- ---- lists of them

-- what was made for each place that is within
each_made : {Y : Type 0} (n : ℕ) (P : Y → Type 0) (R : ℕ → Y → Type 0) (ks : List ℕ) (ys : List Y) → ((k : ℕ) (y : Y) → k < n → R k y → P y) → AllByRecursion (λ k. k < n) ks → AllZip R ks ys → AllByRecursion P ys
each_made n P R [] [] brings within all = tt
each_made n P R [] (y ∷ ys) brings within all = absurd all
each_made n P R (k ∷ ks) [] brings within all = absurd all
each_made n P R (k ∷ ks) (y ∷ ys) brings within all = (brings k y within.0 all.0, each_made n P R ks ys brings within.1 all.1)

there_is : {X : Type 0} (xs : List X) (k : ℕ) → k < length xs → (x : X) × (slice_get xs k ≡ Some x)
there_is [] k within = absurd (omega (arith, within))
there_is (x ∷ xs) zero within = (x, refl)
there_is (x ∷ xs) (suc k) within = there_is xs k (omega (arith, within))

all_told : (m : Meant) (t : DecisionTable) (list : List Numbered) (xs : List Answer) (fs : List Told) → AllByRecursion (IsSoundAnswer t (statements_in list)) xs → AreTold m t list xs fs → AllByRecursion (λ x. AsksOf t x.reason) fs
all_told m t list xs fs sound are =
    each_made (length xs) (λ x. AsksOf t x.reason) (IsToldAt t list xs) (told_places m xs) fs one (picked_within (is_told_at m xs) (length xs)) are
  where
    one : (k : ℕ) (f : Told) → k < length xs → IsToldAt t list xs k f → AsksOf t f.reason
    one k f within is =
        let x = there_is xs k within in
        of_told t list x.0.question x.0.verdict f.reason (all_at (IsSoundAnswer t (statements_in list)) xs k x.0 sound x.1).asked (is.1 x.0 x.1)

told_over : (m : Meant) (t : DecisionTable) (x : KeptLine) (o : Option (List Numbered)) (fs : List Told) → x.standing ≡ o → IsReady t x → AreToldOver m t (answers_of x.block.body) o fs → AllByRecursion (λ f. AsksOf t f.reason) fs
told_over m t x (Some list) fs stood ready are = all_told m t list (answers_of x.block.body) fs (ready list stood).sound are
told_over m t x None fs stood ready are = subst (AllByRecursion (λ (f : Told). AsksOf t f.reason)) (sym are) tt

all_drops : (m : Meant) (t : DecisionTable) (list : List Numbered) (dropped : List ℕ) (fs : List DropFound) → AreDrops m t list dropped fs → AllByRecursion (λ f. AsksIn t f.conflict) fs
all_drops All t list dropped fs are =
    each_made (length list) (λ f. AsksIn t f.conflict) (IsDropAt t list dropped) (dropped_places dropped list) fs one (picked_within (is_dropped_at dropped list) (length list)) are
  where
    one : (k : ℕ) (f : DropFound) → k < length list → IsDropAt t list dropped k f → AsksIn t f.conflict
    one k f within is =
        let x = there_is list k within in
        of_conflict t (clash_list dropped list k x.0) f.conflict (is.1 x.0 x.1).1
all_drops (Between p) t list dropped fs are = subst (AllByRecursion (λ (f : DropFound). AsksIn t f.conflict)) (sym are) tt
all_drops Carried t list dropped fs are = subst (AllByRecursion (λ (f : DropFound). AsksIn t f.conflict)) (sym are) tt

drops_over : (m : Meant) (t : DecisionTable) (dropped : List ℕ) (o : Option (List Numbered)) (fs : List DropFound) → AreDropsOver m t dropped o fs → AllByRecursion (λ f. AsksIn t f.conflict) fs
drops_over m t dropped (Some list) fs are = all_drops m t list dropped fs are
drops_over m t dropped None fs are = subst (AllByRecursion (λ (f : DropFound). AsksIn t f.conflict)) (sym are) tt

pub all_asked : (m : Meant) (g : Ground) (fs : List LineFound) → IsJudged g → AreLinesFound m g fs → AllByRecursion (AreAsked g.table) fs
all_asked m g fs judged are =
    each_made (length g.kept) (AreAsked g.table) (IsLineFound m g) (explained_places g.kept) fs one (places_within is_explained g.kept) are
  where
    one : (n : ℕ) (f : LineFound) → n < length g.kept → IsLineFound m g n f → AreAsked g.table f
    one n f within is = record {
      told = told_over m g.table is.0 is.0.standing f.told refl (all_at (IsReady g.table) g.kept n is.0 judged.ready is.1) is.2.told;
      drops = drops_over m g.table _ is.0.standing f.drops is.2.drops;
    }
