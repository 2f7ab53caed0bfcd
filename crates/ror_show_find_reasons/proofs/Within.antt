-- That by statements which exclude the class next to what is left, no function has the alternative beyond it.
use Rattle.std.proofs.Common.{◌≡◌, inl, inr, ℕ, zero, suc, ◌≤◌, List, [], ◌∷◌, ℤ, Some, sym, ap, ◌∙◌, arith}
use Rattle.std.specs.Prelude.{slice_get}
use Rattle.std.specs.List.{AllByRecursion}
use Rattle.ror_text.proofs.Everywhere.{all-by}
use Rattle.ror_statement.specs.declared.statement.Assignment.{Assignment}
use Rattle.ror_statement.specs.declared.statement.Numbered.{Numbered}
use Rattle.ror_statement.specs.declared.statement.Statement.{Statement}
use Rattle.ror_statement.specs.declared.question.Conclusion.TheVariants.{No}
use Rattle.ror_statement.specs.declared.question.Property.TheVariants.{InClass}
use Rattle.ror_statement.specs.declared.question.Question.TheVariants.{PossibleClass}
use Rattle.ror_statement.specs.Statements.{assignment_of, statements_in}
use Rattle.ror_statement.proofs.Sublists.{IsSublist, all-sublist}
use Rattle.ror_table.specs.Table.{DecisionTable}
use Rattle.ror_value.specs.Over.{IsLawfulIn}
use Rattle.ror_value.specs.Laws.{MeetsEach, IsHighEnough, IsLowEnough}
use Rattle.ror_value.specs.Meaning.{Has, IsCompatible, worst_class, best_class}
use Rattle.ror_value.proofs.Classes.{class_intervals, in_class_of_each}
use Rattle.ror_value.proofs.Ends.{all-found}
use Rattle.ror_value.proofs.MeetingEach.{meets_each, each_meets}
use Rattle.ror_proof.specs.declared.answer.Answer.{Answer}
use Rattle.ror_check.specs.Proof.{IsWideOrTrue}
use Rattle.ror_check.proofs.ManyAnswers.{wide_or_true}
use Rattle.ror_show_ground.specs.Sound.{IsSoundAnswer}
use Rattle.ror_reason.specs.Reducts.{stated, IsReduct}
use Rattle.ror_reason.proofs.Parts.{stated-within, stated_lawful}
use Rattle.ror_show_find_classes.specs.Signs.{alternative_of}
use Rattle.ror_show_find_classes.specs.Intervals.{lowest, highest}
use Rattle.ror_show_find_classes.proofs.IntervalLemmas.{intervals_true}
use Rattle.ror_show_find_reasons.proofs.OneSide.{all_above, all_below}

-- ---- with fewer statements

sublist-at : {X : Type 0} (xs ys : List X) → IsSublist xs ys → (k : ℕ) (x : X) → slice_get xs k ≡ Some x → (j : ℕ) × (slice_get ys j ≡ Some x)
sublist-at [] ys h k x there = absurd cc
sublist-at (z ∷ xs) [] h k x there = absurd h
sublist-at (z ∷ xs) (y ∷ ys) (inl h) zero x there = (0, ap Some (sym h.0) ∙ there)
sublist-at (z ∷ xs) (y ∷ ys) (inl h) (suc k) x there = let later = sublist-at xs ys h.1 k x there in (suc later.0, later.1)
sublist-at (z ∷ xs) (y ∷ ys) (inr h) k x there = let later = sublist-at (z ∷ xs) ys h k x there in (suc later.0, later.1)

meets-fewer : (t : DecisionTable) (xs ys : List Statement) (w : List ℤ) → IsSublist xs ys → MeetsEach t w ys → MeetsEach t w xs
meets-fewer t xs ys w h each = record {
  comparisons = λ k s c there is. let at = sublist-at xs ys h k s there in each.comparisons at.0 s c at.1 is;
  classes = λ j k r s x y first second is_first is_second above.
      let at = sublist-at xs ys h j r first in
      let beside = sublist-at xs ys h k s second in
      each.classes at.0 beside.0 r s x y at.1 beside.1 is_first is_second above;
}

fewer : (t : DecisionTable) (xs ys : List Statement) → IsSublist xs ys → (w : List ℤ) → IsCompatible t ys w → IsCompatible t xs w
fewer t xs ys h w compatible = record { function = compatible.function; meets = each_meets t w xs (meets-fewer t xs ys w h (meets_each t w ys compatible.meets)) }

has-fewer : (t : DecisionTable) (xs ys : List Statement) (w : List ℤ) (a h : ℕ) → 1 ≤ h → h ≤ t.classes → IsSublist xs ys → Has t ys w (InClass a h) → Has t xs w (InClass a h)
has-fewer t xs ys w a h first last sub has =
    let P : Assignment → Type 0 = λ x. IsHighEnough t w a h x × IsLowEnough t w a h x in
    let each = (all-found P assignment_of ys).0 ((in_class_of_each t ys w a h first last).0 has) in
    let less = all-sublist (λ s. (x : Assignment) → assignment_of s ≡ Some x → P x) xs ys sub each in
    (in_class_of_each t xs w a h first last).1 ((all-found P assignment_of xs).1 less)

-- ---- a function that agrees with all, and a class that it leaves

record Leaves (t : DecisionTable) (list : List Statement) (w : List ℤ) (a low high c : ℕ) : Type 0 where
  pub from : 1 ≤ c
  pub within : c ≤ t.classes
  pub has : Has t list w (InClass a c)
  pub above : low ≤ c
  pub below : c ≤ high

leaves : (t : DecisionTable) (list : List Statement) (xs : List Answer) → IsLawfulIn t list → AllByRecursion (IsSoundAnswer t list) xs → 1 ≤ t.classes → (w : List ℤ) → IsCompatible t list w → Leaves t list w (alternative_of xs) (lowest xs t.classes) (highest xs t.classes) (worst_class t list w (alternative_of xs))
leaves t list xs lawful sound some w compatible =
    let a = alternative_of xs in
    let c = worst_class t list w a in
    let true_answers = all-by (IsSoundAnswer t list) (λ x. IsWideOrTrue t list x.question x.verdict) xs (λ x is. wide_or_true t list x.question x.verdict lawful is.asked is.verdict) sound in
    let ends = class_intervals.not_empty t list w a some lawful.each_valid compatible.meets in
    let classes = class_intervals.within_classes t list w a in
    let first = classes.0 in
    let last = classes.1 in
    let within : worst_class t list w (alternative_of xs) ≤ t.classes = omega (arith, ends, last) in
    let itself : worst_class t list w (alternative_of xs) ≤ worst_class t list w (alternative_of xs) = omega arith in
    let left = (intervals_true t list xs true_answers).between c first within (w, compatible, (itself, ends)) in
    record { from = first; within = within; has = (itself, ends); above = left.0; below = left.1 }

-- ---- not beyond the end

pub not_below : (t : DecisionTable) (list : List Numbered) (xs : List Answer) (ns : List ℕ) (h : ℕ) → IsLawfulIn t (statements_in list) → AllByRecursion (IsSoundAnswer t (statements_in list)) xs → 1 ≤ h → h ≤ t.classes → suc h ≡ lowest xs t.classes → IsReduct t list (PossibleClass (alternative_of xs) h) No ns → (w : List ℤ) → IsCompatible t (stated ns list) w → lowest xs t.classes ≤ worst_class t (stated ns list) w (alternative_of xs)
not_below t list xs ns h lawful sound from within next reduct w compatible =
    let a = alternative_of xs in
    let all = statements_in list in
    let part = stated ns list in
    let u = reduct.whole.0.0 in
    let cu = reduct.whole.0.1 in
    let left = leaves t all xs lawful sound (omega (arith, from, within)) u cu in
    let has = has-fewer t part all u a (worst_class t all u a) left.from left.within (stated-within list ns) left.has in
    let least = left.above in
    let most = has.1 in
    let past = all_above t part a h (stated_lawful t list ns lawful) from within (λ v cv hv. reduct.carries.1 (v, cv, hv)) u (fewer t part all (stated-within list ns) u cu) (omega (arith, next, least, most)) w compatible in
    omega (arith, next, past)

pub not_above : (t : DecisionTable) (list : List Numbered) (xs : List Answer) (ns : List ℕ) (h : ℕ) → IsLawfulIn t (statements_in list) → AllByRecursion (IsSoundAnswer t (statements_in list)) xs → 1 ≤ h → h ≤ t.classes → h ≡ suc (highest xs t.classes) → IsReduct t list (PossibleClass (alternative_of xs) h) No ns → (w : List ℤ) → IsCompatible t (stated ns list) w → best_class t (stated ns list) w (alternative_of xs) ≤ highest xs t.classes
not_above t list xs ns h lawful sound from within next reduct w compatible =
    let a = alternative_of xs in
    let all = statements_in list in
    let part = stated ns list in
    let u = reduct.whole.0.0 in
    let cu = reduct.whole.0.1 in
    let left = leaves t all xs lawful sound (omega (arith, from, within)) u cu in
    let has = has-fewer t part all u a (worst_class t all u a) left.from left.within (stated-within list ns) left.has in
    let most = left.below in
    let least = has.0 in
    let past = all_below t part a h (stated_lawful t list ns lawful) from within (λ v cv hv. reduct.carries.1 (v, cv, hv)) u (fewer t part all (stated-within list ns) u cu) (omega (arith, next, least, most)) w compatible in
    omega (arith, next, past)
