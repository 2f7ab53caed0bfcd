-- More statements keep what statements carry, so reducts are least; and what is proved is true.
use Rattle.std.proofs.Common.{◌≡◌, inl, inr, ℕ, zero, suc, ◌<◌, ◌≤◌, true, List, [], ◌∷◌, length, ℤ, Some, refl, sym, ap, subst, ◌∙◌, arith}
use Rattle.std.specs.Prelude.{nat_eq, slice_get}
use Rattle.std.specs.Set.{is_member}
use Rattle.std.proofs.lemmas.Bool.{false≢true}
use Rattle.std.proofs.lemmas.Option.{slice_get_within}
use Rattle.ror_text.proofs.Everywhere.{all_by_places}
use Rattle.ror_statement.specs.declared.statement.Assignment.{Assignment}
use Rattle.ror_statement.specs.declared.statement.Statement.{Statement}
use Rattle.ror_statement.specs.declared.statement.Numbered.{Numbered}
use Rattle.ror_statement.specs.declared.question.Property.TheVariants as property
use Rattle.ror_statement.specs.declared.question.Question.{Question}
use Rattle.ror_statement.specs.declared.question.Question.TheVariants.{Consistent, Necessary, Possible, NecessaryStrength, PossibleStrength, PossibleClass, NecessaryClass}
use Rattle.ror_statement.specs.declared.question.Conclusion.{Conclusion}
use Rattle.ror_statement.specs.declared.question.Conclusion.TheVariants.{Yes, No, Contradiction}
use Rattle.ror_statement.specs.Statements.{assignment_of, statements_in}
use Rattle.ror_statement.proofs.Sublists.{IsSublist, all-sublist}
use Rattle.ror_table.specs.Table.{DecisionTable}
use Rattle.ror_value.specs.Over.{IsLawfulIn, IsAskedIn}
use Rattle.ror_value.specs.Laws.{MeetsEach, IsHighEnough, IsLowEnough}
use Rattle.ror_value.specs.Meaning.{Answers, Has, IsCompatible, IsConsistent}
use Rattle.ror_value.proofs.Classes.{class_intervals, in_class_of_each}
use Rattle.ror_value.proofs.Conclusions.{one_conclusion}
use Rattle.ror_value.proofs.Ends.{all-found}
use Rattle.ror_value.proofs.MeetingEach.{meets_each, each_meets}
use Rattle.ror_value.proofs.FewerStatements.{consistent-sublist, contradictory-sublist}
use Rattle.ror_proof.specs.declared.answer.Verdict.{Verdict}
use Rattle.ror_proof.specs.declared.answer.Verdict.TheVariants as verdicts
use Rattle.ror_check.specs.Proof.{IsTrueVerdict}
use Rattle.ror_check.proofs.Checking.{answer_is_true}
use Rattle.ror_check.proofs.Numbers.{rises, same_members}
use Rattle.ror_reason.specs.declared.reducts.Reduct.{Reduct}
use Rattle.ror_reason.specs.Reducts.{stated, without, RestsOnPart, Concludes, IsReduct, IsProvedReduct, IsProvedOther}
use Rattle.ror_reason.specs.Laws.{AreAmong, MoreStatementsKeep, ReductsAreLeast}
use Rattle.ror_reason.proofs.Parts.{member_all, all_members, among_or_not, without-member, stated-among, stated-within, stated-none, stated_lawful, numbers_none}

-- ---- with fewer statements

sublist-at : {X : Type 0} (xs ys : List X) → IsSublist xs ys → (k : ℕ) (x : X) → slice_get xs k ≡ Some x → (j : ℕ) × (slice_get ys j ≡ Some x)
sublist-at [] ys h k x there = absurd cc
sublist-at (z ∷ xs) [] h k x there = absurd h
sublist-at (z ∷ xs) (y ∷ ys) (inl h) zero x there = (0, ap Some (sym h.0) ∙ there)
sublist-at (z ∷ xs) (y ∷ ys) (inl h) (suc k) x there = let later = sublist-at xs ys h.1 k x there in (suc later.0, later.1)
sublist-at (z ∷ xs) (y ∷ ys) (inr h) k x there = let later = sublist-at (z ∷ xs) ys h k x there in (suc later.0, later.1)

-- a function that meets a list meets fewer statements
meets-fewer : (t : DecisionTable) (xs ys : List Statement) (w : List ℤ) → IsSublist xs ys → MeetsEach t w ys → MeetsEach t w xs
meets-fewer t xs ys w h each = record {
  comparisons = λ k s c there is. let at = sublist-at xs ys h k s there in each.comparisons at.0 s c at.1 is;
  classes = λ j k r s x y first second is_first is_second above.
      let at = sublist-at xs ys h j r first in
      let beside = sublist-at xs ys h k s second in
      each.classes at.0 beside.0 r s x y at.1 beside.1 is_first is_second above;
}

pub fewer : (t : DecisionTable) (xs ys : List Statement) → IsSublist xs ys → (w : List ℤ) → IsCompatible t ys w → IsCompatible t xs w
fewer t xs ys h w compatible = record { function = compatible.function; meets = each_meets t w xs (meets-fewer t xs ys w h (meets_each t w ys compatible.meets)) }

-- fewer assignments leave wider intervals of classes
has-fewer : (t : DecisionTable) (xs ys : List Statement) (w : List ℤ) (a h : ℕ) → IsSublist xs ys → Has t ys w (property.InClass a h) → Has t xs w (property.InClass a h)
has-fewer t xs ys w a h sub has =
    let ends = class_intervals.within_classes t ys w a in
    let low = ends.0 in
    let high = ends.1 in
    let worst = has.0 in
    let best = has.1 in
    let first : 1 ≤ h = omega (arith, low, worst) in
    let last : h ≤ t.classes = omega (arith, high, best) in
    let P : Assignment → Type 0 = λ x. IsHighEnough t w a h x × IsLowEnough t w a h x in
    let each = (all-found P assignment_of ys).0 ((in_class_of_each t ys w a h first last).0 has) in
    let less = all-sublist (λ s. (x : Assignment) → assignment_of s ≡ Some x → P x) xs ys sub each in
    (in_class_of_each t xs w a h first last).1 ((all-found P assignment_of xs).1 less)

-- ---- with more

pub answers_keep : (t : DecisionTable) (q : Question) (c : Conclusion) (xs ys : List Statement) → RestsOnPart q c → IsSublist xs ys → IsConsistent t ys → Answers t xs q c → Answers t ys q c
answers_keep t q Contradiction xs ys keeps sub consistent answers = contradictory-sublist t xs ys sub answers
answers_keep t (Necessary a b) Yes xs ys keeps sub consistent answers = (consistent, λ w compatible. answers.1 w (fewer t xs ys sub w compatible))
answers_keep t (NecessaryStrength p r s) Yes xs ys keeps sub consistent answers = (consistent, λ w compatible. answers.1 w (fewer t xs ys sub w compatible))
answers_keep t Consistent Yes xs ys keeps sub consistent answers = absurd cc
answers_keep t (Possible a b) Yes xs ys keeps sub consistent answers = absurd cc
answers_keep t (PossibleStrength p r s) Yes xs ys keeps sub consistent answers = absurd cc
answers_keep t (PossibleClass a h) Yes xs ys keeps sub consistent answers = absurd cc
answers_keep t (NecessaryClass a h) Yes xs ys keeps sub consistent answers = absurd cc
answers_keep t (Possible a b) No xs ys keeps sub consistent answers = (consistent, λ some. answers.1 (some.0, fewer t xs ys sub some.0 some.1, some.2))
answers_keep t (PossibleStrength p r s) No xs ys keeps sub consistent answers = (consistent, λ some. answers.1 (some.0, fewer t xs ys sub some.0 some.1, some.2))
answers_keep t (PossibleClass a h) No xs ys keeps sub consistent answers = (consistent, λ some. answers.1 (some.0, fewer t xs ys sub some.0 some.1, has-fewer t xs ys some.0 a h sub some.2))
answers_keep t Consistent No xs ys keeps sub consistent answers = absurd cc
answers_keep t (Necessary a b) No xs ys keeps sub consistent answers = absurd cc
answers_keep t (NecessaryStrength p r s) No xs ys keeps sub consistent answers = absurd cc
answers_keep t (NecessaryClass a h) No xs ys keeps sub consistent answers = absurd cc

pub more_keep : MoreStatementsKeep
more_keep = record {
  answers = λ t list q c ms ns keeps among consistent answers. answers_keep t q c (stated ms list) (stated ns list) keeps (stated-among list ms ns among) consistent answers;
  contradictions = λ t list q ms ns among answers. contradictory-sublist t (stated ms list) (stated ns list) (stated-among list ms ns among) answers;
}

-- within a list that has the answer
within_answered : (t : DecisionTable) (q : Question) (c : Conclusion) (xs ys all : List Statement) → RestsOnPart q c → IsSublist xs ys → IsSublist ys all → Answers t all q c → Answers t xs q c → Answers t ys q c
within_answered t q Contradiction xs ys all keeps sub sup whole answers = contradictory-sublist t xs ys sub answers
within_answered t q Yes xs ys all keeps sub sup whole answers = answers_keep t q Yes xs ys keeps sub (consistent-sublist t ys all sup whole.0) answers
within_answered t q No xs ys all keeps sub sup whole answers = answers_keep t q No xs ys keeps sub (consistent-sublist t ys all sup whole.0) answers

-- ---- reducts are least

pub least : (t : DecisionTable) (list : List Numbered) (q : Question) (c : Conclusion) (ms ns : List ℕ) → IsReduct t list q c ns → AreAmong ms ns → (AreAmong ns ms → ⊥) → Answers t (stated ms list) q c → ⊥
least t list q c ms ns reduct among smaller answers = elim (among_or_not ns ms) [
  | inl all ↦ smaller all
  | inr spared ↦
      let n = spared.0 in
      let within : AreAmong ms (without n ns) = all_members (λ m. is_member nat_eq (without n ns) m ≡ true) ms (λ m there. without-member n m ns (member_all (λ m. is_member nat_eq ns m ≡ true) ms among m there) (λ same. false≢true (sym spared.2 ∙ subst (λ k. is_member nat_eq ms k ≡ true) same there))) in
      member_all (λ k. Answers t (stated (without k ns) list) q c → ⊥) ns reduct.needed n spared.1
      (within_answered t q c (stated ms list) (stated (without n ns) list) (statements_in list) reduct.rests (stated-among list ms (without n ns) within) (stated-within list (without n ns)) reduct.whole answers)
]

one_of_two : (t : DecisionTable) (list : List Numbered) (q : Question) (c : Conclusion) (ms ns : List ℕ) → IsReduct t list q c ms → IsReduct t list q c ns → AreAmong ms ns → ms ≡ ns
one_of_two t list q c ms ns first second among = elim (among_or_not ns ms) [
  | inl all ↦ same_members ms ns (rises ms first.numbers.rising) (rises ns second.numbers.rising) among all
  | inr spared ↦ absurd (least t list q c ms ns second among (λ all. false≢true (sym spared.2 ∙ member_all (λ n. is_member nat_eq ms n ≡ true) ns all spared.0 spared.1)) first.carries)
]

empty_reduct : (t : DecisionTable) (list : List Numbered) (q : Question) (c : Conclusion) → RestsOnPart q c → Answers t (statements_in list) q c → Answers t [] q c → IsReduct t list q c []
empty_reduct t list q c rests whole answers = record {
  rests = rests;
  numbers = numbers_none list;
  whole = whole;
  carries = subst (λ xs. Answers t xs q c) (sym (stated-none list)) answers;
  needed = tt;
}

only_empty : (t : DecisionTable) (list : List Numbered) (q : Question) (c : Conclusion) (ns : List ℕ) → Answers t [] q c → IsReduct t list q c ns → ns ≡ []
only_empty t list q c [] answers reduct = refl
only_empty t list q c (n ∷ ns) answers reduct = absurd (least t list q c [] (n ∷ ns) reduct tt (λ all. let none = all.0 in cc) (subst (λ xs. Answers t xs q c) (sym (stated-none list)) answers))

pub reducts_least : ReductsAreLeast
reducts_least = record {
  least = least;
  neither_within = one_of_two;
  of_nothing = λ t list q c ns rests whole answers. (λ reduct. only_empty t list q c ns answers reduct, λ none. subst (IsReduct t list q c) (sym none) (empty_reduct t list q c rests whole answers));
}

-- ---- what is proved is true

-- a true verdict that concludes this says so
pub concluded : (t : DecisionTable) (xs : List Statement) (q : Question) (c : Conclusion) (v : Verdict) → IsTrueVerdict t xs q v → Concludes c v → Answers t xs q c
concluded t xs q c (verdicts.Yes proof) is same = subst (Answers t xs q) same is
concluded t xs q c (verdicts.No proof) is same = subst (Answers t xs q) same is
concluded t xs q c (verdicts.Contradiction proof) is same = subst (Answers t xs q) same is
concluded t xs q c (verdicts.Wide system note) is same = absurd is

-- and a true verdict concludes what is so
pub concludes_so : (t : DecisionTable) (xs : List Statement) (q : Question) (c : Conclusion) (v : Verdict) → IsTrueVerdict t xs q v → Answers t xs q c → Concludes c v
concludes_so t xs q c (verdicts.Yes proof) is so = one_conclusion t xs q Yes c is so
concludes_so t xs q c (verdicts.No proof) is so = one_conclusion t xs q No c is so
concludes_so t xs q c (verdicts.Contradiction proof) is so = one_conclusion t xs q Contradiction c is so
concludes_so t xs q c (verdicts.Wide system note) is so = absurd is

pub at_place : {X : Type 0} (xs : List X) (k : ℕ) → k < length xs → (x : X) × (slice_get xs k ≡ Some x)
at_place [] k lt = absurd (omega arith)
at_place (x ∷ xs) zero lt = (x, refl)
at_place (x ∷ xs) (suc k) lt = at_place xs k (omega arith)

pub proved_is_reduct : (t : DecisionTable) (list : List Numbered) (q : Question) (c : Conclusion) (x : Reduct) → IsLawfulIn t (statements_in list) → IsAskedIn t q → Answers t (statements_in list) q c → IsProvedReduct t list q c x → IsReduct t list q c x.numbers
proved_is_reduct t list q c x lawful asked whole p = record {
  rests = p.rests;
  numbers = p.numbers;
  whole = whole;
  carries = concluded t (stated x.numbers list) q c x.answer.verdict (answer_is_true t (stated x.numbers list) q x.answer (stated_lawful t list x.numbers lawful) asked p.answer) p.concludes;
  needed = all_by_places (λ n. Answers t (stated (without n x.numbers) list) q c → ⊥) x.numbers (λ k n there answers. spared k n there answers);
}
  where
    spared : (k n : ℕ) → slice_get x.numbers k ≡ Some n → Answers t (stated (without n x.numbers) list) q c → ⊥
    spared k n there answers =
        let within = slice_get_within x.numbers k n there in
        let as_many = p.as_many in
        let other = at_place x.others k (omega (arith, within, as_many)) in
        let beside : IsProvedOther t list q c x.numbers n other.0 = p.others k n other.0 there other.1 in
        let over = stated (without n x.numbers) list in
        beside.differs (concludes_so t over q c other.0.verdict (answer_is_true t over q other.0 (stated_lawful t list (without n x.numbers) lawful) asked beside.proved) answers)
