-- The answers to both questions on each class stand where their signs look for them.
use Rattle.std.proofs.Common.{◌≡◌, ◌≢◌, ℕ, zero, suc, ◌+◌, ◌-◌, ◌*◌, ◌<◌, ◌≤◌, false, List, Some, refl, sym, ap, subst, ◌∙◌, arith}
use Rattle.std.specs.Prelude.{slice_get}
use Rattle.std.specs.List.{AllByRecursion, flat_map, range_with_len}
use Rattle.ror_text.proofs.Everywhere.{all_at}
use Rattle.ror_statement.specs.declared.question.Question.{Question}
use Rattle.ror_statement.specs.declared.question.Question.TheVariants.{PossibleClass, NecessaryClass}
use Rattle.ror_proof.specs.declared.answer.Answer.{Answer}
use Rattle.ror_check.specs.Proof.{is_wide}
use Rattle.ror_classes.specs.Classes.{questions_on, class_questions}
use Rattle.ror_bench.proofs.ReportProofs.{same_number}
use Rattle.ror_show_ground.specs.declared.said.Said.{Said}
use Rattle.ror_show_ground.specs.declared.said.Said.TheVariants.{Yes, No, Contradiction, Nothing}
use Rattle.ror_show_ground.specs.Said.{said_by}
use Rattle.ror_show_find_relation.proofs.WholeCells.{behind_two, IsAnswerAt, answer_at, says_something}
use Rattle.ror_show_find_classes.specs.declared.sign.Sign.TheVariants as signs
use Rattle.ror_show_find_classes.specs.Signs.{alternative_in, alternative_of, if_necessary, if_possible, necessary_by, possible_by, sign_of}
use Rattle.ror_show_find_classes.specs.Laws.{SignsAreWhole}

pub record AreAt (qs : List Question) (a k h : ℕ) : Type 0 where
  pub possible : slice_get qs (2 * k) ≡ Some (PossibleClass a h)
  pub necessary : slice_get qs (2 * k + 1) ≡ Some (NecessaryClass a h)

questions_at : (a first count k : ℕ) → k < count → AreAt (flat_map (λ below. questions_on a (below + 1)) (range_with_len first count)) a k (first + k + 1)
questions_at a first zero k below = absurd (omega (arith, below))
questions_at a first (suc count) zero below =
    let same : first + 1 ≡ first + 0 + 1 = omega arith in
    record { possible = ap (λ (h : ℕ). Some (PossibleClass a h)) same; necessary = ap (λ (h : ℕ). Some (NecessaryClass a h)) same }
questions_at a first (suc count) (suc k) below =
    let rest = flat_map (λ below. questions_on a (below + 1)) (range_with_len (first + 1) count) in
    let at = questions_at a (first + 1) count k (omega (arith, below)) in
    let same : first + 1 + k + 1 ≡ first + suc k + 1 = omega arith in
    record {
      possible = behind_two (PossibleClass a (first + 1)) (NecessaryClass a (first + 1)) rest (2 * suc k) (2 * k) (Some (PossibleClass a (first + suc k + 1))) (omega arith) (at.possible ∙ ap (λ (h : ℕ). Some (PossibleClass a h)) same);
      necessary = behind_two (PossibleClass a (first + 1)) (NecessaryClass a (first + 1)) rest (2 * suc k + 1) (2 * k + 1) (Some (NecessaryClass a (first + suc k + 1))) (omega arith) (at.necessary ∙ ap (λ (h : ℕ). Some (NecessaryClass a h)) same);
    }

-- ---- what they say

possible_says : (a h : ℕ) (s : Said) → if_possible a h (PossibleClass a h) s ≡ s
possible_says a h s = rw (same_number a a refl, same_number h h refl) refl

necessary_says : (a h : ℕ) (s : Said) → if_necessary a h (NecessaryClass a h) s ≡ s
necessary_says a h s = rw (same_number a a refl, same_number h h refl) refl

says_possible : (xs : List Answer) (a h k : ℕ) → AllByRecursion (λ x. is_wide x.verdict ≡ false) xs → IsAnswerAt xs k (PossibleClass a h) → possible_by a h (slice_get xs k) ≢ Nothing
says_possible xs a h k narrow is =
    let same : possible_by a h (slice_get xs k) ≡ said_by is.answer.verdict = ap (possible_by a h) is.at ∙ ap (λ (q : Question). if_possible a h q (said_by is.answer.verdict)) is.question ∙ possible_says a h (said_by is.answer.verdict) in
    λ e. says_something is.answer.verdict (all_at (λ (x : Answer). is_wide x.verdict ≡ false) xs k is.answer narrow is.at) (sym same ∙ e)

says_necessary : (xs : List Answer) (a h k : ℕ) → AllByRecursion (λ x. is_wide x.verdict ≡ false) xs → IsAnswerAt xs k (NecessaryClass a h) → necessary_by a h (slice_get xs k) ≢ Nothing
says_necessary xs a h k narrow is =
    let same : necessary_by a h (slice_get xs k) ≡ said_by is.answer.verdict = ap (necessary_by a h) is.at ∙ ap (λ (q : Question). if_necessary a h q (said_by is.answer.verdict)) is.question ∙ necessary_says a h (said_by is.answer.verdict) in
    λ e. says_something is.answer.verdict (all_at (λ (x : Answer). is_wide x.verdict ≡ false) xs k is.answer narrow is.at) (sym same ∙ e)

sign_known : (p n : Said) → p ≢ Nothing → n ≢ Nothing → sign_of p n ≢ signs.Unknown
sign_known Contradiction n some other = λ e. absurd cc
sign_known Yes Contradiction some other = λ e. absurd cc
sign_known No Contradiction some other = λ e. absurd cc
sign_known Nothing n some other = absurd (some refl)
sign_known No Yes some other = λ e. absurd cc
sign_known No No some other = λ e. absurd cc
sign_known No Nothing some other = absurd (other refl)
sign_known Yes Yes some other = λ e. absurd cc
sign_known Yes No some other = λ e. absurd cc
sign_known Yes Nothing some other = absurd (other refl)

-- the class h stands at the place h - 1
there : (classes a h : ℕ) → 1 ≤ h → h ≤ classes → AreAt (class_questions a classes) a (h - 1) h
there classes a h from to =
    let same : 0 + (h - 1) + 1 ≡ h = omega (arith, from) in
    subst (AreAt (class_questions a classes) a (h - 1)) same (questions_at a 0 classes (h - 1) (omega (arith, from, to)))

first_is : (xs : List Answer) (a : ℕ) → IsAnswerAt xs 0 (PossibleClass a 1) → alternative_of xs ≡ a
first_is xs a is = rw is.at (ap alternative_in is.question)

pub signs_whole : SignsAreWhole
signs_whole classes a xs h asked narrow from to =
    let here = there classes a h from to in
    let first = there classes a 1 (omega arith) (omega (arith, from, to)) in
    let possible = answer_at xs (2 * (h - 1)) (PossibleClass a h) (ap (λ (qs : List Question). slice_get qs (2 * (h - 1))) asked ∙ here.possible) in
    let necessary = answer_at xs (2 * (h - 1) + 1) (NecessaryClass a h) (ap (λ (qs : List Question). slice_get qs (2 * (h - 1) + 1)) asked ∙ here.necessary) in (
      first_is xs a (answer_at xs 0 (PossibleClass a 1) (ap (λ (qs : List Question). slice_get qs 0) asked ∙ first.possible)),
      sign_known (possible_by a h (slice_get xs (2 * (h - 1)))) (necessary_by a h (slice_get xs (2 * (h - 1) + 1))) (says_possible xs a h (2 * (h - 1)) narrow possible) (says_necessary xs a h (2 * (h - 1) + 1) narrow necessary),
    )
