-- Answers over another list to the questions of what was answered.
use Rattle.std.proofs.Common.{◌≡◌, ℕ, suc, List, [], ◌∷◌, length, map, refl, sym, ap, subst}
use Rattle.std.specs.List.{AllByRecursion, AllZip}
use Rattle.ror_text.proofs.Everywhere.{all-by, all-map}
use Rattle.ror_statement.specs.declared.question.Question.{Question}
use Rattle.ror_statement.specs.declared.statement.Statement.{Statement}
use Rattle.ror_table.specs.Table.{DecisionTable}
use Rattle.ror_value.specs.Over.{IsAskedIn, IsLawfulIn}
use Rattle.ror_proof.specs.declared.answer.Answer.{Answer}
use Rattle.ror_check.specs.Proof.{IsWideOrTrue}
use Rattle.ror_check.proofs.ManyAnswers.{wide_or_true}
use Rattle.ror_given.specs.Answers.{IsGiven}
use Rattle.ror_show_ground.specs.Sound.{IsSoundAnswer}
use Rattle.ror_show_find_relation.specs.CellLaws.{AreTrueAnswers}
use Rattle.ror_show_find_classes.specs.Signs.{alternative_in, alternative_of}
use Rattle.ror_show_find_whatif.specs.Outcomes.{AreAnswersOver}

-- the questions may be asked
pub asked_of : (t : DecisionTable) (list : List Statement) (xs : List Answer) → AllByRecursion (IsSoundAnswer t list) xs → AllByRecursion (IsAskedIn t) (map (λ (x : Answer). x.question) xs)
asked_of t list xs sound =
    (all-map (IsAskedIn t) (λ (x : Answer). x.question) xs).0 (all-by (IsSoundAnswer t list) (λ (x : Answer). IsAskedIn t x.question) xs (λ x is. is.asked) sound)

-- and so may those that answers name
pub named_of : (most : ℕ) (t : DecisionTable) (list : List Statement) (qs : List Question) (xs : List Answer) → AllByRecursion (IsAskedIn t) qs → AllZip (IsGiven most t list) qs xs → AllByRecursion (λ (x : Answer). IsAskedIn t x.question) xs
named_of most t list [] [] asked given = tt
named_of most t list [] (x ∷ xs) asked given = absurd given
named_of most t list (q ∷ qs) [] asked given = absurd given
named_of most t list (q ∷ qs) (x ∷ xs) asked given = (subst (IsAskedIn t) (sym given.0.allowed.question) asked.0, named_of most t list qs xs asked.1 given.1)

-- there are as many
pub as_many : {X Y : Type 0} (R : X → Y → Type 0) (xs : List X) (ys : List Y) → AllZip R xs ys → length ys ≡ length xs
as_many R [] [] all = refl
as_many R [] (y ∷ ys) all = absurd all
as_many R (x ∷ xs) [] all = absurd all
as_many R (x ∷ xs) (y ∷ ys) all = ap (λ (n : ℕ). suc n) (as_many R xs ys all.1)

true_given : (most : ℕ) (t : DecisionTable) (list : List Statement) (qs : List Question) (xs : List Answer) → AllZip (IsGiven most t list) qs xs → AreTrueAnswers t list xs
true_given most t list [] [] given = tt
true_given most t list [] (x ∷ xs) given = absurd given
true_given most t list (q ∷ qs) [] given = absurd given
true_given most t list (q ∷ qs) (x ∷ xs) given =
    (subst (λ (p : Question). IsWideOrTrue t list p x.verdict) (sym given.0.allowed.question) given.0.true_answer, true_given most t list qs xs given.1)

-- they are true
pub true_over : (t : DecisionTable) (list : List Statement) (xs ys : List Answer) → AreAnswersOver t list xs ys → AreTrueAnswers t list ys
true_over t list xs ys are = true_given _ t list (map (λ (x : Answer). x.question) xs) ys are

-- and so are answers that have their proofs
pub true_sound : (t : DecisionTable) (list : List Statement) (xs : List Answer) → IsLawfulIn t list → AllByRecursion (IsSoundAnswer t list) xs → AreTrueAnswers t list xs
true_sound t list xs lawful sound =
    all-by (IsSoundAnswer t list) (λ (x : Answer). IsWideOrTrue t list x.question x.verdict) xs
    (λ x is. wide_or_true t list x.question x.verdict lawful is.asked is.verdict) sound

-- they are of the same alternative
pub same_alternative : (t : DecisionTable) (list : List Statement) (xs ys : List Answer) → AreAnswersOver t list xs ys → alternative_of xs ≡ alternative_of ys
same_alternative t list [] [] are = refl
same_alternative t list [] (y ∷ ys) are = absurd are
same_alternative t list (x ∷ xs) [] are = absurd are
same_alternative t list (x ∷ xs) (y ∷ ys) are = ap alternative_in (sym are.0.allowed.question)
