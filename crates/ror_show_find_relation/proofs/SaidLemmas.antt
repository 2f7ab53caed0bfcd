-- What true answers say of a pair is true.
use Rattle.std.proofs.Common.{◌≡◌, ℕ, ◌+◌, ◌*◌, Bool, true, false, ◌&&◌, List, Option, Some, None, refl, subst}
use Rattle.std.specs.Prelude.{◌==◌, slice_get, if◌then◌else◌}
use Rattle.std.proofs.lemmas.Bool.{eqb-true}
use Rattle.ror_text.proofs.Everywhere.{all_at}
use Rattle.ror_statement.specs.declared.statement.Statement.{Statement}
use Rattle.ror_statement.specs.declared.question.Question.{Question}
use Rattle.ror_statement.specs.declared.question.Question.TheVariants.{Consistent, Necessary, Possible, NecessaryStrength, PossibleStrength, PossibleClass, NecessaryClass}
use Rattle.ror_statement.specs.declared.question.Conclusion.TheVariants as conclusions
use Rattle.ror_table.specs.Table.{DecisionTable}
use Rattle.ror_value.specs.Meaning.{Answers}
use Rattle.ror_proof.specs.declared.answer.Answer.{Answer}
use Rattle.ror_proof.specs.declared.answer.Verdict.{Verdict}
use Rattle.ror_proof.specs.declared.answer.Verdict.TheVariants as verdicts
use Rattle.ror_check.specs.Proof.{IsWideOrTrue}
use Rattle.ror_show_ground.specs.declared.said.Said.{Said}
use Rattle.ror_show_ground.specs.declared.said.Said.TheVariants.{Yes, No, Contradiction, Nothing}
use Rattle.ror_show_ground.specs.Said.{said_by}
use Rattle.ror_show_find_relation.specs.Said.{if_necessary, if_possible, necessary_by, possible_by, place_of_pair, said_of_pair}
use Rattle.ror_show_find_relation.specs.CellLaws.{AreTrueAnswers}

-- what is said to the question answers it, where something is
abbrev pub IsTrueSaid : DecisionTable → List Statement → Question → Said → Type 0
IsTrueSaid t list q Yes = Answers t list q conclusions.Yes
IsTrueSaid t list q No = Answers t list q conclusions.No
IsTrueSaid t list q Contradiction = Answers t list q conclusions.Contradiction
IsTrueSaid t list q Nothing = Unit {0}

pub verdict_true : (t : DecisionTable) (list : List Statement) (q : Question) (v : Verdict) → IsWideOrTrue t list q v → IsTrueSaid t list q (said_by v)
verdict_true t list q (verdicts.Yes proof) is = is
verdict_true t list q (verdicts.No proof) is = is
verdict_true t list q (verdicts.Contradiction proof) is = is
verdict_true t list q (verdicts.Wide system note) is = tt

both : (p q : Bool) → (p && q) ≡ true → (p ≡ true) × (q ≡ true)
both true q is = (refl, is)
both false q is = absurd cc

asked_necessary : (t : DecisionTable) (list : List Statement) (a b x y : ℕ) (s : Said) → IsTrueSaid t list (Necessary x y) s → IsTrueSaid t list (Necessary a b) (if x == a && y == b then s else Nothing)
asked_necessary t list a b x y s is = by (x == a && y == b) refl
  where
    by : (same : Bool) → (x == a && y == b) ≡ same → IsTrueSaid t list (Necessary a b) (if same then s else Nothing)
    by true same =
        let parts = both (x == a) (y == b) same in
        subst (λ (v : ℕ). IsTrueSaid t list (Necessary v b) s) (eqb-true x a parts.0) (subst (λ (v : ℕ). IsTrueSaid t list (Necessary x v) s) (eqb-true y b parts.1) is)
    by false same = tt

asked_possible : (t : DecisionTable) (list : List Statement) (a b x y : ℕ) (s : Said) → IsTrueSaid t list (Possible x y) s → IsTrueSaid t list (Possible a b) (if x == a && y == b then s else Nothing)
asked_possible t list a b x y s is = by (x == a && y == b) refl
  where
    by : (same : Bool) → (x == a && y == b) ≡ same → IsTrueSaid t list (Possible a b) (if same then s else Nothing)
    by true same =
        let parts = both (x == a) (y == b) same in
        subst (λ (v : ℕ). IsTrueSaid t list (Possible v b) s) (eqb-true x a parts.0) (subst (λ (v : ℕ). IsTrueSaid t list (Possible x v) s) (eqb-true y b parts.1) is)
    by false same = tt

pub if_necessary-true : (t : DecisionTable) (list : List Statement) (a b : ℕ) (q : Question) (s : Said) → IsTrueSaid t list q s → IsTrueSaid t list (Necessary a b) (if_necessary a b q s)
if_necessary-true t list a b Consistent s is = tt
if_necessary-true t list a b (Necessary x y) s is = asked_necessary t list a b x y s is
if_necessary-true t list a b (Possible x y) s is = tt
if_necessary-true t list a b (NecessaryStrength p q scope) s is = tt
if_necessary-true t list a b (PossibleStrength p q scope) s is = tt
if_necessary-true t list a b (PossibleClass x h) s is = tt
if_necessary-true t list a b (NecessaryClass x h) s is = tt

pub if_possible-true : (t : DecisionTable) (list : List Statement) (a b : ℕ) (q : Question) (s : Said) → IsTrueSaid t list q s → IsTrueSaid t list (Possible a b) (if_possible a b q s)
if_possible-true t list a b Consistent s is = tt
if_possible-true t list a b (Necessary x y) s is = tt
if_possible-true t list a b (Possible x y) s is = asked_possible t list a b x y s is
if_possible-true t list a b (NecessaryStrength p q scope) s is = tt
if_possible-true t list a b (PossibleStrength p q scope) s is = tt
if_possible-true t list a b (PossibleClass x h) s is = tt
if_possible-true t list a b (NecessaryClass x h) s is = tt

necessary-true : (t : DecisionTable) (list : List Statement) (xs : List Answer) → AreTrueAnswers t list xs → (a b k : ℕ) → IsTrueSaid t list (Necessary a b) (necessary_by a b (slice_get xs k))
necessary-true t list xs all a b k = by (slice_get xs k) refl
  where
    by : (o : Option Answer) → slice_get xs k ≡ o → IsTrueSaid t list (Necessary a b) (necessary_by a b o)
    by None is = tt
    by (Some x) is = if_necessary-true t list a b x.question (said_by x.verdict) (verdict_true t list x.question x.verdict (all_at (λ x. IsWideOrTrue t list x.question x.verdict) xs k x all is))

possible-true : (t : DecisionTable) (list : List Statement) (xs : List Answer) → AreTrueAnswers t list xs → (a b k : ℕ) → IsTrueSaid t list (Possible a b) (possible_by a b (slice_get xs k))
possible-true t list xs all a b k = by (slice_get xs k) refl
  where
    by : (o : Option Answer) → slice_get xs k ≡ o → IsTrueSaid t list (Possible a b) (possible_by a b o)
    by None is = tt
    by (Some x) is = if_possible-true t list a b x.question (said_by x.verdict) (verdict_true t list x.question x.verdict (all_at (λ x. IsWideOrTrue t list x.question x.verdict) xs k x all is))

pub pair-necessary : (t : DecisionTable) (list : List Statement) (xs : List Answer) (n a b : ℕ) → AreTrueAnswers t list xs → IsTrueSaid t list (Necessary a b) (said_of_pair n xs a b).necessary
pair-necessary t list xs n a b all = necessary-true t list xs all a b (2 * place_of_pair n a b)

pub pair-possible : (t : DecisionTable) (list : List Statement) (xs : List Answer) (n a b : ℕ) → AreTrueAnswers t list xs → IsTrueSaid t list (Possible a b) (said_of_pair n xs a b).possible
pair-possible t list xs n a b all = possible-true t list xs all a b (2 * place_of_pair n a b + 1)
