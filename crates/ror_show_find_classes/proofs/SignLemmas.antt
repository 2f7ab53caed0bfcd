-- What true answers say of an alternative and a class is true, and so is its sign.
use Rattle.std.proofs.Common.{◌≡◌, ℕ, ◌+◌, ◌-◌, ◌*◌, Bool, true, false, ◌&&◌, List, Option, Some, None, refl, subst}
use Rattle.std.specs.Prelude.{◌==◌, slice_get, if◌then◌else◌}
use Rattle.std.proofs.lemmas.Bool.{eqb-true}
use Rattle.ror_text.proofs.Everywhere.{all_at}
use Rattle.ror_statement.specs.declared.statement.Statement.{Statement}
use Rattle.ror_statement.specs.declared.question.Question.{Question}
use Rattle.ror_statement.specs.declared.question.Question.TheVariants.{Consistent, Necessary, Possible, NecessaryStrength, PossibleStrength, PossibleClass, NecessaryClass}
use Rattle.ror_table.specs.Table.{DecisionTable}
use Rattle.ror_proof.specs.declared.answer.Answer.{Answer}
use Rattle.ror_proof.specs.declared.answer.Verdict.{Verdict}
use Rattle.ror_proof.specs.declared.answer.Verdict.TheVariants as verdicts
use Rattle.ror_check.specs.Proof.{IsWideOrTrue}
use Rattle.ror_show_ground.specs.declared.said.Said.{Said}
use Rattle.ror_show_ground.specs.declared.said.Said.TheVariants.{Yes, No, Contradiction, Nothing}
use Rattle.ror_show_ground.specs.Said.{said_by}
use Rattle.ror_show_find_relation.specs.CellLaws.{AreTrueAnswers}
use Rattle.ror_show_find_relation.proofs.SaidLemmas.{IsTrueSaid}
use Rattle.ror_show_find_classes.specs.declared.sign.Sign.TheVariants as signs
use Rattle.ror_show_find_classes.specs.Signs.{if_necessary, if_possible, necessary_by, possible_by, sign_of}
use Rattle.ror_show_find_classes.specs.Meaning.{SignSays}
use Rattle.ror_show_find_classes.specs.Laws.{SignsAreTrue, OneSign}

verdict_true : (t : DecisionTable) (list : List Statement) (q : Question) (v : Verdict) → IsWideOrTrue t list q v → IsTrueSaid t list q (said_by v)
verdict_true t list q (verdicts.Yes proof) is = is
verdict_true t list q (verdicts.No proof) is = is
verdict_true t list q (verdicts.Contradiction proof) is = is
verdict_true t list q (verdicts.Wide system note) is = tt

pub both : (p q : Bool) → (p && q) ≡ true → (p ≡ true) × (q ≡ true)
both true q is = (refl, is)
both false q is = absurd cc

asked_necessary : (t : DecisionTable) (list : List Statement) (a b x y : ℕ) (s : Said) → IsTrueSaid t list (NecessaryClass x y) s → IsTrueSaid t list (NecessaryClass a b) (if x == a && y == b then s else Nothing)
asked_necessary t list a b x y s is = by (x == a && y == b) refl
  where
    by : (same : Bool) → (x == a && y == b) ≡ same → IsTrueSaid t list (NecessaryClass a b) (if same then s else Nothing)
    by true same =
        let parts = both (x == a) (y == b) same in
        subst (λ (v : ℕ). IsTrueSaid t list (NecessaryClass v b) s) (eqb-true x a parts.0) (subst (λ (v : ℕ). IsTrueSaid t list (NecessaryClass x v) s) (eqb-true y b parts.1) is)
    by false same = tt

asked_possible : (t : DecisionTable) (list : List Statement) (a b x y : ℕ) (s : Said) → IsTrueSaid t list (PossibleClass x y) s → IsTrueSaid t list (PossibleClass a b) (if x == a && y == b then s else Nothing)
asked_possible t list a b x y s is = by (x == a && y == b) refl
  where
    by : (same : Bool) → (x == a && y == b) ≡ same → IsTrueSaid t list (PossibleClass a b) (if same then s else Nothing)
    by true same =
        let parts = both (x == a) (y == b) same in
        subst (λ (v : ℕ). IsTrueSaid t list (PossibleClass v b) s) (eqb-true x a parts.0) (subst (λ (v : ℕ). IsTrueSaid t list (PossibleClass x v) s) (eqb-true y b parts.1) is)
    by false same = tt

if_necessary-true : (t : DecisionTable) (list : List Statement) (a b : ℕ) (q : Question) (s : Said) → IsTrueSaid t list q s → IsTrueSaid t list (NecessaryClass a b) (if_necessary a b q s)
if_necessary-true t list a b Consistent s is = tt
if_necessary-true t list a b (Necessary x y) s is = tt
if_necessary-true t list a b (Possible x y) s is = tt
if_necessary-true t list a b (NecessaryStrength p q scope) s is = tt
if_necessary-true t list a b (PossibleStrength p q scope) s is = tt
if_necessary-true t list a b (PossibleClass x h) s is = tt
if_necessary-true t list a b (NecessaryClass x y) s is = asked_necessary t list a b x y s is

if_possible-true : (t : DecisionTable) (list : List Statement) (a b : ℕ) (q : Question) (s : Said) → IsTrueSaid t list q s → IsTrueSaid t list (PossibleClass a b) (if_possible a b q s)
if_possible-true t list a b Consistent s is = tt
if_possible-true t list a b (Necessary x y) s is = tt
if_possible-true t list a b (Possible x y) s is = tt
if_possible-true t list a b (NecessaryStrength p q scope) s is = tt
if_possible-true t list a b (PossibleStrength p q scope) s is = tt
if_possible-true t list a b (PossibleClass x y) s is = asked_possible t list a b x y s is
if_possible-true t list a b (NecessaryClass x h) s is = tt

necessary-true : (t : DecisionTable) (list : List Statement) (xs : List Answer) → AreTrueAnswers t list xs → (a b k : ℕ) → IsTrueSaid t list (NecessaryClass a b) (necessary_by a b (slice_get xs k))
necessary-true t list xs all a b k = by (slice_get xs k) refl
  where
    by : (o : Option Answer) → slice_get xs k ≡ o → IsTrueSaid t list (NecessaryClass a b) (necessary_by a b o)
    by None is = tt
    by (Some x) is = if_necessary-true t list a b x.question (said_by x.verdict) (verdict_true t list x.question x.verdict (all_at (λ x. IsWideOrTrue t list x.question x.verdict) xs k x all is))

possible-true : (t : DecisionTable) (list : List Statement) (xs : List Answer) → AreTrueAnswers t list xs → (a b k : ℕ) → IsTrueSaid t list (PossibleClass a b) (possible_by a b (slice_get xs k))
possible-true t list xs all a b k = by (slice_get xs k) refl
  where
    by : (o : Option Answer) → slice_get xs k ≡ o → IsTrueSaid t list (PossibleClass a b) (possible_by a b o)
    by None is = tt
    by (Some x) is = if_possible-true t list a b x.question (said_by x.verdict) (verdict_true t list x.question x.verdict (all_at (λ x. IsWideOrTrue t list x.question x.verdict) xs k x all is))

-- ---- signs

of_said : (t : DecisionTable) (list : List Statement) (a h : ℕ) (p n : Said) → IsTrueSaid t list (PossibleClass a h) p → IsTrueSaid t list (NecessaryClass a h) n → SignSays t list (sign_of p n) a h
of_said t list a h Contradiction n possible necessary = possible
of_said t list a h Yes Contradiction possible necessary = necessary
of_said t list a h No Contradiction possible necessary = necessary
of_said t list a h Nothing Contradiction possible necessary = necessary
of_said t list a h No Yes possible necessary = record { consistent = possible.0; by_none = possible.1 }
of_said t list a h No No possible necessary = record { consistent = possible.0; by_none = possible.1 }
of_said t list a h No Nothing possible necessary = record { consistent = possible.0; by_none = possible.1 }
of_said t list a h Yes Yes possible necessary = record { consistent = necessary.0; by_every = necessary.1 }
of_said t list a h Yes No possible necessary = record { by_some = possible.1; not_by_every = necessary.1 }
of_said t list a h Yes Nothing possible necessary = tt
of_said t list a h Nothing Yes possible necessary = tt
of_said t list a h Nothing No possible necessary = tt
of_said t list a h Nothing Nothing possible necessary = tt

pub signs-true : SignsAreTrue
signs-true t list xs a h all =
    of_said t list a h (possible_by a h (slice_get xs (2 * (h - 1)))) (necessary_by a h (slice_get xs (2 * (h - 1) + 1)))
    (possible-true t list xs all a h (2 * (h - 1))) (necessary-true t list xs all a h (2 * (h - 1) + 1))

-- ---- no two of them

pub one-sign : OneSign
one-sign t list signs.Necessary signs.Necessary a h p q some other = refl
one-sign t list signs.Necessary signs.Possible a h p q some other = absurd (q.not_by_every p.by_every)
one-sign t list signs.Necessary signs.Impossible a h p q some other = absurd (q.by_none (p.consistent.0, p.consistent.1, p.by_every p.consistent.0 p.consistent.1))
one-sign t list signs.Necessary signs.Unknown a h p q some other = absurd (other refl)
one-sign t list signs.Necessary signs.Contradiction a h p q some other = absurd (q p.consistent.0 p.consistent.1)
one-sign t list signs.Possible signs.Necessary a h p q some other = absurd (p.not_by_every q.by_every)
one-sign t list signs.Possible signs.Possible a h p q some other = refl
one-sign t list signs.Possible signs.Impossible a h p q some other = absurd (q.by_none p.by_some)
one-sign t list signs.Possible signs.Unknown a h p q some other = absurd (other refl)
one-sign t list signs.Possible signs.Contradiction a h p q some other = absurd (q p.by_some.0 p.by_some.1)
one-sign t list signs.Impossible signs.Necessary a h p q some other = absurd (p.by_none (q.consistent.0, q.consistent.1, q.by_every q.consistent.0 q.consistent.1))
one-sign t list signs.Impossible signs.Possible a h p q some other = absurd (p.by_none q.by_some)
one-sign t list signs.Impossible signs.Impossible a h p q some other = refl
one-sign t list signs.Impossible signs.Unknown a h p q some other = absurd (other refl)
one-sign t list signs.Impossible signs.Contradiction a h p q some other = absurd (q p.consistent.0 p.consistent.1)
one-sign t list signs.Unknown signs.Necessary a h p q some other = absurd (some refl)
one-sign t list signs.Unknown signs.Possible a h p q some other = absurd (some refl)
one-sign t list signs.Unknown signs.Impossible a h p q some other = absurd (some refl)
one-sign t list signs.Unknown signs.Unknown a h p q some other = refl
one-sign t list signs.Unknown signs.Contradiction a h p q some other = absurd (some refl)
one-sign t list signs.Contradiction signs.Necessary a h p q some other = absurd (p q.consistent.0 q.consistent.1)
one-sign t list signs.Contradiction signs.Possible a h p q some other = absurd (p q.by_some.0 q.by_some.1)
one-sign t list signs.Contradiction signs.Impossible a h p q some other = absurd (p q.consistent.0 q.consistent.1)
one-sign t list signs.Contradiction signs.Unknown a h p q some other = absurd (other refl)
one-sign t list signs.Contradiction signs.Contradiction a h p q some other = refl
