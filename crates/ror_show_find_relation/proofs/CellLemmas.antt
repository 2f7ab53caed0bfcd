-- What a cell says follows from what is said of the pair and back.
use Rattle.std.proofs.Common.{◌≡◌, ℕ, Bool, true, false, ◌||◌, List, refl, arith, inl, inr}
use Rattle.std.proofs.lemmas.Int.{ints, by_lt_z}
use Rattle.std.specs.Prelude.{◌⊎◌, ◌==◌, if◌then◌else◌, ◌≤ℤ◌}
use Rattle.std.proofs.lemmas.Bool.{eqb-true}
use Rattle.ror_statement.specs.declared.statement.Statement.{Statement}
use Rattle.ror_statement.specs.declared.question.Question.{Question}
use Rattle.ror_statement.specs.declared.question.Question.TheVariants.{Necessary, Possible}
use Rattle.ror_statement.specs.declared.question.Conclusion.TheVariants as conclusions
use Rattle.ror_table.specs.Table.{DecisionTable}
use Rattle.ror_value.specs.Value.{value}
use Rattle.ror_value.specs.Meaning.{Answers, IsContradictory}
use Rattle.ror_proof.specs.declared.answer.Answer.{Answer}
use Rattle.ror_show_ground.specs.declared.said.Said.{Said}
use Rattle.ror_show_ground.specs.declared.said.Said.TheVariants.{Yes, No, Contradiction, Nothing}
use Rattle.ror_show_find_relation.specs.declared.pair.PairSaid.{PairSaid}
use Rattle.ror_show_find_relation.specs.declared.cell.Cell.{Cell}
use Rattle.ror_show_find_relation.specs.declared.cell.Cell.TheVariants as cells
use Rattle.ror_show_find_relation.specs.Said.{said_of_pair}
use Rattle.ror_show_find_relation.specs.Cells.{is_contradiction, has_contradiction, better_by, cell_of_necessary, cell_of, cell_at}
use Rattle.ror_show_find_relation.specs.Meaning.{IsAlwaysBetter, IsAtLeastAsGood, IsAlwaysEqual, IsOpen, Says}
use Rattle.ror_show_find_relation.specs.CellLaws.{AreTrueAnswers}
use Rattle.ror_show_find_relation.proofs.SaidLemmas.{IsTrueSaid, pair-necessary, pair-possible}

contradicts : (t : DecisionTable) (list : List Statement) (q : Question) (s : Said) → is_contradiction s ≡ true → IsTrueSaid t list q s → IsContradictory t list
contradicts t list q Yes is truth = absurd cc
contradicts t list q No is truth = absurd cc
contradicts t list q Contradiction is truth = truth
contradicts t list q Nothing is truth = absurd cc

either : (p q : Bool) → (p || q) ≡ true → (p ≡ true) ⊎ (q ≡ true)
either true q is = inl refl
either false q is = inr is

always_better : (t : DecisionTable) (list : List Statement) (a b : ℕ) → Answers t list (Necessary a b) conclusions.Yes → Answers t list (Possible b a) conclusions.No → IsAlwaysBetter t list a b
always_better t list a b over under = record {
  consistent = over.0;
  more = λ w compatible. by_lt_z (value t w b) (value t w a) (λ less. less) (λ most. absurd (under.1 (w, compatible, most)));
}

at_least : (t : DecisionTable) (list : List Statement) (a b : ℕ) → Answers t list (Necessary a b) conclusions.Yes → Answers t list (Necessary b a) conclusions.No → Answers t list (Possible b a) conclusions.Yes → IsAtLeastAsGood t list a b
at_least t list a b over not_under tie = record {
  at_least = over.1;
  tie = (let f = tie.1 in (f.0, f.1, (let least : value t f.0 b ≤ℤ value t f.0 a = over.1 f.0 f.1 in let most : value t f.0 a ≤ℤ value t f.0 b = f.2 in omega (arith, ints))));
  no_tie = λ same. not_under.1 (λ w compatible. (let e : value t w a ≡ value t w b = same w compatible in omega (arith, ints)));
}

always_equal : (t : DecisionTable) (list : List Statement) (a b : ℕ) → Answers t list (Necessary a b) conclusions.Yes → Answers t list (Necessary b a) conclusions.Yes → IsAlwaysEqual t list a b
always_equal t list a b over under = record {
  consistent = over.0;
  same = λ w compatible. (let least : value t w b ≤ℤ value t w a = over.1 w compatible in let most : value t w a ≤ℤ value t w b = under.1 w compatible in omega (arith, ints));
}

is_open : (t : DecisionTable) (list : List Statement) (a b : ℕ) → Answers t list (Necessary a b) conclusions.No → Answers t list (Necessary b a) conclusions.No → IsOpen t list a b
is_open t list a b not_over not_under = record { consistent = not_over.0; not_over = not_over.1; not_under = not_under.1 }

-- of two of which the one is necessarily at least as good
better : (t : DecisionTable) (list : List Statement) (a b : ℕ) (P : Cell → Type 0) (strict weak : Cell) → (IsAlwaysBetter t list a b → P strict) → (IsAtLeastAsGood t list a b → P weak) → P cells.Unknown → Answers t list (Necessary a b) conclusions.Yes → (n p : Said) → IsTrueSaid t list (Necessary b a) n → IsTrueSaid t list (Possible b a) p → P (better_by strict weak (record { necessary = n; possible = p }))
better t list a b P strict weak of_strict of_weak of_none over Yes p n_true p_true = of_none
better t list a b P strict weak of_strict of_weak of_none over No Yes n_true p_true = of_weak (at_least t list a b over n_true p_true)
better t list a b P strict weak of_strict of_weak of_none over No No n_true p_true = of_strict (always_better t list a b over p_true)
better t list a b P strict weak of_strict of_weak of_none over No Contradiction n_true p_true = of_none
better t list a b P strict weak of_strict of_weak of_none over No Nothing n_true p_true = of_none
better t list a b P strict weak of_strict of_weak of_none over Contradiction Yes n_true p_true = of_none
better t list a b P strict weak of_strict of_weak of_none over Contradiction No n_true p_true = of_strict (always_better t list a b over p_true)
better t list a b P strict weak of_strict of_weak of_none over Contradiction Contradiction n_true p_true = of_none
better t list a b P strict weak of_strict of_weak of_none over Contradiction Nothing n_true p_true = of_none
better t list a b P strict weak of_strict of_weak of_none over Nothing Yes n_true p_true = of_none
better t list a b P strict weak of_strict of_weak of_none over Nothing No n_true p_true = of_strict (always_better t list a b over p_true)
better t list a b P strict weak of_strict of_weak of_none over Nothing Contradiction n_true p_true = of_none
better t list a b P strict weak of_strict of_weak of_none over Nothing Nothing n_true p_true = of_none

-- what is said of a pair and back is true
pub record AreTrueBothWays (t : DecisionTable) (list : List Statement) (a b : ℕ) (there back : PairSaid) : Type 0 where
  pub over : IsTrueSaid t list (Necessary a b) there.necessary
  pub maybe : IsTrueSaid t list (Possible a b) there.possible
  pub under : IsTrueSaid t list (Necessary b a) back.necessary
  pub maybe_under : IsTrueSaid t list (Possible b a) back.possible

row_better : (t : DecisionTable) (list : List Statement) (a b : ℕ) (back : PairSaid) → Answers t list (Necessary a b) conclusions.Yes → IsTrueSaid t list (Necessary b a) back.necessary → IsTrueSaid t list (Possible b a) back.possible → Says t list (better_by cells.AlwaysBetter cells.AtLeastAsGood back) a b
row_better t list a b back over n_true p_true = better t list a b (λ c. Says t list c a b) cells.AlwaysBetter cells.AtLeastAsGood (λ x. x) (λ x. x) tt over back.necessary back.possible n_true p_true

column_better : (t : DecisionTable) (list : List Statement) (a b : ℕ) (there : PairSaid) → Answers t list (Necessary b a) conclusions.Yes → IsTrueSaid t list (Necessary a b) there.necessary → IsTrueSaid t list (Possible a b) there.possible → Says t list (better_by cells.NeverAsGood cells.AtMostAsGood there) a b
column_better t list a b there over n_true p_true = better t list b a (λ c. Says t list c a b) cells.NeverAsGood cells.AtMostAsGood (λ x. x) (λ x. x) tt over there.necessary there.possible n_true p_true

by_necessary : (t : DecisionTable) (list : List Statement) (a b : ℕ) (there back : PairSaid) → AreTrueBothWays t list a b there back → (n m : Said) → IsTrueSaid t list (Necessary a b) n → IsTrueSaid t list (Necessary b a) m → Says t list (cell_of_necessary there back n m) a b
by_necessary t list a b there back x Yes Yes over under = always_equal t list a b over under
by_necessary t list a b there back x No No over under = is_open t list a b over under
by_necessary t list a b there back x Yes No over under = row_better t list a b back over x.under x.maybe_under
by_necessary t list a b there back x Yes Contradiction over under = row_better t list a b back over x.under x.maybe_under
by_necessary t list a b there back x Yes Nothing over under = row_better t list a b back over x.under x.maybe_under
by_necessary t list a b there back x No Yes over under = column_better t list a b there under x.over x.maybe
by_necessary t list a b there back x Contradiction Yes over under = column_better t list a b there under x.over x.maybe
by_necessary t list a b there back x Nothing Yes over under = column_better t list a b there under x.over x.maybe
by_necessary t list a b there back x No Contradiction over under = tt
by_necessary t list a b there back x No Nothing over under = tt
by_necessary t list a b there back x Contradiction No over under = tt
by_necessary t list a b there back x Contradiction Contradiction over under = tt
by_necessary t list a b there back x Contradiction Nothing over under = tt
by_necessary t list a b there back x Nothing No over under = tt
by_necessary t list a b there back x Nothing Contradiction over under = tt
by_necessary t list a b there back x Nothing Nothing over under = tt

pub cell_of-true : (t : DecisionTable) (list : List Statement) (a b : ℕ) (there back : PairSaid) → AreTrueBothWays t list a b there back → Says t list (cell_of there back) a b
cell_of-true t list a b there back x = by (has_contradiction there || has_contradiction back) refl
  where
    by_pair : (has_contradiction there ≡ true) ⊎ (has_contradiction back ≡ true) → IsContradictory t list
    by_pair (inl first) = by_first (either (is_contradiction there.necessary) (is_contradiction there.possible) first)
      where
        by_first : (is_contradiction there.necessary ≡ true) ⊎ (is_contradiction there.possible ≡ true) → IsContradictory t list
        by_first (inl is) = contradicts t list (Necessary a b) there.necessary is x.over
        by_first (inr is) = contradicts t list (Possible a b) there.possible is x.maybe
    by_pair (inr second) = by_second (either (is_contradiction back.necessary) (is_contradiction back.possible) second)
      where
        by_second : (is_contradiction back.necessary ≡ true) ⊎ (is_contradiction back.possible ≡ true) → IsContradictory t list
        by_second (inl is) = contradicts t list (Necessary b a) back.necessary is x.under
        by_second (inr is) = contradicts t list (Possible b a) back.possible is x.maybe_under

    by : (c : Bool) → (has_contradiction there || has_contradiction back) ≡ c → Says t list (if c then cells.Contradiction else cell_of_necessary there back there.necessary back.necessary) a b
    by true is = by_pair (either (has_contradiction there) (has_contradiction back) is)
    by false is = by_necessary t list a b there back x there.necessary back.necessary x.over x.under

pub cells-true : (t : DecisionTable) (list : List Statement) (xs : List Answer) (n a b : ℕ) → AreTrueAnswers t list xs → Says t list (cell_at n xs a b) a b
cells-true t list xs n a b all = by (a == b) refl
  where
    by : (same : Bool) → (a == b) ≡ same → Says t list (if same then cells.Itself else cell_of (said_of_pair n xs a b) (said_of_pair n xs b a)) a b
    by true is = eqb-true a b is
    by false is = cell_of-true t list a b (said_of_pair n xs a b) (said_of_pair n xs b a) (record {
      over = pair-necessary t list xs n a b all;
      maybe = pair-possible t list xs n a b all;
      under = pair-necessary t list xs n b a all;
      maybe_under = pair-possible t list xs n b a all;
    })
