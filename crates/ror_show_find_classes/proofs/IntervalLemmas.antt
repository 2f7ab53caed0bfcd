-- A class that is left lies between the least and the greatest of those that are, and what that says of true answers.
use Rattle.std.proofs.Common.{◌≡◌, ℕ, zero, suc, ◌+◌, ◌≤◌, Bool, true, false, List, refl, sym, ap, subst, ◌∙◌, arith}
use Rattle.std.specs.Prelude.{◌==◌, ◌&&◌, if◌then◌else◌}
use Rattle.std.proofs.lemmas.Bool.{eqb-true, eqb-false, ne_eqb}
use Rattle.ror_statement.specs.declared.statement.Statement.{Statement}
use Rattle.ror_table.specs.Table.{DecisionTable}
use Rattle.ror_proof.specs.declared.answer.Answer.{Answer}
use Rattle.ror_show_ground.specs.Meaning.{BySome}
use Rattle.ror_show_find_classes.specs.declared.sign.Sign.{Sign}
use Rattle.ror_show_find_classes.specs.declared.sign.Sign.TheVariants as signs
use Rattle.ror_show_find_classes.specs.Signs.{alternative_of, sign_of_class, is_left, is_possible, is_contradiction, may_be}
use Rattle.ror_show_find_classes.specs.Intervals.{lowest, highest, is_contradictory}
use Rattle.ror_show_find_classes.specs.Meaning.{MayBelong, SignSays}
use Rattle.ror_show_find_relation.specs.CellLaws.{AreTrueAnswers}
use Rattle.ror_value.specs.Meaning.{IsContradictory}
use Rattle.ror_show_find_classes.specs.Laws.{IntervalsAreTrue}
use Rattle.ror_show_find_classes.proofs.SignLemmas.{signs-true, both}

pub lowest_most : (xs : List Answer) (n : ℕ) → lowest xs n ≤ n
lowest_most xs zero = omega arith
lowest_most xs (suc n) = by (lowest_most xs n) (lowest xs n == 0 && is_left xs (n + 1))
  where
    by : lowest xs n ≤ n → (b : Bool) → (if b then n + 1 else lowest xs n) ≤ suc n
    by below true = omega arith
    by below false = omega (arith, below)

-- the least is none or at least 1
from_one : (xs : List Answer) (n : ℕ) → (lowest xs n == 0) ≡ false → 1 ≤ lowest xs n
from_one xs n some = by (lowest xs n) some
  where
    by : (k : ℕ) → (k == 0) ≡ false → 1 ≤ k
    by zero none = absurd cc
    by (suc k) none = omega arith

pub record Between (xs : List Answer) (n g : ℕ) : Type 0 where
  pub some : 1 ≤ lowest xs n
  pub above : lowest xs n ≤ g
  pub below : g ≤ highest xs n

-- with one number more that is left, or isn't
at_last : (xs : List Answer) (n : ℕ) → is_left xs (n + 1) ≡ true → Between xs (suc n) (suc n)
at_last xs n left = by (lowest xs n == 0) refl
  where
    by : (b : Bool) → (lowest xs n == 0) ≡ b → Between xs (suc n) (suc n)
    by true none =
        let last : lowest xs (suc n) ≡ n + 1 = ap (λ (b : Bool). if b then n + 1 else lowest xs n) (ap (λ (c : Bool). c && is_left xs (n + 1)) none ∙ left) in
        let most : highest xs (suc n) ≡ n + 1 = ap (λ (b : Bool). if b then n + 1 else highest xs n) left in
        record { some = omega (arith, last); above = omega (arith, last); below = omega (arith, most) }
    by false some =
        let last : lowest xs (suc n) ≡ lowest xs n = ap (λ (b : Bool). if b then n + 1 else lowest xs n) (ap (λ (c : Bool). c && is_left xs (n + 1)) some) in
        let most : highest xs (suc n) ≡ n + 1 = ap (λ (b : Bool). if b then n + 1 else highest xs n) left in
        let below = lowest_most xs n in
        let from = from_one xs n some in
        record { some = omega (arith, last, from); above = omega (arith, last, below); below = omega (arith, most) }

before : (xs : List Answer) (n g : ℕ) → g ≤ n → Between xs n g → Between xs (suc n) g
before xs n g within is =
    let none : (lowest xs n == 0) ≡ false = ne_eqb (lowest xs n) 0 (λ zero. omega (arith, zero, is.some)) in
    let last : lowest xs (suc n) ≡ lowest xs n = ap (λ (b : Bool). if b then n + 1 else lowest xs n) (ap (λ (c : Bool). c && is_left xs (n + 1)) none) in
    record { some = omega (arith, last, is.some); above = omega (arith, last, is.above); below = most (is_left xs (n + 1)) is.below }
  where
    most : (b : Bool) → g ≤ highest xs n → g ≤ (if b then n + 1 else highest xs n)
    most true below = omega (arith, within)
    most false below = below

pub below_last : (g n : ℕ) → g ≤ suc n → (g ≡ suc n → ⊥) → g ≤ n
below_last g n to no_last = by (g == suc n) refl
  where
    by : (b : Bool) → (g == suc n) ≡ b → g ≤ n
    by true same = absurd (no_last (eqb-true g (suc n) same))
    by false other = omega (arith, to, eqb-false g (suc n) other)

pub between : (xs : List Answer) (n g : ℕ) → 1 ≤ g → g ≤ n → is_left xs g ≡ true → Between xs n g
between xs zero g from to left = absurd (omega (arith, from, to))
between xs (suc n) g from to left = by (between xs n g from) (g == suc n) refl
  where
    by : (g ≤ n → is_left xs g ≡ true → Between xs n g) → (b : Bool) → (g == suc n) ≡ b → Between xs (suc n) g
    by so_far true same =
        let is : g ≡ suc n = eqb-true g (suc n) same in
        let next : g ≡ n + 1 = omega (arith, is) in
        subst (Between xs (suc n)) (sym is) (at_last xs n (subst (λ (k : ℕ). is_left xs k ≡ true) next left))
    by so_far false other =
        let below = below_last g n to (eqb-false g (suc n) other) in
        before xs n g below (so_far below left)

-- ---- the ends themselves

pub highest_most : (xs : List Answer) (n : ℕ) → highest xs n ≤ n
highest_most xs zero = omega arith
highest_most xs (suc n) = by (highest_most xs n) (is_left xs (n + 1))
  where
    by : highest xs n ≤ n → (b : Bool) → (if b then n + 1 else highest xs n) ≤ suc n
    by below true = omega arith
    by below false = omega (arith, below)

pub lowest_left : (xs : List Answer) (n : ℕ) → 1 ≤ lowest xs n → is_left xs (lowest xs n) ≡ true
lowest_left xs zero some = absurd (omega (arith, some))
lowest_left xs (suc n) some = by (lowest xs n == 0 && is_left xs (n + 1)) refl some (lowest_left xs n)
  where
    by : (b : Bool) → (lowest xs n == 0 && is_left xs (n + 1)) ≡ b → 1 ≤ (if b then n + 1 else lowest xs n) → (1 ≤ lowest xs n → is_left xs (lowest xs n) ≡ true) → is_left xs (if b then n + 1 else lowest xs n) ≡ true
    by true last from before_it = (both (lowest xs n == 0) (is_left xs (n + 1)) last).1
    by false last from before_it = before_it from

pub highest_left : (xs : List Answer) (n : ℕ) → 1 ≤ highest xs n → is_left xs (highest xs n) ≡ true
highest_left xs zero some = absurd (omega (arith, some))
highest_left xs (suc n) some = by (is_left xs (n + 1)) refl some (highest_left xs n)
  where
    by : (b : Bool) → is_left xs (n + 1) ≡ b → 1 ≤ (if b then n + 1 else highest xs n) → (1 ≤ highest xs n → is_left xs (highest xs n) ≡ true) → is_left xs (if b then n + 1 else highest xs n) ≡ true
    by true left from before_it = left
    by false left from before_it = before_it from

-- ---- of true answers

-- a class to which some function lets the alternative belong is left
pub still_left : (t : DecisionTable) (list : List Statement) (s : Sign) (a h : ℕ) → SignSays t list s a h → BySome t list (MayBelong t list a h) → may_be s ≡ true
still_left t list signs.Necessary a h says some = refl
still_left t list signs.Possible a h says some = refl
still_left t list signs.Impossible a h says some = absurd (says.by_none some)
still_left t list signs.Contradiction a h says some = absurd (says some.0 some.1)
still_left t list signs.Unknown a h says some = refl

-- a class that is possible is one to which some function lets it belong
pub by_some : (t : DecisionTable) (list : List Statement) (s : Sign) (a h : ℕ) → SignSays t list s a h → is_possible s ≡ true → BySome t list (MayBelong t list a h)
by_some t list signs.Necessary a h says possible = (says.consistent.0, says.consistent.1, says.by_every says.consistent.0 says.consistent.1)
by_some t list signs.Possible a h says possible = says.by_some
by_some t list signs.Impossible a h says possible = absurd cc
by_some t list signs.Contradiction a h says possible = absurd cc
by_some t list signs.Unknown a h says possible = absurd cc

-- where it is said of a class that no function agrees, none does
says_contradiction : (t : DecisionTable) (list : List Statement) (s : Sign) (a h : ℕ) → SignSays t list s a h → is_contradiction s ≡ true → IsContradictory t list
says_contradiction t list signs.Necessary a h says is = absurd cc
says_contradiction t list signs.Possible a h says is = absurd cc
says_contradiction t list signs.Impossible a h says is = absurd cc
says_contradiction t list signs.Contradiction a h says is = says
says_contradiction t list signs.Unknown a h says is = absurd cc

contradiction_true : (t : DecisionTable) (list : List Statement) (xs : List Answer) (n : ℕ) → AreTrueAnswers t list xs → is_contradictory xs n ≡ true → IsContradictory t list
contradiction_true t list xs zero all is = absurd cc
contradiction_true t list xs (suc n) all is = by (contradiction_true t list xs n all) (is_contradiction (sign_of_class xs (n + 1))) refl is
  where
    by : (is_contradictory xs n ≡ true → IsContradictory t list) → (b : Bool) → is_contradiction (sign_of_class xs (n + 1)) ≡ b → (if b then true else is_contradictory xs n) ≡ true → IsContradictory t list
    by so_far true here all_of = says_contradiction t list (sign_of_class xs (n + 1)) (alternative_of xs) (n + 1) (signs-true t list xs (alternative_of xs) (n + 1) all) here
    by so_far false here all_of = so_far all_of

pub intervals_true : IntervalsAreTrue
intervals_true t list xs true_answers = record {
  between = λ h from to some.
      let is = between xs t.classes h from to (still_left t list (sign_of_class xs h) (alternative_of xs) h (signs-true t list xs (alternative_of xs) h true_answers) some) in
      (is.above, is.below);
  settled = λ settled.
      let parts = both (lowest xs t.classes == highest xs t.classes) (is_possible (sign_of_class xs (lowest xs t.classes))) settled in
      (eqb-true _ _ parts.0, by_some t list (sign_of_class xs (lowest xs t.classes)) (alternative_of xs) (lowest xs t.classes) (signs-true t list xs (alternative_of xs) (lowest xs t.classes) true_answers) parts.1);
  contradictory = contradiction_true t list xs t.classes true_answers;
}
