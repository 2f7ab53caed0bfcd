-- No two cells that say something are true of one pair of different alternatives.
use Rattle.std.proofs.Common.{◌≡◌, ◌≢◌, ℕ, Bool, true, false, List, refl, arith}
use Rattle.std.proofs.lemmas.Int.{ints}
use Rattle.std.specs.Prelude.{◌≤ℤ◌, ◌<ℤ◌}
use Rattle.std.specs.Bool.{MatchBool}
use Rattle.ror_statement.specs.declared.statement.Statement.{Statement}
use Rattle.ror_table.specs.Table.{DecisionTable}
use Rattle.ror_value.specs.Value.{value}
use Rattle.ror_value.specs.Meaning.{IsConsistent}
use Rattle.ror_show_find_relation.specs.declared.cell.Cell.{Cell}
use Rattle.ror_show_find_relation.specs.declared.cell.Cell.TheVariants as cells
use Rattle.ror_show_ground.specs.Meaning.{ByEvery}
use Rattle.ror_show_find_relation.specs.Meaning.{IsAlwaysBetter, IsAtLeastAsGood, IsAlwaysEqual, IsOpen, Says}

-- the first is at least as good as the second by every function
abbrev pub IsOver : DecisionTable → List Statement → ℕ → ℕ → Type 0
IsOver t list a b = ByEvery t list (λ w. value t w b ≤ℤ value t w a)

-- it holds or it doesn't, as the truth value says
abbrev pub Is : Bool → Type 0 → Type 0
Is b P = MatchBool b P (P → ⊥)

-- whether each is over the other, and whether some function is compatible
pub record Truth (t : DecisionTable) (list : List Statement) (a b : ℕ) (first second some : Bool) : Type 0 where
  pub over : Is first (IsOver t list a b)
  pub under : Is second (IsOver t list b a)
  pub consistent : Is some (IsConsistent t list)

one-truth : (P : Type 0) (x y : Bool) → Is x P → Is y P → x ≡ y
one-truth P true true p q = refl
one-truth P true false p q = absurd (q p)
one-truth P false true p q = absurd (p q)
one-truth P false false p q = refl

-- truths of one pair are one
pub record SameTruth (x y u v r s : Bool) : Type 0 where
  pub over : x ≡ y
  pub under : u ≡ v
  pub consistent : r ≡ s

same-truth : (t : DecisionTable) (list : List Statement) (a b : ℕ) (x y u v r s : Bool) → Truth t list a b x u r → Truth t list a b y v s → SameTruth x y u v r s
same-truth t list a b x y u v r s p q = record {
  over = one-truth (IsOver t list a b) x y p.over q.over;
  under = one-truth (IsOver t list b a) u v p.under q.under;
  consistent = one-truth (IsConsistent t list) r s p.consistent q.consistent;
}

of-better : (t : DecisionTable) (list : List Statement) (a b : ℕ) → IsAlwaysBetter t list a b → Truth t list a b true false true
of-better t list a b x = record {
  over = λ w compatible. (let more : value t w b <ℤ value t w a = x.more w compatible in omega (arith, ints));
  under = λ under. (let f = x.consistent in let more : value t f.0 b <ℤ value t f.0 a = x.more f.0 f.1 in let most : value t f.0 a ≤ℤ value t f.0 b = under f.0 f.1 in omega (arith, ints));
  consistent = x.consistent;
}

of-least : (t : DecisionTable) (list : List Statement) (a b : ℕ) → IsAtLeastAsGood t list a b → Truth t list a b true false true
of-least t list a b x = record {
  over = x.at_least;
  under = λ under. x.no_tie (λ w compatible. (let least : value t w b ≤ℤ value t w a = x.at_least w compatible in let most : value t w a ≤ℤ value t w b = under w compatible in omega (arith, ints)));
  consistent = (let f = x.tie in (f.0, f.1));
}

of-equal : (t : DecisionTable) (list : List Statement) (a b : ℕ) → IsAlwaysEqual t list a b → Truth t list a b true true true
of-equal t list a b x = record {
  over = λ w compatible. (let same : value t w a ≡ value t w b = x.same w compatible in omega (arith, ints));
  under = λ w compatible. (let same : value t w a ≡ value t w b = x.same w compatible in omega (arith, ints));
  consistent = x.consistent;
}

of-open : (t : DecisionTable) (list : List Statement) (a b : ℕ) → IsOpen t list a b → Truth t list a b false false true
of-open t list a b x = record { over = x.not_over; under = x.not_under; consistent = x.consistent }

turned : (t : DecisionTable) (list : List Statement) (a b : ℕ) (x u r : Bool) → Truth t list b a x u r → Truth t list a b u x r
turned t list a b x u r p = record { over = p.under; under = p.over; consistent = p.consistent }

-- where no function is compatible
of-none : (t : DecisionTable) (list : List Statement) (a b : ℕ) → Says t list cells.Contradiction a b → Truth t list a b true true false
of-none t list a b none = record {
  over = λ w compatible. absurd (none w compatible);
  under = λ w compatible. absurd (none w compatible);
  consistent = λ f. none f.0 f.1;
}

better-or-least : (t : DecisionTable) (list : List Statement) (a b : ℕ) → IsAlwaysBetter t list a b → IsAtLeastAsGood t list a b → ⊥
better-or-least t list a b x y =
    let f = y.tie in
    let more : value t f.0 b <ℤ value t f.0 a = x.more f.0 f.1 in
    let same : value t f.0 a ≡ value t f.0 b = f.2 in
    omega (arith, ints)

pub one-cell : (t : DecisionTable) (list : List Statement) (x y : Cell) (a b : ℕ) → a ≢ b → Says t list x a b → Says t list y a b → x ≢ cells.Unknown → y ≢ cells.Unknown → x ≡ y
one-cell t list cells.AlwaysBetter cells.AlwaysBetter a b apart p q some other = refl
one-cell t list cells.AlwaysBetter cells.AtLeastAsGood a b apart p q some other = absurd (better-or-least t list a b p q)
one-cell t list cells.AlwaysBetter cells.AlwaysEqual a b apart p q some other = let e = (same-truth t list a b true true false true true true (of-better t list a b p) (of-equal t list a b q)).under in absurd cc
one-cell t list cells.AlwaysBetter cells.Open a b apart p q some other = let e = (same-truth t list a b true false false false true true (of-better t list a b p) (of-open t list a b q)).over in absurd cc
one-cell t list cells.AlwaysBetter cells.AtMostAsGood a b apart p q some other = let e = (same-truth t list a b true false false true true true (of-better t list a b p) (turned t list a b true false true (of-least t list b a q))).over in absurd cc
one-cell t list cells.AlwaysBetter cells.NeverAsGood a b apart p q some other = let e = (same-truth t list a b true false false true true true (of-better t list a b p) (turned t list a b true false true (of-better t list b a q))).over in absurd cc
one-cell t list cells.AlwaysBetter cells.Contradiction a b apart p q some other = let e = (same-truth t list a b true true false true true false (of-better t list a b p) (of-none t list a b q)).under in absurd cc
one-cell t list cells.AlwaysBetter cells.Itself a b apart p q some other = absurd (apart q)
one-cell t list cells.AlwaysBetter cells.Unknown a b apart p q some other = absurd (other refl)
one-cell t list cells.AtLeastAsGood cells.AlwaysBetter a b apart p q some other = absurd (better-or-least t list a b q p)
one-cell t list cells.AtLeastAsGood cells.AtLeastAsGood a b apart p q some other = refl
one-cell t list cells.AtLeastAsGood cells.AlwaysEqual a b apart p q some other = let e = (same-truth t list a b true true false true true true (of-least t list a b p) (of-equal t list a b q)).under in absurd cc
one-cell t list cells.AtLeastAsGood cells.Open a b apart p q some other = let e = (same-truth t list a b true false false false true true (of-least t list a b p) (of-open t list a b q)).over in absurd cc
one-cell t list cells.AtLeastAsGood cells.AtMostAsGood a b apart p q some other = let e = (same-truth t list a b true false false true true true (of-least t list a b p) (turned t list a b true false true (of-least t list b a q))).over in absurd cc
one-cell t list cells.AtLeastAsGood cells.NeverAsGood a b apart p q some other = let e = (same-truth t list a b true false false true true true (of-least t list a b p) (turned t list a b true false true (of-better t list b a q))).over in absurd cc
one-cell t list cells.AtLeastAsGood cells.Contradiction a b apart p q some other = let e = (same-truth t list a b true true false true true false (of-least t list a b p) (of-none t list a b q)).under in absurd cc
one-cell t list cells.AtLeastAsGood cells.Itself a b apart p q some other = absurd (apart q)
one-cell t list cells.AtLeastAsGood cells.Unknown a b apart p q some other = absurd (other refl)
one-cell t list cells.AlwaysEqual cells.AlwaysBetter a b apart p q some other = let e = (same-truth t list a b true true true false true true (of-equal t list a b p) (of-better t list a b q)).under in absurd cc
one-cell t list cells.AlwaysEqual cells.AtLeastAsGood a b apart p q some other = let e = (same-truth t list a b true true true false true true (of-equal t list a b p) (of-least t list a b q)).under in absurd cc
one-cell t list cells.AlwaysEqual cells.AlwaysEqual a b apart p q some other = refl
one-cell t list cells.AlwaysEqual cells.Open a b apart p q some other = let e = (same-truth t list a b true false true false true true (of-equal t list a b p) (of-open t list a b q)).over in absurd cc
one-cell t list cells.AlwaysEqual cells.AtMostAsGood a b apart p q some other = let e = (same-truth t list a b true false true true true true (of-equal t list a b p) (turned t list a b true false true (of-least t list b a q))).over in absurd cc
one-cell t list cells.AlwaysEqual cells.NeverAsGood a b apart p q some other = let e = (same-truth t list a b true false true true true true (of-equal t list a b p) (turned t list a b true false true (of-better t list b a q))).over in absurd cc
one-cell t list cells.AlwaysEqual cells.Contradiction a b apart p q some other = let e = (same-truth t list a b true true true true true false (of-equal t list a b p) (of-none t list a b q)).consistent in absurd cc
one-cell t list cells.AlwaysEqual cells.Itself a b apart p q some other = absurd (apart q)
one-cell t list cells.AlwaysEqual cells.Unknown a b apart p q some other = absurd (other refl)
one-cell t list cells.Open cells.AlwaysBetter a b apart p q some other = let e = (same-truth t list a b false true false false true true (of-open t list a b p) (of-better t list a b q)).over in absurd cc
one-cell t list cells.Open cells.AtLeastAsGood a b apart p q some other = let e = (same-truth t list a b false true false false true true (of-open t list a b p) (of-least t list a b q)).over in absurd cc
one-cell t list cells.Open cells.AlwaysEqual a b apart p q some other = let e = (same-truth t list a b false true false true true true (of-open t list a b p) (of-equal t list a b q)).over in absurd cc
one-cell t list cells.Open cells.Open a b apart p q some other = refl
one-cell t list cells.Open cells.AtMostAsGood a b apart p q some other = let e = (same-truth t list a b false false false true true true (of-open t list a b p) (turned t list a b true false true (of-least t list b a q))).under in absurd cc
one-cell t list cells.Open cells.NeverAsGood a b apart p q some other = let e = (same-truth t list a b false false false true true true (of-open t list a b p) (turned t list a b true false true (of-better t list b a q))).under in absurd cc
one-cell t list cells.Open cells.Contradiction a b apart p q some other = let e = (same-truth t list a b false true false true true false (of-open t list a b p) (of-none t list a b q)).over in absurd cc
one-cell t list cells.Open cells.Itself a b apart p q some other = absurd (apart q)
one-cell t list cells.Open cells.Unknown a b apart p q some other = absurd (other refl)
one-cell t list cells.AtMostAsGood cells.AlwaysBetter a b apart p q some other = let e = (same-truth t list a b false true true false true true (turned t list a b true false true (of-least t list b a p)) (of-better t list a b q)).over in absurd cc
one-cell t list cells.AtMostAsGood cells.AtLeastAsGood a b apart p q some other = let e = (same-truth t list a b false true true false true true (turned t list a b true false true (of-least t list b a p)) (of-least t list a b q)).over in absurd cc
one-cell t list cells.AtMostAsGood cells.AlwaysEqual a b apart p q some other = let e = (same-truth t list a b false true true true true true (turned t list a b true false true (of-least t list b a p)) (of-equal t list a b q)).over in absurd cc
one-cell t list cells.AtMostAsGood cells.Open a b apart p q some other = let e = (same-truth t list a b false false true false true true (turned t list a b true false true (of-least t list b a p)) (of-open t list a b q)).under in absurd cc
one-cell t list cells.AtMostAsGood cells.AtMostAsGood a b apart p q some other = refl
one-cell t list cells.AtMostAsGood cells.NeverAsGood a b apart p q some other = absurd (better-or-least t list b a q p)
one-cell t list cells.AtMostAsGood cells.Contradiction a b apart p q some other = let e = (same-truth t list a b false true true true true false (turned t list a b true false true (of-least t list b a p)) (of-none t list a b q)).over in absurd cc
one-cell t list cells.AtMostAsGood cells.Itself a b apart p q some other = absurd (apart q)
one-cell t list cells.AtMostAsGood cells.Unknown a b apart p q some other = absurd (other refl)
one-cell t list cells.NeverAsGood cells.AlwaysBetter a b apart p q some other = let e = (same-truth t list a b false true true false true true (turned t list a b true false true (of-better t list b a p)) (of-better t list a b q)).over in absurd cc
one-cell t list cells.NeverAsGood cells.AtLeastAsGood a b apart p q some other = let e = (same-truth t list a b false true true false true true (turned t list a b true false true (of-better t list b a p)) (of-least t list a b q)).over in absurd cc
one-cell t list cells.NeverAsGood cells.AlwaysEqual a b apart p q some other = let e = (same-truth t list a b false true true true true true (turned t list a b true false true (of-better t list b a p)) (of-equal t list a b q)).over in absurd cc
one-cell t list cells.NeverAsGood cells.Open a b apart p q some other = let e = (same-truth t list a b false false true false true true (turned t list a b true false true (of-better t list b a p)) (of-open t list a b q)).under in absurd cc
one-cell t list cells.NeverAsGood cells.AtMostAsGood a b apart p q some other = absurd (better-or-least t list b a p q)
one-cell t list cells.NeverAsGood cells.NeverAsGood a b apart p q some other = refl
one-cell t list cells.NeverAsGood cells.Contradiction a b apart p q some other = let e = (same-truth t list a b false true true true true false (turned t list a b true false true (of-better t list b a p)) (of-none t list a b q)).over in absurd cc
one-cell t list cells.NeverAsGood cells.Itself a b apart p q some other = absurd (apart q)
one-cell t list cells.NeverAsGood cells.Unknown a b apart p q some other = absurd (other refl)
one-cell t list cells.Contradiction cells.AlwaysBetter a b apart p q some other = let e = (same-truth t list a b true true true false false true (of-none t list a b p) (of-better t list a b q)).under in absurd cc
one-cell t list cells.Contradiction cells.AtLeastAsGood a b apart p q some other = let e = (same-truth t list a b true true true false false true (of-none t list a b p) (of-least t list a b q)).under in absurd cc
one-cell t list cells.Contradiction cells.AlwaysEqual a b apart p q some other = let e = (same-truth t list a b true true true true false true (of-none t list a b p) (of-equal t list a b q)).consistent in absurd cc
one-cell t list cells.Contradiction cells.Open a b apart p q some other = let e = (same-truth t list a b true false true false false true (of-none t list a b p) (of-open t list a b q)).over in absurd cc
one-cell t list cells.Contradiction cells.AtMostAsGood a b apart p q some other = let e = (same-truth t list a b true false true true false true (of-none t list a b p) (turned t list a b true false true (of-least t list b a q))).over in absurd cc
one-cell t list cells.Contradiction cells.NeverAsGood a b apart p q some other = let e = (same-truth t list a b true false true true false true (of-none t list a b p) (turned t list a b true false true (of-better t list b a q))).over in absurd cc
one-cell t list cells.Contradiction cells.Contradiction a b apart p q some other = refl
one-cell t list cells.Contradiction cells.Itself a b apart p q some other = absurd (apart q)
one-cell t list cells.Contradiction cells.Unknown a b apart p q some other = absurd (other refl)
one-cell t list cells.Itself cells.AlwaysBetter a b apart p q some other = absurd (apart p)
one-cell t list cells.Itself cells.AtLeastAsGood a b apart p q some other = absurd (apart p)
one-cell t list cells.Itself cells.AlwaysEqual a b apart p q some other = absurd (apart p)
one-cell t list cells.Itself cells.Open a b apart p q some other = absurd (apart p)
one-cell t list cells.Itself cells.AtMostAsGood a b apart p q some other = absurd (apart p)
one-cell t list cells.Itself cells.NeverAsGood a b apart p q some other = absurd (apart p)
one-cell t list cells.Itself cells.Contradiction a b apart p q some other = absurd (apart p)
one-cell t list cells.Itself cells.Itself a b apart p q some other = absurd (apart p)
one-cell t list cells.Itself cells.Unknown a b apart p q some other = absurd (other refl)
one-cell t list cells.Unknown cells.AlwaysBetter a b apart p q some other = absurd (some refl)
one-cell t list cells.Unknown cells.AtLeastAsGood a b apart p q some other = absurd (some refl)
one-cell t list cells.Unknown cells.AlwaysEqual a b apart p q some other = absurd (some refl)
one-cell t list cells.Unknown cells.Open a b apart p q some other = absurd (some refl)
one-cell t list cells.Unknown cells.AtMostAsGood a b apart p q some other = absurd (some refl)
one-cell t list cells.Unknown cells.NeverAsGood a b apart p q some other = absurd (some refl)
one-cell t list cells.Unknown cells.Contradiction a b apart p q some other = absurd (some refl)
one-cell t list cells.Unknown cells.Itself a b apart p q some other = absurd (some refl)
one-cell t list cells.Unknown cells.Unknown a b apart p q some other = absurd (some refl)
