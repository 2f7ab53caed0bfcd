-- What is said of a change follows from the ends that are shown, where they are known.
use Rattle.std.proofs.Common.{◌≡◌, ◌≢◌, ℕ, zero, suc, ◌≤◌, Bool, true, false, ◌&&◌, List, refl, sym, ap, subst, ◌∙◌, arith}
use Rattle.std.specs.Prelude.{not, ◌==◌, nat_le, if◌then◌else◌}
use Rattle.std.proofs.lemmas.Bool.{leb-true, le-leb, eqb-true, eq-eqb, ne_eqb, and_from}
use Rattle.ror_statement.specs.declared.statement.Statement.{Statement}
use Rattle.ror_table.specs.Table.{DecisionTable}
use Rattle.ror_report.specs.Text.{answers_of}
use Rattle.ror_bench.specs.declared.kept.KeptLine.{KeptLine}
use Rattle.ror_show_ground.specs.Meaning.{BySome}
use Rattle.ror_show_find_classes.specs.declared.sign.Sign.{Sign}
use Rattle.ror_show_find_classes.specs.declared.sign.Sign.TheVariants as signs
use Rattle.ror_show_find_classes.specs.declared.value.ClassRow.{ClassRow}
use Rattle.ror_show_find_classes.specs.Signs.{alternative_of, sign_of_class, is_left, may_be}
use Rattle.ror_show_find_classes.specs.Intervals.{lowest, highest, is_whole}
use Rattle.ror_show_find_classes.specs.Meaning.{MayBelong, SignSays}
use Rattle.ror_show_find_classes.specs.Values.{interval_of}
use Rattle.ror_show_find_classes.proofs.SignLemmas.{signs-true, both}
use Rattle.ror_show_find_classes.proofs.IntervalLemmas.{between, by_some, still_left, lowest_most, highest_most, lowest_left, highest_left}
use Rattle.ror_show_find_classes.specs.declared.change.Change.TheVariants.{Stayed, Narrowed, Widened, Moved, NotConcluded}
use Rattle.ror_show_find_classes.specs.Changes.{is_same_interval, is_comparable, is_within, change_of}
use Rattle.ror_show_find_classes.specs.ChangeLaws.{IsPossible, AreAmong, ChangeSays, IsTrueOf, IsKnown, ChangesAreTrue}
use Rattle.ror_show_find_classes.proofs.KnownLemmas.{whole_known, known_whole}

-- the classes that are possible lie between two of them
record Ends (t : DecisionTable) (list : List Statement) (a low high : ℕ) : Type 0 where
  pub least : IsPossible t list a low
  pub greatest : IsPossible t list a high
  pub all : (h : ℕ) → IsPossible t list a h → (low ≤ h) × (h ≤ high)

known_possible : (t : DecisionTable) (list : List Statement) (s : Sign) (a h : ℕ) → SignSays t list s a h → s ≢ signs.Unknown → may_be s ≡ true → BySome t list (MayBelong t list a h)
known_possible t list signs.Necessary a h says known may = by_some t list signs.Necessary a h says refl
known_possible t list signs.Possible a h says known may = by_some t list signs.Possible a h says refl
known_possible t list signs.Impossible a h says known may = absurd cc
known_possible t list signs.Contradiction a h says known may = absurd cc
known_possible t list signs.Unknown a h says known may = absurd (known refl)

-- a class that is left, and of which that is concluded
left_known : (t : DecisionTable) (list : List Statement) (a h : ℕ) (x : KeptLine) → IsTrueOf t list a x → 1 ≤ h → h ≤ t.classes → sign_of_class (answers_of x.block.body) h ≢ signs.Unknown → is_left (answers_of x.block.body) h ≡ true → IsPossible t list a h
left_known t list a h x is from to known left =
    let xs = answers_of x.block.body in
    let here = known_possible t list (sign_of_class xs h) (alternative_of xs) h (signs-true t list xs (alternative_of xs) h is.truth) known left in
    record { from = from; to = to; some = subst (λ (b : ℕ). BySome t list (MayBelong t list b h)) is.of here }

possible_left : (t : DecisionTable) (list : List Statement) (a h : ℕ) (x : KeptLine) → IsKnown t list a x → 1 ≤ h → h ≤ t.classes → is_left (answers_of x.block.body) h ≡ true → IsPossible t list a h
possible_left t list a h x is from to left = left_known t list a h x (record { truth = is.truth; of = is.of }) from to (is.each h from to) left

left_possible : (t : DecisionTable) (list : List Statement) (a h : ℕ) (x : KeptLine) → IsKnown t list a x → IsPossible t list a h → is_left (answers_of x.block.body) h ≡ true
left_possible t list a h x is possible =
    let xs = answers_of x.block.body in
    still_left t list (sign_of_class xs h) (alternative_of xs) h (signs-true t list xs (alternative_of xs) h is.truth) (subst (λ (b : ℕ). BySome t list (MayBelong t list b h)) (sym is.of) possible.some)

ends_known : (t : DecisionTable) (list : List Statement) (a : ℕ) (x : KeptLine) → IsKnown t list a x → Ends t list a (lowest (answers_of x.block.body) t.classes) (highest (answers_of x.block.body) t.classes)
ends_known t list a x is =
    let xs = answers_of x.block.body in
    let one = is.one in
    let some = between xs t.classes one.0 one.1.from one.1.to (left_possible t list a one.0 x is one.1) in
    let low = some.some in
    let above = some.above in
    let below = some.below in
    let high : 1 ≤ highest xs t.classes = omega (arith, low, above, below) in
    record {
      least = possible_left t list a (lowest xs t.classes) x is low (lowest_most xs t.classes) (lowest_left xs t.classes low);
      greatest = possible_left t list a (highest xs t.classes) x is high (highest_most xs t.classes) (highest_left xs t.classes high);
      all = λ h possible. (let here = between xs t.classes h possible.from possible.to (left_possible t list a h x is possible) in (here.above, here.below));
    }

module _ (t : DecisionTable) (list other : List Statement) (a low high low_other high_other : ℕ) where
  among : Ends t list a low high → Ends t other a low_other high_other → low_other ≤ low → high ≤ high_other → AreAmong t list other a
  among ends others least greatest = λ h possible.
      let here = ends.all h possible in
      let from = here.0 in
      let to = here.1 in
      record { low = low_other; high = high_other; low_possible = others.least; high_possible = others.greatest; above = omega (arith, from, least); below = omega (arith, to, greatest) }

  within : Ends t list a low high → Ends t other a low_other high_other → AreAmong t list other a → (low_other ≤ low) × (high ≤ high_other)
  within ends others are =
      let first = are low ends.least in
      let last = are high ends.greatest in
      let below = (others.all first.low first.low_possible).0 in
      let above = (others.all last.high last.high_possible).1 in
      let from = first.above in
      let to = last.below in
      (omega (arith, below, from), omega (arith, above, to))

-- one is within the other, or isn't
module _ (t : DecisionTable) (list other : List Statement) (a : ℕ) (x y : ClassRow) (ends : Ends t list a x.lowest x.highest) (others : Ends t other a y.lowest y.highest) where
  are_among : is_within x y ≡ true → AreAmong t list other a
  are_among is =
      let parts = both (nat_le y.lowest x.lowest) (nat_le x.highest y.highest) is in
      among t list other a x.lowest x.highest y.lowest y.highest ends others (leb-true y.lowest x.lowest parts.0) (leb-true x.highest y.highest parts.1)

  not_among : is_within x y ≡ false → AreAmong t list other a → ⊥
  not_among outside are =
      let parts = within t list other a x.lowest x.highest y.lowest y.highest ends others are in
      let is : is_within x y ≡ true = and_from (nat_le y.lowest x.lowest) (nat_le x.highest y.highest) (le-leb y.lowest x.lowest parts.0) (le-leb x.highest y.highest parts.1) in
      absurd (let same = sym outside ∙ is in cc)

same_ends : (x y : ClassRow) → is_within x y ≡ true → is_within y x ≡ true → is_same_interval x y ≡ true
same_ends x y one other =
    let first = both (nat_le y.lowest x.lowest) (nat_le x.highest y.highest) one in
    let second = both (nat_le x.lowest y.lowest) (nat_le y.highest x.highest) other in
    let low = leb-true y.lowest x.lowest first.0 in
    let high = leb-true x.highest y.highest first.1 in
    let low_back = leb-true x.lowest y.lowest second.0 in
    let high_back = leb-true y.highest x.highest second.1 in
    and_from (x.lowest == y.lowest) (x.highest == y.highest) (eq-eqb x.lowest y.lowest (omega (arith, low, low_back))) (eq-eqb x.highest y.highest (omega (arith, high, high_back)))

within_same : (x y : ClassRow) → is_same_interval x y ≡ true → is_within x y ≡ true
within_same x y same =
    let parts = both (x.lowest == y.lowest) (x.highest == y.highest) same in
    let low = eqb-true x.lowest y.lowest parts.0 in
    let high = eqb-true x.highest y.highest parts.1 in
    and_from (nat_le y.lowest x.lowest) (nat_le x.highest y.highest) (le-leb y.lowest x.lowest (omega (arith, low))) (le-leb x.highest y.highest (omega (arith, high)))

same_back : (x y : ClassRow) → is_same_interval x y ≡ true → is_same_interval y x ≡ true
same_back x y same =
    let parts = both (x.lowest == y.lowest) (x.highest == y.highest) same in
    and_from (y.lowest == x.lowest) (y.highest == x.highest) (eq-eqb y.lowest x.lowest (sym (eqb-true x.lowest y.lowest parts.0))) (eq-eqb y.highest x.highest (sym (eqb-true x.highest y.highest parts.1)))

module _ (t : DecisionTable) (before now : List Statement) (a : ℕ) (x y : ClassRow) (was : Ends t before a x.lowest x.highest) (is : Ends t now a y.lowest y.highest) where
  ends_say : (same inner outer : Bool) → is_same_interval x y ≡ same → is_within y x ≡ inner → is_within x y ≡ outer → ChangeSays t before now a (if same then Stayed else (if inner then Narrowed else (if outer then Widened else Moved)))
  ends_say true inner outer same in_it out = (are_among t now before a y x is was (within_same y x (same_back x y same)), are_among t before now a x y was is (within_same x y same))
  ends_say false true true same in_it out = absurd (let both_ways = sym same ∙ same_ends x y out in_it in cc)
  ends_say false true false same in_it out = (are_among t now before a y x is was in_it, not_among t before now a x y was is out)
  ends_say false false true same in_it out = (not_among t now before a y x is was in_it, are_among t before now a x y was is out)
  ends_say false false false same in_it out = (not_among t now before a y x is was in_it, not_among t before now a x y was is out)

-- where both rows are comparable, their ends say it
change_says : (t : DecisionTable) (before now : List Statement) (a : ℕ) (x y : ClassRow) → (is_comparable x ≡ true → Ends t before a x.lowest x.highest) → (is_comparable y ≡ true → Ends t now a y.lowest y.highest) → ChangeSays t before now a (change_of x y)
change_says t before now a x y was is = by (is_comparable x && is_comparable y) refl
  where
    by : (so : Bool) → (is_comparable x && is_comparable y) ≡ so → ChangeSays t before now a (if not so then NotConcluded else (if is_same_interval x y then Stayed else (if is_within y x then Narrowed else (if is_within x y then Widened else Moved))))
    by false so = tt
    by true so =
        let parts = both (is_comparable x) (is_comparable y) so in
        ends_say t before now a x y (was parts.0) (is parts.1) (is_same_interval x y) (is_within y x) (is_within x y) refl refl refl

-- ---- a row that is comparable is known, and the other way round

some_class : (k : ℕ) → not (k == 0) ≡ true → 1 ≤ k
some_class zero some = absurd cc
some_class (suc k) some = omega arith

comparable_known : (t : DecisionTable) (list : List Statement) (a : ℕ) (x : KeptLine) → IsTrueOf t list a x → is_comparable (interval_of t.classes x) ≡ true → IsKnown t list a x
unfolding interval_of
comparable_known t list a x is comparable =
    let xs = answers_of x.block.body in
    let parts = both (is_whole xs t.classes) (not (highest xs t.classes == 0)) comparable in
    let high = some_class (highest xs t.classes) parts.1 in
    let most = highest_most xs t.classes in
    record {
      truth = is.truth;
      of = is.of;
      each = λ h from to. whole_known xs t.classes h parts.0 from to;
      one = (highest xs t.classes, left_known t list a (highest xs t.classes) x is high most (whole_known xs t.classes (highest xs t.classes) parts.0 high most) (highest_left xs t.classes high));
    }

known_comparable : (t : DecisionTable) (list : List Statement) (a : ℕ) (x : KeptLine) → IsKnown t list a x → is_comparable (interval_of t.classes x) ≡ true
unfolding interval_of
known_comparable t list a x is =
    let xs = answers_of x.block.body in
    let ends = ends_known t list a x is in
    let low = ends.least.from in
    let below = (ends.all (lowest xs t.classes) ends.least).1 in
    and_from (is_whole xs t.classes) (not (highest xs t.classes == 0)) (known_whole xs t.classes is.each) (ap not (ne_eqb (highest xs t.classes) 0 (λ none. omega (arith, none, low, below))))

ends_of : (t : DecisionTable) (list : List Statement) (a : ℕ) (x : KeptLine) → IsTrueOf t list a x → is_comparable (interval_of t.classes x) ≡ true → Ends t list a (interval_of t.classes x).lowest (interval_of t.classes x).highest
unfolding interval_of
ends_of t list a x is comparable = ends_known t list a x (comparable_known t list a x is comparable)

is_concluded : (so same inner outer : Bool) → so ≡ true → (if not so then NotConcluded else (if same then Stayed else (if inner then Narrowed else (if outer then Widened else Moved)))) ≢ NotConcluded
is_concluded false same inner outer so = absurd cc
is_concluded true true inner outer so = λ e. absurd cc
is_concluded true false true outer so = λ e. absurd cc
is_concluded true false false true so = λ e. absurd cc
is_concluded true false false false so = λ e. absurd cc

pub changes-true : ChangesAreTrue
changes-true = record {
  says = λ t before now a x y was is. change_says t before now a (interval_of t.classes x) (interval_of t.classes y) (ends_of t before a x was) (ends_of t now a y is);
  compared = λ t before now a x y was is. (let one = interval_of t.classes x in let other = interval_of t.classes y in
      is_concluded (is_comparable one && is_comparable other) (is_same_interval one other) (is_within other one) (is_within one other)
      (and_from (is_comparable one) (is_comparable other) (known_comparable t before a x was) (known_comparable t now a y is)));
}
