-- What the bytes say of a class that every function leaves: that it is the only one, or that another isn't excluded.
use Rattle.std.proofs.Common.{◌≡◌, ◌≢◌, ℕ, ◌≤◌, Bool, true, false, List, refl, sym, ap, subst, ◌∙◌, arith}
use Rattle.std.specs.Prelude.{◌==◌}
use Rattle.std.proofs.lemmas.Bool.{eqb-true, eqb-false, eq-eqb, and_from}
use Rattle.ror_statement.specs.declared.statement.Statement.{Statement}
use Rattle.ror_table.specs.Table.{DecisionTable}
use Rattle.ror_proof.specs.declared.answer.Answer.{Answer}
use Rattle.ror_show_ground.specs.Meaning.{BySome}
use Rattle.ror_show_find_relation.specs.CellLaws.{AreTrueAnswers}
use Rattle.ror_show_find_classes.specs.declared.sign.Sign.{Sign}
use Rattle.ror_show_find_classes.specs.declared.sign.Sign.TheVariants as signs
use Rattle.ror_show_find_classes.specs.Signs.{byte_of, alternative_of, sign_of_class, is_left, is_possible, may_be}
use Rattle.ror_show_find_classes.specs.Intervals.{lowest, highest, is_settled}
use Rattle.ror_show_find_classes.specs.Meaning.{MayBelong, IsNecessaryClass, SignSays}
use Rattle.ror_show_find_classes.specs.Laws.{BytesAreTrue}
use Rattle.ror_show_find_classes.proofs.SignLemmas.{signs-true, both}
use Rattle.ror_show_find_classes.proofs.IntervalLemmas.{Between, between, still_left, lowest_most, highest_most, lowest_left, highest_left}

-- ---- which sign a byte stands for

only_is : (settled : Bool) (s : Sign) → byte_of settled s ≡ 35 → (settled ≡ true) × (s ≡ signs.Necessary)
only_is true signs.Necessary is = (refl, refl)
only_is false signs.Necessary is = absurd (omega (arith, is))
only_is settled signs.Possible is = absurd (omega (arith, is))
only_is settled signs.Impossible is = absurd (omega (arith, is))
only_is settled signs.Unknown is = absurd (omega (arith, is))
only_is settled signs.Contradiction is = absurd (omega (arith, is))

beside_is : (settled : Bool) (s : Sign) → byte_of settled s ≡ 38 → (settled ≡ false) × (s ≡ signs.Necessary)
beside_is true signs.Necessary is = absurd (omega (arith, is))
beside_is false signs.Necessary is = (refl, refl)
beside_is settled signs.Possible is = absurd (omega (arith, is))
beside_is settled signs.Impossible is = absurd (omega (arith, is))
beside_is settled signs.Unknown is = absurd (omega (arith, is))
beside_is settled signs.Contradiction is = absurd (omega (arith, is))

-- ---- a class that every function leaves

necessary_here : (t : DecisionTable) (list : List Statement) (xs : List Answer) (h : ℕ) → AreTrueAnswers t list xs → sign_of_class xs h ≡ signs.Necessary → IsNecessaryClass t list (alternative_of xs) h
necessary_here t list xs h all is = subst (λ (s : Sign). SignSays t list s (alternative_of xs) h) is (signs-true t list xs (alternative_of xs) h all)

left_here : (xs : List Answer) (h : ℕ) → sign_of_class xs h ≡ signs.Necessary → is_left xs h ≡ true
left_here xs h is = ap may_be is

only_one : (t : DecisionTable) (list : List Statement) (xs : List Answer) (h : ℕ) → AreTrueAnswers t list xs → 1 ≤ h → h ≤ t.classes → is_settled t.classes xs ≡ true → sign_of_class xs h ≡ signs.Necessary
    → (g : ℕ) → 1 ≤ g → g ≤ t.classes → BySome t list (MayBelong t list (alternative_of xs) g) → g ≡ h
only_one t list xs h all from to settled is g g_from g_to some =
    let parts = both (lowest xs t.classes == highest xs t.classes) (is_possible (sign_of_class xs (lowest xs t.classes))) settled in
    let ends = eqb-true (lowest xs t.classes) (highest xs t.classes) parts.0 in
    let here = between xs t.classes h from to (left_here xs h is) in
    let there = between xs t.classes g g_from g_to (still_left t list (sign_of_class xs g) (alternative_of xs) g (signs-true t list xs (alternative_of xs) g all) some) in
    let above = here.above in
    let below = here.below in
    let above_there = there.above in
    let below_there = there.below in
    omega (arith, ends, above, below, above_there, below_there)

-- ---- beside another

settled_by : (classes : ℕ) (xs : List Answer) (h : ℕ) → lowest xs classes ≡ highest xs classes → h ≡ lowest xs classes → sign_of_class xs h ≡ signs.Necessary → is_settled classes xs ≡ true
settled_by classes xs h ends at is =
    and_from (lowest xs classes == highest xs classes) (is_possible (sign_of_class xs (lowest xs classes))) (eq-eqb (lowest xs classes) (highest xs classes) ends)
    (ap (λ (k : ℕ). is_possible (sign_of_class xs k)) (sym at) ∙ ap is_possible is)

other_left : (classes : ℕ) (xs : List Answer) (h : ℕ) → 1 ≤ h → h ≤ classes → is_settled classes xs ≡ false → sign_of_class xs h ≡ signs.Necessary
    → (g : ℕ) × (1 ≤ g) × (g ≤ classes) × (g ≢ h) × (is_left xs g ≡ true)
other_left classes xs h from to unsettled is = by (between xs classes h from to (left_here xs h is)) (lowest xs classes == highest xs classes) refl (lowest xs classes == h) refl
  where
    by : Between xs classes h → (one : Bool) → (lowest xs classes == highest xs classes) ≡ one → (least : Bool) → (lowest xs classes == h) ≡ least → (g : ℕ) × (1 ≤ g) × (g ≤ classes) × (g ≢ h) × (is_left xs g ≡ true)
    by here true one least at =
        let ends = eqb-true (lowest xs classes) (highest xs classes) one in
        let above = here.above in
        let below = here.below in
        let same : h ≡ lowest xs classes = omega (arith, ends, above, below) in
        absurd (let both_ways = sym unsettled ∙ settled_by classes xs h ends same is in cc)
    by here false two true at =
        let some = here.some in
        let above = here.above in
        let below = here.below in
        let least = eqb-true (lowest xs classes) h at in
        let high : 1 ≤ highest xs classes = omega (arith, some, above, below) in
        (highest xs classes, high, highest_most xs classes, λ most. eqb-false (lowest xs classes) (highest xs classes) two (least ∙ sym most), highest_left xs classes high)
    by here false two false at = (lowest xs classes, here.some, lowest_most xs classes, eqb-false (lowest xs classes) h at, lowest_left xs classes here.some)

pub bytes_true : BytesAreTrue
bytes_true = record {
  only = λ t list xs h all from to is. (let signs_are = only_is (is_settled t.classes xs) (sign_of_class xs h) is in
      (necessary_here t list xs h all signs_are.1, only_one t list xs h all from to signs_are.0 signs_are.1));
  beside = λ t list xs h all from to is. (let signs_are = beside_is (is_settled t.classes xs) (sign_of_class xs h) is in
      (necessary_here t list xs h all signs_are.1, other_left t.classes xs h from to signs_are.0 signs_are.1));
}
