-- Changes, seen backwards.
use Rattle.std.proofs.Common.{◌≡◌, ◌≢◌, ℕ, Bool, true, false, not, ◌&&◌, Some, None, refl, sym, ap, ◌∙◌, subst}
use Rattle.std.specs.Prelude.{◌==◌, if◌then◌else◌}
use Rattle.std.proofs.lemmas.Bool.{eqb-true, eqb-false}
use Rattle.ror_show_find_relation.specs.Relations.{Square, holds}
use Rattle.ror_show_find_relation.specs.declared.change.Change.{Change}
use Rattle.ror_show_find_relation.specs.declared.change.Change.TheVariants as changes
use Rattle.ror_show_find_relation.specs.Changes.{alone, change_by, change_of}
use Rattle.ror_show_find_relation.specs.ChangeLaws.{backwards, ChangesBack}

same_test : (a b : ℕ) → (a == b) ≡ (b == a)
same_test a b = by (a == b) refl (b == a) refl
  where
    by : (p : Bool) → (a == b) ≡ p → (q : Bool) → (b == a) ≡ q → (a == b) ≡ (b == a)
    by true is true back = is ∙ sym back
    by false is false back = is ∙ sym back
    by true is false back = let same = eqb-true a b is in let other = eqb-false b a back in absurd (other (sym same))
    by false is true back = let same = eqb-true b a back in let other = eqb-false a b is in absurd (other (sym same))

-- where the pair was turned round, its converse is turned back
turned_by : (e held holds held_back holds_back : Bool) → (if e then None else change_by held holds (holds_back && not held_back) (held_back && not holds_back)) ≡ Some changes.TurnedRound → (if e then None else change_by holds_back held_back (held && not holds) (holds && not held)) ≡ Some changes.TurnedRound
turned_by true held holds held_back holds_back is = absurd cc
turned_by false true true held_back holds_back is = absurd cc
turned_by false true false true true is = absurd cc
turned_by false true false true false is = absurd cc
turned_by false true false false true is = refl
turned_by false true false false false is = absurd cc
turned_by false false true true true is = absurd cc
turned_by false false true true false is = absurd cc
turned_by false false true false holds_back is = absurd cc
turned_by false false false held_back holds_back is = absurd cc

turned : (before now : Square) (a b : ℕ) → change_of before now a b ≡ Some changes.TurnedRound → change_of now before b a ≡ Some changes.TurnedRound
turned before now a b is =
    subst (λ (e : Bool). (if e then None else change_by (holds now b a) (holds before b a) (alone before now a b) (alone now before a b)) ≡ Some changes.TurnedRound) (same_test a b)
    (turned_by (a == b) (holds before a b) (holds now a b) (holds before b a) (holds now b a) is)

twice : (change : Change) → backwards (backwards change) ≡ change
twice changes.Stayed = refl
twice changes.TurnedRound = refl
twice changes.NoLonger = refl
twice changes.New = refl

other_back : (change : Change) → change ≢ changes.TurnedRound → backwards change ≢ changes.TurnedRound
other_back changes.Stayed other = λ is. absurd cc
other_back changes.TurnedRound other = absurd (other refl)
other_back changes.NoLonger other = λ is. absurd cc
other_back changes.New other = λ is. absurd cc

-- the other changes
others_by : (e held holds came went : Bool) (change : Change) → change ≢ changes.TurnedRound → (if e then None else change_by held holds came went) ≡ Some change → (if e then None else change_by holds held went came) ≡ Some (backwards change)
others_by true held holds came went change other is = absurd cc
others_by false true true came went change other is = let same : changes.Stayed ≡ change = cc in ap (λ (c : Change). Some (backwards c)) same
others_by false true false true went change other is = let same : changes.TurnedRound ≡ change = cc in absurd (other (sym same))
others_by false true false false went change other is = let same : changes.NoLonger ≡ change = cc in ap (λ (c : Change). Some (backwards c)) same
others_by false false true came true change other is = absurd cc
others_by false false true came false change other is = let same : changes.New ≡ change = cc in ap (λ (c : Change). Some (backwards c)) same
others_by false false false came went change other is = absurd cc

pub changes_back : ChangesBack
changes_back before now a b = record {
  turned = (λ is. turned before now a b is, λ is. turned now before b a is);
  others = λ change other. (
    (λ is. others_by (a == b) (holds before a b) (holds now a b) (alone now before b a) (alone before now b a) change other is),
    (λ is. others_by (a == b) (holds now a b) (holds before a b) (alone before now b a) (alone now before b a) (backwards change) (other_back change other) is ∙ ap Some (twice change)),
  );
}
