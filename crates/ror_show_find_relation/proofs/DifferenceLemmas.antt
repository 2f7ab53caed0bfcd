-- The pairs of a list are those of which the cells say so, and it is true of them.
use Rattle.std.proofs.Common.{◌≡◌, ◌≢◌, ℕ, ◌<◌, Bool, true, false, not, ◌&&◌, List, length, map, Some, None, refl, sym, ◌∙◌, subst, arith}
use Rattle.std.specs.Prelude.{◌==◌, if◌then◌else◌, Contains}
use Rattle.std.proofs.lemmas.Bool.{eqb-true, eqb-false}
use Rattle.ror_show_find_relation.specs.Relations.{Square, holds}
use Rattle.ror_show_find_relation.specs.declared.change.Change.{Change}
use Rattle.ror_show_find_relation.specs.declared.change.Change.TheVariants as changes
use Rattle.ror_show_find_relation.specs.Changes.{change_by, change_of, changed_pairs}
use Rattle.std.proofs.lemmas.List.{length-map}
use Rattle.std.proofs.lemmas.List.FromFn.{length-map-range_with_len}
use Rattle.ror_show_find_relation.proofs.Parts.{first-there, second-there}
use Rattle.ror_show_find_relation.proofs.Listed.{listed}
use Rattle.ror_statement.specs.declared.statement.Statement.{Statement}
use Rattle.ror_table.specs.Table.{DecisionTable}
use Rattle.ror_proof.specs.declared.answer.Answer.{Answer}
use Rattle.ror_show_find_relation.specs.Cells.{cells_from, cell_at, cell_rows, is_over}
use Rattle.ror_show_find_relation.specs.Pages.{known}
use Rattle.ror_show_find_relation.specs.CellLaws.{AreTrueAnswers}
use Rattle.ror_show_find_relation.proofs.Known.{known-at, known-sound}
use Rattle.ror_show_find_relation.specs.DifferenceLaws.{IsChanged, IsListed, ListsAreTheDifference, IsTrueChange, ListedIsTrue}

-- the same, of truth values: whether it held and holds, whether the converse came and whether it went
abbrev Says : Change → Bool → Bool → Bool → Bool → Type 0
Says changes.Stayed held kept came went = (held ≡ true) × (kept ≡ true)
Says changes.TurnedRound held kept came went = ((held ≡ true) × (kept ≡ false)) × (came ≡ true)
Says changes.NoLonger held kept came went = ((held ≡ true) × (kept ≡ false)) × (came ≡ false)
Says changes.New held kept came went = ((kept ≡ true) × (held ≡ false)) × (went ≡ false)

of_change : (change : Change) (held kept came went : Bool) → change_by held kept came went ≡ Some change → Says change held kept came went
of_change change true true came went is = let same : changes.Stayed ≡ change = cc in subst (λ (c : Change). Says c true true came went) same (refl, refl)
of_change change true false true went is = let same : changes.TurnedRound ≡ change = cc in subst (λ (c : Change). Says c true false true went) same ((refl, refl), refl)
of_change change true false false went is = let same : changes.NoLonger ≡ change = cc in subst (λ (c : Change). Says c true false false went) same ((refl, refl), refl)
of_change change false true came true is = absurd cc
of_change change false true came false is = let same : changes.New ≡ change = cc in subst (λ (c : Change). Says c false true came false) same ((refl, refl), refl)
of_change change false false came went is = absurd cc

to_change : (change : Change) (held kept came went : Bool) → Says change held kept came went → change_by held kept came went ≡ Some change
to_change changes.Stayed held kept came went says = rw (says.0, says.1) refl
to_change changes.TurnedRound held kept came went says = rw (says.0.0, says.0.1, says.1) refl
to_change changes.NoLonger held kept came went says = rw (says.0.0, says.0.1, says.1) refl
to_change changes.New held kept came went says = rw (says.0.0, says.0.1, says.1) refl

-- one alone, as a test
is_alone : (one other : Bool) → (one && not other) ≡ true → (one ≡ true) × (other ≡ false)
is_alone true false is = (refl, refl)
is_alone true true is = absurd cc
is_alone false other is = absurd cc

alone_is : (one other : Bool) → (one ≡ true) × (other ≡ false) → (one && not other) ≡ true
alone_is one other p = rw (p.0, p.1) refl

not_alone : (one other : Bool) → ((one ≡ true) × (other ≡ false) → ⊥) → (one && not other) ≡ false
not_alone true true none = refl
not_alone true false none = absurd (none (refl, refl))
not_alone false other none = refl

none_alone : (one other : Bool) → (one && not other) ≡ false → (one ≡ true) × (other ≡ false) → ⊥
none_alone one other is p = let there : (one && not other) ≡ true = alone_is one other p in cc

-- what a change says of a pair, by whether it held and holds, and whether the converse did and does
abbrev ChangedBy : Change → Bool → Bool → Bool → Bool → Type 0
ChangedBy changes.Stayed held kept held_back kept_back = (held ≡ true) × (kept ≡ true)
ChangedBy changes.TurnedRound held kept held_back kept_back = ((held ≡ true) × (kept ≡ false)) × ((kept_back ≡ true) × (held_back ≡ false))
ChangedBy changes.NoLonger held kept held_back kept_back = ((held ≡ true) × (kept ≡ false)) × ((kept_back ≡ true) × (held_back ≡ false) → ⊥)
ChangedBy changes.New held kept held_back kept_back = ((kept ≡ true) × (held ≡ false)) × ((held_back ≡ true) × (kept_back ≡ false) → ⊥)

to_by : (c : Change) (held kept held_back kept_back : Bool) → Says c held kept (kept_back && not held_back) (held_back && not kept_back) → ChangedBy c held kept held_back kept_back
to_by changes.Stayed held kept held_back kept_back p = p
to_by changes.TurnedRound held kept held_back kept_back p = (p.0, is_alone kept_back held_back p.1)
to_by changes.NoLonger held kept held_back kept_back p = (p.0, none_alone kept_back held_back p.1)
to_by changes.New held kept held_back kept_back p = (p.0, none_alone held_back kept_back p.1)

from_by : (c : Change) (held kept held_back kept_back : Bool) → ChangedBy c held kept held_back kept_back → Says c held kept (kept_back && not held_back) (held_back && not kept_back)
from_by changes.Stayed held kept held_back kept_back p = p
from_by changes.TurnedRound held kept held_back kept_back p = (p.0, alone_is kept_back held_back p.1)
from_by changes.NoLonger held kept held_back kept_back p = (p.0, not_alone kept_back held_back p.1)
from_by changes.New held kept held_back kept_back p = (p.0, not_alone held_back kept_back p.1)

-- what became of a pair of two relations
changed_found : (change : Change) (r s : Square) (a b : ℕ) → change_of r s a b ≡ Some change → (a ≢ b) × ChangedBy change (holds r a b) (holds s a b) (holds r b a) (holds s b a)
changed_found change r s a b is = by (a == b) refl is
  where
    by : (e : Bool) → (a == b) ≡ e → (if e then None else change_by (holds r a b) (holds s a b) (holds s b a && not (holds r b a)) (holds r b a && not (holds s b a))) ≡ Some change → (a ≢ b) × ChangedBy change (holds r a b) (holds s a b) (holds r b a) (holds s b a)
    by true e is = absurd cc
    by false e is = (eqb-false a b e, to_by change (holds r a b) (holds s a b) (holds r b a) (holds s b a) (of_change change (holds r a b) (holds s a b) (holds s b a && not (holds r b a)) (holds r b a && not (holds s b a)) is))

changed_put : (change : Change) (r s : Square) (a b : ℕ) → a ≢ b → ChangedBy change (holds r a b) (holds s a b) (holds r b a) (holds s b a) → change_of r s a b ≡ Some change
changed_put change r s a b apart is = by (a == b) refl
  where
    by : (e : Bool) → (a == b) ≡ e → (if e then None else change_by (holds r a b) (holds s a b) (holds s b a && not (holds r b a)) (holds r b a && not (holds s b a))) ≡ Some change
    by true e = absurd (apart (eqb-true a b e))
    by false e = to_change change (holds r a b) (holds s a b) (holds s b a && not (holds r b a)) (holds r b a && not (holds s b a)) (from_by change (holds r a b) (holds s a b) (holds r b a) (holds s b a) is)

-- of other truth values that are the same
moved : (c : Change) (p q r s p2 q2 r2 s2 : Bool) → p ≡ p2 → q ≡ q2 → r ≡ r2 → s ≡ s2 → ChangedBy c p q r s → ChangedBy c p2 q2 r2 s2
moved c p q r s p2 q2 r2 s2 one two three four is =
    subst (λ (x : Bool). ChangedBy c p2 q2 r2 x) four
    (subst (λ (x : Bool). ChangedBy c p2 q2 x s) three
    (subst (λ (x : Bool). ChangedBy c p2 x r s) two
    (subst (λ (x : Bool). ChangedBy c x q r s) one is)))

-- ---- by the cells

of_cells : (c : Change) (n : ℕ) (xs ys : List Answer) (a b : ℕ) → ChangedBy c (is_over (cell_at n xs a b)) (is_over (cell_at n ys a b)) (is_over (cell_at n xs b a)) (is_over (cell_at n ys b a)) → IsChanged c n xs ys a b
of_cells changes.Stayed n xs ys a b is = is
of_cells changes.TurnedRound n xs ys a b is = is
of_cells changes.NoLonger n xs ys a b is = is
of_cells changes.New n xs ys a b is = is

to_cells : (c : Change) (n : ℕ) (xs ys : List Answer) (a b : ℕ) → IsChanged c n xs ys a b → ChangedBy c (is_over (cell_at n xs a b)) (is_over (cell_at n ys a b)) (is_over (cell_at n xs b a)) (is_over (cell_at n ys b a))
to_cells changes.Stayed n xs ys a b is = is
to_cells changes.TurnedRound n xs ys a b is = is
to_cells changes.NoLonger n xs ys a b is = is
to_cells changes.New n xs ys a b is = is

known_size : (n : ℕ) (xs : List Answer) → length (known (cell_rows n xs)) ≡ n
known_size n xs = length-map (cell_rows n xs) (map is_over) ∙ length-map-range_with_len (cells_from n xs) 0 n

-- what holds is of alternatives that are there
within : (n : ℕ) (xs : List Answer) (a b : ℕ) → holds (known (cell_rows n xs)) a b ≡ true → (a < n) × (b < n)
within n xs a b is =
    let size = known_size n xs in
    ((let l = first-there (known (cell_rows n xs)) a b is in omega arith), (let l = second-there (known (cell_rows n xs)) a b is in omega arith))

changed_within : (c : Change) (n : ℕ) (xs ys : List Answer) (a b : ℕ) → ChangedBy c (holds (known (cell_rows n xs)) a b) (holds (known (cell_rows n ys)) a b) (holds (known (cell_rows n xs)) b a) (holds (known (cell_rows n ys)) b a) → (a < n) × (b < n)
changed_within changes.Stayed n xs ys a b is = within n xs a b is.0
changed_within changes.TurnedRound n xs ys a b is = within n xs a b is.0.0
changed_within changes.NoLonger n xs ys a b is = within n xs a b is.0.0
changed_within changes.New n xs ys a b is = within n ys a b is.0.0

pub lists-difference : ListsAreTheDifference
lists-difference change n xs ys a b = (found, put)
  where
    found : Contains {X = ℕ × ℕ} (changed_pairs (known (cell_rows n xs)) (known (cell_rows n ys)) change) (a, b) → IsListed change n xs ys a b
    found there =
        let is = changed_found change (known (cell_rows n xs)) (known (cell_rows n ys)) a b ((listed (known (cell_rows n xs)) (known (cell_rows n ys)) change a b).0 there) in
        let ends = changed_within change n xs ys a b is.1 in
        record {
          first = ends.0;
          second = ends.1;
          different = is.0;
          is = of_cells change n xs ys a b (moved change _ _ _ _ _ _ _ _ (known-at n xs a b ends.0 ends.1) (known-at n ys a b ends.0 ends.1) (known-at n xs b a ends.1 ends.0) (known-at n ys b a ends.1 ends.0) is.1);
        }

    put : IsListed change n xs ys a b → Contains {X = ℕ × ℕ} (changed_pairs (known (cell_rows n xs)) (known (cell_rows n ys)) change) (a, b)
    put p = (listed (known (cell_rows n xs)) (known (cell_rows n ys)) change a b).1
        (changed_put change (known (cell_rows n xs)) (known (cell_rows n ys)) a b p.different
        (moved change _ _ _ _ _ _ _ _ (sym (known-at n xs a b p.first p.second)) (sym (known-at n ys a b p.first p.second)) (sym (known-at n xs b a p.second p.first)) (sym (known-at n ys b a p.second p.first)) (to_cells change n xs ys a b p.is)))

-- ---- what is true of them

true_by : (c : Change) (t : DecisionTable) (before now : List Statement) (n : ℕ) (xs ys : List Answer) (a b : ℕ) → AreTrueAnswers t before xs → AreTrueAnswers t now ys → ChangedBy c (holds (known (cell_rows n xs)) a b) (holds (known (cell_rows n ys)) a b) (holds (known (cell_rows n xs)) b a) (holds (known (cell_rows n ys)) b a) → IsTrueChange c t before now a b
true_by changes.Stayed t before now n xs ys a b first second is = (known-sound t before xs n a b first is.0, known-sound t now ys n a b second is.1)
true_by changes.TurnedRound t before now n xs ys a b first second is = (known-sound t before xs n a b first is.0.0, known-sound t now ys n b a second is.1.0)
true_by changes.NoLonger t before now n xs ys a b first second is = known-sound t before xs n a b first is.0.0
true_by changes.New t before now n xs ys a b first second is = known-sound t now ys n a b second is.0.0

pub listed-true : ListedIsTrue
listed-true change t before now n xs ys a b first second there =
    true_by change t before now n xs ys a b first second (changed_found change (known (cell_rows n xs)) (known (cell_rows n ys)) a b ((listed (known (cell_rows n xs)) (known (cell_rows n ys)) change a b).0 there)).1
