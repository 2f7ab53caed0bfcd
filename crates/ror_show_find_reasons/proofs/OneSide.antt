-- Where by no function that agrees with a list an alternative may belong to a class, it is above the class by every one, or below it by every
-- one.
use Rattle.std.proofs.Common.{◌≡◌, ℕ, ◌<◌, ◌≤◌, Bool, true, false, List, [], ◌∷◌, ◌++◌, length, max, refl, ap, ◌∙◌, inl, inr, arith}
use Rattle.std.specs.Prelude.{◌↔◌, ℤ, pos, nat_lt, ◌+ℤ◌, ◌-ℤ◌, ◌≤ℤ◌, ◌<ℤ◌}
use Rattle.std.specs.List.{AllByRecursion}
use Rattle.std.proofs.lemmas.Bool.{cases_lt, ltb-true, ltb-false}
use Rattle.ror_integers.specs.Vectors.{dot, row_difference, sum_of_rows, scaled_row, NoneNegative}
use Rattle.ror_integers.proofs.Dots.{dot-row_difference_left}
use Rattle.ror_integers.proofs.Order.{product_nonnegative, le_cases, le_of_lt}
use Rattle.ror_integers.proofs.Ring.{sums}
use Rattle.ror_integers.proofs.Rows.{length-sum_of_rows, length-scaled_row}
use Rattle.ror_text.proofs.Everywhere.{all-by, all-append, all-front, all-back}
use Rattle.ror_statement.specs.declared.statement.Assignment.{Assignment}
use Rattle.ror_statement.specs.declared.statement.Statement.{Statement}
use Rattle.ror_statement.specs.declared.question.Property.TheVariants.{InClass}
use Rattle.ror_statement.specs.Statements.{assignment_of}
use Rattle.ror_system.specs.System.{LinearSystem, Solves}
use Rattle.ror_table.specs.Table.{DecisionTable}
use Rattle.ror_value.specs.Over.{IsLawfulIn}
use Rattle.ror_value.specs.Value.{value}
use Rattle.ror_value.specs.Meaning.{Has, IsCompatible, assignments_of, worst_class, best_class}
use Rattle.ror_value.specs.Laws.{IsHighEnough, IsLowEnough}
use Rattle.ror_value.proofs.Classes.{class_by_each}
use Rattle.ror_value.proofs.Ends.{all-found_at}
use Rattle.ror_value.proofs.MeetingEach.{meets_each}
use Rattle.ror_value.proofs.Values.{dot-values}
use Rattle.ror_rows.specs.Rows.{value_row, system_for}
use Rattle.ror_rows.proofs.Holding.{rows_hold_base}
use Rattle.ror_show_find_reasons.proofs.Convex.{mix, Above, weaker, mix_above, mix_least, one_side}

-- ---- functions that agree are closed under sums and multiples

sum_least : (p q : ℤ) → pos 0 ≤ℤ p → pos 0 ≤ℤ q → pos 0 ≤ℤ (p +ℤ q)
sum_least p q is so = omega (arith, sums, is, so)

sum_nonnegative : (xs ys : List ℤ) → NoneNegative xs → NoneNegative ys → NoneNegative (sum_of_rows xs ys)
sum_nonnegative [] ys a b = b
sum_nonnegative (x ∷ xs) [] a b = a
sum_nonnegative (x ∷ xs) (y ∷ ys) a b = (sum_least x y a.0 b.0, sum_nonnegative xs ys a.1 b.1)

scaled_nonnegative : (k : ℤ) (xs : List ℤ) → pos 0 ≤ℤ k → NoneNegative xs → NoneNegative (scaled_row k xs)
scaled_nonnegative k [] least a = tt
scaled_nonnegative k (x ∷ xs) least a = (product_nonnegative k x least a.0, scaled_nonnegative k xs least a.1)

longer : (m n c : ℕ) → m ≡ c → n ≡ c → max m n ≡ c
longer m n c first second = omega (arith, first, second)

solves_mix : (s : LinearSystem) (k l : ℤ) (u v : List ℤ) → pos 0 <ℤ k → pos 0 ≤ℤ l → Solves s u → Solves s v → Solves s (mix k l u v)
solves_mix s k l u v first second a b =
    let least = le_of_lt (pos 0) k first in
    record {
      one_for_each_column = length-sum_of_rows (scaled_row k u) (scaled_row l v) ∙ longer (length (scaled_row k u)) (length (scaled_row l v)) s.columns (length-scaled_row k u ∙ a.one_for_each_column) (length-scaled_row l v ∙ b.one_for_each_column);
      rows = record {
        none_negative = sum_nonnegative (scaled_row k u) (scaled_row l v) (scaled_nonnegative k u least a.rows.none_negative) (scaled_nonnegative l v second b.rows.none_negative);
        weak_hold = mix_least k l u v s.weak least second a.rows.weak_hold b.rows.weak_hold;
        strict_hold = mix_above k l u v s.strict first second a.rows.strict_hold (weaker s.strict v b.rows.strict_hold);
      };
    }

compatible_mix : (t : DecisionTable) (list : List Statement) → IsLawfulIn t list → (k l : ℤ) (u v : List ℤ) → pos 0 <ℤ k → pos 0 ≤ℤ l → IsCompatible t list u → IsCompatible t list v → IsCompatible t list (mix k l u v)
compatible_mix t list lawful k l u v first second a b =
    (rows_hold_base t list (mix k l u v) lawful).1 (solves_mix (system_for t list []) k l u v first second ((rows_hold_base t list u lawful).0 a) ((rows_hold_base t list v lawful).0 b))

-- ---- the rows of a class

abbrev less_row : DecisionTable → ℕ → ℕ → List ℤ
less_row t p q = row_difference (value_row t p) (value_row t q)

dot-less_row : (t : DecisionTable) (w : List ℤ) (p q : ℕ) → dot (less_row t p q) w ≡ value t w p -ℤ value t w q
dot-less_row t w p q =
    dot-row_difference_left (value_row t p) (value_row t q) w
    ∙ ap (λ (z : ℤ). z -ℤ dot (value_row t q) w) (dot-values t w p)
    ∙ ap (λ (z : ℤ). value t w p -ℤ z) (dot-values t w q)

more_is : (t : DecisionTable) (w : List ℤ) (p q : ℕ) → value t w q <ℤ value t w p → pos 0 <ℤ dot (less_row t p q) w
more_is t w p q more = let same = dot-less_row t w p q in omega (arith, sums, same, more)

is_more : (t : DecisionTable) (w : List ℤ) (p q : ℕ) → pos 0 <ℤ dot (less_row t p q) w → value t w q <ℤ value t w p
is_more t w p q above = let same = dot-less_row t w p q in omega (arith, sums, same, above)

abbrev if_so : Bool → List ℤ → List (List ℤ)
if_so true row = row ∷ []
if_so false row = []

-- that an alternative that is assigned above the class is worth more
abbrev low_rows : DecisionTable → ℕ → ℕ → List Assignment → List (List ℤ)
low_rows t a h [] = []
low_rows t a h (x ∷ xs) = if_so (nat_lt h x.lowest) (less_row t x.alternative a) ++ low_rows t a h xs

-- and that one that is assigned below it is worth less
abbrev up_rows : DecisionTable → ℕ → ℕ → List Assignment → List (List ℤ)
up_rows t a h [] = []
up_rows t a h (x ∷ xs) = if_so (nat_lt x.highest h) (less_row t a x.alternative) ++ up_rows t a h xs

-- each of the first is above 0 exactly where the class is high enough beside each assignment
low_above : (t : DecisionTable) (w : List ℤ) (a h : ℕ) (xs : List Assignment) → AllByRecursion (IsHighEnough t w a h) xs → Above (low_rows t a h xs) w
low_above t w a h [] all = tt
low_above t w a h (x ∷ xs) all = all-append (λ row. pos 0 <ℤ dot row w) (if_so (nat_lt h x.lowest) (less_row t x.alternative a)) (low_rows t a h xs) (by (nat_lt h x.lowest) refl) (low_above t w a h xs all.1)
  where
    by : (b : Bool) → nat_lt h x.lowest ≡ b → Above (if_so b (less_row t x.alternative a)) w
    by false is = tt
    by true is = (more_is t w x.alternative a (le_cases {P = value t w a <ℤ value t w x.alternative} (value t w x.alternative) (value t w a) (λ below. absurd (let wrong = all.0 below in let past = ltb-true h x.lowest is in omega (arith, wrong, past))) (λ more. more)), tt)

low_high : (t : DecisionTable) (w : List ℤ) (a h : ℕ) (xs : List Assignment) → Above (low_rows t a h xs) w → AllByRecursion (IsHighEnough t w a h) xs
low_high t w a h [] all = tt
low_high t w a h (x ∷ xs) all =
    let first = all-front (λ row. pos 0 <ℤ dot row w) (if_so (nat_lt h x.lowest) (less_row t x.alternative a)) (low_rows t a h xs) all in
    (by (nat_lt h x.lowest) refl first, low_high t w a h xs (all-back (λ row. pos 0 <ℤ dot row w) (if_so (nat_lt h x.lowest) (less_row t x.alternative a)) (low_rows t a h xs) all))
  where
    by : (b : Bool) → nat_lt h x.lowest ≡ b → Above (if_so b (less_row t x.alternative a)) w → IsHighEnough t w a h x
    by false is above below = ltb-false h x.lowest is
    by true is above below = absurd (let more = is_more t w x.alternative a above.0 in omega (arith, sums, more, below))

-- each of the second exactly where it is low enough
up_above : (t : DecisionTable) (w : List ℤ) (a h : ℕ) (xs : List Assignment) → AllByRecursion (IsLowEnough t w a h) xs → Above (up_rows t a h xs) w
up_above t w a h [] all = tt
up_above t w a h (x ∷ xs) all = all-append (λ row. pos 0 <ℤ dot row w) (if_so (nat_lt x.highest h) (less_row t a x.alternative)) (up_rows t a h xs) (by (nat_lt x.highest h) refl) (up_above t w a h xs all.1)
  where
    by : (b : Bool) → nat_lt x.highest h ≡ b → Above (if_so b (less_row t a x.alternative)) w
    by false is = tt
    by true is = (more_is t w a x.alternative (le_cases {P = value t w x.alternative <ℤ value t w a} (value t w a) (value t w x.alternative) (λ below. absurd (let wrong = all.0 below in let past = ltb-true x.highest h is in omega (arith, wrong, past))) (λ more. more)), tt)

up_low : (t : DecisionTable) (w : List ℤ) (a h : ℕ) (xs : List Assignment) → Above (up_rows t a h xs) w → AllByRecursion (IsLowEnough t w a h) xs
up_low t w a h [] all = tt
up_low t w a h (x ∷ xs) all =
    let first = all-front (λ row. pos 0 <ℤ dot row w) (if_so (nat_lt x.highest h) (less_row t a x.alternative)) (up_rows t a h xs) all in
    (by (nat_lt x.highest h) refl first, up_low t w a h xs (all-back (λ row. pos 0 <ℤ dot row w) (if_so (nat_lt x.highest h) (less_row t a x.alternative)) (up_rows t a h xs) all))
  where
    by : (b : Bool) → nat_lt x.highest h ≡ b → Above (if_so b (less_row t a x.alternative)) w → IsLowEnough t w a h x
    by false is above below = ltb-false x.highest h is
    by true is above below = absurd (let more = is_more t w a x.alternative above.0 in omega (arith, sums, more, below))

-- ---- no function has one of each at most 0

abbrev Outranks : DecisionTable → List ℤ → Assignment → Assignment → Type 0
Outranks t w y x = y.highest < x.lowest → value t w y.alternative <ℤ value t w x.alternative

outranked : (t : DecisionTable) (list : List Statement) (w : List ℤ) → IsCompatible t list w → AllByRecursion (λ y. AllByRecursion (Outranks t w y) (assignments_of list)) (assignments_of list)
outranked t list w compatible =
    let classes = (meets_each t w list compatible.meets).classes in
    (all-found_at (λ y. AllByRecursion (Outranks t w y) (assignments_of list)) assignment_of list).1
    (λ k s y there is. (all-found_at (Outranks t w y) assignment_of list).1 (λ j r x first is_first. classes j k r s x y first there is_first is))

both_above : (t : DecisionTable) (w : List ℤ) (a p q : ℕ) → value t w q <ℤ value t w p → pos 0 <ℤ (dot (less_row t p a) w +ℤ dot (less_row t a q) w)
both_above t w a p q more =
    let first = dot-less_row t w p a in
    let second = dot-less_row t w a q in
    omega (arith, sums, first, second, more)

against_one : (t : DecisionTable) (w : List ℤ) (a h : ℕ) (y : Assignment) (xs : List Assignment) → y.highest < h → AllByRecursion (Outranks t w y) xs → AllByRecursion (λ low. pos 0 <ℤ (dot low w +ℤ dot (less_row t a y.alternative) w)) (low_rows t a h xs)
against_one t w a h y [] below all = tt
against_one t w a h y (x ∷ xs) below all = all-append (λ low. pos 0 <ℤ (dot low w +ℤ dot (less_row t a y.alternative) w)) (if_so (nat_lt h x.lowest) (less_row t x.alternative a)) (low_rows t a h xs) (by (nat_lt h x.lowest) refl) (against_one t w a h y xs below all.1)
  where
    by : (b : Bool) → nat_lt h x.lowest ≡ b → AllByRecursion (λ low. pos 0 <ℤ (dot low w +ℤ dot (less_row t a y.alternative) w)) (if_so b (less_row t x.alternative a))
    by false is = tt
    by true is = (both_above t w a x.alternative y.alternative (all.0 (let past = ltb-true h x.lowest is in omega (arith, past, below))), tt)

against_each : (t : DecisionTable) (w : List ℤ) (a h : ℕ) (xs ys : List Assignment) → AllByRecursion (λ y. AllByRecursion (Outranks t w y) xs) ys → AllByRecursion (λ row. AllByRecursion (λ low. pos 0 <ℤ (dot low w +ℤ dot row w)) (low_rows t a h xs)) (up_rows t a h ys)
against_each t w a h xs [] all = tt
against_each t w a h xs (y ∷ ys) all = all-append (λ row. AllByRecursion (λ low. pos 0 <ℤ (dot low w +ℤ dot row w)) (low_rows t a h xs)) (if_so (nat_lt y.highest h) (less_row t a y.alternative)) (up_rows t a h ys) (by (nat_lt y.highest h) refl) (against_each t w a h xs ys all.1)
  where
    by : (b : Bool) → nat_lt y.highest h ≡ b → AllByRecursion (λ row. AllByRecursion (λ low. pos 0 <ℤ (dot low w +ℤ dot row w)) (low_rows t a h xs)) (if_so b (less_row t a y.alternative))
    by false is = tt
    by true is = (against_one t w a h y xs (ltb-true y.highest h is) all.0, tt)

-- the same, with the lists exchanged
exchanged : (w : List ℤ) (lows ups : List (List ℤ)) → AllByRecursion (λ row. AllByRecursion (λ low. pos 0 <ℤ (dot low w +ℤ dot row w)) lows) ups → AllByRecursion (λ low. AllByRecursion (λ row. pos 0 <ℤ (dot row w +ℤ dot low w)) ups) lows
exchanged w [] ups all = tt
exchanged w (low ∷ lows) ups all = (
  all-by (λ row. AllByRecursion (λ l. pos 0 <ℤ (dot l w +ℤ dot row w)) (low ∷ lows)) (λ row. pos 0 <ℤ (dot row w +ℤ dot low w)) ups (λ row is. turned (dot low w) (dot row w) is.0) all,
  exchanged w lows ups (all-by (λ row. AllByRecursion (λ l. pos 0 <ℤ (dot l w +ℤ dot row w)) (low ∷ lows)) (λ row. AllByRecursion (λ l. pos 0 <ℤ (dot l w +ℤ dot row w)) lows) ups (λ row is. is.1) all),
)
  where
    turned : (x y : ℤ) → pos 0 <ℤ (x +ℤ y) → pos 0 <ℤ (y +ℤ x)
    turned x y is = omega (arith, sums, is)

-- ---- above the class, or below it

worst_by : (t : DecisionTable) (list : List Statement) (w : List ℤ) (a h : ℕ) → (worst_class t list w a ≤ h) ↔ ((1 ≤ h) × AllByRecursion (IsHighEnough t w a h) (assignments_of list))
worst_by t list w a h =
    let worst = class_by_each.worst t list w a h in
    let places = all-found_at (IsHighEnough t w a h) assignment_of list in
    (λ le. let both = worst.0 le in (both.0, places.1 both.1), λ all. worst.1 (all.0, places.0 all.1))

best_by : (t : DecisionTable) (list : List Statement) (w : List ℤ) (a h : ℕ) → (h ≤ best_class t list w a) ↔ ((h ≤ t.classes) × AllByRecursion (IsLowEnough t w a h) (assignments_of list))
best_by t list w a h =
    let best = class_by_each.best t list w a h in
    let places = all-found_at (IsLowEnough t w a h) assignment_of list in
    (λ le. let both = best.0 le in (both.0, places.1 both.1), λ all. best.1 (all.0, places.0 all.1))

has_both : (t : DecisionTable) (list : List Statement) (a h : ℕ) → 1 ≤ h → h ≤ t.classes → ((w : List ℤ) → IsCompatible t list w → Has t list w (InClass a h) → ⊥) → (w : List ℤ) → IsCompatible t list w → Above (low_rows t a h (assignments_of list)) w → Above (up_rows t a h (assignments_of list)) w → ⊥
has_both t list a h from within none w compatible low up =
    none w compatible ((worst_by t list w a h).1 (from, low_high t w a h (assignments_of list) low), (best_by t list w a h).1 (within, up_low t w a h (assignments_of list) up))

-- where some function has it not below the class, every one has it above
pub all_above : (t : DecisionTable) (list : List Statement) (a h : ℕ) → IsLawfulIn t list → 1 ≤ h → h ≤ t.classes → ((w : List ℤ) → IsCompatible t list w → Has t list w (InClass a h) → ⊥) → (u : List ℤ) → IsCompatible t list u → h ≤ best_class t list u a → (w : List ℤ) → IsCompatible t list w → h < worst_class t list w a
all_above t list a h lawful from within none u cu above w cw = elim (cases_lt h (worst_class t list w a)) [
  | inl past ↦ past
  | inr below ↦
      let made = assignments_of list in
      absurd (one_side (IsCompatible t list) (compatible_mix t list lawful) (low_rows t a h made) (up_rows t a h made)
      (λ v cv. against_each t v a h made made (outranked t list v cv)) (has_both t list a h from within none)
      u w cu cw (up_above t u a h made ((best_by t list u a h).0 above).1) (low_above t w a h made ((worst_by t list w a h).0 below).1))
]

-- where some function has it not above the class, every one has it below
pub all_below : (t : DecisionTable) (list : List Statement) (a h : ℕ) → IsLawfulIn t list → 1 ≤ h → h ≤ t.classes → ((w : List ℤ) → IsCompatible t list w → Has t list w (InClass a h) → ⊥) → (u : List ℤ) → IsCompatible t list u → worst_class t list u a ≤ h → (w : List ℤ) → IsCompatible t list w → best_class t list w a < h
all_below t list a h lawful from within none u cu below w cw = elim (cases_lt (best_class t list w a) h) [
  | inl past ↦ past
  | inr above ↦
      let made = assignments_of list in
      absurd (one_side (IsCompatible t list) (compatible_mix t list lawful) (up_rows t a h made) (low_rows t a h made)
      (λ v cv. exchanged v (low_rows t a h made) (up_rows t a h made) (against_each t v a h made made (outranked t list v cv))) (λ v cv up low. has_both t list a h from within none v cv low up)
      u w cu cw (low_above t u a h made ((worst_by t list u a h).0 below).1) (up_above t w a h made ((best_by t list w a h).0 above).1))
]
