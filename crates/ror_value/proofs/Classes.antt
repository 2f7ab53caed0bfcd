-- Class intervals: by each assignment, and how they lie.
use Rattle.std.proofs.Common.{◌≡◌, ◌↔◌, ℕ, ◌<◌, ◌≤◌, true, List, Option, Some, None, length, map, ℤ, ◌≤ℤ◌, ◌<ℤ◌, subst, inl, inr, arith}
use Rattle.std.specs.Prelude.{Bool, int_le}
use Rattle.std.specs.List.{AllByRecursion, filter}
use Rattle.std.proofs.lemmas.Bool.{cases_lt}
use Rattle.std.proofs.lemmas.Int.{ints}
use Rattle.ror_text.proofs.Everywhere.{all-by}
use Rattle.ror_statement.specs.declared.statement.Assignment.{Assignment}
use Rattle.ror_statement.specs.declared.statement.Statement.{Statement}
use Rattle.ror_statement.specs.Statements.{assignment_of}
use Rattle.ror_statement.specs.Names.{IsAssignmentWithin, IsAssignedWithin}
use Rattle.ror_table.specs.Table.{DecisionTable}
use Rattle.ror_value.specs.Over.{IsValidIn}
use Rattle.ror_value.specs.Value.{value}
use Rattle.ror_value.specs.Meaning.{Meets, assignments_of, worst_class, best_class}
use Rattle.ror_value.specs.Laws.{OfEachAssignment, IsHighEnough, IsLowEnough, ClassByEachAssignment, ClassIntervals}
use Rattle.ror_value.proofs.Ends.{fold-max, fold-min, all-filtered, all-both, le_is, is_le, all-found, all-found_at}
use Rattle.ror_value.proofs.MeetingEach.{meets_each}

-- ---- valid assignments
-- assignments of valid statements are to some class, of alternatives of the table
within_of : (t : DecisionTable) (m : Option Assignment) → IsAssignedWithin (length t.alternatives) t.classes m → (x : Assignment) → m ≡ Some x → IsAssignmentWithin (length t.alternatives) t.classes x
within_of t None within x is = absurd cc
within_of t (Some y) within x is = let same : y ≡ x = cc in subst (IsAssignmentWithin (length t.alternatives) t.classes) same within

pub assignments_within : (t : DecisionTable) (list : List Statement) → AllByRecursion (IsValidIn t) list → AllByRecursion (IsAssignmentWithin (length t.alternatives) t.classes) (assignments_of list)
assignments_within t list valid =
    let P : Assignment → Type 0 = IsAssignmentWithin (length t.alternatives) t.classes in
    (all-found P assignment_of list).1 (all-by (IsValidIn t) (λ s. (x : Assignment) → assignment_of s ≡ Some x → P x) list (λ s is. within_of t (assignment_of s) is.assigned) valid)

-- ---- by each assignment
worst_of_each : (t : DecisionTable) (list : List Statement) (w : List ℤ) (a h : ℕ) → (worst_class t list w a ≤ h) ↔ ((1 ≤ h) × AllByRecursion (IsHighEnough t w a h) (assignments_of list))
worst_of_each t list w a h =
    let xs = assignments_of list in
    let test : Assignment → Bool = λ x. int_le (value t w x.alternative) (value t w a) in
    let Q : Assignment → Type 0 = λ x. test x ≡ true → x.lowest ≤ h in
    let top = fold-max h 1 (map (λ (x : Assignment). x.lowest) (filter test xs)) in
    let each = all-filtered (λ n. n ≤ h) (λ (x : Assignment). x.lowest) test xs in
    (λ le. let both = top.0 le in (both.0, all-by Q (IsHighEnough t w a h) xs (λ x has le. has (is_le (value t w x.alternative) (value t w a) le)) (each.0 both.1)), λ all. top.1 (all.0, each.1 (all-by (IsHighEnough t w a h) Q xs (λ x has is. has (le_is (value t w x.alternative) (value t w a) is)) all.1)))

best_of_each : (t : DecisionTable) (list : List Statement) (w : List ℤ) (a h : ℕ) → (h ≤ best_class t list w a) ↔ ((h ≤ t.classes) × AllByRecursion (IsLowEnough t w a h) (assignments_of list))
best_of_each t list w a h =
    let xs = assignments_of list in
    let test : Assignment → Bool = λ x. int_le (value t w a) (value t w x.alternative) in
    let Q : Assignment → Type 0 = λ x. test x ≡ true → h ≤ x.highest in
    let low = fold-min h t.classes (map (λ (x : Assignment). x.highest) (filter test xs)) in
    let each = all-filtered (λ n. h ≤ n) (λ (x : Assignment). x.highest) test xs in
    (λ le. let both = low.0 le in (both.0, all-by Q (IsLowEnough t w a h) xs (λ x has le. has (is_le (value t w a) (value t w x.alternative) le)) (each.0 both.1)), λ all. low.1 (all.0, each.1 (all-by (IsLowEnough t w a h) Q xs (λ x has is. has (le_is (value t w a) (value t w x.alternative) is)) all.1)))

pub in_class_of_each : (t : DecisionTable) (list : List Statement) (w : List ℤ) (a h : ℕ) → 1 ≤ h → h ≤ t.classes
    → ((worst_class t list w a ≤ h) × (h ≤ best_class t list w a)) ↔ AllByRecursion (λ x. IsHighEnough t w a h x × IsLowEnough t w a h x) (assignments_of list)
in_class_of_each t list w a h first last =
    let worst = worst_of_each t list w a h in
    let best = best_of_each t list w a h in
    let both = all-both (IsHighEnough t w a h) (IsLowEnough t w a h) (assignments_of list) in
    (λ between. both.0 ((worst.0 between.0).1, (best.0 between.1).1), λ all. let parts = both.1 all in (worst.1 (first, parts.0), best.1 (last, parts.1)))

pub class_by_each : ClassByEachAssignment
class_by_each = record {
  worst = λ t list w a h. worst_at t list w a h;
  best = λ t list w a h. best_at t list w a h;
  in_class = λ t list w a h first last. in_class_at t list w a h first last;
}
  where
    worst_at : (t : DecisionTable) (list : List Statement) (w : List ℤ) (a h : ℕ) → (worst_class t list w a ≤ h) ↔ ((1 ≤ h) × OfEachAssignment list (IsHighEnough t w a h))
    worst_at t list w a h =
        let worst = worst_of_each t list w a h in
        let places = all-found_at (IsHighEnough t w a h) assignment_of list in
        (λ le. let both = worst.0 le in (both.0, places.0 both.1), λ all. worst.1 (all.0, places.1 all.1))

    best_at : (t : DecisionTable) (list : List Statement) (w : List ℤ) (a h : ℕ) → (h ≤ best_class t list w a) ↔ ((h ≤ t.classes) × OfEachAssignment list (IsLowEnough t w a h))
    best_at t list w a h =
        let best = best_of_each t list w a h in
        let places = all-found_at (IsLowEnough t w a h) assignment_of list in
        (λ le. let both = best.0 le in (both.0, places.0 both.1), λ all. best.1 (all.0, places.1 all.1))

    in_class_at : (t : DecisionTable) (list : List Statement) (w : List ℤ) (a h : ℕ) → 1 ≤ h → h ≤ t.classes → ((worst_class t list w a ≤ h) × (h ≤ best_class t list w a)) ↔ OfEachAssignment list (λ x. IsHighEnough t w a h x × IsLowEnough t w a h x)
    in_class_at t list w a h first last =
        let lets = in_class_of_each t list w a h first last in
        let places = all-found_at (λ x. IsHighEnough t w a h x × IsLowEnough t w a h x) assignment_of list in
        (λ between. places.0 (lets.0 between), λ all. lets.1 (places.1 all))

-- ---- how intervals lie
same_value : (x : ℤ) → x ≤ℤ x
same_value x = omega (arith, ints)

at_most_itself : (n : ℕ) → n ≤ n
at_most_itself n = omega arith

up_to : (x y z : ℤ) → x ≤ℤ y → y ≤ℤ z → x ≤ℤ z
up_to x y z first second = omega (arith, ints, first, second)

-- what the ends of the interval are beside each assignment
worst_itself : (t : DecisionTable) (list : List Statement) (w : List ℤ) (a : ℕ) → (1 ≤ worst_class t list w a) × OfEachAssignment list (IsHighEnough t w a (worst_class t list w a))
worst_itself t list w a = (class_by_each.worst t list w a (worst_class t list w a)).0 (at_most_itself (worst_class t list w a))

best_itself : (t : DecisionTable) (list : List Statement) (w : List ℤ) (a : ℕ) → (best_class t list w a ≤ t.classes) × OfEachAssignment list (IsLowEnough t w a (best_class t list w a))
best_itself t list w a = (class_by_each.best t list w a (best_class t list w a)).0 (at_most_itself (best_class t list w a))

within_at : (t : DecisionTable) (list : List Statement) → AllByRecursion (IsValidIn t) list → OfEachAssignment list (IsAssignmentWithin (length t.alternatives) t.classes)
within_at t list valid = (all-found_at (IsAssignmentWithin (length t.alternatives) t.classes) assignment_of list).0 (assignments_within t list valid)

worst_is_class : (t : DecisionTable) (list : List Statement) (w : List ℤ) (a : ℕ) → 1 ≤ t.classes → AllByRecursion (IsValidIn t) list → worst_class t list w a ≤ t.classes
worst_is_class t list w a some valid =
    (class_by_each.worst t list w a t.classes).1 (some, λ k s x there is below. let within = within_at t list valid k s x there is in let order = within.some_class in let last = within.to_last in omega (arith, order, last))

best_is_class : (t : DecisionTable) (list : List Statement) (w : List ℤ) (a : ℕ) → 1 ≤ t.classes → AllByRecursion (IsValidIn t) list → 1 ≤ best_class t list w a
best_is_class t list w a some valid =
    (class_by_each.best t list w a 1).1 (some, λ k s x there is above. let within = within_at t list valid k s x there is in let order = within.some_class in let first = within.from_first in omega (arith, order, first))

-- where classes are ranked by value, the lowest class of one of at most the value is at most the highest of one of at least it
not_ranked : (lowest highest : ℕ) (low mine high : ℤ) → (highest < lowest → high <ℤ low) → low ≤ℤ mine → mine ≤ℤ high → lowest ≤ highest
not_ranked lowest highest low mine high ranked below above =
    elim (cases_lt highest lowest) [
      | inl past ↦ absurd (let wrong = ranked past in omega (arith, ints, wrong, below, above))
      | inr within ↦ omega (arith, within)
    ]

not_empty : (t : DecisionTable) (list : List Statement) (w : List ℤ) (a : ℕ) → 1 ≤ t.classes → AllByRecursion (IsValidIn t) list → Meets t w list → worst_class t list w a ≤ best_class t list w a
not_empty t list w a some valid meets =
    let ranked = (meets_each t w list meets).classes in
    (class_by_each.worst t list w a (best_class t list w a)).1 (
      best_is_class t list w a some valid,
      λ j r x first is_first below. (class_by_each.best t list w a x.lowest).1 (
        (let within = within_at t list valid j r x first is_first in let order = within.some_class in let last = within.to_last in omega (arith, order, last)),
        λ k s y second is_second above. not_ranked x.lowest y.highest (value t w x.alternative) (value t w a) (value t w y.alternative) (ranked j k r s x y first second is_first is_second) below above,
      ),
    )

pub class_intervals : ClassIntervals
class_intervals = record {
  within_classes = λ t list w a. ((worst_itself t list w a).0, (best_itself t list w a).0);
  ends_are_classes = λ t list w a some valid. (worst_is_class t list w a some valid, best_is_class t list w a some valid);
  not_empty = not_empty;
  within_assigned = λ t list w k s x there is. ((worst_itself t list w x.alternative).1 k s x there is (same_value (value t w x.alternative)), (best_itself t list w x.alternative).1 k s x there is (same_value (value t w x.alternative)));
  monotone = λ t list w a b le. (
    (let bound = worst_itself t list w b in (class_by_each.worst t list w a (worst_class t list w b)).1 (bound.0, λ k s x there is below. bound.1 k s x there is (up_to _ _ _ below le))),
    (let bound = best_itself t list w a in (class_by_each.best t list w b (best_class t list w a)).1 (bound.0, λ k s x there is above. bound.1 k s x there is (up_to _ _ _ le above))),
  );
}
