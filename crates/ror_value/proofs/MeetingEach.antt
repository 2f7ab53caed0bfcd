-- What a function meets, list by list and place by place.
use Rattle.std.proofs.Common.{◌≡◌, ◌<◌, true, false, List, Option, Some, None, ℤ, ◌<ℤ◌, refl, subst, option_to_list}
use Rattle.std.specs.Prelude.{nat_lt}
use Rattle.std.specs.List.{AllByRecursion, flat_map}
use Rattle.std.proofs.lemmas.Bool.{lt-ltb, ltb-true}
use Rattle.ror_text.proofs.Everywhere.{all-append, all-front, all-back, all-pieces, each-piece, all_at, all_by_places}
use Rattle.ror_statement.specs.declared.comparison.Comparison.{Comparison}
use Rattle.ror_statement.specs.declared.statement.Assignment.{Assignment}
use Rattle.ror_statement.specs.declared.statement.Statement.{Statement}
use Rattle.ror_statement.specs.Statements.{comparison_of, assignment_of, outranking_by, outranking, class_comparisons}
use Rattle.ror_table.specs.Table.{DecisionTable}
use Rattle.ror_value.specs.Value.{value}
use Rattle.ror_value.specs.Meaning.{Holds, Meets}
use Rattle.ror_value.specs.Laws.{MeetsEach}

own_holds : (t : DecisionTable) (w : List ℤ) (m : Option Comparison) → ((c : Comparison) → m ≡ Some c → Holds t w c) → AllByRecursion (Holds t w) (option_to_list m)
own_holds t w None each = tt
own_holds t w (Some c) each = (each c refl, tt)

own_held : (t : DecisionTable) (w : List ℤ) (m : Option Comparison) (c : Comparison) → m ≡ Some c → AllByRecursion (Holds t w) (option_to_list m) → Holds t w c
own_held t w m c is all = let both = subst (λ (n : Option Comparison). AllByRecursion (Holds t w) (option_to_list n)) is all in both.0

-- two assignments, of which the first outranks the second or doesn't
rank_holds : (t : DecisionTable) (w : List ℤ) (x y : Assignment) → (y.highest < x.lowest → value t w y.alternative <ℤ value t w x.alternative) → AllByRecursion (Holds t w) (outranking_by (Some x) (Some y))
rank_holds t w x y ranked = by_test (nat_lt y.highest x.lowest) refl
  where
    by_test : (b : _) → nat_lt y.highest x.lowest ≡ b → AllByRecursion (Holds t w) (outranking_by (Some x) (Some y))
    by_test true is = rw is (ranked (ltb-true y.highest x.lowest is), tt)
    by_test false is = rw is tt

ranks_hold : (t : DecisionTable) (w : List ℤ) (m n : Option Assignment) → ((x y : Assignment) → m ≡ Some x → n ≡ Some y → y.highest < x.lowest → value t w y.alternative <ℤ value t w x.alternative) → AllByRecursion (Holds t w) (outranking_by m n)
ranks_hold t w None n each = tt
ranks_hold t w (Some x) None each = tt
ranks_hold t w (Some x) (Some y) each = rank_holds t w x y (each x y refl refl)

rank_held : (t : DecisionTable) (w : List ℤ) (m n : Option Assignment) (x y : Assignment) → m ≡ Some x → n ≡ Some y → y.highest < x.lowest → AllByRecursion (Holds t w) (outranking_by m n) → value t w y.alternative <ℤ value t w x.alternative
rank_held t w m n x y first second above all =
    let moved = subst (λ (k : Option Assignment). AllByRecursion (Holds t w) (outranking_by k n)) first all in
    let again = subst (λ (k : Option Assignment). AllByRecursion (Holds t w) (outranking_by (Some x) k)) second moved in
    let one = rw (lt-ltb y.highest x.lowest above) at again in
    one.0

pub meets_each : (t : DecisionTable) (w : List ℤ) (list : List Statement) → Meets t w list → MeetsEach t w list
meets_each t w list meets =
    let own = each-piece (Holds t w) (λ s. option_to_list (comparison_of s)) list (all-front (Holds t w) _ (class_comparisons list) meets) in
    let ranked = each-piece (Holds t w) (λ r. flat_map (outranking r) list) list (all-back (Holds t w) (flat_map (λ s. option_to_list (comparison_of s)) list) (class_comparisons list) meets) in
    record {
      comparisons = λ k s c there is. own_held t w (comparison_of s) c is (all_at _ list k s own there);
      classes = λ j k r s x y first second is_first is_second above.
          rank_held t w (assignment_of r) (assignment_of s) x y is_first is_second above (all_at _ list k s (each-piece (Holds t w) (outranking r) list (all_at _ list j r ranked first)) second);
    }

pub each_meets : (t : DecisionTable) (w : List ℤ) (list : List Statement) → MeetsEach t w list → Meets t w list
each_meets t w list each =
    all-append (Holds t w) (flat_map (λ s. option_to_list (comparison_of s)) list) (class_comparisons list)
    (all-pieces (Holds t w) (λ s. option_to_list (comparison_of s)) list (all_by_places _ list (λ k s there. own_holds t w (comparison_of s) (λ c is. each.comparisons k s c there is))))
    (all-pieces (Holds t w) (λ r. flat_map (outranking r) list) list (all_by_places _ list (λ j r first. all-pieces (Holds t w) (outranking r) list (all_by_places _ list (λ k s second. ranks_hold t w (assignment_of r) (assignment_of s) (λ x y is_first is_second above. each.classes j k r s x y first second is_first is_second above))))))
