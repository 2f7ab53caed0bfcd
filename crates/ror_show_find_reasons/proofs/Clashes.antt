-- What a repair kept before a statement, and that statement.
use Rattle.std.proofs.Common.{◌≡◌, ℕ, List, Some, refl, subst}
use Rattle.std.specs.Prelude.{slice_get}
use Rattle.std.specs.List.Sorted.{IsStrictlyIncreasing}
use Rattle.ror_statement.specs.declared.statement.Numbered.{Numbered}
use Rattle.ror_statement.specs.Statements.{numbers_in, statements_in}
use Rattle.ror_statement.proofs.Sublists.{sublist-map, sublist-with}
use Rattle.ror_table.specs.Table.{DecisionTable}
use Rattle.ror_value.specs.Over.{IsLawfulIn}
use Rattle.ror_check.proofs.Repairs.{with_lawful}
use Rattle.ror_reason.proofs.Parts.{numbers-sublist, numbers-whole}
use Rattle.ror_reason.specs.declared.reducts.Reason.{Reason}
use Rattle.ror_show_find_reasons.specs.Lines.{clash_list, IsConflict, IsDropOf}

pub clash_lawful : (t : DecisionTable) (dropped : List ℕ) (list : List Numbered) (k : ℕ) (x : Numbered) → slice_get list k ≡ Some x → IsLawfulIn t (statements_in list) → IsLawfulIn t (statements_in (clash_list dropped list k x))
clash_lawful t dropped list k x there lawful = with_lawful t dropped list k x there lawful

pub clash_rises : (dropped : List ℕ) (list : List Numbered) (k : ℕ) (x : Numbered) → slice_get list k ≡ Some x → IsStrictlyIncreasing (numbers_in list) → IsStrictlyIncreasing (numbers_in (clash_list dropped list k x))
clash_rises dropped list k x there up =
    let sub = sublist-map (λ (y : Numbered). y.number) (clash_list dropped list k x) list (sublist-with _ list k x there) in
    (numbers-sublist list (numbers_in (clash_list dropped list k x)) (numbers_in list) sub (numbers-whole list up)).rising

-- the statement that is read at a place, with its conflict
pub drop_of : (t : DecisionTable) (list : List Numbered) (dropped : List ℕ) (k : ℕ) (x y : Numbered) (conflict : Reason) → x ≡ y → IsConflict t (clash_list dropped list k x) conflict → IsDropOf t list dropped k y (record { at = k; number = x.number; conflict = conflict })
drop_of t list dropped k x y conflict same is =
    subst (λ (z : Numbered). IsDropOf t list dropped k z (record { at = k; number = x.number; conflict = conflict })) same (refl, is)
