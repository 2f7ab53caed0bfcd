-- An alternative whose row says nothing is open with each other one, where each cell says something.
use Rattle.std.proofs.Common.{◌≡◌, ◌≢◌, ℕ, ◌<◌, Bool, true, false, List, [], Option, Some, get_or, refl, sym, ap, ◌∙◌, arith}
use Rattle.std.specs.Prelude.{slice_get}
use Rattle.std.specs.List.{list_any}
use Rattle.std.specs.Option.{option_map_or}
use Rattle.std.proofs.lemmas.List.Folds.{list_any_at}
use Rattle.std.proofs.lemmas.List.FromFn.{get_or-map-range_with_len, length-map-range_with_len}
use Rattle.ror_statement.specs.declared.statement.Statement.{Statement}
use Rattle.ror_table.specs.Table.{DecisionTable}
use Rattle.ror_value.specs.Meaning.{IsConsistent}
use Rattle.ror_proof.specs.declared.answer.Answer.{Answer}
use Rattle.ror_show_ground.proofs.Lists.{at_place}
use Rattle.ror_show_ground.proofs.Tests.{not-true}
use Rattle.ror_show_find_relation.specs.declared.cell.Cell.{Cell}
use Rattle.ror_show_find_relation.specs.declared.cell.Cell.TheVariants as cells
use Rattle.ror_show_find_relation.specs.Cells.{cell_at, cells_from, cell_rows}
use Rattle.ror_show_find_relation.specs.Meaning.{IsOpen, Says}
use Rattle.ror_show_find_relation.proofs.CellLemmas.{cells-true}
use Rattle.ror_show_text_relation.specs.Apart.{says_something, is_silent, is_apart}
use Rattle.ror_show_text_relation.specs.Laws.{ApartAreOpen}

silent_at : (n : ℕ) (xs : List Answer) (a b : ℕ) → a < n → b < n → is_apart (cell_rows n xs) a ≡ true → says_something (cell_at n xs a b) ≡ false
silent_at n xs a b row column apart = by (says_something (cell_at n xs a b)) refl
  where
    the_row : get_or (cell_rows n xs) a [] ≡ cells_from n xs a
    the_row = get_or-map-range_with_len (cells_from n xs) 0 n a a [] row (omega arith)

    the_cell : get_or (cells_from n xs a) b cells.Unknown ≡ cell_at n xs a b
    the_cell = get_or-map-range_with_len (cell_at n xs a) 0 n b b cells.Unknown column (omega arith)

    there : slice_get (cell_rows n xs) a ≡ Some (cells_from n xs a)
    there = let long = length-map-range_with_len (cells_from n xs) 0 n in at_place (cell_rows n xs) a [] (omega (arith, row, long)) ∙ ap Some the_row

    none : list_any says_something (cells_from n xs a) ≡ false
    none = not-true (list_any says_something (cells_from n xs a)) (sym (ap (λ (o : Option (List Cell)). option_map_or is_silent o false) there) ∙ apart)

    by : (b_says : Bool) → says_something (cell_at n xs a b) ≡ b_says → says_something (cell_at n xs a b) ≡ false
    by false is = is
    by true is =
        let long = length-map-range_with_len (cell_at n xs a) 0 n in
        let some = list_any_at says_something (cells_from n xs a) b cells.Unknown (omega (arith, column, long)) (ap says_something the_cell ∙ is) in
        absurd (let both_ways = sym some ∙ none in cc)

says_open : (t : DecisionTable) (list : List Statement) (c : Cell) (a b : ℕ) → says_something c ≡ false → a ≢ b → c ≢ cells.Unknown → IsConsistent t list → Says t list c a b → IsOpen t list a b
says_open t list cells.Itself a b silent differ known some says = absurd (differ says)
says_open t list cells.AlwaysBetter a b silent differ known some says = absurd cc
says_open t list cells.AtLeastAsGood a b silent differ known some says = absurd cc
says_open t list cells.AlwaysEqual a b silent differ known some says = absurd cc
says_open t list cells.Open a b silent differ known some says = says
says_open t list cells.AtMostAsGood a b silent differ known some says = absurd cc
says_open t list cells.NeverAsGood a b silent differ known some says = absurd cc
says_open t list cells.Contradiction a b silent differ known some says = absurd (says some.0 some.1)
says_open t list cells.Unknown a b silent differ known some says = absurd (known refl)

pub apart_open : ApartAreOpen
apart_open t list xs n a b all whole row column differ apart =
    says_open t list (cell_at n xs a b) a b (silent_at n xs a b row column apart) differ (whole.known a b row column) whole.consistent (cells-true t list xs n a b all)
