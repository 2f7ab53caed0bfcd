-- What is known of a relation by true answers: it is true, has no strict cycle, and is all of it where each cell says something.
use Rattle.std.proofs.Common.{◌≡◌, ◌≢◌, ℕ, zero, suc, ◌<◌, ◌≤◌, Bool, true, false, ◌&&◌, List, [], length, map, get_or, refl, sym, ap, ◌∙◌, arith}
use Rattle.std.proofs.lemmas.Int.{ints}
use Rattle.std.specs.Prelude.{nat_lt, ◌≤ℤ◌, ◌<ℤ◌}
use Rattle.std.proofs.lemmas.Bool.{lt-ltb}
use Rattle.std.proofs.lemmas.List.{get_or-map, length-map}
use Rattle.std.proofs.lemmas.List.FromFn.{length-map-range_with_len, get_or-map-range_with_len}
use Rattle.ror_statement.specs.declared.statement.Statement.{Statement}
use Rattle.ror_table.specs.Table.{DecisionTable}
use Rattle.ror_value.specs.Value.{value}
use Rattle.ror_value.specs.Meaning.{IsConsistent}
use Rattle.ror_proof.specs.declared.answer.Answer.{Answer}
use Rattle.ror_show_find_relation.specs.Relations.{Square, holds, IsAbove, PathOf, Path, IsTransitive}
use Rattle.ror_show_find_relation.proofs.Parts.{of-above, to-above, first-there, second-there}
use Rattle.ror_show_find_relation.specs.Arrows.{IsArrow}
use Rattle.ror_show_find_relation.proofs.ArrowLemmas.{closure}
use Rattle.ror_show_find_relation.specs.declared.cell.Cell.{Cell}
use Rattle.ror_show_find_relation.specs.declared.cell.Cell.TheVariants as cells
use Rattle.ror_show_find_relation.specs.Cells.{cell_at, cells_from, cell_rows, is_over, mirror}
use Rattle.ror_show_find_relation.specs.Pages.{known, marks}
use Rattle.ror_show_find_relation.specs.Meaning.{Says}
use Rattle.ror_show_find_relation.specs.CellLaws.{AreTrueAnswers, IsWholeRelation, KnownOf, WholeOf}
use Rattle.ror_show_find_relation.proofs.CellLemmas.{cells-true}
use Rattle.ror_show_find_relation.proofs.OneCell.{IsOver}
use Rattle.ror_show_find_relation.proofs.Mirror.{mirrored}

-- ---- where the marks stand

pub marks-size : (mark : Cell → Bool) (n : ℕ) (xs : List Answer) → length (marks mark (cell_rows n xs)) ≡ n
marks-size mark n xs = length-map (cell_rows n xs) (map mark) ∙ length-map-range_with_len (cells_from n xs) 0 n

pub marks-at : (mark : Cell → Bool) (n : ℕ) (xs : List Answer) (a b : ℕ) → a < n → b < n → holds (marks mark (cell_rows n xs)) a b ≡ mark (cell_at n xs a b)
marks-at mark n xs a b row column =
    let many : length (cell_rows n xs) ≡ n = length-map-range_with_len (cells_from n xs) 0 n in
    let wide : length (cells_from n xs a) ≡ n = length-map-range_with_len (cell_at n xs a) 0 n in
    let there : nat_lt b (length (marks mark (cell_rows n xs))) ≡ true = lt-ltb b (length (marks mark (cell_rows n xs))) (let size = marks-size mark n xs in omega arith) in
    let of_row : get_or (marks mark (cell_rows n xs)) a [] ≡ map mark (get_or (cell_rows n xs) a []) = get_or-map (map mark) (cell_rows n xs) a [] [] (omega arith) in
    let the_row : get_or (cell_rows n xs) a [] ≡ cells_from n xs a = get_or-map-range_with_len (cells_from n xs) 0 n a a [] row (omega arith) in
    let of_cell : get_or (map mark (cells_from n xs a)) b false ≡ mark (get_or (cells_from n xs a) b cells.Open) = get_or-map mark (cells_from n xs a) b cells.Open false (omega arith) in
    let the_cell : get_or (cells_from n xs a) b cells.Open ≡ cell_at n xs a b = get_or-map-range_with_len (cell_at n xs a) 0 n b b cells.Open column (omega arith) in
    let entry : get_or (get_or (marks mark (cell_rows n xs)) a []) b false ≡ mark (cell_at n xs a b) =
    ap (λ (r : List Bool). get_or r b false) (of_row ∙ ap (map mark) the_row) ∙ of_cell ∙ ap mark the_cell in
    ap (λ (t : Bool). t && get_or (get_or (marks mark (cell_rows n xs)) a []) b false) there ∙ entry

known-size : (n : ℕ) (xs : List Answer) → length (known (cell_rows n xs)) ≡ n
known-size = marks-size is_over

pub known-at : (n : ℕ) (xs : List Answer) (a b : ℕ) → a < n → b < n → holds (known (cell_rows n xs)) a b ≡ is_over (cell_at n xs a b)
known-at = marks-at is_over

-- ---- what a mark says

pub says-over : (t : DecisionTable) (list : List Statement) (c : Cell) (a b : ℕ) → is_over c ≡ true → Says t list c a b → IsOver t list a b
says-over t list cells.Itself a b over says = λ w compatible. (let same : value t w a ≡ value t w b = ap (value t w) says in omega (arith, ints))
says-over t list cells.AlwaysBetter a b over says = λ w compatible. (let more : value t w b <ℤ value t w a = says.more w compatible in omega (arith, ints))
says-over t list cells.AtLeastAsGood a b over says = says.at_least
says-over t list cells.AlwaysEqual a b over says = λ w compatible. (let same : value t w a ≡ value t w b = says.same w compatible in omega (arith, ints))
says-over t list cells.Open a b over says = absurd cc
says-over t list cells.AtMostAsGood a b over says = absurd cc
says-over t list cells.NeverAsGood a b over says = absurd cc
says-over t list cells.Contradiction a b over says = absurd cc
says-over t list cells.Unknown a b over says = absurd cc

-- over a consistent list a cell that says something and isn't marked says that it isn't over
says-not-over : (t : DecisionTable) (list : List Statement) (c : Cell) (a b : ℕ) → IsConsistent t list → c ≢ cells.Unknown → is_over c ≡ false → Says t list c a b → IsOver t list a b → ⊥
says-not-over t list cells.Itself a b some known over says is = cc
says-not-over t list cells.AlwaysBetter a b some known over says is = cc
says-not-over t list cells.AtLeastAsGood a b some known over says is = cc
says-not-over t list cells.AlwaysEqual a b some known over says is = cc
says-not-over t list cells.Open a b some known over says is = says.not_over is
says-not-over t list cells.AtMostAsGood a b some known over says is =
    says.no_tie (λ w compatible. (let most : value t w b ≤ℤ value t w a = is w compatible in let least : value t w a ≤ℤ value t w b = says.at_least w compatible in omega (arith, ints)))
says-not-over t list cells.NeverAsGood a b some known over says is =
    let more : value t some.0 a <ℤ value t some.0 b = says.more some.0 some.1 in
    let least : value t some.0 b ≤ℤ value t some.0 a = is some.0 some.1 in
    omega (arith, ints)
says-not-over t list cells.Contradiction a b some known over says is = says some.0 some.1
says-not-over t list cells.Unknown a b some known over says is = known refl

pub over-transitive : (t : DecisionTable) (list : List Statement) (a b c : ℕ) → IsOver t list a b → IsOver t list b c → IsOver t list a c
over-transitive t list a b c p q = λ w compatible. (let first : value t w b ≤ℤ value t w a = p w compatible in let second : value t w c ≤ℤ value t w b = q w compatible in omega (arith, ints))

pub known-sound : (t : DecisionTable) (list : List Statement) (xs : List Answer) (n a b : ℕ) → AreTrueAnswers t list xs → holds (known (cell_rows n xs)) a b ≡ true → IsOver t list a b
known-sound t list xs n a b all over =
    let size = known-size n xs in
    let row : a < n = (let l = first-there (known (cell_rows n xs)) a b over in omega arith) in
    let column : b < n = (let l = second-there (known (cell_rows n xs)) a b over in omega arith) in
    says-over t list (cell_at n xs a b) a b (sym (known-at n xs a b row column) ∙ over) (cells-true t list xs n a b all)

pub known-complete : (t : DecisionTable) (list : List Statement) (xs : List Answer) (n a b : ℕ) → AreTrueAnswers t list xs → IsWholeRelation t list n xs → a < n → b < n → IsOver t list a b → holds (known (cell_rows n xs)) a b ≡ true
known-complete t list xs n a b all whole row column is = by (is_over (cell_at n xs a b)) refl
  where
    by : (o : Bool) → is_over (cell_at n xs a b) ≡ o → holds (known (cell_rows n xs)) a b ≡ true
    by true over = known-at n xs a b row column ∙ over
    by false over = absurd (says-not-over t list (cell_at n xs a b) a b whole.consistent (whole.known a b row column) over (cells-true t list xs n a b all) is)

-- ---- the strict part

pub strict-says : (t : DecisionTable) (list : List Statement) (c : Cell) (a b : ℕ) → is_over c ≡ true → is_over (mirror c) ≡ false → Says t list c a b → IsOver t list b a → ⊥
strict-says t list cells.Itself a b over not_back says is = cc
strict-says t list cells.AlwaysBetter a b over not_back says is =
    let some = says.consistent in
    let more : value t some.0 b <ℤ value t some.0 a = says.more some.0 some.1 in
    let most : value t some.0 a ≤ℤ value t some.0 b = is some.0 some.1 in
    omega (arith, ints)
strict-says t list cells.AtLeastAsGood a b over not_back says is =
    says.no_tie (λ w compatible. (let least : value t w b ≤ℤ value t w a = says.at_least w compatible in let most : value t w a ≤ℤ value t w b = is w compatible in omega (arith, ints)))
strict-says t list cells.AlwaysEqual a b over not_back says is = cc
strict-says t list cells.Open a b over not_back says is = cc
strict-says t list cells.AtMostAsGood a b over not_back says is = cc
strict-says t list cells.NeverAsGood a b over not_back says is = cc
strict-says t list cells.Contradiction a b over not_back says is = cc
strict-says t list cells.Unknown a b over not_back says is = cc

pub known-strict : (t : DecisionTable) (list : List Statement) (xs : List Answer) (n a b : ℕ) → AreTrueAnswers t list xs → IsAbove (known (cell_rows n xs)) a b → IsOver t list b a → ⊥
known-strict t list xs n a b all above =
    let parts = of-above (known (cell_rows n xs)) a b above in
    let size = known-size n xs in
    let row : a < n = (let l = first-there (known (cell_rows n xs)) a b parts.0 in omega arith) in
    let column : b < n = (let l = second-there (known (cell_rows n xs)) a b parts.0 in omega arith) in
    strict-says t list (cell_at n xs a b) a b (sym (known-at n xs a b row column) ∙ parts.0)
    (ap is_over (sym (mirrored n xs a b)) ∙ sym (known-at n xs b a column row) ∙ parts.1) (cells-true t list xs n a b all)

path-over : (t : DecisionTable) (list : List Statement) (xs : List Answer) (n : ℕ) → AreTrueAnswers t list xs → (k a b : ℕ) → PathOf (IsAbove (known (cell_rows n xs))) k a b → IsOver t list a b
path-over t list xs n all zero a b one = known-sound t list xs n a b all (of-above (known (cell_rows n xs)) a b one).0
path-over t list xs n all (suc k) a b p =
    over-transitive t list a p.0 b (known-sound t list xs n a p.0 all (of-above (known (cell_rows n xs)) a p.0 p.1).0) (path-over t list xs n all k p.0 b p.2)

no-cycle : (t : DecisionTable) (list : List Statement) (xs : List Answer) (n : ℕ) → AreTrueAnswers t list xs → (k a : ℕ) → PathOf (IsAbove (known (cell_rows n xs))) k a a → ⊥
no-cycle t list xs n all zero a one = known-strict t list xs n a a all one (path-over t list xs n all zero a a one)
no-cycle t list xs n all (suc k) a p = known-strict t list xs n a p.0 all p.1 (path-over t list xs n all k p.0 a p.2)

pub known-of : (t : DecisionTable) (list : List Statement) (xs : List Answer) (n : ℕ) → AreTrueAnswers t list xs → KnownOf t list n xs
known-of t list xs n all = record {
  sound = λ a b over. known-sound t list xs n a b all over;
  strict = λ a b above is. known-strict t list xs n a b all above is;
  acyclic = λ a p. no-cycle t list xs n all p.0 a p.1;
}

-- ---- where each cell says something

whole-transitive : (t : DecisionTable) (list : List Statement) (xs : List Answer) (n : ℕ) → AreTrueAnswers t list xs → IsWholeRelation t list n xs → IsTransitive (known (cell_rows n xs))
whole-transitive t list xs n all whole a b c p q =
    let size = known-size n xs in
    let row : a < n = (let l = first-there (known (cell_rows n xs)) a b p in omega arith) in
    let column : c < n = (let l = second-there (known (cell_rows n xs)) b c q in omega arith) in
    known-complete t list xs n a c all whole row column
    (over-transitive t list a b c (known-sound t list xs n a b all p) (known-sound t list xs n b c all q))

whole-above : (t : DecisionTable) (list : List Statement) (xs : List Answer) (n a b : ℕ) → AreTrueAnswers t list xs → IsWholeRelation t list n xs → a < n → b < n → IsOver t list a b → (IsOver t list b a → ⊥) → IsAbove (known (cell_rows n xs)) a b
whole-above t list xs n a b all whole row column over under =
    to-above (known (cell_rows n xs)) a b (known-complete t list xs n a b all whole row column over) (by (holds (known (cell_rows n xs)) b a) refl)
  where
    by : (o : Bool) → holds (known (cell_rows n xs)) b a ≡ o → holds (known (cell_rows n xs)) b a ≡ false
    by true is = absurd (under (known-sound t list xs n b a all is))
    by false is = is

pub whole-of : (t : DecisionTable) (list : List Statement) (xs : List Answer) (n : ℕ) → AreTrueAnswers t list xs → IsWholeRelation t list n xs → WholeOf t list n xs
whole-of t list xs n all whole = record {
  relation = λ a b row column. (λ over. known-sound t list xs n a b all over, λ over. known-complete t list xs n a b all whole row column over);
  transitive = whole-transitive t list xs n all whole;
  arrows = λ a b row column. (λ p. to_strict a b p, λ parts. from_strict a b row column parts.0 parts.1);
}
  where
    to_strict : (a b : ℕ) → Path (IsArrow (known (cell_rows n xs))) a b → IsOver t list a b × (IsOver t list b a → ⊥)
    to_strict a b p =
        let above : IsAbove (known (cell_rows n xs)) a b = ((closure (known (cell_rows n xs))).transitive (whole-transitive t list xs n all whole) a b).0 p in
        (known-sound t list xs n a b all (of-above (known (cell_rows n xs)) a b above).0, known-strict t list xs n a b all above)

    from_strict : (a b : ℕ) → a < n → b < n → IsOver t list a b → (IsOver t list b a → ⊥) → Path (IsArrow (known (cell_rows n xs))) a b
    from_strict a b row column over under =
        ((closure (known (cell_rows n xs))).transitive (whole-transitive t list xs n all whole) a b).1 (whole-above t list xs n a b all whole row column over under)

-- ---- how large the marks are

pub marks-few : (mark : Cell → Bool) (rows : List (List Cell)) (made : Square) → length rows ≤ 200 → made ≡ marks mark rows → length made ≤ 200
marks-few mark rows made few of_rows =
    let as_many : length (marks mark rows) ≡ length rows = length-map rows (map mark) in
    let same : length made ≡ length (marks mark rows) = ap (λ (r : Square). length r) of_rows in
    omega arith
