-- The pairs that are listed are those of which that becomes.
use Rattle.std.proofs.Common.{◌≡◌, ◌≢◌, ℕ, ◌<◌, Bool, true, false, ◌&&◌, List, [], ◌∷◌, length, get_or, refl, sym, ap, subst, ◌∙◌, arith}
use Rattle.std.specs.Prelude.{◌==◌, Contains, if◌then◌else◌}
use Rattle.std.proofs.lemmas.Bool.{eqb-true}
use Rattle.std.proofs.lemmas.List.FromFn.{length-map-range_with_len, get_or-map-range_with_len}
use Rattle.ror_proof.specs.declared.answer.Answer.{Answer}
use Rattle.ror_show_ground.proofs.Tests.{both-true, nothing-in, only-in, one-in, in-pieces, InPiece, of-pieces}
use Rattle.ror_show_find_relation.specs.declared.cell.Cell.{Cell}
use Rattle.ror_show_find_relation.specs.declared.cell.Cell.TheVariants as cells
use Rattle.ror_show_find_relation.specs.Cells.{cell_at, cells_from, cell_rows}
use Rattle.ror_show_find_relation.specs.Rows.{cell_in}
use Rattle.ror_show_find_relation.proofs.CellLemmas.{cells-true}
use Rattle.ror_show_find_whatif.specs.declared.shift.Shift.{Shift}
use Rattle.ror_show_find_whatif.specs.declared.shift.Shift.TheVariants as shifts
use Rattle.ror_show_find_whatif.specs.Laws.{ListedAreSo, NothingElseIsSo}
use Rattle.ror_show_find_whatif.specs.Shifts.{held_by, shift_of, is_listed, has_shift, pair_of, pairs_from, shifted_pairs}
use Rattle.ror_show_find_whatif.proofs.Shifting.{held_says, held_settled, shift_says, shift_is, of_found, to_found}

-- ---- which pairs

-- a pair stands in the list exactly where it passes the test
pub record IsPairListed (before after : List (List Cell)) (shift : Shift) (a b : ℕ) : Type 0 where
  pub first : a < length before
  pub second : b < length before
  pub passes : has_shift before after shift a b ≡ true

of_piece : (before after : List (List Cell)) (shift : Shift) (i j a b : ℕ) (t : Bool) → has_shift before after shift i j ≡ t → Contains {X = ℕ × ℕ} (if t then (i, j) ∷ [] else []) (a, b) → (◌≡◌ {A = ℕ × ℕ} (i, j) (a, b)) × (has_shift before after shift i j ≡ true)
of_piece before after shift i j a b false is there = absurd (nothing-in (a, b) there)
of_piece before after shift i j a b true is there = (only-in (a, b) (i, j) there, is)

pub pair_listed : (before after : List (List Cell)) (shift : Shift) (a b : ℕ) → Contains {X = ℕ × ℕ} (shifted_pairs before after shift) (a, b) → IsPairListed before after shift a b
pair_listed before after shift a b there =
    let from : InPiece (pairs_from before after shift) 0 (length before) (a, b) = of-pieces (pairs_from before after shift) 0 (length before) (a, b) there in
    let to : InPiece (pair_of before after shift from.at) 0 (length before) (a, b) = of-pieces (pair_of before after shift from.at) 0 (length before) (a, b) from.there in
    let is = of_piece before after shift from.at to.at a b (has_shift before after shift from.at to.at) refl to.there in
    let first : from.at ≡ a = ap (λ (p : ℕ × ℕ). p.0) is.0 in
    let second : to.at ≡ b = ap (λ (p : ℕ × ℕ). p.1) is.0 in
    record {
      first = omega (arith, from.most, first);
      second = omega (arith, to.most, second);
      passes = subst (λ (x : ℕ). has_shift before after shift x b ≡ true) first (subst (λ (y : ℕ). has_shift before after shift from.at y ≡ true) second is.1);
    }

pub pair_there : (before after : List (List Cell)) (shift : Shift) (a b : ℕ) → a < length before → b < length before → has_shift before after shift a b ≡ true → Contains {X = ℕ × ℕ} (shifted_pairs before after shift) (a, b)
pair_there before after shift a b first second passes =
    let here : Contains {X = ℕ × ℕ} (pair_of before after shift a b) (a, b) = rw passes (one-in (a, b)) in
    in-pieces (pairs_from before after shift) 0 (length before) a (a, b) (omega arith) (omega (arith, first)) (in-pieces (pair_of before after shift a) 0 (length before) b (a, b) (omega arith) (omega (arith, second)) here)

-- ---- their cells

cell_there : (n : ℕ) (xs : List Answer) (a b : ℕ) → a < n → b < n → cell_in (cell_rows n xs) a b ≡ cell_at n xs a b
cell_there n xs a b first second =
    ap (λ (r : List Cell). get_or r b cells.Unknown) (get_or-map-range_with_len (cells_from n xs) 0 n a a [] first (omega arith))
    ∙ get_or-map-range_with_len (cell_at n xs a) 0 n b b cells.Unknown second (omega arith)

as_large : (n : ℕ) (xs : List Answer) → length (cell_rows n xs) ≡ n
as_large n xs = length-map-range_with_len (cells_from n xs) 0 n

cells_shift : (n : ℕ) (xs ys : List Answer) (a b : ℕ) → a < n → b < n → shift_of (cell_in (cell_rows n xs) a b) (cell_in (cell_rows n ys) a b) ≡ shift_of (cell_at n xs a b) (cell_at n ys a b)
cells_shift n xs ys a b first second =
    ap (λ (c : Cell). shift_of c (cell_in (cell_rows n ys) a b)) (cell_there n xs a b first second) ∙ ap (shift_of (cell_at n xs a b)) (cell_there n ys a b first second)

pub listed_are_so : ListedAreSo
listed_are_so shift t before after n xs ys a b all others there =
    let is = pair_listed (cell_rows n xs) (cell_rows n ys) shift a b there in
    let first : a < n = omega (arith, is.first, as_large n xs) in
    let second : b < n = omega (arith, is.second, as_large n xs) in
    let found = of_found shift (shift_of (cell_in (cell_rows n xs) a b) (cell_in (cell_rows n ys) a b)) (both-true _ _ is.passes).1 in
    let said = sym (cells_shift n xs ys a b first second) ∙ found in
    shift_says t before after a b shift (held_by (cell_at n xs a b)) (held_by (cell_at n ys a b)) said
    (held_says t before (cell_at n xs a b) a b (cells-true t before xs n a b all)) (held_says t after (cell_at n ys a b) a b (cells-true t after ys n a b others))

-- two different alternatives may be listed, wherever it is concluded how they stand
may_be_listed : (shift : Shift) (a b : ℕ) → shift ≢ shifts.Unknown → a ≢ b → is_listed shift a b ≡ true
may_be_listed shift a b known differ = by (a == b) refl
  where
    by : (same : Bool) → (a == b) ≡ same → is_listed shift a b ≡ true
    by true same = absurd (differ (eqb-true a b same))
    by false other = of_kind shift known
      where
        of_kind : (s : Shift) → s ≢ shifts.Unknown → is_listed s a b ≡ true
        of_kind shifts.Lost some = rw other refl
        of_kind shifts.Weaker some = rw other refl
        of_kind shifts.Won some = rw other refl
        of_kind shifts.Stronger some = rw other refl
        of_kind shifts.Unknown some = absurd (some refl)

both_are : (p q : Bool) → p ≡ true → q ≡ true → (p && q) ≡ true
both_are true true first second = refl
both_are true false first second = absurd cc
both_are false q first second = absurd cc

pub nothing_else_is_so : NothingElseIsSo
nothing_else_is_so shift t before after n xs ys a b all others whole whole_after known row column differ says =
    let now = cells-true t before xs n a b all in
    let then_ = cells-true t after ys n a b others in
    let settled = held_settled t before (cell_at n xs a b) a b whole.consistent differ (whole.known a b row column) now in
    let settled_then = held_settled t after (cell_at n ys a b) a b whole_after.consistent differ (whole_after.known a b row column) then_ in
    let is = shift_is t before after a b shift (held_by (cell_at n xs a b)) (held_by (cell_at n ys a b)) known settled settled_then
    (held_says t before (cell_at n xs a b) a b now) (held_says t after (cell_at n ys a b) a b then_) says in
    let found = to_found shift (shift_of (cell_in (cell_rows n xs) a b) (cell_in (cell_rows n ys) a b)) (cells_shift n xs ys a b row column ∙ is) in
    let large = as_large n xs in
    pair_there (cell_rows n xs) (cell_rows n ys) shift a b (omega (arith, row, large)) (omega (arith, column, large))
    (both_are _ _ (may_be_listed shift a b known differ) found)
