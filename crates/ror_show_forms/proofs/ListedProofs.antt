-- What is listed of a relation is what is known of different alternatives.
use Rattle.std.proofs.Common.{◌≡◌, ◌≢◌, ℕ, ◌<◌, Bool, true, false, ◌||◌, List, [], get_or, refl, sym, ap, ◌∙◌, arith}
use Rattle.std.specs.Prelude.{◌↔◌, ◌==◌, if◌then◌else◌}
use Rattle.std.proofs.lemmas.Bool.{eqb-true, eqb-false}
use Rattle.std.proofs.lemmas.List.FromFn.{get_or-map-range_with_len}
use Rattle.ror_proof.specs.declared.answer.Answer.{Answer}
use Rattle.ror_show_find_relation.specs.Relations.{holds}
use Rattle.ror_show_ground.specs.declared.said.Said.{Said}
use Rattle.ror_show_ground.specs.declared.said.Said.TheVariants.{Yes, No, Contradiction, Nothing}
use Rattle.ror_show_find_relation.specs.declared.pair.PairSaid.{PairSaid}
use Rattle.ror_show_find_relation.specs.declared.cell.Cell.{Cell}
use Rattle.ror_show_find_relation.specs.declared.cell.Cell.TheVariants as cells
use Rattle.ror_show_find_relation.specs.Said.{said_of_pair}
use Rattle.ror_show_find_relation.specs.Cells.{has_contradiction, better_by, cell_of_necessary, cell_of, cell_at, cells_from, cell_rows, is_over, is_over_another}
use Rattle.ror_show_find_relation.specs.Pages.{known}
use Rattle.ror_show_find_relation.specs.Rows.{cell_in, is_over_at}
use Rattle.ror_show_find_relation.proofs.Known.{known-at}

-- ---- of two different alternatives

better-other : (strict weak : Cell) (n p : Said) → is_over_another strict ≡ is_over strict → is_over_another weak ≡ is_over weak → is_over_another (better_by strict weak (record { necessary = n; possible = p })) ≡ is_over (better_by strict weak (record { necessary = n; possible = p }))
better-other strict weak Yes p s w = refl
better-other strict weak No Yes s w = w
better-other strict weak No No s w = s
better-other strict weak No Contradiction s w = refl
better-other strict weak No Nothing s w = refl
better-other strict weak Contradiction Yes s w = refl
better-other strict weak Contradiction No s w = s
better-other strict weak Contradiction Contradiction s w = refl
better-other strict weak Contradiction Nothing s w = refl
better-other strict weak Nothing Yes s w = refl
better-other strict weak Nothing No s w = s
better-other strict weak Nothing Contradiction s w = refl
better-other strict weak Nothing Nothing s w = refl

row-other : (back : PairSaid) → is_over_another (better_by cells.AlwaysBetter cells.AtLeastAsGood back) ≡ is_over (better_by cells.AlwaysBetter cells.AtLeastAsGood back)
row-other back = better-other cells.AlwaysBetter cells.AtLeastAsGood back.necessary back.possible refl refl

column-other : (there : PairSaid) → is_over_another (better_by cells.NeverAsGood cells.AtMostAsGood there) ≡ is_over (better_by cells.NeverAsGood cells.AtMostAsGood there)
column-other there = better-other cells.NeverAsGood cells.AtMostAsGood there.necessary there.possible refl refl

necessary-other : (there back : PairSaid) (n m : Said) → is_over_another (cell_of_necessary there back n m) ≡ is_over (cell_of_necessary there back n m)
necessary-other there back Yes Yes = refl
necessary-other there back No No = refl
necessary-other there back Yes No = row-other back
necessary-other there back Yes Contradiction = row-other back
necessary-other there back Yes Nothing = row-other back
necessary-other there back No Yes = column-other there
necessary-other there back Contradiction Yes = column-other there
necessary-other there back Nothing Yes = column-other there
necessary-other there back No Contradiction = refl
necessary-other there back No Nothing = refl
necessary-other there back Contradiction No = refl
necessary-other there back Contradiction Contradiction = refl
necessary-other there back Contradiction Nothing = refl
necessary-other there back Nothing No = refl
necessary-other there back Nothing Contradiction = refl
necessary-other there back Nothing Nothing = refl

choice-other : (p : Bool) (x : Cell) → is_over_another x ≡ is_over x → is_over_another (if p then cells.Contradiction else x) ≡ is_over (if p then cells.Contradiction else x)
choice-other true x is = refl
choice-other false x is = is

cell-other : (there back : PairSaid) → is_over_another (cell_of there back) ≡ is_over (cell_of there back)
cell-other there back =
    choice-other (has_contradiction there || has_contradiction back) (cell_of_necessary there back there.necessary back.necessary)
    (necessary-other there back there.necessary back.necessary)

cell-found : (n : ℕ) (xs : List Answer) (a b : ℕ) → a < n → b < n → cell_in (cell_rows n xs) a b ≡ cell_at n xs a b
cell-found n xs a b row column =
    let the_row : get_or (cell_rows n xs) a [] ≡ cells_from n xs a = get_or-map-range_with_len (cells_from n xs) 0 n a a [] row (omega arith) in
    let the_cell : get_or (cells_from n xs a) b cells.Unknown ≡ cell_at n xs a b = get_or-map-range_with_len (cell_at n xs a) 0 n b b cells.Unknown column (omega arith) in
    ap (λ (r : List Cell). get_or r b cells.Unknown) the_row ∙ the_cell

at-other : (n : ℕ) (xs : List Answer) (a b : ℕ) → (is_over_another (cell_at n xs a b) ≡ true) ↔ ((is_over (cell_at n xs a b) ≡ true) × (a ≢ b))
at-other n xs a b = by (a == b) refl
  where
    by : (s : Bool) → (a == b) ≡ s → (is_over_another (if s then cells.Itself else cell_of (said_of_pair n xs a b) (said_of_pair n xs b a)) ≡ true) ↔ ((is_over (if s then cells.Itself else cell_of (said_of_pair n xs a b) (said_of_pair n xs b a)) ≡ true) × (a ≢ b))
    by true same = (λ listed. absurd cc, λ p. absurd (p.1 (eqb-true a b same)))
    by false apart =
        let other = cell-other (said_of_pair n xs a b) (said_of_pair n xs b a) in
        (λ listed. (sym other ∙ listed, eqb-false a b apart), λ p. other ∙ p.0)

pub listed-known : (n : ℕ) (xs : List Answer) (a b : ℕ) → a < n → b < n → (is_over_at (cell_rows n xs) a b ≡ true) ↔ ((holds (known (cell_rows n xs)) a b ≡ true) × (a ≢ b))
listed-known n xs a b row column =
    let cell = cell-found n xs a b row column in
    let mark = known-at n xs a b row column in
    let other = at-other n xs a b in
    (λ listed. (let p = other.0 (sym (ap is_over_another cell) ∙ listed) in (mark ∙ p.0, p.1)), λ p. ap is_over_another cell ∙ other.1 (sym mark ∙ p.0, p.1))
