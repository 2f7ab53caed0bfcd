-- Each pair of different alternatives is counted once.
use Rattle.std.proofs.Common.{◌≡◌, ◌≢◌, ℕ, zero, suc, ◌+◌, ◌-◌, ◌*◌, ◌/◌, ◌<◌, ◌≤◌, Bool, true, false, ◌||◌, List, [], length, get_or, refl, sym, ap, subst, ◌∙◌, arith}
use Rattle.std.specs.Prelude.{◌==◌, if◌then◌else◌}
use Rattle.std.proofs.lemmas.Bool.{ne_eqb}
use Rattle.std.proofs.lemmas.List.FromFn.{get_or-map-range_with_len}
use Rattle.ror_proof.specs.declared.answer.Answer.{Answer}
use Rattle.ror_show_find_relation.specs.Relations.{holds, is_decided, count_below, decided_among, decided_pairs}
use Rattle.ror_show_ground.specs.declared.said.Said.{Said}
use Rattle.ror_show_ground.specs.declared.said.Said.TheVariants.{Yes, No, Contradiction, Nothing}
use Rattle.ror_show_find_relation.specs.declared.pair.PairSaid.{PairSaid}
use Rattle.ror_show_find_relation.specs.declared.cell.Cell.{Cell}
use Rattle.ror_show_find_relation.specs.declared.cell.Cell.TheVariants as cells
use Rattle.ror_show_find_relation.specs.Said.{said_of_pair}
use Rattle.ror_show_find_relation.specs.Cells.{sign, has_contradiction, better_by, cell_of_necessary, cell_of, cell_at, cells_from, cell_rows, is_over, is_open, mirror}
use Rattle.ror_show_find_relation.specs.Pages.{known, marks}
use Rattle.ror_show_find_relation.specs.Rows.{cell_in, is_like, pairs_like, unknown_pairs, contradictory_pairs, pairs_among}
use Rattle.ror_show_find_relation.specs.CellLaws.{EachPairIsCounted}
use Rattle.ror_show_find_relation.proofs.Known.{marks-size, marks-at}
use Rattle.ror_show_find_relation.proofs.Mirror.{mirrored}

-- ---- of one pair

abbrev pub once : Bool → ℕ
once b = if b then 1 else 0

-- the cell is counted in one of the four ways
abbrev IsCounted : Cell → Type 0
IsCounted c = once (is_over c || is_over (mirror c)) + once (is_open c || is_open (mirror c)) + once (sign c == 33) + once (sign c == 63) ≡ 1

better-counted : (strict weak : Cell) → IsCounted strict → IsCounted weak → (n p : Said) → IsCounted (better_by strict weak (record { necessary = n; possible = p }))
better-counted strict weak s w Yes p = refl
better-counted strict weak s w No Yes = w
better-counted strict weak s w No No = s
better-counted strict weak s w No Contradiction = refl
better-counted strict weak s w No Nothing = refl
better-counted strict weak s w Contradiction Yes = refl
better-counted strict weak s w Contradiction No = s
better-counted strict weak s w Contradiction Contradiction = refl
better-counted strict weak s w Contradiction Nothing = refl
better-counted strict weak s w Nothing Yes = refl
better-counted strict weak s w Nothing No = s
better-counted strict weak s w Nothing Contradiction = refl
better-counted strict weak s w Nothing Nothing = refl

row-counted : (back : PairSaid) → IsCounted (better_by cells.AlwaysBetter cells.AtLeastAsGood back)
row-counted back = better-counted cells.AlwaysBetter cells.AtLeastAsGood refl refl back.necessary back.possible

column-counted : (there : PairSaid) → IsCounted (better_by cells.NeverAsGood cells.AtMostAsGood there)
column-counted there = better-counted cells.NeverAsGood cells.AtMostAsGood refl refl there.necessary there.possible

necessary-counted : (there back : PairSaid) (n m : Said) → IsCounted (cell_of_necessary there back n m)
necessary-counted there back Yes Yes = refl
necessary-counted there back No No = refl
necessary-counted there back Yes No = row-counted back
necessary-counted there back Yes Contradiction = row-counted back
necessary-counted there back Yes Nothing = row-counted back
necessary-counted there back No Yes = column-counted there
necessary-counted there back Contradiction Yes = column-counted there
necessary-counted there back Nothing Yes = column-counted there
necessary-counted there back No Contradiction = refl
necessary-counted there back No Nothing = refl
necessary-counted there back Contradiction No = refl
necessary-counted there back Contradiction Contradiction = refl
necessary-counted there back Contradiction Nothing = refl
necessary-counted there back Nothing No = refl
necessary-counted there back Nothing Contradiction = refl
necessary-counted there back Nothing Nothing = refl

cell-counted : (there back : PairSaid) → IsCounted (cell_of there back)
cell-counted there back = by (has_contradiction there || has_contradiction back) (cell_of_necessary there back there.necessary back.necessary) (necessary-counted there back there.necessary back.necessary)
  where
    by : (b : Bool) (c : Cell) → IsCounted c → IsCounted (if b then cells.Contradiction else c)
    by true c is = refl
    by false c is = is

at-counted : (n : ℕ) (xs : List Answer) (a b : ℕ) → a ≢ b → IsCounted (cell_at n xs a b)
at-counted n xs a b other =
    let cell : cell_at n xs a b ≡ cell_of (said_of_pair n xs a b) (said_of_pair n xs b a) = ap (λ (s : Bool). if s then cells.Itself else cell_of (said_of_pair n xs a b) (said_of_pair n xs b a)) (ne_eqb a b other) in
    subst IsCounted (sym cell) (cell-counted (said_of_pair n xs a b) (said_of_pair n xs b a))

-- ---- of all

four-counts : (p q r s : ℕ → Bool) (n : ℕ) → ((k : ℕ) → k < n → once (p k) + once (q k) + once (r k) + once (s k) ≡ 1) → count_below p n + count_below q n + count_below r n + count_below s n ≡ n
four-counts p q r s zero each = refl
four-counts p q r s (suc n) each =
    let before = four-counts p q r s n (λ k less. each k (omega (arith, less))) in
    let here = each n (omega arith) in
    omega (arith, before, here)

abbrev pub triangle : ℕ → ℕ
triangle zero = 0
triangle (suc n) = n + triangle n

pub doubled : (n : ℕ) → triangle n * 2 ≡ n * (n - 1)
doubled zero = omega arith
doubled (suc zero) = omega arith
doubled (suc (suc k)) =
    let one : suc (suc k) - 1 ≡ suc k = omega arith in
    let less : suc k - 1 ≡ k = omega arith in
    let before : triangle (suc k) * 2 ≡ suc k * k = doubled (suc k) ∙ ap (λ (j : ℕ). suc k * j) less in
    let here : (suc k + triangle (suc k)) * 2 ≡ suc (suc k) * suc k = omega (arith, before) in
    here ∙ ap (λ (j : ℕ). suc (suc k) * j) (sym one)

pub half : (x y : ℕ) → y * 2 ≡ x → x / 2 ≡ y
half x y is = omega (arith, is)

module _ (n : ℕ) (xs : List Answer) where
  abbrev rows : List (List Cell)
  rows = cell_rows n xs

  in-at : (a b : ℕ) → a < n → b < n → cell_in rows a b ≡ cell_at n xs a b
  in-at a b row column =
      ap (λ (r : List Cell). get_or r b cells.Unknown) (get_or-map-range_with_len (cells_from n xs) 0 n a a [] row (omega arith))
      ∙ get_or-map-range_with_len (cell_at n xs a) 0 n b b cells.Unknown column (omega arith)

  decided-at : (mark : Cell → Bool) (a b : ℕ) → a < n → b < n → is_decided (marks mark rows) a b ≡ (mark (cell_at n xs a b) || mark (mirror (cell_at n xs a b)))
  decided-at mark a b row column =
      ap (λ (s : Bool). s || holds (marks mark rows) b a) (marks-at mark n xs a b row column)
      ∙ ap (λ (s : Bool). mark (cell_at n xs a b) || s) (marks-at mark n xs b a column row ∙ ap mark (mirrored n xs a b))

  like-at : (c : Cell) (a b : ℕ) → a < n → b < n → is_like c rows a b ≡ (sign (cell_at n xs a b) == sign c)
  like-at c a b row column = ap (λ (d : Cell). sign d == sign c) (in-at a b row column)

  pair-counted : (a b : ℕ) → a < n → b < n → a ≢ b → once (is_decided (marks is_over rows) a b) + once (is_decided (marks is_open rows) a b) + once (is_like cells.Contradiction rows a b) + once (is_like cells.Unknown rows a b) ≡ 1
  pair-counted a b row column other =
      let over = ap once (decided-at is_over a b row column) in
      let open_pair = ap once (decided-at is_open a b row column) in
      let contradictory = ap once (like-at cells.Contradiction a b row column) in
      let unknown = ap once (like-at cells.Unknown a b row column) in
      let counted = at-counted n xs a b other in
      omega (arith, over, open_pair, contradictory, unknown, counted)

  all-counted : (m : ℕ) → m ≤ n → decided_among (marks is_over rows) m + decided_among (marks is_open rows) m + pairs_like cells.Contradiction rows m + pairs_like cells.Unknown rows m ≡ triangle m
  all-counted zero within = refl
  all-counted (suc m) within =
      let before = all-counted m (omega (arith, within)) in
      let row = four-counts (is_decided (marks is_over rows) m) (is_decided (marks is_open rows) m) (is_like cells.Contradiction rows m) (is_like cells.Unknown rows m) m
      (λ k less. pair-counted m k (omega (arith, within)) (omega (arith, within, less)) (λ same. omega (arith, same, less))) in
      omega (arith, before, row)

pub each-counted : EachPairIsCounted
each-counted t xs page is =
    let n = length t.alternatives in
    let all = all-counted n xs n (omega arith) in
    let decided : page.counts.decided ≡ decided_among (marks is_over (cell_rows n xs)) n =
    is.decided ∙ ap (λ (r : List (List Cell)). decided_pairs (known r)) is.rows ∙ ap (decided_among (known (cell_rows n xs))) (marks-size is_over n xs) in
    let open_pairs : page.counts.open ≡ decided_among (marks is_open (cell_rows n xs)) n =
    is.open_pairs ∙ ap (λ (r : List (List Cell)). decided_pairs (marks is_open r)) is.rows ∙ ap (decided_among (marks is_open (cell_rows n xs))) (marks-size is_open n xs) in
    let contradictory : contradictory_pairs page.rows n ≡ pairs_like cells.Contradiction (cell_rows n xs) n = ap (λ (r : List (List Cell)). contradictory_pairs r n) is.rows in
    let unknown : unknown_pairs page.rows n ≡ pairs_like cells.Unknown (cell_rows n xs) n = ap (λ (r : List (List Cell)). unknown_pairs r n) is.rows in
    let pairs : pairs_among n ≡ triangle n = half (n * (n - 1)) (triangle n) (doubled n) in
    omega (arith, all, decided, open_pairs, contradictory, unknown, pairs)
