-- Each pair of different alternatives is counted in one of five ways.
use Rattle.std.proofs.Common.{◌≡◌, ℕ, zero, suc, ◌+◌, ◌-◌, ◌*◌, Bool, List, length, refl, arith}
use Rattle.ror_show_find_relation.specs.Relations.{count_below}
use Rattle.ror_show_find_relation.specs.Rows.{pairs_among}
use Rattle.ror_show_find_relation.proofs.CountLemmas.{once, triangle, doubled, half}
use Rattle.ror_show_find_group.specs.declared.cell.GroupCell.{GroupCell}
use Rattle.ror_show_find_group.specs.declared.counts.Stand.{Stand}
use Rattle.ror_show_find_group.specs.declared.counts.Stand.TheVariants.{Decided, Open, Partly, Differ, Unknown}
use Rattle.ror_show_find_group.specs.Cells.{group_cell_in}
use Rattle.ror_show_find_group.specs.Counts.{stand_of, is_same, stands, pairs_standing}
use Rattle.ror_show_find_group.specs.Laws.{EachPairIsCounted}

one-stand : (s : Stand) → once (is_same Decided s) + once (is_same Open s) + once (is_same Partly s) + once (is_same Differ s) + once (is_same Unknown s) ≡ 1
one-stand Decided = refl
one-stand Open = refl
one-stand Partly = refl
one-stand Differ = refl
one-stand Unknown = refl

five-counts : (p q r s u : ℕ → Bool) (n : ℕ) → ((k : ℕ) → once (p k) + once (q k) + once (r k) + once (s k) + once (u k) ≡ 1) → count_below p n + count_below q n + count_below r n + count_below s n + count_below u n ≡ n
five-counts p q r s u zero each = refl
five-counts p q r s u (suc n) each =
    let before = five-counts p q r s u n each in
    let here = each n in
    omega (arith, before, here)

all-counted : (rows : List (List GroupCell)) (n : ℕ) → pairs_standing Decided rows n + pairs_standing Open rows n + pairs_standing Partly rows n + pairs_standing Differ rows n + pairs_standing Unknown rows n ≡ triangle n
all-counted rows zero = refl
all-counted rows (suc n) =
    let before = all-counted rows n in
    let row = five-counts (stands Decided rows n) (stands Open rows n) (stands Partly rows n) (stands Differ rows n) (stands Unknown rows n) n (λ k. one-stand (stand_of (group_cell_in rows n k))) in
    omega (arith, before, row)

pub each_counted : EachPairIsCounted
each_counted g found is =
    let n = length g.table.alternatives in
    let all = all-counted found.rows n in
    let pairs : pairs_among n ≡ triangle n = half (n * (n - 1)) (triangle n) (doubled n) in
    omega (arith, all, pairs)
