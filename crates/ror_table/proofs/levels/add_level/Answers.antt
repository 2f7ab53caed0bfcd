use Rattle.std.proofs.Common.{◌≡◌, ◌<◌, ℕ, List, length, false, get_or, filter, arith, sym, subst, All}
use Rattle.ror_table.specs.declared.amount.Amount.{Amount}
use Rattle.ror_table.specs.Amounts.{IsAmount, is_same, is_worse}
use Rattle.ror_table.specs.Levels.{Rises}
use Rattle.ror_table.proofs.LevelLemmas.{member_more, member_read, other_read, split_worse, Rises-insert, All-insert, is_member-insert}
use Rattle.ror_table.proofs.levels.add_level.Goals as goal
use Rattle.ror_table.proofs.levels.add_level.Goals.{else-place-len-via-then-place-len+else-is_same, else-place-len-via-else-place-len}

pub returns-then-is_same-clause-members : goal.returns-then-is_same-clause-members
returns-then-is_same-clause-members c = λ q.
    let levels : List Amount = c.args.levels.now.items in
    let n : ℕ = c.worse_count-place.result in
    member_more c.args.performance levels q (member_read levels n c.index.result.now c.args.performance c.is_same.result (omega (arith, c.if-place-len.true, c.len.ensures, c.args.levels.now.ok.0)) c.index.ensures c.is_same.ensures c.if-is_same.true)

pub insert-requires : goal.insert-requires
insert-requires c =
    let levels : List Amount = c.args.levels.now.items in
    let p : Amount = c.args.performance in
    let counted : c.worse_count-place.result ≡ length (filter (λ level. is_worse c.args.direction level p) levels) = rw (c.deref.ensures.value) at c.worse_count-place.ensures in
    let split = split_worse c.args.direction levels p c.requires.rises c.requires.amounts c.requires.amount in
    omega (arith, counted, split.within, c.args.levels.now.ok.0)

pub returns-clause-rises : goal.returns-clause-rises
returns-clause-rises c =
    let levels : List Amount = c.args.levels.now.items in
    let n : ℕ = c.worse_count-place.result in
    let p : Amount = c.args.performance in
    let counted : n ≡ length (filter (λ level. is_worse c.args.direction level p) levels) = rw (c.deref.ensures.value) at c.worse_count-place.ensures in
    let other : (d : Amount) → n < length levels → is_same (get_or levels n d) p ≡ false = elim c.else-place-len.branch [
      | else-place-len-via-then-place-len+else-is_same w ↦ λ d within. other_read levels n w.index.result.now p w.is_same.result w.index.ensures w.is_same.ensures w.if-is_same.false d within
      | else-place-len-via-else-place-len w ↦ λ d within. absurd (omega (arith, w.if-place-len.false, c.len.ensures, c.args.levels.now.ok.0))
    ] in
    subst (Rises c.args.direction) (sym c.in_ok-insert.ensures.items) (Rises-insert c.args.direction levels p n c.requires.rises c.requires.amounts c.requires.amount counted other)

pub returns-clause-amounts : goal.returns-clause-amounts
returns-clause-amounts c =
    subst (All IsAmount) (sym c.in_ok-insert.ensures.items) (All-insert IsAmount c.args.levels.now.items c.worse_count-place.result c.args.performance c.requires.amounts c.requires.amount)

pub returns-clause-members : goal.returns-clause-members
returns-clause-members c = λ q. rw c.in_ok-insert.ensures.items (is_member-insert c.args.levels.now.items c.worse_count-place.result c.args.performance q)
