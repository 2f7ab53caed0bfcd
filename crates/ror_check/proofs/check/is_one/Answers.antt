use Rattle.std.proofs.Common.{rules, arith, ◌≡◌, length}
use Rattle.ror_check.proofs.Checking.{one_number}
use Rattle.ror_check.proofs.check.is_one.Goals as goal

pub returns-then-part-ge1 : goal.returns-then-part-ge1
returns-then-part-ge1 c =
    let from = c.if-part-ge1.true in
    let least = c.in-len1.len_at_least in
    let below = c.in-len1.len_below in
    let long : length c.args.parts.now ≡ 1 = omega arith in
    let is = one_number c.args.count c.args.parts.now c.part-item.result long c.part-item.is (omega arith) in
    (λ yes. is.0 (search rules), λ numbered. let le = is.1 numbered in search rules)
