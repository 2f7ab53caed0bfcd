use Rattle.std.proofs.Common.{rules, ◌≡◌, map, replicate, []}
use Rattle.ror_bench.proofs.DeskLemmas.{all_begin}
use Rattle.ror_bench.proofs.bench.Bench.new.Goals as goal

pub invariant_of-result : goal.invariant_of-result
invariant_of-result c =
    let begun : map (λ h. h.state) c.in_ok-desks.desks.items ≡ replicate c.args.desks (record { opening = c.args.input.opening; surviving = [] }) = search rules in
    record {
      lawful = all_begin c.args.input.table c.args.input.opening c.in_ok-desks.desks.items c.args.desks begun c.requires.lawful;
      checker = c.new-checker.ensures c.args.input.table;
    }
