-- One element more.
use Rattle.std.proofs.Common.{◌≡◌, ◌++◌, get_or, rules}
use Rattle.ror_statement.specs.declared.statement.Statement.TheVariants.{Prefer}
use Rattle.ror_show_find_proofs.specs.Weights.{pairs_of}
use Rattle.ror_show_kit.proofs.ElementLemmas.{one_more}
use Rattle.ror_show_find_proofs.proofs.owners.push_all_pairs.Goals as goal

pub part-preserved : goal.part-preserved
part-preserved c =
    let pushed : c.push_pairs.new.owners.items ≡ c.part.owners.items ++ pairs_of c.args.part.now (get_or c.args.part.now c.part.x-index (record { number = 0; statement = Prefer 0 0 })) = search rules in
    one_more (pairs_of c.args.part.now) c.args.part.now c.part.x-index (record { number = 0; statement = Prefer 0 0 }) c.args.owners.now.items c.part.owners.items c.push_pairs.new.owners.items c.part-test.true c.part.invariant pushed
