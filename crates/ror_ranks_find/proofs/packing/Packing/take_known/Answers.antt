use Rattle.std.proofs.Common.{rules, ℕ, List, sym, ap, ◌∙◌}
use Rattle.ror_ranks.specs.Trees.{is_apart}
use Rattle.ror_ranks_find.proofs.PackingLemmas.{packing_more}
use Rattle.ror_ranks_find.proofs.packing.Packing.take_known.Goals as goal

pub loop-taken-preserved : goal.loop-taken-preserved
loop-taken-preserved c =
    packing_more c.args.conflicts.now c.args.set.now c.args.goal c.in-Some.place c.loop-taken.self c.take.new.self c.loop-taken.invariant (search rules) (ap (λ (s : List ℕ). is_apart c.args.conflicts.now s c.in-Some.place) (sym c.as_slice.ensures.value) ∙ c.in-Some.ensures) c.in_ok-take.ensures.places c.in_ok-take.ensures.met c.in_ok-take.ensures.size
