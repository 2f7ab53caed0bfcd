use Rattle.std.proofs.Common.{rules, ◌≡◌, ℕ, List, inl, inr, refl, ap, ◌∙◌, arith}
use Rattle.ror_ranks.specs.declared.extreme.Conflict.{Conflict}
use Rattle.ror_ranks.specs.Conflicts.{others_but, others_among}
use Rattle.ror_ranks.specs.Trees.{members_at, share}
use Rattle.ror_ranks.proofs.OthersLemmas.{others_but_are}
use Rattle.ror_ranks_find.proofs.FoundLemmas.{rest_is_apart, reached_rest, few_met, some_wide}
use Rattle.ror_ranks_find.proofs.packing.take_new.Goals as goal

pub try_without-requires-clause-others : goal.try_without-requires-clause-others
try_without-requires-clause-others c = rw c.in_ok-rest.ensures (others_but_are c.args.sought.now.asked.table.now c.args.sought.now.asked.alternative c.as_slice.result.now)

pub take_small-requires-clause-apart : goal.take_small-requires-clause-apart
take_small-requires-clause-apart c =
    let s = c.args.sought.now in
    let t = s.asked.table.now in
    let a = s.asked.alternative in
    let met = c.args.packing.now.met.items in
    let rest = c.in_ok-rest.rest.items in
    let ordered = c.in_ok-except.ensures ∙ ap (λ (ms : List ℕ). others_among t a ms) c.as_slice-met.ensures.value in
    let is : rest ≡ others_but t a (others_among t a met) = c.in_ok-rest.ensures ∙ ap (λ (ms : List ℕ). others_but t a ms) (c.as_slice.ensures.value ∙ ordered) in
    let members : c.in-Conflict.conflict.members ≡ rest = search rules in
    ap (λ (cs : List Conflict). share (members_at cs 0) met) c.in_ok-alone-in-Conflict.ensures ∙ rest_is_apart s met rest c.in-Conflict.conflict is members

pub reach-requires-clause-reached : goal.reach-requires-clause-reached
reach-requires-clause-reached c = search (rules, reached_rest)

pub returns-in-Function-clause-taken : goal.returns-in-Function-clause-taken
returns-in-Function-clause-taken c =
    let few = few_met c.args.sought.now c.args.packing.now.met.items c.in_ok-except.except.items (search rules) in
    let less = c.reach.ensures.few in
    (refl, inl (omega (arith, few, less)))

pub returns-in_ok-note-in-Wide-clause-taken : goal.returns-in_ok-note-in-Wide-clause-taken
returns-in_ok-note-in-Wide-clause-taken c =
    (refl, inr (some_wide c.args.sought.now c.args.found.now c.note.new.self c.in-Wide.wide c.in_ok-note-in-Wide.ensures.noted))
