use Rattle.std.proofs.Common.{rules, ◌∙◌, ◌≡◌, ◌<◌, length, Some, true, arith, sym, ap}
use Rattle.std.specs.Prelude.{nat_eq}
use Rattle.std.specs.Set.{is_member}
use Rattle.ror_reason.specs.SearchSteps.{HasAnswer}
use Rattle.ror_reason.proofs.Parts.{get_or-there, member_there}
use Rattle.ror_reason.proofs.SearchLemmas.{smaller_part, smaller_length}
use Rattle.ror_reason.proofs.search.without_idle.Goals as goal

pub places-preserved-then-has_answer : goal.places-preserved-then-has_answer
places-preserved-then-has_answer c =
    let s = c.args.sought.now in
    let part = c.places.part in
    let smaller = c.in_ok-smaller.smaller in
    let n = c.index-number.result.now in
    let has : HasAnswer s.conclusion smaller.answers.items = search rules in
    let before = c.places.invariant.1 in
    let step = c.part_without.ensures.counted in (
      smaller_part s c.requires.sought part smaller n c.in_ok-smaller.ensures.ok c.places.invariant.0 has,
      omega (arith, before, step),
    )

pub places-smaller-then-has_answer : goal.places-smaller-then-has_answer
places-smaller-then-has_answer c =
    let s = c.args.sought.now in
    let part = c.places.part in
    let ns = part.numbers.items in
    let n = c.index-number.result.now in
    let within : c.places.place < length ns = search rules in
    let there : is_member nat_eq ns n ≡ true = member_there ns c.places.place n (get_or-there ns c.places.place n within ∙ ap Some (sym c.index-number.ensures)) in
    let shorter = smaller_length s c.requires.sought part c.in_ok-smaller.smaller n c.in_ok-smaller.ensures.ok there in
    omega (arith, within, shorter)
