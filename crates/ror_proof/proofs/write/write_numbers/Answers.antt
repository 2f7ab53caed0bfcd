use Rattle.std.proofs.Common.{◌≡◌, ◌<◌, ◌∙◌, List, ℤ, pos, length, ◌∷◌, ◌++◌, map, refl, arith, rules, FitsSigned}
use Rattle.std.specs.Int.{w128}
use Rattle.std.specs.Fmt.{signed_decimal}
use Rattle.std.proofs.lemmas.Int.{to_z-of_z}
use Rattle.std.proofs.lemmas.List.{get_or_default}
use Rattle.ror_proof.specs.Printing.{spaced}
use Rattle.ror_proof.proofs.PrintLemmas.{one_more, all_printed, front_then}
use Rattle.ror_proof.proofs.write.write_numbers.Goals as goal

pub loop-k-preserved : goal.loop-k-preserved
loop-k-preserved c =
    let numbers = c.args.numbers.now in
    let k = c.loop-k.k in
    let x = c.entry.result in
    let inside : k < length numbers = omega arith in
    let fits : FitsSigned w128 x = search rules in
    let one : c.write_often_zero.new.text.items ≡ c.loop-k.text.items ++ 32 ∷ signed_decimal x = rw (to_z-of_z w128 x fits) at c.in_ok-write_often_zero.ensures.ok in
    record {
      printed = one_more (λ (xs : List ℤ). spaced (map signed_decimal xs)) (λ (y : ℤ). 32 ∷ signed_decimal y) (λ y ys. refl) numbers k x c.loop-k.text.items c.write_often_zero.new.text.items (c.args.text.now.items ++ spaced (map signed_decimal numbers)) inside (c.entry.ensures ∙ get_or_default numbers k (pos 0) x inside) one c.loop-k.invariant.printed;
      front = front_then c.args.text.now.items c.loop-k.text.items c.write_often_zero.new.text.items c.loop-k.invariant.front c.in_ok-write_often_zero.ensures.front;
    }

pub returns-clause-ok : goal.returns-clause-ok
returns-clause-ok c = all_printed (λ (xs : List ℤ). spaced (map signed_decimal xs)) refl c.args.numbers.now c.loop-k.k c.loop-k.text.items (c.args.text.now.items ++ spaced (map signed_decimal c.args.numbers.now)) (omega arith) c.loop-k.invariant.printed
