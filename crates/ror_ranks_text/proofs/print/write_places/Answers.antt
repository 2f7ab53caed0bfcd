use Rattle.std.proofs.Common.{◌≡◌, ℕ, List, ◌∷◌, ◌++◌, map, get_or, refl, sym}
use Rattle.std.specs.Prelude.{decimal}
use Rattle.std.proofs.lemmas.List.{get_or_default}
use Rattle.ror_proof.specs.Printing.{spaced}
use Rattle.ror_proof.proofs.PrintLemmas.{one_more, all_printed, front_then}
use Rattle.ror_ranks_text.proofs.print.write_places.Goals as goal

pub places-preserved : goal.places-preserved
places-preserved c =
    let xs = c.args.places.now in
    let i = c.places.place-index in
    let next = get_or xs i 0 in
    let is : next ≡ get_or xs i next = sym (get_or_default xs i next 0 c.places-test.true) in
    record {
      printed = one_more (λ (ys : List ℕ). spaced (map decimal ys)) (λ (y : ℕ). 32 ∷ decimal y) (λ y ys. refl) xs i next c.places.text.items c.write_number.new.text.items (c.args.text.now.items ++ spaced (map decimal xs)) c.places-test.true is c.in_ok-write_number.ensures.ok c.places.invariant.printed;
      front = front_then c.args.text.now.items c.places.text.items c.write_number.new.text.items c.places.invariant.front c.in_ok-write_number.ensures.front;
    }

pub returns-clause-ok : goal.returns-clause-ok
returns-clause-ok c = all_printed (λ (ys : List ℕ). spaced (map decimal ys)) refl c.args.places.now c.places.place-index c.places.text.items (c.args.text.now.items ++ spaced (map decimal c.args.places.now)) c.places-test.false c.places.invariant.printed
