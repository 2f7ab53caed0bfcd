use Rattle.std.proofs.Common.{◌≡◌, List, ◌∷◌, ◌++◌, map, get_or, refl, sym}
use Rattle.std.proofs.lemmas.List.{get_or_default}
use Rattle.ror_proof.specs.declared.answer.Pivot.{Pivot}
use Rattle.ror_proof.specs.Printing.{spaced}
use Rattle.ror_proof.specs.Text.{pivot_word}
use Rattle.ror_proof.proofs.PrintLemmas.{one_more, all_printed, front_then}
use Rattle.ror_proof.proofs.print.write_pivots.Goals as goal

pub pivots-preserved : goal.pivots-preserved
pivots-preserved c =
    let none : Pivot = record { column = 0; row = 0 } in
    let pivots = c.args.pivots.now in
    let next = get_or pivots c.pivots.pivot-index none in
    let is : next ≡ get_or pivots c.pivots.pivot-index next = sym (get_or_default pivots c.pivots.pivot-index next none c.pivots-test.true) in
    record {
      printed = one_more (λ (xs : List Pivot). spaced (map pivot_word xs)) (λ (x : Pivot). 32 ∷ pivot_word x) (λ x xs. refl) pivots c.pivots.pivot-index next c.pivots.text.items c.write_pivot.new.text.items (c.args.text.now.items ++ spaced (map pivot_word pivots)) c.pivots-test.true is c.in_ok-write_pivot.ensures.ok c.pivots.invariant.printed;
      front = front_then c.args.text.now.items c.pivots.text.items c.write_pivot.new.text.items c.pivots.invariant.front c.in_ok-write_pivot.ensures.front;
    }

pub returns-clause-ok : goal.returns-clause-ok
returns-clause-ok c = all_printed (λ (xs : List Pivot). spaced (map pivot_word xs)) refl c.args.pivots.now c.pivots.pivot-index c.pivots.text.items (c.args.text.now.items ++ spaced (map pivot_word c.args.pivots.now)) c.pivots-test.false c.pivots.invariant.printed
