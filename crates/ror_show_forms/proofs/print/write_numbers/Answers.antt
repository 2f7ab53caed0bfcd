use Rattle.std.proofs.Common.{◌≡◌, ℕ, List, ◌∷◌, ◌++◌, map, get_or, refl, sym}
use Rattle.std.specs.Fmt.{decimal}
use Rattle.std.proofs.lemmas.List.{get_or_default}
use Rattle.ror_proof.specs.Printing.{spaced}
use Rattle.ror_proof.proofs.PrintLemmas.{one_more, all_printed}
use Rattle.ror_show_forms.proofs.print.write_numbers.Goals as goal

pub numbers-preserved : goal.numbers-preserved
numbers-preserved c =
    let numbers = c.args.numbers.now in
    let next = get_or numbers c.numbers.number-index 0 in
    let is : next ≡ get_or numbers c.numbers.number-index next = sym (get_or_default numbers c.numbers.number-index next 0 c.numbers-test.true) in
    one_more (λ (ns : List ℕ). spaced (map decimal ns)) (λ (n : ℕ). 32 ∷ decimal n) (λ n ns. refl) numbers c.numbers.number-index next c.numbers.text.items c.write_number.new.text.items (c.args.text.now.items ++ spaced (map decimal numbers)) c.numbers-test.true is c.in_ok-write_number.ensures c.numbers.invariant

pub returns : goal.returns
returns c =
    let numbers = c.args.numbers.now in
    all_printed (λ (ns : List ℕ). spaced (map decimal ns)) refl numbers c.numbers.number-index c.numbers.text.items (c.args.text.now.items ++ spaced (map decimal numbers)) c.numbers-test.false c.numbers.invariant
