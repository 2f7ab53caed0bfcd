use Rattle.std.proofs.Common.{◌≡◌, Some, Ok, w64, sym, ap, ap₂, ◌∙◌, rules}
use denote.Ref.{Bor}
use Rattle.std.specs.Prelude.{codes, option_map}
use Rattle.ror_elements.specs.declared.element.Element.{Element}
use Rattle.std.proofs.lemmas.Int.{to_z-of_z}
use Rattle.ror_table.specs.Amounts.{lowest}
use Rattle.ror_elements.specs.Tree.{tree_of}
use Rattle.ror_xmcda.specs.Nodes.{first_named}
use Rattle.ror_xmcda.proofs.NumberLemmas.{rational_given}
use Rattle.ror_xmcda.proofs.numbers.rational.Goals as goal

pub returns-clause-exact : goal.returns-clause-exact
returns-clause-exact c =
    let t = tree_of c.args.element.now in
    let above : first_named (codes "numerator") t ≡ Some (tree_of c.in_ok-above.above.now) = sym c.first_named.ensures ∙ ap (option_map (λ (e : Bor Element). tree_of e.now)) c.in_ok-above.ensures in
    let below : first_named (codes "denominator") t ≡ Some (tree_of c.in_ok-below.below.now) = sym c.first_named-2.ensures ∙ ap (option_map (λ (e : Bor Element). tree_of e.now)) c.in_ok-below.ensures in
    rational_given t _ _ _ _ above c.in_ok-numerator.ensures.exact below c.in_ok-denominator.ensures.exact (search rules) ∙ ap Ok (sym (c.fraction.ensures.value ∙ ap₂ lowest (to_z-of_z w64 c.in_ok-numerator.numerator (search rules)) (to_z-of_z w64 c.in_ok-denominator.denominator (search rules))))
