-- The elements inside an element, in its tree.
use Rattle.std.proofs.Common.{◌≡◌, List, [], ◌∷◌, map, Some, refl, ap}
use Rattle.std.specs.Global.{Box, Vec}
use Rattle.ror_elements.specs.declared.element.Element.{Element, out-Element, fold_out-Element}
use Rattle.ror_elements.specs.declared.element.Said.{Said}
use Rattle.ror_elements.specs.Tree.{Tree, trees_of, tree_of, list_of, inside}

pub list_of-trees_of : (ts : List Tree) → list_of (trees_of ts) ≡ ts
list_of-trees_of [] = refl
list_of-trees_of (t ∷ ts) = ap (λ (us : List Tree). t ∷ us) (list_of-trees_of ts)

pub inside_more : (e : Element) (more : Box (Said × Vec Element)) → (out-Element e).more ≡ Some more → map tree_of more.value.1.items ≡ inside (tree_of e)
inside_more e more is = rw (fold_out-Element Tree _ e, is, list_of-trees_of) refl
