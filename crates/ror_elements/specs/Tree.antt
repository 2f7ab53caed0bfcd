-- Elements as trees.
use Rattle.std.specs.Prelude.{◌≡◌, ℕ, List, [], ◌∷◌, ◌++◌, Option, Some, None}
use Rattle.std.specs.Coded.{Coded, code_by, coded_ℕ, coded_list, coded_option, coded×}
use Rattle.std.proofs.Common.{refl, ap, append_assoc, ◌∙◌}
use Rattle.std.specs.Global.{Box, Vec}
use Rattle.ror_elements.specs.declared.element.Element.{Element, fold-Element}
use Rattle.ror_elements.specs.declared.element.Said.{Said}

mutual
  -- an element with its local name, its id, its text, its line and the elements inside it
  pub data Tree : Type 0 where
    node : (name : List ℕ) (id : Option (List ℕ)) (text : List ℕ) (line : ℕ) → Trees → Tree

  pub data Trees : Type 0 where
    none : Trees
    also : Tree → Trees → Trees

abbrev pub name_of : Tree → List ℕ
name_of (node name id text line inside) = name

abbrev pub id_of : Tree → Option (List ℕ)
id_of (node name id text line inside) = id

abbrev pub text_of : Tree → List ℕ
text_of (node name id text line inside) = text

abbrev pub line_of : Tree → ℕ
line_of (node name id text line inside) = line

abbrev pub list_of : Trees → List Tree
list_of none = []
list_of (also t ts) = t ∷ list_of ts

-- the elements directly inside an element, in order
abbrev pub inside : Tree → List Tree
inside (node name id text line ts) = list_of ts

abbrev pub trees_of : List Tree → Trees
trees_of [] = none
trees_of (t ∷ ts) = also t (trees_of ts)

-- an element with what is said of it and the elements inside, if there is any of these
abbrev with_more : List ℕ → ℕ → Option (Box (Said × Vec Tree)) → Tree
with_more name line None = node name None [] line none
with_more name line (Some more) = node name more.value.0.id more.value.0.text line (trees_of more.value.1.items)

-- the tree of an element
abbrev pub tree_of : Element → Tree
tree_of = fold-Element Tree (λ e. with_more e.name e.line e.more)

-- ---- that trees can be told apart: a tree as a list that gives it back

-- an element without those inside it, or the end of some elements
abbrev Token : Type 0
Token = Option (List ℕ × (Option (List ℕ) × (List ℕ × ℕ)))

abbrev mutual
  tree_tokens : Tree → List Token
  tree_tokens (node name id text line inside) = Some (name, (id, (text, line))) ∷ tokens inside

  tokens : Trees → List Token
  tokens none = None ∷ []
  tokens (also t ts) = tree_tokens t ++ tokens ts

-- the trees that a token makes of those behind it
abbrev joined : Token → List Trees → List Trees
joined None behind = none ∷ behind
joined (Some x) [] = []
joined (Some x) (inside ∷ []) = []
joined (Some x) (inside ∷ after ∷ behind) = also (node x.0 x.1.0 x.1.1.0 x.1.1.1 inside) after ∷ behind

abbrev trees_in : List Token → List Trees
trees_in [] = []
trees_in (x ∷ xs) = joined x (trees_in xs)

mutual
  tree_again : (t : Tree) (ts : Trees) (xs : List Token) (behind : List Trees) → trees_in xs ≡ ts ∷ behind → trees_in (tree_tokens t ++ xs) ≡ also t ts ∷ behind
  tree_again (node name id text line inside) ts xs behind e = ap (joined (Some (name, (id, (text, line))))) (trees_again inside xs (ts ∷ behind) e)

  trees_again : (ts : Trees) (xs : List Token) (behind : List Trees) → trees_in xs ≡ behind → trees_in (tokens ts ++ xs) ≡ ts ∷ behind
  trees_again none xs behind e = ap (joined None) e
  trees_again (also t ts) xs behind e = ap trees_in (append_assoc (tree_tokens t) (tokens ts) xs) ∙ tree_again t ts (tokens ts ++ xs) behind (trees_again ts xs behind e)

abbrev first_tree : List Trees → Tree
first_tree [] = node [] None [] 0 none
first_tree (none ∷ more) = node [] None [] 0 none
first_tree (also t ts ∷ more) = t

pub tree_back : (t : Tree) → first_tree (trees_in (tree_tokens t ++ None ∷ [])) ≡ t
tree_back t = ap first_tree (tree_again t none (None ∷ []) [] refl)

abbrev pub tree_code : Coded Tree
tree_code =
    code_by (List Token)
    (coded_list (coded_option (coded× (coded_list coded_ℕ) (coded× (coded_option (coded_list coded_ℕ)) (coded× (coded_list coded_ℕ) coded_ℕ)))))
    (λ t. tree_tokens t ++ None ∷ []) (λ xs. first_tree (trees_in xs)) tree_back
