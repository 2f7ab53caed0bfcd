-- The words that stand for one of several things in an entry: what is said of a desk, what is said of a rank, and nodes.
use Rattle.std.specs.Prelude.{ℕ, List, [], ◌∷◌, codes}
use Rattle.ror_ranks_text.specs.declared.names.BodyForm.{BodyForm}
use Rattle.ror_ranks_text.specs.declared.names.BodyForm.TheVariants as forms
use Rattle.ror_ranks_text.specs.declared.names.SaidForm.{SaidForm}
use Rattle.ror_ranks_text.specs.declared.names.SaidForm.TheVariants as said
use Rattle.ror_ranks_text.specs.declared.names.NodeName.{NodeName}
use Rattle.ror_ranks_text.specs.declared.names.NodeName.TheVariants as named

-- ---- what is said of a desk

abbrev pub form_word : BodyForm → List ℕ
form_word forms.Ranks = codes "ranks"
form_word forms.Contradiction = codes "contradiction"
form_word forms.Wide = codes "wide"

abbrev pub body_forms : List BodyForm
body_forms = forms.Ranks ∷ forms.Contradiction ∷ forms.Wide ∷ []

-- ---- what is said of an extreme rank, behind its alternative

abbrev pub said_word : SaidForm → List ℕ
said_word said.From = codes "from"
said_word said.Wide = codes "wide"

abbrev pub said_forms : List SaidForm
said_forms = said.From ∷ said.Wide ∷ []

-- ---- nodes

abbrev pub node_word : NodeName → List ℕ
node_word named.Leaf = codes "leaf"
node_word named.Branch = codes "branch"

abbrev pub node_names : List NodeName
node_names = named.Leaf ∷ named.Branch ∷ []
