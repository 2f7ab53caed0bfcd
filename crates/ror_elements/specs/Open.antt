-- Open elements, and the tree of one that is closed.
use Rattle.std.specs.Prelude.{ℕ, Bool, true, false, List, [], ◌∷◌, Option, Some, None}
use Rattle.std.specs.Str.Lossy.{utf8_lossy}
use Rattle.std.specs.Prelude.{refl}
use Rattle.std.specs.Coded.{Coded, code_by, coded_ℕ, coded_bool, coded_list, coded_option, coded×}
use Rattle.ror_elements.specs.declared.open.Open.{Open}
use Rattle.ror_elements.specs.Marks.{local_name, trimmed}
use Rattle.ror_elements.specs.Tree.{Tree, node, trees_of, tree_code}

abbrev pub is_none : {A : Type 0} → List A → Bool
is_none [] = true
is_none (x ∷ xs) = false

abbrev pub last_of : {A : Type 0} → List A → Option A
last_of [] = None
last_of (x ∷ []) = Some x
last_of (x ∷ y ∷ more) = last_of (y ∷ more)

-- the id, without white space around it
unfoldable pub id_of : Option (List ℕ) → Option (List ℕ)
id_of None = None
id_of (Some value) = Some (utf8_lossy (trimmed value))

-- the element with its local name, and its text without white space around it. What is no UTF-8 in
-- a text would be replaced; of a text that is read there is nothing
unfoldable pub finished : Open → Tree
finished element =
    node (utf8_lossy (local_name element.name)) (id_of element.id) (utf8_lossy (trimmed element.text))
    element.line (trees_of element.children)

-- ---- that open elements can be told apart: one as the tuple of its fields

abbrev pub open_code : Coded Open
open_code =
    code_by (List ℕ × (ℕ × (List ℕ × (Bool × (Option (List ℕ) × (List ℕ × List Tree))))))
    (coded× (coded_list coded_ℕ) (coded× coded_ℕ (coded× (coded_list coded_ℕ) (coded× coded_bool (coded× (coded_option (coded_list coded_ℕ)) (coded× (coded_list coded_ℕ) (coded_list tree_code)))))))
    (λ o. (o.name, (o.line, (o.path, (o.kept, (o.id, (o.text, o.children)))))))
    (λ x. record { name = x.0; line = x.1.0; path = x.1.1.0; kept = x.1.1.1.0; id = x.1.1.1.1.0; text = x.1.1.1.1.1.0; children = x.1.1.1.1.1.1 })
    (λ _. refl)
