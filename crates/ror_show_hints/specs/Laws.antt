-- What it is to be a text of whole lines.
use Rattle.std.specs.Prelude.{◌≡◌, ℕ, true, List, [], ◌∷◌, ◌++◌, ◌↔◌}
use Rattle.std.specs.List.{AllByRecursion, flat_map, list_all}
use Rattle.ror_show_hints.specs.Forms.{is_one_line, begins_with_one, are_lines}

-- words that begin with one of these, and a line feed, which is the only one
pub record IsLine (fronts : List (List ℕ)) (line : List ℕ) : Type 0 where
  pub words : List ℕ
  pub one_line : is_one_line words ≡ true
  pub begins : begins_with_one fronts words ≡ true
  pub text_is : line ≡ words ++ 10 ∷ []

-- such lines, one behind the other
abbrev pub IsOfLines : List (List ℕ) → List ℕ → Type 0
IsOfLines fronts text = (lines : List (List ℕ)) × AllByRecursion (IsLine fronts) lines × (text ≡ flat_map (λ line. line) lines)

-- the texts that pass the test are those of such lines
abbrev pub LinesAreThose : Type 0
LinesAreThose = (fronts : List (List ℕ)) (text : List ℕ) → list_all is_one_line fronts ≡ true
    → (are_lines fronts text ≡ true) ↔ IsOfLines fronts text
