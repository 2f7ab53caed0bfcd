-- What stands where a page is written: the page, and behind it names.
use Rattle.std.specs.Prelude.{◌≡◌, ℕ, ◌⊎◌, nat_eq, Bool, false, List, [], ◌∷◌, ◌++◌}
use Rattle.std.specs.List.{list_any}
use Rattle.ror_show_sheet.specs.Beside.{IsLegend}
use Rattle.ror_show_words.specs.declared.words.Form.{Form}
use Rattle.ror_show_words.specs.declared.words.Form.TheVariants.{Text}

-- some byte of the file is a `<`, without which no file is in XMCDA
abbrev pub has_tag : List ℕ → Bool
has_tag bytes = list_any (λ byte. nat_eq byte 60) bytes

-- Names stand behind a text alone, and only where the table's file has a `<`; where there are some, they stand below their head.
abbrev pub AreNames : Form → List ℕ → List ℕ → Type 0
AreNames Text bytes names = (has_tag bytes ≡ false → names ≡ []) × IsLegend names
AreNames _ bytes names = names ≡ []

-- an empty line, where the page doesn't end with one
abbrev pub IsGap : List ℕ → Type 0
IsGap gap = (gap ≡ []) ⊎ (gap ≡ 10 ∷ [])

-- the page in a form, and behind it names of the table's file
pub record IsShown (form : Form) (bytes page text : List ℕ) : Type 0 where
  pub gap : List ℕ
  pub names : List ℕ
  pub are : AreNames form bytes names
  pub gap_is : IsGap gap
  pub no_gap : names ≡ [] → gap ≡ []
  pub text_is : text ≡ page ++ gap ++ names
