-- The words that stand for one of several things in an entry: what is said of a desk, paths, and places of the climbing path.
use Rattle.std.specs.Prelude.{ℕ, List, [], ◌∷◌, codes}
use Rattle.ror_discriminate.specs.declared.names.BodyForm.{BodyForm}
use Rattle.ror_discriminate.specs.declared.names.BodyForm.TheVariants as forms
use Rattle.ror_discriminate.specs.declared.names.PathName.{PathName}
use Rattle.ror_discriminate.specs.declared.names.PathName.TheVariants as paths
use Rattle.ror_discriminate.specs.declared.names.ClimbName.{ClimbName}
use Rattle.ror_discriminate.specs.declared.names.ClimbName.TheVariants as named

-- ---- what is said of a desk

abbrev pub form_word : BodyForm → List ℕ
form_word forms.Best = codes "margin"
form_word forms.NoStrictRow = codes "none"
form_word forms.Contradiction = codes "contradiction"
form_word forms.Wide = codes "wide"

abbrev pub body_forms : List BodyForm
body_forms = forms.Best ∷ forms.NoStrictRow ∷ forms.Contradiction ∷ forms.Wide ∷ []

-- ---- paths

abbrev pub path_word : PathName → List ℕ
path_word paths.Base = codes "base"
path_word paths.Climb = codes "climb"

abbrev pub path_names : List PathName
path_names = paths.Base ∷ paths.Climb ∷ []

-- ---- places of the climbing path

abbrev pub climb_word : ClimbName → List ℕ
climb_word named.Start = codes "start"
climb_word named.Step = codes "step"
climb_word named.Denominator = codes "denominator"
climb_word named.RowSum = codes "rowsum"
climb_word named.Total = codes "total"
climb_word named.Scale = codes "scale"
climb_word named.ColumnSum = codes "columnsum"

abbrev pub climb_names : List ClimbName
climb_names =
    named.Start ∷ named.Step ∷ named.Denominator ∷ named.RowSum ∷ named.Total ∷ named.Scale ∷ named.ColumnSum ∷ []
