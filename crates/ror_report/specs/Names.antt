-- The words that stand for the forms of a body, and for the reasons of a refusal.
use Rattle.std.specs.Prelude.{ℕ, List, [], ◌∷◌, codes}
use Rattle.ror_report.specs.declared.block.LineFault.{LineFault}
use Rattle.ror_report.specs.declared.block.LineFault.TheVariants as faults
use Rattle.ror_report.specs.declared.names.BodyForm.{BodyForm}
use Rattle.ror_report.specs.declared.names.BodyForm.TheVariants.{OneLine, Repaired, RepairWide}
use Rattle.ror_report.specs.declared.names.LineForm.{LineForm}
use Rattle.ror_report.specs.declared.names.LineForm.TheVariants as forms

-- the first word of a body of one line of this form
abbrev pub form_word : LineForm → List ℕ
form_word forms.Added = codes "added"
form_word forms.Withdrawn = codes "withdrawn"
form_word forms.Replaced = codes "replaced"
form_word forms.Undone = codes "undone"
form_word forms.Refused = codes "refused"

-- the first word of a body of this form
abbrev pub body_word : BodyForm → List ℕ
body_word (OneLine form) = form_word form
body_word Repaired = codes "repaired"
body_word RepairWide = codes "repair-wide"

abbrev pub body_forms : List BodyForm
body_forms =
    OneLine forms.Added ∷ OneLine forms.Withdrawn ∷ OneLine forms.Replaced ∷ OneLine forms.Undone
    ∷ Repaired ∷ RepairWide ∷ OneLine forms.Refused ∷ []

-- the name of a reason
abbrev pub fault_word : LineFault → List ℕ
fault_word faults.UnknownAlternative = codes "UnknownAlternative"
fault_word faults.UnknownCriterion = codes "UnknownCriterion"
fault_word faults.UnknownClass = codes "UnknownClass"
fault_word faults.BadInterval = codes "BadInterval"
fault_word faults.NoSuchStatement = codes "NoSuchStatement"
fault_word faults.NothingToUndo = codes "NothingToUndo"
fault_word faults.TooManyStatements = codes "TooManyStatements"
fault_word faults.TooManyRows = codes "TooManyRows"
fault_word faults.TooManyPairs = codes "TooManyPairs"

abbrev pub line_faults : List LineFault
line_faults =
    faults.UnknownAlternative ∷ faults.UnknownCriterion ∷ faults.UnknownClass ∷ faults.BadInterval
    ∷ faults.NoSuchStatement ∷ faults.NothingToUndo ∷ faults.TooManyStatements
    ∷ faults.TooManyRows ∷ faults.TooManyPairs ∷ []
