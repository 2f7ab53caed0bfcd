-- Lines on what was read: each begins with a label of nine columns, or with nine blanks where it goes on below one.
use Rattle.std.specs.Prelude.{ℕ, Bool, List, [], ◌∷◌, codes}
use Rattle.ror_show_hints.specs.Forms.{margin, are_lines}
use Rattle.ror_show_sheet.specs.declared.label.Label.{Label}
use Rattle.ror_show_sheet.specs.declared.label.Label.TheVariants.{LookAt, Ranks, Class, Name, LeftOut, Inactive, Passed, Session, Desk, Unsure, Refused}

abbrev pub word_of : Label → List ℕ
word_of LookAt = codes "look at  "
word_of Ranks = codes "ranks    "
word_of Class = codes "class    "
word_of Name = codes "name     "
word_of LeftOut = codes "left out "
word_of Inactive = codes "inactive "
word_of Passed = codes "passed   "
word_of Session = codes "session  "
word_of Desk = codes "desk     "
word_of Unsure = codes "unsure   "
word_of Refused = codes "refused  "

-- with what a line begins; no line of the sheet begins so
unfoldable pub fronts : List (List ℕ)
fronts = word_of LookAt ∷ word_of Ranks ∷ word_of Class ∷ word_of Name ∷ word_of LeftOut ∷ word_of Inactive ∷ word_of Passed
    ∷ word_of Session ∷ word_of Desk ∷ word_of Unsure ∷ word_of Refused ∷ margin ∷ []

abbrev pub are_notes : List ℕ → Bool
are_notes text = are_lines fronts text
