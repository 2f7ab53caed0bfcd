-- What is said under a label is notes, and notes behind notes are.
use Rattle.std.proofs.Common.{◌≡◌, ℕ, ◌<◌, Bool, true, false, List, ◌++◌, Result, Ok, Err, length, refl, sym, subst, arith, inl, inr}
use Rattle.std.specs.Prelude.{IfOk, if◌then◌else◌}
use Rattle.std.specs.declared.vec.Vec.{Vec}
use Rattle.ror_show_hints.specs.Forms.{begins_with_one, is_one_line, margin, IsSaid}
use Rattle.ror_show_hints.proofs.FormLemmas.{lines_more, said_lines}
use Rattle.ror_show_sheet.specs.declared.label.Label.{Label}
use Rattle.ror_show_sheet.specs.declared.label.Label.TheVariants.{LookAt, Ranks, Class, Name, LeftOut, Inactive, Passed, Session, Desk, Unsure, Refused}
use Rattle.ror_show_sheet.specs.Notes.{word_of, fronts, are_notes}

margin_begins : (rest : List ℕ) → begins_with_one fronts (margin ++ rest) ≡ true
unfolding fronts
margin_begins rest = refl

label_begins : (label : Label) (rest : List ℕ) → begins_with_one fronts (word_of label ++ rest) ≡ true
unfolding fronts
label_begins LookAt rest = refl
label_begins Ranks rest = refl
label_begins Class rest = refl
label_begins Name rest = refl
label_begins LeftOut rest = refl
label_begins Inactive rest = refl
label_begins Passed rest = refl
label_begins Session rest = refl
label_begins Desk rest = refl
label_begins Unsure rest = refl
label_begins Refused rest = refl

label_is_some : (label : Label) → 0 < length (word_of label)
label_is_some LookAt = omega arith
label_is_some Ranks = omega arith
label_is_some Class = omega arith
label_is_some Name = omega arith
label_is_some LeftOut = omega arith
label_is_some Inactive = omega arith
label_is_some Passed = omega arith
label_is_some Session = omega arith
label_is_some Desk = omega arith
label_is_some Unsure = omega arith
label_is_some Refused = omega arith

label_is_one_line : (label : Label) → is_one_line (word_of label) ≡ true
label_is_one_line LookAt = refl
label_is_one_line Ranks = refl
label_is_one_line Class = refl
label_is_one_line Name = refl
label_is_one_line LeftOut = refl
label_is_one_line Inactive = refl
label_is_one_line Passed = refl
label_is_one_line Session = refl
label_is_one_line Desk = refl
label_is_one_line Unsure = refl
label_is_one_line Refused = refl

pub said_are_notes : (label : Label) (text : List ℕ) → IsSaid (word_of label) text → are_notes text ≡ true
said_are_notes label text said =
    subst (λ (t : List ℕ). are_notes t ≡ true) (sym said.2) (said_lines fronts margin_begins (word_of label) said.0 (label_is_some label) (label_is_one_line label) (label_begins label) said.1)

pub if_said : {Y E : Type 0} (label : Label) (word : List ℕ) (r : Result (Vec ℕ Y) E) → word ≡ word_of label → IfOk r (λ text. IsSaid word text.items) → IfOk r (λ text. are_notes text.items ≡ true)
if_said {Y} {E} label word (Ok text) is said = said_are_notes label text.items (subst (λ (w : List ℕ). IsSaid w text.items) is said)
if_said {Y} {E} label word (Err e) is said = tt

-- notes are added, or for want of memory nothing is
pub notes_more : (added : Bool) (old more new : List ℕ) → new ≡ (if added then old ++ more else old) → are_notes old ≡ true → are_notes more ≡ true → are_notes new ≡ true
notes_more true old more new is a b = subst (λ (t : List ℕ). are_notes t ≡ true) (sym is) (lines_more fronts true old more a b)
notes_more false old more new is a b = subst (λ (t : List ℕ). are_notes t ≡ true) (sym is) a
