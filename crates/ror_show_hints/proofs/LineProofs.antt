-- A text of whole lines is made of them.
use Rattle.std.proofs.Common.{◌≡◌, ℕ, Bool, true, false, List, [], ◌∷◌, ◌++◌, refl, sym, ap, subst, ◌∙◌, inl, inr, append_assoc, eqb-true}
use Rattle.std.specs.Prelude.{◌==◌}
use Rattle.std.specs.List.{AllByRecursion, flat_map, list_all}
use Rattle.std.proofs.lemmas.Bool.{and_parts, cases_Bool}
use Rattle.ror_show_hints.specs.Forms.{is_one_line, is_front, begins_with_one, begins_so, are_lines_from}
use Rattle.ror_show_hints.specs.Laws.{IsLine, IsOfLines, LinesAreThose}
use Rattle.ror_show_hints.proofs.FormLemmas.{if_parts, if_from, unless_parts, or_there, begins_more, within_line}

-- ---- what begins a text begins its first line

front_within : (front words rest : List ℕ) → is_one_line front ≡ true → is_front front (words ++ 10 ∷ rest) ≡ true → is_front front words ≡ true
front_within [] words rest one h = refl
front_within (x ∷ front) [] rest one h =
    let ends = if_parts (10 == x) (is_front front rest) h in
    let others = unless_parts (x == 10) (is_one_line front) one in
    let same : 10 ≡ x = eqb-true 10 x ends.0 in
    let is : (10 == 10) ≡ false = subst (λ (y : ℕ). (y == 10) ≡ false) (sym same) others.0 in
    absurd cc
front_within (x ∷ front) (y ∷ words) rest one h =
    let here = if_parts (y == x) (is_front front (words ++ 10 ∷ rest)) h in
    let others = unless_parts (x == 10) (is_one_line front) one in
    if_from (y == x) (is_front front words) here.0 (front_within front words rest others.1 here.1)

begins_within : (fronts : List (List ℕ)) (words rest : List ℕ) → list_all is_one_line fronts ≡ true → begins_with_one fronts (words ++ 10 ∷ rest) ≡ true → begins_with_one fronts words ≡ true
begins_within [] words rest one h = h
begins_within (front ∷ fronts) words rest one h =
    let ones = and_parts (is_one_line front) (list_all is_one_line fronts) one in
    elim (cases_Bool (is_front front (words ++ 10 ∷ rest))) [
      | inl hit ↦ rw (front_within front words rest ones.0 hit) refl
      | inr miss ↦ or_there (is_front front words) (begins_with_one fronts words) (begins_within fronts words rest ones.1 (rw miss at h))
    ]

-- ---- lines there

-- what is left of a line, and lines
record IsRest (fronts : List (List ℕ)) (text : List ℕ) : Type 0 where
  words : List ℕ
  one_line : is_one_line words ≡ true
  lines : List (List ℕ)
  all : AllByRecursion (IsLine fronts) lines
  text_is : text ≡ words ++ 10 ∷ flat_map (λ line. line) lines

abbrev There : List (List ℕ) → Bool → List ℕ → Type 0
There fronts true text = IsOfLines fronts text
There fronts false text = IsRest fronts text

ended : (fronts : List (List ℕ)) (byte : ℕ) (text : List ℕ) → byte ≡ 10 → IsOfLines fronts text → IsRest fronts (byte ∷ text)
ended fronts byte text is found = record {
  words = [];
  one_line = refl;
  lines = found.0;
  all = found.1;
  text_is = ap (λ (b : ℕ). b ∷ text) is ∙ ap (λ (t : List ℕ). 10 ∷ t) found.2;
}

one_byte : (byte : ℕ) (words : List ℕ) → (byte == 10) ≡ false → is_one_line words ≡ true → is_one_line (byte ∷ words) ≡ true
one_byte byte words other h = rw other h

goes_on : (fronts : List (List ℕ)) (byte : ℕ) (text : List ℕ) → (byte == 10) ≡ false → IsRest fronts text → IsRest fronts (byte ∷ text)
goes_on fronts byte text other rest = record {
  words = byte ∷ rest.words;
  one_line = one_byte byte rest.words other rest.one_line;
  lines = rest.lines;
  all = rest.all;
  text_is = ap (λ (t : List ℕ). byte ∷ t) rest.text_is;
}

-- a rest that begins so is lines
a_line : (fronts : List (List ℕ)) (text : List ℕ) → list_all is_one_line fronts ≡ true → begins_with_one fronts text ≡ true → IsRest fronts text → IsOfLines fronts text
a_line fronts text one begins rest =
    let tail : List ℕ = flat_map (λ line. line) rest.lines in
    let so : begins_with_one fronts rest.words ≡ true = begins_within fronts rest.words tail one (subst (λ (t : List ℕ). begins_with_one fronts t ≡ true) rest.text_is begins) in
    let line : IsLine fronts (rest.words ++ 10 ∷ []) = record { words = rest.words; one_line = rest.one_line; begins = so; text_is = refl } in
    ((rest.words ++ 10 ∷ []) ∷ rest.lines, (line, rest.all), rest.text_is ∙ sym (append_assoc rest.words (10 ∷ []) tail))

either : (fronts : List (List ℕ)) (anew : Bool) (text : List ℕ) → list_all is_one_line fronts ≡ true → begins_so fronts anew text ≡ true → IsRest fronts text → There fronts anew text
either fronts true text one begins rest = a_line fronts text one begins rest
either fronts false text one begins rest = rest

there_none : (fronts : List (List ℕ)) (anew : Bool) → anew ≡ true → There fronts anew []
there_none fronts true h = ([], tt, refl)
there_none fronts false h = absurd cc

there : (fronts : List (List ℕ)) → list_all is_one_line fronts ≡ true → (anew : Bool) (text : List ℕ) → are_lines_from fronts anew text ≡ true → There fronts anew text
there fronts one anew [] h = there_none fronts anew h
there fronts one anew (byte ∷ bytes) h =
    let parts = if_parts (begins_so fronts anew (byte ∷ bytes)) (are_lines_from fronts (byte == 10) bytes) h in
    let more : There fronts (byte == 10) bytes = there fronts one (byte == 10) bytes parts.1 in
    let rest : IsRest fronts (byte ∷ bytes) =
    elim (cases_Bool (byte == 10)) [
      | inl hit ↦ ended fronts byte bytes (eqb-true byte 10 hit) (subst (λ (from : Bool). There fronts from bytes) hit more)
      | inr miss ↦ goes_on fronts byte bytes miss (subst (λ (from : Bool). There fronts from bytes) miss more)
    ] in
    either fronts anew (byte ∷ bytes) one parts.0 rest

-- ---- and back

line_passes : (fronts : List (List ℕ)) (words rest : List ℕ) → is_one_line words ≡ true → begins_with_one fronts words ≡ true → are_lines_from fronts true rest ≡ true → are_lines_from fronts true (words ++ 10 ∷ rest) ≡ true
line_passes fronts [] rest one begins h = if_from (begins_with_one fronts (10 ∷ rest)) (are_lines_from fronts true rest) (begins_more fronts [] (10 ∷ rest) begins) h
line_passes fronts (x ∷ words) rest one begins h =
    let parts = unless_parts (x == 10) (is_one_line words) one in
    let goes : are_lines_from fronts false (words ++ 10 ∷ rest) ≡ true = within_line fronts words (10 ∷ rest) parts.1 h in
    if_from (begins_with_one fronts (x ∷ (words ++ 10 ∷ rest))) (are_lines_from fronts (x == 10) (words ++ 10 ∷ rest)) (begins_more fronts (x ∷ words) (10 ∷ rest) begins)
    (subst (λ (from : Bool). are_lines_from fronts from (words ++ 10 ∷ rest) ≡ true) (sym parts.0) goes)

lines_pass : (fronts : List (List ℕ)) (lines : List (List ℕ)) → AllByRecursion (IsLine fronts) lines → are_lines_from fronts true (flat_map (λ line. line) lines) ≡ true
lines_pass fronts [] all = refl
lines_pass fronts (line ∷ lines) all =
    let here : IsLine fronts line = all.0 in
    let rest : List ℕ = flat_map (λ one. one) lines in
    let passes = line_passes fronts here.words rest here.one_line here.begins (lines_pass fronts lines all.1) in
    subst (λ (t : List ℕ). are_lines_from fronts true t ≡ true) (sym (ap (λ (l : List ℕ). l ++ rest) here.text_is ∙ append_assoc here.words (10 ∷ []) rest)) passes

pub lines_those : LinesAreThose
lines_those fronts text one =
    (there fronts one true text, λ found. subst (λ (t : List ℕ). are_lines_from fronts true t ≡ true) (sym found.2) (lines_pass fronts found.0 found.1))
