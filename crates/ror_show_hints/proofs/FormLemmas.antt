-- Words in lines, one word on and at the end; and what is said behind a label as whole lines.
use Rattle.std.proofs.Common.{◌≡◌, ℕ, ◌<◌, Bool, true, false, List, [], ◌∷◌, ◌++◌, length, refl, sym, ap, subst, ◌∙◌, arith, inl, inr, append_assoc, eqb}
use Rattle.std.specs.Prelude.{◌≢◌, ◌==◌, if◌then◌else◌}
use Rattle.std.specs.List.{list_all, onto_first}
use Rattle.std.proofs.lemmas.Bool.{and_parts, cases_Bool, ne_eqb}
use Rattle.std.proofs.lemmas.List.{append-nil}
use Rattle.ror_text.specs.SpacedLines.{spaced_words}
use Rattle.ror_show_hints.specs.Forms.{is_one_line, margin, fits, next_word, next_room, flowed, said_text, is_front, begins_with_one, begins_so, are_lines_from}

pub if_parts : (b x : Bool) → (if b then x else false) ≡ true → (b ≡ true) × (x ≡ true)
if_parts true x h = (refl, h)
if_parts false x h = absurd cc

pub if_from : (b x : Bool) → b ≡ true → x ≡ true → (if b then x else false) ≡ true
if_from true x b h = h
if_from false x b h = absurd cc

pub unless_parts : (b x : Bool) → (if b then false else x) ≡ true → (b ≡ false) × (x ≡ true)
unless_parts true x h = absurd cc
unless_parts false x h = (refl, h)

pub or_there : (b x : Bool) → x ≡ true → (if b then true else x) ≡ true
or_there true x h = refl
or_there false x h = h

-- ---- words in lines

pub word_on : (room behind : ℕ) (word : List ℕ) (left rest : List (List ℕ)) (made more goal : List ℕ) → left ≡ word ∷ rest → more ≡ made ++ next_word room word → behind ≡ next_room room word → made ++ flowed room left ≡ goal → more ++ flowed behind rest ≡ goal
word_on room behind word left rest made more goal is pushed next so_far =
    ap (λ (ys : List ℕ). ys ++ flowed behind rest) pushed
    ∙ append_assoc made (next_word room word) (flowed behind rest)
    ∙ ap (λ (n : ℕ). made ++ (next_word room word ++ flowed n rest)) next
    ∙ ap (λ (ws : List (List ℕ)). made ++ flowed room ws) (sym is) ∙ so_far

pub words_done : (room : ℕ) (left : List (List ℕ)) (made goal : List ℕ) → left ≡ [] → made ++ flowed room left ≡ goal → made ≡ goal
words_done room left made goal none so_far =
    sym (ap (λ (ws : List (List ℕ)). made ++ flowed room ws) none ∙ append-nil made) ∙ so_far

-- ---- one line

pub one_line_push : (text : List ℕ) (byte : ℕ) → is_one_line text ≡ true → byte ≢ 10 → is_one_line (text ++ byte ∷ []) ≡ true
one_line_push [] byte h other = rw (ne_eqb byte 10 other) refl
one_line_push (b ∷ bs) byte h other =
    let parts = unless_parts (b == 10) (is_one_line bs) h in
    rw parts.0 (one_line_push bs byte parts.1 other)

one_line_first : (b : ℕ) (parts : List (List ℕ)) → (b == 10) ≡ false → list_all is_one_line parts ≡ true → list_all is_one_line (onto_first b parts) ≡ true
one_line_first b [] other h = rw other refl
one_line_first b (part ∷ parts) other h = rw other h

-- the words of one line have none
words_of_one_line : (line : List ℕ) → is_one_line line ≡ true → list_all is_one_line (spaced_words line) ≡ true
words_of_one_line [] h = refl
words_of_one_line (b ∷ bs) h =
    let parts = unless_parts (b == 10) (is_one_line bs) h in
    let rest = words_of_one_line bs parts.1 in
    elim (cases_Bool (b == 32)) [
      | inl hit ↦ rw hit rest
      | inr miss ↦ rw miss (one_line_first b (spaced_words bs) parts.0 rest)
    ]

-- ---- whole lines

is_front_more : (front text more : List ℕ) → is_front front text ≡ true → is_front front (text ++ more) ≡ true
is_front_more [] text more h = refl
is_front_more (b ∷ front) [] more h = absurd cc
is_front_more (b ∷ front) (x ∷ text) more h =
    let parts = if_parts (x == b) (is_front front text) h in
    if_from (x == b) (is_front front (text ++ more)) parts.0 (is_front_more front text more parts.1)

pub begins_more : (fronts : List (List ℕ)) (text more : List ℕ) → begins_with_one fronts text ≡ true → begins_with_one fronts (text ++ more) ≡ true
begins_more [] text more h = absurd cc
begins_more (front ∷ fronts) text more h =
    elim (cases_Bool (is_front front text)) [
      | inl hit ↦ rw (is_front_more front text more hit) refl
      | inr miss ↦ or_there (is_front front (text ++ more)) (begins_with_one fronts (text ++ more)) (begins_more fronts text more (rw miss at h))
    ]

begins_so_more : (fronts : List (List ℕ)) (anew : Bool) (text more : List ℕ) → begins_so fronts anew text ≡ true → begins_so fronts anew (text ++ more) ≡ true
begins_so_more fronts true text more h = begins_more fronts text more h
begins_so_more fronts false text more h = refl

-- lines behind lines
pub lines_more : (fronts : List (List ℕ)) (anew : Bool) (xs ys : List ℕ) → are_lines_from fronts anew xs ≡ true → are_lines_from fronts true ys ≡ true → are_lines_from fronts anew (xs ++ ys) ≡ true
lines_more fronts anew [] ys a b = subst (λ (from : Bool). are_lines_from fronts from ys ≡ true) (sym a) b
lines_more fronts anew (x ∷ xs) ys a b =
    let parts = if_parts (begins_so fronts anew (x ∷ xs)) (are_lines_from fronts (x == 10) xs) a in
    if_from (begins_so fronts anew (x ∷ (xs ++ ys))) (are_lines_from fronts (x == 10) (xs ++ ys)) (begins_so_more fronts anew (x ∷ xs) ys parts.0) (lines_more fronts (x == 10) xs ys parts.1 b)

-- what goes on in a line
pub within_line : (fronts : List (List ℕ)) (word rest : List ℕ) → is_one_line word ≡ true → are_lines_from fronts false rest ≡ true → are_lines_from fronts false (word ++ rest) ≡ true
within_line fronts [] rest one h = h
within_line fronts (x ∷ word) rest one h =
    let parts = unless_parts (x == 10) (is_one_line word) one in
    subst (λ (from : Bool). are_lines_from fronts from (word ++ rest) ≡ true) (sym parts.0) (within_line fronts word rest parts.1 h)

-- what begins one
new_line : (fronts : List (List ℕ)) (front rest : List ℕ) → 0 < length front → is_one_line front ≡ true → begins_with_one fronts (front ++ rest) ≡ true → are_lines_from fronts false rest ≡ true → are_lines_from fronts true (front ++ rest) ≡ true
new_line fronts [] rest some one begins h = absurd (omega arith)
new_line fronts (x ∷ word) rest some one begins h =
    let parts = unless_parts (x == 10) (is_one_line word) one in
    if_from (begins_with_one fronts (x ∷ (word ++ rest))) (are_lines_from fronts (x == 10) (word ++ rest)) begins
    (subst (λ (from : Bool). are_lines_from fronts from (word ++ rest) ≡ true) (sym parts.0) (within_line fronts word rest parts.1 h))

-- a word, on a new line or not
next_lines : (fronts : List (List ℕ)) → ((rest : List ℕ) → begins_with_one fronts (margin ++ rest) ≡ true) → (room : ℕ) (word rest : List ℕ) → is_one_line word ≡ true → are_lines_from fronts false rest ≡ true → are_lines_from fronts false (next_word room word ++ rest) ≡ true
next_lines fronts below room word rest one h =
    let go_on : are_lines_from fronts false (32 ∷ (word ++ rest)) ≡ true = within_line fronts (32 ∷ word) rest one h in
    elim (cases_Bool (fits room word)) [
      | inl hit ↦ rw hit go_on
      | inr miss ↦ rw miss (new_line fronts margin (32 ∷ (word ++ rest)) (omega arith) refl (below (32 ∷ (word ++ rest))) go_on)
    ]

flowed_lines : (fronts : List (List ℕ)) → ((rest : List ℕ) → begins_with_one fronts (margin ++ rest) ≡ true) → (room : ℕ) (words : List (List ℕ)) → list_all is_one_line words ≡ true → are_lines_from fronts false (flowed room words ++ 10 ∷ []) ≡ true
flowed_lines fronts below room [] h = refl
flowed_lines fronts below room (word ∷ words) h =
    let both = and_parts (is_one_line word) (list_all is_one_line words) h in
    let later = flowed_lines fronts below (next_room room word) words both.1 in
    let here = next_lines fronts below room word (flowed (next_room room word) words ++ 10 ∷ []) both.0 later in
    subst (λ (text : List ℕ). are_lines_from fronts false text ≡ true) (sym (append_assoc (next_word room word) (flowed (next_room room word) words) (10 ∷ []))) here

-- a sentence behind a label is lines, where its lines may begin with the label and with the margin
pub said_lines : (fronts : List (List ℕ)) → ((rest : List ℕ) → begins_with_one fronts (margin ++ rest) ≡ true) → (label sentence : List ℕ) → 0 < length label → is_one_line label ≡ true → ((rest : List ℕ) → begins_with_one fronts (label ++ rest) ≡ true) → is_one_line sentence ≡ true → are_lines_from fronts true (said_text label sentence) ≡ true
said_lines fronts below label sentence some one begins h =
    let flow : List ℕ = flowed 110 (spaced_words sentence) in
    let lines = new_line fronts label (flow ++ 10 ∷ []) some one (begins (flow ++ 10 ∷ [])) (flowed_lines fronts below 110 (spaced_words sentence) (words_of_one_line sentence h)) in
    subst (λ (text : List ℕ). are_lines_from fronts true text ≡ true) (sym (append_assoc label flow (10 ∷ []))) lines
