-- A byte outside of tags, behind what was read.
use Rattle.std.proofs.Common.{◌≡◌, ℕ, zero, suc, ◌+◌, ◌<◌, Bool, true, false, not, List, [], ◌∷◌, ◌++◌, append_assoc, length, take, refl, sym, ap, subst, ◌∙◌, arith, inr}
use Rattle.std.specs.Prelude.{◌==◌, ◌&&◌, nat_lt}
use Rattle.std.proofs.lemmas.Bool.{eqb-true, eqb-false, not-false, ltb-true, ltb-false, both_ways}
use Rattle.std.proofs.lemmas.List.{take_all}
use Rattle.ror_elements.specs.declared.declaration.Declaration.{Declaration}
use Rattle.ror_elements.specs.declared.mode.Mode.{Mode}
use Rattle.ror_elements.specs.declared.mode.Mode.TheVariants as modes
use Rattle.ror_elements.specs.declared.mode.Opening.{Opening}
use Rattle.ror_elements.specs.declared.mode.Opening.TheVariants as openings
use Rattle.ror_elements.specs.declared.mode.Seen.{Seen}
use Rattle.ror_elements.specs.declared.mode.Seen.TheVariants as marks
use Rattle.ror_elements.specs.declared.open.Open.{Open}
use Rattle.ror_elements.specs.declared.reader.Reader.{Reader}
use Rattle.ror_elements.specs.Declarations.{nothing_declared, is_foreign, after}
use Rattle.ror_elements.specs.Grammar.{line_behind}
use Rattle.ror_elements.specs.Laws.{IsReached}
use Rattle.ror_elements.specs.Marks.{is_white, is_name_byte}
use Rattle.ror_elements.specs.Mode.{is_ended_by, seen_after, opening_text, is_byte_at}
use Rattle.ror_elements.specs.Open.{is_none}
use Rattle.ror_elements.specs.Reader.{is_outside, is_behind_root, add_text, outside, at_start, in_content, begin_tag, in_first_markup, in_markup, in_exclamation, begin, in_beginning, in_comment, without_brackets, in_section, in_first_instruction, end_first_instruction, in_instruction}
use Rattle.ror_elements.specs.Refusals.{IsBadMarkup}
use Rattle.ror_elements.proofs.Behind.{Ends, EndsQuestion}
use Rattle.ror_elements.proofs.Declared.{known_append}
use Rattle.ror_elements.proofs.DocumentLemmas.{take_one}
use Rattle.ror_elements.proofs.LawLemmas.{lines_are_counted}
use Rattle.ror_elements.proofs.TextLemmas.{white_low}
use Rattle.ror_elements.proofs.FaultWords.{UpToMark, UpToQuestion, EndsLow, IsBetween, Stacked, open_names, Begun, Instructed, AtMode, Holds, Encodes, Misplaces, Goes, when, past, not-true, longer, longer_by, begins_at, begins, bad_outside, refers}

-- ---- outside of tags

pub add_text-stacked : (r : Reader) (bytes : List ℕ) → Stacked r.top r.below → Stacked (add_text r bytes).top (add_text r bytes).below
unfolding add_text
add_text-stacked r bytes s = when (λ (x : Reader). Stacked x.top x.below) r.top.kept _ _ (λ _. s) (λ _. s)

-- behind an ASCII byte
pub content : (seen : List ℕ) (r : Reader) (byte : ℕ) → byte < 128 → Stacked r.top r.below → Holds (seen ++ byte ∷ []) (record r { mode = modes.Content })
content seen r byte low s = record { stacked = s; here = λ _. inr (seen, byte, refl, low) }

-- behind `>`
pub content_behind : (seen : List ℕ) (r : Reader) (byte other : ℕ) → (byte == other) ≡ true → other < 128 → Stacked r.top r.below → Holds (seen ++ byte ∷ []) (record r { mode = modes.Content })
content_behind seen r byte other e low s = content seen r byte (subst (λ n. n < 128) (sym (eqb-true byte other e)) low) s

outside-goes : (seen : List ℕ) (r : Reader) (byte : ℕ) → IsReached seen r → IsBetween seen r.mode r.below → Stacked r.top r.below → is_outside r ≡ true → (byte == 60) ≡ false → Goes (seen ++ byte ∷ []) (outside r byte)
unfolding outside
outside-goes seen r byte reached between s out other =
    past (seen ++ byte ∷ []) _ (not (is_white byte)) _
    (λ dark. bad_outside (seen ++ byte ∷ []) r.line r.top r.below (byte ∷ []) out (begins_at seen r byte reached between s) (IsBadMarkup.outside byte (not-true (is_white byte) dark) (eqb-false byte 60 other)))
    (λ white. content seen r byte (white_low byte (not-false (is_white byte) white)) s)

-- in text a mode stays
text-goes : (seen : List ℕ) (r : Reader) (bytes : List ℕ) → r.mode ≡ modes.Content → is_outside r ≡ false → Stacked r.top r.below → Holds seen (add_text r bytes)
unfolding add_text
text-goes seen r bytes is inside s =
    when (Holds seen) r.top.kept _ _
    (λ _. record { stacked = s; here = subst (λ (m : Mode). AtMode m seen r.start r.reference_line r.piece r.tag r.declaration (record r.top { text = r.top.text ++ bytes }) r.below) (sym is) (λ out. absurd (both_ways (is_none r.below) inside out)) })
    (λ _. record { stacked = s; here = subst (λ (m : Mode). AtMode m seen r.start r.reference_line r.piece r.tag r.declaration r.top r.below) (sym is) (λ out. absurd (both_ways (is_none r.below) inside out)) })

pub in_content-goes : (seen : List ℕ) (r : Reader) (byte : ℕ) → IsReached seen r → r.mode ≡ modes.Content → (is_none r.below ≡ true → EndsLow seen) → Stacked r.top r.below → Goes (seen ++ byte ∷ []) (in_content r byte)
unfolding in_content
in_content-goes seen r byte reached is low s =
    let between : IsBetween seen r.mode r.below = subst (λ (m : Mode). IsBetween seen m r.below) (sym is) low in
    when (Goes (seen ++ byte ∷ [])) (byte == 60) _ _ (λ e. record { stacked = s; here = begins seen r byte 60 reached between s e })
    (λ other. when (Goes (seen ++ byte ∷ [])) (is_outside r) _ _ (λ out. outside-goes seen r byte reached between s out other)
    (λ inside. when (Goes (seen ++ byte ∷ [])) (byte == 38) _ _ (λ e. record { stacked = s; here = ((refers seen r byte reached e, tt), (begins seen r byte 38 reached between s e, inside)) })
    (λ _. text-goes (seen ++ byte ∷ []) r (byte ∷ []) is inside s)))

nil_of : (seen : List ℕ) (byte other : ℕ) → seen ≡ [] → (byte == other) ≡ true → seen ++ byte ∷ [] ≡ other ∷ []
nil_of seen byte other e is = ap (λ (xs : List ℕ). xs ++ byte ∷ []) e ∙ ap (λ n. n ∷ []) (eqb-true byte other is)

-- the first line
first_line : (r : Reader) (seen : List ℕ) → IsReached seen r → seen ≡ [] → r.line ≡ 1
first_line r seen reached none = lines_are_counted seen r reached ∙ ap (line_behind 1) none

no_inside : (below : List Open) → below ≡ [] → is_none below ≡ false → ⊥
no_inside [] e f = absurd cc
no_inside (o ∷ os) e f = absurd cc

pub at_start-goes : (seen : List ℕ) (r : Reader) (byte : ℕ) → IsReached seen r → r.mode ≡ modes.Start → seen ≡ [] → r.declaration ≡ nothing_declared → r.below ≡ [] → Stacked r.top r.below → Goes (seen ++ byte ∷ []) (at_start r byte)
unfolding at_start in_content
at_start-goes seen r byte reached is none declared below s =
    let between : IsBetween seen r.mode r.below = subst (λ (m : Mode). IsBetween seen m r.below) (sym is) none in
    when (Goes (seen ++ byte ∷ [])) (byte == 60) _ _ (λ e. record { stacked = s; here = (begins seen r byte 60 reached between s e, nil_of seen byte 60 none e, first_line r seen reached none, declared) })
    (λ _. when (Goes (seen ++ byte ∷ [])) (byte == 60) _ _ (λ e. record { stacked = s; here = begins seen r byte 60 reached between s e })
    (λ other. when (Goes (seen ++ byte ∷ [])) (is_outside r) _ _ (λ out. outside-goes seen r byte reached between s out other)
    (λ e. absurd (no_inside r.below below e))))

begin_tag-goes : (seen : List ℕ) (r : Reader) (byte : ℕ) → Begun seen r.start r.top r.below (60 ∷ []) → Stacked r.top r.below → (byte == 33) ≡ false → (byte == 63) ≡ false → (byte == 47) ≡ false → Goes (seen ++ byte ∷ []) (begin_tag r byte)
unfolding begin_tag
begin_tag-goes seen r byte b s no_mark no_question no_slash =
    let more = longer seen r.start r.top r.below (60 ∷ []) byte b in
    past (seen ++ byte ∷ []) _ (not (is_name_byte byte)) _
    (λ unnamed. Misplaces.markup r.top r.below (60 ∷ byte ∷ []) more
    (IsBadMarkup.no_markup (open_names r.top r.below) byte (not-true (is_name_byte byte) unnamed) (eqb-false byte 33 no_mark) (eqb-false byte 63 no_question) (eqb-false byte 47 no_slash)))
    (λ named. past (seen ++ byte ∷ []) _ (is_behind_root r) _
    (λ closed. Misplaces.second_root r.top r.below byte more closed (not-false (is_name_byte byte) named) (eqb-false byte 33 no_mark) (eqb-false byte 63 no_question))
    (λ first. record {
      stacked = s;
      here = (more, ((not-false (is_name_byte byte) named, tt), λ none. absurd cc), (eqb-false byte 33 no_mark, eqb-false byte 63 no_question), first);
    }))

pub in_markup-goes : (seen : List ℕ) (r : Reader) (byte : ℕ) → Begun seen r.start r.top r.below (60 ∷ []) → Stacked r.top r.below → Goes (seen ++ byte ∷ []) (in_markup r byte)
unfolding in_markup
in_markup-goes seen r byte b s =
    when (Goes (seen ++ byte ∷ [])) (byte == 33) _ _ (λ e. record { stacked = s; here = longer_by seen r.start r.top r.below (60 ∷ []) byte 33 e b })
    (λ no_mark. when (Goes (seen ++ byte ∷ [])) (byte == 63) _ _ (λ e. record { stacked = s; here = record { inside = []; begun = longer_by seen r.start r.top r.below (60 ∷ []) byte 63 e b; goes = λ more h. h } })
    (λ no_question. when (Goes (seen ++ byte ∷ [])) (byte == 47) _ _
    (λ e. past (seen ++ byte ∷ []) _ (is_outside r) _ (λ out. bad_outside (seen ++ byte ∷ []) r.start r.top r.below (60 ∷ 47 ∷ []) out (longer_by seen r.start r.top r.below (60 ∷ []) byte 47 e b) IsBadMarkup.end_outside) (λ inside. record { stacked = s; here = (longer_by seen r.start r.top r.below (60 ∷ []) byte 47 e b, tt, inside) }))
    (λ no_slash. begin_tag-goes seen r byte b s no_mark no_question no_slash)))

pub in_first_markup-goes : (seen : List ℕ) (r : Reader) (byte : ℕ) → Begun seen r.start r.top r.below (60 ∷ []) → seen ≡ 60 ∷ [] → r.start ≡ 1 → r.declaration ≡ nothing_declared → Stacked r.top r.below → Goes (seen ++ byte ∷ []) (in_first_markup r byte)
unfolding in_first_markup
in_first_markup-goes seen r byte b is first declared s =
    when (Goes (seen ++ byte ∷ [])) (byte == 63) _ _
    (λ e. record {
      stacked = s;
      here = record { inside = []; split = ap (λ (xs : List ℕ). xs ++ byte ∷ []) is ∙ ap (λ n. 60 ∷ n ∷ []) (eqb-true byte 63 e); known_is = declared; first = first; goes = λ more h. h };
    })
    (λ _. in_markup-goes seen r byte b s)

pub in_exclamation-goes : (seen : List ℕ) (r : Reader) (byte : ℕ) → Begun seen r.start r.top r.below (60 ∷ 33 ∷ []) → Stacked r.top r.below → Goes (seen ++ byte ∷ []) (in_exclamation r byte)
unfolding in_exclamation
in_exclamation-goes seen r byte b s =
    when (Goes (seen ++ byte ∷ [])) (byte == 45) _ _ (λ e. record { stacked = s; here = (longer_by seen r.start r.top r.below (60 ∷ 33 ∷ []) byte 45 e b, omega arith, omega arith) })
    (λ no_dash. when (Goes (seen ++ byte ∷ [])) (byte == 91) _ _ (λ e. record { stacked = s; here = (longer_by seen r.start r.top r.below (60 ∷ 33 ∷ []) byte 91 e b, omega arith, omega arith) })
    (λ no_bracket. when (Goes (seen ++ byte ∷ [])) (byte == 68) _ _ (λ e. record { stacked = s; here = (longer_by seen r.start r.top r.below (60 ∷ 33 ∷ []) byte 68 e b, omega arith, omega arith) })
    (λ no_letter. Misplaces.markup r.top r.below (60 ∷ 33 ∷ byte ∷ []) (longer seen r.start r.top r.below (60 ∷ 33 ∷ []) byte b)
    (IsBadMarkup.no_opening (open_names r.top r.below) byte (eqb-false byte 45 no_dash) (eqb-false byte 91 no_bracket) (eqb-false byte 68 no_letter)))))

begin-goes : (opening : Opening) (seen : List ℕ) (r : Reader) → Begun seen r.start r.top r.below (60 ∷ 33 ∷ opening_text opening) → Stacked r.top r.below → Goes seen (begin opening r)
unfolding begin
begin-goes openings.Comment seen r b s = record { stacked = s; here = record { top = r.top; inside = []; begun = b; goes = λ more h. h } }
begin-goes openings.Section seen r b s = past seen _ (is_outside r) _ (λ out. bad_outside seen r.start r.top r.below _ out b IsBadMarkup.section_outside) (λ inside. record { stacked = s; here = (record { top = r.top; inside = []; begun = b; goes = λ more h. h }, inside) })
begin-goes openings.Doctype seen r b s = (r.top, r.below, b)

-- one more byte of what stands behind `<!`
opened_more : (opening : Opening) (count : ℕ) (seen : List ℕ) (line : ℕ) (top : Open) (below : List Open) (byte : ℕ) → is_byte_at (opening_text opening) count byte ≡ true
    → Begun seen line top below (60 ∷ 33 ∷ take count (opening_text opening)) → Begun (seen ++ byte ∷ []) line top below (60 ∷ 33 ∷ take (count + 1) (opening_text opening))
opened_more opening count seen line top below byte is b =
    let next : suc count ≡ count + 1 = omega arith in
    subst (λ (xs : List ℕ). Begun (seen ++ byte ∷ []) line top below (60 ∷ 33 ∷ xs)) (sym (take_one (opening_text opening) count byte is) ∙ ap (λ n. take n (opening_text opening)) next)
    (longer seen line top below (60 ∷ 33 ∷ take count (opening_text opening)) byte b)

-- the byte that stands there is another one
other_there : (text : List ℕ) (count byte : ℕ) → count < length text → is_byte_at text count byte ≡ false → (there : ℕ) × (more : List ℕ) × (text ≡ take count text ++ there ∷ more) × ¬ (byte ≡ there)
other_there [] count byte within e = absurd (omega arith)
other_there (x ∷ text) zero byte within e = (x, text, refl, λ same. eqb-false x byte e (sym same))
other_there (x ∷ text) (suc count) byte within e =
    let t = other_there text count byte (omega arith) e in
    (t.0, t.1, ap (λ (xs : List ℕ). x ∷ xs) t.2, t.3)

some_taken : (text : List ℕ) (count : ℕ) → 0 < count → count < length text → ¬ (take count text ≡ [])
some_taken [] count some within = λ e. absurd (omega arith)
some_taken (x ∷ text) zero some within = λ e. absurd (omega arith)
some_taken (x ∷ text) (suc count) some within = λ e. absurd cc

pub in_beginning-goes : (opening : Opening) (count : ℕ) (seen : List ℕ) (r : Reader) (byte : ℕ) → Begun seen r.start r.top r.below (60 ∷ 33 ∷ take count (opening_text opening)) → 0 < count → count < length (opening_text opening) → Stacked r.top r.below → Goes (seen ++ byte ∷ []) (in_beginning opening count r byte)
unfolding in_beginning
in_beginning-goes opening count seen r byte b some within s =
    past (seen ++ byte ∷ []) _ (not (is_byte_at (opening_text opening) count byte)) _
    (λ other.
    let t = other_there (opening_text opening) count byte within (not-true (is_byte_at (opening_text opening) count byte) other) in
    Misplaces.markup r.top r.below (60 ∷ 33 ∷ take count (opening_text opening) ++ byte ∷ []) (longer seen r.start r.top r.below (60 ∷ 33 ∷ take count (opening_text opening)) byte b)
    (IsBadMarkup.other_opening (open_names r.top r.below) opening (take count (opening_text opening)) t.1 t.0 byte t.2 (some_taken (opening_text opening) count some within) t.3))
    (λ is.
    let more = opened_more opening count seen r.start r.top r.below byte (not-false (is_byte_at (opening_text opening) count byte) is) b in
    when (Goes (seen ++ byte ∷ [])) (nat_lt (count + 1) (length (opening_text opening))) _ _
    (λ goes. record { stacked = s; here = (more, omega arith, ltb-true (count + 1) (length (opening_text opening)) goes) })
    (λ ends. begin-goes opening (seen ++ byte ∷ []) r
    (subst (λ (xs : List ℕ). Begun (seen ++ byte ∷ []) r.start r.top r.below (60 ∷ 33 ∷ xs)) (take_all (count + 1) (opening_text opening) (ltb-false (count + 1) (length (opening_text opening)) ends)) more) s))

-- ---- comments, sections and instructions

ended_low : (before : Seen) (byte : ℕ) → is_ended_by before byte ≡ true → byte < 128
ended_low marks.Nothing byte e = absurd cc
ended_low marks.One byte e = absurd cc
ended_low marks.Two byte e = subst (λ n. n < 128) (sym (eqb-true byte 62 e)) (omega arith)

-- a byte that does not end it
mark_more : (lead : List ℕ) (mark : ℕ) (before : Seen) (seen : List ℕ) (start : ℕ) (below : List Open) (byte : ℕ) → is_ended_by before byte ≡ false → UpToMark lead mark before seen start below → UpToMark lead mark (seen_after before mark byte) (seen ++ byte ∷ []) start below
mark_more lead mark before seen start below byte goes u = record {
  top = u.top;
  inside = u.inside ++ byte ∷ [];
  begun = subst (Begun (seen ++ byte ∷ []) start u.top below) (append_assoc lead u.inside (byte ∷ [])) (longer seen start u.top below (lead ++ u.inside) byte u.begun);
  goes = λ more h. subst (Ends mark marks.Nothing) (sym (append_assoc u.inside (byte ∷ []) more)) (u.goes (byte ∷ more) (Ends.more before byte more goes h));
}

pub in_comment-goes : (before : Seen) (seen : List ℕ) (r : Reader) (byte : ℕ) → UpToMark (60 ∷ 33 ∷ opening_text openings.Comment) 45 before seen r.start r.below → Stacked r.top r.below → Holds (seen ++ byte ∷ []) (in_comment before r byte)
unfolding in_comment
in_comment-goes before seen r byte u s =
    when (Holds (seen ++ byte ∷ [])) (is_ended_by before byte) _ _ (λ ends. content seen r byte (ended_low before byte ends) s)
    (λ goes. record { stacked = s; here = mark_more (60 ∷ 33 ∷ opening_text openings.Comment) 45 before seen r.start r.below byte goes u })

without_brackets-stacked : (r : Reader) → Stacked r.top r.below → Stacked (without_brackets r).top (without_brackets r).below
unfolding without_brackets
without_brackets-stacked r s = when (λ (x : Reader). Stacked x.top x.below) r.top.kept _ _ (λ _. s) (λ _. s)

section_stays : (seen : List ℕ) (r : Reader) (bytes : List ℕ) (next : Seen) → UpToMark (60 ∷ 33 ∷ opening_text openings.Section) 93 next seen r.start r.below → is_none r.below ≡ false → Stacked r.top r.below → Holds seen (record (add_text r bytes) { mode = modes.Section next })
unfolding add_text
section_stays seen r bytes next u inside s =
    when (λ (x : Reader). Holds seen (record x { mode = modes.Section next })) r.top.kept _ _ (λ _. record { stacked = s; here = (u, inside) }) (λ _. record { stacked = s; here = (u, inside) })

pub in_section-goes : (before : Seen) (seen : List ℕ) (r : Reader) (byte : ℕ) → UpToMark (60 ∷ 33 ∷ opening_text openings.Section) 93 before seen r.start r.below → is_none r.below ≡ false → Stacked r.top r.below → Goes (seen ++ byte ∷ []) (in_section before r byte)
unfolding in_section
in_section-goes before seen r byte u inside s =
    when (Goes (seen ++ byte ∷ [])) (is_ended_by before byte) _ _ (λ ends. content seen (without_brackets r) byte (ended_low before byte ends) (without_brackets-stacked r s))
    (λ goes. section_stays (seen ++ byte ∷ []) r (byte ∷ []) (seen_after before 93 byte) (mark_more (60 ∷ 33 ∷ opening_text openings.Section) 93 before seen r.start r.below byte goes u) inside s)

question_low : (question : Bool) (byte : ℕ) → (question && byte == 62) ≡ true → byte < 128
question_low true byte e = subst (λ n. n < 128) (sym (eqb-true byte 62 e)) (omega arith)
question_low false byte e = absurd cc

pub in_instruction-goes : (question : Bool) (seen : List ℕ) (r : Reader) (byte : ℕ) → UpToQuestion question seen r.start r.top r.below → Stacked r.top r.below → Holds (seen ++ byte ∷ []) (in_instruction question r byte)
unfolding in_instruction
in_instruction-goes question seen r byte u s =
    when (Holds (seen ++ byte ∷ [])) (question && byte == 62) _ _ (λ ends. content seen r byte (question_low question byte ends) s)
    (λ goes. record {
      stacked = s;
      here = record {
        inside = u.inside ++ byte ∷ [];
        begun = longer seen r.start r.top r.below (60 ∷ 63 ∷ u.inside) byte u.begun;
        goes = λ more h. subst (EndsQuestion false) (sym (append_assoc u.inside (byte ∷ []) more)) (u.goes (byte ∷ more) (EndsQuestion.more question byte more goes h));
      };
    })

instructed_more : (question : Bool) (seen : List ℕ) (start : ℕ) (declaration : Declaration) (byte : ℕ) → (question && byte == 62) ≡ false → Instructed seen start question declaration → Instructed (seen ++ byte ∷ []) start (byte == 63) (after declaration byte)
instructed_more question seen start declaration byte goes i = record {
  inside = i.inside ++ byte ∷ [];
  split = ap (λ (xs : List ℕ). xs ++ byte ∷ []) i.split;
  known_is = ap (λ (d : Declaration). after d byte) i.known_is ∙ sym (known_append nothing_declared i.inside (byte ∷ []));
  first = i.first;
  goes = λ more h. subst (EndsQuestion false) (sym (append_assoc i.inside (byte ∷ []) more)) (i.goes (byte ∷ more) (EndsQuestion.more question byte more goes h));
}

pub in_first_instruction-goes : (question : Bool) (seen : List ℕ) (r : Reader) (byte : ℕ) → Instructed seen r.start question r.declaration → Stacked r.top r.below → Goes (seen ++ byte ∷ []) (in_first_instruction question r byte)
unfolding in_first_instruction end_first_instruction
in_first_instruction-goes question seen r byte i s =
    when (Goes (seen ++ byte ∷ [])) (question && byte == 62) _ _
    (λ ends. past (seen ++ byte ∷ []) _ (is_foreign r.declaration) _ (λ foreign. encodes ends foreign) (λ _. content seen r byte (question_low question byte ends) s))
    (λ goes. record { stacked = s; here = instructed_more question seen r.start r.declaration byte goes i })
  where
    ended : (q : Bool) → (q && byte == 62) ≡ true → byte ≡ 62
    ended true e = eqb-true byte 62 e
    ended false e = absurd cc

    encodes : (question && byte == 62) ≡ true → is_foreign r.declaration ≡ true → Encodes (seen ++ byte ∷ []) r.start
    encodes ends foreign = record {
      inside = i.inside;
      split = ap (λ (xs : List ℕ). xs ++ byte ∷ []) i.split ∙ ap (λ n. 60 ∷ 63 ∷ i.inside ++ n ∷ []) (ended question ends);
      ends = subst (λ n. EndsQuestion false (i.inside ++ n ∷ [])) (ended question ends) (i.goes (byte ∷ []) (EndsQuestion.last question byte ends));
      foreign = ap is_foreign (sym i.known_is) ∙ foreign;
      first = i.first;
    }
