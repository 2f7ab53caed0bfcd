-- What is gathered from a text of UTF-8 is UTF-8.
use Rattle.std.proofs.Common.{◌≡◌, ℕ, zero, suc, ◌+◌, ◌-◌, ◌<◌, Bool, true, false, not, List, [], ◌∷◌, ◌++◌, append_assoc, append-nil, length, length-append, take, drop, get_or, Option, Some, None, Result, Ok, refl, sym, ap, subst, ◌∙◌, arith, inl, inr}
use Rattle.std.specs.Prelude.{IfOk, IfSome, if◌then◌else◌, ◌==◌, ◌&&◌, ◌||◌, nat_le, nat_lt}
use Rattle.std.specs.Char.{encode_utf8, IsScalar}
use Rattle.std.specs.List.{AllByRecursion, list_any}
use Rattle.std.specs.Str.{IsUtf8, bytes_eq}
use Rattle.std.proofs.Math.Seq.{take-append_seam, get_or-append_seam}
use Rattle.std.proofs.lemmas.Bool.{cases_Bool, eqb-true, not-false}
use Rattle.std.proofs.lemmas.Str.{IsUtf8-take, IsUtf8-drop, IsUtf8-append, IsUtf8-nil, IsUtf8-encode, IsCharBoundary-before_ascii, IsCharBoundary-after_ascii}
use Rattle.ror_text.specs.Reading.{◌>>=◌, refuse, need, read_all}
use Rattle.ror_text.proofs.ReadingLemmas.{keeps}
use Rattle.ror_elements.specs.declared.element.ElementFault.{ElementFault}
use Rattle.ror_elements.specs.declared.mode.Home.{Home}
use Rattle.ror_elements.specs.declared.mode.Home.TheVariants as homes
use Rattle.ror_elements.specs.declared.mode.Mode.{Mode}
use Rattle.ror_elements.specs.declared.mode.Mode.TheVariants as modes
use Rattle.ror_elements.specs.declared.mode.Opening.{Opening}
use Rattle.ror_elements.specs.declared.mode.Opening.TheVariants as openings
use Rattle.ror_elements.specs.declared.mode.Quote.{Quote}
use Rattle.ror_elements.specs.declared.mode.Quote.TheVariants as quotes
use Rattle.ror_elements.specs.declared.mode.Seen.{Seen}
use Rattle.ror_elements.specs.declared.mode.Seen.TheVariants as seen
use Rattle.ror_elements.specs.declared.open.Open.{Open}
use Rattle.ror_elements.specs.declared.reader.Reader.{Reader}
use Rattle.ror_elements.specs.declared.reader.Tag.{Tag}
use Rattle.ror_elements.specs.Elements.{act_in, act, read}
use Rattle.ror_elements.specs.Mode.{is_ended_by, one_more, seen_after, opening_text, quote_of, quote_byte, is_byte_at}
use Rattle.ror_elements.specs.Marks.{is_white, is_mark, is_name_byte, is_control}
use Rattle.ror_elements.specs.Open.{is_none}
use Rattle.ror_elements.specs.References.{entity, number_of, character_at, chosen, character_of}
use Rattle.ror_elements.specs.Reader.{nothing_read, is_outside, is_behind_root, add_text, add_value, outside, at_start, in_content, begin_tag, in_first_markup, in_markup, in_exclamation, begin, in_beginning, in_comment, without_brackets, in_section, in_first_instruction, end_first_instruction, in_instruction, end_reference, in_reference}
use Rattle.ror_elements.specs.Declarations.{is_foreign}
use Rattle.ror_elements.specs.Tags.{is_bad_root, opened, open_element, close_in, close, after_end_name, in_end_name, begin_attribute, in_tag, in_start_name, in_empty_tag, add_name, after_attribute_name, in_attribute_name, quoted, before_value, end_value, add_byte, in_value}

-- ---- tests

when : {A : Type 0} (P : A → Type 0) (test : Bool) (x y : A) → (test ≡ true → P x) → (test ≡ false → P y) → P (if test then x else y)
when P true x y f g = f refl
when P false x y f g = g refl

either : {X : Type 0} (s t : Bool) → (s || t) ≡ true → (s ≡ true → X) → (t ≡ true → X) → X
either true t e f g = f refl
either false t e f g = g e

both : (s t : Bool) → (s && t) ≡ true → (s ≡ true) × (t ≡ true)
both true t e = (refl, e)
both false t e = absurd cc

-- ---- ASCII bytes

low_is : (b n : ℕ) → (b == n) ≡ true → n < 128 → b < 128
low_is b n e low = omega (arith, eqb-true b n e)

pub white_low : (b : ℕ) → is_white b ≡ true → b < 128
white_low b e =
    either (b == 32 || b == 9 || b == 10) (b == 13) e
    (λ e. either (b == 32 || b == 9) (b == 10) e
    (λ e. either (b == 32) (b == 9) e (λ e. low_is b 32 e (omega arith)) (λ e. low_is b 9 e (omega arith)))
    (λ e. low_is b 10 e (omega arith)))
    (λ e. low_is b 13 e (omega arith))

mark_low : (b : ℕ) → is_mark b ≡ true → b < 128
mark_low b e =
    either (b == 60 || b == 62 || b == 47 || b == 61 || b == 38 || b == 34) (b == 39) e
    (λ e. either (b == 60 || b == 62 || b == 47 || b == 61 || b == 38) (b == 34) e
    (λ e. either (b == 60 || b == 62 || b == 47 || b == 61) (b == 38) e
    (λ e. either (b == 60 || b == 62 || b == 47) (b == 61) e
    (λ e. either (b == 60 || b == 62) (b == 47) e
    (λ e. either (b == 60) (b == 62) e (λ e. low_is b 60 e (omega arith)) (λ e. low_is b 62 e (omega arith)))
    (λ e. low_is b 47 e (omega arith)))
    (λ e. low_is b 61 e (omega arith)))
    (λ e. low_is b 38 e (omega arith)))
    (λ e. low_is b 34 e (omega arith)))
    (λ e. low_is b 39 e (omega arith))

-- what ends a name is ASCII
end_low : (b : ℕ) → is_name_byte b ≡ false → b < 128
end_low b e = elim (cases_Bool (is_white b)) [
  | inl white ↦ white_low b white
  | inr dark ↦ mark_low b (not-false (is_mark b) (rw dark at e))
]

quote_low : (q : Quote) → quote_byte q < 128
quote_low quotes.Single = omega arith
quote_low quotes.Double = omega arith

opened_low : (s : Seen) (b : ℕ) → is_ended_by s b ≡ true → b < 128
opened_low seen.Nothing b e = absurd cc
opened_low seen.One b e = absurd cc
opened_low seen.Two b e = low_is b 62 e (omega arith)

all_low : (text : List ℕ) (place b : ℕ) → AllByRecursion (λ x. x < 128) text → is_byte_at text place b ≡ true → b < 128
all_low [] place b low e = absurd cc
all_low (x ∷ xs) zero b low e = let same : x ≡ b = eqb-true x b e in omega arith
all_low (x ∷ xs) (suc place) b low e = all_low xs place b low.1 e

opening_low : (o : Opening) → AllByRecursion (λ x. x < 128) (opening_text o)
opening_low openings.Comment = (omega arith, (omega arith, tt))
opening_low openings.Section = (omega arith, (omega arith, (omega arith, (omega arith, (omega arith, (omega arith, (omega arith, tt)))))))
opening_low openings.Doctype = (omega arith, (omega arith, (omega arith, (omega arith, (omega arith, (omega arith, (omega arith, tt)))))))

-- ---- texts that are cut at ASCII bytes

within : (t rest : List ℕ) (b : ℕ) → length t < length (t ++ b ∷ rest)
within t rest b = omega (arith, length-append t (b ∷ rest))

at_low : (t rest : List ℕ) (b : ℕ) → b < 128 → get_or (t ++ b ∷ rest) (length t) 0 < 128
at_low t rest b low = omega (arith, get_or-append_seam t b rest 0)

pub cut_front : (t rest : List ℕ) (b : ℕ) → b < 128 → IsUtf8 (t ++ b ∷ rest) → IsUtf8 t
cut_front t rest b low u =
    subst (λ (xs : List ℕ). IsUtf8 xs) (take-append_seam t (b ∷ rest)) (IsUtf8-take (t ++ b ∷ rest) (length t) u (IsCharBoundary-before_ascii (t ++ b ∷ rest) (length t) (within t rest b) (at_low t rest b low)))

drop_past : (t rest : List ℕ) (b : ℕ) → drop (length t + 1) (t ++ b ∷ rest) ≡ rest
drop_past [] rest b = refl
drop_past (x ∷ xs) rest b = let e : suc (length xs) + 1 ≡ suc (length xs + 1) = omega arith in rw e (drop_past xs rest b)

pub cut_rest : (t rest : List ℕ) (b : ℕ) → b < 128 → IsUtf8 (t ++ b ∷ rest) → IsUtf8 rest
cut_rest t rest b low u =
    subst (λ (xs : List ℕ). IsUtf8 xs) (drop_past t rest b) (IsUtf8-drop (t ++ b ∷ rest) (length t + 1) u (IsCharBoundary-after_ascii (t ++ b ∷ rest) (length t) u (within t rest b) (at_low t rest b low)))

-- ---- bytes behind which a text goes on as behind others

-- what makes the one whole makes the other whole
pub record Follows (p t : List ℕ) : Type 0 where
  pub goes_on : (rest : List ℕ) → IsUtf8 (p ++ rest) → IsUtf8 (t ++ rest)

one_more_byte : (p t : List ℕ) (b : ℕ) → Follows p t → Follows (p ++ b ∷ []) (t ++ b ∷ [])
one_more_byte p t b h = record { goes_on = λ rest u. subst (λ (xs : List ℕ). IsUtf8 xs) (sym (append_assoc t (b ∷ []) rest)) (h.goes_on (b ∷ rest) (subst (λ (xs : List ℕ). IsUtf8 xs) (append_assoc p (b ∷ []) rest) u)) }

-- before an ASCII byte it is whole
stop : (p t rest : List ℕ) (b : ℕ) → b < 128 → IsUtf8 (p ++ b ∷ rest) → Follows p t → IsUtf8 t
stop p t rest b low u h = cut_front t rest b low (h.goes_on (b ∷ rest) u)

-- and behind one what is whole goes on
resume : (p t : List ℕ) (b : ℕ) → b < 128 → IsUtf8 t → Follows (p ++ b ∷ []) t
resume p t b low ut = record { goes_on = λ rest u. IsUtf8-append t rest ut (cut_rest p rest b low (subst (λ (xs : List ℕ). IsUtf8 xs) (append_assoc p (b ∷ []) rest) u)) }

-- ---- what is gathered

abbrev pub TextFollows : List ℕ → Open → Type 0
TextFollows p o = o.kept ≡ true → Follows p o.text

abbrev pub TextIs : Open → Type 0
TextIs o = o.kept ≡ true → IsUtf8 o.text

pub record IsNamed (o : Open) : Type 0 where
  pub name : o.kept ≡ true → IsUtf8 o.name
  pub id : o.kept ≡ true → IfSome o.id IsUtf8

abbrev pub AllWhole : List Open → Type 0
AllWhole [] = Unit {0}
AllWhole (o ∷ os) = (IsNamed o × TextIs o) × AllWhole os

pub record InTag (top : Open) (tag : Tag) : Type 0 where
  pub text : TextIs top
  pub name : IsUtf8 tag.name
  pub id : IfSome tag.id IsUtf8

-- the brackets that were seen last stand at the end
abbrev EndsIn : Seen → List ℕ → Type 0
EndsIn seen.Nothing text = Unit {0}
EndsIn seen.One text = (front : List ℕ) × (text ≡ front ++ 93 ∷ [])
EndsIn seen.Two text = (front : List ℕ) × (text ≡ front ++ 93 ∷ 93 ∷ [])

-- what holds in a mode, of the innermost open element, of the tag and of the name in progress
abbrev pub AtMode : List ℕ → Mode → Open → Tag → List ℕ → Type 0
AtMode p modes.Start top tag piece = TextFollows p top
AtMode p modes.Content top tag piece = TextFollows p top
AtMode p modes.FirstMarkup top tag piece = TextIs top × Follows p []
AtMode p modes.Markup top tag piece = TextIs top × Follows p []
AtMode p (modes.Section before) top tag piece = TextFollows p top × (top.kept ≡ true → EndsIn before top.text)
AtMode p modes.StartName top tag piece = TextIs top × Follows p piece
AtMode p (modes.Tag spaced) top tag piece = InTag top tag
AtMode p modes.EmptyTag top tag piece = InTag top tag
AtMode p modes.AttributeName top tag piece = InTag top tag
AtMode p modes.AfterAttributeName top tag piece = InTag top tag × IsUtf8 tag.value
AtMode p modes.BeforeValue top tag piece = InTag top tag × IsUtf8 tag.value
AtMode p (modes.Value quote) top tag piece = InTag top tag × (tag.is_id ≡ true → Follows p tag.value)
AtMode p (modes.Reference (homes.Value quote)) top tag piece = InTag top tag × (tag.is_id ≡ true → IsUtf8 tag.value)
AtMode p _ top tag piece = TextIs top

pub record IsGathered (p : List ℕ) (r : Reader) : Type 0 where
  pub top : IsNamed r.top
  pub below : AllWhole r.below
  pub here : AtMode p r.mode r.top r.tag r.piece

abbrev Gathers : List ℕ → Result Reader ElementFault → Type 0
Gathers p result = IfOk result (IsGathered p)

past : (p : List ℕ) (fault : ElementFault) (test : Bool) (rest : Result Reader ElementFault) → (test ≡ false → Gathers p rest) → Gathers p (refuse fault test >>= λ _. rest)
past p fault true rest f = tt
past p fault false rest f = f refl

past_into : (p : List ℕ) (fault : ElementFault) (test : Bool) (x : Reader) (rest : Reader → Result Reader ElementFault) → (test ≡ false → Gathers p (rest x)) → Gathers p ((refuse fault test >>= λ _. Ok x) >>= rest)
past_into p fault true x rest f = tt
past_into p fault false x rest f = f refl

-- ---- text

add_text-mode : (r : Reader) (bytes : List ℕ) → (add_text r bytes).mode ≡ r.mode
unfolding add_text
add_text-mode r bytes = when (λ (s : Reader). s.mode ≡ r.mode) r.top.kept _ _ (λ _. refl) (λ _. refl)

add_text-named : (r : Reader) (bytes : List ℕ) → IsNamed r.top → IsNamed (add_text r bytes).top
unfolding add_text
add_text-named r bytes n = when (λ (s : Reader). IsNamed s.top) r.top.kept _ _ (λ _. record { name = n.name; id = n.id }) (λ _. n)

add_text-below : (r : Reader) (bytes : List ℕ) → AllWhole r.below → AllWhole (add_text r bytes).below
unfolding add_text
add_text-below r bytes w = when (λ (s : Reader). AllWhole s.below) r.top.kept _ _ (λ _. w) (λ _. w)

add_text-ends : (P : List ℕ → Type 0) (r : Reader) (bytes : List ℕ) → (r.top.kept ≡ true → P (r.top.text ++ bytes)) → (add_text r bytes).top.kept ≡ true → P (add_text r bytes).top.text
unfolding add_text
add_text-ends P r bytes f = when (λ (s : Reader). s.top.kept ≡ true → P s.top.text) r.top.kept _ _ (λ e _. f e) (λ e k. absurd cc)

outside-kept : (p rest : List ℕ) (r : Reader) (byte : ℕ) → IsUtf8 (p ++ byte ∷ rest) → IsGathered p r → TextFollows p r.top → Gathers (p ++ byte ∷ []) (outside r byte)
unfolding outside
outside-kept p rest r byte u s h = past _ _ (not (is_white byte)) _ (λ e.
    let low = white_low byte (not-false (is_white byte) e) in
    record { top = s.top; below = s.below; here = λ k. resume p r.top.text byte low (stop p r.top.text rest byte low u (h k)) })

in_content-kept : (p rest : List ℕ) (r : Reader) (byte : ℕ) → IsUtf8 (p ++ byte ∷ rest) → IsGathered p r → TextFollows p r.top
    → ((top : Open) (tag : Tag) (piece : List ℕ) → TextFollows (p ++ byte ∷ []) top → AtMode (p ++ byte ∷ []) r.mode top tag piece) → Gathers (p ++ byte ∷ []) (in_content r byte)
unfolding in_content
in_content-kept p rest r byte u s h stay =
    let q = p ++ byte ∷ [] in
    when (Gathers q) (byte == 60) _ _ (λ e.
    let low = low_is byte 60 e (omega arith) in
    record { top = s.top; below = s.below; here = (λ k. stop p r.top.text rest byte low u (h k), resume p [] byte low IsUtf8-nil) })
    (λ _. when (Gathers q) (is_outside r) _ _ (λ _. outside-kept p rest r byte u s h)
    (λ _. when (Gathers q) (byte == 38) _ _ (λ e. record { top = s.top; below = s.below; here = λ k. stop p r.top.text rest byte (low_is byte 38 e (omega arith)) u (h k) })
    (λ _. record {
      top = add_text-named r (byte ∷ []) s.top;
      below = add_text-below r (byte ∷ []) s.below;
      here = subst (λ m. AtMode q m (add_text r (byte ∷ [])).top (add_text r (byte ∷ [])).tag (add_text r (byte ∷ [])).piece) (sym (add_text-mode r (byte ∷ [])))
          (stay _ _ _ (add_text-ends (λ t. Follows q t) r (byte ∷ []) (λ k. one_more_byte p r.top.text byte (h k))));
    })))

at_start-kept : (p rest : List ℕ) (r : Reader) (byte : ℕ) → IsUtf8 (p ++ byte ∷ rest) → IsGathered p r → TextFollows p r.top
    → ((top : Open) (tag : Tag) (piece : List ℕ) → TextFollows (p ++ byte ∷ []) top → AtMode (p ++ byte ∷ []) r.mode top tag piece) → Gathers (p ++ byte ∷ []) (at_start r byte)
unfolding at_start
at_start-kept p rest r byte u s h stay =
    when (Gathers (p ++ byte ∷ [])) (byte == 60) _ _ (λ e.
    let low = low_is byte 60 e (omega arith) in
    record { top = s.top; below = s.below; here = (λ k. stop p r.top.text rest byte low u (h k), resume p [] byte low IsUtf8-nil) })
    (λ _. in_content-kept p rest r byte u s h stay)

-- ---- behind `<`

begin_tag-kept : (p : List ℕ) (r : Reader) (byte : ℕ) → IsGathered p r → TextIs r.top → Follows p [] → Gathers (p ++ byte ∷ []) (begin_tag r byte)
unfolding begin_tag
begin_tag-kept p r byte s h clean = past _ _ (not (is_name_byte byte)) _ (λ _. past _ _ (is_behind_root r) _ (λ _. record { top = s.top; below = s.below; here = (h, one_more_byte p [] byte clean) }))

in_markup-kept : (p : List ℕ) (r : Reader) (byte : ℕ) → IsGathered p r → TextIs r.top → Follows p [] → Gathers (p ++ byte ∷ []) (in_markup r byte)
unfolding in_markup
in_markup-kept p r byte s h clean =
    let q = p ++ byte ∷ [] in
    when (Gathers q) (byte == 33) _ _ (λ _. record { top = s.top; below = s.below; here = h })
    (λ _. when (Gathers q) (byte == 63) _ _ (λ _. record { top = s.top; below = s.below; here = h })
    (λ _. when (Gathers q) (byte == 47) _ _ (λ _. past _ _ (is_outside r) _ (λ _. record { top = s.top; below = s.below; here = h }))
    (λ _. begin_tag-kept p r byte s h clean)))

in_first_markup-kept : (p : List ℕ) (r : Reader) (byte : ℕ) → IsGathered p r → TextIs r.top → Follows p [] → Gathers (p ++ byte ∷ []) (in_first_markup r byte)
unfolding in_first_markup
in_first_markup-kept p r byte s h clean =
    when (Gathers (p ++ byte ∷ [])) (byte == 63) _ _ (λ _. record { top = s.top; below = s.below; here = h }) (λ _. in_markup-kept p r byte s h clean)

in_exclamation-kept : (q : List ℕ) (r : Reader) (byte : ℕ) (top : IsNamed r.top) (below : AllWhole r.below) → TextIs r.top → Gathers q (in_exclamation r byte)
unfolding in_exclamation
in_exclamation-kept q r byte top below h =
    when (Gathers q) (byte == 45) _ _ (λ _. record { top = top; below = below; here = h })
    (λ _. when (Gathers q) (byte == 91) _ _ (λ _. record { top = top; below = below; here = h })
    (λ _. when (Gathers q) (byte == 68) _ _ (λ _. record { top = top; below = below; here = h }) (λ _. tt)))

begin-kept : (p : List ℕ) (opening : Opening) (r : Reader) (byte : ℕ) → byte < 128 → IsGathered p r → TextIs r.top → Gathers (p ++ byte ∷ []) (begin opening r)
unfolding begin
begin-kept p openings.Comment r byte low s h = record { top = s.top; below = s.below; here = h }
begin-kept p openings.Section r byte low s h = past _ _ (is_outside r) _ (λ _. record { top = s.top; below = s.below; here = (λ k. resume p r.top.text byte low (h k), λ k. tt) })
begin-kept p openings.Doctype r byte low s h = tt

in_beginning-kept : (p : List ℕ) (opening : Opening) (count : ℕ) (r : Reader) (byte : ℕ) → IsGathered p r → TextIs r.top → Gathers (p ++ byte ∷ []) (in_beginning opening count r byte)
unfolding in_beginning
in_beginning-kept p opening count r byte s h = past _ _ (not (is_byte_at (opening_text opening) count byte)) _ (λ e.
    let low = all_low (opening_text opening) count byte (opening_low opening) (not-false (is_byte_at (opening_text opening) count byte) e) in
    when (Gathers (p ++ byte ∷ [])) (nat_lt (count + 1) (length (opening_text opening))) _ _ (λ _. record { top = s.top; below = s.below; here = h }) (λ _. begin-kept p opening r byte low s h))

in_comment-kept : (p : List ℕ) (before : Seen) (r : Reader) (byte : ℕ) → IsGathered p r → TextIs r.top → IsGathered (p ++ byte ∷ []) (in_comment before r byte)
unfolding in_comment
in_comment-kept p before r byte s h =
    when (IsGathered (p ++ byte ∷ [])) (is_ended_by before byte) _ _ (λ e. record { top = s.top; below = s.below; here = λ k. resume p r.top.text byte (opened_low before byte e) (h k) })
    (λ _. record { top = s.top; below = s.below; here = h })

-- ---- sections

two_seen : (before : Seen) (byte : ℕ) (text : List ℕ) → is_ended_by before byte ≡ true → EndsIn before text → (front : List ℕ) × (text ≡ front ++ 93 ∷ 93 ∷ [])
two_seen seen.Nothing byte text e h = absurd cc
two_seen seen.One byte text e h = absurd cc
two_seen seen.Two byte text e h = h

without_two : (text front : List ℕ) → text ≡ front ++ 93 ∷ 93 ∷ [] → take (length text - 2) text ≡ front
without_two text front e =
    let short : length text - 2 ≡ length front = omega (arith, ap length e, length-append front (93 ∷ 93 ∷ [])) in
    ap (λ n. take n text) short ∙ ap (take (length front)) e ∙ take-append_seam front (93 ∷ 93 ∷ [])

seen_more : (before : Seen) (text : List ℕ) → EndsIn before text → EndsIn (one_more before) (text ++ 93 ∷ [])
seen_more seen.Nothing text h = (text, refl)
seen_more seen.One text h = (h.0, ap (λ (t : List ℕ). t ++ 93 ∷ []) h.1 ∙ append_assoc h.0 (93 ∷ []) (93 ∷ []))
seen_more seen.Two text h = (h.0 ++ 93 ∷ [], ap (λ (t : List ℕ). t ++ 93 ∷ []) h.1 ∙ append_assoc h.0 (93 ∷ 93 ∷ []) (93 ∷ []) ∙ sym (append_assoc h.0 (93 ∷ []) (93 ∷ 93 ∷ [])))

next_seen : (before : Seen) (text : List ℕ) (byte : ℕ) → EndsIn before text → EndsIn (seen_after before 93 byte) (text ++ byte ∷ [])
next_seen before text byte h = when (λ s. EndsIn s (text ++ byte ∷ [])) (byte == 93) _ _ (λ e. subst (λ n. EndsIn (one_more before) (text ++ n ∷ [])) (sym (eqb-true byte 93 e)) (seen_more before text h)) (λ _. tt)

without_brackets-named : (r : Reader) → IsNamed r.top → IsNamed (without_brackets r).top
unfolding without_brackets
without_brackets-named r n = when (λ (s : Reader). IsNamed s.top) r.top.kept _ _ (λ _. record { name = n.name; id = n.id }) (λ _. n)

without_brackets-below : (r : Reader) → AllWhole r.below → AllWhole (without_brackets r).below
unfolding without_brackets
without_brackets-below r w = when (λ (s : Reader). AllWhole s.below) r.top.kept _ _ (λ _. w) (λ _. w)

without_brackets-text : (P : List ℕ → Type 0) (r : Reader) → (r.top.kept ≡ true → P (take (length r.top.text - 2) r.top.text)) → (without_brackets r).top.kept ≡ true → P (without_brackets r).top.text
unfolding without_brackets
without_brackets-text P r f = when (λ (s : Reader). s.top.kept ≡ true → P s.top.text) r.top.kept _ _ (λ e _. f e) (λ e k. absurd cc)

ended_section : (p rest : List ℕ) (before : Seen) (text : List ℕ) (byte : ℕ) → is_ended_by before byte ≡ true → IsUtf8 (p ++ byte ∷ rest) → Follows p text → EndsIn before text → Follows (p ++ byte ∷ []) (take (length text - 2) text)
ended_section p rest before text byte e u h ends =
    let two = two_seen before byte text e ends in
    let low = opened_low before byte e in
    let front : IsUtf8 two.0 = cut_front two.0 (93 ∷ []) 93 (omega arith) (subst (λ (t : List ℕ). IsUtf8 t) two.1 (stop p text rest byte low u h)) in
    resume p (take (length text - 2) text) byte low (subst (λ (t : List ℕ). IsUtf8 t) (sym (without_two text two.0 two.1)) front)

in_section-kept : (p rest : List ℕ) (before : Seen) (r : Reader) (byte : ℕ) → IsUtf8 (p ++ byte ∷ rest) → IsGathered p r → TextFollows p r.top → (r.top.kept ≡ true → EndsIn before r.top.text) → Gathers (p ++ byte ∷ []) (in_section before r byte)
unfolding in_section
in_section-kept p rest before r byte u s h ends =
    let q = p ++ byte ∷ [] in
    when (Gathers q) (is_ended_by before byte) _ _ (λ e. record {
      top = without_brackets-named r s.top;
      below = without_brackets-below r s.below;
      here = without_brackets-text (λ t. Follows q t) r (λ k. ended_section p rest before r.top.text byte e u (h k) (ends k));
    })
    (λ _. record {
      top = add_text-named r (byte ∷ []) s.top;
      below = add_text-below r (byte ∷ []) s.below;
      here = (
        add_text-ends (λ t. Follows q t) r (byte ∷ []) (λ k. one_more_byte p r.top.text byte (h k)),
        add_text-ends (λ t. EndsIn (seen_after before 93 byte) t) r (byte ∷ []) (λ k. next_seen before r.top.text byte (ends k)),
      );
    })

-- ---- instructions

in_instruction-kept : (p : List ℕ) (question : Bool) (r : Reader) (byte : ℕ) → IsGathered p r → TextIs r.top → IsGathered (p ++ byte ∷ []) (in_instruction question r byte)
unfolding in_instruction
in_instruction-kept p question r byte s h =
    when (IsGathered (p ++ byte ∷ [])) (question && byte == 62) _ _ (λ e.
    let low = low_is byte 62 (both question (byte == 62) e).1 (omega arith) in
    record { top = s.top; below = s.below; here = λ k. resume p r.top.text byte low (h k) })
    (λ _. record { top = s.top; below = s.below; here = h })

end_first_instruction-kept : (p : List ℕ) (r : Reader) (byte : ℕ) → byte < 128 → IsGathered p r → TextIs r.top → Gathers (p ++ byte ∷ []) (end_first_instruction r)
unfolding end_first_instruction
end_first_instruction-kept p r byte low s h = past _ _ (is_foreign r.declaration) _ (λ _. record { top = s.top; below = s.below; here = λ k. resume p r.top.text byte low (h k) })

in_first_instruction-kept : (p : List ℕ) (question : Bool) (r : Reader) (byte : ℕ) → IsGathered p r → TextIs r.top → Gathers (p ++ byte ∷ []) (in_first_instruction question r byte)
unfolding in_first_instruction
in_first_instruction-kept p question r byte s h =
    when (Gathers (p ++ byte ∷ [])) (question && byte == 62) _ _ (λ e. end_first_instruction-kept p r byte (low_is byte 62 (both question (byte == 62) e).1 (omega arith)) s h)
    (λ _. record { top = s.top; below = s.below; here = h })

-- ---- references

entity-scalar : (name : List ℕ) → IfSome (entity name) IsScalar
unfolding entity
entity-scalar name =
    when (λ o. IfSome o IsScalar) (bytes_eq name (108 ∷ 116 ∷ [])) _ _ (λ _. refl)
    (λ _. when (λ o. IfSome o IsScalar) (bytes_eq name (103 ∷ 116 ∷ [])) _ _ (λ _. refl)
    (λ _. when (λ o. IfSome o IsScalar) (bytes_eq name (97 ∷ 109 ∷ 112 ∷ [])) _ _ (λ _. refl)
    (λ _. when (λ o. IfSome o IsScalar) (bytes_eq name (113 ∷ 117 ∷ 111 ∷ 116 ∷ [])) _ _ (λ _. refl)
    (λ _. when (λ o. IfSome o IsScalar) (bytes_eq name (97 ∷ 112 ∷ 111 ∷ 115 ∷ [])) _ _ (λ _. refl) (λ _. tt)))))

scalar_cases : (s t u : Bool) → (s || (t && u)) ≡ true → if s then true else (t && u) ≡ true
scalar_cases true t u e = refl
scalar_cases false t u e = e

character_at-scalar : (code : ℕ) → IfSome (character_at code) IsScalar
character_at-scalar code =
    when (λ o. IfSome o IsScalar) (nat_lt 0 code && (nat_lt code 0xD800 || (nat_le 0xE000 code && nat_lt code 0x110000))) _ _ (λ e. scalar_cases (nat_lt code 0xD800) (nat_le 0xE000 code) (nat_lt code 0x110000) (both (nat_lt 0 code) _ e).1) (λ _. tt)

needed-scalar : (fault : ElementFault) (o : Option ℕ) → IfSome o IsScalar → IfOk (need fault o) IsScalar
needed-scalar fault None h = tt
needed-scalar fault (Some c) h = h

chosen-scalar : (line : ℕ) (named number : Option ℕ) → IfSome named IsScalar → IfOk (chosen line named number) IsScalar
chosen-scalar line (Some c) number h = h
chosen-scalar line None None h = tt
chosen-scalar line None (Some n) h = needed-scalar _ (character_at n) (character_at-scalar n)

character_of-scalar : (line : ℕ) (name : List ℕ) → IfOk (character_of line name) IsScalar
unfolding character_of
character_of-scalar line name = keeps IsScalar (refuse _ (is_none name)) _ (λ _ _. chosen-scalar line (entity name) (number_of name) (entity-scalar name))

add_value-mode : (r : Reader) (bytes : List ℕ) → (add_value r bytes).mode ≡ r.mode
unfolding add_value
add_value-mode r bytes = when (λ (s : Reader). s.mode ≡ r.mode) r.tag.is_id _ _ (λ _. refl) (λ _. refl)

add_value-gathered : (r : Reader) (bytes : List ℕ) → IsNamed r.top → AllWhole r.below → IsNamed (add_value r bytes).top × AllWhole (add_value r bytes).below
unfolding add_value
add_value-gathered r bytes n w = when (λ (s : Reader). IsNamed s.top × AllWhole s.below) r.tag.is_id _ _ (λ _. (n, w)) (λ _. (n, w))

add_value-tag : (r : Reader) (bytes : List ℕ) → InTag r.top r.tag → InTag (add_value r bytes).top (add_value r bytes).tag
unfolding add_value
add_value-tag r bytes h = when (λ (s : Reader). InTag s.top s.tag) r.tag.is_id _ _ (λ _. record { text = h.text; name = h.name; id = h.id }) (λ _. h)

add_value-ends : (P : List ℕ → Type 0) (r : Reader) (bytes : List ℕ) → (r.tag.is_id ≡ true → P (r.tag.value ++ bytes)) → (add_value r bytes).tag.is_id ≡ true → P (add_value r bytes).tag.value
unfolding add_value
add_value-ends P r bytes f = when (λ (s : Reader). s.tag.is_id ≡ true → P s.tag.value) r.tag.is_id _ _ (λ e _. f e) (λ e k. absurd cc)

end_reference-kept : (p : List ℕ) (home : Home) (r : Reader) (byte : ℕ) → byte < 128 → IsGathered p r → AtMode p (modes.Reference home) r.top r.tag r.piece → Gathers (p ++ byte ∷ []) (end_reference home r)
unfolding end_reference
end_reference-kept p homes.Text r byte low s h = keeps (IsGathered (p ++ byte ∷ [])) (character_of r.reference_line r.piece) _ (λ c e.
    let scalar : IsScalar c = subst (λ result. IfOk result IsScalar) e (character_of-scalar r.reference_line r.piece) in
    record {
      top = add_text-named r (encode_utf8 c) s.top;
      below = add_text-below r (encode_utf8 c) s.below;
      here = add_text-ends (λ t. Follows (p ++ byte ∷ []) t) r (encode_utf8 c) (λ k. resume p _ byte low (IsUtf8-append r.top.text (encode_utf8 c) (h k) (IsUtf8-encode c scalar)));
    })
end_reference-kept p (homes.Value quote) r byte low s h = keeps (IsGathered (p ++ byte ∷ [])) (character_of r.reference_line r.piece) _ (λ c e.
    let scalar : IsScalar c = subst (λ result. IfOk result IsScalar) e (character_of-scalar r.reference_line r.piece) in
    let around = add_value-gathered r (encode_utf8 c) s.top s.below in
    record {
      top = around.0;
      below = around.1;
      here = (
        add_value-tag r (encode_utf8 c) h.0,
        add_value-ends (λ t. Follows (p ++ byte ∷ []) t) r (encode_utf8 c) (λ k. resume p _ byte low (IsUtf8-append r.tag.value (encode_utf8 c) (h.1 k) (IsUtf8-encode c scalar))),
      );
    })

-- what holds in a reference doesn't change with the bytes or the name
in_reference-stays : (p q : List ℕ) (home : Home) (top : Open) (tag : Tag) (piece more : List ℕ) → AtMode p (modes.Reference home) top tag piece → AtMode q (modes.Reference home) top tag more
in_reference-stays p q homes.Text top tag piece more h = h
in_reference-stays p q (homes.Value quote) top tag piece more h = h

in_reference-kept : (p : List ℕ) (home : Home) (r : Reader) (byte : ℕ) → r.mode ≡ modes.Reference home → IsGathered p r → AtMode p (modes.Reference home) r.top r.tag r.piece → Gathers (p ++ byte ∷ []) (in_reference home r byte)
unfolding in_reference
in_reference-kept p home r byte is s h =
    let q = p ++ byte ∷ [] in
    when (Gathers q) (byte == 59) _ _ (λ e. end_reference-kept p home r byte (low_is byte 59 e (omega arith)) s h)
    (λ _. past _ _ (not (is_name_byte byte)) _ (λ _. record { top = s.top; below = s.below; here = subst (λ m. AtMode q m r.top r.tag (r.piece ++ byte ∷ [])) (sym is) (in_reference-stays p q home r.top r.tag r.piece (r.piece ++ byte ∷ []) h) }))

-- ---- tags

opened-named : (r : Reader) → InTag r.top r.tag → IsNamed (opened r)
unfolding opened
opened-named r h = record { name = λ _. h.name; id = λ _. h.id }

open_element-kept : (p : List ℕ) (r : Reader) (byte : ℕ) → byte < 128 → IsNamed r.top → AllWhole r.below → InTag r.top r.tag → Gathers (p ++ byte ∷ []) (open_element r)
unfolding open_element opened
open_element-kept p r byte low top below h = past _ _ (is_bad_root r) _ (λ _. record { top = opened-named r h; below = ((top, h.text), below); here = λ _. resume p [] byte low IsUtf8-nil })

close_in-kept : (p : List ℕ) (r : Reader) (below : List Open) (byte : ℕ) → byte < 128 → AllWhole below → Gathers (p ++ byte ∷ []) (close_in r below)
close_in-kept p r [] byte low w = tt
close_in-kept p r (around ∷ outer) byte low w = record {
  top = when IsNamed r.top.kept _ _ (λ _. record { name = w.0.0.name; id = w.0.0.id }) (λ _. w.0.0);
  below = w.1;
  here = when (TextFollows (p ++ byte ∷ [])) r.top.kept _ _ (λ _ k. resume p around.text byte low (w.0.1 k)) (λ _ k. resume p around.text byte low (w.0.1 k));
}

close-kept : (p : List ℕ) (r : Reader) (byte : ℕ) → byte < 128 → AllWhole r.below → Gathers (p ++ byte ∷ []) (close r)
unfolding close
close-kept p r byte low w = close_in-kept p r r.below byte low w

after_end_name-kept : (p : List ℕ) (r : Reader) (byte : ℕ) → IsGathered p r → TextIs r.top → Gathers (p ++ byte ∷ []) (after_end_name r byte)
unfolding after_end_name
after_end_name-kept p r byte s h =
    when (Gathers (p ++ byte ∷ [])) (is_white byte) _ _ (λ _. record { top = s.top; below = s.below; here = h })
    (λ _. past _ _ (not (byte == 62)) _ (λ e. close-kept p r byte (low_is byte 62 (not-false (byte == 62) e) (omega arith)) s.below))

in_end_name-kept : (p : List ℕ) (r : Reader) (byte : ℕ) → r.mode ≡ modes.EndName → IsGathered p r → TextIs r.top → Gathers (p ++ byte ∷ []) (in_end_name r byte)
unfolding in_end_name
in_end_name-kept p r byte is s h =
    when (Gathers (p ++ byte ∷ [])) (is_name_byte byte) _ _ (λ _. record { top = s.top; below = s.below; here = subst (λ m. AtMode (p ++ byte ∷ []) m r.top r.tag (r.piece ++ byte ∷ [])) (sym is) h })
    (λ _. past _ _ (is_none r.piece) _ (λ _. past _ _ (not (bytes_eq r.piece r.top.name)) _ (λ _. after_end_name-kept p r byte s h)))

begin_attribute-kept : (q : List ℕ) (spaced : Bool) (r : Reader) (byte : ℕ) → IsNamed r.top → AllWhole r.below → InTag r.top r.tag → Gathers q (begin_attribute spaced r byte)
unfolding begin_attribute
begin_attribute-kept q spaced r byte top below h = past _ _ (not spaced) _ (λ _. past _ _ (not (is_name_byte byte)) _ (λ _. record { top = top; below = below; here = h }))

in_tag-kept : (p : List ℕ) (spaced : Bool) (r : Reader) (byte : ℕ) → IsNamed r.top → AllWhole r.below → InTag r.top r.tag → Gathers (p ++ byte ∷ []) (in_tag spaced r byte)
unfolding in_tag
in_tag-kept p spaced r byte top below h =
    let q = p ++ byte ∷ [] in
    when (Gathers q) (is_white byte) _ _ (λ _. record { top = top; below = below; here = h })
    (λ _. when (Gathers q) (byte == 62) _ _ (λ e. open_element-kept p r byte (low_is byte 62 e (omega arith)) top below h)
    (λ _. when (Gathers q) (byte == 47) _ _ (λ _. record { top = top; below = below; here = h })
    (λ _. begin_attribute-kept q spaced r byte top below h)))

in_start_name-kept : (p rest : List ℕ) (r : Reader) (byte : ℕ) → r.mode ≡ modes.StartName → IsUtf8 (p ++ byte ∷ rest) → IsGathered p r → TextIs r.top → Follows p r.piece → Gathers (p ++ byte ∷ []) (in_start_name r byte)
unfolding in_start_name
in_start_name-kept p rest r byte is u s h name =
    when (Gathers (p ++ byte ∷ [])) (is_name_byte byte) _ _ (λ _. record { top = s.top; below = s.below; here = subst (λ m. AtMode (p ++ byte ∷ []) m r.top r.tag (r.piece ++ byte ∷ [])) (sym is) (h, one_more_byte p r.piece byte name) })
    (λ e. past _ _ (nat_le 64 (length r.below)) _ (λ _. in_tag-kept p false _ byte s.top s.below (record { text = h; name = stop p r.piece rest byte (end_low byte e) u name; id = tt })))

in_empty_tag-kept : (p : List ℕ) (r : Reader) (byte : ℕ) → IsGathered p r → InTag r.top r.tag → Gathers (p ++ byte ∷ []) (in_empty_tag r byte)
unfolding in_empty_tag
in_empty_tag-kept p r byte s h = past _ _ (not (byte == 62)) _ (λ e.
    let low = low_is byte 62 (not-false (byte == 62) e) (omega arith) in
    keeps (IsGathered (p ++ byte ∷ [])) (open_element r) close (λ inside is.
    let opens : IsGathered (p ++ byte ∷ []) inside = subst (λ result. Gathers (p ++ byte ∷ []) result) is (open_element-kept p r byte low s.top s.below h) in
    close-kept p inside byte low opens.below))

after_attribute_name-kept : (q : List ℕ) (r : Reader) (byte : ℕ) → IsNamed r.top → AllWhole r.below → InTag r.top r.tag → IsUtf8 r.tag.value → Gathers q (after_attribute_name r byte)
unfolding after_attribute_name
after_attribute_name-kept q r byte top below h value =
    when (Gathers q) (is_white byte) _ _ (λ _. record { top = top; below = below; here = (h, value) }) (λ _. past _ _ (not (byte == 61)) _ (λ _. record { top = top; below = below; here = (h, value) }))

in_attribute_name-kept : (q : List ℕ) (r : Reader) (byte : ℕ) → r.mode ≡ modes.AttributeName → IsNamed r.top → AllWhole r.below → InTag r.top r.tag → Gathers q (in_attribute_name r byte)
unfolding in_attribute_name add_name
in_attribute_name-kept q r byte is top below h =
    when (Gathers q) (is_name_byte byte) _ _ (λ _. record { top = top; below = below; here = subst (λ m. AtMode q m r.top r.tag (r.piece ++ byte ∷ [])) (sym is) h })
    (λ _. past_into q _ (list_any (bytes_eq r.piece) r.tag.names) _ (λ named. after_attribute_name named byte) (λ _. after_attribute_name-kept q _ byte top below (record { text = h.text; name = h.name; id = h.id }) IsUtf8-nil))

quote_of-low : (byte : ℕ) → IfSome (quote_of byte) (λ _. byte < 128)
quote_of-low byte =
    when (λ o. IfSome o (λ _. byte < 128)) (byte == 34) _ _ (λ e. low_is byte 34 e (omega arith))
    (λ _. when (λ o. IfSome o (λ _. byte < 128)) (byte == 39) _ _ (λ e. low_is byte 39 e (omega arith)) (λ _. tt))

quoted-kept : (p : List ℕ) (r : Reader) (byte : ℕ) (quote : Option Quote) → IfSome quote (λ _. byte < 128) → IsNamed r.top → AllWhole r.below → InTag r.top r.tag → IsUtf8 r.tag.value → Gathers (p ++ byte ∷ []) (quoted r quote)
quoted-kept p r byte None low top below h value = tt
quoted-kept p r byte (Some quote) low top below h value = record { top = top; below = below; here = (h, λ _. resume p r.tag.value byte low value) }

before_value-kept : (p : List ℕ) (r : Reader) (byte : ℕ) → r.mode ≡ modes.BeforeValue → IsGathered p r → InTag r.top r.tag → IsUtf8 r.tag.value → Gathers (p ++ byte ∷ []) (before_value r byte)
unfolding before_value
before_value-kept p r byte is s h value =
    when (Gathers (p ++ byte ∷ [])) (is_white byte) _ _ (λ _. record { top = s.top; below = s.below; here = subst (λ m. AtMode (p ++ byte ∷ []) m r.top r.tag r.piece) (sym is) (h, value) })
    (λ _. quoted-kept p r byte (quote_of byte) (quote_of-low byte) s.top s.below h value)

end_value-kept : (q : List ℕ) (r : Reader) → IsNamed r.top → AllWhole r.below → InTag r.top r.tag → (r.tag.is_id ≡ true → IsUtf8 r.tag.value) → IsGathered q (end_value r)
unfolding end_value
end_value-kept q r top below h value =
    when (IsGathered q) r.tag.is_id _ _ (λ e. record { top = top; below = below; here = record { text = h.text; name = h.name; id = value e } }) (λ _. record { top = top; below = below; here = h })

add_byte-kept : (p rest : List ℕ) (quote : Quote) (r : Reader) (byte : ℕ) → r.mode ≡ modes.Value quote → IsUtf8 (p ++ byte ∷ rest) → IsGathered p r → InTag r.top r.tag → (r.tag.is_id ≡ true → Follows p r.tag.value) → IsGathered (p ++ byte ∷ []) (add_byte quote r byte)
unfolding add_byte
add_byte-kept p rest quote r byte is u s h value =
    let q = p ++ byte ∷ [] in
    when (IsGathered q) (byte == 38) _ _ (λ e. record { top = s.top; below = s.below; here = (h, λ k. stop p r.tag.value rest byte (low_is byte 38 e (omega arith)) u (value k)) })
    (λ _.
    let around = add_value-gathered r (byte ∷ []) s.top s.below in
    record {
      top = around.0;
      below = around.1;
      here = subst (λ m. AtMode q m (add_value r (byte ∷ [])).top (add_value r (byte ∷ [])).tag (add_value r (byte ∷ [])).piece) (sym (add_value-mode r (byte ∷ []) ∙ is))
          (add_value-tag r (byte ∷ []) h, add_value-ends (λ t. Follows q t) r (byte ∷ []) (λ k. one_more_byte p r.tag.value byte (value k)));
    })

in_value-kept : (p rest : List ℕ) (quote : Quote) (r : Reader) (byte : ℕ) → r.mode ≡ modes.Value quote → IsUtf8 (p ++ byte ∷ rest) → IsGathered p r → InTag r.top r.tag → (r.tag.is_id ≡ true → Follows p r.tag.value) → Gathers (p ++ byte ∷ []) (in_value quote r byte)
unfolding in_value
in_value-kept p rest quote r byte is u s h value =
    when (Gathers (p ++ byte ∷ [])) (byte == quote_byte quote) _ _ (λ e. end_value-kept _ r s.top s.below h (λ k. stop p r.tag.value rest byte (low_is byte (quote_byte quote) e (quote_low quote)) u (value k)))
    (λ _. past _ _ (byte == 60) _ (λ _. add_byte-kept p rest quote r byte is u s h value))

-- ---- each byte

act_in-kept : (p rest : List ℕ) (mode : Mode) (r : Reader) (byte : ℕ) → r.mode ≡ mode → IsUtf8 (p ++ byte ∷ rest) → IsGathered p r → AtMode p mode r.top r.tag r.piece → Gathers (p ++ byte ∷ []) (act_in mode r byte)
act_in-kept p rest modes.Start r byte is u s h = at_start-kept p rest r byte u s h (λ top tag piece f. subst (λ m. AtMode (p ++ byte ∷ []) m top tag piece) (sym is) f)
act_in-kept p rest modes.Content r byte is u s h = in_content-kept p rest r byte u s h (λ top tag piece f. subst (λ m. AtMode (p ++ byte ∷ []) m top tag piece) (sym is) f)
act_in-kept p rest modes.FirstMarkup r byte is u s h = in_first_markup-kept p r byte s h.0 h.1
act_in-kept p rest modes.Markup r byte is u s h = in_markup-kept p r byte s h.0 h.1
act_in-kept p rest modes.Exclamation r byte is u s h = in_exclamation-kept _ r byte s.top s.below h
act_in-kept p rest (modes.Beginning opening count) r byte is u s h = in_beginning-kept p opening count r byte s h
act_in-kept p rest (modes.Comment before) r byte is u s h = in_comment-kept p before r byte s h
act_in-kept p rest (modes.Section before) r byte is u s h = in_section-kept p rest before r byte u s h.0 h.1
act_in-kept p rest (modes.FirstInstruction question) r byte is u s h = in_first_instruction-kept p question r byte s h
act_in-kept p rest (modes.Instruction question) r byte is u s h = in_instruction-kept p question r byte s h
act_in-kept p rest modes.EndName r byte is u s h = in_end_name-kept p r byte is s h
act_in-kept p rest modes.AfterEndName r byte is u s h = after_end_name-kept p r byte s h
act_in-kept p rest modes.StartName r byte is u s h = in_start_name-kept p rest r byte is u s h.0 h.1
act_in-kept p rest (modes.Tag spaced) r byte is u s h = in_tag-kept p spaced r byte s.top s.below h
act_in-kept p rest modes.EmptyTag r byte is u s h = in_empty_tag-kept p r byte s h
act_in-kept p rest modes.AttributeName r byte is u s h = in_attribute_name-kept _ r byte is s.top s.below h
act_in-kept p rest modes.AfterAttributeName r byte is u s h = after_attribute_name-kept _ r byte s.top s.below h.0 h.1
act_in-kept p rest modes.BeforeValue r byte is u s h = before_value-kept p r byte is s h.0 h.1
act_in-kept p rest (modes.Value quote) r byte is u s h = in_value-kept p rest quote r byte is u s h.0 h.1
act_in-kept p rest (modes.Reference home) r byte is u s h = in_reference-kept p home r byte is s h

pub read-kept : (p rest : List ℕ) (r : Reader) (byte : ℕ) → IsUtf8 (p ++ byte ∷ rest) → IsGathered p r → Gathers (p ++ byte ∷ []) (read r byte)
unfolding read act
read-kept p rest r byte u s = past _ _ (is_control byte) _ (λ _. keeps (IsGathered (p ++ byte ∷ [])) (act_in r.mode r byte) _ (λ next e.
    let gathered : IsGathered (p ++ byte ∷ []) next = subst (λ result. Gathers (p ++ byte ∷ []) result) e (act_in-kept p rest r.mode r byte refl u s s.here) in
    record { top = gathered.top; below = gathered.below; here = gathered.here }))

-- of bytes in order
pub read_all-kept : (p bytes rest : List ℕ) (r : Reader) → IsUtf8 (p ++ (bytes ++ rest)) → IsGathered p r → IfOk (read_all read r bytes) (IsGathered (p ++ bytes))
read_all-kept p [] rest r u s = subst (λ (xs : List ℕ). IsGathered xs r) (sym (append-nil p)) s
read_all-kept p (byte ∷ bytes) rest r u s = keeps (IsGathered (p ++ byte ∷ bytes)) (read r byte) (λ next. read_all read next bytes) (λ next e.
    let gathered : IsGathered (p ++ byte ∷ []) next = subst (λ result. Gathers (p ++ byte ∷ []) result) e (read-kept p (bytes ++ rest) r byte u s) in
    subst (λ (xs : List ℕ). IfOk (read_all read next bytes) (IsGathered xs)) (append_assoc p (byte ∷ []) bytes)
    (read_all-kept (p ++ byte ∷ []) bytes rest next (subst (λ (xs : List ℕ). IsUtf8 xs) (sym (append_assoc p (byte ∷ []) (bytes ++ rest))) u) gathered))

pub nothing-kept : IsGathered [] nothing_read
nothing-kept = record {
  top = record { name = λ _. IsUtf8-nil; id = λ _. tt };
  below = tt;
  here = λ _. record { goes_on = λ rest u. u };
}
