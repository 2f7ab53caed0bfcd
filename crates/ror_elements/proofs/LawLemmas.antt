-- Lines, first faults, and texts as they were gathered.
use Rattle.std.proofs.Common.{◌≡◌, ℕ, ◌+◌, ◌<◌, ◌≤◌, ltb, Bool, true, false, not, List, [], ◌∷◌, ◌++◌, append-nil, length, drop, take, get_or, Option, Some, None, Result, Ok, Err, refl, sym, ap, subst, ◌∙◌, arith, inl, inr}
use Rattle.std.specs.Prelude.{◌==◌, IfOk, IfSome, option_map, position, if◌then◌else◌}
use Rattle.std.specs.Char.{encode_utf8}
use Rattle.std.specs.List.{AllByRecursion, position_or_len}
use Rattle.std.specs.Str.{IsUtf8, is_utf8, bytes_eq}
use Rattle.std.proofs.lemmas.Bool.{cases_Bool, eqb-true, ltb-true, false_from_ne_true, not-false}
use Rattle.std.proofs.lemmas.List.Recursion.{is_count_by}
use Rattle.std.proofs.lemmas.List.Sums.{passes_at_first}
use Rattle.std.proofs.lemmas.Str.{IsUtf8-drop, IsUtf8-nil, IsUtf8-from_is_utf8, is_utf8-from_IsUtf8, IsUtf8-past_char, IsCharBoundary-after_ascii, utf8_lossy-IsUtf8}
use Rattle.std.proofs.lemmas.List.{take-append-drop}
use Rattle.std.proofs.lemmas.Slice.Eq.{bytes_eq-Decides}
use Rattle.ror_text.specs.Lines.{is_line_end, bad_utf8_line}
use Rattle.ror_text.specs.Reading.{◌>>=◌, refuse, read_all, Gives}
use Rattle.ror_text.proofs.ReadingLemmas.{bind_ok, bind_err, bind-at_ok, bind-at_err, refuse_ok, refuse_err, first_fault_iff}
use Rattle.ror_elements.specs.declared.element.Element.{Element}
use Rattle.ror_elements.specs.declared.element.ElementError.{ElementError}
use Rattle.ror_elements.specs.declared.element.ElementFault.{ElementFault}
use Rattle.ror_elements.specs.declared.element.ElementKind.TheVariants.{NotUtf8}
use Rattle.ror_elements.specs.declared.mode.Mode.{Mode}
use Rattle.ror_elements.specs.declared.mode.Mode.TheVariants as modes
use Rattle.ror_elements.specs.declared.open.Open.{Open}
use Rattle.ror_elements.specs.declared.reader.Reader.{Reader}
use Rattle.ror_elements.specs.Depth.{tree_depth}
use Rattle.ror_elements.specs.Elements.{act, line_after, read, finish, elements_of, refuse_bad_utf8, without_mark, mark}
use Rattle.ror_elements.specs.Faults.{fault, element_fault}
use Rattle.ror_elements.specs.Laws.{LinesAreCounted, IsFirstFaultOf, not_utf8, at_byte, at_end, GivesTheFirstFault, NoneIsTooDeep, as_gathered, closing, NothingIsReplaced}
use Rattle.ror_elements.specs.Marks.{is_white, is_control, is_colon, behind, local_name, without_start, without_end, unless_white, trimmed}
use Rattle.ror_elements.specs.Open.{finished, id_of}
use Rattle.ror_elements.specs.Reader.{nothing_read}
use Rattle.ror_elements.specs.Tags.{opened}
use Rattle.ror_elements.specs.Tree.{tree_of}
use Rattle.ror_elements.proofs.DepthLemmas.{elements_of-depth}
use Rattle.ror_elements.proofs.TextLemmas.{white_low, cut_front, cut_rest, IsNamed, InTag, AtMode, IsGathered, read_all-kept, nothing-kept}

-- ---- lines

line_of_next : (acted : Reader) (line : ℕ) (next : Reader) → ◌≡◌ {A = Result Reader ElementFault} (Ok (record acted { line = line })) (Ok next) → next.line ≡ line
line_of_next acted line next e = cc

read-line : (r next : Reader) (byte : ℕ) → read r byte ≡ Ok next → next.line ≡ line_after r.line byte
unfolding read
read-line r next byte e =
    let tested = bind_ok (refuse _ (is_control byte)) _ next e in
    let acted = bind_ok (act r byte) _ next tested.2 in
    line_of_next acted.0 (line_after r.line byte) next acted.2

-- the line ends of some bytes, one by one
abbrev pub ends : List ℕ → ℕ
ends [] = 0
ends (byte ∷ bytes) = if byte == 10 then 1 + ends bytes else ends bytes

pub line_step : (line byte more : ℕ) → line_after line byte + more ≡ line + (if byte == 10 then 1 + more else more)
line_step line byte more = elim (cases_Bool (byte == 10)) [ inl hit ↦ rw hit (omega arith) | inr miss ↦ rw miss refl ]

lines_from : (bytes : List ℕ) (r last : Reader) → read_all read r bytes ≡ Ok last → last.line ≡ r.line + ends bytes
lines_from [] r last e = let same : r ≡ last = cc in subst (λ (s : Reader). s.line ≡ r.line + 0) same (omega arith)
lines_from (byte ∷ bytes) r last e =
    let first = bind_ok (read r byte) (λ next. read_all read next bytes) last e in
    let later = lines_from bytes first.0 last first.2 in
    later ∙ ap (λ n. n + ends bytes) (read-line r first.0 byte first.1) ∙ line_step r.line byte (ends bytes)

pub lines_are_counted : LinesAreCounted
lines_are_counted before reached e = lines_from before nothing_read reached e ∙ ap (λ n. 1 + n) (is_count_by ends is_line_end refl (λ x xs. refl) before)

-- ---- the first fault

is_valid : (bytes : List ℕ) → IsUtf8 bytes → refuse_bad_utf8 bytes ≡ Ok tt
is_valid bytes u = rw (is_utf8-from_IsUtf8 bytes u) refl

not_true : (s : Bool) → not s ≡ true → s ≡ true → ⊥
not_true true e f = absurd cc
not_true false e f = absurd cc

first_of_all : (bytes : List ℕ) (first : ElementFault) → IsUtf8 bytes → (read_all read nothing_read (without_mark bytes) >>= finish) ≡ Err first → IsFirstFaultOf bytes first
first_of_all bytes first u e = elim (bind_err (read_all read nothing_read (without_mark bytes)) finish first e) [
  | inl at ↦ let f = (first_fault_iff read nothing_read (without_mark bytes) first).0 at in at_byte f.before f.after f.line f.reached u f.split f.reads f.fails
  | inr end ↦ at_end end.0 u end.1 end.2
]

is_first : (bytes : List ℕ) (first : ElementFault) → elements_of bytes ≡ Err first → IsFirstFaultOf bytes first
unfolding elements_of
is_first bytes first e = elim (bind_err (refuse_bad_utf8 bytes) (λ _. read_all read nothing_read (without_mark bytes) >>= finish) first e) [
  | inl bad ↦
      let r = refuse_err (fault NotUtf8 (bad_utf8_line bytes)) first (not (is_utf8 bytes)) bad in
      not_utf8 (λ u. not_true (is_utf8 bytes) r.0 (is_utf8-from_IsUtf8 bytes u)) r.1
  | inr good ↦
      let valid = not-false (is_utf8 bytes) (refuse_ok (fault NotUtf8 (bad_utf8_line bytes)) (not (is_utf8 bytes)) good.0 good.1) in
      first_of_all bytes first (IsUtf8-from_is_utf8 bytes valid) good.2
]

pub past_utf8 : (bytes : List ℕ) → IsUtf8 bytes → elements_of bytes ≡ (read_all read nothing_read (without_mark bytes) >>= finish)
unfolding elements_of
past_utf8 bytes u = bind-at_ok (refuse_bad_utf8 bytes) (λ _. read_all read nothing_read (without_mark bytes) >>= finish) tt (is_valid bytes u)

is_bad : (bytes : List ℕ) → ¬ (IsUtf8 bytes) → elements_of bytes ≡ Err (fault NotUtf8 (bad_utf8_line bytes))
unfolding elements_of
is_bad bytes bad = rw (false_from_ne_true (is_utf8 bytes) (λ valid. bad (IsUtf8-from_is_utf8 bytes valid))) refl

is_given : (bytes : List ℕ) (first : ElementFault) → IsFirstFaultOf bytes first → elements_of bytes ≡ Err first
is_given bytes first (not_utf8 bad e) = is_bad bytes bad ∙ ap Err (sym e)
is_given bytes first (at_byte before after byte reached u split reads fails) =
    past_utf8 bytes u ∙ bind-at_err (read_all read nothing_read (without_mark bytes)) finish first
    ((first_fault_iff read nothing_read (without_mark bytes) first).1 (record { before = before; line = byte; after = after; reached = reached; split = split; reads = reads; fails = fails }))
is_given bytes first (at_end reached u reads fails) =
    past_utf8 bytes u ∙ bind-at_ok (read_all read nothing_read (without_mark bytes)) finish reached reads ∙ fails

pub gives_the_first_fault : GivesTheFirstFault
gives_the_first_fault bytes first = (is_first bytes first, is_given bytes first)

-- ---- depth

pub none_is_too_deep : NoneIsTooDeep
none_is_too_deep bytes root e = subst (λ result. IfOk result (λ t. tree_depth t ≤ 64)) e (elements_of-depth bytes)

-- what is given is not too deep
pub shallow : (bytes : List ℕ) (result : Result Element ElementError) → Gives tree_of element_fault result (elements_of bytes) → IfOk result (λ root. tree_depth (tree_of root) ≤ 64)
shallow bytes (Ok root) exact = none_is_too_deep bytes (tree_of root) exact
shallow bytes (Err e) exact = tt

-- ---- texts as they were gathered

local_name-IsUtf8 : (name : List ℕ) → IsUtf8 name → IsUtf8 (local_name name)
unfolding local_name
local_name-IsUtf8 name u =
    let place = position_or_len is_colon name in
    elim (cases_Bool (ltb place (length name))) [
      | inl hit ↦
          let at : place < length name = ltb-true _ _ hit in
          let low : get_or name place 0 < 128 = omega (arith, eqb-true _ 58 (passes_at_first is_colon name 0 at)) in
          let found : position is_colon name ≡ Some place = rw hit refl in
          subst (λ (o : Option ℕ). IsUtf8 (behind name o)) (sym found) (IsUtf8-drop name (place + 1) u (IsCharBoundary-after_ascii name place u at low))
      | inr miss ↦
          let lost : position is_colon name ≡ None = rw miss refl in
          subst (λ (o : Option ℕ). IsUtf8 (behind name o)) (sym lost) u
    ]

without_start-IsUtf8 : (text : List ℕ) → IsUtf8 text → IsUtf8 (without_start text)
without_start-IsUtf8 [] u = u
without_start-IsUtf8 (byte ∷ bytes) u = elim (cases_Bool (is_white byte)) [
  | inl white ↦ rw white (without_start-IsUtf8 bytes (cut_rest [] bytes byte (white_low byte white) u))
  | inr dark ↦ rw dark u
]

-- what is cut at the end is white
record IsCut (text left : List ℕ) : Type 0 where
  gone : List ℕ
  whole : text ≡ left ++ gone
  white : AllByRecursion (λ byte. is_white byte ≡ true) gone

cut_one : (byte : ℕ) (bytes left : List ℕ) → IsCut bytes left → IsCut (byte ∷ bytes) (unless_white byte left)
cut_one byte bytes [] cut = elim (cases_Bool (is_white byte)) [
  | inl white ↦ rw white (record { gone = byte ∷ cut.gone; whole = ap (λ (bs : List ℕ). byte ∷ bs) cut.whole; white = (white, cut.white) })
  | inr dark ↦ rw dark (record { gone = cut.gone; whole = ap (λ (bs : List ℕ). byte ∷ bs) cut.whole; white = cut.white })
]
cut_one byte bytes (next ∷ more) cut = record { gone = cut.gone; whole = ap (λ (bs : List ℕ). byte ∷ bs) cut.whole; white = cut.white }

without_end-cut : (text : List ℕ) → IsCut text (without_end text)
without_end-cut [] = record { gone = []; whole = refl; white = tt }
without_end-cut (byte ∷ bytes) = cut_one byte bytes (without_end bytes) (without_end-cut bytes)

before_white : (left gone : List ℕ) → AllByRecursion (λ byte. is_white byte ≡ true) gone → IsUtf8 (left ++ gone) → IsUtf8 left
before_white left [] white u = subst (λ (bs : List ℕ). IsUtf8 bs) (append-nil left) u
before_white left (byte ∷ more) white u = cut_front left more byte (white_low byte white.0) u

without_end-IsUtf8 : (text : List ℕ) → IsUtf8 text → IsUtf8 (without_end text)
without_end-IsUtf8 text u =
    let cut = without_end-cut text in
    before_white (without_end text) cut.gone cut.white (subst (λ (bs : List ℕ). IsUtf8 bs) cut.whole u)

trimmed-IsUtf8 : (text : List ℕ) → IsUtf8 text → IsUtf8 (trimmed text)
unfolding trimmed
trimmed-IsUtf8 text u = without_end-IsUtf8 (without_start text) (without_start-IsUtf8 text u)

id-gathered : (id : Option (List ℕ)) → IfSome id IsUtf8 → id_of id ≡ option_map trimmed id
unfolding id_of
id-gathered None u = refl
id-gathered (Some value) u = ap Some (utf8_lossy-IsUtf8 (trimmed value) (trimmed-IsUtf8 value u))

gathered : (element : Open) → IsUtf8 element.name → IfSome element.id IsUtf8 → IsUtf8 element.text → finished element ≡ as_gathered element
unfolding finished
gathered element name id text =
    let one = utf8_lossy-IsUtf8 (local_name element.name) (local_name-IsUtf8 element.name name) in
    let two = id-gathered element.id id in
    let three = utf8_lossy-IsUtf8 (trimmed element.text) (trimmed-IsUtf8 element.text text) in
    cc

opened-gathered : (r : Reader) → InTag r.top r.tag → finished (opened r) ≡ as_gathered (opened r)
unfolding opened
opened-gathered r h = gathered _ h.name h.id IsUtf8-nil

pub closing-gathered : (p : List ℕ) (mode : Mode) (r : Reader) → IsNamed r.top → AtMode p mode r.top r.tag r.piece → IfSome (closing mode r) (λ element. element.kept ≡ true → finished element ≡ as_gathered element)
closing-gathered p modes.EndName r named h = λ k. gathered r.top (named.name k) (named.id k) (h k)
closing-gathered p modes.AfterEndName r named h = λ k. gathered r.top (named.name k) (named.id k) (h k)
closing-gathered p modes.EmptyTag r named h = λ k. opened-gathered r h
closing-gathered p _ r named h = tt

mark_is : encode_utf8 0xFEFF ≡ mark
unfolding encode_utf8
mark_is = refl

marked : (bytes : List ℕ) → bytes_eq (take 3 bytes) mark ≡ true → bytes ≡ encode_utf8 0xFEFF ++ drop 3 bytes
marked bytes e = sym (take-append-drop 3 bytes) ∙ ap (λ (front : List ℕ). front ++ drop 3 bytes) ((bytes_eq-Decides (take 3 bytes) mark).0 e ∙ sym mark_is)

pub without_mark-IsUtf8 : (bytes : List ℕ) → IsUtf8 bytes → IsUtf8 (without_mark bytes)
unfolding without_mark
without_mark-IsUtf8 bytes u = elim (cases_Bool (bytes_eq (take 3 bytes) mark)) [
  | inl there ↦ rw there (IsUtf8-past_char bytes (drop 3 bytes) 0xFEFF u (marked bytes there))
  | inr none ↦ rw none u
]

pub nothing_is_replaced : NothingIsReplaced
nothing_is_replaced bytes before after reached u split reads =
    let whole : IsUtf8 (before ++ after) = subst (λ (bs : List ℕ). IsUtf8 bs) split (without_mark-IsUtf8 bytes u) in
    let s : IsGathered before reached = subst (λ result. IfOk result (IsGathered before)) reads (read_all-kept [] before after nothing_read whole nothing-kept) in
    closing-gathered before reached.mode reached s.top s.here
