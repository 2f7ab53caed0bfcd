-- Documents are read, and nothing else.
use Rattle.std.proofs.lemmas.List.{take_all}
use Rattle.std.proofs.Common.{◌≡◌, ℕ, zero, suc, ◌+◌, true, false, not, List, [], ◌∷◌, ◌++◌, append_assoc, length, take, Option, Some, None, Result, Ok, Err, refl, sym, ap, subst, ◌∙◌, arith, inl, inr}
use Rattle.std.specs.Prelude.{◌==◌, ◌⊎◌, nat_lt, IfOk, IfErr, IfSome}
use Rattle.std.specs.Char.{encode_utf8}
use Rattle.std.specs.List.{AllByRecursion}
use Rattle.std.proofs.lemmas.Bool.{eqb-true, eqb-false, not-false, ltb-false, both_ways, true≢false}
use Rattle.ror_text.specs.Reading.{◌>>=◌, refuse, read_all, Gives}
use Rattle.ror_text.proofs.ReadingLemmas.{bind_ok, refuse_ok, need_ok}
use Rattle.ror_elements.specs.declared.element.Element.{Element}
use Rattle.ror_elements.specs.declared.element.ElementError.{ElementError}
use Rattle.ror_elements.specs.declared.element.ElementFault.{ElementFault}
use Rattle.ror_elements.specs.declared.mode.Home.TheVariants as homes
use Rattle.ror_elements.specs.declared.mode.Mode.{Mode}
use Rattle.ror_elements.specs.declared.mode.Mode.TheVariants as modes
use Rattle.ror_elements.specs.declared.mode.Opening.{Opening}
use Rattle.ror_elements.specs.declared.mode.Opening.TheVariants as openings
use Rattle.ror_elements.specs.declared.open.Open.{Open}
use Rattle.ror_elements.specs.declared.reader.Reader.{Reader}
use Rattle.ror_elements.specs.Declarations.{nothing_declared, is_foreign}
use Rattle.ror_elements.specs.Elements.{line_after, finish, elements_of, without_mark}
use Rattle.ror_elements.specs.Faults.{element_fault}
use Rattle.ror_elements.specs.Grammar.{IsReference, IsPart, IsAround, IsInstruction, DeclaresUtf8, IsElement, IsDocument, IsNoDocument}
use Rattle.ror_elements.specs.Laws.{DocumentsAreRead, OneRoot}
use Rattle.ror_elements.specs.Marks.{is_white}
use Rattle.ror_elements.specs.Mode.{opening_text, is_byte_at, is_between}
use Rattle.ror_elements.specs.Open.{is_none, last_of}
use Rattle.ror_elements.specs.Reader.{nothing_read, whole_text, is_outside, outside, at_start, in_content, in_exclamation, begin, in_beginning}
use Rattle.ror_elements.specs.Tree.{Tree, tree_of}
use Rattle.ror_elements.proofs.BackContent.{in_markup_back, in_first_markup_back, in_instruction_back, in_first_instruction_back, in_comment_back, in_section_back, section_first, comment_first}
use Rattle.ror_elements.proofs.BackTags.{back_refuse, back_is, cons_both, in_tag_back, in_start_name_back, in_empty_tag_back, after_attribute_name_back, in_attribute_name_back, before_value_back, in_value_back, in_reference_back, after_end_name_back, in_end_name_back}
use Rattle.ror_elements.proofs.Behind.{BeforeRoot, BehindRoot, Content, InReference, Left, Back}
use Rattle.ror_elements.proofs.Declared.{known, declared_is_utf8}
use Rattle.ror_elements.proofs.DeclaredBack.{split_if, question_says_nothing}
use Rattle.ror_elements.proofs.Grown.{place_of, grown_text}
use Rattle.ror_elements.proofs.PlainReader.{plain, plain_act_in, run, IsRead, to_plain}
use Rattle.ror_elements.proofs.Prepend.{prepend_part, prepend_white}
use Rattle.ror_elements.proofs.ReadsLemmas.{reads_document}
use Rattle.ror_elements.proofs.Runs.{line_at, line_at-append, line_at-is, at, with_text}
use Rattle.ror_elements.proofs.StartRuns.{first_instruction, behind_first}
use Rattle.ror_elements.proofs.TagRuns.{text_added}

-- ---- behind `<!`

-- no byte of these is a line end
abbrev OnOneLine : List ℕ → Type 0
OnOneLine text = AllByRecursion (λ byte. (byte == 10) ≡ false) text

opening_line : (opening : Opening) → OnOneLine (opening_text opening)
opening_line openings.Comment = (refl, (refl, tt))
opening_line openings.Section = (refl, (refl, (refl, (refl, (refl, (refl, (refl, tt)))))))
opening_line openings.Doctype = (refl, (refl, (refl, (refl, (refl, (refl, (refl, tt)))))))

line_stays : (text : List ℕ) (count byte : ℕ) → OnOneLine text → is_byte_at text count byte ≡ true → (byte == 10) ≡ false
line_stays [] count byte h e = absurd cc
line_stays (x ∷ text) zero byte h e = subst (λ b. (b == 10) ≡ false) (eqb-true x byte e) h.0
line_stays (x ∷ text) (suc count) byte h e = line_stays text count byte h.1 e

pub take_one : (text : List ℕ) (count byte : ℕ) → is_byte_at text count byte ≡ true → take (suc count) text ≡ take count text ++ byte ∷ []
take_one [] count byte e = absurd cc
take_one (x ∷ text) zero byte e = ap (λ b. b ∷ []) (eqb-true x byte e)
take_one (x ∷ text) (suc count) byte e = ap (λ (xs : List ℕ). x ∷ xs) (take_one text count byte e)

take_next : (text : List ℕ) (count byte : ℕ) (bytes : List ℕ) → is_byte_at text count byte ≡ true → take (count + 1) text ++ bytes ≡ take count text ++ byte ∷ bytes
take_next text count byte bytes e =
    let next : count + 1 ≡ suc count = omega arith in
    ap (λ n. take n text ++ bytes) next ∙ ap (λ (xs : List ℕ). xs ++ bytes) (take_one text count byte e) ∙ append_assoc (take count text) (byte ∷ []) bytes

begin_back : (opening : Opening) (r : Reader) (line : ℕ) (bytes : List ℕ) (root : Tree) → Back line bytes root (begin opening r) → Content line r.top r.below (60 ∷ 33 ∷ opening_text opening ++ bytes) root
unfolding begin
begin_back openings.Comment r line bytes root h = comment_first line r.top r.below bytes root h
begin_back openings.Section r line bytes root h =
    let inside = back_refuse line bytes root _ (is_outside r) _ h in
    section_first line r.top r.below bytes root inside.0 inside.1
begin_back openings.Doctype r line bytes root h = absurd h

in_beginning_back : (opening : Opening) (count : ℕ) (r : Reader) (byte : ℕ) (bytes : List ℕ) (root : Tree) → Back (line_after r.line byte) bytes root (in_beginning opening count (record r { mode = modes.Beginning opening count }) byte)
    → Content r.line r.top r.below (60 ∷ 33 ∷ take count (opening_text opening) ++ byte ∷ bytes) root
unfolding in_beginning
in_beginning_back opening count r byte bytes root h =
    let text = opening_text opening in
    let tested = back_refuse (line_after r.line byte) bytes root _ (not (is_byte_at text count byte)) _ h in
    let is = not-false (is_byte_at text count byte) tested.0 in
    let same : line_after r.line byte ≡ r.line = rw (line_stays text count byte (opening_line opening) is) refl in
    let whole = take_next text count byte bytes is in
    let goal : (l : ℕ) → l ≡ r.line → Content l r.top r.below (60 ∷ 33 ∷ take (count + 1) text ++ bytes) root → Content r.line r.top r.below (60 ∷ 33 ∷ take count text ++ byte ∷ bytes) root = λ l e c.
    subst (λ (xs : List ℕ). Content r.line r.top r.below (60 ∷ 33 ∷ xs) root) whole (subst (λ n. Content n r.top r.below (60 ∷ 33 ∷ take (count + 1) text ++ bytes) root) e c)
    in
    elim (split_if (Back (line_after r.line byte) bytes root) (nat_lt (count + 1) (length text)) _ _ tested.1) [
      | inl goes ↦ goal (line_after r.line byte) same goes.1
      | inr ends ↦
          goal (line_after r.line byte) same
          (subst (λ (xs : List ℕ). Content (line_after r.line byte) r.top r.below (60 ∷ 33 ∷ xs ++ bytes) root) (sym (take_all (count + 1) text (ltb-false (count + 1) (length text) ends.0)))
          (begin_back opening (record r { mode = modes.Beginning opening count }) (line_after r.line byte) bytes root ends.1))
    ]

in_exclamation_back : (r : Reader) (byte : ℕ) (bytes : List ℕ) (root : Tree) → Back (line_after r.line byte) bytes root (in_exclamation (record r { mode = modes.Exclamation }) byte) → Content r.line r.top r.below (60 ∷ 33 ∷ byte ∷ bytes) root
unfolding in_exclamation
in_exclamation_back r byte bytes root h = elim (split_if (Back (line_after r.line byte) bytes root) (byte == 45) _ _ h) [
  | inl is ↦ begins 45 (eqb-true byte 45 is.0) (λ l. refl) is.1
  | inr other ↦ elim (split_if (Back (line_after r.line byte) bytes root) (byte == 91) _ _ other.1) [
    | inl is ↦ begins 91 (eqb-true byte 91 is.0) (λ l. refl) is.1
    | inr third ↦ elim (split_if (Back (line_after r.line byte) bytes root) (byte == 68) _ _ third.1) [
      | inl is ↦ begins 68 (eqb-true byte 68 is.0) (λ l. refl) is.1
      | inr none ↦ absurd none.1
    ]
  ]
]
  where
    begins : (n : ℕ) → byte ≡ n → ((l : ℕ) → line_after l n ≡ l) → Content (line_after r.line byte) r.top r.below (60 ∷ 33 ∷ n ∷ bytes) root → Content r.line r.top r.below (60 ∷ 33 ∷ byte ∷ bytes) root
    begins n is same c =
        subst (λ b. Content r.line r.top r.below (60 ∷ 33 ∷ b ∷ bytes) root) (sym is) (subst (λ l. Content l r.top r.below (60 ∷ 33 ∷ n ∷ bytes) root) (ap (line_after r.line) is ∙ same r.line) c)

-- ---- in content

reference_first : (line : ℕ) (top around : Open) (outer : List Open) (byte : ℕ) (bytes : List ℕ) (root : Tree) → byte ≡ 38
    → InReference [] (line_after line byte) bytes (λ l text rest. Content l (with_text top text) (around ∷ outer) rest root) → Content line top (around ∷ outer) (byte ∷ bytes) root
reference_first line top around outer byte bytes root is n =
    let first = 38 ∷ n.more ++ 59 ∷ [] in
    let lines : line_at (line_after line byte) n.more ≡ line_at line first = ap (λ b. line_at (line_after line b) n.more) is ∙ sym (line_at-append line n.more (59 ∷ [])) in
    subst (λ (xs : List ℕ). Content line top (around ∷ outer) xs root) (ap (λ (xs : List ℕ). 38 ∷ xs) (append_assoc n.more (59 ∷ []) n.rest) ∙ sym (cons_both byte 38 bytes (n.more ++ 59 ∷ n.rest) is n.split))
    (prepend_part line top around outer first n.rest (encode_utf8 n.code) [] root (IsPart.character (length (around ∷ outer)) (place_of top) line first n.code (IsReference.reference n.more n.code n.names))
    (subst (λ (t : Open). Content (line_at line first) t (around ∷ outer) n.rest root) (grown_text top (encode_utf8 n.code))
    (subst (λ l. Content l (with_text top (encode_utf8 n.code)) (around ∷ outer) n.rest root) lines n.later)))

in_content_back : (line : ℕ) (top : Open) (below : List Open) (j : Reader) (byte : ℕ) (bytes : List ℕ) (root : Tree) → Back (line_after line byte) bytes root (in_content (at modes.Content line top below j) byte) → Content line top below (byte ∷ bytes) root
unfolding in_content outside
in_content_back line top [] j byte bytes root h = elim (split_if (Back (line_after line byte) bytes root) (byte == 60) _ _ h) [
  | inl is ↦
      let same = eqb-true byte 60 is.0 in
      let next = subst (λ b. line ≡ line_after line b → Content (line_after line b) top [] (60 ∷ bytes) root) same is.1 in
      subst (λ b. Content line top [] (b ∷ bytes) root) (sym same) (next refl)
  | inr other ↦
      let white = back_refuse (line_after line byte) bytes root _ (not (is_white byte)) _ other.1 in
      prepend_white line byte top bytes root (not-false (is_white byte) white.0) white.1
]
in_content_back line top (around ∷ outer) j byte bytes root h = elim (split_if (Back (line_after line byte) bytes root) (byte == 60) _ _ h) [
  | inl is ↦
      let same = eqb-true byte 60 is.0 in
      let next = subst (λ b. line ≡ line_after line b → Content (line_after line b) top (around ∷ outer) (60 ∷ bytes) root) same is.1 in
      subst (λ b. Content line top (around ∷ outer) (b ∷ bytes) root) (sym same) (next refl)
  | inr other ↦ elim (split_if (Back (line_after line byte) bytes root) (byte == 38) _ _ other.1) [
    | inl is ↦ reference_first line top around outer byte bytes root (eqb-true byte 38 is.0) is.1
    | inr plain_byte ↦
        let next = back_is (line_after line byte) bytes root _ _ (text_added (at modes.Content line top (around ∷ outer) j) (byte ∷ [])) plain_byte.1 in
        prepend_part line top around outer (byte ∷ []) bytes (byte ∷ []) [] root (IsPart.plain (length (around ∷ outer)) (place_of top) line byte (eqb-false byte 60 other.0) (eqb-false byte 38 plain_byte.0))
        (subst (λ (t : Open). Content (line_after line byte) t (around ∷ outer) bytes root) (grown_text top (byte ∷ [])) next)
  ]
]

-- ---- each byte

at_start_back : (byte : ℕ) (bytes : List ℕ) (root : Tree) → Back (line_after 1 byte) bytes root (at_start nothing_read byte) → Content 1 whole_text [] (byte ∷ bytes) root
unfolding at_start in_content outside
at_start_back byte bytes root h = elim (split_if (Back (line_after 1 byte) bytes root) (byte == 60) _ _ h) [
  | inl is ↦
      let same = eqb-true byte 60 is.0 in
      let next = subst (λ b. 1 ≡ line_after 1 b → Content (line_after 1 b) whole_text [] (60 ∷ bytes) root) same is.1 in
      subst (λ b. Content 1 whole_text [] (b ∷ bytes) root) (sym same) (next refl)
  | inr other ↦ elim (split_if (Back (line_after 1 byte) bytes root) (byte == 60) _ _ other.1) [
    | inl is ↦ absurd (both_ways (byte == 60) other.0 is.0)
    | inr again ↦
        let white = back_refuse (line_after 1 byte) bytes root _ (not (is_white byte)) _ again.1 in
        prepend_white 1 byte whole_text bytes root (not-false (is_white byte) white.0) white.1
  ]
]

left_step : (mode : Mode) (r : Reader) (byte : ℕ) (bytes : List ℕ) (root : Tree) → Back (line_after r.line byte) bytes root (plain_act_in mode (record r { mode = mode }) byte) → Left mode r (byte ∷ bytes) root
left_step modes.Start r byte bytes root h = tt
left_step modes.Content r byte bytes root h = in_content_back r.line r.top r.below r byte bytes root h
left_step modes.FirstMarkup r byte bytes root h = in_first_markup_back r byte bytes root h
left_step modes.Markup r byte bytes root h = in_markup_back r byte bytes root h
left_step modes.Exclamation r byte bytes root h = in_exclamation_back r byte bytes root h
left_step (modes.Beginning opening count) r byte bytes root h = in_beginning_back opening count r byte bytes root h
left_step (modes.Comment s) r byte bytes root h = in_comment_back s r byte bytes root h
left_step (modes.Section s) r byte bytes root h = in_section_back s r byte bytes root h
left_step (modes.FirstInstruction question) r byte bytes root h = in_first_instruction_back question r byte bytes root h
left_step (modes.Instruction question) r byte bytes root h = in_instruction_back question r byte bytes root h
left_step modes.EndName r byte bytes root h = in_end_name_back r byte bytes root h
left_step modes.AfterEndName r byte bytes root h = after_end_name_back (record r { mode = modes.AfterEndName }) byte bytes root h
left_step modes.StartName r byte bytes root h = in_start_name_back r byte bytes root h
left_step (modes.Tag spaced) r byte bytes root h = in_tag_back spaced (record r { mode = modes.Tag spaced }) byte bytes root h
left_step modes.EmptyTag r byte bytes root h = in_empty_tag_back r byte bytes root h
left_step modes.AttributeName r byte bytes root h = in_attribute_name_back r byte bytes root h
left_step modes.AfterAttributeName r byte bytes root h = after_attribute_name_back (record r { mode = modes.AfterAttributeName }) byte bytes root h
left_step modes.BeforeValue r byte bytes root h = before_value_back r byte bytes root h
left_step (modes.Value quote) r byte bytes root h = in_value_back quote r byte bytes root h
left_step (modes.Reference homes.Text) r byte bytes root h = in_reference_back homes.Text r byte bytes root h
left_step (modes.Reference (homes.Value quote)) r byte bytes root h = in_reference_back (homes.Value quote) r byte bytes root h

-- a byte that is read, and what is behind it
stepped : (acted : Result Reader ElementFault) (line : ℕ) (next : Reader) (bytes : List ℕ) (root : Tree) → (acted >>= λ r. Ok (record r { line = line })) ≡ Ok next → Left next.mode next bytes root → Back line bytes root acted
stepped (Ok r) line next bytes root e h = let same : record r { line = line } ≡ next = cc in subst (λ (x : Reader). Left x.mode x bytes root) (sym same) h
stepped (Err fault) line next bytes root e h = absurd cc

-- where a text ends
some_children : (children : List Tree) (root : Tree) → last_of children ≡ Some root → is_none children ≡ false
some_children [] root e = absurd cc
some_children (t ∷ ts) root e = refl

content_ends : (line : ℕ) (top : Open) (below : List Open) (root : Tree) → not (is_none below) ≡ false → last_of top.children ≡ Some root → Content line top below [] root
content_ends line top [] root e last = λ place. inr (record { some = some_children top.children root last; last = last; is_after = IsAround.nothing })
content_ends line top (around ∷ outer) root e last = absurd cc

mode_ends : (mode : Mode) (r : Reader) (root : Tree) → not (is_between mode) ≡ false → not (is_none r.below) ≡ false → last_of r.top.children ≡ Some root → Left mode r [] root
mode_ends modes.Content r root b e last = content_ends r.line r.top r.below root e last
mode_ends modes.Start r root b e last = tt
mode_ends modes.FirstMarkup r root b e last = absurd cc
mode_ends modes.Markup r root b e last = absurd cc
mode_ends modes.Exclamation r root b e last = absurd cc
mode_ends (modes.Beginning opening count) r root b e last = absurd cc
mode_ends (modes.Comment s) r root b e last = absurd cc
mode_ends (modes.Section s) r root b e last = absurd cc
mode_ends (modes.FirstInstruction question) r root b e last = absurd cc
mode_ends (modes.Instruction question) r root b e last = absurd cc
mode_ends modes.EndName r root b e last = absurd cc
mode_ends modes.AfterEndName r root b e last = absurd cc
mode_ends modes.StartName r root b e last = absurd cc
mode_ends (modes.Tag spaced) r root b e last = absurd cc
mode_ends modes.EmptyTag r root b e last = absurd cc
mode_ends modes.AttributeName r root b e last = absurd cc
mode_ends modes.AfterAttributeName r root b e last = absurd cc
mode_ends modes.BeforeValue r root b e last = absurd cc
mode_ends (modes.Value quote) r root b e last = absurd cc
mode_ends (modes.Reference homes.Text) r root b e last = absurd cc
mode_ends (modes.Reference (homes.Value quote)) r root b e last = absurd cc

at_end : (r : Reader) (root : Tree) → finish r ≡ Ok root → Left r.mode r [] root
unfolding finish
at_end r root e =
    let between = bind_ok (refuse _ (not (is_between r.mode))) _ root e in
    let outside = bind_ok (refuse _ (not (is_outside r))) _ root between.2 in
    mode_ends r.mode r root (refuse_ok _ (not (is_between r.mode)) between.0 between.1) (refuse_ok _ (not (is_outside r)) outside.0 outside.1) (need_ok _ (last_of r.top.children) root outside.2)

left : (bytes : List ℕ) (r last : Reader) (root : Tree) → run r bytes ≡ Ok last → finish last ≡ Ok root → Left r.mode r bytes root
unfolding run plain
left [] r last root e f = let same : r ≡ last = cc in at_end r root (ap finish same ∙ f)
left (byte ∷ bytes) r last root e f =
    let first = bind_ok (plain r byte) (λ next. read_all plain next bytes) last e in
    left_step r.mode r byte bytes root (stepped (plain_act_in r.mode r byte) (line_after r.line byte) first.0 bytes root first.1 (left bytes first.0 last root first.2 f))

-- ---- a whole text

pub content_of : (text : List ℕ) (last : Reader) (root : Tree) → run nothing_read text ≡ Ok last → finish last ≡ Ok root → Content 1 whole_text [] text root
unfolding run plain finish
content_of [] last root e f = let same : nothing_read ≡ last = cc in let none : finish nothing_read ≡ Ok root = ap finish same ∙ f in absurd cc
content_of (byte ∷ bytes) last root e f =
    let first = bind_ok (plain nothing_read byte) (λ next. read_all plain next bytes) last e in
    at_start_back byte bytes root (stepped (at_start nothing_read byte) (line_after 1 byte) first.0 bytes root first.1 (left bytes first.0 last root first.2 f))

-- an instruction with which a text begins declares no other encoding
pub declares_utf8 : (text : List ℕ) (root : Tree) → (run nothing_read text >>= finish) ≡ Ok root → DeclaresUtf8 text
declares_utf8 text root reads first rest inside encoding split (IsInstruction.instruction within h) d =
    let k = known nothing_declared (within ++ 63 ∷ []) in
    let line = line_at 1 (60 ∷ 63 ∷ within ++ 63 ∷ 62 ∷ []) in
    let whole : (behind_first line k nothing_read rest >>= finish) ≡ Ok root = ap (λ reading. reading >>= finish) (sym (first_instruction within rest h)) ∙ ap (λ (xs : List ℕ). run nothing_read xs >>= finish) (sym split) ∙ reads in
    let all = bind_ok (behind_first line k nothing_read rest) finish root whole in
    let tested = bind_ok (refuse _ (is_foreign k)) _ all.0 all.1 in
    declared_is_utf8 inside encoding d (sym (question_says_nothing within) ∙ refuse_ok _ (is_foreign k) tested.0 tested.1)

document_of : (bytes : List ℕ) (root : Tree) → IsRead bytes root → ((whole_text.children ≡ []) × BeforeRoot 1 (without_mark bytes) root) ⊎ BehindRoot whole_text.children (without_mark bytes) root → IsDocument bytes root
document_of bytes root r (inl h) =
    let b = h.1 in
    record {
      utf8 = r.utf8;
      clean = r.clean;
      declared = declares_utf8 (without_mark bytes) root r.reads;
      before = b.before;
      element = b.element;
      after = b.after;
      whole = b.split;
      is_before = b.is_before;
      is_root = subst (λ l. IsElement 0 (Some []) l b.element (root ∷ [])) (line_at-is 1 b.before) b.is_root;
      is_named = b.is_named;
      is_after = b.is_after;
    }
document_of bytes root r (inr b) = absurd (true≢false b.some)

document_read : (bytes : List ℕ) (root : Tree) → elements_of bytes ≡ Ok root → IsDocument bytes root
document_read bytes root e =
    let r = to_plain bytes root e in
    let all = bind_ok (run nothing_read (without_mark bytes)) finish root r.reads in
    document_of bytes root r (content_of (without_mark bytes) all.0 root all.1 all.2 refl)

pub documents_are_read : DocumentsAreRead
documents_are_read bytes root = (document_read bytes root, reads_document bytes root)

pub one_root : OneRoot
one_root bytes root other a b = let same : ◌≡◌ {A = Result Tree ElementFault} (Ok root) (Ok other) = sym (reads_document bytes root a) ∙ reads_document bytes other b in cc

-- ---- what a call gives

pub given_document : (bytes : List ℕ) (result : Result Element ElementError) → Gives tree_of element_fault result (elements_of bytes) → IfOk result (λ root. IsDocument bytes (tree_of root))
given_document bytes (Ok root) exact = document_read bytes (tree_of root) exact
given_document bytes (Err error) exact = tt

no_document : (bytes : List ℕ) (fault : Option ElementFault) → IfSome fault (λ f. elements_of bytes ≡ Err f) → IfSome fault (λ _. IsNoDocument bytes)
no_document bytes None e = tt
no_document bytes (Some f) e = λ root d. let clash : ◌≡◌ {A = Result Tree ElementFault} (Ok root) (Err f) = sym (reads_document bytes root d) ∙ e in absurd cc

pub given_fault : (bytes : List ℕ) (result : Result Element ElementError) → Gives tree_of element_fault result (elements_of bytes) → IfErr result (λ error. IfSome (element_fault error) (λ _. IsNoDocument bytes))
given_fault bytes (Ok root) exact = tt
given_fault bytes (Err error) exact = no_document bytes (element_fault error) exact
