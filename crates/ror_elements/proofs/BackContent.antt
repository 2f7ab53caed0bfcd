-- A byte outside of tags, in front of what is behind it.
use Rattle.std.proofs.Common.{◌≡◌, ℕ, ◌-◌, ◌<◌, Bool, true, false, not, List, [], ◌∷◌, ◌++◌, append_assoc, append-nil, length, take, Option, Ok, refl, sym, ap, subst, ◌∙◌, arith, inl, inr}
use Rattle.std.specs.Prelude.{◌==◌, ◌&&◌, ◌⊎◌}
use Rattle.std.specs.List.{AllByRecursion, list_any}
use Rattle.std.specs.Str.{bytes_eq}
use Rattle.std.proofs.lemmas.Bool.{eqb-true, eqb-false, not-false, or_right, both_ways}
use Rattle.std.proofs.lemmas.Slice.Eq.{bytes_eq-Decides}
use Rattle.ror_elements.specs.declared.mode.Mode.TheVariants as modes
use Rattle.ror_elements.specs.declared.mode.Seen.{Seen}
use Rattle.ror_elements.specs.declared.mode.Seen.TheVariants as seen
use Rattle.ror_elements.specs.declared.open.Open.{Open}
use Rattle.ror_elements.specs.declared.reader.Reader.{Reader}
use Rattle.ror_elements.specs.declared.reader.Tag.{Tag}
use Rattle.ror_elements.specs.Declarations.{is_foreign}
use Rattle.ror_elements.specs.Elements.{line_after}
use Rattle.ror_elements.specs.Grammar.{IsSpace, Attribute, AreAttributes, AreDistinct, value_of, IsTag, IsEndTag, IsComment, IsInstruction, IsSection, IsPassedOver, IsContent, IsPart}
use Rattle.ror_elements.specs.Marks.{is_name_byte, local_name}
use Rattle.ror_elements.specs.Mode.{is_ended_by, seen_after}
use Rattle.ror_elements.specs.Open.{is_none}
use Rattle.ror_elements.specs.Reader.{is_outside, is_behind_root, begin_tag, begin_end_tag, in_markup, in_first_markup, in_comment, without_brackets, in_section, in_instruction, end_first_instruction, in_first_instruction}
use Rattle.ror_elements.specs.Tags.{id_name, root_name}
use Rattle.ror_elements.specs.Tree.{Tree}
use Rattle.ror_elements.proofs.BackTags.{back_refuse, back_is, cons_both}
use Rattle.ror_elements.proofs.Behind.{Content, Ends, EndsQuestion, cut, Ending, Attributes, InStartName, InEndName, UpTo, InSection, Left, Back}
use Rattle.ror_elements.proofs.DeclaredBack.{split_if}
use Rattle.ror_elements.proofs.ElementRuns.{opened_as, named_tag}
use Rattle.ror_elements.proofs.EndsLemmas.{ends_before, question_before}
use Rattle.ror_elements.proofs.Grown.{grown, place_of, grown_text, grown_nothing}
use Rattle.ror_elements.proofs.PlainReader.{around_closed}
use Rattle.ror_elements.proofs.Prepend.{Here, prepend_part, prepend_passed, prepend_empty, prepend_whole}
use Rattle.ror_elements.proofs.Runs.{line_at, line_at-append, with_text, closing_mark, question_end, take_front}
use Rattle.ror_elements.proofs.TagRuns.{push_if, text_added, with_attributes, AreFresh, names_of, id_is, tag_name_stays}

-- ---- a start tag

-- attributes, and white space behind them
pub record Written (front : List ℕ) (list : List Attribute) : Type 0 where
  pub written : List ℕ
  pub space : List ℕ
  pub split : front ≡ written ++ space
  pub attributes : AreAttributes written list
  pub is_space : IsSpace space

no_gap : (space : List ℕ) → (false ≡ true) ⊎ ¬ (space ≡ []) → ¬ (space ≡ [])
no_gap space (inl e) = absurd cc
no_gap space (inr h) = h

pub written_of : (front : List ℕ) (list : List Attribute) → Attributes false front list → Written front list
written_of front list (Attributes.ends s space w) = record { written = []; space = front; split = refl; attributes = AreAttributes.nothing; is_space = w }
written_of front list (Attributes.next s space first rest a others w gap is more) =
    let h = written_of rest others more in
    record {
      written = space ++ (first ++ h.written);
      space = h.space;
      split = ap (λ (xs : List ℕ). space ++ (first ++ xs)) h.split ∙ ap (λ (xs : List ℕ). space ++ xs) (sym (append_assoc first h.written h.space)) ∙ sym (append_assoc space (first ++ h.written) h.space);
      attributes = AreAttributes.more space first h.written a others (w, no_gap space gap) is h.attributes;
      is_space = h.is_space;
    }

any_there : (name : List ℕ) (before behind : List (List ℕ)) → list_any (bytes_eq name) (before ++ name ∷ behind) ≡ true
any_there name [] behind = rw ((bytes_eq-Decides name name).1 refl) refl
any_there name (x ∷ before) behind = or_right (bytes_eq name x) _ (any_there name before behind)

apart_from : (name : List ℕ) (before behind names : List (List ℕ)) → AreFresh (before ++ name ∷ behind) names → AllByRecursion (λ other. ¬ (name ≡ other)) names
apart_from name before behind [] h = tt
apart_from name before behind (other ∷ names) h = (
  λ same. both_ways (list_any (bytes_eq other) (before ++ name ∷ behind)) h.0 (subst (λ (n : List ℕ). list_any (bytes_eq n) (before ++ name ∷ behind) ≡ true) same (any_there name before behind)),
  apart_from name before (behind ++ other ∷ []) names (subst (λ (ns : List (List ℕ)). AreFresh ns names) (append_assoc before (name ∷ behind) (other ∷ [])) h.1),
)

distinct_from : (before names : List (List ℕ)) → AreFresh before names → AreDistinct names
distinct_from before [] h = tt
distinct_from before (name ∷ names) h = (apart_from name before [] names h.1, distinct_from (before ++ name ∷ []) names h.1)

none_of : (children : List Tree) → not (is_none children) ≡ false → children ≡ []
none_of [] e = refl
none_of (t ∷ ts) e = absurd cc

here_of : (top : Open) (below : List Open) (name : List ℕ) → (is_none below && not (is_none top.children)) ≡ false → (is_none below && not (bytes_eq (local_name name) root_name)) ≡ false → Here top below name
here_of top [] name first form = (none_of top.children first, (bytes_eq-Decides (local_name name) root_name).0 (not-false (bytes_eq (local_name name) root_name) form))
here_of top (around ∷ outer) name first form = tt

-- a tag with each of its endings
tag_ends : (line : ℕ) (top : Open) (below : List Open) (whole rest : List ℕ) (root : Tree) (last : ℕ) (tag : Tag) (name : List ℕ) (id : Option (List ℕ)) (bytes_of : List ℕ → List ℕ) → length below < 64 → Here top below name
    → tag.name ≡ name → tag.id ≡ id → ((ending : List ℕ) → IsTag ending (bytes_of ending) name id) → ((ending more : List ℕ) → rest ≡ ending ++ more → whole ≡ bytes_of ending ++ more)
    → ((ending : List ℕ) → ((l : ℕ) → line_at l ending ≡ l) → last ≡ line_at line (bytes_of ending)) → Ending last line top below tag rest root → Content line top below whole root
tag_ends line top below whole rest root last tag name id bytes_of few here named is_id is_tag splits lines (inl h) =
    subst (λ (xs : List ℕ). Content line top below xs root) (sym (splits (62 ∷ []) h.0 h.1))
    (prepend_whole line top below (bytes_of (62 ∷ [])) h.0 name id root few here (is_tag (62 ∷ []))
    (subst (λ l. Content l (opened_as top name id line) (top ∷ below) h.0 root) (lines (62 ∷ []) (λ l. refl))
    (subst (λ (i : Option (List ℕ)). Content last (opened_as top name i line) (top ∷ below) h.0 root) is_id
    (subst (λ (n : List ℕ). Content last (opened_as top n tag.id line) (top ∷ below) h.0 root) named h.2))))
tag_ends line top below whole rest root last tag name id bytes_of few here named is_id is_tag splits lines (inr h) =
    let e = h.2 in
    subst (λ (xs : List ℕ). Content line top below xs root) (sym (splits (47 ∷ 62 ∷ []) e.0 (h.1 ∙ ap (λ (xs : List ℕ). 47 ∷ xs) e.1)))
    (prepend_empty line top below (bytes_of (47 ∷ 62 ∷ [])) e.0 name id root few here (is_tag (47 ∷ 62 ∷ []))
    (subst (λ l. Content l (around_closed (opened_as top name id line) top) below e.0 root) (lines (47 ∷ 62 ∷ []) (λ l. refl))
    (subst (λ (i : Option (List ℕ)). Content last (around_closed (opened_as top name i line) top) below e.0 root) is_id
    (subst (λ (n : List ℕ). Content last (around_closed (opened_as top n tag.id line) top) below e.0 root) named e.2))))

-- a start tag or an empty tag in front of what is behind it
start_first : (line : ℕ) (top : Open) (below : List Open) (byte : ℕ) (bytes : List ℕ) (root : Tree) → is_name_byte byte ≡ true → ¬ (byte ≡ 33) → ¬ (byte ≡ 63) → (is_none below && not (is_none top.children)) ≡ false
    → InStartName (byte ∷ []) (line_after line byte) line top below bytes root → Content line top below (60 ∷ byte ∷ bytes) root
start_first line top below byte bytes root is a b first n =
    let t = n.later in
    let name = byte ∷ n.more in
    let tag = with_attributes (named_tag name) t.list in
    let w = written_of t.front t.list t.attributes in
    let distinct = distinct_from [] (names_of t.list) t.is_fresh in
    let named : tag.name ≡ name = tag_name_stays (named_tag name) t.list in
    let id : tag.id ≡ value_of id_name t.list = id_is (named_tag name) t.list distinct refl in
    let here = here_of top below name first (subst (λ (x : List ℕ). (is_none below && not (bytes_eq (local_name x) root_name)) ≡ false) named t.is_formed) in
    let is_tag : (ending : List ℕ) → IsTag ending (60 ∷ name ++ (w.written ++ (w.space ++ ending))) name (value_of id_name t.list) = λ ending.
    IsTag.tag name w.written w.space t.list ((is, n.is_name), λ none. absurd cc) (a, b) w.attributes distinct w.is_space
    in
    let whole : (ending rest : List ℕ) → t.rest ≡ ending ++ rest → 60 ∷ byte ∷ bytes ≡ (60 ∷ name ++ (w.written ++ (w.space ++ ending))) ++ rest = λ ending rest e.
    ap (λ (xs : List ℕ). 60 ∷ byte ∷ xs) (n.split
    ∙ ap (λ (xs : List ℕ). n.more ++ xs) (t.split ∙ ap (λ (xs : List ℕ). xs ++ t.rest) w.split ∙ append_assoc w.written w.space t.rest ∙ ap (λ (xs : List ℕ). w.written ++ (w.space ++ xs)) e))
    ∙ sym (append_assoc (60 ∷ name) (w.written ++ (w.space ++ ending)) rest
    ∙ ap (λ (xs : List ℕ). 60 ∷ name ++ xs) (append_assoc w.written (w.space ++ ending) rest ∙ ap (λ (xs : List ℕ). w.written ++ xs) (append_assoc w.space ending rest)))
    in
    let lines : (ending : List ℕ) → ((l : ℕ) → line_at l ending ≡ l) → line_at (line_at (line_after line byte) n.more) t.front ≡ line_at line (60 ∷ name ++ (w.written ++ (w.space ++ ending))) = λ ending none.
    ap (λ (xs : List ℕ). line_at (line_at (line_after line byte) n.more) xs) w.split
    ∙ line_at-append (line_at (line_after line byte) n.more) w.written w.space
    ∙ sym (line_at-append (line_after line byte) n.more (w.written ++ (w.space ++ ending))
    ∙ line_at-append (line_at (line_after line byte) n.more) w.written (w.space ++ ending)
    ∙ line_at-append (line_at (line_at (line_after line byte) n.more) w.written) w.space ending
    ∙ none _)
    in
    tag_ends line top below (60 ∷ byte ∷ bytes) t.rest root (line_at (line_at (line_after line byte) n.more) t.front) tag name (value_of id_name t.list) (λ ending. 60 ∷ name ++ (w.written ++ (w.space ++ ending))) n.few here named id is_tag whole lines t.later

-- ---- behind `<`

end_name_of : (line : ℕ) (top : Open) (below : List Open) (bytes : List ℕ) (root : Tree) → InEndName [] line top below bytes root → Content line top below (60 ∷ 47 ∷ bytes) root
end_name_of line top [] bytes root n = absurd n.later.later
end_name_of line top (around ∷ outer) bytes root n =
    let s = n.later in
    let end = 60 ∷ 47 ∷ n.more ++ (s.space ++ 62 ∷ []) in (
      [],
      end,
      s.rest,
      [],
      [],
      ap (λ (xs : List ℕ). 60 ∷ 47 ∷ xs) (n.split ∙ ap (λ (xs : List ℕ). n.more ++ xs) s.split ∙ sym (append_assoc n.more (s.space ++ 62 ∷ []) s.rest ∙ ap (λ (xs : List ℕ). n.more ++ xs) (append_assoc s.space (62 ∷ []) s.rest))),
      IsContent.nothing (length (around ∷ outer)) (place_of top) line,
      subst (λ (name : List ℕ). IsEndTag end name) n.is_name (IsEndTag.end n.more s.space s.is_space),
      subst (λ (t : Open). Content (line_at line end) (around_closed t around) outer s.rest root) (grown_nothing top)
          (subst (λ l. Content l (around_closed top around) outer s.rest root) (sym (line_at-append line n.more (s.space ++ 62 ∷ []) ∙ line_at-append (line_at line n.more) s.space (62 ∷ []))) s.later),
    )

instruction_first : (line : ℕ) (top : Open) (below : List Open) (bytes : List ℕ) (root : Tree) → UpTo (EndsQuestion false) line top below bytes root → Content line top below (60 ∷ 63 ∷ bytes) root
instruction_first line top below bytes root u =
    let b = question_before u.inside false u.ends in
    let first = 60 ∷ 63 ∷ b.bytes ++ question_end in
    subst (λ (xs : List ℕ). Content line top below xs root) (ap (λ (xs : List ℕ). 60 ∷ 63 ∷ (xs ++ u.rest)) (sym b.split) ∙ ap (λ (xs : List ℕ). 60 ∷ 63 ∷ xs) (sym u.split))
    (prepend_passed line top below first u.rest root (IsPassedOver.instruction first b.bytes (IsInstruction.instruction b.bytes b.is_first))
    (subst (λ (xs : List ℕ). Content (line_at line xs) top below u.rest root) b.split u.later))

begin_tag_back : (r : Reader) (byte : ℕ) (bytes : List ℕ) (root : Tree) → ¬ (byte ≡ 33) → ¬ (byte ≡ 63) → Back (line_after r.line byte) bytes root (begin_tag (record r { mode = modes.Markup }) byte) → r.start ≡ r.line → Content r.line r.top r.below (60 ∷ byte ∷ bytes) root
unfolding begin_tag
begin_tag_back r byte bytes root a b h start =
    let named = back_refuse (line_after r.line byte) bytes root _ (not (is_name_byte byte)) _ h in
    let first = back_refuse (line_after r.line byte) bytes root _ (is_behind_root r) _ named.1 in
    start_first r.line r.top r.below byte bytes root (not-false (is_name_byte byte) named.0) a b first.0
    (subst (λ s. InStartName (byte ∷ []) (line_after r.line byte) s r.top r.below bytes root) start first.1)

end_tag_back : (r : Reader) (byte : ℕ) (bytes : List ℕ) (root : Tree) → byte ≡ 47 → Back (line_after r.line byte) bytes root (begin_end_tag (record r { mode = modes.Markup })) → Content r.line r.top r.below (60 ∷ byte ∷ bytes) root
end_tag_back r byte bytes root is h =
    let inside = back_refuse (line_after r.line byte) bytes root _ (is_outside r) _ h in
    subst (λ b. Content r.line r.top r.below (60 ∷ b ∷ bytes) root) (sym is) (end_name_of r.line r.top r.below bytes root (subst (λ b. InEndName [] (line_after r.line b) r.top r.below bytes root) is inside.1))

pub in_markup_back : (r : Reader) (byte : ℕ) (bytes : List ℕ) (root : Tree) → Back (line_after r.line byte) bytes root (in_markup (record r { mode = modes.Markup }) byte) → r.start ≡ r.line → Content r.line r.top r.below (60 ∷ byte ∷ bytes) root
unfolding in_markup
in_markup_back r byte bytes root h start = elim (split_if (Back (line_after r.line byte) bytes root) (byte == 33) _ _ h) [
  | inl is ↦
      let same = eqb-true byte 33 is.0 in
      subst (λ b. Content r.line r.top r.below (60 ∷ b ∷ bytes) root) (sym same) (subst (λ b. Content (line_after r.line b) r.top r.below (60 ∷ 33 ∷ bytes) root) same is.1)
  | inr other ↦ elim (split_if (Back (line_after r.line byte) bytes root) (byte == 63) _ _ other.1) [
    | inl is ↦
        let same = eqb-true byte 63 is.0 in
        subst (λ b. Content r.line r.top r.below (60 ∷ b ∷ bytes) root) (sym same) (instruction_first r.line r.top r.below bytes root (subst (λ b. UpTo (EndsQuestion false) (line_after r.line b) r.top r.below bytes root) same is.1))
    | inr third ↦ elim (split_if (Back (line_after r.line byte) bytes root) (byte == 47) _ _ third.1) [
      | inl is ↦ end_tag_back r byte bytes root (eqb-true byte 47 is.0) is.1
      | inr last ↦ begin_tag_back r byte bytes root (eqb-false byte 33 other.0) (eqb-false byte 63 third.0) last.1 start
    ]
  ]
]

same_in_markup : (r : Reader) (byte : ℕ) → in_markup (record r { mode = modes.FirstMarkup }) byte ≡ in_markup (record r { mode = modes.Markup }) byte
unfolding in_markup begin_tag
same_in_markup r byte = refl

pub in_first_markup_back : (r : Reader) (byte : ℕ) (bytes : List ℕ) (root : Tree) → Back (line_after r.line byte) bytes root (in_first_markup (record r { mode = modes.FirstMarkup }) byte) → r.start ≡ r.line → Content r.line r.top r.below (60 ∷ byte ∷ bytes) root
unfolding in_first_markup
in_first_markup_back r byte bytes root h start = elim (split_if (Back (line_after r.line byte) bytes root) (byte == 63) _ _ h) [
  | inl is ↦
      let same = eqb-true byte 63 is.0 in
      subst (λ b. Content r.line r.top r.below (60 ∷ b ∷ bytes) root) (sym same) (instruction_first r.line r.top r.below bytes root (subst (λ b. UpTo (EndsQuestion false) (line_after r.line b) r.top r.below bytes root) same is.1))
  | inr other ↦ in_markup_back r byte bytes root (subst (Back (line_after r.line byte) bytes root) (same_in_markup r byte) other.1) start
]

-- ---- instructions and comments

pub in_instruction_back : (question : Bool) (r : Reader) (byte : ℕ) (bytes : List ℕ) (root : Tree) → Back (line_after r.line byte) bytes root (Ok (in_instruction question (record r { mode = modes.Instruction question }) byte)) → UpTo (EndsQuestion question) r.line r.top r.below (byte ∷ bytes) root
unfolding in_instruction
in_instruction_back question r byte bytes root h = elim (split_if (λ (x : Reader). Left x.mode (record x { line = line_after r.line byte }) bytes root) (question && byte == 62) _ _ h) [
  | inl ends ↦ record { inside = byte ∷ []; rest = bytes; split = refl; ends = EndsQuestion.last question byte ends.0; later = ends.1 }
  | inr goes ↦
      let u = goes.1 in
      record { inside = byte ∷ u.inside; rest = u.rest; split = ap (λ (xs : List ℕ). byte ∷ xs) u.split; ends = EndsQuestion.more question byte u.inside goes.0 u.ends; later = u.later }
]

pub in_first_instruction_back : (question : Bool) (r : Reader) (byte : ℕ) (bytes : List ℕ) (root : Tree) → Back (line_after r.line byte) bytes root (in_first_instruction question (record r { mode = modes.FirstInstruction question }) byte) → UpTo (EndsQuestion question) r.line r.top r.below (byte ∷ bytes) root
unfolding in_first_instruction end_first_instruction
in_first_instruction_back question r byte bytes root h = elim (split_if (Back (line_after r.line byte) bytes root) (question && byte == 62) _ _ h) [
  | inl ends ↦
      let tested = back_refuse (line_after r.line byte) bytes root _ (is_foreign r.declaration) _ ends.1 in
      record { inside = byte ∷ []; rest = bytes; split = refl; ends = EndsQuestion.last question byte ends.0; later = tested.1 }
  | inr goes ↦
      let u = goes.1 in
      record { inside = byte ∷ u.inside; rest = u.rest; split = ap (λ (xs : List ℕ). byte ∷ xs) u.split; ends = EndsQuestion.more question byte u.inside goes.0 u.ends; later = u.later }
]

pub in_comment_back : (s : Seen) (r : Reader) (byte : ℕ) (bytes : List ℕ) (root : Tree) → Back (line_after r.line byte) bytes root (Ok (in_comment s (record r { mode = modes.Comment s }) byte)) → UpTo (Ends 45 s) r.line r.top r.below (byte ∷ bytes) root
unfolding in_comment
in_comment_back s r byte bytes root h = elim (split_if (λ (x : Reader). Left x.mode (record x { line = line_after r.line byte }) bytes root) (is_ended_by s byte) _ _ h) [
  | inl ends ↦ record { inside = byte ∷ []; rest = bytes; split = refl; ends = Ends.last s byte ends.0; later = ends.1 }
  | inr goes ↦
      let u = goes.1 in
      record { inside = byte ∷ u.inside; rest = u.rest; split = ap (λ (xs : List ℕ). byte ∷ xs) u.split; ends = Ends.more s byte u.inside goes.0 u.ends; later = u.later }
]

-- ---- sections

cut_is : (r : Reader) → without_brackets r ≡ record r { top = cut r.top }
unfolding without_brackets
cut_is r = push_if r.top.kept (λ (t : Open). record r { top = t }) (record r.top { text = take (length r.top.text - 2) r.top.text }) r.top

ended_byte : (s : Seen) (byte : ℕ) → is_ended_by s byte ≡ true → byte ≡ 62
ended_byte seen.Nothing byte e = absurd cc
ended_byte seen.One byte e = absurd cc
ended_byte seen.Two byte e = eqb-true byte 62 e

text_nil_if : (kept : Bool) (top : Open) → with_text (record top { kept = kept }) [] ≡ record top { kept = kept }
text_nil_if true top = ap (λ (t : List ℕ). record top { kept = true; text = t }) (append-nil top.text)
text_nil_if false top = refl

text_twice_if : (kept : Bool) (top : Open) (text more : List ℕ) → with_text (with_text (record top { kept = kept }) text) more ≡ with_text (record top { kept = kept }) (text ++ more)
text_twice_if true top text more = ap (λ (t : List ℕ). record top { kept = true; text = t }) (append_assoc top.text text more)
text_twice_if false top text more = refl

pub in_section_back : (s : Seen) (r : Reader) (byte : ℕ) (bytes : List ℕ) (root : Tree) → Back (line_after r.line byte) bytes root (in_section s (record r { mode = modes.Section s }) byte) → InSection s r.line r.top r.below (byte ∷ bytes) root
unfolding in_section
in_section_back s r byte bytes root h = elim (split_if (Back (line_after r.line byte) bytes root) (is_ended_by s byte) _ _ h) [
  | inl ends ↦
      let is = ended_byte s byte ends.0 in
      let next = back_is (line_after r.line byte) bytes root _ _ (ap (λ (x : Reader). record x { mode = modes.Content }) (cut_is (record r { mode = modes.Section s }))) ends.1 in
      record {
        inside = [];
        rest = bytes;
        split = ap (λ b. b ∷ bytes) is;
        ends = Ends.last s 62 (subst (λ b. is_ended_by s b ≡ true) is ends.0);
        later = subst (λ (t : Open). Content r.line (cut t) r.below bytes root) (sym (text_nil_if r.top.kept r.top)) (subst (λ b. Content (line_after r.line b) (cut r.top) r.below bytes root) is next);
      }
  | inr goes ↦
      let u = back_is (line_after r.line byte) bytes root _ _ (ap (λ (x : Reader). record x { mode = modes.Section (seen_after s 93 byte) }) (text_added (record r { mode = modes.Section s }) (byte ∷ []))) goes.1 in
      record {
        inside = byte ∷ u.inside;
        rest = u.rest;
        split = ap (λ (xs : List ℕ). byte ∷ xs) u.split;
        ends = Ends.more s byte (u.inside ++ 62 ∷ []) goes.0 u.ends;
        later = subst (λ (t : Open). Content (line_at (line_after r.line byte) u.inside) (cut t) r.below u.rest root) (text_twice_if r.top.kept r.top (byte ∷ []) u.inside) u.later;
      }
]

cut_brackets_if : (kept : Bool) (top : Open) (text : List ℕ) → cut (with_text (record top { kept = kept }) (text ++ 93 ∷ 93 ∷ [])) ≡ with_text (record top { kept = kept }) text
cut_brackets_if false top text = refl
cut_brackets_if true top text = ap (λ (t : List ℕ). record top { kept = true; text = t }) (ap (λ (t : List ℕ). take (length t - 2) t) (sym (append_assoc top.text text (93 ∷ 93 ∷ [])) ∙ sym (append_assoc (top.text ++ text) (93 ∷ []) (93 ∷ []))) ∙ take_front (top.text ++ text))

-- the last byte of both is the same
pub last_off : (xs ys : List ℕ) (x : ℕ) → xs ++ x ∷ [] ≡ ys ++ x ∷ [] → xs ≡ ys
last_off [] [] x e = refl
last_off [] (y ∷ []) x e = absurd cc
last_off [] (y ∷ z ∷ ys) x e = absurd cc
last_off (a ∷ []) [] x e = absurd cc
last_off (a ∷ b ∷ xs) [] x e = absurd cc
last_off (a ∷ xs) (b ∷ ys) x e = let tail : xs ++ x ∷ [] ≡ ys ++ x ∷ [] = cc in let head : a ≡ b = cc in cons_both a b xs ys head (last_off xs ys x tail)

pub section_first : (line : ℕ) (top : Open) (below : List Open) (bytes : List ℕ) (root : Tree) → is_none below ≡ false → InSection seen.Nothing line top below bytes root → Content line top below (60 ∷ 33 ∷ 91 ∷ 67 ∷ 68 ∷ 65 ∷ 84 ∷ 65 ∷ 91 ∷ bytes) root
section_first line top [] bytes root e u = absurd cc
section_first line top (around ∷ outer) bytes root e u =
    let b = ends_before 93 (λ no_bracket. absurd (omega (arith, no_bracket))) (u.inside ++ 62 ∷ []) seen.Nothing u.ends in
    let inside : u.inside ≡ b.bytes ++ 93 ∷ 93 ∷ [] = last_off u.inside (b.bytes ++ 93 ∷ 93 ∷ []) 62 (b.split ∙ sym (append_assoc b.bytes (93 ∷ 93 ∷ []) (62 ∷ []))) in
    let first = 60 ∷ 33 ∷ 91 ∷ 67 ∷ 68 ∷ 65 ∷ 84 ∷ 65 ∷ 91 ∷ b.bytes ++ closing_mark 93 in
    let lines : line_at line u.inside ≡ line_at line first = ap (line_at line) inside ∙ line_at-append line b.bytes (93 ∷ 93 ∷ []) ∙ sym (line_at-append line b.bytes (closing_mark 93)) in
    let later : Content (line_at line first) (grown top b.bytes []) (around ∷ outer) u.rest root =
    subst (λ (t : Open). Content (line_at line first) t (around ∷ outer) u.rest root) (ap (λ (xs : List ℕ). cut (with_text top xs)) inside ∙ cut_brackets_if top.kept top b.bytes ∙ grown_text top b.bytes)
    (subst (λ l. Content l (cut (with_text top u.inside)) (around ∷ outer) u.rest root) lines u.later)
    in
    let whole : b.bytes ++ closing_mark 93 ++ u.rest ≡ bytes =
    ap (λ (xs : List ℕ). xs ++ u.rest) (sym b.split) ∙ append_assoc u.inside (62 ∷ []) u.rest ∙ sym u.split
    in
    subst (λ (xs : List ℕ). Content line top (around ∷ outer) (60 ∷ 33 ∷ 91 ∷ 67 ∷ 68 ∷ 65 ∷ 84 ∷ 65 ∷ 91 ∷ xs) root) whole
    (prepend_part line top around outer first u.rest b.bytes [] root (IsPart.section (length (around ∷ outer)) (place_of top) line first b.bytes (IsSection.section b.bytes b.is_first)) later)

pub comment_first : (line : ℕ) (top : Open) (below : List Open) (bytes : List ℕ) (root : Tree) → UpTo (Ends 45 seen.Nothing) line top below bytes root → Content line top below (60 ∷ 33 ∷ 45 ∷ 45 ∷ bytes) root
comment_first line top below bytes root u =
    let b = ends_before 45 (λ no_dash. absurd (omega (arith, no_dash))) u.inside seen.Nothing u.ends in
    let first = 60 ∷ 33 ∷ 45 ∷ 45 ∷ b.bytes ++ closing_mark 45 in
    subst (λ (xs : List ℕ). Content line top below xs root) (ap (λ (xs : List ℕ). 60 ∷ 33 ∷ 45 ∷ 45 ∷ (xs ++ u.rest)) (sym b.split) ∙ ap (λ (xs : List ℕ). 60 ∷ 33 ∷ 45 ∷ 45 ∷ xs) (sym u.split))
    (prepend_passed line top below first u.rest root (IsPassedOver.comment first (IsComment.comment b.bytes b.is_first))
    (subst (λ (xs : List ℕ). Content (line_at line xs) top below u.rest root) b.split u.later))
