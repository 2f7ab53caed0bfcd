-- A byte in a tag, in front of what is behind it.
use Rattle.std.proofs.Common.{◌≡◌, ℕ, Bool, true, false, not, List, [], ◌∷◌, ◌++◌, append_assoc, append-nil, length, Option, Some, Result, Ok, Err, refl, sym, ap, subst, ◌∙◌, inl, inr}
use Rattle.std.specs.Prelude.{◌==◌, ◌&&◌, nat_le}
use Rattle.std.specs.Char.{encode_utf8}
use Rattle.std.specs.List.{list_any}
use Rattle.std.specs.Str.{bytes_eq}
use Rattle.std.proofs.lemmas.Bool.{eqb-true, eqb-false, not-false, leb-false}
use Rattle.std.proofs.lemmas.Slice.Eq.{bytes_eq-Decides}
use Rattle.ror_text.specs.Reading.{◌>>=◌, refuse}
use Rattle.ror_elements.specs.declared.element.ElementFault.{ElementFault}
use Rattle.ror_elements.specs.declared.mode.Home.{Home}
use Rattle.ror_elements.specs.declared.mode.Home.TheVariants as homes
use Rattle.ror_elements.specs.declared.mode.Mode.TheVariants as modes
use Rattle.ror_elements.specs.declared.mode.Quote.{Quote}
use Rattle.ror_elements.specs.declared.mode.Quote.TheVariants as quotes
use Rattle.ror_elements.specs.declared.open.Open.{Open}
use Rattle.ror_elements.specs.declared.reader.Reader.{Reader}
use Rattle.ror_elements.specs.declared.reader.Tag.{Tag}
use Rattle.ror_elements.specs.Elements.{line_after}
use Rattle.ror_elements.specs.Grammar.{Names, IsReference, IsValue, Attribute, IsAttribute}
use Rattle.ror_elements.specs.Marks.{is_white, is_name_byte, local_name}
use Rattle.ror_elements.specs.Mode.{quote_byte}
use Rattle.ror_elements.specs.Open.{is_none}
use Rattle.ror_elements.specs.Reader.{bad, end_reference, in_reference}
use Rattle.ror_elements.specs.References.{character_of}
use Rattle.ror_elements.specs.Tags.{id_name, root_name, opened, is_bad_root, open_element, in_tag, in_start_name, begin_attribute, add_name, after_attribute_name, in_attribute_name, quoted, before_value, end_value, add_byte, in_value}
use Rattle.ror_elements.specs.Tree.{Tree}
use Rattle.ror_elements.proofs.Behind.{Content, Closed, IsFormed, Empty, Ending, Attributes, InTag, InValue, BeforeValue, BeforeEquals, InName, InStartName, BehindEndName, InEndName, InReference, value_ended, Left, Back}
use Rattle.ror_elements.proofs.DeclaredBack.{split_if}
use Rattle.ror_elements.proofs.ElementRuns.{opened_as, named_tag}
use Rattle.ror_elements.proofs.NameLemmas.{names}
use Rattle.ror_elements.proofs.PlainReader.{around_closed, plain_close_in, plain_after_end_name, plain_in_end_name, plain_in_empty_tag}
use Rattle.ror_elements.proofs.Runs.{line_at, line_at-append, with_text}
use Rattle.ror_elements.proofs.TagRuns.{push_if, text_added, valued-nil, valued-append, with_value, value_added, naming, with_attribute, with_attributes, ended_tag, quote_line}

-- ---- tests

pub back_refuse : (line : ℕ) (bytes : List ℕ) (root : Tree) (fault : ElementFault) (test : Bool) (rest : Result Reader ElementFault) → Back line bytes root (refuse fault test >>= λ _. rest) → (test ≡ false) × Back line bytes root rest
back_refuse line bytes root fault true rest h = absurd h
back_refuse line bytes root fault false rest h = (refl, h)

pub back_refuse_into : (line : ℕ) (bytes : List ℕ) (root : Tree) (fault : ElementFault) (test : Bool) (x : Reader) (f : Reader → Result Reader ElementFault) → Back line bytes root ((refuse fault test >>= λ _. Ok x) >>= f) → (test ≡ false) × Back line bytes root (f x)
back_refuse_into line bytes root fault true x f h = absurd h
back_refuse_into line bytes root fault false x f h = (refl, h)

pub back_bind : {A : Type 0} (line : ℕ) (bytes : List ℕ) (root : Tree) (r : Result A ElementFault) (f : A → Result Reader ElementFault) → Back line bytes root (r >>= f) → (x : A) × (r ≡ Ok x) × Back line bytes root (f x)
back_bind line bytes root (Ok x) f h = (x, refl, h)
back_bind line bytes root (Err fault) f h = absurd h

-- a reader that is another one
pub back_is : (line : ℕ) (bytes : List ℕ) (root : Tree) (r other : Reader) → r ≡ other → Left r.mode (record r { line = line }) bytes root → Left other.mode (record other { line = line }) bytes root
back_is line bytes root r other e h = subst (λ (x : Reader). Left x.mode (record x { line = line }) bytes root) e h

pub cons_both : (byte other : ℕ) (bytes more : List ℕ) → byte ≡ other → bytes ≡ more → byte ∷ bytes ≡ other ∷ more
cons_both byte other bytes more e f = ap (λ b. b ∷ bytes) e ∙ ap (λ (xs : List ℕ). other ∷ xs) f

-- ---- attributes

white_front : (spaced : Bool) (byte : ℕ) (front : List ℕ) (list : List Attribute) → is_white byte ≡ true → Attributes true front list → Attributes spaced (byte ∷ front) list
white_front spaced byte front list white (Attributes.ends s space w) = Attributes.ends spaced (byte ∷ space) (white, w)
white_front spaced byte front list white (Attributes.next s space first rest a others w gap is more) = Attributes.next spaced (byte ∷ space) first rest a others (white, w) (inr (λ none. absurd cc)) is more

-- an attribute in front of what is behind it in the tag
attribute_first : (line start : ℕ) (top : Open) (below : List Open) (tag : Tag) (byte : ℕ) (bytes : List ℕ) (root : Tree) → is_name_byte byte ≡ true → InName (byte ∷ []) (line_after line byte) start top below tag bytes root → InTag true line start top below tag (byte ∷ bytes) root
attribute_first line start top below tag byte bytes root is n =
    let e = n.later in
    let b = e.later in
    let v = b.later in
    let q = quote_byte b.quote in
    let name = byte ∷ n.more in
    let a : Attribute = (name, v.value) in
    let same : value_ended (with_value (naming tag name) v.value) ≡ with_attribute tag a = ended_tag (bytes_eq name id_name) (naming tag name) v.value in
    let tail = q ∷ v.written ++ q ∷ [] in
    let first = name ++ (e.space ++ (61 ∷ b.space ++ tail)) in
    let l1 = line_at line name in
    let l2 = line_at l1 e.space in
    let l3 = line_at l2 b.space in
    let l4 = line_at l3 v.written in
    let t : InTag false l4 start top below (with_attribute tag a) v.rest root = subst (λ (x : Tag). InTag false l4 start top below x v.rest root) same v.later in
    let whole : byte ∷ bytes ≡ (first ++ t.front) ++ t.rest =
    ap (λ (xs : List ℕ). byte ∷ xs) (n.split
    ∙ ap (λ (xs : List ℕ). n.more ++ xs) (e.split
    ∙ ap (λ (xs : List ℕ). e.space ++ 61 ∷ xs) (b.split
    ∙ ap (λ (xs : List ℕ). b.space ++ q ∷ xs) (v.split
    ∙ ap (λ (xs : List ℕ). v.written ++ q ∷ xs) t.split))))
    ∙ sym (append_assoc first t.front t.rest
    ∙ append_assoc name (e.space ++ (61 ∷ b.space ++ tail)) (t.front ++ t.rest)
    ∙ ap (λ (xs : List ℕ). name ++ xs) (append_assoc e.space (61 ∷ b.space ++ tail) (t.front ++ t.rest)
    ∙ ap (λ (xs : List ℕ). e.space ++ 61 ∷ xs) (append_assoc b.space tail (t.front ++ t.rest)
    ∙ ap (λ (xs : List ℕ). b.space ++ q ∷ xs) (append_assoc v.written (q ∷ []) (t.front ++ t.rest)))))
    in
    let lines : line_at l4 t.front ≡ line_at line (first ++ t.front) =
    sym (line_at-append line first t.front
    ∙ ap (λ l. line_at l t.front) (line_at-append line name (e.space ++ (61 ∷ b.space ++ tail))
    ∙ line_at-append l1 e.space (61 ∷ b.space ++ tail)
    ∙ line_at-append l2 b.space tail
    ∙ ap (λ l. line_at l (v.written ++ q ∷ [])) (quote_line b.quote l3)
    ∙ line_at-append l3 v.written (q ∷ [])
    ∙ quote_line b.quote l4))
    in
    record {
      front = first ++ t.front;
      rest = t.rest;
      list = a ∷ t.list;
      split = whole;
      attributes = Attributes.next true [] first t.front a t.list tt (inl refl) (IsAttribute.named name e.space b.space v.written v.value b.quote ((is, n.is_name), λ none. absurd cc) e.is_space b.is_space v.is_value) t.attributes;
      is_fresh = (n.is_fresh, t.is_fresh);
      is_formed = t.is_formed;
      later = subst (λ l. Ending l start top below (with_attributes (with_attribute tag a) t.list) t.rest root) lines t.later;
    }

-- ---- in a tag

abbrev InTagOf : Bool → Reader → List ℕ → Tree → Type 0
InTagOf spaced r bytes root = InTag spaced r.line r.start r.top r.below r.tag bytes root

tag_opens : (spaced : Bool) (r : Reader) (byte : ℕ) (bytes : List ℕ) (root : Tree) → byte ≡ 62 → Back (line_after r.line byte) bytes root (open_element r) → InTagOf spaced r (byte ∷ bytes) root
unfolding open_element opened is_bad_root
tag_opens spaced r byte bytes root is h =
    let tested = back_refuse (line_after r.line byte) bytes root _ (is_bad_root r) _ h in
    let content : Content r.line (opened_as r.top r.tag.name r.tag.id r.start) (r.top ∷ r.below) bytes root = subst (λ b. Content (line_after r.line b) (opened_as r.top r.tag.name r.tag.id r.start) (r.top ∷ r.below) bytes root) is tested.1 in
    record { front = []; rest = byte ∷ bytes; list = []; split = refl; attributes = Attributes.ends spaced [] tt; is_fresh = tt; is_formed = tested.0; later = inl (bytes, ap (λ b. b ∷ bytes) is, content) }

begin_attribute_back : (spaced : Bool) (r : Reader) (byte : ℕ) (bytes : List ℕ) (root : Tree) → Back (line_after r.line byte) bytes root (begin_attribute spaced r byte) → InTagOf spaced r (byte ∷ bytes) root
unfolding begin_attribute
begin_attribute_back true r byte bytes root h =
    let named = back_refuse (line_after r.line byte) bytes root _ (not (is_name_byte byte)) _ h in
    attribute_first r.line r.start r.top r.below r.tag byte bytes root (not-false (is_name_byte byte) named.0) named.1
begin_attribute_back false r byte bytes root h = absurd h

pub in_tag_back : (spaced : Bool) (r : Reader) (byte : ℕ) (bytes : List ℕ) (root : Tree) → Back (line_after r.line byte) bytes root (in_tag spaced r byte) → InTagOf spaced r (byte ∷ bytes) root
unfolding in_tag
in_tag_back spaced r byte bytes root h = elim (split_if (Back (line_after r.line byte) bytes root) (is_white byte) _ _ h) [
  | inl white ↦
      let t = white.1 in
      record { front = byte ∷ t.front; rest = t.rest; list = t.list; split = ap (λ (xs : List ℕ). byte ∷ xs) t.split; attributes = white_front spaced byte t.front t.list white.0 t.attributes; is_fresh = t.is_fresh; is_formed = t.is_formed; later = t.later }
  | inr dark ↦ elim (split_if (Back (line_after r.line byte) bytes root) (byte == 62) _ _ dark.1) [
    | inl ends ↦ tag_opens spaced r byte bytes root (eqb-true byte 62 ends.0) ends.1
    | inr goes ↦ elim (split_if (Back (line_after r.line byte) bytes root) (byte == 47) _ _ goes.1) [
      | inl slash ↦
          let is = eqb-true byte 47 slash.0 in
          let later : Empty r.line r.start r.top r.below r.tag bytes root = subst (λ b. Empty (line_after r.line b) r.start r.top r.below r.tag bytes root) is slash.1.1 in
          record { front = []; rest = byte ∷ bytes; list = []; split = refl; attributes = Attributes.ends spaced [] tt; is_fresh = tt; is_formed = slash.1.0; later = inr (bytes, ap (λ b. b ∷ bytes) is, later) }
      | inr other ↦ begin_attribute_back spaced r byte bytes root other.1
    ]
  ]
]

pub in_start_name_back : (r : Reader) (byte : ℕ) (bytes : List ℕ) (root : Tree) → Back (line_after r.line byte) bytes root (in_start_name (record r { mode = modes.StartName }) byte) → InStartName r.piece r.line r.start r.top r.below (byte ∷ bytes) root
unfolding in_start_name
in_start_name_back r byte bytes root h = elim (split_if (Back (line_after r.line byte) bytes root) (is_name_byte byte) _ _ h) [
  | inl is ↦
      let n = is.1 in
      record { more = byte ∷ n.more; rest = n.rest; split = ap (λ (xs : List ℕ). byte ∷ xs) n.split; is_name = (is.0, n.is_name); few = n.few; later = subst (λ (name : List ℕ). InTag false (line_at (line_after r.line byte) n.more) r.start r.top r.below (named_tag name) n.rest root) (append_assoc r.piece (byte ∷ []) n.more) n.later }
  | inr other ↦
      let few = back_refuse (line_after r.line byte) bytes root _ (nat_le 64 (length r.below)) _ other.1 in
      let t = in_tag_back false (record r { mode = modes.StartName; tag = named_tag r.piece; piece = [] }) byte bytes root few.1 in
      record { more = []; rest = byte ∷ bytes; split = refl; is_name = tt; few = leb-false 64 (length r.below) few.0; later = subst (λ (name : List ℕ). InTag false r.line r.start r.top r.below (named_tag name) (byte ∷ bytes) root) (sym (append-nil r.piece)) t }
]

pub in_empty_tag_back : (r : Reader) (byte : ℕ) (bytes : List ℕ) (root : Tree) → Back (line_after r.line byte) bytes root (plain_in_empty_tag (record r { mode = modes.EmptyTag }) byte) → IsFormed r.below r.tag × Empty r.line r.start r.top r.below r.tag (byte ∷ bytes) root
unfolding plain_in_empty_tag open_element opened is_bad_root
in_empty_tag_back r byte bytes root h =
    let line = line_after r.line byte in
    let tested = back_refuse line bytes root (bad r) (not (byte == 62)) _ h in
    let is = eqb-true byte 62 (not-false (byte == 62) tested.0) in
    let formed = back_refuse_into line bytes root _ (is_none r.below && not (bytes_eq (local_name r.tag.name) root_name)) _ _ tested.1 in
    (formed.0, (bytes, ap (λ b. b ∷ bytes) is, subst (λ b. Content (line_after r.line b) (around_closed (opened_as r.top r.tag.name r.tag.id r.start) r.top) r.below bytes root) is formed.1))

-- ---- in an attribute

pub after_attribute_name_back : (r : Reader) (byte : ℕ) (bytes : List ℕ) (root : Tree) → Back (line_after r.line byte) bytes root (after_attribute_name r byte) → BeforeEquals r.line r.start r.top r.below r.tag (byte ∷ bytes) root
unfolding after_attribute_name
after_attribute_name_back r byte bytes root h = elim (split_if (Back (line_after r.line byte) bytes root) (is_white byte) _ _ h) [
  | inl white ↦
      let e = white.1 in
      record { space = byte ∷ e.space; rest = e.rest; split = ap (λ (xs : List ℕ). byte ∷ xs) e.split; is_space = (white.0, e.is_space); later = e.later }
  | inr dark ↦
      let equals = back_refuse (line_after r.line byte) bytes root _ (not (byte == 61)) _ dark.1 in
      let is = eqb-true byte 61 (not-false (byte == 61) equals.0) in
      record { space = []; rest = bytes; split = ap (λ b. b ∷ bytes) is; is_space = tt; later = subst (λ b. BeforeValue (line_after r.line b) r.start r.top r.below r.tag bytes root) is equals.1 }
]

pub in_attribute_name_back : (r : Reader) (byte : ℕ) (bytes : List ℕ) (root : Tree) → Back (line_after r.line byte) bytes root (in_attribute_name (record r { mode = modes.AttributeName }) byte) → InName r.piece r.line r.start r.top r.below r.tag (byte ∷ bytes) root
unfolding in_attribute_name add_name
in_attribute_name_back r byte bytes root h = elim (split_if (Back (line_after r.line byte) bytes root) (is_name_byte byte) _ _ h) [
  | inl is ↦
      let n = is.1 in
      record {
        more = byte ∷ n.more;
        rest = n.rest;
        split = ap (λ (xs : List ℕ). byte ∷ xs) n.split;
        is_name = (is.0, n.is_name);
        is_fresh = subst (λ (name : List ℕ). list_any (bytes_eq name) r.tag.names ≡ false) (append_assoc r.piece (byte ∷ []) n.more) n.is_fresh;
        later = subst (λ (name : List ℕ). BeforeEquals (line_at (line_after r.line byte) n.more) r.start r.top r.below (naming r.tag name) n.rest root) (append_assoc r.piece (byte ∷ []) n.more) n.later;
      }
  | inr other ↦
      let new = back_refuse_into (line_after r.line byte) bytes root _ (list_any (bytes_eq r.piece) r.tag.names) _ (λ named. after_attribute_name named byte) other.1 in
      let e = after_attribute_name_back (record r { mode = modes.AttributeName; tag = naming r.tag r.piece; piece = [] }) byte bytes root new.1 in
      record {
        more = [];
        rest = byte ∷ bytes;
        split = refl;
        is_name = tt;
        is_fresh = subst (λ (name : List ℕ). list_any (bytes_eq name) r.tag.names ≡ false) (sym (append-nil r.piece)) new.0;
        later = subst (λ (name : List ℕ). BeforeEquals r.line r.start r.top r.below (naming r.tag name) (byte ∷ bytes) root) (sym (append-nil r.piece)) e;
      }
]

quoted_back : (r : Reader) (byte : ℕ) (bytes : List ℕ) (root : Tree) (quote : Quote) → byte ≡ quote_byte quote → InValue quote (line_after r.line byte) r.start r.top r.below r.tag bytes root → BeforeValue r.line r.start r.top r.below r.tag (byte ∷ bytes) root
quoted_back r byte bytes root quote is v = record {
  space = [];
  quote = quote;
  rest = bytes;
  split = ap (λ b. b ∷ bytes) is;
  is_space = tt;
  later = subst (λ l. InValue quote l r.start r.top r.below r.tag bytes root) (ap (line_after r.line) is ∙ quote_line quote r.line) v;
}

pub before_value_back : (r : Reader) (byte : ℕ) (bytes : List ℕ) (root : Tree) → Back (line_after r.line byte) bytes root (before_value (record r { mode = modes.BeforeValue }) byte) → BeforeValue r.line r.start r.top r.below r.tag (byte ∷ bytes) root
unfolding before_value
before_value_back r byte bytes root h = elim (split_if (Back (line_after r.line byte) bytes root) (is_white byte) _ _ h) [
  | inl white ↦
      let b = white.1 in
      record { space = byte ∷ b.space; quote = b.quote; rest = b.rest; split = ap (λ (xs : List ℕ). byte ∷ xs) b.split; is_space = (white.0, b.is_space); later = b.later }
  | inr dark ↦ elim (split_if (λ (o : Option Quote). Back (line_after r.line byte) bytes root (quoted (record r { mode = modes.BeforeValue }) o)) (byte == 34) _ _ dark.1) [
    | inl double ↦ quoted_back r byte bytes root quotes.Double (eqb-true byte 34 double.0) double.1
    | inr other ↦ elim (split_if (λ (o : Option Quote). Back (line_after r.line byte) bytes root (quoted (record r { mode = modes.BeforeValue }) o)) (byte == 39) _ _ other.1) [
      | inl single ↦ quoted_back r byte bytes root quotes.Single (eqb-true byte 39 single.0) single.1
      | inr none ↦ absurd none.1
    ]
  ]
]

-- ---- in a value

value_ends : (r : Reader) → end_value r ≡ record r { mode = modes.Tag false; tag = value_ended r.tag }
unfolding end_value
value_ends r = push_if r.tag.is_id (λ (t : Tag). record r { mode = modes.Tag false; tag = t }) (record r.tag { id = Some r.tag.value; value = [] }) r.tag

value_ends_back : (quote : Quote) (r : Reader) (byte : ℕ) (bytes : List ℕ) (root : Tree) → byte ≡ quote_byte quote → InTag false (line_after r.line byte) r.start r.top r.below (value_ended r.tag) bytes root → InValue quote r.line r.start r.top r.below r.tag (byte ∷ bytes) root
value_ends_back quote r byte bytes root is t = record {
  written = [];
  value = [];
  rest = bytes;
  split = ap (λ b. b ∷ bytes) is;
  is_value = IsValue.nothing;
  later = subst (λ l. InTag false l r.start r.top r.below (value_ended (with_value r.tag [])) bytes root) (ap (line_after r.line) is ∙ quote_line quote r.line)
      (subst (λ (v : List ℕ). InTag false (line_after r.line byte) r.start r.top r.below (value_ended (record r.tag { value = v })) bytes root) (sym (valued-nil r.tag.is_id r.tag.value)) t);
}

-- a part of a value in front of the rest
value_first : (quote : Quote) (line start : ℕ) (top : Open) (below : List Open) (tag : Tag) (first more rest : List ℕ) (root : Tree)
    → ((written value : List ℕ) → IsValue quote written value → IsValue quote (first ++ written) (more ++ value))
    → InValue quote (line_at line first) start top below (with_value tag more) rest root → InValue quote line start top below tag (first ++ rest) root
value_first quote line start top below tag first more rest root grows v = record {
  written = first ++ v.written;
  value = more ++ v.value;
  rest = v.rest;
  split = ap (λ (xs : List ℕ). first ++ xs) v.split ∙ sym (append_assoc first v.written (quote_byte quote ∷ v.rest));
  is_value = grows v.written v.value v.is_value;
  later = subst (λ l. InTag false l start top below (value_ended (with_value tag (more ++ v.value))) v.rest root) (sym (line_at-append line first v.written))
      (subst (λ (x : List ℕ). InTag false (line_at (line_at line first) v.written) start top below (value_ended (record tag { value = x })) v.rest root) (valued-append tag.is_id tag.value more v.value) v.later);
}

reference_whole : (more rest : List ℕ) → (38 ∷ more ++ 59 ∷ []) ++ rest ≡ 38 ∷ (more ++ 59 ∷ rest)
reference_whole more rest = ap (λ (xs : List ℕ). 38 ∷ xs) (append_assoc more (59 ∷ []) rest)

add_byte_back : (quote : Quote) (r : Reader) (byte : ℕ) (bytes : List ℕ) (root : Tree) → ¬ (byte ≡ quote_byte quote) → ¬ (byte ≡ 60)
    → (let next : Reader = add_byte quote (record r { mode = modes.Value quote }) byte in Left next.mode (record next { line = line_after r.line byte }) bytes root) → InValue quote r.line r.start r.top r.below r.tag (byte ∷ bytes) root
unfolding add_byte
add_byte_back quote r byte bytes root a b h = elim (split_if (λ (next : Reader). Left next.mode (record next { line = line_after r.line byte }) bytes root) (byte == 38) _ _ h) [
  | inl is ↦
      let same = eqb-true byte 38 is.0 in
      let n = is.1 in
      let first = 38 ∷ n.more ++ 59 ∷ [] in
      let lines : line_at (line_after r.line byte) n.more ≡ line_at r.line first = ap (λ x. line_at (line_after r.line x) n.more) same ∙ sym (line_at-append r.line n.more (59 ∷ [])) in
      let v = subst (λ l. InValue quote l r.start r.top r.below (with_value r.tag (encode_utf8 n.code)) n.rest root) lines n.later in
      subst (λ (xs : List ℕ). InValue quote r.line r.start r.top r.below r.tag xs root) (reference_whole n.more n.rest ∙ sym (cons_both byte 38 bytes (n.more ++ 59 ∷ n.rest) same n.split))
      (value_first quote r.line r.start r.top r.below r.tag first (encode_utf8 n.code) n.rest root (λ written value w. IsValue.character first written value n.code (IsReference.reference n.more n.code n.names) w) v)
  | inr other ↦
      let next = back_is (line_after r.line byte) bytes root _ _ (value_added (record r { mode = modes.Value quote }) (byte ∷ [])) other.1 in
      value_first quote r.line r.start r.top r.below r.tag (byte ∷ []) (byte ∷ []) bytes root (λ written value w. IsValue.plain byte written value a b (eqb-false byte 38 other.0) w) next
]

pub in_value_back : (quote : Quote) (r : Reader) (byte : ℕ) (bytes : List ℕ) (root : Tree) → Back (line_after r.line byte) bytes root (in_value quote (record r { mode = modes.Value quote }) byte) → InValue quote r.line r.start r.top r.below r.tag (byte ∷ bytes) root
unfolding in_value
in_value_back quote r byte bytes root h = elim (split_if (Back (line_after r.line byte) bytes root) (byte == quote_byte quote) _ _ h) [
  | inl ends ↦ value_ends_back quote r byte bytes root (eqb-true byte (quote_byte quote) ends.0) (back_is (line_after r.line byte) bytes root _ _ (value_ends (record r { mode = modes.Value quote })) ends.1)
  | inr goes ↦
      let tested = back_refuse (line_after r.line byte) bytes root _ (byte == 60) _ goes.1 in
      add_byte_back quote r byte bytes root (eqb-false byte (quote_byte quote) goes.0) (eqb-false byte 60 tested.0) tested.1
]

-- ---- in a reference

reference_grows : (piece : List ℕ) (line byte : ℕ) (bytes : List ℕ) (Later : ℕ → List ℕ → List ℕ → Type 0) → InReference (piece ++ byte ∷ []) (line_after line byte) bytes Later → InReference piece line (byte ∷ bytes) Later
reference_grows piece line byte bytes Later n = record {
  more = byte ∷ n.more;
  rest = n.rest;
  code = n.code;
  split = ap (λ (xs : List ℕ). byte ∷ xs) n.split;
  names = subst (λ (name : List ℕ). Names name n.code) (append_assoc piece (byte ∷ []) n.more) n.names;
  later = n.later;
}

reference_ends : (piece : List ℕ) (line byte : ℕ) (bytes : List ℕ) (code : ℕ) (Later : ℕ → List ℕ → List ℕ → Type 0) → byte ≡ 59 → Names piece code → Later (line_after line byte) (encode_utf8 code) bytes → InReference piece line (byte ∷ bytes) Later
reference_ends piece line byte bytes code Later is h l = record {
  more = [];
  rest = bytes;
  code = code;
  split = ap (λ b. b ∷ bytes) is;
  names = subst (λ (name : List ℕ). Names name code) (sym (append-nil piece)) h;
  later = subst (λ b. Later (line_after line b) (encode_utf8 code) bytes) is l;
}

pub in_reference_back : (home : Home) (r : Reader) (byte : ℕ) (bytes : List ℕ) (root : Tree) → Back (line_after r.line byte) bytes root (in_reference home (record r { mode = modes.Reference home }) byte) → Left (modes.Reference home) r (byte ∷ bytes) root
unfolding in_reference end_reference
in_reference_back homes.Text r byte bytes root h = elim (split_if (Back (line_after r.line byte) bytes root) (byte == 59) _ _ h) [
  | inl ends ↦
      let c = back_bind (line_after r.line byte) bytes root (character_of r.reference_line r.piece) _ ends.1 in
      let next = back_is (line_after r.line byte) bytes root _ _ (ap (λ (x : Reader). record x { mode = modes.Content }) (text_added (record r { mode = modes.Reference homes.Text }) (encode_utf8 c.0))) c.2 in
      reference_ends r.piece r.line byte bytes c.0 (λ line text rest. Content line (with_text r.top text) r.below rest root) (eqb-true byte 59 ends.0) (names r.reference_line r.piece c.0 c.1) next
  | inr goes ↦
      let named = back_refuse (line_after r.line byte) bytes root _ (not (is_name_byte byte)) _ goes.1 in
      reference_grows r.piece r.line byte bytes (λ line text rest. Content line (with_text r.top text) r.below rest root) named.1
]
in_reference_back (homes.Value quote) r byte bytes root h = elim (split_if (Back (line_after r.line byte) bytes root) (byte == 59) _ _ h) [
  | inl ends ↦
      let c = back_bind (line_after r.line byte) bytes root (character_of r.reference_line r.piece) _ ends.1 in
      let next = back_is (line_after r.line byte) bytes root _ _ (ap (λ (x : Reader). record x { mode = modes.Value quote }) (value_added (record r { mode = modes.Reference (homes.Value quote) }) (encode_utf8 c.0))) c.2 in
      reference_ends r.piece r.line byte bytes c.0 (λ line text rest. InValue quote line r.start r.top r.below (with_value r.tag text) rest root) (eqb-true byte 59 ends.0) (names r.reference_line r.piece c.0 c.1) next
  | inr goes ↦
      let named = back_refuse (line_after r.line byte) bytes root _ (not (is_name_byte byte)) _ goes.1 in
      reference_grows r.piece r.line byte bytes (λ line text rest. InValue quote line r.start r.top r.below (with_value r.tag text) rest root) named.1
]

-- ---- in an end tag

closes_back : (r : Reader) (below : List Open) (line : ℕ) (bytes : List ℕ) (root : Tree) → Back line bytes root (plain_close_in r below) → Closed line r.top below bytes root
closes_back r [] line bytes root h = h
closes_back r (around ∷ outer) line bytes root h = h

pub after_end_name_back : (r : Reader) (byte : ℕ) (bytes : List ℕ) (root : Tree) → Back (line_after r.line byte) bytes root (plain_after_end_name r byte) → BehindEndName r.line r.top r.below (byte ∷ bytes) root
unfolding plain_after_end_name
after_end_name_back r byte bytes root h = elim (split_if (Back (line_after r.line byte) bytes root) (is_white byte) _ _ h) [
  | inl white ↦
      let e = white.1 in
      record { space = byte ∷ e.space; rest = e.rest; split = ap (λ (xs : List ℕ). byte ∷ xs) e.split; is_space = (white.0, e.is_space); later = e.later }
  | inr dark ↦
      let ends = back_refuse (line_after r.line byte) bytes root _ (not (byte == 62)) _ dark.1 in
      let is = eqb-true byte 62 (not-false (byte == 62) ends.0) in
      record { space = []; rest = bytes; split = ap (λ b. b ∷ bytes) is; is_space = tt; later = subst (λ b. Closed (line_after r.line b) r.top r.below bytes root) is (closes_back r r.below (line_after r.line byte) bytes root ends.1) }
]

pub in_end_name_back : (r : Reader) (byte : ℕ) (bytes : List ℕ) (root : Tree) → Back (line_after r.line byte) bytes root (plain_in_end_name (record r { mode = modes.EndName }) byte) → InEndName r.piece r.line r.top r.below (byte ∷ bytes) root
unfolding plain_in_end_name
in_end_name_back r byte bytes root h = elim (split_if (Back (line_after r.line byte) bytes root) (is_name_byte byte) _ _ h) [
  | inl is ↦
      let n = is.1 in
      record { more = byte ∷ n.more; rest = n.rest; split = ap (λ (xs : List ℕ). byte ∷ xs) n.split; is_name = sym (append_assoc r.piece (byte ∷ []) n.more) ∙ n.is_name; later = n.later }
  | inr other ↦
      let some = back_refuse (line_after r.line byte) bytes root _ (is_none r.piece) _ other.1 in
      let same = back_refuse (line_after r.line byte) bytes root _ (not (bytes_eq r.piece r.top.name)) _ some.1 in
      record {
        more = [];
        rest = byte ∷ bytes;
        split = refl;
        is_name = append-nil r.piece ∙ (bytes_eq-Decides r.piece r.top.name).0 (not-false (bytes_eq r.piece r.top.name) same.0);
        later = after_end_name_back (record r { mode = modes.EndName }) byte bytes root same.1;
      }
]
