-- Reading references, attributes and tags.
use Rattle.std.proofs.Common.{◌≡◌, ℕ, Bool, true, false, not, List, [], ◌∷◌, ◌++◌, append_assoc, append-nil, map, Some, None, Ok, refl, sym, ap, subst, ◌∙◌, inl, inr}
use Rattle.std.specs.Prelude.{◌==◌, ◌||◌, if◌then◌else◌}
use Rattle.std.specs.Char.{encode_utf8}
use Rattle.std.specs.List.{AllByRecursion, list_any}
use Rattle.std.specs.Str.{bytes_eq}
use Rattle.std.proofs.lemmas.Bool.{cases_Bool, and_parts, ne_eqb, not-true, false_from_ne_true}
use Rattle.std.proofs.lemmas.Slice.Eq.{bytes_eq-Decides}
use Rattle.ror_elements.specs.declared.mode.Home.{Home}
use Rattle.ror_elements.specs.declared.mode.Home.TheVariants as homes
use Rattle.ror_elements.specs.declared.mode.Mode.{Mode}
use Rattle.ror_elements.specs.declared.mode.Mode.TheVariants as modes
use Rattle.ror_elements.specs.declared.mode.Quote.{Quote}
use Rattle.ror_elements.specs.declared.mode.Quote.TheVariants as quotes
use Rattle.ror_elements.specs.declared.open.Open.{Open}
use Rattle.ror_elements.specs.declared.reader.Reader.{Reader}
use Rattle.ror_elements.specs.declared.reader.Tag.{Tag}
use Rattle.ror_elements.specs.Elements.{line_after}
use Rattle.ror_elements.specs.Grammar.{IsSpace, IsGap, IsName, Names, IsReference, IsValue, Attribute, IsAttribute, AreAttributes, AreDistinct, value_of}
use Rattle.ror_elements.specs.Marks.{is_white, is_mark, is_name_byte}
use Rattle.ror_elements.specs.Mode.{quote_byte}
use Rattle.ror_elements.specs.Reader.{add_text, add_value, in_content, end_reference, in_reference, referred}
use Rattle.ror_elements.specs.Tags.{id_name, in_tag, begin_attribute, add_name, after_attribute_name, in_attribute_name, before_value, end_value, add_byte, in_value}
use Rattle.ror_elements.proofs.NameLemmas.{named, name_bytes, is_reference_byte}
use Rattle.ror_elements.proofs.PlainReader.{plain, run}
use Rattle.ror_elements.proofs.Runs.{line_at, line_at-append, at, run_step, Goes, apart, gather, pass, with_text}

-- ---- bytes

-- a byte of a name is none that ends one
pub not_named : (byte other : ℕ) → is_name_byte byte ≡ true → is_name_byte other ≡ false → (byte == other) ≡ false
not_named byte other is ends = apart is_name_byte byte other is ends

pub name_dark : (byte : ℕ) → is_name_byte byte ≡ true → is_white byte ≡ false
name_dark byte is = not-true (is_white byte) (and_parts (not (is_white byte)) (not (is_mark byte)) is).0

pub white_unnamed : (byte : ℕ) → is_white byte ≡ true → is_name_byte byte ≡ false
white_unnamed byte white = rw white refl

pub push_if : {A B : Type 0} (test : Bool) (f : A → B) (x y : A) → (if test then f x else f y) ≡ f (if test then x else y)
push_if true f x y = refl
push_if false f x y = refl

-- ---- references

pub text_added : (r : Reader) (bytes : List ℕ) → add_text r bytes ≡ record r { top = with_text r.top bytes }
unfolding add_text
text_added r bytes = push_if r.top.kept (λ (top : Open). record r { top = top }) (record r.top { text = r.top.text ++ bytes }) r.top

-- a reference in progress
abbrev pub referring : Home → List ℕ → ℕ → Open → List Open → Reader → Reader
referring home piece line top below j = record j { mode = modes.Reference home; line = line; top = top; below = below; piece = piece }

pub name-run : (home : Home) (name : List ℕ) → AllByRecursion (λ byte. is_reference_byte byte ≡ true) name → (line : ℕ) (top : Open) (below : List Open) (j : Reader) (rest : List ℕ)
    → run (referring home [] line top below j) (name ++ rest) ≡ run (referring home name (line_at line name) top below j) rest
unfolding plain in_reference
name-run home name all line top below j rest = gather is_reference_byte (λ l piece. referring home piece l top below j)
    (λ l piece byte is. let parts = and_parts (not (byte == 59)) (is_name_byte byte) is in rw (not-true (byte == 59) parts.0, parts.1) refl) name all line [] rest

end_step : (home : Home) (name : List ℕ) (code : ℕ) → Names name code → (line : ℕ) (top : Open) (below : List Open) (j : Reader)
    → plain (referring home name line top below j) 59 ≡ Ok (record (referred home (referring home name line top below j) (encode_utf8 code)) { line = line })
unfolding plain in_reference end_reference
end_step home name code h line top below j = rw (named j.reference_line name code h) refl

pub reference-goes : (bytes : List ℕ) (code : ℕ) → IsReference bytes code → (line : ℕ) (top around : Open) (outer : List Open) (j : Reader)
    → Goes (at modes.Content line top (around ∷ outer) j) bytes (at modes.Content (line_at line bytes) (with_text top (encode_utf8 code)) (around ∷ outer))
unfolding run plain in_content
reference-goes bytes code (IsReference.reference name same h) line top around outer j = (
  record j { reference_line = line; piece = name },
  λ rest.
      let below = around ∷ outer in
      let k = record j { reference_line = line } in
      ap (λ (xs : List ℕ). run (referring homes.Text [] line top below k) xs) (append_assoc name (59 ∷ []) rest)
      ∙ name-run homes.Text name (name_bytes name code h) line top below k (59 ∷ rest)
      ∙ run_step (referring homes.Text name (line_at line name) top below k) _ 59 rest (end_step homes.Text name code h (line_at line name) top below k)
      ∙ ap (λ (r : Reader). run (record r { mode = modes.Content; line = line_at line name }) rest) (text_added (referring homes.Text name (line_at line name) top below k) (encode_utf8 code))
      ∙ ap (λ l. run (at modes.Content l (with_text top (encode_utf8 code)) below (record k { piece = name })) rest) (sym (line_at-append line name (59 ∷ []))),
)

-- ---- values

-- a reader in a tag
abbrev pub tagged : Mode → ℕ → ℕ → Open → List Open → Tag → Reader → Reader
tagged mode line start top below tag j = record j { mode = mode; line = line; start = start; top = top; below = below; tag = tag }

-- the value of an id goes on
abbrev pub valued : Bool → List ℕ → List ℕ → List ℕ
valued true value more = value ++ more
valued false value more = value

pub valued-nil : (is_id : Bool) (value : List ℕ) → valued is_id value [] ≡ value
valued-nil true value = append-nil value
valued-nil false value = refl

pub valued-append : (is_id : Bool) (value more rest : List ℕ) → valued is_id (valued is_id value more) rest ≡ valued is_id value (more ++ rest)
valued-append true value more rest = append_assoc value more rest
valued-append false value more rest = refl

abbrev pub with_value : Tag → List ℕ → Tag
with_value tag more = record tag { value = valued tag.is_id tag.value more }

value_if : (is_id : Bool) (r : Reader) (bytes : List ℕ) → (if is_id then record r { tag = record r.tag { value = r.tag.value ++ bytes } } else r) ≡ record r { tag = record r.tag { value = valued is_id r.tag.value bytes } }
value_if true r bytes = refl
value_if false r bytes = refl

pub value_added : (r : Reader) (bytes : List ℕ) → add_value r bytes ≡ record r { tag = with_value r.tag bytes }
unfolding add_value
value_added r bytes = value_if r.tag.is_id r bytes

value_step : (quote : Quote) (byte line start : ℕ) (top : Open) (below : List Open) (tag : Tag) (j : Reader) → ¬ (byte ≡ quote_byte quote) → ¬ (byte ≡ 60) → ¬ (byte ≡ 38)
    → plain (tagged (modes.Value quote) line start top below tag j) byte ≡ Ok (tagged (modes.Value quote) (line_after line byte) start top below (with_value tag (byte ∷ [])) j)
unfolding plain in_value add_byte
value_step quote byte line start top below tag j a b c =
    rw (ne_eqb byte (quote_byte quote) a, ne_eqb byte 60 b, ne_eqb byte 38 c)
    (ap (λ (r : Reader). Ok (record r { line = line_after line byte })) (value_added (tagged (modes.Value quote) line start top below tag j) (byte ∷ [])))

no_quote : (quote : Quote) → (38 == quote_byte quote) ≡ false
no_quote quotes.Single = refl
no_quote quotes.Double = refl

begin_reference_step : (quote : Quote) (line start : ℕ) (top : Open) (below : List Open) (tag : Tag) (j : Reader)
    → plain (tagged (modes.Value quote) line start top below tag j) 38 ≡ Ok (referring (homes.Value quote) [] line top below (record j { start = start; tag = tag; reference_line = line }))
unfolding plain in_value add_byte
begin_reference_step quote line start top below tag j = rw (no_quote quote) refl

value_reference-goes : (quote : Quote) (bytes : List ℕ) (code : ℕ) → IsReference bytes code → (line start : ℕ) (top : Open) (below : List Open) (tag : Tag) (j : Reader)
    → Goes (tagged (modes.Value quote) line start top below tag j) bytes (tagged (modes.Value quote) (line_at line bytes) start top below (with_value tag (encode_utf8 code)))
value_reference-goes quote bytes code (IsReference.reference name same h) line start top below tag j = (
  record j { reference_line = line; piece = name },
  λ rest.
      let k = record j { start = start; tag = tag; reference_line = line } in
      run_step (tagged (modes.Value quote) line start top below tag j) (referring (homes.Value quote) [] line top below k) 38 ((name ++ 59 ∷ []) ++ rest) (begin_reference_step quote line start top below tag j)
      ∙ ap (λ (xs : List ℕ). run (referring (homes.Value quote) [] line top below k) xs) (append_assoc name (59 ∷ []) rest)
      ∙ name-run (homes.Value quote) name (name_bytes name code h) line top below k (59 ∷ rest)
      ∙ run_step (referring (homes.Value quote) name (line_at line name) top below k) _ 59 rest (end_step (homes.Value quote) name code h (line_at line name) top below k)
      ∙ ap (λ (r : Reader). run (record r { mode = modes.Value quote; line = line_at line name }) rest) (value_added (referring (homes.Value quote) name (line_at line name) top below k) (encode_utf8 code))
      ∙ ap (λ l. run (tagged (modes.Value quote) l start top below (with_value tag (encode_utf8 code)) (record j { reference_line = line; piece = name })) rest) (sym (line_at-append line name (59 ∷ []))),
)

pub value-goes : (quote : Quote) (bytes value : List ℕ) → IsValue quote bytes value → (line start : ℕ) (top : Open) (below : List Open) (tag : Tag) (j : Reader)
    → Goes (tagged (modes.Value quote) line start top below tag j) bytes (tagged (modes.Value quote) (line_at line bytes) start top below (with_value tag value))
value-goes quote bytes value IsValue.nothing line start top below tag j = (j, λ rest. ap (λ (v : List ℕ). run (tagged (modes.Value quote) line start top below (record tag { value = v }) j) rest) (sym (valued-nil tag.is_id tag.value)))
value-goes quote bytes value (IsValue.plain byte more values a b c h) line start top below tag j =
    let later = value-goes quote more values h (line_after line byte) start top below (with_value tag (byte ∷ [])) j in (
      later.0,
      λ rest.
          run_step (tagged (modes.Value quote) line start top below tag j) _ byte (more ++ rest) (value_step quote byte line start top below tag j a b c)
          ∙ later.1 rest
          ∙ ap (λ (v : List ℕ). run (tagged (modes.Value quote) (line_at line (byte ∷ more)) start top below (record tag { value = v }) later.0) rest) (valued-append tag.is_id tag.value (byte ∷ []) values),
    )
value-goes quote bytes value (IsValue.character first more values code a h) line start top below tag j =
    let now = value_reference-goes quote first code a line start top below tag j in
    let later = value-goes quote more values h (line_at line first) start top below (with_value tag (encode_utf8 code)) now.0 in (
      later.0,
      λ rest.
          ap (λ (xs : List ℕ). run (tagged (modes.Value quote) line start top below tag j) xs) (append_assoc first more rest)
          ∙ now.1 (more ++ rest)
          ∙ later.1 rest
          ∙ ap (λ (v : List ℕ). run (tagged (modes.Value quote) (line_at (line_at line first) more) start top below (record tag { value = v }) later.0) rest) (valued-append tag.is_id tag.value (encode_utf8 code) values)
          ∙ ap (λ l. run (tagged (modes.Value quote) l start top below (with_value tag (encode_utf8 code ++ values)) later.0) rest) (sym (line_at-append line first more)),
    )

-- ---- attributes

-- a tag whose last attribute has this name and no value yet
abbrev pub naming : Tag → List ℕ → Tag
naming tag name = record tag { names = tag.names ++ name ∷ []; is_id = bytes_eq name id_name; value = [] }

-- a tag with one more attribute
abbrev pub with_attribute : Tag → Attribute → Tag
with_attribute tag a = record (naming tag a.0) { id = if bytes_eq a.0 id_name then Some a.1 else tag.id }

abbrev pub with_attributes : Tag → List Attribute → Tag
with_attributes tag [] = tag
with_attributes tag (a ∷ more) = with_attributes (with_attribute tag a) more

-- in the name of an attribute
abbrev pub in_name : List ℕ → ℕ → ℕ → Open → List Open → Tag → Reader → Reader
in_name piece line start top below tag j = record j { mode = modes.AttributeName; line = line; start = start; top = top; below = below; tag = tag; piece = piece }

attribute_begins : (byte line start : ℕ) (top : Open) (below : List Open) (tag : Tag) (j : Reader) → is_name_byte byte ≡ true
    → plain (tagged (modes.Tag true) line start top below tag j) byte ≡ Ok (in_name (byte ∷ []) (line_after line byte) start top below tag j)
unfolding plain in_tag begin_attribute
attribute_begins byte line start top below tag j is = rw (is, name_dark byte is, not_named byte 62 is refl, not_named byte 47 is refl) refl

pub attribute_name-run : (name : List ℕ) → IsName name → (line start : ℕ) (top : Open) (below : List Open) (tag : Tag) (j : Reader) (rest : List ℕ)
    → run (tagged (modes.Tag true) line start top below tag j) (name ++ rest) ≡ run (in_name name (line_at line name) start top below tag j) rest
unfolding plain in_attribute_name
attribute_name-run [] h line start top below tag j rest = absurd (h.1 refl)
attribute_name-run (byte ∷ name) h line start top below tag j rest =
    run_step (tagged (modes.Tag true) line start top below tag j) (in_name (byte ∷ []) (line_after line byte) start top below tag j) byte (name ++ rest) (attribute_begins byte line start top below tag j h.0.0)
    ∙ gather is_name_byte (λ l piece. in_name piece l start top below tag j) (λ l piece b is. rw is refl) name h.0.1 (line_after line byte) (byte ∷ []) rest

pub equals_now : (name : List ℕ) (line start : ℕ) (top : Open) (below : List Open) (tag : Tag) (j : Reader) → list_any (bytes_eq name) tag.names ≡ false
    → plain (in_name name line start top below tag j) 61 ≡ Ok (tagged modes.BeforeValue line start top below (naming tag name) (record j { piece = [] }))
unfolding plain in_attribute_name add_name after_attribute_name
equals_now name line start top below tag j new = rw new refl

pub white_now : (name : List ℕ) (byte line start : ℕ) (top : Open) (below : List Open) (tag : Tag) (j : Reader) → list_any (bytes_eq name) tag.names ≡ false → is_white byte ≡ true
    → plain (in_name name line start top below tag j) byte ≡ Ok (tagged modes.AfterAttributeName (line_after line byte) start top below (naming tag name) (record j { piece = [] }))
unfolding plain in_attribute_name add_name after_attribute_name
white_now name byte line start top below tag j new white = rw (white_unnamed byte white, new, white) refl

pub equals_later : (line start : ℕ) (top : Open) (below : List Open) (tag : Tag) (j : Reader) → plain (tagged modes.AfterAttributeName line start top below tag j) 61 ≡ Ok (tagged modes.BeforeValue line start top below tag j)
unfolding plain after_attribute_name
equals_later line start top below tag j = refl

pub equals-run : (before : List ℕ) → IsSpace before → (name : List ℕ) (line start : ℕ) (top : Open) (below : List Open) (tag : Tag) (j : Reader) (rest : List ℕ) → list_any (bytes_eq name) tag.names ≡ false
    → run (in_name name line start top below tag j) (before ++ 61 ∷ rest) ≡ run (tagged modes.BeforeValue (line_at line before) start top below (naming tag name) (record j { piece = [] })) rest
unfolding plain after_attribute_name
equals-run [] space name line start top below tag j rest new = run_step (in_name name line start top below tag j) _ 61 rest (equals_now name line start top below tag j new)
equals-run (byte ∷ before) space name line start top below tag j rest new =
    let k = record j { piece = [] } in
    let l = line_at (line_after line byte) before in
    run_step (in_name name line start top below tag j) _ byte (before ++ 61 ∷ rest) (white_now name byte line start top below tag j new space.0)
    ∙ pass is_white (λ n. tagged modes.AfterAttributeName n start top below (naming tag name) k) (λ n b white. rw white refl) before space.1 (line_after line byte) (61 ∷ rest)
    ∙ run_step (tagged modes.AfterAttributeName l start top below (naming tag name) k) _ 61 rest (equals_later l start top below (naming tag name) k)

pub quote_opens : (quote : Quote) (line start : ℕ) (top : Open) (below : List Open) (tag : Tag) (j : Reader) → plain (tagged modes.BeforeValue line start top below tag j) (quote_byte quote) ≡ Ok (tagged (modes.Value quote) line start top below tag j)
unfolding plain before_value
quote_opens quotes.Single line start top below tag j = refl
quote_opens quotes.Double line start top below tag j = refl

-- a tag whose last value ended
pub ended_tag : (is_id : Bool) (tag : Tag) (value : List ℕ) → (if is_id then record tag { is_id = is_id; id = Some (valued is_id [] value); value = [] } else record tag { is_id = is_id; value = valued is_id [] value })
    ≡ record tag { is_id = is_id; value = []; id = if is_id then Some value else tag.id }
ended_tag true tag value = refl
ended_tag false tag value = refl

quote_closes : (quote : Quote) (line start : ℕ) (top : Open) (below : List Open) (tag : Tag) (j : Reader)
    → plain (tagged (modes.Value quote) line start top below tag j) (quote_byte quote) ≡ Ok (tagged (modes.Tag false) line start top below (if tag.is_id then record tag { id = Some tag.value; value = [] } else tag) j)
unfolding plain in_value end_value
quote_closes quotes.Single line start top below tag j = ap (λ (r : Reader). Ok (record r { line = line })) (push_if tag.is_id (λ (t : Tag). tagged (modes.Tag false) line start top below t j) _ tag)
quote_closes quotes.Double line start top below tag j = ap (λ (r : Reader). Ok (record r { line = line })) (push_if tag.is_id (λ (t : Tag). tagged (modes.Tag false) line start top below t j) _ tag)

pub quote_line : (quote : Quote) (line : ℕ) → line_after line (quote_byte quote) ≡ line
quote_line quotes.Single line = refl
quote_line quotes.Double line = refl

-- where the quotes of an attribute's value stand
abbrev in_quotes : ℕ → List ℕ → List ℕ → List ℕ
in_quotes q written rest = q ∷ (written ++ q ∷ rest)

spread : (name before after written rest : List ℕ) (q : ℕ) → (name ++ (before ++ 61 ∷ (after ++ in_quotes q written []))) ++ rest ≡ name ++ (before ++ 61 ∷ (after ++ in_quotes q written rest))
spread name before after written rest q =
    append_assoc name (before ++ 61 ∷ (after ++ in_quotes q written [])) rest
    ∙ ap (λ (xs : List ℕ). name ++ xs) (append_assoc before (61 ∷ (after ++ in_quotes q written [])) rest
    ∙ ap (λ (xs : List ℕ). before ++ 61 ∷ xs) (append_assoc after (in_quotes q written []) rest
    ∙ ap (λ (xs : List ℕ). after ++ q ∷ xs) (append_assoc written (q ∷ []) rest)))

line_past : (quote : Quote) (line : ℕ) (name before after written : List ℕ) → line_at (line_at (line_at (line_at line name) before) after) written ≡ line_at line (name ++ (before ++ 61 ∷ (after ++ in_quotes (quote_byte quote) written [])))
line_past quote line name before after written =
    let q = quote_byte quote in
    let l1 = line_at line name in
    let l2 = line_at l1 before in
    let l3 = line_at l2 after in
    sym (line_at-append line name (before ++ 61 ∷ (after ++ in_quotes q written []))
    ∙ line_at-append l1 before (61 ∷ (after ++ in_quotes q written []))
    ∙ line_at-append l2 after (in_quotes q written [])
    ∙ ap (λ l. line_at l (written ++ q ∷ [])) (quote_line quote l3)
    ∙ line_at-append l3 written (q ∷ [])
    ∙ quote_line quote (line_at l3 written))

pub attribute-goes : (bytes : List ℕ) (a : Attribute) → IsAttribute bytes a → (line start : ℕ) (top : Open) (below : List Open) (tag : Tag) (j : Reader) → list_any (bytes_eq a.0) tag.names ≡ false
    → Goes (tagged (modes.Tag true) line start top below tag j) bytes (tagged (modes.Tag false) (line_at line bytes) start top below (with_attribute tag a))
unfolding plain before_value
attribute-goes bytes a (IsAttribute.named name before after written value quote n b c v) line start top below tag j new =
    let q = quote_byte quote in
    let l1 = line_at line name in
    let l2 = line_at l1 before in
    let l3 = line_at l2 after in
    let l4 = line_at l3 written in
    let k = record j { piece = [] } in
    let inside = value-goes quote written value v l3 start top below (naming tag name) k in (
      inside.0,
      λ rest.
          ap (λ (xs : List ℕ). run (tagged (modes.Tag true) line start top below tag j) xs) (spread name before after written rest q)
          ∙ attribute_name-run name n line start top below tag j (before ++ 61 ∷ (after ++ in_quotes q written rest))
          ∙ equals-run before b name l1 start top below tag j (after ++ in_quotes q written rest) new
          ∙ pass is_white (λ l. tagged modes.BeforeValue l start top below (naming tag name) k) (λ l byte white. rw white refl) after c l2 (in_quotes q written rest)
          ∙ run_step (tagged modes.BeforeValue l3 start top below (naming tag name) k) _ q (written ++ q ∷ rest) (quote_opens quote l3 start top below (naming tag name) k)
          ∙ inside.1 (q ∷ rest)
          ∙ run_step (tagged (modes.Value quote) l4 start top below (with_value (naming tag name) value) inside.0) _ q rest (quote_closes quote l4 start top below (with_value (naming tag name) value) inside.0)
          ∙ ap (λ (t : Tag). run (tagged (modes.Tag false) l4 start top below t inside.0) rest) (ended_tag (bytes_eq name id_name) (naming tag name) value)
          ∙ ap (λ l. run (tagged (modes.Tag false) l start top below (with_attribute tag (name, value)) inside.0) rest) (line_past quote line name before after written),
    )

-- none of these names is among others, nor twice among them
abbrev pub AreFresh : List (List ℕ) → List (List ℕ) → Type 0
AreFresh before [] = Unit {0}
AreFresh before (name ∷ names) = (list_any (bytes_eq name) before ≡ false) × AreFresh (before ++ name ∷ []) names

abbrev pub names_of : List Attribute → List (List ℕ)
names_of list = map (λ attribute. attribute.0) list

white_begins : (byte line start : ℕ) (spaced : Bool) (top : Open) (below : List Open) (tag : Tag) (j : Reader) → is_white byte ≡ true
    → plain (tagged (modes.Tag spaced) line start top below tag j) byte ≡ Ok (tagged (modes.Tag true) (line_after line byte) start top below tag j)
unfolding plain in_tag
white_begins byte line start spaced top below tag j white = rw white refl

pub gap-run : (gap : List ℕ) → IsGap gap → (line start : ℕ) (spaced : Bool) (top : Open) (below : List Open) (tag : Tag) (j : Reader) (rest : List ℕ)
    → run (tagged (modes.Tag spaced) line start top below tag j) (gap ++ rest) ≡ run (tagged (modes.Tag true) (line_at line gap) start top below tag j) rest
gap-run [] h line start spaced top below tag j rest = absurd (h.1 refl)
gap-run (byte ∷ gap) h line start spaced top below tag j rest =
    run_step (tagged (modes.Tag spaced) line start top below tag j) _ byte (gap ++ rest) (white_begins byte line start spaced top below tag j h.0.0)
    ∙ pass is_white (λ l. tagged (modes.Tag true) l start top below tag j) (λ l b white. white_begins b l start true top below tag j white) gap h.0.1 (line_after line byte) rest

pub attributes-goes : (bytes : List ℕ) (list : List Attribute) → AreAttributes bytes list → (line start : ℕ) (top : Open) (below : List Open) (tag : Tag) (j : Reader) → AreFresh tag.names (names_of list)
    → Goes (tagged (modes.Tag false) line start top below tag j) bytes (tagged (modes.Tag false) (line_at line bytes) start top below (with_attributes tag list))
attributes-goes bytes list AreAttributes.nothing line start top below tag j fresh = (j, λ rest. refl)
attributes-goes bytes list (AreAttributes.more gap first rest a others g f r) line start top below tag j fresh =
    let l1 = line_at line gap in
    let l2 = line_at l1 first in
    let now = attribute-goes first a f l1 start top below tag j fresh.0 in
    let later = attributes-goes rest others r l2 start top below (with_attribute tag a) now.0 fresh.1 in (
      later.0,
      λ more.
          ap (λ (xs : List ℕ). run (tagged (modes.Tag false) line start top below tag j) xs) (append_assoc gap (first ++ rest) more ∙ ap (λ (xs : List ℕ). gap ++ xs) (append_assoc first rest more))
          ∙ gap-run gap g line start false top below tag j (first ++ (rest ++ more))
          ∙ now.1 (rest ++ more)
          ∙ later.1 more
          ∙ ap (λ l. run (tagged (modes.Tag false) l start top below (with_attributes (with_attribute tag a) others) later.0) more) (sym (line_at-append line gap (first ++ rest) ∙ line_at-append l1 first rest)),
    )

-- ---- what attributes say

other_any : (name : List ℕ) (names : List (List ℕ)) (last : List ℕ) → list_any (bytes_eq name) names ≡ false → ¬ (last ≡ name) → list_any (bytes_eq name) (names ++ last ∷ []) ≡ false
other_any name [] last e differ = rw (false_from_ne_true (bytes_eq name last) (λ is. differ (sym ((bytes_eq-Decides name last).0 is)))) refl
other_any name (x ∷ names) last e differ = both (bytes_eq name x) _ e (λ later. other_any name names last later differ)
  where
    both : (s t : Bool) → (s || t) ≡ false → (t ≡ false → list_any (bytes_eq name) (names ++ last ∷ []) ≡ false) → (s || list_any (bytes_eq name) (names ++ last ∷ [])) ≡ false
    both true t e f = absurd cc
    both false t e f = f e

abbrev NoneIn : List (List ℕ) → List (List ℕ) → Type 0
NoneIn before names = AllByRecursion (λ name. list_any (bytes_eq name) before ≡ false) names

none_later : (before : List (List ℕ)) (last : List ℕ) (names : List (List ℕ)) → NoneIn before names → AllByRecursion (λ other. ¬ (last ≡ other)) names → NoneIn (before ++ last ∷ []) names
none_later before last [] h d = tt
none_later before last (name ∷ names) h d = (other_any name before last h.0 d.0, none_later before last names h.1 d.1)

fresh_from : (before names : List (List ℕ)) → NoneIn before names → AreDistinct names → AreFresh before names
fresh_from before [] h d = tt
fresh_from before (name ∷ names) h d = (h.0, fresh_from (before ++ name ∷ []) names (none_later before name names h.1 d.0) d.1)

none_of_none : (names : List (List ℕ)) → NoneIn [] names
none_of_none [] = tt
none_of_none (name ∷ names) = (refl, none_of_none names)

pub fresh : (names : List (List ℕ)) → AreDistinct names → AreFresh [] names
fresh names d = fresh_from [] names (none_of_none names) d

-- an id stays where no other follows
id_stays : (tag : Tag) (list : List Attribute) → AllByRecursion (λ other. ¬ (id_name ≡ other)) (names_of list) → (with_attributes tag list).id ≡ tag.id
id_stays tag [] h = refl
id_stays tag (a ∷ list) h = id_stays (with_attribute tag a) list h.1 ∙ rw (false_from_ne_true (bytes_eq a.0 id_name) (λ is. h.0 (sym ((bytes_eq-Decides a.0 id_name).0 is)))) refl

pub id_is : (tag : Tag) (list : List Attribute) → AreDistinct (names_of list) → tag.id ≡ None → (with_attributes tag list).id ≡ value_of id_name list
id_is tag [] d e = e
id_is tag (a ∷ list) d e = elim (cases_Bool (bytes_eq a.0 id_name)) [
  | inl is ↦
      let named : a.0 ≡ id_name = (bytes_eq-Decides a.0 id_name).0 is in
      id_stays (with_attribute tag a) list (subst (λ (n : List ℕ). AllByRecursion (λ other. ¬ (n ≡ other)) (names_of list)) named d.0) ∙ rw is refl
  | inr other ↦ id_is (with_attribute tag a) list d.1 (rw other e) ∙ rw other refl
]

pub tag_name_stays : (tag : Tag) (list : List Attribute) → (with_attributes tag list).name ≡ tag.name
tag_name_stays tag [] = refl
tag_name_stays tag (a ∷ list) = tag_name_stays (with_attribute tag a) list
