-- The grammar of documents: which bytes are a tag, a comment, content, an element or a document, and what they stand for.
use Rattle.std.specs.Prelude.{◌≡◌, ℕ, ◌+◌, ◌<◌, true, false, List, [], ◌∷◌, ◌++◌, map, count_by, Option, Some, None, option_map, if◌then◌else◌}
use Rattle.std.specs.Char.{IsScalar, encode_utf8}
use Rattle.std.specs.List.{AllByRecursion}
use Rattle.std.specs.Str.{IsUtf8, bytes_eq}
use Rattle.ror_text.specs.Lines.{is_line_end}
use Rattle.ror_elements.specs.declared.limits.TheConstants.{MOST_DEPTH}
use Rattle.ror_elements.specs.declared.mode.Quote.{Quote}
use Rattle.ror_elements.specs.Declarations.{encoding_name, is_utf8_name}
use Rattle.ror_elements.specs.Elements.{without_mark}
use Rattle.ror_elements.specs.Kept.{is_kept, child_path}
use Rattle.ror_elements.specs.Marks.{is_white, is_control, is_name_byte, local_name, trimmed}
use Rattle.ror_elements.specs.Mode.{quote_byte}
use Rattle.ror_elements.specs.References.{digit_value, digits_number}
use Rattle.ror_elements.specs.Tags.{root_name, id_name}
use Rattle.ror_elements.specs.Tree.{Tree, node, none, trees_of, name_of}

-- ---- white space, names and lines

-- white space, or nothing
abbrev pub IsSpace : List ℕ → Type 0
IsSpace bytes = AllByRecursion (λ byte. is_white byte ≡ true) bytes

-- white space
abbrev pub IsGap : List ℕ → Type 0
IsGap bytes = IsSpace bytes × ¬ (bytes ≡ [])

-- one or more bytes that may stand in a name
abbrev pub IsName : List ℕ → Type 0
IsName bytes = AllByRecursion (λ byte. is_name_byte byte ≡ true) bytes × ¬ (bytes ≡ [])

-- the line behind bytes that begin on this line
abbrev pub line_behind : ℕ → List ℕ → ℕ
line_behind line bytes = line + count_by is_line_end bytes

-- a mark stands behind these bytes, and nowhere before
abbrev pub IsUpTo : List ℕ → List ℕ → Type 0
IsUpTo mark bytes = (front more : List ℕ) → bytes ++ mark ≡ front ++ (mark ++ more) → more ≡ []

-- ---- references

-- one or more digits to this base
abbrev pub AreDigits : ℕ → List ℕ → Type 0
AreDigits base digits = AllByRecursion (λ digit. digit_value digit < base) digits × ¬ (digits ≡ [])

-- the code of a character, and not 0
abbrev pub IsCharacter : ℕ → Type 0
IsCharacter code = (0 < code) × IsScalar code

-- what stands between `&` and `;`, and the character for which it stands: `lt`, `gt`, `amp`, `quot` or
-- `apos`, or `#` and decimal digits, or `#x` and hexadecimal ones
pub data Names : List ℕ → ℕ → Type 0 where
  less : Names (108 ∷ 116 ∷ []) 60
  greater : Names (103 ∷ 116 ∷ []) 62
  ampersand : Names (97 ∷ 109 ∷ 112 ∷ []) 38
  double_quote : Names (113 ∷ 117 ∷ 111 ∷ 116 ∷ []) 34
  single_quote : Names (97 ∷ 112 ∷ 111 ∷ 115 ∷ []) 39
  decimal : (digits : List ℕ) → AreDigits 10 digits → IsCharacter (digits_number 10 digits)
      → Names (35 ∷ digits) (digits_number 10 digits)
  hexadecimal : (digits : List ℕ) → AreDigits 16 digits → IsCharacter (digits_number 16 digits)
      → Names (35 ∷ 120 ∷ digits) (digits_number 16 digits)

-- `&`, a name and `;`
pub data IsReference : List ℕ → ℕ → Type 0 where
  reference : (name : List ℕ) (character : ℕ) → Names name character
      → IsReference (38 ∷ name ++ 59 ∷ []) character

-- ---- attributes

-- what stands in quotes, and the value that it writes: bytes other than the quote, `<` and `&`, and references
pub data IsValue (quote : Quote) : List ℕ → List ℕ → Type 0 where
  nothing : IsValue quote [] []
  plain : (byte : ℕ) (bytes value : List ℕ) → ¬ (byte ≡ quote_byte quote) → ¬ (byte ≡ 60) → ¬ (byte ≡ 38)
      → IsValue quote bytes value → IsValue quote (byte ∷ bytes) (byte ∷ value)
  character : (first bytes value : List ℕ) (code : ℕ) → IsReference first code → IsValue quote bytes value
      → IsValue quote (first ++ bytes) (encode_utf8 code ++ value)

-- a name and a value
abbrev pub Attribute : Type 0
Attribute = List ℕ × List ℕ

-- a name, `=` with or without white space round it, and a value in quotes
pub data IsAttribute : List ℕ → Attribute → Type 0 where
  named : (name before after written value : List ℕ) (quote : Quote) → IsName name → IsSpace before → IsSpace after
      → IsValue quote written value
      → IsAttribute (name ++ (before ++ (61 ∷ after ++ (quote_byte quote ∷ written ++ quote_byte quote ∷ [])))) (name, value)

-- attributes, each behind white space
pub data AreAttributes : List ℕ → List Attribute → Type 0 where
  nothing : AreAttributes [] []
  more : (gap first rest : List ℕ) (attribute : Attribute) (attributes : List Attribute) → IsGap gap
      → IsAttribute first attribute → AreAttributes rest attributes
      → AreAttributes (gap ++ (first ++ rest)) (attribute ∷ attributes)

-- no name comes twice
abbrev pub AreDistinct : List (List ℕ) → Type 0
AreDistinct [] = Unit {0}
AreDistinct (name ∷ names) = AllByRecursion (λ other. ¬ (name ≡ other)) names × AreDistinct names

-- the value of the attribute with this name, if there is one
abbrev pub value_of : List ℕ → List Attribute → Option (List ℕ)
value_of name [] = None
value_of name (first ∷ rest) = if bytes_eq first.0 name then Some first.1 else value_of name rest

-- ---- tags

-- the first byte is neither `!` nor `?`, with which other markup begins
abbrev pub BeginsTag : List ℕ → Type 0
BeginsTag [] = ⊥
BeginsTag (first ∷ rest) = ¬ (first ≡ 33) × ¬ (first ≡ 63)

-- `<`, a name, attributes, maybe white space, and this ending, with the name and the id
pub data IsTag (ending : List ℕ) : List ℕ → List ℕ → Option (List ℕ) → Type 0 where
  tag : (name written space : List ℕ) (attributes : List Attribute) → IsName name → BeginsTag name
      → AreAttributes written attributes → AreDistinct (map (λ attribute. attribute.0) attributes) → IsSpace space
      → IsTag ending (60 ∷ name ++ (written ++ (space ++ ending))) name (value_of id_name attributes)

-- a tag that ends in `>`
abbrev pub IsStartTag : List ℕ → List ℕ → Option (List ℕ) → Type 0
IsStartTag = IsTag (62 ∷ [])

-- a tag that ends in `/>`
abbrev pub IsEmptyTag : List ℕ → List ℕ → Option (List ℕ) → Type 0
IsEmptyTag = IsTag (47 ∷ 62 ∷ [])

-- `</`, this name, maybe white space, and `>`
pub data IsEndTag : List ℕ → List ℕ → Type 0 where
  end : (name space : List ℕ) → IsSpace space → IsEndTag (60 ∷ 47 ∷ name ++ (space ++ 62 ∷ [])) name

-- ---- comments, instructions and sections

-- `<!--`, and what follows up to the next `-->`
pub data IsComment : List ℕ → Type 0 where
  comment : (bytes : List ℕ) → IsUpTo (45 ∷ 45 ∷ 62 ∷ []) bytes
      → IsComment (60 ∷ 33 ∷ 45 ∷ 45 ∷ bytes ++ 45 ∷ 45 ∷ 62 ∷ [])

-- `<?`, these bytes up to the next `?>`, and that
pub data IsInstruction : List ℕ → List ℕ → Type 0 where
  instruction : (bytes : List ℕ) → IsUpTo (63 ∷ 62 ∷ []) bytes
      → IsInstruction (60 ∷ 63 ∷ bytes ++ 63 ∷ 62 ∷ []) bytes

-- `<![CDATA[`, these bytes up to the next `]]>`, and that
pub data IsSection : List ℕ → List ℕ → Type 0 where
  section : (bytes : List ℕ) → IsUpTo (93 ∷ 93 ∷ 62 ∷ []) bytes
      → IsSection (60 ∷ 33 ∷ 91 ∷ 67 ∷ 68 ∷ 65 ∷ 84 ∷ 65 ∷ 91 ∷ bytes ++ 93 ∷ 93 ∷ 62 ∷ []) bytes

-- a comment or an instruction
pub data IsPassedOver : List ℕ → Type 0 where
  comment : (bytes : List ℕ) → IsComment bytes → IsPassedOver bytes
  instruction : (bytes inside : List ℕ) → IsInstruction bytes inside → IsPassedOver bytes

-- ---- elements

-- the path of an element that is kept, and nothing for one that is not
abbrev pub Place : Type 0
Place = Option (List ℕ)

-- the place of the child with this local name. Inside an element that is not kept none is
abbrev pub place_in : Place → List ℕ → Place
place_in None name = None
place_in (Some path) name = if is_kept path name then Some (child_path path name) else None

-- an element, if it is kept
abbrev pub kept_at : Place → Tree → List Tree
kept_at None tree = []
kept_at (Some path) tree = tree ∷ []

mutual
  -- What stands in an element at this place, with so many elements open, from this line on, with its text and
  -- the elements in it that are kept
  pub data IsContent : ℕ → Place → ℕ → List ℕ → List ℕ → List Tree → Type 0 where
    nothing : (depth : ℕ) (place : Place) (line : ℕ) → IsContent depth place line [] [] []
    more : (depth : ℕ) (place : Place) (line : ℕ) (first rest text texts : List ℕ) (inside behind : List Tree)
        → IsPart depth place line first text inside → IsContent depth place (line_behind line first) rest texts behind
        → IsContent depth place line (first ++ rest) (text ++ texts) (inside ++ behind)

  -- A byte other than `<` and `&`, a reference or a section, which are text; a comment or an instruction; or an
  -- element
  pub data IsPart : ℕ → Place → ℕ → List ℕ → List ℕ → List Tree → Type 0 where
    plain : (depth : ℕ) (place : Place) (line byte : ℕ) → ¬ (byte ≡ 60) → ¬ (byte ≡ 38)
        → IsPart depth place line (byte ∷ []) (byte ∷ []) []
    character : (depth : ℕ) (place : Place) (line : ℕ) (bytes : List ℕ) (code : ℕ) → IsReference bytes code
        → IsPart depth place line bytes (encode_utf8 code) []
    section : (depth : ℕ) (place : Place) (line : ℕ) (bytes text : List ℕ) → IsSection bytes text
        → IsPart depth place line bytes text []
    passed_over : (depth : ℕ) (place : Place) (line : ℕ) (bytes : List ℕ) → IsPassedOver bytes
        → IsPart depth place line bytes [] []
    element : (depth : ℕ) (place : Place) (line : ℕ) (bytes : List ℕ) (kept : List Tree)
        → IsElement depth place line bytes kept → IsPart depth place line bytes [] kept

  -- An empty tag, or a start tag, content and an end tag with the same name, with so many elements open around it:
  -- the element with its local name, its id and its text without white space around them, its line and the elements
  -- in it, if it is kept
  pub data IsElement : ℕ → Place → ℕ → List ℕ → List Tree → Type 0 where
    empty : (depth : ℕ) (place : Place) (line : ℕ) (bytes name : List ℕ) (id : Option (List ℕ)) → depth < MOST_DEPTH
        → IsEmptyTag bytes name id
        → IsElement depth place line bytes
        (kept_at (place_in place (local_name name)) (node (local_name name) (option_map trimmed id) [] line none))
    whole : (depth : ℕ) (place : Place) (line : ℕ) (start content end name text : List ℕ) (id : Option (List ℕ))
        (inside : List Tree) → depth < MOST_DEPTH → IsStartTag start name id
        → IsContent (depth + 1) (place_in place (local_name name)) (line_behind line start) content text inside
        → IsEndTag end name
        → IsElement depth place line (start ++ (content ++ end))
        (kept_at (place_in place (local_name name))
        (node (local_name name) (option_map trimmed id) (trimmed text) line (trees_of inside)))

-- ---- the declaration of an encoding

-- bytes that hold neither the quote nor `<`
abbrev pub IsQuoted : Quote → List ℕ → Type 0
IsQuoted quote bytes = AllByRecursion (λ byte. ¬ (byte ≡ quote_byte quote) × ¬ (byte ≡ 60)) bytes

-- white space, a name, `=` with or without white space round it, and a value in quotes
pub data IsPair : List ℕ → List ℕ → List ℕ → Type 0 where
  pair : (gap name before after value : List ℕ) (quote : Quote) → IsGap gap → IsName name → IsSpace before
      → IsSpace after → IsQuoted quote value
      → IsPair (gap ++ (name ++ (before ++ (61 ∷ after ++ (quote_byte quote ∷ value ++ quote_byte quote ∷ []))))) name value

-- the first of some pairs that is named `encoding` has this value. Behind it may stand anything
pub data NamesEncoding : List ℕ → List ℕ → Type 0 where
  here : (first rest value : List ℕ) → IsPair first encoding_name value → NamesEncoding (first ++ rest) value
  later : (first rest name other value : List ℕ) → IsPair first name other → ¬ (name ≡ encoding_name)
      → NamesEncoding rest value → NamesEncoding (first ++ rest) value

-- an instruction of these bytes has the target `xml` and names this encoding
pub data Declares : List ℕ → List ℕ → Type 0 where
  declares : (rest encoding : List ℕ) → NamesEncoding rest encoding → Declares (120 ∷ 109 ∷ 108 ∷ rest) encoding

-- an instruction with which the text begins names no other encoding than UTF-8
abbrev pub DeclaresUtf8 : List ℕ → Type 0
DeclaresUtf8 text = (first rest inside encoding : List ℕ) → text ≡ first ++ rest → IsInstruction first inside
    → Declares inside encoding → is_utf8_name encoding ≡ true

-- ---- documents

-- white space, comments and instructions
pub data IsAround : List ℕ → Type 0 where
  nothing : IsAround []
  white : (byte : ℕ) (rest : List ℕ) → is_white byte ≡ true → IsAround rest → IsAround (byte ∷ rest)
  passed_over : (first rest : List ℕ) → IsPassedOver first → IsAround rest → IsAround (first ++ rest)

-- A document in UTF-8, with this root: behind a byte order mark, if there is one, stand white space, comments and
-- instructions, the root, and such again. No byte is a control byte, no other encoding is declared, and the root's
-- local name is `XMCDA`
pub record IsDocument (bytes : List ℕ) (root : Tree) : Type 0 where
  pub utf8 : IsUtf8 bytes
  pub clean : AllByRecursion (λ byte. is_control byte ≡ false) (without_mark bytes)
  pub declared : DeclaresUtf8 (without_mark bytes)
  pub before : List ℕ
  pub element : List ℕ
  pub after : List ℕ
  pub whole : without_mark bytes ≡ before ++ (element ++ after)
  pub is_before : IsAround before
  pub is_root : IsElement 0 (Some []) (line_behind 1 before) element (root ∷ [])
  pub is_named : name_of root ≡ root_name
  pub is_after : IsAround after

-- the bytes are no document
abbrev pub IsNoDocument : List ℕ → Type 0
IsNoDocument bytes = (root : Tree) → ¬ (IsDocument bytes root)
