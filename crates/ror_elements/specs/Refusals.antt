-- Which fault a text has, by what stands in it.
use Rattle.std.specs.Prelude.{◌≡◌, ◌⊎◌, ℕ, ◌<◌, true, false, List, [], ◌∷◌, ◌++◌, length, map, codes, Option, Some, None, Err}
use Rattle.std.specs.List.{AllByRecursion}
use Rattle.std.specs.Str.{IsUtf8}
use Rattle.ror_text.specs.Lines.{bad_utf8_line}
use Rattle.ror_elements.specs.declared.element.ElementFault.{ElementFault}
use Rattle.ror_elements.specs.declared.element.ElementKind.{ElementKind}
use Rattle.ror_elements.specs.declared.element.ElementKind.TheVariants as kinds
use Rattle.ror_elements.specs.declared.limits.TheConstants.{MOST_DEPTH}
use Rattle.ror_elements.specs.Declarations.{is_utf8_name}
use Rattle.ror_elements.specs.declared.mode.Opening.{Opening}
use Rattle.ror_elements.specs.declared.mode.Quote.{Quote}
use Rattle.ror_elements.specs.Elements.{elements_of, without_mark}
use Rattle.ror_elements.specs.Faults.{fault}
use Rattle.ror_elements.specs.Grammar.{IsName, IsSpace, IsGap, BeginsTag, IsValue, Attribute, AreAttributes, AreDistinct, IsAround, IsElement, IsComment, IsInstruction, IsSection, IsTag, Declares, DeclaresUtf8, Names, AreDigits, IsCharacter, line_behind}
use Rattle.ror_elements.specs.Marks.{is_white, is_control, is_name_byte, local_name}
use Rattle.ror_elements.specs.Mode.{opening_text, quote_byte, quote_of}
use Rattle.ror_elements.specs.References.{number_of}
use Rattle.ror_elements.specs.Tags.{root_name}
use Rattle.ror_elements.specs.Tree.{Tree, name_of}

-- ---- places where a construct may begin

-- `</`, a name, a blank and `>`. With the blank it ends no comment, no instruction and no section
abbrev pub end_tag : List ℕ → List ℕ
end_tag name = 60 ∷ 47 ∷ name ++ (32 ∷ 62 ∷ [])

-- the end tags of these elements, from the innermost
abbrev pub end_tags : List (List ℕ) → List ℕ
end_tags [] = []
end_tags (name ∷ names) = end_tag name ++ end_tags names

-- white space, comments and instructions, a root that is an `XMCDA`, and such again; and no other encoding is declared
pub record IsRooted (text : List ℕ) : Type 0 where
  pub root : Tree
  pub before : List ℕ
  pub element : List ℕ
  pub after : List ℕ
  pub whole : text ≡ before ++ (element ++ after)
  pub is_before : IsAround before
  pub is_root : IsElement 0 (Some []) (line_behind 1 before) element (root ∷ [])
  pub is_named : name_of root ≡ root_name
  pub is_after : IsAround after
  pub declared : DeclaresUtf8 text

-- no byte is a control byte
abbrev pub IsClean : List ℕ → Type 0
IsClean bytes = AllByRecursion (λ byte. is_control byte ≡ false) bytes

-- the first bytes of a text, behind which the root may begin: with `<XMCDA/>` behind them they are a whole text
abbrev pub IsBeforeRoot : List ℕ → Type 0
IsBeforeRoot front = IsClean front × IsRooted (front ++ codes "<XMCDA/>")

-- the first bytes of a text, behind which these elements are open, from the innermost: with their end tags they are a
-- whole text. Behind the root none is open
pub record IsFromRoot (front : List ℕ) (names : List (List ℕ)) : Type 0 where
  pub clean : IsClean front
  pub named : AllByRecursion IsName names
  pub is_rooted : IsRooted (front ++ end_tags names)

-- the first bytes of a text, behind which a construct may begin, with these elements open
pub data IsFront (front : List ℕ) : List (List ℕ) → Type 0 where
  before_root : IsBeforeRoot front → IsFront front []
  from_root : (names : List (List ℕ)) → IsFromRoot front names → IsFront front names

-- these bytes stand where a construct may begin, with these elements open, and on this line
pub record StandsAt (text : List ℕ) (line : ℕ) (names : List (List ℕ)) (bytes : List ℕ) : Type 0 where
  pub front : List ℕ
  pub after : List ℕ
  pub whole : text ≡ front ++ (bytes ++ after)
  pub is_front : IsFront front names
  pub clean : IsClean bytes
  pub is_line : line ≡ line_behind 1 front

-- ---- the kinds of fault

-- `<!DOCTYPE`
abbrev pub HasDoctype : List ℕ → ℕ → Type 0
HasDoctype text line = (names : List (List ℕ)) × StandsAt text line names (codes "<!DOCTYPE")

-- an end tag with a name, up to the byte that ends it, that is not that of the innermost open element
pub record HasMismatched (text : List ℕ) (line : ℕ) : Type 0 where
  pub name : List ℕ
  pub opened : List ℕ
  pub around : List (List ℕ)
  pub next : ℕ
  pub is_name : IsName name
  pub ends : is_name_byte next ≡ false
  pub other : ¬ (name ≡ opened)
  pub stands : StandsAt text line (opened ∷ around) (60 ∷ 47 ∷ name ++ next ∷ [])

-- a tag with a name, up to the byte that ends it, in as many open elements as may be
pub record HasTooDeep (text : List ℕ) (line : ℕ) : Type 0 where
  pub name : List ℕ
  pub around : List (List ℕ)
  pub next : ℕ
  pub is_name : IsName name
  pub begins : BeginsTag name
  pub ends : is_name_byte next ≡ false
  pub deep : length around ≡ MOST_DEPTH
  pub stands : StandsAt text line around (60 ∷ name ++ next ∷ [])

-- an instruction with which the text begins, that declares another encoding than UTF-8
pub record HasEncoding (text : List ℕ) (line : ℕ) : Type 0 where
  pub first : List ℕ
  pub rest : List ℕ
  pub inside : List ℕ
  pub encoding : List ℕ
  pub whole : text ≡ first ++ rest
  pub clean : IsClean first
  pub is_instruction : IsInstruction first inside
  pub declares : Declares inside encoding
  pub foreign : is_utf8_name encoding ≡ false
  pub is_line : line ≡ 1

-- ---- tags

-- `<`, a name, attributes with these names, none of them twice, and then this rest
pub record IsBegunTag (bytes : List ℕ) (name : List ℕ) (names : List (List ℕ)) (rest : List ℕ) : Type 0 where
  pub written : List ℕ
  pub attributes : List Attribute
  pub whole : bytes ≡ 60 ∷ name ++ (written ++ rest)
  pub is_name : IsName name
  pub begins : BeginsTag name
  pub are : AreAttributes written attributes
  pub distinct : AreDistinct names
  pub named : names ≡ map (λ (attribute : Attribute). attribute.0) attributes

-- these bytes of a tag stand where it may begin, with these elements around it: there is room for one more, and it is no
-- second root
pub record TagStandsAt (text : List ℕ) (line : ℕ) (around : List (List ℕ)) (bytes name : List ℕ) (names : List (List ℕ))
    (rest : List ℕ) : Type 0 where
  pub stands : StandsAt text line around bytes
  pub is_begun : IsBegunTag bytes name names rest
  pub few : length around < MOST_DEPTH
  pub first : around ≡ [] → IsBeforeRoot stands.front

-- the byte ends an attribute's name, or stands behind white space that does
abbrev pub StandsBehind : List ℕ → ℕ → Type 0
StandsBehind space byte = (is_name_byte byte ≡ false) ⊎ ¬ (space ≡ [])

-- what stands behind attributes with these names, up to the first byte that makes it no tag: what is neither white
-- space, `>` nor `/`, and is no attribute for want of white space or of a name; another byte than `>` behind `/`; a name
-- that comes twice, up to the byte that ends it; another byte than `=` behind a name; another than a quote behind that;
-- and a `<` in a value
pub data IsBadRest (names : List (List ℕ)) : List ℕ → Type 0 where
  no_space : (byte : ℕ) → (is_name_byte byte ≡ false) ⊎ ¬ (names ≡ []) → is_white byte ≡ false → ¬ (byte ≡ 62)
      → ¬ (byte ≡ 47) → IsBadRest names (byte ∷ [])
  no_name : (space : List ℕ) (byte : ℕ) → IsGap space → is_white byte ≡ false → ¬ (byte ≡ 62) → ¬ (byte ≡ 47)
      → is_name_byte byte ≡ false → IsBadRest names (space ++ byte ∷ [])
  no_end : (space : List ℕ) (byte : ℕ) → IsSpace space → ¬ (byte ≡ 62) → IsBadRest names (space ++ 47 ∷ byte ∷ [])
  twice : (gap name : List ℕ) (byte : ℕ) → IsGap gap → IsName name → ¬ (AreDistinct (names ++ name ∷ []))
      → is_name_byte byte ≡ false → IsBadRest names (gap ++ (name ++ byte ∷ []))
  no_equals : (gap name space : List ℕ) (byte : ℕ) → IsGap gap → IsName name → IsSpace space → StandsBehind space byte
      → is_white byte ≡ false → ¬ (byte ≡ 61) → IsBadRest names (gap ++ (name ++ (space ++ byte ∷ [])))
  no_quote : (gap name before after : List ℕ) (byte : ℕ) → IsGap gap → IsName name → IsSpace before → IsSpace after
      → is_white byte ≡ false → quote_of byte ≡ None
      → IsBadRest names (gap ++ (name ++ (before ++ (61 ∷ after ++ byte ∷ []))))
  bracket : (gap name before after written value : List ℕ) (quote : Quote) → IsGap gap → IsName name → IsSpace before
      → IsSpace after → IsValue quote written value
      → IsBadRest names (gap ++ (name ++ (before ++ (61 ∷ after ++ (quote_byte quote ∷ written ++ 60 ∷ [])))))

-- before the root, a tag whose local name is not `XMCDA`
pub record HasForm (text : List ℕ) (line : ℕ) : Type 0 where
  pub front : List ℕ
  pub tag : List ℕ
  pub after : List ℕ
  pub ending : List ℕ
  pub name : List ℕ
  pub id : Option (List ℕ)
  pub whole : text ≡ front ++ (tag ++ after)
  pub is_front : IsBeforeRoot front
  pub clean : IsClean tag
  pub is_ending : (ending ≡ codes ">") ⊎ (ending ≡ codes "/>")
  pub is_tag : IsTag ending tag name id
  pub other : ¬ (local_name name ≡ root_name)
  pub is_line : line ≡ line_behind 1 front

-- ---- references

-- what may stand between `&` and `;`: bytes of a name other than `;`
abbrev pub AreReferenceBytes : List ℕ → Type 0
AreReferenceBytes bytes = AllByRecursion (λ byte. (is_name_byte byte ≡ true) × ¬ (byte ≡ 59)) bytes

-- behind attributes with these names stands another one, as far as its value goes, and these bytes in the value
pub data IsInValue (names : List (List ℕ)) (bytes : List ℕ) : List ℕ → Type 0 where
  behind : (gap name before after written value : List ℕ) (quote : Quote) → IsGap gap → IsName name
      → AreDistinct (names ++ name ∷ []) → IsSpace before → IsSpace after → IsValue quote written value
      → IsInValue names bytes (gap ++ (name ++ (before ++ (61 ∷ after ++ (quote_byte quote ∷ written ++ bytes)))))

-- these bytes stand in the text of an element, or at the end of a tag that has a value so far, and begin on this line
pub data RefersAt (text : List ℕ) (line : ℕ) (bytes : List ℕ) : Type 0 where
  in_text : (opened : List ℕ) (names : List (List ℕ)) → StandsAt text line (opened ∷ names) bytes
      → RefersAt text line bytes
  in_value : (around names : List (List ℕ)) (tag name rest : List ℕ) (start : ℕ) (before : List ℕ)
      → (there : TagStandsAt text start around tag name names rest) → IsInValue names bytes rest
      → text ≡ before ++ (bytes ++ there.stands.after) → line ≡ line_behind 1 before → RefersAt text line bytes

-- a name for no character, and not by a number: `#` and decimal digits, or `#x` and hexadecimal ones
pub record IsNoName (name : List ℕ) : Type 0 where
  pub are : AreReferenceBytes name
  pub some : ¬ (name ≡ [])
  pub unnamed : (character : ℕ) → ¬ (Names name character)
  pub no_decimal : (digits : List ℕ) → AreDigits 10 digits → ¬ (name ≡ 35 ∷ digits)
  pub no_hexadecimal : (digits : List ℕ) → AreDigits 16 digits → ¬ (name ≡ 35 ∷ 120 ∷ digits)

-- `&`, such a name and `;`
abbrev pub HasEntity : List ℕ → ℕ → Type 0
HasEntity text line = (name : List ℕ) × IsNoName name × RefersAt text line (38 ∷ name ++ 59 ∷ [])

-- ---- texts that end too early

-- what stands behind attributes with these names where the text ends: white space, maybe with `/` behind it; so much of
-- the name of another one; or such a name, which comes once, and so much of what follows it
pub data IsUnfinishedRest (names : List (List ℕ)) : List ℕ → Type 0 where
  space : (space : List ℕ) → IsSpace space → IsUnfinishedRest names space
  slash : (space : List ℕ) → IsSpace space → IsUnfinishedRest names (space ++ 47 ∷ [])
  name : (gap name : List ℕ) → IsGap gap → IsName name → IsUnfinishedRest names (gap ++ name)
  behind_name : (gap name space : List ℕ) → IsGap gap → IsName name → AreDistinct (names ++ name ∷ []) → IsGap space
      → IsUnfinishedRest names (gap ++ (name ++ space))
  behind_equals : (gap name before after : List ℕ) → IsGap gap → IsName name → AreDistinct (names ++ name ∷ [])
      → IsSpace before → IsSpace after → IsUnfinishedRest names (gap ++ (name ++ (before ++ (61 ∷ after))))
  in_value : (rest : List ℕ) → IsInValue names [] rest → IsUnfinishedRest names rest
  reference : (part rest : List ℕ) → AreReferenceBytes part → IsInValue names (38 ∷ part) rest
      → IsUnfinishedRest names rest

-- What stands where a construct may begin, with these elements open, and is no whole one: so much of what begins it; a
-- comment, an instruction or a section without its end; so much of an end tag or of a reference
pub data IsUnfinished : List (List ℕ) → List ℕ → Type 0 where
  markup : (names : List (List ℕ)) → IsUnfinished names (60 ∷ [])
  opening : (names : List (List ℕ)) (opening : Opening) (first more : List ℕ) → opening_text opening ≡ first ++ more
      → ¬ (more ≡ []) → IsUnfinished names (60 ∷ 33 ∷ first)
  comment : (names : List (List ℕ)) (bytes : List ℕ) → IsComment (bytes ++ codes "-->") → IsUnfinished names bytes
  instruction : (names : List (List ℕ)) (bytes inside : List ℕ) → IsInstruction (bytes ++ codes "?>") inside
      → IsUnfinished names bytes
  section : (opened : List ℕ) (names : List (List ℕ)) (bytes text : List ℕ) → IsSection (bytes ++ codes "]]>") text
      → IsUnfinished (opened ∷ names) bytes
  end_name : (opened name : List ℕ) (names : List (List ℕ)) → AllByRecursion (λ byte. is_name_byte byte ≡ true) name
      → IsUnfinished (opened ∷ names) (60 ∷ 47 ∷ name)
  end_space : (opened space : List ℕ) (names : List (List ℕ)) → IsGap space
      → IsUnfinished (opened ∷ names) (60 ∷ 47 ∷ opened ++ space)
  reference : (opened name : List ℕ) (names : List (List ℕ)) → AreReferenceBytes name
      → IsUnfinished (opened ∷ names) (38 ∷ name)

-- the text ends before the root, where an element is open, in what is no whole construct, in the name of a tag, or behind
-- it in a tag
pub data IsCut (text : List ℕ) : Type 0 where
  before_root : IsBeforeRoot text → IsCut text
  inside : (opened : List ℕ) (names : List (List ℕ)) → IsFromRoot text (opened ∷ names) → IsCut text
  within : (front bytes : List ℕ) (names : List (List ℕ)) → text ≡ front ++ bytes → IsFront front names
      → IsClean bytes → IsUnfinished names bytes → IsCut text
  in_name : (front name : List ℕ) (around : List (List ℕ)) → text ≡ front ++ 60 ∷ name → IsFront front around
      → (around ≡ [] → IsBeforeRoot front) → IsClean name → IsName name → BeginsTag name → IsCut text
  in_tag : (around names : List (List ℕ)) (bytes name rest : List ℕ) (line : ℕ)
      → (there : TagStandsAt text line around bytes name names rest) → there.stands.after ≡ [] → IsUnfinishedRest names rest
      → IsCut text

-- no byte of these is at fault: they are whole, or end too early
abbrev pub IsReadable : List ℕ → Type 0
IsReadable text = IsFromRoot text [] ⊎ IsCut text

-- ---- bad markup

-- What stands where a construct may begin, with these elements open, up to the first byte that makes it none: outside
-- the root, what is no white space; behind `<` what begins nothing; behind `<!` what begins neither `--`, `[CDATA[` nor
-- `DOCTYPE`, or what is none of these; outside the root, an end tag or a section; an end tag without a name, or with
-- another byte than `>` behind its name
pub data IsBadMarkup : List (List ℕ) → List ℕ → Type 0 where
  outside : (byte : ℕ) → is_white byte ≡ false → ¬ (byte ≡ 60) → IsBadMarkup [] (byte ∷ [])
  no_markup : (names : List (List ℕ)) (byte : ℕ) → is_name_byte byte ≡ false → ¬ (byte ≡ 33) → ¬ (byte ≡ 63) → ¬ (byte ≡ 47)
      → IsBadMarkup names (60 ∷ byte ∷ [])
  no_opening : (names : List (List ℕ)) (byte : ℕ) → ¬ (byte ≡ 45) → ¬ (byte ≡ 91) → ¬ (byte ≡ 68)
      → IsBadMarkup names (60 ∷ 33 ∷ byte ∷ [])
  other_opening : (names : List (List ℕ)) (opening : Opening) (first more : List ℕ) (there byte : ℕ)
      → opening_text opening ≡ first ++ there ∷ more → ¬ (first ≡ []) → ¬ (byte ≡ there)
      → IsBadMarkup names (60 ∷ 33 ∷ first ++ byte ∷ [])
  end_outside : IsBadMarkup [] (60 ∷ 47 ∷ [])
  section_outside : IsBadMarkup [] (codes "<![CDATA[")
  end_unnamed : (names : List (List ℕ)) (byte : ℕ) → is_name_byte byte ≡ false → IsBadMarkup names (60 ∷ 47 ∷ byte ∷ [])
  end_unended : (opened space : List ℕ) (names : List (List ℕ)) (byte : ℕ) → IsSpace space → StandsBehind space byte
      → is_white byte ≡ false → ¬ (byte ≡ 62) → IsBadMarkup (opened ∷ names) (60 ∷ 47 ∷ opened ++ (space ++ byte ∷ []))

-- What stands behind `&`, up to the first byte that makes it no reference: name bytes and another byte, which is not
-- `;`; a `;` at once; and the number of no character
pub data IsBadReference : List ℕ → Type 0 where
  unended : (name : List ℕ) (byte : ℕ) → AreReferenceBytes name → is_name_byte byte ≡ false → IsBadReference (name ++ byte ∷ [])
  unnamed : IsBadReference (59 ∷ [])
  no_character : (name : List ℕ) (code : ℕ) → AreReferenceBytes name → number_of name ≡ Some code → ¬ (IsCharacter code)
      → IsBadReference (name ++ 59 ∷ [])

-- a control byte behind what has no fault, markup that is bad where it stands, a tag that is none, a second root, or a
-- reference that is none
pub data HasBadMarkup (text : List ℕ) (line : ℕ) : Type 0 where
  control : (before after : List ℕ) (byte : ℕ) → text ≡ before ++ byte ∷ after → IsReadable before
      → is_control byte ≡ true → line ≡ line_behind 1 before → HasBadMarkup text line
  markup : (names : List (List ℕ)) (bytes : List ℕ) → IsBadMarkup names bytes → StandsAt text line names bytes
      → HasBadMarkup text line
  in_tag : (around names : List (List ℕ)) (bytes name rest : List ℕ) → TagStandsAt text line around bytes name names rest
      → IsBadRest names rest → HasBadMarkup text line
  second_root : (front after : List ℕ) (byte : ℕ) → text ≡ front ++ (60 ∷ byte ∷ after) → IsFromRoot front []
      → is_name_byte byte ≡ true → ¬ (byte ≡ 33) → ¬ (byte ≡ 63) → line ≡ line_behind 1 front → HasBadMarkup text line
  reference : (bytes : List ℕ) → IsBadReference bytes → RefersAt text line (38 ∷ bytes) → HasBadMarkup text line

-- the line is that of the text's end
abbrev pub HasUnclosed : List ℕ → ℕ → Type 0
HasUnclosed text line = IsCut text × (line ≡ line_behind 1 text)

-- ---- the kinds together

-- a fault of this kind, at this line. Only that the bytes are no UTF-8 is asked of all; of all others, of what is UTF-8,
-- behind a byte order mark if there is one
abbrev pub HasFault : ElementKind → List ℕ → ℕ → Type 0
HasFault kinds.NotUtf8 bytes line = ¬ (IsUtf8 bytes) × (line ≡ bad_utf8_line bytes)
HasFault kinds.Form bytes line = IsUtf8 bytes × HasForm (without_mark bytes) line
HasFault kinds.BadMarkup bytes line = IsUtf8 bytes × HasBadMarkup (without_mark bytes) line
HasFault kinds.TooDeep bytes line = IsUtf8 bytes × HasTooDeep (without_mark bytes) line
HasFault kinds.Unclosed bytes line = IsUtf8 bytes × HasUnclosed (without_mark bytes) line
HasFault kinds.Mismatched bytes line = IsUtf8 bytes × HasMismatched (without_mark bytes) line
HasFault kinds.Doctype bytes line = IsUtf8 bytes × HasDoctype (without_mark bytes) line
HasFault kinds.Encoding bytes line = IsUtf8 bytes × HasEncoding (without_mark bytes) line
HasFault kinds.Entity bytes line = IsUtf8 bytes × HasEntity (without_mark bytes) line

-- the fault that is given is one that the text has, of its kind and at its line
abbrev pub FaultsAreWhatTheySay : Type 0
FaultsAreWhatTheySay = (bytes : List ℕ) (first : ElementFault) → elements_of bytes ≡ Err first → HasFault first.kind bytes first.line

-- wherever a text has a fault it is given, so that it has no other
abbrev pub FaultsAreGiven : Type 0
FaultsAreGiven = (bytes : List ℕ) (kind : ElementKind) (line : ℕ) → HasFault kind bytes line → elements_of bytes ≡ Err (fault kind line)
