-- What the bytes behind a state of the reader are, where a document ends with them.
use Rattle.std.proofs.Common.{◌≡◌, ℕ, ◌-◌, ◌<◌, Bool, true, false, not, List, [], ◌∷◌, ◌++◌, length, take, Some, Result, Ok, Err}
use Rattle.std.specs.Prelude.{◌==◌, ◌&&◌, ◌⊎◌, if◌then◌else◌}
use Rattle.std.specs.Char.{encode_utf8}
use Rattle.std.specs.List.{AllByRecursion, list_any}
use Rattle.std.specs.Str.{bytes_eq}
use Rattle.ror_elements.specs.declared.element.ElementFault.{ElementFault}
use Rattle.ror_elements.specs.declared.mode.Home.TheVariants as homes
use Rattle.ror_elements.specs.declared.mode.Mode.{Mode}
use Rattle.ror_elements.specs.declared.mode.Mode.TheVariants as modes
use Rattle.ror_elements.specs.declared.mode.Quote.{Quote}
use Rattle.ror_elements.specs.declared.mode.Seen.{Seen}
use Rattle.ror_elements.specs.declared.open.Open.{Open}
use Rattle.ror_elements.specs.declared.reader.Reader.{Reader}
use Rattle.ror_elements.specs.declared.reader.Tag.{Tag}
use Rattle.ror_elements.specs.Grammar.{IsSpace, IsValue, IsAttribute, Attribute, Names, IsEndTag, IsContent, IsElement, IsAround}
use Rattle.ror_elements.specs.Marks.{is_name_byte, local_name}
use Rattle.ror_elements.specs.Mode.{quote_byte, is_ended_by, seen_after, opening_text}
use Rattle.ror_elements.specs.Open.{is_none, last_of}
use Rattle.ror_elements.specs.Tags.{root_name}
use Rattle.ror_elements.specs.Tree.{Tree, name_of}
use Rattle.ror_elements.proofs.ElementRuns.{opened_as, named_tag}
use Rattle.ror_elements.proofs.Grown.{grown, place_of}
use Rattle.ror_elements.proofs.PlainReader.{around_closed}
use Rattle.ror_elements.proofs.Runs.{line_at, with_text}
use Rattle.ror_elements.proofs.TagRuns.{with_value, naming, with_attributes, AreFresh, names_of}

-- ---- content

-- outside, before the root: what stands around it, and the root
pub record BeforeRoot (line : ℕ) (bytes : List ℕ) (root : Tree) : Type 0 where
  pub before : List ℕ
  pub element : List ℕ
  pub after : List ℕ
  pub split : bytes ≡ before ++ (element ++ after)
  pub is_before : IsAround before
  pub is_root : IsElement 0 (Some []) (line_at line before) element (root ∷ [])
  pub is_named : name_of root ≡ root_name
  pub is_after : IsAround after

-- outside, behind the root
pub record BehindRoot (children : List Tree) (bytes : List ℕ) (root : Tree) : Type 0 where
  pub some : is_none children ≡ false
  pub last : last_of children ≡ Some root
  pub is_after : IsAround bytes

-- Where this element is the innermost, with these around it. The outermost is the whole text
abbrev pub Content : ℕ → Open → List Open → List ℕ → Tree → Type 0
Content line top [] bytes root =
    place_of top ≡ Some [] → ((top.children ≡ []) × BeforeRoot line bytes root) ⊎ BehindRoot top.children bytes root
Content line top (around ∷ outer) bytes root =
    (content : List ℕ) × (end : List ℕ) × (rest : List ℕ) × (text : List ℕ) × (inside : List Tree)
    × (bytes ≡ content ++ (end ++ rest))
    × IsContent (length (around ∷ outer)) (place_of top) line content text inside
    × IsEndTag end top.name
    × Content (line_at (line_at line content) end) (around_closed (grown top text inside) around) outer rest root

-- where the innermost element closes
abbrev pub Closed : ℕ → Open → List Open → List ℕ → Tree → Type 0
Closed line top [] bytes root = ⊥
Closed line top (around ∷ outer) bytes root = Content line (around_closed top around) outer bytes root

-- ---- up to a mark

-- these bytes, and only all of them, end with two marks and `>`, where so much of the mark was seen
pub data Ends (mark : ℕ) : Seen → List ℕ → Type 0 where
  last : (s : Seen) (byte : ℕ) → is_ended_by s byte ≡ true → Ends mark s (byte ∷ [])
  more : (s : Seen) (byte : ℕ) (bytes : List ℕ) → is_ended_by s byte ≡ false → Ends mark (seen_after s mark byte) bytes
      → Ends mark s (byte ∷ bytes)

-- these bytes, and only all of them, end with `?>`
pub data EndsQuestion : Bool → List ℕ → Type 0 where
  last : (question : Bool) (byte : ℕ) → (question && byte == 62) ≡ true → EndsQuestion question (byte ∷ [])
  more : (question : Bool) (byte : ℕ) (bytes : List ℕ) → (question && byte == 62) ≡ false → EndsQuestion (byte == 63) bytes
      → EndsQuestion question (byte ∷ bytes)

-- an element without the two brackets at the end of its text
abbrev pub cut : Open → Open
cut top = if top.kept then record top { text = take (length top.text - 2) top.text } else top

-- ---- tags

-- the element of the tag may be where it is
abbrev pub IsFormed : List Open → Tag → Type 0
IsFormed below tag = (is_none below && not (bytes_eq (local_name tag.name) root_name)) ≡ false

abbrev pub Empty : ℕ → ℕ → Open → List Open → Tag → List ℕ → Tree → Type 0
Empty line start top below tag bytes root =
    (rest : List ℕ) × (bytes ≡ 62 ∷ rest) × Content line (around_closed (opened_as top tag.name tag.id start) top) below rest root

-- `>` or `/>`, and what follows it
abbrev pub Ending : ℕ → ℕ → Open → List Open → Tag → List ℕ → Tree → Type 0
Ending line start top below tag bytes root =
    ((rest : List ℕ) × (bytes ≡ 62 ∷ rest) × Content line (opened_as top tag.name tag.id start) (top ∷ below) rest root)
    ⊎ ((rest : List ℕ) × (bytes ≡ 47 ∷ rest) × Empty line start top below tag rest root)

-- attributes and white space, behind white space or not
pub data Attributes : Bool → List ℕ → List Attribute → Type 0 where
  ends : (spaced : Bool) (space : List ℕ) → IsSpace space → Attributes spaced space []
  next : (spaced : Bool) (space first rest : List ℕ) (a : Attribute) (others : List Attribute) → IsSpace space
      → (spaced ≡ true) ⊎ ¬ (space ≡ []) → IsAttribute first a → Attributes false rest others
      → Attributes spaced (space ++ (first ++ rest)) (a ∷ others)

pub record InTag (spaced : Bool) (line start : ℕ) (top : Open) (below : List Open) (tag : Tag) (bytes : List ℕ) (root : Tree) : Type 0 where
  pub front : List ℕ
  pub rest : List ℕ
  pub list : List Attribute
  pub split : bytes ≡ front ++ rest
  pub attributes : Attributes spaced front list
  pub is_fresh : AreFresh tag.names (names_of list)
  pub is_formed : IsFormed below (with_attributes tag list)
  pub later : Ending (line_at line front) start top below (with_attributes tag list) rest root

-- a tag whose last value ends
abbrev pub value_ended : Tag → Tag
value_ended tag = if tag.is_id then record tag { id = Some tag.value; value = [] } else tag

pub record InValue (quote : Quote) (line start : ℕ) (top : Open) (below : List Open) (tag : Tag) (bytes : List ℕ) (root : Tree) : Type 0 where
  pub written : List ℕ
  pub value : List ℕ
  pub rest : List ℕ
  pub split : bytes ≡ written ++ quote_byte quote ∷ rest
  pub is_value : IsValue quote written value
  pub later : InTag false (line_at line written) start top below (value_ended (with_value tag value)) rest root

pub record BeforeValue (line start : ℕ) (top : Open) (below : List Open) (tag : Tag) (bytes : List ℕ) (root : Tree) : Type 0 where
  pub space : List ℕ
  pub quote : Quote
  pub rest : List ℕ
  pub split : bytes ≡ space ++ quote_byte quote ∷ rest
  pub is_space : IsSpace space
  pub later : InValue quote (line_at line space) start top below tag rest root

pub record BeforeEquals (line start : ℕ) (top : Open) (below : List Open) (tag : Tag) (bytes : List ℕ) (root : Tree) : Type 0 where
  pub space : List ℕ
  pub rest : List ℕ
  pub split : bytes ≡ space ++ 61 ∷ rest
  pub is_space : IsSpace space
  pub later : BeforeValue (line_at line space) start top below tag rest root

pub record InName (piece : List ℕ) (line start : ℕ) (top : Open) (below : List Open) (tag : Tag) (bytes : List ℕ) (root : Tree) : Type 0 where
  pub more : List ℕ
  pub rest : List ℕ
  pub split : bytes ≡ more ++ rest
  pub is_name : AllByRecursion (λ byte. is_name_byte byte ≡ true) more
  pub is_fresh : list_any (bytes_eq (piece ++ more)) tag.names ≡ false
  pub later : BeforeEquals (line_at line more) start top below (naming tag (piece ++ more)) rest root

pub record InStartName (piece : List ℕ) (line start : ℕ) (top : Open) (below : List Open) (bytes : List ℕ) (root : Tree) : Type 0 where
  pub more : List ℕ
  pub rest : List ℕ
  pub split : bytes ≡ more ++ rest
  pub is_name : AllByRecursion (λ byte. is_name_byte byte ≡ true) more
  pub few : length below < 64
  pub later : InTag false (line_at line more) start top below (named_tag (piece ++ more)) rest root

pub record BehindEndName (line : ℕ) (top : Open) (below : List Open) (bytes : List ℕ) (root : Tree) : Type 0 where
  pub space : List ℕ
  pub rest : List ℕ
  pub split : bytes ≡ space ++ 62 ∷ rest
  pub is_space : IsSpace space
  pub later : Closed (line_at line space) top below rest root

pub record InEndName (piece : List ℕ) (line : ℕ) (top : Open) (below : List Open) (bytes : List ℕ) (root : Tree) : Type 0 where
  pub more : List ℕ
  pub rest : List ℕ
  pub split : bytes ≡ more ++ rest
  pub is_name : piece ++ more ≡ top.name
  pub later : BehindEndName (line_at line more) top below rest root

-- ---- constructs up to their end

pub record UpTo (E : List ℕ → Type 0) (line : ℕ) (top : Open) (below : List Open) (bytes : List ℕ) (root : Tree) : Type 0 where
  pub inside : List ℕ
  pub rest : List ℕ
  pub split : bytes ≡ inside ++ rest
  pub ends : E inside
  pub later : Content (line_at line inside) top below rest root

pub record InSection (s : Seen) (line : ℕ) (top : Open) (below : List Open) (bytes : List ℕ) (root : Tree) : Type 0 where
  pub inside : List ℕ
  pub rest : List ℕ
  pub split : bytes ≡ inside ++ 62 ∷ rest
  pub ends : Ends 93 s (inside ++ 62 ∷ [])
  pub later : Content (line_at line inside) (cut (with_text top inside)) below rest root

pub record InReference (piece : List ℕ) (line : ℕ) (bytes : List ℕ) (Later : ℕ → List ℕ → List ℕ → Type 0) : Type 0 where
  pub more : List ℕ
  pub rest : List ℕ
  pub code : ℕ
  pub split : bytes ≡ more ++ 59 ∷ rest
  pub names : Names (piece ++ more) code
  pub later : Later (line_at line more) (encode_utf8 code) rest

-- ---- each mode

-- of a start nothing is said, since no byte leads to it
abbrev pub Left : Mode → Reader → List ℕ → Tree → Type 0
Left modes.Start r bytes root = Unit {0}
Left modes.Content r bytes root = Content r.line r.top r.below bytes root
Left modes.FirstMarkup r bytes root = r.start ≡ r.line → Content r.line r.top r.below (60 ∷ bytes) root
Left modes.Markup r bytes root = r.start ≡ r.line → Content r.line r.top r.below (60 ∷ bytes) root
Left modes.Exclamation r bytes root = Content r.line r.top r.below (60 ∷ 33 ∷ bytes) root
Left (modes.Beginning opening count) r bytes root = Content r.line r.top r.below (60 ∷ 33 ∷ take count (opening_text opening) ++ bytes) root
Left (modes.Comment s) r bytes root = UpTo (Ends 45 s) r.line r.top r.below bytes root
Left (modes.Section s) r bytes root = InSection s r.line r.top r.below bytes root
Left (modes.FirstInstruction question) r bytes root = UpTo (EndsQuestion question) r.line r.top r.below bytes root
Left (modes.Instruction question) r bytes root = UpTo (EndsQuestion question) r.line r.top r.below bytes root
Left modes.EndName r bytes root = InEndName r.piece r.line r.top r.below bytes root
Left modes.AfterEndName r bytes root = BehindEndName r.line r.top r.below bytes root
Left modes.StartName r bytes root = InStartName r.piece r.line r.start r.top r.below bytes root
Left (modes.Tag spaced) r bytes root = InTag spaced r.line r.start r.top r.below r.tag bytes root
Left modes.EmptyTag r bytes root = IsFormed r.below r.tag × Empty r.line r.start r.top r.below r.tag bytes root
Left modes.AttributeName r bytes root = InName r.piece r.line r.start r.top r.below r.tag bytes root
Left modes.AfterAttributeName r bytes root = BeforeEquals r.line r.start r.top r.below r.tag bytes root
Left modes.BeforeValue r bytes root = BeforeValue r.line r.start r.top r.below r.tag bytes root
Left (modes.Value quote) r bytes root = InValue quote r.line r.start r.top r.below r.tag bytes root
Left (modes.Reference homes.Text) r bytes root = InReference r.piece r.line bytes (λ line text rest. Content line (with_text r.top text) r.below rest root)
Left (modes.Reference (homes.Value quote)) r bytes root =
    InReference r.piece r.line bytes (λ line text rest. InValue quote line r.start r.top r.below (with_value r.tag text) rest root)

-- behind a byte that was read
abbrev pub Back : ℕ → List ℕ → Tree → Result Reader ElementFault → Type 0
Back line bytes root (Ok r) = Left r.mode (record r { line = line }) bytes root
Back line bytes root (Err fault) = ⊥
