-- The laws of reading that the crate claims.
use Rattle.std.specs.Prelude.{◌≡◌, ◌↔◌, ℕ, ◌+◌, ◌≤◌, true, List, ◌∷◌, ◌++◌, count_by, Option, Some, None, Ok, Err, IfSome, option_map}
use Rattle.std.specs.Str.{IsUtf8}
use Rattle.ror_text.specs.Lines.{is_line_end, bad_utf8_line}
use Rattle.ror_text.specs.Reading.{read_all}
use Rattle.ror_elements.specs.declared.element.ElementFault.{ElementFault}
use Rattle.ror_elements.specs.declared.element.ElementKind.TheVariants.{NotUtf8}
use Rattle.ror_elements.specs.declared.limits.TheConstants.{MOST_DEPTH}
use Rattle.ror_elements.specs.declared.mode.Mode.{Mode}
use Rattle.ror_elements.specs.declared.mode.Mode.TheVariants as modes
use Rattle.ror_elements.specs.declared.open.Open.{Open}
use Rattle.ror_elements.specs.declared.reader.Reader.{Reader}
use Rattle.ror_elements.specs.Depth.{tree_depth}
use Rattle.ror_elements.specs.Elements.{read, finish, elements_of, without_mark}
use Rattle.ror_elements.specs.Faults.{fault}
use Rattle.ror_elements.specs.Grammar.{IsDocument}
use Rattle.ror_elements.specs.Kept.{is_kept}
use Rattle.ror_elements.specs.Listed.{IsListedIn, rows}
use Rattle.ror_elements.specs.Marks.{local_name, trimmed}
use Rattle.ror_elements.specs.Open.{finished}
use Rattle.ror_elements.specs.Reader.{nothing_read}
use Rattle.ror_elements.specs.Tags.{opened}
use Rattle.ror_elements.specs.Tree.{Tree, node, trees_of}

-- what is known when these bytes, the first of a text, were read
abbrev pub IsReached : List ℕ → Reader → Type 0
IsReached before reached = read_all read nothing_read before ≡ Ok reached

-- ---- lines

-- a byte's line is one more than the line ends before it
abbrev pub LinesAreCounted : Type 0
LinesAreCounted = (before : List ℕ) (reached : Reader) → IsReached before reached
    → reached.line ≡ 1 + count_by is_line_end before

-- ---- faults

-- the fault is the first that the bytes have
pub data IsFirstFaultOf (bytes : List ℕ) (first : ElementFault) : Type 0 where
  not_utf8 : ¬ (IsUtf8 bytes) → first ≡ fault NotUtf8 (bad_utf8_line bytes) → IsFirstFaultOf bytes first
  at_byte : (before after : List ℕ) (byte : ℕ) (reached : Reader) → IsUtf8 bytes
      → without_mark bytes ≡ before ++ byte ∷ after → IsReached before reached
      → read reached byte ≡ Err first → IsFirstFaultOf bytes first
  at_end : (reached : Reader) → IsUtf8 bytes → IsReached (without_mark bytes) reached
      → finish reached ≡ Err first → IsFirstFaultOf bytes first

-- the fault that is given is the first, and each first fault is given
abbrev pub GivesTheFirstFault : Type 0
GivesTheFirstFault = (bytes : List ℕ) (first : ElementFault)
    → (elements_of bytes ≡ Err first) ↔ IsFirstFaultOf bytes first

-- ---- trees

-- no element is deeper than 64
abbrev pub NoneIsTooDeep : Type 0
NoneIsTooDeep = (bytes : List ℕ) (root : Tree) → elements_of bytes ≡ Ok root → tree_depth root ≤ MOST_DEPTH

-- an element with its name, its id and its text as they were gathered
abbrev pub as_gathered : Open → Tree
as_gathered element =
    node (local_name element.name) (option_map trimmed element.id) (trimmed element.text) element.line
    (trees_of element.children)

-- the element that the tag in progress closes, if it closes one
abbrev pub closing : Mode → Reader → Option Open
closing modes.EndName r = Some r.top
closing modes.AfterEndName r = Some r.top
closing modes.EmptyTag r = Some (opened r)
closing _ r = None

-- nothing is replaced in what is gathered from a text of UTF-8
abbrev pub NothingIsReplaced : Type 0
NothingIsReplaced = (bytes before after : List ℕ) (reached : Reader) → IsUtf8 bytes
    → without_mark bytes ≡ before ++ after → IsReached before reached
    → IfSome (closing reached.mode reached) (λ element. element.kept ≡ true → finished element ≡ as_gathered element)

-- ---- the grammar

-- what is read are the documents of the grammar, each as its root
abbrev pub DocumentsAreRead : Type 0
DocumentsAreRead = (bytes : List ℕ) (root : Tree) → (elements_of bytes ≡ Ok root) ↔ IsDocument bytes root

-- so a document has one root
abbrev pub OneRoot : Type 0
OneRoot = (bytes : List ℕ) (root other : Tree) → IsDocument bytes root → IsDocument bytes other → root ≡ other

-- ---- the table

-- an element is kept exactly where a row of the table says so
abbrev pub KeptElementsAreListed : Type 0
KeptElementsAreListed = (path name : List ℕ) → (is_kept path name ≡ true) ↔ IsListedIn rows path name

-- ---- limits

-- what the limit is: how deep elements may be
abbrev pub LimitsAre : Type 0
LimitsAre = MOST_DEPTH ≡ 64
