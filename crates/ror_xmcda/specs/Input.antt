-- The input that a file gives, in either form, or its first fault.
use Rattle.std.specs.Prelude.{ℕ, Bool, false, not, List, [], length, Option, Some, None, find, Result, Ok, Err, if◌then◌else◌, nat_lt, ◌==◌}
use Rattle.ror_text.specs.declared.lines.TheConstants.{MOST_TEXT_BYTES}
use Rattle.ror_text.specs.Reading.{◌>>=◌, refuse}
use Rattle.ror_table.specs.declared.fault.Kind.TheVariants as unsupported
use Rattle.ror_table.specs.declared.fault.What.TheVariants as whats
use Rattle.ror_table.specs.declared.fault.TableFault.{TableFault}
use Rattle.ror_table.specs.declared.fault.TableKind.{TableKind}
use Rattle.ror_table.specs.declared.fault.TableKind.TheVariants as kinds
use Rattle.ror_table.specs.Plain.{at_line, plain_table}
use Rattle.ror_value.specs.declared.input.Input.{Input}
use Rattle.ror_elements.specs.declared.element.ElementFault.{ElementFault}
use Rattle.ror_elements.specs.declared.element.ElementKind.{ElementKind}
use Rattle.ror_elements.specs.declared.element.ElementKind.TheVariants as elements
use Rattle.ror_elements.specs.Elements.{elements_of, without_mark}
use Rattle.ror_elements.specs.Marks.{is_white}
use Rattle.ror_xmcda.specs.Content.{content}

-- a fault of markup, as one of a table
abbrev pub table_kind : ElementKind → TableKind
table_kind elements.NotUtf8 = kinds.NotUtf8
table_kind elements.Form = kinds.Form
table_kind elements.BadMarkup = kinds.BadLine
table_kind elements.TooDeep = kinds.TooMany whats.Levels
table_kind elements.Unclosed = kinds.Unclosed
table_kind elements.Mismatched = kinds.Mismatched
table_kind elements.Doctype = kinds.Unsupported unsupported.Doctype
table_kind elements.Encoding = kinds.Unsupported unsupported.Encoding
table_kind elements.Entity = kinds.Unsupported unsupported.Entity

abbrev pub of_elements : {A : Type 0} → Result A ElementFault → Result A TableFault
of_elements (Ok x) = Ok x
of_elements (Err fault) = Err (at_line fault.line (table_kind fault.kind))

abbrev pub is_opening : Option ℕ → Bool
is_opening None = false
is_opening (Some byte) = byte == 60

-- the first byte that is no white space, behind an optional byte order mark, is `<`
unfoldable pub is_xmcda : List ℕ → Bool
is_xmcda bytes = is_opening (find (λ byte. not (is_white byte)) (without_mark bytes))

unfoldable pub xmcda_input : List ℕ → Bool → Result Input TableFault
xmcda_input bytes best_first = of_elements (elements_of bytes) >>= λ root. content best_first root

-- a plain table comes without statements
unfoldable pub plain_input : List ℕ → Result Input TableFault
plain_input bytes = plain_table bytes >>= λ table. Ok (record { table = table; opening = [] })

unfoldable pub input_of : List ℕ → Bool → Result Input TableFault
input_of bytes best_first = do
  _ ← refuse (at_line 0 kinds.TooLong) (nat_lt MOST_TEXT_BYTES (length bytes))
  if is_xmcda bytes then xmcda_input bytes best_first else plain_input bytes
