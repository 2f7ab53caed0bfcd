-- What the bytes of a text are read as, or the first fault.
use Rattle.std.specs.Prelude.{ℕ, ◌+◌, not, List, [], ◌∷◌, drop, take, Result, Ok, ◌==◌, if◌then◌else◌}
use Rattle.std.specs.Str.{bytes_eq, is_utf8}
use Rattle.ror_text.specs.Lines.{bad_utf8_line}
use Rattle.ror_text.specs.Reading.{◌>>=◌, refuse, need, read_all}
use Rattle.ror_elements.specs.declared.element.ElementFault.{ElementFault}
use Rattle.ror_elements.specs.declared.element.ElementKind.TheVariants as kinds
use Rattle.ror_elements.specs.declared.mode.Mode.{Mode}
use Rattle.ror_elements.specs.declared.mode.Mode.TheVariants as modes
use Rattle.ror_elements.specs.declared.reader.Reader.{Reader}
use Rattle.ror_elements.specs.Faults.{fault}
use Rattle.ror_elements.specs.Marks.{is_control}
use Rattle.ror_elements.specs.Mode.{is_between}
use Rattle.ror_elements.specs.Open.{last_of}
use Rattle.ror_elements.specs.Reader.{nothing_read, is_outside, at_start, in_content, in_first_markup, in_markup, in_exclamation, in_beginning, in_comment, in_section, in_first_instruction, in_instruction, in_reference}
use Rattle.ror_elements.specs.Tags.{in_end_name, after_end_name, in_start_name, in_tag, in_empty_tag, in_attribute_name, after_attribute_name, before_value, in_value}
use Rattle.ror_elements.specs.Tree.{Tree}

-- what a byte does, by what it stands in the middle of
abbrev pub act_in : Mode → Reader → ℕ → Result Reader ElementFault
act_in modes.Start r byte = at_start r byte
act_in modes.Content r byte = in_content r byte
act_in modes.FirstMarkup r byte = in_first_markup r byte
act_in modes.Markup r byte = in_markup r byte
act_in modes.Exclamation r byte = in_exclamation r byte
act_in (modes.Beginning opening count) r byte = in_beginning opening count r byte
act_in (modes.Comment before) r byte = Ok (in_comment before r byte)
act_in (modes.Section before) r byte = in_section before r byte
act_in (modes.FirstInstruction question) r byte = in_first_instruction question r byte
act_in (modes.Instruction question) r byte = Ok (in_instruction question r byte)
act_in modes.EndName r byte = in_end_name r byte
act_in modes.AfterEndName r byte = after_end_name r byte
act_in modes.StartName r byte = in_start_name r byte
act_in (modes.Tag spaced) r byte = in_tag spaced r byte
act_in modes.EmptyTag r byte = in_empty_tag r byte
act_in modes.AttributeName r byte = in_attribute_name r byte
act_in modes.AfterAttributeName r byte = after_attribute_name r byte
act_in modes.BeforeValue r byte = before_value r byte
act_in (modes.Value quote) r byte = in_value quote r byte
act_in (modes.Reference home) r byte = in_reference home r byte

unfoldable pub act : Reader → ℕ → Result Reader ElementFault
act r byte = act_in r.mode r byte

abbrev pub line_after : ℕ → ℕ → ℕ
line_after line byte = if byte == 10 then line + 1 else line

-- a control byte stands nowhere
unfoldable pub read : Reader → ℕ → Result Reader ElementFault
read r byte = do
  _ ← refuse (fault kinds.BadMarkup r.line) (is_control byte)
  next ← act r byte
  Ok (record next { line = line_after r.line byte })

-- where a text ends, nothing is open, and there was a root
unfoldable pub finish : Reader → Result Tree ElementFault
finish r = do
  _ ← refuse (fault kinds.Unclosed r.line) (not (is_between r.mode))
  _ ← refuse (fault kinds.Unclosed r.line) (not (is_outside r))
  need (fault kinds.Unclosed r.line) (last_of r.top.children)

-- EF BB BF
abbrev pub mark : List ℕ
mark = 0xEF ∷ 0xBB ∷ 0xBF ∷ []

unfoldable pub without_mark : List ℕ → List ℕ
without_mark bytes = if bytes_eq (take 3 bytes) mark then drop 3 bytes else bytes

abbrev pub refuse_bad_utf8 : List ℕ → Result (Unit {0}) ElementFault
refuse_bad_utf8 bytes = refuse (fault kinds.NotUtf8 (bad_utf8_line bytes)) (not (is_utf8 bytes))

-- the root of the text
unfoldable pub elements_of : List ℕ → Result Tree ElementFault
elements_of bytes = do
  _ ← refuse_bad_utf8 bytes
  last ← read_all read nothing_read (without_mark bytes)
  finish last
