-- What is known of a text, byte by byte: outside of tags.
use Rattle.std.specs.Prelude.{ℕ, ◌+◌, ◌-◌, Bool, true, false, not, ◌&&◌, List, [], ◌∷◌, ◌++◌, length, take, None, Result, Ok, Err, nat_lt, ◌==◌, if◌then◌else◌}
use Rattle.std.specs.Char.{encode_utf8}
use Rattle.ror_text.specs.Reading.{◌>>=◌, refuse}
use Rattle.ror_elements.specs.declared.element.ElementFault.{ElementFault}
use Rattle.ror_elements.specs.declared.element.ElementKind.TheVariants as kinds
use Rattle.ror_elements.specs.declared.mode.Home.{Home}
use Rattle.ror_elements.specs.declared.mode.Home.TheVariants as homes
use Rattle.ror_elements.specs.declared.mode.Mode.TheVariants as modes
use Rattle.ror_elements.specs.declared.mode.Opening.{Opening}
use Rattle.ror_elements.specs.declared.mode.Opening.TheVariants as openings
use Rattle.ror_elements.specs.declared.mode.Seen.{Seen}
use Rattle.ror_elements.specs.declared.mode.Seen.TheVariants as seen
use Rattle.ror_elements.specs.declared.open.Open.{Open}
use Rattle.ror_elements.specs.declared.reader.Reader.{Reader}
use Rattle.ror_elements.specs.declared.reader.Tag.{Tag}
use Rattle.ror_elements.specs.Declarations.{nothing_declared, after, is_foreign}
use Rattle.ror_elements.specs.Faults.{fault}
use Rattle.ror_elements.specs.Marks.{is_white, is_name_byte}
use Rattle.ror_elements.specs.Mode.{opening_text, is_byte_at, is_ended_by, seen_after}
use Rattle.ror_elements.specs.Open.{is_none}
use Rattle.ror_elements.specs.References.{character_of}

abbrev pub empty_tag : Tag
empty_tag = record { name = []; id = None; names = []; is_id = false; value = [] }

-- the whole text, in which the root stands
abbrev pub whole_text : Open
whole_text = record { name = []; line = 1; path = []; kept = true; id = None; text = []; children = [] }

-- nothing of the text was read
abbrev pub nothing_read : Reader
nothing_read = record {
  line = 1;
  start = 1;
  reference_line = 1;
  mode = modes.Start;
  piece = [];
  tag = empty_tag;
  declaration = nothing_declared;
  top = whole_text;
  below = [];
}

-- the fault of markup at the construct in progress
abbrev pub bad : Reader → ElementFault
bad r = fault kinds.BadMarkup r.start

abbrev pub is_outside : Reader → Bool
is_outside r = is_none r.below

-- the root was closed
abbrev pub is_behind_root : Reader → Bool
is_behind_root r = is_outside r && not (is_none r.top.children)

-- bytes of the text of the innermost open element, which is kept only with the element
unfoldable pub add_text : Reader → List ℕ → Reader
add_text r bytes = if r.top.kept then record r { top = record r.top { text = r.top.text ++ bytes } } else r

-- bytes of an attribute's value, which is kept only of the id
unfoldable pub add_value : Reader → List ℕ → Reader
add_value r bytes = if r.tag.is_id then record r { tag = record r.tag { value = r.tag.value ++ bytes } } else r

-- ---- text

-- outside the root stands only white space
unfoldable pub outside : Reader → ℕ → Result Reader ElementFault
outside r byte = do
  _ ← refuse (fault kinds.BadMarkup r.line) (not (is_white byte))
  Ok (record r { mode = modes.Content })

unfoldable pub in_content : Reader → ℕ → Result Reader ElementFault
in_content r byte =
    if byte == 60 then Ok (record r { mode = modes.Markup; start = r.line })
    else (if is_outside r then outside r byte
    else (if byte == 38 then Ok (record r { mode = modes.Reference homes.Text; piece = []; reference_line = r.line })
    else Ok (add_text r (byte ∷ []))))

unfoldable pub at_start : Reader → ℕ → Result Reader ElementFault
at_start r byte =
    if byte == 60 then Ok (record r { mode = modes.FirstMarkup; start = r.line }) else in_content r byte

-- ---- behind `<`

unfoldable pub begin_tag : Reader → ℕ → Result Reader ElementFault
begin_tag r byte = do
  _ ← refuse (bad r) (not (is_name_byte byte))
  _ ← refuse (bad r) (is_behind_root r)
  Ok (record r { mode = modes.StartName; piece = byte ∷ [] })

abbrev pub begin_end_tag : Reader → Result Reader ElementFault
begin_end_tag r = do
  _ ← refuse (bad r) (is_outside r)
  Ok (record r { mode = modes.EndName; piece = [] })

unfoldable pub in_markup : Reader → ℕ → Result Reader ElementFault
in_markup r byte =
    if byte == 33 then Ok (record r { mode = modes.Exclamation })
    else (if byte == 63 then Ok (record r { mode = modes.Instruction false })
    else (if byte == 47 then begin_end_tag r
    else begin_tag r byte))

unfoldable pub in_first_markup : Reader → ℕ → Result Reader ElementFault
in_first_markup r byte =
    if byte == 63 then Ok (record r { mode = modes.FirstInstruction false }) else in_markup r byte

-- ---- behind `<!`

unfoldable pub in_exclamation : Reader → ℕ → Result Reader ElementFault
in_exclamation r byte =
    if byte == 45 then Ok (record r { mode = modes.Beginning openings.Comment 1 })
    else (if byte == 91 then Ok (record r { mode = modes.Beginning openings.Section 1 })
    else (if byte == 68 then Ok (record r { mode = modes.Beginning openings.Doctype 1 })
    else Err (bad r)))

-- a section stands only in an element, and no type is declared
unfoldable pub begin : Opening → Reader → Result Reader ElementFault
begin openings.Comment r = Ok (record r { mode = modes.Comment seen.Nothing })
begin openings.Section r = do
  _ ← refuse (bad r) (is_outside r)
  Ok (record r { mode = modes.Section seen.Nothing })
begin openings.Doctype r = Err (fault kinds.Doctype r.start)

abbrev pub opened_so_far : Opening → ℕ → Reader → Result Reader ElementFault
opened_so_far opening count r =
    if nat_lt count (length (opening_text opening)) then Ok (record r { mode = modes.Beginning opening count })
    else begin opening r

unfoldable pub in_beginning : Opening → ℕ → Reader → ℕ → Result Reader ElementFault
in_beginning opening count r byte = do
  _ ← refuse (bad r) (not (is_byte_at (opening_text opening) count byte))
  opened_so_far opening (count + 1) r

unfoldable pub in_comment : Seen → Reader → ℕ → Reader
in_comment before r byte =
    if is_ended_by before byte then record r { mode = modes.Content }
    else record r { mode = modes.Comment (seen_after before 45 byte) }

-- the text without the two brackets at the end of a section
unfoldable pub without_brackets : Reader → Reader
without_brackets r =
    if r.top.kept then record r { top = record r.top { text = take (length r.top.text - 2) r.top.text } } else r

unfoldable pub in_section : Seen → Reader → ℕ → Result Reader ElementFault
in_section before r byte =
    if is_ended_by before byte then Ok (record (without_brackets r) { mode = modes.Content })
    else Ok (record (add_text r (byte ∷ [])) { mode = modes.Section (seen_after before 93 byte) })

-- ---- instructions

unfoldable pub in_instruction : Bool → Reader → ℕ → Reader
in_instruction question r byte =
    if question && byte == 62 then record r { mode = modes.Content }
    else record r { mode = modes.Instruction (byte == 63) }

unfoldable pub end_first_instruction : Reader → Result Reader ElementFault
end_first_instruction r = do
  _ ← refuse (fault kinds.Encoding r.start) (is_foreign r.declaration)
  Ok (record r { mode = modes.Content })

unfoldable pub in_first_instruction : Bool → Reader → ℕ → Result Reader ElementFault
in_first_instruction question r byte =
    if question && byte == 62 then end_first_instruction r
    else Ok (record r { mode = modes.FirstInstruction (byte == 63); declaration = after r.declaration byte })

-- ---- references

-- what stands for a reference stands where the reference is
abbrev pub referred : Home → Reader → List ℕ → Reader
referred homes.Text r bytes = record (add_text r bytes) { mode = modes.Content }
referred (homes.Value quote) r bytes = record (add_value r bytes) { mode = modes.Value quote }

unfoldable pub end_reference : Home → Reader → Result Reader ElementFault
end_reference home r = do
  character ← character_of r.reference_line r.piece
  Ok (referred home r (encode_utf8 character))

unfoldable pub in_reference : Home → Reader → ℕ → Result Reader ElementFault
in_reference home r byte = if byte == 59 then end_reference home r else (do
  _ ← refuse (fault kinds.BadMarkup r.reference_line) (not (is_name_byte byte))
  Ok (record r { piece = r.piece ++ byte ∷ [] }))
