-- What is known of a text, byte by byte: in tags.
use Rattle.std.specs.Prelude.{ℕ, Bool, true, false, not, ◌&&◌, List, [], ◌∷◌, ◌++◌, length, Option, Some, None, Result, Ok, Err, nat_le, ◌==◌, if◌then◌else◌}
use Rattle.std.specs.List.{list_any}
use Rattle.std.specs.Str.{bytes_eq}
use Rattle.ror_text.specs.Reading.{◌>>=◌, refuse}
use Rattle.ror_elements.specs.declared.element.ElementFault.{ElementFault}
use Rattle.ror_elements.specs.declared.element.ElementKind.TheVariants as kinds
use Rattle.ror_elements.specs.declared.limits.TheConstants.{MOST_DEPTH}
use Rattle.ror_elements.specs.declared.mode.Home.TheVariants as homes
use Rattle.ror_elements.specs.declared.mode.Mode.TheVariants as modes
use Rattle.ror_elements.specs.declared.mode.Quote.{Quote}
use Rattle.ror_elements.specs.declared.open.Open.{Open}
use Rattle.ror_elements.specs.declared.reader.Reader.{Reader}
use Rattle.ror_elements.specs.Faults.{fault}
use Rattle.ror_elements.specs.Kept.{is_kept, child_path}
use Rattle.ror_elements.specs.Marks.{is_white, is_name_byte, local_name}
use Rattle.ror_elements.specs.Mode.{quote_byte, quote_of}
use Rattle.ror_elements.specs.Open.{is_none, finished}
use Rattle.ror_elements.specs.Reader.{bad, is_outside, add_value, empty_tag}

-- ---- an element opens

-- `XMCDA`
abbrev pub root_name : List ℕ
root_name = 88 ∷ 77 ∷ 67 ∷ 68 ∷ 65 ∷ []

-- the element of the tag is kept
abbrev pub is_kept_in : Reader → Bool
is_kept_in r = r.top.kept && is_kept r.top.path (local_name r.tag.name)

-- the element of the tag, without what will stand in it
unfoldable pub opened : Reader → Open
opened r = record {
  name = r.tag.name;
  line = r.start;
  path = if is_kept_in r then child_path r.top.path (local_name r.tag.name) else [];
  kept = is_kept_in r;
  id = r.tag.id;
  text = [];
  children = [];
}

-- the root is no `XMCDA`
unfoldable pub is_bad_root : Reader → Bool
is_bad_root r = is_outside r && not (bytes_eq (local_name r.tag.name) root_name)

unfoldable pub open_element : Reader → Result Reader ElementFault
open_element r = do
  _ ← refuse (fault kinds.Form r.start) (is_bad_root r)
  Ok (record r { mode = modes.Content; top = opened r; below = r.top ∷ r.below; tag = empty_tag })

-- ---- the innermost open element closes

-- where an element closes, the one around it is the innermost, with it as its last child if it is
-- kept
abbrev pub close_in : Reader → List Open → Result Reader ElementFault
close_in r [] = Err (bad r)
close_in r (around ∷ outer) =
    Ok (record r {
      mode = modes.Content;
      top = if r.top.kept then record around { children = around.children ++ finished r.top ∷ [] } else around;
      below = outer;
    })

unfoldable pub close : Reader → Result Reader ElementFault
close r = close_in r r.below

-- ---- end tags

unfoldable pub after_end_name : Reader → ℕ → Result Reader ElementFault
after_end_name r byte = if is_white byte then Ok (record r { mode = modes.AfterEndName }) else (do
  _ ← refuse (bad r) (not (byte == 62))
  close r)

unfoldable pub in_end_name : Reader → ℕ → Result Reader ElementFault
in_end_name r byte = if is_name_byte byte then Ok (record r { piece = r.piece ++ byte ∷ [] }) else (do
  _ ← refuse (bad r) (is_none r.piece)
  _ ← refuse (fault kinds.Mismatched r.start) (not (bytes_eq r.piece r.top.name))
  after_end_name r byte)

-- ---- start tags

unfoldable pub begin_attribute : Bool → Reader → ℕ → Result Reader ElementFault
begin_attribute spaced r byte = do
  _ ← refuse (bad r) (not spaced)
  _ ← refuse (bad r) (not (is_name_byte byte))
  Ok (record r { mode = modes.AttributeName; piece = byte ∷ [] })

-- between attributes
unfoldable pub in_tag : Bool → Reader → ℕ → Result Reader ElementFault
in_tag spaced r byte =
    if is_white byte then Ok (record r { mode = modes.Tag true })
    else (if byte == 62 then open_element r
    else (if byte == 47 then Ok (record r { mode = modes.EmptyTag })
    else begin_attribute spaced r byte))

unfoldable pub in_start_name : Reader → ℕ → Result Reader ElementFault
in_start_name r byte = if is_name_byte byte then Ok (record r { piece = r.piece ++ byte ∷ [] }) else (do
  _ ← refuse (fault kinds.TooDeep r.start) (nat_le MOST_DEPTH (length r.below))
  in_tag false (record r { tag = record empty_tag { name = r.piece }; piece = [] }) byte)

unfoldable pub in_empty_tag : Reader → ℕ → Result Reader ElementFault
in_empty_tag r byte = do
  _ ← refuse (bad r) (not (byte == 62))
  inside ← open_element r
  close inside

-- ---- attributes

-- `id`
abbrev pub id_name : List ℕ
id_name = 105 ∷ 100 ∷ []

-- no name comes twice
unfoldable pub add_name : Reader → Result Reader ElementFault
add_name r = do
  _ ← refuse (bad r) (list_any (bytes_eq r.piece) r.tag.names)
  Ok (record r {
    tag = record r.tag { names = r.tag.names ++ r.piece ∷ []; is_id = bytes_eq r.piece id_name; value = [] };
    piece = [];
  })

unfoldable pub after_attribute_name : Reader → ℕ → Result Reader ElementFault
after_attribute_name r byte = if is_white byte then Ok (record r { mode = modes.AfterAttributeName }) else (do
  _ ← refuse (bad r) (not (byte == 61))
  Ok (record r { mode = modes.BeforeValue }))

unfoldable pub in_attribute_name : Reader → ℕ → Result Reader ElementFault
in_attribute_name r byte = if is_name_byte byte then Ok (record r { piece = r.piece ++ byte ∷ [] }) else (do
  named ← add_name r
  after_attribute_name named byte)

abbrev pub quoted : Reader → Option Quote → Result Reader ElementFault
quoted r None = Err (bad r)
quoted r (Some quote) = Ok (record r { mode = modes.Value quote })

unfoldable pub before_value : Reader → ℕ → Result Reader ElementFault
before_value r byte = if is_white byte then Ok r else quoted r (quote_of byte)

-- the value of the id is kept
unfoldable pub end_value : Reader → Reader
end_value r =
    if r.tag.is_id
    then record r { mode = modes.Tag false; tag = record r.tag { id = Some r.tag.value; value = [] } }
    else record r { mode = modes.Tag false }

-- a byte of a value, or a reference in it
unfoldable pub add_byte : Quote → Reader → ℕ → Reader
add_byte quote r byte =
    if byte == 38 then record r { mode = modes.Reference (homes.Value quote); piece = []; reference_line = r.line }
    else add_value r (byte ∷ [])

unfoldable pub in_value : Quote → Reader → ℕ → Result Reader ElementFault
in_value quote r byte = if byte == quote_byte quote then Ok (end_value r) else (do
  _ ← refuse (bad r) (byte == 60)
  Ok (add_byte quote r byte))
