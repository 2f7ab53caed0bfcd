-- No element stands deeper than 64, and the line is known of each byte.
use Rattle.std.proofs.Common.{◌≡◌, ℕ, suc, ◌+◌, ◌-◌, ◌<◌, ◌≤◌, Bool, true, false, not, List, [], ◌∷◌, ◌++◌, length, Option, Some, None, Result, Ok, refl, subst, arith}
use Rattle.std.specs.Prelude.{IfOk, max, if◌then◌else◌, ◌==◌, ◌&&◌, nat_le, nat_lt}
use Rattle.std.specs.List.{list_any}
use Rattle.std.specs.Str.{bytes_eq, is_utf8}
use Rattle.std.proofs.lemmas.Bool.{leb-false}
use Rattle.ror_text.specs.Reading.{◌>>=◌, refuse, need, read_all}
use Rattle.ror_text.proofs.ReadingLemmas.{keeps, read_all_keeps}
use Rattle.ror_elements.specs.declared.element.ElementFault.{ElementFault}
use Rattle.ror_elements.specs.declared.mode.Home.{Home}
use Rattle.ror_elements.specs.declared.mode.Home.TheVariants as homes
use Rattle.ror_elements.specs.declared.mode.Mode.{Mode}
use Rattle.ror_elements.specs.declared.mode.Mode.TheVariants as modes
use Rattle.ror_elements.specs.declared.mode.Opening.{Opening}
use Rattle.ror_elements.specs.declared.mode.Opening.TheVariants as openings
use Rattle.ror_elements.specs.declared.mode.Quote.{Quote}
use Rattle.ror_elements.specs.declared.mode.Seen.{Seen}
use Rattle.ror_elements.specs.declared.open.Open.{Open}
use Rattle.ror_elements.specs.declared.reader.Reader.{Reader}
use Rattle.ror_elements.specs.Declarations.{is_foreign}
use Rattle.ror_elements.specs.References.{character_of}
use Rattle.ror_elements.specs.Depth.{tree_depth, trees_depth}
use Rattle.ror_elements.specs.Elements.{act_in, act, read, finish, elements_of, without_mark}
use Rattle.ror_elements.specs.Mode.{is_ended_by, opening_text, quote_of, quote_byte, is_byte_at, is_between}
use Rattle.ror_elements.specs.Marks.{is_white, is_name_byte, is_control}
use Rattle.ror_elements.specs.Open.{finished, last_of, is_none}
use Rattle.ror_elements.specs.Reader.{nothing_read, is_outside, is_behind_root, add_text, add_value, outside, at_start, in_content, begin_tag, in_first_markup, in_markup, in_exclamation, begin, in_beginning, in_comment, without_brackets, in_section, in_first_instruction, end_first_instruction, in_instruction, end_reference, in_reference}
use Rattle.ror_elements.specs.Tags.{opened, is_bad_root, open_element, close_in, close, after_end_name, in_end_name, begin_attribute, in_tag, in_start_name, in_empty_tag, add_name, after_attribute_name, in_attribute_name, quoted, before_value, end_value, add_byte, in_value}
use Rattle.ror_elements.specs.Tree.{Tree, trees_of}

-- ---- what is open

-- so many elements stand around an open one, and with those inside it none is deeper than 64
abbrev pub Fits : ℕ → Open → Type 0
Fits around o = around + trees_depth (trees_of o.children) ≤ 64

abbrev pub AllFit : List Open → Type 0
AllFit [] = Unit {0}
AllFit (o ∷ os) = Fits (length os) o × AllFit os

pub record IsOpen (top : Open) (below : List Open) : Type 0 where
  pub here : Fits (length below) top
  pub around : AllFit below
  pub few : length below ≤ 64

-- in a tag there is room for one more element
abbrev pub HasRoom : Mode → List Open → Type 0
HasRoom (modes.Tag spaced) below = length below < 64
HasRoom modes.EmptyTag below = length below < 64
HasRoom modes.AttributeName below = length below < 64
HasRoom modes.AfterAttributeName below = length below < 64
HasRoom modes.BeforeValue below = length below < 64
HasRoom (modes.Value quote) below = length below < 64
HasRoom (modes.Reference (homes.Value quote)) below = length below < 64
HasRoom _ below = Unit {0}

pub record IsPlaced (r : Reader) : Type 0 where
  pub is_open : IsOpen r.top r.below
  pub room : HasRoom r.mode r.below

-- ---- tests

when : {A : Type 0} (P : A → Type 0) (test : Bool) (x y : A) → (test ≡ true → P x) → (test ≡ false → P y) → P (if test then x else y)
when P true x y f g = f refl
when P false x y f g = g refl

abbrev Places : Result Reader ElementFault → Type 0
Places result = IfOk result IsPlaced

past : (fault : ElementFault) (test : Bool) (rest : Result Reader ElementFault) → (test ≡ false → Places rest) → Places (refuse fault test >>= λ _. rest)
past fault true rest f = tt
past fault false rest f = f refl

-- a mode that is no tag's
at : (r : Reader) → IsOpen r.top r.below → HasRoom r.mode r.below → IsPlaced r
at r is_open room = record { is_open = is_open; room = room }

-- ---- trees

depth_append : (ts : List Tree) (t : Tree) (most : ℕ) → trees_depth (trees_of ts) ≤ most → tree_depth t ≤ most → trees_depth (trees_of (ts ++ t ∷ [])) ≤ most
depth_append [] t most before last = omega arith
depth_append (x ∷ xs) t most before last = let later = depth_append xs t most (omega arith) last in omega arith

depth_last : (ts : List Tree) (t : Tree) → last_of ts ≡ Some t → tree_depth t ≤ trees_depth (trees_of ts)
depth_last [] t e = absurd cc
depth_last (x ∷ []) t e = let same : x ≡ t = cc in subst (λ y. tree_depth y ≤ max (tree_depth x) 0) same (omega arith)
depth_last (x ∷ y ∷ more) t e = let later = depth_last (y ∷ more) t e in omega arith

-- ---- outside of tags

add_text-open : (r : Reader) (bytes : List ℕ) → IsOpen r.top r.below → IsOpen (add_text r bytes).top (add_text r bytes).below
unfolding add_text
add_text-open r bytes o = when (λ (s : Reader). IsOpen s.top s.below) r.top.kept _ _ (λ _. record { here = o.here; around = o.around; few = o.few }) (λ _. o)

add_text-room : (r : Reader) (bytes : List ℕ) → HasRoom r.mode r.below → HasRoom (add_text r bytes).mode (add_text r bytes).below
unfolding add_text
add_text-room r bytes h = when (λ (s : Reader). HasRoom s.mode s.below) r.top.kept _ _ (λ _. h) (λ _. h)

outside-placed : (r : Reader) (byte : ℕ) → IsPlaced r → Places (outside r byte)
unfolding outside
outside-placed r byte s = past _ (not (is_white byte)) _ (λ _. record { is_open = s.is_open; room = tt })

in_content-placed : (r : Reader) (byte : ℕ) → IsPlaced r → Places (in_content r byte)
unfolding in_content
in_content-placed r byte s =
    when Places (byte == 60) _ _ (λ _. record { is_open = s.is_open; room = tt })
    (λ _. when Places (is_outside r) _ _ (λ _. outside-placed r byte s)
    (λ _. when Places (byte == 38) _ _ (λ _. record { is_open = s.is_open; room = tt })
    (λ _. record { is_open = add_text-open r (byte ∷ []) s.is_open; room = add_text-room r (byte ∷ []) s.room })))

at_start-placed : (r : Reader) (byte : ℕ) → IsPlaced r → Places (at_start r byte)
unfolding at_start
at_start-placed r byte s = when Places (byte == 60) _ _ (λ _. record { is_open = s.is_open; room = tt }) (λ _. in_content-placed r byte s)

begin_tag-placed : (r : Reader) (byte : ℕ) → IsPlaced r → Places (begin_tag r byte)
unfolding begin_tag
begin_tag-placed r byte s = past _ (not (is_name_byte byte)) _ (λ _. past _ (is_behind_root r) _ (λ _. record { is_open = s.is_open; room = tt }))

in_markup-placed : (r : Reader) (byte : ℕ) → IsPlaced r → Places (in_markup r byte)
unfolding in_markup
in_markup-placed r byte s =
    when Places (byte == 33) _ _ (λ _. record { is_open = s.is_open; room = tt })
    (λ _. when Places (byte == 63) _ _ (λ _. record { is_open = s.is_open; room = tt })
    (λ _. when Places (byte == 47) _ _ (λ _. past _ (is_outside r) _ (λ _. record { is_open = s.is_open; room = tt }))
    (λ _. begin_tag-placed r byte s)))

in_first_markup-placed : (r : Reader) (byte : ℕ) → IsPlaced r → Places (in_first_markup r byte)
unfolding in_first_markup
in_first_markup-placed r byte s = when Places (byte == 63) _ _ (λ _. record { is_open = s.is_open; room = tt }) (λ _. in_markup-placed r byte s)

in_exclamation-placed : (r : Reader) (byte : ℕ) → IsPlaced r → Places (in_exclamation r byte)
unfolding in_exclamation
in_exclamation-placed r byte s =
    when Places (byte == 45) _ _ (λ _. record { is_open = s.is_open; room = tt })
    (λ _. when Places (byte == 91) _ _ (λ _. record { is_open = s.is_open; room = tt })
    (λ _. when Places (byte == 68) _ _ (λ _. record { is_open = s.is_open; room = tt }) (λ _. tt)))

begin-placed : (opening : Opening) (r : Reader) → IsPlaced r → Places (begin opening r)
unfolding begin
begin-placed openings.Comment r s = record { is_open = s.is_open; room = tt }
begin-placed openings.Section r s = past _ (is_outside r) _ (λ _. record { is_open = s.is_open; room = tt })
begin-placed openings.Doctype r s = tt

in_beginning-placed : (opening : Opening) (count : ℕ) (r : Reader) (byte : ℕ) → IsPlaced r → Places (in_beginning opening count r byte)
unfolding in_beginning
in_beginning-placed opening count r byte s = past _ (not (is_byte_at (opening_text opening) count byte)) _ (λ _. when Places (nat_lt (count + 1) (length (opening_text opening))) _ _ (λ _. record { is_open = s.is_open; room = tt }) (λ _. begin-placed opening r s))

in_comment-placed : (before : Seen) (r : Reader) (byte : ℕ) → IsPlaced r → IsPlaced (in_comment before r byte)
unfolding in_comment
in_comment-placed before r byte s = when IsPlaced (is_ended_by before byte) _ _ (λ _. record { is_open = s.is_open; room = tt }) (λ _. record { is_open = s.is_open; room = tt })

without_brackets-open : (r : Reader) → IsOpen r.top r.below → IsOpen (without_brackets r).top (without_brackets r).below
unfolding without_brackets
without_brackets-open r o = when (λ (s : Reader). IsOpen s.top s.below) r.top.kept _ _ (λ _. record { here = o.here; around = o.around; few = o.few }) (λ _. o)

in_section-placed : (before : Seen) (r : Reader) (byte : ℕ) → IsPlaced r → Places (in_section before r byte)
unfolding in_section
in_section-placed before r byte s =
    when Places (is_ended_by before byte) _ _ (λ _. record { is_open = without_brackets-open r s.is_open; room = tt })
    (λ _. record { is_open = add_text-open r (byte ∷ []) s.is_open; room = tt })

in_instruction-placed : (question : Bool) (r : Reader) (byte : ℕ) → IsPlaced r → IsPlaced (in_instruction question r byte)
unfolding in_instruction
in_instruction-placed question r byte s = when IsPlaced (question && byte == 62) _ _ (λ _. record { is_open = s.is_open; room = tt }) (λ _. record { is_open = s.is_open; room = tt })

end_first_instruction-placed : (r : Reader) → IsPlaced r → Places (end_first_instruction r)
unfolding end_first_instruction
end_first_instruction-placed r s = past _ (is_foreign r.declaration) _ (λ _. record { is_open = s.is_open; room = tt })

in_first_instruction-placed : (question : Bool) (r : Reader) (byte : ℕ) → IsPlaced r → Places (in_first_instruction question r byte)
unfolding in_first_instruction
in_first_instruction-placed question r byte s =
    when Places (question && byte == 62) _ _ (λ _. end_first_instruction-placed r s) (λ _. record { is_open = s.is_open; room = tt })

add_value-open : (r : Reader) (bytes : List ℕ) → IsOpen r.top r.below → IsOpen (add_value r bytes).top (add_value r bytes).below
unfolding add_value
add_value-open r bytes o = when (λ (s : Reader). IsOpen s.top s.below) r.tag.is_id _ _ (λ _. o) (λ _. o)

add_value-below : (r : Reader) (bytes : List ℕ) → (P : Mode → List Open → Type 0) → P r.mode r.below → P (add_value r bytes).mode (add_value r bytes).below
unfolding add_value
add_value-below r bytes P h = when (λ (s : Reader). P s.mode s.below) r.tag.is_id _ _ (λ _. h) (λ _. h)

end_reference-placed : (home : Home) (r : Reader) → IsPlaced r → HasRoom (modes.Reference home) r.below → Places (end_reference home r)
unfolding end_reference
end_reference-placed homes.Text r s room = keeps IsPlaced (character_of r.reference_line r.piece) _ (λ character _. record { is_open = add_text-open r _ s.is_open; room = tt })
end_reference-placed (homes.Value quote) r s room =
    keeps IsPlaced (character_of r.reference_line r.piece) _ (λ character _. record { is_open = add_value-open r _ s.is_open; room = add_value-below r _ (λ m below. length below < 64) room })

in_reference-placed : (home : Home) (r : Reader) (byte : ℕ) → IsPlaced r → HasRoom (modes.Reference home) r.below → Places (in_reference home r byte)
unfolding in_reference
in_reference-placed home r byte s room =
    when Places (byte == 59) _ _ (λ _. end_reference-placed home r s room) (λ _. past _ (not (is_name_byte byte)) _ (λ _. record { is_open = s.is_open; room = s.room }))

-- ---- in tags

opened-fits : (r : Reader) → length r.below < 64 → Fits (suc (length r.below)) (opened r)
unfolding opened
opened-fits r few = omega arith

open_element-placed : (r : Reader) → IsPlaced r → length r.below < 64 → Places (open_element r)
unfolding open_element
open_element-placed r s few = past _ (is_bad_root r) _ (λ _. record {
  is_open = record { here = opened-fits r few; around = (s.is_open.here, s.is_open.around); few = omega arith };
  room = tt;
})

finished-depth : (o : Open) → tree_depth (finished o) ≡ suc (trees_depth (trees_of o.children))
unfolding finished
finished-depth o = refl

-- an element that closes stands in the one around it
closed-fits : (around : ℕ) (parent closing : Open) → around ≤ 64 → Fits around parent → Fits (suc around) closing → around + trees_depth (trees_of (parent.children ++ finished closing ∷ [])) ≤ 64
closed-fits around parent closing few outer inner =
    let last : tree_depth (finished closing) ≤ 64 - around = omega (arith, finished-depth closing) in
    let all = depth_append parent.children (finished closing) (64 - around) (omega arith) last in
    omega arith

close_in-placed : (r : Reader) (below : List Open) → Fits (length below) r.top → AllFit below → length below ≤ 64 → Places (close_in r below)
close_in-placed r [] here around few = tt
close_in-placed r (parent ∷ outer) here around few = record {
  is_open = record {
    here = when (Fits (length outer)) r.top.kept _ _ (λ _. closed-fits (length outer) parent r.top (omega arith) around.0 here) (λ _. around.0);
    around = around.1;
    few = omega arith;
  };
  room = tt;
}

close-placed : (r : Reader) → IsPlaced r → Places (close r)
unfolding close
close-placed r s = close_in-placed r r.below s.is_open.here s.is_open.around s.is_open.few

after_end_name-placed : (r : Reader) (byte : ℕ) → IsPlaced r → Places (after_end_name r byte)
unfolding after_end_name
after_end_name-placed r byte s = when Places (is_white byte) _ _ (λ _. record { is_open = s.is_open; room = tt }) (λ _. past _ (not (byte == 62)) _ (λ _. close-placed r s))

in_end_name-placed : (r : Reader) (byte : ℕ) → IsPlaced r → Places (in_end_name r byte)
unfolding in_end_name
in_end_name-placed r byte s =
    when Places (is_name_byte byte) _ _ (λ _. record { is_open = s.is_open; room = s.room })
    (λ _. past _ (is_none r.piece) _ (λ _. past _ (not (bytes_eq r.piece r.top.name)) _ (λ _. after_end_name-placed r byte s)))

begin_attribute-placed : (spaced : Bool) (r : Reader) (byte : ℕ) → IsPlaced r → length r.below < 64 → Places (begin_attribute spaced r byte)
unfolding begin_attribute
begin_attribute-placed spaced r byte s few = past _ (not spaced) _ (λ _. past _ (not (is_name_byte byte)) _ (λ _. record { is_open = s.is_open; room = few }))

in_tag-placed : (spaced : Bool) (r : Reader) (byte : ℕ) → IsPlaced r → length r.below < 64 → Places (in_tag spaced r byte)
unfolding in_tag
in_tag-placed spaced r byte s few =
    when Places (is_white byte) _ _ (λ _. record { is_open = s.is_open; room = few })
    (λ _. when Places (byte == 62) _ _ (λ _. open_element-placed r s few)
    (λ _. when Places (byte == 47) _ _ (λ _. record { is_open = s.is_open; room = few })
    (λ _. begin_attribute-placed spaced r byte s few)))

in_start_name-placed : (r : Reader) (byte : ℕ) → IsPlaced r → Places (in_start_name r byte)
unfolding in_start_name
in_start_name-placed r byte s =
    when Places (is_name_byte byte) _ _ (λ _. record { is_open = s.is_open; room = s.room })
    (λ _. past _ (nat_le 64 (length r.below)) _ (λ e. in_tag-placed false _ byte (record { is_open = s.is_open; room = s.room }) (leb-false 64 (length r.below) e)))

in_empty_tag-placed : (r : Reader) (byte : ℕ) → IsPlaced r → length r.below < 64 → Places (in_empty_tag r byte)
unfolding in_empty_tag
in_empty_tag-placed r byte s few = past _ (not (byte == 62)) _ (λ _. keeps IsPlaced (open_element r) close (λ inside e. close-placed inside (subst (λ result. IfOk result IsPlaced) e (open_element-placed r s few))))

after_attribute_name-placed : (r : Reader) (byte : ℕ) → IsPlaced r → length r.below < 64 → Places (after_attribute_name r byte)
unfolding after_attribute_name
after_attribute_name-placed r byte s few =
    when Places (is_white byte) _ _ (λ _. record { is_open = s.is_open; room = few }) (λ _. past _ (not (byte == 61)) _ (λ _. record { is_open = s.is_open; room = few }))

past_into : (fault : ElementFault) (test : Bool) (x : Reader) (rest : Reader → Result Reader ElementFault) → (test ≡ false → Places (rest x)) → Places ((refuse fault test >>= λ _. Ok x) >>= rest)
past_into fault true x rest f = tt
past_into fault false x rest f = f refl

in_attribute_name-placed : (r : Reader) (byte : ℕ) → IsPlaced r → length r.below < 64 → Places (in_attribute_name r byte)
unfolding in_attribute_name add_name
in_attribute_name-placed r byte s few =
    when Places (is_name_byte byte) _ _ (λ _. record { is_open = s.is_open; room = s.room })
    (λ _. past_into _ (list_any (bytes_eq r.piece) r.tag.names) _ (λ named. after_attribute_name named byte) (λ _. after_attribute_name-placed _ byte (record { is_open = s.is_open; room = s.room }) few))

quoted-placed : (r : Reader) (quote : Option Quote) → IsPlaced r → length r.below < 64 → Places (quoted r quote)
quoted-placed r None s few = tt
quoted-placed r (Some quote) s few = record { is_open = s.is_open; room = few }

before_value-placed : (r : Reader) (byte : ℕ) → IsPlaced r → length r.below < 64 → Places (before_value r byte)
unfolding before_value
before_value-placed r byte s few = when Places (is_white byte) _ _ (λ _. s) (λ _. quoted-placed r (quote_of byte) s few)

end_value-placed : (r : Reader) → IsPlaced r → length r.below < 64 → IsPlaced (end_value r)
unfolding end_value
end_value-placed r s few = when IsPlaced r.tag.is_id _ _ (λ _. record { is_open = s.is_open; room = few }) (λ _. record { is_open = s.is_open; room = few })

add_byte-placed : (quote : Quote) (r : Reader) (byte : ℕ) → IsPlaced r → length r.below < 64 → IsPlaced (add_byte quote r byte)
unfolding add_byte
add_byte-placed quote r byte s few =
    when IsPlaced (byte == 38) _ _ (λ _. record { is_open = s.is_open; room = few })
    (λ _. record { is_open = add_value-open r (byte ∷ []) s.is_open; room = add_value-below r (byte ∷ []) HasRoom s.room })

in_value-placed : (quote : Quote) (r : Reader) (byte : ℕ) → IsPlaced r → length r.below < 64 → Places (in_value quote r byte)
unfolding in_value
in_value-placed quote r byte s few =
    when Places (byte == quote_byte quote) _ _ (λ _. end_value-placed r s few) (λ _. past _ (byte == 60) _ (λ _. add_byte-placed quote r byte s few))

-- ---- each byte

act_in-placed : (mode : Mode) (r : Reader) (byte : ℕ) → IsPlaced r → HasRoom mode r.below → Places (act_in mode r byte)
act_in-placed modes.Start r byte s room = at_start-placed r byte s
act_in-placed modes.Content r byte s room = in_content-placed r byte s
act_in-placed modes.FirstMarkup r byte s room = in_first_markup-placed r byte s
act_in-placed modes.Markup r byte s room = in_markup-placed r byte s
act_in-placed modes.Exclamation r byte s room = in_exclamation-placed r byte s
act_in-placed (modes.Beginning opening count) r byte s room = in_beginning-placed opening count r byte s
act_in-placed (modes.Comment before) r byte s room = in_comment-placed before r byte s
act_in-placed (modes.Section before) r byte s room = in_section-placed before r byte s
act_in-placed (modes.FirstInstruction question) r byte s room = in_first_instruction-placed question r byte s
act_in-placed (modes.Instruction question) r byte s room = in_instruction-placed question r byte s
act_in-placed modes.EndName r byte s room = in_end_name-placed r byte s
act_in-placed modes.AfterEndName r byte s room = after_end_name-placed r byte s
act_in-placed modes.StartName r byte s room = in_start_name-placed r byte s
act_in-placed (modes.Tag spaced) r byte s room = in_tag-placed spaced r byte s room
act_in-placed modes.EmptyTag r byte s room = in_empty_tag-placed r byte s room
act_in-placed modes.AttributeName r byte s room = in_attribute_name-placed r byte s room
act_in-placed modes.AfterAttributeName r byte s room = after_attribute_name-placed r byte s room
act_in-placed modes.BeforeValue r byte s room = before_value-placed r byte s room
act_in-placed (modes.Value quote) r byte s room = in_value-placed quote r byte s room
act_in-placed (modes.Reference home) r byte s room = in_reference-placed home r byte s room

pub read-placed : (r : Reader) (byte : ℕ) → IsPlaced r → Places (read r byte)
unfolding read act
read-placed r byte s = past _ (is_control byte) _ (λ _. keeps IsPlaced (act_in r.mode r byte) _ (λ next e.
    let placed : IsPlaced next = subst (λ result. IfOk result IsPlaced) e (act_in-placed r.mode r byte s s.room) in
    record { is_open = placed.is_open; room = placed.room }))

pub none_open : IsPlaced nothing_read
none_open = record { is_open = record { here = omega arith; around = tt; few = omega arith }; room = tt }

-- what is needed is there
needed : {A F : Type 0} (P : A → Type 0) (fault : F) (option : Option A) → ((x : A) → option ≡ Some x → P x) → IfOk (need fault option) P
needed P fault None f = tt
needed P fault (Some x) f = f x refl

past_tree : (P : Tree → Type 0) (fault : ElementFault) (test : Bool) (rest : Result Tree ElementFault) → IfOk rest P → IfOk (refuse fault test >>= λ _. rest) P
past_tree P fault true rest h = tt
past_tree P fault false rest h = h

abbrev IsShallow : Tree → Type 0
IsShallow root = tree_depth root ≤ 64

finish-depth : (r : Reader) → IsPlaced r → IfOk (finish r) IsShallow
unfolding finish
finish-depth r s =
    past_tree IsShallow _ (not (is_between r.mode)) _ (past_tree IsShallow _ (not (is_outside r)) _ (needed IsShallow _ (last_of r.top.children) (λ root e.
    let last = depth_last r.top.children root e in
    let fits = s.is_open.here in
    omega arith)))

-- no element that is read is deeper than 64
pub elements_of-depth : (bytes : List ℕ) → IfOk (elements_of bytes) (λ root. tree_depth root ≤ 64)
unfolding elements_of
elements_of-depth bytes =
    past_tree IsShallow _ (not (is_utf8 bytes)) _ (keeps IsShallow (read_all read nothing_read (without_mark bytes)) finish (λ last e.
    finish-depth last (subst (λ result. IfOk result IsPlaced) e (read_all_keeps IsPlaced read read-placed nothing_read (without_mark bytes) none_open))))
