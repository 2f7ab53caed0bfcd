-- Reading tags, content and elements.
use Rattle.std.proofs.Common.{◌≡◌, ℕ, ◌<◌, Bool, true, false, not, List, [], ◌∷◌, ◌++◌, append_assoc, length, Option, Ok, refl, sym, ap, subst, ◌∙◌, inl, inr}
use Rattle.std.specs.Prelude.{◌&&◌, ◌⊎◌, if◌then◌else◌}
use Rattle.std.specs.Str.{bytes_eq}
use Rattle.std.proofs.lemmas.Bool.{ne_eqb, lt-leb}
use Rattle.std.proofs.lemmas.Slice.Eq.{bytes_eq-Decides}
use Rattle.ror_text.specs.Reading.{◌>>=◌, read_all}
use Rattle.ror_elements.specs.declared.mode.Mode.TheVariants as modes
use Rattle.ror_elements.specs.declared.open.Open.{Open}
use Rattle.ror_elements.specs.declared.reader.Reader.{Reader}
use Rattle.ror_elements.specs.declared.reader.Tag.{Tag}
use Rattle.ror_elements.specs.Elements.{line_after}
use Rattle.ror_elements.specs.Grammar.{IsSpace, IsName, AreAttributes, BeginsTag, IsTag, IsStartTag, IsEmptyTag, IsEndTag}
use Rattle.ror_elements.specs.Kept.{is_kept, child_path}
use Rattle.ror_elements.specs.Marks.{is_white, is_name_byte, local_name}
use Rattle.ror_elements.specs.Open.{is_none}
use Rattle.ror_elements.specs.Reader.{empty_tag, in_content, in_markup, begin_tag}
use Rattle.ror_elements.specs.Tags.{root_name, opened, is_bad_root, open_element, in_tag, in_start_name}
use Rattle.ror_elements.proofs.PlainReader.{plain, run, around_closed, plain_after_end_name, plain_in_end_name, plain_in_empty_tag}
use Rattle.ror_elements.proofs.Runs.{line_at, line_at-append, at, run_step, Goes, gather, pass}
use Rattle.ror_elements.proofs.TagRuns.{not_named, white_unnamed, tagged, with_attributes, attributes-goes, fresh, id_is, tag_name_stays}

-- ---- the name of a start tag

-- what may stand behind the name of a tag
abbrev pub EndsName : ℕ → Type 0
EndsName byte = (is_white byte ≡ true) ⊎ ((byte ≡ 62) ⊎ (byte ≡ 47))

-- in the name of a start tag
abbrev pub in_start : List ℕ → ℕ → ℕ → Open → List Open → Reader → Reader
in_start piece line start top below j = record j { mode = modes.StartName; line = line; start = start; top = top; below = below; piece = piece }

-- an element may open here
pub record MayOpen (top : Open) (below : List Open) (name : List ℕ) : Type 0 where
  pub few : length below < 64
  pub first : (is_none below && not (is_none top.children)) ≡ false
  pub form : (is_none below && not (bytes_eq (local_name name) root_name)) ≡ false

abbrev pub named_tag : List ℕ → Tag
named_tag name = record empty_tag { name = name }

start_begins : (byte line : ℕ) (top : Open) (below : List Open) (j : Reader) → ¬ (byte ≡ 33) → ¬ (byte ≡ 63) → is_name_byte byte ≡ true → (is_none below && not (is_none top.children)) ≡ false
    → plain (at modes.Markup line top below j) byte ≡ Ok (in_start (byte ∷ []) (line_after line byte) j.start top below j)
unfolding plain in_markup begin_tag
start_begins byte line top below j a b is first = rw (is, ne_eqb byte 33 a, ne_eqb byte 63 b, not_named byte 47 is refl, first) refl

name_ends_white : (byte line start : ℕ) (name : List ℕ) (top : Open) (below : List Open) (j : Reader) → length below < 64 → is_white byte ≡ true
    → plain (in_start name line start top below j) byte ≡ plain (tagged (modes.Tag false) line start top below (named_tag name) (record j { piece = [] })) byte
unfolding plain in_start_name in_tag
name_ends_white byte line start name top below j few white = rw (white_unnamed byte white, white, lt-leb 64 (length below) few) refl

name_ends : (byte line start : ℕ) (name : List ℕ) (top : Open) (below : List Open) (j : Reader) → length below < 64 → EndsName byte
    → plain (in_start name line start top below j) byte ≡ plain (tagged (modes.Tag false) line start top below (named_tag name) (record j { piece = [] })) byte
unfolding plain in_start_name in_tag open_element opened is_bad_root
name_ends byte line start name top below j few (inl white) = name_ends_white byte line start name top below j few white
name_ends byte line start name top below j few (inr (inl e)) = subst (λ b. plain (in_start name line start top below j) b ≡ plain (tagged (modes.Tag false) line start top below (named_tag name) (record j { piece = [] })) b) (sym e) (rw (lt-leb 64 (length below) few) refl)
name_ends byte line start name top below j few (inr (inr e)) = subst (λ b. plain (in_start name line start top below j) b ≡ plain (tagged (modes.Tag false) line start top below (named_tag name) (record j { piece = [] })) b) (sym e) (rw (lt-leb 64 (length below) few) refl)

name_ends-run : (byte line start : ℕ) (name : List ℕ) (top : Open) (below : List Open) (j : Reader) (rest : List ℕ) → length below < 64 → EndsName byte
    → run (in_start name line start top below j) (byte ∷ rest) ≡ run (tagged (modes.Tag false) line start top below (named_tag name) (record j { piece = [] })) (byte ∷ rest)
unfolding run
name_ends-run byte line start name top below j rest few h = ap (λ acted. acted >>= λ next. read_all plain next rest) (name_ends byte line start name top below j few h)

-- the first byte behind the name of a tag
pub record BehindName (bytes : List ℕ) : Type 0 where
  pub byte : ℕ
  pub more : List ℕ
  pub split : bytes ≡ byte ∷ more
  pub ends : EndsName byte

behind_name : (written : List ℕ) (list : List (List ℕ × List ℕ)) (space : List ℕ) (byte : ℕ) (rest : List ℕ) → AreAttributes written list → IsSpace space → (byte ≡ 62) ⊎ (byte ≡ 47) → BehindName (written ++ (space ++ byte ∷ rest))
behind_name written list [] byte rest AreAttributes.nothing s e = record { byte = byte; more = rest; split = refl; ends = inr e }
behind_name written list (first ∷ space) byte rest AreAttributes.nothing s e = record { byte = first; more = space ++ byte ∷ rest; split = refl; ends = inl s.0 }
behind_name written list space byte rest (AreAttributes.more [] first others a more g f r) s e = absurd (g.1 refl)
behind_name written list space byte rest (AreAttributes.more (white ∷ gap) first others a more g f r) s e =
    record { byte = white; more = (gap ++ (first ++ others)) ++ (space ++ byte ∷ rest); split = refl; ends = inl g.0.0 }

-- ---- a tag up to its end

abbrev pub is_some_space : List ℕ → Bool
is_some_space [] = false
is_some_space (byte ∷ space) = true

pub space-run : (space : List ℕ) → IsSpace space → (line start : ℕ) (top : Open) (below : List Open) (tag : Tag) (j : Reader) (rest : List ℕ)
    → run (tagged (modes.Tag false) line start top below tag j) (space ++ rest) ≡ run (tagged (modes.Tag (is_some_space space)) (line_at line space) start top below tag j) rest
unfolding plain in_tag
space-run [] s line start top below tag j rest = refl
space-run (byte ∷ space) s line start top below tag j rest =
    run_step (tagged (modes.Tag false) line start top below tag j) (tagged (modes.Tag true) (line_after line byte) start top below tag j) byte (space ++ rest) (rw s.0 refl)
    ∙ pass is_white (λ l. tagged (modes.Tag true) l start top below tag j) (λ l b white. rw white refl) space s.1 (line_after line byte) rest

-- a tag was read up to its end
pub record TagRead (name : List ℕ) (id : Option (List ℕ)) (from : Reader) (bytes ending : List ℕ) (line : ℕ) (top : Open) (below : List Open) : Type 0 where
  pub front : List ℕ
  pub split : bytes ≡ front ++ ending
  pub spaced : Bool
  pub tag : Tag
  pub j : Reader
  pub is_name : tag.name ≡ name
  pub is_id : tag.id ≡ id
  pub reads : (rest : List ℕ) → run from (bytes ++ rest) ≡ run (tagged (modes.Tag spaced) (line_at line front) line top below tag j) (ending ++ rest)

pub start_name-run : (name : List ℕ) → IsName name → BeginsTag name → (line : ℕ) (top : Open) (below : List Open) (j : Reader) (rest : List ℕ) → (is_none below && not (is_none top.children)) ≡ false
    → run (at modes.Content line top below j) (60 ∷ name ++ rest) ≡ run (in_start name (line_at line name) line top below j) rest
unfolding run plain in_content in_start_name
start_name-run [] n b line top below j rest first = absurd (n.1 refl)
start_name-run (byte ∷ name) n b line top below j rest first =
    run_step (at modes.Markup line top below (record j { start = line })) (in_start (byte ∷ []) (line_after line byte) line top below j) byte (name ++ rest) (start_begins byte line top below (record j { start = line }) b.0 b.1 n.0.0 first)
    ∙ gather is_name_byte (λ l piece. in_start piece l line top below j) (λ l piece c is. rw is refl) name n.0.1 (line_after line byte) (byte ∷ []) rest

pub tag-read : (byte : ℕ) (ending : List ℕ) → (byte ≡ 62) ⊎ (byte ≡ 47) → (bytes name : List ℕ) (id : Option (List ℕ)) → IsTag (byte ∷ ending) bytes name id → (line : ℕ) (top : Open) (below : List Open) (j : Reader)
    → length below < 64 → (is_none below && not (is_none top.children)) ≡ false → TagRead name id (at modes.Content line top below j) bytes (byte ∷ ending) line top below
tag-read byte ending is bytes name id (IsTag.tag same written space list n b a d s) line top below j few first =
    let k = record j { piece = [] } in
    let l1 = line_at line same in
    let l2 = line_at l1 written in
    let inside = attributes-goes written list a l1 line top below (named_tag same) k (fresh _ d) in
    record {
      front = 60 ∷ same ++ (written ++ space);
      split = ap (λ (xs : List ℕ). 60 ∷ xs) (ap (λ (xs : List ℕ). same ++ xs) (sym (append_assoc written space (byte ∷ ending))) ∙ sym (append_assoc same (written ++ space) (byte ∷ ending)));
      spaced = is_some_space space;
      tag = with_attributes (named_tag same) list;
      j = inside.0;
      is_name = tag_name_stays (named_tag same) list;
      is_id = id_is (named_tag same) list d refl;
      reads = λ rest.
          let behind = behind_name written list space byte (ending ++ rest) a s is in
          ap (λ (xs : List ℕ). run (at modes.Content line top below j) (60 ∷ xs)) (append_assoc same (written ++ (space ++ byte ∷ ending)) rest ∙ ap (λ (xs : List ℕ). same ++ xs) (append_assoc written (space ++ byte ∷ ending) rest ∙ ap (λ (xs : List ℕ). written ++ xs) (append_assoc space (byte ∷ ending) rest)))
          ∙ start_name-run same n b line top below j (written ++ (space ++ (byte ∷ ending ++ rest))) first
          ∙ ap (λ (xs : List ℕ). run (in_start same l1 line top below j) xs) behind.split
          ∙ name_ends-run behind.byte l1 line same top below j behind.more few behind.ends
          ∙ ap (λ (xs : List ℕ). run (tagged (modes.Tag false) l1 line top below (named_tag same) k) xs) (sym behind.split)
          ∙ inside.1 (space ++ (byte ∷ ending ++ rest))
          ∙ space-run space s l2 line top below (with_attributes (named_tag same) list) inside.0 (byte ∷ ending ++ rest)
          ∙ ap (λ l. run (tagged (modes.Tag (is_some_space space)) l line top below (with_attributes (named_tag same) list) inside.0) (byte ∷ ending ++ rest)) (sym (line_at-append line same (written ++ space) ∙ line_at-append l1 written space));
    }

-- ---- the element of a tag

abbrev pub opened_as : Open → List ℕ → Option (List ℕ) → ℕ → Open
opened_as top name id line = record {
  name = name;
  line = line;
  path = if top.kept && is_kept top.path (local_name name) then child_path top.path (local_name name) else [];
  kept = top.kept && is_kept top.path (local_name name);
  id = id;
  text = [];
  children = [];
}

opens : (spaced : Bool) (line start : ℕ) (top : Open) (below : List Open) (tag : Tag) (j : Reader) → (is_none below && not (bytes_eq (local_name tag.name) root_name)) ≡ false
    → plain (tagged (modes.Tag spaced) line start top below tag j) 62 ≡ Ok (at modes.Content line (opened_as top tag.name tag.id start) (top ∷ below) (record j { start = start; tag = empty_tag }))
unfolding plain in_tag open_element opened is_bad_root
opens spaced line start top below tag j form = rw form refl

pub slash_step : (spaced : Bool) (line start : ℕ) (top : Open) (below : List Open) (tag : Tag) (j : Reader) → plain (tagged (modes.Tag spaced) line start top below tag j) 47 ≡ Ok (tagged modes.EmptyTag line start top below tag j)
unfolding plain in_tag
slash_step spaced line start top below tag j = refl

closes_empty : (line start : ℕ) (top : Open) (below : List Open) (tag : Tag) (j : Reader) → (is_none below && not (bytes_eq (local_name tag.name) root_name)) ≡ false
    → plain (tagged modes.EmptyTag line start top below tag j) 62 ≡ Ok (at modes.Content line (around_closed (opened_as top tag.name tag.id start) top) below (record j { start = start; tag = empty_tag }))
unfolding plain plain_in_empty_tag open_element opened is_bad_root
closes_empty line start top below tag j form = rw form refl

formed : (below : List Open) (tag name : List ℕ) → tag ≡ name → (is_none below && not (bytes_eq (local_name name) root_name)) ≡ false → (is_none below && not (bytes_eq (local_name tag) root_name)) ≡ false
formed below tag name e form = subst (λ (n : List ℕ). (is_none below && not (bytes_eq (local_name n) root_name)) ≡ false) (sym e) form

pub start_tag-goes : (bytes name : List ℕ) (id : Option (List ℕ)) → IsStartTag bytes name id → (line : ℕ) (top : Open) (below : List Open) (j : Reader) → MayOpen top below name
    → Goes (at modes.Content line top below j) bytes (at modes.Content (line_at line bytes) (opened_as top name id line) (top ∷ below))
start_tag-goes bytes name id t line top below j may =
    let r = tag-read 62 [] (inl refl) bytes name id t line top below j may.few may.first in
    let l = line_at line r.front in
    let k = record r.j { start = line; tag = empty_tag } in (
      k,
      λ rest.
          r.reads rest
          ∙ run_step (tagged (modes.Tag r.spaced) l line top below r.tag r.j) _ 62 rest (opens r.spaced l line top below r.tag r.j (formed below r.tag.name name r.is_name may.form))
          ∙ ap (λ (n : List ℕ). run (at modes.Content l (opened_as top n r.tag.id line) (top ∷ below) k) rest) r.is_name
          ∙ ap (λ (i : Option (List ℕ)). run (at modes.Content l (opened_as top name i line) (top ∷ below) k) rest) r.is_id
          ∙ ap (λ n. run (at modes.Content n (opened_as top name id line) (top ∷ below) k) rest) (sym (ap (line_at line) r.split ∙ line_at-append line r.front (62 ∷ []))),
    )

pub empty_tag-goes : (bytes name : List ℕ) (id : Option (List ℕ)) → IsEmptyTag bytes name id → (line : ℕ) (top : Open) (below : List Open) (j : Reader) → MayOpen top below name
    → Goes (at modes.Content line top below j) bytes (at modes.Content (line_at line bytes) (around_closed (opened_as top name id line) top) below)
empty_tag-goes bytes name id t line top below j may =
    let r = tag-read 47 (62 ∷ []) (inr refl) bytes name id t line top below j may.few may.first in
    let l = line_at line r.front in
    let k = record r.j { start = line; tag = empty_tag } in (
      k,
      λ rest.
          r.reads rest
          ∙ run_step (tagged (modes.Tag r.spaced) l line top below r.tag r.j) _ 47 (62 ∷ rest) (slash_step r.spaced l line top below r.tag r.j)
          ∙ run_step (tagged modes.EmptyTag l line top below r.tag r.j) _ 62 rest (closes_empty l line top below r.tag r.j (formed below r.tag.name name r.is_name may.form))
          ∙ ap (λ (n : List ℕ). run (at modes.Content l (around_closed (opened_as top n r.tag.id line) top) below k) rest) r.is_name
          ∙ ap (λ (i : Option (List ℕ)). run (at modes.Content l (around_closed (opened_as top name i line) top) below k) rest) r.is_id
          ∙ ap (λ n. run (at modes.Content n (around_closed (opened_as top name id line) top) below k) rest) (sym (ap (line_at line) r.split ∙ line_at-append line r.front (47 ∷ 62 ∷ []))),
    )

pub tag_name : (ending bytes name : List ℕ) (id : Option (List ℕ)) → IsTag ending bytes name id → IsName name
tag_name ending bytes name id (IsTag.tag same written space list n b a d s) = n

-- ---- end tags

abbrev pub in_end : List ℕ → ℕ → ℕ → Open → List Open → Reader → Reader
in_end piece line start top below j = record j { mode = modes.EndName; line = line; start = start; top = top; below = below; piece = piece }

end_now : (name : List ℕ) (line start : ℕ) (top around : Open) (outer : List Open) (j : Reader) → is_none name ≡ false → bytes_eq name top.name ≡ true
    → plain (in_end name line start top (around ∷ outer) j) 62 ≡ Ok (at modes.Content line (around_closed top around) outer (record j { start = start; piece = name }))
unfolding plain plain_in_end_name plain_after_end_name
end_now name line start top around outer j some same = rw (some, same) refl

pub end_white : (name : List ℕ) (byte line start : ℕ) (top around : Open) (outer : List Open) (j : Reader) → is_none name ≡ false → bytes_eq name top.name ≡ true → is_white byte ≡ true
    → plain (in_end name line start top (around ∷ outer) j) byte ≡ Ok (at modes.AfterEndName (line_after line byte) top (around ∷ outer) (record j { start = start; piece = name }))
unfolding plain plain_in_end_name plain_after_end_name
end_white name byte line start top around outer j some same white = rw (white_unnamed byte white, white, some, same) refl

end_later : (line : ℕ) (top around : Open) (outer : List Open) (j : Reader) → plain (at modes.AfterEndName line top (around ∷ outer) j) 62 ≡ Ok (at modes.Content line (around_closed top around) outer j)
unfolding plain plain_after_end_name
end_later line top around outer j = refl

end-run : (space : List ℕ) → IsSpace space → (name : List ℕ) (line start : ℕ) (top around : Open) (outer : List Open) (j : Reader) (rest : List ℕ) → is_none name ≡ false → bytes_eq name top.name ≡ true
    → run (in_end name line start top (around ∷ outer) j) (space ++ 62 ∷ rest) ≡ run (at modes.Content (line_at line space) (around_closed top around) outer (record j { start = start; piece = name })) rest
unfolding plain plain_after_end_name
end-run [] s name line start top around outer j rest some same = run_step (in_end name line start top (around ∷ outer) j) _ 62 rest (end_now name line start top around outer j some same)
end-run (byte ∷ space) s name line start top around outer j rest some same =
    let k = record j { start = start; piece = name } in
    let l = line_at (line_after line byte) space in
    run_step (in_end name line start top (around ∷ outer) j) _ byte (space ++ 62 ∷ rest) (end_white name byte line start top around outer j some same s.0)
    ∙ pass is_white (λ n. at modes.AfterEndName n top (around ∷ outer) k) (λ n b white. rw white refl) space s.1 (line_after line byte) (62 ∷ rest)
    ∙ run_step (at modes.AfterEndName l top (around ∷ outer) k) _ 62 rest (end_later l top around outer k)

pub some_name : (name : List ℕ) → ¬ (name ≡ []) → is_none name ≡ false
some_name [] h = absurd (h refl)
some_name (byte ∷ name) h = refl

pub end_name-run : (name : List ℕ) → IsName name → (line start : ℕ) (top around : Open) (outer : List Open) (j : Reader) (rest : List ℕ)
    → run (in_end [] line start top (around ∷ outer) j) (name ++ rest) ≡ run (in_end name (line_at line name) start top (around ∷ outer) j) rest
unfolding plain plain_in_end_name
end_name-run name n line start top around outer j rest = gather is_name_byte (λ l piece. in_end piece l start top (around ∷ outer) j) (λ l piece b is. rw is refl) name n.0 line [] rest

pub end_tag-goes : (bytes name : List ℕ) → IsEndTag bytes name → IsName name → (line : ℕ) (top around : Open) (outer : List Open) (j : Reader) → top.name ≡ name
    → Goes (at modes.Content line top (around ∷ outer) j) bytes (at modes.Content (line_at line bytes) (around_closed top around) outer)
unfolding run plain in_content in_markup
end_tag-goes bytes name (IsEndTag.end same space s) n line top around outer j e = (
  record j { start = line; piece = same },
  λ rest.
      ap (λ (xs : List ℕ). run (in_end [] line line top (around ∷ outer) j) xs) (append_assoc same (space ++ 62 ∷ []) rest ∙ ap (λ (xs : List ℕ). same ++ xs) (append_assoc space (62 ∷ []) rest))
      ∙ end_name-run same n line line top around outer j (space ++ 62 ∷ rest)
      ∙ end-run space s same (line_at line same) line top around outer j rest (some_name same n.1) ((bytes_eq-Decides same top.name).1 (sym e))
      ∙ ap (λ l. run (at modes.Content l (around_closed top around) outer (record j { start = line; piece = same })) rest) (sym (line_at-append line same (space ++ 62 ∷ []) ∙ line_at-append (line_at line same) space (62 ∷ []))),
)
