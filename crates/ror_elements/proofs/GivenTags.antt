-- References that are for no character, or are none, are given wherever a text has them.
use Rattle.std.proofs.Common.{◌≡◌, ℕ, ◌<◌, false, not, List, [], ◌∷◌, ◌++◌, append_assoc, append-nil, length, Err, refl, sym, ap, subst, ◌∙◌, arith, inl, inr}
use Rattle.std.specs.List.{list_any}
use Rattle.std.specs.Str.{IsUtf8, bytes_eq}
use Rattle.std.proofs.lemmas.Bool.{cases_Bool, lt-leb}
use Rattle.std.proofs.lemmas.List.{append_cancel_right}
use Rattle.ror_text.specs.Reading.{◌>>=◌, read_all}
use Rattle.ror_elements.specs.declared.element.ElementKind.{ElementKind}
use Rattle.ror_elements.specs.declared.element.ElementKind.TheVariants as kinds
use Rattle.ror_elements.specs.declared.mode.Mode.{Mode}
use Rattle.ror_elements.specs.declared.mode.Mode.TheVariants as modes
use Rattle.ror_elements.specs.declared.mode.Quote.{Quote}
use Rattle.ror_elements.specs.declared.open.Open.{Open}
use Rattle.ror_elements.specs.declared.reader.Reader.{Reader}
use Rattle.ror_elements.specs.declared.reader.Tag.{Tag}
use Rattle.ror_elements.specs.Elements.{elements_of, without_mark}
use Rattle.ror_elements.specs.Faults.{fault}
use Rattle.ror_elements.specs.Grammar.{IsName, IsGap, BeginsTag, Attribute, AreAttributes, AreDistinct, line_behind}
use Rattle.ror_elements.specs.Marks.{is_white, is_name_byte}
use Rattle.ror_elements.specs.Mode.{quote_byte}
use Rattle.ror_elements.specs.Reader.{nothing_read}
use Rattle.ror_elements.specs.Refusals.{IsBeforeRoot, IsFront, StandsAt, TagStandsAt, IsInValue, IsBadReference, RefersAt, HasEntity}
use Rattle.ror_elements.specs.Tags.{opened, is_bad_root, open_element, begin_attribute, in_tag, in_start_name, before_value}
use Rattle.ror_elements.proofs.ElementRuns.{named_tag, in_start, start_name-run}
use Rattle.ror_elements.proofs.FaultFronts.{run_on, count_names}
use Rattle.ror_elements.proofs.FaultValues.{twice_last}
use Rattle.ror_elements.proofs.FaultWords.{open_names, is_closed}
use Rattle.ror_elements.proofs.GivenFaults.{clean_append, on_from, front_clean, reached_by, from_known, open_is_content}
use Rattle.ror_elements.proofs.GivenForm.{led}
use Rattle.ror_elements.proofs.GivenReferences.{bad_reference, Referring, given_by, no_character_of, ended_reference, in_text-refers, in_value-refers}
use Rattle.ror_elements.proofs.LawLemmas.{lines_are_counted, without_mark-IsUtf8}
use Rattle.ror_elements.proofs.TextLemmas.{cut_front}
use Rattle.ror_elements.proofs.PlainReader.{plain, run}
use Rattle.ror_elements.proofs.Runs.{line_at, line_at-is, line_at-append, at, run_step, pass}
use Rattle.ror_elements.proofs.TagRuns.{tagged, naming, with_attribute, with_attributes, with_value, names_of, fresh, attributes-goes, attribute_name-run, equals-run, quote_opens, gap-run, value-goes, quote_line, white_unnamed}

-- ---- a front behind which a tag may begin

pub record LedTag (front : List ℕ) (names : List (List ℕ)) : Type 0 where
  pub top : Open
  pub below : List Open
  pub like : Reader
  pub closed : is_closed top below ≡ false
  pub named : open_names top below ≡ names
  pub runs : (byte : ℕ) (more : List ℕ) → ¬ (byte ≡ 63) → run nothing_read (front ++ 60 ∷ byte ∷ more) ≡ run (at modes.Content (line_behind 1 front) top below like) (60 ∷ byte ∷ more)

inside_closed : (top : Open) (below : List Open) (name : List ℕ) (names : List (List ℕ)) → open_names top below ≡ name ∷ names → is_closed top below ≡ false
inside_closed top [] name names e = absurd cc
inside_closed top (around ∷ outer) name names e = refl

pub led_tag : (front : List ℕ) (names : List (List ℕ)) → IsUtf8 front → IsFront front names → (names ≡ [] → IsBeforeRoot front) → LedTag front names
led_tag front [] u is before =
    let l = led front u (before refl) in
    record { top = l.top; below = []; like = l.like; closed = ap not l.none; named = refl; runs = l.runs }
led_tag front (name ∷ names) u is before =
    let k = from_known front name names (name ∷ names) refl is in
    let r = k.reader in
    let reached = reached_by front r u (front_clean front (name ∷ names) is) k.runs in
    let content = open_is_content front name names k reached in
    record {
      top = r.top;
      below = r.below;
      like = r;
      closed = inside_closed r.top r.below name names (k.opened content);
      named = k.opened content;
      runs = λ byte more other.
          run_on front (60 ∷ byte ∷ more) r k.runs
          ∙ ap (λ (m : Mode). run (record r { mode = m }) (60 ∷ byte ∷ more)) content
          ∙ ap (λ l. run (at modes.Content l r.top r.below r) (60 ∷ byte ∷ more)) (lines_are_counted front r reached);
    }

-- ---- up to what stands behind the attributes

-- the first byte ends a name
pub record EndsAName (bytes : List ℕ) : Type 0 where
  pub byte : ℕ
  pub more : List ℕ
  pub split : bytes ≡ byte ∷ more
  pub ends : is_name_byte byte ≡ false

name_ends_any : (byte line start : ℕ) (name : List ℕ) (top : Open) (below : List Open) (j : Reader) → length below < 64 → is_name_byte byte ≡ false
    → plain (in_start name line start top below j) byte ≡ plain (tagged (modes.Tag false) line start top below (named_tag name) (record j { piece = [] })) byte
unfolding plain in_start_name in_tag begin_attribute open_element opened is_bad_root
name_ends_any byte line start name top below j few unnamed = rw (unnamed, lt-leb 64 (length below) few) refl

name_ends_any-run : (byte line start : ℕ) (name : List ℕ) (top : Open) (below : List Open) (j : Reader) (rest : List ℕ) → length below < 64 → is_name_byte byte ≡ false
    → run (in_start name line start top below j) (byte ∷ rest) ≡ run (tagged (modes.Tag false) line start top below (named_tag name) (record j { piece = [] })) (byte ∷ rest)
unfolding run
name_ends_any-run byte line start name top below j rest few h = ap (λ acted. acted >>= λ next. read_all plain next rest) (name_ends_any byte line start name top below j few h)

pub behind_start : (name written rest : List ℕ) (list : List Attribute) → AreAttributes written list → AreDistinct (names_of list) → IsName name → BeginsTag name → (line : ℕ) (top : Open) (below : List Open) (j : Reader) → length below < 64 → is_closed top below ≡ false → EndsAName (written ++ rest)
    → (k : Reader) × (run (at modes.Content line top below j) (60 ∷ name ++ (written ++ rest)) ≡ run (tagged (modes.Tag false) (line_at (line_at line name) written) line top below (with_attributes (named_tag name) list) k) rest)
behind_start name written rest list a d n b line top below j few closed e =
    let l1 = line_at line name in
    let k = record j { piece = [] } in
    let inside = attributes-goes written list a l1 line top below (named_tag name) k (fresh (names_of list) d) in (
      inside.0,
      start_name-run name n b line top below j (written ++ rest) closed
          ∙ ap (run (in_start name l1 line top below j)) e.split
          ∙ name_ends_any-run e.byte l1 line name top below j e.more few e.ends
          ∙ ap (run (tagged (modes.Tag false) l1 line top below (named_tag name) k)) (sym e.split)
          ∙ inside.1 rest,
    )

pub names_with : (tag : Tag) (list : List Attribute) → (with_attributes tag list).names ≡ tag.names ++ names_of list
names_with tag [] = sym (append-nil tag.names)
names_with tag (a ∷ list) = names_with (with_attribute tag a) list ∙ append_assoc tag.names (a.0 ∷ []) (names_of list)

-- ---- up to what stands in a value

-- a name that stays distinct is none of the others
pub new_name : (names : List (List ℕ)) (name : List ℕ) → AreDistinct (names ++ name ∷ []) → list_any (bytes_eq name) names ≡ false
new_name names name d = elim (cases_Bool (list_any (bytes_eq name) names)) [
  | inl again ↦ absurd (twice_last names name again d)
  | inr new ↦ new
]

-- where the bytes of a value begin
pub record InQuotes (from : Reader) (line : ℕ) (rest bytes : List ℕ) : Type 0 where
  pub lead : List ℕ
  pub split : rest ≡ lead ++ bytes
  pub quote : Quote
  pub refers : (r : Reader) × Referring r (line_at line lead) × (run from rest ≡ run r bytes)
  pub mode : refers.0.mode ≡ modes.Value quote

lead_is : (gap name before after written bytes : List ℕ) (q : ℕ) → gap ++ (name ++ (before ++ (61 ∷ after ++ (q ∷ written ++ bytes)))) ≡ (gap ++ (name ++ (before ++ (61 ∷ after ++ (q ∷ written))))) ++ bytes
lead_is gap name before after written bytes q =
    sym (append_assoc gap (name ++ (before ++ (61 ∷ after ++ (q ∷ written)))) bytes
    ∙ ap (λ (xs : List ℕ). gap ++ xs) (append_assoc name (before ++ (61 ∷ after ++ (q ∷ written))) bytes
    ∙ ap (λ (xs : List ℕ). name ++ xs) (append_assoc before (61 ∷ after ++ (q ∷ written)) bytes
    ∙ ap (λ (xs : List ℕ). before ++ 61 ∷ xs) (append_assoc after (q ∷ written) bytes))))

lead_line : (gap name before after written : List ℕ) (quote : Quote) (line : ℕ) → line_at (line_at (line_at (line_at (line_at line gap) name) before) after) written ≡ line_at line (gap ++ (name ++ (before ++ (61 ∷ after ++ (quote_byte quote ∷ written)))))
lead_line gap name before after written quote line =
    let q = quote_byte quote in
    let l0 = line_at line gap in
    let l1 = line_at l0 name in
    let l2 = line_at l1 before in
    let l3 = line_at l2 after in
    sym (line_at-append line gap (name ++ (before ++ (61 ∷ after ++ (q ∷ written))))
    ∙ line_at-append l0 name (before ++ (61 ∷ after ++ (q ∷ written)))
    ∙ line_at-append l1 before (61 ∷ after ++ (q ∷ written))
    ∙ line_at-append l2 after (q ∷ written)
    ∙ ap (λ l. line_at l written) (quote_line quote l3))

pub in_quotes : (names : List (List ℕ)) (bytes rest : List ℕ) → IsInValue names bytes rest → (line start : ℕ) (top : Open) (below : List Open) (tag : Tag) (j : Reader) → tag.names ≡ names → InQuotes (tagged (modes.Tag false) line start top below tag j) line rest bytes
unfolding plain before_value
in_quotes names bytes rest (IsInValue.behind gap name before after written value quote g n d b c v) line start top below tag j e =
    let q = quote_byte quote in
    let l0 = line_at line gap in
    let l1 = line_at l0 name in
    let l2 = line_at l1 before in
    let l3 = line_at l2 after in
    let l4 = line_at l3 written in
    let k = record j { piece = [] } in
    let new : list_any (bytes_eq name) tag.names ≡ false = ap (list_any (bytes_eq name)) e ∙ new_name names name d in
    let inside = value-goes quote written value v l3 start top below (naming tag name) k in
    let from = tagged (modes.Value quote) l4 start top below (with_value (naming tag name) value) inside.0 in
    record {
      lead = gap ++ (name ++ (before ++ (61 ∷ after ++ (q ∷ written))));
      split = lead_is gap name before after written bytes q;
      quote = quote;
      mode = refl;
      refers = (
        from,
        subst (Referring from) (lead_line gap name before after written quote line) (in_value-refers quote l4 start top below (with_value (naming tag name) value) inside.0),
        gap-run gap g line start false top below tag j (name ++ (before ++ (61 ∷ after ++ (q ∷ written ++ bytes))))
            ∙ attribute_name-run name n l0 start top below tag j (before ++ (61 ∷ after ++ (q ∷ written ++ bytes)))
            ∙ equals-run before b name l1 start top below tag j (after ++ (q ∷ written ++ bytes)) new
            ∙ pass is_white (λ l. tagged modes.BeforeValue l start top below (naming tag name) k) (λ l byte white. rw white refl) after c l2 (q ∷ written ++ bytes)
            ∙ run_step (tagged modes.BeforeValue l3 start top below (naming tag name) k) _ q (written ++ bytes) (quote_opens quote l3 start top below (naming tag name) k)
            ∙ inside.1 bytes,
      );
    }

-- ---- the text

pub white_ends : (gap : List ℕ) → IsGap gap → (more : List ℕ) → EndsAName (gap ++ more)
white_ends [] g more = absurd (g.1 refl)
white_ends (byte ∷ gap) g more = record { byte = byte; more = gap ++ more; split = refl; ends = white_unnamed byte g.0.0 }

pub value_ends : (names : List (List ℕ)) (bytes rest : List ℕ) → IsInValue names bytes rest → EndsAName rest
value_ends names bytes rest (IsInValue.behind gap name before after written value quote g n d b c v) = white_ends gap g (name ++ (before ++ (61 ∷ after ++ (quote_byte quote ∷ written ++ bytes))))

pub attributes_end : (written rest : List ℕ) (list : List Attribute) → AreAttributes written list → EndsAName rest → EndsAName (written ++ rest)
attributes_end written rest list AreAttributes.nothing e = e
attributes_end written rest list (AreAttributes.more gap first others a more g f r) e =
    subst EndsAName (sym (append_assoc gap (first ++ others) rest)) (white_ends gap g ((first ++ others) ++ rest))

-- the name of a tag begins with a byte other than `?`
pub record OwnBegins (bytes : List ℕ) : Type 0 where
  pub byte : ℕ
  pub more : List ℕ
  pub split : bytes ≡ byte ∷ more
  pub other : ¬ (byte ≡ 63)

pub own_begins : (name rest : List ℕ) → BeginsTag name → OwnBegins (name ++ rest)
own_begins [] rest b = absurd b
own_begins (byte ∷ name) rest b = record { byte = byte; more = name ++ rest; split = refl; other = b.1 }

in_value_given : (bytes : List ℕ) (line : ℕ) (kind : ElementKind) (reference : List ℕ) → IsUtf8 bytes → ((from : Reader) (l : ℕ) → Referring from l → run from reference ≡ Err (fault kind l)) → (around names : List (List ℕ)) (tag own rest : List ℕ) (start : ℕ) (before : List ℕ) (there : TagStandsAt (without_mark bytes) start around tag own names rest)
    → IsInValue names reference rest → without_mark bytes ≡ before ++ (reference ++ there.stands.after) → line ≡ line_behind 1 before → elements_of bytes ≡ Err (fault kind line)
in_value_given bytes line kind reference u fails around names tag own rest start before there v split lines =
    let s = there.stands in
    let b = there.is_begun in
    let text = without_mark-IsUtf8 bytes u in
    let inside = own ++ (b.written ++ rest) in
    let front_u = cut_front s.front (inside ++ s.after) 60 (omega arith) (subst IsUtf8 (s.whole ∙ ap (λ (xs : List ℕ). s.front ++ (xs ++ s.after)) b.whole) text) in
    let l = led_tag s.front around front_u s.is_front there.first in
    let list = b.attributes in
    let distinct : AreDistinct (names_of list) = subst AreDistinct b.named b.distinct in
    let few : length l.below < 64 = omega (arith, there.few, count_names l.top l.below, ap length l.named) in
    let first = line_behind 1 s.front in
    let tag_run = behind_start own b.written rest list b.are distinct b.is_name b.begins first l.top l.below l.like few l.closed (attributes_end b.written rest list b.are (value_ends names reference rest v)) in
    let l2 = line_at (line_at first own) b.written in
    let quotes_at = in_quotes names reference rest v l2 first l.top l.below (with_attributes (named_tag own) list) tag_run.0 (names_with (named_tag own) list ∙ sym b.named) in
    let lead = 60 ∷ own ++ (b.written ++ quotes_at.lead) in
    let tag_is : tag ≡ lead ++ reference =
    b.whole ∙ ap (λ (xs : List ℕ). 60 ∷ own ++ (b.written ++ xs)) quotes_at.split
    ∙ ap (λ (xs : List ℕ). 60 ∷ xs) (ap (λ (xs : List ℕ). own ++ xs) (sym (append_assoc b.written quotes_at.lead reference)) ∙ sym (append_assoc own (b.written ++ quotes_at.lead) reference))
    in
    let place : before ≡ s.front ++ lead =
    append_cancel_right before (s.front ++ lead) (reference ++ s.after)
    (sym split ∙ s.whole ∙ ap (λ (xs : List ℕ). s.front ++ (xs ++ s.after)) tag_is
    ∙ ap (λ (xs : List ℕ). s.front ++ xs) (append_assoc lead reference s.after) ∙ sym (append_assoc s.front lead (reference ++ s.after)))
    in
    let at_line : line_at l2 quotes_at.lead ≡ line =
    sym (lines ∙ ap (line_behind 1) place ∙ sym (line_at-is 1 (s.front ++ lead)) ∙ line_at-append 1 s.front lead ∙ ap (λ n. line_at n lead) (line_at-is 1 s.front)
    ∙ line_at-append first own (b.written ++ quotes_at.lead) ∙ line_at-append (line_at first own) b.written quotes_at.lead)
    in
    let begins = own_begins own (b.written ++ rest) b.begins in
    given_by bytes (s.front ++ tag) s.after (fault kind line) u
    (s.whole ∙ sym (append_assoc s.front tag s.after)) (clean_append s.front tag (front_clean s.front around s.is_front) s.clean)
    (ap (λ (xs : List ℕ). run nothing_read (s.front ++ xs)) b.whole
    ∙ ap (λ (xs : List ℕ). run nothing_read (s.front ++ 60 ∷ xs)) begins.split
    ∙ l.runs begins.byte begins.more begins.other
    ∙ ap (λ (xs : List ℕ). run (at modes.Content first l.top l.below l.like) (60 ∷ xs)) (sym begins.split)
    ∙ tag_run.1
    ∙ quotes_at.refers.2
    ∙ fails quotes_at.refers.0 (line_at l2 quotes_at.lead) quotes_at.refers.1
    ∙ ap (λ n. Err (fault kind n)) at_line)

text_fails : (kind : ElementKind) (part opened : List ℕ) (names : List (List ℕ)) → ((from : Reader) (l : ℕ) → Referring from l → run from (38 ∷ part) ≡ Err (fault kind l)) → (line : ℕ) (top : Open) (below : List Open) (j : Reader) → open_names top below ≡ opened ∷ names → run (at modes.Content line top below j) (38 ∷ part) ≡ Err (fault kind line)
text_fails kind part opened names fails line top [] j e = absurd cc
text_fails kind part opened names fails line top (around ∷ outer) j e = fails (at modes.Content line top (around ∷ outer) j) line (in_text-refers line top around outer j)

in_text_given : (bytes : List ℕ) (line : ℕ) (kind : ElementKind) (part opened : List ℕ) (names : List (List ℕ)) → IsUtf8 bytes → ((from : Reader) (l : ℕ) → Referring from l → run from (38 ∷ part) ≡ Err (fault kind l)) → StandsAt (without_mark bytes) line (opened ∷ names) (38 ∷ part) → elements_of bytes ≡ Err (fault kind line)
in_text_given bytes line kind part opened names u fails s =
    let reference = 38 ∷ part in
    let front_u = cut_front s.front (part ++ s.after) 38 (omega arith) (subst IsUtf8 s.whole (without_mark-IsUtf8 bytes u)) in
    let k = from_known s.front opened names (opened ∷ names) refl s.is_front in
    let r = k.reader in
    let reached = reached_by s.front r front_u (front_clean s.front (opened ∷ names) s.is_front) k.runs in
    let content = open_is_content s.front opened names k reached in
    given_by bytes (s.front ++ reference) s.after (fault kind line) u
    (s.whole ∙ sym (append_assoc s.front reference s.after)) (clean_append s.front reference (front_clean s.front (opened ∷ names) s.is_front) s.clean)
    (on_from s.front reference r kind k.runs reached content (text_fails kind part opened names fails r.line r.top r.below r (k.opened content)) ∙ ap (λ n. Err (fault kind n)) (sym s.is_line))

refers_given : (bytes : List ℕ) (line : ℕ) (kind : ElementKind) (part : List ℕ) → IsUtf8 bytes → ((from : Reader) (l : ℕ) → Referring from l → run from (38 ∷ part) ≡ Err (fault kind l)) → RefersAt (without_mark bytes) line (38 ∷ part) → elements_of bytes ≡ Err (fault kind line)
refers_given bytes line kind part u fails (RefersAt.in_text opened names s) = in_text_given bytes line kind part opened names u fails s
refers_given bytes line kind part u fails (RefersAt.in_value around names tag own rest start before there v split lines) = in_value_given bytes line kind (38 ∷ part) u fails around names tag own rest start before there v split lines

pub entity_given : (bytes : List ℕ) (line : ℕ) → IsUtf8 bytes → HasEntity (without_mark bytes) line → elements_of bytes ≡ Err (fault kinds.Entity line)
entity_given bytes line u h = refers_given bytes line kinds.Entity (h.0 ++ 59 ∷ []) u (λ from l r. ended_reference from l h.0 (fault kinds.Entity l) r h.1.are (no_character_of l h.0 h.1)) h.2

pub reference_given : (bytes : List ℕ) (line : ℕ) (part : List ℕ) → IsUtf8 bytes → IsBadReference part → RefersAt (without_mark bytes) line (38 ∷ part) → elements_of bytes ≡ Err (fault kinds.BadMarkup line)
reference_given bytes line part u bad h = refers_given bytes line kinds.BadMarkup part u (λ from l r. bad_reference from l part bad r) h
