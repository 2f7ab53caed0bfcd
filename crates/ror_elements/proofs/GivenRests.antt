-- What is bad behind the attributes of a tag is given wherever a text has it.
use Rattle.std.proofs.Common.{◌≡◌, ℕ, ◌<◌, true, false, List, [], ◌∷◌, ◌++◌, append_assoc, length, None, Err, refl, sym, ap, subst, ◌∙◌, arith, inl, inr}
use Rattle.std.specs.Prelude.{◌⊎◌}
use Rattle.std.specs.List.{list_any}
use Rattle.std.specs.Str.{IsUtf8, bytes_eq}
use Rattle.std.proofs.lemmas.Bool.{cases_Bool, ne_eqb}
use Rattle.ror_elements.specs.declared.element.ElementKind.TheVariants as kinds
use Rattle.ror_elements.specs.declared.mode.Mode.TheVariants as modes
use Rattle.ror_elements.specs.declared.mode.Quote.{Quote}
use Rattle.ror_elements.specs.declared.mode.Quote.TheVariants as quotes
use Rattle.ror_elements.specs.declared.open.Open.{Open}
use Rattle.ror_elements.specs.declared.reader.Reader.{Reader}
use Rattle.ror_elements.specs.declared.reader.Tag.{Tag}
use Rattle.ror_elements.specs.Elements.{elements_of, without_mark, line_after}
use Rattle.ror_elements.specs.Faults.{fault}
use Rattle.ror_elements.specs.Grammar.{IsSpace, IsGap, IsName, IsValue, Attribute, AreAttributes, AreDistinct, line_behind}
use Rattle.ror_elements.specs.Marks.{is_white, is_name_byte}
use Rattle.ror_elements.specs.Mode.{quote_of, quote_byte}
use Rattle.ror_elements.specs.Reader.{nothing_read}
use Rattle.ror_elements.specs.Refusals.{TagStandsAt, IsBadRest, StandsBehind}
use Rattle.ror_elements.specs.Tags.{in_tag, begin_attribute, add_name, after_attribute_name, in_attribute_name, before_value, in_value}
use Rattle.ror_elements.proofs.ElementRuns.{named_tag, is_some_space, space-run, slash_step}
use Rattle.ror_elements.proofs.FaultFronts.{count_names}
use Rattle.ror_elements.proofs.FaultValues.{distinct_last}
use Rattle.ror_elements.proofs.GivenFaults.{clean_append, front_clean}
use Rattle.ror_elements.proofs.GivenReferences.{given_by}
use Rattle.ror_elements.proofs.GivenTags.{EndsAName, led_tag, behind_start, names_with, white_ends, own_begins}
use Rattle.ror_elements.proofs.LawLemmas.{without_mark-IsUtf8}
use Rattle.ror_elements.proofs.PlainReader.{plain, plain_in_empty_tag, run}
use Rattle.ror_elements.proofs.Runs.{line_at, at, run_step, pass}
use Rattle.ror_elements.proofs.TagRuns.{tagged, naming, in_name, with_attributes, names_of, attribute_name-run, equals-run, white_now, quote_opens, gap-run, value-goes, white_unnamed}
use Rattle.ror_elements.proofs.TextLemmas.{cut_front}

-- ---- one byte

no_space_at : (byte line start : ℕ) (top : Open) (below : List Open) (tag : Tag) (j : Reader) → is_white byte ≡ false → ¬ (byte ≡ 62) → ¬ (byte ≡ 47) → run (tagged (modes.Tag false) line start top below tag j) (byte ∷ []) ≡ Err (fault kinds.BadMarkup start)
unfolding run plain in_tag begin_attribute
no_space_at byte line start top below tag j dark a b = rw (dark, ne_eqb byte 62 a, ne_eqb byte 47 b) refl

no_name_at : (byte line start : ℕ) (top : Open) (below : List Open) (tag : Tag) (j : Reader) → is_name_byte byte ≡ false → is_white byte ≡ false → ¬ (byte ≡ 62) → ¬ (byte ≡ 47) → run (tagged (modes.Tag true) line start top below tag j) (byte ∷ []) ≡ Err (fault kinds.BadMarkup start)
unfolding run plain in_tag begin_attribute
no_name_at byte line start top below tag j unnamed dark a b = rw (unnamed, dark, ne_eqb byte 62 a, ne_eqb byte 47 b) refl

no_end_at : (byte line start : ℕ) (top : Open) (below : List Open) (tag : Tag) (j : Reader) → ¬ (byte ≡ 62) → run (tagged modes.EmptyTag line start top below tag j) (byte ∷ []) ≡ Err (fault kinds.BadMarkup start)
unfolding run plain plain_in_empty_tag
no_end_at byte line start top below tag j a = rw (ne_eqb byte 62 a) refl

again_at : (name : List ℕ) (byte : ℕ) (more : List ℕ) (line start : ℕ) (top : Open) (below : List Open) (tag : Tag) (j : Reader) → list_any (bytes_eq name) tag.names ≡ true → is_name_byte byte ≡ false → run (in_name name line start top below tag j) (byte ∷ more) ≡ Err (fault kinds.BadMarkup start)
unfolding run plain in_attribute_name add_name
again_at name byte more line start top below tag j again unnamed = rw (unnamed, again) refl

no_equals_now : (name : List ℕ) (byte line start : ℕ) (top : Open) (below : List Open) (tag : Tag) (j : Reader) → list_any (bytes_eq name) tag.names ≡ false → is_name_byte byte ≡ false → is_white byte ≡ false → ¬ (byte ≡ 61) → run (in_name name line start top below tag j) (byte ∷ []) ≡ Err (fault kinds.BadMarkup start)
unfolding run plain in_attribute_name add_name after_attribute_name
no_equals_now name byte line start top below tag j new unnamed dark a = rw (unnamed, new, dark, ne_eqb byte 61 a) refl

no_equals_later : (byte line start : ℕ) (top : Open) (below : List Open) (tag : Tag) (j : Reader) → is_white byte ≡ false → ¬ (byte ≡ 61) → run (tagged modes.AfterAttributeName line start top below tag j) (byte ∷ []) ≡ Err (fault kinds.BadMarkup start)
unfolding run plain after_attribute_name
no_equals_later byte line start top below tag j dark a = rw (dark, ne_eqb byte 61 a) refl

no_quote_at : (byte line start : ℕ) (top : Open) (below : List Open) (tag : Tag) (j : Reader) → is_white byte ≡ false → quote_of byte ≡ None → run (tagged modes.BeforeValue line start top below tag j) (byte ∷ []) ≡ Err (fault kinds.BadMarkup start)
unfolding run plain before_value
no_quote_at byte line start top below tag j dark none = rw (dark, none) refl

bracket_at : (quote : Quote) (line start : ℕ) (top : Open) (below : List Open) (tag : Tag) (j : Reader) → run (tagged (modes.Value quote) line start top below tag j) (60 ∷ []) ≡ Err (fault kinds.BadMarkup start)
unfolding run plain in_value
bracket_at quotes.Single line start top below tag j = refl
bracket_at quotes.Double line start top below tag j = refl

-- ---- behind the name of an attribute

space_ends : (space : List ℕ) → IsSpace space → (byte : ℕ) (more : List ℕ) → StandsBehind space byte → EndsAName (space ++ byte ∷ more)
space_ends [] s byte more (inl unnamed) = record { byte = byte; more = more; split = refl; ends = unnamed }
space_ends [] s byte more (inr some) = absurd (some refl)
space_ends (white ∷ space) s byte more h = record { byte = white; more = space ++ byte ∷ more; split = refl; ends = white_unnamed white s.0 }

again_fails : (name bytes : List ℕ) (line start : ℕ) (top : Open) (below : List Open) (tag : Tag) (j : Reader) → list_any (bytes_eq name) tag.names ≡ true → EndsAName bytes → run (in_name name line start top below tag j) bytes ≡ Err (fault kinds.BadMarkup start)
again_fails name bytes line start top below tag j again e = ap (run (in_name name line start top below tag j)) e.split ∙ again_at name e.byte e.more line start top below tag j again e.ends

no_equals_behind : (space : List ℕ) → IsSpace space → (name : List ℕ) (byte line start : ℕ) (top : Open) (below : List Open) (tag : Tag) (j : Reader) → list_any (bytes_eq name) tag.names ≡ false → StandsBehind space byte → is_white byte ≡ false → ¬ (byte ≡ 61)
    → run (in_name name line start top below tag j) (space ++ byte ∷ []) ≡ Err (fault kinds.BadMarkup start)
unfolding plain after_attribute_name
no_equals_behind [] s name byte line start top below tag j new (inl unnamed) dark a = no_equals_now name byte line start top below tag j new unnamed dark a
no_equals_behind [] s name byte line start top below tag j new (inr some) dark a = absurd (some refl)
no_equals_behind (white ∷ space) s name byte line start top below tag j new behind dark a =
    let k = record j { piece = [] } in
    run_step (in_name name line start top below tag j) _ white (space ++ byte ∷ []) (white_now name white line start top below tag j new s.0)
    ∙ pass is_white (λ n. tagged modes.AfterAttributeName n start top below (naming tag name) k) (λ n b blank. rw blank refl) space s.1 (line_after line white) (byte ∷ [])
    ∙ no_equals_later byte (line_at (line_after line white) space) start top below (naming tag name) k dark a

-- a name that comes twice, or else what follows it
either_way : (name bytes : List ℕ) (line start : ℕ) (top : Open) (below : List Open) (tag : Tag) (j : Reader) → EndsAName bytes
    → (list_any (bytes_eq name) tag.names ≡ false → run (in_name name line start top below tag j) bytes ≡ Err (fault kinds.BadMarkup start)) → run (in_name name line start top below tag j) bytes ≡ Err (fault kinds.BadMarkup start)
either_way name bytes line start top below tag j e fails = elim (cases_Bool (list_any (bytes_eq name) tag.names)) [
  | inl again ↦ again_fails name bytes line start top below tag j again e
  | inr new ↦ fails new
]

is_again : (names : List (List ℕ)) (name : List ℕ) → AreDistinct names → ¬ (AreDistinct (names ++ name ∷ [])) → list_any (bytes_eq name) names ≡ true
is_again names name d not_distinct = elim (cases_Bool (list_any (bytes_eq name) names)) [
  | inl again ↦ again
  | inr new ↦ absurd (not_distinct (distinct_last names name d new))
]

-- up to the value of an attribute
pub before_value-run : (name before after : List ℕ) → IsSpace before → IsSpace after → (line start : ℕ) (top : Open) (below : List Open) (tag : Tag) (j : Reader) (rest : List ℕ) → list_any (bytes_eq name) tag.names ≡ false
    → run (in_name name line start top below tag j) (before ++ (61 ∷ after ++ rest)) ≡ run (tagged modes.BeforeValue (line_at (line_at line before) after) start top below (naming tag name) (record j { piece = [] })) rest
unfolding plain before_value
before_value-run name before after b c line start top below tag j rest new =
    equals-run before b name line start top below tag j (after ++ rest) new
    ∙ pass is_white (λ l. tagged modes.BeforeValue l start top below (naming tag name) (record j { piece = [] })) (λ l byte white. rw white refl) after c (line_at line before) rest

in_value_fails : (name before after written value : List ℕ) (quote : Quote) → IsSpace before → IsSpace after → IsValue quote written value → (line start : ℕ) (top : Open) (below : List Open) (tag : Tag) (j : Reader) → list_any (bytes_eq name) tag.names ≡ false
    → run (in_name name line start top below tag j) (before ++ (61 ∷ after ++ (quote_byte quote ∷ written ++ 60 ∷ []))) ≡ Err (fault kinds.BadMarkup start)
in_value_fails name before after written value quote b c v line start top below tag j new =
    let k = record j { piece = [] } in
    let l = line_at (line_at line before) after in
    let inside = value-goes quote written value v l start top below (naming tag name) k in
    before_value-run name before after b c line start top below tag j (quote_byte quote ∷ written ++ 60 ∷ []) new
    ∙ run_step (tagged modes.BeforeValue l start top below (naming tag name) k) _ (quote_byte quote) (written ++ 60 ∷ []) (quote_opens quote l start top below (naming tag name) k)
    ∙ inside.1 (60 ∷ [])
    ∙ bracket_at quote (line_at l written) start top below _ inside.0

-- behind white space
pub in_gap : (gap name bytes : List ℕ) → IsGap gap → IsName name → (line start : ℕ) (top : Open) (below : List Open) (tag : Tag) (j : Reader) → run (tagged (modes.Tag false) line start top below tag j) (gap ++ (name ++ bytes)) ≡ run (in_name name (line_at (line_at line gap) name) start top below tag j) bytes
in_gap gap name bytes g n line start top below tag j =
    gap-run gap g line start false top below tag j (name ++ bytes) ∙ attribute_name-run name n (line_at line gap) start top below tag j bytes

rest_fails : (names : List (List ℕ)) (rest : List ℕ) → AreDistinct names → IsBadRest names rest → (line start : ℕ) (top : Open) (below : List Open) (tag : Tag) (j : Reader) → tag.names ≡ names → run (tagged (modes.Tag false) line start top below tag j) rest ≡ Err (fault kinds.BadMarkup start)
rest_fails names rest d (IsBadRest.no_space byte some dark a b) line start top below tag j e = no_space_at byte line start top below tag j dark a b
rest_fails names rest d (IsBadRest.no_name space byte g dark a b unnamed) line start top below tag j e =
    gap-run space g line start false top below tag j (byte ∷ []) ∙ no_name_at byte (line_at line space) start top below tag j unnamed dark a b
rest_fails names rest d (IsBadRest.no_end space byte s a) line start top below tag j e =
    let l = line_at line space in
    space-run space s line start top below tag j (47 ∷ byte ∷ [])
    ∙ run_step (tagged (modes.Tag (is_some_space space)) l start top below tag j) _ 47 (byte ∷ []) (slash_step (is_some_space space) l start top below tag j)
    ∙ no_end_at byte l start top below tag j a
rest_fails names rest d (IsBadRest.twice gap name byte g n again unnamed) line start top below tag j e =
    in_gap gap name (byte ∷ []) g n line start top below tag j
    ∙ again_at name byte [] (line_at (line_at line gap) name) start top below tag j (ap (list_any (bytes_eq name)) e ∙ is_again names name d again) unnamed
rest_fails names rest d (IsBadRest.no_equals gap name space byte g n s behind dark a) line start top below tag j e =
    let l = line_at (line_at line gap) name in
    in_gap gap name (space ++ byte ∷ []) g n line start top below tag j
    ∙ either_way name (space ++ byte ∷ []) l start top below tag j (space_ends space s byte [] behind) (λ new. no_equals_behind space s name byte l start top below tag j new behind dark a)
rest_fails names rest d (IsBadRest.no_quote gap name before after byte g n b c dark none) line start top below tag j e =
    let l = line_at (line_at line gap) name in
    in_gap gap name (before ++ (61 ∷ after ++ byte ∷ [])) g n line start top below tag j
    ∙ either_way name (before ++ (61 ∷ after ++ byte ∷ [])) l start top below tag j (space_ends before b 61 (after ++ byte ∷ []) (inl refl))
    (λ new. before_value-run name before after b c l start top below tag j (byte ∷ []) new ∙ no_quote_at byte (line_at (line_at l before) after) start top below (naming tag name) (record j { piece = [] }) dark none)
rest_fails names rest d (IsBadRest.bracket gap name before after written value quote g n b c v) line start top below tag j e =
    let l = line_at (line_at line gap) name in
    let bytes = before ++ (61 ∷ after ++ (quote_byte quote ∷ written ++ 60 ∷ [])) in
    in_gap gap name bytes g n line start top below tag j
    ∙ either_way name bytes l start top below tag j (space_ends before b 61 (after ++ (quote_byte quote ∷ written ++ 60 ∷ [])) (inl refl)) (λ new. in_value_fails name before after written value quote b c v l start top below tag j new)

-- ---- the name of the tag ends

bad_ends : (names : List (List ℕ)) (rest : List ℕ) → IsBadRest names rest → EndsAName rest ⊎ ¬ (names ≡ [])
bad_ends names rest (IsBadRest.no_space byte (inl unnamed) dark a b) = inl (record { byte = byte; more = []; split = refl; ends = unnamed })
bad_ends names rest (IsBadRest.no_space byte (inr some) dark a b) = inr some
bad_ends names rest (IsBadRest.no_name space byte g dark a b unnamed) = inl (white_ends space g (byte ∷ []))
bad_ends names rest (IsBadRest.no_end space byte s a) = inl (space_ends space s 47 (byte ∷ []) (inl refl))
bad_ends names rest (IsBadRest.twice gap name byte g n again unnamed) = inl (white_ends gap g (name ++ byte ∷ []))
bad_ends names rest (IsBadRest.no_equals gap name space byte g n s behind dark a) = inl (white_ends gap g (name ++ (space ++ byte ∷ [])))
bad_ends names rest (IsBadRest.no_quote gap name before after byte g n b c dark none) = inl (white_ends gap g (name ++ (before ++ (61 ∷ after ++ byte ∷ []))))
bad_ends names rest (IsBadRest.bracket gap name before after written value quote g n b c v) = inl (white_ends gap g (name ++ (before ++ (61 ∷ after ++ (quote_byte quote ∷ written ++ 60 ∷ [])))))

pub written_ends : (written rest : List ℕ) (list : List Attribute) (names : List (List ℕ)) → AreAttributes written list → names ≡ names_of list → EndsAName rest ⊎ ¬ (names ≡ []) → EndsAName (written ++ rest)
written_ends written rest list names AreAttributes.nothing e (inl ends) = ends
written_ends written rest list names AreAttributes.nothing e (inr some) = absurd (some e)
written_ends written rest list names (AreAttributes.more gap first others a more g f r) e h =
    subst EndsAName (sym (append_assoc gap (first ++ others) rest)) (white_ends gap g ((first ++ others) ++ rest))

-- ---- the text

pub record LedRest (front tag rest : List ℕ) (names : List (List ℕ)) : Type 0 where
  pub line : ℕ
  pub top : Open
  pub below : List Open
  pub tag_read : Tag
  pub like : Reader
  pub named : tag_read.names ≡ names
  pub runs : run nothing_read (front ++ tag) ≡ run (tagged (modes.Tag false) line (line_behind 1 front) top below tag_read like) rest

pub led_rest : (text : List ℕ) (line : ℕ) (around names : List (List ℕ)) (tag own rest : List ℕ) → IsUtf8 text → (there : TagStandsAt text line around tag own names rest) → EndsAName (there.is_begun.written ++ rest) → LedRest there.stands.front tag rest names
led_rest text line around names tag own rest u there ends =
    let s = there.stands in
    let b = there.is_begun in
    let inside = own ++ (b.written ++ rest) in
    let front_u = cut_front s.front (inside ++ s.after) 60 (omega arith) (subst IsUtf8 (s.whole ∙ ap (λ (xs : List ℕ). s.front ++ (xs ++ s.after)) b.whole) u) in
    let l = led_tag s.front around front_u s.is_front there.first in
    let list = b.attributes in
    let few : length l.below < 64 = omega (arith, there.few, count_names l.top l.below, ap length l.named) in
    let first = line_behind 1 s.front in
    let tag_run = behind_start own b.written rest list b.are (subst AreDistinct b.named b.distinct) b.is_name b.begins first l.top l.below l.like few l.closed ends in
    let begins = own_begins own (b.written ++ rest) b.begins in
    record {
      line = line_at (line_at first own) b.written;
      top = l.top;
      below = l.below;
      tag_read = with_attributes (named_tag own) list;
      like = tag_run.0;
      named = names_with (named_tag own) list ∙ sym b.named;
      runs =
          ap (λ (xs : List ℕ). run nothing_read (s.front ++ xs)) b.whole
          ∙ ap (λ (xs : List ℕ). run nothing_read (s.front ++ 60 ∷ xs)) begins.split
          ∙ l.runs begins.byte begins.more begins.other
          ∙ ap (λ (xs : List ℕ). run (at modes.Content first l.top l.below l.like) (60 ∷ xs)) (sym begins.split)
          ∙ tag_run.1;
    }

pub bad_tag_given : (bytes : List ℕ) (line : ℕ) (around names : List (List ℕ)) (tag own rest : List ℕ) → IsUtf8 bytes → TagStandsAt (without_mark bytes) line around tag own names rest → IsBadRest names rest → elements_of bytes ≡ Err (fault kinds.BadMarkup line)
bad_tag_given bytes line around names tag own rest u there bad =
    let s = there.stands in
    let b = there.is_begun in
    let r = led_rest (without_mark bytes) line around names tag own rest (without_mark-IsUtf8 bytes u) there (written_ends b.written rest b.attributes names b.are b.named (bad_ends names rest bad)) in
    given_by bytes (s.front ++ tag) s.after (fault kinds.BadMarkup line) u
    (s.whole ∙ sym (append_assoc s.front tag s.after)) (clean_append s.front tag (front_clean s.front around s.is_front) s.clean)
    (r.runs ∙ rest_fails names rest b.distinct bad r.line (line_behind 1 s.front) r.top r.below r.tag_read r.like r.named ∙ ap (λ n. Err (fault kinds.BadMarkup n)) (sym s.is_line))
