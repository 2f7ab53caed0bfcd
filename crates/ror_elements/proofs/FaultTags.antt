-- A byte in a tag, behind what was read.
use Rattle.std.proofs.Common.{◌≡◌, ℕ, ◌<◌, Bool, true, false, not, List, [], ◌∷◌, ◌++◌, append_assoc, append-nil, length, Option, Some, None, Result, Ok, refl, sym, ap, subst, ◌∙◌, arith, inl, inr}
use Rattle.std.specs.Prelude.{◌⊎◌, ◌==◌, ◌&&◌, nat_le}
use Rattle.std.specs.List.{list_any}
use Rattle.std.specs.Str.{bytes_eq}
use Rattle.std.proofs.lemmas.Bool.{eqb-true, eqb-false, not-false, leb-true, leb-false}
use Rattle.std.proofs.lemmas.Slice.Eq.{bytes_eq-Decides}
use Rattle.ror_text.specs.Reading.{◌>>=◌, refuse}
use Rattle.ror_elements.specs.declared.element.ElementFault.{ElementFault}
use Rattle.ror_elements.specs.declared.mode.Mode.{Mode}
use Rattle.ror_elements.specs.declared.mode.Mode.TheVariants as modes
use Rattle.ror_elements.specs.declared.mode.Quote.{Quote}
use Rattle.ror_elements.specs.declared.mode.Quote.TheVariants as quotes
use Rattle.ror_elements.specs.declared.open.Open.{Open}
use Rattle.ror_elements.specs.declared.reader.Reader.{Reader}
use Rattle.ror_elements.specs.declared.reader.Tag.{Tag}
use Rattle.ror_elements.specs.Grammar.{IsName, IsSpace, BeginsTag, IsValue, Attribute, IsAttribute, AreAttributes, AreDistinct, IsTag, value_of}
use Rattle.ror_elements.specs.Kept.{is_kept}
use Rattle.ror_elements.specs.Laws.{IsReached}
use Rattle.ror_elements.specs.Marks.{is_white, is_name_byte, local_name}
use Rattle.ror_elements.specs.Mode.{quote_of, quote_byte}
use Rattle.ror_elements.specs.Open.{is_none}
use Rattle.ror_elements.specs.Reader.{empty_tag}
use Rattle.ror_elements.specs.Refusals.{StandsBehind, IsBadRest, IsBadMarkup}
use Rattle.ror_elements.specs.Tags.{root_name, id_name, opened, is_bad_root, open_element, close_in, close, after_end_name, in_end_name, begin_attribute, in_tag, in_start_name, in_empty_tag, add_name, after_attribute_name, in_attribute_name, quoted, before_value, end_value, add_byte, in_value}
use Rattle.ror_elements.proofs.NameLemmas.{names, which, some_same}
use Rattle.ror_elements.proofs.FaultWords.{AtSpace, IsFirstKept, Stacked, open_names, is_closed, Begun, Ended, BehindEnd, Tagged, InTag, AtSlash, InName, Naming, BehindName, BehindEquals, InValue, AtMode, Holds, Misnames, Misplaces, Fails, Goes, when, past, not-true, more_names, some_more, longer_name, some_name, begins_more, longer, refers}
use Rattle.ror_elements.proofs.ListedLemmas.{both}
use Rattle.ror_elements.proofs.FaultValues.{more_white, distinct_last, twice_last, no_test, attributes_last, names_last, tagged_more, tagged_as, naming_more, in_value_more, value_more, bad_rest, value_stays}

-- ---- an element opens

root_kept : (top : Open) (below : List Open) (name : List ℕ) → Stacked top below → (is_none below && not (bytes_eq (local_name name) root_name)) ≡ false → IsFirstKept (top.kept && is_kept top.path (local_name name)) below
unfolding is_kept
root_kept top [] name s e = rw (s.0, s.1, (bytes_eq-Decides (local_name name) root_name).0 (not-false (bytes_eq (local_name name) root_name) e)) refl
root_kept top (around ∷ outer) name s e = tt

-- the tag ends with these bytes
tag_ends : (seen : List ℕ) (start : ℕ) (top : Open) (below : List Open) (name : List ℕ) (names : List (List ℕ)) (space ending : List ℕ) → IsSpace space → (ending ≡ 62 ∷ []) ⊎ (ending ≡ 47 ∷ 62 ∷ []) → Tagged seen start top below name names (space ++ ending)
    → (is_none below && not (bytes_eq (local_name name) root_name)) ≡ true → Misnames seen start
tag_ends seen start top below name names space ending s is_ending t e =
    let is = t.is_begun in
    let bad = both (is_none below) (not (bytes_eq (local_name name) root_name)) e in
    record {
      ending = ending;
      bytes = t.bytes;
      name = name;
      id = value_of id_name is.attributes;
      top = top;
      below = below;
      begun = t.begun;
      outside = bad.0;
      first = t.first;
      is_ending = is_ending;
      is_tag = subst (λ (xs : List ℕ). IsTag ending xs name (value_of id_name is.attributes)) (sym is.whole) (IsTag.tag name is.written space is.attributes is.is_name is.begins is.are (subst AreDistinct is.named is.distinct) s);
      other = λ same. no_test (bytes_eq (local_name name) root_name) (not-true (bytes_eq (local_name name) root_name) bad.1) ((bytes_eq-Decides (local_name name) root_name).1 same);
    }

open_element-goes : (seen : List ℕ) (r : Reader) (space ending : List ℕ) → IsSpace space → (ending ≡ 62 ∷ []) ⊎ (ending ≡ 47 ∷ 62 ∷ []) → Tagged seen r.start r.top r.below r.tag.name r.tag.names (space ++ ending) → Stacked r.top r.below → Goes seen (open_element r)
unfolding open_element opened is_bad_root
open_element-goes seen r space ending w is_ending t s =
    past seen _ (is_bad_root r) _ (tag_ends seen r.start r.top r.below r.tag.name r.tag.names space ending w is_ending t)
    (λ good. record { stacked = (t.is_begun.is_name, root_kept r.top r.below r.tag.name s good, s); here = λ out. absurd cc })

-- ---- elements close

close_in-goes : (seen : List ℕ) (r : Reader) (byte : ℕ) (below : List Open) → (byte == 62) ≡ true → is_none below ≡ false → Stacked r.top below → Goes (seen ++ byte ∷ []) (close_in r below)
close_in-goes seen r byte [] ends inside s = absurd cc
close_in-goes seen r byte (around ∷ outer) ends inside s = record {
  stacked = when (λ (x : Open). Stacked x outer) r.top.kept _ _ (λ _. s.2) (λ _. s.2);
  here = λ _. inr (seen, byte, refl, subst (λ n. n < 128) (sym (eqb-true byte 62 ends)) (omega arith));
}

close-goes : (seen : List ℕ) (r : Reader) (byte : ℕ) → (byte == 62) ≡ true → is_none r.below ≡ false → Stacked r.top r.below → Goes (seen ++ byte ∷ []) (close r)
unfolding close
close-goes seen r byte ends inside s = close_in-goes seen r byte r.below ends inside s

bad_end : (seen : List ℕ) (start : ℕ) (top : Open) (below : List Open) (space : List ℕ) (byte : ℕ) → is_none below ≡ false → Begun seen start top below (60 ∷ 47 ∷ top.name ++ (space ++ byte ∷ [])) → IsSpace space → StandsBehind space byte → is_white byte ≡ false → ¬ (byte ≡ 62) → Misplaces seen start
bad_end seen start top [] space byte inside b w behind dark other = absurd cc
bad_end seen start top (around ∷ outer) space byte inside b w behind dark other = Misplaces.markup top (around ∷ outer) _ b (IsBadMarkup.end_unended top.name space (open_names around outer) byte w behind dark other)

after_end_name-goes : (seen : List ℕ) (r : Reader) (space : List ℕ) (byte : ℕ) → Begun seen r.start r.top r.below (60 ∷ 47 ∷ r.top.name ++ space) → IsSpace space → StandsBehind space byte → is_none r.below ≡ false → Stacked r.top r.below → Goes (seen ++ byte ∷ []) (after_end_name r byte)
unfolding after_end_name
after_end_name-goes seen r space byte b w behind inside s =
    let more : Begun (seen ++ byte ∷ []) r.start r.top r.below (60 ∷ 47 ∷ r.top.name ++ (space ++ byte ∷ [])) =
    subst (λ (xs : List ℕ). Begun (seen ++ byte ∷ []) r.start r.top r.below (60 ∷ 47 ∷ xs)) (append_assoc r.top.name space (byte ∷ [])) (longer seen r.start r.top r.below (60 ∷ 47 ∷ r.top.name ++ space) byte b)
    in
    when (Goes (seen ++ byte ∷ [])) (is_white byte) _ _
    (λ white. record { stacked = s; here = record { space = space ++ byte ∷ []; begun = more; is_space = more_white space byte w white; some = some_more space byte; inside = inside } })
    (λ dark. past (seen ++ byte ∷ []) _ (not (byte == 62)) _
    (λ other. bad_end (seen ++ byte ∷ []) r.start r.top r.below space byte inside more w behind dark (eqb-false byte 62 (not-true (byte == 62) other)))
    (λ ends. close-goes seen r byte (not-false (byte == 62) ends) inside s))

pub behind_end-goes : (seen : List ℕ) (r : Reader) (byte : ℕ) → BehindEnd seen r.start r.top r.below → Stacked r.top r.below → Goes (seen ++ byte ∷ []) (after_end_name r byte)
behind_end-goes seen r byte b s = after_end_name-goes seen r b.space byte b.begun b.is_space (inr b.some) b.inside s

pub in_end_name-goes : (seen : List ℕ) (r : Reader) (byte : ℕ) → r.mode ≡ modes.EndName → Ended seen r.start r.top r.below r.piece → Stacked r.top r.below → Goes (seen ++ byte ∷ []) (in_end_name r byte)
unfolding in_end_name
in_end_name-goes seen r byte is b s =
    let more = longer seen r.start r.top r.below (60 ∷ 47 ∷ r.piece) byte b.0 in
    when (Goes (seen ++ byte ∷ [])) (is_name_byte byte) _ _
    (λ named. record { stacked = s; here = subst (λ (m : Mode). AtMode m (seen ++ byte ∷ []) r.start r.reference_line (r.piece ++ byte ∷ []) r.tag r.declaration r.top r.below) (sym is) (more, more_names r.piece byte b.1 named, b.2) })
    (λ unnamed. past (seen ++ byte ∷ []) _ (is_none r.piece) _
    (λ none. Misplaces.markup r.top r.below (60 ∷ 47 ∷ byte ∷ []) (subst (λ (xs : List ℕ). Begun (seen ++ byte ∷ []) r.start r.top r.below (60 ∷ 47 ∷ xs ++ byte ∷ [])) (nothing r.piece none) more) (IsBadMarkup.end_unnamed (open_names r.top r.below) byte unnamed))
    (λ some. past (seen ++ byte ∷ []) _ (not (bytes_eq r.piece r.top.name)) _
    (λ other. record {
      name = r.piece;
      next = byte;
      top = r.top;
      below = r.below;
      begun = more;
      inside = b.2;
      is_name = (b.1, some_name r.piece some);
      ends = unnamed;
      other = λ same. no_test (bytes_eq r.piece r.top.name) (not-true (bytes_eq r.piece r.top.name) other) ((bytes_eq-Decides r.piece r.top.name).1 same);
    })
    (λ same. after_end_name-goes seen r [] byte
    (subst (λ (xs : List ℕ). Begun seen r.start r.top r.below (60 ∷ 47 ∷ xs)) ((bytes_eq-Decides r.piece r.top.name).0 (not-false (bytes_eq r.piece r.top.name) same) ∙ sym (append-nil r.top.name)) b.0)
    tt (inl unnamed) b.2 s)))
  where
    nothing : (name : List ℕ) → is_none name ≡ true → name ≡ []
    nothing [] e = refl
    nothing (first ∷ name) e = absurd cc

-- ---- start tags

begin_attribute-goes : (spaced : Bool) (seen : List ℕ) (r : Reader) (byte : ℕ) → AtSpace spaced seen r.start r.top r.below r.tag → (spaced ≡ false → (is_name_byte byte ≡ false) ⊎ ¬ (r.tag.names ≡ [])) → is_white byte ≡ false → ¬ (byte ≡ 62) → ¬ (byte ≡ 47) → Stacked r.top r.below → Goes (seen ++ byte ∷ []) (begin_attribute spaced r byte)
unfolding begin_attribute
begin_attribute-goes spaced seen r byte t behind dark no_end no_slash s =
    let more = tagged_more seen r.start r.top r.below r.tag.name r.tag.names t.space byte t.tagged in
    past (seen ++ byte ∷ []) _ (not spaced) _
    (λ unspaced. bad_rest (seen ++ byte ∷ []) r.start r.top r.below r.tag.name r.tag.names (byte ∷ [])
    (subst (λ (xs : List ℕ). Tagged (seen ++ byte ∷ []) r.start r.top r.below r.tag.name r.tag.names (xs ++ byte ∷ [])) (t.none (not-true spaced unspaced)) more)
    (IsBadRest.no_space byte (behind (not-true spaced unspaced)) dark no_end no_slash))
    (λ is. past (seen ++ byte ∷ []) _ (not (is_name_byte byte)) _
    (λ unnamed. bad_rest (seen ++ byte ∷ []) r.start r.top r.below r.tag.name r.tag.names (t.space ++ byte ∷ []) more
    (IsBadRest.no_name t.space byte (t.is_space, t.some (not-false spaced is)) dark no_end no_slash (not-true (is_name_byte byte) unnamed)))
    (λ named. record {
      stacked = s;
      here = record { gap = t.space; tagged = more; is_gap = (t.is_space, t.some (not-false spaced is)); is_name = ((not-false (is_name_byte byte) named, tt), λ none. absurd cc) };
    }))

at_space-goes : (spaced : Bool) (seen : List ℕ) (r : Reader) (byte : ℕ) → AtSpace spaced seen r.start r.top r.below r.tag → (spaced ≡ false → (is_name_byte byte ≡ false) ⊎ ¬ (r.tag.names ≡ [])) → Stacked r.top r.below → Goes (seen ++ byte ∷ []) (in_tag spaced r byte)
unfolding in_tag
at_space-goes spaced seen r byte t behind s =
    let more = tagged_more seen r.start r.top r.below r.tag.name r.tag.names t.space byte t.tagged in
    when (Goes (seen ++ byte ∷ [])) (is_white byte) _ _
    (λ white. record { stacked = s; here = record { space = t.space ++ byte ∷ []; tagged = more; is_space = more_white t.space byte t.is_space white; some = λ _. some_more t.space byte; none = λ e. absurd cc; behind = λ e. absurd cc } })
    (λ dark. when (Goes (seen ++ byte ∷ [])) (byte == 62) _ _
    (λ ends. open_element-goes (seen ++ byte ∷ []) r t.space (62 ∷ []) t.is_space (inl refl)
    (subst (λ n. Tagged (seen ++ byte ∷ []) r.start r.top r.below r.tag.name r.tag.names (t.space ++ n ∷ [])) (eqb-true byte 62 ends) more) s)
    (λ no_end. when (Goes (seen ++ byte ∷ [])) (byte == 47) _ _
    (λ slash. record { stacked = s; here = record { space = t.space; tagged = subst (λ n. Tagged (seen ++ byte ∷ []) r.start r.top r.below r.tag.name r.tag.names (t.space ++ n ∷ [])) (eqb-true byte 47 slash) more; is_space = t.is_space } })
    (λ no_slash. begin_attribute-goes spaced seen r byte t behind dark (eqb-false byte 62 no_end) (eqb-false byte 47 no_slash) s)))

pub in_tag-goes : (spaced : Bool) (seen : List ℕ) (r : Reader) (byte : ℕ) → InTag spaced seen r.start r.top r.below r.tag → Stacked r.top r.below → Goes (seen ++ byte ∷ []) (in_tag spaced r byte)
in_tag-goes spaced seen r byte t s = at_space-goes spaced seen r byte (record { space = t.space; tagged = t.tagged; is_space = t.is_space; some = t.some; none = t.none }) (λ e. inr (t.behind e)) s

pub in_start_name-goes : (seen : List ℕ) (r : Reader) (byte : ℕ) → r.mode ≡ modes.StartName → Begun seen r.start r.top r.below (60 ∷ r.piece) → IsName r.piece → BeginsTag r.piece → is_closed r.top r.below ≡ false → Stacked r.top r.below → Goes (seen ++ byte ∷ []) (in_start_name r byte)
unfolding in_start_name
in_start_name-goes seen r byte is b name first closed s =
    let more = longer seen r.start r.top r.below (60 ∷ r.piece) byte b in
    when (Goes (seen ++ byte ∷ [])) (is_name_byte byte) _ _
    (λ named. record { stacked = s; here = subst (λ (m : Mode). AtMode m (seen ++ byte ∷ []) r.start r.reference_line (r.piece ++ byte ∷ []) r.tag r.declaration r.top r.below) (sym is) (more, longer_name r.piece byte name.0 named, begins_more r.piece byte first, closed) })
    (λ unnamed. past (seen ++ byte ∷ []) _ (nat_le 64 (length r.below)) _
    (λ deep. record { name = r.piece; next = byte; top = r.top; below = r.below; begun = more; is_name = name; begins = first; ends = unnamed; many = leb-true 64 (length r.below) deep })
    (λ few. at_space-goes false seen (record r { tag = record empty_tag { name = r.piece }; piece = [] }) byte (record { space = []; tagged = tagged (leb-false 64 (length r.below) few); is_space = tt; some = λ e. absurd cc; none = λ _. refl }) (λ _. inl unnamed) s))
  where
    tagged : length r.below < 64 → Tagged seen r.start r.top r.below r.piece [] []
    tagged few = record {
      bytes = 60 ∷ r.piece;
      begun = b;
      is_begun = record { written = []; attributes = []; whole = ap (λ (xs : List ℕ). 60 ∷ xs) (sym (append-nil r.piece)); is_name = name; begins = first; are = AreAttributes.nothing; distinct = tt; named = refl };
      few = few;
      first = closed;
    }

into_goes : (seen : List ℕ) (f : ElementFault) (test : Bool) (x : Reader) (rest : Reader → Result Reader ElementFault) → Goes seen (refuse f test >>= λ _. Ok x) → (test ≡ false → Goes seen (rest x)) → Goes seen ((refuse f test >>= λ _. Ok x) >>= rest)
into_goes seen f true x rest h g = h
into_goes seen f false x rest h g = g refl

pub in_empty_tag-goes : (seen : List ℕ) (r : Reader) (byte : ℕ) → AtSlash seen r.start r.top r.below r.tag → Stacked r.top r.below → Goes (seen ++ byte ∷ []) (in_empty_tag r byte)
unfolding in_empty_tag open_element opened is_bad_root
in_empty_tag-goes seen r byte t s =
    let more : Tagged (seen ++ byte ∷ []) r.start r.top r.below r.tag.name r.tag.names (t.space ++ 47 ∷ byte ∷ []) =
    tagged_as (seen ++ byte ∷ []) r.start r.top r.below r.tag.name r.tag.names _ _ (append_assoc t.space (47 ∷ []) (byte ∷ [])) (tagged_more seen r.start r.top r.below r.tag.name r.tag.names (t.space ++ 47 ∷ []) byte t.tagged)
    in
    past (seen ++ byte ∷ []) _ (not (byte == 62)) _
    (λ other. bad_rest (seen ++ byte ∷ []) r.start r.top r.below r.tag.name r.tag.names (t.space ++ 47 ∷ byte ∷ []) more (IsBadRest.no_end t.space byte t.is_space (eqb-false byte 62 (not-true (byte == 62) other))))
    (λ ends.
    let whole : Tagged (seen ++ byte ∷ []) r.start r.top r.below r.tag.name r.tag.names (t.space ++ 47 ∷ 62 ∷ []) =
    subst (λ n. Tagged (seen ++ byte ∷ []) r.start r.top r.below r.tag.name r.tag.names (t.space ++ 47 ∷ n ∷ [])) (eqb-true byte 62 (not-false (byte == 62) ends)) more
    in
    into_goes (seen ++ byte ∷ []) _ (is_bad_root r) _ close (open_element-goes (seen ++ byte ∷ []) r t.space (47 ∷ 62 ∷ []) t.is_space (inr refl) whole s)
    (λ good. close-goes seen _ byte (not-false (byte == 62) ends) refl (t.tagged.is_begun.is_name, root_kept r.top r.below r.tag.name s good, s)))

-- ---- attributes

after_attribute_name-goes : (seen : List ℕ) (r : Reader) (space : List ℕ) (byte : ℕ) → Naming seen r.start r.top r.below r.tag space → IsSpace space → StandsBehind space byte → Stacked r.top r.below → Goes (seen ++ byte ∷ []) (after_attribute_name r byte)
unfolding after_attribute_name
after_attribute_name-goes seen r space byte n w behind s =
    let more = naming_more seen r.start r.top r.below r.tag space byte n in
    when (Goes (seen ++ byte ∷ [])) (is_white byte) _ _
    (λ white. record { stacked = s; here = record { space = space ++ byte ∷ []; naming = more; is_space = more_white space byte w white; some = some_more space byte } })
    (λ dark. past (seen ++ byte ∷ []) _ (not (byte == 61)) _
    (λ other. bad_rest (seen ++ byte ∷ []) r.start r.top r.below r.tag.name more.names _ more.tagged
    (IsBadRest.no_equals more.gap more.name space byte more.is_gap more.is_name w behind dark (eqb-false byte 61 (not-true (byte == 61) other))))
    (λ equals. record {
      stacked = s;
      here = record { before = space; after = []; naming = subst (λ b. Naming (seen ++ byte ∷ []) r.start r.top r.below r.tag (space ++ b ∷ [])) (eqb-true byte 61 (not-false (byte == 61) equals)) more; is_before = w; is_after = tt };
    }))

pub behind_name-goes : (seen : List ℕ) (r : Reader) (byte : ℕ) → BehindName seen r.start r.top r.below r.tag → Stacked r.top r.below → Goes (seen ++ byte ∷ []) (after_attribute_name r byte)
behind_name-goes seen r byte n s = after_attribute_name-goes seen r n.space byte n.naming n.is_space (inr n.some) s

pub in_attribute_name-goes : (seen : List ℕ) (r : Reader) (byte : ℕ) → r.mode ≡ modes.AttributeName → InName r.piece seen r.start r.top r.below r.tag → Stacked r.top r.below → Goes (seen ++ byte ∷ []) (in_attribute_name r byte)
unfolding in_attribute_name add_name
in_attribute_name-goes seen r byte is n s =
    let more : Tagged (seen ++ byte ∷ []) r.start r.top r.below r.tag.name r.tag.names (n.gap ++ (r.piece ++ byte ∷ [])) =
    tagged_as (seen ++ byte ∷ []) r.start r.top r.below r.tag.name r.tag.names _ _ (append_assoc n.gap r.piece (byte ∷ [])) (tagged_more seen r.start r.top r.below r.tag.name r.tag.names (n.gap ++ r.piece) byte n.tagged)
    in
    when (Goes (seen ++ byte ∷ [])) (is_name_byte byte) _ _
    (λ named. record { stacked = s; here = subst (λ (m : Mode). AtMode m (seen ++ byte ∷ []) r.start r.reference_line (r.piece ++ byte ∷ []) r.tag r.declaration r.top r.below) (sym is) (record { gap = n.gap; tagged = more; is_gap = n.is_gap; is_name = longer_name r.piece byte n.is_name.0 named }) })
    (λ unnamed. past_into (seen ++ byte ∷ []) _ (list_any (bytes_eq r.piece) r.tag.names) _ (λ named. after_attribute_name named byte)
    (λ again. bad_rest (seen ++ byte ∷ []) r.start r.top r.below r.tag.name r.tag.names (n.gap ++ (r.piece ++ byte ∷ [])) more (IsBadRest.twice n.gap r.piece byte n.is_gap n.is_name (twice_last r.tag.names r.piece again) unnamed))
    (λ fresh. after_attribute_name-goes seen _ [] byte (naming fresh) tt (inl unnamed) s))
  where
    past_into : (seen : List ℕ) (f : ElementFault) (test : Bool) (x : Reader) (rest : Reader → Result Reader ElementFault) → (test ≡ true → Fails f.kind seen f.line) → (test ≡ false → Goes seen (rest x)) → Goes seen ((refuse f test >>= λ _. Ok x) >>= rest)
    past_into seen f true x rest fails goes = fails refl
    past_into seen f false x rest fails goes = goes refl

    naming : list_any (bytes_eq r.piece) r.tag.names ≡ false → Naming seen r.start r.top r.below (record r.tag { names = r.tag.names ++ r.piece ∷ []; is_id = bytes_eq r.piece id_name; value = [] }) []
    naming fresh = record {
      gap = n.gap;
      name = r.piece;
      names = r.tag.names;
      tagged = tagged_as seen r.start r.top r.below r.tag.name r.tag.names _ _ (ap (λ (xs : List ℕ). n.gap ++ xs) (sym (append-nil r.piece))) n.tagged;
      is_gap = n.is_gap;
      is_name = n.is_name;
      distinct = distinct_last r.tag.names r.piece n.tagged.is_begun.distinct fresh;
      named = refl;
    }

pub before_value-goes : (seen : List ℕ) (r : Reader) (byte : ℕ) → r.mode ≡ modes.BeforeValue → BehindEquals seen r.start r.top r.below r.tag → Stacked r.top r.below → Goes (seen ++ byte ∷ []) (before_value r byte)
unfolding before_value
before_value-goes seen r byte is e s =
    let more : Naming (seen ++ byte ∷ []) r.start r.top r.below r.tag (e.before ++ (61 ∷ e.after ++ byte ∷ [])) =
    subst (Naming (seen ++ byte ∷ []) r.start r.top r.below r.tag) (append_assoc e.before (61 ∷ e.after) (byte ∷ [])) (naming_more seen r.start r.top r.below r.tag (e.before ++ (61 ∷ e.after)) byte e.naming)
    in
    when (Goes (seen ++ byte ∷ [])) (is_white byte) _ _
    (λ white. record { stacked = s; here = subst (λ (m : Mode). AtMode m (seen ++ byte ∷ []) r.start r.reference_line r.piece r.tag r.declaration r.top r.below) (sym is) (record { before = e.before; after = e.after ++ byte ∷ []; naming = more; is_before = e.is_before; is_after = more_white e.after byte e.is_after white }) })
    (λ dark. chosen_quote (quote_of byte) refl dark more)
  where
    quote_is : (quote : Quote) → quote_of byte ≡ Some quote → byte ≡ quote_byte quote
    quote_is quote q = elim (which (byte == 34) _ _ _ q) [
      | inl double ↦ let same : quotes.Double ≡ quote = some_same _ _ double.1 in eqb-true byte 34 double.0 ∙ ap quote_byte same
      | inr other ↦ elim (which (byte == 39) _ _ _ other.1) [
        | inl single ↦ let same : quotes.Single ≡ quote = some_same _ _ single.1 in eqb-true byte 39 single.0 ∙ ap quote_byte same
        | inr none ↦ absurd (let clash = none.1 in absurd cc)
      ]
    ]

    chosen_quote : (q : Option Quote) → quote_of byte ≡ q → is_white byte ≡ false → Naming (seen ++ byte ∷ []) r.start r.top r.below r.tag (e.before ++ (61 ∷ e.after ++ byte ∷ [])) → Goes (seen ++ byte ∷ []) (quoted r q)
    chosen_quote None q dark more = bad_rest (seen ++ byte ∷ []) r.start r.top r.below r.tag.name more.names _ more.tagged (IsBadRest.no_quote more.gap more.name e.before e.after byte more.is_gap more.is_name e.is_before e.is_after dark q)
    chosen_quote (Some quote) q dark more = record {
      stacked = s;
      here = record {
        before = e.before;
        after = e.after;
        written = [];
        value = [];
        naming = subst (λ b. Naming (seen ++ byte ∷ []) r.start r.top r.below r.tag (e.before ++ (61 ∷ e.after ++ b ∷ []))) (quote_is quote q) more;
        is_before = e.is_before;
        is_after = e.is_after;
        is_value = IsValue.nothing;
      };
    }

-- a value ends, and with it an attribute
attribute_ends : (quote : Quote) (seen : List ℕ) (start : ℕ) (top : Open) (below : List Open) (tag : Tag) → InValue quote seen start top below tag (quote_byte quote ∷ []) → Tagged seen start top below tag.name tag.names []
attribute_ends quote seen start top below tag v =
    let n = v.naming in
    let t = n.tagged in
    let is = t.is_begun in
    let one = n.name ++ (v.before ++ (61 ∷ v.after ++ (quote_byte quote ∷ v.written ++ quote_byte quote ∷ []))) in
    let a : Attribute = (n.name, v.value) in
    record {
      bytes = t.bytes;
      begun = t.begun;
      is_begun = record {
        written = is.written ++ (n.gap ++ one);
        attributes = is.attributes ++ a ∷ [];
        whole = is.whole ∙ ap (λ (xs : List ℕ). 60 ∷ tag.name ++ xs) (sym (append-nil (is.written ++ (n.gap ++ one))));
        is_name = is.is_name;
        begins = is.begins;
        are = attributes_last is.written is.attributes n.gap one a is.are n.is_gap (IsAttribute.named n.name v.before v.after v.written v.value quote n.is_name v.is_before v.is_after v.is_value);
        distinct = subst AreDistinct (sym n.named) n.distinct;
        named = n.named ∙ ap (λ (xs : List (List ℕ)). xs ++ n.name ∷ []) is.named ∙ sym (names_last is.attributes a);
      };
      few = t.few;
      first = t.first;
    }

some_last : (names : List (List ℕ)) (name : List ℕ) → ¬ (names ++ name ∷ [] ≡ [])
some_last [] name = λ e. absurd cc
some_last (first ∷ names) name = λ e. absurd cc

end_value-goes : (seen : List ℕ) (r : Reader) → Tagged seen r.start r.top r.below r.tag.name r.tag.names [] → ¬ (r.tag.names ≡ []) → Stacked r.top r.below → Holds seen (end_value r)
unfolding end_value
end_value-goes seen r t named s =
    when (Holds seen) r.tag.is_id _ _
    (λ _. record { stacked = s; here = record { space = []; tagged = t; is_space = tt; some = λ e. absurd cc; none = λ _. refl; behind = λ _. named } })
    (λ _. record { stacked = s; here = record { space = []; tagged = t; is_space = tt; some = λ e. absurd cc; none = λ _. refl; behind = λ _. named } })

add_byte-goes : (quote : Quote) (seen : List ℕ) (r : Reader) (byte : ℕ) → IsReached seen r → r.mode ≡ modes.Value quote → InValue quote (seen ++ byte ∷ []) r.start r.top r.below r.tag (byte ∷ []) → (byte == quote_byte quote) ≡ false → (byte == 60) ≡ false → Stacked r.top r.below → Holds (seen ++ byte ∷ []) (add_byte quote r byte)
unfolding add_byte
add_byte-goes quote seen r byte reached is v no_quote no_bracket s =
    when (Holds (seen ++ byte ∷ [])) (byte == 38) _ _
    (λ e. record { stacked = s; here = ((refers seen r byte reached e, tt), subst (λ n. InValue quote (seen ++ byte ∷ []) r.start r.top r.below r.tag (n ∷ [])) (eqb-true byte 38 e) v) })
    (λ no_reference.
    let more = value_more quote (seen ++ byte ∷ []) r.start r.top r.below r.tag (byte ∷ []) (byte ∷ []) v (IsValue.plain byte [] [] (eqb-false byte (quote_byte quote) no_quote) (eqb-false byte 60 no_bracket) (eqb-false byte 38 no_reference) IsValue.nothing) in
    value_stays (seen ++ byte ∷ []) r quote (byte ∷ []) is s more)

pub in_value-goes : (quote : Quote) (seen : List ℕ) (r : Reader) (byte : ℕ) → IsReached seen r → r.mode ≡ modes.Value quote → InValue quote seen r.start r.top r.below r.tag [] → Stacked r.top r.below → Goes (seen ++ byte ∷ []) (in_value quote r byte)
unfolding in_value
in_value-goes quote seen r byte reached is v s =
    let more = in_value_more quote seen r.start r.top r.below r.tag [] byte v in
    when (Goes (seen ++ byte ∷ [])) (byte == quote_byte quote) _ _
    (λ e. end_value-goes (seen ++ byte ∷ []) r (attribute_ends quote (seen ++ byte ∷ []) r.start r.top r.below r.tag (subst (λ n. InValue quote (seen ++ byte ∷ []) r.start r.top r.below r.tag (n ∷ [])) (eqb-true byte (quote_byte quote) e) more)) (λ none. some_last v.naming.names v.naming.name (sym v.naming.named ∙ none)) s)
    (λ no_quote. past (seen ++ byte ∷ []) _ (byte == 60) _
    (λ e. bad_rest (seen ++ byte ∷ []) r.start r.top r.below r.tag.name more.naming.names _ more.naming.tagged
    (subst (λ n. IsBadRest more.naming.names (more.naming.gap ++ (more.naming.name ++ (more.before ++ (61 ∷ more.after ++ (quote_byte quote ∷ more.written ++ n ∷ [])))))) (sym (eqb-true byte 60 e))
    (IsBadRest.bracket more.naming.gap more.naming.name more.before more.after more.written more.value quote more.naming.is_gap more.naming.is_name more.is_before more.is_after more.is_value)))
    (λ no_bracket. add_byte-goes quote seen r byte reached is more no_quote no_bracket s))
