-- A byte in a value or a reference, behind what was read.
use Rattle.std.proofs.Common.{◌≡◌, ℕ, Bool, true, false, not, List, [], ◌∷◌, ◌++◌, append_assoc, append-nil, Option, Some, None, Result, Ok, Err, refl, sym, ap, subst, ◌∙◌, arith, inl, inr}
use Rattle.std.specs.Char.{encode_utf8}
use Rattle.std.specs.Prelude.{◌⊎◌, ◌==◌, ◌||◌}
use Rattle.std.specs.List.{AllByRecursion, list_any}
use Rattle.std.specs.Str.{bytes_eq}
use Rattle.std.proofs.lemmas.Bool.{eqb-true, eqb-false, not-false}
use Rattle.std.proofs.lemmas.Slice.Eq.{bytes_eq-Decides}
use Rattle.ror_text.specs.Reading.{◌>>=◌, refuse, need}
use Rattle.ror_elements.specs.declared.element.ElementFault.{ElementFault}
use Rattle.ror_elements.specs.declared.element.ElementKind.TheVariants as kinds
use Rattle.ror_elements.specs.declared.mode.Home.{Home}
use Rattle.ror_elements.specs.declared.mode.Home.TheVariants as homes
use Rattle.ror_elements.specs.declared.mode.Mode.{Mode}
use Rattle.ror_elements.specs.declared.mode.Mode.TheVariants as modes
use Rattle.ror_elements.specs.declared.mode.Quote.{Quote}
use Rattle.ror_elements.specs.declared.open.Open.{Open}
use Rattle.ror_elements.specs.declared.reader.Reader.{Reader}
use Rattle.ror_elements.specs.declared.reader.Tag.{Tag}
use Rattle.ror_elements.specs.Declarations.{after}
use Rattle.ror_elements.specs.Faults.{fault}
use Rattle.ror_elements.specs.Grammar.{IsSpace, IsGap, IsReference, IsValue, Attribute, IsAttribute, AreAttributes, AreDistinct}
use Rattle.ror_elements.specs.Marks.{is_white, is_name_byte}
use Rattle.ror_elements.specs.Mode.{quote_byte}
use Rattle.ror_elements.specs.Open.{is_none}
use Rattle.ror_elements.specs.Reader.{add_text, add_value, referred, end_reference, in_reference}
use Rattle.ror_elements.specs.Refusals.{AreReferenceBytes, IsBadRest, IsBadReference}
use Rattle.ror_elements.specs.References.{entity, number_of, character_at, chosen, character_of}
use Rattle.ror_elements.proofs.ListedLemmas.{either}
use Rattle.ror_elements.proofs.NameLemmas.{names, character_at-code}
use Rattle.ror_elements.proofs.FaultWords.{more_of_reference, IsInHome, Refers, Stacked, Referred, Tagged, Naming, InValue, AtMode, Holds, Misplaces, Fails, Goes, when, past, not-true, some_name, longer, further}
use Rattle.ror_elements.proofs.FaultSteps.{content_behind, add_text-stacked}
use Rattle.ror_elements.proofs.TagRuns.{names_of}

-- ---- lists

pub more_white : (space : List ℕ) (byte : ℕ) → IsSpace space → is_white byte ≡ true → IsSpace (space ++ byte ∷ [])
more_white [] byte s white = (white, tt)
more_white (first ∷ space) byte s white = (s.0, more_white space byte s.1 white)

all_last : (P : List ℕ → Type 0) (names : List (List ℕ)) (name : List ℕ) → AllByRecursion P names → P name → AllByRecursion P (names ++ name ∷ [])
all_last P [] name all h = (h, tt)
all_last P (x ∷ names) name all h = (all.0, all_last P names name all.1 h)

last_of_all : (P : List ℕ → Type 0) (names : List (List ℕ)) (name : List ℕ) → AllByRecursion P (names ++ name ∷ []) → P name
last_of_all P [] name all = all.0
last_of_all P (x ∷ names) name all = last_of_all P names name all.1

neither : (p q : Bool) → (p || q) ≡ false → (p ≡ false) × (q ≡ false)
neither true q e = absurd cc
neither false q e = (refl, e)

pub no_test : (test : Bool) → test ≡ false → test ≡ true → ⊥
no_test true e f = absurd cc
no_test false e f = absurd cc

-- a name that no other is stays distinct from them
pub distinct_last : (names : List (List ℕ)) (name : List ℕ) → AreDistinct names → list_any (bytes_eq name) names ≡ false → AreDistinct (names ++ name ∷ [])
distinct_last [] name d e = (tt, tt)
distinct_last (x ∷ names) name d e =
    let n = neither (bytes_eq name x) (list_any (bytes_eq name) names) e in
    (all_last (λ other. ¬ (x ≡ other)) names name d.0 (λ same. no_test (bytes_eq name x) n.0 ((bytes_eq-Decides name x).1 (sym same))), distinct_last names name d.1 n.1)

pub twice_last : (names : List (List ℕ)) (name : List ℕ) → list_any (bytes_eq name) names ≡ true → ¬ (AreDistinct (names ++ name ∷ []))
twice_last [] name e = λ d. absurd cc
twice_last (x ∷ names) name e = λ d. elim (either (bytes_eq name x) (list_any (bytes_eq name) names) e) [
  | inl same ↦ last_of_all (λ other. ¬ (x ≡ other)) names name d.0 (sym ((bytes_eq-Decides name x).0 same))
  | inr later ↦ twice_last names name later d.1
]

-- ---- values and attributes

pub value_append : (quote : Quote) (bytes value more others : List ℕ) → IsValue quote bytes value → IsValue quote more others → IsValue quote (bytes ++ more) (value ++ others)
value_append quote bytes value more others IsValue.nothing last = last
value_append quote bytes value more others (IsValue.plain byte rest tail a b c h) last = IsValue.plain byte (rest ++ more) (tail ++ others) a b c (value_append quote rest tail more others h last)
value_append quote bytes value more others (IsValue.character first rest tail code is h) last =
    subst (λ (xs : List ℕ). IsValue quote xs ((encode_utf8 code ++ tail) ++ others)) (sym (append_assoc first rest more))
    (subst (λ (xs : List ℕ). IsValue quote (first ++ (rest ++ more)) xs) (sym (append_assoc (encode_utf8 code) tail others))
    (IsValue.character first (rest ++ more) (tail ++ others) code is (value_append quote rest tail more others h last)))

pub a_character : (quote : Quote) (bytes : List ℕ) (code : ℕ) → IsReference bytes code → IsValue quote bytes (encode_utf8 code)
a_character quote bytes code is =
    subst (λ (xs : List ℕ). IsValue quote xs (encode_utf8 code)) (append-nil bytes)
    (subst (λ (xs : List ℕ). IsValue quote (bytes ++ []) xs) (append-nil (encode_utf8 code)) (IsValue.character bytes [] [] code is IsValue.nothing))

pub attributes_last : (written : List ℕ) (list : List Attribute) (gap first : List ℕ) (a : Attribute) → AreAttributes written list → IsGap gap → IsAttribute first a → AreAttributes (written ++ (gap ++ first)) (list ++ a ∷ [])
attributes_last written list gap first a AreAttributes.nothing g f = subst (λ (xs : List ℕ). AreAttributes (gap ++ xs) (a ∷ [])) (append-nil first) (AreAttributes.more gap first [] a [] g f AreAttributes.nothing)
attributes_last written list gap first a (AreAttributes.more before one rest b others g1 f1 r) g f =
    subst (λ (xs : List ℕ). AreAttributes xs (b ∷ (others ++ a ∷ [])))
    (sym (append_assoc before (one ++ rest) (gap ++ first) ∙ ap (λ (xs : List ℕ). before ++ xs) (append_assoc one rest (gap ++ first))))
    (AreAttributes.more before one (rest ++ (gap ++ first)) b (others ++ a ∷ []) g1 f1 (attributes_last rest others gap first a r g f))

pub names_last : (list : List Attribute) (a : Attribute) → names_of (list ++ a ∷ []) ≡ names_of list ++ a.0 ∷ []
names_last [] a = refl
names_last (b ∷ list) a = ap (λ (xs : List (List ℕ)). b.0 ∷ xs) (names_last list a)

-- ---- one more byte

pub tagged_more : (seen : List ℕ) (start : ℕ) (top : Open) (below : List Open) (name : List ℕ) (names : List (List ℕ)) (rest : List ℕ) (byte : ℕ) → Tagged seen start top below name names rest → Tagged (seen ++ byte ∷ []) start top below name names (rest ++ byte ∷ [])
tagged_more seen start top below name names rest byte t =
    let is = t.is_begun in
    record {
      bytes = t.bytes ++ byte ∷ [];
      begun = longer seen start top below t.bytes byte t.begun;
      is_begun = record {
        written = is.written;
        attributes = is.attributes;
        whole = ap (λ (xs : List ℕ). xs ++ byte ∷ []) is.whole ∙ ap (λ (xs : List ℕ). 60 ∷ xs) (append_assoc name (is.written ++ rest) (byte ∷ []) ∙ ap (λ (xs : List ℕ). name ++ xs) (append_assoc is.written rest (byte ∷ [])));
        is_name = is.is_name;
        begins = is.begins;
        are = is.are;
        distinct = is.distinct;
        named = is.named;
      };
      few = t.few;
      first = t.first;
    }

pub tagged_as : (seen : List ℕ) (start : ℕ) (top : Open) (below : List Open) (name : List ℕ) (names : List (List ℕ)) (rest other : List ℕ) → rest ≡ other → Tagged seen start top below name names rest → Tagged seen start top below name names other
tagged_as seen start top below name names rest other e t = subst (Tagged seen start top below name names) e t

pub naming_more : (seen : List ℕ) (start : ℕ) (top : Open) (below : List Open) (tag : Tag) (rest : List ℕ) (byte : ℕ) → Naming seen start top below tag rest → Naming (seen ++ byte ∷ []) start top below tag (rest ++ byte ∷ [])
naming_more seen start top below tag rest byte n = record {
  gap = n.gap;
  name = n.name;
  names = n.names;
  tagged = tagged_as (seen ++ byte ∷ []) start top below tag.name n.names _ _ (append_assoc n.gap (n.name ++ rest) (byte ∷ []) ∙ ap (λ (xs : List ℕ). n.gap ++ xs) (append_assoc n.name rest (byte ∷ []))) (tagged_more seen start top below tag.name n.names (n.gap ++ (n.name ++ rest)) byte n.tagged);
  is_gap = n.is_gap;
  is_name = n.is_name;
  distinct = n.distinct;
  named = n.named;
}

-- behind the value of an attribute
value_rest : (before after : List ℕ) (quote : ℕ) (written rest more : List ℕ) → (before ++ (61 ∷ after ++ (quote ∷ written ++ rest))) ++ more ≡ before ++ (61 ∷ after ++ (quote ∷ written ++ (rest ++ more)))
value_rest before after quote written rest more =
    append_assoc before (61 ∷ after ++ (quote ∷ written ++ rest)) more
    ∙ ap (λ (xs : List ℕ). before ++ 61 ∷ xs) (append_assoc after (quote ∷ written ++ rest) more ∙ ap (λ (xs : List ℕ). after ++ quote ∷ xs) (append_assoc written rest more))

pub in_value_more : (quote : Quote) (seen : List ℕ) (start : ℕ) (top : Open) (below : List Open) (tag : Tag) (rest : List ℕ) (byte : ℕ) → InValue quote seen start top below tag rest → InValue quote (seen ++ byte ∷ []) start top below tag (rest ++ byte ∷ [])
in_value_more quote seen start top below tag rest byte v = record {
  before = v.before;
  after = v.after;
  written = v.written;
  value = v.value;
  naming = subst (Naming (seen ++ byte ∷ []) start top below tag) (value_rest v.before v.after (quote_byte quote) v.written rest (byte ∷ [])) (naming_more seen start top below tag _ byte v.naming);
  is_before = v.is_before;
  is_after = v.is_after;
  is_value = v.is_value;
}

-- what stands behind belongs to the value
pub value_more : (quote : Quote) (seen : List ℕ) (start : ℕ) (top : Open) (below : List Open) (tag : Tag) (more others : List ℕ) → InValue quote seen start top below tag more → IsValue quote more others → InValue quote seen start top below tag []
value_more quote seen start top below tag more others v is = record {
  before = v.before;
  after = v.after;
  written = v.written ++ more;
  value = v.value ++ others;
  naming = subst (λ (xs : List ℕ). Naming seen start top below tag (v.before ++ (61 ∷ v.after ++ (quote_byte quote ∷ xs)))) (sym (append-nil (v.written ++ more))) v.naming;
  is_before = v.is_before;
  is_after = v.is_after;
  is_value = value_append quote v.written v.value more others v.is_value is;
}

-- what is bad in a tag
pub bad_rest : (seen : List ℕ) (start : ℕ) (top : Open) (below : List Open) (name : List ℕ) (names : List (List ℕ)) (rest : List ℕ) → Tagged seen start top below name names rest → IsBadRest names rest → Misplaces seen start
bad_rest seen start top below name names rest t bad = Misplaces.no_tag top below name names rest t bad

-- ---- references

-- the value that is gathered does not matter
pub retag : (quote : Quote) (seen : List ℕ) (start : ℕ) (top : Open) (below : List Open) (tag : Tag) (value : List ℕ) → InValue quote seen start top below tag [] → InValue quote seen start top below (record tag { value = value }) []
retag quote seen start top below tag value v = record {
  before = v.before;
  after = v.after;
  written = v.written;
  value = v.value;
  naming = record { gap = v.naming.gap; name = v.naming.name; names = v.naming.names; tagged = v.naming.tagged; is_gap = v.naming.is_gap; is_name = v.naming.is_name; distinct = v.naming.distinct; named = v.naming.named };
  is_before = v.is_before;
  is_after = v.is_after;
  is_value = v.is_value;
}

pub value-goes : (seen : List ℕ) (r : Reader) (quote : Quote) (bytes : List ℕ) → Stacked r.top r.below → InValue quote seen r.start r.top r.below r.tag [] → Holds seen (record (add_value r bytes) { mode = modes.Value quote })
unfolding add_value
value-goes seen r quote bytes s v =
    when (λ (x : Reader). Holds seen (record x { mode = modes.Value quote })) r.tag.is_id _ _
    (λ _. record { stacked = s; here = retag quote seen r.start r.top r.below r.tag (r.tag.value ++ bytes) v })
    (λ _. record { stacked = s; here = v })

-- in a value a mode stays
pub value_stays : (seen : List ℕ) (r : Reader) (quote : Quote) (bytes : List ℕ) → r.mode ≡ modes.Value quote → Stacked r.top r.below → InValue quote seen r.start r.top r.below r.tag [] → Holds seen (add_value r bytes)
unfolding add_value
value_stays seen r quote bytes is s v =
    when (Holds seen) r.tag.is_id _ _
    (λ _. record {
      stacked = s;
      here = subst (λ (m : Mode). AtMode m seen r.start r.reference_line r.piece (record r.tag { value = r.tag.value ++ bytes }) r.declaration r.top r.below) (sym is)
          (retag quote seen r.start r.top r.below r.tag (r.tag.value ++ bytes) v);
    })
    (λ _. record { stacked = s; here = subst (λ (m : Mode). AtMode m seen r.start r.reference_line r.piece r.tag r.declaration r.top r.below) (sym is) v })

named_fault : (seen : List ℕ) (name : List ℕ) (line : ℕ) → Refers seen line (38 ∷ name ++ 59 ∷ []) → AreReferenceBytes name → (f : ElementFault) → character_of line name ≡ Err f → Fails f.kind seen f.line
unfolding character_of
named_fault seen name line r all f e = tested (is_none name) (entity name) (number_of name) (some_name name) (nothing name) refl refl e
  where
    nothing : (name : List ℕ) → is_none name ≡ true → name ≡ []
    nothing [] e = refl
    nothing (byte ∷ name) e = absurd cc

    bad : (bytes : List ℕ) → Refers seen line (38 ∷ bytes) → IsBadReference bytes → fault kinds.BadMarkup line ≡ f → Fails f.kind seen f.line
    bad bytes referred is same = subst (λ (g : ElementFault). Fails g.kind seen g.line) same (Misplaces.reference bytes referred is)

    numbered : (code : ℕ) (there : Option ℕ) → number_of name ≡ Some code → character_at code ≡ there → need (fault kinds.BadMarkup line) there ≡ Err f → Fails f.kind seen f.line
    numbered code None number none e = bad (name ++ 59 ∷ []) r (IsBadReference.no_character name code all number (λ h. let clash = character_at-code code h in absurd cc)) cc
    numbered code (Some x) number none e = absurd cc

    tested : (none : Bool) (named number : Option ℕ) → (none ≡ false → ¬ (name ≡ [])) → (none ≡ true → name ≡ []) → entity name ≡ named → number_of name ≡ number → (refuse (fault kinds.BadMarkup line) none >>= λ _. chosen line named number) ≡ Err f → Fails f.kind seen f.line
    tested true named number some nil a b e = bad (59 ∷ []) (subst (λ (n : List ℕ). Refers seen line (38 ∷ n ++ 59 ∷ [])) (nil refl) r) IsBadReference.unnamed cc
    tested false (Some x) number some nil a b e = absurd cc
    tested false None None some nil a b e =
        let same : fault kinds.Entity line ≡ f = cc in
        subst (λ (g : ElementFault). Fails g.kind seen g.line) same (record { name = name; refers = r; are = all; some = some refl; no_entity = a; no_number = b })
    tested false None (Some code) some nil a b e = numbered code (character_at code) b refl e

referred-goes : (home : Home) (before seen : List ℕ) (byte : ℕ) (r : Reader) → seen ≡ before ++ byte ∷ [] → (byte == 59) ≡ true → Referred seen r.reference_line (38 ∷ r.piece ++ 59 ∷ []) → AreReferenceBytes r.piece → Stacked r.top r.below → IsInHome home seen r (38 ∷ r.piece ++ 59 ∷ []) → (character : Result ℕ ElementFault) → character_of r.reference_line r.piece ≡ character
    → Goes seen (character >>= λ c. Ok (referred home r (encode_utf8 c)))
referred-goes home before seen byte r split semicolon b all s h (Err f) e = named_fault seen r.piece r.reference_line (record { referred = b; home = home; reader = r; is_line = refl; place = h }) all f e
referred-goes homes.Text before seen byte r split semicolon b all s h (Ok c) e = subst (λ (xs : List ℕ). Holds xs (record (add_text r (encode_utf8 c)) { mode = modes.Content })) (sym split) (content_behind before (add_text r (encode_utf8 c)) byte 59 semicolon (omega arith) (add_text-stacked r (encode_utf8 c) s))
referred-goes (homes.Value quote) before seen byte r split semicolon b all s h (Ok c) e =
    value-goes seen r quote (encode_utf8 c) s (value_more quote seen r.start r.top r.below r.tag (38 ∷ r.piece ++ 59 ∷ []) (encode_utf8 c) h (a_character quote (38 ∷ r.piece ++ 59 ∷ []) c (IsReference.reference r.piece c (names r.reference_line r.piece c e))))

pub in_reference-goes : (home : Home) (seen : List ℕ) (r : Reader) (byte : ℕ) → r.mode ≡ modes.Reference home → Referred seen r.reference_line (38 ∷ r.piece) → AreReferenceBytes r.piece → IsInHome home seen r (38 ∷ r.piece) → Stacked r.top r.below → Goes (seen ++ byte ∷ []) (in_reference home r byte)
unfolding in_reference end_reference
in_reference-goes home seen r byte is b all h s =
    let longer_b = further seen r.reference_line (38 ∷ r.piece) byte b in
    let longer_h = home_more home h in
    when (Goes (seen ++ byte ∷ [])) (byte == 59) _ _
    (λ e. referred-goes home seen (seen ++ byte ∷ []) byte r refl e (subst (λ n. Referred (seen ++ byte ∷ []) r.reference_line (38 ∷ r.piece ++ n ∷ [])) (eqb-true byte 59 e) longer_b) all s
    (subst (λ n. IsInHome home (seen ++ byte ∷ []) r (38 ∷ r.piece ++ n ∷ [])) (eqb-true byte 59 e) longer_h) (character_of r.reference_line r.piece) refl)
    (λ no_end. past (seen ++ byte ∷ []) _ (not (is_name_byte byte)) _
    (λ unnamed. Misplaces.reference (r.piece ++ byte ∷ []) (record { referred = longer_b; home = home; reader = r; is_line = refl; place = longer_h }) (IsBadReference.unended r.piece byte all (not-true (is_name_byte byte) unnamed)))
    (λ named. record {
      stacked = s;
      here = subst (λ (m : Mode). AtMode m (seen ++ byte ∷ []) r.start r.reference_line (r.piece ++ byte ∷ []) r.tag r.declaration r.top r.below) (sym is)
          (there home longer_b (more_of_reference r.piece byte all (not-false (is_name_byte byte) named) (eqb-false byte 59 no_end)) longer_h);
    }))
  where
    home_more : (home : Home) → IsInHome home seen r (38 ∷ r.piece) → IsInHome home (seen ++ byte ∷ []) r (38 ∷ r.piece ++ byte ∷ [])
    home_more homes.Text h = (longer seen r.reference_line r.top r.below (38 ∷ r.piece) byte h.0, h.1)
    home_more (homes.Value quote) h = in_value_more quote seen r.start r.top r.below r.tag (38 ∷ r.piece) byte h

    there : (home : Home) → Referred (seen ++ byte ∷ []) r.reference_line (38 ∷ r.piece ++ byte ∷ []) → AreReferenceBytes (r.piece ++ byte ∷ []) → IsInHome home (seen ++ byte ∷ []) r (38 ∷ r.piece ++ byte ∷ []) → AtMode (modes.Reference home) (seen ++ byte ∷ []) r.start r.reference_line (r.piece ++ byte ∷ []) r.tag r.declaration r.top r.below
    there homes.Text b all h = ((b, all), h)
    there (homes.Value quote) b all h = ((b, all), h)
