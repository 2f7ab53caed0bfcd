-- References for no character are given wherever a text has them.
use Rattle.std.proofs.Common.{◌≡◌, ℕ, true, false, List, [], ◌∷◌, ◌++◌, Option, Some, None, Err, refl, sym, ap, subst, ◌∙◌, inl, inr}
use Rattle.std.specs.Prelude.{◌⊎◌, ◌==◌}
use Rattle.std.specs.List.{AllByRecursion}
use Rattle.std.specs.Str.{IsUtf8}
use Rattle.std.proofs.lemmas.Bool.{eqb-true, false_from_ne_true, true≢false}
use Rattle.ror_text.specs.Reading.{read_all}
use Rattle.ror_text.proofs.ReadingLemmas.{bind-at_err}
use Rattle.ror_elements.specs.declared.element.ElementFault.{ElementFault}
use Rattle.ror_elements.specs.declared.element.ElementKind.TheVariants as kinds
use Rattle.ror_elements.specs.declared.mode.Home.{Home}
use Rattle.ror_elements.specs.declared.mode.Home.TheVariants as homes
use Rattle.ror_elements.specs.declared.mode.Mode.TheVariants as modes
use Rattle.ror_elements.specs.declared.mode.Quote.{Quote}
use Rattle.ror_elements.specs.declared.mode.Quote.TheVariants as quotes
use Rattle.ror_elements.specs.declared.open.Open.{Open}
use Rattle.ror_elements.specs.declared.reader.Reader.{Reader}
use Rattle.ror_elements.specs.declared.reader.Tag.{Tag}
use Rattle.ror_elements.specs.Elements.{read, finish, elements_of, without_mark}
use Rattle.ror_elements.specs.Faults.{fault}
use Rattle.ror_elements.specs.Grammar.{AreDigits, IsCharacter}
use Rattle.ror_elements.specs.Marks.{is_name_byte}
use Rattle.ror_elements.specs.Reader.{nothing_read, in_content, end_reference, in_reference}
use Rattle.ror_elements.specs.Refusals.{IsClean, AreReferenceBytes, IsNoName, IsBadReference}
use Rattle.ror_elements.specs.References.{entity, number_of, character_at, character_of}
use Rattle.ror_elements.specs.Tags.{add_byte, in_value}
use Rattle.ror_elements.proofs.ElementRuns.{some_name}
use Rattle.ror_elements.proofs.GivenFaults.{read_err}
use Rattle.ror_elements.proofs.LawLemmas.{without_mark-IsUtf8, past_utf8}
use Rattle.ror_elements.proofs.NameLemmas.{which, is_reference_byte, entity_named, some_digits, character_code}
use Rattle.ror_elements.proofs.PlainReader.{plain, run, same_part}
use Rattle.ror_elements.proofs.Runs.{line_at, at}
use Rattle.ror_elements.proofs.TagRuns.{referring, name-run, tagged}
use Rattle.ror_elements.proofs.TextLemmas.{nothing-kept}

-- a fault of the first bytes of a text
pub given_by : (bytes front after : List ℕ) (f : ElementFault) → IsUtf8 bytes → without_mark bytes ≡ front ++ after → IsClean front → run nothing_read front ≡ Err f → elements_of bytes ≡ Err f
unfolding run
given_by bytes front after f u split clean e =
    past_utf8 bytes u
    ∙ bind-at_err (read_all read nothing_read (without_mark bytes)) finish f
    (ap (read_all read nothing_read) split ∙ read_err front after nothing_read f (same_part [] front after nothing_read (subst IsUtf8 split (without_mark-IsUtf8 bytes u)) nothing-kept clean ∙ e))

-- ---- the character of a name

pub number_shape : (name : List ℕ) (number : ℕ) → number_of name ≡ Some number → ((digits : List ℕ) × AreDigits 10 digits × (name ≡ 35 ∷ digits)) ⊎ ((digits : List ℕ) × AreDigits 16 digits × (name ≡ 35 ∷ 120 ∷ digits))
unfolding number_of
number_shape [] number e = absurd cc
number_shape (first ∷ []) number e = elim (which (first == 35) _ _ (Some number) e) [ inl h ↦ absurd cc | inr h ↦ absurd cc ]
number_shape (first ∷ second ∷ digits) number e = elim (which (first == 35) _ _ (Some number) e) [
  | inl h ↦
      let is = eqb-true first 35 h.0 in
      elim (which (second == 120) _ _ (Some number) h.1) [
        | inl g ↦ inr (digits, (some_digits 16 digits number g.1).0, ap (λ n. n ∷ second ∷ digits) is ∙ ap (λ n. 35 ∷ n ∷ digits) (eqb-true second 120 g.0))
        | inr g ↦ inl (second ∷ digits, (some_digits 10 (second ∷ digits) number g.1).0, ap (λ n. n ∷ second ∷ digits) is)
      ]
  | inr h ↦ absurd cc
]

no_entity_there : (name : List ℕ) → IsNoName name → (o : Option ℕ) → entity name ≡ o → o ≡ None
no_entity_there name h None e = refl
no_entity_there name h (Some code) e = absurd (h.unnamed code (entity_named name code e))

no_number_there : (name : List ℕ) → IsNoName name → (o : Option ℕ) → number_of name ≡ o → o ≡ None
no_number_there name h None e = refl
no_number_there name h (Some number) e = elim (number_shape name number e) [
  | inl d ↦ absurd (h.no_decimal d.0 d.1 d.2)
  | inr d ↦ absurd (h.no_hexadecimal d.0 d.1 d.2)
]

pub no_character_of : (line : ℕ) (name : List ℕ) → IsNoName name → character_of line name ≡ Err (fault kinds.Entity line)
unfolding character_of
no_character_of line name h = rw (some_name name h.some, no_entity_there name h (entity name) refl, no_number_there name h (number_of name) refl) refl

-- ---- references that end

pub as_reference : (name : List ℕ) → AreReferenceBytes name → AllByRecursion (λ byte. is_reference_byte byte ≡ true) name
as_reference [] all = tt
as_reference (byte ∷ name) all = (rw (false_from_ne_true (byte == 59) (λ e. all.0.1 (eqb-true byte 59 e)), all.0.0) refl, as_reference name all.1)

-- how a reference begins: the run from its `&` on
pub record Referring (from : Reader) (line : ℕ) : Type 0 where
  pub home : Home
  pub top : Open
  pub below : List Open
  pub like : Reader
  pub begins : (more : List ℕ) → run from (38 ∷ more) ≡ run (referring home [] line top below (record like { reference_line = line })) more

pub ended_here : (home : Home) (name : List ℕ) (l : ℕ) (top : Open) (below : List Open) (j : Reader) (f : ElementFault) → character_of j.reference_line name ≡ Err f → run (referring home name l top below j) (59 ∷ []) ≡ Err f
unfolding run plain in_reference end_reference
ended_here home name l top below j f e = rw e refl

pub ended_reference : (from : Reader) (line : ℕ) (name : List ℕ) (f : ElementFault) → Referring from line → AreReferenceBytes name → character_of line name ≡ Err f → run from (38 ∷ name ++ 59 ∷ []) ≡ Err f
ended_reference from line name f r all e =
    r.begins (name ++ 59 ∷ [])
    ∙ name-run r.home name (as_reference name all) line r.top r.below (record r.like { reference_line = line }) (59 ∷ [])
    ∙ ended_here r.home name (line_at line name) r.top r.below (record r.like { reference_line = line }) f e

pub in_text-refers : (line : ℕ) (top around : Open) (outer : List Open) (j : Reader) → Referring (at modes.Content line top (around ∷ outer) j) line
unfolding run plain in_content
in_text-refers line top around outer j = record { home = homes.Text; top = top; below = around ∷ outer; like = j; begins = λ more. refl }

pub in_value-refers : (quote : Quote) (line start : ℕ) (top : Open) (below : List Open) (tag : Tag) (j : Reader) → Referring (tagged (modes.Value quote) line start top below tag j) line
unfolding run plain in_value add_byte
in_value-refers quotes.Single line start top below tag j = record { home = homes.Value quotes.Single; top = top; below = below; like = tagged (modes.Value quotes.Single) line start top below tag j; begins = λ more. refl }
in_value-refers quotes.Double line start top below tag j = record { home = homes.Value quotes.Double; top = top; below = below; like = tagged (modes.Value quotes.Double) line start top below tag j; begins = λ more. refl }

-- ---- references that are none

unended_here : (home : Home) (name : List ℕ) (byte l : ℕ) (top : Open) (below : List Open) (j : Reader) → is_name_byte byte ≡ false → run (referring home name l top below j) (byte ∷ []) ≡ Err (fault kinds.BadMarkup j.reference_line)
unfolding run plain in_reference
unended_here home name byte l top below j unnamed = rw (unnamed, other) refl
  where
    other : (byte == 59) ≡ false
    other = false_from_ne_true (byte == 59) (λ e. true≢false (ap is_name_byte (sym (eqb-true byte 59 e)) ∙ unnamed))

no_code : (code : ℕ) → ¬ (IsCharacter code) → (o : Option ℕ) → character_at code ≡ o → o ≡ None
no_code code not_character None e = refl
no_code code not_character (Some there) e = absurd (not_character (character_code code there e).0)

no_entity_number : (name : List ℕ) (code : ℕ) → number_of name ≡ Some code → entity name ≡ None
unfolding entity
no_entity_number name code e = elim (number_shape name code e) [
  | inl d ↦ subst (λ (n : List ℕ). entity n ≡ None) (sym d.2) refl
  | inr d ↦ subst (λ (n : List ℕ). entity n ≡ None) (sym d.2) refl
]

bad_character : (line : ℕ) (name : List ℕ) (code : ℕ) → number_of name ≡ Some code → ¬ (IsCharacter code) → character_of line name ≡ Err (fault kinds.BadMarkup line)
unfolding character_of
bad_character line [] code e not_character = refl
bad_character line (byte ∷ name) code e not_character = rw (no_entity_number (byte ∷ name) code e, e, no_code code not_character (character_at code) refl) refl

unnamed_character : (line : ℕ) → character_of line [] ≡ Err (fault kinds.BadMarkup line)
unfolding character_of
unnamed_character line = refl

pub bad_reference : (from : Reader) (line : ℕ) (bytes : List ℕ) → IsBadReference bytes → Referring from line → run from (38 ∷ bytes) ≡ Err (fault kinds.BadMarkup line)
bad_reference from line bytes (IsBadReference.unended name byte all unnamed) r =
    let k = record r.like { reference_line = line } in
    r.begins (name ++ byte ∷ []) ∙ name-run r.home name (as_reference name all) line r.top r.below k (byte ∷ []) ∙ unended_here r.home name byte (line_at line name) r.top r.below k unnamed
bad_reference from line bytes IsBadReference.unnamed r = ended_reference from line [] (fault kinds.BadMarkup line) r tt (unnamed_character line)
bad_reference from line bytes (IsBadReference.no_character name code all e not_character) r = ended_reference from line name (fault kinds.BadMarkup line) r all (bad_character line name code e not_character)
