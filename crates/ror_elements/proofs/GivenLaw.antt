-- The faults that a text has are given.
use Rattle.std.proofs.Common.{◌≡◌, ℕ, List, [], ◌∷◌, ◌++◌, Err, ap, arith}
use Rattle.std.specs.Prelude.{codes}
use Rattle.std.specs.Str.{IsUtf8}
use Rattle.ror_elements.specs.declared.element.ElementKind.TheVariants as kinds
use Rattle.ror_elements.specs.Elements.{elements_of, without_mark}
use Rattle.ror_elements.specs.Faults.{fault}
use Rattle.ror_elements.specs.Laws.{not_utf8}
use Rattle.ror_elements.specs.Refusals.{StandsAt, IsBadMarkup, HasBadMarkup, FaultsAreGiven}
use Rattle.ror_elements.proofs.GivenCuts.{unclosed_given, control_given}
use Rattle.ror_elements.proofs.GivenFaults.{doctype_given, mismatched_given, deep_given, encoding_given}
use Rattle.ror_elements.proofs.GivenForm.{form_given}
use Rattle.ror_elements.proofs.GivenFronts.{all_named, led_given}
use Rattle.ror_elements.proofs.GivenMarkup.{no_markup_at, no_opening_at, other_opening_at, end_outside_at, section_outside_at, end_unnamed_at, unended_at}
use Rattle.ror_elements.proofs.GivenOutside.{outside_given, second_given}
use Rattle.ror_elements.proofs.GivenRests.{bad_tag_given}
use Rattle.ror_elements.proofs.GivenTags.{entity_given, reference_given}
use Rattle.ror_elements.proofs.LawLemmas.{gives_the_first_fault}

exclaims : ¬ (◌≡◌ {A = ℕ} 33 63)
exclaims e = absurd (omega (arith, e))

slashes : ¬ (◌≡◌ {A = ℕ} 47 63)
slashes e = absurd (omega (arith, e))

markup_given : (bytes : List ℕ) (line : ℕ) (names : List (List ℕ)) (piece : List ℕ) → IsUtf8 bytes → IsBadMarkup names piece → StandsAt (without_mark bytes) line names piece → elements_of bytes ≡ Err (fault kinds.BadMarkup line)
markup_given bytes line names piece u (IsBadMarkup.outside byte dark a) s = outside_given bytes line byte u dark a s
markup_given bytes line names piece u (IsBadMarkup.no_markup same byte unnamed a b c) s = led_given bytes line names byte [] kinds.BadMarkup u b s (λ l top below j e. no_markup_at byte l top below j unnamed a b c)
markup_given bytes line names piece u (IsBadMarkup.no_opening same byte a b c) s = led_given bytes line names 33 (byte ∷ []) kinds.BadMarkup u exclaims s (λ l top below j e. no_opening_at byte l top below j a b c)
markup_given bytes line names piece u (IsBadMarkup.other_opening same opening first more there byte is some other) s =
    led_given bytes line names 33 (first ++ byte ∷ []) kinds.BadMarkup u exclaims s (λ l top below j e. other_opening_at opening first more there byte l top below j is some other)
markup_given bytes line names piece u IsBadMarkup.end_outside s = led_given bytes line [] 47 [] kinds.BadMarkup u slashes s (λ l top below j e. end_outside_at l top below j e)
markup_given bytes line names piece u IsBadMarkup.section_outside s = led_given bytes line [] 33 (codes "[CDATA[") kinds.BadMarkup u exclaims s (λ l top below j e. section_outside_at l top below j e)
markup_given bytes line names piece u (IsBadMarkup.end_unnamed same byte unnamed) s = led_given bytes line names 47 (byte ∷ []) kinds.BadMarkup u slashes s (λ l top below j e. end_unnamed_at byte l top below j unnamed)
markup_given bytes line names piece u (IsBadMarkup.end_unended opened space others byte white behind dark a) s =
    led_given bytes line (opened ∷ others) 47 (opened ++ (space ++ byte ∷ [])) kinds.BadMarkup u slashes s
    (λ l top below j e. unended_at opened space others byte l top below j (all_named s.front (opened ∷ others) s.is_front).0 white behind dark a e)

bad_markup_given : (bytes : List ℕ) (line : ℕ) → IsUtf8 bytes → HasBadMarkup (without_mark bytes) line → elements_of bytes ≡ Err (fault kinds.BadMarkup line)
bad_markup_given bytes line u (HasBadMarkup.control before after byte split readable control is) = control_given bytes before after byte line u split readable control is
bad_markup_given bytes line u (HasBadMarkup.markup names piece bad s) = markup_given bytes line names piece u bad s
bad_markup_given bytes line u (HasBadMarkup.in_tag around names tag own rest there bad) = bad_tag_given bytes line around names tag own rest u there bad
bad_markup_given bytes line u (HasBadMarkup.second_root front after byte split h is a b lines) = second_given bytes front after byte line u split h is a b lines
bad_markup_given bytes line u (HasBadMarkup.reference part bad h) = reference_given bytes line part u bad h

pub faults_are_given : FaultsAreGiven
faults_are_given bytes kinds.NotUtf8 line h = (gives_the_first_fault bytes (fault kinds.NotUtf8 line)).1 (not_utf8 h.0 (ap (fault kinds.NotUtf8) h.1))
faults_are_given bytes kinds.TooDeep line h = deep_given bytes line h.1.name h.1.around h.1.next h.0 h.1.is_name h.1.begins h.1.ends h.1.deep h.1.stands
faults_are_given bytes kinds.Mismatched line h = mismatched_given bytes line h.0 h.1
faults_are_given bytes kinds.Doctype line h = doctype_given bytes line h.0 h.1
faults_are_given bytes kinds.Encoding line h = encoding_given bytes line h.0 h.1
faults_are_given bytes kinds.Form line h = form_given bytes line h.0 h.1
faults_are_given bytes kinds.BadMarkup line h = bad_markup_given bytes line h.0 h.1
faults_are_given bytes kinds.Unclosed line h = unclosed_given bytes line h.0 h.1.0 h.1.1
faults_are_given bytes kinds.Entity line h = entity_given bytes line h.0 h.1
