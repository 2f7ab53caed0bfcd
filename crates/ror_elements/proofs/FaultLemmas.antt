-- Which fault a text has.
use Rattle.std.proofs.Common.{◌≡◌, ℕ, ◌<◌, ◌≤◌, Bool, true, false, not, List, [], ◌∷◌, ◌++◌, append_assoc, length, Option, Some, None, Ok, Err, refl, sym, ap, subst, ◌∙◌, arith, inl, inr}
use Rattle.std.specs.Prelude.{IfOk, ◌⊎◌, ◌&&◌, nat_lt}
use Rattle.std.specs.Str.{IsUtf8}
use Rattle.std.proofs.lemmas.Bool.{cases_Bool, true≢false, ltb-true}
use Rattle.ror_text.specs.Reading.{◌>>=◌, refuse}
use Rattle.ror_text.proofs.ReadingLemmas.{bind_err, read_all_keeps, refuse_err, need_err}
use Rattle.ror_elements.specs.declared.element.ElementFault.{ElementFault}
use Rattle.ror_elements.specs.declared.element.ElementKind.{ElementKind}
use Rattle.ror_elements.specs.declared.element.ElementKind.TheVariants as kinds
use Rattle.ror_elements.specs.declared.mode.Home.{Home}
use Rattle.ror_elements.specs.declared.mode.Home.TheVariants as homes
use Rattle.ror_elements.specs.declared.open.Open.{Open}
use Rattle.ror_elements.specs.declared.reader.Reader.{Reader}
use Rattle.ror_elements.specs.Declarations.{nothing_declared, is_foreign}
use Rattle.ror_elements.specs.Elements.{act, read, finish, without_mark, line_after}
use Rattle.ror_elements.specs.Faults.{fault}
use Rattle.ror_elements.specs.Grammar.{IsInstruction, IsTag}
use Rattle.ror_elements.specs.Laws.{IsReached, IsFirstFaultOf, not_utf8, at_byte, at_end}
use Rattle.ror_elements.specs.Marks.{is_white, is_control, local_name}
use Rattle.ror_elements.specs.Mode.{is_between}
use Rattle.ror_elements.specs.Open.{is_none, last_of}
use Rattle.ror_elements.specs.Reader.{nothing_read, is_outside}
use Rattle.ror_elements.specs.Refusals.{IsClean, IsInValue, RefersAt, HasFault, FaultsAreWhatTheySay, StandsAt, HasMismatched, HasTooDeep, HasEncoding, HasEntity, HasForm, IsBadMarkup, HasBadMarkup}
use Rattle.ror_elements.specs.References.{entity, number_of, chosen, character_of}
use Rattle.ror_elements.specs.Tags.{root_name}
use Rattle.ror_elements.proofs.Declared.{known}
use Rattle.ror_elements.proofs.DeclaredBack.{foreign_declared, question_says_nothing}
use Rattle.ror_elements.proofs.DepthLemmas.{IsPlaced, read-placed, none_open}
use Rattle.ror_elements.proofs.BackContent.{last_off}
use Rattle.ror_elements.proofs.EndsLemmas.{question_before}
use Rattle.ror_elements.proofs.FaultWords.{IsInHome, Refers, open_names, Begun, Mismatches, Deepens, Encodes, NamesNothing, Misnames, Misplaces, Fails, Goes}
use Rattle.ror_elements.proofs.LawLemmas.{gives_the_first_fault, lines_are_counted, without_mark-IsUtf8}
use Rattle.ror_elements.proofs.NameLemmas.{named, decimal_number, hexadecimal_number}
use Rattle.ror_elements.proofs.PlainReader.{read-clean}
use Rattle.ror_elements.proofs.TextLemmas.{cut_front}
use Rattle.ror_elements.proofs.FaultFronts.{IsText, clean_behind, tag_stands, none_open-below, count_names, reached-holds, read-goes, before_of, behind_of, whole_is, front_utf8, stands, stands_outside}
use Rattle.ror_elements.proofs.FaultEnds.{cut_at, readable}

-- ---- the kinds

mismatched : (text seen after : List ℕ) (line : ℕ) → IsText text seen after → Mismatches seen line → HasMismatched text line
mismatched text seen after line t m = by m.top m.below m.begun m.inside m.other
  where
    by : (top : Open) (below : List Open) → Begun seen line top below (60 ∷ 47 ∷ m.name ++ m.next ∷ []) → is_none below ≡ false → ¬ (m.name ≡ top.name) → HasMismatched text line
    by top [] b inside other = absurd cc
    by top (around ∷ outer) b inside other = record {
      name = m.name;
      opened = top.name;
      around = open_names around outer;
      next = m.next;
      is_name = m.is_name;
      ends = m.ends;
      other = other;
      stands = stands text seen after line top (around ∷ outer) 60 (47 ∷ m.name ++ m.next ∷ []) (omega arith) t b;
    }

too_deep : (text seen after : List ℕ) (line : ℕ) → IsText text seen after → Deepens seen line → HasTooDeep text line
too_deep text seen after line t d =
    let g = d.begun in
    let placed : IsPlaced (record g.like { mode = g.mode; line = line; top = d.top; below = d.below }) = subst (λ result. IfOk result IsPlaced) g.reads (read_all_keeps IsPlaced read read-placed nothing_read g.front none_open) in
    let few : length d.below ≤ 64 = placed.is_open.few in
    record {
      name = d.name;
      around = open_names d.top d.below;
      next = d.next;
      is_name = d.is_name;
      begins = d.begins;
      ends = d.ends;
      deep = omega (arith, d.many, few, count_names d.top d.below);
      stands = stands text seen after line d.top d.below 60 (d.name ++ d.next ∷ []) (omega arith) t g;
    }

encoding : (text seen after : List ℕ) (line : ℕ) → IsText text seen after → Encodes seen line → HasEncoding text line
encoding text seen after line t e =
    let b = question_before (e.inside ++ 62 ∷ []) false e.ends in
    let inside : e.inside ≡ b.bytes ++ 63 ∷ [] = last_off e.inside (b.bytes ++ 63 ∷ []) 62 (b.split ∙ sym (append_assoc b.bytes (63 ∷ []) (62 ∷ []))) in
    let d = foreign_declared b.bytes (sym (question_says_nothing b.bytes) ∙ ap (λ (xs : List ℕ). is_foreign (known nothing_declared xs)) (sym inside) ∙ e.foreign) in
    record {
      first = 60 ∷ 63 ∷ b.bytes ++ 63 ∷ 62 ∷ [];
      rest = after;
      inside = b.bytes;
      encoding = d.0;
      whole = t.split ∙ ap (λ (xs : List ℕ). xs ++ after) (e.split ∙ ap (λ (xs : List ℕ). 60 ∷ 63 ∷ xs) b.split);
      clean = subst IsClean (e.split ∙ ap (λ (xs : List ℕ). 60 ∷ 63 ∷ xs) b.split) t.clean;
      is_instruction = IsInstruction.instruction b.bytes b.is_first;
      declares = d.1;
      foreign = d.2;
      is_line = e.first;
    }

no_character : (name : List ℕ) (character : ℕ) → entity name ≡ None → number_of name ≡ None → character_of 1 name ≡ Ok character → ⊥
unfolding character_of
no_character name character a b e = by (is_none name) (entity name) (number_of name) a b e
  where
    by : (none : Bool) (x y : Option ℕ) → x ≡ None → y ≡ None → (refuse (fault kinds.BadMarkup 1) none >>= λ _. chosen 1 x y) ≡ Ok character → ⊥
    by true x y f g h = absurd cc
    by false (Some x) y f g h = absurd cc
    by false None (Some y) f g h = absurd cc
    by false None None f g h = absurd cc

no_number : (name digits : List ℕ) (code : ℕ) → number_of name ≡ None → number_of digits ≡ Some code → ¬ (name ≡ digits)
no_number name digits code none some = λ same. let clash = sym none ∙ ap number_of same ∙ some in absurd cc

-- where a reference stands
refers_at : (text seen after : List ℕ) (line : ℕ) (bytes : List ℕ) → IsText text seen after → Refers seen line (38 ∷ bytes) → RefersAt text line (38 ∷ bytes)
refers_at text seen after line bytes t r = by r.home r.place
  where
    in_text : (top : Open) (below : List Open) → Begun seen line top below (38 ∷ bytes) → is_none below ≡ false → RefersAt text line (38 ∷ bytes)
    in_text top [] g inside = absurd cc
    in_text top (around ∷ outer) g inside = RefersAt.in_text top.name (open_names around outer) (stands text seen after line top (around ∷ outer) 38 bytes (omega arith) t g)

    by : (home : Home) → IsInHome home seen r.reader (38 ∷ bytes) → RefersAt text line (38 ∷ bytes)
    by homes.Text h = in_text r.reader.top r.reader.below (subst (λ l. Begun seen l r.reader.top r.reader.below (38 ∷ bytes)) r.is_line h.0) h.1
    by (homes.Value quote) v =
        let n = v.naming in
        let s = tag_stands text seen after r.reader.start r.reader.top r.reader.below r.reader.tag.name n.names _ t n.tagged in
        RefersAt.in_value (open_names r.reader.top r.reader.below) n.names n.tagged.bytes r.reader.tag.name _ r.reader.start r.referred.before s.0
        (IsInValue.behind n.gap n.name v.before v.after v.written v.value quote n.is_gap n.is_name n.distinct v.is_before v.is_after v.is_value)
        (subst (λ (xs : List ℕ). text ≡ r.referred.before ++ (38 ∷ bytes ++ xs)) (sym s.1) (whole_is text seen after r.referred.before (38 ∷ bytes) t.split r.referred.split)) r.referred.is_line

entity_fault : (text seen after : List ℕ) (line : ℕ) → IsText text seen after → NamesNothing seen line → HasEntity text line
entity_fault text seen after line t n = (
  n.name,
  record {
    are = n.are;
    some = n.some;
    unnamed = λ character h. no_character n.name character n.no_entity n.no_number (named 1 n.name character h);
    no_decimal = λ digits h. no_number n.name (35 ∷ digits) _ n.no_number (decimal_number digits h);
    no_hexadecimal = λ digits h. no_number n.name (35 ∷ 120 ∷ digits) _ n.no_number (hexadecimal_number digits h);
  },
  refers_at text seen after line (n.name ++ 59 ∷ []) t n.refers,
)

form : (text seen after : List ℕ) (line : ℕ) → IsText text seen after → Misnames seen line → HasForm text line
form text seen after line t m = by m.ending m.bytes m.name m.id m.is_tag m.begun m.is_ending m.other
  where
    by : (ending bytes name : List ℕ) (id : Option (List ℕ)) → IsTag ending bytes name id → Begun seen line m.top m.below bytes → (ending ≡ 62 ∷ []) ⊎ (ending ≡ 47 ∷ 62 ∷ []) → ¬ (local_name name ≡ root_name) → HasForm text line
    by ending bytes name id (IsTag.tag same written space list n b a d s) g is_ending other = record {
      front = g.front;
      tag = 60 ∷ same ++ (written ++ (space ++ ending));
      after = after;
      ending = ending;
      name = same;
      id = _;
      whole = whole_is text seen after g.front _ t.split g.split;
      is_front = before_of g.mode g.front line m.top m.below g.like g.reads g.between g.stacked (front_utf8 text seen after g.front _ 60 (omega arith) t g.split) m.outside m.first;
      clean = clean_behind g.front _ (subst IsClean g.split t.clean);
      is_ending = is_ending;
      is_tag = IsTag.tag same written space list n b a d s;
      other = other;
      is_line = lines_are_counted g.front _ g.reads;
    }

-- markup begins with an ASCII byte, but for text outside the root
first_low : (names : List (List ℕ)) (bytes : List ℕ) → IsBadMarkup names bytes → ((b : ℕ) × (piece : List ℕ) × (bytes ≡ b ∷ piece) × (b < 128)) ⊎ (names ≡ [])
first_low names bytes (IsBadMarkup.outside byte dark other) = inr refl
first_low names bytes (IsBadMarkup.no_markup some byte a b c d) = inl (60, _, refl, omega arith)
first_low names bytes (IsBadMarkup.no_opening some byte a b c) = inl (60, _, refl, omega arith)
first_low names bytes (IsBadMarkup.other_opening some opening first more there byte a b c) = inl (60, _, refl, omega arith)
first_low names bytes IsBadMarkup.end_outside = inl (60, _, refl, omega arith)
first_low names bytes IsBadMarkup.section_outside = inl (60, _, refl, omega arith)
first_low names bytes (IsBadMarkup.end_unnamed some byte a) = inl (60, _, refl, omega arith)
first_low names bytes (IsBadMarkup.end_unended opened space some byte a b c d) = inl (60, _, refl, omega arith)

markup_stands : (text seen after : List ℕ) (line : ℕ) (top : Open) (below : List Open) (bytes : List ℕ) → IsText text seen after → Begun seen line top below bytes → IsBadMarkup (open_names top below) bytes → StandsAt text line (open_names top below) bytes
markup_stands text seen after line top below bytes t g bad = elim (first_low (open_names top below) bytes bad) [
  | inl (b, piece, e, low) ↦ subst (StandsAt text line (open_names top below)) (sym e) (stands text seen after line top below b piece low t (subst (Begun seen line top below) e g))
  | inr none ↦ stands_outside text seen after line top below bytes (none_open-below top below none) t g
]

-- what is clean holds no control byte
no_control : (before : List ℕ) (byte : ℕ) → is_control byte ≡ true → IsClean (before ++ byte ∷ []) → ⊥
no_control [] byte is clean = true≢false (sym is ∙ clean.0)
no_control (first ∷ before) byte is clean = no_control before byte is clean.1

bad_markup : (text seen after : List ℕ) (line : ℕ) → IsText text seen after → Misplaces seen line → HasBadMarkup text line
bad_markup text seen after line t (Misplaces.control before byte split is e) = absurd (no_control before byte is (subst IsClean split t.clean))
bad_markup text seen after line t (Misplaces.no_tag top below name names rest g bad) = HasBadMarkup.in_tag (open_names top below) names g.bytes name rest (tag_stands text seen after line top below name names rest t g).0 bad
bad_markup text seen after line t (Misplaces.markup top below bytes g bad) = HasBadMarkup.markup (open_names top below) bytes bad (markup_stands text seen after line top below bytes t g bad)
bad_markup text seen after line t (Misplaces.second_root top below byte g closed named no_mark no_question) =
    HasBadMarkup.second_root g.front after byte (whole_is text seen after g.front (60 ∷ byte ∷ []) t.split g.split)
    (behind_of g.mode g.front line top below g.like g.reads g.between (front_utf8 text seen after g.front (byte ∷ []) 60 (omega arith) t g.split) closed) named no_mark no_question (lines_are_counted g.front _ g.reads)
bad_markup text seen after line t (Misplaces.reference bytes r bad) = HasBadMarkup.reference bytes bad (refers_at text seen after line bytes t r)

-- ---- the fault of a text

by_kind : (kind : ElementKind) (bytes seen after : List ℕ) (line : ℕ) → IsUtf8 bytes → IsText (without_mark bytes) seen after → Fails kind seen line → HasFault kind bytes line
by_kind kinds.NotUtf8 bytes seen after line u t f = absurd f
by_kind kinds.Form bytes seen after line u t f = (u, form (without_mark bytes) seen after line t f)
by_kind kinds.BadMarkup bytes seen after line u t f = (u, bad_markup (without_mark bytes) seen after line t f)
by_kind kinds.TooDeep bytes seen after line u t f = (u, too_deep (without_mark bytes) seen after line t f)
by_kind kinds.Unclosed bytes seen after line u t f = absurd f
by_kind kinds.Mismatched bytes seen after line u t f = (u, mismatched (without_mark bytes) seen after line t f)
by_kind kinds.Doctype bytes seen after line u t f = (u, (open_names f.0 f.1, stands (without_mark bytes) seen after line f.0 f.1 60 _ (omega arith) t f.2))
by_kind kinds.Encoding bytes seen after line u t f = (u, encoding (without_mark bytes) seen after line t f)
by_kind kinds.Entity bytes seen after line u t f = (u, entity_fault (without_mark bytes) seen after line t f)

end_fault : (r : Reader) (first : ElementFault) → finish r ≡ Err first → fault kinds.Unclosed r.line ≡ first
unfolding finish
end_fault r first e = elim (bind_err (refuse (fault kinds.Unclosed r.line) (not (is_between r.mode))) _ first e) [
  | inl open_construct ↦ sym (refuse_err (fault kinds.Unclosed r.line) first (not (is_between r.mode)) open_construct).1
  | inr more ↦ elim (bind_err (refuse (fault kinds.Unclosed r.line) (not (is_outside r))) _ first more.2) [
    | inl inside ↦ sym (refuse_err (fault kinds.Unclosed r.line) first (not (is_outside r)) inside).1
    | inr last ↦ sym (need_err (fault kinds.Unclosed r.line) first (last_of r.top.children) last.2).1
  ]
]

clean_more : (before : List ℕ) (byte : ℕ) → IsClean before → is_control byte ≡ false → IsClean (before ++ byte ∷ [])
clean_more [] byte clean is = (is, tt)
clean_more (first ∷ before) byte clean is = (clean.0, clean_more before byte clean.1 is)

pub control_low : (byte : ℕ) → is_control byte ≡ true → byte < 128
control_low byte is = by (nat_lt byte 32) (not (is_white byte)) (ltb-true byte 32) is
  where
    by : (low dark : Bool) → (low ≡ true → byte < 32) → (low && dark) ≡ true → byte < 128
    by true dark h e = let small = h refl in omega arith
    by false dark h e = absurd cc

control_at : (bytes before after : List ℕ) (byte : ℕ) (reached : Reader) (first : ElementFault) → IsUtf8 bytes → without_mark bytes ≡ before ++ byte ∷ after → IsReached before reached → read reached byte ≡ Err first → is_control byte ≡ true → HasFault first.kind bytes first.line
unfolding read
control_at bytes before after byte reached first u split reads fails control =
    let same : fault kinds.BadMarkup reached.line ≡ first = by (is_control byte) control fails in
    let utf8 = cut_front before after byte (control_low byte control) (subst IsUtf8 split (without_mark-IsUtf8 bytes u)) in
    subst (λ (f : ElementFault). HasFault f.kind bytes f.line) same (u, HasBadMarkup.control before after byte split (readable before reached utf8 reads) control (lines_are_counted before reached reads))
  where
    by : (test : Bool) → test ≡ true → (refuse (fault kinds.BadMarkup reached.line) test >>= λ _. act reached byte >>= λ next. Ok (record next { line = line_after reached.line byte })) ≡ Err first → fault kinds.BadMarkup reached.line ≡ first
    by true e f = cc
    by false e f = absurd cc

of_first : (bytes : List ℕ) (first : ElementFault) → IsFirstFaultOf bytes first → HasFault first.kind bytes first.line
of_first bytes first (not_utf8 bad e) = subst (λ (f : ElementFault). HasFault f.kind bytes f.line) (sym e) (bad, refl)
of_first bytes first (at_byte before after byte reached u split reads fails) = elim (cases_Bool (is_control byte)) [
  | inl control ↦ control_at bytes before after byte reached first u split reads fails control
  | inr clean ↦
      let whole : without_mark bytes ≡ (before ++ byte ∷ []) ++ after = split ∙ sym (append_assoc before (byte ∷ []) after) in
      let goes : Goes (before ++ byte ∷ []) (Err first) = subst (Goes (before ++ byte ∷ [])) fails (read-goes before reached byte reads (reached-holds before reached reads)) in
      by_kind first.kind bytes (before ++ byte ∷ []) after first.line u (record { utf8 = without_mark-IsUtf8 bytes u; split = whole; clean = clean_more before byte (read-clean before nothing_read reached reads) clean }) goes
]
of_first bytes first (at_end reached u reads fails) =
    subst (λ (f : ElementFault). HasFault f.kind bytes f.line) (end_fault reached first fails) (u, (cut_at (without_mark bytes) reached first (without_mark-IsUtf8 bytes u) reads fails, lines_are_counted (without_mark bytes) reached reads))

pub faults_are_what_they_say : FaultsAreWhatTheySay
faults_are_what_they_say bytes first e = of_first bytes first ((gives_the_first_fault bytes first).0 e)
