-- A front of a text is read, with its elements open.
use Rattle.std.proofs.Common.{◌≡◌, ℕ, zero, suc, Bool, true, false, not, List, [], ◌∷◌, ◌++◌, append_assoc, length, Some, Result, Ok, Err, refl, sym, ap, subst, ◌∙◌, inl, inr}
use Rattle.std.specs.Prelude.{◌⊎◌, ◌==◌, nat_le, codes}
use Rattle.std.specs.List.{AllByRecursion, list_any}
use Rattle.std.specs.Str.{bytes_eq}
use Rattle.std.proofs.lemmas.Bool.{cases_Bool, true≢false}
use Rattle.std.proofs.lemmas.Slice.Eq.{bytes_eq-Decides}
use Rattle.ror_text.specs.Reading.{◌>>=◌, refuse, read_all}
use Rattle.ror_text.proofs.ReadingLemmas.{bind_ok, bind-at_ok, refuse_ok}
use Rattle.ror_elements.specs.declared.element.ElementFault.{ElementFault}
use Rattle.ror_elements.specs.declared.element.ElementKind.TheVariants as kinds
use Rattle.ror_elements.specs.declared.mode.Mode.{Mode}
use Rattle.ror_elements.specs.declared.mode.Mode.TheVariants as modes
use Rattle.ror_elements.specs.declared.mode.Opening.{Opening}
use Rattle.ror_elements.specs.declared.mode.Opening.TheVariants as openings
use Rattle.ror_elements.specs.declared.mode.Quote.TheVariants as quotes
use Rattle.ror_elements.specs.declared.mode.Seen.TheVariants as marks
use Rattle.ror_elements.specs.declared.open.Open.{Open}
use Rattle.ror_elements.specs.declared.reader.Reader.{Reader}
use Rattle.ror_elements.specs.Faults.{fault}
use Rattle.ror_elements.specs.Elements.{finish}
use Rattle.ror_elements.specs.Grammar.{IsName, IsEndTag, DeclaresUtf8, line_behind}
use Rattle.ror_elements.specs.Marks.{is_name_byte}
use Rattle.ror_elements.specs.Mode.{opening_text, is_byte_at, is_between}
use Rattle.ror_elements.specs.Open.{is_none}
use Rattle.ror_elements.specs.Reader.{bad, nothing_read, whole_text, in_content, begin_tag, in_first_markup, in_markup, in_exclamation, in_beginning, in_comment, in_section, in_first_instruction, in_instruction, in_reference}
use Rattle.ror_elements.specs.Refusals.{IsRooted, end_tag, end_tags}
use Rattle.ror_elements.specs.Tags.{begin_attribute, in_tag, in_start_name, add_name, after_attribute_name, in_attribute_name, before_value, in_value}
use Rattle.ror_elements.specs.Tree.{Tree}
use Rattle.ror_elements.proofs.ContentRuns.{element-goes}
use Rattle.ror_elements.proofs.ElementRuns.{in_end, end_name-run, some_name, end_tag-goes}
use Rattle.ror_elements.proofs.FaultFronts.{closed_name}
use Rattle.ror_elements.proofs.FaultWords.{open_names}
use Rattle.ror_elements.proofs.PlainReader.{plain, plain_act_in, plain_after_end_name, plain_in_end_name, plain_in_empty_tag, run, around_closed}
use Rattle.ror_elements.proofs.ReadsLemmas.{element_first, behind_root}
use Rattle.ror_elements.proofs.Runs.{line_at, line_at-is, at}
use Rattle.ror_elements.proofs.StartRuns as start
use Rattle.ror_elements.proofs.TagRuns.{not_named}

-- ---- runs in two parts

pub run_split : (xs ys : List ℕ) (r last : Reader) → run r (xs ++ ys) ≡ Ok last → (m : Reader) × (run r xs ≡ Ok m) × (run m ys ≡ Ok last)
unfolding run
run_split [] ys r last e = (r, refl, e)
run_split (x ∷ xs) ys r last e =
    let first = bind_ok (plain r x) (λ next. read_all plain next (xs ++ ys)) last e in
    let rest = run_split xs ys first.0 last first.2 in
    (rest.0, bind-at_ok (plain r x) (λ next. read_all plain next xs) first.0 first.1 ∙ rest.1, rest.2)

-- what is whole is read
pub rooted_reads : (text : List ℕ) (d : IsRooted text) → (run nothing_read text >>= finish) ≡ Ok d.root
rooted_reads text d =
    let line = line_at 1 d.before in
    let first = start.before-run d.before (d.element ++ d.after) d.is_before (element_first 0 (Some []) (line_behind 1 d.before) d.element d.after (d.root ∷ []) d.is_root) (subst (λ (t : List ℕ). DeclaresUtf8 t) d.whole d.declared) in
    let element = element-goes 0 (Some []) (line_behind 1 d.before) d.element (d.root ∷ []) d.is_root whole_text [] first.0 refl refl (d.root, refl, refl, d.is_named) in
    ap (λ (t : List ℕ). run nothing_read t >>= finish) d.whole
    ∙ ap (λ reading. reading >>= finish) (first.1 ∙ ap (λ l. run (at modes.Content l whole_text [] first.0) (d.element ++ d.after)) (line_at-is 1 d.before) ∙ element.1 d.after)
    ∙ behind_root d.after (line_at (line_behind 1 d.before) d.element) d.root element.0 d.is_after

-- ---- a `<` in the middle of a construct

abbrev IsErr : Result Reader ElementFault → Type 0
IsErr (Ok r) = ⊥
IsErr (Err f) = Unit {0}

either_err : (f : ElementFault) (test : Bool) (rest : Result Reader ElementFault) → IsErr rest → IsErr (refuse f test >>= λ _. rest)
either_err f true rest h = tt
either_err f false rest h = h

into_err : (f : ElementFault) (test : Bool) (x : Reader) (g : Reader → Result Reader ElementFault) → IsErr (g x) → IsErr ((refuse f test >>= λ _. Ok x) >>= g)
into_err f true x g h = tt
into_err f false x g h = h

-- in the middle of what a `<` can't stand in, and not of what passes over all but its end
abbrev Stops : Mode → Type 0
Stops modes.Start = ⊥
Stops modes.Content = ⊥
Stops (modes.Comment before) = ⊥
Stops (modes.Section before) = ⊥
Stops (modes.FirstInstruction question) = ⊥
Stops (modes.Instruction question) = ⊥
Stops _ = Unit {0}

no_bracket : (text : List ℕ) (count : ℕ) → AllByRecursion (λ byte. (byte == 60) ≡ false) text → is_byte_at text count 60 ≡ false
no_bracket [] count h = refl
no_bracket (x ∷ text) zero h = h.0
no_bracket (x ∷ text) (suc count) h = no_bracket text count h.1

opening_brackets : (opening : Opening) → AllByRecursion (λ byte. (byte == 60) ≡ false) (opening_text opening)
opening_brackets openings.Comment = (refl, (refl, tt))
opening_brackets openings.Section = (refl, (refl, (refl, (refl, (refl, (refl, (refl, tt)))))))
opening_brackets openings.Doctype = (refl, (refl, (refl, (refl, (refl, (refl, (refl, tt)))))))

beginning_stops : (opening : Opening) (count : ℕ) (r : Reader) → IsErr (in_beginning opening count r 60)
unfolding in_beginning
beginning_stops opening count r = rw (no_bracket (opening_text opening) count (opening_brackets opening)) tt

bracket_stops : (mode : Mode) (r : Reader) → Stops mode → IsErr (plain_act_in mode r 60)
unfolding in_first_markup in_markup begin_tag in_exclamation plain_in_end_name plain_after_end_name in_start_name in_tag begin_attribute plain_in_empty_tag in_attribute_name add_name after_attribute_name before_value in_value in_reference
bracket_stops modes.Start r h = absurd h
bracket_stops modes.Content r h = absurd h
bracket_stops (modes.Comment before) r h = absurd h
bracket_stops (modes.Section before) r h = absurd h
bracket_stops (modes.FirstInstruction question) r h = absurd h
bracket_stops (modes.Instruction question) r h = absurd h
bracket_stops modes.FirstMarkup r h = tt
bracket_stops modes.Markup r h = tt
bracket_stops modes.Exclamation r h = tt
bracket_stops (modes.Beginning opening count) r h = beginning_stops opening count r
bracket_stops modes.EndName r h = either_err _ (is_none r.piece) _ (either_err _ (not (bytes_eq r.piece r.top.name)) _ tt)
bracket_stops modes.AfterEndName r h = tt
bracket_stops modes.StartName r h = either_err (fault kinds.TooDeep r.start) (nat_le 64 (length r.below)) _ tt
bracket_stops (modes.Tag spaced) r h = either_err _ (not spaced) _ tt
bracket_stops modes.EmptyTag r h = tt
bracket_stops modes.AttributeName r h = into_err _ (list_any (bytes_eq r.piece) r.tag.names) _ _ tt
bracket_stops modes.AfterAttributeName r h = tt
bracket_stops modes.BeforeValue r h = tt
bracket_stops (modes.Value quotes.Single) r h = tt
bracket_stops (modes.Value quotes.Double) r h = tt
bracket_stops (modes.Reference home) r h = tt

-- ---- what passes over all but its end

abbrev Passes : Mode → Type 0
Passes (modes.Comment before) = Unit {0}
Passes (modes.Section before) = Unit {0}
Passes (modes.FirstInstruction question) = Unit {0}
Passes (modes.Instruction question) = Unit {0}
Passes _ = ⊥

abbrev PassesOn : Result Reader ElementFault → Type 0
PassesOn (Ok r) = Passes r.mode
PassesOn (Err f) = Unit {0}

-- a byte other than `>`
pass_in : (mode : Mode) (r : Reader) (byte : ℕ) → Passes mode → (byte == 62) ≡ false → PassesOn (plain_act_in mode r byte)
unfolding in_comment in_section in_first_instruction in_instruction
pass_in (modes.Comment marks.Nothing) r byte h e = tt
pass_in (modes.Comment marks.One) r byte h e = tt
pass_in (modes.Comment marks.Two) r byte h e = rw e tt
pass_in (modes.Section marks.Nothing) r byte h e = tt
pass_in (modes.Section marks.One) r byte h e = tt
pass_in (modes.Section marks.Two) r byte h e = rw e tt
pass_in (modes.FirstInstruction false) r byte h e = tt
pass_in (modes.FirstInstruction true) r byte h e = rw e tt
pass_in (modes.Instruction false) r byte h e = tt
pass_in (modes.Instruction true) r byte h e = rw e tt
pass_in modes.Start r byte h e = absurd h
pass_in modes.Content r byte h e = absurd h
pass_in modes.FirstMarkup r byte h e = absurd h
pass_in modes.Markup r byte h e = absurd h
pass_in modes.Exclamation r byte h e = absurd h
pass_in (modes.Beginning opening count) r byte h e = absurd h
pass_in modes.EndName r byte h e = absurd h
pass_in modes.AfterEndName r byte h e = absurd h
pass_in modes.StartName r byte h e = absurd h
pass_in (modes.Tag spaced) r byte h e = absurd h
pass_in modes.EmptyTag r byte h e = absurd h
pass_in modes.AttributeName r byte h e = absurd h
pass_in modes.AfterAttributeName r byte h e = absurd h
pass_in modes.BeforeValue r byte h e = absurd h
pass_in (modes.Value quote) r byte h e = absurd h
pass_in (modes.Reference home) r byte h e = absurd h

-- nothing of its end was seen
abbrev Calm : Mode → Type 0
Calm (modes.Comment marks.Nothing) = Unit {0}
Calm (modes.Section marks.Nothing) = Unit {0}
Calm (modes.FirstInstruction false) = Unit {0}
Calm (modes.Instruction false) = Unit {0}
Calm _ = ⊥

abbrev CalmOn : Result Reader ElementFault → Type 0
CalmOn (Ok r) = Calm r.mode
CalmOn (Err f) = Unit {0}

blank_in : (mode : Mode) (r : Reader) → Passes mode → CalmOn (plain_act_in mode r 32)
unfolding in_comment in_section in_first_instruction in_instruction
blank_in (modes.Comment marks.Nothing) r h = tt
blank_in (modes.Comment marks.One) r h = tt
blank_in (modes.Comment marks.Two) r h = tt
blank_in (modes.Section marks.Nothing) r h = tt
blank_in (modes.Section marks.One) r h = tt
blank_in (modes.Section marks.Two) r h = tt
blank_in (modes.FirstInstruction false) r h = tt
blank_in (modes.FirstInstruction true) r h = tt
blank_in (modes.Instruction false) r h = tt
blank_in (modes.Instruction true) r h = tt
blank_in _ r h = absurd h

slash_in : (mode : Mode) (r : Reader) → Passes mode → CalmOn (plain_act_in mode r 47)
unfolding in_comment in_section in_first_instruction in_instruction
slash_in (modes.Comment marks.Nothing) r h = tt
slash_in (modes.Comment marks.One) r h = tt
slash_in (modes.Comment marks.Two) r h = tt
slash_in (modes.Section marks.Nothing) r h = tt
slash_in (modes.Section marks.One) r h = tt
slash_in (modes.Section marks.Two) r h = tt
slash_in (modes.FirstInstruction false) r h = tt
slash_in (modes.FirstInstruction true) r h = tt
slash_in (modes.Instruction false) r h = tt
slash_in (modes.Instruction true) r h = tt
slash_in _ r h = absurd h

end_in : (mode : Mode) (r : Reader) → Calm mode → PassesOn (plain_act_in mode r 62)
unfolding in_comment in_section in_first_instruction in_instruction
end_in (modes.Comment marks.Nothing) r h = tt
end_in (modes.Section marks.Nothing) r h = tt
end_in (modes.FirstInstruction false) r h = tt
end_in (modes.Instruction false) r h = tt
end_in (modes.Comment marks.One) r h = absurd h
end_in (modes.Comment marks.Two) r h = absurd h
end_in (modes.Section marks.One) r h = absurd h
end_in (modes.Section marks.Two) r h = absurd h
end_in (modes.FirstInstruction true) r h = absurd h
end_in (modes.Instruction true) r h = absurd h
end_in _ r h = absurd h

-- what is acted is read, but for the line
acted : (P : Mode → Type 0) (r next : Reader) (byte : ℕ) → ((acted : Reader) → plain_act_in r.mode r byte ≡ Ok acted → P acted.mode) → plain r byte ≡ Ok next → P next.mode
unfolding plain
acted P r next byte h e =
    let a = bind_ok (plain_act_in r.mode r byte) _ next e in
    let same : a.0.mode ≡ next.mode = mode_same a.0 next _ a.2 in
    subst P same (h a.0 a.1)
  where
    mode_same : (x y : Reader) (line : ℕ) → ◌≡◌ {A = Result Reader ElementFault} (Ok (record x { line = line })) (Ok y) → x.mode ≡ y.mode
    mode_same x y line e = cc

abbrev AreInside : List ℕ → Type 0
AreInside bytes = AllByRecursion (λ byte. (byte == 62) ≡ false) bytes

passes_bytes : (bytes : List ℕ) → AreInside bytes → (r last : Reader) → Passes r.mode → run r bytes ≡ Ok last → Passes last.mode
unfolding run
passes_bytes [] all r last h e = let same : r ≡ last = cc in subst (λ (x : Reader). Passes x.mode) same h
passes_bytes (byte ∷ bytes) all r last h e =
    let first = bind_ok (plain r byte) (λ next. read_all plain next bytes) last e in
    passes_bytes bytes all.1 first.0 last (acted Passes r first.0 byte (λ a f. subst PassesOn f (pass_in r.mode r byte h all.0)) first.1) first.2

-- a byte after which nothing of an end was seen, and `>`
passes_pair : (byte : ℕ) → ((mode : Mode) (r : Reader) → Passes mode → CalmOn (plain_act_in mode r byte)) → (r last : Reader) → Passes r.mode → run r (byte ∷ 62 ∷ []) ≡ Ok last → Passes last.mode
unfolding run
passes_pair byte calm r last h e =
    let first = bind_ok (plain r byte) (λ next. read_all plain next (62 ∷ [])) last e in
    let second = bind_ok (plain first.0 62) (λ next. read_all plain next []) last first.2 in
    let quiet : Calm first.0.mode = acted Calm r first.0 byte (λ a f. subst CalmOn f (calm r.mode r h)) first.1 in
    let there : Passes second.0.mode = acted Passes first.0 second.0 62 (λ a f. subst PassesOn f (end_in first.0.mode first.0 quiet)) second.1 in
    let same : second.0 ≡ last = ok_same second.0 last second.2 in
    subst (λ (x : Reader). Passes x.mode) same there
  where
    ok_same : (x y : Reader) → ◌≡◌ {A = Result Reader ElementFault} (Ok x) (Ok y) → x ≡ y
    ok_same x y e = cc

inside_name : (name : List ℕ) → AllByRecursion (λ byte. is_name_byte byte ≡ true) name → AreInside name
inside_name [] all = tt
inside_name (byte ∷ name) all = (not_named byte 62 all.0 refl, inside_name name all.1)

passes_tag : (name : List ℕ) → IsName name → (r last : Reader) → Passes r.mode → run r (end_tag name) ≡ Ok last → Passes last.mode
passes_tag name n r last h e =
    let parts = run_split (60 ∷ 47 ∷ name) (32 ∷ 62 ∷ []) r last e in
    passes_pair 32 blank_in parts.0 last (passes_bytes (60 ∷ 47 ∷ name) (refl, (refl, inside_name name n.0)) r parts.0 h parts.1) parts.2

passes_tags : (names : List (List ℕ)) → AllByRecursion IsName names → (r last : Reader) → Passes r.mode → run r (end_tags names) ≡ Ok last → Passes last.mode
passes_tags [] all r last h e = passes_bytes [] tt r last h e
passes_tags (name ∷ names) all r last h e =
    let parts = run_split (end_tag name) (end_tags names) r last e in
    passes_tags names all.1 parts.0 last (passes_tag name all.0 r parts.0 h parts.1) parts.2

passes_root : (r last : Reader) → Passes r.mode → run r (codes "<XMCDA/>") ≡ Ok last → Passes last.mode
passes_root r last h e =
    let parts = run_split (60 ∷ 88 ∷ 77 ∷ 67 ∷ 68 ∷ 65 ∷ []) (47 ∷ 62 ∷ []) r last e in
    passes_pair 47 slash_in parts.0 last (passes_bytes (60 ∷ 88 ∷ 77 ∷ 67 ∷ 68 ∷ 65 ∷ []) (refl, (refl, (refl, (refl, (refl, (refl, tt)))))) r parts.0 h parts.1) parts.2

passing_not_between : (mode : Mode) → Passes mode → is_between mode ≡ false
passing_not_between (modes.Comment before) h = refl
passing_not_between (modes.Section before) h = refl
passing_not_between (modes.FirstInstruction question) h = refl
passing_not_between (modes.Instruction question) h = refl
passing_not_between _ h = absurd h

-- what passes over all but its end is no end of a text
never_ends : (last : Reader) (root : Tree) → Passes last.mode → finish last ≡ Ok root → ⊥
unfolding finish
never_ends last root h e =
    let between = bind_ok (refuse _ (not (is_between last.mode))) _ root e in
    let is : not (is_between last.mode) ≡ false = refuse_ok _ (not (is_between last.mode)) between.0 between.1 in
    absurd (true≢false (ap not (sym (passing_not_between last.mode h)) ∙ is))

-- ---- where a construct may begin

mode_is : (mode : Mode) → ((mode ≡ modes.Start) ⊎ (mode ≡ modes.Content)) ⊎ (Stops mode ⊎ Passes mode)
mode_is modes.Start = inl (inl refl)
mode_is modes.Content = inl (inr refl)
mode_is (modes.Comment before) = inr (inr tt)
mode_is (modes.Section before) = inr (inr tt)
mode_is (modes.FirstInstruction question) = inr (inr tt)
mode_is (modes.Instruction question) = inr (inr tt)
mode_is modes.FirstMarkup = inr (inl tt)
mode_is modes.Markup = inr (inl tt)
mode_is modes.Exclamation = inr (inl tt)
mode_is (modes.Beginning opening count) = inr (inl tt)
mode_is modes.EndName = inr (inl tt)
mode_is modes.AfterEndName = inr (inl tt)
mode_is modes.StartName = inr (inl tt)
mode_is (modes.Tag spaced) = inr (inl tt)
mode_is modes.EmptyTag = inr (inl tt)
mode_is modes.AttributeName = inr (inl tt)
mode_is modes.AfterAttributeName = inr (inl tt)
mode_is modes.BeforeValue = inr (inl tt)
mode_is (modes.Value quote) = inr (inl tt)
mode_is (modes.Reference home) = inr (inl tt)

stopped : (r last : Reader) (bytes : List ℕ) → Stops r.mode → run r (60 ∷ bytes) ≡ Ok last → ⊥
unfolding run plain
stopped r last bytes h e =
    let first = bind_ok (plain r 60) (λ next. read_all plain next bytes) last e in
    let a = bind_ok (plain_act_in r.mode r 60) _ first.0 first.1 in
    subst IsErr a.1 (bracket_stops r.mode r h)

-- before the root's tag
pub before_mode : (r last : Reader) (root : Tree) → run r (codes "<XMCDA/>") ≡ Ok last → finish last ≡ Ok root → (r.mode ≡ modes.Start) ⊎ (r.mode ≡ modes.Content)
before_mode r last root e f = elim (mode_is r.mode) [
  | inl between ↦ between
  | inr other ↦ elim other [
    | inl stops ↦ absurd (stopped r last (88 ∷ 77 ∷ 67 ∷ 68 ∷ 65 ∷ 47 ∷ 62 ∷ []) stops e)
    | inr passes ↦ absurd (never_ends last root (passes_root r last passes e) f)
  ]
]

between_mode : (r : Reader) (root : Tree) → finish r ≡ Ok root → (r.mode ≡ modes.Start) ⊎ (r.mode ≡ modes.Content)
unfolding finish
between_mode r root f =
    let between = bind_ok (refuse _ (not (is_between r.mode))) _ root f in
    by r.mode refl (refuse_ok _ (not (is_between r.mode)) between.0 between.1)
  where
    by : (mode : Mode) → r.mode ≡ mode → not (is_between mode) ≡ false → (r.mode ≡ modes.Start) ⊎ (r.mode ≡ modes.Content)
    by modes.Start is e = inl is
    by modes.Content is e = inr is
    by _ is e = absurd (true≢false e)

-- before the end tags of what is open
pub open_mode : (names : List (List ℕ)) → AllByRecursion IsName names → (r last : Reader) (root : Tree) → run r (end_tags names) ≡ Ok last → finish last ≡ Ok root → (r.mode ≡ modes.Start) ⊎ (r.mode ≡ modes.Content)
unfolding run
open_mode [] all r last root e f = let same : r ≡ last = cc in between_mode r root (ap finish same ∙ f)
open_mode (name ∷ names) all r last root e f = elim (mode_is r.mode) [
  | inl between ↦ between
  | inr other ↦ elim other [
    | inl stops ↦ absurd (stopped r last (47 ∷ name ++ 32 ∷ 62 ∷ [] ++ end_tags names) stops e)
    | inr passes ↦ absurd (never_ends last root (passes_tags (name ∷ names) all r last passes e) f)
  ]
]

-- ---- the names of what is open

no_end_outside : (top : Open) (line : ℕ) (j last : Reader) (bytes : List ℕ) → run (at modes.Content line top [] j) (60 ∷ 47 ∷ bytes) ≡ Ok last → ⊥
unfolding run plain in_content in_markup
no_end_outside top line j last bytes e = absurd cc

other_name : (name : List ℕ) → IsName name → (line : ℕ) (top around : Open) (outer : List Open) (j last : Reader) (bytes : List ℕ) → bytes_eq name top.name ≡ false → run (at modes.Content line top (around ∷ outer) j) (end_tag name ++ bytes) ≡ Ok last → ⊥
unfolding run plain in_content in_markup plain_in_end_name
other_name name n line top around outer j last bytes differs e =
    let l = line_at line name in
    let goes : run (at modes.Content line top (around ∷ outer) j) (end_tag name ++ bytes) ≡ run (in_end name l line top (around ∷ outer) j) (32 ∷ 62 ∷ bytes) =
    ap (λ (xs : List ℕ). run (in_end [] line line top (around ∷ outer) j) xs) (append_assoc name (32 ∷ 62 ∷ []) bytes) ∙ end_name-run name n line line top around outer j (32 ∷ 62 ∷ bytes)
    in
    let fails : run (in_end name l line top (around ∷ outer) j) (32 ∷ 62 ∷ bytes) ≡ Ok last = sym goes ∙ e in
    refused (is_none name) (bytes_eq name top.name) (some_name name n.1) differs fails
  where
    refused : (none same : Bool) → none ≡ false → same ≡ false → (((refuse (bad (in_end name (line_at line name) line top (around ∷ outer) j)) none >>= λ _. (refuse (fault kinds.Mismatched line) (not same) >>= λ _. plain_after_end_name (in_end name (line_at line name) line top (around ∷ outer) j) 32)) >>= λ next. Ok (record next { line = line_at line name })) >>= λ next. read_all plain next (62 ∷ bytes)) ≡ Ok last → ⊥
    refused true same e f g = absurd cc
    refused false true e f g = absurd cc
    refused false false e f g = absurd cc

pub ended : (r last : Reader) → run r [] ≡ Ok last → r ≡ last
unfolding run
ended r last e = cc

pub unclosed : (top around : Open) (outer : List Open) (line : ℕ) (j : Reader) (root : Tree) → finish (at modes.Content line top (around ∷ outer) j) ≡ Ok root → ⊥
unfolding finish
unclosed top around outer line j root e = absurd cc

closed_open : (top around : Open) (outer : List Open) → open_names around outer ≡ open_names (around_closed top around) outer
closed_open top around [] = refl
closed_open top around (next ∷ outer) = ap (λ (name : List ℕ). name ∷ open_names next outer) (sym (closed_name top around))

same_names : (name : List ℕ) (names : List (List ℕ)) (top around : Open) (outer : List Open) → name ≡ top.name → open_names around outer ≡ names → top.name ∷ open_names around outer ≡ name ∷ names
same_names name names top around outer e f = ap (λ (n : List ℕ). n ∷ open_names around outer) (sym e) ∙ ap (λ (ns : List (List ℕ)). name ∷ ns) f

-- the end tags that make it whole are those of what is open
pub names_open : (names : List (List ℕ)) → AllByRecursion IsName names → (top : Open) (below : List Open) (line : ℕ) (j last : Reader) (root : Tree) → run (at modes.Content line top below j) (end_tags names) ≡ Ok last → finish last ≡ Ok root → open_names top below ≡ names
names_open [] all top [] line j last root e f = refl
names_open [] all top (around ∷ outer) line j last root e f = absurd (unclosed top around outer line j root (ap finish (ended (at modes.Content line top (around ∷ outer) j) last e) ∙ f))
names_open (name ∷ names) all top [] line j last root e f = absurd (no_end_outside top line j last _ e)
names_open (name ∷ names) all top (around ∷ outer) line j last root e f = elim (cases_Bool (bytes_eq name top.name)) [
  | inl same ↦
      let is : name ≡ top.name = (bytes_eq-Decides name top.name).0 same in
      let g = end_tag-goes (end_tag name) name (IsEndTag.end name (32 ∷ []) (refl, tt)) all.0 line top around outer j (sym is) in
      let later = names_open names all.1 (around_closed top around) outer (line_at line (end_tag name)) g.0 last root (sym (g.1 (end_tags names)) ∙ e) f in
      same_names name names top around outer is (closed_open top around outer ∙ later)
  | inr other ↦ absurd (other_name name all.0 line top around outer j last (end_tags names) other e)
]
