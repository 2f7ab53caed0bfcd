-- What is bad where nothing is open is given wherever a text has it.
use Rattle.std.proofs.Common.{◌≡◌, ℕ, true, false, List, [], ◌∷◌, ◌++◌, append_assoc, Ok, Err, refl, sym, ap, subst, ◌∙◌, arith, inl, inr}
use Rattle.std.specs.Prelude.{◌⊎◌, codes}
use Rattle.std.specs.Str.{IsUtf8}
use Rattle.std.proofs.lemmas.Bool.{cases_Bool, ne_eqb}
use Rattle.ror_text.specs.Reading.{need}
use Rattle.ror_text.proofs.ReadingLemmas.{bind_ok}
use Rattle.ror_elements.specs.declared.element.ElementKind.TheVariants as kinds
use Rattle.ror_elements.specs.declared.mode.Mode.{Mode}
use Rattle.ror_elements.specs.declared.mode.Mode.TheVariants as modes
use Rattle.ror_elements.specs.declared.open.Open.{Open}
use Rattle.ror_elements.specs.declared.reader.Reader.{Reader}
use Rattle.ror_elements.specs.Elements.{finish, elements_of, without_mark}
use Rattle.ror_elements.specs.Faults.{fault}
use Rattle.ror_elements.specs.Grammar.{line_behind}
use Rattle.ror_elements.specs.Marks.{is_white, is_control, is_name_byte}
use Rattle.ror_elements.specs.Open.{is_none, last_of}
use Rattle.ror_elements.specs.Reader.{nothing_read, at_start, in_content, outside, in_markup, begin_tag}
use Rattle.ror_elements.specs.Refusals.{IsBeforeRoot, IsFromRoot, IsFront, StandsAt, IsUnfinished, IsCut, end_tags}
use Rattle.ror_elements.specs.Tree.{Tree}
use Rattle.ror_elements.proofs.FaultFronts.{run_on}
use Rattle.ror_elements.proofs.FrontRuns.{run_split, rooted_reads, before_mode, open_mode, ended, unclosed}
use Rattle.ror_elements.proofs.GivenCuts.{control_given}
use Rattle.ror_elements.proofs.GivenFaults.{clean_append, front_clean, reached_by, start_only}
use Rattle.ror_elements.proofs.GivenForm.{inside_fails}
use Rattle.ror_elements.proofs.GivenFronts.{reached_part, Outside, open_outside, start_below}
use Rattle.ror_elements.proofs.GivenReferences.{given_by}
use Rattle.ror_elements.proofs.LawLemmas.{lines_are_counted, without_mark-IsUtf8}
use Rattle.ror_elements.proofs.PlainReader.{plain, run}
use Rattle.ror_elements.proofs.Runs.{line_at-is, line_at-append, at}
use Rattle.ror_elements.proofs.TagRuns.{not_named}
use Rattle.ror_elements.proofs.TextLemmas.{cut_front}

-- ---- what is no white space

none_inside : (line : ℕ) (top : Open) (below : List Open) (j last : Reader) (root : Tree) → run (at modes.Content line top below j) (codes "<XMCDA/>") ≡ Ok last → finish last ≡ Ok root → below ≡ []
none_inside line top [] j last root e f = refl
none_inside line top (around ∷ outer) j last root e f = absurd (inside_fails line top around outer j last root e f)

before_outside : (front rest : List ℕ) → IsUtf8 (front ++ rest) → IsBeforeRoot front → Outside front
before_outside front rest u h =
    let all = bind_ok (run nothing_read (front ++ codes "<XMCDA/>")) finish h.1.root (rooted_reads (front ++ codes "<XMCDA/>") h.1) in
    let parts = run_split front (codes "<XMCDA/>") nothing_read all.0 all.1 in
    let r = parts.0 in
    let mode = before_mode r all.0 h.1.root parts.2 all.2 in
    record {
      reader = r;
      runs = parts.1;
      mode = mode;
      below = elim mode [
        | inl is ↦ start_below front r (reached_part front rest r u h.0 parts.1) is
        | inr is ↦ none_inside r.line r.top r.below r all.0 h.1.root (subst (λ (m : Mode). run (record r { mode = m }) (codes "<XMCDA/>") ≡ Ok all.0) is parts.2) all.2
      ];
    }

front_outside : (front rest : List ℕ) (names : List (List ℕ)) → names ≡ [] → IsUtf8 (front ++ rest) → IsFront front names → Outside front
front_outside front rest names none u (IsFront.before_root h) = before_outside front rest u h
front_outside front rest names none u (IsFront.from_root some h) = open_outside front rest names none u h

dark_content : (byte line : ℕ) (top : Open) (j : Reader) → is_white byte ≡ false → ¬ (byte ≡ 60) → run (at modes.Content line top [] j) (byte ∷ []) ≡ Err (fault kinds.BadMarkup line)
unfolding run plain in_content outside
dark_content byte line top j dark a = rw (dark, ne_eqb byte 60 a) refl

dark_start : (byte line : ℕ) (top : Open) (j : Reader) → is_white byte ≡ false → ¬ (byte ≡ 60) → run (at modes.Start line top [] j) (byte ∷ []) ≡ Err (fault kinds.BadMarkup line)
unfolding run plain at_start in_content outside
dark_start byte line top j dark a = rw (dark, ne_eqb byte 60 a) refl

dark_fails : (byte : ℕ) (r : Reader) → (r.mode ≡ modes.Start) ⊎ (r.mode ≡ modes.Content) → r.below ≡ [] → is_white byte ≡ false → ¬ (byte ≡ 60) → run r (byte ∷ []) ≡ Err (fault kinds.BadMarkup r.line)
dark_fails byte r mode none dark a =
    subst (λ (below : List Open). run (record r { below = below }) (byte ∷ []) ≡ Err (fault kinds.BadMarkup r.line)) (sym none)
    (elim mode [
      | inl is ↦ subst (λ (m : Mode). run (record r { mode = m; below = [] }) (byte ∷ []) ≡ Err (fault kinds.BadMarkup r.line)) (sym is) (dark_start byte r.line r.top r dark a)
      | inr is ↦ subst (λ (m : Mode). run (record r { mode = m; below = [] }) (byte ∷ []) ≡ Err (fault kinds.BadMarkup r.line)) (sym is) (dark_content byte r.line r.top r dark a)
    ])

pub outside_given : (bytes : List ℕ) (line byte : ℕ) → IsUtf8 bytes → is_white byte ≡ false → ¬ (byte ≡ 60) → StandsAt (without_mark bytes) line [] (byte ∷ []) → elements_of bytes ≡ Err (fault kinds.BadMarkup line)
outside_given bytes line byte u dark a s =
    let text = subst IsUtf8 s.whole (without_mark-IsUtf8 bytes u) in
    let o = front_outside s.front (byte ∷ s.after) [] refl text s.is_front in
    let clean = front_clean s.front [] s.is_front in
    let reached = reached_part s.front (byte ∷ s.after) o.reader text clean o.runs in
    given_by bytes (s.front ++ byte ∷ []) s.after (fault kinds.BadMarkup line) u
    (s.whole ∙ sym (append_assoc s.front (byte ∷ []) s.after)) (clean_append s.front (byte ∷ []) clean s.clean)
    (run_on s.front (byte ∷ []) o.reader o.runs ∙ dark_fails byte o.reader o.mode o.below dark a
    ∙ ap (λ l. Err (fault kinds.BadMarkup l)) (lines_are_counted s.front o.reader reached ∙ sym s.is_line))

-- ---- a second root

second_at : (byte line : ℕ) (top : Open) (j : Reader) → is_none top.children ≡ false → is_name_byte byte ≡ true → ¬ (byte ≡ 33) → ¬ (byte ≡ 63) → run (at modes.Content line top [] j) (60 ∷ byte ∷ []) ≡ Err (fault kinds.BadMarkup line)
unfolding run plain in_content in_markup begin_tag
second_at byte line top j some is a b = rw (is, ne_eqb byte 33 a, ne_eqb byte 63 b, not_named byte 47 is refl, some) refl

root_there : (line : ℕ) (top : Open) (j : Reader) (root : Tree) → finish (at modes.Content line top [] j) ≡ Ok root → is_none top.children ≡ false
unfolding finish
root_there line top j root e = by top.children e
  where
    by : (trees : List Tree) → need (fault kinds.Unclosed line) (last_of trees) ≡ Ok root → is_none trees ≡ false
    by [] e = absurd cc
    by (t ∷ ts) e = refl

second_behind : (byte line : ℕ) (top : Open) (below : List Open) (j : Reader) (root : Tree) → finish (at modes.Content line top below j) ≡ Ok root → is_name_byte byte ≡ true → ¬ (byte ≡ 33) → ¬ (byte ≡ 63) → run (at modes.Content line top below j) (60 ∷ byte ∷ []) ≡ Err (fault kinds.BadMarkup line)
second_behind byte line top (around ∷ outer) j root e is a b = absurd (unclosed top around outer line j root e)
second_behind byte line top [] j root e is a b = second_at byte line top j (root_there line top j root e) is a b

nothing_whole : (root : Tree) → finish nothing_read ≡ Ok root → ⊥
unfolding finish
nothing_whole root e = absurd cc

clean_second : (bytes front after : List ℕ) (byte line : ℕ) → IsUtf8 bytes → without_mark bytes ≡ front ++ (60 ∷ byte ∷ after) → IsFromRoot front [] → is_name_byte byte ≡ true → ¬ (byte ≡ 33) → ¬ (byte ≡ 63) → line ≡ line_behind 1 front → is_control byte ≡ false → elements_of bytes ≡ Err (fault kinds.BadMarkup line)
clean_second bytes front after byte line u split h is a b lines clean =
    let text = subst IsUtf8 split (without_mark-IsUtf8 bytes u) in
    let front_u = cut_front front (byte ∷ after) 60 (omega arith) text in
    let d = h.is_rooted in
    let all = bind_ok (run nothing_read (front ++ end_tags [])) finish d.root (rooted_reads (front ++ end_tags []) d) in
    let parts = run_split front (end_tags []) nothing_read all.0 all.1 in
    let r = parts.0 in
    let whole : finish r ≡ Ok d.root = ap finish (ended r all.0 parts.2) ∙ all.2 in
    let reached = reached_by front r front_u h.clean parts.1 in
    given_by bytes (front ++ 60 ∷ byte ∷ []) after (fault kinds.BadMarkup line) u
    (split ∙ sym (append_assoc front (60 ∷ byte ∷ []) after)) (clean_append front (60 ∷ byte ∷ []) h.clean (refl, (clean, tt)))
    (elim (open_mode [] tt r all.0 d.root parts.2 all.2) [
      | inl start ↦
          let none = start_only front r reached start in
          let first : nothing_read ≡ r = ended nothing_read r (ap (run nothing_read) (sym none) ∙ parts.1) in
          absurd (nothing_whole d.root (ap finish first ∙ whole))
      | inr content ↦
          run_on front (60 ∷ byte ∷ []) r parts.1
          ∙ subst (λ (m : Mode). run (record r { mode = m }) (60 ∷ byte ∷ []) ≡ Err (fault kinds.BadMarkup r.line)) (sym content)
          (second_behind byte r.line r.top r.below r d.root (subst (λ (m : Mode). finish (record r { mode = m }) ≡ Ok d.root) content whole) is a b)
          ∙ ap (λ l. Err (fault kinds.BadMarkup l)) (lines_are_counted front r reached ∙ sym lines)
    ])

same_line : (front : List ℕ) → line_behind 1 front ≡ line_behind 1 (front ++ 60 ∷ [])
same_line front = sym (line_at-is 1 front) ∙ sym (line_at-append 1 front (60 ∷ [])) ∙ line_at-is 1 (front ++ 60 ∷ [])

pub second_given : (bytes front after : List ℕ) (byte line : ℕ) → IsUtf8 bytes → without_mark bytes ≡ front ++ (60 ∷ byte ∷ after) → IsFromRoot front [] → is_name_byte byte ≡ true → ¬ (byte ≡ 33) → ¬ (byte ≡ 63) → line ≡ line_behind 1 front → elements_of bytes ≡ Err (fault kinds.BadMarkup line)
second_given bytes front after byte line u split h is a b lines = elim (cases_Bool (is_control byte)) [
  | inl control ↦
      control_given bytes (front ++ 60 ∷ []) after byte line u (split ∙ sym (append_assoc front (60 ∷ []) (byte ∷ after)))
      (inr (IsCut.within front (60 ∷ []) [] refl (IsFront.from_root [] h) (refl, tt) (IsUnfinished.markup []))) control (lines ∙ same_line front)
  | inr clean ↦ clean_second bytes front after byte line u split h is a b lines clean
]
