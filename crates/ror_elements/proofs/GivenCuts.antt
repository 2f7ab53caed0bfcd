-- Texts that end too early are given as such, and bytes that are bad outside of markup.
use Rattle.std.proofs.Common.{◌≡◌, ℕ, true, List, [], ◌∷◌, ◌++◌, append-nil, Ok, Err, refl, sym, ap, subst, ◌∙◌, arith, inl, inr}
use Rattle.std.specs.Prelude.{◌⊎◌, codes}
use Rattle.std.specs.Str.{IsUtf8}
use Rattle.std.proofs.lemmas.Bool.{cases_Bool}
use Rattle.ror_text.specs.Reading.{need, read_all}
use Rattle.ror_text.proofs.ReadingLemmas.{bind_ok, bind-at_ok, bind-at_err, read_all-append}
use Rattle.ror_elements.specs.declared.element.ElementKind.TheVariants as kinds
use Rattle.ror_elements.specs.declared.mode.Mode.{Mode}
use Rattle.ror_elements.specs.declared.mode.Mode.TheVariants as modes
use Rattle.ror_elements.specs.declared.open.Open.{Open}
use Rattle.ror_elements.specs.declared.reader.Reader.{Reader}
use Rattle.ror_elements.specs.Elements.{read, finish, elements_of, without_mark}
use Rattle.ror_elements.specs.Faults.{fault}
use Rattle.ror_elements.specs.Grammar.{IsName, BeginsTag, Attribute, AreAttributes, line_behind}
use Rattle.ror_elements.specs.Laws.{IsReached}
use Rattle.ror_elements.specs.Marks.{is_control}
use Rattle.ror_elements.specs.Open.{is_none, last_of}
use Rattle.ror_elements.specs.Reader.{nothing_read, whole_text}
use Rattle.ror_elements.specs.Refusals.{IsClean, IsBeforeRoot, IsFromRoot, IsFront, TagStandsAt, IsUnfinished, IsUnfinishedRest, IsCut, IsReadable}
use Rattle.ror_elements.specs.Tree.{Tree}
use Rattle.ror_elements.proofs.ElementRuns.{in_start, start_name-run}
use Rattle.ror_elements.proofs.FaultFronts.{run_on, run_end}
use Rattle.ror_elements.proofs.FaultLemmas.{control_low}
use Rattle.ror_elements.proofs.FaultWords.{open_names}
use Rattle.ror_elements.proofs.FrontRuns.{run_split, rooted_reads, before_mode}
use Rattle.ror_elements.proofs.GivenFaults.{Known, KnownOpen, clean_append, known_open, front_clean, front_known, from_known, reached_by, start_only, open_is_content}
use Rattle.ror_elements.proofs.GivenForm.{inside_fails, second_fails}
use Rattle.ror_elements.proofs.GivenFronts.{reached_part, all_named}
use Rattle.ror_elements.proofs.GivenReferences.{in_text-refers}
use Rattle.ror_elements.proofs.GivenRests.{led_rest, written_ends}
use Rattle.ror_elements.proofs.GivenStuck.{Stuck, stuck_by, stuck_here, markup_left, first_markup_left, opening_left, comment_begun, section_begun, instruction_begun, in_comment_left, in_section_left, in_instruction_left, in_first_left, end_name_left, end_space_left, reference_left, rest_left, left_ends}
use Rattle.ror_elements.proofs.GivenTags.{EndsAName, led_tag, own_begins}
use Rattle.ror_elements.proofs.LawLemmas.{lines_are_counted, without_mark-IsUtf8, past_utf8}
use Rattle.ror_elements.proofs.PlainReader.{run}
use Rattle.ror_elements.proofs.Runs.{line_at, at}
use Rattle.ror_elements.proofs.StartRuns.{as_anywhere}
use Rattle.ror_elements.proofs.TagRuns.{names_of}
use Rattle.ror_elements.proofs.TextLemmas.{cut_front}

-- ---- from a front into what is begun

-- behind a front with nothing of a construct, or at the start
from_front : (front bytes : List ℕ) (k : Known front) → IsReached front k.reader → Stuck nothing_read bytes → ((line : ℕ) (top : Open) (below : List Open) (j : Reader) → Stuck (at modes.Content line top below j) bytes) → Stuck nothing_read (front ++ bytes)
from_front front bytes k reached first later = by k.mode
  where
    r : Reader
    r = k.reader

    by : (r.mode ≡ modes.Start) ⊎ (r.mode ≡ modes.Content) → Stuck nothing_read (front ++ bytes)
    by (inl is) = subst (λ (xs : List ℕ). Stuck nothing_read (xs ++ bytes)) (sym (start_only front r reached is)) first
    by (inr is) = stuck_by nothing_read r (front ++ bytes) bytes (run_on front bytes r k.runs) (subst (λ (m : Mode). Stuck (record r { mode = m }) bytes) (sym is) (later r.line r.top r.below r))

-- what begins with `<` and no `?`
as_begun : (byte : ℕ) (bytes : List ℕ) → ¬ (byte ≡ 63) → Stuck (at modes.Content 1 whole_text [] nothing_read) (60 ∷ byte ∷ bytes) → Stuck nothing_read (60 ∷ byte ∷ bytes)
as_begun byte bytes other s = stuck_by nothing_read (at modes.Content 1 whole_text [] nothing_read) (60 ∷ byte ∷ bytes) (60 ∷ byte ∷ bytes) (as_anywhere byte bytes other) s

no_question : ¬ (◌≡◌ {A = ℕ} 33 63)
no_question e = absurd (omega (arith, e))

-- in an element
from_open : (front bytes opened : List ℕ) (names : List (List ℕ)) (k : KnownOpen front (opened ∷ names)) → IsReached front k.reader
    → ((line : ℕ) (top around : Open) (outer : List Open) (j : Reader) → top.name ≡ opened → Stuck (at modes.Content line top (around ∷ outer) j) bytes) → Stuck nothing_read (front ++ bytes)
from_open front bytes opened names k reached later =
    let r = k.reader in
    let is = open_is_content front opened names k reached in
    stuck_by nothing_read r (front ++ bytes) bytes (run_on front bytes r k.runs)
    (subst (λ (m : Mode). Stuck (record r { mode = m }) bytes) (sym is) (by r.top r.below (k.opened is)))
  where
    by : (top : Open) (below : List Open) → open_names top below ≡ opened ∷ names → Stuck (at modes.Content k.reader.line top below k.reader) bytes
    by top [] e = absurd cc
    by top (around ∷ outer) e = let same : top.name ≡ opened = cc in later k.reader.line top around outer k.reader same

within_left : (front bytes rest : List ℕ) (names : List (List ℕ)) → IsUtf8 (front ++ rest) → IsFront front names → IsUnfinished names bytes → Stuck nothing_read (front ++ bytes)
within_left front bytes rest names u is (IsUnfinished.markup same) =
    let k = front_known front names is in
    from_front front bytes k (reached_part front rest k.reader u (front_clean front names is) k.runs) first_markup_left markup_left
within_left front bytes rest names u is (IsUnfinished.opening same opening first more e some) =
    let k = front_known front names is in
    from_front front bytes k (reached_part front rest k.reader u (front_clean front names is) k.runs)
    (as_begun 33 first no_question (opening_left opening first more e some 1 whole_text [] nothing_read)) (opening_left opening first more e some)
within_left front bytes rest names u is (IsUnfinished.comment same other c) =
    let k = front_known front names is in
    let b = comment_begun bytes (bytes ++ codes "-->") refl c in
    subst (λ (xs : List ℕ). Stuck nothing_read (front ++ xs)) (sym b.split)
    (from_front front (60 ∷ 33 ∷ 45 ∷ 45 ∷ b.inside) k (reached_part front rest k.reader u (front_clean front names is) k.runs)
    (as_begun 33 (45 ∷ 45 ∷ b.inside) no_question (in_comment_left b.inside b.first 1 whole_text [] nothing_read)) (in_comment_left b.inside b.first))
within_left front bytes rest names u is (IsUnfinished.instruction same other inside c) =
    let k = front_known front names is in
    let b = instruction_begun bytes (bytes ++ codes "?>") inside refl c in
    subst (λ (xs : List ℕ). Stuck nothing_read (front ++ xs)) (sym b.split)
    (from_front front (60 ∷ 63 ∷ b.inside) k (reached_part front rest k.reader u (front_clean front names is) k.runs) (in_first_left b.inside b.first) (in_instruction_left b.inside b.first))
within_left front bytes rest names u is (IsUnfinished.section opened others other text c) =
    let k = from_known front opened others names refl is in
    let b = section_begun bytes (bytes ++ codes "]]>") text refl c in
    subst (λ (xs : List ℕ). Stuck nothing_read (front ++ xs)) (sym b.split)
    (from_open front (60 ∷ 33 ∷ 91 ∷ 67 ∷ 68 ∷ 65 ∷ 84 ∷ 65 ∷ 91 ∷ b.inside) opened others k (reached_part front rest k.reader u (front_clean front names is) k.runs)
    (λ line top around outer j e. in_section_left b.inside b.first line top around outer j))
within_left front bytes rest names u is (IsUnfinished.end_name opened name others all) =
    let k = from_known front opened others names refl is in
    from_open front bytes opened others k (reached_part front rest k.reader u (front_clean front names is) k.runs) (λ line top around outer j e. end_name_left name all line top around outer j)
within_left front bytes rest names u is (IsUnfinished.end_space opened space others g) =
    let k = from_known front opened others names refl is in
    from_open front bytes opened others k (reached_part front rest k.reader u (front_clean front names is) k.runs) (λ line top around outer j e. end_space_left opened space (all_named front names is).0 g line top around outer j e)
within_left front bytes rest names u is (IsUnfinished.reference opened name others all) =
    let k = from_known front opened others names refl is in
    from_open front bytes opened others k (reached_part front rest k.reader u (front_clean front names is) k.runs)
    (λ line top around outer j e. reference_left (at modes.Content line top (around ∷ outer) j) line name (in_text-refers line top around outer j) all)

-- ---- tags

in_name_left : (front own : List ℕ) (around : List (List ℕ)) → IsUtf8 front → IsFront front around → (around ≡ [] → IsBeforeRoot front) → IsName own → BeginsTag own → Stuck nothing_read (front ++ 60 ∷ own)
in_name_left front own around u is first n b =
    let l = led_tag front around u is first in
    let line = line_behind 1 front in
    let last = in_start own (line_at line own) line l.top l.below l.like in
    let begins = own_begins own [] b in
    stuck_by nothing_read last (front ++ 60 ∷ own) []
    (ap (λ (xs : List ℕ). run nothing_read (front ++ 60 ∷ xs)) (sym (append-nil own) ∙ begins.split)
    ∙ l.runs begins.byte begins.more begins.other
    ∙ ap (λ (xs : List ℕ). run (at modes.Content line l.top l.below l.like) (60 ∷ xs)) (sym begins.split)
    ∙ start_name-run own n b line l.top l.below l.like [] l.closed)
    (stuck_here last refl)

-- whether anything stands behind the name
behind_own : (written rest : List ℕ) → EndsAName (written ++ rest) ⊎ (written ++ rest ≡ []) → (bytes own : List ℕ) → bytes ≡ 60 ∷ own ++ (written ++ rest) → EndsAName (written ++ rest) ⊎ (bytes ≡ 60 ∷ own)
behind_own written rest (inl e) bytes own is = inl e
behind_own written rest (inr none) bytes own is = inr (is ∙ ap (λ (xs : List ℕ). 60 ∷ own ++ xs) none ∙ ap (λ (xs : List ℕ). 60 ∷ xs) (append-nil own))

ends_or_none : (written rest : List ℕ) (list : List Attribute) (names : List (List ℕ)) → AreAttributes written list → names ≡ names_of list → EndsAName rest ⊎ (rest ≡ []) → EndsAName (written ++ rest) ⊎ (written ++ rest ≡ [])
ends_or_none written rest list names AreAttributes.nothing e h = h
ends_or_none written rest list names (AreAttributes.more gap first others a more g f r) e h =
    inl (written_ends (gap ++ (first ++ others)) rest (a ∷ more) names (AreAttributes.more gap first others a more g f r) e (inr (λ none. absurd (some_name (sym e ∙ none)))))
  where
    some_name : ¬ (names_of (a ∷ more) ≡ [])
    some_name e = absurd cc

tag_left : (text : List ℕ) (line : ℕ) (around names : List (List ℕ)) (tag own rest : List ℕ) → IsUtf8 text → (there : TagStandsAt text line around tag own names rest) → IsUnfinishedRest names rest → Stuck nothing_read (there.stands.front ++ tag)
tag_left text line around names tag own rest u there is =
    let s = there.stands in
    let b = there.is_begun in
    let front_u = cut_front s.front ((own ++ (b.written ++ rest)) ++ s.after) 60 (omega arith) (subst IsUtf8 (s.whole ∙ ap (λ (xs : List ℕ). s.front ++ (xs ++ s.after)) b.whole) u) in
    elim (behind_own b.written rest (ends_or_none b.written rest b.attributes names b.are b.named (left_ends names rest is)) tag own b.whole) [
      | inl ends ↦
          let r = led_rest text line around names tag own rest u there ends in
          stuck_by nothing_read _ (s.front ++ tag) rest r.runs (rest_left names rest is r.line (line_behind 1 s.front) r.top r.below r.tag_read r.like r.named)
      | inr alone ↦ subst (λ (xs : List ℕ). Stuck nothing_read (s.front ++ xs)) (sym alone) (in_name_left s.front own around front_u s.is_front there.first b.is_name b.begins)
    ]

-- ---- the end of a text

pub record Unends (text : List ℕ) : Type 0 where
  pub reader : Reader
  pub clean : IsClean text
  pub runs : run nothing_read text ≡ Ok reader
  pub ends : finish reader ≡ Err (fault kinds.Unclosed reader.line)

stuck_ends : (text : List ℕ) → IsClean text → Stuck nothing_read text → Unends text
unfolding finish
stuck_ends text clean s = record { reader = s.reader; clean = clean; runs = s.runs; ends = rw s.inside refl }

nothing_ends : Unends []
unfolding finish
nothing_ends = record { reader = nothing_read; clean = tt; runs = run_end nothing_read; ends = refl }

rootless : (line : ℕ) (top : Open) (j : Reader) → is_none top.children ≡ true → finish (at modes.Content line top [] j) ≡ Err (fault kinds.Unclosed line)
unfolding finish
rootless line top j none = by top.children none
  where
    by : (trees : List Tree) → is_none trees ≡ true → need (fault kinds.Unclosed line) (last_of trees) ≡ Err (fault kinds.Unclosed line)
    by [] e = refl
    by (t ∷ ts) e = absurd cc

open_ends : (line : ℕ) (top : Open) (below : List Open) (j : Reader) (name : List ℕ) (names : List (List ℕ)) → open_names top below ≡ name ∷ names → finish (at modes.Content line top below j) ≡ Err (fault kinds.Unclosed line)
unfolding finish
open_ends line top [] j name names e = absurd cc
open_ends line top (around ∷ outer) j name names e = refl

before_ends : (line : ℕ) (top : Open) (below : List Open) (j last : Reader) (root : Tree) → run (at modes.Content line top below j) (codes "<XMCDA/>") ≡ Ok last → finish last ≡ Ok root → finish (at modes.Content line top below j) ≡ Err (fault kinds.Unclosed line)
before_ends line top (around ∷ outer) j last root e f = absurd (inside_fails line top around outer j last root e f)
before_ends line top [] j last root e f = elim (cases_Bool (is_none top.children)) [
  | inl none ↦ rootless line top j none
  | inr some ↦ absurd (second_fails line top j last some e)
]

before_root_ends : (text : List ℕ) → IsUtf8 text → IsBeforeRoot text → Unends text
before_root_ends text u h =
    let all = bind_ok (run nothing_read (text ++ codes "<XMCDA/>")) finish h.1.root (rooted_reads (text ++ codes "<XMCDA/>") h.1) in
    let parts = run_split text (codes "<XMCDA/>") nothing_read all.0 all.1 in
    let r = parts.0 in
    elim (before_mode r all.0 h.1.root parts.2 all.2) [
      | inl is ↦ subst Unends (sym (start_only text r (reached_by text r u h.0 parts.1) is)) nothing_ends
      | inr is ↦ record {
        reader = r;
        clean = h.0;
        runs = parts.1;
        ends = subst (λ (m : Mode). finish (record r { mode = m }) ≡ Err (fault kinds.Unclosed r.line)) (sym is)
            (before_ends r.line r.top r.below r all.0 h.1.root (subst (λ (m : Mode). run (record r { mode = m }) (codes "<XMCDA/>") ≡ Ok all.0) is parts.2) all.2);
      }
    ]

inside_ends : (text opened : List ℕ) (names : List (List ℕ)) → IsUtf8 text → IsFromRoot text (opened ∷ names) → Unends text
inside_ends text opened names u h =
    let k = known_open text (opened ∷ names) h in
    let r = k.reader in
    let is = open_is_content text opened names k (reached_by text r u h.clean k.runs) in
    record {
      reader = r;
      clean = h.clean;
      runs = k.runs;
      ends = subst (λ (m : Mode). finish (record r { mode = m }) ≡ Err (fault kinds.Unclosed r.line)) (sym is) (open_ends r.line r.top r.below r opened names (k.opened is));
    }

pub cut_ends : (text : List ℕ) → IsUtf8 text → IsCut text → Unends text
cut_ends text u (IsCut.before_root h) = before_root_ends text u h
cut_ends text u (IsCut.inside opened names h) = inside_ends text opened names u h
cut_ends text u (IsCut.within front bytes names split is clean unfinished) =
    subst Unends (sym split) (stuck_ends (front ++ bytes) (clean_append front bytes (front_clean front names is) clean) (within_left front bytes bytes names (subst IsUtf8 split u) is unfinished))
cut_ends text u (IsCut.in_name front own around split is first clean n b) =
    subst Unends (sym split) (stuck_ends (front ++ 60 ∷ own) (clean_append front (60 ∷ own) (front_clean front around is) (refl, clean))
    (in_name_left front own around (cut_front front own 60 (omega arith) (subst IsUtf8 split u)) is first n b))
cut_ends text u (IsCut.in_tag around names tag own rest line there none is) =
    let s = there.stands in
    let split : text ≡ s.front ++ tag = s.whole ∙ ap (λ (xs : List ℕ). s.front ++ (tag ++ xs)) none ∙ ap (λ (xs : List ℕ). s.front ++ xs) (append-nil tag) in
    subst Unends (sym split) (stuck_ends (s.front ++ tag) (clean_append s.front tag (front_clean s.front around s.is_front) s.clean) (tag_left text line around names tag own rest u there is))

unends_reached : (text : List ℕ) → IsUtf8 text → (e : Unends text) → IsReached text e.reader
unends_reached text u e = reached_by text e.reader u e.clean e.runs

pub unclosed_given : (bytes : List ℕ) (line : ℕ) → IsUtf8 bytes → IsCut (without_mark bytes) → line ≡ line_behind 1 (without_mark bytes) → elements_of bytes ≡ Err (fault kinds.Unclosed line)
unclosed_given bytes line u h is =
    let text = without_mark bytes in
    let text_u = without_mark-IsUtf8 bytes u in
    let e = cut_ends text text_u h in
    let reached = unends_reached text text_u e in
    past_utf8 bytes u
    ∙ bind-at_ok (read_all read nothing_read text) finish e.reader reached
    ∙ e.ends
    ∙ ap (λ l. Err (fault kinds.Unclosed l)) (lines_are_counted text e.reader reached ∙ sym is)

-- ---- control bytes

readable_reached : (text : List ℕ) → IsUtf8 text → IsReadable text → (r : Reader) × IsReached text r
readable_reached text u (inl h) = let k = known_open text [] h in (k.reader, reached_by text k.reader u h.clean k.runs)
readable_reached text u (inr cut) = let e = cut_ends text u cut in (e.reader, unends_reached text u e)

control_read : (r : Reader) (byte : ℕ) → is_control byte ≡ true → read r byte ≡ Err (fault kinds.BadMarkup r.line)
unfolding read
control_read r byte is = rw is refl

pub control_given : (bytes before after : List ℕ) (byte line : ℕ) → IsUtf8 bytes → without_mark bytes ≡ before ++ byte ∷ after → IsReadable before → is_control byte ≡ true → line ≡ line_behind 1 before → elements_of bytes ≡ Err (fault kinds.BadMarkup line)
control_given bytes before after byte line u split readable control is =
    let front = cut_front before after byte (control_low byte control) (subst IsUtf8 split (without_mark-IsUtf8 bytes u)) in
    let r = readable_reached before front readable in
    past_utf8 bytes u
    ∙ bind-at_err (read_all read nothing_read (without_mark bytes)) finish (fault kinds.BadMarkup r.0.line)
    (ap (read_all read nothing_read) split ∙ read_all-append read nothing_read r.0 before (byte ∷ after) r.1 ∙ bind-at_err (read r.0 byte) (λ next. read_all read next after) (fault kinds.BadMarkup r.0.line) (control_read r.0 byte control))
    ∙ ap (λ l. Err (fault kinds.BadMarkup l)) (lines_are_counted before r.0 r.1 ∙ sym is)
