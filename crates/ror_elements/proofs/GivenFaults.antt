-- Faults that a text has are given.
use Rattle.std.proofs.Common.{◌≡◌, ℕ, ◌<◌, Bool, true, false, not, List, [], ◌∷◌, ◌++◌, append_assoc, append-nil, length, Ok, Err, refl, sym, ap, subst, ◌∙◌, arith, inl, inr}
use Rattle.std.specs.Prelude.{◌⊎◌, ◌==◌, ◌&&◌, ◌||◌, nat_le, codes}
use Rattle.std.specs.Str.{IsUtf8, bytes_eq}
use Rattle.std.proofs.lemmas.Bool.{cases_Bool, true≢false, eqb-true, le-leb, false_from_ne_true}
use Rattle.std.proofs.lemmas.Slice.Eq.{bytes_eq-Decides}
use Rattle.std.proofs.lemmas.Str.{IsUtf8-append, IsUtf8-from_ascii}
use Rattle.ror_text.specs.Reading.{read_all}
use Rattle.ror_text.proofs.ReadingLemmas.{bind_ok, bind_err, bind-at_ok, bind-at_err}
use Rattle.ror_elements.specs.declared.declaration.Declaration.{Declaration}
use Rattle.ror_elements.specs.declared.element.ElementFault.{ElementFault}
use Rattle.ror_elements.specs.declared.element.ElementKind.{ElementKind}
use Rattle.ror_elements.specs.declared.element.ElementKind.TheVariants as kinds
use Rattle.ror_elements.specs.declared.mode.Mode.{Mode}
use Rattle.ror_elements.specs.declared.mode.Mode.TheVariants as modes
use Rattle.ror_elements.specs.declared.open.Open.{Open}
use Rattle.ror_elements.specs.declared.reader.Reader.{Reader}
use Rattle.ror_elements.specs.Declarations.{nothing_declared, is_foreign, is_utf8_name}
use Rattle.ror_elements.specs.Elements.{read, finish, elements_of, without_mark}
use Rattle.ror_elements.specs.Faults.{fault}
use Rattle.ror_elements.specs.Grammar.{IsName, BeginsTag, IsInstruction, Declares, line_behind}
use Rattle.ror_elements.specs.Laws.{IsReached}
use Rattle.ror_elements.specs.Marks.{is_white, is_mark, is_name_byte}
use Rattle.ror_elements.specs.Reader.{nothing_read, at_start, in_content, in_first_markup, in_markup, in_exclamation, begin, in_beginning}
use Rattle.ror_elements.specs.Refusals.{IsClean, IsBeforeRoot, IsFromRoot, IsFront, StandsAt, end_tags, HasDoctype, HasMismatched, HasEncoding}
use Rattle.ror_elements.specs.Tags.{in_start_name}
use Rattle.ror_elements.proofs.Declared.{known, declared_is_utf8}
use Rattle.ror_elements.proofs.DeclaredBack.{question_says_nothing}
use Rattle.ror_elements.proofs.ElementRuns.{in_start, start_name-run, end_name-run, some_name}
use Rattle.ror_elements.proofs.FaultFronts.{reached-holds, run_on, one_ascii, count_names}
use Rattle.ror_elements.proofs.FaultWords.{AtMode, open_names, is_closed}
use Rattle.ror_elements.proofs.FrontRuns.{run_split, rooted_reads, before_mode, open_mode, names_open}
use Rattle.ror_elements.proofs.LawLemmas.{lines_are_counted, without_mark-IsUtf8, past_utf8}
use Rattle.ror_elements.proofs.PlainReader.{plain, plain_in_end_name, run, same_run}
use Rattle.ror_elements.proofs.Runs.{line_at, at, question_end}
use Rattle.ror_elements.proofs.StartRuns.{behind_first, first_instruction}
use Rattle.ror_elements.proofs.TextLemmas.{cut_front, nothing-kept, white_low}

-- ---- from a part to the text

pub read_err : (xs ys : List ℕ) (r : Reader) (f : ElementFault) → read_all read r xs ≡ Err f → read_all read r (xs ++ ys) ≡ Err f
read_err [] ys r f e = absurd cc
read_err (x ∷ xs) ys r f e = elim (bind_err (read r x) (λ next. read_all read next xs) f e) [
  | inl now ↦ bind-at_err (read r x) (λ next. read_all read next (xs ++ ys)) f now
  | inr later ↦ bind-at_ok (read r x) (λ next. read_all read next (xs ++ ys)) later.0 later.1 ∙ read_err xs ys later.0 f later.2
]

pub clean_append : (xs ys : List ℕ) → IsClean xs → IsClean ys → IsClean (xs ++ ys)
clean_append [] ys a b = b
clean_append (x ∷ xs) ys a b = (a.0, clean_append xs ys a.1 b)

-- up to an ASCII byte
part_utf8 : (before after : List ℕ) (byte : ℕ) → byte < 128 → IsUtf8 (before ++ byte ∷ after) → IsUtf8 (before ++ byte ∷ [])
part_utf8 before after byte low u = IsUtf8-append before (byte ∷ []) (cut_front before after byte low u) (IsUtf8-from_ascii (byte ∷ []) (one_ascii byte low))

pub given : (bytes before after : List ℕ) (byte : ℕ) (f : ElementFault) → IsUtf8 bytes → byte < 128 → without_mark bytes ≡ (before ++ byte ∷ []) ++ after → IsClean (before ++ byte ∷ []) → run nothing_read (before ++ byte ∷ []) ≡ Err f → elements_of bytes ≡ Err f
unfolding run
given bytes before after byte f u low split clean e =
    let whole : IsUtf8 (before ++ byte ∷ after) = subst IsUtf8 (split ∙ append_assoc before (byte ∷ []) after) (without_mark-IsUtf8 bytes u) in
    let part = part_utf8 before after byte low whole in
    past_utf8 bytes u
    ∙ bind-at_err (read_all read nothing_read (without_mark bytes)) finish f
    (ap (read_all read nothing_read) split ∙ read_err (before ++ byte ∷ []) after nothing_read f (same_run [] (before ++ byte ∷ []) nothing_read part nothing-kept clean ∙ e))

-- ---- what was read of a front

pub record Known (front : List ℕ) : Type 0 where
  pub reader : Reader
  pub runs : run nothing_read front ≡ Ok reader
  pub mode : (reader.mode ≡ modes.Start) ⊎ (reader.mode ≡ modes.Content)

pub record KnownOpen (front : List ℕ) (names : List (List ℕ)) : Type 0 where
  pub reader : Reader
  pub last : Reader
  pub runs : run nothing_read front ≡ Ok reader
  pub closes : run reader (end_tags names) ≡ Ok last
  pub mode : (reader.mode ≡ modes.Start) ⊎ (reader.mode ≡ modes.Content)
  pub opened : reader.mode ≡ modes.Content → open_names reader.top reader.below ≡ names

pub known_before : (front : List ℕ) → IsBeforeRoot front → Known front
known_before front h =
    let all = bind_ok (run nothing_read (front ++ codes "<XMCDA/>")) finish h.1.root (rooted_reads (front ++ codes "<XMCDA/>") h.1) in
    let parts = run_split front (codes "<XMCDA/>") nothing_read all.0 all.1 in
    record { reader = parts.0; runs = parts.1; mode = before_mode parts.0 all.0 h.1.root parts.2 all.2 }

pub known_open : (front : List ℕ) (names : List (List ℕ)) → IsFromRoot front names → KnownOpen front names
known_open front names h =
    let d = h.is_rooted in
    let all = bind_ok (run nothing_read (front ++ end_tags names)) finish d.root (rooted_reads (front ++ end_tags names) d) in
    let parts = run_split front (end_tags names) nothing_read all.0 all.1 in
    let m = parts.0 in
    record {
      reader = m;
      last = all.0;
      runs = parts.1;
      closes = parts.2;
      mode = open_mode names h.named m all.0 d.root parts.2 all.2;
      opened = λ is. names_open names h.named m.top m.below m.line m all.0 d.root (subst (λ (mode : Mode). run (record m { mode = mode }) (end_tags names) ≡ Ok all.0) is parts.2) all.2;
    }

pub front_clean : (front : List ℕ) (names : List (List ℕ)) → IsFront front names → IsClean front
front_clean front names (IsFront.before_root h) = h.0
front_clean front names (IsFront.from_root some h) = h.clean

pub front_known : (front : List ℕ) (names : List (List ℕ)) → IsFront front names → Known front
front_known front names (IsFront.before_root h) = known_before front h
front_known front names (IsFront.from_root some h) = let k = known_open front some h in record { reader = k.reader; runs = k.runs; mode = k.mode }

pub from_known : (front : List ℕ) (name : List ℕ) (names all : List (List ℕ)) → all ≡ name ∷ names → IsFront front all → KnownOpen front all
from_known front name names all e (IsFront.before_root h) = absurd cc
from_known front name names all e (IsFront.from_root some h) = known_open front some h

pub reached_by : (front : List ℕ) (r : Reader) → IsUtf8 front → IsClean front → run nothing_read front ≡ Ok r → IsReached front r
unfolding run
reached_by front r u clean e = same_run [] front nothing_read u nothing-kept clean ∙ e

-- ---- doctypes

doctype_at : (line : ℕ) (top : Open) (below : List Open) (j : Reader) → run (at modes.Content line top below j) (codes "<!DOCTYPE") ≡ Err (fault kinds.Doctype line)
unfolding run plain in_content in_markup in_exclamation in_beginning begin
doctype_at line top below j = refl

doctype_first : run nothing_read (codes "<!DOCTYPE") ≡ Err (fault kinds.Doctype 1)
unfolding run plain at_start in_first_markup in_markup in_exclamation in_beginning begin
doctype_first = refl

-- at the start nothing was read
pub start_only : (front : List ℕ) (r : Reader) → IsReached front r → r.mode ≡ modes.Start → front ≡ []
start_only front r reached is = (subst (λ (m : Mode). AtMode m front r.start r.reference_line r.piece r.tag r.declaration r.top r.below) is (reached-holds front r reached).here).0

doctype_runs : (front : List ℕ) (r : Reader) → run nothing_read front ≡ Ok r → IsReached front r → (r.mode ≡ modes.Start) ⊎ (r.mode ≡ modes.Content) → run nothing_read (front ++ codes "<!DOCTYPE") ≡ Err (fault kinds.Doctype (line_behind 1 front))
doctype_runs front r e reached (inl is) =
    let none = start_only front r reached is in
    subst (λ (xs : List ℕ). run nothing_read (xs ++ codes "<!DOCTYPE") ≡ Err (fault kinds.Doctype (line_behind 1 xs))) (sym none) doctype_first
doctype_runs front r e reached (inr is) =
    let same : run r (codes "<!DOCTYPE") ≡ Err (fault kinds.Doctype r.line) = subst (λ (m : Mode). run (record r { mode = m }) (codes "<!DOCTYPE") ≡ Err (fault kinds.Doctype r.line)) (sym is) (doctype_at r.line r.top r.below r) in
    run_on front (codes "<!DOCTYPE") r e ∙ same ∙ ap (λ l. Err (fault kinds.Doctype l)) (lines_are_counted front r reached)

pub doctype_given : (bytes : List ℕ) (line : ℕ) → IsUtf8 bytes → HasDoctype (without_mark bytes) line → elements_of bytes ≡ Err (fault kinds.Doctype line)
doctype_given bytes line u h =
    let s = h.1 in
    let k = front_known s.front h.0 s.is_front in
    let clean = front_clean s.front h.0 s.is_front in
    let whole = s.whole in
    let text = without_mark-IsUtf8 bytes u in
    let front = cut_front s.front (33 ∷ 68 ∷ 79 ∷ 67 ∷ 84 ∷ 89 ∷ 80 ∷ 69 ∷ s.after) 60 (omega arith) (subst IsUtf8 whole text) in
    let reached = reached_by s.front k.reader front clean k.runs in
    let runs = doctype_runs s.front k.reader k.runs reached k.mode in
    let pieces : (s.front ++ codes "<!DOCTYP") ++ 69 ∷ [] ≡ s.front ++ codes "<!DOCTYPE" = append_assoc s.front (codes "<!DOCTYP") (69 ∷ []) in
    given bytes (s.front ++ codes "<!DOCTYP") s.after 69 (fault kinds.Doctype line) u (omega arith)
    (whole ∙ sym (append_assoc s.front (codes "<!DOCTYPE") s.after) ∙ ap (λ (xs : List ℕ). xs ++ s.after) (sym pieces))
    (subst IsClean (sym pieces) (clean_append s.front (codes "<!DOCTYPE") clean s.clean))
    (ap (run nothing_read) pieces ∙ runs ∙ ap (λ l. Err (fault kinds.Doctype l)) (sym s.is_line))

-- ---- end tags

-- a byte that ends a name is ASCII
either_low : (p q : Bool) (byte : ℕ) → (p ≡ true → byte < 128) → (q ≡ true → byte < 128) → (p || q) ≡ true → byte < 128
either_low true q byte f g e = f refl
either_low false q byte f g e = g e

small : (byte other : ℕ) → other < 128 → (byte == other) ≡ true → byte < 128
small byte other low e = subst (λ n. n < 128) (sym (eqb-true byte other e)) low

marked_low : (byte : ℕ) → is_mark byte ≡ true → byte < 128
marked_low byte e =
    either_low _ (byte == 39) byte
    (λ a. either_low _ (byte == 34) byte
    (λ b. either_low _ (byte == 38) byte
    (λ c. either_low _ (byte == 61) byte
    (λ d. either_low _ (byte == 47) byte
    (λ f. either_low (byte == 60) (byte == 62) byte (small byte 60 (omega arith)) (small byte 62 (omega arith)) f)
    (small byte 47 (omega arith)) d) (small byte 61 (omega arith)) c) (small byte 38 (omega arith)) b) (small byte 34 (omega arith)) a) (small byte 39 (omega arith)) e

mark_low : (byte : ℕ) → is_name_byte byte ≡ false → byte < 128
mark_low byte e = elim (cases_Bool (is_white byte)) [
  | inl white ↦ white_low byte white
  | inr dark ↦ by (is_mark byte) refl (rw dark at e)
]
  where
    by : (mark : Bool) → is_mark byte ≡ mark → (true && not mark) ≡ false → byte < 128
    by false m e = absurd (true≢false e)
    by true m e = marked_low byte m

mismatch_at : (name : List ℕ) (byte line : ℕ) (top around : Open) (outer : List Open) (j : Reader) → IsName name → is_name_byte byte ≡ false → bytes_eq name top.name ≡ false
    → run (at modes.Content line top (around ∷ outer) j) (60 ∷ 47 ∷ name ++ byte ∷ []) ≡ Err (fault kinds.Mismatched line)
unfolding run plain in_content in_markup plain_in_end_name
mismatch_at name byte line top around outer j n unnamed other =
    end_name-run name n line line top around outer j (byte ∷ []) ∙ rw (unnamed, some_name name n.1, other) refl

-- nothing can close where nothing was read
no_end_first : (m last : Reader) (bytes : List ℕ) → run (record m { mode = modes.Start; below = [] }) (60 ∷ 47 ∷ bytes) ≡ Ok last → ⊥
unfolding run plain at_start in_first_markup in_markup
no_end_first m last bytes e = absurd cc

pub open_is_content : (front name : List ℕ) (names : List (List ℕ)) → (k : KnownOpen front (name ∷ names)) → IsReached front k.reader → k.reader.mode ≡ modes.Content
open_is_content front name names k reached = by k.mode
  where
    m : Reader
    m = k.reader

    by : (m.mode ≡ modes.Start) ⊎ (m.mode ≡ modes.Content) → m.mode ≡ modes.Content
    by (inr is) = is
    by (inl is) =
        let none : m.below ≡ [] = (subst (λ (mode : Mode). AtMode mode front m.start m.reference_line m.piece m.tag m.declaration m.top m.below) is (reached-holds front m reached).here).2 in
        absurd (no_end_first m k.last _
        (subst (λ (below : List Open). run (record m { mode = modes.Start; below = below }) (end_tags (name ∷ names)) ≡ Ok k.last) none
        (subst (λ (mode : Mode). run (record m { mode = mode }) (end_tags (name ∷ names)) ≡ Ok k.last) is k.closes)))

-- what stands behind a front, up to the byte that decides
stands_given : (bytes : List ℕ) (line : ℕ) (names : List (List ℕ)) (more : List ℕ) (byte : ℕ) (f : ElementFault) → IsUtf8 bytes → byte < 128 → (s : StandsAt (without_mark bytes) line names (60 ∷ more ++ byte ∷ []))
    → run nothing_read (s.front ++ (60 ∷ more ++ byte ∷ [])) ≡ Err f → elements_of bytes ≡ Err f
stands_given bytes line names more byte f u low s runs =
    let pieces : (s.front ++ 60 ∷ more) ++ byte ∷ [] ≡ s.front ++ (60 ∷ more ++ byte ∷ []) = append_assoc s.front (60 ∷ more) (byte ∷ []) in
    given bytes (s.front ++ 60 ∷ more) s.after byte f u low
    (s.whole ∙ sym (append_assoc s.front (60 ∷ more ++ byte ∷ []) s.after) ∙ ap (λ (xs : List ℕ). xs ++ s.after) (sym pieces))
    (subst IsClean (sym pieces) (clean_append s.front (60 ∷ more ++ byte ∷ []) (front_clean s.front names s.is_front) s.clean))
    (ap (run nothing_read) pieces ∙ runs)

front_utf8 : (bytes : List ℕ) (line : ℕ) (names : List (List ℕ)) (more : List ℕ) → IsUtf8 bytes → (s : StandsAt (without_mark bytes) line names (60 ∷ more)) → IsUtf8 s.front
front_utf8 bytes line names more u s = cut_front s.front (more ++ s.after) 60 (omega arith) (subst IsUtf8 s.whole (without_mark-IsUtf8 bytes u))

-- from a front between constructs
pub on_from : (front bytes : List ℕ) (r : Reader) (kind : ElementKind) → run nothing_read front ≡ Ok r → IsReached front r → r.mode ≡ modes.Content → run (at modes.Content r.line r.top r.below r) bytes ≡ Err (fault kind r.line) → run nothing_read (front ++ bytes) ≡ Err (fault kind (line_behind 1 front))
on_from front bytes r kind e reached is h =
    run_on front bytes r e
    ∙ subst (λ (m : Mode). run (record r { mode = m }) bytes ≡ Err (fault kind r.line)) (sym is) h
    ∙ ap (λ l. Err (fault kind l)) (lines_are_counted front r reached)

mismatch_open : (below : List Open) (name opened : List ℕ) (around : List (List ℕ)) (byte line : ℕ) (top : Open) (j : Reader) → IsName name → is_name_byte byte ≡ false → ¬ (name ≡ opened) → open_names top below ≡ opened ∷ around
    → run (at modes.Content line top below j) (60 ∷ 47 ∷ name ++ byte ∷ []) ≡ Err (fault kinds.Mismatched line)
mismatch_open [] name opened around byte line top j n unnamed other e = absurd cc
mismatch_open (next ∷ outer) name opened around byte line top j n unnamed other e =
    let same : top.name ≡ opened = cc in
    mismatch_at name byte line top next outer j n unnamed (false_from_ne_true (bytes_eq name top.name) (λ is. other ((bytes_eq-Decides name top.name).0 is ∙ same)))

pub mismatched_given : (bytes : List ℕ) (line : ℕ) → IsUtf8 bytes → HasMismatched (without_mark bytes) line → elements_of bytes ≡ Err (fault kinds.Mismatched line)
mismatched_given bytes line u h =
    let s = h.stands in
    let names = h.opened ∷ h.around in
    let k = from_known s.front h.opened h.around names refl s.is_front in
    let r = k.reader in
    let reached = reached_by s.front r (front_utf8 bytes line names (47 ∷ h.name ++ h.next ∷ []) u s) (front_clean s.front names s.is_front) k.runs in
    let is = open_is_content s.front h.opened h.around k reached in
    stands_given bytes line names (47 ∷ h.name) h.next (fault kinds.Mismatched line) u (mark_low h.next h.ends) s
    (on_from s.front (60 ∷ 47 ∷ h.name ++ h.next ∷ []) r kinds.Mismatched k.runs reached is
    (mismatch_open r.below h.name h.opened h.around h.next r.line r.top r h.is_name h.ends h.other (k.opened is))
    ∙ ap (λ l. Err (fault kinds.Mismatched l)) (sym s.is_line))

-- ---- tags that are too deep

pub deep_here : (name : List ℕ) (byte line start : ℕ) (top : Open) (below : List Open) (j : Reader) → is_name_byte byte ≡ false → nat_le 64 (length below) ≡ true → run (in_start name line start top below j) (byte ∷ []) ≡ Err (fault kinds.TooDeep start)
unfolding run plain in_start_name
deep_here name byte line start top below j unnamed deep = rw (unnamed, deep) refl

deep_at : (name : List ℕ) (byte line : ℕ) (top : Open) (below : List Open) (j : Reader) → IsName name → BeginsTag name → is_name_byte byte ≡ false → is_closed top below ≡ false → nat_le 64 (length below) ≡ true
    → run (at modes.Content line top below j) (60 ∷ name ++ byte ∷ []) ≡ Err (fault kinds.TooDeep line)
deep_at name byte line top below j n b unnamed first deep = start_name-run name n b line top below j (byte ∷ []) first ∙ deep_here name byte (line_at line name) line top below j unnamed deep

deep_open : (below : List Open) (name opened : List ℕ) (around : List (List ℕ)) (byte line : ℕ) (top : Open) (j : Reader) → IsName name → BeginsTag name → is_name_byte byte ≡ false → length (opened ∷ around) ≡ 64 → open_names top below ≡ opened ∷ around
    → run (at modes.Content line top below j) (60 ∷ name ++ byte ∷ []) ≡ Err (fault kinds.TooDeep line)
deep_open [] name opened around byte line top j n b unnamed many e = absurd cc
deep_open (next ∷ outer) name opened around byte line top j n b unnamed many e =
    let count : length (next ∷ outer) ≡ 64 = sym (count_names top (next ∷ outer)) ∙ ap length e ∙ many in
    deep_at name byte line top (next ∷ outer) j n b unnamed refl (le-leb 64 (length (next ∷ outer)) (omega (arith, count)))

pub deep_given : (bytes : List ℕ) (line : ℕ) (name : List ℕ) (around : List (List ℕ)) (byte : ℕ) → IsUtf8 bytes → IsName name → BeginsTag name → is_name_byte byte ≡ false → length around ≡ 64 → StandsAt (without_mark bytes) line around (60 ∷ name ++ byte ∷ []) → elements_of bytes ≡ Err (fault kinds.TooDeep line)
deep_given bytes line name [] byte u n b unnamed many s = absurd (omega (arith, many))
deep_given bytes line name (opened ∷ around) byte u n b unnamed many s =
    let names = opened ∷ around in
    let k = from_known s.front opened around names refl s.is_front in
    let r = k.reader in
    let reached = reached_by s.front r (front_utf8 bytes line names (name ++ byte ∷ []) u s) (front_clean s.front names s.is_front) k.runs in
    let is = open_is_content s.front opened around k reached in
    stands_given bytes line names name byte (fault kinds.TooDeep line) u (mark_low byte unnamed) s
    (on_from s.front (60 ∷ name ++ byte ∷ []) r kinds.TooDeep k.runs reached is
    (deep_open r.below name opened around byte r.line r.top r n b unnamed many (k.opened is))
    ∙ ap (λ l. Err (fault kinds.TooDeep l)) (sym s.is_line))

-- ---- another encoding

foreign_is : (bytes encoding : List ℕ) → Declares bytes encoding → is_utf8_name encoding ≡ false → is_foreign (known nothing_declared (bytes ++ 63 ∷ [])) ≡ true
foreign_is bytes encoding d e = elim (cases_Bool (is_foreign (known nothing_declared (bytes ++ 63 ∷ [])))) [
  | inl yes_foreign ↦ yes_foreign
  | inr none ↦ absurd (true≢false (sym (declared_is_utf8 bytes encoding d (sym (question_says_nothing bytes) ∙ none)) ∙ e))
]

refused_first : (line : ℕ) (d : Declaration) → is_foreign d ≡ true → behind_first line d nothing_read [] ≡ Err (fault kinds.Encoding 1)
refused_first line d e = rw e refl

pub encoding_given : (bytes : List ℕ) (line : ℕ) → IsUtf8 bytes → HasEncoding (without_mark bytes) line → elements_of bytes ≡ Err (fault kinds.Encoding line)
encoding_given bytes line u h = by h.first h.inside h.is_instruction h.whole h.clean h.declares
  where
    by : (first inside : List ℕ) → IsInstruction first inside → without_mark bytes ≡ first ++ h.rest → IsClean first → Declares inside h.encoding → elements_of bytes ≡ Err (fault kinds.Encoding line)
    by first inside (IsInstruction.instruction same is) split clean d =
        let pieces : (60 ∷ 63 ∷ same ++ 63 ∷ []) ++ 62 ∷ [] ≡ 60 ∷ 63 ∷ same ++ 63 ∷ 62 ∷ [] = ap (λ (xs : List ℕ). 60 ∷ 63 ∷ xs) (append_assoc same (63 ∷ []) (62 ∷ [])) in
        given bytes (60 ∷ 63 ∷ same ++ 63 ∷ []) h.rest 62 (fault kinds.Encoding line) u (omega arith)
        (split ∙ ap (λ (xs : List ℕ). xs ++ h.rest) (sym pieces)) (subst IsClean (sym pieces) clean)
        (ap (run nothing_read) (pieces ∙ sym (append-nil (60 ∷ 63 ∷ same ++ 63 ∷ 62 ∷ [])))
        ∙ first_instruction same [] is
        ∙ refused_first (line_at 1 (60 ∷ 63 ∷ same ++ question_end)) (known nothing_declared (same ++ 63 ∷ [])) (foreign_is same h.encoding d h.foreign)
        ∙ ap (λ l. Err (fault kinds.Encoding l)) (sym h.is_line))
