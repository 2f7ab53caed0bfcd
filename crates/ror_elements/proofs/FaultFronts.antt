-- The fronts of texts, behind which constructs begin.
use Rattle.std.proofs.Common.{◌≡◌, ℕ, zero, suc, ◌<◌, true, false, not, List, [], ◌∷◌, ◌++◌, append_assoc, append-nil, length, Some, None, Result, Ok, Err, refl, sym, ap, subst, ◌∙◌, arith, inl, inr}
use Rattle.std.specs.Prelude.{◌⊎◌, codes}
use Rattle.std.specs.List.{AllByRecursion}
use Rattle.std.specs.Str.{IsUtf8, IsAscii}
use Rattle.std.proofs.lemmas.Bool.{cases_Bool, true≢false, not-false}
use Rattle.std.proofs.lemmas.Str.{IsUtf8-nil, IsUtf8-append, IsUtf8-from_ascii}
use Rattle.ror_text.specs.Reading.{◌>>=◌, need, read_all}
use Rattle.ror_text.proofs.ReadingLemmas.{bind_ok, bind-at_ok, read_all-append}
use Rattle.ror_elements.specs.declared.element.ElementFault.{ElementFault}
use Rattle.ror_elements.specs.declared.mode.Home.TheVariants as homes
use Rattle.ror_elements.specs.declared.mode.Mode.{Mode}
use Rattle.ror_elements.specs.declared.mode.Mode.TheVariants as modes
use Rattle.ror_elements.specs.declared.open.Open.{Open}
use Rattle.ror_elements.specs.declared.reader.Reader.{Reader}
use Rattle.ror_elements.specs.Elements.{act_in, act, read, finish, line_after}
use Rattle.ror_elements.specs.Grammar.{IsSpace, IsName, IsEmptyTag, IsTag, AreAttributes}
use Rattle.ror_elements.specs.Grammar.{IsEndTag, IsElement}
use Rattle.ror_elements.specs.Kept.{is_kept}
use Rattle.ror_elements.specs.Laws.{IsReached}
use Rattle.ror_elements.specs.Marks.{is_control, local_name}
use Rattle.ror_elements.specs.Open.{is_none, last_of}
use Rattle.ror_elements.specs.Reader.{nothing_read, whole_text}
use Rattle.ror_elements.specs.Refusals.{TagStandsAt, IsClean, IsBeforeRoot, IsFromRoot, end_tag, end_tags, IsRooted, IsFront, StandsAt}
use Rattle.ror_elements.specs.Tags.{root_name}
use Rattle.ror_elements.specs.Tree.{Tree}
use Rattle.ror_elements.proofs.Behind.{BeforeRoot, BehindRoot}
use Rattle.ror_elements.proofs.ChildLemmas.{last_of-append}
use Rattle.ror_elements.proofs.DocumentLemmas.{content_of, declares_utf8}
use Rattle.ror_elements.proofs.ElementRuns.{MayOpen, opened_as, empty_tag-goes, end_tag-goes}
use Rattle.ror_elements.proofs.FaultSteps.{in_content-goes, at_start-goes, in_markup-goes, in_first_markup-goes, in_exclamation-goes, in_beginning-goes, in_comment-goes, in_section-goes, in_instruction-goes, in_first_instruction-goes}
use Rattle.ror_elements.proofs.FaultTags.{behind_end-goes, in_end_name-goes, in_tag-goes, in_start_name-goes, in_empty_tag-goes, behind_name-goes, in_attribute_name-goes, before_value-goes, in_value-goes}
use Rattle.ror_elements.proofs.FaultValues.{in_reference-goes}
use Rattle.ror_elements.proofs.FaultWords.{Tagged, not-true, EndsLow, IsBetween, Stacked, open_names, is_closed, Begun, AtMode, Holds, Misplaces, Goes, when, past}
use Rattle.ror_elements.proofs.LawLemmas.{lines_are_counted}
use Rattle.ror_elements.proofs.PlainReader.{plain, run, around_closed, same_run, read-clean}
use Rattle.ror_elements.proofs.Runs.{line_at, line_at-is, at}
use Rattle.ror_elements.proofs.StartRuns.{as_anywhere}
use Rattle.ror_elements.proofs.TextLemmas.{cut_front, nothing-kept}

-- ---- each byte

act_in-goes : (mode : Mode) (seen : List ℕ) (r : Reader) (byte : ℕ) → IsReached seen r → r.mode ≡ mode → Stacked r.top r.below → AtMode mode seen r.start r.reference_line r.piece r.tag r.declaration r.top r.below → Goes (seen ++ byte ∷ []) (act_in mode r byte)
act_in-goes modes.Start seen r byte reached is s h = at_start-goes seen r byte reached is h.0 h.1 h.2 s
act_in-goes modes.Content seen r byte reached is s h = in_content-goes seen r byte reached is h s
act_in-goes modes.FirstMarkup seen r byte reached is s h = in_first_markup-goes seen r byte h.0 h.1 h.2 h.3 s
act_in-goes modes.Markup seen r byte reached is s h = in_markup-goes seen r byte h s
act_in-goes modes.Exclamation seen r byte reached is s h = in_exclamation-goes seen r byte h s
act_in-goes (modes.Beginning opening count) seen r byte reached is s h = in_beginning-goes opening count seen r byte h.0 h.1 h.2 s
act_in-goes (modes.Comment before) seen r byte reached is s h = in_comment-goes before seen r byte h s
act_in-goes (modes.Section before) seen r byte reached is s h = in_section-goes before seen r byte h.0 h.1 s
act_in-goes (modes.FirstInstruction question) seen r byte reached is s h = in_first_instruction-goes question seen r byte h s
act_in-goes (modes.Instruction question) seen r byte reached is s h = in_instruction-goes question seen r byte h s
act_in-goes modes.EndName seen r byte reached is s h = in_end_name-goes seen r byte is h s
act_in-goes modes.AfterEndName seen r byte reached is s h = behind_end-goes seen r byte h s
act_in-goes modes.StartName seen r byte reached is s h = in_start_name-goes seen r byte is h.0 h.1 h.2 h.3 s
act_in-goes (modes.Tag spaced) seen r byte reached is s h = in_tag-goes spaced seen r byte h s
act_in-goes modes.EmptyTag seen r byte reached is s h = in_empty_tag-goes seen r byte h s
act_in-goes modes.AttributeName seen r byte reached is s h = in_attribute_name-goes seen r byte is h s
act_in-goes modes.AfterAttributeName seen r byte reached is s h = behind_name-goes seen r byte h s
act_in-goes modes.BeforeValue seen r byte reached is s h = before_value-goes seen r byte is h s
act_in-goes (modes.Value quote) seen r byte reached is s h = in_value-goes quote seen r byte reached is h s
act_in-goes (modes.Reference homes.Text) seen r byte reached is s h = in_reference-goes homes.Text seen r byte is h.0.0 h.0.1 h.1 s
act_in-goes (modes.Reference (homes.Value quote)) seen r byte reached is s h = in_reference-goes (homes.Value quote) seen r byte is h.0.0 h.0.1 h.1 s

lined : (seen : List ℕ) (line : ℕ) (acted : Result Reader ElementFault) → Goes seen acted → Goes seen (acted >>= λ next. Ok (record next { line = line }))
lined seen line (Ok next) h = record { stacked = h.stacked; here = h.here }
lined seen line (Err f) h = h

pub read-goes : (seen : List ℕ) (r : Reader) (byte : ℕ) → IsReached seen r → Holds seen r → Goes (seen ++ byte ∷ []) (read r byte)
unfolding read act
read-goes seen r byte reached h =
    past (seen ++ byte ∷ []) _ (is_control byte) _ (λ control. Misplaces.control seen byte refl control (lines_are_counted seen r reached))
    (λ _. lined (seen ++ byte ∷ []) (line_after r.line byte) (act_in r.mode r byte) (act_in-goes r.mode seen r byte reached refl h.stacked h.here))

one_reached : (seen : List ℕ) (r next : Reader) (byte : ℕ) → IsReached seen r → read r byte ≡ Ok next → IsReached (seen ++ byte ∷ []) next
one_reached seen r next byte reached e = read_all-append read nothing_read r seen (byte ∷ []) reached ∙ bind-at_ok (read r byte) _ next e

pub all-holds : (bytes seen : List ℕ) (r last : Reader) → IsReached seen r → Holds seen r → read_all read r bytes ≡ Ok last → Holds (seen ++ bytes) last
all-holds [] seen r last reached h e =
    let same : r ≡ last = cc in
    subst (λ (xs : List ℕ). Holds xs last) (sym (append-nil seen)) (subst (Holds seen) same h)
all-holds (byte ∷ bytes) seen r last reached h e =
    let first = bind_ok (read r byte) (λ next. read_all read next bytes) last e in
    let there : Holds (seen ++ byte ∷ []) first.0 = subst (Goes (seen ++ byte ∷ [])) first.1 (read-goes seen r byte reached h) in
    subst (λ (xs : List ℕ). Holds xs last) (append_assoc seen (byte ∷ []) bytes) (all-holds bytes (seen ++ byte ∷ []) first.0 last (one_reached seen r first.0 byte reached first.1) there first.2)

nothing-holds : Holds [] nothing_read
nothing-holds = record { stacked = (refl, refl); here = (refl, refl, refl) }

pub reached-holds : (seen : List ℕ) (r : Reader) → IsReached seen r → Holds seen r
reached-holds seen r reached = all-holds seen [] nothing_read r refl nothing-holds reached

-- ---- fronts

last_there : (trees : List Tree) → is_none trees ≡ false → (root : Tree) × (last_of trees ≡ Some root)
last_there [] e = absurd cc
last_there (t ∷ []) e = (t, refl)
last_there (t ∷ u ∷ more) e = last_there (u ∷ more) refl

pub rooted : (text : List ℕ) (last : Reader) (root : Tree) → run nothing_read text ≡ Ok last → finish last ≡ Ok root → IsRooted text
rooted text last root e f = by (content_of text last root e f refl)
  where
    by : ((whole_text.children ≡ []) × BeforeRoot 1 text root) ⊎ BehindRoot whole_text.children text root → IsRooted text
    by (inl h) =
        let b = h.1 in
        record {
          root = root;
          before = b.before;
          element = b.element;
          after = b.after;
          whole = b.split;
          is_before = b.is_before;
          is_root = subst (λ l. IsElement 0 (Some []) l b.element (root ∷ [])) (line_at-is 1 b.before) b.is_root;
          is_named = b.is_named;
          is_after = b.is_after;
          declared = declares_utf8 text root (bind-at_ok (run nothing_read text) finish last e ∙ f);
        }
    by (inr b) = absurd (true≢false b.some)

pub run_on : (front bytes : List ℕ) (r : Reader) → run nothing_read front ≡ Ok r → run nothing_read (front ++ bytes) ≡ run r bytes
unfolding run
run_on front bytes r e = read_all-append plain nothing_read r front bytes e

pub run_end : (r : Reader) → run r [] ≡ Ok r
unfolding run
run_end r = refl

pub finish_at : (line : ℕ) (top : Open) (j : Reader) (root : Tree) → last_of top.children ≡ Some root → finish (at modes.Content line top [] j) ≡ Ok root
unfolding finish
finish_at line top j root e = ap (need _) e

pub is_root_tag : IsEmptyTag (codes "<XMCDA/>") root_name None
is_root_tag = IsTag.tag root_name [] [] [] ((refl, (refl, (refl, (refl, (refl, tt))))), λ none. absurd cc) ((λ e. absurd (omega (arith, e))), λ e. absurd (omega (arith, e))) AreAttributes.nothing tt tt

closed_kept : (element around : Open) → element.kept ≡ true → (root : Tree) × (last_of (around_closed element around).children ≡ Some root)
closed_kept element around kept = rw kept (_, last_of-append around.children _)

root_opens : (top : Open) → is_none top.children ≡ true → MayOpen top [] root_name
unfolding local_name
root_opens top none = record { few = omega arith; first = ap not none; form = refl }

pub before_root : (front : List ℕ) (line : ℕ) (top : Open) (j : Reader) → run nothing_read front ≡ Ok (at modes.Content line top [] j) → Stacked top [] → is_none top.children ≡ true → IsRooted (front ++ codes "<XMCDA/>")
unfolding is_kept local_name
before_root front line top j e s none =
    let g = empty_tag-goes (codes "<XMCDA/>") root_name None is_root_tag line top [] j (root_opens top none) in
    let l = closed_kept (opened_as top root_name None line) top (root_is_kept top s) in
    rooted (front ++ codes "<XMCDA/>") _ l.0 (run_on front (codes "<XMCDA/>") _ e ∙ g.1 [] ∙ run_end _) (finish_at _ _ g.0 l.0 l.1)
  where
    root_is_kept : (top : Open) → Stacked top [] → (opened_as top root_name None line).kept ≡ true
    root_is_kept top s = rw (s.0, s.1) refl

blank : IsSpace (32 ∷ [])
blank = (refl, tt)

pub closed_name : (element around : Open) → (around_closed element around).name ≡ around.name
closed_name element around = when (λ (x : Open). x.name ≡ around.name) element.kept _ _ (λ _. refl) (λ _. refl)

pub closed_stacked : (element around : Open) (outer : List Open) → Stacked around outer → Stacked (around_closed element around) outer
closed_stacked element around outer s = when (λ (x : Open). Stacked x outer) element.kept _ _ (λ _. s) (λ _. s)

-- the end tags of what is open close the root
all_close : (outer : List Open) (top around : Open) (line : ℕ) (j : Reader) → Stacked top (around ∷ outer) → (last : Reader) × (root : Tree) × (run (at modes.Content line top (around ∷ outer) j) (end_tags (open_names top (around ∷ outer))) ≡ Ok last) × (finish last ≡ Ok root)
all_close [] top around line j s =
    let g = end_tag-goes (end_tag top.name) top.name (IsEndTag.end top.name (32 ∷ []) blank) s.0 line top around [] j refl in
    let l = closed_kept top around s.1 in
    (_, l.0, g.1 [] ∙ run_end _, finish_at _ _ g.0 l.0 l.1)
all_close (next ∷ outer) top around line j s =
    let g = end_tag-goes (end_tag top.name) top.name (IsEndTag.end top.name (32 ∷ []) blank) s.0 line top around (next ∷ outer) j refl in
    let l = line_at line (end_tag top.name) in
    let later = all_close outer (around_closed top around) next l g.0 (closed_stacked top around (next ∷ outer) s.2) in (
      later.0,
      later.1,
      g.1 (end_tags (open_names around (next ∷ outer)))
          ∙ ap (λ (n : List ℕ). run (at modes.Content l (around_closed top around) (next ∷ outer) g.0) (end_tags (n ∷ open_names next outer))) (sym (closed_name top around))
          ∙ later.2,
      later.3,
    )

-- each element that is open has a name
stacked_names : (top : Open) (below : List Open) → Stacked top below → AllByRecursion IsName (open_names top below)
stacked_names top [] s = tt
stacked_names top (around ∷ outer) s = (s.0, stacked_names around outer s.2)

pub inside_at : (front : List ℕ) (line : ℕ) (top around : Open) (outer : List Open) (j : Reader) → IsClean front → run nothing_read front ≡ Ok (at modes.Content line top (around ∷ outer) j) → Stacked top (around ∷ outer) → IsFromRoot front (open_names top (around ∷ outer))
inside_at front line top around outer j clean e s =
    let c = all_close outer top around line j s in
    record {
      clean = clean;
      named = stacked_names top (around ∷ outer) s;
      is_rooted = rooted (front ++ end_tags (open_names top (around ∷ outer))) c.0 c.1 (run_on front _ _ e ∙ c.2) c.3;
    }

behind_at : (front : List ℕ) (line : ℕ) (top : Open) (j : Reader) → IsClean front → run nothing_read front ≡ Ok (at modes.Content line top [] j) → is_none top.children ≡ false → IsFromRoot front []
behind_at front line top j clean e some =
    let l = last_there top.children some in
    record { clean = clean; named = tt; is_rooted = rooted (front ++ []) _ l.0 (run_on front [] _ e ∙ run_end _) (finish_at line top j l.0 l.1) }

front_at : (front : List ℕ) (line : ℕ) (top : Open) (below : List Open) (j : Reader) → IsClean front → run nothing_read front ≡ Ok (at modes.Content line top below j) → Stacked top below → IsFront front (open_names top below)
front_at front line top [] j clean e s = elim (cases_Bool (is_none top.children)) [
  | inl none ↦ IsFront.before_root (clean, before_root front line top j e s none)
  | inr some ↦ IsFront.from_root [] (behind_at front line top j clean e some)
]
front_at front line top (around ∷ outer) j clean e s = IsFront.from_root (open_names top (around ∷ outer)) (inside_at front line top around outer j clean e s)

pub plain_reads : (front : List ℕ) (r : Reader) → IsUtf8 front → IsReached front r → run nothing_read front ≡ Ok r
unfolding run
plain_reads front r u reached = sym (same_run [] front nothing_read u nothing-kept (read-clean front nothing_read r reached)) ∙ reached

-- nothing stands before the root
pub at_first : IsRooted (codes "<XMCDA/>")
unfolding is_kept local_name
at_first =
    let g = empty_tag-goes (codes "<XMCDA/>") root_name None is_root_tag 1 whole_text [] nothing_read (root_opens whole_text refl) in
    let l = closed_kept (opened_as whole_text root_name None 1) whole_text root_is_kept in
    rooted (codes "<XMCDA/>") _ l.0 (as_anywhere 88 (77 ∷ 67 ∷ 68 ∷ 65 ∷ 47 ∷ 62 ∷ []) (λ e. absurd (omega (arith, e))) ∙ g.1 [] ∙ run_end _) (finish_at _ _ g.0 l.0 l.1)
  where
    root_is_kept : (opened_as whole_text root_name None 1).kept ≡ true
    root_is_kept = refl

nothing_open : (top : Open) (below : List Open) → [] ≡ below → [] ≡ open_names top below
nothing_open top [] e = refl
nothing_open top (around ∷ outer) e = absurd cc

-- a front that was read
pub front_of : (mode : Mode) (front : List ℕ) (line : ℕ) (top : Open) (below : List Open) (like : Reader) → IsReached front (record like { mode = mode; line = line; top = top; below = below }) → IsBetween front mode below → Stacked top below → IsUtf8 front → IsFront front (open_names top below)
front_of modes.Content front line top below like reads between s u = front_at front line top below like (read-clean front nothing_read _ reads) (plain_reads front _ u reads) s
front_of modes.Start front line top below like reads between s u =
    let first = subst (λ (xs : List ℕ). IsReached xs (record like { mode = modes.Start; line = line; top = top; below = below })) between reads in
    let same : nothing_read ≡ record like { mode = modes.Start; line = line; top = top; below = below } = cc in
    subst (λ (xs : List ℕ). IsFront xs (open_names top below)) (sym between) (subst (IsFront []) (nothing_open top below (ap (λ (r : Reader). r.below) same)) (IsFront.before_root (tt, at_first)))
front_of _ front line top below like reads between s u = absurd between

-- before the root
pub before_of : (mode : Mode) (front : List ℕ) (line : ℕ) (top : Open) (below : List Open) (like : Reader) → IsReached front (record like { mode = mode; line = line; top = top; below = below }) → IsBetween front mode below → Stacked top below → IsUtf8 front → is_none below ≡ true → is_closed top below ≡ false → IsBeforeRoot front
before_of modes.Content front line top [] like reads between s u out first = (read-clean front nothing_read _ reads, before_root front line top like (plain_reads front _ u reads) s (not-false (is_none top.children) first))
before_of modes.Content front line top (around ∷ outer) like reads between s u out first = absurd cc
before_of modes.Start front line top below like reads between s u out first = subst IsBeforeRoot (sym between) (tt, at_first)
before_of _ front line top below like reads between s u out first = absurd between

-- behind the root
pub behind_of : (mode : Mode) (front : List ℕ) (line : ℕ) (top : Open) (below : List Open) (like : Reader) → IsReached front (record like { mode = mode; line = line; top = top; below = below }) → IsBetween front mode below → IsUtf8 front → is_closed top below ≡ true → IsFromRoot front []
behind_of modes.Content front line top [] like reads between u closed =
    behind_at front line top like (read-clean front nothing_read _ reads) (plain_reads front _ u reads) (not-true (is_none top.children) closed)
behind_of modes.Content front line top (around ∷ outer) like reads between u closed = absurd cc
behind_of modes.Start front line top below like reads between u closed =
    let first = subst (λ (xs : List ℕ). IsReached xs (record like { mode = modes.Start; line = line; top = top; below = below })) between reads in
    let same : nothing_read ≡ record like { mode = modes.Start; line = line; top = top; below = below } = cc in
    absurd (true≢false (sym closed ∙ ap (λ (r : Reader). is_closed r.top r.below) (sym same)))
behind_of _ front line top below like reads between u closed = absurd between

-- ---- from what was read to the text

-- a text of which these bytes were read
pub record IsText (text seen after : List ℕ) : Type 0 where
  pub utf8 : IsUtf8 text
  pub split : text ≡ seen ++ after
  pub clean : IsClean seen

pub clean_behind : (front bytes : List ℕ) → IsClean (front ++ bytes) → IsClean bytes
clean_behind [] bytes clean = clean
clean_behind (byte ∷ front) bytes clean = clean_behind front bytes clean.1

pub whole_is : (text seen after front piece : List ℕ) → text ≡ seen ++ after → seen ≡ front ++ piece → text ≡ front ++ (piece ++ after)
whole_is text seen after front piece e f = e ∙ ap (λ (xs : List ℕ). xs ++ after) f ∙ append_assoc front piece after

pub front_utf8 : (text seen after front piece : List ℕ) (b : ℕ) → b < 128 → IsText text seen after → seen ≡ front ++ b ∷ piece → IsUtf8 front
front_utf8 text seen after front piece b low t e = cut_front front (piece ++ after) b low (subst IsUtf8 (whole_is text seen after front (b ∷ piece) t.split e) t.utf8)

pub stands : (text seen after : List ℕ) (line : ℕ) (top : Open) (below : List Open) (b : ℕ) (piece : List ℕ) → b < 128 → IsText text seen after → Begun seen line top below (b ∷ piece) → StandsAt text line (open_names top below) (b ∷ piece)
stands text seen after line top below b piece low t g = record {
  front = g.front;
  after = after;
  whole = whole_is text seen after g.front (b ∷ piece) t.split g.split;
  is_front = front_of g.mode g.front line top below g.like g.reads g.between g.stacked (front_utf8 text seen after g.front piece b low t g.split);
  clean = clean_behind g.front (b ∷ piece) (subst IsClean g.split t.clean);
  is_line = lines_are_counted g.front _ g.reads;
}

pub one_ascii : (byte : ℕ) → byte < 128 → IsAscii (byte ∷ [])
one_ascii byte low zero = low
one_ascii byte low (suc i) = omega arith

low_utf8 : (front rest : List ℕ) → EndsLow front → IsUtf8 (front ++ rest) → IsUtf8 front
low_utf8 front rest (inl none) u = subst IsUtf8 (sym none) IsUtf8-nil
low_utf8 front rest (inr (before, byte, split, low)) u =
    let whole : front ++ rest ≡ before ++ byte ∷ rest = ap (λ (xs : List ℕ). xs ++ rest) split ∙ append_assoc before (byte ∷ []) rest in
    subst IsUtf8 (sym split) (IsUtf8-append before (byte ∷ []) (cut_front before rest byte low (subst IsUtf8 whole u)) (IsUtf8-from_ascii (byte ∷ []) (one_ascii byte low)))

low_front : (mode : Mode) (front : List ℕ) (below : List Open) → IsBetween front mode below → is_none below ≡ true → EndsLow front
low_front modes.Content front below between out = between out
low_front modes.Start front below between out = inl between
low_front _ front below between out = absurd between

-- outside the root any byte may stand there
pub stands_outside : (text seen after : List ℕ) (line : ℕ) (top : Open) (below : List Open) (piece : List ℕ) → is_none below ≡ true → IsText text seen after → Begun seen line top below piece → StandsAt text line (open_names top below) piece
stands_outside text seen after line top below piece out t g =
    let whole = whole_is text seen after g.front piece t.split g.split in
    record {
      front = g.front;
      after = after;
      whole = whole;
      is_front = front_of g.mode g.front line top below g.like g.reads g.between g.stacked (low_utf8 g.front (piece ++ after) (low_front g.mode g.front below g.between out) (subst IsUtf8 whole t.utf8));
      clean = clean_behind g.front piece (subst IsClean g.split t.clean);
      is_line = lines_are_counted g.front _ g.reads;
    }

pub count_names : (top : Open) (below : List Open) → length (open_names top below) ≡ length below
count_names top [] = refl
count_names top (around ∷ outer) = ap suc (count_names around outer)

pub none_open-below : (top : Open) (below : List Open) → open_names top below ≡ [] → is_none below ≡ true
none_open-below top [] e = refl
none_open-below top (around ∷ outer) e = absurd cc

-- a tag that was begun
pub tag_stands : (text seen after : List ℕ) (line : ℕ) (top : Open) (below : List Open) (name : List ℕ) (names : List (List ℕ)) (rest : List ℕ) → IsText text seen after → (t : Tagged seen line top below name names rest)
    → (there : TagStandsAt text line (open_names top below) t.bytes name names rest) × (there.stands.after ≡ after)
tag_stands text seen after line top below name names rest t g =
    let b = g.is_begun in
    let whole = b.whole in
    let k = subst (Begun seen line top below) whole g.begun in
    let front = k.front in
    let u = front_utf8 text seen after front (name ++ (b.written ++ rest)) 60 (omega arith) t k.split in (
      record {
        stands = record { front = front; after = after; whole = whole_is text seen after front g.bytes t.split (k.split ∙ ap (λ (xs : List ℕ). front ++ xs) (sym whole)); is_front = front_of k.mode front line top below k.like k.reads k.between k.stacked u; clean = clean_behind front g.bytes (subst IsClean (k.split ∙ ap (λ (xs : List ℕ). front ++ xs) (sym whole)) t.clean); is_line = lines_are_counted front _ k.reads };
        is_begun = b;
        few = omega (arith, g.few, count_names top below);
        first = λ none. before_of k.mode front line top below k.like k.reads k.between k.stacked u (none_open-below top below none) g.first;
      },
      refl,
    )
