-- Texts that end too early.
use Rattle.std.proofs.Common.{◌≡◌, ℕ, ◌<◌, Bool, true, false, not, List, [], ◌∷◌, ◌++◌, append-nil, length, take, drop, take-append-drop, length-drop, None, Result, Ok, Err, refl, sym, ap, subst, ◌∙◌, arith, inl, inr}
use Rattle.std.specs.Prelude.{◌⊎◌, codes}
use Rattle.std.specs.Str.{IsUtf8}
use Rattle.std.proofs.lemmas.Bool.{true≢false, not-false}
use Rattle.ror_text.specs.Reading.{refuse}
use Rattle.ror_text.proofs.ReadingLemmas.{bind_err, refuse_ok, refuse_err, need_err}
use Rattle.ror_elements.specs.declared.element.ElementFault.{ElementFault}
use Rattle.ror_elements.specs.declared.element.ElementKind.TheVariants as kinds
use Rattle.ror_elements.specs.declared.mode.Home.TheVariants as homes
use Rattle.ror_elements.specs.declared.mode.Mode.{Mode}
use Rattle.ror_elements.specs.declared.mode.Mode.TheVariants as modes
use Rattle.ror_elements.specs.declared.mode.Opening.TheVariants as openings
use Rattle.ror_elements.specs.declared.mode.Quote.{Quote}
use Rattle.ror_elements.specs.declared.mode.Seen.{Seen}
use Rattle.ror_elements.specs.declared.mode.Seen.TheVariants as marks
use Rattle.ror_elements.specs.declared.open.Open.{Open}
use Rattle.ror_elements.specs.declared.reader.Reader.{Reader}
use Rattle.ror_elements.specs.declared.reader.Tag.{Tag}
use Rattle.ror_elements.specs.Elements.{finish}
use Rattle.ror_elements.specs.Faults.{fault}
use Rattle.ror_elements.specs.Grammar.{IsName, IsComment, IsSection, IsInstruction}
use Rattle.ror_elements.specs.Grammar.{BeginsTag}
use Rattle.ror_elements.specs.Laws.{IsReached}
use Rattle.ror_elements.specs.Mode.{is_between, opening_text, quote_byte}
use Rattle.ror_elements.specs.Open.{is_none, last_of}
use Rattle.ror_elements.specs.Reader.{nothing_read, is_outside}
use Rattle.ror_elements.specs.Refusals.{IsInValue, IsClean, IsReadable, IsBeforeRoot, IsUnfinishedRest, IsUnfinished, IsCut, IsFront}
use Rattle.ror_elements.specs.Tree.{Tree}
use Rattle.ror_elements.proofs.Behind.{Ends, EndsQuestion}
use Rattle.ror_elements.proofs.EndsLemmas.{ends_before, question_before}
use Rattle.ror_elements.proofs.FaultWords.{Tagged, InValue, not-true, Stacked, open_names, is_closed, Begun, AtMode, Holds}
use Rattle.ror_elements.proofs.PlainReader.{read-clean}
use Rattle.ror_elements.proofs.TextLemmas.{cut_front}
use Rattle.ror_elements.proofs.FaultFronts.{clean_behind, tag_stands, none_open-below, reached-holds, rooted, run_on, run_end, before_root, inside_at, plain_reads, at_first, front_of, before_of}

-- ---- the last of what was read

-- what is open, if something is
names_are : (top : Open) (below : List Open) → is_none below ≡ false → (names : List (List ℕ)) × (open_names top below ≡ top.name ∷ names)
names_are top [] e = absurd cc
names_are top (around ∷ outer) e = (open_names around outer, refl)

within : (text : List ℕ) (line : ℕ) (top : Open) (below : List Open) (b : ℕ) (piece : List ℕ) → b < 128 → IsUtf8 text → IsClean text → Begun text line top below (b ∷ piece) → IsUnfinished (open_names top below) (b ∷ piece) → IsCut text
within text line top below b piece low u clean g is =
    IsCut.within g.front (b ∷ piece) (open_names top below) g.split
    (front_of g.mode g.front line top below g.like g.reads g.between g.stacked (cut_front g.front piece b low (subst IsUtf8 g.split u))) (clean_behind g.front (b ∷ piece) (subst IsClean g.split clean)) is

-- where something is open
within_open : (text : List ℕ) (line : ℕ) (top : Open) (below : List Open) (b : ℕ) (piece : List ℕ) → b < 128 → IsUtf8 text → IsClean text → Begun text line top below (b ∷ piece) → is_none below ≡ false → ((names : List (List ℕ)) → IsUnfinished (top.name ∷ names) (b ∷ piece)) → IsCut text
within_open text line top below b piece low u clean g inside is =
    let n = names_are top below inside in
    within text line top below b piece low u clean g (subst (λ (names : List (List ℕ)). IsUnfinished names (b ∷ piece)) (sym n.1) (is n.0))

left_of : (text : List ℕ) (count : ℕ) → count < length text → ¬ (drop count text ≡ [])
left_of text count within = λ none. absurd (omega (arith, length-drop count text, ap length none))

-- a mark ends it
dashes : (s : Seen) → Ends 45 s (45 ∷ 45 ∷ 62 ∷ [])
dashes marks.Nothing = Ends.more marks.Nothing 45 (45 ∷ 62 ∷ []) refl (Ends.more marks.One 45 (62 ∷ []) refl (Ends.last marks.Two 62 refl))
dashes marks.One = Ends.more marks.One 45 (45 ∷ 62 ∷ []) refl (Ends.more marks.Two 45 (62 ∷ []) refl (Ends.last marks.Two 62 refl))
dashes marks.Two = Ends.more marks.Two 45 (45 ∷ 62 ∷ []) refl (Ends.more marks.Two 45 (62 ∷ []) refl (Ends.last marks.Two 62 refl))

brackets : (s : Seen) → Ends 93 s (93 ∷ 93 ∷ 62 ∷ [])
brackets marks.Nothing = Ends.more marks.Nothing 93 (93 ∷ 62 ∷ []) refl (Ends.more marks.One 93 (62 ∷ []) refl (Ends.last marks.Two 62 refl))
brackets marks.One = Ends.more marks.One 93 (93 ∷ 62 ∷ []) refl (Ends.more marks.Two 93 (62 ∷ []) refl (Ends.last marks.Two 62 refl))
brackets marks.Two = Ends.more marks.Two 93 (93 ∷ 62 ∷ []) refl (Ends.more marks.Two 93 (62 ∷ []) refl (Ends.last marks.Two 62 refl))

question : (q : Bool) → EndsQuestion q (63 ∷ 62 ∷ [])
question true = EndsQuestion.more true 63 (62 ∷ []) refl (EndsQuestion.last true 62 refl)
question false = EndsQuestion.more false 63 (62 ∷ []) refl (EndsQuestion.last true 62 refl)

a_comment : (s : Seen) (inside : List ℕ) → ((more : List ℕ) → Ends 45 s more → Ends 45 marks.Nothing (inside ++ more)) → IsComment ((60 ∷ 33 ∷ 45 ∷ 45 ∷ inside) ++ codes "-->")
a_comment s inside goes =
    let b = ends_before 45 (λ no_dash. absurd (omega (arith, no_dash))) (inside ++ 45 ∷ 45 ∷ 62 ∷ []) marks.Nothing (goes (45 ∷ 45 ∷ 62 ∷ []) (dashes s)) in
    subst (λ (xs : List ℕ). IsComment (60 ∷ 33 ∷ 45 ∷ 45 ∷ xs)) (sym b.split) (IsComment.comment b.bytes b.is_first)

a_section : (s : Seen) (inside : List ℕ) → ((more : List ℕ) → Ends 93 s more → Ends 93 marks.Nothing (inside ++ more)) → (text : List ℕ) × IsSection ((60 ∷ 33 ∷ 91 ∷ 67 ∷ 68 ∷ 65 ∷ 84 ∷ 65 ∷ 91 ∷ inside) ++ codes "]]>") text
a_section s inside goes =
    let b = ends_before 93 (λ no_bracket. absurd (omega (arith, no_bracket))) (inside ++ 93 ∷ 93 ∷ 62 ∷ []) marks.Nothing (goes (93 ∷ 93 ∷ 62 ∷ []) (brackets s)) in
    (b.bytes, subst (λ (xs : List ℕ). IsSection (60 ∷ 33 ∷ 91 ∷ 67 ∷ 68 ∷ 65 ∷ 84 ∷ 65 ∷ 91 ∷ xs) b.bytes) (sym b.split) (IsSection.section b.bytes b.is_first))

an_instruction : (q : Bool) (inside : List ℕ) → ((more : List ℕ) → EndsQuestion q more → EndsQuestion false (inside ++ more)) → (within : List ℕ) × IsInstruction ((60 ∷ 63 ∷ inside) ++ codes "?>") within
an_instruction q inside goes =
    let b = question_before (inside ++ 63 ∷ 62 ∷ []) false (goes (63 ∷ 62 ∷ []) (question q)) in
    (b.bytes, subst (λ (xs : List ℕ). IsInstruction (60 ∷ 63 ∷ xs) b.bytes) (sym b.split) (IsInstruction.instruction b.bytes b.is_first))

in_a_tag : (text : List ℕ) (line : ℕ) (top : Open) (below : List Open) (name : List ℕ) (names : List (List ℕ)) (rest : List ℕ) → IsUtf8 text → IsClean text → Tagged text line top below name names rest → IsUnfinishedRest names rest → IsCut text
in_a_tag text line top below name names rest u clean t is =
    let s = tag_stands text text [] line top below name names rest (record { utf8 = u; split = sym (append-nil text); clean = clean }) t in
    IsCut.in_tag (open_names top below) names t.bytes name rest line s.0 s.1 is

an_attribute : (quote : Quote) (text : List ℕ) (line : ℕ) (top : Open) (below : List Open) (tag : Tag) (rest : List ℕ) → (v : InValue quote text line top below tag rest)
    → IsInValue v.naming.names rest (v.naming.gap ++ (v.naming.name ++ (v.before ++ (61 ∷ v.after ++ (quote_byte quote ∷ v.written ++ rest)))))
an_attribute quote text line top below tag rest v = IsInValue.behind v.naming.gap v.naming.name v.before v.after v.written v.value quote v.naming.is_gap v.naming.is_name v.naming.distinct v.is_before v.is_after v.is_value

in_a_name : (text : List ℕ) (line : ℕ) (top : Open) (below : List Open) (name : List ℕ) → IsUtf8 text → IsClean text → Begun text line top below (60 ∷ name) → IsName name → BeginsTag name → is_closed top below ≡ false → IsCut text
in_a_name text line top below name u clean g is first closed =
    let front = cut_front g.front name 60 (omega arith) (subst IsUtf8 g.split u) in
    IsCut.in_name g.front name (open_names top below) g.split (front_of g.mode g.front line top below g.like g.reads g.between g.stacked front)
    (λ none. before_of g.mode g.front line top below g.like g.reads g.between g.stacked front (none_open-below top below none) closed)
    (clean_behind g.front (60 ∷ name) (subst IsClean g.split clean)).1 is first

-- in the middle of a construct
cut_in : (mode : Mode) (text : List ℕ) (r : Reader) → IsUtf8 text → IsClean text → is_between mode ≡ false → AtMode mode text r.start r.reference_line r.piece r.tag r.declaration r.top r.below → IsCut text
cut_in modes.Start text r u clean e h = absurd cc
cut_in modes.Content text r u clean e h = absurd cc
cut_in modes.FirstMarkup text r u clean e h = within text r.start r.top r.below 60 [] (omega arith) u clean h.0 (IsUnfinished.markup (open_names r.top r.below))
cut_in modes.Markup text r u clean e h = within text r.start r.top r.below 60 [] (omega arith) u clean h (IsUnfinished.markup (open_names r.top r.below))
cut_in modes.Exclamation text r u clean e h =
    within text r.start r.top r.below 60 (33 ∷ []) (omega arith) u clean h (IsUnfinished.opening (open_names r.top r.below) openings.Comment [] (opening_text openings.Comment) refl (λ none. absurd cc))
cut_in (modes.Beginning opening count) text r u clean e h =
    let t = opening_text opening in
    within text r.start r.top r.below 60 (33 ∷ take count t) (omega arith) u clean h.0 (IsUnfinished.opening (open_names r.top r.below) opening (take count t) (drop count t) (sym (take-append-drop count t)) (left_of t count h.2))
cut_in (modes.Comment before) text r u clean e h = within text r.start h.top r.below 60 (33 ∷ 45 ∷ 45 ∷ h.inside) (omega arith) u clean h.begun (IsUnfinished.comment (open_names h.top r.below) _ (a_comment before h.inside h.goes))
cut_in (modes.Section before) text r u clean e h =
    let k = h.0 in
    let s = a_section before k.inside k.goes in
    within_open text r.start k.top r.below 60 (33 ∷ 91 ∷ 67 ∷ 68 ∷ 65 ∷ 84 ∷ 65 ∷ 91 ∷ k.inside) (omega arith) u clean k.begun h.1 (λ names. IsUnfinished.section k.top.name names _ s.0 s.1)
cut_in (modes.FirstInstruction question) text r u clean e h =
    let s = an_instruction question h.inside h.goes in
    IsCut.within [] (60 ∷ 63 ∷ h.inside) [] h.split (IsFront.before_root (tt, at_first)) (subst IsClean h.split clean) (IsUnfinished.instruction [] _ s.0 s.1)
cut_in (modes.Instruction question) text r u clean e h =
    let s = an_instruction question h.inside h.goes in
    within text r.start r.top r.below 60 (63 ∷ h.inside) (omega arith) u clean h.begun (IsUnfinished.instruction (open_names r.top r.below) _ s.0 s.1)
cut_in modes.EndName text r u clean e h = within_open text r.start r.top r.below 60 (47 ∷ r.piece) (omega arith) u clean h.0 h.2 (λ names. IsUnfinished.end_name r.top.name r.piece names h.1)
cut_in modes.AfterEndName text r u clean e h = within_open text r.start r.top r.below 60 (47 ∷ r.top.name ++ h.space) (omega arith) u clean h.begun h.inside (λ names. IsUnfinished.end_space r.top.name h.space names (h.is_space, h.some))
cut_in modes.StartName text r u clean e h = in_a_name text r.start r.top r.below r.piece u clean h.0 h.1 h.2 h.3
cut_in (modes.Tag spaced) text r u clean e h = in_a_tag text r.start r.top r.below r.tag.name r.tag.names h.space u clean h.tagged (IsUnfinishedRest.space h.space h.is_space)
cut_in modes.EmptyTag text r u clean e h = in_a_tag text r.start r.top r.below r.tag.name r.tag.names _ u clean h.tagged (IsUnfinishedRest.slash h.space h.is_space)
cut_in modes.AttributeName text r u clean e h = in_a_tag text r.start r.top r.below r.tag.name r.tag.names _ u clean h.tagged (IsUnfinishedRest.name h.gap r.piece h.is_gap h.is_name)
cut_in modes.AfterAttributeName text r u clean e h =
    let n = h.naming in
    in_a_tag text r.start r.top r.below r.tag.name n.names _ u clean n.tagged (IsUnfinishedRest.behind_name n.gap n.name h.space n.is_gap n.is_name n.distinct (h.is_space, h.some))
cut_in modes.BeforeValue text r u clean e h =
    let n = h.naming in
    in_a_tag text r.start r.top r.below r.tag.name n.names _ u clean n.tagged (IsUnfinishedRest.behind_equals n.gap n.name h.before h.after n.is_gap n.is_name n.distinct h.is_before h.is_after)
cut_in (modes.Value quote) text r u clean e h =
    in_a_tag text r.start r.top r.below r.tag.name h.naming.names _ u clean h.naming.tagged (IsUnfinishedRest.in_value _ (an_attribute quote text r.start r.top r.below r.tag [] h))
cut_in (modes.Reference homes.Text) text r u clean e h =
    within_open text r.reference_line r.top r.below 38 r.piece (omega arith) u clean h.1.0 h.1.1 (λ names. IsUnfinished.reference r.top.name r.piece names h.0.1)
cut_in (modes.Reference (homes.Value quote)) text r u clean e h =
    let v = h.1 in
    in_a_tag text r.start r.top r.below r.tag.name v.naming.names _ u clean v.naming.tagged (IsUnfinishedRest.reference r.piece _ h.0.1 (an_attribute quote text r.start r.top r.below r.tag (38 ∷ r.piece) v))

-- between constructs
cut_inside : (text : List ℕ) (r : Reader) (below : List Open) → r.mode ≡ modes.Content → IsUtf8 text → IsReached text (record r { below = below }) → Stacked r.top below → is_none below ≡ false → IsCut text
cut_inside text r [] is u reached s inside = absurd cc
cut_inside text r (around ∷ outer) is u reached s inside =
    IsCut.inside r.top.name (open_names around outer)
    (inside_at text r.line r.top around outer r (read-clean text nothing_read _ reached) (plain_reads text _ u (subst (λ (m : Mode). IsReached text (record r { mode = m; below = around ∷ outer })) is reached)) s)

cut_before : (text : List ℕ) (r : Reader) (below : List Open) → r.mode ≡ modes.Content → IsUtf8 text → IsReached text (record r { below = below }) → Stacked r.top below → is_none below ≡ true → last_of r.top.children ≡ None → IsCut text
cut_before text r [] is u reached s out none =
    IsCut.before_root (read-clean text nothing_read _ reached, before_root text r.line r.top r (plain_reads text _ u (subst (λ (m : Mode). IsReached text (record r { mode = m; below = [] })) is reached)) s (no_children r.top.children none))
  where
    no_children : (trees : List Tree) → last_of trees ≡ None → is_none trees ≡ true
    no_children [] e = refl
    no_children (t ∷ []) e = absurd cc
    no_children (t ∷ v ∷ more) e = absurd (by (v ∷ more) refl e)
      where
        by : (trees : List Tree) → is_none trees ≡ false → last_of trees ≡ None → ⊥
        by [] e f = absurd cc
        by (x ∷ []) e f = absurd cc
        by (x ∷ y ∷ more) e f = by (y ∷ more) refl f
cut_before text r (around ∷ outer) is u reached s out none = absurd cc

cut_start : (text : List ℕ) → text ≡ [] → IsCut text
cut_start text none = IsCut.before_root (subst IsBeforeRoot (sym none) (tt, at_first))

cut_between : (mode : Mode) (text : List ℕ) (r : Reader) → r.mode ≡ mode → is_between mode ≡ true → IsUtf8 text → IsReached text r → Holds text r → (is_none r.below ≡ false) ⊎ ((is_none r.below ≡ true) × (last_of r.top.children ≡ None)) → IsCut text
cut_between modes.Start text r is e u reached h why = cut_start text (subst (λ (m : Mode). AtMode m text r.start r.reference_line r.piece r.tag r.declaration r.top r.below) is h.here).0
cut_between modes.Content text r is e u reached h (inl inside) = cut_inside text r r.below is u reached h.stacked inside
cut_between modes.Content text r is e u reached h (inr none) = cut_before text r r.below is u reached h.stacked none.0 none.1
cut_between _ text r is e u reached h why = absurd (true≢false (sym e))

pub cut_at : (text : List ℕ) (r : Reader) (first : ElementFault) → IsUtf8 text → IsReached text r → finish r ≡ Err first → IsCut text
unfolding finish
cut_at text r first u reached e =
    let h = reached-holds text r reached in
    elim (bind_err (refuse (fault kinds.Unclosed r.line) (not (is_between r.mode))) _ first e) [
      | inl construct ↦ cut_in r.mode text r u (read-clean text nothing_read r reached) (not-true (is_between r.mode) (refuse_err _ first (not (is_between r.mode)) construct).0) h.here
      | inr more ↦
          let between = not-false (is_between r.mode) (refuse_ok _ (not (is_between r.mode)) more.0 more.1) in
          elim (bind_err (refuse (fault kinds.Unclosed r.line) (not (is_outside r))) _ first more.2) [
            | inl inside ↦ cut_between r.mode text r refl between u reached h (inl (not-true (is_outside r) (refuse_err _ first (not (is_outside r)) inside).0))
            | inr last ↦ cut_between r.mode text r refl between u reached h (inr (not-false (is_outside r) (refuse_ok _ (not (is_outside r)) last.0 last.1), (need_err _ first (last_of r.top.children) last.2).0))
          ]
    ]

-- what was read has no fault
pub readable : (text : List ℕ) (r : Reader) → IsUtf8 text → IsReached text r → IsReadable text
readable text r u reached = by (finish r) refl
  where
    by : (result : Result Tree ElementFault) → finish r ≡ result → IsReadable text
    by (Err first) e = inr (cut_at text r first u reached e)
    by (Ok root) e = inl (record {
      clean = read-clean text nothing_read r reached;
      named = tt;
      is_rooted = rooted (text ++ []) r root (run_on text [] r (plain_reads text r u reached) ∙ run_end r) e;
    })
