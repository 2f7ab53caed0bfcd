-- A root of another name is given as such.
use Rattle.std.proofs.Common.{◌≡◌, ℕ, Bool, true, false, not, List, [], ◌∷◌, ◌++◌, append_assoc, append-nil, length, Option, None, Result, Ok, Err, refl, sym, ap, subst, ◌∙◌, arith, inl, inr}
use Rattle.std.specs.Prelude.{◌⊎◌, nat_le, codes}
use Rattle.std.specs.Str.{IsUtf8, bytes_eq}
use Rattle.std.proofs.lemmas.Bool.{cases_Bool, leb-false, false_from_ne_true}
use Rattle.std.proofs.lemmas.Slice.Eq.{bytes_eq-Decides}
use Rattle.ror_text.proofs.ReadingLemmas.{bind_ok}
use Rattle.ror_elements.specs.declared.element.ElementFault.{ElementFault}
use Rattle.ror_elements.specs.declared.element.ElementKind.TheVariants as kinds
use Rattle.ror_elements.specs.declared.mode.Mode.{Mode}
use Rattle.ror_elements.specs.declared.mode.Mode.TheVariants as modes
use Rattle.ror_elements.specs.declared.open.Open.{Open}
use Rattle.ror_elements.specs.declared.reader.Reader.{Reader}
use Rattle.ror_elements.specs.declared.reader.Tag.{Tag}
use Rattle.ror_elements.specs.Elements.{finish, elements_of, without_mark}
use Rattle.ror_elements.specs.Faults.{fault}
use Rattle.ror_elements.specs.Grammar.{IsName, BeginsTag, IsTag, line_behind}
use Rattle.ror_elements.specs.Marks.{local_name}
use Rattle.ror_elements.specs.Open.{is_none}
use Rattle.ror_elements.specs.Reader.{nothing_read, whole_text, in_content, begin_tag, in_markup}
use Rattle.ror_elements.specs.Refusals.{IsClean, IsBeforeRoot, HasForm}
use Rattle.ror_elements.specs.Tree.{Tree}
use Rattle.ror_elements.specs.Tags.{root_name, is_bad_root, open_element, in_tag}
use Rattle.ror_elements.proofs.ElementRuns.{in_start, start_name-run, tag-read, empty_tag-goes}
use Rattle.ror_elements.proofs.FaultFronts.{run_on, is_root_tag}
use Rattle.ror_elements.proofs.FrontRuns.{run_split, rooted_reads, before_mode, ended, unclosed}
use Rattle.ror_elements.proofs.GivenFaults.{deep_here, clean_append, given, reached_by, start_only}
use Rattle.ror_elements.proofs.LawLemmas.{lines_are_counted, without_mark-IsUtf8}
use Rattle.ror_elements.proofs.PlainReader.{plain, plain_in_empty_tag, run}
use Rattle.ror_elements.proofs.Runs.{line_at, at}
use Rattle.ror_elements.proofs.StartRuns.{as_anywhere}
use Rattle.ror_elements.proofs.TagRuns.{tagged}
use Rattle.ror_elements.proofs.TextLemmas.{cut_front}

-- ---- what is open where the root may begin

root_name-is : IsName root_name
root_name-is = ((refl, (refl, (refl, (refl, (refl, tt))))), λ none. absurd cc)

root_begins : BeginsTag root_name
root_begins = ((λ e. absurd (omega (arith, e))), λ e. absurd (omega (arith, e)))

ok_or_err : (x : Reader) (f : ElementFault) → ◌≡◌ {A = Result Reader ElementFault} (Ok x) (Err f) → ⊥
ok_or_err x f e = absurd cc

too_many : (line start : ℕ) (top : Open) (below : List Open) (j last : Reader) → nat_le 64 (length below) ≡ true → run (in_start root_name line start top below j) (47 ∷ 62 ∷ []) ≡ Ok last → ⊥
too_many line start top below j last deep e =
    let parts = run_split (47 ∷ []) (62 ∷ []) (in_start root_name line start top below j) last e in
    ok_or_err parts.0 _ (sym parts.1 ∙ deep_here root_name 47 line start top below j refl deep)

pub inside_fails : (line : ℕ) (top around : Open) (outer : List Open) (j last : Reader) (root : Tree) → run (at modes.Content line top (around ∷ outer) j) (codes "<XMCDA/>") ≡ Ok last → finish last ≡ Ok root → ⊥
inside_fails line top around outer j last root e f = elim (cases_Bool (nat_le 64 (length (around ∷ outer)))) [
  | inl deep ↦ too_many (line_at line root_name) line top (around ∷ outer) j last deep (sym (start_name-run root_name root_name-is root_begins line top (around ∷ outer) j (47 ∷ 62 ∷ []) refl) ∙ e)
  | inr few ↦
      let g = empty_tag-goes (codes "<XMCDA/>") root_name None is_root_tag line top (around ∷ outer) j (record { few = leb-false 64 (length (around ∷ outer)) few; first = refl; form = refl }) in
      let same = ended _ last (sym (g.1 []) ∙ e) in
      unclosed _ around outer _ g.0 root (ap finish same ∙ f)
]

pub second_fails : (line : ℕ) (top : Open) (j last : Reader) → is_none top.children ≡ false → run (at modes.Content line top [] j) (codes "<XMCDA/>") ≡ Ok last → ⊥
unfolding run plain in_content in_markup begin_tag
second_fails line top j last some e = let f = rw some at e in absurd cc

-- ---- a front before the root

pub record Led (front : List ℕ) : Type 0 where
  pub top : Open
  pub like : Reader
  pub none : is_none top.children ≡ true
  pub runs : (byte : ℕ) (more : List ℕ) → ¬ (byte ≡ 63) → run nothing_read (front ++ 60 ∷ byte ∷ more) ≡ run (at modes.Content (line_behind 1 front) top [] like) (60 ∷ byte ∷ more)

led_by : (front : List ℕ) (below : List Open) (r last : Reader) (root : Tree) → run nothing_read front ≡ Ok (at modes.Content r.line r.top below r) → run (at modes.Content r.line r.top below r) (codes "<XMCDA/>") ≡ Ok last → finish last ≡ Ok root → r.line ≡ line_behind 1 front → Led front
led_by front (around ∷ outer) r last root e f g lines = absurd (inside_fails r.line r.top around outer r last root f g)
led_by front [] r last root e f g lines = elim (cases_Bool (is_none r.top.children)) [
  | inl none ↦ record {
    top = r.top;
    like = r;
    none = none;
    runs = λ byte more other. run_on front (60 ∷ byte ∷ more) _ e ∙ ap (λ l. run (at modes.Content l r.top [] r) (60 ∷ byte ∷ more)) lines;
  }
  | inr some ↦ absurd (second_fails r.line r.top r last some f)
]

pub led : (front : List ℕ) → IsUtf8 front → IsBeforeRoot front → Led front
led front u h =
    let all = bind_ok (run nothing_read (front ++ codes "<XMCDA/>")) finish h.1.root (rooted_reads (front ++ codes "<XMCDA/>") h.1) in
    let parts = run_split front (codes "<XMCDA/>") nothing_read all.0 all.1 in
    let r = parts.0 in
    let reached = reached_by front r u h.0 parts.1 in
    elim (before_mode r all.0 h.1.root parts.2 all.2) [
      | inl is ↦
          let nothing = start_only front r reached is in
          subst Led (sym nothing) (record { top = whole_text; like = nothing_read; none = refl; runs = λ byte more other. as_anywhere byte more other })
      | inr is ↦
          led_by front r.below r all.0 h.1.root (subst (λ (m : Mode). run nothing_read front ≡ Ok (record r { mode = m })) is parts.1)
          (subst (λ (m : Mode). run (record r { mode = m }) (codes "<XMCDA/>") ≡ Ok all.0) is parts.2) all.2 (lines_are_counted front r reached)
    ]

-- ---- the tag

bad_end : (spaced : Bool) (line start : ℕ) (top : Open) (tag : Tag) (j : Reader) → bytes_eq (local_name tag.name) root_name ≡ false → run (tagged (modes.Tag spaced) line start top [] tag j) (62 ∷ []) ≡ Err (fault kinds.Form start)
unfolding run plain in_tag open_element is_bad_root
bad_end spaced line start top tag j other = rw other refl

bad_empty : (spaced : Bool) (line start : ℕ) (top : Open) (tag : Tag) (j : Reader) → bytes_eq (local_name tag.name) root_name ≡ false → run (tagged (modes.Tag spaced) line start top [] tag j) (47 ∷ 62 ∷ []) ≡ Err (fault kinds.Form start)
unfolding run plain in_tag plain_in_empty_tag open_element is_bad_root
bad_empty spaced line start top tag j other = rw other refl

differs : (tag name : List ℕ) → tag ≡ name → ¬ (local_name name ≡ root_name) → bytes_eq (local_name tag) root_name ≡ false
differs tag name e other = false_from_ne_true (bytes_eq (local_name tag) root_name) (λ same. other (ap local_name (sym e) ∙ (bytes_eq-Decides (local_name tag) root_name).0 same))

form_at : (ending tag name : List ℕ) (id : Option (List ℕ)) → (ending ≡ 62 ∷ []) ⊎ (ending ≡ 47 ∷ 62 ∷ []) → IsTag ending tag name id → ¬ (local_name name ≡ root_name) → (line : ℕ) (top : Open) (j : Reader) → is_none top.children ≡ true
    → run (at modes.Content line top [] j) tag ≡ Err (fault kinds.Form line)
form_at ending tag name id (inl e) is other line top j none =
    let r = tag-read 62 [] (inl refl) tag name id (subst (λ (xs : List ℕ). IsTag xs tag name id) e is) line top [] j (omega arith) (ap not none) in
    ap (run (at modes.Content line top [] j)) (sym (append-nil tag)) ∙ r.reads [] ∙ bad_end r.spaced (line_at line r.front) line top r.tag r.j (differs r.tag.name name r.is_name other)
form_at ending tag name id (inr e) is other line top j none =
    let r = tag-read 47 (62 ∷ []) (inr refl) tag name id (subst (λ (xs : List ℕ). IsTag xs tag name id) e is) line top [] j (omega arith) (ap not none) in
    ap (run (at modes.Content line top [] j)) (sym (append-nil tag)) ∙ r.reads [] ∙ bad_empty r.spaced (line_at line r.front) line top r.tag r.j (differs r.tag.name name r.is_name other)

-- the `>` at the end of a tag
record Ends (tag : List ℕ) : Type 0 where
  before : List ℕ
  split : tag ≡ before ++ 62 ∷ []

tag_ends : (ending tag name : List ℕ) (id : Option (List ℕ)) → (ending ≡ 62 ∷ []) ⊎ (ending ≡ 47 ∷ 62 ∷ []) → IsTag ending tag name id → Ends tag
tag_ends ending tag name id (inl e) (IsTag.tag same written space list n b a d s) = record {
  before = 60 ∷ same ++ (written ++ space);
  split = ap (λ (xs : List ℕ). 60 ∷ same ++ (written ++ (space ++ xs))) e ∙ ap (λ (xs : List ℕ). 60 ∷ xs) (ap (λ (xs : List ℕ). same ++ xs) (sym (append_assoc written space (62 ∷ []))) ∙ sym (append_assoc same (written ++ space) (62 ∷ [])));
}
tag_ends ending tag name id (inr e) (IsTag.tag same written space list n b a d s) = record {
  before = 60 ∷ same ++ (written ++ (space ++ 47 ∷ []));
  split = ap (λ (xs : List ℕ). 60 ∷ same ++ (written ++ (space ++ xs))) e ∙ ap (λ (xs : List ℕ). 60 ∷ xs) (ap (λ (xs : List ℕ). same ++ xs) (ap (λ (xs : List ℕ). written ++ xs) (sym (append_assoc space (47 ∷ []) (62 ∷ []))) ∙ sym (append_assoc written (space ++ 47 ∷ []) (62 ∷ []))) ∙ sym (append_assoc same (written ++ (space ++ 47 ∷ [])) (62 ∷ [])));
}

-- a tag begins with `<` and a byte other than `?`
record Begins (tag : List ℕ) : Type 0 where
  byte : ℕ
  more : List ℕ
  split : tag ≡ 60 ∷ byte ∷ more
  other : ¬ (byte ≡ 63)

name_begins : (name rest : List ℕ) → BeginsTag name → Begins (60 ∷ name ++ rest)
name_begins [] rest b = absurd b
name_begins (byte ∷ name) rest b = record { byte = byte; more = name ++ rest; split = refl; other = b.1 }

tag_begins : (ending tag name : List ℕ) (id : Option (List ℕ)) → IsTag ending tag name id → Begins tag
tag_begins ending tag name id (IsTag.tag same written space list n b a d s) = name_begins same (written ++ (space ++ ending)) b

pub form_given : (bytes : List ℕ) (line : ℕ) → IsUtf8 bytes → HasForm (without_mark bytes) line → elements_of bytes ≡ Err (fault kinds.Form line)
form_given bytes line u h =
    let b = tag_begins h.ending h.tag h.name h.id h.is_tag in
    let e = tag_ends h.ending h.tag h.name h.id h.is_ending h.is_tag in
    let text = without_mark-IsUtf8 bytes u in
    let begins : without_mark bytes ≡ h.front ++ 60 ∷ (b.byte ∷ b.more ++ h.after) = h.whole ∙ ap (λ (xs : List ℕ). h.front ++ (xs ++ h.after)) b.split in
    let front = cut_front h.front (b.byte ∷ b.more ++ h.after) 60 (omega arith) (subst IsUtf8 begins text) in
    let l = led h.front front h.is_front in
    let pieces : (h.front ++ e.before) ++ 62 ∷ [] ≡ h.front ++ h.tag = append_assoc h.front e.before (62 ∷ []) ∙ ap (λ (xs : List ℕ). h.front ++ xs) (sym e.split) in
    given bytes (h.front ++ e.before) h.after 62 (fault kinds.Form line) u (omega arith)
    (h.whole ∙ sym (append_assoc h.front h.tag h.after) ∙ ap (λ (xs : List ℕ). xs ++ h.after) (sym pieces))
    (subst IsClean (sym pieces) (clean_append h.front h.tag h.is_front.0 h.clean))
    (ap (run nothing_read) (pieces ∙ ap (λ (xs : List ℕ). h.front ++ xs) b.split) ∙ l.runs b.byte b.more b.other
    ∙ ap (run (at modes.Content (line_behind 1 h.front) l.top [] l.like)) (sym b.split)
    ∙ form_at h.ending h.tag h.name h.id h.is_ending h.is_tag h.other (line_behind 1 h.front) l.top l.like l.none
    ∙ ap (λ n. Err (fault kinds.Form n)) (sym h.is_line))
