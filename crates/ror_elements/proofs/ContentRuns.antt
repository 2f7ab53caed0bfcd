-- Reading content, elements and what stands around the root.
use Rattle.std.proofs.Common.{◌≡◌, ℕ, ◌+◌, ◌<◌, true, false, List, [], ◌∷◌, ◌++◌, append_assoc, length, Some, None, Ok, refl, sym, ap, ◌∙◌, arith}
use Rattle.std.specs.Prelude.{◌==◌, option_map}
use Rattle.std.specs.Char.{encode_utf8}
use Rattle.std.proofs.lemmas.Bool.{ne_eqb}
use Rattle.std.proofs.lemmas.Slice.Eq.{bytes_eq-Decides}
use Rattle.ror_elements.specs.declared.mode.Mode.TheVariants as modes
use Rattle.ror_elements.specs.declared.open.Open.{Open}
use Rattle.ror_elements.specs.declared.reader.Reader.{Reader}
use Rattle.ror_elements.specs.Elements.{line_after}
use Rattle.ror_elements.specs.Grammar.{Place, place_in, kept_at, IsContent, IsPart, IsElement, line_behind, IsAround}
use Rattle.ror_elements.specs.Marks.{is_white, local_name, trimmed}
use Rattle.ror_elements.specs.Reader.{in_content, outside}
use Rattle.ror_elements.specs.Tags.{root_name}
use Rattle.ror_elements.specs.Tree.{Tree, node, none, trees_of, name_of}
use Rattle.ror_elements.proofs.Grown.{grown, place_of, grown_place, grown_name, grown_twice, grown_text, grown_nothing, opened_place, closed_in, closed_empty}
use Rattle.ror_elements.proofs.PlainReader.{plain, run}
use Rattle.ror_elements.proofs.Runs.{line_at, line_at-append, line_at-is, at, run_step, Goes, apart, with_text, passed_over-goes, section-goes}
use Rattle.ror_elements.proofs.TagRuns.{reference-goes, text_added}
use Rattle.ror_elements.proofs.ElementRuns.{MayOpen, opened_as, start_tag-goes, empty_tag-goes, end_tag-goes, tag_name}

-- ---- the root

-- the element with no other around it is the first, and it is kept by its name
abbrev pub AsRoot : Open → List Open → List Tree → Type 0
AsRoot top [] kept = (root : Tree) × (top.children ≡ []) × (kept ≡ root ∷ []) × (name_of root ≡ root_name)
AsRoot top (around ∷ outer) kept = Unit {0}

root_named : (place : Place) (t root : Tree) → kept_at place t ≡ root ∷ [] → name_of t ≡ name_of root
root_named None t root e = absurd cc
root_named (Some path) t root e = let same : t ≡ root = cc in ap name_of same

may_open : (top : Open) (below : List Open) (place : Place) (name : List ℕ) (t : Tree) → length below < 64 → name_of t ≡ local_name name → AsRoot top below (kept_at place t) → MayOpen top below name
may_open top (around ∷ outer) place name t few e root = record { few = few; first = refl; form = refl }
may_open top [] place name t few e root = record {
  few = few;
  first = rw root.1 refl;
  form = rw ((bytes_eq-Decides (local_name name) root_name).1 (sym e ∙ root_named place t root.0 root.2 ∙ root.3)) refl;
}

-- ---- content

text_step : (byte line : ℕ) (top around : Open) (outer : List Open) (j : Reader) → ¬ (byte ≡ 60) → ¬ (byte ≡ 38)
    → plain (at modes.Content line top (around ∷ outer) j) byte ≡ Ok (at modes.Content (line_after line byte) (with_text top (byte ∷ [])) (around ∷ outer) j)
unfolding plain in_content
text_step byte line top around outer j a b =
    rw (ne_eqb byte 60 a, ne_eqb byte 38 b) (ap (λ (r : Reader). Ok (record r { line = line_after line byte })) (text_added (at modes.Content line top (around ∷ outer) j) (byte ∷ [])))

-- a construct that gives only text, or nothing
goes_text : (bytes text : List ℕ) (line : ℕ) (top around : Open) (outer : List Open) (j : Reader)
    → Goes (at modes.Content line top (around ∷ outer) j) bytes (at modes.Content (line_at line bytes) (with_text top text) (around ∷ outer))
    → Goes (at modes.Content line top (around ∷ outer) j) bytes (at modes.Content (line_at line bytes) (grown top text []) (around ∷ outer))
goes_text bytes text line top around outer j g = (g.0, λ rest. g.1 rest ∙ ap (λ (t : Open). run (at modes.Content (line_at line bytes) t (around ∷ outer) g.0) rest) (grown_text top text))

mutual
  pub content-goes : (depth : ℕ) (place : Place) (line : ℕ) (bytes text : List ℕ) (inside : List Tree) → IsContent depth place line bytes text inside → (top around : Open) (outer : List Open) (j : Reader) → place_of top ≡ place → length (around ∷ outer) ≡ depth
      → Goes (at modes.Content line top (around ∷ outer) j) bytes (at modes.Content (line_at line bytes) (grown top text inside) (around ∷ outer))
  content-goes depth place line bytes text inside (IsContent.nothing d p l) top around outer j e n = (j, λ rest. ap (λ (t : Open). run (at modes.Content line t (around ∷ outer) j) rest) (grown_nothing top))
  content-goes depth place line bytes text inside (IsContent.more d p l first rest some more trees others part content) top around outer j e n =
      let now = part-goes depth place line first some trees part top around outer j e n in
      let later = content-goes depth place (line_behind line first) rest more others content (grown top some trees) around outer now.0 (grown_place top some trees ∙ e) n in
      let below = around ∷ outer in (
        later.0,
        λ xs.
            ap (λ (ys : List ℕ). run (at modes.Content line top below j) ys) (append_assoc first rest xs)
            ∙ now.1 (rest ++ xs)
            ∙ ap (λ l. run (at modes.Content l (grown top some trees) below now.0) (rest ++ xs)) (line_at-is line first)
            ∙ later.1 xs
            ∙ ap (λ (t : Open). run (at modes.Content (line_at (line_behind line first) rest) t below later.0) xs) (grown_twice top some more trees others)
            ∙ ap (λ l. run (at modes.Content l (grown top (some ++ more) (trees ++ others)) below later.0) xs) (ap (λ l. line_at l rest) (sym (line_at-is line first)) ∙ sym (line_at-append line first rest)),
      )

  part-goes : (depth : ℕ) (place : Place) (line : ℕ) (bytes text : List ℕ) (inside : List Tree) → IsPart depth place line bytes text inside → (top around : Open) (outer : List Open) (j : Reader) → place_of top ≡ place → length (around ∷ outer) ≡ depth
      → Goes (at modes.Content line top (around ∷ outer) j) bytes (at modes.Content (line_at line bytes) (grown top text inside) (around ∷ outer))
  part-goes depth place line bytes text inside (IsPart.plain d p l byte a b) top around outer j e n =
      goes_text (byte ∷ []) (byte ∷ []) line top around outer j (j, λ rest. run_step (at modes.Content line top (around ∷ outer) j) _ byte rest (text_step byte line top around outer j a b))
  part-goes depth place line bytes text inside (IsPart.character d p l same code r) top around outer j e n = goes_text bytes (encode_utf8 code) line top around outer j (reference-goes bytes code r line top around outer j)
  part-goes depth place line bytes text inside (IsPart.section d p l same within s) top around outer j e n = goes_text bytes within line top around outer j (section-goes bytes within s line top around outer j)
  part-goes depth place line bytes text inside (IsPart.passed_over d p l same h) top around outer j e n =
      let g = passed_over-goes bytes h line top (around ∷ outer) j in
      (g.0, λ rest. g.1 rest ∙ ap (λ (t : Open). run (at modes.Content (line_at line bytes) t (around ∷ outer) g.0) rest) (grown_nothing top))
  part-goes depth place line bytes text inside (IsPart.element d p l same kept h) top around outer j e n = element-goes depth place line bytes kept h top (around ∷ outer) j e n tt

  pub element-goes : (depth : ℕ) (place : Place) (line : ℕ) (bytes : List ℕ) (kept : List Tree) → IsElement depth place line bytes kept → (top : Open) (below : List Open) (j : Reader) → place_of top ≡ place → length below ≡ depth → AsRoot top below kept
      → Goes (at modes.Content line top below j) bytes (at modes.Content (line_at line bytes) (grown top [] kept) below)
  element-goes depth place line bytes kept (IsElement.empty d p l same name id few t) top below j e n root =
      let may = may_open top below (place_in place (local_name name)) name _ (omega (arith, n, few)) refl root in
      let g = empty_tag-goes bytes name id t line top below j may in (
        g.0,
        λ rest.
            g.1 rest
            ∙ ap (λ (t : Open). run (at modes.Content (line_at line bytes) t below g.0) rest) (closed_empty top name id line)
            ∙ ap (λ (q : Place). run (at modes.Content (line_at line bytes) (grown top [] (kept_at (place_in q (local_name name)) (node (local_name name) (option_map trimmed id) [] line none))) below g.0) rest) e,
      )
  element-goes depth place line bytes kept (IsElement.whole d p l start content finish name text id inside few t within e1) top below j e n root =
      let may = may_open top below (place_in place (local_name name)) name _ (omega (arith, n, few)) refl root in
      let l1 = line_at line start in
      let child = opened_as top name id line in
      let g = start_tag-goes start name id t line top below j may in
      let h = content-goes (depth + 1) (place_in place (local_name name)) (line_behind line start) content text inside within child top below g.0 (opened_place top name id line ∙ ap (λ (q : Place). place_in q (local_name name)) e) (omega (arith, n)) in
      let l2 = line_at (line_behind line start) content in
      let k = end_tag-goes finish name e1 (tag_name (62 ∷ []) start name id t) l2 (grown child text inside) top below h.0 (grown_name child text inside) in (
        k.0,
        λ rest.
            ap (λ (ys : List ℕ). run (at modes.Content line top below j) ys) (append_assoc start (content ++ finish) rest ∙ ap (λ (ys : List ℕ). start ++ ys) (append_assoc content finish rest))
            ∙ g.1 (content ++ (finish ++ rest))
            ∙ ap (λ l. run (at modes.Content l child (top ∷ below) g.0) (content ++ (finish ++ rest))) (line_at-is line start)
            ∙ h.1 (finish ++ rest)
            ∙ k.1 rest
            ∙ ap (λ (t : Open). run (at modes.Content (line_at l2 finish) t below k.0) rest) (closed_in top name id line text inside)
            ∙ ap (λ (q : Place). run (at modes.Content (line_at l2 finish) (grown top [] (kept_at (place_in q (local_name name)) (node (local_name name) (option_map trimmed id) (trimmed text) line (trees_of inside)))) below k.0) rest) e
            ∙ ap (λ l. run (at modes.Content l (grown top [] (kept_at (place_in place (local_name name)) (node (local_name name) (option_map trimmed id) (trimmed text) line (trees_of inside)))) below k.0) rest)
            (ap (λ l. line_at (line_at l content) finish) (sym (line_at-is line start)) ∙ sym (line_at-append line start (content ++ finish) ∙ line_at-append l1 content finish)),
      )

-- ---- around the root

white_step : (byte line : ℕ) (top : Open) (j : Reader) → is_white byte ≡ true → (byte == 60) ≡ false → plain (at modes.Content line top [] j) byte ≡ Ok (at modes.Content (line_after line byte) top [] j)
unfolding plain in_content outside
white_step byte line top j white other = rw (white, other) refl

pub around-goes : (bytes : List ℕ) → IsAround bytes → (line : ℕ) (top : Open) (j : Reader) → Goes (at modes.Content line top [] j) bytes (at modes.Content (line_at line bytes) top [])
around-goes bytes IsAround.nothing line top j = (j, λ rest. refl)
around-goes bytes (IsAround.white byte rest white h) line top j =
    let later = around-goes rest h (line_after line byte) top j in
    (later.0, λ xs. run_step (at modes.Content line top [] j) _ byte (rest ++ xs) (white_step byte line top j white (apart is_white byte 60 white refl)) ∙ later.1 xs)
around-goes bytes (IsAround.passed_over first rest p h) line top j =
    let now = passed_over-goes first p line top [] j in
    let later = around-goes rest h (line_at line first) top now.0 in (
      later.0,
      λ xs.
          ap (λ (ys : List ℕ). run (at modes.Content line top [] j) ys) (append_assoc first rest xs)
          ∙ now.1 (rest ++ xs) ∙ later.1 xs
          ∙ ap (λ l. run (at modes.Content l top [] later.0) xs) (sym (line_at-append line first rest)),
    )
