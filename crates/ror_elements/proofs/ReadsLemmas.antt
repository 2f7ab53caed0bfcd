-- Each document of the grammar is read.
use Rattle.std.proofs.Common.{◌≡◌, ℕ, List, [], ◌∷◌, ◌++◌, append_assoc, Option, Some, Ok, refl, sym, ap, ◌∙◌, append-nil, subst}
use Rattle.ror_text.specs.Reading.{◌>>=◌}
use Rattle.ror_elements.specs.declared.mode.Mode.TheVariants as modes
use Rattle.ror_elements.specs.declared.reader.Reader.{Reader}
use Rattle.ror_elements.specs.Elements.{finish, elements_of, without_mark}
use Rattle.ror_elements.specs.Grammar.{IsName, BeginsTag, IsTag, IsElement, IsDocument, Place, line_behind, DeclaresUtf8, IsAround}
use Rattle.ror_elements.specs.Reader.{nothing_read, whole_text}
use Rattle.ror_elements.specs.Tree.{Tree}
use Rattle.ror_elements.proofs.ContentRuns.{element-goes, around-goes}
use Rattle.ror_elements.proofs.Grown.{grown}
use Rattle.ror_elements.proofs.PlainReader.{run, from_plain}
use Rattle.ror_elements.proofs.Runs.{line_at, line_at-is, at}
use Rattle.ror_elements.proofs.StartRuns as start

-- an element begins with a tag
named_first : (name rest : List ℕ) → IsName name → BeginsTag name → start.BeginsTag (60 ∷ name ++ rest)
named_first [] rest n b = absurd (n.1 refl)
named_first (byte ∷ name) rest n b = record { byte = byte; more = name ++ rest; split = refl; other = b.1 }

tag_first : (ending bytes name rest : List ℕ) (id : Option (List ℕ)) → IsTag ending bytes name id → start.BeginsTag (bytes ++ rest)
tag_first ending bytes name rest id (IsTag.tag same written space list n b a d s) =
    let h = named_first same ((written ++ (space ++ ending)) ++ rest) n b in
    record { byte = h.byte; more = h.more; split = ap (λ (xs : List ℕ). 60 ∷ xs) (append_assoc same (written ++ (space ++ ending)) rest) ∙ h.split; other = h.other }

pub element_first : (depth : ℕ) (place : Place) (line : ℕ) (bytes rest : List ℕ) (kept : List Tree) → IsElement depth place line bytes kept → start.BeginsTag (bytes ++ rest)
element_first depth place line bytes rest kept (IsElement.empty d p l same name id few t) = tag_first (47 ∷ 62 ∷ []) bytes name rest id t
element_first depth place line bytes rest kept (IsElement.whole d p l begin content end name text id inside few t within e) =
    let h = tag_first (62 ∷ []) begin name ((content ++ end) ++ rest) id t in
    record { byte = h.byte; more = h.more; split = append_assoc begin (content ++ end) rest ∙ h.split; other = h.other }

finished-root : (line : ℕ) (root : Tree) (j : Reader) → finish (at modes.Content line (grown whole_text [] (root ∷ [])) [] j) ≡ Ok root
unfolding finish
finished-root line root j = refl

pub behind_root : (after : List ℕ) (line : ℕ) (root : Tree) (j : Reader) → IsAround after → (run (at modes.Content line (grown whole_text [] (root ∷ [])) [] j) after >>= finish) ≡ Ok root
unfolding run
behind_root after line root j h =
    let g = around-goes after h line (grown whole_text [] (root ∷ [])) j in
    ap (λ (xs : List ℕ). run (at modes.Content line (grown whole_text [] (root ∷ [])) [] j) xs >>= finish) (sym (append-nil after))
    ∙ ap (λ reading. reading >>= finish) (g.1 [])
    ∙ finished-root (line_at line after) root g.0

pub reads_document : (bytes : List ℕ) (root : Tree) → IsDocument bytes root → elements_of bytes ≡ Ok root
reads_document bytes root d =
    let text = without_mark bytes in
    let line = line_at 1 d.before in
    let first = start.before-run d.before (d.element ++ d.after) d.is_before (element_first 0 (Some []) (line_behind 1 d.before) d.element d.after (root ∷ []) d.is_root) (subst (λ (t : List ℕ). DeclaresUtf8 t) d.whole d.declared) in
    let element = element-goes 0 (Some []) (line_behind 1 d.before) d.element (root ∷ []) d.is_root whole_text [] first.0 refl refl (root, refl, refl, d.is_named) in
    from_plain bytes root d.utf8 d.clean
    (ap (λ (t : List ℕ). run nothing_read t >>= finish) d.whole
    ∙ ap (λ reading. reading >>= finish) (first.1 ∙ ap (λ l. run (at modes.Content l whole_text [] first.0) (d.element ++ d.after)) (line_at-is 1 d.before) ∙ element.1 d.after)
    ∙ behind_root d.after (line_at (line_behind 1 d.before) d.element) root element.0 d.is_after)
