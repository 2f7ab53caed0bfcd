-- Constructs in front of what is behind them.
use Rattle.std.proofs.Common.{◌≡◌, ℕ, ◌+◌, ◌<◌, Bool, true, false, List, [], ◌∷◌, ◌++◌, append_assoc, length, Option, Some, refl, sym, ap, subst, ◌∙◌, arith, inl, inr}
use Rattle.std.specs.Prelude.{◌⊎◌}
use Rattle.ror_elements.specs.declared.open.Open.{Open}
use Rattle.ror_elements.specs.Grammar.{IsPassedOver, IsStartTag, IsEmptyTag, IsEndTag, Place, place_in, kept_at, IsContent, IsPart, IsElement, IsAround, line_behind}
use Rattle.ror_elements.specs.Kept.{is_kept}
use Rattle.ror_elements.specs.Marks.{is_white, local_name}
use Rattle.ror_elements.specs.Open.{last_of}
use Rattle.ror_elements.specs.Tags.{root_name}
use Rattle.ror_elements.specs.Tree.{Tree, name_of}
use Rattle.ror_elements.proofs.Behind.{BeforeRoot, BehindRoot, Content}
use Rattle.ror_elements.proofs.ElementRuns.{opened_as}
use Rattle.ror_elements.proofs.Grown.{grown, place_of, grown_place, grown_name, grown_twice, grown_nothing, opened_place, closed_in, closed_empty}
use Rattle.ror_elements.proofs.NameLemmas.{some_same}
use Rattle.ror_elements.proofs.PlainReader.{around_closed}
use Rattle.ror_elements.proofs.Runs.{line_at, line_at-append, line_at-is}

-- ---- in an element

pub prepend_part : (line : ℕ) (top around : Open) (outer : List Open) (first rest text : List ℕ) (trees : List Tree) (root : Tree) → IsPart (length (around ∷ outer)) (place_of top) line first text trees
    → Content (line_at line first) (grown top text trees) (around ∷ outer) rest root → Content line top (around ∷ outer) (first ++ rest) root
prepend_part line top around outer first rest text trees root part h =
    let content = h.0 in
    let end = h.1 in
    let more = h.3 in
    let others = h.4 in
    let depth = length (around ∷ outer) in
    let place = place_of top in
    let inside : IsContent depth place (line_behind line first) content more others =
    subst (λ l. IsContent depth place l content more others) (line_at-is line first)
    (subst (λ (p : Place). IsContent depth p (line_at line first) content more others) (grown_place top text trees) h.6)
    in (
      first ++ content,
      end,
      h.2,
      text ++ more,
      trees ++ others,
      ap (λ (xs : List ℕ). first ++ xs) h.5 ∙ sym (append_assoc first content (end ++ h.2)),
      IsContent.more depth place line first content text more trees others part inside,
      subst (λ (n : List ℕ). IsEndTag end n) (grown_name top text trees) h.7,
      subst (λ (t : Open). Content (line_at (line_at line (first ++ content)) end) (around_closed t around) outer h.2 root) (grown_twice top text more trees others)
          (subst (λ l. Content (line_at l end) (around_closed (grown (grown top text trees) more others) around) outer h.2 root) (sym (line_at-append line first content)) h.8),
    )

-- ---- comments and instructions

around_first : (line : ℕ) (children : List Tree) (first rest : List ℕ) (root : Tree) → ((bytes : List ℕ) → IsAround bytes → IsAround (first ++ bytes))
    → ((children ≡ []) × BeforeRoot (line_at line first) rest root) ⊎ BehindRoot children rest root → ((children ≡ []) × BeforeRoot line (first ++ rest) root) ⊎ BehindRoot children (first ++ rest) root
around_first line children first rest root around (inl h) =
    let b = h.1 in
    inl (
      h.0,
      record {
        before = first ++ b.before;
        element = b.element;
        after = b.after;
        split = ap (λ (xs : List ℕ). first ++ xs) b.split ∙ sym (append_assoc first b.before (b.element ++ b.after));
        is_before = around b.before b.is_before;
        is_root = subst (λ l. IsElement 0 (Some []) l b.element (root ∷ [])) (sym (line_at-append line first b.before)) b.is_root;
        is_named = b.is_named;
        is_after = b.is_after;
      },
    )
around_first line children first rest root around (inr h) = inr (record { some = h.some; last = h.last; is_after = around rest h.is_after })

pub prepend_passed : (line : ℕ) (top : Open) (below : List Open) (first rest : List ℕ) (root : Tree) → IsPassedOver first → Content (line_at line first) top below rest root → Content line top below (first ++ rest) root
prepend_passed line top [] first rest root p h = λ place. around_first line top.children first rest root (λ bytes a. IsAround.passed_over first bytes p a) (h place)
prepend_passed line top (around ∷ outer) first rest root p h =
    prepend_part line top around outer first rest [] [] root (IsPart.passed_over (length (around ∷ outer)) (place_of top) line first p)
    (subst (λ (t : Open). Content (line_at line first) t (around ∷ outer) rest root) (grown_nothing top) h)

pub prepend_white : (line byte : ℕ) (top : Open) (rest : List ℕ) (root : Tree) → is_white byte ≡ true → Content (line_at line (byte ∷ [])) top [] rest root → Content line top [] (byte ∷ rest) root
prepend_white line byte top rest root white h = λ place. around_first line top.children (byte ∷ []) rest root (λ bytes a. IsAround.white byte bytes white a) (h place)

-- ---- elements

-- the element with no other around it is the first, and is named as the root
abbrev pub Here : Open → List Open → List ℕ → Type 0
Here top [] name = (top.children ≡ []) × (local_name name ≡ root_name)
Here top (around ∷ outer) name = Unit {0}

children_if : (kept : Bool) (top : Open) (trees : List Tree) → place_of (record top { kept = kept }) ≡ Some [] → (grown (record top { kept = kept }) [] trees).children ≡ top.children ++ trees
children_if true top trees e = refl
children_if false top trees e = absurd cc

root_kept : (name : List ℕ) (tree : Tree) → local_name name ≡ root_name → kept_at (place_in (Some []) (local_name name)) tree ≡ tree ∷ []
unfolding is_kept
root_kept name tree e = rw e refl

pub prepend_element : (line : ℕ) (top : Open) (below : List Open) (first rest name : List ℕ) (tree root : Tree) → name_of tree ≡ local_name name → Here top below name
    → IsElement (length below) (place_of top) line first (kept_at (place_in (place_of top) (local_name name)) tree)
    → Content (line_at line first) (grown top [] (kept_at (place_in (place_of top) (local_name name)) tree)) below rest root → Content line top below (first ++ rest) root
prepend_element line top (around ∷ outer) first rest name tree root named here e h =
    prepend_part line top around outer first rest [] (kept_at (place_in (place_of top) (local_name name)) tree) root (IsPart.element (length (around ∷ outer)) (place_of top) line first _ e) h
prepend_element line top [] first rest name tree root named here e h = λ place.
    let kept : kept_at (place_in (place_of top) (local_name name)) tree ≡ tree ∷ [] = ap (λ (p : Place). kept_at (place_in p (local_name name)) tree) place ∙ root_kept name tree here.1 in
    let only : (grown top [] (kept_at (place_in (place_of top) (local_name name)) tree)).children ≡ tree ∷ [] =
    children_if top.kept top (kept_at (place_in (place_of top) (local_name name)) tree) place ∙ ap (λ (ts : List Tree). ts ++ kept_at (place_in (place_of top) (local_name name)) tree) here.0 ∙ kept
    in
    let is : IsElement 0 (Some []) line first (tree ∷ []) = subst (λ (p : Place). IsElement 0 p line first (tree ∷ [])) place (subst (λ (ts : List Tree). IsElement 0 (place_of top) line first ts) kept e) in
    tested (h (grown_place top [] (kept_at (place_in (place_of top) (local_name name)) tree) ∙ place)) only is
  where
    tested : {children : List Tree} → ((children ≡ []) × BeforeRoot (line_at line first) rest root) ⊎ BehindRoot children rest root → children ≡ tree ∷ [] → IsElement 0 (Some []) line first (tree ∷ [])
        → ((top.children ≡ []) × BeforeRoot line (first ++ rest) root) ⊎ BehindRoot top.children (first ++ rest) root
    tested (inl b) only is = absurd cc
    tested (inr b) only is =
        let same : tree ≡ root = some_same tree root (sym (ap last_of only) ∙ b.last) in
        inl (
          here.0,
          record {
            before = [];
            element = first;
            after = rest;
            split = refl;
            is_before = IsAround.nothing;
            is_root = subst (λ (t : Tree). IsElement 0 (Some []) line first (t ∷ [])) same is;
            is_named = sym (ap name_of same) ∙ named ∙ here.1;
            is_after = b.is_after;
          },
        )

pub prepend_empty : (line : ℕ) (top : Open) (below : List Open) (bytes rest name : List ℕ) (id : Option (List ℕ)) (root : Tree) → length below < 64 → Here top below name → IsEmptyTag bytes name id
    → Content (line_at line bytes) (around_closed (opened_as top name id line) top) below rest root → Content line top below (bytes ++ rest) root
prepend_empty line top below bytes rest name id root few here is_tag h =
    prepend_element line top below bytes rest name _ root refl here (IsElement.empty (length below) (place_of top) line bytes name id few is_tag)
    (subst (λ (t : Open). Content (line_at line bytes) t below rest root) (closed_empty top name id line) h)

pub prepend_whole : (line : ℕ) (top : Open) (below : List Open) (start rest name : List ℕ) (id : Option (List ℕ)) (root : Tree) → length below < 64 → Here top below name → IsStartTag start name id
    → Content (line_at line start) (opened_as top name id line) (top ∷ below) rest root → Content line top below (start ++ rest) root
prepend_whole line top below start rest name id root few here is_tag h =
    let content = h.0 in
    let end = h.1 in
    let text = h.3 in
    let inside = h.4 in
    let child = opened_as top name id line in
    let place = place_of top in
    let depth : length (top ∷ below) ≡ length below + 1 = omega arith in
    let within : IsContent (length below + 1) (place_in place (local_name name)) (line_behind line start) content text inside =
    subst (λ d. IsContent d (place_in place (local_name name)) (line_behind line start) content text inside) depth
    (subst (λ l. IsContent (length (top ∷ below)) (place_in place (local_name name)) l content text inside) (line_at-is line start)
    (subst (λ (p : Place). IsContent (length (top ∷ below)) p (line_at line start) content text inside) (opened_place top name id line) h.6))
    in
    let e = IsElement.whole (length below) place line start content end name text id inside few is_tag within h.7 in
    let whole : start ++ rest ≡ (start ++ (content ++ end)) ++ h.2 = ap (λ (xs : List ℕ). start ++ xs) (h.5 ∙ sym (append_assoc content end h.2)) ∙ sym (append_assoc start (content ++ end) h.2) in
    let lines : line_at (line_at (line_at line start) content) end ≡ line_at line (start ++ (content ++ end)) = sym (line_at-append line start (content ++ end) ∙ line_at-append (line_at line start) content end) in
    subst (λ (xs : List ℕ). Content line top below xs root) (sym whole)
    (prepend_element line top below (start ++ (content ++ end)) h.2 name _ root refl here e
    (subst (λ (t : Open). Content (line_at line (start ++ (content ++ end))) t below h.2 root) (closed_in top name id line text inside)
    (subst (λ l. Content l (around_closed (grown child text inside) top) below h.2 root) lines h.8)))
