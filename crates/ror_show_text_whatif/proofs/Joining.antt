-- What is added in pieces, of lists that are the same.
use Rattle.std.proofs.Common.{◌≡◌, ℕ, List, [], ◌++◌, ap, ◌∙◌}
use Rattle.std.specs.List.{flat_map}
use Rattle.ror_table.specs.Table.{DecisionTable}
use Rattle.ror_show_find_whatif.specs.declared.classes.ClassShift.{ClassShift}
use Rattle.ror_show_find_whatif.specs.declared.whatif.WhatIf.{WhatIf}
use Rattle.ror_show_text_whatif.specs.declared.ways.Way.{Way}
use Rattle.ror_show_text_whatif.specs.Lists.{some_pairs}
use Rattle.ror_show_text_whatif.specs.TimeLists.{row_of, headed, shift_text}

-- pairs below a heading
pub pairs_more : (t : DecisionTable) (head named : List ℕ) (ps qs : List (ℕ × ℕ)) (old text : List ℕ) → head ≡ named → ps ≡ qs → text ≡ old ++ some_pairs t head ps → text ≡ old ++ some_pairs t named qs
pairs_more t head named ps qs old text same equal added = added ∙ ap (λ (h : List ℕ). old ++ some_pairs t h ps) same ∙ ap (λ (xs : List (ℕ × ℕ)). old ++ some_pairs t named xs) equal

-- rows of alternatives below a heading, where these were made apart
pub headed_more : (t : DecisionTable) (fs : List WhatIf) (k : ℕ) (way : Way) (shift : ClassShift) (none rows given old text : List ℕ) → none ≡ [] → rows ≡ none ++ flat_map (row_of t shift way k) fs → given ≡ rows → text ≡ old ++ headed shift given → text ≡ old ++ shift_text t fs k way shift
headed_more t fs k way shift none rows given old text empty made same added =
    added ∙ ap (λ (bs : List ℕ). old ++ headed shift bs) (same ∙ made ∙ ap (λ (ns : List ℕ). ns ++ flat_map (row_of t shift way k) fs) empty)
