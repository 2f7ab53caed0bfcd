-- That fewer statements say no more.
use Rattle.std.proofs.Common.{inl, inr, List, [], ◌∷◌, sym, subst}
use Rattle.std.specs.Prelude.{option_to_list}
use Rattle.std.specs.List.{AllByRecursion, flat_map}
use Rattle.ror_text.proofs.Everywhere.{all-append, all-front, all-back}
use Rattle.ror_statement.specs.declared.comparison.Comparison.{Comparison}
use Rattle.ror_statement.specs.declared.statement.Statement.{Statement}
use Rattle.ror_statement.specs.Statements.{comparison_of, outranking, class_comparisons, comparisons_of}
use Rattle.ror_statement.proofs.Sublists.{IsSublist}
use Rattle.ror_table.specs.Table.{DecisionTable}
use Rattle.ror_value.specs.Meaning.{Holds, IsConsistent, IsContradictory}

-- what holds of the pieces of a list holds of those of fewer elements, where they are no more
pieces-sublist : {X Y : Type 0} (P : Y → Type 0) (few many : X → List Y) → ((x : X) → AllByRecursion P (many x) → AllByRecursion P (few x)) → (xs ys : List X) → IsSublist xs ys → AllByRecursion P (flat_map many ys) → AllByRecursion P (flat_map few xs)
pieces-sublist P few many less [] ys h all = tt
pieces-sublist P few many less (x ∷ xs) [] h all = absurd h
pieces-sublist P few many less (x ∷ xs) (y ∷ ys) (inl h) all =
    all-append P (few x) (flat_map few xs)
    (less x (subst (λ z. AllByRecursion P (many z)) (sym h.0) (all-front P (many y) (flat_map many ys) all)))
    (pieces-sublist P few many less xs ys h.1 (all-back P (many y) (flat_map many ys) all))
pieces-sublist P few many less (x ∷ xs) (y ∷ ys) (inr h) all = pieces-sublist P few many less (x ∷ xs) ys h (all-back P (many y) (flat_map many ys) all)

-- what holds of all that a list says holds of what fewer statements say
said-sublist : (P : Comparison → Type 0) (xs ys : List Statement) → IsSublist xs ys → AllByRecursion P (comparisons_of ys) → AllByRecursion P (comparisons_of xs)
said-sublist P xs ys h all =
    let own = all-front P (flat_map (λ s. option_to_list (comparison_of s)) ys) (class_comparisons ys) all in
    let pairs = all-back P (flat_map (λ s. option_to_list (comparison_of s)) ys) (class_comparisons ys) all in
    all-append P (flat_map (λ s. option_to_list (comparison_of s)) xs) (class_comparisons xs)
    (pieces-sublist P (λ s. option_to_list (comparison_of s)) (λ s. option_to_list (comparison_of s)) (λ s said. said) xs ys h own)
    (pieces-sublist P (λ r. flat_map (outranking r) xs) (λ r. flat_map (outranking r) ys) (λ r said. pieces-sublist P (outranking r) (outranking r) (λ s one. one) xs ys h said) xs ys h pairs)

pub consistent-sublist : (t : DecisionTable) (xs ys : List Statement) → IsSublist xs ys → IsConsistent t ys → IsConsistent t xs
consistent-sublist t xs ys h c = (c.0, record { function = c.1.function; meets = said-sublist (Holds t c.0) xs ys h c.1.meets })

pub contradictory-sublist : (t : DecisionTable) (xs ys : List Statement) → IsSublist xs ys → IsContradictory t xs → IsContradictory t ys
contradictory-sublist t xs ys h none w compatible = none w (record { function = compatible.function; meets = said-sublist (Holds t w) xs ys h compatible.meets })
