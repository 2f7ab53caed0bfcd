use Rattle.std.proofs.Common.{◌≡◌, ◌<◌, ◌≤◌, ◌∙◌, ℕ, ap, sym, arith, get_or, nat_lt, Bool, true, false, List, subst, rules, FitsSigned}
use Rattle.std.specs.Int.{w128}
use Rattle.std.proofs.lemmas.Bool.{ltb-true, ltb-false}
use Rattle.std.proofs.lemmas.Int.{to_z-of_z}
use Rattle.std.proofs.lemmas.List.Sorted.{IsPartitionPoint-from_clause}
use Rattle.std.proofs.lemmas.List.{get_or_default}
use Rattle.std.specs.List.Sorted.{IsPartitionedBy, IsPartitionPoint}
use Rattle.ror_integers.specs.Vectors.{entry}
use Rattle.ror_system.proofs.NumberLemmas.{others, values_of, value_is, as_many_values, zero_between, rises}
use Rattle.ror_system.proofs.numbers.Numbers.entry.Goals as goal

by_cases : (x k : ℕ) → k ≤ x → (x ≡ k → ⊥) → k < x
by_cases x k l n = grind arith

pub returns-then-index-len : goal.returns-then-index-len
returns-then-index-len c =
    let ps = c.self.inside.places.items in
    let h = others _ ps c.self.inside.values _ c.self.invariant c.self.view_is in
    let p : ℕ → Bool = λ place. nat_lt place c.args.k in
    let parted = subst (IsPartitionedBy p) (sym c.deref.ensures.value) (rises 0 c.self.inside.len ps c.self.inside.values c.args.k c.self.invariant) in
    let point = subst (λ (xs : List ℕ). IsPartitionPoint (λ y. p y ≡ true) (λ y. p y ≡ false) xs c.partition_point-index.result) c.deref.ensures.value (IsPartitionPoint-from_clause p _ _ c.partition_point-index.ensures.partitioned parted (λ a r q k. search rules)) in
    sym (zero_between c.args.self.now 0 ps c.args.k c.partition_point-index.result h (omega arith) (λ j l. ltb-true _ _ (point.0 j 0 (omega arith) l)) (omega arith) (λ l. absurd (omega arith)))

pub returns-then-index-k : goal.returns-then-index-k
returns-then-index-k c =
    let ps = c.self.inside.places.items in
    let h = others _ ps c.self.inside.values _ c.self.invariant c.self.view_is in
    let p : ℕ → Bool = λ place. nat_lt place c.args.k in
    let parted = subst (IsPartitionedBy p) (sym c.deref.ensures.value) (rises 0 c.self.inside.len ps c.self.inside.values c.args.k c.self.invariant) in
    let point = subst (λ (xs : List ℕ). IsPartitionPoint (λ y. p y ≡ true) (λ y. p y ≡ false) xs c.partition_point-index.result) c.deref.ensures.value (IsPartitionPoint-from_clause p _ _ c.partition_point-index.ensures.partitioned parted (λ a r q k. search rules)) in
    sym (zero_between c.args.self.now 0 ps c.args.k c.partition_point-index.result h (omega arith) (λ j l. ltb-true _ _ (point.0 j 0 (omega arith) l)) (omega arith) (λ l.
    let not_less : nat_lt (get_or ps c.partition_point-index.result 0) c.args.k ≡ false = point.1 c.partition_point-index.result 0 (omega arith) l in
    let behind = ltb-false _ _ not_less in
    let there : get_or ps c.partition_point-index.result 0 ≡ c.index.result.now = get_or_default ps c.partition_point-index.result 0 _ l ∙ sym c.index.ensures in
    by_cases (get_or ps c.partition_point-index.result 0) c.args.k behind (λ e. c.if-index-k.true (sym there ∙ e))))

pub entry-requires : goal.entry-requires
entry-requires c =
    let n = as_many_values 0 c.self.inside.len c.self.inside.places.items c.self.inside.values c.self.invariant in
    omega arith

pub returns : goal.returns
returns c =
    let ps = c.self.inside.places.items in
    let i = c.partition_point-index.result in
    let vs = values_of _ ps c.self.inside.values _ c.self.invariant c.self.view_is in
    let f : FitsSigned w128 c.entry.result = search rules in
    let at : get_or ps i 0 ≡ c.args.k = get_or_default ps i 0 _ (omega arith) ∙ sym c.index.ensures ∙ c.if-index-k.false in
    to_z-of_z w128 _ f ∙ c.entry.ensures ∙ value_is c.args.self.now c.self.inside.values ps i vs (omega arith) ∙ ap (λ (k : ℕ). entry c.args.self.now k) at
