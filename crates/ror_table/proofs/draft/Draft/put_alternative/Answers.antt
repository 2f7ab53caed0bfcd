use Rattle.std.proofs.Common.{◌≡◌, ◌++◌, ◌∷◌, [], ℕ, List, map, false, refl, ap, sym, subst, ◌∙◌}
use Rattle.std.specs.String.{string_bytes}
use Rattle.ror_table.specs.declared.amount.Amount.{Amount}
use Rattle.ror_table.specs.Table.{Alternative, DecisionTable, alternative_ids}
use Rattle.ror_table.specs.Draft.{IsDraft, has_id, add_alternative}
use Rattle.ror_table.specs.Contents.{criterion_of, alternative_of}
use Rattle.ror_table.proofs.DraftLemmas.{entries_insert, alternative_added, table, IsDraft-add_alternative}
use Rattle.ror_table.proofs.draft.Draft.put_alternative.Goals as goal

made : (c : goal.Joined-branch-4) → table (map criterion_of c.self.inside.criteria.entries) (map alternative_of c.insert.new.self.entries) c.self.inside.classes ≡ add_alternative c.args.self.now c.args.id.now c.args.performances.now
made c =
    let t : DecisionTable = c.args.self.now in
    let key : string_bytes c.in_ok-key.key ≡ c.args.id.now = c.in_ok-key.ensures.ok in
    let row : c.in_ok-row.row.items ≡ c.args.performances.now = c.in_ok-row.ensures.items in
    let absent : has_id (alternative_ids t) (string_bytes c.in_ok-key.key) ≡ false = rw key c.requires.absent in
    let added = entries_insert alternative_of (λ (x : Alternative). x.id) (λ e. refl) c.self.inside.alternatives c.insert.new.self c.in_ok-key.key c.in_ok-row.row t.alternatives (ap (λ (x : DecisionTable). x.alternatives) c.self.view_is) absent c.in_ok-insert.ensures.entries in
    let named = added ∙ ap (λ (id : List ℕ). t.alternatives ++ record { id = id; performances = c.in_ok-row.row.items } ∷ []) key ∙ ap (λ (ps : List Amount). t.alternatives ++ record { id = c.args.id.now; performances = ps } ∷ []) row in
    alternative_added t (map criterion_of c.self.inside.criteria.entries) (map alternative_of c.self.inside.alternatives.entries) (map alternative_of c.insert.new.self.entries) c.self.inside.classes c.args.id.now c.args.performances.now c.self.view_is named

pub invariant_of-self-2 : goal.invariant_of-self-2
invariant_of-self-2 c =
    let t : DecisionTable = c.args.self.now in
    let draft : IsDraft t = subst IsDraft c.self.view_is c.self.invariant in
    subst IsDraft (sym (made c)) (IsDraft-add_alternative t c.args.id.now c.args.performances.now draft c.requires.valid c.requires.absent c.requires.room c.requires.width c.requires.amounts)

pub returns-clause-added : goal.returns-clause-added
returns-clause-added c = made c
