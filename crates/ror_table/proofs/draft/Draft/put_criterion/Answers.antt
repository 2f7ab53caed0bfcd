use Rattle.std.proofs.Common.{◌≡◌, ◌++◌, ◌∷◌, [], ℕ, List, map, false, refl, ap, sym, subst, ◌∙◌}
use Rattle.std.specs.String.{string_bytes}
use Rattle.ror_table.specs.Table.{Criterion, DecisionTable, criterion_ids}
use Rattle.ror_table.specs.Draft.{IsDraft, has_id, add_criterion}
use Rattle.ror_table.specs.Contents.{criterion_of, alternative_of}
use Rattle.ror_table.proofs.DraftLemmas.{entries_insert, criterion_added, table, IsDraft-add_criterion}
use Rattle.ror_table.proofs.draft.Draft.put_criterion.Goals as goal

made : (c : goal.In_ok-insert) → table (map criterion_of c.insert.new.self.entries) (map alternative_of c.self.inside.alternatives.entries) c.self.inside.classes ≡ add_criterion c.args.self.now c.args.id.now c.args.scale
made c =
    let t : DecisionTable = c.args.self.now in
    let key : string_bytes c.in_ok-key.key ≡ c.args.id.now = c.in_ok-key.ensures.ok in
    let absent : has_id (criterion_ids t) (string_bytes c.in_ok-key.key) ≡ false = rw key c.requires.absent in
    let added = entries_insert criterion_of (λ (x : Criterion). x.id) (λ e. refl) c.self.inside.criteria c.insert.new.self c.in_ok-key.key c.args.scale t.criteria (ap (λ (x : DecisionTable). x.criteria) c.self.view_is) absent c.in_ok-insert.ensures.entries in
    let named = added ∙ ap (λ (id : List ℕ). t.criteria ++ record { id = id; direction = c.args.scale.direction; linear = c.args.scale.linear } ∷ []) key in
    criterion_added t (map criterion_of c.self.inside.criteria.entries) (map criterion_of c.insert.new.self.entries) (map alternative_of c.self.inside.alternatives.entries) c.self.inside.classes c.args.id.now c.args.scale c.self.view_is named

pub invariant_of-self-2 : goal.invariant_of-self-2
invariant_of-self-2 c =
    let t : DecisionTable = c.args.self.now in
    let draft : IsDraft t = subst IsDraft c.self.view_is c.self.invariant in
    subst IsDraft (sym (made c)) (IsDraft-add_criterion t c.args.id.now c.args.scale draft c.requires.first c.requires.valid c.requires.absent c.requires.room)

pub returns-clause-added : goal.returns-clause-added
returns-clause-added c = made c
