use Rattle.std.proofs.Common.{◌≡◌, ◌<◌, Some, slice_get, length, ap, sym, refl, ◌∙◌, arith}
use Rattle.std.specs.Map.{keys_of}
use Rattle.std.proofs.lemmas.List.{length-map}
use Rattle.ror_table.specs.Table.{Criterion, DecisionTable, criterion_ids}
use Rattle.ror_table.specs.Contents.{criterion_of}
use Rattle.ror_table.proofs.RowLemmas.{key_read}
use Rattle.ror_table.proofs.draft.Draft.criterion_id.Goals as goal

pub returns : goal.returns
returns c =
    let es = c.self.inside.criteria.entries in
    let k = c.args.i in
    let keys : c.as_slice.result.now ≡ keys_of es = c.as_slice.ensures ∙ c.keys.ensures.rest in
    let same = ap (λ (t : DecisionTable). t.criteria) c.self.view_is in
    let within : k < length es = omega (arith, length-map es criterion_of, ap length same) in
    let read = rw keys at c.index-as_slice-i.is in
    let id = key_read criterion_of (λ (x : Criterion). x.id) (λ e. refl) es k c.index-as_slice-i.result within read in
    ap (λ (t : DecisionTable). slice_get (criterion_ids t) k) (sym c.self.view_is) ∙ id ∙ ap Some (sym c.as_str.ensures.value)
