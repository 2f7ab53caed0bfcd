use Rattle.std.proofs.Common.{◌≡◌, ◌<◌, Some, slice_get, length, ap, sym, refl, ◌∙◌, arith}
use Rattle.std.specs.Map.{keys_of}
use Rattle.std.proofs.lemmas.List.{length-map}
use Rattle.ror_table.specs.Table.{Alternative, DecisionTable, alternative_ids}
use Rattle.ror_table.specs.Contents.{alternative_of}
use Rattle.ror_table.proofs.RowLemmas.{key_read}
use Rattle.ror_table.proofs.draft.Draft.alternative_id.Goals as goal

pub returns : goal.returns
returns c =
    let es = c.self.inside.alternatives.entries in
    let k = c.args.a in
    let keys : c.as_slice.result.now ≡ keys_of es = c.as_slice.ensures ∙ c.keys.ensures.rest in
    let same = ap (λ (t : DecisionTable). t.alternatives) c.self.view_is in
    let within : k < length es = omega (arith, length-map es alternative_of, ap length same) in
    let read = rw keys at c.index-as_slice-a.is in
    let id = key_read alternative_of (λ (x : Alternative). x.id) (λ e. refl) es k c.index-as_slice-a.result within read in
    ap (λ (t : DecisionTable). slice_get (alternative_ids t) k) (sym c.self.view_is) ∙ id ∙ ap Some (sym c.as_str.ensures.value)
