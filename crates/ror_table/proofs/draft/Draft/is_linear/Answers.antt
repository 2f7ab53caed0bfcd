use Rattle.std.proofs.Common.{◌≡◌, ◌<◌, List, length, get_or, false, ap, sym, ◌∙◌, arith}
use Rattle.std.specs.Prelude.{String}
use Rattle.std.specs.Global.{Global}
use Rattle.std.specs.Map.{values_of}
use Rattle.std.proofs.lemmas.List.{get_or_default, length-map}
use Rattle.ror_table.specs.declared.direction.Direction.TheVariants.{Max}
use Rattle.ror_table.specs.declared.direction.Scale.{Scale}
use Rattle.ror_table.specs.Table.{DecisionTable, is_linear}
use Rattle.ror_table.specs.Contents.{criterion_of}
use Rattle.ror_table.proofs.RowLemmas.{scale_read}
use Rattle.ror_table.proofs.draft.Draft.is_linear.Goals as goal

pub returns : goal.returns
returns c =
    let es = c.self.inside.criteria.entries in
    let i = c.args.i in
    let d : Scale = record { direction = Max; linear = false } in
    let values : c.as_slice.result.now ≡ values_of es = c.as_slice.ensures ∙ c.values.ensures.rest in
    let x : Scale = get_or c.as_slice.result.now i d in
    let within : i < length es = omega (arith, length-map es criterion_of, ap length (ap (λ (t : DecisionTable). t.criteria) c.self.view_is)) in
    let read : x ≡ get_or (values_of es) i x = get_or_default c.as_slice.result.now i d x (omega (arith, ap length values, length-map es (λ (e : String Global × Scale). e.1))) ∙ ap (λ (xs : List Scale). get_or xs i x) values in
    sym (scale_read es i x within read).1 ∙ ap (λ (t : DecisionTable). is_linear t i) c.self.view_is
