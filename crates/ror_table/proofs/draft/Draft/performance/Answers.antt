use Rattle.std.proofs.Common.{◌<◌, ◌∙◌, map, ap, sym, length, arith}
use Rattle.ror_table.specs.Table.{DecisionTable, performance_at}
use Rattle.ror_table.specs.Contents.{criterion_of}
use Rattle.ror_table.proofs.RowLemmas.{performance_read, row_within, length-rows}
use Rattle.ror_table.proofs.draft.Draft.performance.Goals as goal

pub index-requires : goal.index-requires
index-requires c =
    let es = c.self.inside.alternatives.entries in
    let cs = map criterion_of c.self.inside.criteria.entries in
    let from = c.as_slice.ensures ∙ c.values.ensures.rest in
    let within : c.args.a < length c.as_slice.result.now = omega (arith, length-rows cs es c.self.inside.classes c.args.self.now c.as_slice.result.now c.self.view_is from) in
    let w = row_within cs es c.self.inside.classes c.args.self.now c.as_slice.result.now c.index-as_slice-a.result c.args.a c.args.i c.self.invariant c.self.view_is from c.index-as_slice-a.is within c.requires.criterion in
    omega (arith, w.1, c.index-as_slice-a.result.ok.0)

pub returns : goal.returns
returns c =
    let es = c.self.inside.alternatives.entries in
    let cs = map criterion_of c.self.inside.criteria.entries in
    let from = c.as_slice.ensures ∙ c.values.ensures.rest in
    let within : c.args.a < length c.as_slice.result.now = omega (arith, length-rows cs es c.self.inside.classes c.args.self.now c.as_slice.result.now c.self.view_is from) in
    let w = row_within cs es c.self.inside.classes c.args.self.now c.as_slice.result.now c.index-as_slice-a.result c.args.a c.args.i c.self.invariant c.self.view_is from c.index-as_slice-a.is within c.requires.criterion in
    let here = performance_read es c.args.a c.args.i c.index-as_slice-a.result c.index.result.now w.0 w.2 w.1 c.index.ensures in
    sym here ∙ ap (λ (t : DecisionTable). performance_at t c.args.a c.args.i) c.self.view_is
