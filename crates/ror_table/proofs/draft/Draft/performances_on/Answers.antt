use Rattle.std.proofs.Common.{◌≡◌, ◌++◌, ◌∷◌, [], pos, get_or, map, take, ap, ◌∙◌, arith}
use Rattle.std.specs.Global.{Vec}
use Rattle.std.specs.Map.{values_of}
use Rattle.std.proofs.lemmas.List.{take_all}
use Rattle.ror_table.specs.declared.amount.Amount.{Amount}
use Rattle.ror_table.specs.Amounts.{whole}
use Rattle.ror_table.specs.Table.{DecisionTable, performances_on}
use Rattle.ror_table.specs.Contents.{criterion_of}
use Rattle.ror_table.proofs.RowLemmas.{row_within, amount_read, AreRead-none, AreRead-more, performances_of_rows}
use Rattle.ror_table.proofs.draft.Draft.performances_on.Goals as goal

pub index-requires : goal.index-requires
index-requires c =
    let es = c.self.inside.alternatives.entries in
    let cs = map criterion_of c.self.inside.criteria.entries in
    let w = row_within cs es c.self.inside.classes c.args.self.now c.as_slice-rows.result.now c.row-item.result c.loop-row.row-index c.args.i c.self.invariant c.self.view_is (c.as_slice-rows.ensures ∙ c.values.ensures.rest) c.row-item.is c.loop-row-test.true c.requires in
    omega (arith, w.1, c.row-item.result.ok.0)

pub returns-clause-exact : goal.returns-clause-exact
returns-clause-exact c =
    let es = c.self.inside.alternatives.entries in
    let i = c.args.i in
    let rows : c.as_slice-rows.result.now ≡ values_of es = c.as_slice-rows.ensures ∙ c.values.ensures.rest in
    let all : take c.loop-row.row-index c.as_slice-rows.result.now ≡ c.as_slice-rows.result.now = take_all _ _ c.loop-row-test.false in
    c.loop-row.invariant.exact ∙ ap (map (λ (row : Vec Amount). get_or row.items i (whole (pos 0)))) (all ∙ rows) ∙ performances_of_rows es i ∙ ap (λ (t : DecisionTable). performances_on t i) c.self.view_is

pub returns-clause-amounts : goal.returns-clause-amounts
returns-clause-amounts c = c.loop-row.invariant.amounts

pub loop-row-init : goal.loop-row-init
loop-row-init c = rw c.new-performances.ensures.items (AreRead-none c.as_slice-rows.result.now c.args.i)

pub loop-row-preserved : goal.loop-row-preserved
loop-row-preserved c =
    let es = c.self.inside.alternatives.entries in
    let cs = map criterion_of c.self.inside.criteria.entries in
    let w = row_within cs es c.self.inside.classes c.args.self.now c.as_slice-rows.result.now c.row-item.result c.loop-row.row-index c.args.i c.self.invariant c.self.view_is (c.as_slice-rows.ensures ∙ c.values.ensures.rest) c.row-item.is c.loop-row-test.true c.requires in
    let x : Amount = c.index.result.now in
    let pushed : c.push.new.self.items ≡ c.loop-row.performances.items ++ x ∷ [] = c.in_ok-push.ensures.items in
    let amount = amount_read es _ c.loop-row.row-index c.args.i c.row-item.result x c.self.invariant.evaluated w.0 w.2 w.1 c.index.ensures in
    AreRead-more c.as_slice-rows.result.now c.loop-row.row-index c.args.i c.row-item.result x c.loop-row.performances.items c.push.new.self.items c.loop-row-test.true c.row-item.is w.1 c.index.ensures amount c.loop-row.invariant pushed
