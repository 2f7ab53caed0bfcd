use Rattle.std.proofs.Common.{rules, List, map, ap, sym, subst, ◌∙◌}
use Rattle.std.specs.List.{AllByRecursion}
use Rattle.ror_pivot.specs.Answers.{most_of}
use Rattle.ror_statement.specs.declared.question.Conclusion.TheVariants as conclusions
use Rattle.ror_proof.specs.declared.answer.Certificate.TheVariants as certificates
use Rattle.ror_value.specs.Over.{IsNamedIn}
use Rattle.ror_rows.specs.declared.extra.Extra.{Extra}
use Rattle.ror_rows.specs.Rows.{extended_by, comparison_of_extra, extras_of}
use Rattle.ror_relation.specs.declared.decision.Decision.TheVariants as decisions
use Rattle.ror_relation.proofs.Searching.{system_here, decided_as, usable_here, part_here, wide_here, refuted_more}
use Rattle.ror_relation.proofs.search.first_solvable.Goals as goal

pub with_extras-requires-clause-few : goal.with_extras-requires-clause-few
with_extras-requires-clause-few c =
    let usable = usable_here c.args.table.now c.args.systems.now c.loop-place.place c.index-systems-place.result c.requires.usable (search rules) (search rules) in
    let few = usable.0 in
    search rules

pub with_extras-requires-clause-named : goal.with_extras-requires-clause-named
with_extras-requires-clause-named c =
    let usable = usable_here c.args.table.now c.args.systems.now c.loop-place.place c.index-systems-place.result c.requires.usable (search rules) (search rules) in
    subst (λ (rows : List Extra). AllByRecursion (λ e. IsNamedIn c.args.table.now e.form) rows) (sym c.as_slice.ensures) usable.1

pub returns-in-Solvable-clause-found : goal.returns-in-Solvable-clause-found
returns-in-Solvable-clause-found c =
    let t = c.args.table.now in
    let base = c.args.base.now in
    let extra = c.index-systems-place.result in
    let most = most_of c.args.bits in
    let is = c.in_ok-system.ensures ∙ ap (λ (rows : List Extra). extended_by t base (map comparison_of_extra rows)) c.as_slice.ensures in
    let shows = decided_as most c.in_ok-system.system (extended_by t base (extras_of extra)) c.in_ok-solution.field-0 (decisions.Solvable c.in-Solvable.solution) is c.in-Solvable.is c.in_ok-solution.ensures.decided in
    part_here most conclusions.Yes (map (extended_by t base) (map extras_of c.args.systems.now)) c.loop-place.place (extended_by t base (extras_of extra)) (certificates.Solution c.in-Solvable.solution) (system_here t base c.args.systems.now c.loop-place.place extra (search rules) (search rules)) shows

pub returns-in-TooWide-clause-found : goal.returns-in-TooWide-clause-found
returns-in-TooWide-clause-found c =
    let t = c.args.table.now in
    let base = c.args.base.now in
    let extra = c.index-systems-place.result in
    let most = most_of c.args.bits in
    let is = c.in_ok-system.ensures ∙ ap (λ (rows : List Extra). extended_by t base (map comparison_of_extra rows)) c.as_slice.ensures in
    let noted = decided_as most c.in_ok-system.system (extended_by t base (extras_of extra)) c.in_ok-solution.field-0 (decisions.TooWide c.in-TooWide.note) is c.in-TooWide.is c.in_ok-solution.ensures.decided in
    wide_here most (map (extended_by t base) (map extras_of c.args.systems.now)) c.loop-place.place (extended_by t base (extras_of extra)) c.in-TooWide.note (system_here t base c.args.systems.now c.loop-place.place extra (search rules) (search rules)) noted c.loop-place.invariant.0.none_solvable

pub loop-place-preserved : goal.loop-place-preserved
loop-place-preserved c =
    let t = c.args.table.now in
    let base = c.args.base.now in
    let extra = c.index-systems-place.result in
    let most = most_of c.args.bits in
    let is = c.in_ok-system.ensures ∙ ap (λ (rows : List Extra). extended_by t base (map comparison_of_extra rows)) c.as_slice.ensures in
    let shows = decided_as most c.in_ok-system.system (extended_by t base (extras_of extra)) c.in_ok-solution.field-0 (decisions.NotSolvable c.in-NotSolvable.multipliers) is c.in-NotSolvable.is c.in_ok-solution.ensures.decided in
    let more = refuted_more most (map (extended_by t base) (map extras_of c.args.systems.now)) c.loop-place.place (extended_by t base (extras_of extra)) c.in-NotSolvable.multipliers c.loop-place.parts.items c.loop-place.invariant.0 (system_here t base c.args.systems.now c.loop-place.place extra (search rules) (search rules)) shows in
    let before = c.loop-place.invariant.1 in
    let risen = c.in_ok-solution.ensures.counted in
    search rules
