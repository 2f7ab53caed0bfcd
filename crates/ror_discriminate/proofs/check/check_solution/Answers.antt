use Rattle.std.proofs.Common.{refl, rules, FitsSigned, subst, sym}
use Rattle.std.specs.Int.{w128}
use Rattle.std.proofs.lemmas.Int.{to_z-of_z}
use Rattle.ror_system.specs.System.{IsNarrow}
use Rattle.ror_discriminate.proofs.NoGreater.{NoneNegative-tops}
use Rattle.ror_discriminate.proofs.Columns.{margin_at, total_fits, total_wide}
use Rattle.ror_discriminate.proofs.check.check_solution.Goals as goal

pub returns-in_default-row_at_steps : goal.returns-in_default-row_at_steps
returns-in_default-row_at_steps c =
    let accepted = c.in_default.ensures.accepted.0 refl in
    (accepted, total_wide c.args.top.now c.args.x.now.steps (NoneNegative-tops c.args.top.now c.requires.tops.at_least_one) accepted.solves.rows.none_negative c.in_default-row_at_steps.ensures)

pub returns : goal.returns
returns c =
    let accepted = c.in_default.ensures.accepted.0 refl in
    let f : FitsSigned w128 c.least_value-least.result = search rules in
    let g : FitsSigned w128 c.in-Some.total = search rules in
    let within = total_fits c.args.top.now c.args.x.now.steps (NoneNegative-tops c.args.top.now c.requires.tops.at_least_one) accepted.solves.rows.none_negative c.in-Some.ensures.1 in
    record {
      accepted = accepted;
      total_within = within;
      margin = rw (to_z-of_z w128 _ f, to_z-of_z w128 _ g) (margin_at c.args.s.now c.args.top.now c.args.x.now.steps _ _ c.requires.tops accepted c.least_value-least.ensures.value c.least_value-least.ensures.narrow c.in-Some.ensures.0 (subst IsNarrow (sym c.in-Some.ensures.0) within));
    }
