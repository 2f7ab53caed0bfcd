use Rattle.std.proofs.Common.{◌++◌, ◌*ℤ◌, ◌<ℤ◌, pos, ℤ, refl, sym, subst, ◌∙◌, inl, inr, arith, rules, FitsSigned}
use Rattle.std.specs.Int.{w128}
use Rattle.std.proofs.lemmas.Int.{to_z-of_z}
use Rattle.ror_integers.specs.Vectors.{entry, total, column, dot}
use Rattle.ror_system.specs.Acceptance.{rows_of}
use Rattle.ror_pivot.specs.Optimality.{least_value, total_by}
use Rattle.ror_discriminate.proofs.Columns.{narrow_dot, scale_positive, scale_read, scale_over, too_great, not_too_great}
use Rattle.ror_discriminate.proofs.check.check_column.Goals as goal

pub compare_ratios-requires-clause-a_value : goal.compare_ratios-requires-clause-a_value
compare_ratios-requires-clause-a_value c =
    let m = c.args.x.now.multipliers in
    let f : FitsSigned w128 c.in-Some-column_sum.sum = search rules in
    rw (to_z-of_z w128 _ f) (narrow_dot c.in-Some-column_sum.sum (m.weak ++ m.strict) (column (rows_of c.args.s.now) c.args.column) c.in-Some-column_sum.ensures.0 c.in-Some-column_sum.ensures.1)

pub compare_ratios-requires-clause-p_positive : goal.compare_ratios-requires-clause-p_positive
compare_ratios-requires-clause-p_positive c =
    let f : FitsSigned w128 c.entry.result = search rules in
    let g : FitsSigned w128 c.args.weight = search rules in
    let h : FitsSigned w128 c.in-Some.scale = search rules in
    let sum = total c.args.x.now.multipliers.strict in
    let above = scale_positive c.args.s.now.columns c.args.top.now c.args.column sum c.requires.tops c.requires.within (subst (λ (x : ℤ). pos 0 <ℤ x) c.requires.weight c.requires.positive) in
    let scale = scale_read (entry c.args.top.now c.args.column) sum _ _ _ (to_z-of_z w128 _ f ∙ c.entry.ensures.value) (to_z-of_z w128 _ g ∙ c.requires.weight) c.in-Some.ensures above in
    rw (to_z-of_z w128 _ h) (subst (λ (x : ℤ). pos 0 <ℤ x) (sym scale.0) above)

pub returns-in-Greater : goal.returns-in-Greater
returns-in-Greater c =
    let s = c.args.s.now in
    let m = c.args.x.now.multipliers in
    let steps = c.args.x.now.solution.steps in
    let f : FitsSigned w128 c.entry.result = search rules in
    let g : FitsSigned w128 c.args.weight = search rules in
    let h : FitsSigned w128 c.in-Some.scale = search rules in
    let k : FitsSigned w128 c.in-Some-column_sum.sum = search rules in
    let l : FitsSigned w128 c.args.margin.least = search rules in
    let n : FitsSigned w128 c.args.margin.total = search rules in
    let sum = total m.strict in
    let top = entry c.args.top.now c.args.column in
    let above = scale_positive s.columns c.args.top.now c.args.column sum c.requires.tops c.requires.within (subst (λ (x : ℤ). pos 0 <ℤ x) c.requires.weight c.requires.positive) in
    let scale = scale_read top sum _ _ _ (to_z-of_z w128 _ f ∙ c.entry.ensures.value) (to_z-of_z w128 _ g ∙ c.requires.weight) c.in-Some.ensures above in
    let wrong = too_great _ _ _ _ (least_value s steps) (total_by c.args.top.now steps) (dot (m.weak ++ m.strict) (column (rows_of s) c.args.column)) (top *ℤ sum)
    (to_z-of_z w128 _ l ∙ c.requires.margin.least_is) (to_z-of_z w128 _ n ∙ c.requires.margin.total_is) (to_z-of_z w128 _ k ∙ c.in-Some-column_sum.ensures.0) (to_z-of_z w128 _ h ∙ scale.0) (sym c.in-Greater.ensures) in
    inr (inr (refl, (c.requires.within, wrong), λ wide. wide.1 scale.1, λ wide. let a = wide.1 in let b = c.in-Some-column_sum.ensures.1 in omega arith))

pub returns-in_default : goal.returns-in_default
returns-in_default c =
    let f : FitsSigned w128 c.entry.result = search rules in
    let g : FitsSigned w128 c.args.weight = search rules in
    let sum = total c.args.x.now.multipliers.strict in
    inl (refl, (c.requires.within, scale_over (entry c.args.top.now c.args.column) sum _ _ (to_z-of_z w128 _ f ∙ c.entry.ensures.value) (to_z-of_z w128 _ g ∙ c.requires.weight) c.in_default.ensures))

pub returns-in_default-compare_ratios : goal.returns-in_default-compare_ratios
returns-in_default-compare_ratios c =
    let s = c.args.s.now in
    let m = c.args.x.now.multipliers in
    let steps = c.args.x.now.solution.steps in
    let f : FitsSigned w128 c.entry.result = search rules in
    let g : FitsSigned w128 c.args.weight = search rules in
    let h : FitsSigned w128 c.in-Some.scale = search rules in
    let k : FitsSigned w128 c.in-Some-column_sum.sum = search rules in
    let l : FitsSigned w128 c.args.margin.least = search rules in
    let n : FitsSigned w128 c.args.margin.total = search rules in
    let sum = total m.strict in
    let top = entry c.args.top.now c.args.column in
    let above = scale_positive s.columns c.args.top.now c.args.column sum c.requires.tops c.requires.within (subst (λ (x : ℤ). pos 0 <ℤ x) c.requires.weight c.requires.positive) in
    let scale = scale_read top sum _ _ _ (to_z-of_z w128 _ f ∙ c.entry.ensures.value) (to_z-of_z w128 _ g ∙ c.requires.weight) c.in-Some.ensures above in
    let right = not_too_great _ _ _ _ (least_value s steps) (total_by c.args.top.now steps) (dot (m.weak ++ m.strict) (column (rows_of s) c.args.column)) (top *ℤ sum)
    (to_z-of_z w128 _ l ∙ c.requires.margin.least_is) (to_z-of_z w128 _ n ∙ c.requires.margin.total_is) (to_z-of_z w128 _ k ∙ c.in-Some-column_sum.ensures.0) (to_z-of_z w128 _ h ∙ scale.0) (λ greater. c.in_default-compare_ratios.not-Greater (c.compare_ratios.ensures ∙ greater)) in
    record {
      scale = λ wide. wide.1 scale.1;
      sum = λ wide. let a = wide.1 in let b = c.in-Some-column_sum.ensures.1 in omega arith;
      inequality = λ wrong. right wrong.1;
    }
