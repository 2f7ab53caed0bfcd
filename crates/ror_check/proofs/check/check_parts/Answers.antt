use Rattle.std.proofs.Common.{◌∙◌, ap₂, map, List}
use Rattle.ror_system.specs.System.{LinearSystem}
use Rattle.ror_rows.specs.declared.extra.Extra.{Extra}
use Rattle.ror_rows.specs.Rows.{extended_by, comparison_of_extra}
use Rattle.ror_check.proofs.Checking.{shown_here, refused_here, usable_here}
use Rattle.ror_check.proofs.check.check_parts.Goals as goal

pub loop-i-preserved-then-branch : goal.loop-i-preserved-then-branch
loop-i-preserved-then-branch c =
    let t = c.args.table.now in
    let is = ap₂ (λ (s : LinearSystem) (es : List Extra). extended_by t s (map comparison_of_extra es)) c.loop-i.invariant.1.system c.as_slice-extras.ensures in (
      shown_here t c.args.base.now.system c.args.systems.now c.args.parts.now c.loop-i.i c.index-parts-i.result c.index-systems-part.result _ c.loop-i.invariant.0 c.loop-i-test.true c.index-parts-i.is c.requires.numbers c.index-systems-part.is is (c.in_ok-is_shown_by_few.ensures.shown c.if-branch.true),
      record { system = c.in_ok-is_shown_by_few.ensures.base.system ∙ c.loop-i.invariant.1.system; known = rw c.loop-i.invariant.1.system at c.in_ok-is_shown_by_few.ensures.base.known },
    )

pub with_extras-requires-clause-named : goal.with_extras-requires-clause-named
with_extras-requires-clause-named c =
    let usable = usable_here c.args.table.now c.args.systems.now c.args.parts.now c.loop-i.i c.index-parts-i.result c.index-systems-part.result c.requires.usable c.loop-i-test.true c.index-parts-i.is c.requires.numbers c.index-systems-part.is in
    rw c.as_slice-extras.ensures usable.1

pub returns-in-Err-clause-err : goal.returns-in-Err-clause-err
returns-in-Err-clause-err c =
    let t = c.args.table.now in
    let is = c.in_ok-system.ensures ∙ ap₂ (λ (s : LinearSystem) (es : List Extra). extended_by t s (map comparison_of_extra es)) (c.in_ok-is_shown_by_few.ensures.base.system ∙ c.loop-i.invariant.1.system) c.as_slice-extras.ensures in
    refused_here t c.args.base.now.system c.args.systems.now c.args.parts.now c.loop-i.i c.index-parts-i.result c.index-systems-part.result c.in_ok-system.system c.in-Err.reject c.loop-i.invariant.0 c.loop-i-test.true c.index-parts-i.is c.requires.numbers c.index-systems-part.is is c.in-Err.ensures.rejected

pub loop-i-preserved : goal.loop-i-preserved
loop-i-preserved c =
    let t = c.args.table.now in
    let is = c.in_ok-system.ensures ∙ ap₂ (λ (s : LinearSystem) (es : List Extra). extended_by t s (map comparison_of_extra es)) (c.in_ok-is_shown_by_few.ensures.base.system ∙ c.loop-i.invariant.1.system) c.as_slice-extras.ensures in (
      shown_here t c.args.base.now.system c.args.systems.now c.args.parts.now c.loop-i.i c.index-parts-i.result c.index-systems-part.result c.in_ok-system.system c.loop-i.invariant.0 c.loop-i-test.true c.index-parts-i.is c.requires.numbers c.index-systems-part.is is c.in_default.ensures.accepted,
      record { system = c.in_ok-is_shown_by_few.ensures.base.system ∙ c.loop-i.invariant.1.system; known = rw c.loop-i.invariant.1.system at c.in_ok-is_shown_by_few.ensures.base.known },
    )
