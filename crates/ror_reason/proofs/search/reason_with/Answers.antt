use Rattle.std.proofs.Common.{◌≡◌, ◌∙◌, length, true, false, sym, ap}
use Rattle.std.specs.List.{list_any}
use Rattle.ror_check.specs.Proof.{is_wide}
use Rattle.ror_reason.proofs.SearchLemmas.{part_with, carried_found, wide_found}
use Rattle.ror_reason.proofs.search.reason_with.Goals as goal

pub only-answer-requires : goal.only-answer-requires
only-answer-requires c = ap length c.requires.part.is_alone

pub returns-then-wide : goal.returns-then-wide
returns-then-wide c =
    let s = c.args.sought.now in
    let part = c.args.part in
    let p = part_with s c.requires.sought part c.requires.part c.only-answer.result c.only-answer.ensures in
    let some : list_any (λ x. is_wide x.verdict) c.as_slice.result.now ≡ true = sym c.is_some_wide-wide.ensures ∙ c.if-wide.true in
    wide_found s c.requires.sought part.numbers.items c.only-answer.result p c.args.others.items c.requires.others c.from-numbers.result c.from-others.result c.from-numbers.ensures c.from-others.ensures (ap (list_any (λ x. is_wide x.verdict)) (sym c.as_slice.ensures.value) ∙ some)

pub returns-else-wide : goal.returns-else-wide
returns-else-wide c =
    let s = c.args.sought.now in
    let part = c.args.part in
    let p = part_with s c.requires.sought part c.requires.part c.only-answer.result c.only-answer.ensures in
    let none : list_any (λ x. is_wide x.verdict) c.as_slice.result.now ≡ false = sym c.is_some_wide-wide.ensures ∙ c.if-wide.false in
    carried_found s c.requires.sought part.numbers.items c.only-answer.result p c.args.others.items c.requires.others c.from-numbers.result c.from-others.result c.from-numbers.ensures c.from-others.ensures (ap (list_any (λ x. is_wide x.verdict)) (sym c.as_slice.ensures.value) ∙ none)
