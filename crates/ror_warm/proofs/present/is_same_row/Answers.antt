use Rattle.std.proofs.Common.{sym, ◌∙◌}
use Rattle.std.proofs.lemmas.Bool.Decides.{Decides-int_eq}
use Rattle.std.proofs.lemmas.Slice.Eq.{slice_eq-Decides}
use Rattle.ror_warm.proofs.present.is_same_row.Goals as goal

pub returns : goal.returns
returns c =
    let both = slice_eq-Decides Decides-int_eq _ _ _ c.eq.ensures in
    let first = c.as_slice.ensures.value in
    let other = c.as_slice-2.ensures.value in
    (λ yes. sym first ∙ both.0 yes ∙ other, λ same. both.1 (first ∙ same ∙ sym other))
