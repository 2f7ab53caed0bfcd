-- When two certificates are the same, and what an accepted one shows.
use Rattle.std.proofs.Common.{◌≡◌, Bool, false, ℤ, List, ap, ◌∙◌, sym}
use Rattle.std.specs.Prelude.{IsTrue}
use Rattle.std.specs.Bool.{Decides}
use Rattle.std.proofs.lemmas.Bool.{false≢true}
use Rattle.ror_system.specs.declared.accept.Solution.{Solution}
use Rattle.ror_system.specs.declared.accept.Multipliers.{Multipliers}
use Rattle.ror_proof.specs.declared.answer.Certificate.TheVariants as certificates

pub same_solutions : (x y : Solution) (r : Bool) → Decides r (x.steps ≡ y.steps) → Decides r (certificates.Solution x ≡ certificates.Solution y)
same_solutions x y r d =
    (λ yes. ap (λ (steps : List ℤ). certificates.Solution (record { steps = steps })) (d.0 yes), λ same. d.1 (let is : x ≡ y = cc in ap (λ (z : Solution). z.steps) is))

-- the weak multipliers are the same: then all are where the strict ones are
pub same_with_weak : (x y : Multipliers) (w r : Bool) → Decides w (x.weak ≡ y.weak) → IsTrue w → Decides r (x.strict ≡ y.strict) → Decides r (certificates.Multipliers x ≡ certificates.Multipliers y)
same_with_weak x y w r f weak d =
    let weak_is : x.weak ≡ y.weak = f.0 weak in
    (λ yes. ap (λ (weak : List ℤ). certificates.Multipliers (record { weak = weak; strict = x.strict })) weak_is ∙ ap (λ (strict : List ℤ). certificates.Multipliers (record { weak = y.weak; strict = strict })) (d.0 yes), λ same. d.1 (let is : x ≡ y = cc in ap (λ (z : Multipliers). z.strict) is))

pub same_without_weak : (x y : Multipliers) (w : Bool) → Decides w (x.weak ≡ y.weak) → w ≡ false → Decides w (certificates.Multipliers x ≡ certificates.Multipliers y)
same_without_weak x y w d not =
    (λ yes. absurd (false≢true (sym not ∙ yes)), λ same. d.1 (let is : x ≡ y = cc in ap (λ (z : Multipliers). z.weak) is))
