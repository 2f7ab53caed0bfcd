use Rattle.std.proofs.Common.{◌≡◌, ◌∷◌, [], ◌∙◌, List, ℕ, pos, Ok, ap, refl, rules}
use Rattle.std.proofs.lemmas.Bool.Decides.{Decides-eqb}
use Rattle.std.proofs.lemmas.Slice.Eq.{slice_eq-Decides}
use Rattle.ror_text.specs.Numbers.{number_of}
use Rattle.ror_proof.specs.Words as spec
use Rattle.ror_proof.proofs.words.number_in.Goals as goal

of_zero : (place : ℕ) → spec.number_in number_of place (48 ∷ []) ≡ Ok (pos 0)
unfolding number_of
of_zero place = refl

pub returns-then-eq-clause-exact : goal.returns-then-eq-clause-exact
returns-then-eq-clause-exact c =
    let zero_text : c.args.word.now ≡ 48 ∷ [] = (slice_eq-Decides Decides-eqb _ _ _ c.eq.ensures).0 (search rules) ∙ c.as_slice.ensures in
    ap (λ (word : List ℕ). spec.number_in number_of c.args.place word) zero_text ∙ of_zero c.args.place
