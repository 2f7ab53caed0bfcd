-- The roll of a desk, and an empty line behind it.
use Rattle.std.proofs.Common.{◌≡◌, ℕ, List, [], ◌∷◌, ◌++◌, ap, ◌∙◌}
use Rattle.ror_show_kit.proofs.Pieces.{two_more}
use Rattle.ror_show_ground.specs.Grounds.{Ground}
use Rattle.ror_show_find_roll.specs.declared.roll.Roll.{Roll}
use Rattle.ror_show_text_roll.specs.Page.{roll_text}

pub roll_done : (g : Ground) (name other : List ℕ) (line number : ℕ) (roll : Roll) (old next last : List ℕ) → name ≡ other → line ≡ number → next ≡ old ++ roll_text g name line roll → last ≡ next ++ 10 ∷ [] → last ≡ old ++ (roll_text g other number roll ++ 10 ∷ [])
roll_done g name other line number roll old next last named meant wrote pushed =
    two_more (roll_text g other number roll) (10 ∷ []) old next last
    (wrote ∙ ap (λ (n : List ℕ). old ++ roll_text g n line roll) named ∙ ap (λ (n : ℕ). old ++ roll_text g other n roll) meant) pushed
