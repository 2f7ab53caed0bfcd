-- Texts that are written one after another.
use Rattle.std.proofs.Common.{◌≡◌, ◌≤◌, ℕ, Option, Result, Ok, Err, List, ◌++◌, ◌∙◌, subst}
use Rattle.ror_io.specs.Counts.{Rose}
use Rattle.ror_io.specs.Writing.{Grew, GrewShort}
use Rattle.ror_io.proofs.Writes.{Grew-append, GrewShort-more, GrewShort-after}
use Rattle.ror_frame.specs.Printing.{Prints}

-- a text of which the first part failed failed
pub cut : (x y : ℕ) (old new : Option (List ℕ)) (front rest text : List ℕ) → (x ≤ y) × Rose x y × GrewShort old new front → text ≡ front ++ rest → (x ≤ y) × Rose x y × GrewShort old new text
cut x y old new front rest text failed whole = (failed.0, failed.1, rw whole (GrewShort-more old new front rest failed.2))

-- a text whose first part was written ends as its second part
pub follow : {A E : Type 0} (x y z : ℕ) (old between new : Option (List ℕ)) (first second text : List ℕ) (r : Result A E) → (y ≡ x) × Grew old between first → Prints y z between new second r → text ≡ first ++ second → Prints x z old new text r
follow x y z old between new first second text (Ok v) written ends whole =
    (ends.0 ∙ written.0, rw whole (Grew-append old between new first second written.1 ends.1))
follow x y z old between new first second text (Err e) written ends whole =
    (subst (λ (n : ℕ). n ≤ z) written.0 ends.0, subst (λ (n : ℕ). Rose n z) written.0 ends.1, rw whole (GrewShort-after old between new first second written.1 ends.2))
