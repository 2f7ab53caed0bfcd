-- The rows that were read one by one are the first of all.
use Rattle.std.proofs.Common.{◌≡◌, ℕ, zero, suc, ◌≤◌, List, [], ◌∷◌, length, None, refl, ap, ◌∙◌, arith}
use Rattle.csv.specs.Machine.{next_record}
use Rattle.csv.specs.Reading.{Reached, records_from, records_next}
use Rattle.csv.specs.declared.parser.Config.{Config}
use Rattle.csv.specs.declared.parser.State.{State}

-- as many as were wanted
pub reached_all : (cfg : Config) (s : State) (xs : List ℕ) (rows : List (List (List ℕ))) (s2 : State) (ys : List ℕ) → Reached cfg s xs rows s2 ys → records_from cfg (length rows) s xs ≡ rows
unfolding Reached records_from
reached_all cfg s xs [] s2 ys h = refl
reached_all cfg s xs (r ∷ rs) s2 ys h =
    let p = h.0 in
    ap (records_next (records_from cfg (length rs))) h.1 ∙ rw h.2 (ap (λ (l : List (List (List ℕ))). p.0 ∷ l) (reached_all cfg p.1 p.2 rs s2 ys h.3))

-- or all that there are
pub reached_end : (cfg : Config) (s : State) (xs : List ℕ) (rows : List (List (List ℕ))) (s2 : State) (ys : List ℕ) (n : ℕ) → Reached cfg s xs rows s2 ys → next_record cfg s2 [] [] ys ≡ None → length rows ≤ n → records_from cfg n s xs ≡ rows
unfolding Reached records_from
reached_end cfg s xs [] s2 ys zero h none less = refl
reached_end cfg s xs (r ∷ rs) s2 ys zero h none less = absurd (omega arith)
reached_end cfg s xs [] s2 ys (suc n) h none less =
    let gone : next_record cfg s [] [] xs ≡ None = rw (h.0, h.1) none in
    ap (records_next (records_from cfg n)) gone
reached_end cfg s xs (r ∷ rs) s2 ys (suc n) h none less =
    let p = h.0 in
    ap (records_next (records_from cfg n)) h.1 ∙ rw h.2 (ap (λ (l : List (List (List ℕ))). p.0 ∷ l) (reached_end cfg p.1 p.2 rs s2 ys n h.3 none (omega arith)))
