-- Texts without the white space around them.
use Rattle.std.proofs.Common.{◌≡◌, ℕ, suc, ◌-◌, ◌≤◌, true, false, List, [], ◌∷◌, ◌++◌, length, take, get_or, refl, sym, ap, ◌∙◌, arith}
use Rattle.std.proofs.Math.Seq.{take-suc}
use Rattle.std.proofs.lemmas.List.{take_all}
use Rattle.ror_elements.specs.Marks.{is_white, without_end, unless_white}

-- a white byte at the end doesn't count
pub without_end-white : (text : List ℕ) (last : ℕ) → is_white last ≡ true → without_end (text ++ last ∷ []) ≡ without_end text
without_end-white [] last e = rw e refl
without_end-white (byte ∷ bytes) last e = ap (unless_white byte) (without_end-white bytes last e)

-- and any other ends the text
pub without_end-other : (text : List ℕ) (last : ℕ) → is_white last ≡ false → without_end (text ++ last ∷ []) ≡ text ++ last ∷ []
without_end-other [] last e = rw e refl
without_end-other (byte ∷ []) last e = rw e refl
without_end-other (byte ∷ next ∷ more) last e = ap (unless_white byte) (without_end-other (next ∷ more) last e)

split_last : (xs : List ℕ) → 1 ≤ length xs → xs ≡ take (length xs - 1) xs ++ get_or xs (length xs - 1) 0 ∷ []
split_last xs some =
    let whole : suc (length xs - 1) ≡ length xs = omega arith in
    sym (sym (take-suc xs (length xs - 1) 0 (omega arith)) ∙ ap (λ n. take n xs) whole ∙ take_all (length xs) xs (omega arith))

pub last_white : (xs : List ℕ) → 1 ≤ length xs → is_white (get_or xs (length xs - 1) 0) ≡ true → without_end (take (length xs - 1) xs) ≡ without_end xs
last_white xs some e = sym (ap without_end (split_last xs some) ∙ without_end-white (take (length xs - 1) xs) (get_or xs (length xs - 1) 0) e)

pub last_other : (xs : List ℕ) → 1 ≤ length xs → is_white (get_or xs (length xs - 1) 0) ≡ false → without_end xs ≡ xs
last_other xs some e = ap without_end (split_last xs some) ∙ without_end-other (take (length xs - 1) xs) (get_or xs (length xs - 1) 0) e ∙ sym (split_last xs some)
