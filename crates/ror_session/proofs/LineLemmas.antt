-- Words of UTF-8, and the rest of a list of words.
use Rattle.std.proofs.Common.{◌≡◌, ℕ, zero, suc, ◌-◌, ◌≤◌, Bool, true, eqb, List, [], ◌∷◌, length, get_or, map, take, drop, refl, sym, ap, subst, ◌∙◌, arith, length-drop}
use Rattle.std.proofs.lemmas.Bool.{eqb-true}
use Rattle.std.proofs.lemmas.List.{drop-map}
use Rattle.std.specs.List.{AllByRecursion}
use Rattle.std.specs.Str.{IsUtf8}
use Rattle.std.proofs.lemmas.Str.{IsUtf8-drop, IsCharBoundary-after_ascii}

pub all_dropped : {X : Type 0} (P : X → Type 0) (n : ℕ) (xs : List X) → AllByRecursion P xs → AllByRecursion P (drop n xs)
all_dropped P zero xs h = h
all_dropped P (suc n) [] h = h
all_dropped P (suc n) (x ∷ xs) h = all_dropped P n xs h.1

take_whole : {X : Type 0} (n : ℕ) (xs : List X) → length xs ≤ n → take n xs ≡ xs
take_whole zero [] h = refl
take_whole zero (x ∷ xs) h = absurd (omega arith)
take_whole (suc n) [] h = refl
take_whole (suc n) (x ∷ xs) h = ap (λ ys. x ∷ ys) (take_whole n xs (omega arith))

-- what is left after the first n, in the code's words
take_rest : {X : Type 0} (n : ℕ) (xs : List X) → take (length xs - n) (drop n xs) ≡ drop n xs
take_rest n xs = let fits : length (drop n xs) ≤ length xs - n = simp length-drop (omega arith) in take_whole (length xs - n) (drop n xs) fits

pub map_rest : {X Y : Type 0} (f : X → Y) (n : ℕ) (xs : List X) → map f (take (length xs - n) (drop n xs)) ≡ drop n (map f xs)
map_rest f n xs = ap (map f) (take_rest n xs) ∙ sym (drop-map f n xs)

utf8_name : (word : List ℕ) → IsUtf8 word → get_or word 0 0 ≡ 64 → IsUtf8 (drop 1 word)
utf8_name [] utf8 sign = absurd cc
utf8_name (byte ∷ bytes) utf8 sign = IsUtf8-drop (byte ∷ bytes) 1 utf8 (IsCharBoundary-after_ascii (byte ∷ bytes) 0 utf8 (omega arith) (omega (arith, sign)))

-- what follows the sign `@`
pub utf8_rest : (word : List ℕ) → IsUtf8 word → get_or word 0 0 ≡ 64 → IsUtf8 (take (length word - 1) (drop 1 word))
utf8_rest word utf8 sign = subst IsUtf8 (sym (take_rest 1 word)) (utf8_name word utf8 sign)

pub sign_of : (word other : List ℕ) (test : Bool) → word ≡ other → test ≡ eqb (get_or other 0 0) 64 → test ≡ true → get_or word 0 0 ≡ 64
sign_of word other test same is passed =
    let sign : get_or other 0 0 ≡ 64 = eqb-true (get_or other 0 0) 64 (sym is ∙ passed) in
    ap (λ (w : List ℕ). get_or w 0 0) same ∙ sign
