-- What `==` says of lists of integers and of bytes, and ranges of one number more.
use Rattle.std.proofs.Common.{◌≡◌, Bool, true, false, ℕ, ◌+◌, ℤ, List, [], ◌∷◌, ◌++◌, refl, sym, ap, ◌∙◌}
use Rattle.std.specs.Prelude.{◌≢◌}
use Rattle.std.specs.Str.{bytes_eq}
use Rattle.std.proofs.lemmas.Bool.{false_from_ne_true}
use Rattle.std.specs.Bool.{Decides}
use Rattle.std.specs.Ordering.{int_eq}
use Rattle.std.specs.Cmp.Lexicographic.{pointwise}
use Rattle.std.proofs.lemmas.Bool.Decides.{Decides-int_eq}
use Rattle.std.specs.List.{range_with_len}
use Rattle.std.proofs.lemmas.List.{map-id}
use Rattle.std.proofs.lemmas.List.FromFn.{map-range_with_len_more}
use Rattle.std.proofs.lemmas.Slice.Eq.{slice_eq-Decides, bytes_eq-Decides}

pub same_integers : (xs ys : List ℤ) (r : Bool) → r ≡ pointwise int_eq xs ys → Decides r (xs ≡ ys)
same_integers xs ys r e = slice_eq-Decides Decides-int_eq xs ys r e

pub bytes_apart : (xs ys : List ℕ) → xs ≢ ys → bytes_eq xs ys ≡ false
bytes_apart xs ys apart = false_from_ne_true (bytes_eq xs ys) (λ t. apart ((bytes_eq-Decides xs ys).0 t))

pub bytes_same : (xs : List ℕ) → bytes_eq xs xs ≡ true
bytes_same xs = (bytes_eq-Decides xs xs).1 refl

pub range_more : (a n k : ℕ) → a + n ≡ k → range_with_len a (n + 1) ≡ range_with_len a n ++ k ∷ []
range_more a n k is = sym (map-id (range_with_len a (n + 1))) ∙ map-range_with_len_more (λ i. i) a n k is ∙ ap (λ (is : List ℕ). is ++ k ∷ []) (map-id (range_with_len a n))
