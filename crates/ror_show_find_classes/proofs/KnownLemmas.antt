-- Of each class it is concluded whether it is possible exactly where that is said of all.
use Rattle.std.proofs.Common.{◌≡◌, ◌≢◌, ℕ, zero, suc, ◌+◌, ◌≤◌, Bool, true, false, List, refl, sym, ap, ◌∙◌, arith}
use Rattle.std.specs.Prelude.{◌==◌, if◌then◌else◌}
use Rattle.std.proofs.lemmas.Bool.{eqb-true, eqb-false}
use Rattle.ror_proof.specs.declared.answer.Answer.{Answer}
use Rattle.ror_show_find_classes.specs.declared.sign.Sign.{Sign}
use Rattle.ror_show_find_classes.specs.declared.sign.Sign.TheVariants as signs
use Rattle.ror_show_find_classes.specs.Signs.{sign_of_class, is_known}
use Rattle.ror_show_find_classes.specs.Intervals.{is_whole}
use Rattle.ror_show_find_classes.proofs.IntervalLemmas.{below_last}

pub whole_known : (xs : List Answer) (n h : ℕ) → is_whole xs n ≡ true → 1 ≤ h → h ≤ n → sign_of_class xs h ≢ signs.Unknown
whole_known xs zero h whole from to = absurd (omega (arith, from, to))
whole_known xs (suc n) h whole from to = by (whole_known xs n h) (is_known (sign_of_class xs (n + 1))) refl (h == suc n) refl whole
  where
    by : (is_whole xs n ≡ true → 1 ≤ h → h ≤ n → sign_of_class xs h ≢ signs.Unknown) → (known : Bool) → is_known (sign_of_class xs (n + 1)) ≡ known → (last : Bool) → (h == suc n) ≡ last → (if known then is_whole xs n else false) ≡ true → sign_of_class xs h ≢ signs.Unknown
    by so_far false known last at all = absurd cc
    by so_far true known true at all =
        let is = eqb-true h (suc n) at in
        let next : n + 1 ≡ h = omega (arith, is) in
        λ unknown. absurd (let none = sym known ∙ ap (λ (k : ℕ). is_known (sign_of_class xs k)) next ∙ ap is_known unknown in cc)
    by so_far true known false at all = so_far all from (below_last h n to (eqb-false h (suc n) at))

unknown_is : (s : Sign) → is_known s ≡ false → s ≡ signs.Unknown
unknown_is signs.Necessary is = absurd cc
unknown_is signs.Possible is = absurd cc
unknown_is signs.Impossible is = absurd cc
unknown_is signs.Contradiction is = absurd cc
unknown_is signs.Unknown is = refl

pub known_whole : (xs : List Answer) (n : ℕ) → ((h : ℕ) → 1 ≤ h → h ≤ n → sign_of_class xs h ≢ signs.Unknown) → is_whole xs n ≡ true
known_whole xs zero each = refl
known_whole xs (suc n) each = by (known_whole xs n (λ h from to. each h from (omega (arith, to)))) (is_known (sign_of_class xs (n + 1))) refl
  where
    by : is_whole xs n ≡ true → (known : Bool) → is_known (sign_of_class xs (n + 1)) ≡ known → (if known then is_whole xs n else false) ≡ true
    by so_far true known = so_far
    by so_far false known = absurd (each (n + 1) (omega arith) (omega arith) (unknown_is (sign_of_class xs (n + 1)) known))
