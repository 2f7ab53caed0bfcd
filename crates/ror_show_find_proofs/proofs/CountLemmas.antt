-- How often a statement counts is what the multipliers of its rows say.
use Rattle.std.proofs.Common.{◌≡◌, ℕ, zero, suc, ◌+◌, Bool, true, false, cond, List, [], ◌∷◌, ◌++◌, Option, refl, ap, sym, ◌∙◌, arith, length, map, filter, flat_map, ℤ, pos, negsuc}
use Rattle.std.specs.Prelude.{◌==◌, if◌then◌else◌, int_lt}
use Rattle.std.specs.List.{range_with_len}
use Rattle.std.specs.Option.{option_map_or}
use Rattle.std.proofs.lemmas.Bool.{ne_eqb}
use Rattle.std.proofs.lemmas.Int.{ints}
use Rattle.std.proofs.lemmas.List.{map-append}
use Rattle.std.proofs.lemmas.List.Elements.{filter-append}
use Rattle.ror_integers.specs.Vectors.{NoneNegative}
use Rattle.ror_integers.proofs.Signs.{NoneNegative-append_left, NoneNegative-append_right}
use Rattle.ror_statement.specs.Statements.{statements_in}
use Rattle.ror_proof.specs.declared.answer.Certificate.{Certificate}
use Rattle.ror_show_find_proofs.proofs.Systems.{refutations_fit}
use Rattle.ror_show_find_proofs.specs.Weights.{is_owner, owners_of, some_weight, weight_at, weights_in, weights_in_certificate}
use Rattle.ror_show_find_proofs.specs.Counted.{multipliers_of, CountsAreMultipliers}

abbrev positive : List ℤ → List ℤ
positive ms = filter (λ k. int_lt (pos 0) k) ms

module _ (n : ℕ) where
  -- ---- a list from its second place on

  none_at : (ms : List ℤ) (k : ℕ) → weight_at n [] ms k ≡ []
  none_at ms zero = refl
  none_at ms (suc k) = refl

  none_from : (ms : List ℤ) (ks : List ℕ) → flat_map (weight_at n [] ms) ks ≡ []
  none_from ms [] = refl
  none_from ms (k ∷ ks) = ap (λ (xs : List ℕ). xs ++ flat_map (weight_at n [] ms) ks) (none_at ms k) ∙ none_from ms ks

  later : (owner : ℕ × ℕ) (owners : List (ℕ × ℕ)) (m : ℤ) (ms : List ℤ) (s next count : ℕ) → next ≡ suc s → flat_map (weight_at n (owner ∷ owners) (m ∷ ms)) (range_with_len next count) ≡ flat_map (weight_at n owners ms) (range_with_len s count)
  later owner owners m ms s next zero is = refl
  later owner owners m ms s next (suc count) is =
      let here : weight_at n (owner ∷ owners) (m ∷ ms) next ≡ weight_at n owners ms s = ap (weight_at n (owner ∷ owners) (m ∷ ms)) is in
      ap (λ (xs : List ℕ). xs ++ flat_map (weight_at n (owner ∷ owners) (m ∷ ms)) (range_with_len (next + 1) count)) here
      ∙ ap (λ (xs : List ℕ). weight_at n owners ms s ++ xs) (later owner owners m ms (s + 1) (next + 1) count (omega (arith, is)))

  -- ---- one multiplier

  one_counted : (m : ℤ) (rest : List ℕ) (ms : List ℤ) → NoneNegative (m ∷ []) → map pos rest ≡ positive ms → map pos (some_weight m ++ rest) ≡ positive (m ∷ ms)
  one_counted (pos zero) rest ms least is = is
  one_counted (pos (suc k)) rest ms least is =
      let some : (suc k == 0) ≡ false = ne_eqb (suc k) 0 (λ none. omega (arith, none)) in
      let above : int_lt (pos 0) (pos (suc k)) ≡ true = grind (arith, ints) in
      ap (λ (b : Bool). map pos ((if b then [] else suc k ∷ []) ++ rest)) some
      ∙ ap (λ (xs : List ℤ). pos (suc k) ∷ xs) is
      ∙ sym (ap (λ (b : Bool). cond b (pos (suc k) ∷ positive ms) (positive ms)) above)
  one_counted (negsuc k) rest ms least is = absurd (let never = least.0 in omega (arith, ints, never))

  counted : (owners : List (ℕ × ℕ)) (ms : List ℤ) → NoneNegative ms → map pos (weights_in n owners ms) ≡ positive (multipliers_of n owners ms)
  counted [] ms least = ap (map pos) (none_from ms (range_with_len 0 (length ms)))
  counted (owner ∷ owners) [] least = refl
  counted (owner ∷ owners) (m ∷ ms) least =
      ap (λ (xs : List ℕ). map pos (weight_at n (owner ∷ owners) (m ∷ ms) 0 ++ xs)) (later owner owners m ms 0 1 (length ms) refl)
      ∙ by (is_owner n owner) (counted owners ms least.1)
    where
      by : (b : Bool) → map pos (weights_in n owners ms) ≡ positive (multipliers_of n owners ms) → map pos ((if b then some_weight m else []) ++ weights_in n owners ms) ≡ positive (if b then m ∷ multipliers_of n owners ms else multipliers_of n owners ms)
      by true is = one_counted m (weights_in n owners ms) (multipliers_of n owners ms) (least.0, tt) is
      by false is = is

pub counts_are : CountsAreMultipliers
counts_are t part q v m n proved is =
    let fits = refutations_fit t (statements_in part) q v m proved is in
    let owners = owners_of part q in
    let weak = counted n owners.weak m.weak (NoneNegative-append_left m.weak m.strict fits.refute.none_negative) in
    let strict = counted n owners.strict m.strict (NoneNegative-append_right m.weak m.strict fits.refute.none_negative) in
    ap (λ (c : Option Certificate). map pos (option_map_or (weights_in_certificate n owners) c [])) is
    ∙ map-append pos (weights_in n owners.weak m.weak) (weights_in n owners.strict m.strict)
    ∙ ap (λ (xs : List ℤ). xs ++ map pos (weights_in n owners.strict m.strict)) weak
    ∙ ap (λ (xs : List ℤ). positive (multipliers_of n owners.weak m.weak) ++ xs) strict
    ∙ sym (filter-append (λ k. int_lt (pos 0) k) (multipliers_of n owners.weak m.weak) (multipliers_of n owners.strict m.strict))
