-- That the numbers that are shown of a function are its values.
use Rattle.std.proofs.Common.{◌≡◌, ℕ, ◌+◌, ◌*◌, ◌/◌, ◌<◌, ◌≤◌, Bool, true, false, not, List, [], ◌∷◌, length, map, Some, None, refl, sym, ap, subst, ◌∙◌, arith, ℤ, pos, ◌≤ℤ◌, ◌<ℤ◌, mod-lt, if◌then◌else◌}
use Rattle.std.specs.Prelude.{◌↔◌, ◌==◌, nat_le, unsigned_abs}
use Rattle.std.specs.List.{range_with_len}
use Rattle.std.proofs.lemmas.Bool.{eqb-true, eqb-false, leb-true, leb-false}
use Rattle.std.proofs.lemmas.Int.{ints}
use Rattle.std.proofs.lemmas.Nat.{div-add-mod'}
use Rattle.ror_integers.specs.Vectors.{total}
use Rattle.ror_table.specs.Table.{DecisionTable, IsTable, steps}
use Rattle.ror_value.specs.Value.{marginal, ideal_value, Normalised}
use Rattle.ror_value.specs.ValueFaults.{IsAcceptedFunction}
use Rattle.ror_value.proofs.Values.{marginal_not_below, marginal_up_to_ideal, ideal-best, ideal-positive}
use Rattle.ror_show_find_proofs.specs.Functions.{is_accepted, function_of}
use Rattle.ror_show_find_proofs.specs.FunctionLaws.{IsMarginal, ShownAreValues, RoundedAreNearest}
use Rattle.ror_show_find_proofs.specs.Levels.{share_at, weight_of}
use Rattle.ror_show_find_proofs.specs.Shares.{thousandths, left_over}
use Rattle.ror_show_find_proofs.proofs.Accepted.{accepted_is, of_accepted}
use Rattle.ror_show_find_proofs.proofs.Runs.{share_of}

-- ---- functions

record IsShown (t : DecisionTable) (w : List ℤ) (f : Normalised) : Type 0 where
  is : f ≡ record { steps = w; total = ideal_value t w }
  accepted : IsAcceptedFunction t w

shown : (t : DecisionTable) (w : List ℤ) (f : Normalised) → function_of t w ≡ Some f → IsShown t w f
shown t w f there = by (is_accepted t w) refl there
  where
    by : (b : Bool) → is_accepted t w ≡ b → (if b then Some (record { steps = w; total = ideal_value t w }) else None) ≡ Some f → IsShown t w f
    by true e is = record { is = cc; accepted = accepted_is t w e }
    by false e is = absurd cc

shown_where : (t : DecisionTable) (w : List ℤ) → ((f : Normalised) × (function_of t w ≡ Some f)) ↔ IsAcceptedFunction t w
shown_where t w = ((λ h. (shown t w h.0 h.1).accepted), (λ h. (record { steps = w; total = ideal_value t w }, sym (of_accepted t w h))))

-- ---- shares

signless : (z : ℤ) → pos 0 ≤ℤ z → pos (unsigned_abs z) ≡ z
signless z above = grind (arith, ints)

is_marginal : (t : DecisionTable) (w : List ℤ) (f : Normalised) (i r : ℕ) → IsTable t → function_of t w ≡ Some f → i < length t.criteria → IsMarginal t w f i r
is_marginal t w f i r table there within =
    let h = shown t w f there in
    let g : Normalised = record { steps = w; total = ideal_value t w } in
    let above : pos 0 ≤ℤ marginal t w i r = marginal_not_below t w h.accepted.function.none_negative i r in
    let upto : marginal t w i r ≤ℤ ideal_value t w = marginal_up_to_ideal t w table h.accepted.function.none_negative i r within in
    let positive : pos 0 <ℤ ideal_value t w = ideal-positive t w table h.accepted.function in
    let whole_above : pos 0 ≤ℤ ideal_value t w = grind (arith, ints) in
    subst (λ (k : Normalised). IsMarginal t w k i r) (sym h.is)
    (record {
      part = signless (marginal t w i r) above;
      whole = signless (ideal_value t w) whole_above;
      share = share_of (marginal t w i r) (ideal_value t w) (share_at t g i r) refl refl above upto positive h.accepted.total_within;
    })

-- the same numbers without signs
all_signless : (t : DecisionTable) (w : List ℤ) (ks : List ℕ) (f : Normalised) → f ≡ record { steps = w; total = ideal_value t w } → ((i : ℕ) → pos 0 ≤ℤ marginal t w i (steps t i)) → map (λ i. pos (weight_of t f i).part) ks ≡ map (λ i. marginal t w i (steps t i)) ks
all_signless t w [] f is above = refl
all_signless t w (k ∷ ks) f is above =
    let first : pos (weight_of t f k).part ≡ marginal t w k (steps t k) = ap (λ (g : Normalised). pos (weight_of t g k).part) is ∙ signless (marginal t w k (steps t k)) (above k) in
    let rest = all_signless t w ks f is above in
    cc

weights_sum : (t : DecisionTable) (w : List ℤ) (f : Normalised) → IsTable t → function_of t w ≡ Some f → total (map (λ i. pos (weight_of t f i).part) (range_with_len 0 (length t.criteria))) ≡ ideal_value t w
weights_sum t w f table there =
    let h = shown t w f there in
    ap total (all_signless t w (range_with_len 0 (length t.criteria)) f h.is (λ i. marginal_not_below t w h.accepted.function.none_negative i (steps t i)))
    ∙ ideal-best t w

pub shown_are_values : ShownAreValues
shown_are_values = record { shown = shown_where; marginal = is_marginal; weights = weights_sum }

-- ---- rounding

nearest : (n w q r k : ℕ) → 0 < w → q * w + r ≡ n → r < w → k ≡ (if nat_le w (2 * r) then q + 1 else q) → (2 * (k * w) ≤ 2 * n + w) × (2 * n < 2 * (k * w) + w) × ((r ≡ 0) ↔ (k * w ≡ n))
nearest n w q r k positive all below is = by (nat_le w (2 * r)) refl is
  where
    by : (b : Bool) → nat_le w (2 * r) ≡ b → k ≡ (if b then q + 1 else q) → (2 * (k * w) ≤ 2 * n + w) × (2 * n < 2 * (k * w) + w) × ((r ≡ 0) ↔ (k * w ≡ n))
    by true e up =
        let half : w ≤ 2 * r = leb-true w (2 * r) e in
        let times : k * w ≡ q * w + w = ap (λ m. m * w) up ∙ omega arith in
        (omega (arith, times, all, half), omega (arith, times, all, below), ((λ none. absurd (omega (arith, none, half, positive))), (λ exact. absurd (omega (arith, exact, times, all, below)))))
    by false e down =
        let half : 2 * r < w = leb-false w (2 * r) e in
        let times : k * w ≡ q * w = ap (λ m. m * w) down in
        (omega (arith, times, all), omega (arith, times, all, half), ((λ none. omega (arith, times, all, none)), (λ exact. omega (arith, times, all, exact))))

is_exact : (r : ℕ) → (not (r == 0) ≡ false) ↔ (r ≡ 0)
is_exact r = by (r == 0) refl
  where
    by : (b : Bool) → (r == 0) ≡ b → (not b ≡ false) ↔ (r ≡ 0)
    by true e = ((λ _. eqb-true r 0 e), (λ _. refl))
    by false e = ((λ wrong. absurd cc), (λ none. absurd (eqb-false r 0 e none)))

pub rounded_are_nearest : RoundedAreNearest
rounded_are_nearest s is =
    let n = 1000 * s.part in
    let h = nearest (1000 * s.part) s.whole (1000 * s.part / s.whole) (left_over s) (thousandths s) is.positive (div-add-mod' (1000 * s.part) s.whole) (mod-lt (1000 * s.part) is.positive) refl in
    let exact = is_exact (left_over s) in
    record {
      not_above = h.0;
      not_below = h.1;
      marked = ((λ e. h.2.0 (exact.0 e)), (λ e. exact.1 (h.2.1 e)));
    }
