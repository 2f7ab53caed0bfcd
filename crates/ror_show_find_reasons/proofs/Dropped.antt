-- What is found of a repair is of each statement that it dropped, in order.
use Rattle.std.proofs.Common.{◌≡◌, inl, inr, ℕ, zero, suc, ◌+◌, Bool, true, false, List, [], ◌∷◌, ◌++◌, length, map, drop, Option, Some, refl, sym, ap, subst, ◌∙◌, arith}
use Rattle.std.specs.Prelude.{nat_eq, slice_get}
use Rattle.std.specs.List.{AllZip, filter, flat_map, range_with_len}
use Rattle.std.specs.List.Sorted.{IsStrictlyIncreasing}
use Rattle.std.specs.Option.{option_map_or}
use Rattle.std.specs.Set.{is_member}
use Rattle.std.proofs.lemmas.Bool.{cases_Bool}
use Rattle.ror_statement.specs.declared.statement.Numbered.{Numbered}
use Rattle.ror_statement.specs.Statements.{numbers_in}
use Rattle.ror_table.specs.Table.{DecisionTable}
use Rattle.ror_check.specs.Repair.{AreNumbersIn, is_among}
use Rattle.ror_check.proofs.Numbers.{rises, numbers_among}
use Rattle.ror_reason.proofs.Parts.{are-in-numbers}
use Rattle.ror_show_find_reasons.specs.declared.lines.DropFound.{DropFound}
use Rattle.ror_show_find_reasons.specs.Lines.{is_dropped_at, dropped_if, IsDropAt, AreAllDrops}
use Rattle.ror_show_find_reasons.proofs.Found.{chosen, passed_over}

first_left : {X : Type 0} (n : ℕ) (xs : List X) (x : X) (ys : List X) → drop n xs ≡ x ∷ ys → (slice_get xs n ≡ Some x) × (drop (suc n) xs ≡ ys)
first_left zero [] x ys left = absurd cc
first_left zero (z ∷ zs) x ys left = (let same : z ≡ x = cc in ap Some same, cc)
first_left (suc n) [] x ys left = absurd cc
first_left (suc n) (z ∷ zs) x ys left = first_left n zs x ys left

kept_first : (p : ℕ → Bool) (n : ℕ) (ns : List ℕ) → p n ≡ true → filter p (n ∷ ns) ≡ n ∷ filter p ns
kept_first p n ns is = rw is refl

passed_first : (p : ℕ → Bool) (n : ℕ) (ns : List ℕ) → p n ≡ false → filter p (n ∷ ns) ≡ filter p ns
passed_first p n ns is = rw is refl

module _ (t : DecisionTable) (list : List Numbered) (ds : List ℕ) where
  abbrev numbers : List DropFound → List ℕ
  numbers fs = map (λ (f : DropFound). f.number) fs

  one_first : (i : ℕ) (x : Numbered) (places ns : List ℕ) (fs : List DropFound) → slice_get list i ≡ Some x → ((gs : List DropFound) → AllZip (IsDropAt t list ds) places gs → numbers gs ≡ ns) → AllZip (IsDropAt t list ds) (i ∷ places) fs → numbers fs ≡ x.number ∷ ns
  one_first i x places ns [] there rest all = absurd all
  one_first i x places ns (f ∷ fs) there rest all =
      ap (λ (n : ℕ). n ∷ numbers fs) (all.0.1 x there).0 ∙ ap (λ (ms : List ℕ). x.number ∷ ms) (rest fs all.1)

  numbers_from : (i : ℕ) (zs : List Numbered) (fs : List DropFound) → drop i list ≡ zs → AllZip (IsDropAt t list ds) (flat_map (dropped_if ds list) (range_with_len i (length zs))) fs → numbers fs ≡ filter (is_member nat_eq ds) (numbers_in zs)
  numbers_from i [] [] left are = refl
  numbers_from i [] (f ∷ fs) left are = absurd are
  numbers_from i (x ∷ zs) fs left are =
      let here = first_left i list x zs left in
      let plus : i + 1 ≡ suc i = omega arith in
      let next : drop (i + 1) list ≡ zs = ap (λ (n : ℕ). drop n list) plus ∙ here.1 in
      let same : is_dropped_at ds list i ≡ is_among ds x = ap (λ (o : Option Numbered). option_map_or (is_among ds) o false) here.0 in
      elim (cases_Bool (is_among ds x)) [
        | inl among ↦
            let picks : dropped_if ds list i ≡ i ∷ [] = chosen (is_dropped_at ds list i) (i ∷ []) [] (same ∙ among) in
            let all = subst (λ (ps : List ℕ). AllZip (IsDropAt t list ds) (ps ++ flat_map (dropped_if ds list) (range_with_len (i + 1) (length zs))) fs) picks are in
            one_first i x (flat_map (dropped_if ds list) (range_with_len (i + 1) (length zs))) (filter (is_member nat_eq ds) (numbers_in zs)) fs here.0 (λ gs some. numbers_from (i + 1) zs gs next some) all
            ∙ sym (kept_first (is_member nat_eq ds) x.number (numbers_in zs) among)
        | inr stays ↦
            let picks : dropped_if ds list i ≡ [] = passed_over (is_dropped_at ds list i) (i ∷ []) [] (same ∙ stays) in
            let all = subst (λ (ps : List ℕ). AllZip (IsDropAt t list ds) (ps ++ flat_map (dropped_if ds list) (range_with_len (i + 1) (length zs))) fs) picks are in
            numbers_from (i + 1) zs fs next all
            ∙ sym (passed_first (is_member nat_eq ds) x.number (numbers_in zs) stays)
      ]

  -- their numbers are those that were dropped
  pub numbers_dropped : (fs : List DropFound) → IsStrictlyIncreasing (numbers_in list) → AreNumbersIn list ds → AreAllDrops t list ds fs → map (λ (f : DropFound). f.number) fs ≡ ds
  numbers_dropped fs up are all =
      numbers_from 0 list fs refl all ∙ numbers_among (numbers_in list) ds (rises (numbers_in list) up) ((are-in-numbers list ds).0 are)
