-- What is summed up on a criterion is the sum over its steps, each as often as its gain says.
use Rattle.std.proofs.Common.{◌≡◌, ℕ, zero, suc, ◌<◌, ◌≤◌, Bool, true, false, List, [], ◌∷◌, length, map, Option, Some, None, ℤ, pos, ◌+ℤ◌, ◌-ℤ◌, ◌*ℤ◌, ◌≤ℤ◌, refl, ap, sym, subst, ◌∙◌, arith, if◌then◌else◌}
use Rattle.std.specs.Prelude.{not, ◌==◌, ◌&&◌, nat_lt, int_lt}
use Rattle.std.specs.List.{AllByRecursion}
use Rattle.std.proofs.lemmas.Bool.{eqb-true, eqb-false, ltb-true, ltb-false, lt-ltb}
use Rattle.std.proofs.lemmas.Int.{ints}
use Rattle.ror_integers.specs.Vectors.{dot, absolute_dot}
use Rattle.ror_integers.proofs.Ring.{sums, product-sum, product-difference, product-zero, product-one, product_comm, product_assoc}
use Rattle.ror_integers.proofs.Order.{mul_le}
use Rattle.ror_statement.specs.declared.comparison.Form.{Form}
use Rattle.ror_statement.specs.declared.comparison.Form.TheVariants.{Value, Strength}
use Rattle.ror_statement.specs.declared.comparison.Scope.{Scope}
use Rattle.ror_statement.specs.declared.comparison.Scope.TheVariants.{Whole, One}
use Rattle.ror_table.specs.Table.{DecisionTable, is_linear, rank, steps}
use Rattle.ror_table.proofs.RankLemmas.{rank-le-steps}
use Rattle.ror_value.specs.Over.{IsNamedIn}
use Rattle.ror_system.specs.System.{sum_limit}
use Rattle.ror_system.specs.declared.accept.Multipliers.{Multipliers}
use Rattle.ror_rows.specs.Rows.{rank_in}
use Rattle.ror_show_find_proofs.specs.declared.compared.Forms.{Forms}
use Rattle.ror_show_find_proofs.specs.Linear.{passes, step_at, narrow_sum, both_fall, weak_steps, strict_steps, step_falls, all_fall}
use Rattle.ror_show_find_proofs.specs.LinearLaws.{worth, surplus, OthersMayBend}

-- ---- sums over the steps

abbrev over : (ℕ → ℤ) → ℕ → ℤ
over h zero = pos 0
over h (suc n) = over h n +ℤ h n

-- each step as often as its gain says
abbrev weighed : (ℕ → ℤ) → (ℕ → ℤ) → ℕ → ℤ
weighed gain x n = over (λ k. gain k *ℤ x k) n

weighed-zero : (gain : ℕ → ℤ) (n : ℕ) → weighed gain (λ k. pos 0) n ≡ pos 0
weighed-zero gain zero = refl
weighed-zero gain (suc n) = let before = weighed-zero gain n in let here = product-zero (gain n) in omega (arith, sums, before, here)

weighed-difference : (gain x y : ℕ → ℤ) (n : ℕ) → weighed gain (λ k. x k -ℤ y k) n ≡ weighed gain x n -ℤ weighed gain y n
weighed-difference gain x y zero = omega (arith, sums)
weighed-difference gain x y (suc n) =
    let before = weighed-difference gain x y n in
    let here = product-difference (gain n) (x n) (y n) in
    omega (arith, sums, before, here)

weighed-sum : (gain x y : ℕ → ℤ) (n : ℕ) → weighed gain (λ k. x k +ℤ y k) n ≡ weighed gain x n +ℤ weighed gain y n
weighed-sum gain x y zero = omega (arith, sums)
weighed-sum gain x y (suc n) =
    let before = weighed-sum gain x y n in
    let here = product-sum (gain n) (x n) (y n) in
    omega (arith, sums, before, here)

weighed-scaled : (gain x : ℕ → ℤ) (m : ℤ) (n : ℕ) → weighed gain (λ k. x k *ℤ m) n ≡ weighed gain x n *ℤ m
weighed-scaled gain x m zero = let none = product_comm (pos 0) m in let zero_product = product-zero m in omega (arith, sums, none, zero_product)
weighed-scaled gain x m (suc n) =
    let before = weighed-scaled gain x m n in
    let here = product_assoc (gain n) (x n) m in
    let all = product_comm (over (λ k. gain k *ℤ x k) n +ℤ gain n *ℤ x n) m in
    let parts = product-sum m (over (λ k. gain k *ℤ x k) n) (gain n *ℤ x n) in
    let first = product_comm m (over (λ k. gain k *ℤ x k) n) in
    let second = product_comm m (gain n *ℤ x n) in
    omega (arith, sums, before, here, all, parts, first, second)

-- none above 0 where no gain is below 0
weighed-falls : (gain x : ℕ → ℤ) (n : ℕ) → ((k : ℕ) → k < n → pos 0 ≤ℤ gain k) → ((k : ℕ) → k < n → x k ≤ℤ pos 0) → weighed gain x n ≤ℤ pos 0
weighed-falls gain x zero none below = omega (arith, sums)
weighed-falls gain x (suc n) none below =
    let before = weighed-falls gain x n (λ k less. none k (omega (arith, less))) (λ k less. below k (omega (arith, less))) in
    let here = mul_le (gain n) (x n) (pos 0) (none n (omega arith)) (below n (omega arith)) in
    let zero_product = product-zero (gain n) in
    omega (arith, sums, before, here, zero_product)

-- ---- a rank

-- the steps that a rank passes are those below it
worth_so_far : (gain : ℕ → ℤ) (r n : ℕ) → n ≤ r → weighed gain (passes r) n ≡ worth gain n
worth_so_far gain r zero within = refl
worth_so_far gain r (suc n) within =
    let before = worth_so_far gain r n (omega (arith, within)) in
    let here : passes r n ≡ pos 1 = ap (λ (b : Bool). if b then pos 1 else pos 0) (lt-ltb n r (omega (arith, within))) in
    let term : gain n *ℤ passes r n ≡ gain n = ap (λ (x : ℤ). gain n *ℤ x) here ∙ product-one (gain n) in
    omega (arith, sums, before, term)

worth_is : (gain : ℕ → ℤ) (r n : ℕ) → r ≤ n → weighed gain (passes r) n ≡ worth gain r
worth_is gain r zero within = by r within
  where
    by : (r : ℕ) → r ≤ 0 → pos 0 ≡ worth gain r
    by zero within = refl
    by (suc r) within = absurd (omega (arith, within))
worth_is gain r (suc n) within = by (worth_is gain r n) (nat_lt n r) refl
  where
    by : (r ≤ n → weighed gain (passes r) n ≡ worth gain r) → (b : Bool) → nat_lt n r ≡ b → weighed gain (passes r) (suc n) ≡ worth gain r
    by so_far true below =
        let less = ltb-true n r below in
        let same : r ≡ suc n = omega (arith, within, less) in
        worth_so_far gain r (suc n) (omega (arith, same)) ∙ ap (worth gain) (sym same)
    by so_far false above =
        let least = ltb-false n r above in
        let before = so_far least in
        let here : passes r n ≡ pos 0 = ap (λ (b : Bool). if b then pos 1 else pos 0) above in
        let term : gain n *ℤ passes r n ≡ pos 0 = ap (λ (x : ℤ). gain n *ℤ x) here ∙ product-zero (gain n) in
        omega (arith, sums, before, term)

-- ---- a form

rank_within : (t : DecisionTable) (s : Scope) (a i : ℕ) → a < length t.alternatives → rank_in t s a i ≤ steps t i
rank_within t Whole a i within = rank-le-steps t a i within
rank_within t (One c) a i within = by (i == c)
  where
    by : (b : Bool) → (if b then rank t a i else 0) ≤ steps t i
    by true = rank-le-steps t a i within
    by false = omega arith

pair_is : (gain : ℕ → ℤ) (r s n : ℕ) → r ≤ n → s ≤ n → weighed gain (λ k. passes r k -ℤ passes s k) n ≡ worth gain r -ℤ worth gain s
pair_is gain r s n first second =
    let parts = weighed-difference gain (passes r) (passes s) n in
    let one = worth_is gain r n first in
    let other = worth_is gain s n second in
    omega (arith, sums, parts, one, other)

surplus_is : (t : DecisionTable) (i : ℕ) (gain : ℕ → ℤ) (f : Form) → IsNamedIn t f → weighed gain (λ k. step_at t i k f) (steps t i) ≡ surplus t i gain f
surplus_is t i gain (Value a b) named = pair_is gain (rank t a i) (rank t b i) (steps t i) (rank-le-steps t a i named.0) (rank-le-steps t b i named.1)
surplus_is t i gain (Strength p q s) named =
    let n = steps t i in
    let one = pair_is gain (rank_in t s p.first i) (rank_in t s p.second i) n (rank_within t s p.first i named.0.0) (rank_within t s p.second i named.0.1) in
    let other = pair_is gain (rank_in t s q.first i) (rank_in t s q.second i) n (rank_within t s q.first i named.1.0) (rank_within t s q.second i named.1.1) in
    let parts = weighed-difference gain (λ k. passes (rank_in t s p.first i) k -ℤ passes (rank_in t s p.second i) k) (λ k. passes (rank_in t s q.first i) k -ℤ passes (rank_in t s q.second i) k) n in
    omega (arith, sums, parts, one, other)

-- ---- what is summed up

-- one entry more
entry_more : (gain x y : ℕ → ℤ) (m v d : ℤ) (n : ℕ) → weighed gain x n ≡ v → weighed gain y n ≡ d → weighed gain (λ k. x k *ℤ m +ℤ y k) n ≡ v *ℤ m +ℤ d
entry_more gain x y m v d n one rest =
    let parts = weighed-sum gain (λ k. x k *ℤ m) y n in
    let first = weighed-scaled gain x m n ∙ ap (λ (z : ℤ). z *ℤ m) one in
    omega (arith, sums, parts, first, rest)

forms_are : (t : DecisionTable) (i : ℕ) (gain : ℕ → ℤ) (fs : List Form) (ms : List ℤ) → AllByRecursion (IsNamedIn t) fs → weighed gain (λ k. dot (map (step_at t i k) fs) ms) (steps t i) ≡ dot (map (surplus t i gain) fs) ms
forms_are t i gain [] ms named = weighed-zero gain (steps t i)
forms_are t i gain (f ∷ fs) [] named = weighed-zero gain (steps t i)
forms_are t i gain (f ∷ fs) (m ∷ ms) named =
    entry_more gain (λ k. step_at t i k f) (λ k. dot (map (step_at t i k) fs) ms) m (surplus t i gain f) (dot (map (surplus t i gain) fs) ms) (steps t i) (surplus_is t i gain f named.0) (forms_are t i gain fs ms named.1)

-- the row of ones counts each step once
ones_are : (gain : ℕ → ℤ) (n : ℕ) → weighed gain (λ k. pos 1) n ≡ worth gain n
ones_are gain zero = refl
ones_are gain (suc n) = let before = ones_are gain n in let here = product-one (gain n) in omega (arith, sums, before, here)

strict_are : (t : DecisionTable) (i : ℕ) (gain : ℕ → ℤ) (fs : List Form) (ms : List ℤ) → AllByRecursion (IsNamedIn t) fs → weighed gain (λ k. dot (pos 1 ∷ map (step_at t i k) fs) ms) (steps t i) ≡ dot (worth gain (steps t i) ∷ map (surplus t i gain) fs) ms
strict_are t i gain fs [] named = weighed-zero gain (steps t i)
strict_are t i gain fs (m ∷ ms) named =
    entry_more gain (λ k. pos 1) (λ k. dot (map (step_at t i k) fs) ms) m (worth gain (steps t i)) (dot (map (surplus t i gain) fs) ms) (steps t i) (ones_are gain (steps t i)) (forms_are t i gain fs ms named)

-- ---- at each step

some_sum : (xs ms : List ℤ) (x : ℤ) → narrow_sum xs ms ≡ Some x → dot xs ms ≡ x
some_sum xs ms x is = by (length xs == length ms && nat_lt (absolute_dot xs ms) sum_limit) is
  where
    by : (b : Bool) → (if b then Some (dot xs ms) else None) ≡ Some x → dot xs ms ≡ x
    by true is = cc
    by false is = absurd cc

not_above : (x : ℤ) → not (int_lt (pos 0) x) ≡ true → x ≤ℤ pos 0
not_above x is = grind (arith, ints)

falls_is : (first second : Option ℤ) (x y : ℤ) → both_fall first second ≡ true → ((z : ℤ) → first ≡ Some z → x ≡ z) → ((z : ℤ) → second ≡ Some z → y ≡ z) → (x +ℤ y) ≤ℤ pos 0
falls_is (Some a) (Some b) x y falls one other =
    let p = one a refl in
    let q = other b refl in
    let below = not_above (a +ℤ b) falls in
    omega (arith, sums, p, q, below)
falls_is (Some a) None x y falls one other = absurd cc
falls_is None second x y falls one other = absurd cc

step_sum : (t : DecisionTable) (f : Forms) (m : Multipliers) (i k : ℕ) → step_falls t f m i k ≡ true → (dot (weak_steps t f i k) m.weak +ℤ dot (strict_steps t f i k) m.strict) ≤ℤ pos 0
step_sum t f m i k falls =
    falls_is (narrow_sum (weak_steps t f i k) m.weak) (narrow_sum (strict_steps t f i k) m.strict) (dot (weak_steps t f i k) m.weak) (dot (strict_steps t f i k) m.strict) falls
    (λ z is. some_sum (weak_steps t f i k) m.weak z is) (λ z is. some_sum (strict_steps t f i k) m.strict z is)

falls_at : (t : DecisionTable) (f : Forms) (m : Multipliers) (i n : ℕ) → all_fall t f m i n ≡ true → (k : ℕ) → k < n → step_falls t f m i k ≡ true
falls_at t f m i zero all k below = absurd (omega (arith, below))
falls_at t f m i (suc n) all k below = by (falls_at t f m i n) (step_falls t f m i n) refl all (k == n) refl
  where
    by : (all_fall t f m i n ≡ true → (k : ℕ) → k < n → step_falls t f m i k ≡ true) → (b : Bool) → step_falls t f m i n ≡ b → (if b then all_fall t f m i n else false) ≡ true → (last : Bool) → (k == n) ≡ last → step_falls t f m i k ≡ true
    by before false here all last at = absurd cc
    by before true here all true at = subst (λ (j : ℕ). step_falls t f m i j ≡ true) (sym (eqb-true k n at)) here
    by before true here all false at = before all k (let differ = eqb-false k n at in grind (arith, below, differ))

all_so : (linear fall : Bool) → linear ≡ true → (linear && not fall) ≡ false → fall ≡ true
all_so true true is unused = refl
all_so true false is unused = absurd cc
all_so false fall is unused = absurd cc

pub others_may_bend : OthersMayBend
others_may_bend t f m i gain criterion named linear unused none =
    let n = steps t i in
    let all = all_so (is_linear t i) (all_fall t f m i n) linear unused in
    let weak = forms_are t i gain f.weak m.weak named.weak in
    let strict = strict_are t i gain f.strict m.strict named.strict in
    let parts = weighed-sum gain (λ k. dot (weak_steps t f i k) m.weak) (λ k. dot (strict_steps t f i k) m.strict) n in
    let below = weighed-falls gain (λ k. dot (weak_steps t f i k) m.weak +ℤ dot (strict_steps t f i k) m.strict) n none (λ k less. step_sum t f m i k (falls_at t f m i n all k less)) in
    omega (arith, sums, weak, strict, parts, below)
