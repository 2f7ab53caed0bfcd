-- Greatest common divisors of two numbers and of a list; Gauss's lemma; exact quotients.
use Rattle.std.proofs.Common.{◌≡◌, ℕ, zero, suc, ◌+◌, ◌*◌, ◌/◌, ◌%◌, ◌<◌, ◌≤◌, List, [], ◌∷◌, ◌++◌, length, drop, ℤ, pos, negsuc, ◌*ℤ◌, neg_ℤ, unsigned_abs, refl, ap, ap₂, sym, ◌∙◌, subst, arith, add-one, drop-cons, mul_comm, mod-lt, mul-one, mul-pos, div-add-mod', mul-add}
use Prim.Native.Nat.{◌∣◌}
use Rattle.std.specs.Int.{IsGcd}
use Rattle.std.proofs.Math.Nat.{dvd-zero, dvd_trans, dvd_antisymm, dvd-mul_left, dvd-mul_right_of_dvd, dvd-add_iff_right, div-mul_cancel, mul-dvd-mul_left, mul-dvd-mul_right, dvd_of_mul-dvd-mul_right, mod-eq-zero_of_dvd, eq-zero_of_zero-dvd, eq-one_of_dvd-one, pos_of_dvd_of_pos}
use Rattle.std.proofs.lemmas.Nat.Gcd.{IsGcd-from_zero, IsGcd-from_mod, same_from_IsGcd, IsGcd-swap}
use Rattle.std.proofs.lemmas.Int.{ints, quot-rem, unsigned_abs-mul}
use Rattle.ror_integers.specs.Vectors.{entry, scaled_row}
use Rattle.ror_integers.specs.Gcd.{gcd_within, gcd, least_common_multiple, int_gcd, gcd_of, DividesAll, exact_quotient, divided}
use Rattle.ror_integers.proofs.Ring.{sums, product_comm}
use Rattle.ror_integers.proofs.Order.{cancel}

-- ---- two numbers
within_is : (steps a b : ℕ) → b ≤ steps → IsGcd a b (gcd_within steps a b)
within_is zero a b h = IsGcd-from_zero a b (omega arith)
within_is (suc steps) a zero h = IsGcd-from_zero a zero refl
within_is (suc steps) a (suc b) h =
    let l : a % suc b < suc b = mod-lt a (omega arith) in
    IsGcd-from_mod a (suc b) _ (within_is steps (suc b) (a % suc b) (omega arith))

pub gcd_is_greatest : (a b : ℕ) → IsGcd a b (gcd a b)
unfolding gcd
gcd_is_greatest a b = within_is b a b (omega arith)

pub same_as_gcd : (a b g : ℕ) → IsGcd a b g → g ≡ gcd a b
same_as_gcd a b g h = same_from_IsGcd a b g (gcd a b) h (gcd_is_greatest a b)

pub gcd-dvd_left : (a b : ℕ) → gcd a b ∣ a
gcd-dvd_left a b = (gcd_is_greatest a b).0

pub gcd-dvd_right : (a b : ℕ) → gcd a b ∣ b
gcd-dvd_right a b = (gcd_is_greatest a b).1

pub dvd-gcd : (d a b : ℕ) → d ∣ a → d ∣ b → d ∣ gcd a b
dvd-gcd d a b h k = (gcd_is_greatest a b).2 d h k

pub gcd_comm : (a b : ℕ) → gcd a b ≡ gcd b a
gcd_comm a b = same_as_gcd b a (gcd a b) (IsGcd-swap a b (gcd a b) (gcd_is_greatest a b))

pub gcd_assoc : (a b c : ℕ) → gcd (gcd a b) c ≡ gcd a (gcd b c)
gcd_assoc a b c = dvd_antisymm
    (dvd-gcd _ a (gcd b c) (dvd_trans _ (gcd-dvd_left (gcd a b) c) (gcd-dvd_left a b)) (dvd-gcd _ b c (dvd_trans _ (gcd-dvd_left (gcd a b) c) (gcd-dvd_right a b)) (gcd-dvd_right (gcd a b) c)))
    (dvd-gcd _ (gcd a b) c (dvd-gcd _ a b (gcd-dvd_left a (gcd b c)) (dvd_trans _ (gcd-dvd_right a (gcd b c)) (gcd-dvd_left b c))) (dvd_trans _ (gcd-dvd_right a (gcd b c)) (gcd-dvd_right b c)))

pub gcd-zero_right : (a : ℕ) → gcd a 0 ≡ a
gcd-zero_right a = sym (same_as_gcd a 0 a (IsGcd-from_zero a 0 refl))

pub gcd-zero_left : (a : ℕ) → gcd 0 a ≡ a
gcd-zero_left a = gcd_comm 0 a ∙ gcd-zero_right a

pub gcd-one_left : (a : ℕ) → gcd 1 a ≡ 1
gcd-one_left a = eq-one_of_dvd-one (gcd-dvd_left 1 a)

pub gcd-one_right : (a : ℕ) → gcd a 1 ≡ 1
gcd-one_right a = eq-one_of_dvd-one (gcd-dvd_right a 1)

-- Euclid's step
pub gcd-mod : (a b : ℕ) → gcd b (a % b) ≡ gcd a b
gcd-mod a b = same_as_gcd a b (gcd b (a % b)) (IsGcd-from_mod a b (gcd b (a % b)) (gcd_is_greatest b (a % b)))

-- only zeros have the greatest common divisor zero
pub zeros_from_gcd : (a b : ℕ) → gcd a b ≡ 0 → (a ≡ 0) × (b ≡ 0)
zeros_from_gcd a b e = (eq-zero_of_zero-dvd (subst (λ (g : ℕ). g ∣ a) e (gcd-dvd_left a b)), eq-zero_of_zero-dvd (subst (λ (g : ℕ). g ∣ b) e (gcd-dvd_right a b)))

pub gcd_positive_left : (a b : ℕ) → 0 < a → 0 < gcd a b
gcd_positive_left a b h = pos_of_dvd_of_pos (gcd-dvd_left a b) h

pub gcd_positive_right : (a b : ℕ) → 0 < b → 0 < gcd a b
gcd_positive_right a b h = pos_of_dvd_of_pos (gcd-dvd_right a b) h

-- what divides k times both divides k times their greatest common divisor
common : (steps a b k d : ℕ) → b ≤ steps → d ∣ k * a → d ∣ k * b → d ∣ k * gcd_within steps a b
common zero a b k d h p q = p
common (suc steps) a zero k d h p q = p
common (suc steps) a (suc b) k d h p q =
    let l : a % suc b < suc b = mod-lt a (omega arith) in
    let r : d ∣ k * suc b * (a / suc b) = dvd-mul_right_of_dvd d q (a / suc b) in
    let e : k * a ≡ k * suc b * (a / suc b) + k * (a % suc b) = omega (arith, ap (λ (x : ℕ). k * x) (div-add-mod' a (suc b))) in
    common steps (suc b) (a % suc b) k d (omega arith) q ((dvd-add_iff_right d r).1 (subst (λ (x : ℕ). d ∣ x) e p))

pub dvd-times_gcd : (a b k d : ℕ) → d ∣ k * a → d ∣ k * b → d ∣ k * gcd a b
unfolding gcd
dvd-times_gcd a b k d p q = common b a b k d (omega arith) p q

pub gcd_scaled : (k a b : ℕ) → gcd (k * a) (k * b) ≡ k * gcd a b
gcd_scaled k a b = dvd_antisymm
    (dvd-times_gcd a b k (gcd (k * a) (k * b)) (gcd-dvd_left (k * a) (k * b)) (gcd-dvd_right (k * a) (k * b)))
    (dvd-gcd (k * gcd a b) (k * a) (k * b) (mul-dvd-mul_left (gcd a b) k (gcd-dvd_left a b)) (mul-dvd-mul_left (gcd a b) k (gcd-dvd_right a b)))

pub gauss : (a b c : ℕ) → gcd a b ≡ 1 → a ∣ b * c → a ∣ c
gauss a b c e h =
    subst (λ (x : ℕ). a ∣ x) (ap (λ (g : ℕ). c * g) e ∙ mul-one c)
    (dvd-times_gcd a b c a (dvd-mul_left a c) (subst (λ (x : ℕ). a ∣ x) (mul_comm b c) h))

pub coprime_product : (a b c : ℕ) → gcd a b ≡ 1 → gcd a c ≡ 1 → gcd a (b * c) ≡ 1
coprime_product a b c e f =
    let d = gcd a (b * c) in
    let p = gcd-dvd_left a (b * c) in
    let q = gcd-dvd_right a (b * c) in
    let s = eq-one_of_dvd-one (subst (λ (x : ℕ). gcd d b ∣ x) e (dvd-gcd (gcd d b) a b (dvd_trans (gcd d b) (gcd-dvd_left d b) p) (gcd-dvd_right d b))) in
    eq-one_of_dvd-one (subst (λ (x : ℕ). d ∣ x) f (dvd-gcd d a c p (gauss d b c s q)))

-- ---- least common multiples
pub multiple_of_first : (m n : ℕ) → m ∣ least_common_multiple m n
multiple_of_first m n =
    let g = gcd m n in
    let a : m / g * g ≡ m = div-mul_cancel g (gcd-dvd_left m n) in
    let b : n / g * g ≡ n = div-mul_cancel g (gcd-dvd_right m n) in
    let c : n / g * m ≡ m / g * n = omega (arith, ap (λ (x : ℕ). n / g * x) a, ap (λ (x : ℕ). m / g * x) b) in
    subst (λ (x : ℕ). m ∣ x) c (dvd-mul_left m (n / g))

pub multiple_of_second : (m n : ℕ) → n ∣ least_common_multiple m n
multiple_of_second m n = dvd-mul_left n (m / gcd m n)

pub multiple_positive : (m n : ℕ) → 0 < m → 0 < n → 0 < least_common_multiple m n
multiple_positive m n hm hn =
    let g = gcd m n in
    let a : m / g * g ≡ m = div-mul_cancel g (gcd-dvd_left m n) in
    mul-pos (factor_positive (m / g) g (omega arith)) hn
  where
    factor_positive : (a b : ℕ) → 0 < a * b → 0 < a
    factor_positive zero b h = absurd (omega arith)
    factor_positive (suc a) b h = omega arith

-- the product of both is theirs times the greatest common divisor, and divides k times both
pub least_of_multiples : (m n k : ℕ) → 0 < m → 0 < n → m ∣ k → n ∣ k → least_common_multiple m n ∣ k
least_of_multiples m n k hm hn p q =
    let g = gcd m n in
    let a : m / g * g ≡ m = div-mul_cancel g (gcd-dvd_left m n) in
    let b : m / g * n * g ≡ m * n = omega (arith, ap (λ (x : ℕ). x * n) a) in
    let over_first : m * n ∣ k * m = subst (λ (x : ℕ). x ∣ k * m) (mul_comm n m) (mul-dvd-mul_right n q m) in
    let over_second : m * n ∣ k * n = mul-dvd-mul_right m p n in
    dvd_of_mul-dvd-mul_right (m / g * n) (gcd_positive_left m n hm)
    (subst (λ (x : ℕ). x ∣ k * g) (sym b) (dvd-times_gcd m n k (m * n) over_first over_second))

-- ---- exact quotients
pub exact_quotient_times : (x : ℤ) (d : ℕ) → d ∣ unsigned_abs x → exact_quotient x d *ℤ pos d ≡ x
exact_quotient_times (pos a) d h = let e = mod-eq-zero_of_dvd d h in omega (arith, sums, quot-rem (pos a) (pos d), ap pos e)
exact_quotient_times (negsuc a) d h = let e = mod-eq-zero_of_dvd d h in omega (arith, sums, quot-rem (negsuc a) (pos d), ap (λ (r : ℕ). neg_ℤ (pos r)) e)

pub exact_quotient_is : (x q : ℤ) (d : ℕ) → 0 < d → q *ℤ pos d ≡ x → exact_quotient x d ≡ q
exact_quotient_is x q d h e =
    let a : unsigned_abs x ≡ unsigned_abs q * d = ap unsigned_abs (sym e) ∙ unsigned_abs-mul q (pos d) in
    let b = exact_quotient_times x d (subst (λ (y : ℕ). d ∣ y) (sym a) (dvd-mul_left d (unsigned_abs q))) in
    cancel (pos d) (exact_quotient x d) q (omega (arith, sums)) (product_comm (pos d) (exact_quotient x d) ∙ b ∙ sym e ∙ product_comm q (pos d))

pub absolute-exact_quotient : (x : ℤ) (d : ℕ) → d ∣ unsigned_abs x → unsigned_abs (exact_quotient x d) * d ≡ unsigned_abs x
absolute-exact_quotient x d h = sym (unsigned_abs-mul (exact_quotient x d) (pos d)) ∙ ap unsigned_abs (exact_quotient_times x d h)

-- ---- lists
pub gcd_of-divides : (xs : List ℤ) → DividesAll (gcd_of xs) xs
gcd_of-divides [] = tt
gcd_of-divides (x ∷ xs) = (gcd-dvd_left (unsigned_abs x) (gcd_of xs), weaker (gcd_of (x ∷ xs)) (gcd_of xs) xs (gcd-dvd_right (unsigned_abs x) (gcd_of xs)) (gcd_of-divides xs))
  where
    weaker : (d g : ℕ) (xs : List ℤ) → d ∣ g → DividesAll g xs → DividesAll d xs
    weaker d g [] p h = tt
    weaker d g (x ∷ xs) p h = (dvd_trans d p h.0, weaker d g xs p h.1)

pub dvd-gcd_of : (d : ℕ) (xs : List ℤ) → DividesAll d xs → d ∣ gcd_of xs
dvd-gcd_of d [] h = dvd-zero d
dvd-gcd_of d (x ∷ xs) h = dvd-gcd d (unsigned_abs x) (gcd_of xs) h.0 (dvd-gcd_of d xs h.1)

pub DividesAll-from_gcd_of : (d : ℕ) (xs : List ℤ) → d ∣ gcd_of xs → DividesAll d xs
DividesAll-from_gcd_of d [] h = tt
DividesAll-from_gcd_of d (x ∷ xs) h = (dvd_trans d h (gcd-dvd_left (unsigned_abs x) (gcd_of xs)), DividesAll-from_gcd_of d xs (dvd_trans d h (gcd-dvd_right (unsigned_abs x) (gcd_of xs))))

pub DividesAll-entry : (d : ℕ) (xs : List ℤ) (j : ℕ) → DividesAll d xs → d ∣ unsigned_abs (entry xs j)
DividesAll-entry d [] j h = dvd-zero d
DividesAll-entry d (x ∷ xs) zero h = h.0
DividesAll-entry d (x ∷ xs) (suc j) h = DividesAll-entry d xs j h.1

pub gcd_of-entry : (xs : List ℤ) (j : ℕ) → gcd_of xs ∣ unsigned_abs (entry xs j)
gcd_of-entry xs j = DividesAll-entry (gcd_of xs) xs j (gcd_of-divides xs)

-- an entry that is not 0
pub gcd_of_positive : (xs : List ℤ) (j : ℕ) → 0 < unsigned_abs (entry xs j) → 0 < gcd_of xs
gcd_of_positive xs j h = pos_of_dvd_of_pos (gcd_of-entry xs j) h

pub gcd_of-append : (xs ys : List ℤ) → gcd_of (xs ++ ys) ≡ gcd (gcd_of xs) (gcd_of ys)
gcd_of-append [] ys = sym (gcd-zero_left (gcd_of ys))
gcd_of-append (x ∷ xs) ys = ap (gcd (unsigned_abs x)) (gcd_of-append xs ys) ∙ sym (gcd_assoc (unsigned_abs x) (gcd_of xs) (gcd_of ys))

pub gcd_of-scaled_row : (k : ℤ) (xs : List ℤ) → gcd_of (scaled_row k xs) ≡ unsigned_abs k * gcd_of xs
gcd_of-scaled_row k [] = omega arith
gcd_of-scaled_row k (x ∷ xs) = ap₂ gcd (unsigned_abs-mul k x) (gcd_of-scaled_row k xs) ∙ gcd_scaled (unsigned_abs k) (unsigned_abs x) (gcd_of xs)

-- a loop's step over what is left: g stands for the greatest common divisor of what was taken
pub gcd_of_more : (g : ℕ) (xs : List ℤ) (j : ℕ) → j < length xs → gcd g (gcd_of (drop j xs)) ≡ gcd (gcd g (unsigned_abs (entry xs j))) (gcd_of (drop (j + 1) xs))
gcd_of_more g xs j h = rw (add-one, drop-cons xs j (pos 0) h) (sym (gcd_assoc g (unsigned_abs (entry xs j)) (gcd_of (drop (suc j) xs))))

pub divided_times : (xs : List ℤ) (d : ℕ) → DividesAll d xs → scaled_row (pos d) (divided xs d) ≡ xs
divided_times [] d h = refl
divided_times (x ∷ xs) d h =
    ap₂ (λ (y : ℤ) (ys : List ℤ). y ∷ ys) (product_comm (pos d) (exact_quotient x d) ∙ exact_quotient_times x d h.0) (divided_times xs d h.1)

pub length-divided : (xs : List ℤ) (d : ℕ) → length (divided xs d) ≡ length xs
length-divided [] d = refl
length-divided (x ∷ xs) d = ap suc (length-divided xs d)

pub entry-divided : (xs : List ℤ) (d j : ℕ) → j < length xs → entry (divided xs d) j ≡ exact_quotient (entry xs j) d
entry-divided [] d j h = absurd (omega arith)
entry-divided (x ∷ xs) d zero h = refl
entry-divided (x ∷ xs) d (suc j) h = entry-divided xs d j (omega arith)

-- a row whose greatest common divisor is d times g, divided by d
pub gcd_of-divided : (xs : List ℤ) (d : ℕ) → DividesAll d xs → d * gcd_of (divided xs d) ≡ gcd_of xs
gcd_of-divided xs d h = sym (gcd_of-scaled_row (pos d) (divided xs d)) ∙ ap gcd_of (divided_times xs d h)

pub one_from_same : (g k : ℕ) → 0 < g → g * k ≡ g → k ≡ 1
one_from_same g zero h e = absurd (omega arith)
one_from_same g (suc zero) h e = refl
one_from_same g (suc (suc k)) h e = absurd (omega (arith, mul-add g 1 (suc k), mul-add g 1 k))

pub divided_coprime : (xs : List ℤ) → 0 < gcd_of xs → gcd_of (divided xs (gcd_of xs)) ≡ 1
divided_coprime xs h = one_from_same (gcd_of xs) (gcd_of (divided xs (gcd_of xs))) h (gcd_of-divided xs (gcd_of xs) (gcd_of-divides xs))

pub divided_one : (xs : List ℤ) → divided xs 1 ≡ xs
divided_one [] = refl
divided_one (x ∷ xs) = ap₂ (λ (y : ℤ) (ys : List ℤ). y ∷ ys) (exact_quotient_is x x 1 (omega arith) (omega (arith, ints))) (divided_one xs)

-- ---- two integers
pub int_gcd-dvd_left : (a b : ℤ) → int_gcd a b ∣ unsigned_abs a
int_gcd-dvd_left a b = gcd-dvd_left (unsigned_abs a) (unsigned_abs b)

pub int_gcd-dvd_right : (a b : ℤ) → int_gcd a b ∣ unsigned_abs b
int_gcd-dvd_right a b = gcd-dvd_right (unsigned_abs a) (unsigned_abs b)

pub int_gcd_of_quotients : (a b : ℤ) → 0 < int_gcd a b → int_gcd (exact_quotient a (int_gcd a b)) (exact_quotient b (int_gcd a b)) ≡ 1
int_gcd_of_quotients a b h =
    let g = int_gcd a b in
    let p = mul_comm g (unsigned_abs (exact_quotient a g)) ∙ absolute-exact_quotient a g (int_gcd-dvd_left a b) in
    let q = mul_comm g (unsigned_abs (exact_quotient b g)) ∙ absolute-exact_quotient b g (int_gcd-dvd_right a b) in
    one_from_same g (int_gcd (exact_quotient a g) (exact_quotient b g)) h
    (sym (gcd_scaled g (unsigned_abs (exact_quotient a g)) (unsigned_abs (exact_quotient b g))) ∙ ap₂ gcd p q)

-- only a list of zeros has the greatest common divisor 0
pub zeros_from_gcd_of : (xs : List ℤ) (j : ℕ) → gcd_of xs ≡ 0 → entry xs j ≡ pos 0
zeros_from_gcd_of xs j e =
    let a = eq-zero_of_zero-dvd (subst (λ (g : ℕ). g ∣ unsigned_abs (entry xs j)) e (gcd_of-entry xs j)) in
    omega (arith, sums)

-- a list with a 1 among its entries
pub one_is_coprime : (xs : List ℤ) (j : ℕ) → entry xs j ≡ pos 1 → gcd_of xs ≡ 1
one_is_coprime xs j e = eq-one_of_dvd-one (subst (λ (n : ℕ). gcd_of xs ∣ n) (ap unsigned_abs e) (gcd_of-entry xs j))
