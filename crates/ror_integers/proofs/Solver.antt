-- A solver for equations of a commutative ring: `ring3 (λ a b c. (a ⊕ b) ⊗ c) (λ a b c. a ⊗ c ⊕ b ⊗ c) refl x y z` proves `(x +ℤ y) *ℤ z ≡ x *ℤ z +ℤ y *ℤ z`.
-- The difference of both sides is computed as a polynomial, a list of coefficients that are polynomials in the other unknowns, and is zero in each coefficient.
use Rattle.std.proofs.Common.{◌≡◌, ℕ, zero, suc, Bool, true, false, cond, List, [], ◌∷◌, map, length, get_or, ℤ, pos, negsuc, ◌+ℤ◌, ◌-ℤ◌, ◌*ℤ◌, neg_ℤ, refl, ap, ap₂, sym, ◌∙◌, arith}
use Rattle.ror_integers.proofs.Ring.{sums, product_assoc, product_left_comm, product-sum, sum-product, product-zero, zero-product, product-one, minus_one-product}
use Rattle.std.proofs.lemmas.Bool.{false≢true}

infixl 6 ◌⊕◌ ◌⊖◌
infixl 7 ◌⊗◌
pub data Expr : Type 0 where
  var : ℕ → Expr
  num : ℤ → Expr
  ◌⊕◌ : Expr → Expr → Expr
  ◌⊖◌ : Expr → Expr → Expr
  ◌⊗◌ : Expr → Expr → Expr
  negated : Expr → Expr

-- the number that an expression stands for, where the unknowns are xs
abbrev pub value : List ℤ → Expr → ℤ
value xs (var i) = get_or xs i (pos 0)
value xs (num k) = k
value xs (a ⊕ b) = value xs a +ℤ value xs b
value xs (a ⊖ b) = value xs a -ℤ value xs b
value xs (a ⊗ b) = value xs a *ℤ value xs b
value xs (negated a) = neg_ℤ (value xs a)

-- ---- polynomials in n unknowns: the coefficients of the powers of the first, each in the others
abbrev pub Poly : ℕ → Type 0
Poly zero = ℤ
Poly (suc n) = List (Poly n)

abbrev add_lists : {A : Type 0} → (A → A → A) → List A → List A → List A
add_lists f [] q = q
add_lists f (c ∷ p) [] = c ∷ p
add_lists f (c ∷ p) (d ∷ q) = f c d ∷ add_lists f p q

abbrev multiply_lists : {A : Type 0} → (A → A → A) → (A → A → A) → A → List A → List A → List A
multiply_lists f g z [] q = []
multiply_lists f g z (c ∷ p) q = add_lists f (map (g c) q) (z ∷ multiply_lists f g z p q)

abbrev constant : (n : ℕ) → ℤ → Poly n
constant zero k = k
constant (suc n) k = constant n k ∷ []

abbrev none : (n : ℕ) → Poly n
none zero = pos 0
none (suc n) = []

abbrev unknown : (n : ℕ) → ℕ → Poly n
unknown zero i = pos 0
unknown (suc n) zero = none n ∷ constant n (pos 1) ∷ []
unknown (suc n) (suc i) = unknown n i ∷ []

abbrev add : (n : ℕ) → Poly n → Poly n → Poly n
add zero p q = p +ℤ q
add (suc n) p q = add_lists (add n) p q

abbrev negate : (n : ℕ) → Poly n → Poly n
negate zero p = neg_ℤ p
negate (suc n) p = map (negate n) p

abbrev multiply : (n : ℕ) → Poly n → Poly n → Poly n
multiply zero p q = p *ℤ q
multiply (suc n) p q = multiply_lists (add n) (multiply n) (none n) p q

abbrev pub normal : (n : ℕ) → Expr → Poly n
normal n (var i) = unknown n i
normal n (num k) = constant n k
normal n (a ⊕ b) = add n (normal n a) (normal n b)
normal n (a ⊖ b) = add n (normal n a) (negate n (normal n b))
normal n (a ⊗ b) = multiply n (normal n a) (normal n b)
normal n (negated a) = negate n (normal n a)

abbrev all_pass : {A : Type 0} → (A → Bool) → List A → Bool
all_pass test [] = true
all_pass test (c ∷ p) = cond (test c) (all_pass test p) false

abbrev is_nought : ℤ → Bool
is_nought (pos zero) = true
is_nought (pos (suc n)) = false
is_nought (negsuc n) = false

abbrev pub is_zero : (n : ℕ) → Poly n → Bool
is_zero zero k = is_nought k
is_zero (suc n) p = all_pass (is_zero n) p

-- ---- what a polynomial stands for
abbrev horner : {A : Type 0} → (A → ℤ) → ℤ → List A → ℤ
horner ev x [] = pos 0
horner ev x (c ∷ p) = ev c +ℤ x *ℤ horner ev x p

abbrev eval : (xs : List ℤ) → Poly (length xs) → ℤ
eval [] k = k
eval (x ∷ xs) p = horner (eval xs) x p

horner-add : {A : Type 0} (ev : A → ℤ) (x : ℤ) (f : A → A → A) → ((c d : A) → ev (f c d) ≡ ev c +ℤ ev d) → (p q : List A) → horner ev x (add_lists f p q) ≡ horner ev x p +ℤ horner ev x q
horner-add ev x f h [] q = omega (arith, sums)
horner-add ev x f h (c ∷ p) [] = omega (arith, sums)
horner-add ev x f h (c ∷ p) (d ∷ q) =
    let e = horner-add ev x f h p q in
    let s = h c d in
    omega (arith, sums, ap (λ (y : ℤ). x *ℤ y) e, product-sum x (horner ev x p) (horner ev x q))

horner-map : {A : Type 0} (ev : A → ℤ) (x k : ℤ) (g : A → A) → ((c : A) → ev (g c) ≡ k *ℤ ev c) → (p : List A) → horner ev x (map g p) ≡ k *ℤ horner ev x p
horner-map ev x k g h [] = sym (product-zero k)
horner-map ev x k g h (c ∷ p) =
    let e = horner-map ev x k g h p in
    let s = h c in
    omega (arith, sums, ap (λ (y : ℤ). x *ℤ y) e, product-sum k (ev c) (x *ℤ horner ev x p), product_left_comm k x (horner ev x p))

horner-multiply : {A : Type 0} (ev : A → ℤ) (x : ℤ) (f g : A → A → A) (z : A) → ((c d : A) → ev (f c d) ≡ ev c +ℤ ev d) → ((c d : A) → ev (g c d) ≡ ev c *ℤ ev d) → ev z ≡ pos 0 → (p q : List A) → horner ev x (multiply_lists f g z p q) ≡ horner ev x p *ℤ horner ev x q
horner-multiply ev x f g z h k e [] q = sym (zero-product (horner ev x q))
horner-multiply ev x f g z h k e (c ∷ p) q =
    let i = horner-multiply ev x f g z h k e p q in
    let s = horner-add ev x f h (map (g c) q) (z ∷ multiply_lists f g z p q) in
    let m = horner-map ev x (ev c) (g c) (k c) q in
    omega (arith, sums, ap (λ (y : ℤ). x *ℤ y) i, sum-product (ev c) (x *ℤ horner ev x p) (horner ev x q), product_assoc x (horner ev x p) (horner ev x q))

eval-none : (xs : List ℤ) → eval xs (none (length xs)) ≡ pos 0
eval-none [] = refl
eval-none (x ∷ xs) = refl

eval-constant : (xs : List ℤ) (k : ℤ) → eval xs (constant (length xs) k) ≡ k
eval-constant [] k = refl
eval-constant (x ∷ xs) k = let h = eval-constant xs k in omega (arith, sums, product-zero x)

eval-unknown : (xs : List ℤ) (i : ℕ) → eval xs (unknown (length xs) i) ≡ get_or xs i (pos 0)
eval-unknown [] i = refl
eval-unknown (x ∷ xs) zero =
    let h = ap (λ (y : ℤ). x *ℤ (y +ℤ x *ℤ pos 0)) (eval-constant xs (pos 1)) in
    let k : pos 1 +ℤ x *ℤ pos 0 ≡ pos 1 = omega (arith, sums, product-zero x) in
    omega (arith, sums, eval-none xs, ap (λ (y : ℤ). x *ℤ y) k, product-one x)
eval-unknown (x ∷ xs) (suc i) = let h = eval-unknown xs i in omega (arith, sums, product-zero x)

eval-add : (xs : List ℤ) (p q : Poly (length xs)) → eval xs (add (length xs) p q) ≡ eval xs p +ℤ eval xs q
eval-add [] p q = refl
eval-add (x ∷ xs) p q = horner-add (eval xs) x (add (length xs)) (eval-add xs) p q

eval-negate : (xs : List ℤ) (p : Poly (length xs)) → eval xs (negate (length xs) p) ≡ negsuc 0 *ℤ eval xs p
eval-negate [] p = minus_one p
  where
    minus_one : (k : ℤ) → neg_ℤ k ≡ negsuc 0 *ℤ k
    minus_one k = sym (minus_one-product k)
eval-negate (x ∷ xs) p = horner-map (eval xs) x (negsuc 0) (negate (length xs)) (eval-negate xs) p

eval-multiply : (xs : List ℤ) (p q : Poly (length xs)) → eval xs (multiply (length xs) p q) ≡ eval xs p *ℤ eval xs q
eval-multiply [] p q = refl
eval-multiply (x ∷ xs) p q =
    horner-multiply (eval xs) x (add (length xs)) (multiply (length xs)) (none (length xs)) (eval-add xs) (eval-multiply xs) (eval-none xs) p q

eval-normal : (xs : List ℤ) (a : Expr) → eval xs (normal (length xs) a) ≡ value xs a
eval-normal xs (var i) = eval-unknown xs i
eval-normal xs (num k) = eval-constant xs k
eval-normal xs (a ⊕ b) = eval-add xs (normal (length xs) a) (normal (length xs) b) ∙ ap₂ (λ (m n : ℤ). m +ℤ n) (eval-normal xs a) (eval-normal xs b)
eval-normal xs (a ⊖ b) =
    eval-add xs (normal (length xs) a) (negate (length xs) (normal (length xs) b))
    ∙ ap₂ (λ (m n : ℤ). m +ℤ n) (eval-normal xs a) (eval-negate xs (normal (length xs) b) ∙ minus_one-product (eval xs (normal (length xs) b)) ∙ ap neg_ℤ (eval-normal xs b))
eval-normal xs (a ⊗ b) = eval-multiply xs (normal (length xs) a) (normal (length xs) b) ∙ ap₂ (λ (m n : ℤ). m *ℤ n) (eval-normal xs a) (eval-normal xs b)
eval-normal xs (negated a) = eval-negate xs (normal (length xs) a) ∙ minus_one-product (eval xs (normal (length xs) a)) ∙ ap neg_ℤ (eval-normal xs a)

nought : (k : ℤ) → is_nought k ≡ true → k ≡ pos 0
nought (pos zero) e = refl
nought (pos (suc n)) e = absurd (false≢true e)
nought (negsuc n) e = absurd (false≢true e)

both_pass : (a b : Bool) → cond a b false ≡ true → (a ≡ true) × (b ≡ true)
both_pass true b e = (refl, e)
both_pass false b e = absurd (false≢true e)

horner-zero : {A : Type 0} (ev : A → ℤ) (x : ℤ) (test : A → Bool) → ((c : A) → test c ≡ true → ev c ≡ pos 0) → (p : List A) → all_pass test p ≡ true → horner ev x p ≡ pos 0
horner-zero ev x test h [] e = refl
horner-zero ev x test h (c ∷ p) e =
    let both = both_pass (test c) (all_pass test p) e in
    let s = h c both.0 in
    omega (arith, sums, ap (λ (y : ℤ). x *ℤ y) (horner-zero ev x test h p both.1), product-zero x)

eval-zero : (xs : List ℤ) (p : Poly (length xs)) → is_zero (length xs) p ≡ true → eval xs p ≡ pos 0
eval-zero [] p e = nought p e
eval-zero (x ∷ xs) p e = horner-zero (eval xs) x (is_zero (length xs)) (eval-zero xs) p e

pub ring : (xs : List ℤ) (a b : Expr) → is_zero (length xs) (normal (length xs) (a ⊖ b)) ≡ true → value xs a ≡ value xs b
ring xs a b e =
    let h = sym (eval-normal xs (a ⊖ b)) ∙ eval-zero xs (normal (length xs) (a ⊖ b)) e in
    omega (arith, sums)

pub ring2 : (f g : Expr → Expr → Expr) → is_zero 2 (normal 2 (f (var 0) (var 1) ⊖ g (var 0) (var 1))) ≡ true → (a b : ℤ) → value (a ∷ b ∷ []) (f (var 0) (var 1)) ≡ value (a ∷ b ∷ []) (g (var 0) (var 1))
ring2 f g e a b = ring (a ∷ b ∷ []) (f (var 0) (var 1)) (g (var 0) (var 1)) e

pub ring3 : (f g : Expr → Expr → Expr → Expr) → is_zero 3 (normal 3 (f (var 0) (var 1) (var 2) ⊖ g (var 0) (var 1) (var 2))) ≡ true → (a b c : ℤ) → value (a ∷ b ∷ c ∷ []) (f (var 0) (var 1) (var 2)) ≡ value (a ∷ b ∷ c ∷ []) (g (var 0) (var 1) (var 2))
ring3 f g e a b c = ring (a ∷ b ∷ c ∷ []) (f (var 0) (var 1) (var 2)) (g (var 0) (var 1) (var 2)) e

pub ring4 : (f g : Expr → Expr → Expr → Expr → Expr) → is_zero 4 (normal 4 (f (var 0) (var 1) (var 2) (var 3) ⊖ g (var 0) (var 1) (var 2) (var 3))) ≡ true → (a b c d : ℤ) → value (a ∷ b ∷ c ∷ d ∷ []) (f (var 0) (var 1) (var 2) (var 3)) ≡ value (a ∷ b ∷ c ∷ d ∷ []) (g (var 0) (var 1) (var 2) (var 3))
ring4 f g e a b c d = ring (a ∷ b ∷ c ∷ d ∷ []) (f (var 0) (var 1) (var 2) (var 3)) (g (var 0) (var 1) (var 2) (var 3)) e

pub ring5 : (f g : Expr → Expr → Expr → Expr → Expr → Expr) → is_zero 5 (normal 5 (f (var 0) (var 1) (var 2) (var 3) (var 4) ⊖ g (var 0) (var 1) (var 2) (var 3) (var 4))) ≡ true → (a b c d h : ℤ) → value (a ∷ b ∷ c ∷ d ∷ h ∷ []) (f (var 0) (var 1) (var 2) (var 3) (var 4)) ≡ value (a ∷ b ∷ c ∷ d ∷ h ∷ []) (g (var 0) (var 1) (var 2) (var 3) (var 4))
ring5 f g e a b c d h = ring (a ∷ b ∷ c ∷ d ∷ h ∷ []) (f (var 0) (var 1) (var 2) (var 3) (var 4)) (g (var 0) (var 1) (var 2) (var 3) (var 4)) e

pub ring6 : (f g : Expr → Expr → Expr → Expr → Expr → Expr → Expr) → is_zero 6 (normal 6 (f (var 0) (var 1) (var 2) (var 3) (var 4) (var 5) ⊖ g (var 0) (var 1) (var 2) (var 3) (var 4) (var 5))) ≡ true → (a b c d h k : ℤ) → value (a ∷ b ∷ c ∷ d ∷ h ∷ k ∷ []) (f (var 0) (var 1) (var 2) (var 3) (var 4) (var 5)) ≡ value (a ∷ b ∷ c ∷ d ∷ h ∷ k ∷ []) (g (var 0) (var 1) (var 2) (var 3) (var 4) (var 5))
ring6 f g e a b c d h k = ring (a ∷ b ∷ c ∷ d ∷ h ∷ k ∷ []) (f (var 0) (var 1) (var 2) (var 3) (var 4) (var 5)) (g (var 0) (var 1) (var 2) (var 3) (var 4) (var 5)) e
