-- The texts of certificates and their number, one element more.
use Rattle.std.proofs.Common.{◌≡◌, ℕ, ◌+◌, ◌<◌, ◌≤◌, zero, suc, List, [], ◌∷◌, ◌++◌, length, take, get_or, sym, ap, subst, ◌∙◌, append_assoc, length-append, arith}
use Rattle.std.specs.List.{AllByRecursion, flat_map}
use Rattle.std.proofs.lemmas.List.{append-nil, take_all}
use Rattle.std.proofs.lemmas.List.Concat.{flat_map-append}
use Rattle.ror_text.proofs.Everywhere.{all_at, each-piece}
use Rattle.ror_show_kit.proofs.Pieces.{of_elements}
use Rattle.ror_show_ground.proofs.Lists.{at_place}
use Rattle.ror_show_forms.specs.declared.certificate.Certificate.{Certificate}

few_taken : {X : Type 0} (f : X → List Certificate) (xs : List X) (n : ℕ) → length (flat_map f (take n xs)) ≤ length (flat_map f xs)
few_taken f xs zero = omega arith
few_taken f [] (suc n) = omega arith
few_taken f (x ∷ xs) (suc n) =
    let taken = length-append (f x) (flat_map f (take n xs)) in
    let all = length-append (f x) (flat_map f xs) in
    let more = few_taken f xs n in
    omega (arith, taken, all, more)

module _ {X : Type 0} (f : X → List Certificate) (xs : List X) (k : ℕ) (x : X) (within : k < length xs) (here : x ≡ get_or xs k x) where
  -- those of one element more
  with_next : flat_map f (take (k + 1) xs) ≡ flat_map f (take k xs) ++ f x
  with_next = of_elements f xs k x within ∙ ap (λ (y : X). flat_map f (take k xs) ++ f y) (sym here)

  pub text_more : (text : Certificate → List ℕ) (old before after : List ℕ) → before ≡ old ++ flat_map text (flat_map f (take k xs)) → after ≡ before ++ flat_map text (f x) → after ≡ old ++ flat_map text (flat_map f (take (k + 1) xs))
  text_more text old before after so_far pushed =
      let so = flat_map text (flat_map f (take k xs)) in
      let both = ap (flat_map text) with_next ∙ flat_map-append text (flat_map f (take k xs)) (f x) in
      pushed ∙ ap (λ (qs : List ℕ). qs ++ flat_map text (f x)) so_far ∙ append_assoc old so (flat_map text (f x)) ∙ ap (λ (qs : List ℕ). old ++ qs) (sym both)

  pub count_more : (count more : ℕ) → count ≡ length (flat_map f (take k xs)) → more ≡ length (f x) → count + more ≡ length (flat_map f (take (k + 1) xs))
  count_more count more so_far one =
      let all = ap length with_next ∙ length-append (flat_map f (take k xs)) (f x) in
      omega (arith, so_far, one, all)

  -- no more than all together
  pub count_within : (count more : ℕ) → count ≡ length (flat_map f (take k xs)) → more ≡ length (f x) → count + more ≤ length (flat_map f xs)
  count_within count more so_far one =
      let now = count_more count more so_far one in
      let most = few_taken f xs (k + 1) in
      omega (arith, now, most)

  pub piece_within : length (f x) ≤ length (flat_map f xs)
  piece_within =
      let all = ap length with_next ∙ length-append (flat_map f (take k xs)) (f x) in
      let most = few_taken f xs (k + 1) in
      omega (arith, all, most)

  pub piece_holds : (P : Certificate → Type 0) → AllByRecursion P (flat_map f xs) → AllByRecursion P (f x)
  piece_holds P all =
      subst (λ (y : X). AllByRecursion P (f y)) (sym here) (all_at (λ (y : X). AllByRecursion P (f y)) xs k (get_or xs k x) (each-piece P f xs all) (at_place xs k x within))

-- ---- at the end

pub text_done : {X : Type 0} (text : Certificate → List ℕ) (f : X → List Certificate) (xs : List X) (k : ℕ) (old now : List ℕ) → length xs ≤ k → now ≡ old ++ flat_map text (flat_map f (take k xs)) → now ≡ old ++ flat_map text (flat_map f xs)
text_done {X} text f xs k old now past all = all ∙ ap (λ (ys : List X). old ++ flat_map text (flat_map f ys)) (take_all k xs past)

pub count_done : {X : Type 0} (f : X → List Certificate) (xs : List X) (k count : ℕ) → length xs ≤ k → count ≡ length (flat_map f (take k xs)) → count ≡ length (flat_map f xs)
count_done {X} f xs k count past all = all ∙ ap (λ (ys : List X). length (flat_map f ys)) (take_all k xs past)

-- what begins, what follows and what ends
pub whole : (head body end first second third : List ℕ) → first ≡ head → second ≡ first ++ body → third ≡ second ++ end → third ≡ head ++ (body ++ end)
whole head body end first second third one two three =
    three ∙ ap (λ (qs : List ℕ). qs ++ end) (two ∙ ap (λ (qs : List ℕ). qs ++ body) one) ∙ append_assoc head body end

-- ---- one certificate, or none

pub of_reduct : (text : Certificate → List ℕ) (xs : List Certificate) (x : Certificate) (old now : List ℕ) → xs ≡ x ∷ [] → now ≡ old ++ text x → now ≡ old ++ flat_map text xs
of_reduct text xs x old now is pushed =
    pushed ∙ ap (λ (qs : List ℕ). old ++ qs) (sym (append-nil (text x)) ∙ ap (flat_map text) (sym is))

pub of_none : (text : Certificate → List ℕ) (xs : List Certificate) (old : List ℕ) → xs ≡ [] → old ≡ old ++ flat_map text xs
of_none text xs old none = sym (append-nil old) ∙ ap (λ (ys : List Certificate). old ++ flat_map text ys) (sym none)
