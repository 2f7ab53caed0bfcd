-- Which numbers a run has, and that each is in one of them.
use Rattle.std.proofs.Common.{◌≡◌, ◌≢◌, ◌⊎◌, inl, inr, ℕ, zero, suc, ◌+◌, ◌-◌, ◌<◌, ◌≤◌, Bool, true, false, List, [], ◌∷◌, get_or, refl, sym, ap, subst, ◌∙◌, arith, length}
use Rattle.std.specs.Prelude.{◌==◌, Contains, if◌then◌else◌}
use Rattle.std.specs.List.{range_with_len}
use Rattle.std.proofs.lemmas.Bool.{eqb-true, eqb-false, cases_lt}
use Rattle.ror_show_find_classes.specs.Times.{run, goes_on}

none_in : (n : ℕ) → Contains {X = ℕ} [] n → ⊥
none_in n there = omega (arith, there.1)

-- in a list with one more in front
in_front : (n : ℕ) (ns : List ℕ) → Contains {X = ℕ} (n ∷ ns) n
in_front n ns = (0, omega arith, refl)

later_in : (m n : ℕ) (ns : List ℕ) → Contains {X = ℕ} ns n → Contains {X = ℕ} (m ∷ ns) n
later_in m n ns there = (suc there.0, omega (arith, there.1), there.2)

either_in : (m n : ℕ) (ns : List ℕ) → Contains {X = ℕ} (m ∷ ns) n → (m ≡ n) ⊎ Contains {X = ℕ} ns n
either_in m n ns there = at there.0 there.1 there.2
  where
    at : (k : ℕ) → k < suc (length ns) → get_or (m ∷ ns) k n ≡ n → (m ≡ n) ⊎ Contains {X = ℕ} ns n
    at zero below is = inl is
    at (suc k) below is = inr (k, omega (arith, below), is)

module _ (asks revises : ℕ → Bool) where
  -- a number of the first kind among these, with none of the second up to it
  pub record IsInRun (first count n : ℕ) : Type 0 where
    pub from : first ≤ n
    pub below : n < first + count
    pub asked : asks n ≡ true
    pub unchanged : (k : ℕ) → first ≤ k → k ≤ n → revises k ≡ false

  abbrev runs : ℕ → ℕ → List ℕ
  runs first count = run asks revises (range_with_len first count)

  -- one number more before them
  wider : (first count n : ℕ) → revises first ≡ false → IsInRun (first + 1) count n → IsInRun first (suc count) n
  wider first count n clear is = record {
    from = omega (arith, is.from);
    below = omega (arith, is.below);
    asked = is.asked;
    unchanged = λ k from to. elim (cases_lt first k) [
      | inl after ↦ is.unchanged k (omega (arith, after)) to
      | inr upto ↦ let same : k ≡ first = omega (arith, from, upto) in subst (λ (i : ℕ). revises i ≡ false) (sym same) clear
    ];
  }

  narrower : (first count n : ℕ) → first ≢ n → IsInRun first (suc count) n → IsInRun (first + 1) count n
  narrower first count n other is = record {
    from = let from = is.from in omega (arith, from, other);
    below = let below = is.below in omega (arith, below);
    asked = is.asked;
    unchanged = λ k from to. is.unchanged k (omega (arith, from)) to;
  }

  pub found_in : (first count n : ℕ) → Contains {X = ℕ} (runs first count) n → IsInRun first count n
  found_in first zero n there = absurd (none_in n there)
  found_in first (suc count) n there = by (revises first) refl (asks first) refl there (found_in (first + 1) count n)
    where
      by : (r : Bool) → revises first ≡ r → (a : Bool) → asks first ≡ a → Contains {X = ℕ} (if r then [] else (if a then first ∷ runs (first + 1) count else runs (first + 1) count)) n → (Contains {X = ℕ} (runs (first + 1) count) n → IsInRun (first + 1) count n) → IsInRun first (suc count) n
      by true clear a is there more = absurd (none_in n there)
      by false clear false is there more = wider first count n clear (more there)
      by false clear true is there more = elim (either_in first n (runs (first + 1) count) there) [
        | inl same ↦ record {
          from = omega (arith, same);
          below = omega (arith, same);
          asked = subst (λ (i : ℕ). asks i ≡ true) same is;
          unchanged = λ k from to. let here : k ≡ first = omega (arith, from, to, same) in subst (λ (i : ℕ). revises i ≡ false) (sym here) clear;
        }
        | inr rest ↦ wider first count n clear (more rest)
      ]

  pub put_in : (first count n : ℕ) → IsInRun first count n → Contains {X = ℕ} (runs first count) n
  put_in first zero n is = let from = is.from in let below = is.below in absurd (omega (arith, from, below))
  put_in first (suc count) n is = by (asks first) refl (first == n) refl (put_in (first + 1) count n)
    where
      here : revises first ≡ false
      here = let from = is.from in is.unchanged first (omega arith) from

      by : (a : Bool) → asks first ≡ a → (e : Bool) → (first == n) ≡ e → (IsInRun (first + 1) count n → Contains {X = ℕ} (runs (first + 1) count) n) → Contains {X = ℕ} (runs first (suc count)) n
      by a is_a true e more =
          let same : first ≡ n = eqb-true first n e in
          let asked : asks first ≡ true = subst (λ (i : ℕ). asks i ≡ true) (sym same) is.asked in
          rw (here, asked, sym same) (in_front first (runs (first + 1) count))
      by true is_a false e more = rw (here, is_a) (later_in first n (runs (first + 1) count) (more (narrower first count n (eqb-false first n e) is)))
      by false is_a false e more = rw (here, is_a) (more (narrower first count n (eqb-false first n e) is))

  -- ---- whether a run goes on

  -- one of the first n numbers is of the first kind, and none from it on is of the second
  pub record GoesOn (n : ℕ) : Type 0 where
    pub at : ℕ
    pub earlier : at < n
    pub asked : asks at ≡ true
    pub unchanged : (k : ℕ) → at ≤ k → k < n → revises k ≡ false

  pub goes_from : (n : ℕ) → goes_on asks revises n ≡ true → GoesOn n
  goes_from zero is = absurd cc
  goes_from (suc n) is = by (revises n) refl (asks n) refl is (goes_from n)
    where
      by : (r : Bool) → revises n ≡ r → (a : Bool) → asks n ≡ a → (if r then false else (if a then true else goes_on asks revises n)) ≡ true → (goes_on asks revises n ≡ true → GoesOn n) → GoesOn (suc n)
      by true none a is_a is more = absurd cc
      by false none true is_a is more = record {
        at = n;
        earlier = omega arith;
        asked = is_a;
        unchanged = λ k from to. let here : k ≡ n = omega (arith, from, to) in subst (λ (i : ℕ). revises i ≡ false) (sym here) none;
      }
      by false none false is_a is more =
          let rest = more is in
          record {
            at = rest.at;
            earlier = let earlier = rest.earlier in omega (arith, earlier);
            asked = rest.asked;
            unchanged = λ k from to. elim (cases_lt k n) [
              | inl below ↦ rest.unchanged k from below
              | inr last ↦ let here : k ≡ n = omega (arith, to, last) in subst (λ (i : ℕ). revises i ≡ false) (sym here) none
            ];
          }

  pub goes_by : (n : ℕ) → GoesOn n → goes_on asks revises n ≡ true
  goes_by zero is = let earlier = is.earlier in absurd (omega (arith, earlier))
  goes_by (suc n) is = by (asks n) refl (goes_by n)
    where
      clear : revises n ≡ false
      clear = let earlier = is.earlier in is.unchanged n (omega (arith, earlier)) (omega arith)

      by : (a : Bool) → asks n ≡ a → (GoesOn n → goes_on asks revises n ≡ true) → goes_on asks revises (suc n) ≡ true
      by true is_a more = rw (clear, is_a) refl
      by false is_a more = rw (clear, is_a) (more (record {
        at = is.at;
        earlier = let earlier = is.earlier in elim (cases_lt is.at n) [
          | inl below ↦ below
          | inr last ↦ let here : is.at ≡ n = omega (arith, earlier, last) in absurd (let both : true ≡ false = sym is.asked ∙ ap asks here ∙ is_a in cc)
        ];
        asked = is.asked;
        unchanged = λ k from to. is.unchanged k from (omega (arith, to));
      }))

  -- ---- each in one run

  -- what begins a run, and the number in it
  pub record IsInTime (end n : ℕ) : Type 0 where
    pub first : ℕ
    pub asked : asks first ≡ true
    pub fresh : goes_on asks revises first ≡ false
    pub row : IsInRun first (end - first) n

  module _ (apart : (n : ℕ) → asks n ≡ true → revises n ≡ false) (end : ℕ) where
    extended : (n : ℕ) → n < end → asks n ≡ true → (before : GoesOn n) → IsInTime end before.at → IsInTime end n
    extended n below asked before is = record {
      first = is.first;
      asked = is.asked;
      fresh = is.fresh;
      row = record {
        from = let from = is.row.from in let earlier = before.earlier in omega (arith, from, earlier);
        below = let from = is.row.from in let earlier = before.earlier in omega (arith, from, earlier, below);
        asked = asked;
        unchanged = λ k from to. elim (cases_lt before.at k) [
          | inl after ↦ elim (cases_lt k n) [
            | inl inside ↦ before.unchanged k (omega (arith, after)) inside
            | inr last ↦ let here : k ≡ n = omega (arith, to, last) in subst (λ (i : ℕ). revises i ≡ false) (sym here) (apart n asked)
          ]
          | inr upto ↦ is.row.unchanged k from upto
        ];
      };
    }

    begun : (n : ℕ) → n < end → asks n ≡ true → goes_on asks revises n ≡ false → IsInTime end n
    begun n below asked fresh = record {
      first = n;
      asked = asked;
      fresh = fresh;
      row = record {
        from = omega arith;
        below = omega (arith, below);
        asked = asked;
        unchanged = λ k from to. let here : k ≡ n = omega (arith, from, to) in subst (λ (i : ℕ). revises i ≡ false) (sym here) (apart n asked);
      };
    }

    in_time_below : (bound n : ℕ) → n < bound → n < end → asks n ≡ true → IsInTime end n
    in_time_below zero n less below asked = absurd (omega (arith, less))
    in_time_below (suc bound) n less below asked = by (goes_on asks revises n) refl (in_time_below bound)
      where
        by : (g : Bool) → goes_on asks revises n ≡ g → ((m : ℕ) → m < bound → m < end → asks m ≡ true → IsInTime end m) → IsInTime end n
        by false fresh more = begun n below asked fresh
        by true goes more =
            let before = goes_from n goes in
            let earlier = before.earlier in
            extended n below asked before (more before.at (omega (arith, earlier, less)) (omega (arith, earlier, below)) before.asked)

    pub in_time : (n : ℕ) → n < end → asks n ≡ true → IsInTime end n
    in_time n below asked = in_time_below (suc n) n (omega arith) below asked

  -- of two that begin a run, and of which the one is earlier, only one has a number in it
  later_is_fresh : (end n f g : ℕ) → f < g → asks f ≡ true → goes_on asks revises g ≡ false → IsInRun f (end - f) n → IsInRun g (end - g) n → ⊥
  later_is_fresh end n f g less asked fresh one other =
      let upto = other.from in
      let goes = goes_by g (record { at = f; earlier = less; asked = asked; unchanged = λ k from to. one.unchanged k from (omega (arith, to, upto)) }) in
      let both : true ≡ false = sym goes ∙ fresh in cc

  pub one_first : (end n : ℕ) → (x y : IsInTime end n) → x.first ≡ y.first
  one_first end n x y = elim (cases_lt x.first y.first) [
    | inl less ↦ absurd (later_is_fresh end n x.first y.first less x.asked y.fresh x.row y.row)
    | inr upto ↦ elim (cases_lt y.first x.first) [
      | inl less ↦ absurd (later_is_fresh end n y.first x.first less y.asked x.fresh y.row x.row)
      | inr same ↦ omega (arith, upto, same)
    ]
  ]
