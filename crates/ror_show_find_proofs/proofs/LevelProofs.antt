-- That each level stands in the line of its run.
use Rattle.std.proofs.Common.{◌≡◌, ◌⊎◌, inl, inr, ℕ, zero, suc, ◌+◌, ◌-◌, ◌≤◌, Bool, true, false, not, refl, sym, ap, subst, ◌∙◌, arith}
use Rattle.std.specs.Prelude.{◌==◌}
use Rattle.std.proofs.lemmas.Bool.{eqb-true, false_from_ne_true}
use Rattle.ror_table.specs.Table.{DecisionTable, steps}
use Rattle.ror_value.specs.Value.{Normalised}
use Rattle.ror_show_find_proofs.specs.FunctionLaws.{EachLevelStands}
use Rattle.ror_show_find_proofs.specs.Levels.{share_at, is_same_at, begins_run, run_end, last_of_run}
use Rattle.ror_show_find_proofs.proofs.Runs.{run_stops}

-- levels that are worth the same have the same share
same_share : (t : DecisionTable) (f : Normalised) (i r s : ℕ) → is_same_at t f i r s ≡ true → share_at t f i s ≡ share_at t f i r
same_share t f i r s is =
    let part : (share_at t f i r).part ≡ (share_at t f i s).part = eqb-true (share_at t f i r).part (share_at t f i s).part is in
    ap (λ n. record { part = n; whole = (share_at t f i r).whole }) (sym part)

goes_on : (t : DecisionTable) (f : Normalised) (i n r : ℕ) → is_same_at t f i r (r + 1) ≡ true → run_end t f i (suc n) r ≡ run_end t f i n (r + 1)
goes_on t f i n r same = rw same refl

-- ---- all levels of a run are worth the same

at_least : (first r : ℕ) → first ≤ r → (first ≡ r) ⊎ (first + 1 ≤ r)
at_least zero zero le = inl refl
at_least zero (suc r) le = inr (omega arith)
at_least (suc first) zero le = absurd (omega (arith, le))
at_least (suc first) (suc r) le = elim (at_least first r (omega (arith, le))) [ inl is ↦ inl (ap suc is) | inr more ↦ inr (omega (arith, more)) ]

run_same : (t : DecisionTable) (f : Normalised) (i n first r : ℕ) → first ≤ r → r ≤ run_end t f i n first → share_at t f i r ≡ share_at t f i first
run_same t f i zero first r least most = let is : r ≡ first = omega (arith, least, most) in ap (share_at t f i) is
run_same t f i (suc n) first r least most = by (is_same_at t f i first (first + 1)) refl (λ later same upto. run_same t f i n (first + 1) r later upto)
  where
    by : (b : Bool) → is_same_at t f i first (first + 1) ≡ b → (first + 1 ≤ r → is_same_at t f i first (first + 1) ≡ true → r ≤ run_end t f i n (first + 1) → share_at t f i r ≡ share_at t f i (first + 1)) → share_at t f i r ≡ share_at t f i first
    by true e more = elim (at_least first r least) [
      | inl is ↦ ap (share_at t f i) (sym is)
      | inr later ↦ more later e (subst (λ m. r ≤ m) (goes_on t f i n first e) most) ∙ same_share t f i first (first + 1) e
    ]
    by false e more =
        let stops : run_end t f i (suc n) first ≡ first = run_stops t f i (suc n) first e in
        let is : r ≡ first = omega (arith, least, most, stops) in
        ap (share_at t f i) is

-- ---- each level is in one

-- the run that begins at a level goes up to one above which it is worth the same, level by level
not_before : (t : DecisionTable) (f : Normalised) (i n r : ℕ) → r ≤ run_end t f i n r
not_before t f i zero r = omega arith
not_before t f i (suc n) r = by (is_same_at t f i r (r + 1)) refl (not_before t f i n (r + 1))
  where
    by : (b : Bool) → is_same_at t f i r (r + 1) ≡ b → r + 1 ≤ run_end t f i n (r + 1) → r ≤ run_end t f i (suc n) r
    by true e later = let on = goes_on t f i n r e in omega (arith, on, later)
    by false e later = let stops = run_stops t f i (suc n) r e in omega (arith, stops)

-- with one level more that is worth the same it reaches that
reaches : (t : DecisionTable) (f : Normalised) (i n first r : ℕ) → first ≤ r → r + 1 ≤ first + n → r ≤ run_end t f i n first → is_same_at t f i r (r + 1) ≡ true → r + 1 ≤ run_end t f i n first
reaches t f i zero first r least within upto same = absurd (omega (arith, least, within))
reaches t f i (suc n) first r least within upto same = by (is_same_at t f i first (first + 1)) refl (λ later more. reaches t f i n (first + 1) r later (omega (arith, within)) more same)
  where
    by : (b : Bool) → is_same_at t f i first (first + 1) ≡ b → (first + 1 ≤ r → r ≤ run_end t f i n (first + 1) → r + 1 ≤ run_end t f i n (first + 1)) → r + 1 ≤ run_end t f i (suc n) first
    by true e more =
        let on = goes_on t f i n first e in
        elim (at_least first r least) [
          | inl is ↦ (let far = not_before t f i n (first + 1) in omega (arith, is, on, far))
          | inr later ↦ (let rest = more later (subst (λ m. r ≤ m) on upto) in omega (arith, on, rest))
        ]
    by false e more =
        let stops : run_end t f i (suc n) first ≡ first = run_stops t f i (suc n) first e in
        let is : r ≡ first = omega (arith, least, upto, stops) in
        absurd (let wrong : is_same_at t f i first (first + 1) ≡ true = subst (λ k. is_same_at t f i k (k + 1) ≡ true) is same in cc)

each_level : (t : DecisionTable) (f : Normalised) (i r : ℕ) → r ≤ steps t i → (first : ℕ) × (first ≤ r) × (begins_run t f i first ≡ true) × (r ≤ last_of_run t f i first)
each_level t f i zero within = (0, omega arith, refl, omega arith)
each_level t f i (suc r) within = by (is_same_at t f i r (suc r)) refl (each_level t f i r (omega (arith, within)))
  where
    begins : is_same_at t f i r (suc r) ≡ false → begins_run t f i (suc r) ≡ true
    begins e =
        let some : (suc r == 0) ≡ false = false_from_ne_true (suc r == 0) (λ none. let wrong = eqb-true (suc r) 0 none in absurd (omega (arith, wrong))) in
        let below : suc r - 1 ≡ r = omega arith in
        rw some (subst (λ (k : ℕ). not (is_same_at t f i k (suc r)) ≡ true) (sym below) (ap not e))

    by : (b : Bool) → is_same_at t f i r (suc r) ≡ b → ((first : ℕ) × (first ≤ r) × (begins_run t f i first ≡ true) × (r ≤ last_of_run t f i first)) → (first : ℕ) × (first ≤ suc r) × (begins_run t f i first ≡ true) × (suc r ≤ last_of_run t f i first)
    by true e before =
        let next : suc r ≡ r + 1 = omega arith in
        let same : is_same_at t f i r (r + 1) ≡ true = subst (λ k. is_same_at t f i r k ≡ true) next e in
        let least = before.1 in
        let far = reaches t f i (steps t i - before.0) before.0 r before.1 (omega (arith, within, least)) before.3 same in
        (before.0, omega (arith, least), before.2, omega (arith, far))
    by false e before = (suc r, omega arith, begins e, not_before t f i (steps t i - suc r) (suc r))

pub each_level_stands : EachLevelStands
each_level_stands = record { each = each_level; same = λ t f i first r least most. run_same t f i (steps t i - first) first r least most }
