-- Runs of lines, one line more.
use Rattle.std.proofs.Common.{◌≡◌, ℕ, zero, suc, ◌+◌, ◌-◌, ◌<◌, ◌++◌, Bool, true, false, List, [], ◌∷◌, refl, sym, ap, ◌∙◌, arith, append_assoc}
use Rattle.std.specs.Prelude.{if◌then◌else◌}
use Rattle.std.specs.List.{range_with_len}
use Rattle.std.proofs.lemmas.List.{append-nil}
use Rattle.ror_show_find_classes.specs.Times.{run, goes_on, if_asked}

-- what is left of the numbers from one on, before the end
pub left_of : (n end : ℕ) → n < end → range_with_len n (end - n) ≡ n ∷ range_with_len (n + 1) (end - (n + 1))
left_of n end below = by (end - n) refl
  where
    by : (k : ℕ) → end - n ≡ k → range_with_len n k ≡ n ∷ range_with_len (n + 1) (end - (n + 1))
    by zero is = absurd (omega arith)
    by (suc k) is = let rest : k ≡ end - (n + 1) = omega arith in ap (λ (i : ℕ). n ∷ range_with_len (n + 1) i) rest

-- a number of the second kind ends the run
pub run_ends : (asks revises : ℕ → Bool) (n end : ℕ) (all made : List ℕ) → n < end → revises n ≡ true → all ≡ made ++ run asks revises (range_with_len n (end - n)) → all ≡ made ++ []
run_ends asks revises n end all made below is so_far =
    so_far ∙ ap (λ (ns : List ℕ). made ++ run asks revises ns) (left_of n end below)
    ∙ ap (λ (b : Bool). made ++ (if b then [] else (if asks n then n ∷ run asks revises (range_with_len (n + 1) (end - (n + 1))) else run asks revises (range_with_len (n + 1) (end - (n + 1)))))) is

-- one of the first kind is in it
pub run_takes : (asks revises : ℕ → Bool) (n end : ℕ) (all made more : List ℕ) → n < end → revises n ≡ false → asks n ≡ true → more ≡ made ++ n ∷ [] → all ≡ made ++ run asks revises (range_with_len n (end - n)) → all ≡ more ++ run asks revises (range_with_len (n + 1) (end - (n + 1)))
run_takes asks revises n end all made more below no_change is pushed so_far =
    let rest = run asks revises (range_with_len (n + 1) (end - (n + 1))) in
    so_far ∙ ap (λ (ns : List ℕ). made ++ run asks revises ns) (left_of n end below)
    ∙ ap (λ (b : Bool). made ++ (if b then [] else (if asks n then n ∷ run asks revises (range_with_len (n + 1) (end - (n + 1))) else run asks revises (range_with_len (n + 1) (end - (n + 1)))))) no_change
    ∙ ap (λ (b : Bool). made ++ (if b then n ∷ run asks revises (range_with_len (n + 1) (end - (n + 1))) else run asks revises (range_with_len (n + 1) (end - (n + 1))))) is
    ∙ sym (append_assoc made (n ∷ []) rest) ∙ ap (λ (ns : List ℕ). ns ++ rest) (sym pushed)

-- another is passed over
pub run_passes : (asks revises : ℕ → Bool) (n end : ℕ) (all made : List ℕ) → n < end → revises n ≡ false → asks n ≡ false → all ≡ made ++ run asks revises (range_with_len n (end - n)) → all ≡ made ++ run asks revises (range_with_len (n + 1) (end - (n + 1)))
run_passes asks revises n end all made below no_change is so_far =
    so_far ∙ ap (λ (ns : List ℕ). made ++ run asks revises ns) (left_of n end below)
    ∙ ap (λ (b : Bool). made ++ (if b then [] else (if asks n then n ∷ run asks revises (range_with_len (n + 1) (end - (n + 1))) else run asks revises (range_with_len (n + 1) (end - (n + 1)))))) no_change
    ∙ ap (λ (b : Bool). made ++ (if b then n ∷ run asks revises (range_with_len (n + 1) (end - (n + 1))) else run asks revises (range_with_len (n + 1) (end - (n + 1))))) is

-- either, by what is added
pub run_more : (asks revises : ℕ → Bool) (n end : ℕ) (all made more : List ℕ) → n < end → revises n ≡ false → more ≡ made ++ if_asked asks n → all ≡ made ++ run asks revises (range_with_len n (end - n)) → all ≡ more ++ run asks revises (range_with_len (n + 1) (end - (n + 1)))
run_more asks revises n end all made more below no_change pushed so_far = by (asks n) refl pushed
  where
    by : (t : Bool) → asks n ≡ t → more ≡ made ++ (if t then n ∷ [] else []) → all ≡ more ++ run asks revises (range_with_len (n + 1) (end - (n + 1)))
    by true is pushed = run_takes asks revises n end all made more below no_change is pushed so_far
    by false is pushed =
        run_passes asks revises n end all made below no_change is so_far
        ∙ ap (λ (ns : List ℕ). ns ++ run asks revises (range_with_len (n + 1) (end - (n + 1)))) (sym (pushed ∙ append-nil made))

-- a number of neither kind is passed over
pub goes_step : (asks revises : ℕ → Bool) (n k : ℕ) → n ≡ suc k → revises k ≡ false → asks k ≡ false → goes_on asks revises n ≡ goes_on asks revises k
goes_step asks revises n k is no_change no_answer =
    ap (goes_on asks revises) is
    ∙ ap (λ (t : Bool). if t then false else (if asks k then true else goes_on asks revises k)) no_change
    ∙ ap (λ (t : Bool). if t then true else goes_on asks revises k) no_answer
