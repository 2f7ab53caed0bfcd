-- One turn of a loop, and what the turns of a reader bring together.
use Rattle.std.proofs.Common.{◌≡◌, ℕ, suc, ◌+◌, ◌-◌, ◌<◌, List, [], ◌∷◌, ◌++◌, Result, Ok, Err, sym, ap, subst, ◌∙◌, arith, append_assoc}
use Rattle.std.specs.Prelude.{Option, IfSome}
use Rattle.std.specs.List.{flat_map, range_with_len}
use Rattle.std.proofs.lemmas.List.{append-nil}
use Rattle.ror_text.specs.Reading.{◌>>=◌, read_all}
use Rattle.ror_text.proofs.ReadingLemmas.{bind_ok, gives_exit}

-- a number, and those behind it
pub range-at : (k n : ℕ) → k < n → range_with_len k (n - k) ≡ k ∷ range_with_len (k + 1) (n - (k + 1))
range-at k n h =
    let e : n - k ≡ suc (n - (k + 1)) = omega arith in
    ap (range_with_len k) e

-- ---- a reader over numbers

pub range_on : {S F : Type 0} (step : S → ℕ → Result S F) (s next : S) (k n : ℕ) (all : Result S F) → k < n → step s k ≡ Ok next → read_all step s (range_with_len k (n - k)) ≡ all → read_all step next (range_with_len (k + 1) (n - (k + 1))) ≡ all
range_on step s next k n all less read so_far =
    sym (ap (read_all step s) (range-at k n less) ∙ ap (λ r. r >>= (λ more. read_all step more (range_with_len (k + 1) (n - (k + 1))))) read) ∙ so_far

pub range_exit : {S E F : Type 0} (fault_of : E → Option F) (step : S → ℕ → Result S F) (s : S) (k n : ℕ) (all : Result S F) (e : E) → k < n → read_all step s (range_with_len k (n - k)) ≡ all → IfSome (fault_of e) (λ g. step s k ≡ Err g) → IfSome (fault_of e) (λ g. all ≡ Err g)
range_exit fault_of step s k n all e less so_far h =
    let split = ap (read_all step s) (range-at k n less) in
    subst (λ r. IfSome (fault_of e) (λ g. r ≡ Err g)) (sym split ∙ so_far) (gives_exit fault_of e (step s k) (λ more. read_all step more (range_with_len (k + 1) (n - (k + 1)))) h)

pub ok_same : {A F : Type 0} (x y : A) → ◌≡◌ {A = Result A F} (Ok x) (Ok y) → x ≡ y
ok_same x y e = cc

-- ---- texts

-- one piece more
pub piece_on : (f : ℕ → List ℕ) (k n : ℕ) (text more goal : List ℕ) → k < n → more ≡ text ++ f k → text ++ flat_map f (range_with_len k (n - k)) ≡ goal → more ++ flat_map f (range_with_len (k + 1) (n - (k + 1))) ≡ goal
piece_on f k n text more goal less pushed so_far =
    ap (λ (t : List ℕ). t ++ flat_map f (range_with_len (k + 1) (n - (k + 1)))) pushed
    ∙ append_assoc text (f k) (flat_map f (range_with_len (k + 1) (n - (k + 1))))
    ∙ sym (ap (λ (ks : List ℕ). text ++ flat_map f ks) (range-at k n less)) ∙ so_far

-- ---- what the steps of a reader bring together

pub brings : {S L F : Type 0} (P : List L → S → Type 0) (step : S → L → Result S F) → ((before : List L) (s : S) (x : L) (next : S) → P before s → step s x ≡ Ok next → P (before ++ x ∷ []) next)
    → (before : List L) (s : S) (xs : List L) (last : S) → P before s → read_all step s xs ≡ Ok last → P (before ++ xs) last
brings P step each before s [] last h e = let same : s ≡ last = cc in subst (P (before ++ [])) same (rw (append-nil before) h)
brings P step each before s (x ∷ xs) last h e =
    let b = bind_ok (step s x) (λ next. read_all step next xs) last e in
    subst (λ l. P l last) (append_assoc before (x ∷ []) xs) (brings P step each (before ++ x ∷ []) b.0 xs last (each before s x b.0 h b.1) b.2)

pub brings_all : {S L F : Type 0} (P : S → Type 0) (step : S → L → Result S F) → ((s : S) (x : L) (next : S) → P s → step s x ≡ Ok next → P next) → (s : S) (xs : List L) (last : S) → P s → read_all step s xs ≡ Ok last → P last
brings_all P step each s [] last h e = let same : s ≡ last = cc in subst P same h
brings_all P step each s (x ∷ xs) last h e =
    let b = bind_ok (step s x) (λ next. read_all step next xs) last e in
    brings_all P step each b.0 xs last (each s x b.0 h b.1) b.2
