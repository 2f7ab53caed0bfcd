-- Reading one certificate after the other, as a loop does, and the rejection that a fault of form is.
use Rattle.std.proofs.Common.{◌≡◌, ℕ, suc, ◌+◌, true, false, List, [], ◌∷◌, ◌++◌, Option, Some, Result, Ok, Err, refl, sym, ap, subst, ◌∙◌, append_assoc}
use Rattle.std.specs.Prelude.{IfSome}
use Rattle.std.proofs.lemmas.List.{append-nil}
use Rattle.ror_text.specs.Cursor.{Cursor}
use Rattle.ror_text.specs.Reading.{◌>>=◌}
use Rattle.ror_text.proofs.ReadingLemmas.{gives_exit}
use Rattle.ror_table.specs.Table.{DecisionTable}
use Rattle.ror_proof.specs.declared.read.ProofFault.{ProofFault}
use Rattle.ror_proof.specs.declared.read.ProofFault.TheVariants as forms
use Rattle.ror_proof.specs.Reading.{proof_fault}
use Rattle.ror_proof.proofs.Loops.{after_front}
use Rattle.ror_report.specs.Reading.{begins_end}
use Rattle.ror_show_forms.specs.declared.certificate.Certificate.{Certificate}
use Rattle.ror_bench.specs.declared.report.Rejection.{Rejection}
use Rattle.ror_bench.specs.declared.report.ReportError.{ReportError}
use Rattle.ror_bench.specs.Reports.{HoldsNoMemory}
use Rattle.ror_bench.specs.Steps.{misread_error}
use Rattle.ror_show_forms.specs.Listing.{rejection_of, in_block, next_at, last_at, listed_at}

-- ---- faults of form

pub misread_there : {A : Type 0} (bytes : List ℕ) (block : ℕ) (fault : ProofFault) (reading : Result A ProofFault) → IfSome (proof_fault fault) (λ f. reading ≡ Err f) → IfSome (rejection_of (misread_error bytes block fault)) (λ r. in_block bytes block reading ≡ Err r)
misread_there {A} bytes block (forms.BadLine at) reading e = rw e refl
misread_there {A} bytes block (forms.BadNumber at) reading e = rw e refl
misread_there {A} bytes block forms.Memory reading e = tt

pub read_there : {A : Type 0} (bytes : List ℕ) (block : ℕ) (x : A) (reading : Result A ProofFault) → reading ≡ Ok x → in_block bytes block reading ≡ Ok x
read_there {A} bytes block x reading e = rw e refl

pub misread_pure : (bytes : List ℕ) (block : ℕ) (fault : ProofFault) → HoldsNoMemory (misread_error bytes block fault)
misread_pure bytes block (forms.BadLine at) = tt
misread_pure bytes block (forms.BadNumber at) = tt
misread_pure bytes block forms.Memory = tt

-- ---- the loop

after_more : (front : List Certificate) (x : Certificate) (reading : Result (List Certificate) Rejection) → after_front front (reading >>= λ more. Ok (x ∷ more)) ≡ after_front (front ++ x ∷ []) reading
after_more front x (Ok more) = ap (λ xs. Ok xs) (simp append_assoc)
after_more front x (Err f) = refl

-- a certificate, and then the others
abbrev pub certificate_then : DecisionTable → List ℕ → ℕ → ℕ → Option (ℕ × ℕ) → Cursor → Result (List Certificate) Rejection
certificate_then t bytes most block last c =
    next_at t bytes block last c >>= λ first. listed_at t bytes most (block + 1) (Some (first.0.line, first.0.place)) first.1 >>= λ others. Ok (first.0 ∷ others)

pub listed_step : (t : DecisionTable) (bytes : List ℕ) (most block : ℕ) (last : Option (ℕ × ℕ)) (c : Cursor) → begins_end c.rest ≡ false → listed_at t bytes (suc most) block last c ≡ certificate_then t bytes most block last c
unfolding listed_at
listed_step t bytes most block last c more = rw more refl

pub listed_last : (t : DecisionTable) (bytes : List ℕ) (most block : ℕ) (last : Option (ℕ × ℕ)) (c : Cursor) → begins_end c.rest ≡ true → listed_at t bytes (suc most) block last c ≡ (last_at bytes block c >>= λ _. Ok [])
unfolding listed_at
listed_last t bytes most block last c ends = rw ends refl

module _ (t : DecisionTable) (bytes : List ℕ) (most left block : ℕ) (last : Option (ℕ × ℕ)) (front : List Certificate) (c : Cursor) (whole : Result (List Certificate) Rejection) where
  so_far : most ≡ suc left → begins_end c.rest ≡ false → after_front front (listed_at t bytes most block last c) ≡ whole → after_front front (certificate_then t bytes left block last c) ≡ whole
  so_far is more read =
      ap (after_front front) (sym (listed_step t bytes left block last c more)) ∙ ap (λ n. after_front front (listed_at t bytes n block last c)) (sym is) ∙ read

  pub listed_go_on : (after : Cursor) (x : Certificate) → most ≡ suc left → begins_end c.rest ≡ false → next_at t bytes block last c ≡ Ok (x, after) → after_front front (listed_at t bytes most block last c) ≡ whole → after_front (front ++ x ∷ []) (listed_at t bytes left (block + 1) (Some (x.line, x.place)) after) ≡ whole
  listed_go_on after x is more one read =
      let step : after_front front (certificate_then t bytes left block last c) ≡ after_front (front ++ x ∷ []) (listed_at t bytes left (block + 1) (Some (x.line, x.place)) after) = rw one (after_more front x (listed_at t bytes left (block + 1) (Some (x.line, x.place)) after)) in
      sym step ∙ so_far is more read

  pub listed_exit : (e : ReportError) → most ≡ suc left → begins_end c.rest ≡ false → IfSome (rejection_of e) (λ r. next_at t bytes block last c ≡ Err r) → after_front front (listed_at t bytes most block last c) ≡ whole → IfSome (rejection_of e) (λ r. whole ≡ Err r)
  listed_exit e is more one read =
      let inner = gives_exit rejection_of e (next_at t bytes block last c) (λ first. listed_at t bytes left (block + 1) (Some (first.0.line, first.0.place)) first.1 >>= λ others. Ok (first.0 ∷ others)) one in
      let outer : IfSome (rejection_of e) (λ r. after_front front (certificate_then t bytes left block last c) ≡ Err r) = gives_exit rejection_of e (certificate_then t bytes left block last c) (λ xs. Ok (front ++ xs)) inner in
      subst (λ w. IfSome (rejection_of e) (λ r. w ≡ Err r)) (so_far is more read) outer

  to_last : most ≡ suc left → begins_end c.rest ≡ true → after_front front (listed_at t bytes most block last c) ≡ whole → after_front front (last_at bytes block c >>= λ _. Ok []) ≡ whole
  to_last is ends read =
      ap (after_front front) (sym (listed_last t bytes left block last c ends)) ∙ ap (λ n. after_front front (listed_at t bytes n block last c)) (sym is) ∙ read

  pub listed_end : most ≡ suc left → begins_end c.rest ≡ true → last_at bytes block c ≡ Ok tt → after_front front (listed_at t bytes most block last c) ≡ whole → whole ≡ Ok front
  listed_end is ends one read =
      let step : after_front front (last_at bytes block c >>= λ _. Ok []) ≡ Ok front = rw one (ap (λ xs. Ok xs) (append-nil front)) in
      sym (to_last is ends read) ∙ step

  pub listed_end_exit : (e : ReportError) → most ≡ suc left → begins_end c.rest ≡ true → IfSome (rejection_of e) (λ r. last_at bytes block c ≡ Err r) → after_front front (listed_at t bytes most block last c) ≡ whole → IfSome (rejection_of e) (λ r. whole ≡ Err r)
  listed_end_exit e is ends one read =
      let inner = gives_exit rejection_of e (last_at bytes block c) (λ _. Ok []) one in
      let outer : IfSome (rejection_of e) (λ r. after_front front (last_at bytes block c >>= λ _. Ok []) ≡ Err r) = gives_exit rejection_of e (last_at bytes block c >>= λ _. Ok []) (λ xs. Ok (front ++ xs)) inner in
      subst (λ w. IfSome (rejection_of e) (λ r. w ≡ Err r)) (to_last is ends read) outer
