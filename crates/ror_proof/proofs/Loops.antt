-- Reading one after the other, as a loop does.
use Rattle.std.proofs.Common.{◌≡◌, ℕ, zero, suc, ◌<◌, true, false, List, [], ◌∷◌, ◌++◌, length, Result, Ok, Err, refl, sym, ap, subst, ◌∙◌, append_assoc, arith, ℤ}
use Rattle.std.specs.Prelude.{IfSome, codes}
use Rattle.std.specs.Str.{bytes_eq}
use Rattle.std.proofs.lemmas.List.{append-nil}
use Rattle.ror_text.specs.Numbers.{number_of}
use Rattle.ror_text.specs.Reading.{◌>>=◌}
use Rattle.ror_text.proofs.ReadingLemmas.{gives_exit}
use Rattle.ror_proof.specs.declared.read.ProofFault.{ProofFault}
use Rattle.ror_proof.specs.declared.read.ProofFault.TheVariants.{BadLine}
use Rattle.ror_text.specs.Cursor.{Cursor}
use Rattle.ror_proof.specs.Words.{number_in, all_at, numbers_before_bar}
use Rattle.ror_proof.specs.Reading.{proof_fault, begins_part, part_line, part_lines, dropped_line, dropped_lines}

-- what was read before, and what is still read
abbrev pub after_front : {X F : Type 0} → List X → Result (List X) F → Result (List X) F
after_front front reading = reading >>= λ more. Ok (front ++ more)

-- the same, where something follows
abbrev pub with_front : {X Y F : Type 0} → List X → Result (List X × Y) F → Result (List X × Y) F
with_front front reading = reading >>= λ x. Ok (front ++ x.0, x.1)

after_more : {X F : Type 0} (front : List X) (x : X) (reading : Result (List X) F) → after_front front (reading >>= λ more. Ok (x ∷ more)) ≡ after_front (front ++ x ∷ []) reading
after_more front x (Ok more) = ap (λ xs. Ok xs) (simp append_assoc)
after_more front x (Err f) = refl

pub with_more : {X Y F : Type 0} (front : List X) (x : X) (reading : Result (List X × Y) F) → with_front front (reading >>= λ y. Ok (x ∷ y.0, y.1)) ≡ with_front (front ++ x ∷ []) reading
with_more front x (Ok y) = ap (λ xs. Ok (xs, y.1)) (simp append_assoc)
with_more front x (Err f) = refl

pub after_nil : {X F : Type 0} (reading : Result (List X) F) → after_front [] reading ≡ reading
after_nil (Ok more) = refl
after_nil (Err f) = refl

pub with_nil : {X Y F : Type 0} (reading : Result (List X × Y) F) → with_front [] reading ≡ reading
with_nil (Ok y) = refl
with_nil (Err f) = refl

-- ---- what all words up to the end of a line say

pub all_go_on : {X : Type 0} (read : List ℕ → Result X ProofFault) (front : List X) (words : List (List ℕ)) (word : List ℕ) (more : List (List ℕ)) (x : X) (whole : Result (List X) ProofFault)
    → words ≡ word ∷ more → read word ≡ Ok x → after_front front (all_at read words) ≡ whole → after_front (front ++ x ∷ []) (all_at read more) ≡ whole
unfolding all_at
all_go_on read front words word more x whole is one so_far =
    let step : after_front front (all_at read (word ∷ more)) ≡ after_front (front ++ x ∷ []) (all_at read more) = rw one (after_more front x (all_at read more)) in
    sym step ∙ ap (λ ws. after_front front (all_at read ws)) (sym is) ∙ so_far

pub all_exit : {X : Type 0} (read : List ℕ → Result X ProofFault) (front : List X) (words : List (List ℕ)) (word : List ℕ) (more : List (List ℕ)) (e : ProofFault) (whole : Result (List X) ProofFault)
    → words ≡ word ∷ more → IfSome (proof_fault e) (λ f. read word ≡ Err f) → after_front front (all_at read words) ≡ whole → IfSome (proof_fault e) (λ f. whole ≡ Err f)
unfolding all_at
all_exit read front words word more e whole is one so_far =
    let inner = gives_exit proof_fault e (read word) (λ first. all_at read more >>= λ others. Ok (first ∷ others)) one in
    let outer : IfSome (proof_fault e) (λ f. after_front front (all_at read (word ∷ more)) ≡ Err f) = gives_exit proof_fault e (all_at read (word ∷ more)) (λ xs. Ok (front ++ xs)) inner in
    subst (λ r. IfSome (proof_fault e) (λ f. r ≡ Err f)) (ap (λ ws. after_front front (all_at read ws)) (sym is) ∙ so_far) outer

pub all_end : {X : Type 0} (read : List ℕ → Result X ProofFault) (front : List X) (words : List (List ℕ)) (whole : Result (List X) ProofFault) → words ≡ [] → after_front front (all_at read words) ≡ whole → whole ≡ Ok front
unfolding all_at
all_end read front words whole is so_far =
    let last : after_front front (all_at read []) ≡ Ok front = ap (λ xs. Ok xs) (append-nil front) in
    sym so_far ∙ ap (λ ws. after_front front (all_at read ws)) is ∙ last

-- ---- the numbers up to the bar

-- a word other than the bar has to be a number
before_bar_step : (place : ℕ) (word : List ℕ) (more : List (List ℕ)) → bytes_eq word (codes "|") ≡ false
    → numbers_before_bar place (word ∷ more) ≡ (number_in number_of place word >>= λ first. numbers_before_bar place more >>= λ others. Ok (first ∷ others.0, others.1))
unfolding numbers_before_bar
before_bar_step place word more other = rw other refl

pub before_bar_go_on : (place : ℕ) (front : List ℤ) (words : List (List ℕ)) (word : List ℕ) (more : List (List ℕ)) (z : ℤ) (whole : Result (List ℤ × List (List ℕ)) ProofFault)
    → words ≡ word ∷ more → bytes_eq word (codes "|") ≡ false → number_in number_of place word ≡ Ok z → with_front front (numbers_before_bar place words) ≡ whole → with_front (front ++ z ∷ []) (numbers_before_bar place more) ≡ whole
before_bar_go_on place front words word more z whole is other one so_far =
    let step : with_front front (numbers_before_bar place (word ∷ more)) ≡ with_front (front ++ z ∷ []) (numbers_before_bar place more) = ap (with_front front) (before_bar_step place word more other) ∙ (rw one (with_more front z (numbers_before_bar place more))) in
    sym step ∙ ap (λ ws. with_front front (numbers_before_bar place ws)) (sym is) ∙ so_far

pub before_bar_exit : (place : ℕ) (front : List ℤ) (words : List (List ℕ)) (word : List ℕ) (more : List (List ℕ)) (e : ProofFault) (whole : Result (List ℤ × List (List ℕ)) ProofFault)
    → words ≡ word ∷ more → bytes_eq word (codes "|") ≡ false → IfSome (proof_fault e) (λ f. number_in number_of place word ≡ Err f) → with_front front (numbers_before_bar place words) ≡ whole → IfSome (proof_fault e) (λ f. whole ≡ Err f)
before_bar_exit place front words word more e whole is other one so_far =
    let inner = gives_exit proof_fault e (number_in number_of place word) (λ first. numbers_before_bar place more >>= λ others. Ok (first ∷ others.0, others.1)) one in
    let same : IfSome (proof_fault e) (λ f. numbers_before_bar place (word ∷ more) ≡ Err f) = subst (λ r. IfSome (proof_fault e) (λ f. r ≡ Err f)) (sym (before_bar_step place word more other)) inner in
    let outer : IfSome (proof_fault e) (λ f. with_front front (numbers_before_bar place (word ∷ more)) ≡ Err f) = gives_exit proof_fault e (numbers_before_bar place (word ∷ more)) (λ x. Ok (front ++ x.0, x.1)) same in
    subst (λ r. IfSome (proof_fault e) (λ f. r ≡ Err f)) (ap (λ ws. with_front front (numbers_before_bar place ws)) (sym is) ∙ so_far) outer

pub before_bar_at_bar : (place : ℕ) (front : List ℤ) (words : List (List ℕ)) (word : List ℕ) (more : List (List ℕ)) (whole : Result (List ℤ × List (List ℕ)) ProofFault)
    → words ≡ word ∷ more → bytes_eq word (codes "|") ≡ true → with_front front (numbers_before_bar place words) ≡ whole → whole ≡ Ok (front, more)
unfolding numbers_before_bar
before_bar_at_bar place front words word more whole is bar so_far =
    let last : with_front front (numbers_before_bar place (word ∷ more)) ≡ Ok (front, more) = rw bar (ap (λ xs. Ok (xs, more)) (append-nil front)) in
    sym so_far ∙ ap (λ ws. with_front front (numbers_before_bar place ws)) is ∙ last

pub before_bar_end : (place : ℕ) (front : List ℤ) (words : List (List ℕ)) (whole : Result (List ℤ × List (List ℕ)) ProofFault) → words ≡ [] → with_front front (numbers_before_bar place words) ≡ whole → whole ≡ Err (BadLine place)
unfolding numbers_before_bar
before_bar_end place front words whole is so_far = sym so_far ∙ ap (λ ws. with_front front (numbers_before_bar place ws)) is

-- ---- lines, one value of each

-- what the first line says, and then what the lines after it say
abbrev pub line_then : {X F : Type 0} → Result (X × Cursor) F → (Cursor → Result (List X × Cursor) F) → Result (List X × Cursor) F
line_then line others = line >>= λ first. others first.1 >>= λ more. Ok (first.0 ∷ more.0, more.1)

-- what is read of so many lines, or of so many at most, where one more of them is read
lines_so_far : {X : Type 0} (lines : ℕ → Cursor → Result (List X × Cursor) ProofFault) (line : Result (X × Cursor) ProofFault) (most left : ℕ) (front : List X) (c : Cursor) (whole : Result (List X × Cursor) ProofFault)
    → most ≡ suc left → lines (suc left) c ≡ line_then line (lines left) → with_front front (lines most c) ≡ whole → with_front front (line_then line (lines left)) ≡ whole
lines_so_far lines line most left front c whole is step so_far = ap (with_front front) (sym step) ∙ ap (λ n. with_front front (lines n c)) (sym is) ∙ so_far

pub lines_go_on : {X : Type 0} (lines : ℕ → Cursor → Result (List X × Cursor) ProofFault) (line : Result (X × Cursor) ProofFault) (most left : ℕ) (front : List X) (c after : Cursor) (x : X) (whole : Result (List X × Cursor) ProofFault)
    → most ≡ suc left → lines (suc left) c ≡ line_then line (lines left) → line ≡ Ok (x, after) → with_front front (lines most c) ≡ whole → with_front (front ++ x ∷ []) (lines left after) ≡ whole
lines_go_on lines line most left front c after x whole is step one so_far =
    let next : with_front front (line_then line (lines left)) ≡ with_front (front ++ x ∷ []) (lines left after) = rw one (with_more front x (lines left after)) in
    sym next ∙ lines_so_far lines line most left front c whole is step so_far

pub lines_exit : {X : Type 0} (lines : ℕ → Cursor → Result (List X × Cursor) ProofFault) (line : Result (X × Cursor) ProofFault) (most left : ℕ) (front : List X) (c : Cursor) (e : ProofFault) (whole : Result (List X × Cursor) ProofFault)
    → most ≡ suc left → lines (suc left) c ≡ line_then line (lines left) → IfSome (proof_fault e) (λ f. line ≡ Err f) → with_front front (lines most c) ≡ whole → IfSome (proof_fault e) (λ f. whole ≡ Err f)
lines_exit lines line most left front c e whole is step one so_far =
    let inner = gives_exit proof_fault e line (λ first. lines left first.1 >>= λ more. Ok (first.0 ∷ more.0, more.1)) one in
    let outer : IfSome (proof_fault e) (λ f. with_front front (line_then line (lines left)) ≡ Err f) = gives_exit proof_fault e (line_then line (lines left)) (λ x. Ok (front ++ x.0, x.1)) inner in
    subst (λ r. IfSome (proof_fault e) (λ f. r ≡ Err f)) (lines_so_far lines line most left front c whole is step so_far) outer

-- and where none is
pub lines_end : {X : Type 0} (reading : Result (List X × Cursor) ProofFault) (front : List X) (c : Cursor) (whole : Result (List X × Cursor) ProofFault) → reading ≡ Ok ([], c) → with_front front reading ≡ whole → whole ≡ Ok (front, c)
lines_end reading front c whole none so_far = sym so_far ∙ ap (with_front front) none ∙ ap (λ xs. Ok (xs, c)) (append-nil front)

-- ---- the lines of dropped statements

pub dropped_step : (count : ℕ) (c : Cursor) → dropped_lines (suc count) c ≡ line_then (dropped_line c) (dropped_lines count)
unfolding dropped_lines
dropped_step count c = refl

pub no_dropped : (c : Cursor) → dropped_lines zero c ≡ Ok ([], c)
unfolding dropped_lines
no_dropped c = refl

-- ---- the lines of the parts

pub part_step : (most : ℕ) (c : Cursor) → begins_part c.rest ≡ true → part_lines (suc most) c ≡ line_then (part_line c) (part_lines most)
unfolding part_lines
part_step most c begins = rw begins refl

pub no_parts : (most : ℕ) (c : Cursor) → begins_part c.rest ≡ false → part_lines most c ≡ Ok ([], c)
unfolding part_lines
no_parts zero c none = refl
no_parts (suc most) c none = rw none refl

-- a part begins with a byte
pub begins_some : (bytes : List ℕ) → begins_part bytes ≡ true → 0 < length bytes
begins_some [] begins = absurd cc
begins_some (b ∷ bs) begins = omega arith
