-- The first line, the last line and whole reports as texts.
use Rattle.std.proofs.Common.{◌≡◌, ℕ, ◌<◌, ◌^◌, true, not, eqb, List, [], ◌∷◌, ◌++◌, length, drop, Some, Ok, refl, sym, ap, subst, ◌∙◌, append_assoc, arith, inl, inr}
use Rattle.std.specs.Prelude.{codes, ◌↔◌, nat_eq}
use Rattle.std.specs.List.{flat_map, AllByRecursion, starts_with}
use Rattle.std.proofs.lemmas.Bool.{cases_Bool, eqb-true, cond-true, cond-false, not-false}
use Rattle.std.proofs.lemmas.List.{append-nil, append_cancel_left}
use Rattle.std.proofs.lemmas.Bool.Decides.{Decides-eqb}
use Rattle.std.proofs.lemmas.Slice.Eq.{starts_is}
use Rattle.ror_text.specs.Reading.{◌>>=◌, refuse}
use Rattle.ror_text.proofs.ReadingLemmas.{bind_ok, refuse_ok}
use Rattle.ror_table.specs.Table.{DecisionTable, IsTable}
use Rattle.ror_text.specs.Cursor.{Cursor}
use Rattle.ror_report.specs.declared.block.Block.{Block}
use Rattle.ror_proof.specs.declared.read.ProofFault.TheVariants.{BadLine}
use Rattle.ror_proof.proofs.WordLemmas.{done, ok_is}
use Rattle.ror_report.specs.Text.{numbered_text, block_text, header_text, end_text, report_text, IsPrintableBlock}
use Rattle.ror_report.specs.Reading.{numbered_line, ends_body, header_at, block_at, end_at}
use Rattle.ror_report.proofs.BlockLemmas.{block_reads_back}
use Rattle.ror_report.proofs.LineForms.{numbered_again, numbered_sound, ends_at_block, ends_at_end_text, block_begins, end_begins}

-- ---- the last line

no_bytes : (bytes : List ℕ) → length bytes ≡ 0 → bytes ≡ []
no_bytes [] e = refl
no_bytes (b ∷ bs) e = absurd (omega arith)

end_cut : (c : Cursor) (x : ℕ × Cursor) (n : ℕ) → numbered_line (codes "end") c ≡ Ok x → (refuse (BadLine x.1.place) (not (eqb (length x.1.rest) 0)) >>= λ _. done x.0) ≡ Ok n → (c.rest ≡ numbered_text (codes "end") n) × (n < 2 ^ 32)
end_cut c x n read e =
    let a = bind_ok (refuse (BadLine x.1.place) (not (eqb (length x.1.rest) 0))) (λ _. done x.0) n e in
    let empty : x.1.rest ≡ [] = no_bytes x.1.rest (eqb-true _ _ (not-false _ (refuse_ok _ _ a.0 a.1))) in
    let line = numbered_sound (codes "end") c x read in
    subst (λ m. (c.rest ≡ numbered_text (codes "end") m) × (m < 2 ^ 32)) (ok_is x.0 n a.2) (line.0.rest ∙ ap (λ (r : List ℕ). numbered_text (codes "end") x.0 ++ r) empty ∙ append-nil _, line.1)

pub end_is_text : (c : Cursor) (n : ℕ) → end_at c ≡ Ok n → (c.rest ≡ end_text n) × (n < 2 ^ 32)
unfolding end_at end_text
end_is_text c n e =
    let a = bind_ok (numbered_line (codes "end") c) (λ end. refuse (BadLine end.1.place) (not (eqb (length end.1.rest) 0)) >>= λ _. done end.0) n e in
    end_cut c a.0 n a.1 a.2

pub end_reads_back : (place n : ℕ) → n < 2 ^ 32 → end_at (record { place = place; rest = end_text n }) ≡ Ok n
unfolding end_at end_text
end_reads_back place n small =
    let whole : numbered_text (codes "end") n ++ [] ≡ numbered_text (codes "end") n = append-nil _ in
    let read = numbered_again (codes "end") place n [] refl small in
    ap (λ (r : List ℕ). end_at (record { place = place; rest = r })) (sym whole) ∙ (rw read refl)

pub end_is_read_iff_text : (c : Cursor) (n : ℕ) → (end_at c ≡ Ok n) ↔ ((c.rest ≡ end_text n) × (n < 2 ^ 32))
end_is_read_iff_text c n = (
  end_is_text c n,
  λ is. ap (λ (r : List ℕ). end_at (record { place = c.place; rest = r })) is.0 ∙ end_reads_back c.place n is.1,
)

-- ---- the first line

some_is : (x y : ℕ) → Some x ≡ Some y → x ≡ y
some_is x y e = cc

pub header_is_text : (bytes : List ℕ) (place : ℕ) → header_at bytes ≡ Some place → (place ≡ length header_text) × (bytes ≡ header_text ++ drop place bytes)
header_is_text bytes place e =
    elim (cases_Bool (starts_with nat_eq bytes header_text)) [
      | inl begins ↦
          let at : length header_text ≡ place = some_is _ _ (sym (cond-true _ _ _ begins) ∙ e) in
          (sym at, (starts_is Decides-eqb bytes header_text (starts_with nat_eq bytes header_text) refl).0 begins ∙ ap (λ n. header_text ++ drop n bytes) at)
      | inr other ↦ absurd (let none = sym (cond-false _ _ _ other) ∙ e in cc)
    ]

pub header_reads_back : (rest : List ℕ) → header_at (header_text ++ rest) ≡ Some (length header_text)
header_reads_back rest = cond-true _ _ _ ((starts_is Decides-eqb (header_text ++ rest) header_text (starts_with nat_eq (header_text ++ rest) header_text) refl).1 rest refl)

pub header_is_read_iff_text : (bytes : List ℕ) (place : ℕ) → (header_at bytes ≡ Some place) ↔ ((place ≡ length header_text) × (bytes ≡ header_text ++ drop place bytes))
header_is_read_iff_text bytes place = (
  header_is_text bytes place,
  λ is. ap header_at is.1 ∙ header_reads_back (drop place bytes) ∙ ap (λ n. Some n) (sym is.0),
)

-- ---- whole reports

-- behind each block stands what ends a body
pub ends_at_rest : (t : DecisionTable) (bs : List Block) (n : ℕ) → ends_body (flat_map (block_text t) bs ++ end_text n) ≡ true
ends_at_rest t [] n = ends_at_end_text n
ends_at_rest t (b ∷ bs) n = ap ends_body (append_assoc (block_text t b) (flat_map (block_text t) bs) (end_text n)) ∙ ends_at_block t b (flat_map (block_text t) bs ++ end_text n)

first_same : (a b : ℕ) (xs ys : List ℕ) → a ∷ xs ≡ b ∷ ys → a ≡ b
first_same a b xs ys e = cc

-- a last line is no block
end_no_block : (t : DecisionTable) (b : Block) (rest : List ℕ) (n : ℕ) → end_text n ≡ block_text t b ++ rest → ⊥
end_no_block t b rest n e =
    let x = block_begins t b in
    let y = end_begins n in
    let both : codes "end " ++ y.0 ≡ codes "line " ++ (x.0 ++ rest) = sym y.1 ∙ e ∙ ap (λ (l : List ℕ). l ++ rest) x.1 in
    absurd (omega (arith, first_same 101 108 (codes "nd " ++ y.0) (codes "ine " ++ (x.0 ++ rest)) both))

-- what follows the first line
blocks_again : (t : DecisionTable) (xs ys : List Block) (n m : ℕ) → IsTable t → AllByRecursion (IsPrintableBlock t) xs → AllByRecursion (IsPrintableBlock t) ys
    → flat_map (block_text t) xs ++ end_text n ≡ flat_map (block_text t) ys ++ end_text m → xs ≡ ys
blocks_again t [] [] n m table px py e = refl
blocks_again t [] (y ∷ ys) n m table px py e = absurd (end_no_block t y (flat_map (block_text t) ys ++ end_text m) n (e ∙ append_assoc (block_text t y) (flat_map (block_text t) ys) (end_text m)))
blocks_again t (x ∷ xs) [] n m table px py e = absurd (end_no_block t x (flat_map (block_text t) xs ++ end_text n) m (sym e ∙ append_assoc (block_text t x) (flat_map (block_text t) xs) (end_text n)))
blocks_again t (x ∷ xs) (y ∷ ys) n m table px py e =
    let of_x = block_reads_back t x 0 (flat_map (block_text t) xs ++ end_text n) table px.0 (ends_at_rest t xs n) in
    let of_y = block_reads_back t y 0 (flat_map (block_text t) ys ++ end_text m) table py.0 (ends_at_rest t ys m) in
    let same : block_text t x ++ (flat_map (block_text t) xs ++ end_text n) ≡ block_text t y ++ (flat_map (block_text t) ys ++ end_text m) =
    sym (append_assoc (block_text t x) (flat_map (block_text t) xs) (end_text n)) ∙ e ∙ append_assoc (block_text t y) (flat_map (block_text t) ys) (end_text m) in
    let read = ok_is _ _ (sym of_x ∙ ap (λ (r : List ℕ). block_at t (record { place = 0; rest = r })) same ∙ of_y) in
    let first : x ≡ y = ap (λ (r : Block × Cursor). r.0) read in
    let others : xs ≡ ys = blocks_again t xs ys n m table px.1 py.1 (ap (λ (r : Block × Cursor). r.1.rest) read) in
    cc

pub one_spelling : (t : DecisionTable) (xs ys : List Block) → IsTable t → AllByRecursion (IsPrintableBlock t) xs → AllByRecursion (IsPrintableBlock t) ys → report_text t xs ≡ report_text t ys → xs ≡ ys
one_spelling t xs ys table px py e = blocks_again t xs ys (length xs) (length ys) table px py (append_cancel_left header_text _ _ e)
