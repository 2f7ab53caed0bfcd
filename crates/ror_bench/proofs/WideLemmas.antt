-- Blocks of which something is too wide, and how many are counted.
use Rattle.std.proofs.Common.{◌≡◌, ℕ, ◌+◌, true, ◌||◌, List, [], ◌∷◌, refl, sym, ap, ◌∙◌, arith}
use Rattle.std.specs.Prelude.{nat_lt, cond}
use Rattle.std.specs.Bool.{beq}
use Rattle.std.specs.List.{list_any, sum_by, count_by}
use Rattle.ror_proof.specs.declared.answer.Answer.{Answer}
use Rattle.ror_check.specs.Proof.{is_wide}
use Rattle.ror_report.specs.declared.block.Block.{Block}
use Rattle.ror_report.specs.declared.block.Body.{Body}
use Rattle.ror_bench.specs.Blocks.{passed_of, is_wide_body, has_wide}
use Rattle.ror_bench.specs.Reports.{accepted_of}
use Rattle.ror_bench.proofs.ReportProofs.{sums}

pub some_of_either : (m n : ℕ) → nat_lt 0 (m + n) ≡ (nat_lt 0 m || nat_lt 0 n)
some_of_either m n = grind arith

one_wide : (x : Answer) → is_wide x.verdict ≡ nat_lt 0 (cond (beq (is_wide x.verdict) true) 1 0)
one_wide x = grind arith

pub wide_answers : (xs : List Answer) → list_any (λ x. is_wide x.verdict) xs ≡ nat_lt 0 (count_by (λ x. beq (is_wide x.verdict) true) xs)
wide_answers [] = refl
wide_answers (x ∷ xs) =
    let f : Answer → ℕ = λ x. cond (beq (is_wide x.verdict) true) 1 0 in
    ap (λ b. b || list_any (λ x. is_wide x.verdict) xs) (one_wide x) ∙ ap (λ b. nat_lt 0 (f x) || b) (wide_answers xs) ∙ sym (some_of_either (f x) (sum_by f xs)) ∙ ap (nat_lt 0) (sym (sums f x xs))

wide_body : (body : Body) → is_wide_body body ≡ nat_lt 0 (passed_of body).wide
wide_body body = grind (arith, wide_answers)

pub wide_blocks : (bs : List Block) → list_any has_wide bs ≡ nat_lt 0 (accepted_of bs).wide
wide_blocks [] = refl
wide_blocks (b ∷ bs) =
    let f : Block → ℕ = λ b. (passed_of b.body).wide in
    ap (λ x. x || list_any has_wide bs) (wide_body b.body) ∙ ap (λ x. nat_lt 0 (f b) || x) (wide_blocks bs) ∙ sym (some_of_either (f b) (sum_by f bs)) ∙ ap (nat_lt 0) (sym (sums f b bs))
