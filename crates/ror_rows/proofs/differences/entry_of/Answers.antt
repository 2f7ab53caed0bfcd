use Rattle.std.proofs.Common.{ℤ, ◌-ℤ◌, FitsSigned, ap₂, rules}
use Rattle.std.specs.Int.{w64, w128}
use Rattle.std.proofs.lemmas.Int.{to_z-of_z}
use Rattle.ror_rows.proofs.FormLemmas.{widened, fits_difference, fits_entry, small_entry}
use Rattle.ror_rows.proofs.differences.entry_of.Goals as goal

pub overflow_sub-result : goal.overflow_sub-result
overflow_sub-result c =
    let f0 : FitsSigned w64 c.block_entry.result = search rules in
    let f1 : FitsSigned w64 c.block_entry-2.result = search rules in
    let f2 : FitsSigned w64 c.block_entry-3.result = search rules in
    let f3 : FitsSigned w64 c.block_entry-4.result = search rules in
    let g0 : FitsSigned w128 c.from.result = search rules in
    let g1 : FitsSigned w128 c.from-2.result = search rules in
    let g2 : FitsSigned w128 c.from-3.result = search rules in
    let g3 : FitsSigned w128 c.from-4.result = search rules in
    let e0 = widened c.block_entry.result c.from.result f0 g0 c.from.ensures in
    let e1 = widened c.block_entry-2.result c.from-2.result f1 g1 c.from-2.ensures in
    let e2 = widened c.block_entry-3.result c.from-3.result f2 g2 c.from-3.ensures in
    let e3 = widened c.block_entry-4.result c.from-4.result f3 g3 c.from-4.ensures in
    let s0 = c.block_entry.ensures.small in
    let s1 = c.block_entry-2.ensures.small in
    let s2 = c.block_entry-3.ensures.small in
    let s3 = c.block_entry-4.ensures.small in
    let first = to_z-of_z w128 _ (fits_difference c.block_entry.result c.block_entry-2.result s0 s1) in
    let second = to_z-of_z w128 _ (fits_difference c.block_entry-3.result c.block_entry-4.result s2 s3) in
    rw (e0, e1, e2, e3, first, second) (fits_entry c.block_entry.result c.block_entry-2.result c.block_entry-3.result c.block_entry-4.result s0 s1 s2 s3)

pub returns-clause-value : goal.returns-clause-value
returns-clause-value c =
    let f0 : FitsSigned w64 c.block_entry.result = search rules in
    let f1 : FitsSigned w64 c.block_entry-2.result = search rules in
    let f2 : FitsSigned w64 c.block_entry-3.result = search rules in
    let f3 : FitsSigned w64 c.block_entry-4.result = search rules in
    let g0 : FitsSigned w128 c.from.result = search rules in
    let g1 : FitsSigned w128 c.from-2.result = search rules in
    let g2 : FitsSigned w128 c.from-3.result = search rules in
    let g3 : FitsSigned w128 c.from-4.result = search rules in
    let e0 = widened c.block_entry.result c.from.result f0 g0 c.from.ensures in
    let e1 = widened c.block_entry-2.result c.from-2.result f1 g1 c.from-2.ensures in
    let e2 = widened c.block_entry-3.result c.from-3.result f2 g2 c.from-3.ensures in
    let e3 = widened c.block_entry-4.result c.from-4.result f3 g3 c.from-4.ensures in
    let s0 = c.block_entry.ensures.small in
    let s1 = c.block_entry-2.ensures.small in
    let s2 = c.block_entry-3.ensures.small in
    let s3 = c.block_entry-4.ensures.small in
    let first = to_z-of_z w128 _ (fits_difference c.block_entry.result c.block_entry-2.result s0 s1) in
    let second = to_z-of_z w128 _ (fits_difference c.block_entry-3.result c.block_entry-4.result s2 s3) in
    let whole = to_z-of_z w128 _ (fits_entry c.block_entry.result c.block_entry-2.result c.block_entry-3.result c.block_entry-4.result s0 s1 s2 s3) in
    rw (e0, e1, e2, e3, first, second, whole) (ap₂ (λ (x y : ℤ). x -ℤ y) (ap₂ (λ (x y : ℤ). x -ℤ y) c.block_entry.ensures.value c.block_entry-2.ensures.value) (ap₂ (λ (x y : ℤ). x -ℤ y) c.block_entry-3.ensures.value c.block_entry-4.ensures.value))

pub returns-clause-narrow : goal.returns-clause-narrow
returns-clause-narrow c =
    let f0 : FitsSigned w64 c.block_entry.result = search rules in
    let f1 : FitsSigned w64 c.block_entry-2.result = search rules in
    let f2 : FitsSigned w64 c.block_entry-3.result = search rules in
    let f3 : FitsSigned w64 c.block_entry-4.result = search rules in
    let g0 : FitsSigned w128 c.from.result = search rules in
    let g1 : FitsSigned w128 c.from-2.result = search rules in
    let g2 : FitsSigned w128 c.from-3.result = search rules in
    let g3 : FitsSigned w128 c.from-4.result = search rules in
    let e0 = widened c.block_entry.result c.from.result f0 g0 c.from.ensures in
    let e1 = widened c.block_entry-2.result c.from-2.result f1 g1 c.from-2.ensures in
    let e2 = widened c.block_entry-3.result c.from-3.result f2 g2 c.from-3.ensures in
    let e3 = widened c.block_entry-4.result c.from-4.result f3 g3 c.from-4.ensures in
    let s0 = c.block_entry.ensures.small in
    let s1 = c.block_entry-2.ensures.small in
    let s2 = c.block_entry-3.ensures.small in
    let s3 = c.block_entry-4.ensures.small in
    let first = to_z-of_z w128 _ (fits_difference c.block_entry.result c.block_entry-2.result s0 s1) in
    let second = to_z-of_z w128 _ (fits_difference c.block_entry-3.result c.block_entry-4.result s2 s3) in
    let whole = to_z-of_z w128 _ (fits_entry c.block_entry.result c.block_entry-2.result c.block_entry-3.result c.block_entry-4.result s0 s1 s2 s3) in
    rw (e0, e1, e2, e3, first, second, whole) (small_entry c.block_entry.result c.block_entry-2.result c.block_entry-3.result c.block_entry-4.result s0 s1 s2 s3)
