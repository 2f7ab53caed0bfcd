-- Lines that a check keeps are those of the session, in order.
use Rattle.std.proofs.Common.{◌≡◌, ℕ, zero, suc, ◌+◌, ◌≤◌, List, [], ◌∷◌, ◌++◌, length, drop, Option, Some, length-append, refl, sym, ap, subst, ◌∙◌, arith}
use Rattle.std.specs.Prelude.{slice_get}
use Rattle.std.specs.List.{AllByRecursion}
use Rattle.ror_text.proofs.Everywhere.{all-append}
use Rattle.ror_statement.specs.declared.statement.Numbered.{Numbered}
use Rattle.ror_session.specs.declared.session.Line.{Line}
use Rattle.ror_report.specs.declared.block.Block.{Block}
use Rattle.ror_bench.specs.Bench.{Workbench}
use Rattle.ror_bench.specs.Blocks.{IsProvedBlock}
use Rattle.ror_bench.specs.Reports.{revisions_then, EachHolds}
use Rattle.ror_bench.specs.declared.kept.Keep.{Keep}
use Rattle.ror_bench.specs.declared.kept.Keep.TheVariants as keeping
use Rattle.ror_bench.specs.declared.kept.KeptLine.{KeptLine}
use Rattle.ror_bench.specs.Kept.{keep_at, standing_for, kept_of, kept_at, kept_from}
use Rattle.ror_frame.specs.Inputs.{bench_for}
use Rattle.ror_show_pages.specs.ReadLines.{IsLineOf, PlacesRiseFrom, AreLinesOf, ReadsAreLines}

first_left : {X : Type 0} (n : ℕ) (xs : List X) (x : X) (ys : List X) → drop n xs ≡ x ∷ ys → (slice_get xs n ≡ Some x) × (drop (suc n) xs ≡ ys)
first_left zero [] x ys left = absurd cc
first_left zero (z ∷ zs) x ys left = (let same : z ≡ x = cc in ap Some same, cc)
first_left (suc n) [] x ys left = absurd cc
first_left (suc n) (z ∷ zs) x ys left = first_left n zs x ys left

one_line : (all : List Line) (place : ℕ) (how : Keep) (stood : Option (List Numbered)) (line : Line) (block : Block) → slice_get all place ≡ Some line → block.line ≡ line.number → AllByRecursion (IsLineOf all) (kept_of place how stood block)
one_line all place keeping.Nothing stood line block there number = tt
one_line all place keeping.Block stood line block there number = ((line, there, number), tt)
one_line all place keeping.Standing stood line block there number = ((line, there, number), tt)

rise_lower : (low high : ℕ) (xs : List KeptLine) → low ≤ high → PlacesRiseFrom high xs → PlacesRiseFrom low xs
rise_lower low high [] less rise = tt
rise_lower low high (x ∷ xs) less rise = (let least = rise.0 in omega (arith, least, less), rise.1)

one_rises : (place : ℕ) (how : Keep) (stood : Option (List Numbered)) (block : Block) (low : ℕ) (rest : List KeptLine) → low ≤ place → PlacesRiseFrom (place + 1) rest → PlacesRiseFrom low (kept_of place how stood block ++ rest)
one_rises place keeping.Nothing stood block low rest least rise = rise_lower low (place + 1) rest (omega (arith, least)) rise
one_rises place keeping.Block stood block low rest least rise = (least, rise)
one_rises place keeping.Standing stood block low rest least rise = (least, rise)

module _ (all : List Line) (bench : Workbench) (keep : List Keep) where
  each_line : (before : List (Line × Block)) (lines : List Line) (blocks : List Block) → drop (length before) all ≡ lines → EachHolds (IsProvedBlock bench.table) bench before lines blocks → AllByRecursion (IsLineOf all) (kept_from bench keep before lines blocks)
  each_line before [] [] left each = tt
  each_line before [] (block ∷ blocks) left each = absurd each
  each_line before (line ∷ lines) [] left each = absurd each
  each_line before (line ∷ lines) (block ∷ blocks) left each =
      let here = first_left (length before) all line lines left in
      let longer : length (before ++ (line, block) ∷ []) ≡ suc (length before) = length-append before ((line, block) ∷ []) ∙ omega arith in
      let next : drop (length (before ++ (line, block) ∷ [])) all ≡ lines = ap (λ (n : ℕ). drop n all) longer ∙ here.1 in
      let rest = each_line (before ++ (line, block) ∷ []) lines blocks next each.1 in
      let first = one_line all (length before) (keep_at keep (length before)) (standing_for (keep_at keep (length before)) (revisions_then bench before line.desk)) line block here.0 each.0.number in
      all-append (IsLineOf all) (kept_at bench keep before line block) (kept_from bench keep (before ++ (line, block) ∷ []) lines blocks) first rest

  each_rises : (low : ℕ) (before : List (Line × Block)) (lines : List Line) (blocks : List Block) → low ≤ length before → PlacesRiseFrom low (kept_from bench keep before lines blocks)
  each_rises low before [] [] least = tt
  each_rises low before [] (block ∷ blocks) least = tt
  each_rises low before (line ∷ lines) [] least = tt
  each_rises low before (line ∷ lines) (block ∷ blocks) least =
      let longer : length (before ++ (line, block) ∷ []) ≡ suc (length before) = length-append before ((line, block) ∷ []) ∙ omega arith in
      let rest = each_rises (length before + 1) (before ++ (line, block) ∷ []) lines blocks (omega (arith, longer)) in
      one_rises (length before) (keep_at keep (length before)) (standing_for (keep_at keep (length before)) (revisions_then bench before line.desk)) block low (kept_from bench keep (before ++ (line, block) ∷ []) lines blocks) least rest

pub reads_are_lines : ReadsAreLines
reads_are_lines keep i s bytes kept reads =
    let bench = bench_for i s in
    subst (AreLinesOf s.lines) (sym reads.chosen) (record {
      each = each_line s.lines bench keep [] s.lines reads.report.blocks refl reads.report.proved;
      rising = each_rises s.lines bench keep 0 [] s.lines reads.report.blocks (omega arith);
    })
