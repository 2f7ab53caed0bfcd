-- The rows of a time are those of kept lines.
use Rattle.std.proofs.Common.{◌≡◌, ℕ, ◌<◌, List, [], ◌∷◌, length, Option, Some, None, refl, sym, ap, subst, ◌∙◌}
use Rattle.std.specs.Prelude.{slice_get}
use Rattle.std.specs.List.{AllByRecursion}
use Rattle.std.specs.Option.{option_map_or}
use Rattle.std.proofs.lemmas.Option.{slice_get_within}
use Rattle.ror_text.proofs.Everywhere.{all-by, all-pieces, all_at}
use Rattle.ror_report.specs.Text.{answers_of}
use Rattle.ror_bench.specs.declared.kept.KeptLine.{KeptLine}
use Rattle.ror_show_ground.specs.Grounds.{Ground}
use Rattle.ror_show_ground.specs.Lines.{desk_of}
use Rattle.ror_show_find_classes.specs.Signs.{alternative_of}
use Rattle.ror_show_find_classes.specs.Rows.{in_order}
use Rattle.ror_show_find_classes.specs.Times.{rows}
use Rattle.ror_show_find_classes.specs.Values.{interval_of}
use Rattle.ror_show_find_classes.specs.declared.findings.ClassLine.{ClassLine}
use Rattle.ror_show_find_classes.specs.declared.findings.TimeFound.{TimeFound}
use Rattle.ror_show_find_classes.specs.Findings.{signs_of, class_line, one_line, class_line_at, class_lines_at, time_of, IsTimeFound}
use Rattle.ror_show_find_reasons.specs.Bounds.{IsRowWithin}

pub place_of : (classes n : ℕ) (x : KeptLine) → (class_line classes n x).place ≡ n
unfolding class_line
place_of classes n x = refl

pub signs_are : (classes n : ℕ) (x : KeptLine) → (class_line classes n x).signs ≡ signs_of classes (answers_of x.block.body)
unfolding class_line
signs_are classes n x = refl

pub alternative_is : (classes n : ℕ) (x : KeptLine) → (class_line classes n x).row.alternative ≡ alternative_of (answers_of x.block.body)
unfolding class_line interval_of
alternative_is classes n x = refl

rows_of : (g : Ground) (n desk : ℕ) (ns : List ℕ) → (time_of g n desk ns).rows ≡ class_lines_at g (in_order g.table g.kept ns)
unfolding time_of
rows_of g n desk ns = refl

-- it is that of a kept line at a place
pub record IsRowAt (g : Ground) (row : ClassLine) : Type 0 where
  pub at : ℕ
  pub line : KeptLine
  pub there : slice_get g.kept at ≡ Some line
  pub is : row ≡ class_line g.table.classes at line

row_at : (g : Ground) (n : ℕ) → AllByRecursion (IsRowAt g) (class_line_at g n)
row_at g n = by (slice_get g.kept n) refl
  where
    by : (o : Option KeptLine) → slice_get g.kept n ≡ o → AllByRecursion (IsRowAt g) (option_map_or (one_line g n) o [])
    by (Some x) there = (record { at = n; line = x; there = there; is = refl }, tt)
    by None there = tt

of_all : {X : Type 0} (P : X → Type 0) (xs : List X) → ((x : X) → P x) → AllByRecursion P xs
of_all P [] each = tt
of_all P (x ∷ xs) each = (each x, of_all P xs each)

rows_at : (g : Ground) (ns : List ℕ) → AllByRecursion (IsRowAt g) (class_lines_at g ns)
rows_at g ns = all-pieces (IsRowAt g) (class_line_at g) ns (of_all (λ n. AllByRecursion (IsRowAt g) (class_line_at g n)) ns (row_at g))

pub rows_are : (g : Ground) (n : ℕ) (time : TimeFound) → IsTimeFound g n time → AllByRecursion (IsRowAt g) time.rows
rows_are g n time is =
    let places = rows g.session g.kept n (desk_of g.session is.0) in
    let are : time.rows ≡ class_lines_at g (in_order g.table g.kept (rows g.session g.kept n (desk_of g.session is.0))) = ap (λ (f : TimeFound). f.rows) is.2 ∙ rows_of g n (desk_of g.session is.0) places in
    subst (AllByRecursion (IsRowAt g)) (sym are) (rows_at g (in_order g.table g.kept places))

pub row_of : (g : Ground) (n : ℕ) (time : TimeFound) (k : ℕ) (row : ClassLine) → IsTimeFound g n time → slice_get time.rows k ≡ Some row → IsRowAt g row
row_of g n time k row is there = all_at (IsRowAt g) time.rows k row (rows_are g n time is) there

-- so they are within the kept ones
pub rows_within : (g : Ground) (n : ℕ) (time : TimeFound) → IsTimeFound g n time → AllByRecursion (IsRowWithin (length g.kept)) time.rows
rows_within g n time is = all-by (IsRowAt g) (IsRowWithin (length g.kept)) time.rows within (rows_are g n time is)
  where
    within : (row : ClassLine) → IsRowAt g row → IsRowWithin (length g.kept) row
    within row of =
        let place : row.place ≡ of.at = ap (λ (r : ClassLine). r.place) of.is ∙ place_of g.table.classes of.at of.line in
        subst (λ (m : ℕ). m < length g.kept) (sym place) (slice_get_within g.kept of.at of.line of.there)
