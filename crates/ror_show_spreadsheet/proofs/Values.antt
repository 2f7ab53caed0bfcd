-- The criteria of a spreadsheet's table are those of its columns, and the alternatives those of its rows.
use Rattle.std.proofs.Common.{◌≡◌, ℕ, zero, suc, ◌+◌, ◌-◌, ◌<◌, ◌≤◌, Bool, not, cond, eqb, filter, List, [], ◌∷◌, ◌++◌, length, get_or, map, Result, Ok, Some, refl, sym, ap, subst, ◌∙◌, arith, inl, inr}
use Rattle.std.specs.Prelude.{pos}
use Rattle.std.specs.List.{AllZip, enumerate_from, range_with_len}
use Rattle.std.proofs.lemmas.Bool.{cases_Bool, eqb-true, not-false}
use Rattle.std.proofs.lemmas.List.{append-nil, map_push}
use Rattle.std.proofs.lemmas.List.FromFn.{get_or-range_with_len}
use Rattle.ror_text.specs.Lines.{word_at}
use Rattle.ror_text.specs.Reading.{◌>>=◌, need, refuse}
use Rattle.ror_text.proofs.ReadingLemmas.{bind_ok, need_ok, refuse_ok}
use Rattle.ror_table.specs.declared.amount.Amount.{Amount}
use Rattle.ror_table.specs.Amounts as amounts
use Rattle.ror_table.specs.Draft.{add_criterion, add_alternative, finished, with_criterion, with_alternative}
use Rattle.ror_table.specs.Table.{Criterion, Alternative, DecisionTable}
use Rattle.ror_show_spreadsheet.specs.declared.importing.Imported.{Imported}
use Rattle.ror_show_cells.specs.declared.fault.SheetFault.{SheetFault}
use Rattle.ror_show_spreadsheet.specs.declared.lines.Layout.{Layout}
use Rattle.ror_show_cells.specs.declared.numbers.CellTest.TheVariants.{HasText}
use Rattle.ror_show_cells.specs.declared.numbers.Numerals.{Numerals}
use Rattle.ror_show_spreadsheet.specs.Import.{Reading, begun, Numbers, no_numbers, words_of, word_in, scale_of, with_column, column_step, column_at, read_columns, number_step, number_at, numbers_of, with_row, filled_row, row_step, read_rows, before_of, body_of, layout_of, whole, head_of, even_words, known_options, imported_in}
use Rattle.ror_show_spreadsheet.specs.Laws.{IsOfColumn, IsOfRow, filled_rows, ValuesAreCells}
use Rattle.ror_show_spreadsheet.specs.Names.{column_id, row_id}
use Rattle.ror_show_cells.specs.Numbers.{any_cell, amount_in, numerals_of, word_of}
use Rattle.ror_show_spreadsheet.specs.Options.{Named}
use Rattle.ror_show_cells.specs.Rows.{Cells, row_at}
use Rattle.ror_show_cells.specs.Sheet.{Sheet}
use Rattle.ror_show_spreadsheet.proofs.Loops.{brings, ok_same}
use Rattle.ror_show_spreadsheet.proofs.ReadBack.{finished_parts, head_wide, head_first}
use Rattle.ror_show_spreadsheet.proofs.Written.{zip_push, criterion_taken, alternative_taken, numbers_count}

-- ---- criteria

abbrev pub AreColumns : Named → Sheet → List ℕ → Reading → Type 0
AreColumns o sheet places x = AllZip (IsOfColumn o sheet) places x.table.criteria × (x.table.alternatives ≡ []) × (x.table.classes ≡ 0)

column_more : (o : Named) (sheet : Sheet) (places : List ℕ) (x : Reading) (place : ℕ) (y : Reading) → AreColumns o sheet places x → column_at o (row_at sheet.rows 0) (words_of sheet.rows) x place ≡ Ok y → AreColumns o sheet (places ++ place ∷ []) y
unfolding column_step with_column
column_more o sheet places x place y h e =
    let head = row_at sheet.rows 0 in
    let name = word_at head place in
    let word = word_in (words_of sheet.rows) place in
    let named = bind_ok (refuse _ (eqb (length name) 0)) _ y e in
    let scaled = bind_ok (scale_of o (place + 1) name word) _ y named.2 in
    let scale = scaled.0 in
    let id = column_id (place + 1) name in
    let b = bind_ok (with_criterion _ _ _ x.table id scale) _ y scaled.2 in
    let takes = criterion_taken _ _ _ x.table id scale b.0 b.1 in
    let c : Criterion = record { id = id; direction = scale.direction; linear = scale.linear } in
    let is : add_criterion x.table id scale ≡ y.table = takes.is ∙ ap (λ (r : Reading). r.table) (ok_same _ y b.2) in
    let of_column : IsOfColumn o sheet place c = record { id = refl; scale = scaled.1 } in
    subst (λ (t : DecisionTable). AllZip (IsOfColumn o sheet) (places ++ place ∷ []) t.criteria × (t.alternatives ≡ []) × (t.classes ≡ 0)) is
    (zip_push (IsOfColumn o sheet) places x.table.criteria place c h.0 of_column, h.1, h.2)

columns_are : (o : Named) (sheet : Sheet) (y : Reading) → read_columns o (row_at sheet.rows 0) (words_of sheet.rows) ≡ Ok y → AreColumns o sheet (range_with_len 1 (length (row_at sheet.rows 0) - 1)) y
columns_are o sheet y e = brings (AreColumns o sheet) (column_at o (row_at sheet.rows 0) (words_of sheet.rows)) (λ before x place next h s. column_more o sheet before x place next h s) [] begun _ y (tt, refl, refl) e

-- ---- the numbers of a row

abbrev IsNumberAt : Numerals → Cells → ℕ → Amount → Type 0
IsNumberAt n cells place p = amount_in n (word_at cells place) ≡ Some p

number_more : (n : Numerals) (row : ℕ) (cells : Cells) (places : List ℕ) (x : Numbers) (place : ℕ) (y : Numbers) → AllZip (IsNumberAt n cells) places x.amounts → number_at n row cells x place ≡ Ok y → AllZip (IsNumberAt n cells) (places ++ place ∷ []) y.amounts
unfolding number_step
number_more n row cells places x place y h e =
    let cell = word_at cells place in
    let b = bind_ok (need _ (amount_in n cell)) _ y e in
    let made : Numbers = record { amounts = x.amounts ++ b.0 ∷ []; text = x.text ++ 32 ∷ word_of n.mark cell } in
    let same : made ≡ y = cc in
    subst (λ (z : Numbers). AllZip (IsNumberAt n cells) (places ++ place ∷ []) z.amounts) same (zip_push (IsNumberAt n cells) places x.amounts place b.0 h (need_ok _ _ b.0 b.1))

numbers_are : (n : Numerals) (row : ℕ) (cells : Cells) (y : Numbers) → numbers_of n row cells ≡ Ok y → AllZip (IsNumberAt n cells) (range_with_len 1 (length cells - 1)) y.amounts
unfolding numbers_of
numbers_are n row cells y e = brings (λ (places : List ℕ) (x : Numbers). AllZip (IsNumberAt n cells) places x.amounts) (number_at n row cells) (λ before x place next h s. number_more n row cells before x place next h s) [] no_numbers _ y tt e

zip_at : {A B : Type 0} (R : A → B → Type 0) (xs : List A) (ys : List B) (i : ℕ) (d : A) (e : B) → AllZip R xs ys → i < length ys → R (get_or xs i d) (get_or ys i e)
zip_at R [] [] i d e h less = absurd (omega arith)
zip_at R [] (y ∷ ys) i d e h less = absurd h
zip_at R (x ∷ xs) [] i d e h less = absurd h
zip_at R (x ∷ xs) (y ∷ ys) zero d e h less = h.0
zip_at R (x ∷ xs) (y ∷ ys) (suc i) d e h less = zip_at R xs ys i d e h.1 (omega arith)

-- ---- alternatives

abbrev renumber : ℕ → ℕ × Cells → ℕ × Cells
renumber before row = (before + row.0 + 1, row.1)

abbrev is_filled : ℕ × Cells → Bool
is_filled row = any_cell HasText 0 row.1

renumbered : (before n : ℕ) (rows : List Cells) → map (renumber before) (enumerate_from n rows) ≡ enumerate_from (before + n + 1) rows
renumbered before n [] = refl
renumbered before n (row ∷ rows) =
    let e : before + (n + 1) + 1 ≡ before + n + 1 + 1 = omega arith in
    ap (λ (l : List (ℕ × Cells)). (before + n + 1, row) ∷ l) (renumbered before (n + 1) rows ∙ ap (λ (k : ℕ). enumerate_from k rows) e)

filter_push : {A : Type 0} (test : A → Bool) (xs : List A) (y : A) → filter test (xs ++ y ∷ []) ≡ filter test xs ++ cond (test y) (y ∷ []) []
filter_push test [] y = refl
filter_push test (x ∷ xs) y = elim (cases_Bool (test x)) [
  | inl hit ↦ rw hit (ap (λ l. x ∷ l) (filter_push test xs y))
  | inr miss ↦ rw miss (filter_push test xs y)
]

abbrev pub AreRows : Layout → List Criterion → List (ℕ × Cells) → Reading → Type 0
AreRows l cs rows x = AllZip (IsOfRow l.numerals) (filter is_filled (map (renumber l.before) rows)) x.table.alternatives × (x.table.criteria ≡ cs) × (x.table.classes ≡ 0)

filled_is : (l : Layout) (x : Reading) (row : ℕ) (cells : Cells) (y : Reading) → 1 ≤ l.width → filled_row l x row cells ≡ Ok y → (a : Alternative) × IsOfRow l.numerals (row, cells) a × (y.table ≡ add_alternative x.table a.id a.performances)
unfolding filled_row with_row
filled_is l x row cells y wide e =
    let even = bind_ok (refuse _ (not (eqb (length cells) l.width))) _ y e in
    let named = bind_ok (refuse _ (eqb (length (word_at cells 0)) 0)) _ y even.2 in
    let given = bind_ok (numbers_of l.numerals row cells) _ y named.2 in
    let ps = given.0.amounts in
    let same = eqb-true (length cells) l.width (not-false _ (refuse_ok _ (not (eqb (length cells) l.width)) even.0 even.1)) in
    let count = numbers_count l.numerals row cells given.0 given.1 in
    let are = numbers_are l.numerals row cells given.0 given.1 in
    let id = row_id row (word_at cells 0) in
    let b = bind_ok (with_alternative _ _ _ x.table id ps) _ y given.2 in
    let takes = alternative_taken _ _ _ x.table id ps b.0 b.1 in
    let is : add_alternative x.table id ps ≡ y.table = takes.is ∙ ap (λ (r : Reading). r.table) (ok_same _ y b.2) in
    let a : Alternative = record { id = id; performances = ps } in (
      a,
      record {
        id = refl;
        width = omega arith;
        each = λ i less.
            let at = zip_at (IsNumberAt l.numerals cells) (range_with_len 1 (length cells - 1)) ps i 0 (amounts.whole (pos 0)) are less in
            let place : get_or (range_with_len 1 (length cells - 1)) i 0 ≡ i + 1 = get_or-range_with_len 1 (length cells - 1) i 0 (omega arith) ∙ omega arith in
            rw place at at;
      },
      sym is,
    )

row_more : (l : Layout) (cs : List Criterion) (rows : List (ℕ × Cells)) (x : Reading) (row : ℕ × Cells) (y : Reading) → 1 ≤ l.width → AreRows l cs rows x → row_step l x row ≡ Ok y → AreRows l cs (rows ++ row ∷ []) y
unfolding row_step
row_more l cs rows x row y wide h e =
    let before = map (renumber l.before) rows in
    let pushed = ap (filter is_filled) (map_push (renumber l.before) rows row) ∙ filter_push is_filled before (renumber l.before row) in
    elim (cases_Bool (any_cell HasText 0 row.1)) [
      | inl some ↦
          let filled = filled_is l x (l.before + row.0 + 1) row.1 y wide (rw some at e) in
          let a = filled.0 in
          let more = zip_push (IsOfRow l.numerals) (filter is_filled before) x.table.alternatives (renumber l.before row) a h.0 filled.1 in
          rw (filled.2, pushed, some) (more, h.1, h.2)
      | inr none ↦
          let f = rw none at e in
          let same : x ≡ y = cc in
          rw (sym same, pushed, none, append-nil (filter is_filled before)) h
    ]

rows_are : (l : Layout) (x : Reading) (rows : List Cells) (y : Reading) → 1 ≤ l.width → x.table.alternatives ≡ [] → x.table.classes ≡ 0 → read_rows l x rows ≡ Ok y → AreRows l x.table.criteria (enumerate_from 0 rows) y
rows_are l x rows y wide none classes e =
    let start : AreRows l x.table.criteria [] x = (rw none tt, refl, classes) in
    brings (AreRows l x.table.criteria) (row_step l) (λ before s row next h f. row_more l x.table.criteria before s row next wide h f) [] x (enumerate_from 0 rows) y start e

-- ---- the sheet

whole_is : (n : Numerals) (y : Reading) (x : Imported) → whole n y ≡ Ok x → (x.numerals ≡ n) × (x.table ≡ y.table)
unfolding whole
whole_is n y x e =
    let b = bind_ok (finished _ _ _ y.table) _ x e in
    let done = finished_parts _ _ _ y.table b.0 b.1 in
    (sym (ap (λ (z : Imported). z.numerals) (ok_same _ x b.2)), sym (ap (λ (z : Imported). z.table) (ok_same _ x b.2)) ∙ sym done.1)

-- what is read behind the row of names
abbrev behind_head : Named → Sheet → Cells → Result Imported SheetFault
behind_head o sheet head = do
  _ ← even_words (length head) (words_of sheet.rows)
  x ← read_columns o head (words_of sheet.rows)
  _ ← known_options o head
  y ← read_rows (layout_of sheet.separator (length head) sheet.rows) x (body_of sheet.rows)
  whole (numerals_of sheet.separator (body_of sheet.rows)) y

pub values_are_cells : ValuesAreCells
unfolding imported_in
values_are_cells o sheet x e =
    let head = bind_ok (head_of sheet.rows) (behind_head o sheet) x e in
    let first = head_first sheet.rows head.0 head.1 in
    let f : behind_head o sheet (row_at sheet.rows 0) ≡ Ok x = subst (λ (row : Cells). behind_head o sheet row ≡ Ok x) first head.2 in
    let even = bind_ok (even_words (length (row_at sheet.rows 0)) (words_of sheet.rows)) _ x f in
    let columns = bind_ok (read_columns o (row_at sheet.rows 0) (words_of sheet.rows)) _ x even.2 in
    let known = bind_ok (known_options o (row_at sheet.rows 0)) _ x columns.2 in
    let layout = layout_of sheet.separator (length (row_at sheet.rows 0)) sheet.rows in
    let body = bind_ok (read_rows layout columns.0 (body_of sheet.rows)) _ x known.2 in
    let criteria = columns_are o sheet columns.0 columns.1 in
    let wide = head_wide sheet.rows head.0 head.1 in
    let rows = rows_are layout columns.0 (body_of sheet.rows) body.0 (omega (arith, ap (λ (c : Cells). length c) first)) criteria.1 criteria.2 body.1 in
    let same = whole_is _ body.0 x body.2 in
    let before = before_of (words_of sheet.rows) in
    let shift : before + 0 + 1 ≡ before + 1 = omega arith in
    let numbered : filter is_filled (map (renumber before) (enumerate_from 0 (body_of sheet.rows))) ≡ filled_rows sheet = ap (filter is_filled) (renumbered before 0 (body_of sheet.rows) ∙ ap (λ (k : ℕ). enumerate_from k (body_of sheet.rows)) shift) in
    rw (same.0, same.1) (record {
      criteria = rw rows.1 criteria.0;
      alternatives = rw numbered at rows.0;
      classes = rows.2;
    })
