-- The text that a spreadsheet leads to is read as its table.
use Rattle.std.proofs.Common.{◌≡◌, ℕ, zero, suc, ◌+◌, ◌-◌, ◌<◌, ◌≤◌, false, eqb, ltb, List, [], ◌++◌, length, map, Ok, All, refl, ap, subst, ◌∙◌, arith}
use Rattle.std.specs.Prelude.{◌||◌}
use Rattle.std.proofs.lemmas.Bool.{or_parts, ltb-false}
use Rattle.ror_text.specs.Reading.{refuse}
use Rattle.ror_text.proofs.ReadingLemmas.{bind_ok, refuse_ok}
use Rattle.ror_table.specs.declared.plain.Version.TheVariants.{Three}
use Rattle.ror_table.specs.Draft.{finished}
use Rattle.ror_table.specs.Grammar.{criterion_words, lines_of, IsPlainText, MayBeLinear}
use Rattle.ror_table.specs.Plain.{plain_table}
use Rattle.ror_table.specs.Table.{Criterion, DecisionTable, IsTable, columns, has_wide_scale}
use Rattle.ror_table.proofs.GrammarLemmas.{plain_text_read}
use Rattle.ror_table.proofs.IndexLemmas.{IsTable-from_draft}
use Rattle.ror_show_spreadsheet.specs.declared.importing.Imported.{Imported}
use Rattle.ror_show_cells.specs.declared.numbers.Numerals.{Numerals}
use Rattle.ror_show_spreadsheet.specs.Import.{Reading, whole, head_of, even_words, words_of, read_columns, known_options, read_rows, layout_of, body_of, imported_in, imported_of}
use Rattle.ror_show_spreadsheet.specs.Laws.{TextsAreReadBack}
use Rattle.ror_show_spreadsheet.specs.Options.{Named}
use Rattle.ror_show_cells.specs.Rows.{Cells, row_at}
use Rattle.ror_show_cells.specs.Sheet.{Sheet, sheet_of}
use Rattle.ror_show_spreadsheet.proofs.Loops.{ok_same}
use Rattle.ror_show_spreadsheet.proofs.Cutting.{text_of, numbered, numbers_off, text_utf8}
use Rattle.ror_show_spreadsheet.proofs.Written.{IsWritten, IsRowsWritten, table_lines, columns_written, rows_written, from_head, all_seen}

-- ---- a whole table

pub record IsFinished (t : DecisionTable) : Type 0 where
  pub some : 0 < length t.criteria
  pub other : 0 < length t.alternatives
  pub narrow : columns t ≤ 2000
  pub near : has_wide_scale t ≡ false

positive : (n : ℕ) → eqb n 0 ≡ false → 0 < n
positive zero h = absurd cc
positive (suc n) h = omega arith

pub finished_parts : {F : Type 0} (a b c : F) (t t' : DecisionTable) → finished a b c t ≡ Ok t' → IsFinished t × (t ≡ t')
unfolding finished
finished_parts a b c t t' e =
    let first = bind_ok (refuse a (eqb (length t.criteria) 0 || eqb (length t.alternatives) 0)) _ t' e in
    let second = bind_ok (refuse b (ltb 2000 (columns t))) _ t' first.2 in
    let third = bind_ok (refuse c (has_wide_scale t)) _ t' second.2 in
    let some = or_parts _ _ (refuse_ok a _ first.0 first.1) in (
      record {
        some = positive _ some.0;
        other = positive _ some.1;
        narrow = ltb-false 2000 (columns t) (refuse_ok b _ second.0 second.1);
        near = refuse_ok c _ third.0 third.1;
      },
      cc,
    )

-- ---- its text

any_linear : (cs : List Criterion) → All (MayBeLinear Three) cs
any_linear cs k d less linear = refl

written_text : (x : Reading) → IsWritten x → IsTable x.table → IsPlainText x.text x.table
written_text x h is_table =
    let lines = table_lines x.table h.rows in
    let seen = all_seen x.table h.rows h.draft h.seen in
    let cut : lines_of (text_of lines) ≡ lines = ap (map (λ line. line.1)) (numbered 1 lines seen) ∙ numbers_off 1 lines in
    record {
      short = omega (arith, h.short, h.draft.criteria_limit, h.draft.alternatives_limit);
      utf8 = rw h.text (text_utf8 lines seen);
      lines = record {
        version = Three;
        rest = map criterion_words x.table.criteria ++ h.rows;
        is = ap lines_of h.text ∙ cut;
        writes = record { classes_lines = []; alternative_lines = h.rows; is = refl; classes = h.classes; linear = any_linear x.table.criteria; alternatives = h.writes };
      };
      table = is_table;
    }

whole_read : (n : Numerals) (y : Reading) (x : Imported) → IsWritten y → whole n y ≡ Ok x → plain_table x.text ≡ Ok x.table
unfolding whole
whole_read n y x h e =
    let b = bind_ok (finished _ _ _ y.table) _ x e in
    let done = finished_parts _ _ _ y.table b.0 b.1 in
    let made : Imported = record { numerals = n; table = y.table; text = y.text } in
    let same : made ≡ x = ap (λ (t : DecisionTable). record { numerals = n; table = t; text = y.text }) done.1 ∙ ok_same _ x b.2 in
    let is_table = IsTable-from_draft y.table h.draft done.0.some done.0.other done.0.narrow done.0.near in
    subst (λ (z : Imported). plain_table z.text ≡ Ok z.table) same (plain_text_read y.text y.table (written_text y h is_table))

-- the first row has two cells or more
pub head_wide : (rows : List Cells) (head : Cells) → head_of rows ≡ Ok head → 2 ≤ length head
head_wide rows head e =
    let b = bind_ok (refuse _ (ltb (length (row_at rows 0)) 2)) _ head e in
    let same : row_at rows 0 ≡ head = cc in
    subst (λ (row : Cells). 2 ≤ length row) same (ltb-false (length (row_at rows 0)) 2 (refuse_ok _ (ltb (length (row_at rows 0)) 2) b.0 b.1))

pub head_first : (rows : List Cells) (head : Cells) → head_of rows ≡ Ok head → head ≡ row_at rows 0
head_first rows head e =
    let b = bind_ok (refuse _ (ltb (length (row_at rows 0)) 2)) _ head e in
    cc

pub sheet_read_back : (o : Named) (sheet : Sheet) (x : Imported) → imported_in o sheet ≡ Ok x → plain_table x.text ≡ Ok x.table
unfolding imported_in
sheet_read_back o sheet x e =
    let head = bind_ok (head_of sheet.rows) _ x e in
    let even = bind_ok (even_words (length head.0) (words_of sheet.rows)) _ x head.2 in
    let columns = bind_ok (read_columns o head.0 (words_of sheet.rows)) _ x even.2 in
    let known = bind_ok (known_options o head.0) _ x columns.2 in
    let layout = layout_of sheet.separator (length head.0) sheet.rows in
    let body = bind_ok (read_rows layout columns.0 (body_of sheet.rows)) _ x known.2 in
    let written = columns_written o head.0 (words_of sheet.rows) columns.0 columns.1 in
    let wide = head_wide sheet.rows head.0 head.1 in
    let begins : IsRowsWritten layout.width columns.0 = (from_head columns.0 written.0, omega (arith, written.1)) in
    let rows = rows_written layout columns.0 (body_of sheet.rows) body.0 begins body.1 in
    whole_read _ body.0 x rows.0 body.2

pub read_back : (o : Named) (bytes : List ℕ) (x : Imported) → imported_of o bytes ≡ Ok x → plain_table x.text ≡ Ok x.table
unfolding imported_of
read_back o bytes x e =
    let b = bind_ok (sheet_of bytes) _ x e in
    sheet_read_back o b.0 x b.2

pub texts_are_read_back : TextsAreReadBack
texts_are_read_back o bytes x e = read_back o bytes x e
