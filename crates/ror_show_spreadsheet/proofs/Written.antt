-- What is read of a spreadsheet stands in lines that write it.
use Rattle.std.proofs.Common.{◌≡◌, ℕ, zero, suc, ◌+◌, ◌-◌, ◌*◌, ◌<◌, ◌≤◌, Bool, true, false, not, cond, eqb, ltb, leb, List, [], ◌∷◌, ◌++◌, length, map, Ok, Some, None, All, refl, sym, ap, subst, ◌∙◌, arith, append_assoc, length-append, inl, inr}
use Rattle.std.specs.Prelude.{codes, Option}
use Rattle.std.specs.List.{AllByRecursion, AllZip, flat_map, list_all, list_any, range_with_len}
use Rattle.std.proofs.lemmas.Bool.{cases_Bool, eqb-true, leb-false, not-false}
use Rattle.std.proofs.lemmas.List.{append-nil, map_push, length_push}
use Rattle.std.proofs.lemmas.List.Concat.{flat_map-append}
use Rattle.std.proofs.lemmas.List.Elements.{All-push, All-nil, All-head, All-tail}
use Rattle.ror_text.specs.Ids.{IsId, is_id}
use Rattle.ror_text.specs.Lines.{is_control, word_at}
use Rattle.ror_text.specs.Reading.{◌>>=◌, need, refuse}
use Rattle.ror_text.specs.SpacedLines.{join_words, line_text}
use Rattle.ror_text.proofs.IdLemmas.{IsId-form}
use Rattle.ror_text.proofs.ReadingLemmas.{bind_ok, refuse_ok, need_ok}
use Rattle.ror_table.specs.declared.amount.Amount.{Amount}
use Rattle.ror_table.specs.declared.direction.Direction.{Direction}
use Rattle.ror_table.specs.declared.direction.Direction.TheVariants.{Max, Min}
use Rattle.ror_table.specs.declared.direction.Scale.{Scale}
use Rattle.ror_table.specs.declared.plain.Version.TheVariants.{Three}
use Rattle.ror_table.specs.Amounts.{IsAmount}
use Rattle.ror_table.specs.Draft.{IsDraft, add_criterion, add_alternative, empty_table, has_id, with_criterion, with_alternative}
use Rattle.ror_table.specs.Faults.{head_words}
use Rattle.ror_table.specs.Grammar.{criterion_words, direction_word, linear_words, WritesAlternative}
use Rattle.ror_table.specs.Spellings.{WritesAmount, by_real, real_of}
use Rattle.ror_table.specs.Table.{Criterion, Alternative, DecisionTable, criterion_ids, alternative_ids}
use Rattle.ror_table.proofs.DraftLemmas.{IsDraft-add_criterion, IsDraft-add_alternative}
use Rattle.ror_table.proofs.SpellingLemmas.{WritesReal-read, IsAmount-real_of}
use Rattle.ror_show_spreadsheet.specs.declared.lines.Layout.{Layout}
use Rattle.ror_show_cells.specs.declared.numbers.Numerals.{Numerals}
use Rattle.ror_show_cells.specs.declared.numbers.CellTest.TheVariants.{HasText}
use Rattle.ror_show_spreadsheet.specs.Import.{Reading, begun, Numbers, no_numbers, criterion_text, scale_text, scale_of, alternative_text, with_column, column_step, column_at, read_columns, number_step, number_at, numbers_of, with_row, filled_row, row_step, read_rows}
use Rattle.ror_show_spreadsheet.specs.Names.{column_id, row_id}
use Rattle.ror_show_cells.specs.Numbers.{amount_in, word_of, any_cell}
use Rattle.ror_show_spreadsheet.specs.Options.{Named}
use Rattle.ror_show_cells.specs.Rows.{Cells}
use Rattle.ror_show_spreadsheet.proofs.Cutting.{Words, IsSeen, IsSeenLine, text_of, utf8_bytes}
use Rattle.ror_show_spreadsheet.proofs.Loops.{brings_all, brings, ok_same}
use Rattle.ror_show_spreadsheet.proofs.Spelt.{real_word}

-- ---- a cell's number

if_parts : {A : Type 0} (b : Bool) (o : Option A) (x : A) → cond b None o ≡ Some x → (b ≡ false) × (o ≡ Some x)
if_parts true o x e = absurd cc
if_parts false o x e = (refl, e)

pub amount_word : (n : Numerals) (cell : List ℕ) (p : Amount) → amount_in n cell ≡ Some p → real_of (word_of n.mark cell) ≡ Some p
unfolding amount_in
amount_word n cell p e =
    let first = if_parts _ _ p e in
    (if_parts _ _ p first.1).1

-- ---- the numbers of a row

abbrev pub behind : List ℕ → List ℕ
behind word = 32 ∷ word

pub record AreWritten (x : Numbers) : Type 0 where
  pub words : Words
  pub text : x.text ≡ flat_map behind words
  pub writes : AllZip WritesAmount words x.amounts
  pub seen : AllByRecursion IsSeen words
  pub amounts : All IsAmount x.amounts
  pub short : length x.text ≤ 21 * length x.amounts

none_written : AreWritten no_numbers
none_written = record { words = []; text = refl; writes = tt; seen = tt; amounts = All-nil IsAmount; short = omega arith }

pub zip_push : {A B : Type 0} (R : A → B → Type 0) (xs : List A) (ys : List B) (x : A) (y : B) → AllZip R xs ys → R x y → AllZip R (xs ++ x ∷ []) (ys ++ y ∷ [])
zip_push R [] [] x y h w = (w, tt)
zip_push R [] (b ∷ ys) x y h w = absurd h
zip_push R (a ∷ xs) [] x y h w = absurd h
zip_push R (a ∷ xs) (b ∷ ys) x y h w = (h.0, zip_push R xs ys x y h.1 w)

pub each_push : {A : Type 0} (P : A → Type 0) (xs : List A) (x : A) → AllByRecursion P xs → P x → AllByRecursion P (xs ++ x ∷ [])
each_push P [] x h p = (p, tt)
each_push P (y ∷ xs) x h p = (h.0, each_push P xs x h.1 p)

flat_push : {A B : Type 0} (f : A → List B) (xs : List A) (x : A) → flat_map f (xs ++ x ∷ []) ≡ flat_map f xs ++ f x
flat_push f xs x = flat_map-append f xs (x ∷ []) ∙ ap (λ l. flat_map f xs ++ l) (append-nil (f x))

number_more : (n : Numerals) (row place : ℕ) (cell : List ℕ) (x y : Numbers) → AreWritten x → number_step n row x place cell ≡ Ok y → AreWritten y
unfolding number_step
number_more n row place cell x y h e =
    let b = bind_ok (need _ (amount_in n cell)) _ y e in
    let p = b.0 in
    let word = word_of n.mark cell in
    let real = amount_word n cell p (need_ok _ _ p b.1) in
    let writes = WritesReal-read word p real in
    let short = real_word word p writes in
    let made : Numbers = record { amounts = x.amounts ++ p ∷ []; text = x.text ++ 32 ∷ word } in
    let same : made ≡ y = cc in
    let size = length-append x.text (32 ∷ word) in
    let count = length_push x.amounts p in
    subst AreWritten same (record {
      words = h.words ++ word ∷ [];
      text = ap (λ (t : List ℕ). t ++ 32 ∷ word) h.text ∙ sym (flat_push behind h.words word);
      writes = zip_push WritesAmount h.words x.amounts word p h.writes (by_real writes);
      seen = each_push IsSeen h.words word h.seen short.seen;
      amounts = All-push IsAmount x.amounts p h.amounts (IsAmount-real_of word p real);
      short = omega (arith, h.short, short.short);
    })

number_count : (n : Numerals) (row place : ℕ) (cell : List ℕ) (x y : Numbers) → number_step n row x place cell ≡ Ok y → length y.amounts ≡ length x.amounts + 1
unfolding number_step
number_count n row place cell x y e =
    let b = bind_ok (need _ (amount_in n cell)) _ y e in
    let made : Numbers = record { amounts = x.amounts ++ b.0 ∷ []; text = x.text ++ 32 ∷ word_of n.mark cell } in
    let same : made ≡ y = cc in
    sym (ap (λ (z : Numbers). length z.amounts) same) ∙ length_push x.amounts b.0

pub numbers_written : (n : Numerals) (row : ℕ) (cells : Cells) (y : Numbers) → numbers_of n row cells ≡ Ok y → AreWritten y
unfolding numbers_of
numbers_written n row cells y e = brings_all AreWritten (number_at n row cells) (λ x place next h s. number_more n row place _ x next h s) no_numbers _ y none_written e

length_range : (k n : ℕ) → length (range_with_len k n) ≡ n
length_range k zero = refl
length_range k (suc n) = ap (λ (m : ℕ). suc m) (length_range (k + 1) n)

pub numbers_count : (n : Numerals) (row : ℕ) (cells : Cells) (y : Numbers) → numbers_of n row cells ≡ Ok y → length y.amounts ≡ length cells - 1
unfolding numbers_of
numbers_count n row cells y e =
    brings (λ (before : List ℕ) (x : Numbers). length x.amounts ≡ length before) (number_at n row cells) (λ before x place next h s. number_count n row place _ x next s ∙ ap (λ (m : ℕ). m + 1) h ∙ sym (length_push before place)) [] no_numbers (range_with_len 1 (length cells - 1)) y refl e
    ∙ length_range 1 (length cells - 1)

-- ---- lines

-- the bytes of a line that has these words
pub line_is : (word : List ℕ) (ws : Words) → line_text (word ∷ ws) ≡ (word ++ flat_map behind ws) ++ 10 ∷ []
unfolding line_text
line_is word ws = ap (λ (l : List ℕ). l ++ 10 ∷ []) (joined word ws)
  where
    joined : (word : List ℕ) (ws : Words) → join_words (word ∷ ws) ≡ word ++ flat_map behind ws
    joined word [] = sym (append-nil word)
    joined word (next ∷ ws) = ap (λ (l : List ℕ). word ++ 32 ∷ l) (joined next ws)

id_seen : (id : List ℕ) → IsId id → IsSeen id
id_seen id valid = let f = IsId-form id valid in record { some = f.some; visible = f.visible; utf8 = f.utf8 }

criterion_line : (id : List ℕ) (scale : Scale) → criterion_text id scale ≡ line_text (criterion_words (record { id = id; direction = scale.direction; linear = scale.linear }))
unfolding criterion_text
criterion_line id scale = by scale.direction scale.linear
  where
    by : (d : Direction) (l : Bool) → criterion_text id (record { direction = d; linear = l }) ≡ line_text (criterion_words (record { id = id; direction = d; linear = l }))
    by Max false = sym (line_is (codes "criterion") (id ∷ codes "max" ∷ []) ∙ ap (λ (l : List ℕ). codes "criterion " ++ l) (append_assoc id (codes " max") (10 ∷ [])))
    by Max true = sym (line_is (codes "criterion") (id ∷ codes "max" ∷ codes "linear" ∷ []) ∙ ap (λ (l : List ℕ). codes "criterion " ++ l) (append_assoc id (codes " max linear") (10 ∷ [])))
    by Min false = sym (line_is (codes "criterion") (id ∷ codes "min" ∷ []) ∙ ap (λ (l : List ℕ). codes "criterion " ++ l) (append_assoc id (codes " min") (10 ∷ [])))
    by Min true = sym (line_is (codes "criterion") (id ∷ codes "min" ∷ codes "linear" ∷ []) ∙ ap (λ (l : List ℕ). codes "criterion " ++ l) (append_assoc id (codes " min linear") (10 ∷ [])))

alternative_line : (id : List ℕ) (ws : Words) → alternative_text id (flat_map behind ws) ≡ line_text (codes "alternative" ∷ id ∷ ws)
unfolding alternative_text
alternative_line id ws = sym (line_is (codes "alternative") (id ∷ ws))

abbrev IsLiteral : List ℕ → Type 0
IsLiteral word = (list_any is_control word ≡ false) × (list_all (λ b. ltb b 128) word ≡ true)

seen_literal : (word : List ℕ) → 0 < length word → IsLiteral word → IsSeen word
seen_literal word some literal = record { some = some; visible = literal.0; utf8 = utf8_bytes word literal.1 }

criterion_seen : (c : Criterion) → IsId c.id → IsSeenLine (criterion_words c)
criterion_seen c valid = record {
  first = codes "criterion";
  rest = c.id ∷ direction_word c.direction ∷ linear_words c.linear;
  is = refl;
  seen = (seen_literal (codes "criterion") (omega arith) (refl, refl), (id_seen c.id valid, (of_direction c.direction, of_linear c.linear)));
  kept = refl;
}
  where
    of_direction : (d : Direction) → IsSeen (direction_word d)
    of_direction Max = seen_literal (codes "max") (omega arith) (refl, refl)
    of_direction Min = seen_literal (codes "min") (omega arith) (refl, refl)

    of_linear : (l : Bool) → AllByRecursion IsSeen (linear_words l)
    of_linear true = (seen_literal (codes "linear") (omega arith) (refl, refl), tt)
    of_linear false = tt

alternative_seen : (id : List ℕ) (ws : Words) → IsId id → AllByRecursion IsSeen ws → IsSeenLine (codes "alternative" ∷ id ∷ ws)
alternative_seen id ws valid seen = record {
  first = codes "alternative";
  rest = id ∷ ws;
  is = refl;
  seen = (seen_literal (codes "alternative") (omega arith) (refl, refl), (id_seen id valid, seen));
  kept = refl;
}

-- ---- what a draft took

pub record TakesCriterion (t : DecisionTable) (id : List ℕ) (scale : Scale) (t' : DecisionTable) : Type 0 where
  pub valid : IsId id
  pub absent : has_id (criterion_ids t) id ≡ false
  pub room : length t.criteria < 64
  pub is : add_criterion t id scale ≡ t'

pub criterion_taken : {F : Type 0} (a b c : F) (t : DecisionTable) (id : List ℕ) (scale : Scale) (t' : DecisionTable) → with_criterion a b c t id scale ≡ Ok t' → TakesCriterion t id scale t'
unfolding with_criterion
criterion_taken a b c t id scale t' e =
    let free = bind_ok (refuse a (not (is_id id)) >>= (λ _. refuse b (has_id (criterion_ids t) id))) _ t' e in
    let first = bind_ok (refuse a (not (is_id id))) _ free.0 free.1 in
    let full = bind_ok (refuse c (leb 64 (length t.criteria))) _ t' free.2 in
    record {
      valid = not-false _ (refuse_ok a (not (is_id id)) first.0 first.1);
      absent = refuse_ok b _ free.0 first.2;
      room = below (length t.criteria) (refuse_ok c _ full.0 full.1);
      is = cc;
    }
  where
    below : (n : ℕ) → leb 64 n ≡ false → n < 64
    below n h = leb-false 64 n h

pub record TakesAlternative (t : DecisionTable) (id : List ℕ) (ps : List Amount) (t' : DecisionTable) : Type 0 where
  pub valid : IsId id
  pub absent : has_id (alternative_ids t) id ≡ false
  pub room : length t.alternatives < 200
  pub is : add_alternative t id ps ≡ t'

pub alternative_taken : {F : Type 0} (a b c : F) (t : DecisionTable) (id : List ℕ) (ps : List Amount) (t' : DecisionTable) → with_alternative a b c t id ps ≡ Ok t' → TakesAlternative t id ps t'
unfolding with_alternative
alternative_taken a b c t id ps t' e =
    let free = bind_ok (refuse a (not (is_id id)) >>= (λ _. refuse b (has_id (alternative_ids t) id))) _ t' e in
    let first = bind_ok (refuse a (not (is_id id))) _ free.0 free.1 in
    let full = bind_ok (refuse c (leb 200 (length t.alternatives))) _ t' free.2 in
    record {
      valid = not-false _ (refuse_ok a (not (is_id id)) first.0 first.1);
      absent = refuse_ok b _ free.0 first.2;
      room = below (length t.alternatives) (refuse_ok c _ full.0 full.1);
      is = cc;
    }
  where
    below : (n : ℕ) → leb 200 n ≡ false → n < 200
    below n h = leb-false 200 n h

-- ---- what was read so far

abbrev pub table_lines : DecisionTable → List Words → List Words
table_lines t rows = head_words Three ∷ (map criterion_words t.criteria ++ rows)

pub record IsWritten (x : Reading) : Type 0 where
  pub rows : List Words
  pub text : x.text ≡ text_of (table_lines x.table rows)
  pub writes : AllZip (WritesAlternative Three) rows x.table.alternatives
  pub seen : AllByRecursion IsSeenLine rows
  pub draft : IsDraft x.table
  pub classes : x.table.classes ≡ 0
  pub short : length x.text ≤ 12 + 100 * length x.table.criteria + 1500 * length x.table.alternatives

-- before any alternative
pub record IsHeadWritten (x : Reading) : Type 0 where
  pub text : x.text ≡ text_of (head_words Three ∷ map criterion_words x.table.criteria)
  pub none : x.table.alternatives ≡ []
  pub draft : IsDraft x.table
  pub classes : x.table.classes ≡ 0
  pub short : length x.text ≤ 12 + 100 * length x.table.criteria

empty_draft : IsDraft empty_table
empty_draft = record {
  criteria_limit = omega arith;
  alternatives_limit = omega arith;
  classes_limit = omega arith;
  criterion_ids_valid = λ k d lt. absurd (omega arith);
  alternative_ids_valid = λ k d lt. absurd (omega arith);
  criterion_ids_distinct = λ i j d lt in'. absurd (omega arith);
  alternative_ids_distinct = λ i j d lt in'. absurd (omega arith);
  evaluated = λ k d lt. absurd (omega arith);
}

begun_written : IsHeadWritten begun
unfolding line_text
begun_written = record { text = refl; none = refl; draft = empty_draft; classes = refl; short = omega arith }

text_push : (lines : List Words) (line : Words) → text_of (lines ++ line ∷ []) ≡ text_of lines ++ line_text line
text_push lines line = flat_push line_text lines line

scale_text_short : (d : Direction) (l : Bool) → length (scale_text (record { direction = d; linear = l })) ≤ 12
scale_text_short Max false = omega arith
scale_text_short Max true = omega arith
scale_text_short Min false = omega arith
scale_text_short Min true = omega arith

criterion_short : (id : List ℕ) (scale : Scale) → length id ≤ 64 → length (criterion_text id scale) ≤ 86
unfolding criterion_text
criterion_short id scale h =
    let tail = scale_text_short scale.direction scale.linear in
    let inner = length-append id (scale_text scale) in
    omega (arith, tail)

column_more : (x : Reading) (column : ℕ) (name : List ℕ) (scale : Scale) (y : Reading) → IsHeadWritten x → with_column x column name scale ≡ Ok y → IsHeadWritten y × (length y.table.criteria ≡ length x.table.criteria + 1)
unfolding with_column
column_more x column name scale y h e =
    let id = column_id column name in
    let c : Criterion = record { id = id; direction = scale.direction; linear = scale.linear } in
    let b = bind_ok (with_criterion _ _ _ x.table id scale) _ y e in
    let takes = criterion_taken _ _ _ x.table id scale b.0 b.1 in
    let made : Reading = record { table = add_criterion x.table id scale; text = x.text ++ criterion_text id scale } in
    let same : made ≡ y = ap (λ (t : DecisionTable). record { table = t; text = x.text ++ criterion_text id scale }) takes.is ∙ ok_same _ y b.2 in
    let count = length_push x.table.criteria c in
    let written : IsHeadWritten made = record {
      text =
          ap (λ (t : List ℕ). t ++ criterion_text id scale) h.text
          ∙ ap (λ (l : List ℕ). text_of (head_words Three ∷ map criterion_words x.table.criteria) ++ l) (criterion_line id scale)
          ∙ sym (text_push (head_words Three ∷ map criterion_words x.table.criteria) (criterion_words c))
          ∙ ap (λ (ls : List Words). text_of (head_words Three ∷ ls)) (sym (map_push criterion_words x.table.criteria c));
      none = h.none;
      draft = IsDraft-add_criterion x.table id scale h.draft h.none takes.valid takes.absent takes.room;
      classes = h.classes;
      short = omega (arith, h.short, criterion_short id scale (IsId-form id takes.valid).short, length-append x.text (criterion_text id scale));
    } in
    (subst IsHeadWritten same written, sym (ap (λ (r : Reading). length r.table.criteria) same) ∙ count)

pub column_step_more : (o : Named) (x : Reading) (place : ℕ) (name word : List ℕ) (y : Reading) → IsHeadWritten x → column_step o x place name word ≡ Ok y → IsHeadWritten y × (length y.table.criteria ≡ length x.table.criteria + 1)
unfolding column_step
column_step_more o x place name word y h e =
    let named = bind_ok (refuse _ (eqb (length name) 0)) _ y e in
    let scaled = bind_ok (scale_of o (place + 1) name word) _ y named.2 in
    column_more x (place + 1) name scaled.0 y h scaled.2

pub columns_written : (o : Named) (head : Cells) (words : Option Cells) (y : Reading) → read_columns o head words ≡ Ok y → IsHeadWritten y × (length y.table.criteria ≡ length head - 1)
columns_written o head words y e =
    let all = brings (λ (before : List ℕ) (x : Reading). IsHeadWritten x × (length x.table.criteria ≡ length before)) (column_at o head words) (λ before x place next h s. let more = column_step_more o x place _ _ next h.0 s in (more.0, more.1 ∙ ap (λ (m : ℕ). m + 1) h.1 ∙ sym (length_push before place))) [] begun (range_with_len 1 (length head - 1)) y (begun_written, refl) e in
    (all.0, all.1 ∙ length_range 1 (length head - 1))

-- ---- alternatives

alternative_short : (id numbers : List ℕ) → length id ≤ 64 → length (alternative_text id numbers) ≤ 77 + length numbers
unfolding alternative_text
alternative_short id numbers h =
    let inner = length-append id numbers in
    let last = length-append (id ++ numbers) (10 ∷ []) in
    omega arith

row_more : (x : Reading) (row : ℕ) (name : List ℕ) (given : Numbers) (y : Reading) → IsWritten x → AreWritten given → length given.amounts ≡ length x.table.criteria → with_row x row name given ≡ Ok y → IsWritten y × (length y.table.criteria ≡ length x.table.criteria)
unfolding with_row
row_more x row name given y h numbers count e =
    let id = row_id row name in
    let a : Alternative = record { id = id; performances = given.amounts } in
    let b = bind_ok (with_alternative _ _ _ x.table id given.amounts) _ y e in
    let takes = alternative_taken _ _ _ x.table id given.amounts b.0 b.1 in
    let made : Reading = record { table = add_alternative x.table id given.amounts; text = x.text ++ alternative_text id given.text } in
    let same : made ≡ y = ap (λ (t : DecisionTable). record { table = t; text = x.text ++ alternative_text id given.text }) takes.is ∙ ok_same _ y b.2 in
    let line : Words = codes "alternative" ∷ id ∷ numbers.words in
    let all = head_words Three ∷ (map criterion_words x.table.criteria ++ h.rows) in
    let more = length_push x.table.alternatives a in
    let written : IsWritten made = record {
      rows = h.rows ++ line ∷ [];
      text =
          ap (λ (t : List ℕ). t ++ alternative_text id given.text) h.text
          ∙ ap (λ (l : List ℕ). text_of all ++ l) (ap (alternative_text id) numbers.text ∙ alternative_line id numbers.words)
          ∙ sym (text_push all line)
          ∙ ap (λ (ls : List Words). text_of (head_words Three ∷ ls)) (append_assoc (map criterion_words x.table.criteria) h.rows (line ∷ []));
      writes = zip_push (WritesAlternative Three) h.rows x.table.alternatives line a h.writes (record { numbers = numbers.words; is = refl; written = numbers.writes });
      seen = each_push IsSeenLine h.rows line h.seen (alternative_seen id numbers.words takes.valid numbers.seen);
      draft = IsDraft-add_alternative x.table id given.amounts h.draft takes.valid takes.absent takes.room count numbers.amounts;
      classes = h.classes;
      short = omega (arith, h.short, alternative_short id given.text (IsId-form id takes.valid).short, numbers.short, h.draft.criteria_limit, length-append x.text (alternative_text id given.text));
    } in
    (subst IsWritten same written, sym (ap (λ (r : Reading). length r.table.criteria) same))

filled_more : (l : Layout) (x : Reading) (row : ℕ) (cells : Cells) (y : Reading) → IsWritten x → length x.table.criteria + 1 ≡ l.width → filled_row l x row cells ≡ Ok y → IsWritten y × (length y.table.criteria ≡ length x.table.criteria)
unfolding filled_row
filled_more l x row cells y h width e =
    let even = bind_ok (refuse _ (not (eqb (length cells) l.width))) _ y e in
    let named = bind_ok (refuse _ (eqb (length (word_at cells 0)) 0)) _ y even.2 in
    let given = bind_ok (numbers_of l.numerals row cells) _ y named.2 in
    let same = eqb-true (length cells) l.width (not-false _ (refuse_ok _ (not (eqb (length cells) l.width)) even.0 even.1)) in
    let count = numbers_count l.numerals row cells given.0 given.1 in
    row_more x row (word_at cells 0) given.0 y h (numbers_written l.numerals row cells given.0 given.1) (omega arith) given.2

abbrev pub IsRowsWritten : ℕ → Reading → Type 0
IsRowsWritten width x = IsWritten x × (length x.table.criteria + 1 ≡ width)

pub row_step_more : (l : Layout) (x : Reading) (row : ℕ × Cells) (y : Reading) → IsRowsWritten l.width x → row_step l x row ≡ Ok y → IsRowsWritten l.width y
unfolding row_step
row_step_more l x row y h e = elim (cases_Bool (any_cell HasText 0 row.1)) [
  | inl some ↦
      let more = filled_more l x (l.before + row.0 + 1) row.1 y h.0 h.1 (rw some at e) in
      (more.0, ap (λ (n : ℕ). n + 1) more.1 ∙ h.1)
  | inr none ↦
      let f = rw none at e in
      let same : x ≡ y = cc in
      subst (IsRowsWritten l.width) same h
]

pub rows_written : (l : Layout) (x : Reading) (rows : List Cells) (y : Reading) → IsRowsWritten l.width x → read_rows l x rows ≡ Ok y → IsRowsWritten l.width y
rows_written l x rows y h e = brings_all (IsRowsWritten l.width) (row_step l) (λ s row next k f. row_step_more l s row next k f) x _ y h e

-- ---- all lines

pub from_head : (x : Reading) → IsHeadWritten x → IsWritten x
from_head x h = record {
  rows = [];
  text = h.text ∙ ap (λ (ls : List Words). text_of (head_words Three ∷ ls)) (sym (append-nil (map criterion_words x.table.criteria)));
  writes = rw h.none tt;
  seen = tt;
  draft = h.draft;
  classes = h.classes;
  short = omega (arith, h.short);
}

criteria_seen : (cs : List Criterion) (rows : List Words) → All IsId (map (λ c. c.id) cs) → AllByRecursion IsSeenLine rows → AllByRecursion IsSeenLine (map criterion_words cs ++ rows)
criteria_seen [] rows valid seen = seen
criteria_seen (c ∷ cs) rows valid seen = (criterion_seen c (All-head IsId c.id (map (λ d. d.id) cs) valid), criteria_seen cs rows (All-tail IsId c.id (map (λ d. d.id) cs) valid) seen)

pub all_seen : (t : DecisionTable) (rows : List Words) → IsDraft t → AllByRecursion IsSeenLine rows → AllByRecursion IsSeenLine (table_lines t rows)
all_seen t rows draft seen = (
  record {
    first = codes "ror-table";
    rest = codes "3" ∷ [];
    is = refl;
    seen = (seen_literal (codes "ror-table") (omega arith) (refl, refl), (seen_literal (codes "3") (omega arith) (refl, refl), tt));
    kept = refl;
  },
  criteria_seen t.criteria rows draft.criterion_ids_valid seen,
)
