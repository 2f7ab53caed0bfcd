-- What is found of the classes that changed means what it says.
use Rattle.std.proofs.Common.{◌≡◌, ℕ, true, false, List, [], ◌∷◌, length, Option, Some, None, refl, sym, ap, subst, ◌∙◌}
use Rattle.std.specs.Prelude.{◌==◌, Contains, slice_get}
use Rattle.std.specs.List.{AllByRecursion, flat_map}
use Rattle.std.specs.Option.{option_map_or, option_and_then}
use Rattle.std.proofs.lemmas.Bool.{eqb-true}
use Rattle.ror_text.proofs.Everywhere.{all-by, all-pieces, all_at}
use Rattle.ror_statement.specs.declared.statement.Numbered.{Numbered}
use Rattle.ror_statement.specs.Statements.{statements_in}
use Rattle.ror_report.specs.Text.{answers_of}
use Rattle.ror_bench.specs.declared.kept.KeptLine.{KeptLine}
use Rattle.ror_show_ground.specs.Ready.{IsReady}
use Rattle.ror_show_ground.specs.Grounds.{Ground, IsJudged}
use Rattle.ror_show_ground.specs.Lines.{desk_of}
use Rattle.ror_show_ground.specs.Turns.{last_below}
use Rattle.ror_show_ground.proofs.Lists.{at_place}
use Rattle.ror_show_ground.proofs.TurnLemmas.{last-found}
use Rattle.ror_show_find_classes.specs.declared.changes.RowChange.{RowChange}
use Rattle.ror_show_find_classes.specs.declared.changes.ClassChangeFound.{ClassChangeFound}
use Rattle.ror_show_find_classes.specs.declared.value.ClassRow.{ClassRow}
use Rattle.ror_show_find_classes.specs.declared.value.ClassTime.{ClassTime}
use Rattle.ror_show_find_classes.specs.Changes.{change_of, is_of, is_row_of, row_of}
use Rattle.ror_show_find_classes.specs.ChangeLaws.{ChangeSays, IsTrueOf}
use Rattle.ror_show_find_classes.specs.ClassChanges.{row_change_from, row_change, IsClassChange, AreClassChanges}
use Rattle.ror_show_find_classes.specs.Signs.{alternative_of}
use Rattle.ror_show_find_classes.specs.Rows.{in_order}
use Rattle.ror_show_find_classes.specs.Times.{times, rows}
use Rattle.ror_show_find_classes.specs.TimeTurns.{turns}
use Rattle.ror_show_find_classes.specs.Values.{interval_of, interval_of_line, interval_at, intervals_at, time_from, time_of_line, time_at, class_times}
use Rattle.ror_show_find_classes.proofs.ChangeLemmas.{changes-true}
use Rattle.ror_show_find_reasons.specs.Meaning.{MeansRowChange}
use Rattle.ror_show_find_reasons.proofs.Finding.{made_for, true_answers}

-- what holds of each element holds of one of them
held_in : {X : Type 0} (P : X → Type 0) (xs : List X) (x : X) → AllByRecursion P xs → Contains xs x → P x
held_in P xs x all there = all_at P xs there.0 x all (at_place xs there.0 x there.1 ∙ ap Some there.2)

each_of : {X : Type 0} (P : X → Type 0) (xs : List X) → ((x : X) → P x) → AllByRecursion P xs
each_of P [] each = tt
each_of P (x ∷ xs) each = (each x, each_of P xs each)

-- ---- the rows of a time are those of kept lines

record IsOfLine (g : Ground) (row : ClassRow) : Type 0 where
  pub at : ℕ
  pub line : KeptLine
  pub there : slice_get g.kept at ≡ Some line
  pub is : row ≡ interval_of g.table.classes line

row_at : (g : Ground) (n : ℕ) → AllByRecursion (IsOfLine g) (interval_at g.table.classes g.kept n)
row_at g n = by (slice_get g.kept n) refl
  where
    by : (o : Option KeptLine) → slice_get g.kept n ≡ o → AllByRecursion (IsOfLine g) (option_map_or (interval_of_line g.table.classes) o [])
    by (Some x) there = (record { at = n; line = x; there = there; is = refl }, tt)
    by None there = tt

rows_at : (g : Ground) (ns : List ℕ) → AllByRecursion (IsOfLine g) (intervals_at g.table.classes g.kept ns)
rows_at g ns = all-pieces (IsOfLine g) (interval_at g.table.classes g.kept) ns (each_of (λ n. AllByRecursion (IsOfLine g) (interval_at g.table.classes g.kept n)) ns (row_at g))

abbrev AreOfLines : Ground → ClassTime → Type 0
AreOfLines g time = AllByRecursion (IsOfLine g) time.intervals

time_rows : (g : Ground) (n desk : ℕ) → AreOfLines g (time_from g.table g.session g.kept n desk)
unfolding time_from
time_rows g n desk = rows_at g (in_order g.table g.kept (rows g.session g.kept n desk))

time_there : (g : Ground) (n : ℕ) → AllByRecursion (AreOfLines g) (time_at g.table g.session g.kept n)
time_there g n = by (slice_get g.kept n)
  where
    by : (o : Option KeptLine) → AllByRecursion (AreOfLines g) (option_map_or (time_of_line g.table g.session g.kept n) o [])
    by (Some x) = (time_rows g n (desk_of g.session x), tt)
    by None = tt

times_rows : (g : Ground) → AllByRecursion (AreOfLines g) (class_times g.table g.session g.kept)
times_rows g =
    all-pieces (AreOfLines g) (time_at g.table g.session g.kept) (times g.session g.kept)
    (each_of (λ n. AllByRecursion (AreOfLines g) (time_at g.table g.session g.kept n)) (times g.session g.kept) (time_there g))

-- ---- what became of a row

record WasOf (g : Ground) (a : ℕ) (row : ClassRow) : Type 0 where
  pub of : IsOfLine g row
  pub same : row.alternative ≡ a

was_of : (g : Ground) (rows : List ClassRow) (a : ℕ) (row : ClassRow) → AllByRecursion (IsOfLine g) rows → row_of rows a ≡ Some row → WasOf g a row
was_of g rows a row all is = by (last_below (is_row_of rows a) (length rows)) refl is
  where
    by : (o : Option ℕ) → last_below (is_row_of rows a) (length rows) ≡ o → option_and_then (slice_get rows) o ≡ Some row → WasOf g a row
    by None none at = absurd cc
    by (Some k) last at =
        let passes = (last-found (is_row_of rows a) (length rows) k last).passes in
        let same : (row.alternative == a) ≡ true = ap (λ (o : Option ClassRow). option_map_or (is_of a) o false) (sym at) ∙ passes in
        record { of = all_at (IsOfLine g) rows k row all at; same = eqb-true row.alternative a same }

-- both rows are of kept lines, and of one alternative
record IsRowChange (g : Ground) (f : RowChange) : Type 0 where
  pub before : IsOfLine g f.before
  pub now : IsOfLine g f.now
  pub same : f.before.alternative ≡ f.now.alternative
  pub change : f.change ≡ change_of f.before f.now

one_row : (g : Ground) (rows : List ClassRow) (now : ClassRow) → AllByRecursion (IsOfLine g) rows → IsOfLine g now → AllByRecursion (IsRowChange g) (row_change rows now)
unfolding row_change
one_row g rows now all of = by (row_of rows now.alternative) refl
  where
    by : (o : Option ClassRow) → row_of rows now.alternative ≡ o → AllByRecursion (IsRowChange g) (row_change_from now o)
    by None none = tt
    by (Some before) is =
        let was = was_of g rows now.alternative before all is in
        (record { before = was.of; now = of; same = was.same; change = refl }, tt)

rows_change_of : (g : Ground) (before now : List ClassRow) → AllByRecursion (IsOfLine g) before → AllByRecursion (IsOfLine g) now → AllByRecursion (IsRowChange g) (flat_map (row_change before) now)
rows_change_of g before now was is =
    all-pieces (IsRowChange g) (row_change before) now
    (all-by (IsOfLine g) (λ row. AllByRecursion (IsRowChange g) (row_change before row)) now (λ row of. one_row g before row was of) is)

found_rows : (g : Ground) (fs : List ClassChangeFound) (f : ClassChangeFound) → AreClassChanges (class_times g.table g.session g.kept) (turns (class_times g.table g.session g.kept)) fs → Contains fs f → AllByRecursion (IsRowChange g) f.rows
found_rows g fs f are there =
    let all = class_times g.table g.session g.kept in
    let one = made_for (IsClassChange all) (turns all) fs f there are in
    let is = one.1 in
    let rows : f.rows ≡ flat_map (row_change is.before.intervals) is.now.intervals = ap (λ (c : ClassChangeFound). c.rows) is.is in
    let held = times_rows g in
    subst (AllByRecursion (IsRowChange g)) (sym rows)
    (rows_change_of g is.before.intervals is.now.intervals (all_at (AreOfLines g) all one.0.0 is.before held is.before_there) (all_at (AreOfLines g) all one.0.1 is.now held is.now_there))

-- ---- and what that means

alternative_is : (classes : ℕ) (x : KeptLine) → (interval_of classes x).alternative ≡ alternative_of (answers_of x.block.body)
unfolding interval_of
alternative_is classes x = refl

true_of : (g : Ground) (row : ClassRow) (a : ℕ) (of : IsOfLine g row) (list : List Numbered) → IsJudged g → row.alternative ≡ a → of.line.standing ≡ Some list → IsTrueOf g.table (statements_in list) a of.line
true_of g row a of list judged same stood =
    let ready = all_at (IsReady g.table) g.kept of.at of.line judged.ready of.there in
    record {
      truth = true_answers g.table of.line list (ready list stood);
      of = sym (alternative_is g.table.classes of.line) ∙ sym (ap (λ (r : ClassRow). r.alternative) of.is) ∙ same;
    }

row_means : (g : Ground) (f : RowChange) → IsJudged g → IsRowChange g f → MeansRowChange g f
row_means g f judged is = record {
  earlier = is.before.line;
  later = is.now.line;
  earlier_kept = (is.before.at, is.before.there);
  later_kept = (is.now.at, is.now.there);
  before = is.before.is;
  now = is.now.is;
  same = is.same;
  says = says;
}
  where
    says : (before now : List Numbered) → is.before.line.standing ≡ Some before → is.now.line.standing ≡ Some now → ChangeSays g.table (statements_in before) (statements_in now) f.now.alternative f.change
    says before now stood_before stood_now =
        let a = f.now.alternative in
        let was = true_of g f.before a is.before before judged is.same stood_before in
        let now_so = true_of g f.now a is.now now judged refl stood_now in
        let change : f.change ≡ change_of (interval_of g.table.classes is.before.line) (interval_of g.table.classes is.now.line) =
        (is.change ∙ ap (λ (r : ClassRow). change_of r f.now) is.before.is ∙ ap (change_of (interval_of g.table.classes is.before.line)) is.now.is) in
        subst (ChangeSays g.table (statements_in before) (statements_in now) a) (sym change)
        (changes-true.says g.table (statements_in before) (statements_in now) a is.before.line is.now.line was now_so)

pub class_changes_mean : (g : Ground) (fs : List ClassChangeFound) (f : ClassChangeFound) (row : RowChange) → IsJudged g → AreClassChanges (class_times g.table g.session g.kept) (turns (class_times g.table g.session g.kept)) fs → Contains fs f → Contains f.rows row → MeansRowChange g row
class_changes_mean g fs f row judged are there row_there =
    row_means g row judged (held_in (IsRowChange g) f.rows row (found_rows g fs f are there) row_there)
