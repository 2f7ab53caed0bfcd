-- That the signs of a time are true of what stood at it.
use Rattle.std.proofs.Common.{◌≡◌, ℕ, zero, suc, Bool, true, List, [], ◌∷◌, Option, Some, None, sym, ap, ◌∙◌, map}
use Rattle.std.specs.Prelude.{slice_get, slice_index_or, if◌then◌else◌}
use Rattle.std.specs.List.{AllByRecursion}
use Rattle.std.specs.Option.{option_map_or}
use Rattle.ror_text.proofs.Everywhere.{all-by, all_at}
use Rattle.ror_statement.specs.declared.statement.Numbered.{Numbered}
use Rattle.ror_statement.specs.Statements.{statements_in}
use Rattle.ror_table.specs.Table.{DecisionTable}
use Rattle.ror_session.specs.declared.session.Line.{Line}
use Rattle.ror_session.specs.declared.session.Session.{Session}
use Rattle.ror_report.specs.Text.{answers_of}
use Rattle.ror_bench.specs.declared.kept.Keep.{Keep}
use Rattle.ror_bench.specs.declared.kept.Keep.TheVariants.{Nothing}
use Rattle.ror_bench.specs.declared.kept.KeptLine.{KeptLine}
use Rattle.ror_bench.specs.Kept.{keep_at}
use Rattle.ror_show_find_classes.specs.Laws.{KeepsAtDesk, StoodAt}
use Rattle.ror_show_find_classes.specs.Signs.{alternative_of}
use Rattle.ror_show_find_classes.specs.Times.{keep_for, rows}
use Rattle.ror_show_find_classes.proofs.SignLemmas.{signs-true}
use Rattle.ror_show_find_classes.proofs.TimeLemmas.{one_list}
use Rattle.ror_show_words.specs.declared.table.Page.TheVariants as pages
use Rattle.ror_show_words.specs.Words.{PageWords}
use Rattle.ror_frame.specs.Inputs.{bench_for}
use Rattle.ror_show_find_roll.specs.Choosing.{is_desk}
use Rattle.ror_show_pages.specs.PageLaws.{IsTrueRow, ClassesAreTrue, kept_for}
use Rattle.ror_show_pages.specs.Pages.{keep_of, keeps, page_of}
use Rattle.ror_show_pages.proofs.Truth.{HasTrueAnswers, answers_true}
use Rattle.ror_show_words.specs.declared.words.Form.{Form}

-- ---- what is kept

pub kept_there : (f : Line → Keep) (lines : List Line) (place : ℕ) (line : Line) → slice_get lines place ≡ Some line → keep_at (map f lines) place ≡ f line
kept_there f [] zero line is = absurd cc
kept_there f [] (suc place) line is = absurd cc
kept_there f (x ∷ xs) zero line is = let same : x ≡ line = cc in ap f same
kept_there f (x ∷ xs) (suc place) line is = kept_there f xs place line is

kept_enough : (form : Form) (words : PageWords) (s : Session) (desk : ℕ) → is_desk words.desk (slice_index_or s.desks desk []) ≡ true → KeepsAtDesk (keeps (page_of pages.Classes form) words.line words.desk s) s.lines desk
kept_enough form words s desk meant place line is own =
    kept_there (keep_of (page_of pages.Classes form) words.line words.desk s.desks) s.lines place line is
    ∙ ap (λ (d : ℕ). if is_desk words.desk (slice_index_or s.desks d []) then keep_for line.command else Nothing) own
    ∙ ap (λ (b : Bool). if b then keep_for line.command else Nothing) meant

-- ---- a row

row_true : (t : DecisionTable) (kept : List KeptLine) (list : List Numbered) → AllByRecursion (HasTrueAnswers t) kept → (n : ℕ) → StoodAt kept list n → IsTrueRow t kept list n
row_true t kept list all n stood x at =
    let here : x.standing ≡ Some list = sym (ap (λ (y : Option KeptLine). option_map_or (λ z. z.standing) y None) at) ∙ stood in
    (here, λ h. signs-true t (statements_in list) (answers_of x.block.body) (alternative_of (answers_of x.block.body)) h (all_at (HasTrueAnswers t) kept n x all at list here))

pub classes_are_true : ClassesAreTrue
classes_are_true form words i s bytes accepted desk n lawful report meant is =
    let kept = kept_for pages.Classes form words i s report.blocks in
    let one = one_list (bench_for i s) (keeps (page_of pages.Classes form) words.line words.desk s) s report.blocks desk n (kept_enough form words s desk meant) report.proved is in
    let true_answers = answers_true i s bytes accepted (keeps (page_of pages.Classes form) words.line words.desk s) lawful report in
    (one.0, all-by (StoodAt kept one.0) (IsTrueRow i.table kept one.0) (rows s kept n desk) (row_true i.table kept one.0 true_answers) one.1)
