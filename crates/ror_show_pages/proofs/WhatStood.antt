-- That the lines of which a page names parts of what stood are kept with that.
use Rattle.std.proofs.Common.{◌≡◌, ℕ, Bool, true, false, List, [], ◌∷◌, ◌++◌, length, map, Option, Some, None, refl, sym, ap, subst, ◌∙◌}
use Rattle.std.specs.Prelude.{zero, suc, ◌&&◌, ◌==◌, slice_get, if◌then◌else◌}
use Rattle.std.specs.List.{AllByRecursion}
use Rattle.ror_text.proofs.Everywhere.{all-append}
use Rattle.ror_statement.specs.declared.statement.Numbered.{Numbered}
use Rattle.ror_session.specs.declared.session.Asked.{Asked}
use Rattle.ror_session.specs.declared.session.Asked.TheVariants as asked
use Rattle.ror_session.specs.declared.session.Command.{Command}
use Rattle.ror_session.specs.declared.session.Command.TheVariants.{State, Withdraw, Replace, Repair, Undo, Ask}
use Rattle.ror_session.specs.declared.session.Line.{Line}
use Rattle.ror_session.specs.Sound.{desk_name}
use Rattle.ror_report.specs.declared.block.Block.{Block}
use Rattle.ror_history.specs.History.{Revisions, standing}
use Rattle.ror_bench.specs.declared.kept.Keep.{Keep}
use Rattle.ror_bench.specs.declared.kept.Keep.TheVariants as keeping
use Rattle.ror_bench.specs.declared.kept.KeptLine.{KeptLine}
use Rattle.ror_bench.specs.Bench.{Workbench}
use Rattle.ror_bench.specs.Kept.{keep_at, standing_for, kept_of, kept_from}
use Rattle.ror_bench.specs.Reports.{revisions_then}
use Rattle.ror_show_find_classes.specs.Times.{keep_for}
use Rattle.ror_show_words.specs.declared.table.Page.{Page}
use Rattle.ror_show_words.specs.declared.table.Page.TheVariants as pages
use Rattle.ror_show_words.specs.declared.words.Form.{Form}
use Rattle.ror_show_words.specs.declared.words.Form.TheVariants.{Text, Csv, Dot, Certificates}
use Rattle.ror_show_words.specs.Words.{PageWords}
use Rattle.ror_frame.specs.Inputs.{bench_for}
use Rattle.ror_show_pages.specs.Choosing.{asks_relation, asks_for_list, is_line, keep_where, keep_for_changes, keep_for_whatif}
use Rattle.ror_show_find_roll.specs.Choosing.{is_desk}
use Rattle.ror_show_pages.specs.PageLaws.{names_parts, is_question, asks_at, RelationsHaveWhatStood, AskedHaveWhatStood}
use Rattle.ror_show_pages.specs.Pages.{keep_of, keeps, keep_for_reasons, page_of}
use Rattle.ror_show_pages.proofs.ClassTruth.{kept_there}

abbrev NoBlock : Keep → Type 0
NoBlock keep = keep ≡ keeping.Block → ⊥

no_block : (form : Form) (words : PageWords) (desks : List (List ℕ)) (line : Line) → NoBlock (keep_of (page_of pages.Relation form) words.line words.desk desks line)
no_block form words desks line = by (is_desk words.desk (desk_name desks line)) (asks_relation line.command && is_line words.line line.number)
  where
    by : (b c : Bool) → NoBlock (if b then keep_where c keeping.Standing else keeping.Nothing)
    by true true is = cc
    by true false is = cc
    by false c is = cc

none_block : (form : Form) (words : PageWords) (desks : List (List ℕ)) (lines : List Line) → AllByRecursion NoBlock (map (keep_of (page_of pages.Relation form) words.line words.desk desks) lines)
none_block form words desks [] = tt
none_block form words desks (line ∷ lines) = (no_block form words desks line, none_block form words desks lines)

no_block_at : (keep : List Keep) (n : ℕ) → AllByRecursion NoBlock keep → NoBlock (keep_at keep n)
no_block_at [] n all is = cc
no_block_at (k ∷ ks) zero all is = all.0 is
no_block_at (k ∷ ks) (suc n) all is = no_block_at ks n all.1 is

abbrev HasStood : KeptLine → Type 0
HasStood x = (list : List Numbered) × (x.standing ≡ Some list)

line_stood : (place : ℕ) (keep : Keep) (r : Revisions) (block : Block) → NoBlock keep → AllByRecursion HasStood (kept_of place keep (standing_for keep r) block)
line_stood place keeping.Nothing r block no_ = tt
line_stood place keeping.Block r block no_ = absurd (no_ refl)
line_stood place keeping.Standing r block no_ = ((standing r, refl), tt)

each_stood : (bench : Workbench) (keep : List Keep) (before : List (Line × Block)) (lines : List Line) (blocks : List Block) → AllByRecursion NoBlock keep → AllByRecursion HasStood (kept_from bench keep before lines blocks)
each_stood bench keep before [] [] no_ = tt
each_stood bench keep before [] (block ∷ blocks) no_ = tt
each_stood bench keep before (line ∷ lines) [] no_ = tt
each_stood bench keep before (line ∷ lines) (block ∷ blocks) no_ =
    all-append HasStood _ _ (line_stood (length before) (keep_at keep (length before)) (revisions_then bench before line.desk) block (no_block_at keep (length before) no_)) (each_stood bench keep (before ++ (line, block) ∷ []) lines blocks no_)

pub relations_have_what_stood : RelationsHaveWhatStood
relations_have_what_stood form words i s blocks =
    each_stood (bench_for i s) (keeps (page_of pages.Relation form) words.line words.desk s) [] s.lines blocks (none_block form words s.desks s.lines)

-- ---- the lines that ask, of each page that names parts of what stood

no_block_of : (c : Command) → is_question c ≡ true → NoBlock (keep_for c)
no_block_of (Ask asked.Consistent) is at = cc
no_block_of (Ask (asked.Necessary a b)) is at = cc
no_block_of (Ask (asked.Possible a b)) is at = cc
no_block_of (Ask (asked.NecessaryStrength p q on)) is at = cc
no_block_of (Ask (asked.PossibleStrength p q on)) is at = cc
no_block_of (Ask (asked.PossibleClass a h)) is at = cc
no_block_of (Ask (asked.NecessaryClass a h)) is at = cc
no_block_of (Ask (asked.Classes a)) is at = cc
no_block_of (Ask asked.Relation) is at = cc
no_block_of (State named) is at = absurd cc
no_block_of (Withdraw n) is at = absurd cc
no_block_of (Replace n named) is at = absurd cc
no_block_of Repair is at = absurd cc
no_block_of Undo is at = absurd cc

no_block_of_change : (c : Command) → is_question c ≡ true → NoBlock (keep_for_changes c)
no_block_of_change (Ask asked.Consistent) is at = cc
no_block_of_change (Ask (asked.Necessary a b)) is at = cc
no_block_of_change (Ask (asked.Possible a b)) is at = cc
no_block_of_change (Ask (asked.NecessaryStrength p q on)) is at = cc
no_block_of_change (Ask (asked.PossibleStrength p q on)) is at = cc
no_block_of_change (Ask (asked.PossibleClass a h)) is at = cc
no_block_of_change (Ask (asked.NecessaryClass a h)) is at = cc
no_block_of_change (Ask (asked.Classes a)) is at = cc
no_block_of_change (Ask asked.Relation) is at = cc
no_block_of_change (State named) is at = absurd cc
no_block_of_change (Withdraw n) is at = absurd cc
no_block_of_change (Replace n named) is at = absurd cc
no_block_of_change Repair is at = absurd cc
no_block_of_change Undo is at = absurd cc

not_block : (meant : Bool) → NoBlock (keep_where meant keeping.Standing)
not_block true is = cc
not_block false is = cc

no_block_for : (form : Form) (meant : Option ℕ) (number : ℕ) (asks : Asked) → NoBlock (keep_for_reasons form meant number (Ask asks))
no_block_for Text meant number asks = not_block (is_line meant number)
no_block_for Csv meant number asks = not_block (is_line meant number)
no_block_for Dot meant number asks = not_block (is_line meant number)
no_block_for Certificates meant number asks = not_block (is_line meant number)

no_block_of_reason : (form : Form) (meant : Option ℕ) (number : ℕ) (c : Command) → is_question c ≡ true → NoBlock (keep_for_reasons form meant number c)
no_block_of_reason form meant number (Ask asks) is = no_block_for form meant number asks
no_block_of_reason form meant number (State named) is = absurd cc
no_block_of_reason form meant number (Withdraw n) is = absurd cc
no_block_of_reason form meant number (Replace n named) is = absurd cc
no_block_of_reason form meant number Repair is = absurd cc
no_block_of_reason form meant number Undo is = absurd cc

no_block_of_whatif : (meant : Option ℕ) (number : ℕ) (c : Command) → is_question c ≡ true → NoBlock (keep_for_whatif meant number c)
no_block_of_whatif None number c asks = no_block_of_change c asks
no_block_of_whatif (Some n) number c asks = not_block (asks_for_list c && (n == number))

no_block_asked : (page : Page) (form : Form) (words : PageWords) (desks : List (List ℕ)) (line : Line) → names_parts page Text ≡ true → is_question line.command ≡ true → NoBlock (keep_of (page_of page form) words.line words.desk desks line)
no_block_asked pages.Relation form words desks line names asks = no_block form words desks line
no_block_asked pages.Changes form words desks line names asks = by (is_desk words.desk (desk_name desks line)) (no_block_of_change line.command asks)
  where
    by : (b : Bool) → NoBlock (keep_for_changes line.command) → NoBlock (if b then keep_for_changes line.command else keeping.Nothing)
    by true no_ at = no_ at
    by false no_ at = cc
no_block_asked pages.Classes form words desks line names asks = by (is_desk words.desk (desk_name desks line)) (no_block_of line.command asks)
  where
    by : (b : Bool) → NoBlock (keep_for line.command) → NoBlock (if b then keep_for line.command else keeping.Nothing)
    by true no_ at = no_ at
    by false no_ at = cc
no_block_asked pages.Standing form words desks line names asks = absurd cc
no_block_asked pages.Functions form words desks line names asks = absurd cc
no_block_asked pages.Reasons form words desks line names asks = by (is_desk words.desk (desk_name desks line)) (no_block_of_reason form words.line line.number line.command asks)
  where
    by : (b : Bool) → NoBlock (keep_for_reasons form words.line line.number line.command) → NoBlock (if b then keep_for_reasons form words.line line.number line.command else keeping.Nothing)
    by true no_ at = no_ at
    by false no_ at = cc
no_block_asked pages.WhatIf form words desks line names asks = by (is_desk words.desk (desk_name desks line)) (no_block_of_whatif words.line line.number line.command asks)
  where
    by : (b : Bool) → NoBlock (keep_for_whatif words.line line.number line.command) → NoBlock (if b then keep_for_whatif words.line line.number line.command else keeping.Nothing)
    by true no_ at = no_ at
    by false no_ at = cc

abbrev AskedStood : List Line → KeptLine → Type 0
AskedStood all x = asks_at (slice_get all x.place) ≡ true → HasStood x

asked_stood : (all : List Line) (place : ℕ) (line : Line) (keep : Keep) (r : Revisions) (block : Block) → slice_get all place ≡ Some line → (is_question line.command ≡ true → NoBlock keep) → AllByRecursion (AskedStood all) (kept_of place keep (standing_for keep r) block)
asked_stood all place line keeping.Nothing r block here no_ = tt
asked_stood all place line keeping.Block r block here no_ = (λ asks. absurd (no_ (ap asks_at (sym here) ∙ asks) refl), tt)
asked_stood all place line keeping.Standing r block here no_ = (λ asks. (standing r, refl), tt)

at_seam : (before : List (Line × Block)) (line : Line) (lines : List Line) → slice_get (map (λ pair. pair.0) before ++ line ∷ lines) (length before) ≡ Some line
at_seam [] line lines = refl
at_seam (pair ∷ pairs) line lines = at_seam pairs line lines

one_further : (before : List (Line × Block)) (line : Line) (block : Block) (lines : List Line) → map (λ pair. pair.0) before ++ line ∷ lines ≡ map (λ pair. pair.0) (before ++ (line, block) ∷ []) ++ lines
one_further [] line block lines = refl
one_further (pair ∷ pairs) line block lines = ap (λ (ls : List Line). pair.0 ∷ ls) (one_further pairs line block lines)

each_asked : (f : Line → Keep) → ((line : Line) → is_question line.command ≡ true → NoBlock (f line)) → (bench : Workbench) (all : List Line) (before : List (Line × Block)) (lines : List Line) (blocks : List Block) → all ≡ map (λ pair. pair.0) before ++ lines → AllByRecursion (AskedStood all) (kept_from bench (map f all) before lines blocks)
each_asked f no_ bench all before [] [] split = tt
each_asked f no_ bench all before [] (block ∷ blocks) split = tt
each_asked f no_ bench all before (line ∷ lines) [] split = tt
each_asked f no_ bench all before (line ∷ lines) (block ∷ blocks) split =
    let here : slice_get all (length before) ≡ Some line = ap (λ (ls : List Line). slice_get ls (length before)) split ∙ at_seam before line lines in
    let keep : keep_at (map f all) (length before) ≡ f line = kept_there f all (length before) line here in
    let enough : is_question line.command ≡ true → NoBlock (keep_at (map f all) (length before)) = λ asks. subst NoBlock (sym keep) (no_ line asks) in
    all-append (AskedStood all) _ _ (asked_stood all (length before) line (keep_at (map f all) (length before)) (revisions_then bench before line.desk) block here enough) (each_asked f no_ bench all (before ++ (line, block) ∷ []) lines blocks (split ∙ one_further before line block lines))

pub asked_have_what_stood : AskedHaveWhatStood
asked_have_what_stood page form words i s blocks names =
    each_asked (keep_of (page_of page form) words.line words.desk s.desks) (λ line. no_block_asked page form words s.desks line names) (bench_for i s) s.lines [] s.lines blocks refl
