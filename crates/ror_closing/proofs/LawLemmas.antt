-- That closing lists are one, and what any report of the session leaves.
use Rattle.std.proofs.Common.{append-nil, append_assoc, inl, inr, ◌≡◌, ℕ, List, [], ◌∷◌, ◌++◌, length, refl, sym, ap, ◌∙◌, subst}
use Rattle.std.specs.Prelude.{cond}
use Rattle.std.specs.List.{AllByRecursion}
use Rattle.ror_table.specs.Table.{DecisionTable}
use Rattle.ror_session.specs.declared.session.Line.{Line}
use Rattle.ror_session.specs.declared.session.Command.{Command}
use Rattle.ror_session.specs.declared.session.Command.TheVariants.{State, Withdraw, Replace, Repair, Undo, Ask}
use Rattle.ror_report.specs.declared.block.Block.{Block}
use Rattle.ror_report.specs.declared.block.Body.{Body}
use Rattle.ror_report.specs.declared.block.Body.TheVariants as bodies
use Rattle.ror_report.specs.declared.block.LineFault.{LineFault}
use Rattle.ror_history.specs.History.{Revisions}
use Rattle.ror_bench.specs.Allowed.{given_at, proved_unless_wide}
use Rattle.ror_bench.specs.Bench.{Workbench}
use Rattle.ror_bench.specs.Blocks.{IsBodyOf, refused, taken, IsBlockOf, IsProvedBlock, NeedsNoSearch, revisions_with}
use Rattle.ror_bench.specs.Desks.{with_blocks}
use Rattle.ror_bench.specs.Reports.{EachHolds, revisions_then}
use Rattle.ror_bench.specs.Rooms.{may_revise}
use Rattle.ror_bench.proofs.CommandLemmas.{one_refusal}
use Rattle.ror_bench.proofs.ReplayLemmas.{block_proved, each_by}
use Rattle.ror_bench.proofs.ReportProofs.{number_cases, then_at_own, then_at_other}
use Rattle.ror_bench.proofs.SameLemmas.{same_back}
use Rattle.ror_closing.specs.Closing.{IsUnsuited, AreSuited, revision_lines, lists_after}
use Rattle.ror_closing.specs.Laws.{OneClosing, ClosesReports, ClosesReplays, OneFirstUnsuited}
use Rattle.ror_closing.proofs.ClosingLemmas.{lists_by, closing_same}

-- ---- a line that needs no search has one block

module _ (t : DecisionTable) (r : Revisions) where
  plain_body : (command : Command) (a b : Body) → NeedsNoSearch command → IsBodyOf proved_unless_wide t r command a → IsBodyOf proved_unless_wide t r command b → a ≡ b
  plain_body command a b plain (refused f first of_a) (refused g second of_b) = of_a ∙ ap (λ (x : LineFault). bodies.Refused x) (one_refusal t r command f g first second) ∙ sym of_b
  plain_body command a b plain (refused f first of_a) (taken passes of_b) = absurd (passes f first.fails)
  plain_body command a b plain (taken passes of_a) (refused g second of_b) = absurd (passes g second.fails)
  plain_body (State named) a b plain (taken passes of_a) (taken likewise of_b) = of_a ∙ sym of_b
  plain_body (Withdraw n) a b plain (taken passes of_a) (taken likewise of_b) = of_a ∙ sym of_b
  plain_body (Replace n named) a b plain (taken passes of_a) (taken likewise of_b) = of_a ∙ sym of_b
  plain_body Repair a b plain (taken passes of_a) (taken likewise of_b) = absurd plain
  plain_body Undo a b plain (taken passes of_a) (taken likewise of_b) = of_a ∙ sym of_b
  plain_body (Ask asked) a b plain (taken passes of_a) (taken likewise of_b) = absurd plain

  plain_block : (line : Line) (x y : Block) → NeedsNoSearch line.command → IsProvedBlock t r line x → IsProvedBlock t r line y → x ≡ y
  plain_block line x y plain one other =
      ap (λ (n : ℕ). record { line = n; body = x.body }) (one.number ∙ sym other.number) ∙ ap (λ (b : Body). record { line = y.line; body = b }) (plain_body line.command x.body y.body plain one.body other.body)

  -- and a line that asks leaves what its desk holds
  asked_stays : (asked : _) (body : Body) → IsBodyOf proved_unless_wide t r (Ask asked) body → revisions_with t r (Ask asked) body ≡ r
  asked_stays asked body (refused fault first is) = ap (revisions_with t r (Ask asked)) is
  asked_stays asked body (taken passes is) = ap (revisions_with t r (Ask asked)) is.0

-- lines without repairs that don't ask
pub plain_lines : (lines : List Line) → AreSuited lines → AllByRecursion (λ (line : Line). NeedsNoSearch line.command) (revision_lines lines)
plain_lines [] suited = tt
plain_lines (line ∷ lines) suited = by line.command refl (plain_lines lines suited.1)
  where
    by : (command : Command) → line.command ≡ command → AllByRecursion (λ (l : Line). NeedsNoSearch l.command) (revision_lines lines) → AllByRecursion (λ (l : Line). NeedsNoSearch l.command) (cond (may_revise command) (line ∷ revision_lines lines) (revision_lines lines))
    by (State named) is rest = (subst NeedsNoSearch (sym is) tt, rest)
    by (Withdraw n) is rest = (subst NeedsNoSearch (sym is) tt, rest)
    by (Replace n named) is rest = (subst NeedsNoSearch (sym is) tt, rest)
    by Repair is rest = absurd (suited.0 is)
    by Undo is rest = (subst NeedsNoSearch (sym is) tt, rest)
    by (Ask asked) is rest = rest

module _ (bench : Workbench) where
  abbrev Holds : List (Line × Block) → List Line → List Block → Type 0
  Holds before lines blocks = EachHolds (IsProvedBlock bench.table) bench before lines blocks

  pub one_each : (before : List (Line × Block)) (lines : List Line) (xs ys : List Block) → AllByRecursion (λ (line : Line). NeedsNoSearch line.command) lines → Holds before lines xs → Holds before lines ys → xs ≡ ys
  one_each before [] [] [] plain one other = refl
  one_each before [] [] (y ∷ ys) plain one other = absurd other
  one_each before [] (x ∷ xs) ys plain one other = absurd one
  one_each before (line ∷ lines) [] ys plain one other = absurd one
  one_each before (line ∷ lines) (x ∷ xs) [] plain one other = absurd other
  one_each before (line ∷ lines) (x ∷ xs) (y ∷ ys) plain one other =
      let here : y ≡ x = plain_block bench.table (revisions_then bench before line.desk) line y x plain.0 other.0 one.0 in
      let rest = subst (λ (b : Block). Holds (before ++ (line, b) ∷ []) lines ys) here other.1 in
      ap (λ (l : List Block). x ∷ l) (one_each (before ++ (line, x) ∷ []) lines xs ys plain.1 one.1 rest) ∙ ap (λ (b : Block). b ∷ ys) (sym here)

  -- ---- a report of all lines leaves what its blocks of lines that don't ask leave

  -- two lists of lines with their blocks leave the same at each desk
  abbrev LeaveTheSame : List (Line × Block) → List (Line × Block) → Type 0
  LeaveTheSame all some = (desk : ℕ) → revisions_then bench all desk ≡ revisions_then bench some desk

  -- a line that asks leaves what is held, at its desk and elsewhere
  asked_same : (all some : List (Line × Block)) (line : Line) (block : Block) (asked : _) → line.command ≡ Ask asked → IsProvedBlock bench.table (revisions_then bench all line.desk) line block → LeaveTheSame all some → LeaveTheSame (all ++ (line, block) ∷ []) some
  asked_same all some line block asked is of same desk = elim (number_cases line.desk desk) [
    | inl own ↦
        let r = revisions_then bench all desk in
        let body = subst (λ (c : Command). IsBodyOf proved_unless_wide bench.table r c block.body) is (subst (λ (d : ℕ). IsBodyOf proved_unless_wide bench.table (revisions_then bench all d) line.command block.body) own of.body) in
        then_at_own bench all line block desk own
        ∙ ap (λ (c : Command). revisions_with bench.table r c block.body) is
        ∙ asked_stays bench.table r asked block.body body ∙ same desk
    | inr other ↦ then_at_other bench all line block desk other ∙ same desk
  ]

  -- any line does the same to both
  more_same : (all some : List (Line × Block)) (line : Line) (block : Block) → LeaveTheSame all some → LeaveTheSame (all ++ (line, block) ∷ []) (some ++ (line, block) ∷ [])
  more_same all some line block same desk = elim (number_cases line.desk desk) [
    | inl own ↦
        then_at_own bench all line block desk own
        ∙ ap (λ (r : Revisions). revisions_with bench.table r line.command block.body) (same desk)
        ∙ sym (then_at_own bench some line block desk own)
    | inr other ↦ then_at_other bench all line block desk other ∙ same desk ∙ sym (then_at_other bench some line block desk other)
  ]

  -- the blocks of these lines after those leave what all do
  record HaveChosen (all some : List (Line × Block)) (lines : List Line) : Type 0 where
    chosen : List Block
    each : Holds some lines chosen
    same : LeaveTheSame all (some ++ with_blocks lines chosen)

  chosen_here : (all some : List (Line × Block)) (line : Line) (block : Block) (lines : List Line) → IsProvedBlock bench.table (revisions_then bench all line.desk) line block → revisions_then bench all line.desk ≡ revisions_then bench some line.desk → (rest : List (Line × Block)) → HaveChosen rest (some ++ (line, block) ∷ []) lines → HaveChosen rest some (line ∷ lines)
  chosen_here all some line block lines of here rest more = record {
    chosen = block ∷ more.chosen;
    each = (subst (λ (r : Revisions). IsProvedBlock bench.table r line block) here of, more.each);
    same = λ desk. more.same desk ∙ ap (λ (l : List (Line × Block)). revisions_then bench l desk) (append_assoc some ((line, block) ∷ []) (with_blocks lines more.chosen));
  }

  choose : (all some : List (Line × Block)) (lines : List Line) (blocks : List Block) → AreSuited lines → LeaveTheSame all some → Holds all lines blocks → HaveChosen (all ++ with_blocks lines blocks) some (revision_lines lines)
  choose all some [] [] suited same each = record {
    chosen = [];
    each = tt;
    same = λ desk. ap (λ (l : List (Line × Block)). revisions_then bench l desk) (append-nil all) ∙ same desk ∙ ap (λ (l : List (Line × Block)). revisions_then bench l desk) (sym (append-nil some));
  }
  choose all some [] (block ∷ blocks) suited same each = absurd each
  choose all some (line ∷ lines) [] suited same each = absurd each
  choose all some (line ∷ lines) (block ∷ blocks) suited same each =
      subst (λ (l : List (Line × Block)). HaveChosen l some (revision_lines (line ∷ lines))) (append_assoc all ((line, block) ∷ []) (with_blocks lines blocks))
      (by line.command refl
      (λ held. chosen_here all some line block (revision_lines lines) each.0 (same line.desk) ((all ++ (line, block) ∷ []) ++ with_blocks lines blocks) (choose (all ++ (line, block) ∷ []) (some ++ (line, block) ∷ []) lines blocks suited.1 held each.1))
      (λ held. choose (all ++ (line, block) ∷ []) some lines blocks suited.1 held each.1))
    where
      by : (command : Command) → line.command ≡ command
          → (LeaveTheSame (all ++ (line, block) ∷ []) (some ++ (line, block) ∷ []) → HaveChosen ((all ++ (line, block) ∷ []) ++ with_blocks lines blocks) some (line ∷ revision_lines lines))
          → (LeaveTheSame (all ++ (line, block) ∷ []) some → HaveChosen ((all ++ (line, block) ∷ []) ++ with_blocks lines blocks) some (revision_lines lines))
          → HaveChosen ((all ++ (line, block) ∷ []) ++ with_blocks lines blocks) some (cond (may_revise command) (line ∷ revision_lines lines) (revision_lines lines))
      by (State named) is kept past = kept (more_same all some line block same)
      by (Withdraw n) is kept past = kept (more_same all some line block same)
      by (Replace n named) is kept past = kept (more_same all some line block same)
      by Repair is kept past = kept (more_same all some line block same)
      by Undo is kept past = kept (more_same all some line block same)
      by (Ask asked) is kept past = past (asked_same all some line block asked is each.0 same)

-- ---- the laws

pub one_closing : OneClosing
one_closing one other lines xs ys same suited first second =
    let back = closing_same other one (same_back one other same) lines ys second in
    let blocks : first.blocks ≡ back.blocks = one_each one [] (revision_lines lines) first.blocks back.blocks (plain_lines lines suited) first.each back.each in
    first.lists_are ∙ ap (λ (bs : List Block). lists_after one (with_blocks (revision_lines lines) bs)) blocks ∙ sym back.lists_are

pub closes_reports : ClosesReports
closes_reports bench lines blocks lists suited each closing =
    let found = choose bench [] [] lines blocks suited (λ desk. refl) each in
    let one : closing.blocks ≡ found.chosen = one_each bench [] (revision_lines lines) closing.blocks found.chosen (plain_lines lines suited) closing.each found.each in
    closing.lists_are
    ∙ ap (λ (bs : List Block). lists_after bench (with_blocks (revision_lines lines) bs)) one
    ∙ lists_by (λ (desk : ℕ). revisions_then bench (with_blocks (revision_lines lines) found.chosen) desk) (λ (desk : ℕ). revisions_then bench (with_blocks lines blocks) desk) (length bench.state) (length bench.state) refl (λ desk below. sym (found.same desk))

pub closes_replays : ClosesReplays
closes_replays most bench lines blocks lists suited made closing =
    closes_reports bench lines blocks lists suited
    (each_by (IsBlockOf (given_at most) bench.table) (IsProvedBlock bench.table) (λ r line block of. block_proved most bench.table r line block of) bench [] lines blocks made.given)
    closing

-- ---- the first line of a kind

pub first_split : (P : Line → Type 0) (lines before other_before : List Line) (line other : Line) (after other_after : List Line) → lines ≡ before ++ line ∷ after → lines ≡ other_before ++ other ∷ other_after → AllByRecursion (λ l. ¬ (P l)) before → AllByRecursion (λ l. ¬ (P l)) other_before → P line → P other → line ≡ other
first_split P lines [] [] line other after other_after one two fit likewise is too = (let both = sym one ∙ two in cc)
first_split P lines [] (y ∷ ys) line other after other_after one two fit likewise is too =
    let same : line ≡ y = (let both = sym one ∙ two in cc) in
    absurd (likewise.0 (subst P same is))
first_split P lines (x ∷ xs) [] line other after other_after one two fit likewise is too =
    let same : other ≡ x = (let both = sym two ∙ one in cc) in
    absurd (fit.0 (subst P same too))
first_split P lines (x ∷ xs) (y ∷ ys) line other after other_after one two fit likewise is too =
    let rest : xs ++ line ∷ after ≡ ys ++ other ∷ other_after = (let both = sym one ∙ two in cc) in
    first_split P (xs ++ line ∷ after) xs ys line other after other_after refl rest fit.1 likewise.1 is too

pub no_line : (P : Line → Type 0) (before : List Line) (line : Line) (after : List Line) → P line → AllByRecursion (λ l. ¬ (P l)) (before ++ line ∷ after) → ⊥
no_line P [] line after is fit = fit.0 is
no_line P (x ∷ xs) line after is fit = no_line P xs line after is fit.1

-- ---- the first unsuited line

pub one_first_unsuited : OneFirstUnsuited
one_first_unsuited = record {
  one = λ lines m n first second. first.number_is
      ∙ ap (λ (l : Line). l.number) (first_split IsUnsuited lines first.before second.before first.line second.line first.after second.after first.split second.split first.suited_before second.suited_before first.unsuited second.unsuited)
      ∙ sym second.number_is;
  not_suited = λ lines n first suited. no_line IsUnsuited first.before first.line first.after first.unsuited (subst AreSuited first.split suited);
}
