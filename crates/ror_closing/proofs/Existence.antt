-- Suited lines have closing lists.
use Rattle.std.proofs.Common.{◌≡◌, ◌⊎◌, ℕ, ◌==◌, List, [], ◌∷◌, ◌++◌, length, Result, Ok, Err, refl, sym, ◌∙◌, subst, inl, inr, eqb-true}
use Rattle.std.specs.List.{AllByRecursion, Contains}
use Rattle.std.proofs.lemmas.Bool.{cases_Bool, cases_lt}
use Rattle.std.proofs.lemmas.List.Elements.{All-head, All-nil, All-cons}
use Rattle.ror_chain.proofs.OrderLemmas.{Absent, distinct_from_Apart, absent_not_contained, Contains-cut, Contains-wider}
use Rattle.ror_table.specs.Table.{DecisionTable}
use Rattle.ror_statement.specs.declared.row_number.TheConstants.{MOST_STATEMENTS, MOST_ROWS}
use Rattle.ror_statement.specs.declared.statement.Statement.{Statement}
use Rattle.ror_statement.specs.RowNumbers.{row_count}
use Rattle.ror_statement.specs.Statements.{numbers_in}
use Rattle.ror_session.specs.declared.session.Line.{Line}
use Rattle.ror_session.specs.declared.session.Named.{Named}
use Rattle.ror_session.specs.declared.session.Command.{Command}
use Rattle.ror_session.specs.declared.session.Command.TheVariants.{State, Withdraw, Replace, Repair, Undo, Ask}
use Rattle.ror_report.specs.declared.block.Block.{Block}
use Rattle.ror_report.specs.declared.block.Body.{Body}
use Rattle.ror_report.specs.declared.block.Body.TheVariants as bodies
use Rattle.ror_report.specs.declared.block.LineFault.{LineFault}
use Rattle.ror_report.specs.declared.block.LineFault.TheVariants as faults
use Rattle.ror_history.specs.declared.history.HistoryFault.TheVariants as histories
use Rattle.ror_history.specs.History.{Revision, Revisions, replacement, standing, statements_of, with_revision, next_number}
use Rattle.ror_history.specs.Faults.{Stands}
use Rattle.ror_history.proofs.FaultLemmas.{full, past_rows, not_standing, past_rows_replaced, not_each_once}
use Rattle.ror_bench.specs.Allowed.{proved_unless_wide}
use Rattle.ror_bench.specs.Bench.{Workbench}
use Rattle.ror_bench.specs.Blocks.{IsBodyOf, refused, taken, IsProvedBlock, NeedsNoSearch}
use Rattle.ror_bench.specs.Desks.{with_blocks}
use Rattle.ror_bench.specs.Lines.{IsRefusedFor, IsTaken}
use Rattle.ror_bench.specs.Names.{statement_of}
use Rattle.ror_bench.specs.Reports.{EachHolds, revisions_then}
use Rattle.ror_bench.proofs.CommandLemmas.{statement_refused, added_taken, added_refused, withdrawn_taken, withdrawn_refused, replacement_refused, replaced_taken, replaced_refused, undo_taken, undone_refused}
use Rattle.ror_closing.specs.Closing.{revision_lines, lists_after}
use Rattle.ror_closing.specs.Laws.{HaveClosing}
use Rattle.ror_closing.proofs.LawLemmas.{plain_lines}

-- ---- a command is refused or taken

module _ (t : DecisionTable) (r : Revisions) where
  abbrev IsSettled : Command → Type 0
  IsSettled command = ((fault : LineFault) × IsRefusedFor t r command fault) ⊎ IsTaken t r command

  stated : (named : Named) (said : Result Statement LineFault) → statement_of t named ≡ said → IsSettled (State named)
  stated named (Err fault) e = inl (fault, statement_refused t r named fault e)
  stated named (Ok s) e = elim (cases_lt (length (standing r)) MOST_STATEMENTS) [
    | inl few ↦ elim (cases_lt MOST_ROWS (row_count (statements_of r ++ s ∷ []))) [
      | inl many ↦ inl (faults.TooManyRows, added_refused t r named s histories.TooManyRows e (past_rows r s few many))
      | inr rows ↦ inr (added_taken t r named s e (record { few = few; rows = rows }))
    ]
    | inr many ↦ inl (faults.TooManyStatements, added_refused t r named s histories.TooManyStatements e (full r s many))
  ]

  absent_or : (n : ℕ) (xs : List ℕ) → Absent n xs ⊎ Contains xs n
  absent_or n [] = inl tt
  absent_or n (x ∷ xs) = elim (cases_Bool (x == n)) [
    | inl same ↦ inr (subst (λ m. Contains (x ∷ xs) m) (eqb-true x n same) (Contains-cut [] x xs))
    | inr other ↦ elim (absent_or n xs) [
      | inl absent ↦ inl (other, absent)
      | inr contained ↦ inr (Contains-wider [] x xs n contained)
    ]
  ]

  withdrawn : (n : ℕ) → IsSettled (Withdraw n)
  withdrawn n = elim (absent_or n (numbers_in (standing r))) [
    | inl absent ↦ inl (faults.NoSuchStatement, withdrawn_refused t r n histories.NoSuchStatement (not_each_once r (n ∷ []) (λ can. absent_not_contained (numbers_in (standing r)) n absent (All-head (Stands r) n [] can.among))))
    | inr stands ↦ inr (withdrawn_taken t r n (record { among = All-cons (Stands r) n [] stands (All-nil (Stands r)); once = distinct_from_Apart (n ∷ []) (tt, tt) }))
  ]

  replaced : (n : ℕ) (named : Named) (said : Result Statement LineFault) → statement_of t named ≡ said → IsSettled (Replace n named)
  replaced n named (Err fault) e = inl (fault, replacement_refused t r n named fault e)
  replaced n named (Ok s) e = elim (absent_or n (numbers_in (standing r))) [
    | inl absent ↦ inl (faults.NoSuchStatement, replaced_refused t r n named s histories.NoSuchStatement e (not_standing r n s (absent_not_contained (numbers_in (standing r)) n absent)))
    | inr stands ↦ elim (cases_lt MOST_ROWS (row_count (statements_of (with_revision r (replacement n s))))) [
      | inl many ↦ inl (faults.TooManyRows, replaced_refused t r n named s histories.TooManyRows e (past_rows_replaced r n s stands many))
      | inr rows ↦ inr (replaced_taken t r n named s e (record { stands = stands; rows = rows }))
    ]
  ]

  undone : (xs : List Revision) → r.surviving ≡ xs → IsSettled Undo
  undone [] e = inl (faults.NothingToUndo, undone_refused t r histories.NothingToUndo e)
  undone (x ∷ xs) e = inr (undo_taken t r (λ none. let both = sym none ∙ e in absurd cc))

  settled : (command : Command) → NeedsNoSearch command → IsSettled command
  settled (State named) plain = stated named (statement_of t named) refl
  settled (Withdraw n) plain = withdrawn n
  settled (Replace n named) plain = replaced n named (statement_of t named) refl
  settled Repair plain = absurd plain
  settled Undo plain = undone r.surviving refl
  settled (Ask asked) plain = absurd plain

  taken_body : (command : Command) → NeedsNoSearch command → IsTaken t r command → (body : Body) × IsBodyOf proved_unless_wide t r command body
  taken_body (State named) plain passes = (bodies.Added (next_number r), taken passes refl)
  taken_body (Withdraw n) plain passes = (bodies.Withdrawn n, taken passes refl)
  taken_body (Replace n named) plain passes = (bodies.Replaced n, taken passes refl)
  taken_body Repair plain passes = absurd plain
  taken_body Undo plain passes = (bodies.Undone, taken passes refl)
  taken_body (Ask asked) plain passes = absurd plain

  has_body : (command : Command) → NeedsNoSearch command → (body : Body) × IsBodyOf proved_unless_wide t r command body
  has_body command plain = elim (settled command plain) [
    | inl why ↦ (bodies.Refused why.0, refused why.0 why.1 refl)
    | inr passes ↦ taken_body command plain passes
  ]

  has_block : (line : Line) → NeedsNoSearch line.command → (block : Block) × IsProvedBlock t r line block
  has_block line plain = let made = has_body line.command plain in (record { line = line.number; body = made.0 }, record { number = refl; body = made.1 })

-- ---- lines have their blocks

have_blocks : (bench : Workbench) (before : List (Line × Block)) (lines : List Line) → AllByRecursion (λ (line : Line). NeedsNoSearch line.command) lines → (blocks : List Block) × EachHolds (IsProvedBlock bench.table) bench before lines blocks
have_blocks bench before [] plain = ([], tt)
have_blocks bench before (line ∷ lines) plain =
    let here = has_block bench.table (revisions_then bench before line.desk) line plain.0 in
    let others = have_blocks bench (before ++ (line, here.0) ∷ []) lines plain.1 in
    (here.0 ∷ others.0, (here.1, others.1))

pub have_closing : HaveClosing
have_closing bench lines suited =
    let made = have_blocks bench [] (revision_lines lines) (plain_lines lines suited) in
    (lists_after bench (with_blocks (revision_lines lines) made.0), record { blocks = made.0; each = made.1; lists_are = refl })
