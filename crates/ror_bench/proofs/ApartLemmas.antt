-- That desks stand apart: what a desk's turns are goes by its own lines and their blocks.
use Rattle.std.proofs.Common.{◌≡◌, ◌≢◌, ◌⊎◌, inl, inr, ℕ, List, [], ◌∷◌, ◌++◌, map, refl, sym, ap, ◌∙◌, subst}
use Rattle.std.specs.List.{AllByRecursion, AllZip}
use Rattle.ror_table.specs.Table.{DecisionTable}
use Rattle.ror_session.specs.declared.session.Line.{Line}
use Rattle.ror_session.specs.declared.session.Command.{Command}
use Rattle.ror_report.specs.declared.block.Block.{Block}
use Rattle.ror_report.specs.declared.block.Body.{Body}
use Rattle.ror_history.specs.History.{Revisions}
use Rattle.ror_bench.specs.Allowed.{Allowing}
use Rattle.ror_bench.specs.Bench.{Workbench, revisions_at}
use Rattle.ror_bench.specs.Blocks.{IsBodyOf, IsBlockOf, revisions_with}
use Rattle.ror_bench.specs.Reports.{EachHolds, at_desk, revisions_then}
use Rattle.ror_bench.specs.Desks.{with_blocks, said_at, turns_at, DesksStandApart, IsTurnOf, AreDeskByDesk}
use Rattle.ror_bench.proofs.ReportProofs.{number_cases, same_number, other_number, then_at_own, then_at_other}

-- the turns in which this is said, the first of them over these revisions
abbrev pub turns_along : DecisionTable → Revisions → List (Command × Body) → List (Revisions × Command × Body)
turns_along t r [] = []
turns_along t r (x ∷ xs) = (r, x.0, x.1) ∷ turns_along t (revisions_with t r x.0 x.1) xs

abbrev pub what_is_said : Line × Block → Command × Body
what_is_said x = (x.0.command, x.1.body)

said_of_own : (desk : ℕ) (line : Line) (block : Block) (rest : List (Line × Block)) → line.desk ≡ desk → at_desk desk ((line, block) ∷ rest) ≡ (line, block) ∷ at_desk desk rest
said_of_own desk line block rest own = rw (same_number line.desk desk own) refl

said_of_other : (desk : ℕ) (line : Line) (block : Block) (rest : List (Line × Block)) → line.desk ≢ desk → at_desk desk ((line, block) ∷ rest) ≡ at_desk desk rest
said_of_other desk line block rest other = rw (other_number line.desk desk other) refl

module _ (bench : Workbench) (desk : ℕ) (before : List (Line × Block)) (line : Line) (lines : List Line) (block : Block) (blocks : List Block) where
  turn_of_own : line.desk ≡ desk → turns_at bench desk before (line ∷ lines) (block ∷ blocks) ≡ (revisions_then bench before desk, line.command, block.body) ∷ turns_at bench desk (before ++ (line, block) ∷ []) lines blocks
  turn_of_own own = rw (same_number line.desk desk own) refl

  turn_of_other : line.desk ≢ desk → turns_at bench desk before (line ∷ lines) (block ∷ blocks) ≡ turns_at bench desk (before ++ (line, block) ∷ []) lines blocks
  turn_of_other other = rw (other_number line.desk desk other) refl

module _ (bench : Workbench) (desk : ℕ) where
  pub turns_are : (before : List (Line × Block)) (lines : List Line) (blocks : List Block) → turns_at bench desk before lines blocks ≡ turns_along bench.table (revisions_then bench before desk) (said_at desk lines blocks)
  turns_are before [] blocks = refl
  turns_are before (line ∷ lines) [] = refl
  turns_are before (line ∷ lines) (block ∷ blocks) = elim (number_cases line.desk desk) [
    | inl own ↦
        let here : Revisions = revisions_then bench before desk in
        let rest = turns_are (before ++ (line, block) ∷ []) lines blocks in
        let then = then_at_own bench before line block desk own in
        let said : said_at desk (line ∷ lines) (block ∷ blocks) ≡ (line.command, block.body) ∷ said_at desk lines blocks = ap (map what_is_said) (said_of_own desk line block (with_blocks lines blocks) own) in
        turn_of_own bench desk before line lines block blocks own
        ∙ ap (λ (l : List (Revisions × Command × Body)). (here, line.command, block.body) ∷ l) (rest ∙ ap (λ (r : Revisions). turns_along bench.table r (said_at desk lines blocks)) then)
        ∙ ap (turns_along bench.table here) (sym said)
    | inr other ↦
        let here : Revisions = revisions_then bench before desk in
        let rest = turns_are (before ++ (line, block) ∷ []) lines blocks in
        let then = then_at_other bench before line block desk other in
        let said : said_at desk (line ∷ lines) (block ∷ blocks) ≡ said_at desk lines blocks = ap (map what_is_said) (said_of_other desk line block (with_blocks lines blocks) other) in
        turn_of_other bench desk before line lines block blocks other
        ∙ rest ∙ ap (λ (r : Revisions). turns_along bench.table r (said_at desk lines blocks)) then
        ∙ ap (turns_along bench.table here) (sym said)
  ]

pub stand_apart : DesksStandApart
stand_apart one other desk_one desk_other lines_one lines_other blocks_one blocks_other table begins said =
    turns_are one desk_one [] lines_one blocks_one
    ∙ ap (λ (t : DecisionTable). turns_along t (revisions_at one desk_one) (said_at desk_one lines_one blocks_one)) table
    ∙ ap (λ (r : Revisions). turns_along other.table r (said_at desk_one lines_one blocks_one)) begins
    ∙ ap (turns_along other.table (revisions_at other desk_other)) said
    ∙ sym (turns_are other desk_other [] lines_other blocks_other)

-- ---- desk by desk

abbrev HasNumber : Line → Block → Type 0
HasNumber line block = block.line ≡ line.number

module _ (H : Allowing) where
  numbers_of : (bench : Workbench) (before : List (Line × Block)) (lines : List Line) (blocks : List Block) → EachHolds (IsBlockOf H bench.table) bench before lines blocks → AllZip HasNumber lines blocks
  numbers_of bench before [] [] each = tt
  numbers_of bench before [] (block ∷ blocks) each = absurd each
  numbers_of bench before (line ∷ lines) [] each = absurd each
  numbers_of bench before (line ∷ lines) (block ∷ blocks) each = (each.0.number, numbers_of bench (before ++ (line, block) ∷ []) lines blocks each.1)

  pub turns_of_blocks : (bench : Workbench) (desk : ℕ) (before : List (Line × Block)) (lines : List Line) (blocks : List Block) → EachHolds (IsBlockOf H bench.table) bench before lines blocks → AllByRecursion (IsTurnOf H bench.table) (turns_at bench desk before lines blocks)
  turns_of_blocks bench desk before [] blocks each = tt
  turns_of_blocks bench desk before (line ∷ lines) [] each = tt
  turns_of_blocks bench desk before (line ∷ lines) (block ∷ blocks) each = elim (number_cases line.desk desk) [
    | inl own ↦
        let rest = turns_of_blocks bench desk (before ++ (line, block) ∷ []) lines blocks each.1 in
        let here = subst (λ (d : ℕ). IsBodyOf H bench.table (revisions_then bench before d) line.command block.body) own each.0.body in
        subst (AllByRecursion (IsTurnOf H bench.table)) (sym (turn_of_own bench desk before line lines block blocks own)) (here, rest)
    | inr other ↦
        let rest = turns_of_blocks bench desk (before ++ (line, block) ∷ []) lines blocks each.1 in
        subst (AllByRecursion (IsTurnOf H bench.table)) (sym (turn_of_other bench desk before line lines block blocks other)) rest
  ]

  blocks_of_turns : (bench : Workbench) (before : List (Line × Block)) (lines : List Line) (blocks : List Block) → AllZip HasNumber lines blocks → ((desk : ℕ) → AllByRecursion (IsTurnOf H bench.table) (turns_at bench desk before lines blocks)) → EachHolds (IsBlockOf H bench.table) bench before lines blocks
  blocks_of_turns bench before [] [] numbers turns = tt
  blocks_of_turns bench before [] (block ∷ blocks) numbers turns = absurd numbers
  blocks_of_turns bench before (line ∷ lines) [] numbers turns = absurd numbers
  blocks_of_turns bench before (line ∷ lines) (block ∷ blocks) numbers turns =
      let own = subst (AllByRecursion (IsTurnOf H bench.table)) (turn_of_own bench line.desk before line lines block blocks refl) (turns line.desk) in (
        record { number = numbers.0; body = own.0 },
        blocks_of_turns bench (before ++ (line, block) ∷ []) lines blocks numbers.1 (λ desk. rest desk (number_cases line.desk desk)),
      )
    where
      rest : (desk : ℕ) → (line.desk ≡ desk) ⊎ (line.desk ≢ desk) → AllByRecursion (IsTurnOf H bench.table) (turns_at bench desk (before ++ (line, block) ∷ []) lines blocks)
      rest desk (inl own) = (subst (AllByRecursion (IsTurnOf H bench.table)) (turn_of_own bench desk before line lines block blocks own) (turns desk)).1
      rest desk (inr other) = subst (AllByRecursion (IsTurnOf H bench.table)) (turn_of_other bench desk before line lines block blocks other) (turns desk)

  pub desk_by_desk : AreDeskByDesk H
  desk_by_desk bench lines blocks = (
    λ each. (numbers_of bench [] lines blocks each, λ desk. turns_of_blocks bench desk [] lines blocks each),
    λ both. blocks_of_turns bench [] lines blocks both.0 both.1,
  )
