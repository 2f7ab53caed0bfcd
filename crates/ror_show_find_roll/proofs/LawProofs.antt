-- That a roll shows what stands, and that a check that keeps something of each line keeps all of a desk's.
use Rattle.std.proofs.Common.{◌≡◌, ◌≢◌, inl, inr, ℕ, suc, ◌+◌, ◌-◌, ◌<◌, Bool, true, false, List, [], ◌∷◌, ◌++◌, Option, Some, Result, Ok, Err, refl, ap, sym, subst, ◌∙◌, arith, append_assoc, length, map, take, drop, nat_eq}
use Rattle.std.specs.Prelude.{◌==◌, ◌||◌, slice_get}
use Rattle.std.specs.List.{fold, AllZip}
use Rattle.std.specs.Result.{result_ok}
use Rattle.std.specs.Set.{is_member}
use Rattle.std.proofs.lemmas.List.{append-nil, length-append}
use Rattle.std.proofs.lemmas.List.Concat.{flat_map-append}
use Rattle.std.proofs.lemmas.Slice.Zip.{AllZip-long}
use Rattle.ror_text.proofs.LineLemmas.{list_any-map}
use Rattle.ror_table.specs.Table.{DecisionTable}
use Rattle.ror_statement.specs.declared.statement.Statement.{Statement}
use Rattle.ror_statement.specs.declared.statement.Numbered.{Numbered}
use Rattle.ror_session.specs.declared.session.Line.{Line}
use Rattle.ror_session.specs.declared.session.Command.{Command}
use Rattle.ror_session.specs.declared.session.Command.TheVariants.{State, Withdraw, Replace, Repair, Undo, Ask}
use Rattle.ror_session.specs.declared.session.Named.{Named}
use Rattle.ror_report.specs.declared.block.Block.{Block}
use Rattle.ror_report.specs.declared.block.Body.{Body}
use Rattle.ror_report.specs.declared.block.Body.TheVariants.{Added, Withdrawn, Replaced, Undone, Repaired, RepairWide, Answers, Refused}
use Rattle.ror_report.specs.declared.block.LineFault.{LineFault}
use Rattle.ror_history.specs.History.{Revision, addition, withdrawal, replacement, Revisions, with_numbers_from, revised}
use Rattle.ror_bench.specs.Allowed.{proved_unless_wide}
use Rattle.ror_bench.specs.Bench.{Workbench, revisions_at}
use Rattle.ror_bench.specs.Blocks.{IsBodyOf, refused, taken, IsProvedBlock, stated, with_stated, revisions_with}
use Rattle.ror_bench.specs.Desks.{with_blocks}
use Rattle.ror_bench.specs.Kept.{keep_at, kept_of, standing_for, kept_at, kept_from}
use Rattle.ror_bench.specs.Lines.{IsTaken}
use Rattle.ror_bench.specs.Names.{statement_of}
use Rattle.ror_bench.specs.Reports.{EachHolds, revisions_then}
use Rattle.ror_bench.specs.declared.kept.Keep.{Keep}
use Rattle.ror_bench.specs.declared.kept.Keep.TheVariants as keeps
use Rattle.ror_bench.proofs.CommandLemmas.{statement_refused, replacement_refused}
use Rattle.ror_bench.proofs.ReportProofs.{number_cases, same_number, other_number, then_at_own, then_at_other}
use Rattle.ror_show_find_roll.specs.declared.survivor.Survivor.{Survivor}
use Rattle.ror_show_find_roll.specs.Laws.{stated_by, stated_at, ShowsWhatStands, KeepsAllTurns}
use Rattle.ror_show_find_roll.specs.Roll.{left_with, left_after, survivors_with, survivors}
use Rattle.ror_show_find_roll.specs.Steps.{turn_at, kept_turn, kept_turns, turns_from}
use Rattle.ror_show_find_roll.specs.Turns.{Turn}
use Rattle.ror_show_find_roll.proofs.StandLemmas.{place-of, Matches, all_shown, zip_push, zip_take}

-- ---- what a proved block of a statement says

module _ (t : DecisionTable) (r : Revisions) where
  stated_ok : (named : Named) → IsTaken t r (State named) → (s : Statement) × (statement_of t named ≡ Ok s)
  stated_ok named passes = by (statement_of t named) refl
    where
      by : (x : Result Statement LineFault) → statement_of t named ≡ x → (s : Statement) × (statement_of t named ≡ Ok s)
      by (Ok s) is = (s, is)
      by (Err fault) is = absurd (passes fault (statement_refused t r named fault is).fails)

  put_ok : (n : ℕ) (named : Named) → IsTaken t r (Replace n named) → (s : Statement) × (statement_of t named ≡ Ok s)
  put_ok n named passes = by (statement_of t named) refl
    where
      by : (x : Result Statement LineFault) → statement_of t named ≡ x → (s : Statement) × (statement_of t named ≡ Ok s)
      by (Ok s) is = (s, is)
      by (Err fault) is = absurd (passes fault (replacement_refused t r n named fault is).fails)

  pub added_states : (command : Command) (n : ℕ) → IsBodyOf proved_unless_wide t r command (Added n) → (s : Statement) × (stated t command ≡ Some s)
  added_states command n (refused fault first is) = absurd cc
  added_states (State named) n (taken passes is) = let ok = stated_ok named passes in (ok.0, ap result_ok ok.1)
  added_states (Withdraw m) n (taken passes is) = absurd (let same = is in cc)
  added_states (Replace m named) n (taken passes is) = absurd (let same = is in cc)
  added_states Repair n (taken passes is) = absurd is
  added_states Undo n (taken passes is) = absurd (let same = is in cc)
  added_states (Ask asked) n (taken passes is) = absurd (let same = is.0 in cc)

  pub replaced_states : (command : Command) (n : ℕ) → IsBodyOf proved_unless_wide t r command (Replaced n) → (s : Statement) × (stated t command ≡ Some s)
  replaced_states command n (refused fault first is) = absurd cc
  replaced_states (State named) n (taken passes is) = absurd (let same = is in cc)
  replaced_states (Withdraw m) n (taken passes is) = absurd (let same = is in cc)
  replaced_states (Replace m named) n (taken passes is) = let ok = put_ok m named passes in (ok.0, ap result_ok ok.1)
  replaced_states Repair n (taken passes is) = absurd is
  replaced_states Undo n (taken passes is) = absurd (let same = is in cc)
  replaced_states (Ask asked) n (taken passes is) = absurd (let same = is.0 in cc)

one-member : (m n : ℕ) → (m == n) ≡ is_member nat_eq (n ∷ []) m
one-member m n = by (m == n)
  where
    by : (b : Bool) → b ≡ (b || false)
    by true = refl
    by false = refl

-- ---- from turn to turn

module _ (t : DecisionTable) (all : List Line) (first : List Statement) where
  abbrev matches : Survivor → Revision → Type 0
  matches = Matches (stated_at t all) first

  -- the surviving lines are those of the surviving revisions
  record Holds (list : List Survivor) (r : Revisions) : Type 0 where
    pub begun : r.opening ≡ first
    pub matched : AllZip matches list r.surviving

  turn_holds : (list : List Survivor) (r : Revisions) (place : ℕ) (line : Line) (body : Body) → slice_get all place ≡ Some line → IsBodyOf proved_unless_wide t r line.command body → Holds list r → Holds (survivors_with (length first) list (record { place = place; body = body })) (revisions_with t r line.command body)
  turn_holds list r place line (Added n) at is h =
      let x : Survivor = record { step = record { place = place; body = Added n }; left = left_with (left_after (length first) list) (Added n) } in
      let states = added_states t r line.command n is in
      let here : stated_at t all place ≡ Some states.0 = ap (stated_by t) at ∙ states.1 in
      let h1 : Holds (list ++ x ∷ []) (with_stated r (addition n) (Some states.0)) = record { begun = h.begun; matched = zip_push matches list r.surviving x (addition n states.0) h.matched (refl, here) } in
      subst (λ (s : Option Statement). Holds (list ++ x ∷ []) (with_stated r (addition n) s)) (sym states.1) h1
  turn_holds list r place line (Replaced n) at is h =
      let x : Survivor = record { step = record { place = place; body = Replaced n }; left = left_with (left_after (length first) list) (Replaced n) } in
      let states = replaced_states t r line.command n is in
      let here : stated_at t all place ≡ Some states.0 = ap (stated_by t) at ∙ states.1 in
      let h1 : Holds (list ++ x ∷ []) (with_stated r (replacement n) (Some states.0)) = record { begun = h.begun; matched = zip_push matches list r.surviving x (replacement n states.0) h.matched (refl, here) } in
      subst (λ (s : Option Statement). Holds (list ++ x ∷ []) (with_stated r (replacement n) s)) (sym states.1) h1
  turn_holds list r place line (Withdrawn n) at is h =
      let x : Survivor = record { step = record { place = place; body = Withdrawn n }; left = left_with (left_after (length first) list) (Withdrawn n) } in
      record { begun = h.begun; matched = zip_push matches list r.surviving x (withdrawal (n ∷ [])) h.matched (λ m. one-member m n, λ es. refl) }
  turn_holds list r place line (Repaired kept) at is h =
      let x : Survivor = record { step = record { place = place; body = Repaired kept }; left = left_with (left_after (length first) list) (Repaired kept) } in
      record { begun = h.begun; matched = zip_push matches list r.surviving x (withdrawal (map (λ d. d.number) kept.dropped)) h.matched (λ m. sym (list_any-map (nat_eq m) (λ d. d.number) kept.dropped), λ es. refl) }
  turn_holds list r place line Undone at is h =
      let long : length r.surviving ≡ length list = AllZip-long matches list r.surviving h.matched in
      record { begun = h.begun; matched = subst (λ (n : ℕ). AllZip matches (take (length list - 1) list) (take (n - 1) r.surviving)) (sym long) (zip_take matches (length list - 1) list r.surviving h.matched) }
  turn_holds list r place line (RepairWide n note) at is h = h
  turn_holds list r place line (Answers xs) at is h = h
  turn_holds list r place line (Refused fault) at is h = h

-- the turns of lines, of which the first is the desk's or another's
pub own-turn : (desk place : ℕ) (line : Line) (lines : List Line) (block : Block) (blocks : List Block) → line.desk ≡ desk → turns_from desk place (line ∷ lines) (block ∷ blocks) ≡ record { place = place; body = block.body } ∷ turns_from desk (suc place) lines blocks
own-turn desk place line lines block blocks own = rw (same_number line.desk desk own) refl

pub other-turn : (desk place : ℕ) (line : Line) (lines : List Line) (block : Block) (blocks : List Block) → line.desk ≢ desk → turns_from desk place (line ∷ lines) (block ∷ blocks) ≡ turns_from desk (suc place) lines blocks
other-turn desk place line lines block blocks other = rw (other_number line.desk desk other) refl

-- what holds of the surviving lines and the surviving revisions, and goes on holding from turn to turn
abbrev pub GoesOn : Workbench → ℕ → List Line → (List Survivor → Revisions → Type 0) → Type 0
GoesOn bench desk all H = (list : List Survivor) (r : Revisions) (place : ℕ) (line : Line) (body : Body)
    → slice_get all place ≡ Some line → IsBodyOf proved_unless_wide bench.table r line.command body → H list r
    → H (survivors_with (length (revisions_at bench desk).opening) list (record { place = place; body = body })) (revisions_with bench.table r line.command body)

module _ (bench : Workbench) (desk : ℕ) (all : List Line) (H : List Survivor → Revisions → Type 0) (step : GoesOn bench desk all H) where
  abbrev holds : List Survivor → List (Line × Block) → Type 0
  holds list before = H list (revisions_then bench before desk)

  abbrev moved_on : List Survivor → Turn → List Survivor
  moved_on = survivors_with (length (revisions_at bench desk).opening)

  abbrev on : List Survivor → List Turn → List Survivor
  on list turns = fold moved_on list turns

  pub walked : (before : List (Line × Block)) (place : ℕ) (lines : List Line) (blocks : List Block) (list : List Survivor) → drop place all ≡ lines → EachHolds (IsProvedBlock bench.table) bench before lines blocks → holds list before → holds (on list (turns_from desk place lines blocks)) (before ++ with_blocks lines blocks)
  walked before place [] blocks list at each h = subst (holds list) (sym (append-nil before)) h
  walked before place (line ∷ lines) [] list at each h = absurd each
  walked before place (line ∷ lines) (block ∷ blocks) list at each h =
      let here = place-of all place line lines at in
      let next : drop (suc place) all ≡ lines = here.1 in
      let moved : (before ++ (line, block) ∷ []) ++ with_blocks lines blocks ≡ before ++ (line, block) ∷ with_blocks lines blocks = append_assoc before ((line, block) ∷ []) (with_blocks lines blocks) in
      subst (holds (on list (turns_from desk place (line ∷ lines) (block ∷ blocks)))) moved (elim (number_cases line.desk desk) [
        | inl own ↦
            let turn : Turn = record { place = place; body = block.body } in
            let body = subst (λ (d : ℕ). IsBodyOf proved_unless_wide bench.table (revisions_then bench before d) line.command block.body) own each.0.body in
            let turned = step list (revisions_then bench before desk) place line block.body here.0 body h in
            let then : holds (moved_on list turn) (before ++ (line, block) ∷ []) = subst (H (moved_on list turn)) (sym (then_at_own bench before line block desk own)) turned in
            let rest = walked (before ++ (line, block) ∷ []) (suc place) lines blocks (moved_on list turn) next each.1 then in
            subst (λ (turns : List Turn). holds (on list turns) ((before ++ (line, block) ∷ []) ++ with_blocks lines blocks)) (sym (own-turn desk place line lines block blocks own)) rest
        | inr other ↦
            let then : holds list (before ++ (line, block) ∷ []) = subst (H list) (sym (then_at_other bench before line block desk other)) h in
            let rest = walked (before ++ (line, block) ∷ []) (suc place) lines blocks list next each.1 then in
            subst (λ (turns : List Turn). holds (on list turns) ((before ++ (line, block) ∷ []) ++ with_blocks lines blocks)) (sym (other-turn desk place line lines block blocks other)) rest
      ])

pub shows_what_stands : ShowsWhatStands
shows_what_stands bench desk lines blocks fresh each =
    let first = (revisions_at bench desk).opening in
    let at_first : Holds bench.table lines (revisions_at bench desk).opening [] (revisions_at bench desk) = record { begun = refl; matched = subst (AllZip (Matches (stated_at bench.table lines) (revisions_at bench desk).opening) []) (sym fresh) tt } in
    let h = walked bench desk lines (Holds bench.table lines first) (turn_holds bench.table lines first) [] 0 lines blocks [] refl each at_first in
    let last = revisions_then bench (with_blocks lines blocks) desk in
    all_shown (stated_at bench.table lines) first (survivors (length first) (turns_from desk 0 lines blocks)) last.surviving h.matched
    ∙ ap (λ (ss : List Statement). map Some (fold revised (with_numbers_from 1 ss) (revisions_then bench (with_blocks lines blocks) desk).surviving)) (sym h.begun)

-- ---- lines that were kept

module _ (all : List Line) (desk : ℕ) where
  kept_one : (keep : Keep) (place : ℕ) (list : Option (List Numbered)) (line : Line) (block : Block) → keep ≢ keeps.Nothing → slice_get all place ≡ Some line → kept_turns all desk (kept_of place keep list block) ≡ turn_at desk place block.body (Some line)
  kept_one keeps.Nothing place list line block some at = absurd (some refl)
  kept_one keeps.Block place list line block some at = append-nil (turn_at desk place block.body (slice_get all place)) ∙ ap (turn_at desk place block.body) at
  kept_one keeps.Standing place list line block some at = append-nil (turn_at desk place block.body (slice_get all place)) ∙ ap (turn_at desk place block.body) at

  kept_all : (bench : Workbench) (keep : List Keep) (before : List (Line × Block)) (lines : List Line) (blocks : List Block) → ((place : ℕ) → place < length before + length lines → keep_at keep place ≢ keeps.Nothing) → drop (length before) all ≡ lines → kept_turns all desk (kept_from bench keep before lines blocks) ≡ turns_from desk (length before) lines blocks
  kept_all bench keep before [] blocks some at = refl
  kept_all bench keep before (line ∷ lines) [] some at = refl
  kept_all bench keep before (line ∷ lines) (block ∷ blocks) some at =
      let here = place-of all (length before) line lines at in
      let longer : length (before ++ (line, block) ∷ []) ≡ suc (length before) = length-append before ((line, block) ∷ []) ∙ omega arith in
      let next : drop (length (before ++ (line, block) ∷ [])) all ≡ lines = ap (λ (n : ℕ). drop n all) longer ∙ here.1 in
      let rest = kept_all bench keep (before ++ (line, block) ∷ []) lines blocks (λ place below. some place (omega (arith, below, longer))) next in
      flat_map-append (kept_turn all desk) (kept_at bench keep before line block) (kept_from bench keep (before ++ (line, block) ∷ []) lines blocks)
      ∙ ap (λ (ts : List Turn). ts ++ kept_turns all desk (kept_from bench keep (before ++ (line, block) ∷ []) lines blocks)) (kept_one (keep_at keep (length before)) (length before) (standing_for (keep_at keep (length before)) (revisions_then bench before line.desk)) line block (some (length before) (omega arith)) here.0)
      ∙ ap (λ (ts : List Turn). turn_at desk (length before) block.body (Some line) ++ ts) (rest ∙ ap (λ (n : ℕ). turns_from desk n lines blocks) longer)

pub keeps_all_turns : KeepsAllTurns
keeps_all_turns bench keep desk lines blocks some = kept_all lines desk bench keep [] lines blocks (λ place below. some place (omega (arith, below))) refl
