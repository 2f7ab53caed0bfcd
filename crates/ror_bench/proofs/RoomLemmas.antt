-- The room that desks have, and which commands take no memory where there is some.
use Rattle.std.proofs.Common.{◌≡◌, ◌≢◌, inl, inr, ℕ, ◌+◌, ◌<◌, ◌≤◌, List, length, map, get_or, Result, Ok, Err, refl, sym, ap, subst, ◌∙◌, arith}
use Rattle.std.specs.Prelude.{slice_set, slice_index_or, IsOk, OnOk, IfErr}
use Rattle.std.specs.declared.alloc.AllocError.{AllocError}
use Rattle.std.proofs.lemmas.List.{length-map, get_or-map, map-set, get_or-set_same, get_or-set_other}
use Rattle.ror_table.specs.Table.{DecisionTable}
use Rattle.ror_history.specs.History.{Revisions, HistoryView}
use Rattle.ror_history.specs.declared.history.HistoryFault.{HistoryFault}
use Rattle.ror_history.specs.declared.history.HistoryFault.TheVariants as histories
use Rattle.ror_history.specs.Faults.{FailsUndo}
use Rattle.ror_session.specs.declared.session.Line.{Line}
use Rattle.ror_session.specs.declared.session.Command.{Command}
use Rattle.ror_report.specs.declared.block.Body.{Body}
use Rattle.ror_bench.specs.declared.desk.Made.{Made}
use Rattle.ror_bench.specs.declared.stop.LineStop.{LineStop}
use Rattle.ror_bench.specs.declared.stop.LineStop.TheVariants as stops
use Rattle.ror_bench.specs.Bench.{Workbench, spare_at}
use Rattle.ror_bench.specs.Blocks.{NeedsNoSearch, most_room, LeavesRoom}
use Rattle.ror_bench.specs.Rooms.{revisions_of, HasRoomBelow}
use Rattle.ror_bench.specs.Steps.{stop_of_history}
use Rattle.ror_bench.proofs.DeskLemmas.{bench_with}
use Rattle.ror_bench.proofs.ReportProofs.{number_cases}

-- ---- commands that take no memory

-- what stops a revision for want of memory is the history's
pub stop_roomy : (fault : HistoryFault) (spare : ℕ) → (fault ≡ histories.Memory → spare ≡ 0) → stop_of_history fault ≡ stops.Memory → spare ≡ 0
stop_roomy histories.NoSuchStatement spare roomy is = absurd cc
stop_roomy histories.NothingToUndo spare roomy is = absurd cc
stop_roomy histories.TooManyStatements spare roomy is = absurd cc
stop_roomy histories.TooManyRows spare roomy is = absurd cc
stop_roomy histories.Memory spare roomy is = roomy cc

-- and an undo is never stopped so
pub undo_stop : (r : Revisions) (fault : HistoryFault) → FailsUndo r fault → stop_of_history fault ≢ stops.Memory
undo_stop r histories.NoSuchStatement fails is = fails
undo_stop r histories.NothingToUndo fails is = absurd cc
undo_stop r histories.TooManyStatements fails is = fails
undo_stop r histories.TooManyRows fails is = fails
undo_stop r histories.Memory fails is = fails

-- what is said of a revision where there is room
pub said_ready : (made : Result Made LineStop) (said : Result Body AllocError) (spare : ℕ) → IfErr said (λ _. made ≡ Err stops.Memory) → IfErr made (λ stop. stop ≡ stops.Memory → spare ≡ 0) → 0 < spare → IsOk said
said_ready made (Ok body) spare memory roomy some = refl
said_ready (Ok x) (Err e) spare memory roomy some = absurd (let is = memory in cc)
said_ready (Err stop) (Err e) spare memory roomy some =
    let is : stop ≡ stops.Memory = (let both = memory in cc) in
    let none = roomy is in
    absurd (omega (arith, none, some))

-- and of an undo
pub undo_ready : (made : Result Made LineStop) (said : Result Body AllocError) → IfErr said (λ _. made ≡ Err stops.Memory) → IfErr made (λ stop. stop ≢ stops.Memory) → IsOk said
undo_ready made (Ok body) memory never = refl
undo_ready (Ok x) (Err e) memory never = absurd (let is = memory in cc)
undo_ready (Err stop) (Err e) memory never =
    let is : stop ≡ stops.Memory = (let both = memory in cc) in
    absurd (never is)

-- a command that asks or repairs is none of these
pub needs_search : (command other : Command) → command ≡ other → (NeedsNoSearch other → ⊥) → NeedsNoSearch command → ⊥
needs_search command other is none plain = none (subst NeedsNoSearch is plain)

pub room_untaken : (command : Command) (n : ℕ) → n ≤ n + most_room command
room_untaken command n = omega arith

pub room_as : (command other : Command) (old new : ℕ) → command ≡ other → old ≤ new + most_room other → old ≤ new + most_room command
room_as command other old new is room = subst (λ (c : Command). old ≤ new + most_room c) (sym is) room

-- ---- the room of a desk

-- what room a history has its desk has
pub spare_here : (t : DecisionTable) (p : ℕ) (views : List HistoryView) (desk : ℕ) (h : HistoryView) → desk < length (map (λ (h : HistoryView). h.state) views) → h ≡ get_or views desk h → h.spare ≡ spare_at (bench_with t p views) desk
spare_here t p views desk h within is =
    let inside : desk < length views = (let n : length (map (λ (h : HistoryView). h.state) views) ≡ length views = simp length-map in omega arith) in
    ap (λ (h : HistoryView). h.spare) is ∙ sym (get_or-map (λ (h : HistoryView). h.spare) views desk h 0 inside)

module _ (t : DecisionTable) (p q : ℕ) (views : List HistoryView) (desk : ℕ) (old new : HistoryView) (b : Workbench) (within : desk < length (map (λ (h : HistoryView). h.state) views)) (is : old ≡ get_or views desk old) (whole : bench_with t p views ≡ b) where
  pub spare_old : old.spare ≡ spare_at b desk
  spare_old = spare_here t p views desk old within is ∙ ap (λ (b : Workbench). spare_at b desk) whole

  spare_new : new.spare ≡ spare_at (bench_with t q (slice_set views desk new)) desk
  spare_new =
      let inside : desk < length (map (λ (h : HistoryView). h.spare) views) = (let n : length (map (λ (h : HistoryView). h.state) views) ≡ length views = simp length-map in let m : length (map (λ (h : HistoryView). h.spare) views) ≡ length views = simp length-map in omega arith) in
      sym (ap (λ (l : List ℕ). slice_index_or l desk 0) (map-set (λ (h : HistoryView). h.spare) views desk new) ∙ get_or-set_same (map (λ (h : HistoryView). h.spare) views) desk new.spare 0 inside)

  spare_elsewhere : (other : ℕ) → other ≢ desk → spare_at b other ≡ spare_at (bench_with t q (slice_set views desk new)) other
  spare_elsewhere other ne =
      ap (λ (b : Workbench). spare_at b other) (sym whole)
      ∙ sym (ap (λ (l : List ℕ). slice_index_or l other 0) (map-set (λ (h : HistoryView). h.spare) views desk new) ∙ get_or-set_other (map (λ (h : HistoryView). h.spare) views) desk other new.spare 0 ne)

  -- another desk has what it had
  pub room_elsewhere : (other : ℕ) → other ≢ desk → spare_at b other ≤ spare_at (bench_with t q (slice_set views desk new)) other
  room_elsewhere other ne = let same = spare_elsewhere other ne in omega (arith, same)

  -- room that is asked for is there
  pub room_made : {X : Type 0} (wanted : ℕ) (result : Result X AllocError) → OnOk result (wanted ≤ new.spare) → OnOk result (wanted ≤ spare_at (bench_with t q (slice_set views desk new)) desk)
  room_made wanted (Ok x) room = let same = spare_new in omega (arith, same, room)
  room_made wanted (Err e) room = tt

  -- and no desk has less
  pub room_kept : old.spare ≤ new.spare → (other : ℕ) → spare_at b other ≤ spare_at (bench_with t q (slice_set views desk new)) other
  room_kept kept other = elim (number_cases other desk) [
    | inl own ↦
        let before = spare_old in
        let after = spare_new in
        let here : spare_at b desk ≤ spare_at (bench_with t q (slice_set views desk new)) desk = omega (arith, before, after, kept) in
        subst (λ (n : ℕ). spare_at b n ≤ spare_at (bench_with t q (slice_set views desk new)) n) (sym own) here
    | inr ne ↦ room_elsewhere other ne
  ]

-- a line takes the room of its command
pub leaves_room : (t : DecisionTable) (p q : ℕ) (views : List HistoryView) (line : Line) (old new : HistoryView) (b : Workbench) → line.desk < length (map (λ (h : HistoryView). h.state) views) → old ≡ get_or views line.desk old → bench_with t p views ≡ b → old.spare ≤ new.spare + most_room line.command
    → LeavesRoom line b (bench_with t q (slice_set views line.desk new))
leaves_room t p q views line old new b within is whole room =
    let before = spare_old t p q views line.desk old new b within is whole in
    let after = spare_new t p q views line.desk old new b within is whole in
    record {
      here = omega (arith, before, after, room);
      elsewhere = λ desk ne. room_elsewhere t p q views line.desk old new b within is whole desk ne;
    }

-- ---- room that is made at desks, one after another

pub room_begins : (lines : List Line) (bench : Workbench) → HasRoomBelow 0 lines bench
room_begins lines bench desk within = absurd (omega arith)

-- one desk more has room, and those before it keep theirs
pub room_more : (lines : List Line) (desks : ℕ) (bench moved : Workbench) (wanted : ℕ) → wanted ≡ revisions_of lines desks → wanted ≤ spare_at moved desks → ((other : ℕ) → spare_at bench other ≤ spare_at moved other) → HasRoomBelow desks lines bench → HasRoomBelow (desks + 1) lines moved
room_more lines desks bench moved wanted is here kept room desk within = elim (number_cases desk desks) [
  | inl own ↦ subst (λ (n : ℕ). revisions_of lines n ≤ spare_at moved n) (sym own) (omega (arith, is, here))
  | inr other ↦
      let before = room desk (let ne = other in grind arith) in
      let stays = kept desk in
      omega (arith, before, stays)
]
