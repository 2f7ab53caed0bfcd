-- A report that is written block by block: what is written when one more is, and where it stops.
use Rattle.std.proofs.lemmas.List.{take_all, take-append-drop, take_more}
use Rattle.std.proofs.Common.{append-nil, ◌≡◌, ℕ, ◌+◌, ◌<◌, ◌≤◌, Bool, false, ◌||◌, List, [], ◌∷◌, ◌++◌, length, take, drop, get_or, Option, Ok, Err, refl, sym, ap, ◌∙◌, subst, inl, inr, arith}
use Rattle.std.specs.List.{flat_map, list_any}
use Rattle.std.proofs.lemmas.List.Folds.{list_any-append}
use Rattle.ror_session.specs.declared.session.Line.{Line}
use Rattle.ror_report.specs.declared.block.Block.{Block}
use Rattle.ror_report.specs.Text.{block_text, header_text, end_text, IsPrintableBlock}
use Rattle.ror_table.specs.Table.{DecisionTable}
use Rattle.ror_io.specs.Counts.{Rose}
use Rattle.ror_io.specs.Writing.{Grew, GrewShort}
use Rattle.ror_io.proofs.Writes.{Grew-none, Grew-append, GrewShort-more, GrewShort-after}
use Rattle.ror_bench.specs.Allowed.{given_at}
use Rattle.ror_bench.specs.Bench.{Workbench, revisions_at, HoldTheSame, IsLawfulBench}
use Rattle.ror_bench.specs.Blocks.{has_wide, IsBlockOf, with_block}
use Rattle.ror_bench.specs.Reports.{accepted_of}
use Rattle.ror_bench.proofs.MakingLemmas.{IsMade, made_nothing, made_more, text_more}
use Rattle.ror_bench.specs.Replays.{IsBegunReport, some_lines, all_lines}
use Rattle.ror_bench.proofs.SameLemmas.{replayed_same, begun_same, accepted_same}
use Rattle.ror_frame.proofs.Desks.{replayed, reported}
use Rattle.ror_frame.specs.declared.stop.Stop.{Stop}
use Rattle.ror_frame.specs.declared.stop.Stop.TheVariants as stops
use Rattle.ror_frame.specs.States.{SinkState, sink_state}
use Rattle.ror_frame.specs.Stops.{Outcome}
use Rattle.ror_frame.specs.Inputs.{IsReportOf}
use Rattle.ror_frame.specs.Courses.{WritesDue}
use Rattle.ror_work.specs.Replaying.{AreFirstBlocks, report_output, WritesText, MakesBlocks}

-- ---- the blocks that are written

-- the blocks of these lines are made and written, and this is whether an answer of them is too wide
pub record AreWritten (most : ℕ) (start : Workbench) (lines : List Line) (bench : Workbench) (old new : SinkState) (wide : Bool) : Type 0 where
  pub blocks : List Block
  pub made : IsMade most start lines bench blocks
  pub wide_is : wide ≡ list_any has_wide blocks
  pub faults : new.faults ≡ old.faults
  pub grew : Grew old.written new.written (flat_map (block_text start.table) blocks)

pub none_written : (most : ℕ) (start : Workbench) (out : SinkState) → AreWritten most start [] start out out false
none_written most start out = record { blocks = []; made = made_nothing most start; wide_is = refl; faults = refl; grew = Grew-none out.written }

-- one block more
pub one_written : (most : ℕ) (start : Workbench) (lines : List Line) (bench moved : Workbench) (old between new : SinkState) (wide : Bool) (line : Line) (block : Block) → AreWritten most start lines bench old between wide → line.desk < length start.state → IsBlockOf (given_at most) bench.table (revisions_at bench line.desk) line block → IsPrintableBlock bench.table block → HoldTheSame moved (with_block bench line block) → new.faults ≡ between.faults → Grew between.written new.written (block_text bench.table block) → AreWritten most start (lines ++ line ∷ []) moved old new (wide || has_wide block)
one_written most start lines bench moved old between new wide line block were within is text moves faults grew =
    let same : block_text bench.table block ≡ block_text start.table block = ap (λ (t : DecisionTable). block_text t block) were.made.after.table in
    record {
      blocks = were.blocks ++ block ∷ [];
      made = made_more most start lines bench moved line were.blocks block were.made within is text moves;
      wide_is = ap (λ b. b || has_wide block) were.wide_is ∙ sym (list_any-append has_wide were.blocks (block ∷ []) ∙ ap (λ b. list_any has_wide were.blocks || b) (or_false (has_wide block)));
      faults = faults ∙ were.faults;
      grew = subst (Grew old.written new.written) (sym (text_more start.table were.blocks block)) (Grew-append old.written between.written new.written (flat_map (block_text start.table) were.blocks) (block_text start.table block) were.grew (subst (Grew between.written new.written) same grew));
    }
  where
    or_false : (b : Bool) → (b || false) ≡ b
    or_false b = grind arith

-- the first lines' blocks, where more lines are left
pub first_blocks : (most : ℕ) (start : Workbench) (lines : List Line) (n : ℕ) (bench : Workbench) (old new : SinkState) (wide : Bool) (were : AreWritten most start (take n lines) bench old new wide) → AreFirstBlocks most start lines (flat_map (block_text start.table) were.blocks)
first_blocks most start lines n bench old new wide were =
    record { taken = take n lines; left = drop n lines; blocks = were.blocks; split = sym (take-append-drop n lines); made = were.made.blocks_are; text_is = refl }

-- one block more was made, and only a front of it written
block_cut : (most : ℕ) (start : Workbench) (lines : List Line) (i : ℕ) (bench moved : Workbench) (old between new : SinkState) (wide : Bool) (line : Line) (block : Block) → i < length lines → line ≡ get_or lines i line → AreWritten most start (take i lines) bench old between wide → line.desk < length start.state → IsBlockOf (given_at most) bench.table (revisions_at bench line.desk) line block → IsPrintableBlock bench.table block → HoldTheSame moved (with_block bench line block) → between.faults ≤ new.faults → Rose between.faults new.faults → GrewShort between.written new.written (block_text bench.table block) → MakesBlocks most start lines old new (Err stops.WriteFault)
block_cut most start lines i bench moved old between new wide line block within item were named is text moves up rose short =
    let same : block_text bench.table block ≡ block_text start.table block = ap (λ (t : DecisionTable). block_text t block) were.made.after.table in
    let blocks = were.blocks ++ block ∷ [] in
    let made = made_more most start (take i lines) bench moved line were.blocks block were.made named is text moves in
    let more : take (i + 1) lines ≡ take i lines ++ line ∷ [] = take_more lines i line within ∙ ap (λ (x : Line). take i lines ++ x ∷ []) (sym item) in (
      subst (λ n. n ≤ new.faults) were.faults up,
      subst (λ n. Rose n new.faults) were.faults rose,
      flat_map (block_text start.table) blocks,
      record {
        taken = take i lines ++ line ∷ [];
        left = drop (i + 1) lines;
        blocks = blocks;
        split = sym (take-append-drop (i + 1) lines) ∙ ap (λ (l : List Line). l ++ drop (i + 1) lines) more;
        made = made.blocks_are;
        text_is = refl;
      },
      subst (GrewShort old.written new.written) (sym (text_more start.table were.blocks block)) (GrewShort-after old.written between.written new.written (flat_map (block_text start.table) were.blocks) (block_text start.table block) were.grew (subst (GrewShort between.written new.written) same short)),
    )

-- one block more was made, and was not written, whole or at all
pub block_stopped : (most : ℕ) (start : Workbench) (lines : List Line) (i : ℕ) (bench moved : Workbench) (old between new : SinkState) (wide : Bool) (line : Line) (block : Block) (stop : Stop) → i < length lines → line ≡ get_or lines i line → AreWritten most start (take i lines) bench old between wide → line.desk < length start.state → IsBlockOf (given_at most) bench.table (revisions_at bench line.desk) line block → IsPrintableBlock bench.table block → HoldTheSame moved (with_block bench line block) → WritesText {A = Unit {0}} (block_text bench.table block) between.faults new.faults between.written new.written (Err stop) → MakesBlocks most start lines old new (Err stop)
block_stopped most start lines i bench moved old between new wide line block (stops.At r) within item were named is text moves stopped = stopped
block_stopped most start lines i bench moved old between new wide line block stops.ReadFault within item were named is text moves stopped = stopped
block_stopped most start lines i bench moved old between new wide line block stops.WriteFault within item were named is text moves stopped = block_cut most start lines i bench moved old between new wide line block within item were named is text moves stopped.0 stopped.1 stopped.2
block_stopped most start lines i bench moved old between new wide line block stops.Memory within item were named is text moves stopped =
    (stopped.0 ∙ were.faults, _, first_blocks most start lines i bench old between wide were, rw stopped.1 were.grew)

-- ---- the report of a session

module _ (most : ℕ) (bench : Workbench) (lines : List Line) where
  begins : (text : List ℕ) → AreFirstBlocks most bench lines text → IsBegunReport most bench lines (header_text ++ text)
  begins text first = some_lines first.taken first.left first.blocks first.split first.made (ap (λ (l : List ℕ). header_text ++ l) first.text_is)

  no_blocks : AreFirstBlocks most bench lines []
  no_blocks = record { taken = []; left = lines; blocks = []; split = refl; made = record { printable = tt; given = tt }; text_is = refl }

  -- memory ran out where this stood there
  front : (x y : ℕ) (old new : Option (List ℕ)) (text : List ℕ) → y ≡ x → Grew old new text → IsBegunReport most bench lines text → WritesDue (report_output most bench lines) (sink_state old x) (sink_state new y) (Err stops.Memory)
  front x y old new text same grew begun = inr (same, refl, text, length text, begun, subst (Grew old new) (sym (take_all (length text) text (omega arith))) grew)

  -- the header was not written
  pub header_cut : (x y : ℕ) (old new : Option (List ℕ)) → x ≤ y → Rose x y → GrewShort old new header_text → WritesDue (report_output most bench lines) (sink_state old x) (sink_state new y) (Err stops.WriteFault)
  header_cut x y old new up rose short = (up, rose, header_text ++ [], begins [] no_blocks, GrewShort-more old new header_text [] short)

  -- after the header the blocks were written, or were not
  pub blocks_cut : (x y z : ℕ) (old between new : Option (List ℕ)) (stop : Stop) → y ≡ x → Grew old between header_text → MakesBlocks most bench lines (sink_state between y) (sink_state new z) (Err stop) → WritesDue (report_output most bench lines) (sink_state old x) (sink_state new z) (Err stop)
  blocks_cut x y z old between new (stops.At r) same header makes = absurd makes
  blocks_cut x y z old between new stops.ReadFault same header makes = absurd makes
  blocks_cut x y z old between new stops.WriteFault same header makes =
      (subst (λ n. n ≤ z) same makes.0, subst (λ n. Rose n z) same makes.1, header_text ++ makes.2, begins makes.2 makes.3, GrewShort-after old between new header_text makes.2 header makes.4)
  blocks_cut x y z old between new stops.Memory same header makes =
      front x z old new (header_text ++ makes.1) (makes.0 ∙ same) (Grew-append old between new header_text makes.1 header makes.3) (begins makes.1 makes.2)

  -- the end was not made
  pub end_unmade : (x y z : ℕ) (old between new : Option (List ℕ)) (wide : Bool) → y ≡ x → Grew old between header_text → MakesBlocks most bench lines (sink_state between y) (sink_state new z) (Ok wide) → WritesDue (report_output most bench lines) (sink_state old x) (sink_state new z) (Err stops.Memory)
  end_unmade x y z old between new wide same header makes =
      let text = flat_map (block_text bench.table) makes.1 in
      let first : AreFirstBlocks most bench lines text = record { taken = lines; left = []; blocks = makes.1; split = sym (append-nil lines); made = makes.2; text_is = refl } in
      front x z old new (header_text ++ text) (makes.0 ∙ same) (Grew-append old between new header_text text header makes.4) (begins text first)

  -- it was not written
  pub end_cut : (x y z w : ℕ) (old between after new : Option (List ℕ)) (wide : Bool) → y ≡ x → Grew old between header_text → MakesBlocks most bench lines (sink_state between y) (sink_state after z) (Ok wide) → z ≤ w → Rose z w → GrewShort after new (end_text (length lines)) → WritesDue (report_output most bench lines) (sink_state old x) (sink_state new w) (Err stops.WriteFault)
  end_cut x y z w old between after new wide same header makes up rose short =
      let text = flat_map (block_text bench.table) makes.1 in (
        subst (λ n. n ≤ w) (makes.0 ∙ same) up,
        subst (λ n. Rose n w) (makes.0 ∙ same) rose,
        header_text ++ (text ++ end_text (length lines)),
        all_lines (accepted_of makes.1) (replayed most bench lines makes.1 makes.2),
        GrewShort-after old between new header_text (text ++ end_text (length lines)) header (GrewShort-after between after new text (end_text (length lines)) makes.4 short),
      )

  -- all was written
  pub report_whole : (x y z w : ℕ) (old between after new : Option (List ℕ)) (wide : Bool) → IsLawfulBench bench → y ≡ x → Grew old between header_text → MakesBlocks most bench lines (sink_state between y) (sink_state after z) (Ok wide) → w ≡ z → Grew after new (end_text (length lines)) → WritesDue (report_output most bench lines) (sink_state old x) (sink_state new w) (Ok wide)
  report_whole x y z w old between after new wide lawful same header makes kept ended =
      let rest = flat_map (block_text bench.table) makes.1 ++ end_text (length lines) in (
        kept ∙ makes.0 ∙ same,
        tt,
        header_text ++ rest,
        (accepted_of makes.1, reported most bench lines makes.1 lawful makes.2, makes.3),
        Grew-append old between new header_text rest header (Grew-append between after new (flat_map (block_text bench.table) makes.1) (end_text (length lines)) makes.4 ended),
      )

-- ---- benches that hold the same

-- have one report
pub report_same : (most : ℕ) (one other : Workbench) (lines : List Line) (old new : SinkState) (outcome : Outcome) → HoldTheSame one other → WritesDue (report_output most one lines) old new outcome → WritesDue (report_output most other lines) old new outcome
report_same most one other lines old new (Ok wide) same due =
    let report = due.3.1 in
    let text = due.2 in
    let accepted = due.3.0 in
    let here : IsReportOf most other lines text accepted = record {
      given = replayed_same one other same most lines text accepted report.given;
      checked = accepted_same one other same lines text accepted report.checked;
    } in
    (due.0, due.1, text, (accepted, here, due.3.2), due.4)
report_same most one other lines old new (Err (stops.At r)) same due = due
report_same most one other lines old new (Err stops.ReadFault) same due = due
report_same most one other lines old new (Err stops.WriteFault) same due = (due.0, due.1, due.2, begun_same one other same most lines due.2 due.3, due.4)
report_same most one other lines old new (Err stops.Memory) same (inl nothing) = inl nothing
report_same most one other lines old new (Err stops.Memory) same (inr due) = inr (due.0, due.1, due.2, due.3, begun_same one other same most lines due.2 due.4, due.5)
