-- That a desk has one closing list with its numbers, and that its statements are the desk's closing list.
use Rattle.std.proofs.Common.{◌≡◌, ℕ, zero, suc, ◌+◌, ◌<◌, List, [], length, Some, sym, ap, ◌∙◌, arith}
use Rattle.std.specs.Prelude.{slice_get}
use Rattle.std.specs.List.{range_with_len}
use Rattle.std.specs.Option.{option_map}
use Rattle.std.proofs.lemmas.Option.{slice_get-map}
use Rattle.ror_statement.specs.declared.statement.Statement.{Statement}
use Rattle.ror_statement.specs.declared.statement.Numbered.{Numbered}
use Rattle.ror_statement.specs.Statements.{statements_in}
use Rattle.ror_session.specs.declared.session.Line.{Line}
use Rattle.ror_report.specs.declared.block.Block.{Block}
use Rattle.ror_history.specs.History.{standing, statements_of}
use Rattle.ror_bench.specs.Bench.{Workbench, revisions_at}
use Rattle.ror_bench.specs.Blocks.{IsProvedBlock}
use Rattle.ror_bench.specs.Desks.{with_blocks}
use Rattle.ror_bench.specs.Reports.{revisions_then}
use Rattle.ror_bench.proofs.SameLemmas.{same_back, then_same, each_same}
use Rattle.ror_closing.specs.Closing.{revision_lines, lists_after, AreClosingLists, IsClosingStanding, HasRevised}
use Rattle.ror_closing.specs.Laws.{OneStanding}
use Rattle.ror_closing.proofs.LawLemmas.{plain_lines, one_each}

-- what stands at a desk of a bench after these lines
pub standing_of : (start : Workbench) (lines : List Line) (bench : Workbench) (desk : ℕ) (list : List Numbered) → HasRevised start lines bench → desk < length start.state → list ≡ standing (revisions_at bench desk) → IsClosingStanding start lines desk list
standing_of start lines bench desk list has within is = record {
  blocks = has.blocks;
  each = has.each;
  list_is = is ∙ ap standing (has.holds desk within);
}

at_range : (a n i : ℕ) → i < n → slice_get (range_with_len a n) i ≡ Some (a + i)
at_range a zero i below = absurd (omega arith)
at_range a (suc n) zero below = let same : a ≡ a + 0 = omega arith in ap Some same
at_range a (suc n) (suc i) below = let same : a + 1 + i ≡ a + suc i = omega arith in at_range (a + 1) n i (omega arith) ∙ ap Some same

counted_from_zero : (n i : ℕ) → i < n → slice_get (range_with_len 0 n) i ≡ Some i
counted_from_zero n i below = let same : 0 + i ≡ i = omega arith in at_range 0 n i below ∙ ap Some same

pub one_standing : OneStanding
one_standing = record {
  one = λ one other lines desk xs ys same suited first second.
      let back = same_back one other same in
      let each = each_same other one back IsProvedBlock [] (revision_lines lines) second.blocks second.each in
      let blocks : first.blocks ≡ second.blocks = one_each one [] (revision_lines lines) first.blocks second.blocks (plain_lines lines suited) first.each each in
      first.list_is
      ∙ ap (λ (bs : List Block). standing (revisions_then one (with_blocks (revision_lines lines) bs) desk)) blocks
      ∙ ap standing (sym (then_same other one back (with_blocks (revision_lines lines) second.blocks) desk))
      ∙ sym second.list_is;
  statements = λ bench lines desk xs lists within suited first closing.
      let blocks : closing.blocks ≡ first.blocks = one_each bench [] (revision_lines lines) closing.blocks first.blocks (plain_lines lines suited) closing.each first.each in
      let at = λ (n : ℕ). statements_of (revisions_then bench (with_blocks (revision_lines lines) first.blocks) n) in
      let lists_are : lists ≡ lists_after bench (with_blocks (revision_lines lines) first.blocks) = closing.lists_are ∙ ap (λ (bs : List Block). lists_after bench (with_blocks (revision_lines lines) bs)) blocks in
      ap (λ (ls : List (List Statement)). slice_get ls desk) lists_are
      ∙ slice_get-map at (range_with_len 0 (length bench.state)) desk
      ∙ ap (option_map at) (counted_from_zero (length bench.state) desk within)
      ∙ ap Some (ap statements_in (sym first.list_is));
}
