-- That the lines which are asked of nothing are those that are answered while nothing stands at their desk.
use Rattle.std.proofs.Common.{◌≡◌, ◌≢◌, ℕ, zero, suc, ◌+◌, List, [], ◌∷◌, ◌++◌, Some, refl, ap, sym, subst, ◌∙◌, arith, length, take, inl, inr}
use Rattle.std.specs.Prelude.{slice_get}
use Rattle.ror_session.specs.declared.session.Line.{Line}
use Rattle.ror_report.specs.declared.block.Block.{Block}
use Rattle.ror_history.specs.History.{Revisions}
use Rattle.ror_bench.specs.Bench.{Workbench, revisions_at}
use Rattle.ror_bench.specs.Blocks.{IsProvedBlock}
use Rattle.ror_bench.specs.Desks.{with_blocks}
use Rattle.ror_bench.specs.Reports.{EachHolds, revisions_then}
use Rattle.ror_bench.proofs.ReportProofs.{number_cases}
use Rattle.ror_show_find_roll.specs.Became.{IsAskedOfNothing}
use Rattle.ror_show_find_roll.specs.Laws.{stood_before, IsAskedWhereNothingStands, AskedWhereNothingStands}
use Rattle.ror_show_find_roll.specs.Roll.{survivors, left_after}
use Rattle.ror_show_find_roll.specs.Steps.{turns_from}
use Rattle.ror_show_find_roll.specs.Turns.{Turn}
use Rattle.ror_show_find_roll.proofs.LawProofs.{own-turn, other-turn, walked}
use Rattle.ror_show_find_roll.proofs.LeftLemmas.{Counts, whole, counts_on, counts_first}
use Rattle.ror_show_find_roll.proofs.LineLemmas.{asked_those}

-- ---- the turns of a desk, and the lines that they are

record AtPlace (desk place : ℕ) (lines : List Line) (blocks : List Block) (before : ℕ) (turn : Turn) : Type 0 where
  pub at : ℕ
  pub line : Line
  pub there : slice_get lines at ≡ Some line
  pub own : line.desk ≡ desk
  pub block : Block
  pub block_there : slice_get blocks at ≡ Some block
  pub body : turn.body ≡ block.body
  pub named : turn.place ≡ place + at
  pub upto : take before (turns_from desk place lines blocks) ≡ turns_from desk place (take at lines) (take at blocks)

own_place : (desk place : ℕ) (line : Line) (lines : List Line) (block : Block) (blocks : List Block) → line.desk ≡ desk → (before : ℕ) (turn : Turn) → slice_get (record { place = place; body = block.body } ∷ turns_from desk (suc place) lines blocks) before ≡ Some turn
    → ((n : ℕ) → slice_get (turns_from desk (suc place) lines blocks) n ≡ Some turn → AtPlace desk (suc place) lines blocks n turn) → AtPlace desk place (line ∷ lines) (block ∷ blocks) before turn
own_place desk place line lines block blocks own zero turn is next =
    let first : Turn = record { place = place; body = block.body } in
    let same : first ≡ turn = cc in
    let named : turn.place ≡ place = ap (λ (x : Turn). x.place) (sym same) in
    record { at = 0; line = line; there = refl; own = own; block = block; block_there = refl; body = ap (λ (x : Turn). x.body) (sym same); named = omega (arith, named); upto = refl }
own_place desk place line lines block blocks own (suc before) turn is next =
    let first : Turn = record { place = place; body = block.body } in
    let x = next before is in
    let named = x.named in
    record {
      at = suc x.at;
      line = x.line;
      there = x.there;
      own = x.own;
      block = x.block;
      block_there = x.block_there;
      body = x.body;
      named = omega (arith, named);
      upto = ap (take (suc before)) (own-turn desk place line lines block blocks own) ∙ ap (λ (ts : List Turn). first ∷ ts) x.upto ∙ sym (own-turn desk place line (take x.at lines) block (take x.at blocks) own);
    }

other_place : (desk place : ℕ) (line : Line) (lines : List Line) (block : Block) (blocks : List Block) → line.desk ≢ desk → (before : ℕ) (turn : Turn) → AtPlace desk (suc place) lines blocks before turn → AtPlace desk place (line ∷ lines) (block ∷ blocks) before turn
other_place desk place line lines block blocks other before turn x =
    let named = x.named in
    record {
      at = suc x.at;
      line = x.line;
      there = x.there;
      own = x.own;
      block = x.block;
      block_there = x.block_there;
      body = x.body;
      named = omega (arith, named);
      upto = ap (take before) (other-turn desk place line lines block blocks other) ∙ x.upto ∙ sym (other-turn desk place line (take x.at lines) block (take x.at blocks) other);
    }

place_of : (desk place : ℕ) (lines : List Line) (blocks : List Block) (before : ℕ) (turn : Turn) → slice_get (turns_from desk place lines blocks) before ≡ Some turn → AtPlace desk place lines blocks before turn
place_of desk place [] blocks before turn is = absurd cc
place_of desk place (line ∷ lines) [] before turn is = absurd cc
place_of desk place (line ∷ lines) (block ∷ blocks) before turn is = elim (number_cases line.desk desk) [
  | inl own ↦
      own_place desk place line lines block blocks own before turn
      (subst (λ (ts : List Turn). slice_get ts before ≡ Some turn) (own-turn desk place line lines block blocks own) is)
      (λ n there. place_of desk (suc place) lines blocks n turn there)
  | inr other ↦
      other_place desk place line lines block blocks other before turn
      (place_of desk (suc place) lines blocks before turn (subst (λ (ts : List Turn). slice_get ts before ≡ Some turn) (other-turn desk place line lines block blocks other) is))
]

record TurnAt (desk place : ℕ) (lines : List Line) (blocks : List Block) (at : ℕ) (block : Block) : Type 0 where
  pub before : ℕ
  pub there : slice_get (turns_from desk place lines blocks) before ≡ Some (record { place = place + at; body = block.body })
  pub upto : take before (turns_from desk place lines blocks) ≡ turns_from desk place (take at lines) (take at blocks)

first_turn_at : (desk place : ℕ) (line : Line) (lines : List Line) (block : Block) (blocks : List Block) → line.desk ≡ desk → TurnAt desk place (line ∷ lines) (block ∷ blocks) 0 block
first_turn_at desk place line lines block blocks own =
    let here : place ≡ place + 0 = omega arith in
    record {
      before = 0;
      there = ap (λ (ts : List Turn). slice_get ts 0) (own-turn desk place line lines block blocks own) ∙ ap (λ (n : ℕ). Some (record { place = n; body = block.body })) here;
      upto = refl;
    }

own_turn_at : (desk place : ℕ) (line : Line) (lines : List Line) (b : Block) (blocks : List Block) (at : ℕ) (block : Block) → line.desk ≡ desk → TurnAt desk (suc place) lines blocks at block → TurnAt desk place (line ∷ lines) (b ∷ blocks) (suc at) block
own_turn_at desk place line lines b blocks at block own x =
    let first : Turn = record { place = place; body = b.body } in
    let here : suc place + at ≡ place + suc at = omega arith in
    record {
      before = suc x.before;
      there = ap (λ (ts : List Turn). slice_get ts (suc x.before)) (own-turn desk place line lines b blocks own) ∙ x.there ∙ ap (λ (n : ℕ). Some (record { place = n; body = block.body })) here;
      upto = ap (take (suc x.before)) (own-turn desk place line lines b blocks own) ∙ ap (λ (ts : List Turn). first ∷ ts) x.upto ∙ sym (own-turn desk place line (take at lines) b (take at blocks) own);
    }

other_turn_at : (desk place : ℕ) (line : Line) (lines : List Line) (b : Block) (blocks : List Block) (at : ℕ) (block : Block) → line.desk ≢ desk → TurnAt desk (suc place) lines blocks at block → TurnAt desk place (line ∷ lines) (b ∷ blocks) (suc at) block
other_turn_at desk place line lines b blocks at block other x =
    let here : suc place + at ≡ place + suc at = omega arith in
    record {
      before = x.before;
      there = ap (λ (ts : List Turn). slice_get ts x.before) (other-turn desk place line lines b blocks other) ∙ x.there ∙ ap (λ (n : ℕ). Some (record { place = n; body = block.body })) here;
      upto = ap (take x.before) (other-turn desk place line lines b blocks other) ∙ x.upto ∙ sym (other-turn desk place line (take at lines) b (take at blocks) other);
    }

turn_at_place : (desk place : ℕ) (lines : List Line) (blocks : List Block) (at : ℕ) (line : Line) (block : Block) → slice_get lines at ≡ Some line → line.desk ≡ desk → slice_get blocks at ≡ Some block → TurnAt desk place lines blocks at block
turn_at_place desk place [] blocks at line block there own block_there = absurd cc
turn_at_place desk place (l ∷ lines) [] at line block there own block_there = absurd cc
turn_at_place desk place (l ∷ lines) (b ∷ blocks) zero line block there own block_there =
    let same : l ≡ line = cc in
    let same_block : b ≡ block = cc in
    subst (TurnAt desk place (l ∷ lines) (b ∷ blocks) 0) same_block (first_turn_at desk place l lines b blocks (ap (λ (x : Line). x.desk) same ∙ own))
turn_at_place desk place (l ∷ lines) (b ∷ blocks) (suc at) line block there own block_there =
    let x = turn_at_place desk (suc place) lines blocks at line block there own block_there in
    elim (number_cases l.desk desk) [
      | inl is_own ↦ own_turn_at desk place l lines b blocks at block is_own x
      | inr other ↦ other_turn_at desk place l lines b blocks at block other x
    ]

-- ---- what stood before a line

each_taken : (P : Revisions → Line → Block → Type 0) (bench : Workbench) (k : ℕ) (before : List (Line × Block)) (lines : List Line) (blocks : List Block) → EachHolds P bench before lines blocks → EachHolds P bench before (take k lines) (take k blocks)
each_taken P bench zero before lines blocks each = tt
each_taken P bench (suc k) before [] [] each = tt
each_taken P bench (suc k) before [] (block ∷ blocks) each = absurd each
each_taken P bench (suc k) before (line ∷ lines) [] each = absurd each
each_taken P bench (suc k) before (line ∷ lines) (block ∷ blocks) each = (each.0, each_taken P bench k (before ++ (line, block) ∷ []) lines blocks each.1)

nothing : {X : Type 0} (xs : List X) → length xs ≡ 0 → xs ≡ []
nothing [] is = refl
nothing (x ∷ xs) is = absurd (omega (arith, is))

module _ (bench : Workbench) (desk : ℕ) (lines : List Line) (blocks : List Block) (fresh : (revisions_at bench desk).surviving ≡ []) (each : EachHolds (IsProvedBlock bench.table) bench [] lines blocks) where
  abbrev opening : ℕ
  opening = length (revisions_at bench desk).opening

  abbrev turns : List Turn
  turns = turns_from desk 0 lines blocks

  abbrev left_by : List Turn → ℕ
  left_by some = left_after opening (survivors opening some)

  counted : (k : ℕ) → left_by (turns_from desk 0 (take k lines) (take k blocks)) ≡ length (stood_before bench desk lines blocks k)
  counted k =
      whole opening (survivors opening (turns_from desk 0 (take k lines) (take k blocks))) (revisions_then bench (with_blocks (take k lines) (take k blocks)) desk)
      (walked bench desk (take k lines) (Counts opening) (λ list r place line body there is h. counts_on bench.table opening list r place line.command body is h) [] 0 (take k lines) (take k blocks) [] refl
      (each_taken (IsProvedBlock bench.table) bench k [] lines blocks each) (counts_first (revisions_at bench desk) fresh))

  to_nothing : (place : ℕ) → IsAskedOfNothing opening turns place → IsAskedWhereNothingStands bench desk lines blocks place
  to_nothing place is =
      let x = place_of desk 0 lines blocks is.before is.line is.there in
      let named = x.named in
      let is_named = is.named in
      let at : x.at ≡ place = omega (arith, named, is_named) in
      let none : length (stood_before bench desk lines blocks x.at) ≡ 0 = sym (counted x.at) ∙ sym (ap left_by x.upto) ∙ is.none_left in
      subst (IsAskedWhereNothingStands bench desk lines blocks) at (record {
        line = x.line;
        there = x.there;
        own = x.own;
        block = x.block;
        block_there = x.block_there;
        answers = is.answers;
        answered = sym x.body ∙ is.answered;
        nothing = nothing (stood_before bench desk lines blocks x.at) none;
      })

  of_nothing : (place : ℕ) → IsAskedWhereNothingStands bench desk lines blocks place → IsAskedOfNothing opening turns place
  of_nothing place is =
      let x = turn_at_place desk 0 lines blocks place is.line is.block is.there is.own is.block_there in
      record {
        before = x.before;
        line = record { place = 0 + place; body = is.block.body };
        answers = is.answers;
        there = x.there;
        named = omega arith;
        answered = is.answered;
        none_left = ap left_by x.upto ∙ counted place ∙ ap length is.nothing;
      }

pub asked_where_nothing_stands : AskedWhereNothingStands
asked_where_nothing_stands bench desk lines blocks place fresh each =
    let opening : ℕ = length (revisions_at bench desk).opening in
    let turns = turns_from desk 0 lines blocks in
    let those = asked_those opening turns place in
    (λ inside. to_nothing bench desk lines blocks fresh each place (those.0 inside), λ is. those.1 (of_nothing bench desk lines blocks fresh each place is))
