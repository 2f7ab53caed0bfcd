-- That the line which is named beside a statement said it.
use Rattle.std.proofs.Common.{◌≡◌, ◌≢◌, inl, inr, ℕ, ◌+◌, ◌<◌, zero, suc, Bool, true, false, List, [], ◌∷◌, ◌++◌, Option, Some, None, refl, sym, ap, subst, ◌∙◌, arith, length, map, take, drop}
use Rattle.std.specs.Prelude.{slice_get, slice_index_or, if◌then◌else◌}
use Rattle.std.specs.List.{fold}
use Rattle.std.specs.Option.{option_map_or}
use Rattle.std.proofs.lemmas.List.{append-nil, length-append}
use Rattle.std.proofs.lemmas.List.Concat.{flat_map-append}
use Rattle.std.proofs.lemmas.List.Sums.{fold-append}
use Rattle.ror_text.proofs.Everywhere.{all_at}
use Rattle.ror_statement.specs.declared.statement.Numbered.{Numbered}
use Rattle.ror_table.specs.Table.{DecisionTable}
use Rattle.ror_check.proofs.Numbers.{rises, rises-places}
use Rattle.ror_session.specs.declared.session.Command.{Command}
use Rattle.ror_session.specs.declared.session.Command.TheVariants.{State, Withdraw, Replace, Repair, Undo, Ask}
use Rattle.ror_session.specs.declared.session.Line.{Line}
use Rattle.ror_session.specs.declared.session.Session.{Session}
use Rattle.ror_session.specs.Sound.{IsSound, desk_name}
use Rattle.ror_report.specs.declared.block.Block.{Block}
use Rattle.ror_report.specs.declared.block.Body.{Body}
use Rattle.ror_history.specs.History.{Revisions, standing}
use Rattle.ror_bench.specs.Allowed.{proved_unless_wide}
use Rattle.ror_bench.specs.Bench.{Workbench, revisions_at}
use Rattle.ror_bench.specs.Blocks.{IsBodyOf, refused, taken, IsProvedBlock}
use Rattle.ror_bench.specs.Desks.{with_blocks}
use Rattle.ror_bench.specs.Kept.{keep_at, kept_of, standing_for, kept_at, kept_from}
use Rattle.ror_bench.specs.Reports.{EachHolds, revisions_then}
use Rattle.ror_bench.specs.declared.kept.Keep.{Keep}
use Rattle.ror_bench.specs.declared.kept.Keep.TheVariants as keeping
use Rattle.ror_bench.specs.declared.kept.KeptLine.{KeptLine}
use Rattle.ror_bench.proofs.ReportProofs.{number_cases, same_number, other_number}
use Rattle.ror_frame.specs.Inputs.{bench_for}
use Rattle.ror_show_ground.specs.Lines.{desk_of}
use Rattle.ror_show_find_roll.specs.Laws.{stated_at}
use Rattle.ror_show_find_roll.specs.Roll.{survivors_with, tally_of, roll_of}
use Rattle.ror_show_find_roll.specs.Shown.{shown}
use Rattle.ror_show_find_roll.specs.Steps.{turn_at, kept_turn, kept_turns, turns_from}
use Rattle.ror_show_find_roll.proofs.StandLemmas.{place-of}
use Rattle.ror_show_find_roll.proofs.LawProofs.{shows_what_stands}
use Rattle.ror_show_words.specs.Words.{PageWords}
use Rattle.ror_show_pages.specs.Choosing.{is_line, is_up_to, keep_where}
use Rattle.ror_show_find_roll.specs.Choosing.{is_desk}
use Rattle.ror_show_pages.specs.PageLaws.{IsExplained, MeantLinesAreKept, SaidIsWhatStood, kept_for}
use Rattle.ror_show_pages.specs.Pages.{keep_of, keeps, keep_for_people, page_of}
use Rattle.ror_show_pages.proofs.ClassTruth.{kept_there}
use Rattle.ror_show_pages.proofs.Stands.{at_replicate}
use Rattle.ror_show_pages.proofs.Found.{found, made, kept_at_place}
use Rattle.ror_show_words.specs.declared.table.Page.TheVariants as pages
use Rattle.ror_show_words.specs.declared.words.Form.TheVariants.{Text}

-- ---- lines that ask leave what stands

abbrev pub Asks : Command → Type 0
Asks (Ask asked) = Unit {0}
Asks command = ⊥

left_so : (t : DecisionTable) (r : Revisions) (command : Command) (body : Body) (opening place : ℕ) (list : _) → Asks command → IsBodyOf proved_unless_wide t r command body → survivors_with opening list (record { place = place; body = body }) ≡ list
left_so t r command body opening place list asks (refused fault first is) = rw is refl
left_so t r (Ask asked) body opening place list asks (taken passes is) = rw is.0 refl
left_so t r (State named) body opening place list asks (taken passes is) = absurd asks
left_so t r (Withdraw n) body opening place list asks (taken passes is) = absurd asks
left_so t r (Replace n named) body opening place list asks (taken passes is) = absurd asks
left_so t r Repair body opening place list asks (taken passes is) = absurd asks
left_so t r Undo body opening place list asks (taken passes is) = absurd asks

module _ (all : List Line) (desk opening : ℕ) where
  -- of a line of the desk something is kept, or it asks
  abbrev pub IsEnough : List Keep → ℕ → Line → Type 0
  IsEnough keep place line = keep_at keep place ≡ keeping.Nothing → line.desk ≡ desk → Asks line.command

  kept_turn_of : (so : Keep) (place : ℕ) (list : Option (List Numbered)) (line : Line) (block : Block) → so ≢ keeping.Nothing → slice_get all place ≡ Some line → kept_turns all desk (kept_of place so list block) ≡ turn_at desk place block.body (Some line)
  kept_turn_of keeping.Nothing place list line block some at = absurd (some refl)
  kept_turn_of keeping.Block place list line block some at = append-nil (turn_at desk place block.body (slice_get all place)) ∙ ap (turn_at desk place block.body) at
  kept_turn_of keeping.Standing place list line block some at = append-nil (turn_at desk place block.body (slice_get all place)) ∙ ap (turn_at desk place block.body) at

  -- the turn of a line of which nothing is kept
  idle : (t : DecisionTable) (r : Revisions) (place : ℕ) (line : Line) (block : Block) (list : _) → (line.desk ≡ desk → Asks line.command) → IsBodyOf proved_unless_wide t r line.command block.body → list ≡ fold (survivors_with opening) list (turn_at desk place block.body (Some line))
  idle t r place line block list asks body = elim (number_cases line.desk desk) [
    | inl own ↦ rw (same_number line.desk desk own) (sym (left_so t r line.command block.body opening place list (asks own) body))
    | inr other ↦ rw (other_number line.desk desk other) refl
  ]

  one_turn : (t : DecisionTable) (r : Revisions) (so : Keep) (place : ℕ) (stood : Option (List Numbered)) (line : Line) (block : Block) (list : _) → slice_get all place ≡ Some line → (so ≡ keeping.Nothing → line.desk ≡ desk → Asks line.command) → IsBodyOf proved_unless_wide t r line.command block.body → fold (survivors_with opening) list (kept_turns all desk (kept_of place so stood block)) ≡ fold (survivors_with opening) list (turn_at desk place block.body (Some line))
  one_turn t r keeping.Nothing place stood line block list at enough body = idle t r place line block list (enough refl) body
  one_turn t r keeping.Block place stood line block list at enough body = ap (fold (survivors_with opening) list) (kept_turn_of keeping.Block place stood line block (λ is. absurd cc) at)
  one_turn t r keeping.Standing place stood line block list at enough body = ap (fold (survivors_with opening) list) (kept_turn_of keeping.Standing place stood line block (λ is. absurd cc) at)

  same_on : (bench : Workbench) (keep : List Keep) (before : List (Line × Block)) (lines after : List Line) (blocks : List Block) (list : _) → drop (length before) all ≡ lines ++ after → ((k : ℕ) (line : Line) → slice_get lines k ≡ Some line → IsEnough keep (length before + k) line) → EachHolds (IsProvedBlock bench.table) bench before lines blocks → fold (survivors_with opening) list (kept_turns all desk (kept_from bench keep before lines blocks)) ≡ fold (survivors_with opening) list (turns_from desk (length before) lines blocks)
  same_on bench keep before [] after [] list at enough each = refl
  same_on bench keep before [] after (block ∷ blocks) list at enough each = absurd each
  same_on bench keep before (line ∷ lines) after [] list at enough each = absurd each
  same_on bench keep before (line ∷ lines) after (block ∷ blocks) list at enough each =
      let place = length before in
      let here = place-of all place line (lines ++ after) at in
      let longer : length (before ++ (line, block) ∷ []) ≡ suc place = length-append before ((line, block) ∷ []) ∙ omega arith in
      let next : drop (length (before ++ (line, block) ∷ [])) all ≡ lines ++ after = ap (λ (n : ℕ). drop n all) longer ∙ here.1 in
      let so = keep_at keep place in
      let first : so ≡ keeping.Nothing → line.desk ≡ desk → Asks line.command = λ none own. enough 0 line refl (ap (keep_at keep) (omega arith) ∙ none) own in
      let behind = kept_from bench keep (before ++ (line, block) ∷ []) lines blocks in
      let rest = same_on bench keep (before ++ (line, block) ∷ []) lines after blocks (fold (survivors_with opening) list (turn_at desk place block.body (Some line))) next (λ k l there. λ none own. enough (suc k) l there (ap (keep_at keep) (omega (arith, longer)) ∙ none) own) each.1 in
      ap (fold (survivors_with opening) list) (flat_map-append (kept_turn all desk) (kept_at bench keep before line block) behind)
      ∙ fold-append (survivors_with opening) list (kept_turns all desk (kept_at bench keep before line block)) (kept_turns all desk behind)
      ∙ ap (λ (l : _). fold (survivors_with opening) l (kept_turns all desk behind)) (one_turn bench.table (revisions_then bench before line.desk) so place (standing_for so (revisions_then bench before line.desk)) line block list here.0 first each.0.body)
      ∙ rest
      ∙ ap (λ (n : ℕ). fold (survivors_with opening) (fold (survivors_with opening) list (turn_at desk place block.body (Some line))) (turns_from desk n lines blocks)) longer
      ∙ sym (fold-append (survivors_with opening) list (turn_at desk place block.body (Some line)) (turns_from desk (suc place) lines blocks))

-- ---- which lines are kept with what stood

stands : (so : Keep) (r : Revisions) (list : List Numbered) → standing_for so r ≡ Some list → (so ≡ keeping.Standing) × (standing r ≡ list)
stands keeping.Nothing r list is = absurd cc
stands keeping.Block r list is = absurd cc
stands keeping.Standing r list is = (refl, cc)

meant_desk : (b : Bool) (so : Keep) → (if b then so else keeping.Nothing) ≡ keeping.Standing → (b ≡ true) × (so ≡ keeping.Standing)
meant_desk true so is = (refl, is)
meant_desk false so is = absurd cc

no_block : (b : Bool) → keep_where b keeping.Block ≡ keeping.Standing → ⊥
no_block true is = cc
no_block false is = cc

repair_meant : (here before : Bool) → (if here then keeping.Standing else keep_where before keeping.Block) ≡ keeping.Standing → here ≡ true
repair_meant true before is = refl
repair_meant false before is = absurd (no_block before is)

repair_some : (here before : Bool) → before ≡ true → (if here then keeping.Standing else keep_where before keeping.Block) ≡ keeping.Nothing → ⊥
repair_some true before below is = cc
repair_some false before below is = let p = ap (λ (b : Bool). keep_where b keeping.Block) (sym below) ∙ is in cc

meant_line : (meant : Option ℕ) (n : ℕ) (command : Command) → keep_for_people meant n command ≡ keeping.Standing → is_line meant n ≡ true
meant_line meant n (Ask asked) is = by (is_line meant n) is
  where
    by : (b : Bool) → keep_where b keeping.Standing ≡ keeping.Standing → b ≡ true
    by true is = refl
    by false is = absurd cc
meant_line meant n (State named) is = absurd (no_block (is_up_to meant n) is)
meant_line meant n (Withdraw m) is = absurd (no_block (is_up_to meant n) is)
meant_line meant n (Replace m named) is = absurd (no_block (is_up_to meant n) is)
meant_line meant n Repair is = repair_meant (is_line meant n) (is_up_to meant n) is
meant_line meant n Undo is = absurd (no_block (is_up_to meant n) is)

-- of a line before the one that is meant something is kept, or it asks
up : (meant : Option ℕ) (n m : ℕ) → is_line meant n ≡ true → m < n → is_up_to meant m ≡ true
up None n m is below = refl
up (Some k) n m is below = grind (arith, is, below)

kept_some : (meant : Option ℕ) (n : ℕ) (command : Command) → is_up_to meant n ≡ true → keep_for_people meant n command ≡ keeping.Nothing → Asks command
kept_some meant n (Ask asked) below none = tt
kept_some meant n (State named) below none = absurd (let p = ap (λ (b : Bool). keep_where b keeping.Block) (sym below) ∙ none in cc)
kept_some meant n (Withdraw m) below none = absurd (let p = ap (λ (b : Bool). keep_where b keeping.Block) (sym below) ∙ none in cc)
kept_some meant n (Replace m named) below none = absurd (let p = ap (λ (b : Bool). keep_where b keeping.Block) (sym below) ∙ none in cc)
kept_some meant n Repair below none = absurd (repair_some (is_line meant n) (is_up_to meant n) below none)
kept_some meant n Undo below none = absurd (let p = ap (λ (b : Bool). keep_where b keeping.Block) (sym below) ∙ none in cc)

-- of a line that asks or repairs and is meant what stood is kept
kept_standing : (meant : Option ℕ) (n : ℕ) (command : Command) → IsExplained command → is_line meant n ≡ true → keep_for_people meant n command ≡ keeping.Standing
kept_standing meant n (Ask asked) explained here = ap (λ (b : Bool). keep_where b keeping.Standing) here
kept_standing meant n Repair explained here = ap (λ (b : Bool). if b then keeping.Standing else keep_where (is_up_to meant n) keeping.Block) here
kept_standing meant n (State named) explained here = absurd explained
kept_standing meant n (Withdraw m) explained here = absurd explained
kept_standing meant n (Replace m named) explained here = absurd explained
kept_standing meant n Undo explained here = absurd explained

-- ---- places

at_front : {A : Type 0} (front back : List A) (k : ℕ) (x : A) → slice_get front k ≡ Some x → (slice_get (front ++ back) k ≡ Some x) × (k < length front)
at_front {A} [] back k x is = absurd cc
at_front {A} (y ∷ ys) back zero x is = (is, omega arith)
at_front {A} (y ∷ ys) back (suc k) x is = let r = at_front ys back k x is in let below = r.1 in (r.0, omega (arith, below))

at_seam : {A : Type 0} (front back : List A) (x : A) → (slice_get (front ++ x ∷ back) (length front) ≡ Some x) × (take (length front) (front ++ x ∷ back) ≡ front)
at_seam {A} [] back x = (refl, refl)
at_seam {A} (y ∷ ys) back x = let r = at_seam ys back x in (r.0, ap (λ (zs : List A). y ∷ zs) r.1)

-- ---- what is said of a line

module _ (words : PageWords) (s : Session) (sound : IsSound s) where
  -- of each line in front of one that is kept with what stood there is enough
  enough_before : (front back : List Line) (line : Line) → s.lines ≡ front ++ line ∷ back → keep_of (page_of pages.Reasons Text) words.line words.desk s.desks line ≡ keeping.Standing → (k : ℕ) (other : Line) → slice_get front k ≡ Some other → IsEnough s.lines line.desk 0 (keeps (page_of pages.Reasons Text) words.line words.desk s) (0 + k) other
  enough_before front back line are kept k other there = λ none own.
      let seam = at_seam front back line in
      let inside = at_front front (line ∷ back) k other there in
      let here : slice_get s.lines k ≡ Some other = ap (λ (ls : List Line). slice_get ls k) are ∙ inside.0 in
      let last : slice_get s.lines (length front) ≡ Some line = ap (λ (ls : List Line). slice_get ls (length front)) are ∙ seam.0 in
      let below = rises-places (λ l. l.number) s.lines k (length front) other line (rises (map (λ l. l.number) s.lines) sound.rising) here last inside.1 in
      let meant = meant_desk (is_desk words.desk (desk_name s.desks line)) (keep_for_people words.line line.number line.command) kept in
      let numbered = meant_line words.line line.number line.command meant.1 in
      let place : k ≡ 0 + k = omega arith in
      let so : keep_of (page_of pages.Reasons Text) words.line words.desk s.desks other ≡ keeping.Nothing = sym (kept_there (keep_of (page_of pages.Reasons Text) words.line words.desk s.desks) s.lines k other here) ∙ ap (keep_at (keeps (page_of pages.Reasons Text) words.line words.desk s)) place ∙ none in
      let same : is_desk words.desk (desk_name s.desks other) ≡ true = ap (λ (d : ℕ). is_desk words.desk (slice_index_or s.desks d [])) own ∙ meant.0 in
      let for : keep_for_people words.line other.number other.command ≡ keeping.Nothing = ap (λ (b : Bool). if b then keep_for_people words.line other.number other.command else keeping.Nothing) (sym same) ∙ so in
      kept_some words.line other.number other.command (up words.line line.number other.number numbered below) for

pub said_is_what_stood : SaidIsWhatStood
said_is_what_stood words i s bytes accepted k x list sound report is stood =
    let bench = bench_for i s in
    let at = found bench (keeps (page_of pages.Reasons Text) words.line words.desk s) [] s.lines report.blocks k x report.proved is in
    let front = at.front in
    let line = at.line in
    let desk = line.desk in
    let seam = at_seam front at.back line in
    let place : x.place ≡ length front = let p = at.place in omega (arith, p) in
    let last : slice_get s.lines x.place ≡ Some line = ap (slice_get s.lines) place ∙ ap (λ (ls : List Line). slice_get ls (length front)) at.lines_are ∙ seam.0 in
    let first : take x.place s.lines ≡ front = ap (λ (n : ℕ). take n s.lines) place ∙ ap (take (length front)) at.lines_are ∙ seam.1 in
    let stand = stands (keep_at (keeps (page_of pages.Reasons Text) words.line words.desk s) x.place) (revisions_then bench (with_blocks front at.bodies) desk) list (sym at.stood ∙ stood) in
    let kept : keep_of (page_of pages.Reasons Text) words.line words.desk s.desks line ≡ keeping.Standing = sym (kept_there (keep_of (page_of pages.Reasons Text) words.line words.desk s.desks) s.lines x.place line last) ∙ stand.0 in
    let own : desk_of s x ≡ desk = ap (λ (o : Option Line). option_map_or (λ l. l.desk) o 0) last in
    let below : desk < length s.desks = all_at (λ l. l.desk < length s.desks) s.lines x.place line sound.desks last in
    let fresh : revisions_at bench desk ≡ record { opening = i.opening; surviving = [] } = at_replicate (length s.desks) desk (record { opening = i.opening; surviving = [] }) _ below in
    let opening = length i.opening in
    let turns = same_on s.lines desk opening bench (keeps (page_of pages.Reasons Text) words.line words.desk s) [] front (line ∷ at.back) at.bodies [] at.lines_are (enough_before words s sound front at.back line at.lines_are kept) at.each in
    let shows = shows_what_stands bench desk front at.bodies (ap (λ (r : Revisions). r.surviving) fresh) at.each in
    let opened = subst (λ (r : Revisions). map (shown (stated_at i.table front) r.opening) (roll_of (length r.opening) (turns_from desk 0 front at.bodies)).entries ≡ map Some (standing (revisions_then bench (with_blocks front at.bodies) desk))) fresh shows in
    let entries : (roll_of opening (kept_turns s.lines desk (kept_from bench (keeps (page_of pages.Reasons Text) words.line words.desk s) [] front at.bodies))).entries ≡ (roll_of opening (turns_from desk 0 front at.bodies)).entries = ap (λ (l : _). (tally_of opening l).entries) turns in
    let at_desk = subst (λ (ks : List KeptLine). (roll_of opening (kept_turns s.lines desk ks)).entries ≡ (roll_of opening (turns_from desk 0 front at.bodies)).entries) (sym at.taken) entries in
    let named = subst (λ (d : ℕ). (roll_of opening (kept_turns s.lines d (take k (kept_for pages.Reasons Text words i s report.blocks)))).entries ≡ (roll_of opening (turns_from desk 0 front at.bodies)).entries) (sym own) at_desk in
    ap (map (shown (stated_at i.table (take x.place s.lines)) i.opening)) named
    ∙ ap (λ (ls : List Line). map (shown (stated_at i.table ls) i.opening) (roll_of opening (turns_from desk 0 front at.bodies)).entries) first
    ∙ opened
    ∙ ap (map Some) stand.1

pub meant_lines_are_kept : MeantLinesAreKept
meant_lines_are_kept words i s bytes accepted n line block report at there explained desk_meant line_meant =
    let keep = keeps (page_of pages.Reasons Text) words.line words.desk s in
    let by_desk : keep_of (page_of pages.Reasons Text) words.line words.desk s.desks line ≡ keep_for_people words.line line.number line.command = ap (λ (b : Bool). if b then keep_for_people words.line line.number line.command else keeping.Nothing) desk_meant in
    let by_line = kept_standing words.line line.number line.command explained line_meant in
    let place : 0 + n ≡ n = omega arith in
    let kept = kept_at_place (bench_for i s) keep [] s.lines report.blocks n line block at there (ap (keep_at keep) place ∙ kept_there (keep_of (page_of pages.Reasons Text) words.line words.desk s.desks) s.lines n line at ∙ by_desk ∙ by_line) in
    (kept.0, kept.1 ∙ ap (λ (m : ℕ). Some (made (bench_for i s) keep m (with_blocks (take n s.lines) (take n report.blocks)) line block)) place)
