-- From line to line of a desk: while nothing is revised there, what stands stays.
use Rattle.std.proofs.Common.{◌≡◌, ◌⊎◌, inl, inr, ℕ, zero, suc, ◌+◌, ◌-◌, ◌<◌, ◌≤◌, Bool, true, false, ◌&&◌, List, [], ◌∷◌, ◌++◌, Option, Some, None, refl, sym, ap, subst, ◌∙◌, arith, append_assoc, length, drop}
use Rattle.std.specs.Prelude.{◌==◌, slice_get, if◌then◌else◌}
use Rattle.std.specs.List.{AllByRecursion, range_with_len}
use Rattle.std.specs.Option.{option_map_or}
use Rattle.std.proofs.lemmas.Bool.{eqb-true}
use Rattle.std.proofs.lemmas.List.{append-nil, length-append}
use Rattle.std.proofs.lemmas.Option.{slice_get_past}
use Rattle.ror_statement.specs.declared.statement.Numbered.{Numbered}
use Rattle.ror_table.specs.Table.{DecisionTable}
use Rattle.ror_session.specs.declared.session.Asked.{Asked}
use Rattle.ror_session.specs.declared.session.Asked.TheVariants as asked
use Rattle.ror_session.specs.declared.session.Command.{Command}
use Rattle.ror_session.specs.declared.session.Command.TheVariants.{State, Withdraw, Replace, Repair, Undo, Ask}
use Rattle.ror_session.specs.declared.session.Line.{Line}
use Rattle.ror_session.specs.declared.session.Session.{Session}
use Rattle.ror_report.specs.declared.block.Block.{Block}
use Rattle.ror_report.specs.declared.block.Body.{Body}
use Rattle.ror_report.specs.declared.block.Body.TheVariants.{Added, Withdrawn, Replaced, Undone, Repaired, RepairWide, Answers, Refused}
use Rattle.ror_history.specs.History.{Revisions, standing}
use Rattle.ror_bench.specs.Allowed.{proved_unless_wide}
use Rattle.ror_bench.specs.Bench.{Workbench}
use Rattle.ror_bench.specs.Blocks.{IsBodyOf, refused, taken, IsProvedBlock, revisions_with}
use Rattle.ror_bench.specs.Kept.{keep_at, standing_for, kept_of, kept_from}
use Rattle.ror_bench.specs.Reports.{EachHolds, revisions_then}
use Rattle.ror_bench.specs.declared.kept.Keep.{Keep}
use Rattle.ror_bench.specs.declared.kept.Keep.TheVariants as keeps
use Rattle.ror_bench.specs.declared.kept.KeptLine.{KeptLine}
use Rattle.ror_bench.proofs.ReportProofs.{number_cases, same_number, then_at_own, then_at_other}
use Rattle.ror_show_ground.specs.Lines.{is_answered}
use Rattle.ror_show_find_classes.specs.Times.{keep_for, asks_for_classes, is_revision, is_at, asks_at, is_answered_at, is_revision_at, answers_at, revises_at, run}
use Rattle.ror_show_find_classes.specs.Laws.{KeepsAtDesk, StoodAt, OneListInATime}
use Rattle.ror_show_find_classes.proofs.RunLemmas.{left_of}
use Rattle.ror_show_find_classes.proofs.SignLemmas.{both}

-- ---- what a line changes

unrevised : (t : DecisionTable) (r : Revisions) (command : Command) (body : Body) → is_revision body ≡ false → revisions_with t r command body ≡ r
unrevised t r command (Added n) clear = absurd cc
unrevised t r command (Withdrawn n) clear = absurd cc
unrevised t r command (Replaced n) clear = absurd cc
unrevised t r command Undone clear = absurd cc
unrevised t r command (Repaired kept) clear = absurd cc
unrevised t r command (RepairWide n note) clear = refl
unrevised t r command (Answers xs) clear = refl
unrevised t r command (Refused fault) clear = refl

-- what asks revises nothing
asks_only : (t : DecisionTable) (r : Revisions) (asks : Asked) (body : Body) → IsBodyOf proved_unless_wide t r (Ask asks) body → is_revision body ≡ false
asks_only t r asks body (refused fault first is) = ap is_revision is
asks_only t r asks body (taken passes is) = ap is_revision is.0

-- and only of what asks nothing is kept
nothing_kept : (t : DecisionTable) (r : Revisions) (command : Command) (body : Body) → keep_for command ≡ keeps.Nothing → IsBodyOf proved_unless_wide t r command body → is_revision body ≡ false
nothing_kept t r (Ask asks) body none is = asks_only t r asks body is
nothing_kept t r (State named) body none is = absurd cc
nothing_kept t r (Withdraw n) body none is = absurd cc
nothing_kept t r (Replace n named) body none is = absurd cc
nothing_kept t r Repair body none is = absurd cc
nothing_kept t r Undo body none is = absurd cc

classes_kept : (command : Command) → asks_for_classes command ≡ true → keep_for command ≡ keeps.Standing
classes_kept (Ask (asked.Classes name)) is = refl
classes_kept (Ask asked.Consistent) is = absurd cc
classes_kept (Ask (asked.Necessary a b)) is = absurd cc
classes_kept (Ask (asked.Possible a b)) is = absurd cc
classes_kept (Ask (asked.NecessaryStrength p q on)) is = absurd cc
classes_kept (Ask (asked.PossibleStrength p q on)) is = absurd cc
classes_kept (Ask (asked.PossibleClass a h)) is = absurd cc
classes_kept (Ask (asked.NecessaryClass a h)) is = absurd cc
classes_kept (Ask asked.Relation) is = absurd cc
classes_kept (State named) is = absurd cc
classes_kept (Withdraw n) is = absurd cc
classes_kept (Replace n named) is = absurd cc
classes_kept Repair is = absurd cc
classes_kept Undo is = absurd cc

pub answered_only : (body : Body) → is_answered body ≡ true → is_revision body ≡ false
answered_only (Answers xs) is = refl
answered_only (Added n) is = absurd cc
answered_only (Withdrawn n) is = absurd cc
answered_only (Replaced n) is = absurd cc
answered_only Undone is = absurd cc
answered_only (Repaired kept) is = absurd cc
answered_only (RepairWide n note) is = absurd cc
answered_only (Refused fault) is = absurd cc

-- ---- places

place-of : {X : Type 0} (xs : List X) (k : ℕ) (y : X) (ys : List X) → drop k xs ≡ y ∷ ys → (slice_get xs k ≡ Some y) × (drop (suc k) xs ≡ ys)
place-of {X} [] zero y ys is = absurd cc
place-of {X} [] (suc k) y ys is = absurd cc
place-of {X} (x ∷ xs) zero y ys is = (let e : x ≡ y = cc in ap Some e, let e : xs ≡ ys = cc in e)
place-of {X} (x ∷ xs) (suc k) y ys is = place-of xs k y ys is

at_seam : {X : Type 0} (xs : List X) (y : X) (ys : List X) → slice_get (xs ++ y ∷ ys) (length xs) ≡ Some y
at_seam {X} [] y ys = refl
at_seam {X} (x ∷ xs) y ys = at_seam xs y ys

one_longer : {X : Type 0} (xs : List X) (y : X) → length (xs ++ y ∷ []) ≡ length xs + 1
one_longer {X} xs y = length-append xs (y ∷ [])

kept_cases : (k : Keep) → (k ≡ keeps.Nothing) ⊎ ((place : ℕ) (list : Option (List Numbered)) (block : Block) → kept_of place k list block ≡ record { place = place; standing = list; block = block } ∷ [])
kept_cases keeps.Nothing = inl refl
kept_cases keeps.Block = inr (λ place list block. refl)
kept_cases keeps.Standing = inr (λ place list block. refl)

module _ (bench : Workbench) (keep : List Keep) (s : Session) (desk : ℕ) (enough : KeepsAtDesk keep s.lines desk) (all : List KeptLine) where
  abbrev asks : ℕ → Bool
  asks = answers_at s all desk

  abbrev revises : ℕ → Bool
  revises = revises_at s all desk

  abbrev stood : List (Line × Block) → List Numbered
  stood before = standing (revisions_then bench before desk)

  -- what is kept of the next line
  abbrev next_kept : List (Line × Block) → Line → Block → KeptLine
  next_kept before line block = record {
    place = length before;
    standing = standing_for (keep_at keep (length before)) (revisions_then bench before line.desk);
    block = block;
  }

  -- the lines before these are gone through, and this is kept of them
  record Walks (made : List KeptLine) (before : List (Line × Block)) (lines : List Line) (blocks : List Block) : Type 0 where
    pub at : drop (length before) s.lines ≡ lines
    pub split : all ≡ made ++ kept_from bench keep before lines blocks
    pub each : EachHolds (IsProvedBlock bench.table) bench before lines blocks

  module _ (made : List KeptLine) (before : List (Line × Block)) (line : Line) (lines : List Line) (block : Block) (blocks : List Block) (w : Walks made before (line ∷ lines) (block ∷ blocks)) where
    here : slice_get s.lines (length before) ≡ Some line
    here = (place-of s.lines (length before) line lines w.at).0

    next_at : drop (length (before ++ (line, block) ∷ [])) s.lines ≡ lines
    next_at =
        let longer : length (before ++ (line, block) ∷ []) ≡ suc (length before) = let l = one_longer before (line, block) in omega (arith, l) in
        ap (λ (n : ℕ). drop n s.lines) longer ∙ (place-of s.lines (length before) line lines w.at).1

    split_open : all ≡ made ++ (kept_of (length before) (keep_at keep (length before)) (standing_for (keep_at keep (length before)) (revisions_then bench before line.desk)) block ++ kept_from bench keep (before ++ (line, block) ∷ []) lines blocks)
    split_open = w.split

    -- where the line revises nothing at the desk
    stays : (line.desk ≡ desk → is_revision block.body ≡ false) → stood (before ++ (line, block) ∷ []) ≡ stood before
    stays clear = ap standing (elim (number_cases line.desk desk) [
      | inl own ↦ then_at_own bench before line block desk own ∙ unrevised bench.table (revisions_then bench before desk) line.command block.body (clear own)
      | inr other ↦ then_at_other bench before line block desk other
    ])

    -- nothing is kept of it
    passed : keep_at keep (length before) ≡ keeps.Nothing → Walks made (before ++ (line, block) ∷ []) lines blocks
    passed none = record {
      at = next_at;
      split = split_open ∙ ap (λ (k : Keep). made ++ (kept_of (length before) k (standing_for (keep_at keep (length before)) (revisions_then bench before line.desk)) block ++ kept_from bench keep (before ++ (line, block) ∷ []) lines blocks)) none;
      each = w.each.1;
    }

    passed_stays : keep_at keep (length before) ≡ keeps.Nothing → stood (before ++ (line, block) ∷ []) ≡ stood before
    passed_stays none = stays (λ own. nothing_kept bench.table (revisions_then bench before line.desk) line.command block.body (sym (enough (length before) line here own) ∙ none) w.each.0.body)

    module _ (some : kept_of (length before) (keep_at keep (length before)) (standing_for (keep_at keep (length before)) (revisions_then bench before line.desk)) block ≡ next_kept before line block ∷ []) where
      split_here : all ≡ made ++ next_kept before line block ∷ kept_from bench keep (before ++ (line, block) ∷ []) lines blocks
      split_here = split_open ∙ ap (λ (xs : List KeptLine). made ++ (xs ++ kept_from bench keep (before ++ (line, block) ∷ []) lines blocks)) some

      taken_on : Walks (made ++ next_kept before line block ∷ []) (before ++ (line, block) ∷ []) lines blocks
      taken_on = record {
        at = next_at;
        split = split_here ∙ sym (append_assoc made (next_kept before line block ∷ []) (kept_from bench keep (before ++ (line, block) ∷ []) lines blocks));
        each = w.each.1;
      }

      is_here : slice_get all (length made) ≡ Some (next_kept before line block)
      is_here = ap (λ (xs : List KeptLine). slice_get xs (length made)) split_here ∙ at_seam made (next_kept before line block) (kept_from bench keep (before ++ (line, block) ∷ []) lines blocks)

      within : length made < length all
      within = let long = ap (λ (xs : List KeptLine). length xs) split_here ∙ length-append made (next_kept before line block ∷ kept_from bench keep (before ++ (line, block) ∷ []) lines blocks) in omega (arith, long)

      revises_here : revises (length made) ≡ (line.desk == desk && is_revision block.body)
      revises_here = ap (λ (x : Option KeptLine). option_map_or (is_revision_at s desk) x false) is_here ∙ ap (λ (l : Option Line). is_at desk l && is_revision block.body) here

      asks_here : asks (length made) ≡ ((line.desk == desk && asks_for_classes line.command) && is_answered block.body)
      asks_here = ap (λ (x : Option KeptLine). option_map_or (is_answered_at s desk) x false) is_here ∙ ap (λ (l : Option Line). asks_at desk l && is_answered block.body) here

      kept_stays : revises (length made) ≡ false → stood (before ++ (line, block) ∷ []) ≡ stood before
      kept_stays clear = stays (λ own. ap (λ (b : Bool). b && is_revision block.body) (sym (same_number line.desk desk own)) ∙ sym revises_here ∙ clear)

      stood_here : asks (length made) ≡ true → StoodAt all (stood before) (length made)
      stood_here is =
          let parts = both (line.desk == desk && asks_for_classes line.command) (is_answered block.body) (sym asks_here ∙ is) in
          let firsts = both (line.desk == desk) (asks_for_classes line.command) parts.0 in
          let own = eqb-true line.desk desk firsts.0 in
          let standing_kept : keep_at keep (length before) ≡ keeps.Standing = enough (length before) line here own ∙ classes_kept line.command firsts.1 in
          ap (λ (x : Option KeptLine). option_map_or (λ y. y.standing) x None) is_here
          ∙ ap (λ (k : Keep). standing_for k (revisions_then bench before line.desk)) standing_kept
          ∙ ap (λ (d : ℕ). Some (standing (revisions_then bench before d))) own

  -- ---- the rows from a place on

  abbrev from : ℕ → List ℕ
  from n = run asks revises (range_with_len n (length all - n))

  choose : (list : List Numbered) (n : ℕ) (ns : List ℕ) (r a : Bool) → (r ≡ false → a ≡ true → StoodAt all list n) → (r ≡ false → AllByRecursion (StoodAt all list) (run asks revises ns)) → AllByRecursion (StoodAt all list) (if r then [] else (if a then n ∷ run asks revises ns else run asks revises ns))
  choose list n ns true a row more = tt
  choose list n ns false true row more = (row refl refl, more refl)
  choose list n ns false false row more = more refl

  more_rows : (list : List Numbered) (n : ℕ) → n < length all → (asks n ≡ true → StoodAt all list n) → (revises n ≡ false → AllByRecursion (StoodAt all list) (from (n + 1))) → AllByRecursion (StoodAt all list) (from n)
  more_rows list n below row more =
      subst (λ (ns : List ℕ). AllByRecursion (StoodAt all list) (run asks revises ns)) (sym (left_of n (length all) below))
      (choose list n (range_with_len (n + 1) (length all - (n + 1))) (revises n) (asks n) (λ clear. row) more)

  no_rows : (list : List Numbered) (made : List KeptLine) → all ≡ made ++ [] → AllByRecursion (StoodAt all list) (from (length made))
  no_rows list made split =
      let long : length all - length made ≡ 0 = let same = ap (λ (xs : List KeptLine). length xs) (split ∙ append-nil made) in omega (arith, same) in
      subst (λ (k : ℕ). AllByRecursion (StoodAt all list) (run asks revises (range_with_len (length made) k))) (sym long) tt

  walk : (made : List KeptLine) (before : List (Line × Block)) (lines : List Line) (blocks : List Block) → Walks made before lines blocks → AllByRecursion (StoodAt all (stood before)) (from (length made))
  walk made before [] [] w = no_rows (stood before) made w.split
  walk made before [] (block ∷ blocks) w = absurd w.each
  walk made before (line ∷ lines) [] w = absurd w.each
  walk made before (line ∷ lines) (block ∷ blocks) w = elim (kept_cases (keep_at keep (length before))) [
    | inl none ↦
        subst (λ (list : List Numbered). AllByRecursion (StoodAt all list) (from (length made))) (passed_stays made before line lines block blocks w none)
        (walk made (before ++ (line, block) ∷ []) lines blocks (passed made before line lines block blocks w none))
    | inr kept ↦
        let some = kept (length before) (standing_for (keep_at keep (length before)) (revisions_then bench before line.desk)) block in
        let rest = walk (made ++ next_kept before line block ∷ []) (before ++ (line, block) ∷ []) lines blocks (taken_on made before line lines block blocks w some) in
        more_rows (stood before) (length made) (within made before line lines block blocks w some) (stood_here made before line lines block blocks w some)
        (λ clear. subst (λ (list : List Numbered). AllByRecursion (StoodAt all list) (from (length made + 1))) (kept_stays made before line lines block blocks w some clear)
        (subst (λ (n : ℕ). AllByRecursion (StoodAt all (stood (before ++ (line, block) ∷ []))) (from n)) (one_longer made (next_kept before line block)) rest))
  ]

  -- the time that the line at a place begins
  reach : (n : ℕ) (made : List KeptLine) (before : List (Line × Block)) (lines : List Line) (blocks : List Block) → Walks made before lines blocks → length made ≤ n → asks n ≡ true → (list : List Numbered) × AllByRecursion (StoodAt all list) (from n)
  reach n made before [] [] w below is =
      let long : length all ≤ n = let same = ap (λ (xs : List KeptLine). length xs) (w.split ∙ append-nil made) in omega (arith, same, below) in
      absurd (let clear : false ≡ true = sym (ap (λ (x : Option KeptLine). option_map_or (is_answered_at s desk) x false) (slice_get_past all n long)) ∙ is in cc)
  reach n made before [] (block ∷ blocks) w below is = absurd w.each
  reach n made before (line ∷ lines) [] w below is = absurd w.each
  reach n made before (line ∷ lines) (block ∷ blocks) w below is = elim (number_cases (length made) n) [
    | inl same ↦ (stood before, subst (λ (k : ℕ). AllByRecursion (StoodAt all (stood before)) (from k)) same (walk made before (line ∷ lines) (block ∷ blocks) w))
    | inr other ↦ elim (kept_cases (keep_at keep (length before))) [
      | inl none ↦ reach n made (before ++ (line, block) ∷ []) lines blocks (passed made before line lines block blocks w none) below is
      | inr kept ↦
          let some = kept (length before) (standing_for (keep_at keep (length before)) (revisions_then bench before line.desk)) block in
          let longer = one_longer made (next_kept before line block) in
          reach n (made ++ next_kept before line block ∷ []) (before ++ (line, block) ∷ []) lines blocks (taken_on made before line lines block blocks w some) (omega (arith, below, other, longer)) is
    ]
  ]

pub one_list : OneListInATime
one_list bench keep s blocks desk n enough each is =
    reach bench keep s desk enough (kept_from bench keep [] s.lines blocks) n [] [] s.lines blocks (record { at = refl; split = refl; each = each }) (omega arith) is
