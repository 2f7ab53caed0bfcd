-- What is known of all judges who are heard holds for each of them, and its strict part has no cycle.
use Rattle.std.proofs.Common.{◌≡◌, ◌≢◌, ℕ, ◌+◌, zero, suc, ◌<◌, Bool, true, false, not, ◌&&◌, ◌||◌, List, [], ◌∷◌, length, map, get_or, Some, refl, sym, ap, subst, ◌∙◌, arith, inl, inr}
use Rattle.std.proofs.lemmas.Int.{ints}
use Rattle.std.specs.Prelude.{◌==◌, ◌≤ℤ◌, ◌<ℤ◌, nat_lt, slice_get, if◌then◌else◌}
use Rattle.std.specs.List.{AllByRecursion}
use Rattle.std.proofs.lemmas.Bool.{eqb-true, eqb-false, ne_eqb, lt-ltb}
use Rattle.std.proofs.lemmas.List.{get_or-map, length-map}
use Rattle.std.proofs.lemmas.List.FromFn.{length-map-range_with_len, get_or-map-range_with_len}
use Rattle.ror_text.proofs.Everywhere.{all-by, all_by_places}
use Rattle.ror_statement.specs.declared.statement.Statement.{Statement}
use Rattle.ror_table.specs.Table.{DecisionTable}
use Rattle.ror_value.specs.Value.{value}
use Rattle.ror_group.specs.Group.{SomeHas}
use Rattle.ror_group.specs.declared.entry.Entry.{Entry}
use Rattle.ror_show_ground.specs.Meaning.{ByEvery}
use Rattle.ror_show_find_relation.specs.declared.cell.Cell.{Cell}
use Rattle.ror_show_find_relation.specs.declared.cell.Cell.TheVariants as cell
use Rattle.ror_show_find_relation.specs.Cells.{cell_of, is_over_another, mirror}
use Rattle.ror_show_find_relation.specs.Meaning.{Says}
use Rattle.ror_show_find_relation.specs.Relations.{holds, IsAbove, PathOf}
use Rattle.ror_show_find_relation.proofs.Mirror.{cell-mirrored}
use Rattle.ror_show_find_relation.proofs.Parts.{of-above, first-there, second-there, above-irreflexive}
use Rattle.ror_show_find_group.specs.declared.judge.JudgeFound.{JudgeFound}
use Rattle.ror_show_find_group.specs.declared.votes.Mark.TheVariants as marks
use Rattle.ror_show_find_group.specs.declared.cell.GroupCell.{GroupCell}
use Rattle.ror_show_find_group.specs.declared.cell.GroupCell.TheVariants as cells
use Rattle.ror_show_find_group.specs.declared.page.GroupFound.{GroupFound}
use Rattle.ror_show_find_group.specs.Grounds.{GroupGround, IsJudgedGroup}
use Rattle.ror_show_find_group.specs.Judges.{said_of_judge, judge_cell, judge_at, judges_of, cell_of_judge}
use Rattle.ror_show_find_group.specs.Votes.{is_under_another, is_unsaid, some_vote, every_vote, some_says, every_says, heard_count}
use Rattle.ror_show_find_group.specs.Cells.{is_over, over_of, under_of, differ, either_way, divided, says_nothing, cell_by, group_cell, group_row, group_rows}
use Rattle.ror_show_find_relation.specs.Pages as pages
use Rattle.ror_show_find_relation.specs.Cells as relation
use Rattle.ror_show_find_group.specs.Findings.{known, common_cell, common_rows, IsGroupFound}
use Rattle.ror_show_find_group.specs.Meaning.{heard, HasOver, HasBetter, HasEqual, GroupSays}
use Rattle.ror_show_find_group.specs.Laws.{AllOf}
use Rattle.ror_show_find_group.proofs.JudgeLemmas.{range-get, rows-at}
use Rattle.ror_show_find_group.proofs.VoteLemmas.{not_every, every_some, some_holds}
use Rattle.ror_show_find_group.proofs.CellLemmas.{group_true, each_says}

-- ---- where the marks stand

known-size : (js : List JudgeFound) (n : ℕ) → length (known (group_rows js n)) ≡ n
known-size js n = length-map (group_rows js n) (map is_over) ∙ length-map-range_with_len (group_row js n) 0 n

known-at : (js : List JudgeFound) (n a b : ℕ) → a < n → b < n → holds (known (group_rows js n)) a b ≡ is_over (group_cell js a b)
known-at js n a b row column =
    let many : length (group_rows js n) ≡ n = length-map-range_with_len (group_row js n) 0 n in
    let wide : length (group_row js n a) ≡ n = length-map-range_with_len (group_cell js a) 0 n in
    let there : nat_lt b (length (known (group_rows js n))) ≡ true = lt-ltb b (length (known (group_rows js n))) (let size = known-size js n in omega arith) in
    let of_row : get_or (known (group_rows js n)) a [] ≡ map is_over (get_or (group_rows js n) a []) = get_or-map (map is_over) (group_rows js n) a [] [] (omega arith) in
    let the_row : get_or (group_rows js n) a [] ≡ group_row js n a = get_or-map-range_with_len (group_row js n) 0 n a a [] row (omega arith) in
    let of_cell : get_or (map is_over (group_row js n a)) b false ≡ is_over (get_or (group_row js n a) b cells.Open) = get_or-map is_over (group_row js n a) b cells.Open false (omega arith) in
    let the_cell : get_or (group_row js n a) b cells.Open ≡ group_cell js a b = get_or-map-range_with_len (group_cell js a) 0 n b b cells.Open column (omega arith) in
    let entry : get_or (get_or (known (group_rows js n)) a []) b false ≡ is_over (group_cell js a b) =
    ap (λ (r : List Bool). get_or r b false) (of_row ∙ ap (map is_over) the_row) ∙ of_cell ∙ ap is_over the_cell in
    ap (λ (t : Bool). t && get_or (get_or (known (group_rows js n)) a []) b false) there ∙ entry

-- ---- the judges' cells the other way

judge-mirrored : (n : ℕ) (entries : List Entry) (j a b : ℕ) → judge_cell n entries j b a ≡ mirror (judge_cell n entries j a b)
judge-mirrored n entries j a b = by (a == b) (b == a) refl refl
  where
    by : (s r : Bool) → (a == b) ≡ s → (b == a) ≡ r → (if r then cell.Itself else cell_of (said_of_judge n entries j b a) (said_of_judge n entries j a b)) ≡ mirror (if s then cell.Itself else cell_of (said_of_judge n entries j a b) (said_of_judge n entries j b a))
    by true true same back = refl
    by false false same back = cell-mirrored (said_of_judge n entries j a b) (said_of_judge n entries j b a)
    by true false same back = absurd (eqb-false b a back (sym (eqb-true a b same)))
    by false true same back = absurd (eqb-false a b same (sym (eqb-true b a back)))

abbrev AreMirrored : List JudgeFound → ℕ → ℕ → Type 0
AreMirrored js a b = AllByRecursion (λ j. cell_of_judge j b a ≡ mirror (cell_of_judge j a b)) js

found-mirrored : (g : GroupGround) (found : GroupFound) (a b : ℕ) → IsGroupFound g found → a < length g.table.alternatives → b < length g.table.alternatives → AreMirrored found.judges a b
found-mirrored g found a b is row column =
    subst (λ (js : List JudgeFound). AreMirrored js a b) (sym is.judges) (all_by_places (λ j. cell_of_judge j b a ≡ mirror (cell_of_judge j a b)) (judges_of g) each)
  where
    each : (i : ℕ) (j : JudgeFound) → slice_get (judges_of g) i ≡ Some j → cell_of_judge j b a ≡ mirror (cell_of_judge j a b)
    each i j there =
        let n = length g.table.alternatives in
        let first : 0 + i ≡ i = omega arith in
        let same = (range-get (judge_at g) 0 (length g.lists) i j there).1 ∙ ap (judge_at g) first in
        let back : cell_of_judge j b a ≡ judge_cell n g.entries i b a = ap (λ (k : JudgeFound). cell_of_judge k b a) same ∙ rows-at n g.entries i b a column row in
        let forth : cell_of_judge j a b ≡ judge_cell n g.entries i a b = ap (λ (k : JudgeFound). cell_of_judge k a b) same ∙ rows-at n g.entries i a b row column in
        back ∙ judge-mirrored n g.entries i a b ∙ ap mirror (sym forth)

every-mirrored : (f h : Cell → Bool) (js : List JudgeFound) (a b : ℕ) → ((c : Cell) → f (mirror c) ≡ h c) → AreMirrored js a b → every_says f js b a ≡ every_says h js a b
every-mirrored f h [] a b turned all = refl
every-mirrored f h (j ∷ js) a b turned all =
    let here : f (cell_of_judge j b a) ≡ h (cell_of_judge j a b) = ap f all.0 ∙ turned (cell_of_judge j a b) in
    ap (λ (p : Bool). (j.contradicts || p) && every_says f js b a) here ∙ ap (λ (p : Bool). (j.contradicts || h (cell_of_judge j a b)) && p) (every-mirrored f h js a b turned all.1)

some-mirrored : (f h : Cell → Bool) (js : List JudgeFound) (a b : ℕ) → ((c : Cell) → f (mirror c) ≡ h c) → AreMirrored js a b → some_says f js b a ≡ some_says h js a b
some-mirrored f h [] a b turned all = refl
some-mirrored f h (j ∷ js) a b turned all =
    let here : f (cell_of_judge j b a) ≡ h (cell_of_judge j a b) = ap f all.0 ∙ turned (cell_of_judge j a b) in
    ap (λ (p : Bool). (not j.contradicts && p) || some_says f js b a) here ∙ ap (λ (p : Bool). (not j.contradicts && h (cell_of_judge j a b)) || p) (some-mirrored f h js a b turned all.1)

over-turned : (c : Cell) → is_over_another (mirror c) ≡ is_under_another c
over-turned cell.Itself = refl
over-turned cell.AlwaysBetter = refl
over-turned cell.AtLeastAsGood = refl
over-turned cell.AlwaysEqual = refl
over-turned cell.Open = refl
over-turned cell.AtMostAsGood = refl
over-turned cell.NeverAsGood = refl
over-turned cell.Contradiction = refl
over-turned cell.Unknown = refl

unsaid-turned : (c : Cell) → is_unsaid (mirror c) ≡ is_unsaid c
unsaid-turned cell.Itself = refl
unsaid-turned cell.AlwaysBetter = refl
unsaid-turned cell.AtLeastAsGood = refl
unsaid-turned cell.AlwaysEqual = refl
unsaid-turned cell.Open = refl
unsaid-turned cell.AtMostAsGood = refl
unsaid-turned cell.NeverAsGood = refl
unsaid-turned cell.Contradiction = refl
unsaid-turned cell.Unknown = refl

-- ---- by what the cell of two different alternatives is one of those

-- each judge says something, and has the first at least as good
record IsAllOver (js : List JudgeFound) (a b : ℕ) : Type 0 where
  said : says_nothing js a b ≡ false
  all : every_vote marks.Over js a b ≡ true

no-over : (js : List JudgeFound) (a b : ℕ) → is_over (divided js a b) ≡ false
no-over js a b = by (differ js a b) (some_vote marks.Over js a b) (some_vote marks.Under js a b)
  where
    by : (p q r : Bool) → is_over (if p then cells.Differ else either_way q r) ≡ false
    by true q r = refl
    by false true true = refl
    by false true false = refl
    by false false true = refl
    by false false false = refl

no-under : (js : List JudgeFound) (a b : ℕ) → is_over (under_of js a b) ≡ false
no-under js a b = by (every_vote marks.Worse js a b)
  where
    by : (p : Bool) → is_over (if p then cells.NeverAsGood else cells.AtMostAsGood) ≡ false
    by true = refl
    by false = refl

yes-over : (js : List JudgeFound) (a b : ℕ) → is_over (over_of js a b) ≡ true
yes-over js a b = by (every_vote marks.Better js a b) (every_vote marks.Under js a b)
  where
    by : (p q : Bool) → is_over (if p then cells.AlwaysBetter else (if q then cells.AlwaysEqual else cells.AtLeastAsGood)) ≡ true
    by true q = refl
    by false true = refl
    by false false = refl

of-over : (js : List JudgeFound) (a b : ℕ) → is_over (cell_by js a b) ≡ true → IsAllOver js a b
of-over js a b is = by (says_nothing js a b) (every_vote marks.Over js a b) (every_vote marks.Under js a b) (every_vote marks.Open js a b) refl refl is
  where
    by : (p q r s : Bool) → says_nothing js a b ≡ p → every_vote marks.Over js a b ≡ q → is_over (if p then cells.Unknown else (if q then over_of js a b else (if r then under_of js a b else (if s then cells.Open else divided js a b)))) ≡ true → IsAllOver js a b
    by true q r s unsaid over_all over = absurd cc
    by false true r s unsaid over_all over = record { said = unsaid; all = over_all }
    by false false true s unsaid over_all over = absurd (let no = no-under js a b in let both = sym over ∙ no in cc)
    by false false false true unsaid over_all over = absurd cc
    by false false false false unsaid over_all over = absurd (let no = no-over js a b in let both = sym over ∙ no in cc)

to-over : (js : List JudgeFound) (a b : ℕ) → IsAllOver js a b → is_over (cell_by js a b) ≡ true
to-over js a b are = rw (are.said, are.all) (yes-over js a b)

different : (js : List JudgeFound) (a b : ℕ) → a ≢ b → group_cell js a b ≡ cell_by js a b
different js a b other = ap (λ (s : Bool). if s then cells.Itself else cell_by js a b) (ne_eqb a b other)

-- ---- one list

abbrev IsLeast : DecisionTable → ℕ → ℕ → List Statement → Type 0
IsLeast t a b list = ByEvery t list (λ w. value t w b ≤ℤ value t w a)

least_through : (t : DecisionTable) (a b c : ℕ) (list : List Statement) → IsLeast t a b list → IsLeast t b c list → IsLeast t a c list
least_through t a b c list p q = λ w compatible. (let first : value t w b ≤ℤ value t w a = p w compatible in let second : value t w c ≤ℤ value t w b = q w compatible in omega (arith, ints))

better-over : (t : DecisionTable) (a b : ℕ) (list : List Statement) → HasBetter t a b list → HasOver t a b list
better-over t a b list x = record { consistent = x.consistent; at_least = λ w compatible. (let more : value t w b <ℤ value t w a = x.more w compatible in omega (arith, ints)) }

equal-over : (t : DecisionTable) (a b : ℕ) (list : List Statement) → HasEqual t a b list → HasOver t a b list
equal-over t a b list x = record { consistent = x.consistent; at_least = λ w compatible. (let same : value t w a ≡ value t w b = x.same w compatible in omega (arith, ints)) }

-- at least as good, and not at most: not so back
not-back : (t : DecisionTable) (a b : ℕ) (l : List Statement) (c : Cell) → (is_over_another c && not (is_under_another c)) ≡ true → Says t l c a b → HasOver t b a l → ⊥
not-back t a b l cell.Itself is says back = absurd cc
not-back t a b l cell.AlwaysBetter is says back =
    let more : value t says.consistent.0 b <ℤ value t says.consistent.0 a = says.more says.consistent.0 says.consistent.1 in
    let most : value t says.consistent.0 a ≤ℤ value t says.consistent.0 b = back.at_least says.consistent.0 says.consistent.1 in
    omega (arith, ints)
not-back t a b l cell.AtLeastAsGood is says back =
    says.no_tie (λ w compatible. (let least : value t w b ≤ℤ value t w a = says.at_least w compatible in let most : value t w a ≤ℤ value t w b = back.at_least w compatible in omega (arith, ints)))
not-back t a b l cell.AlwaysEqual is says back = absurd cc
not-back t a b l cell.Open is says back = absurd cc
not-back t a b l cell.AtMostAsGood is says back = absurd cc
not-back t a b l cell.NeverAsGood is says back = absurd cc
not-back t a b l cell.Contradiction is says back = absurd cc
not-back t a b l cell.Unknown is says back = absurd cc

-- ---- all lists

group-over : (t : DecisionTable) (ls : List (List Statement)) (c : GroupCell) (a b : ℕ) → a ≢ b → is_over c ≡ true → GroupSays t ls c a b → AllByRecursion (HasOver t a b) ls
group-over t ls cells.Itself a b other over says = absurd (other says)
group-over t ls cells.AlwaysBetter a b other over says = all-by (HasBetter t a b) (HasOver t a b) ls (better-over t a b) says
group-over t ls cells.AtLeastAsGood a b other over says = says.0
group-over t ls cells.AlwaysEqual a b other over says = all-by (HasEqual t a b) (HasOver t a b) ls (equal-over t a b) says
group-over t ls cells.Open a b other over says = absurd cc
group-over t ls cells.AtMostAsGood a b other over says = absurd cc
group-over t ls cells.NeverAsGood a b other over says = absurd cc
group-over t ls cells.SomeOver a b other over says = absurd cc
group-over t ls cells.SomeUnder a b other over says = absurd cc
group-over t ls cells.BothWays a b other over says = absurd cc
group-over t ls cells.Differ a b other over says = absurd cc
group-over t ls cells.Unknown a b other over says = absurd cc

both_all : (P Q R : List Statement → Type 0) (ls : List (List Statement)) → ((l : List Statement) → P l → Q l → R l) → AllByRecursion P ls → AllByRecursion Q ls → AllByRecursion R ls
both_all P Q R [] brings p q = tt
both_all P Q R (l ∷ ls) brings p q = (brings l p.0 q.0, both_all P Q R ls brings p.1 q.1)

some_against : (P : List Statement → Type 0) (ls : List (List Statement)) → SomeHas (λ l. P l → ⊥) ls → AllByRecursion P ls → ⊥
some_against P [] some all = some
some_against P (l ∷ ls) (inl here) all = here all.0
some_against P (l ∷ ls) (inr later) all = some_against P ls later all.1

-- ---- the relation on the page is what is known of all

shown-cell : (c : GroupCell) → relation.is_over (common_cell c) ≡ is_over c
shown-cell cells.Itself = refl
shown-cell cells.AlwaysBetter = refl
shown-cell cells.AtLeastAsGood = refl
shown-cell cells.AlwaysEqual = refl
shown-cell cells.Open = refl
shown-cell cells.AtMostAsGood = refl
shown-cell cells.NeverAsGood = refl
shown-cell cells.SomeOver = refl
shown-cell cells.SomeUnder = refl
shown-cell cells.BothWays = refl
shown-cell cells.Differ = refl
shown-cell cells.Unknown = refl

shown-row : (cs : List GroupCell) → map relation.is_over (map common_cell cs) ≡ map is_over cs
shown-row [] = refl
shown-row (c ∷ cs) = ap (λ (b : Bool). b ∷ map relation.is_over (map common_cell cs)) (shown-cell c) ∙ ap (λ (bs : List Bool). is_over c ∷ bs) (shown-row cs)

shown-rows : (rows : List (List GroupCell)) → pages.known (common_rows rows) ≡ known rows
shown-rows [] = refl
shown-rows (r ∷ rows) = ap (λ (bs : List Bool). bs ∷ pages.known (common_rows rows)) (shown-row r) ∙ ap (λ (bss : List (List Bool)). map is_over r ∷ bss) (shown-rows rows)

-- ---- what is found

module _ (g : GroupGround) (found : GroupFound) (judged : IsJudgedGroup g) (is : IsGroupFound g found) where
  record IsWithin (a b : ℕ) : Type 0 where
    row : a < length g.table.alternatives
    column : b < length g.table.alternatives
    over : is_over (group_cell found.judges a b) ≡ true

  within : (a b : ℕ) → holds (known found.rows) a b ≡ true → IsWithin a b
  within a b over =
      let n = length g.table.alternatives in
      let js = found.judges in
      let size : length (known found.rows) ≡ n = ap (λ (rows : List (List GroupCell)). length (known rows)) is.rows ∙ known-size js n in
      let row : a < n = (let l = first-there (known found.rows) a b over in omega arith) in
      let column : b < n = (let l = second-there (known found.rows) a b over in omega arith) in
      let cell : holds (known found.rows) a b ≡ is_over (group_cell js a b) = ap (λ (rows : List (List GroupCell)). holds (known rows) a b) is.rows ∙ known-at js n a b row column in
      record { row = row; column = column; over = sym cell ∙ over }

  sound : (a b : ℕ) → a ≢ b → holds (known found.rows) a b ≡ true → AllByRecursion (HasOver g.table a b) (heard found.judges g.lists)
  sound a b other over =
      let at = within a b over in
      group-over g.table (heard found.judges g.lists) (group_cell found.judges a b) a b other at.over (group_true g.table a b found.judges g.lists (each_says g found a b judged is at.row at.column))

  apart : (a b : ℕ) → IsAbove (known found.rows) a b → a ≢ b
  apart a b above same = above-irreflexive (known found.rows) b (subst (λ (x : ℕ). IsAbove (known found.rows) x b) same above)

  strict : (a b : ℕ) → IsAbove (known found.rows) a b → SomeHas (λ list. HasOver g.table b a list → ⊥) (heard found.judges g.lists)
  strict a b above =
      let n = length g.table.alternatives in
      let js = found.judges in
      let parts = of-above (known found.rows) a b above in
      let at = within a b parts.0 in
      let other = apart a b above in
      let turned = found-mirrored g found a b is at.row at.column in
      let here = of-over js a b (sym (ap is_over (different js a b other)) ∙ at.over) in
      let not_back : is_over (group_cell js b a) ≡ false = sym (ap (λ (rows : List (List GroupCell)). holds (known rows) b a) is.rows ∙ known-at js n b a at.column at.row) ∙ parts.1 in
      let back : is_over (cell_by js b a) ≡ false = sym (ap is_over (different js b a (λ same. other (sym same)))) ∙ not_back in
      let lacks = by (every_vote marks.Under js a b) refl here back turned in
      some_holds g.table a b (λ c. is_over_another c && not (is_under_another c)) (λ l. HasOver g.table b a l → ⊥) (not-back g.table a b) js g.lists (each_says g found a b judged is at.row at.column)
      (every_some is_over_another (λ c. not (is_under_another c)) js a b here.all (not_every is_under_another js a b lacks))
    where
      by : (p : Bool) → every_vote marks.Under found.judges a b ≡ p → IsAllOver found.judges a b → is_over (cell_by found.judges b a) ≡ false → AreMirrored found.judges a b → every_vote marks.Under found.judges a b ≡ false
      by false is_p here back turned = is_p
      by true is_p here back turned =
          let said : says_nothing found.judges b a ≡ false = ap (λ (p : Bool). heard_count found.judges == 0 || p) (some-mirrored is_unsaid is_unsaid found.judges a b unsaid-turned turned) ∙ here.said in
          let all : every_vote marks.Over found.judges b a ≡ true = every-mirrored is_over_another is_under_another found.judges a b over-turned turned ∙ is_p in
          absurd (let over = to-over found.judges b a (record { said = said; all = all }) in let both = sym over ∙ back in cc)

  path-least : (k a b : ℕ) → PathOf (IsAbove (known found.rows)) k a b → AllByRecursion (IsLeast g.table a b) (heard found.judges g.lists)
  path-least zero a b one =
      all-by (HasOver g.table a b) (IsLeast g.table a b) (heard found.judges g.lists) (λ l x. x.at_least) (sound a b (apart a b one) (of-above (known found.rows) a b one).0)
  path-least (suc k) a b p =
      let ls = heard found.judges g.lists in
      let first = all-by (HasOver g.table a p.0) (IsLeast g.table a p.0) ls (λ l x. x.at_least) (sound a p.0 (apart a p.0 p.1) (of-above (known found.rows) a p.0 p.1).0) in
      both_all (IsLeast g.table a p.0) (IsLeast g.table p.0 b) (IsLeast g.table a b) ls (λ l x y. least_through g.table a p.0 b l x y) first (path-least k p.0 b p.2)

  no-cycle : (k a : ℕ) → PathOf (IsAbove (known found.rows)) k a a → ⊥
  no-cycle zero a one = above-irreflexive (known found.rows) a one
  no-cycle (suc k) a p =
      let c = p.0 in
      let ls = heard found.judges g.lists in
      let there = sound a c (apart a c p.1) (of-above (known found.rows) a c p.1).0 in
      let back = both_all (HasOver g.table a c) (IsLeast g.table c a) (HasOver g.table c a) ls (λ l x y. record { consistent = x.consistent; at_least = y }) there (path-least k c a p.2) in
      some_against (HasOver g.table c a) ls (strict a c p.1) back

  shown : pages.known found.common.rows ≡ known found.rows
  shown = ap (λ (rows : List (List Cell)). pages.known rows) is.common.rows ∙ shown-rows found.rows

  pub all_of : AllOf g found
  all_of = record { shown = shown; sound = sound; strict = strict; acyclic = λ a p. no-cycle p.0 a p.1 }
