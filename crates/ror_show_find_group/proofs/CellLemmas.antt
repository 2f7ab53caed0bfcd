-- Each cell of a group is true of the judges who are heard.
use Rattle.std.proofs.Common.{◌≡◌, ℕ, suc, ◌<◌, Bool, true, false, not, ◌&&◌, ◌||◌, List, [], ◌∷◌, length, get_or, Some, refl, sym, ap, subst, ◌∙◌, arith, inl, inr}
use Rattle.std.proofs.lemmas.Int.{ints}
use Rattle.std.specs.Prelude.{◌⊎◌, ◌==◌, ◌≤ℤ◌, ◌<ℤ◌, slice_get, if◌then◌else◌}
use Rattle.std.proofs.lemmas.Bool.{eqb-true}
use Rattle.std.proofs.lemmas.List.FromFn.{length-map-range_with_len, get_or-map-range_with_len}
use Rattle.ror_statement.specs.declared.statement.Statement.{Statement}
use Rattle.ror_table.specs.Table.{DecisionTable}
use Rattle.ror_value.specs.Value.{value}
use Rattle.ror_show_find_relation.specs.declared.cell.Cell.{Cell}
use Rattle.ror_show_find_relation.specs.declared.cell.Cell.TheVariants as cell
use Rattle.ror_show_find_relation.specs.Cells.{is_over_another, is_open}
use Rattle.ror_show_find_relation.specs.Meaning.{Says}
use Rattle.ror_show_find_group.specs.declared.judge.JudgeFound.{JudgeFound}
use Rattle.ror_show_find_group.specs.declared.votes.Mark.TheVariants as marks
use Rattle.ror_show_find_group.specs.declared.cell.GroupCell.{GroupCell}
use Rattle.ror_show_find_group.specs.declared.cell.GroupCell.TheVariants as cells
use Rattle.ror_show_find_group.specs.declared.page.GroupFound.{GroupFound}
use Rattle.ror_show_find_group.specs.Grounds.{GroupGround, IsJudgedGroup}
use Rattle.ror_show_find_group.specs.Judges.{judge_at, cell_of_judge}
use Rattle.ror_show_find_group.specs.Votes.{is_under_another, is_better, is_worse, is_unsaid, some_vote, every_vote, every_says, heard_count}
use Rattle.ror_show_find_group.specs.Cells.{over_of, under_of, differ, either_way, divided, says_nothing, cell_by, group_cell, group_row, group_cell_in}
use Rattle.ror_show_find_group.specs.Findings.{IsGroupFound}
use Rattle.ror_show_find_group.specs.Meaning.{heard, HasOver, HasTie, HasBetter, HasEqual, HasOpen, GroupSays}
use Rattle.ror_show_find_group.proofs.JudgeLemmas.{judge_true}
use Rattle.ror_show_find_group.proofs.VoteLemmas.{EachSays, every_both, none_says, not_every, every_some, every_holds, some_holds}

-- ---- what one cell says

module _ (t : DecisionTable) (a b : ℕ) (l : List Statement) where
  pub over : (c : Cell) → is_over_another c ≡ true → Says t l c a b → HasOver t a b l
  over cell.Itself is says = absurd cc
  over cell.AlwaysBetter is says = record { consistent = says.consistent; at_least = λ w compatible. (let more : value t w b <ℤ value t w a = says.more w compatible in omega (arith, ints)) }
  over cell.AtLeastAsGood is says = record { consistent = (says.tie.0, says.tie.1); at_least = says.at_least }
  over cell.AlwaysEqual is says = record { consistent = says.consistent; at_least = λ w compatible. (let same : value t w a ≡ value t w b = says.same w compatible in omega (arith, ints)) }
  over cell.Open is says = absurd cc
  over cell.AtMostAsGood is says = absurd cc
  over cell.NeverAsGood is says = absurd cc
  over cell.Contradiction is says = absurd cc
  over cell.Unknown is says = absurd cc

  under : (c : Cell) → is_under_another c ≡ true → Says t l c a b → HasOver t b a l
  under cell.Itself is says = absurd cc
  under cell.AlwaysBetter is says = absurd cc
  under cell.AtLeastAsGood is says = absurd cc
  under cell.AlwaysEqual is says = record { consistent = says.consistent; at_least = λ w compatible. (let same : value t w a ≡ value t w b = says.same w compatible in omega (arith, ints)) }
  under cell.Open is says = absurd cc
  under cell.AtMostAsGood is says = record { consistent = (says.tie.0, says.tie.1); at_least = says.at_least }
  under cell.NeverAsGood is says = record { consistent = says.consistent; at_least = λ w compatible. (let more : value t w a <ℤ value t w b = says.more w compatible in omega (arith, ints)) }
  under cell.Contradiction is says = absurd cc
  under cell.Unknown is says = absurd cc

  better : (c : Cell) → is_better c ≡ true → Says t l c a b → HasBetter t a b l
  better cell.Itself is says = absurd cc
  better cell.AlwaysBetter is says = says
  better cell.AtLeastAsGood is says = absurd cc
  better cell.AlwaysEqual is says = absurd cc
  better cell.Open is says = absurd cc
  better cell.AtMostAsGood is says = absurd cc
  better cell.NeverAsGood is says = absurd cc
  better cell.Contradiction is says = absurd cc
  better cell.Unknown is says = absurd cc

  worse : (c : Cell) → is_worse c ≡ true → Says t l c a b → HasBetter t b a l
  worse cell.Itself is says = absurd cc
  worse cell.AlwaysBetter is says = absurd cc
  worse cell.AtLeastAsGood is says = absurd cc
  worse cell.AlwaysEqual is says = absurd cc
  worse cell.Open is says = absurd cc
  worse cell.AtMostAsGood is says = absurd cc
  worse cell.NeverAsGood is says = says
  worse cell.Contradiction is says = absurd cc
  worse cell.Unknown is says = absurd cc

  open_there : (c : Cell) → is_open c ≡ true → Says t l c a b → HasOpen t a b l
  open_there cell.Itself is says = absurd cc
  open_there cell.AlwaysBetter is says = absurd cc
  open_there cell.AtLeastAsGood is says = absurd cc
  open_there cell.AlwaysEqual is says = absurd cc
  open_there cell.Open is says = says
  open_there cell.AtMostAsGood is says = absurd cc
  open_there cell.NeverAsGood is says = absurd cc
  open_there cell.Contradiction is says = absurd cc
  open_there cell.Unknown is says = absurd cc

  equal : (c : Cell) → (is_over_another c && is_under_another c) ≡ true → Says t l c a b → HasEqual t a b l
  equal cell.Itself is says = absurd cc
  equal cell.AlwaysBetter is says = absurd cc
  equal cell.AtLeastAsGood is says = absurd cc
  equal cell.AlwaysEqual is says = says
  equal cell.Open is says = absurd cc
  equal cell.AtMostAsGood is says = absurd cc
  equal cell.NeverAsGood is says = absurd cc
  equal cell.Contradiction is says = absurd cc
  equal cell.Unknown is says = absurd cc

  tie_over : (c : Cell) → (is_over_another c && not (is_better c)) ≡ true → Says t l c a b → HasTie t a b l
  tie_over cell.Itself is says = absurd cc
  tie_over cell.AlwaysBetter is says = absurd cc
  tie_over cell.AtLeastAsGood is says = says.tie
  tie_over cell.AlwaysEqual is says = (says.consistent.0, says.consistent.1, says.same says.consistent.0 says.consistent.1)
  tie_over cell.Open is says = absurd cc
  tie_over cell.AtMostAsGood is says = absurd cc
  tie_over cell.NeverAsGood is says = absurd cc
  tie_over cell.Contradiction is says = absurd cc
  tie_over cell.Unknown is says = absurd cc

  tie_under : (c : Cell) → (is_under_another c && not (is_worse c)) ≡ true → Says t l c a b → HasTie t a b l
  tie_under cell.Itself is says = absurd cc
  tie_under cell.AlwaysBetter is says = absurd cc
  tie_under cell.AtLeastAsGood is says = absurd cc
  tie_under cell.AlwaysEqual is says = (says.consistent.0, says.consistent.1, says.same says.consistent.0 says.consistent.1)
  tie_under cell.Open is says = absurd cc
  tie_under cell.AtMostAsGood is says = (says.tie.0, says.tie.1, sym says.tie.2)
  tie_under cell.NeverAsGood is says = absurd cc
  tie_under cell.Contradiction is says = absurd cc
  tie_under cell.Unknown is says = absurd cc

  -- said, and not under
  over_or_open : (c : Cell) → (not (is_unsaid c) && not (is_under_another c)) ≡ true → Says t l c a b → HasOver t a b l ⊎ HasOpen t a b l
  over_or_open cell.Itself is says = absurd cc
  over_or_open cell.AlwaysBetter is says = inl (over cell.AlwaysBetter refl says)
  over_or_open cell.AtLeastAsGood is says = inl (over cell.AtLeastAsGood refl says)
  over_or_open cell.AlwaysEqual is says = absurd cc
  over_or_open cell.Open is says = inr says
  over_or_open cell.AtMostAsGood is says = absurd cc
  over_or_open cell.NeverAsGood is says = absurd cc
  over_or_open cell.Contradiction is says = absurd cc
  over_or_open cell.Unknown is says = absurd cc

  under_or_open : (c : Cell) → (not (is_unsaid c) && not (is_over_another c)) ≡ true → Says t l c a b → HasOver t b a l ⊎ HasOpen t a b l
  under_or_open cell.Itself is says = absurd cc
  under_or_open cell.AlwaysBetter is says = absurd cc
  under_or_open cell.AtLeastAsGood is says = absurd cc
  under_or_open cell.AlwaysEqual is says = absurd cc
  under_or_open cell.Open is says = inr says
  under_or_open cell.AtMostAsGood is says = inl (under cell.AtMostAsGood refl says)
  under_or_open cell.NeverAsGood is says = inl (under cell.NeverAsGood refl says)
  under_or_open cell.Contradiction is says = absurd cc
  under_or_open cell.Unknown is says = absurd cc

  -- said, not under and not over
  left_open : (c : Cell) → ((not (is_unsaid c) && not (is_under_another c)) && not (is_over_another c)) ≡ true → Says t l c a b → HasOpen t a b l
  left_open cell.Itself is says = absurd cc
  left_open cell.AlwaysBetter is says = absurd cc
  left_open cell.AtLeastAsGood is says = absurd cc
  left_open cell.AlwaysEqual is says = absurd cc
  left_open cell.Open is says = says
  left_open cell.AtMostAsGood is says = absurd cc
  left_open cell.NeverAsGood is says = absurd cc
  left_open cell.Contradiction is says = absurd cc
  left_open cell.Unknown is says = absurd cc

  left_open_too : (c : Cell) → ((not (is_unsaid c) && not (is_over_another c)) && not (is_under_another c)) ≡ true → Says t l c a b → HasOpen t a b l
  left_open_too cell.Itself is says = absurd cc
  left_open_too cell.AlwaysBetter is says = absurd cc
  left_open_too cell.AtLeastAsGood is says = absurd cc
  left_open_too cell.AlwaysEqual is says = absurd cc
  left_open_too cell.Open is says = says
  left_open_too cell.AtMostAsGood is says = absurd cc
  left_open_too cell.NeverAsGood is says = absurd cc
  left_open_too cell.Contradiction is says = absurd cc
  left_open_too cell.Unknown is says = absurd cc

  -- said, and neither always better nor always worse
  neither_better : (c : Cell) → (not (is_unsaid c) && (not (is_better c) && not (is_worse c))) ≡ true → Says t l c a b → (HasBetter t a b l → ⊥) × (HasBetter t b a l → ⊥)
  neither_better cell.Itself is says = absurd cc
  neither_better cell.AlwaysBetter is says = absurd cc
  neither_better cell.AtLeastAsGood is says = (
    λ more. (let same : value t says.tie.0 a ≡ value t says.tie.0 b = says.tie.2 in let most : value t says.tie.0 b <ℤ value t says.tie.0 a = more.more says.tie.0 says.tie.1 in omega (arith, ints)),
    λ more. (let least : value t says.tie.0 b ≤ℤ value t says.tie.0 a = says.at_least says.tie.0 says.tie.1 in let most : value t says.tie.0 a <ℤ value t says.tie.0 b = more.more says.tie.0 says.tie.1 in omega (arith, ints)),
  )
  neither_better cell.AlwaysEqual is says = (
    λ more. (let same : value t says.consistent.0 a ≡ value t says.consistent.0 b = says.same says.consistent.0 says.consistent.1 in let most : value t says.consistent.0 b <ℤ value t says.consistent.0 a = more.more says.consistent.0 says.consistent.1 in omega (arith, ints)),
    λ more. (let same : value t says.consistent.0 a ≡ value t says.consistent.0 b = says.same says.consistent.0 says.consistent.1 in let most : value t says.consistent.0 a <ℤ value t says.consistent.0 b = more.more says.consistent.0 says.consistent.1 in omega (arith, ints)),
  )
  neither_better cell.Open is says = (
    λ more. says.not_over (λ w compatible. (let most : value t w b <ℤ value t w a = more.more w compatible in omega (arith, ints))),
    λ more. says.not_under (λ w compatible. (let most : value t w a <ℤ value t w b = more.more w compatible in omega (arith, ints))),
  )
  neither_better cell.AtMostAsGood is says = (
    λ more. (let least : value t says.tie.0 a ≤ℤ value t says.tie.0 b = says.at_least says.tie.0 says.tie.1 in let most : value t says.tie.0 b <ℤ value t says.tie.0 a = more.more says.tie.0 says.tie.1 in omega (arith, ints)),
    λ more. (let same : value t says.tie.0 b ≡ value t says.tie.0 a = says.tie.2 in let most : value t says.tie.0 a <ℤ value t says.tie.0 b = more.more says.tie.0 says.tie.1 in omega (arith, ints)),
  )
  neither_better cell.NeverAsGood is says = absurd cc
  neither_better cell.Contradiction is says = absurd cc
  neither_better cell.Unknown is says = absurd cc

-- ---- what the cell of all says

neither : (p q : Bool) → (p || q) ≡ false → (p ≡ false) × (q ≡ false)
neither true q is = absurd cc
neither false q is = (refl, is)

either : (p q : Bool) → (p || q) ≡ true → (p ≡ true) ⊎ (q ≡ true)
either true q is = inl refl
either false q is = inr is

both : (p q : Bool) → (p && q) ≡ true → (p ≡ true) × (q ≡ true)
both true q is = (refl, is)
both false q is = absurd cc

-- where one part of a test that fails holds, the other fails
other_fails : (p q : Bool) → (p && q) ≡ false → q ≡ true → p ≡ false
other_fails true q is holds = absurd (let same = sym is ∙ holds in cc)
other_fails false q is holds = refl

module _ (t : DecisionTable) (a b : ℕ) (js : List JudgeFound) (ls : List (List Statement)) (each : EachSays t a b js ls) where
  over_true : every_vote marks.Over js a b ≡ true → GroupSays t (heard js ls) (over_of js a b) a b
  over_true all = by (every_vote marks.Better js a b) (every_vote marks.Under js a b) refl refl
    where
      by : (p q : Bool) → every_vote marks.Better js a b ≡ p → every_vote marks.Under js a b ≡ q → GroupSays t (heard js ls) (if p then cells.AlwaysBetter else (if q then cells.AlwaysEqual else cells.AtLeastAsGood)) a b
      by true q strict same = every_holds t a b is_better (HasBetter t a b) (better t a b) js ls each strict
      by false true strict same =
          every_holds t a b (λ c. is_over_another c && is_under_another c) (HasEqual t a b) (equal t a b) js ls each (every_both is_over_another is_under_another js a b all same)
      by false false strict same = (
        every_holds t a b is_over_another (HasOver t a b) (over t a b) js ls each all,
        some_holds t a b (λ c. is_over_another c && not (is_better c)) (HasTie t a b) (tie_over t a b) js ls each (every_some is_over_another (λ c. not (is_better c)) js a b all (not_every is_better js a b strict)),
      )

  under_true : every_vote marks.Under js a b ≡ true → GroupSays t (heard js ls) (under_of js a b) a b
  under_true all = by (every_vote marks.Worse js a b) refl
    where
      by : (p : Bool) → every_vote marks.Worse js a b ≡ p → GroupSays t (heard js ls) (if p then cells.NeverAsGood else cells.AtMostAsGood) a b
      by true strict = every_holds t a b is_worse (HasBetter t b a) (worse t a b) js ls each strict
      by false strict = (
        every_holds t a b is_under_another (HasOver t b a) (under t a b) js ls each all,
        some_holds t a b (λ c. is_under_another c && not (is_worse c)) (HasTie t a b) (tie_under t a b) js ls each (every_some is_under_another (λ c. not (is_worse c)) js a b all (not_every is_worse js a b strict)),
      )

  differ_true : differ js a b ≡ true → GroupSays t (heard js ls) cells.Differ a b
  differ_true is = by (either (some_vote marks.Better js a b && some_vote marks.Under js a b) (some_vote marks.Worse js a b && some_vote marks.Over js a b) is)
    where
      by : ((some_vote marks.Better js a b && some_vote marks.Under js a b) ≡ true) ⊎ ((some_vote marks.Worse js a b && some_vote marks.Over js a b) ≡ true) → GroupSays t (heard js ls) cells.Differ a b
      by (inl here) =
          let parts = both (some_vote marks.Better js a b) (some_vote marks.Under js a b) here in
          inl (some_holds t a b is_better (HasBetter t a b) (better t a b) js ls each parts.0, some_holds t a b is_under_another (HasOver t b a) (under t a b) js ls each parts.1)
      by (inr here) =
          let parts = both (some_vote marks.Worse js a b) (some_vote marks.Over js a b) here in
          inr (some_holds t a b is_worse (HasBetter t b a) (worse t a b) js ls each parts.0, some_holds t a b is_over_another (HasOver t a b) (over t a b) js ls each parts.1)

  -- each judge says something
  module _ (said : every_says (λ c. not (is_unsaid c)) js a b ≡ true) where
    some_over : some_vote marks.Over js a b ≡ true → some_vote marks.Under js a b ≡ false → every_vote marks.Over js a b ≡ false → GroupSays t (heard js ls) cells.SomeOver a b
    some_over some none lacks =
        let not_under = every_both (λ c. not (is_unsaid c)) (λ c. not (is_under_another c)) js a b said (none_says is_under_another js a b none) in (
          some_holds t a b is_over_another (HasOver t a b) (over t a b) js ls each some,
          some_holds t a b (λ c. (not (is_unsaid c) && not (is_under_another c)) && not (is_over_another c)) (HasOpen t a b) (left_open t a b) js ls each (every_some (λ c. not (is_unsaid c) && not (is_under_another c)) (λ c. not (is_over_another c)) js a b not_under (not_every is_over_another js a b lacks)),
          every_holds t a b (λ c. not (is_unsaid c) && not (is_under_another c)) (λ l. HasOver t a b l ⊎ HasOpen t a b l) (over_or_open t a b) js ls each not_under,
        )

    some_under : some_vote marks.Under js a b ≡ true → some_vote marks.Over js a b ≡ false → every_vote marks.Under js a b ≡ false → GroupSays t (heard js ls) cells.SomeUnder a b
    some_under some none lacks =
        let not_over = every_both (λ c. not (is_unsaid c)) (λ c. not (is_over_another c)) js a b said (none_says is_over_another js a b none) in (
          some_holds t a b is_under_another (HasOver t b a) (under t a b) js ls each some,
          some_holds t a b (λ c. (not (is_unsaid c) && not (is_over_another c)) && not (is_under_another c)) (HasOpen t a b) (left_open_too t a b) js ls each (every_some (λ c. not (is_unsaid c) && not (is_over_another c)) (λ c. not (is_under_another c)) js a b not_over (not_every is_under_another js a b lacks)),
          every_holds t a b (λ c. not (is_unsaid c) && not (is_over_another c)) (λ l. HasOver t b a l ⊎ HasOpen t a b l) (under_or_open t a b) js ls each not_over,
        )

    both_ways : some_vote marks.Over js a b ≡ true → some_vote marks.Under js a b ≡ true → differ js a b ≡ false → GroupSays t (heard js ls) cells.BothWays a b
    both_ways over_some under_some same =
        let parts = neither (some_vote marks.Better js a b && some_vote marks.Under js a b) (some_vote marks.Worse js a b && some_vote marks.Over js a b) same in
        let no_better = none_says is_better js a b (other_fails (some_vote marks.Better js a b) (some_vote marks.Under js a b) parts.0 under_some) in
        let no_worse = none_says is_worse js a b (other_fails (some_vote marks.Worse js a b) (some_vote marks.Over js a b) parts.1 over_some) in
        let all = every_both (λ c. not (is_unsaid c)) (λ c. not (is_better c) && not (is_worse c)) js a b said (every_both (λ c. not (is_better c)) (λ c. not (is_worse c)) js a b no_better no_worse) in (
          some_holds t a b is_over_another (HasOver t a b) (over t a b) js ls each over_some,
          some_holds t a b is_under_another (HasOver t b a) (under t a b) js ls each under_some,
          every_holds t a b (λ c. not (is_unsaid c) && (not (is_better c) && not (is_worse c))) (λ l. (HasBetter t a b l → ⊥) × (HasBetter t b a l → ⊥)) (neither_better t a b) js ls each all,
        )

    divided_true : every_vote marks.Over js a b ≡ false → every_vote marks.Under js a b ≡ false → GroupSays t (heard js ls) (divided js a b) a b
    divided_true not_over not_under = by (differ js a b) refl
      where
        ways : differ js a b ≡ false → (p q : Bool) → some_vote marks.Over js a b ≡ p → some_vote marks.Under js a b ≡ q → GroupSays t (heard js ls) (either_way p q) a b
        ways same true true over_some under_some = both_ways over_some under_some same
        ways same true false over_some none = some_over over_some none not_over
        ways same false true none under_some = some_under under_some none not_under
        ways same false false none no_more = tt

        by : (p : Bool) → differ js a b ≡ p → GroupSays t (heard js ls) (if p then cells.Differ else either_way (some_vote marks.Over js a b) (some_vote marks.Under js a b)) a b
        by true is = differ_true is
        by false is = ways is (some_vote marks.Over js a b) (some_vote marks.Under js a b) refl refl

  by_votes : GroupSays t (heard js ls) (cell_by js a b) a b
  by_votes = by (says_nothing js a b) (every_vote marks.Over js a b) (every_vote marks.Under js a b) (every_vote marks.Open js a b) refl refl refl refl
    where
      by : (p q r s : Bool) → says_nothing js a b ≡ p → every_vote marks.Over js a b ≡ q → every_vote marks.Under js a b ≡ r → every_vote marks.Open js a b ≡ s → GroupSays t (heard js ls) (if p then cells.Unknown else (if q then over_of js a b else (if r then under_of js a b else (if s then cells.Open else divided js a b)))) a b
      by true q r s unsaid over_all under_all open_all = tt
      by false true r s unsaid over_all under_all open_all = over_true over_all
      by false false true s unsaid over_all under_all open_all = under_true under_all
      by false false false true unsaid over_all under_all open_all = every_holds t a b is_open (HasOpen t a b) (open_there t a b) js ls each open_all
      by false false false false unsaid over_all under_all open_all = divided_true (none_says is_unsaid js a b (neither (heard_count js == 0) (some_vote marks.Unsaid js a b) unsaid).1) over_all under_all

  pub group_true : GroupSays t (heard js ls) (group_cell js a b) a b
  group_true = by (a == b) refl
    where
      by : (p : Bool) → (a == b) ≡ p → GroupSays t (heard js ls) (if p then cells.Itself else cell_by js a b) a b
      by true is = eqb-true a b is
      by false is = by_votes

-- ---- the judges that are found

-- each judge's cell is true, where there are as many as lists
each_of : (t : DecisionTable) (a b : ℕ) (js : List JudgeFound) (ls : List (List Statement)) → length js ≡ length ls → ((i : ℕ) (j : JudgeFound) (l : List Statement) → slice_get js i ≡ Some j → slice_get ls i ≡ Some l → Says t l (cell_of_judge j a b) a b) → EachSays t a b js ls
each_of t a b [] [] same says = tt
each_of t a b [] (l ∷ ls) same says = absurd (omega arith)
each_of t a b (j ∷ js) [] same says = absurd (omega arith)
each_of t a b (j ∷ js) (l ∷ ls) same says = (says 0 j l refl refl, each_of t a b js ls (omega (arith, same)) (λ i k m there here. says (suc i) k m there here))

pub judge_each : (g : GroupGround) (found : GroupFound) → IsGroupFound g found → length found.judges ≡ length g.lists
judge_each g found is = ap length is.judges ∙ length-map-range_with_len (judge_at g) 0 (length g.lists)

pub each_says : (g : GroupGround) (found : GroupFound) (a b : ℕ) → IsJudgedGroup g → IsGroupFound g found → a < length g.table.alternatives → b < length g.table.alternatives → EachSays g.table a b found.judges g.lists
each_says g found a b judged is row column =
    each_of g.table a b found.judges g.lists (judge_each g found is) (λ i j l there here. judge_true g found i j l a b judged is (record { judge_there = there; list_there = here }) row column)

pub cells-at : (g : GroupGround) (found : GroupFound) (a b : ℕ) → IsGroupFound g found → a < length g.table.alternatives → b < length g.table.alternatives → group_cell_in found.rows a b ≡ group_cell found.judges a b
cells-at g found a b is row column =
    let n = length g.table.alternatives in
    ap (λ (rows : List (List GroupCell)). group_cell_in rows a b) is.rows
    ∙ ap (λ (r : List GroupCell). get_or r b cells.Unknown) (get_or-map-range_with_len (group_row found.judges n) 0 n a a [] row (omega arith))
    ∙ get_or-map-range_with_len (group_cell found.judges a) 0 n b b cells.Unknown column (omega arith)

pub cells_true : (g : GroupGround) (found : GroupFound) (a b : ℕ) → IsJudgedGroup g → IsGroupFound g found → a < length g.table.alternatives → b < length g.table.alternatives → GroupSays g.table (heard found.judges g.lists) (group_cell_in found.rows a b) a b
cells_true g found a b judged is row column =
    subst (λ (c : GroupCell). GroupSays g.table (heard found.judges g.lists) c a b) (sym (cells-at g found a b is row column))
    (group_true g.table a b found.judges g.lists (each_says g found a b judged is row column))
