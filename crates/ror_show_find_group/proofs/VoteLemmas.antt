-- What holds of all judges who are heard, and of some, by what their cells say.
use Rattle.std.proofs.Common.{◌≡◌, ℕ, Bool, true, false, not, ◌&&◌, ◌||◌, List, [], ◌∷◌, refl, inl, inr}
use Rattle.std.specs.Prelude.{if◌then◌else◌}
use Rattle.std.specs.List.{AllByRecursion}
use Rattle.ror_statement.specs.declared.statement.Statement.{Statement}
use Rattle.ror_table.specs.Table.{DecisionTable}
use Rattle.ror_group.specs.Group.{SomeHas}
use Rattle.ror_show_find_relation.specs.declared.cell.Cell.{Cell}
use Rattle.ror_show_find_relation.specs.Meaning.{Says}
use Rattle.ror_show_find_group.specs.declared.judge.JudgeFound.{JudgeFound}
use Rattle.ror_show_find_group.specs.Judges.{cell_of_judge}
use Rattle.ror_show_find_group.specs.Votes.{some_says, every_says}
use Rattle.ror_show_find_group.specs.Meaning.{heard}

-- ---- tests of cells

both : (p q : Bool) → (p && q) ≡ true → (p ≡ true) × (q ≡ true)
both true q is = (refl, is)
both false q is = absurd cc

join : (p q : Bool) → p ≡ true → q ≡ true → (p && q) ≡ true
join true q one other = other
join false q one other = absurd cc

neither : (p q : Bool) → (p || q) ≡ false → (p ≡ false) × (q ≡ false)
neither true q is = absurd cc
neither false q is = (refl, is)

-- each judge who is heard passes both tests
pub every_both : (f g : Cell → Bool) (js : List JudgeFound) (a b : ℕ) → every_says f js a b ≡ true → every_says g js a b ≡ true → every_says (λ c. f c && g c) js a b ≡ true
every_both f g [] a b all more = refl
every_both f g (j ∷ js) a b all more =
    let cell = cell_of_judge j a b in
    let one = both (j.contradicts || f cell) (every_says f js a b) all in
    let other = both (j.contradicts || g cell) (every_says g js a b) more in
    join (j.contradicts || (f cell && g cell)) (every_says (λ c. f c && g c) js a b) (here j.contradicts (f cell) (g cell) one.0 other.0) (every_both f g js a b one.1 other.1)
  where
    here : (r p q : Bool) → (r || p) ≡ true → (r || q) ≡ true → (r || (p && q)) ≡ true
    here true p q one other = refl
    here false p q one other = join p q one other

-- none of them passes the test
pub none_says : (f : Cell → Bool) (js : List JudgeFound) (a b : ℕ) → some_says f js a b ≡ false → every_says (λ c. not (f c)) js a b ≡ true
none_says f [] a b none = refl
none_says f (j ∷ js) a b none =
    let cell = cell_of_judge j a b in
    let parts = neither (not j.contradicts && f cell) (some_says f js a b) none in
    join (j.contradicts || not (f cell)) (every_says (λ c. not (f c)) js a b) (here j.contradicts (f cell) parts.0) (none_says f js a b parts.1)
  where
    here : (r p : Bool) → (not r && p) ≡ false → (r || not p) ≡ true
    here true p is = refl
    here false true is = absurd cc
    here false false is = refl

-- not each of them passes it
pub not_every : (f : Cell → Bool) (js : List JudgeFound) (a b : ℕ) → every_says f js a b ≡ false → some_says (λ c. not (f c)) js a b ≡ true
not_every f [] a b lacks = absurd cc
not_every f (j ∷ js) a b lacks = by j.contradicts (f (cell_of_judge j a b)) (not_every f js a b) lacks
  where
    by : (r p : Bool) → (every_says f js a b ≡ false → some_says (λ c. not (f c)) js a b ≡ true) → ((r || p) && every_says f js a b) ≡ false → ((not r && not p) || some_says (λ c. not (f c)) js a b) ≡ true
    by true p rest is = rest is
    by false true rest is = rest is
    by false false rest is = refl

-- all pass the one, and some the other
pub every_some : (f g : Cell → Bool) (js : List JudgeFound) (a b : ℕ) → every_says f js a b ≡ true → some_says g js a b ≡ true → some_says (λ c. f c && g c) js a b ≡ true
every_some f g [] a b all some = absurd cc
every_some f g (j ∷ js) a b all some =
    let parts = both (j.contradicts || f (cell_of_judge j a b)) (every_says f js a b) all in
    by j.contradicts (f (cell_of_judge j a b)) (g (cell_of_judge j a b)) parts.0 (every_some f g js a b parts.1) some
  where
    by : (r p q : Bool) → (r || p) ≡ true → (some_says g js a b ≡ true → some_says (λ c. f c && g c) js a b ≡ true) → ((not r && q) || some_says g js a b) ≡ true → ((not r && (p && q)) || some_says (λ c. f c && g c) js a b) ≡ true
    by true p q one rest is = rest is
    by false true true one rest is = refl
    by false true false one rest is = rest is
    by false false q one rest is = absurd cc

-- ---- what the cells say of the lists

-- each judge's cell of the two alternatives is true of what the judge said
abbrev pub EachSays : DecisionTable → ℕ → ℕ → List JudgeFound → List (List Statement) → Type 0
EachSays t a b [] [] = Unit {0}
EachSays t a b (j ∷ js) (l ∷ ls) = Says t l (cell_of_judge j a b) a b × EachSays t a b js ls
EachSays t a b _ _ = ⊥

module _ (t : DecisionTable) (a b : ℕ) (f : Cell → Bool) (P : List Statement → Type 0) (says : (l : List Statement) (c : Cell) → f c ≡ true → Says t l c a b → P l) where
  pub every_holds : (js : List JudgeFound) (ls : List (List Statement)) → EachSays t a b js ls → every_says f js a b ≡ true → AllByRecursion P (heard js ls)
  every_holds [] [] each all = tt
  every_holds [] (l ∷ ls) each all = absurd each
  every_holds (j ∷ js) [] each all = absurd each
  every_holds (j ∷ js) (l ∷ ls) each all =
      let parts = both (j.contradicts || f (cell_of_judge j a b)) (every_says f js a b) all in
      by j.contradicts (f (cell_of_judge j a b)) refl parts.0 (every_holds js ls each.1 parts.1)
    where
      by : (r p : Bool) → f (cell_of_judge j a b) ≡ p → (r || p) ≡ true → AllByRecursion P (heard js ls) → AllByRecursion P (if r then heard js ls else l ∷ heard js ls)
      by true p is one rest = rest
      by false true is one rest = (says l (cell_of_judge j a b) is each.0, rest)
      by false false is one rest = absurd cc

  pub some_holds : (js : List JudgeFound) (ls : List (List Statement)) → EachSays t a b js ls → some_says f js a b ≡ true → SomeHas P (heard js ls)
  some_holds [] [] each some = absurd cc
  some_holds [] (l ∷ ls) each some = absurd each
  some_holds (j ∷ js) [] each some = absurd each
  some_holds (j ∷ js) (l ∷ ls) each some = by j.contradicts (f (cell_of_judge j a b)) refl some (some_holds js ls each.1)
    where
      by : (r p : Bool) → f (cell_of_judge j a b) ≡ p → ((not r && p) || some_says f js a b) ≡ true → (some_says f js a b ≡ true → SomeHas P (heard js ls)) → SomeHas P (if r then heard js ls else l ∷ heard js ls)
      by true p is hit rest = rest hit
      by false true is hit rest = inl (says l (cell_of_judge j a b) is each.0)
      by false false is hit rest = inr (rest hit)
