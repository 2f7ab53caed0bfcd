-- The answers of the desks on a pair, desk by desk.
use Rattle.std.proofs.Common.{◌≡◌, ℕ, suc, ◌≤◌, arith, List, [], ◌∷◌, ◌++◌, length, refl, sym, ap, subst}
use Rattle.ror_statement.specs.declared.statement.Statement.{Statement}
use Rattle.ror_statement.specs.declared.question.Question.TheVariants.{Necessary, Possible}
use Rattle.ror_table.specs.Table.{DecisionTable}
use Rattle.ror_proof.specs.declared.answer.Answer.{Answer}
use Rattle.ror_group.specs.Combining.{Asked, asked_on, InStep}
use Rattle.ror_group.proofs.Pairs.{length-asked_on}
use Rattle.ror_work_group.specs.Entries.{IsGivenFor}
use Rattle.ror_work_group.specs.Steps.{HasBoth}

-- one list more
desk_more : (P : Asked → Answer → Type 0) (a b : ℕ) (lists : List (List Statement)) (list : List Statement) (xs : List Answer) (x y : Answer) → InStep P (asked_on a b lists) xs → P (record { list = list; question = Necessary a b }) x → P (record { list = list; question = Possible a b }) y → InStep P (asked_on a b (lists ++ list ∷ [])) (xs ++ x ∷ y ∷ [])
desk_more P a b [] list [] x y h n p = (n, (p, tt))
desk_more P a b [] list (z ∷ zs) x y h n p = absurd h
desk_more P a b (l ∷ ls) list [] x y h n p = absurd h
desk_more P a b (l ∷ ls) list (z ∷ []) x y h n p = absurd h.1
desk_more P a b (l ∷ ls) list (z ∷ w ∷ zs) x y h n p = (h.0, (h.1.0, desk_more P a b ls list zs x y h.1.1 n p))

pub both_more : (most : ℕ) (t : DecisionTable) (a b : ℕ) (lists : List (List Statement)) (list : List Statement) (before now : List Answer) → InStep (IsGivenFor most t) (asked_on a b lists) before → HasBoth most t list a b before now → InStep (IsGivenFor most t) (asked_on a b (lists ++ list ∷ [])) now
both_more most t a b lists list before now h both =
    subst (InStep (IsGivenFor most t) (asked_on a b (lists ++ list ∷ []))) (sym both.added) (desk_more (IsGivenFor most t) a b lists list before both.necessary both.possible h both.necessary_given both.possible_given)

-- ---- how many answers there are

in_step_length : (P : Asked → Answer → Type 0) (qs : List Asked) (xs : List Answer) → InStep P qs xs → length xs ≡ length qs
in_step_length P [] [] h = refl
in_step_length P [] (x ∷ xs) h = absurd h
in_step_length P (q ∷ qs) [] h = absurd h
in_step_length P (q ∷ qs) (x ∷ xs) h = ap suc (in_step_length P qs xs h.1)

pub few_answers : (P : Asked → Answer → Type 0) (a b : ℕ) (lists : List (List Statement)) (xs : List Answer) → InStep P (asked_on a b lists) xs → length lists ≤ 64 → length xs ≤ 20000
few_answers P a b lists xs h few =
    let long = in_step_length P (asked_on a b lists) xs h in
    let count = length-asked_on a b lists in
    omega (arith, long, count, few)
