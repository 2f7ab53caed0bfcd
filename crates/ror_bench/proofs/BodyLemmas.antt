-- What is made or refused at a desk is what a body says, and the check of a body that says so.
use Rattle.std.proofs.Common.{◌≡◌, ◌≢◌, ℕ, suc, List, [], ◌∷◌, ◌++◌, length, take, Result, Ok, Err, refl, sym, ap, ◌∙◌, subst, arith}
use Rattle.std.specs.Prelude.{◌-◌, IfOk, IfErr, OnOk}
use Rattle.ror_table.specs.Table.{DecisionTable}
use Rattle.ror_session.specs.declared.session.Named.{Named}
use Rattle.ror_session.specs.declared.session.Command.{Command}
use Rattle.ror_session.specs.declared.session.Command.TheVariants.{State, Withdraw, Replace, Repair, Undo, Ask}
use Rattle.ror_report.specs.declared.block.Body.{Body}
use Rattle.ror_report.specs.declared.block.Body.TheVariants as bodies
use Rattle.ror_report.specs.declared.block.LineFault.{LineFault}
use Rattle.ror_report.specs.declared.block.LineFault.TheVariants as lines
use Rattle.ror_statement.specs.declared.statement.Statement.{Statement}
use Rattle.std.specs.Result.{result_ok}
use Rattle.ror_history.specs.declared.history.HistoryFault.TheVariants as histories
use Rattle.ror_history.specs.Faults.{CanBeAdded, CanBeReplaced, CanBeWithdrawn}
use Rattle.ror_history.specs.History.{Revision, Revisions, addition, withdrawal, replacement, next_number, with_revision}
use Rattle.ror_bench.specs.Allowed.{Allowing, of_form}
use Rattle.ror_bench.specs.Names.{statement_of}
use Rattle.ror_bench.specs.declared.bench.BlockFault.{BlockFault}
use Rattle.ror_bench.specs.declared.bench.BlockFault.TheVariants as faults
use Rattle.ror_bench.specs.declared.bench.Passed.{Passed}
use Rattle.ror_bench.specs.declared.desk.Made.{Made}
use Rattle.ror_bench.specs.declared.desk.Made.TheVariants.{Added, Withdrawn, Replaced, Undone}
use Rattle.ror_bench.specs.declared.stop.LineStop.{LineStop}
use Rattle.ror_bench.specs.declared.stop.LineStop.TheVariants as stops
use Rattle.ror_bench.specs.Lines.{IsRefusedFor}
use Rattle.ror_bench.specs.Blocks.{IsRevised, IsOutcome, IsBodyOf, refused, taken, passed_of, revisions_with, with_stated, without_last}
use Rattle.ror_bench.specs.Steps.{body_of, IsMade, RefusesCommand, IsSaidOf, RefusesSaid, RefusesBody, EndsWithRevision, IsTakenBack}
use Rattle.ror_bench.proofs.CommandLemmas.{one_refusal, added_taken, withdrawn_taken, replaced_taken, undo_taken, undone_taken, undone_refused}

outcome : (H : Allowing) (t : DecisionTable) (r : Revisions) (command : Command) (body : Body) → IsRevised t r command body → IsOutcome H t r command body
outcome H t r (State named) body h = h
outcome H t r (Withdraw n) body h = h
outcome H t r (Replace n named) body h = h
outcome H t r Undo body h = h
outcome H t r Repair body h = absurd h
outcome H t r (Ask asked) body h = absurd h

-- a revision has one body
one_body : (H : Allowing) (t : DecisionTable) (r : Revisions) (command : Command) (b c : Body) → IsRevised t r command b → IsOutcome H t r command c → c ≡ b
one_body H t r (State named) b c h k = k ∙ sym h
one_body H t r (Withdraw n) b c h k = k ∙ sym h
one_body H t r (Replace n named) b c h k = k ∙ sym h
one_body H t r Undo b c h k = k ∙ sym h
one_body H t r Repair b c h k = absurd h
one_body H t r (Ask asked) b c h k = absurd h

-- ---- what is made

module _ (H : Allowing) (t : DecisionTable) (r moved : Revisions) (command : Command) where
  pub said_body : (made : Result Made LineStop) (body : Body) → IfOk made (λ m. IsMade t r command m moved) → IfErr made (RefusesCommand t r command) → IsSaidOf made body → IsBodyOf H t r command body
  said_body (Ok m) body made stopped said = subst (IsBodyOf H t r command) (sym said) (taken made.taken (outcome H t r command (body_of m) made.revised))
  said_body (Err (stops.Refused fault)) body made stopped said = refused fault stopped said
  said_body (Err stops.Memory) body made stopped said = absurd said

  pub said_moves : (made : Result Made LineStop) (body : Body) → IfOk made (λ m. IsMade t r command m moved) → IfErr made (λ _. moved ≡ r) → IsSaidOf made body → moved ≡ revisions_with t r command body
  said_moves (Ok m) body made kept said = made.moved_on ∙ ap (revisions_with t r command) (sym said)
  said_moves (Err (stops.Refused fault)) body made kept said = kept ∙ ap (revisions_with t r command) (sym said)
  said_moves (Err stops.Memory) body made kept said = absurd said

  -- what says something else is another's body
  not_said : (made : Result Made LineStop) (body : Body) → made ≢ Err stops.Memory → IfOk made (λ m. IsMade t r command m moved) → IfErr made (RefusesCommand t r command) → (IsSaidOf made body → ⊥) → IsBodyOf H t r command body → ⊥
  not_said (Ok m) body ne made stopped other (refused fault first is) = made.taken fault first.fails
  not_said (Ok m) body ne made stopped other (taken passes is) = other (one_body H t r command (body_of m) body made.revised is)
  not_said (Err (stops.Refused fault)) body ne made stopped other (refused g first is) = other (is ∙ ap (λ (f : LineFault). bodies.Refused f) (one_refusal t r command g fault first stopped))
  not_said (Err (stops.Refused fault)) body ne made stopped other (taken passes is) = passes fault stopped.fails
  not_said (Err stops.Memory) body ne made stopped other is = ne refl

-- ---- the body that a line is given

module _ (H : Allowing) (t : DecisionTable) (r moved : Revisions) (command : Command) {E : Type 0} where
  pub given_body : (made : Result Made LineStop) (result : Result Body E) → IfOk made (λ m. IsMade t r command m moved) → IfErr made (RefusesCommand t r command) → IfOk result (IsSaidOf made) → IfOk result (IsBodyOf H t r command)
  given_body made (Ok body) is stopped said = said_body H t r moved command made body is stopped said
  given_body made (Err e) is stopped said = tt

  pub given_moves : (made : Result Made LineStop) (result : Result Body E) → IfOk made (λ m. IsMade t r command m moved) → IfErr made (λ _. moved ≡ r) → IfOk result (IsSaidOf made) → IfOk result (λ body. moved ≡ revisions_with t r command body)
  given_moves made (Ok body) is kept said = said_moves H t r moved command made body is kept said
  given_moves made (Err e) is kept said = tt

pub given_keeps : {E : Type 0} (r moved : Revisions) (made : Result Made LineStop) (result : Result Body E) → IfErr made (λ _. moved ≡ r) → IfErr result (λ _. made ≡ Err stops.Memory) → IfErr result (λ _. moved ≡ r)
given_keeps r moved made (Ok body) kept memory = tt
given_keeps r moved (Ok m) (Err e) kept memory = absurd cc
given_keeps r moved (Err stop) (Err e) kept memory = kept

-- ---- the check of a body

said_none : (made : Result Made LineStop) (body : Body) → IsSaidOf made body → passed_of body ≡ record { answers = 0; wide = 0 }
said_none (Ok (Added n)) body said = ap passed_of said
said_none (Ok (Withdrawn n)) body said = ap passed_of said
said_none (Ok (Replaced n)) body said = ap passed_of said
said_none (Ok Undone) body said = ap passed_of said
said_none (Err (stops.Refused fault)) body said = ap passed_of said
said_none (Err stops.Memory) body said = absurd said

pub said_passes : (made : Result Made LineStop) (body : Body) (result : Result Passed BlockFault) → OnOk result (IsSaidOf made body) → IfOk result (λ p. p ≡ record { answers = 0; wide = 0 }) → IfOk result (λ p. p ≡ passed_of body)
said_passes made body (Ok p) said none = none ∙ sym (said_none made body said)
said_passes made body (Err e) said none = tt

module _ (t : DecisionTable) (r moved : Revisions) (command : Command) where
  pub settled_body : (H : Allowing) (made : Result Made LineStop) (body : Body) (result : Result Passed BlockFault) → IfOk made (λ m. IsMade t r command m moved) → IfErr made (RefusesCommand t r command) → OnOk result (IsSaidOf made body) → OnOk result (IsBodyOf H t r command body)
  settled_body H made body (Ok p) is stopped said = said_body H t r moved command made body is stopped said
  settled_body H made body (Err e) is stopped said = tt

  refuses : (made : Result Made LineStop) (body : Body) (fault : BlockFault) → IfOk made (λ m. IsMade t r command m moved) → IfErr made (RefusesCommand t r command) → RefusesSaid made body fault → RefusesBody t r command body fault
  refuses made body faults.WrongBlock is stopped other = λ of. not_said of_form t r moved command made body other.0 is stopped other.1 of
  refuses made body (faults.Answer k fault) is stopped other = absurd other
  refuses made body (faults.Repair fault) is stopped other = absurd other
  refuses made body faults.Memory is stopped other = tt

  pub settled_refused : (made : Result Made LineStop) (body : Body) (result : Result Passed BlockFault) → IfOk made (λ m. IsMade t r command m moved) → IfErr made (RefusesCommand t r command) → IfErr result (RefusesSaid made body) → IfErr result (RefusesBody t r command body)
  settled_refused made body (Ok p) is stopped other = tt
  settled_refused made body (Err e) is stopped other = refuses made body e is stopped other

  pub settled_moves : (made : Result Made LineStop) (body : Body) (last : Revisions) (result : Result Passed BlockFault) → IfOk made (λ m. IsMade t r command m moved) → IfErr made (λ _. moved ≡ r) → OnOk result (IsSaidOf made body) → OnOk result (last ≡ moved) → OnOk result (last ≡ revisions_with t r command body)
  settled_moves made body last (Ok p) is kept said same = same ∙ said_moves of_form t r moved command made body is kept said
  settled_moves made body last (Err e) is kept said same = tt

-- ---- taking back

same_front : {A : Type 0} (xs ys : List A) (x y : A) → xs ++ x ∷ [] ≡ ys ++ y ∷ [] → xs ≡ ys
same_front [] [] x y e = refl
same_front [] (b ∷ []) x y e = absurd cc
same_front [] (b ∷ c ∷ ys) x y e = absurd cc
same_front (a ∷ []) [] x y e = absurd cc
same_front (a ∷ c ∷ xs) [] x y e = absurd cc
same_front (a ∷ xs) (b ∷ ys) x y e =
    let heads : a ≡ b = cc in
    let tails : xs ++ x ∷ [] ≡ ys ++ y ∷ [] = cc in
    rw heads (ap (λ l. b ∷ l) (same_front xs ys x y tails))

same_revisions : (r s : Revisions) → r.opening ≡ s.opening → r.surviving ≡ s.surviving → r ≡ s
same_revisions r s opening surviving = ap (λ (o : List Statement). record { opening = o; surviving = r.surviving }) opening ∙ ap (λ (l : List Revision). record { opening = s.opening; surviving = l }) surviving

pub same_before : (r s : Revisions) (x y : Revision) → with_revision r x ≡ with_revision s y → s ≡ r
same_before r s x y e =
    let front : s.surviving ≡ r.surviving = sym (same_front r.surviving s.surviving x y (ap (λ (u : Revisions). u.surviving) e)) in
    let opening : s.opening ≡ r.opening = sym (ap (λ (u : Revisions). u.opening) e) in
    same_revisions s r opening front

pub settled_keeps : (r moved last : Revisions) (made : Result Made LineStop) (result : Result Passed BlockFault) → IfOk made (λ _. (x : Revision) × (moved ≡ with_revision r x)) → IfErr made (λ _. moved ≡ r) → IfErr result (λ _. IsTakenBack made moved last) → IfErr result (λ _. last ≡ r)
settled_keeps r moved last made (Ok p) more kept back = tt
settled_keeps r moved last (Ok m) (Err e) more kept back = same_before r last more.0 back.0 (sym more.1 ∙ back.1)
settled_keeps r moved last (Err stop) (Err e) more kept back = back ∙ kept

pub ends_with : (r moved : Revisions) (made : Result Made LineStop) → IfOk made (λ _. (x : Revision) × (moved ≡ with_revision r x)) → IfOk made (λ _. EndsWithRevision moved)
ends_with r moved (Ok m) more = (r, more.0, more.1)
ends_with r moved (Err stop) more = tt

-- ---- an undo

front_of : {A : Type 0} (xs : List A) (x : A) → take (length (xs ++ x ∷ []) - 1) (xs ++ x ∷ []) ≡ xs
front_of [] x = refl
front_of (y ∷ []) x = refl
front_of (y ∷ z ∷ ys) x =
    let long : length ((y ∷ z ∷ ys) ++ x ∷ []) - 1 ≡ suc (length ((z ∷ ys) ++ x ∷ []) - 1) = omega arith in
    ap (λ n. take n ((y ∷ z ∷ ys) ++ x ∷ [])) long ∙ ap (λ l. y ∷ l) (front_of (z ∷ ys) x)

pub undone_moves : (r before : Revisions) (x : Revision) → r ≡ with_revision before x → before ≡ without_last r
undone_moves r before x is =
    let front : take (length r.surviving - 1) r.surviving ≡ before.surviving = ap (λ (u : Revisions). take (length u.surviving - 1) u.surviving) is ∙ front_of before.surviving x in
    let opening : r.opening ≡ before.opening = ap (λ (u : Revisions). u.opening) is in
    same_revisions before (without_last r) (sym opening) (sym front)

-- ---- each revision

pub added_made : (t : DecisionTable) (r moved : Revisions) (named : Named) (s : Statement) (n : ℕ) → statement_of t named ≡ Ok s → CanBeAdded r s → n ≡ next_number r → moved ≡ with_revision r (addition n s) → IsMade t r (State named) (Added n) moved
added_made t r moved named s n stated can number added = record {
  taken = added_taken t r named s stated can;
  revised = ap (λ m. bodies.Added m) number;
  moved_on = added ∙ ap (λ (o : Result Statement LineFault). with_stated r (addition n) (result_ok o)) (sym stated);
}

pub withdrawn_made : (t : DecisionTable) (r moved : Revisions) (n : ℕ) → CanBeWithdrawn r (n ∷ []) → moved ≡ with_revision r (withdrawal (n ∷ [])) → IsMade t r (Withdraw n) (Withdrawn n) moved
withdrawn_made t r moved n can withdrawn = record { taken = withdrawn_taken t r n can; revised = refl; moved_on = withdrawn }

pub replaced_made : (t : DecisionTable) (r moved : Revisions) (named : Named) (s : Statement) (n : ℕ) → statement_of t named ≡ Ok s → CanBeReplaced r n s → moved ≡ with_revision r (replacement n s) → IsMade t r (Replace n named) (Replaced n) moved
replaced_made t r moved named s n stated can replaced = record {
  taken = replaced_taken t r n named s stated can;
  revised = refl;
  moved_on = replaced ∙ ap (λ (o : Result Statement LineFault). with_stated r (replacement n) (result_ok o)) (sym stated);
}

pub undone_made : (t : DecisionTable) (r moved : Revisions) → (x : Revision) × (r ≡ with_revision moved x) → IsMade t r Undo Undone moved
undone_made t r moved last = record { taken = undone_taken t r moved last.0 last.1; revised = refl; moved_on = undone_moves r moved last.0 last.1 }

-- ---- an undo that is checked

some_or_none : {A : Type 0} (xs : List A) → ((xs ≢ []) → ⊥) → xs ≡ []
some_or_none [] h = refl
some_or_none (x ∷ xs) h = absurd (h (λ e. cc))

pub nothing_refused : (t : DecisionTable) (r : Revisions) → ((r.surviving ≢ []) → ⊥) → IsRefusedFor t r Undo lines.NothingToUndo
nothing_refused t r none = undone_refused t r histories.NothingToUndo (some_or_none r.surviving none)

-- where something can be undone, a body that says something else is another's
pub not_undone : (t : DecisionTable) (r : Revisions) (body : Body) → r.surviving ≢ [] → body ≢ bodies.Undone → IsBodyOf of_form t r Undo body → ⊥
not_undone t r body some other (refused fault first is) = undo_taken t r some fault first.fails
not_undone t r body some other (taken passes is) = other is

pub undone_said : (t : DecisionTable) (r moved : Revisions) (made : Made) (body : Body) → IsMade t r Undo made moved → body ≡ bodies.Undone → body ≡ body_of made
undone_said t r moved made body is said = said ∙ sym is.revised
