-- When a command is refused, and for what first; when it is taken.
use Rattle.std.proofs.Common.{◌≡◌, ◌≢◌, inl, inr, ℕ, zero, suc, ◌<◌, ◌≤◌, List, [], ◌∷◌, ◌++◌, Result, Ok, Err, refl, sym, ap, ◌∙◌, subst, arith}
use Rattle.std.specs.Prelude.{IfErr}
use Rattle.std.proofs.lemmas.List.Elements.{All-head, All-nil, All-cons}
use Rattle.ror_chain.proofs.OrderLemmas.{distinct_from_Apart}
use Rattle.std.proofs.lemmas.Bool.{cases_lt}
use Rattle.ror_text.specs.FirstFault.{IsFirst, IsRefusedBy}
use Rattle.ror_table.specs.Table.{DecisionTable}
use Rattle.ror_statement.specs.declared.row_number.TheConstants.{MOST_ROWS}
use Rattle.ror_statement.specs.declared.statement.Statement.{Statement}
use Rattle.ror_statement.specs.declared.question.Question.{Question}
use Rattle.ror_statement.specs.RowNumbers.{row_count}
use Rattle.ror_session.specs.declared.session.Named.{Named}
use Rattle.ror_session.specs.declared.session.Asked.{Asked}
use Rattle.ror_session.specs.declared.session.Asked.TheVariants.{Consistent, Necessary, Possible, NecessaryStrength, PossibleStrength, PossibleClass, NecessaryClass, Classes, Relation}
use Rattle.ror_session.specs.declared.session.Command.{Command}
use Rattle.ror_session.specs.declared.session.Command.TheVariants.{State, Withdraw, Replace, Repair, Undo, Ask}
use Rattle.ror_report.specs.declared.block.LineFault.{LineFault}
use Rattle.ror_report.specs.declared.block.LineFault.TheVariants as faults
use Rattle.ror_history.specs.declared.history.HistoryFault.{HistoryFault}
use Rattle.ror_history.specs.declared.history.HistoryFault.TheVariants as histories
use Rattle.ror_history.specs.History.{Revision, Revisions, replacement, statements_of, with_revision}
use Rattle.ror_history.specs.Faults.{Stands, CanBeAdded, FailsAddition, CanBeReplaced, FailsReplacement, CanBeWithdrawn, FailsWithdrawal, FailsUndo, IsEarlierFault}
use Rattle.ror_bench.specs.Names.{statement_of, questions_of}
use Rattle.ror_bench.specs.Lines.{LacksAlternative, LacksCriterion, HasUnknownClass, HasManyPairs, alternatives_in, criterion_in, FailsLine, line_stage, IsRefusedFor, IsTaken, IsFirstOfNames}
use Rattle.ror_bench.specs.Steps.{stop_of_history, RefusesCommand}
use Rattle.ror_bench.proofs.NameLemmas.{CommandStands, CommandFails, neither, statement_stands, statement_fails, replacement_stands, replacement_fails, questions_stand, questions_fail, questions_not_many}
use Rattle.ror_bench.proofs.NameLemmas.CommandFails.{lacks_alternative, lacks_criterion, unknown_class, bad_interval}

-- ---- the first of the faults

pub first_of : (t : DecisionTable) (r : Revisions) (command : Command) (fault : LineFault) → FailsLine t r command fault → ((other : LineFault) → line_stage other < line_stage fault → FailsLine t r command other → ⊥) → IsRefusedFor t r command fault
first_of t r command fault fails none = record {
  fails = fails;
  none_before = λ other earlier. elim earlier [ inl less ↦ none other less | inr same ↦ absurd (let l = same.1 in omega arith) ];
}

-- a stage is that of one fault
fault_at : ℕ → LineFault
fault_at zero = faults.UnknownAlternative
fault_at (suc zero) = faults.UnknownCriterion
fault_at (suc (suc zero)) = faults.UnknownClass
fault_at (suc (suc (suc zero))) = faults.BadInterval
fault_at (suc (suc (suc (suc zero)))) = faults.NoSuchStatement
fault_at (suc (suc (suc (suc (suc zero))))) = faults.NothingToUndo
fault_at (suc (suc (suc (suc (suc (suc zero)))))) = faults.TooManyStatements
fault_at (suc (suc (suc (suc (suc (suc (suc zero))))))) = faults.TooManyRows
fault_at (suc (suc (suc (suc (suc (suc (suc (suc n)))))))) = faults.TooManyPairs

fault_at-stage : (fault : LineFault) → fault_at (line_stage fault) ≡ fault
unfolding fault_at
fault_at-stage faults.UnknownAlternative = refl
fault_at-stage faults.UnknownCriterion = refl
fault_at-stage faults.UnknownClass = refl
fault_at-stage faults.BadInterval = refl
fault_at-stage faults.NoSuchStatement = refl
fault_at-stage faults.NothingToUndo = refl
fault_at-stage faults.TooManyStatements = refl
fault_at-stage faults.TooManyRows = refl
fault_at-stage faults.TooManyPairs = refl

pub one_refusal : (t : DecisionTable) (r : Revisions) (command : Command) (f g : LineFault) → IsRefusedFor t r command f → IsRefusedFor t r command g → f ≡ g
one_refusal t r command f g first second =
    let not_less : line_stage f < line_stage g → ⊥ = λ less. second.none_before f (inl less) first.fails in
    let not_more : line_stage g < line_stage f → ⊥ = λ less. first.none_before g (inl less) second.fails in
    let same : line_stage f ≡ line_stage g = stages_same (line_stage f) (line_stage g) not_less not_more in
    sym (fault_at-stage f) ∙ ap fault_at same ∙ fault_at-stage g
  where
    stages_same : (m n : ℕ) → (m < n → ⊥) → (n < m → ⊥) → m ≡ n
    stages_same m n a b = elim (cases_lt m n) [
      | inl less ↦ absurd (a less)
      | inr le ↦ elim (cases_lt n m) [ inl more ↦ absurd (b more) | inr ge ↦ omega arith ]
    ]

-- ---- names

-- of the tests before one of what is named
named_before : (t : DecisionTable) (r : Revisions) (command : Command) (stage : ℕ) → stage ≤ 3 → (1 ≤ stage → LacksAlternative t (alternatives_in command) → ⊥) → (2 ≤ stage → LacksCriterion t (criterion_in command) → ⊥) → (3 ≤ stage → HasUnknownClass t command → ⊥)
    → (other : LineFault) → line_stage other < stage → FailsLine t r command other → ⊥
named_before t r command stage few alternatives criterion classes faults.UnknownAlternative less h = alternatives (omega (arith, less)) h
named_before t r command stage few alternatives criterion classes faults.UnknownCriterion less h = criterion (omega (arith, less)) h
named_before t r command stage few alternatives criterion classes faults.UnknownClass less h = classes (omega (arith, less)) h
named_before t r command stage few alternatives criterion classes faults.BadInterval less h = omega (arith, less, few)
named_before t r command stage few alternatives criterion classes faults.NoSuchStatement less h = omega (arith, less, few)
named_before t r command stage few alternatives criterion classes faults.NothingToUndo less h = omega (arith, less, few)
named_before t r command stage few alternatives criterion classes faults.TooManyStatements less h = omega (arith, less, few)
named_before t r command stage few alternatives criterion classes faults.TooManyRows less h = omega (arith, less, few)
named_before t r command stage few alternatives criterion classes faults.TooManyPairs less h = omega (arith, less, few)

pub names_refused : (t : DecisionTable) (r : Revisions) (command : Command) (fault : LineFault) → CommandFails t command fault → IsRefusedFor t r command fault
names_refused t r command fault (lacks_alternative is lacks) =
    subst (IsRefusedFor t r command) (sym is) (first_of t r command faults.UnknownAlternative lacks (named_before t r command 0 (omega arith) (λ past. absurd (omega (arith, past))) (λ past. absurd (omega (arith, past))) (λ past. absurd (omega (arith, past)))))
names_refused t r command fault (lacks_criterion is lacks alternatives) =
    subst (IsRefusedFor t r command) (sym is) (first_of t r command faults.UnknownCriterion lacks (named_before t r command 1 (omega arith) (λ _. alternatives) (λ past. absurd (omega (arith, past))) (λ past. absurd (omega (arith, past)))))
names_refused t r command fault (unknown_class is unknown alternatives criterion) =
    subst (IsRefusedFor t r command) (sym is) (first_of t r command faults.UnknownClass unknown (named_before t r command 2 (omega arith) (λ _. alternatives) (λ _. criterion) (λ past. absurd (omega (arith, past)))))
names_refused t r command fault (bad_interval is turned alternatives criterion classes) =
    subst (IsRefusedFor t r command) (sym is) (first_of t r command faults.BadInterval turned (named_before t r command 3 (omega arith) (λ _. alternatives) (λ _. criterion) (λ _. classes)))

one_more_is_some : {A : Type 0} (xs : List A) (x : A) → xs ++ x ∷ [] ≡ [] → ⊥
one_more_is_some [] x e = absurd cc
one_more_is_some (y ∷ ys) x e = absurd cc

one_stands : (r : Revisions) (n : ℕ) → CanBeWithdrawn r (n ∷ []) → Stands r n
one_stands r n can = All-head (Stands r) n [] can.among

one_withdrawn : (r : Revisions) (n : ℕ) → Stands r n → CanBeWithdrawn r (n ∷ [])
one_withdrawn r n stands = record { among = All-cons (Stands r) n [] stands (All-nil (Stands r)); once = distinct_from_Apart (n ∷ []) (tt, tt) }

-- where all pairs are asked of nothing is named
many_stand : (t : DecisionTable) (asked : Asked) → HasManyPairs t (Ask asked) → CommandStands t (Ask asked)
many_stand t Relation many = record { alternatives = λ h. h; criterion = λ h. h; classes = λ h. neither h; interval = λ h. h }
many_stand t Consistent many = absurd many
many_stand t (Necessary a b) many = absurd many
many_stand t (Possible a b) many = absurd many
many_stand t (NecessaryStrength p q on) many = absurd many
many_stand t (PossibleStrength p q on) many = absurd many
many_stand t (PossibleClass a h) many = absurd many
many_stand t (NecessaryClass a h) many = absurd many
many_stand t (Classes a) many = absurd many

many_refused : (t : DecisionTable) (r : Revisions) (asked : Asked) → HasManyPairs t (Ask asked) → IsRefusedFor t r (Ask asked) faults.TooManyPairs
many_refused t r asked many = first_of t r (Ask asked) faults.TooManyPairs many before
  where
    stands : CommandStands t (Ask asked)
    stands = many_stand t asked many

    before : (other : LineFault) → line_stage other < 8 → FailsLine t r (Ask asked) other → ⊥
    before faults.UnknownAlternative less h = stands.alternatives h
    before faults.UnknownCriterion less h = stands.criterion h
    before faults.UnknownClass less h = stands.classes h
    before faults.BadInterval less h = stands.interval h
    before faults.NoSuchStatement less h = h
    before faults.NothingToUndo less h = h
    before faults.TooManyStatements less h = h
    before faults.TooManyRows less h = h
    before faults.TooManyPairs less h = absurd (omega arith)

same_statement : (t : DecisionTable) (named : Named) (s u : Statement) → statement_of t named ≡ Ok s → statement_of t named ≡ Ok u → u ≡ s
same_statement t named s u e f = (let both = sym e ∙ f in cc)

-- ---- a statement that is added

pub statement_refused : (t : DecisionTable) (r : Revisions) (named : Named) (fault : LineFault) → statement_of t named ≡ Err fault → IsRefusedFor t r (State named) fault
statement_refused t r named fault e = names_refused t r (State named) fault (statement_fails t named fault e)

pub added_taken : (t : DecisionTable) (r : Revisions) (named : Named) (s : Statement) → statement_of t named ≡ Ok s → CanBeAdded r s → IsTaken t r (State named)
added_taken t r named s e can = passes
  where
    stands : CommandStands t (State named)
    stands = statement_stands t named s e

    passes : (other : LineFault) → FailsLine t r (State named) other → ⊥
    passes faults.UnknownAlternative h = stands.alternatives h
    passes faults.UnknownCriterion h = stands.criterion h
    passes faults.UnknownClass h = stands.classes h
    passes faults.BadInterval h = stands.interval h
    passes faults.NoSuchStatement h = h
    passes faults.NothingToUndo h = h
    passes faults.TooManyStatements h = absurd (let few = can.few in omega arith)
    passes faults.TooManyRows h =
        let rows : row_count (statements_of r ++ h.0 ∷ []) ≤ MOST_ROWS = subst (λ (u : Statement). row_count (statements_of r ++ u ∷ []) ≤ MOST_ROWS) (sym (same_statement t named s h.0 e h.1)) can.rows in
        let past = h.2 in
        absurd (omega arith)
    passes faults.TooManyPairs h = h

pub added_refused : (t : DecisionTable) (r : Revisions) (named : Named) (s : Statement) (fault : HistoryFault) → statement_of t named ≡ Ok s → IsRefusedBy (FailsAddition r s) IsEarlierFault histories.Memory fault → RefusesCommand t r (State named) (stop_of_history fault)
added_refused t r named s histories.NoSuchStatement e refused = absurd (refused (λ e. cc)).fails
added_refused t r named s histories.NothingToUndo e refused = absurd (refused (λ e. cc)).fails
added_refused t r named s histories.Memory e refused = tt
added_refused t r named s histories.TooManyStatements e refused = first_of t r (State named) faults.TooManyStatements (refused (λ e. cc)).fails before
  where
    stands : CommandStands t (State named)
    stands = statement_stands t named s e

    before : (other : LineFault) → line_stage other < 6 → FailsLine t r (State named) other → ⊥
    before faults.UnknownAlternative less h = stands.alternatives h
    before faults.UnknownCriterion less h = stands.criterion h
    before faults.UnknownClass less h = stands.classes h
    before faults.BadInterval less h = stands.interval h
    before faults.NoSuchStatement less h = h
    before faults.NothingToUndo less h = h
    before faults.TooManyStatements less h = absurd (omega arith)
    before faults.TooManyRows less h = absurd (omega arith)
    before faults.TooManyPairs less h = absurd (omega arith)
added_refused t r named s histories.TooManyRows e refused = first_of t r (State named) faults.TooManyRows (s, e, first.fails) before
  where
    stands : CommandStands t (State named)
    stands = statement_stands t named s e

    first : IsFirst (FailsAddition r s) IsEarlierFault histories.TooManyRows
    first = refused (λ e. cc)

    before : (other : LineFault) → line_stage other < 7 → FailsLine t r (State named) other → ⊥
    before faults.UnknownAlternative less h = stands.alternatives h
    before faults.UnknownCriterion less h = stands.criterion h
    before faults.UnknownClass less h = stands.classes h
    before faults.BadInterval less h = stands.interval h
    before faults.NoSuchStatement less h = h
    before faults.NothingToUndo less h = h
    before faults.TooManyStatements less h = first.none_before histories.TooManyStatements (inl (omega arith)) h
    before faults.TooManyRows less h = absurd (omega arith)
    before faults.TooManyPairs less h = absurd (omega arith)

-- ---- a statement that is withdrawn

pub withdrawn_taken : (t : DecisionTable) (r : Revisions) (n : ℕ) → CanBeWithdrawn r (n ∷ []) → IsTaken t r (Withdraw n)
withdrawn_taken t r n can = passes
  where
    stands : CommandStands t (Withdraw n)
    stands = record { alternatives = λ h. h; criterion = λ h. h; classes = λ h. h; interval = λ h. h }

    passes : (other : LineFault) → FailsLine t r (Withdraw n) other → ⊥
    passes faults.UnknownAlternative h = stands.alternatives h
    passes faults.UnknownCriterion h = stands.criterion h
    passes faults.UnknownClass h = stands.classes h
    passes faults.BadInterval h = stands.interval h
    passes faults.NoSuchStatement h = h (one_stands r n can)
    passes faults.NothingToUndo h = h
    passes faults.TooManyStatements h = h
    passes faults.TooManyRows h = h
    passes faults.TooManyPairs h = h

pub withdrawn_refused : (t : DecisionTable) (r : Revisions) (n : ℕ) (fault : HistoryFault) → IsRefusedBy (FailsWithdrawal r (n ∷ [])) IsEarlierFault histories.Memory fault → RefusesCommand t r (Withdraw n) (stop_of_history fault)
withdrawn_refused t r n histories.NothingToUndo refused = absurd (refused (λ e. cc)).fails
withdrawn_refused t r n histories.TooManyStatements refused = absurd (refused (λ e. cc)).fails
withdrawn_refused t r n histories.TooManyRows refused = absurd (refused (λ e. cc)).fails
withdrawn_refused t r n histories.Memory refused = tt
withdrawn_refused t r n histories.NoSuchStatement refused = first_of t r (Withdraw n) faults.NoSuchStatement (λ there. (refused (λ e. cc)).fails (one_withdrawn r n there)) before
  where
    stands : CommandStands t (Withdraw n)
    stands = record { alternatives = λ h. h; criterion = λ h. h; classes = λ h. h; interval = λ h. h }

    before : (other : LineFault) → line_stage other < 4 → FailsLine t r (Withdraw n) other → ⊥
    before faults.UnknownAlternative less h = stands.alternatives h
    before faults.UnknownCriterion less h = stands.criterion h
    before faults.UnknownClass less h = stands.classes h
    before faults.BadInterval less h = stands.interval h
    before faults.NoSuchStatement less h = absurd (omega arith)
    before faults.NothingToUndo less h = absurd (omega arith)
    before faults.TooManyStatements less h = absurd (omega arith)
    before faults.TooManyRows less h = absurd (omega arith)
    before faults.TooManyPairs less h = absurd (omega arith)

-- ---- a statement that is replaced

pub replacement_refused : (t : DecisionTable) (r : Revisions) (n : ℕ) (named : Named) (fault : LineFault) → statement_of t named ≡ Err fault → IsRefusedFor t r (Replace n named) fault
replacement_refused t r n named fault e = names_refused t r (Replace n named) fault (replacement_fails t n named fault (statement_fails t named fault e))

-- the fault of names is the first of a line that states them, or puts their statement in another's place
pub first_of_names : (t : DecisionTable) (named : Named) (result : Result Statement LineFault) → result ≡ statement_of t named → IfErr result (IsFirstOfNames t named)
first_of_names t named (Ok s) is = tt
first_of_names t named (Err fault) is = λ r. (statement_refused t r named fault (sym is), λ n. replacement_refused t r n named fault (sym is))

pub replaced_taken : (t : DecisionTable) (r : Revisions) (n : ℕ) (named : Named) (s : Statement) → statement_of t named ≡ Ok s → CanBeReplaced r n s → IsTaken t r (Replace n named)
replaced_taken t r n named s e can = passes
  where
    stands : CommandStands t (Replace n named)
    stands = replacement_stands t n named (statement_stands t named s e)

    passes : (other : LineFault) → FailsLine t r (Replace n named) other → ⊥
    passes faults.UnknownAlternative h = stands.alternatives h
    passes faults.UnknownCriterion h = stands.criterion h
    passes faults.UnknownClass h = stands.classes h
    passes faults.BadInterval h = stands.interval h
    passes faults.NoSuchStatement h = h can.stands
    passes faults.NothingToUndo h = h
    passes faults.TooManyStatements h = h
    passes faults.TooManyRows h =
        let rows : row_count (statements_of (with_revision r (replacement n h.0))) ≤ MOST_ROWS = subst (λ (u : Statement). row_count (statements_of (with_revision r (replacement n u))) ≤ MOST_ROWS) (sym (same_statement t named s h.0 e h.1)) can.rows in
        let past = h.2 in
        absurd (omega arith)
    passes faults.TooManyPairs h = h

pub replaced_refused : (t : DecisionTable) (r : Revisions) (n : ℕ) (named : Named) (s : Statement) (fault : HistoryFault) → statement_of t named ≡ Ok s → IsRefusedBy (FailsReplacement r n s) IsEarlierFault histories.Memory fault → RefusesCommand t r (Replace n named) (stop_of_history fault)
replaced_refused t r n named s histories.NothingToUndo e refused = absurd (refused (λ e. cc)).fails
replaced_refused t r n named s histories.TooManyStatements e refused = absurd (refused (λ e. cc)).fails
replaced_refused t r n named s histories.Memory e refused = tt
replaced_refused t r n named s histories.NoSuchStatement e refused = first_of t r (Replace n named) faults.NoSuchStatement (refused (λ e. cc)).fails before
  where
    stands : CommandStands t (Replace n named)
    stands = replacement_stands t n named (statement_stands t named s e)

    before : (other : LineFault) → line_stage other < 4 → FailsLine t r (Replace n named) other → ⊥
    before faults.UnknownAlternative less h = stands.alternatives h
    before faults.UnknownCriterion less h = stands.criterion h
    before faults.UnknownClass less h = stands.classes h
    before faults.BadInterval less h = stands.interval h
    before faults.NoSuchStatement less h = absurd (omega arith)
    before faults.NothingToUndo less h = absurd (omega arith)
    before faults.TooManyStatements less h = absurd (omega arith)
    before faults.TooManyRows less h = absurd (omega arith)
    before faults.TooManyPairs less h = absurd (omega arith)
replaced_refused t r n named s histories.TooManyRows e refused = first_of t r (Replace n named) faults.TooManyRows (s, e, first.fails) before
  where
    stands : CommandStands t (Replace n named)
    stands = replacement_stands t n named (statement_stands t named s e)

    first : IsFirst (FailsReplacement r n s) IsEarlierFault histories.TooManyRows
    first = refused (λ e. cc)

    before : (other : LineFault) → line_stage other < 7 → FailsLine t r (Replace n named) other → ⊥
    before faults.UnknownAlternative less h = stands.alternatives h
    before faults.UnknownCriterion less h = stands.criterion h
    before faults.UnknownClass less h = stands.classes h
    before faults.BadInterval less h = stands.interval h
    before faults.NoSuchStatement less h = first.none_before histories.NoSuchStatement (inl (omega arith)) h
    before faults.NothingToUndo less h = h
    before faults.TooManyStatements less h = h
    before faults.TooManyRows less h = absurd (omega arith)
    before faults.TooManyPairs less h = absurd (omega arith)

-- ---- a repair

-- a repair is never refused
pub repair_taken : (t : DecisionTable) (r : Revisions) → IsTaken t r Repair
repair_taken t r faults.UnknownAlternative h = h
repair_taken t r faults.UnknownCriterion h = h
repair_taken t r faults.UnknownClass h = h
repair_taken t r faults.BadInterval h = h
repair_taken t r faults.NoSuchStatement h = h
repair_taken t r faults.NothingToUndo h = h
repair_taken t r faults.TooManyStatements h = h
repair_taken t r faults.TooManyRows h = h
repair_taken t r faults.TooManyPairs h = h

-- ---- an undo

pub undo_taken : (t : DecisionTable) (r : Revisions) → r.surviving ≢ [] → IsTaken t r Undo
undo_taken t r some = passes
  where
    stands : CommandStands t Undo
    stands = record { alternatives = λ h. h; criterion = λ h. h; classes = λ h. h; interval = λ h. h }

    passes : (other : LineFault) → FailsLine t r Undo other → ⊥
    passes faults.UnknownAlternative h = stands.alternatives h
    passes faults.UnknownCriterion h = stands.criterion h
    passes faults.UnknownClass h = stands.classes h
    passes faults.BadInterval h = stands.interval h
    passes faults.NoSuchStatement h = h
    passes faults.NothingToUndo h = some h
    passes faults.TooManyStatements h = h
    passes faults.TooManyRows h = h
    passes faults.TooManyPairs h = h

pub undone_taken : (t : DecisionTable) (r before : Revisions) (x : Revision) → r ≡ with_revision before x → IsTaken t r Undo
undone_taken t r old x is = undo_taken t r (λ none. one_more_is_some old.surviving x (ap (λ (u : Revisions). u.surviving) (sym is) ∙ none))

pub undone_refused : (t : DecisionTable) (r : Revisions) (fault : HistoryFault) → FailsUndo r fault → RefusesCommand t r Undo (stop_of_history fault)
undone_refused t r histories.NoSuchStatement fails = absurd fails
undone_refused t r histories.TooManyStatements fails = absurd fails
undone_refused t r histories.TooManyRows fails = absurd fails
undone_refused t r histories.Memory fails = absurd fails
undone_refused t r histories.NothingToUndo fails = first_of t r Undo faults.NothingToUndo fails before
  where
    stands : CommandStands t Undo
    stands = record { alternatives = λ h. h; criterion = λ h. h; classes = λ h. h; interval = λ h. h }

    before : (other : LineFault) → line_stage other < 5 → FailsLine t r (Undo) other → ⊥
    before faults.UnknownAlternative less h = stands.alternatives h
    before faults.UnknownCriterion less h = stands.criterion h
    before faults.UnknownClass less h = stands.classes h
    before faults.BadInterval less h = stands.interval h
    before faults.NoSuchStatement less h = h
    before faults.NothingToUndo less h = absurd (omega arith)
    before faults.TooManyStatements less h = absurd (omega arith)
    before faults.TooManyRows less h = absurd (omega arith)
    before faults.TooManyPairs less h = absurd (omega arith)

-- ---- a question

pub asked_taken : (t : DecisionTable) (r : Revisions) (asked : Asked) (qs : List Question) → questions_of t asked ≡ Ok qs → IsTaken t r (Ask asked)
asked_taken t r asked qs e = passes
  where
    stands : CommandStands t (Ask asked)
    stands = questions_stand t asked qs e

    passes : (other : LineFault) → FailsLine t r (Ask asked) other → ⊥
    passes faults.UnknownAlternative h = stands.alternatives h
    passes faults.UnknownCriterion h = stands.criterion h
    passes faults.UnknownClass h = stands.classes h
    passes faults.BadInterval h = stands.interval h
    passes faults.NoSuchStatement h = h
    passes faults.NothingToUndo h = h
    passes faults.TooManyStatements h = h
    passes faults.TooManyRows h = h
    passes faults.TooManyPairs h = questions_not_many t asked qs e h

pub asked_refused : (t : DecisionTable) (r : Revisions) (asked : Asked) (fault : LineFault) → questions_of t asked ≡ Err fault → IsRefusedFor t r (Ask asked) fault
asked_refused t r asked fault e = elim (questions_fail t asked fault e) [
  | inl names ↦ names_refused t r (Ask asked) fault names
  | inr many ↦ subst (IsRefusedFor t r (Ask asked)) (sym many.0) (many_refused t r asked many.1)
]
