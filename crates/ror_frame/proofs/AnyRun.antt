-- How a run ends by what came of the work.
use Rattle.std.proofs.Common.{◌≡◌, ◌≢◌, ℕ, ◌<◌, ◌≤◌, ◌⊎◌, ◌∙◌, Bool, true, false, length, Option, Some, None, Ok, Err, IsErr, refl, sym, ap, subst, inl, inr, arith}
use Rattle.ror_io.specs.Files.{Files}
use Rattle.ror_io.specs.Counts.{DidNotRise}
use Rattle.ror_frame.specs.declared.status.Status.{Status}
use Rattle.ror_frame.specs.declared.status.Status.TheVariants as statuses
use Rattle.ror_frame.specs.declared.stop.Refusal.{Refusal}
use Rattle.ror_frame.specs.declared.stop.Refusal.TheVariants as refusals
use Rattle.ror_frame.specs.declared.stop.Stop.TheVariants as stops
use Rattle.ror_frame.specs.States.{ShelfState, SinkState}
use Rattle.ror_frame.specs.Stops.{Outcome, status_after, outcome_of, refused_status}
use Rattle.ror_frame.specs.Courses.{Chore, Ending, done, Leads, Ends, IsFirstMissing, CountsWrites, EndsAfter, LacksOne, LacksFirst, IsPure, IsWork}
use Rattle.ror_frame.specs.Runs.{files_named, WritesBy, IsRunBy}
use Rattle.ror_frame.proofs.CourseLemmas.{IsDecided, one_ending, unbegun}
use Rattle.ror_io.proofs.CountLemmas.{never_both}

-- ---- a status tells the outcome

outcome_after : (o : Outcome) → outcome_of (status_after o) ≡ Some o
outcome_after o = grind arith

pub told_by : (o p : Outcome) (s : Status) → status_after o ≡ s → outcome_of s ≡ Some p → o ≡ p
told_by o p s is tells = let q = sym (outcome_after o) ∙ ap outcome_of is ∙ tells in cc

never : (o : Outcome) (s : Status) → status_after o ≡ s → outcome_of s ≡ None → ⊥
never o s is tells = let q = sym (outcome_after o) ∙ ap outcome_of is ∙ tells in cc

refusal_told : (r : Refusal) → outcome_of (refused_status r) ≡ Some (Err (stops.At r))
refusal_told r = outcome_after (Err (stops.At r))

-- ---- what standard output counts

never_falls : (before now : ℕ) (o : Outcome) → CountsWrites before now o → before ≤ now
never_falls before now o counts = grind (arith, counts)

where_rose : (before now : ℕ) (o : Outcome) → CountsWrites before now o → before < now → o ≡ Err stops.WriteFault
where_rose before now o counts rose = grind (arith, counts, rose)

-- ---- the end

completed : (o : Outcome) (tells : Option Bool) → (status_after o ≢ statuses.Memory → Ends (done tells) (Some o)) → {old new : ℕ} → DidNotRise old new → CountsWrites old new o → (status_after o ≡ statuses.Done) ⊎ (status_after o ≡ statuses.DoneWide) ⊎ (status_after o ≡ statuses.Memory)
completed (Ok false) tells ends kept counts = inl refl
completed (Ok true) tells ends kept counts = inr (inl refl)
completed (Err (stops.At (refusals.BadTable fault))) tells ends kept counts = absurd (ends (λ is. absurd cc))
completed (Err (stops.At (refusals.BadSession fault))) tells ends kept counts = absurd (ends (λ is. absurd cc))
completed (Err (stops.At (refusals.Rejected rejection))) tells ends kept counts = absurd (ends (λ is. absurd cc))
completed (Err (stops.At (refusals.Uncertified rejection))) tells ends kept counts = absurd (ends (λ is. absurd cc))
completed (Err (stops.At (refusals.Unsuited line))) tells ends kept counts = absurd (ends (λ is. absurd cc))
completed (Err (stops.At (refusals.BadLevels fault))) tells ends kept counts = absurd (ends (λ is. absurd cc))
completed (Err stops.ReadFault) tells ends kept counts = absurd (ends (λ is. absurd cc))
completed (Err stops.WriteFault) tells ends {old} {new} kept counts = absurd (never_both old new counts.1 kept)
completed (Err stops.Memory) tells ends kept counts = inr (inr refl)

-- ---- the run

module _ {Task : Type 0} (chore_of : Task → Chore) where
  -- the words ask for the task: the run is the work on it
  pub worked_run : (asked : Option Task) (task : Task) (before now : ShelfState) (old new : SinkState) (o : Outcome) → asked ≡ Some task → IsDecided (chore_of task).course → IsWork 0 (chore_of task).files (chore_of task).course before now old new o → IsRunBy chore_of asked before now old new (status_after o)
  worked_run asked task before now old new o is settled work = record {
    usage = λ usage. absurd (never o _ usage refl);
    unasked = λ none. absurd cc;
    read_fault = λ fault. elim (work.read_fault (told_by o _ _ fault refl)) [ inl rose ↦ inl rose | inr lacks ↦ inr (subst (λ (t : Option Task). LacksOne before.told (files_named chore_of t)) (sym is) lacks) ];
    write_fault = λ fault. (subst (CountsWrites old.faults new.faults) (told_by o (Err stops.WriteFault) _ fault refl) work.writes).1;
    shelf_rose = λ rose. ap status_after (work.rose rose);
    out_rose = λ rose. ap status_after (where_rose old.faults new.faults o work.writes rose);
    shelf_never_falls = work.never_falls;
    out_never_falls = never_falls old.faults new.faults o work.writes;
    told_stays = work.told_stays;
    fetched = (work.fetched.0, rw (outcome_after o) (subst (λ (t : Option Task). EndsAfter 0 (length (files_named chore_of t)) (Some o) work.fetched.0) (sym is) work.fetched.1), work.fetched.2);
    lacking = λ lacks.
        let failed = work.lacking (subst (λ (t : Option Task). LacksOne before.told (files_named chore_of t)) is lacks) in
        (λ done. not_done (told_by o (Ok false) _ done refl) failed, λ done. not_done (told_by o (Ok true) _ done refl) failed);
    no_table = λ lacks. elim (work.first_lacking (subst (λ (t : Option Task). LacksFirst before.told (files_named chore_of t)) is lacks)) [
      | inl fault ↦ inl (ap status_after fault.0, fault.1)
      | inr memory ↦ inr (ap status_after memory.0, memory.1)
    ];
    pure = λ r refused. subst IsPure (told_by o (Err (stops.At r)) _ refused (refusal_told r)) work.pure;
    ends_at_missing = λ fault files told stayed.
        let found = work.ends_at_missing (told_by o _ _ fault refl) files told stayed in
        (found.0, subst (λ (t : Option Task). IsFirstMissing files (files_named chore_of t) found.0) (sym is) found.1, found.2);
    refuses = λ r refused. (task, is, work.refuses r (told_by o (Err (stops.At r)) _ refused (refusal_told r)));
    shows = shows;
    decided = decided;
    completes = λ files mine tells told named stayed kept leads.
        completed o tells (λ other. rw (outcome_after o) at (decided files mine told named stayed other (done tells) leads)) kept work.writes;
    one_ending = λ files mine d e named first second. one_ending files (chore_of mine).course d e (settled_by mine named) first second;
    output = rw (outcome_after o) (subst (λ (t : Option Task). WritesBy chore_of before.told before.faults now.faults t old.written new.written (Some o)) (sym is) work.output);
  }
    where
      not_done : {wide : Bool} → o ≡ Ok wide → IsErr o → ⊥
      not_done is failed = let f = subst IsErr is failed in cc

      settled_by : (mine : Task) → asked ≡ Some mine → IsDecided (chore_of mine).course
      settled_by mine named = let same : task ≡ mine = cc in subst (λ (t : Task). IsDecided (chore_of t).course) same settled

      shows : (files : Files) (mine : Task) → before.told ≡ Some files → asked ≡ Some mine → DidNotRise before.faults now.faults → status_after o ≢ statuses.Memory → (e : Ending) × Leads files (chore_of mine).course e × Ends e (outcome_of (status_after o))
      shows files mine told named stayed other =
          let same : task ≡ mine = cc in
          let shown = work.shows files told stayed (λ memory. other (ap status_after memory)) in
          (shown.0, subst (λ (t : Task). Leads files (chore_of t).course shown.0) same shown.1, rw (outcome_after o) shown.2)

      decided : (files : Files) (mine : Task) → before.told ≡ Some files → asked ≡ Some mine → DidNotRise before.faults now.faults → status_after o ≢ statuses.Memory → (e : Ending) → Leads files (chore_of mine).course e → Ends e (outcome_of (status_after o))
      decided files mine told named stayed other e leads =
          let shown = shows files mine told named stayed other in
          subst (λ (d : Ending). Ends d (outcome_of (status_after o))) (one_ending files (chore_of mine).course shown.0 e (settled_by mine named) shown.1 leads) shown.2

  -- the words ask for nothing, or memory ran out while they were read: nothing is fetched or written
  pub idle_run : (shelf : ShelfState) (out : SinkState) (status : Status) → (status ≡ statuses.Usage) ⊎ (status ≡ statuses.Memory) → IsRunBy chore_of None shelf shelf out out status
  idle_run shelf out status idle = record {
    usage = λ usage. refl;
    unasked = λ none. idle;
    read_fault = λ fault. absurd (other idle fault (λ a. absurd cc) (λ a. absurd cc));
    write_fault = λ fault. absurd (other idle fault (λ a. absurd cc) (λ a. absurd cc));
    shelf_rose = λ rose. absurd (omega (arith, rose));
    out_rose = λ rose. absurd (omega (arith, rose));
    shelf_never_falls = omega arith;
    out_never_falls = omega arith;
    told_stays = refl;
    fetched = (0, none_fetched idle, refl);
    lacking = λ lacks. absurd lacks;
    no_table = λ lacks. absurd lacks;
    pure = λ r refused. absurd (no_refusal r idle refused);
    ends_at_missing = λ fault. absurd (other idle fault (λ a. absurd cc) (λ a. absurd cc));
    refuses = λ r refused. absurd (no_refusal r idle refused);
    shows = λ files task told named stayed. absurd cc;
    decided = λ files task told named stayed. absurd cc;
    completes = λ files task tells told named. absurd cc;
    one_ending = λ files task d e named. absurd cc;
    output = refl;
  }
    where
      other : {s : Status} → (status ≡ statuses.Usage) ⊎ (status ≡ statuses.Memory) → status ≡ s → s ≢ statuses.Usage → s ≢ statuses.Memory → ⊥
      other (inl usage) is first second = first (sym is ∙ usage)
      other (inr memory) is first second = second (sym is ∙ memory)

      no_refusal : (r : Refusal) → (status ≡ statuses.Usage) ⊎ (status ≡ statuses.Memory) → status ≡ refused_status r → ⊥
      no_refusal r (inl usage) refused = let p = ap outcome_of (sym usage ∙ refused) ∙ refusal_told r in cc
      no_refusal r (inr memory) refused = let p = ap outcome_of (sym memory ∙ refused) ∙ refusal_told r in cc

      none_fetched : (status ≡ statuses.Usage) ⊎ (status ≡ statuses.Memory) → EndsAfter 0 0 (outcome_of status) 0
      none_fetched (inl usage) = rw usage refl
      none_fetched (inr memory) = rw memory (omega arith)

  pub usage_run : (asked : Option Task) (shelf : ShelfState) (out : SinkState) → asked ≡ None → IsRunBy chore_of asked shelf shelf out out statuses.Usage
  usage_run asked shelf out none = rw none (idle_run shelf out statuses.Usage (inl refl))

  pub memory_run : (asked : Option Task) (shelf : ShelfState) (out : SinkState) → ((task : Task) → IsDecided (chore_of task).course) → IsRunBy chore_of asked shelf shelf out out statuses.Memory
  memory_run None shelf out settled = idle_run shelf out statuses.Memory (inr refl)
  memory_run (Some task) shelf out settled = worked_run (Some task) task shelf shelf out out (Err stops.Memory) refl (settled task) (unbegun (chore_of task).files (chore_of task).course shelf out)
