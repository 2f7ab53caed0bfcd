use Rattle.std.proofs.Common.{◌≡◌, ◌≢◌, ℕ, Bool, ◌+◌, ◌<◌, ◌⊎◌, List, [], ◌∷◌, length, Option, Some, None, Ok, Err, refl, sym, ◌∙◌, ap, subst, inl, inr, arith}
use Rattle.std.specs.Prelude.{zero, suc}
use Rattle.ror_io.specs.Files.{Files, file, Lacks}
use Rattle.ror_io.specs.Counts.{Rose, DidNotRise, next_count, count_after}
use Rattle.ror_io.proofs.CountLemmas.{never_both}
use Rattle.ror_frame.specs.declared.stop.Stop.{Stop}
use Rattle.ror_frame.specs.declared.stop.Stop.TheVariants as stops
use Rattle.ror_frame.specs.States.{ShelfState, SinkState, shelf_state}
use Rattle.ror_frame.specs.Stops.{Outcome, FilePlace, counted, last, IsPlace, place_of}
use Rattle.ror_frame.specs.declared.stop.Refusal.{Refusal}
use Rattle.ror_frame.specs.Inputs.{line_output}
use Rattle.ror_frame.specs.Courses.{Output, Course, finish, fetch, Ending, missing, refused, done, Leads, Ends, MayRefuse, OfToldFiles, Reaches, Writes, EndsAfter, LacksOne, CountsWrites, IsPure, Fetched, IsFetch, WritesDue, IsWork}

-- bytes are read or refused in one way
abbrev pub IsDecided : Course → Type 0
IsDecided (finish output) = Unit {0}
IsDecided (fetch A name Reads Refuses next) = (bytes : List ℕ)
    → ((x y : A) → Reads bytes x → Reads bytes y → x ≡ y)
    × ((q r : Refusal) → Refuses bytes q → Refuses bytes r → q ≡ r)
    × ((x : A) (r : Refusal) → Reads bytes x → Refuses bytes r → ⊥)
    × ((x : A) → Reads bytes x → IsDecided (next bytes x))

pub one_ending : (files : Files) (course : Course) (d e : Ending) → IsDecided course → Leads files course d → Leads files course e → d ≡ e
one_ending files (finish output) d e decided first second = first ∙ sym second
one_ending files (fetch A name Reads Refuses next) d e decided (inl none) (inl gone) = none.1 ∙ sym gone.1
one_ending files (fetch A name Reads Refuses next) d e decided (inl none) (inr there) = let p = none.0 in let q = there.1 in absurd cc
one_ending files (fetch A name Reads Refuses next) d e decided (inr there) (inl none) = let p = none.0 in let q = there.1 in absurd cc
one_ending files (fetch A name Reads Refuses next) d e decided (inr here) (inr there) =
    let p = here.1 in
    let q = there.1 in
    let same : there.0 ≡ here.0 = cc in
    by (λ x reads q f. one_ending files (next here.0 x) d e ((decided here.0).3 x reads) q f) here.2 (subst (λ (bytes : List ℕ). ((r : Refusal) × Refuses bytes r × (e ≡ refused r)) ⊎ ((x : A) × Reads bytes x × Leads files (next bytes x) e)) same there.2)
  where
    by : ((x : A) → Reads here.0 x → Leads files (next here.0 x) d → Leads files (next here.0 x) e → d ≡ e) → ((r : Refusal) × Refuses here.0 r × (d ≡ refused r)) ⊎ ((x : A) × Reads here.0 x × Leads files (next here.0 x) d) → ((r : Refusal) × Refuses here.0 r × (e ≡ refused r)) ⊎ ((x : A) × Reads here.0 x × Leads files (next here.0 x) e) → d ≡ e
    by rest (inl a) (inl b) = a.2 ∙ ap refused ((decided here.0).1 a.0 b.0 a.1 b.1) ∙ sym b.2
    by rest (inl a) (inr b) = absurd ((decided here.0).2 b.0 a.0 b.1 a.1)
    by rest (inr a) (inl b) = absurd ((decided here.0).2 a.0 b.0 a.1 b.1)
    by rest (inr a) (inr b) =
        let same = (decided here.0).0 b.0 a.0 b.1 a.1 in
        rest a.0 a.1 a.2 (subst (λ (x : A). Leads files (next here.0 x) e) same b.2)

-- ---- the work of a course

-- where a file was read, the shelf counts one fetch more, and nothing else changed
after_read : {A : Type 0} (name : List ℕ) (place : FilePlace) (Reads : List ℕ → A → Type 0) (Refuses : List ℕ → Refusal → Type 0) (a b : ShelfState) (x : A) → IsFetch name place Reads Refuses a b (Ok x) → b ≡ shelf_state a.told a.faults (next_count a.fetches)
after_read name place Reads Refuses a b x fetched =
    let told = fetched.told_stays in
    let faults = fetched.fetched.0 in
    let count = fetched.counted in
    same b.told a.told b.faults a.faults b.fetches (next_count a.fetches) told faults count
  where
    same : (t u : Option Files) (f g m n : ℕ) → t ≡ u → f ≡ g → m ≡ n → shelf_state t f m ≡ shelf_state u g n
    same t u f g m n p q r = cc

one_more : (n count : ℕ) → count_after n (next_count count) ≡ next_count (count_after n count)
one_more zero count = refl
one_more (suc n) count = ap next_count (one_more n count)

-- memory ran out before a next file was fetched
pub ran_short : (place : ℕ) (names : List (List ℕ)) (course : Course) (shelf : ShelfState) (out : SinkState) → IsWork place names course shelf shelf out out (Err stops.Memory)
ran_short place names course shelf out = record {
  never_falls = omega arith;
  told_stays = refl;
  fetched = (0, omega arith, refl);
  read_fault = λ is. absurd cc;
  rose = λ rose. absurd (omega (arith, rose));
  lacking = λ lacks. refl;
  first_lacking = λ lacks. inr (refl, refl);
  ends_at_missing = λ is. absurd cc;
  refuses = λ r is. absurd cc;
  pure = tt;
  shows = λ files is stayed other. absurd (other refl);
  writes = refl;
  output = inl refl;
}

-- and before anything was
pub unbegun : (names : List (List ℕ)) (course : Course) (shelf : ShelfState) (out : SinkState) → IsWork 0 names course shelf shelf out out (Err stops.Memory)
unbegun names course shelf out = ran_short 0 names course shelf out

-- what is said of work that stops at its first file
record IsStopped (course : Course) (name : List ℕ) (place : ℕ) (names : List (List ℕ)) (a b : ShelfState) (out : SinkState) (e : Stop) : Type 0 where
  after : EndsAfter place (length (name ∷ names)) (Some (Err e)) 1
  cause : e ≡ stops.ReadFault → Rose a.faults b.faults ⊎ LacksOne a.told (name ∷ names)
  rises : a.faults < b.faults → e ≡ stops.ReadFault
  lacks_it : e ≡ stops.ReadFault → OfToldFiles a.told a.faults b.faults (λ files. file files name ≡ None)
  refuses : (r : Refusal) → e ≡ stops.At r → MayRefuse r course
  pure : IsPure (Err e)
  shown : (files : Files) → a.told ≡ Some files → DidNotRise a.faults b.faults → e ≢ stops.Memory → (d : Ending) × Leads files course d × Ends d (Some (Err e))
  unwritten : CountsWrites out.faults out.faults (Err e)
  nothing : Writes a.told a.faults b.faults course out.written out.written (Err e)

-- the work stops at a file
pub stopped : {A : Type 0} (name : List ℕ) (place : ℕ) (names : List (List ℕ)) (at : FilePlace) (Reads : List ℕ → A → Type 0) (Refuses : List ℕ → Refusal → Type 0) (next : List ℕ → A → Course) (a b : ShelfState) (out : SinkState) (e : Stop) → IsPlace at (place + 1) (place + length (name ∷ names)) → IsFetch name at Reads Refuses a b (Err e) → IsWork place (name ∷ names) (fetch A name Reads Refuses next) a b out out (Err e)
stopped {A} name place names at Reads Refuses next a b out e placed fetched =
    let had = by e fetched.fetched in
    record {
      never_falls = fetched.never_falls;
      told_stays = fetched.told_stays;
      fetched = (1, had.after, fetched.counted);
      read_fault = λ is. had.cause (let p = is in cc);
      rose = λ rose. let p = had.rises rose in cc;
      lacking = λ lacks. refl;
      first_lacking = λ lacks. inl (let p = fetched.missing lacks in cc, fetched.counted);
      ends_at_missing = λ fault files is stayed. (1, inl (had.lacks_it (let p = fault in cc) files is stayed, refl), fetched.counted);
      refuses = λ r refused. had.refuses r (let p = refused in cc);
      pure = had.pure;
      shows = λ files is stayed other. had.shown files is stayed (λ same. other (let p = same in cc));
      writes = had.unwritten;
      output = had.nothing;
    }
  where
    by : (e : Stop) → Fetched {A = A} name at Reads Refuses a.told a.faults b.faults (Err e) → IsStopped (fetch A name Reads Refuses next) name place names a b out e
    by (stops.At r) had = record {
      after = (subst (λ (p : FilePlace). IsPlace p (place + 1) (place + length (name ∷ names))) (sym had.1) placed, omega arith);
      cause = λ is. absurd cc;
      rises = λ rose. absurd (let same = had.0 in omega (arith, same, rose));
      lacks_it = λ is. absurd cc;
      refuses = λ q is. inl (had.3.0, subst (Refuses had.3.0) (let p = is in cc) had.3.1);
      pure = had.2;
      shown = λ files is stayed other. let found = had.4 files is stayed in (refused r, inr (found.0, found.1, inl (r, found.2, refl)), refl);
      unwritten = refl;
      nothing = refl;
    }
    by stops.ReadFault had = record {
      after = (omega arith, omega arith);
      cause = λ is. elim had [ inl rose ↦ inl rose | inr lacks ↦ inr (inl lacks) ];
      rises = λ rose. refl;
      lacks_it = λ is files told stayed. elim had [ inl rose ↦ absurd (never_both a.faults b.faults rose stayed) | inr lacks ↦ subst (λ (t : Option Files). Lacks t name) told lacks ];
      refuses = λ r is. absurd cc;
      pure = tt;
      shown = λ files is stayed other. elim had [ inl rose ↦ absurd (never_both a.faults b.faults rose stayed) | inr lacks ↦ (missing, inl (subst (λ (t : Option Files). Lacks t name) is lacks, refl), refl) ];
      unwritten = refl;
      nothing = refl;
    }
    by stops.WriteFault had = absurd had
    by stops.Memory had = record {
      after = omega arith;
      cause = λ is. absurd cc;
      rises = λ rose. absurd (omega (arith, had, rose));
      lacks_it = λ is. absurd cc;
      refuses = λ r is. absurd cc;
      pure = tt;
      shown = λ files is stayed other. absurd (other refl);
      unwritten = refl;
      nothing = inl refl;
    }

-- nothing is fetched any more: an output is due
pub finished : (place : ℕ) (output : Output) (shelf : ShelfState) (old new : SinkState) (outcome : Outcome) → WritesDue output old new outcome → IsWork place [] (finish output) shelf shelf old new outcome
finished place output shelf old new outcome due =
    let had = by outcome due in
    record {
      never_falls = omega arith;
      told_stays = refl;
      fetched = (0, had.0, refl);
      read_fault = λ is. absurd (subst (WritesDue output old new) is due);
      rose = λ rose. absurd (omega (arith, rose));
      lacking = λ lacks. absurd lacks;
      first_lacking = λ lacks. absurd lacks;
      ends_at_missing = λ is. absurd (subst (WritesDue output old new) is due);
      refuses = λ r is. absurd (subst (WritesDue output old new) is due);
      pure = had.1;
      shows = λ files is stayed other. (done output.tells, refl, had.2 other);
      writes = had.3;
      output = had.4;
    }
  where
    by : (outcome : Outcome) → WritesDue output old new outcome → EndsAfter place 0 (Some outcome) 0 × IsPure outcome × (outcome ≢ Err stops.Memory → Ends (done output.tells) (Some outcome)) × CountsWrites old.faults new.faults outcome × Writes shelf.told shelf.faults shelf.faults (finish output) old.written new.written outcome
    by (Ok wide) due = (refl, tt, (λ other. due.1), due.0, (due.2, due.3, due.4))
    by (Err (stops.At r)) due = absurd due
    by (Err stops.ReadFault) due = absurd due
    by (Err stops.WriteFault) due = (refl, tt, (λ other. tt), (due.0, due.1), (due.2, due.3, due.4))
    by (Err stops.Memory) (inl same) = let p = same in (omega arith, tt, (λ other. absurd (other refl)), cc, inl cc)
    by (Err stops.Memory) (inr due) = (omega arith, tt, (λ other. absurd (other refl)), due.0, inr (due.1, due.2, due.3, due.4, due.5))

-- a file was read, and the work went on
pub went_on : {A : Type 0} (name : List ℕ) (place : ℕ) (names : List (List ℕ)) (at : FilePlace) (Reads : List ℕ → A → Type 0) (Refuses : List ℕ → Refusal → Type 0) (next : List ℕ → A → Course) (a b c : ShelfState) (old new : SinkState) (x : A) (outcome : Outcome) → (fetched : IsFetch name at Reads Refuses a b (Ok x)) → IsWork (place + 1) names (next fetched.fetched.1 x) b c old new outcome → IsWork place (name ∷ names) (fetch A name Reads Refuses next) a c old new outcome
went_on {A} name place names at Reads Refuses next a b c old new x outcome fetched went =
    let work = subst (λ (s : ShelfState). IsWork (place + 1) names (next fetched.fetched.1 x) s c old new outcome) (after_read name at Reads Refuses a b x fetched) went in
    record {
      never_falls = work.never_falls;
      told_stays = work.told_stays;
      fetched = (suc work.fetched.0, after outcome work.fetched.0 work.fetched.1, work.fetched.2 ∙ one_more work.fetched.0 a.fetches);
      read_fault = λ is. elim (work.read_fault is) [ inl rose ↦ inl rose | inr lacks ↦ inr (inr lacks) ];
      rose = work.rose;
      lacking = λ lacks. elim lacks [ inl here ↦ absurd (let p = fetched.missing here in cc) | inr later ↦ work.lacking later ];
      first_lacking = λ lacks. absurd (let p = fetched.missing lacks in cc);
      ends_at_missing = λ fault files is stayed.
          let found = work.ends_at_missing fault files is stayed in
          (suc found.0, inr (fetched.fetched.1, fetched.fetched.2 files is (fetched.fetched.0, stayed.1), found.0, omega arith, found.1), found.2 ∙ one_more found.0 a.fetches);
      refuses = λ r is. inr (fetched.fetched.1, x, fetched.fetched.3, work.refuses r is);
      pure = work.pure;
      shows = λ files is stayed other.
          let rest = work.shows files is stayed other in
          (rest.0, inr (fetched.fetched.1, fetched.fetched.2 files is (fetched.fetched.0, stayed.1), inr (x, fetched.fetched.3, rest.1)), rest.2);
      writes = work.writes;
      output = written outcome work.output;
    }
  where
    later : (p : FilePlace) (n : ℕ) → IsPlace p (place + 1 + n) (place + 1 + length names) → IsPlace p (place + suc n) (place + length (name ∷ names))
    later (counted k) n had = omega (arith, had)
    later last n had = omega (arith, had)

    after : (outcome : Outcome) (n : ℕ) → EndsAfter (place + 1) (length names) (Some outcome) n → EndsAfter place (length (name ∷ names)) (Some outcome) (suc n)
    after (Ok wide) n had = omega (arith, had)
    after (Err (stops.At r)) n had = (later (place_of r) n had.0, omega (arith, had.1))
    after (Err stops.ReadFault) n had = (omega arith, omega (arith, had.1))
    after (Err stops.WriteFault) n had = omega (arith, had)
    after (Err stops.Memory) n had = omega (arith, had)

    reached : (P : Output → Type 0) → Reaches a.told a.faults c.faults (next fetched.fetched.1 x) P → Reaches a.told a.faults c.faults (fetch A name Reads Refuses next) P
    reached P rest = (fetched.fetched.1, (λ files is stayed. fetched.fetched.2 files is (fetched.fetched.0, stayed.1)), x, fetched.fetched.3, rest)

    written : (outcome : Outcome) → Writes a.told a.faults c.faults (next fetched.fetched.1 x) old.written new.written outcome → Writes a.told a.faults c.faults (fetch A name Reads Refuses next) old.written new.written outcome
    written (Ok wide) had = reached _ had
    written (Err (stops.At r)) had = had
    written (Err stops.ReadFault) had = had
    written (Err stops.WriteFault) had = reached _ had
    written (Err stops.Memory) (inl same) = inl same
    written (Err stops.Memory) (inr had) = inr (reached _ had)

-- what holds besides where a line was written
pub line_holds : (wide : Bool) (line : List ℕ) (Holds : Type 0) (old new : SinkState) (outcome : Outcome) → Holds → WritesDue (line_output wide line (Unit {0})) old new outcome → WritesDue (line_output wide line Holds) old new outcome
line_holds wide line Holds old new (Ok w) holds due = (due.0, due.1, due.2, (due.3.0, due.3.1, holds), due.4)
line_holds wide line Holds old new (Err (stops.At r)) holds due = due
line_holds wide line Holds old new (Err stops.ReadFault) holds due = due
line_holds wide line Holds old new (Err stops.WriteFault) holds due = due
line_holds wide line Holds old new (Err stops.Memory) holds due = due
