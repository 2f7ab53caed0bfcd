-- Fetching a file and reading its bytes.
use Rattle.std.proofs.Common.{◌≡◌, ℕ, ◌+◌, ◌<◌, ◌≤◌, ◌⊎◌, List, length, Option, Some, None, Result, Ok, Err, refl, sym, inr, ◌∙◌, subst, arith}
use Rattle.std.specs.Prelude.{replicate}
use Rattle.std.proofs.lemmas.List.{length-replicate}
use Rattle.std.specs.declared.vec.Vec.{Vec}
use Rattle.ror_io.specs.Files.{Files, file, HasFile, Lacks}
use Rattle.ror_io.specs.Counts.{Rose, DidNotRise, next_count}
use Rattle.ror_io.specs.Fetching.{OnFailed, UnlessFailed}
use Rattle.ror_io.specs.declared.shelf.ShelfFault.{ShelfFault}
use Rattle.ror_io.specs.declared.shelf.ShelfFault.TheVariants as shelf_faults
use Rattle.ror_bench.specs.declared.report.TheConstants.{MOST_REPORT_BYTES}
use Rattle.ror_frame.specs.declared.stop.Refusal.{Refusal}
use Rattle.ror_frame.specs.declared.stop.Stop.{Stop}
use Rattle.ror_frame.specs.declared.stop.Stop.TheVariants as stops
use Rattle.ror_frame.specs.States.{ShelfState}
use Rattle.ror_frame.specs.Stops.{FilePlace, counted, last, stop_at_shelf, place_of, HidesNone}
use Rattle.ror_frame.specs.Courses.{Fetched, IsFetch, IsWhole, IsTooLong, ReadAs}
use Rattle.ror_frame.specs.declared.stop.Refusal.TheVariants as refusals
use Rattle.ror_frame.specs.Inputs.{ReadsSession, RefusesSession, ReadsSuited, RefusesSuited}
use Rattle.ror_session.specs.declared.session.Line.{Line}
use Rattle.ror_session.specs.declared.session.Session.{Session}

-- what the shelf says of each fetch
pub record IsCalled (name : List ℕ) (before now : ShelfState) : Type 0 where
  pub never_falls : before.faults ≤ now.faults
  pub told_stays : now.told ≡ before.told
  pub counted : now.fetches ≡ next_count before.fetches

-- a fetch that brought nothing
pub brought_nothing : {A : Type 0} (name : List ℕ) (place : FilePlace) (Reads : List ℕ → A → Type 0) (Refuses : List ℕ → Refusal → Type 0) (a b : ShelfState) (fault : ShelfFault) → IsCalled name a b → OnFailed (Err fault) (Rose a.faults b.faults ⊎ Lacks a.told name) → (Lacks a.told name → fault ≡ shelf_faults.Failed) → UnlessFailed (Err fault) (b.faults ≡ a.faults) → IsFetch {A = A} name place Reads Refuses a b (Err (stop_at_shelf fault))
brought_nothing {A} name place Reads Refuses a b shelf_faults.Failed called failed missing other =
    record { never_falls = called.never_falls; told_stays = called.told_stays; counted = called.counted; missing = λ lacks. refl; fetched = failed }
brought_nothing {A} name place Reads Refuses a b shelf_faults.Memory called failed missing other =
    record { never_falls = called.never_falls; told_stays = called.told_stays; counted = called.counted; missing = λ lacks. absurd (let p = missing lacks in cc); fetched = other }

-- what is not missing is there
pub found_or : (found : Option (List ℕ)) → (found ≡ None → ⊥) → (bytes : List ℕ) × (found ≡ Some bytes)
found_or None there = absurd (there refl)
found_or (Some bytes) there = (bytes, refl)

pub there : (told : Option Files) (files : Files) (name : List ℕ) → told ≡ Some files → (Lacks told name → ⊥) → (bytes : List ℕ) × (file files name ≡ Some bytes) × HasFile told name bytes
there told files name is kept =
    let found = found_or (file files name) (λ none. kept (subst (λ (t : Option Files). Lacks t name) (sym is) none)) in
    (found.0, found.1, subst (λ (t : Option Files). HasFile t name found.0) (sym is) found.1)

-- one that brought the file
pub brought_whole : {Y : Type 0} (name : List ℕ) (place : FilePlace) (most : ℕ) (why : Refusal) (a b : ShelfState) (got : Vec ℕ Y) → IsCalled name a b → b.faults ≡ a.faults → (Lacks a.told name → ⊥) → length got.items ≤ most → ((bytes : List ℕ) → HasFile a.told name bytes → DidNotRise a.faults b.faults → got.items ≡ bytes) → IsFetch name place (IsWhole most) (IsTooLong most why) a b (Ok got)
brought_whole {Y} name place most why a b got called same kept within found = record {
  never_falls = called.never_falls;
  told_stays = called.told_stays;
  counted = called.counted;
  missing = λ lacks. absurd (kept lacks);
  fetched = (
    same,
    got.items,
    (λ files is stayed.
        let here = there a.told files name is kept in
        here.1 ∙ some (sym (found here.0 here.2 stayed))),
    (refl, within),
  );
}
  where
    some : {xs ys : List ℕ} → xs ≡ ys → Some xs ≡ Some ys
    some p = cc

-- one that found it too long
pub brought_longer : {A : Type 0} (name : List ℕ) (Reads : List ℕ → A → Type 0) (most : ℕ) (why : Refusal) (a b : ShelfState) → HidesNone why → IsCalled name a b → b.faults ≡ a.faults → (Lacks a.told name → ⊥) → ((bytes : List ℕ) → HasFile a.told name bytes → DidNotRise a.faults b.faults → most < length bytes) → IsFetch {A = A} name (place_of why) Reads (IsTooLong most why) a b (Err (stops.At why))
brought_longer {A} name Reads most why a b pure called same kept found = record {
  never_falls = called.never_falls;
  told_stays = called.told_stays;
  counted = called.counted;
  missing = λ lacks. absurd (kept lacks);
  fetched = (
    same,
    refl,
    pure,
    (replicate (most + 1) 0, (refl, let long = length-replicate {A = ℕ} (most + 1) 0 in omega (arith, long))),
    λ files is stayed.
        let here = there a.told files name is kept in
        (here.0, here.1, (refl, found here.0 here.2 stayed)),
  );
}

-- where nothing was read, it matters not as what it would have been
pub stopped_there : {A B : Type 0} (name : List ℕ) (place : FilePlace) (Had : List ℕ → A → Type 0) (Refused : List ℕ → Refusal → Type 0) (Reads : List ℕ → B → Type 0) (Refuses : List ℕ → Refusal → Type 0) (a b : ShelfState) (e : Stop) → ((bytes : List ℕ) (r : Refusal) → Refused bytes r → Refuses bytes r) → IsFetch name place Had Refused a b (Err e) → IsFetch name place Reads Refuses a b (Err e)
stopped_there {A} {B} name place Had Refused Reads Refuses a b e weaker fetch =
    record { never_falls = fetch.never_falls; told_stays = fetch.told_stays; counted = fetch.counted; missing = λ lacks. let p = fetch.missing lacks in cc; fetched = by e fetch.fetched }
  where
    by : (e : Stop) → Fetched {A = A} name place Had Refused a.told a.faults b.faults (Err e) → Fetched {A = B} name place Reads Refuses a.told a.faults b.faults (Err e)
    by (stops.At r) had = (had.0, had.1, had.2, (had.3.0, weaker had.3.0 r had.3.1), λ files is stayed. let found = had.4 files is stayed in (found.0, found.1, weaker found.0 r found.2))
    by stops.ReadFault had = had
    by stops.WriteFault had = had
    by stops.Memory had = had

-- and what was fetched whole was read
pub read_there : {A Y : Type 0} (name : List ℕ) (place : FilePlace) (most : ℕ) (Refused : List ℕ → Refusal → Type 0) (Reads : List ℕ → A → Type 0) (Refuses : List ℕ → Refusal → Type 0) (a b : ShelfState) (got : Vec ℕ Y) (result : Result A Stop) → IsFetch name place (IsWhole most) Refused a b (Ok got) → ReadAs place Reads Refuses got.items result → IsFetch name place Reads Refuses a b result
read_there {A} {Y} name place most Refused Reads Refuses a b got result fetch reads =
    record { never_falls = fetch.never_falls; told_stays = fetch.told_stays; counted = fetch.counted; missing = λ lacks. absurd (let p = fetch.missing lacks in cc); fetched = by result (subst (λ (bytes : List ℕ). ReadAs place Reads Refuses bytes result) fetch.fetched.3.0 reads) }
  where
    by : (result : Result A Stop) → ReadAs place Reads Refuses fetch.fetched.1 result → Fetched name place Reads Refuses a.told a.faults b.faults result
    by (Ok x) reads = (fetch.fetched.0, fetch.fetched.1, fetch.fetched.2, reads)
    by (Err (stops.At r)) reads = (fetch.fetched.0, reads.0, reads.1, (fetch.fetched.1, reads.2), λ files is stayed. (fetch.fetched.1, fetch.fetched.2 files is stayed, reads.2))
    by (Err stops.ReadFault) reads = absurd reads
    by (Err stops.WriteFault) reads = absurd reads
    by (Err stops.Memory) reads = fetch.fetched.0

-- ---- a report that was fetched whole

-- has no more bytes than one may have
pub short_report : {Y : Type 0} (name bytes : List ℕ) (Refused : List ℕ → Refusal → Type 0) (a b : ShelfState) (got : Vec ℕ Y) → bytes ≡ got.items → IsFetch name last (IsWhole MOST_REPORT_BYTES) Refused a b (Ok got) → length bytes ≤ MOST_REPORT_BYTES
short_report name bytes Refused a b got same fetch = subst (λ (read : List ℕ). length read ≤ MOST_REPORT_BYTES) (sym (same ∙ fetch.fetched.3.0)) fetch.fetched.3.1

-- and was judged by them
pub judged_report : {A Y : Type 0} (name bytes : List ℕ) (Refused : List ℕ → Refusal → Type 0) (Reads : List ℕ → A → Type 0) (Refuses : List ℕ → Refusal → Type 0) (a b : ShelfState) (got : Vec ℕ Y) (result : Result A Stop) → bytes ≡ got.items → IsFetch name last (IsWhole MOST_REPORT_BYTES) Refused a b (Ok got) → ReadAs last Reads Refuses bytes result → IsFetch name last Reads Refuses a b result
judged_report name bytes Refused Reads Refuses a b got result same fetch reads =
    read_there name last MOST_REPORT_BYTES Refused Reads Refuses a b got result fetch (subst (λ (read : List ℕ). ReadAs last Reads Refuses read result) same reads)

-- ---- a session that was read

-- has no unsuited line
pub suited_there : (IsFirstUnsuited : List Line → ℕ → Type 0) (name : List ℕ) (a b : ShelfState) (s : Session) → ((line : ℕ) → IsFirstUnsuited s.lines line → ⊥) → IsFetch name (counted 2) ReadsSession RefusesSession a b (Ok s) → IsFetch name (counted 2) (ReadsSuited IsFirstUnsuited) (RefusesSuited IsFirstUnsuited) a b (Ok s)
suited_there IsFirstUnsuited name a b s none fetch = record {
  never_falls = fetch.never_falls;
  told_stays = fetch.told_stays;
  counted = fetch.counted;
  missing = λ lacks. absurd (let p = fetch.missing lacks in cc);
  fetched = (fetch.fetched.0, fetch.fetched.1, fetch.fetched.2, (fetch.fetched.3, none));
}

-- or has one
pub unsuited_there : (IsFirstUnsuited : List Line → ℕ → Type 0) (name : List ℕ) (a b : ShelfState) (s : Session) (line : ℕ) → IsFirstUnsuited s.lines line → IsFetch name (counted 2) ReadsSession RefusesSession a b (Ok s) → IsFetch {A = Session} name (counted 2) (ReadsSuited IsFirstUnsuited) (RefusesSuited IsFirstUnsuited) a b (Err (stops.At (refusals.Unsuited line)))
unsuited_there IsFirstUnsuited name a b s line first fetch = record {
  never_falls = fetch.never_falls;
  told_stays = fetch.told_stays;
  counted = fetch.counted;
  missing = λ lacks. absurd (let p = fetch.missing lacks in cc);
  fetched = (
    fetch.fetched.0,
    refl,
    tt,
    (fetch.fetched.1, inr (s, line, fetch.fetched.3, first, refl)),
    λ files is stayed. (fetch.fetched.1, fetch.fetched.2 files is stayed, inr (s, line, fetch.fetched.3, first, refl)),
  );
}
