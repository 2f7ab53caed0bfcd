-- Fetching a text of which no bytes are refused.
use Rattle.std.proofs.Common.{◌≡◌, ◌⊎◌, inl, inr, ℕ, ◌+◌, ◌-◌, ◌<◌, ◌≤◌, ◌^◌, List, length, Option, Some, None, Ok, refl, sym, ap, subst, ◌∙◌, arith, replicate}
use Rattle.std.proofs.lemmas.Bool.{cases_lt, le-leb}
use Rattle.std.proofs.lemmas.Bool.Decides.{leb_tells}
use Rattle.std.proofs.lemmas.List.{length-replicate}
use Rattle.ror_io.specs.Files.{Files, file, HasFile, Lacks}
use Rattle.ror_io.specs.Counts.{DidNotRise}
use Rattle.ror_bench.specs.declared.report.TheConstants.{MOST_REPORT_BYTES}
use Rattle.ror_frame.specs.States.{ShelfState}
use Rattle.ror_frame.specs.Stops.{FilePlace}
use Rattle.ror_frame.specs.Courses.{OfToldFiles, IsFetch}
use Rattle.ror_frame.proofs.FetchLemmas.{IsCalled, there}
use Rattle.ror_show_check.specs.Reading.{text_of}

abbrev pub IsText : List ℕ → Option (List ℕ) → Type 0
IsText bytes text = text ≡ text_of bytes

-- ---- whole

whole_text : (bytes : List ℕ) → length bytes ≤ MOST_REPORT_BYTES → Some bytes ≡ text_of bytes
whole_text bytes within = rw (le-leb (length bytes) MOST_REPORT_BYTES within) refl

pub brought_text : (name : List ℕ) (place : FilePlace) (a b : ShelfState) (got : List ℕ) → IsCalled name a b → b.faults ≡ a.faults → (Lacks a.told name → ⊥) → length got ≤ MOST_REPORT_BYTES → ((bytes : List ℕ) → HasFile a.told name bytes → DidNotRise a.faults b.faults → got ≡ bytes) → IsFetch name place IsText (λ bytes r. ⊥) a b (Ok (Some got))
brought_text name place a b got called same kept within found = record {
  never_falls = called.never_falls;
  told_stays = called.told_stays;
  counted = called.counted;
  missing = λ lacks. absurd (kept lacks);
  fetched = (
    same,
    got,
    (λ files is stayed.
        let here = there a.told files name is kept in
        here.1 ∙ ap (λ (bytes : List ℕ). Some bytes) (sym (found here.0 here.2 stayed))),
    whole_text got within,
  );
}

-- ---- too long

long_text : (bytes : List ℕ) → MOST_REPORT_BYTES < length bytes → None ≡ text_of bytes
long_text bytes long = elim (leb_tells (length bytes) MOST_REPORT_BYTES) [
  | inl short ↦ let few = short.1 in absurd (omega (arith, few, long))
  | inr longer ↦ rw longer.0 refl
]

-- such bytes, which are those of the file where that is told
abbrev IsLonger : ℕ → Option Files → ℕ → ℕ → List ℕ → List ℕ → Type 0
IsLonger most told before now name bytes = (most < length bytes) × OfToldFiles told before now (λ files. file files name ≡ Some bytes)

some_same : (x y : Files) → Some x ≡ Some y → x ≡ y
some_same x y e = cc

-- of any greatest length, so that no list of that length is computed
module _ (most : ℕ) where
  zeros_long : most < length {A = ℕ} (replicate (most + 1) 0)
  zeros_long = let long = length-replicate {A = ℕ} (most + 1) 0 in omega (arith, long)

  untold : (before now : ℕ) (told : Option Files) (name : List ℕ) → ((files : Files) → told ≡ Some files → DidNotRise before now → ⊥) → (bytes : List ℕ) × IsLonger most told before now name bytes
  untold before now told name never = (replicate (most + 1) 0, (zeros_long, λ files is stayed. absurd (never files is stayed)))

  longer : (a b : ShelfState) (name : List ℕ) (told : Option Files) → a.told ≡ told → b.faults ≡ a.faults → (Lacks a.told name → ⊥) → ((bytes : List ℕ) → HasFile a.told name bytes → DidNotRise a.faults b.faults → most < length bytes) → (a.faults < 2 ^ 64 - 1) ⊎ (2 ^ 64 - 1 ≤ a.faults) → (bytes : List ℕ) × IsLonger most a.told a.faults b.faults name bytes
  longer a b name None is same kept found below = untold a.faults b.faults a.told name (λ files told stayed. let p = is in let q = told in absurd cc)
  longer a b name (Some files) is same kept found (inl below) =
      let here = there a.told files name is kept in
      (here.0, (found here.0 here.2 (same, below), λ others told stayed. subst (λ (fs : Files). file fs name ≡ Some here.0) (some_same files others (sym is ∙ told)) here.1))
  longer a b name (Some files) is same kept found (inr top) = untold a.faults b.faults a.told name (λ others told stayed. let less = stayed.1 in omega (arith, less, top))

pub brought_longer : (name : List ℕ) (place : FilePlace) (a b : ShelfState) → IsCalled name a b → b.faults ≡ a.faults → (Lacks a.told name → ⊥) → ((bytes : List ℕ) → HasFile a.told name bytes → DidNotRise a.faults b.faults → MOST_REPORT_BYTES < length bytes) → IsFetch name place IsText (λ bytes r. ⊥) a b (Ok None)
brought_longer name place a b called same kept found =
    let bytes = longer MOST_REPORT_BYTES a b name a.told refl same kept found (cases_lt a.faults (2 ^ 64 - 1)) in
    record {
      never_falls = called.never_falls;
      told_stays = called.told_stays;
      counted = called.counted;
      missing = λ lacks. absurd (kept lacks);
      fetched = (same, bytes.0, bytes.1.1, long_text bytes.0 bytes.1.0);
    }
