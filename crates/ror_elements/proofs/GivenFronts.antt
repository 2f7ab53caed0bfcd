-- What was read of a front, behind which any construct may begin.
use Rattle.std.proofs.Common.{◌≡◌, ℕ, List, [], ◌∷◌, ◌++◌, append_assoc, Ok, Err, refl, sym, ap, subst, ◌∙◌, arith, inl, inr}
use Rattle.std.specs.Prelude.{◌⊎◌}
use Rattle.std.specs.List.{AllByRecursion}
use Rattle.std.specs.Str.{IsUtf8}
use Rattle.ror_elements.specs.declared.element.ElementKind.{ElementKind}
use Rattle.ror_elements.specs.declared.mode.Mode.{Mode}
use Rattle.ror_elements.specs.declared.mode.Mode.TheVariants as modes
use Rattle.ror_elements.specs.declared.open.Open.{Open}
use Rattle.ror_elements.specs.declared.reader.Reader.{Reader}
use Rattle.ror_elements.specs.Elements.{elements_of, without_mark}
use Rattle.ror_elements.specs.Faults.{fault}
use Rattle.ror_elements.specs.Grammar.{IsName, line_behind}
use Rattle.ror_elements.specs.Laws.{IsReached}
use Rattle.ror_elements.specs.Reader.{nothing_read, whole_text}
use Rattle.ror_elements.specs.Refusals.{IsClean, IsFromRoot, IsFront, StandsAt}
use Rattle.ror_elements.proofs.FaultFronts.{reached-holds, run_on}
use Rattle.ror_elements.proofs.FaultWords.{AtMode, open_names}
use Rattle.ror_elements.proofs.GivenFaults.{KnownOpen, known_open, front_clean, clean_append, reached_by, start_only, open_is_content}
use Rattle.ror_elements.proofs.GivenForm.{led}
use Rattle.ror_elements.proofs.GivenReferences.{given_by}
use Rattle.ror_elements.proofs.LawLemmas.{lines_are_counted, without_mark-IsUtf8}
use Rattle.ror_elements.proofs.PlainReader.{run, same_part}
use Rattle.ror_elements.proofs.Runs.{at}
use Rattle.ror_elements.proofs.StartRuns.{as_anywhere}
use Rattle.ror_elements.proofs.TextLemmas.{cut_front, nothing-kept}

-- the first bytes of a text that is UTF-8
pub reached_part : (front rest : List ℕ) (r : Reader) → IsUtf8 (front ++ rest) → IsClean front → run nothing_read front ≡ Ok r → IsReached front r
unfolding run
reached_part front rest r u clean e = same_part [] front rest nothing_read u nothing-kept clean ∙ e

-- each element that is open has a name
pub all_named : (front : List ℕ) (names : List (List ℕ)) → IsFront front names → AllByRecursion IsName names
all_named front names (IsFront.before_root h) = tt
all_named front names (IsFront.from_root some h) = h.named

pub record Leads (front : List ℕ) (names : List (List ℕ)) : Type 0 where
  pub top : Open
  pub below : List Open
  pub like : Reader
  pub named : open_names top below ≡ names
  pub runs : (byte : ℕ) (more : List ℕ) → ¬ (byte ≡ 63) → run nothing_read (front ++ 60 ∷ byte ∷ more) ≡ run (at modes.Content (line_behind 1 front) top below like) (60 ∷ byte ∷ more)

-- where nothing was read nothing is open
no_start : (front : List ℕ) (names : List (List ℕ)) → (k : KnownOpen front names) → IsReached front k.reader → k.reader.mode ≡ modes.Start → names ≡ []
no_start front [] k reached is = refl
no_start front (name ∷ names) k reached is = absurd (differ (sym is ∙ open_is_content front name names k reached))
  where
    differ : ◌≡◌ {A = Mode} modes.Start modes.Content → ⊥
    differ e = absurd cc

from_root_leads : (front : List ℕ) (names : List (List ℕ)) → IsUtf8 front → IsFromRoot front names → Leads front names
from_root_leads front names u h = by k.mode
  where
    k : KnownOpen front names
    k = known_open front names h

    reached : IsReached front k.reader
    reached = reached_by front k.reader u h.clean k.runs

    by : (k.reader.mode ≡ modes.Start) ⊎ (k.reader.mode ≡ modes.Content) → Leads front names
    by (inl is) =
        subst (λ (xs : List (List ℕ)). Leads front xs) (sym (no_start front names k reached is))
        (subst (λ (xs : List ℕ). Leads xs []) (sym (start_only front k.reader reached is)) (record { top = whole_text; below = []; like = nothing_read; named = refl; runs = λ byte more other. as_anywhere byte more other }))
    by (inr is) = record {
      top = k.reader.top;
      below = k.reader.below;
      like = k.reader;
      named = k.opened is;
      runs = λ byte more other.
          run_on front (60 ∷ byte ∷ more) k.reader k.runs
          ∙ ap (λ (m : Mode). run (record k.reader { mode = m }) (60 ∷ byte ∷ more)) is
          ∙ ap (λ l. run (at modes.Content l k.reader.top k.reader.below k.reader) (60 ∷ byte ∷ more)) (lines_are_counted front k.reader reached);
    }

pub leads : (front : List ℕ) (names : List (List ℕ)) → IsUtf8 front → IsFront front names → Leads front names
leads front names u (IsFront.before_root h) = let l = led front u h in record { top = l.top; below = []; like = l.like; named = refl; runs = l.runs }
leads front names u (IsFront.from_root some h) = from_root_leads front some u h

-- a fault of what begins with `<` and no `?`
pub led_given : (bytes : List ℕ) (line : ℕ) (names : List (List ℕ)) (byte : ℕ) (more : List ℕ) (kind : ElementKind) → IsUtf8 bytes → ¬ (byte ≡ 63) → (s : StandsAt (without_mark bytes) line names (60 ∷ byte ∷ more))
    → ((l : ℕ) (top : Open) (below : List Open) (j : Reader) → open_names top below ≡ names → run (at modes.Content l top below j) (60 ∷ byte ∷ more) ≡ Err (fault kind l)) → elements_of bytes ≡ Err (fault kind line)
led_given bytes line names byte more kind u other s h =
    let piece = 60 ∷ byte ∷ more in
    let l = leads s.front names (cut_front s.front (byte ∷ more ++ s.after) 60 (omega arith) (subst IsUtf8 s.whole (without_mark-IsUtf8 bytes u))) s.is_front in
    given_by bytes (s.front ++ piece) s.after (fault kind line) u
    (s.whole ∙ sym (append_assoc s.front piece s.after)) (clean_append s.front piece (front_clean s.front names s.is_front) s.clean)
    (l.runs byte more other ∙ h (line_behind 1 s.front) l.top l.below l.like l.named ∙ ap (λ n. Err (fault kind n)) (sym s.is_line))

-- ---- where nothing is open

pub record Outside (front : List ℕ) : Type 0 where
  pub reader : Reader
  pub runs : run nothing_read front ≡ Ok reader
  pub mode : (reader.mode ≡ modes.Start) ⊎ (reader.mode ≡ modes.Content)
  pub below : reader.below ≡ []

pub start_below : (front : List ℕ) (r : Reader) → IsReached front r → r.mode ≡ modes.Start → r.below ≡ []
start_below front r reached is = (subst (λ (mode : Mode). AtMode mode front r.start r.reference_line r.piece r.tag r.declaration r.top r.below) is (reached-holds front r reached).here).2

names_below : (top : Open) (below : List Open) → open_names top below ≡ [] → below ≡ []
names_below top [] e = refl
names_below top (around ∷ outer) e = absurd cc

pub open_outside : (front rest : List ℕ) (names : List (List ℕ)) → names ≡ [] → IsUtf8 (front ++ rest) → IsFromRoot front names → Outside front
open_outside front rest names none u h =
    let k = known_open front names h in
    let reached = reached_part front rest k.reader u h.clean k.runs in
    record {
      reader = k.reader;
      runs = k.runs;
      mode = k.mode;
      below = elim k.mode [
        | inl is ↦ start_below front k.reader reached is
        | inr is ↦ names_below k.reader.top k.reader.below (k.opened is ∙ none)
      ];
    }
