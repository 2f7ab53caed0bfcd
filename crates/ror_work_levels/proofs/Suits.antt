-- Which line of a session is the first that may not be put on levels.
use Rattle.std.proofs.Common.{add-one, append_assoc, drop-cons, ◌≡◌, ◌≢◌, ℕ, suc, ◌+◌, ◌<◌, Bool, true, false, IsTrue, List, [], ◌∷◌, ◌++◌, length, take, drop, get_or, refl, sym, ap, ◌∙◌, subst, inl, inr}
use Rattle.std.specs.List.{AllByRecursion}
use Rattle.std.proofs.lemmas.List.{take-append-drop}
use Rattle.ror_text.proofs.Everywhere.{all-append, all-by}
use Rattle.ror_session.specs.declared.session.Line.{Line}
use Rattle.ror_closing.specs.Closing.{AreSuited}
use Rattle.ror_closing.proofs.ClosingLemmas.{took}
use Rattle.ror_closing.proofs.LawLemmas.{first_split, no_line}
use Rattle.ror_work_levels.specs.Suiting.{first_desk, IsUnfitAt, IsUnfit, AreFit, IsFirstUnfit}

-- ---- line by line

-- no line is unfit beside a first line of this desk
abbrev pub AreFitAt : ℕ → List Line → Type 0
AreFitAt desk lines = AllByRecursion (λ line. ¬ (IsUnfitAt desk line)) lines

pub fit_more : (desk : ℕ) (lines : List Line) (i : ℕ) (line : Line) → i < length lines → line ≡ get_or lines i line → AreFitAt desk (take i lines) → (IsUnfitAt desk line → ⊥) → AreFitAt desk (take (i + 1) lines)
fit_more desk lines i line within item fit one =
    subst (AreFitAt desk) (sym (took lines i line within item)) (all-append (λ (l : Line). ¬ (IsUnfitAt desk l)) (take i lines) (line ∷ []) fit (one, tt))

pub first_unfit_here : (lines : List Line) (i : ℕ) (line : Line) → i < length lines → line ≡ get_or lines i line → AreFitAt (first_desk lines) (take i lines) → IsUnfit lines line → IsFirstUnfit lines line.number
first_unfit_here lines i line within item fit one =
    let rest : drop i lines ≡ line ∷ drop (i + 1) lines = rw add-one (drop-cons lines i line within ∙ ap (λ (x : Line). x ∷ drop (suc i) lines) (sym item)) in
    record {
      before = take i lines;
      line = line;
      after = drop (i + 1) lines;
      split = sym (take-append-drop i lines) ∙ ap (λ (l : List Line). take i lines ++ l) rest;
      fit_before = fit;
      unfit = one;
      number_is = refl;
    }

-- ---- what fit lines are

-- none repairs
pub fit_suited : (lines : List Line) → AreFit lines → AreSuited lines
fit_suited lines fit = all-by (λ line. ¬ (IsUnfit lines line)) (λ line. ¬ (line.command ≡ _)) lines (λ line is repairs. is (inl repairs)) fit

-- ---- the first unfit line

pub one_first_unfit : (lines : List Line) (m n : ℕ) → IsFirstUnfit lines m → IsFirstUnfit lines n → m ≡ n
one_first_unfit lines m n first second =
    first.number_is
    ∙ ap (λ (l : Line). l.number) (first_split (IsUnfit lines) lines first.before second.before first.line second.line first.after second.after first.split second.split first.fit_before second.fit_before first.unfit second.unfit)
    ∙ sym second.number_is

-- fit lines have none
pub not_fit : (lines : List Line) (n : ℕ) → IsFirstUnfit lines n → AreFit lines → ⊥
not_fit lines n first fit = no_line (IsUnfit lines) first.before first.line first.after first.unfit (subst (AllByRecursion (λ l. ¬ (IsUnfit lines l))) first.split fit)

-- and lines that have none are fit
none_first : (P : Line → Type 0) (front lines : List Line) → AllByRecursion (λ l. ¬ (P l)) front → ((before : List Line) (line : Line) (after : List Line) → front ++ lines ≡ before ++ line ∷ after → AllByRecursion (λ l. ¬ (P l)) before → P line → ⊥) → AllByRecursion (λ l. ¬ (P l)) (front ++ lines)
none_first P front [] fit none = all-append (λ l. ¬ (P l)) front [] fit tt
none_first P front (line ∷ lines) fit none =
    let here : P line → ⊥ = λ is. none front line lines refl fit is in
    let more = all-append (λ (l : Line). ¬ (P l)) front (line ∷ []) fit (here, tt) in
    let same = append_assoc front (line ∷ []) lines in
    subst (AllByRecursion (λ (l : Line). ¬ (P l))) same (none_first P (front ++ line ∷ []) lines more (λ before l after split fits is. none before l after (sym same ∙ split) fits is))

pub fit_or : (lines : List Line) → ((number : ℕ) → IsFirstUnfit lines number → ⊥) → AreFit lines
fit_or lines none = none_first (IsUnfit lines) [] lines tt (λ before line after split fit is. none line.number (record {
  before = before;
  line = line;
  after = after;
  split = split;
  fit_before = fit;
  unfit = is;
  number_is = refl;
}))
