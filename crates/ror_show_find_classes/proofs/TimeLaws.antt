-- Which lines begin a time and which are its rows, and that each answered line is a row of one time.
use Rattle.std.proofs.Common.{◌≡◌, ℕ, ◌-◌, ◌<◌, ◌≤◌, Bool, true, false, ◌&&◌, not, List, [], ◌∷◌, Option, Some, None, refl, sym, ap, subst, ◌∙◌, arith, length}
use Rattle.std.specs.Prelude.{◌==◌, Contains, slice_get, if◌then◌else◌}
use Rattle.std.specs.Option.{option_map_or}
use Rattle.std.proofs.lemmas.Bool.{eqb-true}
use Rattle.std.proofs.lemmas.Option.{slice_get_within}
use Rattle.ror_session.specs.declared.session.Line.{Line}
use Rattle.ror_session.specs.declared.session.Session.{Session}
use Rattle.ror_bench.specs.declared.kept.KeptLine.{KeptLine}
use Rattle.ror_show_ground.specs.Lines.{line_of, desk_of, is_answered}
use Rattle.ror_show_ground.proofs.Tests.{nothing-in, only-in, one-in, in-pieces, InPiece, of-pieces}
use Rattle.ror_show_find_classes.specs.Times.{asks_for_classes, is_at, asks_at, is_answered_at, is_revision_at, answers_at, revises_at, goes_on, begins, if_begins, times}
use Rattle.ror_show_find_classes.specs.Laws.{IsRow, RowsAreThose, BeginsTime, TimesAreThose, EachIsInOneTime}
use Rattle.ror_show_find_classes.proofs.RunLaws.{IsInRun, found_in, put_in, goes_from, goes_by, IsInTime, in_time, one_first}
use Rattle.ror_show_find_classes.proofs.SignLemmas.{both}
use Rattle.ror_show_find_classes.proofs.TimeLemmas.{answered_only}

module _ (s : Session) (kept : List KeptLine) (desk : ℕ) where
  abbrev asks : ℕ → Bool
  asks = answers_at s kept desk

  abbrev revises : ℕ → Bool
  revises = revises_at s kept desk

  -- ---- rows

  row_of : (first n : ℕ) → IsInRun asks revises first (length kept - first) n → IsRow s kept desk first n
  row_of first n is = record { from = is.from; within = let from = is.from in let below = is.below in omega (arith, from, below); answered = is.asked; unchanged = is.unchanged }

  in_row : (first n : ℕ) → IsRow s kept desk first n → IsInRun asks revises first (length kept - first) n
  in_row first n is = record { from = is.from; below = let from = is.from in let within = is.within in omega (arith, from, within); asked = is.answered; unchanged = is.unchanged }

  -- ---- an answered line

  pub record IsAnswered (n : ℕ) : Type 0 where
    pub line : KeptLine
    pub at : slice_get kept n ≡ Some line
    pub desk_is : desk_of s line ≡ desk
    pub answered : is_answered line.block.body ≡ true

  desk_there : (line : KeptLine) → (o : Option Line) → line_of s line ≡ o → asks_at desk o ≡ true → desk_of s line ≡ desk
  desk_there line None is asked = absurd cc
  desk_there line (Some l) is asked = ap (λ (o : Option Line). option_map_or (λ x. x.desk) o 0) is ∙ eqb-true l.desk desk (both (l.desk == desk) (asks_for_classes l.command) asked).0

  answered_line : (n : ℕ) → asks n ≡ true → IsAnswered n
  answered_line n is = by (slice_get kept n) refl is
    where
      by : (o : Option KeptLine) → slice_get kept n ≡ o → option_map_or (is_answered_at s desk) o false ≡ true → IsAnswered n
      by None at is = absurd cc
      by (Some line) at is =
          let parts = both (asks_at desk (line_of s line)) (is_answered line.block.body) is in
          record { line = line; at = at; desk_is = desk_there line (line_of s line) refl parts.0; answered = parts.1 }

  and_false : (b : Bool) → (b && false) ≡ false
  and_false true = refl
  and_false false = refl

  apart : (n : ℕ) → asks n ≡ true → revises n ≡ false
  apart n is =
      let x = answered_line n is in
      ap (λ (o : Option KeptLine). option_map_or (is_revision_at s desk) o false) x.at
      ∙ ap (λ (b : Bool). is_at desk (line_of s x.line) && b) (answered_only x.line.block.body x.answered)
      ∙ and_false (is_at desk (line_of s x.line))

pub rows_those : RowsAreThose
rows_those s kept desk first n = (
  λ there. row_of s kept desk first n (found_in (answers_at s kept desk) (revises_at s kept desk) first (length kept - first) n there),
  λ is. put_in (answers_at s kept desk) (revises_at s kept desk) first (length kept - first) n (in_row s kept desk first n is),
)

-- ---- times

module _ (s : Session) (kept : List KeptLine) where
  listed : (n : ℕ) → Contains {X = ℕ} (times s kept) n → begins s kept n ≡ true
  listed n there =
      let piece : InPiece (if_begins s kept) 0 (length kept) n = of-pieces (if_begins s kept) 0 (length kept) n there in
      by piece.at (begins s kept piece.at) refl piece.there
    where
      by : (k : ℕ) (b : Bool) → begins s kept k ≡ b → Contains {X = ℕ} (if b then k ∷ [] else []) n → begins s kept n ≡ true
      by k true is here = let same : k ≡ n = only-in n k here in subst (λ (i : ℕ). begins s kept i ≡ true) same is
      by k false is here = absurd (nothing-in n here)

  list : (n : ℕ) → n < length kept → begins s kept n ≡ true → Contains {X = ℕ} (times s kept) n
  list n below is =
      in-pieces (if_begins s kept) 0 (length kept) n n (omega arith) (omega (arith, below))
      (subst (λ (b : Bool). Contains {X = ℕ} (if b then n ∷ [] else []) n) (sym is) (one-in n))

  -- by the kept line there
  begins_by : (n : ℕ) (line : KeptLine) → slice_get kept n ≡ Some line → begins s kept n ≡ (answers_at s kept (desk_of s line) n && not (goes_on (answers_at s kept (desk_of s line)) (revises_at s kept (desk_of s line)) n))
  begins_by n line at = ap (λ (o : Option KeptLine). option_map_or (λ x. answers_at s kept (desk_of s x) n && not (goes_on (answers_at s kept (desk_of s x)) (revises_at s kept (desk_of s x)) n)) o false) at

  not_true : (b : Bool) → not b ≡ true → b ≡ false
  not_true true is = absurd cc
  not_true false is = refl

  time_of_line : (n : ℕ) (line : KeptLine) → slice_get kept n ≡ Some line → begins s kept n ≡ true → BeginsTime s kept n
  time_of_line n line at is =
      let desk = desk_of s line in
      let parts = both (answers_at s kept desk n) (not (goes_on (answers_at s kept desk) (revises_at s kept desk) n)) (sym (begins_by n line at) ∙ is) in
      record {
        line = line;
        at = at;
        answered = parts.0;
        fresh = λ k earlier asked unchanged.
            let goes = goes_by (answers_at s kept desk) (revises_at s kept desk) n (record { at = k; earlier = earlier; asked = asked; unchanged = unchanged }) in
            let clash : true ≡ false = sym goes ∙ not_true (goes_on (answers_at s kept desk) (revises_at s kept desk) n) parts.1 in
            cc;
      }

  begin : (n : ℕ) → begins s kept n ≡ true → BeginsTime s kept n
  begin n is = by (slice_get kept n) refl
    where
      by : (o : Option KeptLine) → slice_get kept n ≡ o → BeginsTime s kept n
      by None at = absurd (let none : begins s kept n ≡ false = ap (λ (o : Option KeptLine). option_map_or (λ x. answers_at s kept (desk_of s x) n && not (goes_on (answers_at s kept (desk_of s x)) (revises_at s kept (desk_of s x)) n)) o false) at in let clash : true ≡ false = sym is ∙ none in cc)
      by (Some line) at = time_of_line n line at is

  fresh_goes : (desk n : ℕ) → ((k : ℕ) → k < n → answers_at s kept desk k ≡ true → ((m : ℕ) → k ≤ m → m < n → revises_at s kept desk m ≡ false) → ⊥) → goes_on (answers_at s kept desk) (revises_at s kept desk) n ≡ false
  fresh_goes desk n fresh = by (goes_on (answers_at s kept desk) (revises_at s kept desk) n) refl
    where
      by : (b : Bool) → goes_on (answers_at s kept desk) (revises_at s kept desk) n ≡ b → goes_on (answers_at s kept desk) (revises_at s kept desk) n ≡ false
      by false is = is
      by true is = let goes = goes_from (answers_at s kept desk) (revises_at s kept desk) n is in absurd (fresh goes.at goes.earlier goes.asked goes.unchanged)

  -- at its desk, an answered line that nothing goes on to begins a time
  begins_at_desk : (desk n : ℕ) → answers_at s kept desk n ≡ true → goes_on (answers_at s kept desk) (revises_at s kept desk) n ≡ false → Contains {X = ℕ} (times s kept) n
  begins_at_desk desk n asked fresh =
      let x = answered_line s kept desk n asked in
      let at_desk : begins s kept n ≡ (answers_at s kept desk n && not (goes_on (answers_at s kept desk) (revises_at s kept desk) n)) = subst (λ (d : ℕ). begins s kept n ≡ (answers_at s kept d n && not (goes_on (answers_at s kept d) (revises_at s kept d) n))) x.desk_is (begins_by n x.line x.at) in
      list n (slice_get_within kept n x.line x.at) (at_desk ∙ rw (asked, fresh) refl)

  -- and back
  fresh_at_desk : (desk n : ℕ) → answers_at s kept desk n ≡ true → Contains {X = ℕ} (times s kept) n → goes_on (answers_at s kept desk) (revises_at s kept desk) n ≡ false
  fresh_at_desk desk n asked there =
      let x = answered_line s kept desk n asked in
      let parts = both (answers_at s kept (desk_of s x.line) n) (not (goes_on (answers_at s kept (desk_of s x.line)) (revises_at s kept (desk_of s x.line)) n)) (sym (begins_by n x.line x.at) ∙ listed n there) in
      subst (λ (d : ℕ). goes_on (answers_at s kept d) (revises_at s kept d) n ≡ false) x.desk_is (not_true (goes_on (answers_at s kept (desk_of s x.line)) (revises_at s kept (desk_of s x.line)) n) parts.1)

pub times_those : TimesAreThose
times_those s kept n = (
  λ there. begin s kept n (listed s kept n there),
  λ is. begins_at_desk s kept (desk_of s is.line) n is.answered (fresh_goes s kept (desk_of s is.line) n is.fresh),
)

-- ---- each in one

pub each_in_one : EachIsInOneTime
each_in_one s kept desk n asked =
    let asks = answers_at s kept desk in
    let revises = revises_at s kept desk in
    let x = answered_line s kept desk n asked in
    let time : IsInTime asks revises (length kept) n = in_time asks revises (apart s kept desk) (length kept) n (slice_get_within kept n x.line x.at) asked in
    record {
      first = time.first;
      begins = begins_at_desk s kept desk time.first time.asked time.fresh;
      row = put_in asks revises time.first (length kept - time.first) n time.row;
      one = λ other there asked_other row.
          let again : IsInTime asks revises (length kept) n = record { first = other; asked = asked_other; fresh = fresh_at_desk s kept desk other asked_other there; row = found_in asks revises other (length kept - other) n row } in
          one_first asks revises (length kept) n again time;
    }
