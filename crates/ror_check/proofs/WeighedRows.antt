-- What stands for no rows, for one row more, and what few rows show of all.
use Rattle.std.proofs.Common.{◌⊎◌, inl, inr, ℕ, zero, suc, ◌+◌, ◌<◌, ◌≤◌, List, [], ◌∷◌, ◌++◌, length, take, get_or, ℤ, pos, ◌+ℤ◌, ◌*ℤ◌, ◌≡◌, refl, ap, sym, subst, ◌∙◌, arith, length-append, length-take, unsigned_abs}
use Rattle.std.specs.Prelude.{slice_get}
use Rattle.std.proofs.lemmas.List.{take_more, take_all}
use Rattle.ror_text.proofs.Everywhere.{all-append, all-front, all-back}
use Rattle.ror_integers.specs.Vectors.{dot, absolute_dot, entry, column, SomePositive}
use Rattle.ror_integers.proofs.Ring.{sums, zero-product}
use Rattle.ror_integers.proofs.Signs.{NoneNegative-append, NoneNegative-append_left, NoneNegative-append_right}
use Rattle.ror_statement.specs.declared.comparison.Comparison.{Comparison}
use Rattle.ror_system.specs.System.{LinearSystem}
use Rattle.ror_system.specs.Acceptance.{AreAcceptedMultipliers}
use Rattle.ror_system.proofs.Totals.{dot-column_of_both, absolute_dot-column_of_both}
use Rattle.ror_table.specs.Table.{DecisionTable}
use Rattle.ror_rows.specs.Rows.{weak_rows, strict_rows, extended_by}
use Rattle.ror_check.specs.Weighed.{StandsFor}

some-left : (xs ys : List ℤ) → SomePositive xs → SomePositive (xs ++ ys)
some-left [] ys some = let none = some.1 in absurd (omega arith)
some-left (x ∷ xs) ys (zero, within, above) = (zero, omega arith, above)
some-left (x ∷ xs) ys (suc k, within, above) = let rest = some-left xs ys (k, omega arith, above) in let w = rest.1 in (suc rest.0, omega arith, rest.2)

some-right : (xs ys : List ℤ) → SomePositive ys → SomePositive (xs ++ ys)
some-right [] ys some = some
some-right (x ∷ xs) ys some = let rest = some-right xs ys some in let w = rest.1 in (suc rest.0, omega arith, rest.2)

some-either : (xs ys : List ℤ) → SomePositive (xs ++ ys) → SomePositive xs ⊎ SomePositive ys
some-either [] ys some = inr some
some-either (x ∷ xs) ys (zero, within, above) = inl (zero, omega arith, above)
some-either (x ∷ xs) ys (suc k, within, above) =
    elim (some-either xs ys (k, omega arith, above)) [
      | inl some ↦ let w = some.1 in inl (suc some.0, omega arith, some.2)
      | inr some ↦ inr some
    ]

pub stands_for_none : StandsFor [] [] [] []
stands_for_none = record {
  as_many = refl;
  as_many_few = refl;
  fewer = omega arith;
  first = refl;
  widths = λ n wide. tt;
  sums = λ j. refl;
  absolute_sums = λ j. refl;
  none_negative = λ none. none;
  some_positive = λ some. some;
}

-- a row that is passed over has the multiplier 0, and is not the first
pub stands_without : (ns ms : List ℤ) (few rows : List (List ℤ)) (m : ℤ) (row : List ℤ) → 0 < length rows → m ≡ pos 0 → StandsFor ns few ms rows → StandsFor ns few (ms ++ m ∷ []) (rows ++ row ∷ [])
stands_without ns ms few [] m row later zero-is s = absurd (omega arith)
stands_without ns ms few (first ∷ rows) m row later zero-is s =
    let all = first ∷ rows in
    let long = s.as_many in
    let fewer = s.fewer in
    record {
      as_many = length-append ms (m ∷ []) ∙ ap (λ n. n + 1) long ∙ sym (length-append all (row ∷ []));
      as_many_few = s.as_many_few;
      fewer = omega (arith, length-append all (row ∷ []), fewer);
      first = s.first;
      widths = λ n wide. s.widths n (all-front (λ row. length row ≡ n) all (row ∷ []) wide);
      sums = λ j. (let own = s.sums j in let parts = dot-column_of_both ms (m ∷ []) all (row ∷ []) j long in let none = zero-product (entry row j) in let e = ap (λ z. z *ℤ entry row j) zero-is in omega (arith, sums, own, parts, none, e));
      absolute_sums = λ j. (let own = s.absolute_sums j in let parts = absolute_dot-column_of_both ms (m ∷ []) all (row ∷ []) j long in let e = ap unsigned_abs (ap (λ z. z *ℤ entry row j) zero-is ∙ zero-product (entry row j)) in omega (arith, own, parts, e));
      none_negative = λ none. NoneNegative-append ms (m ∷ []) (s.none_negative none) (omega (arith, sums, zero-is), tt);
      some_positive = λ some. some-left ms (m ∷ []) (s.some_positive some);
    }

first-append : {X : Type 0} (xs ys zs : List X) → slice_get xs 0 ≡ slice_get ys 0 → slice_get (xs ++ zs) 0 ≡ slice_get (ys ++ zs) 0
first-append [] [] zs e = refl
first-append [] (y ∷ ys) zs e = absurd cc
first-append (x ∷ xs) [] zs e = absurd cc
first-append (x ∷ xs) (y ∷ ys) zs e = e

pub stands_with : (ns ms : List ℤ) (few rows : List (List ℤ)) (m : ℤ) (row : List ℤ) → StandsFor ns few ms rows → StandsFor (ns ++ m ∷ []) (few ++ row ∷ []) (ms ++ m ∷ []) (rows ++ row ∷ [])
stands_with ns ms few rows m row s =
    let long = s.as_many in
    let long_few = s.as_many_few in
    let fewer = s.fewer in
    record {
      as_many = length-append ms (m ∷ []) ∙ ap (λ n. n + 1) long ∙ sym (length-append rows (row ∷ []));
      as_many_few = length-append ns (m ∷ []) ∙ ap (λ n. n + 1) long_few ∙ sym (length-append few (row ∷ []));
      fewer = omega (arith, length-append rows (row ∷ []), length-append few (row ∷ []), fewer);
      first = first-append few rows (row ∷ []) s.first;
      widths = λ n wide. all-append (λ row. length row ≡ n) few (row ∷ []) (s.widths n (all-front (λ row. length row ≡ n) rows (row ∷ []) wide)) (all-back (λ row. length row ≡ n) rows (row ∷ []) wide);
      sums = λ j. (dot-column_of_both ns (m ∷ []) few (row ∷ []) j long_few ∙ ap (λ z. z +ℤ dot (m ∷ []) (column (row ∷ []) j)) (s.sums j) ∙ sym (dot-column_of_both ms (m ∷ []) rows (row ∷ []) j long));
      absolute_sums = λ j. (absolute_dot-column_of_both ns (m ∷ []) few (row ∷ []) j long_few ∙ ap (λ z. z + absolute_dot (m ∷ []) (column (row ∷ []) j)) (s.absolute_sums j) ∙ sym (absolute_dot-column_of_both ms (m ∷ []) rows (row ∷ []) j long));
      none_negative = λ none. NoneNegative-append ms (m ∷ []) (s.none_negative (NoneNegative-append_left ns (m ∷ []) none)) (NoneNegative-append_right ns (m ∷ []) none);
      some_positive = λ some. elim (some-either ns (m ∷ []) some) [
        | inl own ↦ some-left ms (m ∷ []) (s.some_positive own)
        | inr new ↦ some-right ms (m ∷ []) new
      ];
    }

-- the rows up to a place and the one there
pub stands_more_with : (ms : List ℤ) (rows : List (List ℤ)) (i : ℕ) (ns pushed : List ℤ) (few copied : List (List ℤ)) (row : List ℤ) → length rows ≤ length ms → i < length rows → row ≡ get_or rows i row → pushed ≡ ns ++ get_or ms i (pos 0) ∷ [] → copied ≡ few ++ row ∷ [] → StandsFor ns few (take i ms) (take i rows) → StandsFor pushed copied (take (i + 1) ms) (take (i + 1) rows)
stands_more_with ms rows i ns pushed few copied row long within row-is pushed-is copied-is s =
    let ms-more = take_more ms i (pos 0) (omega (arith, long, within)) in
    let rows-more : take (i + 1) rows ≡ take i rows ++ row ∷ [] = take_more rows i row within ∙ ap (λ (x : List ℤ). take i rows ++ x ∷ []) (sym row-is) in
    rw (pushed-is, copied-is, ms-more, rows-more) (stands_with ns (take i ms) few (take i rows) (get_or ms i (pos 0)) row s)

pub stands_more_without : (ms : List ℤ) (rows : List (List ℤ)) (i : ℕ) (ns : List ℤ) (few : List (List ℤ)) → length rows ≤ length ms → i < length rows → 0 < i → get_or ms i (pos 0) ≡ pos 0 → StandsFor ns few (take i ms) (take i rows) → StandsFor ns few (take (i + 1) ms) (take (i + 1) rows)
stands_more_without ms rows i ns few long within later zero-is s =
    rw (take_more ms i (pos 0) (omega (arith, long, within)), take_more rows i [] within) (stands_without ns (take i ms) few (take i rows) (get_or ms i (pos 0)) (get_or rows i []) (omega (arith, length-take i rows, later, within)) zero-is s)

-- where no row is left, what stands behind a multiplier for each is left out
pub stands_for_all : (ms : List ℤ) (rows : List (List ℤ)) (i : ℕ) (ns : List ℤ) (few : List (List ℤ)) → i ≡ length rows → StandsFor ns few (take i ms) (take i rows) → StandsFor ns few (take (length rows) ms) rows
stands_for_all ms rows i ns few is s =
    let whole : take i rows ≡ rows = take_all i rows (omega (arith, is)) in
    let front : take i ms ≡ take (length rows) ms = ap (λ n. take n ms) is in
    subst (λ (xs : List ℤ). StandsFor ns few xs rows) front (subst (λ (xs : List (List ℤ)). StandsFor ns few (take i ms) xs) whole s)

-- ---- multipliers that few rows and the extra ones accept

module _ (t : DecisionTable) (base few : LinearSystem) (cs : List Comparison) (nw wm wx ns sm sx : List ℤ) (weak : StandsFor nw few.weak wm base.weak) (strict : StandsFor ns few.strict sm base.strict) where
  abbrev W : List (List ℤ)
  W = weak_rows t cs

  abbrev S : List (List ℤ)
  S = strict_rows t cs

  extra_long : (ms xs : List ℤ) (rows more : List (List ℤ)) → length ms ≡ length rows → length (ms ++ xs) ≡ length (rows ++ more) → length xs ≡ length more
  extra_long ms xs rows more long both = omega (arith, length-append ms xs, length-append rows more, long, both)

  long_with : (ms xs : List ℤ) (rows more : List (List ℤ)) → length ms ≡ length rows → length xs ≡ length more → length (ms ++ xs) ≡ length (rows ++ more)
  long_with ms xs rows more long rest = omega (arith, length-append ms xs, length-append rows more, long, rest)

  same_sums : length wx ≡ length W → (j : ℕ) → dot ((wm ++ wx) ++ (sm ++ sx)) (column ((base.weak ++ W) ++ (base.strict ++ S)) j) ≡ dot ((nw ++ wx) ++ (ns ++ sx)) (column ((few.weak ++ W) ++ (few.strict ++ S)) j)
  same_sums long j =
      let w = weak.sums j in
      let s = strict.sums j in
      let all = dot-column_of_both (wm ++ wx) (sm ++ sx) (base.weak ++ W) (base.strict ++ S) j (long_with wm wx base.weak W weak.as_many long) in
      let all_weak = dot-column_of_both wm wx base.weak W j weak.as_many in
      let all_strict = dot-column_of_both sm sx base.strict S j strict.as_many in
      let own = dot-column_of_both (nw ++ wx) (ns ++ sx) (few.weak ++ W) (few.strict ++ S) j (long_with nw wx few.weak W weak.as_many_few long) in
      let own_weak = dot-column_of_both nw wx few.weak W j weak.as_many_few in
      let own_strict = dot-column_of_both ns sx few.strict S j strict.as_many_few in
      omega (arith, sums, w, s, all, all_weak, all_strict, own, own_weak, own_strict)

  same_absolute_sums : length wx ≡ length W → (j : ℕ) → absolute_dot ((wm ++ wx) ++ (sm ++ sx)) (column ((base.weak ++ W) ++ (base.strict ++ S)) j) ≡ absolute_dot ((nw ++ wx) ++ (ns ++ sx)) (column ((few.weak ++ W) ++ (few.strict ++ S)) j)
  same_absolute_sums long j =
      let w = weak.absolute_sums j in
      let s = strict.absolute_sums j in
      let all = absolute_dot-column_of_both (wm ++ wx) (sm ++ sx) (base.weak ++ W) (base.strict ++ S) j (long_with wm wx base.weak W weak.as_many long) in
      let all_weak = absolute_dot-column_of_both wm wx base.weak W j weak.as_many in
      let all_strict = absolute_dot-column_of_both sm sx base.strict S j strict.as_many in
      let own = absolute_dot-column_of_both (nw ++ wx) (ns ++ sx) (few.weak ++ W) (few.strict ++ S) j (long_with nw wx few.weak W weak.as_many_few long) in
      let own_weak = absolute_dot-column_of_both nw wx few.weak W j weak.as_many_few in
      let own_strict = absolute_dot-column_of_both ns sx few.strict S j strict.as_many_few in
      omega (arith, w, s, all, all_weak, all_strict, own, own_weak, own_strict)

  pub accepted_for_all : AreAcceptedMultipliers (extended_by t few cs) (nw ++ wx) (ns ++ sx) → AreAcceptedMultipliers (extended_by t base cs) (wm ++ wx) (sm ++ sx)
  accepted_for_all accepted =
      let r = accepted.refute in
      let long_weak = extra_long nw wx few.weak W weak.as_many_few r.as_many_weak in
      let long_strict = extra_long ns sx few.strict S strict.as_many_few r.as_many_strict in
      let none_weak = NoneNegative-append_left (nw ++ wx) (ns ++ sx) r.none_negative in
      let none_strict = NoneNegative-append_right (nw ++ wx) (ns ++ sx) r.none_negative in
      record {
        refute = record {
          as_many_weak = long_with wm wx base.weak W weak.as_many long_weak;
          as_many_strict = long_with sm sx base.strict S strict.as_many long_strict;
          none_negative = NoneNegative-append (wm ++ wx) (sm ++ sx)
              (NoneNegative-append wm wx (weak.none_negative (NoneNegative-append_left nw wx none_weak)) (NoneNegative-append_right nw wx none_weak))
              (NoneNegative-append sm sx (strict.none_negative (NoneNegative-append_left ns sx none_strict)) (NoneNegative-append_right ns sx none_strict));
          some_positive = elim (some-either ns sx r.some_positive) [
            | inl own ↦ some-left sm sx (strict.some_positive own)
            | inr new ↦ some-right sm sx new
          ];
          columns = λ j. rw (same_sums long_weak j) (r.columns j);
        };
        columns_within = λ j. rw (same_absolute_sums long_weak j) (accepted.columns_within j);
      }
