-- Spans step by step, and where they lie.
use Rattle.std.proofs.Common.{◌≡◌, inl, inr, ℕ, zero, suc, ◌+◌, ◌-◌, ◌<◌, ◌≤◌, Bool, true, false, List, [], ◌∷◌, length, refl, ap, subst, ◌∙◌, arith, if◌then◌else◌}
use Rattle.std.specs.Prelude.{◌==◌, Contains, nat_lt}
use Rattle.std.specs.List.{AllByRecursion, range_with_len}
use Rattle.std.proofs.lemmas.Bool.{cases_Bool, ltb-true, ne_eqb}
use Rattle.ror_text.proofs.Everywhere.{all-pieces}
use Rattle.ror_show_ground.proofs.Tests.{less_or, both-true, nothing-in, only-in, one-in, in-pieces, of-pieces}
use Rattle.ror_table.specs.Table.{DecisionTable, width}
use Rattle.ror_table.proofs.RankLemmas.{width-le-steps}
use Rattle.ror_show_find_proofs.specs.declared.spans.Span.{Span}
use Rattle.ror_show_find_proofs.specs.Spans.{is_step_used, begins, end_among, end_of, span_at, spans_on, spans_of, IsSpanIn}
use Rattle.ror_show_find_proofs.specs.SumLaws.{SpansAreUsed}

-- ---- where a span ends

-- at a step that isn't used
ends : (t : DecisionTable) (used : List Bool) (i n k : ℕ) → is_step_used t used i k ≡ false → end_among t used i n k ≡ k
ends t used i zero k unused = refl
ends t used i (suc n) k unused = rw unused refl

pub ends_here : (t : DecisionTable) (used : List Bool) (i k : ℕ) → is_step_used t used i k ≡ false → end_of t used i k ≡ k
ends_here t used i k unused = ends t used i (width t i - k) k unused

-- and it goes on over one that is
goes_on : (t : DecisionTable) (used : List Bool) (i n k : ℕ) → is_step_used t used i k ≡ true → end_among t used i (suc n) k ≡ end_among t used i n (k + 1)
goes_on t used i n k there = rw there refl

pub extends : (t : DecisionTable) (used : List Bool) (i k : ℕ) → k < width t i → is_step_used t used i k ≡ true → end_of t used i k ≡ end_of t used i (k + 1)
extends t used i k below there =
    let left : width t i - k ≡ suc (width t i - (k + 1)) = omega arith in
    ap (λ n. end_among t used i n k) left ∙ goes_on t used i (width t i - (k + 1)) k there

-- ---- spans of a table

at_most : (t : DecisionTable) (used : List Bool) (i n k : ℕ) → end_among t used i n k ≤ k + n
at_most t used i zero k = omega arith
at_most t used i (suc n) k = elim (cases_Bool (is_step_used t used i k)) [
  | inl there ↦ let more = at_most t used i n (k + 1) in let on = goes_on t used i n k there in omega (arith, more, on)
  | inr unused ↦ let here = ends t used i (suc n) k unused in omega (arith, here)
]

one_there : (t : DecisionTable) (x : Span) (b : Bool) → IsSpanIn t x → AllByRecursion (IsSpanIn t) (if b then x ∷ [] else [])
one_there t x true is = (is, tt)
one_there t x false is = tt

span_there : (t : DecisionTable) (used : List Bool) (i k : ℕ) → i < length t.criteria → k < width t i → AllByRecursion (IsSpanIn t) (span_at t used i k)
unfolding span_at
span_there t used i k within below =
    let most = at_most t used i (width t i - k) k in
    let few = width-le-steps t i in
    one_there t (record { criterion = i; worse = k; better = end_of t used i k }) (begins t used i k) (record {
      criterion = within;
      worse = omega (arith, few);
      better = omega (arith, most, few);
    })

ranged : (P : ℕ → Type 0) (s n : ℕ) → ((k : ℕ) → k < s + n → P k) → AllByRecursion P (range_with_len s n)
ranged P s zero each = tt
ranged P s (suc n) each = (each s (omega arith), ranged P (s + 1) n (λ k below. each k (omega arith)))

pub spans_there : (t : DecisionTable) (used : List Bool) → AllByRecursion (IsSpanIn t) (spans_of t used)
spans_there t used =
    all-pieces (IsSpanIn t) (spans_on t used) (range_with_len 0 (length t.criteria))
    (ranged (λ i. AllByRecursion (IsSpanIn t) (spans_on t used i)) 0 (length t.criteria)
    (λ i within. all-pieces (IsSpanIn t) (span_at t used i) (range_with_len 0 (width t i))
    (ranged (λ k. AllByRecursion (IsSpanIn t) (span_at t used i k)) 0 (width t i) (λ k below. span_there t used i k (omega (arith, within)) (omega (arith, below))))))

-- ---- each step that is used lies in one

-- so many steps below one that is used are used too, and the first of them begins a span
record Begun (t : DecisionTable) (used : List Bool) (i k : ℕ) : Type 0 where
  first : ℕ
  upto : first ≤ k
  begun : begins t used i first ≡ true
  all : (j : ℕ) → first ≤ j → j ≤ k → is_step_used t used i j ≡ true

only_here : (t : DecisionTable) (used : List Bool) (i k j : ℕ) → is_step_used t used i k ≡ true → k ≤ j → j ≤ k → is_step_used t used i j ≡ true
only_here t used i k j there least most = let same : k ≡ j = omega arith in subst (λ l. is_step_used t used i l ≡ true) same there

longer : (t : DecisionTable) (used : List Bool) (i k : ℕ) → is_step_used t used i (suc k) ≡ true → Begun t used i k → Begun t used i (suc k)
longer t used i k there b = record {
  first = b.first;
  upto = let upto = b.upto in omega (arith, upto);
  begun = b.begun;
  all = λ j least most. elim (less_or k j) [
    | inl last ↦ only_here t used i (suc k) j there (omega (arith, last)) most
    | inr below ↦ b.all j least below
  ];
}

begins_later : (t : DecisionTable) (used : List Bool) (i k : ℕ) → is_step_used t used i (suc k) ≡ true → is_step_used t used i k ≡ false → begins t used i (suc k) ≡ true
begins_later t used i k there unused =
    let down : suc k - 1 ≡ k = omega arith in
    let above : (suc k == 0) ≡ false = ne_eqb (suc k) 0 (λ e. omega (arith, e)) in
    rw (there, above, down, unused) refl

begun_at : (t : DecisionTable) (used : List Bool) (i k : ℕ) → is_step_used t used i k ≡ true → Begun t used i k
begun_at t used i zero there = record { first = 0; upto = omega arith; begun = rw there refl; all = λ j least most. only_here t used i 0 j there least most }
begun_at t used i (suc k) there = elim (cases_Bool (is_step_used t used i k)) [
  | inl below ↦ longer t used i k there (begun_at t used i k below)
  | inr unused ↦ record { first = suc k; upto = omega arith; begun = begins_later t used i k there unused; all = λ j least most. only_here t used i (suc k) j there least most }
]

-- those up to it come before its end
not_before : (t : DecisionTable) (used : List Bool) (i n k : ℕ) → k ≤ end_among t used i n k
not_before t used i zero k = omega arith
not_before t used i (suc n) k = elim (cases_Bool (is_step_used t used i k)) [
  | inl there ↦ let more = not_before t used i n (k + 1) in let on = goes_on t used i n k there in omega (arith, more, on)
  | inr unused ↦ let here = ends t used i (suc n) k unused in omega (arith, here)
]

reaches : (t : DecisionTable) (used : List Bool) (i n first k : ℕ) → ((j : ℕ) → first ≤ j → j ≤ k → is_step_used t used i j ≡ true) → first ≤ k → k < first + n → k < end_among t used i n first
reaches t used i zero first k all upto below = absurd (omega (arith, upto, below))
reaches t used i (suc n) first k all upto below =
    let on = goes_on t used i n first (all first (omega arith) upto) in
    elim (less_or first k) [
      | inl after ↦ let more = reaches t used i n (first + 1) k (λ j least most. all j (omega (arith, least)) most) (omega (arith, after)) (omega (arith, below)) in omega (arith, more, on)
      | inr last ↦ let more = not_before t used i n (first + 1) in omega (arith, more, on, upto, last)
    ]

below_width : (t : DecisionTable) (used : List Bool) (i k : ℕ) → is_step_used t used i k ≡ true → k < width t i
below_width t used i k there = ltb-true k (width t i) (both-true (nat_lt k (width t i)) _ there).0

span_begun : (t : DecisionTable) (used : List Bool) (i k : ℕ) → begins t used i k ≡ true → Contains (span_at t used i k) (record { criterion = i; worse = k; better = end_of t used i k })
unfolding span_at
span_begun t used i k begun = rw begun (one-in (record { criterion = i; worse = k; better = end_of t used i k }))

in_spans : (t : DecisionTable) (used : List Bool) (i k : ℕ) → i < length t.criteria → k < width t i → begins t used i k ≡ true → Contains (spans_of t used) (record { criterion = i; worse = k; better = end_of t used i k })
in_spans t used i k within below begun =
    let x : Span = record { criterion = i; worse = k; better = end_of t used i k } in
    in-pieces (spans_on t used) 0 (length t.criteria) i x (omega arith) (omega (arith, within))
    (in-pieces (span_at t used i) 0 (width t i) k x (omega arith) (omega (arith, below)) (span_begun t used i k begun))

to_span : (t : DecisionTable) (used : List Bool) (i k : ℕ) → i < length t.criteria → is_step_used t used i k ≡ true → Begun t used i k
    → (x : Span) × Contains (spans_of t used) x × (x.criterion ≡ i) × (x.worse ≤ k) × (k < x.better)
to_span t used i k within there b =
    let below = below_width t used i k there in
    let upto = b.upto in (
      record { criterion = i; worse = b.first; better = end_of t used i b.first },
      in_spans t used i b.first within (omega (arith, below, upto)) b.begun,
      refl,
      upto,
      reaches t used i (width t i - b.first) b.first k b.all upto (omega (arith, below, upto)),
    )

-- ---- each step within one is used

within_used : (t : DecisionTable) (used : List Bool) (i n first k : ℕ) → first ≤ k → k < end_among t used i n first → is_step_used t used i k ≡ true
within_used t used i zero first k least most = absurd (omega (arith, least, most))
within_used t used i (suc n) first k least most = elim (cases_Bool (is_step_used t used i first)) [
  | inl there ↦
      let on = goes_on t used i n first there in
      elim (less_or first k) [
        | inl after ↦ within_used t used i n (first + 1) k (omega (arith, after)) (omega (arith, most, on))
        | inr last ↦ only_here t used i first k there least last
      ]
  | inr unused ↦ let here = ends t used i (suc n) first unused in absurd (omega (arith, least, most, here))
]

one_where : (b : Bool) (x y : Span) → Contains (if b then x ∷ [] else []) y → x ≡ y
one_where true x y there = only-in y x there
one_where false x y there = absurd (nothing-in y there)

span_is : (t : DecisionTable) (used : List Bool) (i k : ℕ) (x : Span) → Contains (span_at t used i k) x → record { criterion = i; worse = k; better = end_of t used i k } ≡ x
unfolding span_at
span_is t used i k x there = one_where (begins t used i k) (record { criterion = i; worse = k; better = end_of t used i k }) x there

from_span : (t : DecisionTable) (used : List Bool) (i k : ℕ) (x : Span) → Contains (spans_of t used) x → x.criterion ≡ i → x.worse ≤ k → k < x.better → is_step_used t used i k ≡ true
from_span t used i k x there of least most =
    let on = of-pieces (spans_on t used) 0 (length t.criteria) x there in
    let at = of-pieces (span_at t used on.at) 0 (width t on.at) x on.there in
    let is = span_is t used on.at at.at x at.there in
    let same : on.at ≡ i = ap (λ (y : Span). y.criterion) is ∙ of in
    let worse = ap (λ (y : Span). y.worse) is in
    let better = ap (λ (y : Span). y.better) is in
    subst (λ j. is_step_used t used j k ≡ true) same
    (within_used t used on.at (width t on.at - at.at) at.at k (omega (arith, worse, least)) (omega (arith, better, most)))

pub spans_are_used : SpansAreUsed
spans_are_used t used i k within = (
  λ there. to_span t used i k within there (begun_at t used i k there),
  λ h. from_span t used i k h.0 h.1 h.2 h.3 h.4,
)
