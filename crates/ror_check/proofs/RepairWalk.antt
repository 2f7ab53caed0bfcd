-- What is known on the way along the standing statements, once to compare numbers and once to test multipliers.
use Rattle.std.proofs.Common.{◌≡◌, ◌≢◌, ◌↔◌, ◌⊎◌, inl, inr, ℕ, zero, suc, ◌+◌, ◌<◌, ◌≤◌, Bool, true, false, cond, List, [], ◌∷◌, ◌++◌, take, drop, length, get_or, Option, Some, None, refl, sym, ap, subst, ◌∙◌, arith}
use Rattle.std.specs.Prelude.{slice_get, nat_eq, not, option_to_list}
use Rattle.std.specs.List.{filter}
use Rattle.std.specs.List.Sorted.{IsStrictlyIncreasing}
use Rattle.std.specs.Set.{is_member}
use Rattle.std.proofs.lemmas.Bool.{cases_Bool, cases_lt, false≢true}
use Rattle.std.proofs.lemmas.List.{map-append, take_all}
use Rattle.std.proofs.lemmas.List.Filters.{length-filter_both}
use Rattle.std.proofs.lemmas.Option.{slice_get_within}
use Rattle.ror_statement.specs.declared.statement.Numbered.{Numbered}
use Rattle.ror_statement.specs.declared.statement.Statement.{Statement}
use Rattle.ror_table.specs.Table.{DecisionTable}
use Rattle.ror_system.specs.declared.reject.Reject.{Reject}
use Rattle.ror_system.proofs.MultiplierTests as multipliers
use Rattle.ror_system.specs.declared.accept.Multipliers.{Multipliers}
use Rattle.ror_proof.specs.declared.answer.Certificate.TheVariants as certificates
use Rattle.ror_proof.specs.declared.kept.Dropped.{Dropped}
use Rattle.ror_check.specs.declared.fault.RepairCheckFault.{RepairCheckFault}
use Rattle.ror_check.specs.declared.fault.RepairCheckFault.TheVariants as faults
use Rattle.ror_check.specs.Proof.{base_system}
use Rattle.ror_statement.specs.Statements.{numbers_in, statements_in}
use Rattle.ror_check.specs.Repair.{AreRefuted, AreNumbersIn, is_among, kept_of, kept_with, numbers_of, RefutesDropped, IsBaseKind}
use Rattle.ror_check.specs.RepairFaults.{FailsDropped}
use Rattle.ror_check.specs.RepairSteps.{AreRefutedBefore, RefusesOne, RefusesDropped}
use Rattle.ror_check.proofs.Checking.{some_same}
use Rattle.ror_check.proofs.Numbers.{first_place, member-at, Rises, rises, increases, AreIn, first_in, first_not_in, numbers_among, lesser_earlier, same_number}
use Rattle.ror_check.proofs.Repairs.{kept_more, dropped_more, listed_are}

abbrev dropped_number : Dropped → ℕ
dropped_number d = d.number

abbrev standing_number : Numbered → ℕ
standing_number x = x.number

-- ---- how many are kept

number-filter : (p : ℕ → Bool) (list : List Numbered) → numbers_in (filter (λ x. p x.number) list) ≡ filter p (numbers_in list)
number-filter p [] = refl
number-filter p (x ∷ list) = elim (cases_Bool (p x.number)) [
  | inl yes_ ↦ rw yes_ (ap (λ more. x.number ∷ more) (number-filter p list))
  | inr no_ ↦ rw no_ (number-filter p list)
]

pub length-numbers : (list : List Numbered) → length (numbers_in list) ≡ length list
length-numbers [] = refl
length-numbers (x ∷ list) = ap suc (length-numbers list)

pub length-numbers_of : (ds : List Dropped) → length (numbers_of ds) ≡ length ds
length-numbers_of [] = refl
length-numbers_of (d ∷ ds) = ap suc (length-numbers_of ds)

number_kept : (list : List Numbered) (ns : List ℕ) → IsStrictlyIncreasing (numbers_in list) → AreNumbersIn list ns → length (kept_of ns list) + length ns ≡ length list
number_kept list ns up h =
    let both = length-filter_both (is_among ns) (λ x. not (is_among ns x)) (λ x. refl) list in
    let among : length (filter (is_among ns) list) ≡ length ns = sym (length-numbers (filter (is_among ns) list)) ∙ ap length (number-filter (is_member nat_eq ns) list) ∙ ap length (numbers_among (numbers_in list) ns (rises (numbers_in list) up) (listed_are list ns h)) in
    omega (arith, both, among)

nothing : {X : Type 0} (xs : List X) → length xs ≡ 0 → xs ≡ []
nothing [] e = refl
nothing (x ∷ xs) e = absurd (omega arith)

none_kept : (list : List Numbered) (ds : List Dropped) → IsStrictlyIncreasing (numbers_in list) → AreNumbersIn list (numbers_of ds) → length list ≤ length ds → kept_of (numbers_of ds) list ≡ []
none_kept list ds up h le = let number = number_kept list (numbers_of ds) up h in nothing (kept_of (numbers_of ds) list) (omega (arith, number, length-numbers_of ds, le))

some_kept : (list : List Numbered) (ds : List Dropped) → IsStrictlyIncreasing (numbers_in list) → AreNumbersIn list (numbers_of ds) → length ds < length list → kept_of (numbers_of ds) list ≢ []
some_kept list ds up h lt none = let number = number_kept list (numbers_of ds) up h in let e = ap length none in omega (arith, number, length-numbers_of ds, lt, e)

-- a base is of its kind exactly where it is a solution, or as many are dropped as stand
pub kind_by_count : (list : List Numbered) (ds : List Dropped) (m : Multipliers) → IsStrictlyIncreasing (numbers_in list) → AreNumbersIn list (numbers_of ds) → (length list ≤ length ds) ↔ IsBaseKind (kept_of (numbers_of ds) list) (certificates.Multipliers m)
kind_by_count list ds m up h = (none_kept list ds up h, λ none. elim (cases_lt (length ds) (length list)) [ inl lt ↦ absurd (some_kept list ds up h lt none) | inr le ↦ le ])

-- ---- what is left from a place on

drop-there : {X : Type 0} (xs : List X) (k : ℕ) (x : X) → slice_get xs k ≡ Some x → drop k xs ≡ x ∷ drop (suc k) xs
drop-there [] k x there = absurd cc
drop-there (y ∷ ys) zero x there = let same : y ≡ x = cc in ap (λ z. z ∷ ys) same
drop-there (y ∷ ys) (suc k) x there = drop-there ys k x there

drop-first : {X : Type 0} (xs : List X) (k : ℕ) (y : X) (ys : List X) → drop k xs ≡ y ∷ ys → slice_get xs k ≡ Some y
drop-first [] zero y ys e = absurd cc
drop-first [] (suc k) y ys e = absurd cc
drop-first (x ∷ xs) zero y ys e = let same : x ≡ y = cc in ap Some same
drop-first (x ∷ xs) (suc k) y ys e = drop-first xs k y ys e

slice_get-past : {X : Type 0} (xs : List X) (k : ℕ) → slice_get xs k ≡ None → drop k xs ≡ []
slice_get-past [] zero past = refl
slice_get-past [] (suc k) past = refl
slice_get-past (y ∷ ys) zero past = absurd cc
slice_get-past (y ∷ ys) (suc k) past = slice_get-past ys k past

drop-past : {X : Type 0} (xs : List X) (k : ℕ) → length xs ≤ k → drop k xs ≡ []
drop-past [] zero le = refl
drop-past [] (suc k) le = refl
drop-past (y ∷ ys) zero le = absurd (omega arith)
drop-past (y ∷ ys) (suc k) le = drop-past ys k (omega arith)

some-left : {X : Type 0} (xs : List X) (k : ℕ) → k < length xs → drop k xs ≢ []
some-left [] k lt e = absurd (omega arith)
some-left (y ∷ ys) zero lt e = cc
some-left (y ∷ ys) (suc k) lt e = some-left ys k (omega arith) e

same_front : {X : Type 0} (xs ys : List X) (x y : X) → xs ++ x ∷ [] ≡ ys ++ y ∷ [] → xs ≡ ys
same_front [] [] x y e = refl
same_front [] (b ∷ []) x y e = absurd cc
same_front [] (b ∷ d ∷ ys) x y e = absurd cc
same_front (a ∷ []) [] x y e = absurd cc
same_front (a ∷ d ∷ xs) [] x y e = absurd cc
same_front (a ∷ xs) (b ∷ ys) x y e = let first : a ≡ b = cc in let rest : xs ++ x ∷ [] ≡ ys ++ y ∷ [] = cc in let more = same_front xs ys x y rest in cc

-- what is left once the last element is taken away again
pub popped : {X : Type 0} (before after : List X) (x : X) (r : Option X) → before ++ x ∷ [] ≡ after ++ option_to_list r → r ≢ None → before ≡ after
popped before after x None e some = absurd (some refl)
popped before after x (Some y) e some = same_front before after x y e

-- an element within the list, whatever stands for one that lacks
pub found : {X : Type 0} (xs : List X) (k : ℕ) → k < length xs → (x : X) × (slice_get xs k ≡ Some x) × ((d : X) → get_or xs k d ≡ x)
found [] k lt = absurd (omega arith)
found (y ∷ ys) zero lt = (y, refl, λ d. refl)
found (y ∷ ys) (suc k) lt = found ys k (omega arith)

-- ---- whether the numbers are those of standing statements, in order

-- they are exactly where those that are left are numbers of what is left of the list
pub record Matched (list : List Numbered) (ds : List Dropped) (i place : ℕ) : Type 0 where
  pub up : Rises (numbers_in (drop i list))
  pub same : AreNumbersIn list (numbers_of ds) ↔ AreIn (numbers_in (drop i list)) (numbers_of (drop place ds))
  pub within : place ≤ length ds

pub matched_begins : (list : List Numbered) (ds : List Dropped) → IsStrictlyIncreasing (numbers_in list) → Matched list ds 0 0
matched_begins list ds up = record {
  up = rises (numbers_in list) up;
  same = (λ h. listed_are list (numbers_of ds) h, λ h. record { rising = increases (numbers_of ds) h.0; each_stands = h.1 });
  within = omega arith;
}

module _ (list : List Numbered) (ds : List Dropped) (i place : ℕ) (m : Matched list ds i place) where
  module _ (s : Numbered) (d : Dropped) (here : slice_get list i ≡ Some s) (next : slice_get ds place ≡ Some d) where
    rest_up : Rises (s.number ∷ numbers_in (drop (suc i) list))
    rest_up = subst (λ xs. Rises (numbers_in xs)) (drop-there list i s here) m.up

    both_left : AreNumbersIn list (numbers_of ds) ↔ AreIn (s.number ∷ numbers_in (drop (suc i) list)) (d.number ∷ numbers_of (drop (suc place) ds))
    both_left = subst (λ xs. AreNumbersIn list (numbers_of ds) ↔ AreIn (numbers_in xs) (d.number ∷ numbers_of (drop (suc place) ds))) (drop-there list i s here) (subst (λ xs. AreNumbersIn list (numbers_of ds) ↔ AreIn (numbers_in (drop i list)) (numbers_of xs)) (drop-there ds place d next) m.same)

    pub matched_next : d.number ≡ s.number → Matched list ds (suc i) (suc place)
    matched_next same =
        let here_too = subst (λ n. AreNumbersIn list (numbers_of ds) ↔ AreIn (s.number ∷ numbers_in (drop (suc i) list)) (n ∷ numbers_of (drop (suc place) ds))) same both_left in
        let step = first_in s.number (numbers_in (drop (suc i) list)) (numbers_of (drop (suc place) ds)) rest_up in
        let lt = slice_get_within ds place d next in
        record {
          up = rest_up.1;
          same = (λ h. step.0 (here_too.0 h), λ h. here_too.1 (step.1 h));
          within = omega arith;
        }

    pub matched_skip : d.number ≢ s.number → Matched list ds (suc i) place
    matched_skip other =
        let step = first_not_in s.number d.number (numbers_in (drop (suc i) list)) (numbers_of (drop (suc place) ds)) rest_up other in
        let same : AreNumbersIn list (numbers_of ds) ↔ AreIn (numbers_in (drop (suc i) list)) (d.number ∷ numbers_of (drop (suc place) ds)) = (λ h. step.0 (both_left.0 h), λ h. both_left.1 (step.1 h)) in
        record {
          up = rest_up.1;
          same = subst (λ xs. AreNumbersIn list (numbers_of ds) ↔ AreIn (numbers_in (drop (suc i) list)) (numbers_of xs)) (sym (drop-there ds place d next)) same;
          within = m.within;
        }

  none_left : drop place ds ≡ [] → AreNumbersIn list (numbers_of ds)
  none_left e = m.same.1 (subst (λ xs. AreIn (numbers_in (drop i list)) (numbers_of xs)) (sym e) (tt, tt))

  pub matched_all : slice_get ds place ≡ None → AreNumbersIn list (numbers_of ds)
  matched_all past = none_left (slice_get-past ds place past)

  pub matched_end : length list ≤ i → (place ≡ length ds) ↔ AreNumbersIn list (numbers_of ds)
  matched_end end = (λ all. none_left (drop-past ds place (omega arith)), λ h. by (cases_lt place (length ds)) h)
    where
      empty : AreIn [] (numbers_of (drop place ds)) → drop place ds ≡ []
      empty h = of (drop place ds) h
        where
          of : (xs : List Dropped) → AreIn [] (numbers_of xs) → xs ≡ []
          of [] h = refl
          of (x ∷ xs) h = absurd (let no = h.1.0 in cc)

      by : (place < length ds) ⊎ (length ds ≤ place) → AreNumbersIn list (numbers_of ds) → place ≡ length ds
      by (inl lt) h = absurd (some-left ds place lt (empty (subst (λ xs. AreIn (numbers_in xs) (numbers_of (drop place ds))) (drop-past list i end) (m.same.0 h))))
      by (inr le) h = let within = m.within in omega arith

-- ---- the walk

-- what is kept before the place, which dropped statements are left, and that those before the place are refuted
pub record Walked (t : DecisionTable) (list : List Numbered) (ds : List Dropped) (i place : ℕ) (kept : List Statement) : Type 0 where
  pub so_far : kept ≡ statements_in (kept_of (numbers_of ds) (take i list))
  pub left : numbers_of (drop place ds) ≡ filter (is_member nat_eq (numbers_of ds)) (numbers_in (drop i list))
  pub refuted : AreRefutedBefore t list ds i

pub walk_begins : (t : DecisionTable) (list : List Numbered) (ds : List Dropped) → IsStrictlyIncreasing (numbers_in list) → AreNumbersIn list (numbers_of ds) → Walked t list ds 0 0 []
walk_begins t list ds up h = record {
  so_far = refl;
  left = sym (numbers_among (numbers_in list) (numbers_of ds) (rises (numbers_in list) up) (listed_are list (numbers_of ds) h));
  refuted = λ j k d s lt. absurd (omega arith);
}

module _ (t : DecisionTable) (list : List Numbered) (ds : List Dropped) (i place : ℕ) (kept : List Statement) (w : Walked t list ds i place kept) (s : Numbered) (here : slice_get list i ≡ Some s) where
  pub walk_here : kept ++ s.statement ∷ [] ≡ kept_with (numbers_of ds) list i s
  walk_here = ap (λ xs. xs ++ s.statement ∷ []) w.so_far ∙ sym (map-append (λ (x : Numbered). x.statement) (kept_of (numbers_of ds) (take i list)) (s ∷ []))

  -- the numbers that are left, where the statement here is dropped and where it is not
  left_where : (b : Bool) → is_member nat_eq (numbers_of ds) s.number ≡ b → filter (is_member nat_eq (numbers_of ds)) (numbers_in (drop i list)) ≡ cond b (s.number ∷ filter (is_member nat_eq (numbers_of ds)) (numbers_in (drop (suc i) list))) (filter (is_member nat_eq (numbers_of ds)) (numbers_in (drop (suc i) list)))
  left_where b is = ap (λ xs. filter (is_member nat_eq (numbers_of ds)) (numbers_in xs)) (drop-there list i s here) ∙ ap (λ b. cond b (s.number ∷ filter (is_member nat_eq (numbers_of ds)) (numbers_in (drop (suc i) list))) (filter (is_member nat_eq (numbers_of ds)) (numbers_in (drop (suc i) list)))) is

  -- a statement that is dropped has the number of the next dropped one
  next_is : is_among (numbers_of ds) s ≡ true → (d : Dropped) × (slice_get ds place ≡ Some d) × (d.number ≡ s.number)
  next_is among = by (drop place ds) refl
    where
      e : numbers_of (drop place ds) ≡ s.number ∷ filter (is_member nat_eq (numbers_of ds)) (numbers_in (drop (suc i) list))
      e = w.left ∙ left_where true among

      by : (rest : List Dropped) → drop place ds ≡ rest → (d : Dropped) × (slice_get ds place ≡ Some d) × (d.number ≡ s.number)
      by [] is = absurd (let no : [] ≡ s.number ∷ filter (is_member nat_eq (numbers_of ds)) (numbers_in (drop (suc i) list)) = sym (ap numbers_of is) ∙ e in cc)
      by (d ∷ rest) is = (d, drop-first ds place d rest is, (let same : d.number ∷ numbers_of rest ≡ s.number ∷ filter (is_member nat_eq (numbers_of ds)) (numbers_in (drop (suc i) list)) = sym (ap numbers_of is) ∙ e in cc))

  -- before the place and at it
  refuted_more : ((j : ℕ) (d : Dropped) → slice_get ds j ≡ Some d → d.number ≡ s.number → RefutesDropped t (kept_with (numbers_of ds) list i s) d) → AreRefutedBefore t list ds (suc i)
  refuted_more last j k d x lt there stands same = elim (cases_lt k i) [
    | inl less ↦ w.refuted j k d x less there stands same
    | inr le ↦
        let at : k ≡ i = omega arith in
        let is : s ≡ x = some_same (sym here ∙ subst (λ n. slice_get list n ≡ Some x) at stands) in
        let r = last j d there (same ∙ sym (ap standing_number is)) in
        subst (λ n. RefutesDropped t (kept_with (numbers_of ds) list n x) d) (sym at) (subst (λ y. RefutesDropped t (kept_with (numbers_of ds) list i y) d) is r)
  ]

  pub walk_keeps : ((d : Dropped) → slice_get ds place ≡ Some d → d.number ≢ s.number) → Walked t list ds (suc i) place (kept ++ s.statement ∷ [])
  walk_keeps other = by (cases_Bool (is_among (numbers_of ds) s))
    where
      by : (is_among (numbers_of ds) s ≡ true) ⊎ (is_among (numbers_of ds) s ≡ false) → Walked t list ds (suc i) place (kept ++ s.statement ∷ [])
      by (inl among) = let d = next_is among in absurd (other d.0 d.1 d.2)
      by (inr stays) = record {
        so_far = walk_here ∙ ap statements_in (sym (kept_more (numbers_of ds) list i s here stays));
        left = w.left ∙ left_where false stays;
        refuted = refuted_more (λ j d there same. let among = member-at dropped_number ds j d there in absurd (false≢true (sym stays ∙ subst (λ n. is_member nat_eq (numbers_of ds) n ≡ true) same among)));
      }

  pub walk_drops : (d : Dropped) → Rises (numbers_of ds) → slice_get ds place ≡ Some d → d.number ≡ s.number → RefutesDropped t (kept ++ s.statement ∷ []) d → Walked t list ds (suc i) (suc place) kept
  walk_drops d up there same r = record {
    so_far = w.so_far ∙ ap statements_in (sym (dropped_more (numbers_of ds) list i s here among));
    left = rest;
    refuted = refuted_more (λ j other at number. let one : d ≡ other = same_number dropped_number ds place j d other up there at (same ∙ sym number) in subst (RefutesDropped t (kept_with (numbers_of ds) list i s)) one (subst (λ xs. RefutesDropped t xs d) walk_here r));
  }
    where
      among : is_among (numbers_of ds) s ≡ true
      among = subst (λ n. is_member nat_eq (numbers_of ds) n ≡ true) same (member-at dropped_number ds place d there)

      rest : numbers_of (drop (suc place) ds) ≡ filter (is_member nat_eq (numbers_of ds)) (numbers_in (drop (suc i) list))
      rest = let e : d.number ∷ numbers_of (drop (suc place) ds) ≡ s.number ∷ filter (is_member nat_eq (numbers_of ds)) (numbers_in (drop (suc i) list)) = sym (ap numbers_of (drop-there ds place d there)) ∙ w.left ∙ left_where true among in cc

  pub walk_refuses : (d : Dropped) (e : RepairCheckFault) → Rises (numbers_in list) → Rises (numbers_of ds) → slice_get ds place ≡ Some d → d.number ≡ s.number → RefusesOne t (kept ++ s.statement ∷ []) d e → RefusesDropped t list ds e
  walk_refuses d faults.WrongList up rising there same h = h
  walk_refuses d faults.WrongKind up rising there same h = h
  walk_refuses d (faults.Dropped n r) up rising there same h = (fails, none)
    where
      fails : FailsDropped t list ds n r
      fails = record {
        dropped = d;
        dropped_at = place;
        dropped_there = there;
        dropped_number = sym h.0;
        dropped_first = λ j other at number. first_place dropped_number ds place j d other rising there at (number ∙ h.0);
        statement = s;
        statement_at = i;
        statement_there = here;
        statement_number = sym same ∙ sym h.0;
        statement_first = λ k other at number. first_place standing_number list i k s other up here at (number ∙ h.0 ∙ same);
        rejected = (subst (λ xs. RefusesOne t xs d (faults.Dropped n r)) walk_here h).1;
      }

      none : (m : ℕ) (q : Reject) → m < n → FailsDropped t list ds m q → ⊥
      none m q less f =
          let number = f.statement_number in
          let own = h.0 in
          let before = lesser_earlier standing_number list f.statement_at i f.statement s up f.statement_there here (omega (arith, number, own, same, less)) in
          multipliers.not_accepted (base_system t (kept_with (numbers_of ds) list f.statement_at f.statement)) f.dropped.proof.weak f.dropped.proof.strict q f.rejected
          (w.refuted f.dropped_at f.statement_at f.dropped f.statement before f.dropped_there f.statement_there (f.dropped_number ∙ sym number))
  walk_refuses d (faults.Base r) up rising there same h = h
  walk_refuses d faults.Memory up rising there same h = tt

pub walk_ends : (t : DecisionTable) (list : List Numbered) (ds : List Dropped) (i place : ℕ) (kept : List Statement) → Walked t list ds i place kept → length list ≤ i → (kept ≡ statements_in (kept_of (numbers_of ds) list)) × AreRefuted t list ds
walk_ends t list ds i place kept w end =
    (w.so_far ∙ ap (λ xs. statements_in (kept_of (numbers_of ds) xs)) (take_all i list end), λ j k d s there stands same. let l = slice_get_within list k s stands in w.refuted j k d s (omega arith) there stands same)
