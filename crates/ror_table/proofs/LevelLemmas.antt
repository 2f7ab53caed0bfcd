-- How the levels are told apart by a performance, and what they are once it is put in its place.
use Rattle.std.proofs.Common.{◌≡◌, ℕ, ◌+◌, ◌<◌, ◌≤◌, Bool, true, false, ◌||◌, not, List, [], ◌∷◌, ◌++◌, take, drop, length, get_or, filter, zero, suc, inl, inr, All, Contains, refl, sym, ap, subst, ◌∙◌, arith}
use Rattle.std.specs.Prelude.{◌≢◌, ◌⊎◌, AllPairs}
use Rattle.std.specs.List.{AllWithin, IsDistinct, insert, position_or_len}
use Rattle.std.specs.List.Sorted.{IsPartitionedBy}
use Rattle.std.specs.Set.{is_member}
use Rattle.std.proofs.lemmas.Bool.{cases_lt, cases_Bool, false≢true}
use Rattle.std.proofs.lemmas.List.{get_or_default, take-append-drop}
use Rattle.std.proofs.lemmas.List.Elements.{All-append, All-cons, All-take, All-drop, All-nil}
use Rattle.std.proofs.lemmas.List.Folds.{list_any-append}
use Rattle.std.proofs.lemmas.List.Kept.{AllPairs-cons}
use Rattle.std.proofs.lemmas.List.Sums.{fails_before_first, passes_at_first}
use Rattle.std.proofs.lemmas.Map.Made.{is_member-Decides, IsDistinct-from_AllPairs}
use Rattle.ror_table.specs.declared.amount.Amount.{Amount}
use Rattle.ror_table.specs.declared.direction.Direction.{Direction}
use Rattle.ror_table.specs.Amounts.{IsAmount, is_worse, is_same}
use Rattle.ror_table.specs.Levels.{Rises, IsLevels}
use Rattle.ror_table.proofs.AmountLemmas.{is_same-Decides, is_worse-trans, is_worse-itself, is_worse-total, is_worse-one_way}

-- ---- how many pass a test

-- how many elements pass, where those that pass are the first n
pub length-filter_first : {X : Type 0} (p : X → Bool) (xs : List X) (n : ℕ) → n ≤ length xs → AllWithin (λ x. p x ≡ true) xs 0 n → AllWithin (λ x. p x ≡ false) xs n (length xs) → length (filter p xs) ≡ n
length-filter_first p [] n le pass fail = omega arith
length-filter_first p (x ∷ xs) zero le pass fail =
    let rest : length (filter p xs) ≡ 0 = length-filter_first p xs 0 (omega arith) (λ k d a b. absurd (omega arith)) (λ k d a b. fail (suc k) d (omega arith) (omega arith)) in
    rw (fail 0 x (omega arith) (omega arith)) rest
length-filter_first p (x ∷ xs) (suc n) le pass fail =
    let rest : length (filter p xs) ≡ n = length-filter_first p xs n (omega arith) (λ k d a b. pass (suc k) d (omega arith) (omega arith)) (λ k d a b. fail (suc k) d (omega arith) (omega arith)) in
    rw (pass 0 x (omega arith) (omega arith)) (ap suc rest)

-- the first n elements pass the test, the others don't
pub record IsSplit {X : Type 0} (p : X → Bool) (xs : List X) (n : ℕ) : Type 0 where
  pub within : n ≤ length xs
  pub pass : AllWithin (λ x. p x ≡ true) xs 0 n
  pub fail : AllWithin (λ x. p x ≡ false) xs n (length xs)

pub split_length : {X : Type 0} (p : X → Bool) (xs : List X) (n : ℕ) → IsSplit p xs n → length (filter p xs) ≡ n
split_length p xs n split = length-filter_first p xs n split.within split.pass split.fail

not_false : (b : Bool) → not b ≡ false → b ≡ true
not_false true h = refl
not_false false h = absurd cc

not_both : (b : Bool) → not b ≡ true → b ≡ true → ⊥
not_both true h k = false≢true h
not_both false h k = false≢true k

pub IsSplit-partitioned : {X : Type 0} (p : X → Bool) (xs : List X) → IsPartitionedBy p xs → IsSplit p xs (length (filter p xs))
IsSplit-partitioned {X} p xs parts =
    let q : X → Bool = λ x. not (p x) in
    let n : ℕ = position_or_len q xs in
    let split : IsSplit p xs n = record {
      within = position_within q xs;
      pass = λ k d a b. not_false (p (get_or xs k d)) (fails_before_first q xs k d b);
      fail = λ k d a b. elim (cases_Bool (p (get_or xs k d))) [
        | inl kept ↦ absurd (not_both (p (get_or xs n d)) (passes_at_first q xs d (omega arith)) (parts n k d a b kept))
        | inr fails ↦ fails
      ];
    } in
    subst (IsSplit p xs) (sym (split_length p xs n split)) split
  where
    position_within : (q : X → Bool) (ys : List X) → position_or_len q ys ≤ length ys
    position_within q [] = omega arith
    position_within q (y ∷ ys) = grind (arith, position_within q ys)

-- ---- how many levels are worse

-- the levels that are worse than a performance come first
pub IsPartitionedBy-worse : (direction : Direction) (levels : List Amount) (p : Amount) → Rises direction levels → All IsAmount levels → IsAmount p → IsPartitionedBy (λ level. is_worse direction level p) levels
IsPartitionedBy-worse direction levels p up amounts amount i j d le in' h =
    elim (cases_lt i j) [
      | inl lt ↦ is_worse-trans direction (get_or levels i d) (get_or levels j d) p (amounts i d (omega arith)) (amounts j d in') amount (up i j d lt in') h
      | inr ge ↦ let same : j ≡ i = omega arith in subst (λ n. is_worse direction (get_or levels n d) p ≡ true) same h
    ]

pub split_worse : (direction : Direction) (levels : List Amount) (p : Amount) → Rises direction levels → All IsAmount levels → IsAmount p → IsSplit (λ level. is_worse direction level p) levels (length (filter (λ level. is_worse direction level p) levels))
split_worse direction levels p up amounts amount = IsSplit-partitioned (λ level. is_worse direction level p) levels (IsPartitionedBy-worse direction levels p up amounts amount)

-- as many levels are worse than a level as come before it
pub worse_than_level : (direction : Direction) (levels : List Amount) (r : ℕ) (d : Amount) → Rises direction levels → r < length levels → length (filter (λ level. is_worse direction level (get_or levels r d)) levels) ≡ r
worse_than_level direction levels r d up within = length-filter_first (λ level. is_worse direction level (get_or levels r d)) levels r (omega arith) pass fail
  where
    pass : AllWithin (λ level. is_worse direction level (get_or levels r d) ≡ true) levels 0 r
    pass k e a b = rw (get_or_default levels r d e within) (up k r e b within)

    fail : AllWithin (λ level. is_worse direction level (get_or levels r d) ≡ false) levels r (length levels)
    fail k e a b = elim (cases_lt r k) [
      | inl later ↦ rw (get_or_default levels r d e within) (is_worse-one_way direction (get_or levels r e) (get_or levels k e) (up r k e later b))
      | inr earlier ↦
          let same : k ≡ r = omega arith in
          rw (same, get_or_default levels r d e within) (is_worse-itself direction (get_or levels r e))
    ]

-- ---- a performance put in its place

pub All-insert : {X : Type 0} (P : X → Type 0) (xs : List X) (n : ℕ) (x : X) → All P xs → P x → All P (insert xs n x)
All-insert P xs n x all here = All-append P (take n xs) (x ∷ drop n xs) (All-take P n xs all) (All-cons P x (drop n xs) here (All-drop P n xs all))

AllPairs-insert : {X : Type 0} (R : X → X → Type 0) (xs : List X) (n : ℕ) (x : X) → n ≤ length xs → AllPairs R xs → AllWithin (λ y. R y x) xs 0 n → AllWithin (λ y. R x y) xs n (length xs) → AllPairs R (insert xs n x)
AllPairs-insert R [] zero x le pairs before after = AllPairs-cons R x [] (All-nil (R x)) pairs
AllPairs-insert R [] (suc n) x le pairs before after = absurd (omega arith)
AllPairs-insert R (y ∷ ys) zero x le pairs before after = AllPairs-cons R x (y ∷ ys) (λ k d lt. after k d (omega arith) lt) pairs
AllPairs-insert R (y ∷ ys) (suc n) x le pairs before after =
    AllPairs-cons R y (insert ys n x)
    (All-insert (R y) ys n x (λ k d lt. pairs 0 (suc k) d (omega arith) (omega arith)) (before 0 y (omega arith) (omega arith)))
    (AllPairs-insert R ys n x (omega arith) (λ i j d lt in'. pairs (suc i) (suc j) d (omega arith) (omega arith))
    (λ k d a b. before (suc k) d (omega arith) (omega arith)) (λ k d a b. after (suc k) d (omega arith) (omega arith)))

-- the levels still rise, where the first that is not worse is not the performance itself
pub Rises-insert : (direction : Direction) (levels : List Amount) (p : Amount) (n : ℕ) → Rises direction levels → All IsAmount levels → IsAmount p → n ≡ length (filter (λ level. is_worse direction level p) levels)
    → ((d : Amount) → n < length levels → is_same (get_or levels n d) p ≡ false) → Rises direction (insert levels n p)
Rises-insert direction levels p n up amounts amount is other =
    AllPairs-insert (λ x y. is_worse direction x y ≡ true) levels n p split.within up split.pass after
  where
    split : IsSplit (λ level. is_worse direction level p) levels n
    split = subst (IsSplit (λ level. is_worse direction level p) levels) (sym is) (split_worse direction levels p up amounts amount)

    after : AllWithin (λ y. is_worse direction p y ≡ true) levels n (length levels)
    after k d a b = elim (is_worse-total direction (get_or levels k d) p (amounts k d b) amount) [
      | inl worse ↦ absurd (false≢true (sym (split.fail k d a b) ∙ worse))
      | inr (inl same) ↦ elim (cases_lt n k) [
        | inl later ↦ absurd (false≢true (sym (split.fail n d (omega arith) (omega arith)) ∙ subst (λ x. is_worse direction (get_or levels n d) x ≡ true) same (up n k d later b)))
        | inr here ↦
            let at : k ≡ n = omega arith in
            absurd (false≢true (sym (other d (omega arith)) ∙ (is_same-Decides (get_or levels n d) p).1 (subst (λ m. get_or levels m d ≡ p) at same)))
      ]
      | inr (inr better) ↦ better
    ]

moved : (a b c : Bool) → (a || (b || c)) ≡ (b || (a || c))
moved true true c = refl
moved true false c = refl
moved false b c = refl

pub is_member-insert : (levels : List Amount) (n : ℕ) (p q : Amount) → is_member is_same (insert levels n p) q ≡ (is_same q p || is_member is_same levels q)
is_member-insert levels n p q =
    list_any-append (is_same q) (take n levels) (p ∷ drop n levels) ∙ moved (is_member is_same (take n levels) q) (is_same q p) (is_member is_same (drop n levels) q)
    ∙ ap (λ b. is_same q p || b) (sym (list_any-append (is_same q) (take n levels) (drop n levels)) ∙ ap (λ xs. is_member is_same xs q) (take-append-drop n levels))

-- ---- the levels of performances

apart : (direction : Direction) (p q : Amount) → is_worse direction p q ≡ true → p ≢ q
apart direction p q worse same = false≢true (sym (is_worse-itself direction p) ∙ subst (λ x. is_worse direction p x ≡ true) (sym same) worse)

IsDistinct-rises : (direction : Direction) (levels : List Amount) → Rises direction levels → IsDistinct is_same levels
IsDistinct-rises direction levels up = IsDistinct-from_AllPairs is_same-Decides levels (λ i j d lt in'. apart direction (get_or levels i d) (get_or levels j d) (up i j d lt in'))

pub IsLevels-from : (direction : Direction) (performances levels : List Amount) → Rises direction levels → All IsAmount levels → ((q : Amount) → is_member is_same levels q ≡ is_member is_same performances q) → IsLevels direction performances levels
IsLevels-from direction performances levels up amounts members = record { rises = up; amounts = amounts; distinct = IsDistinct-rises direction levels up; members = members }

pub IsLevels-none : (direction : Direction) → IsLevels direction [] []
IsLevels-none direction = IsLevels-from direction [] [] (λ i j d lt in'. absurd (omega arith)) (λ k d lt. absurd (omega arith)) (λ q. refl)

swapped : (a b c d : Bool) → a ≡ (b || c) → c ≡ d → a ≡ (d || (b || false))
swapped a true true d is same = is ∙ sym (ap (λ x. x || true) (sym same))
swapped a true false d is same = is ∙ ap (λ x. x || true) same
swapped a false true d is same = is ∙ ap (λ x. x || false) same
swapped a false false d is same = is ∙ ap (λ x. x || false) same

-- the levels of one performance more
pub IsLevels-more : (direction : Direction) (performances more levels after : List Amount) (p : Amount) → IsLevels direction performances levels → more ≡ performances ++ p ∷ [] → Rises direction after → All IsAmount after
    → ((q : Amount) → is_member is_same after q ≡ (is_same q p || is_member is_same levels q)) → IsLevels direction more after
IsLevels-more direction performances more levels after p before is up amounts members =
    subst (λ ps. IsLevels direction ps after) (sym is) (IsLevels-from direction (performances ++ p ∷ []) after up amounts
    (λ q. swapped (is_member is_same after q) (is_same q p) (is_member is_same levels q) (is_member is_same performances q) (members q) (before.members q) ∙ sym (list_any-append (is_same q) performances (p ∷ []))))

or_right : (a b : Bool) → b ≡ true → (a || b) ≡ true
or_right true b h = refl
or_right false b h = h

-- a member more is none more
pub member_more : (x : Amount) (xs : List Amount) (q : Amount) → is_member is_same xs x ≡ true → is_member is_same xs q ≡ (is_same q x || is_member is_same xs q)
member_more x xs q there = elim (cases_Bool (is_same q x)) [
  | inl same ↦ subst (λ y. is_member is_same xs y ≡ true) (sym ((is_same-Decides q x).0 same)) there ∙ sym (ap (λ b. b || is_member is_same xs q) same)
  | inr other ↦ sym (ap (λ b. b || is_member is_same xs q) other)
]

pub member_at : (levels : List Amount) (n : ℕ) (d p : Amount) → n < length levels → is_same (get_or levels n d) p ≡ true → is_member is_same levels p ≡ true
member_at levels n d p within same = (is_member-Decides is_same-Decides levels p).1 (n, within, get_or_default levels n p d within ∙ (is_same-Decides (get_or levels n d) p).0 same)

not_member_at : (levels : List Amount) (n : ℕ) (d p : Amount) → is_member is_same levels p ≡ false → n < length levels → is_same (get_or levels n d) p ≡ false
not_member_at levels n d p absent within = elim (cases_Bool (is_same (get_or levels n d) p)) [
  | inl same ↦ absurd (false≢true (sym absent ∙ member_at levels n d p within same))
  | inr other ↦ other
]

-- a level that was read, and that is the performance or isn't
pub member_read : (levels : List Amount) (n : ℕ) (x p : Amount) (same : Bool) → n < length levels → x ≡ get_or levels n x → same ≡ is_same x p → same ≡ true → is_member is_same levels p ≡ true
member_read levels n x p same within read is h = member_at levels n x p within (subst (λ y. is_same y p ≡ true) read (sym is ∙ h))

pub other_read : (levels : List Amount) (n : ℕ) (x p : Amount) (same : Bool) → x ≡ get_or levels n x → same ≡ is_same x p → same ≡ false → (d : Amount) → n < length levels → is_same (get_or levels n d) p ≡ false
other_read levels n x p same read is h d within = subst (λ y. is_same y p ≡ false) (read ∙ get_or_default levels n x d within) (sym is ∙ h)

-- performances have levels
pub levels_exist : (direction : Direction) (performances : List Amount) → All IsAmount performances → (levels : List Amount) × IsLevels direction performances levels
levels_exist direction [] amounts = ([], IsLevels-none direction)
levels_exist direction (p ∷ ps) amounts =
    let before = levels_exist direction ps (λ k d lt. amounts (suc k) d (omega arith)) in
    let levels : List Amount = before.0 in
    let up : IsLevels direction ps levels = before.1 in
    let amount : IsAmount p = amounts 0 p (omega arith) in
    elim (cases_Bool (is_member is_same levels p)) [
      | inl there ↦ (levels, IsLevels-from direction (p ∷ ps) levels up.rises up.amounts (λ q. member_more p levels q there ∙ ap (λ b. is_same q p || b) (up.members q)))
      | inr absent ↦
          let n : ℕ = length (filter (λ level. is_worse direction level p) levels) in (
            insert levels n p,
            IsLevels-from direction (p ∷ ps) (insert levels n p)
                (Rises-insert direction levels p n up.rises up.amounts amount refl (λ d within. not_member_at levels n d p absent within))
                (All-insert IsAmount levels n p up.amounts amount)
                (λ q. is_member-insert levels n p q ∙ ap (λ b. is_same q p || b) (up.members q)),
          )
    ]
