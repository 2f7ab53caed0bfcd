-- Parts of a list by numbers, and what they take with them.
use Rattle.std.proofs.Common.{◌≡◌, ◌≢◌, ◌↔◌, ◌⊎◌, inl, inr, ℕ, zero, suc, ◌+◌, ◌-◌, ◌<◌, ◌≤◌, Bool, true, false, List, [], ◌∷◌, ◌++◌, length, take, drop, get_or, Some, append-nil, refl, sym, ap, subst, ◌∙◌, arith}
use Rattle.std.specs.Prelude.{nat_eq, not, slice_get}
use Rattle.std.specs.List.{AllByRecursion, filter}
use Rattle.std.specs.List.Sorted.{IsStrictlyIncreasing}
use Rattle.std.specs.Set.{is_member}
use Rattle.std.proofs.lemmas.Bool.{cases_Bool, eqb-true, eq-eqb, false≢true}
use Rattle.std.proofs.lemmas.List.{map-append, take_all}
use Rattle.ror_statement.specs.declared.statement.Numbered.{Numbered}
use Rattle.ror_statement.specs.Statements.{numbers_in, statements_in}
use Rattle.ror_statement.proofs.Sublists.{IsSublist, sublist-skip, sublist-all, sublist-append, sublist-map, sublist-filter, length-sublist, all-sublist, lawful-sublist}
use Rattle.ror_table.specs.Table.{DecisionTable}
use Rattle.ror_value.specs.Over.{IsLawfulIn}
use Rattle.ror_check.specs.Repair.{AreNumbersIn, is_among}
use Rattle.ror_check.proofs.Numbers.{member-here, member-later, member-cases, Rises, rises, increases, AreIn, first_in, first_not_in, numbers_among, own_members}
use Rattle.ror_check.proofs.RepairWalk.{length-numbers}
use Rattle.ror_reason.specs.Reducts.{part_of, stated, without}
use Rattle.ror_reason.specs.Laws.{AreAmong}

-- ---- members

pub member_all : (P : ℕ → Type 0) (ns : List ℕ) → AllByRecursion P ns → (n : ℕ) → is_member nat_eq ns n ≡ true → P n
member_all P [] all n there = absurd cc
member_all P (m ∷ ns) all n there = elim (member-cases m n ns there) [ inl same ↦ subst P (sym same) all.0 | inr later ↦ member_all P ns all.1 n later ]

pub all_members : (P : ℕ → Type 0) (ns : List ℕ) → ((n : ℕ) → is_member nat_eq ns n ≡ true → P n) → AllByRecursion P ns
all_members P [] each = tt
all_members P (n ∷ ns) each = (each n (member-here n ns), all_members P ns (λ m there. each m (member-later n m ns there)))

pub member_there : (ns : List ℕ) (i n : ℕ) → slice_get ns i ≡ Some n → is_member nat_eq ns n ≡ true
member_there [] i n there = absurd cc
member_there (m ∷ ns) zero n there = let same : m ≡ n = cc in subst (λ k. is_member nat_eq (m ∷ ns) k ≡ true) same (member-here m ns)
member_there (m ∷ ns) (suc i) n there = member-later m n ns (member_there ns i n there)

sublist-among : (ms ns : List ℕ) → IsSublist ms ns → AreAmong ms ns
sublist-among ms ns h = all-sublist (λ m. is_member nat_eq ns m ≡ true) ms ns h (own_members ns)

pub among_or_not : (ms ns : List ℕ) → AreAmong ms ns ⊎ ((m : ℕ) × (is_member nat_eq ms m ≡ true) × (is_member nat_eq ns m ≡ false))
among_or_not [] ns = inl tt
among_or_not (m ∷ ms) ns = elim (cases_Bool (is_member nat_eq ns m)) [
  | inl yes_ ↦ elim (among_or_not ms ns) [
    | inl all ↦ inl (yes_, all)
    | inr other ↦ inr (other.0, member-later m other.0 ms other.1, other.2)
  ]
  | inr no_ ↦ inr (m, member-here m ms, no_)
]

-- ---- all numbers but one

pub without-among : (n : ℕ) (ns : List ℕ) → AreAmong (without n ns) ns
without-among n ns = sublist-among (without n ns) ns (sublist-filter (λ m. not (nat_eq n m)) ns)

pub without-member : (n m : ℕ) (ns : List ℕ) → is_member nat_eq ns m ≡ true → m ≢ n → is_member nat_eq (without n ns) m ≡ true
without-member n m [] there other = absurd cc
without-member n m (k ∷ ns) there other = elim (cases_Bool (nat_eq n k)) [
  | inl yes_ ↦ elim (member-cases k m ns there) [
    | inl same ↦ absurd (other (same ∙ sym (eqb-true n k yes_)))
    | inr later ↦ rw yes_ (without-member n m ns later other)
  ]
  | inr no_ ↦ elim (member-cases k m ns there) [
    | inl same ↦ rw no_ (subst (λ j. is_member nat_eq (k ∷ without n ns) j ≡ true) (sym same) (member-here k (without n ns)))
    | inr later ↦ rw no_ (member-later k m (without n ns) (without-member n m ns later other))
  ]
]

pub without-shorter : (n : ℕ) (ns : List ℕ) → is_member nat_eq ns n ≡ true → length (without n ns) < length ns
without-shorter n [] there = absurd cc
without-shorter n (k ∷ ns) there = elim (cases_Bool (nat_eq n k)) [
  | inl yes_ ↦ let le = length-sublist (without n ns) ns (sublist-filter (λ m. not (nat_eq n m)) ns) in rw yes_ (omega (arith, le))
  | inr no_ ↦ elim (member-cases k n ns there) [
    | inl same ↦ absurd (false≢true (sym no_ ∙ eq-eqb n k same))
    | inr later ↦ let lt = without-shorter n ns later in rw no_ (omega (arith, lt))
  ]
]

-- ---- numbers of a list

rises-sublist : (ms ns : List ℕ) → IsSublist ms ns → Rises ns → Rises ms
rises-sublist [] ns h up = tt
rises-sublist (m ∷ ms) [] h up = absurd h
rises-sublist (m ∷ ms) (n ∷ ns) (inl h) up = (subst (λ k. AllByRecursion (λ l. k < l) ms) (sym h.0) (all-sublist (λ l. n < l) ms ns h.1 up.0), rises-sublist ms ns h.1 up.1)
rises-sublist (m ∷ ms) (n ∷ ns) (inr h) up = rises-sublist (m ∷ ms) ns h up.1

pub numbers-sublist : (list : List Numbered) (ms ns : List ℕ) → IsSublist ms ns → AreNumbersIn list ns → AreNumbersIn list ms
numbers-sublist list ms ns h are = record {
  rising = increases ms (rises-sublist ms ns h (rises ns are.rising));
  each_stands = all-sublist (λ n. is_member nat_eq (numbers_in list) n ≡ true) ms ns h are.each_stands;
}

pub numbers-whole : (list : List Numbered) → IsStrictlyIncreasing (numbers_in list) → AreNumbersIn list (numbers_in list)
numbers-whole list up = record { rising = up; each_stands = own_members (numbers_in list) }

pub numbers-without : (list : List Numbered) (n : ℕ) (ns : List ℕ) → AreNumbersIn list ns → AreNumbersIn list (without n ns)
numbers-without list n ns are = numbers-sublist list (without n ns) ns (sublist-filter (λ m. not (nat_eq n m)) ns) are

length-statements : (list : List Numbered) → length (statements_in list) ≡ length list
length-statements [] = refl
length-statements (x ∷ list) = ap suc (length-statements list)

-- there are no more of them than statements
pub numbers_few : (list : List Numbered) (ns : List ℕ) → IsStrictlyIncreasing (numbers_in list) → AreNumbersIn list ns → length ns ≤ length (statements_in list)
numbers_few list ns up are =
    let found = numbers_among (numbers_in list) ns (rises (numbers_in list) up) (rises ns are.rising, are.each_stands) in
    let fewer = length-sublist (filter (is_member nat_eq ns) (numbers_in list)) (numbers_in list) (sublist-filter (is_member nat_eq ns) (numbers_in list)) in
    let same = ap length found in
    omega (arith, fewer, same, length-numbers list, length-statements list)

-- ---- parts

filter-weaker : {X : Type 0} (p q : X → Bool) (xs : List X) → ((x : X) → p x ≡ true → q x ≡ true) → IsSublist (filter p xs) (filter q xs)
filter-weaker p q [] brings = tt
filter-weaker p q (x ∷ xs) brings =
    let rest = filter-weaker p q xs brings in
    elim (cases_Bool (p x)) [
      | inl yes_ ↦ let also = brings x yes_ in rw (yes_, also) (inl (refl, rest))
      | inr no_ ↦ elim (cases_Bool (q x)) [
        | inl more ↦ rw (no_, more) (sublist-skip (filter p xs) x (filter q xs) rest)
        | inr none ↦ rw (no_, none) rest
      ]
    ]

pub stated-among : (list : List Numbered) (ms ns : List ℕ) → AreAmong ms ns → IsSublist (stated ms list) (stated ns list)
stated-among list ms ns among =
    sublist-map (λ (x : Numbered). x.statement) (part_of ms list) (part_of ns list)
    (filter-weaker (λ x. is_among ms x) (λ x. is_among ns x) list (λ x there. member_all (λ m. is_member nat_eq ns m ≡ true) ms among x.number there))

pub stated-within : (list : List Numbered) (ns : List ℕ) → IsSublist (stated ns list) (statements_in list)
stated-within list ns = sublist-map (λ (x : Numbered). x.statement) (part_of ns list) list (sublist-filter (λ x. is_among ns x) list)

pub stated_lawful : (t : DecisionTable) (list : List Numbered) (ns : List ℕ) → IsLawfulIn t (statements_in list) → IsLawfulIn t (stated ns list)
stated_lawful t list ns lawful = lawful-sublist (length t.alternatives) (length t.criteria) t.classes (stated ns list) (statements_in list) (stated-within list ns) lawful

filter-all : {X : Type 0} (p : X → Bool) (xs : List X) → AllByRecursion (λ x. p x ≡ true) xs → filter p xs ≡ xs
filter-all p [] all = refl
filter-all p (x ∷ xs) all = let yes_ = all.0 in rw yes_ (ap (λ more. x ∷ more) (filter-all p xs all.1))

own_among : (list : List Numbered) (ns : List ℕ) → AreAmong (numbers_in list) ns → AllByRecursion (λ x. is_among ns x ≡ true) list
own_among [] ns among = tt
own_among (x ∷ list) ns among = (among.0, own_among list ns among.1)

pub stated-whole : (list : List Numbered) → stated (numbers_in list) list ≡ statements_in list
stated-whole list = ap statements_in (filter-all (λ x. is_among (numbers_in list) x) list (own_among list (numbers_in list) (own_members (numbers_in list))))

pub stated-none : (list : List Numbered) → stated [] list ≡ []
stated-none [] = refl
stated-none (x ∷ list) = stated-none list

-- ---- whether numbers are those of a list

pub are-in-numbers : (list : List Numbered) (ns : List ℕ) → AreNumbersIn list ns ↔ AreIn (numbers_in list) ns
are-in-numbers list ns = (λ h. (rises ns h.rising, h.each_stands), λ h. record { rising = increases ns h.0; each_stands = h.1 })

pub numbers_none : (list : List Numbered) → AreNumbersIn list []
numbers_none list = (are-in-numbers list []).1 (tt, tt)

pub numbers_of_nothing : (n : ℕ) (ns : List ℕ) → AreNumbersIn [] (n ∷ ns) → ⊥
numbers_of_nothing n ns h = let none = h.each_stands.0 in cc

pub numbers_next : (x : Numbered) (list : List Numbered) (n : ℕ) (ns : List ℕ) → IsStrictlyIncreasing (numbers_in (x ∷ list)) → x.number ≡ n → AreNumbersIn (x ∷ list) (n ∷ ns) ↔ AreNumbersIn list ns
numbers_next x list n ns up same =
    let step = first_in x.number (numbers_in list) ns (rises (numbers_in (x ∷ list)) up) in
    let here = subst (λ m. AreIn (numbers_in (x ∷ list)) (m ∷ ns) ↔ AreIn (numbers_in list) ns) same step in
    (λ h. (are-in-numbers list ns).1 (here.0 ((are-in-numbers (x ∷ list) (n ∷ ns)).0 h)), λ h. (are-in-numbers (x ∷ list) (n ∷ ns)).1 (here.1 ((are-in-numbers list ns).0 h)))

pub numbers_skip : (x : Numbered) (list : List Numbered) (n : ℕ) (ns : List ℕ) → IsStrictlyIncreasing (numbers_in (x ∷ list)) → x.number ≢ n → AreNumbersIn (x ∷ list) (n ∷ ns) ↔ AreNumbersIn list (n ∷ ns)
numbers_skip x list n ns up other =
    let step = first_not_in x.number n (numbers_in list) ns (rises (numbers_in (x ∷ list)) up) (λ e. other (sym e)) in
    (λ h. (are-in-numbers list (n ∷ ns)).1 (step.0 ((are-in-numbers (x ∷ list) (n ∷ ns)).0 h)), λ h. (are-in-numbers (x ∷ list) (n ∷ ns)).1 (step.1 ((are-in-numbers list (n ∷ ns)).0 h)))

-- the list without its first element, as it is taken
abbrev rest_of : {X : Type 0} → List X → List X
rest_of xs = take (length xs - 1) (drop 1 xs)

split-first : {X : Type 0} (xs : List X) (d : X) → 1 ≤ length xs → xs ≡ get_or xs 0 d ∷ rest_of xs
split-first [] d some = absurd (omega arith)
split-first (x ∷ xs) d some = ap (λ ys. x ∷ ys) (sym (take_all (length (x ∷ xs) - 1) xs (omega arith)))

pub rest_rises : (list : List Numbered) → 1 ≤ length list → IsStrictlyIncreasing (numbers_in list) → IsStrictlyIncreasing (numbers_in (rest_of list))
rest_rises [] some up = absurd (omega arith)
rest_rises (x ∷ list) some up =
    let whole : take (length (x ∷ list) - 1) list ≡ list = take_all (length (x ∷ list) - 1) list (omega arith) in
    subst (λ ys. IsStrictlyIncreasing (numbers_in ys)) (sym whole) (increases (numbers_in list) (rises (numbers_in (x ∷ list)) up).1)

pub next_decides : (B : Type 0) (list : List Numbered) (ns : List ℕ) (d : Numbered) → 1 ≤ length list → 1 ≤ length ns → IsStrictlyIncreasing (numbers_in list) → (get_or list 0 d).number ≡ get_or ns 0 0
    → B ↔ AreNumbersIn (rest_of list) (rest_of ns) → B ↔ AreNumbersIn list ns
next_decides B list ns d some more up same rest =
    let listed = split-first list d some in
    let numbered = split-first ns 0 more in
    let step = numbers_next (get_or list 0 d) (rest_of list) (get_or ns 0 0) (rest_of ns) (subst (λ xs. IsStrictlyIncreasing (numbers_in xs)) listed up) same in
    let all : B ↔ AreNumbersIn (get_or list 0 d ∷ rest_of list) (get_or ns 0 0 ∷ rest_of ns) = (λ b. step.1 (rest.0 b), λ h. rest.1 (step.0 h)) in
    subst (λ ms. B ↔ AreNumbersIn list ms) (sym numbered) (subst (λ xs. B ↔ AreNumbersIn xs (get_or ns 0 0 ∷ rest_of ns)) (sym listed) all)

pub skip_decides : (B : Type 0) (list : List Numbered) (ns : List ℕ) (d : Numbered) → 1 ≤ length list → 1 ≤ length ns → IsStrictlyIncreasing (numbers_in list) → (get_or list 0 d).number ≢ get_or ns 0 0
    → B ↔ AreNumbersIn (rest_of list) ns → B ↔ AreNumbersIn list ns
skip_decides B list ns d some more up other rest =
    let listed = split-first list d some in
    let numbered = split-first ns 0 more in
    let step = numbers_skip (get_or list 0 d) (rest_of list) (get_or ns 0 0) (rest_of ns) (subst (λ xs. IsStrictlyIncreasing (numbers_in xs)) listed up) other in
    let here : B ↔ AreNumbersIn (rest_of list) (get_or ns 0 0 ∷ rest_of ns) = subst (λ ms. B ↔ AreNumbersIn (rest_of list) ms) numbered rest in
    let all : B ↔ AreNumbersIn (get_or list 0 d ∷ rest_of list) (get_or ns 0 0 ∷ rest_of ns) = (λ b. step.1 (here.0 b), λ h. here.1 (step.0 h)) in
    subst (λ ms. B ↔ AreNumbersIn list ms) (sym numbered) (subst (λ xs. B ↔ AreNumbersIn xs (get_or ns 0 0 ∷ rest_of ns)) (sym listed) all)

pub get_or-there : {X : Type 0} (xs : List X) (i : ℕ) (d : X) → i < length xs → slice_get xs i ≡ Some (get_or xs i d)
get_or-there [] i d lt = absurd (omega arith)
get_or-there (x ∷ xs) zero d lt = refl
get_or-there (x ∷ xs) (suc i) d lt = get_or-there xs i d (omega arith)

-- ---- those that are marked

front_suc : {X : Type 0} (xs : List X) (i : ℕ) (x : X) → slice_get xs i ≡ Some x → take (suc i) xs ≡ take i xs ++ x ∷ []
front_suc [] i x there = absurd cc
front_suc (y ∷ xs) zero x there = let same : y ≡ x = cc in ap (λ z. z ∷ []) same
front_suc (y ∷ xs) (suc i) x there = ap (λ zs. y ∷ zs) (front_suc xs i x there)

numbers_more : (list : List Numbered) (i : ℕ) (x : Numbered) → slice_get list i ≡ Some x → numbers_in (take (i + 1) list) ≡ numbers_in (take i list) ++ x.number ∷ []
numbers_more list i x there =
    let on : suc i ≡ i + 1 = omega arith in
    subst (λ n. numbers_in (take n list) ≡ numbers_in (take i list) ++ x.number ∷ []) on (ap numbers_in (front_suc list i x there) ∙ map-append (λ (y : Numbered). y.number) (take i list) (x ∷ []))

pub marked_more : (list : List Numbered) (i : ℕ) (x : Numbered) (ns ms : List ℕ) → slice_get list i ≡ Some x → ms ≡ ns ++ x.number ∷ [] → IsSublist ns (numbers_in (take i list)) → IsSublist ms (numbers_in (take (i + 1) list))
marked_more list i x ns ms there pushed h = rw (pushed, numbers_more list i x there) (sublist-append ns (numbers_in (take i list)) (x.number ∷ []) (x.number ∷ []) h (sublist-all (x.number ∷ [])))

pub marked_skip : (list : List Numbered) (i : ℕ) (x : Numbered) (ns : List ℕ) → slice_get list i ≡ Some x → IsSublist ns (numbers_in (take i list)) → IsSublist ns (numbers_in (take (i + 1) list))
marked_skip list i x ns there h = rw (numbers_more list i x there) (subst (λ ms. IsSublist ms (numbers_in (take i list) ++ x.number ∷ [])) (append-nil ns) (sublist-append ns (numbers_in (take i list)) [] (x.number ∷ []) h tt))

pub marked_end : (list : List Numbered) (i : ℕ) (ns : List ℕ) → IsStrictlyIncreasing (numbers_in list) → IsSublist ns (numbers_in (take i list)) → length list ≤ i → AreNumbersIn list ns
marked_end list i ns up h end = numbers-sublist list ns (numbers_in list) (subst (λ xs. IsSublist ns (numbers_in xs)) (take_all i list end) h) (numbers-whole list up)
