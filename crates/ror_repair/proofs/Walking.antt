-- What each statement that is kept or dropped leaves to the next.
use Rattle.std.proofs.Common.{◌≡◌, ◌≢◌, ◌⊎◌, inl, inr, ℕ, zero, suc, ◌+◌, ◌<◌, ◌≤◌, true, false, List, [], ◌∷◌, ◌++◌, take, length, Some, refl, sym, ap, ap₂, subst, ◌∙◌, append-nil, arith}
use Rattle.std.specs.Prelude.{slice_get, nat_eq, not}
use Rattle.std.specs.List.{AllByRecursion}
use Rattle.std.specs.List.Sorted.{IsStrictlyIncreasing}
use Rattle.std.specs.Set.{is_member}
use Rattle.std.proofs.lemmas.Bool.{cases_Bool, eqb-true}
use Rattle.std.proofs.lemmas.List.{map-append, take_all}
use Rattle.std.proofs.lemmas.List.Elements.{filter-append}
use Rattle.ror_text.proofs.Everywhere.{all-append, all-map, all-by, all_at}
use Rattle.ror_statement.specs.declared.statement.Statement.{Statement}
use Rattle.ror_statement.specs.declared.statement.Numbered.{Numbered}
use Rattle.ror_statement.specs.declared.question.Conclusion.TheVariants as conclusions
use Rattle.ror_statement.proofs.Sublists.{IsSublist, sublist-map, lawful-sublist}
use Rattle.ror_table.specs.Table.{DecisionTable}
use Rattle.ror_value.specs.Over.{IsLawfulIn}
use Rattle.ror_system.specs.System.{LinearSystem}
use Rattle.ror_system.specs.declared.accept.Multipliers.{Multipliers}
use Rattle.ror_pivot.specs.declared.note.Bits.{Bits}
use Rattle.ror_pivot.specs.Answers.{most_of}
use Rattle.ror_proof.specs.declared.answer.Certificate.{Certificate}
use Rattle.ror_proof.specs.declared.answer.Certificate.TheVariants as certificates
use Rattle.ror_proof.specs.declared.answer.WideText.{WideText}
use Rattle.ror_proof.specs.declared.kept.Dropped.{Dropped}
use Rattle.ror_check.specs.Proof.{base_system, base_side, Shows}
use Rattle.ror_statement.specs.Statements.{numbers_in, statements_in}
use Rattle.ror_check.specs.Repair.{is_among, kept_of, kept_with, numbers_of, RefutesDropped, AreRefuted, IsBaseKind}
use Rattle.ror_check.specs.Steps.{IsAcceptedFor}
use Rattle.ror_check.proofs.Numbers.{member-here, member-later, member-cases, Rises, rises, increases, rises-places}
use Rattle.ror_check.proofs.Repairs.{proved_is_repair, with_lawful}
use Rattle.ror_given.specs.Notes.{HasNoteAt}
use Rattle.ror_relation.specs.Decisions.{ShowsAsBase}
use Rattle.ror_repair.specs.Repairs.{IsDroppedWithin, IsGivenRepair, IsBaseAt, IsWideRepair}
use Rattle.ror_repair.proofs.Nothing.{begins}

-- ---- numbers, and one that is above them

abbrev IsBelow : ℕ → List ℕ → Type 0
IsBelow n ms = AllByRecursion (λ m. m < n) ms

member-front : (n : ℕ) (xs ys : List ℕ) → is_member nat_eq xs n ≡ true → is_member nat_eq (xs ++ ys) n ≡ true
member-front n [] ys h = absurd cc
member-front n (x ∷ xs) ys h = elim (member-cases x n xs h) [
  | inl same ↦ subst (λ m. is_member nat_eq (m ∷ xs ++ ys) n ≡ true) same (member-here n (xs ++ ys))
  | inr later ↦ member-later x n (xs ++ ys) (member-front n xs ys later)
]

member-last : (n : ℕ) (xs : List ℕ) → is_member nat_eq (xs ++ n ∷ []) n ≡ true
member-last n [] = member-here n []
member-last n (x ∷ xs) = member-later x n (xs ++ n ∷ []) (member-last n xs)

member-other : (m n : ℕ) (xs : List ℕ) → m ≢ n → is_member nat_eq (xs ++ n ∷ []) m ≡ is_member nat_eq xs m
member-other m n [] other = elim (cases_Bool (nat_eq m n)) [ inl yes_ ↦ absurd (other (eqb-true m n yes_)) | inr no_ ↦ rw no_ refl ]
member-other m n (x ∷ xs) other = let rest = member-other m n xs other in elim (cases_Bool (nat_eq m x)) [ inl yes_ ↦ rw yes_ refl | inr no_ ↦ rw no_ rest ]

member-below : (n m : ℕ) (xs : List ℕ) → IsBelow n xs → is_member nat_eq xs m ≡ true → m < n
member-below n m [] low h = absurd cc
member-below n m (x ∷ xs) low h = elim (member-cases x m xs h) [ inl same ↦ let here = low.0 in omega arith | inr later ↦ member-below n m xs low.1 later ]

members_below : (n : ℕ) (all ns : List ℕ) → IsBelow n all → AllByRecursion (λ m. is_member nat_eq all m ≡ true) ns → IsBelow n ns
members_below n all ns low members = all-by (λ m. is_member nat_eq all m ≡ true) (λ m. m < n) ns (λ m there. member-below n m all low there) members

not_member : (n : ℕ) (xs : List ℕ) → IsBelow n xs → is_member nat_eq xs n ≡ false
not_member n xs low = elim (cases_Bool (is_member nat_eq xs n)) [ inl yes_ ↦ let less = member-below n n xs low yes_ in absurd (omega arith) | inr no_ ↦ no_ ]

rises-more : (n : ℕ) (xs : List ℕ) → Rises xs → IsBelow n xs → Rises (xs ++ n ∷ [])
rises-more n [] up low = (tt, tt)
rises-more n (x ∷ xs) up low = (all-append (λ m. x < m) xs (n ∷ []) up.0 (low.0, tt), rises-more n xs up.1 low.1)

below-front : (n k : ℕ) (xs : List Numbered) → IsBelow n (numbers_in xs) → IsBelow n (numbers_in (take k xs))
below-front n zero xs low = tt
below-front n (suc k) [] low = tt
below-front n (suc k) (x ∷ xs) low = (low.0, below-front n k xs low.1)

abbrev standing_number : Numbered → ℕ
standing_number x = x.number

-- those before a place have lesser numbers
pub below_here : (list : List Numbered) (i : ℕ) (s : Numbered) → Rises (numbers_in list) → slice_get list i ≡ Some s → IsBelow s.number (numbers_in (take i list))
below_here [] i s up there = absurd cc
below_here (x ∷ list) zero s up there = tt
below_here (x ∷ list) (suc i) s up there = (rises-places standing_number (x ∷ list) 0 (suc i) x s up refl there (omega arith), below_here list i s up.1 there)

-- ---- places of a list with one element more

record IsOfFront {X : Type 0} (front : List X) (last : X) (k : ℕ) (x : X) : Type 0 where
  there : slice_get front k ≡ Some x
  before : take k (front ++ last ∷ []) ≡ take k front

record IsLast {X : Type 0} (front : List X) (last : X) (k : ℕ) (x : X) : Type 0 where
  same : x ≡ last
  before : take k (front ++ last ∷ []) ≡ front

front_or_last : {X : Type 0} (front : List X) (last : X) (k : ℕ) (x : X) → slice_get (front ++ last ∷ []) k ≡ Some x → IsOfFront front last k x ⊎ IsLast front last k x
front_or_last [] last zero x there = inr (record { same = cc; before = refl })
front_or_last [] last (suc k) x there = absurd cc
front_or_last (y ∷ front) last zero x there = inl (record { there = there; before = refl })
front_or_last (y ∷ front) last (suc k) x there = elim (front_or_last front last k x there) [
  | inl r ↦ inl (record { there = r.there; before = ap (λ zs. y ∷ zs) r.before })
  | inr r ↦ inr (record { same = r.same; before = ap (λ zs. y ∷ zs) r.before })
]

-- ---- what is kept of numbers below one that is dropped

kept-below : (n : ℕ) (ns : List ℕ) (xs : List Numbered) → IsBelow n (numbers_in xs) → kept_of (ns ++ n ∷ []) xs ≡ kept_of ns xs
kept-below n ns [] low = refl
kept-below n ns (x ∷ xs) low =
    let rest = kept-below n ns xs low.1 in
    let less = low.0 in
    let same : is_member nat_eq (ns ++ n ∷ []) x.number ≡ is_member nat_eq ns x.number = member-other x.number n ns (λ e. absurd (omega (arith, less, e))) in
    elim (cases_Bool (is_member nat_eq ns x.number)) [
      | inl yes_ ↦ rw (same, yes_) rest
      | inr no_ ↦ rw (same, no_) (ap (λ more. x ∷ more) rest)
    ]

-- ---- one statement more

module _ (most : ℕ) (t : DecisionTable) (front : List Numbered) (s : Numbered) (ds : List Dropped) (base : Certificate) (kept : List Statement)
    (g : IsGivenRepair most t front (record { dropped = ds; base = base })) (is : kept ≡ statements_in (kept_of (numbers_of ds) front)) (low : IsBelow s.number (numbers_in front)) where
  dropped_below : IsBelow s.number (numbers_of ds)
  dropped_below = members_below s.number (numbers_in front) (numbers_of ds) low g.proved.numbers.each_stands

  one_below : (j : ℕ) (d : Dropped) → slice_get ds j ≡ Some d → d.number < s.number
  one_below j d there = all_at (λ (d : Dropped). d.number < s.number) ds j d ((all-map (λ n. n < s.number) (λ (d : Dropped). d.number) ds).1 dropped_below) there

  standing_below : (k : ℕ) (x : Numbered) → slice_get front k ≡ Some x → x.number < s.number
  standing_below k x there = all_at (λ (x : Numbered). x.number < s.number) front k x ((all-map (λ n. n < s.number) standing_number front).1 low) there

  numbers_more : numbers_in (front ++ s ∷ []) ≡ numbers_in front ++ s.number ∷ []
  numbers_more = map-append standing_number front (s ∷ [])

  members_more : AllByRecursion (λ n. is_member nat_eq (numbers_in (front ++ s ∷ [])) n ≡ true) (numbers_of ds)
  members_more = all-by (λ n. is_member nat_eq (numbers_in front) n ≡ true) (λ n. is_member nat_eq (numbers_in (front ++ s ∷ [])) n ≡ true) (numbers_of ds) (λ n there. subst (λ ms. is_member nat_eq ms n ≡ true) (sym numbers_more) (member-front n (numbers_in front) (s.number ∷ []) there)) g.proved.numbers.each_stands

  with_here : kept ++ s.statement ∷ [] ≡ statements_in (kept_of (numbers_of ds) front ++ s ∷ [])
  with_here = ap (λ xs. xs ++ s.statement ∷ []) is ∙ sym (map-append (λ (x : Numbered). x.statement) (kept_of (numbers_of ds) front) (s ∷ []))

  -- the statement is kept

  kept_here : kept_of (numbers_of ds) (front ++ s ∷ []) ≡ kept_of (numbers_of ds) front ++ s ∷ []
  kept_here =
      let not_here : is_among (numbers_of ds) s ≡ false = not_member s.number (numbers_of ds) dropped_below in
      let one : kept_of (numbers_of ds) (s ∷ []) ≡ s ∷ [] = rw not_here refl in
      filter-append (λ x. not (is_among (numbers_of ds) x)) front (s ∷ []) ∙ ap (λ more. kept_of (numbers_of ds) front ++ more) one

  pub kept_list : kept ++ s.statement ∷ [] ≡ statements_in (kept_of (numbers_of ds) (front ++ s ∷ []))
  kept_list = with_here ∙ ap statements_in (sym kept_here)

  of_solution : (kept : List Numbered) (system : List Statement) (c : Certificate) → ShowsAsBase most conclusions.Yes (base_system t system) c → IsBaseKind kept c × IsAcceptedFor (base_system t system) c
  of_solution kept system (certificates.Solution x) h = (tt, h.0)
  of_solution kept system (certificates.Multipliers m) h = absurd h.0

  pub keeps : (c : Certificate) → ShowsAsBase most conclusions.Yes (base_system t (kept ++ s.statement ∷ [])) c → IsGivenRepair most t (front ++ s ∷ []) (record { dropped = ds; base = c })
  keeps c shows =
      let as_base = of_solution (kept_of (numbers_of ds) (front ++ s ∷ [])) (kept ++ s.statement ∷ []) c shows in
      record {
        proved = record {
          numbers = record { rising = g.proved.numbers.rising; each_stands = members_more };
          kind = as_base.0;
          refuted = λ j k d x at there same. elim (front_or_last front s k x there) [
            | inl r ↦ subst (λ before. RefutesDropped t (statements_in (kept_of (numbers_of ds) before ++ x ∷ [])) d) (sym r.before) (g.proved.refuted j k d x at r.there same)
            | inr r ↦ let less = one_below j d at in let e : d.number ≡ s.number = same ∙ ap standing_number r.same in absurd (omega (arith, less, e))
          ];
          base = subst (λ xs. IsAcceptedFor (base_system t xs) c) kept_list as_base.1;
        };
        narrow = record { dropped = g.narrow.dropped; base = shows.1 };
      }

  -- the statement is dropped

  module _ (d : Dropped) (number : d.number ≡ s.number) (refutes : RefutesDropped t (kept ++ s.statement ∷ []) d) (within : IsDroppedWithin most d) where
    numbers_are : numbers_of (ds ++ d ∷ []) ≡ numbers_of ds ++ s.number ∷ []
    numbers_are = map-append (λ (d : Dropped). d.number) ds (d ∷ []) ∙ ap (λ n. numbers_of ds ++ n ∷ []) number

    before_same : (xs : List Numbered) → IsBelow s.number (numbers_in xs) → kept_of (numbers_of (ds ++ d ∷ [])) xs ≡ kept_of (numbers_of ds) xs
    before_same xs below = ap (λ ns. kept_of ns xs) numbers_are ∙ kept-below s.number (numbers_of ds) xs below

    dropped_here : kept_of (numbers_of (ds ++ d ∷ [])) (front ++ s ∷ []) ≡ kept_of (numbers_of ds) front
    dropped_here =
        let among : is_among (numbers_of (ds ++ d ∷ [])) s ≡ true = subst (λ ns. is_member nat_eq ns s.number ≡ true) (sym numbers_are) (member-last s.number (numbers_of ds)) in
        let one : kept_of (numbers_of (ds ++ d ∷ [])) (s ∷ []) ≡ [] = rw among refl in
        filter-append (λ x. not (is_among (numbers_of (ds ++ d ∷ [])) x)) front (s ∷ []) ∙ ap (λ more. kept_of (numbers_of (ds ++ d ∷ [])) front ++ more) one ∙ append-nil (kept_of (numbers_of (ds ++ d ∷ [])) front) ∙ before_same front low

    pub dropped_list : kept ≡ statements_in (kept_of (numbers_of (ds ++ d ∷ [])) (front ++ s ∷ []))
    dropped_list = is ∙ ap statements_in (sym dropped_here)

    refuted_front : (k : ℕ) (e : Dropped) (x : Numbered) → IsOfFront front s k x → RefutesDropped t (kept_with (numbers_of ds) front k x) e → RefutesDropped t (kept_with (numbers_of (ds ++ d ∷ [])) (front ++ s ∷ []) k x) e
    refuted_front k e x r h =
        let same : kept_of (numbers_of (ds ++ d ∷ [])) (take k (front ++ s ∷ [])) ≡ kept_of (numbers_of ds) (take k front) = ap (kept_of (numbers_of (ds ++ d ∷ []))) r.before ∙ before_same (take k front) (below-front s.number k front low) in
        subst (λ before. RefutesDropped t (statements_in (before ++ x ∷ [])) e) (sym same) h

    refuted_last : (k : ℕ) (e : Dropped) (x : Numbered) → e ≡ d → IsLast front s k x → RefutesDropped t (kept_with (numbers_of (ds ++ d ∷ [])) (front ++ s ∷ []) k x) e
    refuted_last k e x same r =
        let before : kept_of (numbers_of (ds ++ d ∷ [])) (take k (front ++ s ∷ [])) ≡ kept_of (numbers_of ds) front = ap (kept_of (numbers_of (ds ++ d ∷ []))) r.before ∙ before_same front low in
        let all : kept ++ s.statement ∷ [] ≡ kept_with (numbers_of (ds ++ d ∷ [])) (front ++ s ∷ []) k x = with_here ∙ ap₂ (λ xs y. statements_in (xs ++ y ∷ [])) (sym before) (sym r.same) in
        subst (λ e. RefutesDropped t (kept_with (numbers_of (ds ++ d ∷ [])) (front ++ s ∷ []) k x) e) (sym same) (subst (λ xs. RefutesDropped t xs d) all refutes)

    refuted_more : AreRefuted t (front ++ s ∷ []) (ds ++ d ∷ [])
    refuted_more j k e x at there same = by (front_or_last ds d j e at) (front_or_last front s k x there)
      where
        by : IsOfFront ds d j e ⊎ IsLast ds d j e → IsOfFront front s k x ⊎ IsLast front s k x → RefutesDropped t (kept_with (numbers_of (ds ++ d ∷ [])) (front ++ s ∷ []) k x) e
        by (inl p) (inl r) = refuted_front k e x r (g.proved.refuted j k e x p.there r.there same)
        by (inl p) (inr r) = let less = one_below j e p.there in let equal : e.number ≡ s.number = same ∙ ap standing_number r.same in absurd (omega (arith, less, equal))
        by (inr p) (inl r) = let less = standing_below k x r.there in let equal : s.number ≡ x.number = sym number ∙ sym (ap (λ (d : Dropped). d.number) p.same) ∙ same in absurd (omega (arith, less, equal))
        by (inr p) (inr r) = refuted_last k e x p.same r

    kind_same : (c : Certificate) → IsBaseKind (kept_of (numbers_of ds) front) c → IsBaseKind (kept_of (numbers_of (ds ++ d ∷ [])) (front ++ s ∷ [])) c
    kind_same c h = subst (λ kept. IsBaseKind kept c) (sym dropped_here) h

    pub drops : IsGivenRepair most t (front ++ s ∷ []) (record { dropped = ds ++ d ∷ []; base = base })
    drops = record {
      proved = record {
        numbers = record {
          rising = increases (numbers_of (ds ++ d ∷ [])) (subst Rises (sym numbers_are) (rises-more s.number (numbers_of ds) (rises (numbers_of ds) g.proved.numbers.rising) dropped_below));
          each_stands = subst (λ ms. AllByRecursion (λ n. is_member nat_eq (numbers_in (front ++ s ∷ [])) n ≡ true) ms) (sym numbers_are)
              (all-append (λ n. is_member nat_eq (numbers_in (front ++ s ∷ [])) n ≡ true) (numbers_of ds) (s.number ∷ []) members_more
              (subst (λ ms. is_member nat_eq ms s.number ≡ true) (sym numbers_more) (member-last s.number (numbers_in front)), tt));
        };
        kind = kind_same base g.proved.kind;
        refuted = refuted_more;
        base = subst (λ kept. IsAcceptedFor (base_system t (statements_in kept)) base) (sym dropped_here) g.proved.base;
      };
      narrow = record { dropped = all-append (IsDroppedWithin most) ds (d ∷ []) g.narrow.dropped (within, tt); base = g.narrow.base };
    }

-- ---- the statement's system is too wide

sublist-take : {X : Type 0} (k : ℕ) (xs : List X) → IsSublist (take k xs) xs
sublist-take zero xs = tt
sublist-take (suc k) [] = tt
sublist-take (suc k) (x ∷ xs) = inl (refl, sublist-take k xs)

lawful-take : (t : DecisionTable) (list : List Numbered) (k : ℕ) → IsLawfulIn t (statements_in list) → IsLawfulIn t (statements_in (take k list))
lawful-take t list k lawful = lawful-sublist (length t.alternatives) (length t.criteria) t.classes (statements_in (take k list)) (statements_in list) (sublist-map (λ (y : Numbered). y.statement) (take k list) list (sublist-take k list)) lawful

module _ (most : ℕ) (t : DecisionTable) (list : List Numbered) (i : ℕ) (s : Numbered) (ds : List Dropped) (base : Certificate) (kept : List Statement)
    (lawful : IsLawfulIn t (statements_in list)) (there : slice_get list i ≡ Some s)
    (g : IsGivenRepair most t (take i list) (record { dropped = ds; base = base })) (is : kept ≡ statements_in (kept_of (numbers_of ds) (take i list))) where
  here : kept ++ s.statement ∷ [] ≡ kept_with (numbers_of ds) list i s
  here = ap (λ xs. xs ++ s.statement ∷ []) is ∙ sym (map-append (λ (x : Numbered). x.statement) (kept_of (numbers_of ds) (take i list)) (s ∷ []))

  pub lawful_here : IsLawfulIn t (kept ++ s.statement ∷ [])
  lawful_here = subst (IsLawfulIn t) (sym here) (with_lawful t (numbers_of ds) list i s there lawful)

  pub wide_here : (note : WideText) → HasNoteAt most (base_system t (kept ++ s.statement ∷ [])) note → IsWideRepair most t list s.number note
  wide_here note noted = record {
    place = i;
    statement = s;
    there = there;
    numbered = refl;
    dropped = numbers_of ds;
    repaired = proved_is_repair t (take i list) (record { dropped = ds; base = base }) (lawful-take t list i lawful) g.proved;
    noted = subst (λ xs. HasNoteAt most (base_system t xs) note) here noted;
  }

-- ---- on the way along the list

-- what a repair has come to before a place
pub record IsWalked (most : ℕ) (t : DecisionTable) (list : List Numbered) (i : ℕ) (ds : List Dropped) (base : Certificate) (kept : List Statement) : Type 0 where
  pub given : IsGivenRepair most t (take i list) (record { dropped = ds; base = base })
  pub listed : kept ≡ statements_in (kept_of (numbers_of ds) (take i list))

front_suc : (list : List Numbered) (i : ℕ) (s : Numbered) → slice_get list i ≡ Some s → take (suc i) list ≡ take i list ++ s ∷ []
front_suc [] i s there = absurd cc
front_suc (x ∷ list) zero s there = let same : x ≡ s = cc in ap (λ y. y ∷ []) same
front_suc (x ∷ list) (suc i) s there = ap (λ ys. x ∷ ys) (front_suc list i s there)

front_more : (list : List Numbered) (i : ℕ) (s : Numbered) → slice_get list i ≡ Some s → take (i + 1) list ≡ take i list ++ s ∷ []
front_more list i s there = let on : suc i ≡ i + 1 = omega arith in subst (λ n. take n list ≡ take i list ++ s ∷ []) on (front_suc list i s there)

pub walk_begins : (b : Bits) (t : DecisionTable) (list : List Numbered) (ds : List Dropped) (c : Certificate) (kept : List Statement) → ds ≡ [] → kept ≡ [] → IsBaseAt 1 t [] c → IsWalked (most_of b) t list 0 ds c kept
walk_begins b t list ds c kept no_ds none h = rw (no_ds, none) (record { given = begins b t c h; listed = refl })

module _ (most : ℕ) (t : DecisionTable) (list : List Numbered) (i : ℕ) (ds : List Dropped) (base : Certificate) (kept : List Statement) (w : IsWalked most t list i ds base kept)
    (s : Numbered) (up : IsStrictlyIncreasing (numbers_in list)) (there : slice_get list i ≡ Some s) where
  low : AllByRecursion (λ m. m < s.number) (numbers_in (take i list))
  low = below_here list i s (rises (numbers_in list) up) there

  -- `system` is that of those kept before the statement and itself
  pub walk_keeps : (c : Certificate) (with_it : List Statement) (system : LinearSystem) → with_it ≡ kept ++ s.statement ∷ [] → system ≡ base_system t with_it → ShowsAsBase most conclusions.Yes system c → IsWalked most t list (i + 1) ds c with_it
  walk_keeps c with_it system pushed is shows =
      let own : ShowsAsBase most conclusions.Yes (base_system t (kept ++ s.statement ∷ [])) c = subst (λ z. ShowsAsBase most conclusions.Yes z c) (is ∙ ap (base_system t) pushed) shows in
      record {
        given = subst (λ front. IsGivenRepair most t front (record { dropped = ds; base = c })) (sym (front_more list i s there)) (keeps most t (take i list) s ds base kept w.given w.listed low c own);
        listed = pushed ∙ kept_list most t (take i list) s ds base kept w.given w.listed low ∙ ap (λ front. statements_in (kept_of (numbers_of ds) front)) (sym (front_more list i s there));
      }

  pub walk_holds : (with_it : List Statement) (system : LinearSystem) → with_it ≡ kept ++ s.statement ∷ [] → system ≡ base_system t with_it → Shows (base_side conclusions.Yes) system base → IsWalked most t list (i + 1) ds base with_it
  walk_holds with_it system pushed is shows = walk_keeps base with_it system pushed is (shows, w.given.narrow.base)

  pub walk_drops : (n : ℕ) (m : Multipliers) (with_it after : List Statement) (more : List Dropped) (system : LinearSystem) → with_it ≡ kept ++ s.statement ∷ [] → system ≡ base_system t with_it → ShowsAsBase most conclusions.Contradiction system (certificates.Multipliers m)
      → more ≡ ds ++ record { number = n; proof = m } ∷ [] → n ≡ s.number → after ≡ kept → IsWalked most t list (i + 1) more base after
  walk_drops n m with_it after more system pushed is shows pushed_too number back =
      let d : Dropped = record { number = n; proof = m } in
      let own : ShowsAsBase most conclusions.Contradiction (base_system t (kept ++ s.statement ∷ [])) (certificates.Multipliers m) = subst (λ z. ShowsAsBase most conclusions.Contradiction z (certificates.Multipliers m)) (is ∙ ap (base_system t) pushed) shows in
      rw (pushed_too, back) (record {
        given = subst (λ front. IsGivenRepair most t front (record { dropped = ds ++ d ∷ []; base = base })) (sym (front_more list i s there)) (drops most t (take i list) s ds base kept w.given w.listed low d number own.0 own.1);
        listed = dropped_list most t (take i list) s ds base kept w.given w.listed low d number own.0 own.1 ∙ ap (λ front. statements_in (kept_of (numbers_of (ds ++ d ∷ [])) front)) (sym (front_more list i s there));
      })

  module _ (lawful : IsLawfulIn t (statements_in list)) where
    pub walk_lawful : (with_it : List Statement) → with_it ≡ kept ++ s.statement ∷ [] → IsLawfulIn t with_it
    walk_lawful with_it pushed = subst (IsLawfulIn t) (sym pushed) (lawful_here most t list i s ds base kept lawful there w.given w.listed)

    pub walk_too_wide : (n : ℕ) (with_it : List Statement) (system : LinearSystem) (note : WideText) → with_it ≡ kept ++ s.statement ∷ [] → system ≡ base_system t with_it → HasNoteAt most system note → n ≡ s.number → IsWideRepair most t list n note
    walk_too_wide n with_it system note pushed is noted number =
        let own : HasNoteAt most (base_system t (kept ++ s.statement ∷ [])) note = subst (λ z. HasNoteAt most z note) (is ∙ ap (base_system t) pushed) noted in
        rw number (wide_here most t list i s ds base kept lawful there w.given w.listed note own)

pub walk_ends : (most : ℕ) (t : DecisionTable) (list : List Numbered) (i : ℕ) (ds : List Dropped) (base : Certificate) (kept : List Statement) → IsWalked most t list i ds base kept → length list ≤ i → IsGivenRepair most t list (record { dropped = ds; base = base })
walk_ends most t list i ds base kept w end = subst (λ front. IsGivenRepair most t front (record { dropped = ds; base = base })) (take_all i list end) w.given
