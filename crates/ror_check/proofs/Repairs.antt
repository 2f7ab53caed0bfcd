-- What the certificates of a repair prove, that a list has one repair, and that a repair keeps as much as it can.
use Rattle.std.proofs.Common.{◌≡◌, ◌≢◌, ◌↔◌, ◌⊎◌, inl, inr, ℕ, zero, suc, Bool, true, false, List, [], ◌∷◌, ◌++◌, take, drop, length, Option, Some, None, refl, sym, ap, subst, ◌∙◌, arith}
use Rattle.std.specs.Prelude.{slice_get, nat_eq, not}
use Rattle.std.specs.List.{AllByRecursion, filter}
use Rattle.std.specs.Set.{is_member}
use Rattle.std.proofs.lemmas.Bool.{cases_Bool, false≢true}
use Rattle.std.proofs.lemmas.List.Elements.{filter-append}
use Rattle.ror_statement.specs.declared.statement.Numbered.{Numbered}
use Rattle.ror_statement.proofs.Sublists.{IsSublist, sublist-all, sublist-append, sublist-map, sublist-with, sublist-kept, sublist-filter, lawful-sublist}
use Rattle.ror_table.specs.Table.{DecisionTable}
use Rattle.ror_value.specs.Over.{IsLawfulIn}
use Rattle.ror_value.specs.Meaning.{IsConsistent}
use Rattle.ror_value.proofs.FewerStatements.{consistent-sublist, contradictory-sublist}
use Rattle.ror_system.proofs.Motzkin.{not_both}
use Rattle.ror_rows.proofs.Deciding.{base_solvable_is_consistent, base_refuted_is_contradictory}
use Rattle.ror_proof.specs.declared.answer.Certificate.{Certificate}
use Rattle.ror_proof.specs.declared.answer.Certificate.TheVariants as certificates
use Rattle.ror_proof.specs.declared.kept.Dropped.{Dropped}
use Rattle.ror_proof.specs.declared.kept.Kept.{Kept}
use Rattle.ror_check.specs.Proof.{base_system}
use Rattle.ror_check.specs.Steps.{IsAcceptedFor}
use Rattle.ror_statement.specs.Statements.{numbers_in, statements_in}
use Rattle.ror_check.specs.Repair.{AreNumbersIn, is_among, kept_of, kept_with, IsRepair, numbers_of, IsBaseKind, IsProvedRepair}
use Rattle.ror_check.specs.Laws.{IsMaximalRepair}
use Rattle.ror_check.proofs.Numbers.{member-here, at-member, rises, AreIn, own_members, same_members}

-- ---- parts of a list

abbrev keeps : List ℕ → Numbered → Bool
keeps ns x = not (is_among ns x)

pub with_within : (ns : List ℕ) (list : List Numbered) (k : ℕ) (x : Numbered) → slice_get list k ≡ Some x → IsSublist (kept_with ns list k x) (statements_in list)
with_within ns list k x there = sublist-map (λ (y : Numbered). y.statement) (kept_of ns (take k list) ++ x ∷ []) list (sublist-with (keeps ns) list k x there)

pub with_lawful : (t : DecisionTable) (ns : List ℕ) (list : List Numbered) (k : ℕ) (x : Numbered) → slice_get list k ≡ Some x → IsLawfulIn t (statements_in list) → IsLawfulIn t (kept_with ns list k x)
with_lawful t ns list k x there lawful = lawful-sublist (length t.alternatives) (length t.criteria) t.classes (kept_with ns list k x) (statements_in list) (with_within ns list k x there) lawful

pub kept_lawful : (t : DecisionTable) (ns : List ℕ) (list : List Numbered) → IsLawfulIn t (statements_in list) → IsLawfulIn t (statements_in (kept_of ns list))
kept_lawful t ns list lawful = lawful-sublist (length t.alternatives) (length t.criteria) t.classes (statements_in (kept_of ns list)) (statements_in list) (sublist-map (λ (y : Numbered). y.statement) (kept_of ns list) list (sublist-filter (keeps ns) list)) lawful

-- of a statement that is kept, those kept before it and itself are of what is kept
kept_within : (ns : List ℕ) (list : List Numbered) (k : ℕ) (x : Numbered) → slice_get list k ≡ Some x → is_among ns x ≡ false → IsSublist (kept_of ns (take k list) ++ x ∷ []) (kept_of ns list)
kept_within ns list k x there stays = let passes : keeps ns x ≡ true = rw stays refl in sublist-kept (keeps ns) list k x there passes

not_within_none : {X : Type 0} (xs : List X) (x : X) → IsSublist (xs ++ x ∷ []) [] → ⊥
not_within_none [] x h = h
not_within_none (y ∷ ys) x h = h

-- ---- what is proved

consistent_by : (t : DecisionTable) (kept : List Numbered) (c : Certificate) → IsLawfulIn t (statements_in kept) → kept ≢ [] → IsBaseKind kept c → IsAcceptedFor (base_system t (statements_in kept)) c → IsConsistent t (statements_in kept)
consistent_by t kept (certificates.Solution x) lawful some kind h = (base_solvable_is_consistent t (statements_in kept) lawful).1 (x.steps, h.solves)
consistent_by t kept (certificates.Multipliers m) lawful some kind h = absurd (some kind)

pub proved_is_repair : (t : DecisionTable) (list : List Numbered) (x : Kept) → IsLawfulIn t (statements_in list) → IsProvedRepair t list x → IsRepair t list (numbers_of x.dropped)
proved_is_repair t list x lawful p = record {
  numbers = p.numbers;
  kept = λ k s there stays.
      let within = kept_within (numbers_of x.dropped) list k s there stays in
      let some : kept_of (numbers_of x.dropped) list ≢ [] = λ none. not_within_none (kept_of (numbers_of x.dropped) (take k list)) s (subst (IsSublist (kept_of (numbers_of x.dropped) (take k list) ++ s ∷ [])) none within) in
      let all = consistent_by t (kept_of (numbers_of x.dropped) list) x.base (kept_lawful t (numbers_of x.dropped) list lawful) some p.kind p.base in
      consistent-sublist t (kept_with (numbers_of x.dropped) list k s) (statements_in (kept_of (numbers_of x.dropped) list)) (sublist-map (λ (y : Numbered). y.statement) (kept_of (numbers_of x.dropped) (take k list) ++ s ∷ []) (kept_of (numbers_of x.dropped) list) within) all;
  contradicts = λ k s there among.
      let d = at-member (λ (d : Dropped). d.number) x.dropped s.number among in
      let accepted = p.refuted d.0 k d.1 s d.2 there d.3 in
      let over = kept_with (numbers_of x.dropped) list k s in
      base_refuted_is_contradictory t over (with_lawful t (numbers_of x.dropped) list k s there lawful) (λ can. not_both (base_system t over) d.1.proof.weak d.1.proof.strict accepted.refute can);
}

-- ---- one repair

take-there : {X : Type 0} (xs : List X) (k : ℕ) (x : X) → slice_get xs k ≡ Some x → take (suc k) xs ≡ take k xs ++ x ∷ []
take-there [] k x there = absurd cc
take-there (y ∷ ys) zero x there = let same : y ≡ x = cc in ap (λ z. z ∷ []) same
take-there (y ∷ ys) (suc k) x there = ap (λ zs. y ∷ zs) (take-there ys k x there)

take-past : {X : Type 0} (xs : List X) (k : ℕ) → slice_get xs k ≡ None → take (suc k) xs ≡ take k xs
take-past [] zero past = refl
take-past [] (suc k) past = refl
take-past (y ∷ ys) zero past = absurd cc
take-past (y ∷ ys) (suc k) past = ap (λ zs. y ∷ zs) (take-past ys k past)

-- what is kept of the list up to a place, and with the statement there
pub kept_more : (ns : List ℕ) (list : List Numbered) (k : ℕ) (x : Numbered) → slice_get list k ≡ Some x → is_among ns x ≡ false → kept_of ns (take (suc k) list) ≡ kept_of ns (take k list) ++ x ∷ []
kept_more ns list k x there stays =
    let one : kept_of ns (x ∷ []) ≡ x ∷ [] = rw stays refl in
    ap (kept_of ns) (take-there list k x there) ∙ filter-append (keeps ns) (take k list) (x ∷ []) ∙ ap (λ more. kept_of ns (take k list) ++ more) one

append-none : {X : Type 0} (xs : List X) → xs ++ [] ≡ xs
append-none [] = refl
append-none (x ∷ xs) = ap (λ ys. x ∷ ys) (append-none xs)

pub dropped_more : (ns : List ℕ) (list : List Numbered) (k : ℕ) (x : Numbered) → slice_get list k ≡ Some x → is_among ns x ≡ true → kept_of ns (take (suc k) list) ≡ kept_of ns (take k list)
dropped_more ns list k x there among =
    let one : kept_of ns (x ∷ []) ≡ [] = rw among refl in
    ap (kept_of ns) (take-there list k x there) ∙ filter-append (keeps ns) (take k list) (x ∷ []) ∙ ap (λ more. kept_of ns (take k list) ++ more) one ∙ append-none (kept_of ns (take k list))

module _ (t : DecisionTable) (list : List Numbered) (ns ms : List ℕ) (r : IsRepair t list ns) (q : IsRepair t list ms) where
  alike_at : (k : ℕ) (x : Numbered) → slice_get list k ≡ Some x → kept_of ns (take k list) ≡ kept_of ms (take k list) → is_among ns x ≡ is_among ms x
  alike_at k x there before = by (cases_Bool (is_among ns x)) (cases_Bool (is_among ms x))
    where
      over : kept_with ns list k x ≡ kept_with ms list k x
      over = ap (λ xs. statements_in (xs ++ x ∷ [])) before

      by : (is_among ns x ≡ true) ⊎ (is_among ns x ≡ false) → (is_among ms x ≡ true) ⊎ (is_among ms x ≡ false) → is_among ns x ≡ is_among ms x
      by (inl a) (inl b) = a ∙ sym b
      by (inr a) (inr b) = a ∙ sym b
      by (inl a) (inr b) = let c = subst (IsConsistent t) (sym over) (q.kept k x there b) in absurd (r.contradicts k x there a c.0 c.1)
      by (inr a) (inl b) = let c = subst (IsConsistent t) over (r.kept k x there a) in absurd (q.contradicts k x there b c.0 c.1)

  alike_next : (k : ℕ) (found : Option Numbered) → slice_get list k ≡ found → kept_of ns (take k list) ≡ kept_of ms (take k list) → kept_of ns (take (suc k) list) ≡ kept_of ms (take (suc k) list)
  alike_next k None past before = ap (kept_of ns) (take-past list k past) ∙ before ∙ sym (ap (kept_of ms) (take-past list k past))
  alike_next k (Some x) there before = elim (cases_Bool (is_among ns x)) [
    | inl a ↦ dropped_more ns list k x there a ∙ before ∙ sym (dropped_more ms list k x there (sym (alike_at k x there before) ∙ a))
    | inr a ↦ kept_more ns list k x there a ∙ ap (λ xs. xs ++ x ∷ []) before ∙ sym (kept_more ms list k x there (sym (alike_at k x there before) ∙ a))
  ]

  alike_before : (k : ℕ) → kept_of ns (take k list) ≡ kept_of ms (take k list)
  alike_before zero = refl
  alike_before (suc k) = alike_next k (slice_get list k) refl (alike_before k)

  -- what is dropped in the one way is dropped in the other
  dropped_alike : (xs : List ℕ) → AllByRecursion (λ n. is_member nat_eq (numbers_in list) n ≡ true) xs → AllByRecursion (λ n. is_member nat_eq ns n ≡ true) xs → AllByRecursion (λ n. is_member nat_eq ms n ≡ true) xs
  dropped_alike [] stand among = tt
  dropped_alike (n ∷ xs) stand among =
      let at = at-member (λ (x : Numbered). x.number) list n stand.0 in
      let same = alike_at at.0 at.1 at.2 (alike_before at.0) in
      let here : is_member nat_eq ns at.1.number ≡ true = subst (λ m. is_member nat_eq ns m ≡ true) (sym at.3) among.0 in
      (subst (λ m. is_member nat_eq ms m ≡ true) at.3 (sym same ∙ here), dropped_alike xs stand.1 among.1)

pub listed_are : (list : List Numbered) (ns : List ℕ) → AreNumbersIn list ns → AreIn (numbers_in list) ns
listed_are list ns h = (rises ns h.rising, h.each_stands)

pub one_repair : (t : DecisionTable) (list : List Numbered) (ns ms : List ℕ) → IsRepair t list ns → IsRepair t list ms → ns ≡ ms
one_repair t list ns ms r q =
    same_members ns ms (rises ns r.numbers.rising) (rises ms q.numbers.rising)
    (dropped_alike t list ns ms r q ns r.numbers.each_stands (own_members ns))
    (dropped_alike t list ms ns q r ms q.numbers.each_stands (own_members ms))

-- ---- as much as can be kept

-- where something is kept, it is what is kept before the last one of it, and that one
record Last {X : Type 0} (p : X → Bool) (xs : List X) : Type 0 where
  place : ℕ
  element : X
  there : slice_get xs place ≡ Some element
  passes : p element ≡ true
  all : filter p (take place xs) ++ element ∷ [] ≡ filter p xs

last-later : {X : Type 0} (p : X → Bool) (y : X) (ys : List X) → Last p ys → Last p (y ∷ ys)
last-later p y ys r = record {
  place = suc r.place;
  element = r.element;
  there = r.there;
  passes = r.passes;
  all = elim (cases_Bool (p y)) [ inl yes_ ↦ rw yes_ (ap (λ us. y ∷ us) r.all) | inr no_ ↦ rw no_ r.all ];
}

last_kept : {X : Type 0} (p : X → Bool) (xs : List X) → (filter p xs ≡ []) ⊎ Last p xs
last_kept p [] = inl refl
last_kept p (y ∷ ys) = elim (last_kept p ys) [
  | inl none ↦ elim (cases_Bool (p y)) [
    | inl yes_ ↦ inr (record { place = 0; element = y; there = refl; passes = yes_; all = rw (yes_, none) refl })
    | inr no_ ↦ inl (rw (no_, none) refl)
  ]
  | inr last ↦ inr (last-later p y ys last)
]

none_dropped : (t : DecisionTable) (list : List Numbered) (ns : List ℕ) → IsRepair t list ns → IsConsistent t (statements_in list) → ns ≡ []
none_dropped t list [] r consistent = refl
none_dropped t list (n ∷ ns) r consistent =
    let x = at-member (λ (y : Numbered). y.number) list n r.numbers.each_stands.0 in
    let among : is_among (n ∷ ns) x.1 ≡ true = subst (λ m. is_member nat_eq (n ∷ ns) m ≡ true) (sym x.3) (member-here n ns) in
    let c = consistent-sublist t (kept_with (n ∷ ns) list x.0 x.1) (statements_in list) (with_within (n ∷ ns) list x.0 x.1 x.2) consistent in
    absurd (r.contradicts x.0 x.1 x.2 among c.0 c.1)

whole_is_repair : (t : DecisionTable) (list : List Numbered) → IsConsistent t (statements_in list) → IsRepair t list []
whole_is_repair t list consistent = record {
  numbers = record { rising = λ k within. absurd (omega arith); each_stands = tt };
  kept = λ k x there stays. consistent-sublist t (kept_with [] list k x) (statements_in list) (with_within [] list k x there) consistent;
  contradicts = λ k x there among. absurd (false≢true among);
}

pub is_maximal : (t : DecisionTable) (list : List Numbered) (ns : List ℕ) → IsRepair t list ns → IsMaximalRepair t list ns
is_maximal t list ns r = record {
  consistent = λ some. elim (last_kept (keeps ns) list) [
    | inl none ↦ absurd (some none)
    | inr last ↦ subst (λ xs. IsConsistent t (statements_in xs)) last.all (r.kept last.place last.element last.there (not_true (is_among ns last.element) last.passes))
  ];
  put_back = λ k x there among.
      contradictory-sublist t (kept_with ns list k x) (statements_in (kept_of ns (take k list) ++ x ∷ kept_of ns (drop (suc k) list)))
      (sublist-map (λ (y : Numbered). y.statement) (kept_of ns (take k list) ++ x ∷ []) (kept_of ns (take k list) ++ x ∷ kept_of ns (drop (suc k) list)) (sublist-append (kept_of ns (take k list)) (kept_of ns (take k list)) (x ∷ []) (x ∷ kept_of ns (drop (suc k) list)) (sublist-all (kept_of ns (take k list))) (inl (refl, tt))))
      (r.contradicts k x there among);
  whole = λ consistent. none_dropped t list ns r consistent;
}
  where
    not_true : (b : Bool) → not b ≡ true → b ≡ false
    not_true true h = absurd (false≢true h)
    not_true false h = refl

pub whole_repair : (t : DecisionTable) (list : List Numbered) (ns : List ℕ) → IsConsistent t (statements_in list) → IsRepair t list ns ↔ (ns ≡ [])
whole_repair t list ns consistent = (λ r. none_dropped t list ns r consistent, λ e. subst (IsRepair t list) (sym e) (whole_is_repair t list consistent))
