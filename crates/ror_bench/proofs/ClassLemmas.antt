-- What an alternative and classes that a line names come to: those of the table, or the first fault.
use Rattle.std.proofs.Common.{◌≡◌, ◌⊎◌, inl, inr, ℕ, ◌<◌, ◌≤◌, List, [], ◌∷◌, length, Some, Ok, Err, Bool, true, false, refl, sym, ap, ◌∙◌, arith}
use Rattle.std.specs.Prelude.{nat_lt, ◌==◌, if◌then◌else◌}
use Rattle.std.proofs.lemmas.Bool.{eqb-true, eqb-false, ltb-true, ltb-false}
use Rattle.std.proofs.lemmas.Option.{none-some}
use Rattle.ror_text.specs.Reading.{◌>>=◌, refuse}
use Rattle.ror_text.proofs.ReadingLemmas.{bind_ok, bind_err, need_ok, need_err, refuse_ok, refuse_err}
use Rattle.ror_table.specs.Table.{DecisionTable, alternative_named}
use Rattle.ror_table.proofs.NameLemmas.{alternative_named-sound}
use Rattle.ror_statement.specs.declared.statement.Statement.{Statement}
use Rattle.ror_statement.specs.declared.statement.Statement.TheVariants as statements
use Rattle.ror_report.specs.declared.block.LineFault.{LineFault}
use Rattle.ror_report.specs.declared.block.LineFault.TheVariants as faults
use Rattle.ror_bench.specs.Names.{alternative_of, is_no_class, assignment_of, member_of, sorted_of}
use Rattle.ror_bench.specs.Lines.{LacksAlternative, LacksClass}

-- ---- a class by itself

class_there : (t : DecisionTable) (h : ℕ) → is_no_class t h ≡ false → (1 ≤ h) × (h ≤ t.classes)
class_there t h e = by_zero (h == 0) refl
  where
    by_zero : (b : Bool) → (h == 0) ≡ b → (1 ≤ h) × (h ≤ t.classes)
    by_zero true is = absurd (let f : true ≡ false = sym (ap (λ (x : Bool). if x then true else nat_lt t.classes h) is) ∙ e in cc)
    by_zero false is =
        let f : nat_lt t.classes h ≡ false = sym (ap (λ (x : Bool). if x then true else nat_lt t.classes h) is) ∙ e in
        let other = eqb-false h 0 is in
        (grind (arith, other), ltb-false t.classes h f)

class_missing : (t : DecisionTable) (h : ℕ) → is_no_class t h ≡ true → (h ≡ 0) ⊎ (t.classes < h)
class_missing t h e = by_zero (h == 0) refl
  where
    by_zero : (b : Bool) → (h == 0) ≡ b → (h ≡ 0) ⊎ (t.classes < h)
    by_zero true is = inl (eqb-true h 0 is)
    by_zero false is = inr (ltb-true t.classes h (sym (ap (λ (x : Bool). if x then true else nat_lt t.classes h) is) ∙ e))

not_missing : (t : DecisionTable) (h : ℕ) (hs : List ℕ) → (1 ≤ h) × (h ≤ t.classes) → (LacksClass t hs → ⊥) → LacksClass t (h ∷ hs) → ⊥
not_missing t h hs there others (inl (inl none)) = absurd (let low = there.0 in omega (arith, low, none))
not_missing t h hs there others (inl (inr past)) = absurd (let high = there.1 in omega (arith, high, past))
not_missing t h hs there others (inr lacks) = others lacks

-- ---- the alternative by itself

alternative_ok : (t : DecisionTable) (name : List ℕ) (a : ℕ) → alternative_of t name ≡ Ok a → (a < length t.alternatives) × (LacksAlternative t (name ∷ []) → ⊥)
alternative_ok t name a e =
    let has = need_ok faults.UnknownAlternative (alternative_named t name) a e in
    ((alternative_named-sound t name a has).0, stands has)
  where
    stands : alternative_named t name ≡ Some a → LacksAlternative t (name ∷ []) → ⊥
    stands has (inl none) = none-some a (sym none ∙ has)
    stands has (inr lacks) = lacks

alternative_err : (t : DecisionTable) (name : List ℕ) (fault : LineFault) → alternative_of t name ≡ Err fault → (fault ≡ faults.UnknownAlternative) × LacksAlternative t (name ∷ [])
alternative_err t name fault e = let h = need_err faults.UnknownAlternative fault (alternative_named t name) e in (h.1, inl h.0)

-- ---- an assignment

pub record FromAssignment (t : DecisionTable) (name : List ℕ) (lowest highest : ℕ) (s : Statement) : Type 0 where
  pub alternative : ℕ
  pub is : statements.Class alternative lowest highest ≡ s
  pub within : alternative < length t.alternatives
  pub named : LacksAlternative t (name ∷ []) → ⊥
  pub classes : LacksClass t (lowest ∷ highest ∷ []) → ⊥
  pub from_first : 1 ≤ lowest
  pub some_class : lowest ≤ highest
  pub to_last : highest ≤ t.classes

pub assignment_ok : (t : DecisionTable) (name : List ℕ) (lowest highest : ℕ) (s : Statement) → assignment_of t name lowest highest ≡ Ok s → FromAssignment t name lowest highest s
unfolding assignment_of
assignment_ok t name lowest highest s e =
    let a = bind_ok (alternative_of t name) _ s e in
    let l = bind_ok (refuse faults.UnknownClass (is_no_class t lowest)) _ s a.2 in
    let h = bind_ok (refuse faults.UnknownClass (is_no_class t highest)) _ s l.2 in
    let o = bind_ok (refuse faults.BadInterval (nat_lt highest lowest)) _ s h.2 in
    let alternative = alternative_ok t name a.0 a.1 in
    let low = class_there t lowest (refuse_ok faults.UnknownClass (is_no_class t lowest) l.0 l.1) in
    let high = class_there t highest (refuse_ok faults.UnknownClass (is_no_class t highest) h.0 h.1) in
    let ordered = ltb-false highest lowest (refuse_ok faults.BadInterval (nat_lt highest lowest) o.0 o.1) in
    record {
      alternative = a.0;
      is = let f = o.2 in cc;
      within = alternative.0;
      named = alternative.1;
      classes = not_missing t lowest (highest ∷ []) low (not_missing t highest [] high (λ h. h));
      from_first = low.0;
      some_class = ordered;
      to_last = high.1;
    }

-- the first fault of an alternative and classes that are stated or asked of, in the order of the tests
pub data ClassFault (t : DecisionTable) (name : List ℕ) (Unknown Turned : Type 0) (fault : LineFault) : Type 0 where
  no_alternative : fault ≡ faults.UnknownAlternative → LacksAlternative t (name ∷ []) → ClassFault t name Unknown Turned fault
  no_class : fault ≡ faults.UnknownClass → Unknown → (LacksAlternative t (name ∷ []) → ⊥) → ClassFault t name Unknown Turned fault
  turned_round : fault ≡ faults.BadInterval → Turned → (Unknown → ⊥) → (LacksAlternative t (name ∷ []) → ⊥) → ClassFault t name Unknown Turned fault

of_alternative : (t : DecisionTable) (name : List ℕ) (Unknown Turned : Type 0) (fault : LineFault) → alternative_of t name ≡ Err fault → ClassFault t name Unknown Turned fault
of_alternative t name Unknown Turned fault e = let h = alternative_err t name fault e in no_alternative h.0 h.1

of_class : (t : DecisionTable) (name : List ℕ) (Unknown Turned : Type 0) (fault : LineFault) (test : Bool) → refuse faults.UnknownClass test ≡ Err fault → (test ≡ true → Unknown) → (LacksAlternative t (name ∷ []) → ⊥) → ClassFault t name Unknown Turned fault
of_class t name Unknown Turned fault test e unknown named = let h = refuse_err faults.UnknownClass fault test e in no_class h.1 (unknown h.0) named

pub assignment_err : (t : DecisionTable) (name : List ℕ) (lowest highest : ℕ) (fault : LineFault) → assignment_of t name lowest highest ≡ Err fault → ClassFault t name (LacksClass t (lowest ∷ highest ∷ [])) (highest < lowest) fault
unfolding assignment_of
assignment_err t name lowest highest fault e =
    let Unknown : Type 0 = LacksClass t (lowest ∷ highest ∷ []) in
    elim (bind_err (alternative_of t name) _ fault e) [
      | inl none ↦ of_alternative t name Unknown (highest < lowest) fault none
      | inr a ↦
          let named = (alternative_ok t name a.0 a.1).1 in
          elim (bind_err (refuse faults.UnknownClass (is_no_class t lowest)) _ fault a.2) [
            | inl low ↦ of_class t name Unknown (highest < lowest) fault (is_no_class t lowest) low (λ is. inl (class_missing t lowest is)) named
            | inr l ↦ elim (bind_err (refuse faults.UnknownClass (is_no_class t highest)) _ fault l.2) [
              | inl high ↦ of_class t name Unknown (highest < lowest) fault (is_no_class t highest) high (λ is. inr (inl (class_missing t highest is))) named
              | inr h ↦ elim (bind_err (refuse faults.BadInterval (nat_lt highest lowest)) _ fault h.2) [
                | inl turned ↦
                    let o = refuse_err faults.BadInterval fault (nat_lt highest lowest) turned in
                    let low = class_there t lowest (refuse_ok faults.UnknownClass (is_no_class t lowest) l.0 l.1) in
                    let high = class_there t highest (refuse_ok faults.UnknownClass (is_no_class t highest) h.0 h.1) in
                    turned_round o.1 (ltb-true highest lowest o.0) (not_missing t lowest (highest ∷ []) low (not_missing t highest [] high (λ h. h))) named
                | inr o ↦ absurd (let f = o.2 in cc)
              ]
            ]
          ]
    ]

-- ---- a question on a class, and on each

pub record FromMember {A : Type 0} (t : DecisionTable) (name : List ℕ) (h : ℕ) (make : ℕ → A) (x : A) : Type 0 where
  pub alternative : ℕ
  pub is : make alternative ≡ x
  pub within : alternative < length t.alternatives
  pub named : LacksAlternative t (name ∷ []) → ⊥
  pub class : (1 ≤ h) × (h ≤ t.classes)
  pub classes : LacksClass t (h ∷ []) → ⊥

pub member_ok : {A : Type 0} (make : ℕ → A) (t : DecisionTable) (name : List ℕ) (h : ℕ) (x : A) → (member_of t name h >>= λ a. Ok (make a)) ≡ Ok x → FromMember t name h make x
unfolding member_of
member_ok make t name h x e =
    let m = bind_ok (member_of t name h) (λ a. Ok (make a)) x e in
    let a = bind_ok (alternative_of t name) _ m.0 m.1 in
    let c = bind_ok (refuse faults.UnknownClass (is_no_class t h)) _ m.0 a.2 in
    let alternative = alternative_ok t name a.0 a.1 in
    let there = class_there t h (refuse_ok faults.UnknownClass (is_no_class t h) c.0 c.1) in
    let same : a.0 ≡ m.0 = (let f = c.2 in cc) in
    record {
      alternative = a.0;
      is = ap make same ∙ (let f = m.2 in cc);
      within = alternative.0;
      named = alternative.1;
      class = there;
      classes = not_missing t h [] there (λ h. h);
    }

pub member_err : {A : Type 0} (make : ℕ → A) (t : DecisionTable) (name : List ℕ) (h : ℕ) (fault : LineFault) → (member_of t name h >>= λ a. Ok (make a)) ≡ Err fault → ClassFault t name (LacksClass t (h ∷ [])) ⊥ fault
unfolding member_of
member_err make t name h fault e = elim (bind_err (member_of t name h) (λ a. Ok (make a)) fault e) [
  | inl stopped ↦ elim (bind_err (alternative_of t name) _ fault stopped) [
    | inl none ↦ of_alternative t name (LacksClass t (h ∷ [])) ⊥ fault none
    | inr a ↦ elim (bind_err (refuse faults.UnknownClass (is_no_class t h)) _ fault a.2) [
      | inl missing ↦ of_class t name (LacksClass t (h ∷ [])) ⊥ fault (is_no_class t h) missing (λ is. inl (class_missing t h is)) (alternative_ok t name a.0 a.1).1
      | inr c ↦ absurd (let f = c.2 in cc)
    ]
  ]
  | inr found ↦ absurd (let f = found.2 in cc)
]

pub record FromSorted {A : Type 0} (t : DecisionTable) (name : List ℕ) (make : ℕ → A) (x : A) : Type 0 where
  pub alternative : ℕ
  pub is : make alternative ≡ x
  pub within : alternative < length t.alternatives
  pub named : LacksAlternative t (name ∷ []) → ⊥
  pub classes : t.classes ≡ 0 → ⊥

pub sorted_ok : {A : Type 0} (make : ℕ → A) (t : DecisionTable) (name : List ℕ) (x : A) → (sorted_of t name >>= λ a. Ok (make a)) ≡ Ok x → FromSorted t name make x
unfolding sorted_of
sorted_ok make t name x e =
    let m = bind_ok (sorted_of t name) (λ a. Ok (make a)) x e in
    let a = bind_ok (alternative_of t name) _ m.0 m.1 in
    let c = bind_ok (refuse faults.UnknownClass (t.classes == 0)) _ m.0 a.2 in
    let alternative = alternative_ok t name a.0 a.1 in
    let same : a.0 ≡ m.0 = (let f = c.2 in cc) in
    record {
      alternative = a.0;
      is = ap make same ∙ (let f = m.2 in cc);
      within = alternative.0;
      named = alternative.1;
      classes = eqb-false t.classes 0 (refuse_ok faults.UnknownClass (t.classes == 0) c.0 c.1);
    }

pub sorted_err : {A : Type 0} (make : ℕ → A) (t : DecisionTable) (name : List ℕ) (fault : LineFault) → (sorted_of t name >>= λ a. Ok (make a)) ≡ Err fault → ClassFault t name (t.classes ≡ 0) ⊥ fault
unfolding sorted_of
sorted_err make t name fault e = elim (bind_err (sorted_of t name) (λ a. Ok (make a)) fault e) [
  | inl stopped ↦ elim (bind_err (alternative_of t name) _ fault stopped) [
    | inl none ↦ of_alternative t name (t.classes ≡ 0) ⊥ fault none
    | inr a ↦ elim (bind_err (refuse faults.UnknownClass (t.classes == 0)) _ fault a.2) [
      | inl missing ↦ of_class t name (t.classes ≡ 0) ⊥ fault (t.classes == 0) missing (λ is. eqb-true t.classes 0 is) (alternative_ok t name a.0 a.1).1
      | inr c ↦ absurd (let f = c.2 in cc)
    ]
  ]
  | inr found ↦ absurd (let f = found.2 in cc)
]
