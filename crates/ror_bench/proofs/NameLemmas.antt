-- What the names of a line come to: alternatives, criteria and classes of the table, or the first fault that they have.
use Rattle.std.proofs.Common.{◌≡◌, ◌⊎◌, inl, inr, ℕ, ◌<◌, ◌≤◌, ◌*◌, List, [], ◌∷◌, length, Option, Some, None, Result, Ok, Err, sym, ap, ◌∙◌, subst, arith, true, false}
use Rattle.std.specs.Prelude.{IfOk, nat_lt}
use Rattle.std.specs.List.{AllByRecursion}
use Rattle.std.proofs.lemmas.Bool.{ltb-true, ltb-false}
use Rattle.std.proofs.lemmas.Nat.{mul-le}
use Rattle.std.proofs.lemmas.Option.{none-some}
use Rattle.std.specs.Global.{Vec}
use Rattle.ror_text.specs.Reading.{◌>>=◌, refuse, need, Gives}
use Rattle.ror_text.proofs.ReadingLemmas.{bind_ok, bind_err, need_ok, need_err, refuse_ok, refuse_err}
use Rattle.ror_table.specs.Table.{DecisionTable, IsTable, alternative_named, criterion_named}
use Rattle.ror_table.proofs.NameLemmas.{alternative_named-sound, criterion_named-sound}
use Rattle.ror_statement.specs.declared.comparison.Pair.{Pair}
use Rattle.ror_statement.specs.declared.comparison.Scope.{Scope}
use Rattle.ror_statement.specs.declared.comparison.Scope.TheVariants.{Whole, One}
use Rattle.ror_statement.specs.declared.statement.Statement.{Statement}
use Rattle.ror_statement.specs.declared.statement.Statement.TheVariants as statements
use Rattle.ror_statement.specs.declared.question.Question.{Question}
use Rattle.ror_statement.specs.declared.question.Question.TheVariants as questions
use Rattle.ror_statement.specs.Names.{PairWithin, ScopeWithin}
use Rattle.ror_value.specs.Over.{IsValidIn, IsAskedIn}
use Rattle.ror_session.specs.declared.session.NamedPair.{NamedPair}
use Rattle.ror_session.specs.declared.session.Named.{Named}
use Rattle.ror_session.specs.declared.session.Named.TheVariants.{Prefer, AtLeast, Same, Stronger, AsStrong, EqualStrength, Class}
use Rattle.ror_session.specs.declared.session.Asked.{Asked}
use Rattle.ror_session.specs.declared.session.Asked.TheVariants.{Consistent, Necessary, Possible, NecessaryStrength, PossibleStrength, PossibleClass, NecessaryClass, Classes, Relation}
use Rattle.ror_session.specs.declared.session.Command.{Command}
use Rattle.ror_session.specs.declared.session.Command.TheVariants.{State, Replace, Ask}
use Rattle.ror_relation.specs.Pairs.{relation_questions}
use Rattle.ror_relation.proofs.PairLemmas.{all_asked, few_questions}
use Rattle.ror_classes.specs.Classes.{class_questions}
use Rattle.ror_classes.proofs.ClassLemmas.{class_questions-asked, class_questions-number}
use Rattle.ror_report.specs.declared.block.LineFault.{LineFault}
use Rattle.ror_report.specs.declared.block.LineFault.TheVariants as faults
use Rattle.ror_bench.specs.declared.names.TheConstants.{MOST_RELATED}
use Rattle.ror_bench.specs.declared.names.Strengths.{Strengths}
use Rattle.ror_bench.specs.Names.{alternative_of, member_of, pair_of, scope_of, strengths_of, statement_of, one_question, questions_of}
use Rattle.ror_bench.specs.Lines.{LacksAlternative, LacksCriterion, LacksClass, HasUnknownClass, HasBadInterval, HasManyPairs, names_of_pairs, alternatives_in, criterion_in}
use Rattle.ror_bench.proofs.ClassLemmas.{assignment_ok, ClassFault, assignment_err, member_ok, member_err, sorted_ok, sorted_err}
use Rattle.ror_bench.proofs.ClassLemmas.ClassFault.{no_alternative, no_class, turned_round}

not_many : (n : ℕ) → nat_lt MOST_RELATED n ≡ false → n ≤ 100
not_many n e = let le = ltb-false MOST_RELATED n e in omega arith

many_pairs : (n : ℕ) → nat_lt MOST_RELATED n ≡ true → MOST_RELATED < n
many_pairs n e = ltb-true MOST_RELATED n e

-- the table has all that is named
abbrev pub NamesStand : DecisionTable → List (List ℕ) → Option (List ℕ) → Type 0
NamesStand t names on = (LacksAlternative t names → ⊥) × (LacksCriterion t on → ⊥)

-- it lacks an alternative, or has all of them and lacks the criterion
abbrev pub NamesFail : DecisionTable → List (List ℕ) → Option (List ℕ) → LineFault → Type 0
NamesFail t names on fault = ((fault ≡ faults.UnknownAlternative) × LacksAlternative t names)
    ⊎ ((fault ≡ faults.UnknownCriterion) × LacksCriterion t on × (LacksAlternative t names → ⊥))

-- no test of what the command names finds a fault
pub record CommandStands (t : DecisionTable) (command : Command) : Type 0 where
  pub alternatives : LacksAlternative t (alternatives_in command) → ⊥
  pub criterion : LacksCriterion t (criterion_in command) → ⊥
  pub classes : HasUnknownClass t command → ⊥
  pub interval : HasBadInterval command → ⊥

-- the first test of what it names that does
pub data CommandFails (t : DecisionTable) (command : Command) (fault : LineFault) : Type 0 where
  lacks_alternative : fault ≡ faults.UnknownAlternative → LacksAlternative t (alternatives_in command) → CommandFails t command fault
  lacks_criterion : fault ≡ faults.UnknownCriterion → LacksCriterion t (criterion_in command) → (LacksAlternative t (alternatives_in command) → ⊥) → CommandFails t command fault
  unknown_class : fault ≡ faults.UnknownClass → HasUnknownClass t command → (LacksAlternative t (alternatives_in command) → ⊥) → (LacksCriterion t (criterion_in command) → ⊥) → CommandFails t command fault
  bad_interval : fault ≡ faults.BadInterval → HasBadInterval command → (LacksAlternative t (alternatives_in command) → ⊥) → (LacksCriterion t (criterion_in command) → ⊥) → (HasUnknownClass t command → ⊥) → CommandFails t command fault

by_names : (t : DecisionTable) (command : Command) (fault : LineFault) → NamesFail t (alternatives_in command) (criterion_in command) fault → CommandFails t command fault
by_names t command fault (inl lacks) = lacks_alternative lacks.0 lacks.1
by_names t command fault (inr lacks) = lacks_criterion lacks.0 lacks.1 lacks.2

without_classes : (t : DecisionTable) (command : Command) → NamesStand t (alternatives_in command) (criterion_in command) → (HasUnknownClass t command → ⊥) → (HasBadInterval command → ⊥) → CommandStands t command
without_classes t command stands classes interval = record { alternatives = stands.0; criterion = stands.1; classes = classes; interval = interval }

abbrev PairIn : DecisionTable → Pair → Type 0
PairIn t p = PairWithin (length t.alternatives) p

none_lacks : (t : DecisionTable) (a : List ℕ) (i : ℕ) (names : List (List ℕ)) → alternative_named t a ≡ Some i → (LacksAlternative t names → ⊥) → LacksAlternative t (a ∷ names) → ⊥
none_lacks t a i names has others (inl none) = none-some i (sym none ∙ has)
none_lacks t a i names has others (inr lacks) = others lacks

pub pair_ok : (t : DecisionTable) (a b : List ℕ) (p : Pair) → pair_of t a b ≡ Ok p → (alternative_named t a ≡ Some p.first) × (alternative_named t b ≡ Some p.second)
unfolding pair_of
pair_ok t a b p e =
    let first = bind_ok (alternative_of t a) _ p e in
    let second = bind_ok (alternative_of t b) _ p first.2 in
    let is : record { first = first.0; second = second.0 } ≡ p = (let f = second.2 in cc) in
    (need_ok faults.UnknownAlternative (alternative_named t a) first.0 first.1 ∙ ap (λ (q : Pair). Some q.first) is, need_ok faults.UnknownAlternative (alternative_named t b) second.0 second.1 ∙ ap (λ (q : Pair). Some q.second) is)

pair_in : (t : DecisionTable) (a b : List ℕ) (p : Pair) → pair_of t a b ≡ Ok p → PairIn t p
pair_in t a b p e =
    let named = pair_ok t a b p e in
    ((alternative_named-sound t a p.first named.0).0, (alternative_named-sound t b p.second named.1).0)

pair_stands : (t : DecisionTable) (a b : List ℕ) (p : Pair) (names : List (List ℕ)) → pair_of t a b ≡ Ok p → (LacksAlternative t names → ⊥) → LacksAlternative t (a ∷ b ∷ names) → ⊥
pair_stands t a b p names e others =
    let named = pair_ok t a b p e in
    none_lacks t a p.first (b ∷ names) named.0 (none_lacks t b p.second names named.1 others)

pair_err : (t : DecisionTable) (a b : List ℕ) (fault : LineFault) (names : List (List ℕ)) → pair_of t a b ≡ Err fault → (fault ≡ faults.UnknownAlternative) × LacksAlternative t (a ∷ b ∷ names)
unfolding pair_of
pair_err t a b fault names e = elim (bind_err (alternative_of t a) _ fault e) [
  | inl first ↦
      let h = need_err faults.UnknownAlternative fault (alternative_named t a) first in
      (h.1, inl h.0)
  | inr found ↦ elim (bind_err (alternative_of t b) _ fault found.2) [
    | inl second ↦
        let h = need_err faults.UnknownAlternative fault (alternative_named t b) second in
        (h.1, inr (inl h.0))
    | inr both ↦ absurd (let f = both.2 in cc)
  ]
]

scope_ok : (t : DecisionTable) (on : Option (List ℕ)) (s : Scope) → scope_of t on ≡ Ok s → ScopeWithin (length t.criteria) s × (LacksCriterion t on → ⊥)
scope_ok t None s e = (subst (ScopeWithin (length t.criteria)) (let is : Whole ≡ s = cc in is) tt, λ h. h)
scope_ok t (Some name) s e =
    let found = bind_ok (need faults.UnknownCriterion (criterion_named t name)) _ s e in
    let named = need_ok faults.UnknownCriterion (criterion_named t name) found.0 found.1 in
    let is : One found.0 ≡ s = (let f = found.2 in cc) in
    (subst (ScopeWithin (length t.criteria)) is (criterion_named-sound t name found.0 named).0, λ lacks. none-some found.0 (sym lacks ∙ named))

scope_err : (t : DecisionTable) (on : Option (List ℕ)) (fault : LineFault) → scope_of t on ≡ Err fault → (fault ≡ faults.UnknownCriterion) × LacksCriterion t on
scope_err t None fault e = absurd cc
scope_err t (Some name) fault e = elim (bind_err (need faults.UnknownCriterion (criterion_named t name)) _ fault e) [
  | inl none ↦
      let h = need_err faults.UnknownCriterion fault (criterion_named t name) none in
      (h.1, h.0)
  | inr found ↦ absurd (let f = found.2 in cc)
]

-- the parts of two pairs with a scope
record AreStrengths (t : DecisionTable) (p q : NamedPair) (on : Option (List ℕ)) (x : Strengths) : Type 0 where
  first : pair_of t p.first p.second ≡ Ok x.first
  second : pair_of t q.first q.second ≡ Ok x.second
  scope : scope_of t on ≡ Ok x.scope

strengths_ok : (t : DecisionTable) (p q : NamedPair) (on : Option (List ℕ)) (x : Strengths) → strengths_of t p q on ≡ Ok x → AreStrengths t p q on x
unfolding strengths_of
strengths_ok t p q on x e =
    let first = bind_ok (pair_of t p.first p.second) _ x e in
    let second = bind_ok (pair_of t q.first q.second) _ x first.2 in
    let scope = bind_ok (scope_of t on) _ x second.2 in
    let is : record { first = first.0; second = second.0; scope = scope.0 } ≡ x = (let f = scope.2 in cc) in
    record {
      first = first.1 ∙ ap (λ (y : Strengths). Ok y.first) is;
      second = second.1 ∙ ap (λ (y : Strengths). Ok y.second) is;
      scope = scope.1 ∙ ap (λ (y : Strengths). Ok y.scope) is;
    }

strengths_stand : (t : DecisionTable) (p q : NamedPair) (on : Option (List ℕ)) (x : Strengths) → strengths_of t p q on ≡ Ok x → NamesStand t (names_of_pairs p q) on
strengths_stand t p q on x e =
    let parts = strengths_ok t p q on x e in
    (pair_stands t p.first p.second x.first (q.first ∷ q.second ∷ []) parts.first (pair_stands t q.first q.second x.second [] parts.second (λ h. h)), (scope_ok t on x.scope parts.scope).1)

strengths_fail : (t : DecisionTable) (p q : NamedPair) (on : Option (List ℕ)) (fault : LineFault) → strengths_of t p q on ≡ Err fault → NamesFail t (names_of_pairs p q) on fault
unfolding strengths_of
strengths_fail t p q on fault e = elim (bind_err (pair_of t p.first p.second) _ fault e) [
  | inl first ↦ inl (pair_err t p.first p.second fault (q.first ∷ q.second ∷ []) first)
  | inr one ↦ elim (bind_err (pair_of t q.first q.second) _ fault one.2) [
    | inl second ↦
        let h = pair_err t q.first q.second fault [] second in
        inl (h.0, inr (inr h.1))
    | inr two ↦ elim (bind_err (scope_of t on) _ fault two.2) [
      | inl scope ↦
          let h = scope_err t on fault scope in
          inr (h.0, h.1, pair_stands t p.first p.second one.0 (q.first ∷ q.second ∷ []) one.1 (pair_stands t q.first q.second two.0 [] two.1 (λ h. h)))
      | inr all ↦ absurd (let f = all.2 in cc)
    ]
  ]
]

-- ---- what is made of them

record FromPair {A : Type 0} (t : DecisionTable) (a b : List ℕ) (make : Pair → A) (x : A) : Type 0 where
  pair : Pair
  is : make pair ≡ x
  within : PairIn t pair
  stands : NamesStand t (a ∷ b ∷ []) None

from_pair : {A : Type 0} (make : Pair → A) (t : DecisionTable) (a b : List ℕ) (x : A) → (pair_of t a b >>= λ p. Ok (make p)) ≡ Ok x → FromPair t a b make x
from_pair make t a b x e =
    let found = bind_ok (pair_of t a b) (λ p. Ok (make p)) x e in
    record {
      pair = found.0;
      is = let f = found.2 in cc;
      within = pair_in t a b found.0 found.1;
      stands = (pair_stands t a b found.0 [] found.1 (λ h. h), λ h. h);
    }

pair_fails : {A : Type 0} (make : Pair → A) (t : DecisionTable) (a b : List ℕ) (fault : LineFault) → (pair_of t a b >>= λ p. Ok (make p)) ≡ Err fault → NamesFail t (a ∷ b ∷ []) None fault
pair_fails make t a b fault e = elim (bind_err (pair_of t a b) (λ p. Ok (make p)) fault e) [
  | inl pair ↦ inl (pair_err t a b fault [] pair)
  | inr found ↦ absurd (let f = found.2 in cc)
]

record FromStrengths {A : Type 0} (t : DecisionTable) (p q : NamedPair) (on : Option (List ℕ)) (make : Strengths → A) (x : A) : Type 0 where
  strengths : Strengths
  is : make strengths ≡ x
  first : PairIn t strengths.first
  second : PairIn t strengths.second
  scope : ScopeWithin (length t.criteria) strengths.scope
  stands : NamesStand t (names_of_pairs p q) on

from_strengths : {A : Type 0} (make : Strengths → A) (t : DecisionTable) (p q : NamedPair) (on : Option (List ℕ)) (x : A) → (strengths_of t p q on >>= λ y. Ok (make y)) ≡ Ok x → FromStrengths t p q on make x
from_strengths make t p q on x e =
    let found = bind_ok (strengths_of t p q on) (λ y. Ok (make y)) x e in
    let parts = strengths_ok t p q on found.0 found.1 in
    record {
      strengths = found.0;
      is = let f = found.2 in cc;
      first = pair_in t p.first p.second found.0.first parts.first;
      second = pair_in t q.first q.second found.0.second parts.second;
      scope = (scope_ok t on found.0.scope parts.scope).0;
      stands = strengths_stand t p q on found.0 found.1;
    }

strengths_fails : {A : Type 0} (make : Strengths → A) (t : DecisionTable) (p q : NamedPair) (on : Option (List ℕ)) (fault : LineFault) → (strengths_of t p q on >>= λ y. Ok (make y)) ≡ Err fault → NamesFail t (names_of_pairs p q) on fault
strengths_fails make t p q on fault e = elim (bind_err (strengths_of t p q on) (λ y. Ok (make y)) fault e) [
  | inl strengths ↦ strengths_fail t p q on fault strengths
  | inr found ↦ absurd (let f = found.2 in cc)
]

-- ---- statements

pub statement_stands : (t : DecisionTable) (named : Named) (s : Statement) → statement_of t named ≡ Ok s → CommandStands t (State named)
statement_stands t (Prefer a b) s e = without_classes t (State (Prefer a b)) (from_pair (λ p. statements.Prefer p.first p.second) t a b s e).stands (λ h. h) (λ h. h)
statement_stands t (AtLeast a b) s e = without_classes t (State (AtLeast a b)) (from_pair (λ p. statements.AtLeast p.first p.second) t a b s e).stands (λ h. h) (λ h. h)
statement_stands t (Same a b) s e = without_classes t (State (Same a b)) (from_pair (λ p. statements.Same p.first p.second) t a b s e).stands (λ h. h) (λ h. h)
statement_stands t (Stronger p q on) s e = without_classes t (State (Stronger p q on)) (from_strengths (λ x. statements.Stronger x.first x.second x.scope) t p q on s e).stands (λ h. h) (λ h. h)
statement_stands t (AsStrong p q on) s e = without_classes t (State (AsStrong p q on)) (from_strengths (λ x. statements.AsStrong x.first x.second x.scope) t p q on s e).stands (λ h. h) (λ h. h)
statement_stands t (EqualStrength p q on) s e = without_classes t (State (EqualStrength p q on)) (from_strengths (λ x. statements.EqualStrength x.first x.second x.scope) t p q on s e).stands (λ h. h) (λ h. h)
statement_stands t (Class name lowest highest) s e =
    let f = assignment_ok t name lowest highest s e in
    record {
      alternatives = f.named;
      criterion = λ h. h;
      classes = f.classes;
      interval = λ h. let some = f.some_class in omega (arith, h, some);
    }

pub statement_fails : (t : DecisionTable) (named : Named) (fault : LineFault) → statement_of t named ≡ Err fault → CommandFails t (State named) fault
statement_fails t (Prefer a b) fault e = by_names t (State (Prefer a b)) fault (pair_fails (λ p. statements.Prefer p.first p.second) t a b fault e)
statement_fails t (AtLeast a b) fault e = by_names t (State (AtLeast a b)) fault (pair_fails (λ p. statements.AtLeast p.first p.second) t a b fault e)
statement_fails t (Same a b) fault e = by_names t (State (Same a b)) fault (pair_fails (λ p. statements.Same p.first p.second) t a b fault e)
statement_fails t (Stronger p q on) fault e = by_names t (State (Stronger p q on)) fault (strengths_fails (λ x. statements.Stronger x.first x.second x.scope) t p q on fault e)
statement_fails t (AsStrong p q on) fault e = by_names t (State (AsStrong p q on)) fault (strengths_fails (λ x. statements.AsStrong x.first x.second x.scope) t p q on fault e)
statement_fails t (EqualStrength p q on) fault e = by_names t (State (EqualStrength p q on)) fault (strengths_fails (λ x. statements.EqualStrength x.first x.second x.scope) t p q on fault e)
statement_fails t (Class name lowest highest) fault e = assigned (assignment_err t name lowest highest fault e)
  where
    assigned : ClassFault t name (LacksClass t (lowest ∷ highest ∷ [])) (highest < lowest) fault → CommandFails t (State (Class name lowest highest)) fault
    assigned (no_alternative is lacks) = lacks_alternative is lacks
    assigned (no_class is unknown named) = unknown_class is unknown named (λ h. h)
    assigned (turned_round is turned known named) = bad_interval is turned named (λ h. h) known

-- a replacement names what its statement does
pub replacement_stands : (t : DecisionTable) (n : ℕ) (named : Named) → CommandStands t (State named) → CommandStands t (Replace n named)
replacement_stands t n named stands = record { alternatives = stands.alternatives; criterion = stands.criterion; classes = stands.classes; interval = stands.interval }

pub replacement_fails : (t : DecisionTable) (n : ℕ) (named : Named) (fault : LineFault) → CommandFails t (State named) fault → CommandFails t (Replace n named) fault
replacement_fails t n named fault (lacks_alternative is lacks) = lacks_alternative is lacks
replacement_fails t n named fault (lacks_criterion is lacks named_) = lacks_criterion is lacks named_
replacement_fails t n named fault (unknown_class is unknown a c) = unknown_class is unknown a c
replacement_fails t n named fault (bad_interval is turned a c known) = bad_interval is turned a c known

pub statement_valid : (t : DecisionTable) (named : Named) (s : Statement) → statement_of t named ≡ Ok s → IsValidIn t s
statement_valid t (Prefer a b) s e =
    let f = from_pair (λ p. statements.Prefer p.first p.second) t a b s e in
    subst (IsValidIn t) f.is (record { compared = f.within; assigned = tt })
statement_valid t (AtLeast a b) s e =
    let f = from_pair (λ p. statements.AtLeast p.first p.second) t a b s e in
    subst (IsValidIn t) f.is (record { compared = f.within; assigned = tt })
statement_valid t (Same a b) s e =
    let f = from_pair (λ p. statements.Same p.first p.second) t a b s e in
    subst (IsValidIn t) f.is (record { compared = f.within; assigned = tt })
statement_valid t (Stronger p q on) s e =
    let f = from_strengths (λ x. statements.Stronger x.first x.second x.scope) t p q on s e in
    subst (IsValidIn t) f.is (record { compared = (f.first, f.second, f.scope); assigned = tt })
statement_valid t (AsStrong p q on) s e =
    let f = from_strengths (λ x. statements.AsStrong x.first x.second x.scope) t p q on s e in
    subst (IsValidIn t) f.is (record { compared = (f.first, f.second, f.scope); assigned = tt })
statement_valid t (EqualStrength p q on) s e =
    let f = from_strengths (λ x. statements.EqualStrength x.first x.second x.scope) t p q on s e in
    subst (IsValidIn t) f.is (record { compared = (f.first, f.second, f.scope); assigned = tt })
statement_valid t (Class name lowest highest) s e =
    let f = assignment_ok t name lowest highest s e in
    subst (IsValidIn t) f.is (record {
      compared = tt;
      assigned = record { alternative = f.within; from_first = f.from_first; some_class = f.some_class; to_last = f.to_last };
    })

-- ---- questions

either_none : {A B : Type 0} → (A → ⊥) → (B → ⊥) → (A ⊎ B) → ⊥
either_none a b (inl h) = a h
either_none a b (inr h) = b h

pub neither : (⊥ ⊎ ⊥) → ⊥
neither h = either_none (λ h. h) (λ h. h) h

pub one_ok : (question : Result Question LineFault) (qs : List Question) → one_question question ≡ Ok qs → (q : Question) × (question ≡ Ok q) × (q ∷ [] ≡ qs)
one_ok question qs e =
    let found = bind_ok question (λ q. Ok (q ∷ [])) qs e in
    (found.0, found.1, let f = found.2 in cc)

pub one_err : (question : Result Question LineFault) (fault : LineFault) → one_question question ≡ Err fault → question ≡ Err fault
one_err question fault e = elim (bind_err question (λ q. Ok (q ∷ [])) fault e) [
  | inl none ↦ none
  | inr found ↦ absurd (let f = found.2 in cc)
]

pub questions_stand : (t : DecisionTable) (asked : Asked) (qs : List Question) → questions_of t asked ≡ Ok qs → CommandStands t (Ask asked)
questions_stand t Consistent qs e = without_classes t (Ask Consistent) (λ h. h, λ h. h) neither (λ h. h)
questions_stand t (Necessary a b) qs e =
    let one = one_ok (pair_of t a b >>= λ p. Ok (questions.Necessary p.first p.second)) qs e in
    without_classes t (Ask (Necessary a b)) (from_pair (λ p. questions.Necessary p.first p.second) t a b one.0 one.1).stands neither (λ h. h)
questions_stand t (Possible a b) qs e =
    let one = one_ok (pair_of t a b >>= λ p. Ok (questions.Possible p.first p.second)) qs e in
    without_classes t (Ask (Possible a b)) (from_pair (λ p. questions.Possible p.first p.second) t a b one.0 one.1).stands neither (λ h. h)
questions_stand t (NecessaryStrength p q on) qs e =
    let one = one_ok (strengths_of t p q on >>= λ x. Ok (questions.NecessaryStrength x.first x.second x.scope)) qs e in
    without_classes t (Ask (NecessaryStrength p q on)) (from_strengths (λ x. questions.NecessaryStrength x.first x.second x.scope) t p q on one.0 one.1).stands neither (λ h. h)
questions_stand t (PossibleStrength p q on) qs e =
    let one = one_ok (strengths_of t p q on >>= λ x. Ok (questions.PossibleStrength x.first x.second x.scope)) qs e in
    without_classes t (Ask (PossibleStrength p q on)) (from_strengths (λ x. questions.PossibleStrength x.first x.second x.scope) t p q on one.0 one.1).stands neither (λ h. h)
questions_stand t (PossibleClass name h) qs e =
    let one = one_ok (member_of t name h >>= λ a. Ok (questions.PossibleClass a h)) qs e in
    let f = member_ok (λ a. questions.PossibleClass a h) t name h one.0 one.1 in
    without_classes t (Ask (PossibleClass name h)) (f.named, λ h. h) (either_none f.classes (λ h. h)) (λ h. h)
questions_stand t (NecessaryClass name h) qs e =
    let one = one_ok (member_of t name h >>= λ a. Ok (questions.NecessaryClass a h)) qs e in
    let f = member_ok (λ a. questions.NecessaryClass a h) t name h one.0 one.1 in
    without_classes t (Ask (NecessaryClass name h)) (f.named, λ h. h) (either_none f.classes (λ h. h)) (λ h. h)
questions_stand t (Classes name) qs e =
    let f = sorted_ok (λ a. class_questions a t.classes) t name qs e in
    without_classes t (Ask (Classes name)) (f.named, λ h. h) (either_none (λ h. h) f.classes) (λ h. h)
questions_stand t Relation qs e = without_classes t (Ask Relation) (λ h. h, λ h. h) neither (λ h. h)

pub questions_valid : (t : DecisionTable) (asked : Asked) (qs : List Question) → questions_of t asked ≡ Ok qs → AllByRecursion (IsAskedIn t) qs
questions_valid t Consistent qs e = subst (AllByRecursion (IsAskedIn t)) (let is : questions.Consistent ∷ [] ≡ qs = cc in is) (tt, tt)
questions_valid t (Necessary a b) qs e =
    let one = one_ok (pair_of t a b >>= λ p. Ok (questions.Necessary p.first p.second)) qs e in
    let f = from_pair (λ p. questions.Necessary p.first p.second) t a b one.0 one.1 in
    subst (AllByRecursion (IsAskedIn t)) one.2 (subst (IsAskedIn t) f.is f.within, tt)
questions_valid t (Possible a b) qs e =
    let one = one_ok (pair_of t a b >>= λ p. Ok (questions.Possible p.first p.second)) qs e in
    let f = from_pair (λ p. questions.Possible p.first p.second) t a b one.0 one.1 in
    subst (AllByRecursion (IsAskedIn t)) one.2 (subst (IsAskedIn t) f.is f.within, tt)
questions_valid t (NecessaryStrength p q on) qs e =
    let one = one_ok (strengths_of t p q on >>= λ x. Ok (questions.NecessaryStrength x.first x.second x.scope)) qs e in
    let f = from_strengths (λ x. questions.NecessaryStrength x.first x.second x.scope) t p q on one.0 one.1 in
    subst (AllByRecursion (IsAskedIn t)) one.2 (subst (IsAskedIn t) f.is (f.first, f.second, f.scope), tt)
questions_valid t (PossibleStrength p q on) qs e =
    let one = one_ok (strengths_of t p q on >>= λ x. Ok (questions.PossibleStrength x.first x.second x.scope)) qs e in
    let f = from_strengths (λ x. questions.PossibleStrength x.first x.second x.scope) t p q on one.0 one.1 in
    subst (AllByRecursion (IsAskedIn t)) one.2 (subst (IsAskedIn t) f.is (f.first, f.second, f.scope), tt)
questions_valid t (PossibleClass name h) qs e =
    let one = one_ok (member_of t name h >>= λ a. Ok (questions.PossibleClass a h)) qs e in
    let f = member_ok (λ a. questions.PossibleClass a h) t name h one.0 one.1 in
    subst (AllByRecursion (IsAskedIn t)) one.2 (subst (IsAskedIn t) f.is (f.within, f.class.0, f.class.1), tt)
questions_valid t (NecessaryClass name h) qs e =
    let one = one_ok (member_of t name h >>= λ a. Ok (questions.NecessaryClass a h)) qs e in
    let f = member_ok (λ a. questions.NecessaryClass a h) t name h one.0 one.1 in
    subst (AllByRecursion (IsAskedIn t)) one.2 (subst (IsAskedIn t) f.is (f.within, f.class.0, f.class.1), tt)
questions_valid t (Classes name) qs e =
    let f = sorted_ok (λ a. class_questions a t.classes) t name qs e in
    subst (AllByRecursion (IsAskedIn t)) f.is (class_questions-asked t f.alternative f.within)
questions_valid t Relation qs e =
    let found = bind_ok (refuse faults.TooManyPairs (nat_lt MOST_RELATED (length t.alternatives))) _ qs e in
    subst (AllByRecursion (IsAskedIn t)) (let is : relation_questions (length t.alternatives) ≡ qs = (let f = found.2 in cc) in is) (all_asked t)

-- so few alternatives that their pairs are few
one_few : (q : Question) (qs : List Question) → q ∷ [] ≡ qs → length qs ≤ 20000
one_few q qs is = subst (λ (l : List Question). length l ≤ 20000) is (omega arith)

squares : (n : ℕ) → n ≤ 100 → n * (n * 2) ≤ 20000
squares n le =
    let doubled : n * 2 ≤ 200 = omega arith in
    mul-le n (n * 2) 100 200 le doubled

pub questions_few : (t : DecisionTable) (asked : Asked) (qs : List Question) → IsTable t → questions_of t asked ≡ Ok qs → length qs ≤ 20000
questions_few t Consistent qs table e = one_few questions.Consistent qs cc
questions_few t (Necessary a b) qs table e =
    let one = one_ok (pair_of t a b >>= λ p. Ok (questions.Necessary p.first p.second)) qs e in one_few one.0 qs one.2
questions_few t (Possible a b) qs table e =
    let one = one_ok (pair_of t a b >>= λ p. Ok (questions.Possible p.first p.second)) qs e in one_few one.0 qs one.2
questions_few t (NecessaryStrength p q on) qs table e =
    let one = one_ok (strengths_of t p q on >>= λ x. Ok (questions.NecessaryStrength x.first x.second x.scope)) qs e in one_few one.0 qs one.2
questions_few t (PossibleStrength p q on) qs table e =
    let one = one_ok (strengths_of t p q on >>= λ x. Ok (questions.PossibleStrength x.first x.second x.scope)) qs e in one_few one.0 qs one.2
questions_few t (PossibleClass name h) qs table e =
    let one = one_ok (member_of t name h >>= λ a. Ok (questions.PossibleClass a h)) qs e in one_few one.0 qs one.2
questions_few t (NecessaryClass name h) qs table e =
    let one = one_ok (member_of t name h >>= λ a. Ok (questions.NecessaryClass a h)) qs e in one_few one.0 qs one.2
questions_few t (Classes name) qs table e =
    let f = sorted_ok (λ a. class_questions a t.classes) t name qs e in
    let number = class_questions-number f.alternative t.classes in
    let most = table.classes_limit in
    subst (λ (l : List Question). length l ≤ 20000) f.is (omega (arith, number, most))
questions_few t Relation qs table e =
    let found = bind_ok (refuse faults.TooManyPairs (nat_lt MOST_RELATED (length t.alternatives))) _ qs e in
    let le : length t.alternatives ≤ 100 = not_many (length t.alternatives) (refuse_ok faults.TooManyPairs (nat_lt MOST_RELATED (length t.alternatives)) found.0 found.1) in
    let few = few_questions (length t.alternatives) in
    let most = squares (length t.alternatives) le in
    subst (λ (l : List Question). length l ≤ 20000) (let is : relation_questions (length t.alternatives) ≡ qs = (let f = found.2 in cc) in is) (omega arith)

-- a question that names an alternative and no criterion
member_fails : (t : DecisionTable) (asked : Asked) (name : List ℕ) (fault : LineFault) (Unknown : Type 0)
    → (LacksAlternative t (alternatives_in (Ask asked)) → LacksAlternative t (name ∷ []))
    → (Unknown → HasUnknownClass t (Ask asked)) → (LacksCriterion t (criterion_in (Ask asked)) → ⊥)
    → ClassFault t name Unknown ⊥ fault → (LacksAlternative t (name ∷ []) → LacksAlternative t (alternatives_in (Ask asked))) → CommandFails t (Ask asked) fault
member_fails t asked name fault Unknown back unknown none (no_alternative is lacks) there = lacks_alternative is (there lacks)
member_fails t asked name fault Unknown back unknown none (no_class is missing named) there = unknown_class is (unknown missing) (λ lacks. named (back lacks)) none
member_fails t asked name fault Unknown back unknown none (turned_round is turned known named) there = absurd turned

-- the questions of a line are refused for what it names, or because there are too many
pub questions_fail : (t : DecisionTable) (asked : Asked) (fault : LineFault) → questions_of t asked ≡ Err fault → CommandFails t (Ask asked) fault ⊎ ((fault ≡ faults.TooManyPairs) × HasManyPairs t (Ask asked))
questions_fail t Consistent fault e = absurd cc
questions_fail t (Necessary a b) fault e = inl (by_names t (Ask (Necessary a b)) fault (pair_fails (λ p. questions.Necessary p.first p.second) t a b fault (one_err (pair_of t a b >>= λ p. Ok (questions.Necessary p.first p.second)) fault e)))
questions_fail t (Possible a b) fault e = inl (by_names t (Ask (Possible a b)) fault (pair_fails (λ p. questions.Possible p.first p.second) t a b fault (one_err (pair_of t a b >>= λ p. Ok (questions.Possible p.first p.second)) fault e)))
questions_fail t (NecessaryStrength p q on) fault e = inl (by_names t (Ask (NecessaryStrength p q on)) fault (strengths_fails (λ x. questions.NecessaryStrength x.first x.second x.scope) t p q on fault (one_err (strengths_of t p q on >>= λ x. Ok (questions.NecessaryStrength x.first x.second x.scope)) fault e)))
questions_fail t (PossibleStrength p q on) fault e = inl (by_names t (Ask (PossibleStrength p q on)) fault (strengths_fails (λ x. questions.PossibleStrength x.first x.second x.scope) t p q on fault (one_err (strengths_of t p q on >>= λ x. Ok (questions.PossibleStrength x.first x.second x.scope)) fault e)))
questions_fail t (PossibleClass name h) fault e = inl (member_fails t (PossibleClass name h) name fault (LacksClass t (h ∷ [])) (λ lacks. lacks) (λ unknown. inl unknown) (λ h. h) (member_err (λ a. questions.PossibleClass a h) t name h fault (one_err (member_of t name h >>= λ a. Ok (questions.PossibleClass a h)) fault e)) (λ lacks. lacks))
questions_fail t (NecessaryClass name h) fault e = inl (member_fails t (NecessaryClass name h) name fault (LacksClass t (h ∷ [])) (λ lacks. lacks) (λ unknown. inl unknown) (λ h. h) (member_err (λ a. questions.NecessaryClass a h) t name h fault (one_err (member_of t name h >>= λ a. Ok (questions.NecessaryClass a h)) fault e)) (λ lacks. lacks))
questions_fail t (Classes name) fault e = inl (member_fails t (Classes name) name fault (t.classes ≡ 0) (λ lacks. lacks) (λ unknown. inr unknown) (λ h. h) (sorted_err (λ a. class_questions a t.classes) t name fault e) (λ lacks. lacks))
questions_fail t Relation fault e = elim (bind_err (refuse faults.TooManyPairs (nat_lt MOST_RELATED (length t.alternatives))) _ fault e) [
  | inl many ↦
      let h = refuse_err faults.TooManyPairs fault (nat_lt MOST_RELATED (length t.alternatives)) many in
      inr (h.1, many_pairs (length t.alternatives) h.0)
  | inr found ↦ absurd (let f = found.2 in cc)
]

-- and where they are not refused, all pairs are not too many
pub questions_not_many : (t : DecisionTable) (asked : Asked) (qs : List Question) → questions_of t asked ≡ Ok qs → HasManyPairs t (Ask asked) → ⊥
questions_not_many t Consistent qs e many = many
questions_not_many t (Necessary a b) qs e many = many
questions_not_many t (Possible a b) qs e many = many
questions_not_many t (NecessaryStrength p q on) qs e many = many
questions_not_many t (PossibleStrength p q on) qs e many = many
questions_not_many t (PossibleClass a h) qs e many = many
questions_not_many t (NecessaryClass a h) qs e many = many
questions_not_many t (Classes a) qs e many = many
questions_not_many t Relation qs e many =
    let found = bind_ok (refuse faults.TooManyPairs (nat_lt MOST_RELATED (length t.alternatives))) _ qs e in
    let le : length t.alternatives ≤ 100 = not_many (length t.alternatives) (refuse_ok faults.TooManyPairs (nat_lt MOST_RELATED (length t.alternatives)) found.0 found.1) in
    absurd (omega arith)

-- ---- what a reader of names answered

pub read_valid : (t : DecisionTable) (named : Named) (result : Result Statement LineFault) → result ≡ statement_of t named → IfOk result (IsValidIn t)
read_valid t named (Ok s) e = statement_valid t named s (sym e)
read_valid t named (Err fault) e = tt

pub all_valid : {E : Type 0} (stop : E → Option LineFault) (t : DecisionTable) (asked : Asked) (result : Result (Vec Question) E) → Gives (λ v. v.items) stop result (questions_of t asked) → IfOk result (λ v. AllByRecursion (IsAskedIn t) v.items)
all_valid stop t asked (Ok qs) e = questions_valid t asked qs.items e
all_valid stop t asked (Err e) h = tt

pub all_few : {E : Type 0} (stop : E → Option LineFault) (t : DecisionTable) (asked : Asked) (result : Result (Vec Question) E) → IsTable t → Gives (λ v. v.items) stop result (questions_of t asked) → IfOk result (λ v. length v.items ≤ 20000)
all_few stop t asked (Ok qs) table e = questions_few t asked qs.items table e
all_few stop t asked (Err e) table h = tt
