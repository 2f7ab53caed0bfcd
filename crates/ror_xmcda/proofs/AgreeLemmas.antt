-- That a reading gives the first of some faults, or a value where there is none.
use Rattle.std.proofs.Common.{◌≡◌, ℕ, Bool, true, false, List, [], ◌∷◌, ◌++◌, Option, Some, None, Result, Ok, Err, refl, sym, ap, ◌∙◌, cond, subst, inl, inr, append_assoc}
use Rattle.std.specs.Prelude.{◌⊎◌, Contains, codes, not, is_some, ◌||◌}
use Rattle.ror_text.specs.Reading.{◌>>=◌, refuse, need, read_all}
use Rattle.ror_table.specs.declared.fault.Kind.TheVariants as unsupported
use Rattle.ror_table.specs.declared.fault.TableFault.{TableFault}
use Rattle.ror_table.specs.declared.fault.TableKind.TheVariants.{BadLine, RepeatedId, Unsupported}
use Rattle.ror_table.specs.Plain.{at_line}
use Rattle.ror_table.specs.Draft.{has_id}
use Rattle.ror_elements.specs.Tree.{Tree}
use Rattle.ror_xmcda.specs.declared.roster.Roster.{Roster}
use Rattle.ror_xmcda.specs.Nodes.{id_of, text_of, line_of, first_named, first_of}
use Rattle.ror_xmcda.specs.Roster.{is_listed}
use Rattle.ror_xmcda.specs.Listing.{valid, new_id, truth_of, truth_at, is_active}
use Rattle.ror_xmcda.specs.Meaning.{is_text, is_id_of}
use Rattle.ror_xmcda.specs.Faults.{fault_if, in_order, is_some_id, active_faults}
use Rattle.ror_xmcda.proofs.MeaningLemmas.{IsRosterOf, not_there, valid_same}
use Rattle.ror_xmcda.proofs.ReadableLemmas.{any_found, text_same, unlisted}
use Rattle.ror_text.proofs.ReadingLemmas.{need_ok}
use Rattle.ror_text.specs.Ids.{is_id}

-- the first of the faults is given, or a value where there is none
abbrev pub Agrees : {A : Type 0} → Result A TableFault → List TableFault → Type 0
Agrees (Ok x) faults = faults ≡ []
Agrees (Err fault) faults = first_of faults ≡ Some fault

first_before : {A : Type 0} (xs ys : List A) (x : A) → first_of xs ≡ Some x → first_of (xs ++ ys) ≡ Some x
first_before [] ys x e = absurd cc
first_before (y ∷ xs) ys x e = e

pub agrees_bind : {A B : Type 0} (r : Result A TableFault) (f : A → Result B TableFault) (faults more : List TableFault) → Agrees r faults → ((x : A) → r ≡ Ok x → Agrees (f x) more) → Agrees (r >>= f) (faults ++ more)
agrees_bind (Ok x) f faults more h rest = subst (λ (ys : List TableFault). Agrees (f x) (ys ++ more)) (sym h) (rest x refl)
agrees_bind (Err fault) f faults more h rest = first_before faults more fault h

-- the last step, after which a value is given
pub agrees_last : {A B : Type 0} (r : Result A TableFault) (g : A → B) (faults : List TableFault) → Agrees r faults → Agrees (r >>= λ x. Ok (g x)) faults
agrees_last (Ok x) g faults h = h
agrees_last (Err fault) g faults h = h

-- the same faults, written from the left
pub agrees_three : {A : Type 0} (r : Result A TableFault) (a b c : List TableFault) → Agrees r (a ++ (b ++ c)) → Agrees r ((a ++ b) ++ c)
agrees_three r a b c h = subst (Agrees r) (sym (append_assoc a b c)) h

pub agrees_four : {A : Type 0} (r : Result A TableFault) (a b c d : List TableFault) → Agrees r (a ++ (b ++ (c ++ d))) → Agrees r (((a ++ b) ++ c) ++ d)
agrees_four r a b c d h = agrees_three r (a ++ b) c d (agrees_three r a b (c ++ d) h)

pub agrees_refuse : (fault : TableFault) (test : Bool) → Agrees (refuse fault test) (fault_if fault test)
agrees_refuse fault true = refl
agrees_refuse fault false = refl

pub agrees_need : {A : Type 0} (fault : TableFault) (o : Option A) → Agrees (need fault o) (fault_if fault (not (is_some o)))
agrees_need fault None = refl
agrees_need fault (Some x) = refl

-- each element's faults after those of the elements before it
pub agrees_all : {S : Type 0} (P : List Tree → S → Type 0) (step : S → Tree → Result S TableFault) (faults : List Tree → Tree → List TableFault) → ((before : List Tree) (s : S) (x : Tree) (next : S) → P before s → step s x ≡ Ok next → P (before ++ x ∷ []) next)
    → ((before : List Tree) (s : S) (x : Tree) → P before s → Agrees (step s x) (faults before x)) → (before : List Tree) (s : S) (xs : List Tree) → P before s → Agrees (read_all step s xs) (in_order faults before xs)
agrees_all P step faults more each before s [] h = refl
agrees_all P step faults more each before s (x ∷ xs) h =
    agrees_bind (step s x) (λ next. read_all step next xs) (faults before x) (in_order faults (before ++ x ∷ []) xs) (each before s x h) (λ next e. agrees_all P step faults more each (before ++ x ∷ []) next xs (more before s x next h e))

-- what agrees fails exactly where there is a fault, with the first
pub agreed_err : {A : Type 0} (r : Result A TableFault) (faults : List TableFault) (fault : TableFault) → Agrees r faults → first_of faults ≡ Some fault → r ≡ Err fault
agreed_err (Ok x) faults fault h e = absurd (let none : ◌≡◌ {A = Option TableFault} None (Some fault) = sym (ap first_of h) ∙ e in cc)
agreed_err (Err g) faults fault h e = let same : Some g ≡ Some fault = sym h ∙ e in cc

-- ---- ids

has_id_there : (r : Roster) (id : List ℕ) → Contains r.kept id ⊎ Contains r.left_out id → is_listed r id ≡ true
has_id_there r id there = by (has_id r.kept id) (has_id r.left_out id) refl refl
  where
    by : (a b : Bool) → has_id r.kept id ≡ a → has_id r.left_out id ≡ b → (a || b) ≡ true
    by true b p q = refl
    by false true p q = refl
    by false false p q = elim there [
      | inl h ↦ absurd (not_there r.kept id p h)
      | inr h ↦ absurd (not_there r.left_out id q h)
    ]

-- what was listed so far is what stands before
listed_same : (before : List Tree) (r : Roster) (id : List ℕ) → IsRosterOf before r → is_listed r id ≡ is_id_of before (Some id)
listed_same before r id are = by (is_id_of before (Some id)) refl
  where
    named : (o : Option (List ℕ)) (x : List ℕ) → is_text id o ≡ true → o ≡ Some x → x ≡ id
    named o x is same = let both : Some x ≡ Some id = sym same ∙ text_same id o is in cc

    by : (b : Bool) → is_id_of before (Some id) ≡ b → is_listed r id ≡ b
    by true known = has_id_there r id (any_found (λ t. is_text id (id_of t)) (λ t. (x : List ℕ) × (id_of t ≡ Some x) × (Contains r.kept x ⊎ Contains r.left_out x)) (Contains r.kept id ⊎ Contains r.left_out id) before known are.known (λ t is h. subst (λ (x : List ℕ). Contains r.kept x ⊎ Contains r.left_out x) (named (id_of t) h.0 is h.1) h.2))
    by false none = unlisted before r id are none

valid_same_test : (o : Option (List ℕ)) → is_some (valid o) ≡ is_some_id o
valid_same_test None = refl
valid_same_test (Some id) = by (is_id id)
  where
    by : (b : Bool) → is_some (cond b (Some id) None) ≡ b
    by true = refl
    by false = refl

pub new_id_agrees : (before : List Tree) (t : Tree) (r : Roster) → IsRosterOf before r → Agrees (new_id r t) (fault_if (at_line (line_of t) (Unsupported unsupported.Id)) (not (is_some_id (id_of t))) ++ fault_if (at_line (line_of t) RepeatedId) (is_id_of before (id_of t)))
unfolding new_id
new_id_agrees before t r are =
    agrees_bind (need (at_line (line_of t) (Unsupported unsupported.Id)) (valid (id_of t))) _ (fault_if (at_line (line_of t) (Unsupported unsupported.Id)) (not (is_some_id (id_of t)))) (fault_if (at_line (line_of t) RepeatedId) (is_id_of before (id_of t)))
    (subst (λ b. Agrees (need (at_line (line_of t) (Unsupported unsupported.Id)) (valid (id_of t))) (fault_if (at_line (line_of t) (Unsupported unsupported.Id)) (not b))) (valid_same_test (id_of t)) (agrees_need (at_line (line_of t) (Unsupported unsupported.Id)) (valid (id_of t)))) (λ id e.
    agrees_last (refuse (at_line (line_of t) RepeatedId) (is_listed r id)) (λ u. id) (fault_if (at_line (line_of t) RepeatedId) (is_id_of before (id_of t)))
    (subst (λ b. Agrees (refuse (at_line (line_of t) RepeatedId) (is_listed r id)) (fault_if (at_line (line_of t) RepeatedId) b)) (repeated id (need_ok (at_line (line_of t) (Unsupported unsupported.Id)) (valid (id_of t)) id e)) (agrees_refuse (at_line (line_of t) RepeatedId) (is_listed r id))))
  where
    repeated : (id : List ℕ) → valid (id_of t) ≡ Some id → is_listed r id ≡ is_id_of before (id_of t)
    repeated id e = listed_same before r id are ∙ ap (is_id_of before) (sym ((valid_same (id_of t) id e).0))

pub active_agrees : (t : Tree) → Agrees (is_active t) (active_faults (first_named (codes "active") t))
unfolding is_active
active_agrees t = by (first_named (codes "active") t)
  where
    by : (o : Option Tree) → Agrees (truth_at o) (active_faults o)
    by None = refl
    by (Some a) = agrees_need (at_line (line_of a) BadLine) (truth_of (text_of a))
