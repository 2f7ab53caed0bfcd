-- What follows of a reading step by step, and the first line that has a fault.
use Rattle.std.proofs.Common.{◌≡◌, ℕ, Bool, true, false, List, [], ◌∷◌, ◌++◌, Option, Some, None, Result, Ok, Err, refl, sym, ap, subst, ◌∙◌, inl, inr}
use Rattle.std.specs.Prelude.{IfOk, IfSome, ◌↔◌, ◌⊎◌}
use Rattle.std.proofs.lemmas.Bool.{cases_order}
use Rattle.ror_text.specs.Reading.{◌>>=◌, refuse, need, Gives, read_all, IsFirstFault}
use Rattle.ror_text.specs.FirstFault.{IsFirst, IsEarlier}

-- ---- one step

-- the value of a step that did not fail
pub bind_ok : {A B F : Type 0} (r : Result A F) (f : A → Result B F) (y : B) → (r >>= f) ≡ Ok y → (x : A) × (r ≡ Ok x) × (f x ≡ Ok y)
bind_ok (Ok x) f y e = (x, refl, e)
bind_ok (Err fault) f y e = absurd cc

-- a fault is that of the first step, or of what follows it
pub bind_err : {A B F : Type 0} (r : Result A F) (f : A → Result B F) (fault : F) → (r >>= f) ≡ Err fault → (r ≡ Err fault) ⊎ ((x : A) × (r ≡ Ok x) × (f x ≡ Err fault))
bind_err (Ok x) f fault e = inr (x, refl, e)
bind_err (Err g) f fault e = inl cc

pub bind-at_ok : {A B F : Type 0} (r : Result A F) (f : A → Result B F) (x : A) → r ≡ Ok x → (r >>= f) ≡ f x
bind-at_ok r f x e = rw e refl

pub bind-at_err : {A B F : Type 0} (r : Result A F) (f : A → Result B F) (fault : F) → r ≡ Err fault → (r >>= f) ≡ Err fault
bind-at_err r f fault e = rw e refl

-- a test that did not fail
pub refuse_ok : {F : Type 0} (fault : F) (test : Bool) (x : Unit {0}) → refuse fault test ≡ Ok x → test ≡ false
refuse_ok fault true x e = absurd cc
refuse_ok fault false x e = refl

pub refuse_err : {F : Type 0} (fault g : F) (test : Bool) → refuse fault test ≡ Err g → (test ≡ true) × (g ≡ fault)
refuse_err fault g true e = (refl, cc)
refuse_err fault g false e = absurd cc

-- a value that is there
pub need_ok : {A F : Type 0} (fault : F) (o : Option A) (x : A) → need fault o ≡ Ok x → o ≡ Some x
need_ok fault None x e = absurd cc
need_ok fault (Some y) x e = cc

pub need_err : {A F : Type 0} (fault g : F) (o : Option A) → need fault o ≡ Err g → (o ≡ None) × (g ≡ fault)
need_err fault g None e = (refl, cc)
need_err fault g (Some y) e = absurd cc

-- ---- what a reader hands on by `?`

-- the fault of a step is the fault of the whole
pub gives_exit : {A B E F : Type 0} (fault_of : E → Option F) (e : E) (reading : Result A F) (f : A → Result B F) → IfSome (fault_of e) (λ g. reading ≡ Err g) → IfSome (fault_of e) (λ g. (reading >>= f) ≡ Err g)
gives_exit fault_of e reading f h = exit (fault_of e) reading f h
  where
    exit : {A B F : Type 0} (o : Option F) (reading : Result A F) (f : A → Result B F) → IfSome o (λ g. reading ≡ Err g) → IfSome o (λ g. (reading >>= f) ≡ Err g)
    exit None reading f h = tt
    exit (Some g) reading f h = bind-at_err reading f g h

-- after a step that gave its value, the rest decides
pub gives_bind : {A X Y E F : Type 0} (view : X → Y) (fault_of : E → Option F) (r : Result X E) (reading : Result A F) (f : A → Result Y F) (x : A) → reading ≡ Ok x → Gives view fault_of r (f x) → Gives view fault_of r (reading >>= f)
gives_bind view fault_of r reading f x e h = rw (bind-at_ok reading f x e) h

-- what is given is what the definition reads
pub gives_ok : {X Y E F : Type 0} (view : X → Y) (fault_of : E → Option F) (r : Result X E) (reading : Result Y F) (y : Y) → Gives view fault_of r reading → reading ≡ Ok y → IfOk r (λ x. view x ≡ y)
gives_ok view fault_of (Ok x) reading y h e = cc
gives_ok view fault_of (Err g) reading y h e = tt

-- where the definition fails, so does the reader
pub gives_err : {X Y E F : Type 0} (view : X → Y) (fault_of : E → Option F) (r : Result X E) (reading : Result Y F) (fault : F) → Gives view fault_of r reading → reading ≡ Err fault → IfOk r (λ _. ⊥)
gives_err view fault_of (Ok x) reading fault h e = absurd cc
gives_err view fault_of (Err g) reading fault h e = tt

-- what holds of each value that the rest gives holds of the whole
pub keeps : {A B F : Type 0} (P : B → Type 0) (r : Result A F) (f : A → Result B F) → ((x : A) → r ≡ Ok x → IfOk (f x) P) → IfOk (r >>= f) P
keeps P (Ok x) f h = h x refl
keeps P (Err fault) f h = tt

-- ---- lines in order

pub read_all-append : {S L F : Type 0} (step : S → L → Result S F) (state reached : S) (before after : List L) → read_all step state before ≡ Ok reached → read_all step state (before ++ after) ≡ read_all step reached after
read_all-append step state reached [] after e = ap (λ s. read_all step s after) cc
read_all-append step state reached (line ∷ before) after e =
    let b = bind_ok (step state line) (λ next. read_all step next before) reached e in
    rw b.1 (read_all-append step b.0 reached before after b.2)

-- where reading fails, a line has the fault and those before it are read
pub first_fault : {S L F : Type 0} (step : S → L → Result S F) (state : S) (lines : List L) (fault : F) → read_all step state lines ≡ Err fault → IsFirstFault step state lines fault
first_fault step state [] fault e = absurd cc
first_fault step state (line ∷ lines) fault e =
    elim (bind_err (step state line) (λ next. read_all step next lines) fault e) [
      | inl here ↦ record { before = []; line = line; after = lines; reached = state; split = refl; reads = refl; fails = here }
      | inr later ↦
          let rest = first_fault step later.0 lines fault later.2 in
          record { before = line ∷ rest.before; line = rest.line; after = rest.after; reached = rest.reached; split = ap (λ ls. line ∷ ls) rest.split; reads = rw later.1 rest.reads; fails = rest.fails }
    ]

-- and a line that has a fault after lines that are read decides
pub read_all_fails : {S L F : Type 0} (step : S → L → Result S F) (state : S) (lines : List L) (fault : F) → IsFirstFault step state lines fault → read_all step state lines ≡ Err fault
read_all_fails step state lines fault first =
    ap (read_all step state) first.split ∙ read_all-append step state first.reached first.before (first.line ∷ first.after) first.reads ∙ bind-at_err (step first.reached first.line) _ fault first.fails

pub first_fault_iff : {S L F : Type 0} (step : S → L → Result S F) (state : S) (lines : List L) (fault : F) → (read_all step state lines ≡ Err fault) ↔ IsFirstFault step state lines fault
first_fault_iff step state lines fault = (first_fault step state lines fault, read_all_fails step state lines fault)

-- what each line keeps, all of them keep
pub read_all_keeps : {S L F : Type 0} (P : S → Type 0) (step : S → L → Result S F) → ((s : S) (line : L) → P s → IfOk (step s line) P) → (state : S) (lines : List L) → P state → IfOk (read_all step state lines) P
read_all_keeps P step each state [] h = h
read_all_keeps P step each state (line ∷ lines) h = keeps P (step state line) (λ next. read_all step next lines) (λ next e. read_all_keeps P step each next lines (subst (λ r. IfOk r P) e (each state line h)))

-- ---- the first of the faults that a value has

-- two first faults are found by the same stage of tests, at the same place
pub first_same : {F : Type 0} (Fails : F → Type 0) (stage place : F → ℕ) (f g : F) → IsFirst Fails (IsEarlier stage place) f → IsFirst Fails (IsEarlier stage place) g → (stage f ≡ stage g) × (place f ≡ place g)
first_same Fails stage place f g p q = elim (cases_order (stage f) (stage g)) [
  | inl same ↦ (
    same,
    elim (cases_order (place f) (place g)) [
      | inl there ↦ there
      | inr (inl less) ↦ absurd (q.none_before f (inr (same, less)) p.fails)
      | inr (inr less) ↦ absurd (p.none_before g (inr (sym same, less)) q.fails)
    ],
  )
  | inr (inl less) ↦ absurd (q.none_before f (inl less) p.fails)
  | inr (inr less) ↦ absurd (p.none_before g (inl less) q.fails)
]
