-- What a reader answers: a value, or the first fault.
use Rattle.std.specs.Prelude.{◌≡◌, Bool, true, false, List, [], ◌∷◌, ◌++◌, Option, Some, None, Result, Ok, Err, IfSome}

-- the first fault, or what the rest makes of the value
infixl 10 ◌>>=◌
abbrev pub ◌>>=◌ : {A B F : Type 0} → Result A F → (A → Result B F) → Result B F
(Ok x) >>= f = f x
(Err fault) >>= f = Err fault

-- the fault, where the test is true
abbrev pub refuse : {F : Type 0} → F → Bool → Result (Unit {0}) F
refuse fault true = Err fault
refuse fault false = Ok tt

-- the value that there is, else the fault
abbrev pub need : {A F : Type 0} → F → Option A → Result A F
need fault None = Err fault
need fault (Some x) = Ok x

-- What a reader answered, its value seen by view, is what the definition reads.
-- Where fault_of knows no fault for the error, as for want of memory, nothing is said.
abbrev pub Gives : {X Y E F : Type 0} → (X → Y) → (E → Option F) → Result X E → Result Y F → Type 0
Gives view fault_of (Ok x) reading = reading ≡ Ok (view x)
Gives view fault_of (Err e) reading = IfSome (fault_of e) (λ f. reading ≡ Err f)

-- what is read of the lines in order, from a state, up to the first line that has a fault
abbrev pub read_all : {S L F : Type 0} → (S → L → Result S F) → S → List L → Result S F
read_all step state [] = Ok state
read_all step state (line ∷ lines) = step state line >>= λ next. read_all step next lines

-- a line has the fault, and the lines before it are read
pub record IsFirstFault {S L F : Type 0} (step : S → L → Result S F) (state : S) (lines : List L)
    (fault : F) : Type 0 where
  pub before : List L
  pub line : L
  pub after : List L
  pub reached : S
  pub split : lines ≡ before ++ line ∷ after
  pub reads : read_all step state before ≡ Ok reached
  pub fails : step reached line ≡ Err fault
