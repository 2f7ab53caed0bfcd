-- One more of a list: what a loop has made and what is left give the whole.
use Rattle.std.proofs.Common.{◌≡◌, ℕ, suc, ◌+◌, ◌<◌, ◌≤◌, List, [], ◌∷◌, ◌++◌, length, map, drop, get_or, Result, Ok, Err, refl, sym, ap, ◌∙◌, arith, drop-cons, append_assoc}
use Rattle.std.proofs.lemmas.List.{append-nil, drop_all}
use Rattle.serde_json.specs.Data.{Data}
use Rattle.serde_json.specs.View.{items_view, view}
use Rattle.serde_json.specs.declared.value.Value.{Value}
use Rattle.ror_text.specs.Reading.{◌>>=◌}
use Rattle.ror_json.specs.declared.fault.JsonFault.{JsonFault}
use Rattle.ror_json.specs.declared.fault.JsonFault.TheVariants.{BadShape}
use Rattle.ror_json.specs.declared.fault.Misfit.{Misfit}
use Rattle.ror_json.specs.declared.fault.Misfit.TheVariants.{Shape}
use Rattle.ror_json.specs.Reading.{items_from}

-- ---- forms made one after the other

-- the forms made so far, and those of what is left
abbrev pub FormsSoFar : {X : Type 0} → (X → Data) → List Value → List X → List X → Type 0
FormsSoFar form made left all = map view made ++ map form left ≡ map form all

map_push : (made : List Value) (v : Value) → map view (made ++ v ∷ []) ≡ map view made ++ view v ∷ []
map_push [] v = refl
map_push (x ∷ made) v = ap (λ (ds : List Data). view x ∷ ds) (map_push made v)

pub one_form_more : {X : Type 0} (form : X → Data) (all : List X) (i : ℕ) (x : X) (made more : List Value) (v : Value) → i < length all → x ≡ get_or all i x → more ≡ made ++ v ∷ [] → view v ≡ form x
    → FormsSoFar form made (drop i all) all → FormsSoFar form more (drop (i + 1) all) all
one_form_more form all i x made more v inside is pushed says so_far =
    let next : suc i ≡ i + 1 = omega arith in
    let split : drop i all ≡ x ∷ drop (i + 1) all = drop-cons all i x inside ∙ ap (λ y. y ∷ drop (suc i) all) (sym is) ∙ ap (λ k. x ∷ drop k all) next in
    let step : map view more ++ map form (drop (i + 1) all) ≡ map view made ++ map form (x ∷ drop (i + 1) all) =
    ap (λ vs. map view vs ++ map form (drop (i + 1) all)) pushed ∙ ap (λ ds. ds ++ map form (drop (i + 1) all)) (map_push made v) ∙ append_assoc (map view made) (view v ∷ []) (map form (drop (i + 1) all)) ∙ ap (λ d. map view made ++ d ∷ map form (drop (i + 1) all)) says in
    step ∙ ap (λ xs. map view made ++ map form xs) (sym split) ∙ so_far

pub all_forms : {X : Type 0} (form : X → Data) (all : List X) (i : ℕ) (made : List Value) → length all ≤ i → FormsSoFar form made (drop i all) all → map view made ≡ map form all
all_forms form all i made past so_far = sym (ap (λ xs. map view made ++ map form xs) (drop_all i all past) ∙ append-nil (map view made)) ∙ so_far

-- ---- items read one after the other

-- what is read from here on, behind what was read
abbrev pub behind : {A : Type 0} → List A → Result (List A) JsonFault → Result (List A) JsonFault
behind front r = r >>= λ xs. Ok (front ++ xs)

-- what was read, and what is left, are the whole
abbrev pub ReadSoFar : {A : Type 0} → (Data → Result A Misfit) → List A → List Value → Result (List A) JsonFault → Type 0
ReadSoFar read front left whole = behind front (items_from read (suc (length front)) (items_view left)) ≡ whole

behind_more : {A : Type 0} (front : List A) (x : A) (r : Result (List A) JsonFault) → behind front (r >>= λ xs. Ok (x ∷ xs)) ≡ behind (front ++ x ∷ []) r
behind_more front x (Ok xs) = ap (λ l. Ok l) (sym (append_assoc front (x ∷ []) xs))
behind_more front x (Err fault) = refl

length_more : {A : Type 0} (front : List A) (x : A) → length (front ++ x ∷ []) ≡ suc (length front)
length_more [] x = refl
length_more (y ∷ front) x = ap suc (length_more front x)

pub one_item_more : {A : Type 0} (read : Data → Result A Misfit) (items : List Value) (i : ℕ) (v : Value) (front more : List A) (x : A) (whole : Result (List A) JsonFault) → i < length items → v ≡ get_or items i v → more ≡ front ++ x ∷ [] → read (view v) ≡ Ok x
    → ReadSoFar read front (drop i items) whole → ReadSoFar read more (drop (i + 1) items) whole
unfolding items_from
one_item_more read items i v front more x whole inside is pushed one so_far =
    let next : suc i ≡ i + 1 = omega arith in
    let split : drop i items ≡ v ∷ drop (i + 1) items = drop-cons items i v inside ∙ ap (λ y. y ∷ drop (suc i) items) (sym is) ∙ ap (λ k. v ∷ drop k items) next in
    let rest = items_from read (suc (suc (length front))) (items_view (drop (i + 1) items)) in
    let step : behind front (items_from read (suc (length front)) (items_view (v ∷ drop (i + 1) items))) ≡ behind (front ++ x ∷ []) rest = (rw one (behind_more front x rest)) in
    let count : suc (length more) ≡ suc (suc (length front)) = omega (arith, ap length pushed, length_more front x) in
    ap (λ xs. behind xs (items_from read (suc (length more)) (items_view (drop (i + 1) items)))) pushed ∙ ap (λ n. behind (front ++ x ∷ []) (items_from read n (items_view (drop (i + 1) items)))) count
    ∙ sym step ∙ ap (λ vs. behind front (items_from read (suc (length front)) (items_view vs))) (sym split) ∙ so_far

pub item_fails : {A : Type 0} (read : Data → Result A Misfit) (items : List Value) (i : ℕ) (v : Value) (front : List A) (whole : Result (List A) JsonFault) → i < length items → v ≡ get_or items i v → read (view v) ≡ Err Shape
    → ReadSoFar read front (drop i items) whole → whole ≡ Err (BadShape (length front + 1))
unfolding items_from
item_fails read items i v front whole inside is fails so_far =
    let next : suc i ≡ i + 1 = omega arith in
    let split : drop i items ≡ v ∷ drop (i + 1) items = drop-cons items i v inside ∙ ap (λ y. y ∷ drop (suc i) items) (sym is) ∙ ap (λ k. v ∷ drop k items) next in
    let place : suc (length front) ≡ length front + 1 = omega arith in
    let step : behind front (items_from read (suc (length front)) (items_view (v ∷ drop (i + 1) items))) ≡ Err (BadShape (suc (length front))) = rw fails refl in
    sym so_far ∙ ap (λ vs. behind front (items_from read (suc (length front)) (items_view vs))) split ∙ step ∙ ap (λ n. Err (BadShape n)) place

pub all_items_read : {A : Type 0} (read : Data → Result A Misfit) (items : List Value) (i : ℕ) (front : List A) (whole : Result (List A) JsonFault) → length items ≤ i → ReadSoFar read front (drop i items) whole → whole ≡ Ok front
unfolding items_from
all_items_read read items i front whole past so_far =
    sym so_far ∙ ap (λ vs. behind front (items_from read (suc (length front)) (items_view vs))) (drop_all i items past) ∙ ap (λ xs. Ok xs) (append-nil front)
