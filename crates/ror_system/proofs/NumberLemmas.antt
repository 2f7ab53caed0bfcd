-- Lists of which the numbers other than 0 are kept: each number of them, one number more, and all numbers but 0 one by one.
use Rattle.std.proofs.Common.{◌≡◌, ◌≢◌, ℕ, zero, suc, ◌+◌, ◌-◌, ◌<◌, ◌≤◌, List, [], ◌∷◌, ◌++◌, length, map, drop, replicate, get_or, nat_lt, ℤ, pos, ◌⊎◌, inl, inr, refl, sym, ap, ◌∙◌, subst, arith, append-nil, length-append}
use Rattle.std.specs.List.{AllByRecursion}
use Rattle.std.specs.List.Sorted.{IsPartitionedBy}
use Rattle.std.proofs.lemmas.List.Sorted.{IsPartitionedBy-ltb, IsNonDecreasingBy-from_default}
use Rattle.std.proofs.Math.Seq.{get_or-append_right}
use Rattle.std.proofs.lemmas.List.{append_assoc, drop_all, drop_more, get_or_append_left, length-replicate}
use Rattle.ror_integers.specs.Vectors.{entry}
use Rattle.ror_system.specs.Numbers.{spread, ArePlaced, AreTheOthers}

-- ---- a list to which the rest of another is put, one number after the other
-- with what is left from place i on behind it, the list is the whole
abbrev pub IsLeftToPush : List ℤ → List ℤ → ℕ → List ℤ → Type 0
IsLeftToPush list numbers i whole = list ++ drop i numbers ≡ whole

pub IsLeftToPush-more : (list more numbers whole : List ℤ) (i : ℕ) (x : ℤ) → IsLeftToPush list numbers i whole → i < length numbers → x ≡ entry numbers i → more ≡ list ++ x ∷ [] → IsLeftToPush more numbers (i + 1) whole
IsLeftToPush-more list more numbers whole i x h l is e =
    let d : drop i numbers ≡ x ∷ drop (i + 1) numbers = drop_more numbers i (pos 0) l ∙ ap (λ (y : ℤ). y ∷ drop (i + 1) numbers) (sym is) in
    ap (λ (xs : List ℤ). xs ++ drop (i + 1) numbers) e ∙ append_assoc list (x ∷ []) (drop (i + 1) numbers) ∙ ap (λ (xs : List ℤ). list ++ xs) (sym d) ∙ h

pub IsLeftToPush-end : (list numbers whole : List ℤ) (i : ℕ) → IsLeftToPush list numbers i whole → length numbers ≤ i → list ≡ whole
IsLeftToPush-end list numbers whole i h l = sym (append-nil list) ∙ ap (λ (xs : List ℤ). list ++ xs) (sym (drop_all i numbers l)) ∙ h

-- ---- zeros
entry-zeros : (n k : ℕ) → entry (replicate n (pos 0)) k ≡ pos 0
entry-zeros zero k = refl
entry-zeros (suc n) zero = refl
entry-zeros (suc n) (suc k) = entry-zeros n k

zeros_more : (n : ℕ) → replicate (suc n) (pos 0) ≡ replicate n (pos 0) ++ pos 0 ∷ []
zeros_more zero = refl
zeros_more (suc n) = ap (λ (xs : List ℤ). pos 0 ∷ xs) (zeros_more n)

-- ---- how many numbers there are
pub up_to : (from len : ℕ) (places : List ℕ) (values : List ℤ) → ArePlaced from len places values → from ≤ len
up_to from len [] values h = h.0
up_to from len (place ∷ places) [] h = absurd h
up_to from len (place ∷ places) (value ∷ values) h =
    let l = up_to (place + 1) len places values h.2 in
    let m = h.0 in
    omega arith

pub length-spread : (from len : ℕ) (places : List ℕ) (values : List ℤ) → ArePlaced from len places values → length (spread from len places values) ≡ len - from
length-spread from len [] values h = length-replicate (len - from) (pos 0)
length-spread from len (place ∷ places) [] h = absurd h
length-spread from len (place ∷ places) (value ∷ values) h =
    let rest = length-spread (place + 1) len places values h.2 in
    let l = up_to (place + 1) len places values h.2 in
    let m = h.0 in
    let z : length (replicate (place - from) (pos 0)) ≡ place - from = length-replicate (place - from) (pos 0) in
    let a = length-append (replicate (place - from) (pos 0)) (value ∷ spread (place + 1) len places values) in
    omega arith

pub as_many : (len : ℕ) (places : List ℕ) (values numbers : List ℤ) → ArePlaced 0 len places values → spread 0 len places values ≡ numbers → len ≡ length numbers
as_many len places values numbers h is =
    let l = length-spread 0 len places values h in
    let e : length (spread 0 len places values) ≡ length numbers = ap length is in
    omega arith

-- ---- one number more
pub zero_placed : (from len : ℕ) (places : List ℕ) (values : List ℤ) → ArePlaced from len places values → ArePlaced from (len + 1) places values
zero_placed from len [] values h = let l = h.0 in (omega arith, h.1)
zero_placed from len (place ∷ places) [] h = absurd h
zero_placed from len (place ∷ places) (value ∷ values) h = (h.0, h.1, zero_placed (place + 1) len places values h.2)

pub zero_more : (from len : ℕ) (places : List ℕ) (values : List ℤ) → ArePlaced from len places values → spread from (len + 1) places values ≡ spread from len places values ++ pos 0 ∷ []
zero_more from len [] values h =
    let l = h.0 in
    let e : len + 1 - from ≡ suc (len - from) = omega arith in
    ap (λ (n : ℕ). replicate n (pos 0)) e ∙ zeros_more (len - from)
zero_more from len (place ∷ places) [] h = absurd h
zero_more from len (place ∷ places) (value ∷ values) h =
    ap (λ (xs : List ℤ). replicate (place - from) (pos 0) ++ value ∷ xs) (zero_more (place + 1) len places values h.2) ∙ sym (append_assoc (replicate (place - from) (pos 0)) (value ∷ spread (place + 1) len places values) (pos 0 ∷ []))

pub other_placed : (from len : ℕ) (places : List ℕ) (values : List ℤ) (x : ℤ) → ArePlaced from len places values → x ≢ pos 0 → ArePlaced from (len + 1) (places ++ len ∷ []) (values ++ x ∷ [])
other_placed from len [] values x h n = subst (λ (vs : List ℤ). ArePlaced from (len + 1) (len ∷ []) (vs ++ x ∷ [])) (sym h.1) (h.0, n, (omega arith, refl))
other_placed from len (place ∷ places) [] x h n = absurd h
other_placed from len (place ∷ places) (value ∷ values) x h n = (h.0, h.1, other_placed (place + 1) len places values x h.2 n)

pub other_more : (from len : ℕ) (places : List ℕ) (values : List ℤ) (x : ℤ) → ArePlaced from len places values → spread from (len + 1) (places ++ len ∷ []) (values ++ x ∷ []) ≡ spread from len places values ++ x ∷ []
other_more from len [] values x h =
    let e : len + 1 - (len + 1) ≡ 0 = omega arith in
    let same : spread from (len + 1) (len ∷ []) (x ∷ []) ≡ replicate (len - from) (pos 0) ++ x ∷ [] = ap (λ (n : ℕ). replicate (len - from) (pos 0) ++ x ∷ replicate n (pos 0)) e in
    subst (λ (vs : List ℤ). spread from (len + 1) (len ∷ []) (vs ++ x ∷ []) ≡ replicate (len - from) (pos 0) ++ x ∷ []) (sym h.1) same
other_more from len (place ∷ places) [] x h = absurd h
other_more from len (place ∷ places) (value ∷ values) x h =
    ap (λ (xs : List ℤ). replicate (place - from) (pos 0) ++ value ∷ xs) (other_more (place + 1) len places values x h.2) ∙ sym (append_assoc (replicate (place - from) (pos 0)) (value ∷ spread (place + 1) len places values) (x ∷ []))

-- ---- number by number
gap_is_zero : (front rest : List ℤ) (from place k : ℕ) (value : ℤ) → length front ≡ from → from ≤ k → k < place → entry (front ++ (replicate (place - from) (pos 0) ++ value ∷ rest)) k ≡ pos 0
gap_is_zero front rest from place k value n l m =
    let z : length (replicate (place - from) (pos 0)) ≡ place - from = length-replicate (place - from) (pos 0) in
    get_or-append_right front (replicate (place - from) (pos 0) ++ value ∷ rest) k (pos 0) (omega arith) ∙ get_or_append_left (replicate (place - from) (pos 0)) (value ∷ rest) (pos 0) (k - length front) (omega arith) ∙ entry-zeros (place - from) (k - length front)

value_at_place : (front rest : List ℤ) (from place : ℕ) (value : ℤ) → length front ≡ from → from ≤ place → entry (front ++ (replicate (place - from) (pos 0) ++ value ∷ rest)) place ≡ value
value_at_place front rest from place value n l =
    let z : length (replicate (place - from) (pos 0)) ≡ place - from = length-replicate (place - from) (pos 0) in
    let at : place - length front - length (replicate (place - from) (pos 0)) ≡ 0 = omega arith in
    get_or-append_right front (replicate (place - from) (pos 0) ++ value ∷ rest) place (pos 0) (omega arith) ∙ get_or-append_right (replicate (place - from) (pos 0)) (value ∷ rest) (place - length front) (pos 0) (omega arith) ∙ ap (λ (k : ℕ). entry (value ∷ rest) k) at

next_front : (front rest : List ℤ) (from place : ℕ) (value : ℤ) → front ++ (replicate (place - from) (pos 0) ++ value ∷ rest) ≡ (front ++ (replicate (place - from) (pos 0) ++ value ∷ [])) ++ rest
next_front front rest from place value =
    let zs : List ℤ = replicate (place - from) (pos 0) in
    sym (append_assoc front (zs ++ value ∷ []) rest ∙ ap (λ (xs : List ℤ). front ++ xs) (append_assoc zs (value ∷ []) rest))

length-next_front : (front : List ℤ) (from place : ℕ) (value : ℤ) → length front ≡ from → from ≤ place → length (front ++ (replicate (place - from) (pos 0) ++ value ∷ [])) ≡ place + 1
length-next_front front from place value n l =
    let z : length (replicate (place - from) (pos 0)) ≡ place - from = length-replicate (place - from) (pos 0) in
    let a = length-append (replicate (place - from) (pos 0)) (value ∷ []) in
    let b = length-append front (replicate (place - from) (pos 0) ++ value ∷ []) in
    omega arith

pub others_behind : (front : List ℤ) (from len : ℕ) (places : List ℕ) (values : List ℤ) → length front ≡ from → ArePlaced from len places values → AreTheOthers (front ++ spread from len places values) from places
others_behind front from len [] values n h = λ k l. get_or-append_right front (replicate (len - from) (pos 0)) k (pos 0) (omega arith) ∙ entry-zeros (len - from) (k - length front)
others_behind front from len (place ∷ places) [] n h = absurd h
others_behind front from len (place ∷ places) (value ∷ values) n h =
    let rest = spread (place + 1) len places values in
    let next = front ++ (replicate (place - from) (pos 0) ++ value ∷ []) in
    let m = length-next_front front from place value n h.0 in
    let a = length-append next rest in
    let e = next_front front rest from place value in
    let f : length (front ++ (replicate (place - from) (pos 0) ++ value ∷ rest)) ≡ length (next ++ rest) = ap length e in
    let behind = others_behind next (place + 1) len places values m h.2 in
    (h.0, omega arith, λ k l b. gap_is_zero front rest from place k value n l b, subst (λ (xs : List ℤ). AreTheOthers xs (place + 1) places) (sym e) behind)

pub values_behind : (front : List ℤ) (from len : ℕ) (places : List ℕ) (values : List ℤ) → length front ≡ from → ArePlaced from len places values → values ≡ map (entry (front ++ spread from len places values)) places
values_behind front from len [] values n h = h.1
values_behind front from len (place ∷ places) [] n h = absurd h
values_behind front from len (place ∷ places) (value ∷ values) n h =
    let rest = spread (place + 1) len places values in
    let next = front ++ (replicate (place - from) (pos 0) ++ value ∷ []) in
    let m = length-next_front front from place value n h.0 in
    let e = next_front front rest from place value in
    let behind : values ≡ map (entry (next ++ rest)) places = values_behind next (place + 1) len places values m h.2 in
    let first = value_at_place front rest from place value n h.0 in
    let more : values ≡ map (entry (front ++ (replicate (place - from) (pos 0) ++ value ∷ rest))) places = behind ∙ ap (λ (xs : List ℤ). map (entry xs) places) (sym e) in
    cc

pub others : (len : ℕ) (places : List ℕ) (values numbers : List ℤ) → ArePlaced 0 len places values → spread 0 len places values ≡ numbers → AreTheOthers numbers 0 places
others len places values numbers h is = subst (λ (xs : List ℤ). AreTheOthers xs 0 places) is (others_behind [] 0 len places values refl h)

pub values_of : (len : ℕ) (places : List ℕ) (values numbers : List ℤ) → ArePlaced 0 len places values → spread 0 len places values ≡ numbers → values ≡ map (entry numbers) places
values_of len places values numbers h is = values_behind [] 0 len places values refl h ∙ ap (λ (xs : List ℤ). map (entry xs) places) is

-- ---- looking one up
pub rise_from : (from len : ℕ) (places : List ℕ) (values : List ℤ) (j : ℕ) → ArePlaced from len places values → j < length places → from ≤ get_or places j 0
rise_from from len [] values j h l = absurd (omega arith)
rise_from from len (place ∷ places) [] j h l = absurd h
rise_from from len (place ∷ places) (value ∷ values) zero h l = h.0
rise_from from len (place ∷ places) (value ∷ values) (suc j) h l =
    let r = rise_from (place + 1) len places values j h.2 (omega arith) in
    let m = h.0 in
    omega arith

pub rise : (from len : ℕ) (places : List ℕ) (values : List ℤ) (i j : ℕ) → ArePlaced from len places values → i ≤ j → j < length places → get_or places i 0 ≤ get_or places j 0
rise from len [] values i j h k l = absurd (omega arith)
rise from len (place ∷ places) [] i j h k l = absurd h
rise from len (place ∷ places) (value ∷ values) zero zero h k l = omega arith
rise from len (place ∷ places) (value ∷ values) zero (suc j) h k l =
    let r = rise_from (place + 1) len places values j h.2 (omega arith) in
    omega arith
rise from len (place ∷ places) (value ∷ values) (suc i) zero h k l = absurd (omega arith)
rise from len (place ∷ places) (value ∷ values) (suc i) (suc j) h k l = rise (place + 1) len places values i j h.2 (omega arith) (omega arith)

pub zero_between : (xs : List ℤ) (from : ℕ) (places : List ℕ) (k i : ℕ) → AreTheOthers xs from places → from ≤ k → ((j : ℕ) → j < i → get_or places j 0 < k) → i ≤ length places → (i < length places → k < get_or places i 0) → entry xs k ≡ pos 0
zero_between xs from [] k i h l below m over = h k l
zero_between xs from (place ∷ places) k zero h l below m over = h.2 k l (over (omega arith))
zero_between xs from (place ∷ places) k (suc i) h l below m over =
    let first = below 0 (omega arith) in
    zero_between xs (place + 1) places k i h.3 (omega arith) (λ j b. below (suc j) (omega arith)) (omega arith) (λ b. over (omega arith))

pub as_many_values : (from len : ℕ) (places : List ℕ) (values : List ℤ) → ArePlaced from len places values → length values ≡ length places
as_many_values from len [] values h = ap length h.1
as_many_values from len (place ∷ places) [] h = absurd h
as_many_values from len (place ∷ places) (value ∷ values) h = ap suc (as_many_values (place + 1) len places values h.2)

entry-map : (xs : List ℤ) (places : List ℕ) (i : ℕ) → i < length places → entry (map (entry xs) places) i ≡ entry xs (get_or places i 0)
entry-map xs [] i l = absurd (omega arith)
entry-map xs (place ∷ places) zero l = refl
entry-map xs (place ∷ places) (suc i) l = entry-map xs places i (omega arith)

pub value_is : (xs values : List ℤ) (places : List ℕ) (i : ℕ) → values ≡ map (entry xs) places → i < length places → entry values i ≡ entry xs (get_or places i 0)
value_is xs values places i is l = ap (λ (vs : List ℤ). entry vs i) is ∙ entry-map xs places i l

-- ---- all numbers one by one
pub zeros_behind : (xs now more : List ℤ) (n : ℕ) → now ≡ xs ++ replicate n (pos 0) → more ≡ now ++ pos 0 ∷ [] → more ≡ xs ++ replicate (n + 1) (pos 0)
zeros_behind xs now more n h e =
    let m : n + 1 ≡ suc n = omega arith in
    let z : replicate (n + 1) (pos 0) ≡ replicate n (pos 0) ++ pos 0 ∷ [] = ap (λ (k : ℕ). replicate k (pos 0)) m ∙ zeros_more n in
    e ∙ ap (λ (ys : List ℤ). ys ++ pos 0 ∷ []) h ∙ append_assoc xs (replicate n (pos 0)) (pos 0 ∷ []) ∙ ap (λ (ys : List ℤ). xs ++ ys) (sym z)

pub record IsLeftToSpread (numbers : List ℤ) (len : ℕ) (places : List ℕ) (values : List ℤ) (i : ℕ) (whole : List ℤ) : Type 0 where
  pub placed : ArePlaced (length numbers) len (drop i places) (drop i values)
  pub rest : numbers ++ spread (length numbers) len (drop i places) (drop i values) ≡ whole

spread_step : (numbers filled more whole : List ℤ) (len place : ℕ) (value : ℤ) (places : List ℕ) (values : List ℤ) → ArePlaced (length numbers) len (place ∷ places) (value ∷ values) → numbers ++ spread (length numbers) len (place ∷ places) (value ∷ values) ≡ whole → filled ≡ numbers ++ replicate (place - length numbers) (pos 0) → more ≡ filled ++ value ∷ [] → ArePlaced (length more) len places values × (more ++ spread (length more) len places values ≡ whole)
spread_step numbers filled more whole len place value places values h is e f =
    let zs : List ℤ = replicate (place - length numbers) (pos 0) in
    let z : length zs ≡ place - length numbers = length-replicate (place - length numbers) (pos 0) in
    let a = length-append numbers zs in
    let b = length-append filled (value ∷ []) in
    let n : length filled ≡ length (numbers ++ zs) = ap length e in
    let m : length more ≡ length (filled ++ value ∷ []) = ap length f in
    let l = h.0 in
    let long : length more ≡ place + 1 = omega arith in
    let rest : List ℤ = spread (place + 1) len places values in
    let t : more ++ rest ≡ whole = ap (λ (xs : List ℤ). xs ++ rest) f ∙ ap (λ (xs : List ℤ). (xs ++ value ∷ []) ++ rest) e ∙ append_assoc (numbers ++ zs) (value ∷ []) rest ∙ append_assoc numbers zs (value ∷ rest) ∙ is in
    (subst (λ (k : ℕ). ArePlaced k len places values) (sym long) h.2, subst (λ (k : ℕ). more ++ spread k len places values ≡ whole) (sym long) t)

pub IsLeftToSpread-more : (numbers filled more whole : List ℤ) (len place : ℕ) (value : ℤ) (places : List ℕ) (values : List ℤ) (i : ℕ) → IsLeftToSpread numbers len places values i whole → i < length places → i < length values → place ≡ get_or places i 0 → value ≡ entry values i → filled ≡ numbers ++ replicate (place - length numbers) (pos 0) → more ≡ filled ++ value ∷ [] → IsLeftToSpread more len places values (i + 1) whole
IsLeftToSpread-more numbers filled more whole len place value places values i h l m p v e f =
    let d : drop i places ≡ place ∷ drop (i + 1) places = drop_more places i 0 l ∙ ap (λ (k : ℕ). k ∷ drop (i + 1) places) (sym p) in
    let g : drop i values ≡ value ∷ drop (i + 1) values = drop_more values i (pos 0) m ∙ ap (λ (x : ℤ). x ∷ drop (i + 1) values) (sym v) in
    let a = subst (λ (vs : List ℤ). ArePlaced (length numbers) len (place ∷ drop (i + 1) places) vs) g (subst (λ (ps : List ℕ). ArePlaced (length numbers) len ps (drop i values)) d h.placed) in
    let b = subst (λ (vs : List ℤ). numbers ++ spread (length numbers) len (place ∷ drop (i + 1) places) vs ≡ whole) g (subst (λ (ps : List ℕ). numbers ++ spread (length numbers) len ps (drop i values) ≡ whole) d h.rest) in
    let both = spread_step numbers filled more whole len place value (drop (i + 1) places) (drop (i + 1) values) a b e f in
    record { placed = both.0; rest = both.1 }

pub IsLeftToSpread-end : (numbers more whole : List ℤ) (len : ℕ) (places : List ℕ) (values : List ℤ) (i : ℕ) → IsLeftToSpread numbers len places values i whole → length places ≤ i → more ≡ numbers ++ replicate (len - length numbers) (pos 0) → more ≡ whole
IsLeftToSpread-end numbers more whole len places values i h l e =
    e ∙ subst (λ (ps : List ℕ). numbers ++ spread (length numbers) len ps (drop i values) ≡ whole) (drop_all i places l) h.rest

-- ---- what holds of 0 and of the others holds of all
All-zeros : (P : ℤ → Type 0) (n : ℕ) (xs : List ℤ) → P (pos 0) → AllByRecursion P xs → AllByRecursion P (replicate n (pos 0) ++ xs)
All-zeros P zero xs zero_too h = h
All-zeros P (suc n) xs zero_too h = (zero_too, All-zeros P n xs zero_too h)

All-only_zeros : (P : ℤ → Type 0) (n : ℕ) → P (pos 0) → AllByRecursion P (replicate n (pos 0))
All-only_zeros P zero zero_too = tt
All-only_zeros P (suc n) zero_too = (zero_too, All-only_zeros P n zero_too)

All-behind_zeros : (P : ℤ → Type 0) (n : ℕ) (xs : List ℤ) → AllByRecursion P (replicate n (pos 0) ++ xs) → AllByRecursion P xs
All-behind_zeros P zero xs h = h
All-behind_zeros P (suc n) xs h = All-behind_zeros P n xs h.1

pub All-spread : (P : ℤ → Type 0) (from len : ℕ) (places : List ℕ) (values : List ℤ) → P (pos 0) → ArePlaced from len places values → AllByRecursion P values → AllByRecursion P (spread from len places values)
All-spread P from len [] values z h all = All-only_zeros P (len - from) z
All-spread P from len (place ∷ places) [] z h all = absurd h
All-spread P from len (place ∷ places) (value ∷ values) z h all = All-zeros P (place - from) (value ∷ spread (place + 1) len places values) z (all.0, All-spread P (place + 1) len places values z h.2 all.1)

pub All-of_spread : (P : ℤ → Type 0) (from len : ℕ) (places : List ℕ) (values : List ℤ) → ArePlaced from len places values → AllByRecursion P (spread from len places values) → AllByRecursion P values
All-of_spread P from len [] values h all = subst (AllByRecursion P) (sym h.1) tt
All-of_spread P from len (place ∷ places) [] h all = absurd h
All-of_spread P from len (place ∷ places) (value ∷ values) h all =
    let behind = All-behind_zeros P (place - from) (value ∷ spread (place + 1) len places values) all in
    (behind.0, All-of_spread P (place + 1) len places values h.2 behind.1)

pub All-from_entries : (P : ℤ → Type 0) (xs : List ℤ) → ((j : ℕ) → j < length xs → P (entry xs j)) → AllByRecursion P xs
All-from_entries P [] h = tt
All-from_entries P (x ∷ xs) h = (h 0 (omega arith), All-from_entries P xs (λ j l. h (suc j) (omega arith)))

pub All-entry : (P : ℤ → Type 0) (xs : List ℤ) (j : ℕ) → AllByRecursion P xs → j < length xs → P (entry xs j)
All-entry P [] j h l = absurd (omega arith)
All-entry P (x ∷ xs) zero h l = h.0
All-entry P (x ∷ xs) (suc j) h l = All-entry P xs j h.1 (omega arith)

-- ---- numbers are kept in one way alone
none_is_zero : (xs : List ℤ) (from len : ℕ) (places : List ℕ) (values : List ℤ) → ArePlaced from len places values → values ≡ map (entry xs) places → AllByRecursion (λ place. entry xs place ≢ pos 0) places
none_is_zero xs from len [] values h is = tt
none_is_zero xs from len (place ∷ places) [] h is = absurd h
none_is_zero xs from len (place ∷ places) (value ∷ values) h is =
    let first : value ≡ entry xs place = ap (λ (vs : List ℤ). entry vs 0) is in
    let rest : values ≡ map (entry xs) places = ap (λ (vs : List ℤ). drop 1 vs) is in
    (λ zero_there. h.1 (first ∙ zero_there), none_is_zero xs (place + 1) len places values h.2 rest)

same_places : (xs : List ℤ) (from : ℕ) (places more : List ℕ) → AreTheOthers xs from places → AreTheOthers xs from more → AllByRecursion (λ place. entry xs place ≢ pos 0) places → AllByRecursion (λ place. entry xs place ≢ pos 0) more → places ≡ more
same_places xs from [] [] h k n m = refl
same_places xs from [] (q ∷ more) h k n m = absurd (m.0 (h q k.0))
same_places xs from (p ∷ places) [] h k n m = absurd (n.0 (k p h.0))
same_places xs from (p ∷ places) (q ∷ more) h k n m = elim (three p q) [
  | inl a ↦ absurd (n.0 (k.2 p h.0 a))
  | inr b ↦ elim b [
    | inl c ↦ absurd (m.0 (h.2 q k.0 c))
    | inr e ↦ let rest = same_places xs (p + 1) places more h.3 (subst (λ (x : ℕ). AreTheOthers xs (x + 1) more) (sym e) k.3) n.1 m.1 in cc
  ]
]
  where
    three : (a b : ℕ) → (a < b) ⊎ ((b < a) ⊎ (a ≡ b))
    three a b = grind arith

pub places_same : (numbers : List ℤ) (len more : ℕ) (places others_there : List ℕ) (values beside : List ℤ) → ArePlaced 0 len places values → spread 0 len places values ≡ numbers → ArePlaced 0 more others_there beside → spread 0 more others_there beside ≡ numbers → places ≡ others_there
places_same numbers len more places others_there values beside h is k also =
    same_places numbers 0 places others_there (others len places values numbers h is) (others more others_there beside numbers k also) (none_is_zero numbers 0 len places values h (values_of len places values numbers h is)) (none_is_zero numbers 0 more others_there beside k (values_of more others_there beside numbers k also))

pub values_same : (numbers : List ℤ) (len more : ℕ) (places others_there : List ℕ) (values beside : List ℤ) → ArePlaced 0 len places values → spread 0 len places values ≡ numbers → ArePlaced 0 more others_there beside → spread 0 more others_there beside ≡ numbers → values ≡ beside
values_same numbers len more places others_there values beside h is k also =
    let same = places_same numbers len more places others_there values beside h is k also in
    values_of len places values numbers h is ∙ ap (map (entry numbers)) same ∙ sym (values_of more others_there beside numbers k also)

pub rises : (from len : ℕ) (places : List ℕ) (values : List ℤ) (k : ℕ) → ArePlaced from len places values → IsPartitionedBy (λ place. nat_lt place k) places
rises from len places values k h = IsPartitionedBy-ltb (λ (place : ℕ). place) places k (IsNonDecreasingBy-from_default (λ (place : ℕ). place) places 0 (λ i j a b. rise from len places values i j h a b))
