-- What a loop over a list leaves to do: one element on, and at the end.
use Rattle.std.proofs.Common.{◌≡◌, ℕ, ◌+◌, ◌<◌, ◌≤◌, List, [], ◌∷◌, ◌++◌, ap, sym, ◌∙◌, length, drop, get_or, append_assoc}
use Rattle.std.specs.List.{fold}
use Rattle.std.proofs.lemmas.List.{append-nil, drop_more, drop_all}

-- what is left is the element and what is left then
pub rest-of : {X : Type 0} (xs : List X) (i : ℕ) (x : X) → i < length xs → x ≡ get_or xs i x → drop i xs ≡ x ∷ drop (i + 1) xs
rest-of {X} xs i x within is = drop_more xs i x within ∙ ap (λ (y : X). y ∷ drop (i + 1) xs) (sym is)

-- ---- a state that each element changes

pub state_on : {S X : Type 0} (f : S → X → S) (now next goal : S) (xs : List X) (i : ℕ) (x : X) → i < length xs → x ≡ get_or xs i x → next ≡ f now x → fold f now (drop i xs) ≡ goal → fold f next (drop (i + 1) xs) ≡ goal
state_on {S} {X} f now next goal xs i x within is stepped so_far =
    ap (λ (s : S). fold f s (drop (i + 1) xs)) stepped ∙ sym (ap (fold f now) (rest-of xs i x within is)) ∙ so_far

pub state_done : {S X : Type 0} (f : S → X → S) (now goal : S) (xs : List X) (i : ℕ) → length xs ≤ i → fold f now (drop i xs) ≡ goal → now ≡ goal
state_done {S} {X} f now goal xs i past so_far = sym (ap (fold f now) (drop_all i xs past)) ∙ so_far

-- ---- pieces, each by the state before its element

pub pieces_on : {S X Y : Type 0} (f : S → X → S) (piece : S → X → List Y) (all : S → List X → List Y) → ((s : S) (x : X) (xs : List X) → all s (x ∷ xs) ≡ piece s x ++ all (f s x) xs)
    → (now next : S) (made more goal : List Y) (xs : List X) (i : ℕ) (x : X) → i < length xs → x ≡ get_or xs i x → next ≡ f now x → more ≡ made ++ piece now x → made ++ all now (drop i xs) ≡ goal → more ++ all next (drop (i + 1) xs) ≡ goal
pieces_on {S} {X} {Y} f piece all step now next made more goal xs i x within is stepped pushed so_far =
    ap (λ (ys : List Y). ys ++ all next (drop (i + 1) xs)) pushed
    ∙ append_assoc made (piece now x) (all next (drop (i + 1) xs))
    ∙ ap (λ (s : S). made ++ (piece now x ++ all s (drop (i + 1) xs))) stepped
    ∙ ap (λ (ys : List Y). made ++ ys) (sym (ap (all now) (rest-of xs i x within is) ∙ step now x (drop (i + 1) xs)))
    ∙ so_far

pub pieces_done : {S X Y : Type 0} (all : S → List X → List Y) → ((s : S) → all s [] ≡ []) → (now : S) (made goal : List Y) (xs : List X) (i : ℕ) → length xs ≤ i → made ++ all now (drop i xs) ≡ goal → made ≡ goal
pieces_done {S} {X} {Y} all none now made goal xs i past so_far =
    sym (ap (λ (ys : List Y). made ++ ys) (ap (all now) (drop_all i xs past) ∙ none now) ∙ append-nil made) ∙ so_far

-- ---- pieces, each by its element alone

pub each_on : {X Y : Type 0} (piece : X → List Y) (all : List X → List Y) → ((x : X) (xs : List X) → all (x ∷ xs) ≡ piece x ++ all xs)
    → (made more goal : List Y) (xs : List X) (i : ℕ) (x : X) → i < length xs → x ≡ get_or xs i x → more ≡ made ++ piece x → made ++ all (drop i xs) ≡ goal → more ++ all (drop (i + 1) xs) ≡ goal
each_on {X} {Y} piece all step made more goal xs i x within is pushed so_far =
    ap (λ (ys : List Y). ys ++ all (drop (i + 1) xs)) pushed
    ∙ append_assoc made (piece x) (all (drop (i + 1) xs))
    ∙ ap (λ (ys : List Y). made ++ ys) (sym (ap all (rest-of xs i x within is) ∙ step x (drop (i + 1) xs)))
    ∙ so_far

-- where the element is read off the list
pub each_at : {X Y : Type 0} (piece : X → List Y) (all : List X → List Y) → ((x : X) (xs : List X) → all (x ∷ xs) ≡ piece x ++ all xs)
    → (made more goal : List Y) (xs : List X) (i : ℕ) (d : X) → i < length xs → more ≡ made ++ piece (get_or xs i d) → made ++ all (drop i xs) ≡ goal → more ++ all (drop (i + 1) xs) ≡ goal
each_at {X} {Y} piece all step made more goal xs i d within pushed so_far =
    ap (λ (ys : List Y). ys ++ all (drop (i + 1) xs)) pushed
    ∙ append_assoc made (piece (get_or xs i d)) (all (drop (i + 1) xs))
    ∙ ap (λ (ys : List Y). made ++ ys) (sym (ap all (drop_more xs i d within) ∙ step (get_or xs i d) (drop (i + 1) xs)))
    ∙ so_far

pub each_done : {X Y : Type 0} (all : List X → List Y) → all [] ≡ [] → (made goal : List Y) (xs : List X) (i : ℕ) → length xs ≤ i → made ++ all (drop i xs) ≡ goal → made ≡ goal
each_done {X} {Y} all none made goal xs i past so_far =
    sym (ap (λ (ys : List Y). made ++ ys) (ap all (drop_all i xs past) ∙ none) ∙ append-nil made) ∙ so_far
