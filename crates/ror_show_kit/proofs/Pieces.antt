-- Texts that are written piece by piece, and words that are wrapped.
use Rattle.std.proofs.Common.{◌≡◌, ℕ, ◌+◌, ◌<◌, ◌++◌, List, [], ◌∷◌, refl, ap, sym, ◌∙◌, arith, append_assoc, length, take, get_or}
use Rattle.std.specs.List.{flat_map, range_with_len}
use Rattle.std.proofs.lemmas.List.{append-nil, take_more}
use Rattle.std.proofs.lemmas.List.Concat.{flat_map-append}
use Rattle.ror_text.proofs.ListLemmas.{range_more}
use Rattle.ror_show_kit.specs.Layout.{next_word, next_room, wrapped, room_left}

-- ---- one element or one number more

pub of_elements : {X Y : Type 0} (f : X → List Y) (xs : List X) (i : ℕ) (d : X) → i < length xs → flat_map f (take (i + 1) xs) ≡ flat_map f (take i xs) ++ f (get_or xs i d)
of_elements {X} {Y} f xs i d within =
    ap (flat_map f) (take_more xs i d within) ∙ flat_map-append f (take i xs) (get_or xs i d ∷ []) ∙ ap (λ (qs : List Y). flat_map f (take i xs) ++ qs) (append-nil (f (get_or xs i d)))

-- the same, where the element is the one that is read there
pub of_items : {X Y : Type 0} (f : X → List Y) (xs : List X) (i : ℕ) (x : X) → i < length xs → x ≡ get_or xs i x → flat_map f (take (i + 1) xs) ≡ flat_map f (take i xs) ++ f x
of_items {X} {Y} f xs i x within here = of_elements f xs i x within ∙ ap (λ (y : X). flat_map f (take i xs) ++ f y) (sym here)

pub of_numbers : {Y : Type 0} (f : ℕ → List Y) (i : ℕ) → flat_map f (range_with_len 0 (i + 1)) ≡ flat_map f (range_with_len 0 i) ++ f i
of_numbers {Y} f i =
    ap (flat_map f) (range_more 0 i i (omega arith)) ∙ flat_map-append f (range_with_len 0 i) (i ∷ []) ∙ ap (λ (qs : List Y). flat_map f (range_with_len 0 i) ++ qs) (append-nil (f i))

-- a text with the piece of one element more
pub element_more : {X : Type 0} (f : X → List ℕ) (xs : List X) (i : ℕ) (d : X) (old before after : List ℕ) → i < length xs → before ≡ old ++ flat_map f (take i xs) → after ≡ before ++ f (get_or xs i d) → after ≡ old ++ flat_map f (take (i + 1) xs)
element_more {X} f xs i d old before after within so_far pushed =
    pushed ∙ ap (λ (qs : List ℕ). qs ++ f (get_or xs i d)) so_far ∙ append_assoc old (flat_map f (take i xs)) (f (get_or xs i d)) ∙ ap (λ (qs : List ℕ). old ++ qs) (sym (of_elements f xs i d within))

-- the same of the one that is read there
pub item_more : {X : Type 0} (f : X → List ℕ) (xs : List X) (i : ℕ) (x : X) (old before after : List ℕ) → i < length xs → x ≡ get_or xs i x → before ≡ old ++ flat_map f (take i xs) → after ≡ before ++ f x → after ≡ old ++ flat_map f (take (i + 1) xs)
item_more {X} f xs i x old before after within here so_far pushed =
    element_more f xs i x old before after within so_far (pushed ∙ ap (λ (y : X). before ++ f y) here)

-- and of one number more
pub number_more : (f : ℕ → List ℕ) (i : ℕ) (old before after : List ℕ) → before ≡ old ++ flat_map f (range_with_len 0 i) → after ≡ before ++ f i → after ≡ old ++ flat_map f (range_with_len 0 (i + 1))
number_more f i old before after so_far pushed =
    pushed ∙ ap (λ (qs : List ℕ). qs ++ f i) so_far ∙ append_assoc old (flat_map f (range_with_len 0 i)) (f i) ∙ ap (λ (qs : List ℕ). old ++ qs) (sym (of_numbers f i))

-- ---- words that are wrapped

wrapped-append : (margin room : ℕ) (xs ys : List (List ℕ)) → wrapped margin room (xs ++ ys) ≡ wrapped margin room xs ++ wrapped margin (room_left margin room xs) ys
wrapped-append margin room [] ys = refl
wrapped-append margin room (x ∷ xs) ys =
    ap (λ (qs : List ℕ). next_word margin room x ++ qs) (wrapped-append margin (next_room margin room x) xs ys)
    ∙ sym (append_assoc (next_word margin room x) (wrapped margin (next_room margin room x) xs) (wrapped margin (room_left margin (next_room margin room x) xs) ys))

room_left-append : (margin room : ℕ) (xs ys : List (List ℕ)) → room_left margin room (xs ++ ys) ≡ room_left margin (room_left margin room xs) ys
room_left-append margin room [] ys = refl
room_left-append margin room (x ∷ xs) ys = room_left-append margin (next_room margin room x) xs ys

-- a text with more words
pub words_more : (margin room : ℕ) (ws piece more : List (List ℕ)) (old before after : List ℕ) (now : ℕ) → before ≡ old ++ wrapped margin room ws → now ≡ room_left margin room ws → after ≡ before ++ wrapped margin now piece → more ≡ ws ++ piece → after ≡ old ++ wrapped margin room more
words_more margin room ws piece more old before after now so_far at pushed all =
    pushed ∙ ap (λ (qs : List ℕ). qs ++ wrapped margin now piece) so_far
    ∙ append_assoc old (wrapped margin room ws) (wrapped margin now piece)
    ∙ ap (λ (qs : List ℕ). old ++ qs) (ap (λ (n : ℕ). wrapped margin room ws ++ wrapped margin n piece) at ∙ sym (wrapped-append margin room ws piece) ∙ ap (wrapped margin room) (sym all))

-- and what is left behind them
pub room_more : (margin room : ℕ) (ws piece more : List (List ℕ)) (now left : ℕ) → now ≡ room_left margin room ws → left ≡ room_left margin now piece → more ≡ ws ++ piece → left ≡ room_left margin room more
room_more margin room ws piece more now left at is all =
    is ∙ ap (λ (n : ℕ). room_left margin n piece) at ∙ sym (room_left-append margin room ws piece) ∙ ap (room_left margin room) (sym all)

-- ---- several pieces, one after the other

pub two_more : (a b old first second : List ℕ) → first ≡ old ++ a → second ≡ first ++ b → second ≡ old ++ (a ++ b)
two_more a b old first second one two = two ∙ ap (λ (qs : List ℕ). qs ++ b) one ∙ append_assoc old a b

pub three_more : (a b c old first second third : List ℕ) → first ≡ old ++ a → second ≡ first ++ b → third ≡ second ++ c → third ≡ old ++ (a ++ b ++ c)
three_more a b c old first second third one two three = two_more (a ++ b) c old second third (two_more a b old first second one two) three

pub four_more : (a b c d old first second third fourth : List ℕ) → first ≡ old ++ a → second ≡ first ++ b → third ≡ second ++ c → fourth ≡ third ++ d → fourth ≡ old ++ (a ++ b ++ c ++ d)
four_more a b c d old first second third fourth one two three four =
    two_more (a ++ b ++ c) d old third fourth (three_more a b c old first second third one two three) four
