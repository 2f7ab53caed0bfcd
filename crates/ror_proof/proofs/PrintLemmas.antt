-- Text that is printed piece by piece.
use Rattle.std.proofs.Common.{◌≡◌, ℕ, suc, Bool, true, false, cond, ◌+◌, ◌<◌, ◌≤◌, List, [], ◌∷◌, ◌++◌, append_assoc, drop, length, get_or, Result, Ok, Err, sym, ap, ◌∙◌, arith, drop-cons}
use Rattle.std.specs.Prelude.{OnOk}
use Rattle.std.proofs.lemmas.Grind.{flat_map-append}
use Rattle.std.proofs.lemmas.List.{append-nil, drop_all}
use Rattle.ror_text.specs.SpacedLines.{join_words, line_text}
use Rattle.ror_proof.specs.Printing.{spaced, StandsInFront}

-- ---- one after the other: what is left is printed after what was printed

pub one_more : {X : Type 0} (all : List X → List ℕ) (each : X → List ℕ) → ((x : X) (xs : List X) → all (x ∷ xs) ≡ each x ++ all xs)
    → (xs : List X) (i : ℕ) (x : X) (text more whole : List ℕ) → i < length xs → x ≡ get_or xs i x → more ≡ text ++ each x → text ++ all (drop i xs) ≡ whole → more ++ all (drop (i + 1) xs) ≡ whole
one_more all each step xs i x text more whole inside is one so_far =
    let next : suc i ≡ i + 1 = omega arith in
    let split : all (drop i xs) ≡ each x ++ all (drop (i + 1) xs) = ap all (drop-cons xs i x inside) ∙ step (get_or xs i x) (drop (suc i) xs) ∙ ap (λ y. each y ++ all (drop (suc i) xs)) (sym is) ∙ ap (λ k. each x ++ all (drop k xs)) next in
    ap (λ l. l ++ all (drop (i + 1) xs)) one ∙ append_assoc text (each x) (all (drop (i + 1) xs)) ∙ ap (λ l. text ++ l) (sym split) ∙ so_far

pub all_printed : {X : Type 0} (all : List X → List ℕ) → all [] ≡ [] → (xs : List X) (i : ℕ) (text whole : List ℕ) → length xs ≤ i → text ++ all (drop i xs) ≡ whole → text ≡ whole
all_printed all none xs i text whole past so_far =
    sym (ap (λ l. text ++ l) (ap all (drop_all i xs past) ∙ none) ∙ append-nil text) ∙ so_far

-- ---- words of a line

joined : (word : List ℕ) (ws : List (List ℕ)) → join_words (word ∷ ws) ≡ word ++ spaced ws
joined word [] = sym (append-nil word)
joined word (next ∷ ws) = ap (λ l. word ++ 32 ∷ l) (joined next ws)

pub first_word : (start text word : List ℕ) → text ≡ start ++ 32 ∷ word → text ≡ start ++ spaced (word ∷ [])
first_word start text word e = e ∙ ap (λ l. start ++ 32 ∷ l) (sym (append-nil word))

pub more_words : (start text more : List ℕ) (xs ys : List (List ℕ)) → text ≡ start ++ spaced xs → more ≡ text ++ spaced ys → more ≡ start ++ spaced (xs ++ ys)
more_words start text more xs ys e f = f ∙ ap (λ l. l ++ spaced ys) e ∙ append_assoc start (spaced xs) (spaced ys) ∙ ap (λ l. start ++ l) (sym (flat_map-append (λ word. 32 ∷ word) xs ys))

pub one_word : (start text more : List ℕ) (xs : List (List ℕ)) (word : List ℕ) → text ≡ start ++ spaced xs → more ≡ text ++ 32 ∷ word → more ≡ start ++ spaced (xs ++ word ∷ [])
one_word start text more xs word e f = more_words start text more xs (word ∷ []) e (first_word text more word f)

-- a word, words after it and a line feed are a line
pub line_made : (start begun text word : List ℕ) (ws : List (List ℕ)) → begun ≡ start ++ word → text ≡ begun ++ spaced ws → text ++ 10 ∷ [] ≡ start ++ line_text (word ∷ ws)
unfolding line_text
line_made start begun text word ws e f =
    ap (λ l. l ++ 10 ∷ []) (f ∙ ap (λ l. l ++ spaced ws) e ∙ append_assoc start word (spaced ws) ∙ ap (λ l. start ++ l) (sym (joined word ws))) ∙ append_assoc start (join_words (word ∷ ws)) (10 ∷ [])

-- what holds once a call has succeeded
pub on_ok : {A E P Q : Type 0} (r : Result A E) → OnOk r P → (P → Q) → OnOk r Q
on_ok (Ok x) h f = f h
on_ok (Err e) h f = h

-- ---- what was there stays in front

pub front_same : (before now : List ℕ) → now ≡ before → StandsInFront before now
front_same before now e = record { added = []; is = e ∙ sym (append-nil before) }

pub front_added : (before now bytes : List ℕ) → now ≡ before ++ bytes → StandsInFront before now
front_added before now bytes e = record { added = bytes; is = e }

pub front_tried : (done : Bool) (before now bytes : List ℕ) → now ≡ cond done (before ++ bytes) before → StandsInFront before now
front_tried true before now bytes e = front_added before now bytes e
front_tried false before now bytes e = front_same before now e

pub front_then : (a b c : List ℕ) → StandsInFront a b → StandsInFront b c → StandsInFront a c
front_then a b c ab bc = record { added = ab.added ++ bc.added; is = bc.is ∙ ap (λ l. l ++ bc.added) ab.is ∙ append_assoc a ab.added bc.added }

pub ruleset in_front = (front_same, front_added, front_tried, front_then)
