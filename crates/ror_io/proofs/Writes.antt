-- What several writes, one after another, add to the bytes that a sink tells.
use Rattle.std.proofs.Common.{◌≡◌, ◌≤◌, ◌<◌, ℕ, ◌+◌, ◌-◌, Option, Some, None, option_map, List, [], ◌∷◌, ◌++◌, length, take, drop, refl, sym, ap, ◌∙◌, append_assoc, append-nil, arith, length-append, length-drop, take_all, get_or, suc}
use Rattle.std.specs.Borrow.{Bor}
use Rattle.std.proofs.Math.Seq.{take-add, take-append-add, drop-cons}
use Rattle.std.proofs.lemmas.List.{take_more, take-append-drop, take-append-le}
use Rattle.ror_io.specs.Writing.{Grew, GrewShort, joined}

-- the first bytes of a piece were written, and no fault was counted
pub record IsWrittenTo (before now : Option (List ℕ)) (had has : ℕ) (bytes : List ℕ) (taken : ℕ) : Type 0 where
  pub within : taken ≤ length bytes
  pub count : has ≡ had
  pub grown : Grew before now (take taken bytes)

-- by nothing
pub Grew-none : (told : Option (List ℕ)) → Grew told told []
Grew-none None = refl
Grew-none (Some written) = ap Some (sym (append-nil written))

-- by these, and then by those
pub Grew-append : (a b c : Option (List ℕ)) (xs ys : List ℕ) → Grew a b xs → Grew b c ys → Grew a c (xs ++ ys)
Grew-append None b c xs ys first second = second ∙ ap (option_map (λ w. w ++ ys)) first
Grew-append (Some written) b c xs ys first second =
    second ∙ ap (option_map (λ w. w ++ ys)) first ∙ ap Some (append_assoc written xs ys)

-- one more write of a front of the rest
pub IsWrittenTo-more : (before between now : Option (List ℕ)) (had has later : ℕ) (bytes : List ℕ) (k n : ℕ) → IsWrittenTo before between had has bytes k → later ≡ has → n ≤ length (take (length bytes - k) (drop k bytes)) → Grew between now (take n (take (length bytes - k) (drop k bytes))) → IsWrittenTo before now had later bytes (k + n)
IsWrittenTo-more before between now had has later bytes k n so_far stays more grown =
    let rest : take (length bytes - k) (drop k bytes) ≡ drop k bytes = take_all _ _ (omega (arith, length-drop k bytes)) in
    let less : n ≤ length (drop k bytes) = rw rest at more in
    let grew : Grew between now (take n (drop k bytes)) = rw rest at grown in
    record {
      within = omega (arith, length-drop k bytes, so_far.within);
      count = stays ∙ so_far.count;
      grown = rw (take-add k n bytes) (Grew-append before between now _ _ so_far.grown grew);
    }

joined-append : (xs ys : List (Bor (List ℕ))) → joined (xs ++ ys) ≡ joined xs ++ joined ys
joined-append [] ys = refl
joined-append (x ∷ xs) ys = ap (λ rest. x.now ++ rest) (joined-append xs ys) ∙ sym (append_assoc x.now (joined xs) (joined ys))

-- one more whole piece
pub Grew-piece : (before between now : Option (List ℕ)) (pieces : List (Bor (List ℕ))) (i : ℕ) (d : Bor (List ℕ)) → i < length pieces → Grew before between (joined (take i pieces)) → Grew between now (get_or pieces i d).now → Grew before now (joined (take (i + 1) pieces))
Grew-piece before between now pieces i d within first second =
    let piece = get_or pieces i d in
    let more : joined (take (i + 1) pieces) ≡ joined (take i pieces) ++ piece.now = ap joined (take_more pieces i d within) ∙ joined-append (take i pieces) (piece ∷ []) ∙ ap (λ ys. joined (take i pieces) ++ ys) (append-nil piece.now) in
    rw more (Grew-append before between now _ _ first second)

-- a proper front of these is one of these and more
pub GrewShort-more : (before now : Option (List ℕ)) (xs ys : List ℕ) → GrewShort before now xs → GrewShort before now (xs ++ ys)
GrewShort-more before now xs ys short =
    let front : take short.0 (xs ++ ys) ≡ take short.0 xs = take-append-le short.0 xs ys (omega (arith, short.1)) in
    (short.0, omega (arith, short.1, length-append xs ys), rw front short.2)

-- by these, and then by a proper front of those
pub GrewShort-after : (before between now : Option (List ℕ)) (xs ys : List ℕ) → Grew before between xs → GrewShort between now ys → GrewShort before now (xs ++ ys)
GrewShort-after before between now xs ys first short =
    (length xs + short.0, omega (arith, short.1, length-append xs ys), rw (take-append-add xs ys short.0) (Grew-append before between now _ _ first short.2))

-- a proper front of one more piece
pub GrewShort-piece : (before between now : Option (List ℕ)) (pieces : List (Bor (List ℕ))) (i : ℕ) (d : Bor (List ℕ)) → i < length pieces → Grew before between (joined (take i pieces)) → GrewShort between now (get_or pieces i d).now → GrewShort before now (joined pieces)
GrewShort-piece before between now pieces i d within first short =
    let piece = get_or pieces i d in
    let done = joined (take i pieces) in
    let rest = joined (drop (suc i) pieces) in
    let whole : joined pieces ≡ done ++ (piece.now ++ rest) =
    sym (ap joined (take-append-drop i pieces)) ∙ joined-append (take i pieces) (drop i pieces) ∙ ap (λ xs. done ++ joined xs) (drop-cons pieces i d within) in
    rw whole (GrewShort-after before between now _ _ first (GrewShort-more between now piece.now rest short))
