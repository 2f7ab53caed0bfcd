-- Bytes that end where a mark first stands.
use Rattle.std.proofs.Common.{◌≡◌, ℕ, Bool, true, false, List, [], ◌∷◌, ◌++◌, length, length-append, refl, sym, ap, subst, ◌∙◌, arith, inl, inr}
use Rattle.std.specs.Prelude.{◌==◌, ◌&&◌}
use Rattle.std.proofs.lemmas.Bool.{cases_Bool, eqb-true, eqb-false}
use Rattle.ror_elements.specs.declared.mode.Seen.{Seen}
use Rattle.ror_elements.specs.declared.mode.Seen.TheVariants as seen
use Rattle.ror_elements.specs.Grammar.{IsUpTo}
use Rattle.ror_elements.specs.Mode.{is_ended_by, seen_after}
use Rattle.ror_elements.proofs.Behind.{Ends, EndsQuestion}
use Rattle.ror_elements.proofs.Runs.{seen_marks, closing_mark, seen_question, question_end}

pub head_same : (x y : ℕ) (xs ys : List ℕ) → x ∷ xs ≡ y ∷ ys → x ≡ y
head_same x y xs ys e = cc

pub tail_same : (x y : ℕ) (xs ys : List ℕ) → x ∷ xs ≡ y ∷ ys → xs ≡ ys
tail_same x y xs ys e = cc

is_nothing : (bytes : List ℕ) → length bytes ≡ 0 → bytes ≡ []
is_nothing [] e = refl
is_nothing (byte ∷ bytes) e = absurd (omega arith)

nothing_before : (mark : List ℕ) → IsUpTo mark []
nothing_before mark front more e =
    let counts : length mark ≡ length (front ++ (mark ++ more)) = ap length e in
    is_nothing more (omega (arith, counts, length-append front (mark ++ more), length-append mark more))

-- no mark stands at the first byte
extend : (mark : List ℕ) (byte : ℕ) (bytes : List ℕ) → ((more : List ℕ) → (byte ∷ bytes) ++ mark ≡ mark ++ more → ⊥) → IsUpTo mark bytes → (front more : List ℕ) → (byte ∷ bytes) ++ mark ≡ front ++ (mark ++ more) → more ≡ []
extend mark byte bytes none h [] more e = absurd (none more e)
extend mark byte bytes none h (f ∷ front) more e = h front more (tail_same byte f (bytes ++ mark) (front ++ (mark ++ more)) e)

-- the bytes before the mark
pub record Before (mark whole : List ℕ) : Type 0 where
  pub bytes : List ℕ
  pub split : whole ≡ bytes ++ mark
  pub is_first : IsUpTo mark bytes

before_more : (mark : List ℕ) (byte : ℕ) (whole : List ℕ) (b : Before mark whole) → ((more : List ℕ) → byte ∷ whole ≡ mark ++ more → ⊥) → Before mark (byte ∷ whole)
before_more mark byte whole b none = record {
  bytes = byte ∷ b.bytes;
  split = ap (λ (xs : List ℕ). byte ∷ xs) b.split;
  is_first = extend mark byte b.bytes (λ more e. none more (ap (λ (xs : List ℕ). byte ∷ xs) b.split ∙ e)) b.is_first;
}

-- ---- two marks and `>`

at_last : (mark : ℕ) (s : Seen) (byte : ℕ) → is_ended_by s byte ≡ true → Before (closing_mark mark) (seen_marks s mark ++ byte ∷ [])
at_last mark seen.Nothing byte e = absurd cc
at_last mark seen.One byte e = absurd cc
at_last mark seen.Two byte e = record { bytes = []; split = ap (λ n. mark ∷ mark ∷ n ∷ []) (eqb-true byte 62 e); is_first = nothing_before (closing_mark mark) }

with_mark : (mark : ℕ) → ¬ (62 ≡ mark) → (s : Seen) (bytes : List ℕ) → Before (closing_mark mark) (seen_marks (seen_after s mark mark) mark ++ bytes) → (mark == mark) ≡ true → Before (closing_mark mark) (seen_marks s mark ++ mark ∷ bytes)
with_mark mark differ seen.Nothing bytes b e = let next : seen_after seen.Nothing mark mark ≡ seen.One = rw e refl in subst (λ (s : Seen). Before (closing_mark mark) (seen_marks s mark ++ bytes)) next b
with_mark mark differ seen.One bytes b e = let next : seen_after seen.One mark mark ≡ seen.Two = rw e refl in subst (λ (s : Seen). Before (closing_mark mark) (seen_marks s mark ++ bytes)) next b
with_mark mark differ seen.Two bytes b e =
    let two : seen_after seen.Two mark mark ≡ seen.Two = rw e refl in
    before_more (closing_mark mark) mark (mark ∷ mark ∷ bytes) (subst (λ (s : Seen). Before (closing_mark mark) (seen_marks s mark ++ bytes)) two b)
    (λ more f. differ (sym (head_same mark 62 bytes more (tail_same mark mark (mark ∷ bytes) (62 ∷ more) (tail_same mark mark (mark ∷ mark ∷ bytes) (mark ∷ 62 ∷ more) f)))))

without_mark : (mark : ℕ) (s : Seen) (byte : ℕ) (bytes : List ℕ) → is_ended_by s byte ≡ false → (byte == mark) ≡ false → Before (closing_mark mark) bytes → Before (closing_mark mark) (seen_marks s mark ++ byte ∷ bytes)
without_mark mark s byte bytes goes other b = by s goes
  where
    differ : ¬ (byte ≡ mark)
    differ = eqb-false byte mark other

    one : Before (closing_mark mark) (byte ∷ bytes)
    one = before_more (closing_mark mark) byte bytes b (λ more e. differ (head_same byte mark bytes (mark ∷ 62 ∷ more) e))

    two : Before (closing_mark mark) (mark ∷ byte ∷ bytes)
    two = before_more (closing_mark mark) mark (byte ∷ bytes) one (λ more e. differ (head_same byte mark bytes (62 ∷ more) (tail_same mark mark (byte ∷ bytes) (mark ∷ 62 ∷ more) e)))

    by : (s : Seen) → is_ended_by s byte ≡ false → Before (closing_mark mark) (seen_marks s mark ++ byte ∷ bytes)
    by seen.Nothing goes = one
    by seen.One goes = two
    by seen.Two goes = before_more (closing_mark mark) mark (mark ∷ byte ∷ bytes) two (λ more e. eqb-false byte 62 goes (head_same byte 62 bytes more (tail_same mark mark (byte ∷ bytes) (62 ∷ more) (tail_same mark mark (mark ∷ byte ∷ bytes) (mark ∷ 62 ∷ more) e))))

pub ends_before : (mark : ℕ) → ¬ (62 ≡ mark) → (bytes : List ℕ) (s : Seen) → Ends mark s bytes → Before (closing_mark mark) (seen_marks s mark ++ bytes)
ends_before mark differ bytes s (Ends.last t byte e) = at_last mark s byte e
ends_before mark differ bytes s (Ends.more t byte rest goes h) =
    let b = ends_before mark differ rest (seen_after s mark byte) h in
    elim (cases_Bool (byte == mark)) [
      | inl hit ↦
          let is : byte ≡ mark = eqb-true byte mark hit in
          let c = subst (λ n. Before (closing_mark mark) (seen_marks (seen_after s mark n) mark ++ rest)) is b in
          subst (λ n. Before (closing_mark mark) (seen_marks s mark ++ n ∷ rest)) (sym is) (with_mark mark differ s rest c (subst (λ n. (n == mark) ≡ true) is hit))
      | inr miss ↦
          let none : seen_after s mark byte ≡ seen.Nothing = rw miss refl in
          without_mark mark s byte rest goes miss (subst (λ (t : Seen). Before (closing_mark mark) (seen_marks t mark ++ rest)) none b)
    ]

-- ---- `?>`

at_question : (q : Bool) (byte : ℕ) → (q && byte == 62) ≡ true → Before question_end (seen_question q ++ byte ∷ [])
at_question false byte e = absurd cc
at_question true byte e = record { bytes = []; split = ap (λ n. 63 ∷ n ∷ []) (eqb-true byte 62 e); is_first = nothing_before question_end }

with_question : (q : Bool) (bytes : List ℕ) → Before question_end (63 ∷ bytes) → Before question_end (seen_question q ++ 63 ∷ bytes)
with_question false bytes b = b
with_question true bytes b = before_more question_end 63 (63 ∷ bytes) b (λ more e. absurd (omega (arith, head_same 63 62 bytes more (tail_same 63 63 (63 ∷ bytes) (62 ∷ more) e))))

without_question : (q : Bool) (byte : ℕ) (bytes : List ℕ) → (q && byte == 62) ≡ false → (byte == 63) ≡ false → Before question_end bytes → Before question_end (seen_question q ++ byte ∷ bytes)
without_question q byte bytes goes other b = by q goes
  where
    one : Before question_end (byte ∷ bytes)
    one = before_more question_end byte bytes b (λ more e. eqb-false byte 63 other (head_same byte 63 bytes (62 ∷ more) e))

    by : (q : Bool) → (q && byte == 62) ≡ false → Before question_end (seen_question q ++ byte ∷ bytes)
    by false goes = one
    by true goes = before_more question_end 63 (byte ∷ bytes) one (λ more e. eqb-false byte 62 goes (head_same byte 62 bytes more (tail_same 63 63 (byte ∷ bytes) (62 ∷ more) e)))

pub question_before : (bytes : List ℕ) (q : Bool) → EndsQuestion q bytes → Before question_end (seen_question q ++ bytes)
question_before bytes q (EndsQuestion.last t byte e) = at_question q byte e
question_before bytes q (EndsQuestion.more t byte rest goes h) =
    let b = question_before rest (byte == 63) h in
    elim (cases_Bool (byte == 63)) [
      | inl hit ↦ subst (λ n. Before question_end (seen_question q ++ n ∷ rest)) (sym (eqb-true byte 63 hit)) (with_question q rest (subst (λ t. Before question_end (seen_question t ++ rest)) hit b))
      | inr miss ↦ without_question q byte rest goes miss (subst (λ t. Before question_end (seen_question t ++ rest)) miss b)
    ]
