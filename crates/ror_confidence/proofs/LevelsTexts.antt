-- A file of levels is read exactly where it is in the grammar, and its fault is the first one.
use Rattle.std.proofs.Common.{◌≡◌, ◌⊎◌, ℕ, ◌+◌, ◌≤◌, Bool, true, false, List, [], ◌∷◌, ◌++◌, length, Option, Result, Ok, Err, refl, sym, ap, subst, ◌∙◌, append_assoc, arith, inl, inr}
use Rattle.std.specs.Prelude.{◌↔◌, codes, map, nat_eq, nat_lt, not, ◌||◌, ◌==◌}
use Rattle.std.specs.List.{AllByRecursion, AllZip, IsDistinct, list_any}
use Rattle.std.specs.Set.{is_member}
use Rattle.std.specs.Str.{bytes_eq, is_utf8}
use Rattle.std.proofs.lemmas.Cmp.{nat_eq_equiv}
use Rattle.std.proofs.lemmas.Bool.{cases_Bool, eqb-true, lt-ltb, ltb-true, ltb-false, ne_eqb}
use Rattle.std.proofs.lemmas.List.{append-nil}
use Rattle.std.proofs.lemmas.Map.Keys.{IsDistinct-head, IsDistinct-tail}
use Rattle.std.proofs.lemmas.Slice.Eq.{bytes_eq-Decides}
use Rattle.std.proofs.lemmas.Str.{IsUtf8-from_is_utf8, is_utf8-from_IsUtf8}
use Rattle.ror_text.specs.Lines.{line_count, numbered_lines, word_at}
use Rattle.ror_text.specs.Numbers.{count_of}
use Rattle.ror_text.specs.Reading.{◌>>=◌, IsFirstFault, need, read_all, refuse}
use Rattle.ror_text.proofs.ReadingLemmas.{bind_err, bind_ok, first_fault, need_err, need_ok, read_all_fails, refuse_err, refuse_ok}
use Rattle.ror_statement.specs.declared.statement.Numbered.{Numbered}
use Rattle.ror_statement.specs.Statements.{numbers_in}
use Rattle.ror_confidence.specs.declared.fault.LevelsFault.{LevelsFault}
use Rattle.ror_confidence.specs.declared.fault.LevelsFault.TheVariants as faults
use Rattle.ror_confidence.specs.declared.fault.LevelsFault.TheVariants.{BadLine}
use Rattle.ror_confidence.specs.declared.levels.Levels.{Levels}
use Rattle.ror_confidence.specs.declared.levels.TheConstants.{MOST_LEVELS}
use Rattle.ror_confidence.specs.declared.read.TheConstants.{MOST_LEVELS_BYTES}
use Rattle.ror_confidence.specs.Grammar.{IsHeader, IsCount, IsPut, AreLevelsLines, IsReadable, IsLevelsText, IsBehind, IsPutIn, Stands, IsFirstLevelsFault, too_long, not_utf8, no_header, other_header, no_count, other_count, no_put, put_again, put_unknown}
use Rattle.ror_confidence.specs.Levels.{AreLevelsOf}
use Rattle.ror_confidence.specs.Reading.{add_line, counted_lines, header, headed_lines, level_count, levels_of, LevelsLine, placement}
use Rattle.ror_confidence.proofs.ReadLevels.{any-map, headed-sound, not_false, of_ok, some_upto}

-- ---- results

cases_of : {A F : Type 0} (r : Result A F) → ((x : A) × (r ≡ Ok x)) ⊎ ((f : F) × (r ≡ Err f))
cases_of (Ok x) = inl (x, refl)
cases_of (Err f) = inr (f, refl)

never_both : {A F : Type 0} (r : Result A F) (x : A) (f : F) → r ≡ Ok x → r ≡ Err f → ⊥
never_both r x f e g = let both = sym e ∙ g in cc

err_is : {A F : Type 0} (r : Result A F) (f g : F) → r ≡ Err f → r ≡ Err g → f ≡ g
err_is r f g e h = let both = sym e ∙ h in cc

same_bytes : (x y : List ℕ) → bytes_eq x y ≡ true → x ≡ y
same_bytes x y e = (bytes_eq-Decides x y).0 e

-- ---- words by their number

two_words : (ws : List (List ℕ)) (a : List ℕ) → length ws ≡ 2 → word_at ws 0 ≡ a → ws ≡ a ∷ word_at ws 1 ∷ []
two_words [] a n e = absurd (omega arith)
two_words (x ∷ []) a n e = absurd (omega arith)
two_words (x ∷ y ∷ []) a n e = ap (λ (w : List ℕ). w ∷ y ∷ []) e
two_words (x ∷ y ∷ z ∷ more) a n e = absurd (omega arith)

three_words : (ws : List (List ℕ)) (a : List ℕ) → length ws ≡ 3 → word_at ws 0 ≡ a → ws ≡ a ∷ word_at ws 1 ∷ word_at ws 2 ∷ []
three_words [] a n e = absurd (omega arith)
three_words (x ∷ []) a n e = absurd (omega arith)
three_words (x ∷ y ∷ []) a n e = absurd (omega arith)
three_words (x ∷ y ∷ z ∷ []) a n e = ap (λ (w : List ℕ). w ∷ y ∷ z ∷ []) e
three_words (x ∷ y ∷ z ∷ v ∷ more) a n e = absurd (omega arith)

-- the test did not refuse
length_is : (fault : LevelsFault) (ws : List (List ℕ)) (n : ℕ) (u : Unit {0}) → refuse fault (not (length ws == n)) ≡ Ok u → length ws ≡ n
length_is fault ws n u e = eqb-true (length ws) n (not_false (length ws == n) (refuse_ok fault (not (length ws == n)) u e))

word_is : (fault : LevelsFault) (ws : List (List ℕ)) (i : ℕ) (a : List ℕ) (u : Unit {0}) → refuse fault (not (bytes_eq (word_at ws i) a)) ≡ Ok u → word_at ws i ≡ a
word_is fault ws i a u e = same_bytes (word_at ws i) a (not_false (bytes_eq (word_at ws i) a) (refuse_ok fault (not (bytes_eq (word_at ws i) a)) u e))

not_past : (n most : ℕ) → n ≤ most → nat_lt most n ≡ false
not_past n most few = elim (cases_Bool (nat_lt most n)) [
  | inl past ↦ absurd (let h = ltb-true most n past in omega (arith, h, few))
  | inr never ↦ never
]

either_false : (v w : Bool) → v ≡ false → w ≡ false → (v || w) ≡ false
either_false true w e f = absurd cc
either_false false w e f = f

-- from 1 to the most
within : (n most : ℕ) → 1 ≤ n → n ≤ most → (n == 0 || nat_lt most n) ≡ false
within n most some few = either_false (n == 0) (nat_lt most n) (ne_eqb n 0 (λ (e : n ≡ 0). omega (arith, some, e))) (not_past n most few)

-- a reader that refuses a line always does so as a bad one
refuse_bad : {B : Type 0} (line : ℕ) (test : Bool) (k : Unit {0} → Result B LevelsFault) → ((u : Unit {0}) (g : LevelsFault) → k u ≡ Err g → g ≡ BadLine line) → (g : LevelsFault) → (refuse (BadLine line) test >>= k) ≡ Err g → g ≡ BadLine line
refuse_bad line test k only g e = elim (bind_err (refuse (BadLine line) test) k g e) [
  | inl here ↦ (refuse_err (BadLine line) g test here).1
  | inr later ↦ only later.0 g later.2
]

need_bad : {A B : Type 0} (line : ℕ) (o : Option A) (k : A → Result B LevelsFault) → ((x : A) (g : LevelsFault) → k x ≡ Err g → g ≡ BadLine line) → (g : LevelsFault) → (need (BadLine line) o >>= k) ≡ Err g → g ≡ BadLine line
need_bad line o k only g e = elim (bind_err (need (BadLine line) o) k g e) [
  | inl here ↦ (need_err (BadLine line) g o here).1
  | inr later ↦ only later.0 g later.2
]

abbrev good : {A : Type 0} → A → Result A LevelsFault
good x = Ok x

abbrev failed : {A : Type 0} → LevelsFault → Result A LevelsFault
failed f = Err f

good_never : {A : Type 0} (line : ℕ) (x : A) (g : LevelsFault) → good x ≡ Err g → g ≡ BadLine line
good_never line x g e = absurd cc

good_is : {A : Type 0} (x y : A) → good x ≡ Ok y → x ≡ y
good_is x y e = cc

-- ---- the header

header_ok : (line : LevelsLine) (u : Unit {0}) → header line ≡ Ok u → IsHeader line
unfolding header
header_ok line u e =
    let bad = BadLine line.0 in
    let a = bind_ok (refuse bad (not (length line.1 == 2))) _ u e in
    let b = bind_ok (refuse bad (not (bytes_eq (word_at line.1 0) (codes "ror-levels")))) _ u a.2 in
    two_words line.1 (codes "ror-levels") (length_is bad line.1 2 a.0 a.1) (word_is bad line.1 0 (codes "ror-levels") b.0 b.1)
    ∙ ap (λ (w : List ℕ). codes "ror-levels" ∷ w ∷ []) (word_is bad line.1 1 (codes "1") u b.2)

header_again : (line : LevelsLine) → IsHeader line → header line ≡ Ok tt
unfolding header
header_again (n, ws) is = rw is refl

header_bad : (line : LevelsLine) (g : LevelsFault) → header line ≡ Err g → g ≡ BadLine line.0
unfolding header
header_bad line g e =
    refuse_bad line.0 (not (length line.1 == 2)) _ (λ u h is.
    refuse_bad line.0 (not (bytes_eq (word_at line.1 0) (codes "ror-levels"))) _ (λ v k never.
    (refuse_err (BadLine line.0) k (not (bytes_eq (word_at line.1 1) (codes "1"))) never).1) h is) g e

header_refused : (line : LevelsLine) → ¬ (IsHeader line) → header line ≡ Err (BadLine line.0)
header_refused line never = elim (cases_of (header line)) [
  | inl ok ↦ absurd (never (header_ok line ok.0 ok.1))
  | inr e ↦ e.1 ∙ ap (λ (f : LevelsFault). failed f) (header_bad line e.0 e.1)
]

-- ---- how many levels there are

count_ok : (line : LevelsLine) (n : ℕ) → level_count line ≡ Ok n → IsCount line n
unfolding level_count
count_ok line n e =
    let bad = BadLine line.0 in
    let a = bind_ok (refuse bad (not (length line.1 == 2))) _ n e in
    let b = bind_ok (refuse bad (not (bytes_eq (word_at line.1 0) (codes "count")))) _ n a.2 in
    let d = bind_ok (need bad (count_of (word_at line.1 1))) _ n b.2 in
    let f = bind_ok (refuse bad (d.0 == 0 || nat_lt MOST_LEVELS d.0)) _ n d.2 in
    let is : d.0 ≡ n = good_is d.0 n f.2 in
    let bounds = some_upto d.0 MOST_LEVELS (refuse_ok bad (d.0 == 0 || nat_lt MOST_LEVELS d.0) f.0 f.1) in
    subst (IsCount line) is (record {
      word = word_at line.1 1;
      is = two_words line.1 (codes "count") (length_is bad line.1 2 a.0 a.1) (word_is bad line.1 0 (codes "count") b.0 b.1);
      writes = need_ok bad (count_of (word_at line.1 1)) d.0 d.1;
      some = bounds.0;
      few = bounds.1;
    })

count_again : (line : LevelsLine) (n : ℕ) → IsCount line n → level_count line ≡ Ok n
unfolding level_count
count_again (k, ws) n is = rw (is.is, is.writes, within n MOST_LEVELS is.some is.few) refl

count_bad : (line : LevelsLine) (g : LevelsFault) → level_count line ≡ Err g → g ≡ BadLine line.0
unfolding level_count
count_bad line g e =
    refuse_bad line.0 (not (length line.1 == 2)) _ (λ u h is.
    refuse_bad line.0 (not (bytes_eq (word_at line.1 0) (codes "count"))) _ (λ v k never.
    need_bad line.0 (count_of (word_at line.1 1)) _ (λ n l at.
    refuse_bad line.0 (n == 0 || nat_lt MOST_LEVELS n) _ (λ w m last. good_never line.0 n m last) l at) k never) h is) g e

count_refused : (line : LevelsLine) → ((n : ℕ) → ¬ (IsCount line n)) → level_count line ≡ Err (BadLine line.0)
count_refused line never = elim (cases_of (level_count line)) [
  | inl ok ↦ absurd (never ok.0 (count_ok line ok.0 ok.1))
  | inr e ↦ e.1 ∙ ap (λ (f : LevelsFault). failed f) (count_bad line e.0 e.1)
]

-- ---- a statement that is put on a level

put_ok : (count : ℕ) (line : LevelsLine) (p : ℕ × ℕ) → placement count line ≡ Ok p → IsPut count line p
unfolding placement
put_ok count line p e =
    let bad = BadLine line.0 in
    let a = bind_ok (refuse bad (not (length line.1 == 3))) _ p e in
    let b = bind_ok (refuse bad (not (bytes_eq (word_at line.1 0) (codes "put")))) _ p a.2 in
    let d = bind_ok (need bad (count_of (word_at line.1 1))) _ p b.2 in
    let f = bind_ok (need bad (count_of (word_at line.1 2))) _ p d.2 in
    let h = bind_ok (refuse bad (f.0 == 0 || nat_lt count f.0)) _ p f.2 in
    let is : (d.0, f.0) ≡ p = good_is (d.0, f.0) p h.2 in
    let bounds = some_upto f.0 count (refuse_ok bad (f.0 == 0 || nat_lt count f.0) h.0 h.1) in
    subst (IsPut count line) is (record {
      number = word_at line.1 1;
      level = word_at line.1 2;
      is = three_words line.1 (codes "put") (length_is bad line.1 3 a.0 a.1) (word_is bad line.1 0 (codes "put") b.0 b.1);
      writes_number = need_ok bad (count_of (word_at line.1 1)) d.0 d.1;
      writes_level = need_ok bad (count_of (word_at line.1 2)) f.0 f.1;
      from_first = bounds.0;
      to_last = bounds.1;
    })

put_is_read : (count : ℕ) (line : LevelsLine) (p : ℕ × ℕ) → IsPut count line p → placement count line ≡ Ok p
unfolding placement
put_is_read count (k, ws) (n, l) is = rw (is.is, is.writes_number, is.writes_level, within l count is.from_first is.to_last) refl

put_bad : (count : ℕ) (line : LevelsLine) (g : LevelsFault) → placement count line ≡ Err g → g ≡ BadLine line.0
unfolding placement
put_bad count line g e =
    refuse_bad line.0 (not (length line.1 == 3)) _ (λ u h is.
    refuse_bad line.0 (not (bytes_eq (word_at line.1 0) (codes "put"))) _ (λ v k never.
    need_bad line.0 (count_of (word_at line.1 1)) _ (λ n l at.
    need_bad line.0 (count_of (word_at line.1 2)) _ (λ x m there.
    refuse_bad line.0 (x == 0 || nat_lt count x) _ (λ w y last. good_never line.0 (n, x) y last) m there) l at) k never) h is) g e

-- ---- one more line

abbrev first_of : ℕ × ℕ → ℕ
first_of p = p.0

abbrev with_put : Levels → ℕ × ℕ → Levels
with_put levels p = record { count = levels.count; put = levels.put ++ p ∷ [] }

abbrev is_put : Levels → ℕ → Bool
is_put levels n = list_any (λ (q : ℕ × ℕ). nat_eq n q.0) levels.put

abbrev stands : List Numbered → ℕ → Bool
stands standing n = list_any (λ (x : Numbered). nat_eq n x.number) standing

put_in : (levels : Levels) (n : ℕ) (b : Bool) → is_put levels n ≡ b → is_member nat_eq (map (λ (q : ℕ × ℕ). q.0) levels.put) n ≡ b
put_in levels n b e = any-map (nat_eq n) (λ (q : ℕ × ℕ). q.0) levels.put ∙ e

in_put : (levels : Levels) (n : ℕ) (b : Bool) → is_member nat_eq (map (λ (q : ℕ × ℕ). q.0) levels.put) n ≡ b → is_put levels n ≡ b
in_put levels n b e = sym (any-map (nat_eq n) (λ (q : ℕ × ℕ). q.0) levels.put) ∙ e

stand_in : (standing : List Numbered) (n : ℕ) (b : Bool) → stands standing n ≡ b → is_member nat_eq (numbers_in standing) n ≡ b
stand_in standing n b e = any-map (nat_eq n) (λ (x : Numbered). x.number) standing ∙ e

in_stand : (standing : List Numbered) (n : ℕ) (b : Bool) → is_member nat_eq (numbers_in standing) n ≡ b → stands standing n ≡ b
in_stand standing n b e = sym (any-map (nat_eq n) (λ (x : Numbered). x.number) standing) ∙ e

false_not : {b : Bool} → b ≡ false → b ≡ true → ⊥
false_not e f = let both = sym e ∙ f in cc

no_true : (b : Bool) → ¬ (b ≡ true) → b ≡ false
no_true true never = absurd (never refl)
no_true false never = refl

record IsAdded (standing : List Numbered) (levels : Levels) (line : LevelsLine) (more : Levels) : Type 0 where
  p : ℕ × ℕ
  put : IsPut levels.count line p
  is : more ≡ with_put levels p

add_ok : (standing : List Numbered) (levels : Levels) (line : LevelsLine) (more : Levels) → add_line standing levels line ≡ Ok more → IsAdded standing levels line more
unfolding add_line
add_ok standing levels line more e =
    let a = bind_ok (placement levels.count line) _ more e in
    let b = bind_ok (refuse (faults.Repeated line.0) (is_put levels a.0.0)) _ more a.2 in
    let d = bind_ok (refuse (faults.UnknownStatement line.0) (not (stands standing a.0.0))) _ more b.2 in
    record { p = a.0; put = put_ok levels.count line a.0 a.1; is = sym (good_is (with_put levels a.0) more d.2) }

add_again : (standing : List Numbered) (levels : Levels) (line : LevelsLine) (p : ℕ × ℕ) → IsPut levels.count line p → is_put levels p.0 ≡ false → stands standing p.0 ≡ true → add_line standing levels line ≡ Ok (with_put levels p)
unfolding add_line
add_again standing levels line p put new known = rw (put_is_read levels.count line p put, new, known) refl

add_repeats : (standing : List Numbered) (levels : Levels) (line : LevelsLine) (p : ℕ × ℕ) → IsPut levels.count line p → is_put levels p.0 ≡ true → add_line standing levels line ≡ Err (faults.Repeated line.0)
unfolding add_line
add_repeats standing levels line p put old = rw (put_is_read levels.count line p put, old) refl

add_unknown : (standing : List Numbered) (levels : Levels) (line : LevelsLine) (p : ℕ × ℕ) → IsPut levels.count line p → is_put levels p.0 ≡ false → stands standing p.0 ≡ false → add_line standing levels line ≡ Err (faults.UnknownStatement line.0)
unfolding add_line
add_unknown standing levels line p put new unknown = rw (put_is_read levels.count line p put, new, unknown) refl

add_bad : (standing : List Numbered) (levels : Levels) (line : LevelsLine) → ((p : ℕ × ℕ) → ¬ (IsPut levels.count line p)) → add_line standing levels line ≡ Err (BadLine line.0)
unfolding add_line
add_bad standing levels line never = elim (cases_of (placement levels.count line)) [
  | inl ok ↦ absurd (never ok.0 (put_ok levels.count line ok.0 ok.1))
  | inr e ↦ let is = put_bad levels.count line e.0 e.1 in rw (e.1, is) refl
]

-- ---- lines that put statements on levels

record ArePlaced (levels : Levels) (lines : List LevelsLine) (more : Levels) : Type 0 where
  put : List (ℕ × ℕ)
  count : more.count ≡ levels.count
  placed : AllZip (IsPut levels.count) lines put
  is : more.put ≡ levels.put ++ put

placed_of : (standing : List Numbered) (levels : Levels) (lines : List LevelsLine) (more : Levels) → read_all (add_line standing) levels lines ≡ Ok more → ArePlaced levels lines more
placed_of standing levels [] more e =
    let is : levels ≡ more = good_is levels more e in
    record { put = []; count = ap (λ (l : Levels). l.count) (sym is); placed = tt; is = ap (λ (l : Levels). l.put) (sym is) ∙ sym (append-nil levels.put) }
placed_of standing levels (line ∷ lines) more e =
    let a = bind_ok (add_line standing levels line) (λ next. read_all (add_line standing) next lines) more e in
    let added = add_ok standing levels line a.0 a.1 in
    let rest = placed_of standing a.0 lines more a.2 in
    let count : a.0.count ≡ levels.count = ap (λ (l : Levels). l.count) added.is in
    let puts : a.0.put ≡ levels.put ++ added.p ∷ [] = ap (λ (l : Levels). l.put) added.is in
    record {
      put = added.p ∷ rest.put;
      count = rest.count ∙ count;
      placed = (added.put, subst (λ (n : ℕ). AllZip (IsPut n) lines rest.put) count rest.placed);
      is = rest.is ∙ ap (λ (l : List (ℕ × ℕ)). l ++ rest.put) puts ∙ append_assoc levels.put (added.p ∷ []) rest.put;
    }

middle : (P : ℕ → Type 0) (before : List (ℕ × ℕ)) (p : ℕ × ℕ) (put : List (ℕ × ℕ)) → AllByRecursion P (map (λ (q : ℕ × ℕ). q.0) (before ++ p ∷ put)) → P p.0
middle P [] p put all = all.0
middle P (q ∷ before) p put all = middle P before p put all.1

new_among : (before : List (ℕ × ℕ)) (p : ℕ × ℕ) (put : List (ℕ × ℕ)) → IsDistinct nat_eq (map (λ (q : ℕ × ℕ). q.0) (before ++ p ∷ put)) → list_any (λ (q : ℕ × ℕ). nat_eq p.0 q.0) before ≡ false
new_among [] p put once = refl
new_among (q ∷ before) p put once =
    let after = map (λ (q : ℕ × ℕ). q.0) (before ++ p ∷ put) in
    let other = middle (λ (n : ℕ). nat_eq q.0 n ≡ false) before p put (IsDistinct-head nat_eq q.0 after once) in
    let turned : nat_eq p.0 q.0 ≡ false = nat_eq_equiv.symm p.0 q.0 ∙ other in
    rw turned (new_among before p put (IsDistinct-tail nat_eq q.0 after once))

abbrev AllStand : List Numbered → List (ℕ × ℕ) → Type 0
AllStand standing put = AllByRecursion (λ p. is_member nat_eq (numbers_in standing) p.0 ≡ true) put

read_again : (standing : List Numbered) (count : ℕ) (before put : List (ℕ × ℕ)) (lines : List LevelsLine) → AllZip (IsPut count) lines put → AllStand standing put → IsDistinct nat_eq (map (λ (q : ℕ × ℕ). q.0) (before ++ put)) → read_all (add_line standing) (record { count = count; put = before }) lines ≡ Ok (record { count = count; put = before ++ put })
read_again standing count before [] [] placed known once = ap (λ (l : List (ℕ × ℕ)). good (record { count = count; put = l })) (sym (append-nil before))
read_again standing count before (p ∷ put) [] placed known once = absurd placed
read_again standing count before [] (line ∷ lines) placed known once = absurd placed
read_again standing count before (p ∷ put) (line ∷ lines) placed known once =
    let levels : Levels = record { count = count; put = before } in
    let added = add_again standing levels line p placed.0 (new_among before p put once) (in_stand standing p.0 true known.0) in
    let joined : (before ++ p ∷ []) ++ put ≡ before ++ p ∷ put = append_assoc before (p ∷ []) put in
    let rest = read_again standing count (before ++ p ∷ []) put lines placed.1 known.1 (subst (λ (l : List (ℕ × ℕ)). IsDistinct nat_eq (map (λ (q : ℕ × ℕ). q.0) l)) (sym joined) once) in
    rw added (rest ∙ ap (λ (l : List (ℕ × ℕ)). good (record { count = count; put = l })) joined)

-- ---- all lines

abbrev counted_by : ℕ → Levels
counted_by n = record { count = n; put = [] }

headed_ok : (standing : List Numbered) (past : ℕ) (lines : List LevelsLine) (levels : Levels) → headed_lines standing past lines ≡ Ok levels → AreLevelsLines standing lines levels
headed_ok standing past [] levels e = absurd cc
headed_ok standing past (h ∷ []) levels e =
    let a = bind_ok (header h) (λ u. counted_lines standing past []) levels e in
    let never = a.2 in
    absurd cc
headed_ok standing past (h ∷ c ∷ puts) levels e =
    let a = bind_ok (header h) (λ u. counted_lines standing past (c ∷ puts)) levels e in
    let b = bind_ok (level_count c) (λ n. read_all (add_line standing) (counted_by n) puts) levels a.2 in
    let placed = placed_of standing (counted_by b.0) puts levels b.2 in
    let put : levels.put ≡ placed.put = placed.is in
    record {
      header = h;
      counted = c;
      puts = puts;
      split = refl;
      headed = header_ok h a.0 a.1;
      counts = subst (IsCount c) (sym placed.count) (count_ok c b.0 b.1);
      placed = subst (λ (l : List (ℕ × ℕ)). AllZip (IsPut levels.count) puts l) (sym put) (subst (λ (n : ℕ). AllZip (IsPut n) puts placed.put) (sym placed.count) placed.placed);
      sound = of_ok (AreLevelsOf standing) (headed_lines standing past (h ∷ c ∷ puts)) levels (headed-sound standing past (h ∷ c ∷ puts)) e;
    }

puts_again : (standing : List Numbered) (lines : List LevelsLine) (levels : Levels) → (are : AreLevelsLines standing lines levels) → read_all (add_line standing) (counted_by levels.count) are.puts ≡ Ok levels
puts_again standing lines levels are = read_again standing levels.count [] levels.put are.puts are.placed are.sound.each_stands are.sound.once

headed_again : (standing : List Numbered) (past : ℕ) (lines : List LevelsLine) (levels : Levels) → AreLevelsLines standing lines levels → headed_lines standing past lines ≡ Ok levels
headed_again standing past lines levels are =
    rw (are.split, header_again are.header are.headed, count_again are.counted levels.count are.counts) (puts_again standing lines levels are)

-- ---- all bytes

abbrev past_of : List ℕ → ℕ
past_of bytes = line_count bytes + 1

readable_reads : (standing : List Numbered) (bytes : List ℕ) (r : Result Levels LevelsFault) → IsReadable bytes → headed_lines standing (past_of bytes) (numbered_lines bytes) ≡ r → levels_of standing bytes ≡ r
unfolding levels_of
readable_reads standing bytes r readable is = rw (not_past (length bytes) MOST_LEVELS_BYTES readable.few, is_utf8-from_IsUtf8 bytes readable.utf8) is

pub text_is_read : (standing : List Numbered) (bytes : List ℕ) (levels : Levels) → (levels_of standing bytes ≡ Ok levels) ↔ IsLevelsText standing bytes levels
unfolding levels_of
text_is_read standing bytes levels = (to, from)
  where
    to : levels_of standing bytes ≡ Ok levels → IsLevelsText standing bytes levels
    to e =
        let a = bind_ok (refuse faults.TooLong (nat_lt MOST_LEVELS_BYTES (length bytes))) _ levels e in
        let b = bind_ok (refuse faults.NotUtf8 (not (is_utf8 bytes))) _ levels a.2 in
        record {
          readable = record {
            few = ltb-false MOST_LEVELS_BYTES (length bytes) (refuse_ok faults.TooLong (nat_lt MOST_LEVELS_BYTES (length bytes)) a.0 a.1);
            utf8 = IsUtf8-from_is_utf8 bytes (not_false (is_utf8 bytes) (refuse_ok faults.NotUtf8 (not (is_utf8 bytes)) b.0 b.1));
          };
          lines = headed_ok standing (past_of bytes) (numbered_lines bytes) levels b.2;
        }

    from : IsLevelsText standing bytes levels → levels_of standing bytes ≡ Ok levels
    from is = readable_reads standing bytes (Ok levels) is.readable (headed_again standing (past_of bytes) (numbered_lines bytes) levels is.lines)

-- ---- first faults

failed_is : (f g : LevelsFault) (r : Result Levels LevelsFault) → r ≡ failed f → r ≡ Err g → g ≡ f
failed_is f g r e h = err_is r g f h e

-- why a line that is to put a statement on a level doesn't
data FailsPut (standing : List Numbered) (levels : Levels) (line : LevelsLine) (fault : LevelsFault) : Type 0 where
  nothing : ((p : ℕ × ℕ) → ¬ (IsPut levels.count line p)) → fault ≡ BadLine line.0 → FailsPut standing levels line fault
  again : (p : ℕ × ℕ) → IsPut levels.count line p → IsPutIn levels p.0 → fault ≡ faults.Repeated line.0 → FailsPut standing levels line fault
  unknown : (p : ℕ × ℕ) → IsPut levels.count line p → ¬ (IsPutIn levels p.0) → ¬ (Stands standing p.0) → fault ≡ faults.UnknownStatement line.0 → FailsPut standing levels line fault

add_err : (standing : List Numbered) (levels : Levels) (line : LevelsLine) (fault : LevelsFault) → add_line standing levels line ≡ Err fault → FailsPut standing levels line fault
add_err standing levels line fault e = elim (cases_of (placement levels.count line)) [
  | inl ok ↦
      let put = put_ok levels.count line ok.0 ok.1 in
      elim (cases_Bool (is_put levels ok.0.0)) [
        | inl old ↦ again ok.0 put (put_in levels ok.0.0 true old) (err_is (add_line standing levels line) fault (faults.Repeated line.0) e (add_repeats standing levels line ok.0 put old))
        | inr new ↦ elim (cases_Bool (stands standing ok.0.0)) [
          | inl known ↦ absurd (never_both (add_line standing levels line) (with_put levels ok.0) fault (add_again standing levels line ok.0 put new known) e)
          | inr none ↦ unknown ok.0 put (false_not (put_in levels ok.0.0 false new)) (false_not (stand_in standing ok.0.0 false none)) (err_is (add_line standing levels line) fault (faults.UnknownStatement line.0) e (add_unknown standing levels line ok.0 put new none))
        ]
      ]
  | inr bad ↦
      let never : (p : ℕ × ℕ) → ¬ (IsPut levels.count line p) = λ p put. never_both (placement levels.count line) p bad.0 (put_is_read levels.count line p put) bad.1 in
      nothing never (err_is (add_line standing levels line) fault (BadLine line.0) e (add_bad standing levels line never))
]

fails_add : (standing : List Numbered) (levels : Levels) (line : LevelsLine) (fault : LevelsFault) → FailsPut standing levels line fault → add_line standing levels line ≡ Err fault
fails_add standing levels line fault (nothing never is) = add_bad standing levels line never ∙ ap (λ (f : LevelsFault). failed f) (sym is)
fails_add standing levels line fault (again p put old is) = add_repeats standing levels line p put (in_put levels p.0 true old) ∙ ap (λ (f : LevelsFault). failed f) (sym is)
fails_add standing levels line fault (unknown p put new none is) =
    add_unknown standing levels line p put (no_true (is_put levels p.0) (λ h. new (put_in levels p.0 true h))) (no_true (stands standing p.0) (λ h. none (stand_in standing p.0 true h)))
    ∙ ap (λ (f : LevelsFault). failed f) (sym is)

put_fails : (standing : List Numbered) (bytes : List ℕ) (levels : Levels) (line : LevelsLine) (fault : LevelsFault) → IsBehind standing bytes levels line → FailsPut standing levels line fault → IsFirstLevelsFault standing bytes fault
put_fails standing bytes levels line fault behind (nothing never is) = no_put levels line behind never is
put_fails standing bytes levels line fault behind (again p put old is) = put_again levels line p behind put old is
put_fails standing bytes levels line fault behind (unknown p put new none is) = put_unknown levels line p behind put new none is

headed_fails : (standing : List Numbered) (bytes : List ℕ) (lines : List LevelsLine) (fault : LevelsFault) → IsReadable bytes → numbered_lines bytes ≡ lines → headed_lines standing (past_of bytes) lines ≡ Err fault → IsFirstLevelsFault standing bytes fault
headed_fails standing bytes [] fault readable split e = no_header readable split (failed_is (BadLine (past_of bytes)) fault (failed (BadLine (past_of bytes))) refl e)
headed_fails standing bytes (h ∷ []) fault readable split e = elim (bind_err (header h) (λ u. counted_lines standing (past_of bytes) []) fault e) [
  | inl bad ↦ other_header h [] readable split (λ is. never_both (header h) tt fault (header_again h is) bad) (header_bad h fault bad)
  | inr a ↦ no_count h readable split (header_ok h a.0 a.1) (failed_is (BadLine (past_of bytes)) fault (failed (BadLine (past_of bytes))) refl a.2)
]
headed_fails standing bytes (h ∷ c ∷ puts) fault readable split e = elim (bind_err (header h) (λ u. counted_lines standing (past_of bytes) (c ∷ puts)) fault e) [
  | inl bad ↦ other_header h (c ∷ puts) readable split (λ is. never_both (header h) tt fault (header_again h is) bad) (header_bad h fault bad)
  | inr a ↦ elim (bind_err (level_count c) (λ n. read_all (add_line standing) (counted_by n) puts) fault a.2) [
    | inl bad ↦ other_count h c puts readable split (header_ok h a.0 a.1) (λ n is. never_both (level_count c) n fault (count_again c n is) bad) (count_bad c fault bad)
    | inr b ↦
        let first = first_fault (add_line standing) (counted_by b.0) puts fault b.2 in
        let read : headed_lines standing (past_of bytes) (h ∷ c ∷ first.before) ≡ Ok first.reached = rw (a.1, b.1) first.reads in
        let behind : IsBehind standing bytes first.reached first.line = record {
          readable = readable;
          before = h ∷ c ∷ first.before;
          after = first.after;
          split = split ∙ ap (λ (l : List LevelsLine). h ∷ c ∷ l) first.split;
          reads = headed_ok standing (past_of bytes) (h ∷ c ∷ first.before) first.reached read;
        } in
        put_fails standing bytes first.reached first.line fault behind (add_err standing first.reached first.line fault first.fails)
  ]
]

behind_fails : (standing : List Numbered) (bytes : List ℕ) (levels : Levels) (line : LevelsLine) (fault : LevelsFault) → IsBehind standing bytes levels line → FailsPut standing levels line fault → levels_of standing bytes ≡ Err fault
behind_fails standing bytes levels line fault behind fails =
    let are = behind.reads in
    let split : numbered_lines bytes ≡ are.header ∷ are.counted ∷ are.puts ++ line ∷ behind.after = behind.split ∙ ap (λ (l : List LevelsLine). l ++ line ∷ behind.after) are.split in
    let first : IsFirstFault (add_line standing) (counted_by levels.count) (are.puts ++ line ∷ behind.after) fault = record {
      before = are.puts;
      line = line;
      after = behind.after;
      reached = levels;
      split = refl;
      reads = puts_again standing behind.before levels are;
      fails = fails_add standing levels line fault fails;
    } in
    let rest = read_all_fails (add_line standing) (counted_by levels.count) (are.puts ++ line ∷ behind.after) fault first in
    readable_reads standing bytes (Err fault) behind.readable (rw (split, header_again are.header are.headed, count_again are.counted levels.count are.counts) rest)

first_is_given : (standing : List Numbered) (bytes : List ℕ) (fault : LevelsFault) → IsFirstLevelsFault standing bytes fault → levels_of standing bytes ≡ Err fault
unfolding levels_of
first_is_given standing bytes fault (too_long many is) = rw (lt-ltb MOST_LEVELS_BYTES (length bytes) many) (ap (λ (f : LevelsFault). failed f) (sym is))
first_is_given standing bytes fault (not_utf8 few never is) = rw (not_past (length bytes) MOST_LEVELS_BYTES few, no_true (is_utf8 bytes) (λ h. never (IsUtf8-from_is_utf8 bytes h))) (ap (λ (f : LevelsFault). failed f) (sym is))
first_is_given standing bytes fault (no_header readable none is) = readable_reads standing bytes (Err fault) readable (rw none (ap (λ (f : LevelsFault). failed f) (sym is)))
first_is_given standing bytes fault (other_header line lines readable split never is) = readable_reads standing bytes (Err fault) readable (rw (split, header_refused line never) (ap (λ (f : LevelsFault). failed f) (sym is)))
first_is_given standing bytes fault (no_count h readable split headed is) = readable_reads standing bytes (Err fault) readable (rw (split, header_again h headed) (ap (λ (f : LevelsFault). failed f) (sym is)))
first_is_given standing bytes fault (other_count h line lines readable split headed never is) = readable_reads standing bytes (Err fault) readable (rw (split, header_again h headed, count_refused line never) (ap (λ (f : LevelsFault). failed f) (sym is)))
first_is_given standing bytes fault (no_put levels line behind never is) = behind_fails standing bytes levels line fault behind (nothing never is)
first_is_given standing bytes fault (put_again levels line p behind put old is) = behind_fails standing bytes levels line fault behind (again p put old is)
first_is_given standing bytes fault (put_unknown levels line p behind put new none is) = behind_fails standing bytes levels line fault behind (unknown p put new none is)

not_both : (b : Bool) → b ≡ true → not b ≡ true → ⊥
not_both true e h = cc
not_both false e h = cc

pub fault_is_first : (standing : List Numbered) (bytes : List ℕ) (fault : LevelsFault) → (levels_of standing bytes ≡ Err fault) ↔ IsFirstLevelsFault standing bytes fault
unfolding levels_of
fault_is_first standing bytes fault = (to, first_is_given standing bytes fault)
  where
    to : levels_of standing bytes ≡ Err fault → IsFirstLevelsFault standing bytes fault
    to e = elim (bind_err (refuse faults.TooLong (nat_lt MOST_LEVELS_BYTES (length bytes))) _ fault e) [
      | inl long ↦
          let is = refuse_err faults.TooLong fault (nat_lt MOST_LEVELS_BYTES (length bytes)) long in
          too_long (ltb-true MOST_LEVELS_BYTES (length bytes) is.0) is.1
      | inr a ↦
          let few = ltb-false MOST_LEVELS_BYTES (length bytes) (refuse_ok faults.TooLong (nat_lt MOST_LEVELS_BYTES (length bytes)) a.0 a.1) in
          elim (bind_err (refuse faults.NotUtf8 (not (is_utf8 bytes))) _ fault a.2) [
            | inl other ↦
                let is = refuse_err faults.NotUtf8 fault (not (is_utf8 bytes)) other in
                not_utf8 few (λ utf8. not_both (is_utf8 bytes) (is_utf8-from_IsUtf8 bytes utf8) is.0) is.1
            | inr b ↦
                headed_fails standing bytes (numbered_lines bytes) fault (record { few = few; utf8 = IsUtf8-from_is_utf8 bytes (not_false (is_utf8 bytes) (refuse_ok faults.NotUtf8 (not (is_utf8 bytes)) b.0 b.1)) }) refl b.2
          ]
    ]
