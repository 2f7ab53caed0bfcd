-- That levels that are read are those of the statements.
use Rattle.std.proofs.Common.{◌≡◌, ℕ, zero, suc, ◌+◌, ◌≤◌, Bool, true, false, List, [], ◌∷◌, ◌++◌, length, Result, Ok, Err, refl, sym, ap, subst, ◌∙◌, arith}
use Rattle.std.specs.Prelude.{codes, IfOk, map, nat_eq, nat_lt, not, ◌||◌, ◌==◌}
use Rattle.std.specs.List.{IsDistinct, list_any}
use Rattle.std.specs.Cmp.{nat_eq_equiv}
use Rattle.std.specs.Set.{is_member}
use Rattle.std.specs.Str.{bytes_eq, is_utf8}
use Rattle.std.proofs.lemmas.Bool.{ltb-false}
use Rattle.std.proofs.lemmas.Map.Keys.{IsDistinct-push}
use Rattle.ror_text.specs.Lines.{line_count, numbered_lines, word_at}
use Rattle.ror_text.specs.Numbers.{count_of}
use Rattle.ror_text.specs.Reading.{Gives, need, read_all, refuse}
use Rattle.ror_text.proofs.Everywhere.{all-append}
use Rattle.ror_text.proofs.ReadingLemmas.{bind_ok, keeps, read_all_keeps, refuse_ok}
use Rattle.ror_statement.specs.declared.statement.Numbered.{Numbered}
use Rattle.ror_statement.specs.Statements.{numbers_in}
use Rattle.ror_confidence.specs.declared.fault.LevelsFault.{LevelsFault}
use Rattle.ror_confidence.specs.declared.fault.LevelsFault.TheVariants as faults
use Rattle.ror_confidence.specs.declared.levels.Levels.{Levels}
use Rattle.ror_confidence.specs.declared.levels.TheConstants.{MOST_LEVELS}
use Rattle.ror_confidence.specs.declared.read.TheConstants.{MOST_LEVELS_BYTES}
use Rattle.ror_confidence.specs.Levels.{AreLevelsOf}
use Rattle.ror_confidence.specs.Reading.{add_line, counted_lines, header, headed_lines, level_count, levels_fault, levels_of, LevelsLine, placement}

neither : (v w : Bool) → (v || w) ≡ false → (v ≡ false) × (w ≡ false)
neither true w h = absurd cc
neither false w h = (refl, h)

-- neither 0 nor past the most
pub some_upto : (n most : ℕ) → (n == 0 || nat_lt most n) ≡ false → (1 ≤ n) × (n ≤ most)
some_upto zero most h = absurd cc
some_upto (suc n) most h = (omega arith, ltb-false most (suc n) (neither (suc n == 0) (nat_lt most (suc n)) h).1)

placement-within : (count : ℕ) (line : LevelsLine) (p : ℕ × ℕ) → placement count line ≡ Ok p → (1 ≤ p.1) × (p.1 ≤ count)
unfolding placement
placement-within count line p e =
    let bad = faults.BadLine line.0 in
    let b1 = bind_ok (refuse bad (not (length line.1 == 3))) _ p e in
    let b2 = bind_ok (refuse bad (not (bytes_eq (word_at line.1 0) (codes "put")))) _ p b1.2 in
    let b3 = bind_ok (need bad (count_of (word_at line.1 1))) _ p b2.2 in
    let b4 = bind_ok (need bad (count_of (word_at line.1 2))) _ p b3.2 in
    let b5 = bind_ok (refuse bad (b4.0 == 0 || nat_lt count b4.0)) _ p b4.2 in
    let level = b4.0 in
    let is : p ≡ (b3.0, level) = let last = b5.2 in cc in
    rw is (some_upto level count (refuse_ok bad (level == 0 || nat_lt count level) b5.0 b5.1))

level_count-within : (line : LevelsLine) (n : ℕ) → level_count line ≡ Ok n → (1 ≤ n) × (n ≤ MOST_LEVELS)
unfolding level_count
level_count-within line n e =
    let bad = faults.BadLine line.0 in
    let b1 = bind_ok (refuse bad (not (length line.1 == 2))) _ n e in
    let b2 = bind_ok (refuse bad (not (bytes_eq (word_at line.1 0) (codes "count")))) _ n b1.2 in
    let b3 = bind_ok (need bad (count_of (word_at line.1 1))) _ n b2.2 in
    let b4 = bind_ok (refuse bad (b3.0 == 0 || nat_lt MOST_LEVELS b3.0)) _ n b3.2 in
    let is : n ≡ b3.0 = let last = b4.2 in cc in
    rw is (some_upto b3.0 MOST_LEVELS (refuse_ok bad (b3.0 == 0 || nat_lt MOST_LEVELS b3.0) b4.0 b4.1))

pub not_false : (b : Bool) → not b ≡ false → b ≡ true
not_false true h = refl
not_false false h = absurd cc

append-map : (put : List (ℕ × ℕ)) (p : ℕ × ℕ) → map (λ (q : ℕ × ℕ). q.0) (put ++ p ∷ []) ≡ map (λ (q : ℕ × ℕ). q.0) put ++ p.0 ∷ []
append-map [] p = refl
append-map (q ∷ put) p = ap (λ (ns : List ℕ). q.0 ∷ ns) (append-map put p)

pub any-map : {X Y : Type 0} (p : Y → Bool) (f : X → Y) (xs : List X) → list_any p (map f xs) ≡ list_any (λ x. p (f x)) xs
any-map p f [] = refl
any-map p f (x ∷ xs) = ap (λ (more : Bool). p (f x) || more) (any-map p f xs)

abbrev done : Levels → Result Levels LevelsFault
done levels = Ok levels

done_is : (levels more : Levels) → done levels ≡ done more → more ≡ levels
done_is levels more e = cc

add_line-sound : (standing : List Numbered) (levels : Levels) (line : LevelsLine) (more : Levels) → AreLevelsOf standing levels → add_line standing levels line ≡ Ok more → AreLevelsOf standing more
unfolding add_line
add_line-sound standing levels line more are e =
    let b1 = bind_ok (placement levels.count line) _ more e in
    let p = b1.0 in
    let b2 = bind_ok (refuse (faults.Repeated line.0) (list_any (λ (q : ℕ × ℕ). nat_eq p.0 q.0) levels.put)) _ more b1.2 in
    let b3 = bind_ok (refuse (faults.UnknownStatement line.0) (not (list_any (λ (x : Numbered). nat_eq p.0 x.number) standing))) _ more b2.2 in
    let new = any-map (nat_eq p.0) (λ (q : ℕ × ℕ). q.0) levels.put ∙ refuse_ok (faults.Repeated line.0) _ b2.0 b2.1 in
    let stands = any-map (nat_eq p.0) (λ (x : Numbered). x.number) standing ∙ not_false _ (refuse_ok (faults.UnknownStatement line.0) _ b3.0 b3.1) in
    let within = placement-within levels.count line p b1.1 in
    let is : more ≡ record { count = levels.count; put = levels.put ++ p ∷ [] } = done_is (record { count = levels.count; put = levels.put ++ p ∷ [] }) more b3.2 in
    let here : AreLevelsOf standing (record { count = levels.count; put = levels.put ++ p ∷ [] }) = record {
      some = are.some;
      few = are.few;
      each_stands = all-append (λ (q : ℕ × ℕ). is_member nat_eq (numbers_in standing) q.0 ≡ true) levels.put (p ∷ []) are.each_stands (stands, tt);
      once = subst (IsDistinct nat_eq) (sym (append-map levels.put p)) (IsDistinct-push nat_eq_equiv (map (λ (q : ℕ × ℕ). q.0) levels.put) p.0 are.once new);
      each_within = all-append (λ (q : ℕ × ℕ). (1 ≤ q.1) × (q.1 ≤ levels.count)) levels.put (p ∷ []) are.each_within (within, tt);
    } in
    subst (AreLevelsOf standing) (sym is) here

if_ok : {A F : Type 0} (P : A → Type 0) (r : Result A F) → ((x : A) → r ≡ Ok x → P x) → IfOk r P
if_ok P (Ok x) each = each x refl
if_ok P (Err fault) each = tt

nothing_twice : IsDistinct nat_eq []
unfolding IsDistinct
nothing_twice = tt

counted-sound : (standing : List Numbered) (past : ℕ) (lines : List LevelsLine) → IfOk (counted_lines standing past lines) (AreLevelsOf standing)
counted-sound standing past [] = tt
counted-sound standing past (line ∷ lines) = keeps (AreLevelsOf standing) (level_count line) (λ n. read_all (add_line standing) (record { count = n; put = [] }) lines) (λ n e.
    let within = level_count-within line n e in
    read_all_keeps (AreLevelsOf standing) (add_line standing) (λ s l are. if_ok (AreLevelsOf standing) (add_line standing s l) (λ more is. add_line-sound standing s l more are is)) (record { count = n; put = [] }) lines
    (record { some = within.0; few = within.1; each_stands = tt; once = nothing_twice; each_within = tt }))

pub headed-sound : (standing : List Numbered) (past : ℕ) (lines : List LevelsLine) → IfOk (headed_lines standing past lines) (AreLevelsOf standing)
headed-sound standing past [] = tt
headed-sound standing past (line ∷ lines) = keeps (AreLevelsOf standing) (header line) (λ u. counted_lines standing past lines) (λ u e. counted-sound standing past lines)

pub of_ok : {A F : Type 0} (P : A → Type 0) (r : Result A F) (x : A) → IfOk r P → r ≡ Ok x → P x
of_ok P (Ok y) x h is = let same : y ≡ x = cc in subst P same h
of_ok P (Err fault) x h is = absurd cc

pub levels_of-sound : (standing : List Numbered) (bytes : List ℕ) (levels : Levels) → levels_of standing bytes ≡ Ok levels → AreLevelsOf standing levels
unfolding levels_of
levels_of-sound standing bytes levels e =
    let b1 = bind_ok (refuse faults.TooLong (nat_lt MOST_LEVELS_BYTES (length bytes))) _ levels e in
    let b2 = bind_ok (refuse faults.NotUtf8 (not (is_utf8 bytes))) _ levels b1.2 in
    of_ok (AreLevelsOf standing) (headed_lines standing (line_count bytes + 1) (numbered_lines bytes)) levels (headed-sound standing (line_count bytes + 1) (numbered_lines bytes)) b2.2

pub gives_sound : (standing : List Numbered) (bytes : List ℕ) (r : Result Levels LevelsFault) → Gives (λ (levels : Levels). levels) levels_fault r (levels_of standing bytes) → IfOk r (AreLevelsOf standing)
gives_sound standing bytes (Ok levels) is = levels_of-sound standing bytes levels is
gives_sound standing bytes (Err e) is = tt
