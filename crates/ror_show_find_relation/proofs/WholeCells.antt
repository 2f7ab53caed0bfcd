-- The answers to both questions on each ordered pair stand where the cells look for them.
use Rattle.std.proofs.Common.{◌≡◌, ◌≢◌, inl, inr, ℕ, zero, suc, ◌+◌, ◌-◌, ◌*◌, ◌<◌, ◌≤◌, ◌++◌, Bool, true, false, ◌||◌, List, [], ◌∷◌, length, map, Option, Some, None, refl, sym, ap, subst, ◌∙◌, arith}
use Rattle.std.specs.Prelude.{◌==◌, nat_lt, slice_get, if◌then◌else◌}
use Rattle.std.specs.List.{AllByRecursion, flat_map, range_with_len}
use Rattle.std.specs.Option.{option_map}
use Rattle.std.proofs.lemmas.Bool.{cases_lt, eq-eqb, eqb-true, eqb-false, le-ltb, lt-ltb}
use Rattle.std.proofs.lemmas.Option.{slice_get-map}
use Rattle.ror_text.proofs.Everywhere.{all_at}
use Rattle.ror_statement.specs.declared.question.Question.{Question}
use Rattle.ror_statement.specs.declared.question.Question.TheVariants.{Necessary, Possible}
use Rattle.ror_proof.specs.declared.answer.Answer.{Answer}
use Rattle.ror_proof.specs.declared.answer.Verdict.{Verdict}
use Rattle.ror_proof.specs.declared.answer.Verdict.TheVariants as verdicts
use Rattle.ror_check.specs.Proof.{is_wide}
use Rattle.ror_relation.specs.Pairs.{pair_of_different, pairs_from, ordered_pairs, pair_questions, relation_questions}
use Rattle.ror_relation.proofs.PairLemmas.{others_of}
use Rattle.ror_show_ground.specs.declared.said.Said.{Said}
use Rattle.ror_show_ground.specs.declared.said.Said.TheVariants.{Yes, No, Contradiction, Nothing}
use Rattle.ror_show_ground.specs.Said.{said_by}
use Rattle.ror_show_find_relation.specs.declared.cell.Cell.TheVariants as cells
use Rattle.ror_show_find_relation.specs.declared.pair.PairSaid.{PairSaid}
use Rattle.ror_show_find_relation.specs.Cells.{is_contradiction, has_contradiction, cell_of_necessary, cell_of}
use Rattle.ror_show_find_relation.specs.Said.{if_necessary, if_possible, necessary_by, possible_by, place_of_pair, said_of_pair}
use Rattle.ror_show_find_relation.specs.WholeLaws.{CellsAreWhole}

-- ---- the place of a pair

in_front : {X : Type 0} (xs ys : List X) (k : ℕ) (x : X) → slice_get xs k ≡ Some x → slice_get (xs ++ ys) k ≡ Some x
in_front {X} [] ys k x there = absurd cc
in_front {X} (y ∷ xs) ys zero x there = there
in_front {X} (y ∷ xs) ys (suc k) x there = in_front xs ys k x there

behind : {X : Type 0} (xs ys : List X) (k : ℕ) → slice_get (xs ++ ys) (length xs + k) ≡ slice_get ys k
behind {X} [] ys k = let same : 0 + k ≡ k = omega arith in ap (slice_get ys) same
behind {X} (x ∷ xs) ys k = let next : suc (length xs) + k ≡ suc (length xs + k) = omega arith in ap (slice_get (x ∷ xs ++ ys)) next ∙ behind xs ys k

-- among the pairs of one alternative with others from a first one on, where none as far as this one is the same
plain : (a first count b k : ℕ) → b < first + count → k + first ≡ b → ((c : ℕ) → first ≤ c → c ≤ b → a ≢ c) → slice_get (flat_map (pair_of_different a) (range_with_len first count)) k ≡ Some (a, b)
plain a first zero b k below is differ = absurd (omega (arith, below, is))
plain a first (suc count) b k below is differ = by (a == first) refl k is (λ j at. plain a (first + 1) count b j (omega (arith, below)) (omega (arith, at)) (λ c from to. differ c (omega (arith, from)) to))
  where
    by : (same : Bool) → (a == first) ≡ same → (j : ℕ) → j + first ≡ b → ((i : ℕ) → suc i + first ≡ b → slice_get (flat_map (pair_of_different a) (range_with_len (first + 1) count)) i ≡ Some (a, b)) → slice_get ((if same then [] else (a, first) ∷ []) ++ flat_map (pair_of_different a) (range_with_len (first + 1) count)) j ≡ Some (a, b)
    by true same j at rest = absurd (differ first (omega arith) (omega (arith, at)) (eqb-true a first same))
    by false same zero at rest = let here : first ≡ b = omega (arith, at) in let pair : ℕ → ℕ × ℕ = λ c. (a, c) in ap (λ (c : ℕ). Some (pair c)) here
    by false same (suc j) at rest = rest j at

-- behind the alternative itself
past : (a first count b k : ℕ) → first ≤ a → a < b → b < first + count → k + first + 1 ≡ b → slice_get (flat_map (pair_of_different a) (range_with_len first count)) k ≡ Some (a, b)
past a first zero b k from after below is = absurd (omega (arith, from, after, below))
past a first (suc count) b k from after below is = by (a == first) refl k is (λ other j at. past a (first + 1) count b j (omega (arith, from, other)) after (omega (arith, below)) (omega (arith, at)))
  where
    by : (same : Bool) → (a == first) ≡ same → (j : ℕ) → j + first + 1 ≡ b → (a ≢ first → (i : ℕ) → suc i + first + 1 ≡ b → slice_get (flat_map (pair_of_different a) (range_with_len (first + 1) count)) i ≡ Some (a, b)) → slice_get ((if same then [] else (a, first) ∷ []) ++ flat_map (pair_of_different a) (range_with_len (first + 1) count)) j ≡ Some (a, b)
    by true same j at rest =
        let here = eqb-true a first same in
        plain a (first + 1) count b j (omega (arith, below)) (omega (arith, at)) (λ c low high equal. omega (arith, here, low, equal))
    by false same zero at rest = let other = eqb-false a first same in absurd (omega (arith, at, from, after, other))
    by false same (suc j) at rest = rest (eqb-false a first same) j at

-- the place of the second among the others
abbrev column_of : ℕ → ℕ → ℕ
column_of a b = if nat_lt a b then b - 1 else b

in_row : (n a b : ℕ) → a < n → b < n → a ≢ b → slice_get (pairs_from n a) (column_of a b) ≡ Some (a, b)
in_row n a b row column differ = elim (cases_lt a b) [
  | inl after ↦
      let is : column_of a b ≡ b - 1 = ap (λ (t : Bool). if t then b - 1 else b) (lt-ltb a b after) in
      ap (slice_get (pairs_from n a)) is ∙ past a 0 n b (b - 1) (omega arith) after (omega (arith, column)) (omega (arith, after))
  | inr before ↦
      let is : column_of a b ≡ b = ap (λ (t : Bool). if t then b - 1 else b) (le-ltb a b before) in
      ap (slice_get (pairs_from n a)) is ∙ plain a 0 n b b (omega (arith, column)) (omega arith) (λ c low high equal. differ (omega (arith, before, high, equal)))
]

in_rows : (n first count d k : ℕ) (p : ℕ × ℕ) → d < count → first + count ≤ n → slice_get (pairs_from n (first + d)) k ≡ Some p → slice_get (flat_map (pairs_from n) (range_with_len first count)) (d * (n - 1) + k) ≡ Some p
in_rows n first zero d k p within few there = absurd (omega (arith, within))
in_rows n first (suc count) zero k p within few there =
    let same : first + 0 ≡ first = omega arith in
    let index : 0 * (n - 1) + k ≡ k = omega arith in
    let rest = flat_map (pairs_from n) (range_with_len (first + 1) count) in
    ap (slice_get (pairs_from n first ++ rest)) index ∙ in_front (pairs_from n first) rest k p (subst (λ (a : ℕ). slice_get (pairs_from n a) k ≡ Some p) same there)
in_rows n first (suc count) (suc d) k p within few there =
    let same : first + suc d ≡ first + 1 + d = omega arith in
    let long = others_of first 0 n (omega arith) (omega (arith, few)) in
    let index : suc d * (n - 1) + k ≡ length (pairs_from n first) + (d * (n - 1) + k) = omega (arith, long) in
    let rest = flat_map (pairs_from n) (range_with_len (first + 1) count) in
    ap (slice_get (pairs_from n first ++ rest)) index ∙ behind (pairs_from n first) rest (d * (n - 1) + k)
    ∙ in_rows n (first + 1) count d k p (omega (arith, within)) (omega (arith, few)) (subst (λ (a : ℕ). slice_get (pairs_from n a) k ≡ Some p) same there)

pair_at : (n a b : ℕ) → a < n → b < n → a ≢ b → slice_get (ordered_pairs n) (place_of_pair n a b) ≡ Some (a, b)
pair_at n a b row column differ =
    let same : a ≡ 0 + a = omega arith in
    in_rows n 0 n a (column_of a b) (a, b) row (omega arith)
    (subst (λ (c : ℕ). slice_get (pairs_from n c) (column_of a b) ≡ Some (a, b)) same (in_row n a b row column differ))

-- ---- the questions there

pub record AreAsked (qs : List Question) (k : ℕ) (p : ℕ × ℕ) : Type 0 where
  pub necessary : slice_get qs (2 * k) ≡ Some (Necessary p.0 p.1)
  pub possible : slice_get qs (2 * k + 1) ≡ Some (Possible p.0 p.1)

pub behind_two : (x y : Question) (rest : List Question) (n m : ℕ) (o : Option Question) → n ≡ suc (suc m) → slice_get rest m ≡ o → slice_get (x ∷ y ∷ rest) n ≡ o
behind_two x y rest n m o is at = ap (slice_get (x ∷ y ∷ rest)) is ∙ at

asked_at : (ps : List (ℕ × ℕ)) (k : ℕ) (p : ℕ × ℕ) → slice_get ps k ≡ Some p → AreAsked (flat_map pair_questions ps) k p
asked_at [] k p there = absurd cc
asked_at (q ∷ ps) zero p there =
    let same : q ≡ p = cc in
    record { necessary = ap (λ (x : ℕ × ℕ). Some (Necessary x.0 x.1)) same; possible = ap (λ (x : ℕ × ℕ). Some (Possible x.0 x.1)) same }
asked_at (q ∷ ps) (suc k) p there =
    let rest = flat_map pair_questions ps in
    let at = asked_at ps k p there in
    record {
      necessary = behind_two (Necessary q.0 q.1) (Possible q.0 q.1) rest (2 * suc k) (2 * k) (Some (Necessary p.0 p.1)) (omega arith) at.necessary;
      possible = behind_two (Necessary q.0 q.1) (Possible q.0 q.1) rest (2 * suc k + 1) (2 * k + 1) (Some (Possible p.0 p.1)) (omega arith) at.possible;
    }

-- ---- the answers there

pub record IsAnswerAt (xs : List Answer) (k : ℕ) (q : Question) : Type 0 where
  pub answer : Answer
  pub at : slice_get xs k ≡ Some answer
  pub question : answer.question ≡ q

pub answer_at : (xs : List Answer) (k : ℕ) (q : Question) → slice_get (map (λ (x : Answer). x.question) xs) k ≡ Some q → IsAnswerAt xs k q
answer_at xs k q is = by (slice_get xs k) refl
  where
    by : (o : Option Answer) → slice_get xs k ≡ o → IsAnswerAt xs k q
    by None none = absurd (let empty : None ≡ Some q = sym (slice_get-map (λ (x : Answer). x.question) xs k ∙ ap (option_map (λ (x : Answer). x.question)) none) ∙ is in cc)
    by (Some x) some = let same : Some x.question ≡ Some q = sym (slice_get-map (λ (x : Answer). x.question) xs k ∙ ap (option_map (λ (x : Answer). x.question)) some) ∙ is in record { answer = x; at = some; question = cc }

-- ---- what they say

pub says_something : (v : Verdict) → is_wide v ≡ false → said_by v ≢ Nothing
says_something (verdicts.Yes proof) narrow = λ e. absurd cc
says_something (verdicts.No proof) narrow = λ e. absurd cc
says_something (verdicts.Contradiction proof) narrow = λ e. absurd cc
says_something (verdicts.Wide system note) narrow = absurd cc

necessary_says : (a b : ℕ) (s : Said) → if_necessary a b (Necessary a b) s ≡ s
necessary_says a b s = rw (eq-eqb a a refl, eq-eqb b b refl) refl

possible_says : (a b : ℕ) (s : Said) → if_possible a b (Possible a b) s ≡ s
possible_says a b s = rw (eq-eqb a a refl, eq-eqb b b refl) refl

says_necessary : (xs : List Answer) (a b k : ℕ) → AllByRecursion (λ x. is_wide x.verdict ≡ false) xs → IsAnswerAt xs k (Necessary a b) → necessary_by a b (slice_get xs k) ≢ Nothing
says_necessary xs a b k narrow is =
    let same : necessary_by a b (slice_get xs k) ≡ said_by is.answer.verdict = ap (necessary_by a b) is.at ∙ ap (λ (q : Question). if_necessary a b q (said_by is.answer.verdict)) is.question ∙ necessary_says a b (said_by is.answer.verdict) in
    λ e. says_something is.answer.verdict (all_at (λ (x : Answer). is_wide x.verdict ≡ false) xs k is.answer narrow is.at) (sym same ∙ e)

says_possible : (xs : List Answer) (a b k : ℕ) → AllByRecursion (λ x. is_wide x.verdict ≡ false) xs → IsAnswerAt xs k (Possible a b) → possible_by a b (slice_get xs k) ≢ Nothing
says_possible xs a b k narrow is =
    let same : possible_by a b (slice_get xs k) ≡ said_by is.answer.verdict = ap (possible_by a b) is.at ∙ ap (λ (q : Question). if_possible a b q (said_by is.answer.verdict)) is.question ∙ possible_says a b (said_by is.answer.verdict) in
    λ e. says_something is.answer.verdict (all_at (λ (x : Answer). is_wide x.verdict ≡ false) xs k is.answer narrow is.at) (sym same ∙ e)

-- something is said of both
record IsSaid (s : PairSaid) : Type 0 where
  pub necessary : s.necessary ≢ Nothing
  pub possible : s.possible ≢ Nothing

said_there : (n : ℕ) (xs : List Answer) (a b : ℕ) → map (λ x. x.question) xs ≡ relation_questions n → AllByRecursion (λ x. is_wide x.verdict ≡ false) xs → a < n → b < n → a ≢ b → IsSaid (said_of_pair n xs a b)
said_there n xs a b asked narrow row column differ =
    let k = place_of_pair n a b in
    let there = asked_at (ordered_pairs n) k (a, b) (pair_at n a b row column differ) in
    record {
      necessary = says_necessary xs a b (2 * k) narrow (answer_at xs (2 * k) (Necessary a b) (ap (λ (qs : List Question). slice_get qs (2 * k)) asked ∙ there.necessary));
      possible = says_possible xs a b (2 * k + 1) narrow (answer_at xs (2 * k + 1) (Possible a b) (ap (λ (qs : List Question). slice_get qs (2 * k + 1)) asked ∙ there.possible));
    }

-- ---- the cell

abbrev IsSettled : Said → Type 0
IsSettled Yes = Unit {0}
IsSettled No = Unit {0}
IsSettled _ = ⊥

settled : (s : Said) → s ≢ Nothing → is_contradiction s ≡ false → IsSettled s
settled Yes some narrow = tt
settled No some narrow = tt
settled Contradiction some narrow = absurd cc
settled Nothing some narrow = absurd (some refl)

neither : (p q : Bool) → (p || q) ≡ false → (p ≡ false) × (q ≡ false)
neither true q is = absurd cc
neither false q is = (refl, is)

known_by : (tn tp bn bp : Said) → IsSettled tn → IsSettled tp → IsSettled bn → IsSettled bp → cell_of_necessary (record { necessary = tn; possible = tp }) (record { necessary = bn; possible = bp }) tn bn ≢ cells.Unknown
known_by Yes tp Yes bp a b c d = λ e. absurd cc
known_by No tp No bp a b c d = λ e. absurd cc
known_by Yes tp No Yes a b c d = λ e. absurd cc
known_by Yes tp No No a b c d = λ e. absurd cc
known_by No Yes Yes bp a b c d = λ e. absurd cc
known_by No No Yes bp a b c d = λ e. absurd cc
known_by Yes tp No Contradiction a b c d = absurd d
known_by Yes tp No Nothing a b c d = absurd d
known_by No Contradiction Yes bp a b c d = absurd b
known_by No Nothing Yes bp a b c d = absurd b
known_by Yes tp Contradiction bp a b c d = absurd c
known_by Yes tp Nothing bp a b c d = absurd c
known_by No tp Contradiction bp a b c d = absurd c
known_by No tp Nothing bp a b c d = absurd c
known_by Contradiction tp bn bp a b c d = absurd a
known_by Nothing tp bn bp a b c d = absurd a

cell_known : (there back : PairSaid) → IsSaid there → IsSaid back → cell_of there back ≢ cells.Unknown
cell_known there back here other = by (has_contradiction there || has_contradiction back) refl
  where
    by : (c : Bool) → (has_contradiction there || has_contradiction back) ≡ c → (if c then cells.Contradiction else cell_of_necessary there back there.necessary back.necessary) ≢ cells.Unknown
    by true is = λ e. absurd cc
    by false is =
        let both = neither (has_contradiction there) (has_contradiction back) is in
        let front = neither (is_contradiction there.necessary) (is_contradiction there.possible) both.0 in
        let rear = neither (is_contradiction back.necessary) (is_contradiction back.possible) both.1 in
        known_by there.necessary there.possible back.necessary back.possible (settled there.necessary here.necessary front.0) (settled there.possible here.possible front.1)
        (settled back.necessary other.necessary rear.0) (settled back.possible other.possible rear.1)

pub cells-whole : CellsAreWhole
cells-whole n xs a b asked narrow row column = by (a == b) refl
  where
    by : (same : Bool) → (a == b) ≡ same → (if same then cells.Itself else cell_of (said_of_pair n xs a b) (said_of_pair n xs b a)) ≢ cells.Unknown
    by true same = λ e. absurd cc
    by false same =
        let differ = eqb-false a b same in
        cell_known (said_of_pair n xs a b) (said_of_pair n xs b a) (said_there n xs a b asked narrow row column differ) (said_there n xs b a asked narrow column row (λ equal. differ (sym equal)))
