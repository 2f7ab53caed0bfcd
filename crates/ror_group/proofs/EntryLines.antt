-- The line that names a pair and the line of a group's words, both ways, and how they begin.
use Rattle.std.proofs.Common.{◌≡◌, ℕ, ◌<◌, ◌+◌, true, false, eqb, List, [], ◌∷◌, ◌++◌, length, drop, Some, Ok, refl, ap, subst, ◌∙◌, inl, inr}
use Rattle.std.specs.Prelude.{codes}
use Rattle.std.specs.List.{flat_map}
use Rattle.std.proofs.lemmas.Bool.{cases_Bool, and_from, eqb-true}
use Rattle.ror_text.specs.Cursor.{Cursor, line_words}
use Rattle.ror_text.specs.Reading.{◌>>=◌}
use Rattle.ror_text.specs.SpacedLines.{is_word, are_words, line_text}
use Rattle.ror_text.proofs.CursorLemmas.{Spans, line_spans}
use Rattle.ror_text.proofs.ReadingLemmas.{bind_ok}
use Rattle.ror_table.specs.Table.{DecisionTable, IsTable, id_of}
use Rattle.ror_proof.specs.Names.{name_of}
use Rattle.ror_proof.specs.Questions.{alternative_at}
use Rattle.ror_proof.proofs.AnswerLemmas.{id_is_word}
use Rattle.ror_proof.proofs.QuestionLemmas.{alternative_again, alternative_sound}
use Rattle.ror_proof.specs.Text.{answer_text}
use Rattle.ror_proof.specs.Reading.{begins_part}
use Rattle.ror_proof.specs.Words.{after_word, name_at, no_more}
use Rattle.ror_proof.proofs.WordLemmas.{after_word_again, after_word_sound, no_more_sound, name_again, name_sound, done, ok_is}
use Rattle.ror_report.proofs.AnswerRuns.{EndsAnswers}
use Rattle.ror_report.proofs.LineForms.{line_reads_back, line_is_read, some_bytes}
use Rattle.ror_group.specs.declared.entry.Entry.{Entry}
use Rattle.ror_group.specs.declared.quartet.Quartet.{Quartet}
use Rattle.ror_group.specs.declared.quartet.Word4.{Word4}
use Rattle.ror_group.specs.declared.quartet.Word4.TheVariants as words
use Rattle.ror_group.specs.Reading.{pair_words, pair_line, quartet_words, quartet_line, ends_answers}
use Rattle.ror_group.specs.Text.{group_word, group_words, pair_text, group_text, entry_text}

-- ---- the line that names the pair

pair_words_again : (t : DecisionTable) (place a b : ℕ) → IsTable t → a < length t.alternatives → b < length t.alternatives → pair_words t place (codes "pair" ∷ id_of t a ∷ id_of t b ∷ []) ≡ Ok (a, b)
unfolding pair_words
pair_words_again t place a b table first second =
    rw (after_word_again place (codes "pair") (id_of t a ∷ id_of t b ∷ []), alternative_again t place a (id_of t b ∷ []) table first, alternative_again t place b [] table second) refl

pub pair_again : (t : DecisionTable) (place a b : ℕ) (rest : List ℕ) → IsTable t → a < length t.alternatives → b < length t.alternatives
    → pair_line t (record { place = place; rest = pair_text t a b ++ rest }) ≡ Ok ((a, b), record { place = place + length (pair_text t a b); rest = rest })
pair_again t place a b rest table first second =
    let are : are_words (codes "pair" ∷ id_of t a ∷ id_of t b ∷ []) ≡ true = and_from (is_word (codes "pair")) _ refl (and_from _ _ (id_is_word t a table first) (and_from _ _ (id_is_word t b table second) refl)) in
    line_reads_back (pair_words t) (a, b) place (codes "pair") (id_of t a ∷ id_of t b ∷ []) rest are (pair_words_again t place a b table first second)

record IsReadPair (t : DecisionTable) (ws : List (List ℕ)) (x : ℕ × ℕ) : Type 0 where
  is : ws ≡ codes "pair" ∷ id_of t x.0 ∷ id_of t x.1 ∷ []
  first : x.0 < length t.alternatives
  second : x.1 < length t.alternatives

pair_words_sound : (t : DecisionTable) (place : ℕ) (ws : List (List ℕ)) (x : ℕ × ℕ) → pair_words t place ws ≡ Ok x → IsReadPair t ws x
unfolding pair_words
pair_words_sound t place ws x e =
    let last = λ (m : ℕ) (second : ℕ × List (List ℕ)). no_more place second.1 >>= λ _. done (m, second.0) in
    let a = bind_ok (after_word place (codes "pair") ws) (λ more. alternative_at t place more >>= λ first. alternative_at t place first.1 >>= λ second. last first.0 second) x e in
    let b = bind_ok (alternative_at t place a.0) (λ first. alternative_at t place first.1 >>= λ second. last first.0 second) x a.2 in
    let d = bind_ok (alternative_at t place b.0.1) (λ second. last b.0.0 second) x b.2 in
    let f = bind_ok (no_more place d.0.1) (λ _. done (b.0.0, d.0.0)) x d.2 in
    let first = alternative_sound t place a.0 b.0 b.1 in
    let second = alternative_sound t place b.0.1 d.0 d.1 in
    let third : d.0.1 ≡ [] = no_more_sound place d.0.1 f.0 f.1 in
    let is : ws ≡ codes "pair" ∷ id_of t b.0.0 ∷ id_of t d.0.0 ∷ [] =
    after_word_sound place (codes "pair") ws a.0 a.1
    ∙ ap (λ (more : List (List ℕ)). codes "pair" ∷ more) first.0
    ∙ ap (λ (more : List (List ℕ)). codes "pair" ∷ id_of t b.0.0 ∷ more) second.0
    ∙ ap (λ (more : List (List ℕ)). codes "pair" ∷ id_of t b.0.0 ∷ id_of t d.0.0 ∷ more) third in
    subst (IsReadPair t ws) (ok_is (b.0.0, d.0.0) x f.2) (record { is = is; first = first.1; second = second.1 })

pub record IsPairLine (t : DecisionTable) (c : Cursor) (x : ℕ × ℕ) (after : Cursor) : Type 0 where
  pub spans : Spans c (pair_text t x.0 x.1) after
  pub first : x.0 < length t.alternatives
  pub second : x.1 < length t.alternatives

pub pair_sound : (t : DecisionTable) (c : Cursor) (x : (ℕ × ℕ) × Cursor) → pair_line t c ≡ Ok x → IsPairLine t c x.0 x.1
pair_sound t c x e =
    let line = line_is_read c (pair_words t c.place (line_words c)) x e in
    let read = pair_words_sound t c.place (line_words c) x.0 line.0 in
    record {
      spans = line_spans c x.1 (codes "pair" ∷ id_of t x.0.0 ∷ id_of t x.0.1 ∷ []) read.is line.1;
      first = read.first;
      second = read.second;
    }

-- ---- the line of the words

word_found : (word : Word4) → name_of group_word group_words (group_word word) ≡ Some word
word_found words.Yes = refl
word_found words.No = refl
word_found words.Contradiction = refl
word_found words.Wide = refl

word_is_word : (word : Word4) → is_word (group_word word) ≡ true
word_is_word words.Yes = refl
word_is_word words.No = refl
word_is_word words.Contradiction = refl
word_is_word words.Wide = refl

abbrev spelt : Quartet → List (List ℕ)
spelt q =
    group_word q.necessary_for_every
    ∷ group_word q.necessary_for_some
    ∷ group_word q.possible_for_every
    ∷ group_word q.possible_for_some
    ∷ []

quartet_words_again : (place : ℕ) (q : Quartet) → quartet_words place (codes "group" ∷ spelt q) ≡ Ok q
unfolding quartet_words
quartet_words_again place q =
    rw (
      after_word_again place (codes "group") (spelt q),
      name_again group_word group_words place q.necessary_for_every (group_word q.necessary_for_some ∷ group_word q.possible_for_every ∷ group_word q.possible_for_some ∷ []) (word_found q.necessary_for_every),
      name_again group_word group_words place q.necessary_for_some (group_word q.possible_for_every ∷ group_word q.possible_for_some ∷ []) (word_found q.necessary_for_some),
      name_again group_word group_words place q.possible_for_every (group_word q.possible_for_some ∷ []) (word_found q.possible_for_every),
      name_again group_word group_words place q.possible_for_some [] (word_found q.possible_for_some),
    ) refl

pub quartet_again : (place : ℕ) (q : Quartet) (rest : List ℕ) → quartet_line (record { place = place; rest = group_text q ++ rest }) ≡ Ok (q, record { place = place + length (group_text q); rest = rest })
quartet_again place q rest =
    let are : are_words (codes "group" ∷ spelt q) ≡ true =
    and_from (is_word (codes "group")) _ refl (and_from _ _ (word_is_word q.necessary_for_every) (and_from _ _ (word_is_word q.necessary_for_some) (and_from _ _ (word_is_word q.possible_for_every) (and_from _ _ (word_is_word q.possible_for_some) refl)))) in
    line_reads_back quartet_words q place (codes "group") (spelt q) rest are (quartet_words_again place q)

abbrev made : Word4 → Word4 → Word4 → Word4 → Quartet
made x y z w = record { necessary_for_every = x; necessary_for_some = y; possible_for_every = z; possible_for_some = w }

quartet_words_sound : (place : ℕ) (ws : List (List ℕ)) (q : Quartet) → quartet_words place ws ≡ Ok q → ws ≡ codes "group" ∷ spelt q
unfolding quartet_words
quartet_words_sound place ws q e =
    let last = λ (x y z : Word4) (four : Word4 × List (List ℕ)). no_more place four.1 >>= λ _. done (made x y z four.0) in
    let read = name_at group_word group_words place in
    let a = bind_ok (after_word place (codes "group") ws) (λ more. read more >>= λ one. read one.1 >>= λ two. read two.1 >>= λ three. read three.1 >>= λ four. last one.0 two.0 three.0 four) q e in
    let b = bind_ok (read a.0) (λ one. read one.1 >>= λ two. read two.1 >>= λ three. read three.1 >>= λ four. last one.0 two.0 three.0 four) q a.2 in
    let d = bind_ok (read b.0.1) (λ two. read two.1 >>= λ three. read three.1 >>= λ four. last b.0.0 two.0 three.0 four) q b.2 in
    let f = bind_ok (read d.0.1) (λ three. read three.1 >>= λ four. last b.0.0 d.0.0 three.0 four) q d.2 in
    let g = bind_ok (read f.0.1) (λ four. last b.0.0 d.0.0 f.0.0 four) q f.2 in
    let h = bind_ok (no_more place g.0.1) (λ _. done (made b.0.0 d.0.0 f.0.0 g.0.0)) q g.2 in
    let one = name_sound group_word group_words place a.0 b.0 b.1 in
    let two = name_sound group_word group_words place b.0.1 d.0 d.1 in
    let three = name_sound group_word group_words place d.0.1 f.0 f.1 in
    let four = name_sound group_word group_words place f.0.1 g.0 g.1 in
    let end : g.0.1 ≡ [] = no_more_sound place g.0.1 h.0 h.1 in
    let is : ws ≡ codes "group" ∷ spelt (made b.0.0 d.0.0 f.0.0 g.0.0) =
    after_word_sound place (codes "group") ws a.0 a.1
    ∙ ap (λ (more : List (List ℕ)). codes "group" ∷ more) one
    ∙ ap (λ (more : List (List ℕ)). codes "group" ∷ group_word b.0.0 ∷ more) two
    ∙ ap (λ (more : List (List ℕ)). codes "group" ∷ group_word b.0.0 ∷ group_word d.0.0 ∷ more) three
    ∙ ap (λ (more : List (List ℕ)). codes "group" ∷ group_word b.0.0 ∷ group_word d.0.0 ∷ group_word f.0.0 ∷ more) four
    ∙ ap (λ (more : List (List ℕ)). codes "group" ∷ group_word b.0.0 ∷ group_word d.0.0 ∷ group_word f.0.0 ∷ group_word g.0.0 ∷ more) end in
    subst (λ (x : Quartet). ws ≡ codes "group" ∷ spelt x) (ok_is (made b.0.0 d.0.0 f.0.0 g.0.0) q h.2) is

pub quartet_sound : (c : Cursor) (x : Quartet × Cursor) → quartet_line c ≡ Ok x → Spans c (group_text x.0) x.1
quartet_sound c x e =
    let line = line_is_read c (quartet_words c.place (line_words c)) x e in
    line_spans c x.1 (codes "group" ∷ spelt x.0) (quartet_words_sound c.place (line_words c) x.0 line.0) line.1

-- ---- how the pieces begin

pair_begins : (t : DecisionTable) (a b : ℕ) → (more : List ℕ) × (pair_text t a b ≡ codes "pair " ++ more)
unfolding line_text
pair_begins t a b = (drop 5 (pair_text t a b), refl)

pub entry_begins : (t : DecisionTable) (x : Entry) → (more : List ℕ) × (entry_text t x ≡ codes "pair " ++ more)
unfolding entry_text
entry_begins t x =
    let head = pair_begins t x.first x.second in
    let more = flat_map (answer_text t) x.answers ++ group_text x.quartet in
    (head.0 ++ more, ap (λ (l : List ℕ). l ++ more) head.1)

group_begins : (q : Quartet) → (more : List ℕ) × (group_text q ≡ codes "group " ++ more)
unfolding line_text
group_begins q = (drop 6 (group_text q), refl)

ends_at_begun : (more : List ℕ) → ends_answers (codes "group " ++ more) ≡ true
ends_at_begun more = rw (some_bytes 103 (codes "roup " ++ more)) refl

pub ends_at_group : (q : Quartet) (rest : List ℕ) → ends_answers (group_text q ++ rest) ≡ true
ends_at_group q rest =
    let begins = group_begins q in
    ap (λ (l : List ℕ). ends_answers (l ++ rest)) begins.1 ∙ ends_at_begun (begins.0 ++ rest)

goes_on_at_answer : (more : List ℕ) → ends_answers (codes "answer " ++ more) ≡ false
goes_on_at_answer more = rw (some_bytes 97 (codes "nswer " ++ more)) refl

-- what ends the answers is no part
ends_no_part : (rest : List ℕ) → ends_answers rest ≡ true → begins_part rest ≡ false
ends_no_part [] ends = refl
ends_no_part (b ∷ bs) ends =
    elim (cases_Bool (eqb 112 b)) [
      | inl hit ↦ absurd (let no = rw (← (eqb-true 112 b hit), some_bytes 112 bs) at ends in cc)
      | inr miss ↦ rw miss refl
    ]

pub entry_ends : EndsAnswers ends_answers
entry_ends = record { goes_on = goes_on_at_answer; no_part = ends_no_part; at_end = refl }
