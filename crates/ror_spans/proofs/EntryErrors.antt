-- The fault of an entry is the one that is given.
use Rattle.std.proofs.Common.{◌≡◌, ℕ, ◌+◌, ◌≤◌, zero, suc, Bool, true, false, List, [], ◌∷◌, length, length-append, map, Result, Ok, Err, refl, sym, ap, subst, ◌∙◌, arith, inl, inr}
use Rattle.std.specs.Prelude.{codes}
use Rattle.std.proofs.lemmas.Bool.{cases_Bool, false≢true}
use Rattle.ror_text.specs.Cursor.{Cursor, line_words}
use Rattle.ror_text.specs.Reading.{◌>>=◌}
use Rattle.ror_text.proofs.ReadingLemmas.{bind_ok, bind_err}
use Rattle.ror_table.specs.Table.{DecisionTable, IsTable, id_of}
use Rattle.ror_proof.specs.declared.answer.Answer.{Answer}
use Rattle.ror_proof.specs.declared.read.ProofFault.{ProofFault}
use Rattle.ror_proof.specs.Expected.{Expected, IsLine}
use Rattle.ror_proof.specs.Expected.Expected.{the_word, one_of, an_id, a_small_number, the_end}
use Rattle.ror_proof.specs.Laws.{IsAnswerText}
use Rattle.ror_proof.specs.Questions.{alternative_at}
use Rattle.ror_proof.specs.Reading.{answer_at}
use Rattle.ror_proof.specs.Text.{answer_text}
use Rattle.ror_proof.specs.Words.{after_word, name_at, no_more, small_number_at}
use Rattle.ror_proof.proofs.AnswerLemmas.{answer_is_text, is_read_iff_text}
use Rattle.ror_proof.proofs.LineFaults.{ReadsLine, reads_line, answer_err, answer_fails, line_fails, line_goes, shorter}
use Rattle.ror_proof.proofs.QuestionFaults.{alternative_steps, name_steps, small_number_steps}
use Rattle.ror_proof.proofs.QuestionLemmas.{alternative_sound}
use Rattle.ror_proof.proofs.WordFaults.{Ends, no_fault, then_ends, word_then_ends, made_ends, end_ends}
use Rattle.ror_proof.proofs.WordLemmas.{name_sound, done, ok_is}
use Rattle.ror_report.proofs.FormFaults.{number_reads}
use Rattle.ror_report.proofs.LineForms.{line_is_read}
use Rattle.ror_confidence.specs.declared.span.LevelAnswer.{LevelAnswer}
use Rattle.ror_spans.specs.declared.entry.Entry.{Entry}
use Rattle.ror_spans.specs.declared.entry.Entry.TheVariants as entries
use Rattle.ror_spans.specs.declared.entry.Form.{Form}
use Rattle.ror_spans.specs.declared.entry.Form.TheVariants as forms
use Rattle.ror_spans.specs.declared.read.Said.{Said}
use Rattle.ror_spans.specs.declared.read.Said.TheVariants as said
use Rattle.ror_spans.specs.declared.read.Head.{Head}
use Rattle.ror_spans.specs.EntryFaults.{says_known, expected_said, expected_pair, expected_level, IsFaultOfLevels, IsFaultOfEntry}
use Rattle.ror_spans.specs.EntryFaults.IsFaultOfLevels.{this_level, this_answer, later_level}
use Rattle.ror_spans.specs.EntryFaults.IsFaultOfEntry.{in_pair, in_levels, in_answer}
use Rattle.ror_spans.specs.Reading.{said_words, pair_words, pair_line, level_line, level_answer_at, begins_level, level_answers_at, body_at, entry_at}
use Rattle.ror_spans.specs.Text.{form_word, form_list}
use Rattle.ror_spans.proofs.LevelLoops.{answer_step, no_answers, goes_on_some}
use Rattle.ror_spans.proofs.EntryLines.{form_of, spelt_said, pair_words_sound}
use Rattle.ror_spans.proofs.EntryLemmas.{level_answer_step}

-- ---- the line of a pair

abbrev is_known : Form → Bool
is_known forms.Known = true
is_known forms.Wide = false

abbrev known_ended : ℕ → ℕ → ℕ → ℕ × List (List ℕ) → Result Said ProofFault
known_ended place c n p = no_more place p.1 >>= λ _. done (said.Known c n p.0)

abbrev after_necessary : ℕ → ℕ → ℕ × List (List ℕ) → Result Said ProofFault
after_necessary place c n = after_word place (codes "possible") n.1 >>= λ rest. small_number_at place rest >>= λ p. known_ended place c n.0 p

abbrev after_contradictory : ℕ → ℕ × List (List ℕ) → Result Said ProofFault
after_contradictory place c = after_word place (codes "necessary") c.1 >>= λ more. small_number_at place more >>= λ n. after_necessary place c.0 n

abbrev wide_ended : ℕ → ℕ × List (List ℕ) → Result Said ProofFault
wide_ended place level = no_more place level.1 >>= λ _. done (said.Wide level.0)

said_ends : (t : DecisionTable) (form : Form) (place : ℕ) (ws : List (List ℕ)) → Ends t place (said_words form place ws) (expected_said (is_known form)) ws
unfolding said_words
said_ends t forms.Known place ws =
    then_ends t place (small_number_at place ws) (after_contradictory place) (a_small_number ∷ []) (the_word (codes "necessary") ∷ a_small_number ∷ the_word (codes "possible") ∷ a_small_number ∷ the_end ∷ []) ws (small_number_steps t place ws)
    (λ c e. word_then_ends t place (codes "necessary") (λ more. small_number_at place more >>= λ n. after_necessary place c.0 n) (a_small_number ∷ the_word (codes "possible") ∷ a_small_number ∷ the_end ∷ []) c.1
    (λ more is. then_ends t place (small_number_at place more) (after_necessary place c.0) (a_small_number ∷ []) (the_word (codes "possible") ∷ a_small_number ∷ the_end ∷ []) more (small_number_steps t place more)
    (λ n e. word_then_ends t place (codes "possible") (λ rest. small_number_at place rest >>= λ p. known_ended place c.0 n.0 p) (a_small_number ∷ the_end ∷ []) n.1
    (λ rest is. then_ends t place (small_number_at place rest) (known_ended place c.0 n.0) (a_small_number ∷ []) (the_end ∷ []) rest (small_number_steps t place rest)
    (λ p e. end_ends t place (said.Known c.0 n.0 p.0) p.1)))))
said_ends t forms.Wide place ws =
    then_ends t place (small_number_at place ws) (wide_ended place) (a_small_number ∷ []) (the_end ∷ []) ws (small_number_steps t place ws)
    (λ level e. end_ends t place (said.Wide level.0) level.1)

known_of : (form : Form) (one two : List ℕ) (more : List (List ℕ)) → says_known (codes "pair" ∷ one ∷ two ∷ form_word form ∷ more) ≡ is_known form
known_of forms.Known one two more = refl
known_of forms.Wide one two more = refl

abbrev made : ℕ → ℕ → Said → Head
made a b s = record { first = a; second = b; said = s }

abbrev after_form : ℕ → ℕ → ℕ → Form × List (List ℕ) → Result Head ProofFault
after_form place a b form = said_words form.0 place form.1 >>= λ says. done (made a b says)

abbrev after_second : ℕ → ℕ → ℕ × List (List ℕ) → Result Head ProofFault
after_second place a second = name_at form_word form_list place second.1 >>= λ form. after_form place a second.0 form

abbrev after_first : DecisionTable → ℕ → ℕ × List (List ℕ) → Result Head ProofFault
after_first t place first = alternative_at t place first.1 >>= λ second. after_second place first.0 second

abbrev a_form : Expected
a_form = one_of (map form_word form_list)

pair_words_end : (t : DecisionTable) (place : ℕ) (ws : List (List ℕ)) → Ends t place (pair_words t place ws) (expected_pair ws) ws
unfolding pair_words
pair_words_end t place ws =
    let later = expected_said (says_known ws) in
    word_then_ends t place (codes "pair") (λ more. alternative_at t place more >>= λ first. after_first t place first) (an_id ∷ an_id ∷ a_form ∷ later) ws
    (λ more is. then_ends t place (alternative_at t place more) (after_first t place) (an_id ∷ []) (an_id ∷ a_form ∷ later) more (alternative_steps t place more)
    (λ first d. then_ends t place (alternative_at t place first.1) (after_second place first.0) (an_id ∷ []) (a_form ∷ later) first.1 (alternative_steps t place first.1)
    (λ second e. then_ends t place (name_at form_word form_list place second.1) (after_form place first.0 second.0) (a_form ∷ []) later second.1 (name_steps t place form_word form_list second.1)
    (λ form f.
    let whole : ws ≡ codes "pair" ∷ id_of t first.0 ∷ id_of t second.0 ∷ form_word form.0 ∷ form.1 =
    is
    ∙ ap (λ (l : List (List ℕ)). codes "pair" ∷ l) (alternative_sound t place more first d).0
    ∙ ap (λ (l : List (List ℕ)). codes "pair" ∷ id_of t first.0 ∷ l) (alternative_sound t place first.1 second e).0
    ∙ ap (λ (l : List (List ℕ)). codes "pair" ∷ id_of t first.0 ∷ id_of t second.0 ∷ l) (name_sound form_word form_list place second.1 form f) in
    let knows : is_known form.0 ≡ says_known ws = sym (ap says_known whole ∙ known_of form.0 (id_of t first.0) (id_of t second.0) form.1) in
    subst (λ (b : Bool). Ends t place (after_form place first.0 second.0 form) (expected_said b) form.1) knows
    (made_ends t place (said_words form.0 place form.1) (λ says. made first.0 second.0 says) (expected_said (is_known form.0)) form.1 (said_ends t form.0 place form.1))))))

pair_reads : (t : DecisionTable) (c : Cursor) → ReadsLine t expected_pair c (pair_line t c)
pair_reads t c = reads_line t expected_pair c (pair_words t c.place (line_words c)) (pair_words_end t c.place (line_words c))

-- the word after the ids tells which of the two was read
pair_knows : (t : DecisionTable) (c : Cursor) (x : Head × Cursor) → pair_line t c ≡ Ok x → says_known (line_words c) ≡ is_known (form_of x.0.said)
pair_knows t c x e =
    let line = line_is_read c (pair_words t c.place (line_words c)) x e in
    let read = pair_words_sound t c.place (line_words c) x.0 line.0 in
    ap says_known read.is ∙ known_of (form_of x.0.said) (id_of t x.0.first) (id_of t x.0.second) (spelt_said x.0.said)

-- ---- the line of a level, and the answer after it

level_reads : (t : DecisionTable) (c : Cursor) → ReadsLine t expected_level c (level_line c)
level_reads t c = number_reads t (codes "level") c

abbrev at_level : ℕ → Answer → LevelAnswer
at_level level x = record { level = level; answer = x }

abbrev answer_made : ℕ → Answer × Cursor → Result (LevelAnswer × Cursor) ProofFault
answer_made level answer = Ok (at_level level answer.0, answer.1)

-- what the line of a level and its answer are made of
record IsOpened (t : DecisionTable) (c : Cursor) (x : LevelAnswer) (after : Cursor) : Type 0 where
  answer : Cursor
  line : IsLine t expected_level c answer
  text : IsAnswerText t answer x.answer after

opened : (t : DecisionTable) (c : Cursor) (x : LevelAnswer × Cursor) → level_answer_at t c ≡ Ok x → IsOpened t c x.0 x.1
unfolding level_answer_at
opened t c x e =
    let a = bind_ok (level_line c) (λ level. answer_at t level.1 >>= λ answer. answer_made level.0 answer) x e in
    let b = bind_ok (answer_at t a.0.1) (λ answer. answer_made a.0.0 answer) x a.2 in
    subst (λ (y : LevelAnswer × Cursor). IsOpened t c y.0 y.1) (ok_is (at_level a.0.0 b.0.0, b.0.1) x b.2) (record { answer = a.0.1; line = (level_reads t c).ok a.0 a.1; text = answer_is_text t a.0.1 b.0.0 b.0.1 b.1 })

level_answer_err : (t : DecisionTable) (c : Cursor) (f : ProofFault) → begins_level c.rest ≡ true → level_answer_at t c ≡ Err f → IsFaultOfLevels t f c
unfolding level_answer_at
level_answer_err t c f more e =
    elim (bind_err (level_line c) (λ level. answer_at t level.1 >>= λ answer. answer_made level.0 answer) f e) [
      | inl here ↦ this_level c more ((level_reads t c).err f here)
      | inr a ↦
          elim (bind_err (answer_at t a.0.1) (λ answer. answer_made a.0.0 answer) f a.2) [
            | inl here ↦ this_answer c a.0.1 more ((level_reads t c).ok a.0 a.1) (answer_err t a.0.1 f here)
            | inr none ↦ absurd (no_fault _ f none.2)
          ]
    ]

level_fails : (t : DecisionTable) (c : Cursor) (f : ProofFault) → level_line c ≡ Err f → level_answer_at t c ≡ Err f
unfolding level_answer_at
level_fails t c f line = rw line refl

level_answer_fails : (t : DecisionTable) (c d : Cursor) (level : ℕ) (f : ProofFault) → level_line c ≡ Ok (level, d) → answer_at t d ≡ Err f → level_answer_at t c ≡ Err f
unfolding level_answer_at
level_answer_fails t c d level f line answer = rw (line, answer) refl

-- ---- the answers of a proof

abbrev one_more : LevelAnswer → List LevelAnswer × Cursor → Result (List LevelAnswer × Cursor) ProofFault
one_more x others = Ok (x ∷ others.0, others.1)

levels_err : (t : DecisionTable) (most : ℕ) (c : Cursor) (f : ProofFault) → level_answers_at t most c ≡ Err f → IsFaultOfLevels t f c
unfolding level_answers_at
levels_err t zero c f e = absurd (no_fault _ f e)
levels_err t (suc most) c f e =
    elim (cases_Bool (begins_level c.rest)) [
      | inl more ↦
          elim (bind_err (level_answer_at t c) (λ first. level_answers_at t most first.1 >>= λ others. one_more first.0 others) f (sym (answer_step t most c more) ∙ e)) [
            | inl here ↦ level_answer_err t c f more here
            | inr a ↦
                elim (bind_err (level_answers_at t most a.0.1) (λ others. one_more a.0.0 others) f a.2) [
                  | inl deeper ↦
                      let first = opened t c a.0 a.1 in
                      later_level c first.answer a.0.1 a.0.0.answer more first.line first.text (levels_err t most a.0.1 f deeper)
                  | inr none ↦ absurd (no_fault _ f none.2)
                ]
          ]
      | inr none ↦ absurd (no_fault _ f (sym (no_answers t (suc most) c none) ∙ e))
    ]

levels_fail : (t : DecisionTable) (most : ℕ) (c : Cursor) (f : ProofFault) → IsTable t → length c.rest ≤ most → IsFaultOfLevels t f c → level_answers_at t most c ≡ Err f
levels_fail t zero c f table room (this_level _ more fault) = let some = goes_on_some c.rest more in absurd (omega (arith, some, room))
levels_fail t zero c f table room (this_answer _ answer more line fault) = let some = goes_on_some c.rest more in absurd (omega (arith, some, room))
levels_fail t zero c f table room (later_level _ answer next x more line text fault) = let some = goes_on_some c.rest more in absurd (omega (arith, some, room))
levels_fail t (suc most) c f table room (this_level _ more fault) =
    answer_step t most c more ∙ rw (level_fails t c f (line_fails t expected_level c (level_line c) f (level_reads t c) fault)) refl
levels_fail t (suc most) c f table room (this_answer _ answer more line fault) =
    let goes = line_goes t expected_level c answer (level_line c) (level_reads t c) line in
    answer_step t most c more ∙ rw (level_answer_fails t c answer goes.0 f goes.1 (answer_fails t answer f fault)) refl
levels_fail t (suc most) c f table room (later_level _ answer next x more line text fault) =
    let goes = line_goes t expected_level c answer (level_line c) (level_reads t c) line in
    let read = level_answer_step t c answer next goes.0 x goes.1 ((is_read_iff_text t answer x next table).1 text) in
    let all : length answer.rest ≡ length (answer_text t x) + length next.rest = ap length text.text ∙ length-append (answer_text t x) next.rest in
    let rest = levels_fail t most next f table (omega (arith, all, shorter t expected_level c answer line, room)) fault in
    answer_step t most c more ∙ rw (read, rest) refl

-- ---- entries

abbrev known_made : ℕ → ℕ → ℕ → ℕ → ℕ → List LevelAnswer × Cursor → Result (Entry × Cursor) ProofFault
known_made a b c n p answers = Ok (entries.Known a b (record { contradictory = c; necessary = n; possible = p; proof = answers.0 }), answers.1)

abbrev wide_made : ℕ → ℕ → ℕ → Answer × Cursor → Result (Entry × Cursor) ProofFault
wide_made a b level answer = Ok (entries.Wide a b (at_level level answer.0), answer.1)

body_err : (t : DecisionTable) (c d : Cursor) (a b : ℕ) (s : Said) (f : ProofFault) → IsLine t expected_pair c d → says_known (line_words c) ≡ is_known (form_of s) → body_at t a b s d ≡ Err f → IsFaultOfEntry t c f
unfolding body_at
body_err t c d a b (said.Known k n p) f line knows e =
    elim (bind_err (level_answers_at t (length d.rest) d) (known_made a b k n p) f e) [
      | inl here ↦ in_levels d line knows (levels_err t (length d.rest) d f here)
      | inr none ↦ absurd (no_fault _ f none.2)
    ]
body_err t c d a b (said.Wide level) f line knows e =
    elim (bind_err (answer_at t d) (wide_made a b level) f e) [
      | inl here ↦ in_answer d line knows (answer_err t d f here)
      | inr none ↦ absurd (no_fault _ f none.2)
    ]

pub entry_err : (t : DecisionTable) (c : Cursor) (f : ProofFault) → entry_at t c ≡ Err f → IsFaultOfEntry t c f
unfolding entry_at
entry_err t c f e =
    elim (bind_err (pair_line t c) (λ head. body_at t head.0.first head.0.second head.0.said head.1) f e) [
      | inl here ↦ in_pair ((pair_reads t c).err f here)
      | inr a ↦ body_err t c a.0.1 a.0.0.first a.0.0.second a.0.0.said f ((pair_reads t c).ok a.0 a.1) (pair_knows t c a.0 a.1) a.2
    ]

known_fails : (t : DecisionTable) (a b : ℕ) (s : Said) (d : Cursor) (f : ProofFault) → IsTable t → is_known (form_of s) ≡ true → IsFaultOfLevels t f d → body_at t a b s d ≡ Err f
unfolding body_at
known_fails t a b (said.Known k n p) d f table knows fault = rw (levels_fail t (length d.rest) d f table (omega arith) fault) refl
known_fails t a b (said.Wide level) d f table knows fault = absurd (false≢true knows)

wide_fails : (t : DecisionTable) (a b : ℕ) (s : Said) (d : Cursor) (f : ProofFault) → is_known (form_of s) ≡ false → answer_at t d ≡ Err f → body_at t a b s d ≡ Err f
unfolding body_at
wide_fails t a b (said.Known k n p) d f knows fault = absurd (false≢true (sym knows))
wide_fails t a b (said.Wide level) d f knows fault = rw fault refl

pub entry_fails : (t : DecisionTable) (c : Cursor) (f : ProofFault) → IsTable t → IsFaultOfEntry t c f → entry_at t c ≡ Err f
unfolding entry_at
entry_fails t c f table (in_pair fault) = rw (line_fails t expected_pair c (pair_line t c) f (pair_reads t c) fault) refl
entry_fails t c f table (in_levels levels line knows fault) =
    let goes = line_goes t expected_pair c levels (pair_line t c) (pair_reads t c) line in
    let known : is_known (form_of goes.0.said) ≡ true = sym (pair_knows t c (goes.0, levels) goes.1) ∙ knows in
    rw goes.1 (known_fails t goes.0.first goes.0.second goes.0.said levels f table known fault)
entry_fails t c f table (in_answer answer line knows fault) =
    let goes = line_goes t expected_pair c answer (pair_line t c) (pair_reads t c) line in
    let wide : is_known (form_of goes.0.said) ≡ false = sym (pair_knows t c (goes.0, answer) goes.1) ∙ knows in
    rw goes.1 (wide_fails t goes.0.first goes.0.second goes.0.said answer f wide (answer_fails t answer f fault))
