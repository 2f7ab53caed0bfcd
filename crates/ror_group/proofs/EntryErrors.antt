-- The fault of an entry is the one that is given.
use Rattle.std.proofs.Common.{◌≡◌, ℕ, List, [], ◌∷◌, length, Result, Ok, Err, refl, arith, inl, inr}
use Rattle.std.specs.Prelude.{codes}
use Rattle.ror_text.specs.Cursor.{Cursor, line_words}
use Rattle.ror_text.specs.Reading.{◌>>=◌}
use Rattle.ror_text.proofs.ReadingLemmas.{bind_err}
use Rattle.ror_table.specs.Table.{DecisionTable, IsTable}
use Rattle.ror_proof.specs.declared.answer.Answer.{Answer}
use Rattle.ror_proof.specs.declared.read.ProofFault.{ProofFault}
use Rattle.ror_proof.specs.Expected.Expected.{an_id, the_end}
use Rattle.ror_proof.specs.Questions.{alternative_at}
use Rattle.ror_proof.specs.Words.{name_at, no_more}
use Rattle.ror_proof.proofs.LineFaults.{ReadsLine, reads_line, line_fails, line_goes}
use Rattle.ror_proof.proofs.QuestionFaults.{name_steps}
use Rattle.ror_proof.proofs.WordFaults.{Ends, no_fault, then_ends, word_then_ends, end_ends}
use Rattle.ror_proof.proofs.QuestionFaults.{alternative_steps}
use Rattle.ror_proof.proofs.WordLemmas.{done}
use Rattle.ror_report.proofs.AnswerRuns.{answers_err, answers_fail, answers_ok, answers_go}
use Rattle.ror_group.specs.declared.entry.Entry.{Entry}
use Rattle.ror_group.specs.declared.quartet.Quartet.{Quartet}
use Rattle.ror_group.specs.declared.quartet.Word4.{Word4}
use Rattle.ror_group.specs.EntryFaults.{expected_pair, a_group_word, expected_group, IsFaultOfEntry}
use Rattle.ror_group.specs.EntryFaults.IsFaultOfEntry.{in_pair, in_answers, in_group}
use Rattle.ror_group.specs.Reading.{pair_words, pair_line, quartet_words, quartet_line, ends_answers, entry_answers, entry_at}
use Rattle.ror_group.specs.Text.{group_word, group_words}
use Rattle.ror_group.proofs.EntryLines.{entry_ends}

-- ---- lines

abbrev pair_ended : ℕ → ℕ → ℕ × List (List ℕ) → Result (ℕ × ℕ) ProofFault
pair_ended place a second = no_more place second.1 >>= λ _. done (a, second.0)

pair_ends : (t : DecisionTable) (place : ℕ) (ws : List (List ℕ)) → Ends t place (pair_words t place ws) (expected_pair ws) ws
unfolding pair_words
pair_ends t place ws =
    word_then_ends t place (codes "pair") (λ more. alternative_at t place more >>= λ first. alternative_at t place first.1 >>= λ second. pair_ended place first.0 second) (an_id ∷ an_id ∷ the_end ∷ []) ws
    (λ more is. then_ends t place (alternative_at t place more) (λ first. alternative_at t place first.1 >>= λ second. pair_ended place first.0 second) (an_id ∷ []) (an_id ∷ the_end ∷ []) more (alternative_steps t place more)
    (λ first e. then_ends t place (alternative_at t place first.1) (λ second. pair_ended place first.0 second) (an_id ∷ []) (the_end ∷ []) first.1 (alternative_steps t place first.1)
    (λ second d. end_ends t place (first.0, second.0) second.1)))

pair_reads : (t : DecisionTable) (c : Cursor) → ReadsLine t expected_pair c (pair_line t c)
pair_reads t c = reads_line t expected_pair c (pair_words t c.place (line_words c)) (pair_ends t c.place (line_words c))

abbrev word_read : ℕ → List (List ℕ) → Result (Word4 × List (List ℕ)) ProofFault
word_read place words = name_at group_word group_words place words

abbrev made : Word4 → Word4 → Word4 → Word4 → Quartet
made x y z w = record { necessary_for_every = x; necessary_for_some = y; possible_for_every = z; possible_for_some = w }

abbrev quartet_ended : ℕ → Word4 → Word4 → Word4 → Word4 × List (List ℕ) → Result Quartet ProofFault
quartet_ended place x y z four = no_more place four.1 >>= λ _. done (made x y z four.0)

abbrev after_two : ℕ → Word4 → Word4 → Word4 × List (List ℕ) → Result Quartet ProofFault
after_two place x y three = word_read place three.1 >>= λ four. quartet_ended place x y three.0 four

abbrev after_one : ℕ → Word4 → Word4 × List (List ℕ) → Result Quartet ProofFault
after_one place x two = word_read place two.1 >>= λ three. after_two place x two.0 three

abbrev after_none : ℕ → Word4 × List (List ℕ) → Result Quartet ProofFault
after_none place one = word_read place one.1 >>= λ two. after_one place one.0 two

quartet_ends : (t : DecisionTable) (place : ℕ) (ws : List (List ℕ)) → Ends t place (quartet_words place ws) (expected_group ws) ws
unfolding quartet_words
quartet_ends t place ws =
    word_then_ends t place (codes "group") (λ more. word_read place more >>= λ one. after_none place one) (a_group_word ∷ a_group_word ∷ a_group_word ∷ a_group_word ∷ the_end ∷ []) ws
    (λ more is. then_ends t place (word_read place more) (λ one. after_none place one) (a_group_word ∷ []) (a_group_word ∷ a_group_word ∷ a_group_word ∷ the_end ∷ []) more (name_steps t place group_word group_words more)
    (λ one e. then_ends t place (word_read place one.1) (λ two. after_one place one.0 two) (a_group_word ∷ []) (a_group_word ∷ a_group_word ∷ the_end ∷ []) one.1 (name_steps t place group_word group_words one.1)
    (λ two e. then_ends t place (word_read place two.1) (λ three. after_two place one.0 two.0 three) (a_group_word ∷ []) (a_group_word ∷ the_end ∷ []) two.1 (name_steps t place group_word group_words two.1)
    (λ three e. then_ends t place (word_read place three.1) (λ four. quartet_ended place one.0 two.0 three.0 four) (a_group_word ∷ []) (the_end ∷ []) three.1 (name_steps t place group_word group_words three.1)
    (λ four e. end_ends t place (made one.0 two.0 three.0 four.0) four.1)))))

quartet_reads : (t : DecisionTable) (c : Cursor) → ReadsLine t expected_group c (quartet_line c)
quartet_reads t c = reads_line t expected_group c (quartet_words c.place (line_words c)) (quartet_ends t c.place (line_words c))

-- ---- entries

abbrev entry_made : ℕ × ℕ → List Answer → Quartet → Entry
entry_made p xs q = record { first = p.0; second = p.1; answers = xs; quartet = q }

abbrev entry_ended : ℕ × ℕ → List Answer → Quartet × Cursor → Result (Entry × Cursor) ProofFault
entry_ended p xs quartet = Ok (entry_made p xs quartet.0, quartet.1)

abbrev quartet_after : ℕ × ℕ → List Answer × Cursor → Result (Entry × Cursor) ProofFault
quartet_after p answers = quartet_line answers.1 >>= λ quartet. entry_ended p answers.0 quartet

pub entry_err : (t : DecisionTable) (c : Cursor) (f : ProofFault) → entry_at t c ≡ Err f → IsFaultOfEntry t c f
unfolding entry_at
entry_err t c f e =
    elim (bind_err (pair_line t c) (λ pair. entry_answers t (length pair.1.rest) pair.1 >>= λ answers. quartet_after pair.0 answers) f e) [
      | inl here ↦ in_pair ((pair_reads t c).err f here)
      | inr a ↦
          let pair = (pair_reads t c).ok a.0 a.1 in
          elim (bind_err (entry_answers t (length a.0.1.rest) a.0.1) (λ answers. quartet_after a.0.0 answers) f a.2) [
            | inl here ↦ in_answers a.0.1 pair (answers_err ends_answers entry_ends t (length a.0.1.rest) a.0.1 f here)
            | inr b ↦
                elim (bind_err (quartet_line b.0.1) (λ quartet. entry_ended a.0.0 b.0.0 quartet) f b.2) [
                  | inl here ↦ in_group a.0.1 b.0.1 pair (answers_ok ends_answers entry_ends t (length a.0.1.rest) a.0.1 b.0 (omega arith) b.1) ((quartet_reads t b.0.1).err f here)
                  | inr none ↦ absurd (no_fault _ f none.2)
                ]
          ]
    ]

pub entry_fails : (t : DecisionTable) (c : Cursor) (f : ProofFault) → IsTable t → IsFaultOfEntry t c f → entry_at t c ≡ Err f
unfolding entry_at
entry_fails t c f table (in_pair fault) = rw (line_fails t expected_pair c (pair_line t c) f (pair_reads t c) fault) refl
entry_fails t c f table (in_answers answers line fault) =
    rw ((line_goes t expected_pair c answers (pair_line t c) (pair_reads t c) line).1, answers_fail ends_answers entry_ends t (length answers.rest) answers f table (omega arith) fault) refl
entry_fails t c f table (in_group answers group line texts fault) =
    rw ((line_goes t expected_pair c answers (pair_line t c) (pair_reads t c) line).1, (answers_go ends_answers entry_ends t group (length answers.rest) answers table (omega arith) texts).1, line_fails t expected_group group (quartet_line group) f (quartet_reads t group) fault) refl
