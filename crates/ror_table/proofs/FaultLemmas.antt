-- The fault that is read is the first, and the first fault is read.
use Rattle.std.proofs.Common.{◌≡◌, ℕ, ◌<◌, ◌≤◌, Bool, true, false, not, eqb, ltb, ◌||◌, List, [], ◌∷◌, length, Result, Ok, Err, refl, sym, ap, ◌∙◌, inl, inr}
use Rattle.std.specs.Prelude.{◌≢◌, Option, Some, None}
use Rattle.std.specs.Option.{option_map_or}
use Rattle.std.specs.Str.{IsUtf8, is_utf8}
use Rattle.std.proofs.Math.Bool.{or-true}
use Rattle.std.proofs.lemmas.Bool.{or_cases, ltb-true, ltb-false, lt-ltb, le-ltb, eqb-true, false≢true, not-false}
use Rattle.std.proofs.lemmas.List.{nil_from_length}
use Rattle.std.proofs.lemmas.Str.{IsUtf8-from_is_utf8}
use Rattle.ror_text.specs.declared.lines.TheConstants.{MOST_TEXT_BYTES}
use Rattle.ror_text.specs.Lines.{numbered_lines, bad_utf8_line}
use Rattle.ror_text.specs.Reading.{◌>>=◌, refuse, read_all}
use Rattle.ror_text.proofs.ReadingLemmas.{bind_err, first_fault, read_all_fails}
use Rattle.ror_table.specs.declared.fault.TableFault.{TableFault}
use Rattle.ror_table.specs.declared.fault.TableKind.TheVariants.{Form, NotUtf8, TooMany, Empty, TooLong, WideScale}
use Rattle.ror_table.specs.declared.fault.What.TheVariants.{Steps}
use Rattle.ror_table.specs.declared.plain.Version.{Version}
use Rattle.ror_table.specs.Table.{DecisionTable, columns, has_wide_scale}
use Rattle.ror_table.specs.Draft.{empty_table, finished}
use Rattle.ror_table.specs.Plain.{at_line, head_of, body_line, after_head, plain_table}
use Rattle.ror_table.specs.Grammar.{LineWords}
use Rattle.ror_table.specs.Faults.{head_words, HasRead, IsFaultOfLine, IsReadable, BeginsTable, IsEmpty, IsFirstFaultOf}
use Rattle.ror_table.specs.Faults.IsFirstFaultOf.{too_long, not_utf8, no_line, other_line, in_line, nothing_there, too_many_steps, wide_scale}
use Rattle.ror_table.proofs.GrammarLemmas.{whole_table, rest_table, Numbered, texts, head, read_lines_write, written_lines_read, head_is, head_of-words, bool_false}
use Rattle.ror_table.proofs.LineFaultLemmas.{line_first, first_line_fault, refused}
use Rattle.ror_table.specs.declared.limits.TheConstants.{MOST_STEPS}
use Rattle.ror_table.proofs.PlainLemmas.{is_utf8-true, is_utf8-false}

abbrev as_read : DecisionTable → Result DecisionTable TableFault
as_read t = Ok t

no_fault : (t : DecisionTable) (e : TableFault) → as_read t ≡ Err e → ⊥
no_fault t e h = absurd cc

-- ---- lines

pub line_fault : (version : Version) (lines : Numbered) (e : TableFault) → read_all (body_line version) empty_table lines ≡ Err e → IsFaultOfLine version lines e
line_fault version lines e is =
    let first = first_fault (body_line version) empty_table lines e is in
    record {
      before = first.before;
      line = first.line;
      after = first.after;
      reached = first.reached;
      is = first.split;
      reads = read_lines_write version first.before first.reached first.reads;
      first = (line_first version first.reached first.line e first.fails).1;
      number = (line_first version first.reached first.line e first.fails).0;
    }

pub fault_of_line : (version : Version) (lines : Numbered) (e : TableFault) → IsFaultOfLine version lines e → read_all (body_line version) empty_table lines ≡ Err e
fault_of_line version lines e at = read_all_fails (body_line version) empty_table lines e (record {
  before = at.before;
  line = at.line;
  after = at.after;
  reached = at.reached;
  split = at.is;
  reads = written_lines_read version at.before at.reached at.reads.writes at.reads.draft;
  fails = first_line_fault version at.reached at.line e at.number at.first;
})

-- ---- the whole text

empty_is : (t : DecisionTable) → (eqb (length t.criteria) 0 || eqb (length t.alternatives) 0) ≡ true → IsEmpty t
empty_is t h = elim (or_cases (eqb (length t.criteria) 0) (eqb (length t.alternatives) 0) h) [
  | inl none ↦ inl (nil_from_length t.criteria (eqb-true (length t.criteria) 0 none))
  | inr none ↦ inr (nil_from_length t.alternatives (eqb-true (length t.alternatives) 0 none))
]

is_empty : (t : DecisionTable) → IsEmpty t → (eqb (length t.criteria) 0 || eqb (length t.alternatives) 0) ≡ true
is_empty t (inl none) = rw none refl
is_empty t (inr none) = rw none (or-true (eqb (length t.criteria) 0))

not_empty : (t : DecisionTable) → (eqb (length t.criteria) 0 || eqb (length t.alternatives) 0) ≡ false → IsEmpty t → ⊥
not_empty t h none = false≢true (sym h ∙ is_empty t none)

whole_fault : (bytes : List ℕ) (version : Version) (rest : Numbered) (t : DecisionTable) (e : TableFault) → BeginsTable bytes version rest → HasRead version (texts rest) t → whole_table t ≡ Err e → IsFirstFaultOf bytes e
unfolding finished
whole_fault bytes version rest t e begins reads is =
    let empty : Bool = eqb (length t.criteria) 0 || eqb (length t.alternatives) 0 in
    elim (refused (at_line 0 Empty) empty (refuse (at_line 0 (TooMany Steps)) (ltb MOST_STEPS (columns t)) >>= λ _. refuse (at_line 0 WideScale) (has_wide_scale t) >>= λ _. Ok t) e is) [
      | inl h ↦ nothing_there (record { version = version; rest = rest; begins = begins; table = t; reads = reads; lacks = empty_is t h.0 }) h.1
      | inr h ↦
          elim (refused (at_line 0 (TooMany Steps)) (ltb MOST_STEPS (columns t)) (refuse (at_line 0 WideScale) (has_wide_scale t) >>= λ _. Ok t) e h.1) [
            | inl wide ↦ too_many_steps (record { version = version; rest = rest; begins = begins; table = t; reads = reads; lacks = (not_empty t h.0, ltb-true MOST_STEPS (columns t) wide.0) }) wide.1
            | inr narrow ↦
                elim (refused (at_line 0 WideScale) (has_wide_scale t) (Ok t) e narrow.1) [
                  | inl fine ↦ wide_scale (record { version = version; rest = rest; begins = begins; table = t; reads = reads; lacks = (not_empty t h.0, ltb-false MOST_STEPS (columns t) narrow.0, fine.0) }) fine.1
                  | inr none ↦ absurd (no_fault t e none.1)
                ]
          ]
    ]

after_head_fault : (bytes : List ℕ) (line : ℕ × LineWords) (rest : Numbered) (e : TableFault) (o : Option Version) → IsReadable bytes → numbered_lines bytes ≡ line ∷ rest → head_of line.1 ≡ o
    → (option_map_or (λ version. Ok (head version rest)) o (Err (at_line line.0 Form)) >>= rest_table) ≡ Err e → IsFirstFaultOf bytes e
after_head_fault bytes line rest e (Some version) readable lines first is =
    let begins : BeginsTable bytes version rest = record { readable = readable; number = line.0; is = lines ∙ ap (λ (w : LineWords). (line.0, w) ∷ rest) (head_is line.1 version first) } in
    elim (bind_err (read_all (body_line version) empty_table rest) (λ s. whole_table s) e is) [
      | inl here ↦ in_line version rest begins (line_fault version rest e here)
      | inr later ↦ whole_fault bytes version rest later.0 e begins (read_lines_write version rest later.0 later.1) later.2
    ]
after_head_fault bytes line rest e None readable lines first is =
    other_line readable line rest lines (λ version same. absurd (let some : None ≡ Some version = sym first ∙ ap head_of same ∙ head_of-words version in cc)) cc

readable_fault : (bytes : List ℕ) (lines : Numbered) (e : TableFault) → IsReadable bytes → numbered_lines bytes ≡ lines → (after_head lines >>= rest_table) ≡ Err e → IsFirstFaultOf bytes e
readable_fault bytes [] e readable none is = no_line readable none cc
readable_fault bytes (line ∷ rest) e readable lines is = after_head_fault bytes line rest e (head_of line.1) readable lines refl is

pub plain_fault : (bytes : List ℕ) (e : TableFault) → plain_table bytes ≡ Err e → IsFirstFaultOf bytes e
unfolding plain_table
plain_fault bytes e is =
    elim (refused (at_line 0 TooLong) (ltb MOST_TEXT_BYTES (length bytes)) (refuse (at_line (bad_utf8_line bytes) NotUtf8) (not (is_utf8 bytes)) >>= λ _. after_head (numbered_lines bytes) >>= rest_table) e is) [
      | inl long ↦ too_long (ltb-true MOST_TEXT_BYTES (length bytes) long.0) long.1
      | inr rest ↦
          let short : length bytes ≤ MOST_TEXT_BYTES = ltb-false MOST_TEXT_BYTES (length bytes) rest.0 in
          elim (refused (at_line (bad_utf8_line bytes) NotUtf8) (not (is_utf8 bytes)) (after_head (numbered_lines bytes) >>= rest_table) e rest.1) [
            | inl bad ↦ not_utf8 short (λ (text : IsUtf8 bytes). false≢true (ap not (sym (is_utf8-true bytes text)) ∙ bad.0)) bad.1
            | inr good ↦ readable_fault bytes (numbered_lines bytes) e (record { short = short; utf8 = IsUtf8-from_is_utf8 bytes (not-false (is_utf8 bytes) good.0) }) refl good.1
          ]
    ]

no_version : (words : LineWords) (o : Option Version) → head_of words ≡ o → ((version : Version) → words ≢ head_words version) → o ≡ None
no_version words None is other = refl
no_version words (Some version) is other = absurd (other version (head_is words version is))

plain-readable : (bytes : List ℕ) → IsReadable bytes → plain_table bytes ≡ (after_head (numbered_lines bytes) >>= rest_table)
unfolding plain_table
plain-readable bytes readable = rw (le-ltb MOST_TEXT_BYTES (length bytes) readable.short, is_utf8-true bytes readable.utf8) refl

after_head-words : (n : ℕ) (version : Version) (rest : Numbered) → after_head ((n, head_words version) ∷ rest) ≡ Ok (head version rest)
after_head-words n version rest = rw (head_of-words version) refl

plain-begins : (bytes : List ℕ) (version : Version) (rest : Numbered) → BeginsTable bytes version rest → plain_table bytes ≡ rest_table (head version rest)
plain-begins bytes version rest begins = plain-readable bytes begins.readable ∙ ap (λ (lines : Numbered). after_head lines >>= rest_table) begins.is ∙ ap (λ h. h >>= rest_table) (after_head-words begins.number version rest)

plain-reads : (bytes : List ℕ) (version : Version) (rest : Numbered) (t : DecisionTable) → BeginsTable bytes version rest → HasRead version (texts rest) t → plain_table bytes ≡ whole_table t
plain-reads bytes version rest t begins reads = plain-begins bytes version rest begins ∙ rw (written_lines_read version rest t reads.writes reads.draft) refl

whole-empty : (t : DecisionTable) → IsEmpty t → whole_table t ≡ Err (at_line 0 Empty)
unfolding finished
whole-empty t none = rw (is_empty t none) refl

some_there : (t : DecisionTable) → (IsEmpty t → ⊥) → (eqb (length t.criteria) 0 || eqb (length t.alternatives) 0) ≡ false
some_there t some = bool_false _ (λ h. some (empty_is t h))

whole-wide : (t : DecisionTable) → (IsEmpty t → ⊥) → MOST_STEPS < columns t → whole_table t ≡ Err (at_line 0 (TooMany Steps))
unfolding finished
whole-wide t some wide = rw (some_there t some, lt-ltb MOST_STEPS (columns t) wide) refl

whole-wide_scale : (t : DecisionTable) → (IsEmpty t → ⊥) → columns t ≤ MOST_STEPS → has_wide_scale t ≡ true → whole_table t ≡ Err (at_line 0 WideScale)
unfolding finished
whole-wide_scale t some narrow fine = rw (some_there t some, le-ltb MOST_STEPS (columns t) narrow, fine) refl

pub fault_read : (bytes : List ℕ) (e : TableFault) → IsFirstFaultOf bytes e → plain_table bytes ≡ Err e
unfolding plain_table
fault_read bytes e (too_long long is) = rw (lt-ltb MOST_TEXT_BYTES (length bytes) long) (ap Err (sym is))
fault_read bytes e (not_utf8 short bad is) = rw (le-ltb MOST_TEXT_BYTES (length bytes) short, is_utf8-false bytes bad) (ap Err (sym is))
fault_read bytes e (no_line readable none is) = plain-readable bytes readable ∙ rw none (ap Err (sym is))
fault_read bytes e (other_line readable line rest lines other is) =
    let first : head_of line.1 ≡ None = no_version line.1 (head_of line.1) refl other in
    plain-readable bytes readable ∙ rw (lines, first) (ap Err (sym is))
fault_read bytes e (in_line version rest begins at) = plain-begins bytes version rest begins ∙ rw (fault_of_line version rest e at) refl
fault_read bytes e (nothing_there whole is) = plain-reads bytes whole.version whole.rest whole.table whole.begins whole.reads ∙ whole-empty whole.table whole.lacks ∙ ap Err (sym is)
fault_read bytes e (too_many_steps whole is) = plain-reads bytes whole.version whole.rest whole.table whole.begins whole.reads ∙ whole-wide whole.table whole.lacks.0 whole.lacks.1 ∙ ap Err (sym is)
fault_read bytes e (wide_scale whole is) = plain-reads bytes whole.version whole.rest whole.table whole.begins whole.reads ∙ whole-wide_scale whole.table whole.lacks.0 whole.lacks.1 whole.lacks.2 ∙ ap Err (sym is)
