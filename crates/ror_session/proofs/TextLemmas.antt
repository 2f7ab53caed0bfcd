-- What a whole text is read as, and its first fault.
use Rattle.std.proofs.Common.{◌≡◌, ℕ, ◌<◌, ◌≤◌, true, false, List, length, Ok, Err, refl, sym, ap, ◌∙◌, inl, inr, arith}
use Rattle.std.specs.Prelude.{nat_lt, Contains}
use Rattle.std.specs.Cmp.Lexicographic.{nat_list_eq_equiv}
use Rattle.std.specs.Str.{IsUtf8, is_utf8, bytes_eq}
use Rattle.std.proofs.lemmas.Bool.{cases_Bool, ltb-true, ltb-false}
use Rattle.std.proofs.lemmas.Map.Views.{list_any-from_Contains, Contains-from_any}
use Rattle.std.proofs.lemmas.Str.{IsUtf8-from_is_utf8, is_utf8-from_IsUtf8}
use Rattle.ror_text.specs.declared.lines.TheConstants.{MOST_TEXT_BYTES}
use Rattle.ror_text.specs.Lines.{numbered_lines, line_count}
use Rattle.ror_text.specs.Reading.{read_all}
use Rattle.ror_text.proofs.ReadingLemmas.{bind_err, bind-at_ok, bind-at_err, first_fault, read_all_fails}
use Rattle.ror_session.specs.declared.limits.TheConstants.{MOST_LINES}
use Rattle.ror_session.specs.declared.session.Session.{Session}
use Rattle.ror_session.specs.declared.session.SessionFault.{SessionFault}
use Rattle.ror_session.specs.declared.session.SessionFault.TheVariants as faults
use Rattle.ror_session.specs.Grammar.{LineWords, IsReadable, IsSessionText}
use Rattle.ror_session.specs.Session.{said_of, add_said, add_line, empty_session, session_of}
use Rattle.ror_session.specs.Faults.{IsReadBefore, IsFirstFaultOf}
use Rattle.ror_session.specs.Faults.IsFirstFaultOf.{too_long, not_utf8, too_many_lines, bad_line, too_many_desks}
use Rattle.ror_session.proofs.DeskLemmas.{has_desk, same_bytes}
use Rattle.ror_session.proofs.SaidLemmas.{said_of-sound, said_of-again, said_of-err, refused_says_nothing, says_nothing_refused}
use Rattle.ror_session.proofs.SessionLemmas.{to_session, from_session, add_said-full, add_said-err}

-- the test that decides
data FirstTest (bytes : List ℕ) : Type 0 where
  long : MOST_TEXT_BYTES < length bytes → session_of bytes ≡ Err faults.TooLong → FirstTest bytes
  other : length bytes ≤ MOST_TEXT_BYTES → ¬ (IsUtf8 bytes) → session_of bytes ≡ Err faults.NotUtf8 → FirstTest bytes
  many : length bytes ≤ MOST_TEXT_BYTES → IsUtf8 bytes → MOST_LINES < line_count bytes → session_of bytes ≡ Err faults.TooManyLines → FirstTest bytes
  by_lines : IsReadable bytes → session_of bytes ≡ read_all add_line empty_session (numbered_lines bytes) → FirstTest bytes

first_test : (bytes : List ℕ) → FirstTest bytes
unfolding session_of
first_test bytes = elim (cases_Bool (nat_lt MOST_TEXT_BYTES (length bytes))) [
  | inl above ↦ long (ltb-true _ _ above) (rw above refl)
  | inr within ↦ elim (cases_Bool (is_utf8 bytes)) [
    | inr bad ↦ other (ltb-false _ _ within) (λ u. let g = is_utf8-from_IsUtf8 bytes u in absurd cc) (rw (within, bad) refl)
    | inl text ↦ elim (cases_Bool (nat_lt MOST_LINES (line_count bytes))) [
      | inl more ↦ many (ltb-false _ _ within) (IsUtf8-from_is_utf8 bytes text) (ltb-true _ _ more) (rw (within, text, more) refl)
      | inr few ↦ by_lines (record { few_bytes = ltb-false _ _ within; utf8 = IsUtf8-from_is_utf8 bytes text; few_lines = ltb-false _ _ few }) (rw (within, text, few) refl)
    ]
  ]
]

pub session_of-sound : (bytes : List ℕ) (session : Session) → session_of bytes ≡ Ok session → IsSessionText bytes session
session_of-sound bytes session e = elim (first_test bytes) [
  | long more is ↦ absurd cc
  | other few bad is ↦ absurd cc
  | many few text more is ↦ absurd cc
  | by_lines readable is ↦ record { readable = readable; lines = to_session (numbered_lines bytes) session (sym is ∙ e) }
]

-- a readable text is read line by line
read_by_lines : (bytes : List ℕ) → IsReadable bytes → session_of bytes ≡ read_all add_line empty_session (numbered_lines bytes)
read_by_lines bytes h = elim (first_test bytes) [
  | long more is ↦ absurd (omega (arith, h.few_bytes))
  | other few bad is ↦ absurd (bad h.utf8)
  | many few text more is ↦ absurd (omega (arith, h.few_lines))
  | by_lines readable is ↦ is
]

pub session_of-again : (bytes : List ℕ) (session : Session) → IsSessionText bytes session → session_of bytes ≡ Ok session
session_of-again bytes session h = read_by_lines bytes h.readable ∙ from_session (numbered_lines bytes) session h.lines

-- ---- the first fault

not_there : (desks : List (List ℕ)) (name : List ℕ) → has_desk desks name ≡ false → ¬ (Contains desks name)
not_there desks name miss = λ there. let hit : has_desk desks name ≡ true = list_any-from_Contains {eq = bytes_eq} nat_list_eq_equiv name desks there in absurd cc

none_there : (desks : List (List ℕ)) (name : List ℕ) → ¬ (Contains desks name) → has_desk desks name ≡ false
none_there desks name new = elim (cases_Bool (has_desk desks name)) [
  | inl hit ↦ absurd (new (Contains-from_any {eq = bytes_eq} same_bytes name desks hit))
  | inr miss ↦ miss
]

fault_of_line : (bytes : List ℕ) (fault : SessionFault) → IsReadable bytes → read_all add_line empty_session (numbered_lines bytes) ≡ Err fault → IsFirstFaultOf bytes fault
fault_of_line bytes fault readable e =
    let first = first_fault add_line empty_session (numbered_lines bytes) fault e in
    let reads = to_session first.before first.reached first.reads in
    let start : IsReadBefore bytes first.line first.reached = record { readable = readable; before = first.before; after = first.after; is = first.split; reads = reads } in
    elim (bind_err (said_of first.line.0 first.line.1) (λ x. add_said first.reached x) fault first.fails) [
      | inl here ↦ bad_line first.line first.reached start (refused_says_nothing first.line.0 first.line.1 fault here) (said_of-err first.line.0 first.line.1 fault here)
      | inr later ↦
          let says = said_of-sound first.line.0 first.line.1 later.0 later.1 in
          let more = add_said-err first.reached later.0 fault later.2 in
          let new = not_there first.reached.desks later.0.desk more.0 in
          too_many_desks first.line first.reached start (record { said = later.0; says = says; new = new; full = more.1 }) (more.2 ∙ ap faults.TooManyDesks says.number)
    ]

pub fault-sound : (bytes : List ℕ) (fault : SessionFault) → session_of bytes ≡ Err fault → IsFirstFaultOf bytes fault
fault-sound bytes fault e = elim (first_test bytes) [
  | long more is ↦ too_long more cc
  | other few bad is ↦ not_utf8 few bad cc
  | many few text more is ↦ too_many_lines few text more cc
  | by_lines readable is ↦ fault_of_line bytes fault readable (sym is ∙ e)
]

-- where a line fails after lines that are read, the text has its fault
line_fails : (bytes : List ℕ) (fault : SessionFault) (line : ℕ × LineWords) (reached : Session) → IsReadBefore bytes line reached → add_line reached line ≡ Err fault → session_of bytes ≡ Err fault
line_fails bytes fault line reached start fails = read_by_lines bytes start.readable ∙ read_all_fails add_line empty_session (numbered_lines bytes) fault (record {
  before = start.before;
  line = line;
  after = start.after;
  reached = reached;
  split = start.is;
  reads = from_session start.before reached start.reads;
  fails = fails;
})

pub fault-again : (bytes : List ℕ) (fault : SessionFault) → IsFirstFaultOf bytes fault → session_of bytes ≡ Err fault
fault-again bytes fault (too_long more e) = elim (first_test bytes) [
  | long above is ↦ is ∙ ap Err (sym e)
  | other few bad is ↦ absurd (omega (arith, more, few))
  | many few text lines is ↦ absurd (omega (arith, more, few))
  | by_lines readable is ↦ absurd (omega (arith, more, readable.few_bytes))
]
fault-again bytes fault (not_utf8 short none e) = elim (first_test bytes) [
  | long above is ↦ absurd (omega (arith, above, short))
  | other few bad is ↦ is ∙ ap Err (sym e)
  | many few text lines is ↦ absurd (none text)
  | by_lines readable is ↦ absurd (none readable.utf8)
]
fault-again bytes fault (too_many_lines short utf8 more e) = elim (first_test bytes) [
  | long above is ↦ absurd (omega (arith, above, short))
  | other few bad is ↦ absurd (bad utf8)
  | many few text lines is ↦ is ∙ ap Err (sym e)
  | by_lines readable is ↦ absurd (omega (arith, more, readable.few_lines))
]
fault-again bytes fault (bad_line line reached start bad e) = line_fails bytes fault line reached start (bind-at_err (said_of line.0 line.1) (λ x. add_said reached x) (faults.BadLine line.0) (says_nothing_refused line.0 line.1 bad) ∙ ap Err (sym e))
fault-again bytes fault (too_many_desks line reached start more e) =
    let miss = none_there reached.desks more.said.desk more.new in
    line_fails bytes fault line reached start (bind-at_ok (said_of line.0 line.1) (λ x. add_said reached x) more.said (said_of-again line.0 line.1 more.said more.says) ∙ add_said-full reached more.said miss more.full ∙ ap (λ (n : ℕ). Err (faults.TooManyDesks n)) more.says.number ∙ ap Err (sym e))
