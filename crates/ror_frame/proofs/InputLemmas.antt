-- Reading the bytes of a table and of a session.
use Rattle.std.proofs.Common.{inl, inr, sym, ap, subst, ◌∙◌, ◌≡◌, ℕ, ◌<◌, Bool, List, length, Err, refl}
use Rattle.std.proofs.lemmas.Bool.{lt-ltb}
use Rattle.ror_text.specs.declared.lines.TheConstants.{MOST_TEXT_BYTES}
use Rattle.ror_table.specs.declared.fault.TableKind.TheVariants as kinds
use Rattle.ror_value.specs.declared.input.Input.{Input}
use Rattle.ror_xmcda.specs.Input.{input_of}
use Rattle.ror_session.specs.Session.{session_of}
use Rattle.ror_session.specs.declared.session.Session.{Session}
use Rattle.ror_session.specs.declared.session.Line.{Line}
use Rattle.ror_bench.specs.declared.report.Accepted.{Accepted}
use Rattle.ror_bench.specs.declared.report.Rejection.{Rejection}
use Rattle.ror_session.specs.declared.session.SessionFault.TheVariants as session_faults
use Rattle.ror_confidence.specs.declared.fault.LevelsFault.{LevelsFault}
use Rattle.ror_words.specs.Words.{InputNames}
use Rattle.ror_frame.specs.declared.stop.Refusal.{Refusal}
use Rattle.ror_frame.specs.declared.stop.Refusal.TheVariants as refusals
use Rattle.ror_frame.specs.Courses.{Output, Course, MayRefuse, IsTooLong}
use Rattle.ror_frame.specs.Inputs.{ReadsTable, RefusesTable, RefusesSession, ReadsSuited, RefusesSuited, over_inputs, over_suited, writing_chore, judging_chore, suited_writing_chore, suited_judging_chore}
use Rattle.ror_frame.proofs.CourseLemmas.{IsDecided}

input_of-long : (bytes : List ℕ) (best_first : Bool) → MOST_TEXT_BYTES < length bytes → input_of bytes best_first ≡ Err (record { kind = kinds.TooLong; line = 0 })
unfolding input_of
input_of-long bytes best_first long = rw (lt-ltb MOST_TEXT_BYTES (length bytes) long) refl

session_of-long : (bytes : List ℕ) → MOST_TEXT_BYTES < length bytes → session_of bytes ≡ Err session_faults.TooLong
unfolding session_of
session_of-long bytes long = rw (lt-ltb MOST_TEXT_BYTES (length bytes) long) refl

pub long_table : (best_first : Bool) (bytes : List ℕ) (r : Refusal) → IsTooLong MOST_TEXT_BYTES (refusals.BadTable (record { kind = kinds.TooLong; line = 0 })) bytes r → RefusesTable best_first bytes r
long_table best_first bytes r long = (record { kind = kinds.TooLong; line = 0 }, long.0, input_of-long bytes best_first long.1)

pub long_session : (bytes : List ℕ) (r : Refusal) → IsTooLong MOST_TEXT_BYTES (refusals.BadSession session_faults.TooLong) bytes r → RefusesSession bytes r
long_session bytes r long = (session_faults.TooLong, long.0, session_of-long bytes long.1)

one_table : (names : InputNames) (table : List ℕ) (q r : Refusal) → RefusesTable names.best_first table q → RefusesTable names.best_first table r → q ≡ r
one_table names table q r a b = let m = a.1 in let n = b.1 in let x = a.2 in let y = b.2 in let same : a.0 ≡ b.0 = cc in cc

pub one_session : (session : List ℕ) (q r : Refusal) → RefusesSession session q → RefusesSession session r → q ≡ r
one_session session q r a b = let m = a.1 in let n = b.1 in let x = a.2 in let y = b.2 in let same : a.0 ≡ b.0 = cc in cc

-- a course over table and session is decided where it is after them
pub decided_inputs : (names : InputNames) (next : Input → Session → Course) → ((table : List ℕ) (i : Input) (s : Session) → ReadsTable names.best_first table i → IsDecided (next i s)) → IsDecided (over_inputs names next)
decided_inputs names next decided table = (
  (λ i j p q. cc),
  (λ q r a b. one_table names table q r a b),
  (λ i r p a. let q = a.2 in cc),
  λ i read session.
      ((λ s u p q. cc), (λ q r a b. one_session session q r a b), (λ s r p a. let q = a.2 in cc), λ s other. decided table i s read),
)

-- and so is one over a session without an unsuited line, where at most one line is the first of them
pub decided_suited : (IsFirstUnsuited : List Line → ℕ → Type 0) (names : InputNames) (next : Input → Session → Course) → ((lines : List Line) (m n : ℕ) → IsFirstUnsuited lines m → IsFirstUnsuited lines n → m ≡ n) → ((table : List ℕ) (i : Input) (session : List ℕ) (s : Session) → ReadsTable names.best_first table i → ReadsSuited IsFirstUnsuited session s → IsDecided (next i s)) → IsDecided (over_suited IsFirstUnsuited names next)
decided_suited IsFirstUnsuited names next one decided table = (
  (λ i j p q. cc),
  (λ q r a b. one_table names table q r a b),
  (λ i r p a. let q = a.2 in cc),
  λ i read session.
      ((λ s u p q. let a = p.0 in let b = q.0 in cc), (λ q r a b. one_suited session q r a b), (λ s r p a. read_refused session s r p a), λ s other. decided table i session s read other),
)
  where
    one_suited : (session : List ℕ) (q r : Refusal) → RefusesSuited IsFirstUnsuited session q → RefusesSuited IsFirstUnsuited session r → q ≡ r
    one_suited session q r (inl a) (inl b) = one_session session q r a b
    one_suited session q r (inl a) (inr b) = let x = a.2 in let y = b.2 in absurd cc
    one_suited session q r (inr a) (inl b) = let x = a.2 in let y = b.2 in absurd cc
    one_suited session q r (inr a) (inr b) =
        let x = a.2 in
        let y = b.2 in
        let same : b.0 ≡ a.0 = cc in
        let line = one a.0.lines a.1 b.1 a.3 (subst (λ (s : Session). IsFirstUnsuited s.lines b.1) same b.3) in
        a.4 ∙ ap refusals.Unsuited line ∙ sym b.4

    read_refused : (session : List ℕ) (s : Session) (r : Refusal) → ReadsSuited IsFirstUnsuited session s → RefusesSuited IsFirstUnsuited session r → ⊥
    read_refused session s r p (inl a) = let x = p.0 in let y = a.2 in cc
    read_refused session s r p (inr a) =
        let x = p.0 in
        let y = a.2 in
        let same : a.0 ≡ s = cc in
        p.1 a.1 (subst (λ (u : Session). IsFirstUnsuited u.lines a.1) same a.3)

-- ---- which refusals are whose

-- one that writes never rejects
pub writing_rejects_nothing : (names : InputNames) (output : Input → Session → Output) (n : Rejection) → MayRefuse (refusals.Rejected n) (writing_chore names output).course → ⊥
writing_rejects_nothing names output n (inl a) = let p = a.1.1 in cc
writing_rejects_nothing names output n (inr (bytes, i, read, inl a)) = let p = a.1.1 in cc
writing_rejects_nothing names output n (inr (bytes, i, read, inr rest)) = rest.3

pub suited_rejects_nothing : (IsFirstUnsuited : List Line → ℕ → Type 0) (names : InputNames) (output : Input → Session → Output) (n : Rejection) → MayRefuse (refusals.Rejected n) (suited_writing_chore IsFirstUnsuited names output).course → ⊥
suited_rejects_nothing IsFirstUnsuited names output n (inl a) = let p = a.1.1 in cc
suited_rejects_nothing IsFirstUnsuited names output n (inr (bytes, i, read, inl (other, inl a))) = let p = a.1 in cc
suited_rejects_nothing IsFirstUnsuited names output n (inr (bytes, i, read, inl (other, inr a))) = let p = a.4 in cc
suited_rejects_nothing IsFirstUnsuited names output n (inr (bytes, i, read, inr rest)) = rest.3

-- those over all sessions find no line unsuited
pub writing_suits_all : (names : InputNames) (output : Input → Session → Output) (n : ℕ) → MayRefuse (refusals.Unsuited n) (writing_chore names output).course → ⊥
writing_suits_all names output n (inl a) = let p = a.1.1 in cc
writing_suits_all names output n (inr (bytes, i, read, inl a)) = let p = a.1.1 in cc
writing_suits_all names output n (inr (bytes, i, read, inr rest)) = rest.3

pub judging_suits_all : (names : InputNames) (report : List ℕ) (Proves : Input → Session → List ℕ → Accepted → Type 0) (Rejects : Input → Session → List ℕ → Rejection → Type 0) (output : Input → Session → List ℕ → Accepted → Output) (n : ℕ) → MayRefuse (refusals.Unsuited n) (judging_chore names report Proves Rejects output).course → ⊥
judging_suits_all names report Proves Rejects output n (inl a) = let p = a.1.1 in cc
judging_suits_all names report Proves Rejects output n (inr (bytes, i, read, inl a)) = let p = a.1.1 in cc
judging_suits_all names report Proves Rejects output n (inr (bytes, i, read, inr (session, s, was, inl a))) = let p = a.1.1 in cc
judging_suits_all names report Proves Rejects output n (inr (bytes, i, read, inr (session, s, was, inr rest))) = rest.3

-- those that fetch no levels find none bad
pub writing_has_no_levels : (names : InputNames) (output : Input → Session → Output) (f : LevelsFault) → MayRefuse (refusals.BadLevels f) (writing_chore names output).course → ⊥
writing_has_no_levels names output f (inl a) = let p = a.1.1 in cc
writing_has_no_levels names output f (inr (bytes, i, read, inl a)) = let p = a.1.1 in cc
writing_has_no_levels names output f (inr (bytes, i, read, inr rest)) = rest.3

pub judging_has_no_levels : (names : InputNames) (report : List ℕ) (Proves : Input → Session → List ℕ → Accepted → Type 0) (Rejects : Input → Session → List ℕ → Rejection → Type 0) (output : Input → Session → List ℕ → Accepted → Output) (f : LevelsFault) → MayRefuse (refusals.BadLevels f) (judging_chore names report Proves Rejects output).course → ⊥
judging_has_no_levels names report Proves Rejects output f (inl a) = let p = a.1.1 in cc
judging_has_no_levels names report Proves Rejects output f (inr (bytes, i, read, inl a)) = let p = a.1.1 in cc
judging_has_no_levels names report Proves Rejects output f (inr (bytes, i, read, inr (session, s, was, inl a))) = let p = a.1.1 in cc
judging_has_no_levels names report Proves Rejects output f (inr (bytes, i, read, inr (session, s, was, inr rest))) = rest.3

pub suited_has_no_levels : (IsFirstUnsuited : List Line → ℕ → Type 0) (names : InputNames) (output : Input → Session → Output) (f : LevelsFault) → MayRefuse (refusals.BadLevels f) (suited_writing_chore IsFirstUnsuited names output).course → ⊥
suited_has_no_levels IsFirstUnsuited names output f (inl a) = let p = a.1.1 in cc
suited_has_no_levels IsFirstUnsuited names output f (inr (bytes, i, read, inl (other, inl a))) = let p = a.1 in cc
suited_has_no_levels IsFirstUnsuited names output f (inr (bytes, i, read, inl (other, inr a))) = let p = a.4 in cc
suited_has_no_levels IsFirstUnsuited names output f (inr (bytes, i, read, inr rest)) = rest.3

pub suited_judging_has_no_levels : (IsFirstUnsuited : List Line → ℕ → Type 0) (names : InputNames) (report : List ℕ) (Proves : Input → Session → List ℕ → Accepted → Type 0) (Rejects : Input → Session → List ℕ → Rejection → Type 0) (output : Input → Session → List ℕ → Accepted → Output) (f : LevelsFault) → MayRefuse (refusals.BadLevels f) (suited_judging_chore IsFirstUnsuited names report Proves Rejects output).course → ⊥
suited_judging_has_no_levels IsFirstUnsuited names report Proves Rejects output f (inl a) = let p = a.1.1 in cc
suited_judging_has_no_levels IsFirstUnsuited names report Proves Rejects output f (inr (bytes, i, read, inl (other, inl a))) = let p = a.1 in cc
suited_judging_has_no_levels IsFirstUnsuited names report Proves Rejects output f (inr (bytes, i, read, inl (other, inr a))) = let p = a.4 in cc
suited_judging_has_no_levels IsFirstUnsuited names report Proves Rejects output f (inr (bytes, i, read, inr (session, s, was, inl a))) = let p = a.1.1 in cc
suited_judging_has_no_levels IsFirstUnsuited names report Proves Rejects output f (inr (bytes, i, read, inr (session, s, was, inr rest))) = rest.3
