-- What a kind of entries of a report is, over the type of its entries, and the laws that it keeps.
use Rattle.std.specs.Prelude.{◌≡◌, ◌↔◌, ℕ, ◌+◌, ◌<◌, ◌^◌, false, List, ◌++◌, length, Result, Ok}
use Rattle.std.specs.Str.{IsUtf8}
use Rattle.ror_text.specs.Cursor.{Cursor}
use Rattle.ror_proof.specs.declared.read.ProofFault.{ProofFault}
use Rattle.ror_report.specs.Reading.{begins_end}
use Rattle.ror_report.specs.Text.{end_text}
use Rattle.ror_bench.specs.declared.bench.Passed.{Passed}
use Rattle.ror_bench.specs.declared.report.Reason.{Reason}

-- Places are counted from 0. Of an entry a kind says its text, whether it has one, what may stand behind that, and how it is read;
-- how many are due, and which is proved at a place but for what is too wide; for what reason one is refused there; how many
-- of its answers have a proof and how many are too wide; and what is true of one that is proved.
pub record Kind (E : Type 0) : Type 1 where
  pub text : E → List ℕ
  pub IsPrintable : E → Type 0
  pub MayFollow : E → List ℕ → Type 0
  pub reads : Cursor → Result (E × Cursor) ProofFault
  pub count : ℕ
  pub IsProved : ℕ → E → Type 0
  pub Refuses : ℕ → E → Reason → Type 0
  pub passed : E → Passed
  pub IsTrue : ℕ → E → Type 0

-- from the cursor on stands the text of an entry that has one, and after it what may follow it
pub record IsEntryText {E : Type 0} (kind : Kind E) (c : Cursor) (x : E) (after : Cursor) : Type 0 where
  pub text : c.rest ≡ kind.text x ++ after.rest
  pub place : after.place ≡ c.place + length (kind.text x)
  pub printable : kind.IsPrintable x
  pub follows : kind.MayFollow x after.rest

-- An entry is read exactly where its text stands. That begins as no last line does, and both an entry and a last line may follow
-- an entry. One that is proved at a place is refused there for no reason, and is true.
pub record IsKind {E : Type 0} (kind : Kind E) : Type 0 where
  pub few : kind.count < 2 ^ 32
  pub read_iff_text : (c : Cursor) (x : E) (after : Cursor)
      → (kind.reads c ≡ Ok (x, after)) ↔ IsEntryText kind c x after
  pub begins_no_end : (x : E) (rest : List ℕ) → kind.IsPrintable x
      → begins_end (kind.text x ++ rest) ≡ false
  pub entry_follows : (x next : E) (rest : List ℕ) → kind.IsPrintable x → kind.IsPrintable next
      → kind.MayFollow x (kind.text next ++ rest)
  pub end_follows : (x : E) (n : ℕ) → kind.IsPrintable x → kind.MayFollow x (end_text n)
  pub utf8 : (x : E) → kind.IsPrintable x → IsUtf8 (kind.text x)
  pub proved_not_refused : (place : ℕ) (x : E) (reason : Reason) → kind.IsProved place x
      → kind.Refuses place x reason → ⊥
  pub proved_is_true : (place : ℕ) (x : E) → kind.IsProved place x → kind.IsTrue place x

-- an entry is refused at a place for one reason at most
abbrev pub HasOneReason : {E : Type 0} → Kind E → Type 0
HasOneReason {E} kind = (place : ℕ) (x : E) (one other : Reason) → kind.Refuses place x one
    → kind.Refuses place x other → one ≡ other

-- two kinds have the same entries, with the same texts and counts
pub record WriteTheSame {E : Type 0} (one other : Kind E) : Type 0 where
  pub count : one.count ≡ other.count
  pub text : one.text ≡ other.text
  pub passed : one.passed ≡ other.passed
  pub printable : (x : E) → one.IsPrintable x ↔ other.IsPrintable x

-- two kinds write, read and judge the same
pub record IsSameKind {E : Type 0} (one other : Kind E) : Type 0 where
  pub writes : WriteTheSame one other
  pub reads : one.reads ≡ other.reads
  pub may_follow : (x : E) (rest : List ℕ) → one.MayFollow x rest ↔ other.MayFollow x rest
  pub proved : (place : ℕ) (x : E) → one.IsProved place x ↔ other.IsProved place x
  pub refuses : (place : ℕ) (x : E) (reason : Reason)
      → one.Refuses place x reason ↔ other.Refuses place x reason
  pub is_true : (place : ℕ) (x : E) → one.IsTrue place x ↔ other.IsTrue place x
