-- Reading the form of a report, piece by piece: what it is the form of, or that it is none.
use Rattle.std.specs.Prelude.{ℕ, suc, ◌^◌, ◌∷◌, ◌++◌, List, [], Bool, false, not, Option, Some, None, Result, Ok, Err, ℤ, codes, option_and_then, nat_lt, ◌==◌, if◌then◌else◌}
use Rattle.std.specs.List.{list_all}
use Rattle.std.specs.Str.{bytes_eq}
use Rattle.serde_json.specs.Data.{Data, Items, no_items, item, Members, no_members, member}
use Rattle.serde_json.specs.Find.{as_array, as_bool, as_number, as_object, as_str, as_u64}
use Rattle.ror_text.specs.Cursor.{Cursor, cursor_at}
use Rattle.ror_text.specs.Numbers.{number_of}
use Rattle.ror_text.specs.Reading.{◌>>=◌, refuse, need}
use Rattle.ror_statement.specs.declared.question.Question.{Question}
use Rattle.ror_system.specs.declared.accept.Multipliers.{Multipliers}
use Rattle.ror_table.specs.Table.{DecisionTable}
use Rattle.ror_proof.specs.declared.answer.Answer.{Answer}
use Rattle.ror_proof.specs.declared.answer.Certificate.{Certificate}
use Rattle.ror_proof.specs.declared.answer.Certificate.TheVariants as certificates
use Rattle.ror_proof.specs.declared.answer.Part.{Part}
use Rattle.ror_proof.specs.declared.answer.Pivot.{Pivot}
use Rattle.ror_proof.specs.declared.answer.PlaceText.{PlaceText}
use Rattle.ror_proof.specs.declared.answer.PlaceText.TheVariants as places
use Rattle.ror_proof.specs.declared.answer.Proof.{Proof}
use Rattle.ror_proof.specs.declared.answer.Verdict.{Verdict}
use Rattle.ror_proof.specs.declared.answer.Verdict.TheVariants as verdicts
use Rattle.ror_proof.specs.declared.answer.WideText.{WideText}
use Rattle.ror_proof.specs.declared.kept.Dropped.{Dropped}
use Rattle.ror_proof.specs.declared.kept.Kept.{Kept}
use Rattle.ror_proof.specs.declared.names.PlaceName.{PlaceName}
use Rattle.ror_proof.specs.declared.names.PlaceName.TheVariants as named
use Rattle.ror_proof.specs.declared.names.VerdictName.{VerdictName}
use Rattle.ror_proof.specs.declared.names.VerdictName.TheVariants as said
use Rattle.ror_proof.specs.declared.read.ProofFault.{ProofFault}
use Rattle.ror_proof.specs.Names.{name_of, place_names, place_word, verdict_names, verdict_word}
use Rattle.ror_proof.specs.Reading.{answer_at}
use Rattle.ror_report.specs.declared.block.Block.{Block}
use Rattle.ror_report.specs.declared.block.Body.{Body}
use Rattle.ror_report.specs.declared.block.Body.TheVariants as bodies
use Rattle.ror_report.specs.Names.{fault_word, line_faults}
use Rattle.ror_json.specs.declared.fault.JsonFault.{JsonFault}
use Rattle.ror_json.specs.declared.fault.JsonFault.TheVariants.{BadShape, Memory}
use Rattle.ror_json.specs.declared.fault.Misfit.{Misfit}
use Rattle.ror_json.specs.declared.fault.Misfit.TheVariants as misfits
use Rattle.ror_json.specs.declared.keys.BodyKey.{BodyKey}
use Rattle.ror_json.specs.declared.keys.BodyKey.TheVariants as keys
use Rattle.ror_json.specs.declared.keys.CertificateKey.{CertificateKey}
use Rattle.ror_json.specs.declared.keys.CertificateKey.TheVariants as certificate_keys
use Rattle.ror_json.specs.declared.keys.AnswerKey.{AnswerKey}
use Rattle.ror_json.specs.declared.keys.AnswerKey.TheVariants as answer_keys
use Rattle.ror_json.specs.Names.{key_word, early_keys, late_keys, certificate_word, certificate_key_list, answer_word, answer_key_list}

-- what an error says of a value: nothing for want of memory
abbrev pub misfit : Misfit → Option Misfit
misfit misfits.Shape = Some misfits.Shape
misfit misfits.Memory = None

abbrev pub json_fault : JsonFault → Option JsonFault
json_fault (BadShape k) = Some (BadShape k)
json_fault Memory = None

-- the value that there is, else a misfit
abbrev pub shape : {A : Type 0} → Option A → Result A Misfit
shape o = need misfits.Shape o

-- any fault is a misfit
abbrev pub shaped : {A F : Type 0} → Result A F → Result A Misfit
shaped (Ok x) = Ok x
shaped (Err fault) = Err misfits.Shape

-- ---- members and items

-- the value of the member that comes first, which has to have this key, and the members after it
abbrev pub member_at : List ℕ → Members → Result (Data × Members) Misfit
member_at key no_members = Err misfits.Shape
member_at key (member k d more) = if bytes_eq k key then Ok (d, more) else Err misfits.Shape

-- the member that comes first, whose key is the word of one of these, and the members after it
abbrev pub named_member : {N : Type 0} → (N → List ℕ) → List N → Members
    → Result (N × (Data × Members)) Misfit
named_member word_of names no_members = Err misfits.Shape
named_member word_of names (member k d more) = do
  name ← shape (name_of word_of names k)
  Ok (name, (d, more))

abbrev pub no_member : Members → Result (Unit {0}) Misfit
no_member no_members = Ok tt
no_member (member k d more) = Err misfits.Shape

-- the fault of the item of this number
abbrev pub numbered : {A : Type 0} → ℕ → Result A Misfit → Result A JsonFault
numbered k (Ok x) = Ok x
numbered k (Err fault) = Err (BadShape k)

-- what each item is the form of, or the number of the first that is none; the next one's is k
unfoldable pub items_from : {A : Type 0} → (Data → Result A Misfit) → ℕ → Items
    → Result (List A) JsonFault
items_from read k no_items = Ok []
items_from read k (item d ds) = do
  x ← numbered k (read d)
  xs ← items_from read (suc k) ds
  Ok (x ∷ xs)

unfoldable pub list_of : {A : Type 0} → (Data → Result A Misfit) → Data → Result (List A) Misfit
list_of read d = do
  items ← shape (as_array d)
  shaped (items_from read 1 items)

-- ---- single values

abbrev pub small : ℕ → Option ℕ
small n = if nat_lt n (2 ^ 32) then Some n else None

-- a count, a place, a system or the number of a line or of a statement
unfoldable pub count_of : Data → Result ℕ Misfit
count_of d = shape (option_and_then small (option_and_then as_u64 (as_number d)))

unfoldable pub the_count_of : ℕ → Data → Result (Unit {0}) Misfit
the_count_of expected d = do
  n ← count_of d
  refuse misfits.Shape (not (n == expected))

unfoldable pub text_of : Data → Result (List ℕ) Misfit
text_of d = shape (as_str d)

-- which of these the text stands for
unfoldable pub name_in : {N : Type 0} → (N → List ℕ) → List N → Data → Result N Misfit
name_in word_of names d = do
  text ← text_of d
  shape (name_of word_of names text)

-- a number of a certificate
unfoldable pub number_in : Data → Result ℤ Misfit
number_in d = do
  text ← text_of d
  shape (number_of text)

-- ---- certificates

unfoldable pub multipliers_of : Data → Result Multipliers Misfit
multipliers_of d = do
  members ← shape (as_object d)
  strict ← member_at (codes "strict") members
  weak ← member_at (codes "weak") strict.1
  _ ← no_member weak.1
  strict_numbers ← list_of number_in strict.0
  weak_numbers ← list_of number_in weak.0
  Ok (record { weak = weak_numbers; strict = strict_numbers })

-- which certificate a key stands for
abbrev pub certificate_named : CertificateKey → Data → Result Certificate Misfit
certificate_named certificate_keys.Solution d = do
  steps ← list_of number_in d
  Ok (certificates.Solution (record { steps = steps }))
certificate_named certificate_keys.Multipliers d = do
  multipliers ← multipliers_of d
  Ok (certificates.Multipliers multipliers)

-- the members of a certificate, after which there is none
unfoldable pub certificate_in : Members → Result Certificate Misfit
certificate_in members = do
  first ← named_member certificate_word certificate_key_list members
  _ ← no_member first.1.1
  certificate_named first.0 first.1.0

unfoldable pub certificate_of : Data → Result Certificate Misfit
certificate_of d = do
  members ← shape (as_object d)
  certificate_in members

unfoldable pub part_of : Data → Result Part Misfit
part_of d = do
  members ← shape (as_object d)
  at ← member_at (codes "at") members
  number ← count_of at.0
  body ← certificate_in at.1
  Ok (record { at = number; body = body })

-- ---- numbers too wide

-- the first item and those after it
abbrev pub item_at : Items → Result (Data × Items) Misfit
item_at no_items = Err misfits.Shape
item_at (item d ds) = Ok (d, ds)

abbrev pub no_item : Items → Result (Unit {0}) Misfit
no_item no_items = Ok tt
no_item (item d ds) = Err misfits.Shape

unfoldable pub pivot_of : Data → Result Pivot Misfit
pivot_of d = do
  items ← shape (as_array d)
  first ← item_at items
  column ← count_of first.0
  second ← item_at first.1
  row ← count_of second.0
  _ ← no_item second.1
  Ok (record { column = column; row = row })

-- a row and a column, or one of the two, after which there is no item
unfoldable pub entry_in : Items → Result (ℕ × ℕ) Misfit
entry_in items = do
  first ← item_at items
  row ← count_of first.0
  second ← item_at first.1
  column ← count_of second.0
  _ ← no_item second.1
  Ok (row, column)

unfoldable pub single_in : Items → Result ℕ Misfit
single_in items = do
  first ← item_at items
  n ← count_of first.0
  _ ← no_item first.1
  Ok n

-- the place of this name, whose numbers these are
abbrev pub numbered_place : PlaceName → Items → Result PlaceText Misfit
numbered_place named.Start items = do
  entry ← entry_in items
  Ok (places.Start entry.0 entry.1)
numbered_place named.Step items = do
  entry ← entry_in items
  Ok (places.Step entry.0 entry.1)
numbered_place named.Denominator items = do
  row ← single_in items
  Ok (places.Denominator row)
numbered_place named.RowSum items = do
  row ← single_in items
  Ok (places.RowSum row)
numbered_place named.ColumnSum items = do
  column ← single_in items
  Ok (places.ColumnSum column)

unfoldable pub place_of : Data → Result PlaceText Misfit
place_of d = do
  items ← shape (as_array d)
  first ← item_at items
  name ← name_in place_word place_names first.0
  numbered_place name first.1

-- the system, and the first number too wide of it
unfoldable pub wide_of : Data → Result (ℕ × WideText) Misfit
wide_of d = do
  members ← shape (as_object d)
  path ← member_at (codes "path") members
  place ← member_at (codes "place") path.1
  number ← place_of place.0
  system ← member_at (codes "system") place.1
  n ← count_of system.0
  _ ← no_member system.1
  pivots ← list_of pivot_of path.0
  Ok (n, record { path = pivots; place = number })

-- ---- answers

-- an answer to the question, which concludes nothing
abbrev pub asked_text : List ℕ → List ℕ
asked_text question =
    codes "answer " ++ (question ++ (codes " wide" ++ 10 ∷ (codes "wide 0 rowsum 0 path" ++ 10 ∷ [])))

abbrev pub asked : Result (Answer × Cursor) ProofFault → Result Question Misfit
asked (Ok x) = Ok x.0.question
asked (Err fault) = Err misfits.Shape

abbrev pub is_one_line : List ℕ → Bool
is_one_line text = list_all (λ byte. not (byte == 10)) text

-- a question of the table whose words are this text: one line, read as that of an answer
unfoldable pub question_of : DecisionTable → List ℕ → Result Question Misfit
question_of t text = do
  _ ← refuse misfits.Shape (not (is_one_line text))
  asked (answer_at t (cursor_at (asked_text text) 0))

unfoldable pub question_in : DecisionTable → Data → Result Question Misfit
question_in t d = do
  text ← text_of d
  question_of t text

abbrev pub concluded : VerdictName → Proof → Result Verdict Misfit
concluded said.Yes proof = Ok (verdicts.Yes proof)
concluded said.No proof = Ok (verdicts.No proof)
concluded said.Contradiction proof = Ok (verdicts.Contradiction proof)
concluded said.Wide proof = Err misfits.Shape

-- the question and the name of the verdict, after which there is no member
unfoldable pub asked_in : DecisionTable → Members → Result (Question × VerdictName) Misfit
asked_in t members = do
  asks ← member_at (codes "question") members
  question ← question_in t asks.0
  says ← member_at (codes "verdict") asks.1
  name ← name_in verdict_word verdict_names says.0
  _ ← no_member says.1
  Ok (question, name)

-- the values of `base` and of `parts`
unfoldable pub proof_of : Data → Data → Result Proof Misfit
proof_of base parts = do
  certificates ← list_of part_of parts
  certificate ← certificate_of base
  Ok (record { base = certificate; parts = certificates })

-- `base` is before these members, and this is its value
unfoldable pub proved_in : DecisionTable → Data → Members → Result Answer Misfit
proved_in t d members = do
  parts ← member_at (codes "parts") members
  asks ← asked_in t parts.1
  proof ← proof_of d parts.0
  verdict ← concluded asks.1 proof
  Ok (record { question = asks.0; verdict = verdict })

-- the value of a verdict that concludes nothing
unfoldable pub is_unsettled : Data → Result (Unit {0}) Misfit
is_unsettled d = do
  text ← text_of d
  refuse misfits.Shape (not (bytes_eq text (verdict_word said.Wide)))

-- `question` is before these members, and this is its value
unfoldable pub unsettled_in : DecisionTable → Data → Members → Result Answer Misfit
unsettled_in t d members = do
  question ← question_in t d
  says ← member_at (codes "verdict") members
  _ ← is_unsettled says.0
  wide ← member_at (codes "wide") says.1
  _ ← no_member wide.1
  note ← wide_of wide.0
  Ok (record { question = question; verdict = verdicts.Wide note.0 note.1 })

abbrev pub answer_named : DecisionTable → AnswerKey → Data → Members → Result Answer Misfit
answer_named t answer_keys.Base d members = proved_in t d members
answer_named t answer_keys.Question d members = unsettled_in t d members

unfoldable pub answer_of : DecisionTable → Data → Result Answer Misfit
answer_of t d = do
  members ← shape (as_object d)
  first ← named_member answer_word answer_key_list members
  answer_named t first.0 first.1.0 first.1.1

-- ---- repairs

unfoldable pub dropped_of : Data → Result Dropped Misfit
dropped_of d = do
  members ← shape (as_object d)
  proof ← member_at (codes "multipliers") members
  statement ← member_at (codes "number") proof.1
  number ← count_of statement.0
  _ ← no_member statement.1
  multipliers ← multipliers_of proof.0
  Ok (record { number = number; proof = multipliers })

unfoldable pub kept_of : Data → Result Kept Misfit
kept_of d = do
  members ← shape (as_object d)
  base ← member_at (codes "base") members
  statements ← member_at (codes "dropped") base.1
  _ ← no_member statements.1
  dropped ← list_of dropped_of statements.0
  certificate ← certificate_of base.0
  Ok (record { dropped = dropped; base = certificate })

-- the statement at which a repair is too wide, and the first number too wide, of the base system
unfoldable pub repair_wide_of : Data → Result (ℕ × WideText) Misfit
repair_wide_of d = do
  members ← shape (as_object d)
  statement ← member_at (codes "number") members
  number ← count_of statement.0
  wide ← member_at (codes "wide") statement.1
  _ ← no_member wide.1
  note ← wide_of wide.0
  _ ← refuse misfits.Shape (not (note.0 == 0))
  Ok (number, note.1)

-- ---- blocks

unfoldable pub undone_of : Data → Result Body Misfit
undone_of d = do
  done ← shape (as_bool d)
  _ ← refuse misfits.Shape (not done)
  Ok bodies.Undone

-- the body under this key, whose value this is
abbrev pub body_named : DecisionTable → BodyKey → Data → Result Body Misfit
body_named t keys.Added d = do
  n ← count_of d
  Ok (bodies.Added n)
body_named t keys.Withdrawn d = do
  n ← count_of d
  Ok (bodies.Withdrawn n)
body_named t keys.Replaced d = do
  n ← count_of d
  Ok (bodies.Replaced n)
body_named t keys.Undone d = undone_of d
body_named t keys.Repaired d = do
  kept ← kept_of d
  Ok (bodies.Repaired kept)
body_named t keys.RepairWide d = do
  wide ← repair_wide_of d
  Ok (bodies.RepairWide wide.0 wide.1)
body_named t keys.Answers d = do
  answers ← list_of (answer_of t) d
  Ok (bodies.Answers answers)
body_named t keys.Refused d = do
  fault ← name_in fault_word line_faults d
  Ok (bodies.Refused fault)

-- a body, and after it the line's number
unfoldable pub early_block : DecisionTable → Members → Result Block Misfit
early_block t members = do
  first ← named_member key_word early_keys members
  line ← member_at (codes "line") first.1.1
  number ← count_of line.0
  _ ← no_member line.1
  body ← body_named t first.0 first.1.0
  Ok (record { line = number; body = body })

-- the line's number, and after it a body
unfoldable pub late_block : DecisionTable → Members → Result Block Misfit
late_block t members = do
  line ← member_at (codes "line") members
  number ← count_of line.0
  second ← named_member key_word late_keys line.1
  _ ← no_member second.1.1
  body ← body_named t second.0 second.1.0
  Ok (record { line = number; body = body })

abbrev pub begins_with_line : Members → Bool
begins_with_line no_members = false
begins_with_line (member k d more) = bytes_eq k (codes "line")

unfoldable pub block_of : DecisionTable → Data → Result Block Misfit
block_of t d = do
  members ← shape (as_object d)
  if begins_with_line members then late_block t members else early_block t members

-- ---- reports

-- the items of the outer object
unfoldable pub outer_of : Data → Result Items Misfit
outer_of d = do
  members ← shape (as_object d)
  blocks ← member_at (codes "blocks") members
  items ← shape (as_array blocks.0)
  version ← member_at (codes "report") blocks.1
  _ ← the_count_of 1 version.0
  _ ← no_member version.1
  Ok items

unfoldable pub report_of : DecisionTable → Data → Result (List Block) JsonFault
report_of t d = do
  items ← numbered 0 (outer_of d)
  items_from (block_of t) 1 items
