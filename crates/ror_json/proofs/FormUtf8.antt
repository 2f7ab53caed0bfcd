-- The text of a form is UTF-8.
use Rattle.std.proofs.Common.{ℕ, suc, ◌<◌, ◌^◌, List, [], ◌∷◌, ◌++◌, Bool, true, false, codes, refl, arith, ℤ, pos, negsuc}
use Rattle.std.specs.Fmt.{decimal}
use Rattle.std.specs.List.{AllByRecursion}
use Rattle.std.specs.Str.{IsUtf8}
use Rattle.std.proofs.lemmas.Str.{IsUtf8-append, IsUtf8-nil}
use Rattle.json.specs.Print.{quoted}
use Rattle.json.proofs.Printed.Utf8.{IsUtf8-quoted, IsUtf8-boolean}
use Rattle.serde_json.specs.Data.{Data, null, boolean, number, string, array, object, Items, no_items, item, Members, no_members, member, put}
use Rattle.serde_json.specs.Written.{number_text, compact_text, items_text, members_text, comma_if}
use Rattle.ror_system.specs.System.{IsNarrow}
use Rattle.ror_system.specs.declared.accept.Multipliers.{Multipliers}
use Rattle.ror_table.specs.Table.{DecisionTable, IsTable}
use Rattle.ror_proof.specs.declared.answer.Answer.{Answer}
use Rattle.ror_proof.specs.declared.answer.Certificate.{Certificate}
use Rattle.ror_proof.specs.declared.answer.Certificate.TheVariants as certificates
use Rattle.ror_proof.specs.declared.answer.Part.{Part}
use Rattle.ror_proof.specs.declared.answer.Pivot.{Pivot}
use Rattle.ror_proof.specs.declared.answer.PlaceText.{PlaceText}
use Rattle.ror_proof.specs.declared.answer.Proof.{Proof}
use Rattle.ror_proof.specs.declared.answer.Verdict.{Verdict}
use Rattle.ror_proof.specs.declared.answer.Verdict.TheVariants as verdicts
use Rattle.ror_proof.specs.declared.answer.WideText.{WideText}
use Rattle.ror_proof.specs.declared.kept.Dropped.{Dropped}
use Rattle.ror_proof.specs.declared.kept.Kept.{Kept}
use Rattle.ror_proof.specs.declared.names.VerdictName.{VerdictName}
use Rattle.ror_proof.specs.declared.names.VerdictName.TheVariants as said
use Rattle.ror_proof.specs.Names.{place_name}
use Rattle.ror_proof.specs.Text.{place_numbers, AreNarrow, IsNarrowCertificate, IsPrintable, IsPrintableDropped, IsPrintableNote, IsPrintablePart, IsPrintablePivot, IsPrintableProof, IsPrintableVerdict}
use Rattle.ror_report.specs.declared.block.Block.{Block}
use Rattle.ror_report.specs.declared.block.Body.{Body}
use Rattle.ror_report.specs.declared.block.Body.TheVariants as bodies
use Rattle.ror_json.specs.declared.keys.BodyKey.{BodyKey}
use Rattle.ror_json.specs.declared.keys.BodyKey.TheVariants as keys
use Rattle.ror_json.specs.Names.{body_key, key_word}
use Rattle.ror_json.specs.Form.{count_form, number_form, list_form, multipliers_form, certificate_members, part_form, pivot_form, place_form, wide_form, question_text, proved_form, verdict_form, answer_form, dropped_form, kept_form, repair_wide_form, body_form, block_form, report_form, IsFormedKept, IsFormedBody, IsFormedBlock}
use Rattle.ror_proof.proofs.Utf8Lemmas.{ascii_is_utf8, decimal_is_utf8}
use Rattle.ror_json.proofs.WordTexts.{verdict_is_utf8, place_is_utf8, fault_is_utf8, key_is_utf8}
use Rattle.ror_json.proofs.QuestionTexts.{question_text_is_utf8}

-- ---- values without other texts

-- the texts and keys of a value are UTF-8, and so are the digits of its numbers
abbrev mutual
  IsSpelt : Data → Type 0
  IsSpelt null = Unit {0}
  IsSpelt (boolean b) = Unit {0}
  IsSpelt (number n) = IsUtf8 (number_text n)
  IsSpelt (string s) = IsUtf8 s
  IsSpelt (array ds) = AreSpelt ds
  IsSpelt (object ms) = AreSpeltMembers ms

  AreSpelt : Items → Type 0
  AreSpelt no_items = Unit {0}
  AreSpelt (item d ds) = IsSpelt d × AreSpelt ds

  AreSpeltMembers : Members → Type 0
  AreSpeltMembers no_members = Unit {0}
  AreSpeltMembers (member k d ms) = IsUtf8 k × IsSpelt d × AreSpeltMembers ms

comma : (later : Bool) → IsUtf8 (comma_if later)
comma true = ascii_is_utf8 (44 ∷ []) refl
comma false = IsUtf8-nil

mutual
  spelt_text : (d : Data) → IsSpelt d → IsUtf8 (compact_text d)
  spelt_text null h = ascii_is_utf8 _ refl
  spelt_text (boolean b) h = IsUtf8-boolean b
  spelt_text (number n) h = h
  spelt_text (string s) h = IsUtf8-quoted s h
  spelt_text (array ds) h = IsUtf8-append (91 ∷ []) (items_text false ds) (ascii_is_utf8 (91 ∷ []) refl) (spelt_items false ds h)
  spelt_text (object ms) h = IsUtf8-append (123 ∷ []) (members_text false ms) (ascii_is_utf8 (123 ∷ []) refl) (spelt_members false ms h)

  spelt_items : (later : Bool) (ds : Items) → AreSpelt ds → IsUtf8 (items_text later ds)
  spelt_items later no_items h = ascii_is_utf8 (93 ∷ []) refl
  spelt_items later (item d ds) h =
      IsUtf8-append (comma_if later) (compact_text d ++ items_text true ds) (comma later) (IsUtf8-append (compact_text d) (items_text true ds) (spelt_text d h.0) (spelt_items true ds h.1))

  spelt_members : (later : Bool) (ms : Members) → AreSpeltMembers ms → IsUtf8 (members_text later ms)
  spelt_members later no_members h = ascii_is_utf8 (125 ∷ []) refl
  spelt_members later (member k d ms) h =
      let value = IsUtf8-append (compact_text d) (members_text true ms) (spelt_text d h.1) (spelt_members true ms h.2) in
      let behind = IsUtf8-append (58 ∷ []) (compact_text d ++ members_text true ms) (ascii_is_utf8 (58 ∷ []) refl) value in
      IsUtf8-append (comma_if later) (quoted k ++ 58 ∷ (compact_text d ++ members_text true ms)) (comma later) (IsUtf8-append (quoted k) (58 ∷ (compact_text d ++ members_text true ms)) (IsUtf8-quoted k h.0) behind)

-- ---- forms

spelt_count : (n : ℕ) → n < 2 ^ 32 → IsSpelt (count_form n)
spelt_count n below = decimal_is_utf8 n (omega (arith, below))

spelt_number : (z : ℤ) → IsNarrow z → IsSpelt (number_form z)
spelt_number (pos n) narrow = decimal_is_utf8 n (omega (arith, narrow))
spelt_number (negsuc n) narrow = IsUtf8-append (45 ∷ []) (decimal (suc n)) (ascii_is_utf8 (45 ∷ []) refl) (decimal_is_utf8 (suc n) (omega (arith, narrow)))

spelt_list : {A : Type 0} (form : A → Data) (P : A → Type 0) → ((x : A) → P x → IsSpelt (form x)) → (xs : List A) → AllByRecursion P xs → IsSpelt (list_form form xs)
spelt_list form P each [] all = tt
spelt_list form P each (x ∷ xs) all = (each x all.0, spelt_list form P each xs all.1)

spelt_multipliers : (m : Multipliers) → AreNarrow m → IsSpelt (multipliers_form m)
spelt_multipliers m narrow = (
  ascii_is_utf8 (codes "strict") refl,
  spelt_list number_form IsNarrow spelt_number m.strict narrow.1,
  (ascii_is_utf8 (codes "weak") refl, spelt_list number_form IsNarrow spelt_number m.weak narrow.0, tt),
)

spelt_certificate : (c : Certificate) → IsNarrowCertificate c → AreSpeltMembers (certificate_members c)
spelt_certificate (certificates.Solution x) narrow = (ascii_is_utf8 (codes "solution") refl, spelt_list number_form IsNarrow spelt_number x.steps narrow, tt)
spelt_certificate (certificates.Multipliers m) narrow = (ascii_is_utf8 (codes "multipliers") refl, spelt_multipliers m narrow, tt)

spelt_part : (p : Part) → IsPrintablePart p → IsSpelt (part_form p)
spelt_part p h = (ascii_is_utf8 (codes "at") refl, spelt_count p.at h.number, spelt_certificate p.body h.narrow)

spelt_pivot : (p : Pivot) → IsPrintablePivot p → IsSpelt (pivot_form p)
spelt_pivot p h = (spelt_count p.column h.column, (spelt_count p.row h.row, tt))

spelt_place : (p : PlaceText) → AllByRecursion (λ n. n < 2 ^ 32) (place_numbers p) → IsSpelt (place_form p)
spelt_place p h = (place_is_utf8 (place_name p), spelt_list count_form (λ n. n < 2 ^ 32) spelt_count (place_numbers p) h)

spelt_wide : (system : ℕ) (note : WideText) → IsPrintableNote system note → IsSpelt (wide_form system note)
spelt_wide system note h = (
  ascii_is_utf8 (codes "path") refl,
  spelt_list pivot_form IsPrintablePivot spelt_pivot note.path h.path,
  (ascii_is_utf8 (codes "place") refl, spelt_place note.place h.place, (ascii_is_utf8 (codes "system") refl, spelt_count system h.number, tt)),
)

spelt_proved : (question : List ℕ) (name : VerdictName) (proof : Proof) → IsUtf8 question → IsPrintableProof proof → IsSpelt (proved_form question name proof)
spelt_proved question name proof text h = (
  ascii_is_utf8 (codes "base") refl,
  spelt_certificate proof.base h.base,
  (
    ascii_is_utf8 (codes "parts") refl,
    spelt_list part_form IsPrintablePart spelt_part proof.parts h.parts,
    (ascii_is_utf8 (codes "question") refl, text, (ascii_is_utf8 (codes "verdict") refl, verdict_is_utf8 name, tt)),
  ),
)

spelt_verdict : (question : List ℕ) (verdict : Verdict) → IsUtf8 question → IsPrintableVerdict verdict → IsSpelt (verdict_form question verdict)
spelt_verdict question (verdicts.Yes proof) text h = spelt_proved question said.Yes proof text h
spelt_verdict question (verdicts.No proof) text h = spelt_proved question said.No proof text h
spelt_verdict question (verdicts.Contradiction proof) text h = spelt_proved question said.Contradiction proof text h
spelt_verdict question (verdicts.Wide system note) text h = (
  ascii_is_utf8 (codes "question") refl,
  text,
  (ascii_is_utf8 (codes "verdict") refl, verdict_is_utf8 said.Wide, (ascii_is_utf8 (codes "wide") refl, spelt_wide system note h, tt)),
)

spelt_dropped : (d : Dropped) → IsPrintableDropped d → IsSpelt (dropped_form d)
spelt_dropped d h = (ascii_is_utf8 (codes "multipliers") refl, spelt_multipliers d.proof h.narrow, (ascii_is_utf8 (codes "number") refl, spelt_count d.number h.number, tt))

spelt_kept : (x : Kept) → IsFormedKept x → IsSpelt (kept_form x)
spelt_kept x h = (
  ascii_is_utf8 (codes "base") refl,
  spelt_certificate x.base h.base,
  (ascii_is_utf8 (codes "dropped") refl, spelt_list dropped_form IsPrintableDropped spelt_dropped x.dropped h.dropped, tt),
)

spelt_repair_wide : (n : ℕ) (note : WideText) → n < 2 ^ 32 → IsPrintableNote 0 note → IsSpelt (repair_wide_form n note)
spelt_repair_wide n note below h = (ascii_is_utf8 (codes "number") refl, spelt_count n below, (ascii_is_utf8 (codes "wide") refl, spelt_wide 0 note h, tt))

-- a body under its key, and the line's number
abbrev keyed : BodyKey → Data → Data → Data
keyed key line body = object (put (codes "line") line (put (key_word key) body no_members))

line_key : IsUtf8 (codes "line")
line_key = ascii_is_utf8 (codes "line") refl

spelt_keyed : (key : BodyKey) (line body : Data) → IsSpelt line → IsSpelt body → IsSpelt (keyed key line body)
spelt_keyed keys.Added line body l b = (key_is_utf8 keys.Added, b, (line_key, l, tt))
spelt_keyed keys.Answers line body l b = (key_is_utf8 keys.Answers, b, (line_key, l, tt))
spelt_keyed keys.Refused line body l b = (line_key, l, (key_is_utf8 keys.Refused, b, tt))
spelt_keyed keys.RepairWide line body l b = (line_key, l, (key_is_utf8 keys.RepairWide, b, tt))
spelt_keyed keys.Repaired line body l b = (line_key, l, (key_is_utf8 keys.Repaired, b, tt))
spelt_keyed keys.Replaced line body l b = (line_key, l, (key_is_utf8 keys.Replaced, b, tt))
spelt_keyed keys.Undone line body l b = (line_key, l, (key_is_utf8 keys.Undone, b, tt))
spelt_keyed keys.Withdrawn line body l b = (line_key, l, (key_is_utf8 keys.Withdrawn, b, tt))

module _ (t : DecisionTable) (table : IsTable t) where
  spelt_answer : (x : Answer) → IsPrintable t x → IsSpelt (answer_form t x)
  spelt_answer x h = spelt_verdict (question_text t x.question) x.verdict (question_text_is_utf8 t x.question table h.named) h.concluded

  spelt_body : (b : Body) → IsFormedBody t b → IsSpelt (body_form t b)
  spelt_body (bodies.Added n) h = spelt_count n h
  spelt_body (bodies.Withdrawn n) h = spelt_count n h
  spelt_body (bodies.Replaced n) h = spelt_count n h
  spelt_body bodies.Undone h = tt
  spelt_body (bodies.Repaired kept) h = spelt_kept kept h
  spelt_body (bodies.RepairWide n note) h = spelt_repair_wide n note h.0 h.1
  spelt_body (bodies.Answers answers) h = spelt_list (answer_form t) (IsPrintable t) spelt_answer answers h
  spelt_body (bodies.Refused fault) h = fault_is_utf8 fault

  spelt_block : (b : Block) → IsFormedBlock t b → IsSpelt (block_form t b)
  spelt_block b h = spelt_keyed (body_key b.body) (count_form b.line) (body_form t b.body) (spelt_count b.line h.number) (spelt_body b.body h.body)

  -- the text of a report is UTF-8
  pub form_text_is_utf8 : (blocks : List Block) → AllByRecursion (IsFormedBlock t) blocks → IsUtf8 (compact_text (report_form t blocks))
  form_text_is_utf8 blocks h = spelt_text (report_form t blocks) (
    ascii_is_utf8 (codes "blocks") refl,
    spelt_list (block_form t) (IsFormedBlock t) spelt_block blocks h,
    (ascii_is_utf8 (codes "report") refl, spelt_count 1 (omega arith), tt),
  )
