-- A form holds no float and nests nine deep at most, and its text is read as it.
use Rattle.std.proofs.Common.{◌≡◌, ℕ, suc, ◌<◌, ◌≤◌, ◌^◌, max, List, [], ◌∷◌, ◌++◌, map, Bool, false, ◌||◌, Option, Some, option_and_then, nat_cmp, Ordering, Less, Equal, Greater, codes, refl, sym, ap, ap₂, ◌∙◌, arith, append-nil, ℤ}
use Rattle.std.specs.Cmp.Lexicographic.{slice_cmp}
use Rattle.std.specs.Ordering.{match_ordering}
use Rattle.std.specs.List.{AllByRecursion}
use Rattle.json.specs.Json as json
use Rattle.json.specs.Lex.{tokens}
use Rattle.json.specs.Token.{Token}
use Rattle.json.specs.Tree as tree
use Rattle.json.specs.Tree.{json_tokens, HasNumbers, ItemsHaveNumbers}
use Rattle.json.proofs.Printed.Decimals.{IsNumber-decimal}
use Rattle.json.proofs.Printed.Tokens.{tokens-print}
use Rattle.json.proofs.Printed.Trees.{value-json_tokens, ArePrintable-json_tokens}
use Rattle.serde_json.specs.Data.{Data, null, boolean, number, string, array, object, Items, no_items, item, Members, no_members, member, put, depth, items_depth, members_depth}
use Rattle.serde_json.specs.Read.{of_json, of_items, max_depth, read}
use Rattle.serde_json.specs.View.{items_of}
use Rattle.serde_json.specs.Written.{compact_text, has_float, items_have_float, members_have_float, outline, items_outline, members_outline}
use Rattle.serde_json.proofs.Numbers.{number_of-decimal}
use Rattle.serde_json.proofs.Texts.{print-outline}
use Rattle.ror_system.specs.System.{IsNarrow}
use Rattle.ror_system.specs.declared.accept.Multipliers.{Multipliers}
use Rattle.ror_table.specs.Table.{DecisionTable}
use Rattle.ror_proof.specs.declared.answer.Answer.{Answer}
use Rattle.ror_proof.specs.declared.answer.Certificate.{Certificate}
use Rattle.ror_proof.specs.declared.answer.Certificate.TheVariants as certificates
use Rattle.ror_proof.specs.declared.answer.Part.{Part}
use Rattle.ror_proof.specs.declared.answer.Pivot.{Pivot}
use Rattle.ror_proof.specs.declared.answer.PlaceText.{PlaceText}
use Rattle.ror_proof.specs.declared.answer.Proof.{Proof}
use Rattle.ror_proof.specs.declared.answer.Verdict.{Verdict}
use Rattle.ror_proof.specs.declared.answer.Verdict.TheVariants as verdicts
use Rattle.ror_proof.specs.declared.answer.WideText.{WideText}
use Rattle.ror_proof.specs.declared.kept.Dropped.{Dropped}
use Rattle.ror_proof.specs.declared.kept.Kept.{Kept}
use Rattle.ror_proof.specs.declared.names.VerdictName.{VerdictName}
use Rattle.ror_proof.specs.declared.names.VerdictName.TheVariants as said
use Rattle.ror_proof.specs.Names.{verdict_word}
use Rattle.ror_proof.specs.Text.{place_numbers, AreNarrow, IsNarrowCertificate, IsPrintable, IsPrintableDropped, IsPrintableNote, IsPrintablePart, IsPrintablePivot, IsPrintableProof, IsPrintableVerdict}
use Rattle.ror_report.specs.declared.block.Block.{Block}
use Rattle.ror_report.specs.declared.block.Body.{Body}
use Rattle.ror_report.specs.declared.block.Body.TheVariants as bodies
use Rattle.ror_json.proofs.LineTexts.{tokens-line}
use Rattle.ror_json.specs.declared.keys.BodyKey.{BodyKey}
use Rattle.ror_json.specs.declared.keys.BodyKey.TheVariants as keys
use Rattle.ror_json.specs.Names.{body_key, key_word}
use Rattle.ror_json.specs.Form.{count_form, number_form, list_form, multipliers_form, certificate_members, certificate_form, part_form, pivot_form, place_form, wide_form, question_text, proved_form, unsettled_form, verdict_form, answer_form, dropped_form, kept_form, repair_wide_form, body_form, block_form, report_form, IsFormedKept, IsFormedBody, IsFormedBlock}

-- ---- no float, and at most so many levels

record IsFlat (n : ℕ) (d : Data) : Type 0 where
  floatless : has_float d ≡ false
  shallow : depth d ≤ n

record AreFlat (n : ℕ) (ms : Members) : Type 0 where
  floatless : members_have_float ms ≡ false
  shallow : members_depth ms ≤ n

record AreFlatItems (n : ℕ) (ds : Items) : Type 0 where
  floatless : items_have_float ds ≡ false
  shallow : items_depth ds ≤ n

deeper : (n m : ℕ) (d : Data) → n ≤ m → IsFlat n d → IsFlat m d
deeper n m d more flat = record { floatless = flat.floatless; shallow = omega (arith, flat.shallow) }

both_false : (a b : Bool) → a ≡ false → b ≡ false → (a || b) ≡ false
both_false a b x y = rw (x, y) refl

at_most : (a b n : ℕ) → a ≤ n → b ≤ n → max a b ≤ n
at_most a b n x y = omega arith

flat_items : {A : Type 0} (n : ℕ) (form : A → Data) → ((x : A) → IsFlat n (form x)) → (xs : List A) → AreFlatItems n (items_of (map form xs))
flat_items n form each [] = record { floatless = refl; shallow = omega arith }
flat_items n form each (x ∷ xs) =
    let one = each x in
    let rest = flat_items n form each xs in
    record { floatless = both_false _ _ one.floatless rest.floatless; shallow = at_most (depth (form x)) (items_depth (items_of (map form xs))) n one.shallow rest.shallow }

flat_list : {A : Type 0} (n : ℕ) (form : A → Data) → ((x : A) → IsFlat n (form x)) → (xs : List A) → IsFlat (suc n) (list_form form xs)
flat_list n form each xs = let all = flat_items n form each xs in record { floatless = all.floatless; shallow = omega (arith, all.shallow) }

no_more : (n : ℕ) → AreFlat n no_members
no_more n = record { floatless = refl; shallow = omega arith }

flat_member : (n : ℕ) (key : List ℕ) (d : Data) (ms : Members) → IsFlat n d → AreFlat n ms → AreFlat n (member key d ms)
flat_member n key d ms one rest = record { floatless = both_false (has_float d) (members_have_float ms) one.floatless rest.floatless; shallow = at_most (depth d) (members_depth ms) n one.shallow rest.shallow }

flat_object : (n : ℕ) (ms : Members) → AreFlat n ms → IsFlat (suc n) (object ms)
flat_object n ms all = record { floatless = all.floatless; shallow = omega (arith, all.shallow) }

flat_text : (n : ℕ) (text : List ℕ) → IsFlat n (string text)
flat_text n text = record { floatless = refl; shallow = omega arith }

flat_count : (n k : ℕ) → IsFlat n (count_form k)
flat_count n k = record { floatless = refl; shallow = omega arith }

flat_numbers : (zs : List ℤ) → IsFlat 1 (list_form number_form zs)
flat_numbers zs = flat_list 0 number_form (λ z. flat_text 0 _) zs

flat_multipliers : (m : Multipliers) → IsFlat 2 (multipliers_form m)
flat_multipliers m =
    flat_object 1 _ (flat_member 1 (codes "strict") (list_form number_form m.strict) _ (flat_numbers m.strict) (flat_member 1 (codes "weak") (list_form number_form m.weak) no_members (flat_numbers m.weak) (no_more 1)))

flat_certificate_members : (c : Certificate) → AreFlat 2 (certificate_members c)
flat_certificate_members (certificates.Solution x) = flat_member 2 (codes "solution") (list_form number_form x.steps) no_members (deeper 1 2 _ (omega arith) (flat_numbers x.steps)) (no_more 2)
flat_certificate_members (certificates.Multipliers m) = flat_member 2 (codes "multipliers") (multipliers_form m) no_members (flat_multipliers m) (no_more 2)

flat_certificate : (c : Certificate) → IsFlat 3 (certificate_form c)
flat_certificate c = flat_object 2 (certificate_members c) (flat_certificate_members c)

flat_part : (p : Part) → IsFlat 3 (part_form p)
flat_part p = flat_object 2 _ (flat_member 2 (codes "at") (count_form p.at) (certificate_members p.body) (flat_count 2 p.at) (flat_certificate_members p.body))

flat_pivot : (p : Pivot) → IsFlat 1 (pivot_form p)
flat_pivot p = record { floatless = refl; shallow = omega arith }

flat_place : (p : PlaceText) → IsFlat 1 (place_form p)
flat_place p =
    let all = flat_items 0 count_form (flat_count 0) (place_numbers p) in
    record { floatless = all.floatless; shallow = omega (arith, all.shallow) }

flat_wide : (system : ℕ) (note : WideText) → IsFlat 3 (wide_form system note)
flat_wide system note =
    flat_object 2 _ (flat_member 2 (codes "path") (list_form pivot_form note.path) _ (flat_list 1 pivot_form flat_pivot note.path) (flat_member 2 (codes "place") (place_form note.place) _ (deeper 1 2 _ (omega arith) (flat_place note.place)) (flat_member 2 (codes "system") (count_form system) no_members (flat_count 2 system) (no_more 2))))

flat_proved : (question : List ℕ) (name : VerdictName) (proof : Proof) → IsFlat 5 (proved_form question name proof)
flat_proved question name proof =
    flat_object 4 _ (flat_member 4 (codes "base") (certificate_form proof.base) _ (deeper 3 4 _ (omega arith) (flat_certificate proof.base)) (flat_member 4 (codes "parts") (list_form part_form proof.parts) _ (flat_list 3 part_form flat_part proof.parts) (flat_member 4 (codes "question") (string question) _ (flat_text 4 question) (flat_member 4 (codes "verdict") (string (verdict_word name)) no_members (flat_text 4 _) (no_more 4)))))

flat_unsettled : (question : List ℕ) (system : ℕ) (note : WideText) → IsFlat 5 (unsettled_form question system note)
flat_unsettled question system note =
    flat_object 4 _ (flat_member 4 (codes "question") (string question) _ (flat_text 4 question) (flat_member 4 (codes "verdict") (string (verdict_word said.Wide)) _ (flat_text 4 _) (flat_member 4 (codes "wide") (wide_form system note) no_members (deeper 3 4 _ (omega arith) (flat_wide system note)) (no_more 4))))

flat_verdict : (question : List ℕ) (verdict : Verdict) → IsFlat 5 (verdict_form question verdict)
flat_verdict question (verdicts.Yes proof) = flat_proved question said.Yes proof
flat_verdict question (verdicts.No proof) = flat_proved question said.No proof
flat_verdict question (verdicts.Contradiction proof) = flat_proved question said.Contradiction proof
flat_verdict question (verdicts.Wide system note) = flat_unsettled question system note

flat_dropped : (d : Dropped) → IsFlat 3 (dropped_form d)
flat_dropped d =
    flat_object 2 _ (flat_member 2 (codes "multipliers") (multipliers_form d.proof) _ (flat_multipliers d.proof) (flat_member 2 (codes "number") (count_form d.number) no_members (flat_count 2 d.number) (no_more 2)))

flat_kept : (x : Kept) → IsFlat 6 (kept_form x)
flat_kept x =
    flat_object 5 _ (flat_member 5 (codes "base") (certificate_form x.base) _ (deeper 3 5 _ (omega arith) (flat_certificate x.base)) (flat_member 5 (codes "dropped") (list_form dropped_form x.dropped) no_members (deeper 4 5 _ (omega arith) (flat_list 3 dropped_form flat_dropped x.dropped)) (no_more 5)))

flat_repair_wide : (n : ℕ) (note : WideText) → IsFlat 6 (repair_wide_form n note)
flat_repair_wide n note =
    flat_object 5 _ (flat_member 5 (codes "number") (count_form n) _ (flat_count 5 n) (flat_member 5 (codes "wide") (wide_form 0 note) no_members (deeper 3 5 _ (omega arith) (flat_wide 0 note)) (no_more 5)))

flat_body : (t : DecisionTable) (b : Body) → IsFlat 6 (body_form t b)
flat_body t (bodies.Added n) = flat_count 6 n
flat_body t (bodies.Withdrawn n) = flat_count 6 n
flat_body t (bodies.Replaced n) = flat_count 6 n
flat_body t bodies.Undone = record { floatless = refl; shallow = omega arith }
flat_body t (bodies.Repaired kept) = flat_kept kept
flat_body t (bodies.RepairWide n note) = flat_repair_wide n note
flat_body t (bodies.Answers answers) = flat_list 5 (answer_form t) (λ x. flat_verdict (question_text t x.question) x.verdict) answers
flat_body t (bodies.Refused fault) = flat_text 6 _

-- two members, in either order
flat_two : (n : ℕ) (k l : List ℕ) (d e : Data) → IsFlat n d → IsFlat n e → AreFlat n (put k d (put l e no_members))
flat_two n k l d e one two = by (slice_cmp nat_cmp k l)
  where
    by : (r : Ordering) → AreFlat n (match_ordering r (member k d (member l e no_members)) (member l d no_members) (member l e (member k d no_members)))
    by Less = flat_member n k d (member l e no_members) one (flat_member n l e no_members two (no_more n))
    by Equal = flat_member n l d no_members one (no_more n)
    by Greater = flat_member n l e (member k d no_members) two (flat_member n k d no_members one (no_more n))

flat_block : (t : DecisionTable) (b : Block) → IsFlat 7 (block_form t b)
flat_block t b = flat_object 6 _ (flat_two 6 (codes "line") (key_word (body_key b.body)) (count_form b.line) (body_form t b.body) (flat_count 6 b.line) (flat_body t b.body))

flat_report : (t : DecisionTable) (blocks : List Block) → IsFlat 9 (report_form t blocks)
flat_report t blocks =
    flat_object 8 _ (flat_member 8 (codes "blocks") (list_form (block_form t) blocks) _ (flat_list 7 (block_form t) (flat_block t) blocks) (flat_member 8 (codes "report") (count_form 1) no_members (flat_count 8 1) (no_more 8)))

pub no_float : (t : DecisionTable) (blocks : List Block) → has_float (report_form t blocks) ≡ false
no_float t blocks = let flat = flat_report t blocks in flat.floatless

pub nine_deep : (t : DecisionTable) (blocks : List Block) → depth (report_form t blocks) ≤ 9
nine_deep t blocks = let flat = flat_report t blocks in flat.shallow

-- ---- what is read of the text

record IsRestored (d : Data) : Type 0 where
  same : of_json (outline d) ≡ Some d
  numbers : HasNumbers (outline d)

record AreRestoredItems (ds : Items) : Type 0 where
  same : of_items (items_outline ds) ≡ Some ds
  numbers : ItemsHaveNumbers (items_outline ds)

restored_count : (n : ℕ) → n < 2 ^ 32 → IsRestored (count_form n)
restored_count n below =
    let fits : n < 2 ^ 64 = omega arith in
    record { same = rw (number_of-decimal n fits) refl; numbers = IsNumber-decimal n fits }

restored_text : (text : List ℕ) → IsRestored (string text)
restored_text text = record { same = refl; numbers = tt }

restored_items : {A : Type 0} (form : A → Data) (P : A → Type 0) → ((x : A) → P x → IsRestored (form x)) → (xs : List A) → AllByRecursion P xs → AreRestoredItems (items_of (map form xs))
restored_items form P each [] all = record { same = refl; numbers = tt }
restored_items form P each (x ∷ xs) all =
    let one = each x all.0 in
    let rest = restored_items form P each xs all.1 in
    record { same = rw (one.same, rest.same) refl; numbers = (one.numbers, rest.numbers) }

restored_list : {A : Type 0} (form : A → Data) (P : A → Type 0) → ((x : A) → P x → IsRestored (form x)) → (xs : List A) → AllByRecursion P xs → IsRestored (list_form form xs)
restored_list form P each xs all = let items = restored_items form P each xs all in record { same = rw items.same refl; numbers = items.numbers }

restored_numbers : (zs : List ℤ) → AllByRecursion IsNarrow zs → IsRestored (list_form number_form zs)
restored_numbers zs narrow = restored_list number_form IsNarrow (λ z h. restored_text _) zs narrow

restored_multipliers : (m : Multipliers) → AreNarrow m → IsRestored (multipliers_form m)
restored_multipliers m narrow =
    let strict = restored_numbers m.strict narrow.1 in
    let weak = restored_numbers m.weak narrow.0 in
    record { same = rw (strict.same, weak.same) refl; numbers = (strict.numbers, (weak.numbers, tt)) }

restored_certificate : (c : Certificate) → IsNarrowCertificate c → IsRestored (certificate_form c)
restored_certificate (certificates.Solution x) narrow = let steps = restored_numbers x.steps narrow in record { same = rw steps.same refl; numbers = (steps.numbers, tt) }
restored_certificate (certificates.Multipliers m) narrow = let body = restored_multipliers m narrow in record { same = rw body.same refl; numbers = (body.numbers, tt) }

abbrev the_part : ℕ → Certificate → Part
the_part at body = record { at = at; body = body }

restored_part_of : (at : ℕ) (c : Certificate) → at < 2 ^ 32 → IsNarrowCertificate c → IsRestored (part_form (the_part at c))
restored_part_of at (certificates.Solution x) below narrow =
    let count = restored_count at below in
    let steps = restored_numbers x.steps narrow in
    record { same = rw (count.same, steps.same) refl; numbers = (count.numbers, (steps.numbers, tt)) }
restored_part_of at (certificates.Multipliers m) below narrow =
    let count = restored_count at below in
    let body = restored_multipliers m narrow in
    record { same = rw (count.same, body.same) refl; numbers = (count.numbers, (body.numbers, tt)) }

restored_part : (p : Part) → IsPrintablePart p → IsRestored (part_form p)
restored_part p h = restored_part_of p.at p.body h.number h.narrow

restored_pivot : (p : Pivot) → IsPrintablePivot p → IsRestored (pivot_form p)
restored_pivot p h =
    let column = restored_count p.column h.column in
    let row = restored_count p.row h.row in
    record { same = rw (column.same, row.same) refl; numbers = (column.numbers, (row.numbers, tt)) }

abbrev IsSmall : ℕ → Type 0
IsSmall n = n < 2 ^ 32

restored_place : (p : PlaceText) → AllByRecursion IsSmall (place_numbers p) → IsRestored (place_form p)
restored_place p h =
    let all = restored_items count_form IsSmall restored_count (place_numbers p) h in
    record { same = rw all.same refl; numbers = (tt, all.numbers) }

restored_wide : (system : ℕ) (note : WideText) → IsPrintableNote system note → IsRestored (wide_form system note)
restored_wide system note h =
    let path = restored_list pivot_form IsPrintablePivot restored_pivot note.path h.path in
    let place = restored_place note.place h.place in
    let count = restored_count system h.number in
    record { same = rw (path.same, place.same, count.same) refl; numbers = (path.numbers, (place.numbers, (count.numbers, tt))) }

restored_proved : (question : List ℕ) (name : VerdictName) (proof : Proof) → IsPrintableProof proof → IsRestored (proved_form question name proof)
restored_proved question name proof h =
    let base = restored_certificate proof.base h.base in
    let parts = restored_list part_form IsPrintablePart restored_part proof.parts h.parts in
    record { same = rw (base.same, parts.same) refl; numbers = (base.numbers, (parts.numbers, (tt, (tt, tt)))) }

restored_verdict : (question : List ℕ) (verdict : Verdict) → IsPrintableVerdict verdict → IsRestored (verdict_form question verdict)
restored_verdict question (verdicts.Yes proof) h = restored_proved question said.Yes proof h
restored_verdict question (verdicts.No proof) h = restored_proved question said.No proof h
restored_verdict question (verdicts.Contradiction proof) h = restored_proved question said.Contradiction proof h
restored_verdict question (verdicts.Wide system note) h =
    let wide = restored_wide system note h in
    record { same = rw wide.same refl; numbers = (tt, (tt, (wide.numbers, tt))) }

restored_answer : (t : DecisionTable) (x : Answer) → IsPrintable t x → IsRestored (answer_form t x)
restored_answer t x h = restored_verdict (question_text t x.question) x.verdict h.concluded

restored_dropped : (d : Dropped) → IsPrintableDropped d → IsRestored (dropped_form d)
restored_dropped d h =
    let body = restored_multipliers d.proof h.narrow in
    let count = restored_count d.number h.number in
    record { same = rw (body.same, count.same) refl; numbers = (body.numbers, (count.numbers, tt)) }

restored_kept : (x : Kept) → IsFormedKept x → IsRestored (kept_form x)
restored_kept x h =
    let base = restored_certificate x.base h.base in
    let dropped = restored_list dropped_form IsPrintableDropped restored_dropped x.dropped h.dropped in
    record { same = rw (base.same, dropped.same) refl; numbers = (base.numbers, (dropped.numbers, tt)) }

restored_repair_wide : (n : ℕ) (note : WideText) → n < 2 ^ 32 → IsPrintableNote 0 note → IsRestored (repair_wide_form n note)
restored_repair_wide n note below h =
    let count = restored_count n below in
    let wide = restored_wide 0 note h in
    record { same = rw (count.same, wide.same) refl; numbers = (count.numbers, (wide.numbers, tt)) }

restored_body : (t : DecisionTable) (b : Body) → IsFormedBody t b → IsRestored (body_form t b)
restored_body t (bodies.Added n) h = restored_count n h
restored_body t (bodies.Withdrawn n) h = restored_count n h
restored_body t (bodies.Replaced n) h = restored_count n h
restored_body t bodies.Undone h = record { same = refl; numbers = tt }
restored_body t (bodies.Repaired kept) h = restored_kept kept h
restored_body t (bodies.RepairWide n note) h = restored_repair_wide n note h.0 h.1
restored_body t (bodies.Answers answers) h = restored_list (answer_form t) (IsPrintable t) (restored_answer t) answers h
restored_body t (bodies.Refused fault) h = restored_text _

-- a body under its key, and the line's number
abbrev keyed : BodyKey → Data → Data → Data
keyed key line body = object (put (codes "line") line (put (key_word key) body no_members))

restored_keyed : (key : BodyKey) (line body : Data) → IsRestored line → IsRestored body → IsRestored (keyed key line body)
restored_keyed keys.Added line body l b = record { same = rw (l.same, b.same) refl; numbers = (b.numbers, (l.numbers, tt)) }
restored_keyed keys.Answers line body l b = record { same = rw (l.same, b.same) refl; numbers = (b.numbers, (l.numbers, tt)) }
restored_keyed keys.Refused line body l b = record { same = rw (l.same, b.same) refl; numbers = (l.numbers, (b.numbers, tt)) }
restored_keyed keys.RepairWide line body l b = record { same = rw (l.same, b.same) refl; numbers = (l.numbers, (b.numbers, tt)) }
restored_keyed keys.Repaired line body l b = record { same = rw (l.same, b.same) refl; numbers = (l.numbers, (b.numbers, tt)) }
restored_keyed keys.Replaced line body l b = record { same = rw (l.same, b.same) refl; numbers = (l.numbers, (b.numbers, tt)) }
restored_keyed keys.Undone line body l b = record { same = rw (l.same, b.same) refl; numbers = (l.numbers, (b.numbers, tt)) }
restored_keyed keys.Withdrawn line body l b = record { same = rw (l.same, b.same) refl; numbers = (l.numbers, (b.numbers, tt)) }

restored_block : (t : DecisionTable) (b : Block) → IsFormedBlock t b → IsRestored (block_form t b)
restored_block t b h = restored_keyed (body_key b.body) (count_form b.line) (body_form t b.body) (restored_count b.line h.number) (restored_body t b.body h.body)

restored_report : (t : DecisionTable) (blocks : List Block) → AllByRecursion (IsFormedBlock t) blocks → IsRestored (report_form t blocks)
restored_report t blocks h =
    let all = restored_list (block_form t) (IsFormedBlock t) (restored_block t) blocks h in
    let one = restored_count 1 (omega arith) in
    record { same = rw (all.same, one.same) refl; numbers = (all.numbers, (one.numbers, tt)) }

-- ---- the text

mutual
  depth_of_outline : (d : Data) → tree.depth (outline d) ≡ depth d
  depth_of_outline null = refl
  depth_of_outline (boolean b) = refl
  depth_of_outline (number n) = refl
  depth_of_outline (string s) = refl
  depth_of_outline (array ds) = ap suc (depth_of_items ds)
  depth_of_outline (object ms) = ap suc (depth_of_members ms)

  depth_of_items : (ds : Items) → tree.items_depth (items_outline ds) ≡ items_depth ds
  depth_of_items no_items = refl
  depth_of_items (item d ds) = ap₂ max (depth_of_outline d) (depth_of_items ds)

  depth_of_members : (ms : Members) → tree.members_depth (members_outline ms) ≡ members_depth ms
  depth_of_members no_members = refl
  depth_of_members (member k d ms) = ap₂ max (depth_of_outline d) (depth_of_members ms)

abbrev whole : Option (json.Json × List Token) → Option Data
whole found = option_and_then of_json (option_and_then (λ p. json.if_last p.0 p.1) found)

-- where the tokens of a text are those of the value's own, it is read of it
token_read : (d : Data) (text : List ℕ) → tokens text ≡ json_tokens (outline d) → IsRestored d → depth d ≤ max_depth → read text ≡ Some d
token_read d text same h shallow =
    let j = outline d in
    let split : tokens text ≡ json_tokens j ++ [] = same ∙ sym (append-nil (json_tokens j)) in
    ap whole (ap (json.value max_depth) split ∙ value-json_tokens j max_depth [] (omega (arith, depth_of_outline d, shallow))) ∙ h.same

tokens_of : (d : Data) → IsRestored d → tokens (compact_text d) ≡ json_tokens (outline d)
tokens_of d h = ap tokens (sym (print-outline d)) ∙ tokens-print (json_tokens (outline d)) (ArePrintable-json_tokens (outline d) h.numbers)

tokens_of_line : (d : Data) → IsRestored d → tokens (compact_text d ++ 10 ∷ []) ≡ json_tokens (outline d)
tokens_of_line d h =
    let ts = json_tokens (outline d) in
    let printable = ArePrintable-json_tokens (outline d) h.numbers in
    ap (λ (l : List ℕ). tokens (l ++ 10 ∷ [])) (sym (print-outline d)) ∙ tokens-line ts printable ∙ tokens-print ts printable

pub text_is_read : (t : DecisionTable) (blocks : List Block) → AllByRecursion (IsFormedBlock t) blocks → read (compact_text (report_form t blocks)) ≡ Some (report_form t blocks)
text_is_read t blocks h =
    let restored = restored_report t blocks h in
    token_read (report_form t blocks) (compact_text (report_form t blocks)) (tokens_of (report_form t blocks) restored) restored (omega (arith, nine_deep t blocks))

-- and so it is with a line feed behind it
pub line_is_read : (t : DecisionTable) (blocks : List Block) → AllByRecursion (IsFormedBlock t) blocks → read (compact_text (report_form t blocks) ++ 10 ∷ []) ≡ Some (report_form t blocks)
line_is_read t blocks h =
    let restored = restored_report t blocks h in
    token_read (report_form t blocks) (compact_text (report_form t blocks) ++ 10 ∷ []) (tokens_of_line (report_form t blocks) restored) restored (omega (arith, nine_deep t blocks))
