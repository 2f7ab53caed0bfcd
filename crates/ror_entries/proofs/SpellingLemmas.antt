-- Entries have one text, which is UTF-8, and one first fault.
use Rattle.std.proofs.Common.{◌≡◌, ℕ, ◌+◌, true, false, List, [], ◌∷◌, ◌++◌, length, drop, Result, Ok, Err, refl, sym, ap, ◌∙◌, subst, append_assoc, arith}
use Rattle.std.specs.List.{AllByRecursion, flat_map}
use Rattle.std.specs.Str.{IsUtf8}
use Rattle.std.proofs.lemmas.Str.{IsUtf8-append, IsUtf8-nil}
use Rattle.ror_text.specs.Cursor.{Cursor, cursor_at}
use Rattle.ror_report.specs.Reading.{begins_end, end_at}
use Rattle.ror_report.specs.Text.{end_text}
use Rattle.ror_report.proofs.LineForms.{end_begins}
use Rattle.ror_report.proofs.Utf8Lemmas.{end_text_is_utf8}
use Rattle.ror_bench.specs.declared.report.Rejection.{Rejection}
use Rattle.ror_bench.specs.declared.report.Reason.{Reason}
use Rattle.ror_bench.specs.Reports.{misread_reason}
use Rattle.ror_bench.proofs.UniqueLemmas.{true_not_false}
use Rattle.ror_entries.specs.Kind.{Kind, IsKind, HasOneReason}
use Rattle.ror_entries.specs.Laws.{EntriesHaveOneText, HasOneCount, HasOneRejection, EntriesAreUtf8}
use Rattle.ror_entries.specs.Reports.{accepted_of, RejectsNext, RejectsEnd, IsRejectedFrom, end_misread, ends_early, entry_misread, refused, miscounted, one_too_many, at_entry, at_end, later}
use Rattle.ror_bench.proofs.ReportProofs.{one_read}
use Rattle.ror_entries.proofs.RestLemmas.{rest_follows}

same_ok : {A F : Type 0} (r : Result A F) (a b : A) → r ≡ Ok a → r ≡ Ok b → a ≡ b
same_ok r a b e f = (let both = sym e ∙ f in cc)

same_err : {A F : Type 0} (r : Result A F) (a b : F) → r ≡ Err a → r ≡ Err b → a ≡ b
same_err r a b e f = (let both = sym e ∙ f in cc)

ok_is_no_err : {A F : Type 0} (r : Result A F) (a : A) (b : F) → r ≡ Ok a → r ≡ Err b → ⊥
ok_is_no_err r a b e f = absurd (let both = sym e ∙ f in cc)

begins_as_end : (n : ℕ) → begins_end (end_text n) ≡ true
begins_as_end n = let x = end_begins n in ap begins_end x.1

module _ {E : Type 0} (kind : Kind E) (lawful : IsKind kind) where
  -- ---- one text

  -- the entry of a text that something may follow is the one that is read
  reads_it : (x : E) (rest : List ℕ) → kind.IsPrintable x → kind.MayFollow x rest → kind.reads (record { place = 0; rest = kind.text x ++ rest }) ≡ Ok (x, record { place = 0 + length (kind.text x); rest = rest })
  reads_it x rest printable follows =
      (lawful.read_iff_text (record { place = 0; rest = kind.text x ++ rest }) x (record { place = 0 + length (kind.text x); rest = rest })).1 (record { text = refl; place = refl; printable = printable; follows = follows })

  no_entry_at_end : (n : ℕ) (x : E) (rest : List ℕ) → kind.IsPrintable x → end_text n ≡ kind.text x ++ rest → ⊥
  no_entry_at_end n x rest printable e = true_not_false _ (begins_as_end n) (ap begins_end e ∙ lawful.begins_no_end x rest printable)

  same_entries : (m n : ℕ) (xs ys : List E) → AllByRecursion kind.IsPrintable xs → AllByRecursion kind.IsPrintable ys → flat_map kind.text xs ++ end_text m ≡ flat_map kind.text ys ++ end_text n → xs ≡ ys
  same_entries m n [] [] px py e = refl
  same_entries m n [] (y ∷ ys) px py e = absurd (no_entry_at_end m y (flat_map kind.text ys ++ end_text n) py.0 (e ∙ append_assoc (kind.text y) (flat_map kind.text ys) (end_text n)))
  same_entries m n (x ∷ xs) [] px py e = absurd (no_entry_at_end n x (flat_map kind.text xs ++ end_text m) px.0 (sym e ∙ append_assoc (kind.text x) (flat_map kind.text xs) (end_text m)))
  same_entries m n (x ∷ xs) (y ∷ ys) px py e =
      let after : List ℕ = flat_map kind.text xs ++ end_text m in
      let other : List ℕ = flat_map kind.text ys ++ end_text n in
      let same : kind.text x ++ after ≡ kind.text y ++ other = sym (append_assoc (kind.text x) (flat_map kind.text xs) (end_text m)) ∙ e ∙ append_assoc (kind.text y) (flat_map kind.text ys) (end_text n) in
      let of_x = reads_it x after px.0 (rest_follows kind lawful m x xs px.0 px.1) in
      let of_y = reads_it y other py.0 (rest_follows kind lawful n y ys py.0 py.1) in
      let both = one_read (kind.reads (record { place = 0; rest = kind.text x ++ after })) (y, record { place = 0 + length (kind.text y); rest = other }) (x, record { place = 0 + length (kind.text x); rest = after }) (ap (λ (r : List ℕ). kind.reads (record { place = 0; rest = r })) same ∙ of_y) of_x in
      let first : x ≡ y = ap (λ (p : E × Cursor). p.0) both in
      let left : after ≡ other = ap (λ (p : E × Cursor). p.1.rest) both in
      ap (λ (e : E). e ∷ xs) first ∙ ap (λ (l : List E). y ∷ l) (same_entries m n xs ys px.1 py.1 left)

  pub one_spelling : EntriesHaveOneText kind
  one_spelling xs ys px py e = same_entries (length xs) (length ys) xs ys px py e

  pub one_count : HasOneCount kind
  one_count bytes one other a b =
      let same = one_spelling a.entries b.entries a.printable b.printable (sym a.text ∙ b.text) in
      a.counted ∙ ap (accepted_of kind) same ∙ sym b.counted

  -- ---- UTF-8

  texts_are_utf8 : (xs : List E) → AllByRecursion kind.IsPrintable xs → IsUtf8 (flat_map kind.text xs)
  texts_are_utf8 [] printable = IsUtf8-nil
  texts_are_utf8 (x ∷ xs) printable = IsUtf8-append (kind.text x) (flat_map kind.text xs) (lawful.utf8 x printable.0) (texts_are_utf8 xs printable.1)

  pub entries_are_utf8 : EntriesAreUtf8 kind
  entries_are_utf8 xs printable few = IsUtf8-append (flat_map kind.text xs) (end_text (length xs)) (texts_are_utf8 xs printable) (end_text_is_utf8 (length xs) few)

  -- ---- one first fault

  one_next : HasOneReason kind → (bytes : List ℕ) (place from : ℕ) (one other : Reason) → RejectsNext kind bytes place from one → RejectsNext kind bytes place from other → one ≡ other
  one_next reasons bytes place from one other (end_misread f b r is) (end_misread f' b' r' is') = is ∙ ap (misread_reason bytes) (same_err (end_at (cursor_at bytes from)) f f' r r') ∙ sym is'
  one_next reasons bytes place from one other (end_misread f b r is) (ends_early n b' r' is') = absurd (ok_is_no_err (end_at (cursor_at bytes from)) n f r' r)
  one_next reasons bytes place from one other (end_misread f b r is) (entry_misread f' b' r' is') = absurd (true_not_false _ b b')
  one_next reasons bytes place from one other (end_misread f b r is) (refused x a b' r' is') = absurd (true_not_false _ b b')
  one_next reasons bytes place from one other (ends_early n b r is) (end_misread f' b' r' is') = absurd (ok_is_no_err (end_at (cursor_at bytes from)) n f' r r')
  one_next reasons bytes place from one other (ends_early n b r is) (ends_early n' b' r' is') = is ∙ sym is'
  one_next reasons bytes place from one other (ends_early n b r is) (entry_misread f' b' r' is') = absurd (true_not_false _ b b')
  one_next reasons bytes place from one other (ends_early n b r is) (refused x a b' r' is') = absurd (true_not_false _ b b')
  one_next reasons bytes place from one other (entry_misread f b r is) (end_misread f' b' r' is') = absurd (true_not_false _ b' b)
  one_next reasons bytes place from one other (entry_misread f b r is) (ends_early n b' r' is') = absurd (true_not_false _ b' b)
  one_next reasons bytes place from one other (entry_misread f b r is) (entry_misread f' b' r' is') = is ∙ ap (misread_reason bytes) (same_err (kind.reads (cursor_at bytes from)) f f' r r') ∙ sym is'
  one_next reasons bytes place from one other (entry_misread f b r is) (refused x a b' r' is') = absurd (ok_is_no_err (kind.reads (cursor_at bytes from)) (x, cursor_at bytes a) f r' r)
  one_next reasons bytes place from one other (refused x a b r is) (end_misread f' b' r' is') = absurd (true_not_false _ b' b)
  one_next reasons bytes place from one other (refused x a b r is) (ends_early n b' r' is') = absurd (true_not_false _ b' b)
  one_next reasons bytes place from one other (refused x a b r is) (entry_misread f' b' r' is') = absurd (ok_is_no_err (kind.reads (cursor_at bytes from)) (x, cursor_at bytes a) f' r r')
  one_next reasons bytes place from one other (refused x a b r is) (refused x' a' b' r' is') =
      let both = same_ok (kind.reads (cursor_at bytes from)) (x, cursor_at bytes a) (x', cursor_at bytes a') r r' in
      reasons place x' one other (subst (λ (e : E). kind.Refuses place e one) (ap (λ (p : E × Cursor). p.0) both) is) is'

  one_end : (bytes : List ℕ) (from : ℕ) (one other : Reason) → RejectsEnd kind bytes from one → RejectsEnd kind bytes from other → one ≡ other
  one_end bytes from one other (end_misread f b r is) (end_misread f' b' r' is') = is ∙ ap (misread_reason bytes) (same_err (end_at (cursor_at bytes from)) f f' r r') ∙ sym is'
  one_end bytes from one other (end_misread f b r is) (miscounted n b' r' ne is') = absurd (ok_is_no_err (end_at (cursor_at bytes from)) n f r' r)
  one_end bytes from one other (end_misread f b r is) (entry_misread f' b' r' is') = absurd (true_not_false _ b b')
  one_end bytes from one other (end_misread f b r is) (one_too_many x a b' r' is') = absurd (true_not_false _ b b')
  one_end bytes from one other (miscounted n b r ne is) (end_misread f' b' r' is') = absurd (ok_is_no_err (end_at (cursor_at bytes from)) n f' r r')
  one_end bytes from one other (miscounted n b r ne is) (miscounted n' b' r' ne' is') = is ∙ sym is'
  one_end bytes from one other (miscounted n b r ne is) (entry_misread f' b' r' is') = absurd (true_not_false _ b b')
  one_end bytes from one other (miscounted n b r ne is) (one_too_many x a b' r' is') = absurd (true_not_false _ b b')
  one_end bytes from one other (entry_misread f b r is) (end_misread f' b' r' is') = absurd (true_not_false _ b' b)
  one_end bytes from one other (entry_misread f b r is) (miscounted n b' r' ne is') = absurd (true_not_false _ b' b)
  one_end bytes from one other (entry_misread f b r is) (entry_misread f' b' r' is') = is ∙ ap (misread_reason bytes) (same_err (kind.reads (cursor_at bytes from)) f f' r r') ∙ sym is'
  one_end bytes from one other (entry_misread f b r is) (one_too_many x a b' r' is') = absurd (ok_is_no_err (kind.reads (cursor_at bytes from)) (x, cursor_at bytes a) f r' r)
  one_end bytes from one other (one_too_many x a b r is) (end_misread f' b' r' is') = absurd (true_not_false _ b' b)
  one_end bytes from one other (one_too_many x a b r is) (miscounted n b' r' ne is') = absurd (true_not_false _ b' b)
  one_end bytes from one other (one_too_many x a b r is) (entry_misread f' b' r' is') = absurd (ok_is_no_err (kind.reads (cursor_at bytes from)) (x, cursor_at bytes a) f' r r')
  one_end bytes from one other (one_too_many x a b r is) (one_too_many x' a' b' r' is') = is ∙ sym is'

  -- an entry that is read and proved is not rejected
  proved_is_next : (bytes : List ℕ) (place from : ℕ) (x : E) (after : ℕ) (reason : Reason) → begins_end (drop from bytes) ≡ false → kind.reads (cursor_at bytes from) ≡ Ok (x, cursor_at bytes after) → kind.IsProved place x → RejectsNext kind bytes place from reason → ⊥
  proved_is_next bytes place from x after reason none read proved (end_misread f b r is) = true_not_false _ b none
  proved_is_next bytes place from x after reason none read proved (ends_early n b r is) = true_not_false _ b none
  proved_is_next bytes place from x after reason none read proved (entry_misread f b r is) = ok_is_no_err (kind.reads (cursor_at bytes from)) (x, cursor_at bytes after) f read r
  proved_is_next bytes place from x after reason none read proved (refused y a b r refuses) =
      let both = same_ok (kind.reads (cursor_at bytes from)) (x, cursor_at bytes after) (y, cursor_at bytes a) read r in
      lawful.proved_not_refused place y reason (subst (kind.IsProved place) (ap (λ (p : E × Cursor). p.0) both) proved) refuses

  same_rejection : (one other : Rejection) → one.block ≡ other.block → one.reason ≡ other.reason → one ≡ other
  same_rejection one other b r = ap (λ n. record { block = n; reason = one.reason }) b ∙ ap (λ x. record { block = other.block; reason = x }) r

  one_from : HasOneReason kind → (bytes : List ℕ) (one other : Rejection) (place from : ℕ) → IsRejectedFrom kind bytes one place from → IsRejectedFrom kind bytes other place from → one ≡ other
  one_from reasons bytes one other _ _ (at_entry place from within number rejects) (at_entry _ _ within' number' rejects') =
      same_rejection one other (number ∙ sym number') (one_next reasons bytes place from one.reason other.reason rejects rejects')
  one_from reasons bytes one other _ _ (at_entry place from within number rejects) (at_end _ _ over' number' rejects') = absurd (omega arith)
  one_from reasons bytes one other _ _ (at_entry place from within number rejects) (later _ _ x after within' none read proved more) = absurd (proved_is_next bytes place from x after one.reason none read proved rejects)
  one_from reasons bytes one other _ _ (at_end place from over number rejects) (at_entry _ _ within' number' rejects') = absurd (omega arith)
  one_from reasons bytes one other _ _ (at_end place from over number rejects) (at_end _ _ over' number' rejects') =
      same_rejection one other (number ∙ sym number') (one_end bytes from one.reason other.reason rejects rejects')
  one_from reasons bytes one other _ _ (at_end place from over number rejects) (later _ _ x after within' none read proved more) = absurd (omega arith)
  one_from reasons bytes one other _ _ (later place from x after within none read proved more) (at_entry _ _ within' number' rejects') = absurd (proved_is_next bytes place from x after other.reason none read proved rejects')
  one_from reasons bytes one other _ _ (later place from x after within none read proved more) (at_end _ _ over' number' rejects') = absurd (omega arith)
  one_from reasons bytes one other _ _ (later place from x after within none read proved more) (later _ _ x' after' within' none' read' proved' more') =
      let both = same_ok (kind.reads (cursor_at bytes from)) (x', cursor_at bytes after') (x, cursor_at bytes after) read' read in
      let there : after' ≡ after = ap (λ (p : E × Cursor). p.1.place) both in
      one_from reasons bytes one other (place + 1) after more (subst (λ (n : ℕ). IsRejectedFrom kind bytes other (place + 1) n) there more')

  pub one_rejection : HasOneRejection kind
  one_rejection reasons bytes start one other a b = one_from reasons bytes one other 0 start a b
