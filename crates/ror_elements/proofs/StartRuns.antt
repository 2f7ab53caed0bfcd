-- How a text begins: with an instruction, or with anything else.
use Rattle.std.proofs.Common.{◌≡◌, ℕ, Bool, true, false, List, [], ◌∷◌, ◌++◌, append_assoc, Result, Ok, refl, sym, ap, ◌∙◌, inl, inr}
use Rattle.std.specs.Prelude.{◌==◌}
use Rattle.std.proofs.lemmas.Bool.{cases_Bool, ne_eqb, both_ways, false_from_ne_true, eqb-false}
use Rattle.ror_text.specs.Reading.{◌>>=◌, refuse, read_all}
use Rattle.ror_elements.specs.declared.declaration.Declaration.{Declaration}
use Rattle.ror_elements.specs.declared.element.ElementFault.{ElementFault}
use Rattle.ror_elements.specs.declared.element.ElementKind.TheVariants as kinds
use Rattle.ror_elements.specs.declared.mode.Mode.TheVariants as modes
use Rattle.ror_elements.specs.declared.reader.Reader.{Reader}
use Rattle.ror_elements.specs.Declarations.{nothing_declared, after, is_foreign, is_utf8_name}
use Rattle.ror_elements.specs.Elements.{line_after}
use Rattle.ror_elements.specs.Faults.{fault}
use Rattle.ror_elements.specs.Grammar.{IsUpTo, IsInstruction, IsPassedOver, IsComment, IsAround, DeclaresUtf8}
use Rattle.ror_elements.specs.Marks.{is_white}
use Rattle.ror_elements.specs.Reader.{nothing_read, whole_text, at_start, in_content, outside, in_first_markup, in_markup, begin_tag, in_first_instruction, end_first_instruction}
use Rattle.ror_elements.proofs.Declared.{known}
use Rattle.ror_elements.proofs.DeclaredBack.{foreign_declared, question_says_nothing}
use Rattle.ror_elements.proofs.PlainReader.{plain, run}
use Rattle.ror_elements.proofs.Runs.{line_at, line_at-append, at, run_step, apart, seen_question, question_end, question_past, question_goes, passed_over-goes}
use Rattle.ror_elements.proofs.ContentRuns.{around-goes}

-- ---- the instruction with which a text begins

-- in it
abbrev in_first : Bool → ℕ → Declaration → Reader → Reader
in_first question line d j = record j { mode = modes.FirstInstruction question; line = line; declaration = d; top = whole_text; below = [] }

-- behind it, unless it declares another encoding than UTF-8
abbrev pub behind_first : ℕ → Declaration → Reader → List ℕ → Result Reader ElementFault
behind_first line d j rest = refuse (fault kinds.Encoding j.start) (is_foreign d) >>= λ _. run (at modes.Content line whole_text [] (record j { declaration = d })) rest

first_end : (line : ℕ) (d : Declaration) (j : Reader) (rest : List ℕ) → run (in_first true line d j) (62 ∷ rest) ≡ behind_first line d j rest
unfolding run plain in_first_instruction end_first_instruction
first_end line d j rest = elim (cases_Bool (is_foreign d)) [
  | inl bad ↦ rw bad refl
  | inr good ↦ rw good refl
]

question_step : (q : Bool) (line : ℕ) (d : Declaration) (j : Reader) → plain (in_first q line d j) 63 ≡ Ok (in_first true line (after d 63) j)
unfolding plain in_first_instruction
question_step true line d j = refl
question_step false line d j = refl

first-run : (bytes : List ℕ) (q : Bool) (line : ℕ) (d : Declaration) (j : Reader) (rest : List ℕ) → IsUpTo question_end (seen_question q ++ bytes)
    → run (in_first q line d j) (bytes ++ 63 ∷ 62 ∷ rest) ≡ behind_first (line_at line bytes) (known d (bytes ++ 63 ∷ [])) j rest
unfolding plain in_first_instruction
first-run [] q line d j rest h = run_step (in_first q line d j) _ 63 (62 ∷ rest) (question_step q line d j) ∙ first_end line (after d 63) j rest
first-run (byte ∷ bytes) q line d j rest h =
    run_step (in_first q line d j) (in_first (byte == 63) (line_after line byte) (after d byte) j) byte (bytes ++ 63 ∷ 62 ∷ rest) (rw (question_past q byte bytes h) refl)
    ∙ first-run bytes (byte == 63) (line_after line byte) (after d byte) j rest (question_goes q byte bytes h)

-- an instruction with which a text begins
pub first_instruction : (inside : List ℕ) (rest : List ℕ) → IsUpTo question_end inside
    → run nothing_read ((60 ∷ 63 ∷ inside ++ question_end) ++ rest) ≡ behind_first (line_at 1 (60 ∷ 63 ∷ inside ++ question_end)) (known nothing_declared (inside ++ 63 ∷ [])) nothing_read rest
unfolding run plain at_start in_first_markup
first_instruction inside rest h =
    ap (λ (xs : List ℕ). run (in_first false 1 nothing_declared nothing_read) xs) (append_assoc inside question_end rest)
    ∙ first-run inside false 1 nothing_declared nothing_read rest h
    ∙ ap (λ l. behind_first l (known nothing_declared (inside ++ 63 ∷ [])) nothing_read rest) (sym (line_at-append 1 inside question_end))

-- ---- a text that begins with anything else

same_markup : (byte : ℕ) → ¬ (byte ≡ 63) → plain (record nothing_read { mode = modes.FirstMarkup }) byte ≡ plain (at modes.Markup 1 whole_text [] nothing_read) byte
unfolding plain in_first_markup in_markup begin_tag
same_markup byte e = rw (ne_eqb byte 63 e) refl

-- it is read as anywhere
pub as_anywhere : (byte : ℕ) (bytes : List ℕ) → ¬ (byte ≡ 63) → run nothing_read (60 ∷ byte ∷ bytes) ≡ run (at modes.Content 1 whole_text [] nothing_read) (60 ∷ byte ∷ bytes)
unfolding run plain at_start in_content
as_anywhere byte bytes e = ap (λ acted. acted >>= λ next. read_all plain next bytes) (same_markup byte e)

white_first : (byte : ℕ) → is_white byte ≡ true → plain nothing_read byte ≡ Ok (at modes.Content (line_after 1 byte) whole_text [] nothing_read)
unfolding plain at_start in_content outside
white_first byte white = rw (white, apart is_white byte 60 white refl) refl

-- ---- what stands before the root

-- a tag's first two bytes
pub record BeginsTag (bytes : List ℕ) : Type 0 where
  pub byte : ℕ
  pub more : List ℕ
  pub split : bytes ≡ 60 ∷ byte ∷ more
  pub other : ¬ (byte ≡ 63)

not_foreign : (text first rest inside : List ℕ) → DeclaresUtf8 text → text ≡ first ++ rest → IsInstruction first inside → is_foreign (known nothing_declared (inside ++ 63 ∷ [])) ≡ false
not_foreign text first rest inside d e i = question_says_nothing inside ∙ false_from_ne_true (is_foreign (known nothing_declared inside)) (λ bad.
    let f = foreign_declared inside bad in
    absurd (both_ways (is_utf8_name f.0) f.2 (d first rest inside f.0 e i f.1)))

passed_first : (first rest behind : List ℕ) → DeclaresUtf8 ((first ++ rest) ++ behind) → IsPassedOver first → (j : Reader) × ((xs : List ℕ) → xs ≡ rest ++ behind → run nothing_read (first ++ xs) ≡ run (at modes.Content (line_at 1 first) whole_text [] j) xs)
passed_first first rest behind d (IsPassedOver.comment same (IsComment.comment inside h)) =
    let bytes = 60 ∷ 33 ∷ 45 ∷ 45 ∷ inside ++ 45 ∷ 45 ∷ 62 ∷ [] in
    let g = passed_over-goes bytes (IsPassedOver.comment bytes (IsComment.comment inside h)) 1 whole_text [] nothing_read in
    (g.0, λ xs e. as_anywhere 33 _ (λ no_question. absurd (eqb-false 33 63 refl no_question)) ∙ g.1 xs)
passed_first first rest behind d (IsPassedOver.instruction same inside (IsInstruction.instruction within h)) =
    let bytes = 60 ∷ 63 ∷ within ++ 63 ∷ 62 ∷ [] in
    let k = known nothing_declared (within ++ 63 ∷ []) in (
      record nothing_read { declaration = k },
      λ xs e.
          first_instruction within xs h
          ∙ ap (λ (t : Bool). refuse (fault kinds.Encoding 1) t >>= λ _. run (at modes.Content (line_at 1 bytes) whole_text [] (record nothing_read { declaration = k })) xs)
          (not_foreign ((bytes ++ rest) ++ behind) bytes (rest ++ behind) within d (append_assoc bytes rest behind) (IsInstruction.instruction within h)),
    )

-- what stands before the root is read
pub before-run : (before behind : List ℕ) → IsAround before → BeginsTag behind → DeclaresUtf8 (before ++ behind)
    → (j : Reader) × (run nothing_read (before ++ behind) ≡ run (at modes.Content (line_at 1 before) whole_text [] j) behind)
before-run before behind IsAround.nothing b d = (nothing_read, ap (run nothing_read) b.split ∙ as_anywhere b.byte b.more b.other ∙ ap (λ (xs : List ℕ). run (at modes.Content 1 whole_text [] nothing_read) xs) (sym b.split))
before-run before behind (IsAround.white byte rest white h) b d =
    let g = around-goes rest h (line_after 1 byte) whole_text nothing_read in
    (g.0, run_step nothing_read _ byte (rest ++ behind) (white_first byte white) ∙ g.1 behind)
before-run before behind (IsAround.passed_over first rest p h) b d =
    let now = passed_first first rest behind d p in
    let later = around-goes rest h (line_at 1 first) whole_text now.0 in (
      later.0,
      ap (run nothing_read) (append_assoc first rest behind)
          ∙ now.1 (rest ++ behind) refl
          ∙ later.1 behind
          ∙ ap (λ l. run (at modes.Content l whole_text [] later.0) behind) (sym (line_at-append 1 first rest)),
    )
