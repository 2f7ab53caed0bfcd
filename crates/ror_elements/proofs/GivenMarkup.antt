-- Markup that is bad where it stands is given wherever a text has it.
use Rattle.std.proofs.Common.{◌≡◌, ℕ, ◌+◌, ◌<◌, true, false, List, [], ◌∷◌, ◌++◌, append_assoc, length, length-append, Ok, Err, refl, sym, ap, subst, ◌∙◌, arith, inl, inr}
use Rattle.std.specs.Prelude.{◌==◌, codes, nat_lt}
use Rattle.std.specs.Str.{bytes_eq}
use Rattle.std.proofs.lemmas.Bool.{eq-eqb, ne_eqb, lt-ltb}
use Rattle.std.proofs.lemmas.Slice.Eq.{bytes_eq-Decides}
use Rattle.ror_elements.specs.declared.element.ElementKind.TheVariants as kinds
use Rattle.ror_elements.specs.declared.mode.Mode.TheVariants as modes
use Rattle.ror_elements.specs.declared.mode.Opening.{Opening}
use Rattle.ror_elements.specs.declared.mode.Opening.TheVariants as openings
use Rattle.ror_elements.specs.declared.open.Open.{Open}
use Rattle.ror_elements.specs.declared.reader.Reader.{Reader}
use Rattle.ror_elements.specs.Elements.{line_after}
use Rattle.ror_elements.specs.Faults.{fault}
use Rattle.ror_elements.specs.Grammar.{IsName, IsSpace}
use Rattle.ror_elements.specs.Marks.{is_white, is_name_byte}
use Rattle.ror_elements.specs.Mode.{opening_text, is_byte_at}
use Rattle.ror_elements.specs.Reader.{in_content, begin_tag, in_markup, in_exclamation, in_beginning, begin}
use Rattle.ror_elements.specs.Refusals.{StandsBehind}
use Rattle.ror_elements.proofs.ElementRuns.{in_end, end_name-run, some_name, end_white}
use Rattle.ror_elements.proofs.FaultWords.{open_names}
use Rattle.ror_elements.proofs.PlainReader.{plain, plain_in_end_name, plain_after_end_name, run}
use Rattle.ror_elements.proofs.Runs.{line_at, at, run_step, pass}

-- ---- behind `<` and `<!`

pub no_markup_at : (byte line : ℕ) (top : Open) (below : List Open) (j : Reader) → is_name_byte byte ≡ false → ¬ (byte ≡ 33) → ¬ (byte ≡ 63) → ¬ (byte ≡ 47) → run (at modes.Content line top below j) (60 ∷ byte ∷ []) ≡ Err (fault kinds.BadMarkup line)
unfolding run plain in_content in_markup begin_tag
no_markup_at byte line top below j unnamed a b c = rw (unnamed, ne_eqb byte 33 a, ne_eqb byte 63 b, ne_eqb byte 47 c) refl

pub no_opening_at : (byte line : ℕ) (top : Open) (below : List Open) (j : Reader) → ¬ (byte ≡ 45) → ¬ (byte ≡ 91) → ¬ (byte ≡ 68) → run (at modes.Content line top below j) (60 ∷ 33 ∷ byte ∷ []) ≡ Err (fault kinds.BadMarkup line)
unfolding run plain in_content in_markup in_exclamation
no_opening_at byte line top below j a b c = rw (ne_eqb byte 45 a, ne_eqb byte 91 b, ne_eqb byte 68 c) refl

pub end_outside_at : (line : ℕ) (top : Open) (below : List Open) (j : Reader) → open_names top below ≡ [] → run (at modes.Content line top below j) (60 ∷ 47 ∷ []) ≡ Err (fault kinds.BadMarkup line)
unfolding run plain in_content in_markup
end_outside_at line top [] j e = refl
end_outside_at line top (around ∷ outer) j e = absurd cc

pub section_outside_at : (line : ℕ) (top : Open) (below : List Open) (j : Reader) → open_names top below ≡ [] → run (at modes.Content line top below j) (codes "<![CDATA[") ≡ Err (fault kinds.BadMarkup line)
unfolding run plain in_content in_markup in_exclamation in_beginning begin
section_outside_at line top [] j e = refl
section_outside_at line top (around ∷ outer) j e = absurd cc

pub end_unnamed_at : (byte line : ℕ) (top : Open) (below : List Open) (j : Reader) → is_name_byte byte ≡ false → run (at modes.Content line top below j) (60 ∷ 47 ∷ byte ∷ []) ≡ Err (fault kinds.BadMarkup line)
unfolding run plain in_content in_markup plain_in_end_name
end_unnamed_at byte line top [] j unnamed = refl
end_unnamed_at byte line top (around ∷ outer) j unnamed = rw unnamed refl

-- ---- behind the name of an end tag

unended_now : (name : List ℕ) (byte line start : ℕ) (top around : Open) (outer : List Open) (j : Reader) → ¬ (name ≡ []) → bytes_eq name top.name ≡ true → is_name_byte byte ≡ false → is_white byte ≡ false → ¬ (byte ≡ 62)
    → run (in_end name line start top (around ∷ outer) j) (byte ∷ []) ≡ Err (fault kinds.BadMarkup start)
unfolding run plain plain_in_end_name plain_after_end_name
unended_now name byte line start top around outer j some same unnamed dark other = rw (unnamed, some_name name some, same, dark, ne_eqb byte 62 other) refl

unended_later : (byte line : ℕ) (top around : Open) (outer : List Open) (j : Reader) → is_white byte ≡ false → ¬ (byte ≡ 62) → run (at modes.AfterEndName line top (around ∷ outer) j) (byte ∷ []) ≡ Err (fault kinds.BadMarkup j.start)
unfolding run plain plain_after_end_name
unended_later byte line top around outer j dark other = rw (dark, ne_eqb byte 62 other) refl

unended_behind : (space : List ℕ) → IsSpace space → (name : List ℕ) (byte line start : ℕ) (top around : Open) (outer : List Open) (j : Reader) → ¬ (name ≡ []) → bytes_eq name top.name ≡ true → StandsBehind space byte → is_white byte ≡ false → ¬ (byte ≡ 62)
    → run (in_end name line start top (around ∷ outer) j) (space ++ byte ∷ []) ≡ Err (fault kinds.BadMarkup start)
unfolding plain plain_after_end_name
unended_behind [] s name byte line start top around outer j some same (inl unnamed) dark other = unended_now name byte line start top around outer j some same unnamed dark other
unended_behind [] s name byte line start top around outer j some same (inr space) dark other = absurd (space refl)
unended_behind (white ∷ space) s name byte line start top around outer j some same behind dark other =
    let k = record j { start = start; piece = name } in
    run_step (in_end name line start top (around ∷ outer) j) _ white (space ++ byte ∷ []) (end_white name white line start top around outer j (some_name name some) same s.0)
    ∙ pass is_white (λ n. at modes.AfterEndName n top (around ∷ outer) k) (λ n b blank. rw blank refl) space s.1 (line_after line white) (byte ∷ [])
    ∙ unended_later byte (line_at (line_after line white) space) top around outer k dark other

pub unended_at : (opened space : List ℕ) (names : List (List ℕ)) (byte line : ℕ) (top : Open) (below : List Open) (j : Reader) → IsName opened → IsSpace space → StandsBehind space byte → is_white byte ≡ false → ¬ (byte ≡ 62) → open_names top below ≡ opened ∷ names
    → run (at modes.Content line top below j) (60 ∷ 47 ∷ opened ++ (space ++ byte ∷ [])) ≡ Err (fault kinds.BadMarkup line)
unfolding run plain in_content in_markup
unended_at opened space names byte line top [] j n s behind dark other e = absurd cc
unended_at opened space names byte line top (around ∷ outer) j n s behind dark other e =
    let same : top.name ≡ opened = cc in
    end_name-run opened n line line top around outer j (space ++ byte ∷ [])
    ∙ unended_behind space s opened byte (line_at line opened) line top around outer j n.1 ((bytes_eq-Decides opened top.name).1 (sym same)) behind dark other

-- ---- behind `<!` and so much of what it opens

is_there : (before : List ℕ) (byte : ℕ) (more : List ℕ) (other : ℕ) → is_byte_at (before ++ byte ∷ more) (length before) other ≡ (byte == other)
is_there [] byte more other = refl
is_there (x ∷ before) byte more other = is_there before byte more other

some_length : (bytes : List ℕ) → ¬ (bytes ≡ []) → 0 < length bytes
some_length [] some = absurd (some refl)
some_length (byte ∷ bytes) some = omega arith

beginning_step : (opening : Opening) (before more : List ℕ) (byte line : ℕ) (top : Open) (below : List Open) (j : Reader) → opening_text opening ≡ before ++ byte ∷ more → ¬ (more ≡ [])
    → plain (at (modes.Beginning opening (length before)) line top below j) byte ≡ Ok (at (modes.Beginning opening (length before + 1)) (line_after line byte) top below j)
unfolding plain in_beginning
beginning_step opening before more byte line top below j e some =
    let here : is_byte_at (opening_text opening) (length before) byte ≡ true = ap (λ (xs : List ℕ). is_byte_at xs (length before) byte) e ∙ is_there before byte more byte ∙ eq-eqb byte byte refl in
    let within : nat_lt (length before + 1) (length (opening_text opening)) ≡ true = lt-ltb (length before + 1) (length (opening_text opening)) (omega (arith, ap length e, length-append before (byte ∷ more), some_length more some)) in
    rw (here, within) refl

pub beginning-run : (opening : Opening) (bytes before more : List ℕ) (line : ℕ) (top : Open) (below : List Open) (j : Reader) (rest : List ℕ) → opening_text opening ≡ before ++ (bytes ++ more) → ¬ (more ≡ [])
    → run (at (modes.Beginning opening (length before)) line top below j) (bytes ++ rest) ≡ run (at (modes.Beginning opening (length (before ++ bytes))) (line_at line bytes) top below j) rest
beginning-run opening [] before more line top below j rest e some = ap (λ n. run (at (modes.Beginning opening n) line top below j) rest) (omega (arith, length-append before []))
beginning-run opening (byte ∷ bytes) before more line top below j rest e some =
    let left : ¬ (bytes ++ more ≡ []) = not_none bytes more some in
    run_step (at (modes.Beginning opening (length before)) line top below j) _ byte (bytes ++ rest) (beginning_step opening before (bytes ++ more) byte line top below j e left)
    ∙ ap (λ n. run (at (modes.Beginning opening n) (line_after line byte) top below j) (bytes ++ rest)) (omega (arith, length-append before (byte ∷ [])))
    ∙ beginning-run opening bytes (before ++ byte ∷ []) more (line_after line byte) top below j rest (e ∙ sym (append_assoc before (byte ∷ []) (bytes ++ more))) some
    ∙ ap (λ (xs : List ℕ). run (at (modes.Beginning opening (length xs)) (line_at (line_after line byte) bytes) top below j) rest) (append_assoc before (byte ∷ []) bytes)
  where
    not_none : (xs ys : List ℕ) → ¬ (ys ≡ []) → ¬ (xs ++ ys ≡ [])
    not_none [] ys h = h
    not_none (x ∷ xs) ys h = λ none. absurd cc

opens_first : (opening : Opening) (byte : ℕ) (more : List ℕ) (line : ℕ) (top : Open) (below : List Open) (j : Reader) → opening_text opening ≡ byte ∷ more → plain (at modes.Exclamation line top below j) byte ≡ Ok (at (modes.Beginning opening 1) (line_after line byte) top below j)
unfolding plain in_exclamation
opens_first openings.Comment byte more line top below j e = let is : byte ≡ 45 = cc in subst (λ b. plain (at modes.Exclamation line top below j) b ≡ Ok (at (modes.Beginning openings.Comment 1) (line_after line b) top below j)) (sym is) refl
opens_first openings.Section byte more line top below j e = let is : byte ≡ 91 = cc in subst (λ b. plain (at modes.Exclamation line top below j) b ≡ Ok (at (modes.Beginning openings.Section 1) (line_after line b) top below j)) (sym is) refl
opens_first openings.Doctype byte more line top below j e = let is : byte ≡ 68 = cc in subst (λ b. plain (at modes.Exclamation line top below j) b ≡ Ok (at (modes.Beginning openings.Doctype 1) (line_after line b) top below j)) (sym is) refl

-- so much of what it opens, and more of it
pub opening-run : (opening : Opening) (byte : ℕ) (bytes more : List ℕ) (line : ℕ) (top : Open) (below : List Open) (j : Reader) (rest : List ℕ) → opening_text opening ≡ byte ∷ bytes ++ more → ¬ (more ≡ [])
    → run (at modes.Content line top below j) (60 ∷ 33 ∷ byte ∷ bytes ++ rest) ≡ run (at (modes.Beginning opening (length (byte ∷ bytes))) (line_at line (byte ∷ bytes)) top below (record j { start = line })) rest
unfolding run plain in_content in_markup
opening-run opening byte bytes more line top below j rest e some =
    run_step (at modes.Exclamation line top below (record j { start = line })) _ byte (bytes ++ rest) (opens_first opening byte (bytes ++ more) line top below (record j { start = line }) e)
    ∙ beginning-run opening bytes (byte ∷ []) more (line_after line byte) top below (record j { start = line }) rest e some

other_now : (opening : Opening) (before more : List ℕ) (there byte line : ℕ) (top : Open) (below : List Open) (j : Reader) → opening_text opening ≡ before ++ there ∷ more → ¬ (byte ≡ there) → run (at (modes.Beginning opening (length before)) line top below j) (byte ∷ []) ≡ Err (fault kinds.BadMarkup j.start)
unfolding run plain in_beginning
other_now opening before more there byte line top below j e other =
    let here : is_byte_at (opening_text opening) (length before) byte ≡ false = ap (λ (xs : List ℕ). is_byte_at xs (length before) byte) e ∙ is_there before there more byte ∙ ne_eqb there byte (λ same. other (sym same)) in
    rw here refl

pub other_opening_at : (opening : Opening) (first more : List ℕ) (there byte line : ℕ) (top : Open) (below : List Open) (j : Reader) → opening_text opening ≡ first ++ there ∷ more → ¬ (first ≡ []) → ¬ (byte ≡ there) → run (at modes.Content line top below j) (60 ∷ 33 ∷ first ++ byte ∷ []) ≡ Err (fault kinds.BadMarkup line)
other_opening_at opening [] more there byte line top below j e some other = absurd (some refl)
other_opening_at opening (x ∷ first) more there byte line top below j e some other =
    opening-run opening x first (there ∷ more) line top below j (byte ∷ []) e (λ none. absurd cc)
    ∙ other_now opening (x ∷ first) more there byte (line_at line (x ∷ first)) top below (record j { start = line }) e other
