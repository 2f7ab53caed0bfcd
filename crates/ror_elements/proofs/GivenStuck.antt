-- Bytes that leave a reader in the middle of a construct.
use Rattle.std.proofs.Common.{◌≡◌, ℕ, Bool, true, false, List, [], ◌∷◌, ◌++◌, append-nil, length, Ok, refl, sym, ap, ◌∙◌, inl, inr}
use Rattle.std.specs.Prelude.{◌⊎◌, ◌==◌}
use Rattle.std.specs.List.{AllByRecursion, list_any}
use Rattle.std.specs.Str.{bytes_eq}
use Rattle.std.proofs.lemmas.List.{append_cancel_right}
use Rattle.std.proofs.lemmas.Slice.Eq.{bytes_eq-Decides}
use Rattle.ror_elements.specs.declared.mode.Mode.TheVariants as modes
use Rattle.ror_elements.specs.declared.mode.Opening.{Opening}
use Rattle.ror_elements.specs.declared.mode.Seen.{Seen}
use Rattle.ror_elements.specs.declared.mode.Seen.TheVariants as marks
use Rattle.ror_elements.specs.declared.open.Open.{Open}
use Rattle.ror_elements.specs.declared.reader.Reader.{Reader}
use Rattle.ror_elements.specs.declared.reader.Tag.{Tag}
use Rattle.ror_elements.specs.Declarations.{after}
use Rattle.ror_elements.specs.declared.declaration.Declaration.{Declaration}
use Rattle.ror_elements.specs.Elements.{line_after}
use Rattle.ror_elements.specs.Grammar.{IsName, IsGap, IsUpTo, IsComment, IsInstruction, IsSection}
use Rattle.ror_elements.specs.Marks.{is_white, is_name_byte}
use Rattle.ror_elements.specs.Mode.{is_between, opening_text, seen_after}
use Rattle.ror_elements.specs.Reader.{nothing_read, at_start, in_content, in_first_markup, in_markup, in_exclamation, in_beginning, begin, in_comment, in_section, in_instruction, in_first_instruction}
use Rattle.ror_elements.specs.Refusals.{AreReferenceBytes, IsUnfinishedRest}
use Rattle.ror_elements.specs.Tags.{after_attribute_name}
use Rattle.ror_elements.proofs.ElementRuns.{in_end, end_name-run, end_white, some_name, is_some_space, space-run, slash_step}
use Rattle.ror_elements.proofs.FaultFronts.{run_end}
use Rattle.ror_elements.proofs.GivenMarkup.{opening-run}
use Rattle.ror_elements.proofs.GivenReferences.{Referring, as_reference}
use Rattle.ror_elements.proofs.GivenRests.{in_gap, before_value-run}
use Rattle.ror_elements.proofs.GivenTags.{EndsAName, in_quotes, new_name, white_ends, value_ends}
use Rattle.ror_elements.proofs.PlainReader.{plain, plain_after_end_name, run}
use Rattle.ror_elements.proofs.Runs.{line_at, at, run_step, pass, closing_mark, seen_marks, goes_past, seen_goes, seen_question, question_end, question_past, question_goes, with_text}
use Rattle.ror_elements.proofs.TagRuns.{referring, name-run, tagged, naming, in_name, white_now, white_unnamed, text_added}

pub record Stuck (from : Reader) (bytes : List ℕ) : Type 0 where
  pub reader : Reader
  pub runs : run from bytes ≡ Ok reader
  pub inside : is_between reader.mode ≡ false

-- bytes up to where it is stuck
pub stuck_by : (from next : Reader) (bytes rest : List ℕ) → run from bytes ≡ run next rest → Stuck next rest → Stuck from bytes
stuck_by from next bytes rest e s = record { reader = s.reader; runs = e ∙ s.runs; inside = s.inside }

pub stuck_here : (r : Reader) → is_between r.mode ≡ false → Stuck r []
stuck_here r e = record { reader = r; runs = run_end r; inside = e }

-- where all bytes were read
stuck_behind : (from next : Reader) (bytes : List ℕ) → ((rest : List ℕ) → run from (bytes ++ rest) ≡ run next rest) → is_between next.mode ≡ false → Stuck from bytes
stuck_behind from next bytes e inside = stuck_by from next bytes [] (ap (run from) (sym (append-nil bytes)) ∙ e []) (stuck_here next inside)

-- ---- what ends at a mark, without it

comment_left : (bytes : List ℕ) (s : Seen) (line : ℕ) (top : Open) (below : List Open) (j : Reader) → IsUpTo (closing_mark 45) (seen_marks s 45 ++ bytes) → Stuck (at (modes.Comment s) line top below j) bytes
unfolding plain in_comment
comment_left [] s line top below j h = stuck_here (at (modes.Comment s) line top below j) refl
comment_left (byte ∷ bytes) s line top below j h =
    stuck_by (at (modes.Comment s) line top below j) (at (modes.Comment (seen_after s 45 byte)) (line_after line byte) top below j) (byte ∷ bytes) bytes
    (run_step (at (modes.Comment s) line top below j) _ byte bytes (rw (goes_past 45 s byte bytes h) refl))
    (comment_left bytes (seen_after s 45 byte) (line_after line byte) top below j (seen_goes 45 s byte bytes h))

section_left : (bytes : List ℕ) (s : Seen) (line : ℕ) (top : Open) (below : List Open) (j : Reader) → IsUpTo (closing_mark 93) (seen_marks s 93 ++ bytes) → Stuck (at (modes.Section s) line top below j) bytes
unfolding plain in_section
section_left [] s line top below j h = stuck_here (at (modes.Section s) line top below j) refl
section_left (byte ∷ bytes) s line top below j h =
    let more : Open = with_text top (byte ∷ []) in
    stuck_by (at (modes.Section s) line top below j) (at (modes.Section (seen_after s 93 byte)) (line_after line byte) more below j) (byte ∷ bytes) bytes
    (run_step (at (modes.Section s) line top below j) _ byte bytes
    (rw (goes_past 93 s byte bytes h) (ap (λ (r : Reader). Ok (record r { mode = modes.Section (seen_after s 93 byte); line = line_after line byte })) (text_added (at (modes.Section s) line top below j) (byte ∷ [])))))
    (section_left bytes (seen_after s 93 byte) (line_after line byte) more below j (seen_goes 93 s byte bytes h))

instruction_left : (bytes : List ℕ) (q : Bool) (line : ℕ) (top : Open) (below : List Open) (j : Reader) → IsUpTo question_end (seen_question q ++ bytes) → Stuck (at (modes.Instruction q) line top below j) bytes
unfolding plain in_instruction
instruction_left [] q line top below j h = stuck_here (at (modes.Instruction q) line top below j) refl
instruction_left (byte ∷ bytes) q line top below j h =
    stuck_by (at (modes.Instruction q) line top below j) (at (modes.Instruction (byte == 63)) (line_after line byte) top below j) (byte ∷ bytes) bytes
    (run_step (at (modes.Instruction q) line top below j) _ byte bytes (rw (question_past q byte bytes h) refl))
    (instruction_left bytes (byte == 63) (line_after line byte) top below j (question_goes q byte bytes h))

first_left : (bytes : List ℕ) (q : Bool) (line : ℕ) (d : Declaration) (j : Reader) → IsUpTo question_end (seen_question q ++ bytes) → Stuck (record j { mode = modes.FirstInstruction q; line = line; declaration = d }) bytes
unfolding plain in_first_instruction
first_left [] q line d j h = stuck_here (record j { mode = modes.FirstInstruction q; line = line; declaration = d }) refl
first_left (byte ∷ bytes) q line d j h =
    stuck_by (record j { mode = modes.FirstInstruction q; line = line; declaration = d }) (record j { mode = modes.FirstInstruction (byte == 63); line = line_after line byte; declaration = after d byte }) (byte ∷ bytes) bytes
    (run_step (record j { mode = modes.FirstInstruction q; line = line; declaration = d }) _ byte bytes (rw (question_past q byte bytes h) refl))
    (first_left bytes (byte == 63) (line_after line byte) (after d byte) j (question_goes q byte bytes h))

-- ---- what is begun where a construct may begin

pub markup_left : (line : ℕ) (top : Open) (below : List Open) (j : Reader) → Stuck (at modes.Content line top below j) (60 ∷ [])
unfolding run plain in_content
markup_left line top below j = record { reader = at modes.Markup line top below (record j { start = line }); runs = refl; inside = refl }

pub first_markup_left : Stuck nothing_read (60 ∷ [])
unfolding run plain at_start
first_markup_left = record { reader = record nothing_read { mode = modes.FirstMarkup }; runs = refl; inside = refl }

exclamation_left : (line : ℕ) (top : Open) (below : List Open) (j : Reader) → Stuck (at modes.Content line top below j) (60 ∷ 33 ∷ [])
unfolding run plain in_content in_markup
exclamation_left line top below j = record { reader = at modes.Exclamation line top below (record j { start = line }); runs = refl; inside = refl }

pub opening_left : (opening : Opening) (first more : List ℕ) → opening_text opening ≡ first ++ more → ¬ (more ≡ []) → (line : ℕ) (top : Open) (below : List Open) (j : Reader) → Stuck (at modes.Content line top below j) (60 ∷ 33 ∷ first)
opening_left opening [] more e some line top below j = exclamation_left line top below j
opening_left opening (byte ∷ bytes) more e some line top below j =
    stuck_behind (at modes.Content line top below j) (at (modes.Beginning opening (length (byte ∷ bytes))) (line_at line (byte ∷ bytes)) top below (record j { start = line })) (60 ∷ 33 ∷ byte ∷ bytes)
    (λ rest. opening-run opening byte bytes more line top below j rest e some) refl

-- what is begun of a comment
pub record BegunBy (lead bytes mark : List ℕ) : Type 0 where
  pub inside : List ℕ
  pub split : bytes ≡ lead ++ inside
  pub first : IsUpTo mark inside

pub comment_begun : (bytes whole : List ℕ) → whole ≡ bytes ++ 45 ∷ 45 ∷ 62 ∷ [] → IsComment whole → BegunBy (60 ∷ 33 ∷ 45 ∷ 45 ∷ []) bytes (45 ∷ 45 ∷ 62 ∷ [])
comment_begun bytes whole e (IsComment.comment inside h) =
    record { inside = inside; split = append_cancel_right bytes (60 ∷ 33 ∷ 45 ∷ 45 ∷ inside) (45 ∷ 45 ∷ 62 ∷ []) (sym e); first = h }

pub section_begun : (bytes whole text : List ℕ) → whole ≡ bytes ++ 93 ∷ 93 ∷ 62 ∷ [] → IsSection whole text → BegunBy (60 ∷ 33 ∷ 91 ∷ 67 ∷ 68 ∷ 65 ∷ 84 ∷ 65 ∷ 91 ∷ []) bytes (93 ∷ 93 ∷ 62 ∷ [])
section_begun bytes whole text e (IsSection.section inside h) =
    record { inside = inside; split = append_cancel_right bytes (60 ∷ 33 ∷ 91 ∷ 67 ∷ 68 ∷ 65 ∷ 84 ∷ 65 ∷ 91 ∷ inside) (93 ∷ 93 ∷ 62 ∷ []) (sym e); first = h }

pub instruction_begun : (bytes whole text : List ℕ) → whole ≡ bytes ++ 63 ∷ 62 ∷ [] → IsInstruction whole text → BegunBy (60 ∷ 63 ∷ []) bytes (63 ∷ 62 ∷ [])
instruction_begun bytes whole text e (IsInstruction.instruction inside h) =
    record { inside = inside; split = append_cancel_right bytes (60 ∷ 63 ∷ inside) (63 ∷ 62 ∷ []) (sym e); first = h }

pub in_comment_left : (bytes : List ℕ) → IsUpTo (45 ∷ 45 ∷ 62 ∷ []) bytes → (line : ℕ) (top : Open) (below : List Open) (j : Reader) → Stuck (at modes.Content line top below j) (60 ∷ 33 ∷ 45 ∷ 45 ∷ bytes)
unfolding run plain in_content in_markup in_exclamation in_beginning begin
in_comment_left bytes h line top below j =
    let s = comment_left bytes marks.Nothing line top below (record j { start = line }) h in
    record { reader = s.reader; runs = s.runs; inside = s.inside }

pub in_section_left : (bytes : List ℕ) → IsUpTo (93 ∷ 93 ∷ 62 ∷ []) bytes → (line : ℕ) (top around : Open) (outer : List Open) (j : Reader) → Stuck (at modes.Content line top (around ∷ outer) j) (60 ∷ 33 ∷ 91 ∷ 67 ∷ 68 ∷ 65 ∷ 84 ∷ 65 ∷ 91 ∷ bytes)
unfolding run plain in_content in_markup in_exclamation in_beginning begin
in_section_left bytes h line top around outer j =
    let s = section_left bytes marks.Nothing line top (around ∷ outer) (record j { start = line }) h in
    record { reader = s.reader; runs = s.runs; inside = s.inside }

pub in_instruction_left : (bytes : List ℕ) → IsUpTo question_end bytes → (line : ℕ) (top : Open) (below : List Open) (j : Reader) → Stuck (at modes.Content line top below j) (60 ∷ 63 ∷ bytes)
unfolding run plain in_content in_markup
in_instruction_left bytes h line top below j =
    let s = instruction_left bytes false line top below (record j { start = line }) h in
    record { reader = s.reader; runs = s.runs; inside = s.inside }

pub in_first_left : (bytes : List ℕ) → IsUpTo question_end bytes → Stuck nothing_read (60 ∷ 63 ∷ bytes)
unfolding run plain at_start in_first_markup
in_first_left bytes h =
    let s = first_left bytes false 1 nothing_read.declaration nothing_read h in
    record { reader = s.reader; runs = s.runs; inside = s.inside }

-- ---- end tags and references

any_name : (name : List ℕ) → AllByRecursion (λ byte. is_name_byte byte ≡ true) name → (line start : ℕ) (top around : Open) (outer : List Open) (j : Reader) → Stuck (in_end [] line start top (around ∷ outer) j) name
any_name [] all line start top around outer j = stuck_here (in_end [] line start top (around ∷ outer) j) refl
any_name (byte ∷ name) all line start top around outer j =
    stuck_behind (in_end [] line start top (around ∷ outer) j) (in_end (byte ∷ name) (line_at line (byte ∷ name)) start top (around ∷ outer) j) (byte ∷ name)
    (λ rest. end_name-run (byte ∷ name) (all, λ none. absurd cc) line start top around outer j rest) refl

pub end_name_left : (name : List ℕ) → AllByRecursion (λ byte. is_name_byte byte ≡ true) name → (line : ℕ) (top around : Open) (outer : List Open) (j : Reader) → Stuck (at modes.Content line top (around ∷ outer) j) (60 ∷ 47 ∷ name)
unfolding run plain in_content in_markup
end_name_left name all line top around outer j =
    let s = any_name name all line line top around outer j in
    record { reader = s.reader; runs = s.runs; inside = s.inside }

end_space_behind : (space : List ℕ) → IsGap space → (name : List ℕ) (line start : ℕ) (top around : Open) (outer : List Open) (j : Reader) → ¬ (name ≡ []) → bytes_eq name top.name ≡ true → Stuck (in_end name line start top (around ∷ outer) j) space
unfolding plain plain_after_end_name
end_space_behind [] g name line start top around outer j some same = absurd (g.1 refl)
end_space_behind (white ∷ space) g name line start top around outer j some same =
    let k = record j { start = start; piece = name } in
    stuck_behind (in_end name line start top (around ∷ outer) j) (at modes.AfterEndName (line_at (line_after line white) space) top (around ∷ outer) k) (white ∷ space)
    (λ rest. run_step (in_end name line start top (around ∷ outer) j) _ white (space ++ rest) (end_white name white line start top around outer j (some_name name some) same g.0.0)
    ∙ pass is_white (λ n. at modes.AfterEndName n top (around ∷ outer) k) (λ n b blank. rw blank refl) space g.0.1 (line_after line white) rest) refl

pub end_space_left : (opened space : List ℕ) → IsName opened → IsGap space → (line : ℕ) (top around : Open) (outer : List Open) (j : Reader) → top.name ≡ opened → Stuck (at modes.Content line top (around ∷ outer) j) (60 ∷ 47 ∷ opened ++ space)
unfolding run plain in_content in_markup
end_space_left opened space n g line top around outer j same =
    let s = end_space_behind space g opened (line_at line opened) line top around outer j n.1 ((bytes_eq-Decides opened top.name).1 (sym same)) in
    record { reader = s.reader; runs = end_name-run opened n line line top around outer j space ∙ s.runs; inside = s.inside }

pub reference_left : (from : Reader) (line : ℕ) (name : List ℕ) → Referring from line → AreReferenceBytes name → Stuck from (38 ∷ name)
reference_left from line name r all =
    let k = record r.like { reference_line = line } in
    stuck_behind from (referring r.home name (line_at line name) r.top r.below k) (38 ∷ name)
    (λ rest. r.begins (name ++ rest) ∙ name-run r.home name (as_reference name all) line r.top r.below k rest) refl

-- ---- behind the attributes of a tag

behind_name_left : (space : List ℕ) → IsGap space → (name : List ℕ) (line start : ℕ) (top : Open) (below : List Open) (tag : Tag) (j : Reader) → list_any (bytes_eq name) tag.names ≡ false → Stuck (in_name name line start top below tag j) space
unfolding plain after_attribute_name
behind_name_left [] g name line start top below tag j new = absurd (g.1 refl)
behind_name_left (white ∷ space) g name line start top below tag j new =
    let k = record j { piece = [] } in
    stuck_behind (in_name name line start top below tag j) (tagged modes.AfterAttributeName (line_at (line_after line white) space) start top below (naming tag name) k) (white ∷ space)
    (λ rest. run_step (in_name name line start top below tag j) _ white (space ++ rest) (white_now name white line start top below tag j new g.0.0)
    ∙ pass is_white (λ n. tagged modes.AfterAttributeName n start top below (naming tag name) k) (λ n b blank. rw blank refl) space g.0.1 (line_after line white) rest) refl

pub rest_left : (names : List (List ℕ)) (rest : List ℕ) → IsUnfinishedRest names rest → (line start : ℕ) (top : Open) (below : List Open) (tag : Tag) (j : Reader) → tag.names ≡ names → Stuck (tagged (modes.Tag false) line start top below tag j) rest
rest_left names rest (IsUnfinishedRest.space space s) line start top below tag j e =
    stuck_behind (tagged (modes.Tag false) line start top below tag j) (tagged (modes.Tag (is_some_space space)) (line_at line space) start top below tag j) space
    (λ rest. space-run space s line start top below tag j rest) refl
rest_left names rest (IsUnfinishedRest.slash space s) line start top below tag j e =
    let l = line_at line space in
    stuck_by (tagged (modes.Tag false) line start top below tag j) (tagged modes.EmptyTag l start top below tag j) (space ++ 47 ∷ []) []
    (space-run space s line start top below tag j (47 ∷ []) ∙ run_step (tagged (modes.Tag (is_some_space space)) l start top below tag j) _ 47 [] (slash_step (is_some_space space) l start top below tag j))
    (stuck_here (tagged modes.EmptyTag l start top below tag j) refl)
rest_left names rest (IsUnfinishedRest.name gap name g n) line start top below tag j e =
    let l = line_at (line_at line gap) name in
    stuck_by (tagged (modes.Tag false) line start top below tag j) (in_name name l start top below tag j) (gap ++ name) []
    (ap (λ (xs : List ℕ). run (tagged (modes.Tag false) line start top below tag j) (gap ++ xs)) (sym (append-nil name)) ∙ in_gap gap name [] g n line start top below tag j)
    (stuck_here (in_name name l start top below tag j) refl)
rest_left names rest (IsUnfinishedRest.behind_name gap name space g n d s) line start top below tag j e =
    let l = line_at (line_at line gap) name in
    stuck_by (tagged (modes.Tag false) line start top below tag j) (in_name name l start top below tag j) (gap ++ (name ++ space)) space
    (in_gap gap name space g n line start top below tag j)
    (behind_name_left space s name l start top below tag j (ap (list_any (bytes_eq name)) e ∙ new_name names name d))
rest_left names rest (IsUnfinishedRest.behind_equals gap name before behind g n d b c) line start top below tag j e =
    let l = line_at (line_at line gap) name in
    let last = tagged modes.BeforeValue (line_at (line_at l before) behind) start top below (naming tag name) (record j { piece = [] }) in
    stuck_by (tagged (modes.Tag false) line start top below tag j) last (gap ++ (name ++ (before ++ (61 ∷ behind)))) []
    (in_gap gap name (before ++ (61 ∷ behind)) g n line start top below tag j
    ∙ ap (λ (xs : List ℕ). run (in_name name l start top below tag j) (before ++ (61 ∷ xs))) (sym (append-nil behind))
    ∙ before_value-run name before behind b c l start top below tag j [] (ap (list_any (bytes_eq name)) e ∙ new_name names name d))
    (stuck_here last refl)
rest_left names rest (IsUnfinishedRest.in_value same v) line start top below tag j e =
    let q = in_quotes names [] rest v line start top below tag j e in
    stuck_by (tagged (modes.Tag false) line start top below tag j) q.refers.0 rest [] q.refers.2 (stuck_here q.refers.0 (ap is_between q.mode))
rest_left names rest (IsUnfinishedRest.reference part same all v) line start top below tag j e =
    let q = in_quotes names (38 ∷ part) rest v line start top below tag j e in
    stuck_by (tagged (modes.Tag false) line start top below tag j) q.refers.0 rest (38 ∷ part) q.refers.2 (reference_left q.refers.0 (line_at line q.lead) part q.refers.1 all)

-- the name of the tag ends, unless it ends the text
pub left_ends : (names : List (List ℕ)) (rest : List ℕ) → IsUnfinishedRest names rest → EndsAName rest ⊎ (rest ≡ [])
left_ends names rest (IsUnfinishedRest.space [] s) = inr refl
left_ends names rest (IsUnfinishedRest.space (white ∷ space) s) = inl (record { byte = white; more = space; split = refl; ends = white_unnamed white s.0 })
left_ends names rest (IsUnfinishedRest.slash [] s) = inl (record { byte = 47; more = []; split = refl; ends = refl })
left_ends names rest (IsUnfinishedRest.slash (white ∷ space) s) = inl (record { byte = white; more = space ++ 47 ∷ []; split = refl; ends = white_unnamed white s.0 })
left_ends names rest (IsUnfinishedRest.name gap name g n) = inl (white_ends gap g name)
left_ends names rest (IsUnfinishedRest.behind_name gap name space g n d s) = inl (white_ends gap g (name ++ space))
left_ends names rest (IsUnfinishedRest.behind_equals gap name before behind g n d b c) = inl (white_ends gap g (name ++ (before ++ (61 ∷ behind))))
left_ends names rest (IsUnfinishedRest.in_value same v) = inl (value_ends names [] rest v)
left_ends names rest (IsUnfinishedRest.reference part same all v) = inl (value_ends names (38 ∷ part) rest v)
