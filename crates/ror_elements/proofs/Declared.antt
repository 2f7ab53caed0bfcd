-- The encoding that an instruction declares, byte by byte and by the grammar.
use Rattle.std.proofs.Common.{◌≡◌, ℕ, Bool, true, false, List, [], ◌∷◌, ◌++◌, append_assoc, append-nil, refl, sym, ap, subst, ◌∙◌, inl, inr}
use Rattle.std.specs.Prelude.{◌⊎◌, if◌then◌else◌}
use Rattle.std.specs.List.{AllByRecursion}
use Rattle.std.specs.Str.{bytes_eq}
use Rattle.std.proofs.lemmas.Bool.{ne_eqb, not-false, false_from_ne_true}
use Rattle.std.proofs.lemmas.Slice.Eq.{bytes_eq-Decides}
use Rattle.ror_elements.specs.declared.declaration.Declaration.{Declaration}
use Rattle.ror_elements.specs.declared.declaration.Part.{Part}
use Rattle.ror_elements.specs.declared.declaration.Part.TheVariants as parts
use Rattle.ror_elements.specs.declared.mode.Quote.{Quote}
use Rattle.ror_elements.specs.declared.mode.Quote.TheVariants as quotes
use Rattle.ror_elements.specs.Declarations.{nothing_declared, in_target, in_gap, after_name, in_name, before_value, encoding_name, end_value, in_value, after_value, after, is_utf8_name, is_foreign}
use Rattle.ror_elements.specs.Grammar.{IsSpace, IsGap, IsName, IsQuoted, IsPair, NamesEncoding, Declares}
use Rattle.ror_elements.specs.Marks.{is_white, is_name_byte}
use Rattle.ror_elements.specs.Mode.{quote_byte}
use Rattle.ror_elements.proofs.TagRuns.{name_dark, white_unnamed}

-- what is known after these bytes
abbrev pub known : Declaration → List ℕ → Declaration
known d [] = d
known d (byte ∷ bytes) = known (after d byte) bytes

pub known_append : (d : Declaration) (xs ys : List ℕ) → known d (xs ++ ys) ≡ known (known d xs) ys
known_append d [] ys = refl
known_append d (x ∷ xs) ys = known_append (after d x) xs ys

abbrev pub knows : Part → List ℕ → List ℕ → Declaration
knows part name value = record { part = part; name = name; value = value }

known_step : (d next : Declaration) (byte : ℕ) (bytes : List ℕ) → after d byte ≡ next → known d (byte ∷ bytes) ≡ known next bytes
known_step d next byte bytes e = ap (λ (x : Declaration). known x bytes) e

known_pass : (d : Declaration) (kind : ℕ → Bool) → ((byte : ℕ) → kind byte ≡ true → after d byte ≡ d) → (bytes rest : List ℕ) → AllByRecursion (λ byte. kind byte ≡ true) bytes → known d (bytes ++ rest) ≡ known d rest
known_pass d kind step [] rest all = refl
known_pass d kind step (byte ∷ bytes) rest all = known_step d d byte (bytes ++ rest) (step byte all.0) ∙ known_pass d kind step bytes rest all.1

-- ---- what the grammar says is found

-- where a pair may begin
abbrev pub IsReady : Part → Type 0
IsReady part = (part ≡ parts.Target 3) ⊎ (part ≡ parts.AfterValue)

gap_step : (part : Part) (name value : List ℕ) (byte : ℕ) → IsReady part → is_white byte ≡ true → after (knows part name value) byte ≡ knows parts.Gap name value
unfolding after in_target after_value
gap_step part name value byte (inl e) white = subst (λ p. after (knows p name value) byte ≡ knows parts.Gap name value) (sym e) (rw white refl)
gap_step part name value byte (inr e) white = subst (λ p. after (knows p name value) byte ≡ knows parts.Gap name value) (sym e) (rw white refl)

gap_run : (gap : List ℕ) → IsGap gap → (part : Part) (name value rest : List ℕ) → IsReady part → known (knows part name value) (gap ++ rest) ≡ known (knows parts.Gap name value) rest
unfolding after in_gap
gap_run [] h part name value rest ready = absurd (h.1 refl)
gap_run (byte ∷ gap) h part name value rest ready =
    known_step (knows part name value) _ byte (gap ++ rest) (gap_step part name value byte ready h.0.0)
    ∙ known_pass (knows parts.Gap name value) is_white (λ b white. rw white refl) gap rest h.0.1

name_gather : (more : List ℕ) → AllByRecursion (λ byte. is_name_byte byte ≡ true) more → (name value rest : List ℕ) → known (knows parts.Name name value) (more ++ rest) ≡ known (knows parts.Name (name ++ more) value) rest
unfolding after in_name
name_gather [] all name value rest = ap (λ (n : List ℕ). known (knows parts.Name n value) rest) (sym (append-nil name))
name_gather (byte ∷ more) all name value rest =
    known_step (knows parts.Name name value) (knows parts.Name (name ++ byte ∷ []) value) byte (more ++ rest) (rw all.0 refl)
    ∙ name_gather more all.1 (name ++ byte ∷ []) value rest
    ∙ ap (λ (n : List ℕ). known (knows parts.Name n value) rest) (append_assoc name (byte ∷ []) more)

name_run : (name : List ℕ) → IsName name → (before value rest : List ℕ) → known (knows parts.Gap before value) (name ++ rest) ≡ known (knows parts.Name name value) rest
unfolding after in_gap
name_run [] n before value rest = absurd (n.1 refl)
name_run (byte ∷ name) n before value rest =
    known_step (knows parts.Gap before value) (knows parts.Name (byte ∷ []) value) byte (name ++ rest) (rw (n.0.0, name_dark byte n.0.0) refl)
    ∙ name_gather name n.0.1 (byte ∷ []) value rest

equals_run : (before : List ℕ) → IsSpace before → (name value rest : List ℕ) → known (knows parts.Name name value) (before ++ 61 ∷ rest) ≡ known (knows parts.BeforeValue name value) rest
unfolding after in_name after_name
equals_run [] s name value rest = refl
equals_run (byte ∷ before) s name value rest =
    known_step (knows parts.Name name value) (knows parts.AfterName name value) byte (before ++ 61 ∷ rest) (rw (white_unnamed byte s.0, s.0) refl)
    ∙ known_pass (knows parts.AfterName name value) is_white (λ b white. rw white refl) before (61 ∷ rest) s.1

quote_step : (quote : Quote) (name value : List ℕ) → after (knows parts.BeforeValue name value) (quote_byte quote) ≡ knows (parts.Value quote) name []
unfolding after before_value
quote_step quotes.Single name value = refl
quote_step quotes.Double name value = refl

value_run : (quote : Quote) (more : List ℕ) → IsQuoted quote more → (name value rest : List ℕ) → known (knows (parts.Value quote) name value) (more ++ rest) ≡ known (knows (parts.Value quote) name (value ++ more)) rest
unfolding after in_value
value_run quote [] all name value rest = ap (λ (v : List ℕ). known (knows (parts.Value quote) name v) rest) (sym (append-nil value))
value_run quote (byte ∷ more) all name value rest =
    known_step (knows (parts.Value quote) name value) (knows (parts.Value quote) name (value ++ byte ∷ [])) byte (more ++ rest) (rw (ne_eqb byte (quote_byte quote) all.0.0, ne_eqb byte 60 all.0.1) refl)
    ∙ value_run quote more all.1 name (value ++ byte ∷ []) rest
    ∙ ap (λ (v : List ℕ). known (knows (parts.Value quote) name v) rest) (append_assoc value (byte ∷ []) more)

end_step : (quote : Quote) (name value : List ℕ) → after (knows (parts.Value quote) name value) (quote_byte quote) ≡ end_value (knows (parts.Value quote) name value)
unfolding after in_value
end_step quotes.Single name value = refl
end_step quotes.Double name value = refl

ended : List ℕ → List ℕ → Declaration
ended name value = if bytes_eq name encoding_name then knows parts.Found name value else knows parts.AfterValue name value

ended_is : (quote : Quote) (name value : List ℕ) → end_value (knows (parts.Value quote) name value) ≡ ended name value
unfolding end_value ended
ended_is quote name value = refl

pair_run : (first name value : List ℕ) → IsPair first name value → (part : Part) (before old rest : List ℕ) → IsReady part → known (knows part before old) (first ++ rest) ≡ known (ended name value) rest
unfolding after before_value
pair_run first name value (IsPair.pair gap same white space within quote g n w s v) part before old rest ready =
    let q = quote_byte quote in
    let tail = q ∷ within ++ q ∷ [] in
    ap (λ (xs : List ℕ). known (knows part before old) xs)
    (append_assoc gap (same ++ (white ++ (61 ∷ space ++ tail))) rest
    ∙ ap (λ (xs : List ℕ). gap ++ xs) (append_assoc same (white ++ (61 ∷ space ++ tail)) rest
    ∙ ap (λ (xs : List ℕ). same ++ xs) (append_assoc white (61 ∷ space ++ tail) rest
    ∙ ap (λ (xs : List ℕ). white ++ 61 ∷ xs) (append_assoc space tail rest
    ∙ ap (λ (xs : List ℕ). space ++ q ∷ xs) (append_assoc within (q ∷ []) rest)))))
    ∙ gap_run gap g part before old _ ready
    ∙ name_run same n before old _
    ∙ equals_run white w same old (space ++ q ∷ (within ++ q ∷ rest))
    ∙ known_pass (knows parts.BeforeValue same old) is_white (λ b e. rw e refl) space (q ∷ (within ++ q ∷ rest)) s
    ∙ known_step (knows parts.BeforeValue same old) _ q (within ++ q ∷ rest) (quote_step quote same old)
    ∙ value_run quote within v same [] (q ∷ rest)
    ∙ known_step (knows (parts.Value quote) same within) _ q rest (end_step quote same within ∙ ended_is quote same within)

found_stays : (name value bytes : List ℕ) → known (knows parts.Found name value) bytes ≡ knows parts.Found name value
unfolding after
found_stays name value [] = refl
found_stays name value (byte ∷ bytes) = found_stays name value bytes

-- the encoding that is named is found
found : (bytes encoding : List ℕ) → NamesEncoding bytes encoding → (part : Part) (name value : List ℕ) → IsReady part → known (knows part name value) bytes ≡ knows parts.Found encoding_name encoding
unfolding ended
found bytes encoding (NamesEncoding.here first rest same p) part name value ready =
    pair_run first encoding_name encoding p part name value rest ready ∙ found_stays encoding_name encoding rest
found bytes encoding (NamesEncoding.later first rest other old same p differ h) part name value ready =
    pair_run first other old p part name value rest ready
    ∙ ap (λ (t : Bool). known (if t then knows parts.Found other old else knows parts.AfterValue other old) rest) (false_from_ne_true (bytes_eq other encoding_name) (λ e. differ ((bytes_eq-Decides other encoding_name).0 e)))
    ∙ found rest encoding h parts.AfterValue other old (inr refl)

declared_found : (bytes encoding : List ℕ) → Declares bytes encoding → known nothing_declared bytes ≡ knows parts.Found encoding_name encoding
unfolding after in_target
declared_found bytes encoding (Declares.declares rest same h) = found rest encoding h (parts.Target 3) [] [] (inl refl)

-- an encoding that is declared is not foreign where what is known is not
pub declared_is_utf8 : (bytes encoding : List ℕ) → Declares bytes encoding → is_foreign (known nothing_declared bytes) ≡ false → is_utf8_name encoding ≡ true
unfolding is_foreign
declared_is_utf8 bytes encoding h e = not-false (is_utf8_name encoding) (sym (ap is_foreign (declared_found bytes encoding h)) ∙ e)
