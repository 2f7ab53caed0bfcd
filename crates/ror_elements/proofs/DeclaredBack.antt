-- An encoding that is found byte by byte is one that the grammar names.
use Rattle.std.proofs.Common.{◌≡◌, ℕ, zero, suc, Bool, true, false, not, List, [], ◌∷◌, ◌++◌, append_assoc, refl, sym, ap, subst, ◌∙◌, inl, inr, append-nil}
use Rattle.std.specs.Prelude.{◌==◌, ◌&&◌, ◌⊎◌, if◌then◌else◌, Option}
use Rattle.std.specs.List.{AllByRecursion}
use Rattle.std.specs.Str.{bytes_eq}
use Rattle.std.proofs.lemmas.Bool.{and_parts, eqb-true, eqb-false, not-true, not-false, both_ways}
use Rattle.std.proofs.lemmas.Slice.Eq.{bytes_eq-Decides}
use Rattle.ror_elements.specs.declared.declaration.Declaration.{Declaration}
use Rattle.ror_elements.specs.declared.declaration.Part.{Part}
use Rattle.ror_elements.specs.declared.declaration.Part.TheVariants as parts
use Rattle.ror_elements.specs.declared.mode.Quote.{Quote}
use Rattle.ror_elements.specs.declared.mode.Quote.TheVariants as quotes
use Rattle.ror_elements.specs.Declarations.{nothing_declared, in_target, in_gap, after_name, in_name, before_value, quoted, encoding_name, end_value, in_value, after_value, after, is_utf8_name, is_foreign, is_foreign_in}
use Rattle.ror_elements.specs.Grammar.{IsSpace, IsQuoted, IsPair, NamesEncoding, Declares}
use Rattle.ror_elements.specs.Marks.{is_white, is_name_byte}
use Rattle.ror_elements.specs.Mode.{quote_byte, is_byte_at}
use Rattle.ror_elements.proofs.Declared.{known, known_append, knows}

pub split_if : {A : Type 0} (P : A → Type 0) (test : Bool) (x y : A) → P (if test then x else y) → ((test ≡ true) × P x) ⊎ ((test ≡ false) × P y)
split_if P true x y h = inl (refl, h)
split_if P false x y h = inr (refl, h)

-- ---- what stands behind a part of a declaration

pub record ValueTail (quote : Quote) (name have bytes e : List ℕ) : Type 0 where
  pub more : List ℕ
  pub rest : List ℕ
  pub split : bytes ≡ more ++ quote_byte quote ∷ rest
  pub is_quoted : IsQuoted quote more
  pub says : ((name ≡ encoding_name) × (have ++ more ≡ e)) ⊎ (¬ (name ≡ encoding_name) × NamesEncoding rest e)

pub record BeforeTail (name bytes e : List ℕ) : Type 0 where
  pub space : List ℕ
  pub quote : Quote
  pub rest : List ℕ
  pub split : bytes ≡ space ++ quote_byte quote ∷ rest
  pub is_space : IsSpace space
  pub later : ValueTail quote name [] rest e

pub record EqualsTail (name bytes e : List ℕ) : Type 0 where
  pub space : List ℕ
  pub rest : List ℕ
  pub split : bytes ≡ space ++ 61 ∷ rest
  pub is_space : IsSpace space
  pub later : BeforeTail name rest e

pub record NameTail (name bytes e : List ℕ) : Type 0 where
  pub more : List ℕ
  pub rest : List ℕ
  pub split : bytes ≡ more ++ rest
  pub is_name : AllByRecursion (λ byte. is_name_byte byte ≡ true) more
  pub later : EqualsTail (name ++ more) rest e

pub record GapTail (bytes e : List ℕ) : Type 0 where
  pub space : List ℕ
  pub byte : ℕ
  pub rest : List ℕ
  pub split : bytes ≡ space ++ byte ∷ rest
  pub is_space : IsSpace space
  pub is_name : is_name_byte byte ≡ true
  pub later : NameTail (byte ∷ []) rest e

pair_of : (gap name white space within rest : List ℕ) (q : ℕ) → (gap ++ (name ++ (white ++ (61 ∷ space ++ (q ∷ within ++ q ∷ []))))) ++ rest ≡ gap ++ (name ++ (white ++ 61 ∷ (space ++ q ∷ (within ++ q ∷ rest))))
pair_of gap name white space within rest q =
    let tail = q ∷ within ++ q ∷ [] in
    append_assoc gap (name ++ (white ++ (61 ∷ space ++ tail))) rest
    ∙ ap (λ (xs : List ℕ). gap ++ xs) (append_assoc name (white ++ (61 ∷ space ++ tail)) rest
    ∙ ap (λ (xs : List ℕ). name ++ xs) (append_assoc white (61 ∷ space ++ tail) rest
    ∙ ap (λ (xs : List ℕ). white ++ 61 ∷ xs) (append_assoc space tail rest
    ∙ ap (λ (xs : List ℕ). space ++ q ∷ xs) (append_assoc within (q ∷ []) rest))))

-- white space and a pair
gap_pair : (byte : ℕ) (bytes e : List ℕ) → is_white byte ≡ true → GapTail bytes e → NamesEncoding (byte ∷ bytes) e
gap_pair byte bytes e white g =
    let n = g.later in
    let s = n.later in
    let b = s.later in
    let v = b.later in
    let q = quote_byte b.quote in
    let name = g.byte ∷ n.more in
    let first = (byte ∷ g.space) ++ (name ++ (s.space ++ (61 ∷ b.space ++ (q ∷ v.more ++ q ∷ [])))) in
    let pair : IsPair first name v.more = IsPair.pair (byte ∷ g.space) name s.space b.space v.more b.quote ((white, g.is_space), λ none. absurd cc) ((g.is_name, n.is_name), λ none. absurd cc) s.is_space b.is_space v.is_quoted in
    let whole : first ++ v.rest ≡ byte ∷ bytes =
    pair_of (byte ∷ g.space) name s.space b.space v.more v.rest q
    ∙ ap (λ (xs : List ℕ). byte ∷ xs) (sym (g.split
    ∙ ap (λ (xs : List ℕ). g.space ++ g.byte ∷ xs) (n.split
    ∙ ap (λ (xs : List ℕ). n.more ++ xs) (s.split
    ∙ ap (λ (xs : List ℕ). s.space ++ 61 ∷ xs) (b.split
    ∙ ap (λ (xs : List ℕ). b.space ++ q ∷ xs) v.split)))))
    in
    subst (λ (xs : List ℕ). NamesEncoding xs e) whole (said first v.rest name v.more e pair v.says)
  where
    said : (first rest name value e : List ℕ) → IsPair first name value → ((name ≡ encoding_name) × (value ≡ e)) ⊎ (¬ (name ≡ encoding_name) × NamesEncoding rest e) → NamesEncoding (first ++ rest) e
    said first rest name value e p (inl is) = NamesEncoding.here first rest e (subst (λ (n : List ℕ). IsPair first n e) is.0 (subst (λ (v : List ℕ). IsPair first name v) is.1 p))
    said first rest name value e p (inr other) = NamesEncoding.later first rest name value e p other.0 other.1

-- what is left of the target
abbrev target_left : ℕ → List ℕ
target_left zero = 120 ∷ 109 ∷ 108 ∷ []
target_left (suc zero) = 109 ∷ 108 ∷ []
target_left (suc (suc zero)) = 108 ∷ []
target_left (suc (suc (suc n))) = []

abbrev TargetTail : ℕ → List ℕ → List ℕ → Type 0
TargetTail seen bytes e = (rest : List ℕ) × (bytes ≡ target_left seen ++ rest) × NamesEncoding rest e

-- what the bytes behind a part are, where this encoding is found in the end
abbrev Left : Part → List ℕ → List ℕ → List ℕ → List ℕ → Type 0
Left (parts.Target seen) name value bytes e = TargetTail seen bytes e
Left parts.Gap name value bytes e = GapTail bytes e
Left parts.Name name value bytes e = NameTail name bytes e
Left parts.AfterName name value bytes e = EqualsTail name bytes e
Left parts.BeforeValue name value bytes e = BeforeTail name bytes e
Left (parts.Value quote) name value bytes e = ValueTail quote name value bytes e
Left parts.AfterValue name value bytes e = NamesEncoding bytes e
Left parts.Found name value bytes e = value ≡ e
Left parts.Stopped name value bytes e = ⊥

abbrev LeftOf : List ℕ → List ℕ → Declaration → Type 0
LeftOf bytes e d = Left d.part d.name d.value bytes e

-- ---- a byte in front

target_step : (seen : ℕ) (name value : List ℕ) (byte : ℕ) (bytes e : List ℕ) → LeftOf bytes e (in_target seen (knows (parts.Target seen) name value) byte) → TargetTail seen (byte ∷ bytes) e
unfolding in_target
target_step zero name value byte bytes e h = elim (split_if (LeftOf bytes e) (120 == byte) _ _ h) [
  | inl is ↦ (is.1.0, ap (λ (xs : List ℕ). byte ∷ xs) is.1.1 ∙ ap (λ b. b ∷ 109 ∷ 108 ∷ is.1.0) (sym (eqb-true 120 byte is.0)), is.1.2)
  | inr other ↦ absurd other.1
]
target_step (suc zero) name value byte bytes e h = elim (split_if (LeftOf bytes e) (109 == byte) _ _ h) [
  | inl is ↦ (is.1.0, ap (λ (xs : List ℕ). byte ∷ xs) is.1.1 ∙ ap (λ b. b ∷ 108 ∷ is.1.0) (sym (eqb-true 109 byte is.0)), is.1.2)
  | inr other ↦ absurd other.1
]
target_step (suc (suc zero)) name value byte bytes e h = elim (split_if (LeftOf bytes e) (108 == byte) _ _ h) [
  | inl is ↦ (is.1.0, ap (λ (xs : List ℕ). byte ∷ xs) is.1.1 ∙ ap (λ b. b ∷ is.1.0) (sym (eqb-true 108 byte is.0)), is.1.2)
  | inr other ↦ absurd other.1
]
target_step (suc (suc (suc n))) name value byte bytes e h = elim (split_if (LeftOf bytes e) (suc (suc (suc n)) == 3 && is_white byte) _ _ h) [
  | inl is ↦ (byte ∷ bytes, refl, gap_pair byte bytes e (and_parts (suc (suc (suc n)) == 3) (is_white byte) is.0).1 is.1)
  | inr other ↦ absurd other.1
]

gap_step : (name value : List ℕ) (byte : ℕ) (bytes e : List ℕ) → LeftOf bytes e (in_gap (knows parts.Gap name value) byte) → GapTail (byte ∷ bytes) e
unfolding in_gap
gap_step name value byte bytes e h = elim (split_if (LeftOf bytes e) (is_white byte) _ _ h) [
  | inl white ↦
      let g = white.1 in
      record { space = byte ∷ g.space; byte = g.byte; rest = g.rest; split = ap (λ (xs : List ℕ). byte ∷ xs) g.split; is_space = (white.0, g.is_space); is_name = g.is_name; later = g.later }
  | inr dark ↦ elim (split_if (LeftOf bytes e) (not (is_name_byte byte)) _ _ dark.1) [
    | inl bad ↦ absurd bad.1
    | inr good ↦ record { space = []; byte = byte; rest = bytes; split = refl; is_space = tt; is_name = not-false (is_name_byte byte) good.0; later = good.1 }
  ]
]

after_name_step : (part : Part) (name value : List ℕ) (byte : ℕ) (bytes e : List ℕ) → LeftOf bytes e (after_name (knows part name value) byte) → EqualsTail name (byte ∷ bytes) e
unfolding after_name
after_name_step part name value byte bytes e h = elim (split_if (LeftOf bytes e) (is_white byte) _ _ h) [
  | inl white ↦
      let g = white.1 in
      record { space = byte ∷ g.space; rest = g.rest; split = ap (λ (xs : List ℕ). byte ∷ xs) g.split; is_space = (white.0, g.is_space); later = g.later }
  | inr dark ↦ elim (split_if (LeftOf bytes e) (byte == 61) _ _ dark.1) [
    | inl is ↦ record { space = []; rest = bytes; split = ap (λ b. b ∷ bytes) (eqb-true byte 61 is.0); is_space = tt; later = is.1 }
    | inr bad ↦ absurd bad.1
  ]
]

name_step : (name value : List ℕ) (byte : ℕ) (bytes e : List ℕ) → LeftOf bytes e (in_name (knows parts.Name name value) byte) → NameTail name (byte ∷ bytes) e
unfolding in_name
name_step name value byte bytes e h = elim (split_if (LeftOf bytes e) (is_name_byte byte) _ _ h) [
  | inl is ↦
      let g = is.1 in
      record { more = byte ∷ g.more; rest = g.rest; split = ap (λ (xs : List ℕ). byte ∷ xs) g.split; is_name = (is.0, g.is_name); later = subst (λ (n : List ℕ). EqualsTail n g.rest e) (append_assoc name (byte ∷ []) g.more) g.later }
  | inr other ↦ record { more = []; rest = byte ∷ bytes; split = refl; is_name = tt; later = subst (λ (n : List ℕ). EqualsTail n (byte ∷ bytes) e) (sym (append-nil name)) (after_name_step parts.Name name value byte bytes e other.1) }
]

before_value_step : (name value : List ℕ) (byte : ℕ) (bytes e : List ℕ) → LeftOf bytes e (before_value (knows parts.BeforeValue name value) byte) → BeforeTail name (byte ∷ bytes) e
unfolding before_value
before_value_step name value byte bytes e h = elim (split_if (LeftOf bytes e) (is_white byte) _ _ h) [
  | inl white ↦
      let g = white.1 in
      record { space = byte ∷ g.space; quote = g.quote; rest = g.rest; split = ap (λ (xs : List ℕ). byte ∷ xs) g.split; is_space = (white.0, g.is_space); later = g.later }
  | inr dark ↦ elim (split_if (λ (o : Option Quote). LeftOf bytes e (quoted (knows parts.BeforeValue name value) o)) (byte == 34) _ _ dark.1) [
    | inl double ↦ record { space = []; quote = quotes.Double; rest = bytes; split = ap (λ b. b ∷ bytes) (eqb-true byte 34 double.0); is_space = tt; later = double.1 }
    | inr other ↦ elim (split_if (λ (o : Option Quote). LeftOf bytes e (quoted (knows parts.BeforeValue name value) o)) (byte == 39) _ _ other.1) [
      | inl single ↦ record { space = []; quote = quotes.Single; rest = bytes; split = ap (λ b. b ∷ bytes) (eqb-true byte 39 single.0); is_space = tt; later = single.1 }
      | inr bad ↦ absurd bad.1
    ]
  ]
]

value_step : (quote : Quote) (name value : List ℕ) (byte : ℕ) (bytes e : List ℕ) → LeftOf bytes e (in_value quote (knows (parts.Value quote) name value) byte) → ValueTail quote name value (byte ∷ bytes) e
unfolding in_value end_value
value_step quote name value byte bytes e h = elim (split_if (LeftOf bytes e) (byte == quote_byte quote) _ _ h) [
  | inl ends ↦ record {
    more = [];
    rest = bytes;
    split = ap (λ b. b ∷ bytes) (eqb-true byte (quote_byte quote) ends.0);
    is_quoted = tt;
    says = elim (split_if (LeftOf bytes e) (bytes_eq name encoding_name) _ _ ends.1) [
      | inl is ↦ inl ((bytes_eq-Decides name encoding_name).0 is.0, append-nil value ∙ is.1)
      | inr other ↦ inr (λ same. absurd (both_ways (bytes_eq name encoding_name) other.0 ((bytes_eq-Decides name encoding_name).1 same)), other.1)
    ];
  }
  | inr goes ↦ elim (split_if (LeftOf bytes e) (byte == 60) _ _ goes.1) [
    | inl bad ↦ absurd bad.1
    | inr good ↦
        let g = good.1 in
        record {
          more = byte ∷ g.more;
          rest = g.rest;
          split = ap (λ (xs : List ℕ). byte ∷ xs) g.split;
          is_quoted = ((eqb-false byte (quote_byte quote) goes.0, eqb-false byte 60 good.0), g.is_quoted);
          says = subst (λ (v : List ℕ). ((name ≡ encoding_name) × (v ≡ e)) ⊎ (¬ (name ≡ encoding_name) × NamesEncoding g.rest e)) (append_assoc value (byte ∷ []) g.more) g.says;
        }
  ]
]

after_value_step : (name value : List ℕ) (byte : ℕ) (bytes e : List ℕ) → LeftOf bytes e (after_value (knows parts.AfterValue name value) byte) → NamesEncoding (byte ∷ bytes) e
unfolding after_value
after_value_step name value byte bytes e h = elim (split_if (LeftOf bytes e) (is_white byte) _ _ h) [
  | inl white ↦ gap_pair byte bytes e white.0 white.1
  | inr bad ↦ absurd bad.1
]

left_step : (part : Part) (name value : List ℕ) (byte : ℕ) (bytes e : List ℕ) → LeftOf bytes e (after (knows part name value) byte) → Left part name value (byte ∷ bytes) e
unfolding after
left_step (parts.Target seen) name value byte bytes e h = target_step seen name value byte bytes e h
left_step parts.Gap name value byte bytes e h = gap_step name value byte bytes e h
left_step parts.Name name value byte bytes e h = name_step name value byte bytes e h
left_step parts.AfterName name value byte bytes e h = after_name_step parts.AfterName name value byte bytes e h
left_step parts.BeforeValue name value byte bytes e h = before_value_step name value byte bytes e h
left_step (parts.Value quote) name value byte bytes e h = value_step quote name value byte bytes e h
left_step parts.AfterValue name value byte bytes e h = after_value_step name value byte bytes e h
left_step parts.Found name value byte bytes e h = h
left_step parts.Stopped name value byte bytes e h = h

at_end : (part : Part) (name value : List ℕ) → part ≡ parts.Found → Left part name value [] value
at_end parts.Found name value e = refl
at_end (parts.Target seen) name value e = absurd cc
at_end parts.Gap name value e = absurd cc
at_end parts.Name name value e = absurd cc
at_end parts.AfterName name value e = absurd cc
at_end parts.BeforeValue name value e = absurd cc
at_end (parts.Value quote) name value e = absurd cc
at_end parts.AfterValue name value e = absurd cc
at_end parts.Stopped name value e = absurd cc

left : (bytes : List ℕ) (d : Declaration) → (known d bytes).part ≡ parts.Found → Left d.part d.name d.value bytes (known d bytes).value
left [] d e = at_end d.part d.name d.value e
left (byte ∷ bytes) d e = left_step d.part d.name d.value byte bytes (known (after d byte) bytes).value (left bytes (after d byte) e)

foreign_found : (part : Part) (value : List ℕ) → is_foreign_in part value ≡ true → (part ≡ parts.Found) × (is_utf8_name value ≡ false)
foreign_found parts.Found value e = (refl, not-true (is_utf8_name value) e)
foreign_found (parts.Target seen) value e = absurd cc
foreign_found parts.Gap value e = absurd cc
foreign_found parts.Name value e = absurd cc
foreign_found parts.AfterName value e = absurd cc
foreign_found parts.BeforeValue value e = absurd cc
foreign_found (parts.Value quote) value e = absurd cc
foreign_found parts.AfterValue value e = absurd cc
foreign_found parts.Stopped value e = absurd cc

-- where another encoding than UTF-8 is known, one is declared
pub foreign_declared : (bytes : List ℕ) → is_foreign (known nothing_declared bytes) ≡ true → (encoding : List ℕ) × Declares bytes encoding × (is_utf8_name encoding ≡ false)
unfolding is_foreign
foreign_declared bytes e =
    let d = known nothing_declared bytes in
    let f = foreign_found d.part d.value e in
    let h = left bytes nothing_declared f.0 in
    (d.value, subst (λ (xs : List ℕ). Declares xs d.value) (sym h.1) (Declares.declares h.0 d.value h.2), f.1)

-- ---- the `?` at the end

if_false : {A : Type 0} (f : A → Bool) (test : Bool) (x y : A) → f x ≡ false → f y ≡ false → f (if test then x else y) ≡ false
if_false f true x y e g = e
if_false f false x y e g = g

question_in : (part : Part) (name value : List ℕ) → is_foreign (after (knows part name value) 63) ≡ is_foreign (knows part name value)
unfolding is_foreign after in_target in_gap after_name in_name before_value in_value after_value
question_in (parts.Target seen) name value = if_false is_foreign (is_byte_at (120 ∷ 109 ∷ 108 ∷ []) seen 63) _ _ refl (if_false is_foreign (seen == 3 && is_white 63) _ _ refl refl)
question_in parts.Gap name value = refl
question_in parts.Name name value = refl
question_in parts.AfterName name value = refl
question_in parts.BeforeValue name value = refl
question_in (parts.Value quotes.Single) name value = refl
question_in (parts.Value quotes.Double) name value = refl
question_in parts.AfterValue name value = refl
question_in parts.Found name value = refl
question_in parts.Stopped name value = refl

-- the `?` at the end of an instruction tells nothing
pub question_says_nothing : (bytes : List ℕ) → is_foreign (known nothing_declared (bytes ++ 63 ∷ [])) ≡ is_foreign (known nothing_declared bytes)
question_says_nothing bytes = ap is_foreign (known_append nothing_declared bytes (63 ∷ [])) ∙ question_in (known nothing_declared bytes).part (known nothing_declared bytes).name (known nothing_declared bytes).value
