-- Which words write which amounts.
use Rattle.std.proofs.Common.{◌≡◌, ◌≢◌, ◌⊎◌, ℕ, zero, suc, ◌+◌, ◌*◌, ◌^◌, ◌<◌, ◌≤◌, true, false, ◌&&◌, cond, eqb, inl, inr, List, [], ◌∷◌, ◌++◌, length, take, drop, get_or, Option, Some, None, ℤ, pos, unsigned_abs, refl, sym, ap, ap₂, subst, ◌∙◌, append_assoc, length-append, arith, nat_lt, leb, ltb, ◌-◌, w64, to_z, of_z, FitsSigned}
use Rattle.std.specs.List.{position_or_len}
use Rattle.std.specs.Option.{option_map, option_map_or, option_and_then}
use Rattle.std.specs.Char.{is_ascii_digit}
use Rattle.std.specs.Str.{all_ascii_digits}
use Rattle.std.proofs.lemmas.Bool.{cases_Bool, and_parts, and_from, cond-true, cond-false, eqb-true, eqb-false, ne_eqb, lt-ltb, ltb-true, leb-true, le-leb}
use Rattle.std.proofs.lemmas.Bool.Decides.{nat_tests}
use Rattle.std.proofs.lemmas.Int.{ints, to_z-of_z}
use Rattle.std.proofs.lemmas.Nat.{pow-add}
use Rattle.std.proofs.lemmas.Option.{option_and_then_some}
use Rattle.std.proofs.lemmas.List.Sums.{split_at_first, passes_at_first}
use Rattle.std.proofs.Math.Seq.{take-append_seam, drop-append-add}
use Rattle.std.proofs.Math.Nat.{one-le-pow, pow-le-pow_right}
use Rattle.ror_text.specs.Numbers.{is_digits, digits_number, digits_up_to, negative, read_performance}
use Rattle.ror_text.proofs.NumberLemmas.{mapped}
use Rattle.ror_text.proofs.Digits.{up_to_small, is_digits_true}
use Rattle.ror_table.specs.declared.amount.Amount.{Amount}
use Rattle.ror_table.specs.declared.plain.Version.{Version}
use Rattle.ror_table.specs.declared.plain.Version.TheVariants.{One, Two, Three}
use Rattle.ror_table.specs.declared.limits.TheConstants.{AMOUNT_LIMIT}
use Rattle.ror_table.specs.Amounts.{IsAmount, whole, lowest, amount_of}
use Rattle.ror_table.specs.Spellings.{point, slash, Sign, Unsigned, Plus, Minus, sign_bytes, signed, WritesWhole, WritesDecimal, WritesRatio, WritesWholeAmount, WritesReal, by_whole, by_decimal, WritesAmount, by_real, by_ratio, split_at_byte, whole_amount, decimal_of, signed_decimal, ratio_of, real_of, amount_in, performance_in}
use Rattle.ror_table.specs.Grammar.{WritesPerformance}
use Rattle.ror_table.proofs.AmountLemmas.{IsAmount-whole, IsAmount-lowest, amount_of-some}

-- ---- cutting at a byte
abbrev pub without : ℕ → List ℕ → Type 0
without byte [] = Unit {0}
without byte (b ∷ bs) = (eqb b byte ≡ false) × without byte bs

first_behind : (byte : ℕ) (a b : List ℕ) → without byte a → position_or_len (λ c. eqb c byte) (a ++ byte ∷ b) ≡ length a
first_behind byte [] b h = grind (arith, nat_tests)
first_behind byte (c ∷ cs) b h = rw h.0 (omega (arith, first_behind byte cs b h.1))

no_first : (byte : ℕ) (a : List ℕ) → without byte a → position_or_len (λ c. eqb c byte) a ≡ length a
no_first byte [] h = refl
no_first byte (c ∷ cs) h = rw h.0 (omega (arith, no_first byte cs h.1))

pub split_at : (byte : ℕ) (a b : List ℕ) → without byte a → split_at_byte byte (a ++ byte ∷ b) ≡ Some (a, b)
split_at byte a b h =
    let k = first_behind byte a b h in
    let in' : ltb (position_or_len (λ c. eqb c byte) (a ++ byte ∷ b)) (length (a ++ byte ∷ b)) ≡ true = lt-ltb _ _ (omega (arith, length-append a (byte ∷ b))) in
    ap (option_map (λ n. (take n (a ++ byte ∷ b), drop (n + 1) (a ++ byte ∷ b)))) (cond-true _ _ _ in' ∙ ap (λ n. Some n) k)
    ∙ (λ i. Some (take-append_seam a (byte ∷ b) i, drop-append-add a (byte ∷ b) 1 i))

pub split_none : (byte : ℕ) (a : List ℕ) → without byte a → split_at_byte byte a ≡ None
split_none byte a h =
    let k = no_first byte a h in
    let out : ltb (position_or_len (λ c. eqb c byte) a) (length a) ≡ false = grind (arith, nat_tests) in
    ap (option_map (λ n. (take n a, drop (n + 1) a))) (cond-false _ _ _ out)

some_same : {A : Type 0} (p q : A) → Some p ≡ Some q → p ≡ q
some_same p q e = cc

pub split_found : (byte : ℕ) (word a b : List ℕ) → split_at_byte byte word ≡ Some (a, b) → word ≡ a ++ byte ∷ b
split_found byte word a b e = elim (cases_Bool (ltb (position_or_len (λ c. eqb c byte) word) (length word))) [
  | inl in' ↦
      let k = position_or_len (λ c. eqb c byte) word in
      let l = ltb-true k (length word) in' in
      let found : List ℕ × List ℕ = (take k word, drop (k + 1) word) in
      let wanted : List ℕ × List ℕ = (a, b) in
      let parts : found ≡ wanted = some_same found wanted (sym (ap (option_map (λ n. (take n word, drop (n + 1) word))) (cond-true _ _ _ in')) ∙ e) in
      let is : get_or word k 0 ≡ byte = eqb-true _ _ (passes_at_first (λ c. eqb c byte) word 0 l) in
      split_at_first (λ c. eqb c byte) word 0 l ∙ (λ i. (parts i).0 ++ is i ∷ (parts i).1)
  | inr out ↦ absurd (let none = sym (ap (option_map (λ n. (take n word, drop (n + 1) word))) (cond-false _ _ _ out)) ∙ e in cc)
]

-- ---- digits
digit_apart : (c : ℕ) → is_ascii_digit c ≡ true → (47 < c) × (c < 58)
digit_apart c h = grind (arith, nat_tests)

digits_cons : (d : ℕ) (ds : List ℕ) → all_ascii_digits (d ∷ ds) ≡ true → (is_ascii_digit d ≡ true) × (all_ascii_digits ds ≡ true)
digits_cons d ds h = and_parts (is_ascii_digit d) (all_ascii_digits ds) h

digits_without : (byte : ℕ) (ds : List ℕ) → byte < 48 → all_ascii_digits ds ≡ true → without byte ds
digits_without byte [] l h = tt
digits_without byte (d ∷ ds) l h =
    let both = digits_cons d ds h in
    let apart = digit_apart d both.0 in
    (ne_eqb d byte (λ e. omega arith), digits_without byte ds l both.1)

without_append : (byte : ℕ) (a b : List ℕ) → without byte a → without byte b → without byte (a ++ b)
without_append byte [] b h k = k
without_append byte (x ∷ a) b h k = (h.0, without_append byte a b h.1 k)

sign_without : (byte : ℕ) (s : Sign) → byte ≢ 43 → byte ≢ 45 → without byte (sign_bytes s)
sign_without byte Unsigned h k = tt
sign_without byte Plus h k = (ne_eqb 43 byte (λ e. h (sym e)), tt)
sign_without byte Minus h k = (ne_eqb 45 byte (λ e. k (sym e)), tt)

of_digits : (ds : List ℕ) → is_digits ds ≡ true → (0 < length ds) × (all_ascii_digits ds ≡ true)
of_digits ds h = let both = and_parts (nat_lt 0 (length ds)) (all_ascii_digits ds) h in (ltb-true 0 (length ds) both.0, both.1)

all_digits_append : (a b : List ℕ) → all_ascii_digits a ≡ true → all_ascii_digits b ≡ true → all_ascii_digits (a ++ b) ≡ true
all_digits_append [] b h k = k
all_digits_append (x ∷ a) b h k =
    let both = digits_cons x a h in
    and_from (is_ascii_digit x) (all_ascii_digits (a ++ b)) both.0 (all_digits_append a b both.1 k)

is_digits_append : (a b : List ℕ) → is_digits a ≡ true → is_digits b ≡ true → is_digits (a ++ b) ≡ true
is_digits_append a b h k =
    let p = of_digits a h in
    let q = of_digits b k in
    is_digits_true (a ++ b) (omega (arith, length-append a b)) (all_digits_append a b p.1 q.1)

pub up_to_some : (most : ℕ) (ds : List ℕ) → is_digits ds ≡ true → length ds ≤ most → digits_up_to most ds ≡ Some (digits_number ds)
up_to_some most ds h l = cond-true _ _ _ (and_from _ _ h (le-leb (length ds) most l))

pub up_to_found : (most : ℕ) (ds : List ℕ) (n : ℕ) → digits_up_to most ds ≡ Some n → (is_digits ds ≡ true) × (length ds ≤ most) × (n ≡ digits_number ds)
up_to_found most ds n e = elim (cases_Bool (is_digits ds && leb (length ds) most)) [
  | inl holds ↦
      let both = and_parts (is_digits ds) (leb (length ds) most) holds in
      let same : Some (digits_number ds) ≡ Some n = sym (cond-true _ _ _ holds) ∙ e in
      (both.0, leb-true (length ds) most both.1, let k : digits_number ds ≡ n = cc in sym k)
  | inr fails ↦ absurd (let none = sym (cond-false _ _ _ fails) ∙ e in cc)
]

-- ---- whole numbers
first_of_digits : (c : ℕ) (cs : List ℕ) → is_digits (c ∷ cs) ≡ true → (eqb c 43 ≡ false) × (eqb c 45 ≡ false)
first_of_digits c cs h =
    let apart = digit_apart c (digits_cons c cs (of_digits (c ∷ cs) h).1).0 in
    (ne_eqb c 43 (λ e. omega arith), ne_eqb c 45 (λ e. omega arith))

pub performance_of_digits : (c : ℕ) (cs : List ℕ) → eqb c 43 ≡ false → eqb c 45 ≡ false → read_performance (c ∷ cs) ≡ option_map pos (digits_up_to 18 (c ∷ cs))
unfolding read_performance
performance_of_digits c cs h k = cond-false _ _ _ h ∙ cond-false _ _ _ k

performance_signed : (s : Sign) (ds : List ℕ) → is_digits ds ≡ true → length ds ≤ 18 → read_performance (sign_bytes s ++ ds) ≡ Some (signed s (digits_number ds))
unfolding read_performance
performance_signed Unsigned [] h l = absurd cc
performance_signed Unsigned (c ∷ cs) h l =
    let apart = first_of_digits c cs h in
    cond-false _ _ _ apart.0 ∙ cond-false _ _ _ apart.1 ∙ ap (option_map pos) (up_to_some 18 (c ∷ cs) h l)
performance_signed Plus ds h l = ap (option_map pos) (up_to_some 18 ds h l)
performance_signed Minus ds h l = ap (option_map negative) (up_to_some 18 ds h l)

writes : (s : Sign) (sign : ℕ → ℤ) (ds : List ℕ) (n : ℤ) → ((k : ℕ) → sign k ≡ signed s k) → option_map sign (digits_up_to 18 ds) ≡ Some n → WritesWhole (sign_bytes s ++ ds) n
writes s sign ds n same e =
    let m = mapped sign (digits_up_to 18 ds) n e in
    let found = up_to_found 18 ds m.0 m.1 in
    record {
      sign = s;
      digits = ds;
      is = refl;
      are_digits = found.0;
      short = found.1;
      number = sym m.2 ∙ same m.0 ∙ ap (signed s) found.2;
    }

pub WritesWhole-read : (word : List ℕ) (n : ℤ) → read_performance word ≡ Some n → WritesWhole word n
unfolding read_performance
WritesWhole-read [] n e = absurd cc
WritesWhole-read (c ∷ cs) n e = elim (cases_Bool (eqb c 43)) [
  | inl plus ↦ rw (eqb-true c 43 plus) (writes Plus pos cs n (λ k. refl) (sym (cond-true _ _ _ plus) ∙ e))
  | inr other ↦
      let f = sym (cond-false _ _ _ other) ∙ e in
      elim (cases_Bool (eqb c 45)) [
        | inl minus ↦ rw (eqb-true c 45 minus) (writes Minus negative cs n (λ k. refl) (sym (cond-true _ _ _ minus) ∙ f))
        | inr none ↦ writes Unsigned pos (c ∷ cs) n (λ k. refl) (sym (cond-false _ _ _ none) ∙ f)
      ]
]

pub read-WritesWhole : (word : List ℕ) (n : ℤ) → WritesWhole word n → read_performance word ≡ Some n
read-WritesWhole word n w =
    ap read_performance w.is ∙ performance_signed w.sign w.digits w.are_digits w.short ∙ ap (λ (z : ℤ). Some z) (sym w.number)

pub WritesWholeAmount-read : (word : List ℕ) (p : Amount) → whole_amount word ≡ Some p → WritesWholeAmount word p
WritesWholeAmount-read word p e =
    let m = mapped whole (read_performance word) p e in
    record { n = m.0; writes = WritesWhole-read word m.0 m.1; amount = sym m.2 }

pub read-WritesWholeAmount : (word : List ℕ) (p : Amount) → WritesWholeAmount word p → whole_amount word ≡ Some p
read-WritesWholeAmount word p w =
    ap (option_map whole) (read-WritesWhole word w.n w.writes) ∙ ap (λ (q : Amount). Some q) (sym w.amount)

WritesWhole-without : (byte : ℕ) (word : List ℕ) (n : ℤ) → byte < 48 → byte ≢ 43 → byte ≢ 45 → WritesWhole word n → without byte word
WritesWhole-without byte word n l h k w =
    subst (without byte) (sym w.is) (without_append byte (sign_bytes w.sign) w.digits (sign_without byte w.sign h k) (digits_without byte w.digits l (of_digits w.digits w.are_digits).1))

-- ---- decimals
decimal_some : (sign : ℕ → ℤ) (before behind : List ℕ) → is_digits before ≡ true → is_digits behind ≡ true → length before + length behind ≤ 18
    → decimal_of sign (before, behind) ≡ Some (lowest (sign (digits_number (before ++ behind))) (pos (10 ^ length behind)))
decimal_some sign before behind h k l =
    cond-true _ _ _ (and_from _ _ h k) ∙ ap (option_map (λ (n : ℕ). lowest (sign n) (pos (10 ^ length behind)))) (up_to_some 18 (before ++ behind) (is_digits_append before behind h k) (omega (arith, length-append before behind)))

signed_decimal_some : (s : Sign) (before behind : List ℕ) → is_digits before ≡ true → is_digits behind ≡ true → length before + length behind ≤ 18
    → signed_decimal (sign_bytes s ++ before, behind) ≡ Some (lowest (signed s (digits_number (before ++ behind))) (pos (10 ^ length behind)))
signed_decimal_some Unsigned [] behind h k l = absurd cc
signed_decimal_some Unsigned (c ∷ cs) behind h k l =
    let apart = first_of_digits c cs h in
    cond-false _ _ _ apart.0 ∙ cond-false _ _ _ apart.1 ∙ decimal_some pos (c ∷ cs) behind h k l
signed_decimal_some Plus before behind h k l = decimal_some pos before behind h k l
signed_decimal_some Minus before behind h k l = decimal_some negative before behind h k l

writes_decimal : (s : Sign) (sign : ℕ → ℤ) (before behind : List ℕ) (p : Amount) → ((k : ℕ) → sign k ≡ signed s k) → decimal_of sign (before, behind) ≡ Some p → WritesDecimal ((sign_bytes s ++ before) ++ point ∷ behind) p
writes_decimal s sign before behind p same e = elim (cases_Bool (is_digits before && is_digits behind)) [
  | inl holds ↦
      let both = and_parts (is_digits before) (is_digits behind) holds in
      let m = mapped (λ (n : ℕ). lowest (sign n) (pos (10 ^ length behind))) (digits_up_to 18 (before ++ behind)) p (sym (cond-true _ _ _ holds) ∙ e) in
      let found = up_to_found 18 (before ++ behind) m.0 m.1 in
      record {
        sign = s;
        before = before;
        behind = behind;
        is = append_assoc (sign_bytes s) before (point ∷ behind);
        before_digits = both.0;
        behind_digits = both.1;
        short = omega (arith, found.1, length-append before behind);
        amount = sym m.2 ∙ ap (λ (z : ℤ). lowest z (pos (10 ^ length behind))) (same m.0 ∙ ap (signed s) found.2);
      }
  | inr fails ↦ absurd (let none = sym (cond-false _ _ _ fails) ∙ e in cc)
]

WritesDecimal-signed : (a behind : List ℕ) (p : Amount) → signed_decimal (a, behind) ≡ Some p → WritesDecimal (a ++ point ∷ behind) p
WritesDecimal-signed [] behind p e = absurd cc
WritesDecimal-signed (c ∷ cs) behind p e = elim (cases_Bool (eqb c 43)) [
  | inl plus ↦ rw (eqb-true c 43 plus) (writes_decimal Plus pos cs behind p (λ k. refl) (sym (cond-true _ _ _ plus) ∙ e))
  | inr other ↦
      let f = sym (cond-false _ _ _ other) ∙ e in
      elim (cases_Bool (eqb c 45)) [
        | inl minus ↦ rw (eqb-true c 45 minus) (writes_decimal Minus negative cs behind p (λ k. refl) (sym (cond-true _ _ _ minus) ∙ f))
        | inr none ↦ writes_decimal Unsigned pos (c ∷ cs) behind p (λ k. refl) (sym (cond-false _ _ _ none) ∙ f)
      ]
]

cut_cases : (o : Option (List ℕ × List ℕ)) → (o ≡ None) ⊎ ((a : List ℕ) × (b : List ℕ) × (o ≡ Some (a, b)))
cut_cases None = inl refl
cut_cases (Some parts) = inr (parts.0, parts.1, refl)

pub WritesReal-read : (word : List ℕ) (p : Amount) → real_of word ≡ Some p → WritesReal word p
unfolding real_of
WritesReal-read word p e = elim (cut_cases (split_at_byte point word)) [
  | inl none ↦ by_whole (WritesWholeAmount-read word p (sym (ap (λ o. option_map_or signed_decimal o (whole_amount word)) none) ∙ e))
  | inr cut ↦
      let is = split_found point word cut.0 cut.1 cut.2 in
      let f = sym (ap (λ o. option_map_or signed_decimal o (whole_amount word)) cut.2) ∙ e in
      by_decimal (subst (λ (w : List ℕ). WritesDecimal w p) (sym is) (WritesDecimal-signed cut.0 cut.1 p f))
]

read-whole : (word : List ℕ) (p : Amount) → WritesWholeAmount word p → real_of word ≡ Some p
unfolding real_of
read-whole word p w =
    ap (λ o. option_map_or signed_decimal o (whole_amount word)) (split_none point word (WritesWhole-without point word w.n (omega arith) (λ e. omega arith) (λ e. omega arith) w.writes))
    ∙ read-WritesWholeAmount word p w

decimal_cut : (word : List ℕ) (p : Amount) → (w : WritesDecimal word p) → split_at_byte point word ≡ Some (sign_bytes w.sign ++ w.before, w.behind)
decimal_cut word p w =
    ap (split_at_byte point) (w.is ∙ sym (append_assoc (sign_bytes w.sign) w.before (point ∷ w.behind)))
    ∙ split_at point (sign_bytes w.sign ++ w.before) w.behind
    (without_append point (sign_bytes w.sign) w.before (sign_without point w.sign (λ e. omega arith) (λ e. omega arith)) (digits_without point w.before (omega arith) (of_digits w.before w.before_digits).1))

read-decimal : (word : List ℕ) (p : Amount) → WritesDecimal word p → real_of word ≡ Some p
unfolding real_of
read-decimal word p w =
    ap (λ o. option_map_or signed_decimal o (whole_amount word)) (decimal_cut word p w)
    ∙ signed_decimal_some w.sign w.before w.behind w.before_digits w.behind_digits w.short
    ∙ ap (λ (q : Amount). Some q) (sym w.amount)

pub read-WritesReal : (word : List ℕ) (p : Amount) → WritesReal word p → real_of word ≡ Some p
read-WritesReal word p (by_whole w) = read-whole word p w
read-WritesReal word p (by_decimal w) = read-decimal word p w

-- ---- ratios
ratio_over : (n : ℤ) (d : ℕ) → 0 < d → cond (eqb d 0) None (Some (lowest n (pos d))) ≡ Some (lowest n (pos d))
ratio_over n d h = cond-false _ _ _ (ne_eqb d 0 (λ e. omega arith))

WritesRatio-read : (first second : List ℕ) (p : Amount) → ratio_of (first, second) ≡ Some p → WritesRatio (first ++ slash ∷ second) p
WritesRatio-read first second p e =
    option_and_then_some (λ (n : ℤ). option_and_then (λ (d : ℕ). cond (eqb d 0) None (Some (lowest n (pos d)))) (digits_up_to 18 second)) (read_performance first) p e
    (λ n is f. option_and_then_some (λ (d : ℕ). cond (eqb d 0) None (Some (lowest n (pos d)))) (digits_up_to 18 second) p f
    (λ d over g. made n d is over g (cases_Bool (eqb d 0))))
  where
    made : (n : ℤ) (d : ℕ) → read_performance first ≡ Some n → digits_up_to 18 second ≡ Some d → cond (eqb d 0) None (Some (lowest n (pos d))) ≡ Some p → (eqb d 0 ≡ true) ⊎ (eqb d 0 ≡ false) → WritesRatio (first ++ slash ∷ second) p
    made n d is over g (inl zeros) = absurd (let none = sym (cond-true _ _ _ zeros) ∙ g in cc)
    made n d is over g (inr some) =
        let found = up_to_found 18 second d over in
        let same : Some (lowest n (pos d)) ≡ Some p = sym (cond-false _ _ _ some) ∙ g in
        let low : lowest n (pos d) ≡ p = cc in
        let not_zero : d ≢ 0 = eqb-false d 0 some in
        record {
          first = first;
          second = second;
          is = refl;
          n = n;
          writes = WritesWhole-read first n is;
          second_digits = found.0;
          short = found.1;
          positive = omega (arith, found.2);
          amount = sym low ∙ ap (λ (k : ℕ). lowest n (pos k)) found.2;
        }

ratio_some : (first second : List ℕ) (n : ℤ) → read_performance first ≡ Some n → is_digits second ≡ true → length second ≤ 18 → 0 < digits_number second
    → ratio_of (first, second) ≡ Some (lowest n (pos (digits_number second)))
ratio_some first second n e h l positive =
    ap (option_and_then (λ (n : ℤ). option_and_then (λ (d : ℕ). cond (eqb d 0) None (Some (lowest n (pos d)))) (digits_up_to 18 second))) e
    ∙ ap (option_and_then (λ (d : ℕ). cond (eqb d 0) None (Some (lowest n (pos d))))) (up_to_some 18 second h l)
    ∙ ratio_over n (digits_number second) positive

pub WritesAmount-read : (word : List ℕ) (p : Amount) → amount_in word ≡ Some p → WritesAmount word p
unfolding amount_in
WritesAmount-read word p e = elim (cut_cases (split_at_byte slash word)) [
  | inl none ↦ by_real (WritesReal-read word p (sym (ap (λ o. option_map_or ratio_of o (real_of word)) none) ∙ e))
  | inr cut ↦
      let is = split_found slash word cut.0 cut.1 cut.2 in
      let f = sym (ap (λ o. option_map_or ratio_of o (real_of word)) cut.2) ∙ e in
      by_ratio (subst (λ (w : List ℕ). WritesRatio w p) (sym is) (WritesRatio-read cut.0 cut.1 p f))
]

WritesReal-without : (word : List ℕ) (p : Amount) → WritesReal word p → without slash word
WritesReal-without word p (by_whole w) = WritesWhole-without slash word w.n (omega arith) (λ e. omega arith) (λ e. omega arith) w.writes
WritesReal-without word p (by_decimal w) =
    subst (without slash) (sym w.is) (without_append slash (sign_bytes w.sign) (w.before ++ point ∷ w.behind) (sign_without slash w.sign (λ e. omega arith) (λ e. omega arith))
    (without_append slash w.before (point ∷ w.behind) (digits_without slash w.before (omega arith) (of_digits w.before w.before_digits).1)
    (refl, digits_without slash w.behind (omega arith) (of_digits w.behind w.behind_digits).1)))

read-real : (word : List ℕ) (p : Amount) → WritesReal word p → amount_in word ≡ Some p
unfolding amount_in
read-real word p w =
    ap (λ o. option_map_or ratio_of o (real_of word)) (split_none slash word (WritesReal-without word p w)) ∙ read-WritesReal word p w

read-ratio : (word : List ℕ) (p : Amount) → WritesRatio word p → amount_in word ≡ Some p
unfolding amount_in
read-ratio word p w =
    ap (λ o. option_map_or ratio_of o (real_of word)) (ap (split_at_byte slash) w.is ∙ split_at slash w.first w.second (WritesWhole-without slash w.first w.n (omega arith) (λ e. omega arith) (λ e. omega arith) w.writes))
    ∙ ratio_some w.first w.second w.n (read-WritesWhole w.first w.n w.writes) w.second_digits w.short w.positive
    ∙ ap (λ (q : Amount). Some q) (sym w.amount)

pub read-WritesAmount : (word : List ℕ) (p : Amount) → WritesAmount word p → amount_in word ≡ Some p
read-WritesAmount word p (by_real w) = read-real word p w
read-WritesAmount word p (by_ratio w) = read-ratio word p w

-- ---- what is written is an amount
pub negative_abs : (n : ℕ) → unsigned_abs (negative n) ≡ n
negative_abs zero = refl
negative_abs (suc n) = refl

signed_bounded : (s : Sign) (n : ℕ) → unsigned_abs (signed s n) ≡ n
signed_bounded Unsigned n = refl
signed_bounded Plus n = refl
signed_bounded Minus n = negative_abs n

WritesWhole-bounded : (word : List ℕ) (n : ℤ) → WritesWhole word n → unsigned_abs n < AMOUNT_LIMIT
WritesWhole-bounded word n w =
    let small = up_to_small 18 w.digits w.short w.are_digits in
    let same = ap unsigned_abs w.number ∙ signed_bounded w.sign (digits_number w.digits) in
    omega arith

pub IsAmount-writes_whole : (word : List ℕ) (p : Amount) → WritesWholeAmount word p → IsAmount p
IsAmount-writes_whole word p w = subst IsAmount (sym w.amount) (IsAmount-whole w.n (WritesWhole-bounded word w.n w.writes))

pub ten_power_positive : (n : ℕ) → 0 < 10 ^ n
ten_power_positive n = one-le-pow n 10 (omega arith)

pub ten_power_bounded : (n : ℕ) → n ≤ 17 → 10 ^ n < AMOUNT_LIMIT
ten_power_bounded n l = let m : 10 ^ n ≤ 10 ^ 17 = pow-le-pow_right (omega arith) l in omega arith

IsAmount-writes_decimal : (word : List ℕ) (p : Amount) → WritesDecimal word p → IsAmount p
IsAmount-writes_decimal word p w =
    let digits = is_digits_append w.before w.behind w.before_digits w.behind_digits in
    let small = up_to_small 18 (w.before ++ w.behind) (omega (arith, w.short, length-append w.before w.behind)) digits in
    let same = signed_bounded w.sign (digits_number (w.before ++ w.behind)) in
    let some = (of_digits w.before w.before_digits).0 in
    let few : length w.behind ≤ 17 = omega (arith, w.short) in
    let positive = ten_power_positive (length w.behind) in
    let bounded = ten_power_bounded (length w.behind) few in
    subst IsAmount (sym w.amount)
    (IsAmount-lowest (signed w.sign (digits_number (w.before ++ w.behind))) (pos (10 ^ length w.behind)) (omega (arith, ints)) (omega arith) (omega arith))

IsAmount-writes_ratio : (word : List ℕ) (p : Amount) → WritesRatio word p → IsAmount p
IsAmount-writes_ratio word p w =
    let small = up_to_small 18 w.second w.short w.second_digits in
    let positive = w.positive in
    subst IsAmount (sym w.amount)
    (IsAmount-lowest w.n (pos (digits_number w.second)) (omega (arith, ints)) (WritesWhole-bounded w.first w.n w.writes) (omega arith))

pub IsAmount-writes_real : (word : List ℕ) (p : Amount) → WritesReal word p → IsAmount p
IsAmount-writes_real word p (by_whole w) = IsAmount-writes_whole word p w
IsAmount-writes_real word p (by_decimal w) = IsAmount-writes_decimal word p w

pub IsAmount-writes : (word : List ℕ) (p : Amount) → WritesAmount word p → IsAmount p
IsAmount-writes word p (by_real w) = IsAmount-writes_real word p w
IsAmount-writes word p (by_ratio w) = IsAmount-writes_ratio word p w

pub IsAmount-whole_amount : (word : List ℕ) (p : Amount) → whole_amount word ≡ Some p → IsAmount p
IsAmount-whole_amount word p e = IsAmount-writes_whole word p (WritesWholeAmount-read word p e)

pub IsAmount-real_of : (word : List ℕ) (p : Amount) → real_of word ≡ Some p → IsAmount p
IsAmount-real_of word p e = IsAmount-writes_real word p (WritesReal-read word p e)

pub IsAmount-amount_in : (word : List ℕ) (p : Amount) → amount_in word ≡ Some p → IsAmount p
IsAmount-amount_in word p e = IsAmount-writes word p (WritesAmount-read word p e)

pub IsAmount-performance_in : (version : Version) (word : List ℕ) (p : Amount) → performance_in version word ≡ Some p → IsAmount p
IsAmount-performance_in One word p e = IsAmount-whole_amount word p e
IsAmount-performance_in Two word p e = IsAmount-amount_in word p e
IsAmount-performance_in Three word p e = IsAmount-amount_in word p e

-- ---- by the version
pub WritesPerformance-read : (version : Version) (word : List ℕ) (p : Amount) → performance_in version word ≡ Some p → WritesPerformance version word p
WritesPerformance-read One word p e = WritesWholeAmount-read word p e
WritesPerformance-read Two word p e = WritesAmount-read word p e
WritesPerformance-read Three word p e = WritesAmount-read word p e

pub read-WritesPerformance : (version : Version) (word : List ℕ) (p : Amount) → WritesPerformance version word p → performance_in version word ≡ Some p
read-WritesPerformance One word p w = read-WritesWholeAmount word p w
read-WritesPerformance Two word p w = read-WritesAmount word p w
read-WritesPerformance Three word p w = read-WritesAmount word p w

pub one_performance : (version : Version) (word : List ℕ) (p q : Amount) → WritesPerformance version word p → WritesPerformance version word q → p ≡ q
one_performance version word p q h k = some_same p q (sym (read-WritesPerformance version word p h) ∙ read-WritesPerformance version word q k)

pub IsAmount-writes_performance : (version : Version) (word : List ℕ) (p : Amount) → WritesPerformance version word p → IsAmount p
IsAmount-writes_performance version word p w = IsAmount-performance_in version word p (read-WritesPerformance version word p w)

-- ---- the code's steps
pub unsigned_reads : (ds : List ℕ) → 0 < length ds → is_ascii_digit (get_or ds 0 0) ≡ true → read_performance ds ≡ option_map pos (digits_up_to 18 ds)
unsigned_reads [] some h = absurd (omega arith)
unsigned_reads (c ∷ cs) some h =
    let apart = digit_apart c h in
    performance_of_digits c cs (ne_eqb c 43 (λ e. omega arith)) (ne_eqb c 45 (λ e. omega arith))

pub unsigned_none : (ds : List ℕ) → 0 < length ds → is_ascii_digit (get_or ds 0 0) ≡ true → None ≡ read_performance ds → digits_up_to 18 ds ≡ None
unsigned_none ds some h e = none_mapped (digits_up_to 18 ds) (e ∙ unsigned_reads ds some h)
  where
    none_mapped : (o : Option ℕ) → None ≡ option_map pos o → o ≡ None
    none_mapped None e = refl
    none_mapped (Some n) e = absurd cc

pub unsigned_some : (ds : List ℕ) (z : ℤ) (n : ℕ) → 0 < length ds → is_ascii_digit (get_or ds 0 0) ≡ true → Some z ≡ read_performance ds → n ≡ unsigned_abs (to_z w64 (of_z w64 z)) → FitsSigned w64 z → Some n ≡ digits_up_to 18 ds
unsigned_some ds z n some h e is fits =
    let m = mapped pos (digits_up_to 18 ds) z (sym (e ∙ unsigned_reads ds some h)) in
    ap (λ (k : ℕ). Some k) (is ∙ ap unsigned_abs (to_z-of_z w64 z fits ∙ sym m.2)) ∙ sym m.1

digits_number_append : (a b : List ℕ) → digits_number (a ++ b) ≡ digits_number a * 10 ^ length b + digits_number b
digits_number_append [] b = omega arith
digits_number_append (d ∷ a) b =
    let e = digits_number_append a b in
    let f = ap (λ (n : ℕ). 10 ^ n) (length-append a b) ∙ pow-add 10 (length a) (length b) in
    ap₂ (λ (p q : ℕ). (d - 48) * p + q) f e
    ∙ placed (d - 48) (10 ^ length a) (10 ^ length b) (digits_number a) (digits_number b)
  where
    placed : (x a b n m : ℕ) → x * (a * b) + (n * b + m) ≡ (x * a + n) * b + m
    placed x a b n m = omega arith

pub joined_some : (before behind : List ℕ) (m n power : ℕ) → Some m ≡ digits_up_to 18 before → Some n ≡ digits_up_to 18 behind → length before + length behind ≤ 18 → power ≡ 10 ^ length behind
    → (is_digits before && is_digits behind ≡ true) × (digits_up_to 18 (before ++ behind) ≡ Some (m * power + n)) × (m * power + n < 10 ^ 18)
joined_some before behind m n power e f l g =
    let first = up_to_found 18 before m (sym e) in
    let second = up_to_found 18 behind n (sym f) in
    let digits = is_digits_append before behind first.0 second.0 in
    let short : length (before ++ behind) ≤ 18 = omega (arith, length-append before behind) in
    let number : m * power + n ≡ digits_number (before ++ behind) = ap₂ (λ (x y : ℕ). x * y + n) first.2 g ∙ ap (λ (x : ℕ). digits_number before * 10 ^ length behind + x) second.2 ∙ sym (digits_number_append before behind) in
    (and_from _ _ first.0 second.0, up_to_some 18 (before ++ behind) digits short ∙ ap (λ (k : ℕ). Some k) (sym number), rw number (up_to_small 18 (before ++ behind) short digits))

pub few_behind : (before behind : List ℕ) (m : ℕ) → Some m ≡ digits_up_to 18 before → length before + length behind ≤ 18 → length behind ≤ 17
few_behind before behind m e l =
    let first = up_to_found 18 before m (sym e) in
    let some = (of_digits before first.0).0 in
    omega arith

pub decimal_made : (sign : ℕ → ℤ) (before behind : List ℕ) (n : ℕ) → unsigned_abs (sign n) ≡ n → (is_digits before && is_digits behind ≡ true) × (digits_up_to 18 (before ++ behind) ≡ Some n) → n < 10 ^ 18 → length behind ≤ 17
    → amount_of (sign n) (pos (10 ^ length behind)) ≡ decimal_of sign (before, behind)
decimal_made sign before behind n same h small few =
    let positive = ten_power_positive (length behind) in
    let bounded = ten_power_bounded (length behind) few in
    amount_of-some (sign n) (pos (10 ^ length behind)) (omega (arith, ints)) (omega arith) (omega arith)
    ∙ sym (cond-true _ _ _ h.0 ∙ ap (option_map (λ (n : ℕ). lowest (sign n) (pos (10 ^ length behind)))) h.1)

amount_over_zero : (n : ℤ) → amount_of n (pos 0) ≡ None
unfolding amount_of
amount_over_zero n = refl

pub ratio_made : (first second : List ℕ) (n : ℤ) (d : ℕ) → Some n ≡ read_performance first → Some d ≡ digits_up_to 18 second → unsigned_abs n < 10 ^ 18 → d < 10 ^ 18 → amount_of n (pos d) ≡ ratio_of (first, second)
ratio_made first second n d e f ln ld =
    over d ld
    ∙ ap (option_and_then (λ (d : ℕ). cond (eqb d 0) None (Some (lowest n (pos d))))) f
    ∙ ap (option_and_then (λ (n : ℤ). option_and_then (λ (d : ℕ). cond (eqb d 0) None (Some (lowest n (pos d)))) (digits_up_to 18 second))) e
  where
    over : (d : ℕ) → d < 10 ^ 18 → amount_of n (pos d) ≡ cond (eqb d 0) None (Some (lowest n (pos d)))
    over zero l = amount_over_zero n
    over (suc d) l = amount_of-some n (pos (suc d)) (omega (arith, ints)) (omega arith) (omega arith) ∙ sym (ratio_over n (suc d) (omega arith))

pub ten_power_fits : (n : ℕ) → n ≤ 17 → 10 ^ n * 10 < 2 ^ 64
ten_power_fits n l = let b = ten_power_bounded n l in omega arith
