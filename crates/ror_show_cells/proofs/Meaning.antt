-- A number has one meaning.
use Rattle.std.proofs.Common.{◌≡◌, ◌⊎◌, ℕ, ◌<◌, Bool, true, false, not, cond, eqb, ◌&&◌, List, [], ◌∷◌, length, Option, Some, None, refl, sym, ap, ◌∙◌, inl, inr, arith}
use Rattle.std.specs.Char.{is_ascii_digit}
use Rattle.std.specs.List.{list_all}
use Rattle.std.specs.Option.{option_map_or}
use Rattle.std.proofs.lemmas.Bool.{and_parts, le-leb, ne_eqb}
use Rattle.std.proofs.lemmas.Bool.Decides.{nat_tests}
use Rattle.ror_table.specs.declared.amount.Amount.{Amount}
use Rattle.ror_table.specs.Spellings.{split_at_byte}
use Rattle.ror_table.proofs.SpellingLemmas.{without, split_at, WritesReal-read, read-WritesReal}
use Rattle.ror_show_cells.specs.declared.numbers.Numerals.{Numerals}
use Rattle.ror_show_cells.specs.Laws.{IsNumber, IsGrouped, NumbersHaveOneMeaning, OneMarkIsShown}
use Rattle.ror_show_cells.specs.Looks.{has, unsigned}
use Rattle.ror_show_cells.specs.Numbers.{amount_in, are_groups, is_decimal, may_group, other_mark, word_of}

kept : {A : Type 0} (b : Bool) (o : Option A) (x : A) → cond b None o ≡ Some x → (b ≡ false) × (o ≡ Some x)
kept true o x e = absurd cc
kept false o x e = (refl, e)

clear : (shown group : Bool) → (not shown && group) ≡ false → (shown ≡ true) ⊎ (group ≡ false)
clear true group e = inl refl
clear false group e = inr e

unclear : (shown group : Bool) → (shown ≡ true) ⊎ (group ≡ false) → (not shown && group) ≡ false
unclear true group h = refl
unclear false group (inl e) = absurd cc
unclear false group (inr e) = e

number : (n : Numerals) (cell : List ℕ) (p : Amount) → amount_in n cell ≡ Some p → IsNumber n cell p
unfolding amount_in
number n cell p e =
    let first = kept (not n.shown && may_group n.mark cell) _ p e in
    let second = kept (has (other_mark n.mark) cell) _ p first.1 in
    record { writes = WritesReal-read (word_of n.mark cell) p second.1; pure = second.0; clear = clear n.shown (may_group n.mark cell) first.0 }

meant : (n : Numerals) (cell : List ℕ) (p : Amount) → IsNumber n cell p → amount_in n cell ≡ Some p
unfolding amount_in
meant n cell p h = rw (unclear n.shown (may_group n.mark cell) h.clear, h.pure) (read-WritesReal (word_of n.mark cell) p h.writes)

pub numbers_have_one_meaning : NumbersHaveOneMeaning
numbers_have_one_meaning n cell p = (number n cell p, meant n cell p)

-- ---- which numbers show the mark

digit_from : (d : ℕ) → is_ascii_digit d ≡ true → 47 < d
digit_from d h = grind (arith, nat_tests)

apart : (mark : ℕ) (ds : List ℕ) → mark < 48 → list_all is_ascii_digit ds ≡ true → without mark ds
apart mark [] less h = tt
apart mark (d ∷ ds) less h =
    let both = and_parts (is_ascii_digit d) (list_all is_ascii_digit ds) h in
    let from = digit_from d both.0 in
    (ne_eqb d mark (λ e. omega arith), apart mark ds less both.1)

mark_below : (mark : ℕ) → (mark ≡ 44) ⊎ (mark ≡ 46) → mark < 48
mark_below mark (inl e) = omega arith
mark_below mark (inr e) = omega arith

groups : (mark : ℕ) (cell : List ℕ) → mark < 48 → IsGrouped mark cell → may_group mark cell ≡ true
groups mark cell less h =
    let digits = and_parts (not (eqb (length h.before) 0)) (list_all is_ascii_digit h.before) h.before_digits in
    let cut : split_at_byte mark (unsigned cell) ≡ Some (h.before, h.behind) = ap (split_at_byte mark) h.is ∙ split_at mark h.before h.behind (apart mark h.before less digits.1) in
    let are : are_groups (h.before, h.behind) ≡ true = rw (h.before_digits, h.behind_digits, le-leb _ _ h.few, h.three, h.not_zero) refl in
    ap (λ o. option_map_or are_groups o false) cut ∙ are

pub one_mark_is_shown : OneMarkIsShown
one_mark_is_shown mark cell is shown h =
    let both = and_parts (is_decimal mark cell) (not (may_group mark cell)) shown in
    absurd (let e : not true ≡ true = sym (ap not (groups mark cell (mark_below mark is) h)) ∙ both.1 in cc)
