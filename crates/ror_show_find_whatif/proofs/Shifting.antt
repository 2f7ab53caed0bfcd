-- What becomes of a pair, by what is held of it now and then.
use Rattle.std.proofs.Common.{◌≡◌, ◌≢◌, ℕ, true, List, Option, Some, None, refl, ap, subst, ◌∙◌, arith}
use Rattle.std.specs.Prelude.{◌≤ℤ◌, ◌<ℤ◌}
use Rattle.std.proofs.lemmas.Int.{ints}
use Rattle.ror_statement.specs.declared.statement.Statement.{Statement}
use Rattle.ror_table.specs.Table.{DecisionTable}
use Rattle.ror_value.specs.Laws.{IsNecessarilyPreferred}
use Rattle.ror_value.specs.Meaning.{IsConsistent, IsContradictory}
use Rattle.ror_value.specs.Value.{value}
use Rattle.ror_show_find_relation.specs.declared.cell.Cell.{Cell}
use Rattle.ror_show_find_relation.specs.declared.cell.Cell.TheVariants as cells
use Rattle.ror_show_find_relation.specs.Meaning.{IsAlwaysBetter, Says}
use Rattle.ror_show_find_whatif.specs.declared.shift.Held.{Held}
use Rattle.ror_show_find_whatif.specs.declared.shift.Held.TheVariants as held
use Rattle.ror_show_find_whatif.specs.declared.shift.Shift.{Shift}
use Rattle.ror_show_find_whatif.specs.declared.shift.Shift.TheVariants as shifts
use Rattle.ror_show_find_whatif.specs.Meaning.{IsPreferredWithTie, ShiftSays}
use Rattle.ror_show_find_whatif.specs.Shifts.{held_by, shift_by, is_same, is_found}

-- ---- what is held

abbrev pub HeldSays : DecisionTable → List Statement → Held → ℕ → ℕ → Type 0
HeldSays t list held.Strictly a b = IsAlwaysBetter t list a b
HeldSays t list held.Weakly a b = IsPreferredWithTie t list a b
HeldSays t list held.Not a b = IsNecessarilyPreferred t list a b → ⊥
HeldSays t list held.NoFunction a b = IsContradictory t list
HeldSays t list held.Nothing a b = Unit {0}

pub strictly_preferred : (t : DecisionTable) (list : List Statement) (a b : ℕ) → IsAlwaysBetter t list a b → IsNecessarilyPreferred t list a b
strictly_preferred t list a b is w compatible = let more : value t w b <ℤ value t w a = is.more w compatible in omega (arith, ints)

pub held_says : (t : DecisionTable) (list : List Statement) (c : Cell) (a b : ℕ) → Says t list c a b → HeldSays t list (held_by c) a b
held_says t list cells.AlwaysBetter a b is = is
held_says t list cells.AtLeastAsGood a b is = record { preferred = is.at_least; tie = is.tie }
held_says t list cells.AlwaysEqual a b is = record {
  preferred = λ w compatible. (let same : value t w a ≡ value t w b = is.same w compatible in omega (arith, ints));
  tie = (is.consistent.0, is.consistent.1, is.same is.consistent.0 is.consistent.1);
}
held_says t list cells.Open a b is = is.not_over
held_says t list cells.AtMostAsGood a b is = λ preferred. is.no_tie (λ w compatible.
    (let most : value t w a ≤ℤ value t w b = is.at_least w compatible in
    let least : value t w b ≤ℤ value t w a = preferred w compatible in
    omega (arith, ints)))
held_says t list cells.NeverAsGood a b is = λ preferred.
    (let less : value t is.consistent.0 a <ℤ value t is.consistent.0 b = is.more is.consistent.0 is.consistent.1 in
    let least : value t is.consistent.0 b ≤ℤ value t is.consistent.0 a = preferred is.consistent.0 is.consistent.1 in
    omega (arith, ints))
held_says t list cells.Contradiction a b is = is
held_says t list cells.Itself a b is = tt
held_says t list cells.Unknown a b is = tt

-- what is better by every function is equally good by none
not_both : (t : DecisionTable) (list : List Statement) (a b : ℕ) → IsAlwaysBetter t list a b → IsPreferredWithTie t list a b → ⊥
not_both t list a b better with_tie =
    let more : value t with_tie.tie.0 b <ℤ value t with_tie.tie.0 a = better.more with_tie.tie.0 with_tie.tie.1 in
    let same : value t with_tie.tie.0 a ≡ value t with_tie.tie.0 b = with_tie.tie.2 in
    omega (arith, ints)

-- ---- what becomes of it is so

pub shift_says : (t : DecisionTable) (before after : List Statement) (a b : ℕ) (shift : Shift) (h k : Held) → shift_by h k ≡ Some shift → HeldSays t before h a b → HeldSays t after k a b → ShiftSays shift t before after a b
shift_says t before after a b shift held.Strictly held.Not is p q =
    let same : shifts.Lost ≡ shift = cc in
    subst (λ (s : Shift). ShiftSays s t before after a b) same (strictly_preferred t before a b p, q)
shift_says t before after a b shift held.Weakly held.Not is p q =
    let same : shifts.Lost ≡ shift = cc in
    subst (λ (s : Shift). ShiftSays s t before after a b) same (p.preferred, q)
shift_says t before after a b shift held.Strictly held.Weakly is p q =
    let same : shifts.Weaker ≡ shift = cc in
    subst (λ (s : Shift). ShiftSays s t before after a b) same (p, q)
shift_says t before after a b shift held.Weakly held.Strictly is p q =
    let same : shifts.Stronger ≡ shift = cc in
    subst (λ (s : Shift). ShiftSays s t before after a b) same (p, q)
shift_says t before after a b shift held.Not held.Strictly is p q =
    let same : shifts.Won ≡ shift = cc in
    subst (λ (s : Shift). ShiftSays s t before after a b) same (strictly_preferred t after a b q, p)
shift_says t before after a b shift held.Not held.Weakly is p q =
    let same : shifts.Won ≡ shift = cc in
    subst (λ (s : Shift). ShiftSays s t before after a b) same (q.preferred, p)
shift_says t before after a b shift held.Nothing held.Strictly is p q = let same : shifts.Unknown ≡ shift = cc in subst (λ (s : Shift). ShiftSays s t before after a b) same tt
shift_says t before after a b shift held.Nothing held.Weakly is p q = let same : shifts.Unknown ≡ shift = cc in subst (λ (s : Shift). ShiftSays s t before after a b) same tt
shift_says t before after a b shift held.Nothing held.Not is p q = let same : shifts.Unknown ≡ shift = cc in subst (λ (s : Shift). ShiftSays s t before after a b) same tt
shift_says t before after a b shift held.Nothing held.Nothing is p q = let same : shifts.Unknown ≡ shift = cc in subst (λ (s : Shift). ShiftSays s t before after a b) same tt
shift_says t before after a b shift held.Strictly held.Nothing is p q = let same : shifts.Unknown ≡ shift = cc in subst (λ (s : Shift). ShiftSays s t before after a b) same tt
shift_says t before after a b shift held.Weakly held.Nothing is p q = let same : shifts.Unknown ≡ shift = cc in subst (λ (s : Shift). ShiftSays s t before after a b) same tt
shift_says t before after a b shift held.Not held.Nothing is p q = let same : shifts.Unknown ≡ shift = cc in subst (λ (s : Shift). ShiftSays s t before after a b) same tt
shift_says t before after a b shift held.NoFunction k is p q = absurd cc
shift_says t before after a b shift held.Strictly held.NoFunction is p q = absurd cc
shift_says t before after a b shift held.Weakly held.NoFunction is p q = absurd cc
shift_says t before after a b shift held.Not held.NoFunction is p q = absurd cc
shift_says t before after a b shift held.Nothing held.NoFunction is p q = absurd cc
shift_says t before after a b shift held.Strictly held.Strictly is p q = absurd cc
shift_says t before after a b shift held.Weakly held.Weakly is p q = absurd cc
shift_says t before after a b shift held.Not held.Not is p q = absurd cc

-- ---- and what is so becomes of it

-- something is held
abbrev pub IsSettled : Held → Type 0
IsSettled held.Strictly = Unit {0}
IsSettled held.Weakly = Unit {0}
IsSettled held.Not = Unit {0}
IsSettled _ = ⊥

pub held_settled : (t : DecisionTable) (list : List Statement) (c : Cell) (a b : ℕ) → IsConsistent t list → a ≢ b → c ≢ cells.Unknown → Says t list c a b → IsSettled (held_by c)
held_settled t list cells.AlwaysBetter a b some differ known is = tt
held_settled t list cells.AtLeastAsGood a b some differ known is = tt
held_settled t list cells.AlwaysEqual a b some differ known is = tt
held_settled t list cells.Open a b some differ known is = tt
held_settled t list cells.AtMostAsGood a b some differ known is = tt
held_settled t list cells.NeverAsGood a b some differ known is = tt
held_settled t list cells.Contradiction a b some differ known is = absurd (is some.0 some.1)
held_settled t list cells.Itself a b some differ known is = absurd (differ is)
held_settled t list cells.Unknown a b some differ known is = absurd (known refl)

lost_is : (t : DecisionTable) (before after : List Statement) (a b : ℕ) (h k : Held) → IsSettled h → IsSettled k → HeldSays t before h a b → HeldSays t after k a b → ShiftSays shifts.Lost t before after a b → shift_by h k ≡ Some shifts.Lost
lost_is t before after a b held.Strictly held.Not m n p q says = refl
lost_is t before after a b held.Weakly held.Not m n p q says = refl
lost_is t before after a b held.Not held.Strictly m n p q says = absurd (p says.0)
lost_is t before after a b held.Not held.Weakly m n p q says = absurd (p says.0)
lost_is t before after a b held.Not held.Not m n p q says = absurd (p says.0)
lost_is t before after a b held.Strictly held.Strictly m n p q says = absurd (says.1 (strictly_preferred t after a b q))
lost_is t before after a b held.Strictly held.Weakly m n p q says = absurd (says.1 q.preferred)
lost_is t before after a b held.Weakly held.Strictly m n p q says = absurd (says.1 (strictly_preferred t after a b q))
lost_is t before after a b held.Weakly held.Weakly m n p q says = absurd (says.1 q.preferred)
lost_is t before after a b held.NoFunction k m n p q says = absurd m
lost_is t before after a b held.Nothing k m n p q says = absurd m
lost_is t before after a b h held.NoFunction m n p q says = absurd n
lost_is t before after a b h held.Nothing m n p q says = absurd n

won_is : (t : DecisionTable) (before after : List Statement) (a b : ℕ) (h k : Held) → IsSettled h → IsSettled k → HeldSays t before h a b → HeldSays t after k a b → ShiftSays shifts.Won t before after a b → shift_by h k ≡ Some shifts.Won
won_is t before after a b held.Not held.Strictly m n p q says = refl
won_is t before after a b held.Not held.Weakly m n p q says = refl
won_is t before after a b held.Not held.Not m n p q says = absurd (q says.0)
won_is t before after a b held.Strictly held.Not m n p q says = absurd (q says.0)
won_is t before after a b held.Weakly held.Not m n p q says = absurd (q says.0)
won_is t before after a b held.Strictly held.Strictly m n p q says = absurd (says.1 (strictly_preferred t before a b p))
won_is t before after a b held.Strictly held.Weakly m n p q says = absurd (says.1 (strictly_preferred t before a b p))
won_is t before after a b held.Weakly held.Strictly m n p q says = absurd (says.1 p.preferred)
won_is t before after a b held.Weakly held.Weakly m n p q says = absurd (says.1 p.preferred)
won_is t before after a b held.NoFunction k m n p q says = absurd m
won_is t before after a b held.Nothing k m n p q says = absurd m
won_is t before after a b h held.NoFunction m n p q says = absurd n
won_is t before after a b h held.Nothing m n p q says = absurd n

weaker_is : (t : DecisionTable) (before after : List Statement) (a b : ℕ) (h k : Held) → IsSettled h → IsSettled k → HeldSays t before h a b → HeldSays t after k a b → ShiftSays shifts.Weaker t before after a b → shift_by h k ≡ Some shifts.Weaker
weaker_is t before after a b held.Strictly held.Weakly m n p q says = refl
weaker_is t before after a b held.Strictly held.Strictly m n p q says = absurd (not_both t after a b q says.1)
weaker_is t before after a b held.Strictly held.Not m n p q says = absurd (q says.1.preferred)
weaker_is t before after a b held.Weakly held.Strictly m n p q says = absurd (not_both t before a b says.0 p)
weaker_is t before after a b held.Weakly held.Weakly m n p q says = absurd (not_both t before a b says.0 p)
weaker_is t before after a b held.Weakly held.Not m n p q says = absurd (not_both t before a b says.0 p)
weaker_is t before after a b held.Not held.Strictly m n p q says = absurd (p (strictly_preferred t before a b says.0))
weaker_is t before after a b held.Not held.Weakly m n p q says = absurd (p (strictly_preferred t before a b says.0))
weaker_is t before after a b held.Not held.Not m n p q says = absurd (p (strictly_preferred t before a b says.0))
weaker_is t before after a b held.NoFunction k m n p q says = absurd m
weaker_is t before after a b held.Nothing k m n p q says = absurd m
weaker_is t before after a b h held.NoFunction m n p q says = absurd n
weaker_is t before after a b h held.Nothing m n p q says = absurd n

stronger_is : (t : DecisionTable) (before after : List Statement) (a b : ℕ) (h k : Held) → IsSettled h → IsSettled k → HeldSays t before h a b → HeldSays t after k a b → ShiftSays shifts.Stronger t before after a b → shift_by h k ≡ Some shifts.Stronger
stronger_is t before after a b held.Weakly held.Strictly m n p q says = refl
stronger_is t before after a b held.Strictly held.Strictly m n p q says = absurd (not_both t before a b p says.0)
stronger_is t before after a b held.Strictly held.Weakly m n p q says = absurd (not_both t before a b p says.0)
stronger_is t before after a b held.Strictly held.Not m n p q says = absurd (not_both t before a b p says.0)
stronger_is t before after a b held.Weakly held.Weakly m n p q says = absurd (not_both t after a b says.1 q)
stronger_is t before after a b held.Weakly held.Not m n p q says = absurd (q (strictly_preferred t after a b says.1))
stronger_is t before after a b held.Not held.Strictly m n p q says = absurd (p says.0.preferred)
stronger_is t before after a b held.Not held.Weakly m n p q says = absurd (p says.0.preferred)
stronger_is t before after a b held.Not held.Not m n p q says = absurd (p says.0.preferred)
stronger_is t before after a b held.NoFunction k m n p q says = absurd m
stronger_is t before after a b held.Nothing k m n p q says = absurd m
stronger_is t before after a b h held.NoFunction m n p q says = absurd n
stronger_is t before after a b h held.Nothing m n p q says = absurd n

pub shift_is : (t : DecisionTable) (before after : List Statement) (a b : ℕ) (shift : Shift) (h k : Held) → shift ≢ shifts.Unknown → IsSettled h → IsSettled k → HeldSays t before h a b → HeldSays t after k a b → ShiftSays shift t before after a b → shift_by h k ≡ Some shift
shift_is t before after a b shifts.Lost h k known m n p q says = lost_is t before after a b h k m n p q says
shift_is t before after a b shifts.Weaker h k known m n p q says = weaker_is t before after a b h k m n p q says
shift_is t before after a b shifts.Won h k known m n p q says = won_is t before after a b h k m n p q says
shift_is t before after a b shifts.Stronger h k known m n p q says = stronger_is t before after a b h k m n p q says
shift_is t before after a b shifts.Unknown h k known m n p q says = absurd (known refl)

-- ---- tests

of_same : (shift found : Shift) → is_same shift found ≡ true → found ≡ shift
of_same shifts.Lost shifts.Lost is = refl
of_same shifts.Weaker shifts.Weaker is = refl
of_same shifts.Won shifts.Won is = refl
of_same shifts.Stronger shifts.Stronger is = refl
of_same shifts.Unknown shifts.Unknown is = refl
of_same shift found is = absurd cc

to_same : (shift : Shift) → is_same shift shift ≡ true
to_same shifts.Lost = refl
to_same shifts.Weaker = refl
to_same shifts.Won = refl
to_same shifts.Stronger = refl
to_same shifts.Unknown = refl

pub of_found : (shift : Shift) (o : Option Shift) → is_found shift o ≡ true → o ≡ Some shift
of_found shift None is = absurd cc
of_found shift (Some found) is = ap Some (of_same shift found is)

pub to_found : (shift : Shift) (o : Option Shift) → o ≡ Some shift → is_found shift o ≡ true
to_found shift o is = ap (is_found shift) is ∙ to_same shift
