-- The classes that are listed are those of which that becomes.
use Rattle.std.proofs.Common.{◌≡◌, ◌≢◌, ℕ, ◌+◌, ◌-◌, ◌≤◌, Bool, true, false, List, [], ◌∷◌, Option, Some, None, refl, sym, ap, subst, ◌∙◌, arith}
use Rattle.std.specs.Prelude.{Contains, if◌then◌else◌}
use Rattle.ror_statement.specs.declared.statement.Statement.{Statement}
use Rattle.ror_table.specs.Table.{DecisionTable}
use Rattle.ror_value.specs.Meaning.{IsConsistent}
use Rattle.ror_proof.specs.declared.answer.Answer.{Answer}
use Rattle.ror_show_ground.proofs.Tests.{nothing-in, only-in, one-in, in-pieces, InPiece, of-pieces}
use Rattle.ror_show_find_relation.specs.CellLaws.{AreTrueAnswers}
use Rattle.ror_show_find_classes.specs.declared.sign.Sign.{Sign}
use Rattle.ror_show_find_classes.specs.declared.sign.Sign.TheVariants as signs
use Rattle.ror_show_find_classes.specs.Meaning.{SignSays}
use Rattle.ror_show_find_classes.specs.Signs.{alternative_of, sign_of_class}
use Rattle.ror_show_find_classes.proofs.SignLemmas.{signs-true}
use Rattle.ror_show_find_whatif.specs.declared.classes.ClassShift.{ClassShift}
use Rattle.ror_show_find_whatif.specs.declared.classes.ClassShift.TheVariants as shifts
use Rattle.ror_show_find_whatif.specs.ClassShifts.{class_shift_of, is_same, is_found, has_class_shift, class_of, class_behind, shifted_classes}
use Rattle.ror_show_find_whatif.specs.Laws.{ListedClassesAreSo, NoOtherClassIsSo}
use Rattle.ror_show_find_whatif.specs.Meaning.{ClassShiftSays}

-- ---- what becomes of a class is so

says_by : (t : DecisionTable) (before after : List Statement) (a h : ℕ) (made shift : ClassShift) → Some made ≡ Some shift → ClassShiftSays made t before after a h → ClassShiftSays shift t before after a h
says_by t before after a h made shift is says = let same : made ≡ shift = cc in subst (λ (s : ClassShift). ClassShiftSays s t before after a h) same says

shift_says : (t : DecisionTable) (before after : List Statement) (a h : ℕ) (shift : ClassShift) (c d : Sign) → class_shift_of c d ≡ Some shift → SignSays t before c a h → SignSays t after d a h → ClassShiftSays shift t before after a h
shift_says t before after a h shift signs.Impossible signs.Necessary is p q =
    says_by t before after a h shifts.Opened shift is (p.by_none, (q.consistent.0, q.consistent.1, q.by_every q.consistent.0 q.consistent.1))
shift_says t before after a h shift signs.Impossible signs.Possible is p q = says_by t before after a h shifts.Opened shift is (p.by_none, q.by_some)
shift_says t before after a h shift signs.Necessary signs.Impossible is p q =
    says_by t before after a h shifts.Closed shift is ((p.consistent.0, p.consistent.1, p.by_every p.consistent.0 p.consistent.1), q.by_none)
shift_says t before after a h shift signs.Possible signs.Impossible is p q = says_by t before after a h shifts.Closed shift is (p.by_some, q.by_none)
shift_says t before after a h shift signs.Necessary signs.Possible is p q = says_by t before after a h shifts.Loosened shift is (p.by_every, q.by_some, q.not_by_every)
shift_says t before after a h shift signs.Possible signs.Necessary is p q = says_by t before after a h shifts.Bound shift is (p.by_some, p.not_by_every, q.by_every)
shift_says t before after a h shift signs.Unknown signs.Necessary is p q = says_by t before after a h shifts.Unknown shift is tt
shift_says t before after a h shift signs.Unknown signs.Possible is p q = says_by t before after a h shifts.Unknown shift is tt
shift_says t before after a h shift signs.Unknown signs.Impossible is p q = says_by t before after a h shifts.Unknown shift is tt
shift_says t before after a h shift signs.Unknown signs.Unknown is p q = says_by t before after a h shifts.Unknown shift is tt
shift_says t before after a h shift signs.Necessary signs.Unknown is p q = says_by t before after a h shifts.Unknown shift is tt
shift_says t before after a h shift signs.Possible signs.Unknown is p q = says_by t before after a h shifts.Unknown shift is tt
shift_says t before after a h shift signs.Impossible signs.Unknown is p q = says_by t before after a h shifts.Unknown shift is tt
shift_says t before after a h shift signs.Contradiction d is p q = absurd cc
shift_says t before after a h shift signs.Necessary signs.Contradiction is p q = absurd cc
shift_says t before after a h shift signs.Possible signs.Contradiction is p q = absurd cc
shift_says t before after a h shift signs.Impossible signs.Contradiction is p q = absurd cc
shift_says t before after a h shift signs.Unknown signs.Contradiction is p q = absurd cc
shift_says t before after a h shift signs.Necessary signs.Necessary is p q = absurd cc
shift_says t before after a h shift signs.Possible signs.Possible is p q = absurd cc
shift_says t before after a h shift signs.Impossible signs.Impossible is p q = absurd cc

-- ---- and what is so becomes of it

abbrev IsSettled : Sign → Type 0
IsSettled signs.Necessary = Unit {0}
IsSettled signs.Possible = Unit {0}
IsSettled signs.Impossible = Unit {0}
IsSettled _ = ⊥

settled : (t : DecisionTable) (list : List Statement) (c : Sign) (a h : ℕ) → IsConsistent t list → c ≢ signs.Unknown → SignSays t list c a h → IsSettled c
settled t list signs.Necessary a h some known is = tt
settled t list signs.Possible a h some known is = tt
settled t list signs.Impossible a h some known is = tt
settled t list signs.Unknown a h some known is = absurd (known refl)
settled t list signs.Contradiction a h some known is = absurd (is some.0 some.1)

opened_is : (t : DecisionTable) (before after : List Statement) (a h : ℕ) (c d : Sign) → IsSettled c → IsSettled d → SignSays t before c a h → SignSays t after d a h → ClassShiftSays shifts.Opened t before after a h → class_shift_of c d ≡ Some shifts.Opened
opened_is t before after a h signs.Impossible signs.Necessary m n p q says = refl
opened_is t before after a h signs.Impossible signs.Possible m n p q says = refl
opened_is t before after a h signs.Impossible signs.Impossible m n p q says = absurd (q.by_none says.1)
opened_is t before after a h signs.Necessary d m n p q says = absurd (says.0 (p.consistent.0, p.consistent.1, p.by_every p.consistent.0 p.consistent.1))
opened_is t before after a h signs.Possible d m n p q says = absurd (says.0 p.by_some)
opened_is t before after a h signs.Unknown d m n p q says = absurd m
opened_is t before after a h signs.Contradiction d m n p q says = absurd m
opened_is t before after a h signs.Impossible signs.Unknown m n p q says = absurd n
opened_is t before after a h signs.Impossible signs.Contradiction m n p q says = absurd n

closed_is : (t : DecisionTable) (before after : List Statement) (a h : ℕ) (c d : Sign) → IsSettled c → IsSettled d → SignSays t before c a h → SignSays t after d a h → ClassShiftSays shifts.Closed t before after a h → class_shift_of c d ≡ Some shifts.Closed
closed_is t before after a h signs.Necessary signs.Impossible m n p q says = refl
closed_is t before after a h signs.Possible signs.Impossible m n p q says = refl
closed_is t before after a h signs.Impossible d m n p q says = absurd (p.by_none says.0)
closed_is t before after a h c signs.Necessary m n p q says = absurd (says.1 (q.consistent.0, q.consistent.1, q.by_every q.consistent.0 q.consistent.1))
closed_is t before after a h c signs.Possible m n p q says = absurd (says.1 q.by_some)
closed_is t before after a h signs.Unknown d m n p q says = absurd m
closed_is t before after a h signs.Contradiction d m n p q says = absurd m
closed_is t before after a h c signs.Unknown m n p q says = absurd n
closed_is t before after a h c signs.Contradiction m n p q says = absurd n

loosened_is : (t : DecisionTable) (before after : List Statement) (a h : ℕ) (c d : Sign) → IsSettled c → IsSettled d → SignSays t before c a h → SignSays t after d a h → ClassShiftSays shifts.Loosened t before after a h → class_shift_of c d ≡ Some shifts.Loosened
loosened_is t before after a h signs.Necessary signs.Possible m n p q says = refl
loosened_is t before after a h signs.Necessary signs.Necessary m n p q says = absurd (says.2 q.by_every)
loosened_is t before after a h signs.Necessary signs.Impossible m n p q says = absurd (q.by_none says.1)
loosened_is t before after a h signs.Possible d m n p q says = absurd (p.not_by_every says.0)
loosened_is t before after a h signs.Impossible d m n p q says = absurd (p.by_none (p.consistent.0, p.consistent.1, says.0 p.consistent.0 p.consistent.1))
loosened_is t before after a h signs.Unknown d m n p q says = absurd m
loosened_is t before after a h signs.Contradiction d m n p q says = absurd m
loosened_is t before after a h signs.Necessary signs.Unknown m n p q says = absurd n
loosened_is t before after a h signs.Necessary signs.Contradiction m n p q says = absurd n

bound_is : (t : DecisionTable) (before after : List Statement) (a h : ℕ) (c d : Sign) → IsSettled c → IsSettled d → SignSays t before c a h → SignSays t after d a h → ClassShiftSays shifts.Bound t before after a h → class_shift_of c d ≡ Some shifts.Bound
bound_is t before after a h signs.Possible signs.Necessary m n p q says = refl
bound_is t before after a h signs.Possible signs.Possible m n p q says = absurd (q.not_by_every says.2)
bound_is t before after a h signs.Possible signs.Impossible m n p q says = absurd (q.by_none (q.consistent.0, q.consistent.1, says.2 q.consistent.0 q.consistent.1))
bound_is t before after a h signs.Necessary d m n p q says = absurd (says.1 p.by_every)
bound_is t before after a h signs.Impossible d m n p q says = absurd (p.by_none says.0)
bound_is t before after a h signs.Unknown d m n p q says = absurd m
bound_is t before after a h signs.Contradiction d m n p q says = absurd m
bound_is t before after a h signs.Possible signs.Unknown m n p q says = absurd n
bound_is t before after a h signs.Possible signs.Contradiction m n p q says = absurd n

shift_is : (t : DecisionTable) (before after : List Statement) (a h : ℕ) (shift : ClassShift) (c d : Sign) → shift ≢ shifts.Unknown → IsSettled c → IsSettled d → SignSays t before c a h → SignSays t after d a h → ClassShiftSays shift t before after a h → class_shift_of c d ≡ Some shift
shift_is t before after a h shifts.Opened c d known m n p q says = opened_is t before after a h c d m n p q says
shift_is t before after a h shifts.Closed c d known m n p q says = closed_is t before after a h c d m n p q says
shift_is t before after a h shifts.Loosened c d known m n p q says = loosened_is t before after a h c d m n p q says
shift_is t before after a h shifts.Bound c d known m n p q says = bound_is t before after a h c d m n p q says
shift_is t before after a h shifts.Unknown c d known m n p q says = absurd (known refl)

-- ---- tests

of_same : (shift found : ClassShift) → is_same shift found ≡ true → found ≡ shift
of_same shifts.Opened shifts.Opened is = refl
of_same shifts.Closed shifts.Closed is = refl
of_same shifts.Loosened shifts.Loosened is = refl
of_same shifts.Bound shifts.Bound is = refl
of_same shifts.Unknown shifts.Unknown is = refl
of_same shift other is = absurd cc

to_same : (shift : ClassShift) → is_same shift shift ≡ true
to_same shifts.Opened = refl
to_same shifts.Closed = refl
to_same shifts.Loosened = refl
to_same shifts.Bound = refl
to_same shifts.Unknown = refl

of_found : (shift : ClassShift) (o : Option ClassShift) → is_found shift o ≡ true → o ≡ Some shift
of_found shift None is = absurd cc
of_found shift (Some found) is = ap Some (of_same shift found is)

to_found : (shift : ClassShift) (o : Option ClassShift) → o ≡ Some shift → is_found shift o ≡ true
to_found shift o is = ap (is_found shift) is ∙ to_same shift

-- ---- which classes

of_piece : (xs ys : List Answer) (shift : ClassShift) (k h : ℕ) (t : Bool) → has_class_shift xs ys shift k ≡ t → Contains {X = ℕ} (if t then k ∷ [] else []) h → (k ≡ h) × (has_class_shift xs ys shift k ≡ true)
of_piece xs ys shift k h false is there = absurd (nothing-in h there)
of_piece xs ys shift k h true is there = (only-in h k there, is)

class_listed : (classes : ℕ) (xs ys : List Answer) (shift : ClassShift) (h : ℕ) → Contains {X = ℕ} (shifted_classes classes xs ys shift) h → has_class_shift xs ys shift h ≡ true
class_listed classes xs ys shift h there =
    let from : InPiece (class_behind xs ys shift) 0 classes h = of-pieces (class_behind xs ys shift) 0 classes h there in
    let is = of_piece xs ys shift (from.at + 1) h (has_class_shift xs ys shift (from.at + 1)) refl from.there in
    subst (λ (k : ℕ). has_class_shift xs ys shift k ≡ true) is.0 is.1

class_there : (classes : ℕ) (xs ys : List Answer) (shift : ClassShift) (h : ℕ) → 1 ≤ h → h ≤ classes → has_class_shift xs ys shift h ≡ true → Contains {X = ℕ} (shifted_classes classes xs ys shift) h
class_there classes xs ys shift h from to passes =
    let here : Contains {X = ℕ} (class_of xs ys shift h) h = rw passes (one-in h) in
    let same : h ≡ h - 1 + 1 = omega (arith, from) in
    in-pieces (class_behind xs ys shift) 0 classes (h - 1) h (omega arith) (omega (arith, from, to)) (subst (λ (k : ℕ). Contains {X = ℕ} (class_of xs ys shift k) h) same here)

sign_says : (t : DecisionTable) (list : List Statement) (xs : List Answer) (a h : ℕ) → AreTrueAnswers t list xs → alternative_of xs ≡ a → SignSays t list (sign_of_class xs h) a h
sign_says t list xs a h all of =
    subst (λ (b : ℕ). SignSays t list (sign_of_class xs h) b h) of (signs-true t list xs (alternative_of xs) h all)

pub listed_classes_are_so : ListedClassesAreSo
listed_classes_are_so shift t before after xs ys classes h all others same there =
    shift_says t before after (alternative_of xs) h shift (sign_of_class xs h) (sign_of_class ys h)
    (of_found shift (class_shift_of (sign_of_class xs h) (sign_of_class ys h)) (class_listed classes xs ys shift h there))
    (sign_says t before xs (alternative_of xs) h all refl) (sign_says t after ys (alternative_of xs) h others (sym same))

pub no_other_class_is_so : NoOtherClassIsSo
no_other_class_is_so shift t before after xs ys classes h all others same some some_after whole whole_after known from to says =
    let now = sign_says t before xs (alternative_of xs) h all refl in
    let then_ = sign_says t after ys (alternative_of xs) h others (sym same) in
    let is = shift_is t before after (alternative_of xs) h shift (sign_of_class xs h) (sign_of_class ys h) known
    (settled t before (sign_of_class xs h) (alternative_of xs) h some (whole h from to) now)
    (settled t after (sign_of_class ys h) (alternative_of xs) h some_after (whole_after h from to) then_) now then_ says in
    class_there classes xs ys shift h from to (to_found shift (class_shift_of (sign_of_class xs h) (sign_of_class ys h)) is)
