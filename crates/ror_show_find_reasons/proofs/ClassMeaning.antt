-- What is found of classes means what it says.
use Rattle.std.proofs.Common.{◌≡◌, ◌≢◌, ℕ, ◌<◌, ◌+◌, ◌≤◌, Bool, true, false, List, map, Option, Some, None, get_or, refl, sym, ap, subst, ◌∙◌, arith}
use Rattle.std.specs.Prelude.{Contains, slice_get, IfSome}
use Rattle.std.specs.List.{range_with_len}
use Rattle.std.specs.Option.{option_map_or}
use Rattle.std.proofs.lemmas.List.FromFn.{length-map-range_with_len, get_or-map-range_with_len}
use Rattle.std.proofs.lemmas.Option.{slice_get_within}
use Rattle.ror_text.proofs.Everywhere.{all_at}
use Rattle.ror_statement.specs.declared.statement.Numbered.{Numbered}
use Rattle.ror_statement.specs.Statements.{statements_in}
use Rattle.ror_table.specs.Table.{DecisionTable}
use Rattle.ror_report.specs.Text.{answers_of}
use Rattle.ror_bench.specs.declared.kept.KeptLine.{KeptLine}
use Rattle.ror_show_ground.specs.Ready.{IsReady, IsReadyOver}
use Rattle.ror_show_find_classes.specs.declared.sign.Sign.{Sign}
use Rattle.ror_show_find_classes.specs.Signs.{alternative_of, is_left, may_be, sign_of_class}
use Rattle.ror_show_find_classes.specs.declared.sign.Sign.TheVariants as signs
use Rattle.ror_show_find_classes.specs.Meaning.{MayBelong, SignSays}
use Rattle.ror_show_find_classes.specs.Values.{interval_of}
use Rattle.ror_show_find_classes.proofs.IntervalLemmas.{by_some, highest_left, highest_most, intervals_true, lowest_left, lowest_most}
use Rattle.ror_show_find_classes.specs.Intervals.{lowest, highest}
use Rattle.ror_statement.specs.declared.statement.Statement.{Statement}
use Rattle.ror_value.specs.Meaning.{IsConsistent, IsContradictory}
use Rattle.ror_show_ground.specs.Meaning.{BySome}
use Rattle.ror_proof.specs.declared.answer.Answer.{Answer}
use Rattle.std.proofs.lemmas.Bool.{false≢true}
use Rattle.ror_show_find_classes.specs.Times.{times}
use Rattle.ror_show_find_classes.proofs.SignLemmas.{signs-true}
use Rattle.ror_show_ground.specs.Grounds.{Ground, IsJudged}
use Rattle.ror_show_ground.proofs.Lists.{at_place}
use Rattle.ror_show_find_classes.specs.declared.findings.ClassLine.{ClassLine}
use Rattle.ror_show_find_classes.specs.Findings.{signs_of, class_line}
use Rattle.ror_show_find_reasons.specs.declared.bounds.Side.{Side}
use Rattle.ror_show_find_reasons.specs.declared.bounds.Side.TheVariants.{Below, Above}
use Rattle.ror_show_find_reasons.specs.declared.bounds.Bound.{Bound}
use Rattle.ror_show_find_reasons.specs.declared.bounds.Bounds.{Bounds}
use Rattle.ror_show_find_reasons.specs.declared.bounds.ClassesFound.{ClassesFound}
use Rattle.ror_show_find_reasons.specs.Bounds.{end_of, IsNextTo, IsBoundWhere, IsBound, AreBounds, AreBoundsOver, AreBoundsWhere, AreBoundsOf, IsClassesFound, AreClassesFound}
use Rattle.ror_show_find_reasons.specs.Meaning.{bound_on, end_on, MeansSettled, IsBoundOf, MeansRow}
use Rattle.ror_show_find_reasons.proofs.BoundLaws.{told, bounds_are_settled}
use Rattle.ror_show_find_reasons.proofs.Finding.{made_for, made_at, true_answers}
use Rattle.ror_show_find_reasons.proofs.PairMeaning.{same_line, one_line_at}
use Rattle.ror_show_find_reasons.proofs.RowLemmas.{place_of, signs_are, alternative_is, row_of}

-- ---- its signs

mapped_at : {X : Type 0} (f : ℕ → X) (n k : ℕ) (x : X) → slice_get (map f (range_with_len 0 n)) k ≡ Some x → x ≡ f k
mapped_at f n k x there =
    let within = slice_get_within (map f (range_with_len 0 n)) k x there in
    let long = length-map-range_with_len f 0 n in
    let same : get_or (map f (range_with_len 0 n)) k x ≡ x = let p = sym (at_place (map f (range_with_len 0 n)) k x within) in let q = there in cc in
    sym same ∙ get_or-map-range_with_len f 0 n k k x (omega (arith, within, long)) (omega arith)

signs_mean : (t : DecisionTable) (x : KeptLine) (list : List Numbered) (row : ClassLine) (n : ℕ) → IsReadyOver t x list → row ≡ class_line t.classes n x → (h : ℕ) (sign : Sign) → slice_get row.signs h ≡ Some sign → SignSays t (statements_in list) sign row.row.alternative (h + 1)
signs_mean t x list row n over is h sign there =
    let xs = answers_of x.block.body in
    let signs : row.signs ≡ signs_of t.classes (answers_of x.block.body) = ap (λ (r : ClassLine). r.signs) is ∙ signs_are t.classes n x in
    let which : row.row.alternative ≡ alternative_of (answers_of x.block.body) = ap (λ (r : ClassLine). r.row.alternative) is ∙ alternative_is t.classes n x in
    let same : sign ≡ sign_of_class xs (h + 1) = mapped_at (λ (k : ℕ). sign_of_class xs (k + 1)) t.classes h sign (ap (λ (ss : List Sign). slice_get ss h) (sym signs) ∙ there) in
    subst (λ (a : ℕ). SignSays t (statements_in list) sign a (h + 1)) (sym which)
    (subst (λ (s : Sign). SignSays t (statements_in list) s (alternative_of xs) (h + 1)) (sym same) (signs-true t (statements_in list) xs (alternative_of xs) (h + 1) (true_answers t x list over)))

-- ---- its bounds

class_of : (end : ℕ) (t : DecisionTable) (list : List Numbered) (o : Option Answer) (f : Bound) → IsBoundWhere end t list o (Some f) → f.class ≡ end
class_of end t list (Some x) f is = ap (λ (o : Option Bound). option_map_or (λ (g : Bound). g.class) o end) is.2
class_of end t list None f is = absurd (let p = is in cc)

one_bound : (side : Side) (t : DecisionTable) (x : KeptLine) (list : List Numbered) (b : Option Bound) → IsReadyOver t x list → IsBound side t list (answers_of x.block.body) b → IfSome b (λ f. (f.class ≡ end_of side (answers_of x.block.body) t.classes) × MeansSettled side t list (alternative_of (answers_of x.block.body)) f)
one_bound side t x list (Some f) over is = (class_of _ t list _ f is, told side t list (answers_of x.block.body) f over.lawful over.sound is)
one_bound side t x list None over is = tt

both_over : (t : DecisionTable) (x : KeptLine) (list : List Numbered) (b : Bounds) → x.standing ≡ Some list → AreBoundsWhere true t x b → AreBounds t list (answers_of x.block.body) b
both_over t x list b stood are = subst (λ (o : Option (List Numbered)). AreBoundsOver t (answers_of x.block.body) o b) stood are

bounds_mean : (sought : Bool) (t : DecisionTable) (x : KeptLine) (list : List Numbered) (b : Bounds) → IsReadyOver t x list → x.standing ≡ Some list → AreBoundsWhere sought t x b → (side : Side) → IfSome (bound_on side b) (IsBoundOf side t list (interval_of t.classes x))
unfolding interval_of
bounds_mean true t x list b over stood are Below = one_bound Below t x list b.below over (both_over t x list b stood are).0
bounds_mean true t x list b over stood are Above = one_bound Above t x list b.above over (both_over t x list b stood are).1
bounds_mean false t x list b over stood are Below = subst (λ (c : Bounds). IfSome c.below (IsBoundOf Below t list (interval_of t.classes x))) (sym are) tt
bounds_mean false t x list b over stood are Above = subst (λ (c : Bounds). IfSome c.above (IsBoundOf Above t list (interval_of t.classes x))) (sym are) tt

none_missing : (sought : Bool) (t : DecisionTable) (x : KeptLine) (list : List Numbered) (b : Bounds) → x.standing ≡ Some list → AreBoundsWhere sought t x b → sought ≡ true → (side : Side) (k : ℕ) → end_on side (interval_of t.classes x) ≢ 0 → slice_get (signs_of t.classes (answers_of x.block.body)) k ≡ Some signs.Impossible → IsNextTo side (end_on side (interval_of t.classes x)) (k + 1) → bound_on side b ≡ None → ⊥
unfolding interval_of
none_missing true t x list b stood are yes_ Below k some sign next none =
    bounds_are_settled.each Below t list (answers_of x.block.body) (k + 1) some next (sym (mapped_at (λ (j : ℕ). sign_of_class (answers_of x.block.body) (j + 1)) t.classes k signs.Impossible sign)) (subst (IsBound Below t list (answers_of x.block.body)) none (both_over t x list b stood are).0)
none_missing true t x list b stood are yes_ Above k some sign next none =
    bounds_are_settled.each Above t list (answers_of x.block.body) (k + 1) some next (sym (mapped_at (λ (j : ℕ). sign_of_class (answers_of x.block.body) (j + 1)) t.classes k signs.Impossible sign)) (subst (IsBound Above t list (answers_of x.block.body)) none (both_over t x list b stood are).1)
none_missing false t x list b stood are yes_ side k some sign next none = false≢true yes_

between_ends : (t : DecisionTable) (x : KeptLine) (list : List Numbered) → IsReadyOver t x list → (h : ℕ) → 1 ≤ h → h ≤ t.classes → BySome t (statements_in list) (MayBelong t (statements_in list) (interval_of t.classes x).alternative h) → ((interval_of t.classes x).lowest ≤ h) × (h ≤ (interval_of t.classes x).highest)
unfolding interval_of
between_ends t x list over h from within some = (intervals_true t (statements_in list) (answers_of x.block.body) (true_answers t x list over)).between h from within some

-- some function leaves an end
sign_there : {X : Type 0} (f : ℕ → X) (n k : ℕ) → k < n → slice_get (map f (range_with_len 0 n)) k ≡ Some (f k)
sign_there f n k before =
    let long = length-map-range_with_len f 0 n in
    let same : get_or (map f (range_with_len 0 n)) k (f k) ≡ f k = get_or-map-range_with_len f 0 n k k (f k) before (omega arith) in
    at_place (map f (range_with_len 0 n)) k (f k) (omega (arith, before, long)) ∙ ap Some same

left_by : (t : DecisionTable) (list : List Statement) (a h : ℕ) (s : Sign) → IsConsistent t list → SignSays t list s a h → may_be s ≡ true → (s ≡ signs.Unknown → ⊥) → BySome t list (MayBelong t list a h)
left_by t list a h signs.Necessary some says left known = by_some t list signs.Necessary a h says refl
left_by t list a h signs.Possible some says left known = by_some t list signs.Possible a h says refl
left_by t list a h signs.Impossible some says left known = absurd (let p = left in cc)
left_by t list a h signs.Contradiction some says left known = absurd (says some.0 some.1)
left_by t list a h signs.Unknown some says left known = absurd (known refl)

end_left : (t : DecisionTable) (x : KeptLine) (list : List Numbered) → IsReadyOver t x list → IsConsistent t (statements_in list) → (end k : ℕ) → end ≡ k + 1 → is_left (answers_of x.block.body) end ≡ true → end ≤ t.classes → (slice_get (signs_of t.classes (answers_of x.block.body)) k ≡ Some signs.Unknown → ⊥) → BySome t (statements_in list) (MayBelong t (statements_in list) (alternative_of (answers_of x.block.body)) (k + 1))
end_left t x list over some end k is left most known =
    let xs = answers_of x.block.body in
    let here : is_left (answers_of x.block.body) (k + 1) ≡ true = subst (λ (e : ℕ). is_left (answers_of x.block.body) e ≡ true) is left in
    let there = sign_there (λ (j : ℕ). sign_of_class (answers_of x.block.body) (j + 1)) t.classes k (omega (arith, is, most)) in
    left_by t (statements_in list) (alternative_of xs) (k + 1) (sign_of_class xs (k + 1)) some (signs-true t (statements_in list) xs (alternative_of xs) (k + 1) (true_answers t x list over)) here (λ unknown. known (there ∙ ap Some unknown))

tight_so : (t : DecisionTable) (x : KeptLine) (list : List Numbered) → IsReadyOver t x list → IsConsistent t (statements_in list) → (side : Side) (k : ℕ) → end_on side (interval_of t.classes x) ≡ k + 1 → (slice_get (signs_of t.classes (answers_of x.block.body)) k ≡ Some signs.Unknown → ⊥) → BySome t (statements_in list) (MayBelong t (statements_in list) (interval_of t.classes x).alternative (k + 1))
unfolding interval_of
tight_so t x list over some Below k is known =
    end_left t x list over some (lowest (answers_of x.block.body) t.classes) k is (lowest_left (answers_of x.block.body) t.classes (omega (arith, is))) (lowest_most (answers_of x.block.body) t.classes) known
tight_so t x list over some Above k is known =
    end_left t x list over some (highest (answers_of x.block.body) t.classes) k is (highest_left (answers_of x.block.body) t.classes (omega (arith, is))) (highest_most (answers_of x.block.body) t.classes) known

settled_so : (t : DecisionTable) (x : KeptLine) (list : List Numbered) → IsReadyOver t x list → (interval_of t.classes x).settled ≡ true → ((interval_of t.classes x).lowest ≡ (interval_of t.classes x).highest) × BySome t (statements_in list) (MayBelong t (statements_in list) (interval_of t.classes x).alternative (interval_of t.classes x).lowest)
unfolding interval_of
settled_so t x list over settled = (intervals_true t (statements_in list) (answers_of x.block.body) (true_answers t x list over)).settled settled

contradictory_so : (t : DecisionTable) (x : KeptLine) (list : List Numbered) → IsReadyOver t x list → (interval_of t.classes x).contradictory ≡ true → IsContradictory t (statements_in list)
unfolding interval_of
contradictory_so t x list over contradictory = (intervals_true t (statements_in list) (answers_of x.block.body) (true_answers t x list over)).contradictory contradictory

line_means : (sought : Bool) (t : DecisionTable) (x : KeptLine) (list : List Numbered) (b : Bounds) (n : ℕ) → IsReadyOver t x list → x.standing ≡ Some list → AreBoundsWhere sought t x b → MeansRow sought t list (class_line t.classes n x) b
unfolding class_line
line_means sought t x list b n over stood are = record {
  signs = signs_mean t x list (class_line t.classes n x) n over refl;
  between = between_ends t x list over;
  tight = tight_so t x list over;
  settled = settled_so t x list over;
  contradictory = contradictory_so t x list over;
  bounds = bounds_mean sought t x list b over stood are;
  each = none_missing sought t x list b stood are;
}

row_means : (sought : Bool) (g : Ground) (x : KeptLine) (list : List Numbered) (row : ClassLine) (b : Bounds) (n : ℕ) → IsReadyOver g.table x list → x.standing ≡ Some list → row ≡ class_line g.table.classes n x → AreBoundsWhere sought g.table x b → MeansRow sought g.table list row b
row_means sought g x list row b n over stood is are =
    subst (λ (r : ClassLine). MeansRow sought g.table list r b) (sym is) (line_means sought g.table x list b n over stood are)

pub classes_mean : (sought : Bool) (g : Ground) (fs : List ClassesFound) (f : ClassesFound) (k : ℕ) (row : ClassLine) (b : Bounds) (x : KeptLine) (list : List Numbered) → IsJudged g → AreClassesFound sought g fs → Contains fs f → slice_get f.time.rows k ≡ Some row → slice_get f.bounds k ≡ Some b → slice_get g.kept row.place ≡ Some x → x.standing ≡ Some list → MeansRow sought g.table list row b
classes_mean sought g fs f k row b x list judged are there row_there bound_there at stood =
    let one = made_for (IsClassesFound sought g) (times g.session g.kept) fs f there are in
    let is = one.1 in
    let of = row_of g one.0 f.time k row is.time row_there in
    let place : row.place ≡ of.at = ap (λ (r : ClassLine). r.place) of.is ∙ place_of g.table.classes of.at of.line in
    let same = same_line g.kept of.at row.place of.line x of.there place at in
    let ready = all_at (IsReady g.table) g.kept row.place x judged.ready at in
    let bounds = made_at (AreBoundsOf sought g) f.time.rows f.bounds k row b row_there bound_there is.bounds in
    row_means sought g x list row b of.at (ready list stood) stood (subst (λ (y : KeptLine). row ≡ class_line g.table.classes of.at y) same of.is) (subst (λ (y : KeptLine). AreBoundsWhere sought g.table y b) (one_line_at g.kept row.place bounds.0 x bounds.1 at) bounds.2)
