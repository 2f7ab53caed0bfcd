-- That what is found of a ground is one thing, but for the parts of what stood that are named, and for the reasons.
use Rattle.std.proofs.Common.{◌≡◌, ℕ, ◌<◌, zero, suc, Bool, true, false, List, [], ◌∷◌, length, map, Option, Some, None, refl, sym, ap, subst, ◌∙◌, arith}
use Rattle.std.specs.Prelude.{slice_get, option_map}
use Rattle.std.specs.List.{AllByRecursion, AllZip}
use Rattle.ror_statement.specs.declared.statement.Numbered.{Numbered}
use Rattle.ror_statement.specs.declared.statement.Statement.{Statement}
use Rattle.ror_table.specs.Table.{DecisionTable}
use Rattle.ror_proof.specs.declared.answer.Answer.{Answer}
use Rattle.ror_report.specs.Text.{answers_of}
use Rattle.ror_bench.specs.declared.kept.KeptLine.{KeptLine}
use Rattle.ror_bench.proofs.UniqueLemmas.{one_some}
use Rattle.ror_show_ground.specs.Grounds.{Ground}
use Rattle.ror_show_ground.specs.Lines.{desk_of}
use Rattle.ror_show_ground.proofs.Lists.{zip_by, picked_within}
use Rattle.ror_show_find_relation.specs.declared.differences.Differences.{Differences}
use Rattle.ror_show_find_relation.specs.declared.page.RelationPage.{RelationPage}
use Rattle.ror_show_find_relation.specs.Brought.{brought}
use Rattle.ror_show_find_relation.specs.Differences.{AreDifferences}
use Rattle.ror_show_find_relation.specs.Pages.{IsRelationPage, known}
use Rattle.ror_show_find_relation.specs.Relations.{Square}
use Rattle.ror_show_find_classes.specs.declared.findings.ClassLine.{ClassLine}
use Rattle.ror_show_find_classes.specs.declared.findings.TimeFound.{TimeFound}
use Rattle.ror_show_find_classes.specs.Findings.{time_from}
use Rattle.ror_show_find_classes.specs.Signs.{alternative_of}
use Rattle.ror_show_find_proofs.specs.declared.findings.FunctionFound.{FunctionFound}
use Rattle.ror_show_find_proofs.specs.declared.findings.FunctionsFound.{FunctionsFound}
use Rattle.ror_show_find_proofs.specs.Findings.{AreFunctionsAt, AreFunctionsFound, functions_found}
use Rattle.ror_show_find_reasons.specs.declared.bounds.Bound.{Bound}
use Rattle.ror_show_find_reasons.specs.declared.bounds.Bounds.{Bounds}
use Rattle.ror_show_find_reasons.specs.declared.bounds.ClassesFound.{ClassesFound}
use Rattle.ror_show_find_reasons.specs.declared.lines.DropFound.{DropFound}
use Rattle.ror_show_find_reasons.specs.declared.lines.LineFound.{LineFound}
use Rattle.ror_show_find_reasons.specs.declared.lines.Meant.{Meant}
use Rattle.ror_show_find_reasons.specs.declared.lines.Meant.TheVariants.{All, Between, Carried}
use Rattle.ror_show_find_reasons.specs.declared.lines.Told.{Told}
use Rattle.ror_show_find_reasons.specs.declared.pairs.CarriedPair.{CarriedPair}
use Rattle.ror_show_find_reasons.specs.declared.pairs.ChangeFound.{ChangeFound}
use Rattle.ror_show_find_reasons.specs.declared.pairs.RelationFound.{RelationFound}
use Rattle.ror_show_find_reasons.specs.Bounds.{IsBoundWhere, AreBoundsOver, AreBoundsWhere, AreBoundsOf, IsClassesFound, AreClassesFound}
use Rattle.ror_show_find_reasons.specs.Lines.{told_places, IsToldAt, AreToldOver, dropped_places, IsDropAt, AreDropsOver, AreDrops, said_for, IsLineFound, AreLinesFound, dropped_by}
use Rattle.ror_show_find_reasons.specs.Pairs.{IsCarriedPair, AreCarriedOver, AreCarriedWhere, IsRelationFound, AreRelationsFound, IsChangeFound, AreChangesFound}
use Rattle.ror_show_find_whatif.specs.declared.cases.Case.{Case}
use Rattle.ror_show_find_whatif.specs.declared.cases.Contrary.{Contrary}
use Rattle.ror_show_find_whatif.specs.declared.outcome.Asks.{Asks}
use Rattle.ror_show_find_whatif.specs.declared.outcome.Asks.TheVariants as asking
use Rattle.ror_show_find_whatif.specs.declared.times.TimeWhatIf.{TimeWhatIf}
use Rattle.ror_show_find_whatif.specs.declared.whatif.WhatIf.{WhatIf}
use Rattle.ror_show_find_whatif.specs.Agreement.{agreement_by}
use Rattle.ror_show_find_whatif.specs.Cases.{IsCase, IsContraryWhere, AreCasesOver}
use Rattle.ror_show_find_whatif.specs.Changed.{contrary_of}
use Rattle.ror_show_find_whatif.specs.Findings.{IsWhatIf, AreRelationWhatIfs, IsRowWhatIf, IsTimeWhatIf, AreClassWhatIfs}
use Rattle.ror_show_pages.specs.PageLaws.{SameRelation, SameChange, SameClasses, SameLine, contrary_said, SameWhatIf, SameTimeWhatIf}
use Rattle.ror_show_pages.proofs.OneContent.{one_content}

-- ---- lists with one for each

-- two of them agree place by place
zip_both : {X Y : Type 0} (P : X → Type 0) (R : X → Y → Type 0) (S : Y → Y → Type 0) (xs : List X) (ys zs : List Y) → ((x : X) (y z : Y) → P x → R x y → R x z → S y z) → AllByRecursion P xs → AllZip R xs ys → AllZip R xs zs → AllZip S ys zs
zip_both P R S [] [] [] each all p q = tt
zip_both P R S [] [] (z ∷ zs) each all p q = absurd q
zip_both P R S [] (y ∷ ys) zs each all p q = absurd p
zip_both P R S (x ∷ xs) [] zs each all p q = absurd p
zip_both P R S (x ∷ xs) (y ∷ ys) [] each all p q = absurd q
zip_both P R S (x ∷ xs) (y ∷ ys) (z ∷ zs) each all p q = (each x y z all.0 p.0 q.0, zip_both P R S xs ys zs each all.1 p.1 q.1)

any : {X : Type 0} (xs : List X) → AllByRecursion (λ x. Unit {0}) xs
any [] = tt
any (x ∷ xs) = (tt, any xs)

zip_same : {X Y : Type 0} (R : X → Y → Type 0) (S : Y → Y → Type 0) (xs : List X) (ys zs : List Y) → ((x : X) (y z : Y) → R x y → R x z → S y z) → AllZip R xs ys → AllZip R xs zs → AllZip S ys zs
zip_same {X} {Y} R S xs ys zs each p q = zip_both (λ (x : X). Unit {0}) R S xs ys zs (λ x y z so. each x y z) (any xs) p q

are_same : {Y Z : Type 0} (f : Y → Z) (ys zs : List Y) → AllZip (λ y z. f y ≡ f z) ys zs → map f ys ≡ map f zs
are_same f [] [] p = refl
are_same f [] (z ∷ zs) p = absurd p
are_same f (y ∷ ys) [] p = absurd p
are_same {Y} {Z} f (y ∷ ys) (z ∷ zs) p = ap (λ (v : Z). v ∷ map f ys) p.0 ∙ ap (λ (vs : List Z). f z ∷ vs) (are_same f ys zs p.1)

one_list : {Y : Type 0} (ys zs : List Y) → AllZip (λ y z. y ≡ z) ys zs → ys ≡ zs
one_list [] [] p = refl
one_list [] (z ∷ zs) p = absurd p
one_list (y ∷ ys) [] p = absurd p
one_list {Y} (y ∷ ys) (z ∷ zs) p = ap (λ (v : Y). v ∷ ys) p.0 ∙ ap (λ (vs : List Y). z ∷ vs) (one_list ys zs p.1)

there_at : {X : Type 0} (xs : List X) (k : ℕ) → k < length xs → (x : X) × (slice_get xs k ≡ Some x)
there_at [] k within = absurd (omega (arith, within))
there_at (x ∷ xs) zero within = (x, refl)
there_at (x ∷ xs) (suc k) within = there_at xs k (omega (arith, within))

-- ---- pairs with what carries them

abbrev pair_of : CarriedPair → ℕ × ℕ
pair_of c = c.pair

carried_over : (t : DecisionTable) (xs : List Answer) (stood : Option (List Numbered)) (pairs : List (ℕ × ℕ)) (fs hs : List CarriedPair) → AreCarriedOver t xs stood pairs fs → AreCarriedOver t xs stood pairs hs → map pair_of fs ≡ map pair_of hs
carried_over t xs None pairs fs hs p q = ap (map pair_of) (p ∙ sym q)
carried_over t xs (Some list) pairs fs hs p q = are_same pair_of fs hs (zip_same (IsCarriedPair t list xs) (λ f h. f.pair ≡ h.pair) pairs fs hs (λ pair f h a b. a.0 ∙ sym b.0) p q)

carried_same : (sought : Bool) (t : DecisionTable) (x : KeptLine) (pairs : List (ℕ × ℕ)) (fs hs : List CarriedPair) → AreCarriedWhere sought t x pairs fs → AreCarriedWhere sought t x pairs hs → map pair_of fs ≡ map pair_of hs
carried_same true t x pairs fs hs p q = carried_over t (answers_of x.block.body) x.standing pairs fs hs p q
carried_same false t x pairs fs hs p q = ap (map pair_of) (p ∙ sym q)

-- ---- relations

same_line : (g : Ground) (n : ℕ) (x y : KeptLine) → slice_get g.kept n ≡ Some x → slice_get g.kept n ≡ Some y → x ≡ y
same_line g n x y here there = one_some (slice_get g.kept n) x y here there

same_page : (t : DecisionTable) (x y : KeptLine) (p q : RelationPage) → x ≡ y → IsRelationPage t (answers_of x.block.body) p → IsRelationPage t (answers_of y.block.body) q → p ≡ q
same_page t x y p q same a b = one_content t (answers_of y.block.body) p q (subst (λ (z : KeptLine). IsRelationPage t (answers_of z.block.body) p) same a) b

relation_same : (sought : Bool) (g : Ground) (n : ℕ) (f h : RelationFound) → IsRelationFound sought g n f → IsRelationFound sought g n h → SameRelation f h
relation_same sought g n f h p q =
    let line = same_line g n p.line q.line p.there q.there in
    let relation = same_page g.table p.line q.line f.relation h.relation line p.relation q.relation in
    let first = subst (λ (x : KeptLine). AreCarriedWhere sought g.table x f.relation.arrows f.carried) line p.carried in
    let carried = subst (λ (r : RelationPage). AreCarriedWhere sought g.table q.line r.arrows f.carried) relation first in
    record {
      place = p.place ∙ sym q.place;
      relation = relation;
      pairs = carried_same sought g.table q.line h.relation.arrows f.carried h.carried carried q.carried;
    }

pub relations_same : (sought : Bool) (g : Ground) (fs hs : List RelationFound) → AreRelationsFound sought g fs → AreRelationsFound sought g hs → AllZip SameRelation fs hs
relations_same sought g fs hs p q = zip_same (IsRelationFound sought g) SameRelation _ fs hs (relation_same sought g) p q

relation_is : (f h : RelationFound) → f.place ≡ h.place → f.relation ≡ h.relation → f.carried ≡ h.carried → f ≡ h
relation_is f h a b c = made f.place h.place f.relation h.relation f.carried h.carried a b c
  where
    of : ℕ → RelationPage → List CarriedPair → RelationFound
    of n r cs = record { place = n; relation = r; carried = cs }

    made : (m n : ℕ) (r s : RelationPage) (cs ds : List CarriedPair) → m ≡ n → r ≡ s → cs ≡ ds → of m r cs ≡ of n s ds
    made m n r s cs ds a b c = cc

-- where nothing is sought they are one
pub one_relations : (g : Ground) (fs hs : List RelationFound) → AreRelationsFound false g fs → AreRelationsFound false g hs → fs ≡ hs
one_relations g fs hs p q =
    one_list fs hs (zip_same (IsRelationFound false g) (λ f h. f ≡ h) _ fs hs (λ n f h a b. let same = relation_same false g n f h a b in relation_is f h same.place same.relation (a.carried ∙ sym b.carried)) p q)

-- ---- changes

one_differences : (before now : Square) (f h : Differences) → AreDifferences before now f → AreDifferences before now h → f ≡ h
one_differences before now f h p q = made f.turned h.turned f.no_longer h.no_longer f.stayed h.stayed f.new h.new (p.turned ∙ sym q.turned) (p.no_longer ∙ sym q.no_longer) (p.stayed ∙ sym q.stayed) (p.new ∙ sym q.new)
  where
    of : List (ℕ × ℕ) → List (ℕ × ℕ) → List (ℕ × ℕ) → List (ℕ × ℕ) → Differences
    of turned no_longer stayed new = record { turned = turned; no_longer = no_longer; stayed = stayed; new = new }

    made : (ps qs cs ds es fs gs hs : List (ℕ × ℕ)) → ps ≡ qs → cs ≡ ds → es ≡ fs → gs ≡ hs → of ps cs es gs ≡ of qs ds fs hs
    made ps qs cs ds es fs gs hs a b c d = cc

change_same : (sought : Bool) (g : Ground) (turn : ℕ × ℕ) (f h : ChangeFound) → IsChangeFound sought g turn f → IsChangeFound sought g turn h → SameChange f h
change_same sought g turn f h p q =
    let earlier = same_line g turn.0 p.earlier q.earlier p.earlier_there q.earlier_there in
    let later = same_line g turn.1 p.later q.later p.later_there q.later_there in
    let first = same_page g.table p.earlier q.earlier f.first h.first earlier p.first q.first in
    let second = same_page g.table p.later q.later f.second h.second later p.second q.second in
    let pairs = subst (λ (r : RelationPage). AreDifferences (known r.rows) (known h.second.rows) f.pairs) first (subst (λ (r : RelationPage). AreDifferences (known f.first.rows) (known r.rows) f.pairs) second p.pairs) in
    let by_later = subst (λ (x : KeptLine). AreCarriedWhere sought g.table x (brought (known f.first.rows) (known f.second.rows)) f.brought) later p.brought_by in
    let by_first = subst (λ (r : RelationPage). AreCarriedWhere sought g.table q.later (brought (known r.rows) (known f.second.rows)) f.brought) first by_later in
    let by_both = subst (λ (r : RelationPage). AreCarriedWhere sought g.table q.later (brought (known h.first.rows) (known r.rows)) f.brought) second by_first in
    record {
      places = (p.places.0 ∙ sym q.places.0, p.places.1 ∙ sym q.places.1);
      relations = (first, second);
      pairs = one_differences (known h.first.rows) (known h.second.rows) f.pairs h.pairs pairs q.pairs;
      brought = carried_same sought g.table q.later (brought (known h.first.rows) (known h.second.rows)) f.brought h.brought by_both q.brought_by;
    }

pub changes_same : (sought : Bool) (g : Ground) (fs hs : List ChangeFound) → AreChangesFound sought g fs → AreChangesFound sought g hs → AllZip SameChange fs hs
changes_same sought g fs hs p q = zip_same (IsChangeFound sought g) SameChange _ fs hs (change_same sought g) p q

change_is : (f h : ChangeFound) → SameChange f h → f.brought ≡ h.brought → f ≡ h
change_is f h same carried = made f.before h.before f.now h.now f.first h.first f.second h.second f.pairs h.pairs f.brought h.brought same.places.0 same.places.1 same.relations.0 same.relations.1 same.pairs carried
  where
    of : ℕ → ℕ → RelationPage → RelationPage → Differences → List CarriedPair → ChangeFound
    of before now first second pairs carried = record { before = before; now = now; first = first; second = second; pairs = pairs; brought = carried }

    made : (k l m n : ℕ) (p q r s : RelationPage) (d e : Differences) (cs ds : List CarriedPair) → k ≡ l → m ≡ n → p ≡ q → r ≡ s → d ≡ e → cs ≡ ds → of k m p r d cs ≡ of l n q s e ds
    made k l m n p q r s d e cs ds a b c v w x = cc

pub one_changes : (g : Ground) (fs hs : List ChangeFound) → AreChangesFound false g fs → AreChangesFound false g hs → fs ≡ hs
one_changes g fs hs p q =
    one_list fs hs (zip_same (IsChangeFound false g) (λ f h. f ≡ h) _ fs hs (λ turn f h a b. change_is f h (change_same false g turn f h a b) (a.brought_by ∙ sym b.brought_by)) p q)

-- ---- functions

functions_is : (f h : FunctionsFound) → f.place ≡ h.place → f.functions ≡ h.functions → f ≡ h
functions_is f h a b = made f.place h.place f.functions h.functions a b
  where
    of : ℕ → List FunctionFound → FunctionsFound
    of n fs = record { place = n; functions = fs }

    made : (m n : ℕ) (fs hs : List FunctionFound) → m ≡ n → fs ≡ hs → of m fs ≡ of n hs
    made m n fs hs a b = cc

functions_same : (g : Ground) (n : ℕ) (f h : FunctionsFound) → AreFunctionsAt g n f → AreFunctionsAt g n h → f ≡ h
functions_same g n f h p q =
    let line = same_line g n p.line q.line p.there q.there in
    let are = ap (λ (x : KeptLine). functions_found g.table (answers_of x.block.body)) line in
    functions_is f h (p.place ∙ sym q.place) (p.functions ∙ are ∙ sym q.functions)

pub one_functions : (g : Ground) (fs hs : List FunctionsFound) → AreFunctionsFound g fs → AreFunctionsFound g hs → fs ≡ hs
one_functions g fs hs p q = one_list fs hs (zip_same (AreFunctionsAt g) (λ f h. f ≡ h) _ fs hs (functions_same g) p q)

-- ---- classes

abbrev class_of : Option Bound → Option ℕ
class_of f = option_map (λ b. b.class) f

bound_same : (end : ℕ) (t : DecisionTable) (list : List Numbered) (o : Option Answer) (f h : Option Bound) → IsBoundWhere end t list o f → IsBoundWhere end t list o h → class_of f ≡ class_of h
bound_same end t list (Some x) f h p q = ap class_of p.2 ∙ sym (ap class_of q.2)
bound_same end t list None f h p q = ap class_of (p ∙ sym q)

pub record SameBounds (f h : Bounds) : Type 0 where
  pub below : class_of f.below ≡ class_of h.below
  pub above : class_of f.above ≡ class_of h.above

bounds_are : (f h : Bounds) → f ≡ h → SameBounds f h
bounds_are f h same = record { below = ap (λ (b : Bounds). class_of b.below) same; above = ap (λ (b : Bounds). class_of b.above) same }

bounds_over : (t : DecisionTable) (xs : List Answer) (stood : Option (List Numbered)) (f h : Bounds) → AreBoundsOver t xs stood f → AreBoundsOver t xs stood h → SameBounds f h
bounds_over t xs (Some list) f h p q = record { below = bound_same _ t list _ f.below h.below p.0 q.0; above = bound_same _ t list _ f.above h.above p.1 q.1 }
bounds_over t xs None f h p q = bounds_are f h (p ∙ sym q)

bounds_where : (sought : Bool) (t : DecisionTable) (x : KeptLine) (f h : Bounds) → AreBoundsWhere sought t x f → AreBoundsWhere sought t x h → SameBounds f h
bounds_where true t x f h p q = bounds_over t (answers_of x.block.body) x.standing f h p q
bounds_where false t x f h p q = bounds_are f h (p ∙ sym q)

row_same : (sought : Bool) (g : Ground) (row : ClassLine) (f h : Bounds) → AreBoundsOf sought g row f → AreBoundsOf sought g row h → SameBounds f h
row_same sought g row f h p q =
    let line = same_line g row.place p.0 q.0 p.1 q.1 in
    bounds_where sought g.table q.0 f h (subst (λ (x : KeptLine). AreBoundsWhere sought g.table x f) line p.2) q.2

classes_at : (sought : Bool) (g : Ground) (n : ℕ) (f h : ClassesFound) → IsClassesFound sought g n f → IsClassesFound sought g n h → SameClasses f h
classes_at sought g n f h p q =
    let line = same_line g n p.time.0 q.time.0 p.time.1 q.time.1 in
    let time : f.time ≡ h.time = p.time.2 ∙ ap (λ (x : KeptLine). time_from g n (desk_of g.session x)) line ∙ sym q.time.2 in
    let bounds = subst (λ (u : TimeFound). AllZip (AreBoundsOf sought g) u.rows f.bounds) time p.bounds in
    let same = zip_same (AreBoundsOf sought g) SameBounds h.time.rows f.bounds h.bounds (row_same sought g) bounds q.bounds in
    record {
      time = time;
      below = are_same (λ (b : Bounds). class_of b.below) f.bounds h.bounds (zip_by SameBounds (λ b c. class_of b.below ≡ class_of c.below) f.bounds h.bounds (λ b c is. is.below) same);
      above = are_same (λ (b : Bounds). class_of b.above) f.bounds h.bounds (zip_by SameBounds (λ b c. class_of b.above ≡ class_of c.above) f.bounds h.bounds (λ b c is. is.above) same);
    }

pub classes_same : (sought : Bool) (g : Ground) (fs hs : List ClassesFound) → AreClassesFound sought g fs → AreClassesFound sought g hs → AllZip SameClasses fs hs
classes_same sought g fs hs p q = zip_same (IsClassesFound sought g) SameClasses _ fs hs (classes_at sought g) p q

-- ---- lines

abbrev answer_of : Told → ℕ
answer_of x = x.answer

abbrev number_of : DropFound → ℕ
number_of x = x.number

told_same : (m : Meant) (t : DecisionTable) (xs : List Answer) (stood : Option (List Numbered)) (fs hs : List Told) → AreToldOver m t xs stood fs → AreToldOver m t xs stood hs → map answer_of fs ≡ map answer_of hs
told_same m t xs (Some list) fs hs p q = are_same answer_of fs hs (zip_same (IsToldAt t list xs) (λ f h. f.answer ≡ h.answer) (told_places m xs) fs hs (λ k f h a b. a.0 ∙ sym b.0) p q)
told_same m t xs None fs hs p q = ap (map answer_of) (p ∙ sym q)

drop_same : (t : DecisionTable) (list : List Numbered) (dropped : List ℕ) (k : ℕ) (f h : DropFound) → k < length list → IsDropAt t list dropped k f → IsDropAt t list dropped k h → f.number ≡ h.number
drop_same t list dropped k f h within p q = let there = there_at list k within in (p.1 there.0 there.1).0 ∙ sym (q.1 there.0 there.1).0

drops_same : (m : Meant) (t : DecisionTable) (list : List Numbered) (dropped : List ℕ) (fs hs : List DropFound) → AreDrops m t list dropped fs → AreDrops m t list dropped hs → map number_of fs ≡ map number_of hs
drops_same All t list dropped fs hs p q = are_same number_of fs hs (zip_both (λ (k : ℕ). k < length list) (IsDropAt t list dropped) (λ f h. f.number ≡ h.number) (dropped_places dropped list) fs hs (drop_same t list dropped) (picked_within _ (length list)) p q)
drops_same (Between pair) t list dropped fs hs p q = ap (map number_of) (p ∙ sym q)
drops_same Carried t list dropped fs hs p q = ap (map number_of) (p ∙ sym q)

drops_over : (m : Meant) (t : DecisionTable) (dropped : List ℕ) (stood : Option (List Numbered)) (fs hs : List DropFound) → AreDropsOver m t dropped stood fs → AreDropsOver m t dropped stood hs → map number_of fs ≡ map number_of hs
drops_over m t dropped (Some list) fs hs p q = drops_same m t list dropped fs hs p q
drops_over m t dropped None fs hs p q = ap (map number_of) (p ∙ sym q)

line_same : (m : Meant) (g : Ground) (n : ℕ) (f h : LineFound) → IsLineFound m g n f → IsLineFound m g n h → SameLine f h
line_same m g n f h p q =
    let line = same_line g n p.0 q.0 p.1 q.1 in
    let first = subst (λ (x : KeptLine). AreToldOver m g.table (answers_of x.block.body) x.standing f.told) line p.2.told in
    let second = subst (λ (x : KeptLine). AreDropsOver m g.table (dropped_by x) x.standing f.drops) line p.2.drops in
    record {
      place = p.2.place ∙ sym q.2.place;
      said = p.2.said ∙ ap (λ (x : KeptLine). said_for m g x n) line ∙ sym q.2.said;
      told = told_same m g.table (answers_of q.0.block.body) q.0.standing f.told h.told first q.2.told;
      drops = drops_over m g.table (dropped_by q.0) q.0.standing f.drops h.drops second q.2.drops;
    }

pub lines_same : (m : Meant) (g : Ground) (fs hs : List LineFound) → AreLinesFound m g fs → AreLinesFound m g hs → AllZip SameLine fs hs
lines_same m g fs hs p q = zip_same (IsLineFound m g) SameLine _ fs hs (line_same m g) p q

-- ---- what hangs on statements

contrary_same : (t : DecisionTable) (asks : Asks) (list : List Numbered) (xs : List Answer) (x : Numbered) (o : Option Statement) (f h : Option Contrary) → IsContraryWhere t asks list xs x o f → IsContraryWhere t asks list xs x o h → option_map (λ (c : Contrary). c.statement) f ≡ option_map (λ (c : Contrary). c.statement) h
contrary_same t asks list xs x (Some s) f h p q =
    ap (option_map (λ (c : Contrary). c.statement)) p.2 ∙ ap Some (p.1.statement ∙ sym q.1.statement) ∙ sym (ap (option_map (λ (c : Contrary). c.statement)) q.2)
contrary_same t asks list xs x None f h p q = ap (option_map (λ (c : Contrary). c.statement)) (p ∙ sym q)

pub record SameCase (f h : Case) : Type 0 where
  pub stated : f.stated ≡ h.stated
  pub contrary : contrary_said f ≡ contrary_said h

case_same : (t : DecisionTable) (asks : Asks) (list : List Numbered) (xs : List Answer) (x : Numbered) (f h : Case) → IsCase t asks list xs x f → IsCase t asks list xs x h → SameCase f h
case_same t asks list xs x f h p q = record {
  stated = p.stated ∙ sym q.stated;
  contrary = contrary_same t asks list xs x (contrary_of x.statement) f.contrary h.contrary p.contrary q.contrary;
}

cases_are : (fs hs : List Case) → fs ≡ hs → AllZip SameCase fs hs
cases_are fs hs same = subst (AllZip SameCase fs) same (each fs)
  where
    each : (cs : List Case) → AllZip SameCase cs cs
    each [] = tt
    each (c ∷ cs) = (record { stated = refl; contrary = refl }, each cs)

cases_same : (t : DecisionTable) (asks : Asks) (xs : List Answer) (stood : Option (List Numbered)) (fs hs : List Case) → AreCasesOver t asks xs stood fs → AreCasesOver t asks xs stood hs → AllZip SameCase fs hs
cases_same t asks xs (Some list) fs hs p q = zip_same (IsCase t asks list xs) SameCase list fs hs (case_same t asks list xs) p q
cases_same t asks xs None fs hs p q = cases_are fs hs (p ∙ sym q)

whatif_same : (asks : Asks) (g : Ground) (n : ℕ) (f h : WhatIf) → IsWhatIf asks g n f → IsWhatIf asks g n h → SameWhatIf f h
whatif_same asks g n f h p q =
    let line = same_line g n p.line q.line p.there q.there in
    let first = subst (λ (x : KeptLine). AreCasesOver g.table asks (answers_of x.block.body) x.standing f.cases) line p.cases in
    let same = cases_same g.table asks (answers_of q.line.block.body) q.line.standing f.cases h.cases first q.cases in
    record {
      place = p.place ∙ sym q.place;
      alternative = p.alternative ∙ ap (λ (x : KeptLine). alternative_of (answers_of x.block.body)) line ∙ sym q.alternative;
      agreement = p.agreement ∙ ap (λ (x : KeptLine). agreement_by (answers_of x.block.body)) line ∙ sym q.agreement;
      stated = are_same (λ (c : Case). c.stated) f.cases h.cases (zip_by SameCase (λ c d. c.stated ≡ d.stated) f.cases h.cases (λ c d is. is.stated) same);
      contraries = are_same contrary_said f.cases h.cases (zip_by SameCase (λ c d. contrary_said c ≡ contrary_said d) f.cases h.cases (λ c d is. is.contrary) same);
    }

pub whatifs_same : (g : Ground) (fs hs : List WhatIf) → AreRelationWhatIfs g fs → AreRelationWhatIfs g hs → AllZip SameWhatIf fs hs
whatifs_same g fs hs p q = zip_same (IsWhatIf asking.Relation g) SameWhatIf _ fs hs (whatif_same asking.Relation g) p q

time_same : (g : Ground) (n : ℕ) (f h : TimeWhatIf) → IsTimeWhatIf g n f → IsTimeWhatIf g n h → SameTimeWhatIf f h
time_same g n f h p q =
    let line = same_line g n p.time.0 q.time.0 p.time.1 q.time.1 in
    let time : f.time ≡ h.time = p.time.2 ∙ ap (λ (x : KeptLine). time_from g n (desk_of g.session x)) line ∙ sym q.time.2 in
    let rows = subst (λ (u : TimeFound). AllZip (IsRowWhatIf g) u.rows f.rows) time p.rows in
    record {
      time = time;
      rows = zip_same (IsRowWhatIf g) SameWhatIf h.time.rows f.rows h.rows (λ row. whatif_same asking.Classes g row.place) rows q.rows;
    }

pub times_same : (g : Ground) (fs hs : List TimeWhatIf) → AreClassWhatIfs g fs → AreClassWhatIfs g hs → AllZip SameTimeWhatIf fs hs
times_same g fs hs p q = zip_same (IsTimeWhatIf g) SameTimeWhatIf _ fs hs (time_same g) p q
