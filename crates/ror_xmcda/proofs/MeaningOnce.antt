-- A tree says one input.
use Rattle.std.proofs.Common.{◌≡◌, ℕ, Bool, List, [], ◌∷◌, ◌++◌, Option, Some, None, Result, Ok, refl, sym, ap, ◌∙◌, subst}
use Rattle.std.specs.Prelude.{filter}
use Rattle.std.specs.List.{AllZip, AllByRecursion, flat_map}
use Rattle.ror_statement.specs.declared.statement.Statement.{Statement}
use Rattle.ror_table.specs.declared.amount.Amount.{Amount}
use Rattle.ror_table.specs.declared.direction.Direction.{Direction}
use Rattle.ror_table.specs.declared.fault.TableFault.{TableFault}
use Rattle.ror_table.specs.Table.{Criterion, Alternative, DecisionTable}
use Rattle.ror_value.specs.declared.input.Input.{Input}
use Rattle.ror_elements.specs.Tree.{Tree}
use Rattle.ror_xmcda.specs.Numbers.{number_of}
use Rattle.ror_xmcda.specs.Meaning.{active, listed_criteria, listed_alternatives, IsDirection, IsCriterion, IsAlternative, HasNumber, IsPerformance, AreItsPerformances, pairs, pair_says, affectations, affectation_says, IsContent}

pub some_same : {A : Type 0} (x y : A) (o : Option A) → o ≡ Some x → o ≡ Some y → x ≡ y
some_same x y o p q = let same : Some x ≡ Some y = sym p ∙ q in cc

zip_same : {A B : Type 0} (R : A → B → Type 0) → ((x : A) (y z : B) → R x y → R x z → y ≡ z) → (xs : List A) (ys zs : List B) → AllZip R xs ys → AllZip R xs zs → ys ≡ zs
zip_same R one [] [] [] h k = refl
zip_same R one [] [] (z ∷ zs) h k = absurd k
zip_same R one [] (y ∷ ys) zs h k = absurd h
zip_same R one (x ∷ xs) [] zs h k = absurd h
zip_same R one (x ∷ xs) (y ∷ ys) [] h k = absurd k
zip_same R one (x ∷ xs) (y ∷ ys) (z ∷ zs) h k = rw (one x y z h.0 k.0, zip_same R one xs ys zs h.1 k.1) refl

direction_same : (o : Option Tree) (d e : Direction) → IsDirection o d → IsDirection o e → d ≡ e
direction_same None d e p q = p ∙ sym q
direction_same (Some t) d e p q = some_same d e _ p q

criterion_same : (t : Tree) (c d : Criterion) → IsCriterion t c → IsCriterion t d → c ≡ d
criterion_same t c d p q = both c.id d.id c.direction d.direction c.linear d.linear (some_same c.id d.id _ p.id q.id) (direction_same _ c.direction d.direction p.direction q.direction) (p.stepwise ∙ sym q.stepwise)
  where
    both : (i j : List ℕ) (x y : Direction) (k l : Bool) → i ≡ j → x ≡ y → k ≡ l → ◌≡◌ {A = Criterion} (record { id = i; direction = x; linear = k }) (record { id = j; direction = y; linear = l })
    both i j x y k l same also third = rw (same, also, third) refl

number_same : (t : Tree) (z w : Amount) → HasNumber t z → HasNumber t w → z ≡ w
number_same t z w p q =
    let value : p.value ≡ q.value = some_same p.value q.value _ p.first q.first in
    let other : number_of p.value ≡ Ok w = subst (λ (v : Tree). number_of v ≡ Ok w) (sym value) q.number in
    let numbers : ◌≡◌ {A = Result Amount TableFault} (Ok z) (Ok w) = sym p.number ∙ other in
    cc

performance_same : (root : Tree) (alternative criterion : List ℕ) (z w : Amount) → IsPerformance root alternative criterion z → IsPerformance root alternative criterion w → z ≡ w
performance_same root alternative criterion z w p q =
    let lists : p.element ∷ [] ≡ q.element ∷ [] = sym p.only ∙ q.only in
    let same : p.element ≡ q.element = cc in
    number_same q.element z w (subst (λ (t : Tree). HasNumber t z) same p.number) q.number

alternative_same : (root : Tree) (cs : List Criterion) (t : Tree) (a b : Alternative) → IsAlternative t a → IsAlternative t b → AreItsPerformances root cs a → AreItsPerformances root cs b → a ≡ b
alternative_same root cs t a b p q h k =
    let id : a.id ≡ b.id = some_same a.id b.id _ p q in
    let moved : AllZip (λ c z. IsPerformance root a.id c.id z) cs b.performances = subst (λ (i : List ℕ). AllZip (λ c z. IsPerformance root i c.id z) cs b.performances) (sym id) k in
    both a.id b.id a.performances b.performances id (zip_same (λ c z. IsPerformance root a.id c.id z) (λ c z w. performance_same root a.id c.id z w) cs a.performances b.performances h moved)
  where
    both : (i j : List ℕ) (xs ys : List Amount) → i ≡ j → xs ≡ ys → ◌≡◌ {A = Alternative} (record { id = i; performances = xs }) (record { id = j; performances = ys })
    both i j xs ys same also = rw (same, also) refl

alternatives_same : (root : Tree) (cs : List Criterion) (ts : List Tree) (us vs : List Alternative) → AllZip IsAlternative ts us → AllZip IsAlternative ts vs → AllByRecursion (AreItsPerformances root cs) us → AllByRecursion (AreItsPerformances root cs) vs → us ≡ vs
alternatives_same root cs [] [] [] p q h k = refl
alternatives_same root cs [] [] (b ∷ vs) p q h k = absurd q
alternatives_same root cs [] (a ∷ us) vs p q h k = absurd p
alternatives_same root cs (t ∷ ts) [] vs p q h k = absurd p
alternatives_same root cs (t ∷ ts) (a ∷ us) [] p q h k = absurd q
alternatives_same root cs (t ∷ ts) (a ∷ us) (b ∷ vs) p q h k = rw (alternative_same root cs t a b p.0 q.0 h.0 k.0, alternatives_same root cs ts us vs p.1 q.1 h.1 k.1) refl

-- two tables of the same criteria and alternatives, with the performances that the file gives them
pub tables_same : (root : Tree) (t u : DecisionTable) → AllZip IsCriterion (filter active (listed_criteria root)) t.criteria → AllZip IsCriterion (filter active (listed_criteria root)) u.criteria → AllZip IsAlternative (filter active (listed_alternatives root)) t.alternatives → AllZip IsAlternative (filter active (listed_alternatives root)) u.alternatives
    → AllByRecursion (AreItsPerformances root t.criteria) t.alternatives → AllByRecursion (AreItsPerformances root u.criteria) u.alternatives → t.classes ≡ u.classes → t ≡ u
tables_same root t u c d a b p q k =
    let criteria : t.criteria ≡ u.criteria = zip_same IsCriterion criterion_same (filter active (listed_criteria root)) t.criteria u.criteria c d in
    let moved : AllByRecursion (AreItsPerformances root t.criteria) u.alternatives = subst (λ (cs : List Criterion). AllByRecursion (AreItsPerformances root cs) u.alternatives) (sym criteria) q in
    all t.criteria u.criteria t.alternatives u.alternatives t.classes u.classes criteria
    (alternatives_same root t.criteria (filter active (listed_alternatives root)) t.alternatives u.alternatives a b p moved) k
  where
    all : (cs ds : List Criterion) (us vs : List Alternative) (k n : ℕ) → cs ≡ ds → us ≡ vs → k ≡ n → ◌≡◌ {A = DecisionTable} (record { criteria = cs; alternatives = us; classes = k }) (record { criteria = ds; alternatives = vs; classes = n })
    all cs ds us vs k n one two three = rw (one, two, three) refl

table_same : (best_first : Bool) (root : Tree) (i j : Input) → IsContent best_first root i → IsContent best_first root j → i.table ≡ j.table
table_same best_first root i j p q = tables_same root i.table j.table p.criteria q.criteria p.alternatives q.alternatives p.performances q.performances (p.classes ∙ sym q.classes)

pub one_content : (best_first : Bool) (root : Tree) (i j : Input) → IsContent best_first root i → IsContent best_first root j → i ≡ j
one_content best_first root i j p q =
    let table : i.table ≡ j.table = table_same best_first root i j p q in
    let said : DecisionTable → List Statement = λ t. flat_map (pair_says t) (pairs root) ++ flat_map (affectation_says best_first root t) (affectations root) in
    both i.table j.table i.opening j.opening table (p.opening ∙ ap said table ∙ sym q.opening)
  where
    both : (t u : DecisionTable) (xs ys : List Statement) → t ≡ u → xs ≡ ys → ◌≡◌ {A = Input} (record { table = t; opening = xs }) (record { table = u; opening = ys })
    both t u xs ys same also = rw (same, also) refl
