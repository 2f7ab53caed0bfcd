-- The statements with the best first, and those without, side by side.
use Rattle.std.proofs.Common.{◌≡◌, ℕ, Bool, true, false, List, [], length, Result, Ok, sym, ap, ◌∙◌, cond, subst}
use Rattle.std.specs.Prelude.{IfOk, nat_lt}
use Rattle.std.specs.List.{AllZip}
use Rattle.ror_text.specs.declared.lines.TheConstants.{MOST_TEXT_BYTES}
use Rattle.ror_text.specs.Reading.{refuse}
use Rattle.ror_text.proofs.ReadingLemmas.{bind_ok}
use Rattle.ror_statement.specs.declared.statement.Statement.{Statement}
use Rattle.ror_table.specs.declared.fault.TableFault.{TableFault}
use Rattle.ror_value.specs.declared.input.Input.{Input}
use Rattle.ror_elements.specs.Elements.{elements_of}
use Rattle.ror_elements.specs.Tree.{Tree}
use Rattle.ror_table.specs.Plain.{plain_table}
use Rattle.ror_xmcda.specs.declared.content.Listed.{Listed}
use Rattle.ror_xmcda.specs.declared.stated.Stated.{Stated}
use Rattle.ror_xmcda.specs.Categories.{AreRanked, categories_of}
use Rattle.ror_xmcda.specs.Alternatives.{alternatives_of}
use Rattle.ror_xmcda.specs.Criteria.{criteria_of}
use Rattle.ror_xmcda.specs.Comparisons.{comparisons_of}
use Rattle.ror_xmcda.specs.Affectations.{affectations_of}
use Rattle.ror_xmcda.specs.Opening.{statements}
use Rattle.ror_xmcda.specs.Content.{listed_of, table_in, opening_in, content}
use Rattle.ror_xmcda.specs.Input.{of_elements, is_xmcda, xmcda_input, plain_input, input_of}
use Rattle.ror_xmcda.specs.Laws.{IsTurned}
use Rattle.ror_xmcda.proofs.ContentLemmas.{listed_in}
use Rattle.ror_xmcda.proofs.InputLemmas.{size_in}
use Rattle.ror_xmcda.proofs.LawLemmas.{ArePreferences, comparisons_prefer, statements_of}
use Rattle.ror_xmcda.proofs.TurnedLemmas.{Agree, AreApart, apart_from, AreTurned, affectations_turned, preferences_themselves, statements_turned}

pub apart_in : (root : Tree) (l : Listed) → listed_of root ≡ Ok l → AreApart l.categories
unfolding listed_of
apart_in root l e =
    let a = bind_ok (categories_of root) _ l e in
    let b = bind_ok (alternatives_of root) _ l a.2 in
    let c = bind_ok (criteria_of root) _ l b.2 in
    let same : ◌≡◌ {A = Listed} (record { categories = a.0; alternatives = b.0; criteria = c.0 }) l = (let r : ◌≡◌ {A = Result Listed TableFault} (Ok (record { categories = a.0; alternatives = b.0; criteria = c.0 })) (Ok l) = c.2 in cc) in
    subst (λ (x : Listed). AreApart x.categories) same (apart_from root a.0 a.1)

same_ok : {A F : Type 0} (x y : A) (r : Result A F) → r ≡ Ok x → r ≡ Ok y → x ≡ y
same_ok x y r e f = let h = sym e ∙ f in cc

agreed : (n : ℕ) (x y : Result (List Stated) TableFault) (u v : List Stated) → Agree (AreTurned n) x y → x ≡ Ok u → y ≡ Ok v → AreTurned n u v
agreed n x y u v h e f =
    let one : Agree (AreTurned n) (Ok u) y = subst (λ (r : Result (List Stated) TableFault). Agree (AreTurned n) r y) e h in
    subst (λ (r : Result (List Stated) TableFault). Agree (AreTurned n) (Ok u) r) f one

opening_turned : (l : Listed) (root : Tree) (one other : List Statement) → AreRanked l.categories → AreApart l.categories → opening_in true l root ≡ Ok one → opening_in false l root ≡ Ok other → AllZip (IsTurned (length l.categories.ranks)) one other
unfolding opening_in
opening_turned l root one other are apart e f =
    let n : ℕ = length l.categories.ranks in
    let a = bind_ok (comparisons_of l.alternatives [] root) _ one e in
    let b = bind_ok (affectations_of true l.alternatives l.categories a.0 root) _ one a.2 in
    let a' = bind_ok (comparisons_of l.alternatives [] root) _ other f in
    let b' = bind_ok (affectations_of false l.alternatives l.categories a'.0 root) _ other a'.2 in
    let same : a'.0 ≡ a.0 = same_ok a'.0 a.0 (comparisons_of l.alternatives [] root) a'.1 a.1 in
    let compared : ArePreferences a.0 = subst (λ (x : Result (List Stated) TableFault). IfOk x ArePreferences) a.1 (comparisons_prefer l.alternatives root) in
    let both : Agree (AreTurned n) (affectations_of true l.alternatives l.categories a.0 root) (affectations_of false l.alternatives l.categories a.0 root) = affectations_turned l.alternatives l.categories a.0 root are apart (preferences_themselves n a.0 compared) in
    let later : affectations_of false l.alternatives l.categories a.0 root ≡ Ok b'.0 = ap (λ (x : List Stated). affectations_of false l.alternatives l.categories x root) (sym same) ∙ b'.1 in
    let stated : AreTurned n b.0 b'.0 = agreed n _ _ b.0 b'.0 both b.1 later in
    subst (λ (x : List Statement). AllZip (IsTurned n) x other) (sym (statements_of b.0 one b.2))
    (subst (λ (x : List Statement). AllZip (IsTurned n) (statements b.0) x) (sym (statements_of b'.0 other b'.2)) (statements_turned n b.0 b'.0 stated))

content_turned : (root : Tree) (i j : Input) → content true root ≡ Ok i → content false root ≡ Ok j → AllZip (IsTurned i.table.classes) i.opening j.opening
unfolding content
content_turned root i j e f =
    let a = bind_ok (listed_of root) _ i e in
    let b = bind_ok (table_in a.0 root) _ i a.2 in
    let c = bind_ok (opening_in true a.0 root) _ i b.2 in
    let a' = bind_ok (listed_of root) _ j f in
    let b' = bind_ok (table_in a'.0 root) _ j a'.2 in
    let c' = bind_ok (opening_in false a'.0 root) _ j b'.2 in
    let listed : a'.0 ≡ a.0 = same_ok a'.0 a.0 (listed_of root) a'.1 a.1 in
    let later : opening_in false a.0 root ≡ Ok c'.0 = ap (λ (l : Listed). opening_in false l root) (sym listed) ∙ c'.1 in
    let turned = opening_turned a.0 root c.0 c'.0 (listed_in root a.0 a.1).ranked (apart_in root a.0 a.1) c.1 later in
    let there : AllZip (IsTurned b.0.classes) c.0 c'.0 = subst (λ (n : ℕ). AllZip (IsTurned n) c.0 c'.0) (sym (size_in a.0 root b.0 b.1).classes) turned in
    let one : ◌≡◌ {A = Input} (record { table = b.0; opening = c.0 }) i = (let r : ◌≡◌ {A = Result Input TableFault} (Ok (record { table = b.0; opening = c.0 })) (Ok i) = c.2 in cc) in
    let other : ◌≡◌ {A = Input} (record { table = b'.0; opening = c'.0 }) j = (let r : ◌≡◌ {A = Result Input TableFault} (Ok (record { table = b'.0; opening = c'.0 })) (Ok j) = c'.2 in cc) in
    subst (λ (x : Input). AllZip (IsTurned i.table.classes) i.opening x.opening) other (subst (λ (x : Input). AllZip (IsTurned x.table.classes) x.opening c'.0) one there)

xmcda_turned : (bytes : List ℕ) (i j : Input) → xmcda_input bytes true ≡ Ok i → xmcda_input bytes false ≡ Ok j → AllZip (IsTurned i.table.classes) i.opening j.opening
unfolding xmcda_input
xmcda_turned bytes i j e f =
    let a = bind_ok (of_elements (elements_of bytes)) _ i e in
    let b = bind_ok (of_elements (elements_of bytes)) _ j f in
    let root : a.0 ≡ b.0 = same_ok a.0 b.0 (of_elements (elements_of bytes)) a.1 b.1 in
    content_turned b.0 i j (ap (content true) (sym root) ∙ a.2) b.2

plain_turned : (bytes : List ℕ) (i j : Input) → plain_input bytes ≡ Ok i → plain_input bytes ≡ Ok j → AllZip (IsTurned i.table.classes) i.opening j.opening
unfolding plain_input
plain_turned bytes i j e f =
    let a = bind_ok (plain_table bytes) _ i e in
    let b = bind_ok (plain_table bytes) _ j f in
    let one : ◌≡◌ {A = Input} (record { table = a.0; opening = [] }) i = (let r : ◌≡◌ {A = Result Input TableFault} (Ok (record { table = a.0; opening = [] })) (Ok i) = a.2 in cc) in
    let other : ◌≡◌ {A = Input} (record { table = b.0; opening = [] }) j = (let r : ◌≡◌ {A = Result Input TableFault} (Ok (record { table = b.0; opening = [] })) (Ok j) = b.2 in cc) in
    subst (λ (x : Input). AllZip (IsTurned i.table.classes) i.opening x.opening) other (subst (λ (x : Input). AllZip (IsTurned x.table.classes) x.opening []) one tt)

pub input_turned : (bytes : List ℕ) (i j : Input) → input_of bytes true ≡ Ok i → input_of bytes false ≡ Ok j → AllZip (IsTurned i.table.classes) i.opening j.opening
unfolding input_of
input_turned bytes i j e f =
    let a = bind_ok (refuse _ (nat_lt MOST_TEXT_BYTES (length bytes))) _ i e in
    let b = bind_ok (refuse _ (nat_lt MOST_TEXT_BYTES (length bytes))) _ j f in
    by (is_xmcda bytes) a.2 b.2
  where
    by : (x : Bool) → cond x (xmcda_input bytes true) (plain_input bytes) ≡ Ok i → cond x (xmcda_input bytes false) (plain_input bytes) ≡ Ok j → AllZip (IsTurned i.table.classes) i.opening j.opening
    by true e f = xmcda_turned bytes i j e f
    by false e f = plain_turned bytes i j e f
