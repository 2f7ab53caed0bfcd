-- That answers have one relation's page.
use Rattle.std.proofs.Common.{◌≡◌, ℕ, List, Option, sym, ap, subst, ◌∙◌}
use Rattle.ror_table.specs.Table.{DecisionTable}
use Rattle.ror_proof.specs.declared.answer.Answer.{Answer}
use Rattle.ror_show_find_relation.specs.Relations.{decided_pairs}
use Rattle.ror_show_find_relation.specs.Arrows.{arrows}
use Rattle.ror_show_find_relation.specs.Levels.{AreLevels}
use Rattle.ror_show_find_relation.proofs.LevelLemmas.{one-levelling}
use Rattle.ror_show_find_relation.specs.declared.cell.Cell.{Cell}
use Rattle.ror_show_find_relation.specs.declared.page.RelationPage.{RelationPage}
use Rattle.ror_show_find_relation.specs.Cells.{is_open}
use Rattle.ror_show_find_relation.specs.Pages.{IsRelationPage, known, marks}

-- the answers have one content
pub one_content : (t : DecisionTable) (xs : List Answer) (p q : RelationPage) → IsRelationPage t xs p → IsRelationPage t xs q → p ≡ q
one_content t xs p q a b =
    let rows : p.rows ≡ q.rows = a.rows ∙ sym b.rows in
    let levels : p.levels ≡ q.levels = one-levelling (known q.rows) p.levels q.levels (subst (λ (rs : List (List Cell)). AreLevels (known rs) p.levels) rows a.levels) b.levels in
    let between : p.arrows ≡ q.arrows = a.arrows ∙ ap (λ (rs : List (List Cell)). arrows (known rs)) rows ∙ sym b.arrows in
    let decided : p.counts.decided ≡ q.counts.decided = a.decided ∙ ap (λ (rs : List (List Cell)). decided_pairs (known rs)) rows ∙ sym b.decided in
    let open_pairs : p.counts.open ≡ q.counts.open = a.open_pairs ∙ ap (λ (rs : List (List Cell)). decided_pairs (marks is_open rs)) rows ∙ sym b.open_pairs in
    let dominated : p.counts.by_dominance ≡ q.counts.by_dominance = a.by_dominance ∙ sym b.by_dominance in
    same p.rows q.rows p.levels q.levels p.arrows q.arrows p.counts.decided q.counts.decided p.counts.open q.counts.open p.counts.by_dominance q.counts.by_dominance rows levels between decided open_pairs dominated
  where
    made : List (List Cell) → List (Option ℕ) → List (ℕ × ℕ) → ℕ → ℕ → ℕ → RelationPage
    made rows levels between decided open_pairs dominated =
        record { rows = rows; levels = levels; arrows = between; counts = record { decided = decided; «open» = open_pairs; by_dominance = dominated } }

    same : (rs ss : List (List Cell)) (ls ms : List (Option ℕ)) (es fs : List (ℕ × ℕ)) (c d m n v w : ℕ) → rs ≡ ss → ls ≡ ms → es ≡ fs → c ≡ d → m ≡ n → v ≡ w → made rs ls es c m v ≡ made ss ms fs d n w
    same rs ss ls ms es fs c d m n v w p q r x y z = cc
