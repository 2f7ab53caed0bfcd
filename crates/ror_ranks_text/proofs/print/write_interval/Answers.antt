use Rattle.std.proofs.Common.{◌≡◌, ℕ, List, ◌++◌, ap, ◌∙◌, append_assoc}
use Rattle.std.specs.Prelude.{codes}
use Rattle.std.specs.List.{flat_map}
use Rattle.ror_proof.proofs.PrintLemmas.{on_ok}
use Rattle.ror_ranks.specs.declared.extreme.Conflict.{Conflict}
use Rattle.ror_ranks.specs.declared.extreme.Node.{Node}
use Rattle.ror_ranks_text.specs.Text.{interval_line, ids_text, solution_text, conflict_text, node_text}
use Rattle.ror_ranks_text.proofs.print.write_interval.Goals as goal

pub returns-clause-ok : goal.returns-clause-ok
returns-clause-ok c =
    let t = c.args.table.now in
    let x = c.args.x.now in
    let start = c.args.text.now.items in
    let p0 = interval_line t c.args.side c.args.alternative x in
    let p1 = ids_text t (codes "except") x.except in
    let p2 = solution_text x.function.steps in
    let p3 = flat_map (conflict_text t) x.conflicts in
    let p4 = flat_map node_text x.tree in
    let t0 = c.write_ends.new.text.items in
    let t1 = c.write_ids.new.text.items in
    let t2 = c.write_solution.new.text.items in
    let t3 = c.write_conflicts.new.text.items in
    let e1 : t1 ≡ t0 ++ p1 = c.in_ok-write_ids.ensures.ok ∙ ap (λ (l : List ℕ). t0 ++ ids_text t (codes "except") l) c.as_slice.ensures in
    let e3 : t3 ≡ t2 ++ p3 = c.in_ok-write_conflicts.ensures.ok ∙ ap (λ (l : List Conflict). t2 ++ flat_map (conflict_text t) l) c.as_slice-2.ensures in
    let f1 : t1 ≡ start ++ (p0 ++ p1) = e1 ∙ ap (λ (l : List ℕ). l ++ p1) c.in_ok-write_ends.ensures.ok ∙ append_assoc start p0 p1 in
    let f2 : t2 ≡ start ++ (p0 ++ (p1 ++ p2)) = c.in_ok-write_solution.ensures.ok ∙ ap (λ (l : List ℕ). l ++ p2) f1 ∙ append_assoc start (p0 ++ p1) p2 ∙ ap (λ (l : List ℕ). start ++ l) (append_assoc p0 p1 p2) in
    let f3 : t3 ≡ start ++ (p0 ++ (p1 ++ (p2 ++ p3))) = e3 ∙ ap (λ (l : List ℕ). l ++ p3) f2 ∙ append_assoc start (p0 ++ (p1 ++ p2)) p3 ∙ ap (λ (l : List ℕ). start ++ l) (append_assoc p0 (p1 ++ p2) p3 ∙ ap (λ (l : List ℕ). p0 ++ l) (append_assoc p1 p2 p3)) in
    let nodes = ap (λ (l : List Node). t3 ++ flat_map node_text l) c.as_slice-3.ensures in
    on_ok c.write_nodes.result c.write_nodes.ensures.ok (λ e. e ∙ nodes ∙ ap (λ (l : List ℕ). l ++ p4) f3 ∙ append_assoc start (p0 ++ (p1 ++ (p2 ++ p3))) p4 ∙ ap (λ (l : List ℕ). start ++ l) (append_assoc p0 (p1 ++ (p2 ++ p3)) p4 ∙ ap (λ (l : List ℕ). p0 ++ l) (append_assoc p1 (p2 ++ p3) p4 ∙ ap (λ (l : List ℕ). p1 ++ l) (append_assoc p2 p3 p4))))
