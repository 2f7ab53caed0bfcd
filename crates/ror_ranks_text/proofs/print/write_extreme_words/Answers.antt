use Rattle.std.proofs.Common.{◌≡◌, ℕ, List, ◌∷◌, ◌++◌, ap, ◌∙◌, append_assoc}
use Rattle.ror_table.specs.Table.{id_of}
use Rattle.ror_proof.proofs.PrintLemmas.{on_ok}
use Rattle.ror_ranks.specs.SideNames.{side_word}
use Rattle.ror_ranks_text.proofs.print.write_extreme_words.Goals as goal

pub returns-clause-ok : goal.returns-clause-ok
returns-clause-ok c =
    let start = c.args.text.now.items in
    let side = side_word c.args.side in
    let id = 32 ∷ id_of c.args.table.now c.args.alternative in
    let begun : c.extend_from_slice.new.self.items ≡ start ++ side = c.in_ok-extend_from_slice.ensures.items ∙ ap (λ (l : List ℕ). start ++ l) c.word.ensures in
    on_ok c.write_alternative.result c.write_alternative.ensures.ok (λ e. e ∙ ap (λ (l : List ℕ). l ++ id) begun ∙ append_assoc start side id)
