use Rattle.std.proofs.Common.{◌≡◌, ℕ, List, [], ◌∷◌, ◌++◌, true, sym, subst, rules}
use Rattle.ror_show_hints.specs.Forms.{is_one_line}
use Rattle.ror_show_hints.proofs.FormLemmas.{one_line_push}
use Rattle.ror_show_hints.proofs.said.write_plain.Goals as goal

pub bytes-preserved : goal.bytes-preserved
bytes-preserved c =
    let before = c.bytes.text.items in
    let byte = c.plain_byte.result in
    let is : c.push.new.self.items ≡ before ++ byte ∷ [] = search rules in
    subst (λ (text : List ℕ). is_one_line text ≡ true) (sym is) (one_line_push before byte c.bytes.invariant c.plain_byte.ensures)
