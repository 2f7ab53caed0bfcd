use Rattle.std.proofs.Common.{◌≡◌, ◌++◌, ◌∷◌, [], ◌∙◌, OnOk, List, ℕ, ℤ, pos, ap, sym, subst, refl, rules}
use Rattle.std.specs.Fmt.{signed_decimal}
use Rattle.ror_proof.proofs.write.write_often_zero.Goals as goal

zero_text : 48 ∷ [] ≡ signed_decimal (pos 0)
unfolding Rattle.std.specs.Fmt.digits
zero_text = refl

pub returns-then-number-eq0-clause-ok : goal.returns-then-number-eq0-clause-ok
returns-then-number-eq0-clause-ok c =
    let zero : c.args.number ≡ pos 0 = search rules in
    let word : 32 ∷ 48 ∷ [] ≡ 32 ∷ signed_decimal c.args.number = ap (λ (digits : List ℕ). 32 ∷ digits) zero_text ∙ ap (λ (x : ℤ). 32 ∷ signed_decimal x) (sym zero) in
    let put : OnOk c.extend_from_slice.result (c.extend_from_slice.new.self.items ≡ c.args.text.now.items ++ 32 ∷ 48 ∷ []) = search rules in
    subst (λ (xs : List ℕ). OnOk c.extend_from_slice.result (c.extend_from_slice.new.self.items ≡ c.args.text.now.items ++ xs)) word put
