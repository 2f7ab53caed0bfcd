use Rattle.std.proofs.Common.{◌≡◌, ℕ, List, ◌∷◌, ◌++◌, map, get_or, refl, sym}
use Rattle.std.proofs.lemmas.List.{get_or_default}
use Rattle.ror_proof.specs.Printing.{spaced}
use Rattle.ror_proof.proofs.PrintLemmas.{one_more, all_printed, front_then}
use Rattle.ror_discriminate.specs.Text.{step_word}
use Rattle.ror_discriminate.proofs.write.write_steps.Goals as goal

pub path-preserved : goal.path-preserved
path-preserved c =
    let none : ℕ × ℕ = (0, 0) in
    let path = c.args.path.now in
    let next = get_or path c.path.step-index none in
    let is : next ≡ get_or path c.path.step-index next = sym (get_or_default path c.path.step-index next none c.path-test.true) in
    record {
      printed = one_more (λ (xs : List (ℕ × ℕ)). spaced (map step_word xs)) (λ (x : ℕ × ℕ). 32 ∷ step_word x) (λ x xs. refl) path c.path.step-index next c.path.text.items c.write_step.new.text.items (c.args.text.now.items ++ spaced (map step_word path)) c.path-test.true is c.in_ok-write_step.ensures.ok c.path.invariant.printed;
      front = front_then c.args.text.now.items c.path.text.items c.write_step.new.text.items c.path.invariant.front c.in_ok-write_step.ensures.front;
    }

pub returns-clause-ok : goal.returns-clause-ok
returns-clause-ok c = all_printed (λ (xs : List (ℕ × ℕ)). spaced (map step_word xs)) refl c.args.path.now c.path.step-index c.path.text.items (c.args.text.now.items ++ spaced (map step_word c.args.path.now)) c.path-test.false c.path.invariant.printed
