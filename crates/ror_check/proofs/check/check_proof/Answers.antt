use Rattle.std.proofs.Common.{rules, arith, length, map, ◌≡◌, true, subst, ◌∙◌}
use Rattle.ror_statement.specs.Questions.{kind_of}
use Rattle.ror_system.specs.System.{LinearSystem}
use Rattle.ror_check.specs.Proof.{AreNumbersFor, base_system}
use Rattle.ror_check.specs.Steps.{IsAcceptedFor}
use Rattle.ror_check.specs.Faults.{has_kinds}
use Rattle.ror_rows.specs.Rows.{extras_of, systems_of_question}
use Rattle.ror_rows.proofs.Extending.{base_few}
use Rattle.ror_check.proofs.Checking.{systems_usable, few_systems, numbers_name, parts_few, accepted_shows}
use Rattle.ror_check.proofs.FirstFaults.{proof_accepted, proof_refused}
use Rattle.ror_check.proofs.check.check_proof.Goals as goal

pub are_numbered_for-requires : goal.are_numbered_for-requires
are_numbered_for-requires c =
    let few = few_systems c.args.table.now c.args.list.now c.in_ok-systems.systems.items c.args.claim.question c.in_ok-systems.ensures c.requires.lawful in
    rw c.as_slice-extras.ensures.value (omega (arith, few))

pub check_parts-requires-clause-rows : goal.check_parts-requires-clause-rows
check_parts-requires-clause-rows c = base_few c.args.table.now c.args.list.now c.check_base.new.base.system c.requires.lawful (c.check_base.ensures.base.system ∙ c.requires.base.system)

pub check_parts-requires-clause-usable : goal.check_parts-requires-clause-usable
check_parts-requires-clause-usable c = rw c.as_slice-extras.ensures.value (systems_usable c.args.table.now c.args.list.now c.in_ok-systems.systems.items c.args.claim.question c.in_ok-systems.ensures c.requires.lawful c.requires.named)

pub check_parts-requires-clause-numbers : goal.check_parts-requires-clause-numbers
check_parts-requires-clause-numbers c =
    let numbered : AreNumbersFor (kind_of c.args.claim.question) c.args.claim.conclusion (length c.as_slice-extras.result.now) (map (λ p. p.at) c.as_slice-parts.result.now) = search rules in
    numbers_name (kind_of c.args.claim.question) c.args.claim.conclusion (length c.as_slice-extras.result.now) c.as_slice-parts.result.now numbered

pub check_parts-requires-clause-few : goal.check_parts-requires-clause-few
check_parts-requires-clause-few c =
    let numbered : AreNumbersFor (kind_of c.args.claim.question) c.args.claim.conclusion (length c.as_slice-extras.result.now) (map (λ p. p.at) c.as_slice-parts.result.now) = search rules in
    let few = few_systems c.args.table.now c.args.list.now c.in_ok-systems.systems.items c.args.claim.question c.in_ok-systems.ensures c.requires.lawful in
    let most = parts_few (kind_of c.args.claim.question) c.args.claim.conclusion (length c.as_slice-extras.result.now) c.as_slice-parts.result.now numbered in
    let same = rw c.as_slice-extras.ensures.value at most in
    omega (arith, few, same)

pub returns-clause-ok : goal.returns-clause-ok
returns-clause-ok c =
    let t = c.args.table.now in
    let list = c.args.list.now in
    let e : map extras_of c.as_slice-extras.result.now ≡ systems_of_question list c.args.claim.question = rw c.as_slice-extras.ensures.value c.in_ok-systems.ensures in
    let kinds : has_kinds c.args.claim.question c.args.claim.conclusion c.args.proof.now ≡ true = search rules in
    let numbered : AreNumbersFor (kind_of c.args.claim.question) c.args.claim.conclusion (length c.as_slice-extras.result.now) (map (λ p. p.at) c.as_slice-parts.result.now) = search rules in
    let accepted = subst (λ (s : LinearSystem). IsAcceptedFor s c.args.proof.now.base) c.requires.base.system c.in_ok-check_base.ensures.ok in
    proof_accepted {A = Unit {0}} t list c.args.claim.question c.args.claim.conclusion c.args.proof.now c.check_base.new.base.system c.as_slice-extras.result.now c.as_slice-parts.result.now c.check_parts.result (c.check_base.ensures.base.system ∙ c.requires.base.system) e c.as_slice-parts.ensures kinds numbered (accepted_shows (base_system t list) c.args.proof.now.base accepted) c.check_parts.ensures.ok

pub returns-clause-err : goal.returns-clause-err
returns-clause-err c =
    let t = c.args.table.now in
    let list = c.args.list.now in
    let e : map extras_of c.as_slice-extras.result.now ≡ systems_of_question list c.args.claim.question = rw c.as_slice-extras.ensures.value c.in_ok-systems.ensures in
    let kinds : has_kinds c.args.claim.question c.args.claim.conclusion c.args.proof.now ≡ true = search rules in
    let numbered : AreNumbersFor (kind_of c.args.claim.question) c.args.claim.conclusion (length c.as_slice-extras.result.now) (map (λ p. p.at) c.as_slice-parts.result.now) = search rules in
    let accepted = subst (λ (s : LinearSystem). IsAcceptedFor s c.args.proof.now.base) c.requires.base.system c.in_ok-check_base.ensures.ok in
    proof_refused {A = Unit {0}} t list c.args.claim.question c.args.claim.conclusion c.args.proof.now c.check_base.new.base.system c.as_slice-extras.result.now c.as_slice-parts.result.now c.check_parts.result (c.check_base.ensures.base.system ∙ c.requires.base.system) e c.as_slice-parts.ensures kinds numbered (accepted_shows (base_system t list) c.args.proof.now.base accepted) c.check_parts.ensures.err
