use Rattle.std.proofs.Common.{◌≡◌, ◌∙◌, ℕ, List, [], ◌∷◌, ◌++◌, reverse, is_ok, sym, ap, subst}
use Rattle.std.proofs.lemmas.Result.{err_from_is_err_and}
use Rattle.ror_history.specs.declared.inverse.Inverse.TheVariants.{RelinkAll}
use Rattle.ror_chain.specs.Chain.{all_unlinked, CanUnlinkAll}
use Rattle.ror_chain.proofs.CallLemmas.{at_success}
use Rattle.ror_chain.proofs.OrderLemmas.{Apart-from_distinct}
use Rattle.ror_history.proofs.FaultLemmas.{refused_not_once}
use Rattle.ror_history.proofs.RevisionLemmas.{Holds, holds, not_withdrawn, sound, withdrawn_all, can_unlink_all, each_once}
use Rattle.ror_history.proofs.history.History.withdraw_all.Goals as goal

pub find_all-requires : goal.find_all-requires
find_all-requires c =
    let h = holds c.self.inside c.args.self.now c.self.invariant c.self.view_is in
    sound c.self.inside.chain.state (reverse c.self.inside.inverses.items) c.args.self.now.state h

pub returns-in_err-nodes-clause-refused : goal.returns-in_err-nodes-clause-refused
returns-in_err-nodes-clause-refused c =
    let h = holds c.self.inside c.args.self.now c.self.invariant c.self.view_is in
    let p = err_from_is_err_and c.from_residual.result c.from_residual.ensures.1 in
    rw (p.1, p.2) (refused_not_once c.args.self.now.state c.args.numbers.now c.in_err-nodes.field-0.0 (λ other. let b = c.in_err-nodes.ensures.refused other in (b.0, not_withdrawn c.self.inside.chain.state (reverse c.self.inside.inverses.items) c.args.self.now.state c.args.numbers.now h b.1)))

pub unlink_all-requires : goal.unlink_all-requires
unlink_all-requires c =
    let h = holds c.self.inside c.args.self.now c.self.invariant c.self.view_is in
    subst (CanUnlinkAll c.self.inside.chain.state) (sym c.deref.ensures.value) (can_unlink_all c.self.inside.chain.state c.in_ok-nodes.nodes.items (sound c.self.inside.chain.state (reverse c.self.inside.inverses.items) c.args.self.now.state h).chain c.in_ok-nodes.ensures.linked (Apart-from_distinct c.in_ok-nodes.nodes.items c.in_ok-nodes.ensures.once))

pub invariant_of-self-2 : goal.invariant_of-self-2
invariant_of-self-2 c =
    let h = holds c.self.inside c.args.self.now c.self.invariant c.self.view_is in
    let kept : Holds c.self.inside.chain.state (reverse c.reserve.new.self.items) c.args.self.now.state = subst (λ xs. Holds c.self.inside.chain.state (reverse xs) c.args.self.now.state) (sym c.in_ok-reserve.ensures.items) h in
    let all = c.unlink_all.ensures.unlinked ∙ ap (λ (ns : List ℕ). all_unlinked c.self.inside.chain.state ns) c.deref.ensures.value in
    let items : c.push.new.self.items ≡ c.reserve.new.self.items ++ RelinkAll c.in_ok-nodes.nodes.items ∷ [] = at_success c.push.result _ _ _ (ap is_ok c.unwrap.ensures) c.push.ensures.items ∙ ap (λ (ns : List ℕ). c.reserve.new.self.items ++ RelinkAll ns ∷ []) c.into.ensures in
    record { held = (withdrawn_all c.self.inside.chain.state c.unlink_all.new.chain.state c.reserve.new.self.items c.push.new.self.items c.in_ok-nodes.nodes.items c.args.numbers.now c.args.self.now.state kept c.in_ok-nodes.ensures.linked c.in_ok-nodes.ensures.once c.in_ok-nodes.ensures.found all items).held; scratch = c.self.invariant.scratch }

pub returns-clause-withdrawn : goal.returns-clause-withdrawn
returns-clause-withdrawn c =
    let h = holds c.self.inside c.args.self.now c.self.invariant c.self.view_is in
    let kept : Holds c.self.inside.chain.state (reverse c.reserve.new.self.items) c.args.self.now.state = subst (λ xs. Holds c.self.inside.chain.state (reverse xs) c.args.self.now.state) (sym c.in_ok-reserve.ensures.items) h in
    let all = c.unlink_all.ensures.unlinked ∙ ap (λ (ns : List ℕ). all_unlinked c.self.inside.chain.state ns) c.deref.ensures.value in
    let items : c.push.new.self.items ≡ c.reserve.new.self.items ++ RelinkAll c.in_ok-nodes.nodes.items ∷ [] = at_success c.push.result _ _ _ (ap is_ok c.unwrap.ensures) c.push.ensures.items ∙ ap (λ (ns : List ℕ). c.reserve.new.self.items ++ RelinkAll ns ∷ []) c.into.ensures in
    (withdrawn_all c.self.inside.chain.state c.unlink_all.new.chain.state c.reserve.new.self.items c.push.new.self.items c.in_ok-nodes.nodes.items c.args.numbers.now c.args.self.now.state kept c.in_ok-nodes.ensures.linked c.in_ok-nodes.ensures.once c.in_ok-nodes.ensures.found all items).is

pub returns-clause-allowed : goal.returns-clause-allowed
returns-clause-allowed c =
    let h = holds c.self.inside c.args.self.now c.self.invariant c.self.view_is in
    each_once c.self.inside.chain.state (reverse c.self.inside.inverses.items) c.args.self.now.state c.in_ok-nodes.nodes.items c.args.numbers.now h c.in_ok-nodes.ensures.linked c.in_ok-nodes.ensures.once c.in_ok-nodes.ensures.found
