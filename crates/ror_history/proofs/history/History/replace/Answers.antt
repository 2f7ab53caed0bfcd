use Rattle.std.proofs.Common.{◌≡◌, ◌∙◌, ◌<◌, ◌≤◌, [], ◌∷◌, ◌++◌, map, length, reverse, is_ok, sym, ap, subst, arith}
use Rattle.ror_statement.specs.declared.row_number.TheConstants.{MOST_ROWS}
use Rattle.ror_statement.specs.declared.statement.Numbered.{Numbered}
use Rattle.ror_statement.specs.RowNumbers.{row_count}
use Rattle.ror_chain.specs.Chain.{ChainState, IsChain, linked_items, with_item}
use Rattle.ror_chain.proofs.CallLemmas.{at_success}
use Rattle.ror_chain.proofs.ChainLemmas.{IsChain-with_item}
use Rattle.ror_history.specs.declared.inverse.Inverse.TheVariants.{Set}
use Rattle.ror_history.specs.History.{replacement, revised}
use Rattle.ror_history.proofs.FaultLemmas.{not_standing, past_rows_replaced}
use Rattle.ror_history.proofs.HistoryLemmas.{statement_of}
use Rattle.ror_history.proofs.RevisionLemmas.{holds, sound, holds_stands, holds_stands_not, holds_still, length-linked, length-revised, listed_set, set_back, statements_replaced, replaced}
use Rattle.ror_history.proofs.history.History.replace.Goals as goal

pub find-requires : goal.find-requires
find-requires c =
    let h = holds c.self.inside c.args.self.now c.self.invariant c.self.view_is in
    sound c.self.inside.chain.state (reverse c.self.inside.inverses.items) c.args.self.now.state h

pub returns-in_default-clause-refused : goal.returns-in_default-clause-refused
returns-in_default-clause-refused c =
    let h = holds c.self.inside c.args.self.now c.self.invariant c.self.view_is in
    not_standing c.args.self.now.state c.args.number c.args.s (holds_stands_not c.self.inside.chain.state (reverse c.self.inside.inverses.items) c.args.self.now.state c.args.number h c.in_default.ensures)

pub list_statements-requires-clause-chain : goal.list_statements-requires-clause-chain
list_statements-requires-clause-chain c =
    let h = holds c.self.inside c.args.self.now c.self.invariant c.self.view_is in
    let whole = sound c.self.inside.chain.state (reverse c.self.inside.inverses.items) c.args.self.now.state h in
    subst (λ (q : ChainState Numbered). IsChain q) (sym c.set-old.ensures.set) (IsChain-with_item c.self.inside.chain.state c.in-Some.node (record { number = c.args.number; statement = c.args.s }) whole.chain)

pub list_statements-requires-clause-room : goal.list_statements-requires-clause-room
list_statements-requires-clause-room c =
    let h = holds c.self.inside c.args.self.now c.self.invariant c.self.view_is in
    let whole = sound c.self.inside.chain.state (reverse c.self.inside.inverses.items) c.args.self.now.state h in
    omega (arith, ap (λ (q : ChainState Numbered). length q.order) c.set-old.ensures.set, whole.few, c.self.invariant.scratch)

pub row_count-requires : goal.row_count-requires
row_count-requires c =
    let h = holds c.self.inside c.args.self.now c.self.invariant c.self.view_is in
    let whole = sound c.self.inside.chain.state (reverse c.self.inside.inverses.items) c.args.self.now.state h in
    let listed : c.deref.result.now ≡ map statement_of (revised (linked_items c.self.inside.chain.state) (replacement c.args.number c.args.s)) = c.deref.ensures.value ∙ listed_set c.self.inside.chain.state c.set-old.new.self.state c.in-Some.node (record { number = c.args.number; statement = c.args.s }) c.list_statements.new.list.items whole c.in-Some.ensures.1 c.in-Some.ensures.0 c.set-old.ensures.set c.list_statements.ensures.listed in
    let count = length-revised (linked_items c.self.inside.chain.state) c.args.number c.args.s in
    omega (arith, ap length listed, count, length-linked c.self.inside.chain.state whole.chain, whole.few)

pub invariant_of-self-then-row_count-gt-MOST_ROWS : goal.invariant_of-self-then-row_count-gt-MOST_ROWS
invariant_of-self-then-row_count-gt-MOST_ROWS c =
    let h = holds c.self.inside c.args.self.now c.self.invariant c.self.view_is in
    let back : c.set.new.self.state ≡ c.self.inside.chain.state = c.set.ensures.set ∙ ap (λ (q : ChainState Numbered). with_item q c.in-Some.node c.set-old.result) c.set-old.ensures.set ∙ set_back c.self.inside.chain.state c.in-Some.node c.set-old.result (record { number = c.args.number; statement = c.args.s }) c.set-old.ensures.given in
    record {
      held = (holds_still c.self.inside.chain.state c.set.new.self.state c.self.inside.inverses.items c.reserve.new.self.items c.args.self.now.state h back c.in_ok-reserve.ensures.items).held;
      scratch = omega (arith, c.self.invariant.scratch, c.list_statements.ensures.room);
    }

pub returns-then-row_count-gt-MOST_ROWS-clause-refused : goal.returns-then-row_count-gt-MOST_ROWS-clause-refused
returns-then-row_count-gt-MOST_ROWS-clause-refused c =
    let h = holds c.self.inside c.args.self.now c.self.invariant c.self.view_is in
    let whole = sound c.self.inside.chain.state (reverse c.self.inside.inverses.items) c.args.self.now.state h in
    let listed : c.deref.result.now ≡ map statement_of (revised (linked_items c.self.inside.chain.state) (replacement c.args.number c.args.s)) = c.deref.ensures.value ∙ listed_set c.self.inside.chain.state c.set-old.new.self.state c.in-Some.node (record { number = c.args.number; statement = c.args.s }) c.list_statements.new.list.items whole c.in-Some.ensures.1 c.in-Some.ensures.0 c.set-old.ensures.set c.list_statements.ensures.listed in
    let past : MOST_ROWS < row_count (map statement_of (revised (linked_items c.self.inside.chain.state) (replacement c.args.number c.args.s))) = subst (λ ss. MOST_ROWS < row_count ss) listed (omega (arith, c.row_count.ensures, c.if-row_count-gt-MOST_ROWS.true)) in
    past_rows_replaced c.args.self.now.state c.args.number c.args.s (holds_stands c.self.inside.chain.state (reverse c.self.inside.inverses.items) c.args.self.now.state c.in-Some.node c.args.number h c.in-Some.ensures.1 c.in-Some.ensures.0) (subst (λ ss. MOST_ROWS < row_count ss) (sym (statements_replaced c.self.inside.chain.state (reverse c.self.inside.inverses.items) c.args.self.now.state c.args.number c.args.s h)) past)

pub returns-then-row_count-gt-MOST_ROWS-clause-unchanged : goal.returns-then-row_count-gt-MOST_ROWS-clause-unchanged
returns-then-row_count-gt-MOST_ROWS-clause-unchanged c =
    let h = holds c.self.inside c.args.self.now c.self.invariant c.self.view_is in
    let back : c.set.new.self.state ≡ c.self.inside.chain.state = c.set.ensures.set ∙ ap (λ (q : ChainState Numbered). with_item q c.in-Some.node c.set-old.result) c.set-old.ensures.set ∙ set_back c.self.inside.chain.state c.in-Some.node c.set-old.result (record { number = c.args.number; statement = c.args.s }) c.set-old.ensures.given in
    (holds_still c.self.inside.chain.state c.set.new.self.state c.self.inside.inverses.items c.reserve.new.self.items c.args.self.now.state h back c.in_ok-reserve.ensures.items).is

pub invariant_of-self-2 : goal.invariant_of-self-2
invariant_of-self-2 c =
    let h = holds c.self.inside c.args.self.now c.self.invariant c.self.view_is in
    let whole = sound c.self.inside.chain.state (reverse c.self.inside.inverses.items) c.args.self.now.state h in
    let listed : c.deref.result.now ≡ map statement_of (revised (linked_items c.self.inside.chain.state) (replacement c.args.number c.args.s)) = c.deref.ensures.value ∙ listed_set c.self.inside.chain.state c.set-old.new.self.state c.in-Some.node (record { number = c.args.number; statement = c.args.s }) c.list_statements.new.list.items whole c.in-Some.ensures.1 c.in-Some.ensures.0 c.set-old.ensures.set c.list_statements.ensures.listed in
    let few : row_count (map statement_of (revised (linked_items c.self.inside.chain.state) (replacement c.args.number c.args.s))) ≤ MOST_ROWS = subst (λ ss. row_count ss ≤ MOST_ROWS) listed (omega (arith, c.row_count.ensures, c.if-row_count-gt-MOST_ROWS.false)) in
    let one_more : c.push.new.self.items ≡ c.self.inside.inverses.items ++ Set c.in-Some.node c.set-old.result ∷ [] = at_success c.push.result _ _ _ (ap is_ok c.unwrap.ensures) c.push.ensures.items ∙ ap (λ xs. xs ++ Set c.in-Some.node c.set-old.result ∷ []) c.in_ok-reserve.ensures.items in
    record {
      held = (replaced c.self.inside.chain.state c.set-old.new.self.state c.self.inside.inverses.items c.push.new.self.items c.in-Some.node c.set-old.result (record { number = c.args.number; statement = c.args.s }) c.args.self.now.state h c.in-Some.ensures.1 c.in-Some.ensures.0 c.set-old.ensures.given few c.set-old.ensures.set one_more).held;
      scratch = omega (arith, c.self.invariant.scratch, c.list_statements.ensures.room);
    }

pub returns-clause-replaced : goal.returns-clause-replaced
returns-clause-replaced c =
    let h = holds c.self.inside c.args.self.now c.self.invariant c.self.view_is in
    let whole = sound c.self.inside.chain.state (reverse c.self.inside.inverses.items) c.args.self.now.state h in
    let listed : c.deref.result.now ≡ map statement_of (revised (linked_items c.self.inside.chain.state) (replacement c.args.number c.args.s)) = c.deref.ensures.value ∙ listed_set c.self.inside.chain.state c.set-old.new.self.state c.in-Some.node (record { number = c.args.number; statement = c.args.s }) c.list_statements.new.list.items whole c.in-Some.ensures.1 c.in-Some.ensures.0 c.set-old.ensures.set c.list_statements.ensures.listed in
    let few : row_count (map statement_of (revised (linked_items c.self.inside.chain.state) (replacement c.args.number c.args.s))) ≤ MOST_ROWS = subst (λ ss. row_count ss ≤ MOST_ROWS) listed (omega (arith, c.row_count.ensures, c.if-row_count-gt-MOST_ROWS.false)) in
    let one_more : c.push.new.self.items ≡ c.self.inside.inverses.items ++ Set c.in-Some.node c.set-old.result ∷ [] = at_success c.push.result _ _ _ (ap is_ok c.unwrap.ensures) c.push.ensures.items ∙ ap (λ xs. xs ++ Set c.in-Some.node c.set-old.result ∷ []) c.in_ok-reserve.ensures.items in
    (replaced c.self.inside.chain.state c.set-old.new.self.state c.self.inside.inverses.items c.push.new.self.items c.in-Some.node c.set-old.result (record { number = c.args.number; statement = c.args.s }) c.args.self.now.state h c.in-Some.ensures.1 c.in-Some.ensures.0 c.set-old.ensures.given few c.set-old.ensures.set one_more).is

pub returns-clause-allowed : goal.returns-clause-allowed
returns-clause-allowed c =
    let h = holds c.self.inside c.args.self.now c.self.invariant c.self.view_is in
    let whole = sound c.self.inside.chain.state (reverse c.self.inside.inverses.items) c.args.self.now.state h in
    let listed : c.deref.result.now ≡ map statement_of (revised (linked_items c.self.inside.chain.state) (replacement c.args.number c.args.s)) = c.deref.ensures.value ∙ listed_set c.self.inside.chain.state c.set-old.new.self.state c.in-Some.node (record { number = c.args.number; statement = c.args.s }) c.list_statements.new.list.items whole c.in-Some.ensures.1 c.in-Some.ensures.0 c.set-old.ensures.set c.list_statements.ensures.listed in
    let few : row_count (map statement_of (revised (linked_items c.self.inside.chain.state) (replacement c.args.number c.args.s))) ≤ MOST_ROWS = subst (λ ss. row_count ss ≤ MOST_ROWS) listed (omega (arith, c.row_count.ensures, c.if-row_count-gt-MOST_ROWS.false)) in
    record {
      stands = (holds_stands c.self.inside.chain.state (reverse c.self.inside.inverses.items) c.args.self.now.state c.in-Some.node c.args.number h c.in-Some.ensures.1 c.in-Some.ensures.0);
      rows = subst (λ ss. row_count ss ≤ MOST_ROWS) (sym (statements_replaced c.self.inside.chain.state (reverse c.self.inside.inverses.items) c.args.self.now.state c.args.number c.args.s h)) few;
    }
