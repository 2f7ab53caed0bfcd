use Rattle.std.proofs.Common.{◌≡◌, ◌∙◌, ◌<◌, ◌≤◌, List, [], ◌∷◌, ◌++◌, map, length, reverse, is_ok, sym, ap, subst, arith}
use Rattle.ror_statement.specs.declared.row_number.TheConstants.{MOST_STATEMENTS, MOST_ROWS}
use Rattle.ror_statement.specs.declared.statement.Statement.{Statement}
use Rattle.ror_statement.specs.RowNumbers.{row_count}
use Rattle.ror_chain.specs.Chain.{linked_items}
use Rattle.ror_chain.proofs.CallLemmas.{at_success}
use Rattle.ror_history.specs.declared.inverse.Inverse.TheVariants.{Pop}
use Rattle.ror_history.specs.History.{next_number}
use Rattle.ror_history.proofs.FaultLemmas.{full, past_rows}
use Rattle.ror_history.proofs.HistoryLemmas.{statement_of}
use Rattle.ror_history.proofs.RevisionLemmas.{holds, sound, are_listed, added}
use Rattle.ror_history.proofs.history.History.add.Goals as goal

pub list_statements-requires-clause-chain : goal.list_statements-requires-clause-chain
list_statements-requires-clause-chain c =
    let h = holds c.self.inside c.args.self.now c.self.invariant c.self.view_is in
    (sound c.self.inside.chain.state (reverse c.self.inside.inverses.items) c.args.self.now.state h).chain

pub list_statements-requires-clause-room : goal.list_statements-requires-clause-room
list_statements-requires-clause-room c =
    let h = holds c.self.inside c.args.self.now c.self.invariant c.self.view_is in
    omega (arith, (sound c.self.inside.chain.state (reverse c.self.inside.inverses.items) c.args.self.now.state h).few, c.self.invariant.scratch)

pub returns-then-len-ge-MOST_STATEMENTS-clause-refused : goal.returns-then-len-ge-MOST_STATEMENTS-clause-refused
returns-then-len-ge-MOST_STATEMENTS-clause-refused c =
    let h = holds c.self.inside c.args.self.now c.self.invariant c.self.view_is in
    let l = are_listed c.self.inside.chain.state (reverse c.self.inside.inverses.items) c.args.self.now.state c.list_statements.new.list.items h c.list_statements.ensures.listed in
    let count : length c.list_statements.new.list.items ≡ c.len.result = omega (arith, c.len.ensures, c.list_statements.new.list.ok.0) in
    full c.args.self.now.state c.args.s (omega (arith, l.count, count, c.if-len-ge-MOST_STATEMENTS.true))

pub returns-then-row_count-gt-MOST_ROWS-clause-refused : goal.returns-then-row_count-gt-MOST_ROWS-clause-refused
returns-then-row_count-gt-MOST_ROWS-clause-refused c =
    let h = holds c.self.inside c.args.self.now c.self.invariant c.self.view_is in
    let l = are_listed c.self.inside.chain.state (reverse c.self.inside.inverses.items) c.args.self.now.state c.list_statements.new.list.items h c.list_statements.ensures.listed in
    let count : length c.list_statements.new.list.items ≡ c.len.result = omega (arith, c.len.ensures, c.list_statements.new.list.ok.0) in
    let counted : c.deref.result.now ≡ c.list_statements.new.list.items ++ c.args.s ∷ [] = c.deref.ensures.value ∙ at_success c.push.result _ _ _ (ap is_ok c.unwrap.ensures) c.push.ensures.items in
    let past : MOST_ROWS < row_count (c.list_statements.new.list.items ++ c.args.s ∷ []) = subst (λ ss. MOST_ROWS < row_count ss) counted (omega (arith, c.row_count.ensures, c.if-row_count-gt-MOST_ROWS.true)) in
    past_rows c.args.self.now.state c.args.s (omega (arith, l.count, count, c.if-len-ge-MOST_STATEMENTS.false)) (subst (λ (ss : List Statement). MOST_ROWS < row_count (ss ++ c.args.s ∷ [])) (sym l.said) past)

pub invariant_of-self-3 : goal.invariant_of-self-3
invariant_of-self-3 c =
    let h = holds c.self.inside c.args.self.now c.self.invariant c.self.view_is in
    let l = are_listed c.self.inside.chain.state (reverse c.self.inside.inverses.items) c.args.self.now.state c.list_statements.new.list.items h c.list_statements.ensures.listed in
    let count : length c.list_statements.new.list.items ≡ c.len.result = omega (arith, c.len.ensures, c.list_statements.new.list.ok.0) in
    let counted : c.deref.result.now ≡ c.list_statements.new.list.items ++ c.args.s ∷ [] = c.deref.ensures.value ∙ at_success c.push.result _ _ _ (ap is_ok c.unwrap.ensures) c.push.ensures.items in
    let fits : row_count (map statement_of (linked_items c.self.inside.chain.state) ++ c.args.s ∷ []) ≤ MOST_ROWS = subst (λ ss. row_count (ss ++ c.args.s ∷ []) ≤ MOST_ROWS) l.told (subst (λ ss. row_count ss ≤ MOST_ROWS) counted (omega (arith, c.row_count.ensures, c.if-row_count-gt-MOST_ROWS.false))) in
    let few : length (linked_items c.self.inside.chain.state) < MOST_STATEMENTS = omega (arith, l.linked, count, c.if-len-ge-MOST_STATEMENTS.false) in
    let pop : c.push-3.new.self.items ≡ c.self.inside.inverses.items ++ Pop ∷ [] = at_success c.push-3.result _ _ _ (ap is_ok c.unwrap-2.ensures) c.push-3.ensures.items ∙ ap (λ xs. xs ++ Pop ∷ []) c.in_ok-reserve.ensures.items in
    record {
      held = (added c.self.inside.chain.state c.push-2.new.self.state c.self.inside.inverses.items c.push-3.new.self.items (record { number = c.next_number-number.result; statement = c.args.s }) c.args.self.now.state h few fits (c.next_number-number.ensures ∙ ap next_number h.is) c.in_ok-push.ensures.pushed pop).held;
      scratch = omega (arith, c.self.invariant.scratch, c.list_statements.ensures.room, c.push.ensures.capacity);
    }

pub returns-clause-added : goal.returns-clause-added
returns-clause-added c =
    let h = holds c.self.inside c.args.self.now c.self.invariant c.self.view_is in
    let l = are_listed c.self.inside.chain.state (reverse c.self.inside.inverses.items) c.args.self.now.state c.list_statements.new.list.items h c.list_statements.ensures.listed in
    let count : length c.list_statements.new.list.items ≡ c.len.result = omega (arith, c.len.ensures, c.list_statements.new.list.ok.0) in
    let counted : c.deref.result.now ≡ c.list_statements.new.list.items ++ c.args.s ∷ [] = c.deref.ensures.value ∙ at_success c.push.result _ _ _ (ap is_ok c.unwrap.ensures) c.push.ensures.items in
    let fits : row_count (map statement_of (linked_items c.self.inside.chain.state) ++ c.args.s ∷ []) ≤ MOST_ROWS = subst (λ ss. row_count (ss ++ c.args.s ∷ []) ≤ MOST_ROWS) l.told (subst (λ ss. row_count ss ≤ MOST_ROWS) counted (omega (arith, c.row_count.ensures, c.if-row_count-gt-MOST_ROWS.false))) in
    let few : length (linked_items c.self.inside.chain.state) < MOST_STATEMENTS = omega (arith, l.linked, count, c.if-len-ge-MOST_STATEMENTS.false) in
    let pop : c.push-3.new.self.items ≡ c.self.inside.inverses.items ++ Pop ∷ [] = at_success c.push-3.result _ _ _ (ap is_ok c.unwrap-2.ensures) c.push-3.ensures.items ∙ ap (λ xs. xs ++ Pop ∷ []) c.in_ok-reserve.ensures.items in
    (added c.self.inside.chain.state c.push-2.new.self.state c.self.inside.inverses.items c.push-3.new.self.items (record { number = c.next_number-number.result; statement = c.args.s }) c.args.self.now.state h few fits (c.next_number-number.ensures ∙ ap next_number h.is) c.in_ok-push.ensures.pushed pop).is

pub returns-clause-allowed : goal.returns-clause-allowed
returns-clause-allowed c =
    let h = holds c.self.inside c.args.self.now c.self.invariant c.self.view_is in
    let l = are_listed c.self.inside.chain.state (reverse c.self.inside.inverses.items) c.args.self.now.state c.list_statements.new.list.items h c.list_statements.ensures.listed in
    let count : length c.list_statements.new.list.items ≡ c.len.result = omega (arith, c.len.ensures, c.list_statements.new.list.ok.0) in
    let counted : c.deref.result.now ≡ c.list_statements.new.list.items ++ c.args.s ∷ [] = c.deref.ensures.value ∙ at_success c.push.result _ _ _ (ap is_ok c.unwrap.ensures) c.push.ensures.items in
    let fits : row_count (c.list_statements.new.list.items ++ c.args.s ∷ []) ≤ MOST_ROWS = subst (λ ss. row_count ss ≤ MOST_ROWS) counted (omega (arith, c.row_count.ensures, c.if-row_count-gt-MOST_ROWS.false)) in
    record {
      few = omega (arith, l.count, count, c.if-len-ge-MOST_STATEMENTS.false);
      rows = subst (λ (ss : List Statement). row_count (ss ++ c.args.s ∷ []) ≤ MOST_ROWS) (sym l.said) fits;
    }
