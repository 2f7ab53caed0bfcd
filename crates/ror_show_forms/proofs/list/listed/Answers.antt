use Rattle.std.proofs.Common.{rules, ◌≡◌, ℕ, ◌-◌, ◌+◌, suc, true, false, List, ◌++◌, ◌∷◌, [], length, drop, arith, sym, ap, subst, ◌∙◌}
use Rattle.std.specs.Prelude.{IfSome, Some, Ok, Err}
use Rattle.std.proofs.lemmas.Result.{err_from_is_err_and}
use Rattle.std.proofs.lemmas.List.{length_push}
use Rattle.ror_text.specs.Cursor.{cursor_at}
use Rattle.ror_proof.proofs.Loops.{after_front}
use Rattle.ror_report.specs.Reading.{begins_end}
use Rattle.ror_show_forms.specs.declared.certificate.Certificate.{Certificate}
use Rattle.ror_show_forms.specs.Listing.{rejection_of, next_at, last_at, listed_at}
use Rattle.ror_show_forms.proofs.ListLoops.{listed_go_on, listed_exit, listed_end, listed_end_exit}
use Rattle.ror_show_forms.proofs.list.listed.Goals as goal

pub returns-in_err-found-clause-exact : goal.returns-in_err-found-clause-exact
returns-in_err-found-clause-exact c =
    let bytes = c.args.bytes.now in
    let t = c.args.table.now in
    let front = c.certificates.certificates.items in
    let most = suc (length bytes) - length front in
    let here = cursor_at bytes c.certificates.next in
    let is : most ≡ suc (most - 1) = omega (arith, c.certificates.invariant.room, c.certificates.invariant.within) in
    let more : begins_end (drop c.certificates.next bytes) ≡ false = sym c.certificates-test.ensures in
    let counted : c.len.result ≡ length front = search rules in
    let one = subst (λ (n : ℕ). IfSome (rejection_of c.in_err-found.field-0.0) (λ r. next_at t bytes (n + 1) c.certificates.last here ≡ Err r)) counted c.in_err-found.ensures.exact in
    let p = err_from_is_err_and c.from_residual.result c.from_residual.ensures.1 in
    rw (p.1, p.2) (listed_exit t bytes most (most - 1) (length front + 1) c.certificates.last front here _ c.in_err-found.field-0.0 is more one c.certificates.invariant.reads)

pub certificates-preserved : goal.certificates-preserved
certificates-preserved c =
    let bytes = c.args.bytes.now in
    let t = c.args.table.now in
    let front = c.certificates.certificates.items in
    let most = suc (length bytes) - length front in
    let here = cursor_at bytes c.certificates.next in
    let x = c.in_ok-found.found in
    let after = cursor_at bytes c.in_ok-found.after in
    let now = c.push.new.certificates.items in
    let longer : length now ≡ length front + 1 = ap length c.in_ok-push.ensures ∙ length_push front x in
    let left = suc (length bytes) - length now in
    let is : most ≡ suc left = omega (arith, c.certificates.invariant.room, c.certificates.invariant.within, longer) in
    let more : begins_end (drop c.certificates.next bytes) ≡ false = sym c.certificates-test.ensures in
    let counted : c.len.result ≡ length front = search rules in
    let one = subst (λ (n : ℕ). next_at t bytes (n + 1) c.certificates.last here ≡ Ok (x, after)) counted c.in_ok-found.ensures.exact in
    let goes = listed_go_on t bytes most left (length front + 1) c.certificates.last front here _ after x is more one c.certificates.invariant.reads in
    record {
      within = c.in_ok-found.ensures.within;
      room = omega (arith, longer, c.in_ok-found.ensures.onward, c.certificates.invariant.room);
      reads = ap (λ (xs : List Certificate). after_front xs (listed_at t bytes left (length now + 1) (Some (x.line, x.place)) after)) c.in_ok-push.ensures
          ∙ ap (λ (n : ℕ). after_front (front ++ x ∷ []) (listed_at t bytes left (n + 1) (Some (x.line, x.place)) after)) longer ∙ goes;
    }

pub returns-in_err-check_last-clause-exact : goal.returns-in_err-check_last-clause-exact
returns-in_err-check_last-clause-exact c =
    let bytes = c.args.bytes.now in
    let t = c.args.table.now in
    let front = c.certificates.certificates.items in
    let most = suc (length bytes) - length front in
    let here = cursor_at bytes c.certificates.next in
    let is : most ≡ suc (most - 1) = omega (arith, c.certificates.invariant.room, c.certificates.invariant.within) in
    let ends : begins_end (drop c.certificates.next bytes) ≡ true = sym c.certificates-test.ensures in
    let counted : c.len-2.result ≡ length front = search rules in
    let one = subst (λ (n : ℕ). IfSome (rejection_of c.in_err-check_last.field-0.0) (λ r. last_at bytes (n + 1) here ≡ Err r)) counted c.in_err-check_last.ensures.exact in
    let p = err_from_is_err_and c.from_residual-in_err-check_last.result c.from_residual-in_err-check_last.ensures.1 in
    rw (p.1, p.2) (listed_end_exit t bytes most (most - 1) (length front + 1) c.certificates.last front here _ c.in_err-check_last.field-0.0 is ends one c.certificates.invariant.reads)

pub returns-clause-exact : goal.returns-clause-exact
returns-clause-exact c =
    let bytes = c.args.bytes.now in
    let t = c.args.table.now in
    let front = c.certificates.certificates.items in
    let most = suc (length bytes) - length front in
    let here = cursor_at bytes c.certificates.next in
    let is : most ≡ suc (most - 1) = omega (arith, c.certificates.invariant.room, c.certificates.invariant.within) in
    let ends : begins_end (drop c.certificates.next bytes) ≡ true = sym c.certificates-test.ensures in
    let counted : c.len-2.result ≡ length front = search rules in
    let one = subst (λ (n : ℕ). last_at bytes (n + 1) here ≡ Ok tt) counted c.in_ok-check_last.ensures.exact in
    listed_end t bytes most (most - 1) (length front + 1) c.certificates.last front here _ is ends one c.certificates.invariant.reads
