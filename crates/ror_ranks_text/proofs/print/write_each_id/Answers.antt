use Rattle.std.proofs.Common.{◌≡◌, ◌<◌, ℕ, List, ◌∷◌, ◌++◌, length, map, get_or, refl, sym}
use Rattle.std.proofs.lemmas.List.{get_or_default}
use Rattle.ror_text.proofs.Everywhere.{all-rest}
use Rattle.ror_table.specs.Table.{id_of}
use Rattle.ror_proof.specs.Printing.{spaced}
use Rattle.ror_proof.proofs.PrintLemmas.{one_more, all_printed, front_then}
use Rattle.ror_ranks_text.proofs.print.write_each_id.Goals as goal

pub write_alternative-requires : goal.write_alternative-requires
write_alternative-requires c =
    let t = c.args.table.now in
    (all-rest (λ b. b < length t.alternatives) c.args.members.now c.members.member-index 0 c.members-test.true c.members.invariant.of_table).0

pub members-preserved : goal.members-preserved
members-preserved c =
    let t = c.args.table.now in
    let xs = c.args.members.now in
    let i = c.members.member-index in
    let next = get_or xs i 0 in
    let is : next ≡ get_or xs i next = sym (get_or_default xs i next 0 c.members-test.true) in
    record {
      printed = one_more (λ (ys : List ℕ). spaced (map (id_of t) ys)) (λ (y : ℕ). 32 ∷ id_of t y) (λ y ys. refl) xs i next c.members.text.items c.write_alternative.new.text.items (c.args.text.now.items ++ spaced (map (id_of t) xs)) c.members-test.true is c.in_ok-write_alternative.ensures.ok c.members.invariant.printed;
      front = front_then c.args.text.now.items c.members.text.items c.write_alternative.new.text.items c.members.invariant.front c.in_ok-write_alternative.ensures.front;
      of_table = (all-rest (λ b. b < length t.alternatives) xs i 0 c.members-test.true c.members.invariant.of_table).1;
    }

pub returns-clause-ok : goal.returns-clause-ok
returns-clause-ok c =
    let t = c.args.table.now in
    all_printed (λ (ys : List ℕ). spaced (map (id_of t) ys)) refl c.args.members.now c.members.member-index c.members.text.items (c.args.text.now.items ++ spaced (map (id_of t) c.args.members.now)) c.members-test.false c.members.invariant.printed
