use Rattle.std.proofs.Common.{◌≡◌, ℕ, ◌*◌, ap, sym, ◌∙◌, arith, rules}
use Rattle.ror_bench.specs.Generated.{seed_after, generated_id, generated_row}
use Rattle.ror_bench.proofs.GeneratedTable.{no_draws, table_before, table_step, draws_step, can_be_put, finishes, only_memory, one_table, is_generated}
use Rattle.ror_bench.proofs.generated.generated_table.Goals as goal

pub loop-a-init : goal.loop-a-init
loop-a-init c = record { made = c.in_ok-draft.ensures; seed = sym (no_draws c.args.draws.now.seed) }

pub loop-a-preserved : goal.loop-a-preserved
loop-a-preserved c =
    let seed = c.args.draws.now.seed in
    let a = c.loop-a.a in
    let id : c.as_str.result.now ≡ generated_id a = search rules in
    let row = c.as_slice.ensures.value ∙ c.in_ok-row.ensures.row ∙ ap (λ (x : ℕ). generated_row x a) c.loop-a.invariant.seed in
    record {
      made = table_step seed a c.loop-a.draft c.put_alternative.new.self c.as_str.result.now c.as_slice.result.now c.loop-a.invariant.made id row c.in_ok-put_alternative.ensures.added;
      seed = draws_step seed a c.loop-a.draws.seed c.generated_row.new.draws.seed c.loop-a.invariant.seed c.in_ok-row.ensures.seed;
    }

pub returns-in-Ok : goal.returns-in-Ok
returns-in-Ok c =
    let seed = c.args.draws.now.seed in
    let all : c.loop-a.a ≡ 24 = omega arith in
    let draft : c.loop-a.draft ≡ table_before seed 24 = c.loop-a.invariant.made ∙ ap (table_before seed) all in
    let is = one_table seed c.in-Ok.table (rw draft at c.in-Ok.ensures.exact) in
    record {
      made = is ∙ is_generated seed;
      table = c.in-Ok.ensures.table;
      seed = c.loop-a.invariant.seed ∙ ap (λ (n : ℕ). seed_after seed (4 * n)) all;
    }

pub put_alternative-requires : goal.put_alternative-requires
put_alternative-requires c =
    let seed = c.args.draws.now.seed in
    let a = c.loop-a.a in
    let id : c.as_str.result.now ≡ generated_id a = search rules in
    let row = c.as_slice.ensures.value ∙ c.in_ok-row.ensures.row ∙ ap (λ (x : ℕ). generated_row x a) c.loop-a.invariant.seed in
    let put = can_be_put seed a c.loop-a.draft c.as_str.result.now c.as_slice.result.now c.loop-a-test.true c.loop-a.invariant.made id row in
    record { width = put.width; amounts = put.amounts; valid = put.valid; absent = put.free; room = put.room }

pub out_of_memory-requires : goal.out_of_memory-requires
out_of_memory-requires c =
    let seed = c.args.draws.now.seed in
    let all : c.loop-a.a ≡ 24 = omega arith in
    let draft : c.loop-a.draft ≡ table_before seed 24 = c.loop-a.invariant.made ∙ ap (table_before seed) all in
    only_memory c.in-Err.fault (table_before seed 24) (rw finishes at (rw draft at c.in-Err.ensures.exact))
