use Rattle.std.proofs.Common.{◌≤◌, length, ap, arith}
use Rattle.std.proofs.lemmas.List.{length-map}
use Rattle.ror_group.specs.declared.judge.Judge.{Judge}
use Rattle.ror_group.specs.Proof.{IsWideOrProvedFor, lists_of}
use Rattle.ror_work_group.proofs.Making.{few_answers}
use Rattle.ror_work_group.proofs.judge.check_on.Goals as goal

pub of-requires : goal.of-requires
of-requires c =
    let entry = c.args.entry.now in
    let lists = lists_of c.as_mut_slice.result.now in
    let many = length-map c.as_mut_slice.result.now (λ (judge : Judge). judge.statements) in
    let same = ap length c.as_mut_slice.ensures.value in
    let few = c.requires.few in
    let short : length lists ≤ 64 = omega (arith, many, same, few) in
    let all = few_answers (IsWideOrProvedFor c.args.table.now) entry.first entry.second lists c.as_slice-answers.result.now c.in-Ok.ensures.accepted.answers short in
    all
