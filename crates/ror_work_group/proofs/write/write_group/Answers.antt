use Rattle.std.proofs.Common.{arith, ◌≡◌, ◌<◌, ◌^◌, ◌∙◌, true, inl, refl, length, sym, ap, subst}
use Rattle.std.specs.List.{AllByRecursion}
use Rattle.std.proofs.lemmas.Result.{err_from_is_err_and}
use Rattle.ror_pivot.specs.Answers.{most_of}
use Rattle.ror_closing.proofs.LawfulLists.{lawful_lists}
use Rattle.ror_frame.specs.Inputs.{bench_for}
use Rattle.ror_frame.proofs.Desks.{lawful_desks}
use Rattle.ror_group.specs.Head.{is_visible_name, is_desk_name, head_text}
use Rattle.ror_work_group.proofs.KindLemmas.{are_kind}
use Rattle.ror_work_group.proofs.Judging.{names_visible}
use Rattle.ror_work_group.proofs.Writing.{report_same}
use Rattle.ror_work_group.proofs.write.write_group.Goals as goal

pub print_head-requires-clause-visible : goal.print_head-requires-clause-visible
print_head-requires-clause-visible g c = subst (AllByRecursion (λ name. is_visible_name name ≡ true)) (sym c.as_slice-names.ensures) (names_visible c.args.session.now.desks c.requires.sound.short c.requires.sound.clean_desks)

pub returns-in_err-head : goal.returns-in_err-head
returns-in_err-head g c =
    let p = err_from_is_err_and c.from_residual-in_err-head.result c.from_residual-in_err-head.ensures.1 in
    rw (p.1, p.2) (inl refl)

pub returns : goal.returns
returns g c =
    let i = c.args.input in
    let s = c.args.session.now in
    let bits = c.args.bits in
    let lists = c.in_ok-bench.lists.items in
    let desks = c.requires.sound.few_desks in
    let few : length s.desks < 2 ^ 32 = omega (arith, desks) in
    let named : AllByRecursion (λ name. is_desk_name name ≡ true) s.desks = subst (AllByRecursion (λ name. is_desk_name name ≡ true)) c.as_slice-names.ensures c.in_ok-head.ensures.allowed in
    let closing = c.in_ok-bench.ensures.closing in
    let table : c.in_ok-maker.maker.table ≡ i.table = c.in_ok-maker.ensures.table ∙ c.in_ok-bench.ensures.table in
    let over : c.in_ok-maker.maker.lists ≡ lists = c.in_ok-maker.ensures.lists ∙ c.as_slice.ensures.value in
    let head : c.as_slice-2.result.now ≡ head_text s.desks = c.as_slice-2.ensures.value ∙ c.in_ok-head.ensures.text ∙ ap head_text c.as_slice-names.ensures in
    let kind = are_kind i.table lists c.requires.table (lawful_lists (bench_for i s) s.lines lists (lawful_desks i (length s.desks) c.requires.lawful) closing) in
    report_same (most_of bits) i s lists few named closing kind c.as_slice-2.result.now c.in_ok-maker.maker.most c.in_ok-maker.maker.table c.in_ok-maker.maker.lists head c.in_ok-maker.ensures.most table over _ _ c.write_report.result c.write_report.ensures
