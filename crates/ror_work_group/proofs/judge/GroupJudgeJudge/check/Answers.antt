use Rattle.std.specs.Prelude.{IfErr}
use Rattle.ror_entries.specs.Steps.{IfRefused}
use Rattle.ror_work_group.specs.Entries.{IsOnPairAt, RefusesEntry}
use Rattle.ror_work_group.proofs.KindLemmas.{entry_there}
use Rattle.ror_work_group.proofs.Judging.{refused_on}
use Rattle.std.proofs.Common.{rules, ◌≡◌, List, sym, ◌∙◌, subst}
use Rattle.std.proofs.lemmas.Result.{IfErr-weaker}
use Rattle.ror_statement.specs.declared.statement.Statement.{Statement}
use Rattle.ror_group.specs.Proof.{lists_of}
use Rattle.ror_entries.specs.Kind.{IsSameKind}
use Rattle.ror_entries.proofs.SameLemmas.{same_itself}
use Rattle.ror_work_group.specs.Entries.{group_kind}
use Rattle.ror_work_group.specs.Steps.{GroupJudging}
use Rattle.ror_work_group.proofs.judge.GroupJudgeJudge.check.Goals as goal

pub returns-clause-same : goal.returns-clause-same
returns-clause-same c =
    let t = c.self.inside.table.now in
    let before = lists_of c.self.inside.judges.items in
    subst (λ (j : GroupJudging). IsSameKind (group_kind t (lists_of c.check_on.new.judges.items)) (group_kind j.table j.lists)) c.self.view_is
    (subst (λ (ls : List (List Statement)). IsSameKind (group_kind t ls) (group_kind t before)) (sym c.check_on.ensures.lists) (same_itself (group_kind t before)))

pub returns-clause-refused : goal.returns-clause-refused
returns-clause-refused c =
    let t = c.self.inside.table.now in
    let x = c.args.entry.now in
    let lists = lists_of c.self.inside.judges.items in
    let first : x.first ≡ c.pair_at-first.result.0 = search rules in
    let second : x.second ≡ c.pair_at-first.result.1 = search rules in
    let on : IsOnPairAt t c.args.place x = entry_there t c.as_slice.result.now c.args.place c.pair_at-first.result x (c.as_slice.ensures.value ∙ c.self.invariant.pairs_are) c.pair_at-first.ensures first second in
    subst (λ (j : GroupJudging). IfErr c.check_on.result (IfRefused (RefusesEntry j.table j.lists c.args.place x))) c.self.view_is
    (IfErr-weaker c.check_on.result _ _ (λ e h. refused_on t lists c.args.place x e on h) c.check_on.ensures.refused)
