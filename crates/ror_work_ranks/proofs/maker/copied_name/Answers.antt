use Rattle.std.proofs.Common.{◌≡◌, true, ℕ, List, sym, subst}
use Rattle.std.specs.Str.{IsUtf8}
use Rattle.std.proofs.lemmas.Result.{IfOk-weaker}
use Rattle.ror_report.specs.Desk.{is_desk_name}
use Rattle.ror_work_ranks.proofs.Names.{name_there}
use Rattle.ror_work_ranks.proofs.maker.copied_name.Goals as goal

pub returns-clause-named : goal.returns-clause-named
returns-clause-named c =
    let name = c.name_at.result.now in
    let utf8 : IsUtf8 name = subst IsUtf8 c.as_str.ensures c.as_str.utf8 in
    let named : is_desk_name name ≡ true = name_there c.args.names.now c.args.place name c.requires.names c.name_at.ensures utf8 in
    let same : is_desk_name c.as_str.result.now ≡ true = subst (λ (x : List ℕ). is_desk_name x ≡ true) (sym c.as_str.ensures) named in
    IfOk-weaker c.copied.result (λ x. x ≡ c.as_str.result.now) (λ x. is_desk_name x ≡ true) (λ x is. subst (λ (y : List ℕ). is_desk_name y ≡ true) (sym is) same) c.copied.ensures
