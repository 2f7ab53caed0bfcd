use Rattle.std.proofs.Common.{◌≡◌, ◌∙◌, rules}
use Rattle.ror_show_find_proofs.proofs.Accepted.{found_is, refused_is}
use Rattle.ror_show_find_proofs.proofs.functions.function_of.Goals as goal

pub returns-in-Ok-clause-value : goal.returns-in-Ok-clause-value
returns-in-Ok-clause-value c =
    let numbers : c.as_slice.result.now ≡ c.args.steps.now = search rules in
    found_is c.args.table.now c.args.steps.now c.in-Ok.function (c.in-Ok.ensures.steps ∙ numbers) c.in-Ok.ensures.accepted c.in-Ok.ensures.function

pub returns : goal.returns
returns c =
    let numbers : c.as_slice.result.now ≡ c.args.steps.now = search rules in
    record {
      value = refused_is c.args.table.now c.args.steps.now c.as_slice.result.now numbers (c.in-Err-Length.ensures.not_accepted (search rules));
      function = tt;
    }
