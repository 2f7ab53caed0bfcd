use Rattle.std.proofs.Common.{rules, ap, ◌∙◌}
use borrow.Author.Tests.{tests}
use Rattle.std.specs.Slice.Iter.{iter_rest}
use Rattle.std.proofs.lemmas.Iterator.{items_from_collect, YieldsList-from_slice, YieldsList-from_map}
use Rattle.ror_proof.specs.declared.answer.Answer.{Answer}
use Rattle.ror_show_find_whatif.proofs.answered.questions_of.Goals as goal

pub returns : goal.returns
returns c =
    items_from_collect c.collect.result c.collect.ensures.ran
    (YieldsList-from_map _ (λ (x : Answer). x.question) (YieldsList-from_slice c.args.answers.now (ap iter_rest c.map.ensures.source ∙ c.iter.ensures.rest)) c.map.ensures.closure (λ x r q k. search (rules, tests)))
