use Rattle.std.proofs.Common.{refl}
use Rattle.std.specs.Str.{is_utf8, chars}
use lib.Utf8.{encode}
use Rattle.ror_text.specs.Ids.{is_id}
use Rattle.ror_bench.proofs.generated.generated_criteria.Goals as goal

pub put_criterion-requires-clause-valid : goal.put_criterion-requires-clause-valid
unfolding is_id is_utf8 chars encode
put_criterion-requires-clause-valid c = refl

pub put_criterion-requires-2-clause-valid : goal.put_criterion-requires-2-clause-valid
unfolding is_id is_utf8 chars encode
put_criterion-requires-2-clause-valid c = refl

pub put_criterion-requires-3-clause-valid : goal.put_criterion-requires-3-clause-valid
unfolding is_id is_utf8 chars encode
put_criterion-requires-3-clause-valid c = refl

pub put_criterion-requires-4-clause-valid : goal.put_criterion-requires-4-clause-valid
unfolding is_id is_utf8 chars encode
put_criterion-requires-4-clause-valid c = refl
