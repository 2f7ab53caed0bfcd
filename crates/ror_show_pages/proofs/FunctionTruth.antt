-- That the functions that are shown are what they are said to be.
use Rattle.std.proofs.Common.{length}
use Rattle.ror_frame.specs.Inputs.{bench_for}
use Rattle.ror_frame.proofs.Desks.{lawful_desks}
use Rattle.ror_show_find_proofs.proofs.Truth.{functions_are_true as in_report}
use Rattle.ror_show_pages.specs.PageLaws.{FunctionsAreTrue}

pub functions_are_true : FunctionsAreTrue
functions_are_true i s bytes accepted keep lawful report =
    in_report (bench_for i s) s.lines bytes accepted keep (lawful_desks i (length s.desks) lawful) report
