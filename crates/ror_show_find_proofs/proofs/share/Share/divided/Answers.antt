-- The digits make the quotient, and what is left behind the last of them is the remainder.
use Rattle.std.proofs.Common.{◌≡◌, ◌+◌, ◌*◌, sym}
use Rattle.ror_show_find_proofs.proofs.Quotients.{count_is, rest_is, three_digits}
use Rattle.ror_show_find_proofs.proofs.share.Share.divided.Goals as goal

pub returns-clause-count : goal.returns-clause-count
returns-clause-count c =
    let all : 1000 * c.args.self.part ≡ (100 * c.tenfold-first.result.count + 10 * c.tenfold-second.result.count + c.tenfold-third.result.count) * c.args.self.whole + c.tenfold-third.result.rest =
    three_digits c.args.self.part c.args.self.whole c.tenfold-first.result.count c.tenfold-second.result.count c.tenfold-third.result.count c.tenfold-first.result.rest c.tenfold-second.result.rest c.tenfold-third.result.rest c.tenfold-first.ensures.exact c.tenfold-second.ensures.exact c.tenfold-third.ensures.exact in
    sym (count_is (1000 * c.args.self.part) c.args.self.whole (100 * c.tenfold-first.result.count + 10 * c.tenfold-second.result.count + c.tenfold-third.result.count) c.tenfold-third.result.rest all c.tenfold-third.ensures.below)

pub returns-clause-rest : goal.returns-clause-rest
returns-clause-rest c =
    let all : 1000 * c.args.self.part ≡ (100 * c.tenfold-first.result.count + 10 * c.tenfold-second.result.count + c.tenfold-third.result.count) * c.args.self.whole + c.tenfold-third.result.rest =
    three_digits c.args.self.part c.args.self.whole c.tenfold-first.result.count c.tenfold-second.result.count c.tenfold-third.result.count c.tenfold-first.result.rest c.tenfold-second.result.rest c.tenfold-third.result.rest c.tenfold-first.ensures.exact c.tenfold-second.ensures.exact c.tenfold-third.ensures.exact in
    sym (rest_is (1000 * c.args.self.part) c.args.self.whole (100 * c.tenfold-first.result.count + 10 * c.tenfold-second.result.count + c.tenfold-third.result.count) c.tenfold-third.result.rest all c.tenfold-third.ensures.below)
