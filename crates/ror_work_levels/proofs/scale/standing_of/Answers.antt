use Rattle.std.proofs.Common.{rules, arith, ◌≤◌, ℕ, List, length, sym, ap, subst}
use Rattle.std.specs.Prelude.{max}
use Rattle.std.specs.List.{AllByRecursion}
use Rattle.ror_session.specs.declared.session.Line.{Line}
use Rattle.ror_session.specs.declared.limits.TheConstants.{MOST_LINES}
use Rattle.ror_bench.specs.Bench.{HoldTheSame, LeavesNumbers}
use Rattle.ror_closing.specs.Closing.{IsClosingStanding}
use Rattle.ror_frame.proofs.Desks.{numbers_left}
use Rattle.ror_work_levels.specs.Suiting.{first_desk, levels_bench}
use Rattle.ror_work_levels.proofs.LevelCourses.{standing_same}
use Rattle.ror_work_levels.proofs.scale.standing_of.Goals as goal

pub closing_standing-requires-clause-numbers : goal.closing_standing-requires-clause-numbers
closing_standing-requires-clause-numbers c =
    let i = c.args.input in
    let s = c.args.session.now in
    let held : HoldTheSame c.in_ok-bench.bench (levels_bench i s) = search rules in
    let same = ap length c.as_slice-lines.ensures in
    let sound = c.requires.sound.few_lines in
    let few : length c.as_slice-lines.result.now ≤ MOST_LINES = omega (arith, same, sound) in
    subst (AllByRecursion (LeavesNumbers (length c.as_slice-lines.result.now))) (sym held.1) (numbers_left i (max 1 (length s.desks)) (length c.as_slice-lines.result.now) c.requires.lawful few)

pub returns-clause-standing : goal.returns-clause-standing
returns-clause-standing c =
    let i = c.args.input in
    let s = c.args.session.now in
    let list = c.in_ok-standing.standing.items in
    let held : HoldTheSame c.in_ok-bench.bench (levels_bench i s) = search rules in
    let lines = c.as_slice-lines.result.now in
    let closing = standing_same c.in_ok-bench.bench (levels_bench i s) held lines c.first_desk.result list c.in_ok-standing.ensures.closing in
    let at = subst (λ (desk : ℕ). IsClosingStanding (levels_bench i s) lines desk list) c.first_desk.ensures closing in
    subst (λ (ls : List Line). IsClosingStanding (levels_bench i s) ls (first_desk ls) list) c.as_slice-lines.ensures at
