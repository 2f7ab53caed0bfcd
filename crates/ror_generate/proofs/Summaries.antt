-- The generated session: what its lines are like, and what is summed up of the answers to them.
use Rattle.std.proofs.Common.{◌≡◌, ℕ, ◌+◌, ◌*◌, List, [], ◌∷◌, ◌++◌, length, map, refl, sym, ap, ◌∙◌, subst}
use Rattle.std.specs.List.{AllByRecursion, range_with_len}
use Rattle.std.proofs.lemmas.List.{length-replicate}
use Rattle.ror_proof.specs.declared.answer.Answer.{Answer}
use Rattle.ror_session.specs.declared.session.Asked.TheVariants.{Consistent, Relation}
use Rattle.ror_session.specs.declared.session.Command.{Command}
use Rattle.ror_session.specs.declared.session.Command.TheVariants.{Undo, Ask}
use Rattle.ror_table.specs.Table.{DecisionTable}
use Rattle.ror_bench.specs.declared.report.Accepted.{Accepted}
use Rattle.ror_bench.specs.Allowed.{given_at}
use Rattle.ror_bench.specs.Bench.{LeavesNumbers}
use Rattle.ror_bench.specs.Generated.{seed_after, stated_from, generated_statements, lines_from, generated_table, generated_session, generated}
use Rattle.ror_bench.specs.Reports.{NamesADesk, accepted_of}
use Rattle.ror_bench.proofs.GeneratedSession.{generated_lawful}
use Rattle.ror_generate.specs.Generating.{most, verdicts_of, accepted_by, bench_from, IsSummaryFrom, AreAnswersTo}
use Rattle.ror_generate.proofs.Counting.{IsNoRepair, accepted_are}
use Rattle.ror_frame.proofs.Desks.{lawful_desks, numbers_left, text_of, replayed, reported}

-- ---- the lines

no_repairs_from : (t : DecisionTable) (seed number : ℕ) (ks : List ℕ) (others : List Command) → ((n : ℕ) → AllByRecursion IsNoRepair (lines_from n others)) → AllByRecursion IsNoRepair (lines_from number (map (λ k. stated_from t (seed_after seed (2 * k))) ks ++ others))
no_repairs_from t seed number [] others last = last number
no_repairs_from t seed number (k ∷ ks) others last = (λ is. cc, no_repairs_from t seed (1 + number) ks others last)

no_repairs : (number : ℕ) → AllByRecursion IsNoRepair (generated number).session.lines
unfolding generated_session generated_statements
no_repairs number =
    let others : List Command = Ask Consistent ∷ Ask Relation ∷ Undo ∷ Undo ∷ Undo ∷ Ask Relation ∷ [] in
    no_repairs_from (generated_table number) (seed_after number 96) 1 (range_with_len 0 12) others (λ n. ((λ is. cc), ((λ is. cc), ((λ is. cc), ((λ is. cc), ((λ is. cc), ((λ is. cc), tt)))))))

pub named_desks : (number : ℕ) → AllByRecursion (NamesADesk (length (bench_from number).state)) (generated number).session.lines
named_desks number =
    let g = generated number in
    subst (λ (n : ℕ). AllByRecursion (NamesADesk n) g.session.lines) (sym (length-replicate (length g.session.desks) (record { opening = g.input.opening; surviving = [] }))) (generated_lawful number).session.desks

pub left_numbers : (number : ℕ) → AllByRecursion (LeavesNumbers (length (generated number).session.lines)) (bench_from number).state
left_numbers number =
    let lawful = generated_lawful number in
    numbers_left (generated number).input (length (generated number).session.desks) _ lawful.opening lawful.session.few_lines

pub one_desk : (number : ℕ) → length (generated number).session.desks ≡ 1
unfolding generated_session
one_desk number = refl

-- ---- the answers to them

pub summary_from : (number : ℕ) (answers : List Answer) (accepted : Accepted) → AreAnswersTo (bench_from number) (generated number).session.lines answers accepted → IsSummaryFrom number (record { verdicts = verdicts_of answers; accepted = accepted })
unfolding replayed reported
summary_from number answers accepted of =
    let bench = bench_from number in
    let lines = (generated number).session.lines in
    let lawful = lawful_desks (generated number).input (length (generated number).session.desks) (generated_lawful number).opening in
    let agrees : accepted_of of.blocks ≡ accepted_by (verdicts_of answers) = accepted_are (given_at most) bench.table bench lines of.blocks (no_repairs number) of.made.given ∙ ap (λ xs. accepted_by (verdicts_of xs)) (sym of.answers_are) in (
      record {
        report = text_of bench lines of.blocks;
        accepted = accepted_of of.blocks;
        is = reported most bench lines of.blocks lawful of.made;
        counted = ap verdicts_of of.answers_are;
        agrees = agrees;
      },
      of.accepted_are ∙ agrees,
    )
