-- That the page of what stands shows what stands.
use Rattle.std.proofs.Common.{◌≡◌, ◌≢◌, ℕ, zero, suc, ◌<◌, List, [], ◌∷◌, length, map, Some, refl, sym, ap, subst, arith}
use Rattle.std.specs.Prelude.{replicate, slice_index_or}
use Rattle.ror_session.specs.declared.session.Line.{Line}
use Rattle.ror_history.specs.History.{Revisions, standing}
use Rattle.ror_bench.specs.declared.kept.Keep.{Keep}
use Rattle.ror_bench.specs.declared.kept.Keep.TheVariants as keeping
use Rattle.ror_bench.specs.Bench.{revisions_at}
use Rattle.ror_bench.specs.Desks.{with_blocks}
use Rattle.ror_bench.specs.Kept.{keep_at}
use Rattle.ror_bench.specs.Reports.{revisions_then}
use Rattle.ror_frame.specs.Inputs.{bench_for}
use Rattle.ror_show_find_roll.specs.Laws.{stated_at}
use Rattle.ror_show_find_roll.specs.Roll.{roll_of}
use Rattle.ror_show_find_roll.specs.Shown.{shown}
use Rattle.ror_show_find_roll.specs.Steps.{turns_from}
use Rattle.ror_show_find_roll.specs.Turns.{Turn}
use Rattle.ror_show_find_roll.proofs.LawProofs.{shows_what_stands, keeps_all_turns}
use Rattle.ror_show_words.specs.declared.table.Page.TheVariants as pages
use Rattle.ror_show_pages.specs.PageLaws.{StandingIsShown}
use Rattle.ror_show_pages.specs.Pages.{keep_of, keeps, page_of}

pub at_replicate : {A : Type 0} (n k : ℕ) (x d : A) → k < n → slice_index_or (replicate n x) k d ≡ x
at_replicate {A} zero k x d below = absurd (grind (arith, below))
at_replicate {A} (suc n) zero x d below = refl
at_replicate {A} (suc n) (suc k) x d below = at_replicate n k x d (omega (arith, below))

each_kept : (f : Line → Keep) → ((line : Line) → f line ≡ keeping.Block) → (lines : List Line) (place : ℕ) → place < length lines → keep_at (map f lines) place ≡ keeping.Block
each_kept f all [] place below = absurd (grind (arith, below))
each_kept f all (line ∷ lines) zero below = all line
each_kept f all (line ∷ lines) (suc place) below = each_kept f all lines place (omega (arith, below))

pub standing_is_shown : StandingIsShown
standing_is_shown form words i s bytes accepted desk no_line no_desk below report =
    let bench = bench_for i s in
    let all : (line : Line) → keep_of (page_of pages.Standing form) words.line words.desk s.desks line ≡ keeping.Block = λ line. rw (no_line, no_desk) refl in
    let some : (place : ℕ) → place < length s.lines → keep_at (keeps (page_of pages.Standing form) words.line words.desk s) place ≢ keeping.Nothing = λ place within is. let kept = each_kept (keep_of (page_of pages.Standing form) words.line words.desk s.desks) all s.lines place within in absurd cc in
    let turns = keeps_all_turns bench (keeps (page_of pages.Standing form) words.line words.desk s) desk s.lines report.blocks some in
    let fresh : revisions_at bench desk ≡ record { opening = i.opening; surviving = [] } = at_replicate (length s.desks) desk (record { opening = i.opening; surviving = [] }) _ below in
    let shows = shows_what_stands bench desk s.lines report.blocks (ap (λ (r : Revisions). r.surviving) fresh) report.proved in
    let opened = subst (λ (r : Revisions). map (shown (stated_at i.table s.lines) r.opening) (roll_of (length r.opening) (turns_from desk 0 s.lines report.blocks)).entries ≡ map Some (standing (revisions_then bench (with_blocks s.lines report.blocks) desk))) fresh shows in
    subst (λ (ts : List Turn). map (shown (stated_at i.table s.lines) i.opening) (roll_of (length i.opening) ts).entries ≡ map Some (standing (revisions_then bench (with_blocks s.lines report.blocks) desk))) (sym turns) opened
