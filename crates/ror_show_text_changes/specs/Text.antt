-- What changed from one relation of a desk to the next, as plain text.
use Rattle.std.specs.Prelude.{ℕ, Bool, ◌==◌, ◌&&◌, ◌||◌, List, [], ◌++◌, length, codes, slice_get, if◌then◌else◌}
use Rattle.std.specs.Option.{option_map_or}
use Rattle.ror_table.specs.Table.{DecisionTable}
use Rattle.ror_session.specs.declared.session.Session.{Session}
use Rattle.ror_bench.specs.declared.kept.KeptLine.{KeptLine}
use Rattle.ror_show_kit.specs.Heads.{counted, line_text}
use Rattle.ror_show_ground.specs.Grounds.{Ground}
use Rattle.ror_show_ground.specs.Lines.{desk_at}
use Rattle.ror_show_find_relation.specs.declared.change.Change.{Change}
use Rattle.ror_show_find_relation.specs.declared.change.Change.TheVariants.{TurnedRound, NoLonger, Stayed, New}
use Rattle.ror_show_find_relation.specs.declared.page.RelationPage.{RelationPage}
use Rattle.ror_show_find_relation.specs.declared.differences.Differences.{Differences}
use Rattle.ror_show_find_relation.specs.Rows.{pairs_among, unknown_pairs, is_contradictory}
use Rattle.ror_show_find_reasons.specs.declared.pairs.ChangeFound.{ChangeFound}
use Rattle.ror_show_text_relation.specs.Text.{levels_text, pairs_below}
use Rattle.ror_show_text_relation.specs.Pages.{carried_text}
use Rattle.ror_show_text_classes.specs.Text.{stood_text}
use Rattle.ror_show_text_changes.specs.Nothing.{nothing_text}

-- ---- the heading

-- a line, its desk and what stood there
abbrev pub side_text : Session → List ℕ → KeptLine → List ℕ
side_text s words x = line_text x.block.line (desk_at s x) ++ words ++ stood_text x.standing

abbrev pub legend : List ℕ
legend = codes "\n  x -> y: by every value function that agrees with the statements x is at least as good as y\n"

abbrev pub head_text : Session → KeptLine → KeptLine → List ℕ
head_text s x y = side_text s (codes "  before\n") x ++ side_text s (codes "  now\n") y

-- ---- of how many pairs something is known

-- how many before, and how many now
abbrev pub both_text : List ℕ → ℕ → ℕ → List ℕ
both_text words before now = counted words before ++ counted (codes " before, ") now ++ codes " now"

-- of those that aren't concluded, which the lists don't have, where there are any
abbrev pub some_missing : ℕ → ℕ → List ℕ
some_missing before now = both_text (codes "  not concluded: ") before now ++ codes "; the lists take them as not so\n"

abbrev pub missing_text : ℕ → ℕ → List ℕ
missing_text before now = if before == 0 && now == 0 then [] else some_missing before now

abbrev pub decided_text : ℕ → ℕ → ℕ → List ℕ
decided_text pairs before now = counted (codes "  of ") pairs ++ both_text (codes " pairs decided: ") before now ++ codes "\n"

abbrev pub counts_text : DecisionTable → RelationPage → RelationPage → List ℕ
counts_text t before now =
    decided_text (pairs_among (length t.alternatives)) before.counts.decided now.counts.decided
    ++ missing_text (unknown_pairs before.rows (length t.alternatives)) (unknown_pairs now.rows (length t.alternatives))

-- ---- the pairs of each change

abbrev pub change_head : Change → List ℕ
change_head TurnedRound = codes "\n  turned round, as they were before (now each leads the other way alone)\n"
change_head NoLonger = codes "\n  no longer so, and not turned round\n"
change_head Stayed = codes "\n  stayed\n"
change_head New = codes "\n  new, and not turned round\n"

abbrev pub differences_text : DecisionTable → Differences → List ℕ
differences_text t f = pairs_below t (change_head TurnedRound) f.turned ++ pairs_below t (change_head NoLonger) f.no_longer
    ++ pairs_below t (change_head Stayed) f.stayed ++ pairs_below t (change_head New) f.new

-- ---- the levels

abbrev pub both_levels : DecisionTable → RelationPage → RelationPage → List ℕ
both_levels t before now = codes "\n  before" ++ levels_text t before ++ codes "\n  now" ++ levels_text t now

-- ---- the section of two lines

abbrev pub brought_head : List ℕ
brought_head = codes "\n  statements that carry what is turned round or new now\n  (of these alone none can be spared; others may carry it too)\n"

-- what carries what is turned round or new
abbrev pub brought_text : DecisionTable → ChangeFound → List ℕ
brought_text t f = carried_text t brought_head f.brought

abbrev pub found_text : DecisionTable → ChangeFound → List ℕ
found_text t f = counts_text t f.first f.second ++ differences_text t f.pairs ++ both_levels t f.first f.second ++ brought_text t f

abbrev pub compared_text : DecisionTable → ChangeFound → List ℕ
compared_text t f = legend ++ found_text t f

-- where some function agrees at both lines
abbrev pub compared_where : Bool → Bool → DecisionTable → ChangeFound → List ℕ
compared_where was is t f = if was || is then nothing_text was is else compared_text t f

abbrev pub compared : DecisionTable → ChangeFound → List ℕ
compared t f = compared_where (is_contradictory f.first.rows (length t.alternatives))
    (is_contradictory f.second.rows (length t.alternatives)) t f

-- from the one kept line to the other
abbrev pub change_over : Ground → ChangeFound → KeptLine → KeptLine → List ℕ
change_over g f x y = head_text g.session x y ++ compared g.table f

abbrev pub change_from : Ground → ChangeFound → KeptLine → List ℕ
change_from g f x = option_map_or (change_over g f x) (slice_get g.kept f.now) []

abbrev pub change_text : Ground → ChangeFound → List ℕ
change_text g f = option_map_or (change_from g f) (slice_get g.kept f.before) []
