-- That a report has one list of kept lines, and a ground one page, but for the parts of what stood that it names.
use Rattle.std.proofs.Common.{◌≡◌, ℕ, false, List, [], Option, is_some, sym, ap, ◌∙◌}
use Rattle.std.specs.List.{flat_map}
use Rattle.ror_table.specs.Table.{IsTable}
use Rattle.ror_value.specs.declared.input.Input.{Input}
use Rattle.ror_session.specs.declared.session.Session.{Session}
use Rattle.ror_report.specs.declared.block.Block.{Block}
use Rattle.ror_report.proofs.ReportLemmas.{one_spelling}
use Rattle.ror_bench.specs.declared.kept.Keep.{Keep}
use Rattle.ror_bench.specs.declared.kept.KeptLine.{KeptLine}
use Rattle.ror_bench.specs.Kept.{kept_from}
use Rattle.ror_frame.specs.Inputs.{bench_for}
use Rattle.ror_show_ground.specs.Grounds.{Ground}
use Rattle.ror_show_forms.specs.ChangeCsv.{change_values}
use Rattle.ror_show_words.specs.declared.table.Page.{Page}
use Rattle.ror_show_words.specs.declared.table.Page.TheVariants as pages
use Rattle.ror_show_words.specs.declared.words.Form.{Form}
use Rattle.ror_show_words.specs.declared.words.Form.TheVariants.{Text, Csv, Dot, Certificates}
use Rattle.ror_show_words.specs.Words.{PageWords, PairWords}
use Rattle.ror_show_pages.specs.Bodies.{relations_in, AreRelationsIn, AreChangesIn, AreClassesIn, functions_in, AreFunctionsIn, AreReasonsAs, AreWhatIfsIn}
use Rattle.ror_show_pages.specs.Reads.{ReadsKept}
use Rattle.ror_show_pages.specs.PageLaws.{names_parts, OnePage}
use Rattle.ror_show_pages.specs.Pages.{IsPage, page_of, whole}
use Rattle.ror_show_pages.proofs.OneContent.{one_content}
use Rattle.ror_show_pages.proofs.OneFound.{one_relations, one_changes, one_functions, relations_same, changes_same, classes_same, lines_same, whatifs_same, times_same}

-- one text of the relations in each form for programs
one_relation : (form : Form) (g : Ground) (one other : List ℕ) → names_parts pages.Relation form ≡ false → AreRelationsIn form g one → AreRelationsIn form g other → one ≡ other
one_relation Text g one other none p q = absurd cc
one_relation Csv g one other none p q = p.2 ∙ ap (relations_in Csv g) (one_relations g p.0 q.0 p.1 q.1) ∙ sym q.2
one_relation Dot g one other none p q = p.2 ∙ ap (relations_in Dot g) (one_relations g p.0 q.0 p.1 q.1) ∙ sym q.2
one_relation Certificates g one other none p q = p.2 ∙ sym q.2

-- of what changed
one_change : (form : Form) (g : Ground) (one other : List ℕ) → names_parts pages.Changes form ≡ false → AreChangesIn form g one → AreChangesIn form g other → one ≡ other
one_change Text g one other none p q = absurd cc
one_change Csv g one other none p q = p.2 ∙ ap (flat_map (change_values g)) (one_changes g p.0 q.0 p.1 q.1) ∙ sym q.2
one_change Dot g one other none p q = p ∙ sym q
one_change Certificates g one other none p q = p ∙ sym q

-- of the classes
one_of_classes : (form : Form) (g : Ground) (one other : List ℕ) → names_parts pages.Classes form ≡ false → AreClassesIn form g one → AreClassesIn form g other → one ≡ other
one_of_classes Text g one other none p q = absurd cc
one_of_classes Csv g one other none p q = p ∙ sym q
one_of_classes Dot g one other none p q = p ∙ sym q
one_of_classes Certificates g one other none p q = p ∙ sym q

-- of functions in any form
one_of_functions : (form : Form) (g : Ground) (one other : List ℕ) → AreFunctionsIn form g one → AreFunctionsIn form g other → one ≡ other
one_of_functions form g one other p q = p.2 ∙ ap (functions_in form g) (one_functions g p.0 q.0 p.1 q.1) ∙ sym q.2

-- and of reasons none
no_reasons : (form : Form) (named : Option PairWords) (g : Ground) (one other : List ℕ) → names_parts pages.Reasons form ≡ false → AreReasonsAs form named g one → AreReasonsAs form named g other → one ≡ other
no_reasons Text named g one other none p q = absurd cc
no_reasons Csv named g one other none p q = p ∙ sym q
no_reasons Dot named g one other none p q = p ∙ sym q
no_reasons Certificates named g one other none p q = absurd cc

-- and of what hangs on statements none
no_whatifs : (form : Form) (g : Ground) (one other : List ℕ) → names_parts pages.WhatIf form ≡ false → AreWhatIfsIn form g one → AreWhatIfsIn form g other → one ≡ other
no_whatifs Text g one other none p q = absurd cc
no_whatifs Csv g one other none p q = absurd cc
no_whatifs Dot g one other none p q = p.text_is ∙ sym q.text_is
no_whatifs Certificates g one other none p q = p.text_is ∙ sym q.text_is

-- what is said of a ground is one text
one_body : (page : Page) (words : PageWords) (g : Ground) (one other : List ℕ) → names_parts page words.form ≡ false → (page_of page words.form).Body words g one → (page_of page words.form).Body words g other → one ≡ other
one_body pages.Relation words g one other none p q = one_relation words.form g one other none p q
one_body pages.Changes words g one other none p q = one_change words.form g one other none p q
one_body pages.Classes words g one other none p q = one_of_classes words.form g one other none p q
one_body pages.Standing words g one other none p q = p ∙ sym q
one_body pages.Functions words g one other none p q = one_of_functions words.form g one other p q
one_body pages.Reasons words g one other none p q = no_reasons words.form words.pair g one other none p q
one_body pages.WhatIf words g one other none p q = no_whatifs words.form g one other none p q

-- a ground has one page
one_of_ground : (page : Page) (words : PageWords) (g : Ground) (one other : List ℕ) → names_parts page words.form ≡ false → IsPage (page_of page words.form) words g one → IsPage (page_of page words.form) words g other → one ≡ other
one_of_ground page words g one other none p q =
    p.text_is ∙ ap (whole (page_of page words.form) words.form (is_some words.pair)) (one_body page words g p.body q.body none p.is q.is) ∙ sym q.text_is

-- a report has one list of blocks, and so one of kept lines
pub one_kept : (keep : List Keep) (i : Input) (s : Session) (bytes : List ℕ) (one other : List KeptLine) → IsTable i.table → ReadsKept keep i s bytes one → ReadsKept keep i s bytes other → one ≡ other
one_kept keep i s bytes one other table first second =
    let blocks = one_spelling i.table first.report.blocks second.report.blocks table first.report.printable second.report.printable (sym first.report.text ∙ second.report.text) in
    first.chosen ∙ ap (λ (bs : List Block). kept_from (bench_for i s) keep [] s.lines bs) blocks ∙ sym second.chosen

pub one_page : OnePage
one_page = record {
  lines = one_kept;
  text = one_of_ground;
  relation = one_content;
  relations = relations_same;
  changes = changes_same;
  classes = classes_same;
  reasons = lines_same;
  whatifs = whatifs_same;
  times = times_same;
}
