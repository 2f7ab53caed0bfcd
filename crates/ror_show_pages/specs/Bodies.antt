-- What the pages of a report say of what was kept: what is found of it, and a text of that in a form. A form for programs has no reasons,
-- and none are sought for it.
use Rattle.std.specs.Prelude.{◌≡◌, ℕ, Bool, true, false, List, [], ◌++◌, codes, Option, Some, None, option_map, option_and_then}
use Rattle.std.specs.List.{flat_map}
use Rattle.ror_statement.specs.declared.comparison.Pair.{Pair}
use Rattle.ror_table.specs.Table.{DecisionTable, alternative_named}
use Rattle.ror_show_ground.specs.Grounds.{Ground}
use Rattle.ror_show_find_classes.specs.declared.changes.ClassChangeFound.{ClassChangeFound}
use Rattle.ror_show_find_classes.specs.declared.value.ClassTime.{ClassTime}
use Rattle.ror_show_find_classes.specs.ClassChanges.{AreClassChanges}
use Rattle.ror_show_find_classes.specs.Findings.{class_lines}
use Rattle.ror_show_find_classes.specs.TimeTurns.{turns as time_turns}
use Rattle.ror_show_find_classes.specs.Values.{class_times}
use Rattle.ror_show_find_core.specs.declared.outcomes.LineCores.{LineCores}
use Rattle.ror_show_find_core.specs.Cores.{AreCoresFound}
use Rattle.ror_show_find_proofs.specs.declared.findings.FunctionsFound.{FunctionsFound}
use Rattle.ror_show_find_proofs.specs.Findings.{AreFunctionsFound}
use Rattle.ror_show_find_roll.specs.Findings.{rolls}
use Rattle.ror_show_find_reasons.specs.declared.bounds.ClassesFound.{ClassesFound}
use Rattle.ror_show_find_reasons.specs.declared.lines.LineFound.{LineFound}
use Rattle.ror_show_find_reasons.specs.declared.lines.Meant.{Meant}
use Rattle.ror_show_find_reasons.specs.declared.lines.Meant.TheVariants.{All, Between, Carried}
use Rattle.ror_show_find_reasons.specs.declared.pairs.ChangeFound.{ChangeFound}
use Rattle.ror_show_find_reasons.specs.declared.pairs.RelationFound.{RelationFound}
use Rattle.ror_show_find_reasons.specs.Bounds.{AreClassesFound}
use Rattle.ror_show_find_reasons.specs.Lines.{AreLinesFound}
use Rattle.ror_show_find_reasons.specs.Pairs.{AreRelationsFound, AreChangesFound}
use Rattle.ror_show_find_whatif.specs.declared.outcome.Asks.TheVariants as asks
use Rattle.ror_show_find_whatif.specs.declared.times.TimeWhatIf.{TimeWhatIf}
use Rattle.ror_show_find_whatif.specs.declared.whatif.WhatIf.{WhatIf}
use Rattle.ror_show_find_whatif.specs.Findings.{AreRelationWhatIfs, AreClassWhatIfs}
use Rattle.ror_show_text_relation.specs.Pages.{relations_text}
use Rattle.ror_show_text_changes.specs.Pages.{changes_text}
use Rattle.ror_show_text_classes.specs.Pages.{classes_text}
use Rattle.ror_show_text_roll.specs.Pages.{rolls_text}
use Rattle.ror_show_text_functions.specs.Pages.{functions_page}
use Rattle.ror_show_text_reasons.specs.Pages.{reasons_text}
use Rattle.ror_show_text_whatif.specs.Csv.{lines_values, times_values}
use Rattle.ror_show_text_whatif.specs.Pages as whatifs
use Rattle.ror_show_forms.specs.CertificatePages.{certificates_page}
use Rattle.ror_show_forms.specs.ChangeCsv.{change_values}
use Rattle.ror_show_forms.specs.ClassCsv.{class_values}
use Rattle.ror_show_forms.specs.Dot.{relation_graph}
use Rattle.ror_show_forms.specs.FunctionCsv.{function_values}
use Rattle.ror_show_forms.specs.RelationCsv.{relation_values}
use Rattle.ror_show_words.specs.declared.words.Form.{Form}
use Rattle.ror_show_words.specs.declared.words.Form.TheVariants.{Text, Csv, Dot, Certificates}
use Rattle.ror_show_words.specs.Words.{PageWords, PairWords}

-- ---- the relations that were asked

abbrev pub seeks : Form → Bool
seeks Text = true
seeks _ = false

abbrev pub relations_in : Form → Ground → List RelationFound → List ℕ
relations_in Text g fs = relations_text g fs
relations_in Csv g fs = flat_map (relation_values g) fs
relations_in Dot g fs = flat_map (relation_graph g) fs
relations_in _ g fs = []

-- Below a text stand statements that carry its arrows. Those of an arrow may be one of several parts that carry it.
abbrev pub AreRelationsIn : Form → Ground → List ℕ → Type 0
AreRelationsIn form g text = (found : List RelationFound) × AreRelationsFound (seeks form) g found
    × (text ≡ relations_in form g found)

abbrev pub AreRelations : PageWords → Ground → List ℕ → Type 0
AreRelations words g text = AreRelationsIn words.form g text

-- ---- what changed

-- the times at which classes were asked for
abbrev pub times_of : Ground → List ClassTime
times_of g = class_times g.table g.session g.kept

-- What changed in relations, with statements that carry what is new, which may be one of several parts that do, and behind it what changed
-- in classes.
pub record AreBothChanges (g : Ground) (text : List ℕ) : Type 0 where
  pub relations : List ChangeFound
  pub are : AreChangesFound true g relations
  pub classes : List ClassChangeFound
  pub are_classes : AreClassChanges (times_of g) (time_turns (times_of g)) classes
  pub text_is : text ≡ changes_text g relations (times_of g) classes

-- What changed from each relation of a desk to the next one, and from each time of its classes, in a form. Values are of relations
-- alone: those of the page of classes have all times.
abbrev pub AreChangesIn : Form → Ground → List ℕ → Type 0
AreChangesIn Text g text = AreBothChanges g text
AreChangesIn Csv g text = (found : List ChangeFound) × AreChangesFound false g found
    × (text ≡ flat_map (change_values g) found)
AreChangesIn _ g text = text ≡ []

abbrev pub AreChanges : PageWords → Ground → List ℕ → Type 0
AreChanges words g text = AreChangesIn words.form g text

-- ---- the classes at each time

-- Below each section of a text stand statements that settle the bounds, of what stood then. Those of a bound may be one of several parts
-- that settle it. As values each line stands by itself, in the order of the lines.
abbrev pub AreClassesIn : Form → Ground → List ℕ → Type 0
AreClassesIn Text g text = (found : List ClassesFound) × AreClassesFound true g found
    × (text ≡ classes_text g found)
AreClassesIn Csv g text = text ≡ flat_map (class_values g) (class_lines g)
AreClassesIn _ g text = text ≡ []

abbrev pub AreClasses : PageWords → Ground → List ℕ → Type 0
AreClasses words g text = AreClassesIn words.form g text

-- ---- what stands, after the line that is meant

abbrev pub AreRolls : PageWords → Ground → List ℕ → Type 0
AreRolls words g text = text ≡ rolls_text g words.line (rolls words.desk g)

-- ---- the functions in the answers to a line

abbrev pub functions_in : Form → Ground → List FunctionsFound → List ℕ
functions_in Text g fs = functions_page g fs
functions_in Csv g fs = flat_map (function_values g) fs
functions_in _ g fs = []

abbrev pub AreFunctionsIn : Form → Ground → List ℕ → Type 0
AreFunctionsIn form g text = (found : List FunctionsFound) × AreFunctionsFound g found × (text ≡ functions_in form g found)

abbrev pub AreFunctions : PageWords → Ground → List ℕ → Type 0
AreFunctions words g text = AreFunctionsIn words.form g text

-- ---- reasons: why the answers to lines are what they are, and why repairs there dropped what they did

-- what is said where no line that is meant is answered, or no question between two alternatives that are named
abbrev pub nothing_text : Bool → List ℕ
nothing_text false = codes "no question is answered in these lines of the session\n"
nothing_text true = codes "no question between these two alternatives is answered in these lines of the session\n"

-- the alternatives of these names, where the table has both
abbrev pub pair_named : DecisionTable → PairWords → Option Pair
pair_named t words = option_and_then (λ a. option_map (λ b. record { first = a; second = b })
    (alternative_named t words.second)) (alternative_named t words.first)

-- those between which answers are meant, where not all are; None where a name is that of no alternative
abbrev pub meant_in : DecisionTable → Option PairWords → Option (Option Pair)
meant_in t None = Some None
meant_in t (Some words) = option_map Some (pair_named t words)

abbrev pub meant_by : Option Pair → Meant
meant_by None = All
meant_by (Some pair) = Between pair

-- An answer may have several reasons, and the text has one of them, with what becomes of the answer without each statement of that.
abbrev pub HasReasons : Meant → Ground → List ℕ → Type 0
HasReasons m g text = (found : List LineFound) × (cores : List LineCores) × AreLinesFound m g found × AreCoresFound g found cores
    × (text ≡ reasons_text m g found cores)

-- none, where a name is that of no alternative
abbrev pub HasReasonsOf : Option (Option Pair) → Ground → List ℕ → Type 0
HasReasonsOf None g text = text ≡ []
HasReasonsOf (Some pair) g text = HasReasons (meant_by pair) g text

-- The text of the certificates of the answers to kept lines, one for each that statements carry and that has a reduct at the greatest
-- width. An answer may have several reducts, and the text has one of them.
abbrev pub IsCertificatesPage : Ground → List ℕ → Type 0
IsCertificatesPage g text = (found : List LineFound) × AreLinesFound Carried g found × (text ≡ certificates_page g found)

-- as a text, or as certificates of the answers
abbrev pub AreReasonsAs : Form → Option PairWords → Ground → List ℕ → Type 0
AreReasonsAs Text named g text = HasReasonsOf (meant_in g.table named) g text
AreReasonsAs Certificates named g text = IsCertificatesPage g text
AreReasonsAs _ named g text = text ≡ []

abbrev pub AreReasons : PageWords → Ground → List ℕ → Type 0
AreReasons words g text = AreReasonsAs words.form words.pair g text

-- ---- what hangs on each statement

-- the lines that ask for the relation, and behind them the times at which classes were asked for
abbrev pub whatifs_in : Form → Ground → List WhatIf → List TimeWhatIf → List ℕ
whatifs_in Text g fs times = whatifs.relations_text g fs ++ whatifs.times_text g times
whatifs_in Csv g fs times = lines_values g asks.Relation fs ++ times_values g times
whatifs_in _ g fs times = []

-- Each outcome has its answers, of which some may be too wide or not; the text has one of these.
pub record AreWhatIfsIn (form : Form) (g : Ground) (text : List ℕ) : Type 0 where
  pub relations : List WhatIf
  pub are : AreRelationWhatIfs g relations
  pub times : List TimeWhatIf
  pub are_times : AreClassWhatIfs g times
  pub text_is : text ≡ whatifs_in form g relations times

abbrev pub AreWhatIfsAs : PageWords → Ground → List ℕ → Type 0
AreWhatIfsAs words g text = AreWhatIfsIn words.form g text
