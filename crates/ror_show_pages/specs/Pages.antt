-- The pages of a report: what a check keeps for each, and what is written of that. A page is a value here; the course, its proofs and its
-- laws are over any page.
use Rattle.std.specs.Prelude.{◌≡◌, ℕ, Bool, ◌&&◌, List, [], ◌++◌, codes, map, Option, is_some, if◌then◌else◌}
use Rattle.ror_session.specs.declared.session.Command.{Command}
use Rattle.ror_session.specs.declared.session.Command.TheVariants.{Ask, Repair}
use Rattle.ror_session.specs.declared.session.Line.{Line}
use Rattle.ror_session.specs.declared.session.Session.{Session}
use Rattle.ror_session.specs.Sound.{desk_name}
use Rattle.ror_bench.specs.declared.kept.Keep.{Keep}
use Rattle.ror_bench.specs.declared.kept.Keep.TheVariants.{Nothing, Block, Standing}
use Rattle.ror_show_forms.specs.RelationCsv.{csv_head as relation_head}
use Rattle.ror_show_forms.specs.ChangeCsv.{csv_head as changes_head}
use Rattle.ror_show_forms.specs.ClassCsv.{csv_head as classes_head}
use Rattle.ror_show_find_classes.specs.Times.{keep_for}
use Rattle.ror_show_find_roll.specs.Choosing.{is_desk}
use Rattle.ror_show_forms.specs.FunctionCsv.{csv_head as functions_head}
use Rattle.ror_show_text_whatif.specs.Csv.{csv_head as whatifs_head}
use Rattle.ror_show_words.specs.declared.table.Page.{Page}
use Rattle.ror_show_words.specs.declared.table.Page.TheVariants as pages
use Rattle.ror_show_words.specs.declared.words.Form.{Form}
use Rattle.ror_show_words.specs.declared.words.Form.TheVariants.{Text, Csv, Certificates}
use Rattle.ror_show_words.specs.Words.{PageWords}
use Rattle.ror_show_pages.specs.Bodies.{AreRelations, AreChanges, AreClasses, AreRolls, AreFunctions, AreReasons, AreWhatIfsAs, nothing_text}
use Rattle.ror_show_pages.specs.Choosing.{asks_relation, is_line, is_up_to, keep_where, keep_for_changes, keep_for_whatif}
use Rattle.ror_show_ground.specs.Grounds.{Ground}

-- What a page of a report is: what a check keeps of a line at a desk that is meant, by the line that is; which texts may stand there of
-- what was kept; the names of the values that it lists; and what is said where there is nothing to show, where two alternatives are
-- named and where not.
pub record ReportPage : Type 1 where
  pub keep : Option ℕ → Line → Keep
  pub Body : PageWords → Ground → List ℕ → Type 0
  pub head : List ℕ
  pub nothing : Bool → List ℕ

-- ---- what reasons need of a line, by its number

-- For people: where it asks or repairs, and is meant, what came of it with what stood before; where it asks nothing, up to the line that
-- is meant, what came of it, by which it is known which line said what stood.
abbrev pub keep_for_people : Option ℕ → ℕ → Command → Keep
keep_for_people meant number (Ask asked) = keep_where (is_line meant number) Standing
keep_for_people meant number Repair = if is_line meant number then Standing else keep_where (is_up_to meant number) Block
keep_for_people meant number _ = keep_where (is_up_to meant number) Block

-- for a check of certificates: of a line that asks and is meant its answers, with what stood when they were given
abbrev pub keep_for_check : Option ℕ → ℕ → Command → Keep
keep_for_check meant number (Ask asked) = keep_where (is_line meant number) Standing
keep_for_check meant number _ = Nothing

abbrev pub keep_for_reasons : Form → Option ℕ → ℕ → Command → Keep
keep_for_reasons Certificates meant number command = keep_for_check meant number command
keep_for_reasons form meant number command = keep_for_people meant number command

-- ---- the pages

-- Of relations the answers that are meant are kept, with what stood when they were given. What stands goes by what came of each line up to
-- the one that is meant. Of classes it is the answers, with what stood, and what came of the lines that ask nothing; and what changed is
-- of both, and so is what hangs on statements, where no line is meant. Of functions it is the one line that is meant, with what stood.
abbrev pub page_of : Page → Form → ReportPage
page_of pages.Relation form = record {
  keep = λ meant line. keep_where (asks_relation line.command && is_line meant line.number) Standing;
  Body = AreRelations;
  head = relation_head;
  nothing = λ named. codes "no relation is answered in these lines of the session\n";
}
page_of pages.Changes form = record {
  keep = λ meant line. keep_for_changes line.command;
  Body = AreChanges;
  head = changes_head;
  nothing = λ named. codes "no relation is answered twice at a desk in these lines of the session, and no classes at two times\n";
}
page_of pages.Classes form = record {
  keep = λ meant line. keep_for line.command;
  Body = AreClasses;
  head = classes_head;
  nothing = λ named. codes "no classes are answered in these lines of the session\n";
}
page_of pages.Standing form = record {
  keep = λ meant line. keep_where (is_up_to meant line.number) Block;
  Body = AreRolls;
  head = [];
  nothing = λ named. codes "the session has no such desk\n";
}
page_of pages.Functions form = record {
  keep = λ meant line. keep_where (is_line meant line.number) Standing;
  Body = AreFunctions;
  head = functions_head;
  nothing = λ named. codes "no question is answered in this line of the session\n";
}
page_of pages.Reasons form = record {
  keep = λ meant line. keep_for_reasons form meant line.number line.command;
  Body = AreReasons;
  head = [];
  nothing = λ named. nothing_text named;
}
page_of pages.WhatIf form = record {
  keep = λ meant line. keep_for_whatif meant line.number line.command;
  Body = AreWhatIfsAs;
  head = whatifs_head;
  nothing = λ named. codes "no relation and no classes are answered in these lines of the session\n";
}

-- ---- what is kept

-- of lines at other desks than one that is meant nothing is
abbrev pub keep_of : ReportPage → Option ℕ → Option (List ℕ) → List (List ℕ) → Line → Keep
keep_of p line desk desks x = if is_desk desk (desk_name desks x) then p.keep line x else Nothing

abbrev pub keeps : ReportPage → Option ℕ → Option (List ℕ) → Session → List Keep
keeps p line desk s = map (keep_of p line desk s.desks) s.lines

-- ---- what is written

-- a body with what stands before it, or what is said where it is nothing
abbrev pub whole : ReportPage → Form → Bool → List ℕ → List ℕ
whole p Csv named body = p.head ++ body
whole p Text named [] = p.nothing named
whole p _ named body = body

-- The text is a page of the ground: the one that is defined, but that relation, changes and classes as texts name for each arrow, for each
-- new pair and for each bound one of the parts of what stood that carry it, and that an answer may have several reasons.
pub record IsPage (p : ReportPage) (words : PageWords) (g : Ground) (text : List ℕ) : Type 0 where
  pub body : List ℕ
  pub is : p.Body words g body
  pub text_is : text ≡ whole p words.form (is_some words.pair) body
