-- All that is found of a judged ground means what it says.
use Rattle.ror_show_find_reasons.specs.Meaning.{FoundAreMeant}
use Rattle.ror_show_find_reasons.proofs.PairMeaning.{relations_mean, changes_mean}
use Rattle.ror_show_find_reasons.proofs.ClassMeaning.{classes_mean}
use Rattle.ror_show_find_reasons.proofs.ClassChangeMeaning.{class_changes_mean}
use Rattle.ror_show_find_reasons.proofs.LineMeaning.{told_mean, drops_mean, drops_each}

pub found_are_meant : FoundAreMeant
found_are_meant = record {
  relations = relations_mean;
  changes = changes_mean;
  classes = classes_mean;
  class_changes = class_changes_mean;
  told = told_mean;
  drops = drops_mean;
  each_drop = drops_each;
}
