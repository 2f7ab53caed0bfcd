-- The words that stand as texts are UTF-8.
use Rattle.std.proofs.Common.{refl}
use Rattle.std.specs.Prelude.{codes}
use Rattle.std.specs.Str.{IsUtf8}
use Rattle.ror_proof.specs.declared.names.QuestionName.{QuestionName}
use Rattle.ror_proof.specs.declared.names.QuestionName.TheVariants as asking
use Rattle.ror_proof.specs.declared.names.VerdictName.{VerdictName}
use Rattle.ror_proof.specs.declared.names.VerdictName.TheVariants as said
use Rattle.ror_proof.specs.declared.names.PlaceName.{PlaceName}
use Rattle.ror_proof.specs.declared.names.PlaceName.TheVariants as places
use Rattle.ror_proof.specs.Names.{question_word, verdict_word, place_word}
use Rattle.ror_proof.proofs.Utf8Lemmas.{ascii_is_utf8}
use Rattle.ror_report.specs.declared.block.LineFault.{LineFault}
use Rattle.ror_report.specs.declared.block.LineFault.TheVariants as faults
use Rattle.ror_report.specs.Names.{fault_word}
use Rattle.ror_json.specs.declared.keys.BodyKey.{BodyKey}
use Rattle.ror_json.specs.declared.keys.BodyKey.TheVariants as keys
use Rattle.ror_json.specs.Names.{key_word}

pub question_is_utf8 : (name : QuestionName) → IsUtf8 (question_word name)
question_is_utf8 asking.Consistent = ascii_is_utf8 (codes "consistent") refl
question_is_utf8 asking.Necessary = ascii_is_utf8 (codes "necessary") refl
question_is_utf8 asking.Possible = ascii_is_utf8 (codes "possible") refl
question_is_utf8 asking.PossibleClass = ascii_is_utf8 (codes "possible-class") refl
question_is_utf8 asking.NecessaryClass = ascii_is_utf8 (codes "necessary-class") refl

pub verdict_is_utf8 : (name : VerdictName) → IsUtf8 (verdict_word name)
verdict_is_utf8 said.Yes = ascii_is_utf8 (codes "yes") refl
verdict_is_utf8 said.No = ascii_is_utf8 (codes "no") refl
verdict_is_utf8 said.Contradiction = ascii_is_utf8 (codes "contradiction") refl
verdict_is_utf8 said.Wide = ascii_is_utf8 (codes "wide") refl

pub place_is_utf8 : (name : PlaceName) → IsUtf8 (place_word name)
place_is_utf8 places.Start = ascii_is_utf8 (codes "start") refl
place_is_utf8 places.Step = ascii_is_utf8 (codes "step") refl
place_is_utf8 places.Denominator = ascii_is_utf8 (codes "denominator") refl
place_is_utf8 places.RowSum = ascii_is_utf8 (codes "rowsum") refl
place_is_utf8 places.ColumnSum = ascii_is_utf8 (codes "columnsum") refl

pub fault_is_utf8 : (fault : LineFault) → IsUtf8 (fault_word fault)
fault_is_utf8 faults.UnknownAlternative = ascii_is_utf8 (codes "UnknownAlternative") refl
fault_is_utf8 faults.UnknownCriterion = ascii_is_utf8 (codes "UnknownCriterion") refl
fault_is_utf8 faults.UnknownClass = ascii_is_utf8 (codes "UnknownClass") refl
fault_is_utf8 faults.BadInterval = ascii_is_utf8 (codes "BadInterval") refl
fault_is_utf8 faults.NoSuchStatement = ascii_is_utf8 (codes "NoSuchStatement") refl
fault_is_utf8 faults.NothingToUndo = ascii_is_utf8 (codes "NothingToUndo") refl
fault_is_utf8 faults.TooManyStatements = ascii_is_utf8 (codes "TooManyStatements") refl
fault_is_utf8 faults.TooManyRows = ascii_is_utf8 (codes "TooManyRows") refl
fault_is_utf8 faults.TooManyPairs = ascii_is_utf8 (codes "TooManyPairs") refl

pub key_is_utf8 : (key : BodyKey) → IsUtf8 (key_word key)
key_is_utf8 keys.Added = ascii_is_utf8 (codes "added") refl
key_is_utf8 keys.Answers = ascii_is_utf8 (codes "answers") refl
key_is_utf8 keys.Refused = ascii_is_utf8 (codes "refused") refl
key_is_utf8 keys.RepairWide = ascii_is_utf8 (codes "repair-wide") refl
key_is_utf8 keys.Repaired = ascii_is_utf8 (codes "repaired") refl
key_is_utf8 keys.Replaced = ascii_is_utf8 (codes "replaced") refl
key_is_utf8 keys.Undone = ascii_is_utf8 (codes "undone") refl
key_is_utf8 keys.Withdrawn = ascii_is_utf8 (codes "withdrawn") refl

pub ruleset word_texts = (question_is_utf8, verdict_is_utf8, place_is_utf8, fault_is_utf8, key_is_utf8)
