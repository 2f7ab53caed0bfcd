use Rattle.std.proofs.Common.{rules}
use Rattle.ror_text.specs.Reading.{Gives}
use Rattle.ror_elements.specs.Elements.{elements_of}
use Rattle.ror_elements.specs.Faults.{element_fault}
use Rattle.ror_elements.specs.Tree.{tree_of}
use Rattle.ror_elements.proofs.LawLemmas.{shallow}
use Rattle.ror_elements.proofs.DocumentLemmas.{given_document, given_fault}
use Rattle.ror_elements.proofs.reading.read_elements.Goals as goal

pub returns-clause-document : goal.returns-clause-document
unfolding elements_of
returns-clause-document c =
    let exact : Gives tree_of element_fault c.finish.result (elements_of c.args.bytes.now) = search rules in
    given_document c.args.bytes.now c.finish.result exact

pub returns-clause-fault : goal.returns-clause-fault
unfolding elements_of
returns-clause-fault c =
    let exact : Gives tree_of element_fault c.finish.result (elements_of c.args.bytes.now) = search rules in
    given_fault c.args.bytes.now c.finish.result exact

pub returns-clause-shallow : goal.returns-clause-shallow
unfolding elements_of
returns-clause-shallow c =
    let exact : Gives tree_of element_fault c.finish.result (elements_of c.args.bytes.now) = search rules in
    shallow c.args.bytes.now c.finish.result exact

pub returns-in_err-refuse_bad_utf8-clause-fault : goal.returns-in_err-refuse_bad_utf8-clause-fault
unfolding elements_of
returns-in_err-refuse_bad_utf8-clause-fault c =
    let exact : Gives tree_of element_fault c.from_residual.result (elements_of c.args.bytes.now) = search rules in
    given_fault c.args.bytes.now c.from_residual.result exact

pub returns-in_err-reader-clause-fault : goal.returns-in_err-reader-clause-fault
unfolding elements_of
returns-in_err-reader-clause-fault c =
    let exact : Gives tree_of element_fault c.from_residual-in_err-reader.result (elements_of c.args.bytes.now) = search rules in
    given_fault c.args.bytes.now c.from_residual-in_err-reader.result exact
