-- Faults, and the faults of errors.
use Rattle.std.specs.Prelude.{ℕ, Option, Some, None}
use Rattle.ror_elements.specs.declared.element.ElementKind.{ElementKind}
use Rattle.ror_elements.specs.declared.element.ElementFault.{ElementFault}
use Rattle.ror_elements.specs.declared.element.ElementError.{ElementError}
use Rattle.ror_elements.specs.declared.element.ElementError.TheVariants as errors

abbrev pub fault : ElementKind → ℕ → ElementFault
fault kind line = record { kind = kind; line = line }

-- the fault of an error that is not want of memory
abbrev pub element_fault : ElementError → Option ElementFault
element_fault (errors.Bad f) = Some f
element_fault errors.Memory = None
