use Rattle.std.proofs.Common.{take}
use Rattle.std.specs.List.{AllByRecursion}
use Rattle.ror_show_forms.specs.Answered.{IsProvedCertificate}
use Rattle.ror_show_forms.proofs.check.check_certificates.Given as goal

abbrev pub invariant-certificates : goal.invariant-certificates
invariant-certificates l = AllByRecursion (IsProvedCertificate l.table l.kept) (take l.k l.certificates)
