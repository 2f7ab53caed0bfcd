use Rattle.std.proofs.Common.{◌≡◌, ◌++◌, length, take}
use Rattle.std.specs.List.{flat_map}
use Rattle.ror_show_forms.specs.CertificatePages.{certified_of}
use Rattle.ror_show_forms.specs.CertificateText.{certificate_text}
use Rattle.ror_show_forms.proofs.print.write_each.Given as goal

abbrev pub invariant-told : goal.invariant-told
invariant-told l = record {
  text : l.text.items ≡ l.fn.text.items ++ flat_map (certificate_text l.table) (flat_map (certified_of l.line) (take l.k l.told));
  count : l.count ≡ length (flat_map (certified_of l.line) (take l.k l.told));
}
