use Rattle.std.proofs.Common.{◌≡◌, ◌++◌, length, take}
use Rattle.std.specs.List.{flat_map}
use Rattle.ror_show_ground.specs.Grounds.{ground_of}
use Rattle.ror_show_forms.specs.CertificatePages.{certificates_at}
use Rattle.ror_show_forms.specs.CertificateText.{certificate_text}
use Rattle.ror_show_forms.proofs.print.write_all.Given as goal

abbrev pub invariant-found : goal.invariant-found
invariant-found l = record {
  text : l.text.items ≡ l.fn.text.items ++ flat_map (certificate_text l.ground.table.now) (flat_map (certificates_at (ground_of l.ground)) (take l.k l.found));
  count : l.count ≡ length (flat_map (certificates_at (ground_of l.ground)) (take l.k l.found));
}
