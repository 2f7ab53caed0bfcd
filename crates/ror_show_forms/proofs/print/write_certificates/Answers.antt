use Rattle.std.proofs.Common.{◌≡◌, [], ◌++◌, ℕ, List, length, ap, ◌∙◌, arith, rules}
use Rattle.std.specs.List.{flat_map}
use Rattle.ror_report.specs.Text.{end_text}
use Rattle.ror_show_ground.specs.Grounds.{ground_of}
use Rattle.ror_show_forms.specs.CertificatePages.{certificates_in}
use Rattle.ror_show_forms.specs.CertificateText.{header_text, certificate_text}
use Rattle.ror_show_forms.proofs.Certified.{certified_as_before, few_certificates}
use Rattle.ror_show_forms.proofs.FoundLemmas.{found_writable}
use Rattle.ror_show_forms.proofs.Written.{whole}
use Rattle.ror_show_forms.proofs.print.write_certificates.Goals as goal

pub write_all-requires-clause-few : goal.write_all-requires-clause-few
write_all-requires-clause-few c =
    let g = ground_of c.args.ground.now in
    let fs = c.args.found.now in
    let few = few_certificates g.table g.kept (certificates_in g fs) (certified_as_before g fs c.requires.judged c.requires.found) in
    omega (arith, few, c.requires.judged.few_answers)

pub write_all-requires-clause-writable : goal.write_all-requires-clause-writable
write_all-requires-clause-writable c =
    let g = ground_of c.args.ground.now in
    let fs = c.args.found.now in
    found_writable g.table g.kept (certificates_in g fs) c.requires.judged.ready c.requires.judged.few_answers (certified_as_before g fs c.requires.judged c.requires.found)

pub returns : goal.returns
returns c =
    let g = ground_of c.args.ground.now in
    let xs = certificates_in g c.args.found.now in
    let empty : c.new-text.result.items ≡ [] = search rules in
    let begun = c.in_ok-extend_from_slice.ensures.items ∙ ap (λ (qs : List ℕ). c.new-text.result.items ++ qs) c.header.ensures ∙ ap (λ (qs : List ℕ). qs ++ header_text) empty in
    let ended = c.in_ok-extend_from_slice-2.ensures.items ∙ ap (λ (qs : List ℕ). c.write_all.new.text.items ++ qs) (c.as_slice.ensures.value ∙ c.in_ok-end.ensures.text ∙ ap end_text c.in_ok-count.ensures.count) in
    whole header_text (flat_map (certificate_text g.table) xs) (end_text (length xs)) c.extend_from_slice.new.self.items c.write_all.new.text.items c.extend_from_slice-2.new.self.items begun c.in_ok-count.ensures.text ended
