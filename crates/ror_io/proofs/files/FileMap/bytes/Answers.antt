use Rattle.std.proofs.Common.{◌∙◌, ap, Some, None}
use Rattle.ror_io.specs.Files.{file}
use Rattle.ror_io.proofs.FileLemmas.{file_found}
use Rattle.ror_io.proofs.files.FileMap.bytes.Goals as goal

pub returns-in_err-bytes : goal.returns-in_err-bytes
returns-in_err-bytes c =
    rw c.from_residual.ensures (file_found c.self.inside.entries.entries c.args.name.now None c.in_err-bytes.ensures.value
    ∙ ap (λ files. file files c.args.name.now) c.self.view_is)

pub returns : goal.returns
returns c =
    ap Some c.deref.ensures.value
    ∙ file_found c.self.inside.entries.entries c.args.name.now (Some c.in_ok-bytes.bytes.now) c.in_ok-bytes.ensures.value
    ∙ ap (λ files. file files c.args.name.now) c.self.view_is
