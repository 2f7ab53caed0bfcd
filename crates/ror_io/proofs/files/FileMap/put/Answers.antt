use Rattle.std.proofs.Common.{◌≡◌, ◌∙◌, ap}
use Rattle.ror_io.specs.Files.{file, with_file}
use Rattle.ror_io.specs.ShelfMemory.{files_of}
use Rattle.ror_io.proofs.FileLemmas.{files_of-insert_entry, file-with_file, file-with_file_other}
use Rattle.ror_io.proofs.files.FileMap.put.Goals as goal

files_after : (c : goal.Joined-branch-4) → files_of c.insert.new.self.entries ≡ with_file c.args.self.now c.args.name.now c.args.bytes.now
files_after c =
    ap files_of c.in_ok-insert.ensures.entries
    ∙ files_of-insert_entry c.self.inside.entries.entries c.in_ok-name.name c.in_ok-bytes.bytes
    ∙ (λ i. with_file (c.self.view_is i) (c.in_ok-name.ensures.ok i) (c.in_ok-bytes.ensures.items i))

pub returns-clause-named : goal.returns-clause-named
returns-clause-named c =
    ap (λ files. file files c.args.name.now) (files_after c) ∙ file-with_file c.args.self.now c.args.name.now c.args.bytes.now

pub returns-clause-others : goal.returns-clause-others
returns-clause-others c =
    λ other differs. ap (λ files. file files other) (files_after c)
    ∙ file-with_file_other c.args.self.now c.args.name.now c.args.bytes.now other differs

pub returns-clause-ok : goal.returns-clause-ok
returns-clause-ok c = files_after c
