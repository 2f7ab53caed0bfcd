use Rattle.std.proofs.Common.{◌≡◌, map, option_map, take}
use Rattle.ror_show_pages.specs.Pages.{page_of, keep_of}
use Rattle.ror_show_pages.proofs.meant.keeps.Given as goal

abbrev pub invariant-loop-line : goal.invariant-loop-line
invariant-loop-line l = l.keep.items ≡ map (keep_of (page_of l.meant.page l.meant.form) l.meant.line (option_map (λ name. name.now) l.meant.desk) l.desks) (take l.line-index l.lines)
