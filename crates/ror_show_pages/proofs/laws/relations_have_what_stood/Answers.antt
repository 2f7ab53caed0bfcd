use Rattle.ror_show_pages.proofs.WhatStood.{relations_have_what_stood}
use Rattle.ror_show_pages.proofs.laws.relations_have_what_stood.Goals as goal

pub returns : goal.returns
returns c = relations_have_what_stood
