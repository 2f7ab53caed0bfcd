use Rattle.ror_show_pages.proofs.WhatStood.{asked_have_what_stood}
use Rattle.ror_show_pages.proofs.laws.asked_have_what_stood.Goals as goal

pub returns : goal.returns
returns c = asked_have_what_stood
