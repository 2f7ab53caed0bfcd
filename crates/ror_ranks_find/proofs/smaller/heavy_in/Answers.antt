use Rattle.ror_ranks_find.proofs.smaller.heavy_in.Goals as goal

pub returns-in-len1-up : goal.returns-in-len1-up
returns-in-len1-up c = rw (← c.members_of_one-members.ensures) c.heavy_of.ensures
