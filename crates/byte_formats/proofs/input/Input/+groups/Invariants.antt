use Rattle.byte_formats.proofs.input.Input.+groups.Given as goal

abbrev pub decreases-groups : goal.decreases-groups
decreases-groups l = l.most
