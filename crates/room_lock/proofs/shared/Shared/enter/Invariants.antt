use Rattle.room_lock.proofs.shared.Shared.enter.Given as goal

abbrev pub ghosts-look : goal.ghosts-look
ghosts-look g a = record { books = g.T.StandsFor.stands a.self.now.table.shared.key.value }
