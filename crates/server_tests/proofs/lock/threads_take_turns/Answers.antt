use Rattle.std.proofs.Common.{[], ◌∷◌, refl, false}
use Rattle.news_types.specs.declared.entry.Act.TheVariants.{Halt}
use Rattle.news_types.specs.declared.entry.Entry.{Entry}
use Rattle.news_types.specs.Books.{Book}
use Rattle.server_tests.proofs.lock.threads_take_turns.Goals as goal

entry : Entry
entry = record { moment = 0; act = Halt }

abbrev five : Book
five = record { store = []; told = false; list = entry ∷ entry ∷ entry ∷ entry ∷ entry ∷ [] }

pub new-requires : goal.new-requires
new-requires g c = record { stands = (five, refl) }
