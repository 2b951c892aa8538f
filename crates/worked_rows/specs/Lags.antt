-- Lists in which a subscriber gets what is published later.
use Rattle.std.specs.Prelude.{true, [], ◌∷◌, codes, Some, None}
use Rattle.news_types.specs.declared.command.Command.TheVariants.{AddSubscriber, SetSubscriber, Flash, Lock, Correct, Kill}
use Rattle.news_types.specs.declared.words.Format.TheVariants.{Ninjs}
use Rattle.news_types.specs.History.{History}
use Rattle.worked_rows.specs.Examples.{alpha, beta, s, every, fire, asked}

-- alpha gets everything at once, and beta ten minutes later; item 1 is flashed at 1000, and locked at 1200
abbrev pub flashed_late : History
flashed_late =
    asked 1200 (Lock 1 s ∷ [])
    (asked 1000 (AddSubscriber alpha Ninjs every 0 ∷ AddSubscriber beta Ninjs every 600 ∷ Flash (fire 3) [] ∷ []) [])

-- killed before beta had it
abbrev pub killed_early : History
killed_early = asked 1300 (Kill 1 s (codes "Wrong.") ∷ []) flashed_late

-- killed at the moment at which beta gets it
abbrev pub killed_late : History
killed_late = asked 1600 (Kill 1 s (codes "Wrong.") ∷ []) flashed_late

-- corrected before beta had it
abbrev pub corrected_early : History
corrected_early = asked 1300 (Correct 1 s (fire 1) ∷ []) flashed_late

-- beta is to get everything at once from 1400 on, and the item is corrected at 1500
abbrev pub lag_ended : History
lag_ended = asked 1500 (Correct 1 s (fire 1) ∷ []) (asked 1400 (SetSubscriber beta true every [] (Some 0) ∷ []) flashed_late)

-- beta is set otherwise without a word on its lag, and another story is flashed at 1500
abbrev pub lag_kept : History
lag_kept = asked 1500 (Flash (fire 3) [] ∷ []) (asked 1400 (SetSubscriber beta true every [] None ∷ []) flashed_late)
