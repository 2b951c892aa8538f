-- Lists whose publications wait for their release.
use Rattle.std.specs.Prelude.{true, [], ◌∷◌, Some, None, List}
use Rattle.news_types.specs.declared.command.Command.{Command}
use Rattle.news_types.specs.declared.command.Command.TheVariants.{AddDesk, SetMember, AddSubscriber, Create, Lock, Publish, Deschedule}
use Rattle.news_types.specs.declared.words.Format.TheVariants.{Ninjs}
use Rattle.news_types.specs.History.{History}
use Rattle.news_types.specs.Users.{admin}
use Rattle.worked_rows.specs.Examples.{city, alpha, s, every, fire, asked}

abbrev making_two_items : List Command
making_two_items =
    AddDesk city ∷
    SetMember city admin true ∷
    AddSubscriber alpha Ninjs every 0 ∷
    Create city (fire 3) ∷
    Create city (fire 3) ∷
    Lock 1 s ∷
    Lock 2 s ∷ []

-- desk city with its member admin, subscriber alpha, and items 1 and 2, made on the desk and locked at 1000
abbrev pub two_items : History
two_items = asked 1000 making_two_items []

-- item 1 is published at 1000 with an embargo until 2000
abbrev pub first_embargoed : History
first_embargoed = asked 1000 (Publish 1 s None (Some 2000) [] ∷ []) two_items

-- and then item 2 without a time
abbrev pub one_embargoed : History
one_embargoed = asked 1000 (Publish 2 s None None [] ∷ []) first_embargoed

-- both are published with an embargo until 2000
abbrev pub both_embargoed : History
both_embargoed = asked 1000 (Publish 1 s None (Some 2000) [] ∷ Publish 2 s None (Some 2000) [] ∷ []) two_items

-- both are published, item 1 with a schedule at 2000
abbrev pub one_scheduled : History
one_scheduled = asked 1000 (Publish 1 s (Some 2000) None [] ∷ Publish 2 s None None [] ∷ []) two_items

-- and descheduled at 1999
abbrev pub descheduled : History
descheduled = asked 1999 (Deschedule 1 ∷ []) one_scheduled

-- item 1 is embargoed, and locked again
abbrev pub locked_again : History
locked_again = asked 1000 (Lock 1 s ∷ []) one_embargoed
