-- Lists with a correction and a kill.
use Rattle.std.specs.Prelude.{false, [], ◌∷◌, codes, true, Some, None, List}
use Rattle.news_types.specs.declared.command.Command.{Command}
use Rattle.news_types.specs.declared.command.Command.TheVariants.{AddDesk, SetMember, AddCondition, AddFilter, AddProduct, AddSubscriber, SetSubscriber, Create, Flash, Lock, Publish, Correct, Kill, Deschedule}
use Rattle.news_types.specs.declared.words.Format.TheVariants.{Ninjs}
use Rattle.news_types.specs.declared.words.Field.TheVariants.{Urgency}
use Rattle.news_types.specs.declared.words.Op.TheVariants.{Eq}
use Rattle.news_types.specs.declared.words.How.TheVariants.{Permitting}
use Rattle.news_types.specs.History.{History}
use Rattle.news_types.specs.Users.{admin}
use Rattle.worked_rows.specs.Examples.{city, alpha, beta, gamma, s, every, fire, asked}

abbrev flash_and_kill : List Command
flash_and_kill =
    AddSubscriber alpha Ninjs every 0 ∷
    AddSubscriber beta Ninjs every 0 ∷
    Flash (fire 3) [] ∷
    SetSubscriber beta false every [] None ∷
    AddSubscriber gamma Ninjs every 0 ∷
    Lock 1 s ∷
    Kill 1 s (codes "Wrong.") ∷ []

-- alpha and beta have the flash of item 1; then beta is set inactive, gamma is added, and the item is killed
abbrev pub killed : History
killed = asked 1000 flash_and_kill []

abbrev urgent_product : List Command
urgent_product =
    AddCondition (codes "c1") Urgency Eq (codes "1" ∷ []) ∷
    AddFilter (codes "f1") (record { conditions = codes "c1" ∷ []; filters = [] } ∷ []) ∷
    AddProduct (codes "p1") Permitting (Some (codes "f1")) ∷
    AddSubscriber gamma Ninjs (codes "p1" ∷ []) 0 ∷ []

-- gamma has a product that permits by a filter: urgency 1 alone
abbrev pub urgent_only : History
urgent_only = asked 1000 urgent_product []

-- a flash of urgency 3
abbrev pub flashed : History
flashed = asked 1000 (Flash (fire 3) [] ∷ []) urgent_only

-- corrected with urgency 1
abbrev pub corrected : History
corrected = asked 1000 (Lock 1 s ∷ Correct 1 s (fire 1) ∷ []) flashed

-- item 1 is published for alpha at 2000, and descheduled before
abbrev publish_and_deschedule : List Command
publish_and_deschedule =
    AddDesk city ∷
    SetMember city admin true ∷
    AddSubscriber alpha Ninjs every 0 ∷
    Create city (fire 3) ∷
    Lock 1 s ∷
    Publish 1 s (Some 2000) None [] ∷
    Deschedule 1 ∷ []

-- then alpha is set inactive, and the item is published and corrected
abbrev pub corrected_for_nobody : History
corrected_for_nobody =
    asked 1000 (SetSubscriber alpha false every [] None ∷ Lock 1 s ∷ Publish 1 s None None [] ∷ Lock 1 s ∷ Correct 1 s (fire 1) ∷ [])
    (asked 1000 publish_and_deschedule [])

-- alpha has the flash, and is set inactive before its correction
abbrev pub corrected_for_a_former : History
corrected_for_a_former =
    asked 1000 (AddSubscriber alpha Ninjs every 0 ∷ Flash (fire 3) [] ∷ SetSubscriber alpha false every [] None ∷ Lock 1 s ∷ Correct 1 s (fire 1) ∷ []) []
