-- The numbers in a reply have 64 bits, as long as the list has fewer entries.
use Rattle.std.specs.Prelude.{◌≡◌, ℕ, suc, ◌+◌, ◌-◌, ◌^◌, ◌<◌, ◌≤◌, Bool, true, false, ◌&&◌, ◌==◌, List, [], ◌∷◌, length, cond, Option, Some, None}
use Rattle.std.proofs.Common.{ap, arith}
use Rattle.news_types.specs.declared.entry.Entry.{Entry}
use Rattle.news_types.specs.declared.entry.Act.{Act}
use Rattle.news_types.specs.declared.entry.Act.TheVariants.{Advance, Attempt, Receipt, Halt, Ingest, Request}
use Rattle.news_types.specs.declared.entry.Reply.{Reply}
use Rattle.news_types.specs.declared.command.Command.{Command}
use Rattle.news_types.specs.declared.command.Command.TheVariants.{AddUser, SetUser, AddDesk, AddStage, SetMember, AddCondition, AddFilter, SetFilter, SetBlock, AddProduct, SetProduct, AddSubscriber, SetSubscriber, Resume, AddScheme, AddProvider, Create, Flash, Lock, Unlock, BreakLock, Edit, MoveTo, Spike, Unspike, Fetch, Publish, Correct, Kill, Recall, Deschedule, Stop}
use Rattle.news_types.specs.declared.words.PubStatus.{PubStatus}
use Rattle.news_types.specs.declared.words.PubStatus.TheVariants.{Usable, Withheld, Canceled}
use Rattle.news_types.specs.declared.story.Incoming.{Incoming}
use Rattle.news_types.specs.declared.rules.Place.{Place}
use Rattle.news_types.specs.declared.rules.RouteAction.{RouteAction}
use Rattle.news_types.specs.Names.{Bytes}
use Rattle.news_types.specs.History.{History}
use Rattle.news_types.specs.Fits.{IsMoment}
use Rattle.news_types.specs.FitsCommands.{FitsCommand, IfGiven}
use Rattle.news_types.specs.Items.{Item, Made, Effect, New, NewAt, Replaces, Cancels, Settled, is_from, known_from, known, is_open, is_newer, effect_on, placed, effect_of_new, effect_by}
use Rattle.news_types.specs.Publications.{Issue, time_of, issued_by, issued_by_command, issued_by_effect, made, effect}
use Rattle.news_types.specs.Outcome.{item_of_command, item_of_effect, item_of, with_issue, reply_to}
use Rattle.news_types.proofs.Bounds.{items_within, pubs_within}
use Rattle.entry_codec.specs.Fits.{FitsAct}
use Rattle.entry_codec.specs.Formed.{IsFormedCommand, IsFormedAct, IsEntry}

pub record IsWholeReply (reply : Reply) : Type 0 where
  pub item : reply.item < 2 ^ 64
  pub publication : reply.publication < 2 ^ 64
  pub release : reply.release < 2 ^ 64

-- ---- items

command_item : (h : History) (c : Command) → length h < 2 ^ 64 - 1 → IsFormedCommand c → item_of_command h c < 2 ^ 64
command_item h (AddUser user privileges) few formed = omega arith
command_item h (SetUser user privileges) few formed = omega arith
command_item h (AddDesk desk) few formed = omega arith
command_item h (AddStage desk stage) few formed = omega arith
command_item h (SetMember desk user member) few formed = omega arith
command_item h (AddCondition condition field op values) few formed = omega arith
command_item h (AddFilter filter statements) few formed = omega arith
command_item h (SetFilter filter statements) few formed = omega arith
command_item h (SetBlock filter on) few formed = omega arith
command_item h (AddProduct product how filter) few formed = omega arith
command_item h (SetProduct product how filter) few formed = omega arith
command_item h (AddSubscriber subscriber format products lag) few formed = omega arith
command_item h (SetSubscriber subscriber active products off lag) few formed = omega arith
command_item h (Resume subscriber) few formed = omega arith
command_item h (AddScheme scheme rules) few formed = omega arith
command_item h (AddProvider provider scheme) few formed = omega arith
command_item h (Create desk told) few formed = omega (arith, items_within h)
command_item h (Flash told targets) few formed = omega (arith, items_within h)
command_item h (Lock i session) few formed = omega (arith, formed.0)
command_item h (Unlock i session) few formed = omega (arith, formed.0)
command_item h (BreakLock i) few formed = omega (arith, formed)
command_item h (Edit i session told) few formed = omega (arith, formed.0)
command_item h (MoveTo i desk stage) few formed = omega (arith, formed.0)
command_item h (Spike i) few formed = omega (arith, formed)
command_item h (Unspike i desk) few formed = omega (arith, formed.0)
command_item h (Fetch i desk) few formed = omega (arith, formed.0)
command_item h (Publish i session schedule embargo targets) few formed = omega (arith, formed.0)
command_item h (Correct i session told) few formed = omega (arith, formed.0)
command_item h (Kill i session note) few formed = omega (arith, formed.0)
command_item h (Recall i session note) few formed = omega (arith, formed.0)
command_item h (Deschedule i) few formed = omega (arith, formed)
command_item h Stop few formed = omega arith

known_few : (n : ℕ) (p i : Bytes) (items : List Item) → known_from (suc n) p i items ≤ n + length items
known_few n p i [] = omega arith
known_few n p i (it ∷ items) =
    elim (is_from p i it.origin) as (λ b. cond b (suc n) (known_from (suc n + 1) p i items) ≤ n + length (it ∷ items)) [
      | true ↦ omega arith
      | false ↦ let next : suc n + 1 ≡ suc (suc n) = omega arith in omega (arith, ap (λ k. known_from k p i items) next, known_few (suc n) p i items)
    ]

-- an effect names an item up to this number
abbrev NamesUpTo : ℕ → Effect → Type 0
NamesUpTo n New = Unit {0}
NamesUpTo n (NewAt place published) = Unit {0}
NamesUpTo n (Replaces i) = i ≤ n
NamesUpTo n (Cancels i) = i ≤ n
NamesUpTo n (Settled i) = i ≤ n

cancels : (n i : ℕ) (it : Item) → i ≤ n → NamesUpTo n (cond (is_open it) (Cancels i) (Settled i))
cancels n i it h = elim (is_open it) as (λ b. NamesUpTo n (cond b (Cancels i) (Settled i))) [ true ↦ h | false ↦ h ]

replaces : (n i : ℕ) (come : Incoming) (it : Item) → i ≤ n → NamesUpTo n (cond (is_open it && is_newer come it) (Replaces i) (Settled i))
replaces n i come it h = elim (is_open it && is_newer come it) as (λ b. NamesUpTo n (cond b (Replaces i) (Settled i))) [ true ↦ h | false ↦ h ]

on_known : (n : ℕ) (status : PubStatus) (come : Incoming) (i : ℕ) (it : Option Item) → i ≤ n → NamesUpTo n (effect_on status come i it)
on_known n Usable come i None h = omega arith
on_known n Withheld come i None h = omega arith
on_known n Canceled come i None h = omega arith
on_known n Usable come i (Some it) h = replaces n i come it h
on_known n Withheld come i (Some it) h = replaces n i come it h
on_known n Canceled come i (Some it) h = cancels n i it h

on_placed : (n : ℕ) (place : Option Place) (published : Bool) → NamesUpTo n (placed place published)
on_placed n None published = tt
on_placed n (Some place) published = tt

on_new : (n : ℕ) (status : PubStatus) (actions : List RouteAction) → NamesUpTo n (effect_of_new status actions)
on_new n Usable actions = on_placed n _ _
on_new n Withheld actions = tt
on_new n Canceled actions = omega arith

either : (n : ℕ) (b : Bool) (x y : Effect) → NamesUpTo n x → NamesUpTo n y → NamesUpTo n (cond b x y)
either n true x y p q = p
either n false x y p q = q

effect_names : (h : History) (name : Bytes) (come : Incoming) (m : ℕ) → NamesUpTo (length h) (effect h name come m)
effect_names h name come m =
    either (length h) (known name come.identity ((made h).items) == 0) _ _ (on_new (length h) come.status _)
    (on_known (length h) come.status come (known name come.identity ((made h).items)) _ (omega (arith, known_few 0 name come.identity ((made h).items), items_within h)))

effect_item : (h : History) (e : Effect) → length h < 2 ^ 64 - 1 → NamesUpTo (length h) e → item_of_effect h e < 2 ^ 64
effect_item h New few names = omega (arith, items_within h)
effect_item h (NewAt place published) few names = omega (arith, items_within h)
effect_item h (Replaces i) few names = omega (arith, names)
effect_item h (Cancels i) few names = omega (arith, names)
effect_item h (Settled i) few names = omega (arith, names)

act_item : (h : History) (m : ℕ) (act : Act) → length h < 2 ^ 64 - 1 → IsFormedAct act → item_of h m act < 2 ^ 64
act_item h m Advance few formed = omega arith
act_item h m (Attempt subscriber k) few formed = omega arith
act_item h m (Receipt subscriber n) few formed = omega arith
act_item h m Halt few formed = omega arith
act_item h m (Ingest name come) few formed = effect_item h (effect h name come m) few (effect_names h name come m)
act_item h m (Request caller number command) few formed = command_item h command few formed.2

-- ---- releases

abbrev ReleasedBefore : Option Issue → Type 0
ReleasedBefore None = Unit {0}
ReleasedBefore (Some issue) = issue.release < 2 ^ 64

time_small : (time : Option ℕ) → IfGiven IsMoment time → time_of time < 2 ^ 64
time_small None h = omega arith
time_small (Some t) h = omega (arith, h)

command_release : (w : Made) (m : ℕ) (caller : Bytes) (c : Command) → IsMoment m → FitsCommand c → ReleasedBefore (issued_by_command w m caller c)
command_release w m caller (AddUser user privileges) now fits = tt
command_release w m caller (SetUser user privileges) now fits = tt
command_release w m caller (AddDesk desk) now fits = tt
command_release w m caller (AddStage desk stage) now fits = tt
command_release w m caller (SetMember desk user member) now fits = tt
command_release w m caller (AddCondition condition field op values) now fits = tt
command_release w m caller (AddFilter filter statements) now fits = tt
command_release w m caller (SetFilter filter statements) now fits = tt
command_release w m caller (SetBlock filter on) now fits = tt
command_release w m caller (AddProduct product how filter) now fits = tt
command_release w m caller (SetProduct product how filter) now fits = tt
command_release w m caller (AddSubscriber subscriber format products lag) now fits = tt
command_release w m caller (SetSubscriber subscriber active products off lag) now fits = tt
command_release w m caller (Resume subscriber) now fits = tt
command_release w m caller (AddScheme scheme rules) now fits = tt
command_release w m caller (AddProvider provider scheme) now fits = tt
command_release w m caller (Create desk told) now fits = tt
command_release w m caller (Flash told targets) now fits = omega (arith, now)
command_release w m caller (Lock i session) now fits = tt
command_release w m caller (Unlock i session) now fits = tt
command_release w m caller (BreakLock i) now fits = tt
command_release w m caller (Edit i session told) now fits = tt
command_release w m caller (MoveTo i desk stage) now fits = tt
command_release w m caller (Spike i) now fits = tt
command_release w m caller (Unspike i desk) now fits = tt
command_release w m caller (Fetch i desk) now fits = tt
command_release w m caller (Publish i session schedule embargo targets) now fits = omega (arith, now, time_small schedule fits.0, time_small embargo fits.1)
command_release w m caller (Correct i session told) now fits = omega (arith, now)
command_release w m caller (Kill i session note) now fits = omega (arith, now)
command_release w m caller (Recall i session note) now fits = omega (arith, now)
command_release w m caller (Deschedule i) now fits = tt
command_release w m caller Stop now fits = tt

effect_release : (w : Made) (m : ℕ) (name : Bytes) (come : Incoming) (e : Effect) → IsMoment m → IsMoment come.embargo → ReleasedBefore (issued_by_effect w m name come e)
effect_release w m name come New now after = tt
effect_release w m name come (NewAt place true) now after = omega (arith, now, after)
effect_release w m name come (NewAt place false) now after = tt
effect_release w m name come (Replaces i) now after = tt
effect_release w m name come (Cancels i) now after = tt
effect_release w m name come (Settled i) now after = tt

act_release : (h : History) (w : Made) (m : ℕ) (act : Act) → IsMoment m → FitsAct act → ReleasedBefore (issued_by h w m act)
act_release h w m Advance now fits = tt
act_release h w m (Attempt subscriber k) now fits = tt
act_release h w m (Receipt subscriber n) now fits = tt
act_release h w m Halt now fits = tt
act_release h w m (Ingest name come) now fits = effect_release w m name come (effect_by h w name come m) now fits.embargo
act_release h w m (Request caller number command) now fits = command_release w m caller command now fits

whole : (h : History) (issue : Option Issue) (i : ℕ) → length h < 2 ^ 64 - 1 → ReleasedBefore issue → i < 2 ^ 64 → IsWholeReply (with_issue issue h i)
whole h None i few released small = record { item = small; publication = omega arith; release = omega arith }
whole h (Some issue) i few released small = record { item = small; publication = omega (arith, pubs_within h); release = released }

pub reply_whole : (h : History) (e : Entry) → length h < 2 ^ 64 - 1 → IsEntry e → IsWholeReply (reply_to h e.moment e.act)
reply_whole h e few is =
    whole h (issued_by h (made h) e.moment e.act) (item_of h e.moment e.act) few (act_release h (made h) e.moment e.act is.fits.moment is.fits.act)
    (act_item h e.moment e.act few is.formed)
