-- Each request is read back.
use Rattle.std.specs.Prelude.{ℕ, ◌^◌, ◌<◌}
use Rattle.news_types.specs.declared.command.Command.{Command}
use Rattle.news_types.specs.declared.command.Command.TheVariants.{AddUser, SetUser, AddDesk, AddStage, SetMember, AddCondition, AddFilter, SetFilter, SetBlock, AddProduct, SetProduct, AddSubscriber, SetSubscriber, Resume, AddScheme, AddProvider, Create, Flash, Lock, Unlock, BreakLock, Edit, MoveTo, Spike, Unspike, Fetch, Publish, Correct, Kill, Recall, Deschedule, Stop}
use Rattle.news_types.specs.Names.{Bytes}
use Rattle.news_types.specs.FitsCommands.{FitsCommand}
use Rattle.byte_formats.specs.Spelling.{IsName}
use Rattle.entry_codec.specs.Formed.{IsFormedCommand}
use Rattle.told_entries.proofs.Asking.{IsAsked}
use Rattle.told_entries.proofs.AskingDesk.{add_user, set_user, add_desk, add_stage, set_member, add_condition, add_filter, set_filter, set_block}
use Rattle.told_entries.proofs.AskingFeed.{add_product, set_product, add_subscriber, set_subscriber, resume, add_scheme, add_provider}
use Rattle.told_entries.proofs.AskingDraft.{create, flash, lock, unlock, break_lock, edit, move_to, spike}
use Rattle.told_entries.proofs.AskingRelease.{unspike, fetch, publish, correct, kill, recall, deschedule, stop}

pub request_back : (caller : Bytes) (n : ℕ) (c : Command) → IsName caller → n < 2 ^ 64 → FitsCommand c → IsFormedCommand c → IsAsked caller n c
request_back caller n (AddUser user privileges) by number fits formed = add_user caller n user privileges by number fits formed
request_back caller n (SetUser user privileges) by number fits formed = set_user caller n user privileges by number fits formed
request_back caller n (AddDesk desk) by number fits formed = add_desk caller n desk by number fits formed
request_back caller n (AddStage desk stage) by number fits formed = add_stage caller n desk stage by number fits formed
request_back caller n (SetMember desk user member) by number fits formed = set_member caller n desk user member by number fits formed
request_back caller n (AddCondition condition field op values) by number fits formed = add_condition caller n condition field op values by number fits formed
request_back caller n (AddFilter filter statements) by number fits formed = add_filter caller n filter statements by number fits formed
request_back caller n (SetFilter filter statements) by number fits formed = set_filter caller n filter statements by number fits formed
request_back caller n (SetBlock filter on) by number fits formed = set_block caller n filter on by number fits formed
request_back caller n (AddProduct product how filter) by number fits formed = add_product caller n product how filter by number fits formed
request_back caller n (SetProduct product how filter) by number fits formed = set_product caller n product how filter by number fits formed
request_back caller n (AddSubscriber subscriber format products lag) by number fits formed = add_subscriber caller n subscriber format products lag by number fits formed
request_back caller n (SetSubscriber subscriber active products off lag) by number fits formed = set_subscriber caller n subscriber active products off lag by number fits formed
request_back caller n (Resume subscriber) by number fits formed = resume caller n subscriber by number fits formed
request_back caller n (AddScheme scheme rules) by number fits formed = add_scheme caller n scheme rules by number fits formed
request_back caller n (AddProvider provider scheme) by number fits formed = add_provider caller n provider scheme by number fits formed
request_back caller n (Create desk told) by number fits formed = create caller n desk told by number fits formed
request_back caller n (Flash told targets) by number fits formed = flash caller n told targets by number fits formed
request_back caller n (Lock i session) by number fits formed = lock caller n i session by number fits formed
request_back caller n (Unlock i session) by number fits formed = unlock caller n i session by number fits formed
request_back caller n (BreakLock i) by number fits formed = break_lock caller n i by number fits formed
request_back caller n (Edit i session told) by number fits formed = edit caller n i session told by number fits formed
request_back caller n (MoveTo i desk stage) by number fits formed = move_to caller n i desk stage by number fits formed
request_back caller n (Spike i) by number fits formed = spike caller n i by number fits formed
request_back caller n (Unspike i desk) by number fits formed = unspike caller n i desk by number fits formed
request_back caller n (Fetch i desk) by number fits formed = fetch caller n i desk by number fits formed
request_back caller n (Publish i session schedule embargo targets) by number fits formed = publish caller n i session schedule embargo targets by number fits formed
request_back caller n (Correct i session told) by number fits formed = correct caller n i session told by number fits formed
request_back caller n (Kill i session note) by number fits formed = kill caller n i session note by number fits formed
request_back caller n (Recall i session note) by number fits formed = recall caller n i session note by number fits formed
request_back caller n (Deschedule i) by number fits formed = deschedule caller n i by number fits formed
request_back caller n Stop by number fits formed = stop caller n by number fits formed
