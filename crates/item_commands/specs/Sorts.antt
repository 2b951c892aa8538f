-- What sorts of commands there are.
use Rattle.news_types.specs.declared.command.Command.{Command}
use Rattle.news_types.specs.declared.command.Command.TheVariants as command
use Rattle.item_commands.specs.declared.sort.Sort.{Sort}
use Rattle.item_commands.specs.declared.sort.Sort.TheVariants.{Desks, Filters, Products, Sources, Resumes, Stops, Makes, Works, Flashes, Publishes, Follows, Withdraws}

abbrev pub sort_of : Command → Sort
sort_of (command.AddUser user privileges) = Desks
sort_of (command.SetUser user privileges) = Desks
sort_of (command.AddDesk desk) = Desks
sort_of (command.AddStage desk stage) = Desks
sort_of (command.SetMember desk user member) = Desks
sort_of (command.AddCondition name field op values) = Filters
sort_of (command.AddFilter filter statements) = Filters
sort_of (command.SetFilter filter statements) = Filters
sort_of (command.SetBlock filter on) = Filters
sort_of (command.AddProduct product how filter) = Products
sort_of (command.SetProduct product how filter) = Products
sort_of (command.AddSubscriber subscriber format products lag) = Products
sort_of (command.SetSubscriber subscriber active products off lag) = Products
sort_of (command.AddScheme name rules) = Sources
sort_of (command.AddProvider name given) = Sources
sort_of (command.Resume subscriber) = Resumes
sort_of command.Stop = Stops
sort_of (command.Create desk story) = Makes
sort_of (command.Lock i session) = Works
sort_of (command.Unlock i session) = Works
sort_of (command.BreakLock i) = Works
sort_of (command.Edit i session story) = Works
sort_of (command.MoveTo i desk stage) = Works
sort_of (command.Spike i) = Works
sort_of (command.Unspike i desk) = Works
sort_of (command.Fetch i desk) = Works
sort_of (command.Flash story targets) = Flashes
sort_of (command.Publish i session schedule embargo targets) = Publishes
sort_of (command.Correct i session story) = Follows
sort_of (command.Kill i session note) = Follows
sort_of (command.Recall i session note) = Follows
sort_of (command.Deschedule i) = Withdraws
