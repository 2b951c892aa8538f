-- Changes of items, publications and feeds.
use Rattle.std.specs.Prelude.{◌≡◌, ℕ, Bool, true, false, ◌∷◌}
use Rattle.news_types.specs.declared.entry.Act.{Act}
use Rattle.news_types.specs.declared.command.Command.{Command}
use Rattle.news_types.specs.declared.command.Command.TheVariants as command
use Rattle.news_types.specs.Names.{is_in}
use Rattle.news_types.specs.History.{History}
use Rattle.news_types.specs.Products.{subscribers}
use Rattle.news_types.specs.Publications.{made, pubs, standing}
use Rattle.news_types.specs.Outcome.{reply_to, entry_of}
use Rattle.item_table.specs.Steps.{HasRoom as HasItemRoom, IsFor as IsForItems}
use Rattle.publications.specs.Steps.{HasRoom as HasPublicationRoom, IsFor as IsForPublications}
use Rattle.story_tables.specs.Feeds.{HasFeedRoom, FeedsFor}
use Rattle.story_tables.specs.declared.parts.Parts.{Parts}
use Rattle.story_tables.specs.declared.stories.Stories.{Stories}

-- the memory for the change is there
pub record HasRoom (t : Stories) (c : Parts) : Type 0 where
  pub items : HasItemRoom t.items c.items
  pub publications : HasPublicationRoom t.publications c.publications
  pub feeds : HasFeedRoom t.queue c.moment c.feeds

-- the change is that of the act at the moment, behind the list
pub record IsFor (c : Parts) (m : ℕ) (act : Act) (h : History) : Type 0 where
  pub at : c.moment ≡ m
  pub reply : c.reply ≡ reply_to h m act
  pub items : IsForItems c.items ((made h).items) ((made (entry_of m act ∷ h)).items)
  pub publications : IsForPublications c.publications (pubs h) (standing h) (pubs (entry_of m act ∷ h)) (standing (entry_of m act ∷ h))
  pub feeds : FeedsFor c.feeds h (entry_of m act ∷ h)

-- the command publishes and withdraws nothing
abbrev pub is_silent : Command → Bool
is_silent (command.Flash story targets) = false
is_silent (command.Publish i session schedule embargo targets) = false
is_silent (command.Correct i session story) = false
is_silent (command.Kill i session note) = false
is_silent (command.Recall i session note) = false
is_silent (command.Deschedule i) = false
is_silent _ = true

-- a subscriber that the command adds is not there yet, and one whose feed it resumes is
abbrev pub Allows : Command → History → Type 0
Allows (command.AddSubscriber subscriber format products lag) h = is_in subscriber (subscribers h) ≡ false
Allows (command.Resume subscriber) h = is_in subscriber (subscribers h) ≡ true
Allows _ h = Unit {0}
