use Rattle.std.proofs.Common.{ap, sym, ◌∙◌}
use Rattle.news_types.specs.declared.query.Answer.TheVariants as told
use mathlib.Core.Bool.{true≢false}
use Rattle.newsroom.specs.Asking.{asks_frame}
use Rattle.newsroom.proofs.newsroom.Newsroom.ask_plain.Goals as goal

pub returns-in-Item : goal.returns-in-Item
returns-in-Item c = rw c.in-Item.is c.ask_item.ensures

pub returns-in-May : goal.returns-in-May
returns-in-May c h frame stands = rw c.in-May.is (ap told.May (c.holds.ensures h stands.rules))

pub returns-in-Check : goal.returns-in-Check
returns-in-Check c h frame stands = rw c.in-Check.is (c.ask_check.ensures h frame stands)

pub returns-in-Feed : goal.returns-in-Feed
returns-in-Feed c = rw c.in-Feed.is c.ask_feed.ensures

pub returns-in-Queue : goal.returns-in-Queue
returns-in-Queue c = rw c.in-Queue.is c.ask_queue.ensures

pub returns-in-Publication : goal.returns-in-Publication
returns-in-Publication c = rw c.in-Publication.is c.ask_publication.ensures

pub returns-in-LastOf : goal.returns-in-LastOf
returns-in-LastOf c h frame stands = rw c.in-LastOf.is (c.ask_last.ensures h frame stands)

pub unreachable-requires : goal.unreachable-requires
unreachable-requires c = true≢false (sym (ap asks_frame c.in-Frame.is) ∙ c.requires.plain)
