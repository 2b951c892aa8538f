use Rattle.news_types.proofs.Standing.{stands_as_said}
use Rattle.world_laws.proofs.ItemFacts as made
use Rattle.world_laws.proofs.Published.{each_was_published, publications_show_items, publishing_acts_publish}
use Rattle.world_laws.proofs.Reached.{due_to_those_reached}
use Rattle.world_laws.proofs.Left.{stands_for_those_left}
use Rattle.world_laws.proofs.facts_law.Goals as goal

pub returns-clause-items : goal.returns-clause-items
returns-clause-items c = made.items_are_counted

pub returns-clause-versions : goal.returns-clause-versions
returns-clause-versions c = made.versions_are_counted

pub returns-clause-stories : goal.returns-clause-stories
returns-clause-stories c = made.stories_are_newest

pub returns-clause-published : goal.returns-clause-published
returns-clause-published c = each_was_published

pub returns-clause-shown : goal.returns-clause-shown
returns-clause-shown c = publications_show_items

pub returns-clause-due : goal.returns-clause-due
returns-clause-due c = due_to_those_reached

pub returns-clause-stands : goal.returns-clause-stands
returns-clause-stands c = stands_as_said

pub returns-clause-left : goal.returns-clause-left
returns-clause-left c = stands_for_those_left

pub returns-clause-publish : goal.returns-clause-publish
returns-clause-publish c = publishing_acts_publish
