use Rattle.feed_links.proofs.memory_link.MemoryLink.count.Goals as goal

pub returns : goal.returns
returns g c = (c.in_ok-receiver.field-0.now, c.in_ok-receiver.ensures, c.count.ensures)
