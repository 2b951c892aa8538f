use Rattle.news_pair.specs.Pair.{side_head}
use Rattle.news_pair.proofs.side_making.side_header.Goals as goal

pub returns : goal.returns
unfolding side_head
returns c = rw (c.copy_from_slice.ensures.after, c.copy_from_slice-2.ensures.after, c.store_bytes.ensures)
