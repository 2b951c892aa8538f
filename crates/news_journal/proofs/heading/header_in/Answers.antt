use Rattle.std.proofs.Common.{◌∙◌}
use Rattle.news_journal.proofs.Forms.{room_is, filled, receiver_is}
use Rattle.news_journal.proofs.heading.header_in.Goals as goal

pub returns-then-bytes-eq-ROOM : goal.returns-then-bytes-eq-ROOM
returns-then-bytes-eq-ROOM c = room_is c.args.bytes.now _ c.requires.form c.requires.size c.if-bytes-eq-ROOM.true (c.from_bytes.ensures ∙ c.copy_from_slice.ensures.after)

pub name_in-requires : goal.name_in-requires
name_in-requires c = filled c.args.bytes.now c.requires.form c.requires.size c.if-bytes-eq-ROOM.false

pub returns : goal.returns
returns c = receiver_is c.args.bytes.now _ c.requires.form c.requires.size c.if-bytes-eq-ROOM.false c.name_in.ensures
