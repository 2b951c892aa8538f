use Rattle.std.proofs.Common.{◌∙◌}
use Rattle.news_room.proofs.Small.{same_small}
use Rattle.news_room.proofs.Appends.{small_step}
use Rattle.news_room.proofs.Records.{record_of}
use Rattle.news_room.proofs.room.Room.append_small.Goals as goal

pub encode_small-record-requires-clause-small : goal.encode_small-record-requires-clause-small
encode_small-record-requires-clause-small g c = same_small c.args.entry.now.act c.requires.small

pub append-requires-clause-framed : goal.append-requires-clause-framed
append-requires-clause-framed g c = (record_of c.args.entry.now c.as_slice.result.now c.encode_small-record.ensures.entry (c.as_slice.ensures ∙ c.encode_small-record.ensures.bytes)).frame

pub returns-clause-step : goal.returns-clause-step
returns-clause-step g c =
    let t = c.append.ensures in
    small_step g.K.Keeper.keeper c.args.self.now.keeper c.append.new.self c.args.limit c.args.entry.now c.as_slice.result.now c.append.result
    (record_of c.args.entry.now c.as_slice.result.now c.encode_small-record.ensures.entry (c.as_slice.ensures ∙ c.encode_small-record.ensures.bytes)) t.full t.used t.used_err t.count t.label t.told t.kept t.same t.doubts t.crash
