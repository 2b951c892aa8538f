use Rattle.std.proofs.Common.{◌∙◌, List, sym, ap}
use Rattle.archive_query.specs.View.{query_of}
use Rattle.archive_query.specs.Reading.{Opened, AJoint}
use Rattle.archive_query.specs.Readers.{levels_of, waits_of}
use Rattle.archive_query.proofs.Leads.{at}
use Rattle.archive_query.proofs.Joining.{put_still}
use Rattle.archive_query.proofs.reader.Reader.put.Goals as goal

pub returns : goal.returns
returns c =
    let still = c.loop-ask-test.ensures.taken in
    let waits = waits_of c.loop-ask.self.chain in
    let q = query_of c.loop-ask.ask in
    ap (λ (levels : List Opened). at levels waits (AJoint q)) still.0 ∙ (sym (put_still (levels_of c.loop-ask.self.levels.items) waits q still.1) ∙ c.loop-ask.invariant)
