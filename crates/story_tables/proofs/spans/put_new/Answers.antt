use Rattle.std.proofs.Common.{◌≡◌, false, sym, ◌∙◌}
use Rattle.std.specs.Prelude.{is_some}
use Rattle.std.specs.HashMap.{get}
use Rattle.news_types.specs.Names.{same}
use Rattle.story_tables.proofs.Spanned.{put_there}
use Rattle.story_tables.proofs.spans.put_new.Goals as goal

pub returns-in_ok-insert : goal.returns-in_ok-insert
returns-in_ok-insert c s =
    let gone : is_some (get same c.args.releases.now c.args.one.now.subscriber) ≡ false = sym c.contains_key.ensures ∙ c.if-not-contains_key.true in
    c.in_ok-insert.ensures.updates.0 s ∙ put_there (get same c.args.releases.now) c.args.one.now gone s
