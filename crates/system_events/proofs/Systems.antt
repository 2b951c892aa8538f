-- Steps of the newsroom and of receivers, one behind the other, are events of one world.
use Rattle.std.proofs.Common.{◌≡◌, inl, ℕ, List, [], ◌∷◌, ◌++◌, length, None, refl, sym, ap, ◌∙◌, subst}
use Rattle.news_types.specs.Names.{Bytes}
use Rattle.news_types.specs.Frames.{Frame, Writer}
use Rattle.news_types.specs.History.{History}
use Rattle.news_types.proofs.Members.{each_get}
use Rattle.news_types.specs.Receiver.{Receiver}
use Rattle.feed_frames.specs.Writer.{the_writer}
use Rattle.news_io.specs.Clock.{ClockMeaning}
use Rattle.news_io.specs.Disk.{DiskMeaning}
use Rattle.news_io.specs.Link.{LinkMeaning}
use Rattle.news_io.specs.Sink.{SinkMeaning}
use Rattle.news_io.specs.Source.{SourceMeaning}
use Rattle.store_files.specs.Files.{Files, OpenTo}
use Rattle.world_laws.specs.World.{World, Event, Reopens, ReceiverReopens, happens}
use Rattle.world_laws.specs.Headline.{Headline, IsFrame}
use Rattle.world_laws.proofs.Headline.{headline_holds}
use Rattle.receiver_events.specs.Receptions.{WereSent}
use Rattle.program_events.proofs.Stores.{one_history}
use Rattle.program_events.specs.Chains.{world}
use Rattle.system_events.specs.Systems.{Holds, Step, Runs, Receives, FilesAreLeft, FileIsLeft, FollowOneAnother, BothCome, ComesTo, AreOfFeeds, IsPrefix, SystemsAreEvents, FilesHoldFeeds, SentIsOfFeeds}
use Rattle.system_events.proofs.Worlds.{restart, reopens_mine}
use Rattle.system_events.proofs.Newsroom.{world_on, Kept, run_more}
use Rattle.system_events.proofs.Receiving.{holds_gives, take_more, mine_left}

module _ {D S O C L : Type 0} (disk : DiskMeaning D) (clock : ClockMeaning C) (source : SourceMeaning S) (sink : SinkMeaning O) (link : LinkMeaning L) (store : Bytes) (long : length store ≡ 16) where
  abbrev write : Writer
  write = the_writer store

  abbrev Steps : Type 0
  Steps = List (Step disk clock source sink link)

  steps_come : (steps : Steps) → FollowOneAnother disk clock source sink link store steps → (files : Files) → FilesAreLeft disk clock source sink link store steps files
      → (file_of : Bytes → List ℕ) → ((name : Bytes) → FileIsLeft disk clock source sink link steps name (file_of name)) → Kept disk clock source sink link write store steps files file_of
  steps_come [] follow files left file_of each = record {
    events = [];
    of_steps = refl;
    which = None;
    opens = left;
    standing = λ name. (None, inl (inl (each name, refl)));
  }
  steps_come (Runs r ∷ steps) follow files left file_of each =
      run_more disk clock source sink link store long file_of r steps follow.0 (λ others there. steps_come steps follow.2 others there file_of each) files r.crashed refl follow.1 left
  steps_come (Receives r ∷ steps) follow files left file_of each =
      take_more disk clock source sink link store r steps files file_of follow.0 follow.2 left each (λ others there. steps_come steps follow.3 files left others there) r.crashed refl follow.1
      (mine_left disk clock source sink link store r steps files file_of follow.0 follow.2 left each (λ others there. steps_come steps follow.3 files left others there))

  module _ (steps : Steps) (files : Files) (file_of : Bytes → List ℕ) (k : Kept disk clock source sink link write store steps files file_of) where
    abbrev before : List Event
    before = k.events ++ Reopens k.which ∷ []

    both : (name : Bytes) → BothCome write store before files name (file_of name)
    both name =
        let st = k.standing name in
        let w : World = world write before in
        let there : world write (before ++ ReceiverReopens name st.0 ∷ []) ≡ happens write w (ReceiverReopens name st.0) = world_on write before (ReceiverReopens name st.0 ∷ []) in
        let same : w.receivers ≡ (world write k.events).receivers = ap (λ (v : World). v.receivers) (world_on write k.events (Reopens k.which ∷ [])) in
        let mine : (world write (before ++ ReceiverReopens name st.0 ∷ [])).receivers name ≡ restart ((world write k.events).receivers name) st.0 =
        ap (λ (v : World). v.receivers name) there ∙ reopens_mine write w name st.0 ∙ ap (λ (rs : Bytes → Receiver). restart (rs name) st.0) same in
        record {
          which = st.0;
          opens = subst (λ (v : World). OpenTo store files v.server.list) (sym there) k.opens;
          holds = subst (λ (q : Receiver). Holds name (file_of name) q.held) (sym mine) st.1;
          headline = headline_holds write (before ++ ReceiverReopens name st.0 ∷ []);
        }

    comes : ComesTo disk clock source sink link write store steps files file_of
    comes = record { events = k.events; of_steps = k.of_steps; which = k.which; opens = k.opens; each = both }

-- ---- what was sent

-- the headline has it of each
sent_of_feeds : (write : Writer) (w : World) (frames : List Frame) → Headline write w → WereSent w.frames frames → AreOfFeeds write w.server.list frames
sent_of_feeds write w [] holds sent = tt
sent_of_feeds write w (f ∷ frames) holds sent = (each_get (IsFrame write w.server.list) w.frames sent.0.0 f holds.frames sent.0.1, sent_of_feeds write w frames holds sent.1)

pub sent_is_of_feeds : SentIsOfFeeds
sent_is_of_feeds write events frames sent = sent_of_feeds write (world write events) frames (headline_holds write events) sent

-- ---- the laws

pub systems_are_events : {D S O C L : Type 0} (disk : DiskMeaning D) (clock : ClockMeaning C) (source : SourceMeaning S) (sink : SinkMeaning O) (link : LinkMeaning L) → SystemsAreEvents disk clock source sink link
systems_are_events disk clock source sink link = λ store long steps follow files left file_of each.
    comes disk clock source sink link store long steps files file_of (steps_come disk clock source sink link store long steps follow files left file_of each)

pub files_hold_feeds : {D S O C L : Type 0} (disk : DiskMeaning D) (clock : ClockMeaning C) (source : SourceMeaning S) (sink : SinkMeaning O) (link : LinkMeaning L) → FilesHoldFeeds disk clock source sink link
files_hold_feeds disk clock source sink link = λ store long steps follow files left file_of each h opens name frames gives.
    let c = systems_are_events disk clock source sink link store long steps follow files left file_of each in
    let b = c.each name in
    let w : World = world (the_writer store) ((c.events ++ Reopens c.which ∷ []) ++ ReceiverReopens name b.which ∷ []) in
    let held : List Frame = (w.receivers name).held in
    let list_is : w.server.list ≡ h = sym (one_history store store long long files h w.server.list opens b.opens).1 in
    let held_is : held ≡ frames = holds_gives name (file_of name) held frames b.holds gives in
    let there : IsPrefix (the_writer store) w.server.list name held = (b.headline.within name, λ k some within. b.headline.prefix name k some within) in
    subst (λ (l : History). IsPrefix (the_writer store) l name frames) list_is (subst (IsPrefix (the_writer store) w.server.list name) held_is there)
