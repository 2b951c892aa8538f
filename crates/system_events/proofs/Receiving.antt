-- A run of a receiver more, behind any steps: the newsroom stays as it is.
use Rattle.std.specs.Prelude.{true}
use Rattle.std.proofs.Common.{◌≡◌, ◌⊎◌, inl, inr, ℕ, ◌≤◌, List, [], ◌∷◌, ◌++◌, map, Option, Some, None, refl, sym, ap, ◌∙◌, subst, arith, append-nil}
use Rattle.news_types.specs.Names.{Bytes}
use Rattle.news_types.specs.Calls.{IsKept}
use Rattle.news_types.specs.Frames.{Frame, Writer}
use Rattle.news_types.specs.History.{History}
use Rattle.news_types.specs.Receiver.{Receiver}
use Rattle.news_types.specs.Server.{Server}
use Rattle.feed_frames.specs.Writer.{the_writer}
use Rattle.news_io.specs.Clock.{ClockMeaning}
use Rattle.news_io.specs.Disk.{DiskMeaning}
use Rattle.news_io.specs.Link.{LinkMeaning}
use Rattle.news_io.specs.Sink.{SinkMeaning}
use Rattle.news_io.specs.Source.{SourceMeaning}
use Rattle.news_journal.specs.Created.{IsInTheMaking}
use Rattle.news_journal.specs.Damage.{misfit, header_damage, damage}
use Rattle.news_journal.specs.Log.{Holding}
use Rattle.news_journal.specs.Opened.{Still}
use Rattle.news_journal.specs.Stands.{disk_of, head_of}
use Rattle.news_journal.specs.declared.header.Header.TheVariants as header
use Rattle.receiver_files.specs.Log.{Gives, Opens}
use Rattle.receiver_files.specs.LogLeft.{InDoubt}
use Rattle.receiver_files.specs.Opening.{MayBe, MayBeMade, IsUnmade}
use Rattle.receiver_files.specs.Receive.{NotBegun}
use Rattle.store_files.specs.Files.{Files, OpenTo}
use Rattle.world_laws.specs.World.{World, Event, Reopens, ReceiverReopens, happens, run}
use Rattle.receiver_events.specs.Receptions.{WereSent, OnlyReceives, ReceptionHappened, fate_at}
use Rattle.receiver_events.specs.Reopenings.{ReopensTo, ReopensBehind}
use Rattle.receiver_events.proofs.Frames.{same_frames}
use Rattle.receiver_events.proofs.Receiving.{receptions_are_events}
use Rattle.receiver_events.proofs.Reopening.{reopenings_are_events}
use Rattle.program_events.specs.Chains.{world}
use Rattle.program_events.proofs.Turns.{run_on}
use Rattle.system_events.specs.Systems.{sendings, IsHalfMade, Holds, Reception, TheDid, Took, LeftByReception, MayBreakOff, IsFileLeft, answered, begun, came, beginning, AreOfReception, Step, Receives, FilesAreLeft, FileIsLeft, ComesFromNewsroom}
use Rattle.system_events.proofs.Worlds.{AllOf, all_then, all_first, OfReceiver, own_only, comings_own, begun_own, Sent, sends, restart, reopens_mine, reopens_theirs, Standing}
use Rattle.system_events.proofs.Newsroom.{world_on, Kept}

-- ---- a file that holds nothing

nothing_damaged : damage [] ≡ Some (0, None)
unfolding damage header_damage misfit
nothing_damaged = refl

no_opens : (name file : List ℕ) (frames : List Frame) → file ≡ [] → Opens file name frames → ⊥
no_opens name file frames none o = absurd (cc (ap damage (sym none) ∙ o.log_is.whole, nothing_damaged))

-- a log in the making gives no frame, or is half made
making_holds : (name file : List ℕ) (frames : List Frame) → IsInTheMaking (header.Receiver name) file → frames ≡ [] → Holds name file frames
making_holds name file frames (inl none) is = inl (inl (none, is))
making_holds name [] frames (inr (inl bad)) is = inl (inl (refl, is))
making_holds name (b ∷ file) frames (inr (inl bad)) is = inr ((λ none. cc none, bad), is)
making_holds name file frames (inr (inr log)) is = subst (Holds name file) (sym is) (inl (inr (record { records = []; log_is = log.0; order = tt; are = refl })))

-- what is half made gives none
half_gives : (name file : List ℕ) (frames : List Frame) → IsHalfMade file → Gives name file frames → ⊥
half_gives name file frames half (inl none) = half.0 none.0
half_gives name file frames half (inr o) = cc (o.log_is.whole, half.1.1)

-- an empty file holds no frame
empty_holds : (name file : List ℕ) (frames : List Frame) → file ≡ [] → Holds name file frames → frames ≡ []
empty_holds name file frames none (inl (inl e)) = e.1
empty_holds name file frames none (inl (inr o)) = absurd (no_opens name file frames none o)
empty_holds name file frames none (inr m) = m.1

-- what it holds is what it gives
pub holds_gives : (name file : List ℕ) (held frames : List Frame) → Holds name file held → Gives name file frames → held ≡ frames
holds_gives name file held frames holds (inl none) = empty_holds name file held none.0 holds ∙ sym none.1
holds_gives name file held frames (inl (inl none)) (inr opens) = absurd (no_opens name file frames none.0 opens)
holds_gives name file held frames (inl (inr o)) (inr opens) =
    let records : o.records ≡ opens.records = inside (sym o.log_is.reads ∙ opens.log_is.reads) in
    same_frames name 1 held frames o.order opens.order (sym o.are ∙ ap (map (λ (r : ℕ × Bytes). r.1)) records ∙ opens.are)
  where
    inside : {x y : List (ℕ × Bytes)} → Holding x ≡ Holding y → x ≡ y
    inside is = cc
holds_gives name file held frames (inr half) (inr opens) = absurd (half_gives name file frames half.0 (inr opens))

module _ {D S O C L : Type 0} (disk : DiskMeaning D) (clock : ClockMeaning C) (source : SourceMeaning S) (sink : SinkMeaning O) (link : LinkMeaning L) (store : Bytes) where
  abbrev write : Writer
  write = the_writer store

  abbrev Steps : Type 0
  Steps = List (Step disk clock source sink link)

  abbrev Comes : Steps → Files → (Bytes → List ℕ) → Type 0
  Comes steps files file_of = Kept disk clock source sink link write store steps files file_of

  abbrev Left : Steps → Bytes → List ℕ → Type 0
  Left steps name file = FileIsLeft disk clock source sink link steps name file

  -- ---- the run of a receiver

  module _ (r : Reception disk source sink) (steps : Steps) (files : Files) (file_of : Bytes → List ℕ)
      (begins : (file : List ℕ) → disk.may_leave r.log file → Left steps r.name file)
      (comes_from : ComesFromNewsroom disk clock source sink link store steps r r.did)
      (files_left : FilesAreLeft disk clock source sink link store steps files)
      (each_left : (name : Bytes) → Left (Receives r ∷ steps) name (file_of name))
      (before : (others : Bytes → List ℕ) → ((name : Bytes) → Left steps name (others name)) → Comes steps files others) where
    abbrev Alike : Bytes → Type 0
    Alike name = ((r.name ≡ name) × IsFileLeft disk source sink r r.crashed (file_of name)) ⊎ ((r.name ≡ name → ⊥) × Left steps name (file_of name))

    -- the files with this one in the place of the run's
    abbrev by_name : List ℕ → (name : Bytes) → Alike name → List ℕ
    by_name file name (inl mine) = file
    by_name file name (inr other) = file_of name

    by_name_left : (file : List ℕ) → Left steps r.name file → (name : Bytes) (a : Alike name) → Left steps name (by_name file name a)
    by_name_left file there name (inl mine) = subst (λ (s : Bytes). Left steps s file) mine.0 there
    by_name_left file there name (inr other) = other.1

    -- the steps before come to any file with which the run may have begun
    come : (file : List ℕ) → Left steps r.name file → Comes steps files (λ name. by_name file name (each_left name))
    come file there = before (λ name. by_name file name (each_left name)) (λ name. by_name_left file there name (each_left name))

    standing_mine : (file : List ℕ) (v : Receiver) (a : Alike r.name) → Standing v r.name (by_name file r.name a) → Standing v r.name file
    standing_mine file v (inl mine) st = st
    standing_mine file v (inr other) st = absurd (other.0 refl)

    -- the run's file is left as one that stood there before, or as one of which the same can be said
    not_begun : ((before these : List Event) → these ≡ before → AreOfReception disk source sink write before r r.did these) → (file : List ℕ) → Left steps r.name file
        → ((v : Receiver) → Standing v r.name file → Standing v r.name (file_of r.name)) → Comes (Receives r ∷ steps) files file_of
    not_begun no_event file there likewise =
        let c = come file there in
        record {
          events = c.events;
          of_steps = (c.events, c.of_steps, no_event c.events c.events refl);
          which = c.which;
          opens = c.opens;
          standing = λ name. by c name (each_left name) (c.standing name);
        }
      where
        by : (c : Comes steps files (λ name. by_name file name (each_left name))) (name : Bytes) (a : Alike name) → Standing ((world write c.events).receivers name) name (by_name file name a) → Standing ((world write c.events).receivers name) name (file_of name)
        by c name (inl mine) st =
            subst (λ (s : Bytes). Standing ((world write c.events).receivers s) s file → Standing ((world write c.events).receivers s) s (file_of s)) mine.0 (λ x. likewise ((world write c.events).receivers r.name) x) st
        by c name (inr other) st = st

    -- so it is where a crash came while the file was opened, or it could not be made a log
    made : ((before these : List Event) → these ≡ before → AreOfReception disk source sink write before r r.did these) → MayBeMade disk r.name r.log (file_of r.name) → Comes (Receives r ∷ steps) files file_of
    made no_event (inl may) = not_begun no_event (file_of r.name) (begins (file_of r.name) may) (λ v st. st)
    made no_event (inr making) =
        not_begun no_event (disk.seen r.log) (begins (disk.seen r.log) (disk.leaves_seen r.log r.tells))
        (λ v st. (st.0, making_holds r.name (file_of r.name) (restart v st.0).held making.1 (empty_holds r.name (disk.seen r.log) (restart v st.0).held making.0 st.1)))

    is_of : (d : TheDid disk source sink r) → r.did ≡ d → (before these : List Event) → AreOfReception disk source sink write before r d these → AreOfReception disk source sink write before r r.did these
    is_of d is before these x = subst (λ (d : TheDid disk source sink r). AreOfReception disk source sink write before r d these) (sym is) x

    pub mine_left : IsFileLeft disk source sink r r.crashed (file_of r.name)
    mine_left = by (each_left r.name)
      where
        by : Alike r.name → IsFileLeft disk source sink r r.crashed (file_of r.name)
        by (inl mine) = mine.1
        by (inr other) = absurd (other.0 refl)

    -- ---- a run that took frames

    module _ (did : Took disk source sink r) (is : r.did ≡ inr did) where
      c : Comes steps files (λ name. by_name (disk.seen r.log) name (each_left name))
      c = come (disk.seen r.log) (begins (disk.seen r.log) (disk.leaves_seen r.log r.tells))

      st : Standing ((world write c.events).receivers r.name) r.name (disk.seen r.log)
      st = standing_mine (disk.seen r.log) ((world write c.events).receivers r.name) (each_left r.name) (c.standing r.name)

      abbrev frames : List Frame
      frames = came disk source sink r did

      abbrev start : List Event
      start = beginning disk source sink r did c.events c.which st.0

      abbrev opened : World
      opened = happens write (world write c.events) (Reopens c.which)

      abbrev sending : World
      sending = run write (sendings frames) opened

      abbrev v : World
      v = world write start

      v_is : v ≡ happens write sending (ReceiverReopens r.name st.0)
      v_is = world_on write c.events (Reopens c.which ∷ (sendings frames ++ ReceiverReopens r.name st.0 ∷ [])) ∙ run_on write (sendings frames) (ReceiverReopens r.name st.0 ∷ []) opened

      opens : OpenTo store files opened.server.list
      opens = subst (λ (u : World). OpenTo store files u.server.list) (world_on write c.events (Reopens c.which ∷ [])) c.opens

      sent : Sent opened sending frames
      sent = sends write frames opened (subst (ComesFromNewsroom disk clock source sink link store steps r) is comes_from files opened.server.list files_left opens)

      server_is : v.server ≡ opened.server
      server_is = ap (λ (u : World). u.server) v_is ∙ sent.server

      mine_is : v.receivers r.name ≡ restart ((world write c.events).receivers r.name) st.0
      mine_is = ap (λ (u : World). u.receivers r.name) v_is ∙ reopens_mine write sending r.name st.0 ∙ ap (λ (rs : Bytes → Receiver). restart (rs r.name) st.0) sent.receivers

      theirs_are : (name : Bytes) → (r.name ≡ name → ⊥) → v.receivers name ≡ (world write c.events).receivers name
      theirs_are name differ = ap (λ (u : World). u.receivers name) v_is ∙ reopens_theirs write sending r.name st.0 name differ ∙ ap (λ (rs : Bytes → Receiver). rs name) sent.receivers

      held_is : (v.receivers r.name).held ≡ did.opened.frames
      held_is = ap (λ (x : Receiver). x.held) mine_is ∙ holds_gives r.name (disk.seen r.log) (restart ((world write c.events).receivers r.name) st.0).held did.opened.frames st.1 (did.opened.gives r.tells)

      were_sent : WereSent v.frames frames
      were_sent = subst (λ (u : World). WereSent u.frames frames) (sym v_is) sent.sent

      -- its events, and what they leave of the file

      abbrev Happened : List Event → Type 0
      Happened events =
          let t = did.ran true (λ is. r.tells) in
          ReceptionHappened sink write v r.name r.output t.mid (answered disk source sink r did) (begun disk source sink r did) (fate_at t.result) (did.left r.tells).frames (InDoubt disk did.after) events

      took : (events : List Event) × Happened events
      took = receptions_are_events disk source sink r.name r.log r.log' r.input r.input' r.output r.output' r.status (inr did) r.tells write v held_is were_sent

      own : AllOf (OfReceiver r.name) took.0
      own = subst (AllOf (OfReceiver r.name)) (sym took.1.events_are)
          (all_then (OfReceiver r.name) took.1.whole took.1.last
          (comings_own v.frames r.name IsKept (answered disk source sink r did) took.1.whole took.1.comings)
          (begun_own v.frames r.name (fate_at (did.ran true (λ is. r.tells)).result) (begun disk source sink r did) took.1.last took.1.next))

      abbrev head : List ℕ
      head = head_of did.after.keeper

      -- the first of its events, where a crash has undone the rest
      first_came : (front rest : List Event) → took.0 ≡ front ++ rest → (r.crashed ≡ None → rest ≡ []) → ReopensTo write (run write front v) r.name head (file_of r.name) → Comes (Receives r ∷ steps) files file_of
      first_came front rest all whole re = record {
        events = start ++ front;
        of_steps = (
          c.events,
          c.of_steps,
          is_of (inr did) is c.events (start ++ front) (inr (c.which, st.0, front, refl, record { undone = rest; whole = whole; happened = subst Happened all took.1 })),
        );
        which = None;
        opens = subst (λ (h : History). OpenTo store files h) (sym list_is) opens;
        standing = λ name. by name (each_left name) (c.standing name);
      }
        where
          only : OnlyReceives v (run write front v) r.name
          only = own_only write r.name front v (all_first (OfReceiver r.name) front rest (subst (AllOf (OfReceiver r.name)) all own))

          there : world write (start ++ front) ≡ run write front v
          there = world_on write start front

          list_is : (world write ((start ++ front) ++ Reopens None ∷ [])).server.list ≡ opened.server.list
          list_is = ap (λ (u : World). u.server.list) (world_on write (start ++ front) (Reopens None ∷ [])) ∙ ap (λ (u : World). u.server.list) there ∙ ap (λ (x : Server). x.list) (only.server ∙ server_is)

          again : (restart ((run write front v).receivers r.name) re.which).held ≡ re.held
          again = ap (λ (x : Receiver). x.held) (sym (reopens_mine write (run write front v) r.name re.which) ∙ re.reopened.change.mine)

          mine_stands : Standing ((run write front v).receivers r.name) r.name (file_of r.name)
          mine_stands = (re.which, subst (Holds r.name (file_of r.name)) (sym again) (inl (inr re.opens.opens)))

          by : (name : Bytes) (a : Alike name) → Standing ((world write c.events).receivers name) name (by_name (disk.seen r.log) name a) → Standing ((world write (start ++ front)).receivers name) name (file_of name)
          by name (inl mine) x =
              subst (λ (s : Bytes). Standing ((world write (start ++ front)).receivers s) s (file_of s)) mine.0
              (subst (λ (u : World). Standing (u.receivers r.name) r.name (file_of r.name)) (sym there) mine_stands)
          by name (inr other) x =
              subst (λ (q : Receiver). Standing q name (file_of name)) (sym (ap (λ (u : World). u.receivers name) there ∙ only.others name other.0 ∙ theirs_are name other.0)) x

      found : ((file : List ℕ) → MayBe disk r.log' file → ReopensTo write (run write took.0 v) r.name head file)
          × ((file : List ℕ) → disk.left_since r.log' (disk.moment (disk_of did.receiver.keeper)) file → ReopensBehind write v r.name took.0 head file)
      found = reopenings_are_events disk source sink r.name r.log r.log' r.input r.input' r.output r.output' r.status (inr did) r.tells write v took.0 held_is took.1.lead took.1.doubt

      took_all : disk.may_leave r.log' (file_of r.name) → Comes (Receives r ∷ steps) files file_of
      took_all may = first_came took.0 [] (sym (append-nil took.0)) (λ none. refl) (found.0 (file_of r.name) (inr may))

      broke_off : (r.crashed ≡ None → ⊥) → LeftByReception disk source sink r (inr did) (file_of r.name) → Comes (Receives r ∷ steps) files file_of
      broke_off crash (inl opening) = made (λ earlier these same. is_of (inr did) is earlier these (inl (crash, same))) ((did.opened.crash r.tells).each (file_of r.name) opening)
      broke_off crash (inr since) =
          let b = found.1 (file_of r.name) since in
          first_came b.front b.rest b.events_are (λ none. absurd (crash none)) b.reopens

    -- ---- a run that was refused

    refused : (n : NotBegun disk source sink r.name r.log r.log' r.input r.input' r.output r.output' r.status) → r.did ≡ inl n → disk.left_since r.log' (disk.moment r.log) (file_of r.name) → Comes (Receives r ∷ steps) files file_of
    refused n is since = made (λ earlier these same. is_of (inl n) is earlier these same) (by (n.refused.left r.tells))
      where
        by : Still disk r.log r.log' ⊎ IsUnmade disk r.name r.log r.log' n.why → MayBeMade disk r.name r.log (file_of r.name)
        by (inl still) = elim (still.time.nothing_else (disk.moment r.log) (file_of r.name) (omega arith) since) [
          | inl was ↦ inl (disk.only_now r.log (file_of r.name) was)
          | inr may ↦ inl may
        ]
        by (inr unmade) = unmade.crash.each (file_of r.name) since

    refused_time : (n : NotBegun disk source sink r.name r.log r.log' r.input r.input' r.output r.output' r.status) → disk.moment r.log ≤ disk.moment r.log'
    refused_time n = by (n.refused.left r.tells)
      where
        by : Still disk r.log r.log' ⊎ IsUnmade disk r.name r.log r.log' n.why → disk.moment r.log ≤ disk.moment r.log'
        by (inl still) = still.time.later
        by (inr unmade) = unmade.crash.later

    -- ---- by what the run did

    left_now : (d : TheDid disk source sink r) → r.did ≡ d → disk.may_leave r.log' (file_of r.name) → Comes (Receives r ∷ steps) files file_of
    left_now (inl n) is may = refused n is (disk.counts_now r.log' (disk.moment r.log) (file_of r.name) (refused_time n) may)
    left_now (inr did) is may = took_all did is may

    left_then : (d : TheDid disk source sink r) → r.did ≡ d → (r.crashed ≡ None → ⊥) → LeftByReception disk source sink r d (file_of r.name) → Comes (Receives r ∷ steps) files file_of
    left_then (inl n) is crash may = refused n is may
    left_then (inr did) is crash may = broke_off did is crash may

    pub take_more : (crashed : Option (List ℕ)) → r.crashed ≡ crashed → MayBreakOff disk source sink r crashed → IsFileLeft disk source sink r crashed (file_of r.name) → Comes (Receives r ∷ steps) files file_of
    take_more None is may left = left_now r.did refl left
    take_more (Some file) is may left = left_then r.did refl (λ none. cc (sym is ∙ none)) (subst (LeftByReception disk source sink r r.did) (sym left) may)
