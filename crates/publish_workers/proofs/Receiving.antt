-- The receivers behind a drain over a link in memory.
use Rattle.std.proofs.Common.{◌≡◌, ◌≤◌, false, List, [], ◌∷◌, ◌++◌, length, refl, sym, ap, ◌∙◌, subst, arith}
use Rattle.news_types.specs.declared.entry.Entry.{Entry}
use Rattle.news_types.specs.Names.{Bytes}
use Rattle.news_types.specs.History.{History}
use Rattle.news_types.specs.Books.{Book, onto}
use Rattle.news_types.specs.Delivery.{acked}
use Rattle.news_types.specs.Feeds.{feed}
use Rattle.news_types.proofs.Books.{behind_more}
use Rattle.news_io.specs.Keeper.{KeeperMeaning}
use Rattle.feed_receiver.specs.Holds.{Received}
use Rattle.feed_links.specs.declared.memory_link.MemoryLink.{MemoryLink}
use Rattle.feed_links.specs.Links.{AllHold}
use Rattle.feed_links.specs.Receivers.{Behind}
use Rattle.news_room.specs.declared.room.Room.{Room}
use Rattle.publish_workers.specs.Turns.{Turn, passed_of}
use Rattle.publish_workers.specs.Steps.{TurnHappens}
use Rattle.publish_workers.specs.Drains.{all_passed, TurnsHappen}
use Rattle.publish_workers.specs.Completeness.{IsAcknowledged, Answers, HasReceiver}
use Rattle.publish_workers.specs.InMemory.{names_of, received_by, KeepsPace, HoldsAll, is_silent_to, silent_to, DrainsMemory, ReceiversKeepPace, ReceiversHoldAll, ReceiversAnswer, MemoryDrainsAreComplete}
use Rattle.publish_workers.proofs.Complete.{or_parts, feeds_are_delivered, drains_are_complete}
use Rattle.publish_workers.proofs.Passing.{AllPass, pass_split, behind, goes_pass, received_in}
use Rattle.publish_workers.proofs.Pacing.{Paced, paced}

-- ---- turns one behind another

-- of the same entries otherwise said
abbrev pace_as : (h g : History) (names : List Bytes) (held : List Received) (s : Bytes) → h ≡ g → KeepsPace h names held s → KeepsPace g names held s
pace_as h g names held s is pace = record {
  receiver = pace.receiver;
  there = pace.there;
  name = pace.name;
  least = subst (λ (l : History). acked l s ≤ length pace.receiver.frames) is pace.least;
  most = subst (λ (l : History). length pace.receiver.frames ≤ length (feed l s)) is pace.most;
}

module _ {K : Type 0} (keeper : KeeperMeaning K) (names : List Bytes) (s : Bytes) where
  pub record Upto (b : Book) (ts : List Turn) (before : List Entry) (a c : Behind) (was : KeepsPace b.list names a.held s) : Type 0 where
    pub now : KeepsPace (onto before b).list names c.held s
    pub answers : silent_to s ts ≡ false → Answers s was.receiver.frames ts now.receiver.frames

  -- one turn
  turn_paced : (left between new : Room K) (b : Book) (t : Turn) (first later : List Entry) (happens : TurnHappens keeper left between new b names t first later) (a c : Behind) → AllPass names (passed_of t.claimed t.exchange) a c
      → (was : KeepsPace b.list names a.held s) → Paced keeper left between new b names t.reading first later happens.claim.stands happens.stands a c s was t.claimed t.exchange
  turn_paced left between new b t first later happens a c all was =
      paced keeper left between new b names t.reading first later happens.claim.stands happens.stands a c s was t.claimed t.exchange happens.claim.step happens.exchange all

  pub turns_paced : (old left : Room K) (b : Book) (ts : List Turn) (before : List Entry) → TurnsHappen keeper old left b names ts before → (a c : Behind) → AllPass names (all_passed ts) a c → (was : KeepsPace b.list names a.held s) → Upto b ts before a c was
  turns_paced old left b [] before happens a c all was = record {
    now = record {
      receiver = was.receiver;
      there = ap (λ (x : Behind). received_by names x.held s) all ∙ was.there;
      name = was.name;
      least = subst (λ (l : List Entry). acked (onto l b).list s ≤ length was.receiver.frames) (sym happens.1) was.least;
      most = subst (λ (l : List Entry). length was.receiver.frames ≤ length (feed (onto l b).list s)) (sym happens.1) was.most;
    };
    answers = λ quiet. refl;
  }
  turns_paced old left b (t ∷ ts) before happens a c all was =
      let parts = pass_split names (all_passed ts) (passed_of t.claimed t.exchange) a c all in
      let so_far = turns_paced old happens.0 b ts happens.2 happens.5 a parts.0 parts.1 was in
      let turn = turn_paced happens.0 happens.1 left (onto happens.2 b) t happens.3 happens.4 happens.6 parts.0 c parts.2 so_far.now in
      let list : (onto (happens.3 ++ happens.4) (onto happens.2 b)).list ≡ (onto before b).list = behind_more happens.2 (happens.3 ++ happens.4) b.list ∙ ap (λ (l : List Entry). (onto l b).list) (sym happens.7) in
      record {
        now = pace_as (onto (happens.3 ++ happens.4) (onto happens.2 b)).list (onto before b).list names c.held s list turn.now;
        answers = λ quiet. let both = or_parts (silent_to s ts) (is_silent_to s t.claimed t.exchange) quiet in (so_far.now.receiver.frames, so_far.answers both.0, turn.answers both.1);
      }

-- ---- the whole drain

module _ {K R : Type 0} (keeper : KeeperMeaning K) (receivers : KeeperMeaning R) where
  module _ (old new : Room K) (b : Book) (t : Turn) (ts : List Turn) (more : List Entry) (link later : MemoryLink R) (held : List Received) (drains : DrainsMemory keeper receivers old new b t ts more link later held) where
    -- what the receivers hold then
    went : (now : List Received) × AllHold receivers later now × AllPass (names_of link) (all_passed (t ∷ ts)) (behind receivers held link) (behind receivers now later)
    went = goes_pass receivers link later (all_passed (t ∷ ts)) held drains.goes drains.first

    parts : (mid : Behind) × AllPass (names_of link) (all_passed ts) (behind receivers held link) mid × AllPass (names_of link) (passed_of t.claimed t.exchange) mid (behind receivers went.0 later)
    parts = pass_split (names_of link) (all_passed ts) (passed_of t.claimed t.exchange) (behind receivers held link) (behind receivers went.0 later) went.2

    module _ (s : Bytes) (was : KeepsPace b.list (names_of link) held s) where
      -- behind all turns but the last
      until : Upto keeper (names_of link) s b ts drains.happens.before (behind receivers held link) parts.0 was
      until = turns_paced keeper (names_of link) s old drains.happens.left b ts drains.happens.before drains.happens.turns (behind receivers held link) parts.0 parts.1 was

      whole : KeepsPace (onto more b).list (names_of link) went.0 s
      whole =
          let h = drains.happens in
          let turn = turn_paced keeper (names_of link) s h.left h.between new (onto h.before b) t h.first h.later h.last parts.0 (behind receivers went.0 later) parts.2 until.now in
          let list : (onto (h.first ++ h.later) (onto h.before b)).list ≡ (onto more b).list = behind_more h.before (h.first ++ h.later) b.list ∙ ap (λ (l : List Entry). (onto l b).list) (sym h.more_is) in
          pace_as (onto (h.first ++ h.later) (onto h.before b)).list (onto more b).list (names_of link) went.0 s list turn.now

      holds_all : IsAcknowledged (onto more b).list s → HoldsAll (onto more b).list (names_of link) went.0 s
      holds_all done =
          let least = whole.least in
          let most = whole.most in
          record { receiver = whole.receiver; there = whole.there; name = whole.name; all = omega (arith, least, most, done); acknowledged = omega (arith, least, most, done) }

      has_receiver : silent_to s ts ≡ false → HasReceiver b.list s ts
      has_receiver quiet = record { first = was.receiver.frames; now = until.now.receiver.frames; least = was.least; most = was.most; answers = until.answers quiet }

  pub receivers_keep_pace : ReceiversKeepPace keeper receivers
  receivers_keep_pace old new b t ts more link later held drains =
      let went' = went old new b t ts more link later held drains in
      (went'.0, went'.1, λ s was. whole old new b t ts more link later held drains s was)

  pub receivers_hold_all : ReceiversHoldAll keeper receivers
  receivers_hold_all old new b t ts more link later held next drains idle =
      let went' = went old new b t ts more link later held drains in (
        went'.0,
        went'.1,
        λ s was lost refused may.
            holds_all old new b t ts more link later held drains s was
            (feeds_are_delivered keeper old new b (names_of link) t ts more next drains.happens drains.reported idle s (received_in (names_of link) held s was.receiver was.there) lost refused may),
      )

  pub receivers_answer : ReceiversAnswer keeper receivers
  receivers_answer old new b t ts more link later held drains s was quiet = has_receiver old new b t ts more link later held drains s was quiet

  pub memory_drains_are_complete : MemoryDrainsAreComplete keeper receivers
  memory_drains_are_complete old new b t ts more link later held d drains end counts store no_link no_store free each =
      let went' = went old new b t ts more link later held drains in
      let done = drains_are_complete keeper old new b (names_of link) t ts more d _ _ drains.happens drains.reported end counts store no_link no_store free
      (λ s there. let one = each s there in receivers_answer old new b t ts more link later held drains s one.0 one.1) in
      (done.0, (went'.0, went'.1, λ s there may. holds_all old new b t ts more link later held drains s (each s there).0 (done.1 s there may)))
