-- A drain at one moment that ended with none ready, none lost and none refused.
use Rattle.std.proofs.Common.{◌≡◌, ◌+◌, inl, ℕ, false, List, [], ◌∷◌, ◌++◌, sym, ◌∙◌, subst}
use Rattle.news_types.specs.declared.entry.Entry.{Entry}
use Rattle.news_types.specs.Members.{Each}
use Rattle.news_types.specs.History.{moment_at}
use Rattle.news_types.specs.Books.{Book, onto}
use Rattle.news_io.specs.Clock.{Gave}
use Rattle.news_io.specs.Devices.{memory_keeper}
use Rattle.news_io.specs.Link.{Goes}
use Rattle.news_io.specs.declared.memory_keeper.MemoryKeeper.{MemoryKeeper}
use Rattle.news_room.specs.declared.room.Room.{Room}
use Rattle.feed_receiver.specs.Holds.{Received}
use Rattle.feed_links.specs.declared.memory_link.MemoryLink.{MemoryLink}
use Rattle.feed_links.specs.Links.{AllHold, memory_link}
use Rattle.publish_workers.specs.declared.drain.Drained as ends
use Rattle.publish_workers.specs.declared.drain.Drained.{Drained}
use Rattle.publish_workers.specs.Turns.{Turn, word, receipt_readings}
use Rattle.publish_workers.specs.Drains.{AllReported, all_passed, all_readings, lost_in, refused_in, IsEnd, DrainHappens}
use Rattle.publish_workers.specs.Completeness.{NoneReady}
use Rattle.publish_workers.specs.InMemory.{names_of, DrainsMemory}
use Rattle.publish_workers.proofs.Additions.{drains_only_deliver}
use Rattle.publish_workers.proofs.Complete.{lost_none, refused_of_none, idle_end, idles_are_done}
use Rattle.publish_workers.proofs.Receiving.{receivers_hold_all}
use Rattle.feed_drill.specs.Delivery.{IsDelivered}

-- ---- the readings of a clock that stands

given_same : (reading : ℕ) (ahead later : ℕ → ℕ) (readings : List ℕ) → ((k : ℕ) → ahead k ≡ reading) → Gave ahead readings later → Each (λ (r : ℕ). r ≡ reading) readings
given_same reading ahead later [] still gave = tt
given_same reading ahead later (r ∷ readings) still gave = (gave.0 ∙ still 0, given_same reading (λ k. ahead (k + 1)) later readings (λ k. still (k + 1)) gave.1)

each_behind : {A : Type 0} (P : A → Type 0) (xs ys : List A) → Each P (xs ++ ys) → Each P ys
each_behind P [] ys all = all
each_behind P (x ∷ xs) ys all = each_behind P xs ys all.1

-- so is the last turn's
last_reading : (reading : ℕ) (ahead later : ℕ → ℕ) (t : Turn) (ts : List Turn) → ((k : ℕ) → ahead k ≡ reading) → Gave ahead (all_readings (t ∷ ts)) later → t.reading ≡ reading
last_reading reading ahead later t ts still gave =
    (each_behind (λ (r : ℕ). r ≡ reading) (all_readings ts) (t.reading ∷ receipt_readings t.exchange) (given_same reading ahead later (all_readings (t ∷ ts)) still gave)).0

-- ---- the drain

module _ (reading : ℕ) (b : Book) (held : List Received) (room room' : Room MemoryKeeper) (link link' : MemoryLink MemoryKeeper) (t : Turn) (ts : List Turn) (more : List Entry) where
  pub delivered : (drained : Drained) → drained ≡ ends.Drained.Idle false false → AllReported ts → IsEnd (lost_in ts) (refused_in ts) (word t) drained → DrainHappens memory_keeper room room' b (names_of link) t ts more
      → Goes (memory_link memory_keeper) link link' (all_passed (t ∷ ts)) → AllHold memory_keeper link held → (ahead later : ℕ → ℕ) → ((k : ℕ) → ahead k ≡ reading) → Gave ahead (all_readings (t ∷ ts)) later → names_of link' ≡ names_of link
      → IsDelivered reading b held room' link link'
  delivered drained free reported end happens goes holds ahead later still gave same =
      let is = idle_end (word t) (lost_in ts) (refused_in ts) false false (subst (λ (d : Drained). IsEnd (lost_in ts) (refused_in ts) (word t) d) free end) in
      let drains : DrainsMemory memory_keeper memory_keeper room room' b t ts more link link' held = record { happens = happens; reported = reported; goes = goes; first = holds } in
      let all = receivers_hold_all memory_keeper memory_keeper room room' b t ts more link link' held is.0 drains is.1 in
      let at = last_reading reading ahead later t ts still gave in
      record {
        more = more;
        stands = happens.stands;
        only = drains_only_deliver memory_keeper room room' b (names_of link) t ts more happens;
        rests = subst (λ (r : ℕ). NoneReady (onto more b).list (names_of link) (moment_at (onto more b).list r)) at (idles_are_done memory_keeper room room' b (names_of link) t ts more is.0 happens is.1);
        later = all.0;
        holds = all.1;
        names = same;
        each = λ s pace untried.
            all.2 s pace (lost_none s ts (sym is.2)) (refused_of_none s ts (sym is.3)) (inl untried);
      }
