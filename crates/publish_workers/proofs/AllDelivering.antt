-- Drains over some links that are told with status 0.
use Rattle.std.proofs.Common.{◌≡◌, inr, ℕ, Bool, true, false, ◌||◌, List, [], ◌∷◌, ◌++◌, length, map, Option, Some, refl, sym, ap, ◌∙◌, subst, arith}
use Rattle.std.specs.Prelude.{IsTrue, slice_get}
use Rattle.std.proofs.lemmas.Bool.{true≢false}
use Rattle.news_types.specs.declared.entry.Entry.{Entry}
use Rattle.news_types.specs.Names.{Bytes, is_in}
use Rattle.news_types.specs.History.{History, moment_at}
use Rattle.news_types.specs.Books.{Book, onto}
use Rattle.news_types.specs.Legal.{IsLegal}
use Rattle.news_types.proofs.Members.{some_is}
use Rattle.news_types.proofs.Books.{behind_more}
use Rattle.news_io.specs.Clock.{ClockMeaning}
use Rattle.news_io.specs.Keeper.{KeeperMeaning}
use Rattle.news_io.specs.Link.{LinkMeaning}
use Rattle.news_io.specs.Sink.{SinkMeaning}
use Rattle.news_room.specs.declared.room.Room.{Room}
use Rattle.run_status.specs.Status.{number_of}
use Rattle.publish_workers.specs.declared.worked.Worked.TheVariants.{Idle}
use Rattle.publish_workers.specs.declared.drain.Drained as ends
use Rattle.publish_workers.specs.declared.drain.Drained.{Drained}
use Rattle.publish_workers.specs.Turns.{word}
use Rattle.publish_workers.specs.Statuses.{drain_status}
use Rattle.publish_workers.specs.Drains.{AllReported, lost_in, refused_in, IsEnd, DrainHappens}
use Rattle.publish_workers.specs.Completeness.{NoneReady, MayBeSent, IsAcknowledged}
use Rattle.publish_workers.specs.LinkDrains.{LinkDrain, is_idle, AllIdle, AllIdleButLast, behind, end_of_all, DrainLinks, DrainsHappen}
use Rattle.publish_workers.specs.AllLinks.{drains_more, EachDelivers, LinksAreDelivered}
use Rattle.publish_workers.proofs.Changes.{feed_begins, stays, Since, since_then, all_delivered}
use Rattle.publish_workers.proofs.Complete.{lost_none, refused_of_none, idle_end, rests_there, drain_since}

-- ---- ends

-- with none ready, none lost and none refused
abbrev IsFreeEnd : Drained → Type 0
IsFreeEnd d = d ≡ ends.Drained.Idle false false

end_free : (d : Drained) → 0 ≡ number_of (drain_status d) → IsFreeEnd d
end_free (ends.Drained.Idle true no_receipt) is = absurd (omega (arith, is))
end_free (ends.Drained.Idle false true) is = absurd (omega (arith, is))
end_free (ends.Drained.Idle false false) is = refl
end_free ends.Drained.StoreFault is = absurd (omega (arith, is))
end_free ends.Drained.OutputFault is = absurd (omega (arith, is))
end_free (ends.Drained.Full size count) is = absurd (omega (arith, is))
end_free ends.Drained.Memory is = absurd (omega (arith, is))

idle_is : (d : Drained) → IsTrue (is_idle d) → (lost : Bool) × (refused : Bool) × (d ≡ ends.Drained.Idle lost refused)
idle_is (ends.Drained.Idle lost refused) is = (lost, refused, refl)
idle_is ends.Drained.StoreFault is = absurd (true≢false (sym is))
idle_is ends.Drained.OutputFault is = absurd (true≢false (sym is))
idle_is (ends.Drained.Full size count) is = absurd (true≢false (sym is))
idle_is ends.Drained.Memory is = absurd (true≢false (sym is))

idle_all : (ds : List LinkDrain) → AllIdle ds → (lost : Bool) × (refused : Bool) × (end_of_all ds ≡ ends.Drained.Idle lost refused)
idle_all [] all = (false, false, refl)
idle_all (d ∷ ds) all =
    let before = idle_all ds all.1 in
    let last = idle_is d.end all.0 in
    (before.0 || last.0, before.1 || last.1, ap (λ (x : Drained). behind x d.end) before.2 ∙ ap (λ (x : Drained). behind (ends.Drained.Idle before.0 before.1) x) last.2)

both_false : (a b : Bool) → (a || b) ≡ false → (a ≡ false) × (b ≡ false)
both_false false b is = (refl, is)
both_false true b is = absurd (true≢false is)

-- behind others it is free only where all are
behind_free : (lost refused : Bool) (d : Drained) → IsFreeEnd (behind (ends.Drained.Idle lost refused) d) → (lost ≡ false) × (refused ≡ false) × IsFreeEnd d
behind_free lost refused (ends.Drained.Idle lost' refused') is =
    let parts = words is in
    let one = both_false lost lost' parts.0 in
    let two = both_false refused refused' parts.1 in
    (one.0, two.0, ap (λ (x : Bool). ends.Drained.Idle x refused') one.1 ∙ ap (λ (x : Bool). ends.Drained.Idle false x) two.1)
  where
    words : {a b : Bool} → ends.Drained.Idle a b ≡ ends.Drained.Idle false false → (a ≡ false) × (b ≡ false)
    words is = (cc, cc)
behind_free lost refused ends.Drained.StoreFault is = absurd (no is)
  where
    no : ends.Drained.StoreFault ≡ ends.Drained.Idle false false → ⊥
    no is = cc
behind_free lost refused ends.Drained.OutputFault is = absurd (no is)
  where
    no : ends.Drained.OutputFault ≡ ends.Drained.Idle false false → ⊥
    no is = cc
behind_free lost refused (ends.Drained.Full size count) is = absurd (no is)
  where
    no : {size count : ℕ} → ends.Drained.Full size count ≡ ends.Drained.Idle false false → ⊥
    no is = cc
behind_free lost refused ends.Drained.Memory is = absurd (no is)
  where
    no : ends.Drained.Memory ≡ ends.Drained.Idle false false → ⊥
    no is = cc

abbrev AllFree : List LinkDrain → Type 0
AllFree [] = Unit {0}
AllFree (d ∷ ds) = IsFreeEnd d.end × AllFree ds

idle_free : (ds : List LinkDrain) → AllIdle ds → IsFreeEnd (end_of_all ds) → AllFree ds
idle_free [] all is = tt
idle_free (d ∷ ds) all is =
    let before = idle_all ds all.1 in
    let parts = behind_free before.0 before.1 d.end (subst (λ (x : Drained). IsFreeEnd (behind x d.end)) before.2 is) in
    (parts.2, idle_free ds all.1 (before.2 ∙ ap (λ (x : Bool). ends.Drained.Idle x before.1) parts.0 ∙ ap (λ (x : Bool). ends.Drained.Idle false x) parts.1))

all_free : (ds : List LinkDrain) → AllIdleButLast ds → IsFreeEnd (end_of_all ds) → AllFree ds
all_free [] all is = tt
all_free (d ∷ ds) all is =
    let before = idle_all ds all in
    let parts = behind_free before.0 before.1 d.end (subst (λ (x : Drained). IsFreeEnd (behind x d.end)) before.2 is) in
    (parts.2, idle_free ds all (before.2 ∙ ap (λ (x : Bool). ends.Drained.Idle x before.1) parts.0 ∙ ap (λ (x : Bool). ends.Drained.Idle false x) parts.1))

-- ---- each drain

-- what a drain was that ended so
pub record IsQuiet (d : LinkDrain) : Type 0 where
  pub next : Option ℕ
  pub idle : word d.last ≡ Idle next
  pub lost : lost_in d.turns ≡ false
  pub refused : refused_in d.turns ≡ false
  pub reported : AllReported d.turns

quiet : (d : LinkDrain) → IsFreeEnd d.end → IsEnd (lost_in d.turns) (refused_in d.turns) (word d.last) d.end → AllReported d.turns → IsQuiet d
quiet d free end reported =
    let is = idle_end (word d.last) (lost_in d.turns) (refused_in d.turns) false false (subst (λ (x : Drained). IsEnd (lost_in d.turns) (refused_in d.turns) (word d.last) x) free end) in
    record { next = is.0; idle = is.1; lost = sym is.2; refused = sym is.3; reported = reported }

abbrev AllQuiet : List LinkDrain → Type 0
AllQuiet [] = Unit {0}
AllQuiet (d ∷ ds) = IsQuiet d × AllQuiet ds

all_quiet : {L : Type 0} (link : LinkMeaning L) (old new : List L) (ds : List LinkDrain) → AllFree ds → DrainLinks link old new ds → AllQuiet ds
all_quiet link old new [] free drains = tt
all_quiet link old new (d ∷ ds) free drains = (quiet d free.0 drains.5.end drains.5.reported, all_quiet link old drains.0 ds free.1 drains.3)

module _ {K : Type 0} (keeper : KeeperMeaning K) (b : Book) (served : List (List Bytes)) where
  added : (old new : Room K) (ds : List LinkDrain) (more : List Entry) → DrainsHappen keeper old new b served ds more → more ≡ drains_more ds
  added old new [] more happens = happens.1
  added old new (d ∷ ds) more happens = happens.6 ∙ ap (λ (l : List Entry). l ++ d.more) (added old happens.0 ds happens.1 happens.3)

  pub each_delivers : (old new : Room K) (ds : List LinkDrain) (more : List Entry) → DrainsHappen keeper old new b served ds more → AllQuiet ds → EachDelivers b served ds × ((s : Bytes) → Since b.list (onto (drains_more ds) b).list s)
  each_delivers old new [] more happens all = (tt, λ s. inr (stays b.list s))
  each_delivers old new (d ∷ ds) more happens all =
      let so_far = each_delivers old happens.0 ds happens.1 happens.3 all.1 in
      let before : Book = onto happens.1 b in
      let g : History = (onto d.more before).list in
      let drain : DrainHappens keeper happens.0 new before happens.2 d.last d.turns d.more = happens.5 in
      let is = added old happens.0 ds happens.1 happens.3 in
      let list : g ≡ (onto (drains_more (d ∷ ds)) b).list = behind_more happens.1 d.more b.list ∙ ap (λ (l : List Entry). (onto (l ++ d.more) b).list) is in
      let since : (s : Bytes) → Since b.list (onto (drains_more (d ∷ ds)) b).list s =
      λ s. subst (λ (h : History). Since b.list h s) list
      (since_then b.list before.list g s (subst (λ (l : List Entry). Since b.list (onto l b).list s) (sym is) (so_far.1 s))
      (drain_since keeper happens.0 new before happens.2 d.last d.turns d.more all.0.next drain all.0.reported all.0.idle s (lost_none s d.turns all.0.lost) (refused_of_none s d.turns all.0.refused))) in
      let delivers : (names : List Bytes) (s : Bytes) → slice_get served (length ds) ≡ Some names → is_in s names ≡ true → MayBeSent b.list s (moment_at (onto (drains_more (d ∷ ds)) b).list d.last.reading) → IsAcknowledged (onto (drains_more (d ∷ ds)) b).list s =
      λ names s there named may.
      let h : History = (onto (drains_more (d ∷ ds)) b).list in
      let same' : names ≡ happens.2 = some_is names happens.2 (sym there ∙ happens.4) in
      let one = subst (λ (ns : List Bytes). is_in s ns ≡ true) same' named in
      let done = subst (λ (l : History). NoneReady l happens.2 (moment_at l d.last.reading)) list (rests_there keeper happens.0 new before happens.2 d.last d.turns d.more all.0.next drain all.0.idle) in
      all_delivered b.list h happens.2 s (moment_at h d.last.reading) (since s) (feed_begins (drains_more (d ∷ ds)) b.list s (subst IsLegal list drain.stands.kept.legal)) (done.none s one) (done.done s one) may in
      ((so_far.0, delivers), since)

pub links_are_delivered : {K C O L : Type 0} (keeper : KeeperMeaning K) (clock : ClockMeaning C) (sink : SinkMeaning O) (link : LinkMeaning L) → LinksAreDelivered keeper clock sink link
links_are_delivered keeper clock sink link old new c c' l l' o o' drained =
    let free : IsFreeEnd (end_of_all drained.drains) = end_free (end_of_all drained.drains) drained.status_is in
    let each = all_quiet link l l' drained.drains (all_free drained.drains drained.but_last free) drained.links in (
      drained.all (subst (λ (d : Drained). IsTrue (is_idle d)) (sym free) refl),
      λ b stands. (each_delivers keeper b (map link.serves l) old new drained.drains drained.more (drained.room b stands).drains each).0,
    )
