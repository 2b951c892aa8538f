-- Drains against which there is nothing end with none ready, none lost and none refused.
use Rattle.std.proofs.Common.{◌≡◌, ◌⊎◌, inl, inr, ℕ, ◌≤◌, Bool, true, false, List, [], ◌∷◌, ◌++◌, length, map, refl, sym, ap, ◌∙◌, subst, arith}
use Rattle.std.specs.Prelude.{IsTrue}
use Rattle.std.proofs.lemmas.Bool.{true≢false}
use Rattle.news_types.specs.declared.entry.Entry.{Entry}
use Rattle.news_types.specs.Names.{Bytes, is_in}
use Rattle.news_types.specs.Books.{Book, onto}
use Rattle.news_io.specs.Clock.{ClockMeaning}
use Rattle.news_io.specs.Faults.{Rose}
use Rattle.news_io.specs.Keeper.{KeeperMeaning}
use Rattle.news_io.specs.Link.{LinkMeaning}
use Rattle.news_io.specs.Sink.{SinkMeaning}
use Rattle.news_room.specs.Stands.{Stands}
use Rattle.news_room.specs.declared.room.Room.{Room}
use Rattle.run_status.specs.Status.{number_of}
use Rattle.publish_workers.specs.declared.worked.Worked.{Worked}
use Rattle.publish_workers.specs.declared.drain.Drained as ends
use Rattle.publish_workers.specs.declared.drain.Drained.{Drained}
use Rattle.publish_workers.specs.Turns.{word}
use Rattle.publish_workers.specs.Links.{CountsFaults}
use Rattle.publish_workers.specs.Drains.{lost_in, refused_in, IsEnd, is_store_end, is_output_end, CountsLink, DrainHappens}
use Rattle.publish_workers.specs.Completeness.{HasReceiver, refused_by, RepliesAreReceipts}
use Rattle.publish_workers.specs.Statuses.{drain_status}
use Rattle.publish_workers.specs.LinkDrains.{LinkDrain, is_idle, AllIdle, AllIdleButLast, behind, end_of_all, DrainsLink, DrainLinks, DrainsHappen, IsDrained}
use Rattle.publish_workers.specs.AllLinks.{drains_more, EachDelivers, LinksAreDelivered}
use Rattle.publish_workers.proofs.Complete.{idle_end}
use Rattle.drain_laws.specs.Complete.{NoLinkFailed, EachAnswers, LinksAreComplete}
use Rattle.drain_laws.proofs.Refusals.{none_refused}
use Rattle.drain_laws.proofs.Places.{SameUpTo, newest_there, before_there}

-- ---- counts

calm : (failed : Bool) (before now : ℕ) → CountsFaults failed before now → (Rose before now → ⊥) → failed ≡ false
calm true before now counts none = absurd (none counts)
calm false before now counts none = refl

rose_later : (before now later : ℕ) → Rose before now → now ≤ later → Rose before later
rose_later before now later (inl more) le = inl (omega (arith, more, le))
rose_later before now later (inr most) le = inr (omega (arith, most, le))

-- ---- ends

-- with none ready, none lost and none refused
abbrev IsQuietEnd : Drained → Type 0
IsQuietEnd d = d ≡ ends.Drained.Idle false false

-- where an end behind others is idle, it is idle itself
behind_idle : (before d : Drained) → IsTrue (is_idle (behind before d)) → IsTrue (is_idle d)
behind_idle (ends.Drained.Idle lost refused) (ends.Drained.Idle link_failed no_receipt) is = refl
behind_idle (ends.Drained.Idle lost refused) ends.Drained.StoreFault is = is
behind_idle (ends.Drained.Idle lost refused) ends.Drained.OutputFault is = is
behind_idle (ends.Drained.Idle lost refused) (ends.Drained.Full size count) is = is
behind_idle (ends.Drained.Idle lost refused) ends.Drained.Memory is = is
behind_idle ends.Drained.StoreFault d is = is
behind_idle ends.Drained.OutputFault d is = is
behind_idle (ends.Drained.Full size count) d is = is
behind_idle ends.Drained.Memory d is = is

all_idle : (ds : List LinkDrain) → AllIdleButLast ds → IsTrue (is_idle (end_of_all ds)) → AllIdle ds
all_idle [] but_last is = tt
all_idle (d ∷ ds) but_last is = (behind_idle (end_of_all ds) d.end is, but_last)

quiet_end : (lost refused : Bool) (w : Worked) (d : Drained) (before now : ℕ) → IsTrue (is_idle d) → IsEnd lost refused w d → CountsLink d before now → (Rose before now → ⊥) → refused ≡ false → IsQuietEnd d
quiet_end lost refused w (ends.Drained.Idle link_failed no_receipt) before now idle end counts no_fault none =
    ap (λ (x : Bool). ends.Drained.Idle x no_receipt) (calm link_failed before now counts no_fault)
    ∙ ap (λ (x : Bool). ends.Drained.Idle false x) ((idle_end w lost refused link_failed no_receipt end).3 ∙ none)
quiet_end lost refused w ends.Drained.StoreFault before now idle end counts no_fault none = absurd (true≢false (sym idle))
quiet_end lost refused w ends.Drained.OutputFault before now idle end counts no_fault none = absurd (true≢false (sym idle))
quiet_end lost refused w (ends.Drained.Full size count) before now idle end counts no_fault none = absurd (true≢false (sym idle))
quiet_end lost refused w ends.Drained.Memory before now idle end counts no_fault none = absurd (true≢false (sym idle))

-- ---- drains

module _ {K : Type 0} (keeper : KeeperMeaning K) (old : Room K) (b : Book) (served : List (List Bytes)) where
  added : (new : Room K) (ds : List LinkDrain) (more : List Entry) → DrainsHappen keeper old new b served ds more → more ≡ drains_more ds
  added new [] more happens = happens.1
  added new (d ∷ ds) more happens = happens.6 ∙ ap (λ (l : List Entry). l ++ d.more) (added happens.0 ds happens.1 happens.3)

module _ {K L : Type 0} (keeper : KeeperMeaning K) (link : LinkMeaning L) (receipts : RepliesAreReceipts keeper) where
  quiet : (old new : Room K) (b : Book) (names : List Bytes) (one now : L) (d : LinkDrain) → DrainHappens keeper old new b names d.last d.turns d.more → DrainsLink link one now d → IsTrue (is_idle d.end)
      → (Rose (link.faults one) (link.faults now) → ⊥) → ((s : Bytes) → is_in s names ≡ true → HasReceiver b.list s d.turns) → IsQuietEnd d.end
  quiet old new b names one now d happens drained idle no_fault answers =
      let none : (s : Bytes) → is_in s names ≡ true → refused_by s d.turns ≡ false = λ s there. receipts old new b names d.last d.turns d.more happens drained.reported s (answers s there) in
      quiet_end (lost_in d.turns) (refused_in d.turns) (word d.last) d.end (link.faults one) (link.faults now) idle drained.end drained.faults no_fault
      (none_refused keeper names old happens.left b d.turns happens.before happens.turns none)

  module _ (old : Room K) (b : Book) (served : List (List Bytes)) (first last : List L) (no_fault : NoLinkFailed link first last) where
    all_quiet : (new : Room K) (now : List L) (ds : List LinkDrain) (more : List Entry) → DrainsHappen keeper old new b served ds more → DrainLinks link first now ds → SameUpTo (length ds) last now → AllIdle ds → EachAnswers b served ds
        → IsQuietEnd (end_of_all ds)
    all_quiet new now [] more happens drains same idle answers = refl
    all_quiet new now (d ∷ ds) more happens drains same idle answers =
        let before : IsQuietEnd (end_of_all ds) = all_quiet happens.0 drains.0 ds happens.1 happens.3 drains.3 (before_there link first now last d ds drains same) idle.1 answers.0 in
        let receivers : (s : Bytes) → is_in s happens.2 ≡ true → HasReceiver (onto happens.1 b).list s d.turns =
        λ s there. subst (λ (l : List Entry). HasReceiver (onto l b).list s d.turns) (sym (added keeper old b served happens.0 ds happens.1 happens.3)) (answers.1 happens.2 s happens.4 there) in
        let one : IsQuietEnd d.end =
        quiet happens.0 new (onto happens.1 b) happens.2 drains.1 drains.2 d happens.5 drains.5 idle.0 (no_fault (length ds) drains.1 drains.2 drains.4 (newest_there link first now last d ds drains same)) receivers in
        ap (λ (x : Drained). behind x d.end) before ∙ ap (λ (x : Drained). behind (ends.Drained.Idle false false) x) one

-- ---- all of it

module _ {K C O L : Type 0} (keeper : KeeperMeaning K) (clock : ClockMeaning C) (sink : SinkMeaning O) (link : LinkMeaning L) (receipts : RepliesAreReceipts keeper) (delivers : LinksAreDelivered keeper clock sink link) where
  delivered : (old new : Room K) (c c' : C) (l l' : List L) (o o' : O) (status : ℕ) (drained : IsDrained keeper clock sink link old new c c' l l' o o' status) (b : Book) → Stands keeper old b → status ≡ 0
      → (status ≡ 0) × (length drained.drains ≡ length l) × EachDelivers b (map link.serves l) drained.drains
  delivered old new c c' l l' o o' status drained b stands is =
      let all : (length drained.drains ≡ length l) × ((b : Book) → Stands keeper old b → EachDelivers b (map link.serves l) drained.drains) =
      subst (λ (n : ℕ). (d : IsDrained keeper clock sink link old new c c' l l' o o' n) → (length d.drains ≡ length l) × ((b : Book) → Stands keeper old b → EachDelivers b (map link.serves l) d.drains)) (sym is)
      (λ d. delivers old new c c' l l' o o' d) drained in
      (is, all.0, all.1 b stands)

  pub links_are_complete : LinksAreComplete keeper clock sink link
  links_are_complete old new c c' l l' o o' status drained b stands no_store no_output no_link not_full answers = by (end_of_all drained.drains) refl
    where
      told : (e : Drained) → end_of_all drained.drains ≡ e → status ≡ number_of (drain_status e)
      told e is = drained.status_is ∙ ap (λ (d : Drained). number_of (drain_status d)) is

      by : (e : Drained) → end_of_all drained.drains ≡ e → ((status ≡ 0) × (length drained.drains ≡ length l) × EachDelivers b (map link.serves l) drained.drains) ⊎ (status ≡ 9)
      by (ends.Drained.Idle lost refused) is =
          let idle : AllIdle drained.drains = all_idle drained.drains drained.but_last (ap is_idle is) in
          let free = all_quiet keeper link receipts old b (map link.serves l) l l' no_link new l' drained.drains drained.more (drained.room b stands).drains drained.links (λ i lt. refl) idle answers in
          inl (delivered old new c c' l l' o o' status drained b stands (told (ends.Drained.Idle false false) free))
      by ends.Drained.StoreFault is = absurd (no_store (subst (λ (d : Drained). CountsFaults (is_store_end d) (keeper.faults old.keeper) (keeper.faults new.keeper)) is drained.store_faults))
      by ends.Drained.OutputFault is =
          let rose : Rose (sink.faults o) (sink.faults drained.told) = subst (λ (d : Drained). CountsFaults (is_output_end d) (sink.faults o) (sink.faults drained.told)) is drained.output_faults in
          absurd (no_output (rose_later (sink.faults o) (sink.faults drained.told) (sink.faults o') rose drained.line.later))
      by (ends.Drained.Full size count) is = absurd (not_full (told (ends.Drained.Full size count) is))
      by ends.Drained.Memory is = inr (told ends.Drained.Memory is)
