-- What a drain leaves in the two files of a store, and with which statuses it ends.
use Rattle.std.proofs.Common.{◌≡◌, ◌⊎◌, ℕ, Bool, true, false, List, [], ◌∷◌, ◌++◌, length, take, drop, append-nil, refl, sym, ◌∙◌, ap, subst, arith}
use Rattle.std.specs.Prelude.{map}
use Rattle.std.proofs.lemmas.List.{take_all, length-map}
use Rattle.std.proofs.Math.ListN.{drop_of_length-le}
use mathlib.Core.Bool.{false≢true}
use Rattle.news_types.specs.Books.{Book}
use Rattle.news_io.specs.Clock.{ClockMeaning}
use Rattle.news_io.specs.Disk.{DiskMeaning}
use Rattle.news_io.specs.Faults.{Rose}
use Rattle.news_io.specs.Keeper.{KeeperMeaning}
use Rattle.news_io.specs.Link.{LinkMeaning}
use Rattle.news_io.specs.Sink.{SinkMeaning}
use Rattle.news_pair.specs.Keeper.{pair_of}
use Rattle.news_pair.specs.declared.pair.Pair.{Pair}
use Rattle.news_room.specs.declared.room.Room.{Room}
use Rattle.run_status.specs.Status.{number_of}
use Rattle.publish_workers.specs.declared.worked.Worked.{Worked}
use Rattle.publish_workers.specs.declared.worked.Worked.TheVariants as worked
use Rattle.publish_workers.specs.declared.drain.Drained.{Drained}
use Rattle.publish_workers.specs.Drains.{IsEnd, is_store_end}
use Rattle.publish_workers.specs.Links.{CountsFaults}
use Rattle.publish_workers.specs.LinkDrains.{LinkDrain, behind, end_of_all, DrainLinks, is_failed, IsDrained}
use Rattle.publish_workers.specs.Statuses.{drain_status}
use Rattle.publish_workers.specs.Turns.{is_store_fault, word}
use Rattle.store_files.specs.Store.{IsOpenRoom}
use Rattle.newsdesk_cli.specs.FilesLeft.{FilesLeft}
use Rattle.newsdesk_cli.proofs.FilesLeft.{step_left}

-- ---- the end behind a failed keeper

end_of_fault : (lost refused : Bool) (w : Worked) (end : Drained) → IsEnd lost refused w end → is_store_fault w ≡ true → end ≡ Drained.StoreFault
end_of_fault lost refused worked.StoreFault Drained.OutputFault is fault = absurd is
end_of_fault lost refused worked.StoreFault (Drained.Idle link_failed no_receipt) is fault = is
end_of_fault lost refused worked.StoreFault Drained.StoreFault is fault = refl
end_of_fault lost refused worked.StoreFault (Drained.Full size count) is fault = is
end_of_fault lost refused worked.StoreFault Drained.Memory is fault = is
end_of_fault lost refused (worked.Delivered s k n) end is fault = absurd (false≢true fault)
end_of_fault lost refused (worked.Idle next) end is fault = absurd (false≢true fault)
end_of_fault lost refused (worked.NoReceipt s k reply) end is fault = absurd (false≢true fault)
end_of_fault lost refused (worked.LinkFault s k) end is fault = absurd (false≢true fault)
end_of_fault lost refused (worked.Full size count) end is fault = absurd (false≢true fault)
end_of_fault lost refused worked.Memory end is fault = absurd (false≢true fault)

behind_fault : (before : Drained) → behind before Drained.StoreFault ≡ Drained.StoreFault
behind_fault (Drained.Idle link_failed no_receipt) = refl
behind_fault Drained.StoreFault = refl
behind_fault Drained.OutputFault = refl
behind_fault (Drained.Full size count) = refl
behind_fault Drained.Memory = refl

-- a drain whose keeper failed ends with status 6
fault_status : {K L : Type 0} (keeper : KeeperMeaning K) (link : LinkMeaning L) (l l' : List L) (ds : List LinkDrain) → DrainLinks link l l' ds → is_failed keeper ds ≡ true → number_of (drain_status (end_of_all ds)) ≡ 6
fault_status keeper link l l' [] links fault = absurd (false≢true fault)
fault_status keeper link l l' (d ∷ ds) links fault =
    let one = links.5 in
    ap (λ (e : Drained). number_of (drain_status e)) (ap (behind (end_of_all ds)) (end_of_fault _ _ (word d.last) d.end one.end fault) ∙ behind_fault (end_of_all ds))

no_fault : (b : Bool) → (b ≡ true → ⊥) → b ≡ false
no_fault true not = absurd (not refl)
no_fault false not = refl

-- ---- the files

module _ {D C O L : Type 0} (disk : DiskMeaning D) (clock : ClockMeaning C) (sink : SinkMeaning O) (link : LinkMeaning L)
    (log side : D) (r r' : Room (Pair D)) (c c' : C) (l l' : List L) (o o' : O) (status : ℕ) (opened : IsOpenRoom disk log side r) (tells : disk.tells log) (tells' : disk.tells side) where
  pub drain_left : IsDrained (pair_of disk) clock sink link r r' c c' l l' o o' status → FilesLeft disk log side opened.store r r' opened.history status
  drain_left a =
      let here : Book = record { store = opened.store; told = true; list = opened.history } in
      let drained = a.room here (opened.holds true (λ is. (tells, tells'))).stands in
      step_left disk log side r r' status opened tells tells' _ a.more (is_failed (pair_of disk) a.drains)
      (λ other. no_fault (is_failed (pair_of disk) a.drains) (λ fault. other (a.status_is ∙ fault_status (pair_of disk) link l l' a.drains a.links fault)))
      drained.stands (drained.told refl)

-- ---- statuses

-- neither 3 nor 7
pub drain_else : (n : ℕ) → (n ≡ 3) ⊎ (n ≡ 7) → (end : Drained) → number_of (drain_status end) ≡ n → ⊥
drain_else n which (Drained.Idle true no_receipt) is = omega (arith, which, is)
drain_else n which (Drained.Idle false true) is = omega (arith, which, is)
drain_else n which (Drained.Idle false false) is = omega (arith, which, is)
drain_else n which Drained.StoreFault is = omega (arith, which, is)
drain_else n which Drained.OutputFault is = omega (arith, which, is)
drain_else n which (Drained.Full size count) is = omega (arith, which, is)
drain_else n which Drained.Memory is = omega (arith, which, is)

-- a keeper whose count rose
pub drain_failed : (before now : ℕ) (end : Drained) → CountsFaults (is_store_end end) before now → number_of (drain_status end) ≡ 6 → Rose before now
drain_failed before now (Drained.Idle true no_receipt) counts is = absurd (omega (arith, is))
drain_failed before now (Drained.Idle false true) counts is = absurd (omega (arith, is))
drain_failed before now (Drained.Idle false false) counts is = absurd (omega (arith, is))
drain_failed before now Drained.StoreFault counts is = counts
drain_failed before now Drained.OutputFault counts is = absurd (omega (arith, is))
drain_failed before now (Drained.Full size count) counts is = absurd (omega (arith, is))
drain_failed before now Drained.Memory counts is = absurd (omega (arith, is))

-- ---- links behind a call on all of them

refilled : {L : Type 0} (n : ℕ) (links now : List L) → n ≡ length links → length now ≡ length links → take n (now ++ drop (length now) links) ≡ now
refilled n links now count same =
    ap (λ rest. take n (now ++ rest)) (drop_of_length-le links (omega (arith, same))) ∙ ap (take n) (append-nil now) ∙ take_all n now (omega (arith, count, same))

same_length : {L : Type 0} (serves : L → List (List ℕ)) (links now : List L) → map serves now ≡ map serves links → length now ≡ length links
same_length serves links now same = sym (length-map now serves) ∙ ap length same ∙ length-map links serves

module _ {K C O L : Type 0} (keeper : KeeperMeaning K) (clock : ClockMeaning C) (sink : SinkMeaning O) (link : LinkMeaning L) (old new : Room K) (c c' : C) (o o' : O) (status : ℕ) where
  -- the links are those of a vector
  pub of_vector : (n : ℕ) (links slice now : List L) → slice ≡ links → n ≡ length links → map link.serves now ≡ map link.serves slice → IsDrained keeper clock sink link old new c c' slice now o o' status
      → IsDrained keeper clock sink link old new c c' links (take n (now ++ drop (length now) links)) o o' status
  of_vector n links slice now is count same a =
      let long = same_length link.serves slice now same ∙ ap length is in
      subst (λ (l : List L). IsDrained keeper clock sink link old new c c' links l o o' status) (sym (refilled n links now count long)) (subst (λ (l : List L). IsDrained keeper clock sink link old new c c' l now o o' status) is a)
