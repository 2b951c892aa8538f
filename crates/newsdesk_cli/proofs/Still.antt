-- What a command leaves that asked nothing of its room.
use Rattle.std.proofs.Common.{◌≡◌, ℕ, true, false, [], refl, sym, subst}
use Rattle.news_types.specs.Books.{Book}
use Rattle.news_io.specs.Disk.{DiskMeaning}
use Rattle.news_pair.specs.Keeper.{pair_of}
use Rattle.news_pair.specs.declared.pair.Pair.{Pair}
use Rattle.news_room.specs.Stands.{Stands}
use Rattle.news_room.specs.declared.room.Room.{Room}
use Rattle.news_room.proofs.Appends.{after_none}
use Rattle.store_files.specs.Store.{IsOpenRoom}
use Rattle.newsdesk_cli.specs.FilesLeft.{FilesLeft}
use Rattle.newsdesk_cli.proofs.FilesLeft.{step_left}

module _ {D : Type 0} (disk : DiskMeaning D) (log side : D) (r r' : Room (Pair D)) (status : ℕ) (opened : IsOpenRoom disk log side r) (tells : disk.tells log) (tells' : disk.tells side) where
  abbrev here : Book
  here = record { store = opened.store; told = true; list = opened.history }

  stands : Stands (pair_of disk) r here
  stands = (opened.holds true (λ is. (tells, tells'))).stands

  same_left : FilesLeft disk log side opened.store r r opened.history status
  same_left =
      let a = after_none (pair_of disk) r r here [] (Unit {0}) refl stands refl stands.machine_for tt in
      step_left disk log side r r status opened tells tells' [] [] false (λ other. refl) a.stands (a.told refl)

  pub still_left : r' ≡ r → FilesLeft disk log side opened.store r r' opened.history status
  still_left same = subst (λ (k : Room (Pair D)). FilesLeft disk log side opened.store r k opened.history status) (sym same) same_left
