-- What was only looked at, by the room that it was opened as.
use Rattle.std.proofs.Common.{◌≡◌, inl, inr, ℕ, false, sym, subst}
use Rattle.news_types.specs.Names.{Bytes}
use Rattle.news_types.specs.History.{History}
use Rattle.news_io.specs.Outside.{Meanings, Outside, read}
use Rattle.news_io.proofs.Runs.{elapses_weaker}
use Rattle.news_pair.specs.Stands.{log_disk, side_disk}
use Rattle.news_pair.specs.declared.pair.Pair.{Pair}
use Rattle.news_room.specs.declared.room.Room.{Room}
use Rattle.newsdesk_cli.specs.Opened as old
use Rattle.store_files.specs.Store.{IsOpenRoom}
use Rattle.store_files.proofs.Holding.{room_holds}
use Rattle.program_run.specs.Looked.{Opened, Looked}
use Rattle.program_run.specs.Telling.{Unread}
use Rattle.program_run.specs.Finding.{the_finders}
use Rattle.program_run.proofs.Alike.{new_opens}
use Rattle.program_run.proofs.Refusing.{not_opened}

module _ {D S O C L : Type 0} (m : Meanings D S O C L) (before : Outside D S O C L) (room : Room (Pair D)) (o : IsOpenRoom m.disk before.log before.side room) where
  pub opened_room : Opened m before (log_disk room.keeper) (side_disk room.keeper) o.store o.history
  opened_room = record {
    long = o.long;
    stored = (o.holds false (λ is. absurd (cc is))).stands.kept;
    opens = λ tell bytes. new_opens o.store o.long (read m before) o.history bytes (o.bytes tell.log tell.side);
    holds = λ tell files may bytes. new_opens o.store o.long files o.history bytes (room_holds m.disk before.log before.side room o tell.log tell.side files may);
    crash = λ tell.
        elapses_weaker (m.disk.moment before.log) (m.disk.moment (log_disk room.keeper)) (m.disk.left_since before.log) (m.disk.left_since (log_disk room.keeper)) _ _ (o.crash tell.log tell.side)
        (λ c left. elim left [ inl was ↦ inl was | inr now ↦ inr (λ s may bytes. new_opens o.store o.long (c, s) o.history bytes (now s may)) ]);
    still = o.still;
    calm = o.calm;
  }

  -- as the disks that are given back
  pub opened_as : (log side : D) → log ≡ log_disk room.keeper → side ≡ side_disk room.keeper → Opened m before log side o.store o.history
  opened_as log side same same_side =
      subst (λ (s : D). Opened m before log s o.store o.history) (sym same_side) (subst (λ (l : D). Opened m before l (side_disk room.keeper) o.store o.history) (sym same) opened_room)

module _ {D S O C L : Type 0} (m : Meanings D S O C L) (before after : Outside D S O C L) (number : ℕ) (unread : Unread before after) (Before Now : Bytes → History → Type 0) (tells : (store : Bytes) (list : History) → Before store list → Now store list) where
  pub looked : old.IsLook m.disk m.sink before.log after.log before.side after.side before.output after.output number Before → Looked the_finders m before after number Now
  looked (inl refused) = (unread, inl (not_opened m before after number refused unread.input unread.clock unread.links))
  looked (inr did) = (
    unread,
    inr (record {
      store = did.opened.store;
      list = did.opened.history;
      opened = opened_as m before did.room did.opened after.log after.side did.same did.same_side;
      told = tells did.opened.store did.opened.history did.told;
    }),
  )
