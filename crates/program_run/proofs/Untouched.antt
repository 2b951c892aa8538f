-- A room that was opened, and to which nothing was done.
use Rattle.std.proofs.Common.{◌≡◌, ℕ, Bool, true, [], sym, ap, subst}
use Rattle.news_types.specs.Books.{Book}
use Rattle.news_types.specs.declared.entry.Entry.{Entry}
use Rattle.news_types.specs.Frames.{Writer}
use Rattle.news_io.specs.Outside.{Meanings, Outside}
use Rattle.news_pair.specs.Keeper.{pair_of}
use Rattle.news_pair.specs.declared.pair.Pair.{Pair}
use Rattle.news_room.specs.Stands.{Stands, in_doubt}
use Rattle.news_room.specs.declared.room.Room.{Room}
use Rattle.store_files.proofs.Holding.{calls_shut}
use Rattle.newsdesk_cli.specs.Opened.{HasGoneOn}
use Rattle.world_laws.specs.World.{World}
use Rattle.program_events.specs.Leads.{Lead, LeadsOn}
use Rattle.program_events.proofs.Leading.{lead_none}
use Rattle.program_run.specs.Reported.{IsCalm}
use Rattle.program_run.proofs.Counting.{calm_files}
use Rattle.program_run.proofs.Going.{Doubted}

module _ {D S O C L : Type 0} (m : Meanings D S O C L) (before after : Outside D S O C L) (status : ℕ) (went : HasGoneOn m.disk before.log after.log before.side after.side status)
    (told : Bool) (tells : told ≡ true → m.disk.tells before.log × m.disk.tells before.side) where
  abbrev here : Book
  here = record { store = went.opened.store; told = told; list = went.opened.history }

  -- it stands for the list of the files
  pub first_stands : Stands (pair_of m.disk) went.room here
  first_stands = (went.opened.holds told tells).stands

  module _ (none : went.after ≡ went.room) where
    pub still_stands : Stands (pair_of m.disk) went.after here
    still_stands = subst (λ (r : Room (Pair D)). Stands (pair_of m.disk) r here) (sym none) first_stands

    pub still_files : IsCalm m before after
    still_files = calm_files m before after status went (ap (λ (r : Room (Pair D)). (pair_of m.disk).faults r.keeper) none)

    still_doubt : (e : Entry) → Doubted m before after status went told e → ⊥
    still_doubt e d =
        let was = subst (λ (r : Room (Pair D)). in_doubt (pair_of m.disk) r e) none d.1 in
        let doubt = was.1 in
        calls_shut went.room.keeper.log.ajar went.opened.quiet doubt.is_ajar

    -- no event leads from its list to its list
    pub nothing_leads : (write : Writer) (w : World) → w.server.list ≡ went.opened.history → LeadsOn write w went.opened.history (Doubted m before after status went told) []
    nothing_leads write w same = record { lead = subst (Lead write w []) same (lead_none write w); doubt = λ e d. absurd (still_doubt e d) }
