-- What a server came to, from what made it ready and what its roles did.
use Rattle.std.proofs.Common.{◌≡◌, ◌⊎◌, ◌<◌, ◌≤◌, ◌+◌, ℕ, List, [], All, inl, inr, sym, ◌∙◌, subst, arith}
use Rattle.std.proofs.lemmas.List.Elements.{All-weaker}
use Rattle.news_types.specs.declared.entry.Entry.{Entry}
use Rattle.news_types.specs.Names.{Bytes}
use Rattle.news_types.specs.Books.{Book, onto}
use Rattle.news_io.specs.Clock.{ClockMeaning}
use Rattle.news_io.specs.Keeper.{KeeperMeaning}
use Rattle.news_io.specs.Link.{LinkMeaning}
use Rattle.news_io.specs.Sink.{SinkMeaning}
use Rattle.news_room.specs.Stands.{Stands, SomeBook}
use Rattle.news_room.specs.declared.room.Room.{Room}
use Rattle.publish_workers.specs.Links.{CountsFaults}
use Rattle.room_lock.specs.Locks.{front, calls, lock_of, id_of, start_of, base_of}
use Rattle.room_lock.specs.declared.view.Call.{Call}
use Rattle.run_status.specs.declared.status.Status.{Status}
use Rattle.run_status.specs.declared.status.Status.TheVariants as status
use Rattle.server_doors.specs.Doors.{DoorMeaning}
use Rattle.server_roles.specs.Conns.{is_door_fault}
use Rattle.server_roles.specs.Ends.{Roles}
use Rattle.server_roles.specs.declared.first.Ending.{Ending}
use Rattle.server_roles.specs.declared.job.Job.{Job}
use Rattle.server_roles.specs.declared.roles.ServerEnd.{ServerEnd}
use Rattle.newsdesk_server.specs.Ready.{IsReady, IsHeld}
use Rattle.newsdesk_server.specs.Serving.{Ran, HasRun}
use Rattle.newsdesk_server.specs.Summary.{summary_at, status_of, IsPrinted}
use Rattle.newsdesk_server.specs.Workers.{IsNewPass, IsNew, pass_of}
use Rattle.newsdesk_server.specs.declared.prepare.Ready.{Ready}
use Rattle.newsdesk_server.specs.declared.setup.Setup.{Setup}
use Rattle.newsdesk_server.specs.declared.setup.Served.{Served}
use Rattle.newsdesk_server.proofs.Stops.{roles_stop}

-- ---- when it is full

memory_full : status.Memory ≡ status.Full → ⊥
memory_full is = cc

full_by : (s : Status) (n : ℕ) (R : Type 0) → ((s ≡ status.Full) × (1073741824 < n) × R) ⊎ ((s ≡ status.Memory) × (n ≤ 1073741824)) → (s ≡ status.Full → 1073741824 < n) × (1073741824 < n → s ≡ status.Full)
full_by s n R (inl full) = (λ is. full.1, λ big. full.0)
full_by s n R (inr none) = (λ is. absurd (memory_full (sym none.0 ∙ is)), λ big. absurd (omega (arith, big, none.1)))

-- one that does not begin is full exactly where a stop finds no place
pub held_full : {K C G L : Type 0} (keeper : KeeperMeaning K) (given : Setup K C G L) (served : Served K G L) → IsHeld keeper given served
    → (served.status ≡ status.Full → 1073741824 < keeper.used given.room.keeper + 14) × (1073741824 < keeper.used given.room.keeper + 14 → served.status ≡ status.Full)
held_full keeper given served held = full_by served.status (keeper.used given.room.keeper + 14) (served.room ≡ given.room) held.why

done_full : status.Done ≡ status.Full → ⊥
done_full is = cc

input_full : status.Input ≡ status.Full → ⊥
input_full is = cc

output_full : status.Output ≡ status.Full → ⊥
output_full is = cc

-- one that ran is not
pub printed_full : {O : Type 0} (sink : SinkMeaning O) (summary : Bytes) (ending : Ending) (old new : O) (came : Status) → IsPrinted sink summary (status_of ending) old new came → came ≡ status.Full → ⊥
printed_full sink summary (Ending.Stopped place) old new came (inl all) is = done_full (sym all.0 ∙ is)
printed_full sink summary Ending.DoorFault old new came (inl all) is = input_full (sym all.0 ∙ is)
printed_full sink summary ending old new came (inr (inl cut)) is = output_full (sym cut.0 ∙ is)
printed_full sink summary ending old new came (inr (inr none)) is = memory_full (sym none.0 ∙ is)

-- ---- a server that ran

module _ {K C G L : Type 0} (keeper : KeeperMeaning K) (clock : ClockMeaning C) (door : DoorMeaning G) (link : LinkMeaning L) where
  roles_from : (r r' : Room K) (base : ℕ) (old old' new : G) (c : C) (xs : List Entry) (ks : List Call) (jobs : List (Job C L)) (links links' : List L) (ending : Ending) (more : List Entry)
      → Roles door clock link base (Stands keeper r) old new c xs ks jobs links links' ending more → r ≡ r' → old ≡ old' → xs ≡ [] → ks ≡ [] → links ≡ []
      → Roles door clock link base (Stands keeper r') old' new c [] [] jobs [] links' ending more
  roles_from r r' base old old' new c xs ks jobs links links' ending more roles room same none no_calls no_links =
      subst (λ (l : List L). Roles door clock link base (Stands keeper r') old' new c [] [] jobs l links' ending more) no_links
      (subst (λ (l : List Call). Roles door clock link base (Stands keeper r') old' new c [] l jobs links links' ending more) no_calls
      (subst (λ (l : List Entry). Roles door clock link base (Stands keeper r') old' new c l ks jobs links links' ending more) none
      (subst (λ (d : G). Roles door clock link base (Stands keeper r') d new c xs ks jobs links links' ending more) same
      (subst (λ (x : Room K). Roles door clock link base (Stands keeper x) old new c xs ks jobs links links' ending more) room roles))))

  module _ (given : Setup K C G L) (ready : Ready K C G L) (is : IsReady keeper given ready) where
    -- each pass is of the lock
    pub ready_locks : (lock_of ready.pass ≡ id_of ready.shared) × All (λ (j : Job C L). lock_of j.pass ≡ id_of ready.shared) ready.server.jobs.items
    ready_locks = (is.pass.lock_is, All-weaker (λ (j : Job C L). IsNewPass (id_of ready.shared) [] (pass_of j)) (λ (j : Job C L). lock_of j.pass ≡ id_of ready.shared) (λ j p. p.lock_is) ready.server.jobs.items is.passes)

    module _ (room : Room K) (end : ServerEnd G L) (more : List Entry) (stands : (b : Book) → Stands keeper (start_of ready.shared) b → Stands keeper room (onto more b)) where
      -- the room stands for what it stood for at the start, with these more
      pub ran_stands : (b : Book) → Stands keeper given.room b → Stands keeper room (onto more b)
      ran_stands b s = stands b (subst (λ (r : Room K). Stands keeper r b) (sym is.start) s)

      pub ran_some : SomeBook keeper given.room → SomeBook keeper room
      ran_some some = (onto more some.0, ran_stands some.0 some.1)

      pub has_run : {O : Type 0} (sink : SinkMeaning O) (o o' : O) (came : Status)
          → Roles door clock link (base_of ready.shared) (Stands keeper (start_of ready.shared)) ready.server.door end.door ready.server.clock (front ready.pass) (calls ready.pass) ready.server.jobs.items ready.server.links.items end.links.items end.ending more
          → CountsFaults (is_door_fault end.ending) (door.faults ready.server.door) (door.faults end.door)
          → ((b : Book) → Stands keeper room b → IsPrinted sink (summary_at b.list) (status_of end.ending) o o' came)
          → HasRun keeper clock door link given (record { status = came; room = room; door = end.door; links = end.links }) sink o o'
      has_run sink o o' came roles faults printed =
          let served : Served K G L = record { status = came; room = room; door = end.door; links = end.links } in
          let ran : Roles door clock link (base_of ready.shared) (Stands keeper given.room) given.door end.door ready.server.clock [] [] ready.server.jobs.items [] end.links.items end.ending more =
          roles_from (start_of ready.shared) given.room (base_of ready.shared) ready.server.door given.door end.door ready.server.clock (front ready.pass) (calls ready.pass) ready.server.jobs.items ready.server.links.items end.links.items end.ending more
          roles is.start is.door is.pass.front_is is.pass.calls_are is.no_links in
          let new : All (λ (j : Job C L). IsNew j) ready.server.jobs.items =
          All-weaker (λ (j : Job C L). IsNewPass (id_of ready.shared) [] (pass_of j)) (λ (j : Job C L). IsNew j) (λ j p. record { front_is = p.front_is; calls_are = p.calls_are }) ready.server.jobs.items is.passes in
          let all : Ran keeper clock door link given served end.ending more = record {
            base = base_of ready.shared;
            base_is = is.base;
            first_clock = ready.server.clock;
            workers = ready.server.jobs.items;
            clocks_are = is.clocks;
            links_are = is.links;
            new_workers = new;
            roles = ran;
            door_faults = subst (λ (d : G). CountsFaults (is_door_fault end.ending) (door.faults d) (door.faults end.door)) is.door faults;
            stop = λ b s. roles_stop door clock link (base_of ready.shared) (Stands keeper given.room) given.door end.door ready.server.clock ready.server.jobs.items end.links.items more end.ending ran b s (is.base b s);
          } in
          record {
            ending = end.ending;
            more = more;
            stands = ran_stands;
            ran = all;
            printed = λ b s. printed (onto more b) (ran_stands b s);
          }
