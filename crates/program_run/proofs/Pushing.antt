-- What `drain` does, said of bytes, lists, events and output.
use Rattle.std.proofs.Common.{◌≡◌, ◌⊎◌, inl, inr, ℕ, ◌+◌, Bool, true, List, ◌++◌, map, refl, sym, ap, ap₂, ◌∙◌, subst}
use Rattle.news_types.specs.Books.{Book, onto}
use Rattle.news_types.specs.Names.{Bytes}
use Rattle.news_types.specs.History.{History}
use Rattle.news_types.specs.Frames.{Writer}
use Rattle.feed_frames.specs.Writer.{the_writer}
use Rattle.entry_codec.specs.Spelling.{entry_bytes}
use Rattle.news_io.specs.Clock.{Gave}
use Rattle.news_io.specs.Keeper.{KeeperMeaning}
use Rattle.news_io.specs.Outside.{Meanings, Outside, store_faults}
use Rattle.news_io.specs.Sink.{AreFirst}
use Rattle.news_pair.specs.Keeper.{pair_of}
use Rattle.news_pair.specs.declared.pair.Pair.{Pair}
use Rattle.news_room.specs.Events.{Serves}
use Rattle.store_files.specs.Holds.{Holds}
use Rattle.store_files.proofs.Holding.{calls_shut}
use Rattle.run_status.specs.Output.{Told}
use Rattle.run_status.specs.Status.{number_of, line_of}
use Rattle.run_status.specs.declared.status.Status.{Status}
use Rattle.publish_workers.specs.declared.drain.Drained.{Drained}
use Rattle.publish_workers.specs.Drains.{is_store_end}
use Rattle.publish_workers.specs.Links.{CountsFaults}
use Rattle.publish_workers.specs.LinkDrains.{end_of_all, LinksDrained}
use Rattle.publish_workers.specs.Statuses.{drain_status}
use Rattle.world_laws.specs.World.{World, Event, run}
use Rattle.newsdesk_cli.specs.Command.{HasDrained, IsDrain}
use Rattle.program_events.specs.Drains.{pushed}
use Rattle.program_events.specs.Leads.{Lead, LeadsOn}
use Rattle.program_events.proofs.Pushing.{lead_turns}
use Rattle.program_run.specs.Inputs.{newsroom_formats}
use Rattle.program_run.specs.Left.{ThisWriter, GoesOnAs}
use Rattle.program_run.specs.Pushed.{all_events, pushes, ended, some_in, is_lost, is_refused, told_as, Causes, Printed, Pushed}
use Rattle.program_run.specs.Refused.{NotOpened}
use Rattle.program_run.specs.Finding.{the_finders}
use Rattle.program_run.proofs.Going.{Doubted, Went, goes_on_as}
use Rattle.program_run.proofs.PushOne.{Uses}
use Rattle.program_run.proofs.PushLinks.{DrainsPushed, drains_pushed, causes_at, status_told, done_idle}
use Rattle.program_run.proofs.PushWithin.{size_is}
use Rattle.program_run.proofs.Refusing.{not_opened}

module _ {D S O C L : Type 0} (m : Meanings D S O C L) (before after : Outside D S O C L) (number : ℕ) where
  abbrev Drains : Type 0
  Drains = HasDrained m.disk m.clock m.sink before.log after.log before.side after.side before.output after.output before.clock after.clock number m.link before.links after.links

  abbrev keeper : KeeperMeaning (Pair D)
  keeper = pair_of m.disk

  abbrev PushedBy : Writer → World → List Event → Type 0
  PushedBy write w events = Pushed newsroom_formats m before after number write w events

  module _ (input : after.input ≡ before.input) (did : Drains) (told : Bool) (tells : told ≡ true → m.disk.tells before.log × m.disk.tells before.side) where
    abbrev here : Book
    here = record { store = did.went.opened.store; told = told; list = did.went.opened.history }

    held : Holds keeper did.went.room here 65
    held = did.went.opened.holds told tells

    drained : LinksDrained keeper did.went.room did.went.after here (map m.link.serves before.links) did.drained.drains did.drained.more
    drained = did.drained.room here held.stands

    uses : Uses keeper did.went.room here
    uses = held.uses ∙ sym (size_is did.went.opened.history)

    none_before : (payload : Bytes) → keeper.doubts did.went.room.keeper payload → ⊥
    none_before payload doubt = calls_shut did.went.room.keeper.log.ajar did.went.opened.quiet doubt.is_ajar

    abbrev now : History
    now = (onto did.drained.more here).list

    -- how all of it ended
    abbrev end : Drained
    end = end_of_all did.drained.drains

    -- the counts of the store's files
    abbrev failed : ℕ → ℕ → Type 0
    failed x y = CountsFaults (is_store_end end) x y

    counted : failed (store_faults m before) (store_faults m after)
    counted =
        subst (failed (store_faults m before)) (ap₂ (λ (x y : D). m.disk.faults x + m.disk.faults y) (sym did.went.same) (sym did.went.same_side))
        (subst (λ (x : ℕ). failed x (keeper.faults did.went.after.keeper)) did.went.opened.calm did.drained.store_faults)

    module _ (w : World) (same : w.server.list ≡ did.went.opened.history) where
      abbrev write : Writer
      write = the_writer did.went.opened.store

      serves : Serves keeper did.went.room here w.server
      serves = record { list_is = same; doubt = λ is payload doubt. absurd (none_before payload doubt) }

      all : DrainsPushed m before after number keeper here w did.went.room did.went.after did.drained.more did.drained.drains after.links
      all = drains_pushed m before after number keeper here w did.drained.drains did.went.room did.went.after did.drained.more after.links drained.drains did.drained.links did.drained.but_last serves uses

      abbrev events : List Event
      events = all_events write w (pushes all.drains)

      abbrev lost : Bool
      lost = some_in write is_lost w (pushes all.drains)

      abbrev refused : Bool
      refused = some_in write is_refused w (pushes all.drains)

      why_is : drain_status end ≡ told_as (ended all.drains) lost refused
      why_is = status_told end lost refused all.idle_is ∙ ap (λ (s : Status). told_as s lost refused) (sym all.ended_is)

      printed : m.sink.tells before.output → Printed newsroom_formats m before after number write w did.drained.told (pushes all.drains)
      printed told_out =
          let p = did.drained.lines told_out in
          record {
            told = p.tells;
            front = p.front;
            first = subst (AreFirst p.front) (sym all.last) p.first;
            taken = p.taken ∙ ap (λ (l : Bytes). m.sink.taken before.output ++ (l ++ p.front)) (sym all.lines);
          }

      has_pushed : PushedBy write w events
      has_pushed = record {
        drains = all.drains;
        links = all.linked;
        all = λ done. all.count ∙ did.drained.all (done_idle end (sym all.ended_is ∙ done));
        events_are = refl;
        reads = record {
          told = λ t. (did.drained.readings t).tells;
          gave = λ t. subst (λ (l : List ℕ). Gave (m.clock.ahead before.clock) l (m.clock.ahead after.clock)) (sym all.took) (did.drained.readings t).gave;
        };
        mid = did.drained.told;
        printed = printed;
        causes = subst (Causes (store_faults m before) (store_faults m after) (m.sink.faults before.output) (m.sink.faults did.drained.told)) (sym all.ended_is)
            (causes_at (store_faults m before) (store_faults m after) (m.sink.faults before.output) (m.sink.faults did.drained.told) end counted did.drained.output_faults);
        why = told_as (ended all.drains) lost refused;
        why_is = refl;
        number_is = did.drained.status_is ∙ ap number_of why_is;
        line = subst (λ (s : Status). Told m.sink did.drained.told after.output (line_of s)) why_is did.drained.line;
        input = input;
      }

      leads_on : LeadsOn write w now (Doubted m before after number did.went told) events
      leads_on = record {
        lead = subst (λ (es : List Event). Lead write w es now) (sym all.events.1)
            (subst (Lead write w (pushed all.events.0)) (ap (λ (es : List Event). (run write es w).server.list) (sym all.events.1) ∙ all.serves.list_is) (lead_turns write w all.events.0));
        doubt = λ e d. all.doubted d.0 (λ x was. absurd (none_before (entry_bytes x) was.1)) e d.1;
      }

    drain_went : Went m before after number did.went (ThisWriter newsroom_formats.writer) PushedBy told
    drain_went = record {
      now = now;
      stands = drained.stands;
      happened = λ write is w same.
          subst (λ (u : Writer). (events : List Event) × PushedBy u w events × LeadsOn u w now (Doubted m before after number did.went told) events) (sym is) (events w same, has_pushed w same, leads_on w same);
    }

  -- what the words `drain` do, by the older clause
  pub drain_does : after.input ≡ before.input → IsDrain m.disk m.clock m.sink before.log after.log before.side after.side before.output after.output before.clock after.clock number m.link before.links after.links
      → NotOpened the_finders m before after number ⊎ GoesOnAs m before after number newsroom_formats.writer PushedBy
  drain_does input (inl not_begun) = inl (not_opened m before after number not_begun.why.why input not_begun.why.clock_same not_begun.links_same)
  drain_does input (inr did) = inr (goes_on_as m before after number did.went PushedBy newsroom_formats.writer (λ told tells. drain_went input did told tells))
