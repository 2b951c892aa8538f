-- The events of members lead from list to list, one entry at a time.
use Rattle.std.proofs.Common.{◌≡◌, ℕ, List, [], ◌∷◌, ◌++◌, Option, sym, ap, ◌∙◌, subst}
use Rattle.news_types.specs.declared.entry.Entry.{Entry}
use Rattle.news_types.specs.History.{History}
use Rattle.news_types.specs.Frames.{Writer}
use Rattle.news_types.specs.Calls.{Fate, IsKept, list_after}
use Rattle.news_types.specs.Server.{Server}
use Rattle.line_run.specs.Life.{Meaning}
use Rattle.line_run.specs.Turns as line
use Rattle.line_run.specs.Turns.{after}
use Rattle.news_room.specs.Steps.{entries}
use Rattle.world_laws.specs.World.{World, run}
use Rattle.world_laws.specs.World as world
use Rattle.program_events.specs.Leads.{Lead}
use Rattle.program_events.proofs.Leading.{lead_none, lead_more}
use Rattle.program_run.specs.Members.{Input, turn_events}
use Rattle.program_run.proofs.Means.{Means, put_list}
use Rattle.program_run.proofs.Turns.{run_on, turns_of}

module _ {X : Type 0} (M : Meaning Entry X) (input : Input X) (means : Means M input) where
  -- one more member, of any fate
  pub one_leads : (write : Writer) (w : World) (events : List world.Event) (g : History) (x : X) (at : ℕ) (fate : Fate) (kept : Option Entry) → Lead write w events g
      → ((h : History) → list_after h (means.next g x at) fate ≡ entries kept ++ h) → Lead write w (events ++ input.events x at fate) (entries kept ++ g)
  one_leads write w events g x at fate kept lead fares =
      let v : World = run write events w in
      lead_more write w events (input.events x at fate) g kept lead (
      ap (λ (u : World). u.server.list) (run_on write events (input.events x at fate) w)
      ∙ ap (λ (c : Server). c.list) (means.server write v x at fate)
      ∙ ap (λ (h : History). list_after h (means.next h x at) fate) lead.list
      ∙ fares g
      )

  pub turns_lead : (write : Writer) (w : World) (h : History) → w.server.list ≡ h → (ts : List (line.Turn X)) → Lead write w (turn_events input (turns_of ts)) (after M h ts)
  turns_lead write w h is [] = subst (Lead write w []) is (lead_none write w)
  turns_lead write w h is (t ∷ ts) =
      let g : History = after M h ts in
      let o : Option Entry = means.next g t.line t.at in
      subst (λ (es : List Entry). Lead write w (turn_events input (turns_of ts) ++ input.events t.line t.at IsKept) (es ++ g)) (sym (means.adds g t.line t.at))
      (one_leads write w (turn_events input (turns_of ts)) g t.line t.at IsKept o (turns_lead write w h is ts) (λ k. put_list k o))
