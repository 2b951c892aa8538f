-- One event more: what becomes of its entry, of the list and of what is in doubt.
use Rattle.std.proofs.Common.{◌≡◌, List, [], ◌∷◌, ◌++◌, Option, Some, None, refl, sym, ap, ◌∙◌, subst}
use Rattle.news_types.specs.Books.{followed_by}
use Rattle.news_types.specs.Calls as call
use Rattle.news_types.specs.Calls.{Fate, IsKept, IsFull, IsFailed, IsStarved, Answer, given, follow, list_after, doubt_after}
use Rattle.news_types.specs.declared.entry.Entry.{Entry}
use Rattle.news_types.specs.Frames.{Writer}
use Rattle.news_types.specs.History.{History}
use Rattle.news_types.specs.Server.{Server, put}
use Rattle.world_laws.specs.World.{World, Event, happens, run}
use Rattle.program_events.specs.Leads.{IsOneOf, Lead}
use Rattle.program_events.proofs.Leading.{lead_more}
use Rattle.program_events.proofs.Reports.{Fares}
use Rattle.program_events.proofs.Turns.{run_on}

-- ---- entries that are not kept

pub starved_fares : (h : History) (next : Option Entry) (more : List Entry) → more ≡ [] → Fares h next IsStarved more
starved_fares h None more is = record { kept = None; list = refl; is = ap (λ es. followed_by es h) is }
starved_fares h (Some e) more is = record { kept = None; list = refl; is = ap (λ es. followed_by es h) is }

pub given_kept : (next : Option Entry) (a : Answer) → given next IsKept a ≡ a
given_kept None a = refl
given_kept (Some e) a = refl

pub given_starved : (next : Option Entry) (a : Answer) → given next IsStarved a ≡ call.Memory
given_starved None a = refl
given_starved (Some e) a = refl

-- ---- an event that puts what follows the list

module _ (write : Writer) (w : World) (events : List Event) (g : History) (lead : Lead write w events g) (e : Event) (next : History → Option Entry) (fate : Fate)
    (server : (v : World) → (happens write v e).server ≡ put v.server (next v.server.list) fate) (more : List Entry) (fares : Fares g (next g) fate more) where
  abbrev v : World
  v = run write events w

  pub step_list : (run write (events ++ e ∷ []) w).server.list ≡ followed_by more g
  step_list =
      ap (λ (u : World). u.server.list) (run_on write events (e ∷ []) w)
      ∙ ap (λ (c : Server). c.list) (server v)
      ∙ ap (λ (h : History). list_after h (next h) fate) lead.list
      ∙ fares.list
      ∙ sym fares.is

  pub step_lead : Lead write w (events ++ e ∷ []) (followed_by more g)
  step_lead = subst (Lead write w (events ++ e ∷ [])) (sym fares.is) (lead_more write w events (e ∷ []) g fares.kept lead (step_list ∙ fares.is))

  step_doubt : (run write (events ++ e ∷ []) w).server.doubt ≡ doubt_after v.server.doubt (next g) fate
  step_doubt =
      ap (λ (u : World). u.server.doubt) (run_on write events (e ∷ []) w)
      ∙ ap (λ (c : Server). c.doubt) (server v)
      ∙ ap (λ (h : History). doubt_after v.server.doubt (next h) fate) lead.list

  -- the entry that failed is in doubt
  pub failed_doubt : (x : Entry) → next g ≡ Some x → fate ≡ IsFailed → IsOneOf (run write (events ++ e ∷ []) w).server.doubt x
  failed_doubt x is failed =
      subst (λ (l : List Entry). IsOneOf l x) (sym step_doubt)
      (subst (λ (f : Fate). IsOneOf (doubt_after v.server.doubt (next g) f) x) (sym failed)
      (subst (λ (o : Option Entry). IsOneOf (doubt_after v.server.doubt o IsFailed) x) (sym is) (0, refl)))
