-- The events of turns lead from list to list, one entry at a time.
use Rattle.std.proofs.Common.{◌≡◌, ℕ, List, [], ◌∷◌, ◌++◌, Option, Some, None, refl, sym, ap, ◌∙◌, subst, append_assoc, append-nil}
use Rattle.news_types.specs.declared.entry.Entry.{Entry}
use Rattle.news_types.specs.Names.{Bytes}
use Rattle.news_types.specs.History.{History, moment_at}
use Rattle.news_types.specs.Frames.{Frame, Writer, frame_at}
use Rattle.news_types.specs.Calls as call
use Rattle.news_types.specs.Calls.{Fate, IsKept, IsFull, IsFailed, IsStarved, follow, list_after}
use Rattle.news_types.specs.Server.{Server, claimed_at}
use Rattle.news_room.specs.Steps.{entries}
use Rattle.news_room.specs.declared.claim.Claimed.{Claimed}
use Rattle.publish_workers.specs.Events.{sendings}
use Rattle.publish_workers.specs.Turns.{Exchange, Unsent, Unread, Replied, Receipted}
use Rattle.world_laws.specs.World.{World, Event, Claims, Sends, Forges, send, happens, run}
use Rattle.program_events.specs.Drains.{WorldTurn, arrivals, events_in, pushed}
use Rattle.program_events.specs.Leads.{BeforeAttempt, Lead}
use Rattle.program_events.proofs.Leading.{lead_none, lead_more, lead_two}
use Rattle.program_events.proofs.Turns.{run_on}

-- ---- an entry of some fate

-- the entry, if it was kept
pub kept_of : Option Entry → Fate → Option Entry
kept_of None fate = None
kept_of (Some e) IsKept = Some e
kept_of (Some e) IsFull = None
kept_of (Some e) IsFailed = None
kept_of (Some e) IsStarved = None

pub after_is : (h : History) (o : Option Entry) (fate : Fate) → list_after h o fate ≡ entries (kept_of o fate) ++ h
unfolding kept_of
after_is h None fate = refl
after_is h (Some e) IsKept = refl
after_is h (Some e) IsFull = refl
after_is h (Some e) IsFailed = refl
after_is h (Some e) IsStarved = refl

failed_after : (h : History) (o : Option Entry) → list_after h o IsFailed ≡ h
failed_after h None = refl
failed_after h (Some e) = refl

module _ (write : Writer) (w : World) where
  -- they lead to the list behind them
  abbrev pub LeadsHere : List Event → Type 0
  LeadsHere events = Lead write w events (run write events w).server.list

  -- ---- one event more

  -- of which one entry follows, or none
  lead_one : (events : List Event) (e : Event) (o : Option Entry) (fate : Fate) → LeadsHere events → (happens write (run write events w) e).server.list ≡ list_after (run write events w).server.list o fate → LeadsHere (events ++ e ∷ [])
  lead_one events e o fate lead is =
      let v : World = run write events w in
      let all : (run write (events ++ e ∷ []) w).server.list ≡ entries (kept_of o fate) ++ v.server.list =
      ap (λ (u : World). u.server.list) (run_on write events (e ∷ []) w) ∙ is ∙ after_is v.server.list o fate in
      subst (Lead write w (events ++ e ∷ [])) (sym all) (lead_more write w events (e ∷ []) v.server.list (kept_of o fate) lead all)

  -- a claim, by the entry of its tick
  claim_by : (events : List Event) (names : List Bytes) (at : ℕ) (first second : Fate) → LeadsHere events → (o : Option Entry)
      → ((s : Fate) → (happens write (run write events w) (Claims names at first s)).server ≡ claimed_at (run write events w).server names (moment_at (run write events w).server.list at) o first s)
      → LeadsHere (events ++ Claims names at first second ∷ [])
  claim_by events names at first second lead None is =
      let v : World = run write events w in
      lead_one events (Claims names at first second) (follow v.server.list (call.Claimed names) (moment_at v.server.list at)) second lead (ap (λ (c : Server). c.list) (is second))
  claim_by events names at IsKept second lead (Some e) is =
      let v : World = run write events w in
      let g : History = v.server.list in
      let next : Option Entry = follow (e ∷ g) (call.Claimed names) (moment_at g at) in
      let half : (run write (events ++ Claims names at IsKept IsFailed ∷ []) w).server.list ≡ e ∷ g =
      ap (λ (u : World). u.server.list) (run_on write events (Claims names at IsKept IsFailed ∷ []) w) ∙ ap (λ (c : Server). c.list) (is IsFailed) ∙ failed_after (e ∷ g) next in
      let all : (run write (events ++ Claims names at IsKept second ∷ []) w).server.list ≡ entries (kept_of next second) ++ (e ∷ g) =
      ap (λ (u : World). u.server.list) (run_on write events (Claims names at IsKept second ∷ []) w) ∙ ap (λ (c : Server). c.list) (is second) ∙ after_is (e ∷ g) next second in
      subst (Lead write w (events ++ Claims names at IsKept second ∷ [])) (sym all)
      (lead_two write w events (Claims names at IsKept second) (Claims names at IsKept IsFailed) g (Some e) (kept_of next second) lead (BeforeAttempt names at IsKept second) half all)
  claim_by events names at IsFull second lead (Some e) is = lead_one events (Claims names at IsFull second) (Some e) IsFull lead (ap (λ (c : Server). c.list) (is second))
  claim_by events names at IsFailed second lead (Some e) is = lead_one events (Claims names at IsFailed second) (Some e) IsFailed lead (ap (λ (c : Server). c.list) (is second))
  claim_by events names at IsStarved second lead (Some e) is = lead_one events (Claims names at IsStarved second) (Some e) IsStarved lead (ap (λ (c : Server). c.list) (is second))

  lead_claim : (events : List Event) (names : List Bytes) (at : ℕ) (first second : Fate) → LeadsHere events → LeadsHere (events ++ Claims names at first second ∷ [])
  lead_claim events names at first second lead =
      let v : World = run write events w in
      claim_by events names at first second lead (follow v.server.list call.Ticked (moment_at v.server.list at)) (λ s. refl)

  pub send_server : (o : Option Frame) (v : World) → (send o v).server ≡ v.server
  send_server None v = refl
  send_server (Some f) v = refl

  lead_send : (events : List Event) (s : Bytes) (k : ℕ) → LeadsHere events → LeadsHere (events ++ Sends s k ∷ [])
  lead_send events s k lead =
      let v : World = run write events w in
      lead_one events (Sends s k) None IsKept lead (ap (λ (c : Server). c.list) (send_server (frame_at write v.server.list s k) v))

  lead_receipt : (events : List Event) (s : Bytes) (n at : ℕ) (fate : Fate) → LeadsHere events → LeadsHere (events ++ Forges s n at fate ∷ [])
  lead_receipt events s n at fate lead =
      let v : World = run write events w in
      lead_one events (Forges s n at fate) (follow v.server.list (call.Receipted s n) (moment_at v.server.list at)) fate lead refl

  -- none more
  lead_on : (events : List Event) → LeadsHere events → LeadsHere (events ++ [])
  lead_on events lead = subst LeadsHere (sym (append-nil events)) lead

  -- ---- turns

  lead_sendings : (events : List Event) (claimed : Claimed) (exchange : Exchange) → LeadsHere events → LeadsHere (events ++ sendings claimed exchange)
  lead_sendings events (Claimed.Job s k frame front) Unsent lead = lead_on events lead
  lead_sendings events (Claimed.Job s k frame front) Unread lead = lead_send events s k lead
  lead_sendings events (Claimed.Job s k frame front) (Replied reply) lead = lead_send events s k lead
  lead_sendings events (Claimed.Job s k frame front) (Receipted reply n at kept) lead = lead_send events s k lead
  lead_sendings events (Claimed.Idle next) exchange lead = lead_on events lead
  lead_sendings events Claimed.Fault exchange lead = lead_on events lead
  lead_sendings events (Claimed.Full size count) exchange lead = lead_on events lead
  lead_sendings events Claimed.Memory exchange lead = lead_on events lead

  lead_arrivals : (events : List Event) (claimed : Claimed) (exchange : Exchange) (fate : Fate) → LeadsHere events → LeadsHere (events ++ arrivals claimed exchange fate)
  lead_arrivals events (Claimed.Job s k frame front) Unsent fate lead = lead_on events lead
  lead_arrivals events (Claimed.Job s k frame front) Unread fate lead = lead_on events lead
  lead_arrivals events (Claimed.Job s k frame front) (Replied reply) fate lead = lead_on events lead
  lead_arrivals events (Claimed.Job s k frame front) (Receipted reply n at kept) fate lead = lead_receipt events s n at fate lead
  lead_arrivals events (Claimed.Idle next) exchange fate lead = lead_on events lead
  lead_arrivals events Claimed.Fault exchange fate lead = lead_on events lead
  lead_arrivals events (Claimed.Full size count) exchange fate lead = lead_on events lead
  lead_arrivals events Claimed.Memory exchange fate lead = lead_on events lead

  lead_turn : (events : List Event) (t : WorldTurn) → LeadsHere events → LeadsHere (events ++ events_in t)
  lead_turn events t lead =
      let claim : List Event = Claims t.names t.turn.reading t.first t.second ∷ [] in
      let sent : List Event = sendings t.turn.claimed t.turn.exchange in
      let come : List Event = arrivals t.turn.claimed t.turn.exchange t.third in
      let all : LeadsHere (((events ++ claim) ++ sent) ++ come) =
      lead_arrivals ((events ++ claim) ++ sent) t.turn.claimed t.turn.exchange t.third
      (lead_sendings (events ++ claim) t.turn.claimed t.turn.exchange (lead_claim events t.names t.turn.reading t.first t.second lead)) in
      subst LeadsHere (append_assoc (events ++ claim) sent come ∙ append_assoc events claim (sent ++ come)) all

  pub lead_turns : (ts : List WorldTurn) → LeadsHere (pushed ts)
  lead_turns [] = lead_none write w
  lead_turns (t ∷ ts) = lead_turn (pushed ts) t (lead_turns ts)
