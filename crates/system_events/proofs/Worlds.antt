-- What events of the newsroom keep of the receivers, and what those of a receiver keep of the rest.
use Rattle.std.specs.List.{slice_get}
use Rattle.std.proofs.Common.{◌≡◌, ℕ, suc, true, false, cond, List, [], ◌∷◌, ◌++◌, Option, Some, None, refl, sym, ap, ◌∙◌, subst}
use Rattle.news_types.specs.Names.{Bytes, same}
use Rattle.news_types.specs.Calls.{Fate}
use Rattle.news_types.specs.Frames.{Frame, Writer}
use Rattle.news_types.specs.Receiver.{Receiver, restarted}
use Rattle.news_types.proofs.Members.{same_is, same_self}
use Rattle.world_laws.specs.World.{World, Event, Requests, Ingests, Ticks, Halts, Asks, Claims, Sends, FrameComes, ReceiptComes, Forges, Reopens, ReceiverReopens, SentReceipt, send, receipt_comes, one_of, frame_comes, happens, run}
use Rattle.receiver_events.specs.Receptions.{WasSent, WereSent, AreComings, AreBegun, OnlyReceives}
use Rattle.receiver_events.proofs.Coming.{only_same, only_then, one_only}
use Rattle.system_events.specs.Systems.{AreOfFeeds, sendings, Holds}

-- ---- lists of events

abbrev pub AllOf : (Event → Type 0) → List Event → Type 0
AllOf P [] = Unit {0}
AllOf P (e ∷ events) = P e × AllOf P events

module _ (P : Event → Type 0) where
  pub all_then : (xs ys : List Event) → AllOf P xs → AllOf P ys → AllOf P (xs ++ ys)
  all_then [] ys a b = b
  all_then (e ∷ xs) ys a b = (a.0, all_then xs ys a.1 b)

  pub all_first : (xs ys : List Event) → AllOf P (xs ++ ys) → AllOf P xs
  all_first [] ys a = tt
  all_first (e ∷ xs) ys a = (a.0, all_first xs ys a.1)

-- ---- events of the newsroom

abbrev pub OfNewsroom : Event → Type 0
OfNewsroom (FrameComes which s fate) = ⊥
OfNewsroom (ReceiverReopens s which) = ⊥
OfNewsroom e = Unit {0}

send_keeps : (found : Option Frame) (w : World) → (send found w).receivers ≡ w.receivers
send_keeps None w = refl
send_keeps (Some f) w = refl

receipt_keeps : (write : Writer) (w : World) (reading : ℕ) (fate : Fate) (found : Option SentReceipt) → (receipt_comes write w reading fate found).receivers ≡ w.receivers
receipt_keeps write w reading fate None = refl
receipt_keeps write w reading fate (Some r) = refl

-- the receivers stay
one_keeps : (write : Writer) (w : World) (e : Event) → OfNewsroom e → (happens write w e).receivers ≡ w.receivers
one_keeps write w (Requests caller number command reading fate) is = refl
one_keeps write w (Ingests name come reading fate) is = refl
one_keeps write w (Ticks reading fate) is = refl
one_keeps write w (Halts reading fate) is = refl
one_keeps write w (Asks query reading fate) is = refl
one_keeps write w (Claims names reading first second) is = refl
one_keeps write w (Sends s k) is = send_keeps _ w
one_keeps write w (FrameComes which s fate) is = absurd is
one_keeps write w (ReceiptComes which reading fate) is = receipt_keeps write w reading fate (slice_get w.receipts which)
one_keeps write w (Forges s n reading fate) is = refl
one_keeps write w (Reopens which) is = refl
one_keeps write w (ReceiverReopens s which) is = absurd is

pub all_keep : (write : Writer) (events : List Event) (w : World) → AllOf OfNewsroom events → (run write events w).receivers ≡ w.receivers
all_keep write [] w a = refl
all_keep write (e ∷ events) w a = all_keep write events (happens write w e) a.1 ∙ one_keeps write w e a.0

-- ---- frames that are sent

pub record Sent (w v : World) (frames : List Frame) : Type 0 where
  pub server : v.server ≡ w.server
  pub receivers : v.receivers ≡ w.receivers
  pub more : (g : Frame) → WasSent w.frames g → WasSent v.frames g
  pub sent : WereSent v.frames frames

pub sends : (write : Writer) (frames : List Frame) (w : World) → AreOfFeeds write w.server.list frames → Sent w (run write (sendings frames) w) frames
sends write [] w a = record { server = refl; receivers = refl; more = λ g s. s; sent = tt }
sends write (f ∷ frames) w a =
    let next : World = record w { frames = f ∷ w.frames } in
    let is : happens write w (Sends f.to f.k) ≡ next = ap (λ (o : Option Frame). send o w) a.0 in
    let rest : Sent next (run write (sendings frames) next) frames = sends write frames next a.1 in
    let first : WasSent next.frames f = (0, refl) in
    subst (λ (v : World). Sent w (run write (sendings frames) v) (f ∷ frames)) (sym is)
    (record { server = rest.server; receivers = rest.receivers; more = λ g s. rest.more g (suc s.0, s.1); sent = (rest.more f first, rest.sent) })

-- ---- events of a receiver

abbrev pub OfReceiver : Bytes → Event → Type 0
OfReceiver name e = (which : ℕ) × (fate : Fate) × (e ≡ FrameComes which name fate)

comes_only : (write : Writer) (name : Bytes) (w : World) (which : ℕ) (fate : Fate) → OnlyReceives w (happens write w (FrameComes which name fate)) name
comes_only write name w which fate = by (slice_get w.frames which) refl
  where
    by : (found : Option Frame) → slice_get w.frames which ≡ found → OnlyReceives w (happens write w (FrameComes which name fate)) name
    by None is = subst (λ (o : Option Frame). OnlyReceives w (frame_comes w name fate o) name) (sym is) (only_same w name)
    by (Some f) is = one_only write name w f which fate is

pub own_only : (write : Writer) (name : Bytes) (events : List Event) (w : World) → AllOf (OfReceiver name) events → OnlyReceives w (run write events w) name
own_only write name [] w a = only_same w name
own_only write name (e ∷ events) w a =
    let one : OnlyReceives w (happens write w e) name = subst (λ (x : Event). OnlyReceives w (happens write w x) name) (sym a.0.2) (comes_only write name w a.0.0 a.0.1) in
    only_then w (happens write w e) (run write events (happens write w e)) name one (own_only write name events (happens write w e) a.1)

none_own : (name : Bytes) (events : List Event) → events ≡ [] → AllOf (OfReceiver name) events
none_own name events is = subst (AllOf (OfReceiver name)) (sym is) tt

pub comings_own : (ever : List Frame) (name : Bytes) (fate : Fate) (frames : List Frame) (events : List Event) → AreComings ever name fate frames events → AllOf (OfReceiver name) events
comings_own ever name fate [] events is = none_own name events is
comings_own ever name fate (f ∷ frames) [] is = absurd is
comings_own ever name fate (f ∷ frames) (e ∷ events) is = ((is.0.0, fate, is.0.2), comings_own ever name fate frames events is.1)

pub begun_own : (ever : List Frame) (name : Bytes) (fate : Option Fate) (frames : List Frame) (events : List Event) → AreBegun ever name fate frames events → AllOf (OfReceiver name) events
begun_own ever name None frames events is = none_own name events is
begun_own ever name (Some fate) frames events is = comings_own ever name fate frames events is

-- ---- a receiver that reopens

abbrev pub restart : Receiver → Option ℕ → Receiver
restart r own = restarted r (one_of r.doubt own)

module _ (write : Writer) (w : World) (s : Bytes) (own : Option ℕ) where
  pub reopens_mine : (happens write w (ReceiverReopens s own)).receivers s ≡ restart (w.receivers s) own
  reopens_mine = rw (same_self s) refl

  pub reopens_theirs : (t : Bytes) → (s ≡ t → ⊥) → (happens write w (ReceiverReopens s own)).receivers t ≡ w.receivers t
  reopens_theirs t differ = elim (same s t) as (λ b. same s t ≡ b → cond b (restart (w.receivers s) own) (w.receivers t) ≡ w.receivers t) [
    | true ↦ λ alike. absurd (differ (same_is s t alike))
    | false ↦ λ unlike. refl
  ] refl

-- a file gives what a receiver reopens with, as one of its doubt or none says
abbrev pub Standing : Receiver → Bytes → List ℕ → Type 0
Standing r name file = (own : Option ℕ) × Holds name file (restart r own).held
