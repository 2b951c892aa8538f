-- Frames that come to a receiver of the world, one after the other.
use Rattle.std.proofs.Common.{◌≡◌, ℕ, ◌+◌, ◌≤◌, Bool, List, [], ◌∷◌, ◌++◌, length, Some, refl, sym, ap, ◌∙◌, subst, arith, append_assoc, length-append}
use Rattle.std.proofs.lemmas.List.{append-nil}
use Rattle.std.specs.List.{slice_get}
use Rattle.std.specs.Prelude.{IsTrue}
use Rattle.news_types.specs.Names.{Bytes, is_name}
use Rattle.news_types.specs.Frames.{Frame, Writer}
use Rattle.news_types.specs.Calls.{Fate, IsKept}
use Rattle.news_types.specs.Receiver.{Receiver, reaction, taken}
use Rattle.feed_receiver.specs.Spelling.{receipt_bytes}
use Rattle.feed_receiver.proofs.ReceiptLines.{read_again}
use Rattle.frame_run.specs.Answers.{behind, behind_all, receipts}
use Rattle.world_laws.specs.World.{World, Event, FrameComes, SentReceipt, happens, run}
use Rattle.world_laws.specs.Bridge.{receipt_if}
use Rattle.world_laws.proofs.Bridge.{calls_are_events}
use Rattle.receiver_events.specs.Receptions.{WereSent, AreComings, receipt_lines, AreRead, AreReceipts, Lead, OnlyReceives}
use Rattle.receiver_events.proofs.Frames.{kept_held, kept_receipted, taken_goes, Goes}
use Rattle.receiver_events.proofs.Leading.{lead_none, lead_one, lead_then}

-- ---- lists

pub lines_then : (xs ys : List SentReceipt) → receipt_lines (xs ++ ys) ≡ receipt_lines ys ++ receipt_lines xs
lines_then [] ys = sym (append-nil (receipt_lines ys))
lines_then (r ∷ xs) ys = ap (λ (l : Bytes). l ++ receipt_bytes r.from r.count) (lines_then xs ys) ∙ append_assoc (receipt_lines ys) (receipt_lines xs) (receipt_bytes r.from r.count)

-- each is of this name, and tells so many frames at most
abbrev pub AllUpTo : Bytes → ℕ → List SentReceipt → Type 0
AllUpTo name n [] = Unit {0}
AllUpTo name n (r ∷ receipts) = (r.from ≡ name) × (r.count ≤ n) × AllUpTo name n receipts

pub up_to_then : (name : Bytes) (n : ℕ) (xs ys : List SentReceipt) → AllUpTo name n xs → AllUpTo name n ys → AllUpTo name n (xs ++ ys)
up_to_then name n [] ys a b = b
up_to_then name n (r ∷ xs) ys a b = (a.0, a.1, up_to_then name n xs ys a.2 b)

pub up_to_more : (name : Bytes) (m n : ℕ) (xs : List SentReceipt) → m ≤ n → AllUpTo name m xs → AllUpTo name n xs
up_to_more name m n [] le a = tt
up_to_more name m n (r ∷ xs) le a = (a.0, omega (arith, a.1, le), up_to_more name m n xs le a.2)

pub all_read : (name : Bytes) (n : ℕ) (xs : List SentReceipt) → IsTrue (is_name name) → n ≤ 4294967295 → AllUpTo name n xs → AreRead xs
all_read name n [] form le a = tt
all_read name n (r ∷ xs) form le a = (
  read_again.again r.from r.count (subst (λ (s : Bytes). IsTrue (is_name s)) (sym a.0) form, omega (arith, a.1, le)),
  all_read name n xs form le a.2,
)

pub sent_first : (ever xs ys : List Frame) → WereSent ever (xs ++ ys) → WereSent ever xs
sent_first ever [] ys sent = tt
sent_first ever (f ∷ xs) ys sent = (sent.0, sent_first ever xs ys sent.1)

pub sent_last : (ever xs ys : List Frame) → WereSent ever (xs ++ ys) → WereSent ever ys
sent_last ever [] ys sent = sent
sent_last ever (f ∷ xs) ys sent = sent_last ever xs ys sent.1

-- ---- from a world to another one

pub only_same : (w : World) (name : Bytes) → OnlyReceives w w name
only_same w name = record { server = refl; out = refl; frames = refl; others = λ other differ. refl }

pub only_then : (w v u : World) (name : Bytes) → OnlyReceives w v name → OnlyReceives v u name → OnlyReceives w u name
only_then w v u name a b = record {
  server = b.server ∙ a.server;
  out = b.out ∙ a.out;
  frames = b.frames ∙ a.frames;
  others = λ other differ. b.others other differ ∙ a.others other differ;
}

module _ (write : Writer) (name : Bytes) where
  pub one_only : (w : World) (f : Frame) (which : ℕ) (fate : Fate) → slice_get w.frames which ≡ Some f → OnlyReceives w (happens write w (FrameComes which name fate)) name
  one_only w f which fate is =
      let t = calls_are_events.take write w which f name fate is in
      record { server = t.change.server; out = t.change.out; frames = t.change.frames; others = t.change.others }

  pub one_lead : (w : World) (f : Frame) (which : ℕ) (fate : Fate) → slice_get w.frames which ≡ Some f → Lead write w name (FrameComes which name fate ∷ []) ((happens write w (FrameComes which name fate)).receivers name).held
  one_lead w f which fate is =
      let t = calls_are_events.take write w which f name fate is in
      lead_one write name w (FrameComes which name fate) (subst (λ (r : Receiver). Goes (w.receivers name).held r.held) (sym t.change.mine) (taken_goes name (w.receivers name) f fate))

  -- frames that came to the world w, and what of it is another world's now
  pub record Came (w : World) (held : List Frame) (frames : List Frame) : Type 0 where
    pub events : List Event
    pub comings : AreComings w.frames name IsKept frames events
    pub lead : Lead write w name events (behind_all name held frames)
    pub goes : (more : List Frame) × (behind_all name held frames ≡ held ++ more)
    pub only : OnlyReceives w (run write events w) name
    pub sent : List SentReceipt
    pub each : AreReceipts write w name events sent
    pub up_to : AllUpTo name (length (behind_all name held frames)) sent
    pub are : (run write events w).receipts ≡ sent ++ w.receipts
    pub lines : receipt_lines sent ≡ receipts name held frames

  -- each is kept where it is accepted, and has its receipt
  pub all_come : (frames : List Frame) (w : World) (held : List Frame) → (w.receivers name).held ≡ held → WereSent w.frames frames → Came w held frames
  all_come [] w held is sent = record {
    events = [];
    comings = refl;
    lead = subst (Lead write w name []) is (lead_none write name w);
    goes = ([], sym (append-nil held));
    only = only_same w name;
    sent = [];
    each = refl;
    up_to = tt;
    are = refl;
    lines = refl;
  }
  all_come (f ∷ frames) w held is sent =
      let which : ℕ = sent.0.0 in
      let e : Event = FrameComes which name IsKept in
      let v : World = happens write w e in
      let t = calls_are_events.take write w which f name IsKept sent.0.1 in
      let now : (v.receivers name).held ≡ behind name held f = ap (λ (r : Receiver). r.held) t.change.mine ∙ kept_held name (w.receivers name) f ∙ ap (λ (l : List Frame). behind name l f) is in
      let one : OnlyReceives w v name = one_only w f which IsKept sent.0.1 in
      let rest : Came v (behind name held f) frames = all_come frames v (behind name held f) now (subst (λ (l : List Frame). WereSent l frames) (sym one.frames) sent.1) in
      let receipt : SentReceipt = record { from = name; count = length (behind name held f) } in
      let counts : length (taken name (w.receivers name) f IsKept).held ≡ length (behind name held f) = ap length (sym (ap (λ (r : Receiver). r.held) t.change.mine) ∙ now) in
      let went : v.receipts ≡ receipt ∷ w.receipts =
      t.receipts
      ∙ ap (λ (b : Bool). receipt_if b name (length (taken name (w.receivers name) f IsKept).held) ++ w.receipts) (kept_receipted (reaction name (length (w.receivers name).held) f))
      ∙ ap (λ (n : ℕ). record { from = name; count = n } ∷ w.receipts) counts in
      let step : Goes (w.receivers name).held (taken name (w.receivers name) f IsKept).held = taken_goes name (w.receivers name) f IsKept in
      let first : behind name held f ≡ held ++ step.more = sym (sym (ap (λ (r : Receiver). r.held) t.change.mine) ∙ now) ∙ step.is ∙ ap (λ (l : List Frame). l ++ step.more) is in
      record {
        events = e ∷ rest.events;
        comings = ((which, sent.0.1, refl), subst (λ (l : List Frame). AreComings l name IsKept frames rest.events) one.frames rest.comings);
        lead = lead_then write name w (e ∷ []) rest.events (v.receivers name).held (behind_all name (behind name held f) frames) (one_lead w f which IsKept sent.0.1) rest.lead
            (rest.goes.0, rest.goes.1 ∙ ap (λ (l : List Frame). l ++ rest.goes.0) (sym now));
        goes = (step.more ++ rest.goes.0, rest.goes.1 ∙ ap (λ (l : List Frame). l ++ rest.goes.0) first ∙ append_assoc held step.more rest.goes.0);
        only = only_then w v (run write rest.events v) name one rest.only;
        sent = rest.sent ++ receipt ∷ [];
        each = (rest.sent, ap (λ (n : ℕ). rest.sent ++ record { from = name; count = n } ∷ []) (sym (ap length now)), rest.each);
        up_to = let long : length (behind_all name (behind name held f) frames) ≡ length (behind name held f) + length rest.goes.0 = ap length rest.goes.1 ∙ length-append (behind name held f) rest.goes.0 in
            up_to_then name (length (behind_all name (behind name held f) frames)) rest.sent (receipt ∷ []) rest.up_to (refl, omega (arith, long), tt);
        are = rest.are ∙ ap (λ (l : List SentReceipt). rest.sent ++ l) went ∙ sym (append_assoc rest.sent (receipt ∷ []) w.receipts);
        lines = lines_then rest.sent (receipt ∷ []) ∙ ap (λ (l : Bytes). receipt_bytes name (length (behind name held f)) ++ l) rest.lines;
      }
