-- The words of a turn as what came of a push, and the ends of drains as statuses.
use Rattle.std.proofs.Common.{◌≡◌, inl, inr, Bool, true, false, IsTrue, List, [], ◌∷◌, ◌++◌, refl, ap}
use Rattle.news_types.specs.Names.{Bytes}
use Rattle.news_io.specs.Link.{Passed, Sent, Said, Nothing}
use Rattle.news_room.specs.declared.claim.Claimed.{Claimed}
use Rattle.feed_reports.specs.Attempts.{attempt_line}
use Rattle.feed_reports.specs.declared.attempts.Attempted.TheVariants as how
use Rattle.run_status.specs.declared.status.Status.{Status}
use Rattle.run_status.specs.declared.status.Status.TheVariants as status
use Rattle.publish_workers.specs.declared.worked.Worked.{Worked}
use Rattle.publish_workers.specs.declared.worked.Worked.TheVariants.{Delivered, Idle, NoReceipt, LinkFault, StoreFault, Full, Memory}
use Rattle.publish_workers.specs.declared.drain.Drained as ends
use Rattle.publish_workers.specs.declared.drain.Drained.{Drained}
use Rattle.publish_workers.specs.Turns.{Exchange, Unsent, Unread, Replied, Receipted, frames_of, replies_of, passed_of, is_link_fault, is_no_receipt}
use Rattle.publish_workers.specs.Drains.{report_of, IsReported, line_of, IsEnd}
use Rattle.publish_workers.specs.LinkDrains.{is_idle}
use Rattle.program_run.specs.Pushed.{Came, Tried, Ended, is_tried, is_lost, is_refused, came_line, Ends, sent_in, said_in}

-- ---- words

abbrev pub came_word : Worked → Came
came_word (Delivered s k n) = Tried s k how.Delivered
came_word (NoReceipt s k reply) = Tried s k how.NoReceipt
came_word (LinkFault s k) = Tried s k how.LinkFault
came_word (Idle next) = Ended status.Done
came_word StoreFault = Ended status.Store
came_word (Full size count) = Ended status.Full
came_word Memory = Ended status.Memory

pub line_is : (w : Worked) → came_line attempt_line (came_word w) ≡ line_of (report_of w)
line_is (Delivered s k n) = refl
line_is (NoReceipt s k reply) = refl
line_is (LinkFault s k) = refl
line_is (Idle next) = refl
line_is StoreFault = refl
line_is (Full size count) = refl
line_is Memory = refl

pub lost_is : (w : Worked) → is_lost (came_word w) ≡ is_link_fault w
lost_is (Delivered s k n) = refl
lost_is (NoReceipt s k reply) = refl
lost_is (LinkFault s k) = refl
lost_is (Idle next) = refl
lost_is StoreFault = refl
lost_is (Full size count) = refl
lost_is Memory = refl

pub refused_is : (w : Worked) → is_refused (came_word w) ≡ is_no_receipt w
refused_is (Delivered s k n) = refl
refused_is (NoReceipt s k reply) = refl
refused_is (LinkFault s k) = refl
refused_is (Idle next) = refl
refused_is StoreFault = refl
refused_is (Full size count) = refl
refused_is Memory = refl

pub tried_is : (w : Worked) → IsReported w → is_tried (came_word w) ≡ true
tried_is (Delivered s k n) told = refl
tried_is (NoReceipt s k reply) told = refl
tried_is (LinkFault s k) told = refl
tried_is (Idle next) told = absurd told
tried_is StoreFault told = absurd told
tried_is (Full size count) told = absurd told
tried_is Memory told = absurd told

-- ---- ends

abbrev pub status_at : Drained → Status
status_at (ends.Drained.Idle link_failed no_receipt) = status.Done
status_at ends.Drained.StoreFault = status.Store
status_at ends.Drained.OutputFault = status.Output
status_at (ends.Drained.Full size count) = status.Full
status_at ends.Drained.Memory = status.Memory

pub idle_done : (d : Drained) → IsTrue (is_idle d) → status_at d ≡ status.Done
idle_done (ends.Drained.Idle link_failed no_receipt) idle = refl
idle_done ends.Drained.StoreFault idle = absurd cc
idle_done ends.Drained.OutputFault idle = absurd cc
idle_done (ends.Drained.Full size count) idle = absurd cc
idle_done ends.Drained.Memory idle = absurd cc

-- where the last turn ended the drain, its word is its end
pub ends_are : (lost refused : Bool) (w : Worked) (d : Drained) → IsEnd lost refused w d → Ends (came_word w) (status_at d)
ends_are lost refused (Delivered s k n) ends.Drained.OutputFault is = inl refl
ends_are lost refused (NoReceipt s k reply) ends.Drained.OutputFault is = inl refl
ends_are lost refused (LinkFault s k) ends.Drained.OutputFault is = inl refl
ends_are lost refused (Idle next) ends.Drained.OutputFault is = absurd is
ends_are lost refused StoreFault ends.Drained.OutputFault is = absurd is
ends_are lost refused (Full size count) ends.Drained.OutputFault is = absurd is
ends_are lost refused Memory ends.Drained.OutputFault is = absurd is
ends_are lost refused (Delivered s k n) (ends.Drained.Idle lf nr) is = absurd cc
ends_are lost refused (NoReceipt s k reply) (ends.Drained.Idle lf nr) is = absurd cc
ends_are lost refused (LinkFault s k) (ends.Drained.Idle lf nr) is = absurd cc
ends_are lost refused (Idle next) (ends.Drained.Idle lf nr) is = refl
ends_are lost refused StoreFault (ends.Drained.Idle lf nr) is = absurd cc
ends_are lost refused (Full size count) (ends.Drained.Idle lf nr) is = absurd cc
ends_are lost refused Memory (ends.Drained.Idle lf nr) is = absurd cc
ends_are lost refused (Delivered s k n) ends.Drained.StoreFault is = absurd cc
ends_are lost refused (NoReceipt s k reply) ends.Drained.StoreFault is = absurd cc
ends_are lost refused (LinkFault s k) ends.Drained.StoreFault is = absurd cc
ends_are lost refused (Idle next) ends.Drained.StoreFault is = absurd cc
ends_are lost refused StoreFault ends.Drained.StoreFault is = refl
ends_are lost refused (Full size count) ends.Drained.StoreFault is = absurd cc
ends_are lost refused Memory ends.Drained.StoreFault is = absurd cc
ends_are lost refused (Delivered s k n) (ends.Drained.Full size' count') is = absurd cc
ends_are lost refused (NoReceipt s k reply) (ends.Drained.Full size' count') is = absurd cc
ends_are lost refused (LinkFault s k) (ends.Drained.Full size' count') is = absurd cc
ends_are lost refused (Idle next) (ends.Drained.Full size' count') is = absurd cc
ends_are lost refused StoreFault (ends.Drained.Full size' count') is = absurd cc
ends_are lost refused (Full size count) (ends.Drained.Full size' count') is = refl
ends_are lost refused Memory (ends.Drained.Full size' count') is = absurd cc
ends_are lost refused (Delivered s k n) ends.Drained.Memory is = inr refl
ends_are lost refused (NoReceipt s k reply) ends.Drained.Memory is = inr refl
ends_are lost refused (LinkFault s k) ends.Drained.Memory is = inr refl
ends_are lost refused (Idle next) ends.Drained.Memory is = absurd cc
ends_are lost refused StoreFault ends.Drained.Memory is = absurd cc
ends_are lost refused (Full size count) ends.Drained.Memory is = absurd cc
ends_are lost refused Memory ends.Drained.Memory is = refl

-- a drain whose end is idle ended with a word that is neither lost nor refused, and has no line
pub record Idles (lost refused lf nr : Bool) (w : Worked) : Type 0 where
  pub lost_is : lf ≡ lost
  pub refused_is : nr ≡ refused
  pub kept : is_link_fault w ≡ false
  pub taken : is_no_receipt w ≡ false
  pub silent : line_of (report_of w) ≡ []

pub idles : (lost refused lf nr : Bool) (w : Worked) → IsEnd lost refused w (ends.Drained.Idle lf nr) → Idles lost refused lf nr w
idles lost refused lf nr (Idle next) is = record { lost_is = cc; refused_is = cc; kept = refl; taken = refl; silent = refl }
idles lost refused lf nr (Delivered s k n) is = absurd cc
idles lost refused lf nr (NoReceipt s k reply) is = absurd cc
idles lost refused lf nr (LinkFault s k) is = absurd cc
idles lost refused lf nr StoreFault is = absurd cc
idles lost refused lf nr (Full size count) is = absurd cc
idles lost refused lf nr Memory is = absurd cc

-- ---- what passes over a link

pub frames_are : (c : Claimed) (x : Exchange) → sent_in (passed_of c x) ≡ frames_of c x
frames_are (Claimed.Job s k frame front) Unsent = refl
frames_are (Claimed.Job s k frame front) Unread = refl
frames_are (Claimed.Job s k frame front) (Replied reply) = refl
frames_are (Claimed.Job s k frame front) (Receipted reply n at kept) = refl
frames_are (Claimed.Idle next) x = refl
frames_are Claimed.Fault x = refl
frames_are (Claimed.Full size count) x = refl
frames_are Claimed.Memory x = refl

pub replies_are : (c : Claimed) (x : Exchange) → said_in (passed_of c x) ≡ replies_of c x
replies_are (Claimed.Job s k frame front) Unsent = refl
replies_are (Claimed.Job s k frame front) Unread = refl
replies_are (Claimed.Job s k frame front) (Replied reply) = refl
replies_are (Claimed.Job s k frame front) (Receipted reply n at kept) = refl
replies_are (Claimed.Idle next) x = refl
replies_are Claimed.Fault x = refl
replies_are (Claimed.Full size count) x = refl
replies_are Claimed.Memory x = refl

pub sent_more : (ps qs : List Passed) → sent_in (ps ++ qs) ≡ sent_in ps ++ sent_in qs
sent_more [] qs = refl
sent_more (Sent s frame ∷ ps) qs = ap (λ (l : List (Bytes × Bytes)). (s, frame) ∷ l) (sent_more ps qs)
sent_more (Said s reply ∷ ps) qs = sent_more ps qs
sent_more (Nothing ∷ ps) qs = sent_more ps qs

pub said_more : (ps qs : List Passed) → said_in (ps ++ qs) ≡ said_in ps ++ said_in qs
said_more [] qs = refl
said_more (Sent s frame ∷ ps) qs = said_more ps qs
said_more (Said s reply ∷ ps) qs = ap (λ (l : List (Bytes × Bytes)). (s, reply) ∷ l) (said_more ps qs)
said_more (Nothing ∷ ps) qs = said_more ps qs
