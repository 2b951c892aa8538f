-- Steps that go wrong. Each of them breaks a law, which shows that the law forbids that step.
use Rattle.std.specs.Prelude.{Bool, ℕ, ◌+◌, ◌-◌, List, [], ◌∷◌, length, reverse, if◌then◌else◌, nat_lt, nat_le, Option, Some, None, option_map, slice_get, filter_map}
use Rattle.std.specs.List.{filter}
use Rattle.news_types.specs.declared.words.Kind.{Kind}
use Rattle.news_types.specs.declared.command.Command.{Command}
use Rattle.news_types.specs.declared.command.Command.TheVariants.{Kill}
use Rattle.news_types.specs.declared.entry.Entry.{Entry}
use Rattle.news_types.specs.declared.entry.Act.TheVariants.{Receipt, Request}
use Rattle.news_types.specs.declared.story.Story.{Story}
use Rattle.news_types.specs.Names.{Bytes, same}
use Rattle.news_types.specs.Users.{admin}
use Rattle.news_types.specs.History.{History, moment, moment_at, last, last_number}
use Rattle.news_types.specs.Products.{permitted}
use Rattle.news_types.specs.Due.{Pub, release_to}
use Rattle.news_types.specs.Publications.{pubs, standing}
use Rattle.news_types.specs.Feeds.{Dispatch, dispatch, is_out, due_to, feed_of}
use Rattle.news_types.specs.Denial.{is_repeat}
use Rattle.news_types.specs.Outcome.{Done, Repeat, entry_of, reply_to}
use Rattle.news_types.specs.Frames.{Frame, Writer, numbered, framed, format}
use Rattle.news_types.specs.Calls.{Call, Requested, Receipted, Halted, Asked, Claimed, Answer, Replied, follow, ticked, answer, Fate, IsKept, IsFull, IsFailed, given, front}
use Rattle.news_types.specs.Server.{put, called, call_answer}
use Rattle.news_types.specs.Receiver.{Taken, Known, NotMine, Ahead, Accepted, reacted, taken, is_receipted}
use Rattle.world_laws.specs.Example.{session}
use Rattle.world_laws.specs.World.{World, Event, Requests, Ticks, Halts, Asks, Claims, FrameComes, Forges, Reopens, Sends, calls, send, receives, receipted, happens}

-- ---- receivers

-- a frame reaches a receiver that reacts in this way
abbrev pub comes_to : (Bytes → ℕ → Frame → Taken) → World → Bytes → Fate → Option Frame → World
comes_to react w s fate None = w
comes_to react w s fate (Some f) =
    let t : Taken = react s (length (w.receivers s).held) f in
    receipted (is_receipted fate t) s (receives w s (reacted (w.receivers s) f fate t))

-- the receiver takes whatever is ahead of what it holds
abbrev pub whatever_is_ahead : Bytes → ℕ → Frame → Taken
whatever_is_ahead s n f = if same s f.to then (if nat_le f.k n then Known else Accepted) else NotMine

abbrev pub skips_a_frame : Writer → World → Event → World
skips_a_frame write w (FrameComes which s fate) = comes_to whatever_is_ahead w s fate (slice_get w.frames which)
skips_a_frame write w event = happens write w event

-- the receiver takes the frames of others
abbrev pub whosever_it_is : Bytes → ℕ → Frame → Taken
whosever_it_is s n f = if nat_le f.k n then Known else (if nat_lt (n + 1) f.k then Ahead else Accepted)

abbrev pub takes_anothers_frame : Writer → World → Event → World
takes_anothers_frame write w (FrameComes which s fate) = comes_to whosever_it_is w s fate (slice_get w.frames which)
takes_anothers_frame write w event = happens write w event

-- the receiver counts what it kept among its doubt
abbrev pub still_in_doubt : World → Bytes → Fate → Option Frame → World
still_in_doubt w s fate None = w
still_in_doubt w s fate (Some f) = receives w s (record { held = (taken s (w.receivers s) f fate).held; doubt = f ∷ (w.receivers s).doubt })

abbrev pub receiver_doubts_what_it_kept : Writer → World → Event → World
receiver_doubts_what_it_kept write w (FrameComes which s fate) = still_in_doubt w s fate (slice_get w.frames which)
receiver_doubts_what_it_kept write w event = happens write w event

-- the receipt goes out before the frame is kept
abbrev pub receipt_first : World → Bytes → Fate → Option Frame → World
receipt_first w s fate None = w
receipt_first w s fate (Some f) = record (receives w s (taken s (w.receivers s) f fate)) { receipts = record { from = s; count = f.k } ∷ w.receipts }

abbrev pub receipts_before_it_keeps : Writer → World → Event → World
receipts_before_it_keeps write w (FrameComes which s fate) = receipt_first w s fate (slice_get w.frames which)
receipts_before_it_keeps write w event = happens write w event

-- ---- the server

-- a call is answered in this way at the list as it is
abbrev pub answered_so : World → Call → ℕ → Answer → World
answered_so w call reading a = record w { out = record { at = length w.server.list; call = call; reading = reading; answer = a } ∷ w.out }

-- a request is answered as if its entry were kept
abbrev pub answers_before_it_keeps : Writer → World → Event → World
answers_before_it_keeps write w (Requests caller number command reading fate) =
    let call : Call = Requested caller number command in record (answered_so w call reading (call_answer write w.server call reading IsKept)) { server = called w.server call reading fate }
answers_before_it_keeps write w event = happens write w event

-- what was kept stays in doubt
abbrev pub doubts_what_it_kept : Writer → World → Event → World
doubts_what_it_kept write w (Requests caller number command reading fate) =
    let call : Call = Requested caller number command in
    record (calls write w call reading fate) { server = record { list = (called w.server call reading fate).list; doubt = (called w.server call reading IsFailed).doubt } }
doubts_what_it_kept write w event = happens write w event

-- a repeated request is applied again
abbrev pub again : World → Bytes → ℕ → Command → ℕ → Fate → World
again w caller number command reading fate = record w { server = put w.server (Some (entry_of (moment_at w.server.list reading) (Request caller number command))) fate }

abbrev pub applies_repeats : Writer → World → Event → World
applies_repeats write w (Requests caller number command reading fate) =
    if is_repeat (last w.server.list caller) number command
    then again w caller number command reading fate
    else calls write w (Requested caller number command) reading fate
applies_repeats write w event = happens write w event

-- the feed that is sent has what is not released yet
abbrev pub sends_before_release : Writer → World → Event → World
sends_before_release write w (Sends s k) = send (option_map (framed write (format w.server.list s) s k) (numbered (due_to s (standing w.server.list)) k)) w
sends_before_release write w event = happens write w event

-- a stop forgets the list
abbrev pub forgets_at_a_stop : Writer → World → Event → World
forgets_at_a_stop write w (Reopens which) = record w { server = record { list = []; doubt = [] } }
forgets_at_a_stop write w event = happens write w event

-- a request is answered as if its entry were kept, and never is
abbrev pub keeps_nothing : Writer → World → Event → World
keeps_nothing write w (Requests caller number command reading fate) =
    let call : Call = Requested caller number command in answered_so w call reading (call_answer write w.server call reading IsKept)
keeps_nothing write w event = happens write w event

-- a repeated request is answered with the reply to a new entry
abbrev pub replies_anew : Writer → World → Event → World
replies_anew write w (Requests caller number command reading fate) =
    if is_repeat (last w.server.list caller) number command
    then answered_so w (Requested caller number command) reading (Replied (Repeat (reply_to w.server.list (moment_at w.server.list reading) (Request caller number command))))
    else calls write w (Requested caller number command) reading fate
replies_anew write w event = happens write w event

-- a claim keeps its attempt alone, and not the tick that made it ready
abbrev pub claims_without_a_tick : Writer → World → Event → World
claims_without_a_tick write w (Claims names reading first second) =
    let m : ℕ = moment_at w.server.list reading in
    let attempt : Option Entry = follow (ticked w.server.list m) (Claimed names) m in
    record (answered_so w (Claimed names) reading (given attempt second (answer write w.server.list (Claimed names) m))) { server = put w.server attempt second }
claims_without_a_tick write w event = happens write w event

-- a receipt is kept however much it counts
abbrev pub keeps_any_receipt : Writer → World → Event → World
keeps_any_receipt write w (Forges s n reading fate) =
    let m : ℕ = moment_at w.server.list reading in
    record (answered_so w (Receipted s n) reading (Replied (Done (reply_to w.server.list m (Receipt s n))))) { server = put w.server (Some (entry_of m (Receipt s n))) fate }
keeps_any_receipt write w event = happens write w event

-- at a tick the server keeps a kill that nobody asked for
abbrev pub invents_a_kill : Writer → World → Event → World
invents_a_kill write w (Ticks reading fate) =
    record w { server = put w.server (Some (entry_of (moment_at w.server.list reading) (Request admin (last_number w.server.list admin + 1) (Kill 1 session [])))) fate }
invents_a_kill write w event = happens write w event

-- a halt is kept twice
abbrev pub halts_twice : Writer → World → Event → World
halts_twice write w (Halts reading fate) = record (calls write w Halted reading fate) { server = called (called w.server Halted reading fate) Halted reading fate }
halts_twice write w event = happens write w event

-- the entry of a request has a later moment than that of the call
abbrev pub dates_ahead : Writer → World → Event → World
dates_ahead write w (Requests caller number command reading fate) =
    let call : Call = Requested caller number command in record (calls write w call reading fate) { server = called w.server call (reading + 1) fate }
dates_ahead write w event = happens write w event

-- an entry that was refused as full is kept all the same
abbrev pub keeps_what_it_refused : Writer → World → Event → World
keeps_what_it_refused write w (Requests caller number command reading fate) =
    let call : Call = Requested caller number command in record (calls write w call reading IsFull) { server = called w.server call reading IsKept }
keeps_what_it_refused write w event = happens write w event

-- a question is answered from the list before its last entry
abbrev pub answers_from_before : Writer → World → Event → World
answers_from_before write w (Asks query reading fate) =
    let old : History = front w.server.list (length w.server.list - 1) in
    record w { out = record { at = length old; call = Asked query; reading = reading; answer = answer write old (Asked query) (moment_at old reading) } ∷ w.out }
answers_from_before write w event = happens write w event

-- ---- feeds

-- the feed in order of publication
abbrev pub in_order_of_number : History → Bytes → List Dispatch
in_order_of_number h s = reverse (filter (is_out (moment h)) (filter_map (λ p. option_map (dispatch p) (release_to s p.due)) (standing h)))

-- the feed has also what was taken back before it was released to the subscriber
abbrev pub despite_kills : History → Bytes → List Dispatch
despite_kills h s = feed_of (pubs h) (moment h) s

-- whatever is published is due to those who are permitted it now
abbrev pub to_those_permitted_now : History → List Pub → Kind → ℕ → Story → ℕ → List Bytes → Bytes → Bool
to_those_permitted_now h ps kind i story release targets s = permitted h story targets s
