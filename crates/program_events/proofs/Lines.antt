-- What the events of one line do to a world.
use Rattle.std.proofs.Common.{◌≡◌, ℕ, Bool, true, false, cond, Option, Some, None, refl, sym, ap, ◌∙◌}
use Rattle.std.specs.Prelude.{Result, Ok, Err}
use mathlib.Core.Bool.{false≢true}
use Rattle.news_types.specs.declared.entry.Entry.{Entry}
use Rattle.news_types.specs.declared.query.Query.{Query}
use Rattle.news_types.specs.declared.query.Query.TheVariants as query
use Rattle.news_types.specs.Names.{Bytes}
use Rattle.news_types.specs.History.{History, moment_at}
use Rattle.news_types.specs.Frames.{Writer, frame_bytes_at}
use Rattle.news_types.specs.Answers.{query_answer}
use Rattle.news_types.specs.Outcome.{request_at, receipt_at}
use Rattle.news_types.specs.Calls.{Requested, Receipted, Ticked, Answer, Replied, Fate, IsKept, IsFull, IsFailed, IsStarved, follow, more, given, list_after}
use Rattle.news_types.specs.Server.{put}
use Rattle.input_lines.specs.Lines.{Line}
use Rattle.desk_lines.specs.declared.asked.Asked.{Asked}
use Rattle.desk_lines.specs.declared.asked.Asked.TheVariants as asked
use Rattle.desk_lines.specs.declared.property.LineProperty.{LineProperty}
use Rattle.desk_lines.specs.declared.property.LineProperty.TheVariants as property
use Rattle.desk_lines.specs.Lines.{line}
use Rattle.desk_answers.specs.Answers.{answer_bytes}
use Rattle.world_laws.specs.World.{World, run}
use Rattle.news_room.specs.Steps.{entries}
use Rattle.room_runs.specs.Lines.{archive_bytes, desk_bytes, no_frames, has_answer, bad, of_question, of_asked, of_read, of_line}
use Rattle.program_events.specs.Turns.{OnlyServer}
use Rattle.program_events.proofs.Members.{Means}
use Rattle.program_events.specs.Events.{as_asked, as_read, asks_for, line_input, events_of, events_if, reading_if, answer_text, text_in}

-- ---- the entry of what is asked for

-- the entry that follows what is asked for, if one does: of a question, a search and a desk that of its tick
abbrev pub next_of : History → Asked → ℕ → Option Entry
next_of h (asked.Request caller number command) m = follow h (Requested caller number command) m
next_of h (asked.Query query) m = follow h Ticked m
next_of h (asked.Receipt subscriber n) m = follow h (Receipted subscriber n) m
next_of h (asked.Archive page query) m = follow h Ticked m
next_of h (asked.Desk question) m = follow h Ticked m

abbrev pub next_if : History → Result Asked LineProperty → ℕ → Option Entry
next_if h (Ok what) reading = next_of h what (moment_at h reading)
next_if h (Err p) reading = None

-- ---- the server behind its events

asked_server : (write : Writer) (w : World) (what : Asked) (reading : ℕ) (fate : Fate) → (run write (events_of what reading fate) w).server ≡ put w.server (next_of w.server.list what (moment_at w.server.list reading)) fate
asked_server write w (asked.Request caller number command) reading fate = refl
asked_server write w (asked.Query q) reading IsKept = refl
asked_server write w (asked.Query q) reading IsFull = refl
asked_server write w (asked.Query q) reading IsFailed = refl
asked_server write w (asked.Query q) reading IsStarved = refl
asked_server write w (asked.Receipt subscriber n) reading fate = refl
asked_server write w (asked.Archive page query) reading fate = refl
asked_server write w (asked.Desk question) reading fate = refl

server_if : (write : Writer) (w : World) (what : Result Asked LineProperty) (reading : ℕ) (fate : Fate) → (run write (events_if what reading fate) w).server ≡ put w.server (next_if w.server.list what reading) fate
server_if write w (Ok what) reading fate = asked_server write w what reading fate
server_if write w (Err p) reading fate = refl

pub line_server : (write : Writer) (w : World) (l : Line) (reading : ℕ) (fate : Fate) → (run write (events_if (asks_for l) reading fate) w).server ≡ put w.server (next_if w.server.list (asks_for l) reading) fate
line_server write w l reading fate = server_if write w (asks_for l) reading fate

-- ---- the entries of its outcome

question_adds : (start : ℕ) (h : History) (q : Query) (at : ℕ) (b : Bool) → (cond b (of_question start h at q) (bad property.Ask)).adds ≡ entries (next_if h (cond b (Ok (asked.Query q)) (Err property.Ask)) at)
question_adds start h q at true = refl
question_adds start h q at false = refl

asked_adds : (start : ℕ) (h : History) (what : Asked) (at : ℕ) → (of_asked start h what at).adds ≡ entries (next_if h (as_asked what) at)
asked_adds start h (asked.Request caller number command) at = refl
asked_adds start h (asked.Query q) at = question_adds start h q at (has_answer q)
asked_adds start h (asked.Receipt subscriber n) at = refl
asked_adds start h (asked.Archive page query) at = refl
asked_adds start h (asked.Desk question) at = refl

read_adds : (start : ℕ) (h : History) (said : Result Asked LineProperty) (at : ℕ) → (of_read start h said at).adds ≡ entries (next_if h (as_read said) at)
read_adds start h (Ok what) at = asked_adds start h what at
read_adds start h (Err p) at = refl

pub line_adds : (start : ℕ) (h : History) (l : Line) (at : ℕ) → (of_line start h l at).adds ≡ entries (next_if h (asks_for l) at)
line_adds start h None at = refl
line_adds start h (Some bytes) at = read_adds start h (line bytes) at

-- ---- the reading that is taken for it

question_took : (start : ℕ) (h : History) (q : Query) (at : ℕ) (b : Bool) → (cond b (of_question start h at q) (bad property.Ask)).took ≡ reading_if (cond b (Ok (asked.Query q)) (Err property.Ask)) at
question_took start h q at true = refl
question_took start h q at false = refl

asked_took : (start : ℕ) (h : History) (what : Asked) (at : ℕ) → (of_asked start h what at).took ≡ reading_if (as_asked what) at
asked_took start h (asked.Request caller number command) at = refl
asked_took start h (asked.Query q) at = question_took start h q at (has_answer q)
asked_took start h (asked.Receipt subscriber n) at = refl
asked_took start h (asked.Archive page query) at = refl
asked_took start h (asked.Desk question) at = refl

read_took : (start : ℕ) (h : History) (said : Result Asked LineProperty) (at : ℕ) → (of_read start h said at).took ≡ reading_if (as_read said) at
read_took start h (Ok what) at = asked_took start h what at
read_took start h (Err p) at = refl

pub line_took : (start : ℕ) (h : History) (l : Line) (at : ℕ) → (of_line start h l at).took ≡ reading_if (asks_for l) at
line_took start h None at = refl
line_took start h (Some bytes) at = read_took start h (line bytes) at

-- ---- the text of its outcome

pub kept_text : (o : Option Entry) (a : Answer) → answer_text (given o IsKept a) ≡ answer_text a
kept_text None a = refl
kept_text (Some e) a = refl

kept_list : (h : History) (o : Option Entry) → list_after h o IsKept ≡ more o h
kept_list h None = refl
kept_list h (Some e) = refl

-- the questions of lines are told nothing of frames
no_frame : (frame : Bytes → ℕ → Bytes) (h : History) (q : Query) → has_answer q ≡ true → query_answer no_frames h q ≡ query_answer frame h q
no_frame frame h (query.Feed s after) is = refl
no_frame frame h (query.Frame s k) is = absurd (false≢true is)
no_frame frame h (query.Item i) is = refl
no_frame frame h (query.May user privilege) is = absurd (false≢true is)
no_frame frame h query.Queue is = refl
no_frame frame h query.Check is = refl
no_frame frame h (query.Publication n) is = refl
no_frame frame h (query.LastOf i below) is = absurd (false≢true is)

told_text : (write : Writer) (start : ℕ) (w : World) (q : Query) (at : ℕ) → has_answer q ≡ true → (of_question start w.server.list at q).text ≡ text_in (run write (events_if (Ok (asked.Query q)) at IsKept) w) (Ok (asked.Query q))
told_text write start w q at is =
    let h : History = w.server.list in
    let o : Option Entry = follow h Ticked (moment_at h at) in
    ap answer_bytes (ap (λ (g : History). query_answer no_frames g q) (sym (kept_list h o)) ∙ no_frame (frame_bytes_at write (list_after h o IsKept)) (list_after h o IsKept) q is)

question_text : (write : Writer) (start : ℕ) (w : World) (q : Query) (at : ℕ) (b : Bool) → has_answer q ≡ b
    → (cond b (of_question start w.server.list at q) (bad property.Ask)).text ≡ text_in (run write (events_if (cond b (Ok (asked.Query q)) (Err property.Ask)) at IsKept) w) (cond b (Ok (asked.Query q)) (Err property.Ask))
question_text write start w q at true is = told_text write start w q at is
question_text write start w q at false is = refl

asked_text : (write : Writer) (start : ℕ) (w : World) (what : Asked) (at : ℕ) → (of_asked start w.server.list what at).text ≡ text_in (run write (events_if (as_asked what) at IsKept) w) (as_asked what)
asked_text write start w (asked.Request caller number command) at =
    let o = request_at w.server.list caller number command (moment_at w.server.list at) in
    sym (kept_text o.more (Replied o.answer))
asked_text write start w (asked.Query q) at = question_text write start w q at (has_answer q) refl
asked_text write start w (asked.Receipt subscriber n) at =
    let o = receipt_at w.server.list subscriber n (moment_at w.server.list at) in
    sym (kept_text o.more (Replied o.answer))
asked_text write start w (asked.Archive page query) at =
    let h : History = w.server.list in
    ap (λ (g : History). archive_bytes g page query) (sym (kept_list h (follow h Ticked (moment_at h at))))
asked_text write start w (asked.Desk question) at =
    let h : History = w.server.list in
    ap (λ (g : History). desk_bytes g question) (sym (kept_list h (follow h Ticked (moment_at h at))))

read_text : (write : Writer) (start : ℕ) (w : World) (said : Result Asked LineProperty) (at : ℕ) → (of_read start w.server.list said at).text ≡ text_in (run write (events_if (as_read said) at IsKept) w) (as_read said)
read_text write start w (Ok what) at = asked_text write start w what at
read_text write start w (Err p) at = refl

pub line_text : (write : Writer) (start : ℕ) (w : World) (l : Line) (at : ℕ) → (of_line start w.server.list l at).text ≡ text_in (run write (events_if (asks_for l) at IsKept) w) (asks_for l)
line_text write start w None at = refl
line_text write start w (Some bytes) at = read_text write start w (line bytes) at

-- ---- what stays

asked_only : (write : Writer) (w : World) (what : Asked) (reading : ℕ) (fate : Fate) → OnlyServer w (run write (events_of what reading fate) w)
asked_only write w (asked.Request caller number command) reading fate = record { frames = refl; receipts = refl; receivers = refl }
asked_only write w (asked.Query q) reading IsKept = record { frames = refl; receipts = refl; receivers = refl }
asked_only write w (asked.Query q) reading IsFull = record { frames = refl; receipts = refl; receivers = refl }
asked_only write w (asked.Query q) reading IsFailed = record { frames = refl; receipts = refl; receivers = refl }
asked_only write w (asked.Query q) reading IsStarved = record { frames = refl; receipts = refl; receivers = refl }
asked_only write w (asked.Receipt subscriber n) reading fate = record { frames = refl; receipts = refl; receivers = refl }
asked_only write w (asked.Archive page query) reading fate = record { frames = refl; receipts = refl; receivers = refl }
asked_only write w (asked.Desk question) reading fate = record { frames = refl; receipts = refl; receivers = refl }

only_if : (write : Writer) (w : World) (what : Result Asked LineProperty) (reading : ℕ) (fate : Fate) → OnlyServer w (run write (events_if what reading fate) w)
only_if write w (Ok what) reading fate = asked_only write w what reading fate
only_if write w (Err p) reading fate = record { frames = refl; receipts = refl; receivers = refl }

-- ---- all of it

pub line_means : (start : ℕ) → Means (of_line start) line_input
line_means start = record {
  next = λ h l at. next_if h (asks_for l) at;
  server = line_server;
  adds = line_adds start;
  took = line_took start;
  text = λ write w l at. line_text write start w l at;
  only = λ write w l at fate. only_if write w (asks_for l) at fate;
}
