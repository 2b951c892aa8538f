-- What the events of one line do to a world.
use Rattle.std.proofs.Common.{◌≡◌, ℕ, Option, Some, None, refl, sym, ap, ◌∙◌}
use Rattle.std.specs.Prelude.{Result, Ok, Err}
use Rattle.news_types.specs.declared.entry.Entry.{Entry}
use Rattle.news_types.specs.declared.query.Query.{Query}
use Rattle.news_types.specs.declared.query.Query.TheVariants as query
use Rattle.news_types.specs.Names.{Bytes}
use Rattle.news_types.specs.History.{History, moment_at}
use Rattle.news_types.specs.Frames.{Writer, frame_bytes_at}
use Rattle.news_types.specs.Answers.{query_answer}
use Rattle.news_types.specs.Outcome.{Answered, Done, Repeat, Denied, request_at, receipt_at}
use Rattle.news_types.specs.Calls.{Requested, Receipted, Ticked, Answer, Replied, Fate, IsKept, IsFull, IsFailed, IsStarved, follow, more, given, list_after}
use Rattle.news_types.specs.Server.{put}
use Rattle.input_lines.specs.Lines.{Line}
use Rattle.desk_lines.specs.declared.asked.Asked.{Asked}
use Rattle.desk_lines.specs.declared.asked.Asked.TheVariants as asked
use Rattle.desk_lines.specs.declared.property.LineProperty.{LineProperty}
use Rattle.desk_lines.specs.Lines.{line}
use Rattle.desk_answers.specs.Answers.{answer_bytes}
use Rattle.archive_search.specs.declared.told.Told.{Told}
use Rattle.archive_search.specs.declared.told.Told.TheVariants as archive
use Rattle.archive_search.specs.Told.{archive_told}
use Rattle.desk_questions.specs.declared.answer.DeskTold.{DeskTold}
use Rattle.desk_questions.specs.declared.answer.DeskTold.TheVariants as desk
use Rattle.desk_questions.specs.Told.{desk_told}
use Rattle.world_laws.specs.World.{World, run}
use Rattle.news_room.specs.Steps.{entries}
use Rattle.room_runs.specs.Lines as room
use Rattle.room_runs.specs.Lines.{of_question, of_asked, of_read, of_line}
use Rattle.program_run.specs.Inputs.{answered_bytes, answer_text, told_bytes, desk_told_bytes, read_as, as_asked, asks_for, line_events, line_readings, line_text, line_input}
use Rattle.program_run.proofs.Means.{Means, past}
use Rattle.program_run.proofs.Sizes.{passes_past}

-- ---- texts

pub answered_same : (a : Answered) → room.answered_bytes a ≡ answered_bytes a
answered_same (Done reply) = refl
answered_same (Repeat reply) = refl
answered_same (Denied denial) = refl

told_same : (told : Told) → room.told_bytes told ≡ told_bytes told
told_same (archive.Found bytes) = refl
told_same (archive.Refused bytes) = refl

pub desk_told_same : (told : DeskTold) → room.desk_told_bytes told ≡ desk_told_bytes told
desk_told_same (desk.Found bytes) = refl
desk_told_same (desk.Unknown thing) = refl

-- ---- the entry of what is asked for

-- the entry that follows what is asked for, if one does: of a question, a search and a desk that of its tick
abbrev pub next_of : History → Asked → ℕ → Option Entry
next_of h (asked.Request caller number command) m = follow h (Requested caller number command) m
next_of h (asked.Query query) m = follow h Ticked m
next_of h (asked.Receipt subscriber n) m = follow h (Receipted subscriber n) m
next_of h (asked.Archive page query) m = follow h Ticked m
next_of h (asked.Desk question) m = follow h Ticked m

abbrev pub next_if : History → Result Asked LineProperty → ℕ → Option Entry
next_if h (Ok what) reading = next_of h what (moment_at h reading)
next_if h (Err p) reading = None

-- ---- the server behind its events

asked_server : (write : Writer) (w : World) (what : Asked) (reading : ℕ) (fate : Fate) → (run write (line_events (Ok what) reading fate) w).server ≡ put w.server (next_of w.server.list what (moment_at w.server.list reading)) fate
asked_server write w (asked.Request caller number command) reading fate = refl
asked_server write w (asked.Query q) reading IsKept = refl
asked_server write w (asked.Query q) reading IsFull = refl
asked_server write w (asked.Query q) reading IsFailed = refl
asked_server write w (asked.Query q) reading IsStarved = refl
asked_server write w (asked.Receipt subscriber n) reading fate = refl
asked_server write w (asked.Archive page query) reading fate = refl
asked_server write w (asked.Desk question) reading fate = refl

server_if : (write : Writer) (w : World) (what : Result Asked LineProperty) (reading : ℕ) (fate : Fate) → (run write (line_events what reading fate) w).server ≡ put w.server (next_if w.server.list what reading) fate
server_if write w (Ok what) reading fate = asked_server write w what reading fate
server_if write w (Err p) reading fate = refl

pub line_server : (write : Writer) (w : World) (l : Line) (reading : ℕ) (fate : Fate) → (run write (line_events (asks_for l) reading fate) w).server ≡ put w.server (next_if w.server.list (asks_for l) reading) fate
line_server write w l reading fate = server_if write w (asks_for l) reading fate

-- ---- the entries of its outcome

-- each question that a line may ask, and each that it may not
question_adds : (h : History) (q : Query) (at : ℕ) → (of_asked 65 h (asked.Query q) at).adds ≡ entries (next_if h (as_asked (asked.Query q)) at)
question_adds h (query.Feed s after) at = refl
question_adds h (query.Frame s k) at = refl
question_adds h (query.Item i) at = refl
question_adds h (query.May user privilege) at = refl
question_adds h query.Queue at = refl
question_adds h query.Check at = refl
question_adds h (query.Publication n) at = refl
question_adds h (query.LastOf i below) at = refl

asked_adds : (h : History) (what : Asked) (at : ℕ) → (of_asked 65 h what at).adds ≡ entries (next_if h (as_asked what) at)
asked_adds h (asked.Request caller number command) at = refl
asked_adds h (asked.Query q) at = question_adds h q at
asked_adds h (asked.Receipt subscriber n) at = refl
asked_adds h (asked.Archive page query) at = refl
asked_adds h (asked.Desk question) at = refl

read_adds : (h : History) (said : Result Asked LineProperty) (at : ℕ) → (of_read 65 h said at).adds ≡ entries (next_if h (read_as said) at)
read_adds h (Ok what) at = asked_adds h what at
read_adds h (Err p) at = refl

line_adds : (h : History) (l : Line) (at : ℕ) → (of_line 65 h l at).adds ≡ entries (next_if h (asks_for l) at)
line_adds h None at = refl
line_adds h (Some bytes) at = read_adds h (line bytes) at

-- ---- whether they would pass the limit

ticked_passes : (h : History) (at : ℕ) → room.passes 65 h (entries (follow h Ticked (moment_at h at))) ≡ past (follow h Ticked (moment_at h at)) h
ticked_passes h at = passes_past h (follow h Ticked (moment_at h at))

question_passes : (h : History) (q : Query) (at : ℕ) → (of_asked 65 h (asked.Query q) at).passes ≡ past (next_if h (as_asked (asked.Query q)) at) h
question_passes h (query.Feed s after) at = ticked_passes h at
question_passes h (query.Frame s k) at = refl
question_passes h (query.Item i) at = ticked_passes h at
question_passes h (query.May user privilege) at = refl
question_passes h query.Queue at = ticked_passes h at
question_passes h query.Check at = ticked_passes h at
question_passes h (query.Publication n) at = ticked_passes h at
question_passes h (query.LastOf i below) at = refl

asked_passes : (h : History) (what : Asked) (at : ℕ) → (of_asked 65 h what at).passes ≡ past (next_if h (as_asked what) at) h
asked_passes h (asked.Request caller number command) at = passes_past h (follow h (Requested caller number command) (moment_at h at))
asked_passes h (asked.Query q) at = question_passes h q at
asked_passes h (asked.Receipt subscriber n) at = passes_past h (follow h (Receipted subscriber n) (moment_at h at))
asked_passes h (asked.Archive page query) at = ticked_passes h at
asked_passes h (asked.Desk question) at = ticked_passes h at

read_passes : (h : History) (said : Result Asked LineProperty) (at : ℕ) → (of_read 65 h said at).passes ≡ past (next_if h (read_as said) at) h
read_passes h (Ok what) at = asked_passes h what at
read_passes h (Err p) at = refl

line_passes : (h : History) (l : Line) (at : ℕ) → (of_line 65 h l at).passes ≡ past (next_if h (asks_for l) at) h
line_passes h None at = refl
line_passes h (Some bytes) at = read_passes h (line bytes) at

-- ---- the reading that is taken for it

question_took : (h : History) (q : Query) (at : ℕ) → (of_asked 65 h (asked.Query q) at).took ≡ line_readings (as_asked (asked.Query q)) at
question_took h (query.Feed s after) at = refl
question_took h (query.Frame s k) at = refl
question_took h (query.Item i) at = refl
question_took h (query.May user privilege) at = refl
question_took h query.Queue at = refl
question_took h query.Check at = refl
question_took h (query.Publication n) at = refl
question_took h (query.LastOf i below) at = refl

asked_took : (h : History) (what : Asked) (at : ℕ) → (of_asked 65 h what at).took ≡ line_readings (as_asked what) at
asked_took h (asked.Request caller number command) at = refl
asked_took h (asked.Query q) at = question_took h q at
asked_took h (asked.Receipt subscriber n) at = refl
asked_took h (asked.Archive page query) at = refl
asked_took h (asked.Desk question) at = refl

read_took : (h : History) (said : Result Asked LineProperty) (at : ℕ) → (of_read 65 h said at).took ≡ line_readings (read_as said) at
read_took h (Ok what) at = asked_took h what at
read_took h (Err p) at = refl

line_took : (h : History) (l : Line) (at : ℕ) → (of_line 65 h l at).took ≡ line_readings (asks_for l) at
line_took h None at = refl
line_took h (Some bytes) at = read_took h (line bytes) at

-- ---- the text of its outcome

pub kept_text : (o : Option Entry) (a : Answer) → answer_text (given o IsKept a) ≡ answer_text a
kept_text None a = refl
kept_text (Some e) a = refl

kept_list : (h : History) (o : Option Entry) → list_after h o IsKept ≡ more o h
kept_list h None = refl
kept_list h (Some e) = refl

-- a question that is told nothing of frames
told_text : (write : Writer) (w : World) (q : Query) (at : ℕ) → ((frame : Bytes → ℕ → Bytes) (h : History) → query_answer room.no_frames h q ≡ query_answer frame h q)
    → (of_question 65 w.server.list at q).text ≡ line_text (run write (line_events (Ok (asked.Query q)) at IsKept) w) (Ok (asked.Query q))
told_text write w q at no_frame =
    let h : History = w.server.list in
    let o : Option Entry = follow h Ticked (moment_at h at) in
    ap answer_bytes (ap (λ (g : History). query_answer room.no_frames g q) (sym (kept_list h o)) ∙ no_frame (frame_bytes_at write (list_after h o IsKept)) (list_after h o IsKept))

question_text : (write : Writer) (w : World) (q : Query) (at : ℕ)
    → (of_asked 65 w.server.list (asked.Query q) at).text ≡ line_text (run write (line_events (as_asked (asked.Query q)) at IsKept) w) (as_asked (asked.Query q))
question_text write w (query.Feed s after) at = told_text write w (query.Feed s after) at (λ frame h. refl)
question_text write w (query.Frame s k) at = refl
question_text write w (query.Item i) at = told_text write w (query.Item i) at (λ frame h. refl)
question_text write w (query.May user privilege) at = refl
question_text write w query.Queue at = told_text write w query.Queue at (λ frame h. refl)
question_text write w query.Check at = told_text write w query.Check at (λ frame h. refl)
question_text write w (query.Publication n) at = told_text write w (query.Publication n) at (λ frame h. refl)
question_text write w (query.LastOf i below) at = refl

asked_text : (write : Writer) (w : World) (what : Asked) (at : ℕ) → (of_asked 65 w.server.list what at).text ≡ line_text (run write (line_events (as_asked what) at IsKept) w) (as_asked what)
asked_text write w (asked.Request caller number command) at =
    let o = request_at w.server.list caller number command (moment_at w.server.list at) in
    answered_same o.answer ∙ sym (kept_text o.more (Replied o.answer))
asked_text write w (asked.Query q) at = question_text write w q at
asked_text write w (asked.Receipt subscriber n) at =
    let o = receipt_at w.server.list subscriber n (moment_at w.server.list at) in
    answered_same o.answer ∙ sym (kept_text o.more (Replied o.answer))
asked_text write w (asked.Archive page query) at =
    let h : History = w.server.list in
    let o : Option Entry = follow h Ticked (moment_at h at) in
    told_same (archive_told (more o h) page query) ∙ ap (λ (g : History). told_bytes (archive_told g page query)) (sym (kept_list h o))
asked_text write w (asked.Desk question) at =
    let h : History = w.server.list in
    let o : Option Entry = follow h Ticked (moment_at h at) in
    desk_told_same (desk_told (more o h) question) ∙ ap (λ (g : History). desk_told_bytes (desk_told g question)) (sym (kept_list h o))

read_text : (write : Writer) (w : World) (said : Result Asked LineProperty) (at : ℕ) → (of_read 65 w.server.list said at).text ≡ line_text (run write (line_events (read_as said) at IsKept) w) (read_as said)
read_text write w (Ok what) at = asked_text write w what at
read_text write w (Err p) at = refl

line_text_is : (write : Writer) (w : World) (l : Line) (at : ℕ) → (of_line 65 w.server.list l at).text ≡ line_text (run write (line_events (asks_for l) at IsKept) w) (asks_for l)
line_text_is write w None at = refl
line_text_is write w (Some bytes) at = read_text write w (line bytes) at

-- ---- all of it

pub line_means : Means (of_line 65) line_input
line_means = record {
  next = λ h l at. next_if h (asks_for l) at;
  server = line_server;
  adds = line_adds;
  passes = line_passes;
  took = line_took;
  text = line_text_is;
}
