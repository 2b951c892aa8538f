-- Drains of links are pushes of the world, one after another.
use Rattle.std.proofs.Common.{◌≡◌, ℕ, suc, Bool, true, false, ◌||◌, IsTrue, List, [], ◌∷◌, ◌++◌, length, map, slice_get, slice_set, Option, Some, option_map, refl, sym, ap, ap₂, ◌∙◌, subst, append_assoc, append-nil}
use Rattle.std.proofs.lemmas.Option.{slice_get-map}
use Rattle.news_types.specs.declared.entry.Entry.{Entry}
use Rattle.news_types.specs.Names.{Bytes}
use Rattle.news_types.specs.Members.{Each}
use Rattle.news_types.specs.Books.{Book, onto}
use Rattle.news_types.specs.Frames.{Writer}
use Rattle.news_types.proofs.Books.{onto_more}
use Rattle.feed_frames.specs.Writer.{the_writer}
use Rattle.feed_reports.specs.Attempts.{attempt_line}
use Rattle.news_io.specs.Keeper.{KeeperMeaning}
use Rattle.news_io.specs.Link.{Passed, Goes}
use Rattle.news_io.specs.Outside.{Meanings, Outside}
use Rattle.news_room.specs.Events.{Serves}
use Rattle.news_room.specs.declared.room.Room.{Room}
use Rattle.run_status.specs.declared.status.Status.TheVariants as status
use Rattle.publish_workers.specs.declared.drain.Drained as ends
use Rattle.publish_workers.specs.declared.drain.Drained.{Drained}
use Rattle.publish_workers.specs.declared.worked.Worked.{Worked}
use Rattle.publish_workers.specs.Links.{CountsFaults}
use Rattle.publish_workers.specs.Turns.{Turn, word, passed_of, is_link_fault, is_no_receipt}
use Rattle.publish_workers.specs.Drains as drain
use Rattle.publish_workers.specs.Drains.{AllReported, lost_in, refused_in, IsEnd, CountsLink, is_store_end, is_output_end, all_frames, all_replies, lines_of, last_line, TurnsHappen, DrainHappens}
use Rattle.publish_workers.specs.LinkDrains.{LinkDrain, is_idle, AllIdle, AllIdleButLast, behind as end_behind, end_of_all, drains_readings, drains_lines, drains_last, DrainsLink, DrainLinks, DrainsHappen}
use Rattle.publish_workers.specs.Statuses.{drain_status}
use Rattle.world_laws.specs.World.{World, Event, run}
use Rattle.program_events.specs.Drains.{WorldTurn, events_in, pushed}
use Rattle.program_events.proofs.Turns.{run_on}
use Rattle.program_run.specs.Inputs.{newsroom_formats}
use Rattle.program_run.specs.Pushed as push
use Rattle.program_run.specs.Pushed.{Push, Drain, Came, push_events, all_events, behind, all_readings, receipt_reading, ArePushes, AllTried, came_in, some_in, is_tried, is_lost, is_refused, all_passed, all_lines, first_lines, came_line, sent_in, said_in, pushes, ended, Counts, Causes, told_as, LinkDrained, LinksDrained}
use Rattle.program_run.proofs.PushOne.{InWorld, Uses, OnePush, one_push}
use Rattle.program_run.proofs.PushWords.{line_is, lost_is, refused_is, tried_is, status_at, idle_done, ends_are, idles, frames_are, replies_are, sent_more, said_more}

-- ---- Booleans

or_none : (a : Bool) → a || false ≡ a
or_none true = refl
or_none false = refl

or_assoc : (a b c : Bool) → (a || b) || c ≡ a || (b || c)
or_assoc true b c = refl
or_assoc false b c = refl

-- ---- pushes behind pushes

module _ (write : Writer) (w : World) where
  pub events_more : (qs ps : List Push) → all_events write w (qs ++ ps) ≡ all_events write w ps ++ all_events write (behind write w ps) qs
  events_more [] ps = sym (append-nil (all_events write w ps))
  events_more (q ∷ qs) ps =
      let front : List Event = all_events write w ps in
      let these : List Event = all_events write (behind write w ps) qs in
      let there : run write (all_events write w (qs ++ ps)) w ≡ run write these (behind write w ps) = ap (λ (l : List Event). run write l w) (events_more qs ps) ∙ run_on write front these w in
      ap₂ (λ (l : List Event) (u : World). l ++ push_events write u q) (events_more qs ps) there ∙ append_assoc front these (push_events write (run write these (behind write w ps)) q)

  pub behind_more : (qs ps : List Push) → behind write w (qs ++ ps) ≡ behind write (behind write w ps) qs
  behind_more qs ps = ap (λ (l : List Event). run write l w) (events_more qs ps) ∙ run_on write (all_events write w ps) (all_events write (behind write w ps) qs) w

  some_more : (test : Came → Bool) (qs ps : List Push) → some_in write test w (qs ++ ps) ≡ some_in write test w ps || some_in write test (behind write w ps) qs
  some_more test [] ps = sym (or_none (some_in write test w ps))
  some_more test (q ∷ qs) ps =
      ap₂ (λ (b : Bool) (u : World). b || test (came_in write u q)) (some_more test qs ps) (behind_more qs ps)
      ∙ or_assoc (some_in write test w ps) (some_in write test (behind write w ps) qs) (test (came_in write (behind write (behind write w ps) qs) q))

  lines_more : (qs ps : List Push) → all_lines write attempt_line w (qs ++ ps) ≡ all_lines write attempt_line w ps ++ all_lines write attempt_line (behind write w ps) qs
  lines_more [] ps = sym (append-nil (all_lines write attempt_line w ps))
  lines_more (q ∷ qs) ps =
      ap₂ (λ (l : Bytes) (u : World). l ++ came_line attempt_line (came_in write u q)) (lines_more qs ps) (behind_more qs ps)
      ∙ append_assoc (all_lines write attempt_line w ps) (all_lines write attempt_line (behind write w ps) qs) (came_line attempt_line (came_in write (behind write (behind write w ps) qs) q))

readings_more : (qs ps : List Push) → all_readings (qs ++ ps) ≡ all_readings ps ++ all_readings qs
readings_more [] ps = sym (append-nil (all_readings ps))
readings_more (q ∷ qs) ps = ap (λ (l : List ℕ). l ++ q.reading ∷ receipt_reading q.exchange) (readings_more qs ps) ∙ append_assoc (all_readings ps) (all_readings qs) (q.reading ∷ receipt_reading q.exchange)

pushed_more : (xs ys : List WorldTurn) → pushed (xs ++ ys) ≡ pushed ys ++ pushed xs
pushed_more [] ys = sym (append-nil (pushed ys))
pushed_more (x ∷ xs) ys = ap (λ (l : List Event). l ++ events_in x) (pushed_more xs ys) ∙ append_assoc (pushed ys) (pushed xs) (events_in x)

-- ---- turns of one link

module _ {K : Type 0} (keeper : KeeperMeaning K) (b : Book) where
  abbrev write : Writer
  write = the_writer b.store

  -- turns over a link to these subscribers, of a room that they left so, with these entries more, are these pushes
  record TurnsPushed (old new : Room K) (more : List Entry) (names : List Bytes) (ts : List Turn) (at : World) : Type 0 where
    ps : List Push
    names_are : Each (λ (p : Push). p.names ≡ names) ps
    are : ArePushes write at ps
    tried : AllReported ts → AllTried write at ps
    lost : some_in write is_lost at ps ≡ lost_in ts
    refused : some_in write is_refused at ps ≡ refused_in ts
    passed : all_passed write at ps ≡ drain.all_passed ts
    frames : sent_in (all_passed write at ps) ≡ all_frames ts
    replies : said_in (all_passed write at ps) ≡ all_replies ts
    took : all_readings ps ≡ drain.all_readings ts
    lines : all_lines write attempt_line at ps ≡ lines_of ts
    events : (xs : List WorldTurn) × (all_events write at ps ≡ pushed xs)
    serves : Serves keeper new (onto more b) (behind write at ps).server
    uses : Uses keeper new (onto more b)
    doubted : b.told ≡ true → InWorld keeper old at.server → InWorld keeper new (behind write at ps).server

  no_turns : (old : Room K) (names : List Bytes) (at : World) → Serves keeper old b at.server → Uses keeper old b → TurnsPushed old old [] names [] at
  no_turns old names at serves uses = record {
    ps = [];
    names_are = tt;
    are = tt;
    tried = λ none. tt;
    lost = refl;
    refused = refl;
    passed = refl;
    frames = refl;
    replies = refl;
    took = refl;
    lines = refl;
    events = ([], refl);
    serves = serves;
    uses = uses;
    doubted = λ told was. was;
  }

  -- one turn more
  module _ (old left new : Room K) (before later : List Entry) (names : List Bytes) (t : Turn) (ts : List Turn) (at : World) (p : TurnsPushed old left before names ts at) where
    abbrev there : World
    there = behind write at p.ps

    abbrev Next : Type 0
    Next = OnePush keeper left new (onto before b) later names t there

    next_world : (o : Next) → behind write at (o.push ∷ p.ps) ≡ run write (push_events write there o.push) there
    next_world o = run_on write (all_events write at p.ps) (push_events write there o.push) at

    next_lost : (o : Next) → is_lost (came_in write there o.push) ≡ is_link_fault (word t)
    next_lost o = ap is_lost o.came ∙ lost_is (word t)

    next_refused : (o : Next) → is_refused (came_in write there o.push) ≡ is_no_receipt (word t)
    next_refused o = ap is_refused o.came ∙ refused_is (word t)

    next_line : (o : Next) → came_line attempt_line (came_in write there o.push) ≡ last_line t
    next_line o = ap (came_line attempt_line) o.came ∙ line_is (word t)

    next_passed : (o : Next) → all_passed write at (o.push ∷ p.ps) ≡ drain.all_passed (t ∷ ts)
    next_passed o = ap₂ (λ (l k : List Passed). l ++ k) p.passed o.passed

    abbrev turns_and : Next → TurnsPushed old new (before ++ later) names (t ∷ ts) at
    turns_and o = record {
      ps = o.push ∷ p.ps;
      names_are = (o.names_is, p.names_are);
      are = (p.are, o.is);
      tried = λ told. (p.tried told.1, ap is_tried o.came ∙ tried_is (word t) told.0);
      lost = ap₂ (λ (x y : Bool). x || y) p.lost (next_lost o);
      refused = ap₂ (λ (x y : Bool). x || y) p.refused (next_refused o);
      passed = next_passed o;
      frames = ap sent_in (next_passed o)
          ∙ sent_more (drain.all_passed ts) (passed_of t.claimed t.exchange)
          ∙ ap₂ (λ (l k : List (Bytes × Bytes)). l ++ k) (ap sent_in (sym p.passed) ∙ p.frames) (frames_are t.claimed t.exchange);
      replies = ap said_in (next_passed o)
          ∙ said_more (drain.all_passed ts) (passed_of t.claimed t.exchange)
          ∙ ap₂ (λ (l k : List (Bytes × Bytes)). l ++ k) (ap said_in (sym p.passed) ∙ p.replies) (replies_are t.claimed t.exchange);
      took = ap₂ (λ (l k : List ℕ). l ++ k) p.took o.took;
      lines = ap₂ (λ (l k : Bytes). l ++ k) p.lines (next_line o);
      events = (o.events.0 ∷ p.events.0, ap₂ (λ (l k : List Event). l ++ k) p.events.1 o.events.1);
      serves = subst (λ (u : World). Serves keeper new (onto (before ++ later) b) u.server) (sym (next_world o))
          (subst (λ (c : Book). Serves keeper new c (run write (push_events write there o.push) there).server) (onto_more before later b) o.serves);
      uses = subst (λ (c : Book). Uses keeper new c) (onto_more before later b) o.uses;
      doubted = λ told was. subst (λ (u : World). InWorld keeper new u.server) (sym (next_world o)) (o.doubted told (p.doubted told was));
    }

  turns_pushed : (names : List Bytes) (ts : List Turn) (old new : Room K) (more : List Entry) (at : World) → Serves keeper old b at.server → Uses keeper old b → TurnsHappen keeper old new b names ts more → TurnsPushed old new more names ts at
  turns_pushed names [] old new more at serves uses h =
      subst (λ (r : Room K). TurnsPushed old r more names [] at) (sym h.0) (subst (λ (l : List Entry). TurnsPushed old old l names [] at) (sym h.1) (no_turns old names at serves uses))
  turns_pushed names (t ∷ ts) old new more at serves uses h =
      let p = turns_pushed names ts old h.0 h.2 at serves uses h.5 in
      let o = one_push keeper h.0 h.1 new (onto h.2 b) names t.reading h.3 h.4 (behind write at p.ps) p.serves p.uses t.claimed t.exchange h.6.claim h.6.exchange in
      subst (λ (l : List Entry). TurnsPushed old new l names (t ∷ ts) at) (sym h.7) (turns_and old h.0 new h.2 (h.3 ++ h.4) names t ts at p o)

-- ---- ends

counts_as : (failed : Bool) (x y : ℕ) → CountsFaults failed x y → Counts failed x y
counts_as true x y counts = counts
counts_as false x y counts = counts

idle_more : (a b : Bool) (x e : Drained) → x ≡ ends.Drained.Idle a b → IsTrue (is_idle e) → (c : Bool) × (f : Bool) × (end_behind x e ≡ ends.Drained.Idle c f)
idle_more a b x (ends.Drained.Idle lf nr) is idle = (a || lf, b || nr, ap (λ (y : Drained). end_behind y (ends.Drained.Idle lf nr)) is)
idle_more a b x ends.Drained.StoreFault is idle = absurd cc
idle_more a b x ends.Drained.OutputFault is idle = absurd cc
idle_more a b x (ends.Drained.Full size count) is idle = absurd cc
idle_more a b x ends.Drained.Memory is idle = absurd cc

all_idle : (ds : List LinkDrain) → AllIdle ds → (a : Bool) × (b : Bool) × (end_of_all ds ≡ ends.Drained.Idle a b)
all_idle [] idle = (false, false, refl)
all_idle (d ∷ ds) idle = let so_far = all_idle ds idle.1 in idle_more so_far.0 so_far.1 (end_of_all ds) d.end so_far.2 idle.0

-- behind drains that ended with none ready
status_behind : (a b : Bool) (x e : Drained) → x ≡ ends.Drained.Idle a b → status_at e ≡ status_at (end_behind x e)
status_behind a b x (ends.Drained.Idle lf nr) is = ap (λ (y : Drained). status_at (end_behind y (ends.Drained.Idle lf nr))) (sym is)
status_behind a b x ends.Drained.StoreFault is = ap (λ (y : Drained). status_at (end_behind y ends.Drained.StoreFault)) (sym is)
status_behind a b x ends.Drained.OutputFault is = ap (λ (y : Drained). status_at (end_behind y ends.Drained.OutputFault)) (sym is)
status_behind a b x (ends.Drained.Full size count) is = ap (λ (y : Drained). status_at (end_behind y (ends.Drained.Full size count))) (sym is)
status_behind a b x ends.Drained.Memory is = ap (λ (y : Drained). status_at (end_behind y ends.Drained.Memory)) (sym is)

idle_behind : (a b : Bool) (x e : Drained) (lost refused : Bool) (w : Worked) → x ≡ ends.Drained.Idle a b → IsEnd lost refused w e → (c f : Bool) → end_behind x e ≡ ends.Drained.Idle c f
    → (a || (lost || is_link_fault w) ≡ c) × (b || (refused || is_no_receipt w) ≡ f)
idle_behind a b x (ends.Drained.Idle lf nr) lost refused w is ended_so c f all =
    let i = idles lost refused lf nr w ended_so in
    let whole : ends.Drained.Idle (a || lf) (b || nr) ≡ ends.Drained.Idle c f = ap (λ (y : Drained). end_behind y (ends.Drained.Idle lf nr)) (sym is) ∙ all in
    let one : a || lf ≡ c = cc whole in
    let two : b || nr ≡ f = cc whole in (
      ap (λ (y : Bool). a || (lost || y)) i.kept ∙ ap (λ (y : Bool). a || y) (or_none lost ∙ sym i.lost_is) ∙ one,
      ap (λ (y : Bool). b || (refused || y)) i.taken ∙ ap (λ (y : Bool). b || y) (or_none refused ∙ sym i.refused_is) ∙ two,
    )
idle_behind a b x ends.Drained.StoreFault lost refused w is ended_so c f all =
    let none : ends.Drained.StoreFault ≡ ends.Drained.Idle c f = ap (λ (y : Drained). end_behind y ends.Drained.StoreFault) (sym is) ∙ all in absurd (cc none)
idle_behind a b x ends.Drained.OutputFault lost refused w is ended_so c f all =
    let none : ends.Drained.OutputFault ≡ ends.Drained.Idle c f = ap (λ (y : Drained). end_behind y ends.Drained.OutputFault) (sym is) ∙ all in absurd (cc none)
idle_behind a b x (ends.Drained.Full size count) lost refused w is ended_so c f all =
    let none : ends.Drained.Full size count ≡ ends.Drained.Idle c f = ap (λ (y : Drained). end_behind y (ends.Drained.Full size count)) (sym is) ∙ all in absurd (cc none)
idle_behind a b x ends.Drained.Memory lost refused w is ended_so c f all =
    let none : ends.Drained.Memory ≡ ends.Drained.Idle c f = ap (λ (y : Drained). end_behind y ends.Drained.Memory) (sym is) ∙ all in absurd (cc none)

-- a link's count, where none of its feeds is ready
link_counts : (lost refused : Bool) (w : Worked) (e : Drained) (x y : ℕ) → IsEnd lost refused w e → CountsLink e x y → status_at e ≡ status.Done → Counts (lost || is_link_fault w) x y
link_counts lost refused w (ends.Drained.Idle lf nr) x y ended_so counts done =
    let i = idles lost refused lf nr w ended_so in subst (λ (c : Bool). Counts c x y) (i.lost_is ∙ sym (or_none lost) ∙ ap (λ (c : Bool). lost || c) (sym i.kept)) (counts_as lf x y counts)
link_counts lost refused w ends.Drained.StoreFault x y ended_so counts done = absurd cc
link_counts lost refused w ends.Drained.OutputFault x y ended_so counts done = absurd cc
link_counts lost refused w (ends.Drained.Full size count) x y ended_so counts done = absurd cc
link_counts lost refused w ends.Drained.Memory x y ended_so counts done = absurd cc

-- a drain's last turn, where none is ready, has no line
idle_line : (lost refused : Bool) (w : Worked) (e : Drained) → IsEnd lost refused w e → IsTrue (is_idle e) → drain.line_of (drain.report_of w) ≡ []
idle_line lost refused w (ends.Drained.Idle lf nr) ended_so idle = (idles lost refused lf nr w ended_so).silent
idle_line lost refused w ends.Drained.StoreFault ended_so idle = absurd cc
idle_line lost refused w ends.Drained.OutputFault ended_so idle = absurd cc
idle_line lost refused w (ends.Drained.Full size count) ended_so idle = absurd cc
idle_line lost refused w ends.Drained.Memory ended_so idle = absurd cc

-- the causes and the status, by the end of all
pub causes_at : (k k' o o' : ℕ) (e : Drained) → CountsFaults (is_store_end e) k k' → CountsFaults (is_output_end e) o o' → Causes k k' o o' (status_at e)
causes_at k k' o o' (ends.Drained.Idle lf nr) store out = (store, out)
causes_at k k' o o' ends.Drained.StoreFault store out = (store, out)
causes_at k k' o o' ends.Drained.OutputFault store out = (store, out)
causes_at k k' o o' (ends.Drained.Full size count) store out = (store, out)
causes_at k k' o o' ends.Drained.Memory store out = (store, out)

told_idle : (a b : Bool) → told_as status.Done a b ≡ drain_status (ends.Drained.Idle a b)
told_idle true b = refl
told_idle false true = refl
told_idle false false = refl

pub status_told : (e : Drained) (lost refused : Bool) → ((a b : Bool) → e ≡ ends.Drained.Idle a b → (lost ≡ a) × (refused ≡ b)) → drain_status e ≡ told_as (status_at e) lost refused
status_told (ends.Drained.Idle lf nr) lost refused idle = let i = idle lf nr refl in sym (told_idle lf nr) ∙ ap₂ (λ (x y : Bool). told_as status.Done x y) (sym i.0) (sym i.1)
status_told ends.Drained.StoreFault lost refused idle = refl
status_told ends.Drained.OutputFault lost refused idle = refl
status_told (ends.Drained.Full size count) lost refused idle = refl
status_told ends.Drained.Memory lost refused idle = refl

pub done_idle : (e : Drained) → status_at e ≡ status.Done → IsTrue (is_idle e)
done_idle (ends.Drained.Idle lf nr) done = refl
done_idle ends.Drained.StoreFault done = absurd cc
done_idle ends.Drained.OutputFault done = absurd cc
done_idle (ends.Drained.Full size count) done = absurd cc
done_idle ends.Drained.Memory done = absurd cc

-- ---- drains of links

some_is : {A : Type 0} (x y : A) → Some x ≡ Some y → x ≡ y
some_is x y is = cc

but_last : (ds : List LinkDrain) → AllIdle ds → AllIdleButLast ds
but_last [] idle = tt
but_last (d ∷ ds) idle = idle.1

module _ {D S O C L K : Type 0} (m : Meanings D S O C L) (before after : Outside D S O C L) (number : ℕ) (keeper : KeeperMeaning K) (b : Book) (w : World) where
  abbrev writer : Writer
  writer = the_writer b.store

  abbrev pub Linked : List L → List Drain → Type 0
  Linked links drains = LinksDrained newsroom_formats m before after number writer w links drains

  -- drains that left the room so, with these entries more, and the links so
  pub record DrainsPushed (old new : Room K) (more : List Entry) (ds : List LinkDrain) (links : List L) : Type 0 where
    pub drains : List Drain
    pub linked : Linked links drains
    pub count : length drains ≡ length ds
    pub dones : AllIdle ds → Each (λ (d : Drain). d.why ≡ status.Done) drains
    pub ended_is : ended drains ≡ status_at (end_of_all ds)
    pub idle_is : (x y : Bool) → end_of_all ds ≡ ends.Drained.Idle x y → (some_in writer is_lost w (pushes drains) ≡ x) × (some_in writer is_refused w (pushes drains) ≡ y)
    pub took : all_readings (pushes drains) ≡ drains_readings ds
    pub all : AllIdle ds → all_lines writer attempt_line w (pushes drains) ≡ drains_lines ds
    pub lines : first_lines writer attempt_line w (pushes drains) ≡ drains_lines ds
    pub last : push.last_line writer attempt_line w (pushes drains) ≡ drains_last ds
    pub events : (xs : List WorldTurn) × (all_events writer w (pushes drains) ≡ pushed xs)
    pub serves : Serves keeper new (onto more b) (behind writer w (pushes drains)).server
    pub uses : Uses keeper new (onto more b)
    pub doubted : b.told ≡ true → InWorld keeper old w.server → InWorld keeper new (behind writer w (pushes drains)).server

  no_drains : (old : Room K) → Serves keeper old b w.server → Uses keeper old b → DrainsPushed old old [] [] before.links
  no_drains old serves uses = record {
    drains = [];
    linked = refl;
    count = refl;
    dones = λ none. tt;
    ended_is = refl;
    idle_is = λ x y is. (cc, cc);
    took = refl;
    all = λ none. refl;
    lines = refl;
    last = refl;
    events = ([], refl);
    serves = serves;
    uses = uses;
    doubted = λ told was. was;
  }

  -- one drain more
  module _ (old left new : Room K) (earlier : List Entry) (ds : List LinkDrain) (links then : List L) (p : DrainsPushed old left earlier ds then) (idle : AllIdle ds) (d : LinkDrain) (names : List Bytes)
      (h : DrainHappens keeper left new (onto earlier b) names d.last d.turns d.more) (one now : L) (found : slice_get before.links (length ds) ≡ Some one) (served : names ≡ m.link.serves one) (k : DrainsLink m.link one now d)
      (is : links ≡ slice_set then (length ds) now) where
    abbrev at : World
    at = behind writer w (pushes p.drains)

    abbrev book : Book
    book = onto earlier b

    others : TurnsPushed keeper book left h.left h.before names d.turns at
    others = turns_pushed keeper book names d.turns left h.left h.before at p.serves p.uses h.turns

    abbrev before_last : World
    before_last = behind writer at others.ps

    last_push : OnePush keeper h.left new (onto h.before book) (h.first ++ h.later) names d.last before_last
    last_push =
        one_push keeper h.left h.between new (onto h.before book) names d.last.reading h.first h.later before_last others.serves others.uses d.last.claimed d.last.exchange h.last.claim h.last.exchange

    abbrev whole : TurnsPushed keeper book left new (h.before ++ (h.first ++ h.later)) names (d.last ∷ d.turns) at
    whole = turns_and keeper book left h.left new h.before (h.first ++ h.later) names d.last d.turns at others last_push

    abbrev this : Drain
    this = record { last = last_push.push; others = others.ps; why = status_at d.end }

    abbrev these : List Push
    these = last_push.push ∷ others.ps

    this_linked : LinkDrained newsroom_formats m before after number writer w one now at this
    this_linked = record {
      names = subst (λ (ns : List Bytes). Each (λ (x : Push). x.names ≡ ns) these) served whole.names_are;
      are = whole.are;
      tried = others.tried k.reported;
      ends = subst (λ (c : Came). push.Ends c (status_at d.end)) (sym last_push.came) (ends_are (lost_in d.turns) (refused_in d.turns) (word d.last) d.end k.end);
      told = λ tells. (k.passes tells).tells;
      goes = λ tells. subst (Goes m.link one now) (sym whole.passed) (k.passes tells).goes;
      sent = λ tells. (k.passes tells).sent ∙ ap (λ (l : List (Bytes × Bytes)). m.link.sent one ++ l) (sym whole.frames);
      said = λ tells. (k.passes tells).said ∙ ap (λ (l : List (Bytes × Bytes)). m.link.said one ++ l) (sym whole.replies);
      serves = k.serves;
      faults = λ done. subst (λ (c : Bool). Counts c (m.link.faults one) (m.link.faults now)) (sym whole.lost)
          (link_counts (lost_in d.turns) (refused_in d.turns) (word d.last) d.end (m.link.faults one) (m.link.faults now) k.end k.faults done);
    }

    abbrev all_pushes : List Push
    all_pushes = these ++ pushes p.drains

    -- of the drains before
    was_idle : (x : Bool) × (y : Bool) × (end_of_all ds ≡ ends.Drained.Idle x y)
    was_idle = all_idle ds idle

    some_all : (test : Came → Bool) → some_in writer test w all_pushes ≡ some_in writer test w (pushes p.drains) || some_in writer test at these
    some_all test = some_more writer w test these (pushes p.drains)

    idle_all : (x y : Bool) → end_of_all (d ∷ ds) ≡ ends.Drained.Idle x y → (some_in writer is_lost w all_pushes ≡ x) × (some_in writer is_refused w all_pushes ≡ y)
    idle_all x y so =
        let was = p.idle_is was_idle.0 was_idle.1 was_idle.2 in
        let both = idle_behind was_idle.0 was_idle.1 (end_of_all ds) d.end (lost_in d.turns) (refused_in d.turns) (word d.last) was_idle.2 k.end x y so in (
          some_all is_lost ∙ ap₂ (λ (u v : Bool). u || v) was.0 whole.lost ∙ both.0,
          some_all is_refused ∙ ap₂ (λ (u v : Bool). u || v) was.1 whole.refused ∙ both.1,
        )

    lines_all : first_lines writer attempt_line w all_pushes ≡ drains_lines (d ∷ ds)
    lines_all = lines_more writer w others.ps (pushes p.drains) ∙ ap₂ (λ (l r : Bytes). l ++ r) (p.all idle) others.lines

    last_world : behind writer w (others.ps ++ pushes p.drains) ≡ before_last
    last_world = behind_more writer w others.ps (pushes p.drains)

    last_all : push.last_line writer attempt_line w all_pushes ≡ drain.last_line d.last
    last_all = ap (λ (u : World). came_line attempt_line (came_in writer u last_push.push)) last_world ∙ ap (came_line attempt_line) last_push.came ∙ line_is (word d.last)

    entries_are : earlier ++ (h.before ++ (h.first ++ h.later)) ≡ earlier ++ d.more
    entries_are = ap (λ (l : List Entry). earlier ++ l) (sym h.more_is)

    book_is : onto (h.before ++ (h.first ++ h.later)) book ≡ onto (earlier ++ d.more) b
    book_is = onto_more earlier (h.before ++ (h.first ++ h.later)) b ∙ ap (λ (l : List Entry). onto l b) entries_are

    drains_and : DrainsPushed old new (earlier ++ d.more) (d ∷ ds) links
    drains_and = record {
      drains = this ∷ p.drains;
      linked = (then, one, now, p.linked, p.dones idle, subst (λ (i : ℕ). slice_get before.links i ≡ Some one) (sym p.count) found, this_linked, is ∙ ap (λ (i : ℕ). slice_set then i now) (sym p.count));
      count = ap suc p.count;
      dones = λ all. (idle_done d.end all.0, p.dones all.1);
      ended_is = status_behind was_idle.0 was_idle.1 (end_of_all ds) d.end was_idle.2;
      idle_is = idle_all;
      took = readings_more these (pushes p.drains) ∙ ap₂ (λ (l r : List ℕ). l ++ r) p.took whole.took;
      all = λ all. ap₂ (λ (l r : Bytes). l ++ r) lines_all (last_all ∙ idle_line (lost_in d.turns) (refused_in d.turns) (word d.last) d.end k.end all.0) ∙ append-nil (drains_lines (d ∷ ds));
      lines = lines_all;
      last = last_all;
      events = (whole.events.0 ++ p.events.0, events_more writer w these (pushes p.drains) ∙ ap₂ (λ (l r : List Event). l ++ r) p.events.1 whole.events.1 ∙ sym (pushed_more whole.events.0 p.events.0));
      serves = subst (λ (u : World). Serves keeper new (onto (earlier ++ d.more) b) u.server) (sym (behind_more writer w these (pushes p.drains)))
          (subst (λ (c : Book). Serves keeper new c (behind writer at these).server) book_is whole.serves);
      uses = subst (λ (c : Book). Uses keeper new c) book_is whole.uses;
      doubted = λ told was. subst (λ (u : World). InWorld keeper new u.server) (sym (behind_more writer w these (pushes p.drains))) (whole.doubted told (p.doubted told was));
    }

  pub drains_pushed : (ds : List LinkDrain) (old new : Room K) (more : List Entry) (links : List L) → DrainsHappen keeper old new b (map m.link.serves before.links) ds more → DrainLinks m.link before.links links ds → AllIdleButLast ds
      → Serves keeper old b w.server → Uses keeper old b → DrainsPushed old new more ds links
  drains_pushed [] old new more links h k idle serves uses =
      subst (λ (r : Room K). DrainsPushed old r more [] links) (sym h.0)
      (subst (λ (l : List Entry). DrainsPushed old old l [] links) (sym h.1) (subst (λ (ls : List L). DrainsPushed old old [] [] ls) (sym k) (no_drains old serves uses)))
  drains_pushed (d ∷ ds) old new more links h k idle serves uses =
      let p = drains_pushed ds old h.0 h.1 k.0 h.3 k.3 (but_last ds idle) serves uses in
      let named : Some h.2 ≡ Some (m.link.serves k.1) = sym h.4 ∙ slice_get-map m.link.serves before.links (length ds) ∙ ap (λ (o : Option L). option_map m.link.serves o) k.4 in
      subst (λ (l : List Entry). DrainsPushed old new l (d ∷ ds) links) (sym h.6)
      (drains_and old h.0 new h.1 ds links k.0 p idle d h.2 h.5 k.1 k.2 k.4 (some_is h.2 (m.link.serves k.1) named) k.5 k.6)
