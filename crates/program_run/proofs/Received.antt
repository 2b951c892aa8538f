-- What `receive` did, by what was said of it before.
use Rattle.std.proofs.Common.{◌≡◌, ◌⊎◌, inl, inr, ℕ, ◌+◌, ◌≤◌, Bool, true, false, List, [], ◌∷◌, ◌++◌, map, take, refl, sym, ap, ◌∙◌, subst, arith}
use Rattle.std.specs.Prelude.{Result, Ok, Err}
use Rattle.std.proofs.lemmas.List.{take_at}
use Rattle.news_types.specs.Names.{Bytes}
use Rattle.news_types.specs.Frames.{Frame}
use Rattle.byte_formats.proofs.Whole.{one_spelling}
use Rattle.news_io.specs.Outside.{Meanings, Outside}
use Rattle.news_journal.specs.Journal.{journal_of}
use Rattle.news_journal.specs.Log.{header_bytes}
use Rattle.news_journal.specs.Stands.{disk_of}
use Rattle.news_journal.specs.Stands as stands
use Rattle.news_journal.specs.declared.header.Header.TheVariants as header
use Rattle.news_journal.specs.declared.log.Journal.{Journal}
use Rattle.news_journal.proofs.Opens.{length-head}
use Rattle.run_status.specs.Output.{Told}
use Rattle.run_status.specs.Status.{number_of, line_of}
use Rattle.run_status.specs.declared.status.Status.{Status}
use Rattle.feed_receiver.specs.Feed.{InOrder}
use Rattle.feed_receiver.specs.Formats.{frame}
use Rattle.feed_receiver.specs.Spelling.{frame_bytes, IsFrame}
use Rattle.feed_receiver.specs.declared.receiver.Receiver.{Receiver}
use Rattle.feed_receiver.proofs.Written.{frame_lawful}
use Rattle.frame_run.specs.Status as run
use Rattle.frame_run.specs.declared.ending.Ending.{Ending}
use Rattle.frame_run.specs.declared.ending.Ending.TheVariants as end
use Rattle.receiver_files.specs.Log as log
use Rattle.receiver_files.specs.LogLeft as old_left
use Rattle.receiver_files.specs.LogLeft.{LogLeft, InDoubt}
use Rattle.receiver_files.specs.Opening.{IsOpenReceiver}
use Rattle.receiver_files.specs.Receive as old
use Rattle.receiver_files.specs.Refusals as refusals
use Rattle.receiver_files.specs.declared.refusal.Refusal.{Refusal}
use Rattle.receiver_files.specs.declared.refusal.Refusal.TheVariants as refusal
use Rattle.receiver_files.proofs.Lefts.{kept_left}
use Rattle.store_files.proofs.Holding.{calls_shut}
use Rattle.program_run.specs.Received.{WasTried, Causes, status_of, head_of, IsLeft, Between, OpenAlike, Cause, MayBeMade, NotBegun, Received, IsReceived}
use Rattle.program_run.specs.Telling.{StoreCounts}
use Rattle.program_run.proofs.Answered.{Shown, shown, causes_of}

-- ---- files that do not serve

cause_of : (name : Bytes) (file : List ℕ) (why : Refusal) → log.Cause name file why → Cause name file (refusals.status_of why)
cause_of name file refusal.WrongStore c = c
cause_of name file refusal.Store c = c
cause_of name file (refusal.Damaged at found) c = c
cause_of name file refusal.Memory c = c

counts_of : (before now : ℕ) (why : Refusal) → log.RefusalCounts before now why → StoreCounts before now (refusals.status_of why)
counts_of before now refusal.WrongStore c = c
counts_of before now refusal.Store c = c
counts_of before now (refusal.Damaged at found) c = c
counts_of before now refusal.Memory c = c

status_same : (result : Result (Unit {0}) Ending) → run.status_of result ≡ status_of result
status_same (Ok u) = refl
status_same (Err end.Read) = refl
status_same (Err end.Write) = refl
status_same (Err end.Store) = refl
status_same (Err end.Full) = refl
status_same (Err end.Memory) = refl
status_same (Err end.TooLong) = refl
status_same (Err (end.BadFrame at)) = refl

-- ---- the header

-- frames of one form with one spelling are the same
one_frame : (f g : Frame) → IsFrame f → IsFrame g → frame_bytes f ≡ frame_bytes g → f ≡ g
one_frame f g a b is = one_spelling frame IsFrame frame_lawful f g a b is

-- and so are those of one feed
same_frames : (name : Bytes) (k : ℕ) (xs ys : List Frame) → InOrder name k xs → InOrder name k ys → map frame_bytes xs ≡ map frame_bytes ys → xs ≡ ys
same_frames name k [] [] o p is = refl
same_frames name k [] (g ∷ ys) o p is = absurd (cc is)
same_frames name k (f ∷ xs) [] o p is = absurd (cc is)
same_frames name k (f ∷ xs) (g ∷ ys) o p is =
    let first : frame_bytes f ≡ frame_bytes g = list_head is in
    let rest : map frame_bytes xs ≡ map frame_bytes ys = list_tail is in
    ap (λ (h : Frame). h ∷ xs) (one_frame f g o.0.form p.0.form first) ∙ ap (λ (l : List Frame). g ∷ l) (same_frames name (k + 1) xs ys o.1 p.1 rest)
  where
    list_head : {x y : Bytes} {l m : List Bytes} → x ∷ l ≡ y ∷ m → x ≡ y
    list_head same = cc

    list_tail : {x y : Bytes} {l m : List Bytes} → x ∷ l ≡ y ∷ m → l ≡ m
    list_tail same = cc

-- ---- the command

module _ {D S O C L : Type 0} (m : Meanings D S O C L) (before after : Outside D S O C L) (number : ℕ) (name : Bytes) where
  not_begun : old.NotBegun m.disk m.source m.sink name before.log after.log before.input after.input before.output after.output number → NotBegun m before after number name
  not_begun n = record {
    why = refusals.status_of n.why;
    cause = λ tells. cause_of name (m.disk.seen before.log) n.why (n.refused.cause tells);
    counts = counts_of (m.disk.faults before.log) (m.disk.faults after.log) n.why n.refused.count;
    left = λ tells. elim (n.refused.left tells) [
      | inl still ↦ inl still
      | inr unmade ↦ inr (record { empty = unmade.empty; failed = ap refusals.status_of unmade.why_is; tells = unmade.told; crash = unmade.crash })
    ];
    told = record { status_is = n.stopped.status_is; line = n.stopped.line };
    input = n.input_same;
  }

  module _ (r r' : Receiver (Journal D)) (o : IsOpenReceiver m.disk name before.log r) where
    none_before : (x : Bytes) → (journal_of m.disk).doubts r.keeper x → ⊥
    none_before x d = calls_shut r.keeper.ajar o.quiet d.is_ajar

    -- the header that the file has, or was given
    head_is : m.disk.tells before.log → stands.head_of r.keeper ≡ head_of name (m.disk.seen before.log)
    head_is tells = by_file (m.disk.seen before.log) refl
      where
        now : log.OpenTo (stands.head_of r.keeper) name (m.disk.seen (disk_of r.keeper)) o.frames
        now = o.keeps tells (m.disk.seen (disk_of r.keeper)) (inl refl)

        by_file : (file : List ℕ) → m.disk.seen before.log ≡ file → stands.head_of r.keeper ≡ head_of name file
        by_file [] none =
            let new = header_bytes (header.Receiver name) in
            sym now.begins ∙ ap (take 64) (o.made tells none) ∙ take_at new (0 ∷ []) 64 (length-head (header.Receiver name) new o.named (2, inr refl, refl))
        by_file (x ∷ file) some =
            let still = o.still tells (λ none. absurd (cc (sym some ∙ none))) in
            sym now.begins ∙ ap (take 64) (still.seen_same ∙ some)

    module _ (told : Bool)
        (ran : run.IsRun (journal_of m.disk) m.source m.sink old.LONGEST_INPUT before.input after.input r r' before.output after.output (record { name = name; told = told; frames = o.frames }) number) where
      what : Shown (journal_of m.disk) m.sink r r' before.output ran.mid (record { name = name; told = told; frames = o.frames }) ran.ran.read ran.ran.more o.used none_before ran.result
      what = shown (journal_of m.disk) m.sink r r' before.output ran.mid (record { name = name; told = told; frames = o.frames }) ran.ran.read ran.ran.more o.used none_before ran.result ran.ran.did

      abbrev Tried : Frame → Type 0
      Tried f = WasTried ran.result what.next f

      -- what is in doubt was tried
      tried : told ≡ true → (f : Frame) → InDoubt m.disk r' f → Tried f
      tried is f d =
          let one = what.doubt is (frame_bytes f) d.1 in
          subst Tried (sym (one_frame f one.0 d.0 one.2 one.3)) one.1

      failed : (f : Frame) → Tried f → number ≡ 6
      failed f t = ran.status_is ∙ ap (λ (x : Result (Unit {0}) Ending). number_of (run.status_of x)) t.0

      abbrev Head : List ℕ
      Head = head_of name (m.disk.seen before.log)

      abbrev LeftAt : D → Type 0
      LeftAt d = (file : List ℕ) → (file ≡ m.disk.seen d) ⊎ m.disk.may_leave d file → IsLeft Head name what.now Tried file

      abbrev SinceAt : D → Type 0
      SinceAt d = (file : List ℕ) → m.disk.left_since d (m.disk.moment before.log) file → Between Head name o.frames what.now Tried file ⊎ ((was : List ℕ) × MayBeMade m before after number name was × OpenAlike Head name was file)

    module _ (tells : m.disk.tells before.log)
        (ran : run.IsRun (journal_of m.disk) m.source m.sink old.LONGEST_INPUT before.input after.input r r' before.output after.output (record { name = name; told = true; frames = o.frames }) number) where
      abbrev now : List Frame
      now = (what true ran).now

      left : LogLeft m.disk name before.log r r' o.frames number
      left = kept_left m.disk name before.log r r' o tells now (what true ran).kept number (λ other x d. let one = (what true ran).doubt refl x d in other (failed true ran one.0 one.1))

      same_now : left.frames ≡ now
      same_now =
          let before = left.holds in
          let after = (what true ran).kept.list in
          same_frames name 1 left.frames now before.order after.order (sym (before.kept refl).is ∙ (after.kept refl).is)

      head_now : stands.head_of r'.keeper ≡ Head true ran
      head_now = left.same_header ∙ head_is tells

      at_head : (P : List ℕ → Type 0) → P (stands.head_of r'.keeper) → P (Head true ran)
      at_head P is = subst P head_now is

      left_so : (part : List Frame) (P Q : Frame → Type 0) → ((f : Frame) → P f → Q f) → (file : List ℕ) → old_left.IsLeft (stands.head_of r'.keeper) name part P file → IsLeft (Head true ran) name part Q file
      left_so part P Q more file (inl all) = inl (at_head (λ (h : List ℕ). log.OpenTo h name file part) all)
      left_so part P Q more file (inr one) = inr (one.0, more one.0 one.1, at_head (λ (h : List ℕ). log.OpenTo h name file (part ++ one.0 ∷ [])) one.2)

      between : (file : List ℕ) → old_left.Between (stands.head_of r'.keeper) name o.frames now (InDoubt m.disk r') file → Between (Head true ran) name o.frames now (Tried true ran) file
      between file b = record {
        part = b.part;
        beyond = b.beyond;
        within = b.within;
        left = left_so b.part (λ f. (b.part ≡ now) × InDoubt m.disk r' f) (λ f. (b.part ≡ now) × Tried true ran f) (λ f d. (d.0, tried true ran refl f d.1)) file b.left;
      }

      left_now : LeftAt true ran (disk_of r'.keeper)
      left_now file may = left_so now (InDoubt m.disk r') (Tried true ran) (tried true ran refl) file (subst (λ (l : List Frame). old_left.IsLeft (stands.head_of r'.keeper) name l (InDoubt m.disk r') file) same_now (left.now file may))

      since : SinceAt true ran (disk_of r'.keeper)
      since file was = elim (left.since_begun file was) [
        | inl b ↦ inl (between file (subst (λ (l : List Frame). old_left.Between (stands.head_of r'.keeper) name o.frames l (InDoubt m.disk r') file) same_now b))
        | inr alike ↦ inr (alike.0, alike.1, at_head (λ (h : List ℕ). OpenAlike h name alike.0 file) alike.2)
      ]

    module _ (same : after.log ≡ disk_of r'.keeper) where
      time_goes : (told : Bool) (tells : told ≡ true → m.disk.tells before.log)
          (ran : run.IsRun (journal_of m.disk) m.source m.sink old.LONGEST_INPUT before.input after.input r r' before.output after.output (record { name = name; told = told; frames = o.frames }) number)
          → told ≡ true → m.disk.moment before.log ≤ m.disk.moment after.log
      time_goes true tells ran is =
          let first = (o.crash (tells refl)).later in
          let then = ((what true ran).kept.time refl).later in
          let both : m.disk.moment before.log ≤ m.disk.moment (disk_of r'.keeper) = omega (arith, first, then) in
          subst (λ (d : D). m.disk.moment before.log ≤ m.disk.moment d) (sym same) both
      time_goes false tells ran is = absurd (cc is)

      at_file : (told : Bool) (tells : told ≡ true → m.disk.tells before.log)
          (ran : run.IsRun (journal_of m.disk) m.source m.sink old.LONGEST_INPUT before.input after.input r r' before.output after.output (record { name = name; told = told; frames = o.frames }) number)
          → told ≡ true → LeftAt told ran after.log × SinceAt told ran after.log
      at_file true tells ran is = (subst (LeftAt true ran) (sym same) (left_now (tells refl) ran), subst (SinceAt true ran) (sym same) (since (tells refl) ran))
      at_file false tells ran is = absurd (cc is)

      module _ (told : Bool) (tells : told ≡ true → m.disk.tells before.log)
          (ran : run.IsRun (journal_of m.disk) m.source m.sink old.LONGEST_INPUT before.input after.input r r' before.output after.output (record { name = name; told = told; frames = o.frames }) number) where
        abbrev CausesOf : ℕ → ℕ → Type 0
        CausesOf k k' = Causes (m.source.faults before.input) (m.source.faults after.input) k k' (m.sink.faults before.output) (m.sink.faults ran.mid) ran.result

        causes : CausesOf (m.disk.faults before.log) (m.disk.faults after.log)
        causes =
            let so = causes_of (m.source.faults before.input) (m.source.faults after.input) ((journal_of m.disk).faults r.keeper) ((journal_of m.disk).faults r'.keeper) (m.sink.faults before.output) (m.sink.faults ran.mid) ran.result ran.ends in
            let now : (journal_of m.disk).faults r'.keeper ≡ m.disk.faults after.log = ap m.disk.faults (sym same) in
            subst (λ (k : ℕ). CausesOf k (m.disk.faults after.log)) o.calm (subst (CausesOf ((journal_of m.disk).faults r.keeper)) now so)

        pub received : Received m before after number name told
        received =
            let shows = what told ran in
            record {
              named = o.named;
              held = o.frames;
              order = (o.holds told tells).order;
              read = ran.ran.read;
              more = ran.ran.more;
              source_tells = ran.ran.was_read.told;
              was_read = λ t. (ran.ran.was_read.input t, ran.ran.was_read.rest t);
              few = ran.ran.few;
              ended = ran.result;
              frames = shows.frames;
              now = shows.now;
              goes_on = shows.kept.more;
              said = shows.said;
              next = shows.next;
              answers = shows.answers;
              mid = ran.mid;
              half = shows.half;
              wrote = shows.wrote;
              passed_first = shows.passed;
              number_is = ran.status_is ∙ ap number_of (status_same ran.result);
              line = subst (λ (s : Status). Told m.sink ran.mid after.output (line_of s)) (status_same ran.result) ran.line;
              passed = ran.passed;
              done = ran.done;
              causes = causes;
              file = λ is.
                  let at = at_file told tells ran is in
                  record { gives = o.gives (tells is); left = at.0; later = time_goes told tells ran is; since = at.1 };
            }

  pub is_received : (after.side ≡ before.side) → (after.clock ≡ before.clock) → (after.links ≡ before.links)
      → old.IsReceive m.disk m.source m.sink name before.log after.log before.input after.input before.output after.output number → IsReceived m before after number name
  is_received side clock links (inl n) = (side, clock, links, inl (not_begun n))
  is_received side clock links (inr a) = (side, clock, links, inr ((λ told tells. received a.receiver a.after a.opened a.same told tells (a.ran told tells)), a.complete))
