-- What a receiver's run did has happened in each world that holds its frames.
use Rattle.std.proofs.Common.{◌≡◌, ◌⊎◌, inl, inr, ℕ, ◌+◌, ◌≤◌, ◌<◌, Bool, true, false, List, [], ◌∷◌, ◌++◌, length, Option, Some, None, refl, sym, ap, ◌∙◌, subst, arith, length-append}
use Rattle.std.proofs.lemmas.List.{append-nil}
use Rattle.std.specs.Prelude.{Result, Ok, Err, IsTrue}
use Rattle.news_types.specs.Names.{Bytes, is_name}
use Rattle.news_types.specs.Frames.{Frame, Writer}
use Rattle.news_types.specs.Calls.{Fate, IsKept, IsFull, IsFailed}
use Rattle.news_types.specs.Receiver as step
use Rattle.news_io.specs.Disk.{DiskMeaning}
use Rattle.news_io.specs.Keeper.{KeeperMeaning}
use Rattle.news_io.specs.Sink.{AreFirst, SinkMeaning}
use Rattle.news_io.specs.Source.{SourceMeaning}
use Rattle.run_status.specs.Output.{Wrote}
use Rattle.run_status.proofs.Tellings.{wrote_is}
use Rattle.news_journal.specs.Calls.{append_calls}
use Rattle.news_journal.specs.Journal.{journal_of}
use Rattle.feed_receiver.specs.Holds.{Received, Holds}
use Rattle.feed_receiver.specs.Spelling.{frame_bytes, IsFrame}
use Rattle.feed_receiver.specs.declared.receiver.Receiver.{Receiver}
use Rattle.frame_run.specs.Answers.{behind, behind_all, receipt_for, receipts, Kept, AnsweredAll, AnsweredSome, NoneBegun, Begun, NextIs}
use Rattle.frame_run.specs.Run.{IsEnd}
use Rattle.frame_run.specs.declared.ending.Ending.{Ending}
use Rattle.frame_run.specs.declared.ending.Ending.TheVariants as end
use Rattle.receiver_files.specs.Receive.{LONGEST_INPUT}
use Rattle.world_laws.specs.World.{World, Event, FrameComes, SentReceipt, happens, run}
use Rattle.world_laws.specs.Bridge.{receipt_if}
use Rattle.world_laws.proofs.Bridge.{calls_are_events}
use Rattle.receiver_events.specs.Receptions.{WereSent, AreBegun, frame_in, answered_frames, begun_frame, fate_at, receipt_lines, AreReceipts, Lead, IsOneOf, OnlyReceives, ReceptionHappened, ReceptionsAreEvents}
use Rattle.receiver_events.proofs.Frames.{one_frame, same_frames, few_frames, is_accepted}
use Rattle.receiver_events.proofs.Leading.{run_on, lead_none, lead_then}
use Rattle.receiver_events.proofs.Coming.{Came, all_come, one_lead, one_only, only_same, only_then, AllUpTo, up_to_then, up_to_more, all_read, sent_first, sent_last}

begun_by_none : (ever : List Frame) (name : Bytes) (fate : Option Fate) → AreBegun ever name fate [] []
begun_by_none ever name None = refl
begun_by_none ever name (Some fate) = refl

same_begun : (old new : List Frame) (name : Bytes) (fate : Option Fate) (frames : List Frame) (events : List Event) → new ≡ old → AreBegun new name fate frames events → AreBegun old name fate frames events
same_begun old new name fate frames events is b = subst (λ (ever : List Frame). AreBegun ever name fate frames events) is b

-- ---- behind the frames that were answered

module _ (write : Writer) (name : Bytes) (D : Frame → Type 0) where
  -- from a world whose receiver holds these frames, of the frame that was begun
  record Ended (v : World) (held : List Frame) (begun : List Frame) (fate : Option Fate) (now : List Frame) (said : Bytes) : Type 0 where
    last : List Event
    next : AreBegun v.frames name fate begun last
    lead : Lead write v name last now
    goes : (more : List Frame) × (now ≡ held ++ more)
    only : OnlyReceives v (run write last v) name
    half : List SentReceipt
    of_last : (half ≡ []) ⊎ ((fate ≡ Some IsKept) × AreReceipts write v name last half)
    are : (run write last v).receipts ≡ half ++ v.receipts
    up_to : AllUpTo name (length now) half
    cut : AreFirst said (receipt_lines half)
    doubt : (f : Frame) → D f → IsOneOf ((run write last v).receivers name).doubt f

  -- no event more
  nothing_more : (v : World) (held begun : List Frame) (fate : Option Fate) → (v.receivers name).held ≡ held → AreBegun v.frames name fate begun [] → ((f : Frame) → D f → ⊥) → Ended v held begun fate held []
  nothing_more v held begun fate is next none = record {
    last = [];
    next = next;
    lead = subst (Lead write v name []) is (lead_none write name v);
    goes = ([], sym (append-nil held));
    only = only_same v name;
    half = [];
    of_last = inl refl;
    are = refl;
    up_to = tt;
    cut = ([], refl);
    doubt = λ f d. absurd (none f d);
  }

  -- a frame that is kept if it is accepted, and whose receipt is cut short
  cut_short : (v : World) (held : List Frame) (f : Frame) (said : Bytes) → (v.receivers name).held ≡ held → WereSent v.frames (f ∷ []) → (more : Bytes) × (receipt_for name held f ≡ said ++ more) → ((f : Frame) → D f → ⊥)
      → Ended v held (f ∷ []) (Some IsKept) (behind name held f) said
  cut_short v held f said is sent bytes none =
      let c : Came write name v held (f ∷ []) = all_come write name (f ∷ []) v held is sent in
      record {
        last = c.events;
        next = c.comings;
        lead = c.lead;
        goes = c.goes;
        only = c.only;
        half = c.sent;
        of_last = inr (refl, c.each);
        are = c.are;
        up_to = c.up_to;
        cut = (bytes.0, c.lines ∙ append-nil (receipt_for name held f) ∙ bytes.1);
        doubt = λ f d. absurd (none f d);
      }

  -- the next frame, which is not kept
  left_out : (v : World) (held : List Frame) (f : Frame) (fate : Fate) → (v.receivers name).held ≡ held → WereSent v.frames (f ∷ []) → behind name held f ≡ held ++ f ∷ []
      → ((r : step.Receiver) → (step.accepted r f fate).held ≡ r.held) → step.is_receipted fate step.Accepted ≡ false
      → ((g : Frame) → D g → (r : step.Receiver) → IsOneOf (step.accepted r f fate).doubt g) → Ended v held (f ∷ []) (Some fate) held []
  left_out v held f fate is sent kept stays quiet tried =
      let which : ℕ = sent.0.0 in
      let e : Event = FrameComes which name fate in
      let u : World = happens write v e in
      let t = calls_are_events.take write v which f name fate sent.0.1 in
      let next : step.reaction name (length (v.receivers name).held) f ≡ step.Accepted = ap (λ (l : List Frame). step.reaction name (length l) f) is ∙ is_accepted name held f kept in
      let mine : u.receivers name ≡ step.accepted (v.receivers name) f fate = t.change.mine ∙ ap (λ (x : step.Taken). step.reacted (v.receivers name) f fate x) next in
      let same : (u.receivers name).held ≡ held = ap (λ (r : step.Receiver). r.held) mine ∙ stays (v.receivers name) ∙ is in
      record {
        last = e ∷ [];
        next = ((which, sent.0.1, refl), refl);
        lead = subst (Lead write v name (e ∷ [])) same (one_lead write name v f which fate sent.0.1);
        goes = ([], sym (append-nil held));
        only = one_only write name v f which fate sent.0.1;
        half = [];
        of_last = inl refl;
        are = t.receipts
            ∙ ap (λ (x : step.Taken). receipt_if (step.is_receipted fate x) name (length (step.taken name (v.receivers name) f fate).held) ++ v.receipts) next
            ∙ ap (λ (b : Bool). receipt_if b name (length (step.taken name (v.receivers name) f fate).held) ++ v.receipts) quiet;
        up_to = tt;
        cut = ([], refl);
        doubt = λ g d. subst (λ (r : step.Receiver). IsOneOf r.doubt g) (sym mine) (tried g d (v.receivers name));
      }

  -- ---- both

  module _ {O : Type 0} (sink : SinkMeaning O) (w : World) (o o' : O) (held : List Frame) (form : IsTrue (is_name name)) where
    both : (frames begun : List Frame) (fate : Option Fate) (now g : List Frame) (said : Bytes) → (c : Came write name w held frames) → Ended (run write c.events w) (behind_all name held frames) begun fate now said
        → Wrote sink o o' (receipts name held frames ++ said) → now ≡ g → length g ≤ 4294967295 → (events : List Event) × ReceptionHappened sink write w name o o' frames begun fate g D events
    both frames begun fate now g said c e wrote same few =
        let v : World = run write c.events w in
        let u : World = run write e.last v in
        let long : length now ≡ length (behind_all name held frames) + length e.goes.0 = ap length e.goes.1 ∙ length-append (behind_all name held frames) e.goes.0 in
        let u_is : run write (c.events ++ e.last) w ≡ u = run_on write c.events e.last w in (
          c.events ++ e.last,
          record {
            whole = c.events;
            comings = c.comings;
            last = e.last;
            next = same_begun w.frames v.frames name fate begun e.last c.only.frames e.next;
            events_are = refl;
            lead = subst (Lead write w name (c.events ++ e.last)) same (lead_then write name w c.events e.last (behind_all name held frames) now c.lead e.lead e.goes);
            doubt = λ f d. subst (λ (x : World). IsOneOf (x.receivers name).doubt f) (sym u_is) (e.doubt f d);
            receipts = record {
              sent = c.sent;
              each = c.each;
              half = e.half;
              of_last = e.of_last;
              are = ap (λ (x : World). x.receipts) u_is ∙ e.are ∙ ap (λ (l : List SentReceipt). e.half ++ l) c.are;
              read = all_read name (length now) (e.half ++ c.sent) form (omega (arith, few, ap length same))
                  (up_to_then name (length now) e.half c.sent e.up_to (up_to_more name (length (behind_all name held frames)) (length now) c.sent (omega (arith, long)) c.up_to));
              said = said;
              cut = e.cut;
              wrote = wrote_is sink o o' _ _ (ap (λ (l : Bytes). l ++ said) (sym c.lines)) wrote;
            };
            only = subst (λ (x : World). OnlyReceives w x name) (sym u_is) (only_then w v u name c.only e.only);
          },
        )

-- ---- a run

module _ {K O : Type 0} (keeper : KeeperMeaning K) (sink : SinkMeaning O) (old new : Receiver K) (o o' : O) (b : Received) (told : b.told ≡ true) (none : (x : Bytes) → keeper.doubts old.keeper x → ⊥)
    (form : IsTrue (is_name b.name)) (g : List Frame) (left : Holds keeper new (record { name = b.name; told = true; frames = g })) (write : Writer) (w : World) (is : (w.receivers b.name).held ≡ b.frames) where
  abbrev D : Frame → Type 0
  D f = IsFrame f × keeper.doubts new.keeper (frame_bytes f)

  -- what it has kept is what the file is left to
  same_left : (now : List Frame) → Kept keeper old new b now → now ≡ g
  same_left now k = same_frames b.name 1 now g k.list.order left.order (sym (k.list.kept told).is ∙ (left.kept refl).is)

  few : length g ≤ 4294967295
  few = let all = few_frames b.name 1 g (omega arith) left.order in omega (arith, all)

  abbrev Happens : List Frame → List Frame → Option Fate → Type 0
  Happens frames begun fate = (events : List Event) × ReceptionHappened sink write w b.name o o' frames begun fate g D events

  all_happens : (frames : List Frame) (fate : Option Fate) → WereSent w.frames (frames ++ []) → AnsweredAll keeper sink old new o o' b frames → Happens frames [] fate
  all_happens frames fate sent a =
      let c : Came write b.name w b.frames frames = all_come write b.name frames w b.frames is (sent_first w.frames frames [] sent) in
      let v : World = run write c.events w in
      both write b.name D sink w o o' b.frames form frames [] fate (behind_all b.name b.frames frames) g [] c
      (nothing_more write b.name D v (behind_all b.name b.frames frames) [] fate c.lead.holds (begun_by_none v.frames b.name fate) (λ f d. none (frame_bytes f) (a.calm told (frame_bytes f) d.1).1))
      (wrote_is sink o o' _ _ (sym (append-nil (receipts b.name b.frames frames))) a.wrote)
      (same_left (behind_all b.name b.frames frames) a.kept)
      few

  -- ---- by what ended it at a frame

  module _ (frames : List Frame) (rest : Bytes) (why : Ending) (a : AnsweredSome keeper sink old new o o' b frames rest why) where
    abbrev after : List Frame
    after = behind_all b.name b.frames frames

    abbrev Rest : List Frame → Option Fate → List Frame → Bytes → Type 0
    Rest begun fate now said = (v : World) → (v.receivers b.name).held ≡ after → WereSent v.frames begun → Ended write b.name D v after begun fate now said

    some_happens : (begun : List Frame) (fate : Option Fate) → WereSent w.frames (frames ++ begun) → Rest begun fate a.now a.said → Happens frames begun fate
    some_happens begun fate sent ends =
        let c : Came write b.name w b.frames frames = all_come write b.name frames w b.frames is (sent_first w.frames frames begun sent) in
        let v : World = run write c.events w in
        both write b.name D sink w o o' b.frames form frames begun fate a.now g a.said c
        (ends v c.lead.holds (subst (λ (ever : List Frame). WereSent ever begun) (sym c.only.frames) (sent_last w.frames frames begun sent)))
        a.wrote
        (same_left a.now a.kept)
        few

    abbrev ThisBegun : Frame → Type 0
    ThisBegun f = Begun b.name after rest f why a.now a.said (keeper.used new.keeper) (λ x. (a.now ≡ b.frames) × keeper.doubts old.keeper x) (λ x. (b.told ≡ true) × keeper.doubts new.keeper x)

    -- nothing is in doubt where the log did not fail
    calm : (f : Frame) → ThisBegun f → (why ≡ end.Store → ⊥) → (x : Frame) → D x → ⊥
    calm f n other x d = elim (n.doubt (frame_bytes x) (told, d.1)) [
      | inl was ↦ none (frame_bytes x) was.1
      | inr tried ↦ other tried.0
    ]

    -- nothing of its receipt was written where the output did not fail
    unsaid : (why ≡ end.Write → ⊥) → a.said ≡ []
    unsaid other = by a.said a.half
      where
        by : (said : Bytes) → (0 < length said → why ≡ end.Write) → said ≡ []
        by [] half = refl
        by (x ∷ said) half = absurd (other (half (omega arith)))

    -- what the rest of the run is, by the frame that was begun
    abbrev Next : Option Fate → Type 0
    Next fate = (n : NextIs b.name after rest why a.now a.said (keeper.used new.keeper) (λ x. (a.now ≡ b.frames) × keeper.doubts old.keeper x) (λ x. (b.told ≡ true) × keeper.doubts new.keeper x))
        → Rest (frame_in n) fate a.now a.said

    none_begun : (fate : Option Fate) (n : NoneBegun after why a.now a.said (λ x. (a.now ≡ b.frames) × keeper.doubts old.keeper x) (λ x. (b.told ≡ true) × keeper.doubts new.keeper x)) → Rest [] fate a.now a.said
    none_begun fate n v there sent =
        subst (λ (l : List Frame). Ended write b.name D v after [] fate l a.said) (sym n.list)
        (subst (λ (l : Bytes). Ended write b.name D v after [] fate after l) (sym n.bytes)
        (nothing_more write b.name D v after [] fate there (begun_by_none v.frames b.name fate) (λ f d. none (frame_bytes f) (n.calm (frame_bytes f) (told, d.1)).1)))

  -- the output failed
  write_ends : (frames : List Frame) (rest : Bytes) (a : AnsweredSome keeper sink old new o o' b frames rest end.Write) → Next frames rest end.Write a (Some IsKept)
  write_ends frames rest a (inl n) = none_begun frames rest end.Write a (Some IsKept) n
  write_ends frames rest a (inr n) = λ v there sent.
      subst (λ (l : List Frame). Ended write b.name D v (after frames rest end.Write a) (n.0 ∷ []) (Some IsKept) l a.said) (sym n.1.list)
      (cut_short write b.name D v (after frames rest end.Write a) n.0 a.said there sent n.1.bytes (calm frames rest end.Write a n.0 n.1 (λ is. absurd (cc is))))

  memory_ends : (frames : List Frame) (rest : Bytes) (a : AnsweredSome keeper sink old new o o' b frames rest end.Memory) → Next frames rest end.Memory a None
  memory_ends frames rest a (inl n) = none_begun frames rest end.Memory a None n
  memory_ends frames rest a (inr n) = λ v there sent.
      subst (λ (l : List Frame). Ended write b.name D v (after frames rest end.Memory a) (n.0 ∷ []) None l a.said) (sym n.1.list)
      (subst (λ (l : Bytes). Ended write b.name D v (after frames rest end.Memory a) (n.0 ∷ []) None (after frames rest end.Memory a) l) (sym (unsaid frames rest end.Memory a (λ is. absurd (cc is))))
      (nothing_more write b.name D v (after frames rest end.Memory a) (n.0 ∷ []) None there refl (calm frames rest end.Memory a n.0 n.1 (λ is. absurd (cc is)))))

  -- the log failed, or was full
  store_ends : (frames : List Frame) (rest : Bytes) (a : AnsweredSome keeper sink old new o o' b frames rest end.Store) → Next frames rest end.Store a (Some IsFailed)
  store_ends frames rest a (inl n) = none_begun frames rest end.Store a (Some IsFailed) n
  store_ends frames rest a (inr n) = λ v there sent.
      subst (λ (l : List Frame). Ended write b.name D v (after frames rest end.Store a) (n.0 ∷ []) (Some IsFailed) l a.said) (sym n.1.list)
      (subst (λ (l : Bytes). Ended write b.name D v (after frames rest end.Store a) (n.0 ∷ []) (Some IsFailed) (after frames rest end.Store a) l) (sym (unsaid frames rest end.Store a (λ is. absurd (cc is))))
      (left_out write b.name D v (after frames rest end.Store a) n.0 IsFailed there sent (n.1.unkept tt) (λ r. refl) refl tried))
    where
      tried : (x : Frame) → D x → (r : step.Receiver) → IsOneOf (step.accepted r n.0 IsFailed).doubt x
      tried x d r = elim (n.1.doubt (frame_bytes x) (told, d.1)) [
        | inl was ↦ absurd (none (frame_bytes x) was.1)
        | inr last ↦ (0, ap (λ (y : Frame). Some y) (one_frame n.0 x n.1.form d.0 (sym last.1)))
      ]

  full_ends : (frames : List Frame) (rest : Bytes) (a : AnsweredSome keeper sink old new o o' b frames rest end.Full) → Next frames rest end.Full a (Some IsFull)
  full_ends frames rest a (inl n) = none_begun frames rest end.Full a (Some IsFull) n
  full_ends frames rest a (inr n) = λ v there sent.
      subst (λ (l : List Frame). Ended write b.name D v (after frames rest end.Full a) (n.0 ∷ []) (Some IsFull) l a.said) (sym n.1.list)
      (subst (λ (l : Bytes). Ended write b.name D v (after frames rest end.Full a) (n.0 ∷ []) (Some IsFull) (after frames rest end.Full a) l) (sym (unsaid frames rest end.Full a (λ is. absurd (cc is))))
      (left_out write b.name D v (after frames rest end.Full a) n.0 IsFull there sent (n.1.unkept tt) (λ r. refl) refl (λ x d r. absurd (calm frames rest end.Full a n.0 n.1 (λ is. absurd (cc is)) x d))))

  -- ---- by what ended it

  run_happens : (most : ℕ) (read more : Bytes) (r : Result (Unit {0}) Ending) (d : IsEnd keeper sink most old new o o' b read more r)
      → WereSent w.frames (answered_frames keeper sink most old new o o' b read more r d ++ begun_frame keeper sink most old new o o' b read more r d)
      → Happens (answered_frames keeper sink most old new o o' b read more r d) (begun_frame keeper sink most old new o o' b read more r d) (fate_at r)
  run_happens most read more (Ok u) d sent = all_happens d.2.0 None sent d.2.2
  run_happens most read more (Err end.Read) d sent = all_happens d.1.0 None sent d.1.2
  run_happens most read more (Err end.TooLong) d sent = all_happens d.1.0 None sent d.1.2
  run_happens most read more (Err (end.BadFrame at)) d sent = all_happens d.1.0 None sent d.1.2
  run_happens most read more (Err end.Write) d sent = some_happens d.0 d.1 end.Write d.3 (frame_in d.3.next) (Some IsKept) sent (write_ends d.0 d.1 d.3 d.3.next)
  run_happens most read more (Err end.Store) d sent = some_happens d.0 d.1 end.Store d.3 (frame_in d.3.next) (Some IsFailed) sent (store_ends d.0 d.1 d.3 d.3.next)
  run_happens most read more (Err end.Full) d sent = some_happens d.0 d.1 end.Full d.3 (frame_in d.3.next) (Some IsFull) sent (full_ends d.0 d.1 d.3 d.3.next)
  run_happens most read more (Err end.Memory) d sent = some_happens d.0 d.1 end.Memory d.3 (frame_in d.3.next) None sent (memory_ends d.0 d.1 d.3 d.3.next)

-- ---- a run of the opened file's receiver

calls_shut : (ajar : Bool) → append_calls ajar ≡ 4 → ajar ≡ true → ⊥
calls_shut false quiet is = absurd (cc is)
calls_shut true quiet is = absurd (omega (arith, quiet))

pub receptions_are_events : {D S O : Type 0} (disk : DiskMeaning D) (source : SourceMeaning S) (sink : SinkMeaning O) → ReceptionsAreEvents disk source sink
receptions_are_events disk source sink name log log' i i' o o' status (inl refused) = tt
receptions_are_events disk source sink name log log' i i' o o' status (inr did) = λ tells write w is sent.
    let b : Received = record { name = name; told = true; frames = did.opened.frames } in
    let r = did.ran true (λ is. tells) in
    run_happens (journal_of disk) sink did.receiver did.after o r.mid b refl (λ x d. calls_shut did.receiver.keeper.ajar did.opened.quiet d.is_ajar)
    did.opened.named (did.left tells).frames (did.left tells).holds write w is LONGEST_INPUT r.ran.read r.ran.more r.result r.ran.did sent
