-- What a run over frames leaves in the log of a receiver.
use Rattle.std.proofs.Common.{◌≡◌, ◌⊎◌, inl, inr, ℕ, ◌+◌, Bool, true, false, List, [], ◌∷◌, ◌++◌, length, map, Option, Some, refl, sym, ◌∙◌, ap, subst, arith}
use Rattle.std.specs.Prelude.{Result, Ok, Err, IsTrue}
use Rattle.std.proofs.lemmas.List.{append-nil, map-append, length-map}
use Rattle.news_types.specs.Names.{Bytes, is_name}
use Rattle.news_types.specs.Frames.{Frame}
use Rattle.news_io.specs.Disk.{DiskMeaning}
use Rattle.news_io.specs.Keeper.{KeeperMeaning, Leaves}
use Rattle.news_io.specs.Sink.{SinkMeaning}
use Rattle.news_io.specs.Source.{SourceMeaning}
use Rattle.news_journal.specs.Calls.{append_calls}
use Rattle.news_journal.specs.Journal.{journal_of}
use Rattle.news_journal.specs.Law.{outcome_opens}
use Rattle.news_journal.specs.Log.{IsHead, opened}
use Rattle.news_journal.specs.Stands.{disk_of, head_of, list_of}
use Rattle.news_journal.specs.declared.header.Header.TheVariants as header
use Rattle.news_journal.specs.declared.log.Journal.{Journal}
use Rattle.run_status.specs.Status.{number_of}
use Rattle.feed_receiver.specs.Spelling.{frame_bytes}
use Rattle.feed_receiver.specs.Feed.{IsNumber, InOrder}
use Rattle.feed_receiver.specs.Holds.{Received, Keeps}
use Rattle.feed_receiver.specs.declared.receiver.Receiver.{Receiver}
use Rattle.frame_run.specs.Answers.{behind_all, holding, Kept, AnsweredAll, AnsweredSome, NextIs}
use Rattle.frame_run.specs.Answers as run
use Rattle.frame_run.specs.Run.{IsEnd}
use Rattle.frame_run.specs.Status.{IsRun, status_of}
use Rattle.frame_run.specs.declared.ending.Ending.{Ending}
use Rattle.frame_run.specs.declared.ending.Ending.TheVariants as end
use Rattle.receiver_files.specs.Log.{OpenTo}
use Rattle.receiver_files.specs.LogLeft.{IsLeft, Between, OpenAlike, InDoubt, LogLeft}
use Rattle.receiver_files.specs.Opening.{MayBe, MayBeMade, IsOpenReceiver}
use Rattle.receiver_files.specs.Receive.{LONGEST_INPUT}
use Rattle.receiver_files.proofs.Logs.{order_front, order_next, open_to, opened_to, same_head}

-- ---- the frames behind a run

module _ {K O : Type 0} (keeper : KeeperMeaning K) (sink : SinkMeaning O) (most : ℕ) (old new : Receiver K) (o o' : O) (b : Received) (read more : Bytes) where
  -- what the receiver has kept
  pub end_kept : (r : Result (Unit {0}) Ending) → IsEnd keeper sink most old new o o' b read more r → (frames : List Frame) × Kept keeper old new b frames
  end_kept (Ok u) d = (behind_all b.name b.frames d.2.0, d.2.2.kept)
  end_kept (Err end.Read) d = (behind_all b.name b.frames d.1.0, d.1.2.kept)
  end_kept (Err end.TooLong) d = (behind_all b.name b.frames d.1.0, d.1.2.kept)
  end_kept (Err (end.BadFrame at)) d = (behind_all b.name b.frames d.1.0, d.1.2.kept)
  end_kept (Err end.Write) d = (d.3.now, d.3.kept)
  end_kept (Err end.Store) d = (d.3.now, d.3.kept)
  end_kept (Err end.Full) d = (d.3.now, d.3.kept)
  end_kept (Err end.Memory) d = (d.3.now, d.3.kept)

  -- a frame is in doubt only where the log ended the run
  module _ (told : b.told ≡ true) (none : (x : Bytes) → keeper.doubts old.keeper x → ⊥) where
    all_calm : (frames : List Frame) → AnsweredAll keeper sink old new o o' b frames → (x : Bytes) → keeper.doubts new.keeper x → ⊥
    all_calm frames a x d = none x (a.calm told x d).1

    next_calm : (held : List Frame) (rest : Bytes) (why : Ending) (now : List Frame) (said : Bytes) (used : ℕ) → (why ≡ end.Store → ⊥)
        → NextIs b.name held rest why now said used (λ x. (now ≡ b.frames) × keeper.doubts old.keeper x) (λ x. (b.told ≡ true) × keeper.doubts new.keeper x) → (x : Bytes) → keeper.doubts new.keeper x → ⊥
    next_calm held rest why now said used other (inl n) x d = none x (n.calm x (told, d)).1
    next_calm held rest why now said used other (inr f) x d = elim (f.1.doubt x (told, d)) [ inl was ↦ none x was.1 | inr tried ↦ other tried.0 ]

    some_calm : (frames : List Frame) (rest : Bytes) (why : Ending) → (why ≡ end.Store → ⊥) → AnsweredSome keeper sink old new o o' b frames rest why → (x : Bytes) → keeper.doubts new.keeper x → ⊥
    some_calm frames rest why other a = next_calm (behind_all b.name b.frames frames) rest why a.now a.said (keeper.used new.keeper) other a.next

    pub end_calm : (r : Result (Unit {0}) Ending) → (r ≡ Err end.Store → ⊥) → IsEnd keeper sink most old new o o' b read more r → (x : Bytes) → keeper.doubts new.keeper x → ⊥
    end_calm (Ok u) other d = all_calm d.2.0 d.2.2
    end_calm (Err end.Read) other d = all_calm d.1.0 d.1.2
    end_calm (Err end.TooLong) other d = all_calm d.1.0 d.1.2
    end_calm (Err (end.BadFrame at)) other d = all_calm d.1.0 d.1.2
    end_calm (Err end.Write) other d = some_calm d.0 d.1 end.Write (λ is. absurd (cc is)) d.3
    end_calm (Err end.Store) other d = absurd (other refl)
    end_calm (Err end.Full) other d = some_calm d.0 d.1 end.Full (λ is. absurd (cc is)) d.3
    end_calm (Err end.Memory) other d = some_calm d.0 d.1 end.Memory (λ is. absurd (cc is)) d.3

-- ---- from lists that were found to bytes

calls_shut : (ajar : Bool) → append_calls ajar ≡ 4 → ajar ≡ true → ⊥
calls_shut false quiet is = absurd (cc is)
calls_shut true quiet is = absurd (omega (arith, quiet))

-- the payloads of frames, and one more
one_more : (frames : List Frame) (f : Frame) (x : Bytes) → x ≡ frame_bytes f → map frame_bytes frames ++ x ∷ [] ≡ map frame_bytes (frames ++ f ∷ [])
one_more frames f x is = ap (λ (y : Bytes). map frame_bytes frames ++ y ∷ []) is ∙ sym (map-append frame_bytes frames (f ∷ []))

module _ {D : Type 0} (disk : DiskMeaning D) (name : Bytes) (log : D) (r r' : Receiver (Journal D)) (opening : IsOpenReceiver disk name log r) (tells : disk.tells log) where
  abbrev held : List Frame
  held = opening.frames

  abbrev start : Received
  start = record { name = name; told = true; frames = held }

  form : IsTrue (is_name name)
  form = opening.named

  first_kept : Keeps (journal_of disk) r.keeper name (map frame_bytes held)
  first_kept = (opening.holds true (λ is. tells)).kept refl

  none_before : (x : Bytes) → (journal_of disk).doubts r.keeper x → ⊥
  none_before x d = calls_shut r.keeper.ajar opening.quiet d.is_ajar

  -- the log that was opened, as a read gives it
  seen_first : OpenTo (head_of r.keeper) name (disk.seen (disk_of r.keeper)) held
  seen_first = opening.keeps tells (disk.seen (disk_of r.keeper)) (inl refl)

  is_head : IsHead (header.Receiver name) (head_of r.keeper)
  is_head = subst (IsHead (header.Receiver name)) seen_first.begins seen_first.opens.log_is.head

  module _ (frames : List Frame) (k : Kept (journal_of disk) r r' start frames) where
    same_log : head_of r'.keeper ≡ head_of r.keeper
    same_log = same_head name (head_of r.keeper) (head_of r'.keeper) form is_head k.label

    now_kept : Keeps (journal_of disk) r'.keeper name (map frame_bytes frames)
    now_kept = k.list.kept refl

    abbrev Tried : Frame → Type 0
    Tried f = InDoubt disk r' f

    abbrev OpensNow : List ℕ → List Frame → Type 0
    OpensNow file l = OpenTo (head_of r'.keeper) name file l

    now_head : IsHead (header.Receiver name) (head_of r'.keeper)
    now_head = subst (IsHead (header.Receiver name)) (sym same_log) is_head

    opens_now : (file : List ℕ) (l : List Frame) → InOrder name 1 l → opened (head_of r'.keeper) file ≡ Some (map frame_bytes l) → OpensNow file l
    opens_now file l order is = open_to name (head_of r'.keeper) form now_head file l order is

    -- with a payload in doubt behind all
    tried_now : (file : List ℕ) (x : Bytes) → (journal_of disk).doubts r'.keeper x → opened (head_of r'.keeper) file ≡ Some (map frame_bytes frames ++ x ∷ []) → (f : Frame) × Tried f × OpensNow file (frames ++ f ∷ [])
    tried_now file x d is =
        let n = now_kept.next x d in
        let at : length (map frame_bytes frames) + 1 ≡ length frames + 1 = ap (λ (m : ℕ). m + 1) (length-map frames frame_bytes) in (
          n.frame,
          (n.numbered.form, subst ((journal_of disk).doubts r'.keeper) n.is d),
          opens_now file (frames ++ n.frame ∷ []) (order_next name frames n.frame k.list.order (subst (λ (m : ℕ). IsNumber name m n.frame) at n.numbered)) (is ∙ ap (λ (l : List Bytes). Some l) (one_more frames n.frame x n.is)),
        )

    left_now : (file : List ℕ) → MayBe disk (disk_of r'.keeper) file → IsLeft (head_of r'.keeper) name frames Tried file
    left_now file may =
        let left : Leaves (map frame_bytes frames) ((journal_of disk).doubts r'.keeper) (opened (head_of r'.keeper) file) =
        subst (λ (l : List Bytes). Leaves l ((journal_of disk).doubts r'.keeper) (opened (head_of r'.keeper) file)) now_kept.is (outcome_opens disk r'.keeper (list_of disk r'.keeper) now_kept.told file may) in
        elim left [
          | inl all ↦ inl (opens_now file frames k.list.order all)
          | inr one ↦ inr (tried_now file one.0 one.1 one.2)
        ]

    -- ---- at a moment of the run

    -- a part of the frames is in order
    part_order : (part : List Frame) → (more : List Frame) × (frames ≡ part ++ more) → InOrder name 1 part
    part_order part within = order_front name 1 part within.0 (subst (InOrder name 1) within.1 k.list.order)

    bare : (found : Option (List Bytes)) → (journal_of disk).left_since r.keeper ((journal_of disk).moment r.keeper) found → found ≡ Some (map frame_bytes held)
    bare found left = elim ((journal_of disk).leaves_now r.keeper found first_kept.told left) [
      | inl all ↦ all ∙ ap (λ (l : List Bytes). Some l) first_kept.is
      | inr one ↦ absurd (none_before one.0 one.1)
    ]

    held_between : (file : List ℕ) → opened (head_of r'.keeper) file ≡ Some (map frame_bytes held) → Between (head_of r'.keeper) name held frames Tried file
    held_between file is = record {
      part = held;
      beyond = ([], sym (append-nil held));
      within = k.more;
      left = inl (opens_now file held (part_order held k.more) is);
    }

    found_between : (file : List ℕ) → run.Between held frames ((journal_of disk).doubts r.keeper) ((journal_of disk).doubts r'.keeper) (opened (head_of r'.keeper) file) → Between (head_of r'.keeper) name held frames Tried file
    found_between file b = record {
      part = b.part;
      beyond = b.beyond;
      within = b.within;
      left = elim b.left [
        | inl all ↦ inl (opens_now file b.part (part_order b.part b.within) all)
        | inr one ↦ elim one.1 [
          | inl first ↦ absurd (none_before one.0 first.1)
          | inr last ↦ inr (at_last one.0 last.0 last.1 one.2)
        ]
      ];
    }
      where
        at_last : (x : Bytes) → b.part ≡ frames → (journal_of disk).doubts r'.keeper x → opened (head_of r'.keeper) file ≡ Some (map frame_bytes b.part ++ x ∷ [])
            → (f : Frame) × ((b.part ≡ frames) × Tried f) × OpensNow file (b.part ++ f ∷ [])
        at_last x all d is =
            let t = tried_now file x d (is ∙ ap (λ (l : List Frame). Some (map frame_bytes l ++ x ∷ [])) all) in
            (t.0, (all, t.1), subst (λ (l : List Frame). OpensNow file (l ++ t.0 ∷ [])) (sym all) t.2)

    since_opened : (file : List ℕ) → disk.left_since (disk_of r'.keeper) (disk.moment (disk_of r.keeper)) file → Between (head_of r'.keeper) name held frames Tried file
    since_opened file left = elim ((k.time refl).nothing_else (disk.moment (disk_of r.keeper)) (opened (head_of r'.keeper) file) (omega arith) (file, left, refl)) [
      | inl was ↦ held_between file (bare (opened (head_of r'.keeper) file) was)
      | inr between ↦ found_between file between
    ]

    -- files that open alike
    alike : (before file : List ℕ) → opened (head_of r'.keeper) file ≡ opened (head_of r.keeper) before → OpenAlike (head_of r'.keeper) name before file
    alike before file is l =
        let same : opened (head_of r'.keeper) file ≡ opened (head_of r'.keeper) before = is ∙ ap (λ (h : List ℕ). opened h before) (sym same_log) in (
          λ o. opens_now file l o.opens.order (same ∙ opened_to name (head_of r'.keeper) before l o),
          λ o. opens_now before l o.opens.order (sym same ∙ opened_to name (head_of r'.keeper) file l o),
        )

    since_begun : (file : List ℕ) → disk.left_since (disk_of r'.keeper) (disk.moment log) file
        → Between (head_of r'.keeper) name held frames Tried file ⊎ ((before : List ℕ) × MayBeMade disk name log before × OpenAlike (head_of r'.keeper) name before file)
    since_begun file left =
        let opening_time = opening.crash tells in
        elim ((k.time refl).nothing_else (disk.moment log) (opened (head_of r'.keeper) file) opening_time.later (file, left, refl)) [
          | inl was ↦ inr (was.0, opening_time.each was.0 was.1, alike was.0 file was.2)
          | inr between ↦ inl (found_between file between)
        ]

    pub kept_left : (status : ℕ) → ((status ≡ 6 → ⊥) → (x : Bytes) → (journal_of disk).doubts r'.keeper x → ⊥) → LogLeft disk name log r r' held status
    kept_left status calm = record {
      frames = frames;
      more = k.more;
      holds = k.list;
      same_header = same_log;
      now = left_now;
      sure = λ other f d. calm other (frame_bytes f) d.1;
      since_opened = since_opened;
      since_begun = since_begun;
    }

  -- behind a run
  pub run_left : {S O : Type 0} (source : SourceMeaning S) (sink : SinkMeaning O) (i i' : S) (o o' : O) (status : ℕ)
      → IsRun (journal_of disk) source sink LONGEST_INPUT i i' r r' o o' (record { name = name; told = true; frames = opening.frames }) status → LogLeft disk name log r r' opening.frames status
  run_left source sink i i' o o' status a =
      let k = end_kept (journal_of disk) sink LONGEST_INPUT r r' o a.mid start a.ran.read a.ran.more a.result a.ran.did in
      kept_left k.0 k.1 status (λ other. end_calm (journal_of disk) sink LONGEST_INPUT r r' o a.mid start a.ran.read a.ran.more refl none_before a.result
      (λ is. other (a.status_is ∙ ap (λ x. number_of (status_of x)) is)) a.ran.did)
