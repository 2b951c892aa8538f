-- What was left of a receiver's file is what a reopening finds in the world.
use Rattle.std.proofs.Common.{◌≡◌, inl, inr, ℕ, List, [], ◌∷◌, ◌++◌, length, map, take, Some, sym, ap, ◌∙◌, subst, arith}
use Rattle.std.specs.Prelude.{IsTrue}
use Rattle.std.proofs.lemmas.List.{append-nil}
use Rattle.news_types.specs.Names.{Bytes, is_name}
use Rattle.news_types.specs.Frames.{Frame, Writer}
use Rattle.news_io.specs.Disk.{DiskMeaning}
use Rattle.news_io.specs.Sink.{SinkMeaning}
use Rattle.news_io.specs.Source.{SourceMeaning}
use Rattle.news_journal.specs.Stands.{disk_of, head_of}
use Rattle.news_journal.specs.declared.header.Header.TheVariants as header
use Rattle.news_journal.proofs.Opens.{length-head}
use Rattle.feed_receiver.specs.Spelling.{frame_bytes}
use Rattle.receiver_files.specs.Log.{Gives, OpenTo}
use Rattle.receiver_files.specs.LogLeft.{IsLeft, Between, InDoubt}
use Rattle.receiver_files.specs.Opening.{MayBe}
use Rattle.receiver_files.proofs.Logs.{opened_to}
use Rattle.world_laws.specs.World.{World, Event, run}
use Rattle.news_types.specs.Receiver.{Receiver}
use Rattle.world_laws.proofs.Bridge.{calls_are_events}
use Rattle.receiver_events.specs.Receptions.{Lead, IsOneOf}
use Rattle.receiver_events.specs.Reopenings.{ReopensTo, ReopensBehind, ReopeningsAreEvents, RunsBeginReopened}
use Rattle.receiver_events.proofs.Frames.{same_frames}

module _ (write : Writer) (name : Bytes) (head : List ℕ) where
  -- by whether one that was tried is found
  reopens : (w : World) (held : List Frame) (Tried : Frame → Type 0) (file : List ℕ) → (w.receivers name).held ≡ held → ((f : Frame) → Tried f → IsOneOf (w.receivers name).doubt f)
      → IsLeft head name held Tried file → ReopensTo write w name head file
  reopens w held Tried file is doubt (inl all) =
      let stop = calls_are_events.receiver_stop write w name held (inl (sym is)) in
      record { held = held; opens = all; which = stop.0; reopened = stop.1 }
  reopens w held Tried file is doubt (inr one) =
      let at = doubt one.0 one.1 in
      let stop = calls_are_events.receiver_stop write w name (held ++ one.0 ∷ []) (inr (at.0, one.0, at.1, ap (λ (l : List Frame). l ++ one.0 ∷ []) (sym is))) in
      record { held = held ++ one.0 ∷ []; opens = one.2; which = stop.0; reopened = stop.1 }

  module _ (w : World) (events : List Event) (held frames : List Frame) (Tried : Frame → Type 0) (is : (w.receivers name).held ≡ held) (lead : Lead write w name events frames)
      (doubt : (f : Frame) → Tried f → IsOneOf ((run write events w).receivers name).doubt f) where
    behind : (file : List ℕ) → Between head name held frames Tried file → ReopensBehind write w name events head file
    behind file b = by b.left
      where
        by : IsLeft head name b.part (λ f. (b.part ≡ frames) × Tried f) file → ReopensBehind write w name events head file
        by (inl all) =
            let f = lead.each b.part b.beyond.0 b.within.0 (b.beyond.1 ∙ ap (λ (l : List Frame). l ++ b.beyond.0) (sym is)) b.within.1 in
            record { front = f.front; rest = f.rest; events_are = f.events_are; reopens = reopens (run write f.front w) b.part (λ g. ⊥) file f.holds (λ g d. absurd d) (inl all) }
        by (inr one) = record {
          front = events;
          rest = [];
          events_are = sym (append-nil events);
          reopens = reopens (run write events w) frames Tried file lead.holds doubt (inr (one.0, one.1.1, subst (λ (l : List Frame). OpenTo head name file (l ++ one.0 ∷ [])) one.1.0 one.2));
        }

pub reopenings_are_events : {D S O : Type 0} (disk : DiskMeaning D) (source : SourceMeaning S) (sink : SinkMeaning O) → ReopeningsAreEvents disk source sink
reopenings_are_events disk source sink name log log' i i' o o' status (inl refused) = tt
reopenings_are_events {D = D} disk source sink name log log' i i' o o' status (inr did) = λ tells write w events is lead doubt.
    let left = did.left tells in (
      λ file may. reopens write name (head_of did.after.keeper) (run write events w) left.frames (InDoubt disk did.after) file lead.holds doubt (left.now file (subst (λ (d : D). MayBe disk d file) did.same may)),
      λ file since. behind write name (head_of did.after.keeper) w events did.opened.frames left.frames (InDoubt disk did.after) is lead doubt file
          (left.since_opened file (subst (λ (d : D). disk.left_since d (disk.moment (disk_of did.receiver.keeper)) file) did.same since)),
    )

-- ---- the next run

-- a file opens to one list of frames
one_list : (name head file : List ℕ) (held frames : List Frame) → IsTrue (is_name name) → OpenTo head name file held → Gives name file frames → held ≡ frames
one_list name head file held frames form o (inl none) =
    let long : length (take 64 file) ≡ 64 = length-head (header.Receiver name) (take 64 file) form o.opens.log_is.head in
    absurd (omega (arith, long, ap (λ (l : List ℕ). length (take 64 l)) none.0))
one_list name head file held frames form o (inr opens) =
    let same : Some (map frame_bytes held) ≡ Some (map frame_bytes frames) = sym (opened_to name head file held o) ∙ opened_to name head file frames (record { begins = o.begins; opens = opens }) in
    same_frames name 1 held frames o.opens.order opens.order (inside same)
  where
    inside : {x y : List Bytes} → Some x ≡ Some y → x ≡ y
    inside is = cc

pub runs_begin_reopened : {D S O : Type 0} (disk : DiskMeaning D) (source : SourceMeaning S) (sink : SinkMeaning O) → RunsBeginReopened disk source sink
runs_begin_reopened disk source sink name log log' i i' o o' status (inl refused) = tt
runs_begin_reopened disk source sink name log log' i i' o o' status (inr did) = λ tells write w head r.
    ap (λ (x : Receiver). x.held) r.reopened.change.mine ∙ one_list name head (disk.seen log) r.held did.opened.frames did.opened.named r.opens (did.opened.gives tells)
