-- What a standby makes of a record line that was sent is what the event makes of it.
use Rattle.std.proofs.Common.{◌≡◌, ℕ, Bool, length, Some, refl, sym, ap, subst, ◌∙◌}
use Rattle.news_types.specs.declared.entry.Entry.{Entry}
use Rattle.news_types.specs.Names.{Bytes}
use Rattle.news_types.specs.Server.{Server, put}
use Rattle.news_io.specs.Keeper.{KeeperMeaning, KeeperGains, BeforeOrAfter}
use Rattle.byte_formats.specs.Lawful.{IsBytes}
use Rattle.record_lines.specs.Spelling.{Numbered}
use Rattle.record_lines.specs.Reads.{AreRecord}
use Rattle.standby_laws.specs.Standby.{SentRecord, Reaction, reaction, reacted, taken, is_answered}
use Rattle.standby_laws.specs.Standby as step
use Rattle.room_standby.specs.declared.standby.Standby.{Standby}
use Rattle.room_standby.specs.declared.standby.Shipped.{Shipped}
use Rattle.room_standby.specs.declared.standby.Shipped.TheVariants.{BadRecord, Known, Ahead, NoEntry, Accepted, Fault, Full, Memory}
use Rattle.room_standby.specs.Holds.{Followed, Holds}
use Rattle.room_standby.specs.Takes.{fate_of, IsLine, IsNext, IsTried, IsStep}
use Rattle.room_standby.specs.Comes.{AreSent, Comes, is_replied, IsRead}
use Rattle.news_room.proofs.Lists.{same_entry}
use Rattle.room_standby.proofs.Lines.{same_record}
use Rattle.room_standby.proofs.Sent.{record_of, is_record_line}
use Rattle.room_standby.proofs.Crashing.{gains_stops}

module _ (bytes : Bytes) (ib : IsBytes bytes) (s : SentRecord) (sent : AreSent s bytes) where
  as_line : AreRecord (record_of s) bytes
  as_line = is_record_line bytes ib s sent

  -- the line is the one that was sent
  line_is : (count : ℕ) (t : Reaction) (r : Numbered) → IsLine bytes count t r → r ≡ record_of s
  line_is count t r line = same_record bytes r (record_of s) line.0 as_line

  reacts : (count : ℕ) (t : Reaction) (r : Numbered) → IsLine bytes count t r → reaction count s.number ≡ t
  reacts count t r line = ap (λ (x : Numbered). reaction count x.number) (sym (line_is count t r line)) ∙ line.1

  entry_is : (count : ℕ) (r : Numbered) (e : Entry) → IsNext bytes count r e → e ≡ s.entry
  entry_is count r e next = same_entry e s.entry next.entry sent.entry (sym next.payload ∙ ap (λ (x : Numbered). x.payload) (line_is count step.Next r next.is))

  module _ {K : Type 0} (keeper : KeeperMeaning K) (new : Standby K) (b after : Followed) (holds : Holds keeper new after) (told : after.told ≡ b.told) where
    -- what the event makes of it, and whether it is answered
    record IsEvent (answer : Shipped) : Type 0 where
      stands : Holds keeper new (record { told = b.told; standby = taken b.standby s (fate_of answer) })
      reply : is_replied answer ≡ is_answered (fate_of answer) (reaction (length b.standby.list) s.number)
      read : IsRead answer

    -- it holds what the reaction makes of it
    as_said : (answer : Shipped) (t : Reaction) → reaction (length b.standby.list) s.number ≡ t → after.standby ≡ reacted b.standby s.entry (fate_of answer) t
        → Holds keeper new (record { told = b.told; standby = reacted b.standby s.entry (fate_of answer) (reaction (length b.standby.list) s.number) })
    as_said answer t is same =
        rw is (subst (λ (x : Server). Holds keeper new (record { told = b.told; standby = x })) same
        (subst (λ (x : Bool). Holds keeper new (record { told = x; standby = after.standby })) told holds))

    tried : (answer : Shipped) → IsTried b.standby bytes answer after.standby
        → (reaction (length b.standby.list) s.number ≡ step.Next) × (after.standby ≡ reacted b.standby s.entry (fate_of answer) step.Next)
    tried answer t = (
      reacts (length b.standby.list) step.Next t.0 t.2.is,
      t.3 ∙ ap (λ (e : Entry). put b.standby (Some e) (fate_of answer)) (entry_is (length b.standby.list) t.0 t.1 t.2),
    )

    happens : (answer : Shipped) → IsStep b.standby bytes answer after.standby → IsEvent answer
    happens (BadRecord at) st = absurd (st.0.none (record_of s) as_line.form (sym as_line.is))
    happens (Known held) st =
        let is = reacts (length b.standby.list) step.Known st.0.0.0 st.0.0.1 in
        record { stands = as_said (Known held) step.Known is st.1; reply = rw is refl; read = tt }
    happens (Ahead held) st =
        let is = reacts (length b.standby.list) step.Ahead st.0.0.0 st.0.0.1 in
        record { stands = as_said (Ahead held) step.Ahead is st.1; reply = rw is refl; read = tt }
    happens (NoEntry at) st =
        let same = ap (λ (x : Numbered). x.payload) (line_is (length b.standby.list) step.Next st.0.0 st.0.1) in
        absurd (st.0.2.none s.entry sent.entry (sym same))
    happens (Accepted n) st =
        let t = tried (Accepted n) st.0 in
        record { stands = as_said (Accepted n) step.Next t.0 t.1; reply = rw t.0 refl; read = tt }
    happens Fault st =
        let t = tried Fault st in
        record { stands = as_said Fault step.Next t.0 t.1; reply = rw t.0 refl; read = tt }
    happens (Full size count) st =
        let t = tried (Full size count) st in
        record { stands = as_said (Full size count) step.Next t.0 t.1; reply = rw t.0 refl; read = tt }
    happens Memory st =
        let is = reacts (length b.standby.list) step.Next st.0.0 st.0.1 in
        record { stands = as_said Memory step.Next is st.1; reply = rw is refl; read = tt }

    pub comes : (old : Standby K) → Holds keeper old b
        → (keeper.tells old.keeper → KeeperGains keeper old.keeper new.keeper (BeforeOrAfter (keeper.list old.keeper) (keeper.doubts old.keeper) (keeper.list new.keeper) (keeper.doubts new.keeper)))
        → (answer : Shipped) → IsStep b.standby bytes answer after.standby → Comes keeper b old new s answer
    comes old before crash answer st =
        let e = happens answer st in
        record {
          holds = e.stands;
          reply = e.reply;
          read = e.read;
          stops = λ t.
              gains_stops keeper old.keeper new.keeper b.standby (taken b.standby s (fate_of answer)) (before.kept t) (e.stands.kept t)
              (crash (before.kept t).told);
        }
