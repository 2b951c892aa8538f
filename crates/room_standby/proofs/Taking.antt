-- What a standby makes of some bytes, by what was judged of them and what became of the next record.
use Rattle.std.proofs.Common.{◌≡◌, ℕ, List, [], ◌∷◌, ◌++◌, length, refl, ap, subst, ◌∙◌, arith}
use Rattle.news_types.specs.declared.entry.Entry.{Entry}
use Rattle.news_types.specs.Names.{Bytes}
use Rattle.news_types.specs.Calls.{IsKept, IsFull, IsFailed}
use Rattle.news_types.specs.Server.{Server}
use Rattle.news_types.specs.Doubt.{DoubtsAfter}
use Rattle.news_io.specs.declared.record.Record.{Record}
use Rattle.news_io.specs.Keeper.{KeeperMeaning}
use Rattle.record_lines.specs.Spelling.{Numbered}
use Rattle.record_lines.specs.Reads.{AreRecord}
use Rattle.room_standby.specs.declared.standby.Standby.{Standby}
use Rattle.room_standby.specs.declared.standby.Shipped.{Shipped}
use Rattle.room_standby.specs.declared.standby.Shipped.TheVariants.{BadRecord, Known, Ahead, NoEntry, Accepted, Fault, Full, Memory}
use Rattle.room_standby.specs.Holds.{Followed, Holds}
use Rattle.room_standby.specs.Takes.{fate_of, IsNext, IsRefused, IsStep, SameUnlessAsked, Uses, IsTry, record_at, Adds, ListAfter}
use Rattle.room_standby.proofs.Lines.{same_record}
use Rattle.room_standby.proofs.Standing.{count_is, holds_kept, holds_failed, holds_full, holds_on}

-- ---- what was refused

refused_step : (s : Server) (bytes : Bytes) (answer : Shipped) → IsRefused (length s.list) bytes answer → IsStep s bytes answer s
refused_step s bytes (BadRecord at) r = (r, refl)
refused_step s bytes (Known held) r = (r, refl)
refused_step s bytes (Ahead held) r = (r, refl)
refused_step s bytes (NoEntry at) r = (r, refl)
refused_step s bytes (Accepted n) r = absurd r
refused_step s bytes Fault r = absurd r
refused_step s bytes (Full size count) r = absurd r
refused_step s bytes Memory r = (r, refl)

pub refused_adds : (records : List Record) (used : ℕ) (payload : Bytes) (count : ℕ) (bytes : Bytes) (answer : Shipped) → IsRefused count bytes answer
    → Adds records records used payload answer
refused_adds records used payload count bytes (BadRecord at) r = refl
refused_adds records used payload count bytes (Known held) r = refl
refused_adds records used payload count bytes (Ahead held) r = refl
refused_adds records used payload count bytes (NoEntry at) r = refl
refused_adds records used payload count bytes (Accepted n) r = absurd r
refused_adds records used payload count bytes Fault r = absurd r
refused_adds records used payload count bytes (Full size length) r = absurd r
refused_adds records used payload count bytes Memory r = refl

-- ---- what was tried

-- of the line that was read, whichever it is called
module _ (bytes : Bytes) (r s : Numbered) (read : AreRecord r bytes) (line : AreRecord s bytes) where
  payload_is : r.payload ≡ s.payload
  payload_is = ap (λ (x : Numbered). x.payload) (same_record bytes r s read line)

  pub uses_as_read : (before now : ℕ) (answer : Shipped) → Uses before now (length r.payload) answer → Uses before now (length s.payload) answer
  uses_as_read before now answer u = subst (λ (p : Bytes). Uses before now (length p) answer) payload_is u

  pub adds_as_read : (before now : List Record) (used : ℕ) (answer : Shipped) → Adds before now used r.payload answer → Adds before now used s.payload answer
  adds_as_read before now used answer a = subst (λ (p : Bytes). Adds before now used p answer) payload_is a

  pub doubts_as_read : (old new : Bytes → Type 0) (answer : Shipped) → DoubtsAfter old new r.payload (fate_of answer) → DoubtsAfter old new s.payload (fate_of answer)
  doubts_as_read old new answer d = subst (λ (p : Bytes). DoubtsAfter old new p (fate_of answer)) payload_is d

module _ {K : Type 0} (keeper : KeeperMeaning K) (old : Standby K) (b : Followed) (h : Holds keeper old b) (bytes : Bytes) where
  -- what the standby has, and how it reacts
  abbrev pub Stepped : Standby K → Shipped → Type 0
  Stepped new answer = (after : Followed) × Holds keeper new after × (after.told ≡ b.told) × IsStep b.standby bytes answer after.standby

  pub refused : (answer : Shipped) → IsRefused (length old.records.items) bytes answer → Stepped old answer
  refused answer r = (b, h, refl, refused_step b.standby bytes answer (subst (λ (n : ℕ). IsRefused n bytes answer) (count_is keeper old b h) r))

  module _ (new : Standby K) (line : Numbered) (e : Entry) (next : IsNext bytes (length old.records.items) line e) (told : keeper.tells old.keeper → keeper.tells new.keeper) where
    next_here : IsNext bytes (length b.standby.list) line e
    next_here = subst (λ (n : ℕ). IsNext bytes n line e) (count_is keeper old b h) next

    pub tried : (answer : Shipped) → IsTry answer → Adds old.records.items new.records.items (keeper.used old.keeper) line.payload answer → SameUnlessAsked old new answer
        → Uses (keeper.used old.keeper) (keeper.used new.keeper) (length line.payload) answer
        → (keeper.tells old.keeper → ListAfter (keeper.list old.keeper) (keeper.list new.keeper) line.payload answer)
        → (keeper.tells old.keeper → DoubtsAfter (keeper.doubts old.keeper) (keeper.doubts new.keeper) line.payload (fate_of answer))
        → Stepped new answer
    tried (BadRecord at) is adds same uses list doubts = absurd is
    tried (Known held) is adds same uses list doubts = absurd is
    tried (Ahead held) is adds same uses list doubts = absurd is
    tried (NoEntry at) is adds same uses list doubts = absurd is
    tried (Accepted n) is adds same uses list doubts = (
      _,
      holds_kept keeper old new b h e next.entry told (record_at (keeper.used old.keeper) line.payload) next.payload (omega (arith, uses.0, uses.1)) adds.0 (omega (arith, uses.0)) uses.1
          (λ t. list t ∙ ap (λ (p : Bytes). keeper.list old.keeper ++ p ∷ []) next.payload)
          (λ t. subst (λ (p : Bytes). DoubtsAfter (keeper.doubts old.keeper) (keeper.doubts new.keeper) p IsKept) next.payload (doubts t)),
      refl,
      ((line, e, next_here, refl), omega (arith, adds.1, count_is keeper old b h)),
    )
    tried Fault is adds same uses list doubts = (
      _,
      holds_failed keeper old new b h e next.entry told adds uses.0 list
          (λ t. subst (λ (p : Bytes). DoubtsAfter (keeper.doubts old.keeper) (keeper.doubts new.keeper) p IsFailed) next.payload (doubts t)),
      refl,
      (line, e, next_here, refl),
    )
    tried (Full size count) is adds same uses list doubts = (
      _,
      holds_full keeper old new b h e next.entry told adds uses.0 list
          (λ t. subst (λ (p : Bytes). DoubtsAfter (keeper.doubts old.keeper) (keeper.doubts new.keeper) p IsFull) next.payload (doubts t)),
      refl,
      (line, e, next_here, refl),
    )
    tried Memory is adds same uses list doubts = (b, holds_on keeper old new b h adds same, refl, ((line, next_here.is), refl))
