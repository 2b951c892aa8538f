-- A refused reply is one to a subscriber of the link.
use Rattle.std.proofs.Common.{◌≡◌, ℕ, Bool, true, false, ◌||◌, List, [], ◌∷◌, refl, sym, ap, ◌∙◌}
use Rattle.std.proofs.lemmas.Bool.{true≢false}
use Rattle.news_types.specs.declared.entry.Entry.{Entry}
use Rattle.news_types.specs.Names.{Bytes, is_in}
use Rattle.news_types.specs.History.{moment_at}
use Rattle.news_types.specs.Books.{Book, onto}
use Rattle.news_types.specs.Calls.{ticked}
use Rattle.news_types.proofs.Members.{same_self}
use Rattle.news_io.specs.Keeper.{KeeperMeaning}
use Rattle.news_room.specs.Claims.{ClaimStep}
use Rattle.news_room.specs.Stands.{numbers}
use Rattle.news_room.specs.declared.answers.Kept.{Kept}
use Rattle.news_room.specs.declared.claim.Claimed.{Claimed}
use Rattle.news_room.specs.declared.room.Room.{Room}
use Rattle.publish_workers.specs.Turns.{Exchange, Unsent, Unread, Replied, Receipted, Turn, word_of_frame, word_of, word, is_no_receipt}
use Rattle.publish_workers.specs.Drains.{refused_in, TurnsHappen}
use Rattle.publish_workers.specs.Completeness.{is_refused_by, refused_by}
use Rattle.publish_workers.proofs.Complete.{or_parts}
use Rattle.drain_laws.proofs.Named.{choice_named}

-- a reply to a frame is refused of the frame's subscriber, or not at all
refused_frame : (s : Bytes) (k : ℕ) (x : Exchange) → is_refused_by s (word_of_frame s k x) ≡ false → is_no_receipt (word_of_frame s k x) ≡ false
refused_frame s k Unsent is = refl
refused_frame s k Unread is = refl
refused_frame s k (Replied reply) is = absurd (true≢false (sym (same_self s) ∙ is))
refused_frame s k (Receipted reply n at (Kept.Done done)) is = refl
refused_frame s k (Receipted reply n at (Kept.Denied why)) is = absurd (true≢false (sym (same_self s) ∙ is))
refused_frame s k (Receipted reply n at Kept.Fault) is = refl
refused_frame s k (Receipted reply n at (Kept.Full size count)) is = refl

module _ {K : Type 0} (keeper : KeeperMeaning K) (names : List Bytes) where
  refused_turn : (left between : Room K) (b : Book) (reading : ℕ) (first : List Entry) (c : Claimed) (x : Exchange) → ClaimStep (numbers keeper left between) b reading names first c
      → ((s : Bytes) → is_in s names ≡ true → is_refused_by s (word_of c x) ≡ false) → is_no_receipt (word_of c x) ≡ false
  refused_turn left between b reading first (Claimed.Job s k frame front) x step none =
      refused_frame s k x (none s (choice_named (ticked b.list (moment_at b.list reading)) names (moment_at b.list reading) s k step.0))
  refused_turn left between b reading first (Claimed.Idle next) x step none = refl
  refused_turn left between b reading first Claimed.Fault x step none = refl
  refused_turn left between b reading first (Claimed.Full size count) x step none = refl
  refused_turn left between b reading first Claimed.Memory x step none = refl

  -- where none of theirs is, none is
  pub none_refused : (old left : Room K) (b : Book) (ts : List Turn) (before : List Entry) → TurnsHappen keeper old left b names ts before → ((s : Bytes) → is_in s names ≡ true → refused_by s ts ≡ false) → refused_in ts ≡ false
  none_refused old left b [] before happens none = refl
  none_refused old left b (t ∷ ts) before happens none =
      let parts : (s : Bytes) → is_in s names ≡ true → (refused_by s ts ≡ false) × (is_refused_by s (word t) ≡ false) = λ s there. or_parts (refused_by s ts) (is_refused_by s (word t)) (none s there) in
      ap (λ (x : Bool). x || is_no_receipt (word t)) (none_refused old happens.0 b ts happens.2 happens.5 (λ s there. (parts s there).0))
      ∙ refused_turn happens.0 happens.1 (onto happens.2 b) t.reading happens.3 t.claimed t.exchange happens.6.claim.step (λ s there. (parts s there).1)
