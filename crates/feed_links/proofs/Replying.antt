-- What a receiver replies, by what it answers.
use Rattle.std.proofs.Common.{◌≡◌, List, [], length, Bool, true, false, if◌then◌else◌, refl, sym, ap, ◌∙◌}
use Rattle.news_types.specs.Names.{Bytes}
use Rattle.news_types.specs.Frames.{Frame}
use Rattle.news_io.specs.Keeper.{KeeperMeaning}
use Rattle.feed_receiver.specs.declared.receiver.Receiver.{Receiver}
use Rattle.feed_receiver.specs.declared.receiver.Taken.{Taken}
use Rattle.feed_receiver.specs.Holds.{Received, Holds, onto}
use Rattle.feed_receiver.specs.Spelling.{receipt_bytes}
use Rattle.feed_receiver.specs.Takes.{IsStep}
use Rattle.feed_links.specs.Receivers.{Replies, is_replied, reply_with}

-- where the bytes are taken with an answer, and the reply goes with that answer
pub replied : {K : Type 0} (keeper : KeeperMeaning K) (old new : Receiver K) (bytes reply : Bytes) (answer : Taken)
    → (more : List Frame) × ((b : Received) → Holds keeper old b → Holds keeper new (onto more b) × IsStep b.name b.frames bytes answer more)
    → ((b : Received) → Holds keeper new b → reply ≡ reply_with answer b)
    → (b : Received) → Holds keeper old b → (now : Received) × Holds keeper new now × Replies b bytes now reply
replied keeper old new bytes reply answer step with' b holds =
    let taken = step.1 b holds in
    (onto step.0 b, taken.0, record { answer = answer; more = step.0; step = taken.1; grown = refl; is = with' (onto step.0 b) taken.0 })

abbrev reply_if : Received → Bool → Bytes
reply_if b replies = if replies then receipt_bytes b.name (length b.frames) else []

pub with_receipt : (answer : Taken) (b : Received) (reply : Bytes) → is_replied answer ≡ true → reply ≡ receipt_bytes b.name (length b.frames) → reply ≡ reply_with answer b
with_receipt answer b reply replies is = is ∙ sym (ap (reply_if b) replies)

pub with_nothing : (answer : Taken) (b : Received) (reply : Bytes) → is_replied answer ≡ false → reply ≡ [] → reply ≡ reply_with answer b
with_nothing answer b reply silent is = is ∙ sym (ap (reply_if b) silent)
