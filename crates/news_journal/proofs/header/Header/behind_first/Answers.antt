use Rattle.std.proofs.Common.{◌≡◌, inr, refl, ap, sym, ◌∙◌, length, append_assoc, rules}
use Rattle.std.specs.Prelude.{replicate}
use Rattle.news_journal.specs.Log.{room_head, receiver_head}
use Rattle.news_journal.proofs.Fits.{room_fits, receiver_fits}
use Rattle.news_journal.proofs.header.Header.behind_first.Goals as goal

pub returns-in-Room-clause-bytes : goal.returns-in-Room-clause-bytes
unfolding room_head
returns-in-Room-clause-bytes c = rw (c.in-Room.is, c.copy_from_slice.ensures.after, c.copy_from_slice-in-Room.ensures.after, c.store_bytes.ensures) (simp append_assoc)

pub returns-in-Room-clause-form : goal.returns-in-Room-clause-form
returns-in-Room-clause-form c =
    let long : length c.store_bytes.result ≡ 16 = search rules in
    rw c.in-Room.is (room_fits 2 (replicate 6 0) c.in-Room.store (inr refl) refl (ap length (sym c.store_bytes.ensures) ∙ long))

pub returns-in-Receiver-clause-bytes : goal.returns-in-Receiver-clause-bytes
unfolding receiver_head
returns-in-Receiver-clause-bytes c = rw (c.in-Receiver.is, c.copy_from_slice.ensures.after, c.copy_from_slice-in-Receiver.ensures.after, c.padded.ensures.bytes) (simp append_assoc)

pub returns-in-Receiver-clause-form : goal.returns-in-Receiver-clause-form
returns-in-Receiver-clause-form c = rw c.in-Receiver.is (receiver_fits 2 c.in-Receiver.name (inr refl) c.padded.ensures.form)
