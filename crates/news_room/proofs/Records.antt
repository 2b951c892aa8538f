-- The record of an entry, as its keeper takes it.
use Rattle.std.proofs.Common.{◌≡◌, ℕ, List, [], ◌∷◌, length, sym, ◌∙◌, ap, subst, arith, append_assoc}
use Rattle.std.specs.Int.{w32, to_be_bytes}
use Rattle.news_types.specs.declared.entry.Entry.{Entry}
use Rattle.news_io.specs.Keeper as kept
use Rattle.news_io.specs.Keeper.{IsFramed, payload_of}
use Rattle.news_io.proofs.Framing.{is_framed, payload_of-framed, length-framed}
use Rattle.entry_codec.specs.Spelling.{entry_bytes, framed}
use Rattle.entry_codec.specs.Formed.{IsEntry}
use Rattle.entry_codec.proofs.Lengths.{entry_len}
use Rattle.news_room.specs.Appends.{IsRecord}

pub framed_is : (payload : List ℕ) → framed payload ≡ kept.framed payload
framed_is payload = sym (append_assoc (to_be_bytes w32 (length payload)) payload (0 ∷ []))

pub record_of : (e : Entry) (bytes : List ℕ) → IsEntry e → bytes ≡ framed (entry_bytes e) → IsRecord bytes e
record_of e bytes entry is =
    let whole : bytes ≡ kept.framed (entry_bytes e) = is ∙ framed_is (entry_bytes e) in
    record {
      entry = entry;
      frame = subst IsFramed (sym whole) (is_framed (entry_bytes e) (omega (arith, entry_len e entry)));
      payload = ap payload_of whole ∙ payload_of-framed (entry_bytes e);
      size = omega (arith, ap length whole, length-framed (entry_bytes e));
    }
