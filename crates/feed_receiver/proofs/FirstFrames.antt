-- What the first bytes of an input are, from what reading gives.
use Rattle.std.proofs.Common.{◌≡◌, ℕ, ◌<◌, ◌≤◌, ◌-◌, List, ◌++◌, length, take, Ok, Err, refl, sym, ap, subst, ◌∙◌, arith, length-append}
use Rattle.std.proofs.lemmas.List.{take_all}
use Rattle.std.proofs.Math.Seq.{take-append_seam}
use Rattle.news_types.specs.Names.{Bytes}
use Rattle.news_types.specs.Frames.{Frame}
use Rattle.byte_formats.specs.Lawful.{IsBytes, Begins}
use Rattle.byte_formats.specs.Faults.{IsFaultAt}
use Rattle.byte_formats.specs.Gives.{all_of}
use Rattle.byte_formats.proofs.Laws.{not_both}
use Rattle.byte_formats.proofs.Whole.{all_fault, all_within}
use Rattle.feed_receiver.specs.declared.frame.FirstFrame.TheVariants.{Whole, Bad, Cut}
use Rattle.feed_receiver.specs.Spelling.{frame_bytes, IsFrame}
use Rattle.feed_receiver.specs.Formats.{frame, read_frame_at}
use Rattle.feed_receiver.specs.Reads.{IsFirst}
use Rattle.feed_receiver.proofs.Written.{frame_lawful}

module _ (bytes : Bytes) (ib : IsBytes bytes) where
  pub left_within : (f : Frame) (rest : List ℕ) → read_frame_at bytes ≡ Ok (f, rest) → length rest ≤ length bytes
  left_within f rest e = let t = frame_lawful.takes bytes f rest ib e in omega (arith, ap length t.1, length-append (frame_bytes f) rest)

  pub first_whole : (f : Frame) (rest : List ℕ) → read_frame_at bytes ≡ Ok (f, rest) → IsFirst bytes (Whole (length bytes - length rest))
  first_whole f rest e =
      let t = frame_lawful.takes bytes f rest ib e in
      let long : length (frame_bytes f) ≡ length bytes - length rest = omega (arith, ap length t.1, length-append (frame_bytes f) rest) in
      let front : take (length bytes - length rest) bytes ≡ frame_bytes f =
      ap (λ (n : ℕ). take n bytes) (sym long) ∙ ap (λ (z : List ℕ). take (length (frame_bytes f)) z) t.1 ∙ take-append_seam (frame_bytes f) rest in
      (f, t.0, front, omega arith)

  whole_fault : (left : ℕ) → read_frame_at bytes ≡ Err left → all_of frame bytes ≡ Err left
  unfolding all_of
  whole_fault left e = rw e refl

  pub fault_within : (left : ℕ) → read_frame_at bytes ≡ Err left → left ≤ length bytes
  fault_within left e = all_within frame IsFrame frame_lawful bytes left ib (whole_fault left e)

  fault_at : (left : ℕ) → read_frame_at bytes ≡ Err left → IsFaultAt frame_bytes IsFrame bytes (length bytes - left)
  fault_at left e = all_fault frame IsFrame frame_lawful bytes left ib (whole_fault left e)

  none_whole : (left : ℕ) → read_frame_at bytes ≡ Err left → (f : Frame) (rest : Bytes) → IsFrame f → bytes ≡ frame_bytes f ++ rest → ⊥
  none_whole left e = λ f rest form is. not_both (read_frame_at bytes) (f, rest) left (ap read_frame_at is ∙ frame_lawful.again f rest form) e

  pub first_bad : (left : ℕ) → 0 < left → read_frame_at bytes ≡ Err left → IsFirst bytes (Bad (length bytes - left))
  first_bad left some e =
      let at = fault_at left e in
      let within : length bytes - left < length bytes = omega (arith, fault_within left e) in
      (within, at.before, at.here within, none_whole left e)

  pub first_cut : read_frame_at bytes ≡ Err 0 → IsFirst bytes Cut
  first_cut e =
      let at = fault_at 0 e in
      let whole : take (length bytes - 0) bytes ≡ bytes = take_all (length bytes - 0) bytes (omega arith) in
      (subst (Begins frame_bytes IsFrame) whole at.before, none_whole 0 e)
