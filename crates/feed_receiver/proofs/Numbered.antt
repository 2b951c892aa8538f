-- Frames with their numbers, from what reading gives.
use Rattle.std.proofs.Common.{◌≡◌, ℕ, suc, ◌<◌, ◌≤◌, ◌+◌, ◌-◌, List, [], ◌∷◌, ◌++◌, length, take, drop, get_or, map, Bool, true, false, not, Ok, Err, MatchBool, refl, sym, ap, subst, ◌∙◌, arith, add-one, drop-cons, inl, inr}
use Rattle.std.proofs.lemmas.List.{map-append, length-map, take_more, length-take-le, take-append-drop}
use Rattle.std.proofs.lemmas.Bool.{true≢false, cases_lt}
use Rattle.news_types.specs.Names.{Bytes, same}
use Rattle.news_types.specs.Frames.{Frame}
use Rattle.news_types.proofs.Members.{same_self}
use Rattle.news_io.specs.declared.record.Record.{Record}
use Rattle.byte_formats.specs.Lawful.{IsBytes}
use Rattle.byte_formats.specs.Faults.{IsFaultAt}
use Rattle.byte_formats.specs.Gives.{all_of}
use Rattle.byte_formats.proofs.Laws.{ok_is, not_both}
use Rattle.byte_formats.proofs.Whole.{all_takes, all_again, all_fault, all_within}
use Rattle.feed_receiver.specs.Spelling.{frame_bytes, IsFrame}
use Rattle.feed_receiver.specs.Formats.{frame}
use Rattle.feed_receiver.specs.Feed.{IsNumber, AreNumber, InOrder, AreFrames, HasBadFrame}
use Rattle.feed_receiver.specs.Takes.{AreFrame}
use Rattle.feed_receiver.proofs.Written.{frame_lawful, frame_length}

-- ---- what was read

module _ (bytes : Bytes) (ib : IsBytes bytes) (f : Frame) (read : all_of frame bytes ≡ Ok f) where
  pub is_frame : AreFrame f bytes
  is_frame = let t = all_takes frame IsFrame frame_lawful bytes f ib read in record { form = t.0; is = t.1 }

  pub is_number : (name : Bytes) (k : ℕ) → f.to ≡ name → f.k ≡ k → AreNumber name k bytes
  is_number name k mine number = record { frame = f; numbered = record { form = is_frame.form; mine = mine; number = number }; is = is_frame.is }

  same_frame : (name : Bytes) (k : ℕ) (n : AreNumber name k bytes) → f ≡ n.frame
  same_frame name k n = ok_is f n.frame (sym read ∙ ap (all_of frame) n.is ∙ all_again frame IsFrame frame_lawful n.frame n.numbered.form)

  pub number_mine : (name : Bytes) (k : ℕ) → AreNumber name k bytes → f.to ≡ name
  number_mine name k n = ap (λ (g : Frame). g.to) (same_frame name k n) ∙ n.numbered.mine

  pub number_is : (name : Bytes) (k : ℕ) → AreNumber name k bytes → f.k ≡ k
  number_is name k n = ap (λ (g : Frame). g.k) (same_frame name k n) ∙ n.numbered.number

pub no_number : (bytes : Bytes) (left : ℕ) → all_of frame bytes ≡ Err left → (name : Bytes) (k : ℕ) → AreNumber name k bytes → ⊥
no_number bytes left read name k n = not_both (all_of frame bytes) n.frame left (ap (all_of frame) n.is ∙ all_again frame IsFrame frame_lawful n.frame n.numbered.form) read

pub fault_at : (bytes : Bytes) (left : ℕ) → IsBytes bytes → all_of frame bytes ≡ Err left → IsFaultAt frame_bytes IsFrame bytes (length bytes - left)
fault_at bytes left ib read = all_fault frame IsFrame frame_lawful bytes left ib read

pub fault_within : (bytes : Bytes) (left : ℕ) → IsBytes bytes → all_of frame bytes ≡ Err left → left ≤ length bytes
fault_within bytes left ib read = all_within frame IsFrame frame_lawful bytes left ib read

-- ---- names

pub not_same : (a b : Bytes) → same a b ≡ false → a ≡ b → ⊥
not_same a b other is = true≢false (sym (same_self b) ∙ ap (λ (x : Bytes). same x b) (sym is) ∙ other)

pub matched : (b : Bool) (P N : Type 0) → (b ≡ true → P) → (b ≡ false → N) → MatchBool b P N
matched true P N f g = f refl
matched false P N f g = g refl

pub not_true : (b : Bool) → not b ≡ true → b ≡ false
not_true true e = sym e
not_true false e = refl

pub not_false : (b : Bool) → not b ≡ false → b ≡ true
not_false true e = refl
not_false false e = sym e

-- ---- lists of frames

pub order_more : (name : Bytes) (k : ℕ) (frames : List Frame) (f : Frame) → InOrder name k frames → IsNumber name (k + length frames) f → InOrder name k (frames ++ f ∷ [])
order_more name k [] f o n = let at : k + 0 ≡ k = omega arith in (subst (λ (i : ℕ). IsNumber name i f) at n, tt)
order_more name k (g ∷ frames) f o n =
    let at : k + suc (length frames) ≡ k + 1 + length frames = omega arith in
    (o.0, order_more name (k + 1) frames f o.1 (subst (λ (i : ℕ). IsNumber name i f) at n))

-- the last number fits its field
pub few : (name : Bytes) (k : ℕ) (frames : List Frame) → InOrder name k frames → 0 < length frames → k + length frames ≤ 4294967296
few name k [] o some = absurd (omega arith)
few name k (f ∷ []) o some = omega (arith, o.0.form.last, o.0.number)
few name k (f ∷ g ∷ frames) o some = let rest = few name (k + 1) (g ∷ frames) o.1 (omega arith) in omega (arith, rest)

abbrev bytes_of : Record → Bytes
bytes_of r = r.bytes

pub as_many : (name : Bytes) (records : List Record) (a : AreFrames name records) → length records ≡ length a.frames
as_many name records a = sym (length-map records bytes_of) ∙ ap length a.are ∙ length-map a.frames frame_bytes

pub frames_more : (name : Bytes) (front : List Record) (r : Record) → AreFrames name front → AreNumber name (length front + 1) r.bytes → AreFrames name (front ++ r ∷ [])
frames_more name front r a n =
    let at : length front + 1 ≡ 1 + length a.frames = omega (arith, as_many name front a) in
    record {
      frames = a.frames ++ n.frame ∷ [];
      order = order_more name 1 a.frames n.frame a.order (subst (λ (k : ℕ). IsNumber name k n.frame) at n.numbered);
      are =
          map-append bytes_of front (r ∷ []) ∙ ap (λ (l : List Bytes). l ++ r.bytes ∷ []) a.are ∙ ap (λ (x : Bytes). map frame_bytes a.frames ++ x ∷ []) n.is
          ∙ sym (map-append frame_bytes a.frames (n.frame ∷ []));
    }

-- the first i records are frames, and so is the next one
pub frames_on : (name : Bytes) (records : List Record) (i : ℕ) (r : Record) → i < length records → r ≡ get_or records i r → AreFrames name (take i records) → AreNumber name (i + 1) r.bytes → AreFrames name (take (i + 1) records)
frames_on name records i r lt is a n =
    let long : i ≡ length (take i records) = sym (length-take-le i records (omega arith)) in
    subst (AreFrames name) (sym (take_more records i r lt ∙ ap (λ (x : Record). take i records ++ x ∷ []) (sym is)))
    (frames_more name (take i records) r a (subst (λ (k : ℕ). AreNumber name (k + 1) r.bytes) long n))

-- and the next one is not
pub damaged_at : (name : Bytes) (records : List Record) (i : ℕ) (r : Record) → i < length records → r ≡ get_or records i r → AreFrames name (take i records) → (AreNumber name (i + 1) r.bytes → ⊥) → HasBadFrame name records r.at
damaged_at name records i r lt is a bad =
    let long : length (take i records) ≡ i = length-take-le i records (omega arith) in
    let after : drop i records ≡ r ∷ drop (i + 1) records = rw add-one (drop-cons records i r lt) ∙ ap (λ (x : Record). x ∷ drop (i + 1) records) (sym is) in
    record {
      front = take i records;
      bad = r;
      rest = drop (i + 1) records;
      is = sym (take-append-drop i records) ∙ ap (λ (l : List Record). take i records ++ l) after;
      before = a;
      here = λ n. bad (subst (λ (k : ℕ). AreNumber name (k + 1) r.bytes) long n);
      place = refl;
    }

-- a frame's record is within the limit
pub number_length : (name : Bytes) (k : ℕ) (bytes : Bytes) → AreNumber name k bytes → length bytes ≤ 4194298
number_length name k bytes n = omega (arith, ap length n.is, frame_length n.frame n.numbered.form)

pub few_records : (name : Bytes) (records : List Record) → AreFrames name records → length records ≤ 4294967295
few_records name records a =
    elim (cases_lt 0 (length a.frames)) [
      | inl some ↦ omega (arith, as_many name records a, few name 1 a.frames a.order some)
      | inr none ↦ omega (arith, as_many name records a)
    ]
