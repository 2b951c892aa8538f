-- What a frame makes of a receiver, and lists of frames.
use Rattle.std.proofs.Common.{◌≡◌, ◌⊎◌, inl, inr, ℕ, ◌+◌, ◌≤◌, List, [], ◌∷◌, ◌++◌, length, map, refl, sym, ap, ◌∙◌, arith, length-append}
use Rattle.std.proofs.lemmas.List.{append-nil}
use Rattle.std.specs.Prelude.{true}
use Rattle.news_types.specs.Names.{Bytes}
use Rattle.news_types.specs.Frames.{Frame}
use Rattle.news_types.specs.Calls.{Fate, IsKept, IsFull, IsFailed, IsStarved}
use Rattle.news_types.specs.Receiver.{Receiver, Taken, NotMine, Known, Ahead, Accepted, reaction, accepted, reacted, taken, is_receipted}
use Rattle.byte_formats.proofs.Whole.{one_spelling}
use Rattle.feed_receiver.specs.Spelling.{frame_bytes, IsFrame}
use Rattle.feed_receiver.specs.Formats.{frame}
use Rattle.feed_receiver.specs.Feed.{InOrder}
use Rattle.feed_receiver.proofs.Written.{frame_lawful}
use Rattle.frame_run.specs.Answers.{behind}

-- ---- lists

-- of two beginnings of one list, one begins the other
pub beginnings : (a b x y : List Frame) → a ++ x ≡ b ++ y → ((m : List Frame) × (b ≡ a ++ m)) ⊎ ((m : List Frame) × (a ≡ b ++ m))
beginnings [] b x y is = inl (b, refl)
beginnings (f ∷ a) [] x y is = inr (f ∷ a, refl)
beginnings (f ∷ a) (g ∷ b) x y is =
    let first : f ≡ g = cc in
    let rest : a ++ x ≡ b ++ y = cc in
    elim (beginnings a b x y rest) [
      | inl m ↦ inl (m.0, ap (λ (h : Frame). h ∷ b) (sym first) ∙ ap (λ (l : List Frame). f ∷ l) m.1)
      | inr m ↦ inr (m.0, ap (λ (h : Frame). h ∷ a) first ∙ ap (λ (l : List Frame). g ∷ l) m.1)
    ]

pub none_more : (l : List Frame) → length l ≤ 0 → l ≡ []
none_more [] le = refl
none_more (f ∷ l) le = absurd (omega (arith, le))

-- frames of one form with one spelling are the same
pub one_frame : (f g : Frame) → IsFrame f → IsFrame g → frame_bytes f ≡ frame_bytes g → f ≡ g
one_frame f g a b is = one_spelling frame IsFrame frame_lawful f g a b is

pub same_frames : (name : Bytes) (k : ℕ) (xs ys : List Frame) → InOrder name k xs → InOrder name k ys → map frame_bytes xs ≡ map frame_bytes ys → xs ≡ ys
same_frames name k [] [] o p is = refl
same_frames name k [] (g ∷ ys) o p is = absurd (cc is)
same_frames name k (f ∷ xs) [] o p is = absurd (cc is)
same_frames name k (f ∷ xs) (g ∷ ys) o p is =
    let first : frame_bytes f ≡ frame_bytes g = list_head is in
    let rest : map frame_bytes xs ≡ map frame_bytes ys = list_tail is in
    ap (λ (h : Frame). h ∷ xs) (one_frame f g o.0.form p.0.form first) ∙ ap (λ (l : List Frame). g ∷ l) (same_frames name (k + 1) xs ys o.1 p.1 rest)
  where
    list_head : {x y : Bytes} {l m : List Bytes} → x ∷ l ≡ y ∷ m → x ≡ y
    list_head same = cc

    list_tail : {x y : Bytes} {l m : List Bytes} → x ∷ l ≡ y ∷ m → l ≡ m
    list_tail same = cc

-- frames in order are no more than their last number
pub few_frames : (name : Bytes) (k : ℕ) (frames : List Frame) → k ≤ 4294967296 → InOrder name k frames → k + length frames ≤ 4294967296
few_frames name k [] le o = omega (arith, le)
few_frames name k (f ∷ frames) le o = let rest = few_frames name (k + 1) frames (omega (arith, o.0.number, o.0.form.last)) o.1 in omega (arith, rest)

-- ---- a frame that is kept where it is accepted

reacted_held : (r : Receiver) (f : Frame) (t : Taken) → (reacted r f IsKept t).held ≡ (reacted (record { held = r.held; doubt = [] }) f IsKept t).held
reacted_held r f NotMine = refl
reacted_held r f Known = refl
reacted_held r f Ahead = refl
reacted_held r f Accepted = refl

pub kept_held : (name : Bytes) (r : Receiver) (f : Frame) → (taken name r f IsKept).held ≡ behind name r.held f
unfolding behind
kept_held name r f = reacted_held r f (reaction name (length r.held) f)

pub kept_receipted : (t : Taken) → is_receipted IsKept t ≡ true
kept_receipted NotMine = refl
kept_receipted Known = refl
kept_receipted Ahead = refl
kept_receipted Accepted = refl

-- ---- a frame that is held back by the log

reacted_accepted : (held : List Frame) (f : Frame) (t : Taken) → (reacted (record { held = held; doubt = [] }) f IsKept t).held ≡ held ++ f ∷ [] → t ≡ Accepted
reacted_accepted held f NotMine is = absurd (omega (arith, ap length is, length-append held (f ∷ [])))
reacted_accepted held f Known is = absurd (omega (arith, ap length is, length-append held (f ∷ [])))
reacted_accepted held f Ahead is = absurd (omega (arith, ap length is, length-append held (f ∷ [])))
reacted_accepted held f Accepted is = refl

pub is_accepted : (name : Bytes) (held : List Frame) (f : Frame) → behind name held f ≡ held ++ f ∷ [] → reaction name (length held) f ≡ Accepted
unfolding behind
is_accepted name held f is = reacted_accepted held f (reaction name (length held) f) is

-- ---- a frame of any fate

-- the frames go on, by one frame at most
pub record Goes (old new : List Frame) : Type 0 where
  pub more : List Frame
  pub is : new ≡ old ++ more
  pub few : length more ≤ 1

stays : (l : List Frame) → Goes l l
stays l = record { more = []; is = sym (append-nil l); few = omega arith }

accepted_goes : (r : Receiver) (f : Frame) (fate : Fate) → Goes r.held (accepted r f fate).held
accepted_goes r f IsKept = record { more = f ∷ []; is = refl; few = omega arith }
accepted_goes r f IsFull = stays r.held
accepted_goes r f IsFailed = stays r.held
accepted_goes r f IsStarved = stays r.held

reacted_goes : (r : Receiver) (f : Frame) (fate : Fate) (t : Taken) → Goes r.held (reacted r f fate t).held
reacted_goes r f fate NotMine = stays r.held
reacted_goes r f fate Known = stays r.held
reacted_goes r f fate Ahead = stays r.held
reacted_goes r f fate Accepted = accepted_goes r f fate

pub taken_goes : (name : Bytes) (r : Receiver) (f : Frame) (fate : Fate) → Goes r.held (taken name r f fate).held
taken_goes name r f fate = reacted_goes r f fate (reaction name (length r.held) f)
