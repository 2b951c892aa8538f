-- A frame of a feed stays.
use Rattle.std.proofs.Common.{◌≡◌, ℕ, zero, suc, ◌+◌, ◌<◌, ◌≤◌, true, Option, Some, List, [], ◌∷◌, ◌++◌, length, sym, ap, ◌∙◌, arith}
use Rattle.std.specs.List.{slice_get}
use Rattle.std.specs.Option.{option_map}
use Rattle.news_types.specs.declared.entry.Entry.{Entry}
use Rattle.news_types.specs.declared.words.Format.{Format}
use Rattle.news_types.specs.Names.{Bytes}
use Rattle.news_types.specs.History.{History}
use Rattle.news_types.specs.Products.{is_subscriber}
use Rattle.news_types.specs.Feeds.{Dispatch, feed}
use Rattle.news_types.specs.Legal.{IsLegal}
use Rattle.news_types.specs.Frames.{Frame, Writer, numbered, framed, format, frame_at}
use Rattle.news_types.specs.FeedLaws.{BeginsWith}
use Rattle.world_laws.specs.Headline.{IsFrame}
use Rattle.news_types.proofs.Members.{each_get, mapped, numbered_more, numbered_within, numbered_none}
use Rattle.news_types.proofs.Prefix.{feeds_grow}
use Rattle.news_types.proofs.Subscribed.{IsForKnown, feed_is_known, format_stays}

pub feed_goes_on : (e : Entry) (h : History) (s : Bytes) → IsLegal (e ∷ h) → BeginsWith (feed (e ∷ h) s) (feed h s)
feed_goes_on e h s legal = feeds_grow (e ∷ []) h s legal

-- who has an entry in the feed is a subscriber
feed_is_subscribed : (h : History) (s : Bytes) (k : ℕ) (d : Dispatch) → numbered (feed h s) k ≡ Some d → is_subscriber h s ≡ true
feed_is_subscribed h s zero d is = absurd (numbered_none 0 d is)
feed_is_subscribed h s (suc i) d is = each_get (IsForKnown h s) (feed h s) i d (feed_is_known h s) is

pub frame_stays : (write : Writer) (e : Entry) (h : History) (s : Bytes) (k : ℕ) (f : Frame) → IsLegal (e ∷ h) → frame_at write h s k ≡ Some f → frame_at write (e ∷ h) s k ≡ Some f
frame_stays write e h s k f legal is =
    let found = mapped (framed write (format h s) s k) (numbered (feed h s) k) f is in
    let p : Dispatch = found.0 in
    let here = feed_is_subscribed h s k p found.1 in
    let same_format : format (e ∷ h) s ≡ format h s = format_stays e h s legal here in
    let goes_on = feed_goes_on e h s legal in
    let there : numbered (feed (e ∷ h) s) k ≡ Some p = ap (λ (ps : List Dispatch). numbered ps k) goes_on.1 ∙ numbered_more (feed h s) goes_on.0 k p found.1 in
    ap (option_map (framed write (format (e ∷ h) s) s k)) there ∙ ap (λ (o : Option Format). Some (framed write o s k p)) same_format ∙ ap Some found.2

pub frame_is : (write : Writer) (h : History) (s : Bytes) (k : ℕ) (f : Frame) → frame_at write h s k ≡ Some f → IsFrame write h f
frame_is write h s k f is =
    let found = mapped (framed write (format h s) s k) (numbered (feed h s) k) f is in
    let to : s ≡ f.to = ap (λ (g : Frame). g.to) found.2 in
    let place : k ≡ f.k = ap (λ (g : Frame). g.k) found.2 in
    ap (λ (t : Bytes). frame_at write h t f.k) (sym to) ∙ ap (λ (j : ℕ). frame_at write h s j) (sym place) ∙ is

pub frame_within : (write : Writer) (h : History) (s : Bytes) (k : ℕ) (f : Frame) → frame_at write h s k ≡ Some f → k ≤ length (feed h s)
frame_within write h s k f is =
    let found = mapped (framed write (format h s) s k) (numbered (feed h s) k) f is in
    numbered_within (feed h s) k found.0 found.1

-- the frames of a feed from entry k on
abbrev pub AreFrames : Writer → History → Bytes → ℕ → List Frame → Type 0
AreFrames write h s k [] = Unit {0}
AreFrames write h s k (f ∷ fs) = (frame_at write h s k ≡ Some f) × AreFrames write h s (suc k) fs

pub are_stay : (write : Writer) (e : Entry) (h : History) (s : Bytes) (k : ℕ) (fs : List Frame) → IsLegal (e ∷ h) → AreFrames write h s k fs → AreFrames write (e ∷ h) s k fs
are_stay write e h s k [] legal all = tt
are_stay write e h s k (f ∷ fs) legal all = (frame_stays write e h s k f legal all.0, are_stay write e h s (suc k) fs legal all.1)

pub are_more : (write : Writer) (h : History) (s : Bytes) (k n : ℕ) (fs : List Frame) (f : Frame) → n ≡ k + length fs → AreFrames write h s k fs → frame_at write h s n ≡ Some f → AreFrames write h s k (fs ++ f ∷ [])
are_more write h s k n [] f is all new = (ap (λ (j : ℕ). frame_at write h s j) (omega (arith, is)) ∙ new, tt)
are_more write h s k n (g ∷ fs) f is all new = (all.0, are_more write h s (suc k) n fs f (omega (arith, is)) all.1 new)

pub are_within : (write : Writer) (h : History) (s : Bytes) (j : ℕ) (fs : List Frame) → j ≤ length (feed h s) → AreFrames write h s (suc j) fs → j + length fs ≤ length (feed h s)
are_within write h s j [] le all = omega (arith, le)
are_within write h s j (f ∷ fs) le all = omega (arith, are_within write h s (suc j) fs (frame_within write h s (suc j) f all.0) all.1)

pub are_at : (write : Writer) (h : History) (s : Bytes) (k n i : ℕ) (fs : List Frame) → n ≡ k + i → i < length fs → AreFrames write h s k fs → slice_get fs i ≡ frame_at write h s n
are_at write h s k n i [] is lt all = absurd (omega (arith, lt))
are_at write h s k n zero (f ∷ fs) is lt all = sym (ap (λ (j : ℕ). frame_at write h s j) (omega (arith, is)) ∙ all.0)
are_at write h s k n (suc i) (f ∷ fs) is lt all = are_at write h s (suc k) n i fs (omega (arith, is)) (omega (arith, lt)) all.1
