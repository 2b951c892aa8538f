-- What the receiver's step makes of a frame, by what was asked of it.
use Rattle.std.proofs.Common.{◌≡◌, ℕ, ◌+◌, ◌<◌, ◌≤◌, true, false, List, [], ◌∷◌, ◌++◌, length, refl, sym, ap, subst, ◌∙◌, arith, append-nil}
use Rattle.std.specs.Prelude.{nat_le, nat_lt}
use Rattle.news_types.specs.Names.{Bytes, same}
use Rattle.news_types.specs.Frames.{Frame}
use Rattle.news_types.specs.Calls.{Fate, IsKept, IsFull, IsFailed, IsStarved}
use Rattle.news_types.specs.Receiver as step
use Rattle.news_types.proofs.Members.{same_is, same_self}
use Rattle.feed_receiver.specs.declared.receiver.Taken.{Taken}
use Rattle.feed_receiver.specs.declared.receiver.Taken.TheVariants.{BadFrame, NotMine, Known, Ahead, Accepted, Fault, Full, Memory}
use Rattle.news_io.specs.Keeper.{KeeperMeaning}
use Rattle.feed_receiver.specs.declared.receiver.Receiver.{Receiver}
use Rattle.feed_receiver.specs.Spelling.{frame_bytes}
use Rattle.feed_receiver.specs.Feed.{IsNumber}
use Rattle.feed_receiver.specs.Holds.{Received, onto, Holds}
use Rattle.feed_receiver.specs.Takes.{AreFrame, IsRefused, IsStep}

is_mine : (name : Bytes) (f : Frame) → f.to ≡ name → same name f.to ≡ true
is_mine name f is = rw is (same_self name)

pub of_another : (name : Bytes) (count : ℕ) (f : Frame) → (f.to ≡ name → ⊥) → step.reaction name count f ≡ step.NotMine
of_another name count f other =
    elim (same name f.to) as (λ b. same name f.to ≡ b → step.reaction name count f ≡ step.NotMine) [
      | true ↦ λ is. absurd (other (sym (same_is name f.to is)))
      | false ↦ λ is. rw is refl
    ] refl

le_true : (a b : ℕ) → a ≤ b → nat_le a b ≡ true
le_true a b le = grind arith

le_false : (a b : ℕ) → b < a → nat_le a b ≡ false
le_false a b lt = grind arith

lt_true : (a b : ℕ) → a < b → nat_lt a b ≡ true
lt_true a b lt = grind arith

lt_false : (a b : ℕ) → b ≤ a → nat_lt a b ≡ false
lt_false a b le = grind arith

pub of_known : (name : Bytes) (count : ℕ) (f : Frame) → f.to ≡ name → f.k ≤ count → step.reaction name count f ≡ step.Known
of_known name count f mine le = rw (is_mine name f mine, le_true f.k count le) refl

pub of_ahead : (name : Bytes) (count : ℕ) (f : Frame) → f.to ≡ name → count + 1 < f.k → step.reaction name count f ≡ step.Ahead
of_ahead name count f mine lt = rw (is_mine name f mine, le_false f.k count (omega arith), lt_true (count + 1) f.k lt) refl

pub of_next : (name : Bytes) (count : ℕ) (f : Frame) → f.to ≡ name → f.k ≡ count + 1 → step.reaction name count f ≡ step.Accepted
of_next name count f mine is = rw (is_mine name f mine, le_false f.k count (omega arith), lt_false (count + 1) f.k (omega arith)) refl

-- what is not the next frame adds nothing
nothing_grown : (name : Bytes) (held : List Frame) (f : Frame) (fate : Fate) (t : step.Taken) → step.reaction name (length held) f ≡ t
    → ((r : step.Receiver) → (step.reacted r f fate t).held ≡ r.held) → (doubt : List Frame) → (step.taken name (record { held = held; doubt = doubt }) f fate).held ≡ held ++ []
nothing_grown name held f fate t is stays doubt =
    ap (λ (x : step.Taken). (step.reacted (record { held = held; doubt = doubt }) f fate x).held) is ∙ stays (record { held = held; doubt = doubt }) ∙ sym (append-nil held)

pub refused_step : (name : Bytes) (held : List Frame) (bytes : Bytes) (answer : Taken) → IsRefused name (length held) bytes answer → IsStep name held bytes answer []
refused_step name held bytes (BadFrame at) r = (r, refl)
refused_step name held bytes NotMine r = (r.0, r.1, record { reaction = r.2; carries = tt; grown = nothing_grown name held r.0 IsStarved step.NotMine r.2 (λ x. refl) })
refused_step name held bytes (Known count) r = (r.0, r.1, record { reaction = r.2; carries = r.3; grown = nothing_grown name held r.0 IsStarved step.Known r.2 (λ x. refl) })
refused_step name held bytes (Ahead count) r = (r.0, r.1, record { reaction = r.2; carries = r.3; grown = nothing_grown name held r.0 IsStarved step.Ahead r.2 (λ x. refl) })
refused_step name held bytes (Accepted k) r = absurd r
refused_step name held bytes Fault r = absurd r
refused_step name held bytes (Full size count) r = absurd r
refused_step name held bytes Memory r = absurd r

module _ (name : Bytes) (held : List Frame) (bytes : Bytes) (f : Frame) (n : IsNumber name (length held + 1) f) (is : bytes ≡ frame_bytes f) where
  next : step.reaction name (length held) f ≡ step.Accepted
  next = of_next name (length held) f n.mine n.number

  frame : AreFrame f bytes
  frame = record { form = n.form; is = is }

  pub kept_step : (k : ℕ) → k ≡ length held + 1 → IsStep name held bytes (Accepted k) (f ∷ [])
  kept_step k number = (
    f,
    frame,
    record {
      reaction = next;
      carries = number;
      grown = λ doubt. ap (λ (x : step.Taken). (step.reacted (record { held = held; doubt = doubt }) f IsKept x).held) next;
    },
  )

  pub failed_step : IsStep name held bytes Fault []
  failed_step = (f, frame, record { reaction = next; carries = tt; grown = nothing_grown name held f IsFailed step.Accepted next (λ r. refl) })

  pub full_step : (size count : ℕ) → IsStep name held bytes (Full size count) []
  full_step size count = (f, frame, record { reaction = next; carries = tt; grown = nothing_grown name held f IsFull step.Accepted next (λ r. refl) })

  pub starved_step : IsStep name held bytes Memory []
  starved_step = (f, frame, record { reaction = next; carries = tt; grown = nothing_grown name held f IsStarved step.Accepted next (λ r. refl) })

-- the same of a receiver that stands for a name and the frames that it holds
module _ {K : Type 0} (keeper : KeeperMeaning K) (r : Receiver K) (b : Received) (h : Holds keeper r b) (bytes : Bytes) where
  pub refused_here : (answer : Taken) → IsRefused r.name r.count bytes answer → IsStep b.name b.frames bytes answer []
  refused_here answer refused =
      refused_step b.name b.frames bytes answer
      (subst (λ (name : Bytes). IsRefused name (length b.frames) bytes answer) h.name (subst (λ (count : ℕ). IsRefused r.name count bytes answer) h.count refused))

  pub number_here : (k : ℕ) (f : Frame) → k ≡ r.count + 1 → IsNumber r.name k f → IsNumber b.name (length b.frames + 1) f
  number_here k f is n =
      let at : k ≡ length b.frames + 1 = omega (arith, is, h.count) in
      subst (λ (name : Bytes). IsNumber name (length b.frames + 1) f) h.name (subst (λ (i : ℕ). IsNumber r.name i f) at n)

  -- it holds what it held
  pub holds_on : Holds keeper r (onto [] b)
  holds_on = subst (λ (frames : List Frame). Holds keeper r (record { name = b.name; told = b.told; frames = frames })) (sym (append-nil b.frames)) h
