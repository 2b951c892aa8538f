-- What holds of the world, and what a call makes of it.
use Rattle.std.proofs.Common.{◌≡◌, ℕ, suc, ◌+◌, ◌<◌, ◌≤◌, inl, inr, Option, Some, None, [], ◌∷◌, length, refl, ◌∙◌, arith}
use Rattle.news_types.specs.declared.entry.Entry.{Entry}
use Rattle.news_types.specs.Names.{Bytes}
use Rattle.news_types.specs.Members.{Each}
use Rattle.news_types.specs.History.{History, moment_at}
use Rattle.news_types.specs.Legal.{IsLegal}
use Rattle.news_types.specs.Frames.{Writer, frame_at}
use Rattle.news_types.specs.Calls.{Call, Answer, Full, Fault, Memory, place_of, answer, Fate, IsKept, IsFull, IsFailed, IsStarved, given, front}
use Rattle.news_types.specs.Server.{put}
use Rattle.news_types.proofs.Members.{each_map}
use Rattle.news_types.specs.Receiver.{Receiver}
use Rattle.world_laws.specs.World.{World, Given}
use Rattle.world_laws.specs.Headline.{IsFrame, IsAnswerAt, WouldKeep, IsReplied, IsShown, AnswersInOrder}
use Rattle.world_laws.proofs.Frames.{frame_stays, AreFrames, are_stay}
use Rattle.world_laws.proofs.Answers.{Sound, Fair, front_more, front_all, fair_more}

-- what holds of the receiver of a name: what it tried is the next frame
pub record Holds (write : Writer) (h : History) (s : Bytes) (r : Receiver) : Type 0 where
  pub frames : AreFrames write h s 1 r.held
  pub next : Each (λ f. frame_at write h s (suc (length r.held)) ≡ Some f) r.doubt

pub record Stands (write : Writer) (w : World) : Type 0 where
  pub legal : IsLegal w.server.list
  pub doubt : Each (λ e. IsLegal (e ∷ w.server.list)) w.server.doubt
  pub out : Each (Fair write w.server.list) w.out
  pub order : AnswersInOrder w.out
  pub frames : Each (IsFrame write w.server.list) w.frames
  pub receipts : Each (λ r. r.count ≤ length (w.receivers r.from).held) w.receipts
  pub receivers : (s : Bytes) → Holds write w.server.list s (w.receivers s)

-- the world with an entry put to the server's list, and with an answer more
abbrev pub with_entry : World → Option Entry → Fate → World
with_entry w entry fate = record w { server = put w.server entry fate }

abbrev pub say : World → Given → World
say w g = record w { out = g ∷ w.out }

-- ---- one entry more

holds_more : (write : Writer) (e : Entry) (h : History) (s : Bytes) (r : Receiver) → IsLegal (e ∷ h) → Holds write h s r → Holds write (e ∷ h) s r
holds_more write e h s r legal holds = record {
  frames = are_stay write e h s 1 r.held legal holds.frames;
  next = each_map _ _ r.doubt (λ f is. frame_stays write e h s (suc (length r.held)) f legal is) holds.next;
}

-- an entry is kept, or found at reopening
pub grown : (write : Writer) (w : World) (e : Entry) → Stands write w → IsLegal (e ∷ w.server.list) → Stands write (record w { server = record { list = e ∷ w.server.list; doubt = [] } })
grown write w e stands legal = record {
  legal = legal;
  doubt = tt;
  out = each_map _ _ w.out (λ g fair. fair_more write e w.server.list g legal fair) stands.out;
  order = stands.order;
  frames = each_map _ _ w.frames (λ f is. frame_stays write e w.server.list f.to f.k f legal is) stands.frames;
  receipts = stands.receipts;
  receivers = λ s. holds_more write e w.server.list s (w.receivers s) legal (stands.receivers s);
}

pub entry_stands : (write : Writer) (w : World) (entry : Option Entry) (fate : Fate) → Stands write w → ((e : Entry) → entry ≡ Some e → IsLegal (e ∷ w.server.list)) → Stands write (with_entry w entry fate)
entry_stands write w None fate stands legal = stands
entry_stands write w (Some e) IsKept stands legal = grown write w e stands (legal e refl)
entry_stands write w (Some e) IsFull stands legal = stands
entry_stands write w (Some e) IsStarved stands legal = stands
entry_stands write w (Some e) IsFailed stands legal = record {
  legal = stands.legal;
  doubt = (legal e refl, stands.doubt);
  out = stands.out;
  order = stands.order;
  frames = stands.frames;
  receipts = stands.receipts;
  receivers = stands.receivers;
}

-- ---- one answer more

say_stands : (write : Writer) (w : World) (g : Given) → Stands write w → Fair write w.server.list g → (0 < place_of g.answer → Each (λ (o : Given). place_of o.answer < place_of g.answer) w.out) → Stands write (say w g)
say_stands write w g stands fair later = record {
  legal = stands.legal;
  doubt = stands.doubt;
  out = (fair, stands.out);
  order = (later, stands.order);
  frames = stands.frames;
  receipts = stands.receipts;
  receivers = stands.receivers;
}

-- the list at which a call was asked is a front of the list
pub record IsFrontOf (start h : History) : Type 0 where
  pub few : length start ≤ length h
  pub front : front h (length start) ≡ start

pub front_self : (h : History) → IsFrontOf h h
front_self h = record { few = omega arith; front = front_all h }

pub front_next : (start : History) (e : Entry) (h : History) → IsFrontOf start h → IsFrontOf start (e ∷ h)
front_next start e h is = record { few = omega (arith, is.few); front = front_more e h (length start) is.few ∙ is.front }

-- an answer is sound at the list behind its entry, if it has one, and then has its number
abbrev pub Counts : Writer → History → Call → Answer → Option Entry → Type 0
Counts write h call a None = Sound write h call a × (place_of a ≡ 0)
Counts write h call a (Some e) = Sound write (e ∷ h) call a × (place_of a ≡ length h + 1)

-- the answer that a list gives
abbrev pub IsOf : Writer → History → Call → ℕ → Answer → Type 0
IsOf write start call reading a = IsAnswerAt write start call (moment_at start reading) a

-- an answer without an entry
pub say_none : (write : Writer) (w : World) (start : History) (call : Call) (reading : ℕ) (a : Answer) → Stands write w → IsFrontOf start w.server.list → IsOf write start call reading a → Sound write w.server.list call a → place_of a ≡ 0
    → Stands write (say w (record { at = length start; call = call; reading = reading; answer = a }))
say_none write w start call reading a stands begins is sound none =
    say_stands write w _ stands (record { is = (begins.few, rw begins.front is); sound = sound }) (λ lt. absurd (omega (arith, none, lt)))

say_kept : (write : Writer) (w : World) (e : Entry) (start : History) (call : Call) (reading : ℕ) (a : Answer) → Stands write w → IsLegal (e ∷ w.server.list) → IsFrontOf start w.server.list → IsOf write start call reading a → Counts write w.server.list call a (Some e)
    → Stands write (say (with_entry w (Some e) IsKept) (record { at = length start; call = call; reading = reading; answer = a }))
say_kept write w e start call reading a stands legal begins is counts =
    let next = front_next start e w.server.list begins in
    say_stands write (with_entry w (Some e) IsKept) _ (grown write w e stands legal)
    (record { is = (next.few, rw next.front is); sound = counts.0 })
    (λ lt. each_map _ _ w.out (λ o old. omega (arith, counts.1, old.sound.few)) stands.out)

-- an answer that says nothing of the list
abbrev pub SaysNothing : Answer → Type 0
SaysNothing a = (write : Writer) (h : History) (call : Call) → Sound write h call a

nothing : (write : Writer) (h : History) (call : Call) (a : Answer) → place_of a ≡ 0 → IsReplied h a call → IsShown write h a call → Sound write h call a
nothing write h call a none replied shown = record { few = omega (arith, none); kept = λ more. absurd (omega (arith, none, more)); replied = replied; shown = shown }

pub sound_memory : SaysNothing Memory
sound_memory write h call = nothing write h call Memory refl tt tt

pub sound_full : SaysNothing Full
sound_full write h call = nothing write h call Full refl tt tt

pub sound_fault : SaysNothing Fault
sound_fault write h call = nothing write h call Fault refl tt tt

-- a call whose entry has some fate
pub call_stands : (write : Writer) (w : World) (entry : Option Entry) (fate : Fate) (start : History) (call : Call) (reading : ℕ) (a : Answer)
    → Stands write w → ((e : Entry) → entry ≡ Some e → IsLegal (e ∷ w.server.list)) → IsFrontOf start w.server.list
    → a ≡ answer write start call (moment_at start reading) → Counts write w.server.list call a entry → ((e : Entry) → entry ≡ Some e → WouldKeep start call (moment_at start reading))
    → Stands write (say (with_entry w entry fate) (record { at = length start; call = call; reading = reading; answer = given entry fate a }))
call_stands write w None IsStarved start call reading a stands legal begins is counts would = say_none write w start call reading Memory stands begins (inr (inl refl)) (sound_memory write w.server.list call) refl
call_stands write w None IsKept start call reading a stands legal begins is counts would = say_none write w start call reading a stands begins (inl is) counts.0 counts.1
call_stands write w None IsFull start call reading a stands legal begins is counts would = say_none write w start call reading a stands begins (inl is) counts.0 counts.1
call_stands write w None IsFailed start call reading a stands legal begins is counts would = say_none write w start call reading a stands begins (inl is) counts.0 counts.1
call_stands write w (Some e) IsKept start call reading a stands legal begins is counts would = say_kept write w e start call reading a stands (legal e refl) begins (inl is) counts
call_stands write w (Some e) IsFull start call reading a stands legal begins is counts would =
    say_none write w start call reading Full stands begins (inr (inr (inl refl, would e refl))) (sound_full write w.server.list call) refl
call_stands write w (Some e) IsStarved start call reading a stands legal begins is counts would =
    say_none write w start call reading Memory stands begins (inr (inl refl)) (sound_memory write w.server.list call) refl
call_stands write w (Some e) IsFailed start call reading a stands legal begins is counts would =
    say_none write (with_entry w (Some e) IsFailed) start call reading Fault (entry_stands write w (Some e) IsFailed stands legal) begins (inr (inr (inr refl, would e refl)))
    (sound_fault write w.server.list call) refl
