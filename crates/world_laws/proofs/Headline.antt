-- The headline, from what holds of the world.
use Rattle.std.proofs.Common.{◌≡◌, ℕ, zero, suc, ◌+◌, ◌<◌, ◌≤◌, inl, inr, true, false, cond, Some, List, [], ◌∷◌, length, refl, sym, ap, ◌∙◌, subst, arith}
use Rattle.std.specs.List.{slice_get}
use Rattle.std.proofs.lemmas.Bool.{cases_lt}
use Rattle.news_types.specs.declared.entry.Entry.{Entry}
use Rattle.news_types.specs.declared.entry.Act.{Act}
use Rattle.news_types.specs.declared.entry.Act.TheVariants.{Request}
use Rattle.news_types.specs.declared.entry.Reply.{Reply}
use Rattle.news_types.specs.declared.command.Command.{Command}
use Rattle.news_types.specs.Names.{Bytes, same}
use Rattle.news_types.specs.Members.{Each}
use Rattle.news_types.specs.History.{History, moment, last, number_of, last_number, last_after}
use Rattle.news_types.specs.Feeds.{Dispatch, feed}
use Rattle.news_types.specs.Outcome.{Answered, Done, Repeat}
use Rattle.news_types.specs.Legal.{IsLegal, Follows}
use Rattle.news_types.specs.Frames.{Frame, Writer, numbered, framed, format, frame_at}
use Rattle.news_types.specs.Calls.{Call, Requested, Answer, Replied, place_of, entry_at}
use Rattle.news_types.proofs.Members.{same_is, same_self, some_is, none_some, each_map, each_get, mapped, numbered_within, numbered_none}
use Rattle.world_laws.specs.World.{World, Given, happens}
use Rattle.world_laws.specs.FeedOrder.{ComesBefore}
use Rattle.world_laws.specs.Headline.{Shows, ShowInOrder, reply_at, IsReplyTo, IsReply, IsReplied, AnswersInOrder, NumbersRise, RepeatsAgree, DoneOnce, Headline, HeadlineHolds}
use Rattle.world_laws.proofs.Frames.{are_within, are_at}
use Rattle.world_laws.proofs.Order.{feeds_in_order, feed_differs}
use Rattle.world_laws.proofs.Behind.{corrections_follow}
use Rattle.world_laws.proofs.Answers.{entry_cases}
use Rattle.world_laws.proofs.Steps.{Stands}
use Rattle.world_laws.proofs.Events.{all_stands}
use Rattle.world_laws.proofs.Asked.{InTurn, all_in_turn}
use Rattle.world_laws.proofs.Ticks.{TicksStand, all_ticks_stand}

-- ---- a caller's numbers

last_step : (h : History) (act : Act) (m : ℕ) (name : Bytes) → Follows h act m → last_number h name ≤ number_of (last_after act name (last h name))
last_step h (Request caller number command) m name follows =
    elim (same caller name) as (λ b. same caller name ≡ b → last_number h name ≤ number_of (cond b (Some (record { number = number; command = command })) (last h name))) [
      | true ↦ λ alike.
          let one : last_number h caller ≡ last_number h name = ap (last_number h) (same_is caller name alike) in
          omega (arith, follows.0, one)
      | false ↦ λ other. omega arith
    ] refl
last_step h _ m name follows = omega arith

-- the last number behind a request is its own
last_new : (e : Entry) (h : History) (m : ℕ) (caller : Bytes) (a : ℕ) (c : Command) → e ≡ record { moment = m; act = Request caller a c } → last_number (e ∷ h) caller ≡ a
last_new e h m caller a c is =
    let self = same_self caller in
    ap (λ (x : Entry). last_number (x ∷ h) caller) is ∙ rw self refl

number_few : (h : History) (i m : ℕ) (caller : Bytes) (a : ℕ) (c : Command) → IsLegal h → entry_at h i ≡ Some (record { moment = m; act = Request caller a c }) → a ≤ last_number h caller
number_few [] i m caller a c legal is = absurd (none_some _ is)
number_few (e ∷ h) i m caller a c legal is =
    elim (entry_cases e h i _ is) [
      | inl older ↦ omega (arith, number_few h i m caller a c legal.0 older.1, last_step h e.act e.moment caller legal.2)
      | inr new ↦ omega (arith, last_new e h m caller a c new.1)
    ]

turn : (h : History) (caller : Bytes) (number : ℕ) (command : Command) (m : ℕ) → Follows h (Request caller number command) m → number ≡ last_number h caller + 1
turn h caller number command m follows = follows.0

numbers_rise : (h : History) → IsLegal h → NumbersRise h
numbers_rise [] legal i j m n caller a b c d lt one two = absurd (none_some _ one)
numbers_rise (e ∷ h) legal i j m n caller a b c d lt one two =
    elim (entry_cases e h j _ two) [
      | inl older ↦
          elim (entry_cases e h i _ one) [
            | inl both ↦ numbers_rise h legal.0 i j m n caller a b c d lt both.1 older.1
            | inr new ↦ absurd (omega (arith, lt, older.0, new.0))
          ]
      | inr new ↦
          elim (entry_cases e h i _ one) [
            | inl earlier ↦
                let follows = subst (λ (x : Entry). Follows h x.act x.moment) new.1 legal.2 in
                omega (arith, number_few h i m caller a c legal.0 earlier.1, turn h caller b d n follows)
            | inr both ↦ absurd (omega (arith, lt, both.0, new.0))
          ]
    ]

-- ---- replies

-- a caller's number has one reply
same_place : (h : History) (caller : Bytes) (number : ℕ) (c d : Command) (r s : Reply) → NumbersRise h → IsReplyTo h caller number c r → IsReplyTo h caller number d s → r.entry ≡ s.entry
same_place h caller number c d r s rise one two =
    elim (cases_lt r.entry s.entry) [
      | inl lt ↦ absurd (omega (arith, rise r.entry s.entry one.0 two.0 caller number number c d lt one.1 two.1))
      | inr from ↦ elim (cases_lt s.entry r.entry) [
        | inl lt ↦ absurd (omega (arith, rise s.entry r.entry two.0 one.0 caller number number d c lt two.1 one.1))
        | inr to ↦ omega (arith, from, to)
      ]
    ]

same_reply : (h : History) (caller : Bytes) (number : ℕ) (c d : Command) (r s : Reply) → NumbersRise h → IsReplyTo h caller number c r → IsReplyTo h caller number d s → r ≡ s
same_reply h caller number c d r s rise one two = one.2 ∙ ap (reply_at h) (same_place h caller number c d r s rise one two) ∙ sym two.2

abbrev AreReplied : History → List Given → Type 0
AreReplied h out = Each (λ g. IsReplied h g.answer g.call) out

replied_of : (h : History) (out : List Given) (i : ℕ) (g : Given) (caller : Bytes) (number : ℕ) (command : Command) (answered : Answered) → AreReplied h out → slice_get out i ≡ Some g → g.call ≡ Requested caller number command → g.answer ≡ Replied answered → IsReply h caller number command answered
replied_of h out i g caller number command answered all is call answer =
    subst (λ (a : Answer). IsReplied h a (Requested caller number command)) answer
    (subst (λ (c : Call). IsReplied h g.answer c) call (each_get (λ (x : Given). IsReplied h x.answer x.call) out i g all is))

repeats_agree : (h : History) (out : List Given) → NumbersRise h → AreReplied h out → RepeatsAgree out
repeats_agree h out rise all i j again first caller number r s one two repeated done =
    let a = replied_of h out i again caller number repeated.0.0 (Repeat r) all one repeated.0.1 repeated.1 in
    let b = replied_of h out j first caller number done.0.0 (Done s) all two done.0.1 done.1 in
    same_reply h caller number repeated.0.0 done.0.0 r s rise a b

-- a later answer with an entry has a later one
order_at : (out : List Given) (i j : ℕ) (one two : Given) → AnswersInOrder out → i < j → slice_get out i ≡ Some one → slice_get out j ≡ Some two → 0 < place_of one.answer → place_of two.answer < place_of one.answer
order_at [] i j one two order lt first second more = absurd (none_some one first)
order_at (g ∷ out) i zero one two order lt first second more = absurd (omega (arith, lt))
order_at (g ∷ out) zero (suc j) one two order lt first second more =
    let same : g ≡ one = some_is g one first in
    subst (λ (x : Given). place_of two.answer < place_of x.answer) same
    (each_get (λ (o : Given). place_of o.answer < place_of g.answer) out j two (order.0 (subst (λ (x : Given). 0 < place_of x.answer) (sym same) more)) second)
order_at (g ∷ out) (suc i) (suc j) one two order lt first second more = order_at out i j one two order.1 (omega (arith, lt)) first second more

entry_not_zero : (h : History) (i : ℕ) (x : Entry) → entry_at h i ≡ Some x → 0 < i
entry_not_zero [] i x is = absurd (none_some x is)
entry_not_zero (e ∷ h) i x is = elim (entry_cases e h i x is) [ inl old ↦ entry_not_zero h i x old.1 | inr new ↦ omega (arith, new.0) ]

done_once : (h : History) (out : List Given) → NumbersRise h → AreReplied h out → AnswersInOrder out → DoneOnce out
done_once h out rise all order i j one two caller number r s first second done again =
    elim (cases_lt i j) [
      | inl lt ↦ absurd (omega (arith, at, place_one, place_two, order_at out i j one two order lt first second (omega (arith, place_one, some_one))))
      | inr from ↦ elim (cases_lt j i) [
        | inl lt ↦ absurd (omega (arith, at, place_one, place_two, order_at out j i two one order lt second first (omega (arith, place_two, some_two))))
        | inr to ↦ omega (arith, from, to)
      ]
    ]
  where
    a : IsReplyTo h caller number done.0.0 r
    a = replied_of h out i one caller number done.0.0 (Done r) all first done.0.1 done.1

    b : IsReplyTo h caller number again.0.0 s
    b = replied_of h out j two caller number again.0.0 (Done s) all second again.0.1 again.1

    at : r.entry ≡ s.entry
    at = same_place h caller number done.0.0 again.0.0 r s rise a b

    place_one : place_of one.answer ≡ r.entry
    place_one = ap place_of done.1

    place_two : place_of two.answer ≡ s.entry
    place_two = ap place_of again.1

    some_one : 0 < r.entry
    some_one = entry_not_zero h r.entry _ a.1

    some_two : 0 < s.entry
    some_two = entry_not_zero h s.entry _ b.1

-- ---- what a receiver holds

held_at : (write : Writer) (w : World) → Stands write w → (s : Bytes) (k : ℕ) → 0 < k → k ≤ length (w.receivers s).held → numbered (w.receivers s).held k ≡ frame_at write w.server.list s k
held_at write w stands s zero lt le = absurd (omega (arith, lt))
held_at write w stands s (suc i) lt le = are_at write w.server.list s 1 (suc i) i (w.receivers s).held (omega arith) (omega (arith, le)) (stands.receivers s).frames

shows : (write : Writer) (h : History) (s : Bytes) (k : ℕ) (f : Frame) → frame_at write h s k ≡ Some f → Shows write h s k f
shows write h s k f is =
    let found = mapped (framed write (format h s) s k) (numbered (feed h s) k) f is in
    record { shown = found.0; in_feed = found.1; written = sym found.2; released = out k found.0 found.1 }
  where
    out : (k : ℕ) (p : Dispatch) → numbered (feed h s) k ≡ Some p → p.release ≤ moment h
    out zero p is = absurd (numbered_none 0 p is)
    out (suc i) p is = (each_get (λ (d : Dispatch). (d.shown.release ≤ d.release) × (d.release ≤ moment h)) (feed h s) i p (feeds_in_order h s).1 is).1

number_there : {A : Type 0} (xs : List A) (k : ℕ) (x : A) → numbered xs k ≡ Some x → 0 < k
number_there xs zero x is = absurd (none_some x is)
number_there xs (suc i) x is = omega arith

shown_at : (write : Writer) (w : World) → Stands write w → (s : Bytes) (k : ℕ) (f : Frame) → numbered (w.receivers s).held k ≡ Some f → Shows write w.server.list s k f
shown_at write w stands s k f is =
    let held : List Frame = (w.receivers s).held in
    shows write w.server.list s k f (sym (held_at write w stands s k (number_there held k f is) (numbered_within held k f is)) ∙ is)

-- of two entries of a feed, counted from 1
numbered_before : (h : History) (s : Bytes) (k l : ℕ) (d e : Dispatch) → k < l → numbered (feed h s) k ≡ Some d → numbered (feed h s) l ≡ Some e → ComesBefore d e × (d.shown.number ≡ e.shown.number → ⊥)
numbered_before h s zero l d e lt one two = absurd (numbered_none 0 d one)
numbered_before h s (suc i) zero d e lt one two = absurd (omega (arith, lt))
numbered_before h s (suc i) (suc j) d e lt one two = ((feeds_in_order h s).0 i j d e (omega (arith, lt)) one two, feed_differs h s i j d e (omega (arith, lt)) one two)

-- and of the two frames that are held
held_in_order : (write : Writer) (w : World) → Stands write w → (s : Bytes) (k l : ℕ) (f g : Frame) → k < l → numbered (w.receivers s).held k ≡ Some f → numbered (w.receivers s).held l ≡ Some g → ShowInOrder write w.server.list s k l f g
held_in_order write w stands s k l f g lt one two =
    let earlier = shown_at write w stands s k f one in
    let later = shown_at write w stands s l g two in
    let before = numbered_before w.server.list s k l earlier.shown later.shown lt earlier.in_feed later.in_feed in
    record { earlier = earlier; later = later; order = before.0; differ = before.1 }

-- ---- the headline

headline : (write : Writer) (w : World) → Stands write w → InTurn w → TicksStand w → Headline write w
headline write w stands turn ticks =
    let h : History = w.server.list in
    let rise = numbers_rise h stands.legal in
    let replied = each_map _ (λ (g : Given). IsReplied h g.answer g.call) w.out (λ g fair. fair.sound.replied) stands.out in
    record {
      legal = stands.legal;
      doubt = stands.doubt;
      within = λ s. omega (arith, are_within write h s 0 (w.receivers s).held (omega arith) (stands.receivers s).frames);
      prefix = held_at write w stands;
      shown = shown_at write w stands;
      held = held_in_order write w stands;
      in_order = λ s. (feeds_in_order h s).0;
      released = λ s. (feeds_in_order h s).1;
      behind = corrections_follow h;
      frames = stands.frames;
      receipts = stands.receipts;
      jobs = each_map _ _ w.out (λ g fair. fair.sound.shown) stands.out;
      answers = each_map _ _ w.out (λ g fair. fair.is) stands.out;
      places = turn.places;
      asked = turn.asked.list;
      doubt_asked = turn.asked.doubt;
      ticks = ticks;
      entries = each_map _ _ w.out (λ g fair. fair.sound.kept) stands.out;
      replies = replied;
      order = stands.order;
      numbers = rise;
      once = done_once h w.out rise replied stands.order;
      repeats = repeats_agree h w.out rise replied;
    }

pub headline_holds : HeadlineHolds happens
headline_holds write events = headline write _ (all_stands write events) (all_in_turn write events) (all_ticks_stand write events)
