-- What is said of an answer stays true as the list grows.
use Rattle.std.proofs.Common.{◌≡◌, ◌==◌, ℕ, suc, ◌+◌, ◌<◌, ◌≤◌, ◌⊎◌, inl, inr, Bool, true, false, ◌&&◌, cond, Option, Some, None, [], ◌∷◌, length, refl, sym, ◌∙◌, subst, arith}
use Rattle.std.specs.Prelude.{nat_le, nat_lt}
use mathlib.Core.Bool.{true≢false}
use Rattle.std.proofs.lemmas.Bool.Decides.{nat_tests, Decides-eqb}
use Rattle.news_types.specs.declared.entry.Entry.{Entry}
use Rattle.news_types.specs.declared.entry.Reply.{Reply}
use Rattle.news_types.specs.declared.entry.Act.{Act}
use Rattle.news_types.specs.declared.entry.Act.TheVariants.{Request}
use Rattle.news_types.specs.declared.command.Command.{Command}
use Rattle.news_types.specs.declared.query.Query.TheVariants as asked
use Rattle.news_types.specs.declared.query.Answer.TheVariants as told
use Rattle.news_types.specs.Names.{Bytes, same}
use Rattle.news_types.specs.History.{History, Asked as LastAsked, last}
use Rattle.news_types.specs.Denial.{same_command, is_repeat}
use Rattle.news_types.specs.Outcome.{Done, Repeat, reply_to, last_reply, with_issue}
use Rattle.news_types.specs.Publications.{Issue}
use Rattle.news_types.specs.Legal.{IsLegal}
use Rattle.news_types.specs.Frames.{Writer}
use Rattle.news_types.specs.Calls.{Call, Requested, Asked, Answer, Replied, Job, Tells, place_of, front, entry_at}
use Rattle.news_types.proofs.Equality.{command_is}
use Rattle.news_types.proofs.Members.{same_is, some_is, none_some}
use Rattle.world_laws.specs.World.{Given}
use Rattle.world_laws.specs.Headline.{Says, IsAnswer, reply_at, IsReplyTo, IsReply, IsReplied, IsShown}
use Rattle.world_laws.proofs.Frames.{frame_stays}

-- what is said of an answer beside that it is the list's
pub record Sound (write : Writer) (h : History) (call : Call) (a : Answer) : Type 0 where
  pub few : place_of a ≤ length h
  pub kept : 0 < place_of a → (e : Entry) × (entry_at h (place_of a) ≡ Some e) × Says call a e.act
  pub replied : IsReplied h a call
  pub shown : IsShown write h a call

pub record Fair (write : Writer) (h : History) (g : Given) : Type 0 where
  pub is : IsAnswer write h g
  pub sound : Sound write h g.call g.answer

-- ---- one entry more

pub front_more : (e : Entry) (h : History) (n : ℕ) → n ≤ length h → front (e ∷ h) n ≡ front h n
front_more e h n le = let b : nat_le n (length h) ≡ true = grind (arith, nat_tests) in rw b refl

pub front_all : (h : History) → front h (length h) ≡ h
front_all [] = refl
front_all (e ∷ h) = let b : nat_le (suc (length h)) (length h) ≡ false = grind (arith, nat_tests) in rw b refl

pub entry_more : (e : Entry) (h : History) (n : ℕ) → n ≤ length h → entry_at (e ∷ h) n ≡ entry_at h n
entry_more e h n le = let b : nat_le n (length h) ≡ true = grind (arith, nat_tests) in rw b refl

pub entry_new : (e : Entry) (h : History) (n : ℕ) → n ≡ length h + 1 → entry_at (e ∷ h) n ≡ Some e
entry_new e h n is =
    let a : nat_le n (length h) ≡ false = grind (arith, nat_tests, is) in
    let b : nat_le n (suc (length h)) ≡ true = grind (arith, nat_tests, is) in
    rw (a, b) refl

-- an entry that is there is new, or an older one
pub entry_cases : (e : Entry) (h : History) (i : ℕ) (x : Entry) → entry_at (e ∷ h) i ≡ Some x → ((i ≤ length h) × (entry_at h i ≡ Some x)) ⊎ ((i ≡ length h + 1) × (e ≡ x))
entry_cases e h i x is =
    elim (nat_le i (length h)) as (λ b. nat_le i (length h) ≡ b → cond b (entry_at h i) (cond (nat_le i (suc (length h))) (Some e) None) ≡ Some x → ((i ≤ length h) × (entry_at h i ≡ Some x)) ⊎ ((i ≡ length h + 1) × (e ≡ x))) [
      | true ↦ λ low there. inl (grind (arith, nat_tests), there)
      | false ↦ λ high.
          elim (nat_le i (suc (length h))) as (λ b. nat_le i (suc (length h)) ≡ b → cond b (Some e) None ≡ Some x → ((i ≤ length h) × (entry_at h i ≡ Some x)) ⊎ ((i ≡ length h + 1) × (e ≡ x))) [
            | true ↦ λ next there. inr (grind (arith, nat_tests), some_is e x there)
            | false ↦ λ past none. absurd (none_some x none)
          ] refl
    ] refl is

pub entry_within : (h : History) (n : ℕ) (x : Entry) → entry_at h n ≡ Some x → n ≤ length h
entry_within [] n x is = absurd (none_some x is)
entry_within (e ∷ h) n x is = elim (entry_cases e h n x is) [ inl old ↦ omega (arith, old.0) | inr new ↦ omega (arith, new.0) ]

reply_more : (e : Entry) (h : History) (n : ℕ) → n ≤ length h → reply_at (e ∷ h) n ≡ reply_at h n
reply_more e h n le = let b : nat_le n (length h) ≡ true = grind (arith, nat_tests) in rw b refl

reply_new : (e : Entry) (h : History) (n : ℕ) → n ≡ length h + 1 → reply_at (e ∷ h) n ≡ reply_to h e.moment e.act
reply_new e h n is = let b : nat_le n (length h) ≡ false = grind (arith, nat_tests, is) in rw b refl

pub reply_entry : (h : History) (m : ℕ) (act : Act) → (reply_to h m act).entry ≡ length h + 1
reply_entry h m act = of_issue _ _
  where
    of_issue : (o : Option Issue) (i : ℕ) → (with_issue o h i).entry ≡ length h + 1
    of_issue None i = refl
    of_issue (Some issue) i = refl

reply_to_more : (e : Entry) (h : History) (caller : Bytes) (number : ℕ) (command : Command) (reply : Reply) → IsReplyTo h caller number command reply → IsReplyTo (e ∷ h) caller number command reply
reply_to_more e h caller number command reply is =
    let low = entry_within h reply.entry _ is.1 in
    (is.0, entry_more e h reply.entry low ∙ is.1, is.2 ∙ sym (reply_more e h reply.entry low))

-- the reply of the newest entry
pub reply_to_new : (h : History) (m : ℕ) (caller : Bytes) (number : ℕ) (command : Command) → IsReplyTo (record { moment = m; act = Request caller number command } ∷ h) caller number command (reply_to h m (Request caller number command))
reply_to_new h m caller number command =
    let e : Entry = record { moment = m; act = Request caller number command } in
    let is = reply_entry h m (Request caller number command) in
    (m, entry_new e h _ is, sym (reply_new e h _ is))

replied_more : (e : Entry) (h : History) (a : Answer) (call : Call) → IsReplied h a call → IsReplied (e ∷ h) a call
replied_more e h (Replied (Done reply)) (Requested caller number command) is = reply_to_more e h caller number command reply is
replied_more e h (Replied (Repeat reply)) (Requested caller number command) is = reply_to_more e h caller number command reply is
replied_more e h _ _ is = is

pub shown_more : (write : Writer) (e : Entry) (h : History) (a : Answer) (call : Call) → IsLegal (e ∷ h) → IsShown write h a call → IsShown write (e ∷ h) a call
shown_more write e h (Job s k frame n) call legal is = (is.0, is.1, frame_stays write e h s k is.0 legal is.2)
shown_more write e h (Tells (told.Frame bytes)) (Asked (asked.Frame s k)) legal is = (is.0, is.1, frame_stays write e h s k is.0 legal is.2)
shown_more write e h _ _ legal is = is

pub sound_more : (write : Writer) (e : Entry) (h : History) (call : Call) (a : Answer) → IsLegal (e ∷ h) → Sound write h call a → Sound write (e ∷ h) call a
sound_more write e h call a legal sound = record {
  few = omega (arith, sound.few);
  kept = λ more. let old = sound.kept more in (old.0, entry_more e h (place_of a) sound.few ∙ old.1, old.2);
  replied = replied_more e h a call sound.replied;
  shown = shown_more write e h a call legal sound.shown;
}

pub fair_more : (write : Writer) (e : Entry) (h : History) (g : Given) → IsLegal (e ∷ h) → Fair write h g → Fair write (e ∷ h) g
fair_more write e h g legal fair = record {
  is = (omega (arith, fair.is.0), rw (front_more e h g.at fair.is.0) fair.is.1);
  sound = sound_more write e h g.call g.answer legal fair.sound;
}

-- ---- the reply of a caller's newest request

abbrev LastStands : History → Bytes → Type 0
LastStands h caller = (before : LastAsked) → last h caller ≡ Some before → IsReplyTo h caller before.number before.command (last_reply h caller)

older : (m : ℕ) (act : Act) (h : History) (caller : Bytes) → LastStands h caller → (before : LastAsked) → last h caller ≡ Some before → IsReplyTo (record { moment = m; act = act } ∷ h) caller before.number before.command (last_reply h caller)
older m act h caller stands before is = reply_to_more _ h caller before.number before.command (last_reply h caller) (stands before is)

newest : (m : ℕ) (act : Act) (h : History) (caller : Bytes) → LastStands h caller → LastStands (record { moment = m; act = act } ∷ h) caller
newest m (Request by number command) h caller stands before is =
    elim (same by caller) as (λ b. same by caller ≡ b → cond b (Some (record { number = number; command = command })) (last h caller) ≡ Some before
    → IsReplyTo (record { moment = m; act = Request by number command } ∷ h) caller before.number before.command (cond b (reply_to h m (Request by number command)) (last_reply h caller))) [
      | true ↦ λ alike there.
          let new = reply_to_new h m by number command in
          let mine = subst (λ (c : Bytes). IsReplyTo (record { moment = m; act = Request by number command } ∷ h) c number command (reply_to h m (Request by number command))) (same_is by caller alike) new in
          subst (λ (x : LastAsked). IsReplyTo (record { moment = m; act = Request by number command } ∷ h) caller x.number x.command (reply_to h m (Request by number command))) (some_is _ before there) mine
      | false ↦ λ other there. older m (Request by number command) h caller stands before there
    ] refl is
newest m _ h caller stands before is = older m _ h caller stands before is

pub last_stands : (h : History) (caller : Bytes) → LastStands h caller
last_stands [] caller before is = absurd (none_some before is)
last_stands (e ∷ h) caller before is = newest e.moment e.act h caller (last_stands h caller) before is

all_three : (a b c : Bool) → (a && b && c) ≡ true → (b ≡ true) × (c ≡ true)
all_three true true true e = (refl, refl)
all_three true true false e = absurd (true≢false (sym e))
all_three true false c e = absurd (true≢false (sym e))
all_three false b c e = absurd (true≢false (sym e))

-- what is a repeat has the reply of the entry that stands
pub repeat_stands : (h : History) (caller : Bytes) (number : ℕ) (command : Command) → is_repeat (last h caller) number command ≡ true → IsReply h caller number command (Repeat (last_reply h caller))
repeat_stands h caller number command again = by (last h caller) refl again
  where
    by : (o : Option LastAsked) → last h caller ≡ o → is_repeat o number command ≡ true → IsReply h caller number command (Repeat (last_reply h caller))
    by None is again = absurd (true≢false (sym (all_three (nat_lt 0 number) (number == 0) false again).1))
    by (Some before) is again =
        let two = all_three (nat_lt 0 number) (number == before.number) (same_command before.command command) again in
        let alike : number ≡ before.number = (Decides-eqb number before.number).0 two.0 in
        subst (λ (c : Command). IsReplyTo h caller number c (last_reply h caller)) (command_is before.command command two.1)
        (subst (λ (n : ℕ). IsReplyTo h caller n before.command (last_reply h caller)) (sym alike) (last_stands h caller before is))
