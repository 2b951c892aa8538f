-- Frames, and the answers to questions for frames and publications.
use Rattle.std.proofs.Common.{◌≡◌, ℕ, zero, suc, ◌<◌, ◌≤◌, ◌&&◌, Bool, true, false, cond, Option, Some, None, List, length, refl, sym, ap, ◌∙◌, arith}
use Rattle.std.specs.Prelude.{nat_lt, nat_le, is_some, IfOk, Result, Ok, Err}
use Rattle.std.specs.Option.{option_map}
use Rattle.std.proofs.lemmas.Bool.Decides.{nat_tests}
use mathlib.Core.Bool.{true≢false}
use Rattle.news_types.specs.declared.query.Answer.{Answer}
use Rattle.news_types.specs.declared.query.Answer.TheVariants as told
use Rattle.news_types.specs.declared.query.Publication.{Publication}
use Rattle.news_types.specs.declared.query.Query.{Query}
use Rattle.news_types.specs.declared.query.Query.TheVariants as query
use Rattle.news_types.specs.declared.words.Format.{Format}
use Rattle.news_types.specs.declared.words.Thing.TheVariants as thing
use Rattle.news_types.specs.Names.{Bytes}
use Rattle.news_types.specs.History.{History}
use Rattle.news_types.specs.Products.{Subscriber, is_subscriber}
use Rattle.news_types.specs.Due.{Pub, shown}
use Rattle.news_types.specs.Feeds.{Dispatch, feed}
use Rattle.news_types.specs.Frames.{Writer, format_of, format, numbered, framed, frame_bytes, bytes_of, frame_bytes_at}
use Rattle.news_types.specs.Answers.{of_subscriber, frame_answer, publication_answer}
use Rattle.news_types.proofs.Members.{none_some, mapped}
use Rattle.story_tables.specs.Pages.{shown_in}
use Rattle.story_tables.proofs.Listed.{there_at}
use Rattle.newsroom.specs.Asking.{asks_frame, publication_told}

-- ---- an entry that is there

-- a subscriber has a format
pub no_format : (o : Option Subscriber) → format_of o ≡ None → is_some o ≡ true → ⊥
no_format None is there = true≢false (sym there)
no_format (Some s) is there = none_some s.format (sym is)

pub has_format : (o : Option Subscriber) (f : Format) → format_of o ≡ Some f → is_some o ≡ true
has_format None f is = absurd (none_some f is)
has_format (Some s) f is = refl

-- and its feed has the entry
pub no_entry : (l : List Dispatch) (k : ℕ) → 0 < k → k ≤ length l → None ≡ option_map shown_in (numbered l k) → ⊥
no_entry l zero above within is = absurd (omega (arith, above))
no_entry l (suc k) above within is =
    let at = there_at l k (omega (arith, within)) in
    none_some at.0.shown (is ∙ ap (option_map shown_in) at.1)

-- its frame
pub frame_told : (write : Writer) (h : History) (s : Bytes) (k : ℕ) (f : Format) (p : Publication) (bytes : Bytes) → format h s ≡ Some f → Some p ≡ option_map shown_in (numbered (feed h s) k)
    → ((d : Dispatch) → d.shown ≡ p → bytes ≡ frame_bytes (framed write (Some f) s k d)) → bytes ≡ frame_bytes_at write h s k
frame_told write h s k f p bytes formatted entry written =
    let found = mapped shown_in (numbered (feed h s) k) p (sym entry) in
    written found.0 found.2 ∙ sym (λ j. bytes_of (option_map (framed write (formatted j) s k) (found.1 j)))

-- ---- answers

pub frame_unknown : (h : History) (s : Bytes) (answer : Answer) → is_subscriber h s ≡ false → told.Unknown thing.Subscriber ≡ of_subscriber h s answer
frame_unknown h s answer absent = ap (λ (b : Bool). cond b answer (told.Unknown thing.Subscriber)) (sym absent)

-- an entry lies from 1 to the length
pub entry_within : (k n : ℕ) → (nat_lt 0 k && nat_le k n) ≡ true → (0 < k) × (k ≤ n)
entry_within k n is = (grind (arith, nat_tests), grind (arith, nat_tests))

module _ (frame : Bytes → ℕ → Bytes) (h : History) (s : Bytes) (k n : ℕ) (there : is_subscriber h s ≡ true) (long : n ≡ length (feed h s)) where
  asked : (b : Bool) → (nat_lt 0 k && nat_le k n) ≡ b → cond b (told.Frame (frame s k)) (told.NoFrame (length (feed h s))) ≡ of_subscriber h s (frame_answer frame h s k)
  asked b is =
      ap (λ (a : Bool). cond a (told.Frame (frame s k)) (told.NoFrame (length (feed h s)))) (sym is ∙ ap (λ (m : ℕ). nat_lt 0 k && nat_le k m) long)
      ∙ ap (λ (a : Bool). cond a (frame_answer frame h s k) (told.Unknown thing.Subscriber)) (sym there)

  pub frame_there : (bytes : Bytes) → (nat_lt 0 k && nat_le k n) ≡ true → bytes ≡ frame s k → told.Frame bytes ≡ of_subscriber h s (frame_answer frame h s k)
  frame_there bytes is written = ap told.Frame written ∙ asked true is

  pub frame_beyond : (nat_lt 0 k && nat_le k n) ≡ false → told.NoFrame n ≡ of_subscriber h s (frame_answer frame h s k)
  frame_beyond is = ap told.NoFrame long ∙ asked false is

pub told_publication : (ps : List Pub) (o : Option Pub) (n : ℕ) (kept : Option Publication) → n ≡ length ps → kept ≡ option_map shown o → publication_told n kept ≡ publication_answer ps o
told_publication ps None n kept counted is = ap (publication_told n) is ∙ ap told.NoPublication counted
told_publication ps (Some p) n kept counted is = ap (publication_told n) is

-- ---- questions

pub plain_but_frame : (q : Query) → ((s : Bytes) (k : ℕ) → q ≡ query.Frame s k → ⊥) → asks_frame q ≡ false
plain_but_frame (query.Feed s after) other = refl
plain_but_frame (query.Frame s k) other = absurd (other s k refl)
plain_but_frame (query.Item i) other = refl
plain_but_frame (query.May user privilege) other = refl
plain_but_frame query.Queue other = refl
plain_but_frame query.Check other = refl
plain_but_frame (query.Publication n) other = refl
plain_but_frame (query.LastOf i below) other = refl

-- what holds of each answer holds of this one
pub ok_weaker : {A E : Type 0} (r : Result A E) (P Q : A → Type 0) → ((x : A) → P x → Q x) → IfOk r P → IfOk r Q
ok_weaker (Ok x) P Q more is = more x is
ok_weaker (Err e) P Q more is = tt
