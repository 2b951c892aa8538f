-- Which requests an entry that may follow a list is.
use Rattle.std.proofs.Common.{◌≡◌, ◌⊎◌, inl, inr, ℕ, ◌+◌, ◌&&◌, ◌∷◌, Bool, true, false, Option, Some, None, refl, sym, ap, ◌∙◌, subst, arith}
use Rattle.std.specs.Prelude.{IsTrue}
use mathlib.Core.Bool.{false≢true}
use Rattle.std.proofs.lemmas.Bool.{ne_eqb}
use Rattle.news_types.specs.declared.entry.Entry.{Entry}
use Rattle.news_types.specs.declared.entry.Act.{Act}
use Rattle.news_types.specs.declared.entry.Act.TheVariants.{Request, Ingest}
use Rattle.news_types.specs.Legal.{IsLegal}
use Rattle.newsroom.specs.Changes.{IsFor, IsForAct}
use Rattle.newsroom.specs.declared.change.Change.{Change}
use Rattle.newsroom.specs.declared.change.Change.TheVariants as change
use Rattle.news_types.specs.declared.entry.Reply.{Reply}
use Rattle.news_types.specs.declared.command.Command.{Command}
use Rattle.news_types.specs.declared.denial.Denial.{Denial}
use Rattle.news_types.specs.Names.{Bytes}
use Rattle.news_types.specs.declared.story.Incoming.{Incoming}
use Rattle.news_types.specs.Items.{Effect, New, NewAt, Replaces, Cancels, Settled}
use Rattle.news_types.specs.Publications.{effect}
use Rattle.news_types.specs.History.{History, Asked, last, number_of}
use Rattle.news_types.specs.Denial.{turn_denial, is_repeat, command_denial}
use Rattle.news_types.specs.Legal.{Follows, keeps_entry}
use Rattle.news_types.specs.Outcome.{Outcome, Done, Repeat, Denied, entry_of, kept, kept_unless, ingested, request_at}
use Rattle.news_types.specs.Outcome as outcome
use Rattle.news_types.proofs.Legal.{first_no, second_no}
use Rattle.newsroom.specs.Changes.{Prepares}
use Rattle.newsroom.specs.declared.change.Prepared.{Prepared}
use Rattle.newsroom.specs.declared.change.Prepared.TheVariants as prepared
use Rattle.newsroom.proofs.Deciding.{accepted}
use Rattle.news_room.specs.Steps.{by_act}
use Rattle.news_room.proofs.Decisions.{decides}

never_both : (a b c : Bool) → b ≡ false → (a && b && c) ≡ false
never_both true true c is = absurd cc
never_both true false c is = refl
never_both false b c is = refl

one_on : (number before : ℕ) → number ≡ before + 1 → number ≡ before → ⊥
one_on number before next same = omega (arith, next, same)

-- the request with the next number is not the last one once more
new_number : (before : Option Asked) (number : ℕ) (command : Command) → number ≡ number_of before + 1 → is_repeat before number command ≡ false
new_number before number command next = never_both _ _ _ (ne_eqb number (number_of before) (one_on number (number_of before) next))

-- an ingest that keeps its entry is done
kept_by_effect : (h : History) (name : Bytes) (come : Incoming) (m : ℕ) (how : Effect) → IsTrue (keeps_entry how) → ingested h name come m how ≡ kept h m (Ingest name come)
kept_by_effect h name come m New keeps = refl
kept_by_effect h name come m (NewAt place published) keeps = refl
kept_by_effect h name come m (Replaces i) keeps = refl
kept_by_effect h name come m (Cancels i) keeps = refl
kept_by_effect h name come m (Settled i) keeps = absurd (false≢true keeps)

-- an act that may follow a list is done
pub follows_done : (h : History) (m : ℕ) (act : Act) → Follows h act m → by_act h m act ≡ kept h m act
follows_done h m (Request caller number command) follows =
    accepted h caller number command m (first_no (turn_denial (last h caller) number command) (command_denial h caller command m) follows.1)
    (new_number (last h caller) number command follows.0) (second_no (turn_denial (last h caller) number command) (command_denial h caller command m) follows.1)
follows_done h m (Ingest name come) follows =
    ap (λ (why : Option Denial). kept_unless why (ingested h name come m (effect h name come m))) follows.1 ∙ kept_by_effect h name come m (effect h name come m) follows.0
follows_done h m _ follows = refl

some_none : (e : Entry) → None ≡ Some e → ⊥
some_none e is = cc

-- an act that is answered without an entry may not follow
pub may_not_follow : (h : History) (m : ℕ) (act : Act) (a : outcome.Answered) → by_act h m act ≡ record { answer = a; more = None } → Follows h act m → ⊥
may_not_follow h m act a is follows = some_none _ (ap (λ (o : Outcome outcome.Answered). o.more) (sym is ∙ follows_done h m act follows))

-- an act for which no change is prepared, for want of no memory, may not follow
pub refused_may_not : (h : History) (m : ℕ) (act : Act) (p : Prepared) → Prepares h m act p
    → ((reply : Reply) × (p ≡ prepared.Settled reply)) ⊎ ((reply : Reply) × (p ≡ prepared.Repeat reply)) ⊎ ((why : Denial) × (p ≡ prepared.Denied why)) → Follows h act m → ⊥
refused_may_not h m act p is (inl settled) follows = may_not_follow h m act (Done settled.0) (decides h m act (prepared.Settled settled.0) (subst (Prepares h m act) settled.1 is)) follows
refused_may_not h m act p is (inr (inl repeat)) follows = may_not_follow h m act (Repeat repeat.0) (decides h m act (prepared.Repeat repeat.0) (subst (Prepares h m act) repeat.1 is)) follows
refused_may_not h m act p is (inr (inr denied)) follows = may_not_follow h m act (Denied denied.0) (decides h m act (prepared.Denied denied.0) (subst (Prepares h m act) denied.1 is)) follows

-- what a change is for may follow
legal_by : (c : Change) (m : ℕ) (act : Act) (h : History) → IsForAct c m act h → IsLegal (entry_of m act ∷ h)
legal_by (change.Request c) m (Request caller number command) h is = is.legal
legal_by (change.Ingest c) m (Ingest name come) h is = is.legal
legal_by _ m _ h is = absurd is

pub legal_for : (c : Change) (e : Entry) (h : History) → IsFor c e h → IsLegal (e ∷ h)
legal_for c e h is = legal_by c e.moment e.act h is.act
