-- The outcome of an ingest, by what is asked of it in turn.
use Rattle.std.proofs.Common.{◌≡◌, ◌≤◌, ℕ, true, Option, Some, None, ◌∷◌, refl, sym, ap, ◌∙◌}
use Rattle.news_types.specs.declared.denial.Denial.{Denial}
use Rattle.news_types.specs.declared.entry.Act.TheVariants.{Ingest}
use Rattle.news_types.specs.declared.entry.Reply.{Reply}
use Rattle.news_types.specs.declared.story.Incoming.{Incoming}
use Rattle.news_types.specs.Names.{Bytes}
use Rattle.news_types.specs.History.{History, moment}
use Rattle.news_types.specs.Items as items
use Rattle.news_types.specs.Publications.{effect}
use Rattle.news_types.specs.Denial.{ingest_denial}
use Rattle.news_types.specs.Legal.{IsLegal, keeps_entry}
use Rattle.news_types.specs.Outcome.{Outcome, Answered, Done, refused, kept, kept_unless, ingested, ingest_at, entry_of, no_entry}
use Rattle.story_tables.specs.declared.ingest.Effect.{Effect}
use Rattle.story_tables.specs.declared.ingest.Effect.TheVariants.{New, NewAt, Replaces, Cancels, Settled}
use Rattle.story_tables.specs.Ingests.{effect_of}

module _ (h : History) (name : Bytes) (come : Incoming) (m : ℕ) where
  -- an ingest that is denied
  pub refuses : (why : Denial) → ingest_denial h name come m ≡ Some why → ingest_at h name come m ≡ refused why
  refuses why is = ap (λ (o : Option Denial). kept_unless o (ingested h name come m (effect h name come m))) is

  undenied : ingest_denial h name come m ≡ None → ingest_at h name come m ≡ ingested h name come m (effect h name come m)
  undenied none = ap (λ (o : Option Denial). kept_unless o (ingested h name come m (effect h name come m))) none

  abbrev unkept : Reply → Outcome Answered
  unkept reply = record { answer = Done reply; more = None }

  -- one that keeps no entry
  pub settles : (i : ℕ) (reply : Reply) → ingest_denial h name come m ≡ None → effect h name come m ≡ items.Settled i → reply ≡ no_entry i → ingest_at h name come m ≡ unkept reply
  settles i reply none does is = undenied none ∙ ap (ingested h name come m) does ∙ ap unkept (sym is)

  keeps_by : (e : Effect) → ((i : ℕ) → e ≡ Settled i → ⊥) → (keeps_entry (effect_of e) ≡ true) × (ingested h name come m (effect_of e) ≡ kept h m (Ingest name come))
  keeps_by New other = (refl, refl)
  keeps_by (NewAt place published) other = (refl, refl)
  keeps_by (Replaces i) other = (refl, refl)
  keeps_by (Cancels i) other = (refl, refl)
  keeps_by (Settled i) other = absurd (other i refl)

  module _ (e : Effect) (does : effect_of e ≡ effect h name come m) (other : (i : ℕ) → e ≡ Settled i → ⊥) (none : ingest_denial h name come m ≡ None) where
    -- one that is kept
    pub accepts : ingest_at h name come m ≡ kept h m (Ingest name come)
    accepts = undenied none ∙ ap (ingested h name come m) (sym does) ∙ (keeps_by e other).1

    pub next_legal : IsLegal h → moment h ≤ m → IsLegal (entry_of m (Ingest name come) ∷ h)
    next_legal legal later = (legal, later, (ap keeps_entry (sym does) ∙ (keeps_by e other).0, none))
