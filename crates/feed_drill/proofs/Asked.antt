-- The list that planned requests give.
use Rattle.std.proofs.Common.{◌≡◌, ◌⊎◌, inl, inr, ℕ, Bool, true, false, cond, List, [], ◌∷◌, drop, Option, Some, None, refl, sym, ap, ◌∙◌, subst}
use Rattle.std.specs.Prelude.{slice_get}
use Rattle.news_types.specs.declared.command.Command.{Command}
use Rattle.news_types.specs.declared.command.Command.TheVariants.{Resume}
use Rattle.news_types.specs.declared.denial.Denial.{Denial}
use Rattle.news_types.specs.declared.entry.Act.TheVariants.{Request}
use Rattle.news_types.specs.declared.entry.Entry.{Entry}
use Rattle.news_types.specs.declared.entry.Reply.{Reply}
use Rattle.news_types.specs.Names.{Bytes, same}
use Rattle.news_types.specs.History.{History, last, moment_at}
use Rattle.news_types.specs.Books.{Book, onto, followed_by}
use Rattle.news_types.specs.Calls as call
use Rattle.news_types.specs.Delivery.{acked, tries, tries_after_command}
use Rattle.news_types.specs.Denial.{command_denial, turn_denial, is_repeat}
use Rattle.news_types.specs.Outcome.{Answered, Outcome, Repeat, last_reply, entry_of, kept, kept_unless, request_at}
use Rattle.news_types.proofs.Members.{some_is, none_some}
use Rattle.news_io.specs.Keeper.{KeeperMeaning}
use Rattle.news_room.specs.Stands.{Stands}
use Rattle.news_room.specs.Steps.{Answers, entries}
use Rattle.news_room.specs.Beside.{Beside}
use Rattle.news_room.specs.declared.answers.Handled.{Handled}
use Rattle.news_room.specs.declared.room.Room.{Room}
use Rattle.drill_plan.specs.declared.planned.Planned.{Planned}
use Rattle.feed_drill.specs.Requests.{asked, given, with_list}

-- ---- one request

followed : (o : Option Entry) (h : History) → followed_by (entries o) h ≡ call.more o h
followed None h = refl
followed (Some e) h = refl

-- the room behind it
pub stands_asked : {K : Type 0} (keeper : KeeperMeaning K) (new : Room K) (b : Book) (p : Planned) (more : List Entry) → Stands keeper new (onto more b)
    → more ≡ entries (request_at b.list p.caller p.number p.command (moment_at b.list p.moment)).more → Stands keeper new (with_list (asked p b.list) b)
stands_asked keeper new b p more stands is =
    subst (λ (h : History). Stands keeper new (with_list h b))
    (ap (λ (l : List Entry). followed_by l b.list) is ∙ followed (request_at b.list p.caller p.number p.command (moment_at b.list p.moment)).more b.list) stands

-- all that should follow was kept
pub all_kept : (n : Beside) (more : List Entry) (o : Outcome Answered) (answered : Handled)
    → ((reply : Reply) × (answered ≡ Handled.Done reply)) ⊎ (((reply : Reply) × (answered ≡ Handled.Repeat reply)) ⊎ ((why : Denial) × (answered ≡ Handled.Denied why)))
    → Answers n more o answered → more ≡ entries o.more
all_kept n more o answered (inl done) step = let as' = subst (λ (a : Handled). Answers n more o a) done.1 step in as'.1.whole.is
all_kept n more o answered (inr (inl again)) step = let as' = subst (λ (a : Handled). Answers n more o a) again.1 step in as'.1.whole.is
all_kept n more o answered (inr (inr denied)) step = let as' = subst (λ (a : Handled). Answers n more o a) denied.1 step in as'.1.whole.is

-- ---- requests one after another

pub given_next : (h : History) (planned : List Planned) (p : Planned) → Some p ≡ slice_get planned 0 → given h planned ≡ given (asked p h) (drop 1 planned)
given_next h [] p is = absurd (none_some p (sym is))
given_next h (q ∷ planned) p is = ap (λ (x : Planned). given (asked x h) planned) (sym (some_is p q is))

pub given_end : (h : History) (planned : List Planned) → None ≡ slice_get planned 0 → given h planned ≡ h
given_end h [] is = refl
given_end h (q ∷ planned) is = absurd (none_some q is)

-- ---- they acknowledge nothing, and nothing is tried

pub record IsUntried (h : History) : Type 0 where
  pub acked_is : (s : Bytes) → acked h s ≡ 0
  pub tries_is : (s : Bytes) → tries h s ≡ 0

both_same : (b : Bool) (n : ℕ) → cond b n n ≡ n
both_same true n = refl
both_same false n = refl

none_tried : (s : Bytes) (command : Command) → tries_after_command s command 0 ≡ 0
none_tried s (Resume subscriber) = both_same (same subscriber s) 0
none_tried s _ = refl

-- a request adds itself, or nothing
adds : (h : History) (caller : Bytes) (number : ℕ) (command : Command) (m : ℕ)
    → ((request_at h caller number command m).more ≡ None) ⊎ ((request_at h caller number command m).more ≡ Some (entry_of m (Request caller number command)))
adds h caller number command m = by (turn_denial (last h caller) number command) (is_repeat (last h caller) number command) (command_denial h caller command m)
  where
    answered : Option Denial → Bool → Option Denial → Outcome Answered
    answered turn again why =
        kept_unless turn (cond again (record { answer = Repeat (last_reply h caller); more = None }) (kept_unless why (kept h m (Request caller number command))))

    by : (turn : Option Denial) (again : Bool) (why : Option Denial) → ((answered turn again why).more ≡ None) ⊎ ((answered turn again why).more ≡ Some (entry_of m (Request caller number command)))
    by (Some reason) again why = inl refl
    by None true why = inl refl
    by None false (Some reason) = inl refl
    by None false None = inr refl

untried_asked : (p : Planned) (h : History) → IsUntried h → IsUntried (asked p h)
untried_asked p h untried =
    let m : ℕ = moment_at h p.moment in
    elim (adds h p.caller p.number p.command m) [
      | inl none ↦ subst (λ (o : Option Entry). IsUntried (call.more o h)) (sym none) untried
      | inr some ↦ subst (λ (o : Option Entry). IsUntried (call.more o h)) (sym some)
          (record {
            acked_is = untried.acked_is;
            tries_is = λ s. ap (λ (n : ℕ). tries_after_command s p.command n) (untried.tries_is s) ∙ none_tried s p.command;
          })
    ]

pub untried_given : (planned : List Planned) (h : History) → IsUntried h → IsUntried (given h planned)
untried_given [] h untried = untried
untried_given (p ∷ planned) h untried = untried_given planned (asked p h) (untried_asked p h untried)

pub nothing_tried : IsUntried []
nothing_tried = record { acked_is = λ s. refl; tries_is = λ s. refl }
