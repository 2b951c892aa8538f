-- Of an item that is out a first publication stands.
use Rattle.std.proofs.Common.{◌≡◌, ◌==◌, ℕ, ◌+◌, ◌&&◌, Bool, true, false, cond, not, List, [], ◌∷◌, ◌++◌, length, refl, sym, ap, subst, ◌∙◌, Option, Some, None, is_some}
use Rattle.std.specs.Prelude.{◌≢◌}
use Rattle.std.specs.Option.{option_map}
use Rattle.std.proofs.lemmas.Bool.Decides.{Decides-eqb}
use mathlib.Core.Bool.{true≢false}
use Rattle.news_types.specs.declared.entry.Act.{Act}
use Rattle.news_types.specs.declared.entry.Act.TheVariants.{Request, Ingest}
use Rattle.news_types.specs.declared.command.Command.{Command}
use Rattle.news_types.specs.declared.command.Command.TheVariants.{Create, Flash, Publish, Kill, Recall, Deschedule}
use Rattle.news_types.specs.declared.words.State.{State}
use Rattle.news_types.specs.declared.words.State.TheVariants.{Draft, Ingested, Routed, Fetched, Submitted, InProgress, Spiked, Scheduled, Published, Corrected, Killed, Recalled}
use Rattle.news_types.specs.declared.words.Action.TheVariants as action
use Rattle.news_types.specs.declared.story.Incoming.{Incoming}
use Rattle.news_types.specs.Names.{Bytes}
use Rattle.news_types.specs.History.{History}
use Rattle.news_types.specs.States.{moved}
use Rattle.news_types.specs.Due.{Pub, is_first, is_first_of, standing_first, is_released, withdrawn, left_behind, taken_back}
use Rattle.news_types.specs.Items.{Item, Effect, New, NewAt, Replaces, Cancels, Settled, item_numbered, changed, changed_by, at_moment, state_at, state_after, made_by, named_item, with_made, replaced_by, items_by, items_by_command, items_by_effect, effect_by}
use Rattle.news_types.specs.Publications.{issued_by, issued_by_effect, pubs_of_issue, kept_by, made, item, standing}
use Rattle.news_types.specs.Legal.{IsLegal, Follows}
use Rattle.news_types.specs.Denial.{denial}
use Rattle.news_types.proofs.Members.{some_is, none_some}
use Rattle.news_types.proofs.Firsts.{numbered_hit, numbered_miss, numbered_new, numbered_old}
use Rattle.news_types.proofs.Legal.{descheduled}

abbrev pub is_out : State → Bool
is_out Published = true
is_out Corrected = true
is_out _ = false

-- ---- no command leads into such a state from another one

draft_in : (command : Command) → is_out (state_after command Draft) ≡ false
draft_in (Publish i session schedule embargo targets) = refl
draft_in _ = refl

ingested_in : (command : Command) → is_out (state_after command Ingested) ≡ false
ingested_in (Publish i session schedule embargo targets) = refl
ingested_in _ = refl

routed_in : (command : Command) → is_out (state_after command Routed) ≡ false
routed_in (Publish i session schedule embargo targets) = refl
routed_in _ = refl

fetched_in : (command : Command) → is_out (state_after command Fetched) ≡ false
fetched_in (Publish i session schedule embargo targets) = refl
fetched_in _ = refl

submitted_in : (command : Command) → is_out (state_after command Submitted) ≡ false
submitted_in (Publish i session schedule embargo targets) = refl
submitted_in _ = refl

in_progress_in : (command : Command) → is_out (state_after command InProgress) ≡ false
in_progress_in (Publish i session schedule embargo targets) = refl
in_progress_in _ = refl

spiked_in : (command : Command) → is_out (state_after command Spiked) ≡ false
spiked_in (Publish i session schedule embargo targets) = refl
spiked_in _ = refl

scheduled_in : (command : Command) → is_out (state_after command Scheduled) ≡ false
scheduled_in (Publish i session schedule embargo targets) = refl
scheduled_in _ = refl

killed_in : (command : Command) → is_out (state_after command Killed) ≡ false
killed_in (Publish i session schedule embargo targets) = refl
killed_in _ = refl

recalled_in : (command : Command) → is_out (state_after command Recalled) ≡ false
recalled_in (Publish i session schedule embargo targets) = refl
recalled_in _ = refl

out_before : (command : Command) (from : State) → is_out (state_after command from) ≡ true → is_out from ≡ true
out_before command Draft out = absurd (true≢false (sym out ∙ draft_in command))
out_before command Ingested out = absurd (true≢false (sym out ∙ ingested_in command))
out_before command Routed out = absurd (true≢false (sym out ∙ routed_in command))
out_before command Fetched out = absurd (true≢false (sym out ∙ fetched_in command))
out_before command Submitted out = absurd (true≢false (sym out ∙ submitted_in command))
out_before command InProgress out = absurd (true≢false (sym out ∙ in_progress_in command))
out_before command Spiked out = absurd (true≢false (sym out ∙ spiked_in command))
out_before command Scheduled out = absurd (true≢false (sym out ∙ scheduled_in command))
out_before command Killed out = absurd (true≢false (sym out ∙ killed_in command))
out_before command Recalled out = absurd (true≢false (sym out ∙ recalled_in command))
out_before command Published out = refl
out_before command Corrected out = refl

cancel_before : (from : State) → is_out (moved action.Cancel from) ≡ true → is_out from ≡ true
cancel_before Published out = refl
cancel_before Corrected out = refl
cancel_before _ out = out

-- where it is out at a moment, its first publication is released, or it was out
some_released : (m : ℕ) (first : Option Pub) → is_released m first ≡ true → is_some first ≡ true
some_released m None is = absurd (true≢false (sym is))
some_released m (Some p) is = refl

pub out_at : (m : ℕ) (first : Option Pub) (from : State) → is_out (state_at m first from) ≡ true → (is_out from ≡ true → is_some first ≡ true) → is_some first ≡ true
out_at m first Scheduled out backed = by (is_released m first) refl out
  where
    by : (b : Bool) → is_released m first ≡ b → is_out (cond b Published Scheduled) ≡ true → is_some first ≡ true
    by true is out = some_released m first is
    by false is out = absurd (true≢false (sym out))
out_at m first Published out backed = backed refl
out_at m first Corrected out backed = backed refl
out_at m first _ out backed = absurd (true≢false (sym out))

-- ---- first publications

first_more : (p : Pub) (j : ℕ) (ps : List Pub) → is_some (standing_first j ps) ≡ true → is_some (standing_first j (p ∷ ps)) ≡ true
first_more p j ps there = elim (is_first_of j p) as (λ b. is_some (cond b (Some p) (standing_first j ps)) ≡ true) [ true ↦ refl | false ↦ there ]

first_behind : (new ps : List Pub) (j : ℕ) → is_some (standing_first j ps) ≡ true → is_some (standing_first j (new ++ ps)) ≡ true
first_behind [] ps j there = there
first_behind (p ∷ new) ps j there = first_more p j (new ++ ps) (first_behind new ps j there)

first_left : (m i j : ℕ) (ps : List Pub) → is_some (standing_first j (taken_back m i ps)) ≡ is_some (standing_first j ps)
first_left m i j [] = refl
first_left m i j (p ∷ ps) = by (is_first_of j p) (first_left m i j ps)
  where
    by : (b : Bool) → is_some (standing_first j (taken_back m i ps)) ≡ is_some (standing_first j ps) → is_some (cond b (Some (left_behind m i p)) (standing_first j (taken_back m i ps))) ≡ is_some (cond b (Some p) (standing_first j ps))
    by true rest = refl
    by false rest = rest

is_second : (a b : Bool) → (a && b) ≡ true → b ≡ true
is_second true b both = both
is_second false b both = absurd (true≢false (sym both))

item_of : (k : ℕ) (p : Pub) → is_first_of k p ≡ true → p.item ≡ k
item_of k p first = (Decides-eqb p.item k).0 (is_second (is_first p.kind) (p.item == k) first)

-- one of another item stays
apart : (i j : ℕ) (p : Pub) → (i ≢ j) → is_first_of i p ≡ true → is_first_of j p ≡ false
apart i j p other is = by (is_first_of j p) refl
  where
    by : (b : Bool) → is_first_of j p ≡ b → b ≡ false
    by true first = absurd (other (sym (item_of i p is) ∙ item_of j p first))
    by false first = refl

first_apart : (i j : ℕ) (ps : List Pub) → (i ≢ j) → standing_first j (withdrawn i ps) ≡ standing_first j ps
first_apart i j [] other = refl
first_apart i j (p ∷ ps) other = by (is_first_of i p) refl (first_apart i j ps other)
  where
    by : (b : Bool) → is_first_of i p ≡ b → standing_first j (withdrawn i ps) ≡ standing_first j ps → standing_first j (cond (not b) (p ∷ withdrawn i ps) (withdrawn i ps)) ≡ standing_first j (p ∷ ps)
    by true is rest = rw (apart i j p other is) rest
    by false is rest = ap (λ (o : Option Pub). cond (is_first_of j p) (Some p) o) rest

-- ---- items

abbrev pub is_out_item : Option Item → Bool
is_out_item None = false
is_out_item (Some it) = is_out it.state

abbrev pub IsBacked : List Item → List Pub → Type 0
IsBacked items ps = (j : ℕ) → is_out_item (item_numbered items j) ≡ true → is_some (standing_first j ps) ≡ true

out_map : (f : Item → Item) (o : Option Item) (P : Type 0) → ((it : Item) → o ≡ Some it → is_out (f it).state ≡ true → P) → is_out_item (option_map f o) ≡ true → P
out_map f None P keeps out = absurd (true≢false (sym out))
out_map f (Some it) P keeps out = keeps it refl out

-- the item of that number is changed
changed_out : (i j : ℕ) (f : Item → Item) (items : List Item) (ps : List Pub) → ((it : Item) → item_numbered items i ≡ Some it → is_out (f it).state ≡ true → is_some (standing_first i ps) ≡ true)
    → IsBacked items ps → is_out_item (item_numbered (changed i f items) j) ≡ true → is_some (standing_first j ps) ≡ true
changed_out i j f items ps here backed out = by (i == j) refl
  where
    by : (b : Bool) → (i == j) ≡ b → is_some (standing_first j ps) ≡ true
    by true e =
        let alike : i ≡ j = (Decides-eqb i j).0 e in
        let at : is_out_item (option_map f (item_numbered items i)) ≡ true = ap is_out_item (sym (numbered_hit i f items) ∙ ap (λ k. item_numbered (changed i f items) k) alike) ∙ out in
        subst (λ k. is_some (standing_first k ps) ≡ true) alike (out_map f (item_numbered items i) (is_some (standing_first i ps) ≡ true) here at)
    by false e =
        let other : i ≢ j = λ alike. absurd (true≢false (sym ((Decides-eqb i j).1 alike) ∙ e)) in
        backed j (ap is_out_item (sym (numbered_miss i j f items other)) ∙ out)

-- one is made
pushed_out : (j : ℕ) (x : Item) (items : List Item) (ps : List Pub) → is_out x.state ≡ false → IsBacked items ps → is_out_item (item_numbered (items ++ x ∷ []) j) ≡ true → is_some (standing_first j ps) ≡ true
pushed_out j x items ps hidden backed out = by (length items + 1 == j) refl
  where
    by : (b : Bool) → (length items + 1 == j) ≡ b → is_some (standing_first j ps) ≡ true
    by true e =
        let alike : length items + 1 ≡ j = (Decides-eqb (length items + 1) j).0 e in
        absurd (true≢false (sym out ∙ ap (λ k. is_out_item (item_numbered (items ++ x ∷ []) k)) (sym alike) ∙ ap is_out_item (numbered_new x items) ∙ hidden))
    by false e =
        let other : length items + 1 ≢ j = λ alike. absurd (true≢false (sym ((Decides-eqb (length items + 1) j).1 alike) ∙ e)) in
        backed j (ap is_out_item (sym (numbered_old j x items other)) ∙ out)

made_in : (command : Command) (x : Item) → made_by command ≡ Some x → is_out x.state ≡ false
made_in (Create desk story) x is = ap (λ (it : Item). is_out it.state) (sym (some_is _ x is))
made_in (Flash story targets) x is = ap (λ (it : Item). is_out it.state) (sym (some_is _ x is))
made_in _ x is = absurd (none_some x is)

-- ---- one more entry

module _ (h : History) (m : ℕ) (backed : IsBacked ((made h).items) (standing h)) where
  abbrev change : Bytes → Command → ℕ → Item → Item
  change caller command i it = changed_by caller command (at_moment m (standing_first i (standing h)) it)

  -- who is out behind a command had a first publication before it
  command_out : (caller : Bytes) (command : Command) (j : ℕ) → is_out_item (item_numbered (items_by_command (made h) m caller command) j) ≡ true → is_some (standing_first j (standing h)) ≡ true
  command_out caller command j out = by (made_by command) refl out
    where
      i : ℕ
      i = named_item command

      by : (o : Option Item) → made_by command ≡ o → is_out_item (item_numbered (with_made o (changed i (change caller command i) ((made h).items)) ((made h).items)) j) ≡ true → is_some (standing_first j (standing h)) ≡ true
      by None is out =
          changed_out i j (change caller command i) ((made h).items) (standing h)
          (λ it at is_out_then. out_at m (standing_first i (standing h)) it.state (out_before command _ is_out_then) (λ was. backed i (ap is_out_item at ∙ was))) backed out
      by (Some x) is out = pushed_out j x ((made h).items) (standing h) (made_in command x is) backed out

  -- and it stands behind it
  abbrev Stays : Bytes → ℕ → Command → Type 0
  Stays caller number command =
      IsBacked (items_by_command (made h) m caller command) (pubs_of_issue h (made h) (issued_by h (made h) m (Request caller number command)) ++ kept_by m (Request caller number command) (standing h))

  command_step : (caller : Bytes) (number : ℕ) (command : Command) → denial h caller number command m ≡ None → Stays caller number command
  command_step caller number (Kill i session note) undenied =
      λ j out. first_behind (pubs_of_issue h (made h) (issued_by h (made h) m (Request caller number (Kill i session note)))) (taken_back m i (standing h)) j (first_left m i j (standing h) ∙ command_out caller (Kill i session note) j out)
  command_step caller number (Recall i session note) undenied =
      λ j out. first_behind (pubs_of_issue h (made h) (issued_by h (made h) m (Request caller number (Recall i session note)))) (taken_back m i (standing h)) j (first_left m i j (standing h) ∙ command_out caller (Recall i session note) j out)
  command_step caller number (Deschedule i) undenied = λ j out. by j out (i == j) refl
    where
      gone : (o : Option Item) → item h i ≡ o → is_out_item (option_map (change caller (Deschedule i) i) o) ≡ true → ⊥
      gone None is out = absurd (true≢false (sym out))
      gone (Some it) is out = absurd (true≢false (sym out ∙ ap (λ from. is_out (state_after (Deschedule i) from)) (descheduled h caller number i m it undenied is)))

      by : (j : ℕ) → is_out_item (item_numbered (changed i (change caller (Deschedule i) i) ((made h).items)) j) ≡ true → (b : Bool) → (i == j) ≡ b → is_some (standing_first j (withdrawn i (standing h))) ≡ true
      by j out true e =
          let alike : i ≡ j = (Decides-eqb i j).0 e in
          absurd (gone (item h i) refl (ap is_out_item (sym (numbered_hit i (change caller (Deschedule i) i) ((made h).items)) ∙ ap (λ k. item_numbered (changed i (change caller (Deschedule i) i) ((made h).items)) k) alike) ∙ out))
      by j out false e =
          let other : i ≢ j = λ alike. absurd (true≢false (sym ((Decides-eqb i j).1 alike) ∙ e)) in
          ap is_some (first_apart i j (standing h) other) ∙ command_out caller (Deschedule i) j out
  command_step caller number command undenied =
      λ j out. first_behind (pubs_of_issue h (made h) (issued_by h (made h) m (Request caller number command))) (standing h) j (command_out caller command j out)

  effect_out : (name : Bytes) (come : Incoming) (effect : Effect) (j : ℕ) → is_out_item (item_numbered (items_by_effect (made h) name come effect) j) ≡ true → is_some (standing_first j (standing h)) ≡ true
  effect_out name come New j out = pushed_out j _ ((made h).items) (standing h) refl backed out
  effect_out name come (NewAt place true) j out = pushed_out j _ ((made h).items) (standing h) refl backed out
  effect_out name come (NewAt place false) j out = pushed_out j _ ((made h).items) (standing h) refl backed out
  effect_out name come (Replaces i) j out = changed_out i j (replaced_by name come) ((made h).items) (standing h) (λ it at is_out_then. backed i (ap is_out_item at ∙ is_out_then)) backed out
  effect_out name come (Cancels i) j out =
      changed_out i j (λ it. record it { state = moved action.Cancel it.state }) ((made h).items) (standing h) (λ it at is_out_then. backed i (ap is_out_item at ∙ cancel_before it.state is_out_then)) backed out
  effect_out name come (Settled i) j out = backed j out

  act_step : (act : Act) → Follows h act m → IsBacked (items_by h (made h) m act) (pubs_of_issue h (made h) (issued_by h (made h) m act) ++ kept_by m act (standing h))
  act_step (Request caller number command) follows = command_step caller number command follows.1
  act_step (Ingest name come) follows =
      λ j out. first_behind (pubs_of_issue h (made h) (issued_by_effect (made h) m name come (effect_by h (made h) name come m))) (standing h) j (effect_out name come (effect_by h (made h) name come m) j out)
  act_step _ follows = backed

no_items : (j : ℕ) → is_out_item (item_numbered [] j) ≡ true → is_some (standing_first j []) ≡ true
no_items j out = by (j == 0) out
  where
    by : (b : Bool) → is_out_item (cond b None None) ≡ true → is_some (standing_first j []) ≡ true
    by true out = absurd (true≢false (sym out))
    by false out = absurd (true≢false (sym out))

-- of a legal list
pub backed_of : (h : History) → IsLegal h → IsBacked ((made h).items) (standing h)
backed_of [] legal = no_items
backed_of (e ∷ h) legal = act_step h e.moment (backed_of h legal.0) e.act legal.2
