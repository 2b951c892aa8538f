-- What an entry that may follow keeps.
use Rattle.std.proofs.Common.{◌≡◌, ℕ, ◌+◌, max, true, false, List, [], ◌∷◌, ◌++◌, length, refl, sym, ap, ◌∙◌, Option, Some, None}
use Rattle.std.specs.Prelude.{is_some}
use Rattle.std.specs.Option.{option_map}
use mathlib.Core.Bool.{true≢false}
use Rattle.news_types.specs.declared.entry.Act.{Act}
use Rattle.news_types.specs.declared.entry.Act.TheVariants.{Ingest, Request}
use Rattle.news_types.specs.declared.command.Command.{Command}
use Rattle.news_types.specs.declared.command.Command.TheVariants.{Create, Flash, Lock, Unlock, BreakLock, Edit, MoveTo, Spike, Unspike, Fetch, Publish, Correct, Kill, Recall, Deschedule}
use Rattle.news_types.specs.declared.words.State.{State}
use Rattle.news_types.specs.declared.words.State.TheVariants.{Draft, Ingested, Routed, Fetched, Submitted, InProgress, Spiked, Scheduled, Published, Corrected, Killed, Recalled}
use Rattle.news_types.specs.declared.words.Action.TheVariants as action
use Rattle.news_types.specs.declared.words.Kind.TheVariants as kind
use Rattle.news_types.specs.declared.story.Incoming.{Incoming}
use Rattle.news_types.specs.declared.story.Story.{Story}
use Rattle.news_types.specs.Names.{Bytes}
use Rattle.news_types.specs.History.{History}
use Rattle.news_types.specs.States.{next_state, moved}
use Rattle.news_types.specs.Due.{Pub, is_first, standing_first, taken_back}
use Rattle.news_types.specs.Items.{Item, Made, Effect, New, NewAt, Replaces, Cancels, Settled, item_numbered, changed, changed_by, at_moment, state_at, item_after, routed_item, replaced_by, items_by, items_by_command, items_by_effect, effect_by}
use Rattle.news_types.specs.Publications.{Issue, issued_by, issued_by_command, issued_by_effect, pub_of, pubs_of_item, pubs_of_issue, kept_by, first_issue, later_issue, release_at}
use Rattle.news_types.proofs.Firsts.{Fits, firsts, is_published, fits_changed, fits_pushed, fits_made, fits_first, fits_later, fits_withdrawn, fits_taken_back, settled_out, lock_out, edit_out, move_out, spike_out, unspike_out, fetch_out, publish_out, correct_out, kill_out, recall_out, cancel_out, numbered_hit, Fit}

-- the item, as it is at the moment, may be published
abbrev pub MayPublish : Made → ℕ → ℕ → Type 0
MayPublish w m i = (it : Item) → item_numbered w.items i ≡ Some it → is_some (next_state (state_at m (standing_first i w.standing) it.state) action.Publish) ≡ true

abbrev pub Clear : Made → ℕ → Act → Type 0
Clear w m (Request caller number (Publish i session schedule embargo targets)) = MayPublish w m i
Clear w m _ = Unit {0}

publish_row : (from : State) → is_some (next_state from action.Publish) ≡ true → (is_published from ≡ false) × (is_published (moved action.Publish from) ≡ true)
publish_row Draft e = (refl, refl)
publish_row Routed e = (refl, refl)
publish_row Fetched e = (refl, refl)
publish_row Submitted e = (refl, refl)
publish_row InProgress e = (refl, refl)
publish_row Ingested e = absurd (true≢false (sym e))
publish_row Spiked e = absurd (true≢false (sym e))
publish_row Scheduled e = absurd (true≢false (sym e))
publish_row Published e = absurd (true≢false (sym e))
publish_row Corrected e = absurd (true≢false (sym e))
publish_row Killed e = absurd (true≢false (sym e))
publish_row Recalled e = absurd (true≢false (sym e))

none_of : (fs : List Pub) (o : Option Item) (it : Item) → o ≡ Some it → is_published it.state ≡ false → Fit fs o → fs ≡ []
none_of fs None it e out fit = cc
none_of fs (Some x) it e out fit = let same : x ≡ it = cc in fit.1 (ap (λ (y : Item). is_published y.state) same ∙ out)

abbrev flashed : Story → Item
flashed story = record { state = Scheduled; version = 1; story = story; place = None; holder = None; origin = None }

module _ (h : History) (w : Made) (m : ℕ) (fits : Fits w.items w.standing) where
  abbrev after : Bytes → Command → ℕ → Item → Item
  after caller command i it = changed_by caller command (at_moment m (standing_first i w.standing) it)

  settle : (i : ℕ) (it : Item) → is_published (state_at m (standing_first i w.standing) it.state) ≡ false → is_published it.state ≡ false
  settle i it = settled_out m (standing_first i w.standing) it.state

  -- a publication that is no first, of a changed item
  later_step : (i : ℕ) (f : Item → Item) (issue : Issue) (o : Option Item) (ps : List Pub) → Fits w.items ps → ((it : Item) → is_first (pub_of h w issue it).kind ≡ false)
      → ((it : Item) → is_published (f it).state ≡ false → is_published it.state ≡ false)
      → Fits (changed i f w.items) (pubs_of_item h w issue o ++ ps)
  later_step i f issue None ps fit later keeps = fits_changed i f w.items ps keeps fit
  later_step i f issue (Some it) ps fit later keeps = fits_later (pub_of h w issue it) (changed i f w.items) ps (later it) (fits_changed i f w.items ps keeps fit)

  publish_step : (i : ℕ) (f : Item → Item) (release : ℕ) (targets : List Bytes) (o : Option Item) → item_numbered w.items i ≡ o
      → ((it : Item) → is_published (f it).state ≡ false → is_published it.state ≡ false)
      → ((it : Item) → item_numbered w.items i ≡ Some it → (firsts i w.standing ≡ []) × (is_published (f it).state ≡ true))
      → Fits (changed i f w.items) (pubs_of_item h w (first_issue i (option_map f o) release targets) (option_map f o) ++ w.standing)
  publish_step i f release targets None is keeps may = fits_changed i f w.items w.standing keeps fits
  publish_step i f release targets (Some it) is keeps may =
      fits_first (pub_of h w (first_issue i (Some (f it)) release targets) (f it)) (f it) (changed i f w.items) w.standing refl (may it is).0
      (numbered_hit i f w.items ∙ ap (option_map f) is) (may it is).1 (fits_changed i f w.items w.standing keeps fits)

  made_step : (x : Item) (release : ℕ) (targets : List Bytes) → is_published x.state ≡ true
      → Fits (w.items ++ x ∷ []) (pub_of h w (first_issue (length w.items + 1) (Some x) release targets) x ∷ w.standing)
  made_step x release targets out = fits_made (pub_of h w (first_issue (length w.items + 1) (Some x) release targets) x) x w.items w.standing refl refl out fits

  command_step : (caller : Bytes) (number : ℕ) (command : Command) → Clear w m (Request caller number command)
      → Fits (items_by_command w m caller command) (pubs_of_issue h w (issued_by_command w m caller command) ++ kept_by m (Request caller number command) w.standing)
  command_step caller number (Create desk story) clear = fits_pushed _ w.items w.standing fits
  command_step caller number (Flash story targets) clear = made_step (flashed story) m targets refl
  command_step caller number (Lock i session) clear = fits_changed i (after caller (Lock i session) i) w.items w.standing (λ it e. settle i it (lock_out _ e)) fits
  command_step caller number (Unlock i session) clear = fits_changed i (after caller (Unlock i session) i) w.items w.standing (settle i) fits
  command_step caller number (BreakLock i) clear = fits_changed i (after caller (BreakLock i) i) w.items w.standing (settle i) fits
  command_step caller number (Edit i session story) clear = fits_changed i (after caller (Edit i session story) i) w.items w.standing (λ it e. settle i it (edit_out _ e)) fits
  command_step caller number (MoveTo i desk stage) clear = fits_changed i (after caller (MoveTo i desk stage) i) w.items w.standing (λ it e. settle i it (move_out _ e)) fits
  command_step caller number (Spike i) clear = fits_changed i (after caller (Spike i) i) w.items w.standing (λ it e. settle i it (spike_out _ e)) fits
  command_step caller number (Unspike i desk) clear = fits_changed i (after caller (Unspike i desk) i) w.items w.standing (λ it e. settle i it (unspike_out _ e)) fits
  command_step caller number (Fetch i desk) clear = fits_changed i (after caller (Fetch i desk) i) w.items w.standing (λ it e. settle i it (fetch_out _ e)) fits
  command_step caller number (Publish i session schedule embargo targets) clear =
      publish_step i (after caller (Publish i session schedule embargo targets) i) (release_at m schedule embargo) targets (item_numbered w.items i) refl (λ it e. settle i it (publish_out _ e))
      (λ it is. let row = publish_row (state_at m (standing_first i w.standing) it.state) (clear it is) in
      (none_of (firsts i w.standing) (item_numbered w.items i) it is (settle i it row.0) (fits i), row.1))
  command_step caller number (Correct i session story) clear =
      later_step i (after caller (Correct i session story) i) (later_issue kind.Correct w i (item_after w m caller (Correct i session story)) m None) (item_after w m caller (Correct i session story)) w.standing fits (λ it. refl) (λ it e. settle i it (correct_out _ e))
  command_step caller number (Kill i session note) clear =
      later_step i (after caller (Kill i session note) i) (later_issue kind.Kill w i (item_after w m caller (Kill i session note)) m (Some note)) (item_after w m caller (Kill i session note)) (taken_back m i w.standing) (fits_taken_back m i w.items w.standing fits) (λ it. refl) (λ it e. settle i it (kill_out _ e))
  command_step caller number (Recall i session note) clear =
      later_step i (after caller (Recall i session note) i) (later_issue kind.Recall w i (item_after w m caller (Recall i session note)) m (Some note)) (item_after w m caller (Recall i session note)) (taken_back m i w.standing) (fits_taken_back m i w.items w.standing fits) (λ it. refl) (λ it e. settle i it (recall_out _ e))
  command_step caller number (Deschedule i) clear = fits_withdrawn i (after caller (Deschedule i) i) w.items w.standing fits
  command_step caller number _ clear = fits

  effect_step : (name : Bytes) (come : Incoming) (effect : Effect) → Fits (items_by_effect w name come effect) (pubs_of_issue h w (issued_by_effect w m name come effect) ++ w.standing)
  effect_step name come New = fits_pushed _ w.items w.standing fits
  effect_step name come (NewAt place true) = made_step (routed_item name come place true) (max m come.embargo) [] refl
  effect_step name come (NewAt place false) = fits_pushed _ w.items w.standing fits
  effect_step name come (Replaces i) = fits_changed i (replaced_by name come) w.items w.standing (λ it e. e) fits
  effect_step name come (Cancels i) = fits_changed i (λ it. record it { state = moved action.Cancel it.state }) w.items w.standing (λ it e. cancel_out _ e) fits
  effect_step name come (Settled i) = fits

  pub act_step : (act : Act) → Clear w m act → Fits (items_by h w m act) (pubs_of_issue h w (issued_by h w m act) ++ kept_by m act w.standing)
  act_step (Request caller number command) clear = command_step caller number command clear
  act_step (Ingest name come) clear = effect_step name come (effect_by h w name come m)
  act_step _ clear = fits
