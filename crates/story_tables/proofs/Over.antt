-- Behind a kill or a recall nothing of its item is published.
use Rattle.std.proofs.Common.{◌≡◌, ◌==◌, ℕ, ◌+◌, Bool, true, false, ◌&&◌, ◌||◌, List, [], ◌∷◌, ◌++◌, length, refl, sym, ap, subst, ◌∙◌, Option, Some, None}
use Rattle.std.specs.Prelude.{◌≢◌}
use Rattle.std.specs.List.{list_any}
use Rattle.std.specs.Option.{option_map}
use Rattle.std.proofs.lemmas.Bool.Decides.{Decides-eqb}
use mathlib.Core.Bool.{true≢false}
use Rattle.news_types.specs.declared.entry.Act.{Act}
use Rattle.news_types.specs.declared.entry.Act.TheVariants.{Request, Ingest}
use Rattle.news_types.specs.declared.command.Command.{Command}
use Rattle.news_types.specs.declared.command.Command.TheVariants.{Create, Flash, Publish, Correct, Kill, Recall}
use Rattle.news_types.specs.declared.words.State.{State}
use Rattle.news_types.specs.declared.words.State.TheVariants.{Scheduled, Published, Corrected, Killed, Recalled}
use Rattle.news_types.specs.declared.words.Action.TheVariants as action
use Rattle.news_types.specs.declared.words.Kind.TheVariants as kind
use Rattle.news_types.specs.declared.story.Incoming.{Incoming}
use Rattle.news_types.specs.declared.story.Story.{Story}
use Rattle.news_types.specs.Names.{Bytes}
use Rattle.news_types.specs.Members.{Each}
use Rattle.news_types.specs.History.{History}
use Rattle.news_types.specs.States.{moved}
use Rattle.news_types.specs.Due.{Pub, takes_back, standing_first, release_of}
use Rattle.news_types.specs.Items.{Item, Effect, New, NewAt, Replaces, Cancels, Settled, item_numbered, changed, changed_by, at_moment, state_at, state_after, made_by, named_item, with_made, item_after, replaced_by, items_by, items_by_command, items_by_effect, effect_by}
use Rattle.news_types.specs.Publications.{Issue, issued_by, issued_by_command, issued_by_effect, pubs_of_item, pubs_of_issue, made, item, pubs, standing, first_issue, later_issue, release_at}
use Rattle.news_types.specs.Legal.{IsLegal, Follows}
use Rattle.news_types.specs.Denial.{denial}
use Rattle.news_types.proofs.Members.{each_map, each_append}
use Rattle.news_types.proofs.Firsts.{numbered_hit, numbered_miss, numbered_old, numbered_past}
use Rattle.news_types.proofs.Legal.{rows_hold, RowsHold, none≢some}

-- what was killed or recalled
abbrev pub is_over : State → Bool
is_over Killed = true
is_over Recalled = true
is_over _ = false

-- ---- such a state is left by no command

killed_stays : (command : Command) → is_over (state_after command Killed) ≡ true
killed_stays (Correct i session story) = refl
killed_stays _ = refl

recalled_stays : (command : Command) → is_over (state_after command Recalled) ≡ true
recalled_stays (Correct i session story) = refl
recalled_stays _ = refl

over_stays : (command : Command) (from : State) → is_over from ≡ true → is_over (state_after command from) ≡ true
over_stays command Killed is = killed_stays command
over_stays command Recalled is = recalled_stays command
over_stays command _ is = absurd (true≢false (sym is))

over_at : (m : ℕ) (first : Option Pub) (from : State) → is_over from ≡ true → is_over (state_at m first from) ≡ true
over_at m first Killed is = refl
over_at m first Recalled is = refl
over_at m first _ is = absurd (true≢false (sym is))

over_cancelled : (from : State) → is_over from ≡ true → is_over (moved action.Cancel from) ≡ true
over_cancelled Killed is = refl
over_cancelled Recalled is = refl
over_cancelled _ is = absurd (true≢false (sym is))

-- ---- the items of what takes back

abbrev pub is_over_item : Option Item → Bool
is_over_item None = false
is_over_item (Some it) = is_over it.state

abbrev pub IsOfOver : List Item → Pub → Type 0
IsOfOver items p = takes_back p.kind ≡ true → is_over_item (item_numbered items p.item) ≡ true

over_map : (f : Item → Item) (o : Option Item) → ((it : Item) → is_over it.state ≡ true → is_over (f it).state ≡ true) → is_over_item o ≡ true → is_over_item (option_map f o) ≡ true
over_map f None keeps is = is
over_map f (Some it) keeps is = keeps it is

over_changed : (i j : ℕ) (f : Item → Item) (items : List Item) → ((it : Item) → is_over it.state ≡ true → is_over (f it).state ≡ true) → is_over_item (item_numbered items j) ≡ true → is_over_item (item_numbered (changed i f items) j) ≡ true
over_changed i j f items keeps is = by (i == j) refl
  where
    by : (b : Bool) → (i == j) ≡ b → is_over_item (item_numbered (changed i f items) j) ≡ true
    by true e = let alike : i ≡ j = (Decides-eqb i j).0 e in subst (λ k. is_over_item (item_numbered (changed i f items) k) ≡ true) alike (rw (numbered_hit i f items) (over_map f (item_numbered items i) keeps (subst (λ k. is_over_item (item_numbered items k) ≡ true) (sym alike) is)))
    by false e = let other : i ≢ j = λ alike. absurd (true≢false (sym ((Decides-eqb i j).1 alike) ∙ e)) in rw (numbered_miss i j f items other) is

over_pushed : (j : ℕ) (x : Item) (items : List Item) → is_over_item (item_numbered items j) ≡ true → is_over_item (item_numbered (items ++ x ∷ []) j) ≡ true
over_pushed j x items is = by (length items + 1 == j) refl
  where
    by : (b : Bool) → (length items + 1 == j) ≡ b → is_over_item (item_numbered (items ++ x ∷ []) j) ≡ true
    by true e =
        let alike : length items + 1 ≡ j = (Decides-eqb (length items + 1) j).0 e in
        absurd (true≢false (sym is ∙ ap (λ k. is_over_item (item_numbered items k)) (sym alike) ∙ ap is_over_item (numbered_past items)))
    by false e = let other : length items + 1 ≢ j = λ alike. absurd (true≢false (sym ((Decides-eqb (length items + 1) j).1 alike) ∙ e)) in rw (numbered_old j x items other) is

-- the items go over, and those that were over still are
abbrev GoesOn : List Item → List Item → Type 0
GoesOn before after = (j : ℕ) → is_over_item (item_numbered before j) ≡ true → is_over_item (item_numbered after j) ≡ true

go_over : (before after : List Item) (ps : List Pub) → GoesOn before after → Each (IsOfOver before) ps → Each (IsOfOver after) ps
go_over before after ps on all = each_map (IsOfOver before) (IsOfOver after) ps (λ p is back. on p.item (is back)) all

-- ---- a kill or a recall that is not denied

kill_row : (i release : ℕ) (session note : Bytes) (from : State) → RowsHold (Kill i session note) release from → is_over (moved action.Kill from) ≡ true
kill_row i release session note Published rows = refl
kill_row i release session note Corrected rows = refl
kill_row i release session note Scheduled rows = absurd (none≢some _ (sym rows.1))
kill_row i release session note _ rows = absurd (true≢false (sym rows.0))

recall_row : (i release : ℕ) (session note : Bytes) (from : State) → RowsHold (Recall i session note) release from → is_over (moved action.Recall from) ≡ true
recall_row i release session note Published rows = refl
recall_row i release session note Corrected rows = refl
recall_row i release session note Scheduled rows = absurd (none≢some _ (sym rows.1))
recall_row i release session note _ rows = absurd (true≢false (sym rows.0))

-- ---- one more entry

module _ (h : History) (m : ℕ) (all : Each (IsOfOver ((made h).items)) (pubs h)) where
  abbrev change : Bytes → Command → ℕ → Item → Item
  change caller command i it = changed_by caller command (at_moment m (standing_first i (standing h)) it)

  abbrev Over : List Item → List Pub → Type 0
  Over items ps = Each (IsOfOver items) ps

  goes_on : (caller : Bytes) (command : Command) → GoesOn ((made h).items) (items_by_command (made h) m caller command)
  goes_on caller command j is = by (made_by command)
    where
      i : ℕ
      i = named_item command

      by : (o : Option Item) → is_over_item (item_numbered (with_made o (changed i (change caller command i) ((made h).items)) ((made h).items)) j) ≡ true
      by None = over_changed i j (change caller command i) ((made h).items) (λ it over. over_stays command _ (over_at m (standing_first i (standing h)) it.state over)) is
      by (Some x) = over_pushed j x ((made h).items) is

  still : (caller : Bytes) (command : Command) → Over (items_by_command (made h) m caller command) (pubs h)
  still caller command = go_over ((made h).items) (items_by_command (made h) m caller command) (pubs h) (goes_on caller command) all

  -- what takes back
  new_back : (i : ℕ) (f : Item → Item) (issue : Issue) (o : Option Item) → issue.item ≡ i → item_numbered ((made h).items) i ≡ o → ((it : Item) → item_numbered ((made h).items) i ≡ Some it → is_over (f it).state ≡ true)
      → Over (changed i f ((made h).items)) (pubs_of_item h (made h) issue (option_map f o))
  new_back i f issue None its is row = tt
  new_back i f issue (Some x) its is row =
      ((λ back. rw its (rw (numbered_hit i f ((made h).items)) (rw is (row x is)))), tt)

  -- what does not
  new_other : (items : List Item) (issue : Issue) (o : Option Item) → takes_back issue.kind ≡ false → Over items (pubs_of_item h (made h) issue o)
  new_other items issue None other = tt
  new_other items issue (Some x) other = ((λ back. absurd (true≢false (sym back ∙ other))), tt)

  command_step : (caller : Bytes) (number : ℕ) (command : Command) → denial h caller number command m ≡ None
      → Over (items_by_command (made h) m caller command) (pubs_of_issue h (made h) (issued_by_command (made h) m caller command) ++ pubs h)
  command_step caller number (Flash story targets) undenied = ((λ back. absurd (true≢false (sym back))), still caller (Flash story targets))
  command_step caller number (Publish i session schedule embargo targets) undenied =
      each_append (IsOfOver _) _ (pubs h)
      (new_other _ (first_issue i (item_after (made h) m caller (Publish i session schedule embargo targets)) (release_at m schedule embargo) targets) (item_after (made h) m caller (Publish i session schedule embargo targets)) refl) (still caller (Publish i session schedule embargo targets))
  command_step caller number (Correct i session story) undenied =
      each_append (IsOfOver _) _ (pubs h)
      (new_other _ (later_issue kind.Correct (made h) i (item_after (made h) m caller (Correct i session story)) m None) (item_after (made h) m caller (Correct i session story)) refl) (still caller (Correct i session story))
  command_step caller number (Kill i session note) undenied =
      each_append (IsOfOver _) _ (pubs h)
      (new_back i (change caller (Kill i session note) i) (later_issue kind.Kill (made h) i (item_after (made h) m caller (Kill i session note)) m (Some note)) (item_numbered ((made h).items) i) refl refl
      (λ it is. kill_row i _ session note _ (rows_hold h caller number (Kill i session note) m it undenied is)))
      (still caller (Kill i session note))
  command_step caller number (Recall i session note) undenied =
      each_append (IsOfOver _) _ (pubs h)
      (new_back i (change caller (Recall i session note) i) (later_issue kind.Recall (made h) i (item_after (made h) m caller (Recall i session note)) m (Some note)) (item_numbered ((made h).items) i) refl refl
      (λ it is. recall_row i _ session note _ (rows_hold h caller number (Recall i session note) m it undenied is)))
      (still caller (Recall i session note))
  command_step caller number (Create desk story) undenied = still caller (Create desk story)
  command_step caller number command undenied = still caller command

  effect_step : (name : Bytes) (come : Incoming) (effect : Effect) → Over (items_by_effect (made h) name come effect) (pubs_of_issue h (made h) (issued_by_effect (made h) m name come effect) ++ pubs h)
  effect_step name come New = go_over _ _ (pubs h) (λ j is. over_pushed j _ ((made h).items) is) all
  effect_step name come (NewAt place true) = ((λ back. absurd (true≢false (sym back))), go_over _ _ (pubs h) (λ j is. over_pushed j _ ((made h).items) is) all)
  effect_step name come (NewAt place false) = go_over _ _ (pubs h) (λ j is. over_pushed j _ ((made h).items) is) all
  effect_step name come (Replaces i) = go_over _ _ (pubs h) (λ j is. over_changed i j (replaced_by name come) ((made h).items) (λ it over. over) is) all
  effect_step name come (Cancels i) = go_over _ _ (pubs h) (λ j is. over_changed i j (λ it. record it { state = moved action.Cancel it.state }) ((made h).items) (λ it over. over_cancelled it.state over) is) all
  effect_step name come (Settled i) = all

  act_step : (act : Act) → Follows h act m → Over (items_by h (made h) m act) (pubs_of_issue h (made h) (issued_by h (made h) m act) ++ pubs h)
  act_step (Request caller number command) follows = command_step caller number command follows.1
  act_step (Ingest name come) follows = effect_step name come (effect_by h (made h) name come m)
  act_step _ follows = all

-- of a legal list
over_of : (h : History) → IsLegal h → Each (IsOfOver ((made h).items)) (pubs h)
over_of [] legal = tt
over_of (e ∷ h) legal = act_step h e.moment (over_of h legal.0) e.act legal.2

-- ---- an item that is not over

-- one of these takes the item back
abbrev pub any_back : ℕ → List Pub → Bool
any_back i ps = list_any (λ (p : Pub). p.item == i && takes_back p.kind) ps

none_back : (items : List Item) (ps : List Pub) (i : ℕ) → Each (IsOfOver items) ps → is_over_item (item_numbered items i) ≡ false → any_back i ps ≡ false
none_back items [] i all free = refl
none_back items (p ∷ ps) i all free = by (p.item == i) refl (takes_back p.kind) refl (none_back items ps i all.1 free)
  where
    by : (b : Bool) → (p.item == i) ≡ b → (c : Bool) → takes_back p.kind ≡ c → any_back i ps ≡ false → ((b && c) || any_back i ps) ≡ false
    by false is c its rest = rest
    by true is false its rest = rest
    by true is true its rest =
        let e : p.item ≡ i = (Decides-eqb p.item i).0 is in
        absurd (true≢false (sym (all.0 its) ∙ ap (λ k. is_over_item (item_numbered items k)) e ∙ free))

-- none of its publications takes it back
pub not_back : (h : History) (i : ℕ) → IsLegal h → is_over_item (item h i) ≡ false → any_back i (pubs h) ≡ false
not_back h i legal free = none_back ((made h).items) (pubs h) i (over_of h legal) free

-- ---- what publishes an item, and takes nothing back, is of one that is not over

publish_row : (i release : ℕ) (session : Bytes) (schedule embargo : Option ℕ) (targets : List Bytes) (from : State) → RowsHold (Publish i session schedule embargo targets) release from → is_over from ≡ false
publish_row i release session schedule embargo targets Killed rows = absurd (true≢false (sym rows.0))
publish_row i release session schedule embargo targets Recalled rows = absurd (true≢false (sym rows.0))
publish_row i release session schedule embargo targets _ rows = refl

correct_row : (i release : ℕ) (session : Bytes) (story : Story) (from : State) → RowsHold (Correct i session story) release from → is_over from ≡ false
correct_row i release session story Killed rows = absurd (true≢false (sym rows.0))
correct_row i release session story Recalled rows = absurd (true≢false (sym rows.0))
correct_row i release session story _ rows = refl

open_at : (m : ℕ) (first : Option Pub) (from : State) → is_over (state_at m first from) ≡ false → is_over from ≡ false
open_at m first Killed is = is
open_at m first Recalled is = is
open_at m first _ is = refl

open_item : (o : Option Item) → ((it : Item) → o ≡ Some it → is_over it.state ≡ false) → is_over_item o ≡ false
open_item None is = refl
open_item (Some it) is = is it refl

-- where an issue takes nothing back, its item is not over
abbrev pub IsOpen : History → Option Issue → Type 0
IsOpen h None = Unit {0}
IsOpen h (Some issue) = takes_back issue.kind ≡ false → is_over_item (item h issue.item) ≡ false

module _ (h : History) (m : ℕ) where
  command_open : (caller : Bytes) (number : ℕ) (command : Command) → denial h caller number command m ≡ None → IsOpen h (issued_by_command (made h) m caller command)
  command_open caller number (Flash story targets) undenied = λ other. ap is_over_item (numbered_past ((made h).items))
  command_open caller number (Publish i session schedule embargo targets) undenied = λ other.
      open_item (item h i) (λ it is. open_at m (standing_first i (standing h)) it.state (publish_row i (release_of (standing_first i (standing h))) session schedule embargo targets _ (rows_hold h caller number (Publish i session schedule embargo targets) m it undenied is)))
  command_open caller number (Correct i session story) undenied = λ other.
      open_item (item h i) (λ it is. open_at m (standing_first i (standing h)) it.state (correct_row i (release_of (standing_first i (standing h))) session story _ (rows_hold h caller number (Correct i session story) m it undenied is)))
  command_open caller number (Kill i session note) undenied = λ other. absurd (true≢false other)
  command_open caller number (Recall i session note) undenied = λ other. absurd (true≢false other)
  command_open caller number command undenied = tt

  effect_open : (name : Bytes) (come : Incoming) (effect : Effect) → IsOpen h (issued_by_effect (made h) m name come effect)
  effect_open name come (NewAt place true) = λ other. ap is_over_item (numbered_past ((made h).items))
  effect_open name come _ = tt

  pub act_open : (act : Act) → Follows h act m → IsOpen h (issued_by h (made h) m act)
  act_open (Request caller number command) follows = command_open caller number command follows.1
  act_open (Ingest name come) follows = effect_open name come (effect_by h (made h) name come m)
  act_open _ follows = tt
