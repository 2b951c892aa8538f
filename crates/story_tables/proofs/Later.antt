-- Publications that correct, kill or recall: their items are corrected, killed or recalled.
use Rattle.std.proofs.Common.{◌≡◌, ◌==◌, ℕ, ◌+◌, Bool, true, false, cond, ◌&&◌, ◌||◌, List, [], ◌∷◌, ◌++◌, length, refl, sym, ap, subst, ◌∙◌, Option, Some, None}
use Rattle.std.specs.Prelude.{◌≢◌}
use Rattle.std.specs.Option.{option_map}
use Rattle.std.proofs.lemmas.Bool.Decides.{Decides-eqb}
use mathlib.Core.Bool.{true≢false}
use Rattle.news_types.specs.declared.entry.Act.{Act}
use Rattle.news_types.specs.declared.entry.Act.TheVariants.{Request, Ingest}
use Rattle.news_types.specs.declared.command.Command.{Command}
use Rattle.news_types.specs.declared.command.Command.TheVariants.{Create, Flash, Publish, Correct, Kill, Recall, Deschedule}
use Rattle.news_types.specs.declared.words.State.{State}
use Rattle.news_types.specs.declared.words.State.TheVariants.{Scheduled, Published, Corrected, Killed, Recalled}
use Rattle.news_types.specs.declared.words.Action.TheVariants as action
use Rattle.news_types.specs.declared.story.Incoming.{Incoming}
use Rattle.news_types.specs.Names.{Bytes}
use Rattle.news_types.specs.Members.{Each}
use Rattle.news_types.specs.History.{History}
use Rattle.news_types.specs.States.{moved}
use Rattle.news_types.specs.Due.{Pub, is_first, is_first_of, standing_first, had, is_due, withdrawn, taken_back}
use Rattle.news_types.specs.Items.{Item, Effect, New, NewAt, Replaces, Cancels, Settled, item_numbered, changed, changed_by, at_moment, state_at, state_after, made_by, named_item, with_made, item_after, replaced_by, items_by, items_by_command, items_by_effect, effect_by}
use Rattle.news_types.specs.Publications.{Issue, issued_by, issued_by_command, issued_by_effect, pubs_of_item, pubs_of_issue, kept_by, made, standing, first_issue, later_issue, release_at}
use Rattle.news_types.specs.Legal.{IsLegal, Follows}
use Rattle.news_types.proofs.Members.{each_map, each_append, each_filter}
use Rattle.news_types.specs.Denial.{denial}
use Rattle.news_types.specs.declared.words.Kind.TheVariants as kind
use Rattle.news_types.specs.declared.story.Story.{Story}
use Rattle.news_types.proofs.Firsts.{firsts, numbered_hit, numbered_miss, numbered_old, numbered_past}
use Rattle.news_types.proofs.Legal.{rows_hold, RowsHold, none≢some}

abbrev pub is_later : State → Bool
is_later Corrected = true
is_later Killed = true
is_later Recalled = true
is_later _ = false

-- ---- such a state is left by no command

corrected_stays : (command : Command) → is_later (state_after command Corrected) ≡ true
corrected_stays (Correct i session story) = refl
corrected_stays _ = refl

killed_stays : (command : Command) → is_later (state_after command Killed) ≡ true
killed_stays (Correct i session story) = refl
killed_stays _ = refl

recalled_stays : (command : Command) → is_later (state_after command Recalled) ≡ true
recalled_stays (Correct i session story) = refl
recalled_stays _ = refl

later_stays : (command : Command) (from : State) → is_later from ≡ true → is_later (state_after command from) ≡ true
later_stays command Corrected is = corrected_stays command
later_stays command Killed is = killed_stays command
later_stays command Recalled is = recalled_stays command
later_stays command _ is = absurd (true≢false (sym is))

pub later_at : (m : ℕ) (first : Option Pub) (from : State) → is_later from ≡ true → is_later (state_at m first from) ≡ true
later_at m first Corrected is = refl
later_at m first Killed is = refl
later_at m first Recalled is = refl
later_at m first _ is = absurd (true≢false (sym is))

later_cancelled : (from : State) → is_later from ≡ true → is_later (moved action.Cancel from) ≡ true
later_cancelled Corrected is = refl
later_cancelled Killed is = refl
later_cancelled Recalled is = refl
later_cancelled _ is = absurd (true≢false (sym is))

-- ---- the items of publications

abbrev pub is_past : Option Item → Bool
is_past None = false
is_past (Some it) = is_later it.state

abbrev pub IsOfPast : List Item → Pub → Type 0
IsOfPast items p = is_first p.kind ≡ false → is_past (item_numbered items p.item) ≡ true

past_map : (f : Item → Item) (o : Option Item) → ((it : Item) → is_later it.state ≡ true → is_later (f it).state ≡ true) → is_past o ≡ true → is_past (option_map f o) ≡ true
past_map f None keeps is = is
past_map f (Some it) keeps is = keeps it is

past_changed : (i j : ℕ) (f : Item → Item) (items : List Item) → ((it : Item) → is_later it.state ≡ true → is_later (f it).state ≡ true) → is_past (item_numbered items j) ≡ true → is_past (item_numbered (changed i f items) j) ≡ true
past_changed i j f items keeps is = by (i == j) refl
  where
    by : (b : Bool) → (i == j) ≡ b → is_past (item_numbered (changed i f items) j) ≡ true
    by true e = let alike : i ≡ j = (Decides-eqb i j).0 e in subst (λ k. is_past (item_numbered (changed i f items) k) ≡ true) alike (rw (numbered_hit i f items) (past_map f (item_numbered items i) keeps (subst (λ k. is_past (item_numbered items k) ≡ true) (sym alike) is)))
    by false e = let other : i ≢ j = λ alike. absurd (true≢false (sym ((Decides-eqb i j).1 alike) ∙ e)) in rw (numbered_miss i j f items other) is

past_pushed : (j : ℕ) (x : Item) (items : List Item) → is_past (item_numbered items j) ≡ true → is_past (item_numbered (items ++ x ∷ []) j) ≡ true
past_pushed j x items is = by (length items + 1 == j) refl
  where
    by : (b : Bool) → (length items + 1 == j) ≡ b → is_past (item_numbered (items ++ x ∷ []) j) ≡ true
    by true e =
        let alike : length items + 1 ≡ j = (Decides-eqb (length items + 1) j).0 e in
        absurd (true≢false (sym is ∙ ap (λ k. is_past (item_numbered items k)) (sym alike) ∙ ap is_past (numbered_past items)))
    by false e = let other : length items + 1 ≢ j = λ alike. absurd (true≢false (sym ((Decides-eqb (length items + 1) j).1 alike) ∙ e)) in rw (numbered_old j x items other) is

-- the items go over, and those that were past still are
abbrev GoesOn : List Item → List Item → Type 0
GoesOn before after = (j : ℕ) → is_past (item_numbered before j) ≡ true → is_past (item_numbered after j) ≡ true

go_over : (before after : List Item) (ps : List Pub) → GoesOn before after → Each (IsOfPast before) ps → Each (IsOfPast after) ps
go_over before after ps on all = each_map (IsOfPast before) (IsOfPast after) ps (λ p is later. on p.item (is later)) all

past_left : (m i : ℕ) (items : List Item) (ps : List Pub) → Each (IsOfPast items) ps → Each (IsOfPast items) (taken_back m i ps)
past_left m i items [] all = tt
past_left m i items (p ∷ ps) all = (all.0, past_left m i items ps all.1)

-- ---- a correction, a kill or a recall that is not denied

correct_row : (i release : ℕ) (session : Bytes) (story : Story) (from : State) → RowsHold (Correct i session story) release from → is_later (moved action.Correct from) ≡ true
correct_row i release session story Published rows = refl
correct_row i release session story Corrected rows = refl
correct_row i release session story Scheduled rows = absurd (none≢some _ (sym rows.1))
correct_row i release session story _ rows = absurd (true≢false (sym rows.0))

kill_row : (i release : ℕ) (session note : Bytes) (from : State) → RowsHold (Kill i session note) release from → is_later (moved action.Kill from) ≡ true
kill_row i release session note Published rows = refl
kill_row i release session note Corrected rows = refl
kill_row i release session note Scheduled rows = absurd (none≢some _ (sym rows.1))
kill_row i release session note _ rows = absurd (true≢false (sym rows.0))

recall_row : (i release : ℕ) (session note : Bytes) (from : State) → RowsHold (Recall i session note) release from → is_later (moved action.Recall from) ≡ true
recall_row i release session note Published rows = refl
recall_row i release session note Corrected rows = refl
recall_row i release session note Scheduled rows = absurd (none≢some _ (sym rows.1))
recall_row i release session note _ rows = absurd (true≢false (sym rows.0))

-- ---- one more entry

module _ (h : History) (m : ℕ) (all : Each (IsOfPast ((made h).items)) (standing h)) where
  abbrev change : Bytes → Command → ℕ → Item → Item
  change caller command i it = changed_by caller command (at_moment m (standing_first i (standing h)) it)

  abbrev Past : List Item → List Pub → Type 0
  Past items ps = Each (IsOfPast items) ps

  goes_on : (caller : Bytes) (command : Command) → GoesOn ((made h).items) (items_by_command (made h) m caller command)
  goes_on caller command j is = by (made_by command)
    where
      i : ℕ
      i = named_item command

      by : (o : Option Item) → is_past (item_numbered (with_made o (changed i (change caller command i) ((made h).items)) ((made h).items)) j) ≡ true
      by None = past_changed i j (change caller command i) ((made h).items) (λ it later. later_stays command _ (later_at m (standing_first i (standing h)) it.state later)) is
      by (Some x) = past_pushed j x ((made h).items) is

  stands_on : (caller : Bytes) (command : Command) (ps : List Pub) → Past ((made h).items) ps → Past (items_by_command (made h) m caller command) ps
  stands_on caller command ps past = go_over ((made h).items) (items_by_command (made h) m caller command) ps (goes_on caller command) past

  -- what follows a first publication
  new_later : (i : ℕ) (f : Item → Item) (issue : Issue) (o : Option Item) → issue.item ≡ i → item_numbered ((made h).items) i ≡ o → ((it : Item) → item_numbered ((made h).items) i ≡ Some it → is_later (f it).state ≡ true)
      → Past (changed i f ((made h).items)) (pubs_of_item h (made h) issue (option_map f o))
  new_later i f issue None its is row = tt
  new_later i f issue (Some x) its is row =
      ((λ later. rw its (rw (numbered_hit i f ((made h).items)) (rw is (row x is)))), tt)

  -- a first one
  new_first : (items : List Item) (i : ℕ) (after o : Option Item) (release : ℕ) (targets : List Bytes) → Past items (pubs_of_item h (made h) (first_issue i after release targets) o)
  new_first items i after None release targets = tt
  new_first items i after (Some x) release targets = ((λ later. absurd (true≢false later)), tt)

  command_step : (caller : Bytes) (number : ℕ) (command : Command) → denial h caller number command m ≡ None
      → Past (items_by_command (made h) m caller command) (pubs_of_issue h (made h) (issued_by_command (made h) m caller command) ++ kept_by m (Request caller number command) (standing h))
  command_step caller number (Flash story targets) undenied = ((λ later. absurd (true≢false later)), stands_on caller (Flash story targets) (standing h) all)
  command_step caller number (Publish i session schedule embargo targets) undenied =
      each_append (IsOfPast _) _ (standing h) (new_first _ i (item_after (made h) m caller (Publish i session schedule embargo targets)) (item_after (made h) m caller (Publish i session schedule embargo targets)) (release_at m schedule embargo) targets)
      (stands_on caller (Publish i session schedule embargo targets) (standing h) all)
  command_step caller number (Correct i session story) undenied =
      each_append (IsOfPast _) _ (standing h)
      (new_later i (change caller (Correct i session story) i) (later_issue kind.Correct (made h) i (item_after (made h) m caller (Correct i session story)) m None) (item_numbered ((made h).items) i) refl refl
      (λ it is. correct_row i _ session story _ (rows_hold h caller number (Correct i session story) m it undenied is)))
      (stands_on caller (Correct i session story) (standing h) all)
  command_step caller number (Kill i session note) undenied =
      each_append (IsOfPast _) _ (taken_back m i (standing h))
      (new_later i (change caller (Kill i session note) i) (later_issue kind.Kill (made h) i (item_after (made h) m caller (Kill i session note)) m (Some note)) (item_numbered ((made h).items) i) refl refl
      (λ it is. kill_row i _ session note _ (rows_hold h caller number (Kill i session note) m it undenied is)))
      (stands_on caller (Kill i session note) (taken_back m i (standing h)) (past_left m i ((made h).items) (standing h) all))
  command_step caller number (Recall i session note) undenied =
      each_append (IsOfPast _) _ (taken_back m i (standing h))
      (new_later i (change caller (Recall i session note) i) (later_issue kind.Recall (made h) i (item_after (made h) m caller (Recall i session note)) m (Some note)) (item_numbered ((made h).items) i) refl refl
      (λ it is. recall_row i _ session note _ (rows_hold h caller number (Recall i session note) m it undenied is)))
      (stands_on caller (Recall i session note) (taken_back m i (standing h)) (past_left m i ((made h).items) (standing h) all))
  command_step caller number (Deschedule i) undenied = stands_on caller (Deschedule i) (withdrawn i (standing h)) (each_filter (IsOfPast ((made h).items)) _ (standing h) all)
  command_step caller number (Create desk story) undenied = stands_on caller (Create desk story) (standing h) all
  command_step caller number command undenied = stands_on caller command (standing h) all

  effect_step : (name : Bytes) (come : Incoming) (effect : Effect) → Past (items_by_effect (made h) name come effect) (pubs_of_issue h (made h) (issued_by_effect (made h) m name come effect) ++ standing h)
  effect_step name come New = go_over _ _ (standing h) (λ j is. past_pushed j _ ((made h).items) is) all
  effect_step name come (NewAt place true) = ((λ later. absurd (true≢false later)), go_over _ _ (standing h) (λ j is. past_pushed j _ ((made h).items) is) all)
  effect_step name come (NewAt place false) = go_over _ _ (standing h) (λ j is. past_pushed j _ ((made h).items) is) all
  effect_step name come (Replaces i) = go_over _ _ (standing h) (λ j is. past_changed i j (replaced_by name come) ((made h).items) (λ it later. later) is) all
  effect_step name come (Cancels i) = go_over _ _ (standing h) (λ j is. past_changed i j (λ it. record it { state = moved action.Cancel it.state }) ((made h).items) (λ it later. later_cancelled it.state later) is) all
  effect_step name come (Settled i) = all

  act_step : (act : Act) → Follows h act m → Past (items_by h (made h) m act) (pubs_of_issue h (made h) (issued_by h (made h) m act) ++ kept_by m act (standing h))
  act_step (Request caller number command) follows = command_step caller number command follows.1
  act_step (Ingest name come) follows = effect_step name come (effect_by h (made h) name come m)
  act_step _ follows = all

-- of a legal list
pub past_of : (h : History) → IsLegal h → Each (IsOfPast ((made h).items)) (standing h)
past_of [] legal = tt
past_of (e ∷ h) legal = act_step h e.moment (past_of h legal.0) e.act legal.2

-- ---- an item of which no first publication stands, and that is not past

and_true : (b : Bool) → (b && true) ≡ b
and_true true = refl
and_true false = refl

pub nothing_had : (items : List Item) (ps : List Pub) (i : ℕ) (s : Bytes) → Each (IsOfPast items) ps → is_past (item_numbered items i) ≡ false → firsts i ps ≡ [] → had ps i s ≡ false
nothing_had items [] i s all early without = refl
nothing_had items (p ∷ ps) i s all early without = by (p.item == i) refl (is_first_of i p) refl without (nothing_had items ps i s all.1 early)
  where
    is_there : List Pub → Bool
    is_there [] = false
    is_there (q ∷ qs) = true

    nil≢cons : [] ≡ p ∷ firsts i ps → ⊥
    nil≢cons e = absurd (true≢false (ap is_there (sym e)))

    by : (b : Bool) → (p.item == i) ≡ b → (c : Bool) → is_first_of i p ≡ c → cond c (p ∷ firsts i ps) (firsts i ps) ≡ [] → (firsts i ps ≡ [] → had ps i s ≡ false) → ((b && is_due s p) || had ps i s) ≡ false
    by b is true its gone rest = absurd (nil≢cons (sym gone))
    by false is false its gone rest = rest gone
    by true is false its gone rest =
        let e : p.item ≡ i = (Decides-eqb p.item i).0 is in
        let later : is_first p.kind ≡ false = sym (and_true (is_first p.kind)) ∙ ap (λ b. is_first p.kind && b) (sym is) ∙ its in
        absurd (true≢false (sym (all.0 later) ∙ ap (λ k. is_past (item_numbered items k)) e ∙ early))
