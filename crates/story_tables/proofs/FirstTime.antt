-- Of an item that is published for the first time nothing was due to anybody.
use Rattle.std.proofs.Common.{◌≡◌, ℕ, Bool, true, false, ◌||◌, List, [], ◌∷◌, Option, Some, None, refl, sym}
use Rattle.std.specs.Prelude.{is_some}
use mathlib.Core.Bool.{true≢false}
use Rattle.news_types.specs.declared.entry.Act.TheVariants.{Request}
use Rattle.news_types.specs.declared.command.Command.TheVariants.{Publish}
use Rattle.news_types.specs.declared.words.State.{State}
use Rattle.news_types.specs.declared.words.State.TheVariants.{Scheduled, Published, Corrected, Killed, Recalled}
use Rattle.news_types.specs.declared.words.Action.TheVariants as action
use Rattle.news_types.specs.Names.{Bytes}
use Rattle.news_types.specs.History.{History}
use Rattle.news_types.specs.Legal.{IsLegal}
use Rattle.news_types.specs.Outcome.{entry_of}
use Rattle.news_types.specs.States.{next_state}
use Rattle.news_types.specs.Due.{standing_first, had}
use Rattle.news_types.specs.Items.{Item, item_numbered}
use Rattle.news_types.specs.Publications.{made, standing}
use Rattle.news_types.proofs.Firsts.{Fit, firsts, is_published, settled_out}
use Rattle.news_types.proofs.Legal.{rows_hold, fits_of}
use Rattle.story_tables.proofs.Later.{is_later, is_past, past_of, nothing_had}

unpublished : (from : State) → is_some (next_state from action.Publish) ≡ true → is_published from ≡ false
unpublished Scheduled may = absurd (true≢false (sym may))
unpublished Published may = absurd (true≢false (sym may))
unpublished Corrected may = absurd (true≢false (sym may))
unpublished Killed may = absurd (true≢false (sym may))
unpublished Recalled may = absurd (true≢false (sym may))
unpublished _ may = refl

early_state : (from : State) → is_published from ≡ false → is_later from ≡ false
early_state Corrected hidden = absurd (true≢false hidden)
early_state Killed hidden = absurd (true≢false hidden)
early_state Recalled hidden = absurd (true≢false hidden)
early_state _ hidden = refl

or_no : (b : Bool) → (b || false) ≡ true → b ≡ true
or_no true is = refl
or_no false is = is

module _ (h : History) (m number i : ℕ) (caller session : Bytes) (schedule embargo : Option ℕ) (targets : List Bytes)
    (legal : IsLegal (entry_of m (Request caller number (Publish i session schedule embargo targets)) ∷ h)) where
  hidden_item : (it : Item) → item_numbered ((made h).items) i ≡ Some it → is_published it.state ≡ false
  hidden_item it is =
      settled_out m (standing_first i (standing h)) it.state
      (unpublished _ (or_no _ (rows_hold h caller number (Publish i session schedule embargo targets) m it legal.2.1 is).0))

  none_out : (o : Option Item) → item_numbered ((made h).items) i ≡ o → Fit (firsts i (standing h)) o → (firsts i (standing h) ≡ []) × (is_past o ≡ false)
  none_out None is fit = (fit, refl)
  none_out (Some it) is fit = (fit.1 (hidden_item it is), early_state it.state (hidden_item it is))

  pub nothing_before : (s : Bytes) → had (standing h) i s ≡ false
  nothing_before s =
      let out = none_out (item_numbered ((made h).items) i) refl (fits_of h legal.0 i) in
      nothing_had ((made h).items) (standing h) i s (past_of h legal.0) out.1 out.0
