-- What a request that is not denied tells.
use Rattle.std.proofs.Common.{◌≡◌, ℕ, Bool, true, false, ◌||◌, refl, sym, subst, Option, Some, None, List, [], ◌∷◌}
use Rattle.std.specs.Prelude.{is_some}
use Rattle.std.specs.Option.{option_map}
use mathlib.Core.Bool.{true≢false}
use Rattle.news_types.specs.declared.entry.Act.{Act}
use Rattle.news_types.specs.declared.entry.Act.TheVariants.{Request}
use Rattle.news_types.specs.declared.command.Command.{Command}
use Rattle.news_types.specs.declared.command.Command.TheVariants.{Publish, Deschedule}
use Rattle.news_types.specs.declared.words.State.{State}
use Rattle.news_types.specs.declared.words.State.TheVariants.{Scheduled, Published, Corrected}
use Rattle.news_types.specs.declared.words.Thing.TheVariants as thing
use Rattle.news_types.specs.declared.denial.Denial.{Denial}
use Rattle.news_types.specs.Names.{Bytes}
use Rattle.news_types.specs.History.{History, last}
use Rattle.news_types.specs.Due.{standing_first, release_of}
use Rattle.news_types.specs.Items.{Item, action_of, named_item, state_at, item_numbered}
use Rattle.news_types.specs.Publications.{item, state, made, standing}
use Rattle.news_types.specs.Denial.{or_else, first_of, absent, missing, first_missing, reasons, unless, turn_denial, command_denial, denial, item_denial, state_denial, has_row, release_denial, is_about_release, lock_denial, lock_rule}
use Rattle.news_types.specs.Legal.{IsLegal, Follows}
use Rattle.news_types.proofs.Firsts.{Fits, fit_none}
use Rattle.news_types.proofs.Kept.{Clear, act_step}

pub none≢some : (d : Denial) → None ≡ Some d → ⊥
none≢some d h = cc

pub first_no : (a b : Option Denial) → or_else a b ≡ None → a ≡ None
first_no None b h = refl
first_no (Some d) b h = absurd (none≢some d (sym h))

pub second_no : (a b : Option Denial) → or_else a b ≡ None → b ≡ None
second_no None b h = h
second_no (Some d) b h = absurd (none≢some d (sym h))

pub holds_unless : (ok : Bool) (d : Denial) → unless ok d ≡ None → ok ≡ true
holds_unless true d h = refl
holds_unless false d h = cc

-- none of the reasons is given
abbrev pub NoneOf : List (Option Denial) → Type 0
NoneOf [] = Unit {0}
NoneOf (reason ∷ reasons) = (reason ≡ None) × NoneOf reasons

pub none_of : (reasons : List (Option Denial)) → first_of reasons ≡ None → NoneOf reasons
none_of [] e = tt
none_of (reason ∷ reasons) e = (first_no reason (first_of reasons) e, none_of reasons (second_no reason (first_of reasons) e))

-- no reason of the item's own
pub item_row : (h : History) (caller : Bytes) (number : ℕ) (command : Command) (m : ℕ) → denial h caller number command m ≡ None
    → item_denial caller command (release_of (standing_first (named_item command) (standing h))) (item h (named_item command)) (state h (named_item command) m) ≡ None
item_row h caller number command m undenied =
    (none_of (reasons h caller command m) (second_no (turn_denial (last h caller) number command) (command_denial h caller command m) undenied)).1.1.1.1.1.0

abbrev pub RowsHold : Command → ℕ → State → Type 0
RowsHold command release from = ((has_row from (action_of command) || is_about_release command from) ≡ true) × (release_denial command from release ≡ None)

row_of : (caller : Bytes) (command : Command) (release : ℕ) (o : Option Item) (f : Item → State) (it : Item) → o ≡ Some it
    → item_denial caller command release o (option_map f o) ≡ None → RowsHold command release (f it)
row_of caller command release None f it is undenied = cc
row_of caller command release (Some x) f it is undenied =
    let same : x ≡ it = cc in
    subst (λ (y : Item). RowsHold command release (f y)) same (
      holds_unless _ _ (first_no (state_denial command (f x)) _ undenied),
      second_no (lock_denial caller (lock_rule command) x.holder) (release_denial command (f x) release) (second_no (state_denial command (f x)) _ undenied),
    )

pub rows_hold : (h : History) (caller : Bytes) (number : ℕ) (command : Command) (m : ℕ) (it : Item) → denial h caller number command m ≡ None → item h (named_item command) ≡ Some it
    → RowsHold command (release_of (standing_first (named_item command) (standing h))) (state_at m (standing_first (named_item command) (standing h)) it.state)
rows_hold h caller number command m it undenied is =
    row_of caller command (release_of (standing_first (named_item command) (standing h))) (item h (named_item command))
    (λ (x : Item). state_at m (standing_first (named_item command) (standing h)) x.state) it is (item_row h caller number command m undenied)

or_none : (b : Bool) → (b || false) ≡ true → b ≡ true
or_none true e = refl
or_none false e = e

-- an act that may follow a list is clear of it
pub clear_of : (h : History) (act : Act) (m : ℕ) → Follows h act m → Clear (made h) m act
clear_of h (Request caller number (Publish i session schedule embargo targets)) m follows =
    λ it is. or_none _ (rows_hold h caller number (Publish i session schedule embargo targets) m it follows.1 is).0
clear_of h _ m follows = tt

-- where an item may be descheduled
scheduled_row : (i release : ℕ) (from : State) → RowsHold (Deschedule i) release from → from ≡ Scheduled
scheduled_row i release Scheduled rows = refl
scheduled_row i release Published rows = absurd (none≢some _ (sym rows.1))
scheduled_row i release Corrected rows = absurd (none≢some _ (sym rows.1))
scheduled_row i release _ rows = absurd (true≢false (sym rows.0))

-- every legal list
pub fits_of : (h : History) → IsLegal h → Fits ((made h).items) ((made h).standing)
fits_of [] legal = λ i. fit_none (item_numbered [] i)
fits_of (e ∷ h) legal = act_step h (made h) e.moment (fits_of h legal.0) e.act (clear_of h e.act e.moment legal.2)

pub descheduled : (h : History) (caller : Bytes) (number i m : ℕ) (it : Item) → denial h caller number (Deschedule i) m ≡ None → item h i ≡ Some it
    → state_at m (standing_first i (standing h)) it.state ≡ Scheduled
descheduled h caller number i m it undenied is = scheduled_row i _ _ (rows_hold h caller number (Deschedule i) m it undenied is)

-- what a command names is there
pub missing_row : (h : History) (caller : Bytes) (number : ℕ) (command : Command) (m : ℕ) → denial h caller number command m ≡ None → first_missing (missing h command) ≡ None
missing_row h caller number command m undenied =
    (none_of (reasons h caller command m) (second_no (turn_denial (last h caller) number command) (command_denial h caller command m) undenied)).1.1.0

pub item_there : (o : Option Item) → first_missing (absent (is_some o) thing.Item) ≡ None → is_some o ≡ true
item_there None none = cc
item_there (Some it) none = refl

pub still_there : (f : Item → Item) (o : Option Item) → is_some o ≡ true → is_some (option_map f o) ≡ true
still_there f None there = there
still_there f (Some it) there = refl
