-- The newest hundred, walked down to from the newest.
use Rattle.std.proofs.Common.{◌≡◌, ◌⊎◌, inl, inr, ℕ, zero, suc, ◌-◌, ◌<◌, ◌≤◌, Bool, true, false, List, [], ◌∷◌, ◌++◌, length, take, Option, Some, None, refl, sym, ap, ◌∙◌, arith, append-nil, length-append}
use Rattle.std.specs.Prelude.{if◌then◌else◌}
use Rattle.std.specs.List.{filter}
use Rattle.std.specs.Option.{option_to_list}
use Rattle.serde_json.specs.Data.{Items, item as items_item, object, Members}
use Rattle.news_types.specs.History.{History, moment}
use Rattle.news_types.specs.Items.{Item, state_at}
use Rattle.news_types.specs.Due.{standing_first}
use Rattle.news_types.specs.Publications.{item, made}
use Rattle.told_objects.specs.Members.{objects}
use Rattle.desk_views.specs.Items.{Wanted, is_wanted, down_from}
use Rattle.desk_views.specs.Wires.{last_wire}
use Rattle.desk_questions.specs.declared.line.ItemLine.{ItemLine}
use Rattle.desk_questions.specs.Items.{item_row, line_at, line_members, line_wanted, members_of}
use Rattle.desk_questions.proofs.Listed.{items_then, then_none, then_one}
use Rattle.desk_questions.proofs.Wanted.{wanted_told}

-- so many of those that are asked for, from a number down
abbrev pub page : History → Wanted → ℕ → ℕ → List ℕ
page h w room left = take room (filter (is_wanted h w) (down_from left))

-- the rows so far, and those that are still to come
abbrev pub rows_then : History → Wanted → List ItemLine → ℕ → Items
rows_then h w rows left = items_then (objects line_members rows) (objects (item_row h) (page h w (100 - length rows) left))

module _ (h : History) (w : Wanted) where
  page_taken : (n room : ℕ) → is_wanted h w (suc n) ≡ true → page h w (suc room) (suc n) ≡ suc n ∷ page h w room n
  page_taken n room is = ap (λ (b : Bool). take (suc room) (if b then suc n ∷ filter (is_wanted h w) (down_from n) else filter (is_wanted h w) (down_from n))) is

  page_passed : (n room : ℕ) → is_wanted h w (suc n) ≡ false → page h w room (suc n) ≡ page h w room n
  page_passed n room is = ap (λ (b : Bool). take room (if b then suc n ∷ filter (is_wanted h w) (down_from n) else filter (is_wanted h w) (down_from n))) is

  -- one that is asked for has its line
  line_there : (i : ℕ) → is_wanted h w i ≡ true → (line : ItemLine) × (line_at h i ≡ Some line)
  line_there i is = wanted_told w i (last_wire h i) (λ (it : Item). state_at (moment h) (standing_first i ((made h).standing)) it.state) (item h i) is

  wanted_line : (i : ℕ) (line : ItemLine) → is_wanted h w i ≡ true → line_at h i ≡ Some line → line_wanted h w i ≡ Some line
  wanted_line i line is told = ap (λ (b : Bool). if b then line_at h i else None) is ∙ told

  unwanted_line : (i : ℕ) → is_wanted h w i ≡ false → line_wanted h w i ≡ None
  unwanted_line i is = ap (λ (b : Bool). if b then line_at h i else None) is

  step_taken : (rows : List ItemLine) (n : ℕ) → length rows < 100 → is_wanted h w (suc n) ≡ true → rows_then h w rows (suc n) ≡ rows_then h w (rows ++ option_to_list (line_wanted h w (suc n))) n
  step_taken rows n few is =
      let there = line_there (suc n) is in
      let line : ItemLine = there.0 in
      let more : 100 - length rows ≡ suc (100 - length (rows ++ line ∷ [])) = omega (arith, length-append rows (line ∷ [])) in
      let left = page h w (100 - length (rows ++ line ∷ [])) n in
      ap (λ (k : ℕ). items_then (objects line_members rows) (objects (item_row h) (page h w k (suc n)))) more
      ∙ ap (λ (l : List ℕ). items_then (objects line_members rows) (objects (item_row h) l)) (page_taken n (100 - length (rows ++ line ∷ [])) is)
      ∙ ap (λ (m : Members). items_then (objects line_members rows) (items_item (object m) (objects (item_row h) left))) (ap members_of there.1)
      ∙ sym (then_one line_members rows line (objects (item_row h) left))
      ∙ ap (λ (o : Option ItemLine). rows_then h w (rows ++ option_to_list o) n) (sym (wanted_line (suc n) line is there.1))

  step_passed : (rows : List ItemLine) (n : ℕ) → is_wanted h w (suc n) ≡ false → rows_then h w rows (suc n) ≡ rows_then h w (rows ++ option_to_list (line_wanted h w (suc n))) n
  step_passed rows n is =
      ap (λ (l : List ℕ). items_then (objects line_members rows) (objects (item_row h) l)) (page_passed n (100 - length rows) is)
      ∙ ap (λ (l : List ItemLine). rows_then h w l n) (sym (append-nil rows))
      ∙ ap (λ (o : Option ItemLine). rows_then h w (rows ++ option_to_list o) n) (sym (unwanted_line (suc n) is))

  stepped : (rows : List ItemLine) (n : ℕ) → length rows < 100 → rows_then h w rows (suc n) ≡ rows_then h w (rows ++ option_to_list (line_wanted h w (suc n))) n
  stepped rows n few =
      elim (is_wanted h w (suc n)) as (λ v. is_wanted h w (suc n) ≡ v → rows_then h w rows (suc n) ≡ rows_then h w (rows ++ option_to_list (line_wanted h w (suc n))) n) [
        | true ↦ λ is. step_taken rows n few is
        | false ↦ λ is. step_passed rows n is
      ] refl

  -- the item of a number is looked at
  pub step : (rows : List ItemLine) (left : ℕ) → 0 < left → length rows < 100 → rows_then h w rows left ≡ rows_then h w (rows ++ option_to_list (line_wanted h w left)) (left - 1)
  step rows zero above few = absurd (omega arith)
  step rows (suc n) above few =
      let before : suc n - 1 ≡ n = omega arith in
      stepped rows n few ∙ ap (λ (k : ℕ). rows_then h w (rows ++ option_to_list (line_wanted h w (suc n))) k) (sym before)

  -- no number is left, or the page is full
  pub whole : (rows : List ItemLine) (left : ℕ) → (left ≡ 0) ⊎ (100 ≤ length rows) → rows_then h w rows left ≡ objects line_members rows
  whole rows left (inl none) =
      let nothing : take (100 - length rows) [] ≡ [] = take_none (100 - length rows) in
      ap (λ (k : ℕ). rows_then h w rows k) none ∙ ap (λ (l : List ℕ). items_then (objects line_members rows) (objects (item_row h) l)) nothing ∙ then_none (objects line_members rows)
    where
      take_none : (k : ℕ) → take {A = ℕ} k [] ≡ []
      take_none zero = refl
      take_none (suc k) = refl
  whole rows left (inr full) =
      let nothing : 100 - length rows ≡ 0 = omega arith in
      ap (λ (k : ℕ). items_then (objects line_members rows) (objects (item_row h) (page h w k left))) nothing ∙ then_none (objects line_members rows)
