-- The rolls behind a request.
use Rattle.std.proofs.Common.{◌≡◌, ℕ, Bool, true, false, ◌||◌, cond, List, [], ◌∷◌, Option, Some, None, refl, sym, ap, ◌∙◌, subst}
use Rattle.std.specs.HashMap.{get}
use Rattle.std.specs.Option.{option_map}
use Rattle.std.proofs.lemmas.Bool.{false≢true}
use Rattle.news_types.specs.declared.entry.Entry.{Entry}
use Rattle.news_types.specs.declared.entry.Act.TheVariants.{Request}
use Rattle.news_types.specs.declared.command.Command.{Command}
use Rattle.news_types.specs.declared.command.Command.TheVariants as command
use Rattle.news_types.specs.Names.{Bytes, same}
use Rattle.news_types.specs.History.{History}
use Rattle.news_types.specs.Desks.{is_desk, incoming, working, desk_after}
use Rattle.news_types.specs.Answers.{in_order}
use Rattle.news_types.proofs.Members.{same_is}
use Rattle.desk_views.specs.declared.question.Register.{Register}
use Rattle.desk_views.specs.declared.question.Register.TheVariants as register
use Rattle.desk_views.specs.Things.{names_of, stages_after}
use Rattle.name_rolls.specs.declared.roll.Roll.{Roll}
use Rattle.name_rolls.specs.declared.rolls.Rolls.{Rolls}
use Rattle.name_rolls.specs.declared.change.NewName.{NewName}
use Rattle.name_rolls.specs.Rolls.{roll_of, names_in, names_at, same_register}
use Rattle.name_rolls.specs.Keeps.{KeepsRolls, IsAlike, stages_in, all_names, names_for}
use Rattle.name_rolls.specs.Steps.{added, changes_stages}
use Rattle.name_rolls.proofs.Added.{all_are, register_is, after, added_after, none_after, desk_added_after, stage_added_after, desks_stay, stages_stay, names_behind, desk_behind, stages_behind}

pub kept_alike : (t r : Rolls) (h : History) → IsAlike t r → KeepsRolls t h → KeepsRolls r h
kept_alike t r h alike keeps = record {
  each = λ of. alike.each of ∙ keeps.each of;
  stages_of = λ desk. alike.stages_of desk ∙ keeps.stages_of desk;
  others = keeps.others;
}

pub each_of : (t : Rolls) (h : History) → KeepsRolls t h → (of : Register) → names_in (roll_of of t) ≡ in_order (names_of of h)
each_of t h keeps of = keeps.each of ∙ ap in_order (all_are h of)

of_each : (t : Rolls) (h : History) → ((of : Register) → names_in (roll_of of t) ≡ in_order (names_of of h)) → (of : Register) → names_in (roll_of of t) ≡ in_order (names_for of (all_names h))
of_each t h each of = each of ∙ ap in_order (sym (all_are h of))

-- one more name is in the roll of a kind, and the other rolls are the same
abbrev pub IsPut : Register → Bytes → Rolls → Rolls → Type 0
IsPut of name t r =
    ((names : List Bytes) → names_in (roll_of of t) ≡ in_order names → names_in (roll_of of r) ≡ in_order (name ∷ names))
    × ((other : Register) → same_register of other ≡ false → roll_of other r ≡ roll_of other t)

abbrev shown : Bool → List Bytes → Option (List Bytes)
shown there names = cond there (Some (in_order names)) None

module _ (t r : Rolls) (h : History) (e : Entry) (caller : Bytes) (number : ℕ) (given : Command) (act : e.act ≡ Request caller number given) (keeps : KeepsRolls t h) where
  names_now : (of : Register) → names_of of (e ∷ h) ≡ after h given of
  names_now = names_behind h e caller number given act

  desk_now : (name : Bytes) → is_desk (e ∷ h) name ≡ desk_after name given (is_desk h name)
  desk_now = desk_behind h e caller number given act

  stages_now : (name : Bytes) → stages_in (e ∷ h) name ≡ stages_after name given (stages_in h name)
  stages_now = stages_behind h e caller number given act

  -- desks and stages stay
  module _ (other : changes_stages given ≡ false) where
    same_desk : (name : Bytes) → is_desk (e ∷ h) name ≡ is_desk h name
    same_desk name = desk_now name ∙ desks_stay h given other name

    same_stages : (name : Bytes) → stages_in (e ∷ h) name ≡ stages_in h name
    same_stages name = stages_now name ∙ stages_stay h given other name

    kept_stages : ((name : Bytes) → names_at r.stages name ≡ names_at t.stages name) → ((of : Register) → names_in (roll_of of r) ≡ in_order (names_of of (e ∷ h))) → KeepsRolls r (e ∷ h)
    kept_stages alike each = record {
      each = of_each r (e ∷ h) each;
      stages_of = λ desk. rw (same_desk desk, same_stages desk) (alike desk ∙ keeps.stages_of desk);
      others = λ desk none. same_stages desk ∙ keeps.others desk (sym (same_desk desk) ∙ none);
    }

    pub kept_nothing : r ≡ t → added given ≡ None → KeepsRolls r (e ∷ h)
    kept_nothing is none = kept_stages (λ name. ap (λ (x : Rolls). names_at x.stages name) is) (λ of. ap (λ (x : Rolls). names_in (roll_of of x)) is ∙ each_of t h keeps of ∙ ap in_order (sym (names_now of ∙ none_after h given none other of)))

    pub kept_name : (new : NewName) → added given ≡ Some new → IsPut new.of new.name t r → r.stages ≡ t.stages → KeepsRolls r (e ∷ h)
    kept_name new is put stays = kept_stages (λ name. ap (λ m. names_at m name) stays) each
      where
        each : (of : Register) → names_in (roll_of of r) ≡ in_order (names_of of (e ∷ h))
        each of = elim (same_register new.of of) as (λ b. same_register new.of of ≡ b → names_in (roll_of of r) ≡ in_order (names_of of (e ∷ h))) [
          | true ↦ λ here.
              let there : names_of of (e ∷ h) ≡ new.name ∷ names_of of h = names_now of ∙ added_after h given new is of ∙ ap (λ b. cond b (new.name ∷ names_of of h) (names_of of h)) here in
              let more : names_in (roll_of of r) ≡ in_order (new.name ∷ names_of of h) = rw (← register_is new.of of here) (put.0 (names_of new.of h) (each_of t h keeps new.of)) in
              more ∙ ap in_order (sym there)
          | false ↦ λ isnt.
              let there : names_of of (e ∷ h) ≡ names_of of h = names_now of ∙ added_after h given new is of ∙ ap (λ b. cond b (new.name ∷ names_of of h) (names_of of h)) isnt in
              ap names_in (put.1 of isnt) ∙ each_of t h keeps of ∙ ap in_order (sym there)
        ] refl

-- a desk that was not there, with its first stages
module _ (t r : Rolls) (h : History) (e : Entry) (caller : Bytes) (number : ℕ) (desk : Bytes) (act : e.act ≡ Request caller number (command.AddDesk desk)) (keeps : KeepsRolls t h) (new : is_desk h desk ≡ false) where
  pub kept_desk : (first : Roll) → names_in first ≡ in_order (incoming ∷ working ∷ []) → IsPut register.Desks desk t r
      → ((other : Bytes) → get same r.stages other ≡ cond (same desk other) (Some first) (get same t.stages other)) → KeepsRolls r (e ∷ h)
  kept_desk first named put stays = record { each = of_each r (e ∷ h) each; stages_of = stages_of; others = others }
    where
      now : (of : Register) → names_of of (e ∷ h) ≡ after h (command.AddDesk desk) of
      now = names_behind h e caller number (command.AddDesk desk) act

      there : (name : Bytes) → is_desk (e ∷ h) name ≡ (same desk name || is_desk h name)
      there = desk_behind h e caller number (command.AddDesk desk) act

      stages : (name : Bytes) → stages_in (e ∷ h) name ≡ stages_in h name
      stages = stages_behind h e caller number (command.AddDesk desk) act

      each : (of : Register) → names_in (roll_of of r) ≡ in_order (names_of of (e ∷ h))
      each of = elim (same_register register.Desks of) as (λ b. same_register register.Desks of ≡ b → names_in (roll_of of r) ≡ in_order (names_of of (e ∷ h))) [
        | true ↦ λ here. rw (← register_is register.Desks of here) (put.0 (names_of register.Desks h) (each_of t h keeps register.Desks) ∙ ap in_order (sym (now register.Desks)))
        | false ↦ λ isnt. ap names_in (put.1 of isnt) ∙ each_of t h keeps of ∙ ap in_order (sym (now of ∙ desk_added_after h desk of isnt))
      ] refl

      stages_of : (name : Bytes) → names_at r.stages name ≡ shown (is_desk (e ∷ h) name) (stages_in (e ∷ h) name)
      stages_of name = elim (same desk name) as (λ b. same desk name ≡ b → names_at r.stages name ≡ shown (is_desk (e ∷ h) name) (stages_in (e ∷ h) name)) [
        | true ↦ λ here.
            let got : names_at r.stages name ≡ Some (names_in first) = ap (option_map names_in) (stays name ∙ ap (λ b. cond b (Some first) (get same t.stages name)) here) in
            let is : is_desk (e ∷ h) name ≡ true = there name ∙ ap (λ b. b || is_desk h name) here in
            let two : stages_in (e ∷ h) name ≡ incoming ∷ working ∷ [] = stages name ∙ keeps.others name (rw (← same_is desk name here) new) in
            rw (is, two) (got ∙ ap Some named)
        | false ↦ λ isnt.
            let got : names_at r.stages name ≡ names_at t.stages name = ap (option_map names_in) (stays name ∙ ap (λ b. cond b (Some first) (get same t.stages name)) isnt) in
            let is : is_desk (e ∷ h) name ≡ is_desk h name = there name ∙ ap (λ b. b || is_desk h name) isnt in
            rw (is, stages name) (got ∙ keeps.stages_of name)
      ] refl

      others : (name : Bytes) → is_desk (e ∷ h) name ≡ false → stages_in (e ∷ h) name ≡ incoming ∷ working ∷ []
      others name none = elim (same desk name) as (λ b. same desk name ≡ b → stages_in (e ∷ h) name ≡ incoming ∷ working ∷ []) [
        | true ↦ λ here. absurd (false≢true (sym none ∙ there name ∙ ap (λ b. b || is_desk h name) here))
        | false ↦ λ isnt. stages name ∙ keeps.others name (sym (there name ∙ ap (λ b. b || is_desk h name) isnt) ∙ none)
      ] refl

-- one more stage of a desk that is there
module _ (t r : Rolls) (h : History) (e : Entry) (caller : Bytes) (number : ℕ) (desk stage : Bytes) (act : e.act ≡ Request caller number (command.AddStage desk stage)) (keeps : KeepsRolls t h) (old : is_desk h desk ≡ true) where
  pub kept_stage : ((of : Register) → roll_of of r ≡ roll_of of t)
      → ((names : List Bytes) → names_at t.stages desk ≡ Some (in_order names) → names_at r.stages desk ≡ Some (in_order (stage ∷ names)))
      → ((other : Bytes) → same desk other ≡ false → names_at r.stages other ≡ names_at t.stages other) → KeepsRolls r (e ∷ h)
  kept_stage rolls one rest = record {
    each = of_each r (e ∷ h) (λ of. ap names_in (rolls of) ∙ each_of t h keeps of ∙ ap in_order (sym (names_behind h e caller number (command.AddStage desk stage) act of ∙ stage_added_after h desk stage of)));
    stages_of = stages_of;
    others = others;
  }
    where
      there : (name : Bytes) → is_desk (e ∷ h) name ≡ is_desk h name
      there = desk_behind h e caller number (command.AddStage desk stage) act

      stages : (name : Bytes) → stages_in (e ∷ h) name ≡ cond (same desk name) (stage ∷ stages_in h name) (stages_in h name)
      stages = stages_behind h e caller number (command.AddStage desk stage) act

      more : names_at r.stages desk ≡ Some (in_order (stage ∷ stages_in h desk))
      more = one (stages_in h desk) (keeps.stages_of desk ∙ ap (λ b. shown b (stages_in h desk)) old)

      stages_of : (name : Bytes) → names_at r.stages name ≡ shown (is_desk (e ∷ h) name) (stages_in (e ∷ h) name)
      stages_of name = elim (same desk name) as (λ b. same desk name ≡ b → names_at r.stages name ≡ shown (is_desk (e ∷ h) name) (stages_in (e ∷ h) name)) [
        | true ↦ λ here.
            let is : desk ≡ name = same_is desk name here in
            let alike : names_at r.stages name ≡ Some (in_order (stage ∷ stages_in h name)) = subst (λ n. names_at r.stages n ≡ Some (in_order (stage ∷ stages_in h n))) is more in
            let yes : is_desk (e ∷ h) name ≡ true = there name ∙ rw (← is) old in
            let now : stages_in (e ∷ h) name ≡ stage ∷ stages_in h name = stages name ∙ ap (λ b. cond b (stage ∷ stages_in h name) (stages_in h name)) here in
            rw (yes, now) alike
        | false ↦ λ isnt.
            let now : stages_in (e ∷ h) name ≡ stages_in h name = stages name ∙ ap (λ b. cond b (stage ∷ stages_in h name) (stages_in h name)) isnt in
            rw (there name, now) (rest name isnt ∙ keeps.stages_of name)
      ] refl

      others : (name : Bytes) → is_desk (e ∷ h) name ≡ false → stages_in (e ∷ h) name ≡ incoming ∷ working ∷ []
      others name none = elim (same desk name) as (λ b. same desk name ≡ b → stages_in (e ∷ h) name ≡ incoming ∷ working ∷ []) [
        | true ↦ λ here. absurd (false≢true (sym none ∙ there name ∙ rw (← same_is desk name here) old))
        | false ↦ λ isnt. stages name ∙ ap (λ b. cond b (stage ∷ stages_in h name) (stages_in h name)) isnt ∙ keeps.others name (sym (there name) ∙ none)
      ] refl
