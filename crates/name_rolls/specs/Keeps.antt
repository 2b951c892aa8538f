-- Which names the rolls keep.
use Rattle.std.specs.Prelude.{◌≡◌, Bool, false, List, [], ◌∷◌, Some, None, if◌then◌else◌}
use Rattle.news_types.specs.Names.{Bytes}
use Rattle.news_types.specs.History.{History, fact_of}
use Rattle.news_types.specs.Desks.{is_desk, incoming, working}
use Rattle.news_types.specs.Answers.{in_order}
use Rattle.desk_views.specs.declared.question.Register.{Register}
use Rattle.desk_views.specs.declared.question.Register.TheVariants as register
use Rattle.desk_views.specs.Things.{names_of, stages_after}
use Rattle.name_rolls.specs.declared.rolls.Rolls.{Rolls}
use Rattle.name_rolls.specs.Rolls.{roll_of, names_in, names_at}

-- the names of each kind, the one that was added last first
pub record AllNames : Type 0 where
  pub users : List Bytes
  pub desks : List Bytes
  pub conditions : List Bytes
  pub filters : List Bytes
  pub products : List Bytes
  pub subscribers : List Bytes
  pub schemes : List Bytes
  pub providers : List Bytes

abbrev pub all_names : History → AllNames
all_names h = record {
  users = names_of register.Users h;
  desks = names_of register.Desks h;
  conditions = names_of register.Conditions h;
  filters = names_of register.Filters h;
  products = names_of register.Products h;
  subscribers = names_of register.Subscribers h;
  schemes = names_of register.Schemes h;
  providers = names_of register.Providers h;
}

-- those of a kind
abbrev pub names_for : Register → AllNames → List Bytes
names_for register.Users names = names.users
names_for register.Desks names = names.desks
names_for register.Conditions names = names.conditions
names_for register.Filters names = names.filters
names_for register.Products names = names.products
names_for register.Subscribers names = names.subscribers
names_for register.Schemes names = names.schemes
names_for register.Providers names = names.providers

-- the rolls keep these names, the desks that are there, and the stages of each
pub record Keeps (t : Rolls) (names : AllNames) (is_desk : Bytes → Bool) (stages : Bytes → List Bytes) : Type 0 where
  pub each : (of : Register) → names_in (roll_of of t) ≡ in_order (names_for of names)
  pub stages_of : (desk : Bytes) → names_at t.stages desk ≡ (if is_desk desk then Some (in_order (stages desk)) else None)
  pub others : (desk : Bytes) → is_desk desk ≡ false → stages desk ≡ incoming ∷ working ∷ []  -- a desk that is not there has those that it would have from its start

-- the stages of a desk, the one that was added last first
abbrev pub stages_in : History → Bytes → List Bytes
stages_in h desk = fact_of (incoming ∷ working ∷ []) (stages_after desk) h

-- the rolls keep the names of the list
abbrev pub KeepsRolls : Rolls → History → Type 0
KeepsRolls t h = Keeps t (all_names h) (λ desk. is_desk h desk) (λ desk. stages_in h desk)

-- the rolls keep the same
pub record IsAlike (t r : Rolls) : Type 0 where
  pub each : (of : Register) → names_in (roll_of of r) ≡ names_in (roll_of of t)
  pub stages_of : (desk : Bytes) → names_at r.stages desk ≡ names_at t.stages desk
