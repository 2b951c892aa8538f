-- What the table keeps of a list: users, desks, stages and members, and where each item stands and who holds it.
use Rattle.std.specs.Prelude.{ℕ, Bool, false, ◌&&◌, ◌||◌, List, map, Option}
use Rattle.news_types.specs.declared.words.Privileges.{Privileges}
use Rattle.news_types.specs.Names.{Bytes, same}
use Rattle.news_types.specs.History.{History, fact_of}
use Rattle.news_types.specs.Users.{privileges, user_count}
use Rattle.news_types.specs.Desks.{is_desk, desk_count, incoming, working, stage_after, stage_count, is_member}
use Rattle.news_types.specs.Items.{Item}
use Rattle.news_types.specs.Publications.{made}
use Rattle.desk_rules.specs.Spots.{Spot}

pub record Facts : Type 0 where
  pub privileges : Bytes → Option Privileges
  pub users : ℕ
  pub is_desk : Bytes → Bool
  pub desks : ℕ
  pub is_added : Bytes → Bytes → Bool  -- the stage was added to the desk, which has two from its start
  pub stages : Bytes → ℕ
  pub is_member : Bytes → Bytes → Bool
  pub spots : List Spot

-- the desk is there and has the stage
abbrev pub has_stage : Facts → Bytes → Bytes → Bool
has_stage f desk stage = f.is_desk desk && (same stage incoming || same stage working || f.is_added desk stage)

abbrev pub spot_of : Item → Spot
spot_of it = record { place = it.place; holder = it.holder }

-- the facts of a list
abbrev pub facts : History → Facts
facts h = record {
  privileges = λ name. privileges h name;
  users = user_count h;
  is_desk = λ name. is_desk h name;
  desks = desk_count h;
  is_added = λ desk stage. fact_of false (stage_after desk stage) h;
  stages = λ desk. stage_count h desk;
  is_member = λ desk user. is_member h desk user;
  spots = map spot_of ((made h).items);
}
