-- Names on desks.
use Rattle.std.specs.Prelude.{Bool, ◌&&◌}
use Rattle.news_types.specs.declared.rules.Place.{Place}
use Rattle.news_types.specs.Names.{Bytes, same}
use Rattle.desk_rules.specs.declared.on_desk.OnDesk.{OnDesk}

-- the same desk, and the same name
abbrev pub same_on : OnDesk → OnDesk → Bool
same_on a b = same a.desk b.desk && same a.name b.name

abbrev pub on_desk : Bytes → Bytes → OnDesk
on_desk desk name = record { desk = desk; name = name }

-- the name, as that of a stage
abbrev pub place_of : OnDesk → Place
place_of key = record { desk = key.desk; stage = key.name }
