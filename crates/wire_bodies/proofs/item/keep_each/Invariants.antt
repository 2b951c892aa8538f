use Rattle.std.proofs.Common.{◌≡◌, ◌++◌, map, All, IfOk}
use Rattle.news_types.specs.Fits.{FitsIncoming}
use Rattle.wire_bodies.specs.Bodies.{agency_item_member, FitsMember}
use Rattle.wire_bodies.proofs.item.keep_each.Given as goal

abbrev pub invariant-loop-told : goal.invariant-loop-told
invariant-loop-told l = record {
  kept : l.members.items ++ map agency_item_member l.told-iterator.rest.items ≡ map agency_item_member l.fn.read.items;
  left : All (λ told. IfOk told FitsIncoming) l.told-iterator.rest.items;
  fits : All FitsMember l.members.items;
}
