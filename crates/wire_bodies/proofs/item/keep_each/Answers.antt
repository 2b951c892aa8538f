use Rattle.std.proofs.Common.{◌≡◌, ◌++◌, [], List, Result, IfOk, map, ap, sym, ◌∙◌, arith}
use Rattle.std.proofs.lemmas.List.{nil_from_length}
use Rattle.std.proofs.lemmas.List.Elements.{All-nil, All-head, All-rest, All-same}
use Rattle.news_types.specs.Fits.{FitsIncoming}
use Rattle.news_types.specs.declared.story.Incoming.{Incoming}
use Rattle.agency_items.specs.declared.fault.ItemFault.{ItemFault}
use Rattle.wire_bodies.specs.declared.member.BodyMember.{BodyMember}
use Rattle.wire_bodies.specs.Bodies.{agency_item_member, FitsMember}
use Rattle.wire_bodies.proofs.Counted.{kept_next, kept_last}
use Rattle.wire_bodies.proofs.item.keep_each.Goals as goal

pub loop-told-init : goal.loop-told-init
loop-told-init c =
    let rest : c.into_iter-told-iterator.result.rest.items ≡ c.args.read.items = c.into_iter-told-iterator.ensures.into_iter_gives.0 in
    let none : c.new-members.result.items ≡ [] = c.new-members.ensures.items in
    record {
      kept = ap (λ (l : List BodyMember). l ++ map agency_item_member c.into_iter-told-iterator.result.rest.items) none ∙ ap (λ (l : List (Result Incoming ItemFault)). map agency_item_member l) rest;
      left = All-same (λ (told : Result Incoming ItemFault). IfOk told FitsIncoming) _ _ rest c.requires;
      fits = All-same FitsMember _ _ none (All-nil FitsMember);
    }

pub keep_item-requires : goal.keep_item-requires
keep_item-requires c =
    All-head (λ (told : Result Incoming ItemFault). IfOk told FitsIncoming) _ _ (All-same (λ (told : Result Incoming ItemFault). IfOk told FitsIncoming) _ _ (sym c.in-Some.ensures.steps.0) c.loop-told.invariant.left)

pub loop-told-preserved : goal.loop-told-preserved
loop-told-preserved c =
    let inv = c.loop-told.invariant in
    record {
      kept =
          ap (λ (l : List BodyMember). l ++ map agency_item_member c.next.new.self.rest.items) c.in_ok-keep_item.ensures.kept
          ∙ kept_next agency_item_member _ _ _ _ _ c.in-Some.ensures.steps.0 inv.kept;
      left = All-rest (λ (told : Result Incoming ItemFault). IfOk told FitsIncoming) _ _ _ c.in-Some.ensures.steps.0 inv.left;
      fits = c.in_ok-keep_item.ensures.fits inv.fits;
    }

pub returns-clause-value : goal.returns-clause-value
returns-clause-value c =
    let it = c.loop-told.told-iterator in
    let none : it.rest.items ≡ [] = nil_from_length it.rest.items (omega (arith, it.rest.ok.0, c.in-None.ensures.steps.0)) in
    kept_last agency_item_member _ _ _ none c.loop-told.invariant.kept
