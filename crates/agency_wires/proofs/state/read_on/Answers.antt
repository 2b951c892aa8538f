use Rattle.std.proofs.Common.{◌++◌, ◌+◌, ap, ◌∙◌, arith, length, refl}
use Rattle.agency_wires.specs.State.{closing}
use Rattle.text7901.proofs.Parts.{place_found, place_none}
use Rattle.agency_wires.proofs.Ahead.{opened_in, ended_in, outside_quiet}
use Rattle.agency_wires.proofs.state.read_on.Goals as goal

pub returns-in-Open-clause-members : goal.returns-in-Open-clause-members
returns-in-Open-clause-members c = λ more.
    let l = c.loop-gap in
    let h = place_found 1 l.rest.now c.in-Some.gap c.in-Some.ensures.place in
    opened_in l.at c.in-Some.gap (c.args.start + length c.args.piece.now) l.rest.now c.split_at.result.1.now more l.made.items c.in-Open.phase h c.split_at.ensures.back l.invariant.place ∙ l.invariant.members more

pub loop-gap-preserved : goal.loop-gap-preserved
loop-gap-preserved c =
    let l = c.loop-gap in
    let h = place_found 1 l.rest.now c.in-Some.gap c.in-Some.ensures.place in
    record {
      place = omega (arith, l.invariant.place, c.split_at.ensures.back_len, c.split_at-in-Ended.ensures.back_len);
      members = λ more.
          ended_in l.at c.in-Some.gap c.in-Ended.len l.rest.now c.split_at.result.1.now c.split_at-in-Ended.result.0.now c.split_at-in-Ended.result.1.now more l.made.items c.put_member.new.made.items
          (closing (l.at + c.in-Some.gap + 1 + c.in-Ended.len) c.split_at-in-Ended.result.0.now c.in-Ended.end) c.in-Ended.end h c.split_at.ensures.back c.in-Ended.ensures c.split_at-in-Ended.ensures.front c.split_at-in-Ended.ensures.back
          refl c.in_ok-put_member-in-Ended.ensures.members
          ∙ l.invariant.members more;
    }

pub returns-clause-members : goal.returns-clause-members
returns-clause-members c = λ more.
    let l = c.loop-gap in
    ap (λ z. l.made.items ++ z) (outside_quiet l.at (c.args.start + length c.args.piece.now) l.rest.now more (place_none 1 l.rest.now c.in_default.ensures.place) l.invariant.place) ∙ l.invariant.members more
