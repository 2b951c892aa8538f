use Rattle.std.proofs.Common.{[], ◌∷◌, refl, sym, subst}
use Rattle.news_types.specs.Names.{Bytes}
use Rattle.news_types.specs.Books.{onto}
use Rattle.news_types.specs.Calls.{ticked}
use Rattle.news_types.specs.History.{moment_at}
use Rattle.news_room.specs.Stands.{numbers}
use Rattle.news_room.specs.declared.claim.Claimed as claims
use Rattle.publish_workers.specs.declared.worked.Worked.{Worked}
use Rattle.publish_workers.specs.Links.{Passes, CountsFaults}
use Rattle.publish_workers.specs.Turns.{Turn, Unsent, frames_to, replies_from, passed_with, receipt_readings, is_store_fault}
use Rattle.publish_workers.proofs.Named.{choice_named}
use Rattle.publish_workers.proofs.Exchanging.{passes_none, reads_then}
use Rattle.publish_workers.proofs.Turning.{job_there, job_turn, idle_turn, fault_turn, full_turn, memory_turn, turn_counts, claimed_as}
use Rattle.publish_workers.proofs.turn.deliver_turn.Goals as goal

pub claim-requires : goal.claim-requires
claim-requires g c = record { stands = c.requires.stands }

pub exchange-requires-clause-stands : goal.exchange-requires-clause-stands
exchange-requires-clause-stands g c =
    let r = c.claim.ensures in
    let b = c.requires.stands.0 in
    (onto r.0 b, (r.1 b c.requires.stands.1).stands)

pub exchange-requires-clause-served : goal.exchange-requires-clause-served
exchange-requires-clause-served g c =
    let r = c.claim.ensures in
    let b = c.requires.stands.0 in
    let claim = claimed_as g.K.Keeper.keeper c.args.room.now c.claim.new.self b r.0 c.names.result.now (g.L.Link.link.serves c.args.link.now) c.now-now.result c.claim.result (claims.Claimed.Job c.in-Job.subscriber c.in-Job.k c.in-Job.frame c.in-Job.front) c.names.ensures c.in-Job.is (r.1 b c.requires.stands.1) in
    let names = g.L.Link.link.serves c.args.link.now in
    let m = moment_at b.list c.now-now.result in
    choice_named (ticked b.list m) names m c.in-Job.subscriber c.in-Job.k claim.step.0

pub returns-in-Job-clause-turn : goal.returns-in-Job-clause-turn
returns-in-Job-clause-turn g c =
    let r = c.claim.ensures in
    let e = c.exchange.ensures.went in
    let s = c.in-Job.subscriber in
    let t : Turn = record { reading = c.now-now.result; claimed = claims.Claimed.Job c.in-Job.subscriber c.in-Job.k c.in-Job.frame c.in-Job.front; exchange = e.0 } in (
      t,
      e.1,
      (
        c.claim.new.self,
        r.0,
        e.2.0,
        λ b is.
            let claim = claimed_as g.K.Keeper.keeper c.args.room.now c.claim.new.self b r.0 c.names.result.now (g.L.Link.link.serves c.args.link.now) c.now-now.result c.claim.result (claims.Claimed.Job c.in-Job.subscriber c.in-Job.k c.in-Job.frame c.in-Job.front) c.names.ensures c.in-Job.is (r.1 b is) in
            let then = e.2.1 (onto r.0 b) claim.stands in
            let there = job_there (numbers g.K.Keeper.keeper c.args.room.now c.claim.new.self) b c.now-now.result (g.L.Link.link.serves c.args.link.now) r.0 c.in-Job.subscriber c.in-Job.k c.in-Job.frame c.in-Job.front claim.step in
            job_turn g.K.Keeper.keeper c.args.room.now c.claim.new.self b (g.L.Link.link.serves c.args.link.now) c.now-now.result r.0 c.in-Job.subscriber c.in-Job.k c.in-Job.frame c.in-Job.front claim c.exchange.new.room e.0 e.2.0 then.0 (then.1 there),
      ),
      λ told. subst (λ (bytes : Bytes). Passes g.L.Link.link c.args.link.now c.exchange.new.link (frames_to s bytes e.0) (replies_from s e.0) (passed_with s bytes e.0)) c.as_slice.ensures (e.3 told),
      λ told. let first = c.now-now.ensures.told told in
          reads_then g.C.Clock.clock c.args.clock.now c.now-now.new.self c.exchange.new.clock (c.now-now.result ∷ []) (receipt_readings e.0) (record { tells = first; gave = c.now-now.ensures.given told }) (e.4 first),
    )

pub returns-in-Job-clause-link_faults : goal.returns-in-Job-clause-link_faults
returns-in-Job-clause-link_faults g c = c.exchange.ensures.link_faults

pub returns-in-Job-clause-store_faults : goal.returns-in-Job-clause-store_faults
returns-in-Job-clause-store_faults g c =
    let r = c.claim.ensures in
    let e = c.exchange.ensures.went in
    let b = c.requires.stands.0 in
    let is = c.requires.stands.1 in
    let t : Turn = record { reading = c.now-now.result; claimed = claims.Claimed.Job c.in-Job.subscriber c.in-Job.k c.in-Job.frame c.in-Job.front; exchange = e.0 } in
    let happens =
    let claim = claimed_as g.K.Keeper.keeper c.args.room.now c.claim.new.self b r.0 c.names.result.now (g.L.Link.link.serves c.args.link.now) c.now-now.result c.claim.result (claims.Claimed.Job c.in-Job.subscriber c.in-Job.k c.in-Job.frame c.in-Job.front) c.names.ensures c.in-Job.is (r.1 b is) in
    let then = e.2.1 (onto r.0 b) claim.stands in
    let there = job_there (numbers g.K.Keeper.keeper c.args.room.now c.claim.new.self) b c.now-now.result (g.L.Link.link.serves c.args.link.now) r.0 c.in-Job.subscriber c.in-Job.k c.in-Job.frame c.in-Job.front claim.step in
    job_turn g.K.Keeper.keeper c.args.room.now c.claim.new.self b (g.L.Link.link.serves c.args.link.now) c.now-now.result r.0 c.in-Job.subscriber c.in-Job.k c.in-Job.frame c.in-Job.front claim c.exchange.new.room e.0 e.2.0 then.0 (then.1 there) in
    subst (λ (w : Worked). CountsFaults (is_store_fault w) (g.K.Keeper.keeper.faults c.args.room.now.keeper) (g.K.Keeper.keeper.faults c.exchange.new.room.keeper)) (sym e.1)
    (turn_counts g.K.Keeper.keeper c.args.room.now c.claim.new.self c.exchange.new.room b (g.L.Link.link.serves c.args.link.now) t r.0 e.2.0 happens)

pub returns-in-Job-clause-serves : goal.returns-in-Job-clause-serves
returns-in-Job-clause-serves g c = c.exchange.ensures.serves

pub returns-in-Idle-clause-turn : goal.returns-in-Idle-clause-turn
returns-in-Idle-clause-turn g c =
    let r = c.claim.ensures in
    let t : Turn = record { reading = c.now-now.result; claimed = claims.Claimed.Idle c.in-Idle.next; exchange = Unsent } in (
      t,
      refl,
      (c.claim.new.self, r.0, [], λ b is. idle_turn g.K.Keeper.keeper c.args.room.now c.claim.new.self b (g.L.Link.link.serves c.args.link.now) c.now-now.result r.0 c.in-Idle.next (claimed_as g.K.Keeper.keeper c.args.room.now c.claim.new.self b r.0 c.names.result.now (g.L.Link.link.serves c.args.link.now) c.now-now.result c.claim.result (claims.Claimed.Idle c.in-Idle.next) c.names.ensures c.in-Idle.is (r.1 b is))),
      λ told. passes_none g.L.Link.link c.args.link.now told,
      λ told. record { tells = c.now-now.ensures.told told; gave = c.now-now.ensures.given told },
    )

pub returns-in-Idle-clause-link_faults : goal.returns-in-Idle-clause-link_faults
returns-in-Idle-clause-link_faults g c = refl

pub returns-in-Idle-clause-store_faults : goal.returns-in-Idle-clause-store_faults
returns-in-Idle-clause-store_faults g c =
    let r = c.claim.ensures in
    let b = c.requires.stands.0 in
    let is = c.requires.stands.1 in
    let t : Turn = record { reading = c.now-now.result; claimed = claims.Claimed.Idle c.in-Idle.next; exchange = Unsent } in
    turn_counts g.K.Keeper.keeper c.args.room.now c.claim.new.self c.claim.new.self b (g.L.Link.link.serves c.args.link.now) t r.0 [] (idle_turn g.K.Keeper.keeper c.args.room.now c.claim.new.self b (g.L.Link.link.serves c.args.link.now) c.now-now.result r.0 c.in-Idle.next (claimed_as g.K.Keeper.keeper c.args.room.now c.claim.new.self b r.0 c.names.result.now (g.L.Link.link.serves c.args.link.now) c.now-now.result c.claim.result (claims.Claimed.Idle c.in-Idle.next) c.names.ensures c.in-Idle.is (r.1 b is)))

pub returns-in-Idle-clause-serves : goal.returns-in-Idle-clause-serves
returns-in-Idle-clause-serves g c = refl

pub returns-in-Fault-clause-turn : goal.returns-in-Fault-clause-turn
returns-in-Fault-clause-turn g c =
    let r = c.claim.ensures in
    let t : Turn = record { reading = c.now-now.result; claimed = claims.Claimed.Fault; exchange = Unsent } in (
      t,
      refl,
      (c.claim.new.self, r.0, [], λ b is. fault_turn g.K.Keeper.keeper c.args.room.now c.claim.new.self b (g.L.Link.link.serves c.args.link.now) c.now-now.result r.0 (claimed_as g.K.Keeper.keeper c.args.room.now c.claim.new.self b r.0 c.names.result.now (g.L.Link.link.serves c.args.link.now) c.now-now.result c.claim.result claims.Claimed.Fault c.names.ensures c.in-Fault.is (r.1 b is))),
      λ told. passes_none g.L.Link.link c.args.link.now told,
      λ told. record { tells = c.now-now.ensures.told told; gave = c.now-now.ensures.given told },
    )

pub returns-in-Fault-clause-link_faults : goal.returns-in-Fault-clause-link_faults
returns-in-Fault-clause-link_faults g c = refl

pub returns-in-Fault-clause-store_faults : goal.returns-in-Fault-clause-store_faults
returns-in-Fault-clause-store_faults g c =
    let r = c.claim.ensures in
    let b = c.requires.stands.0 in
    let is = c.requires.stands.1 in
    let t : Turn = record { reading = c.now-now.result; claimed = claims.Claimed.Fault; exchange = Unsent } in
    turn_counts g.K.Keeper.keeper c.args.room.now c.claim.new.self c.claim.new.self b (g.L.Link.link.serves c.args.link.now) t r.0 [] (fault_turn g.K.Keeper.keeper c.args.room.now c.claim.new.self b (g.L.Link.link.serves c.args.link.now) c.now-now.result r.0 (claimed_as g.K.Keeper.keeper c.args.room.now c.claim.new.self b r.0 c.names.result.now (g.L.Link.link.serves c.args.link.now) c.now-now.result c.claim.result claims.Claimed.Fault c.names.ensures c.in-Fault.is (r.1 b is)))

pub returns-in-Fault-clause-serves : goal.returns-in-Fault-clause-serves
returns-in-Fault-clause-serves g c = refl

pub returns-in-Full-clause-turn : goal.returns-in-Full-clause-turn
returns-in-Full-clause-turn g c =
    let r = c.claim.ensures in
    let t : Turn = record { reading = c.now-now.result; claimed = claims.Claimed.Full c.in-Full.size c.in-Full.length; exchange = Unsent } in (
      t,
      refl,
      (c.claim.new.self, r.0, [], λ b is. full_turn g.K.Keeper.keeper c.args.room.now c.claim.new.self b (g.L.Link.link.serves c.args.link.now) c.now-now.result r.0 c.in-Full.size c.in-Full.length (claimed_as g.K.Keeper.keeper c.args.room.now c.claim.new.self b r.0 c.names.result.now (g.L.Link.link.serves c.args.link.now) c.now-now.result c.claim.result (claims.Claimed.Full c.in-Full.size c.in-Full.length) c.names.ensures c.in-Full.is (r.1 b is))),
      λ told. passes_none g.L.Link.link c.args.link.now told,
      λ told. record { tells = c.now-now.ensures.told told; gave = c.now-now.ensures.given told },
    )

pub returns-in-Full-clause-link_faults : goal.returns-in-Full-clause-link_faults
returns-in-Full-clause-link_faults g c = refl

pub returns-in-Full-clause-store_faults : goal.returns-in-Full-clause-store_faults
returns-in-Full-clause-store_faults g c =
    let r = c.claim.ensures in
    let b = c.requires.stands.0 in
    let is = c.requires.stands.1 in
    let t : Turn = record { reading = c.now-now.result; claimed = claims.Claimed.Full c.in-Full.size c.in-Full.length; exchange = Unsent } in
    turn_counts g.K.Keeper.keeper c.args.room.now c.claim.new.self c.claim.new.self b (g.L.Link.link.serves c.args.link.now) t r.0 [] (full_turn g.K.Keeper.keeper c.args.room.now c.claim.new.self b (g.L.Link.link.serves c.args.link.now) c.now-now.result r.0 c.in-Full.size c.in-Full.length (claimed_as g.K.Keeper.keeper c.args.room.now c.claim.new.self b r.0 c.names.result.now (g.L.Link.link.serves c.args.link.now) c.now-now.result c.claim.result (claims.Claimed.Full c.in-Full.size c.in-Full.length) c.names.ensures c.in-Full.is (r.1 b is)))

pub returns-in-Full-clause-serves : goal.returns-in-Full-clause-serves
returns-in-Full-clause-serves g c = refl

pub returns-in-Memory-clause-turn : goal.returns-in-Memory-clause-turn
returns-in-Memory-clause-turn g c =
    let r = c.claim.ensures in
    let t : Turn = record { reading = c.now-now.result; claimed = claims.Claimed.Memory; exchange = Unsent } in (
      t,
      refl,
      (c.claim.new.self, r.0, [], λ b is. memory_turn g.K.Keeper.keeper c.args.room.now c.claim.new.self b (g.L.Link.link.serves c.args.link.now) c.now-now.result r.0 (claimed_as g.K.Keeper.keeper c.args.room.now c.claim.new.self b r.0 c.names.result.now (g.L.Link.link.serves c.args.link.now) c.now-now.result c.claim.result claims.Claimed.Memory c.names.ensures c.in-Memory.is (r.1 b is))),
      λ told. passes_none g.L.Link.link c.args.link.now told,
      λ told. record { tells = c.now-now.ensures.told told; gave = c.now-now.ensures.given told },
    )

pub returns-in-Memory-clause-link_faults : goal.returns-in-Memory-clause-link_faults
returns-in-Memory-clause-link_faults g c = refl

pub returns-in-Memory-clause-store_faults : goal.returns-in-Memory-clause-store_faults
returns-in-Memory-clause-store_faults g c =
    let r = c.claim.ensures in
    let b = c.requires.stands.0 in
    let is = c.requires.stands.1 in
    let t : Turn = record { reading = c.now-now.result; claimed = claims.Claimed.Memory; exchange = Unsent } in
    turn_counts g.K.Keeper.keeper c.args.room.now c.claim.new.self c.claim.new.self b (g.L.Link.link.serves c.args.link.now) t r.0 [] (memory_turn g.K.Keeper.keeper c.args.room.now c.claim.new.self b (g.L.Link.link.serves c.args.link.now) c.now-now.result r.0 (claimed_as g.K.Keeper.keeper c.args.room.now c.claim.new.self b r.0 c.names.result.now (g.L.Link.link.serves c.args.link.now) c.now-now.result c.claim.result claims.Claimed.Memory c.names.ensures c.in-Memory.is (r.1 b is)))

pub returns-in-Memory-clause-serves : goal.returns-in-Memory-clause-serves
returns-in-Memory-clause-serves g c = refl
