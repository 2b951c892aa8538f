use Rattle.std.proofs.Common.{sym, ap, ◌∙◌}
use Rattle.story_tables.specs.Ingests.{effect_of}
use Rattle.newsroom.proofs.Answering.{refuses, settles, accepts, next_legal}
use Rattle.newsroom.proofs.newsroom.Newsroom.decide_ingest.Goals as goal

pub returns-in-Some-clause-outcome : goal.returns-in-Some-clause-outcome
returns-in-Some-clause-outcome c h stands does =
    let name = c.args.provider.now in
    let come = c.args.come.now in
    let m = c.args.moment in
    refuses h name come m c.in-Some.denial (sym (c.ingest_denied.ensures h come m stands does) ∙ c.in-Some.is)

pub returns-in-Settled-clause-outcome : goal.returns-in-Settled-clause-outcome
returns-in-Settled-clause-outcome c h stands does =
    let name = c.args.provider.now in
    let come = c.args.come.now in
    let m = c.args.moment in
    settles h name come m c.in-Settled.item c.unkept.result (sym (c.ingest_denied.ensures h come m stands does) ∙ c.in_default.is) (sym does ∙ ap effect_of c.in-Settled.is) c.unkept.ensures

pub returns-in-Ok : goal.returns-in-Ok
returns-in-Ok c =
    let name = c.args.provider.now in
    let come = c.args.come.now in
    let m = c.args.moment in
    let e = c.args.effect.now in
    record {
      outcome = λ h stands does. accepts h name come m e does c.in_default-effect.not-Settled (sym (c.ingest_denied.ensures h come m stands does) ∙ c.in_default.is);
      stays = c.take_ingest_memory.ensures.stays;
      store = c.take_ingest_memory.ensures.store;
      memory = record { room = c.in-Ok.ensures.room };
      change = λ h stands later does. record {
        act = c.in-Ok.ensures.change h stands (next_legal h name come m e does c.in_default-effect.not-Settled (sym (c.ingest_denied.ensures h come m stands does) ∙ c.in_default.is) stands.legal later) does;
      };
    }
