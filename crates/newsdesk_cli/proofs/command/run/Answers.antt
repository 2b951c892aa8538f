use Rattle.std.proofs.Common.{◌≡◌, ◌∙◌, sym, refl, subst, None, Some}
use Rattle.command_words.specs.Words.{job_of}
use Rattle.newsdesk_cli.specs.Command.{UsesLinks}
use Rattle.newsdesk_cli.proofs.Serving.{serves}
use Rattle.newsdesk_cli.proofs.command.run.Goals as goal

pub returns-in_default-clause-does : goal.returns-in_default-clause-does
returns-in_default-clause-does g c =
    let none : job_of c.args.words.now ≡ None = sym c.read_words.ensures ∙ c.in_default.is in
    rw none (record { input_same = refl; clock_same = refl }, record { same = refl; same_side = refl; refused = c.tell_usage.ensures })

pub returns-in_default-clause-links : goal.returns-in_default-clause-links
returns-in_default-clause-links g c other = refl

pub returns-in_default-clause-serves : goal.returns-in_default-clause-serves
returns-in_default-clause-serves g c told told' store h long opens =
    let none : job_of c.args.words.now ≡ None = sym c.read_words.ensures ∙ c.in_default.is in
    rw none tt

pub returns-clause-serves : goal.returns-clause-serves
returns-clause-serves g c told told' store h long opens =
    let some : job_of c.args.words.now ≡ Some c.in-Some.job = sym c.read_words.ensures ∙ c.in-Some.is in
    rw some (serves g.D.Disk.disk g.C.Clock.clock g.S.Source.source g.O.Sink.sink _ _ _ _ _ _ _ _ _ _ _ told told' store h long opens g.L.Link.link _ _ (Some c.in-Some.job) c.do_job.ensures.does)

pub returns-clause-does : goal.returns-clause-does
returns-clause-does g c =
    let some : job_of c.args.words.now ≡ Some c.in-Some.job = sym c.read_words.ensures ∙ c.in-Some.is in
    rw some c.do_job.ensures.does

pub returns-clause-links : goal.returns-clause-links
returns-clause-links g c other =
    let some : job_of c.args.words.now ≡ Some c.in-Some.job = sym c.read_words.ensures ∙ c.in-Some.is in
    c.do_job.ensures.links (λ uses. other (subst UsesLinks (sym some) uses))

pub returns-in_default-clause-receives : goal.returns-in_default-clause-receives
returns-in_default-clause-receives g c told =
    let none : job_of c.args.words.now ≡ None = sym c.read_words.ensures ∙ c.in_default.is in
    rw none tt

pub returns-clause-receives : goal.returns-clause-receives
returns-clause-receives g c told =
    let some : job_of c.args.words.now ≡ Some c.in-Some.job = sym c.read_words.ensures ∙ c.in-Some.is in
    rw some (c.do_job.ensures.receives told)

pub returns-in_default-clause-stands_in : goal.returns-in_default-clause-stands_in
returns-in_default-clause-stands_in g c told told' =
    let none : job_of c.args.words.now ≡ None = sym c.read_words.ensures ∙ c.in_default.is in
    rw none tt

pub returns-clause-stands_in : goal.returns-clause-stands_in
returns-clause-stands_in g c told told' =
    let some : job_of c.args.words.now ≡ Some c.in-Some.job = sym c.read_words.ensures ∙ c.in-Some.is in
    rw some (c.do_job.ensures.stands_in told told')
