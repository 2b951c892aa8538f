use Rattle.std.specs.Prelude.{codes}
use Rattle.std.proofs.Common.{◌∙◌}
use Rattle.std.proofs.lemmas.Result.{IfOk-weaker}
use Rattle.told_entries.proofs.Sets.{put_one, privileges_listed}
use Rattle.told_entries.proofs.objects.privileges.Goals as goal

pub returns : goal.returns
returns c =
    let users = put_one (codes "users") c.in_ok-text_if.ensures c.has.ensures c.new.ensures in
    let desks = put_one (codes "desks") c.in_ok-text_if-2.ensures c.has-2.ensures users in
    let filters = put_one (codes "filters") c.in_ok-text_if-3.ensures c.has-3.ensures desks in
    let subscribers = put_one (codes "subscribers") c.in_ok-text_if-4.ensures c.has-4.ensures filters in
    let ingest = put_one (codes "ingest") c.in_ok-text_if-5.ensures c.has-5.ensures subscribers in
    let write = put_one (codes "write") c.in_ok-text_if-6.ensures c.has-6.ensures ingest in
    let publish = put_one (codes "publish") c.in_ok-text_if-7.ensures c.has-7.ensures write in
    let kill = put_one (codes "kill") c.in_ok-text_if-8.ensures c.has-8.ensures publish in
    let unlock = put_one (codes "unlock") c.in_ok-text_if-9.ensures c.has-9.ensures kill in
    IfOk-weaker c.text_if-10.result _ _ (λ list h. put_one (codes "stop") h c.has-10.ensures unlock ∙ privileges_listed c.args.set) c.text_if-10.ensures
