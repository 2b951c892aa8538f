use Rattle.std.proofs.Common.{◌-◌, length, refl}
use Rattle.archive_query.proofs.Mending.{put_back}
use Rattle.archive_query.proofs.near.mend.Goals as goal

pub loop-rest-preserved : goal.loop-rest-preserved
loop-rest-preserved c = (
  c.mend_front-rest.utf8,
  put_back c.args.text.now c.loop-rest.into c.loop-rest.rest.now c.mend_front-rest.new.into c.mend_front-rest.result.now (length c.args.text.now - length c.loop-rest.rest.now) refl
      c.loop-rest.invariant.1 c.mend_front-rest.ensures,
)
