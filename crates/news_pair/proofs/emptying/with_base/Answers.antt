use Rattle.std.proofs.Common.{◌∙◌, ℕ, List, ap}
use borrow.Rule.Slice.PartMut.{put_mid}
use Rattle.news_pair.specs.Pair.{six}
use Rattle.news_pair.proofs.Emptied.{head_with}
use Rattle.news_pair.proofs.emptying.with_base.Goals as goal

pub returns : goal.returns
returns c = λ edition b store long is.
    ap (λ (l : List ℕ). put_mid 10 6 c.args.head.now l) (c.copy_from_slice.ensures.after ∙ c.six_bytes.ensures) ∙ head_with edition b store (six c.args.base) c.args.head.now long is
