use Rattle.std.proofs.Common.{inl, inr, ⊎_elim}
use Rattle.news_pair.specs.Law.{pair_leaves}
use Rattle.news_pair.proofs.Pairing.{lift_pair, follows_pushed, follows_same, pairs_log}
use Rattle.news_pair.proofs.keeping.PairKeeper.append.Goals as goal

pub returns-in_err-add-clause-crash : goal.returns-in_err-add-clause-crash
returns-in_err-add-clause-crash g c = λ pairs.
    let follows = follows_same _ _ _ _ pairs.follows (c.in_err-add.ensures.same pairs.log_is) in
    let leaves = pair_leaves g.D.Disk.disk c.args.self.now _ pairs in
    lift_pair g.D.Disk.disk c.args.self.now.store c.args.self.now.log.disk c.add.new.self.disk c.args.self.now.side _ _ _ _ (c.add.ensures.crash pairs.log_is)
    (λ f s either left found finds. ⊎_elim (λ before. inl (leaves _ _ _ pairs.follows f s left before found finds)) (λ after. inr (leaves _ _ _ follows f s left after found finds)) either)

-- the record is kept
pub returns-clause-told : goal.returns-clause-told
returns-clause-told g c = λ pairs.
    pairs_log g.D.Disk.disk c.args.self.now.log _ _ _ _ _ _ _ _ pairs c.add.ensures.head (c.add.ensures.told pairs.log_is)
    (follows_pushed _ _ _ _ _ pairs.follows (c.in_ok-add.ensures.kept pairs.log_is))

pub returns-clause-crash : goal.returns-clause-crash
returns-clause-crash g c = λ pairs.
    let follows = follows_pushed _ _ _ _ _ pairs.follows (c.in_ok-add.ensures.kept pairs.log_is) in
    let leaves = pair_leaves g.D.Disk.disk c.args.self.now _ pairs in
    lift_pair g.D.Disk.disk c.args.self.now.store c.args.self.now.log.disk c.add.new.self.disk c.args.self.now.side _ _ _ _ (c.add.ensures.crash pairs.log_is)
    (λ f s either left found finds. ⊎_elim (λ before. inl (leaves _ _ _ pairs.follows f s left before found finds)) (λ after. inr (leaves _ _ _ follows f s left after found finds)) either)
