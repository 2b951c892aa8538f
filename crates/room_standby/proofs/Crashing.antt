-- What a crash leaves of a standby's keeper, at any moment of a call.
use Rattle.std.proofs.Common.{inl, inr, ⊎_elim, List, Option, subst}
use Rattle.news_types.specs.Names.{Bytes}
use Rattle.news_types.specs.Server.{Server}
use Rattle.news_io.specs.Keeper.{KeeperMeaning, KeeperGains, BeforeOrAfter, Leaves}
use Rattle.news_io.proofs.Runs.{elapses_same, elapses_weaker}
use Rattle.entry_codec.specs.Spelling.{entry_bytes}
use Rattle.standby_laws.specs.Law.{IsStop}
use Rattle.standby_laws.proofs.Stops.{stops_are_events}
use Rattle.room_standby.specs.Holds.{Keeps}
use Rattle.room_standby.specs.Comes.{IsStopOfEither}

module _ {K : Type 0} (keeper : KeeperMeaning K) where
  stops : (k : K) (s : Server) → Keeps keeper k s → (found : Option (List Bytes)) → Leaves (keeper.list k) (keeper.doubts k) found
      → IsStop entry_bytes s found
  stops k s keeps found left =
      stops_are_events keeper entry_bytes s k found keeps.doubts
      (subst (λ (list : List Bytes). Leaves list (keeper.doubts k) found) keeps.is left)

  -- the calls of the keeper leave what stops before them leave, or stops behind them
  pub gains_stops : (old new : K) (s s' : Server) → Keeps keeper old s → Keeps keeper new s'
      → KeeperGains keeper old new (BeforeOrAfter (keeper.list old) (keeper.doubts old) (keeper.list new) (keeper.doubts new))
      → KeeperGains keeper old new (IsStopOfEither s s')
  gains_stops old new s s' before after gains =
      elapses_weaker (keeper.moment old) (keeper.moment new) (keeper.left_since old) (keeper.left_since new)
      (BeforeOrAfter (keeper.list old) (keeper.doubts old) (keeper.list new) (keeper.doubts new)) (IsStopOfEither s s') gains
      (λ found left. ⊎_elim (λ was. inl (stops old s before found was)) (λ now. inr (stops new s' after found now)) left)

  -- no call leaves no more
  pub gains_none : (k : K) → KeeperGains keeper k k (BeforeOrAfter (keeper.list k) (keeper.doubts k) (keeper.list k) (keeper.doubts k))
  gains_none k = elapses_same (keeper.moment k) (keeper.left_since k) (BeforeOrAfter (keeper.list k) (keeper.doubts k) (keeper.list k) (keeper.doubts k))
