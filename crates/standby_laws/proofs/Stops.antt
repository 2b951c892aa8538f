-- What a crash leaves is what a stop leaves.
use Rattle.std.proofs.Common.{inl, inr, [], ◌∷◌, ◌++◌, Option, Some, None, sym, ap, ◌∙◌}
use Rattle.news_types.specs.declared.entry.Entry.{Entry}
use Rattle.news_types.specs.Names.{Bytes}
use Rattle.news_types.specs.Doubt.{payloads}
use Rattle.news_types.proofs.Doubt.{place_in}
use Rattle.news_io.specs.Keeper.{KeeperMeaning}
use Rattle.standby_laws.specs.Standby.{restarted}
use Rattle.standby_laws.specs.Law.{StopsAreEvents}

pub stops_are_events : {K : Type 0} (keeper : KeeperMeaning K) → StopsAreEvents keeper
stops_are_events keeper spelled s k found within (inl is) = (None, is)
stops_are_events keeper spelled s k found within (inr left) =
    let place = place_in spelled s.doubt left.0 (within left.0 left.1) in (
      Some place.0,
      left.2 ∙ ap (λ (x : Bytes). Some (payloads spelled s.list ++ x ∷ [])) place.3
          ∙ sym (ap (λ (e : Option Entry). Some (payloads spelled (restarted s e).list)) place.2),
    )
