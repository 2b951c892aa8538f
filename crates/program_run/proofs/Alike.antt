-- Lists to which files open, and files that open alike.
use Rattle.std.proofs.Common.{◌≡◌, ℕ, List, length, Option, subst}
use Rattle.news_types.specs.Names.{Bytes}
use Rattle.news_types.specs.History.{History}
use Rattle.byte_formats.specs.Lawful.{IsBytes}
use Rattle.news_io.specs.Outside.{Files}
use Rattle.news_pair.specs.Pair.{PairFinds}
use Rattle.news_pair.specs.Law.{finds_one}
use Rattle.store_files.specs.Store as store
use Rattle.store_files.specs.Files as files
use Rattle.program_run.specs.Opens.{Opens, OpenTo, AreBytes, HoldsWith, OpenAlike, payloads}
use Rattle.program_run.proofs.Opening.{holds_so, opens_so}

module _ (id : Bytes) (long : length id ≡ 16) where
  pub opens_as : (log side : List ℕ) (list : History) → IsBytes side → store.Opens log side id list → Opens log side id list
  opens_as log side list ib o = record { holds = holds_so id long log side (payloads list) ib o.pair; stored = o.kept }

  pub opened_as : (log side : List ℕ) (list : History) → Opens log side id list → store.Opens log side id list
  opened_as log side list o = record { pair = opens_so id long log side (payloads list) o.holds; kept = o.stored }

  pub new_opens : (found : Files) (list : History) → AreBytes found → files.OpenTo id found list → OpenTo id found list
  new_opens found list bytes o = opens_as found.0 found.1 list bytes.1 o

  pub old_opens : (found : Files) (list : History) → OpenTo id found list → files.OpenTo id found list
  old_opens found list o = opened_as found.0 found.1 list o

  holds_with : (from to : Files) (found : Option (List Bytes)) → PairFinds id from.0 from.1 found → PairFinds id to.0 to.1 found → HoldsWith id from to
  holds_with from to found finds finds' = λ all bytes holds.
      let is = finds_one id from.0 from.1 all found (opens_so id long from.0 from.1 all holds) finds in
      holds_so id long to.0 to.1 all bytes.1 (subst (PairFinds id to.0 to.1) is finds')

  pub alike_found : (one other : Files) (found : Option (List Bytes)) → PairFinds id one.0 one.1 found → PairFinds id other.0 other.1 found → OpenAlike id one other
  alike_found one other found finds finds' = (holds_with one other found finds finds', holds_with other one found finds' finds)

  pub alike : (one other : Files) → files.OpenAlike id one other → OpenAlike id one other
  alike one other both = alike_found one other both.0 both.1 both.2
