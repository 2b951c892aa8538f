-- Calls on a pair, one behind the other.
use Rattle.std.proofs.Common.{◌≡◌, List, sym, subst}
use Rattle.news_types.specs.Names.{Bytes}
use Rattle.news_io.specs.Disk.{DiskMeaning}
use Rattle.news_pair.specs.Stands.{LogStays, SideStays}
use Rattle.news_pair.specs.Steps.{Stays}
use Rattle.news_pair.specs.Steps.Stays.{as_they_are, side_written, log_written}

module _ {D : Type 0} (disk : DiskMeaning D) (store : Bytes) (h : List Bytes) where
  joined : (l s l1 s1 l2 s2 : D) → Stays disk store h l s l1 s1 → Stays disk store h l1 s1 l2 s2 → Stays disk store h l s l2 s2
  joined l s l1 s1 l2 s2 a as_they_are = a
  joined l s l1 s1 l2 s2 a (side_written b step) = side_written (joined l s l1 s1 _ _ a b) step
  joined l s l1 s1 l2 s2 a (log_written b step) = log_written (joined l s l1 s1 _ _ a b) step

  -- behind one run of calls another one, on the pair that it left
  pub stays_then : (store' : Bytes) (l s l1 s1 l2 s2 : D) → store' ≡ store → Stays disk store h l s l1 s1 → Stays disk store' h l1 s1 l2 s2 → Stays disk store h l s l2 s2
  stays_then store' l s l1 s1 l2 s2 same a b = joined l s l1 s1 l2 s2 a (subst (λ (u : Bytes). Stays disk u h l1 s1 l2 s2) same b)

  -- one call
  pub side_stays : (l s s' l' : D) → l' ≡ l → SideStays disk store h l s s' → Stays disk store h l s l' s'
  side_stays l s s' l' same step = subst (λ (x : D). Stays disk store h l s x s') (sym same) (side_written as_they_are step)

  pub log_stays : (l s l' s' : D) → s' ≡ s → LogStays disk store h s l l' → Stays disk store h l s l' s'
  log_stays l s l' s' same step = subst (λ (x : D). Stays disk store h l s l' x) (sym same) (log_written as_they_are step)

  -- none
  pub as_was : (l s l' : D) → l' ≡ l → Stays disk store h l s l' s
  as_was l s l' same = subst (λ (x : D). Stays disk store h l s x s) (sym same) as_they_are
