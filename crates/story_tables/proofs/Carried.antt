-- Feeds of lists whose facts agree.
use Rattle.std.proofs.Common.{◌≡◌, ℕ, zero, suc, ◌==◌, ◌&&◌, Bool, true, false, cond, List, [], ◌∷◌, length, Option, Some, None, refl, sym, ap, subst, arith}
use Rattle.std.specs.Prelude.{nat_lt}
use Rattle.std.specs.Option.{option_map}
use Rattle.std.specs.List.{slice_get}
use Rattle.std.proofs.lemmas.Bool.Decides.{nat_tests}
use Rattle.news_types.specs.Names.{Bytes}
use Rattle.news_types.specs.Due.{Pub}
use Rattle.news_types.specs.History.{History}
use Rattle.news_types.specs.Delivery.{pauses, is_paused, acked, tries}
use Rattle.news_types.specs.Feeds.{Dispatch, feed}
use Rattle.publish_queue.specs.declared.queue.Queue.{Queue}
use Rattle.publish_queue.specs.Keeps.{Facts, Keeps}
use Rattle.publications.specs.declared.table.FirstFacts.{FirstFacts}
use Rattle.publications.specs.Keeps.{facts_of}
use Rattle.news_types.specs.Due.{release_of}
use Rattle.news_types.proofs.Members.{some_is, none_some}
use Rattle.story_tables.specs.Keeps.{facts_at}
use Rattle.story_tables.specs.Asked.{pauses_at}

-- a queue keeps facts that agree with those that it keeps
pub alike : (q : Queue) (f g : Facts) → g.names ≡ f.names → g.publications ≡ f.publications → ((s : Bytes) → g.acked s ≡ f.acked s) → ((s : Bytes) → g.tries s ≡ f.tries s) → ((s : Bytes) → g.tried s ≡ f.tried s)
    → Keeps q f → Keeps q (record g { moment = f.moment })
alike q f g names stands receipts attempts last keeps =
    let same_facts : f ≡ record g { moment = f.moment } = λ i. record {
      names = sym names i;
      publications = sym stands i;
      moment = f.moment;
      acked = λ s. sym (receipts s) i;
      tries = λ s. sym (attempts s) i;
      tried = λ s. sym (last s) i;
    } in
    subst (Keeps q) same_facts keeps

less_zero : (n : ℕ) → nat_lt 0 (suc n) ≡ true
less_zero n = grind (arith, nat_tests)

less_suc : (k n : ℕ) → nat_lt (suc k) (suc n) ≡ nat_lt k n
less_suc k n = grind (arith, nat_tests)

paused_list : (xs : List Dispatch) (k n : ℕ) → (nat_lt k (length xs) && (n == 10)) ≡ pauses (slice_get xs k) n
paused_list [] k n = let no : nat_lt k 0 ≡ false = grind (arith, nat_tests) in rw no refl
paused_list (x ∷ xs) zero n = rw (less_zero (length xs)) refl
paused_list (x ∷ xs) (suc k) n = rw (less_suc k (length xs)) (paused_list xs k n)

pub paused_told : (h : History) (s : Bytes) (b : Bool) → option_map pauses_at (cond b (Some (facts_at h s)) None) ≡ cond b (Some (is_paused h s)) None
paused_told h s true = ap Some (paused_list (feed h s) (acked h s) (tries h s))
paused_told h s false = refl

-- the release of a first publication of which this is told
pub release_told : (o : Option Pub) (f : FirstFacts) → Some f ≡ option_map facts_of o → f.release ≡ release_of o
release_told None f is = absurd (none_some f (sym is))
release_told (Some p) f is = ap (λ (g : FirstFacts). g.release) (some_is f (facts_of p) is)

pub release_untold : (o : Option Pub) → None ≡ option_map facts_of o → 0 ≡ release_of o
release_untold None is = refl
release_untold (Some p) is = absurd (none_some (facts_of p) is)
