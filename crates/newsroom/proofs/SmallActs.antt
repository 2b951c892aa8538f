-- The newsroom behind the server's own acts.
use Rattle.std.proofs.Common.{◌≡◌, ℕ, ◌+◌, ◌<◌, ◌≤◌, ◌==◌, ◌&&◌, Bool, true, false, cond, Some, None, ◌∷◌, length, refl, sym, ap, ◌∙◌, arith}
use Rattle.std.specs.Prelude.{nat_lt, nat_le}
use Rattle.std.proofs.lemmas.Bool.{false≢true, eqb-true, eq-eqb, leb-true, ltb-true}
use Rattle.std.proofs.lemmas.Bool.Decides.{nat_tests}
use Rattle.news_types.specs.declared.entry.Act.{Act}
use Rattle.news_types.specs.declared.entry.Act.TheVariants.{Advance, Attempt, Receipt, Halt}
use Rattle.news_types.specs.Names.{Bytes, is_in}
use Rattle.news_types.specs.History.{History, moment, last, last_stop, is_stop}
use Rattle.news_types.specs.Products.{subscribers, is_subscriber}
use Rattle.news_types.specs.Feeds.{feed}
use Rattle.news_types.specs.Delivery.{acked, is_ready}
use Rattle.news_types.specs.Legal.{IsLegal, Follows}
use Rattle.news_types.specs.Outcome.{last_reply, entry_of}
use Rattle.news_types.proofs.Subscribed.{listed_is, absent_feed}
use Rattle.news_types.proofs.Delivered.{absent_acked}
use Rattle.rule_tables.specs.declared.rules.Rules.{Rules}
use Rattle.rule_tables.specs.Keeps.{KeepsRules}
use Rattle.story_tables.specs.Keeps.{KeepsStories, facts_at}
use Rattle.desk_records.specs.Dues.{KeepsDues}
use Rattle.desk_records.specs.Wires.{KeepsWires}
use Rattle.newsroom.specs.declared.newsroom.Newsroom.{Newsroom}
use Rattle.newsroom.specs.Callers.{Remembers}
use Rattle.newsroom.specs.Stands.{StandsFor}
use Rattle.newsroom.specs.Acts.{IsSmall, follows_at, may_follow, raises_by}
use Rattle.newsroom.proofs.Recorded.{dues_kept, wires_kept}

rules_kept : (r : Rules) (h : History) (act : Act) (m : ℕ) → IsSmall act → KeepsRules r h → KeepsRules r (entry_of m act ∷ h)
rules_kept r h Advance m small keeps = record { desks = keeps.desks; filters = keeps.filters; products = keeps.products; sources = keeps.sources; rolls = keeps.rolls }
rules_kept r h (Attempt s k) m small keeps = record { desks = keeps.desks; filters = keeps.filters; products = keeps.products; sources = keeps.sources; rolls = keeps.rolls }
rules_kept r h (Receipt s n) m small keeps = record { desks = keeps.desks; filters = keeps.filters; products = keeps.products; sources = keeps.sources; rolls = keeps.rolls }
rules_kept r h Halt m small keeps = record { desks = keeps.desks; filters = keeps.filters; products = keeps.products; sources = keeps.sources; rolls = keeps.rolls }
rules_kept r h _ m small keeps = absurd small

stop_behind : (h : History) (act : Act) (m : ℕ) → last_stop (entry_of m act ∷ h) ≡ cond (is_stop act) (length h + 1) (last_stop h)
stop_behind h act m = refl

module _ (n r : Newsroom) (h : History) (m : ℕ) (stands : StandsFor n h) (entries : r.entries ≡ n.entries + 1) (at : r.moment ≡ m) (callers : Remembers r.callers (last h) (last_reply h)) (rules : KeepsRules r.rules h) (dues : KeepsDues r.dues h) (wires : KeepsWires r.wires h) where
  pub small_kept : (act : Act) → IsSmall act → IsLegal (entry_of m act ∷ h) → r.last_stop ≡ last_stop (entry_of m act ∷ h) → KeepsStories r.stories (entry_of m act ∷ h) → StandsFor r (entry_of m act ∷ h)
  small_kept Advance small legal stop stories = record { legal = legal; entries = omega (arith, entries, stands.entries); at = at; stop = stop; callers = callers; rules = rules_kept r.rules h Advance m tt rules; stories = stories; dues = dues_kept r.dues h Advance m tt dues; wires = wires_kept r.wires h Advance m tt wires }
  small_kept (Attempt s k) small legal stop stories = record { legal = legal; entries = omega (arith, entries, stands.entries); at = at; stop = stop; callers = callers; rules = rules_kept r.rules h (Attempt s k) m tt rules; stories = stories; dues = dues_kept r.dues h (Attempt s k) m tt dues; wires = wires_kept r.wires h (Attempt s k) m tt wires }
  small_kept (Receipt s k) small legal stop stories = record { legal = legal; entries = omega (arith, entries, stands.entries); at = at; stop = stop; callers = callers; rules = rules_kept r.rules h (Receipt s k) m tt rules; stories = stories; dues = dues_kept r.dues h (Receipt s k) m tt dues; wires = wires_kept r.wires h (Receipt s k) m tt wires }
  small_kept Halt small legal stop stories = record { legal = legal; entries = omega (arith, entries, stands.entries); at = at; stop = stop; callers = callers; rules = rules_kept r.rules h Halt m tt rules; stories = stories; dues = dues_kept r.dues h Halt m tt dues; wires = wires_kept r.wires h Halt m tt wires }
  small_kept _ small legal stop stories = absurd small

-- ---- when they may follow

both : (a b : Bool) → (a && b) ≡ true → (a ≡ true) × (b ≡ true)
both true b is = (refl, is)
both false b is = absurd (false≢true is)

and_true : (a b : Bool) → a ≡ true → b ≡ true → (a && b) ≡ true
and_true a b one two = rw (one, two) refl

le_is : (a b : ℕ) → a ≤ b → nat_le a b ≡ true
le_is a b le = grind (arith, nat_tests)

lt_is : (a b : ℕ) → a < b → nat_lt a b ≡ true
lt_is a b lt = grind (arith, nat_tests)

follows : (h : History) (act : Act) (m : ℕ) → follows_at h act m ≡ true → Follows h act m × IsSmall act
follows h Advance m is = (is, tt)
follows h (Attempt s k) m is = let parts = both (is_ready h s m) (k == acked h s + 1) is in ((parts.0, eqb-true k (acked h s + 1) parts.1), tt)
follows h (Receipt s n) m is = let parts = both (nat_lt (acked h s) n) (nat_le n (length (feed h s))) is in ((ltb-true (acked h s) n parts.0, leb-true n (length (feed h s)) parts.1), tt)
follows h Halt m is = (tt, tt)
follows h _ m is = absurd (false≢true is)

followed : (h : History) (act : Act) (m : ℕ) → IsSmall act → Follows h act m → follows_at h act m ≡ true
followed h Advance m small is = is
followed h (Attempt s k) m small is = and_true (is_ready h s m) (k == acked h s + 1) is.0 (eq-eqb k (acked h s + 1) is.1)
followed h (Receipt s n) m small is = and_true (nat_lt (acked h s) n) (nat_le n (length (feed h s))) (lt_is (acked h s) n is.0) (le_is n (length (feed h s)) is.1)
followed h Halt m small is = refl
followed h _ m small is = absurd small

pub lawful : (h : History) (act : Act) (m : ℕ) → IsLegal h → may_follow h act m ≡ true → IsLegal (entry_of m act ∷ h) × IsSmall act
lawful h act m legal may =
    let parts = both (nat_le (moment h) m) (follows_at h act m) may in
    let rest = follows h act m parts.1 in
    ((legal, leb-true (moment h) m parts.0, rest.0), rest.1)

pub exact : (h : History) (act : Act) (m : ℕ) → IsSmall act → IsLegal (entry_of m act ∷ h) → may_follow h act m ≡ true
exact h act m small legal = and_true (nat_le (moment h) m) (follows_at h act m) (le_is (moment h) m legal.1) (followed h act m small legal.2)

-- a receipt of one that is no subscriber raises nothing
none_raised : (n : ℕ) → false ≡ (nat_lt 0 n && nat_le n 0)
none_raised n = grind (arith, nat_tests)

raised_by : (h : History) (s : Bytes) (n : ℕ) → IsLegal h → (b : Bool) → is_subscriber h s ≡ b → raises_by (cond b (Some (facts_at h s)) None) n ≡ (nat_lt (acked h s) n && nat_le n (length (feed h s)))
raised_by h s n legal true is = refl
raised_by h s n legal false is = rw (absent_acked h s legal is, absent_feed h s is) (none_raised n)

pub raised : (h : History) (s : Bytes) (n : ℕ) → IsLegal h → raises_by (cond (is_in s (subscribers h)) (Some (facts_at h s)) None) n ≡ (nat_lt (acked h s) n && nat_le n (length (feed h s)))
raised h s n legal = raised_by h s n legal (is_in s (subscribers h)) (sym (listed_is h s))

-- a receipt that may follow is of a subscriber
pub receipt_known : (h : History) (s : Bytes) (n : ℕ) → acked h s < n → n ≤ length (feed h s) → is_in s (subscribers h) ≡ true
receipt_known h s n raises within = by (is_subscriber h s) refl
  where
    by : (b : Bool) → is_subscriber h s ≡ b → is_in s (subscribers h) ≡ true
    by true is = listed_is h s ∙ is
    by false is = absurd (omega (arith, raises, within, ap length (absent_feed h s is)))

pub both_is : (a b m : ℕ) (c d : Bool) → a ≡ b → c ≡ d → (nat_le a m && c) ≡ (nat_le b m && d)
both_is a b m c d one two = λ i. nat_le (one i) m && two i
