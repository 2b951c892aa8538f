-- Why a publication is due to a subscriber or not, and what becomes of it.
use Rattle.std.specs.Prelude.{ℕ, Bool, false, ◌||◌, nat_lt, [], ◌∷◌, length, if◌then◌else◌, Option, Some, None, option_map}
use Rattle.news_types.specs.declared.words.Kind.{Kind}
use Rattle.news_types.specs.declared.words.Kind.TheVariants.{First, Correct, Kill, Recall}
use Rattle.news_types.specs.Names.{Bytes}
use Rattle.news_types.specs.History.{History}
use Rattle.news_types.specs.Due.{Pub, had, had_by}
use Rattle.news_types.specs.Items.{Item}
use Rattle.news_types.specs.Publications.{pubs, standing, item}
use Rattle.feed_reasons.specs.declared.verdict.Verdict.{Verdict}
use Rattle.feed_reasons.specs.Verdicts.{verdict, says_permitted}
use Rattle.feed_reasons.specs.declared.course.Course.{Course}
use Rattle.feed_reasons.specs.Courses.{course, numbered}

-- the list behind which publication n was made
abbrev pub made_behind : ℕ → History → History
made_behind n [] = []
made_behind n (e ∷ h) = if nat_lt (length (pubs h)) n then h else made_behind n h

-- of a publication: what the rules of its time said of its story, whether something of its item was due to the subscriber
-- before, and its course
pub record Reasons : Type 0 where
  pub kind : Kind
  pub verdict : Verdict
  pub had : Bool
  pub course : Course

-- something of the item that stands was due to the subscriber before: for a correction whatever its release, for a kill or a
-- recall only what is released by theirs. It is not asked of a first publication
abbrev pub had_before : History → Kind → ℕ → ℕ → Bytes → Bool
had_before g First i release s = false
had_before g Correct i release s = had (standing g) i s
had_before g Kill i release s = had_by release (standing g) i s
had_before g Recall i release s = had_by release (standing g) i s

abbrev pub reasons_of : History → History → Bytes → Pub → Reasons
reasons_of h g s p = record { kind = p.kind; verdict = verdict g p.story p.targets s; had = had_before g p.kind p.item p.release s; course = course h p.number s }

-- of publication n, if there is one
abbrev pub reasons : History → ℕ → Bytes → Option Reasons
reasons h n s = option_map (reasons_of h (made_behind n h) s) (numbered n (pubs h))

-- of an item as it now is, to no particular targets: what the rules say of its story
abbrev pub item_verdict : History → Bytes → Option Item → Option Verdict
item_verdict h s None = None
item_verdict h s (Some it) = Some (verdict h it.story [] s)

abbrev pub verdict_on : History → ℕ → Bytes → Option Verdict
verdict_on h i s = item_verdict h s (item h i)

-- the reasons say that it is due
abbrev pub says_due : Reasons → Bool
says_due r = by_kind r.kind
  where
    by_kind : Kind → Bool
    by_kind First = says_permitted r.verdict
    by_kind Correct = says_permitted r.verdict || r.had
    by_kind Kill = r.had
    by_kind Recall = r.had
