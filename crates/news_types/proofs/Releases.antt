-- Moments: what an entry publishes is released no earlier than the entry, and the moments of a legal list never fall.
use Rattle.std.proofs.Common.{ℕ, ◌≤◌, true, false, Option, Some, None, [], ◌∷◌, arith}
use Rattle.news_types.specs.declared.entry.Entry.{Entry}
use Rattle.news_types.specs.declared.entry.Act.{Act}
use Rattle.news_types.specs.declared.entry.Act.TheVariants.{Ingest, Request, Attempt}
use Rattle.news_types.specs.declared.command.Command.{Command}
use Rattle.news_types.specs.declared.command.Command.TheVariants.{Flash, Publish, Correct, Kill, Recall}
use Rattle.news_types.specs.declared.story.Incoming.{Incoming}
use Rattle.news_types.specs.Names.{Bytes, same}
use Rattle.news_types.specs.History.{History, moment}
use Rattle.news_types.specs.Due.{Pub}
use Rattle.news_types.specs.Items.{Item, Made, Effect, NewAt, effect_by}
use Rattle.news_types.specs.Publications.{Issue, made, issued_by, issued_by_command, issued_by_effect, pubs_of_issue, pubs_of_item}
use Rattle.news_types.specs.Delivery.{tried, tried_after}
use Rattle.news_types.specs.Legal.{IsLegal}
use Rattle.news_types.specs.Members.{Each}
use Rattle.news_types.proofs.Bounds.{new_pubs}
use Rattle.std.proofs.Common.{cond}

-- ---- releases

abbrev pub NotBefore : ℕ → Option Issue → Type 0
NotBefore m None = Unit {0}
NotBefore m (Some issue) = m ≤ issue.release

command_release : (w : Made) (m : ℕ) (caller : Bytes) (command : Command) → NotBefore m (issued_by_command w m caller command)
command_release w m caller (Flash story targets) = omega arith
command_release w m caller (Publish i session schedule embargo targets) = omega arith
command_release w m caller (Correct i session story) = omega arith
command_release w m caller (Kill i session note) = omega arith
command_release w m caller (Recall i session note) = omega arith
command_release w m caller _ = tt

effect_release : (w : Made) (m : ℕ) (name : Bytes) (come : Incoming) (effect : Effect) → NotBefore m (issued_by_effect w m name come effect)
effect_release w m name come (NewAt place true) = omega arith
effect_release w m name come _ = tt

pub act_release : (h : History) (w : Made) (m : ℕ) (act : Act) → NotBefore m (issued_by h w m act)
act_release h w m (Request caller number command) = command_release w m caller command
act_release h w m (Ingest name come) = effect_release w m name come (effect_by h w name come m)
act_release h w m _ = tt

item_release : (h : History) (w : Made) (m : ℕ) (issue : Issue) (o : Option Item) → m ≤ issue.release → Each (λ (p : Pub). m ≤ p.release) (pubs_of_item h w issue o)
item_release h w m issue None le = tt
item_release h w m issue (Some it) le = (le, tt)

issue_release : (h : History) (w : Made) (m : ℕ) (o : Option Issue) → NotBefore m o → Each (λ (p : Pub). m ≤ p.release) (pubs_of_issue h w o)
issue_release h w m None le = tt
issue_release h w m (Some issue) le = item_release h w m issue issue.after le

-- what an entry publishes is released at the entry's moment or later
pub new_releases : (e : Entry) (h : History) → Each (λ (p : Pub). e.moment ≤ p.release) (new_pubs e h)
new_releases e h = issue_release h (made h) e.moment (issued_by h (made h) e.moment e.act) (act_release h (made h) e.moment e.act)

-- ---- moments

-- no entry is later than the last one
abbrev pub UpTo : ℕ → History → Type 0
UpTo m [] = Unit {0}
UpTo m (e ∷ h) = (e.moment ≤ m) × UpTo m h

up_to_later : (a b : ℕ) (h : History) → a ≤ b → UpTo a h → UpTo b h
up_to_later a b [] le all = tt
up_to_later a b (e ∷ h) le all = (omega (arith, le, all.0), up_to_later a b h le all.1)

pub moments_rise : (h : History) → IsLegal h → UpTo (moment h) h
moments_rise [] legal = tt
moments_rise (e ∷ h) legal = (omega arith, up_to_later (moment h) e.moment h legal.1 (moments_rise h legal.0))

tried_by : (act : Act) (m n before : ℕ) (s : Bytes) → before ≤ n → n ≤ m → tried_after s act m before ≤ m
tried_by (Attempt t k) m n before s le later = elim (same t s) as (λ b. cond b m before ≤ m) [ true ↦ omega arith | false ↦ omega (arith, le, later) ]
tried_by _ m n before s le later = omega (arith, le, later)

-- the last attempt is no later than the last entry
pub tried_within : (h : History) (s : Bytes) → IsLegal h → tried h s ≤ moment h
tried_within [] s legal = omega arith
tried_within (e ∷ h) s legal = tried_by e.act e.moment (moment h) (tried h s) s (tried_within h s legal.0) legal.1
