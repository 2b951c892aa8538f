-- What an entry says of the publication that it made.
use Rattle.std.proofs.Common.{◌≡◌, ℕ, true, false, List, [], Option, Some, None, refl, sym, ap, ◌∙◌}
use Rattle.std.specs.Prelude.{IfOk, Result, Ok, Err, option_map}
use Rattle.news_types.specs.declared.entry.Act.{Act}
use Rattle.news_types.specs.declared.entry.Act.TheVariants as act
use Rattle.news_types.specs.declared.command.Command.{Command}
use Rattle.news_types.specs.declared.command.Command.TheVariants as command
use Rattle.news_types.specs.declared.words.Kind.{Kind}
use Rattle.news_types.specs.declared.words.Kind.TheVariants as kind
use Rattle.news_types.specs.declared.story.Story.{Story}
use Rattle.news_types.specs.declared.story.Incoming.{Incoming}
use Rattle.news_types.specs.Names.{Bytes}
use Rattle.news_types.specs.History.{History}
use Rattle.news_types.specs.Due.{Pub}
use Rattle.news_types.specs.Items.{Item, Made, Effect, New, NewAt, Replaces, Cancels, Settled, made_by, effect_by}
use Rattle.news_types.specs.Publications.{Issue, made, standing, issued_by, issued_by_command, issued_by_effect}
use Rattle.feed_reasons.specs.Reasons.{had_before}
use Rattle.story_tables.specs.Issued.{issue_of, issued_of, is_reached}
use Rattle.story_tables.specs.declared.issue.Issue as code
use Rattle.list_runs.specs.Making.{IsMade, terms_of}
use Rattle.list_runs.specs.declared.terms.Terms.{Terms}

some_issue : (a b : Issue) → Some a ≡ Some b → a ≡ b
some_issue a b is = cc

none_some : (a : Issue) → None ≡ Some a → ⊥
none_some a is = absurd cc

-- those of the issue
abbrev terms_by : History → Bytes → Issue → Terms
terms_by g s issue = record { targets = issue.targets; had = had_before g issue.kind issue.item issue.release s }

pub by_issue : (g : History) (s : Bytes) (m : ℕ) (a : Act) (p : Pub) → (is : IsMade g m a p) → terms_of g s p ≡ terms_by g s is.issue
by_issue g s m a p is = ap (terms_of g s) is.is

-- of a first publication
abbrev pub with_targets : List Bytes → Terms
with_targets targets = record { targets = targets; had = false }

-- ---- an ingest

first_by : (g : History) (s : Bytes) (w : Made) (m : ℕ) (name : Bytes) (come : Incoming) (how : Effect) (issue : Issue) → issued_by_effect w m name come how ≡ Some issue
    → terms_by g s issue ≡ record { targets = []; had = false }
first_by g s w m name come (NewAt place true) issue is = sym (ap (terms_by g s) (some_issue _ issue is))
first_by g s w m name come (NewAt place false) issue is = absurd (none_some issue is)
first_by g s w m name come New issue is = absurd (none_some issue is)
first_by g s w m name come (Replaces i) issue is = absurd (none_some issue is)
first_by g s w m name come (Cancels i) issue is = absurd (none_some issue is)
first_by g s w m name come (Settled i) issue is = absurd (none_some issue is)

by_act : (g : History) (s : Bytes) (m : ℕ) (a : Act) (issue : Issue) → ((caller : Bytes) (number : ℕ) (c : Command) → a ≡ act.Request caller number c → ⊥) → issued_by g (made g) m a ≡ Some issue
    → terms_by g s issue ≡ record { targets = []; had = false }
by_act g s m (act.Request caller number c) issue not is = absurd (not caller number c refl)
by_act g s m (act.Ingest name come) issue not is = first_by g s (made g) m name come (effect_by g (made g) name come m) issue is
by_act g s m act.Advance issue not is = absurd (none_some issue is)
by_act g s m (act.Attempt name k) issue not is = absurd (none_some issue is)
by_act g s m (act.Receipt name n) issue not is = absurd (none_some issue is)
by_act g s m act.Halt issue not is = absurd (none_some issue is)

-- of an act that is no request
pub plain_terms : (g : History) (s : Bytes) (m : ℕ) (a : Act) (p : Pub) → ((caller : Bytes) (number : ℕ) (c : Command) → a ≡ act.Request caller number c → ⊥) → IsMade g m a p
    → terms_of g s p ≡ record { targets = []; had = false }
plain_terms g s m a p not is = by_issue g s m a p is ∙ by_act g s m a is.issue not is.issued

-- ---- a flash

pub flash_terms : (g : History) (s : Bytes) (m : ℕ) (caller : Bytes) (number : ℕ) (story : Story) (targets : List Bytes) (p : Pub) → IsMade g m (act.Request caller number (command.Flash story targets)) p
    → terms_of g s p ≡ record { targets = targets; had = false }
flash_terms g s m caller number story targets p is =
    by_issue g s m (act.Request caller number (command.Flash story targets)) p is ∙ sym (ap (terms_by g s) (some_issue _ is.issue is.issued))

-- ---- what follows an item that is there

-- a command that publishes and is no flash makes no item
pub makes_none : (w : Made) (m : ℕ) (caller : Bytes) (c : Command) (issue : Issue) → ((story : Story) (targets : List Bytes) → c ≡ command.Flash story targets → ⊥)
    → issued_by_command w m caller c ≡ Some issue → made_by c ≡ None
makes_none w m caller (command.Flash story targets) issue not is = absurd (not story targets refl)
makes_none w m caller (command.Publish i session schedule embargo targets) issue not is = refl
makes_none w m caller (command.Correct i session story) issue not is = refl
makes_none w m caller (command.Kill i session note) issue not is = refl
makes_none w m caller (command.Recall i session note) issue not is = refl
makes_none w m caller _ issue not is = absurd (none_some issue is)

by_after : (what : Issue) (it : Item) (o : Option Item) → what.after ≡ Some it → issued_of (Some what) ≡ Some (issue_of what it)
by_after what it o after = ap (λ (x : Option Item). option_map (issue_of what) x) after

-- what the tables say that a command publishes
pub issued_terms : (g : History) (s : Bytes) (m : ℕ) (caller : Bytes) (number : ℕ) (c : Command) (p : Pub) (issue : code.Issue) → IsMade g m (act.Request caller number c) p
    → Some issue ≡ issued_of (issued_by_command (made g) m caller c) → terms_of g s p ≡ record { targets = issue.targets; had = had_before g issue.kind issue.item issue.release s }
issued_terms g s m caller number c p issue is told =
    by_issue g s m (act.Request caller number c) p is ∙ ap seen (sym same)
  where
    seen : code.Issue → Terms
    seen i = record { targets = i.targets; had = had_before g i.kind i.item i.release s }

    some_code : (a b : code.Issue) → Some a ≡ Some b → a ≡ b
    some_code a b eq = cc

    same : issue ≡ issue_of is.issue is.item
    same = some_code issue (issue_of is.issue is.item) (told ∙ ap issued_of is.issued ∙ by_after is.issue is.item is.issue.after is.after)

-- whom it reaches whatever is permitted, are those who had something before
pub reached_had : (g : History) (k : Kind) (i release : ℕ) (s : Bytes) → (k ≡ kind.First → ⊥) → is_reached (standing g) k i release s ≡ had_before g k i release s
reached_had g kind.First i release s not = absurd (not refl)
reached_had g kind.Correct i release s not = refl
reached_had g kind.Kill i release s not = refl
reached_had g kind.Recall i release s not = refl

-- ---- what is answered, if something is

pub then_ok : {T E : Type 0} (P Q : T → Type 0) (r : Result T E) → IfOk r P → ((x : T) → P x → Q x) → IfOk r Q
then_ok P Q (Ok x) is more = more x is
then_ok P Q (Err e) is more = tt
